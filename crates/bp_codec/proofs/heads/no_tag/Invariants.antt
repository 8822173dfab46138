use Rattle.std.proofs.Common.{◌≡◌, ◌<◌, take}
use Rattle.readers.specs.Reader.{Front}
use Rattle.readers.specs.Keys.{Keyed}
use Rattle.bp_codec.specs.Plan.{keys_in}
use Rattle.bp_codec.proofs.heads.no_tag.Given as goal

-- the bytes so far begin a tag, where there are some, and the cursor stays
abbrev pub invariant-loop-shared : goal.invariant-loop-shared
invariant-loop-shared l = record {
  begins : 0 < l.shared → Front (Keyed (keys_in 0 l.tags)) (take l.shared l.bytes);
  stays : l.rest.now ≡ l.bytes;
}
