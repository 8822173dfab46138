-- What an end wrote, and what is to go out of it, grow by the same bytes.
use Rattle.std.proofs.Common.{◌≡◌, sym, ap, ◌∙◌, ℕ, List, [], ◌++◌, append_assoc}
use Rattle.std.proofs.lemmas.List.{append-nil}

pub record Grows (stream longer output after : List ℕ) : Type 0 where
  pub bytes : List ℕ
  pub stream_is : longer ≡ stream ++ bytes
  pub output_is : after ≡ output ++ bytes

-- by none
pub grows_none : (stream longer output after : List ℕ) → longer ≡ stream → after ≡ output → Grows stream longer output after
grows_none stream longer output after same out =
    record { bytes = []; stream_is = same ∙ sym (append-nil stream); output_is = out ∙ sym (append-nil output) }

-- by some, and some more
pub grows_on : (stream mid longer output between after : List ℕ) → Grows stream mid output between → Grows mid longer between after → Grows stream longer output after
grows_on stream mid longer output between after one two = record {
  bytes = one.bytes ++ two.bytes;
  stream_is = two.stream_is ∙ (ap (λ l. l ++ two.bytes) one.stream_is ∙ append_assoc stream one.bytes two.bytes);
  output_is = two.output_is ∙ (ap (λ l. l ++ two.bytes) one.output_is ∙ append_assoc output one.bytes two.bytes);
}
