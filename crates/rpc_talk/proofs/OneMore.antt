-- What one more answer makes of a call.
use Rattle.std.proofs.Common.{◌≡◌, refl, ap, ◌∙◌, ℕ, true, false, List, [], ◌∷◌, ◌++◌, map}
use Rattle.std.proofs.lemmas.List.{map-append}
use Rattle.rpc_msg.specs.declared.message.Answer.{Answer}
use Rattle.rpc_schema.specs.declared.desc.Kind.{Kind}
use Rattle.rpc_schema.specs.declared.desc.Kind.TheVariants.{Plain, OneWay, Pipe, State}
use Rattle.rpc_schema.specs.declared.desc.RpcDesc.{RpcDesc}
use Rattle.rpc_talk.specs.Said.{Said, Reply, Begun, Declined, Item, Eof, Unreadable, Failed, answer_said, first_by, later_by, said_behind, says_in}
use Rattle.rpc_talk.specs.Parts.{goes_on, after_part, later_parts, stream_parts, plain_parts, kind_parts, parts_of}
use Rattle.rpc_talk.specs.Growing.{with_more, adds}

-- ---- what is said

pub says_more : (m : ℕ) (d : RpcDesc) (before : List Answer) (a : Answer) → says_in m d (before ++ a ∷ []) ≡ says_in m d before ++ said_behind m d before a ∷ []
says_more m d [] a = refl
says_more m d (b ∷ before) a =
    ap (λ later. answer_said (first_by d.kind m d) b ∷ later) (map-append (answer_said (later_by d.kind m d)) before (a ∷ []))

-- ---- a stream that has begun

later_on : (says : List Said) (s : Said) → goes_on (later_parts says).mark ≡ true → later_parts (says ++ s ∷ []) ≡ with_more (later_parts says) (later_parts (s ∷ []))
later_on [] s going = refl
later_on (Reply v ∷ says) s going = absurd cc
later_on (Begun v ∷ says) s going = absurd cc
later_on (Declined v ∷ says) s going = absurd cc
later_on (Item v ∷ says) s going = ap (after_part _) (later_on says s going)
later_on (Eof ∷ says) s going = absurd cc
later_on (Unreadable why ∷ says) s going = absurd cc
later_on (Failed e ∷ says) s going = absurd cc

later_over : (says : List Said) (s : Said) → goes_on (later_parts says).mark ≡ false → later_parts (says ++ s ∷ []) ≡ later_parts says
later_over [] s over = absurd cc
later_over (Reply v ∷ says) s over = refl
later_over (Begun v ∷ says) s over = refl
later_over (Declined v ∷ says) s over = refl
later_over (Item v ∷ says) s over = ap (after_part _) (later_over says s over)
later_over (Eof ∷ says) s over = refl
later_over (Unreadable why ∷ says) s over = refl
later_over (Failed e ∷ says) s over = refl

-- ---- a stream

stream_on : (first : Said) (says : List Said) (s : Said) → goes_on (stream_parts (first ∷ says)).mark ≡ true
    → stream_parts ((first ∷ says) ++ s ∷ []) ≡ with_more (stream_parts (first ∷ says)) (later_parts (s ∷ []))
stream_on (Reply v) says s going = absurd cc
stream_on (Begun v) says s going = ap (after_part _) (later_on says s going)
stream_on (Declined v) says s going = absurd cc
stream_on (Item v) says s going = absurd cc
stream_on Eof says s going = absurd cc
stream_on (Unreadable why) says s going = absurd cc
stream_on (Failed e) says s going = absurd cc

stream_over : (says : List Said) (s : Said) → goes_on (stream_parts says).mark ≡ false → stream_parts (says ++ s ∷ []) ≡ stream_parts says
stream_over [] s over = absurd cc
stream_over (Reply v ∷ says) s over = refl
stream_over (Begun v ∷ says) s over = ap (after_part _) (later_over says s over)
stream_over (Declined v ∷ says) s over = refl
stream_over (Item v ∷ says) s over = refl
stream_over (Eof ∷ says) s over = refl
stream_over (Unreadable why ∷ says) s over = refl
stream_over (Failed e ∷ says) s over = refl

-- ---- a call

plain_over : (says : List Said) (s : Said) → goes_on (plain_parts says).mark ≡ false → plain_parts (says ++ s ∷ []) ≡ plain_parts says
plain_over [] s over = absurd cc
plain_over (first ∷ says) s over = refl

by_over : (kind : Kind) (says : List Said) (s : Said) → goes_on (kind_parts kind says).mark ≡ false → kind_parts kind (says ++ s ∷ []) ≡ kind_parts kind says
by_over Plain says s over = plain_over says s over
by_over OneWay says s over = refl
by_over Pipe says s over = stream_over says s over
by_over State says s over = stream_over says s over

-- behind its ending, or what broke it, no answer counts
pub parts_over : (m : ℕ) (d : RpcDesc) (before : List Answer) (a : Answer) → goes_on (parts_of m d before).mark ≡ false → parts_of m d (before ++ a ∷ []) ≡ parts_of m d before
parts_over m d before a over = ap (kind_parts d.kind) (says_more m d before a) ∙ by_over d.kind (says_in m d before) (said_behind m d before a) over

-- the one answer of a plain procedure
plain_on : (first : Said) (says : List Said) → goes_on (plain_parts (first ∷ says)).mark ≡ true → ⊥
plain_on (Reply v) says going = cc
plain_on (Begun v) says going = cc
plain_on (Declined v) says going = cc
plain_on (Item v) says going = cc
plain_on Eof says going = cc
plain_on (Unreadable why) says going = cc
plain_on (Failed e) says going = cc

by_on : (kind : Kind) (m : ℕ) (d : RpcDesc) (before : List Answer) (s : Said) → goes_on (kind_parts kind (says_in m d before)).mark ≡ true
    → kind_parts kind (says_in m d before ++ s ∷ []) ≡ with_more (kind_parts kind (says_in m d before)) (adds kind before s)
by_on Plain m d [] s going = refl
by_on Plain m d (b ∷ before) s going = absurd (plain_on (answer_said (first_by d.kind m d) b) (map (answer_said (later_by d.kind m d)) before) going)
by_on OneWay m d before s going = absurd cc
by_on Pipe m d [] s going = refl
by_on Pipe m d (b ∷ before) s going = stream_on (answer_said (first_by d.kind m d) b) (map (answer_said (later_by d.kind m d)) before) s going
by_on State m d [] s going = refl
by_on State m d (b ∷ before) s going = stream_on (answer_said (first_by d.kind m d) b) (map (answer_said (later_by d.kind m d)) before) s going

-- before that, its parts are added
pub parts_on : (m : ℕ) (d : RpcDesc) (before : List Answer) (a : Answer) → goes_on (parts_of m d before).mark ≡ true
    → parts_of m d (before ++ a ∷ []) ≡ with_more (parts_of m d before) (adds d.kind before (said_behind m d before a))
parts_on m d before a going = ap (kind_parts d.kind) (says_more m d before a) ∙ by_on d.kind m d before (said_behind m d before a) going
