-- What is read after a choice depends on the places that can be chosen alone: those of the cases.
use Rattle.std.proofs.Common.{◌≡◌, ℕ, ℤ, pos, negsuc, zero, suc, ◌+◌, ◌<◌, ◌≤◌, Bool, true, false, Some, None, List, [], ◌∷◌, length, take, drop, nat_eq, nat_lt, if◌then◌else◌, refl, ap, ◌∙◌, arith}
use Rattle.std.specs.Int.{w32, cast_unsigned}
use borrow.Author.Tests.{ltb-true}
use Rattle.readers.specs.Reader.{Outcome, whole, more, bad, after, leaf, one}
use Rattle.readers.specs.Keys.{tail_if, next, some_left, key_at}
use Rattle.bp_num.specs.Forms.{little_endian, signed_bytes}
use Rattle.bp_num.specs.declared.number.Why.{Why}
use Rattle.bp_num.specs.declared.number.Why.TheVariants.{Case, Tag}
use Rattle.bp_value.specs.Tags.{tag_of}
use Rattle.bp_value.specs.Form.{Cases, end_cases, case}
use Rattle.bp_grammar.specs.Spells.{place_of, case_count, keys_of}
use Rattle.bp_codec.specs.Plan.{keys_in, keys_from}
use Rattle.bp_codec.specs.Sources.{case_origins, tag_words}
use Rattle.bp_codec.proofs.Standing.{Stands, stands_cut}

after_same : {A B : Type 0} (o : Outcome ℕ Why A) (f g : A → List ℕ → Outcome ℕ Why B) → ((a : A) (t : List ℕ) → o ≡ whole a t → f a t ≡ g a t)
    → after o f ≡ after o g
after_same (whole a t) f g same = same a t refl
after_same more f g same = refl
after_same (bad n w) f g same = refl

-- ---- the place of a case, in one byte

tested_within : (is_case : Bool) (n b k : ℕ) (t : List ℕ) (p : ℕ) (u : List ℕ) → (is_case ≡ true → b < n)
    → leaf (if is_case then Some b else None) k Case t ≡ whole p u → p < n
tested_within true n b k t p u lt is = let e : b ≡ p = cc in let below : b < n = lt refl in omega arith
tested_within false n b k t p u lt is = absurd cc

one_within : (n : ℕ) (s : List ℕ) (p : ℕ) (u : List ℕ) → one (place_of n) Case s ≡ whole p u → p < n
one_within n [] p u is = absurd cc
one_within n (b ∷ t) p u is = tested_within (nat_lt b n) n b (length (b ∷ t)) t p u (λ yes. ltb-true b n yes) is

count_is : (cs : Cases) → length (case_origins cs) ≡ case_count cs
unfolding case_origins
count_is end_cases = refl
count_is (case name fs cs) = ap suc (count_is cs)

pub after_place : {A : Type 0} (cs : Cases) (s : List ℕ) (f g : ℕ → List ℕ → Outcome ℕ Why A)
    → ((p : ℕ) (t : List ℕ) → p < length (case_origins cs) → f p t ≡ g p t)
    → after (one (place_of (length (case_origins cs))) Case s) f ≡ after (one (place_of (case_count cs)) Case s) g
after_place cs s f g same =
    after_same (one (place_of (length (case_origins cs))) Case s) f g (λ p t is. same p t (one_within (length (case_origins cs)) s p t is))
    ∙ ap (λ n. after (one (place_of n) Case s) g) (count_is cs)

-- ---- the place of a key

abbrev AreBelow : ℕ → List (ℕ × List ℕ) → Type 0
AreBelow n [] = Unit {0}
AreBelow n (k ∷ ks) = (k.0 < n) × AreBelow n ks

kept_below : (n b place : ℕ) (ss : List ℕ) (ks : List (ℕ × List ℕ)) → place < n → AreBelow n ks → AreBelow n (tail_if b place ss ks)
kept_below n b place [] ks lt all = all
kept_below n b place (c ∷ ss) ks lt all = elim (nat_eq c b) as (λ x. AreBelow n (if x then (place, ss) ∷ ks else ks)) [ true ↦ (lt, all) | false ↦ all ]

next_below : (n b : ℕ) (ks : List (ℕ × List ℕ)) → AreBelow n ks → AreBelow n (next b ks)
next_below n b [] all = tt
next_below n b (k ∷ ks) all = kept_below n b k.0 k.1 (next b ks) all.0 (next_below n b ks all.1)

left_within : (long n b : ℕ) (ks : List (ℕ × List ℕ)) (s : List ℕ) (p : ℕ) (u : List ℕ) → AreBelow n ks
    → ((ls : List (ℕ × List ℕ)) → AreBelow n ls → key_at Tag long ls s ≡ whole p u → p < n)
    → some_left Tag (key_at Tag long) ks b s ≡ whole p u → p < n
left_within long n b [] s p u all later is = absurd cc
left_within long n b (k ∷ ks) s p u all later is = later (k ∷ ks) all is

key_within : (long n : ℕ) (ks : List (ℕ × List ℕ)) (s : List ℕ) (p : ℕ) (u : List ℕ) → AreBelow n ks → key_at Tag long ks s ≡ whole p u → p < n
key_within zero n [] s p u all is = absurd cc
key_within zero n (k ∷ ks) s p u all is = let e : k.0 ≡ p = cc in let lt : k.0 < n = all.0 in omega arith
key_within (suc long) n ks [] p u all is = absurd cc
key_within (suc long) n ks (b ∷ s) p u all is =
    left_within long n b (next b ks) s p u (next_below n b ks all) (λ ls below found. key_within long n ls s p u below found) is

keys_below : (first n : ℕ) (cs : Cases) → first + length (case_origins cs) ≤ n → AreBelow n (keys_of first cs)
unfolding case_origins
keys_below first n end_cases le = tt
keys_below first n (case name fs cs) le = (omega arith, keys_below (suc first) n cs (omega arith))

-- a tag as a word has the bytes of the tag
word_bytes : (z : ℤ) → little_endian 4 (cast_unsigned w32 z) ≡ signed_bytes 4 z
word_bytes (pos n) = refl
word_bytes (negsuc n) = refl

words_keys : (n : ℕ) (cs : Cases) → keys_in n (tag_words cs) ≡ keys_of n cs
unfolding tag_words
words_keys n end_cases = refl
words_keys n (case name fs cs) = λ i. (n, word_bytes (tag_of name) i) ∷ words_keys (suc n) cs i

pub tag_count : (cs : Cases) → length (case_origins cs) ≡ length (tag_words cs)
unfolding tag_words case_origins
tag_count end_cases = refl
tag_count (case name fs cs) = ap suc (tag_count cs)

keys_are : (tags : List ℕ) (at : ℕ) (cs : Cases) → Stands tags at (tag_words cs) → keys_from tags at (length (case_origins cs)) ≡ keys_of 0 cs
keys_are tags at cs stands =
    ap (λ n. keys_in 0 (take n (drop at tags))) (tag_count cs) ∙ (ap (keys_in 0) (stands_cut tags at (tag_words cs) stands) ∙ words_keys 0 cs)

pub after_key : {A : Type 0} (tags : List ℕ) (at : ℕ) (cs : Cases) (s : List ℕ) (f g : ℕ → List ℕ → Outcome ℕ Why A) → Stands tags at (tag_words cs)
    → ((p : ℕ) (t : List ℕ) → p < length (case_origins cs) → f p t ≡ g p t)
    → after (key_at Tag 4 (keys_from tags at (length (case_origins cs))) s) f ≡ after (key_at Tag 4 (keys_of 0 cs) s) g
after_key tags at cs s f g stands same =
    ap (λ ks. after (key_at Tag 4 ks s) f) (keys_are tags at cs stands)
    ∙ after_same (key_at Tag 4 (keys_of 0 cs) s) f g
    (λ p t is. same p t (key_within 4 (length (case_origins cs)) (keys_of 0 cs) s p t (keys_below 0 (length (case_origins cs)) cs (omega arith)) is))
