-- What is read part by part is what the grammar reads of the forms.
use Rattle.std.proofs.Common.{◌≡◌, refl, ap, ◌∙◌, ℕ, zero, suc, ℤ, List, [], ◌∷◌, codes, map}
use Rattle.readers.specs.Reader.{Outcome, whole, more, bad, after, mapped, one, count}
use Rattle.readers.specs.Keys.{key_at}
use Rattle.bp_num.specs.declared.number.Why.{Why}
use Rattle.bp_num.specs.declared.number.Why.TheVariants.{Case, Tag}
use Rattle.bp_num.specs.declared.number.IntKind.TheVariants.{Int63}
use Rattle.bp_num.specs.NumberAt.{int_at, nat_at}
use Rattle.bp_value.specs.declared.value.Value.{Value}
use Rattle.bp_value.specs.declared.value.Value.TheVariants as val
use Rattle.bp_value.specs.declared.value.Value.TheVariants.{Num, Text, Parts}
use Rattle.bp_value.specs.Form.{Form, int, text, sexp, sum, end, end_cases, case}
use Rattle.bp_codec.specs.Plan.{keys_in}
use Rattle.bp_grammar.specs.Spells.{place_of, keys_of}
use Rattle.bp_grammar.specs.Reading.{sized_at, read, read_parts, read_case}
use Rattle.rpc_msg.specs.Forms.{header_form, only, version_form, unimplemented_parts, error_cases, error_form, query_form, answer_form, response_form, message_form, query_cases, stream_query_form, first_cases, first_form, part_cases, part_form}
use Rattle.rpc_msg.specs.Values.{first_value, item_value, eof_value, unimplemented_values}
use Rattle.rpc_msg.specs.declared.data.First.TheVariants.{Begun, Declined}

abbrev Out : Type 0 → Type 0
Out A = Outcome ℕ Why A

abbrev number_at : List ℕ → Out ℤ
number_at s = int_at Int63 s

-- what follows is the same
after_same : {A B : Type 0} (F G : A → List ℕ → Out B) (o : Out A) → ((a : A) (t : List ℕ) → F a t ≡ G a t) → after o F ≡ after o G
after_same F G (whole a t) e = e a t
after_same F G more e = refl
after_same F G (bad n w) e = refl

-- a case of one argument
one_argument : {B : Type 0} (k : List Value → B) (o : Out Value) → mapped k (after o (λ v t. mapped (λ ws. v ∷ ws) (whole [] t))) ≡ mapped (λ v. k (v ∷ [])) o
one_argument k (whole v t) = refl
one_argument k more = refl
one_argument k (bad n w) = refl

-- the same, of a head that is a value
one_head : {A B : Type 0} (k : List Value → B) (g : A → Value) (o : Out A)
    → mapped k (after (mapped g o) (λ v t. mapped (λ ws. v ∷ ws) (whole [] t))) ≡ mapped (λ a. k (g a ∷ [])) o
one_head k g (whole a t) = refl
one_head k g more = refl
one_head k g (bad n w) = refl

abbrev pub query_at : ℕ → List ℕ → Out Value
query_at m s =
    after (sized_at m s) (λ tag t. after (number_at t) (λ version u. after (number_at u)
    (λ id x. mapped (λ body. Parts (Text tag ∷ Num version ∷ Num id ∷ Text body ∷ [])) (sized_at m x))))

pub query_reads : (m : ℕ) (s : List ℕ) → read m query_form s ≡ query_at m s
unfolding read read_parts
query_reads m s = tags (sized_at m s)
  where
    bodies : (tag : List ℕ) (version id : ℤ) (o : Out (List ℕ)) →
        mapped Parts (mapped (λ ws. Text tag ∷ ws) (mapped (λ ws. Num version ∷ ws) (mapped (λ ws. Num id ∷ ws)
        (after (mapped Text o) (λ v y. mapped (λ ws. v ∷ ws) (whole [] y))))))
        ≡ mapped (λ body. Parts (Text tag ∷ Num version ∷ Num id ∷ Text body ∷ [])) o
    bodies tag version id (whole body y) = refl
    bodies tag version id more = refl
    bodies tag version id (bad n w) = refl

    ids : (tag : List ℕ) (version : ℤ) (o : Out ℤ) →
        mapped Parts (mapped (λ ws. Text tag ∷ ws) (mapped (λ ws. Num version ∷ ws) (after (mapped Num o) (λ v x. mapped (λ ws. v ∷ ws)
        (after (mapped Text (sized_at m x)) (λ v y. mapped (λ ws. v ∷ ws) (whole [] y)))))))
        ≡ after o (λ id x. mapped (λ body. Parts (Text tag ∷ Num version ∷ Num id ∷ Text body ∷ [])) (sized_at m x))
    ids tag version (whole id x) = bodies tag version id (sized_at m x)
    ids tag version more = refl
    ids tag version (bad n w) = refl

    versions : (tag : List ℕ) (o : Out ℤ) →
        mapped Parts (mapped (λ ws. Text tag ∷ ws) (after (mapped Num o) (λ v u. mapped (λ ws. v ∷ ws) (after (mapped Num (number_at u)) (λ v x. mapped (λ ws. v ∷ ws)
        (after (mapped Text (sized_at m x)) (λ v y. mapped (λ ws. v ∷ ws) (whole [] y))))))))
        ≡ after o (λ version u. after (number_at u) (λ id x. mapped (λ body. Parts (Text tag ∷ Num version ∷ Num id ∷ Text body ∷ [])) (sized_at m x)))
    versions tag (whole version u) = ids tag version (number_at u)
    versions tag more = refl
    versions tag (bad n w) = refl

    tags : (o : Out (List ℕ)) →
        mapped Parts (after (mapped Text o) (λ v t. mapped (λ ws. v ∷ ws) (after (mapped Num (number_at t)) (λ v u. mapped (λ ws. v ∷ ws) (after (mapped Num (number_at u))
        (λ v x. mapped (λ ws. v ∷ ws) (after (mapped Text (sized_at m x)) (λ v y. mapped (λ ws. v ∷ ws) (whole [] y)))))))))
        ≡ after o (λ tag t. after (number_at t) (λ version u. after (number_at u) (λ id x. mapped (λ body. Parts (Text tag ∷ Num version ∷ Num id ∷ Text body ∷ [])) (sized_at m x))))
    tags (whole tag t) = versions tag (number_at t)
    tags more = refl
    tags (bad n w) = refl

-- ---- responses

pub response_reads : (m : ℕ) (s : List ℕ) → read m response_form s ≡ after (number_at s) (λ id t. mapped (λ v. Parts (Num id ∷ v ∷ [])) (read m answer_form t))
unfolding read read_parts
response_reads m s = ids (number_at s)
  where
    ids : (o : Out ℤ) → mapped Parts (after (mapped Num o) (λ v t. mapped (λ ws. v ∷ ws) (after (read m answer_form t) (λ w u. mapped (λ ws. w ∷ ws) (whole [] u)))))
        ≡ after o (λ id t. mapped (λ v. Parts (Num id ∷ v ∷ [])) (read m answer_form t))
    ids (whole id t) = answers (read m answer_form t)
      where
        answers : (o : Out Value) → mapped Parts (mapped (λ ws. Num id ∷ ws) (after o (λ w u. mapped (λ ws. w ∷ ws) (whole [] u)))) ≡ mapped (λ v. Parts (Num id ∷ v ∷ [])) o
        answers (whole v u) = refl
        answers more = refl
        answers (bad n w) = refl
    ids more = refl
    ids (bad n w) = refl

abbrev pub answer_case : ℕ → ℕ → List ℕ → Out Value
answer_case m zero t = mapped (λ body. val.Case 0 (Text body ∷ [])) (sized_at m t)
answer_case m (suc zero) t = mapped (λ e. val.Case 1 (e ∷ [])) (read m error_form t)
answer_case m (suc (suc place)) t = more

pub answer_reads : (m : ℕ) (s : List ℕ) → read m answer_form s ≡ after (one (place_of 2) Case s) (answer_case m)
unfolding read read_parts read_case
answer_reads m s = after_same _ (answer_case m) (one (place_of 2) Case s) same
  where
    same : (place : ℕ) (t : List ℕ) → mapped (val.Case place) (read_case m (case (codes "Ok") (only text) (case (codes "Error") (only error_form) end_cases)) place t) ≡ answer_case m place t
    same zero t = one_head (val.Case 0) Text (sized_at m t)
    same (suc zero) t = one_argument (val.Case 1) (read m error_form t)
    same (suc (suc place)) t = refl

abbrev pub message_case : ℕ → ℕ → List ℕ → Out Value
message_case m zero t = whole (val.Case 0 []) t
message_case m (suc zero) t = mapped (λ q. val.Case 1 (q ∷ [])) (read m query_form t)
message_case m (suc (suc zero)) t = mapped (λ r. val.Case 2 (r ∷ [])) (read m response_form t)
message_case m (suc (suc (suc place))) t = more

pub message_reads : (m : ℕ) (s : List ℕ) → read m message_form s ≡ after (one (place_of 3) Case s) (message_case m)
unfolding read read_parts read_case
message_reads m s = after_same _ (message_case m) (one (place_of 3) Case s) same
  where
    same : (place : ℕ) (t : List ℕ)
        → mapped (val.Case place) (read_case m (case (codes "Heartbeat") end (case (codes "Query") (only query_form) (case (codes "Response") (only response_form) end_cases))) place t)
        ≡ message_case m place t
    same zero t = refl
    same (suc zero) t = one_argument (val.Case 1) (read m query_form t)
    same (suc (suc zero)) t = one_argument (val.Case 2) (read m response_form t)
    same (suc (suc (suc place))) t = refl

-- ---- errors

-- the tags, as the words of the code
pub version_keys : keys_in 0 (0x94861DF1 ∷ []) ≡ keys_of 0 (case (codes "Version") (only int) end_cases)
version_keys = refl

-- after the tag of the version
abbrev pub version_part : List ℕ → ℕ → List ℕ → Out (List Value)
version_part tag zero t = mapped (λ n. unimplemented_values (tag, n)) (number_at t)
version_part tag (suc place) t = more

abbrev pub unimplemented_at : ℕ → List ℕ → Out (List Value)
unimplemented_at m s =
    after (sized_at m s) (λ tag t. after (key_at Tag 4 (keys_in 0 (0x94861DF1 ∷ [])) t) (version_part tag))

pub unimplemented_reads : (m : ℕ) (s : List ℕ) → read_parts m unimplemented_parts s ≡ unimplemented_at m s
unfolding read read_parts read_case
unimplemented_reads m s = tags (sized_at m s)
  where
    keys : (tag : List ℕ) (o : Out ℕ)
        → mapped (λ ws. Text tag ∷ ws) (after (after o (λ place t. mapped (val.Case place) (read_case m (case (codes "Version") (only int) end_cases) place t))) (λ v t. mapped (λ ws. v ∷ ws) (whole [] t)))
        ≡ after o (version_part tag)
    keys tag (whole zero t) = numbers (number_at t)
      where
        numbers : (o : Out ℤ)
            → mapped (λ ws. Text tag ∷ ws) (after (mapped (val.Case 0) (after (mapped Num o) (λ v t. mapped (λ ws. v ∷ ws) (whole [] t)))) (λ v t. mapped (λ ws. v ∷ ws) (whole [] t)))
            ≡ mapped (λ n. unimplemented_values (tag, n)) o
        numbers (whole n t) = refl
        numbers more = refl
        numbers (bad n w) = refl
    keys tag (whole (suc place) t) = refl
    keys tag more = refl
    keys tag (bad n w) = refl

    tags : (o : Out (List ℕ))
        → after (mapped Text o) (λ v t. mapped (λ ws. v ∷ ws) (after (read m version_form t) (λ v t. mapped (λ ws. v ∷ ws) (whole [] t))))
        ≡ after o (λ tag t. after (key_at Tag 4 (keys_in 0 (0x94861DF1 ∷ [])) t) (version_part tag))
    tags (whole tag t) = keys tag (key_at Tag 4 (keys_of 0 (case (codes "Version") (only int) end_cases)) t)
    tags more = refl
    tags (bad n w) = refl

abbrev pub error_case : ℕ → ℕ → List ℕ → Out Value
error_case m zero t = mapped (λ v. val.Case 0 (v ∷ [])) (read m sexp t)
error_case m (suc zero) t = whole (val.Case 1 []) t
error_case m (suc (suc zero)) t = mapped (λ v. val.Case 2 (v ∷ [])) (read m sexp t)
error_case m (suc (suc (suc zero))) t = mapped (λ v. val.Case 3 (v ∷ [])) (read m sexp t)
error_case m (suc (suc (suc (suc zero)))) t = mapped (val.Case 4) (read_parts m unimplemented_parts t)
error_case m (suc (suc (suc (suc (suc zero))))) t = mapped (λ n. val.Case 5 (Num n ∷ [])) (number_at t)
error_case m (suc (suc (suc (suc (suc (suc place)))))) t = more

pub error_reads : (m : ℕ) (s : List ℕ) → read m error_form s ≡ after (one (place_of 6) Case s) (error_case m)
unfolding read read_parts read_case
error_reads m s = after_same _ (error_case m) (one (place_of 6) Case s) same
  where
    same : (place : ℕ) (t : List ℕ) → mapped (val.Case place) (read_case m error_cases place t) ≡ error_case m place t
    same zero t = one_argument (val.Case 0) (read m sexp t)
    same (suc zero) t = refl
    same (suc (suc zero)) t = one_argument (val.Case 2) (read m sexp t)
    same (suc (suc (suc zero))) t = one_argument (val.Case 3) (read m sexp t)
    same (suc (suc (suc (suc zero)))) t = refl
    same (suc (suc (suc (suc (suc zero))))) t = one_head (val.Case 5) Num (number_at t)
    same (suc (suc (suc (suc (suc (suc place)))))) t = refl

-- ---- the data of streams

pub query_keys : keys_in 0 (0xE22FF5D1 ∷ 0x5C4E7721 ∷ []) ≡ keys_of 0 query_cases
query_keys = refl

abbrev pub stream_query_case : ℕ → ℕ → List ℕ → Out Value
stream_query_case m zero t = mapped (λ body. val.Case 0 (Text body ∷ [])) (sized_at m t)
stream_query_case m (suc zero) t = whole (val.Case 1 []) t
stream_query_case m (suc (suc place)) t = more

pub stream_query_reads : (m : ℕ) (s : List ℕ)
    → read m stream_query_form s ≡ after (key_at Tag 4 (keys_in 0 (0xE22FF5D1 ∷ 0x5C4E7721 ∷ [])) s) (stream_query_case m)
unfolding read read_parts read_case
stream_query_reads m s = after_same _ (stream_query_case m) (key_at Tag 4 (keys_of 0 query_cases) s) same
  where
    same : (place : ℕ) (t : List ℕ) → mapped (val.Case place) (read_case m query_cases place t) ≡ stream_query_case m place t
    same zero t = one_head (val.Case 0) Text (sized_at m t)
    same (suc zero) t = refl
    same (suc (suc place)) t = refl

pub part_keys : keys_in 0 (0x8A79 ∷ 0x697939 ∷ []) ≡ keys_of 0 part_cases
part_keys = refl

abbrev pub part_case : ℕ → ℕ → List ℕ → Out Value
part_case m zero t = mapped item_value (sized_at m t)
part_case m (suc zero) t = whole eof_value t
part_case m (suc (suc place)) t = more

pub part_reads : (m : ℕ) (s : List ℕ) → read m part_form s ≡ after (key_at Tag 4 (keys_in 0 (0x8A79 ∷ 0x697939 ∷ [])) s) (part_case m)
unfolding read read_parts read_case
part_reads m s = after_same _ (part_case m) (key_at Tag 4 (keys_of 0 part_cases) s) same
  where
    same : (place : ℕ) (t : List ℕ) → mapped (val.Case place) (read_case m part_cases place t) ≡ part_case m place t
    same zero t = one_head (val.Case 0) Text (sized_at m t)
    same (suc zero) t = refl
    same (suc (suc place)) t = refl

abbrev pub first_case : ℕ → Form → Form → ℤ → ℕ → List ℕ → Out Value
first_case m first error unused zero t = mapped (λ v. first_value unused (Begun v)) (read m first t)
first_case m first error unused (suc zero) t = mapped (λ v. first_value unused (Declined v)) (read m error t)
first_case m first error unused (suc (suc place)) t = more

pub first_reads : (m : ℕ) (first error : Form) (s : List ℕ)
    → read m (first_form first error) s ≡ after (number_at s) (λ unused t. after (one (place_of 2) Case t) (first_case m first error unused))
unfolding read read_parts read_case
first_reads m first error s = numbers (number_at s)
  where
    places : (unused : ℤ) (o : Out ℕ)
        → mapped Parts (mapped (λ ws. Num unused ∷ ws) (after (after o (λ place t. mapped (val.Case place) (read_case m (first_cases first error) place t))) (λ v t. mapped (λ ws. v ∷ ws) (whole [] t))))
        ≡ after o (first_case m first error unused)
    places unused (whole zero t) = arguments (read m first t)
      where
        arguments : (o : Out Value)
            → mapped Parts (mapped (λ ws. Num unused ∷ ws) (after (mapped (val.Case 0) (after o (λ v t. mapped (λ ws. v ∷ ws) (whole [] t)))) (λ v t. mapped (λ ws. v ∷ ws) (whole [] t))))
            ≡ mapped (λ v. first_value unused (Begun v)) o
        arguments (whole v t) = refl
        arguments more = refl
        arguments (bad n w) = refl
    places unused (whole (suc zero) t) = arguments (read m error t)
      where
        arguments : (o : Out Value)
            → mapped Parts (mapped (λ ws. Num unused ∷ ws) (after (mapped (val.Case 1) (after o (λ v t. mapped (λ ws. v ∷ ws) (whole [] t)))) (λ v t. mapped (λ ws. v ∷ ws) (whole [] t))))
            ≡ mapped (λ v. first_value unused (Declined v)) o
        arguments (whole v t) = refl
        arguments more = refl
        arguments (bad n w) = refl
    places unused (whole (suc (suc place)) t) = refl
    places unused more = refl
    places unused (bad n w) = refl

    numbers : (o : Out ℤ)
        → mapped Parts (after (mapped Num o) (λ v t. mapped (λ ws. v ∷ ws) (after (read m (sum (first_cases first error)) t) (λ v t. mapped (λ ws. v ∷ ws) (whole [] t)))))
        ≡ after o (λ unused t. after (one (place_of 2) Case t) (first_case m first error unused))
    numbers (whole unused t) = places unused (one (place_of 2) Case t)
    numbers more = refl
    numbers (bad n w) = refl

-- ---- headers

-- a function of each value
each_value : {A B : Type 0} (g : A → B) (r : List ℕ → Out A) (n : ℕ) (t : List ℕ) → count (λ u. mapped g (r u)) n t ≡ mapped (map g) (count r n t)
each_value g r zero t = refl
each_value {A = A} {B = B} g r (suc n) t = heads (r t) (each_value g r n)
  where
    heads : (o : Out A) → ((u : List ℕ) → count (λ x. mapped g (r x)) n u ≡ mapped (map g) (count r n u))
        → after (mapped g o) (λ v u. mapped (λ us. v ∷ us) (count (λ x. mapped g (r x)) n u)) ≡ mapped (map g) (after o (λ v u. mapped (λ us. v ∷ us) (count r n u)))
    heads (whole v u) rest = ap (mapped (λ us. g v ∷ us)) (rest u) ∙ pushed (count r n u)
      where
        pushed : (o : Out (List A)) → mapped (λ us. g v ∷ us) (mapped (map g) o) ≡ mapped (map g) (mapped (λ us. v ∷ us) o)
        pushed (whole vs x) = refl
        pushed more = refl
        pushed (bad k w) = refl
    heads more rest = refl
    heads (bad k w) rest = refl

pub header_reads : (m : ℕ) (s : List ℕ) → read m header_form s ≡ after (nat_at m s) (λ n t. mapped (λ vs. val.Items (map Num vs)) (count number_at n t))
unfolding read
header_reads m s = by (nat_at m s)
  where
    by : (o : Out ℕ) → mapped val.Items (after o (count (λ u. mapped Num (number_at u)))) ≡ after o (λ n t. mapped (λ vs. val.Items (map Num vs)) (count number_at n t))
    by (whole n t) = ap (mapped val.Items) (each_value Num number_at n t) ∙ once (count number_at n t)
      where
        once : (o : Out (List ℤ)) → mapped val.Items (mapped (map Num) o) ≡ mapped (λ vs. val.Items (map Num vs)) o
        once (whole vs x) = refl
        once more = refl
        once (bad k w) = refl
    by more = refl
    by (bad k w) = refl
