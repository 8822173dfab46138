-- The whole frames among the first bytes of a log.
use Rattle.std.proofs.Common.{◌≡◌, refl, sym, ap, ◌∙◌, subst, ℕ, ◌+◌, ◌-◌, ◌≤◌, ◌<◌, Bool, true, false, if◌then◌else◌, List, [], ◌∷◌, ◌++◌, length, drop, append_assoc, nat_le, arith, ◌⊎◌, inl, inr}
use Rattle.std.proofs.lemmas.Bool.Decides.{leb_tells}
use Rattle.std.proofs.lemmas.List.{length-append}
use Rattle.bp_num.specs.Forms.{little_endian}
use Rattle.rpc_frame.proofs.HeadSteps.{length-little}
use Rattle.rpc_msg.specs.declared.message.Message.{Message}
use Rattle.rpc_talk.specs.Acts.{body_of}
use Rattle.rpc_meeting.specs.Worlds.{size, total, whole}

-- a frame has bytes
pub some_size : (a : Message) → 8 ≤ size a
some_size a = omega (arith, length-append (little_endian 8 (length (body_of a))) (body_of a), length-little 8 (length (body_of a)))

pub tells_le : (a b : ℕ) → ((nat_le a b ≡ true) × (a ≤ b)) ⊎ ((nat_le a b ≡ false) × (b < a))
tells_le a b = leb_tells a b

pub le_true : (a b : ℕ) → a ≤ b → nat_le a b ≡ true
le_true a b le = by (tells_le a b)
  where
    by : ((nat_le a b ≡ true) × (a ≤ b)) ⊎ ((nat_le a b ≡ false) × (b < a)) → nat_le a b ≡ true
    by (inl (e, few)) = e
    by (inr (e, lt)) = absurd (omega (arith, le, lt))

pub le_false : (a b : ℕ) → b < a → nat_le a b ≡ false
le_false a b lt = by (tells_le a b)
  where
    by : ((nat_le a b ≡ true) × (a ≤ b)) ⊎ ((nat_le a b ≡ false) × (b < a)) → nat_le a b ≡ false
    by (inl (e, few)) = absurd (omega (arith, few, lt))
    by (inr (e, more)) = e

-- ---- a beginning

pub whole_prefix : (log : List Message) (n : ℕ) → (rest : List Message) × (whole log n ++ rest ≡ log)
whole_prefix [] n = ([], refl)
whole_prefix (a ∷ log) n = by (nat_le (size a) n) (whole_prefix log (n - size a))
  where
    by : (b : Bool) → ((rest : List Message) × (whole log (n - size a) ++ rest ≡ log)) → (rest : List Message) × ((if b then a ∷ whole log (n - size a) else []) ++ rest ≡ a ∷ log)
    by true (rest, e) = (rest, ap (λ xs. a ∷ xs) e)
    by false later = (a ∷ log, refl)

-- it takes no more bytes than there are
pub whole_few : (log : List Message) (n : ℕ) → total (whole log n) ≤ n
whole_few [] n = omega arith
whole_few (a ∷ log) n = by (tells_le (size a) n) (whole_few log (n - size a))
  where
    by : ((nat_le (size a) n ≡ true) × (size a ≤ n)) ⊎ ((nat_le (size a) n ≡ false) × (n < size a)) → total (whole log (n - size a)) ≤ n - size a
        → total (if nat_le (size a) n then a ∷ whole log (n - size a) else []) ≤ n
    by (inl (e, le)) later = subst (λ b. total (if b then a ∷ whole log (n - size a) else []) ≤ n) (sym e) (omega (arith, le, later))
    by (inr (e, lt)) later = subst (λ b. total (if b then a ∷ whole log (n - size a) else []) ≤ n) (sym e) (omega arith)

-- ---- more of a log leaves it

-- where its bytes are all of the log, or fewer
pub whole_log_grows : (log more : List Message) (n : ℕ) → n ≤ total log → whole (log ++ more) n ≡ whole log n
whole_log_grows [] [] n le = refl
whole_log_grows [] (a ∷ more) n le = ap (λ b. if b then a ∷ whole more (n - size a) else []) (le_false (size a) n (omega (arith, le, some_size a)))
whole_log_grows (a ∷ log) more n le = by (tells_le (size a) n) (whole_log_grows log more (n - size a))
  where
    by : ((nat_le (size a) n ≡ true) × (size a ≤ n)) ⊎ ((nat_le (size a) n ≡ false) × (n < size a))
        → (n - size a ≤ total log → whole (log ++ more) (n - size a) ≡ whole log (n - size a))
        → (if nat_le (size a) n then a ∷ whole (log ++ more) (n - size a) else []) ≡ (if nat_le (size a) n then a ∷ whole log (n - size a) else [])
    by (inl (e, few)) later = ap (λ xs. if nat_le (size a) n then a ∷ xs else []) (later (omega (arith, le, few)))
    by (inr (e, lt)) later = ap (λ b. if b then a ∷ whole (log ++ more) (n - size a) else []) e ∙ ap (λ b. if b then a ∷ whole log (n - size a) else []) (sym e)

-- ---- more bytes lengthen it

pub whole_grows : (log : List Message) (n k : ℕ) → (fresh : List Message) × (whole log (n + k) ≡ whole log n ++ fresh)
whole_grows [] n k = ([], refl)
whole_grows (a ∷ log) n k = by (tells_le (size a) n) (whole_grows log (n - size a) k)
  where
    by : ((nat_le (size a) n ≡ true) × (size a ≤ n)) ⊎ ((nat_le (size a) n ≡ false) × (n < size a))
        → ((fresh : List Message) × (whole log (n - size a + k) ≡ whole log (n - size a) ++ fresh))
        → (fresh : List Message) × ((if nat_le (size a) (n + k) then a ∷ whole log (n + k - size a) else []) ≡ (if nat_le (size a) n then a ∷ whole log (n - size a) else []) ++ fresh)
    by (inl (e, le)) (fresh, is) =
        let more : nat_le (size a) (n + k) ≡ true = le_true (size a) (n + k) (omega (arith, le)) in
        let count : n + k - size a ≡ n - size a + k = omega (arith, le) in (
          fresh,
          ap (λ b. if b then a ∷ whole log (n + k - size a) else []) more ∙ (ap (λ c. a ∷ whole log c) count ∙ (ap (λ xs. a ∷ xs) is
              ∙ ap (λ b. (if b then a ∷ whole log (n - size a) else []) ++ fresh) (sym e))),
        )
    by (inr (e, lt)) later = (
      if nat_le (size a) (n + k) then a ∷ whole log (n + k - size a) else [],
      ap (λ b. (if b then a ∷ whole log (n - size a) else []) ++ (if nat_le (size a) (n + k) then a ∷ whole log (n + k - size a) else [])) (sym e),
    )

drop_front : {X : Type 0} (s t : List X) → drop (length s) (s ++ t) ≡ t
drop_front [] t = refl
drop_front (b ∷ s) t = drop_front s t

-- the messages that come with these bytes
pub fresh_is : (log : List Message) (n k : ℕ) → (rest : List Message) × (whole log n ++ (drop (length (whole log n)) (whole log (n + k)) ++ rest) ≡ log)
fresh_is log n k =
    let (fresh, is) = whole_grows log n k in
    let (rest, all) = whole_prefix log (n + k) in
    let same_fresh : drop (length (whole log n)) (whole log (n + k)) ≡ fresh = ap (drop (length (whole log n))) is ∙ drop_front (whole log n) fresh in
    (rest, ap (λ xs. whole log n ++ (xs ++ rest)) same_fresh ∙ (sym (append_assoc (whole log n) fresh rest) ∙ (ap (λ xs. xs ++ rest) (sym is) ∙ all)))

pub whole_more : (log : List Message) (n k : ℕ) → whole log (n + k) ≡ whole log n ++ drop (length (whole log n)) (whole log (n + k))
whole_more log n k =
    let (fresh, is) = whole_grows log n k in
    is ∙ ap (λ xs. whole log n ++ xs) (sym (ap (drop (length (whole log n))) is ∙ drop_front (whole log n) fresh))
