-- How told bytes change over calls in a row.
use Rattle.std.proofs.Common.{◌≡◌, ℕ, List, [], ◌++◌, None, Some, IfSome, refl, sym, ap, ◌∙◌, append_assoc}
use Rattle.std.proofs.lemmas.List.{append-nil}
use Rattle.std.specs.declared.option.Option.{Option}
use Rattle.std.specs.Io.KnownBytes.{append_known, prepend_known, IsAtEnd}
use Rattle.bp_base.specs.Told.{Gains, Loses}

append_known-append : (known : Option (List ℕ)) (bytes more : List ℕ)
    → append_known (append_known known bytes) more ≡ append_known known (bytes ++ more)
append_known-append None bytes more = refl
append_known-append (Some xs) bytes more = ap Some (append_assoc xs bytes more)

prepend_known-append : (known : Option (List ℕ)) (bytes more : List ℕ)
    → prepend_known bytes (prepend_known more known) ≡ prepend_known (bytes ++ more) known
prepend_known-append None bytes more = refl
prepend_known-append (Some xs) bytes more = ap Some (sym (append_assoc bytes more xs))

pub Gains-trans : {T : Type 0} (told : T → Option (List ℕ)) (first before now : T)
    (bytes more : List ℕ) → Gains told first before bytes → Gains told before now more
    → Gains told first now (bytes ++ more)
Gains-trans told first before now bytes more gained gains =
    gains ∙ ap (λ known. append_known known more) gained
    ∙ append_known-append (told first) bytes more

pub Loses-trans : {T : Type 0} (told : T → Option (List ℕ)) (first before now : T)
    (bytes more : List ℕ) → Loses told first before bytes → Loses told before now more
    → Loses told first now (bytes ++ more)
Loses-trans told first before now bytes more lost loses =
    lost ∙ ap (prepend_known bytes) loses ∙ prepend_known-append (told now) bytes more

-- nothing was added, or taken
pub Gains-nil : {T : Type 0} (told : T → Option (List ℕ)) (now : T) → Gains told now now []
Gains-nil told now = kept (told now)
  where
    kept : (known : Option (List ℕ)) → known ≡ append_known known []
    kept None = refl
    kept (Some xs) = ap Some (sym (append-nil xs))

pub Loses-nil : {T : Type 0} (told : T → Option (List ℕ)) (now : T) → Loses told now now []
Loses-nil told now = kept (told now)
  where
    kept : (known : Option (List ℕ)) → known ≡ prepend_known [] known
    kept None = refl
    kept (Some xs) = refl

-- where none is left in the end, the bytes taken are all that there were
pub Loses_all : {T : Type 0} (told : T → Option (List ℕ)) (first now : T) (bytes : List ℕ)
    → Loses told first now bytes → IsAtEnd (told now) → IfSome (told first) (λ all. bytes ≡ all)
Loses_all told first now bytes lost done = whole (told first) (told now) lost done
  where
    whole : (before after : Option (List ℕ)) → before ≡ prepend_known bytes after
        → IsAtEnd after → IfSome before (λ all. bytes ≡ all)
    whole None after is done = tt
    whole (Some all) None is done = let none : ⊥ = cc in absurd none
    whole (Some all) (Some rest) is done =
        let cut : all ≡ bytes ++ rest = cc in
        sym (cut ∙ ap (λ l. bytes ++ l) done ∙ append-nil bytes)
