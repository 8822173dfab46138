-- An S-expression's head: an atom, or the length of a list.
use Rattle.std.specs.Prelude.{ℕ, List}
use Rattle.readers.specs.Reader.{Outcome, whole, after, mapped, one, count}
use Rattle.bp_num.specs.NumberAt.{nat_at}
use Rattle.bp_num.specs.declared.number.Why.{Why}
use Rattle.bp_num.specs.declared.number.Why.TheVariants.{Case}
use Rattle.bp_value.specs.declared.value.Value.TheVariants as val
use Rattle.bp_value.specs.declared.value.Sexp.TheVariants as sx
use Rattle.bp_grammar.specs.Spells.{flag_of, room}
use Rattle.bp_grammar.specs.Reading.{sized_at, at_flag, read_sexp}
use Rattle.bp_codec.specs.Plan.{Reading}
use Rattle.bp_codec.specs.declared.sexps.SexpHead.{SexpHead}
use Rattle.bp_codec.specs.declared.sexps.SexpHead.TheVariants as head

-- whose items may be d deep
abbrev pub sexp_head_at : ℕ → ℕ → List ℕ → Outcome ℕ Why SexpHead
sexp_head_at m d s = after (one flag_of Case s) (at_flag (λ t. mapped head.Atom (sized_at m t)) (λ t. mapped head.List (nat_at (room m d) t)))

-- what a head lets follow
abbrev pub sexp_onward : ℕ → ℕ → SexpHead → Reading
sexp_onward m d (head.Atom t) s = whole (val.Sexp (sx.Atom t)) s
sexp_onward m d (head.List n) s = mapped (λ xs. val.Sexp (sx.List xs)) (count (read_sexp m d) n s)
