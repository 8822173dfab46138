-- What the nodes of a shape read, as the grammar's readers read it.
use Rattle.std.specs.Prelude.{◌≡◌, ℕ, zero, suc, ◌+◌, Option, Some, None, List, [], ◌∷◌, take, drop, slice_get}
use Rattle.readers.specs.Reader.{Outcome, whole, more, after, mapped, one}
use Rattle.readers.specs.Keys.{key_at}
use Rattle.bp_num.specs.Forms.{little_endian}
use Rattle.bp_num.specs.NumberAt.{int_at}
use Rattle.bp_num.specs.declared.number.Why.{Why}
use Rattle.bp_num.specs.declared.number.Why.TheVariants.{Byte, Case, Tag}
use Rattle.bp_value.specs.declared.value.Value.{Value}
use Rattle.bp_value.specs.declared.value.Value.TheVariants as val
use Rattle.bp_grammar.specs.Spells.{unit_of, flag_of, char_of, place_of}
use Rattle.bp_grammar.specs.Reading.{sized_at, counted_at, at_flag, read_sexp}
use Rattle.bp_codec.specs.declared.plan.Node.{Node}
use Rattle.bp_codec.specs.declared.plan.Node.TheVariants as node

-- what is read of one value
abbrev pub Reading : Type 0
Reading = List ℕ → Outcome ℕ Why Value

-- the values of nodes side by side, in order
abbrev pub parts_at : (ℕ → Reading) → ℕ → ℕ → List ℕ → Outcome ℕ Why (List Value)
parts_at reading first zero s = whole [] s
parts_at reading first (suc count) s = after (reading first s) (λ v t. mapped (λ ws. v ∷ ws) (parts_at reading (suc first) count t))

-- the arguments of a case
abbrev pub args_in : (ℕ → Reading) → Option Node → List ℕ → Outcome ℕ Why (List Value)
args_in reading None s = more
args_in reading (Some (node.Args first count)) s = parts_at reading first count s
args_in reading (Some _) s = more

-- tags as keys, the first at the place n
abbrev pub keys_in : ℕ → List ℕ → List (ℕ × List ℕ)
keys_in n [] = []
keys_in n (word ∷ words) = (n, little_endian 4 word) ∷ keys_in (suc n) words

abbrev pub keys_from : List ℕ → ℕ → ℕ → List (ℕ × List ℕ)
keys_from tags at count = keys_in 0 (take count (drop at tags))

-- the case at a place
abbrev pub case_at : List Node → (ℕ → Reading) → ℕ → ℕ → List ℕ → Outcome ℕ Why Value
case_at ns reading first place s = mapped (val.Case place) (args_in reading (slice_get ns (first + place)) s)

-- what a node reads, by what its children read
unfoldable pub node_reads : ℕ → List Node → List ℕ → (ℕ → Reading) → Node → Reading
node_reads m ns tags reading node.Unit s = one unit_of Byte s
node_reads m ns tags reading node.Bool s = mapped val.Bool (one flag_of Byte s)
node_reads m ns tags reading node.Char s = one char_of Byte s
node_reads m ns tags reading (node.Int kind) s = mapped val.Num (int_at kind s)
node_reads m ns tags reading node.Text s = mapped val.Text (sized_at m s)
node_reads m ns tags reading (node.Opt item) s = after (one flag_of Byte s) (at_flag (λ t. whole val.Absent t) (λ t. mapped val.Present (reading item t)))
node_reads m ns tags reading (node.List item) s = mapped val.Items (counted_at m (reading item) s)
node_reads m ns tags reading (node.Parts first count) s = mapped val.Parts (parts_at reading first count s)
node_reads m ns tags reading (node.Sum first count) s = after (one (place_of count) Case s) (case_at ns reading first)
node_reads m ns tags reading (node.Poly first count at) s = after (key_at Tag 4 (keys_from tags at count) s) (case_at ns reading first)
node_reads m ns tags reading (node.Args first count) s = more
node_reads m ns tags reading node.Sexp s = mapped val.Sexp (read_sexp m 128 s)

-- each node reads what it says
abbrev pub AreRead : ℕ → List Node → List ℕ → (ℕ → Reading) → Type 0
AreRead m ns tags reading = (i : ℕ) (n : Node) → slice_get ns i ≡ Some n → reading i ≡ node_reads m ns tags reading n

-- the nodes read what a reading reads: the root reads it
abbrev pub ReadAs : ℕ → List Node → List ℕ → Reading → Type 0
ReadAs m ns tags r = (reading : ℕ → Reading) × AreRead m ns tags reading × (reading 0 ≡ r)
