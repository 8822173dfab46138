-- The bytes of the data of answers.
use Rattle.std.proofs.Common.{◌≡◌, refl, ap, ℕ, ◌+◌, ◌<◌, pos, List, [], ◌∷◌, ◌++◌, length, append-nil, length-append, arith}
use Rattle.std.specs.Prelude.{Err}
use Rattle.bp_codec.specs.declared.error.EncodeError.{EncodeError}
use Rattle.bp_codec.specs.declared.error.EncodeError.TheVariants as error
use Rattle.bp_num.specs.Forms.{written_nat}
use Rattle.bp_value.specs.declared.value.Value.{Value}
use Rattle.bp_value.specs.declared.value.Value.TheVariants.{Num, Text, Case}
use Rattle.bp_value.specs.Form.{Form}
use Rattle.bp_value.proofs.Layers.{out_num, out_text, out_parts, out_case}
use Rattle.bp_grammar.specs.Written.{written, written_bytes, written_parts, written_case}
use Rattle.rpc_msg.specs.Forms.{first_form, part_form}
use Rattle.rpc_msg.specs.Values.{first_value, item_value, eof_value}
use Rattle.rpc_msg.specs.declared.data.First.TheVariants as first
use Rattle.rpc_server.specs.Giving.{GivesBytes}

pub begun_bytes : (f g : Form) (v : Value) → written (first_form f g) (first_value (pos 0) (first.Begun v)) ≡ 0 ∷ 0 ∷ written f v
unfolding written written_parts written_case
begun_bytes f g v =
    rw (out_parts (Num (pos 0) ∷ Case 0 (v ∷ []) ∷ []), out_num (pos 0), out_case 0 (v ∷ []), append-nil (written f v), append-nil (written f v)) refl

pub declined_bytes : (f g : Form) (v : Value) → written (first_form f g) (first_value (pos 0) (first.Declined v)) ≡ 0 ∷ 1 ∷ written g v
unfolding written written_parts written_case
declined_bytes f g v =
    rw (out_parts (Num (pos 0) ∷ Case 1 (v ∷ []) ∷ []), out_num (pos 0), out_case 1 (v ∷ []), append-nil (written g v), append-nil (written g v)) refl

pub item_bytes : (text : List ℕ) → written part_form (item_value text) ≡ 0x79 ∷ 0x8A ∷ 0x00 ∷ 0x00 ∷ written_bytes text
unfolding written written_parts written_case
item_bytes text = rw (out_case 0 (Text text ∷ []), out_text text, append-nil (written_bytes text)) refl

pub eof_bytes : written part_form eof_value ≡ 0x39 ∷ 0x79 ∷ 0x69 ∷ 0x00 ∷ []
unfolding written written_parts written_case
eof_bytes = rw (out_case 1 []) refl

-- an item is longer than what spells its value
pub item_longer : (m : ℕ) (text : List ℕ) → m < length text → m < length (written part_form (item_value text))
item_longer m text lt =
    rw (item_bytes text) (omega (arith, lt, length-append (written_nat (length text)) text))

pub item_long : (m : ℕ) (text : List ℕ) (e : EncodeError) → GivesBytes m text (Err e) → GivesBytes m (written part_form (item_value text)) (Err e)
item_long m text (error.TooLong limit) (same, lt) = (same, item_longer m text lt)
item_long m text error.OutOfMemory x = tt
