-- What is written of a value that fits is read back as that value.
use Rattle.std.proofs.Common.{◌≡◌, refl, sym, ap, ◌∙◌, ℕ, ◌-◌, ◌^◌, ◌<◌, ◌≤◌, pos, List, [], ◌∷◌, length, append-nil, lit<}
use Rattle.std.specs.Prelude.{Some, Ok}
use Rattle.std.specs.Option.{option_map, option_and_then}
use Rattle.readers.specs.Reader.{whole}
use Rattle.bp_value.specs.declared.value.Value.{Value}
use Rattle.bp_value.specs.declared.value.Value.TheVariants as val
use Rattle.bp_value.specs.Form.{Form}
use Rattle.bp_value.specs.Fits.{InRange, Fits, FitParts, FitCase}
use Rattle.bp_value.proofs.Fitted.{range_is}
use Rattle.bp_value.proofs.Layers.{out_text, out_parts, out_case}
use Rattle.bp_grammar.specs.Reading.{read}
use Rattle.bp_grammar.specs.Written.{written_tag, case_bytes, written, written_case}
use Rattle.bp_grammar.proofs.Right.{IsRead}
use Rattle.bp_grammar.proofs.Written.{written_spells}
use Rattle.rpc_msg.specs.declared.data.First.TheVariants as first
use Rattle.rpc_msg.specs.Forms.{first_form, part_cases, part_form}
use Rattle.rpc_msg.specs.Values.{result_value, first_value, item_value, eof_value}
use Rattle.rpc_msg.proofs.Bodies.{right_read}
use Rattle.rpc_msg.proofs.Readable.{first_read, part_read}
use Rattle.rpc_log.specs.Readings.{text_by, parts_by, case_by, whole_value, value_in}
use Rattle.rpc_talk.specs.Said.{Reply, Begun, Declined, Item, Eof, all_read, value_read, said_by, plain_said, said_or_none, result_at, result_in, first_told, first_said, item_said, text_said, part_case, part_told, part_said}

-- ---- a value

module _ (m : ℕ) (f : Form) (v : Value) (small : m < 2 ^ 64) (is : IsRead f) (fits : Fits m f v) where
  whole_back : read m f (written f v) ≡ whole v []
  whole_back =
      ap (read m f) (sym (append-nil (written f v)))
      ∙ (right_read m f is).complete v (written f v) [] (written_spells m f v small fits) tt

  pub value_back : value_in m f (written f v) ≡ Some v
  value_back = ap whole_value whole_back

  read_back : value_read m f (written f v) ≡ Ok v
  read_back = ap (all_read (length (written f v))) whole_back

  -- the reply of a plain procedure
  pub plain_reads : plain_said m f (written f v) ≡ Reply v
  plain_reads = ap (said_by Reply) read_back

-- ---- a first answer

zero_fits : InRange 62 (pos 0)
zero_fits = (range_is 62 (pos 0)).1 (lit< tt)

begun_fits : (m : ℕ) (begun declined : Form) (v : Value) → Fits m begun v
    → Fits m (first_form begun declined) (first_value (pos 0) (first.Begun v))
unfolding Fits FitParts FitCase
begun_fits m begun declined v fits =
    (val.Num (pos 0) ∷ result_value (first.Begun v) ∷ [], refl, ((pos 0, refl, zero_fits), ((0, (v ∷ [], refl, (fits, tt))), tt)))

declined_fits : (m : ℕ) (begun declined : Form) (v : Value) → Fits m declined v
    → Fits m (first_form begun declined) (first_value (pos 0) (first.Declined v))
unfolding Fits FitParts FitCase
declined_fits m begun declined v fits =
    (val.Num (pos 0) ∷ result_value (first.Declined v) ∷ [], refl, ((pos 0, refl, zero_fits), ((1, (v ∷ [], refl, (fits, tt))), tt)))

-- what the result of a first answer says is what the first answer says
result_told : (place : ℕ) (v : Value)
    → first_told (val.Parts (val.Num (pos 0) ∷ val.Case place (v ∷ []) ∷ [])) ≡ said_or_none (result_at place (v ∷ []))
result_told place v =
    ap (λ l. said_or_none (option_and_then result_in (parts_by l))) (out_parts (val.Num (pos 0) ∷ val.Case place (v ∷ []) ∷ []))
    ∙ ap (λ l. said_or_none (option_and_then (λ c. result_at c.0 c.1) (case_by l))) (out_case place (v ∷ []))

module _ (m : ℕ) (begun declined : Form) (v : Value) (small : m < 2 ^ 64) (one : IsRead begun) (other : IsRead declined) where
  pub begun_reads : Fits m begun v
      → first_said m begun declined (written (first_form begun declined) (first_value (pos 0) (first.Begun v))) ≡ Begun v
  begun_reads fits =
      ap (said_by first_told) (read_back m (first_form begun declined) (first_value (pos 0) (first.Begun v)) small
      (first_read begun declined one other) (begun_fits m begun declined v fits))
      ∙ result_told 0 v

  pub declined_reads : Fits m declined v
      → first_said m begun declined (written (first_form begun declined) (first_value (pos 0) (first.Declined v))) ≡ Declined v
  declined_reads fits =
      ap (said_by first_told) (read_back m (first_form begun declined) (first_value (pos 0) (first.Declined v)) small
      (first_read begun declined one other) (declined_fits m begun declined v fits))
      ∙ result_told 1 v

-- ---- later parts

item_fits : (m : ℕ) (text : List ℕ) → length text ≤ m → Fits m part_form (item_value text)
unfolding Fits FitParts FitCase
item_fits m text le = (0, (val.Text text ∷ [], refl, ((text, refl, le), tt)))

item_told : (m : ℕ) (item : Form) (count : ℕ) (text : List ℕ) → part_told m item count (item_value text) ≡ text_said m item count text
item_told m item count text =
    ap (λ l. said_or_none (option_and_then (λ c. part_case m item count c.0 c.1) (case_by l))) (out_case 0 (val.Text text ∷ []))
    ∙ ap (λ l. said_or_none (option_map (text_said m item count) (text_by l))) (out_text text)

pub item_reads : (m : ℕ) (item : Form) (v : Value) → m < 2 ^ 64 → IsRead item → Fits m item v → length (written item v) ≤ m
    → part_said m item (written part_form (item_value (written item v))) ≡ Item v
item_reads m item v small is fits le =
    let text = written item v in
    let count = length (written part_form (item_value text)) in
    ap (said_by (part_told m item count)) (read_back m part_form (item_value text) small part_read (item_fits m text le))
    ∙ (item_told m item count text ∙ ap (item_said m item (count - length text)) (read_back m item v small is fits))

eof_told : (m : ℕ) (item : Form) (count : ℕ) → part_told m item count eof_value ≡ Eof
eof_told m item count = ap (λ l. said_or_none (option_and_then (λ c. part_case m item count c.0 c.1) (case_by l))) (out_case 1 [])

eof_bytes : written part_form eof_value ≡ 0x39 ∷ 0x79 ∷ 0x69 ∷ 0x00 ∷ []
unfolding written
eof_bytes = ap (case_bytes (written_tag part_cases) (written_case part_cases)) (out_case 1 [])

bytes_read : (m : ℕ) → value_read m part_form (0x39 ∷ 0x79 ∷ 0x69 ∷ 0x00 ∷ []) ≡ Ok eof_value
unfolding read
bytes_read m = refl

eof_read : (m : ℕ) → value_read m part_form (written part_form eof_value) ≡ Ok eof_value
eof_read m = ap (value_read m part_form) eof_bytes ∙ bytes_read m

pub eof_reads : (m : ℕ) (item : Form) → part_said m item (written part_form eof_value) ≡ Eof
eof_reads m item =
    let count = length (written part_form eof_value) in
    ap (said_by (part_told m item count)) (eof_read m) ∙ eof_told m item count
