-- What is written of a query asks for that query, and what is written of an abort is told apart from it.
use Rattle.std.proofs.Common.{◌≡◌, refl, sym, ap, ◌∙◌, ℕ, ◌^◌, ◌<◌, ◌≤◌, Bool, true, false, List, [], ◌∷◌, length, arith}
use Rattle.std.specs.Prelude.{Some}
use Rattle.std.specs.Option.{option_and_then}
use Rattle.std.specs.Str.{bytes_eq}
use Rattle.std.proofs.lemmas.Slice.Eq.{bytes_eq-Decides}
use Rattle.bp_value.specs.declared.value.Value.{Value, out-Value}
use Rattle.bp_value.specs.declared.value.Value.TheVariants as val
use Rattle.bp_value.specs.Form.{Form}
use Rattle.bp_value.specs.Fits.{Fits, FitParts, FitCase}
use Rattle.bp_value.proofs.Layers.{out_text, out_case}
use Rattle.bp_grammar.specs.Reading.{read}
use Rattle.bp_grammar.specs.Written.{written_tag, case_bytes, written, written_case}
use Rattle.bp_grammar.proofs.Right.{IsRead}
use Rattle.rpc_msg.specs.declared.data.StreamQuery.TheVariants as stream
use Rattle.rpc_msg.specs.Forms.{query_cases, stream_query_form}
use Rattle.rpc_msg.specs.Values.{stream_query_value}
use Rattle.rpc_msg.proofs.Readable.{stream_query_read}
use Rattle.rpc_log.specs.Readings.{text_by, case_by, case_told, value_in}
use Rattle.rpc_talk.specs.Asks.{Calls, Aborts, calls_in, plain_asks, text_asks, told_asks, stream_asks}
use Rattle.rpc_talk.proofs.ReadBack.{value_back}

pub plain_asks_back : (m : ℕ) (f : Form) (v : Value) → m < 2 ^ 64 → IsRead f → Fits m f v → plain_asks m f (written f v) ≡ Calls v
plain_asks_back m f v small is fits = ap calls_in (value_back m f v small is fits)

-- ---- a stream's query

-- the data that says that a text is asked for, and that which says that a stream is aborted
abbrev pub query_data : List ℕ → List ℕ
query_data text = written stream_query_form (stream_query_value (stream.Query text))

abbrev pub abort_data : List ℕ
abort_data = written stream_query_form (stream_query_value stream.Abort)

query_fits : (m : ℕ) (text : List ℕ) → length text ≤ m → Fits m stream_query_form (stream_query_value (stream.Query text))
unfolding Fits FitParts FitCase
query_fits m text le = (0, (val.Text text ∷ [], refl, ((text, refl, le), tt)))

-- the text of a stream's query is what its value is asked for by
told_query : (m : ℕ) (f : Form) (text : List ℕ)
    → told_asks m f (case_by (out-Value (stream_query_value (stream.Query text)))) ≡ plain_asks m f text
told_query m f text =
    ap (λ l. told_asks m f (case_by l)) (out_case 0 (val.Text text ∷ []))
    ∙ ap (λ l. text_asks m f (text_by l)) (out_text text)

pub stream_asks_back : (m : ℕ) (f : Form) (v : Value) → m < 2 ^ 64 → IsRead f → Fits m f v → length (written f v) ≤ m
    → stream_asks m f (query_data (written f v)) ≡ Calls v
stream_asks_back m f v small is fits le =
    ap (λ o. told_asks m f (option_and_then case_told o))
    (value_back m stream_query_form (stream_query_value (stream.Query (written f v))) small stream_query_read
    (query_fits m (written f v) le))
    ∙ (told_query m f (written f v) ∙ plain_asks_back m f v small is fits)

-- ---- an abort

abort_bytes : abort_data ≡ 0x21 ∷ 0x77 ∷ 0x4E ∷ 0x5C ∷ []
unfolding written
abort_bytes = ap (case_bytes (written_tag query_cases) (written_case query_cases)) (out_case 1 [])

abort_read : (m : ℕ) → value_in m stream_query_form (0x21 ∷ 0x77 ∷ 0x4E ∷ 0x5C ∷ []) ≡ Some (stream_query_value stream.Abort)
unfolding read
abort_read m = refl

pub abort_asks : (m : ℕ) (f : Form) → stream_asks m f abort_data ≡ Aborts
abort_asks m f =
    ap (stream_asks m f) abort_bytes
    ∙ (ap (λ o. told_asks m f (option_and_then case_told o)) (abort_read m) ∙ ap (λ l. told_asks m f (case_by l)) (out_case 1 []))

query_bytes : (text : List ℕ) → (t : List ℕ) × (query_data text ≡ 0xD1 ∷ 0xF5 ∷ 0x2F ∷ 0xE2 ∷ t)
unfolding written
query_bytes text =
    let value = val.Text text ∷ [] in
    (written_case query_cases 0 value, ap (case_bytes (written_tag query_cases) (written_case query_cases)) (out_case 0 value))

-- their tags differ
pub query_no_abort : (text : List ℕ) → bytes_eq (query_data text) abort_data ≡ false
query_no_abort text = by (bytes_eq (query_data text) abort_data) refl
  where
    differ : (t : List ℕ) → ◌≡◌ {A = List ℕ} (0xD1 ∷ 0xF5 ∷ 0x2F ∷ 0xE2 ∷ t) (0x21 ∷ 0x77 ∷ 0x4E ∷ 0x5C ∷ []) → ⊥
    differ t e = let first : ◌≡◌ {A = ℕ} 0xD1 0x21 = cc in omega (arith, first)

    by : (b : Bool) → bytes_eq (query_data text) abort_data ≡ b → b ≡ false
    by false e = refl
    by true e =
        let same = (bytes_eq-Decides (query_data text) abort_data).0 e in
        let (t, is) = query_bytes text in
        absurd (differ t (sym is ∙ (same ∙ abort_bytes)))
