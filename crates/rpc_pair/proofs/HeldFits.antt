-- All values that a dispatch holds are of its procedure's forms, where what came to the book is bytes.
use Rattle.std.proofs.Common.{◌≡◌, refl, sym, ap, ◌∙◌, subst, ◌⊎◌, inl, inr, ℕ, zero, suc, ◌-◌, Bool, true, false, List, [], ◌∷◌, length, map, take, append-nil}
use Rattle.std.specs.Prelude.{Option, Some, None, Result, Ok, Err, codes}
use Rattle.std.specs.Option.{option_map, option_and_then}
use Rattle.readers.specs.Reader.{Outcome, whole, more, bad, Each, IsByte}
use Rattle.bp_num.specs.declared.number.Why.{Why}
use Rattle.bp_value.specs.declared.value.Value.{Value}
use Rattle.bp_value.specs.declared.value.Value.TheVariants as val
use Rattle.bp_value.specs.Form.{Form, Parts, end, form_of, int, part, sum}
use Rattle.bp_value.specs.Fits.{Fits, FitParts, FitCase}
use Rattle.bp_value.proofs.Layers.{out_text, out_parts, out_case}
use Rattle.bp_grammar.specs.Reading.{read}
use Rattle.bp_grammar.specs.Spells.{Spells}
use Rattle.bp_grammar.proofs.Good.{good_read}
use Rattle.bp_grammar.proofs.Right.{IsRead}
use Rattle.rpc_msg.specs.declared.message.Answer.{Answer}
use Rattle.rpc_msg.specs.declared.message.Answer.TheVariants as answer
use Rattle.rpc_msg.specs.declared.fault.MsgFault.{MsgFault}
use Rattle.rpc_msg.specs.declared.shared.Ending.{Ending}
use Rattle.rpc_msg.specs.declared.shared.Ending.TheVariants as ending
use Rattle.rpc_msg.specs.declared.shared.Part.{Part}
use Rattle.rpc_msg.specs.declared.shared.Part.TheVariants as held
use Rattle.rpc_msg.specs.Forms.{first_cases, first_form, part_form}
use Rattle.rpc_msg.specs.Values.{item_value}
use Rattle.rpc_msg.proofs.Bodies.{right_read}
use Rattle.rpc_msg.proofs.Readable.{first_read, part_read}
use Rattle.rpc_log.specs.Readings.{case_by, parts_by, text_by}
use Rattle.rpc_schema.specs.declared.desc.Kind.{Kind}
use Rattle.rpc_schema.specs.declared.desc.Kind.TheVariants.{Plain, OneWay, Pipe, State}
use Rattle.rpc_schema.specs.declared.desc.RpcDesc.{RpcDesc}
use Rattle.rpc_talk.specs.Parts.{Fate, Goes_on, Ends, Broken, CallParts, later_parts, stream_parts, plain_parts, kind_parts, cut_ending, held_by}
use Rattle.rpc_talk.specs.Said.{Said, Reply, Begun, Declined, Item, Eof, Unreadable, Failed, all_read, value_read, said_by, said_or_none, plain_said, result_at, result_in, first_told, first_said, item_said, text_said, part_case, part_told, part_said, answer_said, first_by, later_by, says_in}
use Rattle.rpc_talk.specs.Spellable.{IsSpellableError}
use Rattle.rpc_client.specs.Rows.{IsCallable}
use Rattle.rpc_client.proofs.Inside.{LiesIn, inside_bytes, item_inside}
use Rattle.rpc_book.specs.Books.{BookState, Booked, held_in, parts_booked}
use Rattle.rpc_pair.proofs.CameFits.{IsOfBytes, answers_of_bytes}
use Rattle.rpc_pair.proofs.SpelledFits.{spelled_fits}

-- a part is of the form that its procedure gives it
abbrev pub PartFits : ℕ → RpcDesc → Part → Type 0
PartFits m d (held.First v) = Fits m (form_of d.first) v
PartFits m d (held.Item v) = Fits m (form_of d.item) v

-- so is the value of an ending, and the S-expressions of an error are not too deep
abbrev pub IsEndingFit : ℕ → RpcDesc → Ending → Type 0
IsEndingFit m d (ending.Reply v) = Fits m (form_of d.first) v
IsEndingFit m d (ending.Declined v) = Fits m (form_of d.error) v
IsEndingFit m d (ending.Failed e) = IsSpellableError e
IsEndingFit m d (ending.BadReply why) = Unit {0}
IsEndingFit m d ending.Eof = Unit {0}
IsEndingFit m d ending.Aborted = Unit {0}
IsEndingFit m d ending.Sent = Unit {0}
IsEndingFit m d ending.Closed = Unit {0}

abbrev pub EndingFits : ℕ → RpcDesc → Option Ending → Type 0
EndingFits m d None = Unit {0}
EndingFits m d (Some e) = IsEndingFit m d e

-- ---- one reading

abbrev SaidFits : ℕ → RpcDesc → Said → Type 0
SaidFits m d (Reply v) = Fits m (form_of d.first) v
SaidFits m d (Begun v) = Fits m (form_of d.first) v
SaidFits m d (Declined v) = Fits m (form_of d.error) v
SaidFits m d (Item v) = Fits m (form_of d.item) v
SaidFits m d Eof = Unit {0}
SaidFits m d (Unreadable why) = Unit {0}
SaidFits m d (Failed e) = IsSpellableError e

-- what is read of some bytes is spelled by them
read_spelled : (m : ℕ) (f : Form) (body : List ℕ) (v : Value) → IsRead f → Each IsByte body → value_read m f body ≡ Ok v → Spells m f v body
read_spelled m f body v is vs e = by (read m f body) refl e
  where
    by : (o : Outcome ℕ Why Value) → read m f body ≡ o → all_read (length body) o ≡ Ok v → Spells m f v body
    by (whole w []) reads h =
        let same : w ≡ v = cc in
        let (t, cut, spelled, follows) = (right_read m f is).sound body w [] vs reads in
        subst (λ s. Spells m f v s) (sym (cut ∙ append-nil t)) (subst (λ x. Spells m f x t) same spelled)
    by (whole w (b ∷ u)) reads h = absurd cc
    by more reads h = absurd cc
    by (bad n w) reads h = absurd cc

module _ (m : ℕ) (d : RpcDesc) (good : IsCallable d) where
  abbrev first_good : IsRead (form_of d.first)
  first_good = good_read (form_of d.first) good.first

  abbrev error_good : IsRead (form_of d.error)
  error_good = good_read (form_of d.error) good.error

  abbrev item_good : IsRead (form_of d.item)
  item_good = good_read (form_of d.item) good.item

  -- what is told of a reading fits, where that of each value does
  told_fits : (tell : Value → Said) (r : Result Value MsgFault) → ((v : Value) → r ≡ Ok v → SaidFits m d (tell v)) → SaidFits m d (said_by tell r)
  told_fits tell (Ok v) each = each v refl
  told_fits tell (Err why) each = tt

  plain_fits : (body : List ℕ) → Each IsByte body → SaidFits m d (plain_said m (form_of d.first) body)
  plain_fits body vs =
      told_fits Reply (value_read m (form_of d.first) body)
      (λ v e. spelled_fits m (form_of d.first) v body (read_spelled m (form_of d.first) body v first_good vs e))

  -- ---- a first answer

  -- its result is a case of one value of its form
  result_fits : (place : ℕ) (ws : List Value) → FitCase m (first_cases (form_of d.first) (form_of d.error)) place ws
      → SaidFits m d (said_or_none (result_at place ws))
  unfolding FitParts FitCase
  result_fits zero [] args = absurd args
  result_fits zero (w ∷ []) (its, none) = its
  result_fits zero (w ∷ x ∷ ws) (its, others) = absurd others
  result_fits (suc zero) [] args = absurd args
  result_fits (suc zero) (w ∷ []) (its, none) = its
  result_fits (suc zero) (w ∷ x ∷ ws) (its, others) = absurd others
  result_fits (suc (suc place)) ws args = absurd args

  abbrev result_parts : Parts
  result_parts = part (codes "result") (sum (first_cases (form_of d.first) (form_of d.error))) end

  first_told_fits : (v : Value) → Fits m (first_form (form_of d.first) (form_of d.error)) v → SaidFits m d (first_told v)
  unfolding Fits FitParts
  first_told_fits v (vs, is, fits) = by vs is fits
    where
      told : (unused : Value) (place : ℕ) (ws : List Value)
          → first_told (val.Parts (unused ∷ val.Case place ws ∷ [])) ≡ said_or_none (result_at place ws)
      told unused place ws =
          ap (λ o. said_or_none (option_and_then result_in (parts_by o))) (out_parts (unused ∷ val.Case place ws ∷ []))
          ∙ ap (λ o. said_or_none (option_and_then (λ c. result_at c.0 c.1) (case_by o))) (out_case place ws)

      by : (vs : List Value) → v ≡ val.Parts vs → FitParts m (part (codes "unused") int result_parts) vs → SaidFits m d (first_told v)
      by [] is fits = absurd fits
      by (unused ∷ []) is (number, fits) = absurd fits
      by (unused ∷ result ∷ []) is (number, ((place, (ws, same, args)), none)) = rw (is, same, told unused place ws) (result_fits place ws args)
      by (unused ∷ result ∷ w ∷ vs) is (number, (its, others)) = absurd others

  first_fits : (body : List ℕ) → Each IsByte body → SaidFits m d (first_said m (form_of d.first) (form_of d.error) body)
  first_fits body vs =
      let form = first_form (form_of d.first) (form_of d.error) in
      told_fits first_told (value_read m form body)
      (λ v e. first_told_fits v
      (spelled_fits m form v body (read_spelled m form body v (first_read (form_of d.first) (form_of d.error) first_good error_good) vs e)))

  -- ---- a later answer

  item_fits : (count : ℕ) (t : List ℕ) → Each IsByte t → SaidFits m d (text_said m (form_of d.item) count t)
  item_fits count t vs = by (value_read m (form_of d.item) t) refl
    where
      by : (r : Result Value MsgFault) → value_read m (form_of d.item) t ≡ r → SaidFits m d (item_said m (form_of d.item) (count - length t) r)
      by (Ok v) e = spelled_fits m (form_of d.item) v t (read_spelled m (form_of d.item) t v item_good vs e)
      by (Err why) e = tt

  part_fits : (body : List ℕ) → Each IsByte body → SaidFits m d (part_said m (form_of d.item) body)
  part_fits body vs =
      told_fits (part_told m (form_of d.item) (length body)) (value_read m part_form body)
      (λ v e. by v (item_inside m v body (read_spelled m part_form body v part_read vs e)))
    where
      case_is : (place : ℕ) (ws : List Value)
          → part_told m (form_of d.item) (length body) (val.Case place ws) ≡ said_or_none (part_case m (form_of d.item) (length body) place ws)
      case_is place ws = ap (λ o. said_or_none (option_and_then (λ c. part_case m (form_of d.item) (length body) c.0 c.1) (case_by o))) (out_case place ws)

      text_is : (t : List ℕ) → part_told m (form_of d.item) (length body) (item_value t) ≡ text_said m (form_of d.item) (length body) t
      text_is t =
          case_is 0 (val.Text t ∷ [])
          ∙ ap (λ o. said_or_none (option_map (text_said m (form_of d.item) (length body)) (text_by o))) (out_text t)

      by : (v : Value) → ((t : List ℕ) × (v ≡ item_value t) × LiesIn t body) ⊎ ((place : ℕ) × (ws : List Value) × (v ≡ val.Case (suc place) ws))
          → SaidFits m d (part_told m (form_of d.item) (length body) v)
      by v (inl (t, same, within)) = rw (same, text_is t) (item_fits (length body) t (inside_bytes t body within vs))
      by v (inr (place, ws, same)) = rw (same, case_is (suc place) ws) tt

  -- ---- all answers

  abbrev FitsAll : (List ℕ → Said) → Type 0
  FitsAll reads = (body : List ℕ) → Each IsByte body → SaidFits m d (reads body)

  first_by_fits : (kind : Kind) → FitsAll (first_by kind m d)
  first_by_fits Plain = plain_fits
  first_by_fits OneWay = plain_fits
  first_by_fits Pipe = first_fits
  first_by_fits State = first_fits

  later_by_fits : (kind : Kind) → FitsAll (later_by kind m d)
  later_by_fits Plain = plain_fits
  later_by_fits OneWay = plain_fits
  later_by_fits Pipe = part_fits
  later_by_fits State = part_fits

  answer_fits : (reads : List ℕ → Said) (a : Answer) → FitsAll reads → IsOfBytes a → SaidFits m d (answer_said reads a)
  answer_fits reads (answer.Ok body) each is = each body is.0
  answer_fits reads (answer.Error e) each is = is.1

  answers_fit : (reads : List ℕ → Said) (answers : List Answer) → FitsAll reads → Each IsOfBytes answers → Each (SaidFits m d) (map (answer_said reads) answers)
  answers_fit reads [] each are = tt
  answers_fit reads (a ∷ answers) each (is, are) = (answer_fits reads a each is, answers_fit reads answers each are)

  says_fit : (answers : List Answer) → Each IsOfBytes answers → Each (SaidFits m d) (says_in m d answers)
  says_fit [] are = tt
  says_fit (a ∷ later) (is, are) =
      (answer_fits (first_by d.kind m d) a (first_by_fits d.kind) is, answers_fit (later_by d.kind m d) later (later_by_fits d.kind) are)

-- ---- what the answers make of a call

module _ (m : ℕ) (d : RpcDesc) where
  abbrev FateFits : Fate → Type 0
  FateFits Goes_on = Unit {0}
  FateFits (Ends e) = IsEndingFit m d e
  FateFits Broken = Unit {0}

  abbrev AreFit : CallParts → Type 0
  AreFit p = Each (PartFits m d) p.parts × FateFits p.mark

  later_fit : (says : List Said) → Each (SaidFits m d) says → AreFit (later_parts says)
  later_fit [] fit = (tt, tt)
  later_fit (Failed e ∷ says) fit = (tt, fit.0)
  later_fit (Item v ∷ says) (fits, fit) = let (parts, mark) = later_fit says fit in ((fits, parts), mark)
  later_fit (Eof ∷ says) fit = (tt, tt)
  later_fit (Reply v ∷ says) fit = (tt, tt)
  later_fit (Begun v ∷ says) fit = (tt, tt)
  later_fit (Declined v ∷ says) fit = (tt, tt)
  later_fit (Unreadable why ∷ says) fit = (tt, tt)

  stream_fit : (says : List Said) → Each (SaidFits m d) says → AreFit (stream_parts says)
  stream_fit [] fit = (tt, tt)
  stream_fit (Failed e ∷ says) fit = (tt, fit.0)
  stream_fit (Begun v ∷ says) (fits, fit) = let (parts, mark) = later_fit says fit in ((fits, parts), mark)
  stream_fit (Declined v ∷ says) fit = (tt, fit.0)
  stream_fit (Reply v ∷ says) fit = (tt, tt)
  stream_fit (Item v ∷ says) fit = (tt, tt)
  stream_fit (Eof ∷ says) fit = (tt, tt)
  stream_fit (Unreadable why ∷ says) fit = (tt, tt)

  plain_fit : (says : List Said) → Each (SaidFits m d) says → AreFit (plain_parts says)
  plain_fit [] fit = (tt, tt)
  plain_fit (Failed e ∷ says) fit = (tt, fit.0)
  plain_fit (Reply v ∷ says) fit = (tt, fit.0)
  plain_fit (Unreadable why ∷ says) fit = (tt, tt)
  plain_fit (Begun v ∷ says) fit = (tt, tt)
  plain_fit (Declined v ∷ says) fit = (tt, tt)
  plain_fit (Item v ∷ says) fit = (tt, tt)
  plain_fit (Eof ∷ says) fit = (tt, tt)

  kind_fit : (kind : Kind) (says : List Said) → Each (SaidFits m d) says → AreFit (kind_parts kind says)
  kind_fit Plain says fit = plain_fit says fit
  kind_fit OneWay says fit = (tt, tt)
  kind_fit Pipe says fit = stream_fit says fit
  kind_fit State says fit = stream_fit says fit

  -- ---- what a call holds

  each_taken : (k : ℕ) (ps : List Part) → Each (PartFits m d) ps → Each (PartFits m d) (take k ps)
  each_taken zero ps fit = tt
  each_taken (suc k) [] fit = tt
  each_taken (suc k) (p ∷ ps) (fits, fit) = (fits, each_taken k ps fit)

  ending_fits : (mark : Fate) (closed : Bool) → FateFits mark → EndingFits m d (cut_ending None mark closed)
  ending_fits (Ends e) closed fits = fits
  ending_fits Goes_on true fits = tt
  ending_fits Goes_on false fits = tt
  ending_fits Broken true fits = tt
  ending_fits Broken false fits = tt

  cut_fit : (p : CallParts) (cut : Option ℕ) (closed : Bool) → AreFit p
      → Each (PartFits m d) (held_by p cut closed).parts × EndingFits m d (held_by p cut closed).ending
  cut_fit p None closed (parts, mark) = (parts, ending_fits p.mark closed mark)
  cut_fit p (Some c) closed (parts, mark) = (each_taken c p.parts parts, tt)

-- all values that a dispatch holds are of its procedure's forms
pub held_fits : (b : BookState) (d : Booked) → Each IsByte b.got → IsCallable d.made.desc
    → Each (PartFits b.limits.max_message d.made.desc) (held_in b d).parts × EndingFits b.limits.max_message d.made.desc (held_in b d).ending
held_fits b d bytes good =
    let m = b.limits.max_message in
    cut_fit m d.made.desc (parts_booked b d) d.made.cut _
    (kind_fit m d.made.desc d.made.desc.kind _ (says_fit m d.made.desc good _ (answers_of_bytes b d.made.id bytes)))
