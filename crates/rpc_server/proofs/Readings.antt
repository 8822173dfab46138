-- What a whole body reads as, by what the reading of it answers.
use Rattle.std.proofs.Common.{◌≡◌, refl, sym, ap, ◌∙◌, ℕ, List, [], ◌∷◌, length, append-nil}
use Rattle.std.specs.Prelude.{Option, Some, None}
use Rattle.readers.specs.Reader.{Outcome, whole, more, bad, Each, IsByte}
use Rattle.bp_num.specs.declared.number.Why.{Why}
use Rattle.bp_value.specs.declared.value.Value.{Value}
use Rattle.bp_value.specs.Form.{Form}
use Rattle.bp_grammar.specs.Spells.{Spells}
use Rattle.bp_grammar.specs.Reading.{read}
use Rattle.bp_grammar.proofs.Right.{IsRead}
use Rattle.rpc_log.specs.Readings.{whole_value, value_in, whole_fault, fault_in}
use Rattle.rpc_log.proofs.Told.{told_fault}
use Rattle.rpc_msg.specs.declared.fault.MsgFault.{MsgFault}
use Rattle.rpc_msg.specs.Bodies.{IsMsgFault}
use Rattle.rpc_msg.proofs.Bodies.{right_read}

pub spelled_in : (m : ℕ) (f : Form) (v : Value) (body : List ℕ) → IsRead f → Spells m f v body → value_in m f body ≡ Some v
spelled_in m f v body is spelled =
    ap whole_value (ap (read m f) (sym (append-nil body)) ∙ (right_read m f is).complete v body [] spelled tt)

pub fault_none : (m : ℕ) (f : Form) (body : List ℕ) (why : MsgFault) → IsRead f → Each IsByte body → IsMsgFault m f body why → value_in m f body ≡ None
fault_none m f body why is bytes at = by (read m f body) (told_fault m f is body why bytes at)
  where
    none_some : ◌≡◌ {A = Option MsgFault} None (Some why) → ⊥
    none_some e = cc

    by : (o : Outcome ℕ Why Value) → whole_fault (length body) o ≡ Some why → whole_value o ≡ None
    by (whole v []) e = absurd (none_some e)
    by (whole v (b ∷ u)) e = refl
    by more e = refl
    by (bad n w) e = refl
