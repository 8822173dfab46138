-- What a call by the text of its query, and an act by the text of its value, does to an end.
use Rattle.std.specs.Prelude.{◌≡◌, ℕ, ℤ, List, Some, None, ◌⊎◌}
use Rattle.bp_value.specs.declared.value.Value.{Value}
use Rattle.bp_value.specs.Form.{Form, form_of}
use Rattle.rpc_schema.specs.declared.desc.RpcDesc.{RpcDesc}
use Rattle.rpc_talk.specs.Acts.{Act}
use Rattle.rpc_meeting.specs.declared.answer.StepAnswer.{StepAnswer}
use Rattle.rpc_meeting.specs.declared.answer.StepAnswer.TheVariants.{Refused}
use Rattle.rpc_meeting.specs.declared.answer.Refusal.TheVariants.{BadValue}
use Rattle.rpc_book.specs.Books.{BookState}
use Rattle.rpc_book.specs.Calls.{IsBooked}
use Rattle.rpc_server.specs.Acting.{IsActed}
use Rattle.rpc_server.specs.Servers.{ServerState}
use Rattle.rpc_pair.specs.Callers.{dispatched_as}
use Rattle.rpc_pair.specs.Pairs.{Answers}
use Rattle.rpc_pair.specs.Stands.{answer_as}
use Rattle.rpc_pair.specs.Texts.{IsValueWithin}

-- the text is a value, by which an end does something; or it is none
abbrev pub ByText : {S : Type 0} → ℕ → Form → List ℕ → S → (Value → StepAnswer → S → Type 0) → StepAnswer → S → Type 0
ByText m form text old Does answer new =
    ((v : Value) × IsValueWithin m form text (Some v) × Does v answer new)
    ⊎ (IsValueWithin m form text None × (answer ≡ Refused BadValue) × (new ≡ old))

abbrev pub BookAsks : BookState → ℕ → List ℕ → RpcDesc → List ℕ → StepAnswer → BookState → Type 0
BookAsks old m label d text answer new =
    ByText m (form_of d.query) text old (λ v answer new. Answers (IsBooked old label d v) dispatched_as answer new) answer new

abbrev pub ServerTells : ServerState → ℕ → ℤ → Form → (Value → Act) → List ℕ → StepAnswer → ServerState → Type 0
ServerTells old m id form act text answer new =
    ByText m form text old (λ v answer new. Answers (IsActed old id (act v)) answer_as answer new) answer new
