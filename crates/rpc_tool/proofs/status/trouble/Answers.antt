-- The code is that of the status that was compared.
use Rattle.std.proofs.Common.{refl, ◌∙◌}
use Rattle.rpc_tool.specs.declared.status.Status.TheVariants.{ReadFault, WriteFault, OutOfMemory, TooLong}
use Rattle.rpc_tool.proofs.status.trouble.Goals as goal

pub returns-then-code : goal.returns-then-code
returns-then-code c = (λ _. (ReadFault, tt, c.if-code.true ∙ c.code.ensures), λ _. refl)

pub returns-then-code-2 : goal.returns-then-code-2
returns-then-code-2 c =
    (λ _. (WriteFault, tt, c.if-code-2.true ∙ c.code-else-code.ensures), λ _. refl)

pub returns-then-code-3 : goal.returns-then-code-3
returns-then-code-3 c =
    (λ _. (OutOfMemory, tt, c.if-code-3.true ∙ c.code-else-code-2.ensures), λ _. refl)

pub returns-then-code-4 : goal.returns-then-code-4
returns-then-code-4 c =
    (λ _. (TooLong, tt, c.if-code-4.true ∙ c.code-else-code-3.ensures), λ _. refl)
