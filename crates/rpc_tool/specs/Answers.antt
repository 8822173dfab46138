-- What a command answers.
use Rattle.std.specs.Prelude.{ℕ, List}
use Rattle.rpc_tool.specs.declared.answers.Answer.{Answer}
use Rattle.rpc_tool.specs.declared.answers.Answer.TheVariants as answer

-- what is written is what D wants of a result, or what R wants of a refusal
abbrev pub Answers : (List ℕ → Type 0) → (List ℕ → Type 0) → Answer → Type 0
Answers D R (answer.Done text) = D text.items
Answers D R (answer.Refused text) = R text.items
