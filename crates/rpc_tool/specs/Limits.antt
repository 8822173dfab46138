-- The size of an input.
use Rattle.std.specs.Prelude.{ℕ, ◌^◌}

-- how many bytes of input a command takes
abbrev pub most_input : ℕ
most_input = 2 ^ 26
