-- A token of a text.
use Rattle.std.specs.Prelude.{ℕ, ℤ, List}

pub data Token : Type 0 where
  -- the longest run of name bytes from a letter or `_` on, of any length
  Word : List ℕ → Token
  -- a decimal within 64 signed bits, and one beyond
  Number : ℤ → Token
  Big : Token
  -- the bytes that stand in double quotes, and the byte in single quotes
  Text : List ℕ → Token
  Char : ℕ → Token
  -- a byte of punctuation
  Mark : ℕ → Token
  -- the rest of a text where no token stands
  Wrong : Token
  -- a text, or a char, that the end of all leaves open
  OpenText : Token
  OpenChar : Token
