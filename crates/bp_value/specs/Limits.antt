-- The limits of shapes, of their names and of S-expressions.
use Rattle.std.specs.Prelude.{ℕ}

-- the greatest depth of a node of a shape; the root has depth 1
abbrev pub deepest_shape : ℕ
deepest_shape = 64

-- the most parts of a tuple, fields of a record or cases of a variant
abbrev pub most_members : ℕ
most_members = 256

-- the most bytes of the name of a field or a case
abbrev pub longest_name : ℕ
longest_name = 64

-- the greatest depth of an S-expression; an atom has depth 1
abbrev pub deepest_sexp : ℕ
deepest_sexp = 128
