-- What comes of the items that are left, and of the bracket, comes of all.
use Rattle.std.proofs.Common.{[], ◌∷◌, ◌++◌, map}
use Rattle.bp_text_grammar.specs.Texts.{round_open, round_close}
use Rattle.bp_text_grammar.specs.PrintedValues.{all_items, sexp_pieces}
use Rattle.bp_text.specs.Printing.{piece_bytes}
use Rattle.bp_text.proofs.Appending.{Leads, rest_of}
use Rattle.bp_text.proofs.ValueBytes.{sexp_text}
use Rattle.bp_text.proofs.printed_values.+sexps.Given as goal

abbrev pub invariant-append_sexps-loop-place : goal.invariant-append_sexps-loop-place
invariant-append_sexps-loop-place l =
    Leads (round_open ∷ piece_bytes (all_items (map sexp_pieces l.sexps))) l.fn.out.items
    (rest_of (32 ∷ []) (map sexp_text l.sexps) l.place ++ round_close ∷ []) l.out.items
