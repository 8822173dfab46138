-- The dispatch of a label, as the world has it.
use Rattle.std.proofs.Common.{◌≡◌, ap, ◌∙◌, ℕ, List, map}
use Rattle.std.specs.Prelude.{Option, Some, None, option_map, MatchOption}
use Rattle.std.specs.List.{find}
use Rattle.std.specs.Str.{bytes_eq}
use Rattle.rpc_meeting.specs.Deeds.{find_label}
use Rattle.rpc_meeting.specs.Talks.{Dispatch}
use Rattle.rpc_book.specs.declared.made.Made.{Made}
use Rattle.rpc_pair.specs.Made.{has_label, made_dispatch}
use Rattle.rpc_pair.proofs.MappedFinds.{find_map}

pub label_map : (label : List ℕ) (made : List Made) (o : Option Made) → find (has_label label) made ≡ o → find_label label (map made_dispatch made) ≡ option_map made_dispatch o
label_map label made o is = find_map made_dispatch (λ (d : Dispatch). bytes_eq d.label label) made ∙ ap (option_map made_dispatch) is

pub label_found : {A : Type 0} (label : List ℕ) (made : List Made) (o : Option A) (seen : A → Made) → MatchOption o (find (has_label label) made ≡ None) (λ d. find (has_label label) made ≡ Some (seen d))
    → MatchOption o (find_label label (map made_dispatch made) ≡ None) (λ d. find_label label (map made_dispatch made) ≡ Some (made_dispatch (seen d)))
label_found label made None seen is = label_map label made None is
label_found label made (Some d) seen is = label_map label made (Some (seen d)) is
