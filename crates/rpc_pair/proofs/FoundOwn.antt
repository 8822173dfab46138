-- A dispatch that was found is of a procedure of a pair's own.
use Rattle.std.proofs.Common.{◌≡◌, subst, ℕ, Bool, true, false, List, [], ◌∷◌, map, if◌then◌else◌}
use Rattle.std.specs.Prelude.{Option, Some, None, IfSome, MatchOption}
use Rattle.std.specs.Str.{bytes_eq}
use Rattle.readers.specs.Reader.{Each}
use Rattle.rpc_meeting.specs.Deeds.{find_label}
use Rattle.rpc_meeting.specs.Talks.{Dispatch}
use Rattle.rpc_meeting.proofs.Look.{no_some, some_is}
use Rattle.rpc_book.specs.Books.{Booked}
use Rattle.rpc_book.specs.declared.made.Made.{Made}
use Rattle.rpc_pair.specs.Kept.{IsKept, IsOwn}
use Rattle.rpc_pair.specs.Made.{made_dispatch}

pub found_own : (label : List ℕ) (ds : List Booked) (x : Dispatch) → Each IsKept ds → find_label label (map made_dispatch (map (λ d. d.made) ds)) ≡ Some x → IsOwn x.desc
found_own label [] x all here = absurd (no_some x here)
found_own label (d ∷ ds) x all here = by (bytes_eq d.made.label label) here (found_own label ds x all.1)
  where
    by : (b : Bool) → (if b then Some (made_dispatch d.made) else find_label label (map made_dispatch (map (λ e. e.made) ds))) ≡ Some x
        → (find_label label (map made_dispatch (map (λ e. e.made) ds)) ≡ Some x → IsOwn x.desc) → IsOwn x.desc
    by true same later = subst (λ (y : Dispatch). IsOwn y.desc) (some_is (made_dispatch d.made) x same) all.0.own
    by false same later = later same

pub seen_own : {A : Type 0} (label : List ℕ) (ds : List Booked) (o : Option A) (seen : A → Made) → Each IsKept ds
    → MatchOption o (find_label label (map made_dispatch (map (λ d. d.made) ds)) ≡ None) (λ a. find_label label (map made_dispatch (map (λ d. d.made) ds)) ≡ Some (made_dispatch (seen a)))
    → IfSome o (λ a. IsOwn (seen a).desc)
seen_own label ds None seen all found = tt
seen_own label ds (Some a) seen all found = found_own label ds (made_dispatch (seen a)) all found
