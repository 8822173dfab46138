-- Which dispatches of a book are printed: that at a place of it, and that of a label.
use Rattle.std.proofs.Common.{◌≡◌, refl, sym, ap, ◌∙◌, subst, ℕ, zero, suc, ◌+◌, ◌<◌, Bool, true, false, List, [], ◌∷◌, ◌++◌, length, map, take, drop, get_or, append_assoc, arith, if◌then◌else◌, Bor}
use Rattle.std.specs.Prelude.{Option, Some, None, Result, Ok, Err, IfSome, OnOk, option_copied, option_map}
use Rattle.std.specs.List.{find, flat_map}
use Rattle.std.specs.Str.{bytes_eq}
use Rattle.std.proofs.lemmas.List.{flat_map_more, map-append, take_more}
use Rattle.readers.specs.Reader.{Each}
use Rattle.rpc_book.specs.Books.{BookState, Booked, HaveDistinctIds, IsSound, find_booked, held_in}
use Rattle.rpc_book.specs.Calls.{ShowsBooked}
use Rattle.rpc_book.specs.declared.made.Made.{Made}
use Rattle.rpc_msg.specs.declared.shared.Ending.{Ending}
use Rattle.rpc_msg.specs.declared.shared.Ending.TheVariants as ending
use Rattle.rpc_msg.specs.declared.shared.Part.{Part}
use Rattle.rpc_msg.specs.declared.shared.Part.TheVariants as part
use Rattle.rpc_msg.specs.declared.shared.Received.{Received}
use Rattle.rpc_schema.specs.declared.desc.RpcDesc.{RpcDesc}
use Rattle.rpc_pair.specs.Kept.{IsKept}
use Rattle.rpc_pair.specs.Made.{has_label}
use Rattle.rpc_pair.specs.Sights.{Seen, seen_in}
use Rattle.rpc_pair.proofs.BookedAt.{each_at, element, found_at}
use Rattle.rpc_pair.proofs.HeldFits.{EndingFits, PartFits, held_fits}
use Rattle.rpc_pair.proofs.MappedFinds.{find_map}
use Rattle.rpc_report.specs.Dispatches.{IsEndingOf, IsPartOf, head_text, part_text}
use Rattle.rpc_tool.specs.Reports.{last_text, seen_text}
use Rattle.rpc_tool.specs.Rows.{IsRow}

-- ---- at a place

module _ (b : BookState) (sound : IsSound b) (kept : Each IsKept b.made) where
  -- what stands at a place does so whatever the default is
  any_default : {A : Type 0} (xs : List A) (k : ℕ) (x y : A) → k < length xs → get_or xs k x ≡ get_or xs k y
  any_default [] k x y less = absurd (omega (arith, less))
  any_default (a ∷ xs) zero x y less = refl
  any_default (a ∷ xs) (suc k) x y less = any_default xs k x y (omega (arith, less))

  length_made : (ds : List Booked) → length (map (λ d. d.made) ds) ≡ length ds
  length_made [] = refl
  length_made (d ∷ ds) = ap suc (length_made ds)

  pub row_at : (k : ℕ) (x default : Made) → k < length (map (λ d. d.made) b.made) → x ≡ get_or (map (λ d. d.made) b.made) k default
      → (d : Booked) × IsRow b x d × (take (k + 1) b.made ≡ take k b.made ++ d ∷ [])
  row_at k x default within is =
      let less : k < length b.made = omega (arith, within, length_made b.made) in
      let (d, at, same) = element b.made k x less (is ∙ any_default (map (λ d. d.made) b.made) k default x within) in (
        d,
        record {
          sound = sound;
          found = subst (λ (m : Made). find_booked m.id b.made ≡ Some d) same (found_at b.made k d sound.ids less at);
          same = same;
          kept = each_at IsKept b.made k d kept less at;
        },
        take_more b.made k d less ∙ ap (λ e. take k b.made ++ e ∷ []) (at d),
      )

  -- the same where the dispatches are a list of their own
  pub row_in : (ms : List Made) → ms ≡ map (λ d. d.made) b.made → (k : ℕ) (x default : Made) → k < length ms → x ≡ get_or ms k default
      → (d : Booked) × IsRow b x d × (take (k + 1) b.made ≡ take k b.made ++ d ∷ [])
  row_in ms same k x default within is =
      row_at k x default (subst (λ l. k < length l) same within) (is ∙ ap (λ l. get_or l k default) same)

  -- ---- of a label

  -- the first that passes a test stands somewhere
  found_place : (p : Booked → Bool) (ds : List Booked) (d : Booked) → find p ds ≡ Some d → (k : ℕ) × (k < length ds) × ((e : Booked) → get_or ds k e ≡ d)
  found_place p [] d is = absurd cc
  found_place p (x ∷ ds) d is = by (p x) is (found_place p ds d)
    where
      by : (t : Bool) → (if t then Some x else find p ds) ≡ Some d → (find p ds ≡ Some d → (k : ℕ) × (k < length ds) × ((e : Booked) → get_or ds k e ≡ d))
          → (k : ℕ) × (k < suc (length ds)) × ((e : Booked) → get_or (x ∷ ds) k e ≡ d)
      by true same later = (0, omega arith, λ e. some_same x d same)
        where
          some_same : (a c : Booked) → Some a ≡ Some c → a ≡ c
          some_same a c h = cc
      by false there later = let (k, less, at) = later there in (suc k, omega (arith, less), at)

  -- that of a label is a row
  pub row_of : (label : List ℕ) (x : Made) → find (has_label label) (map (λ d. d.made) b.made) ≡ Some x
      → (d : Booked) × IsRow b x d × (find (λ (s : Seen). bytes_eq s.label label) (map (seen_in b) b.made) ≡ Some (seen_in b d))
  row_of label x is = by (find (λ (d : Booked). has_label label d.made) b.made) refl
    where
      by : (o : Option Booked) → find (λ (d : Booked). has_label label d.made) b.made ≡ o
          → (d : Booked) × IsRow b x d × (find (λ (s : Seen). bytes_eq s.label label) (map (seen_in b) b.made) ≡ Some (seen_in b d))
      by None none = absurd (apart x (sym is ∙ (find_map (λ (d : Booked). d.made) (has_label label) b.made ∙ ap (option_map (λ (d : Booked). d.made)) none)))
        where
          apart : (m : Made) → Some m ≡ None → ⊥
          apart m h = cc
      by (Some d) here =
          let (k, less, at) = found_place (λ (d : Booked). has_label label d.made) b.made d here in
          let same : d.made ≡ x = some_same d.made x (sym (find_map (λ (d : Booked). d.made) (has_label label) b.made ∙ ap (option_map (λ (d : Booked). d.made)) here) ∙ is) in (
            d,
            record {
              sound = sound;
              found = subst (λ (m : Made). find_booked m.id b.made ≡ Some d) same (found_at b.made k d sound.ids less at);
              same = same;
              kept = each_at IsKept b.made k d kept less at;
            },
            find_map (seen_in b) (λ (s : Seen). bytes_eq s.label label) b.made ∙ ap (option_map (seen_in b)) here,
          )
        where
          some_same : (a c : Made) → Some a ≡ Some c → a ≡ c
          some_same a c h = cc

-- and where none has it nothing is seen
pub none_of : (b : BookState) (label : List ℕ) → find (has_label label) (map (λ d. d.made) b.made) ≡ None → find (λ (s : Seen). bytes_eq s.label label) (map (seen_in b) b.made) ≡ None
none_of b label is = by (find (λ (d : Booked). has_label label d.made) b.made) refl
  where
    by : (o : Option Booked) → find (λ (d : Booked). has_label label d.made) b.made ≡ o → find (λ (s : Seen). bytes_eq s.label label) (map (seen_in b) b.made) ≡ None
    by None none = find_map (seen_in b) (λ (s : Seen). bytes_eq s.label label) b.made ∙ ap (option_map (seen_in b)) none
    by (Some d) here = absurd (apart d.made (sym (find_map (λ (d : Booked). d.made) (has_label label) b.made ∙ ap (option_map (λ (d : Booked). d.made)) here) ∙ is))
      where
        apart : (m : Made) → Some m ≡ None → ⊥
        apart m h = cc

-- ---- what is printed of a row

-- a value of a form is one of it, however long
part_printed : (m : ℕ) (d : RpcDesc) (p : Part) → PartFits m d p → IsPartOf d p
part_printed m d (part.First v) fits = (m, fits)
part_printed m d (part.Item v) fits = (m, fits)

parts_printed : (m : ℕ) (d : RpcDesc) (ps : List Part) → Each (PartFits m d) ps → Each (IsPartOf d) ps
parts_printed m d [] fit = tt
parts_printed m d (p ∷ ps) (one, fit) = (part_printed m d p one, parts_printed m d ps fit)

ending_printed : (m : ℕ) (d : RpcDesc) (o : Option Ending) → EndingFits m d o → IfSome o (IsEndingOf d)
ending_printed m d None fits = tt
ending_printed m d (Some (ending.Reply v)) fits = (m, fits)
ending_printed m d (Some (ending.Declined v)) fits = (m, fits)
ending_printed m d (Some (ending.Failed e)) fits = tt
ending_printed m d (Some (ending.BadReply f)) fits = tt
ending_printed m d (Some ending.Eof) fits = tt
ending_printed m d (Some ending.Aborted) fits = tt
ending_printed m d (Some ending.Sent) fits = tt
ending_printed m d (Some ending.Closed) fits = tt

module _ (b : BookState) (made : Made) (d : Booked) (row : IsRow b made d) (shown : Received) (shows : ShowsBooked b (Some shown) (find_booked made.id b.made)) where
  here : (d.handed ≡ false) × (shown.parts.now ≡ drop d.made.taken (held_in b d).parts) × (option_copied shown.ending ≡ (held_in b d).ending)
  here = subst (ShowsBooked b (Some shown)) row.found shows

  parts_are : shown.parts.now ≡ (held_in b d).parts
  parts_are = here.1 ∙ ap (λ n. drop n (held_in b d).parts) row.kept.whole

  ending_is : option_copied shown.ending ≡ (held_in b d).ending
  ending_is = here.2

  fits : Each (PartFits b.limits.max_message d.made.desc) (held_in b d).parts × EndingFits b.limits.max_message d.made.desc (held_in b d).ending
  fits = held_fits b d row.sound.bytes row.kept.own.callable

  pub parts_of_row : Each (IsPartOf made.desc) shown.parts.now
  parts_of_row =
      subst (λ (m : Made). Each (IsPartOf m.desc) shown.parts.now) row.same
      (subst (Each (IsPartOf d.made.desc)) (sym parts_are) (parts_printed b.limits.max_message d.made.desc (held_in b d).parts fits.0))

  pub ending_of_row : IfSome (option_copied shown.ending) (IsEndingOf made.desc)
  ending_of_row =
      subst (λ (m : Made). IfSome (option_copied shown.ending) (IsEndingOf m.desc)) row.same
      (subst (λ o. IfSome o (IsEndingOf d.made.desc)) (sym ending_is) (ending_printed b.limits.max_message d.made.desc (held_in b d).ending fits.1))

  -- the head, the parts and the ending are the lines of the dispatch
  pub row_written : (old head parts all : List ℕ) → head ≡ old ++ head_text made.label made.id made.desc.name made.desc.version
      → parts ≡ head ++ flat_map (part_text made.desc) shown.parts.now → all ≡ parts ++ last_text made.desc (option_copied shown.ending)
      → all ≡ old ++ seen_text (seen_in b d)
  row_written old head parts all one two three =
      let first = head_text made.label made.id made.desc.name made.desc.version in
      let middle = flat_map (part_text made.desc) shown.parts.now in
      let last = last_text made.desc (option_copied shown.ending) in
      three
      ∙ (ap (λ t. t ++ last) (two ∙ ap (λ t. t ++ middle) one)
      ∙ (append_assoc (old ++ first) middle last
      ∙ (append_assoc old first (middle ++ last)
      ∙ ap (λ t. old ++ t) written)))
    where
      written : head_text made.label made.id made.desc.name made.desc.version
          ++ (flat_map (part_text made.desc) shown.parts.now ++ last_text made.desc (option_copied shown.ending)) ≡ seen_text (seen_in b d)
      written =
          ap (λ ps. head_text made.label made.id made.desc.name made.desc.version ++ (flat_map (part_text made.desc) ps ++ last_text made.desc (option_copied shown.ending))) parts_are
          ∙ (ap (λ o. head_text made.label made.id made.desc.name made.desc.version ++ (flat_map (part_text made.desc) (held_in b d).parts ++ last_text made.desc o)) ending_is
          ∙ sym (ap (λ (m : Made). head_text m.label m.id m.desc.name m.desc.version ++ (flat_map (part_text m.desc) (held_in b d).parts ++ last_text m.desc (held_in b d).ending)) row.same))

-- one row more
pub rows_more : (b : BookState) (d : Booked) (k : ℕ) (start written now : List ℕ) → take (k + 1) b.made ≡ take k b.made ++ d ∷ []
    → written ≡ start ++ flat_map seen_text (map (seen_in b) (take k b.made)) → now ≡ written ++ seen_text (seen_in b d)
    → now ≡ start ++ flat_map seen_text (map (seen_in b) (take (k + 1) b.made))
rows_more b d k start written now more before is =
    is
    ∙ (ap (λ t. t ++ seen_text (seen_in b d)) before
    ∙ (flat_map_more seen_text start (map (seen_in b) (take k b.made)) (seen_in b d)
    ∙ ap (λ ss. start ++ flat_map seen_text ss) (sym (ap (map (seen_in b)) more ∙ map-append (seen_in b) (take k b.made) (d ∷ [])))))

-- an answer that holds of what was written so holds of it written so
pub on_ok : {E A B : Type 0} (r : Result (Unit {0}) E) → (A → B) → OnOk r A → OnOk r B
on_ok (Ok u) f a = f a
on_ok (Err e) f a = tt
