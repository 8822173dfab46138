-- How a `Boxed` stores its value: so a type may reach itself through it. It is the value to
-- contracts, and its one field a `Box`.
use mathlib.Core.Path.{refl}
use mathlib.Core.Former.{Former, this, const, pair, via}
use base.Stored.{gnil}
use base.Fml.{ftrue}
use denote.RattleType.{RattleType}
use denote.Memory.{part_of}
use denote.RawPtr.{Ptr}
use denote.Sharing.{nothing}
use denote.HoleLaws.{Alike}
use denote.HolePlaces.{Recodes, struct_places, laid, one_value}
use denote.Hole.Fix.{over}
use denote.Param.Weighed.{Weighed}
use denote.Model.Placed.{view_places}
use Rattle.std.specs.declared.boxed.Box.{Box}
use Rattle.std.specs.contracts.boxed.Box as box
use Rattle.std.specs.declared.alloc.Global.{Global}
use Rattle.std.specs.contracts.alloc.Global as heap
use Rattle.std.specs.contracts.impls.GlobalAllocator.TheImpl.{ghosts}
use Rattle.bp_value.specs.declared.boxed.Boxed.TheInside.{Inside}
use Rattle.bp_value.specs.declared.boxed.Boxed.TheView.{view, invariant}
use Rattle.bp_value.specs.contracts.boxed.Boxed as model
use Rattle.bp_value.specs.contracts.boxed.Boxed.TheInside as fields

-- the value itself
abbrev pub the_former : Former {0} → Former {0}
the_former value = value

abbrev pub the_weighed : {value : Former {0}} → Weighed value → Weighed (the_former value)
the_weighed weighed = weighed

-- the field: a pointer and an allocator, beside the value
abbrev stored : Former {0}
stored = via (pair (const (Ptr × Global)) this) Inside
    (λ X inside. ((inside.inner.ptr, inside.inner.alloc), inside.inner.value))
    (λ X held. record { inner = record { ptr = held.0.0; alloc = held.0.1; value = held.1 } })
    (λ X inside. refl) (λ X held. refl)

-- the same box with another value
abbrev with_value : {X Y : Type 0} → Box X Global → Y → Box Y Global
with_value held y = record { ptr = held.ptr; alloc = held.alloc; value = y }

abbrev box_of : RattleType → RattleType
box_of R = box.the_row R heap.the_row ghosts

module _ (R S : RattleType) (h : R.Denot → S.Denot) where
  box_places : Alike R S h → Alike (box_of R) (box_of S) (λ held. with_value held (h held.value))
  unfolding part_of
  box_places alike = record {
    mir_same = λ i. (box_of (one_value R (alike.mir_same i) (λ _. ftrue)
        (λ _ _. nothing) gnil)).mir;
    own_same = λ held i. (box_of (one_value R (alike.mir_same i) (alike.own_same held.value i)
        (alike.shr_same held.value i) gnil)).own_val (with_value held tt);
    shr_same = λ held i. (box_of (one_value R (alike.mir_same i) (alike.own_same held.value i)
        (alike.shr_same held.value i) gnil)).shr_at (with_value held tt);
  }

  pub the_places : Alike R S h → Alike (model.the_row R) (model.the_row S)
      ((the_former this).map R.Denot S.Denot h)
  the_places alike = view_places stored this view (λ X Y k u. refl) (λ X u. refl) R.Denot S.Denot h
      (model.the_row R).coded (model.the_row S).coded (invariant R.Denot) (invariant S.Denot)
      (λ u p q. refl) (λ u p q. refl) (λ u e. tt) (λ u e. tt) (over (fields.the_row R))
      (over (fields.the_row S))
      (struct_places (fields.the_type R) (fields.the_type S)
      ((λ held. with_value held (h held.value)), tt) _ (λ d. refl) refl
      (laid _ _ _ (box_places alike), tt))

  pub the_codes_placed : Recodes R S h → Recodes (model.the_row R) (model.the_row S)
      ((the_former this).map R.Denot S.Denot h)
  the_codes_placed same value = same value
