-- Procedures of a schema, and that of the menu, are a pair's own.
use Rattle.std.proofs.Common.{◌≡◌, refl, sym, subst, ℕ, ℤ, pos, Bool, true, false, List, ◌&&◌, arith}
use Rattle.std.specs.Prelude.{Some}
use Rattle.std.specs.Str.{bytes_eq}
use Rattle.std.specs.Ordering.{int_eq}
use Rattle.std.proofs.lemmas.Slice.Eq.{bytes_eq-Decides}
use Rattle.bp_value.specs.Fits.{InRange}
use Rattle.bp_value.proofs.Fitted.{range_is}
use Rattle.rpc_schema.specs.Choice.{menu_description}
use Rattle.rpc_schema.specs.Entries.{AreEntries, IsDesc, IsVersion, menu_name}
use Rattle.rpc_schema.specs.declared.desc.Entry.{Entry}
use Rattle.rpc_schema.specs.declared.desc.RpcDesc.{RpcDesc}
use Rattle.rpc_schema.proofs.GoodLines.{good_unit}
use Rattle.rpc_schema.proofs.MenuValues.{menu_good}
use Rattle.rpc_meeting.specs.Talks.{line_named}
use Rattle.rpc_meeting.proofs.ActsRead.{line_entry}
use Rattle.rpc_pair.specs.Kept.{IsOwn}

version_range : (v : ℤ) → IsVersion v → InRange 62 v
version_range v (n, is, less) = subst (InRange 62) (sym is) ((range_is 62 (pos n)).1 (omega (arith, less)))

first_true : (a b : Bool) → (a && b) ≡ true → a ≡ true
first_true true b e = refl
first_true false b e = absurd cc

desc_own : (d : RpcDesc) → IsDesc d → IsOwn d
desc_own d is = record {
  callable = record { version = version_range d.version is.version; query = is.query; first = is.first; item = is.item; error = is.error };
  menu = λ e. absurd (is.name.other ((bytes_eq-Decides d.name menu_name).0 (first_true (bytes_eq d.name menu_name) (int_eq d.version (pos 1)) e)));
}

pub menu_own : IsOwn menu_description
menu_own = record {
  callable = record { version = version_range (pos 1) (1, refl, omega arith); query = good_unit; first = menu_good; item = good_unit; error = good_unit };
  menu = λ e. refl;
}

pub line_own : (es : List Entry) (tag : List ℕ) (version : ℤ) (e : Entry) → AreEntries es → line_named es tag version ≡ Some e → IsOwn e.desc
line_own es tag version e entries here = desc_own e.desc (line_entry es tag version e entries.each here).desc
