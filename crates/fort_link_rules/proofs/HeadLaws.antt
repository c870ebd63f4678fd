-- What the names of units, their imports and their exports break.
use Rattle.std.proofs.Common.{◌≡◌, ◌≤◌, [], ℕ, Bool, true, false, not, ◌||◌, List, Contains, IsTrue, Option, Some, None, length, take, sym, ap, ◌∙◌, subst, arith}
use Rattle.std.specs.Prelude.{◌==◌, Any, count_by, slice_get}
use Rattle.std.specs.List.{list_any}
use Rattle.std.proofs.lemmas.Bool.{eqb-false, eqb-true, ne_eqb, not-true, not_from_false}
use Rattle.std.proofs.lemmas.Option.{none-some, same_Some, slice_get_within}
use Rattle.fort_base.specs.declared.refusal.Place.{Place}
use Rattle.fort_base.specs.Places.{IsFirst}
use Rattle.fort_tree.specs.declared.declarations.Export.{Export}
use Rattle.fort_tree.specs.Tokens.{Spellings}
use Rattle.fort_link_units.specs.declared.unit.Api.{Api}
use Rattle.fort_link_units.specs.declared.unit.ComponentUnit.{ComponentUnit}
use Rattle.fort_link_units.specs.declared.unit.Import.{Import}
use Rattle.fort_link_units.specs.declared.unit.Unit.{Unit}
use Rattle.fort_link_units.specs.declared.unit.Unit.TheVariants as a_unit
use Rattle.fort_link_rules.specs.Heads.{is_like, DuplicateAt, IsDuplicate, IsUnknownImport, IsUnknownExport, UnknownIn, NotExportedOnce, IsNotOneMain}
use Rattle.fort_link_rules.specs.Places.{Gathers, IsThere}
use Rattle.fort_link_rules.specs.Units.{name_of, first_token, is_executable_api, exports, exports_executable}
use Rattle.fort_link_rules.proofs.Earliest.{not_same}
use Rattle.fort_link_rules.proofs.Gathering.{Below, first_of, gathers_both, gathers_by, gathers_same}

-- ---- 701

-- a unit breaks it where the test says so
pub duplicate_where : (names : Spellings) (units : List Unit) (k : ℕ) (u : Unit) (r : Bool)
    (at : Place) (old new : List Place) → slice_get units k ≡ Some u
    → r ≡ (list_any (λ other. is_like other u) (take k units) || is_executable_api names u)
    → at ≡ (name_of u).spot.place → Gathers (IsThere r at) old new
    → Gathers (DuplicateAt names units k) old new
duplicate_where names units k u r at old new e t p g =
    gathers_by (IsThere r at) (DuplicateAt names units k) old new (λ place w.
    (u, e, sym t ∙ w.0, sym p ∙ w.1)) from g
  where
    from : (place : Place) → DuplicateAt names units k place → IsThere r at place
    from place w =
        let s : w.0 ≡ u = same_Some w.0 u (sym w.1 ∙ e) in (
          t ∙ subst (λ v. IsTrue (list_any (λ other. is_like other v) (take k units)
              || is_executable_api names v)) s w.2,
          p ∙ subst (λ v. (name_of v).spot.place ≡ place) s w.3,
        )

pub duplicate_found : (names : Spellings) (units : List Unit) (i : ℕ) (places slice : List Place)
    (first : Option Place) → length units ≤ i
    → Gathers (Below (DuplicateAt names units) i) [] places → slice ≡ places
    → IsFirst (Contains slice) first → IsFirst (IsDuplicate names units) first
duplicate_found names units i places slice first le g e f =
    first_of (IsDuplicate names units) places first (gathers_by (Below (DuplicateAt names units) i)
    (IsDuplicate names units) [] places (λ place w. (w.0, w.2)) (λ place w.
    (w.0, let l = slice_get_within units w.0 w.1.0 w.1.1 in omega arith, w.1)) g)
    (subst (λ z. IsFirst (Contains z) first) e f)

-- ---- 702

pub unknown_of_component : (names : Spellings) (units : List Unit) (c : ComponentUnit) (unit : Unit)
    {imports : List Import} {exported : List Export} (old mid new : List Place)
    → unit ≡ a_unit.Component c → imports ≡ c.imports → exported ≡ c.exports
    → Gathers (λ place. Any (λ i. IsUnknownImport units i.name place) imports) old mid
    → Gathers (λ place. Any (λ e. IsUnknownExport names units e.name place) exported) mid new
    → Gathers (UnknownIn names units unit) old new
unknown_of_component names units c unit old mid new e i x g h =
    subst (λ u. Gathers (UnknownIn names units u) old new) (sym e) (gathers_both
    (λ place. Any (λ (i : Import). IsUnknownImport units i.name place) c.imports)
    (λ place. Any (λ (e : Export). IsUnknownExport names units e.name place) c.exports) old mid new
    (subst (λ is. Gathers (λ place. Any (λ (i : Import). IsUnknownImport units i.name place) is)
    old mid) i g) (subst (λ es. Gathers (λ place. Any (λ (e : Export). IsUnknownExport names units
    e.name place) es) mid new) x h))

pub unknown_of_api : (names : Spellings) (units : List Unit) (a : Api) (unit : Unit)
    (old : List Place) → unit ≡ a_unit.Api a → Gathers (UnknownIn names units unit) old old
unknown_of_api names units a unit old e =
    subst (λ u. Gathers (UnknownIn names units u) old old) (sym e)
    (gathers_same (UnknownIn names units (a_unit.Api a)) old (λ place w. w))

-- ---- 703

pub once_of_component : (units : List Unit) (c : ComponentUnit) (unit : Unit) (old : List Place)
    → unit ≡ a_unit.Component c → Gathers (NotExportedOnce units unit) old old
once_of_component units c unit old e =
    subst (λ u. Gathers (NotExportedOnce units u) old old) (sym e)
    (gathers_same (NotExportedOnce units (a_unit.Component c)) old (λ place w. w))

pub once_of_api : (units : List Unit) (a : Api) (unit : Unit) (r : Bool) (old new : List Place)
    → unit ≡ a_unit.Api a → r ≡ (count_by (exports a.name) units == 1)
    → Gathers (IsThere (not r) a.name.spot.place) old new
    → Gathers (NotExportedOnce units unit) old new
once_of_api units a unit r old new e c g =
    subst (λ u. Gathers (NotExportedOnce units u) old new) (sym e) (gathers_by
    (IsThere (not r) a.name.spot.place) (NotExportedOnce units (a_unit.Api a)) old new (λ place w.
    (eqb-false (count_by (exports a.name) units) 1 (sym c ∙ not-true r w.0), w.1)) (λ place w.
    (not_from_false r (c ∙ ne_eqb (count_by (exports a.name) units) 1 w.0), w.1)) g)

-- ---- 705

pub one_main : (names : Spellings) (units : List Unit) (r : Bool)
    → r ≡ (count_by (exports_executable names) units == 1) → r ≡ true
    → IsFirst (IsNotOneMain names units) None
one_main names units r c e place w =
    w.0 (eqb-true (count_by (exports_executable names) units) 1 (sym c ∙ e))

pub no_main_place : (names : Spellings) (units : List Unit) → slice_get units 0 ≡ None
    → IsFirst (IsNotOneMain names units) None
no_main_place names units e place w = none-some w.1.0 (sym e ∙ w.1.1)

pub main_place : (names : Spellings) (units : List Unit) (r : Bool) (first : Unit) (at : Place)
    → r ≡ (count_by (exports_executable names) units == 1) → r ≡ false
    → slice_get units 0 ≡ Some first → (first_token first).place ≡ at
    → IsFirst (IsNotOneMain names units) (Some at)
main_place names units r first at c n e p = record {
  breaks = (eqb-false (count_by (exports_executable names) units) 1 (sym c ∙ n), (first, e, p));
  none_before = λ other w b. not_same at other (sym p
      ∙ ap (λ u. (first_token u).place) (same_Some first w.1.0 (sym e ∙ w.1.1)) ∙ w.1.2) b;
}
