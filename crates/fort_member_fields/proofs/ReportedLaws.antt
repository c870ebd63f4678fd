-- From what is found of 451 and 452 to what is reported.
use Rattle.std.proofs.Common.{◌≡◌, ◌≤◌, inl, inr, ℕ, List, Result, Ok, Err, IfOk, IfErr, OnOk, None, sym, subst, arith}
use Rattle.fort_base.specs.declared.refusal.CheckFault.{CheckFault}
use Rattle.fort_base.specs.declared.refusal.CheckFault.TheVariants as a_fault
use Rattle.fort_base.specs.declared.refusal.Place.{Place}
use Rattle.fort_tree.specs.declared.declarations.Component.{Component}
use Rattle.fort_types.specs.Hierarchy.{DeclaredTypes}
use Rattle.fort_base.specs.Places.{IsFirst}
use Rattle.fort_hier.specs.Hierarchies.{declares, places_of}
use Rattle.fort_types_sets.specs.declared.field.Field.{Field}
use Rattle.fort_member_fields.specs.Own.{own_fields}
use Rattle.fort_member_fields.specs.Gathering.{HasAll}
use Rattle.fort_member_fields.specs.Rules.{IsDuplicate, IsNotBelow, Broken, duplicate, not_below, IsReported, IsFault, IsFieldRefusal}
use Rattle.fort_member_fields.specs.Answers.{IsKept, HasFields}
use Rattle.fort_member_fields.proofs.OnceLaws.{all_are}
use Rattle.fort_member_fields.proofs.ComponentLaws.{own_long, fewer_places, has_high}

pub reported : (c : Component) (fault : CheckFault)
    → IsFieldRefusal (declares c) (own_fields c) (places_of c) fault → IsFault c fault
reported c (a_fault.Refused rule place) w = elim w as (λ _. IsReported c rule.0 place) [
  | inl v ↦ record {
    earliest = record {
      breaks = duplicate v.0 v.1.breaks;
      none_before = λ other b before. at_451 other v.0 (λ d. v.1.none_before other d before) b;
    };
    lowest = λ other at b. least v.0 other at b;
  }
  | inr v ↦ record {
    earliest = record {
      breaks = not_below v.0 v.1.breaks;
      none_before = λ other b before. at_452 other v.0 (λ d. v.1.none_before other d before) b;
    };
    lowest = λ other at b. next v.0 v.2 other at b;
  }
]
  where
    at_451 : (other : Place) → rule.0 ≡ 451
        → (IsDuplicate (declares c) (own_fields c) (places_of c) other → ⊥) → Broken c rule.0 other
        → ⊥
    at_451 other e n (duplicate q d) = n d
    at_451 other e n (not_below q d) = omega arith

    at_452 : (other : Place) → rule.0 ≡ 452
        → (IsNotBelow (declares c) (own_fields c) (places_of c) other → ⊥) → Broken c rule.0 other
        → ⊥
    at_452 other e n (duplicate q d) = omega arith
    at_452 other e n (not_below q d) = n d

    least : rule.0 ≡ 451 → (other : ℕ) (at : Place) → Broken c other at → rule.0 ≤ other
    least e other at (duplicate q d) = omega arith
    least e other at (not_below q d) = omega arith

    next : rule.0 ≡ 452
        → ((at : Place) → IsDuplicate (declares c) (own_fields c) (places_of c) at → ⊥)
        → (other : ℕ) (at : Place) → Broken c other at → rule.0 ≤ other
    next e n other at (duplicate q d) = absurd (n at d)
    next e n other at (not_below q d) = omega arith
reported c a_fault.Memory w = w

pub none_broken : (c : Component)
    → IsFirst (IsDuplicate (declares c) (own_fields c) (places_of c)) None
    → IsFirst (IsNotBelow (declares c) (own_fields c) (places_of c)) None → IsKept c
none_broken c d n rule place (duplicate q w) = d place w
none_broken c d n rule place (not_below q w) = n place w

-- ---- from the lists that the code holds to the component

module _ (c : Component) where
  pub lists_by : (Q : DeclaredTypes → List (List Field) → List Place → Type 0) {h : DeclaredTypes}
      {own : List (List Field)} {places : List Place}
      → h ≡ declares c → own ≡ own_fields c → places ≡ places_of c → Q h own places
      → Q (declares c) (own_fields c) (places_of c)
  lists_by Q {own = own} {places = places} e f g w =
      subst (λ z. Q (declares c) (own_fields c) z) g
      (subst (λ z. Q (declares c) z places) f (subst (λ z. Q z own places) e w))

  pub lists_of : (Q : DeclaredTypes → List (List Field) → List Place → Type 0) {h : DeclaredTypes}
      {own : List (List Field)} {places : List Place}
      → h ≡ declares c → own ≡ own_fields c → places ≡ places_of c
      → Q (declares c) (own_fields c) (places_of c) → Q h own places
  lists_of Q {h = h} {own = own} e f g w =
      subst (Q h own) (sym g)
      (subst (λ z. Q h z (places_of c)) (sym f)
      (subst (λ z. Q z (own_fields c) (places_of c)) (sym e) w))

  pub has_fields : (r : Result (List (List Field)) CheckFault)
      → IfOk r (HasAll (declares c) (own_fields c))
      → OnOk r (IsFirst (IsDuplicate (declares c) (own_fields c) (places_of c)) None)
      → OnOk r (IsFirst (IsNotBelow (declares c) (own_fields c) (places_of c)) None)
      → IfOk r (HasFields c)
  has_fields (Ok all) t d n = record {
    kept = none_broken c d n;
    fields = all_are (declares c) (own_fields c) (places_of c) (fewer_places c) (has_high c) d all
        (own_long c) t;
  }
  has_fields (Err fault) t d n = t

  pub all_reported : (r : Result (List (List Field)) CheckFault)
      → IfErr r (IsFieldRefusal (declares c) (own_fields c) (places_of c)) → IfErr r (IsFault c)
  all_reported (Ok all) w = w
  all_reported (Err fault) w = reported c fault w
