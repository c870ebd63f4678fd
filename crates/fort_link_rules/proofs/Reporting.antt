-- From the first broken one of the rules 701 to 707 to what is reported.
use Rattle.std.proofs.Common.{◌≡◌, ◌≤◌, ◌+◌, ◌⊎◌, inl, inr, ℕ, List, None, Some, Option, Result, Ok, Err, IfOk, refl, subst, arith}
use Rattle.fort_base.specs.declared.refusal.Place.{Place}
use Rattle.fort_base.specs.Places.{IsFirst}
use Rattle.fort_tree.specs.Tokens.{Spellings}
use Rattle.fort_link_units.specs.declared.unit.Unit.{Unit}
use Rattle.fort_link_rules.specs.declared.reports.Broken.{Broken}
use Rattle.fort_link_rules.specs.Heads.{IsDuplicate, IsUnknown, IsNotOneExporter, IsNotOneMain}
use Rattle.fort_link_rules.specs.Imported.{IsNotImported}
use Rattle.fort_link_rules.specs.Provided.{IsNotProvided}
use Rattle.fort_link_rules.specs.Reports.{Breaks, duplicate, unknown, exported, provided, main, imported, much, IsFirstBroken, IsReportedFrom, IsFirstBrokenFrom}
use Rattle.fort_link_rules.specs.TooMuch.{IsTooMuch}

at_or_above : (n rule : ℕ) → n ≤ rule → (rule ≡ n) ⊎ (n + 1 ≤ rule)
at_or_above n rule le = grind arith

-- after a call that may want memory
pub if_ok : {A E : Type 0} (r : Result A E) {P Q : A → Type 0} → ((a : A) → P a → Q a)
    → IfOk r P → IfOk r Q
if_ok (Ok a) f h = f a h
if_ok (Err e) f h = h

module _ (names : Spellings) (units : List Unit) where
  -- what breaks the rule of a number, in the rule's own words
  abbrev Says : ℕ → (Place → Type 0) → Type 0
  Says n P = (rule : ℕ) (place : Place) → rule ≡ n → Breaks names units rule place → P place

  -- the rule of the bound is broken
  found : (n : ℕ) (P : Place → Type 0) (first : Option Place) (at : Place) → Says n P
      → ((place : Place) → P place → Breaks names units n place) → first ≡ Some at
      → IsFirst P first
      → IsReportedFrom names units n (record { rule = record { 0 = n }; place = at })
  found n P first at says breaks e f = let g : IsFirst P (Some at) = subst (IsFirst P) e f in record {
    earliest = record {
      breaks = breaks at g.breaks;
      none_before = λ other b. g.none_before other (says n other refl b);
    };
    above = omega arith;
    lowest = λ rule place l b. l;
  }

  -- it isn't, so that what holds from the next on holds from it on
  passed : (n : ℕ) (P : Place → Type 0) (first : Option Place) → Says n P → first ≡ None
      → IsFirst P first → (r : Option Broken) → IsFirstBrokenFrom names units (n + 1) r
      → IsFirstBrokenFrom names units n r
  passed n P first says e f None h =
      λ rule place l b. elim (at_or_above n rule l) as (λ _. ⊥) [
        | inl q ↦ none place (says rule place q b)
        | inr m ↦ h rule place m b
      ]
    where
      none : (place : Place) → P place → ⊥
      none = subst (IsFirst P) e f
  passed n P first says e f (Some broken) h = record {
    earliest = h.earliest;
    above = let l = h.above in omega arith;
    lowest = λ rule place l b. elim (at_or_above n rule l) as (λ _. broken.rule.0 ≤ rule) [
      | inl q ↦ absurd (none place (says rule place q b))
      | inr m ↦ h.lowest rule place m b
    ];
  }
    where
      none : (place : Place) → P place → ⊥
      none = subst (IsFirst P) e f

  since_701 : (rule : ℕ) (place : Place) → Breaks names units rule place → 701 ≤ rule
  since_701 rule place (duplicate e w) = omega arith
  since_701 rule place (unknown e w) = omega arith
  since_701 rule place (exported e w) = omega arith
  since_701 rule place (provided e w) = omega arith
  since_701 rule place (main e w) = omega arith
  since_701 rule place (imported e w) = omega arith
  since_701 rule place (much e w) = omega arith

  -- the first broken one from 701 on is that of all
  pub first_of_all : (r : Option Broken) → IsFirstBrokenFrom names units 701 r
      → IsFirstBroken names units r
  first_of_all None h = λ rule place b. h rule place (since_701 rule place b) b
  first_of_all (Some broken) h =
      record {
        earliest = h.earliest;
        lowest = λ rule place b. h.lowest rule place (since_701 rule place b) b;
      }

  -- behind the last rule there is none
  none_left : IsFirstBrokenFrom names units 708 None
  none_left rule place l (duplicate e w) = omega arith
  none_left rule place l (unknown e w) = omega arith
  none_left rule place l (exported e w) = omega arith
  none_left rule place l (provided e w) = omega arith
  none_left rule place l (main e w) = omega arith
  none_left rule place l (imported e w) = omega arith
  none_left rule place l (much e w) = omega arith

  says_701 : Says 701 (IsDuplicate names units)
  says_701 rule place q (duplicate e w) = w
  says_701 rule place q (unknown e w) = absurd (omega arith)
  says_701 rule place q (exported e w) = absurd (omega arith)
  says_701 rule place q (provided e w) = absurd (omega arith)
  says_701 rule place q (main e w) = absurd (omega arith)
  says_701 rule place q (imported e w) = absurd (omega arith)
  says_701 rule place q (much e w) = absurd (omega arith)

  pub found_701 : (first : Option Place) (at : Place) → first ≡ Some at → IsFirst (IsDuplicate names units) first
      → IsReportedFrom names units 701 (record { rule = record { 0 = 701 }; place = at })
  found_701 first at e f =
      found 701 (IsDuplicate names units) first at says_701 (λ place w. duplicate refl w) e f

  pub passed_701 : (first : Option Place) → first ≡ None → IsFirst (IsDuplicate names units) first
      → (r : Option Broken) → IsFirstBrokenFrom names units 702 r
      → IsFirstBrokenFrom names units 701 r
  passed_701 first e f r h = passed 701 (IsDuplicate names units) first says_701 e f r h

  says_702 : Says 702 (IsUnknown names units)
  says_702 rule place q (duplicate e w) = absurd (omega arith)
  says_702 rule place q (unknown e w) = w
  says_702 rule place q (exported e w) = absurd (omega arith)
  says_702 rule place q (provided e w) = absurd (omega arith)
  says_702 rule place q (main e w) = absurd (omega arith)
  says_702 rule place q (imported e w) = absurd (omega arith)
  says_702 rule place q (much e w) = absurd (omega arith)

  pub found_702 : (first : Option Place) (at : Place) → first ≡ Some at → IsFirst (IsUnknown names units) first
      → IsReportedFrom names units 702 (record { rule = record { 0 = 702 }; place = at })
  found_702 first at e f =
      found 702 (IsUnknown names units) first at says_702 (λ place w. unknown refl w) e f

  pub passed_702 : (first : Option Place) → first ≡ None → IsFirst (IsUnknown names units) first
      → (r : Option Broken) → IsFirstBrokenFrom names units 703 r
      → IsFirstBrokenFrom names units 702 r
  passed_702 first e f r h = passed 702 (IsUnknown names units) first says_702 e f r h

  says_703 : Says 703 (IsNotOneExporter units)
  says_703 rule place q (duplicate e w) = absurd (omega arith)
  says_703 rule place q (unknown e w) = absurd (omega arith)
  says_703 rule place q (exported e w) = w
  says_703 rule place q (provided e w) = absurd (omega arith)
  says_703 rule place q (main e w) = absurd (omega arith)
  says_703 rule place q (imported e w) = absurd (omega arith)
  says_703 rule place q (much e w) = absurd (omega arith)

  pub found_703 : (first : Option Place) (at : Place) → first ≡ Some at → IsFirst (IsNotOneExporter units) first
      → IsReportedFrom names units 703 (record { rule = record { 0 = 703 }; place = at })
  found_703 first at e f =
      found 703 (IsNotOneExporter units) first at says_703 (λ place w. exported refl w) e f

  pub passed_703 : (first : Option Place) → first ≡ None → IsFirst (IsNotOneExporter units) first
      → (r : Option Broken) → IsFirstBrokenFrom names units 704 r
      → IsFirstBrokenFrom names units 703 r
  passed_703 first e f r h = passed 703 (IsNotOneExporter units) first says_703 e f r h

  says_704 : Says 704 (IsNotProvided units)
  says_704 rule place q (duplicate e w) = absurd (omega arith)
  says_704 rule place q (unknown e w) = absurd (omega arith)
  says_704 rule place q (exported e w) = absurd (omega arith)
  says_704 rule place q (provided e w) = w
  says_704 rule place q (main e w) = absurd (omega arith)
  says_704 rule place q (imported e w) = absurd (omega arith)
  says_704 rule place q (much e w) = absurd (omega arith)

  pub found_704 : (first : Option Place) (at : Place) → first ≡ Some at → IsFirst (IsNotProvided units) first
      → IsReportedFrom names units 704 (record { rule = record { 0 = 704 }; place = at })
  found_704 first at e f =
      found 704 (IsNotProvided units) first at says_704 (λ place w. provided refl w) e f

  pub passed_704 : (first : Option Place) → first ≡ None → IsFirst (IsNotProvided units) first
      → (r : Option Broken) → IsFirstBrokenFrom names units 705 r
      → IsFirstBrokenFrom names units 704 r
  passed_704 first e f r h = passed 704 (IsNotProvided units) first says_704 e f r h

  says_705 : Says 705 (IsNotOneMain names units)
  says_705 rule place q (duplicate e w) = absurd (omega arith)
  says_705 rule place q (unknown e w) = absurd (omega arith)
  says_705 rule place q (exported e w) = absurd (omega arith)
  says_705 rule place q (provided e w) = absurd (omega arith)
  says_705 rule place q (main e w) = w
  says_705 rule place q (imported e w) = absurd (omega arith)
  says_705 rule place q (much e w) = absurd (omega arith)

  pub found_705 : (first : Option Place) (at : Place) → first ≡ Some at → IsFirst (IsNotOneMain names units) first
      → IsReportedFrom names units 705 (record { rule = record { 0 = 705 }; place = at })
  found_705 first at e f =
      found 705 (IsNotOneMain names units) first at says_705 (λ place w. main refl w) e f

  pub passed_705 : (first : Option Place) → first ≡ None → IsFirst (IsNotOneMain names units) first
      → (r : Option Broken) → IsFirstBrokenFrom names units 706 r
      → IsFirstBrokenFrom names units 705 r
  passed_705 first e f r h = passed 705 (IsNotOneMain names units) first says_705 e f r h

  says_706 : Says 706 (IsNotImported units)
  says_706 rule place q (duplicate e w) = absurd (omega arith)
  says_706 rule place q (unknown e w) = absurd (omega arith)
  says_706 rule place q (exported e w) = absurd (omega arith)
  says_706 rule place q (provided e w) = absurd (omega arith)
  says_706 rule place q (main e w) = absurd (omega arith)
  says_706 rule place q (imported e w) = w
  says_706 rule place q (much e w) = absurd (omega arith)

  pub found_706 : (first : Option Place) (at : Place) → first ≡ Some at → IsFirst (IsNotImported units) first
      → IsReportedFrom names units 706 (record { rule = record { 0 = 706 }; place = at })
  found_706 first at e f =
      found 706 (IsNotImported units) first at says_706 (λ place w. imported refl w) e f

  pub passed_706 : (first : Option Place) → first ≡ None → IsFirst (IsNotImported units) first
      → (r : Option Broken) → IsFirstBrokenFrom names units 707 r
      → IsFirstBrokenFrom names units 706 r
  passed_706 first e f r h = passed 706 (IsNotImported units) first says_706 e f r h

  says_707 : Says 707 (IsTooMuch units)
  says_707 rule place q (duplicate e w) = absurd (omega arith)
  says_707 rule place q (unknown e w) = absurd (omega arith)
  says_707 rule place q (exported e w) = absurd (omega arith)
  says_707 rule place q (provided e w) = absurd (omega arith)
  says_707 rule place q (main e w) = absurd (omega arith)
  says_707 rule place q (imported e w) = absurd (omega arith)
  says_707 rule place q (much e w) = w

  pub found_707 : (first : Option Place) (at : Place) → first ≡ Some at → IsFirst (IsTooMuch units) first
      → IsReportedFrom names units 707 (record { rule = record { 0 = 707 }; place = at })
  found_707 first at e f =
      found 707 (IsTooMuch units) first at says_707 (λ place w. much refl w) e f

  pub passed_707 : (first : Option Place) → first ≡ None → IsFirst (IsTooMuch units) first
      → IsFirstBrokenFrom names units 707 None
  passed_707 first e f = passed 707 (IsTooMuch units) first says_707 e f None none_left
