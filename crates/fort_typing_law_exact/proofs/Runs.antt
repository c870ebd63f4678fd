-- The function `run`, as it is said and as it is computed.
use Rattle.std.proofs.Common.{◌≡◌, ℕ, zero, suc, Bool, true, false, cond, List, [], ◌∷◌, codes, slice_get, Option, Some, None, refl, rules, ap, ◌∙◌, sym}
use Rattle.fort_base.specs.declared.ty.Ty.{Ty, out-Ty, the_lemmas}
use Rattle.fort_base.specs.declared.ty.Ty.TheOpen.{Ty-F}
use Rattle.fort_types.proofs.ByParts.{same_layers}
use Rattle.fort_types_sets.specs.declared.member.Member.{Member}
use Rattle.fort_types_sets.specs.declared.member.MemberSet.{MemberSet}
use Rattle.fort_typing_known.specs.Known.{Knows}
use Rattle.fort_typing_known.specs.Sets.{set_of}
use Rattle.fort_typing_rules.specs.Types.{unit}
use Rattle.fort_typing_rules.specs.Calls.{set_at}
use Rattle.fort_typing_rules.specs.Components.{HasRun}
use Rattle.fort_typing_meaning.specs.Whole.{is_unit_at, any_unit, runs_in, has_run}

out-unit : out-Ty unit ≡ Ty-F.Tuple []
out-unit = search (rules, the_lemmas)

unit-layer : (x : Ty-F Ty) → is_unit_at x ≡ true → x ≡ Ty-F.Tuple []
unit-layer (Ty-F.Tuple []) e = refl
unit-layer (Ty-F.Tuple (t ∷ ts)) e = absurd (let z : false ≡ true = e in cc)
unit-layer _ e = absurd (let z : false ≡ true = e in cc)

unit-told : (t : Ty) → is_unit_at (out-Ty t) ≡ true → t ≡ unit
unit-told t e = same_layers t unit (unit-layer (out-Ty t) e ∙ sym out-unit)

unit-is : (t : Ty) → t ≡ unit → is_unit_at (out-Ty t) ≡ true
unit-is t e = ap is_unit_at (ap out-Ty e ∙ out-unit)

abbrev UnitAt : List Member → Type 0
UnitAt ms = (n : ℕ) × (m : Member) × (slice_get ms n ≡ Some m) × (m.result ≡ unit)

any-told : (ms : List Member) → any_unit ms ≡ true → UnitAt ms
any-told [] e = absurd (let z : false ≡ true = e in cc)
any-told (m ∷ ms) e = by (λ h. any-told ms h) (is_unit_at (out-Ty m.result)) refl e
  where
    by : (any_unit ms ≡ true → UnitAt ms) → (c : Bool) → is_unit_at (out-Ty m.result) ≡ c
        → cond c true (any_unit ms) ≡ true → UnitAt (m ∷ ms)
    by more true u h = (0, m, refl, unit-told m.result u)
    by more false u h = let r = more h in (suc r.0, r.1, r.2, r.3)

always : (c : Bool) → cond c true true ≡ true
always true = refl
always false = refl

any-is : (ms : List Member) (n : ℕ) (m : Member) → slice_get ms n ≡ Some m → m.result ≡ unit
    → any_unit ms ≡ true
any-is [] n m e u = absurd cc
any-is (c ∷ ms) zero m e u =
    let q : c ≡ m = cc
    in ap (λ b. cond b true (any_unit ms)) (unit-is c.result (ap (λ (z : Member). z.result) q ∙ u))
any-is (c ∷ ms) (suc n) m e u =
    ap (λ b. cond (is_unit_at (out-Ty c.result)) true b) (any-is ms n m e u)
    ∙ always (is_unit_at (out-Ty c.result))

pub run-is : (k : Knows) → HasRun k → has_run k.facts ≡ true
unfolding has_run
run-is k R = ap runs_in R.is ∙ any-is R.set.members R.at R.declaration R.stands R.result

pub run-told : (k : Knows) → has_run k.facts ≡ true → HasRun k
unfolding has_run
run-told k e = by (set_at k (set_of k.facts (codes "run") false 0)) refl e
  where
    by : (o : Option MemberSet) → set_at k (set_of k.facts (codes "run") false 0) ≡ o
        → runs_in o ≡ true → HasRun k
    by None q h = absurd (let z : false ≡ true = h in cc)
    by (Some s) q h =
        let r = any-told s.members h
        in record { set = s; is = q; at = r.0; declaration = r.1; stands = r.2; result = r.3 }
