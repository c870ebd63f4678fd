-- Before a run.
use Rattle.std.proofs.Common.{◌≡◌, ◌≢◌, ℕ, zero, suc, ◌+◌, ◌<◌, ◌≤◌, ◌==◌, if◌then◌else◌, Bool, true, false, List, [], ◌∷◌, length, Some, None, refl, ap, sym, ◌∙◌, subst, arith, rules}
use Rattle.std.specs.Prelude.{slice_get}
use Rattle.fort_base.specs.declared.ids.Loc.{Loc}
use Rattle.fort_core.specs.declared.program.Program.{Program}
use Rattle.fort_core.specs.declared.term.Term.{Term}
use Rattle.fort_core.specs.declared.value.Value.{Value}
use Rattle.fort_machine.specs.Journals.{opening_store, value_in}
use Rattle.fort_frames.specs.Frames.{frames}
use Rattle.fort_frames.specs.declared.place.Place.{Place}
use Rattle.fort_store_effects.specs.Levels.{levels_of, first_levels, spent}
use Rattle.fort_walk_law_course.specs.Course.{NothingFrom}
use Rattle.fort_walk_law_course.proofs.Keeps.{begins}
use Rattle.fort_walk_course.specs.declared.course.Course.{Course}
use Rattle.fort_walk_course.specs.Courses.{StandsAt, inwards}
use Rattle.fort_walk_course.proofs.Around.{course_by}

-- so many of some entries have numbers below this one
abbrev pub AllPast : List (Loc × Value) → ℕ → ℕ → Type 0
AllPast es count fresh = (k : ℕ) (e : Loc × Value) → k < count → slice_get es k ≡ Some e
    → e.0.0 < fresh

pub none_yet : (es : List (Loc × Value)) (fresh : ℕ) → AllPast es 0 fresh
none_yet es fresh k e low q = let f : ⊥ = omega (arith, low) in absurd f

pub one_more : (es : List (Loc × Value)) (count fresh next : ℕ) (e : Loc × Value)
    → AllPast es count fresh → slice_get es count ≡ Some e → e.0.0 < next → fresh ≤ next
    → AllPast es (count + 1) next
one_more es count fresh next e h q less up k x low w = go (k == count) refl
  where
    go : (b : Bool) → (k == count) ≡ b → x.0.0 < next
    go true z =
        let same : k ≡ count = search (rules, z) in
        let y : Some x ≡ Some e = sym w ∙ ap (slice_get es) same ∙ q in
        let z : x ≡ e = cc in subst (λ (u : Loc × Value). u.0.0 < next) (sym z) less
    go false z =
        let apart : k ≢ count = search (rules, z) in
        let other : k < count = omega (arith, low, apart) in
        let less2 = h k x other w in omega (arith, less2, up)

none_at : (es : List (Loc × Value)) (fresh l : ℕ)
    → ((k : ℕ) (e : Loc × Value) → slice_get es k ≡ Some e → e.0.0 < fresh) → fresh ≤ l
    → value_in es l ≡ None
none_at [] fresh l h low = refl
none_at (e ∷ es) fresh l h low =
    go (e.0.0 == l) refl (none_at es fresh l (λ k x q. h (suc k) x q) low)
  where
    go : (b : Bool) → (e.0.0 == l) ≡ b → value_in es l ≡ None
        → (if e.0.0 == l then Some e.1 else value_in es l) ≡ None
    go true q rest =
        let same : e.0.0 ≡ l = search (rules, q) in
        let less = h 0 e refl in
        let f : ⊥ = omega (arith, same, less, low) in absurd f
    go false q rest = ap (λ b. if b then Some e.1 else value_in es l) q ∙ rest

within : (es : List (Loc × Value)) (k : ℕ) (e : Loc × Value) → slice_get es k ≡ Some e
    → k < length es
within [] zero e q = absurd cc
within [] (suc k) e q = absurd cc
within (x ∷ es) zero e q = omega arith
within (x ∷ es) (suc k) e q = let h = within es k e q in omega (arith, h)

pub none_from : (es : List (Loc × Value)) (count fresh l : ℕ) → AllPast es count fresh
    → length es ≤ count → fresh ≤ l → value_in es l ≡ None
none_from es count fresh l h all low =
    none_at es fresh l (λ k e q. let i = within es k e q in h k e (omega (arith, i, all)) q) low

pub first_stands : (p : Program) (c : Course) (place : Place) (first : Term) → first ≡ p.first
    → levels_of c.layers ≡ first_levels p → c.picks ≡ [] → c.outer ≡ [] → c.spent ≡ 0
    → frames place.stack ≡ [] → NothingFrom c.fresh (opening_store p)
    → StandsAt p c place first
first_stands p c place first same levels picks outer none at nothing =
    subst (StandsAt p c place) (sym same) (record {
      course = course_by p c.fuel c.fuel (first_levels p) (levels_of c.layers) [] c.picks []
          (inwards c.outer []) c.clock c.clock c.fresh c.fresh place p.first refl levels picks
          (ap (λ o. inwards o []) outer) refl refl
          (begins p c.fuel c.clock c.fresh place at nothing);
      is_spent = none ∙ sym (ap spent levels);
    })
