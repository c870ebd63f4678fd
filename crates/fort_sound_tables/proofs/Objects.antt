-- An object whose fields are all for the component leads to open locations alone.
use Rattle.std.proofs.Common.{◌≡◌, ℕ, ◌+◌, ◌<◌, ◌==◌, Bool, true, false, if◌then◌else◌, List, [], ◌∷◌, length, Option, Some, None, refl, ap, sym, ◌∙◌, subst, arith}
use Rattle.std.specs.Prelude.{slice_get, option_map, option_and_then}
use Rattle.fort_base.specs.declared.ids.Loc.{Loc}
use Rattle.fort_base.specs.declared.ids.NameId.{NameId}
use Rattle.fort_base.specs.declared.ids.TypeId.{TypeId}
use Rattle.fort_core.specs.declared.program.CoreField.{CoreField}
use Rattle.fort_core.specs.declared.program.CoreShape.{CoreShape}
use Rattle.fort_core.specs.declared.program.Program.{Program}
use Rattle.fort_core.specs.declared.term.Term.TheOpen.{Value-F}
use Rattle.fort_machine.specs.Forms.{place_of}
use Rattle.fort_threads_law_private.specs.Grounds.{Open, AreOpen}
use Rattle.fort_threads_law_private.specs.Private.{LeadsToOpen}
use Rattle.fort_sound_tables.specs.declared.numbers.Numbers.{Numbers}
use Rattle.fort_sound_tables.specs.Numbers.{names}
use Rattle.fort_sound_tables.specs.Leaves.{ground_of}
use Rattle.fort_sound_tables.proofs.Lists.{some_is}

-- the place of a field is one of its type
place_within : (f : NameId) (cs : List CoreField) (n : ℕ) → place_of f cs ≡ Some n → n < length cs
place_within f [] n e = absurd cc
place_within f (c ∷ cs) n e =
    go (c.name.0 == f.0) (place_of f cs) refl e (λ k q. place_within f cs k q)
  where
    go : (b : Bool) (o : Option ℕ) → place_of f cs ≡ o
        → (if b then Some 0 else option_map (λ (k : ℕ). k + 1) o) ≡ Some n
        → ((k : ℕ) → place_of f cs ≡ Some k → k < length cs) → n < length (c ∷ cs)
    go true o q w r = let z : 0 ≡ n = some_is 0 n w in omega (arith, z)
    go false None q w r = absurd cc
    go false (Some k) q w r =
        let z : k + 1 ≡ n = some_is (k + 1) n w in
        omega (arith, z, r k q)

module _ (p : Program) (x : Numbers) (ty : TypeId) (base : Loc) where
  placed : (s : CoreShape) → AreOpen (ground_of p x) base.0 (length s.fields) → (f : NameId) (l : ℕ)
      → option_map (λ (n : ℕ). base.0 + n) (place_of f s.fields) ≡ Some l
      → Open (ground_of p x) l
  placed s o f l e = go (place_of f s.fields) refl e
    where
      go : (i : Option ℕ) → place_of f s.fields ≡ i
          → option_map (λ (n : ℕ). base.0 + n) i ≡ Some l → Open (ground_of p x) l
      go None q w = absurd cc
      go (Some n) q w =
          subst (λ (m : ℕ). Open (ground_of p x) m) (some_is (base.0 + n) l w)
          (o n (place_within f s.fields n q))

  pub leads_by : (s : CoreShape) → (ty ≡ x.types.thread → ⊥) → slice_get p.shapes ty.0 ≡ Some s
      → AreOpen (ground_of p x) base.0 (length s.fields)
      → LeadsToOpen p (names x) (ground_of p x) (Value-F.Object ty base)
  leads_by s other e o = (
    λ f l spares q.
        placed s o f l
        (sym (ap (λ (i : Option CoreShape). option_and_then (λ (z : CoreShape).
        option_map (λ (n : ℕ). base.0 + n) (place_of f z.fields)) i) e) ∙ q),
    λ q. absurd (other q),
  )
