-- How a run begins, by the opening store.
use Rattle.std.proofs.Common.{◌≡◌, ℕ, ◌==◌, ◌&&◌, ◌||◌, Bool, true, false, not, List, [], ◌∷◌, Option, Some, None, refl, ap, sym, ◌∙◌, ◌⊎◌, inl, inr}
use Rattle.std.specs.Option.{is_some}
use Rattle.fort_core.specs.declared.program.Program.{Program}
use Rattle.fort_core.specs.declared.value.Value.{Value}
use Rattle.fort_machine.specs.Journals.{opening_store}
use Rattle.fort_machine.specs.Parts.{IsOneOf}
use Rattle.fort_machine.specs.Scopes.{is_among}
use Rattle.fort_threads_law_servers.specs.Prelude.{Names}
use Rattle.fort_threads_law_servers.specs.Roots.{Start}
use Rattle.fort_threads_law_private.specs.Grounds.{Open}
use Rattle.fort_sound_tables.specs.Leaves.{ground, variables}
use Rattle.fort_sound_threads.proofs.Lookups.{equal_is, self_equal}

-- one of a list of numbers
one_of : (l : ℕ) (ns : List ℕ) → is_among l ns ≡ true → IsOneOf l ns
one_of l [] h = absurd cc
one_of l (n ∷ ns) h = go (l == n) refl h (λ k. one_of l ns k)
  where
    go : (b : Bool) → (l == n) ≡ b → (b || is_among l ns) ≡ true
        → (is_among l ns ≡ true → IsOneOf l ns) → IsOneOf l (n ∷ ns)
    go true q k r = inl (equal_is l n q)
    go false q k r = inr (r k)

among : (l : ℕ) (ns : List ℕ) → IsOneOf l ns → is_among l ns ≡ true
among l [] i = absurd i
among l (n ∷ ns) (inl e) =
    ap (λ (m : ℕ). l == m || is_among l ns) (sym e) ∙ ap (λ b. b || is_among l ns) (self_equal l)
among l (n ∷ ns) (inr i) = ap (λ b. l == n || b) (among l ns i) ∙ or_true (l == n)
  where
    or_true : (b : Bool) → (b || true) ≡ true
    or_true true = refl
    or_true false = refl

module _ (p : Program) (n : Names) (m : Start) where
  pub open_or_not : (l : ℕ) (v : Value) → opening_store p l ≡ Some v
      → Open (ground p n m) l ⊎ IsOneOf l (variables n m)
  open_or_not l v e = go (is_among l (variables n m)) refl
    where
      go : (b : Bool) → is_among l (variables n m) ≡ b
          → Open (ground p n m) l ⊎ IsOneOf l (variables n m)
      go true q = inr (one_of l (variables n m) q)
      go false q =
          inl
          (ap (λ b. not b && is_some (opening_store p l)) q
          ∙ ap (λ (o : Option Value). is_some o) e)

  pub open_stands : (l : ℕ) → Open (ground p n m) l → (v : Value) × (opening_store p l ≡ Some v)
  open_stands l o = go (opening_store p l) refl (some (is_among l (variables n m)) o)
    where
      some : (b : Bool) → (not b && is_some (opening_store p l)) ≡ true
          → is_some (opening_store p l) ≡ true
      some true h = absurd cc
      some false h = h

      go : (x : Option Value) → opening_store p l ≡ x → is_some (opening_store p l) ≡ true
          → (v : Value) × (opening_store p l ≡ Some v)
      go None e h = let z : false ≡ true = sym (ap (λ (o : Option Value). is_some o) e) ∙ h in absurd cc
      go (Some v) e h = (v, e)

  pub variables_shut : (l : ℕ) → IsOneOf l (variables n m) → Open (ground p n m) l → ⊥
  variables_shut l i o =
      let z : false ≡ true =
      sym (ap (λ b. not b && is_some (opening_store p l)) (among l (variables n m) i)) ∙ o in cc
