-- A function value and its argument are two values.
use Rattle.std.proofs.Common.{◌≡◌, ◌≢◌, List, [], ◌∷◌, length, get_or, arith, refl, ap, sym, ◌∙◌}
use Rattle.fort_core.specs.declared.value.Value.{Value, out-Value}
use Rattle.fort_machine.specs.Acts.{stuck}
use Rattle.fort_machine.specs.Forms.{applying, applying_to}

pub not_two : (vs : List Value) → length vs ≢ 2 → applying vs ≡ stuck
not_two [] n = refl
not_two (f ∷ []) n = refl
not_two (f ∷ v ∷ []) n = absurd (n refl)
not_two (f ∷ v ∷ w ∷ vs) n = refl

pub two : (vs : List Value) (f v : Value) → length vs ≡ 2 → f ≡ get_or vs 0 f → v ≡ get_or vs 1 v
    → applying vs ≡ applying_to (out-Value f) v
two [] f v e p q = absurd (omega (arith, e))
two (g ∷ []) f v e p q = absurd (omega (arith, e))
two (g ∷ w ∷ []) f v e p q =
    ap (λ x. applying_to (out-Value x) w) (sym p) ∙ ap (λ x. applying_to (out-Value f) x) (sym q)
two (g ∷ w ∷ u ∷ vs) f v e p q = absurd (omega (arith, e))

pub ruleset applies = (not_two, two)
