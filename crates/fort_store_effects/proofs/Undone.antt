-- An attempt that is undone, in the levels.
use Rattle.std.proofs.Common.{◌≡◌, ℕ, ◌+◌, List, [], ◌∷◌, ◌++◌, Option, Some, None, refl, ap, sym, ◌∙◌, subst, arith}
use Rattle.std.specs.Prelude.{MatchOption}
use Rattle.fort_machine.specs.Effects.{Effect}
use Rattle.fort_store.specs.Held.{held}
use Rattle.fort_store_effects.specs.Levels.{Levels, effect_of, attempts_of, inward, levels_of, undone, outer_of, attempts_cost, spent}
use Rattle.fort_store_effects.specs.declared.layer.Layer.{Layer}
use Rattle.fort_store_effects.specs.declared.layers.Layers.{Layers}
use Rattle.fort_store_effects.proofs.Seen.{inward_last}

-- what List's `pop` answers
abbrev pub Popped : Option Layer → List Layer → List Layer → Type 0
Popped last old new = MatchOption last ((old ≡ []) × (new ≡ [])) (λ l. old ≡ new ++ l ∷ [])

-- the layers below the innermost one
below_are : (last : Option Layer) (old new : List Layer) → Popped last old new
    → attempts_of last new ≡ inward old []
below_are None old new h = sym (ap (λ ls. inward ls []) h.0)
below_are (Some l) old new h = sym (ap (λ ls. inward ls []) h ∙ inward_last new l [])

all_of : (v : Layers) (top : Layer) → v.top ≡ Some top
    → attempts_of v.top v.below ≡ effect_of top ∷ inward v.below []
all_of v top t = ap (λ o. attempts_of o v.below) t

pub undoes : (v w : Layers) (top : Layer) → v.top ≡ Some top → Popped w.top v.below w.below
    → held w.store ≡ held v.store → w.output ≡ v.output → w.cost ≡ v.cost
    → levels_of w ≡ undone (levels_of v)
undoes v w top t b store output cost =
    let outer : attempts_of w.top w.below ≡ outer_of (attempts_of v.top v.below) =
    below_are w.top v.below w.below b ∙ sym (ap outer_of (all_of v top t)) in
    λ i. record {
      store = store i;
      output = output i;
      cost = cost i;
      attempts = outer i;
    }

pub less_spent : (v w : Layers) (top : Layer) → v.top ≡ Some top → Popped w.top v.below w.below
    → w.cost ≡ v.cost → spent (levels_of w) + 1 + top.cost ≡ spent (levels_of v)
less_spent v w top t b cost =
    let whole : spent (levels_of v) ≡ v.cost + (1 + top.cost + attempts_cost (inward v.below [])) =
    ap (λ es. v.cost + attempts_cost es) (all_of v top t) in
    let part : spent (levels_of w) ≡ v.cost + attempts_cost (inward v.below []) =
    ap (λ es. w.cost + attempts_cost es) (below_are w.top v.below w.below b)
    ∙ ap (λ n. n + attempts_cost (inward v.below [])) cost in
    omega (arith, whole, part)
