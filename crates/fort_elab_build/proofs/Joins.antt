-- Terms that are joined to the right, from the last one on.
use Rattle.std.proofs.Common.{◌≡◌, List, [], ◌∷◌, ◌++◌, refl, ap}
use Rattle.fort_base.specs.declared.ids.SetId.{SetId}
use Rattle.fort_core.specs.declared.term.Term.{Term, Operator}
use Rattle.fort_elab_meaning.specs.Calls.{joined}

-- the last two may be joined first
pub last_two : (set : SetId) (ts : List Term) (t u : Term)
    → joined set ((ts ++ t ∷ []) ++ u ∷ []) ≡ joined set (ts ++ Operator set (t ∷ u ∷ []) ∷ [])
last_two set [] t u = refl
last_two set (a ∷ []) t u = refl
last_two set (a ∷ b ∷ ts) t u =
    ap (λ (x : Term). Operator set (a ∷ x ∷ [])) (last_two set (b ∷ ts) t u)
