-- The place of a field, counted from any number on.
use Rattle.std.proofs.Common.{◌≡◌, ℕ, ◌+◌, ◌==◌, List, [], ◌∷◌, zero-add, arith, Bool, true, false, Option, Some, None, refl, ap, sym, ◌∙◌, if◌then◌else◌}
use Rattle.std.specs.Prelude.{option_map}
use Rattle.fort_base.specs.declared.ids.NameId.{NameId}
use Rattle.fort_core.specs.declared.program.CoreField.{CoreField}
use Rattle.fort_machine.specs.Forms.{place_of}
use Rattle.fort_step_forms.specs.Rows.{place_from}

one_more : (n : ℕ) (o : Option ℕ)
    → option_map (λ k. n + k) (option_map (λ k. k + 1) o) ≡ option_map (λ k. (n + 1) + k) o
one_more n None = refl
one_more n (Some k) = let e : n + (k + 1) ≡ (n + 1) + k = omega arith in ap Some e

from_any : (f : NameId) (cs : List CoreField) (n : ℕ)
    → option_map (λ k. n + k) (place_of f cs) ≡ place_from f cs n
from_any f [] n = refl
from_any f (c ∷ cs) n = go (c.name.0 == f.0) (from_any f cs (n + 1))
  where
    go : (b : Bool) → option_map (λ k. (n + 1) + k) (place_of f cs) ≡ place_from f cs (n + 1)
        → option_map (λ k. n + k) (if b then Some 0 else option_map (λ k. k + 1) (place_of f cs))
        ≡ (if b then Some n else place_from f cs (n + 1))
    go true rest = let e : n + 0 ≡ n = omega arith in ap Some e
    go false rest = one_more n (place_of f cs) ∙ rest

from_none : (o : Option ℕ) → o ≡ option_map (λ k. 0 + k) o
from_none None = refl
from_none (Some n) = ap Some (sym (zero-add n))

pub place_first : (f : NameId) (cs : List CoreField) → place_of f cs ≡ place_from f cs 0
place_first f cs = from_none (place_of f cs) ∙ from_any f cs 0
