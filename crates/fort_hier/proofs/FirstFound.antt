-- What is found first, by other names of the lists that were asked.
use Rattle.std.proofs.Common.{◌≡◌, List, Option, subst}
use Rattle.fort_base.specs.declared.refusal.Place.{Place}
use Rattle.fort_types.specs.Hierarchy.{DeclaredTypes}
use Rattle.fort_hier.specs.declared.lowest.BrokenSentence.{BrokenSentence}
use Rattle.fort_hier.specs.declared.tops.Top.{Top}
use Rattle.fort_base.specs.Places.{IsFirst}
use Rattle.fort_hier.specs.Lowest.{IsLowestFrom}
use Rattle.fort_hier.specs.Names.{Spelling, all_called, IsDuplicate}

pub duplicate_by : {names names' : List Spelling} {tops tops' : List Top} {r r' : Option Place}
    → names ≡ names' → tops ≡ tops' → r ≡ r'
    → IsFirst (IsDuplicate (all_called names tops)) r
    → IsFirst (IsDuplicate (all_called names' tops')) r'
duplicate_by {names = names} {names' = names'} {tops = tops} {tops' = tops'} {r = r} e f g w =
    subst (λ z. IsFirst (IsDuplicate (all_called names' tops')) z) g
    (subst (λ z. IsFirst (IsDuplicate (all_called names' z)) r) f
    (subst (λ z. IsFirst (IsDuplicate (all_called z tops)) r) e w))

pub first_by : (P : Place → Type 0) {r r' : Option Place} → r ≡ r' → IsFirst P r → IsFirst P r'
first_by P e w = subst (IsFirst P) e w

pub lowest_by : (h : DeclaredTypes) {places places' : List Place} {r r' : Option BrokenSentence}
    → places ≡ places' → r ≡ r' → IsLowestFrom h places 403 r → IsLowestFrom h places' 403 r'
lowest_by h {places' = places'} {r = r} e f w =
    subst (IsLowestFrom h places' 403) f (subst (λ z. IsLowestFrom h z 403 r) e w)
