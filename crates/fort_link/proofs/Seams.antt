-- The declarations of components, one behind another.
use Rattle.std.proofs.Common.{◌≡◌, List, [], ◌∷◌, ◌++◌, Option, refl, sym, ap, ◌∙◌}
use Rattle.fort_tree.specs.declared.declarations.Declared.{Declared}
use Rattle.fort_tree.specs.declared.spot.Spot.{Spot}
use Rattle.fort_link_units.specs.declared.unit.ComponentUnit.{ComponentUnit}
use Rattle.fort_link_units.specs.declared.unit.Unit.{Unit}
use Rattle.fort_link_units.specs.declared.unit.Unit.TheVariants as a_unit
use Rattle.fort_link.specs.Whole.{components, with_semicolon, closed, declared_before, all_declared_before}

-- ---- the `;` of the last declaration

pub closed_last : (front : List Declared) (d : Declared) (end : Spot)
    → closed (front ++ d ∷ []) end
    ≡ front ++ record {
      declaration = d.declaration;
      semicolon = with_semicolon d.semicolon end;
    } ∷ []
closed_last [] d end = refl
closed_last (x ∷ []) d end = refl
closed_last (x ∷ y ∷ front) d end = ap (λ z. x ∷ z) (closed_last (y ∷ front) d end)

pub closed_by : (all front new : List Declared) (d : Declared) (end : Spot) (s : Option Spot)
    → all ≡ front ++ d ∷ [] → s ≡ with_semicolon d.semicolon end
    → new ≡ front ++ record { declaration = d.declaration; semicolon = s } ∷ []
    → new ≡ closed all end
closed_by all front new d end s e k n =
    n
    ∙ (ap (λ (x : Option Spot). front ++ record {
      declaration = d.declaration;
      semicolon = x;
    } ∷ []) k
    ∙ (sym (closed_last front d end) ∙ sym (ap (λ ds. closed ds end) e)))

-- ---- units, the last one first

pub components_append : (us vs : List Unit)
    → components (us ++ vs) ≡ components us ++ components vs
components_append [] vs = refl
components_append (a_unit.Component u ∷ us) vs = ap (λ z. u ∷ z) (components_append us vs)
components_append (a_unit.Api a ∷ us) vs = components_append us vs

before_append : (us vs : List ComponentUnit) (others : List Declared)
    → all_declared_before (us ++ vs) others
    ≡ all_declared_before us (all_declared_before vs others)
before_append [] vs others = refl
before_append (u ∷ us) vs others = ap (declared_before u) (before_append us vs others)

-- one unit less in front
pub one_taken : (all front : List Unit) (last : Unit) (others : List Declared)
    → all ≡ front ++ last ∷ []
    → all_declared_before (components all) others
    ≡ all_declared_before (components front) (all_declared_before (components (last ∷ [])) others)
one_taken all front last others e =
    ap (λ z. all_declared_before (components z) others) e
    ∙ (ap (λ z. all_declared_before z others) (components_append front (last ∷ []))
    ∙ before_append (components front) (components (last ∷ [])) others)
