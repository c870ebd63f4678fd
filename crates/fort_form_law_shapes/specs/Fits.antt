-- The chapter "Typing", forms: what the forms of trees hang on, as the rules before typing leave
-- it, and what they are then.
use Rattle.std.specs.Prelude.{◌≡◌, ℕ, Bool, true, false, ◌&&◌, List, [], ◌∷◌, Some}
use Rattle.std.specs.List.{AllByRecursion}
use Rattle.fort_base.specs.declared.refusal.Place.{Place}
use Rattle.fort_base.specs.declared.ty.Ty.{Ty}
use Rattle.fort_types.specs.Types.{IsNumbered}
use Rattle.fort_tree.specs.declared.expr.Expr.{Expr}
use Rattle.fort_tree.specs.declared.grouped.Grouped.{Grouped, fold-Grouped}
use Rattle.fort_tree.specs.declared.grouped.Grouped.TheOpen.{Grouped-F}
use Rattle.fort_tree.specs.declared.spot.Name.{Name}
use Rattle.fort_tree.specs.declared.types.TypeTree.{TypeTree}
use Rattle.fort_tree_type_names.specs.Mentions.{mentioned_type}
use Rattle.fort_tree_type_names.specs.Mentioning.{mentioned_expr}
use Rattle.fort_form.specs.Shapes.{Shape, an_expression, is_expression, expression_if, are_sides, IsShaped}
use Rattle.fort_form_meaning.specs.Source.{Source}
use Rattle.fort_form_meaning.specs.Formed.{formed_expr}
use Rattle.fort_typing_law_rules.specs.Written.{written}

-- two or more
abbrev pub are_several : List ℕ → Bool
are_several [] = false
are_several (n ∷ []) = false
are_several (n ∷ m ∷ ns) = true

abbrev pub shape_grouped : Grouped-F Shape → Shape
shape_grouped (Grouped-F.Unit n) = an_expression
shape_grouped (Grouped-F.Binary op left right) =
    expression_if (is_expression left && is_expression right)
shape_grouped (Grouped-F.Chain ops parts) = expression_if (are_sides ops parts)
shape_grouped (Grouped-F.Juxt units) = expression_if (are_several units)

-- What a grouping is by its shape: each chain in it has two sides or more and one more than
-- operators, each juxtaposition two units or more.
unfoldable pub grouping_shape : Grouped → Shape
grouping_shape = fold-Grouped Shape shape_grouped

-- The types of trees all of whose names are known are so, and flat expressions are grouped as the
-- grammar says.
pub record IsFitSource (P : Ty → Type 0) (Known : Name → Type 0) (k : Source) : Type 0 where
  pub types : (t : TypeTree) → AllByRecursion Known (mentioned_type t) → P (k.written t)
  pub groupings : (p : Place) (g : Grouped) → k.grouping p ≡ Some g
      → grouping_shape g ≡ an_expression

-- Where the types of trees whose names are known have numbers of a hierarchy, and flat expressions
-- are grouped as the grammar says: the form of an expression whose names are known is of a shape
-- that the grammar gives, and the types that are written in it have numbers of the hierarchy.
abbrev pub FormsAreFit : Type 0
FormsAreFit = (n : ℕ) (known : Name → Bool) (k : Source)
    → IsFitSource (IsNumbered n) (λ (x : Name). known x ≡ true) k → (e : Expr)
    → AllByRecursion (λ (x : Name). known x ≡ true) (mentioned_expr e)
    → IsShaped (formed_expr k e) × AllByRecursion (IsNumbered n) (written (formed_expr k e))
