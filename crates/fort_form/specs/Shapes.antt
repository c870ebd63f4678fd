-- The chapter "Typing", forms: the shapes that the grammar gives.
use Rattle.std.specs.Prelude.{◌≡◌, Bool, true, false, ◌&&◌, List, [], ◌∷◌, Option, Some, None}
use Rattle.fort_ops.specs.declared.op.Op.{Op}
use Rattle.fort_form.specs.declared.form.Form.{Form, fold-Form}
use Rattle.fort_form.specs.declared.form.Form.TheOpen.{Form-F, Item-F, Branch-F, Generator-F, TypeBranch-F}
use Rattle.fort_form.specs.declared.form.Item.{Item, fold-Item}
use Rattle.fort_form.specs.declared.form.Branch.{Branch, fold-Branch}
use Rattle.fort_form.specs.declared.form.Generator.{Generator, fold-Generator}
use Rattle.fort_form.specs.declared.form.TypeBranch.{TypeBranch, fold-TypeBranch}

-- What a form is by its shape.
pub data Shape : Type 0 where
  -- an expression
  an_expression : Shape
  -- a postfix, which stands only in a run, behind its first element
  a_postfix : Shape
  -- nothing that the grammar gives
  no_shape : Shape

abbrev pub is_expression : Shape → Bool
is_expression an_expression = true
is_expression a_postfix = false
is_expression no_shape = false

-- it may stand in a run, behind its first element
abbrev pub is_element : Shape → Bool
is_element an_expression = true
is_element a_postfix = true
is_element no_shape = false

abbrev pub expression_if : Bool → Shape
expression_if true = an_expression
expression_if false = no_shape

abbrev pub postfix_if : Bool → Shape
postfix_if true = a_postfix
postfix_if false = no_shape

abbrev pub are_expressions : List Shape → Bool
are_expressions [] = true
are_expressions (s ∷ ss) = is_expression s && are_expressions ss

abbrev pub are_elements : List Shape → Bool
are_elements [] = true
are_elements (s ∷ ss) = is_element s && are_elements ss

-- items, clauses and generators all are
abbrev pub are_shaped : List Bool → Bool
are_shaped [] = true
are_shaped (b ∷ bs) = b && are_shaped bs

-- what may be lacking
abbrev pub may_be_expression : Option Shape → Bool
may_be_expression None = true
may_be_expression (Some s) = is_expression s

-- as many operators as shapes
abbrev pub are_as_many : List Op → List Shape → Bool
are_as_many [] [] = true
are_as_many [] (s ∷ ss) = false
are_as_many (op ∷ ops) [] = false
are_as_many (op ∷ ops) (s ∷ ss) = are_as_many ops ss

-- the sides of a chain: two or more, one more than operators
abbrev pub are_sides : List Op → List Shape → Bool
are_sides ops [] = false
are_sides ops (s ∷ []) = false
are_sides ops (s ∷ r ∷ ss) = are_as_many ops (r ∷ ss) && are_expressions (s ∷ r ∷ ss)

-- the units of a juxtaposition: two or more
abbrev pub are_units : List Shape → Bool
are_units [] = false
are_units (s ∷ []) = false
are_units (s ∷ r ∷ ss) = are_expressions (s ∷ r ∷ ss)

-- the elements of a run: two or more, the first of which is no postfix
abbrev pub are_of_run : List Shape → Bool
are_of_run [] = false
are_of_run (s ∷ []) = false
are_of_run (s ∷ r ∷ ss) = is_expression s && are_elements (r ∷ ss)

-- the blocks of a `do`: one or more
abbrev pub are_blocks : List Shape → Bool
are_blocks [] = false
are_blocks (s ∷ ss) = are_expressions (s ∷ ss)

abbrev pub shape_form : Form-F Shape Bool Bool Bool Bool → Shape
shape_form (Form-F.Number p n) = an_expression
shape_form (Form-F.Text p n) = an_expression
shape_form (Form-F.Truth p b) = an_expression
shape_form (Form-F.Receiver p) = an_expression
shape_form (Form-F.Name p name) = an_expression
shape_form (Form-F.Parens p e) = expression_if (is_expression e)
shape_form (Form-F.Tuple p es) = expression_if (are_expressions es)
shape_form (Form-F.Operator p op es) = expression_if (are_expressions es)
shape_form (Form-F.Chain p ops es) = expression_if (are_sides ops es)
shape_form (Form-F.Beside p es) = expression_if (are_units es)
shape_form (Form-F.Run p es) = expression_if (are_of_run es)
shape_form (Form-F.Subscript p e) = postfix_if (is_expression e)
shape_form (Form-F.Power p e) = postfix_if (is_expression e)
shape_form (Form-F.Field p at name) = a_postfix
shape_form (Form-F.Method p at name es) = postfix_if (are_expressions es)
shape_form (Form-F.Fill p ty n v) = expression_if (is_expression n && is_expression v)
shape_form (Form-F.Block p is) = expression_if (are_shaped is)
shape_form (Form-F.Do p blocks) = expression_if (are_blocks blocks)
shape_form (Form-F.If p branches other) =
    expression_if (are_shaped branches && may_be_expression other)
shape_form (Form-F.While p c b) = expression_if (is_expression c && is_expression b)
shape_form (Form-F.For p gs b) = expression_if (are_shaped gs && is_expression b)
shape_form (Form-F.Case p s branches other) =
    expression_if (is_expression s && (are_shaped branches && may_be_expression other))
shape_form (Form-F.Typecase p at name s branches other) =
    expression_if (is_expression s && (are_shaped branches && may_be_expression other))
shape_form (Form-F.Try p b name branches last) =
    expression_if (is_expression b && (are_shaped branches && may_be_expression last))
shape_form (Form-F.Atomic p e) = expression_if (is_expression e)
shape_form (Form-F.Tryatomic p e) = expression_if (is_expression e)
shape_form (Form-F.Throw p e) = expression_if (is_expression e)
shape_form (Form-F.Fn p ps e) = expression_if (is_expression e)
shape_form (Form-F.Reduce p r g e) = expression_if (g && is_expression e)
shape_form (Form-F.Assign p t sign e) = expression_if (is_expression t && is_expression e)

abbrev pub shape_item : Item-F Shape Bool Bool Bool Bool → Bool
shape_item (Item-F.Local p name mutable ty e) = is_expression e
shape_item (Item-F.Locals p names ty e) = is_expression e
shape_item (Item-F.Expression e) = is_expression e

abbrev pub shape_branch : Branch-F Shape Bool Bool Bool Bool → Bool
shape_branch b = is_expression b.test && is_expression b.value

abbrev pub shape_generator : Generator-F Shape Bool Bool Bool Bool → Bool
shape_generator g = is_expression g.source

abbrev pub shape_clause : TypeBranch-F Shape Bool Bool Bool Bool → Bool
shape_clause b = is_expression b.value

-- What a form is by its shape.
unfoldable pub shape : Form → Shape
shape = fold-Form Shape Bool Bool Bool Bool shape_form shape_item shape_branch shape_generator
    shape_clause

-- an item, a clause, a generator has expressions in it
unfoldable pub is_item : Item → Bool
is_item =
    fold-Item Shape Bool Bool Bool Bool shape_form shape_item shape_branch shape_generator
    shape_clause

unfoldable pub is_branch : Branch → Bool
is_branch =
    fold-Branch Shape Bool Bool Bool Bool shape_form shape_item shape_branch shape_generator
    shape_clause

unfoldable pub is_generator : Generator → Bool
is_generator =
    fold-Generator Shape Bool Bool Bool Bool shape_form shape_item shape_branch shape_generator
    shape_clause

unfoldable pub is_clause : TypeBranch → Bool
is_clause =
    fold-TypeBranch Shape Bool Bool Bool Bool shape_form shape_item shape_branch shape_generator
    shape_clause

-- A form is an expression of a shape that the grammar gives: each postfix in it stands in a run
-- behind its first element, each `do` has a block, each chain has two sides or more and one more
-- than operators, each run two elements or more, each juxtaposition two units or more.
abbrev pub IsShaped : Form → Type 0
IsShaped e = shape e ≡ an_expression
