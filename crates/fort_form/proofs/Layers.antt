-- The shape of a form by the shapes of its parts.
use Rattle.std.proofs.Common.{◌≡◌, Bool, ◌&&◌, rules, ◌∙◌, ap}
use Rattle.fort_form.specs.declared.form.Form.{Form, out-Form, map-Form, fold_out-Form, the_lemmas}
use Rattle.fort_form.specs.declared.form.Form.TheOpen.{Form-F, Item-F}
use Rattle.fort_form.specs.declared.form.Item.{Item, out-Item, map-Item, fold_out-Item}
use Rattle.fort_form.specs.declared.form.Branch.{Branch, out-Branch}
use Rattle.fort_form.specs.declared.form.Generator.{Generator, out-Generator}
use Rattle.fort_form.specs.declared.form.TypeBranch.{TypeBranch, out-TypeBranch}
use Rattle.fort_form.specs.Shapes.{Shape, is_expression, shape_form, shape_item, shape_branch, shape_generator, shape_clause, shape, is_item, is_branch, is_generator, is_clause}

-- a layer, with the shapes of its parts
abbrev pub shapes : Form-F Form Item Branch Generator TypeBranch → Form-F Shape Bool Bool Bool Bool
shapes x =
    map-Form Form Item Branch Generator TypeBranch Shape Bool Bool Bool Bool shape is_item is_branch
    is_generator is_clause x

abbrev pub item_shapes : Item-F Form Item Branch Generator TypeBranch
    → Item-F Shape Bool Bool Bool Bool
item_shapes x =
    map-Item Form Item Branch Generator TypeBranch Shape Bool Bool Bool Bool shape is_item is_branch
    is_generator is_clause x

shape-out : (e : Form) → shape e ≡ shape_form (shapes (out-Form e))
unfolding shape is_item is_branch is_generator is_clause
shape-out e =
    fold_out-Form Shape Bool Bool Bool Bool shape_form shape_item shape_branch shape_generator
    shape_clause e

pub shape-is : (e : Form) {x : Form-F Form Item Branch Generator TypeBranch} → out-Form e ≡ x
    → shape e ≡ shape_form (shapes x)
shape-is e is = shape-out e ∙ ap (λ y. shape_form (shapes y)) is

pub item-is : (i : Item) → is_item i ≡ shape_item (item_shapes (out-Item i))
unfolding shape is_item is_branch is_generator is_clause
item-is i =
    fold_out-Item Shape Bool Bool Bool Bool shape_form shape_item shape_branch shape_generator
    shape_clause i

pub branch-is : (b : Branch)
    → is_branch b ≡ is_expression (shape (out-Branch b).test)
    && is_expression (shape (out-Branch b).value)
unfolding shape is_item is_branch is_generator is_clause
branch-is b = search (rules, the_lemmas)

pub generator-is : (g : Generator) → is_generator g ≡ is_expression (shape (out-Generator g).source)
unfolding shape is_item is_branch is_generator is_clause
generator-is g = search (rules, the_lemmas)

pub clause-is : (b : TypeBranch) → is_clause b ≡ is_expression (shape (out-TypeBranch b).value)
unfolding shape is_item is_branch is_generator is_clause
clause-is b = search (rules, the_lemmas)
