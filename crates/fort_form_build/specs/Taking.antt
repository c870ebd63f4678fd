-- The chapter "Typing", forms: what is made of the forms on a stack, the top first.
use Rattle.std.specs.Prelude.{◌≡◌, List, [], ◌∷◌, ◌++◌, Option, Some, None, option_map}
use Rattle.fort_base.specs.declared.ids.NameId.{NameId}
use Rattle.fort_base.specs.declared.refusal.Place.{Place}
use Rattle.fort_form.specs.declared.form.Form.{Form}
use Rattle.fort_form.specs.declared.form.Branch.{Branch, out-Branch}
use Rattle.fort_form.specs.declared.form.Item.{Item}
use Rattle.fort_tree.specs.declared.delimited.BlockItem.{BlockItem}
use Rattle.fort_tree.specs.declared.expr.ExprList.{ExprList}
use Rattle.fort_form_meaning.specs.Source.{Source}
use Rattle.fort_form_meaning.specs.Levels.{Catching, Placed}
use Rattle.fort_form_meaning.specs.Formed.{formed_block_item}
use Rattle.fort_form_tasks.specs.Tasks.{inside_list}

-- Where these forms lie on the top of the stack, they are taken off, and this is made of them.
pub record Gives {A : Type 0} (forms : List Form) (it : A) (old new : List Form)
    (made : A) : Type 0 where
  pub gives : (rest : List Form) → old ≡ forms ++ rest → (made ≡ it) × (new ≡ rest)

-- a form that may be left out, as those that lie on the stack
abbrev pub maybe_form : Option Form → List Form
maybe_form None = []
maybe_form (Some form) = form ∷ []

-- what a `catch` that may be left out binds
abbrev pub binder_of : Option Catching → Option (Place × NameId)
binder_of catch = option_map (λ (c : Catching). c.binder) catch

-- the two forms of a branch
abbrev pub branch_forms : Branch → List Form
branch_forms b = (out-Branch b).test ∷ (out-Branch b).value ∷ []

-- an item and its place
abbrev pub placed_as : Place → Item → Placed
placed_as p item = record { place = p; item = item }

-- the item of an entry of a block
abbrev pub entry_item : Source → BlockItem → Item
entry_item k entry = (formed_block_item k entry).item

-- the forms of a list of expressions
abbrev pub list_forms : Source → ExprList → List Form
list_forms k list = inside_list k (Some list)
