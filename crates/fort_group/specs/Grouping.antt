-- The chapter "Operators", its groupings. The code divides at the last of the weakest operators.
use Rattle.std.specs.Prelude.{◌≡◌, ℕ, ◌+◌, Bool, true, List, [], ◌∷◌, ◌++◌, Option, Some, None, IsTrue, ◌⊎◌}
use Rattle.fort_ops.specs.declared.op.Op.{Op}
use Rattle.fort_ops.specs.declared.op.Op.TheVariants.{Juxt}
use Rattle.fort_ops.specs.declared.precedence.Group.{Group}
use Rattle.fort_ops.specs.declared.precedence.Group.TheVariants.{Adjacent, Sum, Relation}
use Rattle.fort_ops.specs.Precedence.{group_of, pair}
use Rattle.fort_group.specs.declared.form.Form.{Form}
use Rattle.fort_group.specs.declared.form.Form.TheVariants as a_form
use Rattle.fort_tree.specs.declared.grouped.Joint.{Joint}
use Rattle.fort_tree.specs.declared.grouped.Grouped.{Grouped, out-Grouped}
use Rattle.fort_tree.specs.declared.grouped.Grouped as tree
use Rattle.fort_tree.specs.declared.grouped.Grouped.TheOpen.{Grouped-F}
use Rattle.fort_group.specs.Joints.{between}

-- the form of the nodes that a group makes
abbrev pub form_at : Group → Form
form_at Adjacent = a_form.Juxt
form_at Relation = a_form.Chain
form_at _ = a_form.Binary

-- the form of the node that an operator makes
abbrev pub form_of : Op → Form
form_of op = form_at (group_of op)

-- the group of a node by its layer
abbrev pub root_at : Grouped-F Grouped → Option Group
root_at (Grouped-F.Unit n) = None
root_at (Grouped-F.Binary op left right) = Some (group_of op)
root_at (Grouped-F.Chain ops parts) = Some Relation
root_at (Grouped-F.Juxt units) = Some Adjacent

-- the group of a node's operator; a unit has none
abbrev pub root : Grouped → Option Group
root t = root_at (out-Grouped t)

-- nothing there, or a group over the parent's
abbrev pub fits : Option Group → Group → Bool
fits None parent = true
fits (Some child) parent = pair child parent

-- a unit, or a node whose operator is over the parent's
abbrev pub Fits : Grouped → Group → Type 0
Fits t parent = IsTrue (fits (root t) parent)

-- the same operator, or two of + and -
abbrev pub SameSide : Op → Op → Type 0
SameSide other op = (other ≡ op) ⊎ ((group_of other ≡ Sum) × (group_of op ≡ Sum))

-- a binary node whose operator is on the same side
abbrev pub Continues : Grouped-F Grouped → Op → Type 0
Continues (Grouped-F.Binary other left right) op = SameSide other op
Continues (Grouped-F.Unit n) op = ⊥
Continues (Grouped-F.Chain ops parts) op = ⊥
Continues (Grouped-F.Juxt units) op = ⊥

-- what may be the left child of a binary node: also one with the same operator, or where both have
-- + or -
abbrev pub FitsLeft : Grouped → Op → Type 0
FitsLeft t op = Fits t (group_of op) ⊎ Continues (out-Grouped t) op

-- two units or more, from i to j, side by side
pub data IsJuxt (joints : List Joint) : ℕ → ℕ → List ℕ → Type 0 where
  two : {i : ℕ} → between joints i ≡ Some Juxt → IsJuxt joints i (i + 1) (i ∷ (i + 1) ∷ [])
  one_more : {i k : ℕ} {units : List ℕ} → IsJuxt joints i k units → between joints k ≡ Some Juxt
      → IsJuxt joints i (k + 1) (units ++ (k + 1) ∷ [])

mutual
  -- a grouping of the units from i to j
  pub data IsGrouping (joints : List Joint) : ℕ → ℕ → Grouped → Type 0 where
    unit : {i : ℕ} → IsGrouping joints i i (tree.Unit i)
    juxt : {i j : ℕ} {units : List ℕ} → IsJuxt joints i j units
        → IsGrouping joints i j (tree.Juxt units)
    binary :
        {i k j : ℕ} {op : Op} {left right : Grouped}
        → between joints k ≡ Some op → form_of op ≡ a_form.Binary
        → IsGrouping joints i k left → IsGrouping joints (k + 1) j right
        → FitsLeft left op → Fits right (group_of op)
        → IsGrouping joints i j (tree.Binary op left right)
    chain : {i j : ℕ} {ops : List Op} {parts : List Grouped} → IsChain joints i j ops parts
        → IsGrouping joints i j (tree.Chain ops parts)

  -- relational operators with groupings before, between and after them, over the units from i to j
  pub data IsChain (joints : List Joint) : ℕ → ℕ → List Op → List Grouped → Type 0 where
    first :
        {i k j : ℕ} {op : Op} {left right : Grouped}
        → between joints k ≡ Some op → form_of op ≡ a_form.Chain
        → IsGrouping joints i k left → IsGrouping joints (k + 1) j right
        → Fits left Relation → Fits right Relation
        → IsChain joints i j (op ∷ []) (left ∷ right ∷ [])
    next :
        {i k j : ℕ} {ops : List Op} {parts : List Grouped} {op : Op} {right : Grouped}
        → IsChain joints i k ops parts → between joints k ≡ Some op → form_of op ≡ a_form.Chain
        → IsGrouping joints (k + 1) j right → Fits right Relation
        → IsChain joints i j (ops ++ op ∷ []) (parts ++ right ∷ [])
