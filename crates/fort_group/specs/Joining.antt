-- How the code divides a flat expression: at the last of its weakest operators. No definition of
-- the chapter "Operators" stands here.
use Rattle.std.specs.Prelude.{◌≡◌, ℕ, ◌<◌, ◌≤◌, cond, List, [], ◌∷◌, ◌++◌, Option, Some, None, MatchOption}
use Rattle.fort_ops.specs.declared.op.Op.{Op}
use Rattle.fort_ops.specs.declared.precedence.Group.TheVariants.{Relation}
use Rattle.fort_tree.specs.declared.grouped.Joint.{Joint}
use Rattle.fort_tree.specs.declared.grouped.Grouped.{Grouped, out-Grouped}
use Rattle.fort_tree.specs.declared.grouped.Grouped as tree
use Rattle.fort_tree.specs.declared.grouped.Grouped.TheOpen.{Grouped-F}
use Rattle.fort_ops.specs.Precedence.{group_of}
use Rattle.fort_group.specs.Joints.{strength}
use Rattle.fort_group.specs.declared.form.Form.{Form}
use Rattle.fort_group.specs.declared.form.Form.TheVariants as a_form
use Rattle.fort_group.specs.Grouping.{form_of, root, fits, Fits, FitsLeft, IsGrouping}

-- units side by side with one more
abbrev pub joined_units : Grouped-F Grouped → ℕ → Option Grouped
joined_units (Grouped-F.Unit m) n = Some (tree.Juxt (m ∷ n ∷ []))
joined_units (Grouped-F.Juxt units) n = Some (tree.Juxt (units ++ n ∷ []))
joined_units (Grouped-F.Binary op l r) n = None
joined_units (Grouped-F.Chain ops parts) n = None

-- the same of the layers of two parts
abbrev pub juxtaposed_at : Grouped-F Grouped → Grouped-F Grouped → Option Grouped
juxtaposed_at l (Grouped-F.Unit n) = joined_units l n
juxtaposed_at l (Grouped-F.Binary op a b) = None
juxtaposed_at l (Grouped-F.Chain ops parts) = None
juxtaposed_at l (Grouped-F.Juxt units) = None

-- the juxtaposition of two parts, where the right one is a unit and the left one a unit or a
-- juxtaposition
abbrev pub juxtaposed : Grouped → Grouped → Option Grouped
juxtaposed l r = juxtaposed_at (out-Grouped l) (out-Grouped r)

-- a chain of one operator, where the left part may stand in it
abbrev pub first_link : Op → Grouped → Grouped → Option Grouped
first_link op l r = cond (fits (root l) Relation) (Some (tree.Chain (op ∷ []) (l ∷ r ∷ []))) None

-- a chain that goes on, or a new one
abbrev pub linked_at : Op → Grouped-F Grouped → Grouped → Grouped → Option Grouped
linked_at op (Grouped-F.Chain ops parts) l r = Some (tree.Chain (ops ++ op ∷ []) (parts ++ r ∷ []))
linked_at op (Grouped-F.Unit n) l r = first_link op l r
linked_at op (Grouped-F.Binary other a b) l r = first_link op l r
linked_at op (Grouped-F.Juxt units) l r = first_link op l r

-- the chain of two parts, where both may stand in it
abbrev pub linked : Op → Grouped → Grouped → Option Grouped
linked op l r = cond (fits (root r) Relation) (linked_at op (out-Grouped l) l r) None

-- the binary node of two parts, where both may stand in it
abbrev pub Pairs : Op → Grouped → Grouped → Option Grouped → Type 0
Pairs op l r o = MatchOption o (FitsLeft l op → Fits r (group_of op)
    → ⊥) (λ g. (g ≡ tree.Binary op l r) × FitsLeft l op × Fits r (group_of op))

-- the node of two parts by its form
abbrev pub JoinsBy : Form → Op → Grouped → Grouped → Option Grouped → Type 0
JoinsBy a_form.Juxt op l r o = o ≡ juxtaposed l r
JoinsBy a_form.Chain op l r o = o ≡ linked op l r
JoinsBy a_form.Binary op l r o = Pairs op l r o

-- what the node of two parts and an operator between them is, or that there is none
abbrev pub Joins : Op → Grouped → Grouped → Option Grouped → Type 0
Joins op l r o = JoinsBy (form_of op) op l r o

-- the last of the places from i to j whose operators have the least rank
pub record IsWeakest (joints : List Joint) (i j k : ℕ) : Type 0 where
  pub from : i ≤ k
  pub to : k < j
  pub least : (n : ℕ) → i ≤ n → n < j → strength joints k ≤ strength joints n
  pub last : (n : ℕ) → k < n → n < j → strength joints k < strength joints n

-- an answer is a grouping
abbrev pub Sound : List Joint → ℕ → ℕ → Option Grouped → Type 0
Sound joints i j (Some g) = IsGrouping joints i j g
Sound joints i j None = Unit {0}

-- the one grouping of the units i to j, or none where there is none
pub record IsTheGrouping (joints : List Joint) (i j : ℕ) (o : Option Grouped) : Type 0 where
  pub sound : Sound joints i j o
  pub only : (h : Grouped) → IsGrouping joints i j h → o ≡ Some h
