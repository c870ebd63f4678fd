-- The chapter "Typing", forms: what the grammar gives of a form beside its shape. A file's numbers
-- are ZZ64 at most, a chain has a relation or more, and a local tuple two names or more.
use Rattle.std.specs.Prelude.{ℕ, ◌≤◌, List, [], ◌∷◌, ◌++◌, length, Option, Some, None}
use Rattle.std.specs.List.{AllByRecursion}
use Rattle.fort_form.specs.declared.form.Form.{Form, fold-Form}
use Rattle.fort_form.specs.declared.form.Form.TheOpen.{Form-F, Item-F, Branch-F, Generator-F, TypeBranch-F}
use Rattle.fort_form.specs.declared.form.Item.{Item, fold-Item}
use Rattle.fort_form.specs.declared.form.Branch.{Branch, fold-Branch}
use Rattle.fort_form.specs.declared.form.Generator.{Generator, fold-Generator}
use Rattle.fort_form.specs.declared.form.TypeBranch.{TypeBranch, fold-TypeBranch}

-- What is counted in a form: a number that is written in it, how many relations a chain has, how
-- many names a local tuple binds.
pub data Figure : Type 0 where
  a_number : ℕ → Figure
  relations : ℕ → Figure
  names : ℕ → Figure

-- It is as the grammar has it.
abbrev pub IsRight : Figure → Type 0
IsRight (a_number n) = n ≤ 9223372036854775807
IsRight (relations n) = 1 ≤ n
IsRight (names n) = 2 ≤ n

-- those of each of several, one after another
abbrev pub together : List (List Figure) → List Figure
together [] = []
together (ns ∷ nss) = ns ++ together nss

-- those of what may be lacking
abbrev pub if_there : Option (List Figure) → List Figure
if_there None = []
if_there (Some ns) = ns

abbrev pub figures_form : Form-F (List Figure) (List Figure) (List Figure) (List Figure)
    (List Figure) → List Figure
figures_form (Form-F.Number p n) = a_number n ∷ []
figures_form (Form-F.Parens p e) = e
figures_form (Form-F.Tuple p es) = together es
figures_form (Form-F.Operator p op es) = together es
figures_form (Form-F.Chain p ops es) = relations (length ops) ∷ together es
figures_form (Form-F.Beside p es) = together es
figures_form (Form-F.Run p es) = together es
figures_form (Form-F.Subscript p e) = e
figures_form (Form-F.Power p e) = e
figures_form (Form-F.Method p at name es) = together es
figures_form (Form-F.Fill p ty n v) = n ++ v
figures_form (Form-F.Block p is) = together is
figures_form (Form-F.Do p blocks) = together blocks
figures_form (Form-F.If p branches other) = together branches ++ if_there other
figures_form (Form-F.While p c b) = c ++ b
figures_form (Form-F.For p gs b) = together gs ++ b
figures_form (Form-F.Case p s branches other) = s ++ together branches ++ if_there other
figures_form (Form-F.Typecase p at name s branches other) = s ++ together branches ++ if_there other
figures_form (Form-F.Try p b name branches last) = b ++ together branches ++ if_there last
figures_form (Form-F.Atomic p e) = e
figures_form (Form-F.Tryatomic p e) = e
figures_form (Form-F.Throw p e) = e
figures_form (Form-F.Fn p ps e) = e
figures_form (Form-F.Reduce p r g e) = g ++ e
figures_form (Form-F.Assign p t sign e) = t ++ e
figures_form _ = []

abbrev pub figures_part : Item-F (List Figure) (List Figure) (List Figure) (List Figure)
    (List Figure) → List Figure
figures_part (Item-F.Local p name mutable ty e) = e
figures_part (Item-F.Locals p xs ty e) = names (length xs) ∷ e
figures_part (Item-F.Expression e) = e

abbrev pub figures_arm : Branch-F (List Figure) (List Figure) (List Figure) (List Figure)
    (List Figure) → List Figure
figures_arm b = b.test ++ b.value

abbrev pub figures_source : Generator-F (List Figure) (List Figure) (List Figure) (List Figure)
    (List Figure) → List Figure
figures_source g = g.source

abbrev pub figures_case : TypeBranch-F (List Figure) (List Figure) (List Figure) (List Figure)
    (List Figure) → List Figure
figures_case b = b.value

-- The figures of a form.
unfoldable pub figures : Form → List Figure
figures =
    fold-Form (List Figure) (List Figure) (List Figure) (List Figure) (List Figure) figures_form
    figures_part figures_arm figures_source figures_case

-- in an item, a clause, a generator
unfoldable pub figures_item : Item → List Figure
figures_item =
    fold-Item (List Figure) (List Figure) (List Figure) (List Figure) (List Figure) figures_form
    figures_part figures_arm figures_source figures_case

unfoldable pub figures_branch : Branch → List Figure
figures_branch =
    fold-Branch (List Figure) (List Figure) (List Figure) (List Figure) (List Figure) figures_form
    figures_part figures_arm figures_source figures_case

unfoldable pub figures_generator : Generator → List Figure
figures_generator =
    fold-Generator (List Figure) (List Figure) (List Figure) (List Figure) (List Figure)
    figures_form figures_part figures_arm figures_source figures_case

unfoldable pub figures_clause : TypeBranch → List Figure
figures_clause =
    fold-TypeBranch (List Figure) (List Figure) (List Figure) (List Figure) (List Figure)
    figures_form figures_part figures_arm figures_source figures_case

-- The figures of a form are as the grammar has them.
abbrev pub HasFigures : Form → Type 0
HasFigures e = AllByRecursion IsRight (figures e)
