-- The chapter "Typing": the types that are written in a form.
use Rattle.std.specs.Prelude.{List, [], ◌∷◌, ◌++◌, map, Option, Some, None}
use Rattle.std.specs.List.{AllByRecursion}
use Rattle.fort_base.specs.declared.ty.Ty.{Ty}
use Rattle.fort_form.specs.declared.form.Form.{Form, fold-Form}
use Rattle.fort_form.specs.declared.form.Form.TheOpen.{Form-F, Item-F, Branch-F, Generator-F, TypeBranch-F}
use Rattle.fort_form.specs.declared.form.Item.{Item, fold-Item}
use Rattle.fort_form.specs.declared.form.Branch.{Branch, fold-Branch}
use Rattle.fort_form.specs.declared.form.Generator.{Generator, fold-Generator}
use Rattle.fort_form.specs.declared.form.TypeBranch.{TypeBranch, fold-TypeBranch}
use Rattle.fort_scope.specs.declared.binding.Binding.{Binding}
use Rattle.fort_typing_known.specs.Known.{Knows}
use Rattle.fort_typing_rules.specs.Types.{parameter_type}
use Rattle.fort_typing_law_rules.specs.Deciding.{IsType, AreTypes}

-- those of each of several, one after another
abbrev pub together : List (List Ty) → List Ty
together [] = []
together (ts ∷ tss) = ts ++ together tss

-- those of what may be lacking
abbrev pub if_there : Option (List Ty) → List Ty
if_there None = []
if_there (Some ts) = ts

abbrev pub written_form : Form-F (List Ty) (List Ty) (List Ty) (List Ty) (List Ty) → List Ty
written_form (Form-F.Parens p e) = e
written_form (Form-F.Tuple p es) = together es
written_form (Form-F.Operator p op es) = together es
written_form (Form-F.Chain p ops es) = together es
written_form (Form-F.Beside p es) = together es
written_form (Form-F.Run p es) = together es
written_form (Form-F.Subscript p e) = e
written_form (Form-F.Power p e) = e
written_form (Form-F.Method p at name es) = together es
written_form (Form-F.Fill p ty n v) = ty ∷ n ++ v
written_form (Form-F.Block p is) = together is
written_form (Form-F.Do p blocks) = together blocks
written_form (Form-F.If p branches other) = together branches ++ if_there other
written_form (Form-F.While p c b) = c ++ b
written_form (Form-F.For p gs b) = together gs ++ b
written_form (Form-F.Case p s branches other) = s ++ together branches ++ if_there other
written_form (Form-F.Typecase p at name s branches other) = s ++ together branches ++ if_there other
written_form (Form-F.Try p b name branches last) = b ++ together branches ++ if_there last
written_form (Form-F.Atomic p e) = e
written_form (Form-F.Tryatomic p e) = e
written_form (Form-F.Throw p e) = e
written_form (Form-F.Fn p ps e) = map parameter_type ps ++ e
written_form (Form-F.Reduce p r g e) = g ++ e
written_form (Form-F.Assign p t sign e) = t ++ e
written_form _ = []

abbrev pub written_part : Item-F (List Ty) (List Ty) (List Ty) (List Ty) (List Ty) → List Ty
written_part (Item-F.Local p name mutable ty e) = ty ∷ e
written_part (Item-F.Locals p names ty e) = ty ∷ e
written_part (Item-F.Expression e) = e

abbrev pub written_arm : Branch-F (List Ty) (List Ty) (List Ty) (List Ty) (List Ty) → List Ty
written_arm b = b.test ++ b.value

abbrev pub written_source : Generator-F (List Ty) (List Ty) (List Ty) (List Ty) (List Ty) → List Ty
written_source g = g.source

abbrev pub written_case : TypeBranch-F (List Ty) (List Ty) (List Ty) (List Ty) (List Ty) → List Ty
written_case b = b.ty ∷ b.value

-- The types that are written in a form.
unfoldable pub written : Form → List Ty
written =
    fold-Form (List Ty) (List Ty) (List Ty) (List Ty) (List Ty) written_form written_part
    written_arm written_source written_case

-- in an item, a clause, a generator
unfoldable pub written_item : Item → List Ty
written_item =
    fold-Item (List Ty) (List Ty) (List Ty) (List Ty) (List Ty) written_form written_part
    written_arm written_source written_case

unfoldable pub written_branch : Branch → List Ty
written_branch =
    fold-Branch (List Ty) (List Ty) (List Ty) (List Ty) (List Ty) written_form written_part
    written_arm written_source written_case

unfoldable pub written_generator : Generator → List Ty
written_generator =
    fold-Generator (List Ty) (List Ty) (List Ty) (List Ty) (List Ty) written_form written_part
    written_arm written_source written_case

unfoldable pub written_clause : TypeBranch → List Ty
written_clause =
    fold-TypeBranch (List Ty) (List Ty) (List Ty) (List Ty) (List Ty) written_form written_part
    written_arm written_source written_case

-- The types that are written in a form are those of the component.
abbrev pub IsWritten : Knows → Form → Type 0
IsWritten k e = AreTypes k (written e)

-- The types of bindings are.
abbrev pub AreBound : Knows → List Binding → Type 0
AreBound k bs = AllByRecursion (λ (b : Binding). IsType k b.ty) bs
