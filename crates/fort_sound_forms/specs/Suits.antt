-- What is taken of the program of a component, so that its typed forms become terms of their types.
use Rattle.std.specs.Prelude.{◌≡◌, ℕ, true, IsTrue, [], ◌∷◌, Contains, slice_get, Some}
use Rattle.fort_base.specs.declared.ids.DeclId.{DeclId}
use Rattle.fort_base.specs.declared.ids.NameId.{NameId}
use Rattle.fort_base.specs.declared.ids.SetId.{SetId}
use Rattle.fort_base.specs.declared.ids.TypeId.{TypeId}
use Rattle.fort_base.specs.declared.ty.Ty.{Ty}
use Rattle.fort_base.specs.declared.ty.Ty.TheVariants.{Named}
use Rattle.fort_types_sets.specs.declared.field.Field.{Field}
use Rattle.fort_types_sets.specs.declared.member.Member.{Member}
use Rattle.fort_types_sets.specs.declared.member.MemberSet.{MemberSet}
use Rattle.fort_types_sets.specs.Rules.{StandsAt}
use Rattle.fort_form.specs.declared.form.Reduction.{Reduction}
use Rattle.fort_core.specs.declared.program.CoreDecl.{CoreDecl}
use Rattle.fort_core.specs.declared.program.CoreSet.{CoreSet}
use Rattle.fort_core.specs.declared.program.CoreShape.{CoreShape}
use Rattle.fort_core.specs.declared.program.Program.{Program}
use Rattle.fort_machine.specs.Types.{below}
use Rattle.fort_sound_typed.specs.Typing.{small_type, truth_type, thrown_type, ShapeOf, Makes, FieldOf, HasV, Called}
use Rattle.fort_sound_typed.specs.Signatures.{large_type, text_type, range_type}
use Rattle.fort_sound_typed.specs.Sound.{RowsThrough, opening}
use Rattle.fort_types_builtin.specs.declared.types.TheConstants.{MATCH_FAILURE, EMPTY_REDUCTION, RANGE}
use Rattle.fort_typing_known.specs.Known.{Knows}
use Rattle.fort_typing_known.specs.Names.{field_of, single}
use Rattle.fort_typing_known.specs.Sets.{operator_set}
use Rattle.fort_typing_rules.specs.Types.{zz32, zz64, string, boolean, exception, IsBelow}
use Rattle.fort_typing_rules.specs.Calls.{set_at}
use Rattle.fort_typing_rules.specs.Typing as rule
use Rattle.fort_typing_law_rules.specs.Deciding.{IsType}
use Rattle.fort_elab_meaning.specs.Parts.{Given}
use Rattle.fort_elab_meaning.specs.Values as translation

-- A declaration of a component's set stands in the program's set of the same number, with its
-- parameters and its result.
pub record Declares (p : Program) (set : SetId) (d : Member) : Type 0 where
  pub members : CoreSet
  pub number : DeclId
  pub decl : CoreDecl
  pub is_set : slice_get p.sets set.0 ≡ Some members
  pub is_member : Contains members.decls number
  pub is_decl : slice_get p.decls number.0 ≡ Some decl
  pub parameters : decl.parameters ≡ d.parameters
  pub result : decl.result ≡ d.result

-- A program suits what is known of a component, and what the translation of its forms is given.
pub record Suits (k : Knows) (g : Given) (p : Program) : Type 0 where
  -- the rows say what is below what, of a type of the component and any other one; and they go
  -- through a third type
  pub told : (a b : Ty) → IsType k a → IsBelow k a b → IsTrue (below p a b)
  pub through : RowsThrough p.types.below
  -- the built-in types have their numbers
  pub small : small_type p ≡ zz32
  pub large : large_type p ≡ zz64
  pub text : text_type p ≡ string
  pub truth : truth_type p ≡ boolean
  pub range : range_type p ≡ Named RANGE
  pub thrown : thrown_type p ≡ exception
  -- each declaration of a set stands in the program's set of that number
  pub declared : (set : SetId) (s : MemberSet) (i : ℕ) (d : Member) → set_at k set ≡ Some s
      → StandsAt s i d → Declares p set d
  -- `widen` takes a ZZ32 and gives a ZZ64
  pub widens : Called p g.widen (zz32 ∷ []) zz64
  -- the operator of a reduction joins two of each type that the reduction may have to one of it;
  -- `AND` joins the comparisons of chains too
  pub joins : (r : Reduction) (ty : Ty) → rule.Suits k (rule.reduction_want r) ty
      → Called p (operator_set k.facts (rule.reduction_operator r) 2) (ty ∷ ty ∷ []) ty
  -- the n-th variable at the top has the n-th location, with its type
  pub tops : (n : ℕ) (v : Field) → slice_get k.facts.members.variables n ≡ Some v
      → opening p n ≡ Some v.ty
  -- a single object is a value of its type, and so are the two built-in exceptions that forms name
  pub singles : (name : NameId) (o : TypeId) → single k.facts name ≡ Some o
      → HasV p (opening p) (translation.single g o) (Named o)
  pub no_match : HasV p (opening p) (translation.single g MATCH_FAILURE) exception
  pub no_item : HasV p (opening p) (translation.single g EMPTY_REDUCTION) exception
  -- a type has its fields; one that can be assigned to belongs to a type that objects are made of
  pub fields : (o : TypeId) (name : NameId) (f : Field) → field_of k.facts o name ≡ Some f
      → FieldOf p o name f.ty
  pub mutable : (o : TypeId) (name : NameId) (f : Field) (s : CoreShape)
      → field_of k.facts o name ≡ Some f → f.mutable ≡ true → ShapeOf p o s → Makes s.kind
