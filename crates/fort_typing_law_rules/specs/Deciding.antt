-- The chapter "Typing": what is known of an accepted component, and that what the judge computes of
-- two types and of a call is what the rules say of them. The code asks none of this.
use Rattle.std.specs.Prelude.{◌≡◌, ◌≤◌, ◌<◌, ℕ, Bool, true, List, length, slice_get, Some}
use Rattle.std.specs.List.{AllByRecursion}
use Rattle.fort_base.specs.declared.ids.SetId.{SetId}
use Rattle.fort_base.specs.declared.ids.TypeId.{TypeId}
use Rattle.fort_base.specs.declared.refusal.Rule.{Rule}
use Rattle.fort_base.specs.declared.ty.Ty.{Ty}
use Rattle.fort_types.specs.Hierarchy.{Sound}
use Rattle.fort_types.specs.Table.{HasRows}
use Rattle.fort_types.specs.Types.{IsNumbered}
use Rattle.fort_types_sets.specs.declared.field.Field.{Field}
use Rattle.fort_types_sets.specs.declared.member.MemberSet.{MemberSet}
use Rattle.fort_types_sets.specs.Leaves.{leaves_of}
use Rattle.fort_types_sets.specs.Rules.{IsWellMade, KeepsRules}
use Rattle.fort_typing_known.specs.Known.{Knows}
use Rattle.fort_typing_known.specs.Below.{is_below}
use Rattle.fort_typing_call.specs.Called.{called}
use Rattle.fort_typing_call.specs.declared.called.Called.TheVariants as a_call
use Rattle.fort_typing_rules.specs.Types.{IsBelow}
use Rattle.fort_typing_rules.specs.Calls.{Calls, CallBreaks}

-- A type of the component: each declared type in it has a number of the hierarchy.
abbrev pub IsType : Knows → Ty → Type 0
IsType k t = IsNumbered (length k.declared) t

-- All types of a list are.
abbrev pub AreTypes : Knows → List Ty → Type 0
AreTypes k types = AllByRecursion (IsType k) types

-- What is known is made of an accepted component: of a sound hierarchy with its rows, and of
-- members whose sets keep the overload rules.
pub record IsAccepted (k : Knows) : Type 0 where
  pub sound : Sound k.declared
  pub rows : HasRows k.declared k.facts.table
  -- the built-in types, the last of which is `Range`, stand first
  pub built_in : 7 ≤ length k.declared
  pub objects : k.facts.members.objects ≡ leaves_of k.declared
  pub made : (n : ℕ) (s : MemberSet) → slice_get k.facts.members.sets n ≡ Some s
      → IsWellMade k.declared s
  pub kept : (n : ℕ) (s : MemberSet) → slice_get k.facts.members.sets n ≡ Some s
      → KeepsRules k.declared s
  -- the types of fields and of variables are those of the component
  pub fields : (n i : ℕ) (all : List Field) (f : Field)
      → slice_get k.facts.members.fields n ≡ Some all → slice_get all i ≡ Some f → IsType k f.ty
  pub variables : (i : ℕ) (v : Field) → slice_get k.facts.members.variables i ≡ Some v
      → IsType k v.ty
  -- the enclosing type is one of the hierarchy
  pub enclosed : (t : TypeId) → k.facts.owner ≡ Some t → t.0 < length k.declared

-- What is computed of two types and of a call is what the rules say of them.
pub record Decides (k : Knows) : Type 0 where
  pub below : (a b : Ty) → IsType k a → IsType k b → IsBelow k a b → is_below k.facts a b ≡ true
  pub told : (a b : Ty) → IsType k a → IsType k b → is_below k.facts a b ≡ true → IsBelow k a b
  pub calls : (set : SetId) (types : List Ty) (result : Ty) (widened : List Bool) → AreTypes k types
      → Calls k set types result widened
      → called k.facts set types ≡ a_call.Result result widened
  pub has_call : (set : SetId) (types : List Ty) (result : Ty) (widened : List Bool)
      → AreTypes k types → called k.facts set types ≡ a_call.Result result widened
      → Calls k set types result widened
  pub refuses : (set : SetId) (types : List Ty) (rule : Rule) → AreTypes k types
      → CallBreaks k set types rule → called k.facts set types ≡ a_call.Refused rule
  pub breaks_call : (set : SetId) (types : List Ty) (rule : Rule) → AreTypes k types
      → called k.facts set types ≡ a_call.Refused rule → CallBreaks k set types rule

-- So it is of each accepted component.
abbrev pub IsDecided : Type 0
IsDecided = (k : Knows) → IsAccepted k → Decides k
