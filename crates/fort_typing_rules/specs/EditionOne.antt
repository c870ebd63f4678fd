-- The chapter "Typing", edition 1: calls without widening, for the one law that what edition 1
-- accepts is accepted with the same typed form.
use Rattle.std.specs.Prelude.{◌≡◌, ℕ, Bool, false, List, length, replicate, Some}
use Rattle.fort_base.specs.declared.ids.SetId.{SetId}
use Rattle.fort_base.specs.declared.ty.Ty.{Ty}
use Rattle.fort_types_sets.specs.declared.member.Member.{Member}
use Rattle.fort_types_sets.specs.declared.member.MemberSet.{MemberSet}
use Rattle.fort_types_sets.specs.Rules.{StandsAt}
use Rattle.fort_types_sets.specs.Best.{IsMostSpecific}
use Rattle.fort_scope.specs.declared.binding.Binding.{Binding}
use Rattle.fort_form.specs.declared.form.Form.{Form}
use Rattle.fort_form_typed.specs.declared.typed_form.TypedForm.{TypedForm}
use Rattle.fort_typing_known.specs.Known.{Knows}
use Rattle.fort_typing_rules.specs.Calls.{Calls, set_at}
use Rattle.fort_typing_rules.specs.Typing.{Has}

-- In edition 1 a call has the result of the most specific declaration that is applicable to the
-- types of its arguments.
pub data CallsInOne (k : Knows) (set : SetId) (types : List Ty) (result : Ty)
    (widened : List Bool) : Type 0 where
  plain : (s : MemberSet) (i : ℕ) (d : Member) → set_at k set ≡ Some s
      → IsMostSpecific k.declared s types i → StandsAt s i d
      → result ≡ d.result → widened ≡ replicate (length types) false
      → CallsInOne k set types result widened

-- What a form becomes in edition 1, it becomes now.
abbrev pub EditionOneIsKept : Type 0
EditionOneIsKept = (k : Knows) (bs : List Binding) (e : Form) (t : TypedForm)
    → Has k (CallsInOne k) bs e t → Has k (Calls k) bs e t
