-- Initials: each is a constant below its written type, or breaks a rule, as it is computed.
use Rattle.std.proofs.Common.{◌≡◌, ℕ, Bool, true, false, cond, List, [], ◌∷◌, Option, Some, None, refl, arith, ap, ◌∙◌, sym, subst}
use Rattle.fort_base.specs.declared.refusal.Place.{Place}
use Rattle.fort_base.specs.declared.rules.TheConstants.{MISMATCH, INITIAL_NOT_CONSTANT}
use Rattle.fort_ops.specs.declared.op.Op.{Op}
use Rattle.fort_ops.specs.declared.op.Op.TheVariants as an_op
use Rattle.fort_form.specs.declared.component.InitialForm.{InitialForm}
use Rattle.fort_form.specs.declared.form.Form.{Form, out-Form}
use Rattle.fort_form.specs.declared.form.Form.TheOpen.{Form-F}
use Rattle.fort_form.specs.declared.form.Item.{Item}
use Rattle.fort_form.specs.declared.form.Branch.{Branch}
use Rattle.fort_form.specs.declared.form.Generator.{Generator}
use Rattle.fort_form.specs.declared.form.TypeBranch.{TypeBranch}
use Rattle.fort_form_typed.specs.declared.typed_form.TypedForm.{TypedForm}
use Rattle.fort_typing_known.specs.declared.fault.Fault.{Fault}
use Rattle.fort_typing_known.specs.Known.{Knows}
use Rattle.fort_typing_known.specs.Below.{is_below}
use Rattle.fort_typing_rules.specs.Types.{IsBelow, type_of, types_of, place_of, fault, number_type}
use Rattle.fort_typing_rules.specs.Components.{IsConstant, number, negative, words, truth, nothing, HasInitial, initial, InitialBreaks, no_constant, unlike}
use Rattle.fort_typing_meaning.specs.declared.frame.Valued.{Valued}
use Rattle.fort_typing_meaning.specs.Faults.{with_fault, breaks}
use Rattle.fort_typing_meaning.specs.Tests.{no_node}
use Rattle.fort_typing_law_rules.specs.Deciding.{IsType, IsAccepted, Decides}
use Rattle.fort_typing_law_rules.specs.Exact.{IsFirst}
use Rattle.fort_typing_law_rules.proofs.Types.{built_in_type}
use Rattle.fort_typing_law_rules.proofs.Deciding.{is_decided}
use Rattle.fort_typing_law_rules.proofs.Typed.{typed-Number, typed-Text, typed-Truth, typed-Operation, typed-Tuple, number-type}
use Rattle.fort_typing_law_rules.proofs.Firsts.{no_more, alike, one_more}
use Rattle.fort_typing_meaning.specs.Constants.{negative_at, operand_negative, prefixed, no_part, constant_at, constant}
use Rattle.fort_typing_meaning.specs.Whole.{initial_by, judged_initial}
use Rattle.fort_typing_law_exact.proofs.Declared.{Told, has_type, has_none}

some-same : {a b : TypedForm} → Some a ≡ Some b → a ≡ b
some-same e = cc

none-some : {C : Type 0} {a : TypedForm} → None ≡ Some a → C
none-some e = absurd cc

module _ (k : Knows) where
  -- ---- constants

  negative-told : (e d : Form) (t : TypedForm) (p : Place)
      → out-Form e ≡ Form-F.Operator p an_op.Minus (d ∷ [])
      → (x : Form-F Form Item Branch Generator TypeBranch) → out-Form d ≡ x
      → negative_at k.facts x ≡ Some t → IsConstant k e t
  negative-told e d t p is (Form-F.Number q n) js h = negative p q d n is js (sym (some-same h))
  negative-told e d t p is _ js h = none-some h

  minus-told : (e : Form) (t : TypedForm) (p : Place) (es : List Form)
      → out-Form e ≡ Form-F.Operator p an_op.Minus es → operand_negative k.facts es ≡ Some t
      → IsConstant k e t
  minus-told e t p [] is h = none-some h
  minus-told e t p (d ∷ []) is h = negative-told e d t p is (out-Form d) refl h
  minus-told e t p (d ∷ c ∷ es) is h = none-some h

  operator-told : (e : Form) (t : TypedForm) (p : Place) (op : Op) (es : List Form)
      → out-Form e ≡ Form-F.Operator p op es → prefixed k.facts op es ≡ Some t → IsConstant k e t
  operator-told e t p an_op.Minus es is h = minus-told e t p es is h
  operator-told e t p _ es is h = none-some h

  tuple-told : (e : Form) (t : TypedForm) (p : Place) (es : List Form)
      → out-Form e ≡ Form-F.Tuple p es → no_part es ≡ Some t → IsConstant k e t
  tuple-told e t p [] is h = nothing p is (sym (some-same h))
  tuple-told e t p (d ∷ es) is h = none-some h

  constant-at : (e : Form) (t : TypedForm) (x : Form-F Form Item Branch Generator TypeBranch)
      → out-Form e ≡ x → constant_at k.facts x ≡ Some t → IsConstant k e t
  constant-at e t (Form-F.Number p n) is h = number p n is (sym (some-same h))
  constant-at e t (Form-F.Text p n) is h = words p n is (sym (some-same h))
  constant-at e t (Form-F.Truth p b) is h = truth p b is (sym (some-same h))
  constant-at e t (Form-F.Tuple p es) is h = tuple-told e t p es is h
  constant-at e t (Form-F.Operator p op es) is h = operator-told e t p op es is h
  constant-at e t _ is h = none-some h

  constant-told : (e : Form) (t : TypedForm) → constant k.facts e ≡ Some t → IsConstant k e t
  unfolding constant
  constant-told e t h = constant-at e t (out-Form e) refl h

  constant-is : {e : Form} {t : TypedForm} → IsConstant k e t → constant k.facts e ≡ Some t
  unfolding constant
  constant-is (number p n is te) =
      ap (constant_at k.facts) is ∙ ap (λ (u : TypedForm). Some u) (sym te)
  constant-is (negative p q d n is js te) =
      ap (constant_at k.facts) is ∙ ap (negative_at k.facts) js ∙ ap (λ
      (u : TypedForm). Some u) (sym te)
  constant-is (words p n is te) =
      ap (constant_at k.facts) is ∙ ap (λ (u : TypedForm). Some u) (sym te)
  constant-is (truth p b is te) =
      ap (constant_at k.facts) is ∙ ap (λ (u : TypedForm). Some u) (sym te)
  constant-is (nothing p is te) =
      ap (constant_at k.facts) is ∙ ap (λ (u : TypedForm). Some u) (sym te)

  constant-once : (e : Form) (t u : TypedForm) → IsConstant k e t → IsConstant k e u → t ≡ u
  constant-once e t u h g = some-same (sym (constant-is h) ∙ constant-is g)

  pub initial-once : (i : InitialForm) (t u : TypedForm) → HasInitial k i t → HasInitial k i u
      → t ≡ u
  initial-once i t u (initial c b) (initial d e) = constant-once i.value t u c d

  pub initial-never : (i : InitialForm) (t : TypedForm) → HasInitial k i t → (f : Fault)
      → InitialBreaks k i f → ⊥
  initial-never i t (initial c b) f (no_constant n x) = n t c
  initial-never i t (initial c b) f (unlike u d n x) =
      n (subst (λ (z : TypedForm). IsBelow k (type_of z) i.ty) (constant-once i.value t u c d) b)

  module _ (A : IsAccepted k) where
    constant-typed : {e : Form} {t : TypedForm} → IsConstant k e t → IsType k (type_of t)
    constant-typed (number p n is te) =
        subst (λ (u : TypedForm). IsType k (type_of u)) (sym te)
        (typed-Number k A (number_type n) n (number-type k A n)).0
    constant-typed (negative p q d n is js te) =
        subst (λ (u : TypedForm). IsType k (type_of u)) (sym te)
        (typed-Operation k A (number_type n) _ _ (number-type k A n)).0
    constant-typed (words p n is te) =
        subst (λ (u : TypedForm). IsType k (type_of u)) (sym te)
        (typed-Text k A _ n (built_in_type k A 4 (omega arith))).0
    constant-typed (truth p b is te) =
        subst (λ (u : TypedForm). IsType k (type_of u)) (sym te)
        (typed-Truth k A _ b (built_in_type k A 5 (omega arith))).0
    constant-typed (nothing p is te) =
        subst (λ (u : TypedForm). IsType k (type_of u)) (sym te) (typed-Tuple k A [] tt).0

    D : Decides k
    D = is_decided k A

    module _ (i : InitialForm) (T : IsType k i.ty) (found : Option Fault) where
      abbrev Goal : Valued → Type 0
      Goal v = Told (HasInitial k i) (InitialBreaks k i) found v

      here : Place
      here = place_of i.value

      -- the constant's type is below the written one
      below-told : (t : TypedForm) → IsConstant k i.value t
          → is_below k.facts (type_of t) i.ty ≡ true
          → Goal (record { node = Some t; found = found })
      below-told t c e =
          let h : HasInitial k i t = initial c (D.told (type_of t) i.ty (constant-typed c) T e) in
          has_type t refl h (no_more found (InitialBreaks k i) (λ f b. initial-never i t h f b))

      only-this : (t : TypedForm) → IsConstant k i.value t → (f : Fault) → InitialBreaks k i f
          → f ≡ fault MISMATCH (place_of i.value)
      only-this t c f (no_constant n x) = absurd (n t c)
      only-this t c f (unlike u d n x) = x

      unlike-told : (t : TypedForm) → IsConstant k i.value t
          → is_below k.facts (type_of t) i.ty ≡ false
          → Goal (no_node (with_fault (fault MISMATCH (place_of i.value)) found))
      unlike-told t c e =
          has_none (fault MISMATCH (place_of i.value)) refl (unlike t c not_below refl)
          (alike found (λ f. f
          ≡ fault MISMATCH (place_of i.value)) (InitialBreaks k i)
          (with_fault (fault MISMATCH (place_of i.value)) found)
          (λ f x. unlike t c not_below x) (only-this t c)
          (one_more (fault MISMATCH (place_of i.value)) found))
        where
          not_below : IsBelow k (type_of t) i.ty → ⊥
          not_below b =
              let z : true ≡ false = sym (D.below (type_of t) i.ty (constant-typed c) T b) ∙ e
              in absurd cc

      only-none : constant k.facts i.value ≡ None → (f : Fault) → InitialBreaks k i f
          → f ≡ fault INITIAL_NOT_CONSTANT (place_of i.value)
      only-none e f (no_constant n x) = x
      only-none e f (unlike u d n x) = none-some (sym e ∙ constant-is d)

      none-told : constant k.facts i.value ≡ None
          → Goal (no_node (with_fault (fault INITIAL_NOT_CONSTANT (place_of i.value)) found))
      none-told e =
          has_none (fault INITIAL_NOT_CONSTANT (place_of i.value)) refl (no_constant lacks refl)
          (alike found (λ f. f
          ≡ fault INITIAL_NOT_CONSTANT (place_of i.value)) (InitialBreaks k i)
          (with_fault (fault INITIAL_NOT_CONSTANT (place_of i.value)) found)
          (λ f x. no_constant lacks x) (only-none e)
          (one_more (fault INITIAL_NOT_CONSTANT (place_of i.value)) found))
        where
          lacks : (t : TypedForm) → IsConstant k i.value t → ⊥
          lacks t c = none-some (sym e ∙ constant-is c)

      -- What an initial answers.
      pub initial-told : Goal (judged_initial k.facts i found)
      unfolding judged_initial breaks
      initial-told = by (constant k.facts i.value) refl
        where
          below : (t : TypedForm) → IsConstant k i.value t → (c : Bool)
              → is_below k.facts (type_of t) i.ty ≡ c
              → Goal (cond c (record { node = Some t; found = found })
              (no_node (with_fault (fault MISMATCH (place_of i.value)) found)))
          below t d true e = below-told t d e
          below t d false e = unlike-told t d e

          by : (o : Option TypedForm) → constant k.facts i.value ≡ o
              → Goal (initial_by k.facts i o found)
          by None e = none-told e
          by (Some t) e =
              below t (constant-told i.value t e) (is_below k.facts (type_of t) i.ty) refl
