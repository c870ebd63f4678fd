-- The chapter "Typing", declarations, and which refusal comes: what a component becomes, or which
-- broken rule is reported, is what is computed.
use Rattle.std.specs.Prelude.{◌≡◌, Result, Ok, Err}
use Rattle.fort_form.specs.declared.component.Forms.{Forms}
use Rattle.fort_form_typed.specs.declared.component.Typed.{Typed}
use Rattle.fort_typing_known.specs.declared.fault.Fault.{Fault}
use Rattle.fort_typing_known.specs.Known.{Knows}
use Rattle.fort_typing_rules.specs.Components.{HasTypes, IsReported}
use Rattle.fort_typing_meaning.specs.Whole.{typed_whole}
use Rattle.fort_typing_law_exact.specs.Ready.{IsReady}

-- A component has a typing exactly where one is computed, and then that one; and a broken rule is
-- reported exactly where it is computed.
pub record IsExactly (k : Knows) (forms : Forms) : Type 0 where
  pub computed : (typed : Typed) → HasTypes k forms typed → typed_whole k.facts forms ≡ Ok typed
  pub has_types : (typed : Typed) → typed_whole k.facts forms ≡ Ok typed → HasTypes k forms typed
  pub refused : (x : Fault) → IsReported k forms x → typed_whole k.facts forms ≡ Err x
  pub reported : (x : Fault) → typed_whole k.facts forms ≡ Err x → IsReported k forms x

-- So it is of each component that is ready.
abbrev pub TypingIsExact : Type 0
TypingIsExact = (k : Knows) (forms : Forms) → IsReady k forms → IsExactly k forms

-- A component has a typing, or a broken rule that is reported.
pub data IsOneOfTwo (k : Knows) (forms : Forms) : Type 0 where
  has_typing : (typed : Typed) → HasTypes k forms typed → IsOneOfTwo k forms
  has_report : (x : Fault) → IsReported k forms x → IsOneOfTwo k forms

-- One of the two always, never both, one typing at most, and one broken rule that is reported at
-- most.
pub record OneOfTwo : Type 0 where
  pub one : (k : Knows) (forms : Forms) → IsReady k forms → IsOneOfTwo k forms
  pub never_both : (k : Knows) (forms : Forms) → IsReady k forms → (typed : Typed)
      → HasTypes k forms typed → (x : Fault) → IsReported k forms x → ⊥
  pub one_typing : (k : Knows) (forms : Forms) → IsReady k forms → (t u : Typed)
      → HasTypes k forms t → HasTypes k forms u → t ≡ u
  pub one_report : (k : Knows) (forms : Forms) → IsReady k forms → (x y : Fault)
      → IsReported k forms x → IsReported k forms y → x ≡ y
