-- The constants of initials have their types.
use Rattle.std.proofs.Common.{◌≡◌, ◌≤◌, ◌<◌, ◌⊎◌, inl, inr, ℕ, Bool, true, false, cond, List, [], ◌∷◌, get_or, ℤ, pos, negsuc, ◌-ℤ◌, neg_ℤ, refl, sym, ap, ◌∙◌, subst, arith}
use borrow.Author.Differences.{up, down, sum_is_lem, neg_is}
use Rattle.std.specs.Prelude.{nat_le}
use Rattle.std.specs.Int.{w32, w64}
use Rattle.std.proofs.lemmas.Bool.{leb-true, lt-ltb}
use Rattle.std.proofs.lemmas.Int.{ints}
use Rattle.fort_base.specs.declared.ids.TypeId.{TypeId}
use Rattle.fort_base.specs.declared.ty.Ty.{Ty}
use Rattle.fort_base.specs.declared.ty.Ty.TheVariants.{Named}
use Rattle.fort_types_builtin.specs.declared.types.TheConstants.{BUILT_IN}
use Rattle.fort_core.specs.declared.program.BuiltIn.{BuiltIn}
use Rattle.fort_core.specs.declared.program.Program.{Program}
use Rattle.fort_core.specs.declared.value.Value.{Small, Large, Truth, Text}
use Rattle.fort_core.specs.declared.value.Value.TheVariants.{outs-Small, outs-Large, outs-Truth, outs-Text, outs-Tuple}
use Rattle.fort_machine.specs.Acts.{unit}
use Rattle.fort_form.specs.declared.form.Form.{Form}
use Rattle.fort_form_typed.specs.declared.typed_form.Chosen.{Chosen}
use Rattle.fort_form_typed.specs.declared.typed_form.TypedForm.{TypedForm, out-TypedForm}
use Rattle.fort_form_typed.specs.declared.typed_form.TypedForm.TheVariants as a_typed
use Rattle.fort_form_typed.specs.declared.typed_form.TypedForm.TheVariants.{outs-Number, outs-Text as outs-TypedText, outs-Truth as outs-TypedTruth, outs-Tuple as outs-TypedTuple, outs-Operation}
use Rattle.fort_types.specs.Types.{IsNumbered}
use Rattle.fort_member.proofs.Numbered.{named_numbered, tuple_numbered}
use Rattle.fort_typing_known.specs.Known.{Knows}
use Rattle.fort_typing_rules.specs.Types.{zz32, zz64, string, boolean, number_type, type_at, type_of}
use Rattle.fort_typing_rules.specs.Components.{IsConstant, number, negative, words, truth, nothing}
use Rattle.fort_sound_typed.specs.Envs.{Sig}
use Rattle.fort_sound_typed.specs.Typing.{is_same, unit_type, small_type, truth_type, IsNumber, HasV, parts0, vs0}
use Rattle.fort_sound_typed.specs.Signatures.{large_type, text_type}
use Rattle.fort_sound_typed.proofs.Rules.{has_v_at}
use Rattle.fort_elab_meaning.specs.Values.{constant_at, constant, negative_of, negative_at}
use Rattle.fort_elab_meaning.specs.Values as translation
use Rattle.fort_sound_program.specs.Checked.{FitsFile}

-- ---- numbers

one_part : (z : ℤ) → (up z ≡ 0) ⊎ (down z ≡ 0)
one_part (pos n) = inr refl
one_part (negsuc n) = inl refl

small_in : (z : ℤ) → up z < 2147483648 → down z ≤ 2147483648 → IsNumber w32 z
small_in (pos n) h k = lt-ltb n 2147483648 (omega arith)
small_in (negsuc n) h k = lt-ltb n 2147483648 (omega arith)

large_in : (z : ℤ) → up z < 9223372036854775808 → down z ≤ 9223372036854775808 → IsNumber w64 z
large_in (pos n) h k = lt-ltb n 9223372036854775808 (omega arith)
large_in (negsuc n) h k = lt-ltb n 9223372036854775808 (omega arith)

-- a number, or its negative
abbrev Bounded : ℕ → ℤ → Type 0
Bounded n z = (up z ≤ n) × (down z ≤ n)

itself_bounded : (n : ℕ) → Bounded n (pos n)
itself_bounded n = (omega arith, omega arith)

negative_bounded : (n : ℕ) → Bounded n (pos 0 -ℤ pos n)
negative_bounded n =
    let x = sum_is_lem (pos 0) (neg_ℤ (pos n)) in
    let o = one_part (pos 0 -ℤ pos n) in
    (omega (arith, ints, x, o, neg_is), omega (arith, ints, x, o, neg_is))

module _ (p : Program) (built_in : p.built_in ≡ BUILT_IN) (S : Sig) where
  named_by : (f : BuiltIn → TypeId) → Named (f p.built_in) ≡ Named (f BUILT_IN)
  named_by f = ap (λ b. Named (f b)) built_in

  small_is : small_type p ≡ zz32
  small_is = named_by (λ b. b.small)

  large_is : large_type p ≡ zz64
  large_is = named_by (λ b. b.large)

  text_is : text_type p ≡ string
  text_is = named_by (λ b. b.text)

  truth_is : truth_type p ≡ boolean
  truth_is = named_by (λ b. b.truth)

  pub has_unit : HasV p S unit unit_type
  has_unit =
      has_v_at p S (outs-Tuple [])
      (record {
        own = unit_type;
        qs = [];
        ws = [];
        fits = refl;
        parts = parts0;
        values = vs0;
        below = is_same refl;
      })

  has_small : (z : ℤ) → IsNumber w32 z → HasV p S (Small z) zz32
  has_small z w =
      has_v_at p S (outs-Small z)
      (record {
        own = zz32;
        qs = [];
        ws = [];
        fits = (sym small_is, w);
        parts = parts0;
        values = vs0;
        below = is_same refl;
      })

  has_large : (z : ℤ) → IsNumber w64 z → HasV p S (Large z) zz64
  has_large z w =
      has_v_at p S (outs-Large z)
      (record {
        own = zz64;
        qs = [];
        ws = [];
        fits = (sym large_is, w);
        parts = parts0;
        values = vs0;
        below = is_same refl;
      })

  has_truth : (b : Bool) → HasV p S (Truth b) boolean
  has_truth b =
      has_v_at p S (outs-Truth b)
      (record {
        own = boolean;
        qs = [];
        ws = [];
        fits = sym truth_is;
        parts = parts0;
        values = vs0;
        below = is_same refl;
      })

  has_text : (s : List ℕ) → HasV p S (Text s) string
  has_text s =
      has_v_at p S (outs-Text s)
      (record {
        own = string;
        qs = [];
        ws = [];
        fits = sym text_is;
        parts = parts0;
        values = vs0;
        below = is_same refl;
      })

  has_number : (n : ℕ) (z : ℤ) → n ≤ 9223372036854775807 → Bounded n z
      → HasV p S (translation.number n z) (number_type n)
  has_number n z l b = go (nat_le n 2147483647) refl
    where
      go : (c : Bool) → nat_le n 2147483647 ≡ c
          → HasV p S (cond c (Small z) (Large z)) (cond c zz32 zz64)
      go true e =
          let m = leb-true n 2147483647 e in let u = b.0 in let d = b.1
          in has_small z (small_in z (omega arith) (omega arith))
      go false e =
          let u = b.0 in let d = b.1 in has_large z (large_in z (omega arith) (omega arith))

  -- ---- constants

  module _ (texts : List (List ℕ)) where
    abbrev HasIt : TypedForm → Type 0
    HasIt t = HasV p S (constant texts t) (type_of t)

    type_is : (t : TypedForm) → type_of t ≡ type_at (out-TypedForm t)
    unfolding type_of
    type_is t = refl

    has_out : (t : TypedForm) (T : Ty) → HasV p S (constant texts t) T
        → type_at (out-TypedForm t) ≡ T → HasIt t
    has_out t T h e = subst (HasV p S (constant texts t)) (sym (type_is t ∙ e)) h

    of_number : (n : ℕ) → n ≤ 9223372036854775807 → HasIt (a_typed.Number (number_type n) n)
    of_number n l = let t = a_typed.Number (number_type n) n in
        has_out t (number_type n)
        (subst (λ x. HasV p S (constant_at texts x) (number_type n))
        (sym (outs-Number (number_type n) n)) (has_number n (pos n) l (itself_bounded n)))
        (ap type_at (outs-Number (number_type n) n))

    of_negative : (n : ℕ) (set : Chosen) → n ≤ 9223372036854775807
        → HasIt (a_typed.Operation (number_type n) set (a_typed.Number (number_type n) n ∷ []))
    of_negative n set l =
        let d = a_typed.Number (number_type n) n
        in let t = a_typed.Operation (number_type n) set (d ∷ []) in
        has_out t (number_type n)
        (subst (λ x. HasV p S (constant_at texts x) (number_type n))
        (sym (outs-Operation (number_type n) set (d ∷ [])))
        (subst (λ x. HasV p S (negative_at x) (number_type n)) (sym (outs-Number (number_type n) n))
        (has_number n (pos 0 -ℤ pos n) l (negative_bounded n)))) (ap type_at
        (outs-Operation (number_type n) set (d ∷ [])))

    of_words : (n : ℕ) → HasIt (a_typed.Text string n)
    of_words n = let t = a_typed.Text string n in
        has_out t string
        (subst (λ x. HasV p S (constant_at texts x) string) (sym (outs-TypedText string n))
        (has_text (get_or texts n []))) (ap type_at (outs-TypedText string n))

    of_truth : (b : Bool) → HasIt (a_typed.Truth boolean b)
    of_truth b = let t = a_typed.Truth boolean b in
        has_out t boolean
        (subst (λ x. HasV p S (constant_at texts x) boolean) (sym (outs-TypedTruth boolean b))
        (has_truth b)) (ap type_at (outs-TypedTruth boolean b))

    of_nothing : HasIt (a_typed.Tuple unit_type [])
    of_nothing = let t = a_typed.Tuple unit_type [] in
        has_out t unit_type
        (subst (λ x. HasV p S (constant_at texts x) unit_type)
        (sym (outs-TypedTuple unit_type [])) has_unit)
        (ap type_at (outs-TypedTuple unit_type []))

    -- Where the numbers of an initial are those of a file, its constant has its type.
    pub constant_has : (k : Knows) (e : Form) (t : TypedForm) → IsConstant k e t → FitsFile e
        → HasIt t
    constant_has k e t (number q n f r) fits = subst HasIt (sym r) (of_number n (fits.number q n f))
    constant_has k e t (negative q r d n f g s) fits =
        subst HasIt (sym s) (of_negative n _ (fits.negative q r d n f g))
    constant_has k e t (words q n f r) fits = subst HasIt (sym r) (of_words n)
    constant_has k e t (truth q b f r) fits = subst HasIt (sym r) (of_truth b)
    constant_has k e t (nothing q f r) fits = subst HasIt (sym r) of_nothing

-- The types of constants are built in.
number_numbered : (n m : ℕ) → 7 ≤ n → (b : Bool) → IsNumbered n (cond b zz32 zz64)
number_numbered n m l true = named_numbered n _ (omega arith)
number_numbered n m l false = named_numbered n _ (omega arith)

module _ (n : ℕ) (few : 7 ≤ n) where
  abbrev Numbered : TypedForm → Type 0
  Numbered t = IsNumbered n (type_of t)

  by_out : (t : TypedForm) (T : Ty) → IsNumbered n T → type_at (out-TypedForm t) ≡ T → Numbered t
  unfolding type_of
  by_out t T h e = subst (IsNumbered n) (sym e) h

  pub constant_numbered : (k : Knows) (e : Form) (t : TypedForm) → IsConstant k e t → Numbered t
  constant_numbered k e t (number q m f r) =
      subst Numbered (sym r)
      (by_out _ (number_type m) (number_numbered n m few (nat_le m 2147483647))
      (ap type_at (outs-Number (number_type m) m)))
  constant_numbered k e t (negative q r d m f g s) =
      subst Numbered (sym s)
      (by_out _ (number_type m) (number_numbered n m few (nat_le m 2147483647))
      (ap type_at (outs-Operation (number_type m) _ _)))
  constant_numbered k e t (words q m f r) =
      subst Numbered (sym r)
      (by_out _ string (named_numbered n _ (omega arith)) (ap type_at (outs-TypedText string m)))
  constant_numbered k e t (truth q b f r) =
      subst Numbered (sym r)
      (by_out _ boolean (named_numbered n _ (omega arith)) (ap type_at (outs-TypedTruth boolean b)))
  constant_numbered k e t (nothing q f r) =
      subst Numbered (sym r)
      (by_out _ unit_type (tuple_numbered n [] tt) (ap type_at (outs-TypedTuple unit_type [])))
