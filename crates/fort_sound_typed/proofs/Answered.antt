-- What a built-in declaration answers to typed values has its result's type.
use Rattle.std.proofs.Common.{◌≡◌, ℕ, ◌<◌, Bool, true, false, if◌then◌else◌, List, [], ◌∷◌, map, inl, inr, refl, subst, arith, rules}
use Rattle.std.specs.Prelude.{not, ◌&&◌, ◌||◌, ◌++◌, length, chars, bytes_eq, ℤ, pos, negsuc, neg_ℤ, ◌+ℤ◌, ◌-ℤ◌, ◌*ℤ◌, unsigned_abs, int_lt, int_le}
use Rattle.std.specs.Int.{w32, w64, int_min, int_max, int_bit_and, int_bit_or, int_bit_xor}
use Rattle.std.specs.Ordering.{int_eq}
use Rattle.fort_base.specs.declared.ty.Ty.{Ty}
use Rattle.fort_base.specs.declared.ty.Ty.TheVariants.{Named}
use Rattle.fort_core.specs.declared.primitive.Primitive.{Primitive}
use Rattle.fort_core.specs.declared.primitive.Primitive.TheVariants as primitive
use Rattle.fort_core.specs.declared.program.Program.{Program}
use Rattle.fort_core.specs.declared.value.Value.{Value, Small, Large, Truth, Range, out-Value}
use Rattle.fort_core.specs.declared.value.Value.TheVariants.{outs-Small, outs-Large, outs-Truth, outs-Range}
use Rattle.fort_core.specs.declared.term.Term.TheOpen.{Value-F}
use Rattle.fort_machine.specs.Numbers.{Figure, number, too_large, by_zero, below_zero, within, is_within, quotient, remainder, modulus, greatest_divisor, least_multiple, shifted_left, shifted_right, power, last_of}
use Rattle.fort_machine.specs.Texts.{text, same}
use Rattle.fort_machine.specs.Primitives.{Answer, gives, makes_text, throws, prints, ends, nothing, ValueKind, as_value, two_small, two_large, small, large, small_test, large_test, one_small, one_large, two_texts, two_truths, one_truth, one_text, two_values, one_value, equal_truths, count_to, counted, joined_texts, answer_of}
use Rattle.fort_sound_typed.specs.Envs.{Sig}
use Rattle.fort_sound_typed.specs.Typing.{IsNumber, RangeFits, Below, is_same, unit_type, small_type, truth_type, HasV, HasVs, vs0, vs1, parts0}
use Rattle.fort_sound_typed.specs.Signatures.{parameters_of, result_of}
use Rattle.fort_sound_typed.specs.Sound.{IsFailure}
use Rattle.fort_sound_typed.proofs.Ranges.{up_to_last, up_to}
use Rattle.fort_sound_typed.proofs.Rules.{rule_v, has_v_at}
use Rattle.fort_sound_typed.proofs.Facts.{AnswerFits}

-- a ZZ32 is a ZZ64
widened : (n : ℤ) → IsNumber w32 n → IsNumber w64 n
widened (pos n) h =
    let k : n < 2147483648 = search (rules, h) in let j : n < 9223372036854775808 = omega arith
    in search (rules, j)
widened (negsuc n) h =
    let k : n < 2147483648 = search (rules, h) in let j : n < 9223372036854775808 = omega arith
    in search (rules, j)

module _ (k : Program) (S : Sig) where
  abbrev pub AnswerHas : Answer → Ty → Type 0
  AnswerHas (gives v) R = HasV k S v R
  AnswerHas (makes_text s) R = Below k (Named k.built_in.text) R
  AnswerHas (throws id) R = IsFailure k id
  AnswerHas (prints s) R = Below k unit_type R
  AnswerHas ends R = Unit {0}
  AnswerHas nothing R = Unit {0}

  abbrev range_kind : Ty
  range_kind = Named k.built_in.range

  small_is : (n : ℤ) → IsNumber w32 n → HasV k S (Small n) (small_type k)
  small_is n w =
      has_v_at k S (outs-Small n)
      (record {
        own = small_type k;
        qs = [];
        ws = [];
        fits = (refl, w);
        parts = parts0;
        values = vs0;
        below = is_same refl;
      })

  large_has : (n : ℤ) → IsNumber w64 n → HasV k S (Large n) (Named k.built_in.large)
  large_has n w =
      has_v_at k S (outs-Large n)
      (record {
        own = Named k.built_in.large;
        qs = [];
        ws = [];
        fits = (refl, w);
        parts = parts0;
        values = vs0;
        below = is_same refl;
      })

  truth_has : (b : Bool) → HasV k S (Truth b) (truth_type k)
  truth_has b =
      has_v_at k S (outs-Truth b)
      (record {
        own = truth_type k;
        qs = [];
        ws = [];
        fits = refl;
        parts = parts0;
        values = vs0;
        below = is_same refl;
      })

  range_has : (first : ℤ) (count : ℕ) → RangeFits first count
      → HasV k S (Range first count) range_kind
  range_has first count w =
      has_v_at k S (outs-Range first count)
      (record {
        own = range_kind;
        qs = [];
        ws = [];
        fits = (refl, w);
        parts = parts0;
        values = vs0;
        below = is_same refl;
      })

  -- a figure that is in its type's range
  small_figure : (f : Figure) → AnswerHas (as_value k Small (within w32 f)) (small_type k)
  small_figure too_large = inl refl
  small_figure by_zero = inr (inl refl)
  small_figure below_zero = inr (inr (inl refl))
  small_figure (number n) = go (is_within w32 n) refl
    where
      go : (b : Bool) → is_within w32 n ≡ b
          → AnswerHas (as_value k Small (if b then number n else too_large)) (small_type k)
      go true e = small_is n e
      go false e = inl refl

  large_figure : (f : Figure) → AnswerHas (as_value k Large (within w64 f)) (Named k.built_in.large)
  large_figure too_large = inl refl
  large_figure by_zero = inr (inl refl)
  large_figure below_zero = inr (inr (inl refl))
  large_figure (number n) = go (is_within w64 n) refl
    where
      go : (b : Bool) → is_within w64 n ≡ b
          → AnswerHas (as_value k Large (if b then number n else too_large))
          (Named k.built_in.large)
      go true e = large_has n e
      go false e = inl refl

  -- two values, and one
  two_small_has : (R : Ty) (f : ℤ → ℤ → Answer)
      → ((a b : ℤ) → IsNumber w32 a → IsNumber w32 b → AnswerHas (f a b) R) → (vs : List Value)
      → HasVs k S vs (small_type k ∷ small_type k ∷ [])
      → AnswerHas (two_small f (map out-Value vs)) R
  two_small_has R f g [] h = elim h [ ]
  two_small_has R f g (v ∷ []) (vs1 h i) = elim i [ ]
  two_small_has R f g (v ∷ w ∷ u ∷ vs) (vs1 h (vs1 i j)) = elim j [ ]
  two_small_has R f g (v ∷ w ∷ []) (vs1 h (vs1 i j)) = go (out-Value v) refl (out-Value w) refl
    where
      go : (x : ValueKind) → out-Value v ≡ x → (y : ValueKind) → out-Value w ≡ y
          → AnswerHas (two_small f (x ∷ y ∷ [])) R
      go (Value-F.Small a) e (Value-F.Small b) q =
          g a b (rule_v k S e h).fits.1 (rule_v k S q i).fits.1
      go _ e _ q = tt

  two_large_has : (R : Ty) (f : ℤ → ℤ → Answer) → ((a b : ℤ) → AnswerHas (f a b) R)
      → (ks : List ValueKind) → AnswerHas (two_large f ks) R
  two_large_has R f g (Value-F.Large a ∷ Value-F.Large b ∷ []) = g a b
  two_large_has R f g _ = tt

  small_has : (f : ℤ → ℤ → Figure) (vs : List Value)
      → HasVs k S vs (small_type k ∷ small_type k ∷ [])
      → AnswerHas (small k f (map out-Value vs)) (small_type k)
  small_has f vs h =
      two_small_has (small_type k) (λ a b. as_value k Small (within w32 (f a b)))
      (λ a b x y. small_figure (f a b)) vs h

  large_has_all : (f : ℤ → ℤ → Figure) (vs : List Value)
      → AnswerHas (large k f (map out-Value vs)) (Named k.built_in.large)
  large_has_all f vs =
      two_large_has (Named k.built_in.large) (λ a b. as_value k Large (within w64 (f a b)))
      (λ a b. large_figure (f a b)) (map out-Value vs)

  small_test_has : (f : ℤ → ℤ → Bool) (vs : List Value)
      → HasVs k S vs (small_type k ∷ small_type k ∷ [])
      → AnswerHas (small_test f (map out-Value vs)) (truth_type k)
  small_test_has f vs h =
      two_small_has (truth_type k) (λ a b. gives (Truth (f a b))) (λ a b x y. truth_has (f a b)) vs
      h

  large_test_has : (f : ℤ → ℤ → Bool) (vs : List Value)
      → AnswerHas (large_test f (map out-Value vs)) (truth_type k)
  large_test_has f vs =
      two_large_has (truth_type k) (λ a b. gives (Truth (f a b))) (λ a b. truth_has (f a b))
      (map out-Value vs)

  one_small_has : (R : Ty) (f : ℤ → Answer) → ((a : ℤ) → IsNumber w32 a → AnswerHas (f a) R)
      → (vs : List Value) → HasVs k S vs (small_type k ∷ [])
      → AnswerHas (one_small f (map out-Value vs)) R
  one_small_has R f g [] h = elim h [ ]
  one_small_has R f g (v ∷ w ∷ vs) (vs1 h i) = elim i [ ]
  one_small_has R f g (v ∷ []) (vs1 h i) = go (out-Value v) refl
    where
      go : (x : ValueKind) → out-Value v ≡ x → AnswerHas (one_small f (x ∷ [])) R
      go (Value-F.Small a) e = g a (rule_v k S e h).fits.1
      go _ e = tt

  one_large_has : (R : Ty) (f : ℤ → Answer) → ((a : ℤ) → AnswerHas (f a) R) → (ks : List ValueKind)
      → AnswerHas (one_large f ks) R
  one_large_has R f g (Value-F.Large a ∷ []) = g a
  one_large_has R f g _ = tt

  two_texts_has : (f : List ℕ → List ℕ → Answer)
      → ((a b : List ℕ) → AnswerHas (f a b) (truth_type k)) → (ks : List ValueKind)
      → AnswerHas (two_texts f ks) (truth_type k)
  two_texts_has f g (Value-F.Text a ∷ Value-F.Text b ∷ []) = g a b
  two_texts_has f g _ = tt

  two_truths_has : (f : Bool → Bool → Bool) (ks : List ValueKind)
      → AnswerHas (two_truths f ks) (truth_type k)
  two_truths_has f (Value-F.Truth a ∷ Value-F.Truth b ∷ []) = truth_has (f a b)
  two_truths_has f _ = tt

  one_truth_has : (f : Bool → Bool) (ks : List ValueKind)
      → AnswerHas (one_truth f ks) (truth_type k)
  one_truth_has f (Value-F.Truth a ∷ []) = truth_has (f a)
  one_truth_has f _ = tt

  one_text_has : (R : Ty) (f : List ℕ → Answer) → ((s : List ℕ) → AnswerHas (f s) R)
      → (ks : List ValueKind) → AnswerHas (one_text f ks) R
  one_text_has R f g (Value-F.Text s ∷ []) = g s
  one_text_has R f g _ = tt

  two_any_has : (R : Ty) (f : Value → Value → Answer) → ((a b : Value) → AnswerHas (f a b) R)
      → (vs : List Value) → AnswerHas (two_values f vs) R
  two_any_has R f g (a ∷ b ∷ []) = g a b
  two_any_has R f g _ = tt

  one_any_has : (R : Ty) (f : Value → Answer) → ((a : Value) → AnswerHas (f a) R)
      → (vs : List Value) → AnswerHas (one_value f vs) R
  one_any_has R f g (a ∷ []) = g a
  one_any_has R f g _ = tt

  counted_has : (a n : ℤ) → IsNumber w32 a → IsNumber w32 n → AnswerHas (counted k a n) range_kind
  counted_has a n x y = go (int_lt n (pos 1)) (is_within w32 (last_of a (unsigned_abs n))) refl
    where
      go : (b c : Bool) → is_within w32 (last_of a (unsigned_abs n)) ≡ c
          → AnswerHas (if b then gives (Range a 0)
          else (if c then gives (Range a (unsigned_abs n))
          else throws k.built_in.integer_overflow)) range_kind
      go true c e = range_has a 0 (x, λ m l. absurd (omega arith))
      go false true e =
          range_has a (unsigned_abs n) (x, λ m l. up_to_last a (unsigned_abs n) m l x e)
      go false false e = inl refl

  answer_has : (f : Primitive) (vs : List Value) → HasVs k S vs (parameters_of k f)
      → AnswerHas (answer_of k f vs) (result_of k f)
  answer_has primitive.AddSmall vs h = small_has (λ a b. number (a +ℤ b)) vs h
  answer_has primitive.AddLarge vs h = large_has_all (λ a b. number (a +ℤ b)) vs
  answer_has primitive.SubtractSmall vs h = small_has (λ a b. number (a -ℤ b)) vs h
  answer_has primitive.SubtractLarge vs h = large_has_all (λ a b. number (a -ℤ b)) vs
  answer_has primitive.TimesSmall vs h = small_has (λ a b. number (a *ℤ b)) vs h
  answer_has primitive.TimesLarge vs h = large_has_all (λ a b. number (a *ℤ b)) vs
  answer_has primitive.DotSmall vs h = small_has (λ a b. number (a *ℤ b)) vs h
  answer_has primitive.DotLarge vs h = large_has_all (λ a b. number (a *ℤ b)) vs
  answer_has primitive.JuxtaposeSmall vs h = small_has (λ a b. number (a *ℤ b)) vs h
  answer_has primitive.JuxtaposeLarge vs h = large_has_all (λ a b. number (a *ℤ b)) vs
  answer_has primitive.MaxSmall vs h = small_has (λ a b. number (int_max a b)) vs h
  answer_has primitive.MaxLarge vs h = large_has_all (λ a b. number (int_max a b)) vs
  answer_has primitive.MinSmall vs h = small_has (λ a b. number (int_min a b)) vs h
  answer_has primitive.MinLarge vs h = large_has_all (λ a b. number (int_min a b)) vs
  answer_has primitive.NegateSmall vs h =
      one_small_has (small_type k) (λ a. as_value k Small (within w32 (number (neg_ℤ a))))
      (λ a x. small_figure (number (neg_ℤ a))) vs h
  answer_has primitive.NegateLarge vs h =
      one_large_has (Named k.built_in.large) (λ a. as_value k Large (within w64 (number (neg_ℤ a))))
      (λ a. large_figure (number (neg_ℤ a))) (map out-Value vs)
  answer_has primitive.DivideSmall vs h = small_has quotient vs h
  answer_has primitive.DivideLarge vs h = large_has_all quotient vs
  answer_has primitive.RemainderSmall vs h = small_has remainder vs h
  answer_has primitive.RemainderLarge vs h = large_has_all remainder vs
  answer_has primitive.ModuloSmall vs h = small_has modulus vs h
  answer_has primitive.ModuloLarge vs h = large_has_all modulus vs
  answer_has primitive.GcdSmall vs h = small_has greatest_divisor vs h
  answer_has primitive.GcdLarge vs h = large_has_all greatest_divisor vs
  answer_has primitive.LcmSmall vs h = small_has least_multiple vs h
  answer_has primitive.LcmLarge vs h = large_has_all least_multiple vs
  answer_has primitive.BitAndSmall vs h = small_has (λ a b. number (int_bit_and w32 a b)) vs h
  answer_has primitive.BitAndLarge vs h = large_has_all (λ a b. number (int_bit_and w64 a b)) vs
  answer_has primitive.BitOrSmall vs h = small_has (λ a b. number (int_bit_or w32 a b)) vs h
  answer_has primitive.BitOrLarge vs h = large_has_all (λ a b. number (int_bit_or w64 a b)) vs
  answer_has primitive.BitXorSmall vs h = small_has (λ a b. number (int_bit_xor w32 a b)) vs h
  answer_has primitive.BitXorLarge vs h = large_has_all (λ a b. number (int_bit_xor w64 a b)) vs
  answer_has primitive.ShiftLeftSmall vs h = small_has (shifted_left w32) vs h
  answer_has primitive.ShiftLeftLarge vs h = large_has_all (shifted_left w64) vs
  answer_has primitive.ShiftRightSmall vs h = small_has (shifted_right w32) vs h
  answer_has primitive.ShiftRightLarge vs h = large_has_all (shifted_right w64) vs
  answer_has primitive.PowerSmall vs h = small_has power vs h
  answer_has primitive.PowerLarge vs h = large_has_all power vs
  answer_has primitive.EqualSmall vs h = small_test_has int_eq vs h
  answer_has primitive.EqualLarge vs h = large_test_has int_eq vs
  answer_has primitive.UnequalSmall vs h = small_test_has (λ a b. not (int_eq a b)) vs h
  answer_has primitive.UnequalLarge vs h = large_test_has (λ a b. not (int_eq a b)) vs
  answer_has primitive.LessSmall vs h = small_test_has int_lt vs h
  answer_has primitive.LessLarge vs h = large_test_has int_lt vs
  answer_has primitive.AtMostSmall vs h = small_test_has int_le vs h
  answer_has primitive.AtMostLarge vs h = large_test_has int_le vs
  answer_has primitive.GreaterSmall vs h = small_test_has (λ a b. int_lt b a) vs h
  answer_has primitive.GreaterLarge vs h = large_test_has (λ a b. int_lt b a) vs
  answer_has primitive.AtLeastSmall vs h = small_test_has (λ a b. int_le b a) vs h
  answer_has primitive.AtLeastLarge vs h = large_test_has (λ a b. int_le b a) vs
  answer_has primitive.EqualTexts vs h =
      two_texts_has (λ s r. gives (Truth (bytes_eq s r))) (λ s r. truth_has (bytes_eq s r))
      (map out-Value vs)
  answer_has primitive.UnequalTexts vs h =
      two_texts_has (λ s r. gives (Truth (not (bytes_eq s r))))
      (λ s r. truth_has (not (bytes_eq s r))) (map out-Value vs)
  answer_has primitive.EqualTruths vs h = two_truths_has equal_truths (map out-Value vs)
  answer_has primitive.UnequalTruths vs h =
      two_truths_has (λ a b. not (equal_truths a b)) (map out-Value vs)
  answer_has primitive.Same vs h =
      two_any_has (truth_type k) (λ a b. gives (Truth (same a b))) (λ a b. truth_has (same a b)) vs
  answer_has primitive.And vs h = two_truths_has (λ a b. a && b) (map out-Value vs)
  answer_has primitive.Or vs h = two_truths_has (λ a b. a || b) (map out-Value vs)
  answer_has primitive.Not vs h = one_truth_has not (map out-Value vs)
  answer_has primitive.RangeTo vs h =
      two_small_has range_kind (λ a b. gives (Range a (count_to a b)))
      (λ a b x y. range_has a (count_to a b) (x, λ n l. up_to a b n l x y)) vs h
  answer_has primitive.RangeCount vs h = two_small_has range_kind (counted k) counted_has vs h
  answer_has primitive.JoinTextAny vs h =
      two_any_has (Named k.built_in.text) (joined_texts k) (λ a b. is_same refl) vs
  answer_has primitive.JoinAnyText vs h =
      two_any_has (Named k.built_in.text) (joined_texts k) (λ a b. is_same refl) vs
  answer_has primitive.JoinTexts vs h =
      two_any_has (Named k.built_in.text) (joined_texts k) (λ a b. is_same refl) vs
  answer_has primitive.Println vs h =
      one_any_has unit_type (λ a. prints (text k a ++ 10 ∷ [])) (λ a. is_same refl) vs
  answer_has primitive.Print vs h =
      one_any_has unit_type (λ a. prints (text k a)) (λ a. is_same refl) vs
  answer_has primitive.Abort [] h = tt
  answer_has primitive.Abort (v ∷ vs) h = tt
  answer_has primitive.Widen vs h =
      one_small_has (Named k.built_in.large) (λ a. gives (Large a))
      (λ a x. large_has a (widened a x)) vs h
  answer_has primitive.Narrow vs h =
      one_large_has (small_type k) (λ a. as_value k Small (within w32 (number a)))
      (λ a. small_figure (number a)) (map out-Value vs)
  answer_has primitive.Length vs h =
      one_text_has (small_type k)
      (λ s. as_value k Small (within w32 (number (pos (length (chars s))))))
      (λ s. small_figure (number (pos (length (chars s))))) (map out-Value vs)

  pub answers_fit : (f : Primitive) (vs : List Value) → HasVs k S vs (parameters_of k f)
      → AnswerFits k S f vs (result_of k f)
  answers_fit f vs h = let a = answer_has f vs h in record {
    given = λ v e. subst (λ x. AnswerHas x (result_of k f)) e a;
    text = λ s e. subst (λ x. AnswerHas x (result_of k f)) e a;
    printed = λ s e. subst (λ x. AnswerHas x (result_of k f)) e a;
    thrown = λ id e. subst (λ x. AnswerHas x (result_of k f)) e a;
  }
