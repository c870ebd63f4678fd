-- What a built-in declaration answers: numbers, truths, ranges, texts and throws alone, so that
-- what holds of all these holds of its value.
use Rattle.std.proofs.Common.{ℕ, Bool, true, false, if◌then◌else◌, List, [], ◌∷◌, map}
use Rattle.std.specs.Prelude.{not, ◌&&◌, ◌||◌, ◌++◌, length, chars, bytes_eq, ℤ, pos, neg_ℤ, ◌+ℤ◌, ◌-ℤ◌, ◌*ℤ◌, unsigned_abs, int_lt, int_le}
use Rattle.std.specs.Int.{w32, w64, int_min, int_max, int_bit_and, int_bit_or, int_bit_xor}
use Rattle.std.specs.Ordering.{int_eq}
use Rattle.fort_core.specs.declared.primitive.Primitive.{Primitive}
use Rattle.fort_core.specs.declared.primitive.Primitive.TheVariants as primitive
use Rattle.fort_core.specs.declared.program.Program.{Program}
use Rattle.fort_core.specs.declared.value.Value.{Value, Small, Large, Truth, Range, out-Value}
use Rattle.fort_core.specs.declared.term.Term.TheOpen.{Value-F}
use Rattle.fort_machine.specs.Numbers.{Figure, number, too_large, by_zero, below_zero, within, is_within, quotient, remainder, modulus, greatest_divisor, least_multiple, shifted_left, shifted_right, power, last_of}
use Rattle.fort_machine.specs.Texts.{text, same}
use Rattle.fort_machine.specs.Primitives.{Answer, gives, throws, prints, ValueKind, as_value, two_small, two_large, small, large, small_test, large_test, one_small, one_large, two_texts, two_truths, one_truth, one_text, two_values, one_value, equal_truths, count_to, counted, joined_texts, answer_of}

abbrev pub AnswerHas : (Value → Type 0) → Answer → Type 0
AnswerHas Has (gives v) = Has v
AnswerHas Has _ = Unit {0}

module _ (Has : Value → Type 0) (has_small : (i : ℤ) → Has (Small i))
    (has_large : (i : ℤ) → Has (Large i)) (has_truth : (b : Bool) → Has (Truth b))
    (has_range : (i : ℤ) (count : ℕ) → Has (Range i count)) where
  figure_has : (p : Program) (make : ℤ → Value) → ((n : ℤ) → Has (make n)) → (f : Figure)
      → AnswerHas Has (as_value p make f)
  figure_has p make h (number n) = h n
  figure_has p make h too_large = tt
  figure_has p make h by_zero = tt
  figure_has p make h below_zero = tt

  two_small_has : (f : ℤ → ℤ → Answer) → ((a b : ℤ) → AnswerHas Has (f a b)) → (ks : List ValueKind)
      → AnswerHas Has (two_small f ks)
  two_small_has f h (Value-F.Small a ∷ Value-F.Small b ∷ []) = h a b
  two_small_has f h _ = tt

  two_large_has : (f : ℤ → ℤ → Answer) → ((a b : ℤ) → AnswerHas Has (f a b)) → (ks : List ValueKind)
      → AnswerHas Has (two_large f ks)
  two_large_has f h (Value-F.Large a ∷ Value-F.Large b ∷ []) = h a b
  two_large_has f h _ = tt

  small_has : (p : Program) (f : ℤ → ℤ → Figure) (ks : List ValueKind)
      → AnswerHas Has (small p f ks)
  small_has p f ks =
      two_small_has (λ a b. as_value p Small (within w32 (f a b)))
      (λ a b. figure_has p Small has_small (within w32 (f a b))) ks

  large_has : (p : Program) (f : ℤ → ℤ → Figure) (ks : List ValueKind)
      → AnswerHas Has (large p f ks)
  large_has p f ks =
      two_large_has (λ a b. as_value p Large (within w64 (f a b)))
      (λ a b. figure_has p Large has_large (within w64 (f a b))) ks

  one_small_has : (f : ℤ → Answer) → ((a : ℤ) → AnswerHas Has (f a)) → (ks : List ValueKind)
      → AnswerHas Has (one_small f ks)
  one_small_has f h (Value-F.Small a ∷ []) = h a
  one_small_has f h _ = tt

  one_large_has : (f : ℤ → Answer) → ((a : ℤ) → AnswerHas Has (f a)) → (ks : List ValueKind)
      → AnswerHas Has (one_large f ks)
  one_large_has f h (Value-F.Large a ∷ []) = h a
  one_large_has f h _ = tt

  two_texts_has : (f : List ℕ → List ℕ → Answer) → ((a b : List ℕ) → AnswerHas Has (f a b))
      → (ks : List ValueKind) → AnswerHas Has (two_texts f ks)
  two_texts_has f h (Value-F.Text a ∷ Value-F.Text b ∷ []) = h a b
  two_texts_has f h _ = tt

  two_truths_has : (f : Bool → Bool → Bool) (ks : List ValueKind) → AnswerHas Has (two_truths f ks)
  two_truths_has f (Value-F.Truth a ∷ Value-F.Truth b ∷ []) = has_truth (f a b)
  two_truths_has f _ = tt

  one_truth_has : (f : Bool → Bool) (ks : List ValueKind) → AnswerHas Has (one_truth f ks)
  one_truth_has f (Value-F.Truth a ∷ []) = has_truth (f a)
  one_truth_has f _ = tt

  one_text_has : (f : List ℕ → Answer) → ((s : List ℕ) → AnswerHas Has (f s))
      → (ks : List ValueKind) → AnswerHas Has (one_text f ks)
  one_text_has f h (Value-F.Text s ∷ []) = h s
  one_text_has f h _ = tt

  two_values_has : (f : Value → Value → Answer) → ((a b : Value) → AnswerHas Has (f a b))
      → (vs : List Value) → AnswerHas Has (two_values f vs)
  two_values_has f h (a ∷ b ∷ []) = h a b
  two_values_has f h _ = tt

  one_any_has : (f : Value → Answer) → ((a : Value) → AnswerHas Has (f a)) → (vs : List Value)
      → AnswerHas Has (one_value f vs)
  one_any_has f h (a ∷ []) = h a
  one_any_has f h _ = tt

  counted_has : (p : Program) (a n : ℤ) → AnswerHas Has (counted p a n)
  counted_has p a n = go (int_lt n (pos 1)) (is_within w32 (last_of a (unsigned_abs n)))
    where
      go : (b c : Bool)
          → AnswerHas Has (if b then gives (Range a 0)
          else (if c then gives (Range a (unsigned_abs n))
          else throws p.built_in.integer_overflow))
      go true c = has_range a 0
      go false true = has_range a (unsigned_abs n)
      go false false = tt

  small_test_has : (f : ℤ → ℤ → Bool) (ks : List ValueKind) → AnswerHas Has (small_test f ks)
  small_test_has f ks =
      two_small_has (λ a b. gives (Truth (f a b))) (λ a b. has_truth (f a b)) ks

  large_test_has : (f : ℤ → ℤ → Bool) (ks : List ValueKind) → AnswerHas Has (large_test f ks)
  large_test_has f ks =
      two_large_has (λ a b. gives (Truth (f a b))) (λ a b. has_truth (f a b)) ks

  pub answer_has : (p : Program) (f : Primitive) (vs : List Value)
      → AnswerHas Has (answer_of p f vs)
  answer_has p primitive.AddSmall vs = small_has p (λ a b. number (a +ℤ b)) (map out-Value vs)
  answer_has p primitive.AddLarge vs = large_has p (λ a b. number (a +ℤ b)) (map out-Value vs)
  answer_has p primitive.SubtractSmall vs =
      small_has p (λ a b. number (a -ℤ b)) (map out-Value vs)
  answer_has p primitive.SubtractLarge vs =
      large_has p (λ a b. number (a -ℤ b)) (map out-Value vs)
  answer_has p primitive.TimesSmall vs = small_has p (λ a b. number (a *ℤ b)) (map out-Value vs)
  answer_has p primitive.TimesLarge vs = large_has p (λ a b. number (a *ℤ b)) (map out-Value vs)
  answer_has p primitive.DotSmall vs = small_has p (λ a b. number (a *ℤ b)) (map out-Value vs)
  answer_has p primitive.DotLarge vs = large_has p (λ a b. number (a *ℤ b)) (map out-Value vs)
  answer_has p primitive.JuxtaposeSmall vs =
      small_has p (λ a b. number (a *ℤ b)) (map out-Value vs)
  answer_has p primitive.JuxtaposeLarge vs =
      large_has p (λ a b. number (a *ℤ b)) (map out-Value vs)
  answer_has p primitive.MaxSmall vs =
      small_has p (λ a b. number (int_max a b)) (map out-Value vs)
  answer_has p primitive.MaxLarge vs =
      large_has p (λ a b. number (int_max a b)) (map out-Value vs)
  answer_has p primitive.MinSmall vs =
      small_has p (λ a b. number (int_min a b)) (map out-Value vs)
  answer_has p primitive.MinLarge vs =
      large_has p (λ a b. number (int_min a b)) (map out-Value vs)
  answer_has p primitive.NegateSmall vs =
      one_small_has (λ a. as_value p Small (within w32 (number (neg_ℤ a))))
      (λ a. figure_has p Small has_small (within w32 (number (neg_ℤ a)))) (map out-Value vs)
  answer_has p primitive.NegateLarge vs =
      one_large_has (λ a. as_value p Large (within w64 (number (neg_ℤ a))))
      (λ a. figure_has p Large has_large (within w64 (number (neg_ℤ a)))) (map out-Value vs)
  answer_has p primitive.DivideSmall vs = small_has p quotient (map out-Value vs)
  answer_has p primitive.DivideLarge vs = large_has p quotient (map out-Value vs)
  answer_has p primitive.RemainderSmall vs = small_has p remainder (map out-Value vs)
  answer_has p primitive.RemainderLarge vs = large_has p remainder (map out-Value vs)
  answer_has p primitive.ModuloSmall vs = small_has p modulus (map out-Value vs)
  answer_has p primitive.ModuloLarge vs = large_has p modulus (map out-Value vs)
  answer_has p primitive.GcdSmall vs = small_has p greatest_divisor (map out-Value vs)
  answer_has p primitive.GcdLarge vs = large_has p greatest_divisor (map out-Value vs)
  answer_has p primitive.LcmSmall vs = small_has p least_multiple (map out-Value vs)
  answer_has p primitive.LcmLarge vs = large_has p least_multiple (map out-Value vs)
  answer_has p primitive.BitAndSmall vs =
      small_has p (λ a b. number (int_bit_and w32 a b)) (map out-Value vs)
  answer_has p primitive.BitAndLarge vs =
      large_has p (λ a b. number (int_bit_and w64 a b)) (map out-Value vs)
  answer_has p primitive.BitOrSmall vs =
      small_has p (λ a b. number (int_bit_or w32 a b)) (map out-Value vs)
  answer_has p primitive.BitOrLarge vs =
      large_has p (λ a b. number (int_bit_or w64 a b)) (map out-Value vs)
  answer_has p primitive.BitXorSmall vs =
      small_has p (λ a b. number (int_bit_xor w32 a b)) (map out-Value vs)
  answer_has p primitive.BitXorLarge vs =
      large_has p (λ a b. number (int_bit_xor w64 a b)) (map out-Value vs)
  answer_has p primitive.ShiftLeftSmall vs = small_has p (shifted_left w32) (map out-Value vs)
  answer_has p primitive.ShiftLeftLarge vs = large_has p (shifted_left w64) (map out-Value vs)
  answer_has p primitive.ShiftRightSmall vs = small_has p (shifted_right w32) (map out-Value vs)
  answer_has p primitive.ShiftRightLarge vs = large_has p (shifted_right w64) (map out-Value vs)
  answer_has p primitive.PowerSmall vs = small_has p power (map out-Value vs)
  answer_has p primitive.PowerLarge vs = large_has p power (map out-Value vs)
  answer_has p primitive.EqualSmall vs = small_test_has int_eq (map out-Value vs)
  answer_has p primitive.EqualLarge vs = large_test_has int_eq (map out-Value vs)
  answer_has p primitive.UnequalSmall vs =
      small_test_has (λ a b. not (int_eq a b)) (map out-Value vs)
  answer_has p primitive.UnequalLarge vs =
      large_test_has (λ a b. not (int_eq a b)) (map out-Value vs)
  answer_has p primitive.LessSmall vs = small_test_has int_lt (map out-Value vs)
  answer_has p primitive.LessLarge vs = large_test_has int_lt (map out-Value vs)
  answer_has p primitive.AtMostSmall vs = small_test_has int_le (map out-Value vs)
  answer_has p primitive.AtMostLarge vs = large_test_has int_le (map out-Value vs)
  answer_has p primitive.GreaterSmall vs = small_test_has (λ a b. int_lt b a) (map out-Value vs)
  answer_has p primitive.GreaterLarge vs = large_test_has (λ a b. int_lt b a) (map out-Value vs)
  answer_has p primitive.AtLeastSmall vs = small_test_has (λ a b. int_le b a) (map out-Value vs)
  answer_has p primitive.AtLeastLarge vs = large_test_has (λ a b. int_le b a) (map out-Value vs)
  answer_has p primitive.EqualTexts vs =
      two_texts_has (λ s r. gives (Truth (bytes_eq s r))) (λ s r. has_truth (bytes_eq s r))
      (map out-Value vs)
  answer_has p primitive.UnequalTexts vs =
      two_texts_has (λ s r. gives (Truth (not (bytes_eq s r))))
      (λ s r. has_truth (not (bytes_eq s r))) (map out-Value vs)
  answer_has p primitive.EqualTruths vs = two_truths_has equal_truths (map out-Value vs)
  answer_has p primitive.UnequalTruths vs =
      two_truths_has (λ a b. not (equal_truths a b)) (map out-Value vs)
  answer_has p primitive.Same vs =
      two_values_has (λ a b. gives (Truth (same a b))) (λ a b. has_truth (same a b)) vs
  answer_has p primitive.And vs = two_truths_has (λ a b. a && b) (map out-Value vs)
  answer_has p primitive.Or vs = two_truths_has (λ a b. a || b) (map out-Value vs)
  answer_has p primitive.Not vs = one_truth_has not (map out-Value vs)
  answer_has p primitive.RangeTo vs =
      two_small_has (λ a b. gives (Range a (count_to a b))) (λ a b. has_range a (count_to a b))
      (map out-Value vs)
  answer_has p primitive.RangeCount vs =
      two_small_has (counted p) (counted_has p) (map out-Value vs)
  answer_has p primitive.JoinTextAny vs = two_values_has (joined_texts p) (λ a b. tt) vs
  answer_has p primitive.JoinAnyText vs = two_values_has (joined_texts p) (λ a b. tt) vs
  answer_has p primitive.JoinTexts vs = two_values_has (joined_texts p) (λ a b. tt) vs
  answer_has p primitive.Println vs = one_any_has (λ a. prints (text p a ++ 10 ∷ [])) (λ a. tt) vs
  answer_has p primitive.Print vs = one_any_has (λ a. prints (text p a)) (λ a. tt) vs
  answer_has p primitive.Abort [] = tt
  answer_has p primitive.Abort (v ∷ vs) = tt
  answer_has p primitive.Widen vs =
      one_small_has (λ a. gives (Large a)) (λ a. has_large a) (map out-Value vs)
  answer_has p primitive.Narrow vs =
      one_large_has (λ a. as_value p Small (within w32 (number a)))
      (λ a. figure_has p Small has_small (within w32 (number a))) (map out-Value vs)
  answer_has p primitive.Length vs =
      one_text_has (λ s. as_value p Small (within w32 (number (pos (length (chars s))))))
      (λ s. figure_has p Small has_small (within w32 (number (pos (length (chars s))))))
      (map out-Value vs)
