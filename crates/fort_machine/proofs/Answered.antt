-- What a built-in declaration answers is at rest: no function is among its values.
use Rattle.std.proofs.Common.{ℕ, Bool, true, false, if◌then◌else◌, List, [], ◌∷◌, map}
use Rattle.std.specs.Prelude.{not, ◌&&◌, ◌||◌, ◌++◌, length, chars, bytes_eq, ℤ, pos, neg_ℤ, ◌+ℤ◌, ◌-ℤ◌, ◌*ℤ◌, unsigned_abs, int_lt, int_le}
use Rattle.std.specs.Int.{w32, w64, int_min, int_max, int_bit_and, int_bit_or, int_bit_xor}
use Rattle.std.specs.Ordering.{int_eq}
use Rattle.fort_core.specs.declared.primitive.Primitive.{Primitive}
use Rattle.fort_core.specs.declared.primitive.Primitive.TheVariants as primitive
use Rattle.fort_core.specs.declared.program.Program.{Program}
use Rattle.fort_core.specs.declared.value.Value.{Value, Small, Large, Truth, Range, out-Value}
use Rattle.fort_core.specs.declared.value.Value.TheVariants.{outs-Small, outs-Large, outs-Truth, outs-Range}
use Rattle.fort_core.specs.declared.term.Term.TheOpen.{Value-F}
use Rattle.fort_machine.specs.Numbers.{Figure, number, too_large, by_zero, below_zero, within, is_within, quotient, remainder, modulus, greatest_divisor, least_multiple, shifted_left, shifted_right, power, last_of}
use Rattle.fort_machine.specs.Texts.{text, same}
use Rattle.fort_machine.specs.Primitives.{Answer, gives, throws, prints, ValueKind, as_value, two_small, two_large, small, large, small_test, large_test, one_small, one_large, two_texts, two_truths, one_truth, one_text, two_values, one_value, equal_truths, count_to, counted, joined_texts, answer_of}
use Rattle.fort_machine.specs.Proper.{no_rests, RestingValue, no_resting_values}
use Rattle.fort_machine.proofs.Resting.{value_at_rest}

abbrev pub AnswerRests : Answer → Type 0
AnswerRests (gives v) = RestingValue v
AnswerRests _ = Unit {0}

small_rest : (n : ℤ) → RestingValue (Small n)
small_rest n = value_at_rest (Small n) _ (outs-Small n) no_rests no_resting_values

large_rest : (n : ℤ) → RestingValue (Large n)
large_rest n = value_at_rest (Large n) _ (outs-Large n) no_rests no_resting_values

truth_rest : (b : Bool) → RestingValue (Truth b)
truth_rest b = value_at_rest (Truth b) _ (outs-Truth b) no_rests no_resting_values

range_rest : (first : ℤ) (count : ℕ) → RestingValue (Range first count)
range_rest first count =
    value_at_rest (Range first count) _ (outs-Range first count) no_rests no_resting_values

figure_rests : (p : Program) (make : ℤ → Value) → ((n : ℤ) → RestingValue (make n)) → (f : Figure)
    → AnswerRests (as_value p make f)
figure_rests p make h (number n) = h n
figure_rests p make h too_large = tt
figure_rests p make h by_zero = tt
figure_rests p make h below_zero = tt

two_small_rests : (f : ℤ → ℤ → Answer) → ((a b : ℤ) → AnswerRests (f a b)) → (ks : List ValueKind)
    → AnswerRests (two_small f ks)
two_small_rests f h (Value-F.Small a ∷ Value-F.Small b ∷ []) = h a b
two_small_rests f h _ = tt

two_large_rests : (f : ℤ → ℤ → Answer) → ((a b : ℤ) → AnswerRests (f a b)) → (ks : List ValueKind)
    → AnswerRests (two_large f ks)
two_large_rests f h (Value-F.Large a ∷ Value-F.Large b ∷ []) = h a b
two_large_rests f h _ = tt

small_rests : (p : Program) (f : ℤ → ℤ → Figure) (ks : List ValueKind) → AnswerRests (small p f ks)
small_rests p f ks =
    two_small_rests (λ a b. as_value p Small (within w32 (f a b)))
    (λ a b. figure_rests p Small small_rest (within w32 (f a b))) ks

large_rests : (p : Program) (f : ℤ → ℤ → Figure) (ks : List ValueKind) → AnswerRests (large p f ks)
large_rests p f ks =
    two_large_rests (λ a b. as_value p Large (within w64 (f a b)))
    (λ a b. figure_rests p Large large_rest (within w64 (f a b))) ks

one_small_rests : (f : ℤ → Answer) → ((a : ℤ) → AnswerRests (f a)) → (ks : List ValueKind)
    → AnswerRests (one_small f ks)
one_small_rests f h (Value-F.Small a ∷ []) = h a
one_small_rests f h _ = tt

one_large_rests : (f : ℤ → Answer) → ((a : ℤ) → AnswerRests (f a)) → (ks : List ValueKind)
    → AnswerRests (one_large f ks)
one_large_rests f h (Value-F.Large a ∷ []) = h a
one_large_rests f h _ = tt

two_texts_rests : (f : List ℕ → List ℕ → Answer) → ((a b : List ℕ) → AnswerRests (f a b))
    → (ks : List ValueKind) → AnswerRests (two_texts f ks)
two_texts_rests f h (Value-F.Text a ∷ Value-F.Text b ∷ []) = h a b
two_texts_rests f h _ = tt

two_truths_rests : (f : Bool → Bool → Bool) (ks : List ValueKind) → AnswerRests (two_truths f ks)
two_truths_rests f (Value-F.Truth a ∷ Value-F.Truth b ∷ []) = truth_rest (f a b)
two_truths_rests f _ = tt

one_truth_rests : (f : Bool → Bool) (ks : List ValueKind) → AnswerRests (one_truth f ks)
one_truth_rests f (Value-F.Truth a ∷ []) = truth_rest (f a)
one_truth_rests f _ = tt

one_text_rests : (f : List ℕ → Answer) → ((s : List ℕ) → AnswerRests (f s)) → (ks : List ValueKind)
    → AnswerRests (one_text f ks)
one_text_rests f h (Value-F.Text s ∷ []) = h s
one_text_rests f h _ = tt

two_values_rests : (f : Value → Value → Answer) → ((a b : Value) → AnswerRests (f a b))
    → (vs : List Value) → AnswerRests (two_values f vs)
two_values_rests f h (a ∷ b ∷ []) = h a b
two_values_rests f h _ = tt

one_any_rests : (f : Value → Answer) → ((a : Value) → AnswerRests (f a)) → (vs : List Value)
    → AnswerRests (one_value f vs)
one_any_rests f h (a ∷ []) = h a
one_any_rests f h _ = tt

counted_rests : (p : Program) (a n : ℤ) → AnswerRests (counted p a n)
counted_rests p a n = go (int_lt n (pos 1)) (is_within w32 (last_of a (unsigned_abs n)))
  where
    go : (b c : Bool)
        → AnswerRests (if b then gives (Range a 0)
        else (if c then gives (Range a (unsigned_abs n))
        else throws p.built_in.integer_overflow))
    go true c = range_rest a 0
    go false true = range_rest a (unsigned_abs n)
    go false false = tt

small_test_rests : (f : ℤ → ℤ → Bool) (ks : List ValueKind) → AnswerRests (small_test f ks)
small_test_rests f ks =
    two_small_rests (λ a b. gives (Truth (f a b))) (λ a b. truth_rest (f a b)) ks

large_test_rests : (f : ℤ → ℤ → Bool) (ks : List ValueKind) → AnswerRests (large_test f ks)
large_test_rests f ks =
    two_large_rests (λ a b. gives (Truth (f a b))) (λ a b. truth_rest (f a b)) ks

pub answer_rests : (p : Program) (f : Primitive) (vs : List Value) → AnswerRests (answer_of p f vs)
answer_rests p primitive.AddSmall vs = small_rests p (λ a b. number (a +ℤ b)) (map out-Value vs)
answer_rests p primitive.AddLarge vs = large_rests p (λ a b. number (a +ℤ b)) (map out-Value vs)
answer_rests p primitive.SubtractSmall vs =
    small_rests p (λ a b. number (a -ℤ b)) (map out-Value vs)
answer_rests p primitive.SubtractLarge vs =
    large_rests p (λ a b. number (a -ℤ b)) (map out-Value vs)
answer_rests p primitive.TimesSmall vs = small_rests p (λ a b. number (a *ℤ b)) (map out-Value vs)
answer_rests p primitive.TimesLarge vs = large_rests p (λ a b. number (a *ℤ b)) (map out-Value vs)
answer_rests p primitive.DotSmall vs = small_rests p (λ a b. number (a *ℤ b)) (map out-Value vs)
answer_rests p primitive.DotLarge vs = large_rests p (λ a b. number (a *ℤ b)) (map out-Value vs)
answer_rests p primitive.JuxtaposeSmall vs =
    small_rests p (λ a b. number (a *ℤ b)) (map out-Value vs)
answer_rests p primitive.JuxtaposeLarge vs =
    large_rests p (λ a b. number (a *ℤ b)) (map out-Value vs)
answer_rests p primitive.MaxSmall vs =
    small_rests p (λ a b. number (int_max a b)) (map out-Value vs)
answer_rests p primitive.MaxLarge vs =
    large_rests p (λ a b. number (int_max a b)) (map out-Value vs)
answer_rests p primitive.MinSmall vs =
    small_rests p (λ a b. number (int_min a b)) (map out-Value vs)
answer_rests p primitive.MinLarge vs =
    large_rests p (λ a b. number (int_min a b)) (map out-Value vs)
answer_rests p primitive.NegateSmall vs =
    one_small_rests (λ a. as_value p Small (within w32 (number (neg_ℤ a))))
    (λ a. figure_rests p Small small_rest (within w32 (number (neg_ℤ a)))) (map out-Value vs)
answer_rests p primitive.NegateLarge vs =
    one_large_rests (λ a. as_value p Large (within w64 (number (neg_ℤ a))))
    (λ a. figure_rests p Large large_rest (within w64 (number (neg_ℤ a)))) (map out-Value vs)
answer_rests p primitive.DivideSmall vs = small_rests p quotient (map out-Value vs)
answer_rests p primitive.DivideLarge vs = large_rests p quotient (map out-Value vs)
answer_rests p primitive.RemainderSmall vs = small_rests p remainder (map out-Value vs)
answer_rests p primitive.RemainderLarge vs = large_rests p remainder (map out-Value vs)
answer_rests p primitive.ModuloSmall vs = small_rests p modulus (map out-Value vs)
answer_rests p primitive.ModuloLarge vs = large_rests p modulus (map out-Value vs)
answer_rests p primitive.GcdSmall vs = small_rests p greatest_divisor (map out-Value vs)
answer_rests p primitive.GcdLarge vs = large_rests p greatest_divisor (map out-Value vs)
answer_rests p primitive.LcmSmall vs = small_rests p least_multiple (map out-Value vs)
answer_rests p primitive.LcmLarge vs = large_rests p least_multiple (map out-Value vs)
answer_rests p primitive.BitAndSmall vs =
    small_rests p (λ a b. number (int_bit_and w32 a b)) (map out-Value vs)
answer_rests p primitive.BitAndLarge vs =
    large_rests p (λ a b. number (int_bit_and w64 a b)) (map out-Value vs)
answer_rests p primitive.BitOrSmall vs =
    small_rests p (λ a b. number (int_bit_or w32 a b)) (map out-Value vs)
answer_rests p primitive.BitOrLarge vs =
    large_rests p (λ a b. number (int_bit_or w64 a b)) (map out-Value vs)
answer_rests p primitive.BitXorSmall vs =
    small_rests p (λ a b. number (int_bit_xor w32 a b)) (map out-Value vs)
answer_rests p primitive.BitXorLarge vs =
    large_rests p (λ a b. number (int_bit_xor w64 a b)) (map out-Value vs)
answer_rests p primitive.ShiftLeftSmall vs = small_rests p (shifted_left w32) (map out-Value vs)
answer_rests p primitive.ShiftLeftLarge vs = large_rests p (shifted_left w64) (map out-Value vs)
answer_rests p primitive.ShiftRightSmall vs = small_rests p (shifted_right w32) (map out-Value vs)
answer_rests p primitive.ShiftRightLarge vs = large_rests p (shifted_right w64) (map out-Value vs)
answer_rests p primitive.PowerSmall vs = small_rests p power (map out-Value vs)
answer_rests p primitive.PowerLarge vs = large_rests p power (map out-Value vs)
answer_rests p primitive.EqualSmall vs = small_test_rests int_eq (map out-Value vs)
answer_rests p primitive.EqualLarge vs = large_test_rests int_eq (map out-Value vs)
answer_rests p primitive.UnequalSmall vs =
    small_test_rests (λ a b. not (int_eq a b)) (map out-Value vs)
answer_rests p primitive.UnequalLarge vs =
    large_test_rests (λ a b. not (int_eq a b)) (map out-Value vs)
answer_rests p primitive.LessSmall vs = small_test_rests int_lt (map out-Value vs)
answer_rests p primitive.LessLarge vs = large_test_rests int_lt (map out-Value vs)
answer_rests p primitive.AtMostSmall vs = small_test_rests int_le (map out-Value vs)
answer_rests p primitive.AtMostLarge vs = large_test_rests int_le (map out-Value vs)
answer_rests p primitive.GreaterSmall vs = small_test_rests (λ a b. int_lt b a) (map out-Value vs)
answer_rests p primitive.GreaterLarge vs = large_test_rests (λ a b. int_lt b a) (map out-Value vs)
answer_rests p primitive.AtLeastSmall vs = small_test_rests (λ a b. int_le b a) (map out-Value vs)
answer_rests p primitive.AtLeastLarge vs = large_test_rests (λ a b. int_le b a) (map out-Value vs)
answer_rests p primitive.EqualTexts vs =
    two_texts_rests (λ s r. gives (Truth (bytes_eq s r))) (λ s r. truth_rest (bytes_eq s r))
    (map out-Value vs)
answer_rests p primitive.UnequalTexts vs =
    two_texts_rests (λ s r. gives (Truth (not (bytes_eq s r))))
    (λ s r. truth_rest (not (bytes_eq s r))) (map out-Value vs)
answer_rests p primitive.EqualTruths vs = two_truths_rests equal_truths (map out-Value vs)
answer_rests p primitive.UnequalTruths vs =
    two_truths_rests (λ a b. not (equal_truths a b)) (map out-Value vs)
answer_rests p primitive.Same vs =
    two_values_rests (λ a b. gives (Truth (same a b))) (λ a b. truth_rest (same a b)) vs
answer_rests p primitive.And vs = two_truths_rests (λ a b. a && b) (map out-Value vs)
answer_rests p primitive.Or vs = two_truths_rests (λ a b. a || b) (map out-Value vs)
answer_rests p primitive.Not vs = one_truth_rests not (map out-Value vs)
answer_rests p primitive.RangeTo vs =
    two_small_rests (λ a b. gives (Range a (count_to a b))) (λ a b. range_rest a (count_to a b))
    (map out-Value vs)
answer_rests p primitive.RangeCount vs =
    two_small_rests (counted p) (counted_rests p) (map out-Value vs)
answer_rests p primitive.JoinTextAny vs = two_values_rests (joined_texts p) (λ a b. tt) vs
answer_rests p primitive.JoinAnyText vs = two_values_rests (joined_texts p) (λ a b. tt) vs
answer_rests p primitive.JoinTexts vs = two_values_rests (joined_texts p) (λ a b. tt) vs
answer_rests p primitive.Println vs = one_any_rests (λ a. prints (text p a ++ 10 ∷ [])) (λ a. tt) vs
answer_rests p primitive.Print vs = one_any_rests (λ a. prints (text p a)) (λ a. tt) vs
answer_rests p primitive.Abort [] = tt
answer_rests p primitive.Abort (v ∷ vs) = tt
answer_rests p primitive.Widen vs =
    one_small_rests (λ a. gives (Large a)) (λ a. large_rest a) (map out-Value vs)
answer_rests p primitive.Narrow vs =
    one_large_rests (λ a. as_value p Small (within w32 (number a)))
    (λ a. figure_rests p Small small_rest (within w32 (number a))) (map out-Value vs)
answer_rests p primitive.Length vs =
    one_text_rests (λ s. as_value p Small (within w32 (number (pos (length (chars s))))))
    (λ s. figure_rests p Small small_rest (within w32 (number (pos (length (chars s))))))
    (map out-Value vs)
