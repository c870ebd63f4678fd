-- Chapter "Built-in declarations": the answer of each. The code computes on machine numbers; here
-- numbers are numbers, and what passes a type's range is found by its range.
use Rattle.std.specs.Prelude.{ℕ, Bool, true, false, not, ◌&&◌, ◌||◌, if◌then◌else◌, List, [], ◌∷◌, ◌++◌, map, length, chars, bytes_eq, ℤ, pos, neg_ℤ, ◌+ℤ◌, ◌-ℤ◌, ◌*ℤ◌, unsigned_abs, int_lt, int_le}
use Rattle.std.specs.Int.{w32, w64, int_min, int_max, int_bit_and, int_bit_or, int_bit_xor}
use Rattle.std.specs.Ordering.{int_eq}
use Rattle.fort_base.specs.declared.ids.TypeId.{TypeId}
use Rattle.fort_core.specs.declared.primitive.Primitive.{Primitive}
use Rattle.fort_core.specs.declared.primitive.Primitive.TheVariants as primitive
use Rattle.fort_core.specs.declared.program.Program.{Program}
use Rattle.fort_core.specs.declared.term.Term.{Term}
use Rattle.fort_core.specs.declared.term.Term.TheOpen.{Value-F}
use Rattle.fort_core.specs.declared.value.Closure.{Closure}
use Rattle.fort_core.specs.declared.value.Value.{Value, Small, Large, Truth, Range, out-Value}
use Rattle.fort_machine.specs.Numbers.{Figure, number, too_large, by_zero, below_zero, within, is_within, quotient, remainder, modulus, greatest_divisor, least_multiple, shifted_left, shifted_right, power, last_of}
use Rattle.fort_machine.specs.Texts.{text, same}

-- What a built-in declaration answers: a value, a text that it makes, a throw of a built-in
-- exception, a text that it prints, the end of its machine, or nothing where it is given other
-- kinds of values than it computes with. What joins texts computes with all kinds, since each value
-- has a text.
pub data Answer : Type 0 where
  gives : (value : Value) → Answer
  makes_text : (text : List ℕ) → Answer
  throws : (exception : TypeId) → Answer
  prints : (text : List ℕ) → Answer
  ends : Answer
  nothing : Answer

-- A value by its kind.
abbrev pub ValueKind : Type 0
ValueKind = Value-F Term Value Closure

-- A figure as a value, or the exception that says why there is none.
abbrev pub as_value : Program → (ℤ → Value) → Figure → Answer
as_value p make (number n) = gives (make n)
as_value p make too_large = throws p.built_in.integer_overflow
as_value p make by_zero = throws p.built_in.division_by_zero
as_value p make below_zero = throws p.built_in.negative_exponent

-- Asks two values for numbers on ZZ32.
abbrev pub two_small : (ℤ → ℤ → Answer) → List ValueKind → Answer
two_small f (Value-F.Small a ∷ Value-F.Small b ∷ []) = f a b
two_small f _ = nothing

-- The same on ZZ64.
abbrev pub two_large : (ℤ → ℤ → Answer) → List ValueKind → Answer
two_large f (Value-F.Large a ∷ Value-F.Large b ∷ []) = f a b
two_large f _ = nothing

-- An operator on two numbers, whose result must be in their type's range.
abbrev pub small : Program → (ℤ → ℤ → Figure) → List ValueKind → Answer
small p f = two_small (λ a b. as_value p Small (within w32 (f a b)))

-- The same on ZZ64.
abbrev pub large : Program → (ℤ → ℤ → Figure) → List ValueKind → Answer
large p f = two_large (λ a b. as_value p Large (within w64 (f a b)))

-- A comparison of two numbers.
abbrev pub small_test : (ℤ → ℤ → Bool) → List ValueKind → Answer
small_test f = two_small (λ a b. gives (Truth (f a b)))

-- The same on ZZ64.
abbrev pub large_test : (ℤ → ℤ → Bool) → List ValueKind → Answer
large_test f = two_large (λ a b. gives (Truth (f a b)))

-- An operator on one ZZ32.
abbrev pub one_small : (ℤ → Answer) → List ValueKind → Answer
one_small f (Value-F.Small a ∷ []) = f a
one_small f _ = nothing

-- The same on one ZZ64.
abbrev pub one_large : (ℤ → Answer) → List ValueKind → Answer
one_large f (Value-F.Large a ∷ []) = f a
one_large f _ = nothing

-- An operator on two texts.
abbrev pub two_texts : (List ℕ → List ℕ → Answer) → List ValueKind → Answer
two_texts f (Value-F.Text s ∷ Value-F.Text r ∷ []) = f s r
two_texts f _ = nothing

-- An operator on two truths.
abbrev pub two_truths : (Bool → Bool → Bool) → List ValueKind → Answer
two_truths f (Value-F.Truth a ∷ Value-F.Truth b ∷ []) = gives (Truth (f a b))
two_truths f _ = nothing

-- An operator on one truth.
abbrev pub one_truth : (Bool → Bool) → List ValueKind → Answer
one_truth f (Value-F.Truth a ∷ []) = gives (Truth (f a))
one_truth f _ = nothing

-- An operator on one text.
abbrev pub one_text : (List ℕ → Answer) → List ValueKind → Answer
one_text f (Value-F.Text s ∷ []) = f s
one_text f _ = nothing

-- An operator on two values of any kind.
abbrev pub two_values : (Value → Value → Answer) → List Value → Answer
two_values f (a ∷ b ∷ []) = f a b
two_values f _ = nothing

-- An operator on one value of any kind.
abbrev pub one_value : (Value → Answer) → List Value → Answer
one_value f (a ∷ []) = f a
one_value f _ = nothing

-- Two truths are equal.
abbrev pub equal_truths : Bool → Bool → Bool
equal_truths true b = b
equal_truths false b = not b

-- How many numbers there are from a to b: none where b is below a.
abbrev pub count_to : ℤ → ℤ → ℕ
count_to a b = if int_lt b a then 0 else unsigned_abs ((b -ℤ a) +ℤ pos 1)

-- `a # n`: none where n is below 1, too large where the last one is.
abbrev pub counted : Program → ℤ → ℤ → Answer
counted p a n =
    if int_lt n (pos 1) then gives (Range a 0)
    else (if is_within w32 (last_of a (unsigned_abs n)) then gives (Range a (unsigned_abs n))
    else throws p.built_in.integer_overflow)

-- The text of two values, the second after the first.
abbrev pub joined_texts : Program → Value → Value → Answer
joined_texts p a b = makes_text (text p a ++ text p b)

-- The answer of each built-in declaration to its values.
abbrev pub answer_of : Program → Primitive → List Value → Answer
answer_of p primitive.AddSmall vs = small p (λ a b. number (a +ℤ b)) (map out-Value vs)
answer_of p primitive.AddLarge vs = large p (λ a b. number (a +ℤ b)) (map out-Value vs)
answer_of p primitive.SubtractSmall vs = small p (λ a b. number (a -ℤ b)) (map out-Value vs)
answer_of p primitive.SubtractLarge vs = large p (λ a b. number (a -ℤ b)) (map out-Value vs)
answer_of p primitive.TimesSmall vs = small p (λ a b. number (a *ℤ b)) (map out-Value vs)
answer_of p primitive.TimesLarge vs = large p (λ a b. number (a *ℤ b)) (map out-Value vs)
answer_of p primitive.DotSmall vs = small p (λ a b. number (a *ℤ b)) (map out-Value vs)
answer_of p primitive.DotLarge vs = large p (λ a b. number (a *ℤ b)) (map out-Value vs)
answer_of p primitive.JuxtaposeSmall vs = small p (λ a b. number (a *ℤ b)) (map out-Value vs)
answer_of p primitive.JuxtaposeLarge vs = large p (λ a b. number (a *ℤ b)) (map out-Value vs)
answer_of p primitive.MaxSmall vs = small p (λ a b. number (int_max a b)) (map out-Value vs)
answer_of p primitive.MaxLarge vs = large p (λ a b. number (int_max a b)) (map out-Value vs)
answer_of p primitive.MinSmall vs = small p (λ a b. number (int_min a b)) (map out-Value vs)
answer_of p primitive.MinLarge vs = large p (λ a b. number (int_min a b)) (map out-Value vs)
answer_of p primitive.NegateSmall vs =
    one_small (λ a. as_value p Small (within w32 (number (neg_ℤ a)))) (map out-Value vs)
answer_of p primitive.NegateLarge vs =
    one_large (λ a. as_value p Large (within w64 (number (neg_ℤ a)))) (map out-Value vs)
answer_of p primitive.DivideSmall vs = small p quotient (map out-Value vs)
answer_of p primitive.DivideLarge vs = large p quotient (map out-Value vs)
answer_of p primitive.RemainderSmall vs = small p remainder (map out-Value vs)
answer_of p primitive.RemainderLarge vs = large p remainder (map out-Value vs)
answer_of p primitive.ModuloSmall vs = small p modulus (map out-Value vs)
answer_of p primitive.ModuloLarge vs = large p modulus (map out-Value vs)
answer_of p primitive.GcdSmall vs = small p greatest_divisor (map out-Value vs)
answer_of p primitive.GcdLarge vs = large p greatest_divisor (map out-Value vs)
answer_of p primitive.LcmSmall vs = small p least_multiple (map out-Value vs)
answer_of p primitive.LcmLarge vs = large p least_multiple (map out-Value vs)
answer_of p primitive.BitAndSmall vs =
    small p (λ a b. number (int_bit_and w32 a b)) (map out-Value vs)
answer_of p primitive.BitAndLarge vs =
    large p (λ a b. number (int_bit_and w64 a b)) (map out-Value vs)
answer_of p primitive.BitOrSmall vs =
    small p (λ a b. number (int_bit_or w32 a b)) (map out-Value vs)
answer_of p primitive.BitOrLarge vs =
    large p (λ a b. number (int_bit_or w64 a b)) (map out-Value vs)
answer_of p primitive.BitXorSmall vs =
    small p (λ a b. number (int_bit_xor w32 a b)) (map out-Value vs)
answer_of p primitive.BitXorLarge vs =
    large p (λ a b. number (int_bit_xor w64 a b)) (map out-Value vs)
answer_of p primitive.ShiftLeftSmall vs = small p (shifted_left w32) (map out-Value vs)
answer_of p primitive.ShiftLeftLarge vs = large p (shifted_left w64) (map out-Value vs)
answer_of p primitive.ShiftRightSmall vs = small p (shifted_right w32) (map out-Value vs)
answer_of p primitive.ShiftRightLarge vs = large p (shifted_right w64) (map out-Value vs)
answer_of p primitive.PowerSmall vs = small p power (map out-Value vs)
answer_of p primitive.PowerLarge vs = large p power (map out-Value vs)
answer_of p primitive.EqualSmall vs = small_test int_eq (map out-Value vs)
answer_of p primitive.EqualLarge vs = large_test int_eq (map out-Value vs)
answer_of p primitive.UnequalSmall vs = small_test (λ a b. not (int_eq a b)) (map out-Value vs)
answer_of p primitive.UnequalLarge vs = large_test (λ a b. not (int_eq a b)) (map out-Value vs)
answer_of p primitive.LessSmall vs = small_test int_lt (map out-Value vs)
answer_of p primitive.LessLarge vs = large_test int_lt (map out-Value vs)
answer_of p primitive.AtMostSmall vs = small_test int_le (map out-Value vs)
answer_of p primitive.AtMostLarge vs = large_test int_le (map out-Value vs)
answer_of p primitive.GreaterSmall vs = small_test (λ a b. int_lt b a) (map out-Value vs)
answer_of p primitive.GreaterLarge vs = large_test (λ a b. int_lt b a) (map out-Value vs)
answer_of p primitive.AtLeastSmall vs = small_test (λ a b. int_le b a) (map out-Value vs)
answer_of p primitive.AtLeastLarge vs = large_test (λ a b. int_le b a) (map out-Value vs)
answer_of p primitive.EqualTexts vs =
    two_texts (λ s r. gives (Truth (bytes_eq s r))) (map out-Value vs)
answer_of p primitive.UnequalTexts vs =
    two_texts (λ s r. gives (Truth (not (bytes_eq s r)))) (map out-Value vs)
answer_of p primitive.EqualTruths vs = two_truths equal_truths (map out-Value vs)
answer_of p primitive.UnequalTruths vs =
    two_truths (λ a b. not (equal_truths a b)) (map out-Value vs)
answer_of p primitive.Same vs = two_values (λ a b. gives (Truth (same a b))) vs
answer_of p primitive.And vs = two_truths (λ a b. a && b) (map out-Value vs)
answer_of p primitive.Or vs = two_truths (λ a b. a || b) (map out-Value vs)
answer_of p primitive.Not vs = one_truth not (map out-Value vs)
answer_of p primitive.RangeTo vs =
    two_small (λ a b. gives (Range a (count_to a b))) (map out-Value vs)
answer_of p primitive.RangeCount vs = two_small (counted p) (map out-Value vs)
answer_of p primitive.JoinTextAny vs = two_values (joined_texts p) vs
answer_of p primitive.JoinAnyText vs = two_values (joined_texts p) vs
answer_of p primitive.JoinTexts vs = two_values (joined_texts p) vs
answer_of p primitive.Println vs = one_value (λ a. prints (text p a ++ 10 ∷ [])) vs
answer_of p primitive.Print vs = one_value (λ a. prints (text p a)) vs
answer_of p primitive.Abort [] = ends
answer_of p primitive.Abort (v ∷ vs) = nothing
answer_of p primitive.Widen vs = one_small (λ a. gives (Large a)) (map out-Value vs)
answer_of p primitive.Narrow vs =
    one_large (λ a. as_value p Small (within w32 (number a))) (map out-Value vs)
answer_of p primitive.Length vs =
    one_text (λ s. as_value p Small (within w32 (number (pos (length (chars s))))))
    (map out-Value vs)
