-- Chapter "Built-in declarations": the built-in declarations by what they do, so that those on ZZ32
-- and on ZZ64 are one. A law of the table says that each is so; the answers are the machine's.
use Rattle.std.specs.Prelude.{◌≡◌, Bool, not, ◌&&◌, ◌||◌, bytes_eq, List, map, ℤ, neg_ℤ, ◌+ℤ◌, ◌-ℤ◌, ◌*ℤ◌, int_lt, int_le}
use Rattle.std.specs.Int.{Width, w32, w64, int_max, int_min, int_bit_and, int_bit_or, int_bit_xor}
use Rattle.std.specs.Ordering.{int_eq}
use Rattle.fort_core.specs.declared.primitive.Primitive.{Primitive}
use Rattle.fort_core.specs.declared.primitive.Primitive.TheVariants as primitive
use Rattle.fort_core.specs.declared.program.Program.{Program}
use Rattle.fort_core.specs.declared.value.Value.{Value, Small, Large, Truth, Range, out-Value}
use Rattle.fort_machine.specs.Numbers.{Figure, number, within, quotient, remainder, modulus, greatest_divisor, least_multiple, shifted_left, shifted_right, power}
use Rattle.fort_machine.specs.Primitives.{Answer, gives, as_value, small, large, small_test, large_test, one_small, one_large, one_truth, two_small, two_texts, two_truths, two_values, equal_truths, count_to, counted, joined_texts, answer_of}
use Rattle.fort_machine.specs.Texts.{same}
use Rattle.fort_prim.specs.declared.operation.Operation.{Operation}
use Rattle.fort_prim.specs.declared.operation.Operation.TheVariants as operation
use Rattle.fort_prim.specs.declared.operation.Operator.{Operator}
use Rattle.fort_prim.specs.declared.operation.Operator.TheVariants as operator
use Rattle.fort_prim.specs.declared.operation.BitOperator.{BitOperator}
use Rattle.fort_prim.specs.declared.operation.BitOperator.TheVariants as bits
use Rattle.fort_prim.specs.declared.operation.Test.{Test}
use Rattle.fort_prim.specs.declared.operation.Test.TheVariants as test
use Rattle.fort_prim.specs.declared.operation.Connective.{Connective}
use Rattle.fort_prim.specs.declared.operation.Connective.TheVariants as connective

-- What an operator on numbers gives, whichever their type.
abbrev pub figure_of : Operator → ℤ → ℤ → Figure
figure_of operator.Add a b = number (a +ℤ b)
figure_of operator.Subtract a b = number (a -ℤ b)
figure_of operator.Times a b = number (a *ℤ b)
figure_of operator.Max a b = number (int_max a b)
figure_of operator.Min a b = number (int_min a b)
figure_of operator.Divide a b = quotient a b
figure_of operator.Remainder a b = remainder a b
figure_of operator.Modulo a b = modulus a b
figure_of operator.Gcd a b = greatest_divisor a b
figure_of operator.Lcm a b = least_multiple a b
figure_of operator.Power a b = power a b

-- What an operator on the bits of numbers of a type gives.
abbrev pub bits_of_type : Width → BitOperator → ℤ → ℤ → Figure
bits_of_type w bits.And a b = number (int_bit_and w a b)
bits_of_type w bits.Or a b = number (int_bit_or w a b)
bits_of_type w bits.Xor a b = number (int_bit_xor w a b)
bits_of_type w bits.ShiftLeft a b = shifted_left w a b
bits_of_type w bits.ShiftRight a b = shifted_right w a b

-- Whether a comparison holds.
abbrev pub holds : Test → ℤ → ℤ → Bool
holds test.Equal a b = int_eq a b
holds test.Unequal a b = not (int_eq a b)
holds test.Less a b = int_lt a b
holds test.AtMost a b = int_le a b
holds test.Greater a b = int_lt b a
holds test.AtLeast a b = int_le b a

-- What an operator on truths gives.
abbrev pub connected : Connective → Bool → Bool → Bool
connected connective.Equal a b = equal_truths a b
connected connective.Unequal a b = not (equal_truths a b)
connected connective.And a b = a && b
connected connective.Or a b = a || b

-- The answer of what a built-in declaration does.
abbrev pub answer_by : Program → Operation → List Value → Answer
answer_by p (operation.Small f) vs = small p (figure_of f) (map out-Value vs)
answer_by p (operation.Large f) vs = large p (figure_of f) (map out-Value vs)
answer_by p (operation.SmallBits f) vs = small p (bits_of_type w32 f) (map out-Value vs)
answer_by p (operation.LargeBits f) vs = large p (bits_of_type w64 f) (map out-Value vs)
answer_by p operation.NegateSmall vs =
    one_small (λ a. as_value p Small (within w32 (number (neg_ℤ a)))) (map out-Value vs)
answer_by p operation.NegateLarge vs =
    one_large (λ a. as_value p Large (within w64 (number (neg_ℤ a)))) (map out-Value vs)
answer_by p (operation.SmallTest f) vs = small_test (holds f) (map out-Value vs)
answer_by p (operation.LargeTest f) vs = large_test (holds f) (map out-Value vs)
answer_by p (operation.TextsEqual equal) vs =
    two_texts (λ s r. gives (Truth (equal_truths equal (bytes_eq s r)))) (map out-Value vs)
answer_by p (operation.Truths f) vs = two_truths (connected f) (map out-Value vs)
answer_by p operation.Not vs = one_truth not (map out-Value vs)
answer_by p operation.Same vs = two_values (λ a b. gives (Truth (same a b))) vs
answer_by p operation.RangeTo vs =
    two_small (λ a b. gives (Range a (count_to a b))) (map out-Value vs)
answer_by p operation.RangeCount vs = two_small (counted p) (map out-Value vs)
answer_by p operation.Join vs = two_values (joined_texts p) vs
answer_by p operation.Println vs = answer_of p primitive.Println vs
answer_by p operation.Print vs = answer_of p primitive.Print vs
answer_by p operation.Abort vs = answer_of p primitive.Abort vs
answer_by p operation.Widen vs = answer_of p primitive.Widen vs
answer_by p operation.Narrow vs = answer_of p primitive.Narrow vs
answer_by p operation.Length vs = answer_of p primitive.Length vs

-- What a built-in declaration answers is what an operation does.
abbrev pub IsDoneBy : Primitive → Operation → Type 0
IsDoneBy primitive operation = (p : Program) (vs : List Value)
    → answer_of p primitive vs ≡ answer_by p operation vs
