-- Each operator's own number, by which the code tells whether two are the same.
use Rattle.std.specs.Prelude.{ℕ, ◌+◌}
use Rattle.fort_ops.specs.declared.op.Op.{Op}
use Rattle.fort_ops.specs.declared.op.Op.TheVariants as an_op

-- no two operators have the same number
abbrev pub number : Op → ℕ
number an_op.Juxt = 0
number an_op.Times = 1
number an_op.Dot = 2
number an_op.Div = 3
number an_op.Rem = 4
number an_op.Mod = 5
number an_op.Max = 6
number an_op.Min = 7
number an_op.Gcd = 8
number an_op.Lcm = 9
number an_op.Plus = 10
number an_op.Minus = 11
number an_op.BitAnd = 12
number an_op.BitOr = 13
number an_op.BitXor = 14
number an_op.LShift = 15
number an_op.RShift = 16
number an_op.Range = 17
number an_op.Count = 18
number an_op.Eq = 19
number an_op.Ne = 20
number an_op.Lt = 21
number an_op.Le = 22
number an_op.Gt = 23
number an_op.Ge = 24
number an_op.Same = 25
number an_op.And = 26
number an_op.Or = 27
number an_op.Not = 28
number an_op.Power = 29
number (an_op.Word name) = name + 30
