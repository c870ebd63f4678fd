-- No two operators have the same number.
use Rattle.std.proofs.Common.{◌≡◌, ℕ, ◌+◌, ◌-◌, false, cond, nat_lt, List, [], ◌∷◌, get_or, refl, sym, ap, ◌∙◌, arith}
use Rattle.fort_ops.specs.declared.op.Op.{Op}
use Rattle.fort_ops.specs.declared.op.Op.TheVariants as an_op
use Rattle.fort_group.specs.Numbers.{number}

named : List Op
named = an_op.Juxt ∷ an_op.Times ∷ an_op.Dot ∷ an_op.Div ∷ an_op.Rem ∷ an_op.Mod ∷ an_op.Max
    ∷ an_op.Min ∷ an_op.Gcd ∷ an_op.Lcm ∷ an_op.Plus ∷ an_op.Minus ∷ an_op.BitAnd ∷ an_op.BitOr
    ∷ an_op.BitXor ∷ an_op.LShift ∷ an_op.RShift ∷ an_op.Range ∷ an_op.Count ∷ an_op.Eq ∷ an_op.Ne
    ∷ an_op.Lt ∷ an_op.Le ∷ an_op.Gt ∷ an_op.Ge ∷ an_op.Same ∷ an_op.And ∷ an_op.Or ∷ an_op.Not
    ∷ an_op.Power ∷ []

-- the operator of a number
op_of : ℕ → Op
op_of n = cond (nat_lt n 30) (get_or named n an_op.Juxt) (an_op.Word (n - 30))

not_below : (w : ℕ) → nat_lt (w + 30) 30 ≡ false
not_below w = grind arith

number_back : (a : Op) → op_of (number a) ≡ a
unfolding op_of named
number_back (an_op.Word w) = rw (not_below w) (ap an_op.Word (omega arith))
number_back _ = refl

pub number_once : (a b : Op) → number a ≡ number b → a ≡ b
number_once a b e = sym (number_back a) ∙ ap op_of e ∙ number_back b
