-- The chapter "Members": the spellings that sets and types are called by.
use Rattle.std.specs.Prelude.{ℕ, List, [], codes, get_or}
use Rattle.fort_ops.specs.declared.op.Op.{Op}
use Rattle.fort_ops.specs.declared.op.Op.TheVariants as an_op

-- a name, as its bytes
abbrev pub Spelling : Type 0
Spelling = List ℕ

-- An operator's set has its first spelling as name; an operator word is its own name.
abbrev pub operator_spelling : List Spelling → Op → Spelling
operator_spelling names an_op.Juxt = codes "juxtaposition"
operator_spelling names an_op.Times = codes "TIMES"
operator_spelling names an_op.Dot = codes "DOT"
operator_spelling names an_op.Div = codes "DIV"
operator_spelling names an_op.Rem = codes "REM"
operator_spelling names an_op.Mod = codes "MOD"
operator_spelling names an_op.Max = codes "MAX"
operator_spelling names an_op.Min = codes "MIN"
operator_spelling names an_op.Gcd = codes "GCD"
operator_spelling names an_op.Lcm = codes "LCM"
operator_spelling names an_op.Plus = codes "+"
operator_spelling names an_op.Minus = codes "-"
operator_spelling names an_op.BitAnd = codes "BITAND"
operator_spelling names an_op.BitOr = codes "BITOR"
operator_spelling names an_op.BitXor = codes "BITXOR"
operator_spelling names an_op.LShift = codes "LSHIFT"
operator_spelling names an_op.RShift = codes "RSHIFT"
operator_spelling names an_op.Range = codes ":"
operator_spelling names an_op.Count = codes "#"
operator_spelling names an_op.Eq = codes "="
operator_spelling names an_op.Ne = codes "=/="
operator_spelling names an_op.Lt = codes "<"
operator_spelling names an_op.Le = codes "<="
operator_spelling names an_op.Gt = codes ">"
operator_spelling names an_op.Ge = codes ">="
operator_spelling names an_op.Same = codes "==="
operator_spelling names an_op.And = codes "AND"
operator_spelling names an_op.Or = codes "OR"
operator_spelling names an_op.Not = codes "NOT"
operator_spelling names an_op.Power = codes "^"
operator_spelling names (an_op.Word n) = get_or names n []
