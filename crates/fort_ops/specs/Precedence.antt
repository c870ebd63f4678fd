-- The chapter "Operators", its groups and its pairs of precedence. The code asks the same table.
use Rattle.std.specs.Prelude.{Bool, true, false, IsTrue, ℕ, ◌<◌}
use Rattle.fort_ops.specs.declared.op.Op.{Op}
use Rattle.fort_ops.specs.declared.op.Op.TheVariants as an_op
use Rattle.fort_ops.specs.declared.precedence.Group.{Group}
use Rattle.fort_ops.specs.declared.precedence.Group.TheVariants.{Adjacent, Product, Sum, Bits, Span, Relation, Conjunction, Disjunction, Own}

-- the group that an operator belongs to
abbrev pub group_of : Op → Group
group_of an_op.Juxt = Adjacent
group_of an_op.Times = Product
group_of an_op.Dot = Product
group_of an_op.Div = Product
group_of an_op.Rem = Product
group_of an_op.Mod = Product
group_of an_op.Max = Product
group_of an_op.Min = Product
group_of an_op.Gcd = Product
group_of an_op.Lcm = Product
group_of an_op.Plus = Sum
group_of an_op.Minus = Sum
group_of an_op.BitAnd = Bits
group_of an_op.BitOr = Bits
group_of an_op.BitXor = Bits
group_of an_op.LShift = Bits
group_of an_op.RShift = Bits
group_of an_op.Range = Span
group_of an_op.Count = Span
group_of an_op.Eq = Relation
group_of an_op.Ne = Relation
group_of an_op.Lt = Relation
group_of an_op.Le = Relation
group_of an_op.Gt = Relation
group_of an_op.Ge = Relation
group_of an_op.Same = Relation
group_of an_op.And = Conjunction
group_of an_op.Or = Disjunction
group_of an_op.Not = Own
group_of an_op.Power = Own
group_of (an_op.Word name) = Own

-- the pairs: the first group stands over the second; there are no others
abbrev pub pair : Group → Group → Bool
pair Adjacent Sum = true
pair Adjacent Span = true
pair Adjacent Relation = true
pair Product Sum = true
pair Product Span = true
pair Product Relation = true
pair Sum Span = true
pair Sum Relation = true
pair Bits Relation = true
pair Relation Conjunction = true
pair Relation Disjunction = true
pair Conjunction Disjunction = true
pair _ _ = false

-- one operator stands over another where their groups are a pair
abbrev pub IsOver : Op → Op → Type 0
IsOver child parent = IsTrue (pair (group_of child) (group_of parent))

-- a number that is larger at a group than at each group that it stands over
abbrev pub rank : Group → ℕ
rank Adjacent = 6
rank Product = 5
rank Sum = 4
rank Bits = 3
rank Span = 3
rank Own = 3
rank Relation = 2
rank Conjunction = 1
rank Disjunction = 0

-- the rank falls along each pair
abbrev pub RankFalls : Type 0
RankFalls = (a b : Group) → IsTrue (pair a b) → rank b < rank a

-- a way from one group to another along one pair or more
pub data Path : Group → Group → Type 0 where
  one : (a b : Group) → IsTrue (pair a b) → Path a b
  more : (a b c : Group) → IsTrue (pair a b) → Path b c → Path a c

-- no way along the pairs leads from a group back to itself
abbrev pub HasNoCycle : Type 0
HasNoCycle = (g : Group) → Path g g → ⊥
