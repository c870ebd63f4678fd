-- The chapter "Operators", its table of spellings. The code compares a text with one spelling after
-- another.
use Rattle.std.specs.Prelude.{◌≡◌, List, [], ◌∷◌, ℕ, codes, map, Contains, encode_utf8_all}
use Rattle.std.specs.List.{flat_map}
use Prim.Native.String.{String}
use Rattle.fort_ops.specs.declared.op.Op.{Op}
use Rattle.fort_ops.specs.declared.op.Op.TheVariants as an_op

-- a row of the table: an operator, its ASCII spelling and, where it has one, its Unicode spelling,
-- each as its characters
pub record Row : Type 0 where
  pub op : Op
  pub spellings : List (List ℕ)

-- the row of an operator that is written in ASCII alone
abbrev pub ascii : Op → String → Row
ascii op word = record { op = op; spellings = codes word ∷ [] }

-- the row of an operator that has a Unicode spelling beside its ASCII one
abbrev pub unicode : Op → String → String → Row
unicode op word sign = record { op = op; spellings = codes word ∷ codes sign ∷ [] }

-- every operator that has a spelling; juxtaposition has none, and operator words are told by their
-- form
abbrev pub table : List Row
table =
    unicode an_op.Times "TIMES" "×"
    ∷ unicode an_op.Dot "DOT" "·"
    ∷ ascii an_op.Div "DIV"
    ∷ ascii an_op.Rem "REM"
    ∷ ascii an_op.Mod "MOD"
    ∷ ascii an_op.Max "MAX"
    ∷ ascii an_op.Min "MIN"
    ∷ ascii an_op.Gcd "GCD"
    ∷ ascii an_op.Lcm "LCM"
    ∷ ascii an_op.Plus "+"
    ∷ ascii an_op.Minus "-"
    ∷ ascii an_op.BitAnd "BITAND"
    ∷ ascii an_op.BitOr "BITOR"
    ∷ ascii an_op.BitXor "BITXOR"
    ∷ ascii an_op.LShift "LSHIFT"
    ∷ ascii an_op.RShift "RSHIFT"
    ∷ ascii an_op.Range ":"
    ∷ ascii an_op.Count "#"
    ∷ ascii an_op.Eq "="
    ∷ unicode an_op.Ne "=/=" "≠"
    ∷ ascii an_op.Lt "<"
    ∷ unicode an_op.Le "<=" "≤"
    ∷ ascii an_op.Gt ">"
    ∷ unicode an_op.Ge ">=" "≥"
    ∷ unicode an_op.Same "===" "≡"
    ∷ unicode an_op.And "AND" "∧"
    ∷ unicode an_op.Or "OR" "∨"
    ∷ unicode an_op.Not "NOT" "¬"
    ∷ ascii an_op.Power "^"
    ∷ []

-- each operator beside each of its spellings
abbrev pub spellings : List (Op × List ℕ)
spellings = flat_map (λ r. map (λ word. (r.op, word)) r.spellings) table

-- the same with each spelling as its bytes, as a text of the program has it
abbrev pub texts : List (Op × List ℕ)
texts = map (λ p. (p.0, encode_utf8_all p.1)) spellings

-- the operator stands beside these characters in the table
abbrev pub Spells : Op → List ℕ → Type 0
Spells op word = Contains spellings (op, word)

-- one word spells at most one operator
abbrev pub SpellsOneAtMost : Type 0
SpellsOneAtMost = (a b : Op) (word : List ℕ) → Spells a word → Spells b word → a ≡ b
