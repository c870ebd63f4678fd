-- The chapter "Canonical text": what the spellings that it is written with have to do with the
-- tables, and what plays no part in it. The code has a table of its own for writing.
use Rattle.std.specs.Prelude.{◌≡◌, List, [], ◌∷◌, ℕ, map, drop, encode_utf8_all}
use Rattle.std.specs.List.{Contains}
use Rattle.fort_ops.specs.declared.op.Op.{Op}
use Rattle.fort_ops.specs.declared.op.Op.TheVariants as an_op
use Rattle.fort_ops.specs.Spellings.{Row, table, Spells}
use Rattle.fort_lex_token.specs.declared.token.Tokens.{Tokens}
use Rattle.fort_lex_canonical.specs.Canonical.{operator_text}

-- the last of some spellings, which is the Unicode one where there are two
abbrev pub last_spelling : List (List ℕ) → List ℕ
last_spelling [] = []
last_spelling (w ∷ []) = w
last_spelling (w ∷ v ∷ ws) = last_spelling (v ∷ ws)

-- An operator of a row of the table is written by its last spelling there.
abbrev pub WritesLast : Type 0
WritesLast = (row : Row) → Contains table row
    → operator_text row.op ≡ encode_utf8_all (last_spelling row.spellings)

-- an operator of the table: neither juxtaposition nor an operator word
abbrev pub IsOfTable : Op → Type 0
IsOfTable an_op.Juxt = ⊥
IsOfTable (an_op.Word n) = ⊥
IsOfTable op = Unit {0}

-- An operator of the table is written by a spelling of its own.
abbrev pub WritesSpelling : Type 0
WritesSpelling = (op : Op) → IsOfTable op
    → (word : List ℕ) × Spells op word × (operator_text op ≡ encode_utf8_all word)

-- The tokens differ in nothing but places and the gap before the first token.
pub record IsAlike (ts us : Tokens) : Type 0 where
  pub kinds : map (λ t. t.kind) ts.list ≡ map (λ t. t.kind) us.list
  pub gaps : map (λ t. t.gap) (drop 1 ts.list) ≡ map (λ t. t.gap) (drop 1 us.list)
  pub names : ts.names ≡ us.names
  pub texts : ts.texts ≡ us.texts
