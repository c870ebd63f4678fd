-- The chapter "Threads that are spawned": the tokens of the prelude. Their one table stands in
-- src/table.rt; the code walks its rows.
use Rattle.std.specs.Prelude.{ℕ, Bool, List, [], ◌∷◌, ◌++◌, cond, map}
use Rattle.std.specs.Borrow.{Bor}
use Rattle.fort_base.specs.declared.refusal.Gap.{Gap}
use Rattle.fort_base.specs.declared.refusal.Gap.TheVariants as gap
use Rattle.fort_ops.specs.declared.op.Op.{Op}
use Rattle.fort_lex_token.specs.declared.marks.Mark.{Mark}
use Rattle.fort_lex_token.specs.declared.marks.Mark.TheVariants as mark
use Rattle.fort_lex_token.specs.declared.reserved.Reserved.{Reserved}
use Rattle.fort_spawn_prelude.specs.declared.table.Shape.{Shape}
use Rattle.fort_spawn_prelude.specs.declared.table.Shape.TheVariants as shape
use Rattle.fort_spawn_prelude.specs.declared.table.TheConstants.{ALWAYS, STARTING}

-- What a token of the prelude is: a name by its spelling, in UTF-8.
pub data Part : Type 0 where
  Word : Reserved → Part
  Name : List ℕ → Part
  Number : ℕ → Part
  Operator : Op → Part
  Symbol : Mark → Part

-- A token of the prelude: what it is, and the gap before it.
pub record Entry : Type 0 where
  pub gap : Gap
  pub part : Part

-- what a row of the code's table is
abbrev pub part_of : Shape → List ℕ → Part
part_of (shape.Word w) spelling = Word w
part_of shape.Name spelling = Name spelling
part_of (shape.Number n) spelling = Number n
part_of (shape.Operator o) spelling = Operator o
part_of (shape.Symbol m) spelling = Symbol m

-- the same of a row that the code holds
abbrev pub entry_of : Gap × Shape × Bor (List ℕ) → Entry
entry_of row = record { gap = row.0; part = part_of row.1 row.2.now }

-- the declarations that stand in each prelude
unfoldable pub always : List Entry
always = map (λ row. record { gap = row.0; part = part_of row.1 row.2.now }) ALWAYS

-- the function `run`, which stands behind them where the component starts
unfoldable pub starting : List Entry
starting = map (λ row. record { gap = row.0; part = part_of row.1 row.2.now }) STARTING

-- the `;` behind the last declaration
abbrev pub closing : Entry
closing = record { gap = gap.Empty; part = Symbol mark.Semicolon }

-- what stands behind the declarations that each prelude has
abbrev pub table_end : Bool → List Entry
table_end starts = cond starts starting [] ++ closing ∷ []

-- The tokens of the prelude, of a component that starts or of another one.
abbrev pub table : Bool → List Entry
table starts = always ++ table_end starts
