-- A function value that reads runs, with these names and that budget.
use Rattle.std.specs.Prelude.{◌≡◌, ℕ, Bool, List, Result}
use Rattle.std.specs.declared.alloc.Global.{Global}
use denote.Ref.{Bor, MutBor}
use Rattle.fort_lex_token.specs.declared.token.Token.{Token}
use Rattle.fort_tree.specs.declared.expr.Run.{Run}
use Rattle.fort_tree.specs.Tokens.{Spellings}
use Rattle.fort_parse_reading.specs.declared.fault.Fault.{Fault}
use Rattle.fort_parse_reading.specs.Parser.{Reads}
use Rattle.fort_parse.specs.Runs.{run_at}

-- it may be called, and reads runs
pub record Nests (names : Spellings) (depth : ℕ)
    (pre : Global → Bor Spellings → ℕ → ℕ → MutBor (List Token) → Bool → Type 0)
    (post : Global → Bor Spellings → ℕ → ℕ → MutBor (List Token) → Bool → Result Run Fault
    → MutBor (List Token) → Type 0) : Type 0 where
  pub callable : (alloc : Global) (spellings : Bor Spellings) (floor : ℕ)
      (old : MutBor (List Token)) (blocks : Bool) → pre alloc spellings depth floor old blocks
  pub reads : (alloc : Global) (spellings : Bor Spellings) (floor : ℕ)
      (old new : MutBor (List Token)) (blocks : Bool) (r : Result Run Fault) → spellings.now ≡ names
      → post alloc spellings depth floor old blocks r new
      → Reads ((run_at names depth blocks).parser.run old.now) r new.now
