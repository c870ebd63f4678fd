-- The bank's text. It restates the chapter "The bank" of docs/LANGUAGE.md, line by line, with what
-- stands between two numbers in parentheses.
use Rattle.std.specs.Prelude.{ℕ, List, ◌++◌, codes, decimal}

-- A component with so many accounts, of 100 each, and so many transfers between them, some of which
-- may fail.
abbrev pub bank : ℕ → ℕ → List ℕ
bank accounts transfers =
    (codes "component Bank\n"
    ++ codes "export Executable\n"
    ++ codes "object Account(var balance: ZZ32) end\n"
    ++ codes "object Overdraft extends Exception end\n"
    ++ codes "move(src: Account, dst: Account, amount: ZZ32): () = atomic do\n"
    ++ codes "  atomic do\n"
    ++ codes "    src.balance -= amount\n"
    ++ codes "    if src.balance < 0 then throw Overdraft end\n"
    ++ codes "  end\n"
    ++ codes "  dst.balance += amount\n"
    ++ codes "end\n"
    ++ codes "run(): () = do\n"
    ++ codes "  bank: Array[\\Account, ZZ32\\] = array[\\Account\\](") ++ decimal accounts
    ++ (codes ").fill(Account(0))\n"
    ++ codes "  for i <- 0#") ++ decimal accounts ++ (codes " do bank[i] := Account(100) end\n"
    ++ codes "  for k <- 0#") ++ decimal transfers ++ (codes " do\n"
    ++ codes "    a: Account = bank[(7 k) MOD ") ++ decimal accounts ++ (codes "]\n"
    ++ codes "    b: Account = bank[(11 k + 3) MOD ") ++ decimal accounts ++ (codes "]\n"
    ++ codes "    try\n"
    ++ codes "      tryatomic move(a, b, k MOD 120)\n"
    ++ codes "    catch e\n"
    ++ codes "      Overdraft => ()\n"
    ++ codes "    end\n"
    ++ codes "  end\n"
    ++ codes "  println(\"total \" (SUM[i <- 0#") ++ decimal accounts
    ++ (codes "] bank[i].balance))\n"
    ++ codes "end\n"
    ++ codes "end\n")
