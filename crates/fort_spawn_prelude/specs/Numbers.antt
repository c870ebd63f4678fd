-- The chapter "Threads that are spawned": the numbers of the prelude's names. The code looks each
-- spelling up from the front.
use Rattle.std.specs.Prelude.{ℕ, suc, List, [], ◌∷◌, ◌++◌, cond, length, nat_lt}
use Rattle.std.specs.Str.{bytes_eq}
use Rattle.fort_spawn_prelude.specs.Table.{Part, Entry, Name}

-- a name, as its bytes
abbrev pub Spelling : Type 0
Spelling = List ℕ

-- The number of a spelling in a list of names: the place of the first that is spelled so, or the
-- place behind all.
abbrev pub number_of : List Spelling → Spelling → ℕ
number_of [] s = 0
number_of (x ∷ list) s = cond (bytes_eq s x) 0 (suc (number_of list s))

-- names, and a spelling behind them where none is spelled so
abbrev pub with_spelling : List Spelling → Spelling → List Spelling
with_spelling names s = cond (nat_lt (number_of names s) (length names)) names (names ++ s ∷ [])

-- the same of what may be a name
abbrev pub with_part : List Spelling → Part → List Spelling
with_part names (Name s) = with_spelling names s
with_part names _ = names

-- Names, and behind them the spellings of tokens that weren't there, each once, in their order.
abbrev pub extended_by : List Spelling → List Entry → List Spelling
extended_by names [] = names
extended_by names (e ∷ es) = extended_by (with_part names e.part) es
