-- The chapter "Components and APIs": the names of several files, each once. The code looks each
-- spelling up in a map.
use Rattle.std.specs.Prelude.{ℕ, suc, List, [], ◌∷◌, ◌++◌, cond, length, nat_lt}
use Rattle.std.specs.Str.{bytes_eq}

-- a name, as its bytes
abbrev pub Spelling : Type 0
Spelling = List ℕ

-- The number of a spelling among names: the place of the first that is spelled so, or the place
-- behind all.
abbrev pub number_in : List Spelling → Spelling → ℕ
number_in [] s = 0
number_in (x ∷ names) s = cond (bytes_eq s x) 0 (suc (number_in names s))

-- names, and a spelling behind them where none is spelled so
abbrev pub with_spelling : List Spelling → Spelling → List Spelling
with_spelling names s = cond (nat_lt (number_in names s) (length names)) names (names ++ s ∷ [])

-- Names, and behind them those of a further file that weren't there, each once, in their order.
abbrev pub grown : List Spelling → List Spelling → List Spelling
grown names [] = names
grown names (s ∷ more) = grown (with_spelling names s) more
