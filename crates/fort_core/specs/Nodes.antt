-- Chapter "Limits": attempts nest as deep as the fuel allows, so picks are counted through all
-- their levels. The code lets them go in a loop that keeps what waits inside what goes first.
use Rattle.std.specs.Prelude.{ℕ, ◌+◌, ◌*◌, List, [], ◌∷◌, map}
use Rattle.fort_core.specs.declared.pick.Pick.{Pick, fold-Pick}
use Rattle.fort_core.specs.declared.pick.Pick.TheOpen.{Pick-F}

-- the sum of some numbers
abbrev pub total : List ℕ → ℕ
total [] = 0
total (n ∷ ns) = n + total ns

-- a pick counts for itself and for the picks inside it
abbrev pub nodes_step : Pick-F ℕ → ℕ
nodes_step (Pick-F.Step path loc) = 1
nodes_step (Pick-F.Attempt path inner) = 1 + total inner

-- how many picks there are in a pick, itself and all levels included
abbrev pub nodes : Pick → ℕ
nodes = fold-Pick ℕ nodes_step

-- how many there are in some picks
abbrev pub all_nodes : List Pick → ℕ
all_nodes ps = total (map nodes ps)

-- falls as picks go, and as the pick in hand gets smaller
abbrev pub work : Pick → List Pick → ℕ
work p ps = let n = nodes p + all_nodes ps in n * n + nodes p
