-- Chapter "Store and effects": the store, and what a stretch of a run does in all. The code has a
-- map, and the four lists of a stretch.
use Rattle.std.specs.Prelude.{ℕ, ◌+◌, ◌==◌, if◌then◌else◌, List, [], ◌∷◌, ◌++◌, Option, Some, None}
use Rattle.fort_core.specs.declared.value.Value.{Value}
use Rattle.fort_machine.specs.Cells.{Cell, untouched, found, made, joined, Fits, left_at, Meets, given_back, taken_away}

-- A store: at each location, by its number, a value or none.
abbrev pub Store : Type 0
Store = ℕ → Option Value

-- What a stretch did: at each location, in output, and what it cost.
pub record Effect : Type 0 where
  pub cells : ℕ → Cell
  pub output : List ℕ
  pub cost : ℕ

-- Nothing was done.
abbrev pub idle : Effect
idle = record { cells = λ l. untouched; output = []; cost = 0 }

-- Nothing was done but for a text that was printed, at a cost.
abbrev pub printed : List ℕ → ℕ → Effect
printed text cost = record { cells = λ l. untouched; output = text; cost = cost }

-- Nothing was done, at a cost.
abbrev pub paid : ℕ → Effect
paid cost = printed [] cost

-- One location has a cell, and no other one.
abbrev pub only_at : ℕ → Cell → ℕ → Cell
only_at l c k = if l == k then c else untouched

-- A value was read, at the cost of 1.
abbrev pub reading : ℕ → Value → Effect
reading l v = record (paid 1) { cells = only_at l (found (Some v) None) }

-- A value was written to a location that was there, at the cost of 1.
abbrev pub writing : ℕ → Value → Effect
writing l v = record (paid 1) { cells = only_at l (found None (Some v)) }

-- Consecutive locations, the first of a number, are made with these values.
abbrev pub made_from : ℕ → List Value → ℕ → Cell
made_from l [] k = untouched
made_from l (v ∷ vs) k = if l == k then made (Some v) else made_from (l + 1) vs k

-- Values were put into consecutive fresh locations, at a cost.
abbrev pub making : ℕ → List Value → ℕ → Effect
making l vs cost = record (paid cost) { cells = made_from l vs }

-- Two stretches, one after the other: cells join, output is appended, costs add up.
abbrev pub both : Effect → Effect → Effect
both d e =
    record {
      cells = λ l. joined (d.cells l) (e.cells l);
      output = d.output ++ e.output;
      cost = d.cost + e.cost;
    }

-- A store suits a stretch where it does so at each location.
abbrev pub FitsAll : Effect → Store → Type 0
FitsAll d s = (l : ℕ) → Fits (d.cells l) (s l)

-- One stretch may follow another where it may at each location.
abbrev pub MeetsAll : Effect → Effect → Type 0
MeetsAll d e = (l : ℕ) → Meets (d.cells l) (e.cells l)

-- The store after a stretch.
abbrev pub afterwards : Effect → Store → Store
afterwards d s = λ l. left_at (d.cells l) (s l)

-- A completed attempt: 1 for itself, and all that its inner run did.
abbrev pub completing : Effect → Effect
completing d = both (paid 1) d

-- A failed attempt: 1 and what its inner run cost; older locations are given back, and nothing is
-- printed.
abbrev pub failing : Effect → Effect
failing d = record { cells = λ l. given_back (d.cells l); output = []; cost = 1 + d.cost }

-- An aborted attempt: 1 and what its inner run cost; the store is as before, and nothing is
-- printed.
abbrev pub aborting : Effect → Effect
aborting d = record { cells = λ l. taken_away (d.cells l); output = []; cost = 1 + d.cost }
