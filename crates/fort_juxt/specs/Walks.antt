-- The chapter "Juxtaposition": what the code knows on its walks. The laws that tie it to the rules
-- stand in proofs/.
use Rattle.std.specs.Prelude.{◌≡◌, ◌≢◌, ◌≤◌, ◌<◌, ℕ, ◌-◌, Bool, true, false, cond, List, [], ◌∷◌, length, take, drop, Option, Some, None}
use Rattle.fort_juxt.specs.declared.elements.Element.{Element}
use Rattle.fort_juxt.specs.declared.elements.Grouping.{Grouping}
use Rattle.fort_juxt.specs.Loose.{Chunk, AreFunctions, chunk_groups}

-- A test is met at a number, and at none before it.
pub record IsAt (test : List Element → Bool) (es : List Element) (at : ℕ) : Type 0 where
  pub within : at < length es
  pub met : test (drop at es) ≡ true
  pub least : (k : ℕ) → k < at → test (drop k es) ≡ false

-- A test is met at no number.
pub record IsUnmet (test : List Element → Bool) (es : List Element) : Type 0 where
  pub unmet : (k : ℕ) → k < length es → test (drop k es) ≡ false

-- The first number where a test is met, if there is one.
abbrev pub IsFound : (List Element → Bool) → List Element → Option ℕ → Type 0
IsFound test es (Some at) = IsAt test es at
IsFound test es None = IsUnmet test es

-- Nothing of the kind stands first: the list has ended, or its first element is of the other kind.
abbrev pub Stops : Bool → List Element → Type 0
Stops function [] = Unit {0}
Stops function (e ∷ es) = e.function ≢ function

-- The functions from one number on, or the others, end at another one.
pub record IsRun (es : List Element) (from to : ℕ) (function : Bool) : Type 0 where
  pub ordered : from ≤ to
  pub within : to ≤ length es
  pub each : AreFunctions function (take (to - from) (drop from es))
  pub stops : Stops function (drop to es)

-- a chunk of one element
abbrev pub alone : Element → Chunk
alone e =
    cond e.function (record { functions = e ∷ []; others = [] })
    (record { functions = []; others = e ∷ [] })

-- one non-function more before a chunk of these functions and others, and before chunks behind that
abbrev pub with_other : Element → List Element → List Element → List Chunk → List Chunk
with_other e [] others cs = record { functions = []; others = e ∷ others } ∷ cs
with_other e (f ∷ fs) others cs =
    record { functions = []; others = e ∷ [] } ∷ record { functions = f ∷ fs; others = others } ∷ cs

-- one element more before chunks
abbrev pub with_element : Element → List Chunk → List Chunk
with_element e [] = alone e ∷ []
with_element e (c ∷ cs) =
    cond e.function (record { functions = e ∷ c.functions; others = c.others } ∷ cs)
    (with_other e c.functions c.others cs)

-- the chunks of a list
abbrev pub chunks_of : List Element → List Chunk
chunks_of [] = []
chunks_of (e ∷ es) = with_element e (chunks_of es)

-- the groupings of the chunks of what stands from a number on
abbrev pub groups_from : List Element → ℕ → List Grouping
groups_from es at = chunk_groups at (chunks_of (drop at es))
