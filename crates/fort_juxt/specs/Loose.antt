-- The chapter "Juxtaposition", loose: chunks, and their grouping. The code walks from chunk to
-- chunk.
use Rattle.std.specs.Prelude.{◌≡◌, ◌≢◌, ℕ, zero, suc, ◌+◌, Bool, true, false, not, ◌&&◌, List, [], ◌∷◌, ◌++◌, length, Result, Ok, Err}
use Rattle.fort_base.specs.declared.rules.TheConstants.{FUNCTION_AS_VALUE}
use Rattle.fort_base.specs.declared.refusal.CheckFault.{CheckFault}
use Rattle.fort_base.specs.declared.refusal.CheckFault.TheVariants.{Refused, Memory}
use Rattle.fort_juxt.specs.declared.elements.Element.{Element}
use Rattle.fort_juxt.specs.declared.elements.Grouping.{Grouping}
use Rattle.fort_juxt.specs.declared.elements.Grouping.TheVariants as a_grouping
use Rattle.fort_juxt.specs.First.{IsFirst, IsNowhere}

-- None is a postfix.
abbrev pub AreAtoms : List Element → Type 0
AreAtoms [] = Unit {0}
AreAtoms (e ∷ es) = (e.postfix ≡ false) × AreAtoms es

-- an element stands first that ends its chunk: the last one, or no function with a function behind
-- it
abbrev pub ends_chunk : List Element → Bool
ends_chunk [] = false
ends_chunk (e ∷ []) = true
ends_chunk (e ∷ next ∷ after) = not e.function && next.function

-- a function set's name stands first, and ends its chunk
abbrev pub name_ends : List Element → Bool
name_ends [] = false
name_ends (e ∷ after) = e.named && ends_chunk (e ∷ after)

-- ---- chunks

-- A part of a list: functions, and others behind them.
pub record Chunk : Type 0 where
  pub functions : List Element
  pub others : List Element

-- its elements
abbrev pub elements : Chunk → List Element
elements c = c.functions ++ c.others

-- the elements of chunks, one after another
abbrev pub all_elements : List Chunk → List Element
all_elements [] = []
all_elements (c ∷ cs) = elements c ++ all_elements cs

-- All are functions, or none is.
abbrev pub AreFunctions : Bool → List Element → Type 0
AreFunctions function [] = Unit {0}
AreFunctions function (e ∷ es) = (e.function ≡ function) × AreFunctions function es

-- A part that isn't empty: all functions, then none.
pub record IsChunk (c : Chunk) : Type 0 where
  pub filled : elements c ≢ []
  pub functions : AreFunctions true c.functions
  pub others : AreFunctions false c.others

-- Each is a chunk.
abbrev pub AreChunks : List Chunk → Type 0
AreChunks [] = Unit {0}
AreChunks (c ∷ cs) = IsChunk c × AreChunks cs

-- Of two chunks side by side the first ends with a non-function, and the second begins with a
-- function.
abbrev pub AreApart : List Chunk → Type 0
AreApart [] = Unit {0}
AreApart (c ∷ []) = Unit {0}
AreApart (c ∷ d ∷ cs) = (c.others ≢ []) × (d.functions ≢ []) × AreApart (d ∷ cs)

-- The chunks of a list.
pub record IsDivision (es : List Element) (chunks : List Chunk) : Type 0 where
  pub whole : all_elements chunks ≡ es
  pub each : AreChunks chunks
  pub apart : AreApart chunks

-- ---- groupings

-- n elements from number i on, each by itself
abbrev pub units : ℕ → ℕ → List Grouping
units i zero = []
units i (suc n) = a_grouping.One i ∷ units (i + 1) n

-- a grouping joined with one after another
abbrev pub joined_to : Grouping → List Grouping → Grouping
joined_to g [] = g
joined_to g (h ∷ hs) = joined_to (a_grouping.Pair g h) hs

-- groupings joined to the left into one, if there are some
abbrev pub joined : List Grouping → List Grouping
joined [] = []
joined (g ∷ gs) = joined_to g gs ∷ []

-- a grouping applied to what the next ones give
abbrev pub applied_to : Grouping → List Grouping → Grouping
applied_to g [] = g
applied_to g (h ∷ hs) = a_grouping.Apply g (applied_to h hs)

-- groupings grouped to the right as applications into one, if there are some
abbrev pub applied : List Grouping → List Grouping
applied [] = []
applied (g ∷ gs) = applied_to g gs ∷ []

-- A chunk from number i on: its non-functions are joined to the left, and then it is grouped to the
-- right as applications.
abbrev pub chunk_group : ℕ → Chunk → List Grouping
chunk_group i c =
    applied (units i (length c.functions)
    ++ joined (units (i + length c.functions) (length c.others)))

-- the groupings of chunks from number i on
abbrev pub chunk_groups : ℕ → List Chunk → List Grouping
chunk_groups i [] = []
chunk_groups i (c ∷ cs) = chunk_group i c ++ chunk_groups (i + length (elements c)) cs

-- The chunks' groupings are joined to the left.
abbrev pub IsGroupingOf : List Chunk → Grouping → Type 0
IsGroupingOf chunks g = joined (chunk_groups 0 chunks) ≡ g ∷ []

-- The grouping of a list, or its refusal.
pub data Groups (es : List Element) (r : Result Grouping CheckFault) : Type 0 where
  -- A function set's name with nothing behind it in its chunk: 606.
  name_alone : (before after : List Element) (x : Element) → IsFirst name_ends es before (x ∷ after)
      → r ≡ Err (Refused FUNCTION_AS_VALUE x.place) → Groups es r
  -- Else the grouping of the list's chunks.
  grouped : IsNowhere name_ends es → (chunks : List Chunk) → IsDivision es chunks → (g : Grouping)
      → IsGroupingOf chunks g → r ≡ Ok g → Groups es r

-- The grouping or the refusal; want of memory needs no cause.
abbrev pub Answers : List Element → Result Grouping CheckFault → Type 0
Answers es (Ok g) = Groups es (Ok g)
Answers es (Err (Refused rule place)) = Groups es (Err (Refused rule place))
Answers es (Err Memory) = Unit {0}

-- A list has at most one grouping or refusal.
abbrev pub OneGrouping : Type 0
OneGrouping = (es : List Element) (r s : Result Grouping CheckFault) → Groups es r → Groups es s
    → r ≡ s
