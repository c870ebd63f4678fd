-- The chapter "Types", names at the top: what the map of the spellings that stood so far holds.
use Rattle.std.specs.Prelude.{◌≡◌, Bool, true, false, List, Option, Some, None, Contains}
use Rattle.std.specs.Str.{bytes_eq}
use Rattle.indexmap.specs.IndexMap.{get_by}
use Rattle.fort_hier.specs.Names.{Spelling, Called}
use Rattle.fort_hier.specs.declared.seen.Seen.{Seen}

-- what the map has for a spelling
abbrev pub seen_as : Seen → Spelling → Option Bool
seen_as seen s = get_by (λ key. bytes_eq s key.now) seen.known

-- A name of a list has a spelling.
pub record Stands (before : List Called) (s : Spelling) : Type 0 where
  pub name : Called
  pub within : Contains before name
  pub spelled : name.spelling ≡ s

-- Each name of a list with a spelling is a function's.
pub record Functions (before : List Called) (s : Spelling) : Type 0 where
  pub each : (x : Called) → Contains before x → x.spelling ≡ s → x.is_function ≡ true

-- Some name of a list with a spelling is none of a function.
pub record Others (before : List Called) (s : Spelling) : Type 0 where
  pub stands : Stands before s
  pub other : stands.name.is_function ≡ false

-- What is known of a spelling: that no name of a list has it, or whether functions alone have it.
abbrev pub Known : List Called → Spelling → Option Bool → Type 0
Known before s None = Stands before s → ⊥
Known before s (Some true) = Stands before s × Functions before s
Known before s (Some false) = Others before s

-- The map knows of each spelling what is to be known of the names so far.
pub record HoldsSeen (before : List Called) (seen : Seen) : Type 0 where
  pub knows : (s : Spelling) → Known before s (seen_as seen s)
