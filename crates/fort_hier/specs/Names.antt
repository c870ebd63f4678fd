-- The chapter "Types", names at the top: which names clash. The code keeps the spellings that stood
-- so far in a map.
use Rattle.std.specs.Prelude.{◌≡◌, ℕ, Bool, true, false, ◌&&◌, List, [], ◌++◌, Option, Some, None, map, take, slice_get, get_or, Contains}
use Rattle.fort_base.specs.declared.refusal.Place.{Place}
use Rattle.fort_tree.specs.declared.spot.Name.{Name}
use Rattle.fort_types_builtin.specs.Declarations.{function_spellings}
use Rattle.fort_types_builtin.specs.Types.{type_spellings}
use Rattle.fort_hier.specs.declared.tops.Top.{Top}

-- a name, as its bytes
abbrev pub Spelling : Type 0
Spelling = List ℕ

-- The spelling of a name of a component.
abbrev pub spelling : List Spelling → Name → Spelling
spelling names name = get_or names name.id.0 []

-- A name at the top: its spelling, whether it is a function's, and its place, which a built-in one
-- has not.
pub record Called : Type 0 where
  pub spelling : Spelling
  pub is_function : Bool
  pub place : Option Place

-- the names of built-in types and functions
abbrev pub type_called : Spelling → Called
type_called s = record { spelling = s; is_function = false; place = None }

abbrev pub function_called : Spelling → Called
function_called s = record { spelling = s; is_function = true; place = None }

abbrev pub built_in : List Called
built_in = map type_called type_spellings ++ map function_called function_spellings

-- a name of a component
abbrev pub called : List Spelling → Top → Called
called names t =
    record {
      spelling = spelling names t.name;
      is_function = t.is_function;
      place = Some t.name.spot.place;
    }

-- All names at the top, built-in ones first.
abbrev pub all_called : List Spelling → List Top → List Called
all_called names tops = built_in ++ map (called names) tops

-- Some name of a list is spelled so, and it and the further one aren't both of functions.
abbrev pub ClashesWith : List Called → Spelling → Bool → Type 0
ClashesWith before s is_function = (x : Called) × Contains before x × (x.spelling ≡ s)
    × ((x.is_function && is_function) ≡ false)

-- The name at a number clashes with one before it, and this is its place.
abbrev pub DuplicateAt : List Called → ℕ → Place → Type 0
DuplicateAt all j place = (x : Called) × (slice_get all j ≡ Some x)
    × ClashesWith (take j all) x.spelling x.is_function × (x.place ≡ Some place)

-- A name clashes with one before it, and this is its place: two names of variables or types are
-- one, or a function has the name of a variable or type.
abbrev pub IsDuplicate : List Called → Place → Type 0
IsDuplicate all place = (j : ℕ) × DuplicateAt all j place
