-- The chapter "Components and APIs", 707: the limits of the whole, which are those of a component.
-- Declarations are counted with the members of traits and objects; of tokens, those of all
-- declarations are counted after the five of the whole's own frame. The code lists the places of
-- each kind.
use Rattle.std.specs.Prelude.{ℕ, ◌≡◌, ◌-◌, ◌⊎◌, List, [], Some, map, slice_get}
use Rattle.std.specs.List.{flat_map}
use Rattle.fort_base.specs.declared.refusal.Place.{Place}
use Rattle.fort_tree.specs.declared.declarations.Declared.{Declared}
use Rattle.fort_tree.specs.Declarations.{said_declared}
use Rattle.fort_tree.specs.Limits.{declaration_places, type_places}
use Rattle.fort_tree.specs.Measured.{most_declarations, most_types}
use Rattle.fort_tree.specs.Said.{entries_tokens}
use Rattle.fort_link_units.specs.declared.unit.Unit.{Unit}
use Rattle.fort_link_units.specs.declared.unit.Unit.TheVariants as a_unit

-- how many tokens the whole may have
abbrev pub most_tokens : ℕ
most_tokens = 262144

-- the tokens of the whole's own frame, `component N export Executable` and `end`
abbrev pub frame_tokens : ℕ
frame_tokens = 5

-- the declarations of a unit; an API adds none to the whole
abbrev pub declarations_in : Unit → List Declared
declarations_in (a_unit.Component c) = c.parsed.component.declarations
declarations_in (a_unit.Api a) = []

-- the declarations of the whole
abbrev pub whole_declarations : List Unit → List Declared
whole_declarations units = flat_map declarations_in units

-- the places of the tokens of declarations
abbrev pub token_places : List Declared → List Place
token_places ds = map (λ t. t.place) (entries_tokens (map said_declared ds))

-- There are more than so many, and the place is that of the first one too many.
abbrev pub IsPassed : ℕ → List Place → Place → Type 0
IsPassed most places place = slice_get places most ≡ Some place

-- 707: the whole has more than 4,096 declarations, 1,024 types or 262,144 tokens.
abbrev pub IsTooMuch : List Unit → Place → Type 0
IsTooMuch units place = let ds = whole_declarations units in
    IsPassed most_declarations (flat_map declaration_places ds) place
    ⊎ (IsPassed most_types (flat_map (λ d. type_places d.declaration) ds) place
    ⊎ IsPassed (most_tokens - frame_tokens) (token_places ds) place)
