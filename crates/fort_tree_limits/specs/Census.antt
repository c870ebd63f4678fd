-- The chapter "Grammar", limits: the first of some places that is one too many. The code counts as
-- it goes along a component.
use Rattle.std.specs.Prelude.{◌-◌, List, Option, Some, None, length}
use Rattle.std.specs.List.{slice_get}
use Rattle.fort_base.specs.declared.refusal.Place.{Place}
use Rattle.fort_tree_limits.specs.declared.census.Count.{Count}

-- the first place, or else the second
abbrev pub or_else : Option Place → Option Place → Option Place
or_else None other = other
or_else (Some at) other = Some at

-- a count behind some more places: fewer may still stand, and where none might the next one is too
-- many
unfoldable pub counted : Count → List Place → Count
counted count places =
    record {
      left = count.left - length places;
      late = or_else count.late (slice_get places count.left);
    }
