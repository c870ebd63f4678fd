-- The chapter "Grammar", limits: the earliest of some places. The code keeps one place while it
-- walks a tree.
use Rattle.std.specs.Prelude.{Bool, cond, nat_lt, nat_eq, ◌&&◌, ◌||◌, List, [], ◌∷◌, Option, Some, None}
use Rattle.fort_base.specs.declared.refusal.Place.{Place}
use Rattle.fort_base.specs.Places.{is_before}

-- the earlier of two places, each of which may be wanting
abbrev pub earlier : Option Place → Option Place → Option Place
earlier None other = other
earlier (Some a) None = Some a
earlier (Some a) (Some b) = Some (cond (is_before b a) b a)

-- the earliest of some places
abbrev pub least : List Place → Option Place
least [] = None
least (p ∷ ps) = earlier (Some p) (least ps)

-- the earliest of a place, which may be wanting, and some more
unfoldable pub earliest : Option Place → List Place → Option Place
earliest found places = earlier found (least places)
