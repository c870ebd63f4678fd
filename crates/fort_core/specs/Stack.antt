-- Chapter "Limits": attempts nest as deep as the fuel allows, so a pick is copied with a stack of
-- attempts that are copied in part. A copy is an equal pick; only the code has a stack.
use Rattle.std.specs.Prelude.{◌≡◌, ℕ, ◌+◌, ◌*◌, ◌<◌, ◌≤◌, List, [], ◌∷◌, ◌++◌, length, take, drop, Some, slice_get}
use Rattle.fort_core.specs.declared.pick.Pick.{Pick, Attempt}
use Rattle.fort_core.specs.declared.pick_copy.Half.{Half}
use Rattle.fort_core.specs.declared.pick_copy.Made.{Made}
use Rattle.fort_core.specs.declared.pick_copy.Made.TheVariants.{Whole, Part}
use Rattle.fort_core.specs.declared.pick_copy.Turn.{Turn}
use Rattle.fort_core.specs.declared.pick_copy.Turn.TheVariants.{Down, Up}
use Rattle.fort_core.specs.Nodes.{nodes, all_nodes}

-- what a pick's copy begins with
abbrev pub Begins : Pick → Made → Type 0
Begins pick (Whole p) = (p ≡ pick) × (nodes pick ≡ 1)
Begins pick (Part h) = (pick ≡ Attempt h.path h.source.now) × (h.made ≡ [])
    × (0 < length h.source.now)

-- what a copy of an inner pick makes of a half
abbrev pub Settles : Half → Pick → Made → Type 0
Settles half pick (Whole p) = (p ≡ Attempt half.path (half.made ++ pick ∷ []))
    × (length half.source.now ≤ length half.made + 1)
Settles half pick (Part h) =
    (h.path ≡ half.path) × (h.source.now ≡ half.source.now) × (h.made ≡ half.made ++ pick ∷ [])
    × (length h.made < length h.source.now)

-- the pick that is copied next is at its place
abbrev pub Last : Half → Pick → Type 0
Last h at = (h.made ≡ take (length h.made) h.source.now)
    × (slice_get h.source.now (length h.made) ≡ Some at)

-- the attempts stand in one another, the first in the whole, and the pick that is copied next in
-- the last
abbrev pub Holds : Pick → List Half → Pick → Type 0
Holds whole [] at = whole ≡ at
Holds whole (h ∷ hs) at = (whole ≡ Attempt h.path h.source.now)
    × ((inner : Pick) × Last h inner × Holds inner hs at)

-- how many picks come after the one that is copied next
abbrev pub after : Half → ℕ
after h = all_nodes (drop (length h.made + 1) h.source.now)

-- how many come after it, in all attempts that are copied in part
abbrev pub left_of : List Half → ℕ
left_of [] = 0
left_of (h ∷ hs) = after h + left_of hs

-- the pick at which a turn stands
abbrev pub at_turn : Turn → Pick
at_turn (Down p) = p.now
at_turn (Up p) = p

-- how many turns are left at most: falls with each turn
abbrev pub turns_left : Turn → List Half → ℕ
turns_left (Down p) hs = 2 * (nodes p.now + left_of hs) + length hs
turns_left (Up p) hs = 2 * left_of hs + length hs + 1
