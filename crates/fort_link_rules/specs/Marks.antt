-- The chapter "Components and APIs": marks on names. A mark is a number, and 0 where a name has
-- none. The code keeps the marks in a list, by the numbers of names.
use Rattle.std.specs.Prelude.{ℕ, ◌≡◌, ◌==◌, Bool, ◌||◌, if◌then◌else◌, IsTrue, IsFalse, List, get_or, nat_lt}
use Rattle.fort_base.specs.declared.ids.NameId.{NameId}
use Rattle.fort_base.specs.declared.refusal.Place.{Place}
use Rattle.fort_tree.specs.declared.spot.Name.{Name}
use Rattle.fort_link_rules.specs.declared.marks.Marks.{Marks}
use Rattle.fort_link_rules.specs.Units.{has_name}

-- the mark of a name
abbrev pub mark_of : Marks → NameId → ℕ
mark_of m id = get_or m.marks id.0 0

-- A name got a mark, and each other kept its own.
abbrev pub Sets : NameId → ℕ → Marks → Marks → Type 0
Sets id mark old new =
    (other : NameId) → mark_of new other ≡ (if id.0 == other.0 then mark else mark_of old other)

-- whether a name has a mark
abbrev pub is_marked : Marks → Name → Bool
is_marked m name = nat_lt 0 (mark_of m name.id)

-- The marked names are those that were, and these.
abbrev pub MarksNames : List Name → Marks → Marks → Type 0
MarksNames names old new = (n : Name) → is_marked new n ≡ (is_marked old n || has_name names n)

-- The marked names are these.
abbrev pub HasMarks : List Name → Marks → Type 0
HasMarks names m = (n : Name) → is_marked m n ≡ has_name names n

-- The place of a name that is marked as declared, and not as known.
abbrev pub IsStranger : Marks → Marks → Name → Place → Type 0
IsStranger known declared name place = IsFalse (is_marked known name)
    × IsTrue (is_marked declared name) × (name.spot.place ≡ place)
