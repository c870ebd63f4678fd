-- The chapter "Typing": of several broken rules the earliest one, and of several at one place the
-- one of the lowest number.
use Rattle.std.specs.Prelude.{Bool, cond, nat_lt, nat_eq, ◌&&◌, ◌||◌, Option, Some, None}
use Rattle.fort_base.specs.declared.refusal.Place.{Place}
use Rattle.fort_base.specs.declared.refusal.Rule.{Rule}
use Rattle.fort_base.specs.Places.{is_before}
use Rattle.fort_typing_known.specs.declared.fault.Fault.{Fault}

abbrev pub same_place : Place → Place → Bool
same_place a b = nat_eq a.line b.line && nat_eq a.column b.column

-- the test whether a broken rule goes before another
unfoldable pub goes_first : Fault → Fault → Bool
goes_first a b =
    is_before a.place b.place || (same_place a.place b.place && nat_lt a.rule.0 b.rule.0)

abbrev pub with_fault : Fault → Option Fault → Option Fault
with_fault f None = Some f
with_fault f (Some g) = Some (cond (goes_first f g) f g)

-- a rule broken at a place, and the first broken rule so far: the one that goes first
unfoldable pub breaks : Rule → Place → Option Fault → Option Fault
breaks rule place found = with_fault (record { rule = rule; place = place }) found
