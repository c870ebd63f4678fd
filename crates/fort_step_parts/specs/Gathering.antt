-- Chapter "Terms and threads": how parts stand, as the code gathers them from left to right. These
-- are means to meet the chapter's words.
use Rattle.std.specs.Prelude.{false, List, [], ◌∷◌}
use Rattle.fort_core.specs.declared.value.Value.{Value}
use Rattle.fort_machine.specs.Ends.{Standing, at_value, at_throw, open_yet}
use Rattle.fort_machine.specs.Acts.{Act, Together, at_values, leftmost, some_still, some_open, with_first, by_together}
use Rattle.fort_step_parts.specs.declared.gathering.AllParts.{AllParts}
use Rattle.fort_step_parts.specs.declared.gathering.AllParts.TheVariants as all_parts
use Rattle.fort_step_parts.specs.declared.stands.Stand.{Stand}
use Rattle.fort_step_parts.specs.declared.stands.Stand.TheVariants as a_stand

-- How a term stands.
abbrev pub as_standing : Stand → Standing
as_standing (a_stand.Value v) = at_value v.now
as_standing (a_stand.Throw v) = at_throw v.now
as_standing a_stand.Open = open_yet

-- Values go before how other parts stand.
abbrev pub values_first : List Value → Together → Together
values_first [] rest = rest
values_first (v ∷ vs) rest = with_first (at_value v) false (values_first vs rest)

-- A throw goes before how other parts stand.
abbrev pub throw_first : Value → Together → Together
throw_first v some_open = some_open
throw_first v _ = leftmost v

-- A part that is open, and in which no step was taken, goes before how other parts stand.
abbrev pub still_first : Together → Together
still_first (at_values vs) = some_still
still_first g = g

-- Parts go before how other parts stand.
abbrev pub before : AllParts → Together → Together
before (all_parts.Values vs) rest = values_first vs rest
before (all_parts.Throw v) rest = throw_first v rest
before all_parts.Still rest = still_first rest
before all_parts.Open rest = some_open

-- How the parts of a parallel node stand, as the machine says it.
abbrev pub as_together : AllParts → Together
as_together (all_parts.Values vs) = at_values vs
as_together (all_parts.Throw v) = leftmost v
as_together all_parts.Still = some_still
as_together all_parts.Open = some_open

-- A parallel node goes on by its parts, as the code found them.
abbrev pub by_parts : AllParts → (List Value → Act) → Act
by_parts g f = by_together (as_together g) f
