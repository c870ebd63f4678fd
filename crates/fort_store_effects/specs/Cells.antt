-- Chapter "Store and effects": the code's cell of a location as the machine's, and what stands of
-- it after an attempt.
use Rattle.std.specs.Prelude.{◌≡◌, Option, Some, None}
use Rattle.fort_core.specs.declared.value.Value.{Value}
use Rattle.fort_machine.specs.Cells as machine
use Rattle.fort_machine.specs.Cells.{untouched, found, made, given_back, taken_away, left_at}
use Rattle.fort_store_effects.specs.declared.cell.Cell.{Cell}
use Rattle.fort_store_effects.specs.declared.cell.Cell.TheVariants.{Found, Made}
use Rattle.fort_store_effects.specs.declared.cell.Closing.{Closing}
use Rattle.fort_store_effects.specs.declared.cell.Closing.TheVariants.{Completed, Failed, Aborted}
use Rattle.fort_store_effects.specs.declared.cell.Left.{Left}
use Rattle.fort_store_effects.specs.declared.cell.Left.TheVariants.{Here, Gone, Below}

-- A cell of the code as the machine's.
abbrev pub cell : Cell → machine.Cell
cell (Found read now) = found read now
cell (Made now) = made now

-- A location without a cell is untouched.
abbrev pub cell_of : Option Cell → machine.Cell
cell_of None = untouched
cell_of (Some c) = cell c

-- What stands of a cell after an attempt that ended so.
abbrev pub cell_closed : Closing → machine.Cell → machine.Cell
cell_closed Completed c = c
cell_closed Failed c = given_back c
cell_closed Aborted c = taken_away c

-- A cell leaves this at its location, whatever was there.
abbrev pub IsLeft : machine.Cell → Left → Type 0
IsLeft c (Here v) = (o : Option Value) → left_at c o ≡ Some v.now
IsLeft c Gone = (o : Option Value) → left_at c o ≡ None
IsLeft c Below = (o : Option Value) → left_at c o ≡ o
