-- One store is enough.
use Rattle.std.proofs.Common.{Option, Some, None, refl}
use Rattle.std.specs.Prelude.{false, true}
use Rattle.fort_core.specs.declared.value.Value.{Value}
use Rattle.fort_machine.specs.Acts.{unit}
use Rattle.fort_machine.specs.Cells.{Cell, untouched, found, made, Fits}
use Rattle.fort_machine.specs.RunLaws.{SomeStore, OneStore, OneStoreBare}
use Rattle.fort_machine.proofs.Frame.{bare_alike, framed}

entry_of : (c : Cell) → (o : Option Value) × Fits c o
entry_of untouched = (None, tt)
entry_of (found None w) = (Some unit, tt)
entry_of (found (Some v) w) = (Some v, refl)
entry_of (made w) = (None, tt)

pub some_store : SomeStore
some_store d = (λ l. (entry_of (d.cells l)).0, λ l. (entry_of (d.cells l)).1)

pub one_store : OneStore
one_store p inner s s' ps t r d k f = framed p inner false s s' ps t r d k (λ e. absurd cc) f

pub one_store_bare : OneStoreBare
one_store_bare p inner s s' ps t r d bare k f =
    framed p inner true s s' ps t r d k (λ e. bare_alike s s' t bare) f
