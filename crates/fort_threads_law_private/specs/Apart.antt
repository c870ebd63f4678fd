-- Chapter "Threads that are spawned" of docs/LANGUAGE.md: a program keeps the prelude's own names
-- to the prelude, as that of each component does, since no name of its text has a `'`.
use Rattle.std.specs.Prelude.{◌≡◌, List, Some, None, ◌⊎◌, slice_get}
use Rattle.fort_base.specs.declared.ids.DeclId.{DeclId}
use Rattle.fort_base.specs.declared.ids.NameId.{NameId}
use Rattle.fort_base.specs.declared.ids.SetId.{SetId}
use Rattle.fort_base.specs.declared.ids.TypeId.{TypeId}
use Rattle.fort_base.specs.declared.ids.Loc.{Loc}
use Rattle.fort_core.specs.declared.program.CoreBody.{CoreBody}
use Rattle.fort_core.specs.declared.program.CoreBody.TheVariants as body
use Rattle.fort_core.specs.declared.program.CoreDecl.{CoreDecl}
use Rattle.fort_core.specs.declared.program.CoreShape.{CoreShape}
use Rattle.fort_core.specs.declared.program.Program.{Program}
use Rattle.fort_core.specs.declared.term.Term.TheOpen.{Value-F}
use Rattle.fort_core.specs.declared.value.Value.{Value}
use Rattle.fort_machine.specs.Acts.{single}
use Rattle.fort_machine.specs.Calls.{Dispatches, constants}
use Rattle.fort_machine.specs.Forms.{field_of}
use Rattle.fort_machine.specs.Journals.{opening_store}
use Rattle.fort_machine.specs.Parts.{IsOneOf}
use Rattle.fort_threads.specs.Known.{Known, known}
use Rattle.fort_threads_law_servers.specs.Prelude.{Names}
use Rattle.fort_threads_law_servers.specs.Roots.{Start}
use Rattle.fort_threads_law_private.specs.Grounds.{Ground}
use Rattle.fort_threads_law_private.specs.Private.{IsSecretSet, IsSecretField, Private, PrivateValue, AllPrivateValues}
use Rattle.fort_threads_law_private.specs.Fine.{PrivateStore}

-- A declaration's body leaves the prelude's own names alone, and makes no object of a thread.
abbrev pub IsPrivateBody : Program → Names → Start → Ground → CoreBody → Type 0
IsPrivateBody p n m g (body.Plain t) = Private p n m g t
IsPrivateBody p n m g (body.New id) = id ≡ n.thread → ⊥
IsPrivateBody p n m g _ = Unit {0}

-- A program keeps the prelude's own names to the prelude: on the ground on which its runs begin,
-- the bodies of all other declarations, its constants and its opening store leave them alone; a
-- call of a set that isn't the prelude's own runs one of these, or `run`, `spawn'`, `wait`, `val`
-- or `ready`; and an object of a thread has no fields but the prelude's.
pub record KeepsApart (p : Program) (n : Names) (m : Start) (k : Known) (g : Ground) : Type 0 where
  pub bodies : (set : SetId) (values : List Value) (c : DeclId) (declared : CoreDecl)
      → (IsSecretSet n m set → ⊥) → Dispatches p set values c declared
      → IsOneOf c (known k) ⊎ IsPrivateBody p n m g declared.body
  pub fields : (id : TypeId) (s : CoreShape) → slice_get p.shapes id.0 ≡ Some s
      → AllPrivateValues p n m g (constants s)
  pub singles : (id : TypeId) (v : Value) → single p id ≡ Some v → PrivateValue p n m g v
  pub opening : PrivateStore p n m g (opening_store p)
  pub no_other_field : (f : NameId) (base : Loc) → (IsSecretField n f → ⊥)
      → field_of p f (Value-F.Object n.thread base) ≡ None
