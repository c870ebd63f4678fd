-- Chapter "The machine with threads": on which ground a run of a program begins, and what leaves
-- the prelude's own names alone there.
use Rattle.std.specs.Prelude.{ℕ, not, ◌&&◌, List, [], ◌∷◌, map, None}
use Rattle.std.specs.Option.{is_some}
use Rattle.fort_base.specs.declared.ids.DeclId.{DeclId}
use Rattle.fort_base.specs.declared.ids.NameId.{NameId}
use Rattle.fort_base.specs.declared.ids.SetId.{SetId}
use Rattle.fort_core.specs.declared.program.CoreBody.{CoreBody}
use Rattle.fort_core.specs.declared.program.Program.{Program}
use Rattle.fort_core.specs.declared.term.Term.{Term}
use Rattle.fort_core.specs.declared.value.Value.{Value}
use Rattle.fort_machine.specs.Journals.{opening_store}
use Rattle.fort_machine.specs.Scopes.{is_among}
use Rattle.fort_threads.specs.Known as threads
use Rattle.fort_threads_law_servers.specs.Prelude.{Names}
use Rattle.fort_threads_law_servers.specs.Roots.{Start}
use Rattle.fort_threads_law_private.specs.Grounds.{Ground}
use Rattle.fort_threads_law_private.specs.Apart.{IsPrivateBody}
use Rattle.fort_threads_law_private.specs.Private.{secret_sets, secret_fields, Private, AllPrivate, PrivateValue, AllPrivateValues}
use Rattle.fort_sound_tables.specs.declared.numbers.Numbers.{Numbers}
use Rattle.fort_sound_tables.specs.Numbers.{names, start, known}

-- The locations of the prelude's four variables.
abbrev pub variables : Names → Start → List ℕ
variables n m = n.queue ∷ n.unended ∷ n.count ∷ m.started ∷ []

-- As a run begins, all locations but these are for the component; no object of a thread is there.
abbrev pub ground : Program → Names → Start → Ground
ground p n m = record {
  is_open = λ l. not (is_among l (variables n m)) && is_some (opening_store p l);
  function = λ l. None;
}

-- By the numbers that were found: what leaves the prelude's own names alone.
abbrev pub ground_of : Program → Numbers → Ground
ground_of p x = ground p (names x) (start x)

abbrev pub Leaves : Program → Numbers → Term → Type 0
Leaves p x t = Private p (names x) (start x) (ground_of p x) t

abbrev pub AllLeave : Program → Numbers → List Term → Type 0
AllLeave p x ts = AllPrivate p (names x) (start x) (ground_of p x) ts

abbrev pub LeavesValue : Program → Numbers → Value → Type 0
LeavesValue p x v = PrivateValue p (names x) (start x) (ground_of p x) v

abbrev pub AllLeaveValues : Program → Numbers → List Value → Type 0
AllLeaveValues p x vs = AllPrivateValues p (names x) (start x) (ground_of p x) vs

abbrev pub LeavesBody : Program → Numbers → CoreBody → Type 0
LeavesBody p x b = IsPrivateBody p (names x) (start x) (ground_of p x) b

-- The numbers of the sets that the prelude alone calls, of the fields that it alone uses, and of
-- the declarations whose calls are steps of threads.
abbrev pub own_sets : Numbers → List ℕ
own_sets x = map (λ (s : SetId). s.0) (secret_sets (names x) (start x))

abbrev pub own_fields : Numbers → List ℕ
own_fields x = map (λ (f : NameId). f.0) (secret_fields (names x))

abbrev pub known_decls : Numbers → List ℕ
known_decls x = map (λ (d : DeclId). d.0) (threads.known (known x))
