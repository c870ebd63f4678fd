-- Chapter "The machine with threads": who sleeps and who is awake in terms that match.
use Rattle.std.specs.Prelude.{◌≡◌, ℕ, false, List, map, ◌⊎◌}
use Rattle.fort_base.specs.declared.ids.Loc.{Loc}
use Rattle.fort_core.specs.declared.form.Mode.{Mode}
use Rattle.fort_core.specs.declared.program.Program.{Program}
use Rattle.fort_core.specs.declared.term.Term.{Term, Asleep}
use Rattle.fort_core.specs.declared.value.Value.{Value}
use Rattle.fort_machine.specs.Attempts.{Form, Ready, Sleeps}
use Rattle.fort_machine.specs.Effects.{Store}
use Rattle.fort_machine.specs.Frames.{Frame, plug, road, passed}
use Rattle.fort_machine.specs.Marked.{Marks}
use Rattle.fort_machine.specs.Parts.{IsOneOf}
use Rattle.fort_threads.specs.Threads.{Paths}
use Rattle.fort_threads_law_servers.specs.Prelude.{Names}
use Rattle.fort_threads_law_servers.specs.Roots.{Start}
use Rattle.fort_threads_law_private.specs.Private.{Private, AllPrivateValues}
use Rattle.fort_threads_law_worlds.specs.Worlds.{World, ground_of}
use Rattle.fort_threads_law_worlds.specs.Effects.{WatchOpen, open_marks}

-- A form that sleeps, as both machines have it.
pub record SleepsAlike (p : Program) (n : Names) (m : Start) (w : World) (asked : Paths)
    (path : List ℕ) (u v : Term) : Type 0 where
  pub marks : Marks
  pub body : Term
  pub is_form : u ≡ Asleep marks body
  pub is_other : v ≡ Asleep (open_marks w marks) body
  pub private_body : Private p n m (ground_of w) body
  pub private_marks :
      AllPrivateValues p n m (ground_of w) (map (λ (e : Loc × Value). e.1) (open_marks w marks))
  pub came : IsOneOf path asked ⊎ WatchOpen m w marks

-- No atomic form of the component: its body is one of the prelude's, or it is another form.
abbrev pub IsNoFormOfAll : Program → Names → Start → World → Term → Type 0
IsNoFormOfAll p n m w a =
    (mode : Mode) (body : Term) → Form a mode body → Private p n m (ground_of w) body → ⊥

-- Somebody is awake in a term of the machine: at this path; or in a call of the prelude, as no
-- atomic form of the component.
pub record AwakeThere (p : Program) (n : Names) (m : Start) (w : World) (s : Store) (u : Term)
    (path : List ℕ) : Type 0 where
  pub frames : List Frame
  pub part : Term
  pub is_term : u ≡ plug frames part
  pub ready : Ready part
  pub reached : passed frames part ≡ false
  pub sleepless : Sleeps s part → ⊥
  pub there : (path ≡ road frames) ⊎ IsNoFormOfAll p n m w part
