-- Chapter "The machine with threads": what a stretch of both machines does: the same to locations
-- for terms of the component, and in output; and the machine with threads touches no other
-- location at which it has something.
use Rattle.std.specs.Prelude.{◌≡◌, ℕ, ◌+◌, true, filter, Option, Some, None, ◌⊎◌}
use Rattle.fort_base.specs.declared.ids.Loc.{Loc}
use Rattle.fort_core.specs.declared.value.Value.{Value, Truth}
use Rattle.fort_machine.specs.Cells.{Cell, untouched, found, made}
use Rattle.fort_machine.specs.Effects.{Effect}
use Rattle.fort_machine.specs.Marked.{Marks, In}
use Rattle.fort_threads_law_servers.specs.Roots.{Start}
use Rattle.fort_threads_law_worlds.specs.Worlds.{Use, unused, for_all, given, object, is_for_all, World, HasNothing}

-- From a world to a later one. An object whose thread has not come to an end stays so, and what is
-- kept of an end, at its third location, is left alone: ends come by servers alone.
pub record DoAlike (w x : World) (d e : Effect) : Type 0 where
  pub same : (l : ℕ) → x.serves l ≡ for_all → d.cells l ≡ e.cells l
  pub newly_made : (l : ℕ) → x.serves l ≡ for_all → w.serves l ≡ unused
      → (v : Option Value) × (d.cells l ≡ made v)
  pub nothing_else : (l : ℕ) → (x.serves l ≡ for_all → ⊥)
      → (e.cells l ≡ untouched) ⊎ ((v : Option Value) × (e.cells l ≡ made v) × HasNothing w l)
  pub lasting : (l : ℕ) → w.lasts l ≡ true → d.cells l ≡ untouched
  pub output : d.output ≡ e.output
  pub unended : (l : ℕ) (f : Value) → w.object l ≡ Some (object f (given None))
      → (x.object l ≡ Some (object f (given None))) × (d.cells (l + 2) ≡ untouched)

-- What a step opens that is no call of the prelude: what it makes, and no more.
pub record Opens (w x : World) (d : Effect) : Type 0 where
  pub objects : (l : ℕ) → x.object l ≡ w.object l
  pub spawned : x.spawned ≡ w.spawned
  pub queue : x.queue ≡ w.queue
  pub unended : x.unended ≡ w.unended
  pub lasts : (l : ℕ) → x.lasts l ≡ w.lasts l
  pub uses : (l : ℕ) → (x.serves l ≡ w.serves l)
      ⊎ ((w.serves l ≡ unused) × (x.serves l ≡ for_all)
      × ((v : Value) × (d.cells l ≡ made (Some v))))

-- The world behind such a step.
abbrev pub use_after : Cell → Use → Use
use_after (made (Some v)) u = for_all
use_after _ u = u

abbrev pub opened : World → Effect → World
opened w d = record w { serves = λ l. use_after (d.cells l) (w.serves l) }

-- What a stretch found, it found at locations for terms of the component; or it read `started'`,
-- which is true, in a call of `run`.
abbrev pub FindsOpen : Start → World → Effect → Type 0
FindsOpen m w d = (l : ℕ) (r v : Option Value) → d.cells l ≡ found r v
    → (w.serves l ≡ for_all) ⊎ ((l ≡ m.started) × ((x : Value) → r ≡ Some x → x ≡ Truth true))

-- Marks at such locations.
abbrev pub WatchOpen : Start → World → Marks → Type 0
WatchOpen m w marks = (l : ℕ) (v : Value) → In l v marks
    → (w.serves l ≡ for_all) ⊎ ((l ≡ m.started) × (v ≡ Truth true))

-- Those marks that are at such locations.
abbrev pub open_marks : World → Marks → Marks
open_marks w marks = filter (λ (m : Loc × Value). is_for_all (w.serves m.0.0)) marks
