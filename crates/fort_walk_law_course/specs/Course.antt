-- Chapter "Runs": how far a run has come, with the attempts that are open in it. The code keeps the
-- picks of each machine, and layers of what was done.
use Rattle.std.specs.Prelude.{◌≡◌, ℕ, ◌≤◌, Bool, true, false, List, [], ◌∷◌, Option, None, IfSome}
use Rattle.fort_core.specs.declared.form.Mode.{Mode}
use Rattle.fort_core.specs.declared.pick.Pick.{Pick}
use Rattle.fort_core.specs.declared.program.Program.{Program}
use Rattle.fort_core.specs.declared.term.Term.{Term}
use Rattle.fort_machine.specs.Effects.{Store, Effect, afterwards}
use Rattle.fort_machine.specs.Marked.{Bare}
use Rattle.fort_machine.specs.Attempts.{Form, Ended, goes}
use Rattle.fort_machine.specs.Runs.{Runs}
use Rattle.fort_machine.specs.Journals.{opening_store, MakesWithinBounds}
use Rattle.fort_frames.specs.Frames.{frames, rebuilt, Reaches}
use Rattle.fort_frames.specs.declared.place.Place.{Place}
use Rattle.fort_store_effects.specs.Levels.{Levels, seen, spent}
use Rattle.fort_walk_law_course.specs.Picks.{Stage, MayBeTried}

-- A machine that waits for the end of an attempt: where its atomic form stands, that form, where it
-- is kept, how it is tried, and its body; and the machine's clock, the number from which on no
-- location is there, and its picks, all before the attempt.
pub record Held : Type 0 where
  pub place : Place
  pub form : Option Term
  pub mode : Mode
  pub body : Term
  pub clock : ℕ
  pub fresh : ℕ
  pub picks : List Pick

-- A machine: whether it is an attempt's, the store and the term with which it began, and what its
-- picks did so far.
pub record Base : Type 0 where
  pub inner : Bool
  pub store : Store
  pub first : Term
  pub done : Effect

-- The root's machine.
abbrev pub root_base : Program → Effect → Base
root_base p d = record { inner = false; store = opening_store p; first = p.first; done = d }

-- The machine of an attempt begins at its body, on the store to which the machine round it has
-- come.
abbrev pub inside : Base → Held → Effect → Base
inside b w e = record { inner = true; store = afterwards b.done b.store; first = w.body; done = e }

-- The innermost machine, by those that wait round it and by what the open attempts did, the
-- innermost one first.
abbrev pub base_of : Program → Effect → List Held → List Effect → Base
base_of p d [] es = root_base p d
base_of p d (w ∷ ws) [] = root_base p d
base_of p d (w ∷ ws) (e ∷ es) = inside (base_of p d ws es) w e

-- A store has no location of this number or a higher one.
abbrev pub NothingFrom : ℕ → Store → Type 0
NothingFrom n s = (l : ℕ) → n ≤ l → s l ≡ None

-- A machine waits for an attempt of the atomic form at its place, which may be tried. Its clock
-- stood still meanwhile.
pub record Waits (p : Program) (b : Base) (now : ℕ) (w : Held) : Type 0 where
  pub form : Term
  pub is_kept : IfSome w.form (λ a. a ≡ form)
  pub not_later : w.clock ≤ now
  pub stage : Stage p b.inner b.store w.picks b.first b.done w.clock w.place form
  pub nothing : NothingFrom w.fresh (afterwards b.done b.store)
  pub is_form : Form form w.mode w.body
  pub bare : Bare w.body
  pub may : MayBeTried (afterwards b.done b.store)
      (rebuilt w.clock (frames w.place.stack) form) form

-- So does each machine but the innermost one, each for an attempt of its own, and since no later
-- time than those within it.
abbrev pub AllWait : Program → ℕ → Effect → List Held → List Effect → Type 0
AllWait p now d [] [] = Unit {0}
AllWait p now d [] (e ∷ es) = ⊥
AllWait p now d (w ∷ ws) [] = ⊥
AllWait p now d (w ∷ ws) (e ∷ es) = Waits p (base_of p d ws es) now w × MakesWithinBounds e
    × AllWait p w.clock d ws es

-- The innermost machine's picks are a run of it to this end or term; the machines round it wait;
-- the levels have what all of them did; and the fuel covers what that cost.
pub record Comes (p : Program) (fuel : ℕ) (v : Levels) (picks : List Pick) (ws : List Held)
    (now : ℕ) (r : Ended) : Type 0 where
  pub root : Effect
  pub attempts : List Effect
  pub levels : v
      ≡ record {
        store = afterwards root (opening_store p);
        output = root.output;
        cost = root.cost;
        attempts = attempts;
      }
  pub waiting : AllWait p now root ws attempts
  pub bounded : MakesWithinBounds root
  pub runs : let b = base_of p root ws attempts
      in Runs p b.inner true b.store picks b.first r b.done
  pub within_fuel : spent v ≤ fuel

-- How far a run has come: its innermost machine has come to a term that is a form at a place, which
-- may go on; and no location is there from a number on.
pub record IsCourse (p : Program) (fuel : ℕ) (v : Levels) (picks : List Pick) (ws : List Held)
    (clock fresh : ℕ) (place : Place) (a : Term) : Type 0 where
  pub comes : Comes p fuel v picks ws clock (goes (rebuilt clock (frames place.stack) a))
  pub reached : Reaches clock (frames place.stack) a
  pub nothing : NothingFrom fresh (seen v)

-- Whether the innermost machine is an attempt's.
abbrev pub is_inner : List Held → Bool
is_inner [] = false
is_inner (w ∷ ws) = true
