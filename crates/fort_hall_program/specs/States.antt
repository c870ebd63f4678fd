-- The chapter "Books" of docs/THREADS.md: books with tasks, what is lent, and what comes back.
use Rattle.std.specs.Prelude.{◌≡◌, ◌≤◌, ℕ, Bool, true, false, List, [], ◌∷◌, Option, Some, None, Result, Ok, Err, IfSome}
use Rattle.fort_base.specs.declared.refusal.Memory.{Memory}
use Rattle.fort_core.specs.declared.path.Path.{Path}
use Rattle.fort_core.specs.declared.pick.Pick.{Pick, Attempt}
use Rattle.fort_core.specs.declared.program.Program.{Program}
use Rattle.fort_core.specs.declared.term.Term.{Term}
use Rattle.fort_machine.specs.Effects.{Effect, afterwards}
use Rattle.fort_machine.specs.Ends.{has_stepped, open_yet, standing}
use Rattle.fort_machine.specs.Frames.{Frame, plug, passed}
use Rattle.fort_machine.specs.Proper.{Reached}
use Rattle.fort_machine.specs.Journals.{MakesWithinBounds}
use Rattle.fort_machine.specs.Marked.{Marks}
use Rattle.fort_store_effects.specs.Again.{only_store}
use Rattle.fort_store_effects.specs.Levels.{effect_of, levels_of, seen}
use Rattle.fort_store_effects.specs.declared.layer.Layer.{Layer}
use Rattle.fort_store_effects.specs.declared.layers.Layers.{Layers}
use Rattle.fort_walk_legs.specs.Legs.{IsInReach}
use Rattle.fort_hall_machine.specs.Words.{OneMore}
use Rattle.fort_hall_law_books.specs.Books.{Origin}
use Rattle.fort_hall_law_books.specs.Legs.{Legs}
use Rattle.fort_hall_books.specs.Books.{origin_of, store_of, IsKept}
use Rattle.fort_hall_books.specs.Legs.{IsLegOf}
use Rattle.fort_hall_books.specs.declared.book.Closed.{Closed}
use Rattle.fort_hall_books.specs.declared.book.Entry.{Entry}
use Rattle.fort_hall_books.specs.declared.leg.Kind.TheVariants.{Attempt as Attempted}
use Rattle.fort_hall_books.specs.declared.leg.Answer.{Answer}
use Rattle.fort_hall_books.specs.declared.leg.Answer.TheVariants.{Done, Stale}
use Rattle.fort_hall_forms.specs.Forms.{IsFirstForm}
use Rattle.fort_hall_forms.specs.declared.form.AtForm.{AtForm}
use Rattle.fort_hall_program.specs.declared.book.TaskBook.{TaskBook}
use Rattle.fort_hall_program.specs.declared.state.State.{State}
use Rattle.fort_hall_program.specs.declared.state.TaskLeg.{TaskLeg}

-- The form with which a machine began stands in a term to which machines of the program come, isn't
-- passed over there, and is no mark.
pub record StandsIn (p : Program) (o : Origin) : Type 0 where
  pub around : List Frame
  pub reached : Reached p o.inner o.store (plug around o.first)
  pub through : passed around o.first ≡ false
  pub unmarked : has_stepped o.first ≡ false

-- A book with tasks is kept: it is one, which may cost so much at most; it began in a term of a
-- run; and the store at hand, unless memory was wanting, is the one to which it has come.
pub record IsBookOf (p : Program) (most : ℕ) (x : TaskBook) : Type 0 where
  pub kept : IsKept p x.book
  pub within : x.book.most ≤ most
  pub stands : StandsIn p (origin_of x.book)
  pub now : IfSome x.at_hand (λ l. levels_of l ≡ only_store (store_of x.book))

-- It has no leg yet, began so, and may cost so much.
pub record IsNewBook (inner : Bool) (view : Layers) (first : Term) (most : ℕ)
    (x : TaskBook) : Type 0 where
  pub origin : origin_of x.book
      ≡ record { inner = inner; store = seen (levels_of view); first = first }
  pub bound : x.book.most ≡ most
  pub entries : x.book.entries ≡ []
  pub kept : (p : Program) → IsKept p x.book
  pub now : IfSome x.at_hand (λ l. levels_of l ≡ only_store (store_of x.book))

-- What is lent is good: wherever legs lead from the part, that stands in a term of a run; it is
-- open and no mark; its book may cost so much more at most; and the form at which it stands, if it
-- does, is one of it that doesn't sleep.
pub record IsGood (p : Program) (most : ℕ) (x : State) : Type 0 where
  pub reach : IsInReach p x.inner (seen (levels_of x.view)) x.part
  pub unmarked : has_stepped x.part ≡ false
  pub is_open : standing x.part ≡ open_yet
  pub alone : (levels_of x.view).attempts ≡ []
  pub within : x.left ≤ most
  pub form : IfSome x.form (IsFirstForm x.part (seen (levels_of x.view)))

-- A leg of a task is one of its part, which was open.
pub record IsLegOfTask (p : Program) (x : TaskLeg) : Type 0 where
  pub leg : IsLegOf p x.leg
  pub is_open : standing x.leg.part ≡ open_yet

-- Where the attempt of a form begins: at its body, on the store of the state.
abbrev pub opened_at : State → AtForm → Origin
opened_at x f = record { inner = true; store = seen (levels_of x.view); first = f.body }

-- Where the attempt of a state begins; a state that stands at no form opens the root's book.
abbrev pub form_at : Origin → State → Option AtForm → Origin
form_at start x None = start
form_at start x (Some f) = opened_at x f

abbrev pub form_of : Origin → State → Origin
form_of start x = form_at start x x.form

-- A state that stands at a form.
abbrev pub with_form : State → AtForm → State
with_form x f = record x { form = Some f }

-- What an attempt of a form of a state came to: legs from the form's body, on the state's store.
pub record HasGoneTo (p : Program) (x : State) (f : AtForm) (c : Closed) : Type 0 where
  pub legs : Legs p true (seen (levels_of x.view)) f.body c.picks c.term (effect_of c.done)
  pub bounded : MakesWithinBounds (effect_of c.done)

-- An attempt as the leg of a state's task.
abbrev pub attempt_leg : State → Option Marks → Layer → List Pick → Term → TaskLeg
attempt_leg x watched done picks term = record {
  task = x.task;
  leg = record {
    inner = x.inner;
    path = x.path;
    part = x.part;
    kind = Attempted watched;
    done = done;
    picks = picks;
    term = term;
  };
}

-- The pass that an entry names.
abbrev pub pass_of : Entry → ℕ
pass_of e = e.pass

-- What a book answers to a leg: it was appended, as one entry that names the pass; else the entries
-- are as they were.
abbrev pub HasAppended : ℕ → List Entry → Result Answer Memory → List Entry → Type 0
HasAppended pass old (Ok (Done before)) new = OneMore pass_of pass old new
HasAppended pass old (Ok (Stale why back)) new = new ≡ old
HasAppended pass old (Err e) new = new ≡ old

-- One attempt, and no other pick.
abbrev pub only : Path → List Pick → List Pick
only path within = Attempt path within ∷ []

-- What was done to the store at hand, if it is still there.
abbrev pub IsAt : Effect → Option Layers → Option Layers → Type 0
IsAt d (Some before) (Some after) =
    levels_of after ≡ only_store (afterwards d (seen (levels_of before)))
IsAt d None (Some after) = ⊥
IsAt d before None = Unit {0}
