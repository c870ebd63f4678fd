-- The chapter "Plays" of docs/THREADS.md: worked plays, of two programs of one line. Layers are as
-- workers make them.
use Rattle.std.specs.Prelude.{◌≡◌, false, [], ◌∷◌, Some, None}
use Rattle.fort_core.specs.declared.form.Mode.TheVariants as mode
use Rattle.fort_core.specs.declared.pick.Pick.{Attempt}
use Rattle.fort_core.specs.declared.program.Program.{Program}
use Rattle.fort_core.specs.declared.term.Term.{Atomic}
use Rattle.fort_core.specs.declared.term.Term as term
use Rattle.fort_machine.specs.Acts.{unit}
use Rattle.fort_machine.specs.Effects.{idle, completing}
use Rattle.fort_machine.specs.Journals.{Records}
use Rattle.fort_machine.specs.Runs.{path_to}
use Rattle.fort_machine.specs.Worked.{hello, two_steps}
use Rattle.fort_store_effects.specs.Levels.{effect_of}
use Rattle.fort_store_effects.specs.declared.layer.Layer.{Layer}
use Rattle.fort_hall_law_books.specs.Books.{root_of}
use Rattle.fort_hall_books.specs.Books.{did}
use Rattle.fort_hall_books.specs.declared.book.Book.{Book}
use Rattle.fort_hall_books.specs.declared.leg.Kind.TheVariants as kind
use Rattle.fort_hall_books.specs.declared.leg.Leg.{Leg}
use Rattle.fort_hall_law_plays.specs.Offers.{taken, refused}
use Rattle.fort_hall_law_plays.specs.Plays.{submit, begin, finish, Plays}
use Rattle.fort_hall_law_plays.specs.Worlds.{Opening, World, Starts}

-- Both steps of `run(): () = println("a")` as one leg, with what they did in a layer.
abbrev pub both_steps : Layer → Leg
both_steps done = record {
  inner = false;
  path = path_to [];
  part = hello.first;
  kind = kind.Steps;
  done = done;
  picks = two_steps.picks;
  term = term.Value unit;
}

-- Two workers make this leg. The first who offers it has it taken in, and the second is refused;
-- the root's book has one entry, of the first one, at `()`, and did just what the run did.
abbrev pub OneIsTaken : Type 0
OneIsTaken = (w : World) (done : Layer)
    → Starts hello (root_of hello) 4 w → Records hello two_steps (term.Value unit) (effect_of done)
    → (w' : World)
    × Plays hello w
    (submit 0 (both_steps done) 1 taken ∷ submit 0 (both_steps done) 2 refused ∷ []) w'
    × (x : Book) × (w'.books 0 ≡ Some (record { book = x; opening = None }))
    × (x.entries ≡ record { pass = 1; picks = two_steps.picks } ∷ []) × (x.term ≡ term.Value unit)
    × (did x ≡ effect_of done)

-- A program that begins with `atomic ()`.
abbrev pub attempting : Program
attempting = record hello { first = Atomic mode.Atomic (term.Value unit) }

-- An attempt of this form.
abbrev pub at_first : Opening
at_first = record {
  book = 0;
  path = path_to [];
  part = attempting.first;
  frames = [];
  form = attempting.first;
  mode = mode.Atomic;
}

-- It has no inner pick, and what it did is in a layer.
abbrev pub one_attempt : Layer → Leg
one_attempt done = record {
  inner = false;
  path = path_to [];
  part = attempting.first;
  kind = kind.Attempt None;
  done = done;
  picks = Attempt (path_to []) [] ∷ [];
  term = term.Value unit;
}

-- It is opened and handed in: its book is gone, and the root's has it as its one entry, at `()`.
abbrev pub AttemptGoesIn : Type 0
AttemptGoesIn = (w : World) (done : Layer)
    → Starts attempting (root_of attempting) 4 w → effect_of done ≡ completing idle
    → (w' : World)
    × Plays attempting w (begin at_first 3 ∷ finish 1 0 (one_attempt done) 1 taken ∷ []) w'
    × (w'.books 1 ≡ None) × (x : Book) × (w'.books 0 ≡ Some (record { book = x; opening = None }))
    × (x.entries ≡ record { pass = 1; picks = Attempt (path_to []) [] ∷ [] } ∷ [])
    × (x.term ≡ term.Value unit) × (did x ≡ completing idle)
