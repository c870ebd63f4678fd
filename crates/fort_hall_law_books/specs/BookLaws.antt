-- The chapter "Books" of docs/THREADS.md: how a book begins, what it takes in, and what it is in
-- the end.
use Rattle.std.specs.Prelude.{◌≡◌, ℕ, ◌≤◌, Bool, true, false, List, [], ◌∷◌, ◌++◌, map}
use Rattle.fort_core.specs.declared.form.Mode.{Mode}
use Rattle.fort_core.specs.declared.journal.Ending.TheVariants.{Completed, Uncaught}
use Rattle.fort_core.specs.declared.pick.Pick.{Pick, Attempt}
use Rattle.fort_core.specs.declared.program.Program.{Program}
use Rattle.fort_core.specs.declared.term.Term.{Term}
use Rattle.fort_core.specs.declared.term.Term as term
use Rattle.fort_core.specs.declared.value.Value.{Value}
use Rattle.fort_machine.specs.Acts.{unit}
use Rattle.fort_machine.specs.Attempts.{Form, Ended, goes, Closes}
use Rattle.fort_machine.specs.Effects.{Store, Effect, idle, both, FitsAll, MeetsAll, afterwards}
use Rattle.fort_machine.specs.Ends.{has_stepped, throw_of}
use Rattle.fort_machine.specs.Frames.{Frame, plug, road, passed, trodden}
use Rattle.fort_machine.specs.Journals.{MakesWithinBounds, Records}
use Rattle.fort_machine.specs.Marked.{Bare}
use Rattle.fort_machine.specs.Proper.{Reached}
use Rattle.fort_machine.specs.Runs.{Runs, path_to}
use Rattle.fort_machine.specs.Threads.{under, ended_in, round_after}
use Rattle.fort_machine.specs.Written.{WrittenProgram}
use Rattle.fort_walk_law_course.specs.Picks.{MayBeTried}
use Rattle.fort_hall_law_books.specs.Taken.{IsStepped, IsTried}
use Rattle.fort_hall_law_books.specs.Books.{Origin, root_of, IsBook, store_after}

-- The root's book begins with the program.
abbrev pub BeginsBook : Type 0
BeginsBook = (p : Program) → IsBook p (root_of p) [] (goes p.first) idle

-- In a written program the book of an attempt begins at the body of its form, in which no form
-- sleeps, on the store to which the book round it has come.
abbrev pub OpensBook : Type 0
OpensBook = (p : Program) (o : Origin) (picks : List Pick) (d : Effect) (fs : List Frame) (m : Mode)
    (a body : Term)
    → WrittenProgram p → IsBook p o picks (goes (plug fs a)) d → Form a m body
    → Bare body
    × IsBook p (record { inner = true; store = store_after o d; first = body }) [] (goes body) idle

-- Steps of a part of a book's term, taken on whatever store, go on in it where its store suits what
-- they do.
abbrev pub SubmitsSteps : Type 0
SubmitsSteps = (p : Program) (o : Origin) (picks more : List Pick) (fs : List Frame) (s : Store)
    (t : Term) (r : Ended) (d e : Effect)
    → IsBook p o picks (goes (plug fs t)) d → passed fs t ≡ false → has_stepped t ≡ false
    → IsStepped p o.inner s t more r e → FitsAll e (store_after o d) → MakesWithinBounds e
    → IsBook p o (picks ++ map (under (road fs)) more) (ended_in (round_after more fs) r)
    (both d e)

-- So does an attempt, where its form may be tried in the book: it doesn't sleep on the book's
-- store, or nobody in the book's term is awake there.
abbrev pub SubmitsAttempt : Type 0
SubmitsAttempt = (p : Program) (o : Origin) (picks more : List Pick) (fs : List Frame) (s : Store)
    (t form u : Term) (d e : Effect)
    → IsBook p o picks (goes (plug fs t)) d → passed fs t ≡ false → has_stepped t ≡ false
    → IsTried p s t form more u e → FitsAll e (store_after o d)
    → MayBeTried (store_after o d) (plug fs t) form → MakesWithinBounds e
    → IsBook p o (picks ++ map (under (road fs)) more) (goes (plug (trodden fs) u)) (both d e)

-- What a leg does suits the store to which a book has come exactly where it may follow what the
-- book did and the store on which the book began suits both.
abbrev pub SuitsIsMeets : Type 0
SuitsIsMeets = (p : Program) (o : Origin) (picks : List Pick) (r : Ended) (d e : Effect)
    → IsBook p o picks r d
    → (FitsAll e (store_after o d) → MeetsAll d e × FitsAll (both d e) o.store)
    × (MeetsAll d e → FitsAll (both d e) o.store → FitsAll e (store_after o d))

-- The book of an attempt that has ended is one leg of the part in which the form stands, on the
-- store on which the book began.
abbrev pub FinishedIsTried : Type 0
FinishedIsTried = (p : Program) (o : Origin) (picks : List Pick) (r : Ended) (d e : Effect)
    (fs : List Frame) (m : Mode) (a body b : Term)
    → IsBook p o picks r d → o.inner ≡ true → o.first ≡ body → Bare body → Form a m body
    → passed fs a ≡ false → Closes p m body r d b e
    → IsTried p o.store (plug fs a) a (Attempt (path_to fs) picks ∷ []) (plug (trodden fs) b) e

-- The root's book at `()` is a completed run, where the fuel covers what it cost.
abbrev pub BookCompletes : Type 0
BookCompletes = (p : Program) (fuel : ℕ) (picks : List Pick) (d : Effect)
    → IsBook p (root_of p) picks (goes (term.Value unit)) d → d.cost ≤ fuel
    → Records p (record { fuel = fuel; picks = picks; ending = Completed }) (term.Value unit) d

-- At a throw it is one that ends with what nobody catches.
abbrev pub BookThrows : Type 0
BookThrows = (p : Program) (fuel : ℕ) (picks : List Pick) (d : Effect) (v : Value)
    → IsBook p (root_of p) picks (goes (throw_of v)) d → d.cost ≤ fuel
    → Records p (record { fuel = fuel; picks = picks; ending = Uncaught v }) (throw_of v) d

-- Machines of the program come to a book's term.
abbrev pub BookIsReached : Type 0
BookIsReached = (p : Program) (o : Origin) (picks : List Pick) (t : Term) (d : Effect)
    → IsBook p o picks (goes t) d → Reached p o.inner (store_after o d) t

-- What picks did begins what those picks and more did; so a book that goes on has all the output
-- that it had, first.
abbrev pub OutputGrows : Type 0
OutputGrows = (p : Program) (inner : Bool) (s : Store) (t : Term) (picks more : List Pick)
    (r r' : Ended) (d d' : Effect)
    → Runs p inner true s picks t r d → Runs p inner true s (picks ++ more) t r' d'
    → (e : Effect) × (d' ≡ both d e)
