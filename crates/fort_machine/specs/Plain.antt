-- Chapter "Runs": the plain reading, a store before and a store after, which follows. A step's
-- effect says more: what was read, which a sleeping form watches.
use Rattle.std.specs.Prelude.{◌≡◌, ℕ, ◌+◌, ◌<◌, ◌==◌, Bool, true, false, if◌then◌else◌, List, [], ◌∷◌, ◌++◌, length, Some, None, ◌↔◌}
use Rattle.fort_core.specs.declared.form.Mode.{Mode}
use Rattle.fort_core.specs.declared.form.Mode.TheVariants as mode
use Rattle.fort_core.specs.declared.pick.Pick.{Pick, Step, Attempt}
use Rattle.fort_core.specs.declared.program.Program.{Program}
use Rattle.fort_core.specs.declared.term.Term.{Term, Asleep}
use Rattle.fort_core.specs.declared.term.Term as term
use Rattle.fort_core.specs.declared.value.Value.{Value}
use Rattle.fort_machine.specs.Effects.{Store, Effect, reading, writing, making, FitsAll, afterwards}
use Rattle.fort_machine.specs.Ends.{throw_of}
use Rattle.fort_machine.specs.Frames.{Frame, plug, passed, trodden}
use Rattle.fort_machine.specs.Acts.{ends, single}
use Rattle.fort_machine.specs.Steps.{Acts, Local}
use Rattle.fort_machine.specs.Attempts.{Form, Ended, goes, aborts}
use Rattle.fort_machine.specs.Marked.{Marks}
use Rattle.fort_machine.specs.Runs.{Runs, path_to, location}

-- A store with a value at one location.
abbrev pub put : ℕ → Value → Store → Store
put l v s = λ k. if l == k then Some v else s k

-- A store with values at consecutive locations.
abbrev pub put_from : ℕ → List Value → Store → Store
put_from l [] s = s
put_from l (v ∷ vs) s = put l v (put_from (l + 1) vs s)

-- A read asks that the value is there, and leaves the store as it is.
abbrev pub ReadsPlainly : Type 0
ReadsPlainly = (l : ℕ) (v : Value) (s : Store)
    → (FitsAll (reading l v) s ↔ (s l ≡ Some v)) × (afterwards (reading l v) s ≡ s)

-- A write asks that a value is there, and puts its own in its place.
abbrev pub WritesPlainly : Type 0
WritesPlainly = (l : ℕ) (v : Value) (s : Store)
    → (FitsAll (writing l v) s ↔ ((w : Value) × (s l ≡ Some w)))
    × (afterwards (writing l v) s ≡ put l v s)

-- What makes locations asks that none of them is there, and puts the values into them.
abbrev pub MakesPlainly : Type 0
MakesPlainly = (l : ℕ) (vs : List Value) (cost : ℕ) (s : Store)
    → (FitsAll (making l vs cost) s ↔ ((n : ℕ) → n < length vs → s (l + n) ≡ None))
    × (afterwards (making l vs cost) s ≡ put_from l vs s)

-- How an attempt from a store, whose inner run ended with another one, leaves the store and the
-- output; what a sleeper watches is left open.
pub data PlainlyCloses (p : Program) (m : Mode) (body : Term) (s s1 : Store) (o1 : List ℕ)
    (r : Ended) (b : Term) (s2 : Store) (o2 : List ℕ) : Type 0 where
  completed : (v : Value) → r ≡ goes (term.Value v) → b ≡ term.Value v → s2 ≡ s1 → o2 ≡ o1
      → PlainlyCloses p m body s s1 o1 r b s2 o2
  failed : (v : Value) → r ≡ goes (throw_of v) → b ≡ throw_of v
      → ((l : ℕ) (w : Value) → s l ≡ Some w → s2 l ≡ Some w) → ((l : ℕ) → s l ≡ None → s2 l ≡ s1 l)
      → o2 ≡ []
      → PlainlyCloses p m body s s1 o1 r b s2 o2
  gave_up : (v : Value) → r ≡ aborts → m ≡ mode.Try
      → single p p.built_in.try_atomic_failure ≡ Some v → b ≡ throw_of v → s2 ≡ s → o2 ≡ []
      → PlainlyCloses p m body s s1 o1 r b s2 o2
  fell_asleep : (marks : Marks) → r ≡ aborts → m ≡ mode.Atomic → b ≡ Asleep marks body → s2 ≡ s
      → o2 ≡ [] → PlainlyCloses p m body s s1 o1 r b s2 o2

-- A run as stores before and after, output and cost.
pub data Plain (p : Program) : (inner : Bool) (picks : List Pick) (s : Store) (t : Term) (r : Ended)
    (s' : Store) (output : List ℕ) (cost : ℕ) → Type 0 where
  none : {inner : Bool} {picks : List Pick} {s s' : Store} {t : Term} {r : Ended} {output : List ℕ}
      {cost : ℕ}
      → picks ≡ [] → r ≡ goes t → s' ≡ s → output ≡ [] → cost ≡ 0
      → Plain p inner picks s t r s' output cost
  step : {inner : Bool} {picks rest : List Pick} {s s1 s' : Store} {t a b : Term} {r : Ended}
      {output o : List ℕ} {cost n : ℕ} {d : Effect} {loc : ℕ} (fs : List Frame)
      → picks ≡ Step (path_to fs) (location loc) ∷ rest → t ≡ plug fs a → passed fs a ≡ false
      → Local p inner loc a b d → FitsAll d s → s1 ≡ afterwards d s
      → Plain p inner rest s1 (plug (trodden fs) b) r s' o n → output ≡ d.output ++ o
      → cost ≡ d.cost + n → Plain p inner picks s t r s' output cost
  stop : {inner : Bool} {picks : List Pick} {s s' : Store} {t a : Term} {r : Ended}
      {output : List ℕ} {cost : ℕ} (fs : List Frame)
      → inner ≡ true → picks ≡ Step (path_to fs) (location 0) ∷ [] → t ≡ plug fs a
      → passed fs a ≡ false → Acts p a ends → r ≡ aborts → s' ≡ s → output ≡ [] → cost ≡ 1
      → Plain p inner picks s t r s' output cost
  attempt : {inner : Bool} {m : Mode} {picks within rest : List Pick} {s s1 s2 s' : Store}
      {t a b body : Term} {ended r : Ended} {output o1 o2 o3 : List ℕ} {cost n1 n3 : ℕ}
      (fs : List Frame)
      → picks ≡ Attempt (path_to fs) within ∷ rest → t ≡ plug fs a → passed fs a ≡ false
      → Form a m body
      → Plain p true within s body ended s1 o1 n1 → PlainlyCloses p m body s s1 o1 ended b s2 o2
      → Plain p inner rest s2 (plug (trodden fs) b) r s' o3 n3 → output ≡ o2 ++ o3
      → cost ≡ 1 + n1 + n3 → Plain p inner picks s t r s' output cost

-- A run is one in the plain reading.
abbrev pub RunsPlainly : Type 0
RunsPlainly = (p : Program) (inner strict : Bool) (s : Store) (picks : List Pick) (t : Term)
    (r : Ended) (d : Effect)
    → Runs p inner strict s picks t r d → Plain p inner picks s t r (afterwards d s) d.output d.cost
