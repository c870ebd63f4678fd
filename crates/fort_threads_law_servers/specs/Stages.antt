-- Chapter "The machine with threads": the stages through which a server of the prelude goes, each
-- with its term, and the step from stage to stage. The thread that it runs is a term in one stage.
use Rattle.std.specs.Prelude.{◌≡◌, ℕ, ◌+◌, true, false, List, [], ◌∷◌, pos}
use Rattle.fort_base.specs.declared.ty.Ty.TheVariants.{Named}
use Rattle.fort_core.specs.declared.form.Mode.TheVariants as mode
use Rattle.fort_core.specs.declared.pick.Pick.{Pick}
use Rattle.fort_core.specs.declared.program.Program.{Program}
use Rattle.fort_core.specs.declared.term.Term.{Term, Call, WriteField, Then, Atomic}
use Rattle.fort_core.specs.declared.term.Term as term
use Rattle.fort_core.specs.declared.value.Value.{Value, Small}
use Rattle.fort_machine.specs.Acts.{unit}
use Rattle.fort_machine.specs.Attempts.{Ended, goes, Form, Closes}
use Rattle.fort_machine.specs.Effects.{Store, Effect, paid, reading, writing}
use Rattle.fort_machine.specs.Ends.{throw_of, Finished}
use Rattle.fort_machine.specs.Frames.{Frame, in_then, plug}
use Rattle.fort_machine.specs.Runs.{Runs}
use Rattle.fort_machine.specs.Types.{has_type}
use Rattle.fort_threads.specs.Machine.{applied}
use Rattle.fort_threads_law_servers.specs.Prelude.{Names, object_of, number, taking, choosing, serving, storing, fewer, counting, in_try_of, round, going}

-- How a thread came to its end.
pub data End : Type 0 where
  at_value : (value : Value) → End
  at_throw : (thrown : Value) → End

-- The end as a term, what is kept of it, and the mark that is left with it.
abbrev pub end_term : End → Term
end_term (at_value v) = term.Value v
end_term (at_throw v) = throw_of v

abbrev pub kept_value : End → Value
kept_value (at_value v) = v
kept_value (at_throw v) = v

abbrev pub mark_of : End → ℕ
mark_of (at_value v) = 1
mark_of (at_throw v) = 2

-- A server is called; asks `take'`; is in its attempts; got a value, or a throw; looks whether that
-- is a thread; is sent to `go'`; reads the thread's function; runs the thread, which stands at a
-- term; has caught what the thread threw; keeps its end; has kept it; marks it; has marked it, so
-- that the thread has ended; counts down; is done, at a term. A throw that is no exception is lost.
pub data Stage : Type 0 where
  called : Stage
  asking : Stage
  trying : (form : Term) → Stage
  got : (value : Value) → Stage
  refused : (thrown : Value) → Stage
  looking : (value : Value) → Stage
  sent : (object : ℕ) → Stage
  reads : (object : ℕ) → Stage
  runs : (object : ℕ) (thread : Term) → Stage
  caught : (object : ℕ) (thrown : Value) → Stage
  lost : (thrown : Value) → Stage
  keeps : (object : ℕ) (end : End) → Stage
  has_kept : (object : ℕ) (end : End) → Stage
  marks : (object : ℕ) (end : End) → Stage
  has_marked : (object : ℕ) (end : End) → Stage
  leaves : Stage
  counts : (form : Term) → Stage
  done : (end : Term) → Stage

-- What stands round what is kept: after a value the `try` of `go'` does yet.
abbrev pub round_end : Names → ℕ → End → List Frame
round_end n l (at_value v) = in_then (counting n) ∷ in_try_of n l ∷ []
round_end n l (at_throw v) = in_then (counting n) ∷ []

-- Writes the mark of a thread's end.
abbrev pub marking : Names → ℕ → End → Term
marking n l end = WriteField (term.Value (object_of n l)) n.state (number (mark_of end))

-- The term of a server at a stage.
abbrev pub term_at : Names → Stage → Term
term_at n called = Call n.serve []
term_at n asking = serving n (Call n.take [])
term_at n (trying form) = serving n form
term_at n (got v) = serving n (term.Value v)
term_at n (refused v) = serving n (throw_of v)
term_at n (looking v) = choosing n (term.Value v)
term_at n (sent l) = Call n.go (term.Value (object_of n l) ∷ [])
term_at n (reads l) = going n l
term_at n (runs l t) = plug (round n l) t
term_at n (caught l v) = plug (in_then (counting n) ∷ in_try_of n l ∷ []) (throw_of v)
term_at n (lost v) = Then (throw_of v) (counting n)
term_at n (keeps l end) =
    plug (round_end n l end) (storing n l (term.Value (kept_value end)) (mark_of end))
term_at n (has_kept l end) =
    plug (round_end n l end) (Then (term.Value unit) (marking n l end))
term_at n (marks l end) = plug (round_end n l end) (marking n l end)
term_at n (has_marked l end) = plug (round_end n l end) (term.Value unit)
term_at n leaves = Then (term.Value unit) (counting n)
term_at n (counts form) = form
term_at n (done t) = t

-- What there is to a stage: the forms of both `atomic`s are theirs, fresh or asleep, and what is done
-- is finished.
abbrev pub Stands : Names → Stage → Type 0
Stands n (trying form) = Form form mode.Atomic (taking n)
Stands n (counts form) = Form form mode.Atomic (fewer n)
Stands n (done t) = Finished t
Stands n _ = Unit {0}

-- An attempt of an atomic form with this body, which becomes a term, and does something.
pub record Attempted (p : Program) (s : Store) (body becomes : Term) (d : Effect) : Type 0 where
  pub within : List Pick
  pub ended : Ended
  pub effect : Effect
  pub inside : Runs p true true s within body ended effect
  pub closes : Closes p mode.Atomic body ended effect becomes d

-- A pick of a server leads from a stage to a stage and does this: rows of a table; no other two
-- stages follow one another. In `runs` the pick is one of the thread alone. `go'` reads the
-- thread's function, which is applied to `()` then; keeps the thread's end behind that end alone;
-- and marks it behind that.
abbrev pub Follows : Program → Names → Store → Pick → Effect → Stage → Stage → Type 0
Follows p n s pick d called asking = d ≡ paid 1
Follows p n s pick d asking (trying form) = (form ≡ Atomic mode.Atomic (taking n)) × (d ≡ paid 1)
Follows p n s pick d (trying form) (trying next) = Attempted p s (taking n) next d
Follows p n s pick d (trying form) (got v) = Attempted p s (taking n) (term.Value v) d
Follows p n s pick d (trying form) (refused v) = Attempted p s (taking n) (throw_of v) d
Follows p n s pick d (got v) (looking w) = (w ≡ v) × (d ≡ paid 1)
Follows p n s pick d (refused v) (done t) = (t ≡ throw_of v) × (d ≡ paid 1)
Follows p n s pick d (looking v) (sent l) = (v ≡ object_of n l) × (d ≡ paid 1)
Follows p n s pick d (looking v) (done t) =
    (has_type p v (Named n.thread) ≡ false) × (t ≡ term.Value unit) × (d ≡ paid 1)
Follows p n s pick d (sent l) (reads m) = (m ≡ l) × (d ≡ paid 1)
Follows p n s pick d (reads l) (runs m t) =
    (f : Value) × (m ≡ l) × (t ≡ applied f) × (d ≡ reading l f)
Follows p n s pick d (runs l t) (runs m u) =
    (m ≡ l) × Runs p false false s (pick ∷ []) t (goes u) d
Follows p n s pick d (runs l t) (keeps m (at_value v)) =
    (m ≡ l) × (t ≡ term.Value v) × (d ≡ paid 1)
Follows p n s pick d (runs l t) (caught m v) = (m ≡ l) × (t ≡ throw_of v) × (d ≡ paid 1)
Follows p n s pick d (caught l v) (keeps m (at_throw w)) =
    (m ≡ l) × (w ≡ v) × (has_type p v n.exception ≡ true) × (d ≡ paid 1)
Follows p n s pick d (caught l v) (lost w) =
    (w ≡ v) × (has_type p v n.exception ≡ false) × (d ≡ paid 1)
Follows p n s pick d (lost v) (done t) = (t ≡ throw_of v) × (d ≡ paid 1)
Follows p n s pick d (keeps l end) (has_kept m other) =
    (m ≡ l) × (other ≡ end) × (d ≡ writing (l + 2) (kept_value end))
Follows p n s pick d (has_kept l end) (marks m other) = (m ≡ l) × (other ≡ end) × (d ≡ paid 1)
Follows p n s pick d (marks l end) (has_marked m other) =
    (m ≡ l) × (other ≡ end) × (d ≡ writing (l + 1) (Small (pos (mark_of end))))
Follows p n s pick d (has_marked l (at_value v)) leaves = d ≡ paid 1
Follows p n s pick d (has_marked l (at_throw v)) (counts form) =
    (form ≡ counting n) × (d ≡ paid 1)
Follows p n s pick d leaves (counts form) = (form ≡ counting n) × (d ≡ paid 1)
Follows p n s pick d (counts form) (counts next) = Attempted p s (fewer n) next d
Follows p n s pick d (counts form) (done t) = Attempted p s (fewer n) t d
Follows p n s pick d _ _ = ⊥
