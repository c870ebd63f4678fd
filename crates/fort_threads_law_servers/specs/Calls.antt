-- Chapter "The machine with threads": what the bodies of `spawn'`, `wait`, `val` and `ready` do,
-- pick by pick: the forms of their own, to which calls of these lead.
use Rattle.std.specs.Prelude.{◌≡◌, ℕ, ◌+◌, ◌==◌, ◌≤◌, Bool, true, false, not, [], ◌∷◌, Some, pos}
use Rattle.fort_base.specs.declared.ty.Ty.TheVariants.{Named}
use Rattle.fort_core.specs.declared.form.Mode.TheVariants as mode
use Rattle.fort_core.specs.declared.pick.Pick.{Pick}
use Rattle.fort_core.specs.declared.program.Program.{Program}
use Rattle.fort_core.specs.declared.term.Term.{Term, Throw, Call, Operator, Let, ReadField, Then, If, Atomic, Typecase}
use Rattle.fort_core.specs.declared.term.Term as term
use Rattle.fort_core.specs.declared.term.Term.TheVariants.{Variable}
use Rattle.fort_core.specs.declared.value.Value.{Value, Small, Truth}
use Rattle.fort_machine.specs.Attempts.{goes, Form}
use Rattle.fort_machine.specs.Effects.{Store, Effect, paid, reading, making}
use Rattle.fort_machine.specs.Ends.{throw_of, Finished}
use Rattle.fort_machine.specs.Runs.{Runs}
use Rattle.fort_machine.specs.Types.{has_type}
use Rattle.fort_threads.specs.Moves.{opening_fields}
use Rattle.fort_threads_law_servers.specs.Prelude.{Names, object_of, number, adding_it, adding, waiting, HasPrelude}
use Rattle.fort_threads_law_servers.specs.Stages.{Attempted}

-- `t': Thread' = a; atomic ..; t'`, the body of `spawn'`.
abbrev pub spawning : Names → Term → Term
spawning n a =
    Let ((1, Named n.thread) ∷ []) a
    (Then (Atomic mode.Atomic (adding_it n (Variable 1))) (Variable 1))

-- `typecase x' = a of Exception => throw x'; else => x' end`
abbrev pub throwing : Names → Term → Term
throwing n a = Typecase 1 a ((Throw (Variable 1), n.exception) ∷ []) (Variable 1)

-- A field of the object at a location.
abbrev pub mark_at : Names → ℕ → Term
mark_at n l = ReadField (term.Value (object_of n l)) n.state

abbrev pub kept_at : Names → ℕ → Term
kept_at n l = ReadField (term.Value (object_of n l)) n.value

-- `if a then typecase .. else value' end`, for `a` the comparison of `state'` with 2.
abbrev pub telling : Names → ℕ → Term → Term
telling n l a = If a (throwing n (kept_at n l)) (kept_at n l)

abbrev pub comparing : Names → Term → Term
comparing n a = Operator n.equal (a ∷ number 2 ∷ [])

-- `a; if state' = 2 then .. end`, the body of `val`, where `self.wait()` stands for a.
abbrev pub getting : Names → ℕ → Term → Term
getting n l a = Then a (telling n l (comparing n (mark_at n l)))

-- `a =/= 0`, the body of `ready`, where `state'` stands for a.
abbrev pub asking : Names → Term → Term
asking n a = Operator n.differs (a ∷ number 0 ∷ [])

-- How far such a body is. `spawn'`: it makes an object for a function; has it; is in its attempts;
-- has added the thread, or was refused. `wait`: it is in its attempts. `val`: it calls `wait`; is in
-- its attempts; has waited, or has failed to; reads the mark; compares it with 2; is told; reads what was
-- kept, to throw it where it is an exception, or to give it. `ready`: it reads the mark; compares it
-- with 0. All: it has come to a term.
pub data Place : Type 0 where
  makes_it : (function : Value) → Place
  has_it : (object : ℕ) → Place
  adds : (object : ℕ) (form : Term) → Place
  has_added : (object : ℕ) (value : Value) → Place
  was_refused : (object : ℕ) (thrown : Value) → Place
  waits : (object : ℕ) (form : Term) → Place
  calls_wait : (object : ℕ) → Place
  waits_in : (object : ℕ) (form : Term) → Place
  has_waited : (object : ℕ) (value : Value) → Place
  has_failed : (object : ℕ) (thrown : Value) → Place
  reads_mark : (object : ℕ) → Place
  compares : (object mark : ℕ) → Place
  is_told : (object : ℕ) (threw : Bool) → Place
  reads_thrown : (object : ℕ) → Place
  has_thrown : (thrown : Value) → Place
  reads_kept : (object : ℕ) → Place
  asks_mark : (object : ℕ) → Place
  compares_mark : (mark : ℕ) → Place
  has_come : (end : Term) → Place

-- The term at a place.
abbrev pub place_term : Names → Place → Term
place_term n (makes_it f) = spawning n (Call n.make (term.Value f ∷ []))
place_term n (has_it l) = spawning n (term.Value (object_of n l))
place_term n (adds l form) = Then form (term.Value (object_of n l))
place_term n (has_added l v) = Then (term.Value v) (term.Value (object_of n l))
place_term n (was_refused l v) = Then (throw_of v) (term.Value (object_of n l))
place_term n (waits l form) = form
place_term n (calls_wait l) = getting n l (Call n.wait (term.Value (object_of n l) ∷ []))
place_term n (waits_in l form) = getting n l form
place_term n (has_waited l v) = getting n l (term.Value v)
place_term n (has_failed l v) = getting n l (throw_of v)
place_term n (reads_mark l) = telling n l (comparing n (mark_at n l))
place_term n (compares l k) = telling n l (comparing n (number k))
place_term n (is_told l b) = telling n l (term.Value (Truth b))
place_term n (reads_thrown l) = throwing n (kept_at n l)
place_term n (has_thrown v) = throwing n (term.Value v)
place_term n (reads_kept l) = kept_at n l
place_term n (asks_mark l) = asking n (mark_at n l)
place_term n (compares_mark k) = asking n (number k)
place_term n (has_come t) = t

-- The mark of an object is a small number.
abbrev pub HasMark : Store → ℕ → Type 0
HasMark s l = (k : ℕ) × (k ≤ 64) × (s (l + 1) ≡ Some (Small (pos k)))

-- What there is to a place: the forms of an `atomic` are its own, fresh or asleep, marks that were
-- read are small, and what has come is finished.
abbrev pub IsPlace : Names → Place → Type 0
IsPlace n (adds l form) = Form form mode.Atomic (adding n l)
IsPlace n (waits l form) = Form form mode.Atomic (waiting n l)
IsPlace n (waits_in l form) = Form form mode.Atomic (waiting n l)
IsPlace n (compares l k) = k ≤ 64
IsPlace n (compares_mark k) = k ≤ 64
IsPlace n (has_come t) = Finished t
IsPlace n _ = Unit {0}

-- What a place asks of the store: where the mark is read, that it is small.
abbrev pub Asks : Store → Place → Type 0
Asks s (reads_mark l) = HasMark s l
Asks s (asks_mark l) = HasMark s l
Asks s _ = Unit {0}

-- What `val` comes to, of what was kept of a throw: that throw, where it is an exception.
abbrev pub given : Bool → Value → Term
given true v = throw_of v
given false v = term.Value v

-- A pick leads from a place to a place and does this: rows of a table; no other two places follow
-- one another. `spawn'` comes to the object that it made, behind a completed attempt; `wait` and
-- `val` go on behind a completed attempt of `wait`'s; `val` comes to what was kept, or to its throw
-- where the mark is 2 and it is an exception; `ready` tells whether the mark isn't 0.
abbrev pub Turns : Program → Names → Store → Pick → Effect → Place → Place → Type 0
Turns p n s pick d (makes_it f) (has_it l) = d ≡ making l (opening_fields f) 1
Turns p n s pick d (has_it l) (adds m form) =
    (m ≡ l) × (form ≡ Atomic mode.Atomic (adding n l)) × (d ≡ paid 1)
Turns p n s pick d (adds l form) (adds m next) = (m ≡ l) × Attempted p s (adding n l) next d
Turns p n s pick d (adds l form) (has_added m v) =
    (m ≡ l) × Attempted p s (adding n l) (term.Value v) d
Turns p n s pick d (adds l form) (was_refused m v) =
    (m ≡ l) × Attempted p s (adding n l) (throw_of v) d
Turns p n s pick d (has_added l v) (has_come t) =
    (t ≡ term.Value (object_of n l)) × (d ≡ paid 1)
Turns p n s pick d (was_refused l v) (has_come t) = (t ≡ throw_of v) × (d ≡ paid 1)
Turns p n s pick d (waits l form) (waits m next) = (m ≡ l) × Attempted p s (waiting n l) next d
Turns p n s pick d (waits l form) (has_come t) = Attempted p s (waiting n l) t d
Turns p n s pick d (calls_wait l) (waits_in m form) =
    (m ≡ l) × (form ≡ Atomic mode.Atomic (waiting n l)) × (d ≡ paid 1)
Turns p n s pick d (waits_in l form) (waits_in m next) =
    (m ≡ l) × Attempted p s (waiting n l) next d
Turns p n s pick d (waits_in l form) (has_waited m v) =
    (m ≡ l) × Attempted p s (waiting n l) (term.Value v) d
Turns p n s pick d (waits_in l form) (has_failed m v) =
    (m ≡ l) × Attempted p s (waiting n l) (throw_of v) d
Turns p n s pick d (has_waited l v) (reads_mark m) = (m ≡ l) × (d ≡ paid 1)
Turns p n s pick d (has_failed l v) (has_come t) = (t ≡ throw_of v) × (d ≡ paid 1)
Turns p n s pick d (reads_mark l) (compares m k) =
    (m ≡ l) × (d ≡ reading (l + 1) (Small (pos k)))
Turns p n s pick d (compares l k) (is_told m b) = (m ≡ l) × (b ≡ (k == 2)) × (d ≡ paid 1)
Turns p n s pick d (is_told l true) (reads_thrown m) = (m ≡ l) × (d ≡ paid 1)
Turns p n s pick d (is_told l false) (reads_kept m) = (m ≡ l) × (d ≡ paid 1)
Turns p n s pick d (reads_thrown l) (has_thrown v) = d ≡ reading (l + 2) v
Turns p n s pick d (has_thrown v) (has_come t) =
    (t ≡ given (has_type p v n.exception) v) × (d ≡ paid 1)
Turns p n s pick d (reads_kept l) (has_come t) =
    (v : Value) × (t ≡ term.Value v) × (d ≡ reading (l + 2) v)
Turns p n s pick d (asks_mark l) (compares_mark k) = d ≡ reading (l + 1) (Small (pos k))
Turns p n s pick d (compares_mark k) (has_come t) =
    (t ≡ term.Value (Truth (not (k == 0)))) × (d ≡ paid 1)
Turns p n s pick d _ _ = ⊥

-- Each pick of such a body, on whatever store it comes to in which marks are small, leads from its
-- place to one that follows.
abbrev pub EachCallFollows : Type 0
EachCallFollows = (p : Program) (n : Names) → HasPrelude p n
    → (s : Store) (pick : Pick) (place : Place) (u : Term) (d : Effect)
    → IsPlace n place → Asks s place
    → Runs p false false s (pick ∷ []) (place_term n place) (goes u) d
    → (next : Place) × IsPlace n next × (u ≡ place_term n next) × Turns p n s pick d place next
