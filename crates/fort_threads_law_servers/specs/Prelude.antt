-- Chapter "Threads that are spawned" of docs/LANGUAGE.md: the bodies of the prelude as terms, and
-- what it is that a program has them. The numbers of their declarations, fields and locations are
-- left open, so that no component has to be translated.
use Rattle.std.specs.Prelude.{◌≡◌, ℕ, ◌+◌, ◌==◌, ◌≤◌, true, false, not, List, [], ◌∷◌, Some, None, pos}
use Rattle.fort_base.specs.declared.ids.DeclId.{DeclId}
use Rattle.fort_base.specs.declared.ids.NameId.{NameId}
use Rattle.fort_base.specs.declared.ids.SetId.{SetId}
use Rattle.fort_base.specs.declared.ids.TypeId.{TypeId}
use Rattle.fort_base.specs.declared.ty.Ty.{Ty}
use Rattle.fort_base.specs.declared.ty.Ty.TheVariants.{Any, Named}
use Rattle.fort_core.specs.declared.form.Mode.TheVariants as mode
use Rattle.fort_core.specs.declared.form.Slot.TheVariants as slot
use Rattle.fort_core.specs.declared.program.CoreDecl.{CoreDecl}
use Rattle.fort_core.specs.declared.program.Program.{Program}
use Rattle.fort_core.specs.declared.term.Term.{Term, Throw, Call, Operator, Apply, Let, Write, ReadField, WriteField, Then, If, Atomic, Typecase}
use Rattle.fort_core.specs.declared.term.Term as term
use Rattle.fort_core.specs.declared.term.Term.TheVariants.{Variable, Read}
use Rattle.fort_core.specs.declared.value.Value.{Value, Small, Truth, Range, Object, out-Value}
use Rattle.fort_machine.specs.Acts.{enters, makes, becomes, ends, unit}
use Rattle.fort_machine.specs.Calls.{Dispatches, by_body}
use Rattle.fort_machine.specs.Forms.{field_of}
use Rattle.fort_machine.specs.Frames.{Frame, in_then, in_try, in_let, plug}
use Rattle.fort_machine.specs.Runs.{location}
use Rattle.fort_machine.specs.Types.{has_type}
use Rattle.fort_threads.specs.Moves.{opening_fields}

-- The numbers that a program has for what the prelude declares and calls: the sets of `serve'`,
-- `take'` and `go'`, of `Thread'` as what makes objects, of `wait` and `val`, and those of `abort`,
-- `+`, `-`, `=`, `=/=`, `>` and `#`; the fields of `Thread'`; the locations of `queue'`, `open'` and
-- `count'`; the types `Thread'` and `Exception`; and the object `TooManyThreads`.
pub record Names : Type 0 where
  pub serve : SetId
  pub take : SetId
  pub go : SetId
  pub make : SetId
  pub wait : SetId
  pub val : SetId
  pub abort : SetId
  pub plus : SetId
  pub minus : SetId
  pub equal : SetId
  pub differs : SetId
  pub greater : SetId
  pub hash : SetId
  pub body : NameId
  pub state : NameId
  pub value : NameId
  pub next : NameId
  pub queue : ℕ
  pub unended : ℕ
  pub count : ℕ
  pub thread : TypeId
  pub exception : Ty
  pub too_many : Value

-- The object of a thread, by its location.
abbrev pub object_of : Names → ℕ → Value
object_of n l = Object n.thread (location l)

-- A small number as a term.
abbrev pub number : ℕ → Term
number k = term.Value (Small (pos k))

-- `typecase x' = a of Thread' => go'(x'); else => () end`, and that behind `q': Any = a`.
abbrev pub choosing : Names → Term → Term
choosing n a =
    Typecase 1 a ((Call n.go (Variable 1 ∷ []), Named n.thread) ∷ []) (term.Value unit)

abbrev pub serving : Names → Term → Term
serving n a = Let ((0, Any) ∷ []) a (choosing n (Variable 0))

-- `if open' > 0 then abort() end`, that as the `else` of `typecase x' = a of Thread' => queue' :=
-- x'.next'`, and the body of the `atomic` in `take'`: `q': Any = queue'`, that of q', and q'.
abbrev pub taking_else : Names → Term
taking_else n =
    If (Operator n.greater (Read (slot.Location (location n.unended)) ∷ number 0 ∷ []))
    (Call n.abort []) (term.Value unit)

abbrev pub taking_from : Names → Term → Term
taking_from n a =
    Typecase 1 a
    ((Write (slot.Location (location n.queue)) (ReadField (Variable 1) n.next), Named n.thread)
    ∷ []) (taking_else n)

abbrev pub taking : Names → Term
taking n =
    Let ((0, Any) ∷ []) (Read (slot.Location (location n.queue)))
    (Then (taking_from n (Variable 0)) (Variable 0))

-- `x += 1` of a variable at the top, by its location.
abbrev pub raising : Names → ℕ → Term
raising n x =
    Write (slot.Location (location x))
    (Operator n.plus (Read (slot.Location (location x)) ∷ number 1 ∷ []))

-- The body of the `atomic` in `spawn'`, for an object or that at a location: `if count' = 64 then throw
-- TooManyThreads end; count' += 1; open' += 1; t'.next' := queue'; queue' := t'`.
abbrev pub refusing : Names → Term → Term
refusing n a = If a (Throw (term.Value n.too_many)) (term.Value unit)

abbrev pub linking : Names → Term → Term
linking n o =
    Then (WriteField o n.next (Read (slot.Location (location n.queue))))
    (Write (slot.Location (location n.queue)) o)

abbrev pub adding_it : Names → Term → Term
adding_it n o =
    Then
    (refusing n (Operator n.equal (Read (slot.Location (location n.count)) ∷ number 64 ∷ [])))
    (Then (raising n n.count) (Then (raising n n.unended) (linking n o)))

abbrev pub adding : Names → ℕ → Term
adding n l = adding_it n (term.Value (object_of n l))

-- `if t'.state' = 0 then abort() end`, the body of the `atomic` in `wait`, for the object at a
-- location.
abbrev pub waiting : Names → ℕ → Term
waiting n l =
    If (Operator n.equal (ReadField (term.Value (object_of n l)) n.state ∷ number 0 ∷ []))
    (Call n.abort []) (term.Value unit)

-- `t'.value' := x; t'.state' := k`, for the thread whose object is at a location.
abbrev pub storing : Names → ℕ → Term → ℕ → Term
storing n l x k =
    Then (WriteField (term.Value (object_of n l)) n.value x)
    (WriteField (term.Value (object_of n l)) n.state (number k))

-- `open' -= 1`, and the `atomic` round it.
abbrev pub fewer : Names → Term
fewer n =
    Write (slot.Location (location n.unended))
    (Operator n.minus (Read (slot.Location (location n.unended)) ∷ number 1 ∷ []))

abbrev pub counting : Names → Term
counting n = Atomic mode.Atomic (fewer n)

-- What `go'` has round the term of a thread that it runs: `r': Any = ..; t'.value' := r'; t'.state'
-- := 1`, in a `try` whose clause is `t'.value' := e'; t'.state' := 2`, and behind it the `atomic`.
abbrev pub in_try_of : Names → ℕ → Frame
in_try_of n l = in_try 2 ((storing n l (Variable 2) 2, n.exception) ∷ []) None

abbrev pub round : Names → ℕ → List Frame
round n l =
    in_then (counting n) ∷ in_try_of n l
    ∷ in_let ((1, Any) ∷ []) (storing n l (Variable 1) 1) ∷ []

-- The body of `go'`: there `(t'.body')()` stands in it.
abbrev pub going : Names → ℕ → Term
going n l =
    plug (round n l) (Apply (ReadField (term.Value (object_of n l)) n.body) (term.Value unit))

-- A call of a set with these values leads to this term: it is the body of the declaration that the
-- call runs.
abbrev pub LeadsTo : Program → SetId → List Value → Term → Type 0
LeadsTo p set values a =
    (c : DeclId) (declared : CoreDecl) → Dispatches p set values c declared
    → (text : Term) × (by_body p declared.body values ≡ enters text a)

-- A program has the prelude by these numbers: its calls lead to these bodies; an object of `Thread'`
-- is made with its function, 0, `()` and `()`, its fields stand behind one another, and nothing else
-- is a `Thread'`; `0#64` is that range, small numbers are added and compared as such, and `abort()`
-- ends its machine; and `count'` isn't at the location of `open'`.
pub record HasPrelude (p : Program) (n : Names) : Type 0 where
  pub serves : LeadsTo p n.serve [] (serving n (Call n.take []))
  pub takes : LeadsTo p n.take [] (Atomic mode.Atomic (taking n))
  pub goes : (l : ℕ) → LeadsTo p n.go (object_of n l ∷ []) (going n l)
  pub waits : (l : ℕ) → LeadsTo p n.wait (object_of n l ∷ []) (Atomic mode.Atomic (waiting n l))
  pub makes_threads : (f : Value) (c : DeclId) (declared : CoreDecl)
      → Dispatches p n.make (f ∷ []) c declared
      → by_body p declared.body (f ∷ [])
      ≡ makes (opening_fields f) (λ l. term.Value (object_of n l)) 1
  pub has_body : (l : ℕ) → field_of p n.body (out-Value (object_of n l)) ≡ Some l
  pub has_state : (l : ℕ) → field_of p n.state (out-Value (object_of n l)) ≡ Some (l + 1)
  pub has_value : (l : ℕ) → field_of p n.value (out-Value (object_of n l)) ≡ Some (l + 2)
  pub has_next : (l : ℕ) → field_of p n.next (out-Value (object_of n l)) ≡ Some (l + 3)
  pub are_threads : (v : Value) → has_type p v (Named n.thread) ≡ true
      → (l : ℕ) × (v ≡ object_of n l)
  pub counts_up : (c : DeclId) (declared : CoreDecl)
      → Dispatches p n.hash (Small (pos 0) ∷ Small (pos 64) ∷ []) c declared
      → by_body p declared.body (Small (pos 0) ∷ Small (pos 64) ∷ [])
      ≡ becomes (term.Value (Range (pos 0) 64))
  pub equals : (a b : ℕ) → a ≤ 64 → b ≤ 64 → (c : DeclId) (declared : CoreDecl)
      → Dispatches p n.equal (Small (pos a) ∷ Small (pos b) ∷ []) c declared
      → by_body p declared.body (Small (pos a) ∷ Small (pos b) ∷ [])
      ≡ becomes (term.Value (Truth (a == b)))
  pub tells_apart : (a : ℕ) → a ≤ 64 → (c : DeclId) (declared : CoreDecl)
      → Dispatches p n.differs (Small (pos a) ∷ Small (pos 0) ∷ []) c declared
      → by_body p declared.body (Small (pos a) ∷ Small (pos 0) ∷ [])
      ≡ becomes (term.Value (Truth (not (a == 0))))
  pub adds_one : (a : ℕ) → a ≤ 65 → (c : DeclId) (declared : CoreDecl)
      → Dispatches p n.plus (Small (pos a) ∷ Small (pos 1) ∷ []) c declared
      → by_body p declared.body (Small (pos a) ∷ Small (pos 1) ∷ [])
      ≡ becomes (term.Value (Small (pos (a + 1))))
  pub apart : (n.count == n.unended) ≡ false
  pub aborts : (c : DeclId) (declared : CoreDecl) → Dispatches p n.abort [] c declared
      → by_body p declared.body [] ≡ ends
