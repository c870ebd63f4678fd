-- Chapter "Threads that are spawned" of docs/LANGUAGE.md: the bodies of the prelude as they are
-- written, with their parameter as the variable 0. With an object or a function in its place they
-- are those to which calls lead.
use Rattle.std.specs.Prelude.{ℕ, true, [], ◌∷◌, None}
use Rattle.fort_base.specs.declared.ty.Ty.TheVariants.{Any, Named}
use Rattle.fort_core.specs.declared.form.Mode.TheVariants as mode
use Rattle.fort_core.specs.declared.form.Slot.TheVariants as slot
use Rattle.fort_core.specs.declared.term.Term.{Term, Throw, Call, Operator, Apply, Let, Write, ReadField, WriteField, Then, If, Typecase, Try, Atomic}
use Rattle.fort_core.specs.declared.term.Term as term
use Rattle.fort_core.specs.declared.term.Term.TheVariants.{Variable, Read}
use Rattle.fort_core.specs.declared.value.Value.{Truth}
use Rattle.fort_machine.specs.Acts.{unit}
use Rattle.fort_machine.specs.Runs.{location}
use Rattle.fort_threads_law_servers.specs.Prelude.{Names, number, counting, adding_it}
use Rattle.fort_threads_law_servers.specs.Roots.{Start, making_first}

-- `wait`: `atomic if state' = 0 then abort() end`
abbrev pub wait_text : Names → Term
wait_text n =
    Atomic mode.Atomic
    (If (Operator n.equal (ReadField (Variable 0) n.state ∷ number 0 ∷ []))
    (Call n.abort []) (term.Value unit))

-- `ready`: `state' =/= 0`
abbrev pub ready_text : Names → Term
ready_text n = Operator n.differs (ReadField (Variable 0) n.state ∷ number 0 ∷ [])

-- `val`: `self.wait()`, and behind it what was kept, or its throw
abbrev pub val_text : Names → Term
val_text n =
    Then (Call n.wait (Variable 0 ∷ []))
    (If (Operator n.equal (ReadField (Variable 0) n.state ∷ number 2 ∷ []))
    (Typecase 1 (ReadField (Variable 0) n.value) ((Throw (Variable 1), n.exception) ∷ [])
    (Variable 1))
    (ReadField (Variable 0) n.value))

-- `spawn'`: `t': Thread' = Thread'(b'); atomic ..; t'`
abbrev pub spawn_text : Names → Term
spawn_text n =
    Let ((1, Named n.thread) ∷ []) (Call n.make (Variable 0 ∷ []))
    (Then (Atomic mode.Atomic (adding_it n (Variable 1))) (Variable 1))

-- `go'`: `try r': Any = (t'.body')(); .. catch e' Exception => .. end; atomic open' -= 1`
abbrev pub storing_text : Names → Term → ℕ → Term
storing_text n x k =
    Then (WriteField (Variable 0) n.value x) (WriteField (Variable 0) n.state (number k))

abbrev pub go_text : Names → Term
go_text n =
    Then
    (Try
    (Let ((1, Any) ∷ []) (Apply (ReadField (Variable 0) n.body) (term.Value unit))
    (storing_text n (Variable 1) 1))
    2 ((storing_text n (Variable 2) 2, n.exception) ∷ []) None)
    (counting n)

-- `main'`: `if started' then b'() else ..`
abbrev pub main_text : Names → Start → Term
main_text n m =
    If (Read (slot.Location (location m.started))) (Apply (Variable 0) (term.Value unit))
    (Then (Write (slot.Location (location m.started)) (term.Value (Truth true)))
    (Then (Write (slot.Location (location n.unended)) (number 1))
    (making_first n (Call n.make (Variable 0 ∷ [])))))
