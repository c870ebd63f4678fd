-- Chapter "Threads that are spawned" of docs/LANGUAGE.md: the bodies of the prelude and of the own
-- `run` of a worked program, as docs/TRANSLATION.md gives them:
--
--   run(): () = do
--     t: Thread = spawn 6 7
--     println(t.val())
--   end
use Rattle.std.specs.Prelude.{ℕ, true, List, [], ◌∷◌, ◌++◌, None, pos}
use Rattle.fort_base.specs.declared.ty.Ty.{Ty}
use Rattle.fort_base.specs.declared.ty.Ty.TheVariants.{Any}
use Rattle.fort_core.specs.declared.form.Mode.TheVariants as mode
use Rattle.fort_core.specs.declared.form.Order.TheVariants as order
use Rattle.fort_core.specs.declared.form.Slot.{Slot}
use Rattle.fort_core.specs.declared.form.Slot.TheVariants as slot
use Rattle.fort_core.specs.declared.form.Span.TheVariants as span
use Rattle.fort_core.specs.declared.program.CoreBody.TheVariants as body
use Rattle.fort_core.specs.declared.program.CoreDecl.{CoreDecl}
use Rattle.fort_core.specs.declared.term.Term.{Term, Throw, Call, Operator, Apply, Let, Write, ReadField, WriteField, Then, If, Typecase, For, Also, Try, Atomic}
use Rattle.fort_core.specs.declared.term.Term as term
use Rattle.fort_core.specs.declared.term.Term.TheVariants.{Variable, Read}
use Rattle.fort_core.specs.declared.value.Closure.{Closure}
use Rattle.fort_core.specs.declared.value.Value.{Value, Small, Truth, Object, Function}
use Rattle.fort_machine.specs.Acts.{unit}
use Rattle.fort_machine.specs.Runs.{location}
use Rattle.fort_machine.specs.Worked.{type, set}
use Rattle.fort_threads_law_worked.specs.Types.{unit_type, exception_type, small_type, truth_type, any_thread, thread_type, any_function, unit_function, body_name, state_name, value_name, next_name}
use Rattle.fort_threads_law_worked.specs.Builtin.{built_ins}

-- The variables at the top, by their locations.
abbrev pub at : ℕ → Slot
at l = slot.Location (location l)

abbrev pub queue : Slot
queue = at 0

abbrev pub unended : Slot
unended = at 1

abbrev pub count : Slot
count = at 2

abbrev pub started : Slot
started = at 3

-- A number, and `()`.
abbrev pub figure : ℕ → Term
figure n = term.Value (Small (pos n))

abbrev pub nothing : Term
nothing = term.Value unit

-- The object `TooManyThreads`.
abbrev pub too_many : Value
too_many = Object (type 17) (location 14)

-- Calls and operators, by their sets.
abbrev pub plus : Term → Term → Term
plus a b = Operator (set 0) (a ∷ b ∷ [])

abbrev pub minus : Term → Term → Term
minus a b = Operator (set 1) (a ∷ b ∷ [])

abbrev pub equal : Term → Term → Term
equal a b = Operator (set 19) (a ∷ b ∷ [])

abbrev pub differs : Term → Term → Term
differs a b = Operator (set 20) (a ∷ b ∷ [])

abbrev pub greater : Term → Term → Term
greater a b = Operator (set 23) (a ∷ b ∷ [])

abbrev pub aborting : Term
aborting = Call (set 33) []

-- `if state' = 0 then abort() end`, in an `atomic`: the body of `wait`.
abbrev pub wait_body : Term
wait_body =
    Atomic mode.Atomic
    (If (equal (ReadField (Variable 0) state_name) (figure 0)) aborting nothing)

-- `state' =/= 0`
abbrev pub ready_body : Term
ready_body = differs (ReadField (Variable 0) state_name) (figure 0)

-- `self.wait(); if state' = 2 then typecase x' = value' of Exception => throw x'; else => x' end
-- else value' end`
abbrev pub val_body : Term
val_body =
    Then (Call (set 37) (Variable 0 ∷ []))
    (If (equal (ReadField (Variable 0) state_name) (figure 2))
    (Typecase 1 (ReadField (Variable 0) value_name) ((Throw (Variable 1), exception_type) ∷ [])
    (Variable 1))
    (ReadField (Variable 0) value_name))

-- `t': Thread' = Thread'(b')`, and behind it the `atomic` and `t'`.
abbrev pub raise : Slot → Term
raise x = Write x (plus (Read x) (figure 1))

abbrev pub adding : Term
adding =
    Then (If (equal (Read count) (figure 64)) (Throw (term.Value too_many)) nothing)
    (Then (raise count)
    (Then (raise unended)
    (Then (WriteField (Variable 1) next_name (Read queue)) (Write queue (Variable 1)))))

abbrev pub spawn_body : Term
spawn_body =
    Let ((1, thread_type) ∷ []) (Call (set 40) (Variable 0 ∷ []))
    (Then (Atomic mode.Atomic adding) (Variable 1))

-- `q': Any = queue'; typecase x' = q' of Thread' => queue' := x'.next'; else => if open' > 0 then
-- abort() end end; q'`, in an `atomic`.
abbrev pub take_body : Term
take_body =
    Atomic mode.Atomic
    (Let ((0, Any) ∷ []) (Read queue)
    (Then
    (Typecase 1 (Variable 0) ((Write queue (ReadField (Variable 1) next_name), thread_type) ∷ [])
    (If (greater (Read unended) (figure 0)) aborting nothing))
    (Variable 0)))

-- `t'.value' := x; t'.state' := k`
abbrev pub storing : Term → ℕ → Term
storing x k =
    Then (WriteField (Variable 0) value_name x) (WriteField (Variable 0) state_name (figure k))

-- `try r': Any = (t'.body')(); .. catch e' Exception => .. end`, and behind it `atomic open' -=
-- 1`.
abbrev pub go_body : Term
go_body =
    Then
    (Try
    (Let ((1, Any) ∷ []) (Apply (ReadField (Variable 0) body_name) nothing)
    (storing (Variable 1) 1))
    2 ((storing (Variable 2) 2, exception_type) ∷ []) None)
    (Atomic mode.Atomic (Write unended (minus (Read unended) (figure 1))))

-- `q': Any = take'(); typecase x' = q' of Thread' => go'(x'); else => () end`
abbrev pub serve_body : Term
serve_body =
    Let ((0, Any) ∷ []) (Call (set 42) [])
    (Typecase 1 (Variable 0) ((Call (set 43) (Variable 1 ∷ []), thread_type) ∷ []) nothing)

-- `if started' then b'() else ..`, where behind both assignments and `m': Thread' = Thread'(b')`
-- the blocks stand beside each other, and behind these `r': Any = m'.val()`.
abbrev pub serving : Term
serving =
    For order.Parallel span.Whole 2 (Operator (set 30) (figure 0 ∷ figure 64 ∷ []))
    (Call (set 44) [])

abbrev pub starting : Term
starting =
    Let ((1, thread_type) ∷ []) (Call (set 40) (Variable 0 ∷ []))
    (Then (Also (Call (set 43) (Variable 1 ∷ []) ∷ serving ∷ []))
    (Let ((3, Any) ∷ []) (Call (set 39) (Variable 1 ∷ [])) nothing))

abbrev pub main_body : Term
main_body =
    If (Read started) (Apply (Variable 0) nothing)
    (Then (Write started (term.Value (Truth true))) (Then (Write unended (figure 1)) starting))

-- A function without parameters that holds nothing, by its number, its result and its body.
abbrev pub function : ℕ → Ty → Term → Closure
function n result body =
    record { number = n; parameters = []; result = result; body = body; held = [] }

-- `main'(fn () => run'())`
abbrev pub own_run : Value
own_run = Function (function 0 unit_type (Call (set 47) []))

abbrev pub run_body : Term
run_body = Call (set 45) (term.Value own_run ∷ [])

-- `t: Thread = spawn'(fn () => 6 7); println(t.val())`
abbrev pub product : Value
product = Function (function 1 small_type (Operator (set 4) (figure 6 ∷ figure 7 ∷ [])))

abbrev pub own_body : Term
own_body =
    Let ((0, any_thread) ∷ []) (Call (set 41) (term.Value product ∷ []))
    (Call (set 31) (Call (set 39) (Variable 0 ∷ []) ∷ []))

-- The declarations behind the built-in ones, in the order of their sets.
abbrev pub declared : List Ty → Ty → Term → CoreDecl
declared parameters result t =
    record { parameters = parameters; result = result; body = body.Plain t }

abbrev pub abstract_method : Ty → CoreDecl
abstract_method result =
    record { parameters = any_thread ∷ []; result = result; body = body.Abstract }

abbrev pub thread_decl : CoreDecl
thread_decl =
    record { parameters = any_function ∷ []; result = thread_type; body = body.New (type 19) }

abbrev pub wait_decl : CoreDecl
wait_decl = declared (thread_type ∷ []) unit_type wait_body

abbrev pub ready_decl : CoreDecl
ready_decl = declared (thread_type ∷ []) truth_type ready_body

abbrev pub val_decl : CoreDecl
val_decl = declared (thread_type ∷ []) Any val_body

abbrev pub spawn_decl : CoreDecl
spawn_decl = declared (any_function ∷ []) any_thread spawn_body

abbrev pub take_decl : CoreDecl
take_decl = declared [] Any take_body

abbrev pub go_decl : CoreDecl
go_decl = declared (thread_type ∷ []) unit_type go_body

abbrev pub serve_decl : CoreDecl
serve_decl = declared [] unit_type serve_body

abbrev pub main_decl : CoreDecl
main_decl = declared (unit_function ∷ []) unit_type main_body

abbrev pub run_decl : CoreDecl
run_decl = declared [] unit_type run_body

abbrev pub own_decl : CoreDecl
own_decl = declared [] unit_type own_body

abbrev pub own_decls : List CoreDecl
own_decls = abstract_method unit_type ∷ wait_decl ∷ abstract_method truth_type ∷ ready_decl
    ∷ abstract_method Any ∷ val_decl ∷ thread_decl ∷ spawn_decl ∷ take_decl ∷ go_decl ∷ serve_decl
    ∷ main_decl ∷ run_decl ∷ own_decl ∷ []

abbrev pub decls : List CoreDecl
decls = built_ins ++ own_decls
