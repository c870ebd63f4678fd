-- Terms of the worked program as data that is computed with: what stands in place of a variable.
use Rattle.std.proofs.Common.{◌≡◌, ℕ, ◌==◌, Bool, true, false, if◌then◌else◌, [], ◌∷◌, None, pos, refl, ap, ◌∙◌}
use Rattle.fort_core.specs.declared.form.Mode.TheVariants as mode
use Rattle.fort_core.specs.declared.form.Order.TheVariants as order
use Rattle.fort_core.specs.declared.form.Span.TheVariants as span
use Rattle.fort_core.specs.declared.term.Term.{Term, Throw, Call, Operator, Apply, Let, Write, ReadField, WriteField, Then, If, Typecase, For, Also, Try, Atomic}
use Rattle.fort_core.specs.declared.term.Term as term
use Rattle.fort_core.specs.declared.term.Term.TheVariants.{Variable, Read, outs-Variable, outs-Apply, outs-Let, outs-For, outs-Also, outs-Try, rolls-Apply, rolls-Let, rolls-For, rolls-Also, rolls-Try}
use Rattle.fort_core.specs.declared.term.Term.TheOpen.{Term-F}
use Rattle.fort_core.specs.declared.value.Closure.{Closure}
use Rattle.fort_core.specs.declared.value.Value.{Value, Small, Truth, Function}
use Rattle.fort_machine.specs.Acts.{unit}
use Rattle.fort_machine.specs.Substitution.{substituted, with_value}
use Rattle.fort_machine.specs.Worked.{set}
use Rattle.fort_machine.proofs.Less.{substituted_out, substituted_value, values_by, closures_by}
use Rattle.fort_machine.proofs.Substituted.{pairs}
use Rattle.fort_threads_law_servers.proofs.Put.{put_then, put_write, put_call, put_calls, put_typecase, put_read, put_write_top, put_read_field, put_if, put_operator, put_throw, put_atomic}
use Rattle.fort_threads_law_worked.specs.Types.{name}
use Rattle.fort_threads_law_worked.specs.Bodies.{at, figure, too_many, function}
use Rattle.fort_threads_law_worked.proofs.Codes.{Code, any, named, ty_of}
use Rattle.fort_threads_law_worked.proofs.Codes as code

-- a call has the declaration by which it is typed
pub data Form : Type 0 where
  variable : (x : ℕ) → Form
  value : (v : Value) → Form
  number : (n : ℕ) → Form
  truth : (b : Bool) → Form
  nothing : Form
  spent : Form
  fn : (n : ℕ) (result : Code) (body : Form) → Form
  throw : (a : Form) → Form
  calls : (s d : ℕ) → Form
  call : (s d : ℕ) (a : Form) → Form
  operator : (s d : ℕ) (a b : Form) → Form
  apply : (a b : Form) → Form
  bind : (x : ℕ) (A : Code) (a b : Form) → Form
  read : (l : ℕ) → Form
  write : (l : ℕ) (a : Form) → Form
  field : (a : Form) (f : ℕ) → Form
  set_field : (a : Form) (f : ℕ) (b : Form) → Form
  seq : (a b : Form) → Form
  choice : (c a b : Form) → Form
  typecase : (x : ℕ) (a b : Form) (A : Code) (c : Form) → Form
  loop : (x : ℕ) (a b : Form) → Form
  also : (a b : Form) → Form
  catching : (a : Form) (x : ℕ) (b : Form) (A : Code) → Form
  atomic : (a : Form) → Form

abbrev pub term_of : Form → Term
term_of (variable x) = Variable x
term_of (value v) = term.Value v
term_of (number n) = figure n
term_of (truth b) = term.Value (Truth b)
term_of nothing = term.Value unit
term_of spent = term.Value too_many
term_of (fn n A a) = term.Value (Function (function n (ty_of A) (term_of a)))
term_of (throw a) = Throw (term_of a)
term_of (calls s d) = Call (set s) []
term_of (call s d a) = Call (set s) (term_of a ∷ [])
term_of (operator s d a b) = Operator (set s) (term_of a ∷ term_of b ∷ [])
term_of (apply a b) = Apply (term_of a) (term_of b)
term_of (bind x A a b) = Let ((x, ty_of A) ∷ []) (term_of a) (term_of b)
term_of (read l) = Read (at l)
term_of (write l a) = Write (at l) (term_of a)
term_of (field a f) = ReadField (term_of a) (name f)
term_of (set_field a f b) = WriteField (term_of a) (name f) (term_of b)
term_of (seq a b) = Then (term_of a) (term_of b)
term_of (choice c a b) = If (term_of c) (term_of a) (term_of b)
term_of (typecase x a b A c) = Typecase x (term_of a) ((term_of b, ty_of A) ∷ []) (term_of c)
term_of (loop x a b) = For order.Parallel span.Whole x (term_of a) (term_of b)
term_of (also a b) = Also (term_of a ∷ term_of b ∷ [])
term_of (catching a x b A) = Try (term_of a) x ((term_of b, ty_of A) ∷ []) None
term_of (atomic a) = Atomic mode.Atomic (term_of a)

-- a value in place of a variable
abbrev pub put : ℕ → Value → Form → Form
put x v (variable y) = if x == y then value v else variable y
put x v (value w) = value w
put x v (number n) = number n
put x v (truth b) = truth b
put x v nothing = nothing
put x v spent = spent
put x v (fn n A a) = fn n A a
put x v (throw a) = throw (put x v a)
put x v (calls s d) = calls s d
put x v (call s d a) = call s d (put x v a)
put x v (operator s d a b) = operator s d (put x v a) (put x v b)
put x v (apply a b) = apply (put x v a) (put x v b)
put x v (bind y A a b) = bind y A (put x v a) (put x v b)
put x v (read l) = read l
put x v (write l a) = write l (put x v a)
put x v (field a f) = field (put x v a) f
put x v (set_field a f b) = set_field (put x v a) f (put x v b)
put x v (seq a b) = seq (put x v a) (put x v b)
put x v (choice c a b) = choice (put x v c) (put x v a) (put x v b)
put x v (typecase y a b A c) = typecase y (put x v a) (put x v b) A (put x v c)
put x v (loop y a b) = loop y (put x v a) (put x v b)
put x v (also a b) = also (put x v a) (put x v b)
put x v (catching a y b A) = catching (put x v a) y (put x v b) A
put x v (atomic a) = atomic (put x v a)

module _ (x : ℕ) (v : Value) where
  abbrev put_at : Term-F Term Value Closure → Term
  put_at y = with_value x v (pairs (substituted x v) (values_by x v) (closures_by x v) y)

  chosen : (y : ℕ) (b : Bool)
      → (if b then term.Value v else Variable y) ≡ term_of (if b then value v else variable y)
  chosen y true = refl
  chosen y false = refl

  pub put_is : (f : Form) → substituted x v (term_of f) ≡ term_of (put x v f)
  put_is (variable y) =
      substituted_out x v (Variable y) ∙ ap put_at (outs-Variable y) ∙ chosen y (x == y)
  put_is (value w) = substituted_value x v w
  put_is (number n) = substituted_value x v (Small (pos n))
  put_is (truth b) = substituted_value x v (Truth b)
  put_is nothing = substituted_value x v unit
  put_is spent = substituted_value x v too_many
  put_is (fn n A a) = substituted_value x v (Function (function n (ty_of A) (term_of a)))
  put_is (throw a) = put_throw x v (term_of a) ∙ ap Throw (put_is a)
  put_is (calls s d) = put_calls x v (set s)
  put_is (call s d a) = put_call x v (set s) (term_of a) ∙ (λ i. Call (set s) (put_is a i ∷ []))
  put_is (operator s d a b) =
      put_operator x v (set s) (term_of a) (term_of b)
      ∙ (λ i. Operator (set s) (put_is a i ∷ put_is b i ∷ []))
  put_is (apply a b) =
      substituted_out x v (Apply (term_of a) (term_of b))
      ∙ ap put_at (outs-Apply (term_of a) (term_of b))
      ∙ rolls-Apply (substituted x v (term_of a)) (substituted x v (term_of b))
      ∙ (λ i. Apply (put_is a i) (put_is b i))
  put_is (bind y A a b) =
      substituted_out x v (Let ((y, ty_of A) ∷ []) (term_of a) (term_of b))
      ∙ ap put_at (outs-Let ((y, ty_of A) ∷ []) (term_of a) (term_of b))
      ∙ rolls-Let ((y, ty_of A) ∷ []) (substituted x v (term_of a)) (substituted x v (term_of b))
      ∙ (λ i. Let ((y, ty_of A) ∷ []) (put_is a i) (put_is b i))
  put_is (read l) = put_read x v l
  put_is (write l a) = put_write_top x v l (term_of a) ∙ ap (Write (at l)) (put_is a)
  put_is (field a f) =
      put_read_field x v (term_of a) (name f) ∙ (λ i. ReadField (put_is a i) (name f))
  put_is (set_field a f b) =
      put_write x v (term_of a) (name f) (term_of b)
      ∙ (λ i. WriteField (put_is a i) (name f) (put_is b i))
  put_is (seq a b) =
      put_then x v (term_of a) (term_of b) ∙ (λ i. Then (put_is a i) (put_is b i))
  put_is (choice c a b) =
      put_if x v (term_of c) (term_of a) (term_of b)
      ∙ (λ i. If (put_is c i) (put_is a i) (put_is b i))
  put_is (typecase y a b A c) =
      put_typecase x v y (term_of a) (term_of b) (term_of c) (ty_of A)
      ∙ (λ i. Typecase y (put_is a i) ((put_is b i, ty_of A) ∷ []) (put_is c i))
  put_is (loop y a b) =
      substituted_out x v (For order.Parallel span.Whole y (term_of a) (term_of b))
      ∙ ap put_at (outs-For order.Parallel span.Whole y (term_of a) (term_of b))
      ∙ rolls-For order.Parallel span.Whole y (substituted x v (term_of a))
      (substituted x v (term_of b))
      ∙ (λ i. For order.Parallel span.Whole y (put_is a i) (put_is b i))
  put_is (also a b) =
      substituted_out x v (Also (term_of a ∷ term_of b ∷ []))
      ∙ ap put_at (outs-Also (term_of a ∷ term_of b ∷ []))
      ∙ rolls-Also (substituted x v (term_of a) ∷ substituted x v (term_of b) ∷ [])
      ∙ (λ i. Also (put_is a i ∷ put_is b i ∷ []))
  put_is (catching a y b A) =
      substituted_out x v (Try (term_of a) y ((term_of b, ty_of A) ∷ []) None)
      ∙ ap put_at (outs-Try (term_of a) y ((term_of b, ty_of A) ∷ []) None)
      ∙ rolls-Try (substituted x v (term_of a)) y
      ((substituted x v (term_of b), ty_of A) ∷ []) None
      ∙ (λ i. Try (put_is a i) y ((put_is b i, ty_of A) ∷ []) None)
  put_is (atomic a) = put_atomic x v mode.Atomic (term_of a) ∙ ap (Atomic mode.Atomic) (put_is a)

-- the bodies
abbrev pub wait_form : Form
wait_form =
    atomic (choice (operator 19 41 (field (variable 0) 20) (number 0)) (calls 33 65) nothing)

abbrev pub ready_form : Form
ready_form = operator 20 45 (field (variable 0) 20) (number 0)

abbrev pub val_form : Form
val_form =
    seq (call 37 70 (variable 0))
    (choice (operator 19 41 (field (variable 0) 20) (number 2))
    (typecase 1 (field (variable 0) 21) (throw (variable 1)) (named 1) (variable 1))
    (field (variable 0) 21))

abbrev pub raise_form : ℕ → Form
raise_form l = write l (operator 0 0 (read l) (number 1))

abbrev pub adding_form : Form
adding_form =
    seq (choice (operator 19 41 (read 2) (number 64)) (throw spent) nothing)
    (seq (raise_form 2)
    (seq (raise_form 1)
    (seq (set_field (variable 1) 22 (read 0)) (write 0 (variable 1)))))

abbrev pub spawn_form : Form
spawn_form =
    bind 1 (named 19) (call 40 75 (variable 0)) (seq (atomic adding_form) (variable 1))

abbrev pub take_form : Form
take_form =
    atomic
    (bind 0 any (read 0)
    (seq
    (typecase 1 (variable 0) (write 0 (field (variable 1) 22)) (named 19)
    (choice (operator 23 53 (read 1) (number 0)) (calls 33 65) nothing))
    (variable 0)))

abbrev pub storing_form : Form → ℕ → Form
storing_form a k = seq (set_field (variable 0) 21 a) (set_field (variable 0) 20 (number k))

abbrev pub go_form : Form
go_form =
    seq
    (catching
    (bind 1 any (apply (field (variable 0) 19) nothing) (storing_form (variable 1) 1))
    2 (storing_form (variable 2) 2) (named 1))
    (atomic (write 1 (operator 1 2 (read 1) (number 1))))

abbrev pub serve_form : Form
serve_form =
    bind 0 any (calls 42 77) (typecase 1 (variable 0) (call 43 78 (variable 1)) (named 19) nothing)

abbrev pub main_form : Form
main_form =
    choice (read 3) (apply (variable 0) nothing)
    (seq (write 3 (truth true))
    (seq (write 1 (number 1))
    (bind 1 (named 19) (call 40 75 (variable 0))
    (seq
    (also (call 43 78 (variable 1)) (loop 2 (operator 30 62 (number 0) (number 64)) (calls 44 79)))
    (bind 3 any (call 39 74 (variable 1)) nothing)))))

abbrev pub run_form : Form
run_form = call 45 80 (fn 0 code.nothing (calls 47 82))

abbrev pub own_form : Form
own_form =
    bind 0 (named 18) (call 41 76 (fn 1 (named 2) (operator 4 8 (number 6) (number 7))))
    (call 31 63 (call 39 73 (variable 0)))
