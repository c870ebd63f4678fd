-- Terms of the prelude as data that is computed with: what stands in place of a variable.
use Rattle.std.proofs.Common.{◌≡◌, ℕ, ◌==◌, Bool, true, false, if◌then◌else◌, [], ◌∷◌, None, pos, refl, ap, ◌∙◌}
use Rattle.fort_base.specs.declared.ids.NameId.{NameId}
use Rattle.fort_base.specs.declared.ids.SetId.{SetId}
use Rattle.fort_base.specs.declared.ty.Ty.{Ty}
use Rattle.fort_base.specs.declared.ty.Ty.TheVariants.{Any, Named}
use Rattle.fort_core.specs.declared.form.Mode.TheVariants as mode
use Rattle.fort_core.specs.declared.form.Order.TheVariants as order
use Rattle.fort_core.specs.declared.form.Slot.TheVariants as slot
use Rattle.fort_core.specs.declared.form.Span.TheVariants as span
use Rattle.fort_core.specs.declared.term.Term.{Term, Throw, Call, Operator, Apply, Let, Write, ReadField, WriteField, Then, If, Typecase, For, Also, Try, Atomic}
use Rattle.fort_core.specs.declared.term.Term as term
use Rattle.fort_core.specs.declared.term.Term.TheVariants.{Variable, Read, outs-Variable, outs-Apply, outs-Let, outs-For, outs-Also, outs-Try, rolls-Apply, rolls-Let, rolls-For, rolls-Also, rolls-Try}
use Rattle.fort_core.specs.declared.term.Term.TheOpen.{Term-F}
use Rattle.fort_core.specs.declared.value.Closure.{Closure}
use Rattle.fort_core.specs.declared.value.Value.{Value, Small, Truth}
use Rattle.fort_machine.specs.Acts.{unit}
use Rattle.fort_machine.specs.Runs.{location}
use Rattle.fort_machine.specs.Substitution.{substituted, with_value}
use Rattle.fort_machine.proofs.Less.{substituted_out, substituted_value, values_by, closures_by}
use Rattle.fort_machine.proofs.Substituted.{pairs}
use Rattle.fort_threads_law_servers.specs.Prelude.{Names}
use Rattle.fort_threads_law_servers.specs.Prelude as prelude
use Rattle.fort_threads_law_servers.specs.Roots.{Start}
use Rattle.fort_threads_law_servers.proofs.Put.{put_then, put_write, put_call, put_calls, put_typecase, put_read, put_write_top, put_read_field, put_if, put_operator, put_throw, put_atomic}

pub data Form : Type 0 where
  variable : (x : ℕ) → Form
  value : (v : Value) → Form
  number : (n : ℕ) → Form
  truth : (b : Bool) → Form
  nothing : Form
  throw : (a : Form) → Form
  calls : (s : SetId) → Form
  call : (s : SetId) (a : Form) → Form
  operator : (s : SetId) (a b : Form) → Form
  apply : (a b : Form) → Form
  bind : (x : ℕ) (A : Ty) (a b : Form) → Form
  read : (l : ℕ) → Form
  write : (l : ℕ) (a : Form) → Form
  field : (a : Form) (f : NameId) → Form
  set_field : (a : Form) (f : NameId) (b : Form) → Form
  seq : (a b : Form) → Form
  choice : (c a b : Form) → Form
  typecase : (x : ℕ) (a b : Form) (A : Ty) (c : Form) → Form
  loop : (x : ℕ) (a b : Form) → Form
  also : (a b : Form) → Form
  catching : (a : Form) (x : ℕ) (b : Form) (A : Ty) → Form
  atomic : (a : Form) → Form

abbrev pub term_of : Form → Term
term_of (variable x) = Variable x
term_of (value v) = term.Value v
term_of (number n) = prelude.number n
term_of (truth b) = term.Value (Truth b)
term_of nothing = term.Value unit
term_of (throw a) = Throw (term_of a)
term_of (calls s) = Call s []
term_of (call s a) = Call s (term_of a ∷ [])
term_of (operator s a b) = Operator s (term_of a ∷ term_of b ∷ [])
term_of (apply a b) = Apply (term_of a) (term_of b)
term_of (bind x A a b) = Let ((x, A) ∷ []) (term_of a) (term_of b)
term_of (read l) = Read (slot.Location (location l))
term_of (write l a) = Write (slot.Location (location l)) (term_of a)
term_of (field a f) = ReadField (term_of a) f
term_of (set_field a f b) = WriteField (term_of a) f (term_of b)
term_of (seq a b) = Then (term_of a) (term_of b)
term_of (choice c a b) = If (term_of c) (term_of a) (term_of b)
term_of (typecase x a b A c) = Typecase x (term_of a) ((term_of b, A) ∷ []) (term_of c)
term_of (loop x a b) = For order.Parallel span.Whole x (term_of a) (term_of b)
term_of (also a b) = Also (term_of a ∷ term_of b ∷ [])
term_of (catching a x b A) = Try (term_of a) x ((term_of b, A) ∷ []) None
term_of (atomic a) = Atomic mode.Atomic (term_of a)

-- a value in place of a variable
abbrev pub put : ℕ → Value → Form → Form
put x v (variable y) = if x == y then value v else variable y
put x v (value w) = value w
put x v (number n) = number n
put x v (truth b) = truth b
put x v nothing = nothing
put x v (throw a) = throw (put x v a)
put x v (calls s) = calls s
put x v (call s a) = call s (put x v a)
put x v (operator s a b) = operator s (put x v a) (put x v b)
put x v (apply a b) = apply (put x v a) (put x v b)
put x v (bind y A a b) = bind y A (put x v a) (put x v b)
put x v (read l) = read l
put x v (write l a) = write l (put x v a)
put x v (field a f) = field (put x v a) f
put x v (set_field a f b) = set_field (put x v a) f (put x v b)
put x v (seq a b) = seq (put x v a) (put x v b)
put x v (choice c a b) = choice (put x v c) (put x v a) (put x v b)
put x v (typecase y a b A c) = typecase y (put x v a) (put x v b) A (put x v c)
put x v (loop y a b) = loop y (put x v a) (put x v b)
put x v (also a b) = also (put x v a) (put x v b)
put x v (catching a y b A) = catching (put x v a) y (put x v b) A
put x v (atomic a) = atomic (put x v a)

module _ (x : ℕ) (v : Value) where
  abbrev put_at : Term-F Term Value Closure → Term
  put_at y = with_value x v (pairs (substituted x v) (values_by x v) (closures_by x v) y)

  chosen : (y : ℕ) (b : Bool)
      → (if b then term.Value v else Variable y) ≡ term_of (if b then value v else variable y)
  chosen y true = refl
  chosen y false = refl

  pub put_is : (f : Form) → substituted x v (term_of f) ≡ term_of (put x v f)
  put_is (variable y) =
      substituted_out x v (Variable y) ∙ ap put_at (outs-Variable y) ∙ chosen y (x == y)
  put_is (value w) = substituted_value x v w
  put_is (number n) = substituted_value x v (Small (pos n))
  put_is (truth b) = substituted_value x v (Truth b)
  put_is nothing = substituted_value x v unit
  put_is (throw a) = put_throw x v (term_of a) ∙ ap Throw (put_is a)
  put_is (calls s) = put_calls x v s
  put_is (call s a) = put_call x v s (term_of a) ∙ (λ i. Call s (put_is a i ∷ []))
  put_is (operator s a b) =
      put_operator x v s (term_of a) (term_of b)
      ∙ (λ i. Operator s (put_is a i ∷ put_is b i ∷ []))
  put_is (apply a b) =
      substituted_out x v (Apply (term_of a) (term_of b))
      ∙ ap put_at (outs-Apply (term_of a) (term_of b))
      ∙ rolls-Apply (substituted x v (term_of a)) (substituted x v (term_of b))
      ∙ (λ i. Apply (put_is a i) (put_is b i))
  put_is (bind y A a b) =
      substituted_out x v (Let ((y, A) ∷ []) (term_of a) (term_of b))
      ∙ ap put_at (outs-Let ((y, A) ∷ []) (term_of a) (term_of b))
      ∙ rolls-Let ((y, A) ∷ []) (substituted x v (term_of a)) (substituted x v (term_of b))
      ∙ (λ i. Let ((y, A) ∷ []) (put_is a i) (put_is b i))
  put_is (read l) = put_read x v l
  put_is (write l a) =
      put_write_top x v l (term_of a) ∙ ap (Write (slot.Location (location l))) (put_is a)
  put_is (field a f) =
      put_read_field x v (term_of a) f ∙ (λ i. ReadField (put_is a i) f)
  put_is (set_field a f b) =
      put_write x v (term_of a) f (term_of b)
      ∙ (λ i. WriteField (put_is a i) f (put_is b i))
  put_is (seq a b) =
      put_then x v (term_of a) (term_of b) ∙ (λ i. Then (put_is a i) (put_is b i))
  put_is (choice c a b) =
      put_if x v (term_of c) (term_of a) (term_of b)
      ∙ (λ i. If (put_is c i) (put_is a i) (put_is b i))
  put_is (typecase y a b A c) =
      put_typecase x v y (term_of a) (term_of b) (term_of c) A
      ∙ (λ i. Typecase y (put_is a i) ((put_is b i, A) ∷ []) (put_is c i))
  put_is (loop y a b) =
      substituted_out x v (For order.Parallel span.Whole y (term_of a) (term_of b))
      ∙ ap put_at (outs-For order.Parallel span.Whole y (term_of a) (term_of b))
      ∙ rolls-For order.Parallel span.Whole y (substituted x v (term_of a))
      (substituted x v (term_of b))
      ∙ (λ i. For order.Parallel span.Whole y (put_is a i) (put_is b i))
  put_is (also a b) =
      substituted_out x v (Also (term_of a ∷ term_of b ∷ []))
      ∙ ap put_at (outs-Also (term_of a ∷ term_of b ∷ []))
      ∙ rolls-Also (substituted x v (term_of a) ∷ substituted x v (term_of b) ∷ [])
      ∙ (λ i. Also (put_is a i ∷ put_is b i ∷ []))
  put_is (catching a y b A) =
      substituted_out x v (Try (term_of a) y ((term_of b, A) ∷ []) None)
      ∙ ap put_at (outs-Try (term_of a) y ((term_of b, A) ∷ []) None)
      ∙ rolls-Try (substituted x v (term_of a)) y
      ((substituted x v (term_of b), A) ∷ []) None
      ∙ (λ i. Try (put_is a i) y ((put_is b i, A) ∷ []) None)
  put_is (atomic a) = put_atomic x v mode.Atomic (term_of a) ∙ ap (Atomic mode.Atomic) (put_is a)

-- the bodies
abbrev pub wait_form : Names → Form
wait_form n =
    atomic
    (choice (operator n.equal (field (variable 0) n.state) (number 0)) (calls n.abort) nothing)

abbrev pub ready_form : Names → Form
ready_form n = operator n.differs (field (variable 0) n.state) (number 0)

abbrev pub val_form : Names → Form
val_form n =
    seq (call n.wait (variable 0))
    (choice (operator n.equal (field (variable 0) n.state) (number 2))
    (typecase 1 (field (variable 0) n.value) (throw (variable 1)) n.exception (variable 1))
    (field (variable 0) n.value))

abbrev raise_form : Names → ℕ → Form
raise_form n l = write l (operator n.plus (read l) (number 1))

abbrev adding_form : Names → Form
adding_form n =
    seq (choice (operator n.equal (read n.count) (number 64)) (throw (value n.too_many)) nothing)
    (seq (raise_form n n.count)
    (seq (raise_form n n.unended)
    (seq (set_field (variable 1) n.next (read n.queue)) (write n.queue (variable 1)))))

abbrev pub spawn_form : Names → Form
spawn_form n =
    bind 1 (Named n.thread) (call n.make (variable 0))
    (seq (atomic (adding_form n)) (variable 1))

abbrev storing_form : Names → Form → ℕ → Form
storing_form n a k =
    seq (set_field (variable 0) n.value a) (set_field (variable 0) n.state (number k))

abbrev pub go_form : Names → Form
go_form n =
    seq
    (catching
    (bind 1 Any (apply (field (variable 0) n.body) nothing) (storing_form n (variable 1) 1))
    2 (storing_form n (variable 2) 2) n.exception)
    (atomic (write n.unended (operator n.minus (read n.unended) (number 1))))

abbrev pub main_form : Names → Start → Form
main_form n m =
    choice (read m.started) (apply (variable 0) nothing)
    (seq (write m.started (truth true))
    (seq (write n.unended (number 1))
    (bind 1 (Named n.thread) (call n.make (variable 0))
    (seq
    (also (call n.go (variable 1))
    (loop 2 (operator n.hash (number 0) (number 64)) (calls n.serve)))
    (bind 3 Any (call n.val (variable 1)) nothing)))))
