-- Values in the places of variables, in the forms of the prelude.
use Rattle.std.proofs.Common.{◌≡◌, ℕ, [], ◌∷◌, ap, ◌∙◌}
use Rattle.fort_base.specs.declared.ids.NameId.{NameId}
use Rattle.fort_base.specs.declared.ids.SetId.{SetId}
use Rattle.fort_base.specs.declared.ty.Ty.{Ty}
use Rattle.fort_core.specs.declared.form.Mode.{Mode}
use Rattle.fort_core.specs.declared.form.Slot.TheVariants as slot
use Rattle.fort_core.specs.declared.term.Term.{Term, Throw, Call, Operator, Write, ReadField, WriteField, Then, If, Atomic, Typecase}
use Rattle.fort_core.specs.declared.term.Term as term
use Rattle.fort_core.specs.declared.term.Term.TheVariants.{Variable, Read, outs-Throw, outs-Atomic, outs-Read, outs-Write, outs-ReadField, outs-If, outs-Operator, rolls-Throw, rolls-Atomic, rolls-Read, rolls-Write, rolls-ReadField, rolls-If, rolls-Operator, outs-Variable, outs-Call, outs-WriteField, outs-Then, outs-Typecase, rolls-Call, rolls-WriteField, rolls-Then, rolls-Typecase}
use Rattle.fort_core.specs.declared.term.Term.TheOpen.{Term-F}
use Rattle.fort_core.specs.declared.value.Closure.{Closure}
use Rattle.fort_core.specs.declared.value.Value.{Value}
use Rattle.fort_machine.specs.Runs.{location}
use Rattle.fort_machine.specs.Substitution.{substituted, with_value}
use Rattle.fort_machine.proofs.Less.{substituted_out, substituted_value, values_by, closures_by}
use Rattle.fort_machine.proofs.Substituted.{pairs}
use Rattle.fort_threads_law_servers.specs.Prelude.{Names, object_of, number, storing}

module _ (x : ℕ) (v : Value) where
  abbrev put_at : Term-F Term Value Closure → Term
  put_at y = with_value x v (pairs (substituted x v) (values_by x v) (closures_by x v) y)

  pub put_then : (a b : Term)
      → substituted x v (Then a b) ≡ Then (substituted x v a) (substituted x v b)
  put_then a b =
      substituted_out x v (Then a b) ∙ ap put_at (outs-Then a b)
      ∙ rolls-Then (substituted x v a) (substituted x v b)

  pub put_write : (o : Term) (f : NameId) (a : Term)
      → substituted x v (WriteField o f a) ≡ WriteField (substituted x v o) f (substituted x v a)
  put_write o f a =
      substituted_out x v (WriteField o f a) ∙ ap put_at (outs-WriteField o f a)
      ∙ rolls-WriteField (substituted x v o) f (substituted x v a)

  pub put_call : (set : SetId) (a : Term)
      → substituted x v (Call set (a ∷ [])) ≡ Call set (substituted x v a ∷ [])
  put_call set a =
      substituted_out x v (Call set (a ∷ [])) ∙ ap put_at (outs-Call set (a ∷ []))
      ∙ rolls-Call set (substituted x v a ∷ [])

  pub put_calls : (set : SetId) → substituted x v (Call set []) ≡ Call set []
  put_calls set =
      substituted_out x v (Call set []) ∙ ap put_at (outs-Call set []) ∙ rolls-Call set []

  pub put_typecase : (y : ℕ) (a b c : Term) (ty : Ty)
      → substituted x v (Typecase y a ((b, ty) ∷ []) c)
      ≡ Typecase y (substituted x v a) ((substituted x v b, ty) ∷ []) (substituted x v c)
  put_typecase y a b c ty =
      substituted_out x v (Typecase y a ((b, ty) ∷ []) c)
      ∙ ap put_at (outs-Typecase y a ((b, ty) ∷ []) c)
      ∙ rolls-Typecase y (substituted x v a) ((substituted x v b, ty) ∷ []) (substituted x v c)

  pub put_read : (l : ℕ)
      → substituted x v (Read (slot.Location (location l))) ≡ Read (slot.Location (location l))
  put_read l =
      substituted_out x v (Read (slot.Location (location l)))
      ∙ ap put_at (outs-Read (slot.Location (location l))) ∙ rolls-Read (slot.Location (location l))

  pub put_write_top : (l : ℕ) (a : Term)
      → substituted x v (Write (slot.Location (location l)) a)
      ≡ Write (slot.Location (location l)) (substituted x v a)
  put_write_top l a =
      substituted_out x v (Write (slot.Location (location l)) a)
      ∙ ap put_at (outs-Write (slot.Location (location l)) a)
      ∙ rolls-Write (slot.Location (location l)) (substituted x v a)

  pub put_read_field : (a : Term) (f : NameId)
      → substituted x v (ReadField a f) ≡ ReadField (substituted x v a) f
  put_read_field a f =
      substituted_out x v (ReadField a f) ∙ ap put_at (outs-ReadField a f)
      ∙ rolls-ReadField (substituted x v a) f

  pub put_if : (a b c : Term)
      → substituted x v (If a b c)
      ≡ If (substituted x v a) (substituted x v b) (substituted x v c)
  put_if a b c =
      substituted_out x v (If a b c) ∙ ap put_at (outs-If a b c)
      ∙ rolls-If (substituted x v a) (substituted x v b) (substituted x v c)

  pub put_operator : (set : SetId) (a b : Term)
      → substituted x v (Operator set (a ∷ b ∷ []))
      ≡ Operator set (substituted x v a ∷ substituted x v b ∷ [])
  put_operator set a b =
      substituted_out x v (Operator set (a ∷ b ∷ [])) ∙ ap put_at (outs-Operator set (a ∷ b ∷ []))
      ∙ rolls-Operator set (substituted x v a ∷ substituted x v b ∷ [])

  pub put_throw : (a : Term) → substituted x v (Throw a) ≡ Throw (substituted x v a)
  put_throw a =
      substituted_out x v (Throw a) ∙ ap put_at (outs-Throw a) ∙ rolls-Throw (substituted x v a)

  pub put_atomic : (m : Mode) (a : Term)
      → substituted x v (Atomic m a) ≡ Atomic m (substituted x v a)
  put_atomic m a =
      substituted_out x v (Atomic m a) ∙ ap put_at (outs-Atomic m a)
      ∙ rolls-Atomic m (substituted x v a)

pub put_0 : (v : Value) → substituted 0 v (Variable 0) ≡ term.Value v
put_0 v = substituted_out 0 v (Variable 0) ∙ ap (put_at 0 v) (outs-Variable 0)

pub put_1 : (v : Value) → substituted 1 v (Variable 1) ≡ term.Value v
put_1 v = substituted_out 1 v (Variable 1) ∙ ap (put_at 1 v) (outs-Variable 1)

pub put_2 : (v : Value) → substituted 2 v (Variable 2) ≡ term.Value v
put_2 v = substituted_out 2 v (Variable 2) ∙ ap (put_at 2 v) (outs-Variable 2)

pub put_other : (v : Value) → substituted 0 v (Variable 1) ≡ Variable 1
put_other v = substituted_out 0 v (Variable 1) ∙ ap (put_at 0 v) (outs-Variable 1)

pub put_storing : (n : Names) (x : ℕ) (v : Value) (l : ℕ) (y z : Term) (k : ℕ)
    → substituted x v y ≡ z → substituted x v (storing n l y k) ≡ storing n l z k
put_storing n x v l y z k e =
    let o = term.Value (object_of n l) in
    put_then x v (WriteField o n.value y) (WriteField o n.state (number k))
    ∙ (λ i. Then
    ((put_write x v o n.value y ∙ (λ j. WriteField (substituted_value x v (object_of n l) j) n.value (e j))) i)
    ((put_write x v o n.state (number k)
    ∙ (λ j. WriteField (substituted_value x v (object_of n l) j) n.state (number_stays j))) i))
  where
    number_stays : substituted x v (number k) ≡ number k
    number_stays = substituted_value x v _
