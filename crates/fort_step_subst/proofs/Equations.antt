-- What a substitution gives at each form.
use Rattle.std.proofs.Common.{◌≡◌, ℕ, ◌==◌, if◌then◌else◌, List, [], ◌∷◌, map, Option, Some, None, refl, ap, sym, ◌∙◌}
use mathlib.Core.List.{map-map}
use Rattle.fort_base.specs.declared.ids.SetId.{SetId}
use Rattle.fort_base.specs.declared.ids.NameId.{NameId}
use Rattle.fort_base.specs.declared.ids.Loc.{Loc}
use Rattle.fort_base.specs.declared.ty.Ty.{Ty}
use Rattle.fort_core.specs.declared.form.Mode.{Mode}
use Rattle.fort_core.specs.declared.form.Order.{Order}
use Rattle.fort_core.specs.declared.form.Slot.{Slot}
use Rattle.fort_core.specs.declared.form.Span.{Span}
use Rattle.fort_core.specs.declared.term.Term.{Term, Throw, Group, Fn, Call, Operator, Apply, Fill, Let, Mutable, Write, ReadField, WriteField, ReadElement, WriteElement, Size, Then, If, While, Typecase, For, ForHalves, Reduce, ReduceHalves, Also, Try, Atomic, Asleep, Stepped, para-roll-Term, para-Term}
use Rattle.fort_core.specs.declared.term.Term as term
use Rattle.fort_core.specs.declared.term.Term.TheVariants.{Variable, Read, rolls-Value, rolls-Variable, rolls-Read, rolls-Throw, rolls-Group, rolls-Fn, rolls-Call, rolls-Operator, rolls-Apply, rolls-Fill, rolls-Let, rolls-Mutable, rolls-Write, rolls-ReadField, rolls-WriteField, rolls-ReadElement, rolls-WriteElement, rolls-Size, rolls-Then, rolls-If, rolls-While, rolls-Typecase, rolls-For, rolls-ForHalves, rolls-Reduce, rolls-ReduceHalves, rolls-Also, rolls-Try, rolls-Atomic, rolls-Asleep, rolls-Stepped}
use Rattle.fort_core.specs.declared.term.Term.TheOpen.{Term-F}
use Rattle.fort_core.specs.declared.value.Closure.{Closure, out-Closure, roll-out-Closure, para-Closure, para-roll-Closure}
use Rattle.fort_core.specs.declared.value.Value.{Value, para-Value}
use Rattle.fort_machine.specs.Ends.{group}
use Rattle.fort_machine.specs.Scopes.{function}
use Rattle.fort_machine.specs.Substitution.{Changed, now, with_value, with_location, closure_now, substituted, located, at_location, held_by}
use Rattle.fort_step_subst.specs.declared.put.Put.{Put}
use Rattle.fort_step_subst.specs.declared.put.Put.TheVariants.{Given, Located}
use Rattle.fort_step_subst.specs.Changes.{clauses_by, last_by}
use Rattle.fort_step_subst.specs.Places.{placed, variable_placed, slot_placed, function_with, function_placed}

-- marks keep their values
marks_back : {A : Type 0} (g : Value → A) (ms : List (Loc × Value))
    → map (λ (m : Loc × (Value × A)). (m.0, m.1.0)) (map (λ
    (m : Loc × Value). (m.0, (m.1, g m.1))) ms) ≡ ms
marks_back g [] = refl
marks_back g (m ∷ ms) = ap (λ r. m ∷ r) (marks_back g ms)

-- a closure keeps what it holds
held_back : {A : Type 0} (g : Value → A) (hs : List (ℕ × Value))
    → map (λ (h : ℕ × (Value × A)). (h.0, h.1.0)) (map (λ (h : ℕ × Value). (h.0, (h.1, g h.1))) hs)
    ≡ hs
held_back g [] = refl
held_back g (h ∷ hs) = ap (λ r. h ∷ r) (held_back g hs)

-- clauses, each with the term that becomes of its own
module _ (f : Term → Term) where
  abbrev changed : Term → Changed
  changed t = (t, f t)

  clauses_now : (cs : List (Term × Ty))
      → map (λ (c : Changed × Ty). (now c.0, c.1)) (map (λ (c : Term × Ty). (changed c.0, c.1)) cs)
      ≡ clauses_by f cs
  clauses_now [] = refl
  clauses_now (c ∷ cs) = ap (λ r. (f c.0, c.1) ∷ r) (clauses_now cs)

module _ (x : ℕ) (v : Value) where
  pub subst-Throw : (a : Term) → substituted x v (Throw a) ≡ Throw (substituted x v a)
  unfolding substituted
  subst-Throw a =
      ap (substituted x v) (sym (rolls-Throw a))
      ∙ para-roll-Term Term (Unit {0}) (Unit {0}) (with_value x v) (λ w. tt) (λ c. tt)
      (Term-F.Throw a) ∙ rolls-Throw _

  pub subst-Call : (set : SetId) (ts : List Term)
      → substituted x v (Call set ts) ≡ Call set (map (substituted x v) ts)
  unfolding substituted
  subst-Call set ts =
      ap (substituted x v) (sym (rolls-Call set ts))
      ∙ para-roll-Term Term (Unit {0}) (Unit {0}) (with_value x v) (λ w. tt) (λ c. tt)
      (Term-F.Call set ts) ∙ rolls-Call set _
      ∙ ap (λ z. Call set z) (map-map now (changed (substituted x v)) ts)

  pub subst-Operator : (set : SetId) (ts : List Term)
      → substituted x v (Operator set ts) ≡ Operator set (map (substituted x v) ts)
  unfolding substituted
  subst-Operator set ts =
      ap (substituted x v) (sym (rolls-Operator set ts))
      ∙ para-roll-Term Term (Unit {0}) (Unit {0}) (with_value x v) (λ w. tt) (λ c. tt)
      (Term-F.Operator set ts) ∙ rolls-Operator set _
      ∙ ap (λ z. Operator set z) (map-map now (changed (substituted x v)) ts)

  pub subst-Apply : (a : Term) (b : Term)
      → substituted x v (Apply a b) ≡ Apply (substituted x v a) (substituted x v b)
  unfolding substituted
  subst-Apply a b =
      ap (substituted x v) (sym (rolls-Apply a b))
      ∙ para-roll-Term Term (Unit {0}) (Unit {0}) (with_value x v) (λ w. tt) (λ c. tt)
      (Term-F.Apply a b) ∙ rolls-Apply _ _

  pub subst-Fill : (ty : Ty) (a : Term) (b : Term)
      → substituted x v (Fill ty a b) ≡ Fill ty (substituted x v a) (substituted x v b)
  unfolding substituted
  subst-Fill ty a b =
      ap (substituted x v) (sym (rolls-Fill ty a b))
      ∙ para-roll-Term Term (Unit {0}) (Unit {0}) (with_value x v) (λ w. tt) (λ c. tt)
      (Term-F.Fill ty a b) ∙ rolls-Fill ty _ _

  pub subst-Let : (ys : List (ℕ × Ty)) (a : Term) (b : Term)
      → substituted x v (Let ys a b) ≡ Let ys (substituted x v a) (substituted x v b)
  unfolding substituted
  subst-Let ys a b =
      ap (substituted x v) (sym (rolls-Let ys a b))
      ∙ para-roll-Term Term (Unit {0}) (Unit {0}) (with_value x v) (λ w. tt) (λ c. tt)
      (Term-F.Let ys a b) ∙ rolls-Let ys _ _

  pub subst-Mutable : (y : ℕ) (ty : Ty) (a : Term) (b : Term)
      → substituted x v (Mutable y ty a b) ≡ Mutable y ty (substituted x v a) (substituted x v b)
  unfolding substituted
  subst-Mutable y ty a b =
      ap (substituted x v) (sym (rolls-Mutable y ty a b))
      ∙ para-roll-Term Term (Unit {0}) (Unit {0}) (with_value x v) (λ w. tt) (λ c. tt)
      (Term-F.Mutable y ty a b) ∙ rolls-Mutable y ty _ _

  pub subst-ReadField : (a : Term) (f : NameId)
      → substituted x v (ReadField a f) ≡ ReadField (substituted x v a) f
  unfolding substituted
  subst-ReadField a f =
      ap (substituted x v) (sym (rolls-ReadField a f))
      ∙ para-roll-Term Term (Unit {0}) (Unit {0}) (with_value x v) (λ w. tt) (λ c. tt)
      (Term-F.ReadField a f) ∙ rolls-ReadField _ f

  pub subst-WriteField : (a : Term) (f : NameId) (b : Term)
      → substituted x v (WriteField a f b) ≡ WriteField (substituted x v a) f (substituted x v b)
  unfolding substituted
  subst-WriteField a f b =
      ap (substituted x v) (sym (rolls-WriteField a f b))
      ∙ para-roll-Term Term (Unit {0}) (Unit {0}) (with_value x v) (λ w. tt) (λ c. tt)
      (Term-F.WriteField a f b) ∙ rolls-WriteField _ f _

  pub subst-ReadElement : (a : Term) (b : Term)
      → substituted x v (ReadElement a b) ≡ ReadElement (substituted x v a) (substituted x v b)
  unfolding substituted
  subst-ReadElement a b =
      ap (substituted x v) (sym (rolls-ReadElement a b))
      ∙ para-roll-Term Term (Unit {0}) (Unit {0}) (with_value x v) (λ w. tt) (λ c. tt)
      (Term-F.ReadElement a b) ∙ rolls-ReadElement _ _

  pub subst-WriteElement : (a : Term) (b : Term) (c : Term)
      → substituted x v (WriteElement a b c)
      ≡ WriteElement (substituted x v a) (substituted x v b) (substituted x v c)
  unfolding substituted
  subst-WriteElement a b c =
      ap (substituted x v) (sym (rolls-WriteElement a b c))
      ∙ para-roll-Term Term (Unit {0}) (Unit {0}) (with_value x v) (λ w. tt) (λ c. tt)
      (Term-F.WriteElement a b c) ∙ rolls-WriteElement _ _ _

  pub subst-Size : (a : Term) → substituted x v (Size a) ≡ Size (substituted x v a)
  unfolding substituted
  subst-Size a =
      ap (substituted x v) (sym (rolls-Size a))
      ∙ para-roll-Term Term (Unit {0}) (Unit {0}) (with_value x v) (λ w. tt) (λ c. tt)
      (Term-F.Size a) ∙ rolls-Size _

  pub subst-Then : (a : Term) (b : Term)
      → substituted x v (Then a b) ≡ Then (substituted x v a) (substituted x v b)
  unfolding substituted
  subst-Then a b =
      ap (substituted x v) (sym (rolls-Then a b))
      ∙ para-roll-Term Term (Unit {0}) (Unit {0}) (with_value x v) (λ w. tt) (λ c. tt)
      (Term-F.Then a b) ∙ rolls-Then _ _

  pub subst-If : (a : Term) (b : Term) (c : Term)
      → substituted x v (If a b c) ≡ If (substituted x v a) (substituted x v b) (substituted x v c)
  unfolding substituted
  subst-If a b c =
      ap (substituted x v) (sym (rolls-If a b c))
      ∙ para-roll-Term Term (Unit {0}) (Unit {0}) (with_value x v) (λ w. tt) (λ c. tt)
      (Term-F.If a b c) ∙ rolls-If _ _ _

  pub subst-While : (a : Term) (b : Term)
      → substituted x v (While a b) ≡ While (substituted x v a) (substituted x v b)
  unfolding substituted
  subst-While a b =
      ap (substituted x v) (sym (rolls-While a b))
      ∙ para-roll-Term Term (Unit {0}) (Unit {0}) (with_value x v) (λ w. tt) (λ c. tt)
      (Term-F.While a b) ∙ rolls-While _ _

  pub subst-Typecase : (y : ℕ) (a : Term) (cs : List (Term × Ty)) (b : Term)
      → substituted x v (Typecase y a cs b)
      ≡ Typecase y (substituted x v a) (clauses_by (substituted x v) cs) (substituted x v b)
  unfolding substituted
  subst-Typecase y a cs b =
      ap (substituted x v) (sym (rolls-Typecase y a cs b))
      ∙ para-roll-Term Term (Unit {0}) (Unit {0}) (with_value x v) (λ w. tt) (λ c. tt)
      (Term-F.Typecase y a cs b) ∙ rolls-Typecase y _ _ _
      ∙ ap (λ z. Typecase y (substituted x v a) z (substituted x v b))
      (clauses_now (substituted x v) cs)

  pub subst-For : (o : Order) (s : Span) (y : ℕ) (a : Term) (b : Term)
      → substituted x v (For o s y a b) ≡ For o s y (substituted x v a) (substituted x v b)
  unfolding substituted
  subst-For o s y a b =
      ap (substituted x v) (sym (rolls-For o s y a b))
      ∙ para-roll-Term Term (Unit {0}) (Unit {0}) (with_value x v) (λ w. tt) (λ c. tt)
      (Term-F.For o s y a b) ∙ rolls-For o s y _ _

  pub subst-ForHalves : (a : Term) (b : Term)
      → substituted x v (ForHalves a b) ≡ ForHalves (substituted x v a) (substituted x v b)
  unfolding substituted
  subst-ForHalves a b =
      ap (substituted x v) (sym (rolls-ForHalves a b))
      ∙ para-roll-Term Term (Unit {0}) (Unit {0}) (with_value x v) (λ w. tt) (λ c. tt)
      (Term-F.ForHalves a b) ∙ rolls-ForHalves _ _

  pub subst-Reduce : (o : Order) (s : Span) (set : SetId) (a : Term) (y : ℕ) (b : Term) (c : Term)
      → substituted x v (Reduce o s set a y b c)
      ≡ Reduce o s set (substituted x v a) y (substituted x v b) (substituted x v c)
  unfolding substituted
  subst-Reduce o s set a y b c =
      ap (substituted x v) (sym (rolls-Reduce o s set a y b c))
      ∙ para-roll-Term Term (Unit {0}) (Unit {0}) (with_value x v) (λ w. tt) (λ c. tt)
      (Term-F.Reduce o s set a y b c) ∙ rolls-Reduce o s set _ y _ _

  pub subst-ReduceHalves : (set : SetId) (a : Term) (b : Term)
      → substituted x v (ReduceHalves set a b)
      ≡ ReduceHalves set (substituted x v a) (substituted x v b)
  unfolding substituted
  subst-ReduceHalves set a b =
      ap (substituted x v) (sym (rolls-ReduceHalves set a b))
      ∙ para-roll-Term Term (Unit {0}) (Unit {0}) (with_value x v) (λ w. tt) (λ c. tt)
      (Term-F.ReduceHalves set a b) ∙ rolls-ReduceHalves set _ _

  pub subst-Also : (ts : List Term) → substituted x v (Also ts) ≡ Also (map (substituted x v) ts)
  unfolding substituted
  subst-Also ts =
      ap (substituted x v) (sym (rolls-Also ts))
      ∙ para-roll-Term Term (Unit {0}) (Unit {0}) (with_value x v) (λ w. tt) (λ c. tt)
      (Term-F.Also ts) ∙ rolls-Also _
      ∙ ap (λ z. Also z) (map-map now (changed (substituted x v)) ts)

  pub subst-Atomic : (m : Mode) (a : Term)
      → substituted x v (Atomic m a) ≡ Atomic m (substituted x v a)
  unfolding substituted
  subst-Atomic m a =
      ap (substituted x v) (sym (rolls-Atomic m a))
      ∙ para-roll-Term Term (Unit {0}) (Unit {0}) (with_value x v) (λ w. tt) (λ c. tt)
      (Term-F.Atomic m a) ∙ rolls-Atomic m _

  pub subst-Stepped : (a : Term) → substituted x v (Stepped a) ≡ Stepped (substituted x v a)
  unfolding substituted
  subst-Stepped a =
      ap (substituted x v) (sym (rolls-Stepped a))
      ∙ para-roll-Term Term (Unit {0}) (Unit {0}) (with_value x v) (λ w. tt) (λ c. tt)
      (Term-F.Stepped a) ∙ rolls-Stepped _

  pub subst-Value : (w : Value) → substituted x v (term.Value w) ≡ term.Value w
  unfolding substituted
  subst-Value w =
      ap (substituted x v) (sym (rolls-Value w))
      ∙ para-roll-Term Term (Unit {0}) (Unit {0}) (with_value x v) (λ w. tt) (λ c. tt)
      (Term-F.Value w) ∙ rolls-Value w

  pub subst-Group : (ts : List Term) → substituted x v (Group ts) ≡ group (map (substituted x v) ts)
  unfolding substituted
  subst-Group ts =
      ap (substituted x v) (sym (rolls-Group ts))
      ∙ para-roll-Term Term (Unit {0}) (Unit {0}) (with_value x v) (λ w. tt) (λ c. tt)
      (Term-F.Group ts) ∙ ap group (map-map now (changed (substituted x v)) ts)

  pub subst-Variable : (y : ℕ)
      → substituted x v (Variable y) ≡ (if x == y then term.Value v else Variable y)
  unfolding substituted
  subst-Variable y =
      ap (substituted x v) (sym (rolls-Variable y))
      ∙ para-roll-Term Term (Unit {0}) (Unit {0}) (with_value x v) (λ w. tt) (λ c. tt)
      (Term-F.Variable y)

  pub subst-Read : (s : Slot) → substituted x v (Read s) ≡ Read s
  unfolding substituted
  subst-Read s =
      ap (substituted x v) (sym (rolls-Read s))
      ∙ para-roll-Term Term (Unit {0}) (Unit {0}) (with_value x v) (λ w. tt) (λ c. tt)
      (Term-F.Read s) ∙ rolls-Read s

  pub subst-Write : (s : Slot) (a : Term)
      → substituted x v (Write s a) ≡ Write s (substituted x v a)
  unfolding substituted
  subst-Write s a =
      ap (substituted x v) (sym (rolls-Write s a))
      ∙ para-roll-Term Term (Unit {0}) (Unit {0}) (with_value x v) (λ w. tt) (λ c. tt)
      (Term-F.Write s a) ∙ rolls-Write s _

  pub subst-Fn : (c : Closure) → substituted x v (Fn c) ≡ function (held_by x v c)
  unfolding substituted
  subst-Fn c =
      ap (substituted x v) (sym (rolls-Fn c))
      ∙ para-roll-Term Term (Unit {0}) (Unit {0}) (with_value x v) (λ w. tt) (λ c. tt) (Term-F.Fn c)

  pub subst-Asleep : (ms : List (Loc × Value)) (a : Term)
      → substituted x v (Asleep ms a) ≡ Asleep ms (substituted x v a)
  unfolding substituted
  subst-Asleep ms a =
      ap (substituted x v) (sym (rolls-Asleep ms a))
      ∙ para-roll-Term Term (Unit {0}) (Unit {0}) (with_value x v) (λ w. tt) (λ c. tt)
      (Term-F.Asleep ms a) ∙ rolls-Asleep _ _
      ∙ ap (λ z. Asleep z (substituted x v a))
      (marks_back (para-Value Term (Unit {0}) (Unit {0}) (with_value x v) (λ w. tt) (λ c. tt)) ms)

  pub subst-TryNone : (a : Term) (y : ℕ) (cs : List (Term × Ty))
      → substituted x v (Try a y cs None)
      ≡ Try (substituted x v a) y (clauses_by (substituted x v) cs) None
  unfolding substituted
  subst-TryNone a y cs =
      ap (substituted x v) (sym (rolls-Try a y cs None))
      ∙ para-roll-Term Term (Unit {0}) (Unit {0}) (with_value x v) (λ w. tt) (λ c. tt)
      (Term-F.Try a y cs None) ∙ rolls-Try _ _ _ _
      ∙ ap (λ z. Try (substituted x v a) y z None) (clauses_now (substituted x v) cs)

  pub subst-TrySome : (a : Term) (y : ℕ) (cs : List (Term × Ty)) (b : Term)
      → substituted x v (Try a y cs (Some b))
      ≡ Try (substituted x v a) y (clauses_by (substituted x v) cs) (Some (substituted x v b))
  unfolding substituted
  subst-TrySome a y cs b =
      ap (substituted x v) (sym (rolls-Try a y cs (Some b)))
      ∙ para-roll-Term Term (Unit {0}) (Unit {0}) (with_value x v) (λ w. tt) (λ c. tt)
      (Term-F.Try a y cs (Some b)) ∙ rolls-Try _ _ _ _
      ∙ ap (λ z. Try (substituted x v a) y z (Some (substituted x v b)))
      (clauses_now (substituted x v) cs)

module _ (x l : ℕ) where
  pub locate-Throw : (a : Term) → located x l (Throw a) ≡ Throw (located x l a)
  unfolding located
  locate-Throw a =
      ap (located x l) (sym (rolls-Throw a))
      ∙ para-roll-Term Term (Unit {0}) Closure (with_location x l) (λ w. tt) closure_now
      (Term-F.Throw a) ∙ rolls-Throw _

  pub locate-Call : (set : SetId) (ts : List Term)
      → located x l (Call set ts) ≡ Call set (map (located x l) ts)
  unfolding located
  locate-Call set ts =
      ap (located x l) (sym (rolls-Call set ts))
      ∙ para-roll-Term Term (Unit {0}) Closure (with_location x l) (λ w. tt) closure_now
      (Term-F.Call set ts) ∙ rolls-Call set _
      ∙ ap (λ z. Call set z) (map-map now (changed (located x l)) ts)

  pub locate-Operator : (set : SetId) (ts : List Term)
      → located x l (Operator set ts) ≡ Operator set (map (located x l) ts)
  unfolding located
  locate-Operator set ts =
      ap (located x l) (sym (rolls-Operator set ts))
      ∙ para-roll-Term Term (Unit {0}) Closure (with_location x l) (λ w. tt) closure_now
      (Term-F.Operator set ts) ∙ rolls-Operator set _
      ∙ ap (λ z. Operator set z) (map-map now (changed (located x l)) ts)

  pub locate-Apply : (a : Term) (b : Term)
      → located x l (Apply a b) ≡ Apply (located x l a) (located x l b)
  unfolding located
  locate-Apply a b =
      ap (located x l) (sym (rolls-Apply a b))
      ∙ para-roll-Term Term (Unit {0}) Closure (with_location x l) (λ w. tt) closure_now
      (Term-F.Apply a b) ∙ rolls-Apply _ _

  pub locate-Fill : (ty : Ty) (a : Term) (b : Term)
      → located x l (Fill ty a b) ≡ Fill ty (located x l a) (located x l b)
  unfolding located
  locate-Fill ty a b =
      ap (located x l) (sym (rolls-Fill ty a b))
      ∙ para-roll-Term Term (Unit {0}) Closure (with_location x l) (λ w. tt) closure_now
      (Term-F.Fill ty a b) ∙ rolls-Fill ty _ _

  pub locate-Let : (ys : List (ℕ × Ty)) (a : Term) (b : Term)
      → located x l (Let ys a b) ≡ Let ys (located x l a) (located x l b)
  unfolding located
  locate-Let ys a b =
      ap (located x l) (sym (rolls-Let ys a b))
      ∙ para-roll-Term Term (Unit {0}) Closure (with_location x l) (λ w. tt) closure_now
      (Term-F.Let ys a b) ∙ rolls-Let ys _ _

  pub locate-Mutable : (y : ℕ) (ty : Ty) (a : Term) (b : Term)
      → located x l (Mutable y ty a b) ≡ Mutable y ty (located x l a) (located x l b)
  unfolding located
  locate-Mutable y ty a b =
      ap (located x l) (sym (rolls-Mutable y ty a b))
      ∙ para-roll-Term Term (Unit {0}) Closure (with_location x l) (λ w. tt) closure_now
      (Term-F.Mutable y ty a b) ∙ rolls-Mutable y ty _ _

  pub locate-ReadField : (a : Term) (f : NameId)
      → located x l (ReadField a f) ≡ ReadField (located x l a) f
  unfolding located
  locate-ReadField a f =
      ap (located x l) (sym (rolls-ReadField a f))
      ∙ para-roll-Term Term (Unit {0}) Closure (with_location x l) (λ w. tt) closure_now
      (Term-F.ReadField a f) ∙ rolls-ReadField _ f

  pub locate-WriteField : (a : Term) (f : NameId) (b : Term)
      → located x l (WriteField a f b) ≡ WriteField (located x l a) f (located x l b)
  unfolding located
  locate-WriteField a f b =
      ap (located x l) (sym (rolls-WriteField a f b))
      ∙ para-roll-Term Term (Unit {0}) Closure (with_location x l) (λ w. tt) closure_now
      (Term-F.WriteField a f b) ∙ rolls-WriteField _ f _

  pub locate-ReadElement : (a : Term) (b : Term)
      → located x l (ReadElement a b) ≡ ReadElement (located x l a) (located x l b)
  unfolding located
  locate-ReadElement a b =
      ap (located x l) (sym (rolls-ReadElement a b))
      ∙ para-roll-Term Term (Unit {0}) Closure (with_location x l) (λ w. tt) closure_now
      (Term-F.ReadElement a b) ∙ rolls-ReadElement _ _

  pub locate-WriteElement : (a : Term) (b : Term) (c : Term)
      → located x l (WriteElement a b c)
      ≡ WriteElement (located x l a) (located x l b) (located x l c)
  unfolding located
  locate-WriteElement a b c =
      ap (located x l) (sym (rolls-WriteElement a b c))
      ∙ para-roll-Term Term (Unit {0}) Closure (with_location x l) (λ w. tt) closure_now
      (Term-F.WriteElement a b c) ∙ rolls-WriteElement _ _ _

  pub locate-Size : (a : Term) → located x l (Size a) ≡ Size (located x l a)
  unfolding located
  locate-Size a =
      ap (located x l) (sym (rolls-Size a))
      ∙ para-roll-Term Term (Unit {0}) Closure (with_location x l) (λ w. tt) closure_now
      (Term-F.Size a) ∙ rolls-Size _

  pub locate-Then : (a : Term) (b : Term)
      → located x l (Then a b) ≡ Then (located x l a) (located x l b)
  unfolding located
  locate-Then a b =
      ap (located x l) (sym (rolls-Then a b))
      ∙ para-roll-Term Term (Unit {0}) Closure (with_location x l) (λ w. tt) closure_now
      (Term-F.Then a b) ∙ rolls-Then _ _

  pub locate-If : (a : Term) (b : Term) (c : Term)
      → located x l (If a b c) ≡ If (located x l a) (located x l b) (located x l c)
  unfolding located
  locate-If a b c =
      ap (located x l) (sym (rolls-If a b c))
      ∙ para-roll-Term Term (Unit {0}) Closure (with_location x l) (λ w. tt) closure_now
      (Term-F.If a b c) ∙ rolls-If _ _ _

  pub locate-While : (a : Term) (b : Term)
      → located x l (While a b) ≡ While (located x l a) (located x l b)
  unfolding located
  locate-While a b =
      ap (located x l) (sym (rolls-While a b))
      ∙ para-roll-Term Term (Unit {0}) Closure (with_location x l) (λ w. tt) closure_now
      (Term-F.While a b) ∙ rolls-While _ _

  pub locate-Typecase : (y : ℕ) (a : Term) (cs : List (Term × Ty)) (b : Term)
      → located x l (Typecase y a cs b)
      ≡ Typecase y (located x l a) (clauses_by (located x l) cs) (located x l b)
  unfolding located
  locate-Typecase y a cs b =
      ap (located x l) (sym (rolls-Typecase y a cs b))
      ∙ para-roll-Term Term (Unit {0}) Closure (with_location x l) (λ w. tt) closure_now
      (Term-F.Typecase y a cs b) ∙ rolls-Typecase y _ _ _
      ∙ ap (λ z. Typecase y (located x l a) z (located x l b)) (clauses_now (located x l) cs)

  pub locate-For : (o : Order) (s : Span) (y : ℕ) (a : Term) (b : Term)
      → located x l (For o s y a b) ≡ For o s y (located x l a) (located x l b)
  unfolding located
  locate-For o s y a b =
      ap (located x l) (sym (rolls-For o s y a b))
      ∙ para-roll-Term Term (Unit {0}) Closure (with_location x l) (λ w. tt) closure_now
      (Term-F.For o s y a b) ∙ rolls-For o s y _ _

  pub locate-ForHalves : (a : Term) (b : Term)
      → located x l (ForHalves a b) ≡ ForHalves (located x l a) (located x l b)
  unfolding located
  locate-ForHalves a b =
      ap (located x l) (sym (rolls-ForHalves a b))
      ∙ para-roll-Term Term (Unit {0}) Closure (with_location x l) (λ w. tt) closure_now
      (Term-F.ForHalves a b) ∙ rolls-ForHalves _ _

  pub locate-Reduce : (o : Order) (s : Span) (set : SetId) (a : Term) (y : ℕ) (b : Term) (c : Term)
      → located x l (Reduce o s set a y b c)
      ≡ Reduce o s set (located x l a) y (located x l b) (located x l c)
  unfolding located
  locate-Reduce o s set a y b c =
      ap (located x l) (sym (rolls-Reduce o s set a y b c))
      ∙ para-roll-Term Term (Unit {0}) Closure (with_location x l) (λ w. tt) closure_now
      (Term-F.Reduce o s set a y b c) ∙ rolls-Reduce o s set _ y _ _

  pub locate-ReduceHalves : (set : SetId) (a : Term) (b : Term)
      → located x l (ReduceHalves set a b) ≡ ReduceHalves set (located x l a) (located x l b)
  unfolding located
  locate-ReduceHalves set a b =
      ap (located x l) (sym (rolls-ReduceHalves set a b))
      ∙ para-roll-Term Term (Unit {0}) Closure (with_location x l) (λ w. tt) closure_now
      (Term-F.ReduceHalves set a b) ∙ rolls-ReduceHalves set _ _

  pub locate-Also : (ts : List Term) → located x l (Also ts) ≡ Also (map (located x l) ts)
  unfolding located
  locate-Also ts =
      ap (located x l) (sym (rolls-Also ts))
      ∙ para-roll-Term Term (Unit {0}) Closure (with_location x l) (λ w. tt) closure_now
      (Term-F.Also ts) ∙ rolls-Also _ ∙ ap (λ z. Also z) (map-map now (changed (located x l)) ts)

  pub locate-Atomic : (m : Mode) (a : Term) → located x l (Atomic m a) ≡ Atomic m (located x l a)
  unfolding located
  locate-Atomic m a =
      ap (located x l) (sym (rolls-Atomic m a))
      ∙ para-roll-Term Term (Unit {0}) Closure (with_location x l) (λ w. tt) closure_now
      (Term-F.Atomic m a) ∙ rolls-Atomic m _

  pub locate-Stepped : (a : Term) → located x l (Stepped a) ≡ Stepped (located x l a)
  unfolding located
  locate-Stepped a =
      ap (located x l) (sym (rolls-Stepped a))
      ∙ para-roll-Term Term (Unit {0}) Closure (with_location x l) (λ w. tt) closure_now
      (Term-F.Stepped a) ∙ rolls-Stepped _

  pub locate-Value : (w : Value) → located x l (term.Value w) ≡ term.Value w
  unfolding located
  locate-Value w =
      ap (located x l) (sym (rolls-Value w))
      ∙ para-roll-Term Term (Unit {0}) Closure (with_location x l) (λ w. tt) closure_now
      (Term-F.Value w) ∙ rolls-Value w

  pub locate-Group : (ts : List Term) → located x l (Group ts) ≡ group (map (located x l) ts)
  unfolding located
  locate-Group ts =
      ap (located x l) (sym (rolls-Group ts))
      ∙ para-roll-Term Term (Unit {0}) Closure (with_location x l) (λ w. tt) closure_now
      (Term-F.Group ts) ∙ ap group (map-map now (changed (located x l)) ts)

  pub locate-Variable : (y : ℕ) → located x l (Variable y) ≡ Variable y
  unfolding located
  locate-Variable y =
      ap (located x l) (sym (rolls-Variable y))
      ∙ para-roll-Term Term (Unit {0}) Closure (with_location x l) (λ w. tt) closure_now
      (Term-F.Variable y) ∙ rolls-Variable y

  pub locate-Read : (s : Slot) → located x l (Read s) ≡ Read (at_location x l s)
  unfolding located
  locate-Read s =
      ap (located x l) (sym (rolls-Read s))
      ∙ para-roll-Term Term (Unit {0}) Closure (with_location x l) (λ w. tt) closure_now
      (Term-F.Read s)

  pub locate-Write : (s : Slot) (a : Term)
      → located x l (Write s a) ≡ Write (at_location x l s) (located x l a)
  unfolding located
  locate-Write s a =
      ap (located x l) (sym (rolls-Write s a))
      ∙ para-roll-Term Term (Unit {0}) Closure (with_location x l) (λ w. tt) closure_now
      (Term-F.Write s a)

  abbrev closures_at : Closure → Closure
  closures_at = para-Closure Term (Unit {0}) Closure (with_location x l) (λ w. tt) closure_now

  closure_at : (c : Closure) → closures_at c ≡ record c { body = located x l c.body }
  unfolding located
  closure_at c =
      ap closures_at (sym (roll-out-Closure c))
      ∙ para-roll-Closure Term (Unit {0}) Closure (with_location x l) (λ w. tt) closure_now
      (out-Closure c)
      ∙ ap (λ hs. let d : Closure = record c { body = located x l c.body; held = hs }
      in d) (held_back
      (para-Value Term (Unit {0}) Closure (with_location x l) (λ w. tt) closure_now) c.held)

  pub locate-Fn : (c : Closure)
      → located x l (Fn c) ≡ function (record c { body = located x l c.body })
  unfolding located
  locate-Fn c =
      ap (located x l) (sym (rolls-Fn c))
      ∙ para-roll-Term Term (Unit {0}) Closure (with_location x l) (λ w. tt) closure_now
      (Term-F.Fn c) ∙ ap function (closure_at c)

  pub locate-Asleep : (ms : List (Loc × Value)) (a : Term)
      → located x l (Asleep ms a) ≡ Asleep ms (located x l a)
  unfolding located
  locate-Asleep ms a =
      ap (located x l) (sym (rolls-Asleep ms a))
      ∙ para-roll-Term Term (Unit {0}) Closure (with_location x l) (λ w. tt) closure_now
      (Term-F.Asleep ms a) ∙ rolls-Asleep _ _
      ∙ ap (λ z. Asleep z (located x l a))
      (marks_back (para-Value Term (Unit {0}) Closure (with_location x l) (λ w. tt) closure_now) ms)

  pub locate-TryNone : (a : Term) (y : ℕ) (cs : List (Term × Ty))
      → located x l (Try a y cs None) ≡ Try (located x l a) y (clauses_by (located x l) cs) None
  unfolding located
  locate-TryNone a y cs =
      ap (located x l) (sym (rolls-Try a y cs None))
      ∙ para-roll-Term Term (Unit {0}) Closure (with_location x l) (λ w. tt) closure_now
      (Term-F.Try a y cs None) ∙ rolls-Try _ _ _ _
      ∙ ap (λ z. Try (located x l a) y z None) (clauses_now (located x l) cs)

  pub locate-TrySome : (a : Term) (y : ℕ) (cs : List (Term × Ty)) (b : Term)
      → located x l (Try a y cs (Some b))
      ≡ Try (located x l a) y (clauses_by (located x l) cs) (Some (located x l b))
  unfolding located
  locate-TrySome a y cs b =
      ap (located x l) (sym (rolls-Try a y cs (Some b)))
      ∙ para-roll-Term Term (Unit {0}) Closure (with_location x l) (λ w. tt) closure_now
      (Term-F.Try a y cs (Some b)) ∙ rolls-Try _ _ _ _
      ∙ ap (λ z. Try (located x l a) y z (Some (located x l b))) (clauses_now (located x l) cs)

pub place-Throw : (put : Put) (a : Term) → placed put (Throw a) ≡ Throw (placed put a)
unfolding placed
place-Throw (Given x v) a = subst-Throw x v a
place-Throw (Located x l) a = locate-Throw x l.0 a

pub place-Call : (put : Put) (set : SetId) (ts : List Term)
    → placed put (Call set ts) ≡ Call set (map (placed put) ts)
unfolding placed
place-Call (Given x v) set ts = subst-Call x v set ts
place-Call (Located x l) set ts = locate-Call x l.0 set ts

pub place-Operator : (put : Put) (set : SetId) (ts : List Term)
    → placed put (Operator set ts) ≡ Operator set (map (placed put) ts)
unfolding placed
place-Operator (Given x v) set ts = subst-Operator x v set ts
place-Operator (Located x l) set ts = locate-Operator x l.0 set ts

pub place-Apply : (put : Put) (a : Term) (b : Term)
    → placed put (Apply a b) ≡ Apply (placed put a) (placed put b)
unfolding placed
place-Apply (Given x v) a b = subst-Apply x v a b
place-Apply (Located x l) a b = locate-Apply x l.0 a b

pub place-Fill : (put : Put) (ty : Ty) (a : Term) (b : Term)
    → placed put (Fill ty a b) ≡ Fill ty (placed put a) (placed put b)
unfolding placed
place-Fill (Given x v) ty a b = subst-Fill x v ty a b
place-Fill (Located x l) ty a b = locate-Fill x l.0 ty a b

pub place-Let : (put : Put) (ys : List (ℕ × Ty)) (a : Term) (b : Term)
    → placed put (Let ys a b) ≡ Let ys (placed put a) (placed put b)
unfolding placed
place-Let (Given x v) ys a b = subst-Let x v ys a b
place-Let (Located x l) ys a b = locate-Let x l.0 ys a b

pub place-Mutable : (put : Put) (y : ℕ) (ty : Ty) (a : Term) (b : Term)
    → placed put (Mutable y ty a b) ≡ Mutable y ty (placed put a) (placed put b)
unfolding placed
place-Mutable (Given x v) y ty a b = subst-Mutable x v y ty a b
place-Mutable (Located x l) y ty a b = locate-Mutable x l.0 y ty a b

pub place-ReadField : (put : Put) (a : Term) (f : NameId)
    → placed put (ReadField a f) ≡ ReadField (placed put a) f
unfolding placed
place-ReadField (Given x v) a f = subst-ReadField x v a f
place-ReadField (Located x l) a f = locate-ReadField x l.0 a f

pub place-WriteField : (put : Put) (a : Term) (f : NameId) (b : Term)
    → placed put (WriteField a f b) ≡ WriteField (placed put a) f (placed put b)
unfolding placed
place-WriteField (Given x v) a f b = subst-WriteField x v a f b
place-WriteField (Located x l) a f b = locate-WriteField x l.0 a f b

pub place-ReadElement : (put : Put) (a : Term) (b : Term)
    → placed put (ReadElement a b) ≡ ReadElement (placed put a) (placed put b)
unfolding placed
place-ReadElement (Given x v) a b = subst-ReadElement x v a b
place-ReadElement (Located x l) a b = locate-ReadElement x l.0 a b

pub place-WriteElement : (put : Put) (a : Term) (b : Term) (c : Term)
    → placed put (WriteElement a b c) ≡ WriteElement (placed put a) (placed put b) (placed put c)
unfolding placed
place-WriteElement (Given x v) a b c = subst-WriteElement x v a b c
place-WriteElement (Located x l) a b c = locate-WriteElement x l.0 a b c

pub place-Size : (put : Put) (a : Term) → placed put (Size a) ≡ Size (placed put a)
unfolding placed
place-Size (Given x v) a = subst-Size x v a
place-Size (Located x l) a = locate-Size x l.0 a

pub place-Then : (put : Put) (a : Term) (b : Term)
    → placed put (Then a b) ≡ Then (placed put a) (placed put b)
unfolding placed
place-Then (Given x v) a b = subst-Then x v a b
place-Then (Located x l) a b = locate-Then x l.0 a b

pub place-If : (put : Put) (a : Term) (b : Term) (c : Term)
    → placed put (If a b c) ≡ If (placed put a) (placed put b) (placed put c)
unfolding placed
place-If (Given x v) a b c = subst-If x v a b c
place-If (Located x l) a b c = locate-If x l.0 a b c

pub place-While : (put : Put) (a : Term) (b : Term)
    → placed put (While a b) ≡ While (placed put a) (placed put b)
unfolding placed
place-While (Given x v) a b = subst-While x v a b
place-While (Located x l) a b = locate-While x l.0 a b

pub place-Typecase : (put : Put) (y : ℕ) (a : Term) (cs : List (Term × Ty)) (b : Term)
    → placed put (Typecase y a cs b)
    ≡ Typecase y (placed put a) (clauses_by (placed put) cs) (placed put b)
unfolding placed
place-Typecase (Given x v) y a cs b = subst-Typecase x v y a cs b
place-Typecase (Located x l) y a cs b = locate-Typecase x l.0 y a cs b

pub place-For : (put : Put) (o : Order) (s : Span) (y : ℕ) (a : Term) (b : Term)
    → placed put (For o s y a b) ≡ For o s y (placed put a) (placed put b)
unfolding placed
place-For (Given x v) o s y a b = subst-For x v o s y a b
place-For (Located x l) o s y a b = locate-For x l.0 o s y a b

pub place-ForHalves : (put : Put) (a : Term) (b : Term)
    → placed put (ForHalves a b) ≡ ForHalves (placed put a) (placed put b)
unfolding placed
place-ForHalves (Given x v) a b = subst-ForHalves x v a b
place-ForHalves (Located x l) a b = locate-ForHalves x l.0 a b

pub place-Reduce : (put : Put) (o : Order) (s : Span) (set : SetId) (a : Term) (y : ℕ) (b : Term)
    (c : Term)
    → placed put (Reduce o s set a y b c)
    ≡ Reduce o s set (placed put a) y (placed put b) (placed put c)
unfolding placed
place-Reduce (Given x v) o s set a y b c = subst-Reduce x v o s set a y b c
place-Reduce (Located x l) o s set a y b c = locate-Reduce x l.0 o s set a y b c

pub place-ReduceHalves : (put : Put) (set : SetId) (a : Term) (b : Term)
    → placed put (ReduceHalves set a b) ≡ ReduceHalves set (placed put a) (placed put b)
unfolding placed
place-ReduceHalves (Given x v) set a b = subst-ReduceHalves x v set a b
place-ReduceHalves (Located x l) set a b = locate-ReduceHalves x l.0 set a b

pub place-Also : (put : Put) (ts : List Term) → placed put (Also ts) ≡ Also (map (placed put) ts)
unfolding placed
place-Also (Given x v) ts = subst-Also x v ts
place-Also (Located x l) ts = locate-Also x l.0 ts

pub place-Atomic : (put : Put) (m : Mode) (a : Term)
    → placed put (Atomic m a) ≡ Atomic m (placed put a)
unfolding placed
place-Atomic (Given x v) m a = subst-Atomic x v m a
place-Atomic (Located x l) m a = locate-Atomic x l.0 m a

pub place-Stepped : (put : Put) (a : Term) → placed put (Stepped a) ≡ Stepped (placed put a)
unfolding placed
place-Stepped (Given x v) a = subst-Stepped x v a
place-Stepped (Located x l) a = locate-Stepped x l.0 a

pub place-Value : (put : Put) (w : Value) → placed put (term.Value w) ≡ term.Value w
unfolding placed
place-Value (Given x v) w = subst-Value x v w
place-Value (Located x l) w = locate-Value x l.0 w

pub place-Variable : (put : Put) (y : ℕ) → placed put (Variable y) ≡ variable_placed put y
unfolding placed
place-Variable (Given x v) y = subst-Variable x v y
place-Variable (Located x l) y = locate-Variable x l.0 y

pub place-Read : (put : Put) (s : Slot) → placed put (Read s) ≡ Read (slot_placed put s)
unfolding placed
place-Read (Given x v) s = subst-Read x v s
place-Read (Located x l) s = locate-Read x l.0 s

pub place-Write : (put : Put) (s : Slot) (a : Term)
    → placed put (Write s a) ≡ Write (slot_placed put s) (placed put a)
unfolding placed
place-Write (Given x v) s a = subst-Write x v s a
place-Write (Located x l) s a = locate-Write x l.0 s a

pub place-Group : (put : Put) (ts : List Term) → placed put (Group ts) ≡ group (map (placed put) ts)
unfolding placed
place-Group (Given x v) ts = subst-Group x v ts
place-Group (Located x l) ts = locate-Group x l.0 ts

pub place-Fn : (put : Put) (c : Closure) → placed put (Fn c) ≡ function_placed put c
unfolding placed function_with
place-Fn (Given x v) c = subst-Fn x v c
place-Fn (Located x l) c = locate-Fn x l.0 c

pub place-Asleep : (put : Put) (ms : List (Loc × Value)) (a : Term)
    → placed put (Asleep ms a) ≡ Asleep ms (placed put a)
unfolding placed
place-Asleep (Given x v) ms a = subst-Asleep x v ms a
place-Asleep (Located x l) ms a = locate-Asleep x l.0 ms a

pub place-Try : (put : Put) (a : Term) (y : ℕ) (cs : List (Term × Ty)) (last : Option Term)
    → placed put (Try a y cs last)
    ≡ Try (placed put a) y (clauses_by (placed put) cs) (last_by (placed put) last)
unfolding placed
place-Try (Given x v) a y cs None = subst-TryNone x v a y cs
place-Try (Given x v) a y cs (Some b) = subst-TrySome x v a y cs b
place-Try (Located x l) a y cs None = locate-TryNone x l.0 a y cs
place-Try (Located x l) a y cs (Some b) = locate-TrySome x l.0 a y cs b

pub ruleset substitution = (
  place-Throw,
  place-Call,
  place-Operator,
  place-Apply,
  place-Fill,
  place-Let,
  place-Mutable,
  place-ReadField,
  place-WriteField,
  place-ReadElement,
  place-WriteElement,
  place-Size,
  place-Then,
  place-If,
  place-While,
  place-Typecase,
  place-For,
  place-ForHalves,
  place-Reduce,
  place-ReduceHalves,
  place-Also,
  place-Atomic,
  place-Stepped,
  place-Value,
  place-Variable,
  place-Read,
  place-Write,
  place-Group,
  place-Fn,
  place-Asleep,
  place-Try,
)
