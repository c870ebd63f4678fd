-- Where no form of a term sleeps, and what a location in place of a variable gives, at each form
-- that the worked runs have.
use Rattle.std.proofs.Common.{◌≡◌, ℕ, Bool, false, ◌||◌, [], ◌∷◌, None, ap, sym, ◌∙◌}
use Rattle.fort_base.specs.declared.ids.SetId.{SetId}
use Rattle.fort_base.specs.declared.ty.Ty.{Ty}
use Rattle.fort_core.specs.declared.form.Mode.{Mode}
use Rattle.fort_core.specs.declared.form.Slot.{Slot}
use Rattle.fort_core.specs.declared.term.Term.{Term, Throw, Call, Operator, Mutable, Write, Then, If, Also, Try, Atomic, Asleep, out-Term, roll-Term, fold-roll-Term, para-roll-Term}
use Rattle.fort_core.specs.declared.term.Term as term
use Rattle.fort_core.specs.declared.term.Term.TheVariants.{Read, outs-Atomic, outs-Asleep, rolls-Value, rolls-Throw, rolls-Call, rolls-Operator, rolls-Mutable, rolls-Read, rolls-Write, rolls-Then, rolls-If, rolls-Also, rolls-Try, rolls-Atomic}
use Rattle.fort_core.specs.declared.term.Term.TheOpen.{Term-F}
use Rattle.fort_core.specs.declared.value.Value.{Value}
use Rattle.fort_core.specs.declared.value.Closure.{Closure}
use Rattle.fort_machine.specs.Substitution.{with_value, substituted, at_location, with_location, closure_now, located}
use Rattle.fort_machine.specs.Effects.{Store}
use Rattle.fort_machine.specs.Marked.{dozes_at, dozes, Bare}
use Rattle.fort_machine.specs.Attempts.{Sleeps}

-- sleep
pub bare-Value : (v : Value) → Bare (term.Value v)
bare-Value v =
    ap dozes (sym (rolls-Value v))
    ∙ fold-roll-Term Bool (Unit {0}) Bool dozes_at (λ w. tt) (λ c. c.body) (Term-F.Value v)

pub bare-Throw : (a : Term) → Bare a → Bare (Throw a)
bare-Throw a ea =
    ap dozes (sym (rolls-Throw a))
    ∙ fold-roll-Term Bool (Unit {0}) Bool dozes_at (λ w. tt) (λ c. c.body) (Term-F.Throw a)
    ∙ (λ i. ea i || false)

pub bare-Call : (set : SetId) → Bare (Call set [])
bare-Call set =
    ap dozes (sym (rolls-Call set []))
    ∙ fold-roll-Term Bool (Unit {0}) Bool dozes_at (λ w. tt) (λ c. c.body) (Term-F.Call set [])

pub bare-Operator : (set : SetId) (a b : Term) → Bare a → Bare b → Bare (Operator set (a ∷ b ∷ []))
bare-Operator set a b ea eb =
    ap dozes (sym (rolls-Operator set (a ∷ b ∷ [])))
    ∙ fold-roll-Term Bool (Unit {0}) Bool dozes_at (λ w. tt) (λ c. c.body)
    (Term-F.Operator set (a ∷ b ∷ []))
    ∙ (λ i. ea i || (eb i || false))

pub bare-Mutable : (x : ℕ) (ty : Ty) (a b : Term) → Bare a → Bare b → Bare (Mutable x ty a b)
bare-Mutable x ty a b ea eb =
    ap dozes (sym (rolls-Mutable x ty a b))
    ∙ fold-roll-Term Bool (Unit {0}) Bool dozes_at (λ w. tt) (λ c. c.body) (Term-F.Mutable x ty a b)
    ∙ (λ i. ea i || (eb i || false))

pub bare-Read : (x : Slot) → Bare (Read x)
bare-Read x =
    ap dozes (sym (rolls-Read x))
    ∙ fold-roll-Term Bool (Unit {0}) Bool dozes_at (λ w. tt) (λ c. c.body) (Term-F.Read x)

pub bare-Write : (x : Slot) (a : Term) → Bare a → Bare (Write x a)
bare-Write x a ea =
    ap dozes (sym (rolls-Write x a))
    ∙ fold-roll-Term Bool (Unit {0}) Bool dozes_at (λ w. tt) (λ c. c.body) (Term-F.Write x a)
    ∙ (λ i. ea i || false)

pub bare-Then : (a b : Term) → Bare a → Bare b → Bare (Then a b)
bare-Then a b ea eb =
    ap dozes (sym (rolls-Then a b))
    ∙ fold-roll-Term Bool (Unit {0}) Bool dozes_at (λ w. tt) (λ c. c.body) (Term-F.Then a b)
    ∙ (λ i. ea i || (eb i || false))

pub bare-If : (c a b : Term) → Bare c → Bare a → Bare b → Bare (If c a b)
bare-If c a b ec ea eb =
    ap dozes (sym (rolls-If c a b))
    ∙ fold-roll-Term Bool (Unit {0}) Bool dozes_at (λ w. tt) (λ c. c.body) (Term-F.If c a b)
    ∙ (λ i. ec i || (ea i || (eb i || false)))

pub bare-Also : (a b : Term) → Bare a → Bare b → Bare (Also (a ∷ b ∷ []))
bare-Also a b ea eb =
    ap dozes (sym (rolls-Also (a ∷ b ∷ [])))
    ∙ fold-roll-Term Bool (Unit {0}) Bool dozes_at (λ w. tt) (λ c. c.body)
    (Term-F.Also (a ∷ b ∷ []))
    ∙ (λ i. ea i || (eb i || false))

pub bare-Try : (a : Term) (x : ℕ) (b : Term) (ty : Ty) → Bare a → Bare b
    → Bare (Try a x ((b, ty) ∷ []) None)
bare-Try a x b ty ea eb =
    ap dozes (sym (rolls-Try a x ((b, ty) ∷ []) None))
    ∙ fold-roll-Term Bool (Unit {0}) Bool dozes_at (λ w. tt) (λ c. c.body)
    (Term-F.Try a x ((b, ty) ∷ []) None)
    ∙ (λ i. ea i || (eb i || false))

pub bare-Atomic : (m : Mode) (a : Term) → Bare a → Bare (Atomic m a)
bare-Atomic m a ea =
    ap dozes (sym (rolls-Atomic m a))
    ∙ fold-roll-Term Bool (Unit {0}) Bool dozes_at (λ w. tt) (λ c. c.body) (Term-F.Atomic m a)
    ∙ (λ i. ea i || false)

-- a form before an attempt doesn't sleep
pub awake : (s : Store) (m : Mode) (a : Term) → Sleeps s (Atomic m a) → ⊥
awake s m a k =
    let z = sym (outs-Atomic m a) ∙ ap out-Term k.is_asleep ∙ outs-Asleep k.marks k.body in cc

-- substitution
pub subst-Value : (x : ℕ) (v w : Value) → substituted x v (term.Value w) ≡ term.Value w
unfolding substituted
subst-Value x v w =
    ap (substituted x v) (sym (rolls-Value w))
    ∙ para-roll-Term Term (Unit {0}) (Unit {0}) (with_value x v) (λ w. tt) (λ c. tt)
    (Term-F.Value w) ∙ rolls-Value w

module _ (x l : ℕ) where
  pub located-Value : (v : Value) → located x l (term.Value v) ≡ term.Value v
  unfolding located
  located-Value v =
      ap (located x l) (sym (rolls-Value v))
      ∙ para-roll-Term Term (Unit {0}) Closure (with_location x l) (λ w. tt) closure_now
      (Term-F.Value v) ∙ rolls-Value v

  pub located-Throw : (a : Term) → located x l (Throw a) ≡ Throw (located x l a)
  unfolding located
  located-Throw a =
      ap (located x l) (sym (rolls-Throw a))
      ∙ para-roll-Term Term (Unit {0}) Closure (with_location x l) (λ w. tt) closure_now
      (Term-F.Throw a) ∙ rolls-Throw _

  pub located-Call : (set : SetId) → located x l (Call set []) ≡ Call set []
  unfolding located
  located-Call set =
      ap (located x l) (sym (rolls-Call set []))
      ∙ para-roll-Term Term (Unit {0}) Closure (with_location x l) (λ w. tt) closure_now
      (Term-F.Call set []) ∙ rolls-Call set []

  pub located-Operator : (set : SetId) (a b : Term)
      → located x l (Operator set (a ∷ b ∷ [])) ≡ Operator set (located x l a ∷ located x l b ∷ [])
  unfolding located
  located-Operator set a b = ap (located x l) (sym (rolls-Operator set (a ∷ b ∷ [])))
      ∙ para-roll-Term Term (Unit {0}) Closure (with_location x l) (λ w. tt) closure_now
      (Term-F.Operator set (a ∷ b ∷ [])) ∙ rolls-Operator set _

  pub located-Read : (y : Slot) → located x l (Read y) ≡ Read (at_location x l y)
  unfolding located
  located-Read y =
      ap (located x l) (sym (rolls-Read y))
      ∙ para-roll-Term Term (Unit {0}) Closure (with_location x l) (λ w. tt) closure_now
      (Term-F.Read y)

  pub located-Write : (y : Slot) (a : Term)
      → located x l (Write y a) ≡ Write (at_location x l y) (located x l a)
  unfolding located
  located-Write y a =
      ap (located x l) (sym (rolls-Write y a))
      ∙ para-roll-Term Term (Unit {0}) Closure (with_location x l) (λ w. tt) closure_now
      (Term-F.Write y a)

  pub located-Then : (a b : Term) → located x l (Then a b) ≡ Then (located x l a) (located x l b)
  unfolding located
  located-Then a b =
      ap (located x l) (sym (rolls-Then a b))
      ∙ para-roll-Term Term (Unit {0}) Closure (with_location x l) (λ w. tt) closure_now
      (Term-F.Then a b) ∙ rolls-Then _ _

  pub located-If : (c a b : Term)
      → located x l (If c a b) ≡ If (located x l c) (located x l a) (located x l b)
  unfolding located
  located-If c a b =
      ap (located x l) (sym (rolls-If c a b))
      ∙ para-roll-Term Term (Unit {0}) Closure (with_location x l) (λ w. tt) closure_now
      (Term-F.If c a b) ∙ rolls-If _ _ _

  pub located-Also : (a b : Term)
      → located x l (Also (a ∷ b ∷ [])) ≡ Also (located x l a ∷ located x l b ∷ [])
  unfolding located
  located-Also a b = ap (located x l) (sym (rolls-Also (a ∷ b ∷ [])))
      ∙ para-roll-Term Term (Unit {0}) Closure (with_location x l) (λ w. tt) closure_now
      (Term-F.Also (a ∷ b ∷ [])) ∙ rolls-Also _

  pub located-Try : (a : Term) (y : ℕ) (b : Term) (ty : Ty)
      → located x l (Try a y ((b, ty) ∷ []) None)
      ≡ Try (located x l a) y ((located x l b, ty) ∷ []) None
  unfolding located
  located-Try a y b ty = ap (located x l) (sym (rolls-Try a y ((b, ty) ∷ []) None))
      ∙ para-roll-Term Term (Unit {0}) Closure (with_location x l) (λ w. tt) closure_now
      (Term-F.Try a y ((b, ty) ∷ []) None) ∙ rolls-Try _ _ _ _

  pub located-Atomic : (m : Mode) (a : Term) → located x l (Atomic m a) ≡ Atomic m (located x l a)
  unfolding located
  located-Atomic m a =
      ap (located x l) (sym (rolls-Atomic m a))
      ∙ para-roll-Term Term (Unit {0}) Closure (with_location x l) (λ w. tt) closure_now
      (Term-F.Atomic m a) ∙ rolls-Atomic m _
