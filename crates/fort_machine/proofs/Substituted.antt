-- A substitution puts no form to sleep.
use Rattle.std.proofs.Common.{◌≡◌, ℕ, Bool, true, false, ◌&&◌, List, [], ◌∷◌, map, Some, None, refl, ap, sym, ◌∙◌, subst, ◌⊎◌, inl, inr, if◌then◌else◌}
use Rattle.std.specs.Prelude.{nat_le}
use Rattle.fort_base.specs.declared.ids.Loc.{Loc}
use Rattle.fort_base.specs.declared.ty.Ty.{Ty}
use Rattle.fort_core.specs.declared.term.Term.{Term, Fn, Asleep, Write, out-Term, roll-Term, roll-out-Term, out-roll-Term, map-Term, para-roll-Term, fold_out-Term}
use Rattle.fort_core.specs.declared.term.Term as term
use Rattle.fort_core.specs.declared.term.Term.TheVariants.{outs-Value, outs-Fn, outs-Asleep, rolls-Asleep}
use Rattle.fort_core.specs.declared.term.Term.TheOpen.{Term-F}
use Rattle.fort_core.specs.declared.value.Value.{Value, Function}
use Rattle.fort_core.specs.declared.value.Closure.{Closure}
use Rattle.fort_machine.specs.Texts.{closure_depth, deepest}
use Rattle.fort_machine.specs.Parts.{IsOneOf, in_clauses, parts_of, terms_in, Inside, itself, in_part}
use Rattle.fort_machine.specs.Scopes.{holds_all, function}
use Rattle.fort_machine.specs.Substitution.{Changed, now, remade, occurs, put_held, held_by}
use Rattle.fort_machine.specs.Marked.{Marks}
use Rattle.fort_machine.proofs.Standing.{rolled}
use Rattle.fort_machine.proofs.Inside.{out_group, Sleeper}

clauses_map : {A B : Type 0} (f : A → B) (cs : List (A × Ty))
    → in_clauses (map (λ (c : A × Ty). (f c.0, c.1)) cs) ≡ map f (in_clauses cs)
clauses_map f [] = refl
clauses_map f (c ∷ cs) = ap (λ r. f c.0 ∷ r) (clauses_map f cs)

-- a form's parts, mapped
pub parts_map : {A B C A' B' C' : Type 0} (f : A → A') (g : B → B') (h : C → C') (y : Term-F A B C)
    → parts_of (map-Term A B C A' B' C' f g h y) ≡ map f (parts_of y)
parts_map f g h (Term-F.Typecase x a cs b) = ap (λ r. f a ∷ f b ∷ r) (clauses_map f cs)
parts_map f g h (Term-F.Try a x cs None) = ap (λ r. f a ∷ r) (clauses_map f cs)
parts_map f g h (Term-F.Try a x cs (Some last)) = ap (λ r. f a ∷ f last ∷ r) (clauses_map f cs)
parts_map f g h _ = refl

pub one_of_map : {A B : Type 0} (f : A → B) (c : B) (xs : List A) → IsOneOf c (map f xs)
    → (x : A) × IsOneOf x xs × (c ≡ f x)
one_of_map f c [] h = absurd h
one_of_map f c (x ∷ xs) (inl e) = (x, inl refl, e)
one_of_map f c (x ∷ xs) (inr h) = let i = one_of_map f c xs h in (i.0, inr i.1, i.2)

-- where the terms in a term come from, and its sleep
pub record From (F : Term → Term) (y : Term-F Term Value Closure) (z : Term) : Type 0 where
  pub parts : (c : Term) → IsOneOf c (terms_in (out-Term z))
      → (a : Term) × IsOneOf a (terms_in y) × ((c ≡ F a) ⊎ (c ≡ a))
  pub asleep : (marks : Marks) (b : Term) → out-Term z ≡ Term-F.Asleep marks b
      → (b' : Term) × (y ≡ Term-F.Asleep marks b')

marks_back : {A : Type 0} (g : Value → A) (ms : Marks)
    → map (λ (m : Loc × (Value × A)). (m.0, m.1.0)) (map (λ
    (m : Loc × Value). (m.0, (m.1, g m.1))) ms) ≡ ms
marks_back g [] = refl
marks_back g (m ∷ ms) = ap (λ r. m ∷ r) (marks_back g ms)

out_function : (c : Closure)
    → (out-Term (function c) ≡ Term-F.Fn c)
    ⊎ ((v : Value) × (out-Term (function c) ≡ Term-F.Value v))
out_function c = go (holds_all c && nat_le (closure_depth c) deepest) refl
  where
    go : (b : Bool) → function c ≡ (if b then term.Value (Function c) else Fn c)
        → (out-Term (function c) ≡ Term-F.Fn c)
        ⊎ ((v : Value) × (out-Term (function c) ≡ Term-F.Value v))
    go true e = inr (Function c, ap out-Term e ∙ outs-Value (Function c))
    go false e = inl (ap out-Term e ∙ outs-Fn c)

module _ {A B : Type 0} (F : Term → Term) (g : Value → A) (h : Closure → B) where
  abbrev pub pairs : Term-F Term Value Closure → Term-F Changed (Value × A) (Closure × B)
  pairs = map-Term Term Value Closure Changed (Value × A) (Closure
      × B) (λ t. (t, F t)) (λ w. (w, g w)) (λ c. (c, h c))

  abbrev same_form : Term-F Term Value Closure → Term-F Term Value Closure
  same_form y =
      map-Term Changed (Value × A) (Closure
      × B) Term Value Closure now (λ v. v.0) (λ c. c.0) (pairs y)

  same_parts : (y : Term-F Term Value Closure) (c : Term) → IsOneOf c (parts_of (same_form y))
      → (a : Term) × IsOneOf a (parts_of y) × (c ≡ F a)
  same_parts y c k =
      let e = parts_map now (λ (v : Value × A). v.0) (λ
      (c : Closure × B). c.0) (pairs y)
      ∙ ap (map now) (parts_map (λ t. (t, F t)) (λ w. (w, g w)) (λ c. (c, h c)) y) in
      let i = one_of_map now c (map (λ t. (t, F t)) (parts_of y)) (subst (IsOneOf c) e k) in
      let j = one_of_map (λ (t : Term). (t, F t)) i.0 (parts_of y) i.1 in
      (j.0, j.1, i.2 ∙ ap now j.2)

  weaken : (y : Term-F Term Value Closure) (c : Term)
      → (a : Term) × IsOneOf a (parts_of y) × (c ≡ F a)
      → (a : Term) × IsOneOf a (parts_of y) × ((c ≡ F a) ⊎ (c ≡ a))
  weaken y c i = (i.0, i.1, inl i.2)

  from_group : (ps : List Term) → From F (Term-F.Group ps) (remade (pairs (Term-F.Group ps)))
  from_group ps = go (out_group (map now (map (λ t. (t, F t)) ps)))
    where
      go : (out-Term (remade (pairs (Term-F.Group ps)))
          ≡ Term-F.Group (map now (map (λ t. (t, F t)) ps)))
          ⊎ ((v : Value) × (out-Term (remade (pairs (Term-F.Group ps))) ≡ Term-F.Value v))
          → From F (Term-F.Group ps) (remade (pairs (Term-F.Group ps)))
      go (inl e) = record {
        parts = λ c k. weaken (Term-F.Group ps) c
            (same_parts (Term-F.Group ps) c (subst (IsOneOf c) (ap terms_in e) k));
        asleep = λ ms b q. let z = sym e ∙ q in absurd cc;
      }
      go (inr (v, e)) = record {
        parts = λ c k. absurd (subst (IsOneOf c) (ap terms_in e) k);
        asleep = λ ms b q. let z = sym e ∙ q in absurd cc;
      }

  from_asleep : (ms : Marks) (t : Term)
      → From F (Term-F.Asleep ms t) (remade (pairs (Term-F.Asleep ms t)))
  from_asleep ms t = record {
    parts = λ c k. weaken (Term-F.Asleep ms t) c
        (same_parts (Term-F.Asleep ms t) c
        (subst (IsOneOf c) (ap terms_in (out-roll-Term (same_form (Term-F.Asleep ms t)))) k));
    asleep = λ ns b q.
        let z : same_form (Term-F.Asleep ms t) ≡ Term-F.Asleep ns b =
        sym (out-roll-Term (same_form (Term-F.Asleep ms t))) ∙ q in
        let w : map (λ
        (m : Loc × (Value × A)). (m.0, m.1.0)) (map (λ
        (m : Loc × Value). (m.0, (m.1, g m.1))) ms) ≡ ns = cc in
        (t, ap (λ x. Term-F.Asleep x t) (sym (marks_back g ms) ∙ w));
  }

  -- a form that is as it was but for its parts
  pub from_remade : (y : Term-F Term Value Closure) → ((c : Closure) → y ≡ Term-F.Fn c → ⊥)
      → From F y (remade (pairs y))
  from_remade (Term-F.Group ps) n = from_group ps
  from_remade (Term-F.Asleep ms t) n = from_asleep ms t
  from_remade (Term-F.Fn c) n = absurd (n c refl)
  from_remade form n = record {
    parts = λ c k. weaken form c
        (same_parts form c (subst (IsOneOf c) (ap terms_in (out-roll-Term (same_form form))) k));
    asleep = λ ms b q. let z : same_form form ≡ Term-F.Asleep ms b =
        sym (out-roll-Term (same_form form)) ∙ q in absurd cc;
  }

  -- a function, with another body or its own
  pub from_function : (c c' : Closure) → (c'.body ≡ F c.body) ⊎ (c'.body ≡ c.body)
      → From F (Term-F.Fn c) (function c')
  from_function c c' w = go (out_function c')
    where
      go : (out-Term (function c') ≡ Term-F.Fn c')
          ⊎ ((v : Value) × (out-Term (function c') ≡ Term-F.Value v))
          → From F (Term-F.Fn c) (function c')
      go (inl e) =
          record {
            parts = λ a k. body a (subst (IsOneOf a) (ap terms_in e) k) w;
            asleep = λ ms b q. let z = sym e ∙ q in absurd cc;
          }
        where
          body : (a : Term) → IsOneOf a (c'.body ∷ []) → (c'.body ≡ F c.body) ⊎ (c'.body ≡ c.body)
              → (b : Term) × IsOneOf b (c.body ∷ []) × ((a ≡ F b) ⊎ (a ≡ b))
          body a (inl q) (inl r) = (c.body, inl refl, inl (q ∙ r))
          body a (inl q) (inr r) = (c.body, inl refl, inr (q ∙ r))
          body a (inr q) r = absurd q
      go (inr (v, e)) =
          record {
            parts = λ a k. absurd (subst (IsOneOf a) (ap terms_in e) k);
            asleep = λ ms b q. let z = sym e ∙ q in absurd cc;
          }

-- what sleeps afterwards slept before
module _ (F : Term → Term) (is : (t : Term) → From F (out-Term t) (F t)) (marks : Marks)
    (body : Term) where
  pub sleeper_back : (T t : Term) → T ≡ F t → Inside (Asleep marks body) T → Sleeper marks t
  sleeper_back T t e (itself q) =
      let w = (is t).asleep marks body (ap out-Term (sym e ∙ sym q) ∙ outs-Asleep marks body) in
      (w.0, itself (sym (rolled t _ w.1 ∙ rolls-Asleep marks w.0)))
  sleeper_back T t e (in_part c k i) =
      go ((is t).parts c (subst (IsOneOf c) (ap (λ x. terms_in (out-Term x)) e) k))
      (λ a q. sleeper_back c a q i)
    where
      go : (a : Term) × IsOneOf a (terms_in (out-Term t)) × ((c ≡ F a) ⊎ (c ≡ a))
          → ((a : Term) → c ≡ F a → Sleeper marks a) → Sleeper marks t
      go (a, m, inl q) ih = let s = ih a q in (s.0, in_part a m s.1)
      go (a, m, inr q) ih = (body, in_part a m (subst (Inside (Asleep marks body)) q i))

pub from_is : (F : Term → Term) (y : Term-F Term Value Closure) (z w : Term) → z ≡ w → From F y w
    → From F y z
from_is F y z w e k = subst (From F y) (sym e) k

pub plain_term : (F : Term → Term) (y : Term-F Term Value Closure) (z : Term)
    (x : Term-F Term Value Closure) → out-Term z ≡ x → ((c : Term) → IsOneOf c (terms_in x) → ⊥)
    → ((ms : Marks) (b : Term) → x ≡ Term-F.Asleep ms b → ⊥) → From F y z
plain_term F y z x e n m =
    record {
      parts = λ c k. absurd (n c (subst (IsOneOf c) (ap terms_in e) k));
      asleep = λ ms b q. absurd (m ms b (sym e ∙ q));
    }

pub held_body : (x : ℕ) (v : Value) (c : Closure) → (held_by x v c).body ≡ c.body
held_body x v c = go (occurs x c.body)
  where
    go : (b : Bool) → (if b then record c { held = put_held x v c.held } else c).body ≡ c.body
    go true = refl
    go false = refl
