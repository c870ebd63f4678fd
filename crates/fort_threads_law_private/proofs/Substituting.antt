-- What leaves the prelude's own names alone does so with values and locations in place of its
-- variables, where these do.
use Rattle.std.proofs.Common.{◌≡◌, ℕ, ◌==◌, Bool, true, false, ◌&&◌, if◌then◌else◌, List, [], ◌∷◌, map, Option, Some, None, refl, ap, sym, ◌∙◌, subst}
use Rattle.std.specs.Prelude.{nat_le, nat_lt, option_map, option_and_then}
use mathlib.Core.List.{map-map}
use Rattle.fort_base.specs.declared.ids.Loc.{Loc}
use Rattle.fort_core.specs.declared.form.Slot.{Slot}
use Rattle.fort_core.specs.declared.form.Slot.TheVariants as slot
use Rattle.fort_core.specs.declared.form.Span.{Span}
use Rattle.fort_core.specs.declared.form.Span.TheVariants as span
use Rattle.fort_core.specs.declared.program.Program.{Program}
use Rattle.fort_core.specs.declared.term.Term.{Term, Group, Fn, out-Term, out-roll-Term, map-Term}
use Rattle.fort_core.specs.declared.term.Term as term
use Rattle.fort_core.specs.declared.term.Term.TheVariants.{Variable, outs-Value, outs-Variable, outs-Fn, outs-Group, outs-Read, outs-Write, rolls-Value}
use Rattle.fort_core.specs.declared.term.Term.TheOpen.{Term-F}
use Rattle.fort_core.specs.declared.value.Closure.{Closure}
use Rattle.fort_core.specs.declared.value.Value.{Value, Function}
use Rattle.fort_machine.specs.Texts.{closure_depth, deepest}
use Rattle.fort_machine.specs.Ends.{Standing, at_value, at_throw, open_yet, standing, value_at, values_of, group}
use Rattle.fort_machine.specs.Marked.{Marks, In}
use Rattle.fort_machine.specs.Parts.{parts_of, terms_in, held_values, values_in}
use Rattle.fort_machine.specs.Scopes.{holds_all, function}
use Rattle.fort_machine.specs.Substitution.{Changed, now, remade, occurs, put_held, held_by, with_value, substituted, substituted_all, at_location, with_location, located}
use Rattle.fort_machine.proofs.Substituted.{parts_map, pairs, held_body}
use Rattle.fort_machine.proofs.Less.{values_by, closures_by, substituted_out, substituted_value, values_at, closures_at, located_out}
use Rattle.fort_machine.proofs.Resting.{is_value, Grouped, as_form, as_value, grouped, closure_at}
use Rattle.fort_threads_law_servers.specs.Prelude.{Names}
use Rattle.fort_threads_law_servers.specs.Roots.{Start}
use Rattle.fort_threads_law_private.specs.Grounds.{Ground, Open}
use Rattle.fort_threads_law_private.specs.Private.{SlotIsOpen, IsWithin, KeepsOff, Private, private, AllPrivate, no_terms, one_more, PrivateValue, AllPrivateValues, no_values, one_more_value}
use Rattle.fort_threads_law_private.proofs.Values.{private_at, first_of, term_private, value_private, tuple_private, function_value_private}

-- the parts of a form that is remade, and its marks
module _ {A B : Type 0} (F : Term → Term) (u : Value → A) (h : Closure → B) where
  abbrev same_form : Term-F Term Value Closure → Term-F Term Value Closure
  same_form y =
      map-Term Changed (Value × A) (Closure
      × B) Term Value Closure now (λ v. v.0) (λ c. c.0) (pairs F u h y)

  same_parts : (y : Term-F Term Value Closure) → parts_of (same_form y) ≡ map F (parts_of y)
  same_parts y =
      parts_map now (λ (v : Value × A). v.0) (λ (c : Closure × B). c.0) (pairs F u h y)
      ∙ ap (map now) (parts_map (λ t. (t, F t)) (λ w. (w, u w)) (λ c. (c, h c)) y)
      ∙ map-map now (λ t. (t, F t)) (parts_of y)

  same_marks : (ms : List (Loc × Value))
      → map (λ (e : Loc × (Value × A)). (e.0, e.1.0)) (map (λ
      (e : Loc × Value). (e.0, (e.1, u e.1))) ms) ≡ ms
  same_marks [] = refl
  same_marks (e ∷ ms) = ap (λ r. e ∷ r) (same_marks ms)

  within_same : (s : Span) (a : Term) → ((w : Value) → F (term.Value w) ≡ term.Value w)
      → IsWithin s a → IsWithin s (F a)
  within_same span.Whole a same i = tt
  within_same (span.Part k count) a same i = (i.0, ap F i.1 ∙ same i.0, i.2)

located_value : (x l : ℕ) (w : Value) → located x l (term.Value w) ≡ term.Value w
located_value x l w =
    located_out x l (term.Value w) ∙ ap (λ (y : Term-F Term Value Closure). with_location x l
    (pairs (located x l) (values_at x l) (closures_at x l) y)) (outs-Value w) ∙ rolls-Value w

-- the values of terms that all are values
abbrev first_value : List Term → Standing → Option (List Value)
first_value ts st =
    option_and_then (λ
    (v : Value). option_map (λ (vs : List Value). v ∷ vs) (values_of ts)) (value_at st)

-- a variable that gets an open location
slot_located : (g : Ground) (x l : ℕ) → Open g l → (y : Slot) → SlotIsOpen g y
    → SlotIsOpen g (at_location x l y)
slot_located g x l is_open (slot.Location k) o = o
slot_located g x l is_open (slot.Variable y) o = go (x == y)
  where
    go : (b : Bool)
        → SlotIsOpen g (if b then slot.Location (record { 0 = l }) else slot.Variable y)
    go true = is_open
    go false = tt

module _ {p : Program} {n : Names} {m : Start} {g : Ground} where
  pub values_private : (ts : List Term) (vs : List Value) → values_of ts ≡ Some vs
      → AllPrivate p n m g ts → AllPrivateValues p n m g vs
  values_private [] vs e each =
      let z : [] ≡ vs = cc in subst (AllPrivateValues p n m g) z no_values
  values_private (t ∷ ts) vs e (one_more a rest) =
      go (standing t) refl (values_of ts) refl (λ us r. values_private ts us r rest)
    where
      go : (st : Standing) → standing t ≡ st → (o : Option (List Value)) → values_of ts ≡ o
          → ((us : List Value) → values_of ts ≡ Some us → AllPrivateValues p n m g us)
          → AllPrivateValues p n m g vs
      go (at_throw v) q o r f =
          let z : None ≡ Some vs = sym (ap (first_value ts) q) ∙ e in absurd cc
      go open_yet q o r f = let z : None ≡ Some vs = sym (ap (first_value ts) q) ∙ e in absurd cc
      go (at_value v) q None r f =
          let z : None ≡ Some vs =
          sym (ap (first_value ts) q ∙ ap (option_map (λ (vs : List Value). v ∷ vs)) r) ∙ e
          in absurd cc
      go (at_value v) q (Some us) r f =
          let z : Some (v ∷ us) ≡ Some vs =
          sym (ap (first_value ts) q ∙ ap (option_map (λ (vs : List Value). v ∷ vs)) r) ∙ e
          in
          let y : v ∷ us ≡ vs = cc in
          subst (AllPrivateValues p n m g) y
          (one_more_value (value_private (subst (Private p n m g) (is_value t v q) a)) (f us r))

  -- a tuple is a form or its value, and so is a function
  pub group_private : (ts : List Term) → AllPrivate p n m g ts → Private p n m g (group ts)
  group_private ts each = go (grouped ts)
    where
      go : Grouped ts → Private p n m g (group ts)
      go (as_form e) = private_at (group ts) _ (ap out-Term e ∙ outs-Group ts) tt each no_values
      go (as_value vs e q) =
          subst (Private p n m g) (sym q)
          (term_private (tuple_private vs (values_private ts vs e each)))

  pub function_private : (c : Closure) → Private p n m g c.body
      → AllPrivateValues p n m g (held_values c) → Private p n m g (function c)
  function_private c a vs = go (holds_all c && nat_le (closure_depth c) deepest) refl
    where
      go : (b : Bool) → function c ≡ (if b then term.Value (Function c) else Fn c)
          → Private p n m g (function c)
      go true e = subst (Private p n m g) (sym e) (term_private (function_value_private c a vs))
      go false e =
          private_at (function c) _ (ap out-Term e ∙ outs-Fn c) tt (one_more a no_terms) vs

  -- a form with other parts
  module _ {A B : Type 0} (F : Term → Term) (u : Value → A) (h : Closure → B)
      (same : (w : Value) → F (term.Value w) ≡ term.Value w) where
    remade_private : (y : Term-F Term Value Closure) → KeepsOff n m g y
        → AllPrivate p n m g (map F (terms_in y)) → AllPrivateValues p n m g (values_in y)
        → ((c : Closure) → y ≡ Term-F.Fn c → ⊥) → Private p n m g (remade (pairs F u h y))
    remade_private (Term-F.Group ts) o ps vs unlike =
        group_private (map now (map (λ t. (t, F t)) ts))
        (subst (AllPrivate p n m g) (sym (map-map now (λ t. (t, F t)) ts)) ps)
    remade_private (Term-F.Fn c) o ps vs unlike = absurd (unlike c refl)
    remade_private (Term-F.Asleep ms a) o ps vs unlike =
        private_at (remade (pairs F u h (Term-F.Asleep ms a))) _
        (out-roll-Term (same_form F u h (Term-F.Asleep ms a)))
        (subst (λ (z : Marks). (l : ℕ) (v : Value) → In l v z → Open g l)
        (sym (same_marks F u h ms)) o)
        (subst (AllPrivate p n m g) (sym (same_parts F u h (Term-F.Asleep ms a))) ps)
        (subst (λ (z : List (Loc × Value)). AllPrivateValues p n m g (map (λ
        (e : Loc × Value). e.1) z)) (sym (same_marks F u h ms)) vs)
    remade_private (Term-F.For d s x a b) o ps vs unlike =
        private_at (remade (pairs F u h (Term-F.For d s x a b))) _
        (out-roll-Term (same_form F u h (Term-F.For d s x a b))) (within_same F u h s a same o)
        (subst (AllPrivate p n m g) (sym (same_parts F u h (Term-F.For d s x a b))) ps) vs
    remade_private (Term-F.Reduce d s set z x a b) o ps vs unlike =
        private_at (remade (pairs F u h (Term-F.Reduce d s set z x a b))) _
        (out-roll-Term (same_form F u h (Term-F.Reduce d s set z x a b)))
        (within_same F u h s a same o.0, o.1)
        (subst (AllPrivate p n m g) (sym (same_parts F u h (Term-F.Reduce d s set z x a b))) ps) vs
    remade_private form o ps vs unlike =
        private_at (remade (pairs F u h form)) _ (out-roll-Term (same_form F u h form)) o
        (subst (AllPrivate p n m g) (sym (same_parts F u h form)) ps) vs

  -- a value in place of a variable
  module _ (x : ℕ) (v : Value) (pv : PrivateValue p n m g v) where
    put_private : (hs : List (ℕ × Value))
        → AllPrivateValues p n m g (map (λ (h : ℕ × Value). h.1) hs)
        → AllPrivateValues p n m g (map (λ (h : ℕ × Value). h.1) (put_held x v hs))
    put_private [] i = one_more_value pv no_values
    put_private (h ∷ hs) (one_more_value j js) = go (nat_lt x h.0) (put_private hs js)
      where
        go : (b : Bool) → AllPrivateValues p n m g (map (λ (h : ℕ × Value). h.1) (put_held x v hs))
            → AllPrivateValues p n m g (map (λ
            (h : ℕ × Value). h.1) (if b then (x, v) ∷ h ∷ hs else h ∷ put_held x v hs))
        go true r = one_more_value pv (one_more_value j js)
        go false r = one_more_value j r

    held_private : (c : Closure) → AllPrivateValues p n m g (held_values c)
        → AllPrivateValues p n m g (held_values (held_by x v c))
    held_private c i = go (occurs x c.body)
      where
        go : (b : Bool)
            → AllPrivateValues p n m g
            (held_values (if b then record c { held = put_held x v c.held } else c))
        go true = put_private c.held i
        go false = i

    variable_private : (y : ℕ) (b : Bool)
        → Private p n m g (if b then term.Value v else Variable y)
    variable_private y true = term_private pv
    variable_private y false = private_at (Variable y) _ (outs-Variable y) tt no_terms no_values

    substituted_at : (y : Term-F Term Value Closure) → KeepsOff n m g y
        → AllPrivate p n m g (terms_in y) → AllPrivate p n m g (map (substituted x v) (terms_in y))
        → AllPrivateValues p n m g (values_in y)
        → Private p n m g
        (with_value x v (pairs (substituted x v) (values_by x v) (closures_by x v) y))
    substituted_at (Term-F.Variable y) o ts rs vs = variable_private y (x == y)
    substituted_at (Term-F.Fn c) o ts rs vs =
        function_private (held_by x v c)
        (subst (Private p n m g) (sym (held_body x v c)) (first_of ts)) (held_private c vs)
    substituted_at form o ts rs vs =
        remade_private (substituted x v) (values_by x v) (closures_by x v) (substituted_value x v)
        form o rs vs (λ c e. cc)

    mutual
      pub substituted_private : {t : Term} → Private p n m g t
          → Private p n m g (substituted x v t)
      substituted_private {t} (private o ts vs) =
          subst (Private p n m g) (sym (substituted_out x v t))
          (substituted_at (out-Term t) o ts (all_substituted ts) vs)

      all_substituted : {ts : List Term} → AllPrivate p n m g ts
          → AllPrivate p n m g (map (substituted x v) ts)
      all_substituted no_terms = no_terms
      all_substituted (one_more a rest) = one_more (substituted_private a) (all_substituted rest)

  pub private_with : (hs : List (ℕ × Value)) (t : Term)
      → AllPrivateValues p n m g (map (λ (h : ℕ × Value). h.1) hs) → Private p n m g t
      → Private p n m g (substituted_all hs t)
  private_with [] t i a = a
  private_with (h ∷ hs) t (one_more_value j js) a =
      private_with hs (substituted h.0 h.1 t) js (substituted_private h.0 h.1 j a)

  -- an open location in place of a variable
  module _ (x l : ℕ) (is_open : Open g l) where
    located_at : (y : Term-F Term Value Closure) → KeepsOff n m g y
        → AllPrivate p n m g (map (located x l) (terms_in y))
        → AllPrivateValues p n m g (values_in y)
        → Private p n m g
        (with_location x l (pairs (located x l) (values_at x l) (closures_at x l) y))
    located_at (Term-F.Read y) o rs vs =
        private_at _ _ (outs-Read (at_location x l y)) (slot_located g x l is_open y o) rs vs
    located_at (Term-F.Write y a) o rs vs =
        private_at _ _ (outs-Write (at_location x l y) (located x l a))
        (slot_located g x l is_open y o) rs vs
    located_at (Term-F.Fn c) o rs vs =
        subst (λ z. Private p n m g (function z)) (sym (closure_at x l c))
        (function_private (record c { body = located x l c.body }) (first_of rs) vs)
    located_at form o rs vs =
        remade_private (located x l) (values_at x l) (closures_at x l) (located_value x l) form o
        rs vs (λ c e. cc)

    mutual
      pub located_private : {t : Term} → Private p n m g t → Private p n m g (located x l t)
      located_private {t} (private o ts vs) =
          subst (Private p n m g) (sym (located_out x l t))
          (located_at (out-Term t) o (all_located ts) vs)

      all_located : {ts : List Term} → AllPrivate p n m g ts
          → AllPrivate p n m g (map (located x l) ts)
      all_located no_terms = no_terms
      all_located (one_more a rest) = one_more (located_private a) (all_located rest)
