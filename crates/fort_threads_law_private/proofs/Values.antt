-- Terms and values that leave the prelude's own names alone, by their forms.
use Rattle.std.proofs.Common.{◌≡◌, ℕ, ◌+◌, ◌<◌, Bool, List, [], ◌∷◌, sym, subst, ℤ}
use Rattle.fort_base.specs.declared.ids.Loc.{Loc}
use Rattle.fort_base.specs.declared.ty.Ty.{Ty}
use Rattle.fort_core.specs.declared.program.Program.{Program}
use Rattle.fort_core.specs.declared.term.Term.{Term, out-Term}
use Rattle.fort_core.specs.declared.term.Term as term
use Rattle.fort_core.specs.declared.term.Term.TheVariants.{outs-Value, outs-Throw}
use Rattle.fort_core.specs.declared.term.Term.TheOpen.{Term-F, Value-F}
use Rattle.fort_core.specs.declared.value.Closure.{Closure}
use Rattle.fort_core.specs.declared.value.Value.{Value, Small, Large, Truth, Text, Range, Tuple, Array, Function, out-Value}
use Rattle.fort_core.specs.declared.value.Value.TheVariants.{outs-Small, outs-Large, outs-Truth, outs-Text, outs-Range, outs-Tuple, outs-Array, outs-Function}
use Rattle.fort_machine.specs.Acts.{unit}
use Rattle.fort_machine.specs.Ends.{throw_of}
use Rattle.fort_machine.specs.Parts.{terms_in, held_values, values_in, values_of, bodies_of}
use Rattle.fort_threads_law_servers.specs.Prelude.{Names}
use Rattle.fort_threads_law_servers.specs.Roots.{Start}
use Rattle.fort_threads_law_private.specs.Grounds.{Ground, Open}
use Rattle.fort_threads_law_private.specs.Private.{KeepsOff, LeadsToOpen, Private, private, AllPrivate, no_terms, one_more, PrivateValue, private_value, AllPrivateValues, no_values, one_more_value}

-- what is known of a form, and of a value's kind
pub record Privates (p : Program) (n : Names) (m : Start) (g : Ground)
    (y : Term-F Term Value Closure) : Type 0 where
  pub keeps : KeepsOff n m g y
  pub terms : AllPrivate p n m g (terms_in y)
  pub values : AllPrivateValues p n m g (values_in y)

pub record PrivatesValue (p : Program) (n : Names) (m : Start) (g : Ground)
    (y : Value-F Term Value Closure) : Type 0 where
  pub leads : LeadsToOpen p n g y
  pub terms : AllPrivate p n m g (bodies_of y)
  pub values : AllPrivateValues p n m g (values_of y)

module _ {p : Program} {n : Names} {m : Start} {g : Ground} where
  pub private_at : (t : Term) (y : Term-F Term Value Closure) → out-Term t ≡ y → KeepsOff n m g y
      → AllPrivate p n m g (terms_in y) → AllPrivateValues p n m g (values_in y)
      → Private p n m g t
  private_at t y e o ts vs =
      private (subst (KeepsOff n m g) (sym e) o)
      (subst (λ z. AllPrivate p n m g (terms_in z)) (sym e) ts)
      (subst (λ z. AllPrivateValues p n m g (values_in z)) (sym e) vs)

  pub privates_of : {t : Term} → Private p n m g t → Privates p n m g (out-Term t)
  privates_of (private o ts vs) = record { keeps = o; terms = ts; values = vs }

  pub privates_as : {t : Term} (y : Term-F Term Value Closure) → out-Term t ≡ y
      → Private p n m g t → Privates p n m g y
  privates_as y e a = subst (Privates p n m g) e (privates_of a)

  pub private_value_at : (v : Value) (y : Value-F Term Value Closure) → out-Value v ≡ y
      → LeadsToOpen p n g y → AllPrivate p n m g (bodies_of y)
      → AllPrivateValues p n m g (values_of y) → PrivateValue p n m g v
  private_value_at v y e o ts vs =
      private_value (subst (LeadsToOpen p n g) (sym e) o)
      (subst (λ z. AllPrivate p n m g (bodies_of z)) (sym e) ts)
      (subst (λ z. AllPrivateValues p n m g (values_of z)) (sym e) vs)

  pub privates_value_of : {v : Value} → PrivateValue p n m g v
      → PrivatesValue p n m g (out-Value v)
  privates_value_of (private_value o ts vs) = record { leads = o; terms = ts; values = vs }

  -- parts of lists
  pub first_of : {t : Term} {ts : List Term} → AllPrivate p n m g (t ∷ ts) → Private p n m g t
  first_of (one_more a rest) = a

  pub rest_of : {t : Term} {ts : List Term} → AllPrivate p n m g (t ∷ ts) → AllPrivate p n m g ts
  rest_of (one_more a rest) = rest

  pub first_value_of : {v : Value} {vs : List Value} → AllPrivateValues p n m g (v ∷ vs)
      → PrivateValue p n m g v
  first_value_of (one_more_value a rest) = a

  -- a value and the term that it is, and a throw of it
  pub term_private : {v : Value} → PrivateValue p n m g v → Private p n m g (term.Value v)
  term_private {v} a =
      private_at (term.Value v) _ (outs-Value v) tt no_terms (one_more_value a no_values)

  pub value_private : {v : Value} → Private p n m g (term.Value v) → PrivateValue p n m g v
  value_private {v} a = first_value_of (privates_as _ (outs-Value v) a).values

  pub thrown_private : {v : Value} → PrivateValue p n m g v → Private p n m g (throw_of v)
  thrown_private {v} a =
      private_at (throw_of v) _ (outs-Throw (term.Value v)) tt (one_more (term_private a) no_terms)
      no_values

  pub throw_private : {v : Value} → Private p n m g (throw_of v) → PrivateValue p n m g v
  throw_private {v} a =
      value_private (first_of (privates_as _ (outs-Throw (term.Value v)) a).terms)

  -- values of their kinds
  pub small_private : (i : ℤ) → PrivateValue p n m g (Small i)
  small_private i = private_value_at (Small i) _ (outs-Small i) tt no_terms no_values

  pub large_private : (i : ℤ) → PrivateValue p n m g (Large i)
  large_private i = private_value_at (Large i) _ (outs-Large i) tt no_terms no_values

  pub truth_private : (b : Bool) → PrivateValue p n m g (Truth b)
  truth_private b = private_value_at (Truth b) _ (outs-Truth b) tt no_terms no_values

  pub text_private : (s : List ℕ) → PrivateValue p n m g (Text s)
  text_private s = private_value_at (Text s) _ (outs-Text s) tt no_terms no_values

  pub range_private : (from : ℤ) (count : ℕ) → PrivateValue p n m g (Range from count)
  range_private from count =
      private_value_at (Range from count) _ (outs-Range from count) tt no_terms no_values

  pub tuple_private : (vs : List Value) → AllPrivateValues p n m g vs
      → PrivateValue p n m g (Tuple vs)
  tuple_private vs each = private_value_at (Tuple vs) _ (outs-Tuple vs) tt no_terms each

  pub unit_private : PrivateValue p n m g unit
  unit_private = tuple_private [] no_values

  pub array_private : (element : Ty) (base : Loc) (size : ℕ)
      → ((i : ℕ) → i < size → Open g (base.0 + i)) → PrivateValue p n m g (Array element base size)
  array_private element base size o =
      private_value_at (Array element base size) _ (outs-Array element base size) o no_terms
      no_values

  pub function_value_private : (c : Closure) → Private p n m g c.body
      → AllPrivateValues p n m g (held_values c) → PrivateValue p n m g (Function c)
  function_value_private c a vs =
      private_value_at (Function c) _ (outs-Function c) tt (one_more a no_terms) vs
