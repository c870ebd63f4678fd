-- What is at rest stays at rest, with values and locations in place of its variables.
use Rattle.std.proofs.Common.{◌≡◌, ℕ, ◌==◌, Bool, true, false, ◌&&◌, ◌||◌, if◌then◌else◌, List, [], ◌∷◌, map, Option, Some, None, refl, ap, sym, ◌∙◌, subst, ◌⊎◌, inl, inr}
use Rattle.std.specs.Prelude.{nat_le, nat_lt, option_map, option_and_then}
use Rattle.std.specs.List.{list_any}
use mathlib.Core.List.{map-map}
use Rattle.fort_core.specs.declared.term.Term.{Term, Group, Fn, Write, out-Term, out-roll-Term, map-Term}
use Rattle.fort_core.specs.declared.term.Term as term
use Rattle.fort_core.specs.declared.term.Term.TheVariants.{Variable, outs-Value, outs-Variable, outs-Fn, outs-Group, outs-Read, outs-Write}
use Rattle.fort_core.specs.declared.term.Term.TheOpen.{Term-F, Value-F}
use Rattle.fort_core.specs.declared.value.Value.{Value, Function, out-Value}
use Rattle.fort_core.specs.declared.value.Value as value
use Rattle.fort_core.specs.declared.value.Value.TheVariants.{outs-Tuple, outs-Function}
use Rattle.fort_core.specs.declared.value.Closure.{Closure, out-Closure, roll-out-Closure, para-roll-Closure, fold_out-Closure}
use Rattle.fort_machine.specs.Texts.{depth, closure_depth, deepest}
use Rattle.fort_machine.specs.Ends.{Standing, at_value, at_throw, open_yet, standing, Finished, value_at, values_of, tuple_of, group}
use Rattle.fort_machine.specs.Ends as ends
use Rattle.fort_machine.specs.Parts.{parts_of, terms_in, held_values, values_in, bodies_of}
use Rattle.fort_machine.specs.Parts as parts
use Rattle.fort_machine.specs.Scopes.{holds_all, function}
use Rattle.fort_machine.specs.Substitution.{Changed, now, remade, occurs, put_held, held_by, with_value, substituted, substituted_all, at_location, with_location, closure_now, located}
use Rattle.fort_machine.specs.Marked.{dozes_at, dozes, Bare}
use Rattle.fort_machine.specs.Written.{IsNoValue, IsBeforeRuns, Written, written, AllWritten, end_of_terms, first_term, WrittenValue, written_value, AllWrittenValues, end_of_values, first_value}
use Rattle.fort_machine.specs.Proper.{RestsUntouched, Resting, resting, AllResting, no_rests, next_rest, RestingValue, resting_value, AllRestingValues, no_resting_values, next_resting_value}
use Rattle.fort_machine.proofs.Standing.{decide, standing-Value, standing-throw}
use Rattle.fort_machine.proofs.Substituted.{parts_map, pairs, held_body}
use Rattle.fort_machine.proofs.Less.{values_by, closures_by, substituted_out, values_at, closures_at, located_out, truths, closure_truths, dozing, out_dozes}

-- a term at rest by its form
pub rests_at : (t : Term) (y : Term-F Term Value Closure) → out-Term t ≡ y → RestsUntouched y
    → IsNoValue y → AllResting (terms_in y) → AllRestingValues (values_in y) → Resting t
rests_at t y e u n ts vs =
    resting (subst RestsUntouched (sym e) u) (subst IsNoValue (sym e) n)
    (subst (λ z. AllResting (terms_in z)) (sym e) ts)
    (subst (λ z. AllRestingValues (values_in z)) (sym e) vs)

pub record Rests (y : Term-F Term Value Closure) : Type 0 where
  pub untouched : RestsUntouched y
  pub no_value : IsNoValue y
  pub terms : AllResting (terms_in y)
  pub values : AllRestingValues (values_in y)

pub rests_of : {t : Term} → Resting t → Rests (out-Term t)
rests_of (resting u n ts vs) = record { untouched = u; no_value = n; terms = ts; values = vs }

pub rests_as : {t : Term} (y : Term-F Term Value Closure) → out-Term t ≡ y → Resting t → Rests y
rests_as y e h = subst Rests e (rests_of h)

pub value_at_rest : (v : Value) (y : Value-F Term Value Closure) → out-Value v ≡ y
    → AllResting (bodies_of y) → AllRestingValues (parts.values_of y) → RestingValue v
value_at_rest v y e ts vs =
    resting_value (subst (λ z. AllResting (bodies_of z)) (sym e) ts)
    (subst (λ z. AllRestingValues (parts.values_of z)) (sym e) vs)

pub record RestsValue (y : Value-F Term Value Closure) : Type 0 where
  pub terms : AllResting (bodies_of y)
  pub values : AllRestingValues (parts.values_of y)

pub value_rests_of : {v : Value} → RestingValue v → RestsValue (out-Value v)
value_rests_of (resting_value ts vs) = record { terms = ts; values = vs }

pub one_rest : {t : Term} → AllResting (t ∷ []) → Resting t
one_rest (next_rest h hs) = h

pub one_value_rests : {v : Value} → AllRestingValues (v ∷ []) → RestingValue v
one_value_rests (next_resting_value h hs) = h

pub rest_term : {v : Value} → RestingValue v → Resting (term.Value v)
rest_term {v} h =
    rests_at (term.Value v) _ (outs-Value v) tt tt no_rests (next_resting_value h no_resting_values)

pub term_rest : {v : Value} → Resting (term.Value v) → RestingValue v
term_rest {v} h = one_value_rests (rests_as _ (outs-Value v) h).values

-- what is written is at rest
untouched_before : (y : Term-F Term Value Closure) → IsBeforeRuns y → RestsUntouched y
untouched_before (Term-F.Asleep marks a) w = w
untouched_before (Term-F.Stepped a) w = w
untouched_before _ w = tt

mutual
  pub written_rests : {t : Term} → Written t → Resting t
  written_rests {t} (written w ts vs) =
      resting (untouched_before (out-Term t) w.before_runs) w.no_value (all_written_rest ts)
      (written_values_rest vs)

  pub all_written_rest : {ts : List Term} → AllWritten ts → AllResting ts
  all_written_rest end_of_terms = no_rests
  all_written_rest (first_term h hs) = next_rest (written_rests h) (all_written_rest hs)

  pub written_value_rests : {v : Value} → WrittenValue v → RestingValue v
  written_value_rests (written_value w ts vs) =
      resting_value (all_written_rest ts) (written_values_rest vs)

  pub written_values_rest : {vs : List Value} → AllWrittenValues vs → AllRestingValues vs
  written_values_rest end_of_values = no_resting_values
  written_values_rest (first_value h hs) =
      next_resting_value (written_value_rests h) (written_values_rest hs)

-- no form sleeps in what is at rest
abbrev EachBare : List Term → Type 0
EachBare [] = Unit {0}
EachBare (t ∷ ts) = Bare t × EachBare ts

none_dozes : (ts : List Term) → EachBare ts → list_any (λ (b : Bool). b) (map dozes ts) ≡ false
none_dozes [] e = refl
none_dozes (t ∷ ts) e =
    ap (λ b. b || list_any (λ (b : Bool). b) (map dozes ts)) e.0 ∙ none_dozes ts e.1

bare_form : (y : Term-F Term Value Closure) → RestsUntouched y → EachBare (terms_in y)
    → dozing y ≡ false
bare_form (Term-F.Asleep marks a) w e = absurd w
bare_form (Term-F.Fn c) w e =
    fold_out-Closure Bool (Unit {0}) Bool dozes_at (λ v. tt) (λ c. c.body) c ∙ e.0
bare_form form w e =
    ap (list_any (λ (b : Bool). b)) (parts_map dozes truths closure_truths form)
    ∙ none_dozes (parts_of form) e

mutual
  pub rest_bare : {t : Term} → Resting t → Bare t
  rest_bare {t} (resting u n ts vs) = out_dozes t ∙ bare_form (out-Term t) u (each_bare ts)

  each_bare : {ts : List Term} → AllResting ts → EachBare ts
  each_bare no_rests = tt
  each_bare (next_rest h hs) = (rest_bare h, each_bare hs)

-- what stands at a value is that value
pub is_value : (t : Term) (v : Value) → standing t ≡ at_value v → t ≡ term.Value v
is_value t v e = go (decide t)
  where
    go : (standing t ≡ open_yet) ⊎ Finished t → t ≡ term.Value v
    go (inl o) = let z : at_value v ≡ open_yet = sym e ∙ o in absurd cc
    go (inr (ends.Finished.value w q)) =
        let z : at_value v ≡ at_value w = sym e ∙ ap standing q ∙ standing-Value w
        in let y : w ≡ v = cc in q ∙ ap term.Value y
    go (inr (ends.Finished.throw w q)) =
        let z : at_value v ≡ at_throw w = sym e ∙ ap standing q ∙ standing-throw w in absurd cc

pub is_throw : (t : Term) (v : Value) → standing t ≡ at_throw v → t ≡ ends.throw_of v
is_throw t v e = go (decide t)
  where
    go : (standing t ≡ open_yet) ⊎ Finished t → t ≡ ends.throw_of v
    go (inl o) = let z : at_throw v ≡ open_yet = sym e ∙ o in absurd cc
    go (inr (ends.Finished.value w q)) =
        let z : at_throw v ≡ at_value w = sym e ∙ ap standing q ∙ standing-Value w in absurd cc
    go (inr (ends.Finished.throw w q)) =
        let z : at_throw v ≡ at_throw w = sym e ∙ ap standing q ∙ standing-throw w
        in let y : w ≡ v = cc in q ∙ ap ends.throw_of y

-- a tuple is a form or its value
pub data Grouped (ts : List Term) : Type 0 where
  as_form : group ts ≡ Group ts → Grouped ts
  as_value : (vs : List Value) → values_of ts ≡ Some vs → group ts ≡ term.Value (value.Tuple vs)
      → Grouped ts

pub grouped : (ts : List Term) → Grouped ts
grouped ts = go (values_of ts) refl
  where
    at : (vs : List Value) → values_of ts ≡ Some vs → (b : Bool)
        → group ts ≡ (if b then term.Value (value.Tuple vs) else Group ts) → Grouped ts
    at vs e true q = as_value vs e q
    at vs e false q = as_form q

    go : (o : Option (List Value)) → values_of ts ≡ o → Grouped ts
    go None e = as_form (ap (tuple_of ts) e)
    go (Some vs) e = at vs e (nat_le (depth (value.Tuple vs)) deepest) (ap (tuple_of ts) e)

-- the values of terms that all are values
module _ (P : Term → Type 0) (out : (v : Value) → P (term.Value v) → RestingValue v) where
  abbrev pub EachOf : List Term → Type 0
  EachOf [] = Unit {0}
  EachOf (t ∷ ts) = P t × EachOf ts

  abbrev first_value_of : List Term → Standing → Option (List Value)
  first_value_of ts st =
      option_and_then (λ
      (v : Value). option_map (λ (vs : List Value). v ∷ vs) (values_of ts)) (value_at st)

  pub values_at_rest : (ts : List Term) (vs : List Value) → values_of ts ≡ Some vs → EachOf ts
      → AllRestingValues vs
  values_at_rest [] vs e h = let z : [] ≡ vs = cc in subst AllRestingValues z no_resting_values
  values_at_rest (t ∷ ts) vs e h =
      go (standing t) refl (values_of ts) refl (λ us r. values_at_rest ts us r h.1)
    where
      go : (st : Standing) → standing t ≡ st → (o : Option (List Value)) → values_of ts ≡ o
          → ((us : List Value) → values_of ts ≡ Some us → AllRestingValues us) → AllRestingValues vs
      go (at_throw v) q o r m =
          let z : None ≡ Some vs = sym (ap (first_value_of ts) q) ∙ e in absurd cc
      go open_yet q o r m = let z : None ≡ Some vs = sym (ap (first_value_of ts) q) ∙ e in absurd cc
      go (at_value v) q None r m =
          let z : None ≡ Some vs =
          sym (ap (first_value_of ts) q ∙ ap (option_map (λ (vs : List Value). v ∷ vs)) r) ∙ e
          in absurd cc
      go (at_value v) q (Some us) r m =
          let z : Some (v ∷ us) ≡ Some vs =
          sym (ap (first_value_of ts) q ∙ ap (option_map (λ (vs : List Value). v ∷ vs)) r) ∙ e
          in
          let y : v ∷ us ≡ vs = cc in
          subst AllRestingValues y
          (next_resting_value (out v (subst P (is_value t v q) h.0)) (m us r))

each_rests : {ts : List Term} → AllResting ts → EachOf Resting (λ v h. term_rest h) ts
each_rests no_rests = tt
each_rests (next_rest h hs) = (h, each_rests hs)

pub tuple_rests : (vs : List Value) → AllRestingValues vs → RestingValue (value.Tuple vs)
tuple_rests vs h = value_at_rest (value.Tuple vs) _ (outs-Tuple vs) no_rests h

pub group_rests : (ts : List Term) → AllResting ts → Resting (group ts)
group_rests ts h = go (grouped ts)
  where
    go : Grouped ts → Resting (group ts)
    go (as_form e) = rests_at (group ts) _ (ap out-Term e ∙ outs-Group ts) tt e h no_resting_values
    go (as_value vs e q) =
        subst Resting (sym q)
        (rest_term
        (tuple_rests vs (values_at_rest Resting (λ v h. term_rest h) ts vs e (each_rests h))))

-- a function is a form or its value
pub function_value_rests : (c : Closure) → Resting c.body → AllRestingValues (held_values c)
    → RestingValue (Function c)
function_value_rests c h vs =
    value_at_rest (Function c) _ (outs-Function c) (next_rest h no_rests) vs

pub function_rests : (c : Closure) → Resting c.body → AllRestingValues (held_values c)
    → Resting (function c)
function_rests c h vs = go (holds_all c && nat_le (closure_depth c) deepest) refl
  where
    go : (b : Bool) → function c ≡ (if b then term.Value (Function c) else Fn c)
        → Resting (function c)
    go true e = subst Resting (sym e) (rest_term (function_value_rests c h vs))
    go false e = rests_at (function c) _ (ap out-Term e ∙ outs-Fn c) tt e (next_rest h no_rests) vs

-- a form with other parts
module _ {A B : Type 0} (F : Term → Term) (g : Value → A) (h : Closure → B) where
  abbrev same_form : Term-F Term Value Closure → Term-F Term Value Closure
  same_form y =
      map-Term Changed (Value × A) (Closure
      × B) Term Value Closure now (λ v. v.0) (λ c. c.0) (pairs F g h y)

  same_parts : (y : Term-F Term Value Closure) → parts_of (same_form y) ≡ map F (parts_of y)
  same_parts y =
      parts_map now (λ (v : Value × A). v.0) (λ
      (c : Closure × B). c.0) (pairs F g h y)
      ∙ ap (map now) (parts_map (λ t. (t, F t)) (λ w. (w, g w)) (λ c. (c, h c)) y)
      ∙ map-map now (λ t. (t, F t)) (parts_of y)

  pub remade_rests : (y : Term-F Term Value Closure) → RestsUntouched y
      → AllResting (map F (terms_in y)) → AllRestingValues (values_in y)
      → ((c : Closure) → y ≡ Term-F.Fn c → ⊥) → Resting (remade (pairs F g h y))
  remade_rests (Term-F.Group ts) u ps vs n =
      group_rests (map now (map (λ t. (t, F t)) ts))
      (subst AllResting (sym (map-map now (λ t. (t, F t)) ts)) ps)
  remade_rests (Term-F.Fn c) u ps vs n = absurd (n c refl)
  remade_rests (Term-F.Asleep ms a) u ps vs n = absurd u
  remade_rests (Term-F.Stepped a) u ps vs n = absurd u
  remade_rests form u ps vs n =
      rests_at (remade (pairs F g h form)) _ (out-roll-Term (same_form form)) tt tt
      (subst AllResting (sym (same_parts form)) ps) vs

-- a value in place of a variable
module _ (x : ℕ) (v : Value) (hv : RestingValue v) where
  put_rests : (hs : List (ℕ × Value)) → AllRestingValues (map (λ (h : ℕ × Value). h.1) hs)
      → AllRestingValues (map (λ (h : ℕ × Value). h.1) (put_held x v hs))
  put_rests [] i = next_resting_value hv no_resting_values
  put_rests (h ∷ hs) (next_resting_value j js) = go (nat_lt x h.0) (put_rests hs js)
    where
      go : (b : Bool) → AllRestingValues (map (λ (h : ℕ × Value). h.1) (put_held x v hs))
          → AllRestingValues (map (λ
          (h : ℕ × Value). h.1) (if b then (x, v) ∷ h ∷ hs else h ∷ put_held x v hs))
      go true r = next_resting_value hv (next_resting_value j js)
      go false r = next_resting_value j r

  held_rests : (c : Closure) → AllRestingValues (held_values c)
      → AllRestingValues (held_values (held_by x v c))
  held_rests c i = go (occurs x c.body)
    where
      go : (b : Bool)
          → AllRestingValues
          (held_values (if b then record c { held = put_held x v c.held } else c))
      go true = put_rests c.held i
      go false = i

  variable_rests : (y : ℕ) (b : Bool) → Resting (if b then term.Value v else Variable y)
  variable_rests y true = rest_term hv
  variable_rests y false =
      rests_at (Variable y) _ (outs-Variable y) tt tt no_rests no_resting_values

  substituted_at : (y : Term-F Term Value Closure) → RestsUntouched y → AllResting (terms_in y)
      → AllResting (map (substituted x v) (terms_in y)) → AllRestingValues (values_in y)
      → Resting (with_value x v (pairs (substituted x v) (values_by x v) (closures_by x v) y))
  substituted_at (Term-F.Variable y) u ts rs vs = variable_rests y (x == y)
  substituted_at (Term-F.Fn c) u ts rs vs =
      function_rests (held_by x v c) (subst Resting (sym (held_body x v c)) (one_rest ts))
      (held_rests c vs)
  substituted_at form u ts rs vs =
      remade_rests (substituted x v) (values_by x v) (closures_by x v) form u rs vs (λ c e. cc)

  mutual
    pub substituted_rests : {t : Term} → Resting t → Resting (substituted x v t)
    substituted_rests {t} (resting u n ts vs) =
        subst Resting (sym (substituted_out x v t))
        (substituted_at (out-Term t) u ts (substituted_all_rest ts) vs)

    substituted_all_rest : {ts : List Term} → AllResting ts → AllResting (map (substituted x v) ts)
    substituted_all_rest no_rests = no_rests
    substituted_all_rest (next_rest h hs) =
        next_rest (substituted_rests h) (substituted_all_rest hs)

abbrev pub HeldRest : List (ℕ × Value) → Type 0
HeldRest hs = AllRestingValues (map (λ (h : ℕ × Value). h.1) hs)

pub rests_with : (hs : List (ℕ × Value)) (t : Term) → HeldRest hs → Resting t
    → Resting (substituted_all hs t)
rests_with [] t i h = h
rests_with (e ∷ hs) t (next_resting_value j js) h =
    rests_with hs (substituted e.0 e.1 t) js (substituted_rests e.0 e.1 j h)

-- a location in place of a variable
module _ (x l : ℕ) where
  held_still : (hs : List (ℕ × Value))
      → map (λ (h : ℕ × (Value × Unit {0})). (h.0, h.1.0)) (map (λ
      (h : ℕ × Value). (h.0, (h.1, values_at x l h.1))) hs) ≡ hs
  held_still [] = refl
  held_still (h ∷ hs) = ap (λ r. h ∷ r) (held_still hs)

  pub closure_at : (c : Closure) → closures_at x l c ≡ record c { body = located x l c.body }
  unfolding located
  closure_at c =
      ap (closures_at x l) (sym (roll-out-Closure c))
      ∙ para-roll-Closure Term (Unit {0}) Closure (with_location x l) (λ w. tt) closure_now
      (out-Closure c)
      ∙ ap (λ (hs : List (ℕ × Value)). record c { body = located x l c.body; held = hs })
      (held_still c.held)

  located_at : (y : Term-F Term Value Closure) → RestsUntouched y
      → AllResting (map (located x l) (terms_in y)) → AllRestingValues (values_in y)
      → Resting (with_location x l (pairs (located x l) (values_at x l) (closures_at x l) y))
  located_at (Term-F.Read y) u rs vs = rests_at _ _ (outs-Read (at_location x l y)) tt tt rs vs
  located_at (Term-F.Write y a) u rs vs =
      rests_at _ _ (outs-Write (at_location x l y) (located x l a)) tt tt rs vs
  located_at (Term-F.Fn c) u rs vs =
      subst (λ z. Resting (function z)) (sym (closure_at c))
      (function_rests (record c { body = located x l c.body }) (one_rest rs) vs)
  located_at form u rs vs =
      remade_rests (located x l) (values_at x l) (closures_at x l) form u rs vs (λ c e. cc)

  mutual
    pub located_rests : {t : Term} → Resting t → Resting (located x l t)
    located_rests {t} (resting u n ts vs) =
        subst Resting (sym (located_out x l t)) (located_at (out-Term t) u (located_all_rest ts) vs)

    located_all_rest : {ts : List Term} → AllResting ts → AllResting (map (located x l) ts)
    located_all_rest no_rests = no_rests
    located_all_rest (next_rest h hs) = next_rest (located_rests h) (located_all_rest hs)
