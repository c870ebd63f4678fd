-- The worked program is as it is written.
use Rattle.std.proofs.Common.{◌≡◌, ℕ, ◌&&◌, Bool, true, false, not, List, [], ◌∷◌, ◌++◌, map, None, pos, refl, ap, sym, ◌∙◌, subst}
use Rattle.std.specs.List.{list_any, concat}
use Rattle.fort_base.specs.declared.ty.Ty.{Ty}
use Rattle.fort_core.specs.declared.form.Mode.TheVariants as mode
use Rattle.fort_core.specs.declared.form.Order.TheVariants as order
use Rattle.fort_core.specs.declared.form.Span.TheVariants as span
use Rattle.fort_core.specs.declared.term.Term.{Term, fold_out-Term, out-Term}
use Rattle.fort_core.specs.declared.term.Term as term
use Rattle.fort_core.specs.declared.term.Term.TheVariants.{outs-Value, outs-Throw, outs-Variable, outs-Call, outs-Operator, outs-Apply, outs-Let, outs-Read, outs-Write, outs-ReadField, outs-WriteField, outs-Then, outs-If, outs-Typecase, outs-For, outs-Also, outs-Try, outs-Atomic}
use Rattle.fort_core.specs.declared.term.Term.TheOpen.{Term-F}
use Rattle.fort_core.specs.declared.value.Closure.{Closure, fold_out-Closure}
use Rattle.fort_core.specs.declared.value.Value.{Value, Truth, Function, fold_out-Value}
use Rattle.fort_core.specs.declared.value.Value.TheVariants.{outs-Truth, outs-Function}
use Rattle.fort_machine.specs.Parts.{terms_in, values_in, values_of, bodies_of}
use Rattle.fort_machine.specs.Runs.{location}
use Rattle.fort_machine.specs.Scopes.{is_among}
use Rattle.fort_machine.specs.Written.{all_binders_at, all_binders, closure_binders, IsWritten, IsWrittenValue, Written, written, AllWritten, end_of_terms, first_term, WrittenValue, written_value, AllWrittenValues, end_of_values, first_value, functions_at, value_functions_at, closure_functions_at, functions_in, functions_in_value}
use Rattle.fort_machine.specs.Worked.{type, set}
use Rattle.fort_machine_law_worked.proofs.WrittenForms.{binders_out, functions_out, functions_out_value, PlainValue, plain_unit, plain_number, plain_object}
use Rattle.fort_threads_law_worked.specs.Bodies.{at, function, own_body}
use Rattle.fort_threads_law_worked.specs.Types.{name}
use Rattle.fort_threads_law_worked.proofs.Codes.{ty_of}
use Rattle.fort_threads_law_worked.proofs.Forms.{Form, variable, value, number, truth, nothing, spent, fn, throw, calls, call, operator, apply, bind, read, write, field, set_field, seq, choice, typecase, loop, also, catching, atomic, term_of, own_form}

-- a term that is written, binds these, and has these functions
pub record Wrote (t : Term) (xs fs : List ℕ) : Type 0 where
  pub is_written : Written t
  pub binders : all_binders t ≡ xs
  pub functions : functions_in t ≡ fs

pub record Wrotes (ts : List Term) (xss fss : List (List ℕ)) : Type 0 where
  pub are_written : AllWritten ts
  pub binders : map all_binders ts ≡ xss
  pub functions : map functions_in ts ≡ fss

pub none : Wrotes [] [] []
none = record { are_written = end_of_terms; binders = refl; functions = refl }

pub next : {t : Term} {ts : List Term} {xs fs : List ℕ} {xss fss : List (List ℕ)} → Wrote t xs fs
    → Wrotes ts xss fss → Wrotes (t ∷ ts) (xs ∷ xss) (fs ∷ fss)
next {t} {ts} {xs} {fs} {xss} {fss} h hs = record {
  are_written = first_term h.is_written hs.are_written;
  binders = λ i. h.binders i ∷ hs.binders i;
  functions = λ i. h.functions i ∷ hs.functions i;
}

wrote_at : (t : Term) (y : Term-F Term Value Closure) (xs fs : List ℕ) → out-Term t ≡ y
    → IsWritten y → AllWritten (terms_in y) → AllWrittenValues (values_in y) → binders_out y ≡ xs
    → functions_out y ≡ fs → Wrote t xs fs
wrote_at t y xs fs e w ts vs b f = record {
  is_written =
      written (subst IsWritten (sym e) w) (subst (λ z. AllWritten (terms_in z)) (sym e) ts)
      (subst (λ z. AllWrittenValues (values_in z)) (sym e) vs);
  binders =
      fold_out-Term (List ℕ) (Unit {0}) (List ℕ) all_binders_at (λ v. tt)
      (λ c. closure_binders c ++ c.body) t ∙ ap binders_out e ∙ b;
  functions =
      fold_out-Term (List ℕ) (List ℕ) (List ℕ) functions_at value_functions_at closure_functions_at
      t ∙ ap functions_out e ∙ f;
}

-- what a form binds, and its functions
abbrev pub binders_of : Form → List ℕ
binders_of (throw a) = concat (binders_of a ∷ [])
binders_of (call s d a) = concat (binders_of a ∷ [])
binders_of (operator s d a b) = concat (binders_of a ∷ binders_of b ∷ [])
binders_of (apply a b) = concat (binders_of a ∷ binders_of b ∷ [])
binders_of (bind x A a b) = x ∷ concat (binders_of a ∷ binders_of b ∷ [])
binders_of (write l a) = concat (binders_of a ∷ [])
binders_of (field a f) = concat (binders_of a ∷ [])
binders_of (set_field a f b) = concat (binders_of a ∷ binders_of b ∷ [])
binders_of (seq a b) = concat (binders_of a ∷ binders_of b ∷ [])
binders_of (choice c a b) = concat (binders_of c ∷ binders_of a ∷ binders_of b ∷ [])
binders_of (typecase x a b A c) = x ∷ concat (binders_of a ∷ binders_of c ∷ binders_of b ∷ [])
binders_of (loop x a b) = x ∷ concat (binders_of a ∷ binders_of b ∷ [])
binders_of (also a b) = concat (binders_of a ∷ binders_of b ∷ [])
binders_of (catching a x b A) = x ∷ concat (binders_of a ∷ binders_of b ∷ [])
binders_of (atomic a) = concat (binders_of a ∷ [])
binders_of _ = []

abbrev pub functions_of : Form → List ℕ
functions_of (fn n A a) = n ∷ (functions_of a ++ [])
functions_of (throw a) = concat (functions_of a ∷ [])
functions_of (call s d a) = concat (functions_of a ∷ [])
functions_of (operator s d a b) = concat (functions_of a ∷ functions_of b ∷ [])
functions_of (apply a b) = concat (functions_of a ∷ functions_of b ∷ [])
functions_of (bind x A a b) = concat (functions_of a ∷ functions_of b ∷ [])
functions_of (write l a) = concat (functions_of a ∷ [])
functions_of (field a f) = concat (functions_of a ∷ [])
functions_of (set_field a f b) = concat (functions_of a ∷ functions_of b ∷ [])
functions_of (seq a b) = concat (functions_of a ∷ functions_of b ∷ [])
functions_of (choice c a b) = concat (functions_of c ∷ functions_of a ∷ functions_of b ∷ [])
functions_of (typecase x a b A c) =
    concat (functions_of a ∷ functions_of c ∷ functions_of b ∷ [])
functions_of (loop x a b) = concat (functions_of a ∷ functions_of b ∷ [])
functions_of (also a b) = concat (functions_of a ∷ functions_of b ∷ [])
functions_of (catching a x b A) = concat (functions_of a ∷ functions_of b ∷ [])
functions_of (atomic a) = concat (functions_of a ∷ [])
functions_of _ = []

-- no binder stands inside another one of its number
abbrev clash : ℕ → List (List ℕ) → Bool
clash x xss = list_any (λ n. is_among n (concat xss)) (x ∷ [])

abbrev pub binds_once : Form → Bool
binds_once (value v) = false
binds_once (fn n A a) = binds_once a
binds_once (throw a) = binds_once a
binds_once (call s d a) = binds_once a
binds_once (operator s d a b) = binds_once a && binds_once b
binds_once (apply a b) = binds_once a && binds_once b
binds_once (bind x A a b) =
    not (clash x (binders_of b ∷ [])) && (binds_once a && binds_once b)
binds_once (write l a) = binds_once a
binds_once (field a f) = binds_once a
binds_once (set_field a f b) = binds_once a && binds_once b
binds_once (seq a b) = binds_once a && binds_once b
binds_once (choice c a b) = binds_once c && (binds_once a && binds_once b)
binds_once (typecase x a b A c) =
    not (clash x (binders_of c ∷ binders_of b ∷ []))
    && (binds_once a && (binds_once b && binds_once c))
binds_once (loop x a b) = not (clash x (binders_of b ∷ [])) && (binds_once a && binds_once b)
binds_once (also a b) = binds_once a && binds_once b
binds_once (catching a x b A) =
    not (clash x (binders_of b ∷ [])) && (binds_once a && binds_once b)
binds_once (atomic a) = binds_once a
binds_once _ = true

pub both : (a b : Bool) → (a && b) ≡ true → (a ≡ true) × (b ≡ true)
both true b e = (refl, e)
both false b e = absurd cc

pub not_true : (b : Bool) → not b ≡ true → b ≡ false
not_true true e = absurd cc
not_true false e = refl

-- a value stands in a term
wrote_value : (v : Value) (fs : List ℕ) → WrittenValue v → functions_in_value v ≡ fs
    → Wrote (term.Value v) [] fs
wrote_value v fs w f =
    wrote_at (term.Value v) _ [] fs (outs-Value v)
    (record { before_runs = tt; no_value = tt; unnested = (tt, refl) }) end_of_terms
    (first_value w end_of_values) refl f

wrote_plain : (v : Value) → PlainValue v → Wrote (term.Value v) [] []
wrote_plain v h = wrote_value v [] h.is_written h.functions

pub truth_plain_value : (b : Bool) → PlainValue (Truth b)
truth_plain_value b = record {
  is_written =
      written_value (subst IsWrittenValue (sym (outs-Truth b)) tt)
      (subst (λ z. AllWritten (bodies_of z)) (sym (outs-Truth b)) end_of_terms)
      (subst (λ z. AllWrittenValues (values_of z)) (sym (outs-Truth b)) end_of_values);
  functions =
      fold_out-Value (List ℕ) (List ℕ) (List ℕ) functions_at value_functions_at
      closure_functions_at (Truth b) ∙ ap functions_out_value (outs-Truth b);
}

function_wrote : (n : ℕ) (A : Ty) (a : Term) (xs fs : List ℕ) → Wrote a xs fs
    → Wrote (term.Value (Function (function n A a))) [] (n ∷ (fs ++ []))
function_wrote n A a xs fs h =
    let c = function n A a in
    wrote_value (Function c) (n ∷ (fs ++ []))
    (written_value (subst IsWrittenValue (sym (outs-Function c)) (tt, refl))
    (subst (λ z. AllWritten (bodies_of z)) (sym (outs-Function c))
    (first_term h.is_written end_of_terms))
    (subst (λ z. AllWrittenValues (values_of z)) (sym (outs-Function c)) end_of_values))
    (fold_out-Value (List ℕ) (List ℕ) (List ℕ) functions_at value_functions_at closure_functions_at
    (Function c) ∙ ap functions_out_value (outs-Function c)
    ∙ fold_out-Closure (List ℕ) (List ℕ) (List ℕ) functions_at value_functions_at
    closure_functions_at c ∙ ap (λ z. n ∷ (z ++ [])) h.functions)

-- forms by their parts
simple : (t : Term) (y : Term-F Term Value Closure) (xss fss : List (List ℕ)) → out-Term t ≡ y
    → IsWritten y → values_in y ≡ [] → Wrotes (terms_in y) xss fss
    → binders_out y ≡ concat (map all_binders (terms_in y))
    → functions_out y ≡ concat (map functions_in (terms_in y)) → Wrote t (concat xss) (concat fss)
simple t y xss fss e w v ps b f =
    wrote_at t y (concat xss) (concat fss) e w ps.are_written
    (subst AllWrittenValues (sym v) end_of_values) (b ∙ ap concat ps.binders)
    (f ∙ ap concat ps.functions)

binding : (t : Term) (y : Term-F Term Value Closure) (x : ℕ) (xss fss : List (List ℕ))
    → out-Term t ≡ y → IsWritten y → values_in y ≡ [] → Wrotes (terms_in y) xss fss
    → binders_out y ≡ x ∷ concat (map all_binders (terms_in y))
    → functions_out y ≡ concat (map functions_in (terms_in y))
    → Wrote t (x ∷ concat xss) (concat fss)
binding t y x xss fss e w v ps b f =
    wrote_at t y (x ∷ concat xss) (concat fss) e w ps.are_written
    (subst AllWrittenValues (sym v) end_of_values) (b ∙ ap (λ zs. x ∷ concat zs) ps.binders)
    (f ∙ ap concat ps.functions)

apart_from : (x : ℕ) (ts : List Term) (xss fss : List (List ℕ)) → Wrotes ts xss fss
    → not (clash x xss) ≡ true → clash x (map all_binders ts) ≡ false
apart_from x ts xss fss ps h = ap (clash x) ps.binders ∙ not_true (clash x xss) h

pub wrote : (f : Form) → binds_once f ≡ true → Wrote (term_of f) (binders_of f) (functions_of f)
wrote (variable x) h =
    simple _ _ [] [] (outs-Variable x)
    (record { before_runs = tt; no_value = tt; unnested = (tt, refl) }) refl none refl refl
wrote (value v) h = absurd cc
wrote (number n) h = wrote_plain _ (plain_number (pos n))
wrote (truth b) h = wrote_plain _ (truth_plain_value b)
wrote nothing h = wrote_plain _ plain_unit
wrote spent h = wrote_plain _ (plain_object (type 17) (location 14))
wrote (fn n A a) h = function_wrote n (ty_of A) (term_of a) _ _ (wrote a h)
wrote (throw a) h =
    simple _ _ _ _ (outs-Throw (term_of a))
    (record { before_runs = tt; no_value = tt; unnested = (tt, refl) }) refl (next
    (wrote a h) none)
    refl refl
wrote (calls s d) h =
    simple _ _ [] [] (outs-Call (set s) [])
    (record { before_runs = tt; no_value = tt; unnested = (tt, refl) }) refl none refl refl
wrote (call s d a) h =
    simple _ _ _ _ (outs-Call (set s) (term_of a ∷ []))
    (record { before_runs = tt; no_value = tt; unnested = (tt, refl) }) refl (next
    (wrote a h) none)
    refl refl
wrote (operator s d a b) h = let q = both (binds_once a) (binds_once b) h in
    simple _ _ _ _ (outs-Operator (set s) (term_of a ∷ term_of b ∷ []))
    (record { before_runs = tt; no_value = tt; unnested = (tt, refl) }) refl
    (next (wrote a q.0) (next (wrote b q.1) none)) refl refl
wrote (apply a b) h = let q = both (binds_once a) (binds_once b) h in
    simple _ _ _ _ (outs-Apply (term_of a) (term_of b))
    (record { before_runs = tt; no_value = tt; unnested = (tt, refl) }) refl
    (next (wrote a q.0) (next (wrote b q.1) none)) refl refl
wrote (bind x A a b) h =
    let p = both (not (clash x (binders_of b ∷ []))) (binds_once a && binds_once b) h in
    let q = both (binds_once a) (binds_once b) p.1 in
    let bs = next (wrote b q.1) none in
    binding _ _ x _ _ (outs-Let ((x, ty_of A) ∷ []) (term_of a) (term_of b))
    (record {
      before_runs = tt;
      no_value = tt;
      unnested = ((refl, tt), apart_from x _ _ _ bs p.0);
    })
    refl (next (wrote a q.0) bs) refl refl
wrote (read l) h =
    simple _ _ [] [] (outs-Read (at l))
    (record { before_runs = tt; no_value = tt; unnested = (tt, refl) }) refl none refl refl
wrote (write l a) h =
    simple _ _ _ _ (outs-Write (at l) (term_of a))
    (record { before_runs = tt; no_value = tt; unnested = (tt, refl) }) refl (next
    (wrote a h) none)
    refl refl
wrote (field a f) h =
    simple _ _ _ _ (outs-ReadField (term_of a) (name f))
    (record { before_runs = tt; no_value = tt; unnested = (tt, refl) }) refl (next
    (wrote a h) none)
    refl refl
wrote (set_field a f b) h = let q = both (binds_once a) (binds_once b) h in
    simple _ _ _ _ (outs-WriteField (term_of a) (name f) (term_of b))
    (record { before_runs = tt; no_value = tt; unnested = (tt, refl) }) refl
    (next (wrote a q.0) (next (wrote b q.1) none)) refl refl
wrote (seq a b) h = let q = both (binds_once a) (binds_once b) h in
    simple _ _ _ _ (outs-Then (term_of a) (term_of b))
    (record { before_runs = tt; no_value = tt; unnested = (tt, refl) }) refl
    (next (wrote a q.0) (next (wrote b q.1) none)) refl refl
wrote (choice c a b) h =
    let p = both (binds_once c) (binds_once a && binds_once b) h in
    let q = both (binds_once a) (binds_once b) p.1 in
    simple _ _ _ _ (outs-If (term_of c) (term_of a) (term_of b))
    (record { before_runs = tt; no_value = tt; unnested = (tt, refl) }) refl
    (next (wrote c p.0) (next (wrote a q.0) (next (wrote b q.1) none))) refl refl
wrote (typecase x a b A c) h =
    let o = both (not (clash x (binders_of c ∷ binders_of b ∷ [])))
    (binds_once a && (binds_once b && binds_once c)) h in
    let p = both (binds_once a) (binds_once b && binds_once c) o.1 in
    let q = both (binds_once b) (binds_once c) p.1 in
    let bs = next (wrote c q.1) (next (wrote b q.0) none) in
    binding _ _ x _ _ (outs-Typecase x (term_of a) ((term_of b, ty_of A) ∷ []) (term_of c))
    (record {
      before_runs = tt;
      no_value = tt;
      unnested = ((refl, tt), apart_from x _ _ _ bs o.0);
    })
    refl (next (wrote a p.0) bs) refl refl
wrote (loop x a b) h =
    let p = both (not (clash x (binders_of b ∷ []))) (binds_once a && binds_once b) h in
    let q = both (binds_once a) (binds_once b) p.1 in
    let bs = next (wrote b q.1) none in
    binding _ _ x _ _ (outs-For order.Parallel span.Whole x (term_of a) (term_of b))
    (record {
      before_runs = refl;
      no_value = tt;
      unnested = ((refl, tt), apart_from x _ _ _ bs p.0);
    })
    refl (next (wrote a q.0) bs) refl refl
wrote (also a b) h = let q = both (binds_once a) (binds_once b) h in
    simple _ _ _ _ (outs-Also (term_of a ∷ term_of b ∷ []))
    (record { before_runs = tt; no_value = tt; unnested = (tt, refl) }) refl
    (next (wrote a q.0) (next (wrote b q.1) none)) refl refl
wrote (catching a x b A) h =
    let p = both (not (clash x (binders_of b ∷ []))) (binds_once a && binds_once b) h in
    let q = both (binds_once a) (binds_once b) p.1 in
    let bs = next (wrote b q.1) none in
    binding _ _ x _ _ (outs-Try (term_of a) x ((term_of b, ty_of A) ∷ []) None)
    (record {
      before_runs = tt;
      no_value = tt;
      unnested = ((refl, tt), apart_from x _ _ _ bs p.0);
    })
    refl (next (wrote a q.0) bs) refl refl
wrote (atomic a) h =
    simple _ _ _ _ (outs-Atomic mode.Atomic (term_of a))
    (record { before_runs = tt; no_value = tt; unnested = (tt, refl) }) refl (next
    (wrote a h) none)
    refl refl

pub own_is_written : Written own_body
own_is_written = (wrote own_form refl).is_written
