-- Forms as they are written, with what they bind, at each form that the worked programs have; no
-- function stands there.
use Rattle.std.proofs.Common.{◌≡◌, ℕ, zero, suc, List, [], ◌∷◌, ◌++◌, map, Some, None, refl, ap, sym, ◌∙◌, subst}
use Rattle.std.specs.Prelude.{slice_get, ℤ}
use Rattle.std.specs.List.{list_any, concat}
use Rattle.fort_base.specs.declared.ids.Loc.{Loc}
use Rattle.fort_base.specs.declared.ids.SetId.{SetId}
use Rattle.fort_base.specs.declared.ids.TypeId.{TypeId}
use Rattle.fort_base.specs.declared.ty.Ty.{Ty}
use Rattle.fort_core.specs.declared.form.Mode.{Mode}
use Rattle.fort_core.specs.declared.form.Slot.{Slot}
use Rattle.fort_core.specs.declared.program.CoreDecl.{CoreDecl}
use Rattle.fort_core.specs.declared.program.Program.{Program}
use Rattle.fort_core.specs.declared.term.Term.{Term, Throw, Call, Operator, Mutable, Write, Then, If, Also, Try, Atomic, out-Term, map-Term, fold_out-Term}
use Rattle.fort_core.specs.declared.term.Term as term
use Rattle.fort_core.specs.declared.term.Term.TheVariants.{Read, outs-Value, outs-Throw, outs-Call, outs-Operator, outs-Mutable, outs-Read, outs-Write, outs-Then, outs-If, outs-Also, outs-Try, outs-Atomic}
use Rattle.fort_core.specs.declared.term.Term.TheOpen.{Term-F, Value-F}
use Rattle.fort_core.specs.declared.value.Value.{Value, Small, Text, Tuple, Object, out-Value, map-Value, fold-Value, fold_out-Value}
use Rattle.fort_core.specs.declared.value.Value.TheVariants.{outs-Small, outs-Text, outs-Tuple, outs-Object}
use Rattle.fort_core.specs.declared.value.Closure.{Closure, fold-Closure}
use Rattle.fort_machine.specs.Parts.{terms_in, values_in, values_of, bodies_of}
use Rattle.fort_machine.specs.Scopes.{is_among}
use Rattle.fort_machine.specs.Written.{all_binders_at, all_binders, closure_binders, AreApart, IsWritten, IsWrittenValue, Written, written, AllWritten, end_of_terms, first_term, WrittenValue, written_value, AllWrittenValues, end_of_values, first_value, functions_at, value_functions_at, closure_functions_at, functions_in, functions_in_value, IsDeclared}

-- what is in a layer
abbrev pub value_binders : Value → Unit {0}
value_binders =
    fold-Value (List ℕ) (Unit {0}) (List ℕ) all_binders_at (λ v. tt)
    (λ c. closure_binders c ++ c.body)

abbrev pub closures_binders : Closure → List ℕ
closures_binders =
    fold-Closure (List ℕ) (Unit {0}) (List ℕ) all_binders_at (λ v. tt)
    (λ c. closure_binders c ++ c.body)

abbrev pub functions_in_closure : Closure → List ℕ
functions_in_closure =
    fold-Closure (List ℕ) (List ℕ) (List ℕ) functions_at value_functions_at closure_functions_at

abbrev pub binders_out : Term-F Term Value Closure → List ℕ
binders_out y =
    all_binders_at
    (map-Term Term Value Closure (List ℕ) (Unit {0}) (List ℕ) all_binders value_binders
    closures_binders y)

abbrev pub functions_out : Term-F Term Value Closure → List ℕ
functions_out y =
    functions_at
    (map-Term Term Value Closure (List ℕ) (List ℕ) (List ℕ) functions_in functions_in_value
    functions_in_closure y)

abbrev pub functions_out_value : Value-F Term Value Closure → List ℕ
functions_out_value y =
    value_functions_at
    (map-Value Term Value Closure (List ℕ) (List ℕ) (List ℕ) functions_in functions_in_value
    functions_in_closure y)

-- a term that is written, binds these, and has no function in it
pub record Plain (t : Term) (xs : List ℕ) : Type 0 where
  pub is_written : Written t
  pub binders : all_binders t ≡ xs
  pub functions : functions_in t ≡ []

pub record Plains (ts : List Term) (xss : List (List ℕ)) : Type 0 where
  pub are_written : AllWritten ts
  pub binders : map all_binders ts ≡ xss
  pub functions : concat (map functions_in ts) ≡ []

pub none : Plains [] []
none = record { are_written = end_of_terms; binders = refl; functions = refl }

pub next : {t : Term} {ts : List Term} {xs : List ℕ} {xss : List (List ℕ)} → Plain t xs
    → Plains ts xss → Plains (t ∷ ts) (xs ∷ xss)
next {t} {ts} {xs} {xss} h hs = record {
  are_written = first_term h.is_written hs.are_written;
  binders = ap (λ z. z ∷ map all_binders ts) h.binders ∙ ap (λ z. xs ∷ z) hs.binders;
  functions = ap (λ z. z ++ concat (map functions_in ts)) h.functions ∙ hs.functions;
}

pub plain_at : (t : Term) (y : Term-F Term Value Closure) (xs : List ℕ) → out-Term t ≡ y
    → IsWritten y → AllWritten (terms_in y) → AllWrittenValues (values_in y) → binders_out y ≡ xs
    → functions_out y ≡ [] → Plain t xs
plain_at t y xs e w ts vs b f = record {
  is_written =
      written (subst IsWritten (sym e) w) (subst (λ z. AllWritten (terms_in z)) (sym e) ts)
      (subst (λ z. AllWrittenValues (values_in z)) (sym e) vs);
  binders =
      fold_out-Term (List ℕ) (Unit {0}) (List ℕ) all_binders_at (λ v. tt)
      (λ c. closure_binders c ++ c.body) t ∙ ap binders_out e ∙ b;
  functions =
      fold_out-Term (List ℕ) (List ℕ) (List ℕ) functions_at value_functions_at closure_functions_at
      t ∙ ap functions_out e ∙ f;
}

-- values
pub record PlainValue (v : Value) : Type 0 where
  pub is_written : WrittenValue v
  pub functions : functions_in_value v ≡ []

value_at : (v : Value) (y : Value-F Term Value Closure) → out-Value v ≡ y → IsWrittenValue y
    → AllWritten (bodies_of y) → AllWrittenValues (values_of y) → functions_out_value y ≡ []
    → PlainValue v
value_at v y e w ts vs f = record {
  is_written =
      written_value (subst IsWrittenValue (sym e) w)
      (subst (λ z. AllWritten (bodies_of z)) (sym e) ts)
      (subst (λ z. AllWrittenValues (values_of z)) (sym e) vs);
  functions =
      fold_out-Value (List ℕ) (List ℕ) (List ℕ) functions_at value_functions_at closure_functions_at
      v ∙ ap functions_out_value e ∙ f;
}

pub plain_unit : PlainValue (Tuple [])
plain_unit = value_at (Tuple []) _ (outs-Tuple []) tt end_of_terms end_of_values refl

pub plain_object : (id : TypeId) (base : Loc) → PlainValue (Object id base)
plain_object id base =
    value_at (Object id base) _ (outs-Object id base) tt end_of_terms end_of_values refl

pub plain_number : (n : ℤ) → PlainValue (Small n)
plain_number n = value_at (Small n) _ (outs-Small n) tt end_of_terms end_of_values refl

pub plain_text : (s : List ℕ) → PlainValue (Text s)
plain_text s = value_at (Text s) _ (outs-Text s) tt end_of_terms end_of_values refl

pub plain-Value : (v : Value) → PlainValue v → Plain (term.Value v) []
plain-Value v h =
    plain_at (term.Value v) _ [] (outs-Value v)
    (record { before_runs = tt; no_value = tt; unnested = (tt, refl) }) end_of_terms
    (first_value h.is_written end_of_values) refl h.functions

-- forms
pub plain-Throw : {xs : List ℕ} (a : Term) → Plain a xs → Plain (Throw a) (concat (xs ∷ []))
plain-Throw {xs} a h = let ps = next h none in
    plain_at (Throw a) _ (concat (xs ∷ [])) (outs-Throw a)
    (record { before_runs = tt; no_value = tt; unnested = (tt, refl) }) ps.are_written
    end_of_values (ap concat ps.binders) ps.functions

pub plain-Call : {xss : List (List ℕ)} (set : SetId) (ts : List Term) → Plains ts xss
    → Plain (Call set ts) (concat xss)
plain-Call {xss} set ts ps =
    plain_at (Call set ts) _ (concat xss) (outs-Call set ts)
    (record { before_runs = tt; no_value = tt; unnested = (tt, refl) }) ps.are_written end_of_values
    (ap concat ps.binders) ps.functions

pub plain-Operator : {xss : List (List ℕ)} (set : SetId) (ts : List Term) → Plains ts xss
    → Plain (Operator set ts) (concat xss)
plain-Operator {xss} set ts ps =
    plain_at (Operator set ts) _ (concat xss) (outs-Operator set ts)
    (record { before_runs = tt; no_value = tt; unnested = (tt, refl) }) ps.are_written end_of_values
    (ap concat ps.binders) ps.functions

pub plain-Mutable : {xs ys : List ℕ} (x : ℕ) (ty : Ty) (a b : Term) → Plain a xs → Plain b ys
    → AreApart (x ∷ []) (concat (ys ∷ [])) → Plain (Mutable x ty a b) (x ∷ concat (xs ∷ ys ∷ []))
plain-Mutable {xs} {ys} x ty a b ha hb d =
    let ps = next ha (next hb none) in let bs = next hb none in
    plain_at (Mutable x ty a b) _ (x ∷ concat (xs ∷ ys ∷ [])) (outs-Mutable x ty a b)
    (record {
      before_runs = tt;
      no_value = tt;
      unnested = (
        (refl, tt),
        ap (λ zs. list_any (λ n. is_among n zs) (x ∷ [])) (ap concat bs.binders)
            ∙ d,
      );
    })
    ps.are_written end_of_values (ap (λ zs. x ∷ concat zs) ps.binders) ps.functions

pub plain-Read : (x : Slot) → Plain (Read x) []
plain-Read x =
    plain_at (Read x) _ [] (outs-Read x)
    (record { before_runs = tt; no_value = tt; unnested = (tt, refl) }) end_of_terms end_of_values
    refl refl

pub plain-Write : {xs : List ℕ} (x : Slot) (a : Term) → Plain a xs
    → Plain (Write x a) (concat (xs ∷ []))
plain-Write {xs} x a h = let ps = next h none in
    plain_at (Write x a) _ (concat (xs ∷ [])) (outs-Write x a)
    (record { before_runs = tt; no_value = tt; unnested = (tt, refl) }) ps.are_written
    end_of_values (ap concat ps.binders) ps.functions

pub plain-Then : {xs ys : List ℕ} (a b : Term) → Plain a xs → Plain b ys
    → Plain (Then a b) (concat (xs ∷ ys ∷ []))
plain-Then {xs} {ys} a b ha hb = let ps = next ha (next hb none) in
    plain_at (Then a b) _ (concat (xs ∷ ys ∷ [])) (outs-Then a b)
    (record { before_runs = tt; no_value = tt; unnested = (tt, refl) }) ps.are_written
    end_of_values (ap concat ps.binders) ps.functions

pub plain-If : {xs ys zs : List ℕ} (c a b : Term) → Plain c xs → Plain a ys → Plain b zs
    → Plain (If c a b) (concat (xs ∷ ys ∷ zs ∷ []))
plain-If {xs} {ys} {zs} c a b hc ha hb = let ps = next hc (next ha (next hb none)) in
    plain_at (If c a b) _ (concat (xs ∷ ys ∷ zs ∷ [])) (outs-If c a b)
    (record { before_runs = tt; no_value = tt; unnested = (tt, refl) }) ps.are_written
    end_of_values (ap concat ps.binders) ps.functions

pub plain-Also : {xss : List (List ℕ)} (ts : List Term) → Plains ts xss
    → Plain (Also ts) (concat xss)
plain-Also {xss} ts ps =
    plain_at (Also ts) _ (concat xss) (outs-Also ts)
    (record { before_runs = tt; no_value = tt; unnested = (tt, refl) }) ps.are_written end_of_values
    (ap concat ps.binders) ps.functions

pub plain-Try : {xs ys : List ℕ} (a : Term) (x : ℕ) (b : Term) (ty : Ty) → Plain a xs → Plain b ys
    → AreApart (x ∷ []) (concat (ys ∷ []))
    → Plain (Try a x ((b, ty) ∷ []) None) (x ∷ concat (xs ∷ ys ∷ []))
plain-Try {xs} {ys} a x b ty ha hb d = let ps = next ha (next hb none) in let bs = next hb none in
    plain_at (Try a x ((b, ty) ∷ []) None) _ (x ∷ concat (xs ∷ ys ∷ []))
    (outs-Try a x ((b, ty) ∷ []) None)
    (record {
      before_runs = tt;
      no_value = tt;
      unnested = (
        (refl, tt),
        ap (λ zs. list_any (λ n. is_among n zs) (x ∷ [])) (ap concat bs.binders)
            ∙ d,
      );
    })
    ps.are_written end_of_values (ap (λ zs. x ∷ concat zs) ps.binders) ps.functions

pub plain-Atomic : {xs : List ℕ} (m : Mode) (a : Term) → Plain a xs
    → Plain (Atomic m a) (concat (xs ∷ []))
plain-Atomic {xs} m a h = let ps = next h none in
    plain_at (Atomic m a) _ (concat (xs ∷ [])) (outs-Atomic m a)
    (record { before_runs = tt; no_value = tt; unnested = (tt, refl) }) ps.are_written
    end_of_values (ap concat ps.binders) ps.functions

-- a declaration by its number
abbrev pub EachDeclared : Program → List CoreDecl → Type 0
EachDeclared p [] = Unit {0}
EachDeclared p (d ∷ ds) = IsDeclared p d.parameters d.body × EachDeclared p ds

pub declared : (p : Program) (ds : List CoreDecl) → EachDeclared p ds → (n : ℕ) (decl : CoreDecl)
    → slice_get ds n ≡ Some decl → IsDeclared p decl.parameters decl.body
declared p [] h n decl e = absurd cc
declared p (d ∷ ds) h zero decl e =
    let z : d ≡ decl = cc in subst (λ (c : CoreDecl). IsDeclared p c.parameters c.body) z h.0
declared p (d ∷ ds) h (suc n) decl e = declared p ds h.1 n decl e
