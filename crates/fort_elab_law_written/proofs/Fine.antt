-- A term as it is written whose binders and functions have numbers in a row.
use Rattle.std.proofs.Common.{◌≡◌, ◌≤◌, ℕ, List, [], ◌∷◌, ◌++◌, map, arith, refl, sym, ap, ◌∙◌, subst}
use Rattle.std.specs.List.{concat}
use Rattle.fort_core.specs.declared.term.Term.{Term, out-Term, map-Term, fold_out-Term}
use Rattle.fort_core.specs.declared.term.Term as term
use Rattle.fort_core.specs.declared.term.Term.TheVariants.{outs-Value}
use Rattle.fort_core.specs.declared.term.Term.TheOpen.{Term-F}
use Rattle.fort_core.specs.declared.value.Value.{Value, fold-Value}
use Rattle.fort_core.specs.declared.value.Closure.{Closure, fold-Closure}
use Rattle.fort_machine.specs.Parts.{parts_of, terms_in, values_in}
use Rattle.fort_machine.specs.Written.{IsBeforeRuns, IsNoValue, IsUnnested, binders_of, bound_in, all_binders_at, all_binders, closure_binders, StandOnce, BindsOnce, IsWritten, Written, written, AllWritten, end_of_terms, first_term, WrittenValue, AllWrittenValues, end_of_values, first_value, functions_at, value_functions_at, closure_functions_at, functions_in, functions_in_value}
use Rattle.fort_machine.proofs.Substituted.{parts_map}
use Rattle.fort_elab_law_written.proofs.Numbers.{Between, no_number, widened, appended, once_before}

-- what is in a layer
abbrev pub value_binders : Value → Unit {0}
value_binders =
    fold-Value (List ℕ) (Unit {0}) (List ℕ) all_binders_at (λ v. tt)
    (λ c. closure_binders c ++ c.body)

abbrev pub closures_binders : Closure → List ℕ
closures_binders =
    fold-Closure (List ℕ) (Unit {0}) (List ℕ) all_binders_at (λ v. tt)
    (λ c. closure_binders c ++ c.body)

abbrev pub functions_in_closure : Closure → List ℕ
functions_in_closure =
    fold-Closure (List ℕ) (List ℕ) (List ℕ) functions_at value_functions_at closure_functions_at

abbrev pub binders_out : Term-F Term Value Closure → List ℕ
binders_out y =
    all_binders_at
    (map-Term Term Value Closure (List ℕ) (Unit {0}) (List ℕ) all_binders value_binders
    closures_binders y)

abbrev pub functions_out : Term-F Term Value Closure → List ℕ
functions_out y =
    functions_at
    (map-Term Term Value Closure (List ℕ) (List ℕ) (List ℕ) functions_in functions_in_value
    functions_in_closure y)

pub binders_from : (t : Term) → all_binders t ≡ binders_out (out-Term t)
binders_from t =
    fold_out-Term (List ℕ) (Unit {0}) (List ℕ) all_binders_at (λ v. tt)
    (λ c. closure_binders c ++ c.body) t

pub functions_from : (t : Term) → functions_in t ≡ functions_out (out-Term t)
functions_from t =
    fold_out-Term (List ℕ) (List ℕ) (List ℕ) functions_at value_functions_at closure_functions_at t

-- the binders and the functions of terms
abbrev pub binders_in_all : List Term → List ℕ
binders_in_all ts = concat (map all_binders ts)

abbrev pub functions_in_all : List Term → List ℕ
functions_in_all ts = concat (map functions_in ts)

-- A term is as it is written, its binders have numbers from lo on, before hi, its functions from
-- flo on, before fhi, each once.
pub record Fine (lo hi flo fhi : ℕ) (t : Term) : Type 0 where
  pub is_written : Written t
  pub binders : Between lo hi (all_binders t)
  pub functions : Between flo fhi (functions_in t)
  pub once : StandOnce (functions_in t)

-- likewise of several terms
pub record Fines (lo hi flo fhi : ℕ) (ts : List Term) : Type 0 where
  pub are_written : AllWritten ts
  pub binders : Between lo hi (binders_in_all ts)
  pub functions : Between flo fhi (functions_in_all ts)
  pub once : StandOnce (functions_in_all ts)

pub wide : {lo hi flo fhi lo1 hi1 flo1 fhi1 : ℕ} (t : Term) → lo1 ≤ lo → hi ≤ hi1 → flo1 ≤ flo
    → fhi ≤ fhi1 → Fine lo hi flo fhi t → Fine lo1 hi1 flo1 fhi1 t
wide t a b c d h = record {
  is_written = h.is_written;
  binders = widened a b h.binders;
  functions = widened c d h.functions;
  once = h.once;
}

pub wides : {lo hi flo fhi lo1 hi1 flo1 fhi1 : ℕ} (ts : List Term) → lo1 ≤ lo → hi ≤ hi1
    → flo1 ≤ flo → fhi ≤ fhi1 → Fines lo hi flo fhi ts → Fines lo1 hi1 flo1 fhi1 ts
wides ts a b c d h = record {
  are_written = h.are_written;
  binders = widened a b h.binders;
  functions = widened c d h.functions;
  once = h.once;
}

pub none : {lo hi flo fhi : ℕ} → Fines lo hi flo fhi []
none = record { are_written = end_of_terms; binders = no_number; functions = no_number; once = tt }

-- a term before others: their numbers are behind its
pub first : {lo hi flo fmid fhi : ℕ} (t : Term) (ts : List Term) → flo ≤ fmid → fmid ≤ fhi
    → Fine lo hi flo fmid t → Fines lo hi fmid fhi ts → Fines lo hi flo fhi (t ∷ ts)
first {lo} {hi} {flo} {fmid} {fhi} t ts a b h k = record {
  are_written = first_term h.is_written k.are_written;
  binders = appended h.binders k.binders;
  functions = appended (widened (omega arith) b h.functions) (widened a (omega arith) k.functions);
  once = once_before (functions_in t) (functions_in_all ts) h.functions k.functions h.once k.once;
}

-- ---- a form by its parts

-- Values and functions have their own cases.
abbrev pub IsOrdinary : Term-F Term Value Closure → Type 0
IsOrdinary (Term-F.Value v) = ⊥
IsOrdinary (Term-F.Fn c) = ⊥
IsOrdinary (Term-F.Asleep marks a) = ⊥
IsOrdinary _ = Unit {0}

binders_are : (y : Term-F Term Value Closure) → IsOrdinary y
    → binders_out y ≡ binders_of y ++ binders_in_all (parts_of y)
binders_are (Term-F.Value v) o = absurd o
binders_are (Term-F.Fn c) o = absurd o
binders_are (Term-F.Asleep marks a) o = absurd o
binders_are y o =
    ap (λ xss. binders_of y ++ concat xss) (parts_map all_binders value_binders closures_binders y)

functions_are : (y : Term-F Term Value Closure) → IsOrdinary y
    → functions_out y ≡ functions_in_all (parts_of y)
functions_are (Term-F.Value v) o = absurd o
functions_are (Term-F.Fn c) o = absurd o
functions_are (Term-F.Asleep marks a) o = absurd o
functions_are y o = ap concat (parts_map functions_in functions_in_value functions_in_closure y)

terms_are : (y : Term-F Term Value Closure) → IsOrdinary y → terms_in y ≡ parts_of y
terms_are (Term-F.Fn c) o = absurd o
terms_are y o = refl

values_are : (y : Term-F Term Value Closure) → IsOrdinary y → values_in y ≡ []
values_are (Term-F.Value v) o = absurd o
values_are (Term-F.Fn c) o = absurd o
values_are (Term-F.Asleep marks a) o = absurd o
values_are y o = refl

unnested_is : (y : Term-F Term Value Closure) → IsOrdinary y → BindsOnce (binders_of y) (bound_in y)
    → IsUnnested y
unnested_is (Term-F.Fn c) o b = absurd o
unnested_is y o b = b

pub ordinary_binders : (t : Term) (y : Term-F Term Value Closure) → out-Term t ≡ y → IsOrdinary y
    → all_binders t ≡ binders_of y ++ binders_in_all (parts_of y)
ordinary_binders t y e o = binders_from t ∙ ap binders_out e ∙ binders_are y o

pub ordinary_functions : (t : Term) (y : Term-F Term Value Closure) → out-Term t ≡ y → IsOrdinary y
    → functions_in t ≡ functions_in_all (parts_of y)
ordinary_functions t y e o = functions_from t ∙ ap functions_out e ∙ functions_are y o

pub ordinary_written : (t : Term) (y : Term-F Term Value Closure) → out-Term t ≡ y → IsOrdinary y
    → IsBeforeRuns y → IsNoValue y → BindsOnce (binders_of y) (bound_in y)
    → AllWritten (parts_of y) → Written t
ordinary_written t y e o r v b ws =
    written (subst IsWritten (sym e)
    (record { before_runs = r; no_value = v; unnested = unnested_is y o b }))
    (subst (λ z. AllWritten (terms_in z)) (sym e) (subst AllWritten (sym (terms_are y o)) ws))
    (subst (λ z. AllWrittenValues (values_in z)) (sym e)
    (subst AllWrittenValues (sym (values_are y o)) end_of_values))

-- A form that is as it is written, of parts that are fine.
pub fine_at : {lo hi flo fhi : ℕ} (t : Term) (y : Term-F Term Value Closure) → out-Term t ≡ y
    → IsOrdinary y → IsBeforeRuns y → IsNoValue y
    → BindsOnce (binders_of y) (bound_in y) → Between lo hi (binders_of y)
    → Fines lo hi flo fhi (parts_of y) → Fine lo hi flo fhi t
fine_at {lo} {hi} {flo} {fhi} t y e o r v b bs ps = record {
  is_written = ordinary_written t y e o r v b ps.are_written;
  binders = subst (Between lo hi) (sym (ordinary_binders t y e o)) (appended bs ps.binders);
  functions = subst (Between flo fhi) (sym (ordinary_functions t y e o)) ps.functions;
  once = subst StandOnce (sym (ordinary_functions t y e o)) ps.once;
}

-- A form that binds nothing.
pub simple_at : {lo hi flo fhi : ℕ} (t : Term) (y : Term-F Term Value Closure) → out-Term t ≡ y
    → IsOrdinary y → IsBeforeRuns y → IsNoValue y
    → binders_of y ≡ [] → bound_in y ≡ [] → Fines lo hi flo fhi (parts_of y) → Fine lo hi flo fhi t
simple_at {lo} {hi} t y e o r v b c ps =
    fine_at t y e o r v
    (subst (λ xs. BindsOnce xs (bound_in y)) (sym b)
    (subst (λ ts. BindsOnce [] ts) (sym c) (tt, refl)))
    (subst (Between lo hi) (sym b) no_number) ps

-- A value.
pub value_is : {lo hi flo fhi : ℕ} (v : Value) → WrittenValue v
    → Between flo fhi (functions_in_value v) → StandOnce (functions_in_value v)
    → Fine lo hi flo fhi (term.Value v)
value_is {lo} {hi} {flo} {fhi} v w f o =
    let e = outs-Value v in let g = functions_from (term.Value v) ∙ ap functions_out e in record {
      is_written =
          written (subst IsWritten (sym e)
          (record { before_runs = tt; no_value = tt; unnested = (tt, refl) }))
          (subst (λ z. AllWritten (terms_in z)) (sym e) end_of_terms)
          (subst (λ z. AllWrittenValues (values_in z)) (sym e) (first_value w end_of_values));
      binders = subst (Between lo hi) (sym (binders_from (term.Value v) ∙ ap binders_out e)) no_number;
      functions = subst (Between flo fhi) (sym g) f;
      once = subst StandOnce (sym g) o;
    }
