-- Tuples and functions: each is a form, or the value that it is.
use Rattle.std.proofs.Common.{◌≡◌, ◌≤◌, ℕ, ◌+◌, Bool, true, false, ◌&&◌, if◌then◌else◌, List, [], ◌∷◌, ◌++◌, length, map, Option, Some, None, arith, refl, sym, ap, ◌∙◌, subst}
use Rattle.std.specs.Prelude.{nat_le, option_map, option_and_then}
use Rattle.std.specs.List.{concat}
use Rattle.std.proofs.lemmas.List.{append-nil}
use Rattle.fort_base.specs.declared.ids.NameId.{NameId}
use Rattle.fort_base.specs.declared.ty.Ty.{Ty}
use Rattle.fort_core.specs.declared.term.Term.{Term, Group, Fn, out-Term}
use Rattle.fort_core.specs.declared.term.Term as term
use Rattle.fort_core.specs.declared.term.Term.TheVariants.{outs-Value, outs-Group, outs-Fn}
use Rattle.fort_core.specs.declared.value.Value.{Value, Function, Tuple}
use Rattle.fort_core.specs.declared.value.Value.TheVariants.{outs-Tuple, outs-Function}
use Rattle.fort_core.specs.declared.value.Closure.{Closure, fold_out-Closure}
use Rattle.fort_machine.specs.Texts.{closure_depth, deepest}
use Rattle.fort_machine.specs.Ends.{Standing, at_value, at_throw, open_yet, standing, value_at, values_of, group}
use Rattle.fort_machine.specs.Parts.{terms_in, values_in, bodies_of}
use Rattle.fort_machine.specs.Parts as parts
use Rattle.fort_machine.specs.Scopes.{variables, holds_all, function}
use Rattle.fort_machine.specs.Written.{all_binders_at, closure_binders, BindsOnce, StandOnce, IsWritten, IsWrittenValue, Written, written, AllWritten, end_of_terms, first_term, WrittenValue, written_value, AllWrittenValues, end_of_values, first_value, functions_in, functions_in_value, functions_at, value_functions_at, closure_functions_at}
use Rattle.fort_machine.proofs.Resting.{Grouped, grouped, as_form, as_value, is_value}
use Rattle.fort_elab_meaning.specs.Making.{Maker, after}
use Rattle.fort_elab_meaning.specs.Items.{typed_variables, with_names, within_function, fn}
use Rattle.fort_elab_law_written.proofs.Numbers.{Between, no_number, number, widened, appended, below, in_a_row, each_once}
use Rattle.fort_elab_law_written.proofs.Fine.{Fine, functions_in_all, binders_from, binders_out, functions_from, functions_out, functions_in_closure, closures_binders, value_is, simple_at}
use Rattle.fort_elab_law_written.proofs.Makers.{Good, KeepsAll}
use Rattle.fort_elab_law_written.proofs.Forms.{alone, bound_once}
use Rattle.fort_elab_law_written.proofs.Values.{functions_out_value, value_functions_from}

-- ---- tuples

-- a value whose term is written is, and its functions are the term's
value_of_term : (v : Value) → Written (term.Value v) → WrittenValue v
value_of_term v (written w ts vs) =
    go (subst (λ z. AllWrittenValues (values_in z)) (outs-Value v) vs)
  where
    go : AllWrittenValues (v ∷ []) → WrittenValue v
    go (first_value h hs) = h

functions_of_term : (v : Value) → functions_in (term.Value v) ≡ functions_in_value v
functions_of_term v = functions_from (term.Value v) ∙ ap functions_out (outs-Value v)

-- values of terms that all are values
record ValuesOf (ts : List Term) (vs : List Value) : Type 0 where
  pub are_written : AllWrittenValues vs
  pub functions : concat (map functions_in_value vs) ≡ functions_in_all ts

abbrev first_value_of : List Term → Standing → Option (List Value)
first_value_of ts st =
    option_and_then (λ
    (v : Value). option_map (λ (vs : List Value). v ∷ vs) (values_of ts)) (value_at st)

first_too : (t : Term) (ts : List Term) (v : Value) (vs : List Value) → t ≡ term.Value v → Written t
    → ValuesOf ts vs → ValuesOf (t ∷ ts) (v ∷ vs)
first_too t ts v vs e w h = record {
  are_written = first_value (value_of_term v (subst Written e w)) h.are_written;
  functions =
      ap (λ (ns : List ℕ). ns ++ concat (map functions_in_value vs))
      (sym (ap functions_in e ∙ functions_of_term v)) ∙ ap (λ
      (ns : List ℕ). functions_in t ++ ns) h.functions;
}

value_first : (t : Term) (ts : List Term) (vs : List Value) → values_of (t ∷ ts) ≡ Some vs
    → Written t → ((us : List Value) → values_of ts ≡ Some us → ValuesOf ts us)
    → (st : Standing) → standing t ≡ st → (o : Option (List Value)) → values_of ts ≡ o
    → ValuesOf (t ∷ ts) vs
value_first t ts vs e w m (at_throw v) q o r =
    let z : None ≡ Some vs = sym (ap (first_value_of ts) q) ∙ e in absurd cc
value_first t ts vs e w m open_yet q o r =
    let z : None ≡ Some vs = sym (ap (first_value_of ts) q) ∙ e in absurd cc
value_first t ts vs e w m (at_value v) q None r =
    let z : None ≡ Some vs =
    sym (ap (first_value_of ts) q ∙ ap (option_map (λ (vs : List Value). v ∷ vs)) r) ∙ e
    in absurd cc
value_first t ts vs e w m (at_value v) q (Some us) r =
    let z : Some (v ∷ us) ≡ Some vs =
    sym (ap (first_value_of ts) q ∙ ap (option_map (λ (vs : List Value). v ∷ vs)) r) ∙ e in
    let y : v ∷ us ≡ vs = cc in
    subst (ValuesOf (t ∷ ts)) y (first_too t ts v us (is_value t v q) w (m us r))

values_are : (ts : List Term) (vs : List Value) → values_of ts ≡ Some vs → AllWritten ts
    → ValuesOf ts vs
values_are [] vs e h =
    let z : [] ≡ vs = cc
    in subst (ValuesOf []) z (record { are_written = end_of_values; functions = refl })
values_are (t ∷ ts) vs e (first_term w ws) =
    value_first t ts vs e w (λ us r. values_are ts us r ws) (standing t) refl (values_of ts) refl

tuple_is : (vs : List Value) → AllWrittenValues vs → WrittenValue (Tuple vs)
tuple_is vs h =
    let e = outs-Tuple vs
    in written_value (subst IsWrittenValue (sym e) tt)
    (subst (λ z. AllWritten (bodies_of z)) (sym e) end_of_terms)
    (subst (λ z. AllWrittenValues (parts.values_of z)) (sym e) h)

pub fine_group : KeepsAll group
fine_group lo hi flo fhi ts h = go (grouped ts)
  where
    go : Grouped ts → Fine lo hi flo fhi (group ts)
    go (as_form e) = simple_at (group ts) _ (ap out-Term e ∙ outs-Group ts) tt tt e refl refl h
    go (as_value vs e q) =
        let k = values_are ts vs e h.are_written
        in let f =
        value_functions_from (Tuple vs) ∙ ap functions_out_value (outs-Tuple vs) ∙ k.functions in
        subst (Fine lo hi flo fhi) (sym q)
        (value_is (Tuple vs) (tuple_is vs k.are_written)
        (subst (Between flo fhi) (sym f) h.functions) (subst StandOnce (sym f) h.once))

-- ---- functions

-- A function is written, by its own: what it binds, and its body.
pub record GoodClosure (lo hi flo fhi : ℕ) (c : Closure) : Type 0 where
  pub body : Written c.body
  pub holds_none : c.held ≡ []
  pub binds_once : BindsOnce (variables c.parameters ++ variables c.held) (c.body ∷ [])
  pub binders : Between lo hi (closures_binders c)
  pub functions : Between flo fhi (functions_in_closure c)
  pub once : StandOnce (functions_in_closure c)

no_values : (c : Closure) → c.held ≡ [] → AllWrittenValues (parts.held_values c)
no_values c e =
    subst (λ (hs : List (ℕ × Value)). AllWrittenValues (map (λ (h : ℕ × Value). h.1) hs)) (sym e)
    end_of_values

function_is : {lo hi flo fhi : ℕ} (c : Closure) → GoodClosure lo hi flo fhi c
    → WrittenValue (Function c)
function_is c h =
    let e = outs-Function c
    in written_value (subst IsWrittenValue (sym e) h.binds_once)
    (subst (λ z. AllWritten (bodies_of z)) (sym e) (first_term h.body end_of_terms))
    (subst (λ z. AllWrittenValues (parts.values_of z)) (sym e) (no_values c h.holds_none))

pub fine_function : {lo hi flo fhi : ℕ} (c : Closure) → GoodClosure lo hi flo fhi c
    → Fine lo hi flo fhi (function c)
fine_function {lo} {hi} {flo} {fhi} c h = go (holds_all c && nat_le (closure_depth c) deepest) refl
  where
    go : (b : Bool) → function c ≡ (if b then term.Value (Function c) else Fn c)
        → Fine lo hi flo fhi (function c)
    go true e =
        let f = value_functions_from (Function c) ∙ ap functions_out_value (outs-Function c) in
        subst (Fine lo hi flo fhi) (sym e)
        (value_is (Function c) (function_is c h) (subst (Between flo fhi) (sym f) h.functions)
        (subst StandOnce (sym f) h.once))
    go false e =
        let o = ap out-Term e ∙ outs-Fn c
        in let f = functions_from (function c) ∙ ap functions_out o
        in let b = binders_from (function c) ∙ ap binders_out o in record {
          is_written =
              written (subst IsWritten (sym o)
              (record { before_runs = tt; no_value = e; unnested = h.binds_once }))
              (subst (λ z. AllWritten (terms_in z)) (sym o) (first_term h.body end_of_terms))
              (subst (λ z. AllWrittenValues (values_in z)) (sym o) (no_values c h.holds_none));
          binders = subst (Between lo hi) (sym b) h.binders;
          functions = subst (Between flo fhi) (sym f) h.functions;
          once = subst StandOnce (sym f) h.once;
        }

abbrev closure_of : ℕ → ℕ → List (NameId × Ty) → Ty → Term → Closure
closure_of f n xs result t =
    record { number = f; parameters = typed_variables n xs; result = result; body = t; held = [] }

closure_is : (xs : List (NameId × Ty)) (result : Ty) (t : Term) (n k hi f fhi : ℕ) → n + k ≤ hi
    → f + 1 ≤ fhi → Between n (n + k) (variables (typed_variables n xs))
    → Fine (n + k) hi (f + 1) fhi t → GoodClosure n hi f fhi (closure_of f n xs result t)
closure_is xs result t n k hi f fhi l m r h =
    let c = closure_of f n xs result t in let vs = variables (typed_variables n xs) in
    let b = fold_out-Closure (List ℕ) (Unit {0}) (List ℕ) all_binders_at (λ v. tt)
    (λ c. closure_binders c ++ c.body) c in
    let g = fold_out-Closure (List ℕ) (List ℕ) (List ℕ) functions_at value_functions_at
    closure_functions_at c in
    let i = append-nil (functions_in t) in record {
      body = h.is_written;
      holds_none = refl;
      binds_once =
          subst (λ ns. BindsOnce ns (t ∷ [])) (sym (append-nil vs))
          (bound_once vs (t ∷ []) (each_once n xs) r (alone h));
      binders =
          subst (Between n hi) (sym b)
          (appended (appended (widened (omega arith) l r) no_number)
          (widened (omega arith) (omega arith) h.binders));
      functions =
          subst (Between f fhi) (sym g)
          (number (omega arith) (omega arith)
          (appended (widened (omega arith) (omega arith) h.functions) no_number));
      once = subst StandOnce (sym g)
          (subst (λ ns. StandOnce (f ∷ ns)) (sym i)
          (below (functions_in t) h.functions (omega arith), h.once));
    }

pub good_fn : (xs : List (NameId × Ty)) (result : Ty) (body : Maker) → Good body
    → Good (fn xs result body)
good_fn xs result body h s c =
    let n = c.variable in let d = after (length xs) (within_function c)
    in let m = body (with_names n xs s) d in let k = h (with_names n xs s) d in
    let x = k.variables in let u = k.functions in record {
      variables = omega arith;
      functions = omega arith;
      fine = fine_function (closure_of c.function n xs result m.term)
          (closure_is xs result m.term n (length xs) m.counter.variable c.function
          m.counter.function x u (in_a_row n xs) k.fine);
    }
