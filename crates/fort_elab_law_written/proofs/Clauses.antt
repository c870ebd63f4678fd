-- `typecase` and `try`: their clauses are numbered before what stands behind `else` or `finally`.
use Rattle.std.proofs.Common.{◌≡◌, ◌≤◌, ℕ, ◌+◌, false, ◌||◌, Bool, true, List, [], ◌∷◌, ◌++◌, map, Option, Some, None, arith, refl, sym, ap, ◌∙◌, subst, append_assoc}
use Rattle.std.specs.Prelude.{◌==◌}
use Rattle.std.specs.List.{concat}
use Rattle.std.proofs.lemmas.List.Folds.{list_any-append}
use Rattle.fort_base.specs.declared.ids.NameId.{NameId}
use Rattle.fort_base.specs.declared.ty.Ty.{Ty}
use Rattle.fort_core.specs.declared.term.Term.{Term, Typecase, Try}
use Rattle.fort_core.specs.declared.term.Term.TheVariants.{outs-Typecase, outs-Try}
use Rattle.fort_machine.specs.Parts.{in_clauses}
use Rattle.fort_machine.specs.Scopes.{is_among}
use Rattle.fort_machine.specs.Written.{all_binders, functions_in, StandOnce, AllWritten, end_of_terms, first_term}
use Rattle.fort_elab_meaning.specs.Making.{with_name, after, in_turn}
use Rattle.fort_elab_meaning.specs.Parts.{Given, Part, maker_of}
use Rattle.fort_elab_meaning.specs.Values.{no_match}
use Rattle.fort_elab_meaning.specs.Choices.{or_else, with_types, typecase, catching, trying}
use Rattle.fort_elab_law_written.proofs.Numbers.{Between, no_number, number, widened, appended, once_behind}
use Rattle.fort_elab_law_written.proofs.Fine.{Fine, Fines, wide, wides, first, binders_in_all, functions_in_all, fine_at}
use Rattle.fort_elab_law_written.proofs.Makers.{Good, good_in_turn}
use Rattle.fort_elab_law_written.proofs.Forms.{bound_once, one_at}
use Rattle.fort_elab_law_written.proofs.Values.{still_match}
use Rattle.fort_elab_law_written.proofs.Parts.{GoodPart, GoodParts, MayBeGood, good_makers, good_or_else}

-- ---- the terms of clauses are the first ones of a list

front : {lo hi : ℕ} (ns ms : List ℕ) → Between lo hi (ns ++ ms) → Between lo hi ns
front [] ms h = no_number
front (n ∷ ns) ms (number l u h) = number l u (front ns ms h)

not_in_front : (b c : Bool) → (b || c) ≡ false → b ≡ false
not_in_front false c e = refl
not_in_front true c e = e

once_front : (ns ms : List ℕ) → StandOnce (ns ++ ms) → StandOnce ns
once_front [] ms h = tt
once_front (n ∷ ns) ms h = (
  not_in_front (is_among n ns) (is_among n ms) (sym (list_any-append (λ y. n == y) ns ms) ∙ h.0),
  once_front ns ms h.1,
)

rest_of : (f : Term → List ℕ) (ts : List Term) (tys : List Ty)
    → (r : List ℕ) × (concat (map f ts) ≡ concat (map f (in_clauses (with_types ts tys))) ++ r)
rest_of f [] tys = ([], refl)
rest_of f (t ∷ ts) [] = (concat (map f (t ∷ ts)), refl)
rest_of f (t ∷ ts) (ty ∷ tys) =
    let r = rest_of f ts tys
    in (
      r.0,
      ap (λ
          (ns : List ℕ). f t ++ ns) r.1
          ∙ sym (append_assoc (f t) (concat (map f (in_clauses (with_types ts tys)))) r.0),
    )

written_front : (ts : List Term) (tys : List Ty) → AllWritten ts
    → AllWritten (in_clauses (with_types ts tys))
written_front [] tys h = end_of_terms
written_front (t ∷ ts) [] h = end_of_terms
written_front (t ∷ ts) (ty ∷ tys) (first_term w ws) = first_term w (written_front ts tys ws)

clauses_are : {lo hi flo fhi : ℕ} (ts : List Term) (tys : List Ty) → Fines lo hi flo fhi ts
    → Fines lo hi flo fhi (in_clauses (with_types ts tys))
clauses_are {lo} {hi} {flo} {fhi} ts tys h =
    let b = rest_of all_binders ts tys in let f = rest_of functions_in ts tys in record {
      are_written = written_front ts tys h.are_written;
      binders =
          front (binders_in_all (in_clauses (with_types ts tys))) b.0
          (subst (Between lo hi) b.1 h.binders);
      functions =
          front (functions_in_all (in_clauses (with_types ts tys))) f.0
          (subst (Between flo fhi) f.1 h.functions);
      once = once_front (functions_in_all (in_clauses (with_types ts tys))) f.0
          (subst StandOnce f.1 h.once);
    }

-- a term whose functions are numbered behind those of the others
behind : {lo hi flo fmid fhi : ℕ} (t : Term) (ts : List Term) → flo ≤ fmid → fmid ≤ fhi
    → Fine lo hi fmid fhi t → Fines lo hi flo fmid ts → Fines lo hi flo fhi (t ∷ ts)
behind {lo} {hi} {flo} {fmid} {fhi} t ts a b h k = record {
  are_written = first_term h.is_written k.are_written;
  binders = appended h.binders k.binders;
  functions = appended (widened a (omega arith) h.functions) (widened (omega arith) b k.functions);
  once = once_behind (functions_in t) (functions_in_all ts) h.functions k.functions h.once k.once;
}

-- ---- forms

fine-Typecase : (lo n hi flo fmid f1 fhi : ℕ) (a b : Term) (cs : List (Term × Ty)) → lo ≤ n
    → n + 1 ≤ hi → flo ≤ fmid → fmid ≤ f1 → f1 ≤ fhi
    → Fine lo n flo fmid a → Fines (n + 1) hi fmid f1 (in_clauses cs) → Fine (n + 1) hi f1 fhi b
    → Fine lo hi flo fhi (Typecase n a cs b)
fine-Typecase lo n hi flo fmid f1 fhi a b cs l m u v w h ks i =
    let inner = behind b (in_clauses cs) v w i ks in
    fine_at (Typecase n a cs b) _ (outs-Typecase n a cs b) tt tt tt
    (bound_once (n ∷ []) (b ∷ in_clauses cs) (refl, tt) (one_at n) inner)
    (widened l m (one_at n))
    (first a (b ∷ in_clauses cs) u (omega arith)
    (wide a (omega arith) (omega arith) (omega arith) (omega arith) h)
    (wides (b ∷ in_clauses cs) (omega arith) (omega arith) (omega arith) (omega arith)
    inner))

fine-Try : (lo n hi flo fmid fhi : ℕ) (a : Term) (cs : List (Term × Ty)) → lo ≤ n → n + 1 ≤ hi
    → flo ≤ fmid → fmid ≤ fhi
    → Fine lo n flo fmid a → Fines (n + 1) hi fmid fhi (in_clauses cs)
    → Fine lo hi flo fhi (Try a n cs None)
fine-Try lo n hi flo fmid fhi a cs l m u v h ks =
    fine_at (Try a n cs None) _ (outs-Try a n cs None) tt tt tt
    (bound_once (n ∷ []) (in_clauses cs) (refl, tt) (one_at n) ks) (widened l m (one_at n))
    (first a (in_clauses cs) u v (wide a (omega arith) (omega arith) (omega arith) (omega arith) h)
    (wides (in_clauses cs) (omega arith) (omega arith) (omega arith) (omega arith) ks))

fine-Finally : (lo n hi flo fmid f1 fhi : ℕ) (a b : Term) (cs : List (Term × Ty)) → lo ≤ n
    → n + 1 ≤ hi → flo ≤ fmid → fmid ≤ f1 → f1 ≤ fhi
    → Fine lo n flo fmid a → Fines (n + 1) hi fmid f1 (in_clauses cs) → Fine (n + 1) hi f1 fhi b
    → Fine lo hi flo fhi (Try a n cs (Some b))
fine-Finally lo n hi flo fmid f1 fhi a b cs l m u v w h ks i =
    let inner = behind b (in_clauses cs) v w i ks in
    fine_at (Try a n cs (Some b)) _ (outs-Try a n cs (Some b)) tt tt tt
    (bound_once (n ∷ []) (in_clauses cs) (refl, tt) (one_at n) ks) (widened l m (one_at n))
    (first a (b ∷ in_clauses cs) u (omega arith)
    (wide a (omega arith) (omega arith) (omega arith) (omega arith) h)
    (wides (b ∷ in_clauses cs) (omega arith) (omega arith) (omega arith) (omega arith)
    inner))

-- ---- makers

pub good_typecase : (g : Given) (name : NameId) (subject : Part) (types : List Ty) (vs : List Part)
    (other : Option Part) → GoodPart subject → GoodParts vs → MayBeGood other
    → Good (typecase g name subject types vs other)
good_typecase g name subject types vs other h k o s c =
    let m = subject.maker s c in let n = m.counter.variable in let inner = with_name name n s in
    let ms = in_turn (map maker_of vs) inner (after 1 m.counter)
    in let e = or_else other (no_match g) inner ms.counter in
    let a = h.maker s c
    in let b = good_in_turn (map maker_of vs) (good_makers vs k) inner (after 1 m.counter)
    in let d = good_or_else other (no_match g) o (still_match g) inner ms.counter in
    let x = a.variables in let y = b.variables in let z = d.variables in let u = a.functions
    in let v = b.functions in let w = d.functions in record {
      variables = omega arith;
      functions = omega arith;
      fine = fine-Typecase c.variable n e.counter.variable c.function m.counter.function
          ms.counter.function e.counter.function m.term e.term (with_types ms.terms types) x
          (omega arith) u v w a.fine
          (clauses_are ms.terms types
          (wides ms.terms (omega arith) z (omega arith) (omega arith) b.fine))
          (wide e.term y (omega arith) (omega arith) (omega arith) d.fine);
    }

pub good_trying : (body : Part) (name : Option NameId) (types : List Ty) (vs : List Part)
    (last : Option Part) → GoodPart body → GoodParts vs → MayBeGood last
    → Good (trying body name types vs last)
good_trying body name types vs None h k o s c =
    let m = body.maker s c in let n = m.counter.variable in let inner = catching name n s in
    let ms = in_turn (map maker_of vs) inner (after 1 m.counter) in
    let a = h.maker s c
    in let b = good_in_turn (map maker_of vs) (good_makers vs k) inner (after 1 m.counter) in
    let x = a.variables in let y = b.variables in let u = a.functions in let v = b.functions
    in record {
      variables = omega arith;
      functions = omega arith;
      fine = fine-Try c.variable n ms.counter.variable c.function m.counter.function
          ms.counter.function m.term (with_types ms.terms types) x y u v a.fine
          (clauses_are ms.terms types b.fine);
    }
good_trying body name types vs (Some p) h k o s c =
    let m = body.maker s c in let n = m.counter.variable in let inner = catching name n s in
    let ms = in_turn (map maker_of vs) inner (after 1 m.counter) in let e = p.maker s ms.counter in
    let a = h.maker s c
    in let b = good_in_turn (map maker_of vs) (good_makers vs k) inner (after 1 m.counter)
    in let d = o.maker s ms.counter in
    let x = a.variables in let y = b.variables in let z = d.variables in let u = a.functions
    in let v = b.functions in let w = d.functions in record {
      variables = omega arith;
      functions = omega arith;
      fine = fine-Finally c.variable n e.counter.variable c.function m.counter.function
          ms.counter.function e.counter.function m.term e.term (with_types ms.terms types) x
          (omega arith) u v w a.fine
          (clauses_are ms.terms types
          (wides ms.terms (omega arith) z (omega arith) (omega arith) b.fine))
          (wide e.term y (omega arith) (omega arith) (omega arith) d.fine);
    }
