-- The worked program has the prelude.
use Rattle.std.proofs.Common.{◌≡◌, ℕ, suc, ◌+◌, List, [], ◌∷◌, map, Some, pos, refl, ap, ◌∙◌, arith}
use Rattle.fort_base.specs.declared.ids.DeclId.{DeclId}
use Rattle.fort_core.specs.declared.primitive.Primitive.TheVariants.{AddSmall, SubtractSmall, EqualSmall, UnequalSmall, GreaterSmall, RangeCount, Abort}
use Rattle.fort_core.specs.declared.program.CoreBody.TheVariants as body
use Rattle.fort_core.specs.declared.program.CoreDecl.{CoreDecl}
use Rattle.fort_core.specs.declared.term.Term.{Term}
use Rattle.fort_core.specs.declared.term.Term as term
use Rattle.fort_core.specs.declared.value.Value.{Value, Small}
use Rattle.fort_core.specs.declared.value.Value.TheVariants.{outs-Object}
use Rattle.fort_machine.specs.Acts.{Act, enters, makes}
use Rattle.fort_machine.specs.Calls.{Dispatches, by_body}
use Rattle.fort_machine.specs.Forms.{field_of}
use Rattle.fort_machine.specs.Runs.{location}
use Rattle.fort_machine.specs.Types.{type_of}
use Rattle.fort_machine.specs.Worked.{type, decl}
use Rattle.fort_threads.specs.Moves.{opening_fields}
use Rattle.fort_threads_law_servers.specs.Prelude.{object_of, LeadsTo, HasPrelude}
use Rattle.fort_threads_law_worlds.specs.Known.{Counts}
use Rattle.fort_threads_law_worked.specs.Bodies.{wait_decl, val_decl, go_decl, serve_decl, take_decl, thread_decl}
use Rattle.fort_threads_law_worked.specs.Builtin.{built_in, two_small}
use Rattle.fort_threads_law_worked.specs.Types.{unit_type, small_type, truth_type, range_type}
use Rattle.fort_threads_law_worked.specs.Worked.{worked, worked_names}
use Rattle.fort_threads_law_worked.proofs.Codes.{named, tys_of}
use Rattle.fort_threads_law_worked.proofs.Forms.{Form, term_of, put, put_is, wait_form, val_form, go_form}
use Rattle.fort_threads_law_worked.proofs.Calls.{only, alone, second, small_is, object_is}
use Rattle.fort_threads_law_worked.proofs.Numbers.{adds, takes_away, compares, tells, is_more, counts}
use Rattle.fort_threads_law_worked.proofs.Objects.{is_object}

-- a body with a value in place of its parameter
pub enters_put : (f : Form) (v : Value)
    → by_body worked (body.Plain (term_of f)) (v ∷ []) ≡ enters (term_of f) (term_of (put 0 v f))
enters_put f v = ap (enters (term_of f)) (put_is 0 v f)

-- what an answer is for the declaration that is run
answered : (x : CoreDecl) (vs : List Value) (a : Act) → by_body worked x.body vs ≡ a
    → (d : CoreDecl) → d ≡ x → by_body worked d.body vs ≡ a
answered x vs a e d q = ap (λ (y : CoreDecl). by_body worked y.body vs) q ∙ e

-- two small numbers
numbers_are : (a b : ℕ)
    → map (type_of worked) (Small (pos a) ∷ Small (pos b) ∷ [])
    ≡ tys_of (named 2 ∷ named 2 ∷ [])
numbers_are a b = λ i. small_is (pos a) i ∷ small_is (pos b) i ∷ []

-- an object of a thread
pub object_types : (l : ℕ)
    → map (type_of worked) (object_of worked_names l ∷ []) ≡ tys_of (named 19 ∷ [])
object_types l = ap (λ t. t ∷ []) (object_is (type 19) (location l))

abbrev leads : (f : Form) (v : Value) (d : CoreDecl) → d.body ≡ body.Plain (term_of f)
    → (text : Term) × (by_body worked d.body (v ∷ []) ≡ enters text (term_of (put 0 v f)))
leads f v d e = (term_of f, ap (λ b. by_body worked b (v ∷ [])) e ∙ enters_put f v)

pub waits : (l : ℕ) → LeadsTo worked worked_names.wait (object_of worked_names l ∷ [])
    (term_of (put 0 (object_of worked_names l) wait_form))
waits l c d r =
    let q = second 37 69 70 wait_decl (named 19 ∷ []) (object_of worked_names l ∷ []) refl
    (object_types l) refl refl refl refl c d r in
    leads wait_form (object_of worked_names l) d (ap (λ (x : CoreDecl). x.body) q.1)

pub gets : (l : ℕ) → LeadsTo worked worked_names.val (object_of worked_names l ∷ [])
    (term_of (put 0 (object_of worked_names l) val_form))
gets l c d r =
    let q = second 39 73 74 val_decl (named 19 ∷ []) (object_of worked_names l ∷ []) refl
    (object_types l) refl refl refl refl c d r in
    leads val_form (object_of worked_names l) d (ap (λ (x : CoreDecl). x.body) q.1)

pub goes : (l : ℕ) → LeadsTo worked worked_names.go (object_of worked_names l ∷ [])
    (term_of (put 0 (object_of worked_names l) go_form))
goes l c d r =
    let q = alone 43 78 go_decl refl refl (object_of worked_names l ∷ []) c d r in
    leads go_form (object_of worked_names l) d (ap (λ (x : CoreDecl). x.body) q.1)

abbrev one_of_zero : (d x : CoreDecl) (t : Term) → d ≡ x → x.body ≡ body.Plain t
    → (text : Term) × (by_body worked d.body [] ≡ enters text t)
one_of_zero d x t q e = (
  t,
  ap (λ (y : CoreDecl). by_body worked y.body []) q
      ∙ ap (λ b. by_body worked b []) e,
)

pub worked_has_the_prelude : HasPrelude worked worked_names
worked_has_the_prelude = record {
  serves = λ c d r. one_of_zero d serve_decl _
      (alone 44 79 serve_decl refl refl [] c d r).1 refl;
  takes = λ c d r. one_of_zero d take_decl _
      (alone 42 77 take_decl refl refl [] c d r).1 refl;
  goes = goes;
  waits = waits;
  makes_threads = makes_it;
  has_body = λ l. ap (field_of worked worked_names.body) (outs-Object (type 19) (location l))
      ∙ ap Some (plus_zero l);
  has_state = λ l. ap (field_of worked worked_names.state) (outs-Object (type 19) (location l));
  has_value = λ l. ap (field_of worked worked_names.value) (outs-Object (type 19) (location l));
  has_next = λ l. ap (field_of worked worked_names.next) (outs-Object (type 19) (location l));
  are_threads = is_object;
  counts_up = λ c d r. answered (two_small range_type RangeCount) _ _ counts d
      (alone 30 62 (two_small range_type RangeCount) refl refl (Small (pos 0) ∷ Small (pos 64)
      ∷ []) c
      d r).1;
  equals = λ a b h k c d r. answered (two_small truth_type EqualSmall) _ _ (compares a b) d
      (only 19 (decl 41 ∷ decl 42 ∷ decl 43 ∷ decl 44 ∷ []) refl (named 2 ∷ named 2 ∷ []) 41
      (two_small truth_type EqualSmall) (Small (pos a) ∷ Small (pos b) ∷ []) (numbers_are a b) refl
      refl c d r).1;
  tells_apart = λ a h c d r. answered (two_small truth_type UnequalSmall) _ _ (tells a 0) d
      (only 20 (decl 45 ∷ decl 46 ∷ decl 47 ∷ decl 48 ∷ []) refl (named 2 ∷ named 2 ∷ []) 45
      (two_small truth_type UnequalSmall) (Small (pos a) ∷ Small (pos 0) ∷ [])
      (numbers_are a 0) refl
      refl c d r).1;
  adds_one = λ a h c d r. answered (two_small small_type AddSmall) _ _ (adds a h) d
      (only 0 (decl 0 ∷ decl 1 ∷ []) refl (named 2 ∷ named 2 ∷ []) 0
      (two_small small_type AddSmall) (Small (pos a) ∷ Small (pos 1) ∷ []) (numbers_are a 1) refl
      refl c d r).1;
  apart = refl;
  aborts = λ c d r. answered (built_in [] unit_type Abort) _ _ refl d
      (alone 33 65 (built_in [] unit_type Abort) refl refl [] c d r).1;
}
  where
    plus_zero : (l : ℕ) → l + 0 ≡ l
    plus_zero l = omega arith

    makes_it : (f : Value) (c : DeclId) (d : CoreDecl)
        → Dispatches worked worked_names.make (f ∷ []) c d
        → by_body worked d.body (f ∷ [])
        ≡ makes (opening_fields f) (λ l. term.Value (object_of worked_names l)) 1
    makes_it f c d r =
        answered thread_decl (f ∷ []) _ refl d (alone 40 75 thread_decl refl refl (f ∷ []) c d r).1

pub worked_counts : Counts worked worked_names
worked_counts = record {
  greater = λ a h c d r. answered (two_small truth_type GreaterSmall) _ _ (is_more a 0) d
      (only 23 (decl 53 ∷ decl 54 ∷ []) refl (named 2 ∷ named 2 ∷ []) 53
      (two_small truth_type GreaterSmall) (Small (pos a) ∷ Small (pos 0) ∷ [])
      (numbers_are a 0) refl
      refl c d r).1;
  takes_one = λ a h c d r. answered (two_small small_type SubtractSmall) _ _ (takes_away a h) d
      (only 1 (decl 2 ∷ decl 3 ∷ []) refl (named 2 ∷ named 2 ∷ []) 2
      (two_small small_type SubtractSmall) (Small (pos (suc a)) ∷ Small (pos 1) ∷ [])
      (numbers_are (suc a) 1) refl refl c d r).1;
}
