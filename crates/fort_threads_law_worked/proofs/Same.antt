-- What both machines know of the worked program is the same.
use Rattle.std.proofs.Common.{◌≡◌, ℕ, true, false, List, [], ◌∷◌, map, IsTrue, refl, ap, sym, ◌∙◌}
use Rattle.std.specs.Prelude.{slice_get, Some}
use Rattle.fort_base.specs.declared.ids.SetId.{SetId}
use Rattle.fort_base.specs.declared.ty.Ty.{Ty}
use Rattle.fort_base.specs.declared.ty.Ty.TheVariants.{Named}
use Rattle.fort_core.specs.declared.program.CoreDecl.{CoreDecl}
use Rattle.fort_core.specs.declared.term.Term.{Term, Call, Apply}
use Rattle.fort_core.specs.declared.term.Term as term
use Rattle.fort_core.specs.declared.term.Term.TheVariants.{outs-Apply}
use Rattle.fort_core.specs.declared.value.Closure.{Closure}
use Rattle.fort_core.specs.declared.value.Value.{Value}
use Rattle.fort_core.specs.declared.value.Value.TheVariants.{outs-Function, outs-Tuple}
use Rattle.fort_machine.specs.Acts.{enters, unit, at_values, with_first, by_together}
use Rattle.fort_machine.specs.Calls.{Dispatches, by_body}
use Rattle.fort_machine.specs.Ends.{has_stepped}
use Rattle.fort_machine.specs.Forms.{entering, applying_to, applying, act, act_at}
use Rattle.fort_machine.specs.Substitution.{parts_paired}
use Rattle.fort_machine.specs.Types.{all_below, type_of, has_type}
use Rattle.fort_machine.specs.Worked.{type, set, decl}
use Rattle.fort_machine.proofs.Standing.{standing-Value}
use Rattle.fort_machine.proofs.Written.{written_is_bare}
use Rattle.fort_sound_typed.proofs.Near.{and_true}
use Rattle.fort_threads_law_servers.specs.Prelude.{object_of}
use Rattle.fort_threads_law_worlds.specs.Known.{AreSame}
use Rattle.fort_threads_law_worked.specs.Bodies.{decls, function, own_run, own_body, own_decl, run_decl, run_body, spawn_decl, spawn_body, wait_decl, wait_body, val_decl, val_body, ready_decl, ready_body, main_decl, main_body}
use Rattle.fort_threads_law_worked.specs.Types.{unit_type}
use Rattle.fort_threads_law_worked.specs.Worked.{worked, worked_names, worked_start, worked_own, worked_known}
use Rattle.fort_threads_law_worked.proofs.Forms.{wait_form, val_form, ready_form, spawn_form, main_form}
use Rattle.fort_threads_law_worked.proofs.Calls.{some_is, alone}
use Rattle.fort_threads_law_worked.proofs.Objects.{is_object}
use Rattle.fort_threads_law_worked.proofs.Preluded.{enters_put}
use Rattle.fort_threads_law_worked.proofs.Writing.{own_is_written}

-- values for one parameter, and for none
one_value : (vs : List Value) (A : Ty) → IsTrue (all_below worked (map (type_of worked) vs) (A
    ∷ []))
    → (v : Value) × (vs ≡ v ∷ []) × (has_type worked v A ≡ true)
one_value [] A h = absurd cc
one_value (v ∷ []) A h = (v, refl, (and_true (has_type worked v A) true h).0)
one_value (v ∷ w ∷ vs) A h =
    let z : false ≡ true = (and_true (has_type worked v A) false h).1 in absurd cc

no_value : (vs : List Value) → IsTrue (all_below worked (map (type_of worked) vs) []) → vs ≡ []
no_value [] h = refl
no_value (v ∷ vs) h = absurd cc

-- the declaration of a number
declared_is : (k : ℕ) (x d : CoreDecl) → slice_get decls k ≡ Some x → (s : SetId) (vs : List Value)
    → Dispatches worked s vs (decl k) d → d ≡ x
declared_is k x d e s vs r = some_is d x (sym r.most_specific.applicable.is_decl ∙ e)

applied_to : (x d : CoreDecl) (k : ℕ) (s : SetId) (vs : List Value) → d ≡ x
    → Dispatches worked s vs (decl k) d
    → IsTrue (all_below worked (map (type_of worked) vs) x.parameters)
applied_to x d k s vs q r =
    ap (λ (y : CoreDecl). all_below worked (map (type_of worked) vs) y.parameters) (sym q)
    ∙ r.most_specific.applicable.applies

abbrev IsOneObject : List Value → Type 0
IsOneObject values = (l : ℕ) × (values ≡ object_of worked_names l ∷ [])

takes_object : (x : CoreDecl) (k : ℕ) → slice_get decls k ≡ Some x
    → x.parameters ≡ Named (type 19) ∷ [] → (s : SetId) (values : List Value) (d : CoreDecl)
    → Dispatches worked s values (decl k) d → IsOneObject values
takes_object x k e ps s values d r =
    let w = one_value values (Named (type 19))
    (ap (λ us. all_below worked (map (type_of worked) values) us) (sym ps)
    ∙ applied_to x d k s values (declared_is k x d e s values r) r) in
    let o = is_object w.0 w.2 in (o.0, w.1 ∙ ap (λ v. v ∷ []) o.1)

-- the function that `main'` is given
abbrev own_function : Closure
own_function = function 0 unit_type (Call (set 47) [])

applies_own : act worked (Apply (term.Value own_run) (term.Value unit))
    ≡ enters (Call (set 47) []) (Call (set 47) [])
applies_own =
    ap (act_at worked) (outs-Apply (term.Value own_run) (term.Value unit))
    ∙ (λ i. by_together
    (with_first (standing-Value own_run i) (has_stepped (term.Value own_run))
    (with_first (standing-Value unit i) (has_stepped (term.Value unit)) (at_values [])))
    applying)
    ∙ ap (λ y. applying_to y unit) (outs-Function own_function)
    ∙ ap (λ y. entering own_function (parts_paired [] y)) (outs-Tuple [])

pub worked_is_same : AreSame worked worked_names worked_start worked_own worked_known
worked_is_same = record {
  thread = refl;
  too_many = refl;
  is_single = (type 17, refl);
  spawns = λ f. record {
    declared = spawn_decl;
    text = spawn_body;
    is_declared = refl;
    is_body = enters_put spawn_form f;
  };
  waits = λ l. record {
    declared = wait_decl;
    text = wait_body;
    is_declared = refl;
    is_body = enters_put wait_form (object_of worked_names l);
  };
  gets = λ l. record {
    declared = val_decl;
    text = val_body;
    is_declared = refl;
    is_body = enters_put val_form (object_of worked_names l);
  };
  asks = λ l. record {
    declared = ready_decl;
    text = ready_body;
    is_declared = refl;
    is_body = enters_put ready_form (object_of worked_names l);
  };
  spawns_one = λ s values d r.
      let w = one_value values _
      (applied_to spawn_decl d 76 s values (declared_is 76 spawn_decl d refl s values r) r)
      in (w.0, w.1);
  waits_for_one = λ s values d r. takes_object wait_decl 70 refl refl s values d r;
  gets_one = λ s values d r. takes_object val_decl 74 refl refl s values d r;
  asks_one = λ s values d r. takes_object ready_decl 72 refl refl s values d r;
  runs_main = λ s values d r. runs_main s values d r;
  is_main = λ c d r. (
    main_body,
    ap (λ (x : CoreDecl). by_body worked x.body (own_run ∷ []))
        (alone 45 80 main_decl refl refl (own_run ∷ []) c d r).1
        ∙ enters_put main_form own_run,
  );
  own_declared = own_decl;
  is_own = refl;
  own_body = refl;
  bare = written_is_bare own_body own_is_written;
  own_call = λ c d r. (
    own_body,
    ap (λ (x : CoreDecl). by_body worked x.body []) (alone 47 82 own_decl refl refl [] c d r).1,
  );
  applies = (Call (set 47) [], applies_own);
  apart = (refl, refl, refl, refl, refl);
}
  where
    runs_main : (s : SetId) (values : List Value) (d : CoreDecl)
        → Dispatches worked s values worked_known.run d
        → (values ≡ [])
        × ((text : Term)
        × (by_body worked d.body []
        ≡ enters text (Call worked_start.main (term.Value worked_start.own ∷ []))))
    runs_main s values d r =
        let q = declared_is 81 run_decl d refl s values r in (
          no_value values (applied_to run_decl d 81 s values q r),
          (run_body, ap (λ (x : CoreDecl). by_body worked x.body []) q),
        )
