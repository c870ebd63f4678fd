-- What both machines know of such a program is the same.
use Rattle.std.proofs.Common.{◌≡◌, ℕ, true, false, List, [], ◌∷◌, map, IsTrue, refl, ap, sym, ◌∙◌, Bool, ◌&&◌}
use Rattle.std.specs.Prelude.{slice_get, Some}
use Rattle.fort_base.specs.declared.ids.DeclId.{DeclId}
use Rattle.fort_base.specs.declared.ids.SetId.{SetId}
use Rattle.fort_base.specs.declared.ty.Ty.{Ty}
use Rattle.fort_base.specs.declared.ty.Ty.TheVariants.{Named}
use Rattle.fort_core.specs.declared.program.CoreDecl.{CoreDecl}
use Rattle.fort_core.specs.declared.program.Program.{Program}
use Rattle.fort_core.specs.declared.term.Term.{Call, Apply}
use Rattle.fort_core.specs.declared.term.Term as term
use Rattle.fort_core.specs.declared.term.Term.TheVariants.{outs-Apply}
use Rattle.fort_core.specs.declared.value.Value.{Value, Function}
use Rattle.fort_core.specs.declared.value.Value.TheVariants.{outs-Function, outs-Tuple}
use Rattle.fort_machine.specs.Acts.{enters, unit, at_values, with_first, by_together}
use Rattle.fort_machine.specs.Calls.{Dispatches, by_body}
use Rattle.fort_machine.specs.Ends.{has_stepped}
use Rattle.fort_machine.specs.Forms.{entering, applying_to, applying, act, act_at}
use Rattle.fort_machine.specs.Substitution.{substituted_all, parts_paired, bound_to}
use Rattle.fort_machine.specs.Types.{all_below, type_of, has_type}
use Rattle.fort_machine.proofs.Standing.{standing-Value}
use Rattle.fort_threads.specs.Known.{Known, IsBody}
use Rattle.fort_threads_law_servers.specs.Prelude.{Names, object_of}
use Rattle.fort_threads_law_servers.specs.Roots.{Start}
use Rattle.fort_threads_law_worlds.specs.Known.{Own, AreSame}
use Rattle.fort_threads_law_tables.specs.Tabled.{HasText, Tabled, TabledAround, TabledIsSame, one_thread}
use Rattle.fort_threads_law_tables.proofs.Forms.{Form, term_of, put, wait_form, ready_form, val_form, spawn_form, main_form}
use Rattle.fort_threads_law_tables.proofs.Calls.{some_is, one_runs}
use Rattle.fort_threads_law_tables.proofs.Objects.{is_object}
use Rattle.fort_threads_law_tables.proofs.Tables.{enters_put}

and_true : (a b : Bool) → (a && b) ≡ true → (a ≡ true) × (b ≡ true)
and_true true b e = (refl, e)
and_true false b e = absurd cc

module _ (p : Program) where
  -- values for one parameter, and for none
  one_value : (vs : List Value) (A : Ty) → IsTrue (all_below p (map (type_of p) vs) (A ∷ []))
      → (v : Value) × (vs ≡ v ∷ []) × (has_type p v A ≡ true)
  one_value [] A h = absurd cc
  one_value (v ∷ []) A h = (v, refl, (and_true (has_type p v A) true h).0)
  one_value (v ∷ w ∷ vs) A h =
      let z : false ≡ true = (and_true (has_type p v A) false h).1 in absurd cc

  no_value : (vs : List Value) → IsTrue (all_below p (map (type_of p) vs) []) → vs ≡ []
  no_value [] h = refl
  no_value (v ∷ vs) h = absurd cc

  -- the declaration of a number, and what it takes
  declared_is : (k : DeclId) (x d : CoreDecl) → slice_get p.decls k.0 ≡ Some x → (s : SetId)
      (vs : List Value) → Dispatches p s vs k d → d ≡ x
  declared_is k x d e s vs r = some_is d x (sym r.most_specific.applicable.is_decl ∙ e)

  applied_to : (k : DeclId) (x d : CoreDecl) (ts : List Ty) → slice_get p.decls k.0 ≡ Some x
      → x.parameters ≡ ts → (s : SetId) (vs : List Value) → Dispatches p s vs k d
      → IsTrue (all_below p (map (type_of p) vs) ts)
  applied_to k x d ts e w s vs r =
      ap (λ us. all_below p (map (type_of p) vs) us)
      (sym (ap (λ (y : CoreDecl). y.parameters) (declared_is k x d e s vs r) ∙ w))
      ∙ r.most_specific.applicable.applies

module _ (p : Program) (n : Names) (m : Start) (o : Own) (k : Known) (t : Tabled p n)
    (a : TabledAround p n m o k) where
  abbrev IsOneObject : List Value → Type 0
  IsOneObject values = (l : ℕ) × (values ≡ object_of n l ∷ [])

  takes_object : (d : DeclId) (x : CoreDecl) → slice_get p.decls d.0 ≡ Some x
      → x.parameters ≡ one_thread n → (s : SetId) (values : List Value) (y : CoreDecl)
      → Dispatches p s values d y → IsOneObject values
  takes_object d x e w s values y r =
      let v = one_value p values (Named n.thread)
      (applied_to p d x y (one_thread n) e w s values r) in
      let i = is_object p n t.stands v.0 v.2 in (i.0, v.1 ∙ ap (λ u. u ∷ []) i.1)

  body_of : (d : DeclId) (f : Form) (h : HasText p d (term_of f)) (v : Value)
      → IsBody p d (v ∷ []) (term_of (put 0 v f))
  body_of d f h v =
      record {
        declared = h.declared;
        text = term_of f;
        is_declared = h.is_decl;
        is_body = enters_put p n f v h.declared h.text;
      }

  -- the function that `main'` is given
  applies_own : act p (Apply (term.Value m.own) (term.Value unit))
      ≡ enters (Call o.set []) (Call o.set [])
  applies_own =
      let c = a.function in
      ap (λ v. act p (Apply (term.Value v) (term.Value unit))) a.is_function
      ∙ ap (act_at p) (outs-Apply (term.Value (Function c)) (term.Value unit))
      ∙ (λ i. by_together
      (with_first (standing-Value (Function c) i) (has_stepped (term.Value (Function c)))
      (with_first (standing-Value unit i) (has_stepped (term.Value unit)) (at_values [])))
      applying)
      ∙ ap (λ y. applying_to y unit) (outs-Function c)
      ∙ ap (λ xs. entering c (bound_to xs unit)) a.no_parameters
      ∙ ap (λ y. entering c (parts_paired [] y)) (outs-Tuple [])
      ∙ (λ i. enters (a.calls_own i) (substituted_all (a.holds_none i) (a.calls_own i)))

  own_enters : (d : CoreDecl) → d ≡ a.own.declared → by_body p d.body [] ≡ enters o.text o.body
  own_enters d q =
      ap (λ b. by_body p b []) (ap (λ (x : CoreDecl). x.body) q ∙ a.own.text)
      ∙ ap (enters o.text) (sym a.same_text)

  is_same : AreSame p n m o k
  is_same = record {
    thread = a.thread;
    too_many = a.too_many;
    is_single = a.is_single;
    spawns = λ f. body_of k.spawn (spawn_form n) a.spawn f;
    waits = λ l. body_of k.wait (wait_form n) a.wait (object_of n l);
    gets = λ l. body_of k.val (val_form n) a.val (object_of n l);
    asks = λ l. body_of k.ready (ready_form n) a.ready (object_of n l);
    spawns_one = λ s values d r.
        let v = one_value p values a.takes_one
        (applied_to p k.spawn a.spawn.declared d (a.takes_one ∷ []) a.spawn.is_decl a.spawn_takes s
        values r)
        in (v.0, v.1);
    waits_for_one = λ s values d r.
        takes_object k.wait a.wait.declared a.wait.is_decl a.wait_takes s values d r;
    gets_one = λ s values d r.
        takes_object k.val a.val.declared a.val.is_decl a.val_takes s values d r;
    asks_one = λ s values d r.
        takes_object k.ready a.ready.declared a.ready.is_decl a.ready_takes s values d r;
    runs_main = λ s values d r. (
      no_value p values
          (applied_to p k.run a.run.declared d [] a.run.is_decl a.run_takes s values r),
      (
        Call m.main (term.Value m.own ∷ []),
        ap (λ b. by_body p b [])
            (ap (λ (x : CoreDecl). x.body)
            (declared_is p k.run a.run.declared d a.run.is_decl s values r)
            ∙ a.run.text),
      ),
    );
    is_main = λ c d r. (
      term_of (main_form n m),
      enters_put p n (main_form n m) m.own d
          (ap (λ (x : CoreDecl). x.body)
          (one_runs p m.main a.main a.main_declared a.has_main (m.own ∷ []) c d r).1
          ∙ a.main_text_is),
    );
    own_declared = a.own.declared;
    is_own = a.own.is_decl;
    own_body = own_enters a.own.declared refl;
    bare = a.bare;
    own_call = λ c d r. (
      o.text,
      own_enters d (one_runs p o.set k.own_run a.own.declared a.has_own [] c d r).1,
    );
    applies = (Call o.set [], applies_own);
    apart = a.apart;
  }

pub tabled_is_same : TabledIsSame
tabled_is_same = is_same
