-- What a typed term throws is an exception.
use Rattle.std.proofs.Common.{◌≡◌, ℕ, ◌&&◌, Bool, true, false, List, [], ◌∷◌, ◌++◌, IsTrue, pos, refl, ap, sym, ◌∙◌, subst, ◌⊎◌, inl, inr}
use Rattle.fort_base.specs.declared.ids.DeclId.{DeclId}
use Rattle.fort_base.specs.declared.ids.Loc.{Loc}
use Rattle.fort_base.specs.declared.ids.SetId.{SetId}
use Rattle.fort_base.specs.declared.ids.TypeId.{TypeId}
use Rattle.fort_base.specs.declared.ty.Ty.{Ty, Arrow, out-Ty}
use Rattle.fort_base.specs.declared.ty.Ty.TheVariants.{Named, outs-Named, outs-Tuple, outs-Arrow}
use Rattle.fort_base.specs.declared.ty.Ty.TheOpen.{Ty-F}
use Rattle.fort_core.specs.declared.program.CoreDecl.{CoreDecl}
use Rattle.fort_core.specs.declared.program.Program.{Program}
use Rattle.fort_core.specs.declared.term.Term.{Term, Throw, Call, Apply, Group, Then, If, Stepped, out-Term}
use Rattle.fort_core.specs.declared.term.Term as term
use Rattle.fort_core.specs.declared.term.Term.TheVariants.{outs-Value, outs-Throw, outs-Group, outs-Call, outs-Operator, outs-Apply, outs-Then, outs-If}
use Rattle.fort_core.specs.declared.term.Term.TheOpen.{Term-F, Value-F}
use Rattle.fort_core.specs.declared.value.Value.{Value, Object, Function, out-Value, roll-Value, roll-out-Value, fold-roll-Value}
use Rattle.fort_core.specs.declared.value.Value.TheVariants.{outs-Small, outs-Object, outs-Function, rolls-Object}
use Rattle.fort_types.specs.Table.{is_set}
use Rattle.fort_machine.specs.Acts.{unit}
use Rattle.fort_machine.specs.Calls.{IsApplicable, IsMoreSpecific}
use Rattle.fort_machine.specs.Frames.{Frame, in_throw, on, plug, part_number}
use Rattle.fort_machine.specs.Runs.{location}
use Rattle.fort_machine.specs.Types.{below, all_below, domain_of, type_at, type_of, has_type}
use Rattle.fort_machine_law_marks.specs.Marks.{LeavesPart}
use Rattle.fort_sound_typed.specs.Envs.{Sig, Env, plains}
use Rattle.fort_sound_typed.specs.Typing.{Below, Has, HasV, unit_type, small_type, truth_type, thrown_type}
use Rattle.fort_sound_typed.specs.Sound.{Sound}
use Rattle.fort_sound_typed.specs.Goes.{Complete}
use Rattle.fort_sound_typed.proofs.Computed.{told, told_out, through}
use Rattle.fort_sound_typed.proofs.Facts.{Facts}
use Rattle.fort_sound_typed.proofs.Near.{and_true}
use Rattle.fort_sound_typed.proofs.Order.{absorbs, shape, under_of}
use Rattle.fort_sound_typed.proofs.Rules.{rule_at, rule_v, PartsAt, parts_as, sub, sub_v, value_has}
use Rattle.fort_sound_typed.proofs.Shapes.{Shape}
use Rattle.fort_threads_law_servers.specs.Prelude.{Names, object_of, number}
use Rattle.fort_threads_law_servers.specs.Calls.{asking}
use Rattle.fort_threads_law_servers.specs.Roots.{Start}
use Rattle.fort_threads_law_worlds.specs.Known.{Own}
use Rattle.fort_threads_law_matches.specs.Matches.{IsThrowable}
use Rattle.fort_threads_law_matches.specs.Ways.{Starting, calls_main, tests_started, was_told, applies_own, calls_own, starting_term}
use Rattle.fort_threads_law_thrown.specs.Tables.{Gives, Tables}
use Rattle.fort_threads_law_thrown.proofs.Inside.{IsNoValue, inner_has}

-- frames with one more inside them
pub plug_one : (fs : List Frame) (f : Frame) (a : Term) → plug fs (on f a) ≡ plug (fs ++ f ∷ []) a
plug_one [] f a = refl
plug_one (g ∷ fs) f a = ap (on g) (plug_one fs f a)

last_is : (fs gs : List Frame) (f g : Frame) → fs ++ f ∷ [] ≡ gs ++ g ∷ [] → f ≡ g
last_is [] [] f g e = cc
last_is [] (h ∷ []) f g e = absurd cc
last_is [] (h ∷ i ∷ gs) f g e = absurd cc
last_is (h ∷ []) [] f g e = absurd cc
last_is (h ∷ i ∷ fs) [] f g e = absurd cc
last_is (h ∷ fs) (i ∷ gs) f g e = let z : fs ++ f ∷ [] ≡ gs ++ g ∷ [] = cc in last_is fs gs f g z

-- no mark stands in a throw
pub no_leave : (fs : List Frame) → LeavesPart (fs ++ in_throw ∷ []) → ⊥
no_leave fs l =
    let q : in_throw ≡ l.last = last_is fs l.outer in_throw l.last l.are in
    let z : [] ≡ l.number ∷ [] = ap part_number q ∙ l.is_number in cc

pub throw_no_value : (a : Term) → IsNoValue (Throw a)
throw_no_value a v e =
    let z : Term-F.Throw a ≡ Term-F.Value v = sym (outs-Throw a) ∙ ap out-Term e ∙ outs-Value v
    in absurd cc

module _ (p : Program) (n : Names) (m : Start) (o : Own) (sound : Sound p) (all : Complete p)
    (tables : Tables p n m o) (k : Facts p) (S : Sig) where
  abbrev X : Ty
  X = thrown_type p

  -- what isn't below `Exception`
  no_unit : Below p unit_type X → ⊥
  no_unit b =
      let z : Shape p (Ty-F.Tuple []) (Ty-F.Named p.built_in.exception) =
      subst (λ u. Shape p u (Ty-F.Named p.built_in.exception)) (outs-Tuple [])
      (subst (λ u. Shape p (out-Ty unit_type) u) (outs-Named p.built_in.exception)
      (shape p unit_type X b)) in z

  no_truth : Below p (truth_type p) X → ⊥
  no_truth b = all.unthrown p.built_in.truth (inr (inr (inr (inl refl)))) (under_of p b)

  no_thread : Below p (Named n.thread) X → ⊥
  no_thread b = go (under_of p b)
    where
      go : (n.thread ≡ p.built_in.exception)
          ⊎ IsTrue (is_set p.types.below n.thread.0 p.built_in.exception.0) → ⊥
      go (inl e) = tables.other e
      go (inr e) = let z : false ≡ true = sym tables.apart ∙ e in cc

  -- a term that is thrown is no tuple
  throws_no_tuple : {G : Env} (ts : List Term) → Has p S G (Group ts) X → ⊥
  throws_no_tuple ts h =
      let r = rule_at p S (outs-Group ts) h in
      let b : Below p r.own X = r.below in
      let z : Shape p (Ty-F.Tuple r.fits.0) (Ty-F.Named p.built_in.exception) =
      subst (λ u. Shape p u (Ty-F.Named p.built_in.exception)) (ap out-Ty r.fits.2
      ∙ outs-Tuple r.fits.0)
      (subst (λ u. Shape p (out-Ty r.own) u) (outs-Named p.built_in.exception) (shape p r.own X b))
      in z

  -- nor the object of a thread, behind an added one
  throws_no_thread : {G : Env} (l : ℕ) (x : Value)
      → Has p S G (Then (term.Value x) (term.Value (object_of n l))) X → ⊥
  throws_no_thread l x h =
      let r = rule_at p S (outs-Then (term.Value x) (term.Value (object_of n l))) h in
      let i = (parts_as p S r.parts r.fits.1).1.0.1 in
      let v = rule_v p S (outs-Object n.thread (location l))
      (sub_v p S k.transitive (value_has p S k.transitive i) r.below) in
      no_thread (subst (λ u. Below p u X) v.fits.1 v.below)

  -- a small number as a term
  small_below : {G : Env} (a : ℕ) (A : Ty) → Has p S G (number a) A → Below p (small_type p) A
  small_below a A h =
      let v = rule_v p S (outs-Small (pos a)) (value_has p S k.transitive h) in
      subst (λ u. Below p u A) v.fits.0 v.below

  two_below : (A B : Ty) (Ps : List Ty) → Below p (small_type p) A → Below p (small_type p) B
      → IsTrue (all_below p (A ∷ B ∷ []) Ps)
      → IsTrue (all_below p (small_type p ∷ small_type p ∷ []) Ps)
  two_below A B [] a b h = absurd cc
  two_below A B (P ∷ []) a b h = absurd (no_more (below p A P) h)
    where
      no_more : (x : Bool) → (x && false) ≡ true → ⊥
      no_more true e = absurd cc
      no_more false e = absurd cc
  two_below A B (P ∷ Q ∷ []) a b h =
      let q = and_true (below p A P) (below p B Q && true) h in
      let r = and_true (below p B Q) true q.1 in
      let t = through p.types.below sound.through in
      ap (λ x. x && (below p (small_type p) Q && true)) (absorbs p t P a q.0)
      ∙ ap (λ x. x && true) (absorbs p t Q b r.0)
  two_below A B (P ∷ Q ∷ R ∷ Ps) a b h =
      absurd (no_more (below p A P) (below p B Q) h)
    where
      no_more : (x y : Bool) → (x && (y && false)) ≡ true → ⊥
      no_more true true e = absurd cc
      no_more true false e = absurd cc
      no_more false y e = absurd cc

  -- nor a comparison of a mark
  no_compared : (As : List Ty) (d : DeclId) (decl : CoreDecl)
      → IsTrue (all_below p (small_type p ∷ small_type p ∷ []) decl.parameters)
      → IsApplicable p n.differs As d decl → Below p decl.result X → ⊥
  no_compared As d decl w i b =
      let c = tables.differs in
      let s : IsMoreSpecific p c.declared decl =
      subst (λ u. IsTrue (all_below p u decl.parameters)) (sym c.takes) w in
      let q =
      sound.results n.differs (small_type p ∷ small_type p ∷ []) As c.number d c.declared decl
      c.applies i s in
      no_truth (k.transitive (truth_type p) decl.result X
      (subst (λ u. Below p u decl.result) c.gives q) b)

  throws_no_truth : {G : Env} (a : ℕ) → Has p S G (asking n (number a)) X → ⊥
  throws_no_truth {G} a h =
      let r = rule_at p S (outs-Operator n.differs (number a ∷ number 0 ∷ [])) h in
      go r.fits.0 (parts_as p S r.parts r.fits.1) r.fits.2.0 r.fits.2.1 r.fits.2.2
      (subst (λ u. Below p u X) r.fits.2.3 r.below)
    where
      go : (As : List Ty) → PartsAt p S G (number a ∷ number 0 ∷ []) (plains As) → (d : DeclId)
          (decl : CoreDecl) → IsApplicable p n.differs As d decl → Below p decl.result X → ⊥
      go [] ps d decl i b = ps
      go (A ∷ []) ps d decl i b = ps.1
      go (A ∷ B ∷ []) ps d decl i b =
          no_compared (A ∷ B ∷ []) d decl
          (two_below A B decl.parameters (small_below a A ps.0.1) (small_below 0 B ps.1.0.1)
          i.applies)
          i b
      go (A ∷ B ∷ C ∷ As) ps d decl i b = ps.1.1

  -- nor a call that gives `()`
  throws_no_unit : {G : Env} (set : SetId) (ts : List Term) → Gives p set unit_type
      → Has p S G (Call set ts) X → ⊥
  throws_no_unit set ts gives h =
      let r = rule_at p S (outs-Call set ts) h in
      let i = r.fits.2.2 in
      no_unit (subst (λ u. Below p u X)
      (r.fits.2.3 ∙ gives i.members i.is_set r.fits.2.0 i.is_member r.fits.2.1 i.is_decl) r.below)

  throws_no_applied : {G : Env}
      → Has p S G (Apply (term.Value m.own) (term.Value unit)) X → ⊥
  throws_no_applied {G} h =
      let r = rule_at p S (outs-Apply (term.Value m.own) (term.Value unit)) h in
      let i = (parts_as p S r.parts r.fits.1).0.1 in
      applied r.fits.0 r.own r.below (subst (λ u. HasV p S u (Arrow r.fits.0 r.own))
      tables.is_function (value_has p S k.transitive i))
    where
      applied : (A R : Ty) → Below p R X → HasV p S (Function tables.function) (Arrow A R) → ⊥
      applied A R b h =
          let c = tables.function in
          let v = rule_v p S (outs-Function c) h in
          let z : Shape p (Ty-F.Arrow (domain_of c.parameters) c.result) (Ty-F.Arrow A R) =
          subst (λ u. Shape p u (Ty-F.Arrow A R)) (ap out-Ty v.fits.2
          ∙ outs-Arrow (domain_of c.parameters) c.result)
          (subst (λ u. Shape p (out-Ty v.own) u) (outs-Arrow A R)
          (shape p v.own (Arrow A R) v.below)) in
          no_unit (k.transitive unit_type R X (subst (λ u. Below p u R) tables.gives_unit z.1) b)

  throws_no_test : {G : Env} (c e : Term)
      → Has p S G (If c (Apply (term.Value m.own) (term.Value unit)) e) X → ⊥
  throws_no_test c e h =
      let r = rule_at p S (outs-If c (Apply (term.Value m.own) (term.Value unit)) e) h in
      throws_no_applied (sub p S k.transitive (parts_as p S r.parts r.fits).1.0.1 r.below)

  -- nor what `run` comes to
  throws_no_run : {G : Env} (place : Starting) → Has p S G (starting_term n m o place) X → ⊥
  throws_no_run calls_main h = throws_no_unit m.main (term.Value m.own ∷ []) tables.main h
  throws_no_run tests_started h = throws_no_test _ _ h
  throws_no_run was_told h = throws_no_test _ _ h
  throws_no_run applies_own h = throws_no_applied h
  throws_no_run calls_own h = throws_no_unit o.set [] tables.own h

  -- what is thrown and isn't a value yet
  throwable : {G : Env} (a : Term) → ((u : Term) → a ≡ Stepped u → ⊥) → Has p S G a X
      → IsThrowable n m o a
  throwable {G} a marks h = record {
    no_tuple = λ ts e. throws_no_tuple ts (subst (λ u. Has p S G u X) e h);
    no_mark = marks;
    no_thread = λ l x e. throws_no_thread l x (subst (λ u. Has p S G u X) e h);
    no_truth = λ a e. throws_no_truth a (subst (λ u. Has p S G u X) e h);
    no_run = λ place e. throws_no_run place (subst (λ u. Has p S G u X) e h);
  }

  pub throw_at : {G : Env} {T : Ty} (fs : List Frame) (a : Term) → ((u : Term) → a ≡ Stepped u → ⊥)
      → Has p S G (plug fs (Throw a)) T → IsThrowable n m o a
  throw_at fs a marks h =
      let w = inner_has p S fs (Throw a) (throw_no_value a) h in
      let r = rule_at p S (outs-Throw a) w.has in
      throwable a marks (parts_as p S r.parts r.fits).0.1

  -- and what is one
  named_told : (i : TypeId) → below p (Named i) X ≡ is_set p.types.below i.0 p.built_in.exception.0
  named_told i =
      told_out p.types.below (Named i) X true
      ∙ ap (λ z. told p.types.below z true (out-Ty X)) (outs-Named i)
      ∙ ap (λ z. told p.types.below (Ty-F.Named i) true z) (outs-Named p.built_in.exception)

  under_told : (i : TypeId) → Below p (Named i) X
      → is_set p.types.below i.0 p.built_in.exception.0 ≡ true
  under_told i b = go (under_of p b)
    where
      go : (i ≡ p.built_in.exception)
          ⊎ IsTrue (is_set p.types.below i.0 p.built_in.exception.0)
          → is_set p.types.below i.0 p.built_in.exception.0 ≡ true
      go (inl e) =
          ap (λ (j : TypeId). is_set p.types.below j.0 p.built_in.exception.0) e ∙ tables.itself
      go (inr e) = e

  pub value_at : (v : Value)
      → ((j : TypeId) × (base : Loc) × (out-Value v ≡ Value-F.Object j base))
      → HasV p S v X
      → has_type p v n.exception ≡ true
  value_at v x h =
      let q = rule_v p S x.2 h in
      let e : v ≡ Object x.0 x.1 =
      sym (roll-out-Value v) ∙ ap roll-Value x.2 ∙ rolls-Object x.0 x.1 in
      ap (λ u. has_type p v u) tables.exception ∙ ap (λ u. below p (type_of p u) X) e
      ∙ ap (λ u. below p u X) (object_type x.0 x.1)
      ∙ named_told x.0 ∙ under_told x.0 (subst (λ u. Below p u X) q.fits.1 q.below)
    where
      object_type : (i : TypeId) (base : Loc) → type_of p (Object i base) ≡ Named i
      object_type i base = ap (type_of p) (sym (rolls-Object i base))
          ∙ fold-roll-Value (Unit {0}) Ty Ty (λ t. tt) (type_at p.built_in)
          (λ c. Arrow (domain_of c.parameters) c.result) (Value-F.Object i base)
