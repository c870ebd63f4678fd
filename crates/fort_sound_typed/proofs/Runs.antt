-- A run keeps the type of its term, and the store's types, through attempts at any depth.
use Rattle.std.proofs.Common.{◌≡◌, ℕ, Bool, List, [], ◌∷◌, map, Option, Some, None, refl, ap, sym, ◌∙◌, subst, inl, inr}
use Rattle.fort_base.specs.declared.ids.Loc.{Loc}
use Rattle.fort_base.specs.declared.ty.Ty.{Ty}
use Rattle.fort_core.specs.declared.form.Mode.{Mode}
use Rattle.fort_core.specs.declared.pick.Pick.{Pick}
use Rattle.fort_core.specs.declared.term.Term.{Term, Atomic, Asleep, out-Term}
use Rattle.fort_core.specs.declared.term.Term as term
use Rattle.fort_core.specs.declared.term.Term.TheVariants.{outs-Atomic, outs-Asleep}
use Rattle.fort_core.specs.declared.value.Value.{Value}
use Rattle.fort_core.specs.declared.program.Program.{Program}
use Rattle.fort_machine.specs.Cells.{Cell, untouched, found, made, Fits, left_at, given_back, taken_away}
use Rattle.fort_machine.specs.Effects.{Store, Effect, FitsAll, afterwards, failing, aborting}
use Rattle.fort_machine.specs.Ends.{throw_of}
use Rattle.fort_machine.specs.Frames.{plug, trodden}
use Rattle.fort_machine.specs.Marked.{Marks, In}
use Rattle.fort_machine.specs.Attempts.{Form, fresh, slept, Ended, goes, aborts, Closes, completed, failed, gave_up, fell_asleep}
use Rattle.fort_machine.specs.Runs.{Runs, none as nothing, step, stop, attempt}
use Rattle.fort_machine.proofs.WholeEffects.{afterwards_both}
use Rattle.fort_machine.proofs.Places.{ready_open}
use Rattle.fort_machine.proofs.Ready.{local_ready, form_ready}
use Rattle.fort_machine.proofs.Runs.{closes_fit, runs_fit}
use Rattle.fort_sound_typed.specs.Envs.{Sig, none, plain}
use Rattle.fort_sound_typed.specs.Typing.{MarksFit, Has, HasV, HasVs, vs0, vs1}
use Rattle.fort_sound_typed.specs.Sound.{Up, opening, StoreOk, Typed, Kept, KeptRun}
use Rattle.fort_sound_typed.proofs.Facts.{Facts}
use Rattle.fort_sound_typed.proofs.Rules.{rule_at, has_at, parts_as, one_part, sub}
use Rattle.fort_sound_typed.proofs.Grow.{grow_v}
use Rattle.fort_sound_typed.proofs.Frames.{plug_has}
use Rattle.fort_sound_typed.proofs.Good.{throw_good}
use Rattle.fort_sound_typed.proofs.Steps.{stay, same_store, local_keeps}

module _ (k : Program) (o : Facts k) where
  -- the store after an aborted attempt is as before
  back_same : (c : Cell) (x : Option Value) → Fits c x → left_at (taken_away c) x ≡ x
  back_same untouched x f = refl
  back_same (found r w) x f = refl
  back_same (made w) None f = refl
  back_same (made w) (Some v) f = absurd f

  -- what was read stands in the store
  read_there : (c : Cell) (v : Value) (w x : Option Value) → c ≡ found (Some v) w → Fits c x
      → x ≡ Some v
  read_there c v w None e f = absurd (subst (λ z. Fits z None) e f)
  read_there c v w (Some u) e f =
      let z : Fits (found (Some v) w) (Some u) = subst (λ z. Fits z (Some u)) e f in ap Some z

  -- the store after a failed attempt: older values are given back
  module _ (S S' : Sig) (s : Store) (d : Effect) (m : StoreOk k S s) (up : Up S S')
      (m' : StoreOk k S' (afterwards d s)) (f : FitsAll d s) where
    there : (r w x : Option Value) → Fits (found r w) x → (v : Value) × (x ≡ Some v)
    there r w None f = absurd f
    there r w (Some v) f = (v, refl)

    pub put_back : StoreOk k S' (afterwards (failing d) s)
    put_back =
        record {
          opened = m'.opened;
          holds = λ l F e. at l F e (d.cells l) refl;
          covers = λ l v e. cover l v e (d.cells l) refl;
        }
      where
        at : (l : ℕ) (F : Ty) → S' l ≡ Some F → (c : Cell) → d.cells l ≡ c
            → (v : Value) × (left_at (given_back (d.cells l)) (s l) ≡ Some v) × HasV k S' v F
        at l F e untouched q =
            let i = m'.holds l F e
            in (
              i.0,
              ap (λ c. left_at (given_back c) (s l)) q ∙ sym (ap (λ c. left_at c (s l)) q)
                  ∙ i.1,
              i.2,
            )
        at l F e (made w) q =
            let i = m'.holds l F e
            in (
              i.0,
              ap (λ c. left_at (given_back c) (s l)) q ∙ sym (ap (λ c. left_at c (s l)) q)
                  ∙ i.1,
              i.2,
            )
        at l F e (found r w) q =
            let t = there r w (s l) (subst (λ c. Fits c (s l)) q (f l)) in
            let c = m.covers l t.0 t.1 in
            let h = m.holds l c.0 c.1 in
            let z : Some c.0 ≡ Some F = sym (up l c.0 c.1) ∙ e in let y : c.0 ≡ F = cc in
            let x : Some h.0 ≡ Some t.0 = sym h.1 ∙ t.1 in let u : h.0 ≡ t.0 = cc in (
              t.0,
              ap (λ c. left_at (given_back c) (s l)) q
                  ∙ t.1,
              grow_v k S S' up (subst (λ
                  (X : Ty). HasV k S t.0 X) y (subst (λ v. HasV k S v c.0) u h.2)),
            )

        cover : (l : ℕ) (v : Value) → left_at (given_back (d.cells l)) (s l) ≡ Some v → (c : Cell)
            → d.cells l ≡ c → (F : Ty) × (S' l ≡ Some F)
        cover l v e untouched q =
            m'.covers l v (ap (λ c. left_at c (s l)) q
            ∙ sym (ap (λ c. left_at (given_back c) (s l)) q) ∙ e)
        cover l v e (made w) q =
            m'.covers l v (ap (λ c. left_at c (s l)) q
            ∙ sym (ap (λ c. left_at (given_back c) (s l)) q) ∙ e)
        cover l v e (found r w) q =
            let c = m.covers l v (sym (ap (λ c. left_at (given_back c) (s l)) q) ∙ e)
            in (c.0, up l c.0 c.1)

  marks_have : (S : Sig) (s : Store) (m : StoreOk k S s) (ms : Marks)
      → ((l : ℕ) (v : Value) → In l v ms → s l ≡ Some v)
      → (ws : List Ty) × MarksFit S ms ws × HasVs k S (map (λ (m : Loc × Value). m.1) ms) ws
  marks_have S s m [] f = ([], tt, vs0)
  marks_have S s m (q ∷ ms) f =
      let e = f q.0.0 q.1 (inl (refl, refl)) in
      let c = m.covers q.0.0 q.1 e in
      let h = m.holds q.0.0 c.0 c.1 in
      let x : Some h.0 ≡ Some q.1 = sym h.1 ∙ e in let u : h.0 ≡ q.1 = cc in
      let r = marks_have S s m ms (λ l v i. f l v (inr i)) in
      (c.0 ∷ r.0, (c.1, r.1), vs1 (subst (λ v. HasV k S v c.0) u h.2) r.2)

  -- an atomic form has the type of its body
  pub form_has : (S : Sig) (a body : Term) (m : Mode) (T : Ty) → Form a m body → Has k S none a T
      → Has k S none body T
  form_has S a body m T (fresh e) h =
      let r = rule_at k S (ap out-Term e ∙ outs-Atomic m body) h
      in sub k S o.transitive (parts_as k S r.parts r.fits).0.1 r.below
  form_has S a body m T (slept ms q e) h =
      let r = rule_at k S (ap out-Term e ∙ outs-Asleep ms body) h
      in sub k S o.transitive (parts_as k S r.parts r.fits.0).0.1 r.below

  module _ (S : Sig) (s : Store) (m : StoreOk k S s) where
    pub closes_keeps : (mode : Mode) (body b : Term) (r : Ended) (d e : Effect) (T : Ty)
        → Has k S none body T → KeptRun k S r (afterwards d s) T → FitsAll d s
        → Closes k mode body r d b e → Kept k S b (afterwards e s) T
    closes_keeps mode body b r d e T h j f (completed v q p w) =
        subst (λ x. Kept k S b (afterwards x s) T) (sym w)
        (record {
          types = j.types;
          up = j.up;
          store = j.store;
          term = subst (λ u. Has k j.types none u T) (sym p) (j.term (term.Value v) q);
        })
    closes_keeps mode body b r d e T h j f (failed v q p w) =
        subst (λ x. Kept k S b (afterwards x s) T) (sym w)
        (record {
          types = j.types;
          up = j.up;
          store = put_back S j.types s d m j.up j.store f;
          term = subst (λ u. Has k j.types none u T) (sym p) (j.term (throw_of v) q);
        })
    closes_keeps mode body b r d e T h j f (gave_up v q y z p w) =
        subst (λ x. Kept k S b (afterwards x s) T) (sym w)
        (record {
          types = S;
          up = stay k o S;
          store = same_store k o S s (afterwards (aborting d) s)
              (λ l. back_same (d.cells l) (s l) (f l)) m;
          term = subst (λ u. Has k S none u T) (sym p)
              (throw_good k o S m.opened v
              (grow_v k (opening k) S m.opened
              (o.failures k.built_in.try_atomic_failure v
              (inr (inr (inr (inr (inr (inr (inl refl))))))) z)));
        })
    closes_keeps mode body b r d e T h j f (fell_asleep marks q y a z p w) =
        let i = marks_have S s m marks (λ l v n. let c = a.were_read l v n
        in read_there (d.cells l) v c.0 (s l) c.1 (f l)) in
        subst (λ x. Kept k S b (afterwards x s) T) (sym w)
        (record {
          types = S;
          up = stay k o S;
          store = same_store k o S s (afterwards (aborting d) s)
              (λ l. back_same (d.cells l) (s l) (f l)) m;
          term = has_at k S (ap out-Term p
              ∙ outs-Asleep marks body)
              (record {
                own = T;
                qs = plain T ∷ [];
                ws = i.0;
                fits = (refl, i.1);
                parts = one_part k S h;
                values = i.2;
                below = o.reflexive T;
              });
        })

  pub runs_keeps : {inner strict : Bool} {s : Store} {picks : List Pick} {t : Term} {r : Ended}
      {d : Effect} (S : Sig) (T : Ty) → StoreOk k S s → Has k S none t T
      → Runs k inner strict s picks t r d
      → KeptRun k S r (afterwards d s) T
  runs_keeps {s = s} {t = t} {r = r} S T m h (nothing a b c) =
      subst (λ x. KeptRun k S r (afterwards x s) T) (sym c)
      (record {
        types = S;
        up = stay k o S;
        store = m;
        term = λ u e. let z : goes t ≡ goes u = sym b ∙ e in let y : t ≡ u = cc
            in subst (λ w. Has k S none w T) y h;
      })
  runs_keeps {inner = inner} {s = s} {r =
      r} S T m h
      (step {rest = rest} {a = a} {b = b} {d1 = d1} {d2 = d2} {loc = loc} fs a1 c n l f w q) =
      let p = plug_has k o.transitive o.reflexive S none fs a T
      (ready_open a (local_ready k inner loc a b d1 l)) (subst (λ u. Has k S none u T) c h) in
      let i = local_keeps k o S s m inner loc a b d1 p.type p.part l f in
      let j = runs_keeps i.types T i.store (p.back i.types i.up b i.term) w in
      let e = ap (λ x. afterwards x s) q
      ∙ afterwards_both d1 d2 s f (runs_fit (afterwards d1 s) rest (plug (trodden fs) b) r d2 w)
      in
      subst (λ x. KeptRun k S r x T) (sym e)
      (record {
        types = j.types;
        up = λ l F e. j.up l F (i.up l F e);
        store = j.store;
        term = j.term;
      })
  runs_keeps {s = s} {r = r} S T m h (stop fs a b c n e x w) =
      subst (λ y. KeptRun k S r (afterwards y s) T) (sym w)
      (record {
        types = S;
        up = stay k o S;
        store = m;
        term = λ u q. let z : aborts ≡ goes u = sym x ∙ q in absurd cc;
      })
  runs_keeps {s = s} {r =
      r} S T m h
      (attempt {m = mode} {within = within} {rest = rest} {a = a} {b = b} {body = body} {ended =
      ended} {d1 = d1} {d2 = d2} {d3 = d3} fs a1 c n form bare may w close w' q) =
      let p = plug_has k o.transitive o.reflexive S none fs a T
      (ready_open a (form_ready a mode body form)) (subst (λ u. Has k S none u T) c h) in
      let hb = form_has S a body mode p.type form p.part in
      let inside = runs_keeps S p.type m hb w in
      let f = runs_fit s within body ended d1 w in
      let i = closes_keeps S s m mode body b ended d1 d2 p.type hb inside f close in
      let j = runs_keeps i.types T i.store (p.back i.types i.up b i.term) w' in
      let e = ap (λ x. afterwards x s) q
      ∙ afterwards_both d2 d3 s (closes_fit k mode body b ended d1 d2 s close f)
      (runs_fit (afterwards d2 s) rest (plug (trodden fs) b) r d3 w') in
      subst (λ x. KeptRun k S r x T) (sym e)
      (record {
        types = j.types;
        up = λ l F e. j.up l F (i.up l F e);
        store = j.store;
        term = j.term;
      })

  -- what is typed stays typed in any run
  pub keeps : {inner strict : Bool} {s : Store} {picks : List Pick} {t u : Term} {d : Effect}
      (T : Ty) → Typed k t s T → Runs k inner strict s picks t (goes u) d
      → Typed k u (afterwards d s) T
  keeps {u = u} T h w =
      let j = runs_keeps h.types T h.store h.term w
      in record { types = j.types; store = j.store; term = j.term u refl }
