-- Terms and stores of runs: what a run keeps, and that it enters no body in which a form sleeps.
use Rattle.std.proofs.Common.{◌≡◌, ℕ, ◌+◌, ◌==◌, Bool, true, false, List, [], ◌∷◌, ◌++◌, map, Option, Some, None, refl, ap, sym, ◌∙◌, subst, inl, inr, if◌then◌else◌}
use Rattle.std.specs.Prelude.{slice_get, flat_map, zero, suc}
use Rattle.fort_base.specs.declared.ids.Loc.{Loc}
use Rattle.fort_core.specs.declared.form.Mode.{Mode}
use Rattle.fort_core.specs.declared.pick.Pick.{Pick}
use Rattle.fort_core.specs.declared.program.CoreBody.{CoreBody}
use Rattle.fort_core.specs.declared.program.CoreBody.TheVariants as body
use Rattle.fort_core.specs.declared.program.CoreDecl.{CoreDecl}
use Rattle.fort_core.specs.declared.program.CoreShape.{CoreShape}
use Rattle.fort_core.specs.declared.program.Program.{Program}
use Rattle.fort_core.specs.declared.term.Term.{Term, Atomic, Asleep, out-Term}
use Rattle.fort_core.specs.declared.term.Term as term
use Rattle.fort_core.specs.declared.term.Term.TheVariants.{outs-Atomic, outs-Asleep}
use Rattle.fort_core.specs.declared.value.Value.{Value}
use Rattle.fort_machine.specs.Cells.{Cell, untouched, found, made, Fits, left_at, given_back, taken_away}
use Rattle.fort_machine.specs.Effects.{Store, Effect, printed, paid, reading, writing, making, FitsAll, afterwards, failing, aborting}
use Rattle.fort_machine.specs.Ends.{open_yet, standing, throw_of}
use Rattle.fort_machine.specs.Frames.{plug, trodden}
use Rattle.fort_machine.specs.Acts.{Act, stuck, turns, enters, asks, sets, makes, calls, unit, single}
use Rattle.fort_machine.specs.Acts as acts
use Rattle.fort_machine.specs.Calls.{constants}
use Rattle.fort_machine.specs.Marked.{Marks, In}
use Rattle.fort_machine.specs.Written.{term_of, WrittenProgram}
use Rattle.fort_machine.specs.Steps.{Acts, Does, or_unit, steps}
use Rattle.fort_machine.specs.Attempts.{Form, fresh, slept, Ended, goes, aborts, Closes, completed, failed, gave_up, fell_asleep}
use Rattle.fort_machine.specs.Runs.{Runs, none, step, stop, attempt}
use Rattle.fort_machine.specs.Journals.{opening_store, value_in}
use Rattle.fort_machine.specs.Plain.{put, put_from}
use Rattle.fort_machine.specs.Proper.{Resting, AllResting, no_rests, next_rest, RestingValue, AllRestingValues, no_resting_values, next_resting_value, Proper, no_propers, ProperStore, Reached, at_first, by_run, in_attempt, ReachedIsProper, EntersBare}
use Rattle.fort_machine.proofs.WholeEffects.{afterwards_both}
use Rattle.fort_machine.proofs.Places.{ready_open}
use Rattle.fort_machine.proofs.Ready.{acts_ready, acts_not_stuck, local_ready, form_ready}
use Rattle.fort_machine.proofs.Runs.{closes_fit, runs_fit}
use Rattle.fort_machine.proofs.Plain.{reads_plainly, writes_plainly, makes_plainly}
use Rattle.fort_machine.proofs.Resting.{one_rest, rest_bare, all_written_rest, written_values_rest}
use Rattle.fort_machine.proofs.Properly.{proper_at, propers_as, proper_value, proper_throw, rest_proper, plug_proper}
use Rattle.fort_machine.proofs.ProperActs.{Good, good_acts, ProperProgram, unit_rests, single_rests}

-- stores
put_proper : (l : ℕ) (v : Value) (s : Store) → RestingValue v → ProperStore s
    → ProperStore (put l v s)
put_proper l v s h hs k w e = go (l == k) e
  where
    go : (b : Bool) → (if b then Some v else s k) ≡ Some w → RestingValue w
    go true e = let z : v ≡ w = cc in subst RestingValue z h
    go false e = hs k w e

put_all_proper : (l : ℕ) (vs : List Value) (s : Store) → AllRestingValues vs → ProperStore s
    → ProperStore (put_from l vs s)
put_all_proper l [] s h hs = hs
put_all_proper l (v ∷ vs) s (next_resting_value h hs) i =
    put_proper l v (put_from (l + 1) vs s) h (put_all_proper (l + 1) vs s hs i)

or_unit_rests : {vs : List Value} → AllRestingValues vs → AllRestingValues (or_unit vs)
or_unit_rests no_resting_values = next_resting_value unit_rests no_resting_values
or_unit_rests (next_resting_value h hs) = next_resting_value h hs

-- what a step leaves
abbrev pub Kept : Term → Store → Type 0
Kept b s = Proper b × ProperStore s

module _ (p : Program) (s : Store) (hs : ProperStore s) where
  kept : (b c : Term) (d e : Effect) → b ≡ c → d ≡ e → Kept c (afterwards e s)
      → Kept b (afterwards d s)
  kept b c d e q r k =
      (subst Proper (sym q) k.0, subst (λ x. ProperStore (afterwards x s)) (sym r) k.1)

  pub does_proper : (inner : Bool) (loc : ℕ) (x : Act) (b : Term) (d : Effect) → Good x
      → Does p inner loc x b d → FitsAll d s → Kept b (afterwards d s)
  does_proper inner loc stuck b d g k f = absurd k
  does_proper inner loc (turns next output cost) b d g k f =
      kept b next d (printed output cost) k.1 k.2 (g, hs)
  does_proper inner loc (enters c next) b d g k f = kept b next d (paid 1) k.2 k.3 (g.1, hs)
  does_proper inner loc (asks l next) b d g k f =
      let r = reads_plainly l k.0 s in
      let e = r.0.0 (subst (λ x. FitsAll x s) k.3 f) in
      kept b (next k.0) d (reading l k.0) k.2 k.3 (
        g k.0 (hs l k.0 e),
        subst ProperStore (sym r.1) hs,
      )
  does_proper inner loc (sets l v) b d g k f =
      kept b (term.Value unit) d (writing l v) k.1 k.2 (
        proper_value unit_rests,
        subst ProperStore (sym (writes_plainly l v s).1) (put_proper l v s g hs),
      )
  does_proper inner loc (makes vs next cost) b d g k f =
      kept b (next loc) d (making loc (or_unit vs) cost) k.0 k.1 (
        g.1 loc,
        subst ProperStore (sym (makes_plainly loc (or_unit vs) cost s).1)
            (put_all_proper loc (or_unit vs) s (or_unit_rests g.0) hs),
      )
  does_proper inner loc (calls set vs) b d g k f = absurd k
  does_proper inner loc acts.ends b d g k f =
      kept b (throw_of k.0) d (paid 1) k.4 k.5
      (proper_throw (single_rests p p.built_in.abort_outside k.0 k.3), hs)

  -- the store after an attempt that failed or was aborted
  failed_proper : (d : Effect) → ProperStore (afterwards d s)
      → ProperStore (afterwards (failing d) s)
  failed_proper d h l v e = go (d.cells l) refl
    where
      go : (c : Cell) → d.cells l ≡ c → RestingValue v
      go untouched q = hs l v (sym (ap (λ c. left_at (given_back c) (s l)) q) ∙ e)
      go (found r w) q = hs l v (sym (ap (λ c. left_at (given_back c) (s l)) q) ∙ e)
      go (made w) q =
          h l v (ap (λ c. left_at c (s l)) q ∙ sym (ap (λ c. left_at (given_back c) (s l)) q) ∙ e)

  aborted_proper : (d : Effect) → ProperStore (afterwards (aborting d) s)
  aborted_proper d l v e = go (d.cells l) refl
    where
      go : (c : Cell) → d.cells l ≡ c → RestingValue v
      go untouched q = hs l v (sym (ap (λ c. left_at (taken_away c) (s l)) q) ∙ e)
      go (found r w) q = hs l v (sym (ap (λ c. left_at (taken_away c) (s l)) q) ∙ e)
      go (made w) q =
          let z : None ≡ Some v = sym (ap (λ c. left_at (taken_away c) (s l)) q) ∙ e in absurd cc

  -- what was read stands in the store
  read_there : (c : Cell) (v : Value) (w x : Option Value) → c ≡ found (Some v) w → Fits c x
      → x ≡ Some v
  read_there c v w None e f = absurd (subst (λ z. Fits z None) e f)
  read_there c v w (Some u) e f =
      let z : Fits (found (Some v) w) (Some u) = subst (λ z. Fits z (Some u)) e f in ap Some z

  marks_rest : (ms : Marks) → ((l : ℕ) (v : Value) → In l v ms → s l ≡ Some v)
      → AllRestingValues (map (λ (m : Loc × Value). m.1) ms)
  marks_rest [] f = no_resting_values
  marks_rest (m ∷ ms) f =
      next_resting_value (hs m.0.0 m.1 (f m.0.0 m.1 (inl (refl, refl))))
      (marks_rest ms (λ l v i. f l v (inr i)))

  abbrev pub KeptEnd : Ended → Store → Type 0
  KeptEnd r t = ((u : Term) → r ≡ goes u → Proper u) × ProperStore t

  pub closes_proper : (m : Mode) (body b : Term) (r : Ended) (d e : Effect) → Resting body
      → KeptEnd r (afterwards d s) → FitsAll d s → Closes p m body r d b e → Kept b (afterwards e s)
  closes_proper m body b r d e h k f (completed v q i w) = (
    subst Proper (sym i) (k.0 (term.Value v) q),
    subst (λ x. ProperStore (afterwards x s)) (sym w) k.1,
  )
  closes_proper m body b r d e h k f (failed v q i w) = (
    subst Proper (sym i) (k.0 (throw_of v) q),
    subst (λ x. ProperStore (afterwards x s)) (sym w) (failed_proper d k.1),
  )
  closes_proper m body b r d e h k f (gave_up v q x y i w) = (
    subst Proper (sym i) (proper_throw (single_rests p p.built_in.try_atomic_failure v y)),
    subst (λ x. ProperStore (afterwards x s)) (sym w) (aborted_proper d),
  )
  closes_proper m body b r d e h k f (fell_asleep marks q x a y i w) = (
    proper_at b _ (ap out-Term i
        ∙ outs-Asleep marks body) tt tt no_propers (next_rest h no_rests)
        (marks_rest marks (λ l v n. let c = a.were_read l v n
        in read_there (d.cells l) v c.0 (s l) c.1 (f l))),
    subst (λ x. ProperStore (afterwards x s)) (sym w) (aborted_proper d),
  )

-- the body of an atomic form is at rest
pub form_rests : (a body : Term) (m : Mode) → Form a m body → Proper a → Resting body
form_rests a body m (fresh e) h =
    one_rest (propers_as _ (ap out-Term e ∙ outs-Atomic m body) h).rests
form_rests a body m (slept ms q e) h =
    one_rest (propers_as _ (ap out-Term e ∙ outs-Asleep ms body) h).rests

abbrev pub Finishes : Ended → Store → Type 0
Finishes r t = ((u : Term) → r ≡ goes u → Proper u) × ProperStore t

-- runs
module _ (p : Program) (o : ProperProgram p) where
  pub runs_proper : {inner strict : Bool} {s : Store} {picks : List Pick} {t : Term} {r : Ended}
      {d : Effect} → ProperStore s → Proper t → Runs p inner strict s picks t r d
      → Finishes r (afterwards d s)
  runs_proper {s = s} {t = t} {r = r} hs h (none a b c) = (
    λ u e. let z : goes t ≡ goes u = sym b ∙ e in let y : t ≡ u = cc
        in subst Proper y h,
    subst (λ x. ProperStore (afterwards x s)) (sym c) hs,
  )
  runs_proper {inner = inner} {s = s} {r =
      r} hs h (step {rest = rest} {a = a} {b = b} {d1 = d1} {d2 = d2} {loc =
      loc} fs a1 c n (steps x k l) f w q) =
      let q1 = plug_proper fs a (ready_open a (local_ready p inner loc a b d1 (steps x k l)))
      (subst Proper c h) in
      let i = does_proper p s hs inner loc x b d1 (good_acts p o a x q1.0 k) l f in
      let j = runs_proper i.1 (q1.1 b i.0) w in
      let e = ap (λ x. afterwards x s) q
      ∙ afterwards_both d1 d2 s f (runs_fit (afterwards d1 s) rest (plug (trodden fs) b) r d2 w)
      in
      (j.0, subst ProperStore (sym e) j.1)
  runs_proper {s = s} {r = r} hs h (stop fs a b c n e x w) = (
    λ u q. let z : aborts ≡ goes u = sym x ∙ q
        in absurd cc,
    subst (λ y. ProperStore (afterwards y s)) (sym w) hs,
  )
  runs_proper {s = s} {r =
      r} hs h (attempt {m = mode} {within = within} {rest = rest} {a = a} {b = b} {body =
      body} {ended = ended} {d1 = d1} {d2 = d2} {d3 =
      d3} fs a1 c n form bare may w close w' q) =
      let q1 = plug_proper fs a (ready_open a (form_ready a mode body form)) (subst Proper c h) in
      let hb = form_rests a body mode form q1.0 in
      let inside = runs_proper hs (rest_proper hb) w in
      let f = runs_fit s within body ended d1 w in
      let i = closes_proper p s hs mode body b ended d1 d2 hb inside f close in
      let j = runs_proper i.1 (q1.1 b i.0) w' in
      let e = ap (λ x. afterwards x s) q
      ∙ afterwards_both d2 d3 s (closes_fit p mode body b ended d1 d2 s close f)
      (runs_fit (afterwards d2 s) rest (plug (trodden fs) b) r d3 w') in
      (j.0, subst ProperStore (sym e) j.1)

-- what is written, by its number
front : (xs ys : List Value) → AllRestingValues (xs ++ ys)
    → AllRestingValues xs × AllRestingValues ys
front [] ys h = (no_resting_values, h)
front (x ∷ xs) ys (next_resting_value h hs) =
    let i = front xs ys hs in (next_resting_value h i.0, i.1)

opened : (es : List (Loc × Value)) → AllRestingValues (map (λ (e : Loc × Value). e.1) es)
    → ProperStore (value_in es)
opened [] h l v e = absurd cc
opened (q ∷ es) (next_resting_value h hs) l v e = go (q.0.0 == l) e (λ i. opened es hs l v i)
  where
    go : (b : Bool) → (if b then Some q.1 else value_in es l) ≡ Some v
        → (value_in es l ≡ Some v → RestingValue v) → RestingValue v
    go true e k = let z : q.1 ≡ v = cc in subst RestingValue z h
    go false e k = k e

field_rests : (ss : List CoreShape) (n : ℕ) (s : CoreShape)
    → AllRestingValues (flat_map constants ss) → slice_get ss n ≡ Some s
    → AllRestingValues (constants s)
field_rests [] n s h e = absurd cc
field_rests (x ∷ ss) zero s h e =
    let z : x ≡ s = cc
    in subst (λ y. AllRestingValues (constants y)) z
    (front (constants x) (flat_map constants ss) h).0
field_rests (x ∷ ss) (suc n) s h e =
    field_rests ss n s (front (constants x) (flat_map constants ss) h).1 e

terms_front : (xs ys : List Term) → AllResting (xs ++ ys) → AllResting xs × AllResting ys
terms_front [] ys h = (no_rests, h)
terms_front (x ∷ xs) ys (next_rest h hs) = let i = terms_front xs ys hs in (next_rest h i.0, i.1)

body_rests : (ds : List CoreDecl) (n : ℕ) (decl : CoreDecl) (t : Term)
    → AllResting (flat_map (λ (d : CoreDecl). term_of d.body) ds) → slice_get ds n ≡ Some decl
    → decl.body ≡ body.Plain t → Resting t
body_rests [] n decl t h e q = absurd cc
body_rests (x ∷ ds) zero decl t h e q =
    let z : x ≡ decl = cc in
    one_rest (subst (λ
    (b : CoreBody). AllResting (term_of b)) (ap (λ
    (d : CoreDecl). d.body) z
    ∙ q) (terms_front (term_of x.body) (flat_map (λ
    (d : CoreDecl). term_of d.body) ds) h).0)
body_rests (x ∷ ds) (suc n) decl t h e q =
    body_rests ds n decl t
    (terms_front (term_of x.body) (flat_map (λ (d : CoreDecl). term_of d.body) ds) h).1 e q

first_rest_of : {t : Term} {ts : List Term} → AllResting (t ∷ ts) → Resting t × AllResting ts
first_rest_of (next_rest h hs) = (h, hs)

pub written_proper : (p : Program) → WrittenProgram p → ProperProgram p
written_proper p w =
    let t = first_rest_of (all_written_rest w.terms) in
    let v = front (map (λ
    (e : Loc × Value). e.1) p.opening) (flat_map constants p.shapes)
    (written_values_rest w.values) in
    record {
      first = t.0;
      bodies = λ d decl b e q. body_rests p.decls d.0 decl b t.1 e q;
      fields = λ id s e. field_rests p.shapes id.0 s v.1 e;
    }

pub opening_proper : (p : Program) → WrittenProgram p → ProperStore (opening_store p)
opening_proper p w =
    opened p.opening
    (front (map (λ
    (e : Loc × Value). e.1) p.opening) (flat_map constants p.shapes)
    (written_values_rest w.values)).0

-- each state that is reached
reached_proper : (p : Program) → WrittenProgram p → {inner : Bool} {s : Store} {t : Term}
    → Reached p inner s t → Proper t × ProperStore s
reached_proper p w (at_first a b c) = (
  subst Proper (sym c) (rest_proper (written_proper p w).first),
  subst ProperStore (sym b) (opening_proper p w),
)
reached_proper p w (by_run {t' = t'} k r e) =
    let i = reached_proper p w k in
    let j = runs_proper p (written_proper p w) i.1 i.0 r in
    (j.0 t' refl, subst ProperStore (sym e) j.1)
reached_proper p w (in_attempt {a = a} {body = body} {m = m} fs k c form n) =
    let i = reached_proper p w k in
    let q = plug_proper fs a (ready_open a (form_ready a m body form)) (subst Proper c i.0) in
    (rest_proper (form_rests a body m form q.0), i.1)

pub reached_is_proper : ReachedIsProper
reached_is_proper p w inner s t k = reached_proper p w k

entering_open : (p : Program) (a : Term) (b next : Term) → Acts p a (enters b next)
    → standing a ≡ open_yet
entering_open p a b next k =
    ready_open a (acts_ready p a (acts_not_stuck p a (enters b next) (λ q. cc) k))

pub enters_bare : EntersBare
enters_bare p w inner s t k fs a c =
    let i = reached_proper p w k in (
      λ b next x. (good_acts p (written_proper p w) a (enters b next)
          (plug_proper fs a (entering_open p a b next x) (subst Proper c i.0)).0 x).0,
      λ m b form. rest_bare
          (form_rests a b m form
          (plug_proper fs a (ready_open a (form_ready a m b form)) (subst Proper c i.0)).0),
    )
