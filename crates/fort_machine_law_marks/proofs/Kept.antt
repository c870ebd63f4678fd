-- Where marks stand is kept by runs.
use Rattle.std.proofs.Common.{◌≡◌, ℕ, Bool, false, List, refl, ap, sym, ◌∙◌, subst}
use Rattle.fort_core.specs.declared.form.Mode.{Mode}
use Rattle.fort_core.specs.declared.pick.Pick.{Pick}
use Rattle.fort_core.specs.declared.program.Program.{Program}
use Rattle.fort_core.specs.declared.term.Term.{Term, Stepped}
use Rattle.fort_core.specs.declared.term.Term.TheVariants.{outs-Stepped}
use Rattle.fort_core.specs.declared.term.Term.TheOpen.{Term-F}
use Rattle.fort_machine.specs.Effects.{Store, Effect, FitsAll}
use Rattle.fort_machine.specs.Ends.{open_yet, standing, standing_at}
use Rattle.fort_machine.specs.Acts.{Act, stuck, turns, enters, asks, sets, makes, calls}
use Rattle.fort_machine.specs.Acts as acts
use Rattle.fort_machine.specs.Steps.{Does, steps}
use Rattle.fort_machine.specs.Attempts.{Ended, goes, aborts, Closes, completed, failed, gave_up, fell_asleep}
use Rattle.fort_machine.specs.Runs.{Runs, none, step, stop, attempt}
use Rattle.fort_machine.specs.Written.{WrittenProgram}
use Rattle.fort_machine.specs.Proper.{Resting, Proper, ProperStore, Reached, at_first, by_run, in_attempt}
use Rattle.fort_machine.proofs.Places.{ready_open}
use Rattle.fort_machine.proofs.Plain.{reads_plainly}
use Rattle.fort_machine.proofs.Ready.{local_ready, form_ready}
use Rattle.fort_machine.proofs.Resting.{rest_term}
use Rattle.fort_machine.proofs.Runs.{runs_fit}
use Rattle.fort_machine.proofs.Properly.{plug_proper, propers_as, rest_proper}
use Rattle.fort_machine.proofs.ProperActs.{ProperProgram, good_acts, unit_rests, single_rests}
use Rattle.fort_machine.proofs.ProperRuns.{does_proper, closes_proper, form_rests, runs_proper, written_proper, reached_is_proper}
use Rattle.fort_machine_law_marks.specs.Marks.{MarksStand}
use Rattle.fort_machine_law_marks.proofs.Rests.{Rested, rested_acts, throw_rests}
use Rattle.fort_machine_law_marks.proofs.Even.{Even, rest_even, even_value, even_throw, sleeper_even, plug_even, leaves_part, evens_as}

-- what a step leaves is at rest
does_rest : (p : Program) (s : Store) → ProperStore s
    → (inner : Bool) (loc : ℕ) (x : Act) (b : Term) (d : Effect) → Rested x → Does p inner loc x b d
    → FitsAll d s → Resting b
does_rest p s hs inner loc stuck b d g k f = absurd k
does_rest p s hs inner loc (turns next output cost) b d g k f = subst Resting (sym k.1) g
does_rest p s hs inner loc (enters c next) b d g k f = subst Resting (sym k.2) g
does_rest p s hs inner loc (asks l next) b d g k f =
    let e = (reads_plainly l k.0 s).0.0 (subst (λ x. FitsAll x s) k.3 f)
    in subst Resting (sym k.2) (g k.0 (hs l k.0 e))
does_rest p s hs inner loc (sets l v) b d g k f = subst Resting (sym k.1) (rest_term unit_rests)
does_rest p s hs inner loc (makes vs next cost) b d g k f = subst Resting (sym k.0) (g loc)
does_rest p s hs inner loc (calls set vs) b d g k f = absurd k
does_rest p s hs inner loc acts.ends b d g k f =
    subst Resting (sym k.4) (throw_rests (single_rests p p.built_in.abort_outside k.0 k.3))

-- what an attempt leaves has no mark
closes_even : (p : Program) (m : Mode) (body b : Term) (r : Ended) (d e : Effect)
    → Closes p m body r d b e → Even false b
closes_even p m body b r d e (completed v q i w) = subst (Even false) (sym i) (even_value false v)
closes_even p m body b r d e (failed v q i w) = subst (Even false) (sym i) (even_throw false v)
closes_even p m body b r d e (gave_up v q x y i w) = subst (Even false) (sym i) (even_throw false v)
closes_even p m body b r d e (fell_asleep marks q x a y i w) = sleeper_even false b body marks i

abbrev EndsEven : Ended → Type 0
EndsEven r = (u : Term) → r ≡ goes u → Even false u

module _ (p : Program) (o : ProperProgram p) where
  runs_even : {inner strict : Bool} {s : Store} {picks : List Pick} {t : Term} {r : Ended}
      {d : Effect} → ProperStore s → Proper t → Even false t → Runs p inner strict s picks t r d
      → EndsEven r
  runs_even {t = t} {r = r} hs h h2 (none a b c) = λ u e. let z : goes t ≡ goes u = sym b ∙ e
      in let y : t ≡ u = cc in subst (Even false) y h2
  runs_even {inner = inner} {s =
      s} hs h h2 (step {a = a} {b = b} {d1 = d1} {loc = loc} fs a1 c n (steps x k l) f w q) =
      let open_here : standing a ≡ open_yet =
      ready_open a (local_ready p inner loc a b d1 (steps x k l)) in
      let q1 = plug_proper fs a open_here (subst Proper c h) in
      let i = does_proper p s hs inner loc x b d1 (good_acts p o a x q1.0 k) l f in
      let rests = does_rest p s hs inner loc x b d1 (rested_acts p o a x q1.0 k) l f in
      runs_even i.1 (q1.1 b i.0)
      ((plug_even false fs a open_here (subst (Even false) c h2)).after_step b
      (rest_even rests false)) w
  runs_even hs h h2 (stop fs a b c n e x w) = λ u q. let z : aborts ≡ goes u = sym x ∙ q
      in absurd cc
  runs_even {s =
      s} hs h h2
      (attempt {m = mode} {within = within} {a = a} {b = b} {body = body} {ended = ended} {d1 =
      d1} {d2 = d2} fs a1 c n form bare may w close w' q) =
      let open_here : standing a ≡ open_yet = ready_open a (form_ready a mode body form) in
      let q1 = plug_proper fs a open_here (subst Proper c h) in
      let hb = form_rests a body mode form q1.0 in
      let inside = runs_proper p o hs (rest_proper hb) w in
      let i = closes_proper p s hs mode body b ended d1 d2 hb inside
      (runs_fit s within body ended d1 w) close in
      runs_even i.1 (q1.1 b i.0)
      ((plug_even false fs a open_here (subst (Even false) c h2)).after_step b
      (closes_even p mode body b ended d1 d2 close)) w'

reached_even : (p : Program) → WrittenProgram p → {inner : Bool} {s : Store} {t : Term}
    → Reached p inner s t → Even false t
reached_even p w (at_first a b c) =
    subst (Even false) (sym c) (rest_even (written_proper p w).first false)
reached_even p w (by_run {inner = inner} {s = s} {t = t} {t' = t'} k r e) =
    let i = reached_is_proper p w inner s t k
    in runs_even p (written_proper p w) i.1 i.0 (reached_even p w k) r t' refl
reached_even p w
    (in_attempt {outer = outer} {s = s} {t = t} {a = a} {body = body} {m = m} fs k c form n) =
    let i = reached_is_proper p w outer s t k in
    let q = plug_proper fs a (ready_open a (form_ready a m body form)) (subst Proper c i.0)
    in rest_even (form_rests a body m form q.0) false

pub marks_stand : MarksStand
marks_stand p w inner s t k fs a e =
    let open_here : standing (Stepped a) ≡ open_yet = ap standing_at (outs-Stepped a) in
    let q = plug_proper fs (Stepped a) open_here
    (subst Proper e (reached_is_proper p w inner s t k).0) in
    let i = plug_even false fs (Stepped a) open_here (subst (Even false) e (reached_even p w k)) in (
      leaves_part fs false refl (evens_as (Term-F.Stepped a) (outs-Stepped a) i.inner).allowed,
      (propers_as (Term-F.Stepped a) (outs-Stepped a) q.0).marks,
    )
