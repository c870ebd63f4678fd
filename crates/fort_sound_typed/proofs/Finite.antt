-- A run leaves a store finite.
use Rattle.std.proofs.Common.{◌≡◌, ℕ, ◌+◌, ◌<◌, ◌≤◌, Bool, List, Option, Some, None, refl, ap, sym, ◌∙◌, subst, arith, length}
use Rattle.fort_core.specs.declared.form.Mode.{Mode}
use Rattle.fort_core.specs.declared.pick.Pick.{Pick}
use Rattle.fort_core.specs.declared.program.Program.{Program}
use Rattle.fort_core.specs.declared.term.Term.{Term}
use Rattle.fort_core.specs.declared.value.Value.{Value}
use Rattle.fort_machine.specs.Cells.{Cell, untouched, found, made, Fits, left_at, given_back, taken_away}
use Rattle.fort_machine.specs.Effects.{Store, Effect, FitsAll, afterwards, failing, aborting}
use Rattle.fort_machine.specs.EffectLaws.{MakesInARow}
use Rattle.fort_machine.specs.Frames.{plug, trodden}
use Rattle.fort_machine.specs.Attempts.{Ended, Closes, completed, failed, gave_up, fell_asleep}
use Rattle.fort_machine.specs.Runs.{Runs, none, step, stop, attempt}
use Rattle.fort_machine.proofs.WholeEffects.{afterwards_both}
use Rattle.fort_machine.proofs.Effects.{steps_make_in_a_row}
use Rattle.fort_machine.proofs.Runs.{closes_fit, runs_fit}
use Rattle.fort_sound_typed.specs.Goes.{Finite, StaysFinite}

not_found : (r w x : Option Value) → x ≡ None → Fits (found r w) x → ⊥
not_found r w None e f = f
not_found r w (Some v) e f = absurd cc

back : (c : Cell) (x : Option Value) → Fits c x → left_at (taken_away c) x ≡ x
back untouched x f = refl
back (found r w) x f = refl
back (made w) None f = refl
back (made w) (Some v) f = absurd f

step_finite : (loc : ℕ) (d : Effect) (s : Store) → MakesInARow loc d → FitsAll d s → Finite s
    → Finite (afterwards d s)
step_finite loc d s m f n = (n.0 + (loc + length m.values), λ l h. go l h (d.cells l) refl)
  where
    go : (l : ℕ) → n.0 + (loc + length m.values) ≤ l → (c : Cell) → d.cells l ≡ c
        → left_at (d.cells l) (s l) ≡ None
    go l h untouched q = ap (λ c. left_at c (s l)) q ∙ n.1 l (omega arith)
    go l h (found r w) q =
        absurd (not_found r w (s l) (n.1 l (omega arith)) (subst (λ c. Fits c (s l)) q (f l)))
    go l h (made w) q =
        let i = m.in_a_row l w q in let a : l < loc + length m.values = i.1 in absurd (omega arith)

failed_finite : (d : Effect) (s : Store) → FitsAll d s → Finite s → Finite (afterwards d s)
    → Finite (afterwards (failing d) s)
failed_finite d s f n i = (n.0 + i.0, λ l h. go l h (d.cells l) refl)
  where
    go : (l : ℕ) → n.0 + i.0 ≤ l → (c : Cell) → d.cells l ≡ c
        → left_at (given_back (d.cells l)) (s l) ≡ None
    go l h untouched q = ap (λ c. left_at (given_back c) (s l)) q ∙ n.1 l (omega arith)
    go l h (found r w) q = ap (λ c. left_at (given_back c) (s l)) q ∙ n.1 l (omega arith)
    go l h (made w) q =
        ap (λ c. left_at (given_back c) (s l)) q ∙ sym (ap (λ c. left_at c (s l)) q)
        ∙ i.1 l (omega arith)

aborted_finite : (d : Effect) (s : Store) → FitsAll d s → Finite s
    → Finite (afterwards (aborting d) s)
aborted_finite d s f n = (n.0, λ l h. back (d.cells l) (s l) (f l) ∙ n.1 l h)

closes_finite : (p : Program) (m : Mode) (body b : Term) (r : Ended) (d e : Effect) (s : Store)
    → FitsAll d s → Finite s → Finite (afterwards d s) → Closes p m body r d b e
    → Finite (afterwards e s)
closes_finite p m body b r d e s f n i (completed v q x w) =
    subst (λ y. Finite (afterwards y s)) (sym w) i
closes_finite p m body b r d e s f n i (failed v q x w) =
    subst (λ y. Finite (afterwards y s)) (sym w) (failed_finite d s f n i)
closes_finite p m body b r d e s f n i (gave_up v q x y z w) =
    subst (λ y. Finite (afterwards y s)) (sym w) (aborted_finite d s f n)
closes_finite p m body b r d e s f n i (fell_asleep marks q x y z u w) =
    subst (λ y. Finite (afterwards y s)) (sym w) (aborted_finite d s f n)

pub runs_finite : {p : Program} {inner strict : Bool} {s : Store} {picks : List Pick} {t : Term}
    {r : Ended} {d : Effect} → Finite s → Runs p inner strict s picks t r d
    → Finite (afterwards d s)
runs_finite {s = s} n (none a b c) = subst (λ x. Finite (afterwards x s)) (sym c) n
runs_finite {p = p} {inner = inner} {s = s} {r =
    r} n (step {rest = rest} {a = a} {b = b} {d1 = d1} {d2 = d2} {loc =
    loc} fs a1 c m l f w q) =
    let i = runs_finite (step_finite loc d1 s (steps_make_in_a_row p inner loc a b d1 l) f n) w in
    subst Finite
    (sym (ap (λ x. afterwards x s) q
    ∙ afterwards_both d1 d2 s f
    (runs_fit (afterwards d1 s) rest (plug (trodden fs) b) r d2 w))) i
runs_finite {s = s} n (stop fs a b c m e x w) = subst (λ y. Finite (afterwards y s)) (sym w) n
runs_finite {p = p} {s = s} {r =
    r} n (attempt {m = mode} {within = within} {rest = rest} {b = b} {body = body} {ended =
    ended} {d1 = d1} {d2 = d2} {d3 = d3} fs a1 c m form bare may w close w' q) =
    let f = runs_fit s within body ended d1 w in
    let i = closes_finite p mode body b ended d1 d2 s f n (runs_finite n w) close in
    let j = runs_finite i w' in
    subst Finite
    (sym (ap (λ x. afterwards x s) q
    ∙ afterwards_both d2 d3 s (closes_fit p mode body b ended d1 d2 s close f)
    (runs_fit (afterwards d2 s) rest (plug (trodden fs) b) r d3 w'))) j

pub stays_finite : StaysFinite
stays_finite p inner strict s picks t r d n w = runs_finite n w
