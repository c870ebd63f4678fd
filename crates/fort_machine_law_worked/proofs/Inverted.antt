-- What is known of a run by its picks: where each of them leads, and what an attempt in it was.
use Rattle.std.proofs.Common.{◌≡◌, ℕ, Bool, true, false, List, [], ◌∷◌, ◌++◌, refl, ap, sym, ◌∙◌, subst}
use Rattle.fort_core.specs.declared.form.Mode.{Mode}
use Rattle.fort_core.specs.declared.pick.Pick.{Pick, Step, Attempt}
use Rattle.fort_core.specs.declared.program.Program.{Program}
use Rattle.fort_core.specs.declared.term.Term.{Term, Asleep, out-Term}
use Rattle.fort_core.specs.declared.term.Term.TheVariants.{outs-Atomic, outs-Asleep}
use Rattle.fort_machine.specs.Effects.{Store, Effect, FitsAll, afterwards}
use Rattle.fort_machine.specs.Frames.{Frame, plug, passed, trodden}
use Rattle.fort_machine.specs.Marked.{Marks}
use Rattle.fort_machine.specs.Steps.{Local}
use Rattle.fort_machine.specs.Attempts.{Form, fresh, slept, MayTry, Ended, goes, aborts, Closes}
use Rattle.fort_machine.specs.Runs.{Runs, none, step, stop, attempt, Begun, so_far, inside, path_to, location}
use Rattle.fort_machine.specs.RunLaws.{PickByPick, no_more, next, stopped}
use Rattle.fort_machine.proofs.WholeEffects.{both_idle}
use Rattle.fort_machine.proofs.Places.{one_place}
use Rattle.fort_machine.proofs.Ready.{form_ready}
use Rattle.fort_machine.proofs.Single.{same_attempts, mixed, one_run}

-- marks and bodies of atomic forms
pub asleep_one : (ms ns : Marks) (a b : Term) → Asleep ms a ≡ Asleep ns b → (ms ≡ ns) × (a ≡ b)
asleep_one ms ns a b e =
    let z = sym (outs-Asleep ms a) ∙ ap out-Term e ∙ outs-Asleep ns b in (cc, cc)

body_one : (a a' : Term) (m m' : Mode) (body body' : Term) → a ≡ a' → Form a m body
    → Form a' m' body' → (m ≡ m') × (body ≡ body')
body_one a a' m m' body body' e (fresh p) (fresh q) =
    let z = sym (outs-Atomic m body) ∙ ap out-Term (sym p ∙ e ∙ q) ∙ outs-Atomic m' body'
    in (cc, cc)
body_one a a' m m' body body' e (fresh p) (slept ms n q) =
    let z = sym (outs-Atomic m body) ∙ ap out-Term (sym p ∙ e ∙ q) ∙ outs-Asleep ms body'
    in absurd cc
body_one a a' m m' body body' e (slept ms n p) (fresh q) =
    let z = sym (outs-Asleep ms body) ∙ ap out-Term (sym p ∙ e ∙ q) ∙ outs-Atomic m' body'
    in absurd cc
body_one a a' m m' body body' e (slept ms n p) (slept ms' n' q) =
    let z = sym (outs-Asleep ms body) ∙ ap out-Term (sym p ∙ e ∙ q) ∙ outs-Asleep ms' body'
    in (n ∙ sym n', cc)

heads : (a b : Pick) (ps qs : List Pick) → a ∷ ps ≡ b ∷ qs → (a ≡ b) × (ps ≡ qs)
heads a b ps qs e = (cc, cc)

pub goes_one : (t u : Term) → goes t ≡ goes u → t ≡ u
goes_one t u e = cc

module _ (p : Program) (inner strict : Bool) where
  -- a step is a run of one pick
  pub single_step : (loc : ℕ) (s : Store) (fs : List Frame) (a b : Term) (d : Effect)
      → passed fs a ≡ false → Local p inner loc a b d → FitsAll d s
      → Runs p inner strict s (Step (path_to fs) (location loc) ∷ []) (plug fs a)
      (goes (plug (trodden fs) b)) d
  single_step loc s fs a b d n l f =
      step fs refl refl n l f (none refl refl refl) (sym (both_idle d))

  -- the first pick of a run, and the run behind one whose run is known
  pub first_pick : (s : Store) (pick : Pick) (more : List Pick) (t : Term) (r : Ended)
      (ds : List Effect) → PickByPick p inner strict s (pick ∷ more) t r ds
      → (r' : Ended) × ((d : Effect) × Runs p inner strict s (pick ∷ []) t r' d)
  first_pick s pick more t r ds (no_more a b c) = absurd cc
  first_pick s pick more t r ds (next {rest = rest} {u = u} first d e k k' w) = (
    goes u,
    (
      d,
      subst (λ x. Runs p inner strict s (x ∷ []) t (goes u) d)
          (sym (heads pick first more rest e).0) k,
    ),
  )
  first_pick s pick more t r ds (stopped first d e k x w) = (
    aborts,
    (
      d,
      subst (λ x. Runs p inner strict s (x ∷ []) t aborts d)
          (sym (heads pick first more [] e).0) k,
    ),
  )

  pub behind_pick : (s : Store) (pick : Pick) (more : List Pick) (t u : Term) (r : Ended)
      (e : Effect) (ds : List Effect) → Runs p inner strict s (pick ∷ []) t (goes u) e
      → PickByPick p inner strict s (pick ∷ more) t r ds
      → (others : List Effect) × PickByPick p inner strict (afterwards e s) more u r others
  behind_pick s pick more t u r e ds known (no_more a b c) = absurd cc
  behind_pick s pick more t u r e ds known
      (next {rest = rest} {u = u'} {others = others} first d q k k' w) =
      let h = heads pick first more rest q in
      let one =
      one_run p inner strict s (pick ∷ []) t (goes u) (goes u') e d known
      (subst (λ x. Runs p inner strict s (x ∷ []) t (goes u') d) (sym h.0) k) in (
        others,
        subst (λ x. PickByPick p inner strict (afterwards x s) more u r others) (sym one.1)
            (subst (λ x. PickByPick p inner strict (afterwards d s) x u r others) (sym h.1)
            (subst (λ x. PickByPick p inner strict (afterwards d s) rest x r others)
            (sym (goes_one u u' one.0)) k')),
      )
  behind_pick s pick more t u r e ds known (stopped first d q k x w) =
      let h = heads pick first more [] q in
      let one =
      one_run p inner strict s (pick ∷ []) t (goes u) aborts e d known
      (subst (λ x. Runs p inner strict s (x ∷ []) t aborts d) (sym h.0) k) in
      let z : goes u ≡ aborts = one.0 in absurd cc

same_place : (p : Program) (strict : Bool) (s : Store) (fs gs : List Frame) (m m' : Mode)
    (a a' body body' : Term) (within ins : List Pick) → Form a m body → Form a' m' body'
    → Attempt (path_to fs) within ≡ Attempt (path_to gs) ins → plug fs a ≡ plug gs a'
    → MayTry strict s (plug fs a) gs a' → MayTry strict s (plug fs a) fs a
same_place p strict s fs gs m m' a a' body body' within ins form l e h may =
    let q = same_attempts fs gs within ins [] [] (ap (λ x. x ∷ []) e) in
    let one = one_place fs gs a a' h q.0 (form_ready a m body form) (form_ready a' m' body' l) in
    subst (λ x. MayTry strict s (plug fs a) fs x) (sym one.1)
    (subst (λ x. MayTry strict s (plug fs a) x a') (sym one.0) may)

-- what an attempt was that a run made
pub record Tried (p : Program) (strict : Bool) (s : Store) (fs : List Frame) (m : Mode)
    (a body : Term) (within : List Pick) : Type 0 where
  pub ended : Ended
  pub next_form : Term
  pub inner_effect : Effect
  pub effect : Effect
  pub may_try : MayTry strict s (plug fs a) fs a
  pub runs : Runs p true true s within body ended inner_effect
  pub closes : Closes p m body ended inner_effect next_form effect

pub tried : (p : Program) (inner strict : Bool) (s : Store) (fs : List Frame) (m : Mode)
    (a body : Term) (within more : List Pick) (r : Ended) (d : Effect) → Form a m body
    → Runs p inner strict s (Attempt (path_to fs) within ∷ more) (plug fs a) r d
    → Tried p strict s fs m a body within
tried p inner strict s fs m a body within more r d form (none e h w) = absurd cc
tried p inner strict s fs m a body within more r d form
    (step {rest = rest} {loc = loc} gs e h n l f k w) =
    absurd (mixed gs fs loc within rest more (sym e))
tried p inner strict s fs m a body within more r d form (stop gs i e h n x y w) =
    absurd (mixed gs fs 0 within [] more (sym e))
tried p inner strict s fs m a body within more r d form
    (attempt {m = m'} {within = within'} {rest = rest} {a = a'} {b = b} {body = body'} {ended =
    ended} {d1 = d1} {d2 = d2} gs e h n l bare may k close k2 w) =
    let q = same_attempts fs gs within within' more rest e in
    let one = one_place fs gs a a' h q.0 (form_ready a m body form) (form_ready a' m' body' l) in
    let f = body_one a a' m m' body body' one.1 form l in
    record {
      ended = ended;
      next_form = b;
      inner_effect = d1;
      effect = d2;
      may_try =
          subst (λ x. MayTry strict s (plug fs a) fs x) (sym one.1)
          (subst (λ x. MayTry strict s (plug fs a) x a') (sym one.0) may);
      runs = subst (λ x. Runs p true true s x body ended d1) (sym q.1)
          (subst (λ x. Runs p true true s within' x ended d1) (sym f.1) k);
      closes = subst (λ x. Closes p x body ended d1 b d2) (sym f.0)
          (subst (λ x. Closes p m' x ended d1 b d2) (sym f.1) close);
    }

-- where an attempt may be begun
pub begun : (p : Program) (strict : Bool) (s : Store) (fs : List Frame) (m : Mode) (a body : Term)
    (within : List Pick) (d : Effect) → Form a m body
    → Begun p strict s (Attempt (path_to fs) within) (plug fs a) d
    → MayTry strict s (plug fs a) fs a
begun p strict s fs m a body within d form
    (so_far {m = m'} {a = a'} {body = body'} {within = ins} gs e h n l bare may k w) =
    same_place p strict s fs gs m m' a a' body body' within ins form l e h may
begun p strict s fs m a body within d form
    (inside {m = m'} {last = last} {a = a'} {body = body'} {within =
    ins} gs e h n l bare may k k2 w) =
    same_place p strict s fs gs m m' a a' body body' within (ins ++ last ∷ []) form l e h may
