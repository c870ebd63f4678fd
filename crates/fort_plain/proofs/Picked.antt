-- What a legal pick was: a step of the thread that it names, or an attempt.
use Rattle.std.proofs.Common.{◌≡◌, ℕ, ◌+◌, ◌≤◌, Bool, true, false, List, [], ◌∷◌, ◌++◌, ap, sym, ◌∙◌, subst, arith}
use Rattle.fort_base.specs.declared.ids.Loc.{Loc}
use Rattle.fort_core.specs.declared.form.Mode.{Mode}
use Rattle.fort_core.specs.declared.path.Path.{Path}
use Rattle.fort_core.specs.declared.pick.Pick.{Pick, Step, Attempt, out-Pick}
use Rattle.fort_core.specs.declared.pick.Pick.TheVariants.{outs-Step, outs-Attempt}
use Rattle.fort_core.specs.declared.program.Program.{Program}
use Rattle.fort_core.specs.declared.term.Term.{Term}
use Rattle.fort_machine.specs.Effects.{Store, Effect, FitsAll, idle, both, afterwards}
use Rattle.fort_machine.specs.Frames.{Frame, plug, passed}
use Rattle.fort_machine.specs.Acts.{ends}
use Rattle.fort_machine.specs.Steps.{Acts, Local}
use Rattle.fort_machine.specs.Attempts.{Ended, goes, Form, MayTry, Ready}
use Rattle.fort_machine.specs.Runs.{Runs, none, step, stop, attempt, Begun, so_far, inside, path_to, location}
use Rattle.fort_machine.specs.Journals.{MakesWithinBounds}
use Rattle.fort_machine.proofs.Places.{one_place}
use Rattle.fort_machine.proofs.Ready.{local_ready, stop_ready, form_ready}
use Rattle.fort_plain.specs.Legal.{AreLegal, a_run, begun_last}
use Rattle.fort_plain.specs.Paths.{NoThread}
use Rattle.fort_plain.proofs.Bounded.{first_bounded, begun_costs, closes_costs}

step_pick : (x y : Path) (l k : Loc) → Step x l ≡ Step y k → (x ≡ y) × (l ≡ k)
step_pick x y l k e = let z = sym (outs-Step x l) ∙ ap out-Pick e ∙ outs-Step y k in (cc, cc)

attempt_pick : (x y : Path) (ps qs : List Pick) → Attempt x ps ≡ Attempt y qs → (x ≡ y) × (ps ≡ qs)
attempt_pick x y ps qs e =
    let z = sym (outs-Attempt x ps) ∙ ap out-Pick e ∙ outs-Attempt y qs in (cc, cc)

step_not_attempt : (x y : Path) (l : Loc) (ps : List Pick) → Step x l ≡ Attempt y ps → ⊥
step_not_attempt x y l ps e = let z = sym (outs-Step x l) ∙ ap out-Pick e ∙ outs-Attempt y ps in cc

heads : (a b : Pick) (ps qs : List Pick) → a ∷ ps ≡ b ∷ qs → (a ≡ b) × (ps ≡ qs)
heads a b ps qs e = (cc, cc)

-- ---- a step

-- it was taken by the thread of the path, or it ended an attempt's machine
pub data StepTaken (p : Program) (inner : Bool) (s : Store) (t : Term) (path : Path) (loc : ℕ)
    (more : List Pick) (d : Effect) : Type 0 where
  took : (fs : List Frame) (a b : Term) (e : Effect) → path ≡ path_to fs → t ≡ plug fs a
      → passed fs a ≡ false → Local p inner loc a b e → FitsAll e s
      → (MakesWithinBounds d → MakesWithinBounds e) → e.cost ≤ d.cost
      → StepTaken p inner s t path loc more d
  stopped : (fs : List Frame) (a : Term) → path ≡ path_to fs → t ≡ plug fs a → passed fs a ≡ false
      → inner ≡ true → loc ≡ 0 → Acts p a ends → more ≡ [] → 1 ≤ d.cost
      → StepTaken p inner s t path loc more d

by_run : (p : Program) (inner : Bool) (s : Store) (t : Term) (path : Path) (loc : ℕ)
    (more : List Pick) (r : Ended) (d : Effect)
    → Runs p inner true s (Step path (location loc) ∷ more) t r d
    → StepTaken p inner s t path loc more d
by_run p inner s t path loc more r d (none q x y) = absurd cc
by_run p inner s t path loc more r d
    (step {rest = rest} {a = a} {b = b} {d1 = d1} {d2 = d2} {loc = k} gs q x n l f g w) =
    let h = heads _ _ more rest q in
    let i = step_pick path (path_to gs) (location loc) (location k) h.0 in
    let same : loc ≡ k = ap (λ (y : Loc). y.0) i.1 in
    let whole : d.cost ≡ d1.cost + d2.cost = ap (λ (y : Effect). y.cost) w in
    took gs a b d1 i.0 x n (subst (λ y. Local p inner y a b d1) (sym same) l) f
    (λ y. first_bounded d1 d2 (subst MakesWithinBounds w y)) (omega (arith, whole))
by_run p inner s t path loc more r d (stop {a = a} gs i q x n y z w) =
    let h = heads _ _ more [] q in
    let j = step_pick path (path_to gs) (location loc) (location 0) h.0 in
    let price : d.cost ≡ 1 = ap (λ (u : Effect). u.cost) w in
    stopped gs a j.0 x n i (ap (λ (u : Loc). u.0) j.1) y h.1 (omega (arith, price))
by_run p inner s t path loc more r d
    (attempt {within = within} {rest = rest} gs q x n form bare may k close g w) =
    absurd (step_not_attempt path (path_to gs) (location loc) within (heads _ _ more rest q).0)

begun_is : (p : Program) (s : Store) (pick : Pick) (t : Term) (d : Effect) (path : Path) (loc : Loc)
    → pick ≡ Step path loc → Begun p true s pick t d → ⊥
begun_is p s pick t d path loc e (so_far {within = within} gs w x n form bare may k z) =
    step_not_attempt path (path_to gs) loc within (sym e ∙ w)
begun_is p s pick t d path loc e
    (inside {last = last} {within = within} gs w x n form bare may k g z) =
    step_not_attempt path (path_to gs) loc (within ++ last ∷ []) (sym e ∙ w)

with_more : (p : Program) (inner : Bool) (s : Store) (t u : Term) (path : Path) (loc : ℕ)
    (xs more : List Pick) (d d1 d2 : Effect)
    → Runs p inner true s (Step path (location loc) ∷ xs) t (goes u) d1 → d ≡ both d1 d2
    → StepTaken p inner s t path loc more d
with_more p inner s t u path loc xs more d d1 d2 (none q x y) w = absurd cc
with_more p inner s t u path loc xs more d d1 d2
    (step {rest = rest} {a = a} {b = b} {d1 = e1} {d2 = e2} {loc = k} gs q x n l f g v) w =
    let h = heads _ _ xs rest q in
    let i = step_pick path (path_to gs) (location loc) (location k) h.0 in
    let same : loc ≡ k = ap (λ (y : Loc). y.0) i.1 in
    let part : d1.cost ≡ e1.cost + e2.cost = ap (λ (y : Effect). y.cost) v in
    let whole : d.cost ≡ d1.cost + d2.cost = ap (λ (y : Effect). y.cost) w in
    took gs a b e1 i.0 x n (subst (λ y. Local p inner y a b e1) (sym same) l) f
    (λ y. first_bounded e1 e2
    (subst MakesWithinBounds v (first_bounded d1 d2 (subst MakesWithinBounds w y))))
    (omega (arith, part, whole))
with_more p inner s t u path loc xs more d d1 d2 (stop gs i q x n y z v) w = let f = z in absurd cc
with_more p inner s t u path loc xs more d d1 d2
    (attempt {within = within} {rest = rest} gs q x n form bare may k close g v) w =
    absurd (step_not_attempt path (path_to gs) (location loc) within (heads _ _ xs rest q).0)

pub step_taken : (p : Program) (ajar inner : Bool) (s : Store) (t : Term) (path : Path) (loc : ℕ)
    (more : List Pick) (d : Effect) → AreLegal p ajar inner s (Step path (location loc) ∷ more) t d
    → StepTaken p inner s t path loc more d
step_taken p ajar inner s t path loc more d (a_run r k) = by_run p inner s t path loc more r d k
step_taken p ajar inner s t path loc more d (begun_last [] last u d1 d2 o q k g w) =
    let e : last ≡ Step path (location loc) = cc
    in absurd (begun_is p (afterwards d1 s) last u d2 path (location loc) e g)
step_taken p ajar inner s t path loc more d (begun_last (x ∷ xs) last u d1 d2 o q k g w) =
    let e : x ≡ Step path (location loc) = cc
    in with_more p inner s t u path loc xs more d d1 d2
    (subst (λ y. Runs p inner true s (y ∷ xs) t (goes u) d1) e k) w

-- ---- an attempt

pub record Tried (p : Program) (s : Store) (t : Term) (path : Path) (d : Effect) : Type 0 where
  pub frames : List Frame
  pub form : Term
  pub mode : Mode
  pub body : Term
  pub is_path : path ≡ path_to frames
  pub is_term : t ≡ plug frames form
  pub reached : passed frames form ≡ false
  pub is_form : Form form mode body
  pub may : MayTry true s t frames form
  pub costs : 1 ≤ d.cost

tried_run : (p : Program) (inner : Bool) (s : Store) (t : Term) (path : Path)
    (within more : List Pick) (r : Ended) (d : Effect)
    → Runs p inner true s (Attempt path within ∷ more) t r d → Tried p s t path d
tried_run p inner s t path within more r d (none q x y) = absurd cc
tried_run p inner s t path within more r d (step {rest = rest} {loc = k} gs q x n l f g w) =
    absurd (step_not_attempt (path_to gs) path (location k) within (sym (heads _ _ more rest q).0))
tried_run p inner s t path within more r d (stop gs i q x n y z w) =
    absurd (step_not_attempt (path_to gs) path (location 0) within (sym (heads _ _ more [] q).0))
tried_run p inner s t path within more r d
    (attempt {m = m} {within = within'} {rest = rest} {a = a} {b = b} {body = body} {ended =
    ended} {d1 = d1} {d2 = d2} {d3 = d3} gs q x n form bare may k close g w) =
    let h = heads _ _ more rest q in
    let i = attempt_pick path (path_to gs) within within' h.0 in
    let price = closes_costs p m body ended d1 b d2 close in
    let whole : d.cost ≡ d2.cost + d3.cost = ap (λ (y : Effect). y.cost) w in
    record {
      frames = gs;
      form = a;
      mode = m;
      body = body;
      is_path = i.0;
      is_term = x;
      reached = n;
      is_form = form;
      may = may;
      costs = omega (arith, price, whole);
    }

tried_begun : (p : Program) (s : Store) (t : Term) (path : Path) (within : List Pick) (pick : Pick)
    (d : Effect) → pick ≡ Attempt path within → Begun p true s pick t d → Tried p s t path d
tried_begun p s t path within pick d e
    (so_far {m = m} {a = a} {body = body} {d1 = d1} {within = within'} gs w x n form bare may k z) =
    let i = attempt_pick path (path_to gs) within within' (sym e ∙ w) in
    let price = begun_costs d1 d z in
    record {
      frames = gs;
      form = a;
      mode = m;
      body = body;
      is_path = i.0;
      is_term = x;
      reached = n;
      is_form = form;
      may = may;
      costs = omega (arith, price);
    }
tried_begun p s t path within pick d e
    (inside {m = m} {last = last} {a = a} {body = body} {d1 = d1} {d2 = d2} {within =
    within'} gs w x n form bare may k g z) =
    let i = attempt_pick path (path_to gs) within (within' ++ last ∷ []) (sym e ∙ w) in
    let price = begun_costs (both d1 d2) d z in
    record {
      frames = gs;
      form = a;
      mode = m;
      body = body;
      is_path = i.0;
      is_term = x;
      reached = n;
      is_form = form;
      may = may;
      costs = omega (arith, price);
    }

no_picks : (p : Program) (inner : Bool) (s : Store) (t u : Term) (d : Effect)
    → Runs p inner true s [] t (goes u) d → (t ≡ u) × (d ≡ idle)
no_picks p inner s t u d (none q x y) = (cc, y)
no_picks p inner s t u d (step gs q x n l k g w) = absurd cc
no_picks p inner s t u d (stop gs i q x n y w z) = absurd cc
no_picks p inner s t u d (attempt gs q x n form bare may k close g w) = absurd cc

costlier : (p : Program) (s : Store) (t : Term) (path : Path) (d e : Effect) → e.cost ≤ d.cost
    → Tried p s t path e → Tried p s t path d
costlier p s t path d e c k =
    let price = k.costs in
    record {
      frames = k.frames;
      form = k.form;
      mode = k.mode;
      body = k.body;
      is_path = k.is_path;
      is_term = k.is_term;
      reached = k.reached;
      is_form = k.is_form;
      may = k.may;
      costs = omega (arith, price, c);
    }

pub attempt_tried : (p : Program) (ajar inner : Bool) (s : Store) (t : Term) (path : Path)
    (within more : List Pick) (d : Effect)
    → AreLegal p ajar inner s (Attempt path within ∷ more) t d → Tried p s t path d
attempt_tried p ajar inner s t path within more d (a_run r k) =
    tried_run p inner s t path within more r d k
attempt_tried p ajar inner s t path within more d (begun_last [] last u d1 d2 o q k g w) =
    let e : last ≡ Attempt path within = cc in
    let n = no_picks p inner s t u d1 k in
    let whole : d.cost ≡ d1.cost + d2.cost = ap (λ (y : Effect). y.cost) w in
    costlier p s t path d d2 (omega (arith, whole))
    (tried_begun p s t path within last d2 e
    (subst (λ y. Begun p true s last y d2) (sym n.0) (subst (λ
    (y : Effect). Begun p true (afterwards y s) last u d2) n.1 g)))
attempt_tried p ajar inner s t path within more d (begun_last (x ∷ xs) last u d1 d2 o q k g w) =
    let e : x ≡ Attempt path within = cc in
    let whole : d.cost ≡ d1.cost + d2.cost = ap (λ (y : Effect). y.cost) w in
    costlier p s t path d d1 (omega (arith, whole))
    (tried_run p inner s t path within xs (goes u) d1
    (subst (λ y. Runs p inner true s (y ∷ xs) t (goes u) d1) e k))

-- ---- where no thread has the path

pub no_step_there : (p : Program) (ajar inner : Bool) (s : Store) (t : Term) (path : Path) (loc : ℕ)
    (more : List Pick) (d : Effect) → NoThread t path
    → AreLegal p ajar inner s (Step path (location loc) ∷ more) t d → ⊥
no_step_there p ajar inner s t path loc more d barred k =
    go (step_taken p ajar inner s t path loc more d k)
  where
    go : StepTaken p inner s t path loc more d → ⊥
    go (took fs a b e q x n l f m c) =
        barred.none fs a x n (local_ready p inner loc a b e l) (sym q)
    go (stopped fs a q x n i z h m c) = barred.none fs a x n (stop_ready p a h) (sym q)

pub no_attempt_there : (p : Program) (ajar inner : Bool) (s : Store) (t : Term) (path : Path)
    (within more : List Pick) (d : Effect) → NoThread t path
    → AreLegal p ajar inner s (Attempt path within ∷ more) t d → ⊥
no_attempt_there p ajar inner s t path within more d barred k =
    let i = attempt_tried p ajar inner s t path within more d k
    in barred.none i.frames i.form i.is_term i.reached (form_ready i.form i.mode i.body i.is_form)
    (sym i.is_path)

-- ---- where a thread has it

-- it was that thread's step
pub data OwnStep (p : Program) (inner : Bool) (s : Store) (a : Term) (loc : ℕ) (more : List Pick)
    (d : Effect) : Type 0 where
  own : (b : Term) (e : Effect) → Local p inner loc a b e → FitsAll e s
      → (MakesWithinBounds d → MakesWithinBounds e) → e.cost ≤ d.cost
      → OwnStep p inner s a loc more d
  own_stop : inner ≡ true → loc ≡ 0 → Acts p a ends → more ≡ [] → 1 ≤ d.cost
      → OwnStep p inner s a loc more d

pub own_step : (p : Program) (ajar inner : Bool) (s : Store) (gs : List Frame) (a t : Term)
    (path : Path) (loc : ℕ) (more : List Pick) (d : Effect) → t ≡ plug gs a → path ≡ path_to gs
    → Ready a → AreLegal p ajar inner s (Step path (location loc) ∷ more) t d
    → OwnStep p inner s a loc more d
own_step p ajar inner s gs a t path loc more d e q r k =
    go (step_taken p ajar inner s t path loc more d k)
  where
    same : (fs : List Frame) (c : Term) → path ≡ path_to fs → t ≡ plug fs c → Ready c → c ≡ a
    same fs c x y z =
        sym (one_place gs fs a c (sym e ∙ y) (ap (λ (u : Path). u.0) (sym q ∙ x)) r z).1

    go : StepTaken p inner s t path loc more d → OwnStep p inner s a loc more d
    go (took fs c b h x y n l f m v) =
        own b h (subst (λ z. Local p inner loc z b h)
        (same fs c x y (local_ready p inner loc c b h l)) l) f m v
    go (stopped fs c x y n i z h m v) =
        own_stop i z (subst (λ u. Acts p u ends) (same fs c x y (stop_ready p c h)) h) m v

pub own_attempt : (p : Program) (ajar inner : Bool) (s : Store) (gs : List Frame) (a t : Term)
    (path : Path) (within more : List Pick) (d : Effect) → t ≡ plug gs a → path ≡ path_to gs
    → Ready a → AreLegal p ajar inner s (Attempt path within ∷ more) t d
    → (m : Mode) × (body : Term) × Form a m body × MayTry true s t gs a × (1 ≤ d.cost)
own_attempt p ajar inner s gs a t path within more d e q r k =
    let i = attempt_tried p ajar inner s t path within more d k in
    let same =
    one_place gs i.frames a i.form (sym e ∙ i.is_term) (ap (λ
    (u : Path). u.0) (sym q ∙ i.is_path)) r (form_ready i.form i.mode i.body i.is_form) in (
      i.mode,
      i.body,
      subst (λ u. Form u i.mode i.body) (sym same.1) i.is_form,
      subst (λ u. MayTry true s t gs u) (sym same.1)
          (subst (λ fs. MayTry true s t fs i.form) (sym same.0) i.may),
      i.costs,
    )
