-- What a pick costs that is next, whether it is finished or not.
use Rattle.std.proofs.Common.{◌≡◌, ◌+◌, Bool, true, false, List, [], ◌∷◌, ◌++◌, refl, ap, sym, ◌∙◌, subst, arith, inl, inr}
use Rattle.fort_core.specs.declared.form.Mode.{Mode}
use Rattle.fort_core.specs.declared.pick.Pick.{Pick, Attempt}
use Rattle.fort_core.specs.declared.program.Program.{Program}
use Rattle.fort_core.specs.declared.term.Term.{Term}
use Rattle.fort_machine.specs.Effects.{Store, Effect, both, afterwards, aborting}
use Rattle.fort_machine.specs.Frames.{Frame, plug, trodden}
use Rattle.fort_machine.specs.Attempts.{Ended, goes, Form, Closes, completed, failed, gave_up, fell_asleep}
use Rattle.fort_machine.specs.Runs.{Runs, none, step, stop, attempt, Begun, so_far, inside, path_to}
use Rattle.fort_machine.specs.Journals.{IsNext}
use Rattle.fort_machine.proofs.Places.{one_place}
use Rattle.fort_machine.proofs.Ready.{form_ready}
use Rattle.fort_machine.proofs.Single.{one_run, same_attempts, mixed}
use Rattle.fort_machine.proofs.Split.{runs_part}
use Rattle.fort_plain.proofs.Legal.{form_one}

no_cost : (p : Program) (inner : Bool) (s : Store) (t : Term) (r : Ended) (d : Effect)
    → Runs p inner true s [] t r d → d.cost ≡ 0
no_cost p inner s t r d (none q x y) = ap (λ (e : Effect). e.cost) y
no_cost p inner s t r d (step gs q x n l k g w) = absurd cc
no_cost p inner s t r d (stop gs i q x n y w z) = absurd cc
no_cost p inner s t r d (attempt gs q x n form bare may k close g w) = absurd cc

closes_cost : (p : Program) (m : Mode) (body : Term) (r : Ended) (d : Effect) (b : Term)
    (e : Effect) → Closes p m body r d b e → e.cost ≡ 1 + d.cost
closes_cost p m body r d b e (completed v x y q) = ap (λ (x : Effect). x.cost) q
closes_cost p m body r d b e (failed v x y q) = ap (λ (x : Effect). x.cost) q
closes_cost p m body r d b e (gave_up v x z o y q) = ap (λ (x : Effect). x.cost) q
closes_cost p m body r d b e (fell_asleep ms x z o ri y q) = ap (λ (x : Effect). x.cost) q

record Exact (p : Program) (s : Store) (within : List Pick) (body : Term)
    (d : Effect) : Type 0 where
  ended : Ended
  inner : Effect
  runs : Runs p true true s within body ended inner
  costs : d.cost ≡ 1 + inner.cost

run_exact : (p : Program) (inner : Bool) (s : Store) (fs : List Frame) (within : List Pick)
    (a : Term) (m : Mode) (body t : Term) (r : Ended) (d : Effect) → t ≡ plug fs a → Form a m body
    → Runs p inner true s (Attempt (path_to fs) within ∷ []) t r d → Exact p s within body d
run_exact p inner s fs within a m body t r d e f (none q x y) = absurd cc
run_exact p inner s fs within a m body t r d e f (step {rest = rest} {loc = loc} gs q x n l k g w) =
    absurd (mixed gs fs loc within rest [] (sym q))
run_exact p inner s fs within a m body t r d e f (stop gs i q x n y w z) =
    absurd (mixed gs fs 0 within [] [] (sym q))
run_exact p inner s fs within a m body t r d e f
    (attempt {m = m'} {within = within'} {rest = rest} {a = a'} {b = b} {body = body'} {ended =
    ended} {d1 = d1} {d2 = d2} {d3 = d3} gs q x n form bare may k close g w) =
    let same = same_attempts fs gs within within' [] rest q in
    let place =
    one_place fs gs a a' (sym e
    ∙ x) same.0 (form_ready a m body f) (form_ready a' m' body' form) in
    let one = form_one a a' m m' body body' place.1 f form in
    let whole : d.cost ≡ d2.cost + d3.cost = ap (λ (y : Effect). y.cost) w in
    let price = closes_cost p m' body' ended d1 b d2 close in
    let nothing =
    no_cost p inner (afterwards d2 s) (plug (trodden gs) b) r d3
    (subst (λ ps. Runs p inner true (afterwards d2 s) ps (plug (trodden gs) b) r d3)
    (sym same.2) g) in
    record {
      ended = ended;
      inner = d1;
      runs = subst (λ y. Runs p true true s within y ended d1) (sym one.1)
          (subst (λ y. Runs p true true s y body' ended d1) (sym same.1) k);
      costs = omega (arith, whole, price, nothing);
    }

aborted_cost : (e d : Effect) → e ≡ aborting d → e.cost ≡ 1 + d.cost
aborted_cost e d q = ap (λ (x : Effect). x.cost) q

goes_term : (t u : Term) → goes t ≡ goes u → t ≡ u
goes_term t u e = cc

begun_run : (p : Program) (s : Store) (pick : Pick) (t : Term) (e : Effect)
    → Begun p true s pick t e → (inner : Bool) (r : Ended) (d : Effect)
    → Runs p inner true s (pick ∷ []) t r d → e.cost ≡ d.cost
begun_run p s pick t e
    (so_far {m = m} {a = a} {body = body} {r = r1} {d1 = d1} {within =
    within} gs w x n form bare may k z) inner r d h =
    let i = run_exact p inner s gs within a m body t r d x form
    (subst (λ y. Runs p inner true s (y ∷ []) t r d) w h) in
    let same : d1.cost ≡ i.inner.cost =
    ap (λ (y : Effect). y.cost)
    (one_run p true true s within body r1 i.ended d1 i.inner k i.runs).1 in
    let price = aborted_cost e d1 z in
    let whole = i.costs in omega (arith, same, price, whole)
begun_run p s pick t e
    (inside {m = m} {last = last} {a = a} {body = body} {u = u} {d1 = d1} {d2 = d2} {within =
    within} gs w x n form bare may k g z) inner r d h =
    let i = run_exact p inner s gs (within ++ last ∷ []) a m body t r d x form
    (subst (λ y. Runs p inner true s (y ∷ []) t r d) w h) in
    let part = runs_part p true true s within last [] body i.ended i.inner i.runs in
    let same =
    one_run p true true s within body (goes part.middle) (goes u) part.first d1 part.before k in
    let behind : Runs p true true (afterwards d1 s) (last ∷ []) u i.ended part.second =
    subst (λ y. Runs p true true (afterwards d1 s) (last ∷ []) y i.ended part.second)
    (goes_term part.middle u same.0) (subst (λ
    (y : Effect). Runs p true true (afterwards y s) (last ∷ []) part.middle i.ended
    part.second) same.1 part.behind) in
    let rest = begun_run p (afterwards d1 s) last u d2 g true i.ended part.second behind in
    let first : part.first.cost ≡ d1.cost = ap (λ (y : Effect). y.cost) same.1 in
    let all : i.inner.cost ≡ part.first.cost + part.second.cost =
    ap (λ (y : Effect). y.cost) part.is_both in
    let price : e.cost ≡ 1 + (d1.cost + d2.cost) = aborted_cost e (both d1 d2) z in
    let whole = i.costs in omega (arith, rest, first, all, price, whole)

snoc_same : (xs ys : List Pick) (x y : Pick) → xs ++ x ∷ [] ≡ ys ++ y ∷ [] → (xs ≡ ys) × (x ≡ y)
snoc_same [] [] x y e = (refl, cc)
snoc_same [] (z ∷ []) x y e = absurd cc
snoc_same [] (z ∷ w ∷ ys) x y e = absurd cc
snoc_same (z ∷ []) [] x y e = absurd cc
snoc_same (z ∷ w ∷ xs) [] x y e = absurd cc
snoc_same (z ∷ xs) (w ∷ ys) x y e =
    let h : z ≡ w = cc in
    let i = snoc_same xs ys x y (cc) in
    let j = i.0 in (cc, i.1)

same_body : (gs hs : List Frame) (within within' : List Pick) (a a' : Term) (m m' : Mode)
    (body body' t : Term) (pick : Pick) → pick ≡ Attempt (path_to gs) within
    → pick ≡ Attempt (path_to hs) within' → t ≡ plug gs a → t ≡ plug hs a' → Form a m body
    → Form a' m' body'
    → (within ≡ within') × (body ≡ body')
same_body gs hs within within' a a' m m' body body' t pick q r x y f g =
    let same = same_attempts gs hs within within' [] [] (ap (λ z. z ∷ []) (sym q ∙ r)) in
    let place =
    one_place gs hs a a' (sym x ∙ y) same.0 (form_ready a m body f) (form_ready a' m' body' g)
    in
    (same.1, (form_one a a' m m' body body' place.1 f g).1)

-- inner picks that end, and the same ones whose last is begun
run_begun : (p : Program) (s : Store) (within before : List Pick) (last : Pick) (body u : Term)
    (r : Ended) (d d1 d2 : Effect) → Runs p true true s within body r d
    → within ≡ before ++ last ∷ [] → Runs p true true s before body (goes u) d1
    → Begun p true (afterwards d1 s) last u d2 → d.cost ≡ d1.cost + d2.cost
run_begun p s within before last body u r d d1 d2 k e h g =
    let part =
    runs_part p true true s before last [] body r d
    (subst (λ ps. Runs p true true s ps body r d) e k) in
    let same =
    one_run p true true s before body (goes part.middle) (goes u) part.first d1 part.before h in
    let behind : Runs p true true (afterwards d1 s) (last ∷ []) u r part.second =
    subst (λ y. Runs p true true (afterwards d1 s) (last ∷ []) y r part.second)
    (goes_term part.middle u same.0) (subst (λ
    (y : Effect). Runs p true true (afterwards y s) (last ∷ []) part.middle r part.second)
    same.1 part.behind) in
    let rest = begun_run p (afterwards d1 s) last u d2 g true r part.second behind in
    let first : part.first.cost ≡ d1.cost = ap (λ (y : Effect). y.cost) same.1 in
    let all : d.cost ≡ part.first.cost + part.second.cost = ap (λ (y : Effect). y.cost) part.is_both
    in omega (arith, rest, first, all)

begun_same : (p : Program) (s : Store) (pick : Pick) (t : Term) (e e' : Effect)
    → Begun p true s pick t e → Begun p true s pick t e' → e.cost ≡ e'.cost
begun_same p s pick t e e'
    (so_far {m = m} {a = a} {body = body} {r = r} {d1 = d1} {within =
    within} gs w x n form bare may k z)
    (so_far {m = m'} {a = a'} {body = body'} {r = r'} {d1 = d1'} {within =
    within'} hs w' x' n' form' bare' may' k' z') =
    let b = same_body gs hs within within' a a' m m' body body' t pick w w' x x' form form' in
    let other =
    subst (λ y. Runs p true true s within y r' d1') (sym b.1)
    (subst (λ y. Runs p true true s y body' r' d1') (sym b.0) k') in
    let same : d1.cost ≡ d1'.cost =
    ap (λ (y : Effect). y.cost) (one_run p true true s within body r r' d1 d1' k other).1 in
    let one = aborted_cost e d1 z in
    let two = aborted_cost e' d1' z' in omega (arith, same, one, two)
begun_same p s pick t e e'
    (so_far {m = m} {a = a} {body = body} {r = r} {d1 = d1} {within =
    within} gs w x n form bare may k z)
    (inside {m = m'} {last = last} {a = a'} {body = body'} {u = u} {d1 = d1'} {d2 = d2'} {within =
    within'} hs w' x' n' form' bare' may' k' g' z') =
    let b = same_body gs hs within (within' ++ last ∷ []) a a' m m' body body' t pick w w' x x' form
    form' in
    let same =
    run_begun p s within within' last body u r d1 d1' d2' k b.0
    (subst (λ y. Runs p true true s within' y (goes u) d1') (sym b.1) k') g' in
    let one = aborted_cost e d1 z in
    let two : e'.cost ≡ 1 + (d1'.cost + d2'.cost) = aborted_cost e' (both d1' d2') z'
    in omega (arith, same, one, two)
begun_same p s pick t e e'
    (inside {m = m} {last = last} {a = a} {body = body} {u = u} {d1 = d1} {d2 = d2} {within =
    within} gs w x n form bare may k g z)
    (so_far {m = m'} {a = a'} {body = body'} {r = r'} {d1 = d1'} {within =
    within'} hs w' x' n' form' bare' may' k' z') =
    let b = same_body hs gs within' (within ++ last ∷ []) a' a m' m body' body t pick w' w x' x
    form' form in
    let same =
    run_begun p s within' within last body' u r' d1' d1 d2 k' b.0
    (subst (λ y. Runs p true true s within y (goes u) d1) (sym b.1) k) g in
    let one : e.cost ≡ 1 + (d1.cost + d2.cost) = aborted_cost e (both d1 d2) z in
    let two = aborted_cost e' d1' z' in omega (arith, same, one, two)
begun_same p s pick t e e'
    (inside {m = m} {last = last} {a = a} {body = body} {u = u} {d1 = d1} {d2 = d2} {within =
    within} gs w x n form bare may k g z)
    (inside {m = m'} {last = last'} {a = a'} {body = body'} {u = u'} {d1 = d1'} {d2 = d2'} {within =
    within'} hs w' x' n' form' bare' may' k' g' z') =
    let b = same_body gs hs (within ++ last ∷ []) (within' ++ last' ∷ []) a a' m m' body body' t
    pick w w' x x' form form' in
    let l = snoc_same within within' last last' b.0 in
    let other =
    subst (λ y. Runs p true true s within y (goes u') d1') (sym b.1)
    (subst (λ y. Runs p true true s y body' (goes u') d1') (sym l.0) k') in
    let same = one_run p true true s within body (goes u') (goes u) d1' d1 other k in
    let begun : Begun p true (afterwards d1 s) last u d2' =
    subst (λ y. Begun p true (afterwards d1 s) y u d2') (sym l.1)
    (subst (λ y. Begun p true (afterwards d1 s) last' y d2') (goes_term u' u same.0) (subst (λ
    (y : Effect). Begun p true (afterwards y s) last' u' d2') same.1 g')) in
    let rest = begun_same p (afterwards d1 s) last u d2 d2' g begun in
    let first : d1'.cost ≡ d1.cost = ap (λ (y : Effect). y.cost) same.1 in
    let one : e.cost ≡ 1 + (d1.cost + d2.cost) = aborted_cost e (both d1 d2) z in
    let two : e'.cost ≡ 1 + (d1'.cost + d2'.cost) = aborted_cost e' (both d1' d2') z'
    in omega (arith, rest, first, one, two)

pub next_cost : (p : Program) (s : Store) (t : Term) (pick : Pick) (d e : Effect)
    → IsNext p s t pick d → IsNext p s t pick e → d.cost ≡ e.cost
next_cost p s t pick d e (inl h) (inl k) =
    ap (λ (y : Effect). y.cost) (one_run p false true s (pick ∷ []) t h.0 k.0 d e h.1 k.1).1
next_cost p s t pick d e (inl h) (inr k) = sym (begun_run p s pick t e k false h.0 d h.1)
next_cost p s t pick d e (inr h) (inl k) = begun_run p s pick t d h false k.0 e k.1
next_cost p s t pick d e (inr h) (inr k) = begun_same p s pick t d e h k
