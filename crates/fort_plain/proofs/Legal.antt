-- Legal picks: before and behind others, and within an attempt.
use Rattle.std.proofs.Common.{◌≡◌, ◌+◌, ◌≤◌, ◌&&◌, Bool, true, false, List, [], ◌∷◌, ◌++◌, refl, ap, sym, ◌∙◌, subst, arith}
use Rattle.fort_core.specs.declared.form.Mode.{Mode}
use Rattle.fort_core.specs.declared.pick.Pick.{Pick, Attempt}
use Rattle.fort_core.specs.declared.program.Program.{Program}
use Rattle.fort_core.specs.declared.term.Term.{Term, out-Term}
use Rattle.fort_core.specs.declared.term.Term.TheVariants.{outs-Asleep, outs-Atomic}
use Rattle.fort_machine.specs.Effects.{Store, Effect, idle, both, afterwards}
use Rattle.fort_machine.specs.Frames.{Frame, plug}
use Rattle.fort_machine.specs.Attempts.{Ended, goes, Form, fresh, slept, Closes}
use Rattle.fort_machine.specs.Runs.{Runs, none, step, stop, attempt, Begun, so_far, inside, path_to}
use Rattle.fort_machine.specs.Journals.{MakesWithinBounds}
use Rattle.fort_machine.proofs.Places.{one_place}
use Rattle.fort_machine.proofs.Ready.{form_ready}
use Rattle.fort_machine.proofs.Runs.{runs_fit}
use Rattle.fort_machine.proofs.Single.{same_attempts, mixed}
use Rattle.fort_machine.proofs.Split.{runs_part}
use Rattle.fort_machine.proofs.WholeEffects.{afterwards_both, both_assoc, idle_both}
use Rattle.fort_plain.specs.Legal.{AreLegal, a_run, begun_last}
use Rattle.fort_plain.specs.Within.{is_none}
use Rattle.fort_plain.proofs.Bounded.{first_bounded, begun_bounded, begun_costs, closes_bounded, closes_costs}

-- ---- picks before and behind

pub record PartedLegal (p : Program) (ajar inner : Bool) (s : Store) (picks more : List Pick)
    (t : Term) (d : Effect) : Type 0 where
  pub middle : Term
  pub first : Effect
  pub second : Effect
  pub before : Runs p inner true s picks t (goes middle) first
  pub behind : AreLegal p ajar inner (afterwards first s) more middle second
  pub is_both : d ≡ both first second

record SplitLast (before picks more : List Pick) (last : Pick) : Type 0 where
  rest : List Pick
  is_before : before ≡ picks ++ rest
  is_more : more ≡ rest ++ last ∷ []

split_last : (picks before more : List Pick) (pick last : Pick)
    → picks ++ pick ∷ more ≡ before ++ last ∷ [] → SplitLast before picks (pick ∷ more) last
split_last [] before more pick last e = record { rest = before; is_before = refl; is_more = e }
split_last (q ∷ []) [] more pick last e = absurd cc
split_last (q ∷ r ∷ qs) [] more pick last e = absurd cc
split_last (q ∷ qs) (b ∷ bs) more pick last e =
    let h : q ≡ b = cc in
    let i = split_last qs bs more pick last (cc) in
    record { rest = i.rest; is_before = (let x = i.is_before in cc); is_more = i.is_more }

part_begun : (p : Program) (ajar inner : Bool) (s : Store) (picks rest more : List Pick)
    (last : Pick) (t u : Term) (d d1 d2 : Effect) → ajar ≡ true → more ≡ rest ++ last ∷ []
    → Runs p inner true s (picks ++ rest) t (goes u) d1 → Begun p true (afterwards d1 s) last u d2
    → d ≡ both d1 d2 → PartedLegal p ajar inner s picks more t d
part_begun p ajar inner s picks [] more last t u d d1 d2 o e k g w = record {
  middle = u;
  first = d1;
  second = d2;
  before = subst (λ x. Runs p inner true s x t (goes u) d1) (append_nil picks) k;
  behind = begun_last [] last u idle d2 o e (none refl refl refl) g (sym (idle_both d2));
  is_both = w;
}
  where
    append_nil : (xs : List Pick) → xs ++ [] ≡ xs
    append_nil [] = refl
    append_nil (x ∷ xs) = ap (λ ys. x ∷ ys) (append_nil xs)
part_begun p ajar inner s picks (x ∷ xs) more last t u d d1 d2 o e k g w =
    let i = runs_part p inner true s picks x xs t (goes u) d1 k in
    let store : afterwards d1 s ≡ afterwards i.second (afterwards i.first s) =
    ap (λ y. afterwards y s) i.is_both
    ∙ afterwards_both i.first i.second s (runs_fit s picks t (goes i.middle) i.first i.before)
    (runs_fit (afterwards i.first s) (x ∷ xs) i.middle (goes u) i.second i.behind) in
    record {
      middle = i.middle;
      first = i.first;
      second = both i.second d2;
      before = i.before;
      behind = begun_last (x ∷ xs) last u i.second d2 o e i.behind
          (subst (λ y. Begun p true y last u d2) store g) refl;
      is_both = w ∙ ap (λ y. both y d2) i.is_both ∙ both_assoc i.first i.second d2;
    }

pub part_legal : (p : Program) (ajar inner : Bool) (s : Store) (picks : List Pick) (pick : Pick)
    (more : List Pick) (t : Term) (d : Effect) → AreLegal p ajar inner s (picks ++ pick ∷ more) t d
    → PartedLegal p ajar inner s picks (pick ∷ more) t d
part_legal p ajar inner s picks pick more t d (a_run r k) =
    let i = runs_part p inner true s picks pick more t r d k in
    record {
      middle = i.middle;
      first = i.first;
      second = i.second;
      before = i.before;
      behind = a_run r i.behind;
      is_both = i.is_both;
    }
part_legal p ajar inner s picks pick more t d (begun_last before last u d1 d2 o e k g w) =
    let i = split_last picks before more pick last e in
    part_begun p ajar inner s picks i.rest (pick ∷ more) last t u d d1 d2 o i.is_more
    (subst (λ x. Runs p inner true s x t (goes u) d1) i.is_before k) g w

-- ---- within an attempt

pub form_one : (a a' : Term) (m m' : Mode) (body body' : Term) → a ≡ a' → Form a m body
    → Form a' m' body' → (m ≡ m') × (body ≡ body')
form_one a a' m m' body body' e (fresh p) (fresh q) =
    let z = sym (outs-Atomic m body) ∙ ap out-Term (sym p ∙ e ∙ q) ∙ outs-Atomic m' body'
    in (cc, cc)
form_one a a' m m' body body' e (fresh p) (slept ms n q) =
    let z = sym (outs-Atomic m body) ∙ ap out-Term (sym p ∙ e ∙ q) ∙ outs-Asleep ms body'
    in absurd cc
form_one a a' m m' body body' e (slept ms n p) (fresh q) =
    let z = sym (outs-Asleep ms body) ∙ ap out-Term (sym p ∙ e ∙ q) ∙ outs-Atomic m' body'
    in absurd cc
form_one a a' m m' body body' e (slept ms n p) (slept ms' n' q) =
    let z = sym (outs-Asleep ms body) ∙ ap out-Term (sym p ∙ e ∙ q) ∙ outs-Asleep ms' body'
    in (n ∙ sym n', cc)

-- the inner run of an attempt that is a run's pick
pub record InnerRun (p : Program) (s : Store) (within : List Pick) (m : Mode) (body : Term)
    (d : Effect) : Type 0 where
  pub ended : Ended
  pub inner : Effect
  pub next : Term
  pub outer : Effect
  pub runs : Runs p true true s within body ended inner
  pub closes : Closes p m body ended inner next outer
  pub bounded : MakesWithinBounds d → MakesWithinBounds inner
  pub costs : 1 + inner.cost ≤ d.cost

pub inner_run : (p : Program) (inner : Bool) (s : Store) (fs : List Frame) (within more : List Pick)
    (a : Term) (m : Mode) (body t : Term) (r : Ended) (d : Effect) → t ≡ plug fs a → Form a m body
    → Runs p inner true s (Attempt (path_to fs) within ∷ more) t r d → InnerRun p s within m body d
inner_run p inner s fs within more a m body t r d e f (none q x y) = absurd cc
inner_run p inner s fs within more a m body t r d e f
    (step {rest = rest} {loc = loc} gs q x n l k g w) =
    absurd (mixed gs fs loc within rest more (sym q))
inner_run p inner s fs within more a m body t r d e f (stop gs i q x n y w z) =
    absurd (mixed gs fs 0 within [] more (sym q))
inner_run p inner s fs within more a m body t r d e f
    (attempt {m = m'} {within = within'} {rest = rest} {a = a'} {b = b} {body = body'} {ended =
    ended} {d1 = d1} {d2 = d2} {d3 = d3} gs q x n form bare may k close g w) =
    let same = same_attempts fs gs within within' more rest q in
    let place =
    one_place fs gs a a' (sym e
    ∙ x) same.0 (form_ready a m body f) (form_ready a' m' body' form) in
    let one = form_one a a' m m' body body' place.1 f form in
    let runs : Runs p true true s within body ended d1 =
    subst (λ y. Runs p true true s within y ended d1) (sym one.1)
    (subst (λ y. Runs p true true s y body' ended d1) (sym same.1) k) in
    let closes : Closes p m body ended d1 b d2 =
    subst (λ y. Closes p y body ended d1 b d2) (sym one.0)
    (subst (λ y. Closes p m' y ended d1 b d2) (sym one.1) close) in
    let whole : d.cost ≡ d2.cost + d3.cost = ap (λ (y : Effect). y.cost) w in
    let price = closes_costs p m body ended d1 b d2 closes in
    record {
      ended = ended;
      inner = d1;
      next = b;
      outer = d2;
      runs = runs;
      closes = closes;
      bounded =
          λ y. closes_bounded p m body ended d1 b d2 closes
          (first_bounded d2 d3 (subst MakesWithinBounds w y));
      costs = omega (arith, whole, price);
    }

-- the picks within an attempt that is legal, or begun
pub record InnerLegal (p : Program) (ajar : Bool) (s : Store) (within : List Pick) (m : Mode)
    (body : Term) (d : Effect) : Type 0 where
  pub inner : Effect
  pub legal : AreLegal p ajar true s within body inner
  pub bounded : MakesWithinBounds d → MakesWithinBounds inner
  pub costs : 1 + inner.cost ≤ d.cost
  pub closes : ajar ≡ false → InnerRun p s within m body d

from_run : (p : Program) (ajar : Bool) (s : Store) (within : List Pick) (m : Mode) (body : Term)
    (d : Effect) → InnerRun p s within m body d → InnerLegal p ajar s within m body d
from_run p ajar s within m body d i =
    record {
      inner = i.inner;
      legal = a_run i.ended i.runs;
      bounded = i.bounded;
      costs = i.costs;
      closes = λ e. i;
    }

begun_within : (p : Program) (s : Store) (fs : List Frame) (within : List Pick) (a : Term)
    (m : Mode) (body t : Term) (pick : Pick) (d : Effect) → t ≡ plug fs a → Form a m body
    → pick ≡ Attempt (path_to fs) within
    → Begun p true s pick t d → InnerLegal p true s within m body d
begun_within p s fs within a m body t pick d e f q
    (so_far {m = m'} {a = a'} {body = body'} {r = r} {d1 = d1} {within =
    within'} gs w x n form bare may k z) =
    let same = same_attempts fs gs within within' [] [] (ap (λ y. y ∷ []) (sym q ∙ w)) in
    let place =
    one_place fs gs a a' (sym e
    ∙ x) same.0 (form_ready a m body f) (form_ready a' m' body' form) in
    let one = form_one a a' m m' body body' place.1 f form in
    record {
      inner = d1;
      legal = a_run r
          (subst (λ y. Runs p true true s within y r d1) (sym one.1)
          (subst (λ y. Runs p true true s y body' r d1) (sym same.1) k));
      bounded = begun_bounded d1 d z;
      costs = begun_costs d1 d z;
      closes = λ y. absurd cc;
    }
begun_within p s fs within a m body t pick d e f q
    (inside {m = m'} {last = last} {a = a'} {body = body'} {u = u} {d1 = d1} {d2 = d2} {within =
    within'} gs w x n form bare may k g z) =
    let same =
    same_attempts fs gs within (within' ++ last ∷ []) [] [] (ap (λ y. y ∷ []) (sym q ∙ w)) in
    let place =
    one_place fs gs a a' (sym e
    ∙ x) same.0 (form_ready a m body f) (form_ready a' m' body' form) in
    let one = form_one a a' m m' body body' place.1 f form in
    record {
      inner = both d1 d2;
      legal = begun_last within' last u d1 d2 refl same.1
          (subst (λ y. Runs p true true s within' y (goes u) d1) (sym one.1) k) g refl;
      bounded = begun_bounded (both d1 d2) d z;
      costs = begun_costs (both d1 d2) d z;
      closes = λ y. absurd cc;
    }

no_pick : (p : Program) (inner : Bool) (s : Store) (t u : Term) (d : Effect)
    → Runs p inner true s [] t (goes u) d → (u ≡ t) × (d ≡ idle)
no_pick p inner s t u d (none q x y) = (cc, y)
no_pick p inner s t u d (step gs q x n l k g w) = absurd cc
no_pick p inner s t u d (stop gs i q x n y w z) = absurd cc
no_pick p inner s t u d (attempt gs q x n form bare may k close g w) = absurd cc

head_begun : (p : Program) (ajar inner : Bool) (s : Store) (fs : List Frame)
    (within more before : List Pick) (last : Pick) (a : Term) (m : Mode) (body t u : Term)
    (d d1 d2 : Effect) → t ≡ plug fs a → Form a m body → ajar ≡ true
    → Attempt (path_to fs) within ∷ more ≡ before ++ last ∷ []
    → Runs p inner true s before t (goes u) d1 → Begun p true (afterwards d1 s) last u d2
    → d ≡ both d1 d2 → InnerLegal p (ajar && is_none more) s within m body d
head_begun p ajar inner s fs within more [] last a m body t u d d1 d2 e f o q k g w =
    let ended = no_pick p inner s t u d1 k in
    let only : more ≡ [] = cc in
    let pick : last ≡ Attempt (path_to fs) within = cc in
    let all : d ≡ d2 = w ∙ ap (λ y. both y d2) ended.1 ∙ idle_both d2 in
    let here : Begun p true s last t d =
    subst (λ y. Begun p true s last t y) (sym all)
    (subst (λ y. Begun p true s last y d2) ended.0 (subst (λ
    (y : Effect). Begun p true (afterwards y s) last u d2) ended.1 g)) in
    let flag : true ≡ (ajar && is_none more) = sym (ap (λ y. y && is_none more) o ∙ ap is_none only)
    in
    subst (λ y. InnerLegal p y s within m body d) flag
    (begun_within p s fs within a m body t last d e f pick here)
head_begun p ajar inner s fs within more (x ∷ xs) last a m body t u d d1 d2 e f o q k g w =
    let pick : x ≡ Attempt (path_to fs) within = cc in
    let i = inner_run p inner s fs within xs a m body t (goes u) d1 e f
    (subst (λ y. Runs p inner true s (y ∷ xs) t (goes u) d1) pick k) in
    let whole : d.cost ≡ d1.cost + d2.cost = ap (λ (y : Effect). y.cost) w in
    let price = i.costs in
    from_run p (ajar && is_none more) s within m body d (record {
      ended = i.ended;
      inner = i.inner;
      next = i.next;
      outer = i.outer;
      runs = i.runs;
      closes = i.closes;
      bounded = λ y. i.bounded (first_bounded d1 d2 (subst MakesWithinBounds w y));
      costs = omega (arith, whole, price);
    })

pub inner_legal : (p : Program) (ajar inner : Bool) (s : Store) (fs : List Frame)
    (within more : List Pick) (a : Term) (m : Mode) (body t : Term) (d : Effect) → t ≡ plug fs a
    → Form a m body
    → AreLegal p ajar inner s (Attempt (path_to fs) within ∷ more) t d
    → InnerLegal p (ajar && is_none more) s within m body d
inner_legal p ajar inner s fs within more a m body t d e f (a_run r k) =
    from_run p (ajar
    && is_none more) s within m body d (inner_run p inner s fs within more a m body t r d e f k)
inner_legal p ajar inner s fs within more a m body t d e f
    (begun_last before last u d1 d2 o q k g w) =
    head_begun p ajar inner s fs within more before last a m body t u d d1 d2 e f o q k g w
