-- The end of a replay.
use Rattle.std.proofs.Common.{◌≡◌, ℕ, ◌+◌, ◌<◌, ◌≤◌, Bool, true, false, List, [], ◌∷◌, ◌++◌, Option, length, take, refl, ap, sym, ◌∙◌, subst, arith, inl, inr}
use Rattle.std.proofs.Math.Seq.{take-length}
use Rattle.fort_core.specs.declared.journal.Ending.{Ending}
use Rattle.fort_core.specs.declared.journal.Ending.TheVariants as ending
use Rattle.fort_core.specs.declared.journal.Journal.{Journal}
use Rattle.fort_core.specs.declared.pick.Pick.{Pick}
use Rattle.fort_core.specs.declared.program.Program.{Program}
use Rattle.fort_core.specs.declared.term.Term.{Term}
use Rattle.fort_core.specs.declared.term.Term as term
use Rattle.fort_core.specs.declared.value.Value.{Value}
use Rattle.fort_machine.specs.Effects.{Store, Effect, idle, both, afterwards}
use Rattle.fort_machine.specs.Ends.{Finished, throw_of, at_value, at_throw}
use Rattle.fort_machine.specs.Ends as ends
use Rattle.fort_machine.specs.Acts.{unit}
use Rattle.fort_machine.specs.Attempts.{goes}
use Rattle.fort_machine.specs.Runs.{Runs, none, step, stop, attempt, Begun}
use Rattle.fort_machine.specs.Journals.{MakesWithinBounds, IsJournal, IsNext, Ends, opening_store}
use Rattle.fort_machine.proofs.Single.{one_run}
use Rattle.fort_machine.proofs.WholeEffects.{idle_both}
use Rattle.fort_machine.proofs.Standing.{standing-Value, standing-throw, value_not_throw}
use Rattle.fort_store_effects.specs.Levels.{levels_of, spent}
use Rattle.fort_walk_law_course.specs.Course.{Comes}
use Rattle.fort_walk_law_course.specs.Ends.{HasRun}
use Rattle.fort_walk_law_course.proofs.Bounds.{both_bounded}
use Rattle.fort_walk_law_course.proofs.Passes.{completed_run, uncaught_run}
use Rattle.fort_walk_course.specs.declared.course.Course.{Course}
use Rattle.fort_walk_course.specs.declared.course.Going.{Going}
use Rattle.fort_walk_course.specs.Courses.{IsGoing, inwards}
use Rattle.fort_plain.specs.Legal.{AreLegal, a_run, begun_last, NoRun}
use Rattle.fort_plain.specs.Paths.{IsSettled, whole}
use Rattle.fort_plain.specs.Replays.{RunsWithin, BreaksAt, EndsAt, EndsSo, IsNoPick, Replays}
use Rattle.fort_plain.specs.Within.{EndsWith, NeverRuns, TakesPick}
use Rattle.fort_plain.specs.declared.journal.Replayed.{Replayed}
use Rattle.fort_plain.specs.declared.journal.Replayed.TheVariants as replayed
use Rattle.fort_plain.specs.declared.settled.Settled.{Settled}
use Rattle.fort_plain.specs.declared.settled.Settled.TheVariants as settled
use Rattle.fort_plain.proofs.Bounded.{second_bounded}
use Rattle.fort_plain.proofs.Lasting.{join_legal}
use Rattle.fort_plain.proofs.Legal.{part_legal}
use Rattle.fort_plain.proofs.Costs.{next_cost}
use Rattle.fort_plain.proofs.Within.{spent_now}

goes_term : (t u : Term) → goes t ≡ goes u → t ≡ u
goes_term t u e = cc

-- the root's run
pub record RootRun (p : Program) (g : Going) : Type 0 where
  pub root : Effect
  pub runs : Runs p false true (opening_store p) g.course.picks p.first
      (goes (whole g.course.clock g.state)) root
  pub bounded : MakesWithinBounds root
  pub cost : root.cost ≤ g.course.fuel
  pub come : Comes p g.course.fuel (levels_of g.course.layers) g.course.picks [] g.course.clock
      (goes (whole g.course.clock g.state))

pub root_run : (p : Program) (g : Going) → IsGoing p g → g.course.outer ≡ [] → RootRun p g
root_run p g k e =
    let c = g.course in
    let t = whole c.clock g.state in
    let come =
    subst (λ hs. Comes p c.fuel (levels_of c.layers) c.picks hs c.clock (goes t))
    (ap (λ os. inwards os []) e) k.course.comes in
    let sum : spent (levels_of c.layers) ≡ 0 + come.root.cost =
    ap spent come.levels ∙ spent_now p c.clock come.root [] come.attempts come.waiting in
    let paid : spent (levels_of c.layers) ≡ come.root.cost = omega (arith, sum) in
    let covers = come.within_fuel in
    record {
      root = come.root;
      runs = come.runs;
      bounded = come.bounded;
      cost = omega (arith, paid, covers);
      come = come;
    }

pub runs_within : (p : Program) (g : Going) → IsGoing p g → g.course.outer ≡ []
    → RunsWithin p g.course.fuel g.course.picks
runs_within p g k e =
    let r = root_run p g k e
    in record {
      term = _;
      effect = r.root;
      is_run = record { runs = r.runs; bounded = r.bounded };
      within_fuel = r.cost;
    }

no_run_within : (p : Program) (fuel : ℕ) (picks : List Pick) → NoRun p false fuel picks
    → RunsWithin p fuel picks → ⊥
no_run_within p fuel picks barred r =
    let c = r.within_fuel
    in barred r.effect (a_run (goes r.term) r.is_run.runs) r.is_run.bounded (omega (arith, c))

-- ---- a pick that breaks the journal

pub breaks_at : (p : Program) (j : Journal) (g : Going) (n : ℕ) (pick : Pick) → IsGoing p g
    → g.course.outer ≡ [] → g.course.fuel ≡ j.fuel → g.course.picks ≡ take n j.picks
    → n < length j.picks → take (n + 1) j.picks ≡ take n j.picks ++ pick ∷ []
    → NoRun p false g.course.fuel (g.course.picks ++ pick ∷ []) → BreaksAt p j n
breaks_at p j g n pick k e f q low next barred = record {
  before = subst (λ m. RunsWithin p m (take n j.picks)) f
      (subst (RunsWithin p g.course.fuel) q (runs_within p g k e));
  cause = inl (
    low,
    λ r. no_run_within p j.fuel (take (n + 1) j.picks)
        (subst (λ m. NoRun p false m (take (n + 1) j.picks)) f
        (subst (NoRun p false g.course.fuel) (ap (λ ps. ps ++ pick ∷ []) q
        ∙ sym next) barred)) r,
  );
}

pub replays_so : (p : Program) (j : Journal) (g : Going) (r : Replayed) → IsGoing p g
    → g.course.outer ≡ [] → g.course.fuel ≡ j.fuel → g.course.picks ≡ j.picks
    → EndsAt p g.course.fuel g.course.picks j.ending (length j.picks) r → Replays p j r
replays_so p j g (replayed.Run output cost) k e f q h =
    subst (λ m. HasRun p m j.picks j.ending output cost) f
    (subst (λ ps. HasRun p g.course.fuel ps j.ending output cost) q h)
replays_so p j g (replayed.Broken n) k e f q h = record {
  before = subst (λ m. RunsWithin p m (take n j.picks)) f
      (subst (RunsWithin p g.course.fuel) (q
      ∙ sym (ap (λ m. take m j.picks) h.0 ∙ take-length j.picks)) (runs_within p g k e));
  cause = inr (
    h.0,
    subst (λ m. IsJournal p (record { fuel = m; picks = j.picks; ending = j.ending })
        → ⊥) f (subst
        (λ ps. IsJournal p (record { fuel = g.course.fuel; picks = ps; ending = j.ending })
        → ⊥) q h.1),
  );
}

-- ---- an ending without a pick

pub no_pick : (e : Ending) → ((q : Pick) → e ≡ ending.OutOfFuel q → ⊥) → IsNoPick e
no_pick ending.NotRun h = tt
no_pick ending.Completed h = tt
no_pick (ending.Uncaught v) h = tt
no_pick (ending.OutOfFuel q) h = absurd (h q refl)

pub right_end : (p : Program) (g : Going) (s : Settled) (e : Ending) → IsGoing p g
    → g.course.outer ≡ [] → IsSettled (whole g.course.clock g.state) s → EndsSo s e
    → HasRun p g.course.fuel g.course.picks e (levels_of g.course.layers).output
    (levels_of g.course.layers).cost
right_end p g (settled.Value v) ending.Completed k o t h =
    let come = (root_run p g k o).come in
    completed_run p g.course.fuel (levels_of g.course.layers) g.course.picks g.course.clock
    (subst (λ x. Comes p g.course.fuel (levels_of g.course.layers) g.course.picks []
    g.course.clock (goes x)) (t ∙ ap term.Value h) come)
right_end p g (settled.Throw v) (ending.Uncaught w) k o t h =
    let come = (root_run p g k o).come in
    uncaught_run p g.course.fuel (levels_of g.course.layers) g.course.picks g.course.clock w
    (subst (λ x. Comes p g.course.fuel (levels_of g.course.layers) g.course.picks []
    g.course.clock (goes x)) (t ∙ ap throw_of h) come)
right_end p g (settled.Value v) ending.NotRun k o t h = absurd h
right_end p g (settled.Value v) (ending.Uncaught w) k o t h = absurd h
right_end p g (settled.Value v) (ending.OutOfFuel q) k o t h = absurd h
right_end p g (settled.Throw v) ending.NotRun k o t h = absurd h
right_end p g (settled.Throw v) ending.Completed k o t h = absurd h
right_end p g (settled.Throw v) (ending.OutOfFuel q) k o t h = absurd h
right_end p g settled.Open e k o t h = absurd h

value_is : (v w : Value) → term.Value v ≡ term.Value w → v ≡ w
value_is v w e =
    let z : at_value v ≡ at_value w = sym (standing-Value v) ∙ ap ends.standing e ∙ standing-Value w
    in cc

throw_is : (v w : Value) → throw_of v ≡ throw_of w → v ≡ w
throw_is v w e =
    let z : at_throw v ≡ at_throw w = sym (standing-throw v) ∙ ap ends.standing e ∙ standing-throw w
    in cc

ends_here : (p : Program) (fuel : ℕ) (t : Term) (d : Effect) (s : Settled) (e : Ending)
    → IsSettled t s → IsNoPick e → Ends p fuel t d e → EndsSo s e
ends_here p fuel t d s ending.NotRun h n k = absurd k
ends_here p fuel t d (settled.Value v) ending.Completed h n k = value_is v unit (sym h ∙ k)
ends_here p fuel t d (settled.Throw v) ending.Completed h n k =
    absurd (value_not_throw unit v (sym k ∙ h))
ends_here p fuel t d settled.Open ending.Completed h n k = absurd (h (ends.Finished.value unit k))
ends_here p fuel t d (settled.Value v) (ending.Uncaught w) h n k =
    absurd (value_not_throw v w (sym h ∙ k))
ends_here p fuel t d (settled.Throw v) (ending.Uncaught w) h n k = throw_is v w (sym h ∙ k)
ends_here p fuel t d settled.Open (ending.Uncaught w) h n k = absurd (h (ends.Finished.throw w k))
ends_here p fuel t d s (ending.OutOfFuel q) h n k = absurd n

pub wrong_end : (p : Program) (g : Going) (s : Settled) (e : Ending) → IsGoing p g
    → g.course.outer ≡ [] → IsSettled (whole g.course.clock g.state) s → IsNoPick e
    → (EndsSo s e → ⊥)
    → IsJournal p (record { fuel = g.course.fuel; picks = g.course.picks; ending = e }) → ⊥
wrong_end p g s e k o h n barred j =
    let r = root_run p g k o in
    let t = whole g.course.clock g.state in
    let x = j.1.1 in
    let same =
    one_run p false true (opening_store p) g.course.picks p.first (goes j.0) (goes t) j.1.0
    r.root x.is_run.runs r.runs in
    barred (ends_here p g.course.fuel t j.1.0 s e h n
    (subst (λ y. Ends p g.course.fuel y j.1.0 e) (goes_term j.0 t same.0) x.ends))

-- ---- the pick that is next

one_left : (before : List Pick) (last pick : Pick) → pick ∷ [] ≡ before ++ last ∷ []
    → (before ≡ []) × (last ≡ pick)
one_left [] last pick e = (refl, cc)
one_left (x ∷ []) last pick e = absurd cc
one_left (x ∷ y ∷ xs) last pick e = absurd cc

no_picks : (p : Program) (inner : Bool) (s : Store) (t u : Term) (d : Effect)
    → Runs p inner true s [] t (goes u) d → (t ≡ u) × (d ≡ idle)
no_picks p inner s t u d (none q x y) = (cc, y)
no_picks p inner s t u d (step gs q x n l k g w) = absurd cc
no_picks p inner s t u d (stop gs i q x n y w z) = absurd cc
no_picks p inner s t u d (attempt gs q x n form bare may k close g w) = absurd cc

next_of : (p : Program) (s : Store) (t : Term) (pick : Pick) (d : Effect)
    → AreLegal p true false s (pick ∷ []) t d → IsNext p s t pick d
next_of p s t pick d (a_run r k) = inl (r, k)
next_of p s t pick d (begun_last before last u d1 d2 o q k g w) =
    let only = one_left before last pick q in
    let n = no_picks p false s t u d1 (subst (λ ps. Runs p false true s ps t (goes u) d1) only.0 k)
    in
    let all : d ≡ d2 = w ∙ ap (λ x. both x d2) n.1 ∙ idle_both d2 in
    inr (subst (λ x. Begun p true s pick t x) (sym all)
    (subst (λ x. Begun p true s x t d2) only.1
    (subst (λ x. Begun p true s last x d2) (sym n.0) (subst (λ
    (x : Effect). Begun p true (afterwards x s) last u d2) n.1 g))))

-- a journal that ends so
pub ends_out : (p : Program) (g : Going) (fuel : ℕ) (pick : Pick) (c : Course) (cost : Option ℕ)
    → IsGoing p g → g.course.outer ≡ [] → (h : EndsWith p g.course.picks pick c cost)
    → fuel < h.effect.cost → g.course.fuel ≡ fuel
    → HasRun p fuel g.course.picks (ending.OutOfFuel pick) (levels_of c.layers).output
    (levels_of c.layers).cost
ends_out p g fuel pick c cost k o h over f =
    let r = root_run p g k o in
    let s = opening_store p in
    let i = part_legal p true false s g.course.picks pick [] p.first h.effect h.legal in
    let same =
    one_run p false true s g.course.picks p.first (goes i.middle) (goes h.term) i.first h.root
    i.before h.is_root in
    let own =
    one_run p false true s g.course.picks p.first (goes h.term)
    (goes (whole g.course.clock g.state)) h.root r.root h.is_root r.runs in
    let behind : AreLegal p true false (afterwards h.root s) (pick ∷ []) h.term i.second =
    subst (λ x. AreLegal p true false (afterwards h.root s) (pick ∷ []) x i.second)
    (goes_term i.middle h.term same.0) (subst (λ
    (x : Effect). AreLegal p true false (afterwards x s) (pick ∷ []) i.middle i.second)
    same.1 i.behind) in
    let all : h.effect.cost ≡ h.root.cost + i.second.cost =
    ap (λ (x : Effect). x.cost) i.is_both ∙ ap (λ (x : Effect). x.cost + i.second.cost) same.1
    in
    let roots : h.root.cost ≡ r.root.cost = ap (λ (x : Effect). x.cost) own.1 in
    let covers = r.cost in
    record {
      term = h.term;
      effect = h.root;
      records = record {
        is_run = record {
          runs = h.is_root;
          bounded = subst MakesWithinBounds (sym own.1) r.bounded;
        };
        within_fuel = omega (arith, roots, covers, f);
        ends = record {
          effect = i.second;
          is_next = next_of p (afterwards h.root s) h.term pick i.second behind;
          bounded =
              second_bounded i.first i.second (subst MakesWithinBounds i.is_both h.bounded);
          passes = omega (arith, over, all);
        };
      };
      is_output = h.output;
      is_cost = h.root_cost;
    }

-- one that has no such pick
legal_next : (p : Program) (s : Store) (t : Term) (pick : Pick) (d : Effect) → IsNext p s t pick d
    → AreLegal p true false s (pick ∷ []) t d
legal_next p s t pick d (inl h) = a_run h.0 h.1
legal_next p s t pick d (inr h) =
    begun_last [] pick t idle d refl refl (none refl refl refl) h (sym (idle_both d))

pub none_out : (p : Program) (fuel : ℕ) (picks : List Pick) (pick : Pick)
    → NeverRuns p true (picks ++ pick ∷ [])
    → IsJournal p (record { fuel = fuel; picks = picks; ending = ending.OutOfFuel pick }) → ⊥
none_out p fuel picks pick barred j =
    let x = j.1.1 in
    let h = x.ends in
    let d = both j.1.0 h.effect in
    barred.never d.cost d
    (join_legal p true false (opening_store p) picks (pick ∷ []) p.first j.0 j.1.0 h.effect
    x.is_run.runs
    (legal_next p (afterwards j.1.0 (opening_store p)) j.0 pick h.effect h.is_next))
    (both_bounded j.1.0 h.effect x.is_run.bounded h.bounded)
    (omega arith)

-- with more fuel it goes on
pub raised : (p : Program) (g h : Going) (more : ℕ) → IsGoing p g → g.course.fuel ≤ more
    → h ≡ record { course = record g.course { fuel = more }; state = g.state } → IsGoing p h
raised p g h more k up e =
    let come = k.course.comes in
    let covers = come.within_fuel in
    subst (IsGoing p) (sym e) (record {
      course = record {
        comes = record {
          root = come.root;
          attempts = come.attempts;
          levels = come.levels;
          waiting = come.waiting;
          bounded = come.bounded;
          runs = come.runs;
          within_fuel = omega (arith, covers, up);
        };
        reached = k.course.reached;
        nothing = k.course.nothing;
      };
      is_spent = k.is_spent;
    })

-- one whose pick costs no more than what is left
pub covered_out : (p : Program) (g : Going) (fuel : ℕ) (pick : Pick) (c : Course)
    (cost : Option ℕ) → (h : EndsWith p g.course.picks pick c cost)
    → (fuel < h.effect.cost → ⊥)
    → IsJournal p (record { fuel = fuel; picks = g.course.picks; ending = ending.OutOfFuel pick })
    → ⊥
covered_out p g fuel pick c cost h low j =
    let s = opening_store p in
    let x = j.1.1 in
    let y = x.ends in
    let i = part_legal p true false s g.course.picks pick [] p.first h.effect h.legal in
    let same =
    one_run p false true s g.course.picks p.first (goes i.middle) (goes j.0) i.first j.1.0
    i.before x.is_run.runs in
    let behind : AreLegal p true false (afterwards j.1.0 s) (pick ∷ []) j.0 i.second =
    subst (λ z. AreLegal p true false (afterwards j.1.0 s) (pick ∷ []) z i.second)
    (goes_term i.middle j.0 same.0) (subst (λ
    (z : Effect). AreLegal p true false (afterwards z s) (pick ∷ []) i.middle i.second)
    same.1 i.behind) in
    let price =
    next_cost p (afterwards j.1.0 s) j.0 pick i.second y.effect
    (next_of p (afterwards j.1.0 s) j.0 pick i.second behind) y.is_next in
    let all : h.effect.cost ≡ i.first.cost + i.second.cost = ap (λ (z : Effect). z.cost) i.is_both
    in
    let first : i.first.cost ≡ j.1.0.cost = ap (λ (z : Effect). z.cost) same.1 in
    let over = y.passes in low (omega (arith, price, all, first, over))

-- an attempt that may be left unfinished is the last of all
pub ajar_out : (p : Program) (fuel : ℕ) (picks : List Pick) (g : Going)
    → TakesPick p fuel true picks g → ⊥
ajar_out p fuel picks g h = let z : true ≡ false = h.shut in absurd cc
