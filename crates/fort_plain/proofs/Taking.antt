-- What picks of the root's machine come to, with those within.
use Rattle.std.proofs.Common.{◌≡◌, ◌≢◌, ℕ, ◌+◌, ◌&&◌, Bool, true, false, List, [], ◌∷◌, ◌++◌, Option, Some, refl, ap, sym, ◌∙◌, subst, arith}
use Rattle.fort_core.specs.declared.pick.Pick.{Pick}
use Rattle.fort_core.specs.declared.program.Program.{Program}
use Rattle.fort_core.specs.declared.term.Term.{Term}
use Rattle.fort_machine.specs.Effects.{Effect, both, afterwards}
use Rattle.fort_machine.specs.Ends.{Finished}
use Rattle.fort_machine.specs.Attempts.{goes}
use Rattle.fort_machine.specs.Runs.{Runs}
use Rattle.fort_machine.specs.Journals.{MakesWithinBounds, opening_store}
use Rattle.fort_store_effects.specs.Levels.{Levels, levels_of, seen, spent}
use Rattle.fort_walk_law_course.specs.Course.{Held, base_of, AllWait, Comes, is_inner}
use Rattle.fort_walk_law_course.proofs.Bounds.{both_bounded}
use Rattle.fort_walk_law_course.proofs.Store.{store_by, seen_base, inner_is}
use Rattle.fort_walk_course.specs.declared.course.Course.{Course}
use Rattle.fort_walk_course.specs.declared.course.Going.{Going}
use Rattle.fort_walk_course.specs.declared.course.Waiting.{Waiting}
use Rattle.fort_walk_course.specs.Courses.{IsGoing, around, inwards}
use Rattle.fort_walk_course.specs.Calls.{CannotThrow}
use Rattle.fort_plain.specs.Legal.{AreLegal, a_run, NoWay, NoRun}
use Rattle.fort_plain.specs.Paths.{whole}
use Rattle.fort_plain.specs.Takes.{NoPick, IsIllegal, IsCost, GoesOn, Begins, Leaves, LeavesBy, Stops, IsLast}
use Rattle.fort_plain.specs.Within.{AreSources, GoesWithin, HasSources, IsAttempt, IsHere, IsInside, IsLeft, IsSourceOf, IsWithin, NeverRuns, NotWithin, Takes, TakesLast, TakesOn, TakesPick, inmost, is_none}
use Rattle.fort_plain.specs.declared.act.Turn.{Turn}
use Rattle.fort_plain.specs.declared.take.Next.{Next}
use Rattle.fort_plain.specs.declared.take.Next.TheVariants as next
use Rattle.fort_plain.specs.declared.take.Source.{Source}
use Rattle.fort_plain.specs.declared.take.Taken.TheVariants as taken
use Rattle.fort_plain.specs.declared.take.Within.{Within}
use Rattle.fort_plain.proofs.Lasting.{all_legal, join_legal, root_run}
use Rattle.fort_plain.proofs.Sources.{next_step, next_source, last_source, outer_source}
use Rattle.fort_plain.proofs.Within.{NoLevel, spent_before, spent_now, first_level, out_way, unclosed_way, unthrown_way}

-- ---- of the root's machine

root_round : (c : Course) → c.outer ≡ [] → around c ≡ []
root_round c e = ap (λ os. inwards os []) e

no_level : (p : Program) (c : Course) (t : Term) (ajar : Bool) (fuel : ℕ) (pick : Pick)
    (more : List Pick) (turn : Turn)
    (h : Comes p c.fuel (levels_of c.layers) c.picks (around c) c.clock (goes t))
    → c.spent ≡ spent (levels_of c.layers)
    → NoPick p c t fuel turn pick → (turn.is_last ≡ false → more ≢ [])
    → NoLevel p ajar h.root (around c) h.attempts fuel (c.picks ++ pick ∷ more)
no_level p c t ajar fuel pick more turn h e barred behind =
    first_level p c.fuel fuel (levels_of c.layers) c.picks (around c) c.clock t ajar pick more h
    (subst (λ n. NoWay p ajar (is_inner (around c)) (seen (levels_of c.layers)) t n fuel
    (pick ∷ more)) e (barred.none ajar more behind))

at_root : (p : Program) (fuel : ℕ) (root : Effect) (hs : List Held) (es : List Effect) (ajar : Bool)
    (picks : List Pick) → hs ≡ [] → NoLevel p ajar root hs es fuel picks → NoRun p ajar fuel picks
at_root p fuel root [] es ajar picks e barred = barred
at_root p fuel root (h ∷ hs) es ajar picks e barred = absurd cc

first_none : (p : Program) (g : Going) (ajar : Bool) (fuel : ℕ) (pick : Pick) (turn : Turn)
    → IsGoing p g → g.course.outer ≡ [] → turn.is_last ≡ true
    → NoPick p g.course (whole g.course.clock g.state) fuel turn pick
    → NoRun p ajar fuel (g.course.picks ++ pick ∷ [])
first_none p g ajar fuel pick turn k root last barred =
    at_root p fuel k.course.comes.root (around g.course) k.course.comes.attempts ajar
    (g.course.picks ++ pick ∷ []) (root_round g.course root)
    (no_level p g.course (whole g.course.clock g.state) ajar fuel pick [] turn k.course.comes
    k.is_spent barred (λ e. let z : true ≡ false = sym last ∙ e in absurd cc))

pub illegal_first : (p : Program) (g : Going) (ajar : Bool) (pick : Pick) (turn : Turn)
    → IsGoing p g → g.course.outer ≡ [] → turn.is_last ≡ true
    → IsIllegal p g.course (whole g.course.clock g.state) turn pick
    → NeverRuns p ajar (g.course.picks ++ pick ∷ [])
illegal_first p g ajar pick turn k root last barred =
    record { never = λ fuel. first_none p g ajar fuel pick turn k root last (barred.never fuel) }

pub passes_first : (p : Program) (g : Going) (ajar : Bool) (pick : Pick) (turn : Turn) → IsGoing p g
    → g.course.outer ≡ [] → turn.is_last ≡ true
    → NoPick p g.course (whole g.course.clock g.state) g.course.fuel turn pick
    → NotWithin p ajar g.course.fuel (g.course.picks ++ pick ∷ [])
passes_first p g ajar pick turn k root last barred =
    record { none = first_none p g ajar g.course.fuel pick turn k root last barred }

pub out_first : (p : Program) (c : Course) (turn : Turn) (pick : Pick) (g : Going)
    → GoesOn p c turn pick g → c.outer ≡ []
    → TakesPick p c.fuel turn.is_end (c.picks ++ pick ∷ []) g
out_first p c turn pick g h root = record {
  going = h.going;
  fuel_is = h.fuel;
  are_picks = h.picks;
  outside = h.outer ∙ root;
  shut = h.not_end;
}

-- what begins an attempt is one, and no machine that waits for nothing ends an attempt
pub begun_attempt : (p : Program) (c : Course) (pick : Pick) (g : Going) → Begins p c pick g
    → IsAttempt pick
begun_attempt p c pick g b =
    record { path = b.waiting.place.path; within = b.within; is = b.is_pick }

not_nil : (os : List Waiting) (w : Waiting) → os ++ w ∷ [] ≡ [] → ⊥
not_nil [] w e = cc
not_nil (o ∷ os) w e = cc

pub root_stays : (p : Program) (c : Course) (turn : Turn) (pick : Pick) (g : Going)
    → LeavesBy p c turn pick g → c.outer ≡ [] → ⊥
root_stays p c turn pick g h root =
    not_nil g.course.outer h.leaves.picked.waiting (sym h.leaves.picked.outer ∙ root)

pub root_throws : (p : Program) (c : Course) (t : Term) (turn : Turn) (pick : Pick)
    → Stops p c t turn pick → c.outer ≡ [] → ⊥
root_throws p c t turn pick h root = subst (CannotThrow p) (root_round c root) h.cannot

-- a last pick is one of those that may be left unfinished
pub shut_last : (p : Program) (before : List Pick) (pick : Pick) (c : Course) (cost : Option ℕ)
    → TakesLast p false before pick c cost → ⊥
shut_last p before pick c cost h = let z : false ≡ true = h.is_open in absurd cc

-- ---- within attempts

within_none : (p : Program) (w : Within) (pick : Pick) (turn : Turn) (fuel : ℕ) (ajar : Bool)
    (goal : List Pick) → IsWithin p w → IsHere w pick turn.is_last → HasSources goal ajar w
    → NoPick p w.going.course (whole w.going.course.clock w.going.state) fuel turn pick
    → NoRun p ajar fuel goal
within_none p w pick turn fuel ajar goal k h s barred =
    let c = w.going.course in
    let come = k.going.course.comes in
    out_way p fuel c.clock come.root goal ajar (around c) come.attempts (inmost w.outer []) w.source
    come.waiting s
    (subst (λ ps. NoLevel p w.source.ajar come.root (around c) come.attempts fuel ps) (sym h.next)
    (no_level p c (whole c.clock w.going.state) w.source.ajar fuel pick h.behind turn come
    k.going.is_spent barred (λ e z. let y : false ≡ true = sym e ∙ h.last ∙ ap is_none z
    in cc)))

pub illegal_within : (p : Program) (w : Within) (pick : Pick) (turn : Turn) → IsWithin p w
    → IsHere w pick turn.is_last
    → IsIllegal p w.going.course (whole w.going.course.clock w.going.state) turn pick
    → GoesWithin p w (next.Ends taken.Illegal)
illegal_within p w pick turn k h barred =
    record {
      goes =
          λ ajar before one s. record {
            never =
                λ fuel. within_none p w pick turn fuel ajar (before ++ one ∷ []) k h s
                (barred.never fuel);
          };
    }

pub passes_within : (p : Program) (w : Within) (pick : Pick) (turn : Turn) → IsWithin p w
    → IsHere w pick turn.is_last
    → NoPick p w.going.course (whole w.going.course.clock w.going.state) w.going.course.fuel turn
    pick → GoesWithin p w (next.Ends taken.Passes)
passes_within p w pick turn k h barred =
    record {
      goes =
          λ ajar before one s. record {
            none =
                within_none p w pick turn w.going.course.fuel ajar (before ++ one ∷ []) k h s
                barred;
          };
    }

pub step_within : (p : Program) (w : Within) (turn : Turn) (pick : Pick) (last : Bool) (g : Going)
    → IsWithin p w → IsHere w pick last → GoesOn p w.going.course turn pick g
    → GoesWithin p w (next.Goes (record { going = g; source = w.source; outer = w.outer }))
step_within p w turn pick last g k h n =
    record {
      goes =
          λ ajar before one s. next_step p w pick last g ajar (before ++ one ∷ []) turn k h n s;
    }

pub open_within : (p : Program) (w : Within) (pick : Pick) (last end : Bool) (g : Going)
    (inner : Source) (outer : List Source) → IsWithin p w → IsHere w pick last
    → Begins p w.going.course pick g → IsSourceOf pick end inner → end ≡ (w.source.ajar && last)
    → outer ≡ w.outer ++ w.source ∷ []
    → GoesWithin p w (next.Goes (record { going = g; source = inner; outer = outer }))
open_within p w pick last end g inner outer k h b s e o =
    record {
      goes =
          λ ajar before one have. next_source p w pick last g ajar (before ++ one ∷ []) inner outer
          k h b (subst (λ x. IsSourceOf pick x inner) e s) o have;
    }

inmost_last : (os : List Source) (s : Source) (ss : List Source)
    → inmost (os ++ s ∷ []) ss ≡ s ∷ inmost os ss
inmost_last [] s ss = refl
inmost_last (o ∷ os) s ss = inmost_last os s (o ∷ ss)

left_on : (p : Program) (w : Within) (all : List Pick) (g : Going) (n : Next)
    → Leaves p w.going.course all g → w.source.picks.now ≡ all → w.source.ajar ≡ false
    → IsLeft g w.outer n → GoesWithin p w n
left_on p w all g (next.Goes v) k e shut l = record {
  goes = λ ajar before one s.
      let o : inmost w.outer [] ≡ v.source ∷ inmost v.outer [] =
      ap (λ os. inmost os []) l.1 ∙ inmost_last v.outer v.source [] in
      let i = outer_source p w.going.course g ajar (before ++ one ∷ []) all w.source v.source
      v.outer k
      (subst (λ ss. AreSources (before ++ one ∷ []) ajar (around w.going.course) ss w.source) o
      s) e in
      subst (λ x. IsInside p w.going.course.fuel ajar (before ++ one ∷ [])
      (record { going = x; source = v.source; outer = v.outer })) (sym l.0) i;
}
left_on p w all g (next.Ends t) k e shut l = record {
  goes = λ ajar before one s.
      let i = last_source p w.going.course g ajar (before ++ one ∷ []) all w.source k
      (subst (λ os. AreSources (before ++ one ∷ []) ajar (around w.going.course) (inmost os [])
      w.source) l.1 s) e shut in
      subst (Takes p w.going.course.fuel ajar before one) (sym l.0) i;
}

none_is : (ps : List Pick) → is_none ps ≡ true → ps ≡ []
none_is [] e = refl
none_is (p ∷ ps) e = absurd cc

all_here : (w : Within) (pick : Pick) (last : Bool) → IsHere w pick last → last ≡ true
    → w.source.picks.now ≡ w.going.course.picks ++ pick ∷ []
all_here w pick last h e =
    h.next ∙ ap (λ ps. w.going.course.picks ++ pick ∷ ps) (none_is h.behind (sym h.last ∙ e))

shut_here : (w : Within) (turn : Turn) → turn.is_end ≡ (w.source.ajar && turn.is_last)
    → turn.is_last ≡ true → turn.is_end ≡ false → w.source.ajar ≡ false
shut_here w turn e l n = go w.source.ajar turn.is_last (sym e ∙ n) l
  where
    go : (a b : Bool) → (a && b) ≡ false → b ≡ true → a ≡ false
    go true true x y = absurd cc
    go true false x y = absurd cc
    go false b x y = refl

pub leave_within : (p : Program) (w : Within) (pick : Pick) (turn : Turn) (g : Going) (n : Next)
    → IsHere w pick turn.is_last → turn.is_end ≡ (w.source.ajar && turn.is_last)
    → LeavesBy p w.going.course turn pick g → IsLeft g w.outer n
    → GoesWithin p w n
leave_within p w pick turn g n h e k l =
    left_on p w (w.going.course.picks ++ pick ∷ []) g n k.leaves
    (all_here w pick turn.is_last h k.last) (shut_here w turn e k.last k.not_end) l

pub close_within : (p : Program) (w : Within) (g : Going) (n : Next)
    → Leaves p w.going.course w.going.course.picks g → w.source.picks.now ≡ w.going.course.picks
    → w.source.ajar ≡ false → IsLeft g w.outer n → GoesWithin p w n
close_within p w g n k e shut l = left_on p w w.going.course.picks g n k e shut l

some_round : (p : Program) (c : Course) (hs : List Held) → around c ≡ hs → CannotThrow p hs
    → (h : Held) × (gs : List Held) × (around c ≡ h ∷ gs) × CannotThrow p (h ∷ gs)
some_round p c [] e k = absurd k
some_round p c (h ∷ hs) e k = (h, hs, e, k)

pub unclosed_within : (p : Program) (w : Within) (pick : Pick) (turn : Turn) → IsWithin p w
    → IsHere w pick turn.is_last → turn.is_end ≡ (w.source.ajar && turn.is_last)
    → Stops p w.going.course (whole w.going.course.clock w.going.state) turn pick
    → GoesWithin p w (next.Ends taken.Illegal)
unclosed_within p w pick turn k h e st =
    record {
      goes =
          λ ajar before one s. record {
            never =
                λ fuel. go fuel ajar (before ++ one ∷ []) s
                (some_round p w.going.course (around w.going.course) refl st.cannot);
          };
    }
  where
    go : (fuel : ℕ) (ajar : Bool) (goal : List Pick) → HasSources goal ajar w
        → (h : Held) × (gs : List Held) × (around w.going.course ≡ h ∷ gs) × CannotThrow p (h ∷ gs)
        → NoRun p ajar fuel goal
    go fuel ajar goal s r =
        let c = w.going.course in
        let come =
        subst (λ hs. Comes p c.fuel (levels_of c.layers) c.picks hs c.clock
        (goes (whole c.clock w.going.state))) r.2 k.going.course.comes in
        unthrown_way p c.fuel fuel (levels_of c.layers) c.picks pick r.0 r.1 c.clock
        (whole c.clock w.going.state) _ goal ajar (inmost w.outer []) w.source come st.runs
        (subst (λ hs. AreSources goal ajar hs (inmost w.outer []) w.source) r.2 s)
        (shut_here w turn e st.last st.not_end) (all_here w pick turn.is_last h st.last)
        r.3.0 r.3.1

held_round : (p : Program) (goal : List Pick) (ajar : Bool) (hs : List Held) (ss : List Source)
    (within : Source) → AreSources goal ajar hs ss within
    → (h : Held) × (gs : List Held) × (hs ≡ h ∷ gs)
held_round p goal ajar [] ss within s = absurd s
held_round p goal ajar (h ∷ hs) ss within s = (h, hs, refl)

pub open_end : (p : Program) (w : Within) → IsWithin p w → w.source.picks.now ≡ w.going.course.picks
    → w.source.ajar ≡ false → (Finished (whole w.going.course.clock w.going.state) → ⊥)
    → GoesWithin p w (next.Ends taken.Illegal)
open_end p w k e shut barred =
    record {
      goes =
          λ ajar before one s. record {
            never =
                λ fuel. go fuel ajar (before ++ one ∷ []) s
                (held_round p (before ++ one ∷ []) ajar (around w.going.course) (inmost w.outer [])
                w.source s);
          };
    }
  where
    go : (fuel : ℕ) (ajar : Bool) (goal : List Pick) → HasSources goal ajar w
        → (h : Held) × (gs : List Held) × (around w.going.course ≡ h ∷ gs) → NoRun p ajar fuel goal
    go fuel ajar goal s r =
        let c = w.going.course in
        let come =
        subst (λ hs. Comes p c.fuel (levels_of c.layers) c.picks hs c.clock
        (goes (whole c.clock w.going.state))) r.2 k.going.course.comes in
        unclosed_way p c.fuel fuel (levels_of c.layers) c.picks r.0 r.1 c.clock
        (whole c.clock w.going.state) goal ajar (inmost w.outer []) w.source come
        (subst (λ hs. AreSources goal ajar hs (inmost w.outer []) w.source) r.2 s) shut e barred

-- ---- the last of all

pub last_first : (p : Program) (g : Going) (pick : Pick) (turn : Turn) (d : Course)
    (cost : Option ℕ) (ajar : Bool) → IsGoing p g → g.course.outer ≡ [] → turn.is_end ≡ ajar
    → IsLast p g.course (whole g.course.clock g.state) turn pick d cost
    → TakesLast p ajar g.course.picks pick d cost
last_first p g pick turn d cost ajar k root e l =
    let c = g.course in
    let t = whole c.clock g.state in
    let round = root_round c root in
    let come =
    subst (λ hs. Comes p c.fuel (levels_of c.layers) c.picks hs c.clock (goes t)) round
    k.course.comes in
    let store : seen (levels_of c.layers) ≡ store_by p come.root [] come.attempts =
    ap seen come.levels ∙ seen_base p c.clock come.root [] come.attempts come.waiting in
    let sum : spent (levels_of c.layers) ≡ 0 + come.root.cost =
    ap spent come.levels ∙ spent_now p c.clock come.root [] come.attempts come.waiting in
    let paid : spent (levels_of c.layers) ≡ come.root.cost = omega (arith, sum) in
    let inner : AreLegal p true false (seen (levels_of c.layers)) (pick ∷ []) t l.effect =
    subst (λ hs. AreLegal p true (is_inner hs) (seen (levels_of c.layers)) (pick ∷ []) t
    l.effect) round l.legal in
    let known = k.is_spent in
    let price : c.spent + l.effect.cost ≡ come.root.cost + l.effect.cost =
    omega (arith, known, paid) in
    record {
      is_open = sym e ∙ l.all;
      ends = record {
        effect = both come.root l.effect;
        legal = join_legal p true false (opening_store p) c.picks (pick ∷ []) p.first t come.root
            l.effect come.runs
            (subst (λ s. AreLegal p true false s (pick ∷ []) t l.effect) store inner);
        bounded = both_bounded come.root l.effect come.bounded l.bounded;
        is_cost = subst (λ n. IsCost n cost) price l.is_cost;
        root = come.root;
        term = t;
        is_root = come.runs;
        output = ap (λ (x : Course). (levels_of x.layers).output) l.same ∙ ap (λ
            (x : Levels). x.output) come.levels;
        root_cost =
            ap (λ (x : Course). (levels_of x.layers).cost) l.same ∙ ap (λ
            (x : Levels). x.cost) come.levels;
      };
    }

both_true : (a b : Bool) → (a && b) ≡ true → (a ≡ true) × (b ≡ true)
both_true true b e = (refl, e)
both_true false b e = absurd cc

open_all : (goal : List Pick) (ajar : Bool) (hs : List Held) (ss : List Source) (within : Source)
    → AreSources goal ajar hs ss within → within.ajar ≡ true → ajar ≡ true
open_all goal ajar [] ss within s e = absurd s
open_all goal ajar (h ∷ hs) [] within s e = sym s.is_open ∙ e
open_all goal ajar (h ∷ hs) (s2 ∷ ss) within s e =
    let f = s.0
    in open_all goal ajar hs ss s2 s.1 (both_true s2.ajar (is_none f.behind) (sym f.is_open ∙ e)).0

-- the whole list of the innermost machine is legal
ends_level : (p : Program) (w : Within) (ajar : Bool) (before : List Pick) (one : Pick) (e : Effect)
    (all_cost : ℕ) (cost : Option ℕ) (d : Course) (k : IsWithin p w)
    → HasSources (before ++ one ∷ []) ajar w → IsCost all_cost cost
    → w.source.ajar ≡ true → d ≡ w.going.course
    → (let c = k.going.course.comes in let b = base_of p c.root (around w.going.course) c.attempts
    in AreLegal p true b.inner b.store w.source.picks.now b.first e) → MakesWithinBounds e
    → all_cost ≡ spent_before k.going.course.comes.root (around w.going.course)
    k.going.course.comes.attempts + e.cost → TakesLast p ajar before one d cost
ends_level p w ajar before one e all_cost cost d k s sum o same legal bounded price =
    let come = k.going.course.comes in
    let c = w.going.course in
    let flag = open_all (before ++ one ∷ []) ajar (around c) (inmost w.outer []) w.source s o in
    let all =
    all_legal p c.clock come.root (before ++ one ∷ []) (around c) come.attempts
    (inmost w.outer []) w.source e all_cost come.waiting come.bounded
    (subst (λ x. AreSources (before ++ one ∷ []) x (around c) (inmost w.outer []) w.source) flag
    s) o legal bounded price in
    let first =
    root_run p c.clock come.root before one ajar (around c) come.attempts (inmost w.outer [])
    w.source come.waiting s in
    record {
      is_open = flag;
      ends = record {
        effect = all.effect;
        legal = all.legal;
        bounded = all.bounded;
        is_cost = subst (λ n. IsCost n cost) all.is_cost sum;
        root = come.root;
        term = first.0;
        is_root = first.1;
        output = ap (λ (x : Course). (levels_of x.layers).output) same ∙ ap (λ
            (x : Levels). x.output) come.levels;
        root_cost =
            ap (λ (x : Course). (levels_of x.layers).cost) same ∙ ap (λ
            (x : Levels). x.cost) come.levels;
      };
    }

base_bounded : (p : Program) (now : ℕ) (root : Effect) (hs : List Held) (es : List Effect)
    → AllWait p now root hs es → MakesWithinBounds root
    → MakesWithinBounds (base_of p root hs es).done
base_bounded p now root [] es k m = m
base_bounded p now root (h ∷ hs) [] k m = m
base_bounded p now root (h ∷ hs) (e ∷ es) k m = k.1

pub last_within : (p : Program) (w : Within) (pick : Pick) (turn : Turn) (d : Course)
    (cost : Option ℕ) → IsWithin p w → IsHere w pick turn.is_last
    → turn.is_end ≡ (w.source.ajar && turn.is_last)
    → IsLast p w.going.course (whole w.going.course.clock w.going.state) turn pick d cost
    → GoesWithin p w (next.Ends (taken.Last d cost))
last_within p w pick turn d cost k h e l = record {
  goes = λ ajar before one s.
      let come = k.going.course.comes in
      let c = w.going.course in
      let t = whole c.clock w.going.state in
      let b = base_of p come.root (around c) come.attempts in
      let store : seen (levels_of c.layers) ≡ store_by p come.root (around c) come.attempts =
      ap seen come.levels ∙ seen_base p c.clock come.root (around c) come.attempts come.waiting
      in
      let machine : b.inner ≡ is_inner (around c) =
      inner_is p c.clock come.root (around c) come.attempts come.waiting in
      let paid : spent (levels_of c.layers)
      ≡ spent_before come.root (around c) come.attempts + b.done.cost =
      ap spent come.levels ∙ spent_now p c.clock come.root (around c) come.attempts come.waiting
      in
      let inner : AreLegal p true b.inner (afterwards b.done b.store) (pick ∷ []) t l.effect =
      subst (λ i. AreLegal p true i (afterwards b.done b.store) (pick ∷ []) t l.effect)
      (sym machine)
      (subst (λ x. AreLegal p true (is_inner (around c)) x (pick ∷ []) t l.effect) store
      l.legal) in
      let legal : AreLegal p true b.inner b.store (c.picks ++ pick ∷ []) b.first
      (both b.done l.effect) =
      join_legal p true b.inner b.store c.picks (pick ∷ []) b.first t b.done l.effect come.runs
      inner in
      let known = k.going.is_spent in
      ends_level p w ajar before one (both b.done l.effect) (c.spent + l.effect.cost) cost d k s
      l.is_cost
      (both_true w.source.ajar turn.is_last (sym e ∙ l.all)).0 l.same
      (subst (λ ps. AreLegal p true b.inner b.store ps b.first (both b.done l.effect))
      (sym (all_here w pick turn.is_last h l.last)) legal)
      (both_bounded b.done l.effect
      (base_bounded p c.clock come.root (around c) come.attempts come.waiting come.bounded)
      l.bounded) (omega (arith, known, paid));
}

pub last_end : (p : Program) (w : Within) → IsWithin p w → w.source.picks.now ≡ w.going.course.picks
    → w.source.ajar ≡ true
    → GoesWithin p w (next.Ends (taken.Last w.going.course (Some w.going.course.spent)))
last_end p w k e o = record {
  goes = λ ajar before one s.
      let come = k.going.course.comes in
      let c = w.going.course in
      let b = base_of p come.root (around c) come.attempts in
      let paid : spent (levels_of c.layers)
      ≡ spent_before come.root (around c) come.attempts + b.done.cost =
      ap spent come.levels ∙ spent_now p c.clock come.root (around c) come.attempts come.waiting
      in
      let known = k.going.is_spent in
      ends_level p w ajar before one b.done c.spent (Some c.spent) c k s refl o refl
      (a_run _ (subst
      (λ ps. Runs p b.inner true b.store ps b.first (goes (whole c.clock w.going.state))
      b.done) (sym e) come.runs))
      (base_bounded p c.clock come.root (around c) come.attempts come.waiting come.bounded)
      (omega (arith, known, paid));
}

pub end_is_last : (ajar last end : Bool) → end ≡ (ajar && last) → end ≡ true → last ≡ true
end_is_last ajar last end e q = (both_true ajar last (sym e ∙ q)).1

-- after one pick more, for the picks that the run is in
pub one_more : (p : Program) (w : Within) (n : Next) (fuel : ℕ) (ajar : Bool) (before : List Pick)
    (pick : Pick) → GoesWithin p w n → IsInside p fuel ajar (before ++ pick ∷ []) w
    → TakesOn p fuel ajar before pick n
one_more p w n fuel ajar before pick h i =
    subst (λ f. TakesOn p f ajar before pick n) i.fuel_is (h.goes ajar before pick i.sources)
