-- Where an attempt's machine has no way on, neither has the one round it, up to the root's.
use Rattle.std.proofs.Common.{◌≡◌, ℕ, ◌+◌, ◌&&◌, Bool, true, false, List, [], ◌∷◌, ◌++◌, None, refl, ap, sym, ◌∙◌, subst, arith}
use Rattle.fort_core.specs.declared.form.Mode.{Mode}
use Rattle.fort_core.specs.declared.form.Mode.TheVariants as mode
use Rattle.fort_core.specs.declared.path.Path.{Path}
use Rattle.fort_core.specs.declared.pick.Pick.{Pick, Attempt}
use Rattle.fort_core.specs.declared.program.Program.{Program}
use Rattle.fort_core.specs.declared.term.Term.{Term}
use Rattle.fort_machine.specs.Effects.{Effect, both, afterwards}
use Rattle.fort_machine.specs.Ends.{Finished}
use Rattle.fort_machine.specs.Ends as ends
use Rattle.fort_machine.specs.Acts.{single}
use Rattle.fort_machine.specs.Attempts.{Ended, goes, aborts, Closes, completed, failed, gave_up, fell_asleep}
use Rattle.fort_machine.specs.Runs.{Runs, path_to}
use Rattle.fort_machine.specs.Journals.{MakesWithinBounds, opening_store}
use Rattle.fort_machine.proofs.Runs.{append}
use Rattle.fort_machine.proofs.Single.{one_run}
use Rattle.fort_frames.specs.Frames.{frames, outward, rebuilt}
use Rattle.fort_frames.specs.declared.place.Place.{Place}
use Rattle.fort_frames.proofs.Same.{same_term, same_thread}
use Rattle.fort_store_effects.specs.Levels.{Levels, seen, spent, attempts_cost}
use Rattle.fort_walk_law_course.specs.Course.{Held, Base, root_base, base_of, Waits, AllWait, Comes, is_inner}
use Rattle.fort_walk_law_course.proofs.Store.{levels_by, store_by, seen_base, inner_is}
use Rattle.fort_plain.specs.Legal.{AreLegal, NoWay, NoRun}
use Rattle.fort_plain.specs.Within.{AreSources, is_none}
use Rattle.fort_plain.specs.declared.take.Source.{Source}
use Rattle.fort_plain.proofs.Bounded.{second_bounded}
use Rattle.fort_plain.proofs.Legal.{part_legal, InnerLegal, inner_legal}

pub path_is : (clock : ℕ) (place : Place)
    → place.path ≡ path_to (outward clock (frames place.stack))
path_is clock place = λ i. record { 0 = (place.is_path ∙ same_thread clock (frames place.stack)) i }

pub and_true : (b : Bool) → (b && true) ≡ b
and_true true = refl
and_true false = refl

goes_term : (t u : Term) → goes t ≡ goes u → t ≡ u
goes_term t u e = cc

-- what was spent before a machine began
abbrev pub spent_before : Effect → List Held → List Effect → ℕ
spent_before root [] es = 0
spent_before root (h ∷ hs) [] = 0
spent_before root (h ∷ hs) (e ∷ es) = root.cost + 1 + attempts_cost es

pub spent_step : (p : Program) (now : ℕ) (root : Effect) (hs : List Held) (es : List Effect)
    → AllWait p now root hs es
    → root.cost + 1 + attempts_cost es
    ≡ spent_before root hs es + (base_of p root hs es).done.cost + 1
spent_step p now root [] [] k = omega arith
spent_step p now root [] (e ∷ es) k = absurd k
spent_step p now root (h ∷ hs) [] k = absurd k
spent_step p now root (h ∷ hs) (e ∷ es) k = omega arith

pub spent_now : (p : Program) (now : ℕ) (root : Effect) (hs : List Held) (es : List Effect)
    → AllWait p now root hs es
    → spent (levels_by p root es) ≡ spent_before root hs es + (base_of p root hs es).done.cost
spent_now p now root [] [] k = omega arith
spent_now p now root [] (e ∷ es) k = absurd k
spent_now p now root (h ∷ hs) [] k = absurd k
spent_now p now root (h ∷ hs) (e ∷ es) k = omega arith

-- a machine's whole list has no way
abbrev pub NoLevel : Program → Bool → Effect → List Held → List Effect → ℕ → List Pick → Type 0
NoLevel p ajar root hs es fuel picks =
    NoWay p ajar (base_of p root hs es).inner (base_of p root hs es).store
    (base_of p root hs es).first (spent_before root hs es) fuel picks

abbrev whole_list : Held → List Pick → List Pick → List Pick
whole_list h within behind = h.picks ++ Attempt h.place.path within ∷ behind

-- the attempt of a machine's legal picks
record AtAttempt (p : Program) (ajar : Bool) (b : Base) (h : Held) (within behind : List Pick)
    (d : Effect) : Type 0 where
  second : Effect
  inner : InnerLegal p (ajar
      && is_none behind) (afterwards b.done b.store) within h.mode h.body second
  is_both : d ≡ both b.done second

at_attempt : (p : Program) (ajar : Bool) (b : Base) (now : ℕ) (h : Held) (within behind : List Pick)
    (d : Effect) → Waits p b now h
    → AreLegal p ajar b.inner b.store (whole_list h within behind) b.first d
    → AtAttempt p ajar b h within behind d
at_attempt p ajar b now h within behind d w legal =
    let i = part_legal p ajar b.inner b.store h.picks (Attempt h.place.path within) behind b.first d
    legal in
    let here = rebuilt h.clock (frames h.place.stack) w.form in
    let same =
    one_run p b.inner true b.store h.picks b.first (goes i.middle) (goes here) i.first b.done
    i.before w.stage.runs in
    let term = goes_term i.middle here same.0 in
    let fs = outward h.clock (frames h.place.stack) in
    let list : Attempt h.place.path within ∷ behind ≡ Attempt (path_to fs) within ∷ behind =
    ap (λ (x : Path). Attempt x within ∷ behind) (path_is h.clock h.place) in
    let behind2 : AreLegal p ajar b.inner (afterwards b.done b.store)
    (Attempt (path_to fs) within ∷ behind) i.middle i.second =
    subst (λ x. AreLegal p ajar b.inner (afterwards b.done b.store) x i.middle i.second) list
    (subst (λ
    (x : Effect). AreLegal p ajar b.inner (afterwards x b.store)
    (Attempt h.place.path within ∷ behind) i.middle i.second) same.1 i.behind) in
    record {
      second = i.second;
      inner = inner_legal p ajar b.inner (afterwards b.done b.store) fs within behind w.form h.mode
          h.body i.middle i.second (term
          ∙ same_term h.clock (frames h.place.stack) w.form) w.is_form behind2;
      is_both = i.is_both ∙ ap (λ x. both x i.second) same.1;
    }

one_level : (p : Program) (ajar : Bool) (b : Base) (now : ℕ) (h : Held) (outer inner fuel : ℕ)
    (within behind : List Pick) → Waits p b now h → inner ≡ outer + b.done.cost + 1
    → NoWay p (ajar && is_none behind) true (afterwards b.done b.store) h.body inner fuel within
    → NoWay p ajar b.inner b.store b.first outer fuel (whole_list h within behind)
one_level p ajar b now h outer inner fuel within behind w e barred d legal bounded price =
    let a = at_attempt p ajar b now h within behind d w legal in
    let i = a.inner in
    let all : d.cost ≡ b.done.cost + a.second.cost = ap (λ (x : Effect). x.cost) a.is_both in
    let costs = i.costs in
    barred i.inner i.legal
    (i.bounded (second_bounded b.done a.second (subst MakesWithinBounds a.is_both bounded)))
    (omega (arith, e, all, costs, price))

-- so none of the root's has one
pub out_way : (p : Program) (fuel now : ℕ) (root : Effect) (goal : List Pick) (ajar : Bool)
    (hs : List Held) (es : List Effect) (ss : List Source) (within : Source)
    → AllWait p now root hs es → AreSources goal ajar hs ss within
    → NoLevel p within.ajar root hs es fuel within.picks.now → NoRun p ajar fuel goal
out_way p fuel now root goal ajar [] es ss within k s barred = absurd s
out_way p fuel now root goal ajar (h ∷ hs) [] ss within k s barred = absurd k
out_way p fuel now root goal ajar (h ∷ []) (e ∷ []) [] within k s barred =
    subst (λ x. NoRun p ajar fuel x) (sym s.are_picks)
    (one_level p ajar (root_base p root) now h 0 (root.cost + 1 + 0) fuel within.picks.now [] k.0
    (omega arith)
    (subst (λ x. NoWay p x true (afterwards root (opening_store p)) h.body (root.cost + 1 + 0) fuel
    within.picks.now) (s.is_open ∙ sym (and_true ajar)) barred))
out_way p fuel now root goal ajar (h ∷ []) (e ∷ e2 ∷ es) [] within k s barred = absurd k.2
out_way p fuel now root goal ajar (h ∷ h2 ∷ hs) (e ∷ es) [] within k s barred =
    let z = s.is_root in absurd cc
out_way p fuel now root goal ajar (h ∷ hs) (e ∷ es) (s2 ∷ ss) within k s barred =
    let q = s.0 in
    let b = base_of p root hs es in
    out_way p fuel h.clock root goal ajar hs es ss s2 k.2 s.1
    (subst (λ x. NoWay p s2.ajar b.inner b.store b.first (spent_before root hs es) fuel x)
    (sym q.are_picks)
    (one_level p s2.ajar b now h (spent_before root hs es) (root.cost + 1 + attempts_cost es) fuel
    within.picks.now q.behind k.0 (spent_step p h.clock root hs es k.2)
    (subst (λ x. NoWay p x true (afterwards b.done b.store) h.body
    (root.cost + 1 + attempts_cost es) fuel within.picks.now) q.is_open barred)))

-- the machine round an attempt that has no end
pub peel_way : (p : Program) (fuel now : ℕ) (root : Effect) (goal : List Pick) (ajar : Bool)
    (h : Held) (hs : List Held) (e : Effect) (es : List Effect) (ss : List Source) (within : Source)
    → AllWait p now root (h ∷ hs) (e ∷ es)
    → AreSources goal ajar (h ∷ hs) ss within
    → ((o : Bool) (behind : List Pick) → within.ajar ≡ (o && is_none behind)
    → NoLevel p o root hs es fuel (whole_list h within.picks.now behind))
    → NoRun p ajar fuel goal
peel_way p fuel now root goal ajar h [] e [] [] within k s f =
    subst (λ x. NoRun p ajar fuel x) (sym s.are_picks) (f ajar [] (s.is_open ∙ sym (and_true ajar)))
peel_way p fuel now root goal ajar h [] e (e2 ∷ es) [] within k s f = absurd k.2
peel_way p fuel now root goal ajar h (h2 ∷ hs) e es [] within k s f = let z = s.is_root in absurd cc
peel_way p fuel now root goal ajar h hs e es (s2 ∷ ss) within k s f =
    let q = s.0
    in out_way p fuel h.clock root goal ajar hs es ss s2 k.2 s.1
    (subst (λ x. NoLevel p s2.ajar root hs es fuel x) (sym q.are_picks)
    (f s2.ajar q.behind q.is_open))

-- a machine that has no way on from where it is
pub first_level : (p : Program) (full fuel : ℕ) (v : Levels) (picks : List Pick) (ws : List Held)
    (now : ℕ) (t : Term) (ajar : Bool) (pick : Pick) (more : List Pick)
    (c : Comes p full v picks ws now (goes t))
    → NoWay p ajar (is_inner ws) (seen v) t (spent v) fuel (pick ∷ more)
    → NoLevel p ajar c.root ws c.attempts fuel (picks ++ pick ∷ more)
first_level p full fuel v picks ws now t ajar pick more c barred d legal bounded price =
    let b = base_of p c.root ws c.attempts in
    let i = part_legal p ajar b.inner b.store picks pick more b.first d legal in
    let same =
    one_run p b.inner true b.store picks b.first (goes i.middle) (goes t) i.first b.done
    i.before c.runs in
    let store : seen v ≡ store_by p c.root ws c.attempts =
    ap seen c.levels ∙ seen_base p now c.root ws c.attempts c.waiting in
    let machine : b.inner ≡ is_inner ws = inner_is p now c.root ws c.attempts c.waiting in
    let paid : spent v ≡ spent_before c.root ws c.attempts + b.done.cost =
    ap spent c.levels ∙ spent_now p now c.root ws c.attempts c.waiting in
    let one : AreLegal p ajar b.inner (afterwards b.done b.store) (pick ∷ more) i.middle i.second =
    subst (λ (x : Effect). AreLegal p ajar b.inner (afterwards x b.store) (pick ∷ more) i.middle
    i.second) same.1 i.behind in
    let two : AreLegal p ajar b.inner (seen v) (pick ∷ more) t i.second =
    subst (λ x. AreLegal p ajar b.inner x (pick ∷ more) t i.second) (sym store)
    (subst (λ x. AreLegal p ajar b.inner (afterwards b.done b.store) (pick ∷ more) x i.second)
    (goes_term i.middle t same.0) one) in
    let three : AreLegal p ajar (is_inner ws) (seen v) (pick ∷ more) t i.second =
    subst (λ x. AreLegal p ajar x (seen v) (pick ∷ more) t i.second) machine two in
    let whole : d.cost ≡ b.done.cost + i.second.cost =
    ap (λ (x : Effect). x.cost) i.is_both ∙ ap (λ (x : Effect). x.cost + i.second.cost) same.1
    in
    barred i.second three
    (second_bounded i.first i.second (subst MakesWithinBounds i.is_both bounded))
    (omega (arith, paid, whole, price))

-- an attempt whose machine isn't at an end doesn't close
no_end : (p : Program) (m : Mode) (body t : Term) (r : Ended) (d : Effect) (b : Term) (e : Effect)
    → (Finished t → ⊥) → r ≡ goes t → Closes p m body r d b e → ⊥
no_end p m body t r d b e barred q (completed v x y z) =
    barred (ends.Finished.value v (goes_term t _ (sym q ∙ x)))
no_end p m body t r d b e barred q (failed v x y z) =
    barred (ends.Finished.throw v (goes_term t _ (sym q ∙ x)))
no_end p m body t r d b e barred q (gave_up v x y z w u) = let f = sym q ∙ x in absurd cc
no_end p m body t r d b e barred q (fell_asleep ms x y z o w u) = let f = sym q ∙ x in absurd cc

-- nor one that aborted, of a `tryatomic`, where the program has nothing to throw
no_throw : (p : Program) (m : Mode) (body : Term) (r : Ended) (d : Effect) (b : Term) (e : Effect)
    → m ≡ mode.Try → single p p.built_in.try_atomic_failure ≡ None → r ≡ aborts
    → Closes p m body r d b e → ⊥
no_throw p m body r d b e try none q (completed v x y z) = let f = sym q ∙ x in absurd cc
no_throw p m body r d b e try none q (failed v x y z) = let f = sym q ∙ x in absurd cc
no_throw p m body r d b e try none q (gave_up v x y z w u) = let f = sym none ∙ z in absurd cc
no_throw p m body r d b e try none q (fell_asleep ms x y z o w u) = let f = sym try ∙ y in absurd cc

closed_never : (p : Program) (o : Bool) (b : Base) (now : ℕ) (h : Held) (outer fuel : ℕ)
    (within behind : List Pick) (r : Ended) (d : Effect) → Waits p b now h
    → false ≡ (o && is_none behind) → Runs p true true (afterwards b.done b.store) within h.body r d
    → ((e : Effect) (next : Term) (whole : Effect) → Closes p h.mode h.body r e next whole → ⊥)
    → NoWay p o b.inner b.store b.first outer fuel (whole_list h within behind)
closed_never p o b now h outer fuel within behind r d w q runs never e legal bounded price =
    let a = at_attempt p o b now h within behind e w legal in
    let i = a.inner.closes (sym q) in
    let same =
    one_run p true true (afterwards b.done b.store) within h.body i.ended r i.inner d i.runs
    runs in
    never i.inner i.next i.outer
    (subst (λ x. Closes p h.mode h.body x i.inner i.next i.outer) same.0 i.closes)

-- the innermost machine's term isn't finished, and nothing is left of its picks
pub unclosed_way : (p : Program) (full fuel : ℕ) (v : Levels) (picks : List Pick) (h : Held)
    (hs : List Held) (now : ℕ) (t : Term) (goal : List Pick) (ajar : Bool) (ss : List Source)
    (within : Source) → Comes p full v picks (h ∷ hs) now (goes t)
    → AreSources goal ajar (h ∷ hs) ss within → within.ajar ≡ false → within.picks.now ≡ picks
    → (Finished t → ⊥) → NoRun p ajar fuel goal
unclosed_way p full fuel v picks h hs now t goal ajar ss within c s shut all barred =
    go c.attempts c.waiting c.runs
  where
    go : (es : List Effect) → AllWait p now c.root (h ∷ hs) es
        → (let b = base_of p c.root (h ∷ hs) es
        in Runs p b.inner true b.store picks b.first (goes t) b.done) → NoRun p ajar fuel goal
    go [] k r = absurd k
    go (e ∷ es) k r =
        peel_way p fuel now c.root goal ajar h hs e es ss within k s (λ o behind q.
        closed_never p o (base_of p c.root hs es) now h (spent_before c.root hs es) fuel
        within.picks.now behind (goes t) e k.0 (sym shut ∙ q)
        (subst (λ x. Runs p true true
        (afterwards (base_of p c.root hs es).done (base_of p c.root hs es).store) x h.body
        (goes t) e) (sym all) r)
        (λ d next whole. no_end p h.mode h.body t (goes t) d next whole barred refl))

-- it was aborted, and can't be closed
pub unthrown_way : (p : Program) (full fuel : ℕ) (v : Levels) (picks : List Pick) (pick : Pick)
    (h : Held) (hs : List Held) (now : ℕ) (t : Term) (d : Effect) (goal : List Pick) (ajar : Bool)
    (ss : List Source) (within : Source)
    → Comes p full v picks (h ∷ hs) now (goes t) → Runs p true true (seen v) (pick ∷ []) t aborts d
    → AreSources goal ajar (h ∷ hs) ss within → within.ajar ≡ false
    → within.picks.now ≡ picks ++ pick ∷ [] → h.mode ≡ mode.Try
    → single p p.built_in.try_atomic_failure ≡ None → NoRun p ajar fuel goal
unthrown_way p full fuel v picks pick h hs now t d goal ajar ss within c it s shut all try none =
    go c.attempts c.waiting c.runs
    (subst (λ x. Runs p true true x (pick ∷ []) t aborts d) (ap seen c.levels
    ∙ seen_base p now c.root (h ∷ hs) c.attempts c.waiting) it)
  where
    go : (es : List Effect) → AllWait p now c.root (h ∷ hs) es
        → (let b = base_of p c.root (h ∷ hs) es
        in Runs p b.inner true b.store picks b.first (goes t) b.done)
        → Runs p true true (store_by p c.root (h ∷ hs) es) (pick ∷ []) t aborts d
        → NoRun p ajar fuel goal
    go [] k r x = absurd k
    go (e ∷ es) k r x =
        let b = base_of p c.root hs es in
        let whole : Runs p true true (afterwards b.done b.store) (picks ++ pick ∷ []) h.body aborts
        (both e d) =
        append (afterwards b.done b.store) picks h.body (goes t) e r t refl (pick ∷ []) aborts d
        x in
        peel_way p fuel now c.root goal ajar h hs e es ss within k s (λ o behind q.
        closed_never p o b now h (spent_before c.root hs es) fuel within.picks.now behind aborts
        (both e d) k.0 (sym shut
        ∙ q) (subst
        (λ y. Runs p true true (afterwards b.done b.store) y h.body aborts (both e d))
        (sym all) whole)
        (λ f next end. no_throw p h.mode h.body aborts f next end try none refl))
