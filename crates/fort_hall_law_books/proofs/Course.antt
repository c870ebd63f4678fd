-- Legs with attempts are picks of a course, and tasks are in reach.
use Rattle.std.proofs.Common.{◌≡◌, ◌≢◌, Bool, true, false, List, [], ◌∷◌, ◌++◌, map, refl, ap, sym, ◌∙◌, subst, le_of_lt}
use Rattle.fort_core.specs.declared.pick.Pick.{Pick}
use Rattle.fort_core.specs.declared.program.Program.{Program}
use Rattle.fort_core.specs.declared.term.Term.{Term}
use Rattle.fort_machine.specs.Attempts.{goes}
use Rattle.fort_machine.specs.Effects.{Store, Effect, afterwards}
use Rattle.fort_machine.specs.Frames.{Frame, plug, road, passed}
use Rattle.fort_machine.specs.Proper.{Reached, by_run}
use Rattle.fort_machine.specs.Runs.{Runs}
use Rattle.fort_machine.specs.Threads.{under, round_after}
use Rattle.fort_machine.proofs.Runs.{passed_trodden, plug_append}
use Rattle.fort_frames.specs.Frames.{frames, outward, rebuilt}
use Rattle.fort_frames.proofs.Same.{same_term, not_passed, same_thread, clock_marks, passed_append}
use Rattle.fort_frames.specs.declared.place.Place.{Place}
use Rattle.fort_store_effects.specs.Levels.{seen}
use Rattle.fort_walk_law_course.specs.Course.{is_inner}
use Rattle.fort_walk_legs.proofs.Course.{picks_seen}
use Rattle.fort_walk_legs.proofs.Legs.{leg_lifts}
use Rattle.fort_hall_law_books.specs.Legs.{Legs, no_leg, by_steps, by_attempt}
use Rattle.fort_hall_law_books.specs.CourseLaws.{LegsKeep, TaskIsInReach, TaskMayGo}
use Rattle.fort_hall_law_books.proofs.Legs.{legs_lift, legs_run, round_some, tried_some}
use Rattle.fort_hall_law_books.proofs.Taken.{stepped_lifts}

pub task_is_in_reach : TaskIsInReach
task_is_in_reach p inner s fs t u picks d reached w m leg =
    by_run reached (stepped_lifts p inner fs s t picks (goes u) d w m leg).runs refl

pub legs_keep : LegsKeep
legs_keep p fuel v w picks more ws clock later fresh fresher place a b e c m leg some adds rises cost
    bounded nothing =
    let fs = outward clock (frames place.stack) in
    let marks = clock_marks clock later (frames place.stack) a b c.reached rises in
    let lifted = legs_run p (is_inner ws) (seen v) (plug fs a) (plug (round_after more fs) b)
    (map (under (road fs)) more) e
    (legs_lift p (is_inner ws) fs (seen v) a b more e
    (not_passed clock (frames place.stack) a c.reached) m leg) in
    let path : road fs ≡ place.path.0 =
    sym (place.is_path ∙ same_thread clock (frames place.stack)) in
    let next : Runs p (is_inner ws) true (seen v) (map (under place.path.0) more)
    (rebuilt clock (frames place.stack) a) (goes (rebuilt later (frames place.stack) b)) e =
    subst (λ x. Runs p (is_inner ws) true (seen v) (map (under place.path.0) more) x
    (goes (rebuilt later (frames place.stack) b)) e) (sym (same_term clock (frames place.stack) a))
    (subst (λ x. Runs p (is_inner ws) true (seen v) (map (under place.path.0) more) (plug fs a)
    (goes x) e)
    (ap (λ x. plug x b) (round_some more fs some ∙ sym marks.0)
    ∙ sym (same_term later (frames place.stack) b))
    (subst (λ x. Runs p (is_inner ws) true (seen v) (map (under x) more) (plug fs a)
    (goes (plug (round_after more fs) b)) e) path lifted)) in
    record {
      comes = picks_seen p fuel v w picks (map (under place.path.0) more) ws clock later _ _ e c.comes
          next adds.is_new (le_of_lt rises) cost bounded;
      reached = marks.1;
      nothing = nothing;
    }

-- what stands round a part after picks lets it go on
passed_round : (picks : List Pick) (fs : List Frame) (t u : Term) → passed fs t ≡ false
    → (picks ≡ [] → t ≡ u) → passed (round_after picks fs) u ≡ false
passed_round [] fs t u w e = ap (passed fs) (sym (e refl)) ∙ w
passed_round (pick ∷ picks) fs t u w e = passed_trodden fs u

nothing_first : (xs ys : List Pick) → xs ≢ [] → xs ++ ys ≡ [] → ⊥
nothing_first [] ys n q = n refl
nothing_first (x ∷ xs) ys n q = cc

-- without picks nothing has changed
same_end : (p : Program) (inner : Bool) (s : Store) (t u : Term) (picks : List Pick) (d : Effect)
    → Legs p inner s t picks u d → picks ≡ [] → t ≡ u
same_end p inner s t u picks d (no_leg a b c) e = b
same_end p inner s t u picks d (by_steps {first = first} {rest = rest} some leg more a b) e =
    absurd (nothing_first first rest some (sym a ∙ e))
same_end p inner s t u picks d
    (by_attempt {form = form} {v = v} {first = first} {rest = rest} {e = e1} k wakes more a b) e =
    absurd (nothing_first first rest (tried_some p s t form v first e1 k) (sym a ∙ e))

pub task_may_go : TaskMayGo
task_may_go p inner s first t picks d around fs one reached w m legs n k more u e leg =
    let gs = round_after picks around in
    let lifted = legs_run p inner s (plug around first) (plug gs (plug fs t))
    (map (under (road around)) picks) d
    (legs_lift p inner around s first (plug fs t) picks d w m legs) in
    let here : Reached p inner (afterwards d s) (plug (gs ++ fs) t) =
    subst (Reached p inner (afterwards d s)) (sym (plug_append gs fs t)) (by_run reached lifted refl)
    in
    let free = passed_append gs fs t
    (passed_round picks around first (plug fs t) w
    (same_end p inner s first (plug fs t) picks d legs)) n in
    let onward = leg_lifts p inner (gs ++ fs) (afterwards d s) t u more e free k leg in
    let there = by_run here onward.runs refl in
    record {
      frames = round_after more (gs ++ fs);
      reached = there;
      one = one inner (afterwards e (afterwards d s)) (plug (round_after more (gs ++ fs)) u) there;
    }
