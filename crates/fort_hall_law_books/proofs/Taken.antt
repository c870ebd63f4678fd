-- Legs of tasks, by themselves.
use Rattle.std.proofs.Common.{◌≡◌, ℕ, Bool, true, false, List, [], ◌∷◌, ◌++◌, map, refl, ap, sym, ◌∙◌}
use Rattle.fort_core.specs.declared.path.Path.{Path}
use Rattle.fort_core.specs.declared.pick.Pick.{Pick, Attempt}
use Rattle.fort_core.specs.declared.program.Program.{Program}
use Rattle.fort_core.specs.declared.term.Term.{Term}
use Rattle.fort_frames.proofs.Same.{passed_append}
use Rattle.fort_machine.specs.Attempts.{goes}
use Rattle.fort_machine.specs.Effects.{Store, Effect}
use Rattle.fort_machine.specs.Frames.{Frame, plug, road, passed, trodden}
use Rattle.fort_machine.specs.Runs.{attempt, none, path_to}
use Rattle.fort_machine.specs.Threads.{under}
use Rattle.fort_machine.proofs.Legs.{one_store, one_store_bare}
use Rattle.fort_machine.proofs.Places.{ready_open}
use Rattle.fort_machine.proofs.Ready.{form_ready}
use Rattle.fort_machine.proofs.Runs.{lift, plug_append, road_append, under-Attempt, fits_closed}
use Rattle.fort_machine.proofs.WholeEffects.{both_idle}
use Rattle.fort_walk_law_course.proofs.Picks.{nobody_awake}
use Rattle.fort_walk_legs.proofs.Legs.{steps_alike, steps_under}
use Rattle.fort_hall_law_books.specs.Taken.{IsStepped, IsTried}
use Rattle.fort_hall_law_books.specs.LegLaws.{SteppedIsFramed, TriedIsFramed, SteppedLifts, TriedLifts, TriedRuns}
use Rattle.fort_hall_law_books.proofs.Marks.{no_mark, after_first, trodden_behind, reached_here}

pub stepped_is_framed : SteppedIsFramed
stepped_is_framed p inner s s' t picks r d leg f = record {
  runs = steps_alike true s' picks t r d
      (one_store p inner s s' picks t r d (steps_alike false s picks t r d leg.runs leg.steps) f)
      leg.steps;
  steps = leg.steps;
}

pub stepped_lifts : SteppedLifts
stepped_lifts p inner fs s t picks r d v m leg =
    let steps = steps_under (road fs) picks leg.steps in
    record {
      runs = steps_alike true s (map (under (road fs)) picks) (plug fs t) _ d
          (lift fs s picks t r d v m (steps_alike false s picks t r d leg.runs leg.steps))
          steps;
      steps = steps;
    }

pub tried_is_framed : TriedIsFramed
tried_is_framed p s s' t form u picks d k f = record {
  frames = k.frames;
  mode = k.mode;
  body = k.body;
  within = k.within;
  ended = k.ended;
  done = k.done;
  becomes = k.becomes;
  is_picks = k.is_picks;
  is_term = k.is_term;
  reached = k.reached;
  is_form = k.is_form;
  bare = k.bare;
  runs = one_store_bare p true s s' k.within k.body k.ended k.done k.bare k.runs
      (fits_closed p k.mode k.body k.becomes k.ended k.done d s' k.closes f);
  closes = k.closes;
  is_new = k.is_new;
}

-- the one pick of an attempt of a part, as the whole's
pick_under : (fs gs : List Frame) (within picks : List Pick)
    → picks ≡ Attempt (path_to gs) within ∷ []
    → map (under (road fs)) picks ≡ Attempt (path_to (fs ++ gs)) within ∷ []
pick_under fs gs within picks e =
    ap (map (under (road fs))) e
    ∙ ap (λ x. x ∷ []) (under-Attempt (road fs) (road gs) within
    ∙ ap (λ (ns : List ℕ). Attempt (record { 0 = ns }) within) (sym (road_append fs gs)))

-- an attempt of a part in the whole, that becomes this
tried_within : (p : Program) (fs : List Frame) (s : Store) (t form u whole : Term)
    (picks : List Pick) (d : Effect) (k : IsTried p s t form picks u d) → passed fs t ≡ false
    → whole ≡ plug (trodden (fs ++ k.frames)) k.becomes
    → IsTried p s (plug fs t) form (map (under (road fs)) picks) whole d
tried_within p fs s t form u whole picks d k v e = record {
  frames = fs ++ k.frames;
  mode = k.mode;
  body = k.body;
  within = k.within;
  ended = k.ended;
  done = k.done;
  becomes = k.becomes;
  is_picks = pick_under fs k.frames k.within picks k.is_picks;
  is_term = ap (plug fs) k.is_term ∙ sym (plug_append fs k.frames form);
  reached = passed_append fs k.frames form (ap (passed fs) (sym k.is_term) ∙ v) k.reached;
  is_form = k.is_form;
  bare = k.bare;
  runs = k.runs;
  closes = k.closes;
  is_new = e;
}

pub tried_lifts : TriedLifts
tried_lifts p fs s t form u picks d v m k =
    let unmarked = no_mark k.frames form t k.is_term
    (ready_open form (form_ready form k.mode k.body k.is_form)) m in
    tried_within p fs s t form u (plug (trodden fs) u) picks d k v
    (ap (plug (trodden fs)) k.is_new ∙ after_first fs k.frames k.becomes unmarked)

-- an attempt of a part on the way to which a step was taken
pub tried_trodden : (p : Program) (fs : List Frame) → trodden fs ≡ fs
    → (s : Store) (t form u : Term) (picks : List Pick) (d : Effect)
    → IsTried p s t form picks u d
    → IsTried p s (plug fs t) form (map (under (road fs)) picks) (plug fs u) d
tried_trodden p fs q s t form u picks d k =
    tried_within p fs s t form u (plug fs u) picks d k (reached_here fs q t)
    (ap (plug fs) k.is_new
    ∙ sym (ap (λ gs. plug gs k.becomes) (trodden_behind fs k.frames q)
    ∙ plug_append fs (trodden k.frames) k.becomes))

pub tried_runs : TriedRuns
tried_runs p inner s t form u picks d k may =
    attempt k.frames k.is_picks k.is_term k.reached k.is_form k.bare
    (nobody_awake s t k.frames form may) k.runs k.closes
    (none refl (ap goes k.is_new) refl) (sym (both_idle d))
