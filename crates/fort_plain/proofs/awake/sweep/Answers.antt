use Rattle.std.proofs.Common.{◌≡◌, true, false, sym, ◌∙◌, subst}
use Rattle.fort_machine.specs.Attempts.{Sleeps}
use Rattle.fort_store_effects.specs.Levels.{levels_of, seen}
use Rattle.fort_frames_moves.specs.Turns.{IsStop}
use Rattle.fort_frames_moves.specs.Sweeps.{MissesNone}
use Rattle.fort_plain.specs.Paths.{whole}
use Rattle.fort_plain.proofs.Marks.{none_odd, same_marks}
use Rattle.fort_plain.proofs.Sweeping.{from_left, thread_awake, form_awake, past_sleeper, past_group, all_asleep, again_from_left}
use Rattle.fort_plain.proofs.awake.sweep.Goals as goal
use Rattle.fort_plain.proofs.awake.sweep.Goals.{in-Tries+else-not-sleeps, in-Groups+in_ok-group-in-Groups+in_ok-form-in-Groups, in-Ends+in-Some}

pub loop-turn-init : goal.loop-turn-init
loop-turn-init c =
    from_left (seen (levels_of c.args.course.now.layers)) c.args.course.now.clock c.args.term
    c.root-place.result c.root-place.ensures

pub returns-in-Steps : goal.returns-in-Steps
returns-in-Steps c =
    thread_awake (seen (levels_of c.args.course.now.layers)) c.args.course.now.clock c.args.term
    c.loop-turn.state c.in-Steps._place c.in-Steps._ready c.loop-turn.invariant
    (subst (IsStop c.args.course.now.clock (whole c.args.course.now.clock c.loop-turn.state))
    c.in-Steps.is (rw c.clock.ensures at c.in_ok-_place.ensures.stops))

pub unreachable-requires : goal.unreachable-requires
unreachable-requires c =
    none_odd c.args.course.now.clock (whole c.args.course.now.clock c.loop-turn.state) _ _
    (same_marks c.args.term (whole c.args.course.now.clock c.loop-turn.state)
    c.loop-turn.invariant.stands.is_term c.requires)
    (subst (IsStop c.args.course.now.clock (whole c.args.course.now.clock c.loop-turn.state))
    c.in-Odd.is (rw c.clock.ensures at c.in_ok-_place.ensures.stops))

pub returns-in-None : goal.returns-in-None
returns-in-None c =
    all_asleep (seen (levels_of c.args.course.now.layers)) c.args.course.now.clock c.args.term
    c.loop-turn.state c.in-Ends.«at» c.loop-turn.invariant
    (subst (IsStop c.args.course.now.clock (whole c.args.course.now.clock c.loop-turn.state))
    c.in-Ends.is (rw c.clock.ensures at c.in_ok-_place.ensures.stops))
    (subst (MissesNone c.loop-turn.state) c.in-Ends.is c.in_ok-_place.ensures.sweeps)
    (rw c.in-None.is at c.form_left.ensures)

pub returns-then-not-sleeps : goal.returns-then-not-sleeps
returns-then-not-sleeps c =
    form_awake (seen (levels_of c.args.course.now.layers)) c.args.course.now.clock c.args.term
    c.in-Tries.form c.loop-turn.state c.in-Tries.place c.loop-turn.invariant
    (subst (IsStop c.args.course.now.clock (whole c.args.course.now.clock c.loop-turn.state))
    c.in-Tries.is (rw c.clock.ensures at c.in_ok-_place.ensures.stops))
    (λ k. let z : true ≡ false =
    sym (c.sleeps.ensures.1
    (subst (Sleeps (seen (levels_of c.args.course.now.layers))) (sym c.get.ensures) k))
    ∙ c.if-not-sleeps.true in cc)

pub loop-turn-preserved : goal.loop-turn-preserved
loop-turn-preserved c = elim c.match-branch-2.branch [
  | in-Tries+else-not-sleeps w ↦
      rw w.state-is
      (past_sleeper (seen (levels_of c.args.course.now.layers)) c.args.course.now.clock c.args.term
      w.in-Tries.form c.loop-turn.state w.in-Tries.place c.loop-turn.invariant
      (subst (IsStop c.args.course.now.clock (whole c.args.course.now.clock c.loop-turn.state))
      w.in-Tries.is (rw c.clock.ensures at c.in_ok-_place.ensures.stops))
      (subst (MissesNone c.loop-turn.state) w.in-Tries.is c.in_ok-_place.ensures.sweeps)
      (subst (Sleeps (seen (levels_of c.args.course.now.layers))) w.get.ensures
      (w.sleeps.ensures.0 w.if-not-sleeps.false)))
  | in-Groups+in_ok-group-in-Groups+in_ok-form-in-Groups w ↦
      rw w.state-is
      (past_group (seen (levels_of c.args.course.now.layers)) c.args.course.now.clock c.args.term
      w.in_ok-form-in-Groups.form w.in-Groups.parts c.loop-turn.state w.in-Groups.place
      c.loop-turn.invariant
      (subst (IsStop c.args.course.now.clock (whole c.args.course.now.clock c.loop-turn.state))
      w.in-Groups.is (rw c.clock.ensures at c.in_ok-_place.ensures.stops))
      (subst (MissesNone c.loop-turn.state) w.in-Groups.is c.in_ok-_place.ensures.sweeps)
      (w.in_ok-form-in-Groups.ensures ∙ w.in_ok-group-in-Groups.ensures))
  | in-Ends+in-Some w ↦
      rw w.state-is
      (again_from_left (seen (levels_of c.args.course.now.layers)) c.args.course.now.clock
      c.args.term w.in-Some.form c.loop-turn.state w.in-Ends.«at» w.root-place-in-Some.result
      c.loop-turn.invariant w.root-place-in-Some.ensures
      (subst (IsStop c.args.course.now.clock (whole c.args.course.now.clock c.loop-turn.state))
      w.in-Ends.is (rw c.clock.ensures at c.in_ok-_place.ensures.stops))
      (rw w.in-Some.is at w.form_left.ensures))
]
