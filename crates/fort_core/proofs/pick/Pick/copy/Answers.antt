use Rattle.std.proofs.Common.{refl}
use Rattle.fort_core.proofs.Stacks.{Stepped, whole, part}
use Rattle.fort_core.proofs.pick.Pick.copy.Goals as goal
use Rattle.fort_core.proofs.pick.Pick.copy.Goals.{in-Down+in_ok-made-in-Down, in-Up+in-Some+in_ok-made-in-Some}

pub turns-preserved-in-Whole : goal.turns-preserved-in-Whole
turns-preserved-in-Whole c =
    let st : Stepped c.turns.turn c.turns.waiting c.match-turn.waiting c.match-turn.made =
    elim c.match-turn.branch [
      | in-Down+in_ok-made-in-Down w ↦
          rw (w.in-Down.is, w.made-is, w.waiting-is) (refl, w.in_ok-made-in-Down.ensures)
      | in-Up+in-Some+in_ok-made-in-Some w ↦
          rw (w.in-Up.is, w.made-is, w.waiting-is) (
            w.in-Some.half,
            w.in-Some.ensures,
            w.in_ok-made-in-Some.ensures,
          )
    ] in
    (whole c.args.self.now c.match-turn.waiting c.turns.turn c.turns.waiting c.in-Whole.pick
    (rw (← c.in-Whole.is) st) c.turns.invariant).0

pub turns-smaller-in-Whole : goal.turns-smaller-in-Whole
turns-smaller-in-Whole c =
    let st : Stepped c.turns.turn c.turns.waiting c.match-turn.waiting c.match-turn.made =
    elim c.match-turn.branch [
      | in-Down+in_ok-made-in-Down w ↦
          rw (w.in-Down.is, w.made-is, w.waiting-is) (refl, w.in_ok-made-in-Down.ensures)
      | in-Up+in-Some+in_ok-made-in-Some w ↦
          rw (w.in-Up.is, w.made-is, w.waiting-is) (
            w.in-Some.half,
            w.in-Some.ensures,
            w.in_ok-made-in-Some.ensures,
          )
    ] in
    (whole c.args.self.now c.match-turn.waiting c.turns.turn c.turns.waiting c.in-Whole.pick
    (rw (← c.in-Whole.is) st) c.turns.invariant).1

pub turns-preserved : goal.turns-preserved
turns-preserved c =
    let st : Stepped c.turns.turn c.turns.waiting c.match-turn.waiting c.match-turn.made =
    elim c.match-turn.branch [
      | in-Down+in_ok-made-in-Down w ↦
          rw (w.in-Down.is, w.made-is, w.waiting-is) (refl, w.in_ok-made-in-Down.ensures)
      | in-Up+in-Some+in_ok-made-in-Some w ↦
          rw (w.in-Up.is, w.made-is, w.waiting-is) (
            w.in-Some.half,
            w.in-Some.ensures,
            w.in_ok-made-in-Some.ensures,
          )
    ] in
    rw c.in_ok-push-in-Part.ensures.ok
    (part c.args.self.now c.match-turn.waiting c.turns.turn c.turns.waiting c.in-Part.half
    c.next.result.now (rw (← c.in-Part.is) st) c.next.ensures c.turns.invariant).0

pub turns-smaller : goal.turns-smaller
turns-smaller c =
    let st : Stepped c.turns.turn c.turns.waiting c.match-turn.waiting c.match-turn.made =
    elim c.match-turn.branch [
      | in-Down+in_ok-made-in-Down w ↦
          rw (w.in-Down.is, w.made-is, w.waiting-is) (refl, w.in_ok-made-in-Down.ensures)
      | in-Up+in-Some+in_ok-made-in-Some w ↦
          rw (w.in-Up.is, w.made-is, w.waiting-is) (
            w.in-Some.half,
            w.in-Some.ensures,
            w.in_ok-made-in-Some.ensures,
          )
    ] in
    rw c.in_ok-push-in-Part.ensures.ok
    (part c.args.self.now c.match-turn.waiting c.turns.turn c.turns.waiting c.in-Part.half
    c.next.result.now (rw (← c.in-Part.is) st) c.next.ensures c.turns.invariant).1
