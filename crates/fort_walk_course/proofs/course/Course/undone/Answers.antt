use Rattle.std.proofs.Common.{refl, arith}
use Rattle.fort_walk_course.proofs.course.Course.undone.Goals as goal

pub returns : goal.returns
returns c = record {
  waiting = c.in-Some.waiting;
  undoes = record {
    outer = c.in-Some.ensures;
    layers = c.undo-cost.ensures.undone;
    picks = refl;
    clock = refl;
    fresh = refl;
    is_spent = omega (arith, c.undo-cost.ensures.cost, c.requires.spent);
    fuel = refl;
  };
  is_place = refl;
  is_form = refl;
  is_turn = refl;
}
