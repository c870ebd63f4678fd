use Rattle.std.proofs.Common.{ap, subst}
use Rattle.fort_store_effects.specs.Levels.{levels_of}
use Rattle.fort_walk_course.specs.Calls.{IsRun}
use Rattle.fort_walk_course.specs.Picked.{root_picks}
use Rattle.fort_walk_course.proofs.Ended.{ends_passed, passes_first, passes_outer, root_ended, root_out}
use Rattle.fort_walk_course.proofs.execution.Execution.out_of_fuel.Goals as goal

pub machines-init : goal.machines-init
machines-init c =
    record {
      passes =
          rw c.into_course-course.ensures
          (passes_first c.args.program.now c.args.self c.args.next c.requires);
      fuel = ap (λ x. x.fuel) c.into_course-course.ensures;
      picks = ap root_picks c.into_course-course.ensures;
    }

pub machines-preserved : goal.machines-preserved
machines-preserved c = record {
  passes = passes_outer c.args.program.now c.machines.course.fuel
      (levels_of c.machines.course.layers) c.machines.course.picks c.in_ok-outer.before
      c.machines.course.outer c.pop.new.self c.in-Some.waiting c.machines.course.clock
      c.machines.pick c.in_ok-outer.outer c.machines.invariant.passes c.in-Some.ensures
      c.in_ok-outer.ensures.pick c.in_ok-outer.ensures.picks;
  fuel = c.machines.invariant.fuel;
  picks = root_out c.machines.course.outer c.pop.new.self c.in-Some.waiting
      c.machines.course.picks c.in_ok-outer.before (root_picks c.args.self)
      c.machines.invariant.picks c.in-Some.ensures c.in_ok-outer.ensures.picks;
}

pub returns-clause-run : goal.returns-clause-run
returns-clause-run c =
    subst (λ f. IsRun c.args.program.now f c.ended.result) c.machines.invariant.fuel
    (ends_passed c.args.program.now _ c.machines.pick c.ended.result c.machines.course.outer
    c.ended.ensures c.machines.invariant.passes c.in_default.ensures.0)

pub returns-clause-picks : goal.returns-clause-picks
returns-clause-picks c =
    root_ended _ c.args.self c.machines.course.outer _ c.ended.result c.ended.ensures
    c.in_default.ensures.0
    c.machines.invariant.picks
