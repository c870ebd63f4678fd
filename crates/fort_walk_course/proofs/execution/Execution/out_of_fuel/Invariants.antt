use Rattle.std.proofs.Common.{◌≡◌, length}
use Rattle.fort_store_effects.specs.Levels.{levels_of}
use Rattle.fort_walk_course.specs.Picked.{root_picks}
use Rattle.fort_walk_course.proofs.Ended.{StillPasses}
use Rattle.fort_walk_course.proofs.execution.Execution.out_of_fuel.Given as goal

abbrev pub invariant-machines : goal.invariant-machines
invariant-machines l = record {
  passes : StillPasses l.program l.course.fuel (levels_of l.course.layers) l.course.picks
      l.course.outer l.course.clock l.pick;
  fuel : l.course.fuel ≡ l.fn.self.fuel;
  picks : root_picks l.course ≡ root_picks l.fn.self;
}

abbrev pub decreases-machines : goal.decreases-machines
decreases-machines l = length l.course.outer
