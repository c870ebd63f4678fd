use Rattle.std.proofs.Common.{Contains, take}
use Rattle.fort_base.specs.Places.{IsFirst}
use Rattle.fort_link_rules.proofs.places.earliest.Given as goal

abbrev pub invariant-loop-place : goal.invariant-loop-place
invariant-loop-place l = IsFirst (Contains (take l.place-index l.places)) l.best
