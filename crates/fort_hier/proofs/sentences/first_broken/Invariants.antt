use Rattle.std.proofs.Common.{◌≡◌, ◌+◌, Some}
use Rattle.std.specs.List.{slice_get}
use Rattle.fort_hier.specs.Sentences.{Breaks}
use Rattle.fort_base.specs.Places.{IsFirst}
use Rattle.fort_hier.proofs.First.{Among}
use Rattle.fort_hier.proofs.sentences.first_broken.Given as goal

abbrev pub invariant-loop-number : goal.invariant-loop-number
invariant-loop-number l =
    IsFirst (Among (λ k place. (slice_get l.places k ≡ Some place)
    × Breaks l.sentence l.types (l.built_in + k)) l.number) l.best
