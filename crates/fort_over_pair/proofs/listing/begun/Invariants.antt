use Rattle.std.proofs.Common.{◌≡◌, ◌∷◌, map, take}
use Rattle.std.specs.List.{flat_map}
use Rattle.fort_over_pair.proofs.listing.begun.Given as goal

abbrev pub invariant-loop-first : goal.invariant-loop-first
invariant-loop-first l =
    l.all ≡ flat_map (λ m. map (λ rest. m ∷ rest) l.rests) (take l.first-index l.firsts)
