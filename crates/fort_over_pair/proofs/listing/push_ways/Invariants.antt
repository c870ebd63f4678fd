use Rattle.std.proofs.Common.{◌≡◌, ◌++◌, ◌∷◌, map, drop}
use Rattle.fort_over_pair.proofs.listing.push_ways.Given as goal

abbrev pub invariant-loop-rest : goal.invariant-loop-rest
invariant-loop-rest l =
    l.all ++ map (λ rest. l.first ∷ rest) (drop l.rest-index l.rests)
    ≡ l.initial.all ++ map (λ rest. l.first ∷ rest) l.rests
