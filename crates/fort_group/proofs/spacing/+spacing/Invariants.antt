use Rattle.std.proofs.Common.{◌≡◌, ◌∷◌, take}
use Rattle.fort_group.specs.Walks.{all_spaced, all_good, some_loose_part, some_loose, some_tight}
use Rattle.fort_group.proofs.spacing.+spacing.Given as goal

abbrev pub invariant-of_chain-loop-part : goal.invariant-of_chain-loop-part
invariant-of_chain-loop-part l =
    let done = all_spaced l.joints (take l.part-index l.rest) in record {
      all_good : l.good ≡ all_good (l.first ∷ done);
      loose_parts : l.loose_part ≡ some_loose_part (l.first ∷ done);
      loose_ones : l.loose ≡ some_loose l.joints done;
      tight_ones : l.tight ≡ some_tight l.joints done;
    }
