use Rattle.std.proofs.Common.{◌≡◌, drop}
use Rattle.fort_juxt.specs.Tight.{takes}
use Rattle.fort_typing_meaning.specs.Juxtaposing.{first_place}
use Rattle.fort_typing_elements.proofs.rewritings.behind_postfix.Given as goal

abbrev pub invariant-loop-at : goal.invariant-loop-at
invariant-loop-at l =
    record {
      found : first_place takes 0 l.elements ≡ first_place takes l.at l.rest;
      left : drop l.at l.elements ≡ l.rest;
    }
