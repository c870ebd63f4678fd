use Rattle.std.proofs.Common.{refl, None}
use Rattle.fort_hier.specs.declared.sentences.Sentence.TheVariants as sentence
use Rattle.fort_hier.proofs.LowestLaws.{found, passed, none_left}
use Rattle.fort_hier.proofs.lowest.from_407.Goals as goal

pub returns-in-Some : goal.returns-in-Some
returns-in-Some c =
    found c.args.types.now c.args.places.now 407 sentence.ComprisedNotBelow _ refl c.in-Some.ensures

pub returns-in-None : goal.returns-in-None
returns-in-None c =
    passed c.args.types.now c.args.places.now 407 sentence.ComprisedNotBelow None refl
    c.in-None.ensures (none_left c.args.types.now c.args.places.now)
