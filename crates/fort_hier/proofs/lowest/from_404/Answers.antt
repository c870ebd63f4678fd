use Rattle.std.proofs.Common.{refl}
use Rattle.fort_hier.specs.declared.sentences.Sentence.TheVariants as sentence
use Rattle.fort_hier.proofs.LowestLaws.{found, passed}
use Rattle.fort_hier.proofs.lowest.from_404.Goals as goal

pub returns-in-Some : goal.returns-in-Some
returns-in-Some c =
    found c.args.types.now c.args.places.now 404 sentence.ExtendsObject _ refl c.in-Some.ensures

pub returns-in-None : goal.returns-in-None
returns-in-None c =
    passed c.args.types.now c.args.places.now 404 sentence.ExtendsObject c.from_405.result refl
    c.in-None.ensures c.from_405.ensures
