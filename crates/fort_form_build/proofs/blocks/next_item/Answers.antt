use Rattle.std.proofs.Common.{◌≡◌, ◌+◌, List, [], ◌∷◌, ◌++◌, Option, Some, None, true, false, refl, sym, ap, ◌∙◌, length, arith, rules}
use Rattle.std.specs.Prelude.{map, option_map}
use Rattle.std.proofs.lemmas.List.{length-map}
use Rattle.fort_form_meaning.specs.Levels.{Placed}
use Rattle.fort_form_build.proofs.Giving.{of_one}
use Rattle.fort_form_build.proofs.blocks.next_item.Goals as goal

pub returns : goal.returns
returns g c = of_one (λ (p : Placed). p.item) c.in_ok-made.ensures refl refl
