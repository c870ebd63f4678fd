use Rattle.std.proofs.Common.{◌≡◌, take}
use Rattle.std.specs.List.{flat_map}
use Rattle.fort_tree.specs.declared.declarations.Declared.{Declared}
use Rattle.fort_link_rules.specs.Catalogue.{IsTied}
use Rattle.fort_link_rules.specs.Signatures.{provided_by}
use Rattle.fort_link_rules.proofs.provided.catalogue_of.Given as goal

abbrev pub invariant-loop-declared : goal.invariant-loop-declared
invariant-loop-declared l =
    (l.catalogue.signatures ≡ flat_map (λ
    (d : Declared). provided_by d.declaration) (take l.declared-index l.declared-items))
    × IsTied l.catalogue
