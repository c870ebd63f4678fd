use Rattle.std.proofs.Common.{[], ap, ◌∙◌}
use Rattle.std.specs.List.{flat_map}
use Rattle.std.proofs.lemmas.List.{take_all}
use Rattle.fort_tree.specs.declared.declarations.Declared.{Declared}
use Rattle.fort_link_rules.specs.Signatures.{provided_by}
use Rattle.fort_link_rules.proofs.Steps.{one_more}
use Rattle.fort_link_rules.proofs.provided.catalogue_of.Goals as goal

pub loop-declared-init : goal.loop-declared-init
loop-declared-init c = (c.new-catalogue.ensures.none, c.new-catalogue.ensures.tied)

pub loop-declared-preserved : goal.loop-declared-preserved
loop-declared-preserved c = (
  one_more (λ (d : Declared). provided_by d.declaration) c.as_slice-declared-items.result.now
      c.loop-declared.declared-index c.declared-item.result [] c.loop-declared.catalogue.signatures
      c.add_provided.new.catalogue.signatures c.loop-declared-test.true c.declared-item.is
      c.loop-declared.invariant.0 c.in_ok-add_provided.ensures.more,
  c.in_ok-add_provided.ensures.tied,
)

pub returns-clause-all : goal.returns-clause-all
returns-clause-all c =
    c.loop-declared.invariant.0 ∙ ap (flat_map (λ (d : Declared). provided_by d.declaration))
    (take_all c.loop-declared.declared-index c.as_slice-declared-items.result.now
    c.loop-declared-test.false ∙ c.as_slice-declared-items.ensures)

pub returns-clause-tied : goal.returns-clause-tied
returns-clause-tied c = c.loop-declared.invariant.1

pub add_provided-requires : goal.add_provided-requires
add_provided-requires c = c.loop-declared.invariant.1
