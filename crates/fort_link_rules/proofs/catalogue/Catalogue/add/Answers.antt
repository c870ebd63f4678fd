use Rattle.std.proofs.Common.{ℕ, ◌++◌, ◌∷◌, [], ap, ◌∙◌}
use Rattle.fort_link_rules.proofs.Gathering.{on_ok}
use Rattle.fort_link_rules.proofs.Chains.{tied_more}
use Rattle.fort_link_rules.proofs.catalogue.Catalogue.add.Goals as goal

pub returns-clause-more : goal.returns-clause-more
returns-clause-more c = on_ok c.set.result (λ s. c.in_ok-push-2.ensures.ok) c.set.ensures

pub returns-clause-tied : goal.returns-clause-tied
returns-clause-tied c =
    on_ok c.set.result (λ s. tied_more c.args.self.now _ c.args.signature c.len.result c.requires
    c.in_ok-push-2.ensures.ok (c.in_ok-push.ensures.ok ∙ ap (λ
    (m : ℕ). c.args.self.now.before ++ m ∷ []) c.get.ensures) c.len.ensures s) c.set.ensures
