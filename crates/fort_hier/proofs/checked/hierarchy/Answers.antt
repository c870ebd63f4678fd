use Rattle.std.proofs.Common.{IfErr, IfOk, ◌∙◌, subst}
use Rattle.fort_hier.specs.Hierarchies.{IsHierarchy, IsFault}
use Rattle.fort_hier.proofs.checked.hierarchy.Goals as goal

pub returns-clause-ok : goal.returns-clause-ok
returns-clause-ok c =
    subst (λ l. IfOk c.checked.result (IsHierarchy c.args.component.now l)) (c.as_slice.ensures
    ∙ c.in_ok-mentioned.ensures) c.checked.ensures.ok

pub returns-clause-err : goal.returns-clause-err
returns-clause-err c =
    subst (λ l. IfErr c.checked.result (IsFault c.args.component.now l)) (c.as_slice.ensures
    ∙ c.in_ok-mentioned.ensures) c.checked.ensures.err
