use Rattle.std.proofs.Common.{take, sym, ap, ◌∙◌, subst}
use Rattle.std.specs.Map.{values_of}
use Rattle.fort_scope.specs.Kept.{IsKept}
use Rattle.fort_scope.proofs.Keeping.{values_take, kept_take}
use Rattle.fort_scope.proofs.scopes.Scope.leave.Goals as goal

pub invariant_of-self : goal.invariant_of-self
invariant_of-self c =
    subst IsKept (sym c.truncate.ensures.entries)
    (kept_take c.self.inside.bindings.entries _ c.self.invariant)

pub returns : goal.returns
returns c =
    ap values_of c.truncate.ensures.entries
    ∙ (values_take c.self.inside.bindings.entries c.args.mark
    ∙ ap (take c.args.mark) c.self.view_is)
