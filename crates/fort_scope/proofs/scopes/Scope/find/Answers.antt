use Rattle.std.proofs.Common.{IfNone, subst}
use Rattle.fort_scope.specs.Scopes.{IsBound}
use Rattle.fort_scope.proofs.Keeping.{finds_named, finds_none}
use Rattle.fort_scope.proofs.scopes.Scope.find.Goals as goal

pub returns-clause-named : goal.returns-clause-named
returns-clause-named c =
    finds_named c.self.inside.bindings.entries c.args.name c.get.result c.self.invariant.keyed
    c.get.ensures.value

pub returns-clause-none : goal.returns-clause-none
returns-clause-none c =
    subst (λ bs. IfNone c.get.result (IsBound bs c.args.name → ⊥)) c.self.view_is
    (finds_none c.self.inside.bindings.entries c.args.name c.get.result c.self.invariant.keyed
    c.get.ensures.value)
