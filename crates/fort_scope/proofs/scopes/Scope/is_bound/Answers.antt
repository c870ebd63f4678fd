use Rattle.std.proofs.Common.{◌↔◌, IsTrue, sym, subst}
use Rattle.std.specs.Map.{values_of}
use Rattle.fort_scope.specs.Scopes.{IsBound}
use Rattle.fort_scope.proofs.Keeping.{bound_found}
use Rattle.fort_scope.proofs.scopes.Scope.is_bound.Goals as goal

pub returns : goal.returns
returns c = subst (λ bs. IsTrue c.contains_key.result ↔ IsBound bs c.args.name) c.self.view_is
    (subst (λ b. IsTrue b
    ↔ IsBound (values_of c.self.inside.bindings.entries) c.args.name)
    (sym c.contains_key.ensures)
    (bound_found c.self.inside.bindings.entries c.args.name c.self.invariant.keyed))
