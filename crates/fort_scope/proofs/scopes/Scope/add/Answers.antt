use Rattle.std.proofs.Common.{[], ◌∷◌, ◌++◌, sym, ap, ◌∙◌, subst}
use Rattle.std.specs.Map.{values_of}
use Rattle.fort_scope.specs.Kept.{IsKept}
use Rattle.fort_scope.specs.Scopes.{IsBound}
use Rattle.fort_scope.proofs.Keeping.{entries_push, values_push, kept_push}
use Rattle.fort_scope.proofs.scopes.Scope.add.Goals as goal

pub invariant_of-self-2 : goal.invariant_of-self-2
invariant_of-self-2 c =
    let n = subst (λ bs. IsBound bs c.args.binding.name → ⊥) (sym c.self.view_is) c.requires in
    subst IsKept
    (sym (entries_push c.self.inside.bindings c.args.binding c.self.invariant n
    c.in_ok-insert.ensures.entries))
    (kept_push c.self.inside.bindings.entries c.args.binding c.self.invariant n)

pub returns-clause-ok : goal.returns-clause-ok
returns-clause-ok c =
    let n = subst (λ bs. IsBound bs c.args.binding.name → ⊥) (sym c.self.view_is) c.requires in
    ap values_of
    (entries_push c.self.inside.bindings c.args.binding c.self.invariant n
    c.in_ok-insert.ensures.entries)
    ∙ (values_push c.self.inside.bindings.entries c.args.binding.name.0 c.args.binding
    ∙ ap (λ bs. bs ++ c.args.binding ∷ []) c.self.view_is)
