use Rattle.std.proofs.Common.{◌≡◌, ℕ, ◌∷◌, Bool, true, ◌&&◌, IfOk, arith, rules, ap, sym, ◌∙◌, subst}
use Rattle.std.proofs.lemmas.Grind.{common_steps}
use Rattle.fort_core.specs.declared.term.Term.{Term}
use Rattle.fort_machine.specs.Scopes.{scoped}
use Rattle.fort_step_closed.specs.Closed.{scoped_clauses, scoped_last}
use Rattle.fort_step_closed.proofs.Scoped.{in_try}
use Rattle.fort_step_closed.proofs.scopes.+scoped.Goals as goal

pub scoped-returns-else-not-branch-4 : goal.scoped-returns-else-not-branch-4
scoped-returns-else-not-branch-4 t c =
    let a : scoped c.in-Try.body c.args.names.now ≡ true =
    first_of (cc, search rules, grind (arith, common_steps)) in
    let b : scoped_clauses c.in-Try.clauses (c.in-Try.variable ∷ c.args.names.now) ≡ true =
    first_of (cc, search rules, grind (arith, common_steps)) in
    let e : scoped c.args.term.now c.args.names.now ≡ scoped_last c.in-Try.last c.args.names.now
    = ap (λ (u : Term). scoped u c.args.names.now) c.in-Try.is
    ∙ in_try c.in-Try.variable c.in-Try.body c.in-Try.clauses c.in-Try.last c.args.names.now
    ∙ ap (λ (p : Bool). p
    && (scoped_clauses c.in-Try.clauses (c.in-Try.variable ∷ c.args.names.now)
    && scoped_last c.in-Try.last c.args.names.now)) a
    ∙ ap (λ (q : Bool). q && scoped_last c.in-Try.last c.args.names.now) b in
    subst (λ (z : Bool). IfOk c.in_last.result (λ holds. holds ≡ z)) (sym e) c.in_last.ensures
