-- The variables of a closure, and of the forms with clauses.
use Rattle.std.proofs.Common.{◌≡◌, ℕ, List, ◌∷◌, ◌++◌, Bool, ◌&&◌, Option, Some, None, map, ap, sym, ◌∙◌}
use mathlib.Core.List.{map-map}
use Rattle.fort_base.specs.declared.ty.Ty.{Ty}
use Rattle.fort_core.specs.declared.term.Term.{Term, Typecase, Try, fold-roll-Term}
use Rattle.fort_core.specs.declared.term.Term.TheVariants.{rolls-Typecase, rolls-Try}
use Rattle.fort_core.specs.declared.term.Term.TheOpen.{Term-F}
use Rattle.fort_core.specs.declared.value.Closure.{Closure, fold_out-Closure}
use Rattle.fort_core.specs.declared.value.Value.{Value}
use Rattle.fort_machine.specs.Scopes.{Scoped, scoped, scoped_at, closure_scoped_at, variables}
use Rattle.fort_step_closed.specs.Closed.{closure_scoped, scoped_clauses, scoped_last}

pub closure_scoped_is : (c : Closure) (xs : List ℕ)
    → closure_scoped c xs ≡ scoped c.body (variables c.parameters ++ (variables c.held ++ xs))
closure_scoped_is c xs =
    ap (λ (f : Scoped). f xs)
    (fold_out-Closure Scoped (Unit {0}) Scoped scoped_at (λ v. tt) closure_scoped_at c)
    ∙ ap (λ ys. scoped c.body (variables c.parameters ++ (ys ++ xs))) (map-map (λ
    (h : ℕ × Unit {0}). h.0) (λ (h : ℕ × Value). (h.0, tt)) c.held)

pub in_typecase : (x : ℕ) (a b : Term) (cs : List (Term × Ty)) (xs : List ℕ)
    → scoped (Typecase x a cs b) xs
    ≡ (scoped a xs && (scoped_clauses cs (x ∷ xs) && scoped b (x ∷ xs)))
unfolding scoped_clauses
in_typecase x a b cs xs =
    ap (λ t. scoped t xs) (sym (rolls-Typecase x a cs b))
    ∙ ap (λ (f : Scoped). f xs)
    (fold-roll-Term Scoped (Unit {0}) Scoped scoped_at (λ v. tt) closure_scoped_at
    (Term-F.Typecase x a cs b))

pub in_try : (x : ℕ) (a : Term) (cs : List (Term × Ty)) (last : Option Term) (xs : List ℕ)
    → scoped (Try a x cs last) xs
    ≡ (scoped a xs && (scoped_clauses cs (x ∷ xs) && scoped_last last xs))
unfolding scoped_clauses scoped_last
in_try x a cs None xs =
    ap (λ t. scoped t xs) (sym (rolls-Try a x cs None))
    ∙ ap (λ (f : Scoped). f xs)
    (fold-roll-Term Scoped (Unit {0}) Scoped scoped_at (λ v. tt) closure_scoped_at
    (Term-F.Try a x cs None))
in_try x a cs (Some b) xs =
    ap (λ t. scoped t xs) (sym (rolls-Try a x cs (Some b)))
    ∙ ap (λ (f : Scoped). f xs)
    (fold-roll-Term Scoped (Unit {0}) Scoped scoped_at (λ v. tt) closure_scoped_at
    (Term-F.Try a x cs (Some b)))

pub ruleset with_clauses = (in_typecase, in_try)
