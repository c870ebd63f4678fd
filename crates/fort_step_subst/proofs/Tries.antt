-- A `try` as it was, and one whose parts have changed.
use Rattle.std.proofs.Common.{◌≡◌, ℕ, List, Option, ap, sym, ◌∙◌}
use Rattle.fort_base.specs.declared.ty.Ty.{Ty}
use Rattle.fort_core.specs.declared.term.Term.{Term, Try}
use Rattle.fort_step_subst.specs.declared.put.Put.{Put}
use Rattle.fort_step_subst.specs.Changes.{clauses_by, last_by}
use Rattle.fort_step_subst.specs.Places.{placed}
use Rattle.fort_step_subst.proofs.Equations.{place-Try}

pub new_try : (put : Put) (a : Term) (y : ℕ) (cs : List (Term × Ty)) (last : Option Term) (b : Term)
    (ds : List (Term × Ty)) (r : Option Term)
    → b ≡ placed put a → ds ≡ clauses_by (placed put) cs → r ≡ last_by (placed put) last
    → Try b y ds r ≡ placed put (Try a y cs last)
new_try put a y cs last b ds r e q p =
    ap (λ z. Try z y ds r) e ∙ ap (λ z. Try (placed put a) y z r) q
    ∙ ap (λ z. Try (placed put a) y (clauses_by (placed put) cs) z) p
    ∙ sym (place-Try put a y cs last)

pub same_try : (put : Put) (a : Term) (y : ℕ) (cs : List (Term × Ty)) (last : Option Term)
    → placed put a ≡ a → clauses_by (placed put) cs ≡ cs → last_by (placed put) last ≡ last
    → placed put (Try a y cs last) ≡ Try a y cs last
same_try put a y cs last e q p = sym (new_try put a y cs last a cs last (sym e) (sym q) (sym p))

pub ruleset tries = (new_try, same_try)
