-- Chapter "Substitution": what the code asks of lists of terms, clauses and closures where the
-- chapter asks it of a term. These are means to meet the chapter's words.
use Rattle.std.specs.Prelude.{ℕ, Bool, true, List, map, Option, Some, None}
use Rattle.std.specs.List.{list_any}
use Rattle.fort_base.specs.declared.ty.Ty.{Ty}
use Rattle.fort_core.specs.declared.term.Term.{Term}
use Rattle.fort_core.specs.declared.value.Value.{Value}
use Rattle.fort_core.specs.declared.value.Closure.{Closure, fold-Closure}
use Rattle.fort_machine.specs.Texts.{depth}
use Rattle.fort_machine.specs.Parts.{in_clauses}
use Rattle.fort_machine.specs.Scopes.{Scoped, scoped, scoped_at, closure_scoped_at, all_scoped, clauses_scoped}
use Rattle.fort_machine.specs.Substitution.{occurs}

-- How deep a value is that a function holds.
abbrev pub depth_of_held : ℕ × Value → ℕ
depth_of_held h = depth h.1

-- A variable stands in one of some terms.
abbrev pub occurs_in_all : ℕ → List Term → Bool
occurs_in_all x ts = list_any (λ b. b) (map (occurs x) ts)

-- A variable stands in one of some clauses.
abbrev pub occurs_in_clauses : ℕ → List (Term × Ty) → Bool
occurs_in_clauses x cs =
    list_any (λ b. b) (in_clauses (map (λ (c : Term × Ty). (occurs x c.0, c.1)) cs))

-- All variables of a closure are bound in it, held, or among those of a list.
abbrev pub closure_scoped : Closure → List ℕ → Bool
closure_scoped = fold-Closure Scoped (Unit {0}) Scoped scoped_at (λ v. tt) closure_scoped_at

-- All variables of some terms are bound in them or among those of a list.
abbrev pub scoped_all : List Term → List ℕ → Bool
scoped_all ts = all_scoped (map scoped ts)

-- All variables of some clauses are bound in them or among those of a list.
unfoldable pub scoped_clauses : List (Term × Ty) → List ℕ → Bool
scoped_clauses cs = clauses_scoped (map (λ (c : Term × Ty). (scoped c.0, c.1)) cs)

-- All variables of a `finally`, where there is one, are bound in it or among those of a list.
unfoldable pub scoped_last : Option Term → List ℕ → Bool
scoped_last None xs = true
scoped_last (Some t) xs = scoped t xs
