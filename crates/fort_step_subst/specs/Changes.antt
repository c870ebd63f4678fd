-- Chapter "Substitution": what becomes of terms by a substitution. The code shares a term that
-- doesn't change, and then has no new one.
use Rattle.std.specs.Prelude.{◌≡◌, List, map, Option, Some, None}
use Rattle.fort_base.specs.declared.ty.Ty.{Ty}
use Rattle.fort_core.specs.declared.term.Term.{Term}

-- A term doesn't change where there is no new one; else the new one is what becomes of it.
abbrev pub Changes : (Term → Term) → Term → Option Term → Type 0
Changes f t None = f t ≡ t
Changes f t (Some u) = u ≡ f t

-- Terms of a list don't change where there is no new list; else the new list is what becomes of
-- them.
abbrev pub ChangesAll : (Term → Term) → List Term → Option (List Term) → Type 0
ChangesAll f ts None = map f ts ≡ ts
ChangesAll f ts (Some us) = us ≡ map f ts

-- Clauses, by what becomes of each term.
abbrev pub clauses_by : (Term → Term) → List (Term × Ty) → List (Term × Ty)
clauses_by f cs = map (λ (c : Term × Ty). (f c.0, c.1)) cs

-- Clauses don't change where there are no new ones; else the new ones are what becomes of them.
abbrev pub ChangesClauses : (Term → Term) → List (Term × Ty) → Option (List (Term × Ty)) → Type 0
ChangesClauses f cs None = clauses_by f cs ≡ cs
ChangesClauses f cs (Some ds) = ds ≡ clauses_by f cs

-- Two terms don't change where there are no new ones; else the new ones are what becomes of them.
abbrev pub ChangesTwo : (Term → Term) → Term → Term → Option (Term × Term) → Type 0
ChangesTwo f a b None = (f a ≡ a) × (f b ≡ b)
ChangesTwo f a b (Some p) = (p.0 ≡ f a) × (p.1 ≡ f b)

-- Likewise three terms.
abbrev pub ChangesThree : (Term → Term) → Term → Term → Term → Option (Term × Term × Term) → Type 0
ChangesThree f a b c None = (f a ≡ a) × (f b ≡ b) × (f c ≡ c)
ChangesThree f a b c (Some p) = (p.0 ≡ f a) × (p.1 ≡ f b) × (p.2 ≡ f c)

-- A `finally`, by what becomes of its term where there is one.
abbrev pub last_by : (Term → Term) → Option Term → Option Term
last_by f None = None
last_by f (Some t) = Some (f t)

-- A `finally` doesn't change where there is no new one; else the new one is what becomes of it.
abbrev pub ChangesLast : (Term → Term) → Option Term → Option (Option Term) → Type 0
ChangesLast f o None = last_by f o ≡ o
ChangesLast f o (Some r) = r ≡ last_by f o

-- Two terms and clauses don't change where there are no new ones; else the new ones are what
-- becomes of them.
abbrev pub ChangesChoice : (Term → Term) → Term → Term → List (Term × Ty)
    → Option (Term × Term × List (Term × Ty)) → Type 0
ChangesChoice f a b cs None = (f a ≡ a) × (f b ≡ b) × (clauses_by f cs ≡ cs)
ChangesChoice f a b cs (Some p) = (p.0 ≡ f a) × (p.1 ≡ f b) × (p.2 ≡ clauses_by f cs)

-- Likewise a term, clauses and a `finally`.
abbrev pub ChangesTry : (Term → Term) → Term → List (Term × Ty) → Option Term
    → Option (Term × List (Term × Ty) × Option Term) → Type 0
ChangesTry f a cs o None = (f a ≡ a) × (clauses_by f cs ≡ cs) × (last_by f o ≡ o)
ChangesTry f a cs o (Some p) = (p.0 ≡ f a) × (p.1 ≡ clauses_by f cs) × (p.2 ≡ last_by f o)
