-- Chapter "Limits": terms nest as deep as the fuel allows, so the code lets a term go by a loop, in
-- which what waits stands in what goes first. What is in a term is counted through all its levels,
-- and so the loop ends.
use Rattle.std.specs.Prelude.{ℕ, ◌+◌, ◌*◌, ◌<◌, ◌≤◌, List, [], ◌∷◌, Option, None, Some, MatchOption}
use Rattle.fort_base.specs.declared.ids.Loc.{Loc}
use Rattle.fort_base.specs.declared.ty.Ty.{Ty}
use Rattle.fort_core.specs.declared.release.Shed.{Shed}
use Rattle.fort_core.specs.declared.release.Spent.{Spent}
use Rattle.fort_core.specs.declared.release.Spent.TheVariants as spent
use Rattle.fort_core.specs.declared.term.Term.{Term, fold-Term}
use Rattle.fort_core.specs.declared.term.Term.TheOpen.{Term-F, Value-F, Closure-F}
use Rattle.fort_core.specs.declared.value.Closure.{Closure, fold-Closure}
use Rattle.fort_core.specs.declared.value.Value.{Value, fold-Value}

-- each item counts for itself and for what is in it
abbrev pub each : {X : Type 0} → (X → ℕ) → List X → ℕ
each f [] = 0
each f (x ∷ xs) = f x + 1 + each f xs

-- the parts, values and functions in a form
abbrev pub term_weight_at : Term-F ℕ ℕ ℕ → ℕ
term_weight_at (Term-F.Value v) = v + 1
term_weight_at (Term-F.Throw a) = a + 1
term_weight_at (Term-F.Group ts) = each (λ n. n) ts
term_weight_at (Term-F.Fn c) = c + 1
term_weight_at (Term-F.Call set ts) = each (λ n. n) ts
term_weight_at (Term-F.Operator set ts) = each (λ n. n) ts
term_weight_at (Term-F.Apply a b) = a + 1 + (b + 1)
term_weight_at (Term-F.Fill ty a b) = a + 1 + (b + 1)
term_weight_at (Term-F.Let xs a b) = a + 1 + (b + 1)
term_weight_at (Term-F.Mutable x ty a b) = a + 1 + (b + 1)
term_weight_at (Term-F.Write x a) = a + 1
term_weight_at (Term-F.ReadField a f) = a + 1
term_weight_at (Term-F.WriteField a f b) = a + 1 + (b + 1)
term_weight_at (Term-F.ReadElement a b) = a + 1 + (b + 1)
term_weight_at (Term-F.WriteElement a b c) = a + 1 + (b + 1) + (c + 1)
term_weight_at (Term-F.Size a) = a + 1
term_weight_at (Term-F.Then a b) = a + 1 + (b + 1)
term_weight_at (Term-F.If a b c) = a + 1 + (b + 1) + (c + 1)
term_weight_at (Term-F.While a b) = a + 1 + (b + 1)
term_weight_at (Term-F.Typecase x a cs b) = a + 1 + (b + 1) + each (λ (c : ℕ × Ty). c.0) cs
term_weight_at (Term-F.For order span x a b) = a + 1 + (b + 1)
term_weight_at (Term-F.ForHalves a b) = a + 1 + (b + 1)
term_weight_at (Term-F.Reduce order span set a x b c) = a + 1 + (b + 1) + (c + 1)
term_weight_at (Term-F.ReduceHalves set a b) = a + 1 + (b + 1)
term_weight_at (Term-F.Also ts) = each (λ n. n) ts
term_weight_at (Term-F.Try a x cs None) = a + 1 + each (λ (c : ℕ × Ty). c.0) cs
term_weight_at (Term-F.Try a x cs (Some b)) = a + 1 + (b + 1) + each (λ (c : ℕ × Ty). c.0) cs
term_weight_at (Term-F.Atomic mode a) = a + 1
term_weight_at (Term-F.Asleep marks a) = a + 1 + each (λ (m : Loc × ℕ). m.1) marks
term_weight_at (Term-F.Stepped a) = a + 1
term_weight_at _ = 0

-- the values in a tuple, and what is in a function
abbrev pub value_weight_at : Value-F ℕ ℕ ℕ → ℕ
value_weight_at (Value-F.Tuple vs) = each (λ n. n) vs
value_weight_at (Value-F.Function c) = c
value_weight_at _ = 0

-- the body and the values that are held
abbrev pub closure_weight_at : Closure-F ℕ ℕ ℕ → ℕ
closure_weight_at c = c.body + 1 + each (λ (h : ℕ × ℕ). h.1) c.held

-- how many parts, values and functions there are in a term, through all levels
abbrev pub weight : Term → ℕ
weight = fold-Term ℕ ℕ ℕ term_weight_at value_weight_at closure_weight_at

-- the same of a value
abbrev pub value_weight : Value → ℕ
value_weight = fold-Value ℕ ℕ ℕ term_weight_at value_weight_at closure_weight_at

-- the same of a function
abbrev pub closure_weight : Closure → ℕ
closure_weight = fold-Closure ℕ ℕ ℕ term_weight_at value_weight_at closure_weight_at

-- what waits counts for itself too
abbrev pub waits : Option Term → ℕ
waits None = 0
waits (Some t) = weight t + 1

-- and so does what goes by a call
abbrev pub spent_weight : Spent → ℕ
spent_weight spent.Nothing = 0
spent_weight (spent.Part t) = weight t + 1
spent_weight (spent.Held v) = value_weight v + 1

-- falls with each turn: as terms go, and as the term in hand gets smaller
abbrev pub term_work : Term → Option Term → ℕ
term_work t waiting = let n = weight t + waits waiting in n * n + weight t

-- of n parts in all, and h of them in hand, no more go by a call than are in hand, and what is left
-- has less work
abbrev pub Sheds : ℕ → ℕ → Shed → Type 0
Sheds n h shed = (spent_weight shed.spent ≤ h)
    × MatchOption shed.left (Unit {0}) (λ left. (weight left.hand + waits left.waiting ≤ n)
    × (term_work left.hand left.waiting < n * n + h))
