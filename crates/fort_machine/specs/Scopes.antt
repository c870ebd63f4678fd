-- Chapter "Substitution": which variables a term has, and a function, which is a value once it
-- holds them. The code knows it from the place where the function was written.
use Rattle.std.specs.Prelude.{ℕ, ◌==◌, nat_le, Bool, true, ◌&&◌, if◌then◌else◌, List, [], ◌∷◌, ◌++◌, map, Option, Some, None}
use Rattle.std.specs.List.{list_all, list_any}
use Rattle.fort_base.specs.declared.ty.Ty.{Ty}
use Rattle.fort_core.specs.declared.form.Slot.{Slot}
use Rattle.fort_core.specs.declared.form.Slot.TheVariants as slot
use Rattle.fort_core.specs.declared.term.Term.{Term, Fn, fold-Term}
use Rattle.fort_core.specs.declared.term.Term as term
use Rattle.fort_core.specs.declared.term.Term.TheOpen.{Term-F, Closure-F}
use Rattle.fort_core.specs.declared.value.Value.{Function}
use Rattle.fort_core.specs.declared.value.Closure.{Closure, fold-Closure}
use Rattle.fort_machine.specs.Texts.{closure_depth, deepest}

-- The variables of a list of variables with what belongs to each.
abbrev pub variables : {A : Type 0} → List (ℕ × A) → List ℕ
variables {A = A} xs = map (λ (x : ℕ × A). x.0) xs

-- Whether a variable is among those of a list.
abbrev pub is_among : ℕ → List ℕ → Bool
is_among x xs = list_any (λ y. x == y) xs

-- What is to be known of a term: whether all its variables are bound inside it or among those of a
-- list.
abbrev pub Scoped : Type 0
Scoped = List ℕ → Bool

-- The variables of each part are among those.
abbrev pub all_scoped : List Scoped → Scoped
all_scoped fs xs = list_all (λ (f : Scoped). f xs) fs

-- The variables of each clause are among those.
abbrev pub clauses_scoped : List (Scoped × Ty) → Scoped
clauses_scoped cs xs = list_all (λ (c : Scoped × Ty). c.0 xs) cs

-- The variables of a `finally`, where there is one, are among those.
abbrev pub last_scoped : Option Scoped → Scoped
last_scoped None xs = true
last_scoped (Some f) xs = f xs

-- A mutable variable that has no location yet is among those.
abbrev pub slot_scoped : Slot → Scoped
slot_scoped (slot.Variable x) xs = is_among x xs
slot_scoped (slot.Location l) xs = true

-- A form's variables are those of its parts; a binder adds its own to the list for what it binds
-- in.
abbrev pub scoped_at : Term-F Scoped (Unit {0}) Scoped → Scoped
scoped_at (Term-F.Value v) xs = true
scoped_at (Term-F.Throw a) xs = a xs
scoped_at (Term-F.Variable x) xs = is_among x xs
scoped_at (Term-F.Group parts) xs = all_scoped parts xs
scoped_at (Term-F.Fn c) xs = c xs
scoped_at (Term-F.Call set arguments) xs = all_scoped arguments xs
scoped_at (Term-F.Operator set operands) xs = all_scoped operands xs
scoped_at (Term-F.Apply f a) xs = f xs && a xs
scoped_at (Term-F.Fill ty n v) xs = n xs && v xs
scoped_at (Term-F.Let ys a b) xs = a xs && b (variables ys ++ xs)
scoped_at (Term-F.Mutable y ty a b) xs = a xs && b (y ∷ xs)
scoped_at (Term-F.Read x) xs = slot_scoped x xs
scoped_at (Term-F.Write x a) xs = slot_scoped x xs && a xs
scoped_at (Term-F.ReadField o f) xs = o xs
scoped_at (Term-F.WriteField o f a) xs = o xs && a xs
scoped_at (Term-F.ReadElement a i) xs = a xs && i xs
scoped_at (Term-F.WriteElement a i b) xs = a xs && (i xs && b xs)
scoped_at (Term-F.Size a) xs = a xs
scoped_at (Term-F.Then a b) xs = a xs && b xs
scoped_at (Term-F.If c a b) xs = c xs && (a xs && b xs)
scoped_at (Term-F.While c b) xs = c xs && b xs
scoped_at (Term-F.Typecase y a cs b) xs = a xs && (clauses_scoped cs (y ∷ xs) && b (y ∷ xs))
scoped_at (Term-F.For order span y a b) xs = a xs && b (y ∷ xs)
scoped_at (Term-F.ForHalves a b) xs = a xs && b xs
scoped_at (Term-F.Reduce order span set empty y a b) xs = empty xs && (a xs && b (y ∷ xs))
scoped_at (Term-F.ReduceHalves set a b) xs = a xs && b xs
scoped_at (Term-F.Also blocks) xs = all_scoped blocks xs
scoped_at (Term-F.Try a y cs last) xs = a xs && (clauses_scoped cs (y ∷ xs) && last_scoped last xs)
scoped_at (Term-F.Atomic mode a) xs = a xs
scoped_at (Term-F.Asleep marks a) xs = a xs
scoped_at (Term-F.Stepped a) xs = a xs

-- A closure's variables are those of its body, but for its parameters and what it holds.
abbrev pub closure_scoped_at : Closure-F Scoped (Unit {0}) Scoped → Scoped
closure_scoped_at c xs = c.body (variables c.parameters ++ (variables c.held ++ xs))

-- Whether all variables of a term are bound inside it or among those of a list.
abbrev pub scoped : Term → List ℕ → Bool
scoped = fold-Term Scoped (Unit {0}) Scoped scoped_at (λ v. tt) closure_scoped_at

-- Whether a closure holds all that it needs.
abbrev pub holds_all : Closure → Bool
holds_all c = fold-Closure Scoped (Unit {0}) Scoped scoped_at (λ v. tt) closure_scoped_at c []

-- The term `fn (x: T) => e`: the function itself where it holds all that it needs and isn't too
-- deep.
abbrev pub function : Closure → Term
function c = if holds_all c && nat_le (closure_depth c) deepest then term.Value (Function c)
    else Fn c
