-- "Numbers" of docs/TRANSLATION.md: how terms are made one after another, each variable with a
-- number of its own. The code keeps a stack of finished terms.
use Rattle.std.specs.Prelude.{ℕ, ◌+◌, nat_eq, cond, List, [], ◌∷◌}
use Rattle.fort_base.specs.declared.ids.NameId.{NameId}
use Rattle.fort_base.specs.declared.ty.Ty.{Ty}
use Rattle.fort_core.specs.declared.term.Term.{Term, Let}
use Rattle.fort_elab_meaning.specs.declared.counter.Counter.{Counter}

-- The names in scope with the numbers of their variables, the innermost first, and the number of
-- the receiver.
pub record Scope : Type 0 where
  pub names : List (NameId × ℕ)
  pub receiver : ℕ

-- The number of a name: that of its innermost binding.
abbrev pub number_of : List (NameId × ℕ) → NameId → ℕ
number_of [] name = 0
number_of (x ∷ xs) name = cond (nat_eq x.0.0 name.0) x.1 (number_of xs name)

-- A name comes into scope with a number.
abbrev pub with_name : NameId → ℕ → Scope → Scope
with_name name n s = record { names = (name, n) ∷ s.names; receiver = s.receiver }

-- One variable more has a number, or some.
abbrev pub after : ℕ → Counter → Counter
after n c = record { variable = c.variable + n; function = c.function }

-- A term, and the numbers that are next behind it.
pub record Made : Type 0 where
  pub term : Term
  pub counter : Counter

-- Terms, and the numbers that are next behind them.
pub record Several : Type 0 where
  pub terms : List Term
  pub counter : Counter

-- What a form becomes, by the names in scope and the next numbers.
abbrev pub Maker : Type 0
Maker = Scope → Counter → Made

-- A term that takes no number.
abbrev pub still : Term → Maker
still t s c = record { term = t; counter = c }

-- A form of one part.
abbrev pub one : (Term → Term) → Maker → Maker
one f a s c = let m = a s c in record { term = f m.term; counter = m.counter }

-- A form of two parts, the left one first.
abbrev pub two : (Term → Term → Term) → Maker → Maker → Maker
two f a b s c = let m = a s c in one (f m.term) b s m.counter

-- A form of three parts.
abbrev pub three : (Term → Term → Term → Term) → Maker → Maker → Maker → Maker
three f a b d s c = let m = a s c in two (f m.term) b d s m.counter

-- Several terms, one after another.
abbrev pub in_turn : List Maker → Scope → Counter → Several
in_turn [] s c = record { terms = []; counter = c }
in_turn (a ∷ more) s c =
    let m = a s c in let ms = in_turn more s m.counter
    in record { terms = m.term ∷ ms.terms; counter = ms.counter }

-- A form of several parts.
abbrev pub many : (List Term → Term) → List Maker → Maker
many f parts s c = let ms = in_turn parts s c in record { term = f ms.terms; counter = ms.counter }

-- A part gets its term, then its variable the next number, under its name; what follows has it.
abbrev pub naming : NameId → Maker → (ℕ → Term → Term → Term) → Maker → Maker
naming name a f rest s c =
    let m = a s c in let n = m.counter.variable
    in one (f n m.term) rest (with_name name n s) (after 1 m.counter)

-- A local without a name: a part gets its term, then its variable the next number; what follows has
-- the number.
abbrev pub letting : Ty → Maker → (ℕ → Maker) → Maker
letting ty a rest s c =
    let m = a s c in let n = m.counter.variable
    in one (Let ((n, ty) ∷ []) m.term) (rest n) s (after 1 m.counter)
