-- What makes a term, from the next numbers on: it is fine, and its numbers are those up to the next
-- ones behind it.
use Rattle.std.proofs.Common.{◌≤◌, ℕ, ◌+◌, List, [], ◌∷◌, arith}
use Rattle.fort_base.specs.declared.ids.NameId.{NameId}
use Rattle.fort_base.specs.declared.ty.Ty.{Ty}
use Rattle.fort_core.specs.declared.term.Term.{Term, Let}
use Rattle.fort_elab_meaning.specs.declared.counter.Counter.{Counter}
use Rattle.fort_elab_meaning.specs.Making.{Scope, Made, Several, Maker, with_name, after, still, one, two, three, in_turn, many, naming, letting}
use Rattle.fort_elab_law_written.proofs.Fine.{Fine, Fines, wide, wides, none, first}

-- What is made is fine, by the numbers before and behind it.
pub record GoodMade (c : Counter) (m : Made) : Type 0 where
  pub variables : c.variable ≤ m.counter.variable
  pub functions : c.function ≤ m.counter.function
  pub fine : Fine c.variable m.counter.variable c.function m.counter.function m.term

pub record GoodSeveral (c : Counter) (m : Several) : Type 0 where
  pub variables : c.variable ≤ m.counter.variable
  pub functions : c.function ≤ m.counter.function
  pub fine : Fines c.variable m.counter.variable c.function m.counter.function m.terms

abbrev pub Good : Maker → Type 0
Good a = (s : Scope) (c : Counter) → GoodMade c (a s c)

abbrev pub AllGood : List Maker → Type 0
AllGood [] = Unit {0}
AllGood (a ∷ more) = Good a × AllGood more

-- A term that has no numbers.
abbrev pub Still : Term → Type 0
Still t = (lo hi flo fhi : ℕ) → Fine lo hi flo fhi t

-- What is made of terms that are fine is fine.
abbrev pub KeepsAll : (List Term → Term) → Type 0
KeepsAll f = (lo hi flo fhi : ℕ) (ts : List Term) → Fines lo hi flo fhi ts
    → Fine lo hi flo fhi (f ts)

abbrev pub Keeps : (Term → Term) → Type 0
Keeps f = (lo hi flo fhi : ℕ) (a : Term) → Fine lo hi flo fhi a → Fine lo hi flo fhi (f a)

abbrev pub KeepsTwo : (Term → Term → Term) → Type 0
KeepsTwo f = (lo hi flo fhi : ℕ) (a b : Term) → Fines lo hi flo fhi (a ∷ b ∷ [])
    → Fine lo hi flo fhi (f a b)

abbrev pub KeepsThree : (Term → Term → Term → Term) → Type 0
KeepsThree f = (lo hi flo fhi : ℕ) (a b d : Term) → Fines lo hi flo fhi (a ∷ b ∷ d ∷ [])
    → Fine lo hi flo fhi (f a b d)

-- What is made of two terms, the second of which has a variable n that stands between their
-- numbers.
abbrev pub Binds : (ℕ → Term → Term → Term) → Type 0
Binds f = (lo n hi flo fmid fhi : ℕ) (a b : Term) → lo ≤ n → n + 1 ≤ hi → flo ≤ fmid → fmid ≤ fhi
    → Fine lo n flo fmid a → Fine (n + 1) hi fmid fhi b → Fine lo hi flo fhi (f n a b)

pub good_still : (t : Term) → Still t → Good (still t)
good_still t h s c =
    record {
      variables = omega arith;
      functions = omega arith;
      fine = h c.variable c.variable c.function c.function;
    }

pub good_one : (f : Term → Term) (a : Maker) → Keeps f → Good a → Good (one f a)
good_one f a k h s c =
    let m = h s c
    in record { variables = m.variables; functions = m.functions; fine = k _ _ _ _ _ m.fine }

-- several terms
pub good_in_turn : (ms : List Maker) → AllGood ms → (s : Scope) (c : Counter)
    → GoodSeveral c (in_turn ms s c)
good_in_turn [] h s c = record { variables = omega arith; functions = omega arith; fine = none }
good_in_turn (a ∷ more) h s c =
    let r = a s c in let m = h.0 s c in let q = in_turn more s r.counter
    in let n = good_in_turn more h.1 s r.counter in
    let x = m.variables in let y = n.variables in let u = m.functions in let v = n.functions
    in record {
      variables = omega arith;
      functions = omega arith;
      fine = first r.term q.terms u v
          (wide r.term (omega arith) y (omega arith) (omega arith) m.fine)
          (wides q.terms x (omega arith) (omega arith) (omega arith) n.fine);
    }

pub good_many : (f : List Term → Term) (ms : List Maker) → KeepsAll f → AllGood ms
    → Good (many f ms)
good_many f ms k h s c =
    let m = good_in_turn ms h s c
    in record { variables = m.variables; functions = m.functions; fine = k _ _ _ _ _ m.fine }

pub good_two : (f : Term → Term → Term) (a b : Maker) → KeepsTwo f → Good a → Good b
    → Good (two f a b)
good_two f a b k h i s c =
    let m = good_in_turn (a ∷ b ∷ []) (h, (i, tt)) s c
    in record { variables = m.variables; functions = m.functions; fine = k _ _ _ _ _ _ m.fine }

pub good_three : (f : Term → Term → Term → Term) (a b d : Maker) → KeepsThree f → Good a → Good b
    → Good d → Good (three f a b d)
good_three f a b d k h i j s c =
    let m = good_in_turn (a ∷ b ∷ d ∷ []) (h, (i, (j, tt))) s c
    in record { variables = m.variables; functions = m.functions; fine = k _ _ _ _ _ _ _ m.fine }

-- a part, a variable, and what has it
pub bound : (f : ℕ → Term → Term → Term) → Binds f → (c : Counter) (m r : Made) → GoodMade c m
    → GoodMade (after 1 m.counter) r
    → GoodMade c (record { term = f m.counter.variable m.term r.term; counter = r.counter })
bound f k c m r h i =
    let x = h.variables in let y = i.variables in let u = h.functions in let v = i.functions
    in record {
      variables = omega arith;
      functions = omega arith;
      fine = k c.variable m.counter.variable r.counter.variable c.function m.counter.function
          r.counter.function m.term r.term x y u v h.fine i.fine;
    }

pub good_naming : (name : NameId) (a : Maker) (f : ℕ → Term → Term → Term) (rest : Maker) → Binds f
    → Good a → Good rest → Good (naming name a f rest)
good_naming name a f rest k h i s c =
    let m = a s c in let t = with_name name m.counter.variable s
    in bound f k c m (rest t (after 1 m.counter)) (h s c) (i t (after 1 m.counter))

pub good_letting : (ty : Ty) (a : Maker) (rest : ℕ → Maker) → Binds (λ n. Let ((n, ty) ∷ []))
    → Good a → ((n : ℕ) → Good (rest n)) → Good (letting ty a rest)
good_letting ty a rest k h i s c =
    let m = a s c
    in bound (λ n. Let ((n, ty) ∷ [])) k c m (rest m.counter.variable s (after 1 m.counter)) (h s c)
    (i m.counter.variable s (after 1 m.counter))
