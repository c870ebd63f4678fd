-- "Numbers" of docs/TRANSLATION.md: how far a walk over forms has come, and what changes it. Terms
-- are named in the words of fort_elab_meaning.
use Rattle.std.specs.Prelude.{ℕ, ◌+◌, List, [], ◌∷◌, ◌++◌, drop, length, reverse, take}
use Rattle.fort_base.specs.declared.ids.NameId.{NameId}
use Rattle.fort_base.specs.declared.ty.Ty.{Ty}
use Rattle.fort_core.specs.declared.term.Term.{Term}
use Rattle.fort_elab_meaning.specs.Making.{Scope, Maker, number_of, after, in_turn}
use Rattle.fort_elab_meaning.specs.Items.{within_function}
use Rattle.fort_elab_tasks.specs.declared.state.State.{State}

-- The scope of a state.
abbrev pub scope_of : State → Scope
scope_of s = record { names = s.names; receiver = s.receiver }

-- The next number of a variable.
abbrev pub next : State → ℕ
next s = s.counter.variable

-- A term is finished.
abbrev pub put : Term → State → State
put t s = record s { terms = t ∷ s.terms }

-- A form is finished: its term is on top.
abbrev pub said : Maker → State → State
said f s =
    let m = f (scope_of s) s.counter in record s { counter = m.counter; terms = m.term ∷ s.terms }

-- ---- lists

-- Terms go to the last list.
abbrev pub onto : List Term → List (List Term) → List (List Term)
onto ts (l ∷ ls) = (l ++ ts) ∷ ls
onto ts [] = []

-- A list begins.
abbrev pub opened : State → State
opened s = record s { lists = [] ∷ s.lists }

-- Several forms are finished: their terms are in the last list.
abbrev pub each : List Maker → State → State
each fs s =
    let ms = in_turn fs (scope_of s) s.counter
    in record s { counter = ms.counter; lists = onto ms.terms s.lists }

abbrev pub top : List Term → List Term
top (t ∷ ts) = t ∷ []
top [] = []

-- The last term goes to the last list.
abbrev pub gathered : State → State
gathered s = record s { terms = drop 1 s.terms; lists = onto (top s.terms) s.lists }

abbrev pub last_list : List (List Term) → List Term
last_list (l ∷ ls) = l
last_list [] = []

-- ---- numbers

abbrev pub counted : ℕ → State → State
counted n s = record s { counter = after n s.counter }

-- A number becomes the newest.
abbrev pub held : ℕ → State → State
held n s = record s { numbers = n ∷ s.numbers }

-- A variable without a name has the next number, and a function has.
abbrev pub numbered : State → State
numbered s = counted 1 (held (next s) s)

abbrev pub function_numbered : State → State
function_numbered s = held s.counter.function (record s { counter = within_function s.counter })

abbrev pub newest : List ℕ → ℕ
newest (n ∷ ns) = n
newest [] = 0

-- So many of the newest numbers, the oldest of them first.
abbrev pub latest : ℕ → List ℕ → List ℕ
latest k ns = reverse (take k ns)

-- By the newest number, which is done with.
abbrev pub by_number : (ℕ → State → State) → State → State
by_number f s = f (newest s.numbers) (record s { numbers = drop 1 s.numbers })

-- ---- names

-- The number of a name in scope becomes the newest.
abbrev pub found : NameId → State → State
found name s = held (number_of s.names name) s

-- A name comes into scope with the next number.
abbrev pub named : NameId → State → State
named name s = numbered (record s { names = (name, next s) ∷ s.names })

-- Names have numbers one after another.
abbrev pub bound_from : ℕ → List (NameId × Ty) → List (NameId × ℕ) → List (NameId × ℕ)
bound_from n [] names = names
bound_from n (x ∷ xs) names = bound_from (n + 1) xs ((x.0, n) ∷ names)

-- Names come into scope, and the number of the first of them becomes the newest.
abbrev pub all_named : List (NameId × Ty) → State → State
all_named xs s =
    counted (length xs) (held (next s) (record s { names = bound_from (next s) xs s.names }))

-- So many names go out of scope.
abbrev pub left : ℕ → State → State
left n s = record s { names = drop n s.names }

-- ---- terms of the last finished ones

abbrev pub one_of : (Term → Term) → List Term → List Term
one_of f (a ∷ ts) = f a ∷ ts
one_of f ts = ts

abbrev pub two_of : (Term → Term → Term) → List Term → List Term
two_of f (b ∷ a ∷ ts) = f a b ∷ ts
two_of f ts = ts

abbrev pub three_of : (Term → Term → Term → Term) → List Term → List Term
three_of f (c ∷ b ∷ a ∷ ts) = f a b c ∷ ts
three_of f ts = ts

-- A term of one, two or three parts takes their place; the last part is on top.
abbrev pub on_one : (Term → Term) → State → State
on_one f s = record s { terms = one_of f s.terms }

abbrev pub on_two : (Term → Term → Term) → State → State
on_two f s = record s { terms = two_of f s.terms }

abbrev pub on_three : (Term → Term → Term → Term) → State → State
on_three f s = record s { terms = three_of f s.terms }

-- By the last list, which is done with.
abbrev pub by_list : (List Term → State → State) → State → State
by_list f s = f (last_list s.lists) (record s { lists = drop 1 s.lists })

-- A term of the last list.
abbrev pub on_list : (List Term → Term) → State → State
on_list f s = by_list (λ ts. put (f ts)) s
