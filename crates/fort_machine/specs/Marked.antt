-- Chapter "Atomic": which forms of a term sleep, and what they watch. The code has it from the
-- marks of its tasks.
use Rattle.std.specs.Prelude.{◌≡◌, ℕ, Bool, true, false, List, [], ◌∷◌, ◌⊎◌}
use Rattle.std.specs.List.{list_any}
use Rattle.fort_base.specs.declared.ids.Loc.{Loc}
use Rattle.fort_core.specs.declared.term.Term.{Term, Asleep, fold-Term}
use Rattle.fort_core.specs.declared.term.Term.TheOpen.{Term-F}
use Rattle.fort_core.specs.declared.value.Value.{Value}
use Rattle.fort_machine.specs.Effects.{Store}
use Rattle.fort_machine.specs.Parts.{parts_of, Inside}

-- Locations with values, as a sleeping form keeps them.
abbrev pub Marks : Type 0
Marks = List (Loc × Value)

-- A location with a value is among marks.
abbrev pub In : ℕ → Value → Marks → Type 0
In l v [] = ⊥
In l v (m ∷ ms) = (l ≡ m.0.0) × (v ≡ m.1) ⊎ In l v ms

-- A form sleeps, or one in it does.
abbrev pub dozes_at : Term-F Bool (Unit {0}) Bool → Bool
dozes_at (Term-F.Asleep marks a) = true
dozes_at (Term-F.Fn c) = c
dozes_at form = list_any (λ b. b) (parts_of form)

-- Whether a form of a term sleeps, bodies of functions included; values have none.
abbrev pub dozes : Term → Bool
dozes = fold-Term Bool (Unit {0}) Bool dozes_at (λ v. tt) (λ c. c.body)

-- A term is bare where no form of it sleeps. Every body that is run is so: of a declaration, of a
-- function, of an attempt.
abbrev pub Bare : Term → Type 0
Bare t = dozes t ≡ false

-- Two stores agree wherever a sleeping form of a term watches.
abbrev pub Alike : Store → Store → Term → Type 0
Alike s s' t = (marks : Marks) (body : Term) → Inside (Asleep marks body) t → (l : ℕ) (v : Value)
    → In l v marks → s l ≡ s' l
