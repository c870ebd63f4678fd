-- What a machine's answers say. The chapter "The hall" of docs/THREADS.md.
use Rattle.std.specs.Prelude.{◌≡◌, ℕ, List, [], ◌∷◌, ◌++◌, Option, Result, Ok, Err, IfSome}
use Rattle.fort_hall_machine.specs.declared.parts.Found.{Found}
use Rattle.fort_hall_machine.specs.declared.parts.Found.TheVariants as found
use Rattle.fort_hall_machine.specs.declared.parts.Made.{Made}
use Rattle.fort_hall_machine.specs.declared.parts.Made.TheVariants as made
use Rattle.fort_hall_machine.specs.declared.parts.Submitted.{Submitted}
use Rattle.fort_hall_machine.specs.declared.parts.Submitted.TheVariants.{Done, Stale, Gone}

-- the state that was found, if any, is good
abbrev pub IsFound : {S : Type 0} → (S → Type 0) → Found S → Type 0
IsFound good (found.Runs s) = good s
IsFound good (found.Form s) = good s
IsFound good found.Nothing = Unit {0}

-- the leg that was made is one, or the state at the form is good
abbrev pub IsMade : {L S : Type 0} → (L → Type 0) → (S → Type 0) → Made L S → Type 0
IsMade is_leg good (made.Leg l) = is_leg l
IsMade is_leg good (made.Form s) = good s
IsMade is_leg good made.Nothing = Unit {0}

-- the state of the task that is lent on, if any, is good
abbrev pub IsLent : {S : Type 0} → (S → Type 0) → Option (ℕ × Found S) → Type 0
IsLent good next = IfSome next (λ n. IsFound good n.1)

abbrev pub IsSubmitted : {S : Type 0} → (S → Type 0) → Submitted S → Type 0
IsSubmitted good (Done after) = IsLent good after.next
IsSubmitted good (Stale next) = IsLent good next
IsSubmitted good Gone = Unit {0}

-- the history goes on by one entry, which names this pass
abbrev pub OneMore : {E : Type 0} → (E → ℕ) → ℕ → List E → List E → Type 0
OneMore {E} by pass before after = (e : E) × (by e ≡ pass) × (after ≡ before ++ e ∷ [])

-- one entry more where the leg was appended, and else the history is as it was
abbrev pub HasSubmitted : {E S W M : Type 0} → (E → ℕ) → ℕ → List E → Result (Submitted S × W) M
    → List E → Type 0
HasSubmitted by pass before (Ok (Done a, w)) after = OneMore by pass before after
HasSubmitted by pass before (Ok (Stale n, w)) after = after ≡ before
HasSubmitted by pass before (Ok (Gone, w)) after = after ≡ before
HasSubmitted by pass before (Err e) after = after ≡ before
