-- How a history grows by a leg. The chapter "The hall" of docs/THREADS.md.
use Rattle.std.specs.Prelude.{◌≡◌, ℕ, Bool, true, false, List}
use Rattle.fort_hall_machine.specs.declared.parts.Submitted.{Submitted}
use Rattle.fort_hall_machine.specs.declared.parts.Submitted.TheVariants.{Done, Stale, Gone}
use Rattle.fort_hall_machine.specs.Words.{OneMore}

-- whether the leg was appended
abbrev pub was_appended : {S : Type 0} → Submitted S → Bool
was_appended (Done after) = true
was_appended (Stale next) = false
was_appended Gone = false

-- one entry more where a leg was appended, and else the same
abbrev pub HasGrown : {E : Type 0} → (E → ℕ) → ℕ → List E → Bool → List E → Type 0
HasGrown by pass before true after = OneMore by pass before after
HasGrown by pass before false after = after ≡ before
