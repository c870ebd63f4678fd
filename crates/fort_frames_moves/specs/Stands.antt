-- Chapter "Terms and threads": how the code says that a term stands.
use Rattle.std.specs.Prelude.{◌≡◌, ℕ}
use Rattle.fort_core.specs.declared.term.Term.{Term}
use Rattle.fort_core.specs.declared.term.Term as term
use Rattle.fort_core.specs.declared.value.Value.{Value}
use Rattle.fort_machine.specs.Ends.{open_yet, standing, throw_of}
use Rattle.fort_frames_moves.specs.declared.stand.Stand.{Stand}
use Rattle.fort_frames_moves.specs.declared.stand.Stand.TheVariants as a_stand

-- A term stands so: it is a value, it is a throw of one, or it is open.
abbrev pub IsStand : Term → Stand → Type 0
IsStand t a_stand.Value = (v : Value) × (t ≡ term.Value v)
IsStand t a_stand.Throw = (v : Value) × (t ≡ throw_of v)
IsStand t a_stand.Open = standing t ≡ open_yet

-- What is thrown makes a throw stand so.
abbrev pub IsThrownStand : Term → Stand → Type 0
IsThrownStand t a_stand.Value = ⊥
IsThrownStand t a_stand.Throw = (v : Value) × (t ≡ term.Value v)
IsThrownStand t a_stand.Open = standing (term.Throw t) ≡ open_yet
