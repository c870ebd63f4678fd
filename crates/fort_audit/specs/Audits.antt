-- Chapter "Audits" of docs/RECORDS.md: what an audit of a record says. The code replays the
-- journal; here a run is one by the machine's rules.
use Rattle.std.specs.Prelude.{◌≡◌, ◌≢◌, ℕ, List, ◌∷◌, ◌++◌, length}
use Rattle.fort_core.specs.declared.journal.Journal.{Journal}
use Rattle.fort_core.specs.declared.program.Program.{Program}
use Rattle.fort_core.specs.declared.term.Term.{Term}
use Rattle.fort_machine.specs.Effects.{Effect}
use Rattle.fort_machine.specs.Journals.{Records}
use Rattle.fort_audit_record.specs.declared.reading.Record.{Record}
use Rattle.fort_plain.specs.Replays.{BreaksAt}
use Rattle.fort_audit.specs.declared.answer.Audited.{Audited}
use Rattle.fort_audit.specs.declared.answer.Audited.TheVariants.{Yes, NotARun, OtherOutput}

-- A journal is that of a run of a program, and the run printed this.
pub record Prints (p : Program) (j : Journal) (output : List ℕ) : Type 0 where
  pub term : Term
  pub effect : Effect
  pub records : Records p j term effect
  pub is_output : output ≡ effect.output

-- Two texts part behind all bytes that they share: with bytes that differ, or where one of them
-- ends and the other goes on.
pub data PartsAt (one two : List ℕ) (n : ℕ) : Type 0 where
  Differ : (front rest others : List ℕ) (a b : ℕ) → one ≡ front ++ a ∷ rest
      → two ≡ front ++ b ∷ others → a ≢ b → n ≡ length front → PartsAt one two n
  FirstEnds : (rest : List ℕ) (b : ℕ) → two ≡ one ++ b ∷ rest → n ≡ length one → PartsAt one two n
  SecondEnds : (rest : List ℕ) (a : ℕ) → one ≡ two ++ a ∷ rest → n ≡ length two → PartsAt one two n

-- What is said of a record of a run: whether the run printed what was recorded, or where the two
-- part.
abbrev pub Compares : List ℕ → List ℕ → Audited → Type 0
Compares kept printed Yes = kept ≡ printed
Compares kept printed (NotARun n) = ⊥
Compares kept printed (OtherOutput n) = PartsAt kept printed n

-- What an audit says of a record: that its journal is that of a run which printed its output; or
-- where the journal breaks; or where its output and what was printed part.
abbrev pub Audits : Program → Record → Audited → Type 0
Audits p kept Yes = Prints p kept.journal kept.output
Audits p kept (NotARun n) = BreaksAt p kept.journal n
Audits p kept (OtherOutput n) = (printed : List ℕ) × Prints p kept.journal printed
    × PartsAt kept.output printed n

-- A journal is that of runs which all print the same.
abbrev pub OneOutput : Type 0
OneOutput = (p : Program) (j : Journal) (output other : List ℕ) → Prints p j output
    → Prints p j other → output ≡ other

-- Two texts part at one number.
abbrev pub OneParting : Type 0
OneParting = (one two : List ℕ) (n m : ℕ) → PartsAt one two n → PartsAt one two m → n ≡ m

-- A record has one answer, so each is said exactly where it is so.
abbrev pub OneAnswer : Type 0
OneAnswer = (p : Program) (kept : Record) (one two : Audited) → Audits p kept one
    → Audits p kept two → one ≡ two
