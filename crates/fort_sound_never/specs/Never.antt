-- What a machine takes of an accepted program: no run of it stops short of its end, and below goes
-- through a third type. The chapters "What is claimed" and "Dispatch" of docs/SOUNDNESS.md.
use Rattle.std.specs.Prelude.{ℕ, List}
use Rattle.fort_lex_token.specs.declared.token.Tokens.{Tokens}
use Rattle.fort_lex.specs.Files.{HasTokens}
use Rattle.fort_core.specs.declared.journal.Journal.{Journal}
use Rattle.fort_core.specs.declared.program.Program.{Program}
use Rattle.fort_machine.specs.Journals.{IsJournal}
use Rattle.fort_audit_record.specs.Text.{HasText}
use Rattle.fort_front.specs.Front.{IsAccepted}
use Rattle.fort_sound.specs.Accepted.{IsFounded}
use Rattle.fort_walk_turns.specs.Stops.{StopsShort}
use Rattle.fort_disp.specs.Rows.{GoesThrough}

-- No run of the program of a file whose tokens are accepted stops short of its end: no machine of
-- it, the root's or an attempt's, comes to a term that isn't its end and where no thread may go on,
-- and an attempt that gives up has its object to throw.
abbrev pub AcceptedNeverStops : Type 0
AcceptedNeverStops = (bytes : List ℕ) (tokens : Tokens) (p : Program) → HasTokens bytes tokens
    → IsAccepted tokens p → StopsShort p → ⊥

-- No run of a founded program does: one that is sound and complete, and in which each call of typed
-- values has one definition.
abbrev pub FoundedNeverStops : Type 0
FoundedNeverStops = (p : Program) → IsFounded p → StopsShort p → ⊥

-- In such a program below goes through a third type.
abbrev pub FoundedGoesThrough : Type 0
FoundedGoesThrough = (p : Program) → IsFounded p → GoesThrough p

-- In the program of a file whose tokens are accepted below goes through a third type.
abbrev pub AcceptedGoesThrough : Type 0
AcceptedGoesThrough = (bytes : List ℕ) (tokens : Tokens) (p : Program) → HasTokens bytes tokens
    → IsAccepted tokens p → GoesThrough p

-- What a run of it throws and nobody catches is an object, so the ending of each journal of it has
-- a text.
abbrev pub AcceptedHasText : Type 0
AcceptedHasText = (bytes : List ℕ) (tokens : Tokens) (p : Program) → HasTokens bytes tokens
    → IsAccepted tokens p → (j : Journal) → IsJournal p j → HasText j.ending
