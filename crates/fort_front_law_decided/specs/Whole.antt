-- Each file, token list and component is accepted or breaks a rule.
use Rattle.std.specs.Prelude.{ℕ, List}
use Rattle.fort_base.specs.declared.refusal.Place.{Place}
use Rattle.fort_base.specs.declared.refusal.Rule.{Rule}
use Rattle.fort_core.specs.declared.program.Program.{Program}
use Rattle.fort_lex_token.specs.declared.token.Tokens.{Tokens}
use Rattle.fort_lex.specs.Files.{HasTokens, BreaksRule}
use Rattle.fort_tree.specs.declared.declarations.Component.{Component}
use Rattle.fort_tree.specs.Limits.{KeepsLimits}
use Rattle.fort_front.specs.Front.{IsAccepted, IsAcceptedComponent, IsAcceptedTree, Breaks, BreaksComponent, BreaksTree}
use Rattle.fort_front_law_decided.specs.Claims.{NotNeither}
use Rattle.fort_front_law_decided.specs.Phases.{HasFewTypes}

-- No component without spawned threads, and with as many types as have numbers at most, neither
-- keeps the rules behind the grammar nor breaks one of them.
abbrev pub TreeIsOneOfTwo : Type 0
TreeIsOneOfTwo = (c : Component) → HasFewTypes c
    → NotNeither ((program : Program) × IsAcceptedTree c program)
    ((rule : Rule) × (at : Place) × BreaksTree c rule at)

-- No component that passes no limit is neither accepted, nor breaks a rule.
abbrev pub ComponentIsOneOfTwo : Type 0
ComponentIsOneOfTwo = (c : Component) → KeepsLimits c
    → NotNeither ((program : Program) × IsAcceptedComponent c program)
    ((rule : Rule) × (at : Place) × BreaksComponent c rule at)

-- No token list is neither accepted, nor breaks a rule.
abbrev pub TokensAreOneOfTwo : Type 0
TokensAreOneOfTwo = (tokens : Tokens)
    → NotNeither ((program : Program) × IsAccepted tokens program)
    ((rule : Rule) × (at : Place) × Breaks tokens rule at)

-- A file is accepted: it has tokens, and these are accepted with this program.
pub record IsAcceptedFile (file : List ℕ) (program : Program) : Type 0 where
  pub tokens : Tokens
  pub has : HasTokens file tokens
  pub accepted : IsAccepted tokens program

-- A file breaks a rule of tokens, or it has tokens and these break one.
pub data FileBreaks (file : List ℕ) (rule : Rule) (at : Place) : Type 0 where
  in_text : BreaksRule file rule at → FileBreaks file rule at
  behind : (tokens : Tokens) → HasTokens file tokens → Breaks tokens rule at
      → FileBreaks file rule at

-- No file is neither accepted, nor breaks a rule.
abbrev pub FileIsOneOfTwo : Type 0
FileIsOneOfTwo = (file : List ℕ)
    → NotNeither ((program : Program) × IsAcceptedFile file program)
    ((rule : Rule) × (at : Place) × FileBreaks file rule at)
