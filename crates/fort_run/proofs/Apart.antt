-- A file that is accepted, or is shown as a text, is not refused; and it has one program. The laws
-- of token lists are those of fort_front.
use Rattle.std.proofs.Common.{◌≡◌, ℕ, List, subst}
use Rattle.fort_base.specs.declared.refusal.Rule.{Rule}
use Rattle.fort_base.specs.declared.refusal.Place.{Place}
use Rattle.fort_lex.proofs.Uniqueness.{one_list_of_tokens, list_or_fault}
use Rattle.fort_core.specs.declared.program.Program.{Program}
use Rattle.fort_front.specs.Front.{IsAccepted, IsAcceptedComponent, BreaksGrammar, Breaks, BreaksComponent, NeverBoth, NeverBothInGrammar, NeverBothOfComponent, OneProgram, OneProgramOfComponent}
use Rattle.fort_run.specs.Laws.{LinkedOrBroken, OneWhole}
use Rattle.fort_link.specs.declared.answer.Spot.{Spot}
use Rattle.fort_audit_record.specs.Text.{OneRecord}
use Rattle.fort_audit.specs.Audits.{OneAnswer}
use Rattle.fort_run.specs.Reply.{IsAcceptedAs, AreAcceptedAs, BreaksOne, BreakOne, in_linking, in_whole, in_text, behind, IsShownAs, IsNoComponent, in_tokens, in_grammar}

-- The laws of the front, of linking, of records and of audits that make answers exact.
pub record Fronts : Type 0 where
  pub apart : NeverBoth
  pub grammar : NeverBothInGrammar
  pub one : OneProgram
  pub whole_apart : NeverBothOfComponent
  pub one_of_whole : OneProgramOfComponent
  pub linked_apart : LinkedOrBroken
  pub one_whole : OneWhole
  pub one_record : OneRecord
  pub one_answer : OneAnswer

pub accepted_apart : Fronts → (file : List ℕ) (program : Program) (rule : Rule) (place : Place)
    → IsAcceptedAs file program → BreaksOne file rule place → ⊥
accepted_apart laws file program rule place a (in_text b) =
    list_or_fault file a.tokens rule place a.has b
accepted_apart laws file program rule place a (behind tokens has b) =
    laws.apart a.tokens program rule place a.accepted
    (subst (λ t. Breaks t rule place) (one_list_of_tokens file tokens a.tokens has a.has) b)

-- A file that is accepted has one program.
pub one_program_of : Fronts → (file : List ℕ) (p q : Program) → IsAcceptedAs file p
    → IsAcceptedAs file q → p ≡ q
one_program_of laws file p q a b =
    laws.one b.tokens p q
    (subst (λ t. IsAccepted t p) (one_list_of_tokens file a.tokens b.tokens a.has b.has) a.accepted)
    b.accepted

-- The same of files that are linked.
pub together_apart : Fronts → (files : List (List ℕ)) (program : Program) (rule : Rule)
    (spot : Spot) → AreAcceptedAs files program → BreakOne files rule spot → ⊥
together_apart laws files program rule spot a (in_linking b) =
    laws.linked_apart files a.whole rule spot a.linked b
together_apart laws files program rule spot a (in_whole whole place linked b e) =
    laws.whole_apart a.whole program rule place a.accepted
    (subst (λ c. BreaksComponent c rule place) (laws.one_whole files whole a.whole linked a.linked)
    b)

pub one_program_together : Fronts → (files : List (List ℕ)) (p q : Program)
    → AreAcceptedAs files p → AreAcceptedAs files q → p ≡ q
one_program_together laws files p q a b =
    laws.one_of_whole b.whole p q
    (subst (λ c. IsAcceptedComponent c p)
    (laws.one_whole files a.whole b.whole a.linked b.linked) a.accepted) b.accepted

pub shown_apart : Fronts → (file text : List ℕ) (rule : Rule) (place : Place) → IsShownAs file text
    → IsNoComponent file rule place → ⊥
shown_apart laws file text rule place s (in_tokens b) =
    list_or_fault file s.tokens rule place s.has b
shown_apart laws file text rule place s (in_grammar tokens has broken) =
    laws.grammar s.tokens rule place s.grammatical
    (subst (λ t. BreaksGrammar t rule place) (one_list_of_tokens file tokens s.tokens has s.has)
    broken)
