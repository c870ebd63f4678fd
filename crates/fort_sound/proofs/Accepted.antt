-- An accepted component keeps all the rules, and accepted tokens of a file are those of one.
use Rattle.std.proofs.Common.{Bool, List, [], ◌∷◌, sym, subst}
use Rattle.std.specs.List.{AllByRecursion}
use Rattle.fort_core.specs.declared.program.Program.{Program}
use Rattle.fort_core.specs.declared.term.Term.{Term}
use Rattle.fort_machine.specs.Effects.{Store}
use Rattle.fort_machine.specs.Proper.{Reached}
use Rattle.fort_lex_law_tokens.specs.Apart.{TokensStandApart}
use Rattle.fort_lex_law_tokens.specs.Numerals.{FileNumbersFit, Fits, FitsKind}
use Rattle.fort_lex_token.specs.declared.token.Kind.{Kind}
use Rattle.fort_lex_token.specs.declared.token.Kind.TheVariants as kind
use Rattle.fort_lex_token.specs.declared.token.Token.{Token}
use Rattle.fort_tree.specs.Component.{yield}
use Rattle.fort_lex_law_tokens.specs.Standing.{FileNamesAreIn, FileStandsOnLines}
use Rattle.fort_spawn.specs.Laws as spawn
use Rattle.fort_spawn.specs.Laws.{RewrittenNumbersFit, RewrittenObeys, RewrittenStandsApart}
use Rattle.fort_front.proofs.Rewritten.{tokens_of, rewritten_is_tree, rewritten_apart}
use Rattle.fort_sound_typed.specs.Goes.{ReachedIsTyped, ReachedIsOne, NoRunIsStuck}
use Rattle.fort_sound.specs.Accepted.{KeepersAreSound, AcceptedTreeIsSound, AcceptedComponentIsSound, FileIsInOrder, AcceptedIsSound, AcceptedRunsWell, FoundedRunsWell}

pub accepted_tree : KeepersAreSound → AcceptedTreeIsSound
accepted_tree sound tokens c p apart fit tree a =
    let f = a.formed in
    sound tokens c f.types f.members (record { list = f.groups }) a.typed p (record {
      apart = apart;
      tree = tree;
      grouped = f.grouped;
      hierarchy = f.typed;
      members = f.belong;
      ruled = f.ruled;
      types = a.has_types;
      numbers = fit;
      program = a.becomes;
    })

-- numbers that are ZZ64 at most, in the words of both crates
to_spawn : (k : Kind) → FitsKind k → spawn.FitsKind k
to_spawn (kind.Word w) h = tt
to_spawn (kind.Name n) h = tt
to_spawn (kind.Number n) h = h
to_spawn (kind.Text n) h = tt
to_spawn (kind.Op o) h = tt
to_spawn (kind.Mark m) h = tt

from_spawn : (k : Kind) → spawn.FitsKind k → FitsKind k
from_spawn (kind.Word w) h = tt
from_spawn (kind.Name n) h = tt
from_spawn (kind.Number n) h = h
from_spawn (kind.Text n) h = tt
from_spawn (kind.Op o) h = tt
from_spawn (kind.Mark m) h = tt

all_to_spawn : (ts : List Token) → AllByRecursion Fits ts → AllByRecursion spawn.Fits ts
all_to_spawn [] h = tt
all_to_spawn (t ∷ ts) h = (to_spawn t.kind h.0, all_to_spawn ts h.1)

all_from_spawn : (ts : List Token) → AllByRecursion spawn.Fits ts → AllByRecursion Fits ts
all_from_spawn [] h = tt
all_from_spawn (t ∷ ts) h = (from_spawn t.kind h.0, all_from_spawn ts h.1)

pub accepted_component : AcceptedTreeIsSound → RewrittenObeys → RewrittenStandsApart
    → RewrittenNumbersFit → AcceptedComponentIsSound
accepted_component sound obeys stands fits tokens c p order fit tree a =
    let d = a.rewritten in
    sound (tokens_of d) d p
    (rewritten_apart stands tokens c d tree order.apart order.lines a.becomes)
    (all_from_spawn (yield d)
    (fits c d a.becomes
    (all_to_spawn (yield c) (subst (AllByRecursion Fits) (sym tree.yields) fit))))
    (rewritten_is_tree obeys tokens c d tree order.named a.becomes) a.keeps

pub in_order : TokensStandApart → FileStandsOnLines → FileNamesAreIn → FileIsInOrder
in_order apart lines named bytes tokens file = record {
  apart = apart bytes tokens file;
  lines = lines bytes tokens file;
  named = named bytes tokens file;
}

pub accepted : AcceptedComponentIsSound → FileIsInOrder → FileNumbersFit → AcceptedIsSound
accepted sound order fit bytes tokens p file a =
    sound tokens a.component p (order bytes tokens file) (fit bytes tokens file) a.is.tree a.keeps

-- Wherever a machine of a founded program comes to, all is well.
pub founded_runs_well : ReachedIsTyped → ReachedIsOne → NoRunIsStuck → FoundedRunsWell
founded_runs_well typed one never p f inner s t r =
    let w = typed p f.sound inner s t r in
    record {
      type = w.0;
      typed = w.1;
      one = one p f.sound f.defined inner s t r;
      goes = never p f.sound f.defined f.complete inner s t r;
    }

pub runs_well : AcceptedIsSound → FoundedRunsWell → AcceptedRunsWell
runs_well sound well bytes tokens p file a = well p (sound bytes tokens p file a)
