-- The command line as it is built.
use Rattle.std.proofs.Common.{◌≡◌, ℕ, refl, ap, ap₂, ◌∙◌, List, [], ◌∷◌, true, false, codes, Some}
use Rattle.clap.specs.Walk.{Rule, Text}
use Rattle.clap.specs.Simple.{App, Shape, app_of, built, is_simple, new_rule, new_shape, with_subcommand}
use Rattle.clap.specs.Built.{AddsSubcommand}
use Rattle.clap.specs.Faults.{is_simple_and_free}
use Rattle.clap.specs.declared.builder.action.ArgAction.TheVariants.{Append, Set}
use Rattle.clap.specs.declared.builder.command.Command.{Command}
use Rattle.clap.specs.declared.builder.command.Command.TheViews.{out-Command}
use Rattle.clap.specs.declared.builder.range.ValueRange.{ValueRange}
use Rattle.clap.specs.declared.builder.value_parser.ValueParser.TheVariants as parser
use Rattle.fort_cmd.specs.Words.{Choice, Workers, Fuel, most_of}
use Rattle.fort_cmd.specs.Line.{Kind, OfFile, OfRun, OfAudit, OfLink, id_of, line}

abbrev pub once : ValueRange
once = record { start_inclusive = 1; end_inclusive = 1 }

abbrev pub option_built : Choice → Rule
option_built choice = record (new_rule (id_of choice)) {
  long = Some (id_of choice);
  parser = Some (parser.Unsigned 1 (most_of choice));
  action = Some Set;
  range = Some once;
}

abbrev pub word_built : Text → ℕ → Rule
word_built id i = record (new_rule id) {
  required = true;
  index = Some i;
  parser = Some parser.String;
  action = Some Set;
  range = Some once;
}

abbrev pub words_built : Text → ℕ → Rule
words_built id i = record (word_built id i) { action = Some Append }

abbrev pub rules : Kind → List Rule
rules OfFile = word_built (codes "file") 1 ∷ []
rules OfRun = option_built Workers ∷ option_built Fuel ∷ word_built (codes "file") 1 ∷ []
rules OfAudit = word_built (codes "file") 1 ∷ word_built (codes "record") 2 ∷ []
rules OfLink = option_built Workers ∷ option_built Fuel ∷ words_built (codes "file") 1 ∷ []

abbrev pub leaf : Kind → Text → Shape
leaf kind name = record (new_shape name) {
  rules = rules kind;
  no_binary_name = true;
  disable_help_flag = true;
  disable_help_subcommand = true;
  is_built = true;
}

abbrev pub above : Shape
above = record (new_shape (codes "fortress")) {
  is_leaf = false;
  no_binary_name = true;
  disable_help_flag = true;
  disable_help_subcommand = true;
  is_built = true;
}

abbrev pub whole_line : App
whole_line = record {
  top = above;
  subs = leaf OfFile (codes "check") ∷ leaf OfFile (codes "show") ∷ leaf OfRun (codes "run")
      ∷ leaf OfFile (codes "bench") ∷ leaf OfRun (codes "record")
      ∷ leaf OfAudit (codes "audit") ∷ leaf OfLink (codes "link") ∷ [];
}

pub line_built : built line ≡ whole_line
line_built = refl

pub line_simple : is_simple line ≡ true
line_simple = refl

pub line_free : is_simple_and_free line ≡ true
line_free = refl

pub added : (old sub new : Command) (a b : App) → AddsSubcommand old sub new → app_of old ≡ a
    → (out-Command sub).has_globals ≡ false → app_of sub ≡ b
    → app_of new ≡ with_subcommand a b.top
added old sub new a b adds is local sub_is =
    adds.shape local ∙ ap₂ with_subcommand is (ap (λ (x : App). x.top) sub_is)
