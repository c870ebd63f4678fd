-- The chapter "Grammar", no definition of it: the tokens of parts of trees that are put one after
-- another. No public clause cites it.
use Rattle.std.specs.Prelude.{List, [], ◌∷◌, ◌++◌, Option, Some, None}
use Rattle.fort_lex_token.specs.declared.token.Token.{Token}
use Rattle.fort_lex_token.specs.declared.reserved.Reserved.TheVariants as reserved
use Rattle.fort_tree.specs.declared.spot.Spot.{Spot}
use Rattle.fort_ops.specs.declared.op.Op.TheVariants as op
use Rattle.fort_tree.specs.declared.expr.Prefix.{Prefix}
use Rattle.fort_tree.specs.declared.expr.Prefix.TheVariants as a_prefix
use Rattle.fort_tree.specs.Tokens.{word, operator}
use Rattle.fort_tree.specs.Said.{SaidEntry, tokens_of, semicolon_tokens}

-- the tokens of an item of a list with its `;`
abbrev pub entry_tokens : SaidEntry → List Token
entry_tokens e = tokens_of e.item ++ semicolon_tokens e.semicolon

-- the `var` where there is one
abbrev pub var_tokens : Option Spot → List Token
var_tokens None = []
var_tokens (Some s) = word reserved.Var s ∷ []

-- the prefix operator where there is one
abbrev pub prefix_tokens : Option Prefix → List Token
prefix_tokens None = []
prefix_tokens (Some (a_prefix.Minus s)) = operator op.Minus s ∷ []
prefix_tokens (Some (a_prefix.Not s)) = operator op.Not s ∷ []
