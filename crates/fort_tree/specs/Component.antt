-- The chapter "Grammar", components: their tokens, the rules that they obey, and which token list
-- has which tree. A token list has a tree where the tree yields it and obeys the rules; the code
-- reads the list from left to right.
use Rattle.std.specs.Prelude.{ℕ, ◌≡◌, Bool, true, ◌&&◌, IsTrue, List, [], ◌∷◌, ◌++◌, Option, Some, None, map, length, nat_lt}
use Rattle.std.specs.List.{AllPass}
use Rattle.fort_ops.specs.declared.op.Op.TheVariants as op
use Rattle.fort_lex_token.specs.declared.token.Kind.{Kind}
use Rattle.fort_lex_token.specs.declared.token.Kind.TheVariants as kind
use Rattle.fort_lex_token.specs.declared.token.Token.{Token}
use Rattle.fort_lex_token.specs.declared.token.Tokens.{Tokens}
use Rattle.fort_lex_token.specs.declared.reserved.Reserved.TheVariants as reserved
use Rattle.fort_tree.specs.declared.declarations.Component.{Component}
use Rattle.fort_tree.specs.declared.declarations.Export.{Export}
use Rattle.fort_tree.specs.declared.expr.Expr.{Expr}
use Rattle.fort_tree.specs.declared.types.TypeTree.{TypeTree}
use Rattle.fort_tree.specs.Tokens.{Spellings, word, named, is_spelled}
use Rattle.fort_tree.specs.Said.{tokens_of, elsewhere, entries_tokens, entries_obey}
use Rattle.fort_tree.specs.Types.{said_type}
use Rattle.fort_tree.specs.Yield.{said_expr}
use Rattle.fort_tree.specs.Declarations.{said_declared}

-- the tokens of an `export`
abbrev pub export_tokens : Option Export → List Token
export_tokens None = []
export_tokens (Some e) = word reserved.Export e.export ∷ named e.name ∷ []

-- The name after `export` is `Executable`.
abbrev pub export_obeys : Spellings → Option Export → Bool
export_obeys names None = true
export_obeys names (Some e) = is_spelled "Executable" names e.name

-- the tokens of a component
abbrev pub yield : Component → List Token
yield c = word reserved.Component c.component ∷ named c.name
    ∷ (export_tokens c.export
    ++ (entries_tokens (map said_declared c.declarations) ++ word reserved.End c.end ∷ []))

-- whether the rules on gaps and names hold in a component
abbrev pub obeys : Component → Bool
obeys c = export_obeys c.names c.export && entries_obey c.names (map said_declared c.declarations)

-- A component obeys the rules on gaps and names.
abbrev pub Obeys : Component → Type 0
Obeys c = IsTrue (obeys c)

-- A token list has a component as its tree where the component yields it, has its names and texts,
-- and obeys the rules.
pub record HasTree (tokens : Tokens) (c : Component) : Type 0 where
  pub yields : yield c ≡ tokens.list
  pub names : c.names ≡ tokens.names
  pub texts : c.texts ≡ tokens.texts
  pub obeys : Obeys c

-- ---- parts of a token list, as expressions and types

-- Tokens are an expression by itself, which no brackets surround, over these names.
abbrev pub HasExpr : Spellings → List Token → Expr → Type 0
HasExpr names ts e = (tokens_of (said_expr e) ≡ ts) × (IsTrue ((said_expr e).obeys names elsewhere))

-- Tokens are a type over these names.
abbrev pub HasType : Spellings → List Token → TypeTree → Type 0
HasType names ts ty = (tokens_of (said_type ty) ≡ ts)
    × (IsTrue ((said_type ty).obeys names elsewhere))

-- ---- numbers of names and texts

-- whether a token's number of a name or text, where it has one, is below the numbers of names and
-- of texts
abbrev pub number_is_in : ℕ → ℕ → Kind → Bool
number_is_in names texts (kind.Name n) = nat_lt n.0 names
number_is_in names texts (kind.Text n) = nat_lt n texts
number_is_in names texts (kind.Op (op.Word n)) = nat_lt n names
number_is_in names texts _ = true

-- Each number of a name or text among these tokens is in the tables.
abbrev pub NumbersAreIn : Spellings → List (List ℕ) → List Token → Type 0
NumbersAreIn names texts ts = AllPass (λ t. number_is_in (length names) (length texts) t.kind) ts

-- What the calls on tokens ask of them: each number of a name or text is in their tables.
abbrev pub IsNumbered : Tokens → Type 0
IsNumbered tokens = NumbersAreIn tokens.names tokens.texts tokens.list
