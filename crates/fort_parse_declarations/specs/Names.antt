-- The productions of names of types, of the names of functions and of parameters as parsers.
use Rattle.std.specs.Prelude.{ℕ, Bool, true, false, ◌&&◌, if◌then◌else◌, List, Option, Some, None, codes}
use Rattle.fort_ops.specs.declared.op.Op.{Op}
use Rattle.fort_ops.specs.declared.op.Op.TheVariants as op
use Rattle.fort_lex_token.specs.declared.token.Kind.{Kind}
use Rattle.fort_lex_token.specs.declared.token.Kind.TheVariants as kind
use Rattle.fort_lex_token.specs.declared.token.Token.{Token}
use Rattle.fort_lex_token.specs.declared.marks.Mark.TheVariants as mark
use Rattle.fort_lex_token.specs.declared.reserved.Reserved.TheVariants as reserved
use Rattle.fort_tree.specs.declared.spot.Spot.{Spot}
use Rattle.fort_tree.specs.declared.spot.Name.{Name}
use Rattle.fort_tree.specs.declared.spot.NextName.{NextName}
use Rattle.fort_tree.specs.declared.spot.Sign.{Sign}
use Rattle.fort_tree.specs.declared.declarations.Comprises.{Comprises}
use Rattle.fort_tree.specs.declared.declarations.Excludes.{Excludes}
use Rattle.fort_tree.specs.declared.declarations.Extends.{Extends}
use Rattle.fort_tree.specs.declared.declarations.FunctionName.{FunctionName}
use Rattle.fort_tree.specs.declared.declarations.FunctionName.TheVariants as function_name
use Rattle.fort_tree.specs.declared.declarations.Names.{Names}
use Rattle.fort_tree.specs.declared.declarations.Names.TheVariants as names_of
use Rattle.fort_tree.specs.declared.declarations.NextObjectParameter.{NextObjectParameter}
use Rattle.fort_tree.specs.declared.declarations.ObjectParameter.{ObjectParameter}
use Rattle.fort_tree.specs.declared.declarations.ObjectParameterList.{ObjectParameterList}
use Rattle.fort_tree.specs.declared.declarations.ObjectParameters.{ObjectParameters}
use Rattle.fort_tree.specs.Tokens.{Spellings, is_name, may_declare}
use Rattle.fort_parse_reading.specs.Parser.{Parser, Eater, pure, ◌>>=◌, fork, fork_eater, token, accept, ◌>>|◌, many}
use Rattle.fort_parse_reading.specs.Words.{is_mark, is_word, is_range, spot_of, spot_if, name_of, called_of, sees}
use Rattle.fort_parse_types.specs.Types.{type_tree}

-- ---- what `opr` may declare

-- whether an operator may be declared
abbrev pub is_declarable : Op → Bool
is_declarable op.Juxt = false
is_declarable _ = true

abbrev pub declared_if : Spot → Op → Option Sign
declared_if s o = if is_declarable o then Some (record { op = o; spot = s }) else None

abbrev pub declared_in : Spot → Kind → Option Sign
declared_in s (kind.Op o) = declared_if s o
declared_in s _ = None

-- the operator that a token is and that may be declared
unfoldable pub declared_of : Token → Option Sign
declared_of t = declared_in (spot_of t) t.kind

-- whether an operator takes one parameter
abbrev pub takes_one : FunctionName → Bool
takes_one (function_name.Name name) = true
takes_one (function_name.Operator opr sign) = may_declare sign.op 1
takes_one (function_name.Juxtaposition opr name) = false

-- whether an operator takes two parameters
abbrev pub takes_two : FunctionName → Bool
takes_two (function_name.Name name) = true
takes_two (function_name.Operator opr sign) = may_declare sign.op 2
takes_two (function_name.Juxtaposition opr name) = true

-- a second parameter
abbrev pub sees_second : FunctionName → Option Token → Bool
sees_second name next = takes_two name && sees (is_mark mark.Comma) next

module _ (names : Spellings) (n : ℕ) where
  unfoldable pub semicolon : Parser (Option Spot) n
  semicolon = fork (sees (is_mark mark.Semicolon)) (do s ← accept (spot_if (is_mark mark.Semicolon)); pure (Some s)) (pure None)

  unfoldable pub juxtaposition_name : Spot → Parser FunctionName n
  juxtaposition_name opr = do
    name ← accept (called_of (codes "juxtaposition") names)
    pure (function_name.Juxtaposition opr name)

  unfoldable pub operator_name : Spot → Parser FunctionName n
  operator_name opr = do
    sign ← accept declared_of
    pure (function_name.Operator opr sign)

  -- what follows `opr`
  unfoldable pub opr_name : Spot → Parser FunctionName n
  opr_name opr = fork (sees is_name) (juxtaposition_name opr) (operator_name opr)

  -- ---- names of types

  unfoldable pub next_name : Eater NextName n
  next_name = token (spot_if (is_mark mark.Comma)) >>| λ comma. do
    name ← accept name_of
    pure (record { comma = comma; name = name })

  unfoldable pub next_names : Parser (List NextName) n
  next_names = many (sees (is_mark mark.Comma)) next_name

  unfoldable pub braces : Parser Names n
  braces = do
    left ← accept (spot_if (is_mark mark.OpenBrace))
    first ← accept name_of
    others ← next_names
    right ← accept (spot_if (is_mark mark.CloseBrace))
    pure (names_of.Braces left first others right)

  unfoldable pub type_names : Parser Names n
  type_names = fork (sees (is_mark mark.OpenBrace)) braces (do name ← accept name_of; pure (names_of.One name))

  unfoldable pub extends : Parser (Option Extends) n
  extends = fork (sees (is_word reserved.Extends)) (do s ← accept (spot_if (is_word reserved.Extends)); ns ← type_names; pure (Some (record { extends = s; names = ns }))) (pure None)

  unfoldable pub excludes : Parser (Option Excludes) n
  excludes = fork (sees (is_word reserved.Excludes)) (do s ← accept (spot_if (is_word reserved.Excludes)); ns ← type_names; pure (Some (record { excludes = s; names = ns }))) (pure None)

  unfoldable pub comprises : Parser (Option Comprises) n
  comprises = fork (sees (is_word reserved.Comprises)) (do s ← accept (spot_if (is_word reserved.Comprises)); ns ← type_names; pure (Some (record { comprises = s; names = ns }))) (pure None)

  -- ---- parameters of objects

  unfoldable pub object_typed : Option Spot → Name → Parser ObjectParameter n
  object_typed var name = do
    colon ← accept (spot_if is_range)
    ty ← (type_tree names n).parser
    pure (record { var = var; name = name; colon = colon; ty = ty })

  unfoldable pub var_parameter : Eater ObjectParameter n
  var_parameter = token (spot_if (is_word reserved.Var)) >>| λ var. do
    name ← accept name_of
    object_typed (Some var) name

  unfoldable pub object_parameter : Eater ObjectParameter n
  object_parameter =
      fork_eater (sees (is_word reserved.Var)) var_parameter (token name_of >>| object_typed None)

  unfoldable pub next_object_parameter : Eater NextObjectParameter n
  next_object_parameter = token (spot_if (is_mark mark.Comma)) >>| λ comma. do
    parameter ← object_parameter.parser
    pure (record { comma = comma; parameter = parameter })

  unfoldable pub next_object_parameters : Parser (List NextObjectParameter) n
  next_object_parameters = many (sees (is_mark mark.Comma)) next_object_parameter

  unfoldable pub object_parameter_list : Eater ObjectParameterList n
  object_parameter_list = object_parameter >>| λ first. do
    others ← next_object_parameters
    pure (record { first = first; others = others })

  unfoldable pub maybe_object_list : Parser (Option ObjectParameterList) n
  maybe_object_list = fork (sees (is_mark mark.CloseParen)) (pure None) (do list ← object_parameter_list.parser; pure (Some list))

  unfoldable pub object_parens : Parser (Option ObjectParameters) n
  object_parens = do
    left ← accept (spot_if (is_mark mark.OpenParen))
    list ← maybe_object_list
    right ← accept (spot_if (is_mark mark.CloseParen))
    pure (Some (record { left = left; parameters = list; right = right }))

  unfoldable pub object_parameters : Parser (Option ObjectParameters) n
  object_parameters = fork (sees (is_mark mark.OpenParen)) object_parens (pure None)
