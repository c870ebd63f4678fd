-- The productions of functions and methods as parsers. Where an operator is declared, the number of
-- its parameters and the `self` among them are asked at the token where they can fail first.
use Rattle.std.specs.Prelude.{ℕ, Bool, true, false, ◌&&◌, ◌||◌, not, List, [], ◌∷◌, Option, Some, None}
use Rattle.fort_lex_token.specs.declared.token.Token.{Token}
use Rattle.fort_lex_token.specs.declared.marks.Mark.TheVariants as mark
use Rattle.fort_lex_token.specs.declared.reserved.Reserved.TheVariants as reserved
use Rattle.fort_tree.specs.declared.spot.Spot.{Spot}
use Rattle.fort_tree.specs.declared.declarations.Function.{Function}
use Rattle.fort_tree.specs.declared.declarations.FunctionName.{FunctionName}
use Rattle.fort_tree.specs.declared.declarations.Method.{Method}
use Rattle.fort_tree.specs.declared.declarations.MethodBody.{MethodBody}
use Rattle.fort_tree.specs.declared.declarations.MethodParameter.{MethodParameter}
use Rattle.fort_tree.specs.declared.declarations.MethodParameter.TheVariants as method_parameter
use Rattle.fort_tree.specs.declared.declarations.MethodParameters.{MethodParameters}
use Rattle.fort_tree.specs.declared.declarations.NextMethodParameter.{NextMethodParameter}
use Rattle.fort_tree.specs.declared.declarations.NextParameter.{NextParameter}
use Rattle.fort_tree.specs.declared.declarations.Parameters.{Parameters}
use Rattle.fort_tree.specs.Tokens.{Spellings}
use Rattle.fort_parse_reading.specs.Parser.{Parser, Eater, pure, wrong, ◌>>=◌, fork, fork_eater, token, accept, ◌>>|◌, chain, same_budget}
use Rattle.fort_parse_reading.specs.Words.{is_mark, is_word, is_range, is_eq, spot_if, sees}
use Rattle.fort_parse_first.specs.Declarations.{ends_without_body}
use Rattle.fort_parse_types.specs.Types.{type_tree, parameter, next_parameter, maybe_parameters}
use Rattle.fort_parse.specs.Runs.{expr_at}
use Rattle.fort_parse_declarations.specs.Names.{takes_one, takes_two, sees_second}

-- whether a parameter of a method is `self`
abbrev pub is_self : MethodParameter → Bool
is_self (method_parameter.Parameter p) = false
is_self (method_parameter.Self_ s) = true

module _ (names : Spellings) (n : ℕ) where
  -- ---- functions

  unfoldable pub function_rest : FunctionName → Spot → Option Parameters → Spot → Parser Function n
  function_rest name left parameters right = do
    colon ← accept (spot_if is_range)
    result ← (type_tree names n).parser
    equals ← accept (spot_if is_eq)
    body ← (expr_at names n false).parser
    pure (record {
      name = name;
      left = left;
      parameters = parameters;
      right = right;
      colon = colon;
      result = result;
      equals = equals;
      body = body;
    })

  -- a function behind its name
  unfoldable pub function_from : FunctionName → Parser Function n
  function_from name = do
    left ← accept (spot_if (is_mark mark.OpenParen))
    parameters ← maybe_parameters names n
    right ← accept (spot_if (is_mark mark.CloseParen))
    function_rest name left parameters right

  -- no second parameter, where one is enough
  abbrev pub if_enough : {A : Type 0} → Bool → Parser (List A) n
  if_enough true = pure []
  if_enough false = wrong

  abbrev pub no_second : {A : Type 0} → FunctionName → Parser (List A) n
  no_second name = if_enough (takes_one name)

  unfoldable pub operator_others : FunctionName → Parser (List NextParameter) n
  operator_others name = fork (sees_second name) (do next ← (next_parameter names n).parser; pure (next ∷ [])) (no_second name)

  unfoldable pub operator_parameters : FunctionName → Parser Parameters n
  operator_parameters name = do
    first ← (parameter names n).parser
    others ← operator_others name
    pure (record { first = first; others = others })

  -- a function that is an operator, behind its name
  unfoldable pub operator_from : FunctionName → Parser Function n
  operator_from name = do
    left ← accept (spot_if (is_mark mark.OpenParen))
    parameters ← operator_parameters name
    right ← accept (spot_if (is_mark mark.CloseParen))
    function_rest name left (Some parameters) right

  -- ---- methods

  unfoldable pub self_parameter : Eater MethodParameter n
  self_parameter = token (spot_if (is_word reserved.Self_)) >>| λ s. pure (method_parameter.Self_ s)

  unfoldable pub plain_parameter : Eater MethodParameter n
  plain_parameter = parameter names n >>| λ p. pure (method_parameter.Parameter p)

  -- whether `self` stands there and may
  abbrev pub sees_self : Bool → Option Token → Bool
  sees_self seen next = not seen && sees (is_word reserved.Self_) next

  -- a parameter of a method, behind a `self` or not
  unfoldable pub method_parameter_at : Bool → Eater MethodParameter n
  method_parameter_at seen = fork_eater (sees_self seen) self_parameter plain_parameter

  unfoldable pub next_method_parameter : Bool → Eater NextMethodParameter n
  next_method_parameter seen = token (spot_if (is_mark mark.Comma)) >>| λ comma. do
    p ← (method_parameter_at seen).parser
    pure (record { comma = comma; parameter = p })

  unfoldable pub next_method_parameters : Bool → Parser (List NextMethodParameter) n
  next_method_parameters seen =
      chain n (same_budget n) (λ seen. sees (is_mark mark.Comma)) (λ seen next. seen
      || is_self next.parameter) next_method_parameter seen

  unfoldable pub method_list : Parser MethodParameters n
  method_list = do
    first ← (method_parameter_at false).parser
    others ← next_method_parameters (is_self first)
    pure (record { first = first; others = others })

  unfoldable pub maybe_method_list : Parser (Option MethodParameters) n
  maybe_method_list = fork (sees (is_mark mark.CloseParen)) (pure None) (do list ← method_list; pure (Some list))

  -- the parameter behind a `self` of an operator
  unfoldable pub plain_second : Parser (List NextMethodParameter) n
  plain_second = do
    comma ← accept (spot_if (is_mark mark.Comma))
    p ← (parameter names n).parser
    pure (record { comma = comma; parameter = method_parameter.Parameter p } ∷ [])

  -- the `self` behind a parameter of an operator
  unfoldable pub self_second : Parser (List NextMethodParameter) n
  self_second = do
    comma ← accept (spot_if (is_mark mark.Comma))
    s ← accept (spot_if (is_word reserved.Self_))
    pure (record { comma = comma; parameter = method_parameter.Self_ s } ∷ [])

  unfoldable pub self_first : FunctionName → Parser MethodParameters n
  self_first name = do
    s ← accept (spot_if (is_word reserved.Self_))
    others ← fork (sees_second name) plain_second (no_second name)
    pure (record { first = method_parameter.Self_ s; others = others })

  unfoldable pub plain_first : Parser MethodParameters n
  plain_first = do
    p ← (parameter names n).parser
    others ← self_second
    pure (record { first = method_parameter.Parameter p; others = others })

  -- whether an operator's first parameter may be another one than `self`, and the next token is
  abbrev pub sees_plain : FunctionName → Option Token → Bool
  sees_plain name next = takes_two name && not (sees (is_word reserved.Self_) next)

  -- the parameters of a method that is an operator; one of them is `self`
  unfoldable pub operator_list : FunctionName → Parser MethodParameters n
  operator_list name = fork (sees_plain name) plain_first (self_first name)

  unfoldable pub with_body : Parser (Option MethodBody) n
  with_body = do
    equals ← accept (spot_if is_eq)
    body ← (expr_at names n false).parser
    pure (Some (record { equals = equals; body = body }))

  -- the body of a method, which may be left out or not
  unfoldable pub method_body : Bool → Parser (Option MethodBody) n
  method_body optional = fork (ends_without_body optional) (pure None) with_body

  unfoldable pub method_rest : Bool → FunctionName → Spot → Option MethodParameters → Spot
      → Parser Method n
  method_rest optional name left parameters right = do
    colon ← accept (spot_if is_range)
    result ← (type_tree names n).parser
    body ← method_body optional
    pure (record {
      name = name;
      left = left;
      parameters = parameters;
      right = right;
      colon = colon;
      result = result;
      body = body;
    })

  -- a method behind its name
  unfoldable pub method_from : Bool → FunctionName → Parser Method n
  method_from optional name = do
    left ← accept (spot_if (is_mark mark.OpenParen))
    parameters ← maybe_method_list
    right ← accept (spot_if (is_mark mark.CloseParen))
    method_rest optional name left parameters right

  -- a method that is an operator, behind its name
  unfoldable pub operator_method_from : Bool → FunctionName → Parser Method n
  operator_method_from optional name = do
    left ← accept (spot_if (is_mark mark.OpenParen))
    parameters ← operator_list name
    right ← accept (spot_if (is_mark mark.CloseParen))
    method_rest optional name left (Some parameters) right
