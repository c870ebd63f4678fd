-- The productions of blocks and of the parts of the forms that end with `end` as parsers, over one
-- of runs.
use Rattle.std.specs.Prelude.{ℕ, Bool, true, false, ◌&&◌, List, [], ◌∷◌, Option, Some, None}
use Rattle.fort_lex_token.specs.declared.token.Token.{Token}
use Rattle.fort_lex_token.specs.declared.marks.Mark.TheVariants as mark
use Rattle.fort_lex_token.specs.declared.reserved.Reserved.TheVariants as reserved
use Rattle.fort_tree.specs.declared.spot.Spot.{Spot}
use Rattle.fort_tree.specs.declared.spot.Name.{Name}
use Rattle.fort_tree.specs.declared.types.TypeTree.{TypeTree}
use Rattle.fort_tree.specs.declared.declarations.Variable.{Variable, roll-Variable}
use Rattle.fort_tree.specs.declared.delimited.Also.{Also, roll-Also}
use Rattle.fort_tree.specs.declared.delimited.BlockItem.{BlockItem, out-BlockItem, roll-BlockItem}
use Rattle.fort_tree.specs.declared.delimited.CaseClause.{CaseClause, out-CaseClause, roll-CaseClause}
use Rattle.fort_tree.specs.declared.delimited.Catch.{Catch, roll-Catch}
use Rattle.fort_tree.specs.declared.delimited.Elif.{Elif, roll-Elif}
use Rattle.fort_tree.specs.declared.delimited.ElseBlock.{ElseBlock, roll-ElseBlock}
use Rattle.fort_tree.specs.declared.delimited.ElseClause.{ElseClause, roll-ElseClause}
use Rattle.fort_tree.specs.declared.delimited.Finally.{Finally, roll-Finally}
use Rattle.fort_tree.specs.declared.delimited.Item.{Item}
use Rattle.fort_tree.specs.declared.delimited.Item.TheVariants as an_item
use Rattle.fort_tree.specs.declared.delimited.NextGenerator.{NextGenerator, roll-NextGenerator}
use Rattle.fort_tree.specs.declared.delimited.TypeClause.{TypeClause, out-TypeClause, roll-TypeClause}
use Rattle.fort_tree.specs.declared.expr.Operand.{Operand}
use Rattle.fort_tree.specs.declared.expr.Run.{Run}
use Rattle.fort_tree.specs.Tokens.{Spellings}
use Rattle.fort_parse_reading.specs.Parser.{Parser, Eater, pure, wrong, ◌>>=◌, fork, fork_eater, token, accept, ◌>>|◌, chain, many, same_budget}
use Rattle.fort_parse_reading.specs.Words.{is_mark, is_word, is_range, is_eq, spot_if, name_of, initial_of, sees}
use Rattle.fort_parse_types.specs.Types.{type_tree}
use Rattle.fort_parse_first.specs.declared.plain.PlainNames.{PlainNames}
use Rattle.fort_parse_first.specs.Beginnings.{begins_head, begins_item, begins_case_clause, begins_type_clause, begins_else}
use Rattle.fort_parse_first.specs.Endings.{semicolon}
use Rattle.fort_parse_first.specs.Plain.{plain_name, plain_names}
use Rattle.fort_parse.specs.Flats.{operand, flat, generator, head, opened, expr_from, expr}

-- whether there is a `;`
abbrev pub is_ended : Option Spot → Bool
is_ended None = false
is_ended (Some s) = true

-- whether there is a `;` behind the last of these
abbrev pub last_ended : {A : Type 0} → (A → Option Spot) → List A → Bool
last_ended semicolon [] = false
last_ended semicolon (x ∷ []) = is_ended (semicolon x)
last_ended semicolon (x ∷ y ∷ ys) = last_ended semicolon (y ∷ ys)

-- a list, where it has an item
abbrev pub some_of : {A : Type 0} {n : ℕ} → List A → Parser (List A) n
some_of [] = wrong
some_of (x ∷ xs) = pure (x ∷ xs)

-- a second `;`
abbrev pub sees_second : Bool → Option Token → Bool
sees_second ended next = ended && sees (is_mark mark.Semicolon) next

module _ (names : Spellings) {n : ℕ} (run : Bool → Eater Run n) where
  -- ---- declarations of locals

  unfoldable pub initialised : Option Spot → Name → Spot → TypeTree → Parser Variable n
  initialised var name colon ty = do
    sign ← accept initial_of
    value ← (expr names run false).parser
    pure (roll-Variable
        (record { var = var; name = name; colon = colon; ty = ty; sign = sign; value = value }))

  unfoldable pub variable_from : Option Spot → Name → Parser Variable n
  variable_from var name = do
    colon ← accept (spot_if is_range)
    ty ← (type_tree names n).parser
    initialised var name colon ty

  unfoldable pub var_item : Eater Item n
  var_item = token (spot_if (is_word reserved.Var)) >>| λ var. do
    name ← accept name_of
    v ← variable_from (Some var) name
    pure (an_item.Variable v)

  unfoldable pub names_from : PlainNames → Parser Item n
  names_from p = do
    colon ← accept (spot_if is_range)
    ty ← (type_tree names n).parser
    equals ← accept (spot_if is_eq)
    value ← (expr names run false).parser
    pure (an_item.Names p.left p.first p.others p.right colon ty equals value)

  unfoldable pub flat_item : Operand → Parser Item n
  flat_item first = do
    e ← expr_from names run false first
    pure (an_item.Expr e)

  abbrev pub by_names : Operand → Option PlainNames → Parser Item n
  by_names first (Some p) = names_from p
  by_names first None = flat_item first

  abbrev pub by_name : Operand → Option Name → Parser Item n
  by_name first (Some name) = do v ← variable_from None name; pure (an_item.Variable v)
  by_name first None = by_names first (plain_names first)

  unfoldable pub declared : Operand → Parser Item n
  declared first = by_name first (plain_name first)

  unfoldable pub item_from : Operand → Parser Item n
  item_from first = fork (sees is_range) (declared first) (flat_item first)

  unfoldable pub head_item : Eater Item n
  head_item = head names run >>| λ h. do
    e ← opened names run h
    pure (an_item.Expr e)

  unfoldable pub item : Eater Item n
  item = fork_eater (sees (is_word reserved.Var)) var_item
      (fork_eater (sees begins_head) head_item (operand names run true >>| item_from))

  unfoldable pub block_item : Eater BlockItem n
  block_item = item >>| λ i. do
    s ← semicolon
    pure (roll-BlockItem (record { item = i; semicolon = s }))

  unfoldable pub block : Parser (List BlockItem) n
  block = chain n (same_budget n) begins_item (λ ready e. is_ended (out-BlockItem e).semicolon)
      (λ ready. block_item) true

  -- ---- clauses

  unfoldable pub case_clause : Eater CaseClause n
  case_clause = flat names run true >>| λ subject. do
    arrow ← accept (spot_if (is_mark mark.DoubleArrow))
    value ← (expr names run false).parser
    s ← semicolon
    pure (roll-CaseClause
        (record { subject = subject; arrow = arrow; value = value; semicolon = s }))

  unfoldable pub case_list : Parser (List CaseClause) n
  case_list =
      chain n (same_budget n) begins_case_clause (λ ready c. is_ended (out-CaseClause c).semicolon)
      (λ ready. case_clause) true

  unfoldable pub case_clauses : Parser (List CaseClause) n
  case_clauses = case_list >>= some_of

  unfoldable pub type_clause : Eater TypeClause n
  type_clause = type_tree names n >>| λ ty. do
    arrow ← accept (spot_if (is_mark mark.DoubleArrow))
    value ← (expr names run false).parser
    s ← semicolon
    pure (roll-TypeClause (record { ty = ty; arrow = arrow; value = value; semicolon = s }))

  unfoldable pub type_clause_list : Parser (List TypeClause) n
  type_clause_list =
      chain n (same_budget n) begins_type_clause (λ ready c. is_ended (out-TypeClause c).semicolon)
      (λ ready. type_clause) true

  unfoldable pub type_clauses : Parser (List TypeClause) n
  type_clauses = type_clause_list >>= some_of

  unfoldable pub else_from : Option Spot → Parser (Option ElseClause) n
  else_from second = do
    at_else ← accept (spot_if (is_word reserved.Else))
    arrow ← accept (spot_if (is_mark mark.DoubleArrow))
    value ← (expr names run false).parser
    pure (Some
        (roll-ElseClause
        (record { semicolon = second; else_ = at_else; arrow = arrow; value = value })))

  unfoldable pub second_else : Parser (Option ElseClause) n
  second_else = do
    second ← accept (spot_if (is_mark mark.Semicolon))
    else_from (Some second)

  unfoldable pub else_clause : Bool → Parser (Option ElseClause) n
  else_clause ended =
      fork (sees_second ended) second_else (fork (begins_else ended) (else_from None) (pure None))

  -- ---- parts of the forms that end with `end`

  unfoldable pub also_block : Eater Also n
  also_block = token (spot_if (is_word reserved.Also)) >>| λ also. do
    at_do ← accept (spot_if (is_word reserved.Do))
    b ← block
    pure (roll-Also (record { also = also; do_ = at_do; block = b }))

  unfoldable pub also_blocks : Parser (List Also) n
  also_blocks = many (sees (is_word reserved.Also)) also_block

  unfoldable pub elif : Eater Elif n
  elif = token (spot_if (is_word reserved.Elif)) >>| λ at_elif. do
    condition ← (flat names run true).parser
    then ← accept (spot_if (is_word reserved.Then))
    b ← block
    pure (roll-Elif (record { elif = at_elif; condition = condition; then = then; block = b }))

  unfoldable pub elifs : Parser (List Elif) n
  elifs = many (sees (is_word reserved.Elif)) elif

  unfoldable pub else_block : Parser (Option ElseBlock) n
  else_block = fork (sees (is_word reserved.Else))
      (do at_else ← accept (spot_if (is_word reserved.Else)); b ← block; pure (Some (roll-ElseBlock (record { else_ = at_else; block = b })))) (pure None)

  unfoldable pub catch_from : Parser (Option Catch) n
  catch_from = do
    at_catch ← accept (spot_if (is_word reserved.Catch))
    name ← accept name_of
    clauses ← type_clauses
    pure (Some (roll-Catch (record { catch = at_catch; name = name; clauses = clauses })))

  unfoldable pub catch : Parser (Option Catch) n
  catch = fork (sees (is_word reserved.Catch)) catch_from (pure None)

  -- no `finally`, where that may be left out
  abbrev pub no_finally : Bool → Parser (Option Finally) n
  no_finally true = pure None
  no_finally false = wrong

  unfoldable pub finally : Bool → Parser (Option Finally) n
  finally optional = fork (sees (is_word reserved.Finally))
      (do at_finally ← accept (spot_if (is_word reserved.Finally)); b ← block; pure (Some (roll-Finally (record { finally = at_finally; block = b })))) (no_finally optional)

  unfoldable pub next_generator : Eater NextGenerator n
  next_generator = token (spot_if (is_mark mark.Comma)) >>| λ comma. do
    g ← (generator names run false).parser
    pure (roll-NextGenerator (record { comma = comma; generator = g }))

  unfoldable pub next_generators : Parser (List NextGenerator) n
  next_generators = many (sees (is_mark mark.Comma)) next_generator
