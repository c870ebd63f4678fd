-- The productions of expressions as parsers, over one of runs. A parser of flat expressions is told
-- whether an atom of its own may begin with `do`, one of expressions whether new lines may stand
-- between its units.
use Rattle.std.specs.Prelude.{ℕ, Bool, true, false, List, [], ◌++◌, Option, Some, None}
use Rattle.fort_lex_token.specs.declared.token.Kind.{Kind}
use Rattle.fort_lex_token.specs.declared.token.Kind.TheVariants as kind
use Rattle.fort_lex_token.specs.declared.token.Token.{Token}
use Rattle.fort_lex_token.specs.declared.marks.Mark.TheVariants as mark
use Rattle.fort_lex_token.specs.declared.reserved.Reserved.{Reserved}
use Rattle.fort_lex_token.specs.declared.reserved.Reserved.TheVariants as reserved
use Rattle.fort_tree.specs.declared.spot.Spot.{Spot}
use Rattle.fort_tree.specs.declared.spot.Name.{Name}
use Rattle.fort_tree.specs.declared.expr.AssignSign.{AssignSign}
use Rattle.fort_tree.specs.declared.expr.Big.{Big}
use Rattle.fort_tree.specs.declared.expr.Big.TheVariants as big_word
use Rattle.fort_tree.specs.declared.expr.Expr.{Expr}
use Rattle.fort_tree.specs.declared.expr.Expr.TheVariants as an_expr
use Rattle.fort_tree.specs.declared.expr.FlatPart.{FlatPart}
use Rattle.fort_tree.specs.declared.expr.FlatPart.TheVariants as a_flat_part
use Rattle.fort_tree.specs.declared.expr.Generator.{Generator}
use Rattle.fort_tree.specs.declared.expr.Generator.TheVariants as a_generator
use Rattle.fort_tree.specs.declared.expr.Head.{Head}
use Rattle.fort_tree.specs.declared.expr.Head.TheVariants as a_head
use Rattle.fort_tree.specs.declared.expr.ExprList.{ExprList, roll-ExprList}
use Rattle.fort_tree.specs.declared.expr.Flat.{Flat, roll-Flat}
use Rattle.fort_tree.specs.declared.expr.NextExpr.{NextExpr, roll-NextExpr}
use Rattle.fort_tree.specs.declared.expr.Operand.{Operand, roll-Operand}
use Rattle.fort_tree.specs.declared.expr.Run.{Run}
use Rattle.fort_tree.specs.Tokens.{Spellings}
use Rattle.fort_parse_reading.specs.Parser.{Parser, Eater, pure, ◌>>=◌, fork, fork_eater, token, accept, choose, no_eater, ◌>>|◌, many}
use Rattle.fort_parse_reading.specs.Words.{is_mark, is_word, spot_if, name_of, sign_of, prefix_of, assign_of, big_of, sees}
use Rattle.fort_parse_types.specs.Types.{maybe_parameters}
use Rattle.fort_parse_first.specs.Beginnings.{is_prefix, is_infix_kind, begins_flat_part, begins_head, assigns}

module _ (names : Spellings) {n : ℕ} (run : Bool → Eater Run n) where
  unfoldable pub prefixed : Bool → Eater Operand n
  prefixed blocks = token prefix_of >>| λ prefix. do
    r ← (run blocks).parser
    pure (roll-Operand (record { prefix = Some prefix; run = r }))

  unfoldable pub operand : Bool → Eater Operand n
  operand blocks =
      fork_eater (sees is_prefix) (prefixed blocks)
      (run blocks >>| λ r. pure (roll-Operand (record { prefix = None; run = r })))

  unfoldable pub infix_part : Bool → Eater FlatPart n
  infix_part blocks = token sign_of >>| λ sign. do
    o ← (operand blocks).parser
    pure (a_flat_part.Infix sign o)

  unfoldable pub flat_part : Bool → Eater FlatPart n
  flat_part blocks =
      fork_eater (sees is_infix_kind) (infix_part blocks)
      (run blocks >>| λ r. pure (a_flat_part.Run r))

  unfoldable pub flat_parts : List FlatPart → Bool → Bool → Parser (List FlatPart) n
  flat_parts found lines blocks = do
    more ← many (begins_flat_part (record { lines = lines; blocks = blocks })) (flat_part blocks)
    pure (found ++ more)

  unfoldable pub flat : Bool → Eater Flat n
  flat blocks = operand blocks >>| λ first. do
    rest ← flat_parts [] false blocks
    pure (roll-Flat (record { first = first; rest = rest }))

  -- ---- generators and heads

  unfoldable pub sequential : Name → Spot → Parser Generator n
  sequential name arrow = do
    seq ← accept (spot_if (is_word reserved.Seq))
    left ← accept (spot_if (is_mark mark.OpenParen))
    source ← (flat true).parser
    right ← accept (spot_if (is_mark mark.CloseParen))
    pure (a_generator.Sequential name arrow seq left source right)

  unfoldable pub parallel : Bool → Name → Spot → Parser Generator n
  parallel blocks name arrow = do
    source ← (flat blocks).parser
    pure (a_generator.Parallel name arrow source)

  unfoldable pub generator : Bool → Eater Generator n
  generator blocks = token name_of >>| λ name. do
    arrow ← accept (spot_if (is_mark mark.LeftArrow))
    fork (sees (is_word reserved.Seq)) (sequential name arrow) (parallel blocks name arrow)

  unfoldable pub reduction : Big → Parser Head n
  reduction big = do
    left ← accept (spot_if (is_mark mark.OpenBracket))
    generator ← (generator true).parser
    right ← accept (spot_if (is_mark mark.CloseBracket))
    pure (a_head.Big big left generator right)

  unfoldable pub big_reduction : Spot → Parser Head n
  big_reduction s = do
    big ← accept (big_of s)
    reduction big

  unfoldable pub function : Spot → Parser Head n
  function s = do
    left ← accept (spot_if (is_mark mark.OpenParen))
    parameters ← maybe_parameters names n
    right ← accept (spot_if (is_mark mark.CloseParen))
    arrow ← accept (spot_if (is_mark mark.DoubleArrow))
    pure (a_head.Fn s left parameters right arrow)

  abbrev pub word_head : Reserved → Eater Head n
  word_head reserved.Atomic =
      token (spot_if (is_word reserved.Atomic)) >>| λ s. pure (a_head.Atomic s)
  word_head reserved.Tryatomic =
      token (spot_if (is_word reserved.Tryatomic)) >>| λ s. pure (a_head.Tryatomic s)
  word_head reserved.Throw = token (spot_if (is_word reserved.Throw)) >>| λ s. pure (a_head.Throw s)
  word_head reserved.Spawn = token (spot_if (is_word reserved.Spawn)) >>| λ s. pure (a_head.Spawn s)
  word_head reserved.Fn = token (spot_if (is_word reserved.Fn)) >>| function
  word_head reserved.Sum =
      token (spot_if (is_word reserved.Sum)) >>| λ s. reduction (big_word.Sum s)
  word_head reserved.Prod =
      token (spot_if (is_word reserved.Prod)) >>| λ s. reduction (big_word.Prod s)
  word_head reserved.Big = token (spot_if (is_word reserved.Big)) >>| big_reduction
  word_head _ = no_eater

  abbrev pub head_for : Kind → Eater Head n
  head_for (kind.Word w) = word_head w
  head_for _ = no_eater

  abbrev pub head_by : Option Token → Eater Head n
  head_by None = no_eater
  head_by (Some t) = head_for t.kind

  unfoldable pub head : Eater Head n
  head = choose head_by

  -- ---- expressions

  unfoldable pub open_assign : Head → Flat → Parser Expr n
  open_assign h target = do
    sign ← accept assign_of
    value ← (flat true).parser
    pure (an_expr.OpenAssign h target sign value)

  unfoldable pub opened : Head → Parser Expr n
  opened h = do
    body ← (flat true).parser
    fork (sees assigns) (open_assign h body) (pure (an_expr.Open h body))

  unfoldable pub assigned : Flat → AssignSign → Parser Expr n
  assigned target sign = fork (sees begins_head) (do h ← head.parser; value ← (flat true).parser; pure (an_expr.Assign target sign (Some h) value))
      (do value ← (flat true).parser; pure (an_expr.Assign target sign None value))

  unfoldable pub assign : Flat → Parser Expr n
  assign target = do
    sign ← accept assign_of
    assigned target sign

  unfoldable pub flat_more : Bool → Operand → List FlatPart → Parser Expr n
  flat_more lines first found = do
    rest ← flat_parts found lines true
    pure (an_expr.Flat (roll-Flat (record { first = first; rest = rest })))

  -- what goes on behind the first unit; a target has no new line between its units, in brackets
  -- either
  unfoldable pub expr_from : Bool → Operand → Parser Expr n
  expr_from lines first = do
    found ← flat_parts [] false true
    fork (sees assigns) (assign (roll-Flat (record { first = first; rest = found })))
        (flat_more lines first found)

  unfoldable pub expr : Bool → Eater Expr n
  expr lines = fork_eater (sees begins_head) (head >>| opened) (operand true >>| expr_from lines)

  unfoldable pub next_expr : Eater NextExpr n
  next_expr = token (spot_if (is_mark mark.Comma)) >>| λ comma. do
    e ← (expr true).parser
    pure (roll-NextExpr (record { comma = comma; expr = e }))

  unfoldable pub next_exprs : Parser (List NextExpr) n
  next_exprs = many (sees (is_mark mark.Comma)) next_expr

  unfoldable pub expr_list : Eater ExprList n
  expr_list = expr true >>| λ first. do
    others ← next_exprs
    pure (roll-ExprList (record { first = first; others = others }))

  unfoldable pub maybe_list : Parser (Option ExprList) n
  maybe_list = fork (sees (is_mark mark.CloseParen)) (pure None) (do list ← expr_list.parser; pure (Some list))
