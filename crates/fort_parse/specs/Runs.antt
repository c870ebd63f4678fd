-- The productions of atoms and runs as parsers, over one of runs with a smaller budget; and those
-- of expressions and blocks.
use Rattle.std.specs.Prelude.{ℕ, zero, suc, Bool, true, false, List, Option, Some, None, codes}
use Rattle.fort_lex_token.specs.declared.token.Kind.{Kind}
use Rattle.fort_lex_token.specs.declared.token.Kind.TheVariants as kind
use Rattle.fort_lex_token.specs.declared.token.Token.{Token}
use Rattle.fort_lex_token.specs.declared.marks.Mark.{Mark}
use Rattle.fort_lex_token.specs.declared.marks.Mark.TheVariants as mark
use Rattle.fort_lex_token.specs.declared.reserved.Reserved.{Reserved}
use Rattle.fort_lex_token.specs.declared.reserved.Reserved.TheVariants as reserved
use Rattle.fort_tree.specs.declared.spot.Spot.{Spot}
use Rattle.fort_tree.specs.declared.spot.Name.{Name}
use Rattle.fort_tree.specs.declared.types.TypeTree.{TypeTree}
use Rattle.fort_tree.specs.declared.expr.Atom.{Atom}
use Rattle.fort_tree.specs.declared.expr.Atom.TheVariants as an_atom
use Rattle.fort_tree.specs.declared.expr.Expr.{Expr}
use Rattle.fort_tree.specs.declared.expr.Generator.{Generator}
use Rattle.fort_tree.specs.declared.expr.Postfix.{Postfix}
use Rattle.fort_tree.specs.declared.expr.Postfix.TheVariants as a_postfix
use Rattle.fort_tree.specs.declared.expr.RunPart.{RunPart}
use Rattle.fort_tree.specs.declared.expr.RunPart.TheVariants as a_run_part
use Rattle.fort_tree.specs.declared.declarations.Variable.{Variable}
use Rattle.fort_tree.specs.declared.delimited.BlockItem.{BlockItem}
use Rattle.fort_tree.specs.declared.delimited.CaseClause.{out-CaseClause}
use Rattle.fort_tree.specs.declared.delimited.Delimited.{Delimited}
use Rattle.fort_tree.specs.declared.delimited.Delimited.TheVariants as a_delimited
use Rattle.fort_tree.specs.declared.delimited.NextGenerator.{NextGenerator}
use Rattle.fort_tree.specs.declared.delimited.TypeClause.{out-TypeClause}
use Rattle.fort_tree.specs.declared.expr.Flat.{Flat}
use Rattle.fort_tree.specs.declared.expr.Run.{Run, roll-Run}
use Rattle.fort_tree.specs.Tokens.{Spellings, is_empty}
use Rattle.fort_parse_reading.specs.Parser.{Parser, Eater, pure, wrong, ◌>>=◌, fork, fork_eater, token, accept, choose, no_eater, no_budget, ◌>>>◌, ◌>>|◌, many_more}
use Rattle.fort_parse_reading.specs.Words.{is_mark, is_word, is_eq, is_power, spot_of, spot_if, tight, name_of, called_of, sees, sees_tight}
use Rattle.fort_parse_types.specs.Types.{type_tree}
use Rattle.fort_tree.specs.Said.{is_there}
use Rattle.fort_parse_first.specs.Beginnings.{begins_postfix, begins_run_part, is_next_tight}
use Rattle.fort_parse.specs.Flats.{flat, generator, expr, maybe_list}
use Rattle.fort_parse.specs.Flats as flats
use Rattle.fort_parse.specs.Blocks.{last_ended, block, case_clauses, type_clauses, else_clause, also_blocks, elifs, else_block, catch, finally, next_generators}
use Rattle.fort_parse.specs.Blocks as blocks_of

-- ---- atoms of one token

abbrev pub word_literal : Spot → Reserved → Option Atom
word_literal s reserved.True = Some (an_atom.True s)
word_literal s reserved.False = Some (an_atom.False s)
word_literal s reserved.Self_ = Some (an_atom.Self_ s)
word_literal s _ = None

abbrev pub literal_in : Spot → Kind → Option Atom
literal_in s (kind.Word w) = word_literal s w
literal_in s (kind.Name id) = Some (an_atom.Name (record { id = id; spot = s }))
literal_in s (kind.Number value) = Some (an_atom.Number value s)
literal_in s (kind.Text text) = Some (an_atom.Text text s)
literal_in s _ = None

-- the atom that a token alone is
unfoldable pub literal_of : Token → Option Atom
literal_of t = literal_in (spot_of t) t.kind

module _ (names : Spellings) {n : ℕ} (run : Bool → Eater Run n) where
  -- ---- the forms that end with `end`

  unfoldable pub do_form : Spot → Parser Delimited n
  do_form at_do = do
    b ← block names run
    others ← also_blocks names run
    end ← accept (spot_if (is_word reserved.End))
    pure (a_delimited.Do at_do b others end)

  unfoldable pub if_rest : Spot → Flat → Spot → List BlockItem → Parser Delimited n
  if_rest at_if condition then b = do
    others ← elifs names run
    otherwise ← else_block names run
    end ← accept (spot_if (is_word reserved.End))
    pure (a_delimited.If at_if condition then b others otherwise end)

  unfoldable pub if_form : Spot → Parser Delimited n
  if_form at_if = do
    condition ← (flat names run true).parser
    then ← accept (spot_if (is_word reserved.Then))
    b ← block names run
    if_rest at_if condition then b

  unfoldable pub while_form : Spot → Parser Delimited n
  while_form at_while = do
    condition ← (flat names run false).parser
    at_do ← accept (spot_if (is_word reserved.Do))
    b ← block names run
    end ← accept (spot_if (is_word reserved.End))
    pure (a_delimited.While at_while condition at_do b end)

  unfoldable pub for_rest : Spot → Generator → List NextGenerator → Parser Delimited n
  for_rest at_for g others = do
    at_do ← accept (spot_if (is_word reserved.Do))
    b ← block names run
    end ← accept (spot_if (is_word reserved.End))
    pure (a_delimited.For at_for g others at_do b end)

  unfoldable pub for_form : Spot → Parser Delimited n
  for_form at_for = do
    g ← (generator names run false).parser
    others ← next_generators names run
    for_rest at_for g others

  unfoldable pub case_rest : Spot → Flat → Spot → Parser Delimited n
  case_rest at_case subject of = do
    clauses ← case_clauses names run
    otherwise ← else_clause names run (last_ended (λ c. (out-CaseClause c).semicolon) clauses)
    end ← accept (spot_if (is_word reserved.End))
    pure (a_delimited.Case at_case subject of clauses otherwise end)

  unfoldable pub case_form : Spot → Parser Delimited n
  case_form at_case = do
    subject ← (flat names run true).parser
    of ← accept (spot_if (is_word reserved.Of))
    case_rest at_case subject of

  unfoldable pub typecase_rest : Spot → Name → Spot → Flat → Spot → Parser Delimited n
  typecase_rest at_typecase name equals subject of = do
    clauses ← type_clauses names run
    otherwise ← else_clause names run (last_ended (λ c. (out-TypeClause c).semicolon) clauses)
    end ← accept (spot_if (is_word reserved.End))
    pure (a_delimited.Typecase at_typecase name equals subject of clauses otherwise end)

  unfoldable pub typecase_form : Spot → Parser Delimited n
  typecase_form at_typecase = do
    name ← accept name_of
    equals ← accept (spot_if is_eq)
    subject ← (flat names run true).parser
    of ← accept (spot_if (is_word reserved.Of))
    typecase_rest at_typecase name equals subject of

  unfoldable pub try_form : Spot → Parser Delimited n
  try_form at_try = do
    b ← block names run
    c ← catch names run
    f ← finally names run (is_there c)
    end ← accept (spot_if (is_word reserved.End))
    pure (a_delimited.Try at_try b c f end)

  abbrev pub word_form : Reserved → Eater Delimited (suc n)
  word_form reserved.Do = token (spot_if (is_word reserved.Do)) >>> do_form
  word_form reserved.If = token (spot_if (is_word reserved.If)) >>> if_form
  word_form reserved.While = token (spot_if (is_word reserved.While)) >>> while_form
  word_form reserved.For = token (spot_if (is_word reserved.For)) >>> for_form
  word_form reserved.Case = token (spot_if (is_word reserved.Case)) >>> case_form
  word_form reserved.Typecase = token (spot_if (is_word reserved.Typecase)) >>> typecase_form
  word_form reserved.Try = token (spot_if (is_word reserved.Try)) >>> try_form
  word_form _ = no_eater

  abbrev pub form_for : Kind → Eater Delimited (suc n)
  form_for (kind.Word w) = word_form w
  form_for _ = no_eater

  abbrev pub form_by : Option Token → Eater Delimited (suc n)
  form_by None = no_eater
  form_by (Some t) = form_for t.kind

  unfoldable pub delimited : Eater Delimited (suc n)
  delimited = choose form_by

  -- ---- atoms

  unfoldable pub parens : Spot → Parser Atom n
  parens left = do
    contents ← maybe_list names run
    right ← accept (spot_if (is_mark mark.CloseParen))
    pure (an_atom.Parens left contents right)

  unfoldable pub fill_value : Spot → Spot → TypeTree → Spot → Spot → Expr → Spot → Parser Atom n
  fill_value array left element right size_left size size_right = do
    dot ← accept (tight (spot_if (is_mark mark.Dot)))
    fill ← accept (tight (called_of (codes "fill") names))
    value_left ← accept (tight (spot_if (is_mark mark.OpenParen)))
    value ← (expr names run true).parser
    value_right ← accept (spot_if (is_mark mark.CloseParen))
    pure (an_atom.ArrayFill
        (record {
          array = array;
          left = left;
          right = right;
          size_left = size_left;
          size_right = size_right;
          dot = dot;
          fill = fill;
          value_left = value_left;
          value_right = value_right;
        }) element size value)

  unfoldable pub fill_size : Spot → Spot → TypeTree → Spot → Parser Atom n
  fill_size array left element right = do
    size_left ← accept (tight (spot_if (is_mark mark.OpenParen)))
    size ← (expr names run true).parser
    size_right ← accept (spot_if (is_mark mark.CloseParen))
    fill_value array left element right size_left size size_right

  unfoldable pub array_fill : Spot → Parser Atom n
  array_fill array = do
    left ← accept (tight (spot_if (is_mark mark.OpenStatic)))
    element ← (type_tree names n).parser
    right ← accept (spot_if (is_mark mark.CloseStatic))
    fill_size array left element right

  abbrev pub form_atom : Eater Atom (suc n)
  form_atom = delimited >>| λ d. pure (an_atom.Delimited d)

  -- a `do` that may begin an atom or not
  abbrev pub do_atom : Bool → Eater Atom (suc n)
  do_atom true = form_atom
  do_atom false = no_eater

  abbrev pub word_atom : Bool → Reserved → Eater Atom (suc n)
  word_atom blocks reserved.True = token literal_of
  word_atom blocks reserved.False = token literal_of
  word_atom blocks reserved.Self_ = token literal_of
  word_atom blocks reserved.Array = token (spot_if (is_word reserved.Array)) >>> array_fill
  word_atom blocks reserved.Do = do_atom blocks
  word_atom blocks reserved.If = form_atom
  word_atom blocks reserved.While = form_atom
  word_atom blocks reserved.For = form_atom
  word_atom blocks reserved.Case = form_atom
  word_atom blocks reserved.Typecase = form_atom
  word_atom blocks reserved.Try = form_atom
  word_atom blocks _ = no_eater

  abbrev pub mark_atom : Mark → Eater Atom (suc n)
  mark_atom mark.OpenParen = token (spot_if (is_mark mark.OpenParen)) >>> parens
  mark_atom _ = no_eater

  abbrev pub atom_for : Bool → Kind → Eater Atom (suc n)
  atom_for blocks (kind.Word w) = word_atom blocks w
  atom_for blocks (kind.Name v) = token literal_of
  atom_for blocks (kind.Number v) = token literal_of
  atom_for blocks (kind.Text v) = token literal_of
  atom_for blocks (kind.Op o) = no_eater
  atom_for blocks (kind.Mark m) = mark_atom m

  abbrev pub atom_by : Bool → Option Token → Eater Atom (suc n)
  atom_by blocks None = no_eater
  atom_by blocks (Some t) = atom_for blocks t.kind

  unfoldable pub atom : Bool → Eater Atom (suc n)
  atom blocks = choose (atom_by blocks)

  -- ---- postfixes

  unfoldable pub subscript : Spot → Parser Postfix n
  subscript left = do
    index ← (expr names run true).parser
    right ← accept (spot_if (is_mark mark.CloseBracket))
    pure (a_postfix.Subscript left index right)

  unfoldable pub tight_atom : Bool → Parser Atom (suc n)
  tight_atom blocks = fork is_next_tight (atom blocks).parser wrong

  unfoldable pub method_call : Spot → Name → Parser Postfix n
  method_call dot name = do
    left ← accept (tight (spot_if (is_mark mark.OpenParen)))
    arguments ← maybe_list names run
    right ← accept (spot_if (is_mark mark.CloseParen))
    pure (a_postfix.Call dot name left arguments right)

  unfoldable pub dotted : Spot → Parser Postfix n
  dotted dot = do
    name ← accept (tight name_of)
    fork (sees_tight (is_mark mark.OpenParen)) (method_call dot name)
        (pure (a_postfix.Field dot name))

  abbrev pub mark_postfix : Mark → Eater Postfix (suc n)
  mark_postfix mark.OpenBracket = token (spot_if (is_mark mark.OpenBracket)) >>> subscript
  mark_postfix mark.Dot = token (spot_if (is_mark mark.Dot)) >>> dotted
  mark_postfix _ = no_eater

  abbrev pub postfix_for : Bool → Kind → Eater Postfix (suc n)
  postfix_for blocks (kind.Op o) = token (spot_if is_power) >>| λ power. do exponent ← tight_atom blocks; pure (a_postfix.Power power exponent)
  postfix_for blocks (kind.Mark m) = mark_postfix m
  postfix_for blocks _ = no_eater

  abbrev pub postfix_by : Bool → Option Token → Eater Postfix (suc n)
  postfix_by blocks None = no_eater
  postfix_by blocks (Some t) = postfix_for blocks t.kind

  unfoldable pub postfix : Bool → Eater Postfix (suc n)
  postfix blocks = choose (postfix_by blocks)

  -- ---- runs

  unfoldable pub run_part : Bool → Eater RunPart (suc n)
  run_part blocks =
      fork_eater (sees begins_postfix) (postfix blocks >>| λ p. pure (a_run_part.Postfix p))
      (atom blocks >>| λ a. pure (a_run_part.Atom a))

  unfoldable pub run_parts : Bool → Parser (List RunPart) n
  run_parts blocks = many_more (begins_run_part blocks) (run_part blocks)

  unfoldable pub run_level : Bool → Eater Run (suc n)
  run_level blocks = atom blocks >>> λ first. do
    rest ← run_parts blocks
    pure (roll-Run (record { first = first; rest = rest }))

-- a run, with that budget
unfoldable pub run_at : Spellings → (n : ℕ) → Bool → Eater Run n
run_at names zero blocks = no_budget
run_at names (suc n) blocks = run_level names (run_at names n) blocks

-- an expression, with that budget
unfoldable pub expr_at : Spellings → (n : ℕ) → Bool → Eater Expr n
expr_at names n lines = flats.expr names (run_at names n) lines

-- a declaration of a variable behind its name, with that budget
unfoldable pub variable_at : Spellings → (n : ℕ) → Option Spot → Name → Parser Variable n
variable_at names n var name = blocks_of.variable_from names (run_at names n) var name
