-- The chapter "Grammar", expressions: what one level of each says. The code reads a flat expression
-- unit by unit.
use Rattle.std.specs.Prelude.{Bool, true, false, ◌&&◌, ◌||◌, not, List, [], ◌∷◌, ◌++◌, Option, Some, None, option_map}
use Rattle.fort_ops.specs.declared.op.Op.TheVariants as op
use Rattle.fort_lex_token.specs.declared.token.Token.{Token}
use Rattle.fort_lex_token.specs.declared.token.Kind.TheVariants as kind
use Rattle.fort_lex_token.specs.declared.marks.Mark.TheVariants as mark
use Rattle.fort_lex_token.specs.declared.reserved.Reserved.TheVariants as reserved
use Rattle.fort_tree.specs.declared.declarations.Parameters.{Parameters}
use Rattle.fort_tree.specs.declared.expr.AssignSign.{AssignSign}
use Rattle.fort_tree.specs.declared.expr.AssignSign.TheVariants as assign_sign
use Rattle.fort_tree.specs.declared.expr.Big.{Big}
use Rattle.fort_tree.specs.declared.expr.Big.TheVariants as big_word
use Rattle.fort_tree.specs.declared.expr.Prefix.{Prefix}
use Rattle.fort_tree.specs.declared.expr.Prefix.TheVariants as a_prefix
use Rattle.fort_tree.specs.declared.delimited.Delimited.TheOpen.{Atom-F, Expr-F, FlatPart-F, Generator-F, Head-F, Postfix-F, RunPart-F}
use Rattle.fort_tree.specs.Tokens.{token, word, marked, operator, named, signed, is_empty, is_line, is_dot, is_open_paren, is_infix, is_spelled}
use Rattle.fort_tree.specs.Said.{Said, in_brackets, elsewhere, tokens_of, gap_of, all_tokens, all_obey, maybe_tokens, maybe_obeys}
use Rattle.fort_tree.specs.Types.{said_type, said_parameters}
use Rattle.fort_tree.specs.Levels.{OfAtom, OfExpr, OfFlatPart, OfGenerator, OfHead, OfPostfix, OfRunPart, OfExprList, OfFlat, OfNextExpr, OfOperand, OfRun}

-- ---- Expr

-- the sign of an assignment
abbrev pub assign_token : AssignSign → Token
assign_token (assign_sign.Becomes s) = marked mark.Becomes s
assign_token (assign_sign.AddBecomes s) = marked mark.AddBecomes s
assign_token (assign_sign.SubtractBecomes s) = marked mark.SubtractBecomes s

-- Only an expression that is a flat expression itself stands directly in its brackets.
abbrev pub expr_step : OfExpr → Said
expr_step (Expr-F.Flat flat) = flat
expr_step (Expr-F.Assign target sign head value) = record {
  first = target.first;
  more = target.more ++ assign_token sign ∷ (maybe_tokens head ++ tokens_of value);
  obeys = λ names allowed. target.obeys names elsewhere
      && (maybe_obeys names elsewhere head && value.obeys names elsewhere);
}
expr_step (Expr-F.Open head body) = record {
  first = head.first;
  more = head.more ++ tokens_of body;
  obeys = λ names allowed. head.obeys names elsewhere && body.obeys names elsewhere;
}
expr_step (Expr-F.OpenAssign head target sign value) = record {
  first = head.first;
  more = head.more ++ (tokens_of target ++ assign_token sign ∷ tokens_of value);
  obeys = λ names allowed. head.obeys names elsewhere
      && (target.obeys names elsewhere && value.obeys names elsewhere);
}

-- ---- Head, Big, Gen

-- what the parameters say, where there are some
abbrev pub maybe_parameters : Option Parameters → Option Said
maybe_parameters list = option_map said_parameters list

-- the first word of a reduction
abbrev pub big_first : Big → Token
big_first (big_word.Sum s) = word reserved.Sum s
big_first (big_word.Prod s) = word reserved.Prod s
big_first (big_word.Max s t) = word reserved.Big s
big_first (big_word.Min s t) = word reserved.Big s
big_first (big_word.And s t) = word reserved.Big s
big_first (big_word.Or s t) = word reserved.Big s

-- the operator behind `BIG`
abbrev pub big_more : Big → List Token
big_more (big_word.Sum s) = []
big_more (big_word.Prod s) = []
big_more (big_word.Max s t) = operator op.Max t ∷ []
big_more (big_word.Min s t) = operator op.Min t ∷ []
big_more (big_word.And s t) = operator op.And t ∷ []
big_more (big_word.Or s t) = operator op.Or t ∷ []

-- what a head says
abbrev pub head_step : OfHead → Said
head_step (Head-F.Atomic s) =
    record { first = word reserved.Atomic s; more = []; obeys = λ names allowed. true }
head_step (Head-F.Tryatomic s) =
    record { first = word reserved.Tryatomic s; more = []; obeys = λ names allowed. true }
head_step (Head-F.Throw s) =
    record { first = word reserved.Throw s; more = []; obeys = λ names allowed. true }
head_step (Head-F.Spawn s) =
    record { first = word reserved.Spawn s; more = []; obeys = λ names allowed. true }
head_step (Head-F.Fn s left parameters right arrow) = record {
  first = word reserved.Fn s;
  more = marked mark.OpenParen left
      ∷ (maybe_tokens (maybe_parameters parameters) ++ marked mark.CloseParen right
      ∷ marked mark.DoubleArrow arrow ∷ []);
  obeys = λ names allowed. maybe_obeys names elsewhere (maybe_parameters parameters);
}
head_step (Head-F.Big big left generator right) = record {
  first = big_first big;
  more = big_more big ++ marked mark.OpenBracket left
      ∷ (tokens_of generator ++ marked mark.CloseBracket right ∷ []);
  obeys = λ names allowed. generator.obeys names elsewhere;
}

-- The source of a generator of a `for` stands before its `do`, unless it stands in the parentheses
-- of `seq`.
abbrev pub generator_step : OfGenerator → Said
generator_step (Generator-F.Parallel name arrow source) = record {
  first = named name;
  more = marked mark.LeftArrow arrow ∷ tokens_of source;
  obeys = λ names allowed. source.obeys names allowed;
}
generator_step (Generator-F.Sequential name arrow seq left source right) = record {
  first = named name;
  more = marked mark.LeftArrow arrow ∷ word reserved.Seq seq ∷ marked mark.OpenParen left
      ∷ (tokens_of source ++ marked mark.CloseParen right ∷ []);
  obeys = λ names allowed. source.obeys names elsewhere;
}

-- ---- Flat, Unit

-- what a flat expression says: its units in their order, with the operators between them
abbrev pub flat_step : OfFlat → Said
flat_step flat = record {
  first = flat.first.first;
  more = flat.first.more ++ all_tokens flat.rest;
  obeys = λ names allowed. flat.first.obeys names allowed && all_obey names allowed flat.rest;
}

-- Two runs have a gap between them. A new line before a run or an operator that stands behind a run
-- is for brackets.
abbrev pub flat_part_step : OfFlatPart → Said
flat_part_step (FlatPart-F.Run run) = record {
  first = run.first;
  more = run.more;
  obeys = λ names allowed. not (is_empty (gap_of run))
      && ((allowed.lines || not (is_line (gap_of run))) && run.obeys names allowed);
}
flat_part_step (FlatPart-F.Infix sign operand) = record {
  first = signed sign;
  more = tokens_of operand;
  obeys = λ names allowed. is_infix sign.op
      && ((allowed.lines || not (is_line sign.spot.gap)) && operand.obeys names allowed);
}

-- a run behind its prefix operator, where it has one
abbrev pub prefixed : Option Prefix → Said → Said
prefixed None run = run
prefixed (Some (a_prefix.Minus s)) run =
    record { first = operator op.Minus s; more = tokens_of run; obeys = run.obeys }
prefixed (Some (a_prefix.Not s)) run =
    record { first = operator op.Not s; more = tokens_of run; obeys = run.obeys }

-- what a unit says
abbrev pub operand_step : OfOperand → Said
operand_step operand = prefixed operand.prefix operand.run

-- ---- Run, Postfix

-- whether there are no further tokens but one
abbrev pub is_one : List Token → Bool
is_one [] = false
is_one (t ∷ []) = true
is_one (t ∷ u ∷ ts) = false

-- whether a part of a run is a dotted name without arguments: a `.` and one more token
abbrev pub is_field : Said → Bool
is_field x = is_dot x.first.kind && is_one x.more

-- whether the first of several trees begins with `(`
abbrev pub begins_with_paren : List Said → Bool
begins_with_paren [] = false
begins_with_paren (x ∷ xs) = is_open_paren x.first.kind

-- A `(` directly after a dotted name begins that method call's arguments, so it begins no part of
-- its own there.
abbrev pub calls_are_whole : List Said → Bool
calls_are_whole [] = true
calls_are_whole (x ∷ xs) = not (is_field x && begins_with_paren xs) && calls_are_whole xs

-- what a run says: its atoms and postfixes in their order
abbrev pub run_step : OfRun → Said
run_step run = record {
  first = run.first.first;
  more = run.first.more ++ all_tokens run.rest;
  obeys = λ names allowed. run.first.obeys names allowed
      && (all_obey names allowed run.rest && calls_are_whole run.rest);
}

-- No gap stands before a part of a run.
abbrev pub run_part_step : OfRunPart → Said
run_part_step (RunPart-F.Atom atom) = record {
  first = atom.first;
  more = atom.more;
  obeys = λ names allowed. is_empty (gap_of atom) && atom.obeys names allowed;
}
run_part_step (RunPart-F.Postfix postfix) = record {
  first = postfix.first;
  more = postfix.more;
  obeys = λ names allowed. is_empty (gap_of postfix) && postfix.obeys names allowed;
}

-- No gap stands in a postfix before what is in its brackets.
abbrev pub postfix_step : OfPostfix → Said
postfix_step (Postfix-F.Subscript left index right) = record {
  first = marked mark.OpenBracket left;
  more = tokens_of index ++ marked mark.CloseBracket right ∷ [];
  obeys = λ names allowed. index.obeys names in_brackets;
}
postfix_step (Postfix-F.Power power exponent) = record {
  first = operator op.Power power;
  more = tokens_of exponent;
  obeys = λ names allowed. is_empty (gap_of exponent) && exponent.obeys names allowed;
}
postfix_step (Postfix-F.Field dot name) = record {
  first = marked mark.Dot dot;
  more = named name ∷ [];
  obeys = λ names allowed. is_empty name.spot.gap;
}
postfix_step (Postfix-F.Call dot name left arguments right) = record {
  first = marked mark.Dot dot;
  more = named name ∷ marked mark.OpenParen left
      ∷ (maybe_tokens arguments ++ marked mark.CloseParen right ∷ []);
  obeys = λ names allowed. is_empty name.spot.gap
      && (is_empty left.gap && maybe_obeys names in_brackets arguments);
}

-- ---- Atom

-- a tree of one token
abbrev pub alone : Token → Said
alone t = record { first = t; more = []; obeys = λ names allowed. true }

-- what an atom says
abbrev pub atom_step : OfAtom → Said
atom_step (Atom-F.Name name) = alone (named name)
atom_step (Atom-F.Number value s) = alone (token (kind.Number value) s)
atom_step (Atom-F.Text text s) = alone (token (kind.Text text) s)
atom_step (Atom-F.True s) = alone (word reserved.True s)
atom_step (Atom-F.False s) = alone (word reserved.False s)
atom_step (Atom-F.Self_ s) = alone (word reserved.Self_ s)
atom_step (Atom-F.Parens left contents right) = record {
  first = marked mark.OpenParen left;
  more = maybe_tokens contents ++ marked mark.CloseParen right ∷ [];
  obeys = λ names allowed. maybe_obeys names in_brackets contents;
}
atom_step (Atom-F.Delimited form) = form
atom_step (Atom-F.ArrayFill spots element size value) = record {
  first = word reserved.Array spots.array;
  more = marked mark.OpenStatic spots.left
      ∷ (tokens_of (said_type element) ++ marked mark.CloseStatic spots.right
      ∷ marked mark.OpenParen spots.size_left
      ∷ (tokens_of size ++ marked mark.CloseParen spots.size_right ∷ marked mark.Dot spots.dot
      ∷ named spots.fill ∷ marked mark.OpenParen spots.value_left
      ∷ (tokens_of value ++ marked mark.CloseParen spots.value_right ∷ [])));
  obeys = λ names allowed. (is_empty spots.left.gap
      && (is_empty spots.size_left.gap
      && (is_empty spots.dot.gap
      && (is_empty spots.fill.spot.gap && is_empty spots.value_left.gap))))
      && (is_spelled "fill" names spots.fill
      && ((said_type element).obeys names elsewhere
      && (size.obeys names in_brackets && value.obeys names in_brackets)));
}

-- what a list of expressions says
abbrev pub expr_list_step : OfExprList → Said
expr_list_step list = record {
  first = list.first.first;
  more = list.first.more ++ all_tokens list.others;
  obeys = λ names allowed. list.first.obeys names allowed && all_obey names allowed list.others;
}

-- what a further expression of a list says: a comma, and it
abbrev pub next_expr_step : OfNextExpr → Said
next_expr_step next = record {
  first = marked mark.Comma next.comma;
  more = tokens_of next.expr;
  obeys = λ names allowed. next.expr.obeys names allowed;
}
