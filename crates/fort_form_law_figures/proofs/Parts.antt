-- What a level says holds of its parts: their numbers are ZZ64, and the rules hold in them.
use Rattle.std.proofs.Common.{◌≡◌, true, ◌&&◌, ◌≤◌, List, [], ◌∷◌, ◌++◌, Option, Some, None}
use Rattle.std.specs.List.{AllByRecursion}
use Rattle.fort_lex_token.specs.declared.token.Token.{Token}
use Rattle.fort_tree.specs.Tokens.{Spellings, is_empty, is_spelled}
use Rattle.fort_tree.specs.Said.{Said, SaidEntry, SaidElse, Allowed, in_brackets, elsewhere, before_do, tokens_of, all_tokens, all_obey, maybe_tokens, maybe_obeys, semicolon_tokens, entries_tokens, entries_obey, else_tokens, else_obeys}
use Rattle.fort_tree.specs.Types.{said_type}
use Rattle.fort_tree.specs.Levels.{OfDelimited, OfItem, OfAtom, OfExpr, OfFlatPart, OfGenerator, OfHead, OfPostfix, OfRunPart, OfVariable, OfAlso, OfBlockItem, OfCaseClause, OfCatch, OfElif, OfElseBlock, OfElseClause, OfFinally, OfNextGenerator, OfTypeClause, OfExprList, OfFlat, OfNextExpr, OfOperand, OfRun}
use Rattle.fort_tree.specs.Flats.{expr_step, big_more, head_step, generator_step, flat_step, flat_part_step, prefixed, operand_step, run_step, run_part_step, postfix_step, atom_step, expr_list_step, next_expr_step}
use Rattle.fort_tree.specs.Blocks.{has_next_name, next_names_tokens, variable_step, item_step, block_item_step, also_step, elif_step, else_block_step, finally_step, next_generator_step, case_clause_step, type_clause_step, else_clause_step, catch_step, delimited_step}
use Rattle.fort_tree.specs.declared.delimited.Delimited.TheOpen.{Delimited-F, Item-F, Atom-F, Expr-F, FlatPart-F, Generator-F, Head-F, Postfix-F, RunPart-F}
use Rattle.fort_tree.specs.declared.expr.Prefix.{Prefix}
use Rattle.fort_tree.specs.declared.expr.Prefix.TheVariants as a_prefix
use Rattle.fort_tree.specs.declared.spot.Spot.{Spot}
use Rattle.fort_lex_law_tokens.specs.Numerals.{Fits}
use Rattle.fort_form_law_figures.proofs.Lists.{all_left, all_right, left, right}

abbrev pub Fit : List Token → Type 0
Fit ts = AllByRecursion Fits ts

pub front : (xs ys : List Token) → Fit (xs ++ ys) → Fit xs
front xs ys h = all_left Fits xs ys h

pub back : (xs ys : List Token) → Fit (xs ++ ys) → Fit ys
back xs ys h = all_right Fits xs ys h

module _ (names : Spellings) where
  -- of a tree somewhere in a file
  abbrev pub Reads : Said → Type 0
  Reads s = Fit (tokens_of s) × ((allowed : Allowed) × (s.obeys names allowed ≡ true))

  abbrev pub ReadsAll : List Said → Type 0
  ReadsAll ss = AllByRecursion Reads ss

  abbrev pub ReadsEntry : SaidEntry → Type 0
  ReadsEntry e = Reads e.item

  abbrev pub ReadsEntries : List SaidEntry → Type 0
  ReadsEntries es = AllByRecursion ReadsEntry es

  abbrev pub ReadsMaybe : Option Said → Type 0
  ReadsMaybe None = Unit {0}
  ReadsMaybe (Some s) = Reads s

  abbrev pub ReadsElse : SaidElse → Type 0
  ReadsElse e = Reads e.clause

  abbrev pub ReadsOther : Option SaidElse → Type 0
  ReadsOther None = Unit {0}
  ReadsOther (Some e) = ReadsElse e

  pub all-read : (allowed : Allowed) (ss : List Said) → Fit (all_tokens ss)
      → all_obey names allowed ss ≡ true → ReadsAll ss
  all-read allowed [] h o = tt
  all-read allowed (s ∷ ss) h o = (
    (front (tokens_of s) _ h, (allowed, left _ _ o)),
    all-read allowed ss (back (tokens_of s) _ h) (right _ _ o),
  )

  pub entries-read : (es : List SaidEntry) → Fit (entries_tokens es) → entries_obey names es ≡ true
      → ReadsEntries es
  entries-read [] h o = tt
  entries-read (e ∷ es) h o = (
    (front (tokens_of e.item) _ h, (elsewhere, left _ _ o)),
    entries-read es (back _ _ (back (tokens_of e.item) _ h)) (right _ _ (right _ _ o)),
  )

  pub maybe-reads : (allowed : Allowed) (m : Option Said) → Fit (maybe_tokens m)
      → maybe_obeys names allowed m ≡ true → ReadsMaybe m
  maybe-reads allowed None h o = tt
  maybe-reads allowed (Some s) h o = (h, (allowed, o))

  pub other-reads : (es : List SaidEntry) (m : Option SaidElse) → Fit (else_tokens m)
      → else_obeys names es m ≡ true → ReadsOther m
  other-reads es None h o = tt
  other-reads es (Some e) h o =
      (back (semicolon_tokens e.semicolon) (tokens_of e.clause) h, (elsewhere, right _ _ o))

  -- ---- expressions

  abbrev pub ExprReads : OfExpr → Type 0
  ExprReads (Expr-F.Flat flat) = Reads flat
  ExprReads (Expr-F.Assign target sign head value) = Reads target × ReadsMaybe head × Reads value
  ExprReads (Expr-F.Open head body) = Reads head × Reads body
  ExprReads (Expr-F.OpenAssign head target sign value) = Reads head × Reads target × Reads value

  pub expr-parts : (x : OfExpr) → Reads (expr_step x) → ExprReads x
  expr-parts (Expr-F.Flat flat) h = h
  expr-parts (Expr-F.Assign target sign head value) h =
      let o = h.1.1 in
      let m = back target.more _ h.0.1 in (
        (front (tokens_of target) _ h.0, (elsewhere, left _ _ o)),
        maybe-reads elsewhere head (front _ _ m.1) (left _ _ (right _ _ o)),
        (back (maybe_tokens head) (tokens_of value) m.1, (elsewhere, right _ _ (right _ _ o))),
      )
  expr-parts (Expr-F.Open head body) h =
      let o = h.1.1
      in (
        (front (tokens_of head) _ h.0, (elsewhere, left _ _ o)),
        (back (tokens_of head) (tokens_of body) h.0, (elsewhere, right _ _ o)),
      )
  expr-parts (Expr-F.OpenAssign head target sign value) h =
      let o = h.1.1 in
      let m = back head.more _ h.0.1 in (
        (front (tokens_of head) _ h.0, (elsewhere, left _ _ o)),
        (front (tokens_of target) _ m, (elsewhere, left _ _ (right _ _ o))),
        ((back (tokens_of target) _ m).1, (elsewhere, right _ _ (right _ _ o))),
      )

  abbrev pub HeadReads : OfHead → Type 0
  HeadReads (Head-F.Big big left generator right) = Reads generator
  HeadReads _ = Unit {0}

  pub head-parts : (x : OfHead) → Reads (head_step x) → HeadReads x
  head-parts (Head-F.Atomic s) h = tt
  head-parts (Head-F.Tryatomic s) h = tt
  head-parts (Head-F.Throw s) h = tt
  head-parts (Head-F.Spawn s) h = tt
  head-parts (Head-F.Fn s left parameters right arrow) h = tt
  head-parts (Head-F.Big big at_left generator at_right) h =
      (front (tokens_of generator) _ (back (big_more big) _ h.0.1).1, (elsewhere, h.1.1))

  abbrev pub GeneratorReads : OfGenerator → Type 0
  GeneratorReads (Generator-F.Parallel name arrow source) = Reads source
  GeneratorReads (Generator-F.Sequential name arrow seq left source right) = Reads source

  pub generator-parts : (x : OfGenerator) → Reads (generator_step x) → GeneratorReads x
  generator-parts (Generator-F.Parallel name arrow source) h = (h.0.1.1, h.1)
  generator-parts (Generator-F.Sequential name arrow seq at_left source at_right) h =
      (front (tokens_of source) _ h.0.1.1.1.1, (elsewhere, h.1.1))

  abbrev pub FlatReads : OfFlat → Type 0
  FlatReads x = Reads x.first × ReadsAll x.rest

  pub flat-parts : (x : OfFlat) → Reads (flat_step x) → FlatReads x
  flat-parts x h = (
    (front (tokens_of x.first) _ h.0, (h.1.0, left _ _ h.1.1)),
    all-read h.1.0 x.rest (back x.first.more _ h.0.1) (right _ _ h.1.1),
  )

  abbrev pub FlatPartReads : OfFlatPart → Type 0
  FlatPartReads (FlatPart-F.Run run) = Reads run
  FlatPartReads (FlatPart-F.Infix sign operand) = Reads operand

  pub flat-part-parts : (x : OfFlatPart) → Reads (flat_part_step x) → FlatPartReads x
  flat-part-parts (FlatPart-F.Run run) h = (h.0, (h.1.0, right _ _ (right _ _ h.1.1)))
  flat-part-parts (FlatPart-F.Infix sign operand) h = (h.0.1, (h.1.0, right _ _ (right _ _ h.1.1)))

  behind-prefix : (o : Option Prefix) (run : Said) → Reads (prefixed o run) → Reads run
  behind-prefix None run h = h
  behind-prefix (Some (a_prefix.Minus s)) run h = (h.0.1, h.1)
  behind-prefix (Some (a_prefix.Not s)) run h = (h.0.1, h.1)

  abbrev pub OperandReads : OfOperand → Type 0
  OperandReads x = Reads x.run

  pub operand-parts : (x : OfOperand) → Reads (operand_step x) → OperandReads x
  operand-parts x h = behind-prefix x.prefix x.run h

  abbrev pub RunReads : OfRun → Type 0
  RunReads x = Reads x.first × ReadsAll x.rest

  pub run-parts : (x : OfRun) → Reads (run_step x) → RunReads x
  run-parts x h = (
    (front (tokens_of x.first) _ h.0, (h.1.0, left _ _ h.1.1)),
    all-read h.1.0 x.rest (back x.first.more _ h.0.1) (left _ _ (right _ _ h.1.1)),
  )

  abbrev pub RunPartReads : OfRunPart → Type 0
  RunPartReads (RunPart-F.Atom atom) = Reads atom
  RunPartReads (RunPart-F.Postfix postfix) = Reads postfix

  pub run-part-parts : (x : OfRunPart) → Reads (run_part_step x) → RunPartReads x
  run-part-parts (RunPart-F.Atom atom) h = (h.0, (h.1.0, right _ _ h.1.1))
  run-part-parts (RunPart-F.Postfix postfix) h = (h.0, (h.1.0, right _ _ h.1.1))

  abbrev pub PostfixReads : OfPostfix → Type 0
  PostfixReads (Postfix-F.Subscript left index right) = Reads index
  PostfixReads (Postfix-F.Power power exponent) = Reads exponent
  PostfixReads (Postfix-F.Field dot name) = Unit {0}
  PostfixReads (Postfix-F.Call dot name left arguments right) = ReadsMaybe arguments

  pub postfix-parts : (x : OfPostfix) → Reads (postfix_step x) → PostfixReads x
  postfix-parts (Postfix-F.Subscript at_left index at_right) h =
      (front (tokens_of index) _ h.0.1, (in_brackets, h.1.1))
  postfix-parts (Postfix-F.Power power exponent) h = (h.0.1, (h.1.0, right _ _ h.1.1))
  postfix-parts (Postfix-F.Field dot name) h = tt
  postfix-parts (Postfix-F.Call dot name at_left arguments at_right) h =
      maybe-reads in_brackets arguments (front _ _ h.0.1.1.1) (right _ _ (right _ _ h.1.1))

  abbrev pub AtomReads : OfAtom → Type 0
  AtomReads (Atom-F.Number value s) = value ≤ 9223372036854775807
  AtomReads (Atom-F.Parens left contents right) = ReadsMaybe contents
  AtomReads (Atom-F.Delimited form) = Reads form
  AtomReads (Atom-F.ArrayFill spots element size value) = Reads size × Reads value
  AtomReads _ = Unit {0}

  pub atom-parts : (x : OfAtom) → Reads (atom_step x) → AtomReads x
  atom-parts (Atom-F.Name name) h = tt
  atom-parts (Atom-F.Number value s) h = h.0.0
  atom-parts (Atom-F.Text text s) h = tt
  atom-parts (Atom-F.True s) h = tt
  atom-parts (Atom-F.False s) h = tt
  atom-parts (Atom-F.Self_ s) h = tt
  atom-parts (Atom-F.Parens at_left contents at_right) h =
      maybe-reads in_brackets contents (front _ _ h.0.1) h.1.1
  atom-parts (Atom-F.Delimited form) h = h
  atom-parts (Atom-F.ArrayFill spots element size value) h =
      let m = (back (tokens_of (said_type element)) _ h.0.1.1).1.1 in
      let gaps = is_empty spots.left.gap && (is_empty spots.size_left.gap &&
      (is_empty spots.dot.gap && (is_empty spots.fill.spot.gap && is_empty spots.value_left.gap)))
      in
      let parts = size.obeys names in_brackets && value.obeys names in_brackets in
      let typed = (said_type element).obeys names elsewhere && parts in
      let spelled = is_spelled "fill" names spots.fill in
      let o = right ((said_type element).obeys names elsewhere) parts
      (right spelled typed (right gaps (spelled && typed) h.1.1)) in (
        (front (tokens_of size) _ m, (in_brackets, left _ _ o)),
        (
          front (tokens_of value) _ (back (tokens_of size) _ m).1.1.1.1,
          (in_brackets, right _ _ o),
        ),
      )

  abbrev pub ExprListReads : OfExprList → Type 0
  ExprListReads x = Reads x.first × ReadsAll x.others

  pub expr-list-parts : (x : OfExprList) → Reads (expr_list_step x) → ExprListReads x
  expr-list-parts x h = (
    (front (tokens_of x.first) _ h.0, (h.1.0, left _ _ h.1.1)),
    all-read h.1.0 x.others (back x.first.more _ h.0.1) (right _ _ h.1.1),
  )

  abbrev pub NextExprReads : OfNextExpr → Type 0
  NextExprReads x = Reads x.expr

  pub next-expr-parts : (x : OfNextExpr) → Reads (next_expr_step x) → NextExprReads x
  next-expr-parts x h = (h.0.1, h.1)

  -- ---- blocks and the forms that end with `end`

  after-var : (x : OfVariable) (o : Option Spot)
      → Fit (tokens_of
      (variable_step
      (record {
        var = o;
        name = x.name;
        colon = x.colon;
        ty = x.ty;
        sign = x.sign;
        value = x.value;
      })))
      → Fit (tokens_of x.value)
  after-var x None h = (back (tokens_of (said_type x.ty)) _ h.1.1).1
  after-var x (Some s) h = (back (tokens_of (said_type x.ty)) _ h.1.1.1).1

  after-var-obeys : (x : OfVariable) (o : Option Spot) (allowed : Allowed)
      → (variable_step
      (record {
        var = o;
        name = x.name;
        colon = x.colon;
        ty = x.ty;
        sign = x.sign;
        value = x.value;
      })).obeys names allowed ≡ true
      → x.value.obeys names elsewhere ≡ true
  after-var-obeys x None allowed o = right _ _ o
  after-var-obeys x (Some s) allowed o = right _ _ o

  abbrev pub VariableReads : OfVariable → Type 0
  VariableReads x = Reads x.value

  pub variable-parts : (x : OfVariable) → Reads (variable_step x) → VariableReads x
  variable-parts x h = (after-var x x.var h.0, (elsewhere, after-var-obeys x x.var h.1.0 h.1.1))

  abbrev pub ItemReads : OfItem → Type 0
  ItemReads (Item-F.Variable variable) = Reads variable
  ItemReads (Item-F.Names left first others right at_colon ty at_equals value) =
      (has_next_name others ≡ true) × Reads value
  ItemReads (Item-F.Expr expr) = Reads expr

  pub item-parts : (x : OfItem) → Reads (item_step x) → ItemReads x
  item-parts (Item-F.Variable variable) h = h
  item-parts (Item-F.Names at_left first others at_right at_colon ty at_equals value) h = (
    left _ _ h.1.1,
    (
      (back (tokens_of (said_type ty)) _
          (back (next_names_tokens others) _ h.0.1.1).1.1).1,
      (elsewhere, right _ _ (right _ _ h.1.1)),
    ),
  )
  item-parts (Item-F.Expr expr) h = (h.0, (elsewhere, right _ _ h.1.1))

  abbrev pub BlockItemReads : OfBlockItem → Type 0
  BlockItemReads x = Reads x.item

  pub block-item-parts : (x : OfBlockItem) → ReadsEntry (block_item_step x) → BlockItemReads x
  block-item-parts x h = h

  abbrev pub AlsoReads : OfAlso → Type 0
  AlsoReads x = ReadsEntries x.block

  pub also-parts : (x : OfAlso) → Reads (also_step x) → AlsoReads x
  also-parts x h = entries-read x.block h.0.1.1 h.1.1

  abbrev pub ElifReads : OfElif → Type 0
  ElifReads x = Reads x.condition × ReadsEntries x.block

  pub elif-parts : (x : OfElif) → Reads (elif_step x) → ElifReads x
  elif-parts x h = (
    (front (tokens_of x.condition) _ h.0.1, (elsewhere, left _ _ h.1.1)),
    entries-read x.block (back (tokens_of x.condition) _ h.0.1).1 (right _ _ h.1.1),
  )

  abbrev pub ElseBlockReads : OfElseBlock → Type 0
  ElseBlockReads x = ReadsEntries x.block

  pub else-block-parts : (x : OfElseBlock) → Reads (else_block_step x) → ElseBlockReads x
  else-block-parts x h = entries-read x.block h.0.1 h.1.1

  abbrev pub FinallyReads : OfFinally → Type 0
  FinallyReads x = ReadsEntries x.block

  pub finally-parts : (x : OfFinally) → Reads (finally_step x) → FinallyReads x
  finally-parts x h = entries-read x.block h.0.1 h.1.1

  abbrev pub NextGeneratorReads : OfNextGenerator → Type 0
  NextGeneratorReads x = Reads x.generator

  pub next-generator-parts : (x : OfNextGenerator) → Reads (next_generator_step x)
      → NextGeneratorReads x
  next-generator-parts x h = (h.0.1, h.1)

  abbrev pub CaseClauseReads : OfCaseClause → Type 0
  CaseClauseReads x = Reads x.subject × Reads x.value

  pub case-clause-parts : (x : OfCaseClause) → ReadsEntry (case_clause_step x) → CaseClauseReads x
  case-clause-parts x h = (
    (front (tokens_of x.subject) _ h.0, (elsewhere, left _ _ h.1.1)),
    ((back x.subject.more _ h.0.1).1, (elsewhere, right _ _ h.1.1)),
  )

  abbrev pub TypeClauseReads : OfTypeClause → Type 0
  TypeClauseReads x = Reads x.value

  pub type-clause-parts : (x : OfTypeClause) → ReadsEntry (type_clause_step x) → TypeClauseReads x
  type-clause-parts x h = ((back (said_type x.ty).more _ h.0.1).1, (elsewhere, right _ _ h.1.1))

  abbrev pub ElseClauseReads : OfElseClause → Type 0
  ElseClauseReads x = Reads x.value

  pub else-clause-parts : (x : OfElseClause) → ReadsElse (else_clause_step x) → ElseClauseReads x
  else-clause-parts x h = (h.0.1.1, (elsewhere, h.1.1))

  abbrev pub CatchReads : OfCatch → Type 0
  CatchReads x = ReadsEntries x.clauses

  pub catch-parts : (x : OfCatch) → Reads (catch_step x) → CatchReads x
  catch-parts x h = entries-read x.clauses h.0.1.1 (right _ _ h.1.1)

  abbrev pub DelimitedReads : OfDelimited → Type 0
  DelimitedReads (Delimited-F.Do at_do block others end) = ReadsEntries block × ReadsAll others
  DelimitedReads (Delimited-F.If at_if condition then block elifs otherwise end) = Reads condition
      × ReadsEntries block × ReadsAll elifs × ReadsMaybe
      otherwise
  DelimitedReads (Delimited-F.While at_while condition at_do block end) = Reads condition
      × ReadsEntries block
  DelimitedReads (Delimited-F.For at_for generator others at_do block end) = Reads generator
      × ReadsAll others × ReadsEntries block
  DelimitedReads (Delimited-F.Case at_case subject of clauses otherwise end) = Reads subject
      × ReadsEntries clauses × ReadsOther otherwise
  DelimitedReads
      (Delimited-F.Typecase at_typecase name at_equals subject of clauses otherwise end) =
      Reads subject × ReadsEntries clauses × ReadsOther
      otherwise
  DelimitedReads (Delimited-F.Try at_try block catch finally end) = ReadsEntries block
      × ReadsMaybe catch × ReadsMaybe finally

  pub delimited-parts : (x : OfDelimited) → Reads (delimited_step x) → DelimitedReads x
  delimited-parts (Delimited-F.Do at_do block others end) h =
      let o = right _ _ h.1.1 in (
        entries-read block (front _ _ h.0.1) (left _ _ o),
        all-read elsewhere others (front _ _ (back (entries_tokens block) _ h.0.1)) (right _ _ o),
      )
  delimited-parts (Delimited-F.If at_if condition then block elifs otherwise end) h =
      let o = right _ _ h.1.1 in
      let p = right _ _ o in
      let m = (back (tokens_of condition) _ h.0.1).1 in
      let n = back (entries_tokens block) _ m in (
        (front (tokens_of condition) _ h.0.1, (elsewhere, left _ _ h.1.1)),
        entries-read block (front _ _ m) (left _ _ o),
        all-read elsewhere elifs (front _ _ n) (left _ _ p),
        maybe-reads elsewhere otherwise (front _ _ (back (all_tokens elifs) _ n)) (right _ _ p),
      )
  delimited-parts (Delimited-F.While at_while condition at_do block end) h = (
    (front (tokens_of condition) _ h.0.1, (before_do, left _ _ h.1.1)),
    entries-read block (front _ _ (back (tokens_of condition) _ h.0.1).1) (right _ _ h.1.1),
  )
  delimited-parts (Delimited-F.For at_for generator others at_do block end) h =
      let o = right _ _ h.1.1 in
      let m = back (tokens_of generator) _ h.0.1 in (
        (front (tokens_of generator) _ h.0.1, (before_do, left _ _ h.1.1)),
        all-read before_do others (front _ _ m) (left _ _ o),
        entries-read block (front _ _ (back (all_tokens others) _ m).1) (right _ _ o),
      )
  delimited-parts (Delimited-F.Case at_case subject of clauses otherwise end) h =
      let o = right _ _ (right _ _ h.1.1) in
      let m = (back (tokens_of subject) _ h.0.1).1 in (
        (front (tokens_of subject) _ h.0.1, (elsewhere, left _ _ h.1.1)),
        entries-read clauses (front _ _ m) (left _ _ o),
        other-reads clauses otherwise (front _ _ (back (entries_tokens clauses) _ m)) (right _ _ o),
      )
  delimited-parts (Delimited-F.Typecase at_typecase name at_equals subject of clauses otherwise end)
      h =
      let o = right _ _ (right _ _ h.1.1) in
      let m = (back (tokens_of subject) _ h.0.1.1.1).1 in (
        (front (tokens_of subject) _ h.0.1.1.1, (elsewhere, left _ _ h.1.1)),
        entries-read clauses (front _ _ m) (left _ _ o),
        other-reads clauses otherwise (front _ _ (back (entries_tokens clauses) _ m)) (right _ _ o),
      )
  delimited-parts (Delimited-F.Try at_try block catch finally end) h =
      let o = right _ _ h.1.1 in
      let p = right _ _ o in
      let m = back (entries_tokens block) _ h.0.1 in (
        entries-read block (front _ _ h.0.1) (left _ _ o),
        maybe-reads elsewhere catch (front _ _ m) (left _ _ p),
        maybe-reads elsewhere finally (front _ _ (back (maybe_tokens catch) _ m)) (right _ _ p),
      )
