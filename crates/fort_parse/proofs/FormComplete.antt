-- The tokens of each item, block, clause and form that ends with `end` are read as it, where what
-- follows them does not continue it.
use Rattle.std.proofs.Common.{◌≡◌, ℕ, Bool, true, false, List, [], ◌∷◌, ◌++◌, append_assoc, Option, Some, None, refl, sym, ap, subst, ◌∙◌}
use Rattle.std.specs.Prelude.{map, option_map, ◌||◌}
use Rattle.std.proofs.lemmas.List.{append_cancel_right}
use Rattle.fort_base.specs.declared.refusal.Gap.{Gap}
use Rattle.fort_lex_token.specs.declared.token.Kind.{Kind}
use Rattle.fort_lex_token.specs.declared.token.Kind.TheVariants as kind
use Rattle.fort_lex_token.specs.declared.token.Token.{Token}
use Rattle.fort_lex_token.specs.declared.marks.Mark.TheVariants as mark
use Rattle.fort_lex_token.specs.declared.reserved.Reserved.{Reserved}
use Rattle.fort_lex_token.specs.declared.reserved.Reserved.TheVariants as reserved
use Rattle.fort_tree.specs.declared.spot.Spot.{Spot}
use Rattle.fort_tree.specs.declared.spot.Name.{Name}
use Rattle.fort_tree.specs.declared.spot.NextName.{NextName}
use Rattle.fort_tree.specs.declared.declarations.InitialSign.{InitialSign}
use Rattle.fort_tree.specs.declared.declarations.InitialSign.TheVariants as initial_sign
use Rattle.fort_tree.specs.declared.declarations.Variable.{Variable, roll-Variable}
use Rattle.fort_tree.specs.declared.types.TypeTree.{TypeTree}
use Rattle.fort_tree.specs.declared.delimited.Also.{Also, out-Also}
use Rattle.fort_tree.specs.declared.delimited.BlockItem.{BlockItem, out-BlockItem}
use Rattle.fort_tree.specs.declared.delimited.CaseClause.{CaseClause, out-CaseClause}
use Rattle.fort_tree.specs.declared.delimited.Catch.{Catch, out-Catch}
use Rattle.fort_tree.specs.declared.delimited.Delimited.{Delimited}
use Rattle.fort_tree.specs.declared.delimited.Delimited.TheVariants as a_delimited
use Rattle.fort_tree.specs.declared.delimited.Elif.{Elif, out-Elif}
use Rattle.fort_tree.specs.declared.delimited.ElseBlock.{ElseBlock, out-ElseBlock}
use Rattle.fort_tree.specs.declared.delimited.ElseClause.{ElseClause, roll-ElseClause}
use Rattle.fort_tree.specs.declared.delimited.Finally.{Finally, out-Finally}
use Rattle.fort_tree.specs.declared.delimited.Item.{Item}
use Rattle.fort_tree.specs.declared.delimited.Item.TheVariants as an_item
use Rattle.fort_tree.specs.declared.delimited.NextGenerator.{NextGenerator, out-NextGenerator}
use Rattle.fort_tree.specs.declared.delimited.TypeClause.{TypeClause, out-TypeClause}
use Rattle.fort_tree.specs.declared.expr.Expr.{Expr}
use Rattle.fort_tree.specs.declared.expr.Flat.{Flat}
use Rattle.fort_tree.specs.declared.expr.Generator.{Generator}
use Rattle.fort_tree.specs.declared.expr.Run.{Run}
use Rattle.fort_tree.specs.Tokens.{Spellings, word, named, marked, colon, equals, is_line, begins_declaration}
use Rattle.fort_tree.specs.Said.{SaidEntry, elsewhere, before_do, tokens_of, all_tokens, all_obey, maybe_tokens, maybe_obeys, is_there, semicolon_tokens, entries_tokens, entries_obey, has_entry, last_semicolon, else_tokens, else_apart, else_obeys}
use Rattle.fort_tree.specs.Types.{said_type}
use Rattle.fort_tree.specs.Blocks.{initial_token, has_next_name}
use Rattle.fort_tree.specs.Yield.{said_operand, said_flat, said_generator, said_expr, said_variable, said_item, said_delimited, said_also, said_block_item, said_case_clause, said_catch, said_elif, said_else_block, said_else_clause, said_finally, said_next_generator, said_type_clause}
use Rattle.fort_tree.proofs.SaysBlocks.{says-Do, says-If, says-While, says-For, says-Case, says-Typecase, says-Try, says_also, also_says, says_elif, elif_says, says_else_block, else_block_says, says_next_generator, next_generator_says, says_case_clause, says_type_clause, says_else_clause, says_catch, catch_says, says_finally, finally_says, says_block_item, says-Variable, says-Names, says-Expr, block_item_says, case_clause_says, type_clause_says}
use Rattle.fort_tree.proofs.CasesBlocks.{cases_delimited, cases_also, cases_elif, cases_else_block, cases_next_generator, cases_case_clause, cases_type_clause, cases_else_clause, cases_catch, cases_finally, cases_block_item, cases_item, cases_variable}
use Rattle.fort_parse_reading.specs.Parser.{Row, next_of, Eater}
use Rattle.fort_parse_reading.specs.Words.{same_mark, same_word, is_range, is_mark, is_word, sees}
use Rattle.fort_parse_reading.proofs.Laws.{Gets, reads, gets_then}
use Rattle.fort_parse_reading.proofs.Taking.{gets_mark, gets_word, gets_name, gets_colon, gets_equals, gets_initial, not_word}
use Rattle.fort_parse_reading.proofs.Yields.{left_true, right_true, is_not, false_right, next_stops, gets_list}
use Rattle.fort_parse_types.specs.Types.{begins_type}
use Rattle.fort_parse_types.proofs.Complete.{complete_type_tree, type_begins, type_stops, type_stops_at}
use Rattle.fort_parse_first.specs.declared.plain.PlainNames.{PlainNames}
use Rattle.fort_parse_first.specs.Beginnings.{begins_atom, begins_head, begins_item, begins_item_kind, begins_case_clause, begins_type_clause, begins_else, begins_apart_of, begins_unit, begins_expr, is_prefix}
use Rattle.fort_parse_first.specs.Plain.{plain_name, plain_names}
use Rattle.fort_parse_first.specs.Endings.{semicolon_run}
use Rattle.fort_parse.specs.Blocks.{is_ended, last_ended, some_of, sees_second, initialised, variable_from, var_item, names_from, flat_item, by_names, by_name, declared, item_from, head_item, item, block_item, block, case_clause, case_list, case_clauses, type_clause, type_clause_list, type_clauses, else_from, second_else, else_clause, also_block, also_blocks, elif, elifs, else_block, catch_from, catch, finally, next_generator, next_generators}
use Rattle.fort_parse.specs.Runs.{do_form, if_rest, if_form, while_form, for_rest, for_form, case_rest, case_form, typecase_rest, typecase_form, try_form, delimited}
use Rattle.fort_parse.proofs.FormFirsts.{Stops, item_begins, unit_is_item, type_is_item, new_line, Ends, ends_with}
use Rattle.fort_parse.proofs.Firsts.{flat_begins, expr_begins}
use Rattle.fort_parse.proofs.Stops.{mark_ends_flat, mark_ends_expr, word_ends_flat}
use Rattle.fort_parse.proofs.FormPlain.{names_tokens, name_unit_is, names_unit_is, parens_no_name, plain_name_says, plain_names_say}
use Rattle.fort_parse.proofs.FormDeclares.{name_declares, names_declare, gets_name_unit, gets_names_unit}
use Rattle.fort_parse.proofs.Entries.{StopsAfter, StopsLast, stops_last, ended_last, first_apart, gets_entries, last_is}
use Rattle.fort_parse.proofs.FormSound.{variable_tokens, variable_obeys, clause_tokens, sound_variable_from, sound_delimited}
use Rattle.fort_parse.proofs.Statements.{FlatLaws, FormLaws, UnitExpr, allowing, flat_stops, expr_stops, var_tokens}

-- ---- the next token

sees_at : (f : Kind → Bool) (t : Token) (b : Bool) → f t.kind ≡ b → sees f (Some t) ≡ b
unfolding sees
sees_at f t b e = e

bool_cases : (b : Bool) (P : Type 0) → (b ≡ true → P) → (b ≡ false → P) → P
bool_cases true P f g = f refl
bool_cases false P f g = g refl

initial_stops : (sign : InitialSign) → type_stops (Some (initial_token sign)) ≡ true
unfolding is_mark same_mark
initial_stops (initial_sign.Equals s) = type_stops_at (equals s) refl refl
initial_stops (initial_sign.Becomes s) = type_stops_at (marked mark.Becomes s) refl refl

equals_stop : (s : Spot) → type_stops (Some (equals s)) ≡ true
unfolding is_mark same_mark
equals_stop s = type_stops_at (equals s) refl refl

double_stops : (s : Spot) → type_stops (Some (marked mark.DoubleArrow s)) ≡ true
unfolding is_mark same_mark
double_stops s = type_stops_at (marked mark.DoubleArrow s) refl refl

var_not_expr : begins_expr (kind.Word reserved.Var) ≡ false
unfolding begins_expr begins_unit begins_atom is_prefix begins_head
var_not_expr = refl

var_first : (names : Spellings) (e : Expr) → (said_expr e).obeys names elsewhere ≡ true
    → sees (is_word reserved.Var) (Some (said_expr e).first) ≡ false
var_first names e ob =
    sees_at (is_word reserved.Var) (said_expr e).first false
    (not_word begins_expr reserved.Var var_not_expr (said_expr e).first.kind
    (expr_begins names false e ob))

-- a name and a parenthesis begin no head and are not `var`
name_ways : (name : Name)
    → (sees (is_word reserved.Var) (Some (named name)) ≡ false)
    × (sees begins_head (Some (named name)) ≡ false)
unfolding sees is_word begins_head
name_ways name = (refl, refl)

paren_ways : (s : Spot)
    → (sees (is_word reserved.Var) (Some (marked mark.OpenParen s)) ≡ false)
    × (sees begins_head (Some (marked mark.OpenParen s)) ≡ false)
unfolding sees is_word begins_head
paren_ways s = (refl, refl)

sees_colon : (s : Spot) → sees is_range (Some (colon s)) ≡ true
unfolding sees is_range
sees_colon s = refl

sees_var : (s : Spot) → sees (is_word reserved.Var) (Some (word reserved.Var s)) ≡ true
unfolding sees is_word same_word
sees_var s = refl

sees_word : (w v : Reserved) (s : Spot) (b : Bool) → same_word v w ≡ b
    → sees (is_word w) (Some (word v s)) ≡ b
unfolding sees is_word
sees_word w v s b e = e

is_there_of : {A B : Type 0} (f : A → B) (x : Option A) → is_there (option_map f x) ≡ is_there x
is_there_of f None = refl
is_there_of f (Some x) = refl

sees_semicolon : (s : Spot) → sees (is_mark mark.Semicolon) (Some (marked mark.Semicolon s)) ≡ true
unfolding sees is_mark same_mark
sees_semicolon s = refl

semicolon_no_colon : (s : Spot) → sees is_range (Some (marked mark.Semicolon s)) ≡ false
unfolding sees is_range
semicolon_no_colon s = refl

contradicts : (xs ys : Row) → xs ≡ ys → begins_declaration ys ≡ true → begins_declaration xs ≡ false
    → ⊥
contradicts xs ys is e f = let g = subst (λ (v : Row). begins_declaration v ≡ false) is f in cc

-- what follows an item or the value of a clause, with its `;` or without
entry_stops : (s : Option Spot) (rest : Row) → StopsAfter Stops s (next_of rest)
    → (expr_stops false (next_of (semicolon_tokens s ++ rest)) ≡ true)
    × (sees is_range (next_of (semicolon_tokens s ++ rest)) ≡ false)
entry_stops None rest st = (st.expr, st.colon)
entry_stops (Some s) rest st =
    (mark_ends_expr false mark.Semicolon s refl refl refl, semicolon_no_colon s)

-- what follows clauses stops the last, and begins none
record Follows (es : List SaidEntry) (next : Option Token) : Type 0 where
  pub last : StopsLast Stops es next
  pub clause : (ready : Bool) → begins_apart_of (begins_unit true) ready next ≡ false
  pub types : (ready : Bool) → begins_apart_of begins_type ready next ≡ false

follows_end : (es : List SaidEntry) (next : Option Token) → Ends next → Follows es next
follows_end es next h =
    record { last = stops_last Stops es next h.stops; clause = h.clause; types = h.types }

no_semicolon_begins : (s : Spot) (ready : Bool)
    → (begins_apart_of (begins_unit true) ready (Some (marked mark.Semicolon s)) ≡ false)
    × (begins_apart_of begins_type ready (Some (marked mark.Semicolon s)) ≡ false)
unfolding begins_apart_of begins_unit begins_atom is_prefix begins_type
no_semicolon_begins s ready =
    (false_right (ready || is_line s.gap), false_right (ready || is_line s.gap))

last_is_there : (semicolon : Option Spot) (s : Spot) (gap : Gap)
    → else_apart semicolon (Some s) gap ≡ true → (t : Spot) × (semicolon ≡ Some t)
last_is_there None s gap e = absurd cc
last_is_there (Some t) s gap e = (t, refl)

follows_by : (es : List SaidEntry) (second : Option Spot) (at_else : Spot) (rest : Row)
    → else_apart (last_semicolon es) second at_else.gap ≡ true
    → Follows es (next_of (semicolon_tokens second ++ word reserved.Else at_else ∷ rest))
follows_by es None at_else rest e =
    follows_end es (Some (word reserved.Else at_else)) (ends_with reserved.Else at_else refl)
follows_by es (Some s) at_else rest e =
    let t = last_is_there (last_semicolon es) s at_else.gap e in
    record {
      last = ended_last Stops es t.0 (Some (marked mark.Semicolon s)) t.1;
      clause = λ ready. (no_semicolon_begins s ready).0;
      types = λ ready. (no_semicolon_begins s ready).1;
    }

word_no_second : (ended : Bool) (w : Reserved) (s : Spot)
    → sees_second ended (Some (word w s)) ≡ false
unfolding sees is_mark
word_no_second ended w s = false_right ended

second_seen : (ended : Bool) (s : Spot) → ended ≡ true
    → sees_second ended (Some (marked mark.Semicolon s)) ≡ true
second_seen ended s e = rw (e, sees_semicolon s) refl

apart_second : (semicolon : Option Spot) (s : Spot) (gap : Gap)
    → else_apart semicolon (Some s) gap ≡ true → is_ended semicolon ≡ true
apart_second None s gap e = absurd cc
apart_second (Some t) s gap e = refl

apart_first : (semicolon : Option Spot) (gap : Gap) → else_apart semicolon None gap ≡ true
    → (is_ended semicolon || is_line gap) ≡ true
apart_first None gap e = e
apart_first (Some s) gap e = refl

else_begins : (ended : Bool) (s : Spot) → (ended || is_line s.gap) ≡ true
    → begins_else ended (Some (word reserved.Else s)) ≡ true
unfolding begins_else begins_apart_of is_word same_word
else_begins ended s e = rw e refl

end_no_else : (ended : Bool) (s : Spot) → begins_else ended (Some (word reserved.End s)) ≡ false
unfolding begins_else begins_apart_of is_word same_word
end_no_else ended s = false_right (ended || is_line s.gap)

module _ (names : Spellings) {n : ℕ} (run : Bool → Eater Run n) (laws : FlatLaws names run) where
  complete_semicolon : (s : Option Spot) (rest : Row) → StopsAfter Stops s (next_of rest)
      → Gets (Option Spot) (semicolon_run (semicolon_tokens s ++ rest)) s rest
  unfolding semicolon_run
  complete_semicolon None rest st = rw st.semicolon reads
  complete_semicolon (Some s) rest st =
      rw (sees_semicolon s) (gets_then _ (gets_mark mark.Semicolon s rest) reads)

  -- ---- declarations of locals

  pub complete_variable : (var : Option Spot) (name : Name) (at_colon : Spot) (ty : TypeTree)
      (sign : InitialSign) (value : Expr) (rest : Row)
      → (said_type ty).obeys names elsewhere ≡ true → (said_expr value).obeys names elsewhere ≡ true
      → expr_stops false (next_of rest) ≡ true
      → Gets Variable
      ((variable_from names run var name).run
      (colon at_colon
      ∷ (tokens_of (said_type ty) ++ initial_token sign
      ∷ (tokens_of (said_expr value) ++ rest))))
      (roll-Variable
      (record {
        var = var;
        name = name;
        colon = at_colon;
        ty = ty;
        sign = sign;
        value = value;
      })) rest
  unfolding variable_from initialised
  complete_variable var name at_colon ty sign value rest oty ov st =
      gets_then _ (gets_colon at_colon _)
      (gets_then _ (complete_type_tree names n ty _ oty (initial_stops sign))
      (gets_then _ (gets_initial sign _)
      (gets_then _ (laws.complete_expr false value rest ov st) reads)))

  item_variable : (var : Option Spot) (name : Name) (at_colon : Spot) (ty : TypeTree)
      (sign : InitialSign) (value : Expr) (rest : Row)
      → (said_type ty).obeys names elsewhere ≡ true → (said_expr value).obeys names elsewhere ≡ true
      → expr_stops false (next_of rest) ≡ true
      → Gets Item
      ((item names run).parser.run
      (var_tokens var ++ named name ∷ colon at_colon
      ∷ (tokens_of (said_type ty) ++ initial_token sign
      ∷ (tokens_of (said_expr value) ++ rest))))
      (an_item.Variable
      (roll-Variable
      (record {
        var = var;
        name = name;
        colon = at_colon;
        ty = ty;
        sign = sign;
        value = value;
      }))) rest
  unfolding item var_item item_from declared
  item_variable None name at_colon ty sign value rest oty ov st =
      let ways = name_ways name in
      rw (ways.0, ways.1) (gets_then _ (gets_name_unit names run laws name at_colon _)
      (rw (sees_colon at_colon, name_unit_is name)
      (gets_then _ (complete_variable None name at_colon ty sign value rest oty ov st)
      reads)))
  item_variable (Some s) name at_colon ty sign value rest oty ov st =
      rw (sees_var s)
      (gets_then _ (gets_word reserved.Var s _)
      (gets_then _ (gets_name name _)
      (gets_then _ (complete_variable (Some s) name at_colon ty sign value rest oty ov st)
      reads)))

  complete_names : (p : PlainNames) (at_colon : Spot) (ty : TypeTree) (at_equals : Spot)
      (value : Expr) (rest : Row)
      → (said_type ty).obeys names elsewhere ≡ true → (said_expr value).obeys names elsewhere ≡ true
      → expr_stops false (next_of rest) ≡ true
      → Gets Item
      ((names_from names run p).run
      (colon at_colon
      ∷ (tokens_of (said_type ty) ++ equals at_equals ∷ (tokens_of (said_expr value) ++ rest))))
      (an_item.Names p.left p.first p.others p.right at_colon ty at_equals value) rest
  unfolding names_from
  complete_names p at_colon ty at_equals value rest oty ov st =
      gets_then _ (gets_colon at_colon _)
      (gets_then _ (complete_type_tree names n ty _ oty (equals_stop at_equals))
      (gets_then _ (gets_equals at_equals _)
      (gets_then _ (laws.complete_expr false value rest ov st) reads)))

  item_names : (left : Spot) (first : Name) (others : List NextName) (right at_colon : Spot)
      (ty : TypeTree) (at_equals : Spot) (value : Expr) (rest : Row) → has_next_name others ≡ true
      → (said_type ty).obeys names elsewhere ≡ true → (said_expr value).obeys names elsewhere ≡ true
      → expr_stops false (next_of rest) ≡ true
      → Gets Item
      ((item names run).parser.run
      (names_tokens (record { left = left; first = first; others = others; right = right })
      ++ colon at_colon
      ∷ (tokens_of (said_type ty) ++ equals at_equals ∷ (tokens_of (said_expr value) ++ rest))))
      (an_item.Names left first others right at_colon ty at_equals value) rest
  unfolding item item_from declared
  item_names left first [] right at_colon ty at_equals value rest two oty ov st = absurd cc
  item_names left first (m ∷ ms) right at_colon ty at_equals value rest two oty ov st =
      let ways = paren_ways left in
      let p : PlainNames = record { left = left; first = first; others = m ∷ ms; right = right } in
      rw (ways.0, ways.1) (gets_then _ (gets_names_unit names run laws p at_colon _)
      (rw (sees_colon at_colon, parens_no_name p, names_unit_is left first m ms right)
      (complete_names p at_colon ty at_equals value rest oty ov st)))

  -- ---- an item that is an expression

  complete_flat_item : (e : Expr) (rest : Row) (u : UnitExpr names run false e rest)
      → Gets Item ((flat_item names run u.unit).run u.mid) (an_item.Expr e) rest
  unfolding flat_item
  complete_flat_item e rest u = gets_then _ u.goes_on reads

  by_names_flat : (e : Expr) (rest : Row) (u : UnitExpr names run false e rest)
      (p : Option PlainNames) → plain_names u.unit ≡ p
      → ((p : PlainNames) → plain_names u.unit ≡ Some p → ⊥)
      → Gets Item ((by_names names run u.unit p).run u.mid) (an_item.Expr e) rest
  by_names_flat e rest u None is none = complete_flat_item e rest u
  by_names_flat e rest u (Some p) is none = absurd (none p is)

  by_name_flat : (e : Expr) (rest : Row) (u : UnitExpr names run false e rest) (name : Option Name)
      → plain_name u.unit ≡ name → ((name : Name) → plain_name u.unit ≡ Some name → ⊥)
      → ((p : PlainNames) → plain_names u.unit ≡ Some p → ⊥)
      → Gets Item ((by_name names run u.unit name).run u.mid) (an_item.Expr e) rest
  by_name_flat e rest u None is nameless none =
      by_names_flat e rest u (plain_names u.unit) refl none
  by_name_flat e rest u (Some name) is nameless none = absurd (nameless name is)

  -- the tokens of an expression are those of its first unit and then the others
  unit_whole : (e : Expr) (rest : Row) (u : UnitExpr names run false e rest)
      → tokens_of (said_expr e) ≡ tokens_of (said_operand u.unit) ++ u.more
  unit_whole e rest u =
      append_cancel_right _ _ rest (u.tokens ∙ ap (λ
      (v : Row). tokens_of (said_operand u.unit) ++ v) u.behind
      ∙ sym (append_assoc (tokens_of (said_operand u.unit)) u.more rest))

  -- a `:` behind its first unit is its own
  colon_own : (more rest : Row) → sees is_range (next_of (more ++ rest)) ≡ true
      → sees is_range (next_of rest) ≡ false → sees is_range (next_of more) ≡ true
  colon_own [] rest e f = absurd cc
  colon_own (t ∷ ts) rest e f = e

  item_unit : (e : Expr) (rest : Row) (u : UnitExpr names run false e rest)
      → begins_declaration (tokens_of (said_expr e)) ≡ false → sees is_range (next_of rest) ≡ false
      → Gets Item ((item_from names run u.unit).run u.mid) (an_item.Expr e) rest
  unfolding item_from declared
  item_unit e rest u none co = bool_cases (sees is_range (next_of u.mid)) _
      (λ b. let own = colon_own u.more rest (rw u.behind at b) co in
      let whole = unit_whole e rest u in
      rw b (by_name_flat e rest u (plain_name u.unit) refl
      (λ name is. contradicts _ _ (whole ∙ ap (λ
      (v : Row). v ++ u.more) (plain_name_says u.unit name is))
      (name_declares name u.more own) none)
      (λ p is. let says = plain_names_say u.unit p is
      in contradicts _ _ (whole ∙ ap (λ
      (v : Row). v ++ u.more) says.0) (names_declare p u.more says.1 own) none)))
      (λ b. rw b (complete_flat_item e rest u))

  item_expr : (e : Expr) (rest : Row) → begins_declaration (tokens_of (said_expr e)) ≡ false
      → (said_expr e).obeys names elsewhere ≡ true → expr_stops false (next_of rest) ≡ true
      → sees is_range (next_of rest) ≡ false
      → Gets Item ((item names run).parser.run (tokens_of (said_expr e) ++ rest)) (an_item.Expr e)
      rest
  unfolding item head_item
  item_expr e rest none ob st co = bool_cases (begins_head (said_expr e).first.kind) _
      (λ b. let h = laws.complete_head_expr false e rest ob st b in
      rw (var_first names e ob, sees_at begins_head (said_expr e).first true b)
      (gets_then _ h.reads_head (gets_then _ h.goes_on reads)))
      (λ b. let u = laws.complete_unit_expr false e rest ob st b in
      rw (var_first names e ob, sees_at begins_head (said_expr e).first false b)
      (gets_then _ u.reads_unit (item_unit e rest u none co)))

  -- ---- items and blocks

  variable_item : (v : Variable) (rest : Row) → (said_variable v).obeys names elsewhere ≡ true
      → expr_stops false (next_of rest) ≡ true
      → Gets Item ((item names run).parser.run (tokens_of (said_variable v) ++ rest))
      (an_item.Variable v) rest
  variable_item v rest = cases_variable (λ v. (said_variable v).obeys names elsewhere ≡ true
      → expr_stops false (next_of rest) ≡ true
      → Gets Item ((item names run).parser.run (tokens_of (said_variable v) ++ rest))
      (an_item.Variable v) rest)
      (λ var name at_colon ty sign value ob st. let own =
      rw (variable_obeys names var name at_colon ty sign value elsewhere) at ob in
      rw (variable_tokens var name at_colon ty sign value rest)
      (item_variable var name at_colon ty sign value rest (left_true _ _ own)
      (right_true _ _ own) st)) v

  complete_item : (i : Item) (rest : Row) → (said_item i).obeys names elsewhere ≡ true
      → expr_stops false (next_of rest) ≡ true → sees is_range (next_of rest) ≡ false
      → Gets Item ((item names run).parser.run (tokens_of (said_item i) ++ rest)) i rest
  complete_item i rest = cases_item (λ i. (said_item i).obeys names elsewhere ≡ true
      → expr_stops false (next_of rest) ≡ true → sees is_range (next_of rest) ≡ false
      → Gets Item ((item names run).parser.run (tokens_of (said_item i) ++ rest)) i rest)
      (λ v ob st co. let own = rw (says-Variable v) at ob
      in rw (says-Variable v) (variable_item v rest own st))
      (λ left first others right at_colon ty at_equals value ob st co. let own =
      rw (says-Names left first others right at_colon ty at_equals value) at ob in
      let both_obey = right_true _ _ own in
      let read =
      item_names left first others right at_colon ty at_equals value rest (left_true _ _ own)
      (left_true _ _ both_obey) (right_true _ _ both_obey) st in
      rw (says-Names left first others right at_colon ty at_equals value)
      (simp append_assoc (simp append_assoc at read)))
      (λ e ob st co. let own = rw (says-Expr e) at ob
      in rw (says-Expr e)
      (item_expr e rest (is_not _ (left_true _ _ own)) (right_true _ _ own) st co)) i

  complete_block_item : (x : BlockItem) (rest : Row)
      → (said_block_item x).item.obeys names elsewhere ≡ true
      → StopsAfter Stops (said_block_item x).semicolon (next_of rest)
      → Gets BlockItem
      ((block_item names run).parser.run
      (tokens_of (said_block_item x).item
      ++ (semicolon_tokens (said_block_item x).semicolon ++ rest))) x rest
  unfolding block_item
  complete_block_item x rest =
      cases_block_item (λ x. (said_block_item x).item.obeys names elsewhere ≡ true
      → StopsAfter Stops (said_block_item x).semicolon (next_of rest)
      → Gets BlockItem
      ((block_item names run).parser.run
      (tokens_of (said_block_item x).item
      ++ (semicolon_tokens (said_block_item x).semicolon ++ rest))) x rest)
      (λ i s ob st. let own = rw (says_block_item i s) at ob in
      let after = rw (says_block_item i s) at st in
      let last = entry_stops s rest after in
      rw (says_block_item i s)
      (gets_then _ (complete_item i (semicolon_tokens s ++ rest) own last.0 last.1)
      (gets_then _ (complete_semicolon s rest after) reads))) x

  block_ended : (x : BlockItem)
      → is_ended (out-BlockItem x).semicolon ≡ is_ended (said_block_item x).semicolon
  block_ended x = rw (block_item_says x) refl

  block_item_begins : (x : BlockItem) → (said_block_item x).item.obeys names elsewhere ≡ true
      → begins_item_kind (said_block_item x).item.first.kind ≡ true
  block_item_begins x ob =
      let own = rw (block_item_says x) at ob
      in rw (block_item_says x) (item_begins names (out-BlockItem x).item own)

  complete_block : (b : List BlockItem) (rest : Row)
      → entries_obey names (map said_block_item b) ≡ true → Ends (next_of rest)
      → Gets (List BlockItem)
      ((block names run).run (entries_tokens (map said_block_item b) ++ rest)) b rest
  unfolding block begins_item
  complete_block b rest ob en =
      gets_entries Stops names said_block_item begins_item_kind block_item_begins new_line
      (λ x. is_ended (out-BlockItem x).semicolon) (block_item names run) block_ended
      complete_block_item n true b rest ob
      (first_apart (map said_block_item b))
      (stops_last Stops (map said_block_item b) (next_of rest) en.stops) en.item

  -- ---- clauses

  complete_case_clause : (x : CaseClause) (rest : Row)
      → (said_case_clause x).item.obeys names elsewhere ≡ true
      → StopsAfter Stops (said_case_clause x).semicolon (next_of rest)
      → Gets CaseClause
      ((case_clause names run).parser.run
      (tokens_of (said_case_clause x).item
      ++ (semicolon_tokens (said_case_clause x).semicolon ++ rest))) x rest
  unfolding case_clause
  complete_case_clause x rest =
      cases_case_clause (λ x. (said_case_clause x).item.obeys names elsewhere ≡ true
      → StopsAfter Stops (said_case_clause x).semicolon (next_of rest)
      → Gets CaseClause
      ((case_clause names run).parser.run
      (tokens_of (said_case_clause x).item
      ++ (semicolon_tokens (said_case_clause x).semicolon ++ rest))) x rest)
      (λ subject arrow value s ob st. let own = rw (says_case_clause subject arrow value s) at ob in
      let after = rw (says_case_clause subject arrow value s) at st in
      let last = entry_stops s rest after in
      rw (says_case_clause subject arrow value s)
      (rw (clause_tokens (said_flat subject) arrow (said_expr value)
      (semicolon_tokens s ++ rest))
      (gets_then _
      (laws.complete_flat true subject _ (left_true _ _ own)
      (mark_ends_flat false true mark.DoubleArrow arrow refl refl))
      (gets_then _ (gets_mark mark.DoubleArrow arrow _)
      (gets_then _
      (laws.complete_expr false value (semicolon_tokens s ++ rest) (right_true _ _ own)
      last.0) (gets_then _ (complete_semicolon s rest after) reads)))))) x

  case_ended : (x : CaseClause)
      → is_ended (out-CaseClause x).semicolon ≡ is_ended (said_case_clause x).semicolon
  case_ended x = rw (case_clause_says x) refl

  case_begins : (x : CaseClause) → (said_case_clause x).item.obeys names elsewhere ≡ true
      → begins_unit true (said_case_clause x).item.first.kind ≡ true
  case_begins x ob =
      let own = rw (case_clause_says x) at ob
      in rw (case_clause_says x)
      (flat_begins names elsewhere (out-CaseClause x).subject (left_true _ _ own))

  complete_type_clause : (x : TypeClause) (rest : Row)
      → (said_type_clause x).item.obeys names elsewhere ≡ true
      → StopsAfter Stops (said_type_clause x).semicolon (next_of rest)
      → Gets TypeClause
      ((type_clause names run).parser.run
      (tokens_of (said_type_clause x).item
      ++ (semicolon_tokens (said_type_clause x).semicolon ++ rest))) x rest
  unfolding type_clause
  complete_type_clause x rest =
      cases_type_clause (λ x. (said_type_clause x).item.obeys names elsewhere ≡ true
      → StopsAfter Stops (said_type_clause x).semicolon (next_of rest)
      → Gets TypeClause
      ((type_clause names run).parser.run
      (tokens_of (said_type_clause x).item
      ++ (semicolon_tokens (said_type_clause x).semicolon ++ rest))) x rest)
      (λ ty arrow value s ob st. let own = rw (says_type_clause ty arrow value s) at ob in
      let after = rw (says_type_clause ty arrow value s) at st in
      let last = entry_stops s rest after in
      rw (says_type_clause ty arrow value s)
      (rw (clause_tokens (said_type ty) arrow (said_expr value) (semicolon_tokens s ++ rest))
      (gets_then _ (complete_type_tree names n ty _ (left_true _ _ own) (double_stops arrow))
      (gets_then _ (gets_mark mark.DoubleArrow arrow _)
      (gets_then _
      (laws.complete_expr false value (semicolon_tokens s ++ rest) (right_true _ _ own)
      last.0) (gets_then _ (complete_semicolon s rest after) reads)))))) x

  type_ended : (x : TypeClause)
      → is_ended (out-TypeClause x).semicolon ≡ is_ended (said_type_clause x).semicolon
  type_ended x = rw (type_clause_says x) refl

  type_clause_begins : (x : TypeClause) → (said_type_clause x).item.obeys names elsewhere ≡ true
      → begins_type (said_type_clause x).item.first.kind ≡ true
  type_clause_begins x ob = rw (type_clause_says x) (type_begins (out-TypeClause x).ty)

  gets_some : {A : Type 0} (said : A → SaidEntry) (xs : List A) (rest : Row)
      → has_entry (map said xs) ≡ true → Gets (List A) ((some_of {n = n} xs).run rest) xs rest
  gets_some said [] rest e = absurd cc
  gets_some said (x ∷ xs) rest e = reads

  complete_case_clauses : (xs : List CaseClause) (rest : Row)
      → has_entry (map said_case_clause xs) ≡ true
      → entries_obey names (map said_case_clause xs) ≡ true
      → Follows (map said_case_clause xs) (next_of rest)
      → Gets (List CaseClause)
      ((case_clauses names run).run (entries_tokens (map said_case_clause xs) ++ rest)) xs rest
  unfolding case_clauses case_list begins_case_clause
  complete_case_clauses xs rest some ob f =
      gets_then _
      (gets_entries Stops names said_case_clause (begins_unit true) case_begins
      (λ t e b. new_line t e (unit_is_item t.kind b))
      (λ x. is_ended (out-CaseClause x).semicolon) (case_clause names run) case_ended
      complete_case_clause n true xs rest ob
      (first_apart (map said_case_clause xs)) f.last f.clause) (gets_some said_case_clause xs rest
      some)

  complete_type_clauses : (xs : List TypeClause) (rest : Row)
      → has_entry (map said_type_clause xs) ≡ true
      → entries_obey names (map said_type_clause xs) ≡ true
      → Follows (map said_type_clause xs) (next_of rest)
      → Gets (List TypeClause)
      ((type_clauses names run).run (entries_tokens (map said_type_clause xs) ++ rest)) xs rest
  unfolding type_clauses type_clause_list begins_type_clause
  complete_type_clauses xs rest some ob f =
      gets_then _
      (gets_entries Stops names said_type_clause begins_type type_clause_begins
      (λ t e b. new_line t e (type_is_item t.kind b))
      (λ x. is_ended (out-TypeClause x).semicolon) (type_clause names run) type_ended
      complete_type_clause n true xs rest ob
      (first_apart (map said_type_clause xs)) f.last f.types) (gets_some said_type_clause xs rest
      some)

  -- ---- the `else` of clauses

  complete_else_from : (second : Option Spot) (at_else arrow : Spot) (value : Expr) (end : Spot)
      (rest : Row) → (said_expr value).obeys names elsewhere ≡ true
      → Gets (Option ElseClause)
      ((else_from names run second).run
      (word reserved.Else at_else ∷ marked mark.DoubleArrow arrow
      ∷ (tokens_of (said_expr value) ++ word reserved.End end ∷ rest)))
      (Some (roll-ElseClause
      (record { semicolon = second; else_ = at_else; arrow = arrow; value = value })))
      (word reserved.End end ∷ rest)
  unfolding else_from
  complete_else_from second at_else arrow value end rest ob =
      gets_then _ (gets_word reserved.Else at_else _)
      (gets_then _ (gets_mark mark.DoubleArrow arrow _)
      (gets_then _
      (laws.complete_expr false value _ ob (ends_with reserved.End end refl).stops.expr)
      reads))

  else_at : (es : List SaidEntry) (ended : Bool) (second : Option Spot) (at_else arrow : Spot)
      (value : Expr) (end : Spot) (rest : Row) → ended ≡ is_ended (last_semicolon es)
      → else_apart (last_semicolon es) second at_else.gap ≡ true
      → (said_expr value).obeys names elsewhere ≡ true
      → Gets (Option ElseClause)
      ((else_clause names run ended).run
      (semicolon_tokens second
      ++ (word reserved.Else at_else ∷ marked mark.DoubleArrow arrow
      ∷ (tokens_of (said_expr value) ++ word reserved.End end ∷ rest))))
      (Some (roll-ElseClause
      (record { semicolon = second; else_ = at_else; arrow = arrow; value = value })))
      (word reserved.End end ∷ rest)
  unfolding else_clause second_else
  else_at es ended None at_else arrow value end rest is apart ob =
      rw (
        word_no_second ended reserved.Else at_else,
        else_begins ended at_else (rw is (apart_first (last_semicolon es) at_else.gap apart)),
      )
      (complete_else_from None at_else arrow value end rest ob)
  else_at es ended (Some s) at_else arrow value end rest is apart ob =
      rw (second_seen ended s (is ∙ apart_second (last_semicolon es) s at_else.gap apart))
      (gets_then _ (gets_mark mark.Semicolon s _)
      (complete_else_from (Some s) at_else arrow value end rest ob))

  complete_else_clause : (es : List SaidEntry) (ended : Bool) (e : Option ElseClause) (end : Spot)
      (rest : Row) → ended ≡ is_ended (last_semicolon es)
      → else_obeys names es (option_map said_else_clause e) ≡ true
      → Gets (Option ElseClause)
      ((else_clause names run ended).run
      (else_tokens (option_map said_else_clause e) ++ word reserved.End end ∷ rest)) e
      (word reserved.End end ∷ rest)
  unfolding else_clause
  complete_else_clause es ended None end rest is ob =
      rw (word_no_second ended reserved.End end, end_no_else ended end) reads
  complete_else_clause es ended (Some e) end rest is obeys =
      cases_else_clause (λ e. else_obeys names es (Some (said_else_clause e)) ≡ true
      → Gets (Option ElseClause)
      ((else_clause names run ended).run
      (else_tokens (Some (said_else_clause e)) ++ word reserved.End end ∷ rest)) (Some e)
      (word reserved.End end ∷ rest))
      (λ second at_else arrow value ob. let own =
      rw (says_else_clause second at_else arrow value) at ob in
      let read =
      else_at es ended second at_else arrow value end rest is (left_true _ _ own)
      (right_true _ _ own) in
      rw (says_else_clause second at_else arrow value)
      (rw (append_assoc (semicolon_tokens second)
      (word reserved.Else at_else ∷ marked mark.DoubleArrow arrow
      ∷ tokens_of (said_expr value)) (word reserved.End end ∷ rest)) read)) e obeys

  -- what follows clauses
  follows_else : (es : List SaidEntry) (e : Option ElseClause) (end : Spot) (rest : Row)
      → else_obeys names es (option_map said_else_clause e) ≡ true
      → Follows es
      (next_of (else_tokens (option_map said_else_clause e) ++ word reserved.End end ∷ rest))
  follows_else es None end rest ob =
      follows_end es (Some (word reserved.End end)) (ends_with reserved.End end refl)
  follows_else es (Some e) end rest obeys =
      cases_else_clause (λ e. else_obeys names es (Some (said_else_clause e)) ≡ true
      → Follows es
      (next_of (else_tokens (Some (said_else_clause e)) ++ word reserved.End end ∷ rest)))
      (λ second at_else arrow value ob. let own =
      rw (says_else_clause second at_else arrow value) at ob in
      rw (says_else_clause second at_else arrow value)
      (rw (append_assoc (semicolon_tokens second)
      (word reserved.Else at_else ∷ marked mark.DoubleArrow arrow
      ∷ tokens_of (said_expr value)) (word reserved.End end ∷ rest))
      (follows_by es second at_else _ (left_true _ _ own)))) e obeys

  -- ---- parts of the forms

  complete_also : (x : Also) (rest : Row) → (said_also x).obeys names elsewhere ≡ true
      → Ends (next_of rest)
      → Gets Also ((also_block names run).parser.run (tokens_of (said_also x) ++ rest)) x rest
  unfolding also_block
  complete_also x rest = cases_also (λ x. (said_also x).obeys names elsewhere ≡ true
      → Ends (next_of rest)
      → Gets Also ((also_block names run).parser.run (tokens_of (said_also x) ++ rest)) x rest)
      (λ also at_do b ob en. let own = rw (says_also also at_do b) at ob in
      rw (says_also also at_do b)
      (gets_then _ (gets_word reserved.Also also _)
      (gets_then _ (gets_word reserved.Do at_do _)
      (gets_then _ (complete_block b rest own en) reads)))) x

  also_begins : (x : Also) → sees (is_word reserved.Also) (Some (said_also x).first) ≡ true
  unfolding same_word
  also_begins x =
      rw (also_says x) (sees_word reserved.Also reserved.Also (out-Also x).also true refl)

  also_ends : (x : Also) → Ends (Some (said_also x).first)
  also_ends x = rw (also_says x) (ends_with reserved.Also (out-Also x).also refl)

  complete_alsos : (xs : List Also) (end : Spot) (rest : Row)
      → all_obey names elsewhere (map said_also xs) ≡ true
      → Gets (List Also)
      ((also_blocks names run).run (all_tokens (map said_also xs) ++ word reserved.End end ∷ rest))
      xs (word reserved.End end ∷ rest)
  unfolding also_blocks same_word
  complete_alsos xs end rest ob =
      gets_list names elsewhere said_also (sees (is_word reserved.Also)) (also_block names run) Ends
      complete_also (λ x own. also_begins x) (λ x own. also_ends x) n xs
      (word reserved.End end ∷ rest) ob
      (ends_with reserved.End end refl) (sees_word reserved.Also reserved.End end false refl)

  complete_elif : (x : Elif) (rest : Row) → (said_elif x).obeys names elsewhere ≡ true
      → Ends (next_of rest)
      → Gets Elif ((elif names run).parser.run (tokens_of (said_elif x) ++ rest)) x rest
  unfolding elif
  complete_elif x rest = cases_elif (λ x. (said_elif x).obeys names elsewhere ≡ true
      → Ends (next_of rest)
      → Gets Elif ((elif names run).parser.run (tokens_of (said_elif x) ++ rest)) x rest)
      (λ at_elif condition then b ob en. let own = rw (says_elif at_elif condition then b) at ob in
      rw (says_elif at_elif condition
      then b) (simp append_assoc
      (gets_then _ (gets_word reserved.Elif at_elif _)
      (gets_then _
      (laws.complete_flat true condition _ (left_true _ _ own)
      (word_ends_flat false true reserved.Then then refl))
      (gets_then _ (gets_word reserved.Then
      then _) (gets_then _ (complete_block b rest (right_true _ _ own) en) reads)))))) x

  elif_begins : (x : Elif) → sees (is_word reserved.Elif) (Some (said_elif x).first) ≡ true
  unfolding same_word
  elif_begins x =
      rw (elif_says x) (sees_word reserved.Elif reserved.Elif (out-Elif x).elif true refl)

  elif_ends : (x : Elif) → Ends (Some (said_elif x).first)
  elif_ends x = rw (elif_says x) (ends_with reserved.Elif (out-Elif x).elif refl)

  complete_elifs : (xs : List Elif) (rest : Row)
      → all_obey names elsewhere (map said_elif xs) ≡ true → Ends (next_of rest)
      → sees (is_word reserved.Elif) (next_of rest) ≡ false
      → Gets (List Elif) ((elifs names run).run (all_tokens (map said_elif xs) ++ rest)) xs rest
  unfolding elifs
  complete_elifs xs rest ob en none =
      gets_list names elsewhere said_elif (sees (is_word reserved.Elif)) (elif names run) Ends
      complete_elif (λ x own. elif_begins x) (λ x own. elif_ends x) n xs rest ob en none

  complete_else_block : (x : Option ElseBlock) (end : Spot) (rest : Row)
      → maybe_obeys names elsewhere (option_map said_else_block x) ≡ true
      → Gets (Option ElseBlock)
      ((else_block names run).run
      (maybe_tokens (option_map said_else_block x) ++ word reserved.End end ∷ rest)) x
      (word reserved.End end ∷ rest)
  unfolding else_block same_word
  complete_else_block None end rest ob =
      rw (sees_word reserved.Else reserved.End end false refl) reads
  complete_else_block (Some x) end rest obeys =
      cases_else_block (λ x. (said_else_block x).obeys names elsewhere ≡ true
      → Gets (Option ElseBlock)
      ((else_block names run).run (tokens_of (said_else_block x) ++ word reserved.End end ∷ rest))
      (Some x) (word reserved.End end ∷ rest))
      (λ at_else b ob. let own = rw (says_else_block at_else b) at ob in
      rw (says_else_block at_else b, sees_word reserved.Else reserved.Else at_else true refl)
      (gets_then _ (gets_word reserved.Else at_else _)
      (gets_then _ (complete_block b _ own (ends_with reserved.End end refl)) reads))) x
      obeys

  -- what follows the `elif`s
  else_next : (x : Option ElseBlock) (end : Spot) (rest : Row)
      → Ends (next_of (maybe_tokens (option_map said_else_block x) ++ word reserved.End end ∷ rest))
      × (sees (is_word reserved.Elif)
      (next_of (maybe_tokens (option_map said_else_block x) ++ word reserved.End end ∷ rest))
      ≡ false)
  unfolding same_word
  else_next None end rest =
      (ends_with reserved.End end refl, sees_word reserved.Elif reserved.End end false refl)
  else_next (Some x) end rest =
      rw (else_block_says x) (
        ends_with reserved.Else (out-ElseBlock x).else_ refl,
        sees_word reserved.Elif reserved.Else (out-ElseBlock x).else_ false refl,
      )

  complete_finally : (optional : Bool) (x : Option Finally) (end : Spot) (rest : Row)
      → (optional || is_there (option_map said_finally x)) ≡ true
      → maybe_obeys names elsewhere (option_map said_finally x) ≡ true
      → Gets (Option Finally)
      ((finally names run optional).run
      (maybe_tokens (option_map said_finally x) ++ word reserved.End end ∷ rest)) x
      (word reserved.End end ∷ rest)
  unfolding finally same_word
  complete_finally true None end rest there ob =
      rw (sees_word reserved.Finally reserved.End end false refl) reads
  complete_finally false None end rest there ob = absurd cc
  complete_finally optional (Some x) end rest there obeys =
      cases_finally (λ x. (said_finally x).obeys names elsewhere ≡ true
      → Gets (Option Finally)
      ((finally names run optional).run
      (tokens_of (said_finally x) ++ word reserved.End end ∷ rest)) (Some x)
      (word reserved.End end ∷ rest))
      (λ at_finally b ob. let own = rw (says_finally at_finally b) at ob in
      rw (
        says_finally at_finally b,
        sees_word reserved.Finally reserved.Finally at_finally true refl,
      )
      (gets_then _ (gets_word reserved.Finally at_finally _)
      (gets_then _ (complete_block b _ own (ends_with reserved.End end refl)) reads))) x
      obeys

  -- what follows the clauses of a `catch`
  finally_next : (x : Option Finally) (end : Spot) (rest : Row)
      → Ends (next_of (maybe_tokens (option_map said_finally x) ++ word reserved.End end ∷ rest))
      × (sees (is_word reserved.Catch)
      (next_of (maybe_tokens (option_map said_finally x) ++ word reserved.End end ∷ rest))
      ≡ false)
  unfolding same_word
  finally_next None end rest =
      (ends_with reserved.End end refl, sees_word reserved.Catch reserved.End end false refl)
  finally_next (Some x) end rest =
      rw (finally_says x) (
        ends_with reserved.Finally (out-Finally x).finally refl,
        sees_word reserved.Catch reserved.Finally (out-Finally x).finally false refl,
      )

  complete_catch : (x : Option Catch) (rest : Row)
      → maybe_obeys names elsewhere (option_map said_catch x) ≡ true → Ends (next_of rest)
      → sees (is_word reserved.Catch) (next_of rest) ≡ false
      → Gets (Option Catch) ((catch names run).run (maybe_tokens (option_map said_catch x) ++ rest))
      x rest
  unfolding catch catch_from same_word
  complete_catch None rest ob en none = rw none reads
  complete_catch (Some x) rest obeys en none =
      cases_catch (λ x. (said_catch x).obeys names elsewhere ≡ true
      → Gets (Option Catch) ((catch names run).run (tokens_of (said_catch x) ++ rest)) (Some x)
      rest)
      (λ at_catch name clauses ob. let own = rw (says_catch at_catch name clauses) at ob in
      rw (
        says_catch at_catch name clauses,
        sees_word reserved.Catch reserved.Catch at_catch true refl,
      )
      (gets_then _ (gets_word reserved.Catch at_catch _) (gets_then _ (gets_name name _)
      (gets_then _
      (complete_type_clauses clauses rest (left_true _ _ own) (right_true _ _ own)
      (follows_end (map said_type_clause clauses) (next_of rest) en)) reads)))) x obeys

  -- what follows the block of a `try`
  catch_next : (x : Option Catch) (rest : Row) → Ends (next_of rest)
      → Ends (next_of (maybe_tokens (option_map said_catch x) ++ rest))
  catch_next None rest en = en
  catch_next (Some x) rest en =
      rw (catch_says x) (ends_with reserved.Catch (out-Catch x).catch refl)

  complete_next_generator : (x : NextGenerator) (rest : Row)
      → (said_next_generator x).obeys names before_do ≡ true
      → flat_stops false false (next_of rest) ≡ true
      → Gets NextGenerator
      ((next_generator names run).parser.run (tokens_of (said_next_generator x) ++ rest)) x rest
  unfolding next_generator
  complete_next_generator x rest =
      cases_next_generator (λ x. (said_next_generator x).obeys names before_do ≡ true
      → flat_stops false false (next_of rest) ≡ true
      → Gets NextGenerator
      ((next_generator names run).parser.run (tokens_of (said_next_generator x) ++ rest)) x
      rest)
      (λ comma g ob st. let own = rw (says_next_generator comma g) at ob in
      rw (says_next_generator comma g)
      (gets_then _ (gets_mark mark.Comma comma _)
      (gets_then _ (laws.complete_generator false g rest own st) reads))) x

  next_generator_begins : (x : NextGenerator)
      → sees (is_mark mark.Comma) (Some (said_next_generator x).first) ≡ true
  unfolding sees is_mark same_mark
  next_generator_begins x = rw (next_generator_says x) refl

  next_generator_stops : (x : NextGenerator)
      → flat_stops false false (Some (said_next_generator x).first) ≡ true
  next_generator_stops x =
      rw (next_generator_says x)
      (mark_ends_flat false false mark.Comma (out-NextGenerator x).comma refl refl)

  do_no_comma : (s : Spot) → sees (is_mark mark.Comma) (Some (word reserved.Do s)) ≡ false
  unfolding sees is_mark
  do_no_comma s = refl

  complete_next_generators : (xs : List NextGenerator) (at_do : Spot) (rest : Row)
      → all_obey names before_do (map said_next_generator xs) ≡ true
      → Gets (List NextGenerator)
      ((next_generators names run).run
      (all_tokens (map said_next_generator xs) ++ word reserved.Do at_do ∷ rest)) xs
      (word reserved.Do at_do ∷ rest)
  unfolding next_generators
  complete_next_generators xs at_do rest ob =
      gets_list names before_do said_next_generator (sees (is_mark mark.Comma))
      (next_generator names run) (λ next. flat_stops false false next
      ≡ true) complete_next_generator (λ x own. next_generator_begins x)
      (λ x own. next_generator_stops x)
      n xs (word reserved.Do at_do ∷ rest) ob (word_ends_flat false false reserved.Do at_do refl)
      (do_no_comma at_do)

  -- ---- the forms

  complete_do : (at_do : Spot) (b : List BlockItem) (others : List Also) (end : Spot) (rest : Row)
      → entries_obey names (map said_block_item b) ≡ true
      → all_obey names elsewhere (map said_also others) ≡ true
      → Gets Delimited
      ((do_form names run at_do).run
      (entries_tokens (map said_block_item b)
      ++ (all_tokens (map said_also others) ++ word reserved.End end ∷ rest)))
      (a_delimited.Do at_do b others end) rest
  unfolding do_form
  complete_do at_do b others end rest ob obs =
      gets_then _
      (complete_block b _ ob
      (next_stops names elsewhere said_also Ends (λ x own. also_ends x) others
      (word reserved.End end ∷ rest) obs (ends_with reserved.End end refl)))
      (gets_then _ (complete_alsos others end rest obs)
      (gets_then _ (gets_word reserved.End end rest) reads))

  complete_if : (at_if : Spot) (condition : Flat) (then : Spot) (b : List BlockItem)
      (others : List Elif) (otherwise : Option ElseBlock) (end : Spot) (rest : Row)
      → (said_flat condition).obeys names elsewhere ≡ true
      → entries_obey names (map said_block_item b) ≡ true
      → all_obey names elsewhere (map said_elif others) ≡ true
      → maybe_obeys names elsewhere (option_map said_else_block otherwise) ≡ true
      → Gets Delimited
      ((if_form names run at_if).run (tokens_of (said_flat condition) ++ word reserved.Then
      then ∷ (entries_tokens (map said_block_item b)
      ++ (all_tokens (map said_elif others)
      ++ (maybe_tokens (option_map said_else_block otherwise) ++ word reserved.End end
      ∷ rest)))))
      (a_delimited.If at_if condition then b others otherwise end) rest
  unfolding if_form if_rest
  complete_if at_if condition then b others otherwise end rest oc ob oo oe =
      let next = else_next otherwise end rest in
      gets_then _
      (laws.complete_flat true condition _ oc (word_ends_flat false true reserved.Then
      then refl)) (gets_then _ (gets_word reserved.Then then _)
      (gets_then _
      (complete_block b _ ob
      (next_stops names elsewhere said_elif Ends (λ x own. elif_ends x) others _ oo next.0))
      (gets_then _ (complete_elifs others _ oo next.0 next.1)
      (gets_then _ (complete_else_block otherwise end rest oe)
      (gets_then _ (gets_word reserved.End end rest) reads)))))

  complete_while : (at_while : Spot) (condition : Flat) (at_do : Spot) (b : List BlockItem)
      (end : Spot) (rest : Row) → (said_flat condition).obeys names before_do ≡ true
      → entries_obey names (map said_block_item b) ≡ true
      → Gets Delimited
      ((while_form names run at_while).run
      (tokens_of (said_flat condition) ++ word reserved.Do at_do
      ∷ (entries_tokens (map said_block_item b) ++ word reserved.End end ∷ rest)))
      (a_delimited.While at_while condition at_do b end) rest
  unfolding while_form
  complete_while at_while condition at_do b end rest oc ob =
      gets_then _
      (laws.complete_flat false condition _ oc
      (word_ends_flat false false reserved.Do at_do refl))
      (gets_then _ (gets_word reserved.Do at_do _)
      (gets_then _ (complete_block b _ ob (ends_with reserved.End end refl))
      (gets_then _ (gets_word reserved.End end rest) reads)))

  complete_for : (at_for : Spot) (g : Generator) (others : List NextGenerator) (at_do : Spot)
      (b : List BlockItem) (end : Spot) (rest : Row)
      → (said_generator g).obeys names before_do ≡ true
      → all_obey names before_do (map said_next_generator others) ≡ true
      → entries_obey names (map said_block_item b) ≡ true
      → Gets Delimited
      ((for_form names run at_for).run
      (tokens_of (said_generator g)
      ++ (all_tokens (map said_next_generator others) ++ word reserved.Do at_do
      ∷ (entries_tokens (map said_block_item b) ++ word reserved.End end ∷ rest))))
      (a_delimited.For at_for g others at_do b end) rest
  unfolding for_form for_rest
  complete_for at_for g others at_do b end rest og oo ob =
      gets_then _
      (laws.complete_generator false g _ og
      (next_stops names before_do said_next_generator (λ next. flat_stops false false next
      ≡ true) (λ x own. next_generator_stops x) others _ oo
      (word_ends_flat false false reserved.Do at_do refl)))
      (gets_then _ (complete_next_generators others at_do _ oo)
      (gets_then _ (gets_word reserved.Do at_do _)
      (gets_then _ (complete_block b _ ob (ends_with reserved.End end refl))
      (gets_then _ (gets_word reserved.End end rest) reads))))

  case_last : (xs : List CaseClause)
      → last_ended (λ c. (out-CaseClause c).semicolon) xs
      ≡ is_ended (last_semicolon (map said_case_clause xs))
  case_last xs =
      last_is said_case_clause (λ c. (out-CaseClause c).semicolon)
      (λ c. rw (case_clause_says c) refl) xs

  type_last : (xs : List TypeClause)
      → last_ended (λ c. (out-TypeClause c).semicolon) xs
      ≡ is_ended (last_semicolon (map said_type_clause xs))
  type_last xs =
      last_is said_type_clause (λ c. (out-TypeClause c).semicolon)
      (λ c. rw (type_clause_says c) refl) xs

  complete_case : (at_case : Spot) (subject : Flat) (of : Spot) (clauses : List CaseClause)
      (otherwise : Option ElseClause) (end : Spot) (rest : Row)
      → (said_flat subject).obeys names elsewhere ≡ true
      → has_entry (map said_case_clause clauses) ≡ true
      → entries_obey names (map said_case_clause clauses) ≡ true
      → else_obeys names (map said_case_clause clauses) (option_map said_else_clause otherwise)
      ≡ true
      → Gets Delimited
      ((case_form names run at_case).run
      (tokens_of (said_flat subject) ++ word reserved.Of of
      ∷ (entries_tokens (map said_case_clause clauses)
      ++ (else_tokens (option_map said_else_clause otherwise) ++ word reserved.End end
      ∷ rest))))
      (a_delimited.Case at_case subject of clauses otherwise end) rest
  unfolding case_form case_rest
  complete_case at_case subject of clauses otherwise end rest os some oc oe =
      let es = map said_case_clause clauses in
      gets_then _
      (laws.complete_flat true subject _ os (word_ends_flat false true reserved.Of of refl))
      (gets_then _ (gets_word reserved.Of of _)
      (gets_then _ (complete_case_clauses clauses _ some oc (follows_else es otherwise end rest oe))
      (gets_then _ (complete_else_clause es _ otherwise end rest (case_last clauses) oe)
      (gets_then _ (gets_word reserved.End end rest) reads))))

  complete_typecase : (at_typecase : Spot) (name : Name) (at_equals : Spot) (subject : Flat)
      (of : Spot) (clauses : List TypeClause) (otherwise : Option ElseClause) (end : Spot)
      (rest : Row) → (said_flat subject).obeys names elsewhere ≡ true
      → has_entry (map said_type_clause clauses) ≡ true
      → entries_obey names (map said_type_clause clauses) ≡ true
      → else_obeys names (map said_type_clause clauses) (option_map said_else_clause otherwise)
      ≡ true
      → Gets Delimited
      ((typecase_form names run at_typecase).run
      (named name ∷ equals at_equals
      ∷ (tokens_of (said_flat subject) ++ word reserved.Of of
      ∷ (entries_tokens (map said_type_clause clauses)
      ++ (else_tokens (option_map said_else_clause otherwise) ++ word reserved.End end
      ∷ rest)))))
      (a_delimited.Typecase at_typecase name at_equals subject of clauses otherwise end) rest
  unfolding typecase_form typecase_rest
  complete_typecase at_typecase name at_equals subject of clauses otherwise end rest os some oc oe =
      let es = map said_type_clause clauses in
      gets_then _ (gets_name name _)
      (gets_then _ (gets_equals at_equals _)
      (gets_then _
      (laws.complete_flat true subject _ os (word_ends_flat false true reserved.Of of refl))
      (gets_then _ (gets_word reserved.Of of _)
      (gets_then _ (complete_type_clauses clauses _ some oc (follows_else es otherwise end rest oe))
      (gets_then _ (complete_else_clause es _ otherwise end rest (type_last clauses) oe)
      (gets_then _ (gets_word reserved.End end rest) reads))))))

  complete_try : (at_try : Spot) (b : List BlockItem) (c : Option Catch) (f : Option Finally)
      (end : Spot) (rest : Row)
      → (is_there (option_map said_catch c) || is_there (option_map said_finally f)) ≡ true
      → entries_obey names (map said_block_item b) ≡ true
      → maybe_obeys names elsewhere (option_map said_catch c) ≡ true
      → maybe_obeys names elsewhere (option_map said_finally f) ≡ true
      → Gets Delimited
      ((try_form names run at_try).run
      (entries_tokens (map said_block_item b)
      ++ (maybe_tokens (option_map said_catch c)
      ++ (maybe_tokens (option_map said_finally f) ++ word reserved.End end ∷ rest))))
      (a_delimited.Try at_try b c f end) rest
  unfolding try_form
  complete_try at_try b c f end rest some ob oc of =
      let next = finally_next f end rest in
      gets_then _ (complete_block b _ ob (catch_next c _ next.0))
      (gets_then _ (complete_catch c _ oc next.0 next.1)
      (gets_then _
      (complete_finally (is_there c) f end rest (rw (is_there_of said_catch c) at some) of)
      (gets_then _ (gets_word reserved.End end rest) reads)))

  pub complete_delimited : (lines blocks : Bool) (d : Delimited) (rest : Row)
      → (said_delimited d).obeys names (allowing lines blocks) ≡ true
      → Gets Delimited ((delimited names run).parser.run (tokens_of (said_delimited d) ++ rest)) d
      rest
  unfolding delimited
  complete_delimited lines blocks d rest =
      cases_delimited (λ d. (said_delimited d).obeys names (allowing lines blocks) ≡ true
      → Gets Delimited ((delimited names run).parser.run (tokens_of (said_delimited d) ++ rest))
      d rest)
      (λ at_do b others end ob. let own = rw (says-Do at_do b others end) at ob in
      let inner = right_true _ _ own in
      rw (says-Do at_do b others end)
      (simp append_assoc
      (gets_then _ (gets_word reserved.Do at_do _)
      (complete_do at_do b others end rest (left_true _ _ inner) (right_true _ _ inner)))))
      (λ at_if condition then b others otherwise end ob. let own =
      rw (says-If at_if condition then b others otherwise end) at ob in
      let o1 = right_true _ _ own in let o2 = right_true _ _ o1 in
      rw (says-If at_if condition
      then b others otherwise end)
      (simp append_assoc
      (gets_then _ (gets_word reserved.If at_if _) (complete_if at_if condition
      then b others otherwise end rest (left_true _ _ own) (left_true _ _ o1)
      (left_true _ _ o2) (right_true _ _ o2)))))
      (λ at_while condition at_do b end ob. let own =
      rw (says-While at_while condition at_do b end) at ob in
      rw (says-While at_while condition at_do b end)
      (simp append_assoc
      (gets_then _ (gets_word reserved.While at_while _)
      (complete_while at_while condition at_do b end rest (left_true _ _ own)
      (right_true _ _ own)))))
      (λ at_for g others at_do b end ob. let own = rw (says-For at_for g others at_do b end) at ob
      in
      let o1 = right_true _ _ own in
      rw (says-For at_for g others at_do b end)
      (simp append_assoc
      (gets_then _ (gets_word reserved.For at_for _)
      (complete_for at_for g others at_do b end rest (left_true _ _ own) (left_true _ _ o1)
      (right_true _ _ o1)))))
      (λ at_case subject of clauses otherwise end ob. let own =
      rw (says-Case at_case subject of clauses otherwise end) at ob in
      let o1 = right_true _ _ own in let o2 = right_true _ _ o1 in
      rw (says-Case at_case subject of clauses otherwise end)
      (simp append_assoc
      (gets_then _ (gets_word reserved.Case at_case _)
      (complete_case at_case subject of clauses otherwise end rest (left_true _ _ own)
      (left_true _ _ o1) (left_true _ _ o2) (right_true _ _ o2)))))
      (λ at_typecase name at_equals subject of clauses otherwise end ob. let own =
      rw (says-Typecase at_typecase name at_equals subject of clauses otherwise end) at ob
      in
      let o1 = right_true _ _ own in let o2 = right_true _ _ o1 in
      rw (says-Typecase at_typecase name at_equals subject of clauses otherwise end)
      (simp append_assoc (gets_then _ (gets_word reserved.Typecase at_typecase _)
      (complete_typecase at_typecase name at_equals subject of clauses otherwise end rest
      (left_true _ _ own) (left_true _ _ o1) (left_true _ _ o2) (right_true _ _ o2)))))
      (λ at_try b c f end ob. let own = rw (says-Try at_try b c f end) at ob in
      let o1 = right_true _ _ own in let o2 = right_true _ _ o1 in
      rw (says-Try at_try b c f end)
      (simp append_assoc
      (gets_then _ (gets_word reserved.Try at_try _)
      (complete_try at_try b c f end rest (left_true _ _ own) (left_true _ _ o1)
      (left_true _ _ o2) (right_true _ _ o2))))) d

-- a parser of runs that keeps its laws makes one of the forms that end with `end`
pub form_laws : (names : Spellings) {n : ℕ} (run : Bool → Eater Run n) → FlatLaws names run
    → FormLaws names run
form_laws names run laws = record {
  sound_delimited = sound_delimited names run laws;
  sound_variable_from = sound_variable_from names run laws;
  complete_delimited = complete_delimited names run laws;
  complete_variable = complete_variable names run laws;
}
