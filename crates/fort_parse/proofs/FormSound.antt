-- What each item, block, clause and form that ends with `end` is read from is its tokens, and the
-- rules on gaps and names hold in it.
use Rattle.std.proofs.Common.{◌≡◌, ℕ, Bool, true, false, List, [], ◌∷◌, ◌++◌, append_assoc, Option, Some, None, refl, sym, ap, ◌∙◌}
use Rattle.std.specs.Prelude.{map, option_map, ◌&&◌, ◌||◌}
use Rattle.fort_base.specs.declared.refusal.Gap.{Gap}
use Rattle.fort_lex_token.specs.declared.token.Kind.{Kind}
use Rattle.fort_lex_token.specs.declared.token.Kind.TheVariants as kind
use Rattle.fort_lex_token.specs.declared.token.Token.{Token}
use Rattle.fort_lex_token.specs.declared.marks.Mark.TheVariants as mark
use Rattle.fort_lex_token.specs.declared.reserved.Reserved.{Reserved}
use Rattle.fort_lex_token.specs.declared.reserved.Reserved.TheVariants as reserved
use Rattle.fort_tree.specs.declared.spot.Spot.{Spot}
use Rattle.fort_tree.specs.declared.spot.Name.{Name}
use Rattle.fort_tree.specs.declared.declarations.InitialSign.{InitialSign}
use Rattle.fort_tree.specs.declared.declarations.Variable.{Variable, roll-Variable}
use Rattle.fort_tree.specs.declared.types.TypeTree.{TypeTree}
use Rattle.fort_tree.specs.declared.delimited.Also.{Also}
use Rattle.fort_tree.specs.declared.delimited.BlockItem.{BlockItem, out-BlockItem}
use Rattle.fort_tree.specs.declared.delimited.CaseClause.{CaseClause, out-CaseClause}
use Rattle.fort_tree.specs.declared.delimited.Catch.{Catch}
use Rattle.fort_tree.specs.declared.delimited.Delimited.{Delimited}
use Rattle.fort_tree.specs.declared.delimited.Elif.{Elif}
use Rattle.fort_tree.specs.declared.delimited.ElseBlock.{ElseBlock}
use Rattle.fort_tree.specs.declared.delimited.ElseClause.{ElseClause}
use Rattle.fort_tree.specs.declared.delimited.Finally.{Finally}
use Rattle.fort_tree.specs.declared.delimited.Item.{Item}
use Rattle.fort_tree.specs.declared.delimited.Item.TheVariants as an_item
use Rattle.fort_tree.specs.declared.delimited.NextGenerator.{NextGenerator}
use Rattle.fort_tree.specs.declared.delimited.TypeClause.{TypeClause, out-TypeClause}
use Rattle.fort_tree.specs.declared.expr.Expr.{Expr}
use Rattle.fort_tree.specs.declared.expr.Flat.{Flat}
use Rattle.fort_tree.specs.declared.expr.Generator.{Generator}
use Rattle.fort_tree.specs.declared.expr.Operand.{Operand}
use Rattle.fort_tree.specs.declared.expr.Run.{Run}
use Rattle.fort_tree.specs.Tokens.{Spellings, word, named, marked, colon, equals, is_line, begins_declaration}
use Rattle.fort_tree.specs.Said.{Said, SaidEntry, SaidElse, Allowed, elsewhere, before_do, tokens_of, all_tokens, all_obey, is_there, semicolon_tokens, entries_tokens, entries_obey, has_entry, last_semicolon, else_tokens, else_apart, else_obeys}
use Rattle.fort_tree.specs.Types.{said_type}
use Rattle.fort_tree.specs.Blocks.{initial_token, after_var, clause, next_names_tokens}
use Rattle.fort_tree.specs.Yield.{said_operand, said_flat, said_generator, said_expr, said_variable, said_item, said_delimited, said_also, said_block_item, said_case_clause, said_catch, said_elif, said_else_block, said_else_clause, said_finally, said_next_generator, said_type_clause}
use Rattle.fort_tree.proofs.SaysBlocks.{says-Do, says-If, says-While, says-For, says-Case, says-Typecase, says-Try, says_also, says_elif, says_else_block, says_next_generator, says_case_clause, says_type_clause, says_else_clause, says_catch, says_finally, says_block_item, says-Variable, says-Names, says-Expr, says_variable, block_item_says, case_clause_says, type_clause_says}
use Rattle.fort_parse_reading.specs.Parser.{Row, Outcome, Read, Failed, and_then, next_of, Eater}
use Rattle.fort_parse_reading.specs.Words.{is_range, is_mark, is_word, sees}
use Rattle.fort_parse_reading.proofs.Laws.{Only, only_read, only_failed, only_then, only_if}
use Rattle.fort_parse_reading.proofs.Taking.{only_mark, only_word, only_name, only_colon, only_equals, only_initial}
use Rattle.fort_parse_reading.proofs.Yields.{Yields, YieldsAll, YieldsMaybe, both, left_true, not_true, true_right, only_list}
use Rattle.fort_parse_types.proofs.Sound.{sound_type_tree}
use Rattle.fort_parse_first.specs.declared.plain.PlainNames.{PlainNames}
use Rattle.fort_parse_first.specs.Beginnings.{begins_atom, begins_head, begins_item, begins_item_kind, begins_case_clause, begins_type_clause, begins_else, begins_apart_of, begins_unit}
use Rattle.fort_parse_types.specs.Types.{begins_type}
use Rattle.fort_parse.specs.Flats.{operand}
use Rattle.fort_parse_first.specs.Plain.{plain_name, plain_names}
use Rattle.fort_parse_first.specs.Endings.{semicolon_run}
use Rattle.fort_parse.specs.Blocks.{is_ended, last_ended, some_of, sees_second, initialised, variable_from, var_item, names_from, flat_item, by_names, by_name, declared, item_from, head_item, item, block_item, block, case_clause, case_list, case_clauses, type_clause, type_clause_list, type_clauses, else_from, second_else, else_clause, also_block, also_blocks, elif, elifs, else_block, catch_from, catch, no_finally, finally, next_generator, next_generators}
use Rattle.fort_parse.specs.Runs.{do_form, if_rest, if_form, while_form, for_rest, for_form, case_rest, case_form, typecase_rest, typecase_form, try_form, word_form, form_for, delimited}
use Rattle.fort_parse.proofs.FormDeclares.{Ahead, ahead_of, ahead_more, head_declares_not, declares}
use Rattle.fort_parse.proofs.Entries.{YieldsEntry, YieldsEntries, begun, only_entries, last_is}
use Rattle.fort_parse.proofs.FormPlain.{plain_name_says, plain_names_say}
use Rattle.fort_parse.proofs.Statements.{FlatLaws, YieldsUnit, YieldsVariable, var_tokens}

-- ---- declarations of locals

after_var_tokens : (var : Option Spot) (part : Said)
    → tokens_of (after_var var part) ≡ var_tokens var ++ tokens_of part
after_var_tokens None part = refl
after_var_tokens (Some s) part = refl

after_var_obeys : (var : Option Spot) (part : Said) (names : Spellings) (allowed : Allowed)
    → (after_var var part).obeys names allowed ≡ part.obeys names allowed
after_var_obeys None part names allowed = refl
after_var_obeys (Some s) part names allowed = refl

-- the tokens of a declaration of a variable, and then rest
pub variable_tokens : (var : Option Spot) (name : Name) (at_colon : Spot) (ty : TypeTree)
    (sign : InitialSign) (value : Expr) (rest : Row)
    → tokens_of
    (said_variable
    (roll-Variable
    (record { var = var; name = name; colon = at_colon; ty = ty; sign = sign; value = value })))
    ++ rest
    ≡ var_tokens var ++ named name ∷ colon at_colon
    ∷ (tokens_of (said_type ty) ++ initial_token sign ∷ (tokens_of (said_expr value) ++ rest))
variable_tokens None name at_colon ty sign value rest =
    rw (says_variable None name at_colon ty sign value) (simp append_assoc refl)
variable_tokens (Some s) name at_colon ty sign value rest =
    rw (says_variable (Some s) name at_colon ty sign value) (simp append_assoc refl)

pub variable_obeys : (names : Spellings) (var : Option Spot) (name : Name) (at_colon : Spot)
    (ty : TypeTree) (sign : InitialSign) (value : Expr) (allowed : Allowed)
    → (said_variable
    (roll-Variable
    (record {
      var = var;
      name = name;
      colon = at_colon;
      ty = ty;
      sign = sign;
      value = value;
    }))).obeys names allowed
    ≡ ((said_type ty).obeys names elsewhere && (said_expr value).obeys names elsewhere)
variable_obeys names None name at_colon ty sign value allowed =
    rw (says_variable None name at_colon ty sign value) refl
variable_obeys names (Some s) name at_colon ty sign value allowed =
    rw (says_variable (Some s) name at_colon ty sign value) refl

-- the tokens of a clause, and then rest
pub clause_tokens : (subject : Said) (arrow : Spot) (value : Said) (rest : Row)
    → tokens_of (clause subject arrow value) ++ rest
    ≡ tokens_of subject ++ marked mark.DoubleArrow arrow ∷ (tokens_of value ++ rest)
clause_tokens subject arrow value rest =
    append_assoc (tokens_of subject) (marked mark.DoubleArrow arrow ∷ tokens_of value) rest

there : {A B : Type 0} (x : Option A) (y : Option B) → (is_there x || is_there y) ≡ true
    → {A' B' : Type 0} (f : A → A') (g : B → B')
    → (is_there (option_map f x) || is_there (option_map g y)) ≡ true
there None None e f g = absurd cc
there None (Some y) e f g = refl
there (Some x) y e f g = refl

-- ts is the tokens of the `else` behind these clauses, where there is one, and then rest, and the
-- rules hold in it
pub record YieldsElse (names : Spellings) (es : List SaidEntry) (e : Option SaidElse)
    (ts rest : List Token) : Type 0 where
  pub tokens : ts ≡ else_tokens e ++ rest
  pub obeys : else_obeys names es e ≡ true

module _ (names : Spellings) {n : ℕ} (run : Bool → Eater Run n) (laws : FlatLaws names run) where
  sound_semicolon : (ts : Row)
      → Only (Option Spot) (semicolon_run ts) (λ s rest. ts ≡ semicolon_tokens s ++ rest)
  unfolding semicolon_run
  sound_semicolon ts =
      only_if (sees (is_mark mark.Semicolon) (next_of ts)) _ _ _
      (λ e. only_then _ _ _ _ (only_mark mark.Semicolon ts)
      (λ s rest h. only_read _ (Some s) rest h))
      (λ e. only_read _ None ts refl)

  sound_initialised : (var : Option Spot) (name : Name) (at_colon : Spot) (ty : TypeTree)
      (ts mid : Row) → ts ≡ colon at_colon ∷ (tokens_of (said_type ty) ++ mid)
      → (said_type ty).obeys names elsewhere ≡ true
      → Only Variable ((initialised names run var name at_colon ty).run mid)
      (λ v rest. YieldsVariable names var name v ts rest)
  unfolding initialised
  sound_initialised var name at_colon ty ts mid is ob =
      only_then _ _ _ _ (only_initial mid) (λ sign mid1 h.
      only_then _ _ _ _ (laws.sound_expr false mid1) (λ value rest k.
      only_read _ _ rest (record {
        tokens = ap (λ
            (u : Row). var_tokens var ++ named name ∷ u) (is ∙ ap (λ
            (u : Row). colon at_colon ∷ (tokens_of (said_type ty) ++ u)) (h ∙ ap (λ
            (u : Row). initial_token sign ∷ u) k.tokens))
            ∙ sym (variable_tokens var name at_colon ty sign value rest);
        obeys = variable_obeys names var name at_colon ty sign value elsewhere
            ∙ both _ _ ob k.obeys;
      })))

  pub sound_variable_from : (var : Option Spot) (name : Name) (ts : Row)
      → Only Variable ((variable_from names run var name).run ts)
      (λ v rest. YieldsVariable names var name v ts rest)
  unfolding variable_from
  sound_variable_from var name ts =
      only_then _ _ _ _ (only_colon ts) (λ at_colon mid h.
      only_then _ _ _ _ (sound_type_tree names n mid) (λ ty mid1 k.
      sound_initialised var name at_colon ty ts mid1 (h ∙ ap (λ
      (u : Row). colon at_colon ∷ u) k.tokens) k.obeys))

  -- ---- items

  sound_var_item : (ts : Row)
      → Only Item ((var_item names run).parser.run ts)
      (λ i rest. Yields names (said_item i) elsewhere ts rest)
  unfolding var_item
  sound_var_item ts =
      only_then _ _ _ _ (only_word reserved.Var ts) (λ var mid h.
      only_then _ _ _ _ (only_name mid) (λ name mid1 k.
      only_then _ _ _ _ (sound_variable_from (Some var) name mid1) (λ v rest l.
      only_read _ _ rest
      (rw (says-Variable v)
      (record {
        tokens = h ∙ ap (λ (u : Row). word reserved.Var var ∷ u) k ∙ l.tokens;
        obeys = l.obeys;
      })))))

  -- behind the name of a declaration
  sound_named : (first : Operand) (name : Name) (ts mid : Row) → plain_name first ≡ Some name
      → ts ≡ tokens_of (said_operand first) ++ mid
      → Only Item ((by_name names run first (Some name)).run mid)
      (λ i rest. Yields names (said_item i) elsewhere ts rest)
  sound_named first name ts mid is h =
      only_then _ _ _ _ (sound_variable_from None name mid) (λ v rest l.
      only_read _ _ rest
      (rw (says-Variable v)
      (record {
        tokens =
            h ∙ ap (λ (u : Row). u ++ mid) (plain_name_says first name is) ∙ l.tokens;
        obeys = l.obeys;
      })))

  -- the tokens of a declaration of names
  sound_names : (first : Operand) (p : PlainNames) (ts mid : Row) → plain_names first ≡ Some p
      → ts ≡ tokens_of (said_operand first) ++ mid
      → Only Item ((names_from names run p).run mid)
      (λ i rest. Yields names (said_item i) elsewhere ts rest)
  unfolding names_from
  sound_names first p ts mid is h =
      let says = plain_names_say first p is in
      only_then _ _ _ _ (only_colon mid) (λ at_colon mid1 h1.
      only_then _ _ _ _ (sound_type_tree names n mid1) (λ ty mid2 h2.
      only_then _ _ _ _ (only_equals mid2) (λ at_equals mid3 h3.
      only_then _ _ _ _ (laws.sound_expr false mid3) (λ value rest k.
      let after : mid
      ≡ colon at_colon
      ∷ (tokens_of (said_type ty) ++ equals at_equals ∷ (tokens_of (said_expr value) ++ rest)) =
      h1 ∙ ap (λ
      (u : Row). colon at_colon ∷ u) (h2.tokens ∙ ap (λ
      (u : Row). tokens_of (said_type ty) ++ u) (h3 ∙ ap (λ
      (u : Row). equals at_equals ∷ u) k.tokens)) in
      let whole =
      h ∙ ap (λ (u : Row). u ++ mid) says.0 ∙ ap (λ
      (u : Row). (marked mark.OpenParen p.left ∷ named p.first
      ∷ (next_names_tokens p.others ++ marked mark.CloseParen p.right ∷ [])) ++ u) after in
      only_read _ _ rest
      (rw (says-Names p.left p.first p.others p.right at_colon ty at_equals value)
      (record {
        tokens = whole ∙ simp append_assoc refl;
        obeys = both _ _ says.1 (both _ _ h2.obeys k.obeys);
      }))))))

  -- an expression from tokens that don't begin as a declaration
  plain_item : (e : Expr) (ts rest : Row) → (Ahead ts → ⊥)
      → Yields names (said_expr e) elsewhere ts rest
      → Yields names (said_item (an_item.Expr e)) elsewhere ts rest
  plain_item e ts rest none h =
      let not_so : begins_declaration (tokens_of (said_expr e)) ≡ false =
      not_true _
      (λ k. none (rw (h.tokens) (ahead_more _ rest (ahead_of (tokens_of (said_expr e)) k)))) in
      rw (says-Expr e) (record { tokens = h.tokens; obeys = rw (not_so, h.obeys) refl })

  sound_flat_item : (first : Operand) (ts mid : Row) → (Ahead ts → ⊥)
      → YieldsUnit names (said_operand first) true ts mid
      → Only Item ((flat_item names run first).run mid)
      (λ i rest. Yields names (said_item i) elsewhere ts rest)
  unfolding flat_item
  sound_flat_item first ts mid none h =
      only_then _ _ _ _ (laws.sound_expr_from false first ts mid h) (λ e rest k.
      only_read _ _ rest (plain_item e ts rest none k))

  sound_by_names : (first : Operand) (p : Option PlainNames) (ts mid : Row) → plain_names first ≡ p
      → (plain_names first ≡ None → Ahead ts → ⊥)
      → YieldsUnit names (said_operand first) true ts mid
      → Only Item ((by_names names run first p).run mid)
      (λ i rest. Yields names (said_item i) elsewhere ts rest)
  sound_by_names first (Some p) ts mid is none h = sound_names first p ts mid is h.tokens
  sound_by_names first None ts mid is none h = sound_flat_item first ts mid (none is) h

  sound_by_name : (first : Operand) (name : Option Name) (ts mid : Row) → plain_name first ≡ name
      → (plain_name first ≡ None → plain_names first ≡ None → Ahead ts → ⊥)
      → YieldsUnit names (said_operand first) true ts mid
      → Only Item ((by_name names run first name).run mid)
      (λ i rest. Yields names (said_item i) elsewhere ts rest)
  sound_by_name first (Some name) ts mid is none h = sound_named first name ts mid is h.tokens
  sound_by_name first None ts mid is none h =
      sound_by_names first (plain_names first) ts mid refl (none is) h

  sound_item_from : (first : Operand) (ts mid : Row)
      → (operand names run true).parser.run ts ≡ Read first mid
      → Only Item ((item_from names run first).run mid)
      (λ i rest. Yields names (said_item i) elsewhere ts rest)
  unfolding item_from declared
  sound_item_from first ts mid e =
      let h = (laws.sound_operand true ts).holds first mid e in
      only_if (sees is_range (next_of mid)) _ _ _
      (λ is. sound_by_name first (plain_name first) ts mid refl
      (λ none no a. (declares names run laws ts a first mid e).plain none no) h)
      (λ is. sound_flat_item first ts mid (λ a. let c =
      (declares names run laws ts a first mid e).colon_next in absurd cc) h)

  head_ahead : (ts : Row) (e : Expr) (rest : Row) → sees begins_head (next_of ts) ≡ true
      → ts ≡ tokens_of (said_expr e) ++ rest → begins_declaration (tokens_of (said_expr e)) ≡ false
  unfolding sees
  head_ahead ts e rest b is = head_declares_not (said_expr e).first (said_expr e).more (rw is at b)

  sound_head_item : (ts : Row) → sees begins_head (next_of ts) ≡ true
      → Only Item ((head_item names run).parser.run ts)
      (λ i rest. Yields names (said_item i) elsewhere ts rest)
  unfolding head_item
  sound_head_item ts b =
      only_then _ _ _ _ (laws.sound_head ts) (λ h mid k.
      only_then _ _ _ _ (laws.sound_opened h ts mid k false) (λ e rest l.
      only_read _ _ rest
      (rw (says-Expr e)
      (record {
        tokens = l.tokens;
        obeys = rw (head_ahead ts e rest b l.tokens, l.obeys) refl;
      }))))

  -- what is read, with that it is
  only_kept : {A B : Type 0} (o : Outcome A) (f : A → Row → Outcome B) (Q : B → Row → Type 0)
      → ((x : A) (mid : Row) → o ≡ Read x mid → Only B (f x mid) Q) → Only B (and_then o f) Q
  only_kept (Read x mid) f Q h = h x mid refl
  only_kept (Failed e rest) f Q h = only_failed Q e rest

  pub sound_item : (ts : Row)
      → Only Item ((item names run).parser.run ts)
      (λ i rest. Yields names (said_item i) elsewhere ts rest)
  unfolding item
  sound_item ts =
      only_if (sees (is_word reserved.Var) (next_of ts)) _ _ _ (λ v. sound_var_item ts)
      (λ v. only_if (sees begins_head (next_of ts)) _ _ _ (λ b. sound_head_item ts b)
      (λ b. only_kept ((operand names run true).parser.run ts) _ _
      (λ first mid e. sound_item_from first ts mid e)))

  sound_block_item : (ready : Bool) (ts : Row)
      → begins_apart_of begins_item_kind ready (next_of ts) ≡ true
      → Only BlockItem ((block_item names run).parser.run ts)
      (λ e rest. YieldsEntry names ready (said_block_item e) ts rest)
  unfolding block_item
  sound_block_item ready ts b =
      only_then _ _ _ _ (sound_item ts) (λ i mid h.
      only_then _ _ _ _ (sound_semicolon mid) (λ s rest k.
      only_read _ _ rest (rw (says_block_item i s) (record {
        tokens = h.tokens ∙ ap (λ (u : Row). tokens_of (said_item i) ++ u) k;
        obeys = h.obeys;
        apart = begun begins_item_kind ready ts mid (said_item i) b h.tokens;
      }))))

  block_ended : (x : BlockItem)
      → is_ended (out-BlockItem x).semicolon ≡ is_ended (said_block_item x).semicolon
  block_ended x = rw (block_item_says x) refl

  pub sound_block : (ts : Row)
      → Only (List BlockItem) ((block names run).run ts)
      (λ xs rest. YieldsEntries names true (map said_block_item xs) ts rest)
  unfolding block begins_item
  sound_block ts =
      only_entries names said_block_item (λ x. is_ended (out-BlockItem x).semicolon)
      begins_item_kind (block_item names run) block_ended sound_block_item n ts

  -- ---- clauses

  -- what a clause is read from
  clause_whole : (subject : Said) (arrow : Spot) (value : Said) (s : Option Spot)
      (ts mid mid1 mid2 rest : Row) → ts ≡ tokens_of subject ++ mid
      → mid ≡ marked mark.DoubleArrow arrow ∷ mid1 → mid1 ≡ tokens_of value ++ mid2
      → mid2 ≡ semicolon_tokens s ++ rest
      → ts ≡ tokens_of (clause subject arrow value) ++ (semicolon_tokens s ++ rest)
  clause_whole subject arrow value s ts mid mid1 mid2 rest e f g h =
      e ∙ ap (λ
      (u : Row). tokens_of subject ++ u) (f ∙ ap (λ
      (u : Row). marked mark.DoubleArrow arrow ∷ u) (g ∙ ap (λ
      (u : Row). tokens_of value ++ u) h))
      ∙ sym (clause_tokens subject arrow value (semicolon_tokens s ++ rest))

  sound_case_clause : (ready : Bool) (ts : Row)
      → begins_apart_of (begins_unit true) ready (next_of ts) ≡ true
      → Only CaseClause ((case_clause names run).parser.run ts)
      (λ c rest. YieldsEntry names ready (said_case_clause c) ts rest)
  unfolding case_clause
  sound_case_clause ready ts b =
      only_then _ _ _ _ (laws.sound_flat true ts) (λ subject mid h.
      only_then _ _ _ _ (only_mark mark.DoubleArrow mid) (λ arrow mid1 k.
      only_then _ _ _ _ (laws.sound_expr false mid1) (λ value mid2 l.
      only_then _ _ _ _ (sound_semicolon mid2) (λ s rest m.
      let whole =
      clause_whole (said_flat subject) arrow (said_expr value) s ts mid mid1 mid2 rest h.tokens
      k l.tokens m in
      only_read _ _ rest (rw (says_case_clause subject arrow value s) (record {
        tokens = whole;
        obeys = both _ _ h.obeys l.obeys;
        apart = begun (begins_unit true) ready ts mid (said_flat subject) b h.tokens;
      }))))))

  case_ended : (x : CaseClause)
      → is_ended (out-CaseClause x).semicolon ≡ is_ended (said_case_clause x).semicolon
  case_ended x = rw (case_clause_says x) refl

  sound_case_list : (ts : Row)
      → Only (List CaseClause) ((case_list names run).run ts)
      (λ xs rest. YieldsEntries names true (map said_case_clause xs) ts rest)
  unfolding case_list begins_case_clause
  sound_case_list ts =
      only_entries names said_case_clause (λ x. is_ended (out-CaseClause x).semicolon)
      (begins_unit true) (case_clause names run) case_ended sound_case_clause n ts

  sound_type_clause : (ready : Bool) (ts : Row)
      → begins_apart_of begins_type ready (next_of ts) ≡ true
      → Only TypeClause ((type_clause names run).parser.run ts)
      (λ c rest. YieldsEntry names ready (said_type_clause c) ts rest)
  unfolding type_clause
  sound_type_clause ready ts b =
      only_then _ _ _ _ (sound_type_tree names n ts) (λ ty mid h.
      only_then _ _ _ _ (only_mark mark.DoubleArrow mid) (λ arrow mid1 k.
      only_then _ _ _ _ (laws.sound_expr false mid1) (λ value mid2 l.
      only_then _ _ _ _ (sound_semicolon mid2) (λ s rest m.
      let whole =
      clause_whole (said_type ty) arrow (said_expr value) s ts mid mid1 mid2 rest h.tokens k
      l.tokens m in
      only_read _ _ rest (rw (says_type_clause ty arrow value s) (record {
        tokens = whole;
        obeys = both _ _ h.obeys l.obeys;
        apart = begun begins_type ready ts mid (said_type ty) b h.tokens;
      }))))))

  type_ended : (x : TypeClause)
      → is_ended (out-TypeClause x).semicolon ≡ is_ended (said_type_clause x).semicolon
  type_ended x = rw (type_clause_says x) refl

  sound_type_list : (ts : Row)
      → Only (List TypeClause) ((type_clause_list names run).run ts)
      (λ xs rest. YieldsEntries names true (map said_type_clause xs) ts rest)
  unfolding type_clause_list begins_type_clause
  sound_type_list ts =
      only_entries names said_type_clause (λ x. is_ended (out-TypeClause x).semicolon) begins_type
      (type_clause names run) type_ended sound_type_clause n ts

  -- clauses, of which there is one at least
  sound_some : {A : Type 0} (said : A → SaidEntry) (xs : List A) (ts mid : Row)
      → YieldsEntries names true (map said xs) ts mid
      → Only (List A) ((some_of {n = n} xs).run mid)
      (λ ys rest. YieldsEntries names true (map said ys) ts rest × (has_entry (map said ys) ≡ true))
  sound_some said [] ts mid h = only_failed _ _ mid
  sound_some said (x ∷ xs) ts mid h = only_read _ (x ∷ xs) mid (h, refl)

  sound_case_clauses : (ts : Row)
      → Only (List CaseClause) ((case_clauses names run).run ts)
      (λ xs rest. YieldsEntries names true (map said_case_clause xs) ts rest
      × (has_entry (map said_case_clause xs) ≡ true))
  unfolding case_clauses
  sound_case_clauses ts =
      only_then _ _ _ _ (sound_case_list ts) (λ xs mid h. sound_some said_case_clause xs ts mid h)

  sound_type_clauses : (ts : Row)
      → Only (List TypeClause) ((type_clauses names run).run ts)
      (λ xs rest. YieldsEntries names true (map said_type_clause xs) ts rest
      × (has_entry (map said_type_clause xs) ≡ true))
  unfolding type_clauses
  sound_type_clauses ts =
      only_then _ _ _ _ (sound_type_list ts) (λ xs mid h. sound_some said_type_clause xs ts mid h)

  -- ---- the `else` of clauses

  else_whole : (second : Option Spot) (at_else arrow : Spot) (value : Expr)
      (ts start mid mid1 rest : Row) → ts ≡ semicolon_tokens second ++ start
      → start ≡ word reserved.Else at_else ∷ mid → mid ≡ marked mark.DoubleArrow arrow ∷ mid1
      → mid1 ≡ tokens_of (said_expr value) ++ rest
      → ts ≡ (semicolon_tokens second
      ++ (word reserved.Else at_else ∷ marked mark.DoubleArrow arrow
      ∷ tokens_of (said_expr value))) ++ rest
  else_whole second at_else arrow value ts start mid mid1 rest e f g h =
      e ∙ ap (λ
      (u : Row). semicolon_tokens second ++ u) (f ∙ ap (λ
      (u : Row). word reserved.Else at_else ∷ u) (g ∙ ap (λ
      (u : Row). marked mark.DoubleArrow arrow ∷ u) h))
      ∙ sym (append_assoc (semicolon_tokens second)
      (word reserved.Else at_else ∷ marked mark.DoubleArrow arrow ∷ tokens_of (said_expr value))
      rest)

  sound_else_from : (second : Option Spot) (es : List SaidEntry) (ts start : Row)
      → ts ≡ semicolon_tokens second ++ start
      → ((at_else : Spot) (mid : Row) → start ≡ word reserved.Else at_else ∷ mid
      → else_apart (last_semicolon es) second at_else.gap ≡ true)
      → Only (Option ElseClause) ((else_from names run second).run start)
      (λ e rest. YieldsElse names es (option_map said_else_clause e) ts rest)
  unfolding else_from
  sound_else_from second es ts start is apart =
      only_then _ _ _ _ (only_word reserved.Else start) (λ at_else mid h.
      only_then _ _ _ _ (only_mark mark.DoubleArrow mid) (λ arrow mid1 k.
      only_then _ _ _ _ (laws.sound_expr false mid1) (λ value rest l.
      let whole = else_whole second at_else arrow value ts start mid mid1 rest is h k l.tokens in
      let far = apart at_else mid h in
      only_read _ _ rest
      (rw (says_else_clause second at_else arrow value)
      (record { tokens = whole; obeys = both _ _ far l.obeys })))))

  apart_ended : (semicolon second : Option Spot) (gap : Gap) → is_ended semicolon ≡ true
      → else_apart semicolon second gap ≡ true
  apart_ended None second gap e = absurd cc
  apart_ended (Some s) second gap e = refl

  apart_first : (semicolon : Option Spot) (gap : Gap) → (is_ended semicolon || is_line gap) ≡ true
      → else_apart semicolon None gap ≡ true
  apart_first None gap e = e
  apart_first (Some s) gap e = refl

  else_begun : (ended : Bool) (ts : Row) (at_else : Spot) (mid : Row)
      → begins_else ended (next_of ts) ≡ true → ts ≡ word reserved.Else at_else ∷ mid
      → (ended || is_line at_else.gap) ≡ true
  unfolding begins_else begins_apart_of
  else_begun ended ts at_else mid e is = left_true _ _ (rw is at e)

  sound_else_clause : (es : List SaidEntry) (ended : Bool) (ts : Row)
      → ended ≡ is_ended (last_semicolon es)
      → Only (Option ElseClause) ((else_clause names run ended).run ts)
      (λ e rest. YieldsElse names es (option_map said_else_clause e) ts rest)
  unfolding else_clause second_else
  sound_else_clause es ended ts is =
      only_if (sees_second ended (next_of ts)) _ _ _
      (λ e. only_then _ _ _ _ (only_mark mark.Semicolon ts)
      (λ second mid h. sound_else_from (Some second) es ts mid h
      (λ at_else rest k. apart_ended (last_semicolon es) (Some second) at_else.gap (sym is
      ∙ left_true _ _ e))))
      (λ e. only_if (begins_else ended (next_of ts)) _ _ _
      (λ b. sound_else_from None es ts ts refl
      (λ at_else rest k. apart_first (last_semicolon es) at_else.gap
      (rw (sym is) (else_begun ended ts at_else rest b k))))
      (λ b. only_read _ None ts (record { tokens = refl; obeys = refl })))

  -- ---- parts of the forms

  sound_also : (ts : Row)
      → Only Also ((also_block names run).parser.run ts)
      (λ a rest. Yields names (said_also a) elsewhere ts rest)
  unfolding also_block
  sound_also ts =
      only_then _ _ _ _ (only_word reserved.Also ts) (λ also mid h.
      only_then _ _ _ _ (only_word reserved.Do mid) (λ at_do mid1 k.
      only_then _ _ _ _ (sound_block mid1) (λ b rest l.
      only_read _ _ rest
      (rw (says_also also at_do b)
      (record {
        tokens =
            h ∙ ap (λ
            (u : Row). word reserved.Also also ∷ u) (k ∙ ap (λ
            (u : Row). word reserved.Do at_do ∷ u) l.tokens);
        obeys = l.obeys;
      })))))

  sound_alsos : (ts : Row)
      → Only (List Also) ((also_blocks names run).run ts)
      (λ xs rest. YieldsAll names (map said_also xs) elsewhere ts rest)
  unfolding also_blocks
  sound_alsos ts =
      only_list names elsewhere said_also (sees (is_word reserved.Also)) (also_block names run)
      (λ u e. sound_also u) n ts

  sound_elif : (ts : Row)
      → Only Elif ((elif names run).parser.run ts)
      (λ x rest. Yields names (said_elif x) elsewhere ts rest)
  unfolding elif
  sound_elif ts =
      only_then _ _ _ _ (only_word reserved.Elif ts) (λ at_elif mid h.
      only_then _ _ _ _ (laws.sound_flat true mid) (λ condition mid1 k.
      only_then _ _ _ _ (only_word reserved.Then mid1) (λ then mid2 l.
      only_then _ _ _ _ (sound_block mid2) (λ b rest m.
      let whole : ts
      ≡ word reserved.Elif at_elif ∷ (tokens_of (said_flat condition) ++ word reserved.Then
      then ∷ (entries_tokens (map said_block_item b) ++ rest)) =
      h ∙ ap (λ
      (u : Row). word reserved.Elif at_elif ∷ u) (k.tokens ∙ ap (λ
      (u : Row). tokens_of (said_flat condition) ++ u) (l ∙ ap (λ
      (u : Row). word reserved.Then then ∷ u) m.tokens)) in
      only_read _ _ rest
      (rw (says_elif at_elif condition
      then b) (record {
        tokens = whole ∙ simp append_assoc refl;
        obeys = both _ _ k.obeys m.obeys;
      }))))))

  sound_elifs : (ts : Row)
      → Only (List Elif) ((elifs names run).run ts)
      (λ xs rest. YieldsAll names (map said_elif xs) elsewhere ts rest)
  unfolding elifs
  sound_elifs ts =
      only_list names elsewhere said_elif (sees (is_word reserved.Elif)) (elif names run)
      (λ u e. sound_elif u) n ts

  sound_else_block : (ts : Row)
      → Only (Option ElseBlock) ((else_block names run).run ts)
      (λ x rest. YieldsMaybe names (option_map said_else_block x) elsewhere ts rest)
  unfolding else_block
  sound_else_block ts =
      only_if (sees (is_word reserved.Else) (next_of ts)) _ _ _
      (λ e. only_then _ _ _ _ (only_word reserved.Else ts) (λ at_else mid h.
      only_then _ _ _ _ (sound_block mid) (λ b rest k.
      only_read _ _ rest
      (rw (says_else_block at_else b)
      (record {
        tokens = h ∙ ap (λ (u : Row). word reserved.Else at_else ∷ u) k.tokens;
        obeys = k.obeys;
      })))))
      (λ e. only_read _ None ts (record { tokens = refl; obeys = refl }))

  sound_catch_from : (ts : Row)
      → Only (Option Catch) ((catch_from names run).run ts)
      (λ x rest. YieldsMaybe names (option_map said_catch x) elsewhere ts rest)
  unfolding catch_from
  sound_catch_from ts =
      only_then _ _ _ _ (only_word reserved.Catch ts) (λ at_catch mid h.
      only_then _ _ _ _ (only_name mid) (λ name mid1 k.
      only_then _ _ _ _ (sound_type_clauses mid1) (λ clauses rest l.
      only_read _ _ rest
      (rw (says_catch at_catch name clauses)
      (record {
        tokens =
            h ∙ ap (λ
            (u : Row). word reserved.Catch at_catch ∷ u) (k ∙ ap (λ
            (u : Row). named name ∷ u) l.0.tokens);
        obeys = both _ _ l.1 l.0.obeys;
      })))))

  sound_catch : (ts : Row)
      → Only (Option Catch) ((catch names run).run ts)
      (λ x rest. YieldsMaybe names (option_map said_catch x) elsewhere ts rest)
  unfolding catch
  sound_catch ts =
      only_if (sees (is_word reserved.Catch) (next_of ts)) _ _ _ (λ e. sound_catch_from ts)
      (λ e. only_read _ None ts (record { tokens = refl; obeys = refl }))

  sound_no_finally : (optional : Bool) (ts : Row)
      → Only (Option Finally) ((no_finally names run optional).run ts)
      (λ x rest. YieldsMaybe names (option_map said_finally x) elsewhere ts rest
      × ((optional || is_there x) ≡ true))
  sound_no_finally true ts = only_read _ None ts (record { tokens = refl; obeys = refl }, refl)
  sound_no_finally false ts = only_failed _ _ ts

  sound_finally : (optional : Bool) (ts : Row)
      → Only (Option Finally) ((finally names run optional).run ts)
      (λ x rest. YieldsMaybe names (option_map said_finally x) elsewhere ts rest
      × ((optional || is_there x) ≡ true))
  unfolding finally
  sound_finally optional ts =
      only_if (sees (is_word reserved.Finally) (next_of ts)) _ _ _
      (λ e. only_then _ _ _ _ (only_word reserved.Finally ts) (λ at_finally mid h.
      only_then _ _ _ _ (sound_block mid) (λ b rest k.
      only_read _ _ rest
      (rw (says_finally at_finally b) (
        record {
          tokens =
              h ∙ ap (λ (u : Row). word reserved.Finally at_finally ∷ u) k.tokens;
          obeys = k.obeys;
        },
        true_right optional,
      )))))
      (λ e. sound_no_finally optional ts)

  sound_next_generator : (ts : Row)
      → Only NextGenerator ((next_generator names run).parser.run ts)
      (λ x rest. Yields names (said_next_generator x) before_do ts rest)
  unfolding next_generator
  sound_next_generator ts =
      only_then _ _ _ _ (only_mark mark.Comma ts) (λ comma mid h.
      only_then _ _ _ _ (laws.sound_generator false mid) (λ g rest k.
      only_read _ _ rest
      (rw (says_next_generator comma g)
      (record {
        tokens = h ∙ ap (λ (u : Row). marked mark.Comma comma ∷ u) k.tokens;
        obeys = k.obeys;
      }))))

  sound_next_generators : (ts : Row)
      → Only (List NextGenerator) ((next_generators names run).run ts)
      (λ xs rest. YieldsAll names (map said_next_generator xs) before_do ts rest)
  unfolding next_generators
  sound_next_generators ts =
      only_list names before_do said_next_generator (sees (is_mark mark.Comma))
      (next_generator names run) (λ u e. sound_next_generator u) n ts

  -- ---- the forms

  sound_do_form : (blocks : Bool) (at_do : Spot) (ts : Row) → blocks ≡ true
      → Only Delimited ((do_form names run at_do).run ts)
      (λ d rest. YieldsUnit names (said_delimited d) blocks (word reserved.Do at_do ∷ ts) rest)
  unfolding do_form
  sound_do_form blocks at_do ts is =
      only_then _ _ _ _ (sound_block ts) (λ b mid h.
      only_then _ _ _ _ (sound_alsos mid) (λ others mid1 k.
      only_then _ _ _ _ (only_word reserved.End mid1) (λ end rest l.
      let ht = h.tokens in let kt = k.tokens in
      only_read _ _ rest
      (rw (says-Do at_do b others end)
      (record {
        tokens = simp append_assoc (cc);
        obeys = λ lines. both _ _ is (both _ _ h.obeys k.obeys);
      })))))

  sound_if_rest : (blocks : Bool) (at_if : Spot) (condition : Flat) (then : Spot)
      (b : List BlockItem) (ts mid : Row)
      → ts ≡ tokens_of (said_flat condition) ++ word reserved.Then
      then ∷ (entries_tokens (map said_block_item b) ++ mid)
      → (said_flat condition).obeys names elsewhere ≡ true
      → entries_obey names (map said_block_item b) ≡ true
      → Only Delimited ((if_rest names run at_if condition then b).run mid)
      (λ d rest. YieldsUnit names (said_delimited d) blocks (word reserved.If at_if ∷ ts) rest)
  unfolding if_rest
  sound_if_rest blocks at_if condition then b ts mid is ob obs =
      only_then _ _ _ _ (sound_elifs mid) (λ others mid1 h.
      only_then _ _ _ _ (sound_else_block mid1) (λ otherwise mid2 k.
      only_then _ _ _ _ (only_word reserved.End mid2) (λ end rest l.
      let ht = h.tokens in let kt = k.tokens in
      only_read _ _ rest
      (rw (says-If at_if condition
      then b others otherwise end)
      (record {
        tokens = simp append_assoc (cc);
        obeys = λ lines. both _ _ ob (both _ _ obs (both _ _ h.obeys k.obeys));
      })))))

  sound_if_form : (blocks : Bool) (at_if : Spot) (ts : Row)
      → Only Delimited ((if_form names run at_if).run ts)
      (λ d rest. YieldsUnit names (said_delimited d) blocks (word reserved.If at_if ∷ ts) rest)
  unfolding if_form
  sound_if_form blocks at_if ts =
      only_then _ _ _ _ (laws.sound_flat true ts) (λ condition mid h.
      only_then _ _ _ _ (only_word reserved.Then mid) (λ then mid1 k.
      only_then _ _ _ _ (sound_block mid1) (λ b mid2 l.
      sound_if_rest blocks at_if condition
      then b ts mid2 (h.tokens ∙ ap (λ
      (u : Row). tokens_of (said_flat condition) ++ u) (k ∙ ap (λ
      (u : Row). word reserved.Then then ∷ u) l.tokens)) h.obeys l.obeys)))

  sound_while_form : (blocks : Bool) (at_while : Spot) (ts : Row)
      → Only Delimited ((while_form names run at_while).run ts)
      (λ d rest. YieldsUnit names (said_delimited d) blocks (word reserved.While at_while ∷ ts)
      rest)
  unfolding while_form
  sound_while_form blocks at_while ts =
      only_then _ _ _ _ (laws.sound_flat false ts) (λ condition mid h.
      only_then _ _ _ _ (only_word reserved.Do mid) (λ at_do mid1 k.
      only_then _ _ _ _ (sound_block mid1) (λ b mid2 l.
      only_then _ _ _ _ (only_word reserved.End mid2) (λ end rest m.
      let ht = h.tokens in let lt = l.tokens in
      only_read _ _ rest
      (rw (says-While at_while condition at_do b end)
      (record {
        tokens = simp append_assoc (cc);
        obeys = λ lines. both _ _ h.obeys l.obeys;
      }))))))

  sound_for_rest : (blocks : Bool) (at_for : Spot) (g : Generator) (others : List NextGenerator)
      (ts mid : Row)
      → ts ≡ tokens_of (said_generator g) ++ (all_tokens (map said_next_generator others) ++ mid)
      → (said_generator g).obeys names before_do ≡ true
      → all_obey names before_do (map said_next_generator others) ≡ true
      → Only Delimited ((for_rest names run at_for g others).run mid)
      (λ d rest. YieldsUnit names (said_delimited d) blocks (word reserved.For at_for ∷ ts) rest)
  unfolding for_rest
  sound_for_rest blocks at_for g others ts mid is ob obs =
      only_then _ _ _ _ (only_word reserved.Do mid) (λ at_do mid1 h.
      only_then _ _ _ _ (sound_block mid1) (λ b mid2 k.
      only_then _ _ _ _ (only_word reserved.End mid2) (λ end rest l.
      let kt = k.tokens in
      only_read _ _ rest
      (rw (says-For at_for g others at_do b end)
      (record {
        tokens = simp append_assoc (cc);
        obeys = λ lines. both _ _ ob (both _ _ obs k.obeys);
      })))))

  sound_for_form : (blocks : Bool) (at_for : Spot) (ts : Row)
      → Only Delimited ((for_form names run at_for).run ts)
      (λ d rest. YieldsUnit names (said_delimited d) blocks (word reserved.For at_for ∷ ts) rest)
  unfolding for_form
  sound_for_form blocks at_for ts =
      only_then _ _ _ _ (laws.sound_generator false ts) (λ g mid h.
      only_then _ _ _ _ (sound_next_generators mid) (λ others mid1 k.
      sound_for_rest blocks at_for g others ts mid1 (h.tokens ∙ ap (λ
      (u : Row). tokens_of (said_generator g) ++ u) k.tokens) h.obeys k.obeys))

  case_last : (xs : List CaseClause)
      → last_ended (λ c. (out-CaseClause c).semicolon) xs
      ≡ is_ended (last_semicolon (map said_case_clause xs))
  case_last xs =
      last_is said_case_clause (λ c. (out-CaseClause c).semicolon)
      (λ c. rw (case_clause_says c) refl) xs

  type_last : (xs : List TypeClause)
      → last_ended (λ c. (out-TypeClause c).semicolon) xs
      ≡ is_ended (last_semicolon (map said_type_clause xs))
  type_last xs =
      last_is said_type_clause (λ c. (out-TypeClause c).semicolon)
      (λ c. rw (type_clause_says c) refl) xs

  sound_case_rest : (blocks : Bool) (at_case : Spot) (subject : Flat) (of : Spot) (ts mid : Row)
      → ts ≡ tokens_of (said_flat subject) ++ word reserved.Of of ∷ mid
      → (said_flat subject).obeys names elsewhere ≡ true
      → Only Delimited ((case_rest names run at_case subject of).run mid)
      (λ d rest. YieldsUnit names (said_delimited d) blocks (word reserved.Case at_case ∷ ts) rest)
  unfolding case_rest
  sound_case_rest blocks at_case subject of ts mid is ob =
      only_then _ _ _ _ (sound_case_clauses mid) (λ clauses mid1 h.
      only_then _ _ _ _
      (sound_else_clause (map said_case_clause clauses)
      (last_ended (λ c. (out-CaseClause c).semicolon) clauses) mid1 (case_last clauses))
      (λ otherwise mid2 k.
      only_then _ _ _ _ (only_word reserved.End mid2) (λ end rest l.
      let ht = h.0.tokens in let kt = k.tokens in
      only_read _ _ rest
      (rw (says-Case at_case subject of clauses otherwise end)
      (record {
        tokens = simp append_assoc (cc);
        obeys = λ lines. both _ _ ob (both _ _ h.1 (both _ _ h.0.obeys k.obeys));
      })))))

  sound_case_form : (blocks : Bool) (at_case : Spot) (ts : Row)
      → Only Delimited ((case_form names run at_case).run ts)
      (λ d rest. YieldsUnit names (said_delimited d) blocks (word reserved.Case at_case ∷ ts) rest)
  unfolding case_form
  sound_case_form blocks at_case ts =
      only_then _ _ _ _ (laws.sound_flat true ts) (λ subject mid h.
      only_then _ _ _ _ (only_word reserved.Of mid) (λ of mid1 k.
      sound_case_rest blocks at_case subject of ts mid1 (h.tokens ∙ ap (λ
      (u : Row). tokens_of (said_flat subject) ++ u) k) h.obeys))

  sound_typecase_rest : (blocks : Bool) (at_typecase : Spot) (name : Name) (at_equals : Spot)
      (subject : Flat) (of : Spot) (ts mid : Row)
      → ts ≡ named name ∷ equals at_equals
      ∷ (tokens_of (said_flat subject) ++ word reserved.Of of ∷ mid)
      → (said_flat subject).obeys names elsewhere ≡ true
      → Only Delimited ((typecase_rest names run at_typecase name at_equals subject of).run mid)
      (λ d rest. YieldsUnit names (said_delimited d) blocks
      (word reserved.Typecase at_typecase ∷ ts) rest)
  unfolding typecase_rest
  sound_typecase_rest blocks at_typecase name at_equals subject of ts mid is ob =
      only_then _ _ _ _ (sound_type_clauses mid) (λ clauses mid1 h.
      only_then _ _ _ _
      (sound_else_clause (map said_type_clause clauses)
      (last_ended (λ c. (out-TypeClause c).semicolon) clauses) mid1 (type_last clauses))
      (λ otherwise mid2 k.
      only_then _ _ _ _ (only_word reserved.End mid2) (λ end rest l.
      let ht = h.0.tokens in let kt = k.tokens in
      only_read _ _ rest
      (rw (says-Typecase at_typecase name at_equals subject of clauses otherwise end)
      (record {
        tokens = simp append_assoc (cc);
        obeys = λ lines. both _ _ ob (both _ _ h.1 (both _ _ h.0.obeys k.obeys));
      })))))

  sound_typecase_form : (blocks : Bool) (at_typecase : Spot) (ts : Row)
      → Only Delimited ((typecase_form names run at_typecase).run ts)
      (λ d rest. YieldsUnit names (said_delimited d) blocks
      (word reserved.Typecase at_typecase ∷ ts) rest)
  unfolding typecase_form
  sound_typecase_form blocks at_typecase ts =
      only_then _ _ _ _ (only_name ts) (λ name mid h.
      only_then _ _ _ _ (only_equals mid) (λ at_equals mid1 k.
      only_then _ _ _ _ (laws.sound_flat true mid1) (λ subject mid2 l.
      only_then _ _ _ _ (only_word reserved.Of mid2) (λ of mid3 m.
      sound_typecase_rest blocks at_typecase name at_equals subject of ts mid3
      (h ∙ ap (λ
      (u : Row). named name ∷ u) (k ∙ ap (λ
      (u : Row). equals at_equals ∷ u) (l.tokens ∙ ap (λ
      (u : Row). tokens_of (said_flat subject) ++ u) m))) l.obeys))))

  sound_try_form : (blocks : Bool) (at_try : Spot) (ts : Row)
      → Only Delimited ((try_form names run at_try).run ts)
      (λ d rest. YieldsUnit names (said_delimited d) blocks (word reserved.Try at_try ∷ ts) rest)
  unfolding try_form
  sound_try_form blocks at_try ts =
      only_then _ _ _ _ (sound_block ts) (λ b mid h.
      only_then _ _ _ _ (sound_catch mid) (λ c mid1 k.
      only_then _ _ _ _ (sound_finally (is_there c) mid1) (λ f mid2 l.
      only_then _ _ _ _ (only_word reserved.End mid2) (λ end rest m.
      let ht = h.tokens in let kt = k.tokens in let lt = l.0.tokens in
      only_read _ _ rest
      (rw (says-Try at_try b c f end)
      (record {
        tokens = simp append_assoc (cc);
        obeys = λ lines. both _ _ (there c f l.1 said_catch said_finally)
            (both _ _ h.obeys (both _ _ k.obeys l.0.obeys));
      }))))))

  sound_word_form : (w : Reserved) (blocks : Bool) (ts : Row)
      → begins_atom blocks (kind.Word w) ≡ true
      → Only Delimited ((word_form names run w).parser.run ts)
      (λ d rest. YieldsUnit names (said_delimited d) blocks ts rest)
  unfolding begins_atom
  sound_word_form reserved.Do blocks ts e =
      only_then _ _ _ _ (only_word reserved.Do ts) (λ s mid h. rw h (sound_do_form blocks s mid e))
  sound_word_form reserved.If blocks ts e =
      only_then _ _ _ _ (only_word reserved.If ts) (λ s mid h. rw h (sound_if_form blocks s mid))
  sound_word_form reserved.While blocks ts e =
      only_then _ _ _ _ (only_word reserved.While ts)
      (λ s mid h. rw h (sound_while_form blocks s mid))
  sound_word_form reserved.For blocks ts e =
      only_then _ _ _ _ (only_word reserved.For ts) (λ s mid h. rw h (sound_for_form blocks s mid))
  sound_word_form reserved.Case blocks ts e =
      only_then _ _ _ _ (only_word reserved.Case ts)
      (λ s mid h. rw h (sound_case_form blocks s mid))
  sound_word_form reserved.Typecase blocks ts e =
      only_then _ _ _ _ (only_word reserved.Typecase ts)
      (λ s mid h. rw h (sound_typecase_form blocks s mid))
  sound_word_form reserved.Try blocks ts e =
      only_then _ _ _ _ (only_word reserved.Try ts) (λ s mid h. rw h (sound_try_form blocks s mid))
  sound_word_form _ blocks ts e = only_failed _ _ ts

  sound_form_for : (k : Kind) (blocks : Bool) (ts : Row) → begins_atom blocks k ≡ true
      → Only Delimited ((form_for names run k).parser.run ts)
      (λ d rest. YieldsUnit names (said_delimited d) blocks ts rest)
  sound_form_for (kind.Word w) blocks ts e = sound_word_form w blocks ts e
  sound_form_for (kind.Name v) blocks ts e = only_failed _ _ ts
  sound_form_for (kind.Number v) blocks ts e = only_failed _ _ ts
  sound_form_for (kind.Text v) blocks ts e = only_failed _ _ ts
  sound_form_for (kind.Op v) blocks ts e = only_failed _ _ ts
  sound_form_for (kind.Mark v) blocks ts e = only_failed _ _ ts

  pub sound_delimited : (blocks : Bool) (ts : Row) → sees (begins_atom blocks) (next_of ts) ≡ true
      → Only Delimited ((delimited names run).parser.run ts)
      (λ d rest. YieldsUnit names (said_delimited d) blocks ts rest)
  unfolding delimited sees
  sound_delimited blocks [] e = only_failed _ _ []
  sound_delimited blocks (t ∷ ts) e = sound_form_for t.kind blocks (t ∷ ts) e
