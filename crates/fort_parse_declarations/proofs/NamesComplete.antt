-- The tokens of names of types, of functions and of the parameters of objects are read as them.
use Rattle.std.proofs.Common.{◌≡◌, ℕ, zero, suc, Bool, true, false, List, [], ◌∷◌, ◌++◌, append_assoc, Option, Some, None, refl}
use Rattle.std.specs.Prelude.{option_map}
use Rattle.fort_ops.specs.declared.op.Op.{Op}
use Rattle.fort_ops.specs.declared.op.Op.TheVariants as op
use Rattle.fort_lex_token.specs.declared.token.Kind.{Kind}
use Rattle.fort_lex_token.specs.declared.token.Token.{Token}
use Rattle.fort_lex_token.specs.declared.marks.Mark.{Mark}
use Rattle.fort_lex_token.specs.declared.marks.Mark.TheVariants as mark
use Rattle.fort_lex_token.specs.declared.reserved.Reserved.{Reserved}
use Rattle.fort_lex_token.specs.declared.reserved.Reserved.TheVariants as reserved
use Rattle.fort_tree.specs.declared.spot.Spot.{Spot}
use Rattle.fort_tree.specs.declared.spot.Name.{Name}
use Rattle.fort_tree.specs.declared.spot.NextName.{NextName}
use Rattle.fort_tree.specs.declared.spot.Sign.{Sign}
use Rattle.fort_tree.specs.declared.types.TypeTree.{TypeTree}
use Rattle.fort_tree.specs.declared.declarations.Comprises.{Comprises}
use Rattle.fort_tree.specs.declared.declarations.Excludes.{Excludes}
use Rattle.fort_tree.specs.declared.declarations.Extends.{Extends}
use Rattle.fort_tree.specs.declared.declarations.FunctionName.{FunctionName}
use Rattle.fort_tree.specs.declared.declarations.FunctionName.TheVariants as function_name
use Rattle.fort_tree.specs.declared.declarations.Names.{Names}
use Rattle.fort_tree.specs.declared.declarations.Names.TheVariants as names_of
use Rattle.fort_tree.specs.declared.declarations.NextObjectParameter.{NextObjectParameter}
use Rattle.fort_tree.specs.declared.declarations.ObjectParameter.{ObjectParameter}
use Rattle.fort_tree.specs.declared.declarations.ObjectParameterList.{ObjectParameterList}
use Rattle.fort_tree.specs.declared.declarations.ObjectParameters.{ObjectParameters}
use Rattle.std.specs.Prelude.{codes}
use Rattle.fort_tree.specs.Tokens.{Spellings, marked, word, named, signed, is_spelled, may_declare}
use Rattle.fort_tree.specs.Said.{Said, Allowed, tokens_of, maybe_tokens, maybe_obeys, semicolon_tokens, elsewhere}
use Rattle.fort_tree.specs.Types.{said_type}
use Rattle.fort_tree.specs.Blocks.{after_var, next_names_tokens}
use Rattle.fort_tree.specs.Declarations.{name_more, name_fits, is_opr, names_tokens, extends_tokens, excludes_tokens, comprises_tokens, said_object_parameter, said_next_object_parameter, said_object_parameter_list, said_object_parameters}
use Rattle.fort_parse_reading.specs.Parser.{Row, next_of, many_run}
use Rattle.fort_parse_reading.specs.Words.{is_mark, is_word, is_called, same_mark, sees}
use Rattle.fort_parse_reading.proofs.Laws.{Gets, reads, ends, gets_then, gets_accept}
use Rattle.fort_parse_reading.proofs.Taking.{gets_name, gets_mark, gets_word, gets_colon, gets_called, is_mark_at, is_word_at}
use Rattle.fort_parse_reading.proofs.Yields.{left_true, right_true, gets_list, next_stops}
use Rattle.fort_parse_types.proofs.Complete.{type_stops, stops_at_comma, stops_at_close, complete_type_tree}
use Rattle.fort_parse.proofs.Entries.{StopsAfter}
use Rattle.fort_parse_declarations.specs.Names.{is_declarable, declared_of, semicolon, juxtaposition_name, operator_name, opr_name, next_name, next_names, braces, type_names, extends, excludes, comprises, object_typed, var_parameter, object_parameter, next_object_parameter, next_object_parameters, object_parameter_list, maybe_object_list, object_parens, object_parameters}
use Rattle.fort_parse_declarations.proofs.Followers.{Follows}

sees_at : (f : Kind → Bool) (t : Token) (b : Bool) → f t.kind ≡ b → sees f (Some t) ≡ b
unfolding sees
sees_at f t b e = e

pub name_no_mark : (m : Mark) (n : Name) → sees (is_mark m) (Some (named n)) ≡ false
unfolding sees is_mark
name_no_mark m n = refl

pub name_no_word : (w : Reserved) (n : Name) → sees (is_word w) (Some (named n)) ≡ false
unfolding sees is_word
name_no_word w n = refl

pub sees_mark : (m : Mark) (s : Spot) → sees (is_mark m) (Some (marked m s)) ≡ true
sees_mark m s = sees_at (is_mark m) (marked m s) true (is_mark_at m)

pub sees_word : (w : Reserved) (s : Spot) → sees (is_word w) (Some (word w s)) ≡ true
sees_word w s = sees_at (is_word w) (word w s) true (is_word_at w)

brace_no_comma : (right : Spot)
    → sees (is_mark mark.Comma) (Some (marked mark.CloseBrace right)) ≡ false
unfolding sees is_mark same_mark
brace_no_comma right = refl

-- ---- names of functions

declares : (o : Op) (k : ℕ) → may_declare o k ≡ true → is_declarable o ≡ true
declares op.Juxt k e = absurd cc
declares _ k e = refl

declared_at : (x : Sign) → is_declarable x.op ≡ true → declared_of (signed x) ≡ Some x
unfolding declared_of
declared_at x e = rw e refl

called_juxtaposition : (names : Spellings) (name : Name)
    → is_spelled "juxtaposition" names name ≡ true
    → is_called (codes "juxtaposition") names name ≡ true
unfolding is_called
called_juxtaposition names name e = e

-- where the `opr` before a name stands
abbrev pub opr_of : FunctionName → Spot
opr_of (function_name.Name name) = name.spot
opr_of (function_name.Operator opr sign) = opr
opr_of (function_name.Juxtaposition opr name) = opr

module _ (names : Spellings) (n : ℕ) where
  pub complete_semicolon : (s : Option Spot) (rest : Row) → StopsAfter Follows s (next_of rest)
      → Gets (Option Spot) ((semicolon names n).run (semicolon_tokens s ++ rest)) s rest
  unfolding semicolon
  complete_semicolon None rest h = rw h.semicolon reads
  complete_semicolon (Some s) rest h =
      rw (sees_at (is_mark mark.Semicolon) (marked mark.Semicolon s) true
      (is_mark_at mark.Semicolon)) (gets_then _ (gets_mark mark.Semicolon s rest) reads)

  pub complete_opr_name : (f : FunctionName) (k : ℕ) (rest : Row) → name_fits names f k ≡ true
      → is_opr f ≡ true
      → Gets FunctionName ((opr_name names n (opr_of f)).run (name_more f ++ rest)) f rest
  unfolding opr_name juxtaposition_name operator_name sees
  complete_opr_name (function_name.Name name) k rest e o = absurd cc
  complete_opr_name (function_name.Operator opr sign) k rest e o =
      gets_then _
      (gets_accept declared_of (signed sign) rest sign (declared_at sign (declares sign.op k e)))
      reads
  complete_opr_name (function_name.Juxtaposition opr name) k rest e o =
      gets_then _
      (gets_called (codes "juxtaposition") names name rest
      (called_juxtaposition names name (left_true _ _ e))) reads

  -- ---- names of types

  gets_next_names : (turns : ℕ) (xs : List NextName) (right : Spot) (rest : Row)
      → Gets (List NextName)
      (many_run (λ state. sees (is_mark mark.Comma)) (λ state x. state) (λ state. next_name names n)
      turns true (next_names_tokens xs ++ marked mark.CloseBrace right ∷ rest)) xs
      (marked mark.CloseBrace right ∷ rest)
  unfolding next_name
  gets_next_names zero xs right rest = ends
  gets_next_names (suc turns) [] right rest = rw (brace_no_comma right) reads
  gets_next_names (suc turns) (x ∷ xs) right rest =
      rw (sees_mark mark.Comma x.comma)
      (gets_then _
      (gets_then _ (gets_mark mark.Comma x.comma _)
      (gets_then _ (gets_name x.name _) reads))
      (gets_then _ (gets_next_names turns xs right rest) reads))

  pub complete_type_names : (ns : Names) (rest : Row)
      → Gets Names ((type_names names n).run (names_tokens ns ++ rest)) ns rest
  unfolding type_names braces next_names
  complete_type_names (names_of.One name) rest =
      rw (name_no_mark mark.OpenBrace name) (gets_then _ (gets_name name rest) reads)
  complete_type_names (names_of.Braces left first others right) rest =
      rw (sees_mark mark.OpenBrace left)
      (simp append_assoc
      (gets_then _ (gets_mark mark.OpenBrace left _)
      (gets_then _ (gets_name first _)
      (gets_then _ (gets_next_names n others right rest)
      (gets_then _ (gets_mark mark.CloseBrace right rest) reads)))))

  pub complete_extends : (x : Option Extends) (rest : Row)
      → sees (is_word reserved.Extends) (next_of rest) ≡ false
      → Gets (Option Extends) ((extends names n).run (extends_tokens x ++ rest)) x rest
  unfolding extends
  complete_extends None rest e = rw e reads
  complete_extends (Some x) rest e =
      rw (sees_at (is_word reserved.Extends) (word reserved.Extends x.extends) true
      (is_word_at reserved.Extends))
      (gets_then _ (gets_word reserved.Extends x.extends _)
      (gets_then _ (complete_type_names x.names rest) reads))

  pub complete_excludes : (x : Option Excludes) (rest : Row)
      → sees (is_word reserved.Excludes) (next_of rest) ≡ false
      → Gets (Option Excludes) ((excludes names n).run (excludes_tokens x ++ rest)) x rest
  unfolding excludes
  complete_excludes None rest e = rw e reads
  complete_excludes (Some x) rest e =
      rw (sees_at (is_word reserved.Excludes) (word reserved.Excludes x.excludes) true
      (is_word_at reserved.Excludes))
      (gets_then _ (gets_word reserved.Excludes x.excludes _)
      (gets_then _ (complete_type_names x.names rest) reads))

  pub complete_comprises : (x : Option Comprises) (rest : Row)
      → sees (is_word reserved.Comprises) (next_of rest) ≡ false
      → Gets (Option Comprises) ((comprises names n).run (comprises_tokens x ++ rest)) x rest
  unfolding comprises
  complete_comprises None rest e = rw e reads
  complete_comprises (Some x) rest e =
      rw (sees_at (is_word reserved.Comprises) (word reserved.Comprises x.comprises) true
      (is_word_at reserved.Comprises))
      (gets_then _ (gets_word reserved.Comprises x.comprises _)
      (gets_then _ (complete_type_names x.names rest) reads))

  -- ---- parameters of objects

  object_by : (var : Option Spot) (name : Name) (c : Spot) (ty : TypeTree) (rest : Row)
      → (said_type ty).obeys names elsewhere ≡ true → type_stops (next_of rest) ≡ true
      → Gets ObjectParameter
      ((object_parameter names n).parser.run
      (tokens_of (said_object_parameter (record { var = var; name = name; colon = c; ty = ty }))
      ++ rest)) (record { var = var; name = name; colon = c; ty = ty }) rest
  unfolding object_parameter var_parameter object_typed
  object_by None name c ty rest ob st =
      rw (name_no_word reserved.Var name)
      (gets_then _ (gets_name name _)
      (gets_then _ (gets_colon c _)
      (gets_then _ (complete_type_tree names n ty rest ob st) reads)))
  object_by (Some var) name c ty rest ob st =
      rw (sees_word reserved.Var var)
      (gets_then _ (gets_word reserved.Var var _)
      (gets_then _ (gets_name name _)
      (gets_then _ (gets_colon c _)
      (gets_then _ (complete_type_tree names n ty rest ob st) reads))))

  var_obeys : (var : Option Spot) (x : Said) → (after_var var x).obeys names elsewhere ≡ true
      → x.obeys names elsewhere ≡ true
  var_obeys None x e = e
  var_obeys (Some s) x e = e

  complete_object_parameter : (p : ObjectParameter) (rest : Row)
      → (said_object_parameter p).obeys names elsewhere ≡ true → type_stops (next_of rest) ≡ true
      → Gets ObjectParameter
      ((object_parameter names n).parser.run (tokens_of (said_object_parameter p) ++ rest)) p rest
  complete_object_parameter p rest ob st =
      object_by p.var p.name p.colon p.ty rest (var_obeys p.var _ ob) st

  complete_next_object : (x : NextObjectParameter) (rest : Row)
      → (said_next_object_parameter x).obeys names elsewhere ≡ true
      → type_stops (next_of rest) ≡ true
      → Gets NextObjectParameter
      ((next_object_parameter names n).parser.run
      (tokens_of (said_next_object_parameter x) ++ rest)) x rest
  unfolding next_object_parameter
  complete_next_object x rest ob st =
      gets_then _ (gets_mark mark.Comma x.comma _)
      (gets_then _ (complete_object_parameter x.parameter rest ob st) reads)

  no_comma : (right : Spot)
      → sees (is_mark mark.Comma) (Some (marked mark.CloseParen right)) ≡ false
  unfolding sees is_mark same_mark
  no_comma right = refl

  complete_object_list : (l : ObjectParameterList) (right : Spot) (rest : Row)
      → (said_object_parameter_list l).obeys names elsewhere ≡ true
      → Gets ObjectParameterList
      ((object_parameter_list names n).parser.run
      (tokens_of (said_object_parameter_list l) ++ marked mark.CloseParen right ∷ rest)) l
      (marked mark.CloseParen right ∷ rest)
  unfolding object_parameter_list next_object_parameters
  complete_object_list l right rest ob =
      let st : type_stops (next_of (marked mark.CloseParen right ∷ rest)) ≡ true =
      stops_at_close right in
      simp append_assoc
      (gets_then _
      (complete_object_parameter l.first _ (left_true _ _ ob)
      (next_stops names elsewhere said_next_object_parameter (λ next. type_stops next
      ≡ true) (λ x o. stops_at_comma x.comma) l.others (marked mark.CloseParen right ∷ rest)
      (right_true _ _ ob) st))
      (gets_then _
      (gets_list names elsewhere said_next_object_parameter (sees (is_mark mark.Comma))
      (next_object_parameter names n) (λ next. type_stops next ≡ true) complete_next_object
      (λ x o. sees_at (is_mark mark.Comma) (marked mark.Comma x.comma) true (is_mark_at mark.Comma))
      (λ x o. stops_at_comma x.comma) n l.others (marked mark.CloseParen right ∷ rest)
      (right_true _ _ ob) st (no_comma right)) reads))

  first_no_close : (var : Option Spot) (x : Name) (m : List Token) (f : Spellings → Allowed → Bool)
      → is_mark mark.CloseParen
      (after_var var (record { first = named x; more = m; obeys = f })).first.kind ≡ false
  unfolding is_mark
  first_no_close None x m f = refl
  first_no_close (Some s) x m f = refl

  complete_maybe_object : (l : Option ObjectParameterList) (right : Spot) (rest : Row)
      → maybe_obeys names elsewhere (option_map said_object_parameter_list l) ≡ true
      → Gets (Option ObjectParameterList)
      ((maybe_object_list names n).run
      (maybe_tokens (option_map said_object_parameter_list l) ++ marked mark.CloseParen right
      ∷ rest)) l (marked mark.CloseParen right ∷ rest)
  unfolding maybe_object_list
  complete_maybe_object None right rest ob =
      rw (sees_at (is_mark mark.CloseParen) (marked mark.CloseParen right) true
      (is_mark_at mark.CloseParen)) reads
  complete_maybe_object (Some l) right rest ob =
      rw (sees_at (is_mark mark.CloseParen) (said_object_parameter_list l).first false
      (first_no_close l.first.var l.first.name _ _))
      (gets_then _ (complete_object_list l right rest ob) reads)

  pub complete_object_parameters : (p : Option ObjectParameters) (rest : Row)
      → maybe_obeys names elsewhere (option_map said_object_parameters p) ≡ true
      → sees (is_mark mark.OpenParen) (next_of rest) ≡ false
      → Gets (Option ObjectParameters)
      ((object_parameters names n).run (maybe_tokens (option_map said_object_parameters p) ++ rest))
      p rest
  unfolding object_parameters object_parens
  complete_object_parameters None rest ob e = rw e reads
  complete_object_parameters (Some p) rest ob e =
      rw (sees_at (is_mark mark.OpenParen) (marked mark.OpenParen p.left) true
      (is_mark_at mark.OpenParen))
      (simp append_assoc
      (gets_then _ (gets_mark mark.OpenParen p.left _)
      (gets_then _ (complete_maybe_object p.parameters p.right rest ob)
      (gets_then _ (gets_mark mark.CloseParen p.right rest) reads))))
