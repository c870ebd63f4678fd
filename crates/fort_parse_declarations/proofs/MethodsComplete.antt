-- The tokens of functions and methods are read as them.
use Rattle.std.proofs.Common.{◌≡◌, ℕ, zero, suc, Bool, true, false, List, [], ◌∷◌, ◌++◌, append_assoc, Option, Some, None, refl, sym, subst, arith, inl, inr, ◌⊎◌}
use Rattle.std.specs.Prelude.{map, option_map, ◌&&◌, ◌||◌, not}
use Rattle.fort_ops.specs.declared.op.Op.{Op}
use Rattle.fort_ops.specs.declared.op.Op.TheVariants as op
use Rattle.fort_lex_token.specs.declared.marks.Mark.TheVariants as mark
use Rattle.fort_lex_token.specs.declared.reserved.Reserved.TheVariants as reserved
use Rattle.fort_tree.specs.declared.spot.Spot.{Spot}
use Rattle.fort_tree.specs.declared.spot.Name.{Name}
use Rattle.fort_tree.specs.declared.expr.Expr.{Expr}
use Rattle.fort_tree.specs.declared.types.TypeTree.{TypeTree}
use Rattle.fort_tree.specs.declared.declarations.Function.{Function}
use Rattle.fort_tree.specs.declared.declarations.FunctionName.{FunctionName}
use Rattle.fort_tree.specs.declared.declarations.FunctionName.TheVariants as function_name
use Rattle.fort_tree.specs.declared.declarations.Method.{Method}
use Rattle.fort_tree.specs.declared.declarations.MethodBody.{MethodBody}
use Rattle.fort_tree.specs.declared.declarations.MethodParameter.{MethodParameter}
use Rattle.fort_tree.specs.declared.declarations.MethodParameter.TheVariants as method_parameter
use Rattle.fort_tree.specs.declared.declarations.MethodParameters.{MethodParameters}
use Rattle.fort_tree.specs.declared.declarations.NextMethodParameter.{NextMethodParameter}
use Rattle.fort_tree.specs.declared.declarations.NextParameter.{NextParameter}
use Rattle.fort_tree.specs.declared.declarations.Parameter.{Parameter}
use Rattle.fort_tree.specs.declared.declarations.Parameters.{Parameters}
use Rattle.std.specs.Prelude.{◌+◌, ◌==◌, length}
use Rattle.std.proofs.lemmas.Bool.{eqb-true}
use Rattle.fort_tree.specs.Tokens.{Spellings, marked, word, colon, equals, may_declare}
use Rattle.fort_tree.specs.Said.{tokens_of, all_tokens, all_obey, maybe_tokens, maybe_obeys, elsewhere, is_there}
use Rattle.fort_tree.specs.Types.{said_type, said_parameter, said_next_parameter, said_parameters, parameter_count}
use Rattle.fort_tree.specs.Yield.{said_expr}
use Rattle.fort_tree.specs.Declarations.{name_first, name_more, name_fits, is_opr, said_function, said_method_parameter, said_next_method_parameter, said_method_parameters, self_count, next_self_count, selves, method_parameter_count, body_tokens, body_obeys, selves_fit, said_method}
use Rattle.fort_parse_reading.specs.Parser.{Row, next_of, many_run}
use Rattle.fort_parse_reading.specs.Words.{is_mark, is_eq, same_mark, sees}
use Rattle.fort_parse_reading.proofs.Laws.{Gets, reads, ends, gets_then}
use Rattle.fort_parse_reading.proofs.Taking.{gets_mark, gets_word, gets_colon, gets_equals, is_eq_at}
use Rattle.fort_parse_reading.proofs.Yields.{left_true, right_true, false_right, all_after}
use Rattle.fort_parse_types.proofs.Complete.{type_stops, type_stops_at, stops_at_comma, stops_at_close, complete_type_tree, complete_parameter, complete_next_parameter, complete_maybe_parameters}
use Rattle.fort_parse.proofs.Statements.{expr_stops}
use Rattle.fort_parse_declarations.specs.Names.{takes_one, takes_two}
use Rattle.fort_parse_declarations.specs.Methods.{is_self, function_rest, function_from, no_second, operator_others, operator_parameters, operator_from, self_parameter, plain_parameter, sees_self, method_parameter_at, next_method_parameter, next_method_parameters, method_list, maybe_method_list, plain_second, self_second, self_first, sees_plain, plain_first, operator_list, with_body, method_body, method_rest, method_from, operator_method_from}
use Rattle.fort_parse_declarations.proofs.Parts.{PartLaws}
use Rattle.fort_parse_declarations.proofs.Followers.{Ended}
use Rattle.fort_parse_declarations.proofs.NamesComplete.{name_no_mark, name_no_word, sees_mark, sees_word}

-- ---- the number of an operator's parameters

-- An operator takes one or two.
abbrev OneOrTwo : FunctionName → ℕ → Type 0
OneOrTwo f k = ((k ≡ 1) × (takes_one f ≡ true)) ⊎ ((k ≡ 2) × (takes_two f ≡ true))

one_or_two : (b c : Bool) (P : Type 0) → (b || c) ≡ true → (b ≡ true → P) → (c ≡ true → P) → P
one_or_two true c P e f g = f refl
one_or_two false c P e f g = g e

op_takes : (opr : Spot) (s : Spot) (o : Op) (k : ℕ) → may_declare o k ≡ true
    → OneOrTwo (function_name.Operator opr (record { op = o; spot = s })) k
op_takes opr s op.Juxt k e = absurd cc
op_takes opr s op.Minus k e =
    one_or_two (k == 1) (k == 2) _ e (λ h. inl (eqb-true k 1 h, refl))
    (λ h. inr (eqb-true k 2 h, refl))
op_takes opr s op.Not k e = inl (eqb-true k 1 e, refl)
op_takes opr s _ k e = inr (eqb-true k 2 e, refl)

takes : (names : Spellings) (f : FunctionName) (k : ℕ) → is_opr f ≡ true
    → name_fits names f k ≡ true → OneOrTwo f k
takes names (function_name.Name name) k o e = absurd cc
takes names (function_name.Operator opr sign) k o e = op_takes opr sign.spot sign.op k e
takes names (function_name.Juxtaposition opr name) k o e =
    inr (eqb-true k 2 (right_true _ _ e), refl)

-- an operator has one `self`, another method one or none
one_self : (f : FunctionName) (k : ℕ) → is_opr f ≡ true → selves_fit f k ≡ true → k ≡ 1
one_self f k o e =
    one_or_two (k == 1) ((k == 0)
    && not (is_opr f)) _ e (λ h. eqb-true k 1 h) (λ h. let c : not (is_opr f) ≡ true =
    right_true (k == 0) _ h in let d = rw o at c in absurd cc)

-- how often `self` may still stand, behind one or not
abbrev Ones : Bool → ℕ → Type 0
Ones true k = k ≡ 0
Ones false k = (k ≡ 0) ⊎ (k ≡ 1)

few_selves : (name : Name) (k : ℕ) → selves_fit (function_name.Name name) k ≡ true → Ones false k
few_selves name k e =
    one_or_two (k == 1) ((k == 0)
    && true) _ e (λ h. inr (eqb-true k 1 h)) (λ h. inl (eqb-true k 0 (left_true _ _ h)))

after_plain : (k : ℕ) → Ones false (0 + k) → Ones false k
after_plain k (inl e) = inl (omega (arith, e))
after_plain k (inr e) = inr (omega (arith, e))

after_self : (k : ℕ) → Ones false (1 + k) → k ≡ 0
after_self k (inl e) = absurd (omega (arith, e))
after_self k (inr e) = omega (arith, e)

self_leaves : (seen : Bool) (p : MethodParameter) (k : ℕ) → Ones seen (self_count p + k)
    → ((seen && is_self p) ≡ false) × Ones (seen || is_self p) k
self_leaves true (method_parameter.Parameter p) k h = (refl, omega (arith, h))
self_leaves true (method_parameter.Self_ s) k h = absurd (omega (arith, h))
self_leaves false (method_parameter.Parameter p) k h = (refl, after_plain k h)
self_leaves false (method_parameter.Self_ s) k h = (refl, after_self k h)

-- ---- tokens

eq_stops_type : (s : Spot) → type_stops (Some (equals s)) ≡ true
unfolding is_mark
eq_stops_type s = type_stops_at (equals s) refl refl

sees_eq : (s : Spot) → sees is_eq (Some (equals s)) ≡ true
unfolding sees
sees_eq s = is_eq_at

close_no_comma : (s : Spot) → sees (is_mark mark.Comma) (Some (marked mark.CloseParen s)) ≡ false
unfolding sees is_mark same_mark
close_no_comma s = refl

word_no_close : (s : Spot) → sees (is_mark mark.CloseParen) (Some (word reserved.Self_ s)) ≡ false
unfolding sees is_mark
word_no_close s = refl

module _ (names : Spellings) (n : ℕ) (parts : PartLaws names n) where
  -- ---- functions

  -- the tokens of a function behind the `)` of its parameters, and then rest
  abbrev pub function_end : Spot → TypeTree → Spot → Expr → Row → Row
  function_end c result e body rest =
      colon c ∷ (tokens_of (said_type result) ++ equals e ∷ (tokens_of (said_expr body) ++ rest))

  complete_function_rest : (f : Function) (rest : Row)
      → (said_type f.result).obeys names elsewhere ≡ true
      → (said_expr f.body).obeys names elsewhere ≡ true → expr_stops false (next_of rest) ≡ true
      → Gets Function
      ((function_rest names n f.name f.left f.parameters f.right).run
      (function_end f.colon f.result f.equals f.body rest)) f rest
  unfolding function_rest
  complete_function_rest f rest ot ob st =
      gets_then _ (gets_colon f.colon _)
      (gets_then _ (complete_type_tree names n f.result _ ot (eq_stops_type f.equals))
      (gets_then _ (gets_equals f.equals _)
      (gets_then _ (parts.complete_expr f.body rest ob st) reads)))

  -- what a function says behind its name
  function_tokens : (f : Function) (rest : Row)
      → tokens_of (said_function f) ++ rest
      ≡ name_first f.name ∷ (name_more f.name ++ marked mark.OpenParen f.left
      ∷ (maybe_tokens (option_map said_parameters f.parameters) ++ marked mark.CloseParen f.right
      ∷ function_end f.colon f.result f.equals f.body rest))
  function_tokens f rest = simp append_assoc refl

  pub complete_function_from : (f : Function) (name : Name) (rest : Row)
      → f.name ≡ function_name.Name name → (said_function f).obeys names elsewhere ≡ true
      → expr_stops false (next_of rest) ≡ true
      → Gets Function
      ((function_from names n (function_name.Name name)).run
      (marked mark.OpenParen f.left
      ∷ (maybe_tokens (option_map said_parameters f.parameters)
      ++ marked mark.CloseParen f.right ∷ function_end f.colon f.result f.equals f.body rest)))
      f rest
  unfolding function_from
  complete_function_from f name rest is ob st =
      let params = left_true _ _ (right_true _ _ ob) in
      let others = right_true _ _ (right_true _ _ ob) in
      gets_then _ (gets_mark mark.OpenParen f.left _)
      (gets_then _ (complete_maybe_parameters names n f.parameters f.right _ params)
      (gets_then _ (gets_mark mark.CloseParen f.right _)
      (rw (← is)
      (complete_function_rest f rest (left_true _ _ others) (right_true _ _ others) st))))

  gets_no_second : (A : Type 0) (f : FunctionName) (ts : Row) → takes_one f ≡ true
      → Gets (List A) ((no_second names n {A = A} f).run ts) [] ts
  gets_no_second A f ts e = rw e reads

  -- the rest of an operator's parameters
  gets_others : (f : FunctionName) (xs : List NextParameter) (right : Spot) (rest : Row)
      → OneOrTwo f (1 + length xs) → all_obey names elsewhere (map said_next_parameter xs) ≡ true
      → Gets (List NextParameter)
      ((operator_others names n f).run
      (all_tokens (map said_next_parameter xs) ++ marked mark.CloseParen right ∷ rest)) xs
      (marked mark.CloseParen right ∷ rest)
  unfolding operator_others
  gets_others f [] right rest (inl t) ob =
      rw (close_no_comma right, false_right (takes_two f)) (gets_no_second NextParameter f _ t.1)
  gets_others f [] right rest (inr t) ob = absurd (omega (arith, t.0))
  gets_others f (x ∷ []) right rest (inl t) ob = absurd (omega (arith, t.0))
  gets_others f (x ∷ []) right rest (inr t) ob =
      rw (sees_mark mark.Comma x.comma, t.1)
      (simp append_assoc
      (gets_then _
      (complete_next_parameter names n x _ (left_true _ _ ob) (stops_at_close right))
      reads))
  gets_others f (x ∷ y ∷ ys) right rest (inl t) ob = absurd (omega (arith, t.0))
  gets_others f (x ∷ y ∷ ys) right rest (inr t) ob = absurd (omega (arith, t.0))

  second_stops : (xs : List NextParameter) (right : Spot) (rest : Row)
      → all_obey names elsewhere (map said_next_parameter xs) ≡ true
      → type_stops
      (next_of (all_tokens (map said_next_parameter xs) ++ marked mark.CloseParen right ∷ rest))
      ≡ true
  second_stops [] right rest ob = stops_at_close right
  second_stops (x ∷ xs) right rest ob = stops_at_comma x.comma

  complete_operator_parameters : (f : FunctionName) (p : Parameters) (right : Spot) (rest : Row)
      → OneOrTwo f (parameter_count (Some p)) → (said_parameters p).obeys names elsewhere ≡ true
      → Gets Parameters
      ((operator_parameters names n f).run
      (tokens_of (said_parameters p) ++ marked mark.CloseParen right ∷ rest)) p
      (marked mark.CloseParen right ∷ rest)
  unfolding operator_parameters
  complete_operator_parameters f p right rest t ob =
      simp append_assoc
      (gets_then _
      (complete_parameter names n p.first _ (left_true _ _ ob)
      (second_stops p.others right rest (right_true _ _ ob)))
      (gets_then _ (gets_others f p.others right rest t (right_true _ _ ob)) reads))

  no_parameters : (f : FunctionName) (P : Type 0) → OneOrTwo f 0 → P
  no_parameters f P (inl t) = absurd (omega (arith, t.0))
  no_parameters f P (inr t) = absurd (omega (arith, t.0))

  operator_by : (f : Function) (parameters : Option Parameters) (rest : Row)
      → f.parameters ≡ parameters → OneOrTwo f.name (parameter_count parameters)
      → maybe_obeys names elsewhere (option_map said_parameters parameters) ≡ true
      → (said_type f.result).obeys names elsewhere ≡ true
      → (said_expr f.body).obeys names elsewhere ≡ true → expr_stops false (next_of rest) ≡ true
      → Gets Function
      ((operator_from names n f.name).run
      (marked mark.OpenParen f.left
      ∷ (maybe_tokens (option_map said_parameters parameters) ++ marked mark.CloseParen f.right
      ∷ function_end f.colon f.result f.equals f.body rest))) f rest
  unfolding operator_from
  operator_by f None rest is t op ot ob st = no_parameters f.name _ t
  operator_by f (Some p) rest is t op ot ob st =
      gets_then _ (gets_mark mark.OpenParen f.left _)
      (gets_then _ (complete_operator_parameters f.name p f.right _ t op)
      (gets_then _ (gets_mark mark.CloseParen f.right _)
      (rw (← is) (complete_function_rest f rest ot ob st))))

  pub complete_operator_from : (f : Function) (rest : Row) → is_opr f.name ≡ true
      → (said_function f).obeys names elsewhere ≡ true → expr_stops false (next_of rest) ≡ true
      → Gets Function
      ((operator_from names n f.name).run
      (marked mark.OpenParen f.left
      ∷ (maybe_tokens (option_map said_parameters f.parameters)
      ++ marked mark.CloseParen f.right ∷ function_end f.colon f.result f.equals f.body rest)))
      f rest
  complete_operator_from f rest o ob st =
      let others = right_true _ _ (right_true _ _ ob) in
      operator_by f f.parameters rest refl
      (takes names f.name (parameter_count f.parameters) o (left_true _ _ ob))
      (left_true _ _ (right_true _ _ ob)) (left_true _ _ others) (right_true _ _ others) st

  -- ---- parameters of methods

  self_seen : (seen : Bool) (s : Spot) → (seen && true) ≡ false
      → sees_self names n seen (Some (word reserved.Self_ s)) ≡ true
  self_seen true s e = absurd cc
  self_seen false s e = sees_word reserved.Self_ s

  no_self : (seen : Bool) (p : Parameter)
      → sees_self names n seen (Some (said_parameter p).first) ≡ false
  no_self seen p = rw (name_no_word reserved.Self_ p.name) (false_right (not seen))

  complete_method_parameter : (seen : Bool) (p : MethodParameter) (rest : Row)
      → (seen && is_self p) ≡ false → (said_method_parameter p).obeys names elsewhere ≡ true
      → type_stops (next_of rest) ≡ true
      → Gets MethodParameter
      ((method_parameter_at names n seen).parser.run (tokens_of (said_method_parameter p) ++ rest))
      p rest
  unfolding method_parameter_at self_parameter plain_parameter
  complete_method_parameter seen (method_parameter.Parameter p) rest e ob st =
      rw (no_self seen p) (gets_then _ (complete_parameter names n p rest ob st) reads)
  complete_method_parameter seen (method_parameter.Self_ s) rest e ob st =
      rw (self_seen seen s e) (gets_then _ (gets_word reserved.Self_ s rest) reads)

  complete_next_method : (seen : Bool) (x : NextMethodParameter) (rest : Row)
      → (seen && is_self x.parameter) ≡ false
      → (said_next_method_parameter x).obeys names elsewhere ≡ true
      → type_stops (next_of rest) ≡ true
      → Gets NextMethodParameter
      ((next_method_parameter names n seen).parser.run
      (tokens_of (said_next_method_parameter x) ++ rest)) x rest
  unfolding next_method_parameter
  complete_next_method seen x rest e ob st =
      gets_then _ (gets_mark mark.Comma x.comma _)
      (gets_then _ (complete_method_parameter seen x.parameter rest e ob st) reads)

  method_stops : (xs : List NextMethodParameter) (right : Spot) (rest : Row)
      → type_stops
      (next_of (all_tokens (map said_next_method_parameter xs) ++ marked mark.CloseParen right
      ∷ rest)) ≡ true
  method_stops [] right rest = stops_at_close right
  method_stops (x ∷ xs) right rest = stops_at_comma x.comma

  gets_next_methods : (turns : ℕ) (seen : Bool) (xs : List NextMethodParameter) (right : Spot)
      (rest : Row) → all_obey names elsewhere (map said_next_method_parameter xs) ≡ true
      → Ones seen (next_self_count xs)
      → Gets (List NextMethodParameter)
      (many_run (λ seen. sees (is_mark mark.Comma)) (λ seen next. seen
      || is_self next.parameter) (next_method_parameter names n) turns seen
      (all_tokens (map said_next_method_parameter xs) ++ marked mark.CloseParen right ∷ rest))
      xs (marked mark.CloseParen right ∷ rest)
  gets_next_methods zero seen xs right rest ob h = ends
  gets_next_methods (suc turns) seen [] right rest ob h = rw (close_no_comma right) reads
  gets_next_methods (suc turns) seen (x ∷ xs) right rest ob h =
      let k = self_leaves seen x.parameter (next_self_count xs) h in
      let after : Row =
      all_tokens (map said_next_method_parameter xs) ++ marked mark.CloseParen right ∷ rest in
      rw (
        all_after (said_next_method_parameter x) (map said_next_method_parameter xs)
            (marked mark.CloseParen right ∷ rest),
        sees_mark mark.Comma x.comma,
      )
      (gets_then _
      (complete_next_method seen x after k.0 (left_true _ _ ob)
      (method_stops xs right rest))
      (gets_then _
      (gets_next_methods turns (seen
      || is_self x.parameter) xs right rest (right_true _ _ ob) k.1) reads))

  complete_method_list : (l : MethodParameters) (right : Spot) (rest : Row)
      → (said_method_parameters l).obeys names elsewhere ≡ true → Ones false (selves (Some l))
      → Gets MethodParameters
      ((method_list names n).run
      (tokens_of (said_method_parameters l) ++ marked mark.CloseParen right ∷ rest)) l
      (marked mark.CloseParen right ∷ rest)
  unfolding method_list next_method_parameters
  complete_method_list l right rest ob h =
      let k = self_leaves false l.first (next_self_count l.others) h in
      simp append_assoc
      (gets_then _
      (complete_method_parameter false l.first _ refl (left_true _ _ ob)
      (method_stops l.others right rest))
      (gets_then _
      (gets_next_methods n (is_self l.first) l.others right rest (right_true _ _ ob) k.1)
      reads))

  first_no_close : (p : MethodParameter)
      → sees (is_mark mark.CloseParen) (Some (said_method_parameter p).first) ≡ false
  first_no_close (method_parameter.Parameter p) = name_no_mark mark.CloseParen p.name
  first_no_close (method_parameter.Self_ s) = word_no_close s

  complete_maybe_methods : (l : Option MethodParameters) (right : Spot) (rest : Row)
      → maybe_obeys names elsewhere (option_map said_method_parameters l) ≡ true
      → Ones false (selves l)
      → Gets (Option MethodParameters)
      ((maybe_method_list names n).run
      (maybe_tokens (option_map said_method_parameters l) ++ marked mark.CloseParen right
      ∷ rest)) l (marked mark.CloseParen right ∷ rest)
  unfolding maybe_method_list
  complete_maybe_methods None right rest ob h = rw (sees_mark mark.CloseParen right) reads
  complete_maybe_methods (Some l) right rest ob h =
      rw (first_no_close l.first) (gets_then _ (complete_method_list l right rest ob h) reads)

  -- ---- parameters of methods that are operators

  plain_is : (comma : Spot) (q : MethodParameter) (right : Spot) (rest : Row) → self_count q + 0 ≡ 0
      → (said_method_parameter q).obeys names elsewhere ≡ true
      → Gets (List NextMethodParameter)
      ((plain_second names n).run
      (all_tokens
      (map said_next_method_parameter (record { comma = comma; parameter = q } ∷ []))
      ++ marked mark.CloseParen right ∷ rest)) (record { comma = comma; parameter = q } ∷ [])
      (marked mark.CloseParen right ∷ rest)
  unfolding plain_second
  plain_is comma (method_parameter.Parameter p) right rest z ob =
      let x : NextMethodParameter =
      record { comma = comma; parameter = method_parameter.Parameter p } in
      let after : Row = marked mark.CloseParen right ∷ rest in
      subst (λ (u : Row). Gets (List NextMethodParameter) ((plain_second names n).run u) (x ∷ [])
      after) (sym (all_after (said_next_method_parameter x) [] after))
      (gets_then _ (gets_mark mark.Comma comma _)
      (gets_then _ (complete_parameter names n p after ob (stops_at_close right)) reads))
  plain_is comma (method_parameter.Self_ s) right rest z ob = absurd (omega (arith, z))

  self_is : (comma : Spot) (q : MethodParameter) (right : Spot) (rest : Row) → self_count q + 0 ≡ 1
      → Gets (List NextMethodParameter)
      ((self_second names n).run
      (all_tokens
      (map said_next_method_parameter (record { comma = comma; parameter = q } ∷ []))
      ++ marked mark.CloseParen right ∷ rest)) (record { comma = comma; parameter = q } ∷ [])
      (marked mark.CloseParen right ∷ rest)
  unfolding self_second
  self_is comma (method_parameter.Parameter p) right rest z = absurd (omega (arith, z))
  self_is comma (method_parameter.Self_ s) right rest z =
      gets_then _ (gets_mark mark.Comma comma _) (gets_then _ (gets_word reserved.Self_ s _) reads)

  gets_self_others : (f : FunctionName) (xs : List NextMethodParameter) (right : Spot) (rest : Row)
      → OneOrTwo f (1 + length xs) → next_self_count xs ≡ 0
      → all_obey names elsewhere (map said_next_method_parameter xs) ≡ true → (s : Spot)
      → Gets MethodParameters
      ((self_first names n f).run
      (word reserved.Self_ s
      ∷ (all_tokens (map said_next_method_parameter xs) ++ marked mark.CloseParen right
      ∷ rest))) (record { first = method_parameter.Self_ s; others = xs })
      (marked mark.CloseParen right ∷ rest)
  unfolding self_first
  gets_self_others f [] right rest (inl t) z ob s =
      gets_then _ (gets_word reserved.Self_ s _)
      (rw (close_no_comma right, false_right (takes_two f))
      (gets_then _ (gets_no_second NextMethodParameter f _ t.1) reads))
  gets_self_others f [] right rest (inr t) z ob s = absurd (omega (arith, t.0))
  gets_self_others f (x ∷ []) right rest (inl t) z ob s = absurd (omega (arith, t.0))
  gets_self_others f (x ∷ []) right rest (inr t) z ob s =
      gets_then _ (gets_word reserved.Self_ s _)
      (rw (sees_mark mark.Comma x.comma, t.1)
      (gets_then _ (plain_is x.comma x.parameter right rest z (left_true _ _ ob)) reads))
  gets_self_others f (x ∷ y ∷ ys) right rest (inl t) z ob s = absurd (omega (arith, t.0))
  gets_self_others f (x ∷ y ∷ ys) right rest (inr t) z ob s = absurd (omega (arith, t.0))

  gets_plain_others : (f : FunctionName) (p : Parameter) (xs : List NextMethodParameter)
      (right : Spot) (rest : Row) → OneOrTwo f (1 + length xs) → next_self_count xs ≡ 1
      → (said_parameter p).obeys names elsewhere ≡ true
      → Gets MethodParameters
      ((plain_first names n).run
      (tokens_of (said_parameter p)
      ++ (all_tokens (map said_next_method_parameter xs) ++ marked mark.CloseParen right
      ∷ rest))) (record { first = method_parameter.Parameter p; others = xs })
      (marked mark.CloseParen right ∷ rest)
  unfolding plain_first
  gets_plain_others f p [] right rest t z ob = absurd (omega (arith, z))
  gets_plain_others f p (x ∷ []) right rest t z ob =
      gets_then _ (complete_parameter names n p _ ob (stops_at_comma x.comma))
      (gets_then _ (self_is x.comma x.parameter right rest z) reads)
  gets_plain_others f p (x ∷ y ∷ ys) right rest (inl t) z ob = absurd (omega (arith, t.0))
  gets_plain_others f p (x ∷ y ∷ ys) right rest (inr t) z ob = absurd (omega (arith, t.0))

  self_not_plain : (f : FunctionName) (s : Spot)
      → sees_plain names n f (Some (word reserved.Self_ s)) ≡ false
  self_not_plain f s = rw (sees_word reserved.Self_ s) (false_right (takes_two f))

  is_plain : (f : FunctionName) (p : Parameter) → takes_two f ≡ true
      → sees_plain names n f (Some (said_parameter p).first) ≡ true
  is_plain f p e = rw (name_no_word reserved.Self_ p.name, e) refl

  -- behind another parameter an operator's `self` is the second
  plain_takes_two : (f : FunctionName) (xs : List NextMethodParameter) → OneOrTwo f (1 + length xs)
      → next_self_count xs ≡ 1 → takes_two f ≡ true
  plain_takes_two f [] t z = absurd (omega (arith, z))
  plain_takes_two f (x ∷ xs) (inl t) z = absurd (omega (arith, t.0))
  plain_takes_two f (x ∷ xs) (inr t) z = t.1

  operator_list_by : (f : FunctionName) (first : MethodParameter) (xs : List NextMethodParameter)
      (right : Spot) (rest : Row) → OneOrTwo f (1 + length xs)
      → self_count first + next_self_count xs ≡ 1
      → (said_method_parameter first).obeys names elsewhere ≡ true
      → all_obey names elsewhere (map said_next_method_parameter xs) ≡ true
      → Gets MethodParameters
      ((operator_list names n f).run
      (tokens_of (said_method_parameter first)
      ++ (all_tokens (map said_next_method_parameter xs) ++ marked mark.CloseParen right
      ∷ rest))) (record { first = first; others = xs }) (marked mark.CloseParen right ∷ rest)
  unfolding operator_list
  operator_list_by f (method_parameter.Self_ s) xs right rest t z o1 o2 =
      rw (self_not_plain f s) (gets_self_others f xs right rest t (omega (arith, z)) o2 s)
  operator_list_by f (method_parameter.Parameter p) xs right rest t z o1 o2 =
      let one : next_self_count xs ≡ 1 = omega (arith, z)
      in rw (is_plain f p (plain_takes_two f xs t one))
      (gets_plain_others f p xs right rest t one o1)

  complete_operator_list : (f : FunctionName) (l : MethodParameters) (right : Spot) (rest : Row)
      → OneOrTwo f (method_parameter_count (Some l)) → selves (Some l) ≡ 1
      → (said_method_parameters l).obeys names elsewhere ≡ true
      → Gets MethodParameters
      ((operator_list names n f).run
      (tokens_of (said_method_parameters l) ++ marked mark.CloseParen right ∷ rest)) l
      (marked mark.CloseParen right ∷ rest)
  complete_operator_list f l right rest t z ob =
      simp append_assoc
      (operator_list_by f l.first l.others right rest t z (left_true _ _ ob) (right_true _ _ ob))

  -- ---- methods

  and_not : (b : Bool) → (b && false) ≡ false
  and_not b = false_right b

  complete_method_body : (optional : Bool) (b : Option MethodBody) (rest : Row)
      → (optional || is_there b) ≡ true → body_obeys names b ≡ true
      → expr_stops false (next_of rest) ≡ true → sees is_eq (next_of rest) ≡ false
      → Gets (Option MethodBody) ((method_body names n optional).run (body_tokens b ++ rest)) b rest
  unfolding method_body with_body
  complete_method_body true None rest e ob st eq = rw eq reads
  complete_method_body false None rest e ob st eq = absurd cc
  complete_method_body optional (Some b) rest e ob st eq =
      rw (sees_eq b.equals, and_not optional)
      (gets_then _ (gets_equals b.equals _)
      (gets_then _ (parts.complete_expr b.body rest ob st) reads))

  body_stops : (b : Option MethodBody) (rest : Row) → type_stops (next_of rest) ≡ true
      → type_stops (next_of (body_tokens b ++ rest)) ≡ true
  body_stops None rest e = e
  body_stops (Some b) rest e = eq_stops_type b.equals

  -- the tokens of a method behind the `)` of its parameters, and then rest
  abbrev pub method_end : Spot → TypeTree → Option MethodBody → Row → Row
  method_end c result b rest = colon c ∷ (tokens_of (said_type result) ++ (body_tokens b ++ rest))

  complete_method_rest : (optional : Bool) (m : Method) (rest : Row)
      → (optional || is_there m.body) ≡ true → (said_type m.result).obeys names elsewhere ≡ true
      → body_obeys names m.body ≡ true → Ended (next_of rest)
      → Gets Method
      ((method_rest names n optional m.name m.left m.parameters m.right).run
      (method_end m.colon m.result m.body rest)) m rest
  unfolding method_rest
  complete_method_rest optional m rest e ot ob st =
      gets_then _ (gets_colon m.colon _)
      (gets_then _ (complete_type_tree names n m.result _ ot (body_stops m.body rest st.type))
      (gets_then _ (complete_method_body optional m.body rest e ob st.expr st.eq) reads))

  -- what a method says behind its name
  abbrev pub method_behind : Method → Row → Row
  method_behind m rest =
      marked mark.OpenParen m.left
      ∷ (maybe_tokens (option_map said_method_parameters m.parameters)
      ++ marked mark.CloseParen m.right ∷ method_end m.colon m.result m.body rest)

  pub method_tokens : (m : Method) (rest : Row)
      → tokens_of (said_method m) ++ rest
      ≡ name_first m.name ∷ (name_more m.name ++ method_behind m rest)
  method_tokens m rest = simp append_assoc refl

  pub complete_method_from : (optional : Bool) (m : Method) (name : Name) (rest : Row)
      → m.name ≡ function_name.Name name → (optional || is_there m.body) ≡ true
      → (said_method m).obeys names elsewhere ≡ true → Ended (next_of rest)
      → Gets Method
      ((method_from names n optional (function_name.Name name)).run (method_behind m rest)) m rest
  unfolding method_from
  complete_method_from optional m name rest is e ob st =
      let fit : selves_fit m.name (selves m.parameters) ≡ true = left_true _ _ (right_true _ _ ob)
      in
      let one : selves_fit (function_name.Name name) (selves m.parameters) ≡ true = rw is at fit in
      let others = right_true _ _ (right_true _ _ ob) in
      let last = right_true _ _ others in
      gets_then _ (gets_mark mark.OpenParen m.left _)
      (gets_then _
      (complete_maybe_methods m.parameters m.right _ (left_true _ _ others)
      (few_selves name (selves m.parameters) one))
      (gets_then _ (gets_mark mark.CloseParen m.right _)
      (rw (← is)
      (complete_method_rest optional m rest e (left_true _ _ last) (right_true _ _ last)
      st))))

  method_by : (optional : Bool) (m : Method) (parameters : Option MethodParameters) (rest : Row)
      → m.parameters ≡ parameters → OneOrTwo m.name (method_parameter_count parameters)
      → selves parameters ≡ 1
      → maybe_obeys names elsewhere (option_map said_method_parameters parameters) ≡ true
      → (optional || is_there m.body) ≡ true → (said_type m.result).obeys names elsewhere ≡ true
      → body_obeys names m.body ≡ true → Ended (next_of rest)
      → Gets Method
      ((operator_method_from names n optional m.name).run
      (marked mark.OpenParen m.left
      ∷ (maybe_tokens (option_map said_method_parameters parameters)
      ++ marked mark.CloseParen m.right ∷ method_end m.colon m.result m.body rest))) m rest
  unfolding operator_method_from
  method_by optional m None rest is t z op e ot ob st = no_parameters m.name _ t
  method_by optional m (Some l) rest is t z op e ot ob st =
      gets_then _ (gets_mark mark.OpenParen m.left _)
      (gets_then _ (complete_operator_list m.name l m.right _ t z op)
      (gets_then _ (gets_mark mark.CloseParen m.right _)
      (rw (← is) (complete_method_rest optional m rest e ot ob st))))

  pub complete_operator_method : (optional : Bool) (m : Method) (rest : Row) → is_opr m.name ≡ true
      → (optional || is_there m.body) ≡ true → (said_method m).obeys names elsewhere ≡ true
      → Ended (next_of rest)
      → Gets Method ((operator_method_from names n optional m.name).run (method_behind m rest)) m
      rest
  complete_operator_method optional m rest o e ob st =
      let others = right_true _ _ (right_true _ _ ob) in
      let last = right_true _ _ others in
      method_by optional m m.parameters rest refl
      (takes names m.name (method_parameter_count m.parameters) o (left_true _ _ ob))
      (one_self m.name (selves m.parameters) o (left_true _ _ (right_true _ _ ob)))
      (left_true _ _ others) e (left_true _ _ last) (right_true _ _ last) st
