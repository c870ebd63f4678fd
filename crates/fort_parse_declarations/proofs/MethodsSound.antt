-- What functions and methods are read from is their tokens, and the rules on operators and `self`
-- hold in them.
use Rattle.std.proofs.Common.{◌≡◌, ℕ, Bool, true, false, List, [], ◌∷◌, ◌++◌, append_assoc, Option, Some, None, refl, ap, ◌∙◌, arith, inl, inr, ◌⊎◌}
use Rattle.std.specs.Prelude.{map, option_map, ◌&&◌, ◌||◌, not}
use Rattle.fort_lex_token.specs.declared.token.Token.{Token}
use Rattle.fort_lex_token.specs.declared.marks.Mark.TheVariants as mark
use Rattle.fort_lex_token.specs.declared.reserved.Reserved.TheVariants as reserved
use Rattle.fort_tree.specs.declared.spot.Spot.{Spot}
use Rattle.fort_tree.specs.declared.spot.Name.{Name}
use Rattle.fort_tree.specs.declared.declarations.Function.{Function}
use Rattle.fort_tree.specs.declared.declarations.FunctionName.{FunctionName}
use Rattle.fort_tree.specs.declared.declarations.FunctionName.TheVariants as function_name
use Rattle.fort_tree.specs.declared.declarations.Method.{Method}
use Rattle.fort_tree.specs.declared.declarations.MethodBody.{MethodBody}
use Rattle.fort_tree.specs.declared.declarations.MethodParameter.{MethodParameter}
use Rattle.fort_tree.specs.declared.declarations.MethodParameter.TheVariants as method_parameter
use Rattle.fort_tree.specs.declared.declarations.MethodParameters.{MethodParameters}
use Rattle.fort_tree.specs.declared.declarations.NextMethodParameter.{NextMethodParameter}
use Rattle.fort_tree.specs.declared.declarations.NextParameter.{NextParameter}
use Rattle.fort_tree.specs.declared.declarations.Parameter.{Parameter}
use Rattle.fort_tree.specs.declared.declarations.Parameters.{Parameters}
use Rattle.std.specs.Prelude.{◌+◌, length}
use Rattle.fort_tree.specs.Tokens.{Spellings, marked, word, named, colon, equals}
use Rattle.fort_tree.specs.Said.{tokens_of, maybe_tokens, maybe_obeys, elsewhere, is_there}
use Rattle.fort_tree.specs.Types.{said_type, said_parameter, said_next_parameter, said_parameters, parameter_count}
use Rattle.fort_tree.specs.Yield.{said_expr}
use Rattle.fort_tree.specs.Declarations.{name_first, name_more, name_fits, said_function, said_method_parameter, said_next_method_parameter, said_method_parameters, self_count, next_self_count, selves, method_parameter_count, body_tokens, body_obeys, selves_fit, said_method}
use Rattle.fort_parse_reading.specs.Parser.{Row, next_of}
use Rattle.fort_parse_reading.specs.Words.{is_mark, is_eq, sees}
use Rattle.fort_parse_reading.proofs.Laws.{Only, only_read, only_failed, only_then, only_if, only_many, only_more}
use Rattle.fort_parse_reading.proofs.Taking.{only_mark, only_word, only_colon, only_equals}
use Rattle.fort_parse_reading.proofs.Yields.{Yields, YieldsAll, YieldsMaybe, both, left_true, no_more, one_more, left_out, stands_there}
use Rattle.fort_parse_types.proofs.Sound.{sound_type_tree, sound_parameter, sound_next_parameter, sound_maybe_parameters}
use Rattle.fort_parse_declarations.specs.Names.{takes_one, sees_second}
use Rattle.fort_parse_declarations.specs.Methods.{is_self, function_rest, function_from, if_enough, no_second, operator_others, operator_parameters, operator_from, self_parameter, plain_parameter, sees_self, method_parameter_at, next_method_parameter, next_method_parameters, method_list, maybe_method_list, plain_second, self_second, self_first, sees_plain, plain_first, operator_list, with_body, method_body, method_rest, method_from, operator_method_from}
use Rattle.fort_parse_declarations.proofs.Parts.{PartLaws}
use Rattle.fort_parse_declarations.proofs.NamesSound.{is_well_named, fits_one, fits_two}

-- how often `self` may still stand, behind one or not
abbrev Ones : Bool → ℕ → Type 0
Ones true k = k ≡ 0
Ones false k = (k ≡ 0) ⊎ (k ≡ 1)

zero_adds : (k : ℕ) → Ones false k → Ones false (0 + k)
zero_adds k (inl e) = inl (omega (arith, e))
zero_adds k (inr e) = inr (omega (arith, e))

self_adds : (seen : Bool) (p : MethodParameter) (k : ℕ) → (seen && is_self p) ≡ false
    → Ones (seen || is_self p) k → Ones seen (self_count p + k)
self_adds true (method_parameter.Parameter p) k e h = omega (arith, h)
self_adds true (method_parameter.Self_ s) k e h = absurd cc
self_adds false (method_parameter.Parameter p) k e h = zero_adds k h
self_adds false (method_parameter.Self_ s) k e h = inr (omega (arith, h))

-- a method with a plain name has one `self` or none
plain_fits : (name : Name) (k : ℕ) → Ones false k → selves_fit (function_name.Name name) k ≡ true
plain_fits name k (inl e) = rw e refl
plain_fits name k (inr e) = rw e refl

-- the first tokens of a function or method, up to the `)` behind its parameters
abbrev front : FunctionName → Spot → List Token → Spot → Row → Row
front name left parameters right ts =
    name_first name
    ∷ (name_more name ++ marked mark.OpenParen left
    ∷ (parameters ++ marked mark.CloseParen right ∷ ts))

no_self : (b : Bool) → (b && false) ≡ false
no_self true = refl
no_self false = refl

none_yet : (seen : Bool) → Ones seen 0
none_yet true = refl
none_yet false = inl refl

may_lack : (b : Bool) → b ≡ true → (b || false) ≡ true
may_lack true e = refl
may_lack false e = absurd cc

always : (b : Bool) → (b || true) ≡ true
always true = refl
always false = refl

not_and : (a b : Bool) → a ≡ false → (a && b) ≡ false
not_and a b e = rw e refl

not_is : (b : Bool) → not b ≡ true → b ≡ false
not_is true e = absurd cc
not_is false e = refl

opr_one : (name : FunctionName) (k : ℕ) → k ≡ 1 → selves_fit name k ≡ true
opr_one name k e = rw e refl

module _ (names : Spellings) (n : ℕ) (parts : PartLaws names n) where
  -- ---- functions

  sound_function_rest : (name : FunctionName) (left : Spot) (parameters : Option Parameters)
      (right : Spot) (ts : Row)
      → name_fits names name (parameter_count parameters) ≡ true
      → maybe_obeys names elsewhere (option_map said_parameters parameters) ≡ true
      → Only Function ((function_rest names n name left parameters right).run ts)
      (λ f rest. Yields names (said_function f) elsewhere
      (front name left (maybe_tokens (option_map said_parameters parameters)) right ts) rest)
  unfolding function_rest
  sound_function_rest name left parameters right ts fits ob =
      only_then _ _ _ _ (only_colon ts) (λ c mid h.
      only_then _ _ _ _ (sound_type_tree names n mid) (λ result mid1 k.
      only_then _ _ _ _ (only_equals mid1) (λ e mid2 h1.
      only_then _ _ _ _ (parts.sound_expr mid2) (λ body rest l.
      let after : ts
      ≡ colon c
      ∷ (tokens_of (said_type result) ++ equals e ∷ (tokens_of (said_expr body) ++ rest)) =
      h ∙ ap (λ
      (u : Row). colon c ∷ u) (k.tokens ∙ ap (λ
      (u : Row). tokens_of (said_type result) ++ u) (h1 ∙ ap (λ
      (u : Row). equals e ∷ u) l.tokens)) in
      only_read _ _ rest
      (record {
        tokens = rw after (simp append_assoc refl);
        obeys = both _ _ fits (both _ _ ob (both _ _ k.obeys l.obeys));
      })))))

  pub sound_function_from : (name : Name) (ts : Row)
      → Only Function ((function_from names n (function_name.Name name)).run ts)
      (λ f rest. Yields names (said_function f) elsewhere (named name ∷ ts) rest)
  unfolding function_from
  sound_function_from name ts =
      only_then _ _ _ _ (only_mark mark.OpenParen ts) (λ left mid h.
      only_then _ _ _ _ (sound_maybe_parameters names n mid) (λ p mid1 k.
      only_then _ _ _ _ (only_mark mark.CloseParen mid1) (λ right mid2 l.
      let is : named name ∷ ts
      ≡ front (function_name.Name name) left (maybe_tokens (option_map said_parameters p)) right
      mid2 = ap (λ
      (u : Row). named name ∷ u) (h ∙ ap (λ
      (u : Row). marked mark.OpenParen left ∷ u) (k.tokens ∙ ap (λ
      (u : Row). maybe_tokens (option_map said_parameters p) ++ u) l)) in
      rw is (sound_function_rest (function_name.Name name) left p right mid2 refl k.obeys))))

  enough : (A : Type 0) (name : FunctionName) (ts : Row) (b : Bool) → takes_one name ≡ b
      → Only (List A) ((if_enough names n {A = A} b).run ts) (λ xs rest. (xs ≡ []) × (ts ≡ rest)
      × (takes_one name ≡ true))
  enough A name ts true e = only_read _ [] ts (refl, refl, e)
  enough A name ts false e = only_failed _ _ ts

  sound_no_second : (A : Type 0) (name : FunctionName) (ts : Row)
      → Only (List A) ((no_second names n {A = A} name).run ts) (λ xs rest. (xs ≡ []) × (ts ≡ rest)
      × (takes_one name ≡ true))
  sound_no_second A name ts = enough A name ts (takes_one name) refl

  -- the rest of an operator's parameters, as many as it takes
  sound_operator_others : (name : FunctionName) (ts : Row) → is_well_named names name ≡ true
      → Only (List NextParameter) ((operator_others names n name).run ts)
      (λ xs rest. YieldsAll names (map said_next_parameter xs) elsewhere ts rest
      × (name_fits names name (1 + length xs) ≡ true))
  unfolding operator_others
  sound_operator_others name ts well =
      only_if (sees_second name (next_of ts)) _ _ _
      (λ e. only_then _ _ _ _ (sound_next_parameter names n ts) (λ next rest k.
      only_read _ _ rest (
        one_more names (said_next_parameter next) [] elsewhere ts rest rest k
            (no_more names elsewhere rest),
        fits_two names name well (left_true _ _ e),
      )))
      (λ e. only_more _ _ _ (sound_no_second NextParameter name ts)
      (λ xs rest h. rw (h.0, h.1) (
        no_more names elsewhere rest,
        fits_one names name well h.2,
      )))

  pub sound_operator_from : (name : FunctionName) (ts : Row) → is_well_named names name ≡ true
      → Only Function ((operator_from names n name).run ts)
      (λ f rest. Yields names (said_function f) elsewhere (name_first name ∷ (name_more name ++ ts))
      rest)
  unfolding operator_from operator_parameters
  sound_operator_from name ts well =
      only_then _ _ _ _ (only_mark mark.OpenParen ts) (λ left mid h.
      only_then _ (λ p rest. Yields names (said_parameters p) elsewhere mid rest
      × (name_fits names name (parameter_count (Some p)) ≡ true)) _ _
      (only_then _ _ _ _ (sound_parameter names n mid) (λ first mid1 k.
      only_then _ _ _ _ (sound_operator_others name mid1 well) (λ others rest l.
      only_read _ _ rest (
        record {
          tokens =
              simp append_assoc (k.tokens ∙ ap (λ
              (u : Row). tokens_of (said_parameter first) ++ u) l.0.tokens);
          obeys = both _ _ k.obeys l.0.obeys;
        },
        l.1,
      ))))
      (λ p mid1 k.
      only_then _ _ _ _ (only_mark mark.CloseParen mid1) (λ right mid2 l.
      let is : name_first name ∷ (name_more name ++ ts)
      ≡ front name left (tokens_of (said_parameters p)) right mid2 =
      ap (λ (u : Row). name_first name ∷ (name_more name ++ u)) (h ∙ ap (λ
      (u : Row). marked mark.OpenParen left ∷ u) (k.0.tokens ∙ ap (λ
      (u : Row). tokens_of (said_parameters p) ++ u) l)) in
      rw is (sound_function_rest name left (Some p) right mid2 k.1 k.0.obeys))))

  -- ---- parameters of methods

  sound_method_parameter : (seen : Bool) (ts : Row)
      → Only MethodParameter ((method_parameter_at names n seen).parser.run ts)
      (λ p rest. Yields names (said_method_parameter p) elsewhere ts rest
      × ((seen && is_self p) ≡ false))
  unfolding method_parameter_at self_parameter plain_parameter
  sound_method_parameter seen ts =
      only_if (sees_self names n seen (next_of ts)) _ _ _
      (λ e. only_then _ _ _ _ (only_word reserved.Self_ ts)
      (λ s rest h. only_read _ _ rest (
        record { tokens = h; obeys = refl },
        not_and seen true (not_is seen (left_true _ _ e)),
      )))
      (λ e. only_then _ _ _ _ (sound_parameter names n ts)
      (λ p rest k. only_read _ _ rest (
        record { tokens = k.tokens; obeys = k.obeys },
        no_self seen,
      )))

  sound_next_method : (seen : Bool) (ts : Row)
      → Only NextMethodParameter ((next_method_parameter names n seen).parser.run ts)
      (λ x rest. Yields names (said_next_method_parameter x) elsewhere ts rest
      × ((seen && is_self x.parameter) ≡ false))
  unfolding next_method_parameter
  sound_next_method seen ts =
      only_then _ _ _ _ (only_mark mark.Comma ts) (λ comma mid h.
      only_then _ _ _ _ (sound_method_parameter seen mid) (λ p rest k.
      only_read _ _ rest (
        record {
          tokens = h ∙ ap (λ (u : Row). marked mark.Comma comma ∷ u) k.0.tokens;
          obeys = k.0.obeys;
        },
        k.1,
      )))

  sound_next_methods : (seen : Bool) (ts : Row)
      → Only (List NextMethodParameter) ((next_method_parameters names n seen).run ts)
      (λ xs rest. YieldsAll names (map said_next_method_parameter xs) elsewhere ts rest
      × Ones seen (next_self_count xs))
  unfolding next_method_parameters
  sound_next_methods seen ts =
      only_many (λ seen. sees (is_mark mark.Comma)) (λ seen next. seen
      || is_self next.parameter) (next_method_parameter names n)
      (λ seen x u v. Yields names (said_next_method_parameter x) elsewhere u v
      × ((seen && is_self x.parameter) ≡ false))
      (λ seen xs u v. YieldsAll names (map said_next_method_parameter xs) elsewhere u v
      × Ones seen (next_self_count xs))
      (λ seen u e. sound_next_method seen u) (λ seen u. (no_more names elsewhere u, none_yet seen))
      (λ seen x xs u v w i j. (
        one_more names (said_next_method_parameter x)
            (map said_next_method_parameter xs) elsewhere u v w i.0 j.0,
        self_adds seen x.parameter (next_self_count xs) i.1 j.1,
      )) n seen ts

  -- the parameters of a method with a plain name
  sound_maybe_method_list : (ts : Row)
      → Only (Option MethodParameters) ((maybe_method_list names n).run ts)
      (λ l rest. YieldsMaybe names (option_map said_method_parameters l) elsewhere ts rest
      × Ones false (selves l))
  unfolding maybe_method_list method_list
  sound_maybe_method_list ts =
      only_if (sees (is_mark mark.CloseParen) (next_of ts)) _ _ _
      (λ e. only_read _ None ts (left_out names elsewhere ts, inl refl))
      (λ e. only_then _ (λ l rest. Yields names (said_method_parameters l) elsewhere ts rest
      × Ones false (selves (Some l))) _ _
      (only_then _ _ _ _ (sound_method_parameter false ts) (λ first mid h.
      only_then _ _ _ _ (sound_next_methods (is_self first) mid) (λ others rest k.
      only_read _ _ rest (
        record {
          tokens =
              simp append_assoc (h.0.tokens ∙ ap (λ
              (u : Row). tokens_of (said_method_parameter first) ++ u) k.0.tokens);
          obeys = both _ _ h.0.obeys k.0.obeys;
        },
        self_adds false first (next_self_count others) refl k.1,
      ))))
      (λ l rest h. only_read _ (Some l) rest
      (stands_there names (said_method_parameters l) elsewhere ts rest h.0, h.1)))

  -- the parameters of a method that is an operator
  record YieldsOperator (name : FunctionName) (l : MethodParameters)
      (ts rest : List Token) : Type 0 where
    pub said : Yields names (said_method_parameters l) elsewhere ts rest
    pub fits : name_fits names name (method_parameter_count (Some l)) ≡ true
    pub one : selves (Some l) ≡ 1

  -- a comma and `self`
  abbrev then_self : Spot → Spot → List NextMethodParameter
  then_self comma s = record { comma = comma; parameter = method_parameter.Self_ s } ∷ []

  second_is : (comma s : Spot) (ts mid rest : Row) → ts ≡ marked mark.Comma comma ∷ mid
      → mid ≡ word reserved.Self_ s ∷ rest
      → (YieldsAll names (map said_next_method_parameter (then_self comma s)) elsewhere ts rest)
      × (length (then_self comma s) ≡ 1) × (next_self_count (then_self comma s) ≡ 1)
  second_is comma s ts mid rest h k = (
    record { tokens = h ∙ ap (λ (u : Row). marked mark.Comma comma ∷ u) k; obeys = refl },
    refl,
    refl,
  )

  plain_then_self : (name : FunctionName) (p : Parameter) (others : List NextMethodParameter)
      (ts mid rest : Row) → Yields names (said_parameter p) elsewhere ts mid
      → (YieldsAll names (map said_next_method_parameter others) elsewhere mid rest)
      × (length others ≡ 1) × (next_self_count others ≡ 1) → name_fits names name 2 ≡ true
      → YieldsOperator name (record { first = method_parameter.Parameter p; others = others }) ts
      rest
  plain_then_self name p others ts mid rest k l fits = record {
    said = record {
      tokens =
          simp append_assoc (k.tokens ∙ ap (λ
          (u : Row). tokens_of (said_parameter p) ++ u) l.0.tokens);
      obeys = both _ _ k.obeys l.0.obeys;
    };
    fits = rw l.1 fits;
    one = omega (arith, l.2);
  }

  sound_operator_list : (name : FunctionName) (ts : Row) → is_well_named names name ≡ true
      → Only MethodParameters ((operator_list names n name).run ts)
      (λ l rest. YieldsOperator name l ts rest)
  unfolding operator_list plain_first self_first plain_second self_second
  sound_operator_list name ts well =
      only_if (sees_plain names n name (next_of ts)) _ _ _
      (λ e. only_then _ _ _ _ (sound_parameter names n ts) (λ p mid k.
      only_then _ _ _ _
      (only_then _ _ _ _ (only_mark mark.Comma mid)
      (λ comma mid1 h. only_then _ _ _ _ (only_word reserved.Self_ mid1) (λ s rest h1.
      only_read _ _ rest (second_is comma s mid mid1 rest h h1)))) (λ others rest l.
      only_read _ _ rest
      (plain_then_self name p others ts mid rest k l
      (fits_two names name well (left_true _ _ e))))))
      (λ e. only_then _ _ _ _ (only_word reserved.Self_ ts) (λ s mid h.
      only_then _
      (λ others rest. YieldsAll names (map said_next_method_parameter others) elsewhere mid rest
      × (name_fits names name (1 + length others) ≡ true)
      × (next_self_count others ≡ 0)) _ _
      (only_if (sees_second name (next_of mid)) _ _ _
      (λ f. only_then _ _ _ _ (only_mark mark.Comma mid)
      (λ comma mid1 h1. only_then _ _ _ _ (sound_parameter names n mid1) (λ p rest k.
      only_read _ _ rest (
        record {
          tokens =
              simp append_assoc (h1 ∙ ap (λ (u : Row). marked mark.Comma comma ∷ u) k.tokens);
          obeys = both _ _ k.obeys refl;
        },
        fits_two names name well (left_true _ _ f),
        refl,
      ))))
      (λ f. only_more _ _ _ (sound_no_second NextMethodParameter name mid)
      (λ xs rest g. rw (g.0, g.1) (
        no_more names elsewhere rest,
        fits_one names name well g.2,
        refl,
      ))))
      (λ others rest l. only_read _ _ rest (record {
        said = record {
          tokens = h ∙ ap (λ (u : Row). word reserved.Self_ s ∷ u) l.0.tokens;
          obeys = l.0.obeys;
        };
        fits = l.1;
        one = omega (arith, l.2);
      }))))

  -- ---- methods

  sound_method_body : (optional : Bool) (ts : Row)
      → Only (Option MethodBody) ((method_body names n optional).run ts)
      (λ b rest. (ts ≡ body_tokens b ++ rest) × (body_obeys names b ≡ true)
      × ((optional || is_there b) ≡ true))
  unfolding method_body with_body
  sound_method_body optional ts =
      only_if (optional && not (sees is_eq (next_of ts))) _ _ _
      (λ e. only_read _ None ts (refl, refl, may_lack optional (left_true _ _ e)))
      (λ e. only_then _ _ _ _ (only_equals ts)
      (λ s mid h. only_then _ _ _ _ (parts.sound_expr mid) (λ body rest k.
      only_read _ _ rest (h ∙ ap (λ (u : Row). equals s ∷ u) k.tokens, k.obeys, always optional))))

  -- what a method says, and that it has a body where one is wanted
  pub record YieldsMethod (optional : Bool) (m : Method) (ts rest : List Token) : Type 0 where
    pub said : Yields names (said_method m) elsewhere ts rest
    pub body : (optional || is_there m.body) ≡ true

  sound_method_rest : (optional : Bool) (name : FunctionName) (left : Spot)
      (parameters : Option MethodParameters) (right : Spot) (ts : Row)
      → name_fits names name (method_parameter_count parameters) ≡ true
      → selves_fit name (selves parameters) ≡ true
      → maybe_obeys names elsewhere (option_map said_method_parameters parameters) ≡ true
      → Only Method ((method_rest names n optional name left parameters right).run ts)
      (λ m rest. YieldsMethod optional m
      (front name left (maybe_tokens (option_map said_method_parameters parameters)) right ts)
      rest)
  unfolding method_rest
  sound_method_rest optional name left parameters right ts fits one ob =
      only_then _ _ _ _ (only_colon ts) (λ c mid h.
      only_then _ _ _ _ (sound_type_tree names n mid) (λ result mid1 k.
      only_then _ _ _ _ (sound_method_body optional mid1) (λ body rest l.
      let after : ts ≡ colon c ∷ (tokens_of (said_type result) ++ (body_tokens body ++ rest)) =
      h ∙ ap (λ
      (u : Row). colon c ∷ u) (k.tokens ∙ ap (λ
      (u : Row). tokens_of (said_type result) ++ u) l.0) in
      only_read _ _ rest
      (record {
        said =
            record {
              tokens = rw after (simp append_assoc refl);
              obeys = both _ _ fits (both _ _ one (both _ _ ob (both _ _ k.obeys l.1)));
            };
        body = l.2;
      }))))

  pub sound_method_from : (optional : Bool) (name : Name) (ts : Row)
      → Only Method ((method_from names n optional (function_name.Name name)).run ts)
      (λ m rest. YieldsMethod optional m (named name ∷ ts) rest)
  unfolding method_from
  sound_method_from optional name ts =
      only_then _ _ _ _ (only_mark mark.OpenParen ts) (λ left mid h.
      only_then _ _ _ _ (sound_maybe_method_list mid) (λ p mid1 k.
      only_then _ _ _ _ (only_mark mark.CloseParen mid1) (λ right mid2 l.
      let is : named name ∷ ts
      ≡ front (function_name.Name name) left
      (maybe_tokens (option_map said_method_parameters p)) right mid2 =
      ap (λ (u : Row). named name ∷ u) (h ∙ ap (λ
      (u : Row). marked mark.OpenParen left ∷ u) (k.0.tokens ∙ ap (λ
      (u : Row). maybe_tokens (option_map said_method_parameters p) ++ u) l)) in
      rw is (sound_method_rest optional (function_name.Name name) left p right mid2 refl
      (plain_fits name (selves p) k.1) k.0.obeys))))

  pub sound_operator_method : (optional : Bool) (name : FunctionName) (ts : Row)
      → is_well_named names name ≡ true
      → Only Method ((operator_method_from names n optional name).run ts)
      (λ m rest. YieldsMethod optional m (name_first name ∷ (name_more name ++ ts)) rest)
  unfolding operator_method_from
  sound_operator_method optional name ts well =
      only_then _ _ _ _ (only_mark mark.OpenParen ts) (λ left mid h.
      only_then _ _ _ _ (sound_operator_list name mid well) (λ p mid1 k.
      only_then _ _ _ _ (only_mark mark.CloseParen mid1) (λ right mid2 l.
      let is : name_first name ∷ (name_more name ++ ts)
      ≡ front name left (tokens_of (said_method_parameters p)) right mid2 =
      ap (λ (u : Row). name_first name ∷ (name_more name ++ u)) (h ∙ ap (λ
      (u : Row). marked mark.OpenParen left ∷ u) (k.said.tokens ∙ ap (λ
      (u : Row). tokens_of (said_method_parameters p) ++ u) l)) in
      rw is (sound_method_rest optional name left (Some p) right mid2 k.fits
      (opr_one name (selves (Some p)) k.one) k.said.obeys))))
