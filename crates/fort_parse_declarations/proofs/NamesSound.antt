-- What the productions of names of types, of functions and of the parameters of objects are read
-- from is their tokens.
use Rattle.std.proofs.Common.{◌≡◌, ℕ, Bool, true, false, cond, List, ◌∷◌, ◌++◌, append_assoc, Option, Some, None, refl, ap, ◌∙◌}
use Rattle.std.specs.Prelude.{option_map}
use Rattle.fort_ops.specs.declared.op.Op.{Op}
use Rattle.fort_lex_token.specs.declared.token.Kind.{Kind}
use Rattle.fort_lex_token.specs.declared.token.Kind.TheVariants as kind
use Rattle.fort_lex_token.specs.declared.token.Token.{Token}
use Rattle.fort_lex_token.specs.declared.marks.Mark.TheVariants as mark
use Rattle.fort_lex_token.specs.declared.reserved.Reserved.TheVariants as reserved
use Rattle.fort_tree.specs.declared.spot.Spot.{Spot}
use Rattle.fort_tree.specs.declared.spot.Name.{Name}
use Rattle.fort_tree.specs.declared.spot.NextName.{NextName}
use Rattle.fort_tree.specs.declared.spot.Sign.{Sign}
use Rattle.fort_tree.specs.declared.declarations.Comprises.{Comprises}
use Rattle.fort_tree.specs.declared.declarations.Excludes.{Excludes}
use Rattle.fort_tree.specs.declared.declarations.Extends.{Extends}
use Rattle.fort_tree.specs.declared.declarations.FunctionName.{FunctionName}
use Rattle.fort_tree.specs.declared.declarations.FunctionName.TheVariants as function_name
use Rattle.fort_tree.specs.declared.declarations.Names.{Names}
use Rattle.fort_tree.specs.declared.declarations.Names.TheVariants as names_of
use Rattle.fort_tree.specs.declared.declarations.NextObjectParameter.{NextObjectParameter}
use Rattle.fort_tree.specs.declared.declarations.ObjectParameter.{ObjectParameter}
use Rattle.fort_tree.specs.declared.declarations.ObjectParameterList.{ObjectParameterList}
use Rattle.fort_tree.specs.declared.declarations.ObjectParameters.{ObjectParameters}
use Rattle.std.specs.Prelude.{codes}
use Rattle.fort_tree.specs.Tokens.{Spellings, token, marked, word, named, signed, operator, colon, is_spelled, is_name}
use Rattle.fort_tree.specs.Said.{tokens_of, maybe_tokens, semicolon_tokens, elsewhere}
use Rattle.fort_tree.specs.Blocks.{next_names_tokens}
use Rattle.fort_tree.specs.Declarations.{name_first, name_more, name_fits, is_opr, names_tokens, extends_tokens, excludes_tokens, comprises_tokens, said_object_parameter, said_next_object_parameter, said_object_parameter_list, said_object_parameters}
use Rattle.fort_parse_reading.specs.Parser.{Row, accept_run, next_of}
use Rattle.fort_parse_reading.specs.Words.{is_mark, is_word, is_called, spot_of, sees}
use Rattle.fort_parse_reading.proofs.Laws.{Only, only_read, only_then, only_if, only_many, only_token}
use Rattle.fort_parse_reading.proofs.Taking.{only_name, only_mark, only_word, only_colon, only_called}
use Rattle.fort_parse_reading.proofs.Yields.{Yields, YieldsMaybe, both, only_list, left_out, stands_there}
use Rattle.fort_parse_types.proofs.Sound.{sound_type_tree}
use Rattle.fort_parse_declarations.specs.Names.{is_declarable, declared_if, declared_in, declared_of, takes_one, takes_two, semicolon, juxtaposition_name, operator_name, opr_name, next_name, next_names, braces, type_names, extends, excludes, comprises, object_typed, var_parameter, object_parameter, next_object_parameter, next_object_parameters, object_parameter_list, maybe_object_list, object_parens, object_parameters}

-- ---- names of functions

-- a name is spelled as it must be
abbrev pub is_well_named : Spellings → FunctionName → Bool
is_well_named names (function_name.Name name) = true
is_well_named names (function_name.Operator opr sign) = true
is_well_named names (function_name.Juxtaposition opr name) = is_spelled "juxtaposition" names name

pub fits_one : (names : Spellings) (f : FunctionName) → is_well_named names f ≡ true
    → takes_one f ≡ true → name_fits names f 1 ≡ true
fits_one names (function_name.Name name) e t = refl
fits_one names (function_name.Operator opr sign) e t = t
fits_one names (function_name.Juxtaposition opr name) e t = absurd cc

pub fits_two : (names : Spellings) (f : FunctionName) → is_well_named names f ≡ true
    → takes_two f ≡ true → name_fits names f 2 ≡ true
fits_two names (function_name.Name name) e t = refl
fits_two names (function_name.Operator opr sign) e t = t
fits_two names (function_name.Juxtaposition opr name) e t = rw e refl

-- ts is the rest of a name behind `opr`, and then rest
pub record YieldsName (names : Spellings) (opr : Spot) (f : FunctionName)
    (ts rest : List Token) : Type 0 where
  pub tokens : word reserved.Opr opr ∷ ts ≡ name_first f ∷ (name_more f ++ rest)
  pub well : is_well_named names f ≡ true
  pub is_operator : is_opr f ≡ true

if_declared : (b : Bool) (s : Spot) (o : Op) (x : Sign)
    → cond b (Some (record { op = o; spot = s })) None ≡ Some x → operator o s ≡ signed x
if_declared true s o x e = let is : record { op = o; spot = s } ≡ x = cc in ap signed is
if_declared false s o x e = absurd cc

op_is : (s : Spot) (o : Op) (x : Sign) → declared_if s o ≡ Some x → operator o s ≡ signed x
op_is s o x e = if_declared (is_declarable o) s o x e

declared_by : (k : Kind) (s : Spot) (x : Sign) → declared_in s k ≡ Some x → token k s ≡ signed x
declared_by (kind.Op o) s x e = op_is s o x e
declared_by (kind.Word v) s x e = absurd cc
declared_by (kind.Name v) s x e = absurd cc
declared_by (kind.Number v) s x e = absurd cc
declared_by (kind.Text v) s x e = absurd cc
declared_by (kind.Mark v) s x e = absurd cc

declared_is : (t : Token) (x : Sign) → declared_of t ≡ Some x → (t ≡ signed x) × Unit {0}
unfolding declared_of
declared_is t x e = (declared_by t.kind (spot_of t) x e, tt)

only_declared : (ts : Row) → Only Sign (accept_run declared_of ts) (λ x rest. ts ≡ signed x ∷ rest)
only_declared ts =
    record {
      holds =
          λ x rest e. ((only_token declared_of signed (λ x. Unit {0}) declared_is ts).holds x rest
          e).0;
    }

spelled : (names : Spellings) (name : Name) → is_called (codes "juxtaposition") names name ≡ true
    → is_spelled "juxtaposition" names name ≡ true
unfolding is_called
spelled names name e = e

module _ (names : Spellings) (n : ℕ) where
  pub sound_semicolon : (ts : Row)
      → Only (Option Spot) ((semicolon names n).run ts) (λ s rest. ts ≡ semicolon_tokens s ++ rest)
  unfolding semicolon
  sound_semicolon ts =
      only_if (sees (is_mark mark.Semicolon) (next_of ts)) _ _ _
      (λ e. only_then _ _ _ _ (only_mark mark.Semicolon ts)
      (λ s rest h. only_read _ (Some s) rest h))
      (λ e. only_read _ None ts refl)

  pub sound_opr_name : (opr : Spot) (ts : Row)
      → Only FunctionName ((opr_name names n opr).run ts) (λ f rest. YieldsName names opr f ts rest)
  unfolding opr_name juxtaposition_name operator_name
  sound_opr_name opr ts =
      only_if (sees is_name (next_of ts)) _ _ _
      (λ e. only_then _ _ _ _ (only_called _ names ts)
      (λ name rest h. only_read _ (function_name.Juxtaposition opr name) rest
      (record {
        tokens = ap (λ (u : Row). word reserved.Opr opr ∷ u) h.0;
        well = spelled names name h.1;
        is_operator = refl;
      })))
      (λ e. only_then _ _ _ _ (only_declared ts)
      (λ sign rest h. only_read _ (function_name.Operator opr sign) rest
      (record {
        tokens = ap (λ (u : Row). word reserved.Opr opr ∷ u) h;
        well = refl;
        is_operator = refl;
      })))

  -- ---- names of types

  sound_next_name : (ts : Row)
      → Only NextName ((next_name names n).parser.run ts) (λ x rest. ts
      ≡ marked mark.Comma x.comma ∷ named x.name ∷ rest)
  unfolding next_name
  sound_next_name ts =
      only_then _ _ _ _ (only_mark mark.Comma ts) (λ comma mid h.
      only_then _ _ _ _ (only_name mid)
      (λ name rest k. only_read _ _ rest (h ∙ ap (λ (u : Row). marked mark.Comma comma ∷ u) k)))

  sound_next_names : (ts : Row)
      → Only (List NextName) ((next_names names n).run ts) (λ xs rest. ts
      ≡ next_names_tokens xs ++ rest)
  unfolding next_names
  sound_next_names ts =
      only_many (λ state. sees (is_mark mark.Comma)) (λ state x. state) (λ state. next_name names n)
      (λ state x u v. u ≡ marked mark.Comma x.comma ∷ named x.name ∷ v) (λ state xs u v. u
      ≡ next_names_tokens xs ++ v)
      (λ state u e. sound_next_name u) (λ state u. refl) (λ state x xs u v w i j. i ∙ ap (λ
      (y : Row). marked mark.Comma x.comma ∷ named x.name ∷ y) j) n true ts

  pub sound_type_names : (ts : Row)
      → Only Names ((type_names names n).run ts) (λ ns rest. ts ≡ names_tokens ns ++ rest)
  unfolding type_names braces
  sound_type_names ts =
      only_if (sees (is_mark mark.OpenBrace) (next_of ts)) _ _ _
      (λ e. only_then _ _ _ _ (only_mark mark.OpenBrace ts) (λ left mid h.
      only_then _ _ _ _ (only_name mid) (λ first mid1 h1.
      only_then _ _ _ _ (sound_next_names mid1) (λ others mid2 h2.
      only_then _ _ _ _ (only_mark mark.CloseBrace mid2) (λ right rest h3.
      only_read _ (names_of.Braces left first others right) rest (simp append_assoc (cc)))))))
      (λ e. only_then _ _ _ _ (only_name ts)
      (λ name rest h. only_read _ (names_of.One name) rest h))

  pub sound_extends : (ts : Row)
      → Only (Option Extends) ((extends names n).run ts) (λ x rest. ts ≡ extends_tokens x ++ rest)
  unfolding extends
  sound_extends ts =
      only_if (sees (is_word reserved.Extends) (next_of ts)) _ _ _
      (λ e. only_then _ _ _ _ (only_word reserved.Extends ts)
      (λ s mid h. only_then _ _ _ _ (sound_type_names mid)
      (λ ns rest k. only_read _ _ rest (h ∙ ap (λ
      (u : Row). word reserved.Extends s ∷ u) k))))
      (λ e. only_read _ None ts refl)

  pub sound_excludes : (ts : Row)
      → Only (Option Excludes) ((excludes names n).run ts) (λ x rest. ts
      ≡ excludes_tokens x ++ rest)
  unfolding excludes
  sound_excludes ts =
      only_if (sees (is_word reserved.Excludes) (next_of ts)) _ _ _
      (λ e. only_then _ _ _ _ (only_word reserved.Excludes ts)
      (λ s mid h. only_then _ _ _ _ (sound_type_names mid)
      (λ ns rest k. only_read _ _ rest (h ∙ ap (λ
      (u : Row). word reserved.Excludes s ∷ u) k))))
      (λ e. only_read _ None ts refl)

  pub sound_comprises : (ts : Row)
      → Only (Option Comprises) ((comprises names n).run ts) (λ x rest. ts
      ≡ comprises_tokens x ++ rest)
  unfolding comprises
  sound_comprises ts =
      only_if (sees (is_word reserved.Comprises) (next_of ts)) _ _ _
      (λ e. only_then _ _ _ _ (only_word reserved.Comprises ts)
      (λ s mid h. only_then _ _ _ _ (sound_type_names mid)
      (λ ns rest k. only_read _ _ rest (h ∙ ap (λ
      (u : Row). word reserved.Comprises s ∷ u) k))))
      (λ e. only_read _ None ts refl)

  -- ---- parameters of objects

  sound_object_typed : (name : Name) (ts : Row)
      → Only ObjectParameter ((object_typed names n None name).run ts)
      (λ p rest. Yields names (said_object_parameter p) elsewhere (named name ∷ ts) rest)
  unfolding object_typed
  sound_object_typed name ts =
      only_then _ _ _ _ (only_colon ts) (λ c mid h.
      only_then _ _ _ _ (sound_type_tree names n mid) (λ ty rest k.
      only_read _ _ rest
      (record {
        tokens =
            ap (λ (u : Row). named name ∷ u) (h ∙ ap (λ (u : Row). colon c ∷ u) k.tokens);
        obeys = k.obeys;
      })))

  sound_var_typed : (var : Spot) (name : Name) (ts : Row)
      → Only ObjectParameter ((object_typed names n (Some var) name).run ts)
      (λ p rest. Yields names (said_object_parameter p) elsewhere
      (word reserved.Var var ∷ named name ∷ ts) rest)
  unfolding object_typed
  sound_var_typed var name ts =
      only_then _ _ _ _ (only_colon ts) (λ c mid h.
      only_then _ _ _ _ (sound_type_tree names n mid) (λ ty rest k.
      only_read _ _ rest
      (record {
        tokens =
            ap (λ (u : Row). word reserved.Var var ∷ named name ∷ u) (h ∙ ap (λ
            (u : Row). colon c ∷ u) k.tokens);
        obeys = k.obeys;
      })))

  sound_object_parameter : (ts : Row)
      → Only ObjectParameter ((object_parameter names n).parser.run ts)
      (λ p rest. Yields names (said_object_parameter p) elsewhere ts rest)
  unfolding object_parameter var_parameter
  sound_object_parameter ts =
      only_if (sees (is_word reserved.Var) (next_of ts)) _ _ _
      (λ e. only_then _ _ _ _ (only_word reserved.Var ts)
      (λ var mid h. only_then _ _ _ _ (only_name mid)
      (λ name mid1 k. rw (h, k) (sound_var_typed var name mid1))))
      (λ e. only_then _ _ _ _ (only_name ts) (λ name mid h. rw h (sound_object_typed name mid)))

  sound_next_object_parameter : (ts : Row)
      → Only NextObjectParameter ((next_object_parameter names n).parser.run ts)
      (λ p rest. Yields names (said_next_object_parameter p) elsewhere ts rest)
  unfolding next_object_parameter
  sound_next_object_parameter ts =
      only_then _ _ _ _ (only_mark mark.Comma ts) (λ comma mid h.
      only_then _ _ _ _ (sound_object_parameter mid) (λ p rest k.
      only_read _ _ rest
      (record {
        tokens = h ∙ ap (λ (u : Row). marked mark.Comma comma ∷ u) k.tokens;
        obeys = k.obeys;
      })))

  sound_object_list : (ts : Row)
      → Only ObjectParameterList ((object_parameter_list names n).parser.run ts)
      (λ l rest. Yields names (said_object_parameter_list l) elsewhere ts rest)
  unfolding object_parameter_list next_object_parameters
  sound_object_list ts =
      only_then _ _ _ _ (sound_object_parameter ts) (λ first mid h.
      only_then _ _ _ _
      (only_list names elsewhere said_next_object_parameter (sees (is_mark mark.Comma))
      (next_object_parameter names n) (λ u e. sound_next_object_parameter u) n mid)
      (λ others rest k.
      only_read _ _ rest
      (record {
        tokens =
            simp append_assoc (h.tokens ∙ ap (λ
            (u : Row). tokens_of (said_object_parameter first) ++ u) k.tokens);
        obeys = both _ _ h.obeys k.obeys;
      })))

  sound_maybe_object_list : (ts : Row)
      → Only (Option ObjectParameterList) ((maybe_object_list names n).run ts)
      (λ l rest. YieldsMaybe names (option_map said_object_parameter_list l) elsewhere ts rest)
  unfolding maybe_object_list
  sound_maybe_object_list ts =
      only_if (sees (is_mark mark.CloseParen) (next_of ts)) _ _ _
      (λ e. only_read _ None ts (left_out names elsewhere ts))
      (λ e. only_then _ _ _ _ (sound_object_list ts)
      (λ l rest k. only_read _ (Some l) rest
      (stands_there names (said_object_parameter_list l) elsewhere ts rest k)))

  pub sound_object_parameters : (ts : Row)
      → Only (Option ObjectParameters) ((object_parameters names n).run ts)
      (λ p rest. YieldsMaybe names (option_map said_object_parameters p) elsewhere ts rest)
  unfolding object_parameters object_parens
  sound_object_parameters ts =
      only_if (sees (is_mark mark.OpenParen) (next_of ts)) _ _ _
      (λ e. only_then _ _ _ _ (only_mark mark.OpenParen ts) (λ left mid h.
      only_then _ _ _ _ (sound_maybe_object_list mid) (λ list mid1 k.
      only_then _ _ _ _ (only_mark mark.CloseParen mid1) (λ right rest l.
      only_read _ _ rest
      (record {
        tokens =
            simp append_assoc (h ∙ ap (λ
            (u : Row). marked mark.OpenParen left ∷ u) (k.tokens ∙ ap (λ
            (u : Row). maybe_tokens (option_map said_object_parameter_list list) ++ u) l));
        obeys = k.obeys;
      })))))
      (λ e. only_read _ None ts (left_out names elsewhere ts))
