-- What each production of types and parameters reads is its tokens, and the rules on names hold in
-- it.
use Rattle.std.proofs.Common.{◌≡◌, ℕ, zero, suc, Bool, true, false, List, [], ◌∷◌, append_assoc, Option, Some, None, refl, ap, ◌∙◌}
use Rattle.std.specs.Prelude.{map, option_map, codes}
use Rattle.fort_lex_token.specs.declared.token.Kind.{Kind}
use Rattle.fort_lex_token.specs.declared.token.Kind.TheVariants as kind
use Rattle.fort_lex_token.specs.declared.marks.Mark.{Mark}
use Rattle.fort_lex_token.specs.declared.marks.Mark.TheVariants as mark
use Rattle.fort_tree.specs.declared.spot.Spot.{Spot}
use Rattle.fort_tree.specs.declared.spot.Name.{Name}
use Rattle.fort_tree.specs.declared.declarations.NextParameter.{NextParameter}
use Rattle.fort_tree.specs.declared.declarations.Parameter.{Parameter}
use Rattle.fort_tree.specs.declared.declarations.Parameters.{Parameters}
use Rattle.fort_tree.specs.declared.types.NextType.{NextType}
use Rattle.fort_tree.specs.declared.types.SimpleType.{SimpleType}
use Rattle.fort_tree.specs.declared.types.SimpleType.TheVariants as a_simple
use Rattle.fort_tree.specs.declared.types.TypeList.{TypeList}
use Rattle.fort_tree.specs.declared.types.TypeTree.{TypeTree}
use Rattle.fort_tree.specs.Tokens.{Spellings, named, marked, colon, is_spelled}
use Rattle.fort_tree.specs.Said.{elsewhere}
use Rattle.fort_tree.specs.Types.{said_simple_type, said_type, said_next_type, said_type_list, said_parameter, said_next_parameter, said_parameters}
use Rattle.fort_tree.proofs.SaysTypes.{says-Simple, says-Arrow, says-Named, says-Array, says-Parts, says_type_list, says_next_type}
use Rattle.fort_parse_reading.specs.Parser.{Row, next_of, Eater}
use Rattle.fort_parse_reading.specs.Words.{is_mark, is_called, sees}
use Rattle.fort_parse_reading.proofs.Laws.{Only, only_read, only_failed, only_then, only_if}
use Rattle.fort_parse_reading.proofs.Taking.{only_mark, only_name, only_called, only_colon}
use Rattle.fort_parse_reading.proofs.Yields.{Yields, YieldsAll, YieldsMaybe, both, left_out, stands_there, only_list}
use Rattle.fort_parse_types.specs.Types.{next_type, next_types, type_list, maybe_types, type_parts, array_index, array_type, named_by, named_type, mark_type, simple_for, simple_type, arrow_from, type_level, type_tree, typed, parameter, next_parameter, next_parameters, parameters, maybe_parameters}

-- the test of a word in the code and in the grammar are one
pub spelled : (names : Spellings) (name : Name) (b : Bool)
    → is_called (codes "Array") names name ≡ b → is_spelled "Array" names name ≡ b
unfolding is_called
spelled names name b e = e

pub index_spelled : (names : Spellings) (name : Name) (b : Bool)
    → is_called (codes "ZZ32") names name ≡ b → is_spelled "ZZ32" names name ≡ b
unfolding is_called
index_spelled names name b e = e

module _ (names : Spellings) {n : ℕ} (inner : Eater TypeTree n)
    (sound : (ts : Row)
    → Only TypeTree (inner.parser.run ts)
    (λ ty rest. Yields names (said_type ty) elsewhere ts rest)) where
  sound_next_type : (ts : Row)
      → Only NextType ((next_type names inner).parser.run ts)
      (λ x rest. Yields names (said_next_type x) elsewhere ts rest)
  unfolding next_type
  sound_next_type ts =
      only_then _ _ _ _ (only_mark mark.Comma ts) (λ comma mid h.
      only_then _ _ _ _ (sound mid) (λ ty rest k.
      only_read _ _ rest
      (rw (says_next_type comma ty)
      (record {
        tokens = h ∙ ap (λ (u : Row). marked mark.Comma comma ∷ u) k.tokens;
        obeys = k.obeys;
      }))))

  sound_next_types : (ts : Row)
      → Only (List NextType) ((next_types names inner).run ts)
      (λ xs rest. YieldsAll names (map said_next_type xs) elsewhere ts rest)
  unfolding next_types
  sound_next_types ts =
      only_list names elsewhere said_next_type (sees (is_mark mark.Comma)) (next_type names inner)
      (λ u e. sound_next_type u) n ts

  sound_type_list : (ts : Row)
      → Only TypeList ((type_list names inner).parser.run ts)
      (λ list rest. Yields names (said_type_list list) elsewhere ts rest)
  unfolding type_list
  sound_type_list ts =
      only_then _ _ _ _ (sound ts) (λ first mid h.
      only_then _ _ _ _ (sound_next_types mid) (λ others rest k.
      only_read _ _ rest
      (rw (says_type_list first others)
      (record { tokens = simp append_assoc (cc); obeys = both _ _ h.obeys k.obeys }))))

  sound_maybe_types : (ts : Row)
      → Only (Option TypeList) ((maybe_types names inner).run ts)
      (λ list rest. YieldsMaybe names (option_map said_type_list list) elsewhere ts rest)
  unfolding maybe_types
  sound_maybe_types ts =
      only_if (sees (is_mark mark.CloseParen) (next_of ts)) _ _ _
      (λ e. only_read _ None ts (left_out names elsewhere ts))
      (λ e. only_then _ _ _ _ (sound_type_list ts)
      (λ list rest h. only_read _ (Some list) rest
      (stands_there names (said_type_list list) elsewhere ts rest h)))

  sound_type_parts : (left : Spot) (ts : Row)
      → Only SimpleType ((type_parts names inner left).run ts)
      (λ x rest. Yields names (said_simple_type x) elsewhere (marked mark.OpenParen left ∷ ts) rest)
  unfolding type_parts
  sound_type_parts left ts =
      only_then _ _ _ _ (sound_maybe_types ts) (λ parts mid h.
      only_then _ _ _ _ (only_mark mark.CloseParen mid) (λ right rest k.
      only_read _ _ rest
      (rw (says-Parts left parts right)
      (record { tokens = simp append_assoc (cc); obeys = h.obeys }))))

  sound_array_index : (array : Name) (left : Spot) (element : TypeTree) (ts mid : Row)
      → is_called (codes "Array") names array ≡ true
      → Yields names (said_type element) elsewhere ts mid
      → Only SimpleType ((array_index names inner array left element).run mid)
      (λ x rest. Yields names (said_simple_type x) elsewhere
      (named array ∷ marked mark.OpenStatic left ∷ ts) rest)
  unfolding array_index
  sound_array_index array left element ts mid is h =
      only_then _ _ _ _ (only_mark mark.Comma mid) (λ comma mid1 k1.
      only_then _ _ _ _ (only_called (codes "ZZ32") names mid1) (λ index mid2 k2.
      only_then _ _ _ _ (only_mark mark.CloseStatic mid2) (λ right rest k3.
      only_read _ _ rest (rw (says-Array array left element comma index right) (record {
        tokens = let e = k2.0 in simp append_assoc (cc);
        obeys = both _ _ (spelled names array true is)
            (both _ _ (index_spelled names index true k2.1) h.obeys);
      })))))

  sound_array_type : (array : Name) (ts : Row) → is_called (codes "Array") names array ≡ true
      → Only SimpleType ((array_type names inner array).run ts)
      (λ x rest. Yields names (said_simple_type x) elsewhere (named array ∷ ts) rest)
  unfolding array_type
  sound_array_type array ts is =
      only_then _ _ _ _ (only_mark mark.OpenStatic ts) (λ left mid h.
      only_then _ _ _ _ (sound mid)
      (λ element mid1 k. rw h (sound_array_index array left element mid mid1 is k)))

  only_named : (name : Name) (ts : Row)
      → Yields names (said_simple_type (a_simple.Named name)) elsewhere (named name ∷ ts) ts
  only_named name ts = rw (says-Named name) (record { tokens = refl; obeys = refl })

  sound_named_by : (name : Name) (b : Bool) (ts : Row) → is_called (codes "Array") names name ≡ b
      → Only SimpleType ((named_by names inner name b).run ts)
      (λ x rest. Yields names (said_simple_type x) elsewhere (named name ∷ ts) rest)
  sound_named_by name true ts is =
      only_if (sees (is_mark mark.OpenStatic) (next_of ts)) _ _ _
      (λ e. sound_array_type name ts is)
      (λ e. only_read _ _ ts (only_named name ts))
  sound_named_by name false ts is = only_read _ _ ts (only_named name ts)

  sound_named_type : (name : Name) (ts : Row)
      → Only SimpleType ((named_type names inner name).run ts)
      (λ x rest. Yields names (said_simple_type x) elsewhere (named name ∷ ts) rest)
  unfolding named_type
  sound_named_type name ts = sound_named_by name (is_called (codes "Array") names name) ts refl

  sound_mark_type : (m : Mark) (ts : Row)
      → Only SimpleType ((mark_type names inner m).parser.run ts)
      (λ x rest. Yields names (said_simple_type x) elsewhere ts rest)
  sound_mark_type mark.OpenParen ts =
      only_then _ _ _ _ (only_mark mark.OpenParen ts)
      (λ left mid h. rw h (sound_type_parts left mid))
  sound_mark_type _ ts = only_failed _ _ ts

  sound_simple_for : (k : Kind) (ts : Row)
      → Only SimpleType ((simple_for names inner k).parser.run ts)
      (λ x rest. Yields names (said_simple_type x) elsewhere ts rest)
  sound_simple_for (kind.Name v) ts =
      only_then _ _ _ _ (only_name ts) (λ name mid h. rw h (sound_named_type name mid))
  sound_simple_for (kind.Mark m) ts = sound_mark_type m ts
  sound_simple_for _ ts = only_failed _ _ ts

  pub sound_simple_type : (ts : Row)
      → Only SimpleType ((simple_type names inner).parser.run ts)
      (λ x rest. Yields names (said_simple_type x) elsewhere ts rest)
  unfolding simple_type
  sound_simple_type [] = only_failed _ _ []
  sound_simple_type (t ∷ ts) = sound_simple_for t.kind (t ∷ ts)

  sound_arrow_from : (domain : SimpleType) (ts mid : Row)
      → Yields names (said_simple_type domain) elsewhere ts mid
      → Only TypeTree ((arrow_from names inner domain).run mid)
      (λ ty rest. Yields names (said_type ty) elsewhere ts rest)
  unfolding arrow_from
  sound_arrow_from domain ts mid h =
      only_then _ _ _ _ (only_mark mark.RightArrow mid) (λ arrow mid1 k.
      only_then _ _ _ _ (sound_simple_type mid1) (λ result rest l.
      only_read _ _ rest
      (rw (says-Arrow domain arrow result)
      (record { tokens = simp append_assoc (cc); obeys = both _ _ h.obeys l.obeys }))))

  pub sound_type_level : (ts : Row)
      → Only TypeTree ((type_level names inner).parser.run ts)
      (λ ty rest. Yields names (said_type ty) elsewhere ts rest)
  unfolding type_level
  sound_type_level ts =
      only_then _ _ _ _ (sound_simple_type ts) (λ domain mid h.
      only_if (sees (is_mark mark.RightArrow) (next_of mid)) _ _ _
      (λ e. sound_arrow_from domain ts mid h)
      (λ e. only_read _ _ mid
      (rw (says-Simple domain) (record { tokens = h.tokens; obeys = h.obeys }))))

-- what a type is read from is its tokens
pub sound_type_tree : (names : Spellings) (n : ℕ) (ts : Row)
    → Only TypeTree ((type_tree names n).parser.run ts)
    (λ ty rest. Yields names (said_type ty) elsewhere ts rest)
unfolding type_tree
sound_type_tree names zero ts = only_failed _ _ ts
sound_type_tree names (suc n) ts =
    sound_type_level names (type_tree names n) (sound_type_tree names n) ts

-- the same of what follows the name of a parameter
pub sound_typed : (names : Spellings) (n : ℕ) (name : Name) (ts : Row)
    → Only Parameter ((typed names n name).run ts)
    (λ p rest. Yields names (said_parameter p) elsewhere (named name ∷ ts) rest)
unfolding typed
sound_typed names n name ts =
    only_then _ _ _ _ (only_colon ts) (λ sign mid h.
    only_then _ _ _ _ (sound_type_tree names n mid) (λ ty rest k.
    only_read _ _ rest
    (record {
      tokens =
          ap (λ (u : Row). named name ∷ u) (h ∙ ap (λ (u : Row). colon sign ∷ u) k.tokens);
      obeys = k.obeys;
    })))

-- the same of a parameter
pub sound_parameter : (names : Spellings) (n : ℕ) (ts : Row)
    → Only Parameter ((parameter names n).parser.run ts)
    (λ p rest. Yields names (said_parameter p) elsewhere ts rest)
unfolding parameter
sound_parameter names n ts =
    only_then _ _ _ _ (only_name ts) (λ name mid h. rw h (sound_typed names n name mid))

pub sound_next_parameter : (names : Spellings) (n : ℕ) (ts : Row)
    → Only NextParameter ((next_parameter names n).parser.run ts)
    (λ x rest. Yields names (said_next_parameter x) elsewhere ts rest)
unfolding next_parameter
sound_next_parameter names n ts =
    only_then _ _ _ _ (only_mark mark.Comma ts) (λ comma mid h.
    only_then _ _ _ _ (sound_parameter names n mid) (λ p rest k.
    only_read _ _ rest
    (record {
      tokens = h ∙ ap (λ (u : Row). marked mark.Comma comma ∷ u) k.tokens;
      obeys = k.obeys;
    })))

sound_next_parameters : (names : Spellings) (n : ℕ) (ts : Row)
    → Only (List NextParameter) ((next_parameters names n).run ts)
    (λ xs rest. YieldsAll names (map said_next_parameter xs) elsewhere ts rest)
unfolding next_parameters
sound_next_parameters names n ts =
    only_list names elsewhere said_next_parameter (sees (is_mark mark.Comma))
    (next_parameter names n) (λ u e. sound_next_parameter names n u) n ts

-- the same of a list of parameters
pub sound_parameters : (names : Spellings) (n : ℕ) (ts : Row)
    → Only Parameters ((parameters names n).parser.run ts)
    (λ list rest. Yields names (said_parameters list) elsewhere ts rest)
unfolding parameters
sound_parameters names n ts =
    only_then _ _ _ _ (sound_parameter names n ts) (λ first mid h.
    only_then _ _ _ _ (sound_next_parameters names n mid) (λ others rest k.
    only_read _ _ rest
    (record { tokens = simp append_assoc (cc); obeys = both _ _ h.obeys k.obeys })))

-- the same of a list of parameters that may be left out
pub sound_maybe_parameters : (names : Spellings) (n : ℕ) (ts : Row)
    → Only (Option Parameters) ((maybe_parameters names n).run ts)
    (λ list rest. YieldsMaybe names (option_map said_parameters list) elsewhere ts rest)
unfolding maybe_parameters
sound_maybe_parameters names n ts =
    only_if (sees (is_mark mark.CloseParen) (next_of ts)) _ _ _
    (λ e. only_read _ None ts (left_out names elsewhere ts))
    (λ e. only_then _ _ _ _ (sound_parameters names n ts)
    (λ list rest h. only_read _ (Some list) rest
    (stands_there names (said_parameters list) elsewhere ts rest h)))
