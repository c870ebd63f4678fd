-- The productions of types and parameters read alike over two tables of names one of which goes on
-- from the other.
use Rattle.std.proofs.Common.{ℕ, zero, suc, ◌<◌, Bool, true, false, length, Option, Some, None, subst}
use Rattle.std.specs.Prelude.{codes}
use Rattle.fort_lex_token.specs.declared.token.Kind.{Kind}
use Rattle.fort_lex_token.specs.declared.token.Kind.TheVariants as kind
use Rattle.fort_lex_token.specs.declared.token.Token.{Token}
use Rattle.fort_lex_token.specs.declared.marks.Mark.{Mark}
use Rattle.fort_lex_token.specs.declared.marks.Mark.TheVariants as mark
use Rattle.fort_tree.specs.declared.spot.Spot.{Spot}
use Rattle.fort_tree.specs.declared.spot.Name.{Name}
use Rattle.fort_tree.specs.declared.declarations.NextParameter.{NextParameter}
use Rattle.fort_tree.specs.declared.types.NextType.{NextType}
use Rattle.fort_tree.specs.declared.types.SimpleType.{SimpleType}
use Rattle.fort_tree.specs.declared.types.TypeTree.{TypeTree}
use Rattle.fort_tree.specs.Tokens.{Spellings}
use Rattle.fort_parse_reading.specs.Parser.{Eater}
use Rattle.fort_parse_reading.specs.Words.{is_called, is_mark, sees}
use Rattle.fort_parse_reading.specs.Parser.{Row, next_of}
use Rattle.fort_parse_types.specs.Types.{next_type, next_types, type_list, maybe_types, type_parts, array_index, array_type, named_by, named_type, mark_type, simple_for, simple_by, simple_type, arrow_from, type_level, type_tree, typed, parameter, next_parameter, next_parameters, parameters, maybe_parameters}
use Rattle.fort_syntax.proofs.Agreeing.{GoesOn, Agrees, Alike, agrees_read, agrees_failed, agrees_accept, agrees_called, agrees_then, agrees_if, agrees_many, agrees_name, same_word, same_called}

module _ (names wide : Spellings) (on : GoesOn names wide) {n : ℕ} (inner jnner : Eater TypeTree n)
    (same_inner : (ts : Row) → Alike names ts (inner.parser.run ts) (jnner.parser.run ts)) where
  pub same_next_type : (ts : Row)
      → Alike names ts ((next_type names inner).parser.run ts)
      ((next_type wide jnner).parser.run ts)
  unfolding next_type
  same_next_type ts all =
      agrees_then _ _ _ _ (agrees_accept _ ts all)
      (λ comma m1 h1. agrees_then _ _ _ _ (same_inner m1 h1) (λ ty m2 h2. agrees_read h2))

  pub same_next_types : (ts : Row)
      → Alike names ts ((next_types names inner).run ts) ((next_types wide jnner).run ts)
  unfolding next_types
  same_next_types ts all =
      agrees_many {A = NextType} {S =
      Bool} (λ state. (sees (is_mark mark.Comma))) (λ state x. state)
      (λ state. next_type names inner) (λ state. next_type wide jnner)
      (λ state m1 h1. same_next_type m1 h1) n true ts all

  pub same_type_list : (ts : Row)
      → Alike names ts ((type_list names inner).parser.run ts)
      ((type_list wide jnner).parser.run ts)
  unfolding type_list
  same_type_list ts all =
      agrees_then _ _ _ _ (same_inner ts all)
      (λ first m1 h1. agrees_then _ _ _ _ (same_next_types m1 h1) (λ others m2 h2. agrees_read h2))

  pub same_maybe_types : (ts : Row)
      → Alike names ts ((maybe_types names inner).run ts) ((maybe_types wide jnner).run ts)
  unfolding maybe_types
  same_maybe_types ts all =
      agrees_if _ _ _ _ _ (agrees_read all)
      (agrees_then _ _ _ _ (same_type_list ts all) (λ list m1 h1. agrees_read h1))

  pub same_type_parts : (left : Spot) (ts : Row)
      → Alike names ts ((type_parts names inner left).run ts) ((type_parts wide jnner left).run ts)
  unfolding type_parts
  same_type_parts left ts all =
      agrees_then _ _ _ _ (same_maybe_types ts all)
      (λ parts m1 h1. agrees_then _ _ _ _ (agrees_accept _ m1 h1) (λ right m2 h2. agrees_read h2))

  pub same_array_index : (array : Name) (left : Spot) (element : TypeTree) (ts : Row)
      → Alike names ts ((array_index names inner array left element).run ts)
      ((array_index wide jnner array left element).run ts)
  unfolding array_index
  same_array_index array left element ts all =
      agrees_then _ _ _ _ (agrees_accept _ ts all)
      (λ comma m1 h1. agrees_then _ _ _ _
      (agrees_called _ _ m1 h1 (same_called names wide on (codes "ZZ32")))
      (λ index m2 h2. agrees_then _ _ _ _ (agrees_accept _ m2 h2)
      (λ right m3 h3. agrees_read h3)))

  pub same_array_type : (array : Name) (ts : Row)
      → Alike names ts ((array_type names inner array).run ts)
      ((array_type wide jnner array).run ts)
  unfolding array_type
  same_array_type array ts all =
      agrees_then _ _ _ _ (agrees_accept _ ts all)
      (λ left m1 h1. agrees_then _ _ _ _ (same_inner m1 h1)
      (λ element m2 h2. same_array_index array left element m2 h2))

  pub same_named_by : (name : Name) (a1 : Bool) (ts : Row)
      → Alike names ts ((named_by names inner name a1).run ts)
      ((named_by wide jnner name a1).run ts)
  same_named_by name true ts all =
      agrees_if _ _ _ _ _ (same_array_type name ts all) (agrees_read all)
  same_named_by name false ts all = agrees_read all

  pub same_named_type : (name : Name) (ts : Row) → name.id.0 < length names
      → Alike names ts ((named_type names inner name).run ts) ((named_type wide jnner name).run ts)
  unfolding named_type
  same_named_type name ts i h =
      subst (λ b. Agrees (length names)
      ((named_by names inner name (is_called (codes "Array") names name)).run ts)
      ((named_by wide jnner name b).run ts))
      (same_word names wide on (codes "Array") name i)
      (same_named_by name (is_called (codes "Array") names name) ts h)

  pub same_mark_type : (a0 : Mark) (ts : Row)
      → Alike names ts ((mark_type names inner a0).parser.run ts)
      ((mark_type wide jnner a0).parser.run ts)
  same_mark_type mark.OpenParen ts all =
      agrees_then _ _ _ _ (agrees_accept _ ts all) (λ x1 m1 h1. same_type_parts x1 m1 h1)
  same_mark_type _ ts all = agrees_failed

  pub same_simple_for : (a0 : Kind) (ts : Row)
      → Alike names ts ((simple_for names inner a0).parser.run ts)
      ((simple_for wide jnner a0).parser.run ts)
  same_simple_for (kind.Name v) ts h =
      agrees_name _ _ ts h (λ name m i k. same_named_type name m i k)
  same_simple_for (kind.Mark m) ts h = same_mark_type m ts h
  same_simple_for _ ts h = agrees_failed

  pub same_simple_by : (a0 : Option Token) (ts : Row)
      → Alike names ts ((simple_by names inner a0).parser.run ts)
      ((simple_by wide jnner a0).parser.run ts)
  same_simple_by None ts all = agrees_failed
  same_simple_by (Some t) ts all = same_simple_for t.kind ts all

  pub same_simple_type : (ts : Row)
      → Alike names ts ((simple_type names inner).parser.run ts)
      ((simple_type wide jnner).parser.run ts)
  unfolding simple_type
  same_simple_type ts all = same_simple_by (next_of ts) ts all

  pub same_arrow_from : (domain : SimpleType) (ts : Row)
      → Alike names ts ((arrow_from names inner domain).run ts)
      ((arrow_from wide jnner domain).run ts)
  unfolding arrow_from
  same_arrow_from domain ts all =
      agrees_then _ _ _ _ (agrees_accept _ ts all)
      (λ arrow m1 h1. agrees_then _ _ _ _ (same_simple_type m1 h1) (λ result m2 h2. agrees_read h2))

  pub same_type_level : (ts : Row)
      → Alike names ts ((type_level names inner).parser.run ts)
      ((type_level wide jnner).parser.run ts)
  unfolding type_level
  same_type_level ts all =
      agrees_then _ _ _ _ (same_simple_type ts all)
      (λ domain m1 h1. agrees_if _ _ _ _ _ (same_arrow_from domain m1 h1) (agrees_read h1))

module _ (names wide : Spellings) (on : GoesOn names wide) where
  pub same_type_tree : (n : ℕ) (ts : Row)
      → Alike names ts ((type_tree names n).parser.run ts) ((type_tree wide n).parser.run ts)
  unfolding type_tree
  same_type_tree zero ts h = agrees_failed
  same_type_tree (suc n) ts h =
      same_type_level names wide on (type_tree names n) (type_tree wide n) (same_type_tree n) ts h

module _ (names wide : Spellings) (on : GoesOn names wide) (n : ℕ) where
  pub same_typed : (name : Name) (ts : Row)
      → Alike names ts ((typed names n name).run ts) ((typed wide n name).run ts)
  unfolding typed
  same_typed name ts all =
      agrees_then _ _ _ _ (agrees_accept _ ts all)
      (λ colon m1 h1. agrees_then _ _ _ _ (same_type_tree names wide on n m1 h1)
      (λ ty m2 h2. agrees_read h2))

  pub same_parameter : (ts : Row)
      → Alike names ts ((parameter names n).parser.run ts) ((parameter wide n).parser.run ts)
  unfolding parameter
  same_parameter ts all =
      agrees_then _ _ _ _ (agrees_accept _ ts all) (λ x1 m1 h1. same_typed x1 m1 h1)

  pub same_next_parameter : (ts : Row)
      → Alike names ts ((next_parameter names n).parser.run ts)
      ((next_parameter wide n).parser.run ts)
  unfolding next_parameter
  same_next_parameter ts all =
      agrees_then _ _ _ _ (agrees_accept _ ts all)
      (λ comma m1 h1. agrees_then _ _ _ _ (same_parameter m1 h1)
      (λ parameter m2 h2. agrees_read h2))

  pub same_next_parameters : (ts : Row)
      → Alike names ts ((next_parameters names n).run ts) ((next_parameters wide n).run ts)
  unfolding next_parameters
  same_next_parameters ts all =
      agrees_many {A = NextParameter} {S =
      Bool} (λ state. (sees (is_mark mark.Comma))) (λ state x. state)
      (λ state. next_parameter names n) (λ state. next_parameter wide n)
      (λ state m1 h1. same_next_parameter m1 h1) n true ts all

  pub same_parameters : (ts : Row)
      → Alike names ts ((parameters names n).parser.run ts) ((parameters wide n).parser.run ts)
  unfolding parameters
  same_parameters ts all =
      agrees_then _ _ _ _ (same_parameter ts all)
      (λ first m1 h1. agrees_then _ _ _ _ (same_next_parameters m1 h1)
      (λ others m2 h2. agrees_read h2))

  pub same_maybe_parameters : (ts : Row)
      → Alike names ts ((maybe_parameters names n).run ts) ((maybe_parameters wide n).run ts)
  unfolding maybe_parameters
  same_maybe_parameters ts all =
      agrees_if _ _ _ _ _ (agrees_read all)
      (agrees_then _ _ _ _ (same_parameters ts all) (λ list m1 h1. agrees_read h1))
