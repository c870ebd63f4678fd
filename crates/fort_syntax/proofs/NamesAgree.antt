-- The productions of names and of parameters of objects read alike over two such tables.
use Rattle.std.proofs.Common.{ℕ, Bool, true, Option, Some, None}
use Rattle.std.specs.Prelude.{codes}
use Rattle.fort_lex_token.specs.declared.marks.Mark.TheVariants as mark
use Rattle.fort_tree.specs.declared.spot.Spot.{Spot}
use Rattle.fort_tree.specs.declared.spot.Name.{Name}
use Rattle.fort_tree.specs.declared.spot.NextName.{NextName}
use Rattle.fort_tree.specs.declared.declarations.NextObjectParameter.{NextObjectParameter}
use Rattle.fort_tree.specs.Tokens.{Spellings}
use Rattle.fort_parse_reading.specs.Words.{is_mark, sees}
use Rattle.fort_parse_reading.specs.Parser.{Row}
use Rattle.fort_parse_declarations.specs.Names.{semicolon, juxtaposition_name, operator_name, opr_name, next_name, next_names, braces, type_names, extends, excludes, comprises, object_typed, var_parameter, object_parameter, next_object_parameter, next_object_parameters, object_parameter_list, maybe_object_list, object_parens, object_parameters}
use Rattle.fort_syntax.proofs.Agreeing.{GoesOn, Alike, agrees_read, agrees_accept, agrees_called, agrees_then, agrees_if, agrees_many, same_called}
use Rattle.fort_syntax.proofs.TypesAgree.{same_type_tree}

module _ (names wide : Spellings) (on : GoesOn names wide) (n : ℕ) where
  pub same_semicolon : (ts : Row)
      → Alike names ts ((semicolon names n).run ts) ((semicolon wide n).run ts)
  unfolding semicolon
  same_semicolon ts all =
      agrees_if _ _ _ _ _ (agrees_then _ _ _ _ (agrees_accept _ ts all) (λ s m1 h1. agrees_read h1))
      (agrees_read all)

  pub same_juxtaposition_name : (opr : Spot) (ts : Row)
      → Alike names ts ((juxtaposition_name names n opr).run ts)
      ((juxtaposition_name wide n opr).run ts)
  unfolding juxtaposition_name
  same_juxtaposition_name opr ts all =
      agrees_then _ _ _ _
      (agrees_called _ _ ts all (same_called names wide on (codes "juxtaposition")))
      (λ name m1 h1. agrees_read h1)

  pub same_operator_name : (opr : Spot) (ts : Row)
      → Alike names ts ((operator_name names n opr).run ts) ((operator_name wide n opr).run ts)
  unfolding operator_name
  same_operator_name opr ts all =
      agrees_then _ _ _ _ (agrees_accept _ ts all) (λ sign m1 h1. agrees_read h1)

  pub same_opr_name : (opr : Spot) (ts : Row)
      → Alike names ts ((opr_name names n opr).run ts) ((opr_name wide n opr).run ts)
  unfolding opr_name
  same_opr_name opr ts all =
      agrees_if _ _ _ _ _ (same_juxtaposition_name opr ts all) (same_operator_name opr ts all)

  pub same_next_name : (ts : Row)
      → Alike names ts ((next_name names n).parser.run ts) ((next_name wide n).parser.run ts)
  unfolding next_name
  same_next_name ts all =
      agrees_then _ _ _ _ (agrees_accept _ ts all)
      (λ comma m1 h1. agrees_then _ _ _ _ (agrees_accept _ m1 h1) (λ name m2 h2. agrees_read h2))

  pub same_next_names : (ts : Row)
      → Alike names ts ((next_names names n).run ts) ((next_names wide n).run ts)
  unfolding next_names
  same_next_names ts all =
      agrees_many {A = NextName} {S =
      Bool} (λ state. (sees (is_mark mark.Comma))) (λ state x. state)
      (λ state. next_name names n) (λ state. next_name wide n) (λ state m1 h1. same_next_name m1 h1)
      n true ts all

  pub same_braces : (ts : Row) → Alike names ts ((braces names n).run ts) ((braces wide n).run ts)
  unfolding braces
  same_braces ts all =
      agrees_then _ _ _ _ (agrees_accept _ ts all)
      (λ left m1 h1. agrees_then _ _ _ _ (agrees_accept _ m1 h1)
      (λ first m2 h2. agrees_then _ _ _ _ (same_next_names m2 h2)
      (λ others m3 h3. agrees_then _ _ _ _ (agrees_accept _ m3 h3)
      (λ right m4 h4. agrees_read h4))))

  pub same_type_names : (ts : Row)
      → Alike names ts ((type_names names n).run ts) ((type_names wide n).run ts)
  unfolding type_names
  same_type_names ts all =
      agrees_if _ _ _ _ _ (same_braces ts all)
      (agrees_then _ _ _ _ (agrees_accept _ ts all) (λ name m1 h1. agrees_read h1))

  pub same_extends : (ts : Row)
      → Alike names ts ((extends names n).run ts) ((extends wide n).run ts)
  unfolding extends
  same_extends ts all =
      agrees_if _ _ _ _ _
      (agrees_then _ _ _ _ (agrees_accept _ ts all)
      (λ s m1 h1. agrees_then _ _ _ _ (same_type_names m1 h1) (λ ns m2 h2. agrees_read h2)))
      (agrees_read all)

  pub same_excludes : (ts : Row)
      → Alike names ts ((excludes names n).run ts) ((excludes wide n).run ts)
  unfolding excludes
  same_excludes ts all =
      agrees_if _ _ _ _ _
      (agrees_then _ _ _ _ (agrees_accept _ ts all)
      (λ s m1 h1. agrees_then _ _ _ _ (same_type_names m1 h1) (λ ns m2 h2. agrees_read h2)))
      (agrees_read all)

  pub same_comprises : (ts : Row)
      → Alike names ts ((comprises names n).run ts) ((comprises wide n).run ts)
  unfolding comprises
  same_comprises ts all =
      agrees_if _ _ _ _ _
      (agrees_then _ _ _ _ (agrees_accept _ ts all)
      (λ s m1 h1. agrees_then _ _ _ _ (same_type_names m1 h1) (λ ns m2 h2. agrees_read h2)))
      (agrees_read all)

  pub same_object_typed : (var : Option Spot) (name : Name) (ts : Row)
      → Alike names ts ((object_typed names n var name).run ts)
      ((object_typed wide n var name).run ts)
  unfolding object_typed
  same_object_typed var name ts all =
      agrees_then _ _ _ _ (agrees_accept _ ts all)
      (λ colon m1 h1. agrees_then _ _ _ _ (same_type_tree names wide on n m1 h1)
      (λ ty m2 h2. agrees_read h2))

  pub same_var_parameter : (ts : Row)
      → Alike names ts ((var_parameter names n).parser.run ts)
      ((var_parameter wide n).parser.run ts)
  unfolding var_parameter
  same_var_parameter ts all =
      agrees_then _ _ _ _ (agrees_accept _ ts all)
      (λ var m1 h1. agrees_then _ _ _ _ (agrees_accept _ m1 h1)
      (λ name m2 h2. same_object_typed (Some var) name m2 h2))

  pub same_object_parameter : (ts : Row)
      → Alike names ts ((object_parameter names n).parser.run ts)
      ((object_parameter wide n).parser.run ts)
  unfolding object_parameter
  same_object_parameter ts all =
      agrees_if _ _ _ _ _ (same_var_parameter ts all)
      (agrees_then _ _ _ _ (agrees_accept _ ts all) (λ x1 m1 h1. same_object_typed None x1 m1 h1))

  pub same_next_object_parameter : (ts : Row)
      → Alike names ts ((next_object_parameter names n).parser.run ts)
      ((next_object_parameter wide n).parser.run ts)
  unfolding next_object_parameter
  same_next_object_parameter ts all =
      agrees_then _ _ _ _ (agrees_accept _ ts all)
      (λ comma m1 h1. agrees_then _ _ _ _ (same_object_parameter m1 h1)
      (λ parameter m2 h2. agrees_read h2))

  pub same_next_object_parameters : (ts : Row)
      → Alike names ts ((next_object_parameters names n).run ts)
      ((next_object_parameters wide n).run ts)
  unfolding next_object_parameters
  same_next_object_parameters ts all =
      agrees_many {A = NextObjectParameter} {S =
      Bool} (λ state. (sees (is_mark mark.Comma))) (λ state x. state)
      (λ state. next_object_parameter names n) (λ state. next_object_parameter wide n)
      (λ state m1 h1. same_next_object_parameter m1 h1) n true ts all

  pub same_object_parameter_list : (ts : Row)
      → Alike names ts ((object_parameter_list names n).parser.run ts)
      ((object_parameter_list wide n).parser.run ts)
  unfolding object_parameter_list
  same_object_parameter_list ts all =
      agrees_then _ _ _ _ (same_object_parameter ts all)
      (λ first m1 h1. agrees_then _ _ _ _ (same_next_object_parameters m1 h1)
      (λ others m2 h2. agrees_read h2))

  pub same_maybe_object_list : (ts : Row)
      → Alike names ts ((maybe_object_list names n).run ts) ((maybe_object_list wide n).run ts)
  unfolding maybe_object_list
  same_maybe_object_list ts all =
      agrees_if _ _ _ _ _ (agrees_read all)
      (agrees_then _ _ _ _ (same_object_parameter_list ts all) (λ list m1 h1. agrees_read h1))

  pub same_object_parens : (ts : Row)
      → Alike names ts ((object_parens names n).run ts) ((object_parens wide n).run ts)
  unfolding object_parens
  same_object_parens ts all =
      agrees_then _ _ _ _ (agrees_accept _ ts all)
      (λ left m1 h1. agrees_then _ _ _ _ (same_maybe_object_list m1 h1)
      (λ list m2 h2. agrees_then _ _ _ _ (agrees_accept _ m2 h2)
      (λ right m3 h3. agrees_read h3)))

  pub same_object_parameters : (ts : Row)
      → Alike names ts ((object_parameters names n).run ts) ((object_parameters wide n).run ts)
  unfolding object_parameters
  same_object_parameters ts all = agrees_if _ _ _ _ _ (same_object_parens ts all) (agrees_read all)
