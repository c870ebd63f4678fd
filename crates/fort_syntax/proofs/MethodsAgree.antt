-- The productions of functions and methods read alike over two such tables.
use Rattle.std.proofs.Common.{ℕ, Bool, true, false, ◌||◌, Option, Some}
use Rattle.fort_lex_token.specs.declared.marks.Mark.TheVariants as mark
use Rattle.fort_tree.specs.declared.spot.Spot.{Spot}
use Rattle.fort_tree.specs.declared.declarations.FunctionName.{FunctionName}
use Rattle.fort_tree.specs.declared.declarations.MethodParameters.{MethodParameters}
use Rattle.fort_tree.specs.declared.declarations.NextMethodParameter.{NextMethodParameter}
use Rattle.fort_tree.specs.declared.declarations.Parameters.{Parameters}
use Rattle.fort_tree.specs.Tokens.{Spellings}
use Rattle.fort_parse_reading.specs.Words.{is_mark, sees}
use Rattle.fort_parse_declarations.specs.Names.{takes_one}
use Rattle.fort_parse_reading.specs.Parser.{Row}
use Rattle.fort_parse_declarations.specs.Methods.{is_self, function_rest, function_from, if_enough, no_second, operator_others, operator_parameters, operator_from, self_parameter, plain_parameter, method_parameter_at, next_method_parameter, next_method_parameters, method_list, maybe_method_list, plain_second, self_second, self_first, plain_first, operator_list, with_body, method_body, method_rest, method_from, operator_method_from}
use Rattle.fort_syntax.proofs.Agreeing.{GoesOn, Alike, agrees_read, agrees_failed, agrees_accept, agrees_then, agrees_if, agrees_many}
use Rattle.fort_syntax.proofs.TypesAgree.{same_type_tree, same_parameter, same_next_parameter, same_maybe_parameters}
use Rattle.fort_syntax.proofs.RunsAgree.{same_expr_at}

module _ (names wide : Spellings) (on : GoesOn names wide) (n : ℕ) where
  pub same_function_rest : (name : FunctionName) (left : Spot) (parameters : Option Parameters)
      (right : Spot) (ts : Row)
      → Alike names ts ((function_rest names n name left parameters right).run ts)
      ((function_rest wide n name left parameters right).run ts)
  unfolding function_rest
  same_function_rest name left parameters right ts all =
      agrees_then _ _ _ _ (agrees_accept _ ts all)
      (λ colon m1 h1. agrees_then _ _ _ _ (same_type_tree names wide on n m1 h1)
      (λ result m2 h2. agrees_then _ _ _ _ (agrees_accept _ m2 h2)
      (λ equals m3 h3. agrees_then _ _ _ _ (same_expr_at names wide on n false m3 h3)
      (λ body m4 h4. agrees_read h4))))

  pub same_function_from : (name : FunctionName) (ts : Row)
      → Alike names ts ((function_from names n name).run ts) ((function_from wide n name).run ts)
  unfolding function_from
  same_function_from name ts all =
      agrees_then _ _ _ _ (agrees_accept _ ts all)
      (λ left m1 h1. agrees_then _ _ _ _ (same_maybe_parameters names wide on n m1 h1)
      (λ parameters m2 h2. agrees_then _ _ _ _ (agrees_accept _ m2 h2)
      (λ right m3 h3. same_function_rest name left parameters right m3 h3)))

  pub same_if_enough : {A : Type 0} (a0 : Bool) (ts : Row)
      → Alike names ts ((if_enough names n {A = A} a0).run ts)
      ((if_enough wide n {A = A} a0).run ts)
  same_if_enough true ts all = agrees_read all
  same_if_enough false ts all = agrees_failed

  pub same_no_second : {A : Type 0} (name : FunctionName) (ts : Row)
      → Alike names ts ((no_second names n {A = A} name).run ts)
      ((no_second wide n {A = A} name).run ts)
  same_no_second name ts all = same_if_enough (takes_one name) ts all

  pub same_operator_others : (name : FunctionName) (ts : Row)
      → Alike names ts ((operator_others names n name).run ts)
      ((operator_others wide n name).run ts)
  unfolding operator_others
  same_operator_others name ts all =
      agrees_if _ _ _ _ _
      (agrees_then _ _ _ _ (same_next_parameter names wide on n ts all)
      (λ next m1 h1. agrees_read h1)) (same_no_second name ts all)

  pub same_operator_parameters : (name : FunctionName) (ts : Row)
      → Alike names ts ((operator_parameters names n name).run ts)
      ((operator_parameters wide n name).run ts)
  unfolding operator_parameters
  same_operator_parameters name ts all =
      agrees_then _ _ _ _ (same_parameter names wide on n ts all)
      (λ first m1 h1. agrees_then _ _ _ _ (same_operator_others name m1 h1)
      (λ others m2 h2. agrees_read h2))

  pub same_operator_from : (name : FunctionName) (ts : Row)
      → Alike names ts ((operator_from names n name).run ts) ((operator_from wide n name).run ts)
  unfolding operator_from
  same_operator_from name ts all =
      agrees_then _ _ _ _ (agrees_accept _ ts all)
      (λ left m1 h1. agrees_then _ _ _ _ (same_operator_parameters name m1 h1)
      (λ parameters m2 h2. agrees_then _ _ _ _ (agrees_accept _ m2 h2)
      (λ right m3 h3. same_function_rest name left (Some parameters) right m3 h3)))

  pub same_self_parameter : (ts : Row)
      → Alike names ts ((self_parameter names n).parser.run ts)
      ((self_parameter wide n).parser.run ts)
  unfolding self_parameter
  same_self_parameter ts all =
      agrees_then _ _ _ _ (agrees_accept _ ts all) (λ s m1 h1. agrees_read h1)

  pub same_plain_parameter : (ts : Row)
      → Alike names ts ((plain_parameter names n).parser.run ts)
      ((plain_parameter wide n).parser.run ts)
  unfolding plain_parameter
  same_plain_parameter ts all =
      agrees_then _ _ _ _ (same_parameter names wide on n ts all) (λ p m1 h1. agrees_read h1)

  pub same_method_parameter_at : (seen : Bool) (ts : Row)
      → Alike names ts ((method_parameter_at names n seen).parser.run ts)
      ((method_parameter_at wide n seen).parser.run ts)
  unfolding method_parameter_at
  same_method_parameter_at seen ts all =
      agrees_if _ _ _ _ _ (same_self_parameter ts all) (same_plain_parameter ts all)

  pub same_next_method_parameter : (seen : Bool) (ts : Row)
      → Alike names ts ((next_method_parameter names n seen).parser.run ts)
      ((next_method_parameter wide n seen).parser.run ts)
  unfolding next_method_parameter
  same_next_method_parameter seen ts all =
      agrees_then _ _ _ _ (agrees_accept _ ts all)
      (λ comma m1 h1. agrees_then _ _ _ _ (same_method_parameter_at seen m1 h1)
      (λ p m2 h2. agrees_read h2))

  pub same_next_method_parameters : (seen : Bool) (ts : Row)
      → Alike names ts ((next_method_parameters names n seen).run ts)
      ((next_method_parameters wide n seen).run ts)
  unfolding next_method_parameters
  same_next_method_parameters seen ts all =
      agrees_many {A = NextMethodParameter} {S =
      Bool} (λ seen. sees (is_mark mark.Comma)) (λ seen next. seen
      || is_self next.parameter) (λ s1. next_method_parameter names n s1)
      (λ s1. next_method_parameter wide n s1) (λ s1 m1 h1. same_next_method_parameter s1 m1 h1) n
      seen ts all

  pub same_method_list : (ts : Row)
      → Alike names ts ((method_list names n).run ts) ((method_list wide n).run ts)
  unfolding method_list
  same_method_list ts all =
      agrees_then _ _ _ _ (same_method_parameter_at false ts all)
      (λ first m1 h1. agrees_then _ _ _ _ (same_next_method_parameters (is_self first) m1 h1)
      (λ others m2 h2. agrees_read h2))

  pub same_maybe_method_list : (ts : Row)
      → Alike names ts ((maybe_method_list names n).run ts) ((maybe_method_list wide n).run ts)
  unfolding maybe_method_list
  same_maybe_method_list ts all =
      agrees_if _ _ _ _ _ (agrees_read all)
      (agrees_then _ _ _ _ (same_method_list ts all) (λ list m1 h1. agrees_read h1))

  pub same_plain_second : (ts : Row)
      → Alike names ts ((plain_second names n).run ts) ((plain_second wide n).run ts)
  unfolding plain_second
  same_plain_second ts all =
      agrees_then _ _ _ _ (agrees_accept _ ts all)
      (λ comma m1 h1. agrees_then _ _ _ _ (same_parameter names wide on n m1 h1)
      (λ p m2 h2. agrees_read h2))

  pub same_self_second : (ts : Row)
      → Alike names ts ((self_second names n).run ts) ((self_second wide n).run ts)
  unfolding self_second
  same_self_second ts all =
      agrees_then _ _ _ _ (agrees_accept _ ts all)
      (λ comma m1 h1. agrees_then _ _ _ _ (agrees_accept _ m1 h1) (λ s m2 h2. agrees_read h2))

  pub same_self_first : (name : FunctionName) (ts : Row)
      → Alike names ts ((self_first names n name).run ts) ((self_first wide n name).run ts)
  unfolding self_first
  same_self_first name ts all =
      agrees_then _ _ _ _ (agrees_accept _ ts all)
      (λ s m1 h1. agrees_then _ _ _ _
      (agrees_if _ _ _ _ _ (same_plain_second m1 h1) (same_no_second name m1 h1))
      (λ others m2 h2. agrees_read h2))

  pub same_plain_first : (ts : Row)
      → Alike names ts ((plain_first names n).run ts) ((plain_first wide n).run ts)
  unfolding plain_first
  same_plain_first ts all =
      agrees_then _ _ _ _ (same_parameter names wide on n ts all)
      (λ p m1 h1. agrees_then _ _ _ _ (same_self_second m1 h1) (λ others m2 h2. agrees_read h2))

  pub same_operator_list : (name : FunctionName) (ts : Row)
      → Alike names ts ((operator_list names n name).run ts) ((operator_list wide n name).run ts)
  unfolding operator_list
  same_operator_list name ts all =
      agrees_if _ _ _ _ _ (same_plain_first ts all) (same_self_first name ts all)

  pub same_with_body : (ts : Row)
      → Alike names ts ((with_body names n).run ts) ((with_body wide n).run ts)
  unfolding with_body
  same_with_body ts all =
      agrees_then _ _ _ _ (agrees_accept _ ts all)
      (λ equals m1 h1. agrees_then _ _ _ _ (same_expr_at names wide on n false m1 h1)
      (λ body m2 h2. agrees_read h2))

  pub same_method_body : (optional : Bool) (ts : Row)
      → Alike names ts ((method_body names n optional).run ts)
      ((method_body wide n optional).run ts)
  unfolding method_body
  same_method_body optional ts all = agrees_if _ _ _ _ _ (agrees_read all) (same_with_body ts all)

  pub same_method_rest : (optional : Bool) (name : FunctionName) (left : Spot)
      (parameters : Option MethodParameters) (right : Spot) (ts : Row)
      → Alike names ts ((method_rest names n optional name left parameters right).run ts)
      ((method_rest wide n optional name left parameters right).run ts)
  unfolding method_rest
  same_method_rest optional name left parameters right ts all =
      agrees_then _ _ _ _ (agrees_accept _ ts all)
      (λ colon m1 h1. agrees_then _ _ _ _ (same_type_tree names wide on n m1 h1)
      (λ result m2 h2. agrees_then _ _ _ _ (same_method_body optional m2 h2)
      (λ body m3 h3. agrees_read h3)))

  pub same_method_from : (optional : Bool) (name : FunctionName) (ts : Row)
      → Alike names ts ((method_from names n optional name).run ts)
      ((method_from wide n optional name).run ts)
  unfolding method_from
  same_method_from optional name ts all =
      agrees_then _ _ _ _ (agrees_accept _ ts all)
      (λ left m1 h1. agrees_then _ _ _ _ (same_maybe_method_list m1 h1)
      (λ parameters m2 h2. agrees_then _ _ _ _ (agrees_accept _ m2 h2)
      (λ right m3 h3. same_method_rest optional name left parameters right m3 h3)))

  pub same_operator_method_from : (optional : Bool) (name : FunctionName) (ts : Row)
      → Alike names ts ((operator_method_from names n optional name).run ts)
      ((operator_method_from wide n optional name).run ts)
  unfolding operator_method_from
  same_operator_method_from optional name ts all =
      agrees_then _ _ _ _ (agrees_accept _ ts all)
      (λ left m1 h1. agrees_then _ _ _ _ (same_operator_list name m1 h1)
      (λ parameters m2 h2. agrees_then _ _ _ _ (agrees_accept _ m2 h2)
      (λ right m3 h3. same_method_rest optional name left (Some parameters) right m3 h3)))
