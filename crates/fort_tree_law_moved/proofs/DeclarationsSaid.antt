-- The chapter "Grammar", trees apart from places: a moved declaration, and a moved component, says
-- what it says, moved.
use Rattle.std.proofs.Common.{◌≡◌, ℕ, ◌+◌, ◌&&◌, List, [], ◌∷◌, Option, Some, None, map, refl, ap, ◌∙◌}
use Rattle.std.specs.Prelude.{option_map}
use Rattle.std.proofs.lemmas.List.{length-map}
use Rattle.fort_base.specs.declared.refusal.Place.{Place}
use Rattle.fort_tree.specs.declared.declarations.Comprises.{Comprises}
use Rattle.fort_tree.specs.declared.declarations.Declaration.{Declaration}
use Rattle.fort_tree.specs.declared.declarations.Declared.{Declared}
use Rattle.fort_tree.specs.declared.declarations.Excludes.{Excludes}
use Rattle.fort_tree.specs.declared.declarations.Export.{Export}
use Rattle.fort_tree.specs.declared.declarations.Extends.{Extends}
use Rattle.fort_tree.specs.declared.declarations.Function.{Function}
use Rattle.fort_tree.specs.declared.declarations.FunctionName.{FunctionName}
use Rattle.fort_tree.specs.declared.declarations.Method.{Method}
use Rattle.fort_tree.specs.declared.declarations.MethodBody.{MethodBody}
use Rattle.fort_tree.specs.declared.declarations.MethodParameter.{MethodParameter}
use Rattle.fort_tree.specs.declared.declarations.MethodParameters.{MethodParameters}
use Rattle.fort_tree.specs.declared.declarations.Names.{Names}
use Rattle.fort_tree.specs.declared.declarations.NextMethodParameter.{NextMethodParameter}
use Rattle.fort_tree.specs.declared.declarations.NextObjectParameter.{NextObjectParameter}
use Rattle.fort_tree.specs.declared.declarations.Object.{Object}
use Rattle.fort_tree.specs.declared.declarations.ObjectEntry.{ObjectEntry}
use Rattle.fort_tree.specs.declared.declarations.ObjectMember.{ObjectMember}
use Rattle.fort_tree.specs.declared.declarations.ObjectParameter.{ObjectParameter}
use Rattle.fort_tree.specs.declared.declarations.ObjectParameterList.{ObjectParameterList}
use Rattle.fort_tree.specs.declared.declarations.ObjectParameters.{ObjectParameters}
use Rattle.fort_tree.specs.declared.declarations.Trait.{Trait}
use Rattle.fort_tree.specs.declared.declarations.TraitEntry.{TraitEntry}
use Rattle.fort_tree.specs.declared.declarations.TraitMember.{TraitMember}
use Rattle.fort_tree.specs.declared.declarations.Component.{Component}
use Rattle.fort_tree.specs.declared.declarations.Parameters.{Parameters}
use Rattle.fort_tree.specs.declared.expr.Expr.{Expr}
use Rattle.fort_tree.specs.declared.declarations.Declaration.TheVariants as declaration
use Rattle.fort_tree.specs.declared.declarations.FunctionName.TheVariants as function_name
use Rattle.fort_tree.specs.declared.declarations.MethodParameter.TheVariants as method_parameter
use Rattle.fort_tree.specs.declared.declarations.Names.TheVariants as names_of
use Rattle.fort_tree.specs.declared.declarations.ObjectMember.TheVariants as object_member
use Rattle.fort_tree.specs.declared.declarations.TraitMember.TheVariants as trait_member
use Rattle.fort_tree.specs.Tokens.{Spellings}
use Rattle.fort_tree.specs.Said.{Allowed, Said, elsewhere, tokens_of, all_tokens, all_obey, maybe_tokens, maybe_obeys, entries_tokens, entries_obey}
use Rattle.fort_tree.specs.Types.{parameter_count}
use Rattle.fort_tree.specs.Yield.{said_expr}
use Rattle.fort_tree.specs.Declarations.{name_first, name_more, name_fits, said_function, said_method_parameter, said_next_method_parameter, said_method_parameters, self_count, next_self_count, selves, method_parameter_count, body_tokens, body_obeys, selves_fit, said_method, names_tokens, extends_tokens, excludes_tokens, comprises_tokens, said_trait_member, said_trait_entry, said_trait, said_object_parameter, said_next_object_parameter, said_object_parameter_list, said_object_parameters, said_object_member, said_object_entry, said_object, said_declaration, said_declared}
use Rattle.fort_tree.specs.Component.{yield, obeys, export_tokens, export_obeys}
use Rattle.fort_tree_law_moved.specs.Spots.{moved_token, moved_spot}
use Rattle.fort_tree_law_moved.specs.TypesMoved.{moved_parameters, moved_next_parameter}
use Rattle.fort_tree_law_moved.specs.TreesMoved.{moved_expr}
use Rattle.fort_tree_law_moved.specs.DeclarationsMoved.{moved_export, moved_function_name, moved_names, moved_function, moved_method_parameter, moved_next_method_parameter, moved_method_parameters, moved_method_body, moved_method, moved_extends, moved_excludes, moved_comprises, moved_trait_member, moved_trait_entry, moved_trait, moved_object_parameter, moved_next_object_parameter, moved_object_parameter_list, moved_object_parameters, moved_object_member, moved_object_entry, moved_object, moved_declaration, moved_declared, moved_component}
use Rattle.fort_tree_law_moved.proofs.Parts.{lists_move, options_move}
use Rattle.fort_tree_law_moved.proofs.SaidMoved.{same_said, under, moved_said, moved_entry, piece, behind_by, all_move, maybe_move, entries_move, names_move, var_move, all_hold, maybe_hold, entries_hold, there_hold}
use Rattle.fort_tree_law_moved.proofs.TypesSaid.{type_tokens, typed, type_holds, parameter_moves, parameters_tokens, parameters_hold}
use Rattle.fort_tree_law_moved.proofs.TreesSaid.{said_expr_moves, said_variable_moves}

module _ (g : Place → Place) where
  -- the tokens of an expression
  expr_tokens : (e : Expr)
      → tokens_of (said_expr (moved_expr g e)) ≡ map (moved_token g) (tokens_of (said_expr e))
  expr_tokens e = ap tokens_of (said_expr_moves g e)

  -- the rules in an expression
  expr_holds : (e : Expr) (names : Spellings) (allowed : Allowed)
      → (said_expr (moved_expr g e)).obeys names allowed ≡ (said_expr e).obeys names allowed
  expr_holds e names allowed = ap (λ (x : Said). x.obeys names allowed) (said_expr_moves g e)

  -- ---- names of functions and methods

  -- the first token of a declaration's name
  pub name_first_move : (n : FunctionName)
      → name_first (moved_function_name g n) ≡ moved_token g (name_first n)
  name_first_move (function_name.Name name) = refl
  name_first_move (function_name.Operator opr sign) = refl
  name_first_move (function_name.Juxtaposition opr name) = refl

  -- what follows `opr`
  name_more_move : (n : FunctionName)
      → name_more (moved_function_name g n) ≡ map (moved_token g) (name_more n)
  name_more_move (function_name.Name name) = refl
  name_more_move (function_name.Operator opr sign) = refl
  name_more_move (function_name.Juxtaposition opr name) = refl

  -- An operator fits as many parameters as before.
  fits_same : (names : Spellings) (n : FunctionName) (k : ℕ)
      → name_fits names (moved_function_name g n) k ≡ name_fits names n k
  fits_same names (function_name.Name name) k = refl
  fits_same names (function_name.Operator opr sign) k = refl
  fits_same names (function_name.Juxtaposition opr name) k = refl

  -- the same, by counts that are the same
  name_holds : (names : Spellings) (n : FunctionName) {j k : ℕ} → j ≡ k
      → name_fits names (moved_function_name g n) j ≡ name_fits names n k
  name_holds names n {k = k} e =
      ap (name_fits names (moved_function_name g n)) e ∙ fits_same names n k

  -- as many `self` as before fit
  selves_same : (n : FunctionName) (k : ℕ) → selves_fit (moved_function_name g n) k ≡ selves_fit n k
  selves_same (function_name.Name name) k = refl
  selves_same (function_name.Operator opr sign) k = refl
  selves_same (function_name.Juxtaposition opr name) k = refl

  -- the same, by counts that are the same
  selves_hold : (n : FunctionName) {j k : ℕ} → j ≡ k
      → selves_fit (moved_function_name g n) j ≡ selves_fit n k
  selves_hold n {k = k} e = ap (selves_fit (moved_function_name g n)) e ∙ selves_same n k

  -- ---- functions

  -- as many parameters as before
  counted : (o : Option Parameters)
      → parameter_count (option_map (moved_parameters g) o) ≡ parameter_count o
  counted None = refl
  counted (Some list) = λ i. 1 + length-map list.others (moved_next_parameter g) i

  -- a function
  function_moves : (f : Function)
      → said_function (moved_function g f) ≡ moved_said g (said_function f)
  function_moves f = same_said (name_first_move f.name)
      (piece g _ _ (name_more_move f.name)
      (under (piece g _ _ (parameters_tokens g f.parameters)
      (under (under (typed g f.result _ (under (expr_tokens f.body))))))))
      (λ names allowed i. name_holds names f.name (counted f.parameters) i
      && (parameters_hold g names f.parameters i
      && (type_holds g f.result names elsewhere i && expr_holds f.body names elsewhere i)))

  -- ---- methods

  -- a parameter of a method
  method_parameter_moves : (p : MethodParameter)
      → said_method_parameter (moved_method_parameter g p) ≡ moved_said g (said_method_parameter p)
  method_parameter_moves (method_parameter.Parameter parameter) = parameter_moves g parameter
  method_parameter_moves (method_parameter.Self_ s) = refl

  -- a further parameter of a method
  next_method_parameter_moves : (p : NextMethodParameter)
      → said_next_method_parameter (moved_next_method_parameter g p)
      ≡ moved_said g (said_next_method_parameter p)
  next_method_parameter_moves p = same_said refl (ap tokens_of (method_parameter_moves p.parameter))
      (λ names allowed. ap (λ
      (x : Said). x.obeys names allowed) (method_parameter_moves p.parameter))

  -- further parameters of a method
  next_method_parameters_move : (ps : List NextMethodParameter)
      → map said_next_method_parameter (map (moved_next_method_parameter g) ps)
      ≡ map (moved_said g) (map said_next_method_parameter ps)
  next_method_parameters_move =
      lists_move said_next_method_parameter (moved_next_method_parameter g) (moved_said g)
      next_method_parameter_moves

  -- a list of parameters of a method
  method_parameters_move : (list : MethodParameters)
      → said_method_parameters (moved_method_parameters g list)
      ≡ moved_said g (said_method_parameters list)
  method_parameters_move list =
      same_said (ap (λ (x : Said). x.first) (method_parameter_moves list.first))
      (behind_by g (said_method_parameter (moved_method_parameter g list.first))
      (said_method_parameter list.first) (method_parameter_moves list.first) _
      (ap all_tokens (next_method_parameters_move list.others)
      ∙ all_move g (map said_next_method_parameter list.others)))
      (λ names allowed i. (method_parameter_moves list.first i).obeys names allowed
      && (ap (all_obey names allowed) (next_method_parameters_move list.others)
      ∙ all_hold g names allowed (map said_next_method_parameter list.others)) i)

  -- the same where they may be left out
  maybe_method_parameters_move : (o : Option MethodParameters)
      → option_map said_method_parameters (option_map (moved_method_parameters g) o)
      ≡ option_map (moved_said g) (option_map said_method_parameters o)
  maybe_method_parameters_move =
      options_move said_method_parameters (moved_method_parameters g) (moved_said g)
      method_parameters_move

  -- A moved parameter is `self` where the parameter is.
  self_same : (p : MethodParameter) → self_count (moved_method_parameter g p) ≡ self_count p
  self_same (method_parameter.Parameter parameter) = refl
  self_same (method_parameter.Self_ s) = refl

  -- as many `self` among further parameters
  next_selves_same : (ps : List NextMethodParameter)
      → next_self_count (map (moved_next_method_parameter g) ps) ≡ next_self_count ps
  next_selves_same [] = refl
  next_selves_same (p ∷ ps) = λ i. self_same p.parameter i + next_selves_same ps i

  -- as many `self` in a list of parameters
  selves_counted : (o : Option MethodParameters)
      → selves (option_map (moved_method_parameters g) o) ≡ selves o
  selves_counted None = refl
  selves_counted (Some list) = λ i. self_same list.first i + next_selves_same list.others i

  -- as many parameters of a method as before
  pub method_counted : (o : Option MethodParameters)
      → method_parameter_count (option_map (moved_method_parameters g) o) ≡ method_parameter_count o
  method_counted None = refl
  method_counted (Some list) = λ i. 1 + length-map list.others (moved_next_method_parameter g) i

  -- the tokens of a method's body
  body_move : (o : Option MethodBody)
      → body_tokens (option_map (moved_method_body g) o) ≡ map (moved_token g) (body_tokens o)
  body_move None = refl
  body_move (Some b) = under (expr_tokens b.body)

  -- the rules in a method's body
  body_holds : (names : Spellings) (o : Option MethodBody)
      → body_obeys names (option_map (moved_method_body g) o) ≡ body_obeys names o
  body_holds names None = refl
  body_holds names (Some b) = expr_holds b.body names elsewhere

  -- a method
  method_moves : (m : Method) → said_method (moved_method g m) ≡ moved_said g (said_method m)
  method_moves m = same_said (name_first_move m.name)
      (piece g _ _ (name_more_move m.name)
      (under (piece g _ _ (ap maybe_tokens (maybe_method_parameters_move m.parameters)
      ∙ maybe_move g (option_map said_method_parameters m.parameters))
      (under (under (typed g m.result _ (body_move m.body)))))))
      (λ names allowed i. name_holds names m.name (method_counted m.parameters) i
      && (selves_hold m.name (selves_counted m.parameters) i
      && ((ap (maybe_obeys names elsewhere) (maybe_method_parameters_move m.parameters)
      ∙ maybe_hold g names elsewhere (option_map said_method_parameters m.parameters)) i
      && (type_holds g m.result names elsewhere i && body_holds names m.body i))))

  -- ---- names

  -- one name, or names in braces
  names_tokens_move : (n : Names)
      → names_tokens (moved_names g n) ≡ map (moved_token g) (names_tokens n)
  names_tokens_move (names_of.One name) = refl
  names_tokens_move (names_of.Braces left first others right) =
      under (under (piece g _ _ (names_move g others) refl))

  -- an `extends`
  extends_move : (o : Option Extends)
      → extends_tokens (option_map (moved_extends g) o) ≡ map (moved_token g) (extends_tokens o)
  extends_move None = refl
  extends_move (Some e) = under (names_tokens_move e.names)

  -- an `excludes`
  excludes_move : (o : Option Excludes)
      → excludes_tokens (option_map (moved_excludes g) o) ≡ map (moved_token g) (excludes_tokens o)
  excludes_move None = refl
  excludes_move (Some e) = under (names_tokens_move e.names)

  -- a `comprises`
  comprises_move : (o : Option Comprises)
      → comprises_tokens (option_map (moved_comprises g) o)
      ≡ map (moved_token g) (comprises_tokens o)
  comprises_move None = refl
  comprises_move (Some c) = under (names_tokens_move c.names)

  -- ---- traits

  -- a member of a trait
  trait_member_moves : (m : TraitMember)
      → said_trait_member (moved_trait_member g m) ≡ moved_said g (said_trait_member m)
  trait_member_moves (trait_member.Field name colon ty) =
      same_said refl (under (type_tokens g ty)) (λ names allowed. type_holds g ty names elsewhere)
  trait_member_moves (trait_member.Method method) = method_moves method

  -- the same with its `;`
  trait_entry_moves : (e : TraitEntry)
      → said_trait_entry (moved_trait_entry g e) ≡ moved_entry g (said_trait_entry e)
  trait_entry_moves e =
      λ i. record {
        item = trait_member_moves e.member i;
        semicolon = option_map (moved_spot g) e.semicolon;
      }

  -- the members of a trait
  trait_entries_move : (es : List TraitEntry)
      → map said_trait_entry (map (moved_trait_entry g) es)
      ≡ map (moved_entry g) (map said_trait_entry es)
  trait_entries_move =
      lists_move said_trait_entry (moved_trait_entry g) (moved_entry g) trait_entry_moves

  -- a trait
  trait_moves : (t : Trait) → said_trait (moved_trait g t) ≡ moved_said g (said_trait t)
  trait_moves t = same_said refl
      (under (piece g _ _ (extends_move t.extends)
      (piece g _ _ (excludes_move t.excludes) (piece g _ _ (comprises_move t.comprises)
      (piece g _ _ (ap entries_tokens (trait_entries_move t.members)
      ∙ entries_move g (map said_trait_entry t.members)) refl)))))
      (λ names allowed. ap (entries_obey names) (trait_entries_move t.members)
      ∙ entries_hold g names (map said_trait_entry t.members))

  -- ---- objects

  -- a parameter of an object
  object_parameter_moves : (p : ObjectParameter)
      → said_object_parameter (moved_object_parameter g p) ≡ moved_said g (said_object_parameter p)
  object_parameter_moves p =
      var_move g p.var _ _
      (same_said refl (under (type_tokens g p.ty))
      (λ names allowed. type_holds g p.ty names elsewhere))

  -- a further parameter of an object
  next_object_parameter_moves : (p : NextObjectParameter)
      → said_next_object_parameter (moved_next_object_parameter g p)
      ≡ moved_said g (said_next_object_parameter p)
  next_object_parameter_moves p = same_said refl (ap tokens_of (object_parameter_moves p.parameter))
      (λ names allowed. ap (λ
      (x : Said). x.obeys names allowed) (object_parameter_moves p.parameter))

  -- further parameters of an object
  next_object_parameters_move : (ps : List NextObjectParameter)
      → map said_next_object_parameter (map (moved_next_object_parameter g) ps)
      ≡ map (moved_said g) (map said_next_object_parameter ps)
  next_object_parameters_move =
      lists_move said_next_object_parameter (moved_next_object_parameter g) (moved_said g)
      next_object_parameter_moves

  -- a list of parameters of an object
  object_parameter_list_moves : (list : ObjectParameterList)
      → said_object_parameter_list (moved_object_parameter_list g list)
      ≡ moved_said g (said_object_parameter_list list)
  object_parameter_list_moves list =
      same_said (ap (λ (x : Said). x.first) (object_parameter_moves list.first))
      (behind_by g (said_object_parameter (moved_object_parameter g list.first))
      (said_object_parameter list.first) (object_parameter_moves list.first) _
      (ap all_tokens (next_object_parameters_move list.others)
      ∙ all_move g (map said_next_object_parameter list.others)))
      (λ names allowed i. (object_parameter_moves list.first i).obeys names allowed
      && (ap (all_obey names allowed) (next_object_parameters_move list.others)
      ∙ all_hold g names allowed (map said_next_object_parameter list.others)) i)

  -- the same where it may be left out
  object_parameter_lists_move : (o : Option ObjectParameterList)
      → option_map said_object_parameter_list (option_map (moved_object_parameter_list g) o)
      ≡ option_map (moved_said g) (option_map said_object_parameter_list o)
  object_parameter_lists_move =
      options_move said_object_parameter_list (moved_object_parameter_list g) (moved_said g)
      object_parameter_list_moves

  -- an object's parameters and their parentheses
  object_parameters_move : (p : ObjectParameters)
      → said_object_parameters (moved_object_parameters g p)
      ≡ moved_said g (said_object_parameters p)
  object_parameters_move p = same_said refl
      (piece g _ _ (ap maybe_tokens (object_parameter_lists_move p.parameters)
      ∙ maybe_move g (option_map said_object_parameter_list p.parameters)) refl)
      (λ names allowed. ap (maybe_obeys names allowed) (object_parameter_lists_move p.parameters)
      ∙ maybe_hold g names allowed (option_map said_object_parameter_list p.parameters))

  -- the same where they may be left out
  maybe_object_parameters_move : (o : Option ObjectParameters)
      → option_map said_object_parameters (option_map (moved_object_parameters g) o)
      ≡ option_map (moved_said g) (option_map said_object_parameters o)
  maybe_object_parameters_move =
      options_move said_object_parameters (moved_object_parameters g) (moved_said g)
      object_parameters_move

  -- a member of an object
  object_member_moves : (m : ObjectMember)
      → said_object_member (moved_object_member g m) ≡ moved_said g (said_object_member m)
  object_member_moves (object_member.Variable variable) = said_variable_moves g variable
  object_member_moves (object_member.Method method) =
      same_said (ap (λ (x : Said). x.first) (method_moves method)) (ap (λ
      (x : Said). x.more) (method_moves method))
      (λ names allowed i. there_hold g (moved_method_body g) method.body i
      && (method_moves method i).obeys names allowed)

  -- the same with its `;`
  object_entry_moves : (e : ObjectEntry)
      → said_object_entry (moved_object_entry g e) ≡ moved_entry g (said_object_entry e)
  object_entry_moves e =
      λ i. record {
        item = object_member_moves e.member i;
        semicolon = option_map (moved_spot g) e.semicolon;
      }

  -- the members of an object
  object_entries_move : (es : List ObjectEntry)
      → map said_object_entry (map (moved_object_entry g) es)
      ≡ map (moved_entry g) (map said_object_entry es)
  object_entries_move =
      lists_move said_object_entry (moved_object_entry g) (moved_entry g) object_entry_moves

  -- an object
  object_moves : (o : Object) → said_object (moved_object g o) ≡ moved_said g (said_object o)
  object_moves o = same_said refl
      (under (piece g _ _ (ap maybe_tokens (maybe_object_parameters_move o.parameters)
      ∙ maybe_move g (option_map said_object_parameters o.parameters))
      (piece g _ _ (extends_move o.extends)
      (piece g _ _ (ap entries_tokens (object_entries_move o.members)
      ∙ entries_move g (map said_object_entry o.members)) refl))))
      (λ names allowed i. (ap (maybe_obeys names elsewhere)
      (maybe_object_parameters_move o.parameters)
      ∙ maybe_hold g names elsewhere (option_map said_object_parameters o.parameters)) i
      && (ap (entries_obey names) (object_entries_move o.members)
      ∙ entries_hold g names (map said_object_entry o.members)) i)

  -- ---- declarations and components

  -- a declaration
  declaration_moves : (d : Declaration)
      → said_declaration (moved_declaration g d) ≡ moved_said g (said_declaration d)
  declaration_moves (declaration.Variable variable) = said_variable_moves g variable
  declaration_moves (declaration.Function function) = function_moves function
  declaration_moves (declaration.Trait tr) = trait_moves tr
  declaration_moves (declaration.Object object) = object_moves object

  -- the same with its `;`
  declared_moves : (d : Declared)
      → said_declared (moved_declared g d) ≡ moved_entry g (said_declared d)
  declared_moves d =
      λ i. record {
        item = declaration_moves d.declaration i;
        semicolon = option_map (moved_spot g) d.semicolon;
      }

  -- several declarations
  declarations_move : (ds : List Declared)
      → map said_declared (map (moved_declared g) ds) ≡ map (moved_entry g) (map said_declared ds)
  declarations_move = lists_move said_declared (moved_declared g) (moved_entry g) declared_moves

  -- the tokens of an `export`
  export_move : (o : Option Export)
      → export_tokens (option_map (moved_export g) o) ≡ map (moved_token g) (export_tokens o)
  export_move None = refl
  export_move (Some e) = refl

  -- The name after `export` is what it was.
  export_holds : (names : Spellings) (o : Option Export)
      → export_obeys names (option_map (moved_export g) o) ≡ export_obeys names o
  export_holds names None = refl
  export_holds names (Some e) = refl

  -- A moved component yields the tokens of the component, moved.
  pub yield_moves : (c : Component) → yield (moved_component g c) ≡ map (moved_token g) (yield c)
  yield_moves c =
      under (under
      (piece g _ _ (export_move c.export)
      (piece g _ _ (ap entries_tokens (declarations_move c.declarations)
      ∙ entries_move g (map said_declared c.declarations)) refl)))

  -- A moved component obeys the rules on gaps and names where the component does.
  pub obeys_moves : (c : Component) → obeys (moved_component g c) ≡ obeys c
  obeys_moves c =
      λ i. export_holds c.names c.export i
      && (ap (entries_obey c.names) (declarations_move c.declarations)
      ∙ entries_hold g c.names (map said_declared c.declarations)) i
