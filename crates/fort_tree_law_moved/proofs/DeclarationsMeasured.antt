-- The chapter "Grammar", trees apart from places: a moved declaration measures what it measures,
-- moved; what is too much in a component stands where its places are moved to.
use Rattle.std.proofs.Common.{◌≡◌, ℕ, List, [], ◌∷◌, ◌++◌, Option, Some, None, map, length, refl, ap, ◌∙◌, take, drop}
use Rattle.std.specs.Prelude.{option_map}
use Rattle.std.proofs.lemmas.List.{length-map, take-map, drop-map}
use Rattle.fort_base.specs.declared.refusal.Place.{Place}
use Rattle.fort_tree.specs.declared.spot.Spot.{Spot}
use Rattle.fort_tree.specs.declared.declarations.Comprises.{Comprises}
use Rattle.fort_tree.specs.declared.declarations.Declaration.{Declaration}
use Rattle.fort_tree.specs.declared.declarations.Declared.{Declared}
use Rattle.fort_tree.specs.declared.declarations.Excludes.{Excludes}
use Rattle.fort_tree.specs.declared.declarations.Extends.{Extends}
use Rattle.fort_tree.specs.declared.declarations.Function.{Function}
use Rattle.fort_tree.specs.declared.declarations.FunctionName.{FunctionName}
use Rattle.fort_tree.specs.declared.declarations.Method.{Method}
use Rattle.fort_tree.specs.declared.declarations.MethodBody.{MethodBody}
use Rattle.fort_tree.specs.declared.declarations.MethodParameter.{MethodParameter}
use Rattle.fort_tree.specs.declared.declarations.MethodParameters.{MethodParameters}
use Rattle.fort_tree.specs.declared.declarations.Names.{Names}
use Rattle.fort_tree.specs.declared.declarations.NextMethodParameter.{NextMethodParameter}
use Rattle.fort_tree.specs.declared.declarations.NextObjectParameter.{NextObjectParameter}
use Rattle.fort_tree.specs.declared.declarations.Object.{Object}
use Rattle.fort_tree.specs.declared.declarations.ObjectEntry.{ObjectEntry}
use Rattle.fort_tree.specs.declared.declarations.ObjectMember.{ObjectMember}
use Rattle.fort_tree.specs.declared.declarations.ObjectParameterList.{ObjectParameterList}
use Rattle.fort_tree.specs.declared.declarations.ObjectParameters.{ObjectParameters}
use Rattle.fort_tree.specs.declared.declarations.Trait.{Trait}
use Rattle.fort_tree.specs.declared.declarations.TraitEntry.{TraitEntry}
use Rattle.fort_tree.specs.declared.declarations.TraitMember.{TraitMember}
use Rattle.fort_tree.specs.declared.declarations.Component.{Component}
use Rattle.fort_tree.specs.declared.declarations.Declaration.TheVariants as declaration
use Rattle.fort_tree.specs.declared.declarations.MethodParameter.TheVariants as method_parameter
use Rattle.fort_tree.specs.declared.declarations.Names.TheVariants as names_of
use Rattle.fort_tree.specs.declared.declarations.ObjectMember.TheVariants as object_member
use Rattle.fort_tree.specs.declared.declarations.TraitMember.TheVariants as trait_member
use Rattle.fort_tree.specs.Declarations.{name_first, method_parameter_count}
use Rattle.fort_tree.specs.Measured.{Measured, all_crowded, over, most_parameters, most_names, most_declarations, most_types}
use Rattle.fort_tree.specs.Measures.{spot_of, measured_type, measured_parameters}
use Rattle.fort_tree.specs.Types.{parameter_count}
use Rattle.fort_tree.specs.Measuring.{measured_expr}
use Rattle.fort_tree.specs.Limits.{measured_function, measured_method_parameter, measured_method_parameters, measured_body, measured_method, name_count, extends_count, excludes_count, comprises_count, measured_trait_member, trait_members, measured_trait, measured_object_member, object_members, measured_object_parameter_list, measured_object_parameters, measured_object, measured_declaration, members_of, declaration_places, type_places, first_behind, measured_declarations, crowded}
use Rattle.fort_tree_law_moved.specs.Spots.{moved_spot, moved_next_name}
use Rattle.fort_tree_law_moved.specs.DeclarationsMoved.{moved_function_name, moved_names, moved_function, moved_method_parameter, moved_next_method_parameter, moved_method_parameters, moved_method_body, moved_method, moved_extends, moved_excludes, moved_comprises, moved_trait_member, moved_trait_entry, moved_trait, moved_next_object_parameter, moved_object_parameter_list, moved_object_parameters, moved_object_member, moved_object_entry, moved_object, moved_declaration, moved_declared, moved_component}
use Rattle.fort_tree_law_moved.proofs.Parts.{lists_move, joined_move}
use Rattle.fort_tree_law_moved.proofs.MeasuredMoved.{moved_measured, crowded_move, together, gathered, one_more, over_moves, made_moves}
use Rattle.fort_tree_law_moved.proofs.TypesMeasured.{measured_type_moves, parameters_counted, measured_parameters_move}
use Rattle.fort_tree_law_moved.proofs.TreesMeasured.{measured_expr_moves, measured_variable_moves}
use Rattle.fort_tree_law_moved.proofs.DeclarationsSaid.{name_first_move, method_counted}

module _ (g : Place → Place) where
  -- where a name begins
  name_spot_moves : (n : FunctionName)
      → spot_of (name_first (moved_function_name g n)) ≡ moved_spot g (spot_of (name_first n))
  name_spot_moves n = ap spot_of (name_first_move g n)

  -- the place of a moved spot
  place_of : (s : Spot) {t : Spot} → t ≡ moved_spot g s → t.place ≡ g s.place
  place_of s e = ap (λ (s : Spot). s.place) e

  -- ---- functions and methods

  -- a function
  function_moves : (f : Function)
      → measured_function (moved_function g f) ≡ moved_measured g (measured_function f)
  function_moves f = let at = spot_of (name_first f.name) in
      made_moves g at (over most_parameters (parameter_count f.parameters) at.place)
      (measured_parameters f.parameters ++ measured_type f.result ∷ measured_expr f.body ∷ [])
      (name_spot_moves f.name)
      (over_moves g most_parameters at.place (parameters_counted g f.parameters)
      (place_of at (name_spot_moves f.name)))
      (together g _ _ (measured_parameters_move g f.parameters)
      (λ i. measured_type_moves g f.result i ∷ measured_expr_moves g f.body i ∷ []))

  -- a parameter of a method
  method_parameter_moves : (p : MethodParameter)
      → measured_method_parameter (moved_method_parameter g p)
      ≡ map (moved_measured g) (measured_method_parameter p)
  method_parameter_moves (method_parameter.Parameter p) = λ i. measured_type_moves g p.ty i ∷ []
  method_parameter_moves (method_parameter.Self_ s) = refl

  -- the parameters of a method
  method_parameters_move : (o : Option MethodParameters)
      → measured_method_parameters (option_map (moved_method_parameters g) o)
      ≡ map (moved_measured g) (measured_method_parameters o)
  method_parameters_move None = refl
  method_parameters_move (Some list) = together g _ _ (method_parameter_moves list.first)
      (joined_move (λ
      (n : NextMethodParameter). measured_method_parameter n.parameter)
      (moved_next_method_parameter g) (moved_measured g)
      (λ n. method_parameter_moves n.parameter) list.others)

  -- a method's body
  body_moves : (o : Option MethodBody)
      → measured_body (option_map (moved_method_body g) o)
      ≡ map (moved_measured g) (measured_body o)
  body_moves None = refl
  body_moves (Some b) = λ i. measured_expr_moves g b.body i ∷ []

  -- a method
  method_moves : (m : Method)
      → measured_method (moved_method g m) ≡ moved_measured g (measured_method m)
  method_moves m = let at = spot_of (name_first m.name) in
      made_moves g at (over most_parameters (method_parameter_count m.parameters) at.place)
      (measured_method_parameters m.parameters ++ measured_type m.result ∷ measured_body m.body)
      (name_spot_moves m.name)
      (over_moves g most_parameters at.place (method_counted g m.parameters)
      (place_of at (name_spot_moves m.name)))
      (together g _ _ (method_parameters_move m.parameters)
      (λ i. measured_type_moves g m.result i ∷ body_moves m.body i))

  -- ---- counts of names

  -- as many names as before
  names_counted : (n : Names) → name_count (moved_names g n) ≡ name_count n
  names_counted (names_of.One name) = refl
  names_counted (names_of.Braces left first others right) = one_more g (moved_next_name g) others

  -- as many names of an `extends`
  extends_counted : (o : Option Extends)
      → extends_count (option_map (moved_extends g) o) ≡ extends_count o
  extends_counted None = refl
  extends_counted (Some e) = names_counted e.names

  -- as many names of an `excludes`
  excludes_counted : (o : Option Excludes)
      → excludes_count (option_map (moved_excludes g) o) ≡ excludes_count o
  excludes_counted None = refl
  excludes_counted (Some e) = names_counted e.names

  -- as many names of a `comprises`
  comprises_counted : (o : Option Comprises)
      → comprises_count (option_map (moved_comprises g) o) ≡ comprises_count o
  comprises_counted None = refl
  comprises_counted (Some c) = names_counted c.names

  -- ---- traits and objects

  -- a member of a trait
  trait_member_moves : (m : TraitMember)
      → measured_trait_member (moved_trait_member g m) ≡ moved_measured g (measured_trait_member m)
  trait_member_moves (trait_member.Field name colon ty) =
      made_moves g name.spot [] (measured_type ty ∷ []) refl refl
      (λ i. measured_type_moves g ty i ∷ [])
  trait_member_moves (trait_member.Method method) = method_moves method

  -- the members of a trait
  trait_members_move : (t : Trait)
      → trait_members (moved_trait g t) ≡ map (moved_measured g) (trait_members t)
  trait_members_move t =
      lists_move (λ
      (e : TraitEntry). measured_trait_member e.member) (moved_trait_entry g) (moved_measured g)
      (λ e. trait_member_moves e.member) t.members

  -- a trait
  trait_moves : (t : Trait) → measured_trait (moved_trait g t) ≡ moved_measured g (measured_trait t)
  trait_moves t = made_moves g t.trait_
      (over most_names (extends_count t.extends) t.trait_.place
      ++ (over most_names (excludes_count t.excludes) t.trait_.place
      ++ over most_names (comprises_count t.comprises) t.trait_.place)) (trait_members t)
      refl
      (gathered g _ _ (over_moves g most_names t.trait_.place (extends_counted t.extends) refl)
      (gathered g _ _ (over_moves g most_names t.trait_.place (excludes_counted t.excludes) refl)
      (over_moves g most_names t.trait_.place (comprises_counted t.comprises) refl)))
      (trait_members_move t)

  -- a member of an object
  object_member_moves : (m : ObjectMember)
      → measured_object_member (moved_object_member g m)
      ≡ moved_measured g (measured_object_member m)
  object_member_moves (object_member.Variable variable) = measured_variable_moves g variable
  object_member_moves (object_member.Method method) = method_moves method

  -- the members of an object
  object_members_move : (o : Object)
      → object_members (moved_object g o) ≡ map (moved_measured g) (object_members o)
  object_members_move o =
      lists_move (λ
      (e : ObjectEntry). measured_object_member e.member) (moved_object_entry g)
      (moved_measured g) (λ e. object_member_moves e.member) o.members

  -- a list of parameters of an object
  object_list_moves : (o : Option ObjectParameterList)
      → measured_object_parameter_list (option_map (moved_object_parameter_list g) o)
      ≡ map (moved_measured g) (measured_object_parameter_list o)
  object_list_moves None = refl
  object_list_moves (Some list) = λ i. measured_type_moves g list.first.ty i
      ∷ lists_move (λ
      (n : NextObjectParameter). measured_type n.parameter.ty) (moved_next_object_parameter g)
      (moved_measured g) (λ n. measured_type_moves g n.parameter.ty) list.others i

  -- the parameters of an object
  object_parameters_move : (o : Option ObjectParameters)
      → measured_object_parameters (option_map (moved_object_parameters g) o)
      ≡ map (moved_measured g) (measured_object_parameters o)
  object_parameters_move None = refl
  object_parameters_move (Some p) = object_list_moves p.parameters

  -- an object
  object_moves : (o : Object)
      → measured_object (moved_object g o) ≡ moved_measured g (measured_object o)
  object_moves o = made_moves g o.object
      (over most_parameters (length (measured_object_parameters o.parameters)) o.object.place
      ++ over most_names (extends_count o.extends) o.object.place)
      (measured_object_parameters o.parameters ++ object_members o) refl
      (gathered g _ _
      (over_moves g most_parameters o.object.place
      (ap length (object_parameters_move o.parameters)
      ∙ length-map (measured_object_parameters o.parameters) (moved_measured g)) refl)
      (over_moves g most_names o.object.place (extends_counted o.extends) refl))
      (together g _ _ (object_parameters_move o.parameters) (object_members_move o))

  -- ---- declarations

  -- a declaration
  declaration_moves : (d : Declaration)
      → measured_declaration (moved_declaration g d) ≡ moved_measured g (measured_declaration d)
  declaration_moves (declaration.Variable variable) = measured_variable_moves g variable
  declaration_moves (declaration.Function function) = function_moves function
  declaration_moves (declaration.Trait tr) = trait_moves tr
  declaration_moves (declaration.Object object) = object_moves object

  -- the members of a declaration
  members_move : (d : Declaration)
      → members_of (moved_declaration g d) ≡ map (moved_measured g) (members_of d)
  members_move (declaration.Variable variable) = refl
  members_move (declaration.Function function) = refl
  members_move (declaration.Trait tr) = trait_members_move tr
  members_move (declaration.Object object) = object_members_move object

  -- where a tree begins
  abbrev place : Measured → Place
  place m = m.spot.place

  -- the places of a declaration and of its members
  places_move : (d : Declared)
      → declaration_places (moved_declared g d) ≡ map g (declaration_places d)
  places_move d = λ i. place (declaration_moves d.declaration i)
      ∷ (ap (map place) (members_move d.declaration)
      ∙ lists_move place (moved_measured g) g (λ m. refl) (members_of d.declaration)) i

  -- the place of a declaration of a type
  type_places_move : (d : Declared)
      → type_places (moved_declaration g d.declaration) ≡ map g (type_places d.declaration)
  type_places_move d = at d.declaration
    where
      at : (x : Declaration) → type_places (moved_declaration g x) ≡ map g (type_places x)
      at (declaration.Variable variable) = refl
      at (declaration.Function function) = refl
      at (declaration.Trait tr) = refl
      at (declaration.Object object) = refl

  -- the first place behind so many
  first_move : (most : ℕ) (ps : List Place) {qs : List Place} → qs ≡ map g ps
      → first_behind most qs ≡ map g (first_behind most ps)
  first_move most ps e =
      ap (first_behind most) e ∙ ap (take 1) (drop-map g most ps) ∙ take-map g 1 (drop most ps)

  -- the declarations of a component
  declarations_move : (c : Component)
      → measured_declarations (moved_component g c)
      ≡ map (moved_measured g) (measured_declarations c)
  declarations_move c =
      lists_move (λ
      (d : Declared). measured_declaration d.declaration) (moved_declared g) (moved_measured g)
      (λ d. declaration_moves d.declaration) c.declarations

  -- What passes a limit in a moved component stands where the map takes it.
  pub crowded_moves : (c : Component) → crowded (moved_component g c) ≡ map g (crowded c)
  crowded_moves c =
      gathered g _ _
      (first_move most_declarations _
      (joined_move declaration_places (moved_declared g) g places_move c.declarations))
      (gathered g _ _
      (first_move most_types _ (joined_move (λ
      (d : Declared). type_places d.declaration) (moved_declared g) g type_places_move
      c.declarations))
      (ap all_crowded (declarations_move c) ∙ crowded_move g (measured_declarations c)))
