-- The chapter "Grammar", trees apart from places: declarations and components with their places
-- moved.
use Rattle.std.specs.Prelude.{map, option_map}
use Rattle.fort_base.specs.declared.refusal.Place.{Place}
use Rattle.fort_tree.specs.declared.declarations.Component.{Component}
use Rattle.fort_tree.specs.declared.declarations.Comprises.{Comprises}
use Rattle.fort_tree.specs.declared.declarations.Declaration.{Declaration}
use Rattle.fort_tree.specs.declared.declarations.Declared.{Declared}
use Rattle.fort_tree.specs.declared.declarations.Excludes.{Excludes}
use Rattle.fort_tree.specs.declared.declarations.Export.{Export}
use Rattle.fort_tree.specs.declared.declarations.Extends.{Extends}
use Rattle.fort_tree.specs.declared.declarations.Function.{Function}
use Rattle.fort_tree.specs.declared.declarations.FunctionName.{FunctionName}
use Rattle.fort_tree.specs.declared.declarations.Method.{Method}
use Rattle.fort_tree.specs.declared.declarations.MethodBody.{MethodBody}
use Rattle.fort_tree.specs.declared.declarations.MethodParameter.{MethodParameter}
use Rattle.fort_tree.specs.declared.declarations.MethodParameters.{MethodParameters}
use Rattle.fort_tree.specs.declared.declarations.Names.{Names}
use Rattle.fort_tree.specs.declared.declarations.NextMethodParameter.{NextMethodParameter}
use Rattle.fort_tree.specs.declared.declarations.NextObjectParameter.{NextObjectParameter}
use Rattle.fort_tree.specs.declared.declarations.Object.{Object}
use Rattle.fort_tree.specs.declared.declarations.ObjectEntry.{ObjectEntry}
use Rattle.fort_tree.specs.declared.declarations.ObjectMember.{ObjectMember}
use Rattle.fort_tree.specs.declared.declarations.ObjectParameter.{ObjectParameter}
use Rattle.fort_tree.specs.declared.declarations.ObjectParameterList.{ObjectParameterList}
use Rattle.fort_tree.specs.declared.declarations.ObjectParameters.{ObjectParameters}
use Rattle.fort_tree.specs.declared.declarations.Trait.{Trait}
use Rattle.fort_tree.specs.declared.declarations.TraitEntry.{TraitEntry}
use Rattle.fort_tree.specs.declared.declarations.TraitMember.{TraitMember}
use Rattle.fort_tree.specs.declared.declarations.Declaration.TheVariants as declaration
use Rattle.fort_tree.specs.declared.declarations.FunctionName.TheVariants as function_name
use Rattle.fort_tree.specs.declared.declarations.MethodParameter.TheVariants as method_parameter
use Rattle.fort_tree.specs.declared.declarations.Names.TheVariants as names_of
use Rattle.fort_tree.specs.declared.declarations.ObjectMember.TheVariants as object_member
use Rattle.fort_tree.specs.declared.declarations.TraitMember.TheVariants as trait_member
use Rattle.fort_tree_law_moved.specs.Spots.{moved_spot, moved_name, moved_sign, moved_next_name}
use Rattle.fort_tree_law_moved.specs.TypesMoved.{moved_type, moved_parameter, moved_parameters}
use Rattle.fort_tree_law_moved.specs.TreesMoved.{moved_variable, moved_expr}

module _ (g : Place → Place) where
  -- an `export`
  abbrev pub moved_export : Export → Export
  moved_export x = record { export = moved_spot g x.export; name = moved_name g x.name }

  -- the name of a function or method
  abbrev pub moved_function_name : FunctionName → FunctionName
  moved_function_name (function_name.Name name) = function_name.Name (moved_name g name)
  moved_function_name (function_name.Operator opr sign) =
      function_name.Operator (moved_spot g opr) (moved_sign g sign)
  moved_function_name (function_name.Juxtaposition opr name) =
      function_name.Juxtaposition (moved_spot g opr) (moved_name g name)

  -- one name, or names in braces
  abbrev pub moved_names : Names → Names
  moved_names (names_of.One name) = names_of.One (moved_name g name)
  moved_names (names_of.Braces left first others right) =
      names_of.Braces (moved_spot g left) (moved_name g first) (map (moved_next_name g) others)
      (moved_spot g right)

  -- a function
  abbrev pub moved_function : Function → Function
  moved_function x =
      record {
        name = moved_function_name x.name;
        left = moved_spot g x.left;
        parameters = option_map (moved_parameters g) x.parameters;
        right = moved_spot g x.right;
        colon = moved_spot g x.colon;
        result = moved_type g x.result;
        equals = moved_spot g x.equals;
        body = moved_expr g x.body;
      }

  -- a parameter of a method
  abbrev pub moved_method_parameter : MethodParameter → MethodParameter
  moved_method_parameter (method_parameter.Parameter parameter) =
      method_parameter.Parameter (moved_parameter g parameter)
  moved_method_parameter (method_parameter.Self_ s) = method_parameter.Self_ (moved_spot g s)

  -- a further parameter of a method
  abbrev pub moved_next_method_parameter : NextMethodParameter → NextMethodParameter
  moved_next_method_parameter x =
      record { comma = moved_spot g x.comma; parameter = moved_method_parameter x.parameter }

  -- a list of parameters of a method
  abbrev pub moved_method_parameters : MethodParameters → MethodParameters
  moved_method_parameters x =
      record {
        first = moved_method_parameter x.first;
        others = map moved_next_method_parameter x.others;
      }

  -- the body of a method
  abbrev pub moved_method_body : MethodBody → MethodBody
  moved_method_body x = record { equals = moved_spot g x.equals; body = moved_expr g x.body }

  -- a method
  abbrev pub moved_method : Method → Method
  moved_method x =
      record {
        name = moved_function_name x.name;
        left = moved_spot g x.left;
        parameters = option_map moved_method_parameters x.parameters;
        right = moved_spot g x.right;
        colon = moved_spot g x.colon;
        result = moved_type g x.result;
        body = option_map moved_method_body x.body;
      }

  -- an `extends`
  abbrev pub moved_extends : Extends → Extends
  moved_extends x = record { extends = moved_spot g x.extends; names = moved_names x.names }

  -- an `excludes`
  abbrev pub moved_excludes : Excludes → Excludes
  moved_excludes x = record { excludes = moved_spot g x.excludes; names = moved_names x.names }

  -- a `comprises`
  abbrev pub moved_comprises : Comprises → Comprises
  moved_comprises x = record { comprises = moved_spot g x.comprises; names = moved_names x.names }

  -- a member of a trait
  abbrev pub moved_trait_member : TraitMember → TraitMember
  moved_trait_member (trait_member.Field name colon ty) =
      trait_member.Field (moved_name g name) (moved_spot g colon) (moved_type g ty)
  moved_trait_member (trait_member.Method method) = trait_member.Method (moved_method method)

  -- a member of a trait with its `;`
  abbrev pub moved_trait_entry : TraitEntry → TraitEntry
  moved_trait_entry x =
      record {
        member = moved_trait_member x.member;
        semicolon = option_map (moved_spot g) x.semicolon;
      }

  -- a trait
  abbrev pub moved_trait : Trait → Trait
  moved_trait x =
      record {
        trait_ = moved_spot g x.trait_;
        name = moved_name g x.name;
        extends = option_map moved_extends x.extends;
        excludes = option_map moved_excludes x.excludes;
        comprises = option_map moved_comprises x.comprises;
        members = map moved_trait_entry x.members;
        end = moved_spot g x.end;
      }

  -- a parameter of an object
  abbrev pub moved_object_parameter : ObjectParameter → ObjectParameter
  moved_object_parameter x =
      record {
        var = option_map (moved_spot g) x.var;
        name = moved_name g x.name;
        colon = moved_spot g x.colon;
        ty = moved_type g x.ty;
      }

  -- a further parameter of an object
  abbrev pub moved_next_object_parameter : NextObjectParameter → NextObjectParameter
  moved_next_object_parameter x =
      record { comma = moved_spot g x.comma; parameter = moved_object_parameter x.parameter }

  -- a list of parameters of an object
  abbrev pub moved_object_parameter_list : ObjectParameterList → ObjectParameterList
  moved_object_parameter_list x =
      record {
        first = moved_object_parameter x.first;
        others = map moved_next_object_parameter x.others;
      }

  -- an object's parameters and their parentheses
  abbrev pub moved_object_parameters : ObjectParameters → ObjectParameters
  moved_object_parameters x =
      record {
        left = moved_spot g x.left;
        parameters = option_map moved_object_parameter_list x.parameters;
        right = moved_spot g x.right;
      }

  -- a member of an object
  abbrev pub moved_object_member : ObjectMember → ObjectMember
  moved_object_member (object_member.Variable variable) =
      object_member.Variable (moved_variable g variable)
  moved_object_member (object_member.Method method) = object_member.Method (moved_method method)

  -- a member of an object with its `;`
  abbrev pub moved_object_entry : ObjectEntry → ObjectEntry
  moved_object_entry x =
      record {
        member = moved_object_member x.member;
        semicolon = option_map (moved_spot g) x.semicolon;
      }

  -- an object
  abbrev pub moved_object : Object → Object
  moved_object x =
      record {
        object = moved_spot g x.object;
        name = moved_name g x.name;
        parameters = option_map moved_object_parameters x.parameters;
        extends = option_map moved_extends x.extends;
        members = map moved_object_entry x.members;
        end = moved_spot g x.end;
      }

  -- a declaration
  abbrev pub moved_declaration : Declaration → Declaration
  moved_declaration (declaration.Variable variable) =
      declaration.Variable (moved_variable g variable)
  moved_declaration (declaration.Function function) = declaration.Function (moved_function function)
  moved_declaration (declaration.Trait tr) = declaration.Trait (moved_trait tr)
  moved_declaration (declaration.Object object) = declaration.Object (moved_object object)

  -- a declaration with its `;`
  abbrev pub moved_declared : Declared → Declared
  moved_declared x =
      record {
        declaration = moved_declaration x.declaration;
        semicolon = option_map (moved_spot g) x.semicolon;
      }

  -- a component; its names and texts stay
  abbrev pub moved_component : Component → Component
  moved_component c = record {
    component = moved_spot g c.component;
    name = moved_name g c.name;
    export = option_map moved_export c.export;
    declarations = map moved_declared c.declarations;
    end = moved_spot g c.end;
    names = c.names;
    texts = c.texts;
  }
