-- The chapter "Components and APIs": the names that stand as atoms in a component. They stand in
-- the values of variables and in the bodies of functions and methods. The code puts them at the end
-- of one list as it walks.
use Rattle.std.specs.Prelude.{List, [], Option, Some, None}
use Rattle.std.specs.List.{flat_map}
use Rattle.fort_tree.specs.declared.spot.Name.{Name}
use Rattle.fort_tree.specs.declared.declarations.Component.{Component}
use Rattle.fort_tree.specs.declared.declarations.Declaration.{Declaration}
use Rattle.fort_tree.specs.declared.declarations.Declaration.TheVariants as declaration
use Rattle.fort_tree.specs.declared.declarations.MethodBody.{MethodBody}
use Rattle.fort_tree.specs.declared.declarations.Object.{Object}
use Rattle.fort_tree.specs.declared.declarations.ObjectMember.{ObjectMember}
use Rattle.fort_tree.specs.declared.declarations.ObjectMember.TheVariants as object_member
use Rattle.fort_tree.specs.declared.declarations.Trait.{Trait}
use Rattle.fort_tree.specs.declared.declarations.TraitMember.{TraitMember}
use Rattle.fort_tree.specs.declared.declarations.TraitMember.TheVariants as trait_member
use Rattle.fort_tree_atoms.specs.AtomsOf.{atoms_of_expr}

-- of the body of a method, where it has one
abbrev pub atoms_of_method_body : Option MethodBody → List Name
atoms_of_method_body None = []
atoms_of_method_body (Some b) = atoms_of_expr b.body

-- of a member of a trait
abbrev pub atoms_of_trait_member : TraitMember → List Name
atoms_of_trait_member (trait_member.Field name colon ty) = []
atoms_of_trait_member (trait_member.Method method) = atoms_of_method_body method.body

-- of a trait
abbrev pub atoms_of_trait : Trait → List Name
atoms_of_trait t = flat_map (λ e. atoms_of_trait_member e.member) t.members

-- of a member of an object
abbrev pub atoms_of_object_member : ObjectMember → List Name
atoms_of_object_member (object_member.Variable variable) = atoms_of_expr variable.value
atoms_of_object_member (object_member.Method method) = atoms_of_method_body method.body

-- of an object
abbrev pub atoms_of_object : Object → List Name
atoms_of_object o = flat_map (λ e. atoms_of_object_member e.member) o.members

-- of a declaration
abbrev pub atoms_of_declaration : Declaration → List Name
atoms_of_declaration (declaration.Variable variable) = atoms_of_expr variable.value
atoms_of_declaration (declaration.Function function) = atoms_of_expr function.body
atoms_of_declaration (declaration.Trait tr) = atoms_of_trait tr
atoms_of_declaration (declaration.Object object) = atoms_of_object object

-- The names that stand as atoms in a component, in the order of the text, each as often as it
-- stands there.
abbrev pub atom_names : Component → List Name
atom_names c = flat_map (λ d. atoms_of_declaration d.declaration) c.declarations
