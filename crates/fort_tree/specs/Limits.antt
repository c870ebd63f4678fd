-- The chapter "Grammar", limits: which components pass a limit and where, and which components the
-- other crates take. The code counts while it walks a component.
use Rattle.std.specs.Prelude.{ℕ, ◌+◌, ◌<◌, ◌^◌, ◌≡◌, ◌≢◌, ◌⊎◌, List, [], ◌∷◌, ◌++◌, Option, Some, None, length, map, drop, take}
use Rattle.std.specs.List.{AllPairs, Contains, flat_map}
use Rattle.fort_base.specs.Places.{IsBefore}
use Rattle.fort_base.specs.declared.refusal.Place.{Place}
use Rattle.fort_tree.specs.declared.declarations.Component.{Component}
use Rattle.fort_tree.specs.declared.declarations.Comprises.{Comprises}
use Rattle.fort_tree.specs.declared.declarations.Declaration.{Declaration}
use Rattle.fort_tree.specs.declared.declarations.Declaration.TheVariants as declaration
use Rattle.fort_tree.specs.declared.declarations.Declared.{Declared}
use Rattle.fort_tree.specs.declared.declarations.Excludes.{Excludes}
use Rattle.fort_tree.specs.declared.declarations.Extends.{Extends}
use Rattle.fort_tree.specs.declared.declarations.Function.{Function}
use Rattle.fort_tree.specs.declared.declarations.Method.{Method}
use Rattle.fort_tree.specs.declared.declarations.MethodBody.{MethodBody}
use Rattle.fort_tree.specs.declared.declarations.MethodParameter.{MethodParameter}
use Rattle.fort_tree.specs.declared.declarations.MethodParameter.TheVariants as method_parameter
use Rattle.fort_tree.specs.declared.declarations.MethodParameters.{MethodParameters}
use Rattle.fort_tree.specs.declared.declarations.Names.{Names}
use Rattle.fort_tree.specs.declared.declarations.Names.TheVariants as names_of
use Rattle.fort_tree.specs.declared.declarations.Object.{Object}
use Rattle.fort_tree.specs.declared.declarations.ObjectMember.{ObjectMember}
use Rattle.fort_tree.specs.declared.declarations.ObjectMember.TheVariants as object_member
use Rattle.fort_tree.specs.declared.declarations.ObjectParameterList.{ObjectParameterList}
use Rattle.fort_tree.specs.declared.declarations.ObjectParameters.{ObjectParameters}
use Rattle.fort_tree.specs.declared.declarations.Trait.{Trait}
use Rattle.fort_tree.specs.declared.declarations.TraitMember.{TraitMember}
use Rattle.fort_tree.specs.declared.declarations.TraitMember.TheVariants as trait_member
use Rattle.fort_tree.specs.declared.grouped.Row.{Row}
use Rattle.fort_tree.specs.Types.{parameter_count}
use Rattle.fort_tree.specs.Declarations.{name_first, method_parameter_count}
use Rattle.fort_tree.specs.Component.{yield, Obeys, NumbersAreIn}
use Rattle.fort_tree.specs.Measured.{Measured, made_of, over, all_flats, all_crowded, most_parameters, most_names, most_declarations, most_types}
use Rattle.fort_tree.specs.Measures.{spot_of, measured_type, measured_parameters}
use Rattle.fort_tree.specs.Measuring.{measured_expr, measured_variable}

-- ---- declarations

-- what a function measures; its parameters are counted
abbrev pub measured_function : Function → Measured
measured_function f = let at = spot_of (name_first f.name) in
    made_of at (over most_parameters (parameter_count f.parameters) at.place)
    (measured_parameters f.parameters ++ measured_type f.result ∷ measured_expr f.body ∷ [])

-- what a parameter of a method measures
abbrev pub measured_method_parameter : MethodParameter → List Measured
measured_method_parameter (method_parameter.Parameter p) = measured_type p.ty ∷ []
measured_method_parameter (method_parameter.Self_ s) = []

-- what the parameters of a method measure
abbrev pub measured_method_parameters : Option MethodParameters → List Measured
measured_method_parameters None = []
measured_method_parameters (Some list) =
    measured_method_parameter list.first
    ++ flat_map (λ next. measured_method_parameter next.parameter) list.others

-- what a method's body measures
abbrev pub measured_body : Option MethodBody → List Measured
measured_body None = []
measured_body (Some b) = measured_expr b.body ∷ []

-- what a method measures; its parameters are counted
abbrev pub measured_method : Method → Measured
measured_method m = let at = spot_of (name_first m.name) in
    made_of at (over most_parameters (method_parameter_count m.parameters) at.place)
    (measured_method_parameters m.parameters ++ measured_type m.result ∷ measured_body m.body)

-- how many names a list has
abbrev pub name_count : Names → ℕ
name_count (names_of.One name) = 1
name_count (names_of.Braces left first others right) = 1 + length others

-- how many names an `extends` has
abbrev pub extends_count : Option Extends → ℕ
extends_count None = 0
extends_count (Some e) = name_count e.names

-- how many names an `excludes` has
abbrev pub excludes_count : Option Excludes → ℕ
excludes_count None = 0
excludes_count (Some e) = name_count e.names

-- how many names a `comprises` has
abbrev pub comprises_count : Option Comprises → ℕ
comprises_count None = 0
comprises_count (Some c) = name_count c.names

-- what a member of a trait measures
abbrev pub measured_trait_member : TraitMember → Measured
measured_trait_member (trait_member.Field name colon ty) =
    made_of name.spot [] (measured_type ty ∷ [])
measured_trait_member (trait_member.Method method) = measured_method method

-- the members of a trait
abbrev pub trait_members : Trait → List Measured
trait_members t = map (λ e. measured_trait_member e.member) t.members

-- what a trait measures; the names in its lists are counted
abbrev pub measured_trait : Trait → Measured
measured_trait t = let at = t.trait_ in
    made_of at
    (over most_names (extends_count t.extends) at.place
    ++ (over most_names (excludes_count t.excludes) at.place
    ++ over most_names (comprises_count t.comprises) at.place)) (trait_members t)

-- what a member of an object measures
abbrev pub measured_object_member : ObjectMember → Measured
measured_object_member (object_member.Variable variable) = measured_variable variable
measured_object_member (object_member.Method method) = measured_method method

-- the members of an object
abbrev pub object_members : Object → List Measured
object_members o = map (λ e. measured_object_member e.member) o.members

-- what a list of parameters of an object measures
abbrev pub measured_object_parameter_list : Option ObjectParameterList → List Measured
measured_object_parameter_list None = []
measured_object_parameter_list (Some list) =
    measured_type list.first.ty ∷ map (λ next. measured_type next.parameter.ty) list.others

-- what the parameters of an object measure
abbrev pub measured_object_parameters : Option ObjectParameters → List Measured
measured_object_parameters None = []
measured_object_parameters (Some p) = measured_object_parameter_list p.parameters

-- what an object measures; its parameters, and the names in its list, are counted
abbrev pub measured_object : Object → Measured
measured_object o = let at = o.object in
    made_of at
    (over most_parameters (length (measured_object_parameters o.parameters)) at.place
    ++ over most_names (extends_count o.extends) at.place)
    (measured_object_parameters o.parameters ++ object_members o)

-- what a declaration measures
abbrev pub measured_declaration : Declaration → Measured
measured_declaration (declaration.Variable variable) = measured_variable variable
measured_declaration (declaration.Function function) = measured_function function
measured_declaration (declaration.Trait tr) = measured_trait tr
measured_declaration (declaration.Object object) = measured_object object

-- ---- the number of declarations

-- the members of a declaration
abbrev pub members_of : Declaration → List Measured
members_of (declaration.Variable variable) = []
members_of (declaration.Function function) = []
members_of (declaration.Trait tr) = trait_members tr
members_of (declaration.Object object) = object_members object

-- the places of a declaration and, behind it, of its members
abbrev pub declaration_places : Declared → List Place
declaration_places d =
    (measured_declaration d.declaration).spot.place
    ∷ map (λ m. m.spot.place) (members_of d.declaration)

-- the place of a declaration of a type
abbrev pub type_places : Declaration → List Place
type_places (declaration.Variable variable) = []
type_places (declaration.Function function) = []
type_places (declaration.Trait tr) = tr.trait_.place ∷ []
type_places (declaration.Object object) = object.object.place ∷ []

-- the first place behind so many
abbrev pub first_behind : ℕ → List Place → List Place
first_behind most places = take 1 (drop most places)

-- ---- components

-- the declarations of a component
abbrev pub measured_declarations : Component → List Measured
measured_declarations c = map (λ d. measured_declaration d.declaration) c.declarations

-- the places of what passes a limit: crowded forms, the first declaration too many, the first type
-- too many
abbrev pub crowded : Component → List Place
crowded c = first_behind most_declarations (flat_map declaration_places c.declarations)
    ++ (first_behind most_types (flat_map (λ d. type_places d.declaration) c.declarations)
    ++ all_crowded (measured_declarations c))

-- a component's flat expressions, in the order of their first tokens
abbrev pub flats : Component → List Row
flats c = all_flats (measured_declarations c)

-- the places of a component's flat expressions
abbrev pub flat_places : Component → List Place
flat_places c = map (λ r. r.place) (flats c)

-- A component passes a limit, and this is the earliest place of what passes one.
abbrev pub BreaksLimit : Component → Place → Type 0
BreaksLimit c at = Contains (crowded c) at
    × ((other : Place) → Contains (crowded c) other → ¬ (IsBefore other at))

-- A component passes no limit.
abbrev pub KeepsLimits : Component → Type 0
KeepsLimits c = crowded c ≡ []

-- What the calls on a component ask of it: it obeys the rules on gaps and names, its numbers of
-- names and texts are in its tables, it has fewer than 2^31 tokens, and no two of its flat
-- expressions begin at one place.
pub record IsWhole (c : Component) : Type 0 where
  pub obeys : Obeys c
  pub numbers : NumbersAreIn c.names c.texts (yield c)
  pub short : length (yield c) < 2 ^ 31
  pub apart : AllPairs (λ a b. a ≢ b) (flat_places c)
