-- "Programs" of docs/TRANSLATION.md: the program of a component that keeps all rules.
use Rattle.std.specs.Prelude.{◌≡◌, ℕ, ◌+◌, false, List, [], ◌∷◌, ◌++◌, length, map, slice_get, codes, Option, Some, None, option_map, option_and_then}
use Rattle.std.specs.List.{flat_map}
use Rattle.fort_base.specs.declared.ids.DeclId.{DeclId}
use Rattle.fort_base.specs.declared.ids.SetId.{SetId}
use Rattle.fort_base.specs.declared.refusal.Place.{Place}
use Rattle.fort_types_builtin.specs.declared.types.TheConstants.{BUILT_IN}
use Rattle.fort_types_builtin.specs.Declarations.{primitives_of}
use Rattle.fort_core.specs.declared.program.CoreBody.{CoreBody}
use Rattle.fort_core.specs.declared.program.CoreBody.TheVariants as body
use Rattle.fort_core.specs.declared.program.CoreDecl.{CoreDecl}
use Rattle.fort_core.specs.declared.program.CoreSet.{CoreSet}
use Rattle.fort_core.specs.declared.program.Program.{Program}
use Rattle.fort_core.specs.declared.term.Term.{Term, Call}
use Rattle.fort_hier.specs.declared.accepted.Hierarchy.{Hierarchy}
use Rattle.fort_typing_known.specs.Sets.{first_set, is_set_of}
use Rattle.fort_types_sets.specs.declared.member.Member.{Member}
use Rattle.fort_types_sets.specs.declared.member.MemberKind.{MemberKind}
use Rattle.fort_types_sets.specs.declared.member.MemberKind.TheVariants as a_kind
use Rattle.fort_types_sets.specs.declared.member.MemberSet.{MemberSet}
use Rattle.fort_types_sets.specs.declared.member.Members.{Members}
use Rattle.fort_form_typed.specs.declared.component.Typed.{Typed}
use Rattle.fort_elab_meaning.specs.Parts.{Given}
use Rattle.fort_elab_meaning.specs.Bodies.{bodies, body_at}
use Rattle.fort_elab_meaning.specs.Shapes.{shapes, held_by, types_by, variables_from, variable_types}

-- The set of a function's name and number of parameters.
abbrev pub function_set : Members → List ℕ → ℕ → SetId
function_set m name width = record { 0 = first_set (is_set_of name false width) m.sets }

-- What is given for all forms of a component.
abbrev pub given : Members → List (List ℕ) → Typed → Given
given m texts typed =
    record {
      texts = texts;
      shapes = shapes texts typed.initials m;
      widen = function_set m (codes "widen") 1;
    }

-- ---- declarations

-- What a call of a declaration does: a built-in one is the one at its position among those of its
-- name and number of parameters; a constructor makes an object; an abstract one does nothing;
-- another one goes on as the term of its body, which its place tells.
abbrev pub core_body : List (Place × Term) → MemberSet → ℕ → Member → MemberKind → Option CoreBody
core_body terms s at d a_kind.BuiltIn =
    option_map body.Primitive (slice_get (primitives_of s.name (length d.parameters)) at)
core_body terms s at d (a_kind.Constructor t) = Some (body.New t)
core_body terms s at d a_kind.Concrete =
    option_map body.Plain (option_and_then (body_at terms) d.place)
core_body terms s at d a_kind.Abstract = Some body.Abstract

-- A declaration, at its position in its set.
abbrev pub core_declaration : List (Place × Term) → MemberSet → ℕ → Member → Option CoreDecl
core_declaration terms s at d =
    option_map (λ b. record { parameters = d.parameters; result = d.result; body = b })
    (core_body terms s at d d.kind)

abbrev pub declarations_from : List (Place × Term) → MemberSet → ℕ → List Member
    → List (Option CoreDecl)
declarations_from terms s at [] = []
declarations_from terms s at (d ∷ ds) =
    core_declaration terms s at d ∷ declarations_from terms s (at + 1) ds

abbrev pub declarations_of_set : List (Place × Term) → MemberSet → List (Option CoreDecl)
declarations_of_set terms s = declarations_from terms s 0 s.members

-- ---- sets

-- So many numbers of declarations, from one on.
abbrev pub numbers : ℕ → List Member → List DeclId
numbers n [] = []
numbers n (d ∷ ds) = record { 0 = n } ∷ numbers (n + 1) ds

-- The declarations are numbered set by set, in their order.
abbrev pub core_sets : ℕ → List MemberSet → List CoreSet
core_sets n [] = []
core_sets n (s ∷ ss) = record { decls = numbers n s.members } ∷ core_sets (n + length s.members) ss

-- ---- the program

-- The program of an accepted component: its types, their names, and what they are made of; its sets
-- with their declarations; the call of `run` as the first term; and the opening store, which has
-- the variables at the top in source order, then the single objects in the order of their types,
-- with the types of these locations.
pub record IsProgramOf (h : Hierarchy) (m : Members) (texts : List (List ℕ)) (typed : Typed)
    (p : Program) : Type 0 where
  pub types : p.types ≡ h.table
  pub built_in : p.built_in ≡ BUILT_IN
  pub type_names : p.type_names ≡ h.names
  pub shapes : p.shapes ≡ shapes texts typed.initials m
  pub sets : p.sets ≡ core_sets 0 m.sets
  pub declarations : map Some p.decls
      ≡ flat_map (declarations_of_set (bodies (given m texts typed) 0 typed.bodies)) m.sets
  pub first : p.first ≡ Call (function_set m (codes "run") 0) []
  pub opening : p.opening
      ≡ variables_from texts typed.initials 0 m.variables ++ flat_map held_by p.shapes
  pub opening_types : p.opening_types ≡ variable_types 0 m.variables ++ flat_map types_by p.shapes
