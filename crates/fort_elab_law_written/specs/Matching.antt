-- What a typed component has of its members, so that its program is as it is written. The chapter
-- "Programs as written" of docs/MACHINE.md.
use Rattle.std.specs.Prelude.{◌≡◌, ◌≤◌, ℕ, true, false, List, [], ◌∷◌, length, slice_get, Some, None, Option, option_to_list}
use Rattle.std.specs.List.{list_any, flat_map}
use Rattle.fort_base.specs.declared.ids.TypeId.{TypeId}
use Rattle.fort_base.specs.declared.refusal.Place.{Place}
use Rattle.fort_base.specs.declared.ty.Ty.{Ty}
use Rattle.fort_core.specs.declared.program.CoreField.{CoreField}
use Rattle.fort_core.specs.declared.program.CoreShape.{CoreShape}
use Rattle.fort_machine.specs.Written.{HaveConstants}
use Rattle.fort_types_sets.specs.declared.member.Member.{Member}
use Rattle.fort_types_sets.specs.declared.member.MemberKind.{MemberKind}
use Rattle.fort_types_sets.specs.declared.member.MemberKind.TheVariants as a_kind
use Rattle.fort_types_sets.specs.declared.member.MemberSet.{MemberSet}
use Rattle.fort_types_sets.specs.declared.member.Members.{Members}
use Rattle.fort_form_typed.specs.declared.component.Typed.{Typed}
use Rattle.fort_form_typed.specs.declared.component.TypedBody.{TypedBody}
use Rattle.fort_elab_meaning.specs.Bodies.{width, same_place}
use Rattle.fort_elab_meaning.specs.Shapes.{shapes}

-- The place of a declaration with a body.
abbrev pub body_place : MemberKind → Option Place → List Place
body_place a_kind.Concrete place = option_to_list place
body_place _ place = []

abbrev pub place_of : Member → List Place
place_of d = body_place d.kind d.place

-- The places of all declarations with bodies, set by set.
abbrev pub places_of : List MemberSet → List Place
places_of sets = flat_map (λ (s : MemberSet). flat_map place_of s.members) sets

-- Each place of a list stands in it once.
abbrev pub PlacesOnce : List Place → Type 0
PlacesOnce [] = Unit {0}
PlacesOnce (x ∷ xs) = (list_any (same_place x) xs ≡ false) × PlacesOnce xs

-- A constructor's parameters are the types of the first fields, which have no constant; all others
-- have one.
abbrev pub Takes : List CoreField → List Ty → Type 0
Takes fs [] = HaveConstants fs
Takes [] (ty ∷ tys) = ⊥
Takes (f ∷ fs) (ty ∷ tys) = (f.initial ≡ None) × (f.ty ≡ ty) × Takes fs tys

-- A type has a shape whose fields these parameters fill.
pub record Fills (list : List CoreShape) (id : TypeId) (parameters : List Ty) : Type 0 where
  pub shape : CoreShape
  pub is_shape : slice_get list id.0 ≡ Some shape
  pub takes : Takes shape.fields parameters

-- Of a body at the place of a declaration: the declaration has no more parameters than the body
-- counts.
abbrev pub CountsAll : List TypedBody → Place → List Ty → Type 0
CountsAll [] place parameters = Unit {0}
CountsAll (b ∷ bs) place parameters = (same_place b.place place ≡ true
    → length parameters ≤ width b) × CountsAll bs place parameters

-- What a declaration is, by its kind: one with a body counts its parameters as the body does, a
-- constructor's fill the fields of its type.
abbrev pub MatchesBy : MemberKind → Option Place → List Ty → List CoreShape → List TypedBody
    → Type 0
MatchesBy a_kind.Concrete (Some place) parameters list bs = CountsAll bs place parameters
MatchesBy (a_kind.Constructor t) place parameters list bs = Fills list t parameters
MatchesBy _ place parameters list bs = Unit {0}

abbrev pub EachMatches : List CoreShape → List TypedBody → List Member → Type 0
EachMatches list bs [] = Unit {0}
EachMatches list bs (d ∷ ds) = MatchesBy d.kind d.place d.parameters list bs
    × EachMatches list bs ds

abbrev pub AllMatch : List CoreShape → List TypedBody → List MemberSet → Type 0
AllMatch list bs [] = Unit {0}
AllMatch list bs (s ∷ ss) = EachMatches list bs s.members × AllMatch list bs ss

-- A typed component matches its members: no two declarations with bodies stand at one place, and
-- each declaration has the parameters of its body or of its type's fields.
pub record Matches (m : Members) (texts : List (List ℕ)) (typed : Typed) : Type 0 where
  pub places : PlacesOnce (places_of m.sets)
  pub each : AllMatch (shapes texts typed.initials m) typed.bodies m.sets
