-- The chapter "Overload rules", widening: a call to which no declaration of its set is applicable
-- may widen ZZ32 to ZZ64. The code asks position by position.
use Rattle.std.specs.Prelude.{◌≡◌, ◌⊎◌, ℕ, List, length, slice_get, Some}
use Rattle.fort_base.specs.declared.ty.Ty.{Ty, out-Ty}
use Rattle.fort_base.specs.declared.ty.Ty.TheOpen.{Ty-F}
use Rattle.fort_types.specs.Hierarchy.{DeclaredTypes}
use Rattle.fort_types.specs.Types.{Below}
use Rattle.fort_types_sets.specs.declared.member.Member.{Member}
use Rattle.fort_types_sets.specs.declared.member.MemberSet.{MemberSet}
use Rattle.fort_types_sets.specs.Applicable.{Along}
use Rattle.fort_types_sets.specs.Rules.{StandsAt}
use Rattle.fort_typing_rules.specs.declared.choice.Choice.{Choice}
use Rattle.fort_typing_rules.specs.declared.choice.Choice.TheVariants as choice
use Rattle.fort_typing_rules.specs.declared.choice.Widening.{Widening}

-- A type is widened to a parameter: it is ZZ32, and the parameter is ZZ64.
abbrev pub IsWidened : Widening → Ty → Ty → Type 0
IsWidened w x p = (out-Ty x ≡ Ty-F.Named w.from) × (out-Ty p ≡ Ty-F.Named w.to)

-- A type is below a parameter, or widened to it.
abbrev pub Suits : DeclaredTypes → Widening → Ty → Ty → Type 0
Suits h w x p = Below h x p ⊎ IsWidened w x p

-- A declaration is applicable to a list of types with widening: there are as many as it has
-- parameters, and each is below its parameter or widened to it.
abbrev pub IsApplicableWidened : DeclaredTypes → Widening → Member → List Ty → Type 0
IsApplicableWidened h w d types = Along (Suits h w) types d.parameters

-- A position is widened, where these are the parameters: the type there is ZZ32, and the parameter
-- is ZZ64.
abbrev pub WidenedAmong : Widening → List Ty → List Ty → ℕ → Type 0
WidenedAmong w parameters types k = (x p : Ty) × (slice_get types k ≡ Some x)
    × (slice_get parameters k ≡ Some p) × IsWidened w x p

-- A position is widened for a declaration.
abbrev pub WidenedAt : Widening → Member → List Ty → ℕ → Type 0
WidenedAt w d types k = WidenedAmong w d.parameters types k

-- A position that is widened for some parameters is widened for others.
abbrev pub IsKept : Widening → List Ty → List Ty → List Ty → ℕ → Type 0
IsKept w types one other k = WidenedAmong w one types k → WidenedAmong w other types k

-- Each position that is widened for some parameters is widened for others.
abbrev pub AllKept : Widening → List Ty → List Ty → List Ty → Type 0
AllKept w types one other = (k : ℕ) → IsKept w types one other k

-- The positions that are widened for one declaration are contained in those of another.
abbrev pub WidensWithin : Widening → List Ty → Member → Member → Type 0
WidensWithin w types p q = AllKept w types p.parameters q.parameters

-- The declaration at a position widens least: it is applicable with widening, and its widened
-- positions are contained in those of each that is.
pub record IsLeast (h : DeclaredTypes) (w : Widening) (s : MemberSet) (types : List Ty)
    (i : ℕ) : Type 0 where
  pub chosen : Member
  pub is : StandsAt s i chosen
  pub applicable : IsApplicableWidened h w chosen types
  pub least : (j : ℕ) (d : Member) → StandsAt s j d → IsApplicableWidened h w d types
      → WidensWithin w types chosen d

-- Some declaration of the set is applicable to the types with widening.
abbrev pub SomeWidened : DeclaredTypes → Widening → MemberSet → List Ty → Type 0
SomeWidened h w s types = (i : ℕ) × (d : Member) × StandsAt s i d × IsApplicableWidened h w d types

-- A set's answer for types that may be widened: where a declaration that widens least stands; or
-- some are applicable with widening and none widens least; or none is applicable with widening.
abbrev pub Widens : DeclaredTypes → Widening → MemberSet → List Ty → Choice → Type 0
Widens h w s types (choice.At i) = IsLeast h w s types i
Widens h w s types choice.Unclear = SomeWidened h w s types × ((i : ℕ) → IsLeast h w s types i → ⊥)
Widens h w s types choice.NoneApplicable = SomeWidened h w s types → ⊥

-- A type is what a call's types have at a position: ZZ64 where the position is widened, and else
-- the type that stands there.
abbrev pub StandsFor : Widening → List Ty → List Ty → ℕ → Ty → Type 0
StandsFor w parameters types k t = (WidenedAmong w parameters types k → out-Ty t ≡ Ty-F.Named w.to)
    × ((WidenedAmong w parameters types k → ⊥) → slice_get types k ≡ Some t)

-- A list is a call's types, where these are the parameters: each has its place, and no other is
-- there.
pub record AllWidened (w : Widening) (parameters types list : List Ty) : Type 0 where
  pub long : length list ≡ length types
  pub each : (k : ℕ) (t : Ty) → slice_get list k ≡ Some t → StandsFor w parameters types k t

-- A list is the types of a call that is widened for a declaration.
abbrev pub AreWidened : Widening → Member → List Ty → List Ty → Type 0
AreWidened w d types list = AllWidened w d.parameters types list
