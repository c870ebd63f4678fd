-- The chapter "Members", overload sets. The code puts one declaration after another into its set.
use Rattle.std.specs.Prelude.{◌≡◌, ℕ, nat_eq, Bool, true, ◌&&◌, not, List, [], ◌∷◌, Option, Some, None, filter, map, length, slice_get}
use Rattle.std.specs.Bool.{beq}
use Rattle.std.specs.Str.{bytes_eq}
use Rattle.fort_hier.specs.Names.{Spelling}
use Rattle.fort_member.specs.declared.entries.Entry.{Entry}
use Rattle.fort_types_sets.specs.declared.member.Member.{Member}
use Rattle.fort_types_sets.specs.declared.member.MemberSet.{MemberSet}

-- What the declarations of one set have in common: the name, the kind (function or dotted), and the
-- number of parameters.
pub record Key : Type 0 where
  pub name : Spelling
  pub dotted : Bool
  pub width : ℕ

abbrev pub key_of : Entry → Key
key_of e = record { name = e.name; dotted = e.dotted; width = length e.member.parameters }

abbrev pub same_key : Key → Key → Bool
same_key k l = bytes_eq k.name l.name && (beq k.dotted l.dotted && nat_eq k.width l.width)

-- A declaration belongs to the set of a key.
abbrev pub belongs : Key → Entry → Bool
belongs k e = same_key k (key_of e)

abbrev pub member_of : Entry → Member
member_of e = e.member

-- The keys of declarations, each once, in the order of their first ones.
abbrev pub keys_of : List Entry → List Key
keys_of [] = []
keys_of (e ∷ es) = key_of e ∷ filter (λ k. not (same_key k (key_of e))) (keys_of es)

-- A set: all declarations of its key, in their order.
abbrev pub set_of : List Entry → Key → MemberSet
set_of es k =
    record { name = k.name; dotted = k.dotted; members = map member_of (filter (belongs k) es) }

-- All sets of declarations.
abbrev pub sets_of : List Entry → List MemberSet
sets_of es = map (set_of es) (keys_of es)

-- ---- the code's sets so far

-- The number of parameters of a set's declarations, which its first one tells.
abbrev pub width_of : List Member → ℕ
width_of [] = 0
width_of (m ∷ ms) = length m.parameters

abbrev pub set_key : MemberSet → Key
set_key s = record { name = s.name; dotted = s.dotted; width = width_of s.members }

-- The place of a declaration's set, or none where there is no such set yet.
abbrev pub PlaceIs : List MemberSet → Entry → Option ℕ → Type 0
PlaceIs sets e None = (i : ℕ) (s : MemberSet) → slice_get sets i ≡ Some s
    → same_key (set_key s) (key_of e) ≡ true → ⊥
PlaceIs sets e (Some at) = (s : MemberSet) × (slice_get sets at ≡ Some s)
    × (same_key (set_key s) (key_of e) ≡ true)

-- A set of one declaration.
abbrev pub one_set : Entry → MemberSet
one_set e = record { name = e.name; dotted = e.dotted; members = e.member ∷ [] }
