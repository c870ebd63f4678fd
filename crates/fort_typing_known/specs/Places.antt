-- Index of sets and types by name: where a spelling stands in a list. The code keeps it in a map,
-- and for each set the next one of its spelling.
use Rattle.std.specs.Prelude.{◌≡◌, ℕ, suc, List, [], ◌∷◌, Option, Some, None, cond, drop, slice_get}
use Rattle.std.specs.Str.{bytes_eq}
use Rattle.indexmap.specs.IndexMap.{get_by}
use Rattle.fort_types_sets.specs.declared.member.MemberSet.{MemberSet}
use Rattle.fort_typing_known.specs.Spellings.{Spelling}
use Rattle.fort_typing_known.specs.declared.places.Places.{Places}

-- the place that a spelling has
abbrev pub placed_as : Places → Spelling → Option ℕ
placed_as places s = get_by (λ key. bytes_eq s key.now) places.known

-- Where the first of a list's items stands that is spelled so, if the list begins at this place.
abbrev pub place_by : {X : Type 0} → (X → Spelling) → ℕ → List X → Spelling → Option ℕ
place_by name p [] s = None
place_by name p (x ∷ xs) s = cond (bytes_eq (name x) s) (Some p) (place_by name (suc p) xs s)

-- a type's name is its spelling
abbrev pub is_itself : Spelling → Spelling
is_itself s = s

-- the spelling of a set
abbrev pub set_name : MemberSet → Spelling
set_name set = set.name

-- Each set of a list has the place of the next one that is spelled as it is.
abbrev pub IsChain : List MemberSet → List (Option ℕ) → Type 0
IsChain sets nexts = (k : ℕ) (set : MemberSet) → slice_get sets k ≡ Some set
    → slice_get nexts k ≡ Some (place_by set_name (suc k) (drop (suc k) sets) set.name)
