-- The chapter "Typing": which set a call is of. Sets are told by name, kind and number of
-- parameters; the code keeps their numbers by name.
use Rattle.std.specs.Prelude.{ℕ, suc, nat_eq, Bool, true, false, cond, ◌&&◌, ◌||◌, List, [], ◌∷◌, get_or, length}
use Rattle.std.specs.Bool.{beq}
use Rattle.std.specs.Str.{bytes_eq}
use Rattle.fort_base.specs.declared.ids.NameId.{NameId}
use Rattle.fort_base.specs.declared.ids.SetId.{SetId}
use Rattle.fort_ops.specs.declared.op.Op.{Op}
use Rattle.fort_typing_known.specs.Spellings.{Spelling, operator_spelling}
use Rattle.fort_types_sets.specs.declared.member.Member.{Member}
use Rattle.fort_types_sets.specs.declared.member.MemberSet.{MemberSet}
use Rattle.fort_typing_known.specs.Known.{Facts}

-- the number of parameters of a set's declarations, which its first one tells
abbrev pub width_of : List Member → ℕ
width_of [] = 0
width_of (m ∷ ms) = length m.parameters

-- a set has this name and is of this kind, dotted or function
abbrev pub has_name : Spelling → Bool → MemberSet → Bool
has_name name dotted s = bytes_eq s.name name && beq s.dotted dotted

-- a set has this name, this kind and this number of parameters
abbrev pub is_set_of : Spelling → Bool → ℕ → MemberSet → Bool
is_set_of name dotted width s = has_name name dotted s && nat_eq (width_of s.members) width

-- some set meets a test
abbrev pub any_set : (MemberSet → Bool) → List MemberSet → Bool
any_set test [] = false
any_set test (s ∷ ss) = test s || any_set test ss

-- where the first set stands that meets a test; past the last one where none does
abbrev pub first_set : (MemberSet → Bool) → List MemberSet → ℕ
first_set test [] = 0
first_set test (s ∷ ss) = cond (test s) 0 (suc (first_set test ss))

-- the spelling of a name
abbrev pub spelled : Facts → NameId → Spelling
spelled k name = get_or k.names name.0 []

-- The number of the set of a name, a kind and a number of parameters; that of no set where there is
-- none.
unfoldable pub set_of : Facts → Spelling → Bool → ℕ → SetId
set_of k name dotted width = record { 0 = first_set (is_set_of name dotted width) k.members.sets }

-- the set that a call of a function's name is of, by the number of its arguments
abbrev pub function_set : Facts → NameId → ℕ → SetId
function_set k name width = set_of k (spelled k name) false width

-- the set that a call of a method is of, by the number of its arguments, the receiver included
abbrev pub method_set : Facts → NameId → ℕ → SetId
method_set k name width = set_of k (spelled k name) true width

-- the set that a call of an operator is of, by the number of its operands
abbrev pub operator_set : Facts → Op → ℕ → SetId
operator_set k op width = set_of k (operator_spelling k.names op) false width

-- some dotted method has the name
abbrev pub is_method : Facts → NameId → Bool
is_method k name = any_set (has_name (spelled k name) true) k.members.sets

-- some function has the name
abbrev pub is_function : Facts → NameId → Bool
is_function k name = any_set (has_name (spelled k name) false) k.members.sets
