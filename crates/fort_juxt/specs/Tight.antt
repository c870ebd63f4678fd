-- The chapter "Juxtaposition", tight: the next rewriting of a run. The code looks for the places
-- first, and then at what stands there.
use Rattle.std.specs.Prelude.{◌≡◌, Bool, true, false, not, ◌&&◌, List, [], ◌∷◌, ◌++◌, length, Result, Ok, Err}
use Rattle.fort_base.specs.declared.rules.TheConstants.{FUNCTION_AS_VALUE, TIGHT_ARGUMENT}
use Rattle.fort_base.specs.declared.refusal.CheckFault.{CheckFault}
use Rattle.fort_base.specs.declared.refusal.CheckFault.TheVariants as a_fault
use Rattle.fort_juxt.specs.declared.elements.Element.{Element}
use Rattle.fort_juxt.specs.declared.elements.Tight.{Tight}
use Rattle.fort_juxt.specs.declared.elements.Tight.TheVariants as a_rewriting
use Rattle.fort_juxt.specs.First.{IsFirst, IsNowhere}

-- a function stands first, and an atom directly behind it
abbrev pub takes : List Element → Bool
takes [] = false
takes (f ∷ []) = false
takes (f ∷ a ∷ after) = f.function && not a.postfix

-- a postfix stands first
abbrev pub postfix_first : List Element → Bool
postfix_first [] = false
postfix_first (p ∷ after) = p.postfix

-- an atom in parentheses, which no postfix directly follows
abbrev pub is_argument : Element → List Element → Bool
is_argument a after = a.parens && not (postfix_first after)

-- The next rewriting of a run, or its refusal.
pub data Rewrites (es : List Element) (r : Result Tight CheckFault) : Type 0 where
  -- The leftmost function that is directly followed by an atom takes it as argument.
  applies : (before after : List Element) (f a : Element) → IsFirst takes es before (f ∷ a ∷ after)
      → is_argument a after ≡ true
      → r ≡ Ok (a_rewriting.Apply (length before)) → Rewrites es r
  -- The atom is in parentheses and no postfix directly follows it, else 607.
  no_argument : (before after : List Element) (f a : Element)
      → IsFirst takes es before (f ∷ a ∷ after) → is_argument a after ≡ false
      → r ≡ Err (a_fault.Refused TIGHT_ARGUMENT a.place) → Rewrites es r
  -- Else the leftmost postfix applies to the element before it.
  applies_postfix : IsNowhere takes es → (before after : List Element) (x p : Element)
      → IsFirst postfix_first es (before ++ x ∷ []) (p ∷ after) → x.named ≡ false
      → r ≡ Ok (a_rewriting.Postfix (length (before ++ x ∷ []))) → Rewrites es r
  -- If that is a function set's name: 606.
  postfix_of_name : IsNowhere takes es → (before after : List Element) (x p : Element)
      → IsFirst postfix_first es (before ++ x ∷ []) (p ∷ after) → x.named ≡ true
      → r ≡ Err (a_fault.Refused FUNCTION_AS_VALUE x.place) → Rewrites es r
  -- Else the first two elements are joined.
  joins : IsNowhere takes es → IsNowhere postfix_first es → (x y : Element) (after : List Element)
      → es ≡ x ∷ y ∷ after → x.named ≡ false → y.named ≡ false
      → r ≡ Ok a_rewriting.Left → Rewrites es r
  -- If one is a function set's name: 606.
  first_is_name : IsNowhere takes es → IsNowhere postfix_first es
      → (x y : Element) (after : List Element) → es ≡ x ∷ y ∷ after → x.named ≡ true
      → r ≡ Err (a_fault.Refused FUNCTION_AS_VALUE x.place) → Rewrites es r
  second_is_name : IsNowhere takes es → IsNowhere postfix_first es
      → (x y : Element) (after : List Element) → es ≡ x ∷ y ∷ after → x.named ≡ false
      → y.named ≡ true
      → r ≡ Err (a_fault.Refused FUNCTION_AS_VALUE y.place) → Rewrites es r
  -- Nothing rewrites where one element is left.
  whole : (x : Element) → es ≡ x ∷ [] → r ≡ Ok a_rewriting.Whole → Rewrites es r

-- A run has at most one next rewriting or refusal.
abbrev pub OneRewriting : Type 0
OneRewriting = (es : List Element) (r s : Result Tight CheckFault) → Rewrites es r → Rewrites es s
    → r ≡ s
