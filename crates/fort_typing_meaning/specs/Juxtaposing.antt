-- The chapter "Juxtaposition": the next rewriting of a run, and the grouping of elements, as they
-- are computed. The chapter's own sentences are in fort_juxt.
use Rattle.std.specs.Prelude.{ℕ, zero, suc, ◌+◌, Bool, true, false, cond, not, ◌&&◌, List, [], ◌∷◌, length, Option, Some, None, Result, Ok, Err}
use Rattle.fort_base.specs.declared.rules.TheConstants.{FUNCTION_AS_VALUE, TIGHT_ARGUMENT}
use Rattle.fort_base.specs.declared.refusal.CheckFault.{CheckFault}
use Rattle.fort_base.specs.declared.refusal.CheckFault.TheVariants as a_fault
use Rattle.fort_juxt.specs.declared.elements.Element.{Element}
use Rattle.fort_juxt.specs.declared.elements.Tight.{Tight}
use Rattle.fort_juxt.specs.declared.elements.Tight.TheVariants as a_rewriting
use Rattle.fort_juxt.specs.declared.elements.Grouping.{Grouping}
use Rattle.fort_juxt.specs.Tight.{takes, postfix_first, is_argument}
use Rattle.fort_juxt.specs.Loose.{name_ends, joined}
use Rattle.fort_juxt.specs.Walks.{groups_from}

-- the elements from the first place on where a test is met, and how many stand before
abbrev pub first_place : (List Element → Bool) → ℕ → List Element → Option (ℕ × List Element)
first_place test n [] = cond (test []) (Some (n, [])) None
first_place test n (e ∷ es) = cond (test (e ∷ es)) (Some (n, e ∷ es)) (first_place test (suc n) es)

-- an element at a number
abbrev pub element_at : List Element → ℕ → Option Element
element_at [] n = None
element_at (e ∷ es) zero = Some e
element_at (e ∷ es) (suc n) = element_at es n

abbrev pub joining : List Element → Result Tight CheckFault
joining (x ∷ y ∷ after) =
    cond x.named (Err (a_fault.Refused FUNCTION_AS_VALUE x.place))
    (cond y.named (Err (a_fault.Refused FUNCTION_AS_VALUE y.place)) (Ok a_rewriting.Left))
joining _ = Ok a_rewriting.Whole

abbrev pub fixing_at : ℕ → Option Element → Result Tight CheckFault
fixing_at n (Some x) =
    cond x.named (Err (a_fault.Refused FUNCTION_AS_VALUE x.place))
    (Ok (a_rewriting.Postfix (suc n)))
fixing_at n None = Ok a_rewriting.Whole

abbrev pub fixing : List Element → Option (ℕ × List Element) → Result Tight CheckFault
fixing es (Some (suc n, after)) = fixing_at n (element_at es n)
fixing es (Some (zero, after)) = Ok a_rewriting.Whole
fixing es None = joining es

abbrev pub applying : List Element → Option (ℕ × List Element) → Result Tight CheckFault
applying es (Some (n, f ∷ a ∷ after)) =
    cond (is_argument a after) (Ok (a_rewriting.Apply n))
    (Err (a_fault.Refused TIGHT_ARGUMENT a.place))
applying es (Some (n, _)) = Ok a_rewriting.Whole
applying es None = fixing es (first_place postfix_first zero es)

-- the next rewriting of a run, or its refusal
unfoldable pub next_rewriting : List Element → Result Tight CheckFault
next_rewriting es = applying es (first_place takes zero es)

abbrev pub first_of : List Grouping → Result Grouping CheckFault
first_of (g ∷ gs) = Ok g
first_of [] = Err a_fault.Memory

abbrev pub grouping_by : List Element → Option (ℕ × List Element) → Result Grouping CheckFault
grouping_by es (Some (n, x ∷ after)) = Err (a_fault.Refused FUNCTION_AS_VALUE x.place)
grouping_by es (Some (n, [])) = Err a_fault.Memory
grouping_by es None = first_of (joined (groups_from es 0))

-- the grouping of elements, or its refusal
unfoldable pub grouping_of : List Element → Result Grouping CheckFault
grouping_of es = grouping_by es (first_place name_ends zero es)
