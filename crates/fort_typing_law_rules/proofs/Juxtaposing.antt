-- The next rewriting of a run and the grouping of elements, as the judge computes them.
use Rattle.std.proofs.Common.{◌≡◌, ℕ, zero, suc, ◌+◌, Bool, true, false, cond, List, [], ◌∷◌, ◌++◌, length, Some, None, Ok, Err, refl, arith, ap, ◌∙◌, sym}
use Rattle.fort_base.specs.declared.rules.TheConstants.{FUNCTION_AS_VALUE, TIGHT_ARGUMENT}
use Rattle.fort_base.specs.declared.refusal.CheckFault.TheVariants as a_fault
use Rattle.fort_juxt.specs.declared.elements.Element.{Element}
use Rattle.fort_juxt.specs.declared.elements.Tight.TheVariants as a_rewriting
use Rattle.fort_juxt.specs.First.{IsFirst, IsNowhere}
use Rattle.fort_juxt.specs.Tight.{takes, postfix_first, is_argument, applies, no_argument, applies_postfix, postfix_of_name, joins, first_is_name, second_is_name, whole}
use Rattle.fort_juxt.specs.Loose.{Chunk, name_ends, joined, chunk_groups, name_alone, grouped}
use Rattle.fort_juxt.specs.Walks.{chunks_of}
use Rattle.fort_juxt.proofs.Divisions.{one_division, divided}
use Rattle.fort_typing_meaning.specs.Juxtaposing.{first_place, element_at, joining, fixing_at, fixing, applying, next_rewriting, first_of, grouping_by, grouping_of}
use Rattle.fort_typing_law_rules.specs.Laws.{RewritingIsComputed, GroupingIsComputed}

-- ---- the first place

met_first : (test : List Element → Bool) (n : ℕ) (es : List Element) → test es ≡ true
    → first_place test n es ≡ Some (n, es)
met_first test n [] m = ap (λ c. cond c (Some (n, [])) None) m
met_first test n (e ∷ es) m = ap (λ c. cond c (Some (n, e ∷ es)) (first_place test (suc n) es)) m

-- a test that is met at a place is met first there
unmet_here : (test : List Element → Bool) (es before rest : List Element) (b : Element)
    → IsFirst test es (b ∷ before) rest → (c : Bool) → test es ≡ c → c ≡ false
unmet_here test es before rest b first false t = refl
unmet_here test es before rest b first true t =
    absurd (let l = first.least [] es refl t in omega arith)

found_at : (test : List Element → Bool) (before rest : List Element) (n : ℕ) (es : List Element)
    → IsFirst test es before rest → first_place test n es ≡ Some (n + length before, rest)
found_at test [] rest n es first =
    met_first test n es (ap test first.divided ∙ first.met) ∙ ap (λ
    (xs : List Element). Some (n, xs)) first.divided ∙ ap (λ
    (m : ℕ). Some (m, rest)) (omega arith)
found_at test (b ∷ before) rest n es first =
    let t : test (b ∷ (before ++ rest)) ≡ false =
    ap test (sym first.divided) ∙ unmet_here test es before rest b first (test es) refl in
    let inner : IsFirst test (before ++ rest) before rest =
    record {
      divided = refl;
      met = first.met;
      least = λ c r d m. let l = first.least (b ∷ c) r (first.divided ∙ ap (λ xs. b ∷ xs) d) m
          in omega arith;
    } in
    let r = found_at test before rest (suc n) (before ++ rest) inner in
    ap (first_place test n) first.divided
    ∙ ap (λ c. cond c (Some (n, b ∷ (before ++ rest))) (first_place test (suc n) (before ++ rest)))
    t
    ∙ r
    ∙ ap (λ (m : ℕ). Some (m, rest)) (omega arith)

found_nowhere : (test : List Element → Bool) (n : ℕ) (es : List Element) → IsNowhere test es
    → first_place test n es ≡ None
found_nowhere test n [] never = ap (λ c. cond c (Some (n, [])) None) (never.unmet [] [] refl)
found_nowhere test n (e ∷ es) never =
    ap (λ c. cond c (Some (n, e ∷ es)) (first_place test (suc n) es)) (never.unmet [] (e ∷ es) refl)
    ∙ found_nowhere test (suc n) es
    (record { unmet = λ b r d. never.unmet (e ∷ b) r (ap (λ xs. e ∷ xs) d) })

-- ---- runs

from_nothing : (n : ℕ) → zero + n ≡ n
from_nothing n = omega arith

pub stands_there : (before after : List Element) (x : Element)
    → element_at (before ++ x ∷ after) (length before) ≡ Some x
stands_there [] after x = refl
stands_there (b ∷ before) after x = stands_there before after x

pub one_longer : (before : List Element) (x : Element)
    → length (before ++ x ∷ []) ≡ suc (length before)
one_longer [] x = refl
one_longer (b ∷ before) x = ap suc (one_longer before x)

pub behind_one : (before after : List Element) (x : Element)
    → (before ++ x ∷ []) ++ after ≡ before ++ x ∷ after
behind_one [] after x = refl
behind_one (b ∷ before) after x = ap (λ xs. b ∷ xs) (behind_one before after x)

-- where some function takes what stands behind it
taking : (es before after : List Element) (f a : Element) → IsFirst takes es before (f ∷ a ∷ after)
    → next_rewriting es
    ≡ cond (is_argument a after) (Ok (a_rewriting.Apply (length before)))
    (Err (a_fault.Refused TIGHT_ARGUMENT a.place))
unfolding next_rewriting
taking es before after f a first =
    ap (applying es) (found_at takes before (f ∷ a ∷ after) zero es first)
    ∙ ap (λ (n : ℕ). cond (is_argument a after) (Ok (a_rewriting.Apply n))
    (Err (a_fault.Refused TIGHT_ARGUMENT a.place))) (from_nothing (length before))

-- where none does
untaken : (es : List Element) → IsNowhere takes es
    → next_rewriting es ≡ fixing es (first_place postfix_first zero es)
unfolding next_rewriting
untaken es never = ap (applying es) (found_nowhere takes zero es never)

following : (es before after : List Element) (x p : Element) → IsNowhere takes es
    → IsFirst postfix_first es (before ++ x ∷ []) (p ∷ after)
    → next_rewriting es
    ≡ cond x.named (Err (a_fault.Refused FUNCTION_AS_VALUE x.place))
    (Ok (a_rewriting.Postfix (length (before ++ x ∷ []))))
following es before after x p never first =
    let there : element_at es (length before) ≡ Some x =
    ap (λ xs. element_at xs (length before)) (first.divided ∙ behind_one before (p ∷ after) x)
    ∙ stands_there before (p ∷ after) x in
    untaken es never
    ∙ ap (fixing es) (found_at postfix_first (before ++ x ∷ []) (p ∷ after) zero es first)
    ∙ ap (λ (n : ℕ). fixing es (Some (n, p ∷ after))) (from_nothing (length (before ++ x ∷ []))
    ∙ one_longer before x)
    ∙ ap (fixing_at (length before)) there
    ∙ ap (λ (n : ℕ). cond x.named (Err (a_fault.Refused FUNCTION_AS_VALUE x.place))
    (Ok (a_rewriting.Postfix n))) (sym (one_longer before x))

together : (es after : List Element) (x y : Element) → IsNowhere takes es
    → IsNowhere postfix_first es → es ≡ x ∷ y ∷ after
    → next_rewriting es
    ≡ cond x.named (Err (a_fault.Refused FUNCTION_AS_VALUE x.place))
    (cond y.named (Err (a_fault.Refused FUNCTION_AS_VALUE y.place)) (Ok a_rewriting.Left))
together es after x y never none is =
    untaken es never ∙ ap (fixing es) (found_nowhere postfix_first zero es none) ∙ ap joining is

alone : (x : Element) (c : Bool) → x.postfix ≡ c
    → fixing (x ∷ []) (cond c (Some (zero, x ∷ [])) None) ≡ Ok a_rewriting.Whole
alone x true e = refl
alone x false e = refl

only : (x : Element) → next_rewriting (x ∷ []) ≡ Ok a_rewriting.Whole
unfolding next_rewriting
only x = alone x x.postfix refl

pub rewriting_is_computed : RewritingIsComputed
rewriting_is_computed es r (applies before after f a first alone_ is) =
    taking es before after f a first
    ∙ ap (λ c. cond c (Ok (a_rewriting.Apply (length before)))
    (Err (a_fault.Refused TIGHT_ARGUMENT a.place))) alone_ ∙ sym is
rewriting_is_computed es r (no_argument before after f a first alone_ is) =
    taking es before after f a first
    ∙ ap (λ c. cond c (Ok (a_rewriting.Apply (length before)))
    (Err (a_fault.Refused TIGHT_ARGUMENT a.place))) alone_ ∙ sym is
rewriting_is_computed es r (applies_postfix never before after x p first named is) =
    following es before after x p never first
    ∙ ap (λ c. cond c (Err (a_fault.Refused FUNCTION_AS_VALUE x.place))
    (Ok (a_rewriting.Postfix (length (before ++ x ∷ []))))) named ∙ sym is
rewriting_is_computed es r (postfix_of_name never before after x p first named is) =
    following es before after x p never first
    ∙ ap (λ c. cond c (Err (a_fault.Refused FUNCTION_AS_VALUE x.place))
    (Ok (a_rewriting.Postfix (length (before ++ x ∷ []))))) named ∙ sym is
rewriting_is_computed es r (joins never none x y after es_is first second is) =
    together es after x y never none es_is
    ∙ ap (λ c. cond c (Err (a_fault.Refused FUNCTION_AS_VALUE x.place))
    (cond y.named (Err (a_fault.Refused FUNCTION_AS_VALUE y.place)) (Ok a_rewriting.Left)))
    first
    ∙ ap (λ c. cond c (Err (a_fault.Refused FUNCTION_AS_VALUE y.place)) (Ok a_rewriting.Left))
    second ∙ sym is
rewriting_is_computed es r (first_is_name never none x y after es_is first is) =
    together es after x y never none es_is
    ∙ ap (λ c. cond c (Err (a_fault.Refused FUNCTION_AS_VALUE x.place))
    (cond y.named (Err (a_fault.Refused FUNCTION_AS_VALUE y.place)) (Ok a_rewriting.Left)))
    first ∙ sym is
rewriting_is_computed es r (second_is_name never none x y after es_is first second is) =
    together es after x y never none es_is
    ∙ ap (λ c. cond c (Err (a_fault.Refused FUNCTION_AS_VALUE x.place))
    (cond y.named (Err (a_fault.Refused FUNCTION_AS_VALUE y.place)) (Ok a_rewriting.Left)))
    first
    ∙ ap (λ c. cond c (Err (a_fault.Refused FUNCTION_AS_VALUE y.place)) (Ok a_rewriting.Left))
    second ∙ sym is
rewriting_is_computed es r (whole x es_is is) = ap next_rewriting es_is ∙ only x ∙ sym is

-- ---- juxtapositions

pub grouping_is_computed : GroupingIsComputed
unfolding grouping_of
grouping_is_computed es r (name_alone before after x first is) =
    ap (grouping_by es) (found_at name_ends before (x ∷ after) zero es first) ∙ sym is
grouping_is_computed es r (grouped never chunks division g joins_to is) =
    let same : chunks_of es ≡ chunks = one_division es (chunks_of es) chunks (divided es) division
    in
    ap (grouping_by es) (found_nowhere name_ends zero es never)
    ∙ ap (λ (cs : List Chunk). first_of (joined (chunk_groups 0 cs))) same
    ∙ ap first_of joins_to
    ∙ sym is
