-- A run has at most one next rewriting or refusal.
use Rattle.std.proofs.Common.{◌≡◌, ℕ, true, false, cond, List, [], ◌∷◌, ◌++◌, length, get_or, Result, Ok, Err, refl, sym, ap, ◌∙◌, arith}
use Rattle.std.proofs.lemmas.List.{length-append, length_push}
use Rattle.std.proofs.Math.Seq.{get_or-append_seam}
use Rattle.fort_base.specs.declared.rules.TheConstants.{FUNCTION_AS_VALUE, TIGHT_ARGUMENT}
use Rattle.fort_base.specs.declared.refusal.CheckFault.{CheckFault}
use Rattle.fort_base.specs.declared.refusal.CheckFault.TheVariants as a_fault
use Rattle.fort_juxt.specs.declared.elements.Element.{Element}
use Rattle.fort_juxt.specs.declared.elements.Tight.{Tight}
use Rattle.fort_juxt.specs.declared.elements.Tight.TheVariants as a_rewriting
use Rattle.fort_juxt.specs.First.{IsFirst, IsNowhere}
use Rattle.fort_juxt.specs.Tight.{takes, postfix_first, is_argument, Rewrites, applies, no_argument, applies_postfix, postfix_of_name, joins, first_is_name, second_is_name, whole, OneRewriting}
use Rattle.fort_juxt.proofs.FirstLaws.{first_once, never_both}

abbrev Answer : Type 0
Answer = Result Tight CheckFault

-- what comes of a function with an atom behind it, of an element with a postfix behind it, and of
-- the first two elements
abbrev of_argument : ℕ → Element → List Element → Answer
of_argument n a after =
    cond (is_argument a after) (Ok (a_rewriting.Apply n))
    (Err (a_fault.Refused TIGHT_ARGUMENT a.place))

abbrev of_postfix : ℕ → Element → Answer
of_postfix n x =
    cond x.named (Err (a_fault.Refused FUNCTION_AS_VALUE x.place)) (Ok (a_rewriting.Postfix n))

abbrev of_first : List Element → Answer
of_first [] = Ok a_rewriting.Whole
of_first (x ∷ []) = Ok a_rewriting.Whole
of_first (x ∷ y ∷ after) =
    cond x.named (Err (a_fault.Refused FUNCTION_AS_VALUE x.place))
    (cond y.named (Err (a_fault.Refused FUNCTION_AS_VALUE y.place)) (Ok a_rewriting.Left))

record NoneTakes (es : List Element) : Type 0 where
  pub told : (before after : List Element) (f a : Element) → IsFirst takes es before (f ∷ a ∷ after)
      → ⊥

record NoneFixed (es : List Element) : Type 0 where
  pub told : (before after : List Element) (x p : Element)
      → IsFirst postfix_first es (before ++ x ∷ []) (p ∷ after) → ⊥

-- the three kinds of what comes next
data Kind (es : List Element) (r : Answer) : Type 0 where
  taken : (before after : List Element) (f a : Element) → IsFirst takes es before (f ∷ a ∷ after)
      → r ≡ of_argument (length before) a after → Kind es r
  fixed : NoneTakes es → (before after : List Element) (x p : Element)
      → IsFirst postfix_first es (before ++ x ∷ []) (p ∷ after)
      → r ≡ of_postfix (length (before ++ x ∷ [])) x → Kind es r
  left : NoneTakes es → NoneFixed es → r ≡ of_first es → Kind es r

none_takes : (es : List Element) → IsNowhere takes es → NoneTakes es
none_takes es n = record { told = λ b s f a h. never_both takes es b (f ∷ a ∷ s) h n }

none_fixed : (es : List Element) → IsNowhere postfix_first es → NoneFixed es
none_fixed es n =
    record { told = λ b s x p h. never_both postfix_first es (b ++ x ∷ []) (p ∷ s) h n }

single_takes : (x : Element) (es : List Element) → es ≡ x ∷ [] → NoneTakes es
single_takes x es e =
    record {
      told = λ b s f a h. let d = ap length (sym e ∙ h.divided)
          in let l = length-append b (f ∷ a ∷ s) in omega arith;
    }

single_fixed : (x : Element) (es : List Element) → es ≡ x ∷ [] → NoneFixed es
single_fixed x es e = record {
  told = λ b s y p h. let d = ap length (sym e ∙ h.divided)
      in let l = length-append (b ++ y ∷ []) (p ∷ s) in let m = length-append b (y ∷ [])
      in omega arith;
}

fixed_free : (n : ℕ) (x : Element) → x.named ≡ false → of_postfix n x ≡ Ok (a_rewriting.Postfix n)
fixed_free n x m = rw m refl

fixed_named : (n : ℕ) (x : Element) → x.named ≡ true
    → of_postfix n x ≡ Err (a_fault.Refused FUNCTION_AS_VALUE x.place)
fixed_named n x m = rw m refl

kind_of : (es : List Element) (r : Answer) → Rewrites es r → Kind es r
kind_of es r (applies b s f a h i q) = taken b s f a h (rw i q)
kind_of es r (no_argument b s f a h i q) = taken b s f a h (rw i q)
kind_of es r (applies_postfix n b s x p h m q) =
    fixed (none_takes es n) b s x p h (q ∙ sym (fixed_free (length (b ++ x ∷ [])) x m))
kind_of es r (postfix_of_name n b s x p h m q) =
    fixed (none_takes es n) b s x p h (q ∙ sym (fixed_named (length (b ++ x ∷ [])) x m))
kind_of es r (joins n o x y s e i j q) = left (none_takes es n) (none_fixed es o) (rw (e, i, j) q)
kind_of es r (first_is_name n o x y s e i q) =
    left (none_takes es n) (none_fixed es o) (rw (e, i) q)
kind_of es r (second_is_name n o x y s e i j q) =
    left (none_takes es n) (none_fixed es o) (rw (e, i, j) q)
kind_of es r (whole x e q) = left (single_takes x es e) (single_fixed x es e) (rw e q)

once : (es : List Element) (r s : Answer) → Kind es r → Kind es s → r ≡ s
once es r s (taken b t f a h q) (taken c u g d k p) =
    let o = first_once takes es b (f ∷ a ∷ t) c (g ∷ d ∷ u) h k in let e = o.0 in let i = o.1 in cc
once es r s (taken b t f a h q) (fixed n c u y z k p) = absurd (n.told b t f a h)
once es r s (taken b t f a h q) (left n o p) = absurd (n.told b t f a h)
once es r s (fixed n c u y z k p) (taken b t f a h q) = absurd (n.told b t f a h)
once es r s (fixed n b t x v h q) (fixed m c u y z k p) =
    let o = first_once postfix_first es (b ++ x ∷ []) (v ∷ t) (c ++ y ∷ []) (z ∷ u) h k
    in q ∙ (last_of b c x y o.0 ∙ sym p)
  where
    last_of : (b c : List Element) (x y : Element) → b ++ x ∷ [] ≡ c ++ y ∷ []
        → of_postfix (length (b ++ x ∷ [])) x ≡ of_postfix (length (c ++ y ∷ [])) y
    last_of b c x y e =
        let n : length b ≡ length c =
        (let l = ap length e in let m = length_push b x in let o = length_push c y
        in omega arith) in
        let l : x ≡ y =
        sym (get_or-append_seam b x [] x)
        ∙ (ap (λ l. get_or l (length b) x) e
        ∙ (ap (λ n. get_or (c ++ y ∷ []) n x) n ∙ get_or-append_seam c y [] x)) in
        ap (λ m. of_postfix m x) (ap length e) ∙ ap (of_postfix (length (c ++ y ∷ []))) l
once es r s (fixed n b t x v h q) (left m o p) = absurd (o.told b t x v h)
once es r s (left n o p) (taken b t f a h q) = absurd (n.told b t f a h)
once es r s (left m o p) (fixed n b t x v h q) = absurd (o.told b t x v h)
once es r s (left n o p) (left m q u) = p ∙ sym u

pub one_rewriting : OneRewriting
one_rewriting es r s h k = once es r s (kind_of es r h) (kind_of es s k)
