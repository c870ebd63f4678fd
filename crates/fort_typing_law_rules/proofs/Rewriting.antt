-- What the judge computes as the next rewriting of a run is one, where the run's first element is
-- no postfix.
use Rattle.std.proofs.Common.{◌≡◌, ◌≤◌, ℕ, zero, suc, ◌+◌, Bool, true, false, cond, List, [], ◌∷◌, ◌++◌, length, Option, Some, None, Result, Ok, Err, refl, arith, ap, ◌∙◌, sym, subst}
use Rattle.fort_base.specs.declared.refusal.CheckFault.{CheckFault}
use Rattle.fort_base.specs.declared.refusal.CheckFault.TheVariants as a_fault
use Rattle.fort_base.specs.declared.rules.TheConstants.{FUNCTION_AS_VALUE, TIGHT_ARGUMENT}
use Rattle.fort_juxt.specs.declared.elements.Element.{Element}
use Rattle.fort_juxt.specs.declared.elements.Tight.{Tight}
use Rattle.fort_juxt.specs.declared.elements.Tight.TheVariants as a_rewriting
use Rattle.fort_juxt.specs.First.{IsFirst, IsNowhere}
use Rattle.fort_juxt.specs.Tight.{takes, postfix_first, is_argument, Rewrites, applies, no_argument, applies_postfix, postfix_of_name, joins, first_is_name, second_is_name, whole}
use Rattle.fort_typing_meaning.specs.Juxtaposing.{first_place, element_at, joining, fixing_at, fixing, applying, next_rewriting}
use Rattle.fort_typing_law_rules.proofs.Juxtaposing.{stands_there, one_longer, behind_one}

-- ---- the first place where a test is met

abbrev a_place : ℕ → List Element → Option (ℕ × List Element)
a_place n es = Some (n, es)

abbrev no_place : Option (ℕ × List Element)
no_place = None

abbrev number_of : Option (ℕ × List Element) → ℕ
number_of (Some (n, es)) = n
number_of None = zero

abbrev list_of : Option (ℕ × List Element) → List Element
list_of (Some (n, es)) = es
list_of None = []

abbrev pub Met : (List Element → Bool) → ℕ → List Element → ℕ → List Element → Type 0
Met test n es m rest = (before : List Element) × (m ≡ n + length before)
    × IsFirst test es before rest

met-here : (test : List Element → Bool) (n m : ℕ) (es rest : List Element) → test es ≡ true
    → a_place n es ≡ a_place m rest → Met test n es m rest
met-here test n m es rest t e =
    let p : n ≡ m = ap number_of e in let q : es ≡ rest = ap list_of e in (
      [],
      omega arith,
      record { divided = q; met = ap test (sym q) ∙ t; least = λ b r d h. omega arith },
    )

least-behind : (test : List Element → Bool) (e : Element) (es before rest : List Element)
    → test (e ∷ es) ≡ false → IsFirst test es before rest
    → (b r : List Element) → e ∷ es ≡ b ++ r → test r ≡ true → suc (length before) ≤ length b
least-behind test e es before rest f first [] r d h = absurd
    (let z : test (e ∷ es) ≡ true = ap test d ∙ h in let y : true ≡ false = sym z ∙ f in cc)
least-behind test e es before rest f first (x ∷ b) r d h =
    let q : es ≡ b ++ r = cc in let l = first.least b r q h in omega arith

met-behind : (test : List Element → Bool) (n m : ℕ) (e : Element) (es rest : List Element)
    → test (e ∷ es) ≡ false → Met test (suc n) es m rest → Met test n (e ∷ es) m rest
met-behind test n m e es rest f (before, q, first) = (
  e ∷ before,
  omega arith,
  record {
    divided = ap (λ xs. e ∷ xs) first.divided;
    met = first.met;
    least = least-behind test e es before rest f first;
  },
)

pub first-told : (test : List Element → Bool) (n m : ℕ) (es rest : List Element)
    → first_place test n es ≡ Some (m, rest) → Met test n es m rest
first-told test n m [] rest e = by (test []) refl e
  where
    by : (c : Bool) → test [] ≡ c → cond c (a_place n []) no_place ≡ a_place m rest
        → Met test n [] m rest
    by true t e = met-here test n m [] rest t e
    by false t e = absurd cc
first-told test n m (x ∷ es) rest e =
    by (λ h. first-told test (suc n) m es rest h) (test (x ∷ es)) refl e
  where
    by : (first_place test (suc n) es ≡ Some (m, rest) → Met test (suc n) es m rest) → (c : Bool)
        → test (x ∷ es) ≡ c
        → cond c (a_place n (x ∷ es)) (first_place test (suc n) es) ≡ a_place m rest
        → Met test n (x ∷ es) m rest
    by more true t e = met-here test n m (x ∷ es) rest t e
    by more false t e = met-behind test n m x es rest t (more e)

unmet-at : (test : List Element → Bool) (e : Element) (es : List Element) → test (e ∷ es) ≡ false
    → IsNowhere test es → (b r : List Element) → e ∷ es ≡ b ++ r → test r ≡ false
unmet-at test e es f never [] r d = ap test (sym d) ∙ f
unmet-at test e es f never (x ∷ b) r d = let q : es ≡ b ++ r = cc in never.unmet b r q

none-of-none : (test : List Element → Bool) → test [] ≡ false → (b r : List Element) → [] ≡ b ++ r
    → test r ≡ false
none-of-none test f [] r d = ap test (sym d) ∙ f
none-of-none test f (x ∷ b) r d = absurd cc

pub nowhere-told : (test : List Element → Bool) (n : ℕ) (es : List Element)
    → first_place test n es ≡ None → IsNowhere test es
nowhere-told test n [] e = by (test []) refl e
  where
    by : (c : Bool) → test [] ≡ c → cond c (a_place n []) no_place ≡ no_place → IsNowhere test []
    by true t e = absurd cc
    by false t e = record { unmet = none-of-none test t }
nowhere-told test n (x ∷ es) e = by (λ h. nowhere-told test (suc n) es h) (test (x ∷ es)) refl e
  where
    by : (first_place test (suc n) es ≡ None → IsNowhere test es) → (c : Bool) → test (x ∷ es) ≡ c
        → cond c (a_place n (x ∷ es)) (first_place test (suc n) es) ≡ no_place
        → IsNowhere test (x ∷ es)
    by more true t e = absurd cc
    by more false t e = record { unmet = unmet-at test x es t (more e) }

-- ---- the next rewriting

abbrev Told : List Element → Result Tight CheckFault → Type 0
Told es r = Rewrites es r

from-zero : (m n : ℕ) → m ≡ zero + n → m ≡ n
from-zero m n e = omega arith

taken-told : (es rest : List Element) (m : ℕ) → Met takes zero es m rest
    → Told es (applying es (Some (m, rest)))
taken-told es [] m (before, q, first) = absurd (let z : false ≡ true = first.met in cc)
taken-told es (f ∷ []) m (before, q, first) = absurd (let z : false ≡ true = first.met in cc)
taken-told es (f ∷ a ∷ after) m (before, q, first) = by (is_argument a after) refl
  where
    by : (c : Bool) → is_argument a after ≡ c
        → Told es (cond c (Ok (a_rewriting.Apply m)) (Err (a_fault.Refused TIGHT_ARGUMENT a.place)))
    by true h =
        applies before after f a first h (ap (λ
        (n : ℕ). Ok (a_rewriting.Apply n)) (from-zero m (length before) q))
    by false h = no_argument before after f a first h refl

-- a list that isn't empty ends with something
ended : (x : Element) (xs : List Element)
    → (init : List Element) × (last : Element) × (x ∷ xs ≡ init ++ last ∷ [])
ended x [] = ([], x, refl)
ended x (y ∷ ys) = let r = ended y ys in (x ∷ r.0, r.1, ap (λ zs. x ∷ zs) r.2)

fixed-told : (es : List Element) (x : Element) (xs : List Element) → es ≡ x ∷ xs → x.postfix ≡ false
    → IsNowhere takes es → (rest : List Element) (m : ℕ) → Met postfix_first zero es m rest
    → Told es (fixing es (Some (m, rest)))
fixed-told es x xs is plain never [] m (before, q, first) = absurd
    (let z : false ≡ true = first.met in cc)
fixed-told es x xs is plain never (p ∷ after) m ([], q, first) =
    absurd (let s : x ≡ p = (let d : x ∷ xs ≡ p ∷ after = sym is ∙ first.divided in cc)
    in let z : p.postfix ≡ true = first.met
    in let y : true ≡ false = sym z ∙ ap (λ (e : Element). e.postfix) (sym s) ∙ plain in cc)
fixed-told es x xs is plain never (p ∷ after) m (b ∷ before, q, first) = by (ended b before)
  where
    by : (init : List Element) × (last : Element) × (b ∷ before ≡ init ++ last ∷ [])
        → Told es (fixing es (Some (m, p ∷ after)))
    by (init, last, e) =
        subst (λ (n : ℕ). Told es (fixing es (Some (n, p ∷ after)))) (sym number)
        (subst (λ o. Told es (fixing_at (length init) o)) (sym there) (named last.named refl))
      where
        number : m ≡ suc (length init)
        number = from-zero m (length (b ∷ before)) q ∙ ap length e ∙ one_longer init last

        first2 : IsFirst postfix_first es (init ++ last ∷ []) (p ∷ after)
        first2 = subst (λ (bs : List Element). IsFirst postfix_first es bs (p ∷ after)) e first

        there : element_at es (length init) ≡ Some last
        there = ap (λ zs. element_at zs (length init)) (first2.divided
            ∙ behind_one init (p ∷ after) last) ∙ stands_there init (p ∷ after) last

        named : (c : Bool) → last.named ≡ c
            → Told es
            (cond c (Err (a_fault.Refused FUNCTION_AS_VALUE last.place))
            (Ok (a_rewriting.Postfix (suc (length init)))))
        named true h = postfix_of_name never init after last p first2 h refl
        named false h =
            applies_postfix never init after last p first2 h (ap (λ
            (n : ℕ). Ok (a_rewriting.Postfix n)) (sym (one_longer init last)))

joined-told : (es : List Element) (x : Element) (xs : List Element) → es ≡ x ∷ xs
    → IsNowhere takes es → IsNowhere postfix_first es → Told es (joining (x ∷ xs))
joined-told es x [] is never none = whole x is refl
joined-told es x (y ∷ after) is never none = by x.named refl
  where
    second : x.named ≡ false → (c : Bool) → y.named ≡ c
        → Told es (cond c (Err (a_fault.Refused FUNCTION_AS_VALUE y.place)) (Ok a_rewriting.Left))
    second g true h = second_is_name never none x y after is g h refl
    second g false h = joins never none x y after is g h refl

    by : (c : Bool) → x.named ≡ c
        → Told es
        (cond c (Err (a_fault.Refused FUNCTION_AS_VALUE x.place))
        (cond y.named (Err (a_fault.Refused FUNCTION_AS_VALUE y.place)) (Ok a_rewriting.Left)))
    by true g = first_is_name never none x y after is g refl
    by false g = second g y.named refl

pub rewriting_told : (x : Element) (xs : List Element) → x.postfix ≡ false
    → Rewrites (x ∷ xs) (next_rewriting (x ∷ xs))
unfolding next_rewriting
rewriting_told x xs plain = by (first_place takes zero (x ∷ xs)) refl
  where
    fixes : IsNowhere takes (x ∷ xs) → (o : Option (ℕ × List Element))
        → first_place postfix_first zero (x ∷ xs) ≡ o → Told (x ∷ xs) (fixing (x ∷ xs) o)
    fixes never (Some (m, rest)) e =
        fixed-told (x ∷ xs) x xs refl plain never rest m
        (first-told postfix_first zero m (x ∷ xs) rest e)
    fixes never None e =
        joined-told (x ∷ xs) x xs refl never (nowhere-told postfix_first zero (x ∷ xs) e)

    by : (o : Option (ℕ × List Element)) → first_place takes zero (x ∷ xs) ≡ o
        → Told (x ∷ xs) (applying (x ∷ xs) o)
    by (Some (m, rest)) e = taken-told (x ∷ xs) rest m (first-told takes zero m (x ∷ xs) rest e)
    by None e =
        fixes (nowhere-told takes zero (x ∷ xs) e) (first_place postfix_first zero (x ∷ xs)) refl
