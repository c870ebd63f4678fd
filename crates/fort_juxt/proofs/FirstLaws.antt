-- The first place where a test is met: it is one, and the code finds it by its number.
use Rattle.std.proofs.Common.{◌≡◌, inl, inr, ℕ, suc, ◌+◌, ◌<◌, ◌≤◌, Bool, true, false, List, [], ◌∷◌, ◌++◌, length, take, drop, get_or, sym, ap, ◌∙◌, arith}
use Rattle.std.proofs.Math.Seq.{drop-cons, take-append_seam, drop-append_seam}
use Rattle.std.proofs.Math.ListN.{drop_of_length-le}
use Rattle.std.proofs.lemmas.Bool.{cases_lt}
use Rattle.std.proofs.lemmas.List.{length-take-le, take-append-drop}
use Rattle.fort_juxt.specs.declared.elements.Element.{Element}
use Rattle.fort_juxt.specs.First.{IsFirst, IsNowhere}
use Rattle.fort_juxt.specs.Walks.{IsAt, IsUnmet}

pub first_once : (test : List Element → Bool) (es b r c s : List Element) → IsFirst test es b r
    → IsFirst test es c s → (b ≡ c) × (r ≡ s)
first_once test es b r c s h k =
    let n : length b ≡ length c =
    (let x = h.least c s k.divided k.met in let y = k.least b r h.divided h.met in omega arith)
    in (
      sym (take-append_seam b r)
          ∙ (ap (take (length b)) (sym h.divided)
          ∙ (ap (λ m. take m es) n ∙ (ap (take (length c)) k.divided ∙ take-append_seam c s))),
      sym (drop-append_seam b r)
          ∙ (ap (drop (length b)) (sym h.divided)
          ∙ (ap (λ m. drop m es) n ∙ (ap (drop (length c)) k.divided ∙ drop-append_seam c s))),
    )

pub never_both : (test : List Element → Bool) (es b r : List Element) → IsFirst test es b r
    → IsNowhere test es → ⊥
never_both test es b r h k = let e : true ≡ false = sym h.met ∙ k.unmet b r h.divided in absurd cc

-- what stands behind a front
behind : (es b r : List Element) → es ≡ b ++ r → drop (length b) es ≡ r
behind es b r d = ap (drop (length b)) d ∙ drop-append_seam b r

least_at : (test : List Element → Bool) (es : List Element) (at : ℕ) → IsAt test es at
    → (b r : List Element) → es ≡ b ++ r → test r ≡ true → at ≤ length b
least_at test es at h b r d m = elim (cases_lt (length b) at) as (λ z. at ≤ length b) [
  | inl l ↦
      (let e : false ≡ true = sym (h.least (length b) l) ∙ (ap test (behind es b r d) ∙ m) in absurd cc)
  | inr l ↦ omega arith
]

pub at_first : (test : List Element → Bool) (es : List Element) (at : ℕ) (rest : List Element)
    → IsAt test es at → drop at es ≡ rest → IsFirst test es (take at es) rest
at_first test es at rest h e = record {
  divided = sym (take-append-drop at es) ∙ ap (λ r. take at es ++ r) e;
  met = ap test (sym e) ∙ h.met;
  least = λ b r d m. let n = length-take-le at es (let w = h.within in omega arith)
      in let l = least_at test es at h b r d m in omega arith;
}

pub at_nowhere : (test : List Element → Bool) (es : List Element) → test [] ≡ false
    → IsUnmet test es → IsNowhere test es
at_nowhere test es n h = record {
  unmet = λ b r d. elim (cases_lt (length b) (length es)) as (λ z. test r ≡ false) [
    | inl l ↦ ap test (sym (behind es b r d)) ∙ h.unmet (length b) l
    | inr l ↦ ap test (sym (behind es b r d) ∙ drop_of_length-le es (omega arith)) ∙ n
  ];
}

-- the first two elements of what stands from a number on
pub drop_one : (es : List Element) (at : ℕ) (d : Element) → at < length es
    → drop at es ≡ get_or es at d ∷ drop (at + 1) es
drop_one es at d h = drop-cons es at d h ∙ ap (λ n. get_or es at d ∷ drop n es)
    (let e : suc at ≡ at + 1 = omega arith in e)

pub drop_two : (es : List Element) (at : ℕ) (d : Element) → at + 1 < length es
    → drop at es ≡ get_or es at d ∷ get_or es (at + 1) d ∷ drop (at + 2) es
drop_two es at d h =
    drop_one es at d (omega arith)
    ∙ ap (λ r. get_or es at d ∷ r) (drop_one es (at + 1) d h
    ∙ ap (λ n. get_or es (at + 1) d ∷ drop n es)
    (let e : at + 1 + 1 ≡ at + 2 = omega arith in e))
