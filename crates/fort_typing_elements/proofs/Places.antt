-- The first place where a function stands that an atom directly follows, found from number to
-- number.
use Rattle.std.proofs.Common.{◌≡◌, ◌≤◌, ℕ, zero, suc, ◌+◌, true, false, cond, List, [], ◌∷◌, length, drop, Some, None, Ok, refl, arith, ap, ◌∙◌, sym}
use Rattle.fort_juxt.specs.declared.elements.Element.{Element}
use Rattle.fort_juxt.specs.declared.elements.Tight.TheVariants as a_rewriting
use Rattle.fort_juxt.specs.Tight.{takes, postfix_first}
use Rattle.fort_typing_meaning.specs.Juxtaposing.{first_place, applying, fixing, next_rewriting}

ends : (n : ℕ) (es rest : List Element) → length es ≤ n → drop n es ≡ rest → rest ≡ []
ends zero [] rest l e = sym e
ends (suc n) [] rest l e = sym e
ends zero (x ∷ es) rest l e = absurd (omega arith)
ends (suc n) (x ∷ es) rest l e = ends n es rest (omega arith) e

met_there : (n : ℕ) (es : List Element) → takes es ≡ true → first_place takes n es ≡ Some (n, es)
met_there n [] m = absurd cc
met_there n (e ∷ es) m = ap (λ c. cond c (Some (n, e ∷ es)) (first_place takes (suc n) es)) m

same_applying : (es : List Element) (n : ℕ) (rest : List Element)
    → applying es (Some (n, rest)) ≡ applying [] (Some (n, rest))
same_applying es n [] = refl
same_applying es n (f ∷ []) = refl
same_applying es n (f ∷ a ∷ after) = refl

pub found_next : (es : List Element) (at : ℕ) (rest : List Element)
    → first_place takes 0 es ≡ first_place takes at rest → takes rest ≡ true
    → next_rewriting es ≡ applying [] (Some (at, rest))
unfolding next_rewriting
found_next es at rest f m = ap (applying es) (f ∙ met_there at rest m) ∙ same_applying es at rest

first_fixing : (es : List Element) → postfix_first es ≡ true
    → fixing es (first_place postfix_first 0 es) ≡ Ok a_rewriting.Whole
first_fixing [] p = absurd cc
first_fixing (e ∷ es) p =
    ap (λ c. fixing (e ∷ es) (cond c (Some (zero, e ∷ es)) (first_place postfix_first 1 es))) p

whole_next : (es : List Element) → first_place takes 0 es ≡ None → postfix_first es ≡ true
    → next_rewriting es ≡ Ok a_rewriting.Whole
unfolding next_rewriting
whole_next es f p = ap (applying es) f ∙ first_fixing es p

pub over_next : (es : List Element) (at : ℕ) (rest : List Element)
    → first_place takes 0 es ≡ first_place takes at rest → length rest ≡ 0 → postfix_first es ≡ true
    → next_rewriting es ≡ Ok a_rewriting.Whole
over_next es at [] f l p = whole_next es f p
over_next es at (e ∷ rest) f l p = absurd (omega arith)

pub ended_next : (es : List Element) (at : ℕ) (rest : List Element)
    → first_place takes 0 es ≡ first_place takes at rest → drop at es ≡ rest → length es ≤ at
    → postfix_first es ≡ true
    → next_rewriting es ≡ Ok a_rewriting.Whole
ended_next es at rest f e l p =
    whole_next es (f ∙ ap (first_place takes at) (ends at es rest l e)) p

one_on : (at : ℕ) (more : List Element) (e : Element) → takes (e ∷ more) ≡ false
    → first_place takes at (e ∷ more) ≡ first_place takes (suc at) more
one_on at more e u = ap (λ c. cond c (Some (at, e ∷ more)) (first_place takes (suc at) more)) u

pub steps_on : (at : ℕ) (rest more : List Element) (e : Element) → rest ≡ e ∷ more
    → takes rest ≡ false → first_place takes at rest ≡ first_place takes (at + 1) more
steps_on at rest more e is u =
    let n : suc at ≡ at + 1 = omega arith in
    ap (first_place takes at) is ∙ one_on at more e (ap takes (sym is) ∙ u) ∙ ap (λ
    (m : ℕ). first_place takes m more) n

drop_next : (n : ℕ) (es more : List Element) (e : Element) → drop n es ≡ e ∷ more
    → drop (suc n) es ≡ more
drop_next zero [] more e h = absurd cc
drop_next zero (x ∷ es) more e h = cc
drop_next (suc n) [] more e h = absurd cc
drop_next (suc n) (x ∷ es) more e h = drop_next n es more e h

pub drops_on : (n : ℕ) (es rest more : List Element) (e : Element) → drop n es ≡ rest
    → rest ≡ e ∷ more → drop (n + 1) es ≡ more
drops_on n es rest more e d is =
    let m : suc n ≡ n + 1 = omega arith in
    ap (λ (i : ℕ). drop i es) (sym m) ∙ drop_next n es more e (d ∙ is)

pub nothing_left : (es : List Element) → length es ≡ 0 → next_rewriting es ≡ Ok a_rewriting.Whole
unfolding next_rewriting
nothing_left [] e = refl
nothing_left (x ∷ es) e = absurd (omega arith)
