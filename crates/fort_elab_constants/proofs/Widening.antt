-- Arguments that are widened one after another.
use Rattle.std.proofs.Common.{◌≡◌, ℕ, ◌+◌, ◌<◌, ◌≤◌, Bool, true, false, List, [], ◌∷◌, ◌++◌, drop, length, get_or, refl, sym, ap, ◌∙◌, arith, append_assoc}
use Rattle.std.proofs.lemmas.List.{drop_more, drop_all, drop-drop, get_or-drop, append-nil}
use Rattle.fort_core.specs.declared.term.Term.{Term}
use Rattle.fort_elab_meaning.specs.Calls.{argument, widened}
use Rattle.fort_elab_meaning.specs.Parts.{Given}

none_left : (g : Given) (ws : List Bool) → widened g ws [] ≡ []
none_left g [] = refl
none_left g (w ∷ ws) = refl

first : (g : Given) (ws : List Bool) (t : Term) (ts : List Term)
    → widened g ws (t ∷ ts) ≡ argument g (get_or ws 0 false) t ∷ widened g (drop 1 ws) ts
first g [] t ts = refl
first g (w ∷ ws) t ts = refl

-- the argument of a number, and those behind it
next : (g : Given) (ws : List Bool) (ts : List Term) (i : ℕ) (t : Term) → i < length ts
    → widened g (drop i ws) (drop i ts)
    ≡ argument g (get_or ws i false) (get_or ts i t) ∷ widened g (drop (i + 1) ws) (drop (i + 1) ts)
next g ws ts i t lt = let k : i + 0 ≡ i = omega arith in
    ap (λ (us : List Term). widened g (drop i ws) us) (drop_more ts i t lt)
    ∙ first g (drop i ws) (get_or ts i t) (drop (i + 1) ts)
    ∙ ap (λ (b : Bool). argument g b (get_or ts i t)
    ∷ widened g (drop 1 (drop i ws)) (drop (i + 1) ts)) (get_or-drop i ws 0 false ∙ ap (λ
    (j : ℕ). get_or ws j false) k)
    ∙ ap (λ (d : List Bool). argument g (get_or ws i false) (get_or ts i t)
    ∷ widened g d (drop (i + 1) ts)) (drop-drop 1 i ws)

-- one argument more is made
pub one_more : (g : Given) (ws : List Bool) (ts made : List Term) (i : ℕ) (t x : Term)
    {whole : List Term} → i < length ts → t ≡ get_or ts i t
    → x ≡ argument g (get_or ws i false) t → made ++ widened g (drop i ws) (drop i ts) ≡ whole
    → (made ++ x ∷ []) ++ widened g (drop (i + 1) ws) (drop (i + 1) ts) ≡ whole
one_more g ws ts made i t x lt is e h =
    append_assoc made (x ∷ []) (widened g (drop (i + 1) ws) (drop (i + 1) ts))
    ∙ ap (λ (y : Term). made ++ (y ∷ widened g (drop (i + 1) ws) (drop (i + 1) ts))) (e
    ∙ ap (argument g (get_or ws i false)) is)
    ∙ ap (λ (us : List Term). made ++ us) (sym (next g ws ts i t lt)) ∙ h

-- all arguments are made
pub all_widened : (g : Given) (ws : List Bool) (ts made : List Term) (i : ℕ) {whole : List Term}
    → length ts ≤ i
    → made ++ widened g (drop i ws) (drop i ts) ≡ whole → made ≡ whole
all_widened g ws ts made i le h =
    sym (append-nil made) ∙ ap (λ
    (us : List Term). made ++ us)
    (sym (ap (λ
    (us : List Term). widened g (drop i ws) us) (drop_all i ts le) ∙ none_left g (drop i ws)))
    ∙ h
