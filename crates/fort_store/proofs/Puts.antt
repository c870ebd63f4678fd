-- Lists of locations with values, put into a store from behind.
use Rattle.std.proofs.Common.{◌≡◌, ℕ, zero, suc, ◌-◌, ◌<◌, List, [], ◌∷◌, drop, length, slice_get, Some, None, refl, sym, ap, ◌∙◌, subst, arith}
use Rattle.std.proofs.lemmas.Option.{none-some, same_Some}
use Rattle.fort_base.specs.declared.ids.Loc.{Loc}
use Rattle.fort_core.specs.declared.value.Value.{Value}
use Rattle.fort_machine.specs.Effects.{Store}
use Rattle.fort_machine.specs.Journals.{value_in}
use Rattle.fort_machine.specs.Plain.{put}

-- behind the end of a list nothing is left
nothing_left : (es : List (Loc × Value)) → value_in [] ≡ value_in (drop (length es) es)
nothing_left [] = refl
nothing_left (e ∷ es) = nothing_left es

pub none_yet : (es xs : List (Loc × Value)) (s : Store) → xs ≡ es → s ≡ (λ l. None)
    → s ≡ value_in (drop (length xs) es)
none_yet es xs s q h =
    subst (λ (ys : List (Loc × Value)). s
    ≡ value_in (drop (length ys) es)) (sym q) (h ∙ nothing_left es)

-- a value more from behind
more_at : (es : List (Loc × Value)) (i : ℕ) (e : Loc × Value) (s : Store) → slice_get es i ≡ Some e
    → s ≡ value_in (drop (suc i) es) → put e.0.0 e.1 s ≡ value_in (drop i es)
more_at [] i e s a h = absurd (none-some e a)
more_at (x ∷ xs) zero e s a h =
    subst (λ (y : Loc × Value). put y.0.0 y.1 s
    ≡ value_in (x ∷ xs)) (same_Some x e a) (ap (put x.0.0 x.1) h)
more_at (x ∷ xs) (suc i) e s a h = more_at xs i e s a h

pub one_more : (es xs : List (Loc × Value)) (i : ℕ) (e : Loc × Value) (v : Value) (s t : Store)
    → xs ≡ es → 0 < i → slice_get xs (i - 1) ≡ Some e → v ≡ e.1
    → s ≡ value_in (drop i es) → t ≡ put e.0.0 v s → t ≡ value_in (drop (i - 1) es)
one_more es xs zero e v s t q w a c h u = let f : ⊥ = omega (arith, w) in absurd f
one_more es xs (suc k) e v s t q w a c h u =
    let p : suc k - 1 ≡ k = omega arith in
    let b : slice_get es k ≡ Some e =
    subst (λ n. slice_get es n ≡ Some e) p (subst (λ
    (ys : List (Loc × Value)). slice_get ys (suc k - 1) ≡ Some e) q a) in
    u ∙ (ap (λ z. put e.0.0 z s) c
    ∙ (more_at es k e s b h ∙ ap (λ n. value_in (drop n es)) (sym p)))
