-- A store again, and what was done to it, cell by cell from behind.
use Rattle.std.proofs.Common.{◌≡◌, ℕ, zero, suc, ◌+◌, ◌-◌, ◌<◌, ◌≤◌, ◌==◌, Bool, true, false, List, [], ◌∷◌, drop, length, slice_get, Option, Some, None, refl, sym, ap, ◌∙◌, subst, arith, cond, nat_eq}
use Rattle.std.specs.Map.{lookup}
use Rattle.std.proofs.Math.Path.{fun_ext}
use Rattle.std.proofs.lemmas.Bool.{eqb-true, eq-eqb}
use Rattle.std.proofs.lemmas.Option.{none-some, same_Some}
use Rattle.fort_store.specs.Held.{held}
use Rattle.fort_machine.specs.Effects.{Store, Effect, idle, both}
use Rattle.fort_machine.proofs.WholeEffects.{idle_both}
use Rattle.fort_store_effects.specs.Again.{only_store, silent}
use Rattle.fort_machine.specs.Cells.{untouched}
use Rattle.fort_store_effects.specs.Cells.{cell, cell_of}
use Rattle.fort_store_effects.specs.Levels.{Levels, attempts_of, cells_of, effect_of, levels_of, seen, through, closing}
use Rattle.fort_store_effects.specs.declared.cell.Cell.{Cell}
use Rattle.fort_store_effects.specs.declared.cell.Cell.TheVariants.{Found, Made}
use Rattle.fort_store_effects.specs.declared.cell.Closing.{Closing}
use Rattle.fort_store_effects.specs.declared.layer.Layer.{Layer}
use Rattle.fort_store_effects.specs.declared.layers.Layers.{Layers}

-- the store of levels without an attempt
pub alone : (v w : Levels) → v.attempts ≡ [] → w.store ≡ v.store → w.output ≡ [] → w.cost ≡ 0
    → w.attempts ≡ [] → w ≡ only_store (seen v)
alone v w a s o c e =
    let same : w.store ≡ seen v = s ∙ ap (through v.store) (sym a) in
    λ i. record { store = same i; output = o i; cost = c i; attempts = e i }

same_either_way : (a b : ℕ) → (a == b) ≡ (b == a)
same_either_way a b = go (a == b) (b == a) refl refl
  where
    go : (x y : Bool) → (a == b) ≡ x → (b == a) ≡ y → x ≡ y
    go true true p q = refl
    go false false p q = refl
    go true false p q = sym (eq-eqb b a (sym (eqb-true a b p))) ∙ q
    go false true p q = sym p ∙ eq-eqb a b (sym (eqb-true b a q))

-- layers over another store of the same values
pub same_levels : (v w : Layers) → held w.store ≡ held v.store → w.output ≡ v.output
    → w.cost ≡ v.cost → w.top ≡ v.top → w.below ≡ v.below → levels_of w ≡ levels_of v
same_levels v w s o c t b =
    λ i. record { store = s i; output = o i; cost = c i; attempts = attempts_of (t i) (b i) }

-- what stands at a location, by the cells from a place on
abbrev pub from_place : List (ℕ × Cell) → ℕ → ℕ → Option Cell
from_place es i l = lookup (nat_eq l) (drop i es)

nothing_left : (es : List (ℕ × Cell)) → drop (length es) es ≡ []
nothing_left [] = refl
nothing_left (e ∷ es) = nothing_left es

pub none_yet : (es xs : List (ℕ × Cell)) (n : ℕ) → n ≡ length es → xs ≡ []
    → (l : ℕ) → lookup (nat_eq l) xs ≡ from_place es n l
none_yet es xs n q e l =
    ap (lookup (nat_eq l)) (e ∙ sym (nothing_left es) ∙ ap (λ m. drop m es) (sym q))

more_at : (es : List (ℕ × Cell)) (i : ℕ) (e : ℕ × Cell) → slice_get es i ≡ Some e
    → (l : ℕ) → from_place es i l ≡ cond (nat_eq l e.0) (Some e.1) (from_place es (suc i) l)
more_at [] i e a l = absurd (none-some e a)
more_at (x ∷ xs) zero e a l =
    subst (λ (y : ℕ × Cell). lookup (nat_eq l) (x ∷ xs)
    ≡ cond (nat_eq l y.0) (Some y.1) (lookup (nat_eq l) xs)) (same_Some x e a) refl
more_at (x ∷ xs) (suc i) e a l = more_at xs i e a l

-- a cell more
pub one_more : (es : List (ℕ × Cell)) (i : ℕ) (e : ℕ × Cell) (c : Cell) (xs ys : List (ℕ × Cell))
    → 0 < i → slice_get es (i - 1) ≡ Some e → c ≡ e.1
    → ((l : ℕ) → lookup (nat_eq l) xs ≡ from_place es i l)
    → ((l : ℕ) → lookup (nat_eq l) ys ≡ cond (nat_eq e.0 l) (Some c) (lookup (nat_eq l) xs))
    → (l : ℕ) → lookup (nat_eq l) ys ≡ from_place es (i - 1) l
one_more es zero e c xs ys w a q h u l = let f : ⊥ = omega (arith, w) in absurd f
one_more es (suc k) e c xs ys w a q h u l =
    let p : suc k - 1 ≡ k = omega arith in
    let b : slice_get es k ≡ Some e = subst (λ n. slice_get es n ≡ Some e) p a in
    u l ∙ (ap (λ b. cond b (Some c) (lookup (nat_eq l) xs)) (same_either_way e.0 l)
    ∙ (ap (λ x. cond (nat_eq l e.0) (Some x) (lookup (nat_eq l) xs)) q
    ∙ (ap (cond (nat_eq l e.0) (Some e.1)) (h l) ∙ (sym (more_at es k e b l)
    ∙ ap (λ n. from_place es n l) (sym p)))))

-- all of them
pub told : (l new : Layer) (i : ℕ) → i ≡ 0
    → ((k : ℕ) → lookup (nat_eq k) new.cells.entries ≡ from_place l.cells.entries i k)
    → new.output ≡ [] → new.cost ≡ 0 → effect_of new ≡ silent (effect_of l)
told l new i z h o c =
    let cells : (effect_of new).cells ≡ (effect_of l).cells =
    fun_ext (λ k. ap cell_of (h k ∙ ap (λ n. from_place l.cells.entries n k) z)) in
    λ j. record { cells = cells j; output = o j; cost = c j }

-- an attempt that ended so, behind nothing
pub from_nothing : (c : Closing) (none l whole : Layer) → effect_of none ≡ idle
    → effect_of whole ≡ both (effect_of none) (closing c (effect_of l))
    → effect_of whole ≡ closing c (effect_of l)
from_nothing c none l whole q h =
    h ∙ (ap (λ (d : Effect). both d (closing c (effect_of l))) q
    ∙ idle_both (closing c (effect_of l)))

-- a cell's location is below a number, where there is a cell
abbrev pub IsBelow : Option (ℕ × Cell) → ℕ → Type 0
IsBelow None n = Unit {0}
IsBelow (Some e) n = e.0 < n

pub stays_below : (o : Option (ℕ × Cell)) (n m : ℕ) → n ≤ m → IsBelow o n → IsBelow o m
stays_below None n m q b = tt
stays_below (Some e) n m q b = omega (arith, q, b)

none_from : (es : List (ℕ × Cell)) (n : ℕ)
    → ((j : ℕ) → j < length es → IsBelow (slice_get es j) n)
    → (l : ℕ) → n ≤ l → lookup (nat_eq l) es ≡ None
none_from [] n h l q = refl
none_from (e ∷ es) n h l q =
    let first : e.0 < n = h zero (omega arith) in
    go (l == e.0) refl first
    (none_from es n (λ j r. h (suc j) (omega (arith, r))) l q)
  where
    go : (b : Bool) → (l == e.0) ≡ b → e.0 < n → lookup (nat_eq l) es ≡ None
        → lookup (nat_eq l) (e ∷ es) ≡ None
    go true t first rest =
        let same : l ≡ e.0 = eqb-true l e.0 t in
        let f : ⊥ = omega (arith, same, first, q) in absurd f
    go false t first rest =
        ap (λ b. cond b (Some e.1) (lookup (nat_eq l) es)) t ∙ rest

-- no location from a number on was touched
pub all_below : (x : Layer) (n i : ℕ) → length x.cells.entries ≤ i
    → ((j : ℕ) → j < i → IsBelow (slice_get x.cells.entries j) n)
    → (l : ℕ) → n ≤ l → cells_of x l ≡ untouched
all_below x n i q h l r =
    ap cell_of (none_from x.cells.entries n (λ j s. h j (omega (arith, s, q))) l r)

not_untouched : (c : Cell) → cell c ≡ untouched → ⊥
not_untouched (Found read now) e = absurd cc
not_untouched (Made now) e = absurd cc

pub touched_there : (x : Layer) (l : ℕ) (c : Cell) → lookup (nat_eq l) x.cells.entries ≡ Some c
    → cells_of x l ≡ untouched → ⊥
touched_there x l c q e = not_untouched c (sym (ap cell_of q) ∙ e)
