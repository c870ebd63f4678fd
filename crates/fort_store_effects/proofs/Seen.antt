-- What is seen through layers.
use Rattle.std.proofs.Common.{◌≡◌, ℕ, zero, suc, ◌+◌, ◌-◌, ◌<◌, ◌≤◌, ◌==◌, Bool, true, false, if◌then◌else◌, rules, List, [], ◌∷◌, ◌++◌, length, take, Option, Some, None, refl, ap, sym, ◌∙◌, subst, arith, get_or}
use Rattle.std.proofs.Math.Path.{fun_ext}
use Rattle.fort_core.specs.declared.value.Value.{Value}
use Rattle.fort_machine.specs.Cells.{untouched, found, made, left_at, later}
use Rattle.fort_machine.specs.Cells as machine
use Rattle.fort_machine.specs.Effects.{Store, Effect, both, only_at, afterwards}
use Rattle.fort_store_effects.specs.Levels.{cells_of, effect_of, inward, through, put_some}
use Rattle.std.specs.Prelude.{Result, Ok, Err}
use Rattle.std.specs.Result.{OnOk}
use Rattle.fort_store_effects.specs.declared.cell.Cell.{Cell}
use Rattle.fort_store_effects.specs.declared.cell.Cell.TheVariants as a_cell
use Rattle.fort_store_effects.specs.Cells.{IsLeft, cell}
use Rattle.fort_store_effects.specs.declared.cell.Left.{Left}
use Rattle.fort_store_effects.specs.declared.cell.Left.TheVariants.{Here, Gone, Below}
use Rattle.fort_machine.specs.Cells.{Fits}
use Rattle.fort_store_effects.specs.declared.layer.Layer.{Layer}

pub inward_last : (ls : List Layer) (l : Layer) (es : List Effect)
    → inward (ls ++ l ∷ []) es ≡ effect_of l ∷ inward ls es
inward_last [] l es = refl
inward_last (x ∷ xs) l es = inward_last xs l (effect_of x ∷ es)

-- one layer more
pub through_last : (s : Store) (ls : List Layer) (l : Layer) (k : ℕ)
    → through s (inward (ls ++ l ∷ []) []) k ≡ left_at (cells_of l k) (through s (inward ls []) k)
through_last s ls l k = ap (λ es. through s es k) (inward_last ls l [])

take_next : (ls : List Layer) (i : ℕ) (l : Layer) → i < length ls → l ≡ get_or ls i l
    → take (suc i) ls ≡ take i ls ++ l ∷ []
take_next [] i l h e = let f : ⊥ = omega (arith, h) in absurd f
take_next (x ∷ xs) zero l h e = ap (λ y. y ∷ []) (sym e)
take_next (x ∷ xs) (suc i) l h e = ap (λ ys. x ∷ ys) (take_next xs i l (omega (arith, h)) e)

pub through_next : (s : Store) (ls : List Layer) (i : ℕ) (l : Layer) (k : ℕ) → 0 < i
    → i - 1 < length ls → l ≡ get_or ls (i - 1) l
    → through s (inward (take i ls) []) k
    ≡ left_at (cells_of l k) (through s (inward (take (i - 1) ls) []) k)
through_next s ls zero l k p h e = let f : ⊥ = omega (arith, p) in absurd f
through_next s ls (suc i) l k p h e =
    let q : suc i - 1 ≡ i = omega arith in
    let h2 : i < length ls = subst (λ n. n < length ls) q h in
    let e2 : l ≡ get_or ls i l = subst (λ n. l ≡ get_or ls n l) q e in
    ap (λ xs. through s (inward xs []) k) (take_next ls i l h2 e2) ∙ through_last s (take i ls) l k
    ∙ ap (λ n. left_at (cells_of l k) (through s (inward (take n ls) []) k)) (sym q)

-- where the look through layers ends
abbrev pub LookEnds : Option Value → Option Value → Left → Type 0
LookEnds whole below (Here v) = Some v.now ≡ whole
LookEnds whole below Gone = None ≡ whole
LookEnds whole below Below = whole ≡ below

ends_by : (whole below : Option Value) (c : machine.Cell) (r : Left) → whole ≡ left_at c below
    → IsLeft c r → LookEnds whole below r
ends_by whole below c (Here v) e h = sym (e ∙ h below)
ends_by whole below c Gone e h = sym (e ∙ h below)
ends_by whole below c Below e h = e ∙ h below

pub look_ends : (whole : Option Value) (s : Store) (ls : List Layer) (i : ℕ) (l : Layer) (k : ℕ)
    (r : Left) → whole ≡ through s (inward (take i ls) []) k → 0 < i → i - 1 < length ls
    → l ≡ get_or ls (i - 1) l
    → IsLeft (cells_of l k) r → LookEnds whole (through s (inward (take (i - 1) ls) []) k) r
look_ends whole s ls i l k r e p h q w =
    ends_by whole (through s (inward (take (i - 1) ls) []) k) (cells_of l k) r (e
    ∙ through_next s ls i l k p h q) w

-- what was done at a location is put there
put_at : (l k : ℕ) (c : machine.Cell) (v : Value) (s : Store)
    → ((o : Option Value) → left_at c o ≡ Some v)
    → (if l == k then Some v else s k) ≡ left_at (only_at l c k) (s k)
put_at l k c v s h = go (l == k)
  where
    go : (b : Bool) → (if b then Some v else s k) ≡ left_at (if b then c else untouched) (s k)
    go true = sym (h (s k))
    go false = refl

stay_at : (l k : ℕ) (c : machine.Cell) (s : Store) → left_at c (s l) ≡ s l
    → s k ≡ left_at (only_at l c k) (s k)
stay_at l k c s h = go (l == k) refl
  where
    go : (b : Bool) → (l == k) ≡ b → s k ≡ left_at (if b then c else untouched) (s k)
    go true e = let q : l ≡ k = search (rules, e) in subst (λ n. s n ≡ left_at c (s n)) q (sym h)
    go false e = refl

none_left : (o : Option Value) → Fits (made None) o → left_at (made None) o ≡ o
none_left None f = refl
none_left (Some v) f = absurd f

pub settled_found : (l : ℕ) (r now : Option Value) (s t : Store) → t ≡ put_some l now s
    → t ≡ (λ k. left_at (only_at l (found r now) k) (s k))
settled_found l r None s t e = e ∙ fun_ext (λ k. stay_at l k (found r None) s refl)
settled_found l r (Some v) s t e = e ∙ fun_ext (λ k. put_at l k (found r (Some v)) v s (λ o. refl))

pub settled_made : (l : ℕ) (now : Option Value) (s t : Store) → Fits (made now) (s l)
    → t ≡ put_some l now s → t ≡ (λ k. left_at (only_at l (made now) k) (s k))
settled_made l None s t f e = e ∙ fun_ext (λ k. stay_at l k (made None) s (none_left (s l) f))
settled_made l (Some v) s t f e = e ∙ fun_ext (λ k. put_at l k (made (Some v)) v s (λ o. refl))

pub found_by : (l : ℕ) (change : Cell) (r now : Option Value) (s t : Store)
    → change ≡ a_cell.Found r now → t ≡ put_some l now s
    → t ≡ (λ k. left_at (only_at l (cell change) k) (s k))
found_by l change r now s t e h =
    settled_found l r now s t h ∙ (λ i k. left_at (only_at l (cell (sym e i)) k) (s k))

pub made_by : (l : ℕ) (change : Cell) (now : Option Value) (s t : Store) → Fits (cell change) (s l)
    → change ≡ a_cell.Made now → t ≡ put_some l now s
    → t ≡ (λ k. left_at (only_at l (cell change) k) (s k))
made_by l change now s t f e h =
    settled_made l now s t (subst (λ c. Fits (cell c) (s l)) e f) h
    ∙ (λ i k. left_at (only_at l (cell (sym e i)) k) (s k))

-- what holds where there is a value
pub map_ok : {T E : Type 0} (r : Result T E) {P Q : Type 0} → (P → Q) → OnOk r P → OnOk r Q
map_ok (Ok x) f h = f h
map_ok (Err e) f h = h
