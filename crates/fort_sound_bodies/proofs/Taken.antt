-- The variables of a declaration's parameters: which has which type.
use Rattle.std.proofs.Common.{◌≡◌, ◌≤◌, ◌<◌, ℕ, zero, suc, ◌+◌, Bool, true, false, cond, List, [], ◌∷◌, length, Some, refl, sym, ap, ◌∙◌, arith}
use Rattle.std.specs.Prelude.{slice_get, nat_le}
use Rattle.std.proofs.lemmas.Bool.{ne_eqb, leb-true, leb-false}
use Rattle.fort_base.specs.declared.ty.Ty.{Ty}
use Rattle.fort_sound_typed.specs.Envs.{Sort, fixed, none, binds}
use Rattle.fort_sound_typed.specs.Sound.{numbered}
use Rattle.fort_sound_typed.proofs.Bind.{alike, apart, tells, bind_at, bind_other}
use Rattle.fort_elab_meaning.specs.Bodies.{position}
use Rattle.fort_sound_bodies.specs.Bodies.{inserted}

-- the n-th parameter is the variable behind the first number
pub taken_at : (m : ℕ) (ts : List Ty) (n : ℕ) (T : Ty) → slice_get ts n ≡ Some T
    → binds (numbered m ts) none (m + n) ≡ Some (fixed T)
taken_at m [] n T e = absurd cc
taken_at m (t ∷ ts) zero T e =
    let s : t ≡ T = cc
    in bind_at m (fixed t) (binds (numbered (m + 1) ts) none) (m + 0) (omega arith)
    ∙ ap (λ X. Some (fixed X)) s
taken_at m (t ∷ ts) (suc n) T e =
    bind_other m (fixed t) (binds (numbered (m + 1) ts) none) (m + suc n)
    (ne_eqb m (m + suc n) (λ q. omega arith)) ∙ ap (binds (numbered (m + 1) ts) none)
    (let q : m + suc n ≡ m + 1 + n = omega arith in q) ∙ taken_at (m + 1) ts n T e

pub taken_first : (ts : List Ty) (n : ℕ) (T : Ty) → slice_get ts n ≡ Some T
    → binds (numbered 0 ts) none n ≡ Some (fixed T)
taken_first ts n T e = ap (binds (numbered 0 ts) none)
    (let q : n ≡ 0 + n = omega arith in q) ∙ taken_at 0 ts n T e

-- no other number is that of a parameter
pub taken_below : (m : ℕ) (ts : List Ty) (z : ℕ) (B : Sort) → binds (numbered m ts) none z ≡ Some B
    → z < m + length ts
taken_below m [] z B e = absurd cc
taken_below m (t ∷ ts) z B e = elim (tells m z) [
  | alike q b ↦ omega arith
  | apart b c ↦
      (let h = taken_below (m + 1) ts z B
      (sym (bind_other m (fixed t) (binds (numbered (m + 1) ts) none) z b) ∙ e) in omega arith)
]

-- ---- one type among others

pub inserted_long : (r : ℕ) (T : Ty) (ts : List Ty) → length (inserted r T ts) ≡ length ts + 1
inserted_long zero T ts = omega arith
inserted_long (suc r) T [] = refl
inserted_long (suc r) T (t ∷ ts) = let h = inserted_long r T ts in omega arith

-- it stands at its position
pub inserted_here : (r : ℕ) (T : Ty) (ts : List Ty) → r ≤ length ts
    → slice_get (inserted r T ts) r ≡ Some T
inserted_here zero T ts l = refl
inserted_here (suc r) T [] l = absurd (omega arith)
inserted_here (suc r) T (t ∷ ts) l = inserted_here r T ts (omega arith)

before_it : (r n : ℕ) (T : Ty) (ts : List Ty) → n < r → r ≤ length ts
    → slice_get (inserted r T ts) n ≡ slice_get ts n
before_it zero n T ts l e = absurd (omega arith)
before_it (suc r) n T [] l e = absurd (omega arith)
before_it (suc r) zero T (t ∷ ts) l e = refl
before_it (suc r) (suc n) T (t ∷ ts) l e = before_it r n T ts (omega arith) (omega arith)

behind_it : (r n : ℕ) (T : Ty) (ts : List Ty) → r ≤ n → r ≤ length ts
    → slice_get (inserted r T ts) (suc n) ≡ slice_get ts n
behind_it zero n T ts l e = refl
behind_it (suc r) n T [] l e = absurd (omega arith)
behind_it (suc r) zero T (t ∷ ts) l e = absurd (omega arith)
behind_it (suc r) (suc n) T (t ∷ ts) l e = behind_it r n T ts (omega arith) (omega arith)

-- the others stand before it, or one further
pub inserted_other : (r n : ℕ) (T : Ty) (ts : List Ty) → r ≤ length ts
    → slice_get (inserted r T ts) (position (Some r) n) ≡ slice_get ts n
inserted_other r n T ts l = go (nat_le r n) refl
  where
    go : (c : Bool) → nat_le r n ≡ c
        → slice_get (inserted r T ts) (cond c (n + 1) n) ≡ slice_get ts n
    go true e = ap (slice_get (inserted r T ts))
        (let q : n + 1 ≡ suc n = omega arith in q) ∙ behind_it r n T ts (leb-true r n e) l
    go false e = before_it r n T ts (leb-false r n e) l
