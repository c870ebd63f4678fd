-- A store again: what was put since it was last shared is put once more, from behind.
use Rattle.std.proofs.Common.{◌≡◌, ℕ, zero, suc, ◌-◌, ◌<◌, ◌==◌, Bool, true, false, List, [], ◌∷◌, drop, length, slice_get, Some, None, refl, sym, ap, ◌∙◌, subst, arith, cond, if◌then◌else◌, nat_eq}
use Rattle.std.specs.Map.{lookup}
use Rattle.std.proofs.Math.Path.{fun_ext}
use Rattle.std.proofs.lemmas.Bool.{eqb-true, eq-eqb}
use Rattle.std.proofs.lemmas.Option.{none-some, same_Some}
use Rattle.fort_core.specs.declared.value.Value.{Value}
use Rattle.fort_machine.specs.Effects as machine
use Rattle.fort_machine.specs.Plain.{put}
use Rattle.fort_store.specs.declared.store.Store.{Store}
use Rattle.fort_store.specs.Held.{held, settled}
use Rattle.fort_store.proofs.Shares.{over, put_over}

same_either_way : (a b : ℕ) → (a == b) ≡ (b == a)
same_either_way a b = go (a == b) (b == a) refl refl
  where
    go : (x y : Bool) → (a == b) ≡ x → (b == a) ≡ y → x ≡ y
    go true true p q = refl
    go false false p q = refl
    go true false p q = sym (eq-eqb b a (sym (eqb-true a b p))) ∙ q
    go false true p q = sym p ∙ eq-eqb a b (sym (eqb-true b a q))

-- the values of the entries from a place on
abbrev pub from_place : List (ℕ × Value) → ℕ → machine.Store
from_place es i = λ l. lookup (nat_eq l) (drop i es)

first_put : (e : ℕ × Value) (es : List (ℕ × Value))
    → (λ l. lookup (nat_eq l) (e ∷ es)) ≡ put e.0 e.1 (λ l. lookup (nat_eq l) es)
first_put e es =
    fun_ext (λ k. ap (λ b. cond b (Some e.1) (lookup (nat_eq k) es)) (same_either_way k e.0)
    ∙ go k (e.0 == k))
  where
    go : (k : ℕ) (b : Bool)
        → cond b (Some e.1) (lookup (nat_eq k) es)
        ≡ (if b then Some e.1 else lookup (nat_eq k) es)
    go k true = refl
    go k false = refl

nothing_left : (es : List (ℕ × Value)) → drop (length es) es ≡ []
nothing_left [] = refl
nothing_left (e ∷ es) = nothing_left es

-- before the first one
pub none_yet : (es : List (ℕ × Value)) (n : ℕ) (s : Store) (t : machine.Store) → n ≡ length es
    → s.recent.entries ≡ [] → settled s.trees.items ≡ t → held s ≡ over (from_place es n) t
none_yet es n s t q e h =
    ap (λ (xs : List (ℕ × Value)). over (λ l. lookup (nat_eq l) xs) (settled s.trees.items))
    (e ∙ sym (nothing_left es) ∙ ap (λ m. drop m es) (sym q))
    ∙ ap (over (from_place es n)) h

more_at : (es : List (ℕ × Value)) (i : ℕ) (e : ℕ × Value) → slice_get es i ≡ Some e
    → from_place es i ≡ put e.0 e.1 (from_place es (suc i))
more_at [] i e a = absurd (none-some e a)
more_at (x ∷ xs) zero e a =
    subst (λ (y : ℕ × Value). from_place (x ∷ xs) zero ≡ put y.0 y.1 (λ l. lookup (nat_eq l) xs))
    (same_Some x e a) (first_put x xs)
more_at (x ∷ xs) (suc i) e a = more_at xs i e a

-- one more
pub one_more : (es : List (ℕ × Value)) (i : ℕ) (e : ℕ × Value) (v : Value)
    (s u t : machine.Store) → 0 < i → slice_get es (i - 1) ≡ Some e → v ≡ e.1
    → s ≡ over (from_place es i) t → u ≡ put e.0 v s → u ≡ over (from_place es (i - 1)) t
one_more es zero e v s u t w a c h q = let f : ⊥ = omega (arith, w) in absurd f
one_more es (suc k) e v s u t w a c h q =
    let p : suc k - 1 ≡ k = omega arith in
    let b : slice_get es k ≡ Some e = subst (λ n. slice_get es n ≡ Some e) p a in
    q ∙ (ap (λ z. put e.0 z s) c ∙ (ap (put e.0 e.1) h
    ∙ (sym (put_over (from_place es (suc k)) (from_place es k) t e.0 e.1 (more_at es k e b))
    ∙ ap (λ n. over (from_place es n) t) (sym p))))

-- the last one
pub all_there : (es : List (ℕ × Value)) (i : ℕ) (s : machine.Store) (t : machine.Store)
    → i ≡ 0 → s ≡ over (from_place es i) t → s ≡ over (λ l. lookup (nat_eq l) es) t
all_there es i s t q h = h ∙ ap (λ n. over (from_place es n) t) q
