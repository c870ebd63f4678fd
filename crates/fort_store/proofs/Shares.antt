-- What is put into a store, and goes into its trees.
use Rattle.std.proofs.Common.{◌≡◌, ℕ, ◌/◌, ◌%◌, ◌^◌, ◌==◌, Bool, true, false, List, [], ◌∷◌, Option, Some, None, length, refl, ap, sym, ◌∙◌, arith, cond, if◌then◌else◌, nat_eq}
use Rattle.std.specs.Map.{lookup}
use Rattle.std.specs.Option.{option_or}
use Rattle.std.proofs.Math.Path.{fun_ext}
use Rattle.std.proofs.lemmas.Bool.{eqb-true}
use Rattle.indexmap.specs.IndexMap.{index_map_len}
use Rattle.fort_core.specs.declared.value.Value.{Value}
use Rattle.fort_machine.specs.Effects as machine
use Rattle.fort_machine.specs.Plain.{put}
use Rattle.fort_store.specs.declared.store.Store.{Store}
use Rattle.fort_store.specs.declared.tree.Tree.{Tree}
use Rattle.fort_store.specs.Held.{held, settled}
use Rattle.fort_store.specs.Trees.{branches, put_in}
use Rattle.fort_store.proofs.Trees.{put_told}

-- the values of one store before those of another one
abbrev pub over : machine.Store → machine.Store → machine.Store
over s t = λ l. option_or (s l) (t l)

pub put_over : (s u t : machine.Store) (l : ℕ) (v : Value) → u ≡ put l v s
    → over u t ≡ put l v (over s t)
put_over s u t l v q =
    ap (λ (r : machine.Store). over r t) q ∙ fun_ext (λ k. go k (l == k))
  where
    go : (k : ℕ) (b : Bool)
        → option_or (if b then Some v else s k) (t k)
        ≡ (if b then Some v else option_or (s k) (t k))
    go k true = refl
    go k false = refl

pub same_over : (s u t : machine.Store) → u ≡ s → over u t ≡ over s t
same_over s u t q = ap (λ (r : machine.Store). over r t) q

pub same_under : (s t w : machine.Store) → w ≡ t → over s w ≡ over s t
same_under s t w q = ap (over s) q

-- a value that stands in both may go out of the first one
pub moved : (s u t w : machine.Store) (l : ℕ) (v : Value) → s l ≡ Some v → w ≡ put l v t
    → ((k : ℕ) → u k ≡ cond (nat_eq l k) None (s k)) → over u w ≡ over s t
moved s u t w l v here q h =
    fun_ext (λ k. ap (λ o. option_or o (w k)) (h k)
    ∙ ap (λ (r : machine.Store). option_or (cond (nat_eq l k) None (s k)) (r k)) q
    ∙ go k (l == k) refl)
  where
    go : (k : ℕ) (b : Bool) → (l == k) ≡ b
        → option_or (cond b None (s k)) (if b then Some v else t k) ≡ option_or (s k) (t k)
    go k true e =
        ap (λ o. option_or o (t k)) (sym here ∙ ap s (eqb-true l k e))
    go k false e = refl

same_location : (n k : ℕ) → n / 2 ^ 50 ≡ k / 2 ^ 50 → n % 2 ^ 50 ≡ k % 2 ^ 50 → n ≡ k
same_location n k q r = omega (arith, q, r)

-- a value is put into the trees
pub put_settled : (old new : List (Option Tree)) (l : ℕ) (v : Value)
    → branches new ≡ put_in (l / 2 ^ 50) (l % 2 ^ 50) v (branches old)
    → settled new ≡ put l v (settled old)
put_settled old new l v q =
    fun_ext (λ k. ap (λ (s : ℕ → machine.Store). s (k / 2 ^ 50) (k % 2 ^ 50)) q
    ∙ put_told (λ n. n / 2 ^ 50) (λ n. n % 2 ^ 50) same_location l k v (branches old))

pub same_settled : (old new : List (Option Tree)) → branches new ≡ branches old
    → settled new ≡ settled old
same_settled old new q =
    ap (λ (s : ℕ → machine.Store). λ l. s (l / 2 ^ 50) (l % 2 ^ 50)) q

none_left : (es : List (ℕ × Value)) → length es ≡ 0 → es ≡ []
none_left [] q = refl
none_left (e ∷ es) q = let f : ⊥ = omega (arith, q) in absurd f

-- a store whose values all stand in its trees, and another one with the same trees
pub shared : (s t : Store) (old : machine.Store) → index_map_len s.recent ≡ 0
    → t.recent.entries ≡ [] → t.trees.items ≡ s.trees.items → held s ≡ old → held t ≡ old
shared s t old n e q h =
    ap (λ es. over (λ l. lookup (nat_eq l) es) (settled t.trees.items))
    (e ∙ sym (none_left s.recent.entries n))
    ∙ (ap (λ ts. over (λ l. lookup (nat_eq l) s.recent.entries) (settled ts)) q ∙ h)
