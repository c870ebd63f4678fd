-- Trees: what they keep, by their layers, and what a value changes.
use Rattle.std.proofs.Common.{◌≡◌, ℕ, zero, suc, ◌<◌, ◌≤◌, ◌==◌, ◌≢◌, Bool, true, false, List, [], ◌∷◌, Option, Some, None, length, map, slice_set, slice_index_or, refl, ap, sym, ◌∙◌, subst, arith, if◌then◌else◌, nat_lt}
use Rattle.std.proofs.Math.Path.{fun_ext}
use Rattle.std.proofs.lemmas.Bool.{eqb-true, eqb-false, eq-eqb, ne_eqb, ltb-true, ltb-false}
use Rattle.fort_core.specs.declared.value.Value.{Value}
use Rattle.fort_machine.specs.Effects.{Store}
use Rattle.fort_machine.specs.Plain.{put}
use Rattle.fort_store.specs.Trees.{branch, branches, given, kept, layer, placed, put_in, rest, way}
use Rattle.fort_store.specs.declared.tree.Tree.{Tree, out-Tree, roll-Tree, fold-roll-Tree, fold_out-Tree}
use Rattle.fort_store.specs.declared.tree.Tree.TheOpen.{Tree-F}
use Rattle.fort_store.proofs.Rows.{read_at, set_at}

-- what a layer of a tree keeps
abbrev pub layered : Tree-F Tree → Store
layered x = λ n. if nat_lt n 32 then placed x.own.items n else branches x.below.items (way n) (rest n)

-- a function that gives the stores of trees, where there are trees
abbrev GivesKept : (Option Tree → Option Store) → Type 0
GivesKept g = (g None ≡ None) × ((t : Tree) → g (Some t) ≡ Some (kept t))

given_in : (g : Option Tree → Option Store) → GivesKept g → (ts : List (Option Tree)) (i n : ℕ)
    → given (placed (map g ts) i) n ≡ branches ts i n
given_in g h [] i n = refl
given_in g h (None ∷ ts) zero n = ap (λ s. given s n) h.0
given_in g h (Some t ∷ ts) zero n = ap (λ s. given s n) (h.1 t)
given_in g h (t ∷ ts) (suc i) n = given_in g h ts i n

layered_is : (x : Tree-F Tree) (s : Store) (g : Option Tree → Option Store)
    → s ≡ (λ n. if nat_lt n 32 then placed x.own.items n
    else given (placed (map g x.below.items) (way n)) (rest n)) → GivesKept g → s ≡ layered x
layered_is x s g q h =
    q ∙ fun_ext (λ n. ap (λ v. if nat_lt n 32 then placed x.own.items n else v)
    (given_in g h x.below.items (way n) (rest n)))

pub kept_out : (t : Tree) → kept t ≡ layered (out-Tree t)
kept_out t =
    layered_is (out-Tree t) (kept t) _ (fold_out-Tree Store layer t) (refl, λ u. refl)

pub kept_roll : (x : Tree-F Tree) → kept (roll-Tree x) ≡ layered x
kept_roll x =
    layered_is x (kept (roll-Tree x)) _ (fold-roll-Tree Store layer x) (refl, λ u. refl)

-- a number of two digits or more stands in a branch
pub kept_far : (t : Tree) (n : ℕ) → 32 ≤ n
    → kept t n ≡ branches (out-Tree t).below.items (way n) (rest n)
kept_far t n l = ap (λ (s : Store). s n) (kept_out t) ∙ go (nat_lt n 32) refl
  where
    there : Option Value
    there = branches (out-Tree t).below.items (way n) (rest n)

    go : (b : Bool) → nat_lt n 32 ≡ b
        → (if b then placed (out-Tree t).own.items n else there) ≡ there
    go true e = let f : ⊥ = omega (arith, l, ltb-true n 32 e) in absurd f
    go false e = refl

pub no_branch : (t : Tree) (n i : ℕ) (xs : List (Option Tree)) → xs ≡ (out-Tree t).below.items
    → i ≡ way n → None ≡ placed xs i → 32 ≤ n → kept t n ≡ None
no_branch t n i xs a b d l =
    kept_far t n l ∙ ap (λ ys. branches ys (way n) (rest n)) (sym a)
    ∙ ap (λ j. branches xs j (rest n)) (sym b) ∙ ap (λ o. branch o (rest n)) (sym d)

pub next_branch : (t u w : Tree) (n i m : ℕ) (xs : List (Option Tree))
    → xs ≡ (out-Tree t).below.items
    → i ≡ way n → m ≡ rest n → Some u ≡ placed xs i → w ≡ u → 32 ≤ n → kept w m ≡ kept t n
next_branch t u w n i m xs a b c d e l =
    sym (kept_far t n l ∙ ap (λ ys. branches ys (way n) (rest n)) (sym a)
    ∙ ap (λ j. branches xs j (rest n)) (sym b) ∙ ap (λ o. branch o (rest n)) (sym d)
    ∙ ap (λ x. kept x (rest n)) (sym e) ∙ ap (kept w) (sym c))

-- a value is put among those that a tree keeps itself
pub puts_own : (t : Tree) (x : Tree-F Tree) (n : ℕ) (v : Value) → n < 32
    → x.below.items ≡ (out-Tree t).below.items
    → placed x.own.items ≡ put n v (placed (out-Tree t).own.items)
    → kept (roll-Tree x) ≡ put n v (kept t)
puts_own t x n v few r q =
    kept_roll x ∙ (fun_ext (λ k. go k (nat_lt k 32) refl) ∙ ap (put n v) (sym (kept_out t)))
  where
    go : (k : ℕ) (b : Bool) → nat_lt k 32 ≡ b
        → (if b then placed x.own.items k else branches x.below.items (way k) (rest k))
        ≡ (if n == k then Some v
        else if b then placed (out-Tree t).own.items k
        else branches (out-Tree t).below.items (way k) (rest k))
    go k true e = ap (λ (s : Store). s k) q
    go k false e =
        let apart : (n == k) ≡ false =
        ne_eqb n k (λ s. omega (arith, few, s, ltb-false k 32 e)) in
        rw apart (ap (λ ts. branches ts (way k) (rest k)) r)

same_number : (n k : ℕ) → way n ≡ way k → rest n ≡ rest k → n ≡ k
same_number n k w r = omega (arith, w, r)

put_same : (i m : ℕ) (v : Value) (row : ℕ → Store) → put_in i m v row i m ≡ Some v
put_same i m v row =
    ap (λ c. (if c then put m v (row i) else row i) m) (eq-eqb i i refl)
    ∙ ap (λ c. if c then Some v else row i m) (eq-eqb m m refl)

put_other : (i m : ℕ) (v : Value) (row : ℕ → Store) (j k : ℕ) → (i ≡ j → m ≢ k)
    → put_in i m v row j k ≡ row j k
put_other i m v row j k ne = go (i == j) refl
  where
    go : (b : Bool) → (i == j) ≡ b → (if b then put m v (row j) else row j) k ≡ row j k
    go true e =
        ap (λ c. if c then Some v else row j k) (ne_eqb m k (ne (eqb-true i j e)))
    go false e = refl

-- the same of numbers that two others tell
pub put_told : (f g : ℕ → ℕ) → ((n k : ℕ) → f n ≡ f k → g n ≡ g k → n ≡ k) → (n k : ℕ) (v : Value)
    (row : ℕ → Store)
    → put_in (f n) (g n) v row (f k) (g k) ≡ (if n == k then Some v else row (f k) (g k))
put_told f g tell n k v row = go (n == k) refl
  where
    go : (b : Bool) → (n == k) ≡ b
        → put_in (f n) (g n) v row (f k) (g k) ≡ (if b then Some v else row (f k) (g k))
    go true e =
        subst (λ j. put_in (f n) (g n) v row (f j) (g j) ≡ Some v) (eqb-true n k e)
        (put_same (f n) (g n) v row)
    go false e =
        put_other (f n) (g n) v row (f k) (g k) (λ w r. eqb-false n k e (tell n k w r))

-- a value is put into a branch
pub puts_below : (t : Tree) (x : Tree-F Tree) (n : ℕ) (v : Value) (i m : ℕ) → 32 ≤ n → i ≡ way n
    → m ≡ rest n → x.own.items ≡ (out-Tree t).own.items
    → branches x.below.items ≡ put_in i m v (branches (out-Tree t).below.items)
    → kept (roll-Tree x) ≡ put n v (kept t)
puts_below t x n v i m many w c r q =
    kept_roll x ∙ (fun_ext (λ k. go k (nat_lt k 32) refl) ∙ ap (put n v) (sym (kept_out t)))
  where
    old : ℕ → Store
    old = branches (out-Tree t).below.items

    put_there : branches x.below.items ≡ put_in (way n) (rest n) v old
    put_there = q ∙ ap (λ j. put_in j m v old) w ∙ ap (λ j. put_in (way n) j v old) c

    go : (k : ℕ) (b : Bool) → nat_lt k 32 ≡ b
        → (if b then placed x.own.items k else branches x.below.items (way k) (rest k))
        ≡ (if n == k then Some v
        else if b then placed (out-Tree t).own.items k else old (way k) (rest k))
    go k true e =
        let apart : (n == k) ≡ false =
        ne_eqb n k (λ s. omega (arith, many, s, ltb-true k 32 e)) in
        rw apart (ap (λ xs. placed xs k) r)
    go k false e =
        ap (λ (s : ℕ → Store). s (way k) (rest k)) put_there ∙ put_told way rest same_number n k v old

-- nothing is put
pub same_tree : (t : Tree) (x : Tree-F Tree)
    → placed x.own.items ≡ placed (out-Tree t).own.items
    → branches x.below.items ≡ branches (out-Tree t).below.items → kept (roll-Tree x) ≡ kept t
same_tree t x q r =
    kept_roll x
    ∙ (fun_ext (λ k.
    ap (λ (s : Store). if nat_lt k 32 then s k else branches x.below.items (way k) (rest k)) q
    ∙ ap (λ (s : ℕ → Store). if nat_lt k 32 then placed (out-Tree t).own.items k
    else s (way k) (rest k)) r)
    ∙ sym (kept_out t))

module _ (xs ys : List (Option Tree)) (i : ℕ) (t told : Option Tree)
    (q : placed ys ≡ placed xs) (l : i < length ys) (r : told ≡ slice_index_or ys i told) where
  stood : told ≡ placed xs i
  stood = sym (read_at ys i told l r) ∙ ap (λ (s : ℕ → Option Tree). s i) q

  -- a value is put into the tree at a place of a row
  pub put_row : (n : ℕ) (v : Value) → branch t ≡ put n v (branch told)
      → branches (slice_set ys i t) ≡ put_in i n v (branches xs)
  put_row n v h = fun_ext (λ j. ap branch (set_at ys i t j l) ∙ go j (i == j) refl)
    where
      go : (j : ℕ) (b : Bool) → (i == j) ≡ b
          → branch (if b then t else placed ys j)
          ≡ (if b then put n v (branches xs j) else branches xs j)
      go j true e =
          h ∙ ap (λ o. put n v (branch o)) stood
          ∙ ap (λ k. put n v (branches xs k)) (eqb-true i j e)
      go j false e = ap (λ (s : ℕ → Option Tree). branch (s j)) q

  pub same_row : branch t ≡ branch told → branches (slice_set ys i t) ≡ branches xs
  same_row h = fun_ext (λ j. ap branch (set_at ys i t j l) ∙ go j (i == j) refl)
    where
      go : (j : ℕ) (b : Bool) → (i == j) ≡ b
          → branch (if b then t else placed ys j) ≡ branches xs j
      go j true e = h ∙ ap branch stood ∙ ap (branches xs) (eqb-true i j e)
      go j false e = ap (λ (s : ℕ → Option Tree). branch (s j)) q

-- a row that is longer
pub longer_row : (xs ys : List (Option Tree)) → placed ys ≡ placed xs → branches ys ≡ branches xs
longer_row xs ys q = ap (λ (s : ℕ → Option Tree). λ j. branch (s j)) q
