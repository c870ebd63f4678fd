-- The paths of servers.
use Rattle.std.proofs.Common.{◌≡◌, ℕ, arith, List, [], ◌∷◌, ◌++◌, refl, ap, sym, ◌∙◌, subst, append_assoc, append-nil, inl, inr, ◌⊎◌}
use Rattle.fort_machine.specs.Parts.{IsOneOf}
use Rattle.fort_threads_law_servers.specs.Stages.{Stage}
use Rattle.fort_threads_law_servers.specs.Trees.{Tree, unread, undivided, server, halves, over}
use Rattle.fort_threads_law_trees.specs.Leaves.{Leaf, leaf, leaves}
use Rattle.fort_threads_law_trees.specs.Laws.{LeavesStandApart}

-- one of two lists together is one of one of them
pub one_of : {A : Type 0} (a : A) (xs ys : List A) → IsOneOf a (xs ++ ys)
    → IsOneOf a xs ⊎ IsOneOf a ys
one_of a [] ys i = inr i
one_of a (x ∷ xs) ys (inl e) = inl (inl e)
one_of a (x ∷ xs) ys (inr i) = go (one_of a xs ys i)
  where
    go : IsOneOf a xs ⊎ IsOneOf a ys → IsOneOf a (x ∷ xs) ⊎ IsOneOf a ys
    go (inl j) = inl (inr j)
    go (inr j) = inr j

pub in_front : {A : Type 0} (a : A) (xs ys : List A) → IsOneOf a xs → IsOneOf a (xs ++ ys)
in_front a (x ∷ xs) ys (inl e) = inl e
in_front a (x ∷ xs) ys (inr i) = inr (in_front a xs ys i)
in_front a [] ys i = absurd i

pub in_back : {A : Type 0} (a : A) (xs ys : List A) → IsOneOf a ys → IsOneOf a (xs ++ ys)
in_back a [] ys i = i
in_back a (x ∷ xs) ys i = inr (in_back a xs ys i)

-- the same number behind two lists that are one
pub cut : (base q r : List ℕ) → base ++ q ≡ base ++ r → q ≡ r
cut [] q r e = e
cut (k ∷ base) q r e = cut base q r (let z : base ++ q ≡ base ++ r = cc in z)

-- a server of a tree that stands at a path is behind it
pub record Behind (base : List ℕ) (x : Leaf) : Type 0 where
  pub rest : List ℕ
  pub is : x.path ≡ base ++ rest

pub behind : (base : List ℕ) (tree : Tree) (x : Leaf) → IsOneOf x (leaves base tree)
    → Behind base x
behind base unread x i = absurd i
behind base (undivided items) x i = absurd i
behind base (server stage) x (inl e) =
    record { rest = []; is = ap (λ y. y.path) e ∙ sym (append-nil base) }
behind base (server stage) x (inr i) = absurd i
behind base (halves m a k b) x i =
    go (behind (base ++ 0 ∷ []) a x) (behind (base ++ 1 ∷ []) b x)
    (one_of x (leaves (base ++ 0 ∷ []) a) (leaves (base ++ 1 ∷ []) b) i)
  where
    go : (IsOneOf x (leaves (base ++ 0 ∷ []) a) → Behind (base ++ 0 ∷ []) x)
        → (IsOneOf x (leaves (base ++ 1 ∷ []) b) → Behind (base ++ 1 ∷ []) x)
        → IsOneOf x (leaves (base ++ 0 ∷ []) a) ⊎ IsOneOf x (leaves (base ++ 1 ∷ []) b)
        → Behind base x
    go one two (inl j) =
        let h = one j
        in record { rest = 0 ∷ h.rest; is = h.is ∙ append_assoc base (0 ∷ []) h.rest }
    go one two (inr j) =
        let h = two j
        in record { rest = 1 ∷ h.rest; is = h.is ∙ append_assoc base (1 ∷ []) h.rest }
behind base (over t) x i = absurd i

-- a part with one number and a part with another aren't one
pub parts_apart : (base : List ℕ) (x y : List ℕ) (i j : ℕ) (h k q r : List ℕ)
    → x ≡ (base ++ i ∷ []) ++ h → y ≡ (base ++ j ∷ []) ++ k → x ++ q ≡ y ++ r → i ≡ j
parts_apart base x y i j h k q r e f g =
    let a : (base ++ i ∷ []) ++ (h ++ q) ≡ (base ++ j ∷ []) ++ (k ++ r) =
    sym (append_assoc (base ++ i ∷ []) h q) ∙ ap (λ z. z ++ q) (sym e) ∙ g ∙ ap (λ z. z ++ r) f
    ∙ append_assoc (base ++ j ∷ []) k r in
    let b : i ∷ (h ++ q) ≡ j ∷ (k ++ r) =
    cut base (i ∷ (h ++ q)) (j ∷ (k ++ r))
    (sym (append_assoc base (i ∷ []) (h ++ q)) ∙ a ∙ append_assoc base (j ∷ []) (k ++ r)) in
    cc

apart_at : (base : List ℕ) (tree : Tree) (x y : Leaf) (q r : List ℕ)
    → IsOneOf x (leaves base tree) → IsOneOf y (leaves base tree) → x.path ++ q ≡ y.path ++ r
    → x ≡ y
apart_at base unread x y q r i j e = absurd i
apart_at base (undivided items) x y q r i j e = absurd i
apart_at base (server stage) x y q r (inl a) (inl b) e = a ∙ sym b
apart_at base (server stage) x y q r (inl a) (inr b) e = absurd b
apart_at base (server stage) x y q r (inr a) j e = absurd a
apart_at base (over t) x y q r i j e = absurd i
apart_at base (halves m a k b) x y q r i j e =
    go (λ f g. apart_at (base ++ 0 ∷ []) a x y q r f g e)
    (λ f g. apart_at (base ++ 1 ∷ []) b x y q r f g e)
    (one_of x (leaves (base ++ 0 ∷ []) a) (leaves (base ++ 1 ∷ []) b) i)
    (one_of y (leaves (base ++ 0 ∷ []) a) (leaves (base ++ 1 ∷ []) b) j)
  where
    go : (IsOneOf x (leaves (base ++ 0 ∷ []) a) → IsOneOf y (leaves (base ++ 0 ∷ []) a) → x ≡ y)
        → (IsOneOf x (leaves (base ++ 1 ∷ []) b) → IsOneOf y (leaves (base ++ 1 ∷ []) b) → x ≡ y)
        → IsOneOf x (leaves (base ++ 0 ∷ []) a) ⊎ IsOneOf x (leaves (base ++ 1 ∷ []) b)
        → IsOneOf y (leaves (base ++ 0 ∷ []) a) ⊎ IsOneOf y (leaves (base ++ 1 ∷ []) b) → x ≡ y
    go one two (inl f) (inl g) = one f g
    go one two (inr f) (inr g) = two f g
    go one two (inl f) (inr g) =
        let h = behind (base ++ 0 ∷ []) a x f in
        let o = behind (base ++ 1 ∷ []) b y g in
        let z : 0 ≡ 1 = parts_apart base x.path y.path 0 1 h.rest o.rest q r h.is o.is e
        in absurd (omega (arith, z))
    go one two (inr f) (inl g) =
        let h = behind (base ++ 1 ∷ []) b x f in
        let o = behind (base ++ 0 ∷ []) a y g in
        let z : 1 ≡ 0 = parts_apart base x.path y.path 1 0 h.rest o.rest q r h.is o.is e
        in absurd (omega (arith, z))

pub leaves_stand_apart : LeavesStandApart
leaves_stand_apart tree x y q r i j e = apart_at [] tree x y q r i j e
