-- Threads by their numbers, where one of them gets another phase and others are added behind all.
use Rattle.std.proofs.Common.{◌≡◌, ℕ, ◌+◌, ◌≤◌, List, [], ◌∷◌, ◌++◌, length, Option, Some, None, refl, sym, ap, ◌∙◌, subst, arith, ◌⊎◌, inl, inr, zero, suc}
use Rattle.std.specs.List.{cons_option}
use Rattle.fort_machine.specs.Parts.{IsOneOf}
use Rattle.fort_threads.specs.Objects.{objects, NoneTwice}
use Rattle.fort_threads.specs.Threads.{Phase, Thread, thread}
use Rattle.fort_threads_law_whole.specs.Lists.{IsAt}

-- a thread with a number, the threads before it and those behind it
pub record Split (number : ℕ) (u : Thread) (now : List Thread) : Type 0 where
  pub before : List Thread
  pub behind : List Thread
  pub is_number : length before ≡ number
  pub are_all : now ≡ before ++ u ∷ behind

pub split : (number : ℕ) (u : Thread) (now : List Thread) → IsAt number u now → Split number u now
split number u [] e = let z : None ≡ Some u = e in absurd cc
split zero u (x ∷ us) e =
    let q : Some x ≡ Some u = e in
    let same : x ≡ u = cc in
    record {
      before = [];
      behind = us;
      is_number = refl;
      are_all = ap (λ y. y ∷ us) same;
    }
split (suc k) u (x ∷ us) e =
    let rest = split k u us e in
    record {
      before = x ∷ rest.before;
      behind = rest.behind;
      is_number = ap suc rest.is_number;
      are_all = ap (λ ys. x ∷ ys) rest.are_all;
    }

-- and back
pub stands_at : (before behind : List Thread) (u : Thread)
    → IsAt (length before) u (before ++ u ∷ behind)
stands_at [] behind u = refl
stands_at (x ∷ before) behind u = stands_at before behind u

-- whoever has a number is one of all, and each one of them has a number
pub is_one_at : (number : ℕ) (u : Thread) (now : List Thread) → IsAt number u now → IsOneOf u now
is_one_at number u [] e = let z : None ≡ Some u = e in absurd cc
is_one_at zero u (x ∷ us) e = let q : Some x ≡ Some u = e in inl cc
is_one_at (suc k) u (x ∷ us) e = inr (is_one_at k u us e)

pub has_number : (u : Thread) (now : List Thread) → IsOneOf u now → (number : ℕ) × IsAt number u now
has_number u [] i = absurd i
has_number u (x ∷ us) (inl e) = (0, ap Some (sym e))
has_number u (x ∷ us) (inr i) = let q = has_number u us i in (suc q.0, q.1)

-- one thread has a number
pub one_at : (number : ℕ) (u v : Thread) (now : List Thread) → IsAt number u now
    → IsAt number v now → u ≡ v
one_at number u v now e f = let q : Some u ≡ Some v = sym e ∙ f in cc

-- with a number it is one of the first ones, or of those behind them
pub in_front : (number : ℕ) (u : Thread) (us ws : List Thread) → IsAt number u us
    → IsAt number u (us ++ ws)
in_front number u [] ws e = let z : None ≡ Some u = e in absurd cc
in_front zero u (x ∷ us) ws e = e
in_front (suc k) u (x ∷ us) ws e = in_front k u us ws e

pub front_or_behind : (number : ℕ) (u : Thread) (us ws : List Thread) → IsAt number u (us ++ ws)
    → IsAt number u us ⊎ (length us ≤ number) × IsOneOf u ws
front_or_behind number u [] ws e = inr (omega arith, is_one_at number u ws e)
front_or_behind zero u (x ∷ us) ws e = inl e
front_or_behind (suc k) u (x ∷ us) ws e = go (front_or_behind k u us ws e)
  where
    go : IsAt k u us ⊎ (length us ≤ k) × IsOneOf u ws
        → IsAt (suc k) u (x ∷ us) ⊎ (length (x ∷ us) ≤ suc k) × IsOneOf u ws
    go (inl f) = inl f
    go (inr q) = let h = q.0 in inr (omega (arith, h), q.1)

-- where the thread with a number is changed, each other number keeps its thread
pub stays_at : (before behind : List Thread) (u v : Thread) (number : ℕ) (x : Thread)
    → (number ≡ length before → ⊥) → IsAt number x (before ++ u ∷ behind)
    → IsAt number x (before ++ v ∷ behind)
stays_at [] behind u v zero x other e = absurd (other refl)
stays_at [] behind u v (suc k) x other e = e
stays_at (y ∷ before) behind u v zero x other e = e
stays_at (y ∷ before) behind u v (suc k) x other e =
    stays_at before behind u v k x (λ q. other (ap suc q)) e

-- and so where others are added behind all
pub stays_before : (before behind added : List Thread) (u v : Thread) (number : ℕ) (x : Thread)
    → (number ≡ length before → ⊥) → IsAt number x (before ++ u ∷ behind)
    → IsAt number x (before ++ v ∷ (behind ++ added))
stays_before [] behind added u v zero x other e = absurd (other refl)
stays_before [] behind added u v (suc k) x other e = in_front k x behind added e
stays_before (y ∷ before) behind added u v zero x other e = e
stays_before (y ∷ before) behind added u v (suc k) x other e =
    stays_before before behind added u v k x (λ q. other (ap suc q)) e

-- each number is then that of the changed thread, of an old one, or of one that was added
pub data Which (before behind added : List Thread) (u v : Thread) (number : ℕ) (x : Thread)
    : Type 0 where
  changed : number ≡ length before → x ≡ v → Which before behind added u v number x
  old : (number ≡ length before → ⊥) → IsAt number x (before ++ u ∷ behind)
      → Which before behind added u v number x
  added_one : length (before ++ u ∷ behind) ≤ number → IsOneOf x added
      → Which before behind added u v number x

pub which : (before behind added : List Thread) (u v : Thread) (number : ℕ) (x : Thread)
    → IsAt number x (before ++ v ∷ (behind ++ added)) → Which before behind added u v number x
which [] behind added u v zero x e = let q : Some v ≡ Some x = e in changed refl cc
which [] behind added u v (suc k) x e = go (front_or_behind k x behind added e)
  where
    go : IsAt k x behind ⊎ (length behind ≤ k) × IsOneOf x added
        → Which [] behind added u v (suc k) x
    go (inl f) = old (λ q. let z : suc k ≡ 0 = q in omega (arith, z)) f
    go (inr q) = let h = q.0 in added_one (omega (arith, h)) q.1
which (y ∷ before) behind added u v zero x e =
    old (λ q. let z : 0 ≡ suc (length before) = q in omega (arith, z)) e
which (y ∷ before) behind added u v (suc k) x e = go (which before behind added u v k x e)
  where
    go : Which before behind added u v k x → Which (y ∷ before) behind added u v (suc k) x
    go (changed a b) = changed (ap suc a) b
    go (old a b) =
        old (λ q. a (let z : suc k ≡ suc (length before) = q in omega (arith, z))) b
    go (added_one a b) = added_one (omega (arith, a)) b

-- ---- objects

pub objects_of_both : (us ws : List Thread) → objects (us ++ ws) ≡ objects us ++ objects ws
objects_of_both [] ws = refl
objects_of_both (u ∷ us) ws = go u.object (objects_of_both us ws)
  where
    go : (o : Option ℕ) → objects (us ++ ws) ≡ objects us ++ objects ws
        → cons_option o (objects (us ++ ws)) ≡ cons_option o (objects us) ++ objects ws
    go None e = e
    go (Some l) e = ap (λ ls. l ∷ ls) e

-- the same objects, and those of the threads that were added behind them
pub same_objects : (before behind : List Thread) (u v : Thread) → v.object ≡ u.object
    → objects (before ++ v ∷ behind) ≡ objects (before ++ u ∷ behind)
same_objects [] behind u v e = ap (λ o. cons_option o (objects behind)) e
same_objects (x ∷ before) behind u v e =
    ap (cons_option x.object) (same_objects before behind u v e)

pub moved_in : (before behind added : List Thread) (u : Thread)
    → before ++ u ∷ (behind ++ added) ≡ (before ++ u ∷ behind) ++ added
moved_in [] behind added u = refl
moved_in (x ∷ before) behind added u = ap (λ ys. x ∷ ys) (moved_in before behind added u)

pub more_objects : (before behind added : List Thread) (u v : Thread) → v.object ≡ u.object
    → objects (before ++ v ∷ (behind ++ added)) ≡ objects (before ++ u ∷ behind) ++ objects added
more_objects before behind added u v e =
    same_objects before (behind ++ added) u v e
    ∙ ap objects (moved_in before behind added u)
    ∙ objects_of_both (before ++ u ∷ behind) added

-- a thread's object is one of the objects
pub object_is_one : (u : Thread) (us : List Thread) (l : ℕ) → IsOneOf u us → u.object ≡ Some l
    → IsOneOf l (objects us)
object_is_one u [] l i e = absurd i
object_is_one u (x ∷ us) l (inl q) e =
    let z : x.object ≡ Some l = ap (λ (y : Thread). y.object) (sym q) ∙ e in
    subst (λ o. IsOneOf l (cons_option o (objects us))) (sym z) (inl refl)
object_is_one u (x ∷ us) l (inr i) e = go x.object (object_is_one u us l i e)
  where
    go : (o : Option ℕ) → IsOneOf l (objects us) → IsOneOf l (cons_option o (objects us))
    go None h = h
    go (Some m) h = inr h

-- and each of these is some thread's
pub whose_object : (us : List Thread) (l : ℕ) → IsOneOf l (objects us)
    → (u : Thread) × IsOneOf u us × (u.object ≡ Some l)
whose_object [] l i = absurd i
whose_object (x ∷ us) l i = go x.object refl (whose_object us l) i
  where
    behind : (u : Thread) × IsOneOf u us × (u.object ≡ Some l)
        → (u : Thread) × IsOneOf u (x ∷ us) × (u.object ≡ Some l)
    behind q = (q.0, inr q.1, q.2)

    go : (o : Option ℕ) → x.object ≡ o
        → (IsOneOf l (objects us) → (u : Thread) × IsOneOf u us × (u.object ≡ Some l))
        → IsOneOf l (cons_option o (objects us))
        → (u : Thread) × IsOneOf u (x ∷ us) × (u.object ≡ Some l)
    go None e more h = behind (more h)
    go (Some m) e more (inl q) = (x, inl refl, e ∙ ap Some (sym q))
    go (Some m) e more (inr h) = behind (more h)

-- two lists without anything twice, and nothing in both
pub none_twice_both : (ls ms : List ℕ) → NoneTwice ls → NoneTwice ms
    → ((l : ℕ) → IsOneOf l ls → IsOneOf l ms → ⊥) → NoneTwice (ls ++ ms)
none_twice_both [] ms a b apart = b
none_twice_both (l ∷ ls) ms a b apart =
    ((λ i. go (one_of_both l ls ms i)), none_twice_both ls ms a.1 b (λ m i j. apart m (inr i) j))
  where
    one_of_both : (x : ℕ) (xs ys : List ℕ) → IsOneOf x (xs ++ ys) → IsOneOf x xs ⊎ IsOneOf x ys
    one_of_both x [] ys i = inr i
    one_of_both x (y ∷ xs) ys (inl e) = inl (inl e)
    one_of_both x (y ∷ xs) ys (inr i) = later (one_of_both x xs ys i)
      where
        later : IsOneOf x xs ⊎ IsOneOf x ys → IsOneOf x (y ∷ xs) ⊎ IsOneOf x ys
        later (inl j) = inl (inr j)
        later (inr j) = inr j

    go : IsOneOf l ls ⊎ IsOneOf l ms → ⊥
    go (inl i) = a.0 i
    go (inr i) = apart l (inl refl) i

-- objects still stand apart where those of the added threads are new ones
pub still_apart : (before behind added : List Thread) (u v : Thread) → v.object ≡ u.object
    → NoneTwice (objects (before ++ u ∷ behind)) → NoneTwice (objects added)
    → ((l : ℕ) → IsOneOf l (objects (before ++ u ∷ behind)) → IsOneOf l (objects added) → ⊥)
    → NoneTwice (objects (before ++ v ∷ (behind ++ added)))
still_apart before behind added u v e first next apart =
    subst NoneTwice (sym (more_objects before behind added u v e))
    (none_twice_both (objects (before ++ u ∷ behind)) (objects added) first next apart)

-- threads with one object are one, where objects stand apart
pub same_number : (now : List Thread) (i j l : ℕ) (x y : Phase) → NoneTwice (objects now)
    → IsAt i (thread (Some l) x) now → IsAt j (thread (Some l) y) now → i ≡ j
same_number [] i j l x y apart a b =
    let z : None ≡ Some (thread (Some l) x) = a in absurd cc
same_number (u ∷ us) zero zero l x y apart a b = refl
same_number (u ∷ us) zero (suc j) l x y apart a b =
    let q : Some u ≡ Some (thread (Some l) x) = a in
    let same : u ≡ thread (Some l) x = cc in
    let both : NoneTwice (l ∷ objects us) =
    subst (λ (w : Thread). NoneTwice (cons_option w.object (objects us))) same apart in
    let other = thread (Some l) y in
    absurd (both.0 (object_is_one other us l (is_one_at j other us b) refl))
same_number (u ∷ us) (suc i) zero l x y apart a b =
    let q : Some u ≡ Some (thread (Some l) y) = b in
    let same : u ≡ thread (Some l) y = cc in
    let both : NoneTwice (l ∷ objects us) =
    subst (λ (w : Thread). NoneTwice (cons_option w.object (objects us))) same apart in
    let other = thread (Some l) x in
    absurd (both.0 (object_is_one other us l (is_one_at i other us a) refl))
same_number (u ∷ us) (suc i) (suc j) l x y apart a b =
    ap suc (same_number us i j l x y (go u.object apart) a b)
  where
    go : (o : Option ℕ) → NoneTwice (cons_option o (objects us)) → NoneTwice (objects us)
    go None h = h
    go (Some m) h = h.1
