-- What the picks of these attempts leave in the store.
use Rattle.std.proofs.Common.{◌≡◌, ℕ, ◌+◌, ◌==◌, Bool, true, false, List, [], ◌∷◌, Option, Some, None, if◌then◌else◌, rules, refl, ap, sym, ◌∙◌}
use Rattle.fort_core.specs.declared.value.Value.{Value}
use Rattle.fort_machine.specs.Cells.{Cell, untouched, found, joined, left_at, taken_away}
use Rattle.fort_machine.specs.Effects.{Store, Effect, paid, reading, writing, completing, aborting, afterwards}
use Rattle.fort_machine.specs.RunLaws.{all_of}
use Rattle.fort_threads_law_queue.specs.Attempts.{IsSilent, SetsOne}

abbrev pub read_if : Bool → Value → Cell
read_if b v = if b then found (Some v) None else untouched

abbrev pub write_if : Bool → Value → Cell
write_if b v = if b then found None (Some v) else untouched

abbrev pub set_if : Bool → Value → Option Value → Option Value
set_if b v o = if b then Some v else o

pub equal_itself : (l : ℕ) → (l == l) ≡ true
equal_itself l = search rules

pub not_equal : (l k : ℕ) → (k ≡ l → ⊥) → (l == k) ≡ false
not_equal l k n = go (l == k) refl
  where
    go : (b : Bool) → (l == k) ≡ b → (l == k) ≡ false
    go false e = e
    go true e = let z : l ≡ k = search (rules, e) in absurd (n (sym z))

-- a location is set where a stretch leaves this, and others are as before
pub sets_one : (d : Effect) (s : Store) (l : ℕ) (v : Value) → d.output ≡ []
    → ((k : ℕ) → afterwards d s k ≡ set_if (l == k) v (s k)) → SetsOne d s l v
sets_one d s l v o f =
    record {
      prints_nothing = o;
      sets = f l ∙ ap (λ b. set_if b v (s l)) (equal_itself l);
      leaves_others = λ k n. f k ∙ ap (λ b. set_if b v (s k)) (not_equal l k n);
    }

-- a thread is taken
abbrev taken_cell : (q b : Bool) (v w : Value) → Cell
taken_cell q b v w =
    joined untouched (joined (read_if q v)
    (joined untouched (joined untouched
    (joined (read_if b w) (joined (write_if q w) (joined untouched untouched))))))

taken_left : (q b : Bool) (v w : Value) (o : Option Value)
    → left_at (taken_cell q b v w) o ≡ set_if q w o
taken_left true true v w o = refl
taken_left true false v w o = refl
taken_left false true v w o = refl
taken_left false false v w o = refl

pub taken_sets : (s : Store) (x y : ℕ) (v w : Value)
    → SetsOne (completing (all_of (reading x v ∷ paid 1 ∷ paid 1 ∷ reading y w ∷ writing x w
    ∷ paid 1 ∷ []))) s x w
taken_sets s x y v w =
    sets_one _ s x w refl (λ k. taken_left (x == k) (y == k) v w (s k))

-- two locations are read
abbrev pub none_effects : (x y : ℕ) (v w : Value) → List Effect → List Effect
none_effects x y v w last = reading x v ∷ paid 1 ∷ paid 1 ∷ reading y w ∷ paid 1 ∷ paid 1 ∷ last

abbrev none_cell : (q b : Bool) (v w : Value) → Cell
none_cell q b v w =
    joined (read_if q v)
    (joined untouched (joined untouched
    (joined (read_if b w) (joined untouched (joined untouched (joined untouched untouched))))))

none_left : (q b : Bool) (v w : Value) (o : Option Value)
    → left_at (joined untouched (none_cell q b v w)) o ≡ o
none_left true true v w o = refl
none_left true false v w o = refl
none_left false true v w o = refl
none_left false false v w o = refl

abort_left : (q b : Bool) (v w : Value) (o : Option Value)
    → left_at (taken_away (none_cell q b v w)) o ≡ o
abort_left true true v w o = refl
abort_left true false v w o = refl
abort_left false true v w o = refl
abort_left false false v w o = refl

pub none_silent : (s : Store) (x y : ℕ) (v w : Value)
    → IsSilent (completing (all_of (none_effects x y v w (paid 1 ∷ [])))) s
none_silent s x y v w =
    record { prints_nothing = refl; leaves_all = λ k. none_left (x == k) (y == k) v w (s k) }

pub aborted_silent : (s : Store) (x y : ℕ) (v w : Value)
    → IsSilent (aborting (all_of (none_effects x y v w (paid 1 ∷ [])))) s
aborted_silent s x y v w =
    record { prints_nothing = refl; leaves_all = λ k. abort_left (x == k) (y == k) v w (s k) }

-- the first of them is read as it was
pub first_read_there : (x y : ℕ) (v w : Value)
    → (now : Option Value) × ((all_of (none_effects x y v w (paid 1 ∷ []))).cells x ≡ found (Some v) now)
first_read_there x y v w = (None, go (x == x) (y == x) (equal_itself x))
  where
    go : (q b : Bool) → q ≡ true → none_cell q b v w ≡ found (Some v) None
    go true true e = refl
    go true false e = refl
    go false b e = let z : false ≡ true = e in absurd cc

-- one location is read and written
abbrev counted_cell : Bool → Value → Value → Cell
counted_cell q v w =
    joined untouched (joined (read_if q v) (joined untouched (joined (write_if q w) untouched)))

counted_left : (q : Bool) (v w : Value) (o : Option Value)
    → left_at (counted_cell q v w) o ≡ set_if q w o
counted_left true v w o = refl
counted_left false v w o = refl

pub counted_sets : (s : Store) (x : ℕ) (v w : Value)
    → SetsOne (completing (all_of (reading x v ∷ paid 1 ∷ writing x w ∷ []))) s x w
counted_sets s x v w = sets_one _ s x w refl (λ k. counted_left (x == k) v w (s k))

-- one location is read
waited_left : (q : Bool) (v : Value) (o : Option Value)
    → left_at (joined untouched (joined (read_if q v) (joined untouched (joined untouched untouched)))) o
    ≡ o
waited_left true v o = refl
waited_left false v o = refl

pub waited_silent : (s : Store) (x : ℕ) (v : Value)
    → IsSilent (completing (all_of (reading x v ∷ paid 1 ∷ paid 1 ∷ []))) s
waited_silent s x v =
    record { prints_nothing = refl; leaves_all = λ k. waited_left (x == k) v (s k) }
