-- The rule of the table under a turn, and what each kind of step tells. Word 0 is the next place,
-- word 1 the place that is served, and the one slot has the book. Two functions stand for all
-- counting: each place was drawn by one seat, so one seat at most holds; each number is spoken for
-- by one seat, so entries of two passes stay apart.
use Rattle.std.specs.Prelude.{◌≡◌, ◌≢◌, ℕ, ◌+◌, ◌<◌, ◌≤◌, ◌⊎◌, true, false, List, [], ◌∷◌, ◌++◌, Option, Some, None}
use mathlib.Core.Option.{some, none, Option as Maybe}
use lib.ListN.{get_elem?}
use Rattle.atomic_table.specs.Table.{State, Me, Step}
use Rattle.fort_turn.specs.declared.view.View.{View}
use Rattle.fort_turn.specs.declared.view.Stage.{Stage}
use Rattle.fort_turn.specs.declared.view.Stage.TheVariants.{Idle, Waiting, Holding, Leaving}
use Rattle.fort_turn.specs.Book.{has, entries_by, log_of, Follows}

module _ {B : Type 0} where
  -- the first pass as the turn begins
  abbrev pub opened : B → View B
  opened book =
      record {
        stage = Idle;
        number = 0;
        numbers = 0 ∷ [];
        seen = Some book;
        told = None;
        told_numbers = [];
        root = true;
        made = 1;
      }

  -- the same pass at another stage, which has seen this
  abbrev pub staged : View B → Stage → Option B → View B
  staged v stage seen =
      record {
        stage = stage;
        number = v.number;
        numbers = v.numbers;
        seen = seen;
        told = None;
        told_numbers = [];
        root = v.root;
        made = v.made;
      }

  -- the slot is at home with the book in it, or out with this seat
  abbrev pub Slot : List (Maybe (Option B)) → List (View B) → ℕ → B → Type 0
  Slot homes views seat book = (homes ≡ some (Some book) ∷ [])
      ⊎ ((homes ≡ none ∷ []) × (v : View B) × (p : ℕ) × (get_elem? views seat ≡ some v)
      × (v.stage ≡ Holding p))

  -- Draw a place: where the word was as expected, the seat has drawn that place, and else nothing
  -- changed.
  abbrev pub drew : Step (Option B) → Me (Option B) (View B) → ℕ → Me (Option B) (View B) → Type 0
  drew s me n me' = (n ≡ s.first → me' ≡ (staged me.0 (Waiting n) me.0.seen, me.1))
      × (n ≢ s.first → me' ≡ me)

  -- Give the slot back: the seat holds nothing, and has seen the book that it gave.
  abbrev pub gave_back : Step (Option B) → Me (Option B) (View B) → ℕ → Me (Option B) (View B)
      → Type 0
  gave_back s me n me' = (p : ℕ) (b : B) → me.0.stage ≡ Holding p → me.1 ≡ (0, Some b) ∷ []
      → me' ≡ (staged me.0 (Leaving p) (Some b), [])

  -- Pass the turn on: the seat's place is served no more.
  abbrev pub passed_on : Step (Option B) → Me (Option B) (View B) → ℕ → Me (Option B) (View B)
      → Type 0
  passed_on s me n me' = me' ≡ (staged me.0 Idle me.0.seen, me.1)

  -- Split a seat: the first pass has made one more ..
  abbrev pub one_more : View B → View B
  one_more v =
      record {
        stage = v.stage;
        number = v.number;
        numbers = v.numbers;
        seen = v.seen;
        told = None;
        told_numbers = [];
        root = v.root;
        made = v.made + 1;
      }

  -- .. and the new one has the next number, and has seen as much.
  abbrev pub newcomer : View B → View B
  newcomer v =
      record {
        stage = Idle;
        number = v.made;
        numbers = v.made ∷ [];
        seen = v.seen;
        told = None;
        told_numbers = [];
        root = false;
        made = 0;
      }

  -- Join a seat: the pass is told what the other has seen, and its numbers ..
  abbrev pub told_of : View B → View B → View B
  told_of v w =
      record {
        stage = v.stage;
        number = v.number;
        numbers = v.numbers;
        seen = v.seen;
        told = w.seen;
        told_numbers = w.numbers;
        root = v.root;
        made = v.made;
      }

  -- .. and the other is spent.
  abbrev pub nobody : View B
  nobody = record {
    stage = Idle;
    number = 0;
    numbers = [];
    seen = None;
    told = None;
    told_numbers = [];
    root = false;
    made = 0;
  }

  -- the pass once it has taken the other in and seen this book
  abbrev pub merged : View B → B → View B
  merged v b =
      record {
        stage = v.stage;
        number = v.number;
        numbers = v.numbers ++ v.told_numbers;
        seen = Some b;
        told = None;
        told_numbers = [];
        root = v.root;
        made = v.made;
      }

module _ {B E O : Type 0} (history : B → List E) (origin : B → O) (by : E → ℕ) where
  -- What the rule says of the seat j: what it has drawn, holds and leaves is its own place; the
  -- book follows what it has seen and was told; it speaks for its numbers; and the first pass is
  -- seat 0, which knows how many there are.
  pub record Fits (next serving made : ℕ) (book : B) (drawn owner : ℕ → ℕ) (j : ℕ)
      (v : View B) : Type 0 where
    pub waits : (p : ℕ) → v.stage ≡ Waiting p
        → (drawn p ≡ j) × (p < next) × (has v.number v.numbers ≡ true)
    pub holds : (p : ℕ) → v.stage ≡ Holding p
        → (drawn p ≡ j) × (p < next) × (p ≡ serving) × (v.seen ≡ Some book)
        × (has v.number v.numbers ≡ true)
    pub leaves : (p : ℕ) → v.stage ≡ Leaving p → (drawn p ≡ j) × (p < next) × (p ≡ serving)
    pub seen : Follows history origin by v.seen v.numbers book
    pub told : Follows history origin by v.told v.told_numbers book
    pub mine : (k : ℕ) → has k v.numbers ≡ true → (owner k ≡ j) × (k < made)
    pub theirs : (k : ℕ) → has k v.told_numbers ≡ true → (owner k ≡ j) × (k < made)
    pub apart : (k : ℕ) → has k v.numbers ≡ true → has k v.told_numbers ≡ true → ⊥
    pub first : v.root ≡ true → (j ≡ 0) × (v.made ≡ made)

  -- The rule: the words are the next place and the place that is served, the slot is at home or out
  -- with who drew that place, no entry names a pass that isn't made yet, and each seat fits.
  pub record Kept (s : State (Option B) (View B)) : Type 0 where
    pub next : ℕ
    pub serving : ℕ
    pub made : ℕ
    pub book : B
    pub drawn : ℕ → ℕ
    pub owner : ℕ → ℕ
    pub words : s.words ≡ next ∷ serving ∷ []
    pub order : serving ≤ next
    pub slot : Slot s.homes s.views (drawn serving) book
    pub fresh : (k : ℕ) → made ≤ k → entries_by by k (history book) ≡ []
    pub each_seat : (j : ℕ) (v : View B) → get_elem? s.views j ≡ some v
        → Fits next serving made book drawn owner j v

  -- Take the slot: where the seat's place is served, it has the slot and has seen the book in it,
  -- which follows what it had seen; else nothing changed.
  abbrev pub entered : Step (Option B) → Me (Option B) (View B) → ℕ → Me (Option B) (View B)
      → Type 0
  entered s me n me' = (p : ℕ) → me.0.stage ≡ Waiting p
      → (n ≡ p → (b : B) × (me' ≡ (staged me.0 (Holding p) (Some b), (0, Some b) ∷ me.1))
      × Follows history origin by me.0.seen me.0.numbers b)
      × (n ≢ p → me' ≡ me)

  -- A look: nothing changed, and of what the first pass has seen no entry names a pass that isn't
  -- made yet.
  abbrev pub looked : Step (Option B) → Me (Option B) (View B) → ℕ → Me (Option B) (View B) → Type 0
  looked s me n me' = (me' ≡ me)
      × (me.0.root ≡ true → (k : ℕ) → me.0.made ≤ k
      → entries_by by k (log_of history me.0.seen) ≡ [])

  -- The look that ends a join: the pass has seen a book that follows what both had seen, and no
  -- number was of both.
  abbrev pub settled : Step (Option B) → Me (Option B) (View B) → ℕ → Me (Option B) (View B)
      → Type 0
  settled s me n me' = (b : B) × (me' ≡ (merged me.0 b, me.1))
      × Follows history origin by me.0.seen me.0.numbers b
      × Follows history origin by me.0.told me.0.told_numbers b
      × ((k : ℕ) → has k me.0.numbers ≡ true → has k me.0.told_numbers ≡ true → ⊥)
