-- Chapter "The machine with threads": the servers of the prelude's `for`, as they stand in the
-- halves into which it is divided.
use Rattle.std.specs.Prelude.{◌≡◌, ℕ, ◌+◌, ◌≤◌, Bool, true, false, [], ◌∷◌, pos, ◌⊎◌}
use Rattle.fort_core.specs.declared.form.Order.TheVariants as order
use Rattle.fort_core.specs.declared.form.Span.{Span}
use Rattle.fort_core.specs.declared.form.Span.TheVariants as span
use Rattle.fort_core.specs.declared.pick.Pick.{Pick}
use Rattle.fort_core.specs.declared.program.Program.{Program}
use Rattle.fort_core.specs.declared.term.Term.{Term, Call, Operator, For, ForHalves}
use Rattle.fort_core.specs.declared.term.Term as term
use Rattle.fort_core.specs.declared.value.Value.{Value, Range}
use Rattle.fort_machine.specs.Acts.{unit}
use Rattle.fort_machine.specs.Effects.{Store, Effect, paid}
use Rattle.fort_machine.specs.Ends.{Finished, throw_of, stepped}
use Rattle.fort_machine.specs.Threads.{under}
use Rattle.fort_threads_law_servers.specs.Prelude.{Names, number}
use Rattle.fort_threads_law_servers.specs.Stages.{Stage, called, term_at, Stands, Follows}
use Rattle.fort_threads_law_servers.specs.Servers.{Serves}

-- The `for` over `0#64`: before the range is computed; not divided, over some of its items; one
-- server; two halves, each with its mark or without; over, at its end.
pub data Tree : Type 0 where
  unread : Tree
  undivided : (items : Span) → Tree
  server : (stage : Stage) → Tree
  halves : (marked : Bool) (first : Tree) (also_marked : Bool) (second : Tree) → Tree
  over : (end : Term) → Tree

-- A part with its mark, or without.
abbrev pub with_step : Bool → Term → Term
with_step true t = stepped t
with_step false t = t

-- `for i' <- 0#64 do serve'() end`, once the range is known.
abbrev pub range : Value
range = Range (pos 0) 64

abbrev pub loop : Names → Span → Term → Term
loop n items source = For order.Parallel items 2 source (Call n.serve [])

-- The term of a tree.
abbrev pub tree_term : Names → Tree → Term
tree_term n unread = loop n span.Whole (Operator n.hash (number 0 ∷ number 64 ∷ []))
tree_term n (undivided items) = loop n items (term.Value range)
tree_term n (server stage) = term_at n stage
tree_term n (halves m a k b) =
    ForHalves (with_step m (tree_term n a)) (with_step k (tree_term n b))
tree_term n (over t) = t

-- Each server of a tree came to its stage from its call on, stage by stage.
abbrev pub AllServe : Program → Names → Tree → Type 0
AllServe p n (server stage) = Stands n stage × Serves p n called stage
AllServe p n (halves m a k b) = AllServe p n a × AllServe p n b
AllServe p n (over t) = Finished t
AllServe p n _ = Unit {0}

-- How many items are left.
abbrev pub count_of : Span → ℕ
count_of (span.Part k c) = c
count_of span.Whole = 64

-- Two parts beside each other are over, at a term: at `()` where both are values; at a throw where one
-- is a throw.
pub data IsOver (v w t : Term) : Type 0 where
  are_values : (x y : Value) → v ≡ term.Value x → w ≡ term.Value y → t ≡ term.Value unit
      → IsOver v w t
  first_threw : (x y : Value) → v ≡ throw_of x → t ≡ throw_of y → IsOver v w t
  second_threw : (x y : Value) → w ≡ throw_of x → t ≡ throw_of y → IsOver v w t

-- A pick of a tree leads to a tree and does this: the range is computed; what is not divided has no
-- item, one, or more, and is divided; one server of all goes on, by a pick that has the part's
-- number before its own; both halves are over.
abbrev pub Grows : Program → Names → Store → Pick → Effect → Tree → Tree → Type 0
Grows p n s pick d unread (undivided items) = (items ≡ span.Whole) × (d ≡ paid 1)
Grows p n s pick d (undivided items) (over t) =
    (count_of items ≡ 0) × (t ≡ term.Value unit) × (d ≡ paid 1)
Grows p n s pick d (undivided items) (server stage) =
    (count_of items ≡ 1) × (stage ≡ called) × (d ≡ paid 1)
Grows p n s pick d (undivided items) (halves m a k b) =
    (some : Span) × (others : Span) × (count_of some + count_of others ≡ count_of items)
    × (m ≡ false) × (a ≡ undivided some) × (k ≡ false) × (b ≡ undivided others) × (d ≡ paid 1)
Grows p n s pick d (server stage) (server next) = Follows p n s pick d stage next
Grows p n s pick d (halves m a k b) (halves m' a' k' b') =
    ((q : Pick) × (pick ≡ under (0 ∷ []) q) × Grows p n s q d a a' × (m' ≡ true) × (k' ≡ k)
    × (b' ≡ b))
    ⊎ ((q : Pick) × (pick ≡ under (1 ∷ []) q) × Grows p n s q d b b' × (m' ≡ m) × (a' ≡ a)
    × (k' ≡ true))
Grows p n s pick d (halves m a k b) (over t) =
    IsOver (with_step m (tree_term n a)) (with_step k (tree_term n b)) t × (d ≡ paid 1)
Grows p n s pick d _ _ = ⊥
