-- Chapter "Store and effects" of docs/MACHINE.md: which values a tree gives to which numbers. The
-- trees are radix trees of 32 ways, by the digits of a number in base 32.
use Rattle.std.specs.Prelude.{ℕ, ◌+◌, ◌*◌, ◌/◌, ◌%◌, ◌==◌, List, Option, Some, None, slice_get, if◌then◌else◌, nat_lt}
use Rattle.std.specs.Option.{option_flatten}
use Rattle.fort_core.specs.declared.value.Value.{Value}
use Rattle.fort_machine.specs.Effects.{Store}
use Rattle.fort_machine.specs.Plain.{put}
use Rattle.fort_store.specs.declared.tree.Tree.{Tree, fold-Tree}
use Rattle.fort_store.specs.declared.tree.Tree.TheOpen.{Tree-F}

-- What stands at a place of a row; nothing where the row ends before it.
abbrev pub placed : {X : Type 0} → List (Option X) → ℕ → Option X
placed xs i = option_flatten (slice_get xs i)

-- The branch that a number of two digits or more goes to, by its last digit but one.
abbrev pub way : ℕ → ℕ
way n = n / 32 % 32

-- The number that it has there: its digits without that one.
abbrev pub rest : ℕ → ℕ
rest n = n / 32 / 32 * 32 + n % 32

-- What a branch gives, where there is one.
abbrev pub given : Option Store → Store
given None = λ n. None
given (Some s) = s

-- A tree keeps the values of the numbers of one digit; its branches give those of the others.
abbrev pub layer : Tree-F Store → Store
layer t = λ n. if nat_lt n 32 then placed t.own.items n
    else given (placed t.below.items (way n)) (rest n)

-- The values of a tree, by their numbers.
abbrev pub kept : Tree → Store
kept = fold-Tree Store layer

-- The values of a tree, where there is one.
abbrev pub branch : Option Tree → Store
branch None = λ n. None
branch (Some t) = kept t

-- The values of the trees of a row, by the tree's place and the value's number in it.
abbrev pub branches : List (Option Tree) → ℕ → Store
branches ts i = branch (placed ts i)

-- A row of stores with a value put into the one at a place.
abbrev pub put_in : ℕ → ℕ → Value → (ℕ → Store) → ℕ → Store
put_in i n v row = λ j. if i == j then put n v (row j) else row j
