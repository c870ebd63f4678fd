use Rattle.std.proofs.Common.{◌≡◌, ℕ, ◌<◌, true}
use Rattle.fort_types.specs.Table.{is_set}
use Rattle.fort_sound_tables.proofs.types.none_else.Given as goal

abbrev pub invariant-loop-i : goal.invariant-loop-i
invariant-loop-i l =
    (k : ℕ) → k < l.i → is_set l.rows k l.thread.0 ≡ true → k ≡ l.thread.0
