use Rattle.std.proofs.Common.{◌≡◌, length, drop}
use Rattle.fort_sound_tables.proofs.calls.same_types.Given as goal

abbrev pub invariant-loop-i : goal.invariant-loop-i
invariant-loop-i l =
    (length l.a ≡ length l.b) × (drop l.i l.a ≡ drop l.i l.b → l.a ≡ l.b)
