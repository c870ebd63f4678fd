use Rattle.std.proofs.Common.{◌≡◌, ℕ, ◌+◌, ◌≤◌, length, drop}
use Rattle.std.specs.Str.{chars}
use Rattle.fort_prim.proofs.Characters.{ending}
use Rattle.fort_prim.proofs.counts.length_of.Given as goal

abbrev pub invariant-loop-byte : goal.invariant-loop-byte
invariant-loop-byte l =
    record {
      few : l.count ≤ l.byte-index;
      rest : (c : ℕ)
          → l.count + ending l.missing c (drop l.byte-index l.text) ≡ length (chars l.text);
    }
