use Rattle.std.proofs.Common.{◌≡◌, ◌≢◌, ◌<◌, ℕ, Some, IsTrue}
use Rattle.std.specs.List.{slice_get}
use Rattle.fort_base.specs.declared.ids.TypeId.{TypeId}
use Rattle.fort_types.specs.Table.{is_set}
use Rattle.fort_meet.proofs.meeting.is_passed.Given as goal

abbrev pub invariant-loop-k : goal.invariant-loop-k
invariant-loop-k l = (i : ℕ) (k : TypeId) → i < l.k-index → slice_get l.list i ≡ Some k
    → (k ≢ l.m) × IsTrue (is_set l.rows l.m.0 k.0) → ⊥
