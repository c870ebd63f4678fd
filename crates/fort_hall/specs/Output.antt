-- The root's output, which is written while others add to the root's book. The chapter "The hall" of
-- docs/THREADS.md.
use Rattle.std.specs.Prelude.{◌≡◌, ℕ, true, List, [], ◌∷◌, Option, Some}
use mathlib.Core.List.{IsPrefix}
use Rattle.fort_turn.specs.declared.held.Pass.{Pass}
use Rattle.fort_turn.specs.declared.held.Turn.{Turn}
use Rattle.fort_turn.specs.Book.{entries_by}
use Rattle.fort_turn.specs.Passes.{IsIdle, numbers_of, seen_by, is_first}
use Rattle.fort_port_output.specs.Written.{Change, HasWritten}
use Rattle.fort_port_output.specs.declared.progress.Progress.{Progress}

module _ {B E O : Type 0} (keeps : B → Type 0) (history : B → List E) (origin : B → O)
    (by : E → ℕ) where
  -- The first pass, which holds nothing and made no entry, has seen a kept book that began here.
  pub record Watches (t : Turn B) (start : O) (p : Pass B) : Type 0 where
    pub idle : IsIdle t p
    pub first : is_first p ≡ true
    pub numbers : numbers_of p ≡ 0 ∷ []
    pub book : B
    pub seen : seen_by p ≡ Some book
    pub kept : keeps book
    pub origin_is : origin book ≡ start
    pub none : entries_by by 0 (history book) ≡ []

module _ {B E O : Type 0} (history : B → List E) (origin : B → O) where
  -- What the later pass has seen goes on from what the earlier one had seen.
  abbrev pub SeesMore : Pass B → Pass B → Type 0
  SeesMore p q = (b : B) → seen_by p ≡ Some b
      → (c : B) × (seen_by q ≡ Some c) × (origin c ≡ origin b) × IsPrefix (history b) (history c)

-- While a text grew, it was written on: whatever was written of it before, so far was it written
-- now; and where the output had failed, nothing was.
pub record WritesOn (ready now : Type 0) (sink : Change) (text longer : List ℕ) (p q : Progress)
    : Type 0 where
  pub written : (was : Option (List ℕ)) → (faults_were : ℕ)
      → HasWritten ready (record {
        was = was;
        is = sink.was;
        faults_were = faults_were;
        faults_are = sink.faults_were;
      }) text p
      → HasWritten now (record {
        was = was;
        is = sink.is;
        faults_were = faults_were;
        faults_are = sink.faults_are;
      }) longer q
  pub failed : p.failed ≡ true
      → (q.failed ≡ true) × (sink.is ≡ sink.was) × (sink.faults_are ≡ sink.faults_were)
