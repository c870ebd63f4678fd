-- What came out of a sink. It restates the chapter "Statuses and notes" of docs/LANGUAGE.md. The
-- code writes piece after piece while the text grows.
use Rattle.std.specs.Prelude.{◌≡◌, ◌≢◌, ℕ, ◌≤◌, Bool, true, false, List, [], ◌++◌, length, take, drop, Option, ◌⊎◌}
use Rattle.fort_port.specs.Outside.{Rose, adds}
use Rattle.fort_port_output.specs.declared.progress.Progress.{Progress}

-- What was written to a sink, where it tells it, and its count of faults, before a call and after
-- it.
pub record Change : Type 0 where
  pub was : Option (List ℕ)
  pub is : Option (List ℕ)
  pub faults_were : ℕ
  pub faults_are : ℕ

-- The sink took these bytes, without a fault.
pub record Takes (sink : Change) (bytes : List ℕ) : Type 0 where
  pub written : sink.is ≡ adds bytes sink.was
  pub calm : sink.faults_are ≡ sink.faults_were

-- The sink took the first of these bytes and not all; then its count of faults rose.
pub record Fails (sink : Change) (bytes : List ℕ) : Type 0 where
  pub front : List ℕ
  pub rest : List ℕ
  pub parts : bytes ≡ front ++ rest
  pub some : rest ≢ []
  pub written : sink.is ≡ adds front sink.was
  pub rose : Rose sink.faults_were sink.faults_are

abbrev pub TakesOrFails : Change → List ℕ → Type 0
TakesOrFails sink bytes = Takes sink bytes ⊎ Fails sink bytes

-- So far was a text written: its first bytes, as many as is told, and the sink may be written to
-- again; or the sink has failed before the text's end.
pub data HasWritten (ready : Type 0) (sink : Change) (text : List ℕ) (p : Progress) : Type 0 where
  goes_on : p.failed ≡ false → p.bytes ≤ length text → Takes sink (take p.bytes text) → ready
      → HasWritten ready sink text p
  has_failed : p.failed ≡ true → Fails sink text → HasWritten ready sink text p

-- These bytes stand in a text behind so many others.
abbrev pub ComesNext : List ℕ → ℕ → List ℕ → Type 0
ComesNext text at piece = (rest : List ℕ) × (drop at text ≡ piece ++ rest)

-- What a call does that writes a text from its first byte on: where the output had failed before,
-- nothing, and it says so again; else so far was the text written.
abbrev pub Writes : Bool → Type 0 → Change → List ℕ → Progress → Type 0
Writes true ready sink text p = (p.failed ≡ true) × (sink.is ≡ sink.was)
    × (sink.faults_are ≡ sink.faults_were)
Writes false ready sink text p = HasWritten ready sink text p
