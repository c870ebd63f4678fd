-- The chapter "Components and APIs", 704: an exporter's signatures, each tied to the one before it
-- of the same name. The code goes from the last one of a name to the first.
use Rattle.std.specs.Prelude.{ℕ, ◌≡◌, ◌+◌, ◌<◌, ◌≤◌, List, Some, length, get_or, slice_get}
use Rattle.fort_base.specs.declared.ids.NameId.{NameId}
use Rattle.fort_link_rules.specs.declared.catalogue.Catalogue.{Catalogue}
use Rattle.fort_link_rules.specs.declared.signatures.Signature.{Signature}
use Rattle.fort_link_rules.specs.Marks.{mark_of}

-- The signature at a number has this name.
abbrev pub NameAt : List Signature → ℕ → NameId → Type 0
NameAt signatures k id = (s : Signature) × (slice_get signatures k ≡ Some s) × (s.name ≡ id)

-- Of the first signatures, so many stand up to the last one of a name, none where it has none.
pub record StandUpTo (signatures : List Signature) (first : ℕ) (id : NameId)
    (count : ℕ) : Type 0 where
  pub within : count ≤ first
  pub last : (k : ℕ) → count ≡ k + 1 → NameAt signatures k id
  pub behind : (k : ℕ) → count ≤ k → k < first → ¬ (NameAt signatures k id)

-- Each name has the number of signatures up to its last one, and each signature that of those up to
-- the one before it of its name.
pub record IsTied (c : Catalogue) : Type 0 where
  pub whole : length c.before ≡ length c.signatures
  pub last : (id : NameId) → StandUpTo c.signatures (length c.signatures) id (mark_of c.last id)
  pub before : (k : ℕ) (id : NameId) → NameAt c.signatures k id
      → StandUpTo c.signatures k id (get_or c.before k 0)
