-- The chapter "Components and APIs": in which file a place of the whole stands. The code goes over
-- the files once.
use Rattle.std.specs.Prelude.{◌≡◌, ◌⊎◌, ℕ, ◌+◌, ◌<◌, ◌≤◌, List, [], ◌∷◌, ◌++◌, length}
use Rattle.fort_base.specs.declared.refusal.Place.{Place}
use Rattle.fort_link.specs.declared.answer.Spot.{Spot}
use Rattle.fort_link.specs.Lines.{lines, all_lines, taken_off}

-- A place of the whole stands in this file, at this place: in the one whose lines have it; in the
-- first one where its line is 0, and in the last one where it is behind all lines.
pub record StandsIn (files : List (List ℕ)) (at : Place) (spot : Spot) : Type 0 where
  pub front : List (List ℕ)
  pub file : List ℕ
  pub back : List (List ℕ)
  pub whole : files ≡ front ++ file ∷ back
  pub number : spot.file ≡ length front
  pub place : spot.place ≡ taken_off (all_lines front) at
  pub begins : (front ≡ []) ⊎ (all_lines front < at.line)
  pub ends : (back ≡ []) ⊎ (at.line ≤ all_lines front + lines file)
