-- The rows of an accepted hierarchy.
use Rattle.std.proofs.Common.{◌≡◌, ℕ, ◌<◌, Bool, true, false, List, Option, Some, None, refl, ap, ◌∙◌, subst, IsTrue}
use Rattle.std.specs.Prelude.{length, slice_get, unwrap_or, option_and_then}
use Rattle.std.proofs.lemmas.Option.{slice_get_within}
use Rattle.fort_types.specs.Hierarchy.{Path}
use Rattle.fort_types.specs.Table.{is_set, IsExact}
use Rattle.fort_types.proofs.Paths.{joined, to_leaf}
use Rattle.fort_sound_typed.specs.Hierarchies.{RowsOfHierarchy}

-- a place that is set stands in a row
row_there : (o : Option (List Bool)) (j : ℕ)
    → unwrap_or (option_and_then (λ (row : List Bool). slice_get row j) o) false ≡ true
    → (row : List Bool) × (o ≡ Some row) × (slice_get row j ≡ Some true)
row_there None j e = absurd cc
row_there (Some row) j e = go (slice_get row j) refl e
  where
    go : (b : Option Bool) → slice_get row j ≡ b → unwrap_or b false ≡ true
        → (r : List Bool) × (Some row ≡ Some r) × (slice_get r j ≡ Some true)
    go None q e = absurd cc
    go (Some b) q e = (row, refl, q ∙ ap Some e)

pub inside : (R : ℕ → ℕ → Type 0) (n : ℕ) (rows : List (List Bool)) → IsExact R n rows → (i j : ℕ)
    → IsTrue (is_set rows i j) → (i < n) × (j < n)
inside R n rows x i j e =
    let r = row_there (slice_get rows i) j e in (
      subst (λ m. i < m) x.high (slice_get_within rows i r.0 r.1),
      subst (λ m. j < m) (x.wide i r.0 r.1) (slice_get_within r.0 j true r.2),
    )

pub rows_of_hierarchy : RowsOfHierarchy
rows_of_hierarchy h table s rows = (
  λ i j n e f.
      let x = inside (Path h) (length h) table.below rows.below i j e in
      let y = inside (Path h) (length h) table.below rows.below j n f in
      (rows.below.sets i n x.0 y.1).1
      (joined h ((rows.below.sets i j x.0 x.1).0 e) ((rows.below.sets j n y.0 y.1).0 f)),
  λ i j l e.
      let x = inside (Path h) (length h) table.below rows.below i j e in
      to_leaf h s i j l ((rows.below.sets i j x.0 x.1).0 e),
)
