-- Above each declared type that is below two others there is a meet of the two.
use Rattle.std.proofs.Common.{◌≡◌, ◌<◌, ◌⊎◌, inl, inr, ℕ, zero, suc, length, sym, subst, arith}
use Rattle.fort_base.specs.declared.table.TypeTable.{TypeTable}
use Rattle.fort_types.specs.Hierarchy.{DeclaredTypes, Path, stop, Sound}
use Rattle.fort_types.specs.Table.{HasRows}
use Rattle.fort_types.proofs.Paths.{joined, both_ways, end_inside}
use Rattle.fort_meet.specs.Meets.{IsMeet}
use Rattle.fort_types_sets.proofs.Decided.{both_or, paths}

module _ (h : DeclaredTypes) (table : TypeTable) (sound : Sound h) (rows : HasRows h table) where
  -- one that is highest among the numbers below a bound
  record Climbed (i j k to : ℕ) : Type 0 where
    at : ℕ
    left : Path h at i
    right : Path h at j
    above : Path h k at
    top : (n : ℕ) → n < to → Path h n i → Path h n j → Path h at n → n ≡ at

  near : (j n : ℕ) → j < suc n → (j < n) ⊎ (j ≡ n)
  near j n b = grind arith

  climb_by : (i j k : ℕ) → Path h k i → Path h k j → (to : ℕ) → Climbed i j k to
  climb_by i j k p q zero =
      record { at = k; left = p; right = q; above = stop; top = λ n b. absurd (omega arith) }
  climb_by i j k p q (suc t) = let c = climb_by i j k p q t in
      elim (both_or (paths h table rows t i)
      (both_or (paths h table rows t j) (paths h table rows c.at t))) as
      (λ _. Climbed i j k (suc t)) [
        | inl w ↦ record {
          at = t;
          left = w.0;
          right = w.1.0;
          above = joined h c.above w.1.1;
          top = λ n b u v m. elim (near n t b) as (λ _. n ≡ t) [
            | inl l ↦
                (let e : n ≡ c.at = c.top n l u v (joined h w.1.1 m)
                in sym (both_ways h sound t n m (subst (λ z. Path h z t) (sym e) w.1.1)))
            | inr e ↦ e
          ];
        }
        | inr f ↦ record {
          at = c.at;
          left = c.left;
          right = c.right;
          above = c.above;
          top = λ n b u v m. elim (near n t b) as (λ _. n ≡ c.at) [
            | inl l ↦ c.top n l u v m
            | inr e ↦
                absurd (f (
                  subst (λ z. Path h z i) e u,
                  (subst (λ z. Path h z j) e v, subst (λ z. Path h c.at z) e m),
                ))
          ];
        }
      ]

  pub climb : (i j k : ℕ) → k < length h → Path h k i → Path h k j
      → (m : ℕ) × IsMeet h i j m × Path h k m
  climb i j k l p q = let c = climb_by i j k p q (length h) in (
    c.at,
    record {
      common = (end_inside h k c.at c.above l, c.left, c.right);
      highest = λ n w m. c.top n w.0 w.1 w.2 m;
    },
    c.above,
  )
