-- One place more.
use Rattle.std.proofs.Common.{◌≡◌, ℕ, ◌+◌, ◌<◌, ◌≤◌, List, inl, inr, ap, arith}
use Rattle.std.proofs.lemmas.Bool.{cases_lt}
use Rattle.fort_tree.specs.declared.grouped.Joint.{Joint}
use Rattle.fort_group.specs.Joints.{strength}
use Rattle.fort_group.specs.Joining.{IsWeakest}

module _ (joints : List Joint) where
  same_strength : (m n : ℕ) → m ≡ n → strength joints m ≡ strength joints n
  same_strength m n e = ap (strength joints) e

  pub one_place : (i : ℕ) → IsWeakest joints i (i + 1) i
  one_place i =
      record {
        from = omega arith;
        to = omega arith;
        least = λ n a b. let e = same_strength n i (omega arith) in omega arith;
        last = λ n a b. absurd (omega arith);
      }

  pub keeps : (i n k : ℕ) → IsWeakest joints i n k → strength joints k < strength joints n
      → IsWeakest joints i (n + 1) k
  keeps i n k w lt = record {
    from = w.from;
    to = let a = w.to in omega arith;
    least = λ m a b. elim (cases_lt m n) as (λ z. strength joints k ≤ strength joints m) [
      | inl h ↦ w.least m a h
      | inr h ↦ (let e = same_strength m n (omega arith) in omega arith)
    ];
    last = λ m a b. elim (cases_lt m n) as (λ z. strength joints k < strength joints m) [
      | inl h ↦ w.last m a h
      | inr h ↦ (let e = same_strength m n (omega arith) in omega arith)
    ];
  }

  pub moves : (i n k : ℕ) → IsWeakest joints i n k → strength joints n ≤ strength joints k
      → IsWeakest joints i (n + 1) n
  moves i n k w le = record {
    from = let a = w.from in let b = w.to in omega arith;
    to = omega arith;
    least = λ m a b. elim (cases_lt m n) as (λ z. strength joints n ≤ strength joints m) [
      | inl h ↦ (let e = w.least m a h in omega arith)
      | inr h ↦ (let e = same_strength m n (omega arith) in omega arith)
    ];
    last = λ m a b. absurd (omega arith);
  }
