-- What is the longest part of the first tokens of a row is that of the row, where none has more
-- tokens than those.
use Rattle.std.proofs.Common.{◌≡◌, ℕ, zero, suc, ◌≤◌, [], ◌∷◌, length, take, refl, sym, ap, subst, arith}
use Rattle.std.proofs.lemmas.List.{length-take-le}
use Rattle.fort_tree.specs.Tokens.{Spellings}
use Rattle.fort_tree.specs.Said.{Said, Allowed}
use Rattle.fort_parse_reading.specs.Parser.{Row}
use Rattle.fort_parse_reading.specs.Longest.{HasTree, NoneLonger, LongestPart}

-- the first j of the first k
take_within : (ts : Row) (j k : ℕ) → j ≤ k → take j (take k ts) ≡ take j ts
take_within ts zero k le = refl
take_within [] (suc j) zero le = absurd (omega arith)
take_within [] (suc j) (suc k) le = refl
take_within (t ∷ ts) (suc j) zero le = absurd (omega arith)
take_within (t ∷ ts) (suc j) (suc k) le = ap (λ (z : Row). t ∷ z) (take_within ts j k (omega arith))

module _ {A : Type 0} (names : Spellings) (allowed : Allowed) (said : A → Said) where
  -- the longest of the first tokens, where none has more than these
  pub longest_within : (ts : Row) (end : ℕ) (x : A) (k : ℕ) → end ≤ length ts
      → NoneLonger names allowed said ts end → LongestPart names allowed said (take end ts) x k
      → LongestPart names allowed said ts x k
  longest_within ts end x k le none h =
      let size : length (take end ts) ≡ end = length-take-le end ts le in
      let below : k ≤ length (take end ts) = h.within in
      let short : k ≤ end = omega arith in
      record {
        within = omega arith;
        tree = subst (λ
            (us : Row). HasTree names allowed said us x) (take_within ts k end short) h.tree;
        only = λ y has. h.only y (subst (λ
            (us : Row). HasTree names allowed said us y) (sym (take_within ts k end short))
            has);
        longest = λ j y in_ts has.
            let most : j ≤ end = none j y in_ts has in
            h.longest j y (omega arith) (subst (λ
            (us : Row). HasTree names allowed said us y) (sym (take_within ts j end most))
            has);
      }
