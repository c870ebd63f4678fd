-- What a parser reads is the longest part that begins there; where it fails, none has more tokens
-- than those before the fault; and of all tokens of a row it tells whether they have a tree, and
-- which. This holds of every parser whose two laws are proved: what it reads is the tokens of a
-- tree, and the tokens of a tree are read where nothing follows them.
use Rattle.std.proofs.Common.{◌≡◌, ℕ, zero, suc, ◌+◌, ◌-◌, ◌<◌, true, [], ◌∷◌, ◌++◌, length, take, refl, sym, ap, subst, ◌∙◌, length-append, arith, inl, inr}
use Rattle.std.proofs.lemmas.List.{append-nil}
use Rattle.std.proofs.lemmas.Bool.{cases_lt}
use Rattle.std.proofs.Math.Seq.{take-append_seam}
use Rattle.fort_lex_token.specs.declared.token.Token.{Token}
use Rattle.fort_tree.specs.Tokens.{Spellings}
use Rattle.fort_tree.specs.Said.{Said, Allowed, tokens_of}
use Rattle.fort_parse_reading.specs.declared.fault.Fault.TheVariants.{Syntax, TooDeep}
use Rattle.fort_parse_reading.specs.Parser.{Row, Outcome, Read, Failed, Seen, Locally, Parser}
use Rattle.fort_parse_reading.specs.Longest.{HasTree, NoneLonger, LongestPart}
use Rattle.fort_parse_reading.proofs.Laws.{Only, Gets, reads, ends}
use Rattle.fort_parse_reading.proofs.Yields.{Yields}

-- more tokens than those before t begin with those and t
cut : (front : Row) (t : Token) (m : Row) (j : ℕ) → length front < j
    → (more : Row) × (take j (front ++ (t ∷ m)) ≡ front ++ (t ∷ more))
cut front t m zero lt = absurd (omega arith)
cut [] t m (suc j) lt = (take j m, refl)
cut (u ∷ front) t m (suc j) lt =
    let h = cut front t m j (omega arith) in (h.0, ap (λ (z : Row). u ∷ z) h.1)

-- what is read of all tokens of a tree, unless the budget ends
read_all : {A : Type 0} (o : Outcome A) (x y : A) (rest : Row) → Gets A o y [] → o ≡ Read x rest
    → (x ≡ y) × (rest ≡ [])
read_all o x y rest reads e = (cc, cc)
read_all o x y rest ends e = absurd cc

read_more : {A : Type 0} (o : Outcome A) (x y : A) (t : Token) (more : Row) → Gets A o y []
    → o ≡ Read x (t ∷ more) → ⊥
read_more o x y t more reads e = absurd cc
read_more o x y t more ends e = absurd cc

read_fails : {A : Type 0} (o : Outcome A) (y : A) (rest : Row) → Gets A o y []
    → o ≡ Failed Syntax rest → ⊥
read_fails o y rest reads e = absurd cc
read_fails o y rest ends e = absurd cc

gets_reads : {A : Type 0} {o : Outcome A} {x : A} {rest : Row} → Gets A o x rest
    → ((left : Row) → o ≡ Failed TooDeep left → ⊥) → o ≡ Read x rest
gets_reads reads none = refl
gets_reads ends none = absurd (none _ refl)

module _ {A : Type 0} (names : Spellings) (allowed : Allowed) (said : A → Said) {n : ℕ}
    (p : Parser A n)
    (sound : (ts : Row) → Only A (p.run ts) (λ x rest. Yields names (said x) allowed ts rest))
    (complete : (x : A) → (said x).obeys names allowed ≡ true
    → Gets A (p.run (tokens_of (said x))) x []) where
  gets_tree : (us : Row) (y : A) → HasTree names allowed said us y → Gets A (p.run us) y []
  gets_tree us y h = subst (λ (z : Row). Gets A (p.run z) y []) (sym h.tokens) (complete y h.obeys)

  -- ---- of all tokens of a row

  pub all_have : (us : Row) (x : A) → p.run us ≡ Read x [] → HasTree names allowed said us x
  all_have us x e =
      let h = (sound us).holds x [] e
      in record { tokens = h.tokens ∙ append-nil (tokens_of (said x)); obeys = h.obeys }

  pub all_only : (us : Row) (x : A) → p.run us ≡ Read x [] → (y : A)
      → HasTree names allowed said us y → y ≡ x
  all_only us x e y h = sym (read_all (p.run us) x y [] (gets_tree us y h) e).0

  pub some_left : (us : Row) (x : A) (t : Token) (more : Row) → p.run us ≡ Read x (t ∷ more)
      → (y : A) → HasTree names allowed said us y → ⊥
  some_left us x t more e y h = read_more (p.run us) x y t more (gets_tree us y h) e

  pub none_has : (us rest : Row) → p.run us ≡ Failed Syntax rest → (y : A)
      → HasTree names allowed said us y → ⊥
  none_has us rest e y h = read_fails (p.run us) y rest (gets_tree us y h) e

  -- ---- of the first tokens of a row

  read_bound : (ts : Row) (x : A) (rest : Row)
      → Seen ts rest (λ ts' rest'. p.run ts' ≡ Read x rest')
      → NoneLonger names allowed said ts (length ts - length rest)
  read_bound ts x [] s j y le h = omega arith
  read_bound ts x (t ∷ m) s j y le h =
      let size : length ts ≡ length s.front + length (t ∷ m) =
      ap length s.whole ∙ length-append s.front (t ∷ m) in
      elim (cases_lt (length s.front) j) [
        | inl lt ↦
            let c = cut s.front t m j lt in
            let is : take j ts ≡ s.front ++ (t ∷ c.0) = ap (take j) s.whole ∙ c.1 in
            absurd (some_left (s.front ++ (t ∷ c.0)) x t c.0 (s.same t m c.0 refl) y (subst (λ
            (z : Row). HasTree names allowed said z y) is h))
        | inr ge ↦ omega (arith, size)
      ]

  fault_bound : (ts rest : Row) → Seen ts rest (λ ts' rest'. p.run ts' ≡ Failed Syntax rest')
      → NoneLonger names allowed said ts (length ts - length rest)
  fault_bound ts [] s j y le h = omega arith
  fault_bound ts (t ∷ m) s j y le h =
      let size : length ts ≡ length s.front + length (t ∷ m) =
      ap length s.whole ∙ length-append s.front (t ∷ m) in
      elim (cases_lt (length s.front) j) [
        | inl lt ↦
            let c = cut s.front t m j lt in
            let is : take j ts ≡ s.front ++ (t ∷ c.0) = ap (take j) s.whole ∙ c.1 in
            absurd (none_has (s.front ++ (t ∷ c.0)) (t ∷ c.0) (s.same t m c.0 refl) y (subst (λ
            (z : Row). HasTree names allowed said z y) is h))
        | inr ge ↦ omega (arith, size)
      ]

  -- behind a fault no tree ends
  pub fails_at : (ts rest : Row) → p.run ts ≡ Failed Syntax rest
      → NoneLonger names allowed said ts (length ts - length rest)
  fails_at ts rest e = fault_bound ts rest (subst (λ o. Locally p.run ts o) e (p.local ts))

  -- what is read is the longest part
  pub is_longest : (ts : Row) (x : A) (rest : Row) → length ts < n → p.run ts ≡ Read x rest
      → LongestPart names allowed said ts x (length ts - length rest)
  is_longest ts x rest lt e =
      let h = (sound ts).holds x rest e in
      let size : length ts ≡ length (tokens_of (said x)) + length rest =
      ap length h.tokens ∙ length-append (tokens_of (said x)) rest in
      let k : length ts - length rest ≡ length (tokens_of (said x)) = omega (arith, size) in
      let is : take (length ts - length rest) ts ≡ tokens_of (said x) =
      ap (λ (i : ℕ). take i ts) k ∙ ap (take (length (tokens_of (said x)))) h.tokens
      ∙ take-append_seam (tokens_of (said x)) rest in
      let has : HasTree names allowed said (take (length ts - length rest) ts) x =
      record { tokens = is; obeys = h.obeys } in
      let short : length (take (length ts - length rest) ts) ≡ length (tokens_of (said x)) =
      ap length is in
      let all =
      gets_reads (gets_tree (take (length ts - length rest) ts) x has) (λ left d. let deep =
      p.deep (take (length ts - length rest) ts) left d
      in omega (arith, deep, short, size, lt)) in
      record {
        within = omega arith;
        tree = has;
        only = λ y other. all_only (take (length ts - length rest) ts) x all y other;
        longest = read_bound ts x rest (subst (λ o. Locally p.run ts o) e (p.local ts));
      }
