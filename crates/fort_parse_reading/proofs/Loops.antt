-- A list that is read by a loop.
use Rattle.std.proofs.Common.{◌≡◌, ℕ, suc, ◌+◌, ◌-◌, ◌≤◌, ◌<◌, Bool, true, false, List, [], ◌∷◌, ◌++◌, Option, refl, sym, ap, ◌∙◌, append_assoc, arith}
use Rattle.std.proofs.lemmas.List.{append-nil}
use Rattle.fort_lex_token.specs.declared.token.Token.{Token}
use Rattle.fort_parse_reading.specs.declared.fault.Fault.{Fault}
use Rattle.fort_parse_reading.specs.declared.fault.Fault.TheVariants.{TooDeep}
use Rattle.fort_parse_reading.specs.Parser.{Outcome, Read, Failed, and_then, next_of, many_run, Eater}

-- what was read before, and what is still read
abbrev pub with_front : {A : Type 0} → List A → Outcome (List A) → Outcome (List A)
with_front front o = and_then o (λ xs rest. Read (front ++ xs) rest)

pub no_front : {A : Type 0} (o : Outcome (List A)) → with_front [] o ≡ o
no_front (Read xs rest) = refl
no_front (Failed e rest) = refl

regroup : {A : Type 0} (front : List A) (x : A) (o : Outcome (List A))
    → with_front front (and_then o (λ xs rest. Read (x ∷ xs) rest)) ≡ with_front (front ++ x ∷ []) o
regroup front x (Read xs rest) = ap (λ (ys : List _). Read ys rest) (simp append_assoc)
regroup front x (Failed e rest) = refl

module _ {A S : Type 0} {b : ℕ} (starts : S → Option Token → Bool) (after : S → A → S)
    (item : S → Eater A b) (front : List A) (count i : ℕ) (state : S) (ts : List Token)
    (total : Outcome (List A)) where
  abbrev pub SoFar : Type 0
  SoFar = with_front front (many_run starts after item (count - i) state ts) ≡ total

  pub goes_on : (x : A) (mid : List Token) → i < count → starts state (next_of ts) ≡ true
      → (item state).parser.run ts ≡ Read x mid → SoFar
      → with_front (front ++ x ∷ [])
      (many_run starts after item (count - (i + 1)) (after state x) mid) ≡ total
  goes_on x mid lt e h so_far =
      let k : count - i ≡ suc (count - (i + 1)) = omega arith in
      let one : with_front front (many_run starts after item (count - i) state ts)
      ≡ with_front (front ++ x ∷ [])
      (many_run starts after item (count - (i + 1)) (after state x) mid) =
      rw (k, e, h)
      (regroup front x (many_run starts after item (count - (i + 1)) (after state x) mid)) in
      sym one ∙ so_far

  pub fails : (f : Fault) (rest : List Token) → i < count → starts state (next_of ts) ≡ true
      → (item state).parser.run ts ≡ Failed f rest → SoFar → total ≡ Failed f rest
  fails f rest lt e h so_far =
      let k : count - i ≡ suc (count - (i + 1)) = omega arith in
      let one : with_front front (many_run starts after item (count - i) state ts) ≡ Failed f rest =
      rw (k, e, h) refl in
      sym so_far ∙ one

  pub is_done : i < count → starts state (next_of ts) ≡ false → SoFar → total ≡ Read front ts
  is_done lt e so_far =
      let k : count - i ≡ suc (count - (i + 1)) = omega arith in
      let one : with_front front (many_run starts after item (count - i) state ts) ≡ Read front ts =
      rw (k, e) (ap (λ (ys : List A). Read ys ts) (append-nil front)) in
      sym so_far ∙ one

  pub runs_out : count ≤ i → SoFar → total ≡ Failed TooDeep ts
  runs_out le so_far =
      let k : count - i ≡ 0 = omega arith in
      let one : with_front front (many_run starts after item (count - i) state ts)
      ≡ Failed TooDeep ts = rw k refl in
      sym so_far ∙ one
