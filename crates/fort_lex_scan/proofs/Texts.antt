-- Where a text ends, and its first fault.
use Rattle.std.proofs.Common.{◌≡◌, ℕ, suc, ◌≤◌, ◌+◌, Bool, true, false, cond, not, ◌&&◌, ◌==◌, ◌⊎◌, List, [], ◌∷◌, ◌++◌, length, take, Option, None, Some, refl, sym, ap, subst, ◌∙◌, arith}
use mathlib.Core.Logic.{inl, inr}
use Rattle.std.proofs.lemmas.Bool.Decides.{nat_tests}
use Rattle.std.specs.Option.{option_map}
use Rattle.fort_base.specs.declared.rules.TheConstants.{BAD_CHARACTER, BAD_ESCAPE}
use Rattle.fort_base.specs.declared.refusal.Rule.{Rule}
use Rattle.fort_lex_scan.specs.Lists.{is_empty}
use Rattle.fort_lex_scan.specs.Spelling.{closes_text, is_control}
use Rattle.fort_lex_scan.specs.Scan.{text_end}
use Rattle.fort_lex_scan.specs.Tokens.{escapes, is_escape}
use Rattle.fort_lex_scan.specs.Words.{text_fault}

and_both : (p q : Bool) → (p && q) ≡ true → (p ≡ true) × (q ≡ true)
and_both true q h = (refl, h)
and_both false q h = absurd cc

not_true : (b : Bool) → not b ≡ true → b ≡ false
not_true true h = absurd cc
not_true false h = refl

suc_some : (o : Option ℕ) (n : ℕ) → option_map suc o ≡ Some n → (m : ℕ) × (o ≡ Some m) × (n ≡ suc m)
suc_some None n h = absurd cc
suc_some (Some m) n h = (m, refl, cc)

read_by : (c : ℕ) (vs more : List ℕ) (q : Bool) → (c == 34) ≡ q
    → cond q (is_empty vs) (not (c == 10) && closes_text (c == 92) vs) ≡ true
    → ((b : Bool) → closes_text b vs ≡ true → text_end b (vs ++ more) ≡ Some (length vs))
    → cond q (Some 1) (cond (c == 10) None (option_map suc (text_end (c == 92) (vs ++ more))))
    ≡ Some (suc (length vs))
read_by c [] more true e h ih = refl
read_by c (d ∷ vs) more true e h ih = absurd cc
read_by c vs more false e h ih =
    let both = and_both (not (c == 10)) (closes_text (c == 92) vs) h in
    rw (not_true (c == 10) both.0) (ap (option_map suc) (ih (c == 92) both.1))

pub text_read : (b : Bool) (vs more : List ℕ) → closes_text b vs ≡ true
    → text_end b (vs ++ more) ≡ Some (length vs)
text_read b [] more h = absurd cc
text_read true (c ∷ vs) more h =
    let both = and_both (not (c == 10)) (closes_text false vs) h in
    rw (not_true (c == 10) both.0) (ap (option_map suc) (text_read false vs more both.1))
text_read false (c ∷ vs) more h = read_by c vs more (c == 34) refl h (λ b k. text_read b vs more k)

pub record Closes (b : Bool) (xs : List ℕ) (n : ℕ) : Type 0 where
  pub closes : closes_text b (take n xs) ≡ true
  pub within : n ≤ length xs

line_by : (c : ℕ) (xs : List ℕ) (b : Bool) (n : ℕ) (l : Bool) → (c == 10) ≡ l
    → cond l None (option_map suc (text_end b xs)) ≡ Some n
    → ((m : ℕ) → text_end b xs ≡ Some m → Closes b xs m)
    → (m : ℕ) × (n ≡ suc m) × ((c == 10) ≡ false) × Closes b xs m
line_by c xs b n true e h ih = absurd cc
line_by c xs b n false e h ih = let s = suc_some (text_end b xs) n h in (s.0, s.2, e, ih s.0 s.1)

one_more : (c : ℕ) (xs : List ℕ) (b : Bool) (m : ℕ) → (c == 10) ≡ false
    → closes_text b (take m xs) ≡ true → (not (c == 10) && closes_text b (take m xs)) ≡ true
one_more c xs b m e k = rw e k

no_quote : (c : ℕ) (x y : Bool) → (c == 34) ≡ false → y ≡ true → cond (c == 34) x y ≡ true
no_quote c x y e k = rw e k

quote_by : (c : ℕ) (xs : List ℕ) (n : ℕ) (q : Bool) → (c == 34) ≡ q
    → cond q (Some 1) (cond (c == 10) None (option_map suc (text_end (c == 92) xs))) ≡ Some n
    → ((b : Bool) (m : ℕ) → text_end b xs ≡ Some m → Closes b xs m) → Closes false (c ∷ xs) n
quote_by c xs n true e h ih =
    let is : n ≡ 1 = cc in
    subst (Closes false (c ∷ xs)) (sym is) (record { closes = rw e refl; within = omega arith })
quote_by c xs n false e h ih =
    let s = line_by c xs (c == 92) n (c == 10) refl h (ih (c == 92)) in
    let k = s.3 in let w = k.within in
    subst (Closes false (c ∷ xs)) (sym s.1)
    (record {
      closes =
          no_quote c (is_empty (take s.0 xs)) (not (c == 10)
          && closes_text (c == 92) (take s.0 xs)) e (one_more c xs (c == 92) s.0 s.2 k.closes);
      within = omega arith;
    })

pub text_found : (b : Bool) (xs : List ℕ) (n : ℕ) → text_end b xs ≡ Some n → Closes b xs n
text_found b [] n h = absurd cc
text_found true (c ∷ xs) n h =
    let s = line_by c xs false n (c == 10) refl h (text_found false xs) in
    let k = s.3 in let w = k.within in
    subst (Closes true (c ∷ xs)) (sym s.1)
    (record { closes = one_more c xs false s.0 s.2 k.closes; within = omega arith })
text_found false (c ∷ xs) n h = quote_by c xs n (c == 34) refl h (λ b m k. text_found b xs m k)

-- ---- faults

-- the first fault is at m or before
pub record Found (n : ℕ) (b : Bool) (xs : List ℕ) (at : ℕ) : Type 0 where
  pub r : Rule
  pub m : ℕ
  pub is : text_fault n b xs ≡ Some (r, m)
  pub early : m ≤ n + at

abbrev choose : ℕ → ℕ → Bool → Bool → List ℕ → Bool → Option (Rule × ℕ)
choose n c p q cs s =
    cond p (Some (BAD_CHARACTER, n)) (cond q (Some (BAD_ESCAPE, n)) (text_fault (n + 1) s cs))

step_found : (n c : ℕ) (b : Bool) (cs : List ℕ) (at : ℕ) (p q : Bool) → is_control c ≡ p
    → (((c == 92) && not b) && not (is_escape cs)) ≡ q
    → Found (n + 1) ((c == 92) && not b) cs at → Found n b (c ∷ cs) (suc at)
step_found n c b cs at true q e f h =
    record { r = BAD_CHARACTER; m = n; is = rw e refl; early = omega arith }
step_found n c b cs at false true e f h =
    record { r = BAD_ESCAPE; m = n; is = rw e (rw f refl); early = omega arith }
step_found n c b cs at false false e f h =
    let l = h.early in record { r = h.r; m = h.m; is = rw e (rw f h.is); early = omega arith }

pub control_found : (n : ℕ) (b : Bool) (xs front back : List ℕ) (c : ℕ) → xs ≡ front ++ c ∷ back
    → is_control c ≡ true → Found n b xs (length front)
control_found n b [] [] back c e h = absurd cc
control_found n b [] (d ∷ front) back c e h = absurd cc
control_found n b (x ∷ xs) [] back c e h =
    let is : x ≡ c = cc in
    record { r = BAD_CHARACTER; m = n; is = rw (ap is_control is ∙ h) refl; early = omega arith }
control_found n b (x ∷ xs) (d ∷ front) back c e h =
    step_found n x b xs (length front) (is_control x) (((x == 92) && not b)
    && not (is_escape xs)) refl refl
    (control_found (n + 1) ((x == 92) && not b) xs front back c (cc) h)

escape_by : (n c : ℕ) (b : Bool) (cs : List ℕ) (p : Bool) → is_control c ≡ p
    → (((c == 92) && not b) && not (is_escape cs)) ≡ true → Found n b (c ∷ cs) 0
escape_by n c b cs true e f =
    record { r = BAD_CHARACTER; m = n; is = rw e refl; early = omega arith }
escape_by n c b cs false e f =
    record { r = BAD_ESCAPE; m = n; is = rw e (rw f refl); early = omega arith }

pub escape_found : (n : ℕ) (b : Bool) (xs front back : List ℕ) → xs ≡ front ++ 92 ∷ back
    → escapes b front ≡ false → is_escape back ≡ false → Found n b xs (length front)
escape_found n b [] [] back e h k = absurd cc
escape_found n b [] (d ∷ front) back e h k = absurd cc
escape_found n b (x ∷ xs) [] back e h k =
    let is : x ≡ 92 = cc in
    let rest : xs ≡ back = cc in
    escape_by n x b xs (is_control x) refl (rw is (rw h (rw rest (rw k refl))))
escape_found n b (x ∷ xs) (d ∷ front) back e h k =
    let is : d ≡ x = cc in
    step_found n x b xs (length front) (is_control x) (((x == 92) && not b)
    && not (is_escape xs)) refl refl
    (escape_found (n + 1) ((x == 92)
    && not b) xs front back (cc)
    (subst (λ z. escapes ((z == 92) && not b) front ≡ false) is h) k)

-- what the fault is
pub record IsFaulty (n : ℕ) (b : Bool) (xs : List ℕ) (r : Rule) (m : ℕ) : Type 0 where
  pub front : List ℕ
  pub c : ℕ
  pub back : List ℕ
  pub whole : xs ≡ front ++ c ∷ back
  pub place : n + length front ≡ m
  pub fault : ((r ≡ BAD_CHARACTER) × (is_control c ≡ true))
      ⊎ ((r ≡ BAD_ESCAPE) × (c ≡ 92) × (escapes b front ≡ false) × (is_escape back ≡ false))

faulty_later : (n x : ℕ) (b : Bool) (xs : List ℕ) (r : Rule) (m : ℕ)
    → IsFaulty (n + 1) ((x == 92) && not b) xs r m → IsFaulty n b (x ∷ xs) r m
faulty_later n x b xs r m h =
    let p = h.place in
    record {
      front = x ∷ h.front;
      c = h.c;
      back = h.back;
      whole = ap (λ t. x ∷ t) h.whole;
      place = omega arith;
      fault = h.fault;
    }

pub pair_first : (r s : Rule) (m n : ℕ) → ◌≡◌ {A = Option (Rule × ℕ)} (Some (r, m)) (Some (s, n))
    → (r ≡ s) × (m ≡ n)
pair_first r s m n h =
    let e : ◌≡◌ {A = Rule × ℕ} (r, m) (s, n) = cc
    in (ap (λ (p : Rule × ℕ). p.0) e, ap (λ (p : Rule × ℕ). p.1) e)

three : (p q r : Bool) → ((p && q) && r) ≡ true → (p ≡ true) × (q ≡ true) × (r ≡ true)
three true true r h = (refl, refl, h)
three true false r h = absurd cc
three false q r h = absurd cc

is_number : (c d : ℕ) → (c == d) ≡ true → c ≡ d
is_number c d h = grind (arith, nat_tests)

faulty_by : (n x : ℕ) (b : Bool) (xs : List ℕ) (r : Rule) (m : ℕ) (p q : Bool) → is_control x ≡ p
    → (((x == 92) && not b) && not (is_escape xs)) ≡ q
    → choose n x p q xs ((x == 92) && not b) ≡ Some (r, m)
    → (text_fault (n + 1) ((x == 92) && not b) xs ≡ Some (r, m)
    → IsFaulty (n + 1) ((x == 92) && not b) xs r m) → IsFaulty n b (x ∷ xs) r m
faulty_by n x b xs r m true q e f h ih =
    let is = pair_first BAD_CHARACTER r n m h in let at = is.1 in
    record {
      front = [];
      c = x;
      back = xs;
      whole = refl;
      place = omega arith;
      fault = inl (sym is.0, e);
    }
faulty_by n x b xs r m false true e f h ih =
    let is = pair_first BAD_ESCAPE r n m h in let at = is.1 in
    let t = three (x == 92) (not b) (not (is_escape xs)) f in
    record {
      front = [];
      c = x;
      back = xs;
      whole = refl;
      place = omega arith;
      fault = inr (
        sym is.0,
        is_number x 92 t.0,
        not_true b t.1,
        not_true (is_escape xs) t.2,
      );
    }
faulty_by n x b xs r m false false e f h ih = faulty_later n x b xs r m (ih h)

pub is_faulty : (n : ℕ) (b : Bool) (xs : List ℕ) (r : Rule) (m : ℕ)
    → text_fault n b xs ≡ Some (r, m) → IsFaulty n b xs r m
is_faulty n b [] r m h = absurd cc
is_faulty n b (x ∷ xs) r m h =
    faulty_by n x b xs r m (is_control x) (((x == 92) && not b)
    && not (is_escape xs)) refl refl h (is_faulty (n + 1) ((x == 92) && not b) xs r m)
