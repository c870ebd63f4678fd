-- What is read, and that it is read.
use Rattle.std.proofs.Common.{◌≡◌, ℕ, zero, suc, Bool, true, false, cond, List, [], ◌∷◌, Option, Some, None, refl, ap, subst, ◌∙◌}
use Rattle.fort_lex_token.specs.declared.token.Token.{Token}
use Rattle.fort_parse_reading.specs.declared.fault.Fault.{Fault}
use Rattle.fort_parse_reading.specs.declared.fault.Fault.TheVariants.{TooDeep}
use Rattle.fort_parse_reading.specs.Parser.{Row, Outcome, Read, Failed, and_then, taken, accept_run, next_of, many_run, Parser, Eater}

-- ---- what is read meets P

pub record Only (A : Type 0) (o : Outcome A) (P : A → Row → Type 0) : Type 0 where
  pub holds : (x : A) (rest : Row) → o ≡ Read x rest → P x rest

pub only_read : {A : Type 0} (P : A → Row → Type 0) (x : A) (rest : Row) → P x rest
    → Only A (Read x rest) P
only_read P x rest h =
    record {
      holds = λ y r e. let is : x ≡ y = cc in let to : rest ≡ r = cc
          in subst (λ z. P z r) is (subst (P x) to h);
    }

pub only_failed : {A : Type 0} (P : A → Row → Type 0) (f : Fault) (rest : Row)
    → Only A (Failed f rest) P
only_failed P f rest = record { holds = λ y r e. absurd cc }

pub only_then : {A B : Type 0} (o : Outcome A) (P : A → Row → Type 0) (f : A → Row → Outcome B)
    (Q : B → Row → Type 0)
    → Only A o P → ((x : A) (mid : Row) → P x mid → Only B (f x mid) Q) → Only B (and_then o f) Q
only_then (Read x mid) P f Q h k = k x mid (h.holds x mid refl)
only_then (Failed e rest) P f Q h k = only_failed Q e rest

pub only_if : {A : Type 0} (b : Bool) (o p : Outcome A) (P : A → Row → Type 0)
    → (b ≡ true → Only A o P) → (b ≡ false → Only A p P) → Only A (cond b o p) P
only_if true o p P h k = h refl
only_if false o p P h k = k refl

-- what meets P meets what follows from P
pub only_more : {A : Type 0} (o : Outcome A) (P Q : A → Row → Type 0) → Only A o P
    → ((x : A) (rest : Row) → P x rest → Q x rest) → Only A o Q
only_more o P Q h k = record { holds = λ x rest e. k x rest (h.holds x rest e) }

-- ---- x is read and rest is left, unless the budget ends

pub data Gets (A : Type 0) : Outcome A → A → List Token → Type 0 where
  reads : {x : A} {rest : List Token} → Gets A (Read x rest) x rest
  ends : {x : A} {rest left : List Token} → Gets A (Failed TooDeep left) x rest

pub gets_then : {A B : Type 0} {o : Outcome A} {x : A} {mid : Row} (f : A → Row → Outcome B) {y : B}
    {rest : Row} → Gets A o x mid → Gets B (f x mid) y rest → Gets B (and_then o f) y rest
gets_then f reads k = k
gets_then f ends k = ends

-- ---- one token

taken_only : {B : Type 0} (a : Token → Option B) (t : Token) (ts : Row) (r : Option B) → a t ≡ r
    → Only B (taken r t ts) (λ b rest. (u : Token) × (t ∷ ts ≡ u ∷ rest) × (a u ≡ Some b))
taken_only a t ts (Some b) e = only_read _ b ts (t, refl, e)
taken_only a t ts None e = only_failed _ _ (t ∷ ts)

pub only_accept : {B : Type 0} (a : Token → Option B) (ts : Row)
    → Only B (accept_run a ts) (λ b rest. (u : Token) × (ts ≡ u ∷ rest) × (a u ≡ Some b))
only_accept a [] = only_failed _ _ []
only_accept a (t ∷ ts) = taken_only a t ts (a t) refl

pub gets_accept : {B : Type 0} (a : Token → Option B) (t : Token) (ts : Row) (b : B) → a t ≡ Some b
    → Gets B (accept_run a (t ∷ ts)) b ts
gets_accept a t ts b e = rw e reads

-- what is taken is the token that it says, with what holds of it
pub only_token : {B : Type 0} (a : Token → Option B) (says : B → Token) (Holds : B → Type 0)
    → ((t : Token) (b : B) → a t ≡ Some b → (t ≡ says b) × Holds b)
    → (ts : Row) → Only B (accept_run a ts) (λ b rest. (ts ≡ says b ∷ rest) × Holds b)
only_token a says Holds is ts =
    record {
      holds = λ b rest e. let h = (only_accept a ts).holds b rest e in let k = is h.0 b h.2
          in (h.1 ∙ ap (λ (t : Token). t ∷ rest) k.0, k.1);
    }

-- ---- lists

-- P state xs ts rest: ts is the list, and then rest
pub only_many : {A S : Type 0} {b : ℕ} (starts : S → Option Token → Bool) (after : S → A → S)
    (item : S → Eater A b) (I : S → A → Row → Row → Type 0) (P : S → List A → Row → Row → Type 0)
    → ((state : S) (ts : Row) → starts state (next_of ts) ≡ true
    → Only A ((item state).parser.run ts) (λ x rest. I state x ts rest))
    → ((state : S) (ts : Row) → P state [] ts ts)
    → ((state : S) (x : A) (xs : List A) (ts mid rest : Row) → I state x ts mid
    → P (after state x) xs mid rest → P state (x ∷ xs) ts rest)
    → (turns : ℕ) (state : S) (ts : Row)
    → Only (List A) (many_run starts after item turns state ts) (λ xs rest. P state xs ts rest)
only_many starts after item I P sound none more zero state ts = only_failed _ _ ts
only_many starts after item I P sound none more (suc turns) state ts =
    only_if (starts state (next_of ts)) _ _ _
    (λ e. only_then ((item state).parser.run ts) (λ x mid. I state x ts mid) _ _ (sound state ts e)
    (λ x mid h.
    only_then (many_run starts after item turns (after state x) mid)
    (λ xs rest. P (after state x) xs mid rest) _ _
    (only_many starts after item I P sound none more turns (after state x) mid) (λ xs rest k.
    only_read _ (x ∷ xs) rest (more state x xs ts mid rest h k))))
    (λ e. only_read _ [] ts (none state ts))

-- R state xs ts rest: ts is the list, and then rest, at which it stops
pub gets_many : {A S : Type 0} {b : ℕ} (starts : S → Option Token → Bool) (after : S → A → S)
    (item : S → Eater A b) (R : S → List A → Row → Row → Type 0)
    → ((state : S) (ts rest : Row) → R state [] ts rest
    → (ts ≡ rest) × (starts state (next_of ts) ≡ false))
    → ((state : S) (x : A) (xs : List A) (ts rest : Row) → R state (x ∷ xs) ts rest
    → (starts state (next_of ts) ≡ true) × (mid : Row) × Gets A ((item state).parser.run ts) x mid
    × R (after state x) xs mid rest)
    → (turns : ℕ) (state : S) (xs : List A) (ts rest : Row) → R state xs ts rest
    → Gets (List A) (many_run starts after item turns state ts) xs rest
gets_many starts after item R none more zero state xs ts rest h = ends
gets_many {A = A} starts after item R none more (suc turns) state [] ts rest h =
    let k = none state ts rest h
    in rw k.1 (subst (λ (u : Row). Gets (List A) (Read [] ts) [] u) k.0 reads)
gets_many starts after item R none more (suc turns) state (x ∷ xs) ts rest h =
    let k = more state x xs ts rest h in
    rw k.0 (gets_then _ k.2
    (gets_then _
    (gets_many starts after item R none more turns (after state x) xs k.1 rest k.3) reads))

pub only_pick : {A : Type 0} {n : ℕ} (b : Bool) (p q : Parser A n) (ts : Row) (P : A → Row → Type 0)
    → (b ≡ true → Only A (p.run ts) P) → (b ≡ false → Only A (q.run ts) P)
    → Only A ((cond b p q).run ts) P
only_pick true p q ts P h k = h refl
only_pick false p q ts P h k = k refl

pub only_choice : {A : Type 0} {n : ℕ} (b : Bool) (p q : Eater A n) (ts : Row)
    (P : A → Row → Type 0) → (b ≡ true → Only A (p.parser.run ts) P)
    → (b ≡ false → Only A (q.parser.run ts) P) → Only A ((cond b p q).parser.run ts) P
only_choice true p q ts P h k = h refl
only_choice false p q ts P h k = k refl
