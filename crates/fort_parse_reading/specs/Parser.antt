-- Parsers on rows of tokens, as a means of proof: each is a function with two laws. It looks at no
-- token beyond the first one that it leaves, and it gives up for its budget only where at least
-- that many tokens are left. Nothing here says what the language is: the crates above prove that
-- their parsers read exactly the trees of the chapter "Grammar".
use Rattle.std.specs.Prelude.{◌≡◌, ℕ, zero, suc, ◌≤◌, ◌<◌, if◌then◌else◌, Bool, true, false, List, [], ◌∷◌, ◌++◌, length, Option, Some, None, Result, Ok, Err, ◌≢◌, refl}
use Rattle.std.proofs.Common.{sym, ◌∙◌, ap, append_assoc, arith, length-append}
use Rattle.fort_lex_token.specs.declared.token.Token.{Token}
use Rattle.fort_parse_reading.specs.declared.fault.Fault.{Fault}
use Rattle.fort_parse_reading.specs.declared.fault.Fault.TheVariants.{Syntax, TooDeep, Memory}

-- tokens in their order
abbrev pub Row : Type 0
Row = List Token

-- What was read and the tokens that are left, or a fault and the tokens from there on.
pub data Outcome (A : Type 0) : Type 0 where
  Read : A → List Token → Outcome A
  Failed : Fault → List Token → Outcome A

abbrev pub and_then : {A B : Type 0} → Outcome A → (A → Row → Outcome B) → Outcome B
and_then (Read x rest) f = f x rest
and_then (Failed e rest) f = Failed e rest

-- P holds of the tokens and of what is left of them, however they go on after the first that is
-- left.
pub record Seen (ts rest : List Token) (P : List Token → List Token → Type 0) : Type 0 where
  pub front : List Token
  pub whole : ts ≡ front ++ rest
  pub same : (t : Token) (m others : List Token) → rest ≡ t ∷ m
      → P (front ++ (t ∷ others)) (t ∷ others)

abbrev pub Locally : {A : Type 0} → (Row → Outcome A) → Row → Outcome A → Type 0
Locally run ts (Read x rest) = Seen ts rest (λ ts' rest'. run ts' ≡ Read x rest')
Locally run ts (Failed e rest) = Seen ts rest (λ ts' rest'. run ts' ≡ Failed e rest')

pub record Parser (A : Type 0) (n : ℕ) : Type 0 where
  pub run : List Token → Outcome A
  pub local : (ts : List Token) → Locally run ts (run ts)
  pub deep : (ts rest : List Token) → run ts ≡ Failed TooDeep rest → n ≤ length ts

-- ---- nothing is read

pub read_is : {A : Type 0} (x : A) (ts : Row) (n : ℕ) (rest : Row) → Read x ts ≡ Failed TooDeep rest
    → n ≤ length ts
read_is x ts n rest e = absurd cc

pub wrong_is : {A : Type 0} (ts : Row) (n : ℕ) (rest : Row)
    → ◌≡◌ {A = Outcome A} (Failed Syntax ts) (Failed TooDeep rest) → n ≤ length ts
wrong_is ts n rest e = absurd cc

pub stands : {A : Type 0} (run : Row → Outcome A) (ts : Row) (f : Row → Outcome A)
    → ((ts' : Row) → run ts' ≡ f ts') → Seen ts ts (λ ts' rest'. run ts' ≡ f rest')
stands run ts f e = record { front = []; whole = refl; same = λ t m others is. e (t ∷ others) }

pub none_left : (ts : Row) → zero ≤ length ts
none_left ts = omega arith

abbrev pub pure : {A : Type 0} {n : ℕ} → A → Parser A n
pure {n} x =
    record {
      run = λ ts. Read x ts;
      local = λ ts. stands _ ts (Read x) (λ ts'. refl);
      deep = λ ts. read_is x ts n;
    }

abbrev pub wrong : {A : Type 0} {n : ℕ} → Parser A n
wrong {n} =
    record {
      run = λ ts. Failed Syntax ts;
      local = λ ts. stands _ ts (Failed Syntax) (λ ts'. refl);
      deep = λ ts. wrong_is ts n;
    }

abbrev pub too_deep : {A : Type 0} → Parser A zero
too_deep =
    record {
      run = λ ts. Failed TooDeep ts;
      local = λ ts. stands _ ts (Failed TooDeep) (λ ts'. refl);
      deep = λ ts rest e. none_left ts;
    }

-- ---- one after the other

-- what the first parser gives, where those after it saw the tokens up to the same place
ahead : {A : Type 0} (run : Row → Outcome A) (x : A) (ts mid rest : Row)
    (s : Seen ts mid (λ ts' rest'. run ts' ≡ Read x rest'))
    (back : Row) → mid ≡ back ++ rest → (t : Token) (m others : Row) → rest ≡ t ∷ m
    → run (s.front ++ (back ++ (t ∷ others))) ≡ Read x (back ++ (t ∷ others))
ahead run x ts mid rest s [] e t m others is = s.same t m others (e ∙ is)
ahead run x ts mid rest s (u ∷ back) e t m others is =
    s.same u (back ++ rest) (back ++ (t ∷ others)) e

joined : (ts mid rest front back : Row) → ts ≡ front ++ mid → mid ≡ back ++ rest
    → ts ≡ (front ++ back) ++ rest
joined ts mid rest front back e f =
    e ∙ ap (λ (u : Row). front ++ u) f ∙ sym (append_assoc front back rest)

then_seen : {A B : Type 0} (p : Row → Outcome A) (f : A → Row → Outcome B) (x : A) (ts mid : Row)
    → Seen ts mid (λ ts' rest'. p ts' ≡ Read x rest') → (o : Outcome B) → Locally (f x) mid o
    → Locally (λ ts'. and_then (p ts') f) ts o
then_seen p f x ts mid s (Read y rest) l = record {
  front = s.front ++ l.front;
  whole = joined ts mid rest s.front l.front s.whole l.whole;
  same = λ t m others is. let h = ahead p x ts mid rest s l.front l.whole t m others is
      in rw (append_assoc s.front l.front (t ∷ others), h) (l.same t m others is);
}
then_seen p f x ts mid s (Failed e rest) l = record {
  front = s.front ++ l.front;
  whole = joined ts mid rest s.front l.front s.whole l.whole;
  same = λ t m others is. let h = ahead p x ts mid rest s l.front l.whole t m others is
      in rw (append_assoc s.front l.front (t ∷ others), h) (l.same t m others is);
}

pub then_local : {A B : Type 0} (p : Row → Outcome A) (f : A → Row → Outcome B)
    (f_local : (x : A) (mid : Row) → Locally (f x) mid (f x mid)) (ts : Row)
    → (o : Outcome A) → Locally p ts o → Locally (λ ts'. and_then (p ts') f) ts (and_then o f)
then_local p f f_local ts (Read x mid) l = then_seen p f x ts mid l (f x mid) (f_local x mid)
then_local p f f_local ts (Failed e rest) l =
    record {
      front = l.front;
      whole = l.whole;
      same = λ t m others is. rw (l.same t m others is) refl;
    }

pub then_deep : {A B : Type 0} (n : ℕ) (p : Row → Outcome A) (f : A → Row → Outcome B)
    (f_deep : (x : A) (mid rest : Row) → f x mid ≡ Failed TooDeep rest → n ≤ length mid) (ts : Row)
    → (o : Outcome A) → Locally p ts o → ((rest : Row) → o ≡ Failed TooDeep rest → n ≤ length ts)
    → (rest : Row) → and_then o f ≡ Failed TooDeep rest → n ≤ length ts
then_deep n p f f_deep ts (Read x mid) l d rest e =
    let h = f_deep x mid rest e in omega (arith, h, ap length l.whole, length-append l.front mid)
then_deep n p f f_deep ts (Failed g mid) l d rest e =
    let is : ◌≡◌ {A = Fault} g TooDeep = cc in d mid (ap (λ (z : Fault). Failed z mid) is)

infixl 10 ◌>>=◌
abbrev pub ◌>>=◌ : {A B : Type 0} {n : ℕ} → Parser A n → (A → Parser B n) → Parser B n
◌>>=◌ {n} p f = record {
  run = λ ts. and_then (p.run ts) (λ x. (f x).run);
  local = λ ts. then_local p.run (λ x. (f x).run) (λ x. (f x).local) ts (p.run ts) (p.local ts);
  deep = λ ts. then_deep n p.run (λ x. (f x).run) (λ x. (f x).deep) ts (p.run ts) (p.local ts)
      (p.deep ts);
}

-- ---- the next token

abbrev pub next_of : Row → Option Token
next_of [] = None
next_of (t ∷ ts) = Some t

no_front : (front : Row) (t : Token) (m : Row) → [] ≡ front ++ (t ∷ m) → ⊥
no_front [] t m e = cc
no_front (u ∷ front) t m e = cc

same_next : (u : Token) (us front : Row) (t : Token) (m others : Row) → u ∷ us ≡ front ++ (t ∷ m)
    → next_of (front ++ (t ∷ others)) ≡ Some u
same_next u us [] t m others e = cc
same_next u us (v ∷ front) t m others e = cc

-- P is not asked of what has no tokens left
look_seen : {P : Row → Row → Type 0} (ts rest : Row) (s : Seen ts rest P) (Q : Row → Row → Type 0)
    → ((a b : Row) → next_of a ≡ next_of ts → P a b → Q a b) → Seen ts rest Q
look_seen [] rest s Q h =
    record {
      front = s.front;
      whole = s.whole;
      same = λ t m others is. absurd
          (no_front s.front t m (s.whole ∙ ap (λ (u : Row). s.front ++ u) is));
    }
look_seen (u ∷ us) rest s Q h =
    record {
      front = s.front;
      whole = s.whole;
      same = λ t m others is. h _ _
          (same_next u us s.front t m others (s.whole ∙ ap (λ (v : Row). s.front ++ v) is))
          (s.same t m others is);
    }

pub look_local : {A : Type 0} (g : Option Token → Row → Outcome A) (ts : Row) (o : Outcome A)
    → Locally (g (next_of ts)) ts o → Locally (λ ts'. g (next_of ts') ts') ts o
look_local g ts (Read x rest) l = look_seen ts rest l _ (λ a b e h. ap (λ next. g next a) e ∙ h)
look_local g ts (Failed f rest) l = look_seen ts rest l _ (λ a b e h. ap (λ next. g next a) e ∙ h)

abbrev pub look : {A : Type 0} {n : ℕ} → (Option Token → Parser A n) → Parser A n
look f = record {
  run = λ ts. (f (next_of ts)).run ts;
  local = λ ts. look_local (λ next. (f next).run) ts ((f (next_of ts)).run ts)
      ((f (next_of ts)).local ts);
  deep = λ ts. (f (next_of ts)).deep ts;
}

abbrev pub taken : {B : Type 0} → Option B → Token → Row → Outcome B
taken (Some b) t ts = Read b ts
taken None t ts = Failed Syntax (t ∷ ts)

-- the next token, where it is one of these
abbrev pub accept_run : {B : Type 0} → (Token → Option B) → Row → Outcome B
accept_run a [] = Failed Syntax []
accept_run a (t ∷ ts) = taken (a t) t ts

taken_local : {B : Type 0} (a : Token → Option B) (t : Token) (ts : Row) (r : Option B) → a t ≡ r
    → Locally (accept_run a) (t ∷ ts) (taken r t ts)
taken_local a t ts (Some b) e =
    record { front = t ∷ []; whole = refl; same = λ u m others is. rw e refl }
taken_local a t ts None e =
    record {
      front = [];
      whole = refl;
      same = λ u m others is. let f : t ≡ u = cc
          in rw (← f, e) refl;
    }

pub accept_local : {B : Type 0} (a : Token → Option B) (ts : Row)
    → Locally (accept_run a) ts (accept_run a ts)
accept_local a [] = record { front = []; whole = refl; same = λ t m others is. absurd cc }
accept_local a (t ∷ ts) = taken_local a t ts (a t) refl

taken_deep : {B : Type 0} (n : ℕ) (t : Token) (ts : Row) (r : Option B) (rest : Row)
    → taken r t ts ≡ Failed TooDeep rest → n ≤ length (t ∷ ts)
taken_deep n t ts (Some b) rest e = absurd cc
taken_deep n t ts None rest e = absurd cc

pub accept_deep : {B : Type 0} (n : ℕ) (a : Token → Option B) (ts rest : Row)
    → accept_run a ts ≡ Failed TooDeep rest → n ≤ length ts
accept_deep n a [] rest e = absurd cc
accept_deep n a (t ∷ ts) rest e = taken_deep n t ts (a t) rest e

abbrev pub accept : {B : Type 0} {n : ℕ} → (Token → Option B) → Parser B n
accept {n} a = record { run = accept_run a; local = accept_local a; deep = accept_deep n a }

choice_local : {A : Type 0} (b : Bool) (p q : Row → Outcome A) (ts : Row) → Locally p ts (p ts)
    → Locally q ts (q ts)
    → Locally (λ ts'. if b then p ts' else q ts') ts (if b then p ts else q ts)
choice_local true p q ts l k = l
choice_local false p q ts l k = k

pub fork_local : {A : Type 0} (test : Option Token → Bool) (p q : Row → Outcome A) (ts : Row)
    → Locally p ts (p ts) → Locally q ts (q ts)
    → Locally (λ ts'. if test (next_of ts') then p ts' else q ts') ts (if test (next_of ts)
    then p ts else q ts)
fork_local test p q ts l k =
    look_local (λ next ts'. if test next then p ts' else q ts') ts (if test (next_of ts) then p ts
    else q ts) (choice_local (test (next_of ts)) p q ts l k)

pub fork_holds : {A : Type 0} (P : Outcome A → Type 0) (b : Bool) (o p : Outcome A) → P o → P p
    → P (if b then o else p)
fork_holds P true o p h k = h
fork_holds P false o p h k = k

-- one of two, by the next token
abbrev pub fork : {A : Type 0} {n : ℕ} → (Option Token → Bool) → Parser A n → Parser A n
    → Parser A n
fork {n} test p q = record {
  run = λ ts. if test (next_of ts) then p.run ts else q.run ts;
  local = λ ts. fork_local test p.run q.run ts (p.local ts) (q.local ts);
  deep = λ ts. fork_holds (λ o. (rest : List Token) → o ≡ Failed TooDeep rest
      → n ≤ length ts) (test (next_of ts)) (p.run ts) (q.run ts) (p.deep ts) (q.deep ts);
}

-- ---- parsers that take a token at least, behind which the budget is one less

pub record Eater (A : Type 0) (n : ℕ) : Type 0 where
  pub parser : Parser A n
  pub eats : (ts : List Token) (x : A) (rest : List Token) → parser.run ts ≡ Read x rest
      → length rest < length ts

then_less : {A B : Type 0} (f : A → Row → Outcome B)
    (f_local : (x : A) (mid : Row) → Locally (f x) mid (f x mid)) (x : A) (mid : Row)
    (o : Outcome B) (y : B) (rest : Row)
    → Locally (f x) mid o → o ≡ Read y rest → length rest ≤ length mid
then_less f f_local x mid (Read z r) y rest l e =
    let is : r ≡ rest = cc
    in omega (arith, ap length l.whole, length-append l.front r, ap length is)
then_less f f_local x mid (Failed g r) y rest l e = absurd cc

eaten : {A B : Type 0} (p : Row → Outcome A) (f : A → Row → Outcome B)
    (f_local : (x : A) (mid : Row) → Locally (f x) mid (f x mid)) (ts : Row)
    → (o : Outcome A) → ((x : A) (mid : Row) → o ≡ Read x mid → length mid < length ts)
    → (y : B) (rest : Row) → and_then o f ≡ Read y rest → length rest < length ts
eaten p f f_local ts (Read x mid) less y rest e =
    let h = then_less f f_local x mid (f x mid) y rest (f_local x mid) e in let k = less x mid refl
    in omega arith
eaten p f f_local ts (Failed g r) less y rest e = absurd cc

pub then_eats : {A B : Type 0} (p : Row → Outcome A) (f : A → Row → Outcome B)
    (f_local : (x : A) (mid : Row) → Locally (f x) mid (f x mid)) (ts : Row)
    → ((x : A) (mid : Row) → p ts ≡ Read x mid → length mid < length ts) → (y : B) (rest : Row)
    → and_then (p ts) f ≡ Read y rest → length rest < length ts
then_eats p f f_local ts less y rest e = eaten p f f_local ts (p ts) less y rest e

then_deep_less : {A B : Type 0} (b n : ℕ) (f : A → Row → Outcome B)
    (f_deep : (x : A) (mid rest : Row) → f x mid ≡ Failed TooDeep rest → n ≤ length mid) (ts : Row)
    → suc n ≤ b → (o : Outcome A) → ((x : A) (mid : Row) → o ≡ Read x mid → length mid < length ts)
    → ((rest : Row) → o ≡ Failed TooDeep rest → b ≤ length ts)
    → (rest : Row) → and_then o f ≡ Failed TooDeep rest → suc n ≤ length ts
then_deep_less b n f f_deep ts le (Read x mid) less d rest e =
    let h = f_deep x mid rest e in let k = less x mid refl in omega arith
then_deep_less b n f f_deep ts le (Failed g mid) less d rest e =
    let is : ◌≡◌ {A = Fault} g TooDeep = cc in let h = d mid (ap (λ (z : Fault). Failed z mid) is)
    in omega arith

taken_less : {B : Type 0} (t : Token) (ts : Row) (r : Option B) (x : B) (mid : Row)
    → taken r t ts ≡ Read x mid → length mid < length (t ∷ ts)
taken_less t ts (Some b) x mid e = let is : ts ≡ mid = cc in omega (arith, ap length is)
taken_less t ts None x mid e = absurd cc

pub accept_less : {B : Type 0} (a : Token → Option B) (ts : Row) (x : B) (mid : Row)
    → accept_run a ts ≡ Read x mid → length mid < length ts
accept_less a [] x mid e = absurd cc
accept_less a (t ∷ ts) x mid e = taken_less t ts (a t) x mid e

abbrev pub token : {B : Type 0} {n : ℕ} → (Token → Option B) → Eater B n
token {n} a = record { parser = accept a; eats = accept_less a }

abbrev pub choose : {A : Type 0} {n : ℕ} → (Option Token → Eater A n) → Eater A n
choose f = record { parser = look (λ next. (f next).parser); eats = λ ts. (f (next_of ts)).eats ts }

pub wrong_less : {A : Type 0} (ts : Row) (x : A) (rest : Row) → Failed Syntax ts ≡ Read x rest
    → length rest < length ts
wrong_less ts x rest e = absurd cc

abbrev pub no_eater : {A : Type 0} {n : ℕ} → Eater A n
no_eater = record { parser = wrong; eats = wrong_less }

abbrev pub fork_eater : {A : Type 0} {n : ℕ} → (Option Token → Bool) → Eater A n → Eater A n
    → Eater A n
fork_eater test p q = record {
  parser = fork test p.parser q.parser;
  eats = λ ts. fork_holds (λ o. (x : _) (rest : List Token) → o ≡ Read x rest
      → length rest
      < length ts) (test (next_of ts)) (p.parser.run ts) (q.parser.run ts) (p.eats ts)
      (q.eats ts);
}

pub eat_deep : {A B : Type 0} {n : ℕ} (p : Eater A (suc n)) (f : A → Row → Outcome B)
    (f_deep : (x : A) (mid rest : Row) → f x mid ≡ Failed TooDeep rest → n ≤ length mid)
    (ts rest : Row)
    → and_then (p.parser.run ts) f ≡ Failed TooDeep rest → suc n ≤ length ts
eat_deep {n} p f f_deep ts rest e =
    then_deep_less (suc n) n f f_deep ts (omega arith) (p.parser.run ts) (p.eats ts)
    (p.parser.deep ts) rest e

-- behind a token the budget is one less
infixl 10 ◌>>>◌
abbrev pub ◌>>>◌ : {A B : Type 0} {n : ℕ} → Eater A (suc n) → (A → Parser B n) → Eater B (suc n)
p >>> f = record {
  parser = record {
    run = λ ts. and_then (p.parser.run ts) (λ x. (f x).run);
    local = λ ts. then_local p.parser.run (λ x. (f x).run) (λ x. (f x).local) ts (p.parser.run ts)
        (p.parser.local ts);
    deep = eat_deep p (λ x. (f x).run) (λ x. (f x).deep);
  };
  eats = λ ts. then_eats p.parser.run (λ x. (f x).run) (λ x. (f x).local) ts (p.eats ts);
}

pub deep_less : {A : Type 0} (ts : Row) (x : A) (rest : Row) → Failed TooDeep ts ≡ Read x rest
    → length rest < length ts
deep_less ts x rest e = absurd cc

abbrev pub no_budget : {A : Type 0} → Eater A zero
no_budget = record { parser = too_deep; eats = deep_less }

infixl 10 ◌>>|◌
abbrev pub ◌>>|◌ : {A B : Type 0} {n : ℕ} → Eater A n → (A → Parser B n) → Eater B n
p >>| f =
    record {
      parser = p.parser >>= f;
      eats = λ ts. then_eats p.parser.run (λ x. (f x).run) (λ x. (f x).local) ts (p.eats ts);
    }

-- ---- one after the other, as long as the next token begins one

-- Items are read while the next token begins one. Which tokens do, and what an item is, may depend
-- on a state that the items before it left.
abbrev pub many_run : {A S : Type 0} {b : ℕ} → (S → Option Token → Bool) → (S → A → S)
    → (S → Eater A b) → ℕ → S → Row → Outcome (List A)
many_run starts after item zero state ts = Failed TooDeep ts
many_run starts after item (suc turns) state ts =
    if starts state (next_of ts)
    then and_then ((item state).parser.run ts)
    (λ x mid. and_then (many_run starts after item turns (after state x) mid)
    (λ xs rest. Read (x ∷ xs) rest)) else Read [] ts

pub many_local : {A S : Type 0} {b : ℕ} (starts : S → Option Token → Bool) (after : S → A → S)
    (item : S → Eater A b) (turns : ℕ) (state : S) (ts : Row)
    → Locally (many_run starts after item turns state) ts
    (many_run starts after item turns state ts)
many_local starts after item zero state ts = stands _ ts (Failed TooDeep) (λ ts'. refl)
many_local starts after item (suc turns) state ts =
    let more =
    λ (x : _). λ (mid : Row). and_then (many_run starts after item turns (after state x) mid)
    (λ xs rest. Read (x ∷ xs) rest) in
    let more_local =
    λ (x : _). λ (mid : Row). then_local (many_run starts after item turns (after state x))
    (λ xs rest. Read (x ∷ xs) rest) (λ xs rest. stands _ rest (Read (x ∷ xs)) (λ ts'. refl)) mid
    (many_run starts after item turns (after state x) mid)
    (many_local starts after item turns (after state x) mid) in
    look_local (λ next ts'. if starts state next then and_then ((item state).parser.run ts') more
    else Read [] ts') ts _
    (choice_local (starts state (next_of ts)) (λ ts'. and_then ((item state).parser.run ts') more)
    (Read []) ts
    (then_local (item state).parser.run more more_local ts ((item state).parser.run ts)
    ((item state).parser.local ts))
    (stands _ ts (Read []) (λ ts'. refl)))

read_deep : {A : Type 0} (n : ℕ) (x : A) (ts rest : Row) → Read x ts ≡ Failed TooDeep rest
    → n ≤ length ts
read_deep n x ts rest e = absurd cc

many_deep_step : {A S : Type 0} {b : ℕ} (starts : S → Option Token → Bool) (after : S → A → S)
    (item : S → Eater A b) (turns : ℕ) (state : S) (ts : Row) (test : Bool) → suc turns ≤ b
    → ((state' : S) (mid rest : Row)
    → many_run starts after item turns state' mid ≡ Failed TooDeep rest → turns ≤ length mid)
    → (rest : Row)
    → (if test
    then and_then ((item state).parser.run ts)
    (λ x mid. and_then (many_run starts after item turns (after state x) mid)
    (λ xs rest. Read (x ∷ xs) rest)) else Read [] ts) ≡ Failed TooDeep rest
    → suc turns ≤ length ts
many_deep_step {b = b} starts after item turns state ts true le ih rest e =
    then_deep_less b turns
    (λ x mid. and_then (many_run starts after item turns (after state x) mid)
    (λ xs rest. Read (x ∷ xs) rest))
    (λ x mid. then_deep turns (many_run starts after item turns (after state x))
    (λ xs rest. Read (x ∷ xs) rest) (λ xs rest. read_deep turns (x ∷ xs) rest) mid
    (many_run starts after item turns (after state x) mid)
    (many_local starts after item turns (after state x) mid) (ih (after state x) mid))
    ts le ((item state).parser.run ts) ((item state).eats ts) ((item state).parser.deep ts) rest e
many_deep_step starts after item turns state ts false le ih rest e = absurd cc

pub many_deep : {A S : Type 0} {b : ℕ} (starts : S → Option Token → Bool) (after : S → A → S)
    (item : S → Eater A b) (turns : ℕ) → turns ≤ b → (state : S) (ts rest : Row)
    → many_run starts after item turns state ts ≡ Failed TooDeep rest → turns ≤ length ts
many_deep starts after item zero le state ts rest e = omega arith
many_deep starts after item (suc turns) le state ts rest e =
    many_deep_step starts after item turns state ts (starts state (next_of ts)) le
    (many_deep starts after item turns (omega arith)) rest e

-- a list that goes on while the next token begins an item
abbrev pub chain : {A S : Type 0} {b : ℕ} (n : ℕ) → n ≤ b → (S → Option Token → Bool) → (S → A → S)
    → (S → Eater A b) → S → Parser (List A) n
chain n le starts after item state = record {
  run = many_run starts after item n state;
  local = many_local starts after item n state;
  deep = many_deep starts after item n le state;
}

pub same_budget : (n : ℕ) → n ≤ n
same_budget n = omega arith

pub less_budget : (n : ℕ) → n ≤ suc n
less_budget n = omega arith

-- a list whose items don't depend on one another
abbrev pub many : {A : Type 0} {n : ℕ} → (Option Token → Bool) → Eater A n → Parser (List A) n
many {n = n} starts item =
    chain n (same_budget n) (λ state. starts) (λ state x. state) (λ state. item) true

-- the same behind a token
abbrev pub many_more : {A : Type 0} {n : ℕ} → (Option Token → Bool) → Eater A (suc n)
    → Parser (List A) n
many_more {n = n} starts item =
    chain n (less_budget n) (λ state. starts) (λ state x. state) (λ state. item) true

-- ---- what a function that reads ensures: the outcome, unless memory fails. After a fault the tokens that are left begin there.

abbrev pub Reads : {A : Type 0} → Outcome A → Result A Fault → Row → Type 0
Reads outcome (Ok x) new = outcome ≡ Read x new
Reads outcome (Err e) new = e ≢ Memory → outcome ≡ Failed e new
