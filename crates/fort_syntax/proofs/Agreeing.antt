-- Two readings of the same tokens, over two tables of names one of which goes on from the other,
-- agree: what a production reads, what it leaves and where it fails depends on the names that it
-- meets alone.
use Rattle.std.proofs.Common.{◌≡◌, ℕ, zero, suc, ◌<◌, Bool, true, false, if◌then◌else◌, List, [], ◌∷◌, ◌++◌, length, get_or, Option, Some, None, refl, ap, subst}
use Rattle.std.specs.Prelude.{nat_eq}
use Rattle.std.specs.Cmp.Lexicographic.{pointwise}
use Rattle.fort_lex_token.specs.declared.token.Kind.{Kind}
use Rattle.fort_lex_token.specs.declared.token.Kind.TheVariants as kind
use Rattle.fort_lex_token.specs.declared.token.Token.{Token}
use Rattle.fort_tree.specs.declared.spot.Spot.{Spot}
use Rattle.fort_tree.specs.declared.spot.Name.{Name}
use Rattle.fort_tree.specs.Tokens.{Spellings, is_empty}
use Rattle.fort_parse_reading.specs.declared.fault.Fault.{Fault}
use Rattle.fort_parse_reading.specs.Parser.{Row, Outcome, Read, Failed, and_then, taken, accept_run, next_of, many_run, Parser, Eater, Locally}
use Rattle.fort_parse_reading.specs.Words.{spot_of, tight, name_in, name_of, is_called, called_if, called_of}

-- a table of names has what another has
abbrev pub GoesOn : Spellings → Spellings → Type 0
GoesOn names wide = (id : ℕ) → id < length names → get_or names id [] ≡ get_or wide id []

-- a name's number is below a bound
abbrev pub IsIn : ℕ → Kind → Type 0
IsIn n (kind.Name id) = id.0 < n
IsIn n _ = Unit {0}

-- the numbers of names among tokens are
abbrev pub AllIn : ℕ → Row → Type 0
AllIn n [] = Unit {0}
AllIn n (t ∷ ts) = IsIn n t.kind × AllIn n ts

abbrev pub LeftIn : {A : Type 0} → ℕ → Outcome A → Type 0
LeftIn n (Read x rest) = AllIn n rest
LeftIn n (Failed e rest) = Unit {0}

-- two outcomes are one, and the numbers in what they leave are below the bound
pub record Agrees {A : Type 0} (n : ℕ) (o p : Outcome A) : Type 0 where
  pub same : o ≡ p
  pub left : LeftIn n o

-- two readings of tokens agree, where the numbers of names among these are in the narrower table
abbrev pub Alike : {A : Type 0} → Spellings → Row → Outcome A → Outcome A → Type 0
Alike names ts o p = AllIn (length names) ts → Agrees (length names) o p

-- ---- nothing, one token

pub agrees_read : {A : Type 0} {n : ℕ} {x : A} {rest : Row} → AllIn n rest
    → Agrees n (Read x rest) (Read x rest)
agrees_read h = record { same = refl; left = h }

pub agrees_failed : {A : Type 0} {n : ℕ} {e : Fault} {rest : Row}
    → Agrees {A = A} n (Failed e rest) (Failed e rest)
agrees_failed = record { same = refl; left = tt }

agrees_taken : {B : Type 0} (n : ℕ) (r : Option B) (t : Token) (ts : Row) → AllIn n (t ∷ ts)
    → Agrees n (taken r t ts) (taken r t ts)
agrees_taken n (Some b) t ts h = agrees_read h.1
agrees_taken n None t ts h = agrees_failed

pub agrees_accept : {B : Type 0} {n : ℕ} (a : Token → Option B) (ts : Row) → AllIn n ts
    → Agrees n (accept_run a ts) (accept_run a ts)
agrees_accept a [] h = agrees_failed
agrees_accept {n = n} a (t ∷ ts) h = agrees_taken n (a t) t ts h

-- a token that two tests take alike
pub agrees_called : {B : Type 0} {n : ℕ} (a b : Token → Option B) (ts : Row) → AllIn n ts
    → ((t : Token) → IsIn n t.kind → a t ≡ b t) → Agrees n (accept_run a ts) (accept_run b ts)
agrees_called a b [] h e = agrees_failed
agrees_called {n = n} a b (t ∷ ts) h e =
    subst (λ r. Agrees n (taken (a t) t ts) (taken r t ts)) (e t h.0) (agrees_taken n (a t) t ts h)

-- ---- one after the other, one of two, many

pub agrees_then : {A B : Type 0} {n : ℕ} (o p : Outcome A) (f g : A → Row → Outcome B)
    → Agrees n o p
    → ((x : A) (rest : Row) → AllIn n rest → Agrees n (f x rest) (g x rest))
    → Agrees n (and_then o f) (and_then p g)
agrees_then {n = n} (Read x rest) p f g h k =
    subst (λ q. Agrees n (f x rest) (and_then q g)) h.same (k x rest h.left)
agrees_then {n = n} (Failed e rest) p f g h k =
    subst (λ q. Agrees n (Failed e rest) (and_then q g)) h.same agrees_failed

pub agrees_if : {A : Type 0} {n : ℕ} (b : Bool) (o p q r : Outcome A) → Agrees n o q → Agrees n p r
    → Agrees n (if b then o else p) (if b then q else r)
agrees_if true o p q r h k = h
agrees_if false o p q r h k = k

pub agrees_many : {A S : Type 0} {b n : ℕ} (starts : S → Option Token → Bool) (after : S → A → S)
    (item other : S → Eater A b)
    → ((state : S) (ts : Row) → AllIn n ts
    → Agrees n ((item state).parser.run ts) ((other state).parser.run ts))
    → (turns : ℕ) (state : S) (ts : Row) → AllIn n ts
    → Agrees n (many_run starts after item turns state ts)
    (many_run starts after other turns state ts)
agrees_many starts after item other same zero state ts h = agrees_failed
agrees_many starts after item other same (suc turns) state ts h =
    agrees_if (starts state (next_of ts)) _ _ _ _
    (agrees_then _ _ _ _ (same state ts h)
    (λ x mid k. agrees_then _ _ _ _
    (agrees_many starts after item other same turns (after state x) mid k)
    (λ xs rest l. agrees_read l)))
    (agrees_read h)

-- ---- a parser agrees with itself

rest_in : (n : ℕ) (front rest : Row) → AllIn n (front ++ rest) → AllIn n rest
rest_in n [] rest h = h
rest_in n (t ∷ front) rest h = rest_in n front rest h.1

left_in : {A : Type 0} (n : ℕ) (run : Row → Outcome A) (ts : Row) (o : Outcome A) → Locally run ts o
    → AllIn n ts → LeftIn n o
left_in n run ts (Read x rest) l h =
    rest_in n l.front rest (subst (λ (u : Row). AllIn n u) l.whole h)
left_in n run ts (Failed e rest) l h = tt

pub agrees_itself : {A : Type 0} {n m : ℕ} (p : Parser A m) (ts : Row) → AllIn n ts
    → Agrees n (p.run ts) (p.run ts)
agrees_itself {n = n} p ts h =
    record { same = refl; left = left_in n p.run ts (p.run ts) (p.local ts) h }

-- ---- names

name_then : {B : Type 0} (n : ℕ) (f g : Name → Row → Outcome B) (s : Spot) (k : Kind) (t : Token)
    (ts : Row) → IsIn n k → AllIn n ts
    → ((name : Name) (rest : Row) → name.id.0 < n → AllIn n rest
    → Agrees n (f name rest) (g name rest))
    → Agrees n (and_then (taken (name_in s k) t ts) f) (and_then (taken (name_in s k) t ts) g)
name_then n f g s (kind.Name id) t ts i h e = e (record { id = id; spot = s }) ts i h
name_then n f g s _ t ts i h e = agrees_failed

-- what goes on behind a name may ask its number
pub agrees_name : {B : Type 0} {n : ℕ} (f g : Name → Row → Outcome B) (ts : Row) → AllIn n ts
    → ((name : Name) (rest : Row) → name.id.0 < n → AllIn n rest
    → Agrees n (f name rest) (g name rest))
    → Agrees n (and_then (accept_run name_of ts) f) (and_then (accept_run name_of ts) g)
unfolding name_of
agrees_name f g [] h e = agrees_failed
agrees_name {n = n} f g (t ∷ ts) h e = name_then n f g (spot_of t) t.kind t ts h.0 h.1 e

module _ (names wide : Spellings) (on : GoesOn names wide) (word : List ℕ) where
  pub same_word : (name : Name) → name.id.0 < length names
      → is_called word names name ≡ is_called word wide name
  unfolding is_called
  same_word name i = ap (λ (s : List ℕ). pointwise nat_eq s word) (on name.id.0 i)

  called_in : (s : Spot) (k : Kind) → IsIn (length names) k
      → called_if word names (name_in s k) ≡ called_if word wide (name_in s k)
  called_in s (kind.Name id) i =
      ap (λ b. if b then Some (record { id = id; spot = s })
      else None) (same_word (record { id = id; spot = s }) i)
  called_in s _ i = refl

  pub same_called : (t : Token) → IsIn (length names) t.kind
      → called_of word names t ≡ called_of word wide t
  unfolding called_of name_of
  same_called t i = called_in (spot_of t) t.kind i

  pub tight_called : (t : Token) → IsIn (length names) t.kind
      → tight (called_of word names) t ≡ tight (called_of word wide) t
  tight_called t i = ap (λ r. if is_empty t.gap then r else None) (same_called t i)
