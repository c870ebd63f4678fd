-- The longest part that begins a row of tokens, for one production. The code runs a parser that
-- looks one token ahead; where it fails it asks at falling ends.
use Rattle.std.specs.Prelude.{◌≡◌, ℕ, ◌≤◌, true, List, length, take}
use Rattle.fort_lex_token.specs.declared.token.Token.{Token}
use Rattle.fort_tree.specs.Tokens.{Spellings}
use Rattle.fort_tree.specs.Said.{Said, Allowed, tokens_of}

-- The tokens are those of the tree, and the rules on gaps and names hold in it.
pub record HasTree {A : Type 0} (names : Spellings) (allowed : Allowed) (said : A → Said)
    (ts : List Token) (x : A) : Type 0 where
  pub tokens : ts ≡ tokens_of (said x)
  pub obeys : (said x).obeys names allowed ≡ true

-- No more than the first k tokens have a tree.
abbrev pub NoneLonger : {A : Type 0} → Spellings → Allowed → (A → Said) → List Token → ℕ → Type 0
NoneLonger {A} names allowed said ts k = (j : ℕ) (y : A) → j ≤ length ts
    → HasTree names allowed said (take j ts) y → j ≤ k

-- The first k tokens have this tree and no other, and no more of them have one.
pub record LongestPart {A : Type 0} (names : Spellings) (allowed : Allowed) (said : A → Said)
    (ts : List Token) (x : A) (k : ℕ) : Type 0 where
  pub within : k ≤ length ts
  pub tree : HasTree names allowed said (take k ts) x
  pub only : (y : A) → HasTree names allowed said (take k ts) y → y ≡ x
  pub longest : NoneLonger names allowed said ts k

-- No first tokens have a tree.
abbrev pub NoPart : {A : Type 0} → Spellings → Allowed → (A → Said) → List Token → Type 0
NoPart {A} names allowed said ts = (j : ℕ) (y : A) → j ≤ length ts
    → HasTree names allowed said (take j ts) y → ⊥
