-- The chapter "Tokens", white space and comments. The code counts the depth of comments.
use Rattle.std.specs.Prelude.{◌≡◌, ℕ, Bool, true, false, cond, not, ◌&&◌, ◌||◌, ◌==◌, List, [], ◌∷◌, ◌++◌}
use Rattle.fort_lex_scan.specs.Lists.{every, begins_with}
use Rattle.fort_lex_scan.specs.Chain.{Chain}

-- space, tab, form feed, carriage return, line feed
abbrev pub is_white : ℕ → Bool
is_white c = (c == 32) || ((c == 9) || ((c == 12) || ((c == 13) || (c == 10))))

-- U+FEFF, where it is a text's first character
abbrev pub mark : List ℕ → List ℕ
mark [] = []
mark (c ∷ cs) = cond (c == 65279) (c ∷ []) []

-- what stands behind a text's mark
abbrev pub body : List ℕ → List ℕ
body [] = []
body (c ∷ cs) = cond (c == 65279) cs (c ∷ cs)

-- `(*` and `*)`
abbrev pub opens : List ℕ → Bool
opens [] = false
opens (c ∷ cs) = (c == 40) && begins_with 42 cs

abbrev pub closes : List ℕ → Bool
closes [] = false
closes (c ∷ cs) = (c == 42) && begins_with 41 cs

-- what follows the `(*` of a comment, up to and with its `*)`: characters, and comments with their
-- own `*)`
pub data Inside : List ℕ → Type 0 where
  ends : {a : List ℕ} → a ≡ 42 ∷ 41 ∷ [] → Inside a
  plain : {a : List ℕ} (c : ℕ) (b : List ℕ) → a ≡ c ∷ b → opens a ≡ false → closes a ≡ false
      → Inside b → Inside a
  inner : {a : List ℕ} (x y : List ℕ) → a ≡ 40 ∷ 42 ∷ (x ++ y) → Inside x → Inside y → Inside a

abbrev pub is_no_line_feed : ℕ → Bool
is_no_line_feed c = not (c == 10)

-- the text ends, or begins with a line feed
abbrev pub is_line_end : List ℕ → Bool
is_line_end [] = true
is_line_end (c ∷ cs) = c == 10

-- a part of a gap at the front of a text, and what follows it: a white character, `(*)` with the
-- rest of its line, or a comment
pub data Part (a text after : List ℕ) : Type 0 where
  white : (c : ℕ) → a ≡ c ∷ [] → text ≡ c ∷ after → is_white c ≡ true → Part a text after
  line : (x : List ℕ) → a ≡ 40 ∷ 42 ∷ 41 ∷ x → text ≡ 40 ∷ 42 ∷ 41 ∷ (x ++ after)
      → every is_no_line_feed x ≡ true
      → is_line_end after ≡ true → Part a text after
  comment : (x : List ℕ) → a ≡ 40 ∷ 42 ∷ x → text ≡ 40 ∷ 42 ∷ (x ++ after)
      → begins_with 41 x ≡ false
      → Inside x → Part a text after

-- no part of a gap begins the text
abbrev pub NoPart : List ℕ → Type 0
NoPart text = (a after : List ℕ) → Part a text after → ⊥

-- A gap goes from the front of the text to the rest, as far as it can.
abbrev pub Gap : List ℕ → List ℕ → Type 0
Gap text rest = (parts : List (List ℕ)) × Chain Part parts text rest × NoPart rest

-- A comment opens at the front that isn't closed.
abbrev pub IsOpenComment : List ℕ → Type 0
IsOpenComment text = (x : List ℕ) × (text ≡ 40 ∷ 42 ∷ x) × (begins_with 41 x ≡ false)
    × ((a after : List ℕ) → x ≡ a ++ after → Inside a → ⊥)
