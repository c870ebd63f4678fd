-- The chapter "Grammar": what a tree says, its tokens and whether the rules on gaps and names hold
-- in it. The code that prints appends tokens; the code that reads asks each rule at the token where
-- it can fail first.
use Rattle.std.specs.Prelude.{Bool, true, false, ◌&&◌, List, [], ◌∷◌, ◌++◌, Option, Some, None}
use Rattle.fort_base.specs.declared.refusal.Gap.{Gap}
use Rattle.fort_lex_token.specs.declared.token.Token.{Token}
use Rattle.fort_lex_token.specs.declared.marks.Mark.TheVariants as mark
use Rattle.fort_tree.specs.declared.spot.Spot.{Spot}
use Rattle.fort_tree.specs.Tokens.{Spellings, marked, is_line}

-- What may stand at a place of the source.
pub record Allowed : Type 0 where
  -- a new line before a unit or an operator of the flat expression there
  pub lines : Bool
  -- an atom that begins with `do` in the flat expression there
  pub blocks : Bool

-- directly in parentheses or brackets
abbrev pub in_brackets : Allowed
in_brackets = record { lines = true; blocks = true }

-- everywhere else, but for the next
abbrev pub elsewhere : Allowed
elsewhere = record { lines = false; blocks = true }

-- before the `do` of a `while` or `for`
abbrev pub before_do : Allowed
before_do = record { lines = false; blocks = false }

-- What a tree says; it has a token at least.
pub record Said : Type 0 where
  pub first : Token
  -- its other tokens, in their order
  pub more : List Token
  -- whether the rules on gaps and names hold in it
  pub obeys : Spellings → Allowed → Bool

-- what an item of a list says, and the `;` directly after it
pub record SaidEntry : Type 0 where
  pub item : Said
  pub semicolon : Option Spot

-- what the `else` of a clause list says, and the second `;` before it
pub record SaidElse : Type 0 where
  pub semicolon : Option Spot
  pub clause : Said

-- the tokens of a tree
abbrev pub tokens_of : Said → List Token
tokens_of x = x.first ∷ x.more

-- the gap before a tree
abbrev pub gap_of : Said → Gap
gap_of x = x.first.gap

-- the tokens of several trees in their order
abbrev pub all_tokens : List Said → List Token
all_tokens [] = []
all_tokens (x ∷ xs) = tokens_of x ++ all_tokens xs

-- whether the rules hold in each of several trees
abbrev pub all_obey : Spellings → Allowed → List Said → Bool
all_obey names allowed [] = true
all_obey names allowed (x ∷ xs) = x.obeys names allowed && all_obey names allowed xs

-- ---- what may be left out

-- the tokens of what may be left out
abbrev pub maybe_tokens : Option Said → List Token
maybe_tokens None = []
maybe_tokens (Some x) = tokens_of x

-- whether the rules hold in what may be left out
abbrev pub maybe_obeys : Spellings → Allowed → Option Said → Bool
maybe_obeys names allowed None = true
maybe_obeys names allowed (Some x) = x.obeys names allowed

-- whether it stands there
abbrev pub is_there : {A : Type 0} → Option A → Bool
is_there None = false
is_there (Some x) = true

-- the `;` where there is one
abbrev pub semicolon_tokens : Option Spot → List Token
semicolon_tokens None = []
semicolon_tokens (Some s) = marked mark.Semicolon s ∷ []

-- ---- lists of items, members, declarations and clauses

-- the tokens of a list of items, each with its `;`
abbrev pub entries_tokens : List SaidEntry → List Token
entries_tokens [] = []
entries_tokens (e ∷ es) = tokens_of e.item ++ (semicolon_tokens e.semicolon ++ entries_tokens es)

-- A `;` or a new line stands before the next item of a list.
abbrev pub begins_apart : Option Spot → List SaidEntry → Bool
begins_apart semicolon [] = true
begins_apart (Some s) (e ∷ es) = true
begins_apart None (e ∷ es) = is_line (gap_of e.item)

-- whether the rules hold in each item of a list, and each but the first begins apart
abbrev pub entries_obey : Spellings → List SaidEntry → Bool
entries_obey names [] = true
entries_obey names (e ∷ es) =
    e.item.obeys names elsewhere && (begins_apart e.semicolon es && entries_obey names es)

-- whether a list has an item
abbrev pub has_entry : List SaidEntry → Bool
has_entry [] = false
has_entry (e ∷ es) = true

-- the `;` after the last item
abbrev pub last_semicolon : List SaidEntry → Option Spot
last_semicolon [] = None
last_semicolon (e ∷ []) = e.semicolon
last_semicolon (e ∷ f ∷ es) = last_semicolon (f ∷ es)

-- ---- the `else` of a clause list

-- the tokens of an `else` with its arrow and expression, and of the second `;` before it
abbrev pub else_tokens : Option SaidElse → List Token
else_tokens None = []
else_tokens (Some e) = semicolon_tokens e.semicolon ++ tokens_of e.clause

-- A `;` or a new line stands before the `else`, and a second `;` only behind a first one.
abbrev pub else_apart : Option Spot → Option Spot → Gap → Bool
else_apart (Some s) second gap = true
else_apart None (Some t) gap = false
else_apart None None gap = is_line gap

-- whether the rules hold in the `else` behind these clauses
abbrev pub else_obeys : Spellings → List SaidEntry → Option SaidElse → Bool
else_obeys names clauses None = true
else_obeys names clauses (Some e) =
    else_apart (last_semicolon clauses) e.semicolon (gap_of e.clause)
    && e.clause.obeys names elsewhere
