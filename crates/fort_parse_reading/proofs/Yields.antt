-- What is read is the tokens of a tree in which the rules on gaps and names hold, and then what is
-- left; and a list of such trees is read whole. This is what the laws of all productions are made
-- of: it knows of no production.
use Rattle.std.proofs.Common.{◌≡◌, ℕ, zero, suc, Bool, true, false, List, [], ◌∷◌, ◌++◌, append_assoc, Option, Some, None, refl, sym, ap, ◌∙◌}
use Rattle.std.specs.Prelude.{map, ◌&&◌, ◌||◌, not}
use Rattle.fort_lex_token.specs.declared.token.Token.{Token}
use Rattle.fort_tree.specs.Tokens.{Spellings}
use Rattle.fort_tree.specs.Said.{Said, Allowed, tokens_of, all_tokens, all_obey, maybe_tokens, maybe_obeys}
use Rattle.fort_parse_reading.specs.Parser.{Row, next_of, many_run, Eater}
use Rattle.fort_parse_reading.proofs.Laws.{Only, only_many, Gets, reads, ends, gets_then}

-- ---- what is read

-- ts is the tokens of the tree and then rest, and the rules hold in it
pub record Yields (names : Spellings) (x : Said) (allowed : Allowed)
    (ts rest : List Token) : Type 0 where
  pub tokens : ts ≡ tokens_of x ++ rest
  pub obeys : x.obeys names allowed ≡ true

-- the same of several trees
pub record YieldsAll (names : Spellings) (xs : List Said) (allowed : Allowed)
    (ts rest : List Token) : Type 0 where
  pub tokens : ts ≡ all_tokens xs ++ rest
  pub obeys : all_obey names allowed xs ≡ true

-- the same of what may be left out
pub record YieldsMaybe (names : Spellings) (x : Option Said) (allowed : Allowed)
    (ts rest : List Token) : Type 0 where
  pub tokens : ts ≡ maybe_tokens x ++ rest
  pub obeys : maybe_obeys names allowed x ≡ true

-- ---- truth values

pub both : (a b : Bool) → a ≡ true → b ≡ true → (a && b) ≡ true
both a b p q = rw (p, q) refl

pub left_true : (a b : Bool) → (a && b) ≡ true → a ≡ true
left_true true b e = refl
left_true false b e = absurd cc

pub right_true : (a b : Bool) → (a && b) ≡ true → b ≡ true
right_true true b e = e
right_true false b e = absurd cc

pub not_true : (b : Bool) → (b ≡ true → ⊥) → b ≡ false
not_true true h = absurd (h refl)
not_true false h = refl

pub is_not : (b : Bool) → not b ≡ true → b ≡ false
is_not true e = absurd cc
is_not false e = refl

pub false_right : (b : Bool) → (b && false) ≡ false
false_right true = refl
false_right false = refl

pub true_right : (b : Bool) → (b || true) ≡ true
true_right true = refl
true_right false = refl

-- ---- several trees

-- the tokens of a tree, of those after it, and then rest
pub all_after : (x : Said) (xs : List Said) (rest : Row)
    → all_tokens (x ∷ xs) ++ rest ≡ tokens_of x ++ (all_tokens xs ++ rest)
all_after x xs rest = append_assoc (tokens_of x) (all_tokens xs) rest

pub no_more : (names : Spellings) (allowed : Allowed) (ts : Row) → YieldsAll names [] allowed ts ts
no_more names allowed ts = record { tokens = refl; obeys = refl }

pub one_more : (names : Spellings) (x : Said) (xs : List Said) (allowed : Allowed)
    (ts mid rest : Row) → Yields names x allowed ts mid → YieldsAll names xs allowed mid rest
    → YieldsAll names (x ∷ xs) allowed ts rest
one_more names x xs allowed ts mid rest h k = record {
  tokens = h.tokens ∙ ap (λ (u : Row). tokens_of x ++ u) k.tokens ∙ sym (all_after x xs rest);
  obeys = both _ _ h.obeys k.obeys;
}

-- what a list of trees that don't depend on one another is read from is their tokens
pub only_list : {A : Type 0} {b : ℕ} (names : Spellings) (allowed : Allowed) (said : A → Said)
    (starts : Option Token → Bool) (item : Eater A b)
    → ((ts : Row) → starts (next_of ts) ≡ true
    → Only A (item.parser.run ts) (λ x rest. Yields names (said x) allowed ts rest))
    → (turns : ℕ) (ts : Row)
    → Only (List A) (many_run (λ state. starts) (λ state x. state) (λ state. item) turns true ts)
    (λ xs rest. YieldsAll names (map said xs) allowed ts rest)
only_list names allowed said starts item sound turns ts =
    only_many (λ state. starts) (λ state x. state) (λ state. item)
    (λ state x u v. Yields names (said x) allowed u v)
    (λ state xs u v. YieldsAll names (map said xs) allowed u v)
    (λ state u e. sound u e) (λ state u. no_more names allowed u)
    (λ state x xs u v w i j. one_more names (said x) (map said xs) allowed u v w i j) turns true
    ts

-- ---- what may be left out

pub left_out : (names : Spellings) (allowed : Allowed) (ts : Row)
    → YieldsMaybe names None allowed ts ts
left_out names allowed ts = record { tokens = refl; obeys = refl }

pub stands_there : (names : Spellings) (x : Said) (allowed : Allowed) (ts rest : Row)
    → Yields names x allowed ts rest → YieldsMaybe names (Some x) allowed ts rest
stands_there names x allowed ts rest h = record { tokens = h.tokens; obeys = h.obeys }

-- ---- lists are read whole

-- Stop holds of the token behind a tree, where it holds of the first of each further one and of
-- what follows them.
pub next_stops : {A : Type 0} (names : Spellings) (allowed : Allowed) (said : A → Said)
    (Stop : Option Token → Type 0)
    → ((x : A) → (said x).obeys names allowed ≡ true → Stop (Some (said x).first))
    → (xs : List A) (rest : Row) → all_obey names allowed (map said xs) ≡ true → Stop (next_of rest)
    → Stop (next_of (all_tokens (map said xs) ++ rest))
next_stops names allowed said Stop stop [] rest ob st = st
next_stops names allowed said Stop stop (x ∷ xs) rest ob st = stop x (left_true _ _ ob)

-- A list is read, where each of its trees is read before what stops it, and begins as an item does,
-- and what follows the list stops the last one and begins no item.
pub gets_list : {A : Type 0} {b : ℕ} (names : Spellings) (allowed : Allowed) (said : A → Said)
    (starts : Option Token → Bool) (item : Eater A b) (Stop : Option Token → Type 0)
    → ((x : A) (rest : Row) → (said x).obeys names allowed ≡ true → Stop (next_of rest)
    → Gets A (item.parser.run (tokens_of (said x) ++ rest)) x rest)
    → ((x : A) → (said x).obeys names allowed ≡ true → starts (Some (said x).first) ≡ true)
    → ((x : A) → (said x).obeys names allowed ≡ true → Stop (Some (said x).first))
    → (turns : ℕ) (xs : List A) (rest : Row) → all_obey names allowed (map said xs) ≡ true
    → Stop (next_of rest) → starts (next_of rest) ≡ false
    → Gets (List A)
    (many_run (λ state. starts) (λ state x. state) (λ state. item) turns true
    (all_tokens (map said xs) ++ rest)) xs rest
gets_list names allowed said starts item Stop complete begins stop zero xs rest ob st e = ends
gets_list names allowed said starts item Stop complete begins stop (suc turns) [] rest ob st e =
    rw e reads
gets_list names allowed said starts item Stop complete begins stop (suc turns) (x ∷ xs) rest ob st
    e =
    let own = left_true _ _ ob in
    let others = right_true _ _ ob in
    rw (all_after (said x) (map said xs) rest, begins x own)
    (gets_then _
    (complete x (all_tokens (map said xs) ++ rest) own
    (next_stops names allowed said Stop stop xs rest others st))
    (gets_then _
    (gets_list names allowed said starts item Stop complete begins stop turns xs rest others
    st e) reads))
