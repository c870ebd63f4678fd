-- Lists of items and clauses, each with its `;` and each but the first behind a `;` or on a new
-- line: what is read is their tokens, and their tokens are read as them. It knows of no production.
use Rattle.std.proofs.Common.{◌≡◌, ℕ, zero, suc, Bool, true, false, List, [], ◌∷◌, ◌++◌, append_assoc, Option, Some, None, refl, sym, ap, ◌∙◌}
use Rattle.std.specs.Prelude.{map, ◌||◌}
use Rattle.fort_lex_token.specs.declared.token.Kind.{Kind}
use Rattle.fort_lex_token.specs.declared.token.Token.{Token}
use Rattle.fort_tree.specs.declared.spot.Spot.{Spot}
use Rattle.fort_tree.specs.Tokens.{Spellings, is_line}
use Rattle.fort_tree.specs.Said.{Said, SaidEntry, elsewhere, tokens_of, gap_of, semicolon_tokens, entries_tokens, begins_apart, entries_obey, last_semicolon}
use Rattle.fort_parse_reading.specs.Parser.{Row, next_of, many_run, Eater}
use Rattle.fort_parse_reading.proofs.Laws.{Only, only_many, Gets, reads, ends, gets_then}
use Rattle.fort_parse_reading.proofs.Yields.{both, left_true, right_true}
use Rattle.fort_parse_first.specs.Beginnings.{begins_apart_of}
use Rattle.fort_parse.specs.Blocks.{is_ended, last_ended}

-- ---- what is read

-- whether the first of these begins apart, behind a `;` or not
abbrev pub starts_apart : Bool → List SaidEntry → Bool
starts_apart ready [] = true
starts_apart ready (e ∷ es) = ready || is_line (gap_of e.item)

-- ts is the tokens of the entry and then rest, and the rules hold in it
pub record YieldsEntry (names : Spellings) (ready : Bool) (e : SaidEntry)
    (ts rest : List Token) : Type 0 where
  pub tokens : ts ≡ tokens_of e.item ++ (semicolon_tokens e.semicolon ++ rest)
  pub obeys : e.item.obeys names elsewhere ≡ true
  pub apart : (ready || is_line (gap_of e.item)) ≡ true

-- the same of a list of entries
pub record YieldsEntries (names : Spellings) (ready : Bool) (es : List SaidEntry)
    (ts rest : List Token) : Type 0 where
  pub tokens : ts ≡ entries_tokens es ++ rest
  pub obeys : entries_obey names es ≡ true
  pub apart : starts_apart ready es ≡ true

stands_apart : (semicolon : Option Spot) (es : List SaidEntry)
    → starts_apart (is_ended semicolon) es ≡ true → begins_apart semicolon es ≡ true
stands_apart semicolon [] h = refl
stands_apart None (e ∷ es) h = h
stands_apart (Some s) (e ∷ es) h = refl

apart_again : (semicolon : Option Spot) (es : List SaidEntry) → begins_apart semicolon es ≡ true
    → starts_apart (is_ended semicolon) es ≡ true
apart_again semicolon [] h = refl
apart_again None (e ∷ es) h = h
apart_again (Some s) (e ∷ es) h = refl

pub first_apart : (es : List SaidEntry) → starts_apart true es ≡ true
first_apart [] = refl
first_apart (e ∷ es) = refl

-- the tokens of an entry, of those after it, and then rest
entries_after : (e : SaidEntry) (es : List SaidEntry) (rest : Row)
    → entries_tokens (e ∷ es) ++ rest
    ≡ tokens_of e.item ++ (semicolon_tokens e.semicolon ++ (entries_tokens es ++ rest))
entries_after e es rest =
    append_assoc (tokens_of e.item) (semicolon_tokens e.semicolon ++ entries_tokens es) rest ∙ ap (λ
    (u : Row). tokens_of e.item ++ u)
    (append_assoc (semicolon_tokens e.semicolon) (entries_tokens es) rest)

one_more_entry : (names : Spellings) (ready : Bool) (e : SaidEntry) (es : List SaidEntry)
    (ts mid rest : Row) → YieldsEntry names ready e ts mid
    → YieldsEntries names (is_ended e.semicolon) es mid rest
    → YieldsEntries names ready (e ∷ es) ts rest
one_more_entry names ready e es ts mid rest h k = record {
  tokens = h.tokens ∙ ap (λ
      (u : Row). tokens_of e.item ++ (semicolon_tokens e.semicolon ++ u)) k.tokens
      ∙ sym (entries_after e es rest);
  obeys = both _ _ h.obeys (both _ _ (stands_apart e.semicolon es k.apart) k.obeys);
  apart = h.apart;
}

-- an item that is read where the test allows one begins apart
pub begun : (f : Kind → Bool) (ready : Bool) (ts mid : Row) (x : Said)
    → begins_apart_of f ready (next_of ts) ≡ true → ts ≡ tokens_of x ++ mid
    → (ready || is_line (gap_of x)) ≡ true
unfolding begins_apart_of
begun f ready ts mid x e is = left_true _ _ (rw is at e)

-- what a list of entries is read from is their tokens
pub only_entries : {A : Type 0} {b : ℕ} (names : Spellings) (said : A → SaidEntry)
    (ended : A → Bool) (f : Kind → Bool) (item : Eater A b)
    → ((x : A) → ended x ≡ is_ended (said x).semicolon)
    → ((ready : Bool) (ts : Row) → begins_apart_of f ready (next_of ts) ≡ true
    → Only A (item.parser.run ts) (λ x rest. YieldsEntry names ready (said x) ts rest))
    → (turns : ℕ) (ts : Row)
    → Only (List A)
    (many_run (begins_apart_of f) (λ ready x. ended x) (λ ready. item) turns true ts)
    (λ xs rest. YieldsEntries names true (map said xs) ts rest)
only_entries names said ended f item is sound turns ts =
    only_many (begins_apart_of f) (λ ready x. ended x) (λ ready. item)
    (λ ready x u v. YieldsEntry names ready (said x) u v)
    (λ ready xs u v. YieldsEntries names ready (map said xs) u v)
    sound (λ ready u. record { tokens = refl; obeys = refl; apart = refl })
    (λ ready x xs u v w i j. one_more_entry names ready (said x) (map said xs) u v w i
    (rw (is x) at j)) turns true ts

-- ---- they are read

module _ (Stop : Option Token → Type 0) where
  -- what follows an entry stops it, unless its `;` does
  abbrev pub StopsAfter : Option Spot → Option Token → Type 0
  StopsAfter None next = Stop next
  StopsAfter (Some s) next = Unit {0}

  -- what follows a list of entries stops the last
  abbrev pub StopsLast : List SaidEntry → Option Token → Type 0
  StopsLast [] next = Unit {0}
  StopsLast (e ∷ []) next = StopsAfter e.semicolon next
  StopsLast (e ∷ f ∷ es) next = StopsLast (f ∷ es) next

  stops_both : (semicolon : Option Spot) (next : Option Token) → Stop next
      → StopsAfter semicolon next
  stops_both None next h = h
  stops_both (Some s) next h = tt

  pub stops_last : (es : List SaidEntry) (next : Option Token) → Stop next → StopsLast es next
  stops_last [] next h = tt
  stops_last (e ∷ []) next h = stops_both e.semicolon next h
  stops_last (e ∷ f ∷ es) next h = stops_last (f ∷ es) next h

  ended_after : (semicolon : Option Spot) (s : Spot) (next : Option Token) → semicolon ≡ Some s
      → StopsAfter semicolon next
  ended_after None s next h = absurd cc
  ended_after (Some t) s next h = tt

  -- behind a `;` anything does
  pub ended_last : (es : List SaidEntry) (s : Spot) (next : Option Token)
      → last_semicolon es ≡ Some s → StopsLast es next
  ended_last [] s next h = tt
  ended_last (e ∷ []) s next h = ended_after e.semicolon s next h
  ended_last (e ∷ f ∷ es) s next h = ended_last (f ∷ es) s next h

  rest_last : (e : SaidEntry) (es : List SaidEntry) (next : Option Token) → StopsLast (e ∷ es) next
      → StopsLast es next
  rest_last e [] next h = tt
  rest_last e (f ∷ es) next h = h

  module _ {A : Type 0} (names : Spellings) (said : A → SaidEntry) (f : Kind → Bool)
      (begins : (x : A) → (said x).item.obeys names elsewhere ≡ true
      → f (said x).item.first.kind ≡ true)
      (line : (t : Token) → is_line t.gap ≡ true → f t.kind ≡ true → Stop (Some t)) where
    stops_next : (semicolon : Option Spot) (x : A) (next : Option Token)
        (is : next ≡ Some (said x).item.first) → (said x).item.obeys names elsewhere ≡ true
        → begins_apart semicolon (said x ∷ []) ≡ true → StopsAfter semicolon next
    stops_next (Some s) x next is ob h = tt
    stops_next None x next is ob h = rw is (line (said x).item.first h (begins x ob))

    apart_one : (semicolon : Option Spot) (e : SaidEntry) (es : List SaidEntry)
        → begins_apart semicolon (e ∷ es) ≡ true → begins_apart semicolon (e ∷ []) ≡ true
    apart_one None e es h = h
    apart_one (Some s) e es h = refl

    stops_entry : (x : A) (xs : List A) (rest : Row) → entries_obey names (map said xs) ≡ true
        → begins_apart (said x).semicolon (map said xs) ≡ true
        → StopsLast (said x ∷ map said xs) (next_of rest)
        → StopsAfter (said x).semicolon (next_of (entries_tokens (map said xs) ++ rest))
    stops_entry x [] rest ob h k = k
    stops_entry x (y ∷ ys) rest ob h k =
        stops_next (said x).semicolon y _ refl (left_true _ _ ob)
        (apart_one (said x).semicolon (said y) (map said ys) h)

    begun_entry : (ready : Bool) (x : A) → (said x).item.obeys names elsewhere ≡ true
        → (ready || is_line (gap_of (said x).item)) ≡ true
        → begins_apart_of f ready (Some (said x).item.first) ≡ true
    unfolding begins_apart_of
    begun_entry ready x ob e = rw (e, begins x ob) refl

    -- a list of entries is read, where what follows it begins none
    pub gets_entries : {b : ℕ} (ended : A → Bool) (item : Eater A b)
        → ((x : A) → ended x ≡ is_ended (said x).semicolon)
        → ((x : A) (rest : Row) → (said x).item.obeys names elsewhere ≡ true
        → StopsAfter (said x).semicolon (next_of rest)
        → Gets A (item.parser.run
        (tokens_of (said x).item ++ (semicolon_tokens (said x).semicolon ++ rest))) x rest)
        → (turns : ℕ) (ready : Bool) (xs : List A) (rest : Row)
        → entries_obey names (map said xs) ≡ true → starts_apart ready (map said xs) ≡ true
        → StopsLast (map said xs) (next_of rest)
        → ((ready : Bool) → begins_apart_of f ready (next_of rest) ≡ false)
        → Gets (List A)
        (many_run (begins_apart_of f) (λ ready x. ended x) (λ ready. item) turns ready
        (entries_tokens (map said xs) ++ rest)) xs rest
    gets_entries ended item is complete zero ready xs rest ob ap st none = ends
    gets_entries ended item is complete (suc turns) ready [] rest ob ap st none =
        rw (none ready) reads
    gets_entries ended item is complete (suc turns) ready (x ∷ xs) rest ob ap st none =
        let own = left_true _ _ ob in
        let others = right_true _ _ ob in
        let apart = left_true _ _ others in
        let again : starts_apart (ended x) (map said xs) ≡ true =
        rw (is x) (apart_again (said x).semicolon (map said xs) apart) in
        rw (entries_after (said x) (map said xs) rest, begun_entry ready x own ap)
        (gets_then _
        (complete x (entries_tokens (map said xs) ++ rest) own
        (stops_entry x xs rest (right_true _ _ others) apart st))
        (gets_then _
        (gets_entries ended item is complete turns (ended x) xs rest (right_true _ _ others)
        again (rest_last (said x) (map said xs) (next_of rest) st) none) reads))

-- ---- the `;` behind the last

-- whether there is one, of the clauses as of what they say
pub last_is : {A : Type 0} (said : A → SaidEntry) (semicolon : A → Option Spot)
    → ((x : A) → semicolon x ≡ (said x).semicolon) → (xs : List A)
    → last_ended semicolon xs ≡ is_ended (last_semicolon (map said xs))
last_is said semicolon is [] = refl
last_is said semicolon is (x ∷ []) = ap is_ended (is x)
last_is said semicolon is (x ∷ y ∷ ys) = last_is said semicolon is (y ∷ ys)
