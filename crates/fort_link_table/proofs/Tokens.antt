-- What tokens keep in the whole.
use Rattle.std.proofs.Common.{◌≡◌, ◌<◌, ◌≤◌, ◌⊎◌, ℕ, ◌+◌, Bool, true, false, ◌&&◌, ◌||◌, List, [], ◌∷◌, length, map, inl, inr, Option, Some, None, refl, sym, ap, ap₂, subst, ◌∙◌, arith, length-append}
use Rattle.std.specs.Prelude.{nat_eq, slice_get, get_or}
use Rattle.std.specs.Option.{option_map_or}
use Rattle.std.specs.List.{list_any, AllByRecursion}
use Rattle.std.proofs.lemmas.Bool.{ltb-true, lt-ltb}
use Rattle.std.proofs.lemmas.Bool.Decides.{nat_tests}
use Rattle.std.proofs.lemmas.Option.{slice_get_cases}
use Rattle.fort_base.specs.declared.refusal.Place.{Place}
use Rattle.fort_ops.specs.declared.op.Op.{Op}
use Rattle.fort_ops.specs.declared.op.Op.TheVariants as op
use Rattle.fort_lex_token.specs.declared.token.Kind.{Kind}
use Rattle.fort_lex_token.specs.declared.token.Kind.TheVariants as kind
use Rattle.fort_lex_token.specs.declared.token.Token.{Token}
use Rattle.fort_link_table.specs.Names.{Spelling, number_in, grown}
use Rattle.fort_link_table.specs.Table.{joined, renumbered, op_in, kind_in, place_in, token_in}
use Rattle.fort_link_table.specs.Laws.{AreOnce, FirstIsAsItIs, JoinedNamesAreIn, JoinedNumbersFit, JoinedStandsApart, JoinedStandsBehind, JoinedTextsAreIn, Fits, FitsKind, IsOnLines, PlacesOnce, name_is_in, same_place, text_is_in, token_place}
use Rattle.fort_link_table.proofs.Growing.{is_in}
use Rattle.fort_link_table.proofs.Once.{grown_once, number_once}

-- what is so of each token is so of each in the whole
each : (P Q : Token → Type 0) (f : Token → Token) → ((t : Token) → P t → Q (f t))
    → (ts : List Token) → AllByRecursion P ts → AllByRecursion Q (map f ts)
each P Q f keep [] h = tt
each P Q f keep (t ∷ ts) h = (keep t h.0, each P Q f keep ts h.1)

-- ---- numbers of names

renumbered_in : (names own : List Spelling) (n : ℕ) → n < length own
    → renumbered own (grown names own) n < length (grown names own)
renumbered_in names own n l = by (slice_get_cases own n).1
  where
    by : ((x : Spelling) × (n < length own) × (slice_get own n ≡ Some x) × (get_or own n x ≡ x))
        ⊎ ((length own ≤ n) × (slice_get own n ≡ None))
        → renumbered own (grown names own) n < length (grown names own)
    by (inl h) =
        subst (λ z. option_map_or (number_in (grown names own)) z n < length (grown names own))
        (sym h.2) (is_in names own n h.0 h.2)
    by (inr h) = let k = h.0 in absurd (omega arith)

name_in : (names own : List Spelling) (texts : ℕ) (k : Kind) → name_is_in (length own) k ≡ true
    → name_is_in (length (grown names own)) (kind_in own (grown names own) texts k) ≡ true
name_in names own texts (kind.Word w) h = refl
name_in names own texts (kind.Name id) h =
    lt-ltb _ _ (renumbered_in names own id.0 (ltb-true id.0 (length own) h))
name_in names own texts (kind.Number n) h = refl
name_in names own texts (kind.Text n) h = refl
name_in names own texts (kind.Mark m) h = refl
name_in names own texts (kind.Op o) h = by o h
  where
    by : (o : Op) → name_is_in (length own) (kind.Op o) ≡ true
        → name_is_in (length (grown names own)) (kind.Op (op_in own (grown names own) o)) ≡ true
    by (op.Word n) h = lt-ltb _ _ (renumbered_in names own n (ltb-true n (length own) h))
    by _ h = refl

pub names_are_in : JoinedNamesAreIn
names_are_in table tokens h =
    each (λ t. name_is_in (length tokens.names) t.kind ≡ true)
    (λ t. name_is_in (length (grown table.names tokens.names)) t.kind ≡ true)
    (token_in tokens.names (grown table.names tokens.names) (length table.texts) table.lines)
    (λ t k. name_in table.names tokens.names (length table.texts) t.kind k) tokens.list h

-- ---- numbers of texts

text_in : (own all : List Spelling) (before texts : ℕ) (k : Kind) → text_is_in texts k ≡ true
    → text_is_in (before + texts) (kind_in own all before k) ≡ true
text_in own all before texts (kind.Word w) h = refl
text_in own all before texts (kind.Name id) h = refl
text_in own all before texts (kind.Number n) h = refl
text_in own all before texts (kind.Text n) h =
    let l = ltb-true n texts h in lt-ltb (before + n) (before + texts) (omega arith)
text_in own all before texts (kind.Mark m) h = refl
text_in own all before texts (kind.Op o) h = refl

pub texts_are_in : JoinedTextsAreIn
texts_are_in table tokens h =
    let all = grown table.names tokens.names in
    subst (λ n. AllByRecursion (λ (t : Token). text_is_in n t.kind ≡ true)
    (joined table tokens).list) (sym (length-append table.texts tokens.texts))
    (each (λ t. text_is_in (length tokens.texts) t.kind ≡ true)
    (λ t. text_is_in (length table.texts + length tokens.texts) t.kind ≡ true)
    (token_in tokens.names all (length table.texts) table.lines)
    (λ t k. text_in tokens.names all (length table.texts) (length tokens.texts) t.kind k)
    tokens.list h)

-- ---- places

same_line : (n a b : ℕ) → nat_eq (n + a) (n + b) ≡ nat_eq a b
same_line n a b = grind (arith, nat_tests)

same_moved : (n : ℕ) (p q : Place) → same_place (place_in n p) (place_in n q) ≡ same_place p q
same_moved n p q = ap (λ b. b && nat_eq p.column q.column) (same_line n p.line q.line)

none_moved : (own all : List Spelling) (texts lines : ℕ) (p : Place) (ts : List Token)
    → list_any (same_place p) (map token_place ts) ≡ false
    → list_any (same_place (place_in lines p))
    (map token_place (map (token_in own all texts lines) ts)) ≡ false
none_moved own all texts lines p [] h = refl
none_moved own all texts lines p (t ∷ ts) h =
    by (none_moved own all texts lines p ts) (same_place p t.place)
    (same_moved lines p t.place) h
  where
    by : (list_any (same_place p) (map token_place ts) ≡ false
        → list_any (same_place (place_in lines p))
        (map token_place (map (token_in own all texts lines) ts)) ≡ false)
        → (b : Bool) → same_place (place_in lines p) (place_in lines t.place) ≡ b
        → (b || list_any (same_place p) (map token_place ts)) ≡ false
        → (same_place (place_in lines p) (place_in lines t.place)
        || list_any (same_place (place_in lines p))
        (map token_place (map (token_in own all texts lines) ts))) ≡ false
    by ih true e h = absurd cc
    by ih false e h = ap₂ (λ a b. a || b) e (ih h)

once_moved : (own all : List Spelling) (texts lines : ℕ) (ts : List Token)
    → PlacesOnce (map token_place ts)
    → PlacesOnce (map token_place (map (token_in own all texts lines) ts))
once_moved own all texts lines [] h = tt
once_moved own all texts lines (t ∷ ts) h =
    (none_moved own all texts lines t.place ts h.0, once_moved own all texts lines ts h.1)

pub stands_apart : JoinedStandsApart
stands_apart table tokens h =
    once_moved tokens.names (grown table.names tokens.names) (length table.texts) table.lines
    tokens.list h

pub stands_behind : JoinedStandsBehind
stands_behind table tokens first last h =
    each (IsOnLines first last) (IsOnLines (table.lines + first) (table.lines + last))
    (token_in tokens.names (grown table.names tokens.names) (length table.texts) table.lines)
    (λ t k. let a = k.0 in let b = k.1 in (omega arith, omega arith)) tokens.list h

-- ---- numbers

fits_in : (own all : List Spelling) (texts : ℕ) (k : Kind) → FitsKind k
    → FitsKind (kind_in own all texts k)
fits_in own all texts (kind.Word w) h = tt
fits_in own all texts (kind.Name id) h = tt
fits_in own all texts (kind.Number n) h = h
fits_in own all texts (kind.Text n) h = tt
fits_in own all texts (kind.Mark m) h = tt
fits_in own all texts (kind.Op o) h = tt

pub numbers_fit : JoinedNumbersFit
numbers_fit table tokens h =
    let all = grown table.names tokens.names in
    each Fits Fits (token_in tokens.names all (length table.texts) table.lines)
    (λ t k. fits_in tokens.names all (length table.texts) t.kind k) tokens.list h

-- ---- the first file

same_number : (names : List Spelling) → AreOnce names → (n : ℕ) → renumbered names names n ≡ n
same_number names h n = by (slice_get names n) refl
  where
    by : (s : Option Spelling) → slice_get names n ≡ s → option_map_or (number_in names) s n ≡ n
    by None e = refl
    by (Some s) e = number_once names n s h e

same_op : (names : List Spelling) → AreOnce names → (o : Op) → op_in names names o ≡ o
same_op names h (op.Word n) = ap (λ (k : ℕ). op.Word k) (same_number names h n)
same_op names h _ = refl

none_before : (n : ℕ) → 0 + n ≡ n
none_before n = omega arith

same_kind : (names : List Spelling) → AreOnce names → (k : Kind) → kind_in names names 0 k ≡ k
same_kind names h (kind.Word w) = refl
same_kind names h (kind.Name id) =
    ap (λ (n : ℕ). kind.Name (record { 0 = n })) (same_number names h id.0)
same_kind names h (kind.Number n) = refl
same_kind names h (kind.Text n) = ap (λ (k : ℕ). kind.Text k) (none_before n)
same_kind names h (kind.Mark m) = refl
same_kind names h (kind.Op o) = ap (λ (x : Op). kind.Op x) (same_op names h o)

same_tokens : (names : List Spelling) → AreOnce names → (ts : List Token)
    → map (token_in names names 0 0) ts ≡ ts
same_tokens names h [] = refl
same_tokens names h (t ∷ ts) =
    ap₂ (λ (first : Token) (rest : List Token). first ∷ rest)
    (ap₂ (λ (k : Kind) (n : ℕ). record {
      kind = k;
      gap = t.gap;
      place = record { line = n; column = t.place.column };
    }) (same_kind names h t.kind) (none_before t.place.line))
    (same_tokens names h ts)

pub as_it_is : FirstIsAsItIs
as_it_is tokens h =
    let e = grown_once [] tokens.names h in
    ap (λ (all : List Spelling). record {
      list = map (token_in tokens.names all 0 0) tokens.list;
      names = all;
      texts = tokens.texts;
    }) e
    ∙ ap (λ (ts : List Token). record {
      list = ts;
      names = tokens.names;
      texts = tokens.texts;
    }) (same_tokens tokens.names h tokens.list)
