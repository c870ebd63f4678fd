-- What reading canonical text gives.
use Rattle.std.specs.Prelude.{encode_utf8_all}
use Rattle.std.specs.List.{flat_map}
use Rattle.std.specs.Str.{chars, IsUtf8}
use Rattle.std.proofs.Common.{◌≡◌, ℕ, ◌+◌, Bool, true, false, cond, ◌==◌, List, [], ◌∷◌, ◌++◌, map, length, get_or, drop, refl, sym, ap, subst, ◌∙◌, arith, append_assoc, length-append}
use lib.Utf8
use Rattle.std.proofs.Math.Utf8.{scalar, scalars}
use Rattle.std.proofs.lemmas.Str.{encodes-append, scalars-chars, chars-encodes}
use Rattle.fort_base.specs.declared.refusal.Gap.{Gap}
use Rattle.fort_base.specs.declared.refusal.Gap.TheVariants as a_gap
use Rattle.fort_base.specs.declared.refusal.Place.{Place}
use Rattle.fort_lex_scan.specs.Chain.{Chain}
use Rattle.fort_lex_scan.specs.Gaps.{mark, body}
use Rattle.fort_lex_scan.specs.Places.{place_after, the_start, gap_kind}
use Rattle.fort_lex_scan.specs.Tokens.{Piece, IsToken, with_mark}
use Rattle.fort_lex_scan.specs.Faults.{IsList}
use Rattle.fort_lex_token.specs.declared.token.Kind.{Kind}
use Rattle.fort_lex_token.specs.declared.token.Token.{Token}
use Rattle.fort_lex_token.specs.declared.token.Tokens.{Tokens}
use Rattle.fort_lex.specs.Meanings.{has_number, is_text_word, Means, said}
use Rattle.fort_lex.specs.Files.{once, numbered_in, names_of, texts_of, texts_after, AreTokens, StandsFor, HasTokens}
use Rattle.fort_lex.proofs.Uniqueness.{one_list_of_tokens}
use Rattle.fort_lex_canonical.specs.Canonical.{gap_text, kind_text, token_text, without_first_gap, canonical}
use Rattle.fort_lex_canonical.specs.Written.{IsAlike}
use Rattle.fort_lex_canonical.proofs.Writing.{alike_shown}
use Rattle.fort_lex_law_reread.specs.Again.{IsReadAgain}
use Rattle.fort_lex_law_reread.proofs.Signs.{and_both}
use Rattle.fort_lex_law_reread.proofs.Written.{shown_word, number_small}
use Rattle.fort_lex_law_reread.proofs.Pieces.{shown_piece, shown_pieces, text_of, shown_list}
use Rattle.fort_lex_law_reread.proofs.Kept.{Keeps, keeps, scalars-append, scalars-split}

-- ---- each word keeps what it stands for

-- the words of the pieces keep what they stand for, and are characters of Unicode
abbrev AllKeep : List Piece → Type 0
AllKeep [] = Unit {0}
AllKeep (p ∷ ps) = Keeps p.word (shown_word p.word) × (scalars p.word ≡ true) × AllKeep ps

all_keep : (ps : List Piece) (text last : List ℕ) → Chain IsToken ps text last → scalars text ≡ true
    → AllKeep ps
all_keep [] text last h s = tt
all_keep (p ∷ ps) text last h s =
    let t = h.1 in
    let a = scalars-split p.gap (p.word ++ h.0) (subst (λ z. scalars z ≡ true) t.piece.whole s) in
    let b = scalars-split p.word h.0 a.1 in (
      keeps p.word (λ n. number_small p.word h.0 n t.piece.word t.sound),
      b.0,
      all_keep ps h.0 last h.2 b.1,
    )

marked_keep : (m : List ℕ) (ps : List Piece) → AllKeep ps → AllKeep (with_mark m ps)
marked_keep m [] h = h
marked_keep m (p ∷ ps) h = h

marked_shown : (m : List ℕ) (ps : List Piece) → shown_pieces (with_mark m ps) ≡ shown_pieces ps
marked_shown m [] = refl
marked_shown m (p ∷ ps) = refl

-- ---- the tables

-- a word and what is written for it add the same to the tables
texts_same : (w v : List ℕ) (more others : List (List ℕ)) → Keeps w v → more ≡ others
    → cond (is_text_word v) (encode_utf8_all (said v) ∷ more) more
    ≡ cond (is_text_word w) (encode_utf8_all (said w) ∷ others) others
texts_same w v more others k e =
    ap (λ b. cond b (encode_utf8_all (said v) ∷ more) more) k.text ∙ by (is_text_word w) refl
  where
    by : (b : Bool) → is_text_word w ≡ b
        → cond b (encode_utf8_all (said v) ∷ more) more
        ≡ cond b (encode_utf8_all (said w) ∷ others) others
    by true h =
        ap (λ s. encode_utf8_all s ∷ more) (k.says h) ∙ ap (λ t. encode_utf8_all (said w) ∷ t) e
    by false h = e

numbers_same : (w v : List ℕ) (more others : List (List ℕ)) → Keeps w v → more ≡ others
    → cond (has_number v) (v ∷ more) more ≡ cond (has_number w) (w ∷ others) others
numbers_same w v more others k e =
    ap (λ b. cond b (v ∷ more) more) k.numbered ∙ by (has_number w) refl
  where
    by : (b : Bool) → has_number w ≡ b → cond b (v ∷ more) more ≡ cond b (w ∷ others) others
    by true h = ap (λ s. s ∷ more) (k.named h) ∙ ap (λ t. w ∷ t) e
    by false h = e

texts_map : (ps : List Piece) → AllKeep ps → texts_of (map shown_piece ps) ≡ texts_of ps
texts_map [] h = refl
texts_map (p ∷ ps) h =
    texts_same p.word (shown_word p.word) (texts_of (map shown_piece ps)) (texts_of ps) h.0
    (texts_map ps h.2)

numbered_map : (ps : List Piece) → AllKeep ps → numbered_in (map shown_piece ps) ≡ numbered_in ps
numbered_map [] h = refl
numbered_map (p ∷ ps) h =
    numbers_same p.word (shown_word p.word) (numbered_in (map shown_piece ps)) (numbered_in ps) h.0
    (numbered_map ps h.2)

texts_shown : (ps : List Piece) → AllKeep ps → texts_of (shown_pieces ps) ≡ texts_of ps
texts_shown [] h = refl
texts_shown (p ∷ ps) h = texts_map (p ∷ ps) h

names_shown : (ps : List Piece) → AllKeep ps → names_of (shown_pieces ps) ≡ names_of ps
names_shown [] h = refl
names_shown (p ∷ ps) h = ap once (numbered_map (p ∷ ps) h)

-- ---- the tokens

-- tokens of the shown pieces: the same kinds, and the gaps
record Again (words : List (List ℕ)) (place : Place) (texts : ℕ) (ps : List Piece)
    (kinds : List Kind) (gaps : List Gap) : Type 0 where
  list : List Token
  are : AreTokens words place texts ps list
  kinds_are : map (λ t. t.kind) list ≡ kinds
  gaps_are : map (λ t. t.gap) list ≡ gaps

gap_again : (g : Gap) → gap_kind (gap_text g) ≡ g
gap_again a_gap.Empty = refl
gap_again a_gap.Space = refl
gap_again a_gap.Line = refl

one_again : (words : List (List ℕ)) (place : Place) (texts : ℕ) (w v : List ℕ) (ps : List Piece)
    (g : Gap) (k : Kind) (kinds : List Kind) (gaps : List Gap) → Keeps w v
    → Means words texts w k
    → ((q : Place) → Again words q (texts_after texts w) ps kinds gaps)
    → Again words place texts (record { gap = gap_text g; word = v } ∷ ps) (k ∷ kinds) (g ∷ gaps)
one_again words place texts w v ps g k kinds gaps kept m rest =
    let after = place_after place (gap_text g ++ v) in
    let others = rest after in
    let t : Token = record { kind = k; gap = g; place = place_after place (gap_text g) } in
    record {
      list = t ∷ others.list;
      are = (
        t,
        others.list,
        refl,
        record { kind = kept.means words texts k m; gap = sym (gap_again g); place_is = refl },
        subst (λ n. AreTokens words after n ps others.list)
            (ap (λ b. cond b (texts + 1) texts) (sym kept.text)) others.are,
      );
      kinds_are = ap (λ ks. k ∷ ks) others.kinds_are;
      gaps_are = ap (λ gs. g ∷ gs) others.gaps_are;
    }

-- the tokens of the shown pieces, from some place on; and all of them, where the first has no gap
all_again : (words : List (List ℕ)) (from place : Place) (texts : ℕ) (ps : List Piece)
    (ts : List Token) → AllKeep ps → AreTokens words from texts ps ts
    → Again words place texts (map shown_piece ps) (map (λ t. t.kind) ts) (map (λ t. t.gap) ts)
all_again words from place texts [] ts k h =
    record {
      list = [];
      are = refl;
      kinds_are = sym (ap (map (λ t. t.kind)) h);
      gaps_are = sym (ap (map (λ t. t.gap)) h);
    }
all_again words from place texts (p ∷ ps) ts k h =
    let one =
    one_again words place texts p.word (shown_word p.word) (map shown_piece ps) (gap_kind p.gap)
    h.0.kind (map (λ t. t.kind) h.1) (map (λ t. t.gap) h.1) k.0 h.3.kind
    (λ q. all_again words (place_after from (p.gap ++ p.word)) q (texts_after texts p.word) ps h.1
    k.2 h.4) in
    record {
      list = one.list;
      are = one.are;
      kinds_are = one.kinds_are ∙ sym (ap (map (λ t. t.kind)) h.2);
      gaps_are =
          one.gaps_are ∙ ap (λ g. g ∷ map (λ t. t.gap) h.1) (sym h.3.gap)
          ∙ sym (ap (map (λ t. t.gap)) h.2);
    }

first_again : (words : List (List ℕ)) (from place : Place) (texts : ℕ) (ps : List Piece)
    (ts : List Token) → AllKeep ps → AreTokens words from texts ps ts
    → Again words place texts (shown_pieces ps) (map (λ t. t.kind) ts)
    (map (λ t. t.gap) (without_first_gap ts))
first_again words from place texts [] ts k h =
    record {
      list = [];
      are = refl;
      kinds_are = sym (ap (map (λ t. t.kind)) h);
      gaps_are = sym (ap (λ l. map (λ t. t.gap) (without_first_gap l)) h);
    }
first_again words from place texts (p ∷ ps) ts k h =
    let one =
    one_again words place texts p.word (shown_word p.word) (map shown_piece ps) a_gap.Empty
    h.0.kind (map (λ t. t.kind) h.1) (map (λ t. t.gap) h.1) k.0 h.3.kind
    (λ q. all_again words (place_after from (p.gap ++ p.word)) q (texts_after texts p.word) ps h.1
    k.2 h.4) in
    record {
      list = one.list;
      are = one.are;
      kinds_are = one.kinds_are ∙ sym (ap (map (λ t. t.kind)) h.2);
      gaps_are = one.gaps_are ∙ sym (ap (λ l. map (λ t. t.gap) (without_first_gap l)) h.2);
    }

-- ---- the bytes

gap_bytes : (g : Gap) → gap_text g ≡ encode_utf8_all (gap_text g)
unfolding lib.Utf8.encode
gap_bytes a_gap.Empty = refl
gap_bytes a_gap.Space = refl
gap_bytes a_gap.Line = refl

feed_bytes : encode_utf8_all (10 ∷ []) ≡ 10 ∷ []
unfolding lib.Utf8.encode
feed_bytes = refl

-- the text of the table that comes next
text_at : (before : List (List ℕ)) (x : List ℕ) (more : List (List ℕ))
    → get_or (before ++ x ∷ more) (length before) [] ≡ x
text_at [] x more = refl
text_at (b ∷ before) x more = text_at before x more

-- the table has these texts from its place n on
record HasFrom (table more : List (List ℕ)) (n : ℕ) : Type 0 where
  before : List (List ℕ)
  whole : table ≡ before ++ more
  size : length before ≡ n

next_text : (table more : List (List ℕ)) (n : ℕ) (w : List ℕ)
    → HasFrom table (cond (is_text_word w) (encode_utf8_all (said w) ∷ more) more) n
    → (is_text_word w ≡ true → get_or table n [] ≡ encode_utf8_all (said w))
    × HasFrom table more (texts_after n w)
next_text table more n w h = by (is_text_word w) h
  where
    by : (b : Bool) → HasFrom table (cond b (encode_utf8_all (said w) ∷ more) more) n
        → (b ≡ true → get_or table n [] ≡ encode_utf8_all (said w))
        × HasFrom table more (cond b (n + 1) n)
    by false h = (λ e. absurd cc, h)
    by true h =
        let x = encode_utf8_all (said w) in
        let l = length-append h.before (x ∷ []) in
        let s = h.size in (
          λ e. ap (λ t. get_or t n []) h.whole
              ∙ ap (λ k. get_or (h.before ++ x ∷ more) k []) (sym h.size) ∙ text_at h.before x more,
          record {
            before = h.before ++ x ∷ [];
            whole = h.whole ∙ sym (append_assoc h.before (x ∷ []) more);
            size = omega arith;
          },
        )

-- the bytes of a token
one_bytes : (gap : Gap) (names table : List (List ℕ)) (k : Kind) (v more others : List ℕ)
    → kind_text names table k ≡ encode_utf8_all v → others ≡ encode_utf8_all more
    → (gap_text gap ++ kind_text names table k) ++ others
    ≡ encode_utf8_all (gap_text gap ++ (v ++ more))
one_bytes gap names table k v more others h e =
    append_assoc (gap_text gap) (kind_text names table k) others
    ∙ ap (λ z. z ++ (kind_text names table k ++ others)) (gap_bytes gap)
    ∙ ap (λ z. encode_utf8_all (gap_text gap) ++ (z ++ others)) h
    ∙ ap (λ z. encode_utf8_all (gap_text gap) ++ (encode_utf8_all v ++ z)) e
    ∙ ap (λ z. encode_utf8_all (gap_text gap) ++ z) (sym (encodes-append v more))
    ∙ sym (encodes-append (gap_text gap) (v ++ more))

-- the bytes of tokens are those of the shown pieces, from some place on; and of all of them, where
-- the first has no gap
all_bytes : (words table : List (List ℕ)) (from : Place) (n : ℕ) (ps : List Piece) (ts : List Token)
    → AllKeep ps → AreTokens words from n ps ts → HasFrom table (texts_of ps) n
    → flat_map (token_text (map encode_utf8_all words) table) ts ++ 10 ∷ []
    ≡ encode_utf8_all (text_of (map shown_piece ps))
all_bytes words table from n [] ts k h t =
    ap (λ l. flat_map (token_text (map encode_utf8_all words) table) l ++ 10 ∷ []) h
    ∙ sym feed_bytes
all_bytes words table from n (p ∷ ps) ts k h t =
    let next = next_text table (texts_of ps) n p.word t in
    let rest =
    all_bytes words table (place_after from (p.gap ++ p.word)) (texts_after n p.word) ps h.1 k.2
    h.4 next.1 in
    let names = map encode_utf8_all words in
    let others = flat_map (token_text names table) h.1 in
    ap (λ l. flat_map (token_text names table) l ++ 10 ∷ []) h.2
    ∙ append_assoc (gap_text h.0.gap ++ kind_text names table h.0.kind) others (10 ∷ [])
    ∙ ap (λ g. (gap_text g ++ kind_text names table h.0.kind) ++ (others ++ 10 ∷ [])) h.3.gap
    ∙ one_bytes (gap_kind p.gap) names table h.0.kind (shown_word p.word)
    (text_of (map shown_piece ps)) (others ++ 10 ∷ [])
    (k.0.bytes words table n h.0.kind h.3.kind next.0) rest

first_bytes : (words table : List (List ℕ)) (from : Place) (n : ℕ) (ps : List Piece)
    (ts : List Token) → AllKeep ps → AreTokens words from n ps ts → HasFrom table (texts_of ps) n
    → flat_map (token_text (map encode_utf8_all words) table) (without_first_gap ts) ++ 10 ∷ []
    ≡ encode_utf8_all (text_of (shown_pieces ps))
first_bytes words table from n [] ts k h t =
    ap (λ l. flat_map (token_text (map encode_utf8_all words) table) (without_first_gap l) ++ 10
    ∷ []) h ∙ sym feed_bytes
first_bytes words table from n (p ∷ ps) ts k h t =
    let next = next_text table (texts_of ps) n p.word t in
    let rest =
    all_bytes words table (place_after from (p.gap ++ p.word)) (texts_after n p.word) ps h.1 k.2
    h.4 next.1 in
    let names = map encode_utf8_all words in
    let others = flat_map (token_text names table) h.1 in
    ap (λ l. flat_map (token_text names table) (without_first_gap l) ++ 10 ∷ []) h.2
    ∙ append_assoc (kind_text names table h.0.kind) others (10 ∷ [])
    ∙ one_bytes a_gap.Empty names table h.0.kind (shown_word p.word) (text_of (map shown_piece ps))
    (others ++ 10 ∷ []) (k.0.bytes words table n h.0.kind h.3.kind next.0) rest

-- canonical text is the shown pieces, as UTF-8
pub canonical_bytes : (ps : List Piece) (ts : Tokens) → AllKeep ps → StandsFor ps ts
    → canonical ts ≡ encode_utf8_all (text_of (shown_pieces ps))
canonical_bytes ps ts k h =
    ap (λ n. flat_map (token_text n ts.texts) (without_first_gap ts.list) ++ 10 ∷ []) h.names
    ∙ first_bytes (names_of ps) ts.texts the_start 0 ps ts.list k h.list
    (record { before = []; whole = h.texts; size = refl })

-- ---- its characters

gap_scalars : (g : Gap) → scalars (gap_text g) ≡ true
gap_scalars a_gap.Empty = refl
gap_scalars a_gap.Space = refl
gap_scalars a_gap.Line = refl

map_scalars : (ps : List Piece) → AllKeep ps → scalars (text_of (map shown_piece ps)) ≡ true
map_scalars [] k = refl
map_scalars (p ∷ ps) k =
    scalars-append (gap_text (gap_kind p.gap)) (shown_word p.word ++ text_of (map shown_piece ps))
    (gap_scalars (gap_kind p.gap))
    (scalars-append (shown_word p.word) (text_of (map shown_piece ps)) (k.0.scalars_are k.1)
    (map_scalars ps k.2))

shown_scalars : (ps : List Piece) → AllKeep ps → scalars (text_of (shown_pieces ps)) ≡ true
shown_scalars [] k = refl
shown_scalars (p ∷ ps) k =
    scalars-append (shown_word p.word) (text_of (map shown_piece ps)) (k.0.scalars_are k.1)
    (map_scalars ps k.2)

body_scalars : (text : List ℕ) → scalars text ≡ true → scalars (body text) ≡ true
body_scalars [] h = h
body_scalars (c ∷ cs) h = by (c == 65279)
  where
    by : (b : Bool) → scalars (cond b cs (c ∷ cs)) ≡ true
    by true = (and_both (scalar c) (scalars cs) h).1
    by false = h

-- ---- the laws

-- canonical text has the tokens again
pub read_back : (bytes : List ℕ) (ts : Tokens) → HasTokens bytes ts
    → (us : Tokens) × HasTokens (canonical ts) us × IsReadAgain ts us
read_back bytes ts h =
    let has = h.is.has in
    let bare = has.bare in
    let text = chars bytes in
    let kept_bare =
    all_keep bare (body text) has.last has.tokens
    (body_scalars text (scalars-chars bytes h.utf8)) in
    let ps = h.pieces in
    let kept : AllKeep ps = subst AllKeep (sym has.marked) (marked_keep (mark text) bare kept_bare)
    in
    let shown = shown_pieces ps in
    let shown_is : shown ≡ shown_pieces bare =
    ap shown_pieces has.marked ∙ marked_shown (mark text) bare in
    let few = h.is.few in
    let size : length ps ≡ length bare = ap length has.marked ∙ marked_length (mark text) bare in
    let listed : IsList (text_of shown) shown =
    subst (λ q. IsList (text_of q) q) (sym shown_is)
    (shown_list bare (body text) has.last has.tokens (omega arith)) in
    let bytes_are = canonical_bytes ps ts kept h.tokens in
    let characters = shown_scalars ps kept in
    let utf8 : IsUtf8 (canonical ts) = (text_of shown, (characters, sym bytes_are)) in
    let read : chars (canonical ts) ≡ text_of shown =
    ap chars bytes_are ∙ chars-encodes (text_of shown) characters in
    let again = first_again (names_of ps) the_start the_start 0 ps ts.list kept h.tokens.list in
    let us : Tokens = record { list = again.list; names = ts.names; texts = ts.texts } in
    let names = names_shown ps kept in (
      us,
      record {
        utf8 = utf8;
        pieces = shown;
        is = subst (λ t. IsList t shown) (sym read) listed;
        tokens = record {
          list = subst (λ ws. AreTokens ws the_start 0 shown again.list) (sym names) again.are;
          names = h.tokens.names ∙ ap (map encode_utf8_all) (sym names);
          texts = h.tokens.texts ∙ sym (texts_shown ps kept);
        };
      },
      record { kinds = again.kinds_are; gaps = again.gaps_are; names = refl; texts = refl },
    )
  where
    marked_length : (m : List ℕ) (ps : List Piece) → length (with_mark m ps) ≡ length ps
    marked_length m [] = refl
    marked_length m (p ∷ ps) = refl

-- and no others
pub read_each : (bytes : List ℕ) (ts us : Tokens) → HasTokens bytes ts → HasTokens (canonical ts) us
    → IsReadAgain ts us
read_each bytes ts us h k =
    let r = read_back bytes ts h
    in subst (IsReadAgain ts) (one_list_of_tokens (canonical ts) r.0 us r.1 k) r.2

-- tokens that are read again are alike
alike : (ts us : Tokens) → IsReadAgain ts us → IsAlike us ts
alike ts us h =
    record {
      kinds = h.kinds;
      gaps = behind us.list ts.list h.gaps;
      names = h.names;
      texts = h.texts;
    }
  where
    behind : (xs ys : List Token) → map (λ t. t.gap) xs ≡ map (λ t. t.gap) (without_first_gap ys)
        → map (λ t. t.gap) (drop 1 xs) ≡ map (λ t. t.gap) (drop 1 ys)
    behind [] [] e = refl
    behind [] (y ∷ ys) e = absurd cc
    behind (x ∷ xs) [] e = absurd cc
    behind (x ∷ xs) (y ∷ ys) e = cc

pub shown_once : (bytes : List ℕ) (ts us : Tokens) → HasTokens bytes ts
    → HasTokens (canonical ts) us → canonical us ≡ canonical ts
shown_once bytes ts us h k = alike_shown us ts (alike ts us (read_each bytes ts us h k))

-- tokens that are read again from one text are alike
both_alike : (ts us vs : Tokens) → IsReadAgain ts vs → IsReadAgain us vs → IsAlike ts us
both_alike ts us vs h k =
    record {
      kinds = sym h.kinds ∙ k.kinds;
      gaps = behind ts.list us.list (sym h.gaps ∙ k.gaps);
      names = sym h.names ∙ k.names;
      texts = sym h.texts ∙ k.texts;
    }
  where
    behind : (xs ys : List Token)
        → map (λ t. t.gap) (without_first_gap xs) ≡ map (λ t. t.gap) (without_first_gap ys)
        → map (λ t. t.gap) (drop 1 xs) ≡ map (λ t. t.gap) (drop 1 ys)
    behind [] [] e = refl
    behind [] (y ∷ ys) e = absurd cc
    behind (x ∷ xs) [] e = absurd cc
    behind (x ∷ xs) (y ∷ ys) e = cc

pub told_apart : (source other : List ℕ) (ts us : Tokens) → HasTokens source ts → HasTokens other us
    → canonical ts ≡ canonical us → IsAlike ts us
told_apart source other ts us h k e =
    let r = read_back source ts h in
    both_alike ts us r.0 r.2 (read_each other us r.0 k (subst (λ t. HasTokens t r.0) e r.1))
