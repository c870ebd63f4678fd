-- The pieces of canonical text.
use Rattle.std.proofs.Common.{◌≡◌, ◌⊎◌, ℕ, ◌≤◌, Bool, true, false, cond, ◌==◌, List, [], ◌∷◌, ◌++◌, length, refl, sym, ap, subst, ◌∙◌, arith, append_assoc}
use mathlib.Core.Logic.{inl, inr}
use Rattle.std.specs.Prelude.{map}
use Rattle.std.proofs.lemmas.List.{length-map}
use Rattle.unicode_ident.specs.Ident.{is_xid_continue}
use Rattle.unicode_ident.proofs.Computing.{unicode_ident}
use Rattle.fort_base.specs.declared.refusal.Gap.{Gap}
use Rattle.fort_base.specs.declared.refusal.Gap.TheVariants as a_gap
use Rattle.fort_lex_scan.specs.Lists.{every}
use Rattle.fort_lex_scan.specs.Chain.{Chain}
use Rattle.fort_lex_scan.specs.Gaps as gaps
use Rattle.fort_lex_scan.specs.Gaps.{Part, NoPart, is_white, opens, mark, body}
use Rattle.fort_lex_scan.specs.Places.{gap_kind, has_line_feed}
use Rattle.fort_lex_scan.specs.Tokens.{Piece, IsToken, continues, with_mark, HasPieces}
use Rattle.fort_lex_scan.specs.Faults.{IsList}
use Rattle.fort_lex_scan.proofs.Theorem.{one_list, tokens_sound}
use Rattle.fort_lex_canonical.specs.Canonical.{gap_text}
use Rattle.fort_lex_law_reread.proofs.Signs.{is_inner, and_both, never}
use Rattle.fort_lex_law_reread.proofs.Words.{Follows, Stood, fronts, every-right}
use Rattle.fort_lex_law_reread.proofs.Written.{Begins, shown_word, is_written, written_stands, written_begins}

-- a piece as it is shown: its gap as nothing, a space or a line feed
abbrev pub shown_piece : Piece → Piece
shown_piece p = record { gap = gap_text (gap_kind p.gap); word = shown_word p.word }

-- the pieces as they are shown: the first has no gap
abbrev pub shown_pieces : List Piece → List Piece
shown_pieces [] = []
shown_pieces (p ∷ ps) = record { gap = []; word = shown_word p.word } ∷ map shown_piece ps

-- the text of pieces, and a line feed
abbrev pub text_of : List Piece → List ℕ
text_of [] = 10 ∷ []
text_of (p ∷ ps) = p.gap ++ (p.word ++ text_of ps)

-- ---- gaps

white_ends : (is_xid_continue 32 ≡ false) × (is_xid_continue 10 ≡ false)
unfolding unicode_ident
white_ends = (refl, refl)

-- what begins with a character that goes on nothing may follow anything
follows_any : (d : ℕ) (text rest : List ℕ) → is_xid_continue d ≡ false → is_inner d ≡ false
    → Follows text (d ∷ rest)
follows_any d text rest h k =
    record { name = λ e. absurd (never (is_xid_continue d) h e); inner = λ x more. by x more }
  where
    by : (x more : List ℕ) → every is_inner x ≡ true → d ∷ rest ≡ x ++ more
        → (others : List ℕ) × (text ≡ x ++ others)
    by [] more a e = (text, refl)
    by (c ∷ x) more a e =
        let is : c ≡ d = cc in
        absurd (never (is_inner c) (ap is_inner is
        ∙ k) (and_both (is_inner c) (every is_inner x) a).0)

-- what is shown for a gap and what follows it may follow as they did
follows_gap : (g text rest shown : List ℕ) → text ≡ g ++ rest → Follows rest shown
    → Follows text (gap_text (gap_kind g) ++ shown)
follows_gap [] text rest shown e f = subst (λ t. Follows t shown) (sym e) f
follows_gap (c ∷ cs) text rest shown e f = by (has_line_feed (c ∷ cs))
  where
    by : (b : Bool) → Follows text (gap_text (cond b a_gap.Line a_gap.Space) ++ shown)
    by true = follows_any 10 text shown white_ends.1 refl
    by false = follows_any 32 text shown white_ends.0 refl

-- no part of a gap begins with a character that is no white space, where no comment opens
no_part : (d : ℕ) (rest : List ℕ) → is_white d ≡ false → opens (d ∷ rest) ≡ false
    → NoPart (d ∷ rest)
no_part d rest w o a after (gaps.white c i e v) =
    let is : c ≡ d = cc in let k = subst (λ z. is_white z ≡ true) is v in absurd cc
no_part d rest w o a after (gaps.line x i e p q) =
    let k = subst (λ t. opens t ≡ false) e o in absurd cc
no_part d rest w o a after (gaps.comment x i e p q) =
    let k = subst (λ t. opens t ≡ false) e o in absurd cc

no_part_nil : NoPart []
no_part_nil a after (gaps.white c e i w) = absurd cc
no_part_nil a after (gaps.line x e i p q) = absurd cc
no_part_nil a after (gaps.comment x e i p q) = absurd cc

-- nothing, a space and a line feed are gaps before what begins with no part of one
gap_stands : (g : Gap) (rest : List ℕ) → NoPart rest → gaps.Gap (gap_text g ++ rest) rest
gap_stands a_gap.Empty rest h = ([], refl, h)
gap_stands a_gap.Space rest h = ((32 ∷ []) ∷ [], (rest, gaps.white 32 refl refl refl, refl), h)
gap_stands a_gap.Line rest h = ((10 ∷ []) ∷ [], (rest, gaps.white 10 refl refl refl, refl), h)

-- ---- a token

-- a word that stands is a token behind such a gap
token_stands : (g : Gap) (w v rest : List ℕ) → Begins w v → Stood v rest
    → IsToken (record { gap = gap_text g; word = v }) (gap_text g ++ (v ++ rest)) rest
token_stands g w v rest b s =
    record {
      piece = record {
        whole = refl;
        gap = gap_stands g (v ++ rest)
            (subst (λ z. NoPart (z ++ rest)) (sym b.is)
            (no_part b.first (b.others ++ rest) b.white
            (subst (λ z. opens (z ++ rest) ≡ false) b.is s.stands.apart)));
        word = s.stands;
      };
      sound = s.sound;
    }

-- what is shown for a word and what follows it may follow as they did
follows_word : (w v rest shown : List ℕ) → Begins w v → Follows rest shown
    → Follows (w ++ rest) (v ++ shown)
follows_word w v rest shown b f =
    record {
      name = λ e. on w (b.goes_on (subst (λ z. continues (z ++ shown) ≡ true) b.is e));
      inner = λ x more. by x more;
    }
  where
    on : (w : List ℕ) → continues w ≡ true → continues (w ++ rest) ≡ true
    on [] h = absurd cc
    on (c ∷ w) h = h

    own : (x more : List ℕ) → v ≡ w → every is_inner x ≡ true → v ++ shown ≡ x ++ more
        → (others : List ℕ) × (w ++ rest ≡ x ++ others)
    own x more is a e = at (fronts w x shown more (ap (λ t. t ++ shown) (sym is) ∙ e))
      where
        at : ((z : List ℕ) × (w ≡ x ++ z) × (more ≡ z ++ shown))
            ⊎ ((z : List ℕ) × (x ≡ w ++ z) × (shown ≡ z ++ more))
            → (others : List ℕ) × (w ++ rest ≡ x ++ others)
        at (inl h) = (h.0 ++ rest, ap (λ t. t ++ rest) h.1 ∙ append_assoc x h.0 rest)
        at (inr h) =
            let k = f.inner h.0 more
            (every-right is_inner w h.0 (subst (λ t. every is_inner t ≡ true) h.1 a)) h.2 in (
              k.0,
              ap (λ t. w ++ t) k.1 ∙ sym (append_assoc w h.0 k.0)
                  ∙ ap (λ t. t ++ k.0) (sym h.1),
            )

    by : (x more : List ℕ) → every is_inner x ≡ true → v ++ shown ≡ x ++ more
        → (others : List ℕ) × (w ++ rest ≡ x ++ others)
    by [] more a e = (w ++ rest, refl)
    by (c ∷ x) more a e =
        let whole : b.first ∷ (b.others ++ shown) ≡ c ∷ (x ++ more) =
        ap (λ z. z ++ shown) (sym b.is) ∙ e in
        let is : c ≡ b.first = cc in
        own (c ∷ x) more
        (b.inner (ap is_inner (sym is) ∙ (and_both (is_inner c) (every is_inner x) a).0)) a e

-- ---- the tokens

-- The tokens of the source, from some place on, are those of what is shown for them, and that may
-- follow where they did.
pub record AreShown (ps : List Piece) (text : List ℕ) : Type 0 where
  pub chain : Chain IsToken (map shown_piece ps) (text_of (map shown_piece ps)) (10 ∷ [])
  pub follows : Follows text (text_of (map shown_piece ps))

-- how what is written for a token begins, and that it stands
word_shown : (p : Piece) (text after shown : List ℕ) → IsToken p text after → Follows after shown
    → Begins p.word (shown_word p.word) × Stood (shown_word p.word) shown
word_shown p text after shown t f =
    let w = is_written p.word after t.piece.word t.sound in (
      written_begins p.word (shown_word p.word) w,
      written_stands p.word (shown_word p.word) after shown w t.piece.word t.sound f,
    )

-- from the last token to the first
pub are_shown : (ps : List Piece) (text last : List ℕ) → Chain IsToken ps text last
    → AreShown ps text
are_shown [] text last h =
    record { chain = refl; follows = follows_any 10 text [] white_ends.1 refl }
are_shown (p ∷ ps) text last h =
    let rest = are_shown ps h.0 last h.2 in
    let shown = text_of (map shown_piece ps) in
    let w = word_shown p text h.0 shown h.1 rest.follows in
    record {
      chain = (
        shown,
        token_stands (gap_kind p.gap) p.word (shown_word p.word) shown w.0 w.1,
        rest.chain,
      );
      follows =
          follows_gap p.gap text (p.word ++ h.0) (shown_word p.word ++ shown) h.1.piece.whole
          (follows_word p.word (shown_word p.word) h.0 shown w.0 rest.follows);
    }

last_gap : gaps.Gap (10 ∷ []) []
last_gap = ((10 ∷ []) ∷ [], ([], gaps.white 10 refl refl refl, refl), no_part_nil)

no_mark : (ps : List Piece) → with_mark [] ps ≡ ps
no_mark [] = refl
no_mark (p ∷ ps) = refl

shown_first : (p : Piece) (ps : List Piece) (text last : List ℕ) → Chain IsToken (p ∷ ps) text last
    → HasPieces (text_of (shown_pieces (p ∷ ps))) (shown_pieces (p ∷ ps))
shown_first p ps text last h =
    let rest = are_shown ps h.0 last h.2 in
    let shown = text_of (map shown_piece ps) in
    let v = shown_word p.word in
    let w = word_shown p text h.0 shown h.1 rest.follows in
    let t = token_stands a_gap.Empty p.word v shown w.0 w.1 in
    let unmarked =
    no_mark_at (v ++ shown) w.0.first (w.0.others ++ shown) (ap (λ z. z ++ shown) w.0.is)
    w.0.mark in
    record {
      bare = shown_pieces (p ∷ ps);
      last = 10 ∷ [];
      tokens = subst (λ z. Chain IsToken (shown_pieces (p ∷ ps)) z (10 ∷ [])) (sym unmarked.0)
          (shown, t, rest.chain);
      gap = last_gap;
      marked = sym (ap (λ m. with_mark m (shown_pieces (p ∷ ps))) unmarked.1);
    }
  where
    no_mark_at : (text : List ℕ) (d : ℕ) (rest : List ℕ) → text ≡ d ∷ rest → (d == 65279) ≡ false
        → (body text ≡ text) × (mark text ≡ [])
    no_mark_at text d rest e m = (
      ap body e ∙ ap (λ b. cond b rest (d ∷ rest)) m ∙ sym e,
      ap mark e
          ∙ ap (λ b. cond b (d ∷ []) []) m,
    )

-- The shown pieces are those of their text, which has no mark,
pub shown_has : (ps : List Piece) (text last : List ℕ) → Chain IsToken ps text last
    → HasPieces (text_of (shown_pieces ps)) (shown_pieces ps)
shown_has [] text last h =
    record { bare = []; last = 10 ∷ []; tokens = refl; gap = last_gap; marked = refl }
shown_has (p ∷ ps) text last h = shown_first p ps text last h

length_shown : (ps : List Piece) → length (shown_pieces ps) ≡ length ps
length_shown [] = refl
length_shown (p ∷ ps) = let l = length-map ps shown_piece in omega arith

-- and are its list of tokens, as long as the source's.
pub shown_list : (ps : List Piece) (text last : List ℕ) → Chain IsToken ps text last
    → length ps ≤ 262144 → IsList (text_of (shown_pieces ps)) (shown_pieces ps)
shown_list ps text last h l =
    let has = shown_has ps text last h in
    let n = length_shown ps in
    record {
      has = has;
      few = omega arith;
      only = λ others k. one_list (text_of (shown_pieces ps)) others (shown_pieces ps) k has;
      sound = λ at r. tokens_sound (text_of (shown_pieces ps)) (shown_pieces ps) at r has;
    }
