-- Each file has a list of tokens or breaks a rule.
use Rattle.std.proofs.Common.{◌≡◌, ◌⊎◌, ℕ, zero, suc, ◌≤◌, ◌<◌, Bool, true, false, cond, ◌||◌, List, [], ◌∷◌, ◌++◌, length, map, take, Some, refl, ap, subst, arith}
use mathlib.Core.Logic.{inl, inr}
use Rattle.std.specs.Prelude.{slice_get, encode_utf8_all}
use Rattle.std.specs.Str.{chars, IsUtf8, is_utf8, IsValidUpTo}
use Rattle.std.proofs.lemmas.Bool.{cases_lt}
use Rattle.std.proofs.lemmas.List.{take_all}
use Rattle.std.proofs.lemmas.Str.{IsUtf8-from_is_utf8, is_utf8-from_IsUtf8, IsUtf8-nil}
use Rattle.fort_base.specs.declared.rules.TheConstants.{NOT_UTF8, TOO_MANY_TOKENS}
use Rattle.fort_base.specs.declared.refusal.Place.{Place}
use Rattle.fort_base.specs.declared.refusal.Rule.{Rule}
use Rattle.fort_lex_scan.specs.declared.word.Shape.{Shape}
use Rattle.fort_lex_scan.specs.declared.word.Shape.TheVariants as shape
use Rattle.fort_lex_scan.specs.Lists.{same, among}
use Rattle.fort_lex_scan.specs.Places.{place_after, the_start, gap_kind}
use Rattle.fort_lex_scan.specs.Tokens.{Piece}
use Rattle.fort_lex_scan.specs.Words.{shape_of}
use Rattle.fort_lex_scan.proofs.Symbols.{same_is, same_refl}
use Rattle.fort_lex_scan.proofs.Exists.{IsReadable, one_exists}
use Rattle.fort_ops.specs.declared.op.Op.TheVariants as an_op
use Rattle.fort_lex.specs.declared.meaning.Meaning.{Meaning}
use Rattle.fort_lex.specs.declared.meaning.Meaning.TheVariants as a_meaning
use Rattle.fort_lex_token.specs.declared.token.Kind.{Kind}
use Rattle.fort_lex_token.specs.declared.token.Kind.TheVariants as kind
use Rattle.fort_lex_token.specs.declared.token.Token.{Token}
use Rattle.fort_lex_token.specs.declared.token.Tokens.{Tokens}
use Rattle.fort_lex.specs.Meanings.{meaning_of, is_numbered, is_numbered_shape, has_number, KindFor, MeansShape}
use Rattle.fort_lex.specs.Files.{without, once, numbered_in, names_of, texts_of, texts_after, AreTokens, StandsFor, HasTokens, BreaksRule, not_utf8, too_many, fault}
use Rattle.fort_lex.proofs.NameLaws.{or_true}

-- ---- each word that has a number has one among the words of its text

number_of : (ws : List (List ℕ)) (w : List ℕ) → among ws w ≡ true
    → (n : ℕ) × (slice_get ws n ≡ Some w)
number_of [] w h = absurd cc
number_of (v ∷ ws) w h = by (same v w) refl h (number_of ws w)
  where
    by : (b : Bool) → same v w ≡ b → (b || among ws w) ≡ true
        → (among ws w ≡ true → (n : ℕ) × (slice_get ws n ≡ Some w))
        → (n : ℕ) × (slice_get (v ∷ ws) n ≡ Some w)
    by true e h ih = (0, ap Some (same_is v w e))
    by false e h ih = let n = ih h in (suc n.0, n.1)

without_other : (u w : List ℕ) (ws : List (List ℕ)) → same u w ≡ false → among ws w ≡ true
    → among (without u ws) w ≡ true
without_other u w [] e h = h
without_other u w (v ∷ ws) e h = by (same u v) (same v w) refl refl h (without_other u w ws e)
  where
    by : (b c : Bool) → same u v ≡ b → same v w ≡ c → (c || among ws w) ≡ true
        → (among ws w ≡ true → among (without u ws) w ≡ true)
        → among (cond b (without u ws) (v ∷ without u ws)) w ≡ true
    by true true f g h ih = let k = subst (λ t. same t w ≡ false) (same_is u v f) e in absurd cc
    by true false f g h ih = ih h
    by false true f g h ih = rw g refl
    by false false f g h ih = rw g (ih h)

once_among : (ws : List (List ℕ)) (w : List ℕ) → among ws w ≡ true → among (once ws) w ≡ true
once_among [] w h = h
once_among (v ∷ ws) w h = by (same v w) refl h (once_among ws w)
  where
    by : (b : Bool) → same v w ≡ b → (b || among ws w) ≡ true
        → (among ws w ≡ true → among (once ws) w ≡ true)
        → (same v w || among (without v (once ws)) w) ≡ true
    by true e h ih = rw e refl
    by false e h ih = rw e (without_other v w (once ws) e (ih h))

-- ---- each spelling stands for a kind

kind_exists : (words : List (List ℕ)) (w : List ℕ) (m : Meaning)
    → (is_numbered m ≡ true → among words w ≡ true) → (k : Kind) × KindFor words w m k
kind_exists words w (a_meaning.Word r) h = (kind.Word r, refl)
kind_exists words w (a_meaning.Mark m) h = (kind.Mark m, refl)
kind_exists words w (a_meaning.Op op) h = (kind.Op op, refl)
kind_exists words w a_meaning.OperatorWord h =
    let n = number_of words w (h refl) in (kind.Op (an_op.Word n.0), (n.0, n.1, refl))
kind_exists words w a_meaning.Name h =
    let n = number_of words w (h refl) in (kind.Name (record { 0 = n.0 }), (n.0, n.1, refl))

means_exists : (words : List (List ℕ)) (texts : ℕ) (w : List ℕ) (s : Shape)
    → (is_numbered_shape s w ≡ true → among words w ≡ true)
    → (k : Kind) × MeansShape words texts w s k
means_exists words texts w (shape.Number n) h = (kind.Number n, refl)
means_exists words texts w shape.Text h = (kind.Text texts, refl)
means_exists words texts w shape.Name h = kind_exists words w (meaning_of w) h
means_exists words texts w shape.Symbol h = kind_exists words w (meaning_of w) h

-- ---- all pieces stand for tokens

-- the words have a number for each that is numbered in the pieces
abbrev Numbers : List (List ℕ) → List Piece → Type 0
Numbers words ps = (w : List ℕ) → among (numbered_in ps) w ≡ true → among words w ≡ true

numbers_first : (words : List (List ℕ)) (p : Piece) (ps : List Piece) → Numbers words (p ∷ ps)
    → has_number p.word ≡ true → among words p.word ≡ true
numbers_first words p ps h e = h p.word (rw e (rw (same_refl p.word) refl))

numbers_rest : (words : List (List ℕ)) (p : Piece) (ps : List Piece) → Numbers words (p ∷ ps)
    → Numbers words ps
numbers_rest words p ps h w e = h w (by (has_number p.word))
  where
    by : (b : Bool) → among (cond b (p.word ∷ numbered_in ps) (numbered_in ps)) w ≡ true
    by true = rw e (or_true (same p.word w))
    by false = e

row_exists : (words : List (List ℕ)) (place : Place) (texts : ℕ) (ps : List Piece)
    → Numbers words ps → (ts : List Token) × AreTokens words place texts ps ts
row_exists words place texts [] h = ([], refl)
row_exists words place texts (p ∷ ps) h =
    let k = means_exists words texts p.word (shape_of p.word) (numbers_first words p ps h) in
    let t : Token = record { kind = k.0; gap = gap_kind p.gap; place = place_after place p.gap } in
    let rest =
    row_exists words (place_after place (p.gap ++ p.word)) (texts_after texts p.word) ps
    (numbers_rest words p ps h) in
    (t ∷ rest.0, (t, rest.0, refl, record { kind = k.1; gap = refl; place_is = refl }, rest.1))

tokens_exist : (ps : List Piece) → (ts : Tokens) × StandsFor ps ts
tokens_exist ps =
    let row = row_exists (names_of ps) the_start 0 ps (once_among (numbered_in ps)) in (
      record { list = row.0; names = map encode_utf8_all (names_of ps); texts = texts_of ps },
      record { list = row.1; names = refl; texts = refl },
    )

-- ---- a file that isn't UTF-8 has a longest front that is

never_true : (bytes : List ℕ) → is_utf8 bytes ≡ false → IsUtf8 bytes → ⊥
never_true bytes e u = let h = is_utf8-from_IsUtf8 bytes u in absurd cc

later_by : (bytes : List ℕ) (n : ℕ) → (IsUtf8 (take n bytes) → ⊥)
    → ((m : ℕ) → n < m → IsUtf8 (take m bytes) → ⊥) → (m : ℕ) → n ≤ m → IsUtf8 (take m bytes) → ⊥
later_by bytes n here later m l u =
    elim (cases_lt n m) [
      | inl s ↦ later m s u
      | inr s ↦ here (subst (λ k. IsUtf8 (take k bytes))
          (let e : m ≡ n = omega arith in e) u)
    ]

-- from n down
down : (bytes : List ℕ) (n : ℕ) → n ≤ length bytes → ((m : ℕ) → n ≤ m → IsUtf8 (take m bytes) → ⊥)
    → (whole : ℕ) × IsValidUpTo bytes whole
down bytes zero l h = absurd (h 0 (omega arith) IsUtf8-nil)
down bytes (suc n) l h = by (is_utf8 (take n bytes)) refl (λ k j. down bytes n k j)
  where
    by : (b : Bool) → is_utf8 (take n bytes) ≡ b
        → (n ≤ length bytes → ((m : ℕ) → n ≤ m → IsUtf8 (take m bytes) → ⊥)
        → (whole : ℕ) × IsValidUpTo bytes whole)
        → (whole : ℕ) × IsValidUpTo bytes whole
    by true e more = (
      n,
      record {
        short = omega arith;
        front = IsUtf8-from_is_utf8 (take n bytes) e;
        longest = λ m s. h m (omega arith);
      },
    )
    by false e more =
        more (omega arith)
        (later_by bytes n (never_true (take n bytes) e) (λ m s. h m (omega arith)))

front_exists : (bytes : List ℕ) → is_utf8 bytes ≡ false → (whole : ℕ) × IsValidUpTo bytes whole
front_exists bytes e =
    down bytes (length bytes) (omega arith)
    (λ m l u. never_true bytes e (subst IsUtf8 (take_all m bytes l) u))

-- ---- each file has a list of tokens, or breaks a rule

by_text : (bytes : List ℕ) → IsUtf8 bytes → IsReadable (chars bytes)
    → ((ts : Tokens) × HasTokens bytes ts)
    ⊎ ((r : Rule) × (place : Place) × BreaksRule bytes r place)
by_text bytes u (inl h) =
    let ts = tokens_exist h.0
    in inl (ts.0, record { utf8 = u; pieces = h.0; is = h.1; tokens = ts.1 })
by_text bytes u (inr (inl h)) = inr (h.0, h.1, fault u h.2)
by_text bytes u (inr (inr h)) = inr (TOO_MANY_TOKENS, h.0, too_many refl u h.1)

pub list_or_rule : (bytes : List ℕ)
    → ((ts : Tokens) × HasTokens bytes ts)
    ⊎ ((r : Rule) × (place : Place) × BreaksRule bytes r place)
list_or_rule bytes = by (is_utf8 bytes) refl
  where
    by : (b : Bool) → is_utf8 bytes ≡ b
        → ((ts : Tokens) × HasTokens bytes ts)
        ⊎ ((r : Rule) × (place : Place) × BreaksRule bytes r place)
    by true e = let u = IsUtf8-from_is_utf8 bytes e in by_text bytes u (one_exists (chars bytes))
    by false e =
        let f = front_exists bytes e in
        inr (
          NOT_UTF8,
          place_after the_start (chars (take f.0 bytes)),
          not_utf8 refl (record { whole = f.0; up_to = f.1; place_is = refl }),
        )
