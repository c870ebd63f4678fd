-- What the words of the tables are shown as.
use Rattle.std.specs.Prelude.{encode_utf8_all}
use Rattle.std.proofs.Common.{◌≡◌, ℕ, Bool, true, false, cond, ◌&&◌, ◌||◌, List, [], ◌∷◌, Option, None, Some, refl, sym, ap, subst, ◌∙◌}
use Rattle.std.specs.Option.{option_map_or}
use lib.Utf8
use Rattle.unicode_ident.specs.Ident.{is_xid_continue}
use Rattle.unicode_ident.proofs.Computing.{unicode_ident}
use Rattle.fort_lex_scan.specs.Lists.{same, is_among}
use Rattle.fort_lex_scan.specs.Tokens.{continues}
use Rattle.fort_lex_scan.proofs.Symbols.{same_is}
use Rattle.fort_ops.specs.declared.op.Op.{Op}
use Rattle.fort_ops.specs.declared.op.Op.TheVariants as an_op
use Rattle.fort_ops.specs.Spellings.{spellings}
use Rattle.fort_lex_token.specs.declared.reserved.Reserved.{Reserved}
use Rattle.fort_lex_token.specs.declared.reserved.Reserved.TheVariants as word
use Rattle.fort_lex_token.specs.declared.marks.Mark.{Mark}
use Rattle.fort_lex_token.specs.declared.marks.Mark.TheVariants as a_mark
use Rattle.fort_lex_token.specs.declared.token.Kind.{Kind}
use Rattle.fort_lex.specs.declared.meaning.Meaning.{Meaning}
use Rattle.fort_lex.specs.declared.meaning.Meaning.TheVariants as a_meaning
use Rattle.fort_lex.specs.declared.reserved.TheConstants.{WORDS}
use Rattle.fort_lex.specs.declared.marks.TheConstants.{MARKS}
use Rattle.fort_lex.specs.Spellings.{is_sign, word_ascii, word_sign, mark_ascii, mark_sign, spells_word, spells_mark, reserved_in, reserved_named, mark_in, mark_named, operator_in, operator_named, has_operator_form}
use Rattle.fort_lex.specs.Meanings.{meaning_of, is_numbered, KindFor}
use Rattle.fort_lex_canonical.specs.Canonical.{sign_or, word_text, mark_text, operator_text, op_text}
use Rattle.fort_lex_law_reread.proofs.Signs.{signs, and_both}

-- ---- the sign of a meaning

-- the Unicode spelling of an operator that has one
abbrev pub op_sign : Op → Option ℕ
op_sign an_op.Times = Some 215  -- ×
op_sign an_op.Dot = Some 183  -- ·
op_sign an_op.Ne = Some 8800  -- ≠
op_sign an_op.Le = Some 8804  -- ≤
op_sign an_op.Ge = Some 8805  -- ≥
op_sign an_op.Same = Some 8801  -- ≡
op_sign an_op.And = Some 8743  -- ∧
op_sign an_op.Or = Some 8744  -- ∨
op_sign an_op.Not = Some 172  -- ¬
op_sign _ = None

-- the sign that a meaning is shown as, where it has one
abbrev pub sign_of : Meaning → Option ℕ
sign_of (a_meaning.Word r) = word_sign r
sign_of (a_meaning.Mark m) = mark_sign m
sign_of (a_meaning.Op op) = op_sign op
sign_of a_meaning.OperatorWord = None
sign_of a_meaning.Name = None

-- the sign where there is one, else the word itself
abbrev pub sign_else : Option ℕ → List ℕ → List ℕ
sign_else (Some c) w = c ∷ []
sign_else None w = w

-- a sign means what it is shown for, and of the signs only the middle dot goes on a name
abbrev WordSign : Reserved → ℕ → Type 0
WordSign r c = (meaning_of (c ∷ []) ≡ a_meaning.Word r) × (is_among c signs ≡ true)
    × (is_xid_continue c ≡ false)

word_sign_means : (r : Reserved) (c : ℕ) → word_sign r ≡ Some c → WordSign r c
unfolding meaning_of reserved_named mark_named operator_named unicode_ident
word_sign_means word.Sum c h =
    let is : 8721 ≡ c = cc in subst (WordSign word.Sum) is (refl, refl, refl)
word_sign_means word.Prod c h =
    let is : 8719 ≡ c = cc in subst (WordSign word.Prod) is (refl, refl, refl)
word_sign_means _ c h = absurd cc

abbrev MarkSign : Mark → ℕ → Type 0
MarkSign m c = (meaning_of (c ∷ []) ≡ a_meaning.Mark m) × (is_among c signs ≡ true)
    × (is_xid_continue c ≡ false)

mark_sign_means : (m : Mark) (c : ℕ) → mark_sign m ≡ Some c → MarkSign m c
unfolding meaning_of reserved_named mark_named operator_named unicode_ident
mark_sign_means a_mark.OpenStatic c h =
    let is : 10214 ≡ c = cc in subst (MarkSign a_mark.OpenStatic) is (refl, refl, refl)
mark_sign_means a_mark.CloseStatic c h =
    let is : 10215 ≡ c = cc in subst (MarkSign a_mark.CloseStatic) is (refl, refl, refl)
mark_sign_means a_mark.LeftArrow c h =
    let is : 8592 ≡ c = cc in subst (MarkSign a_mark.LeftArrow) is (refl, refl, refl)
mark_sign_means a_mark.RightArrow c h =
    let is : 8594 ≡ c = cc in subst (MarkSign a_mark.RightArrow) is (refl, refl, refl)
mark_sign_means a_mark.DoubleArrow c h =
    let is : 8658 ≡ c = cc in subst (MarkSign a_mark.DoubleArrow) is (refl, refl, refl)
mark_sign_means _ c h = absurd cc

abbrev OpSign : Op → ℕ → Type 0
OpSign op c = (meaning_of (c ∷ []) ≡ a_meaning.Op op) × (is_among c signs ≡ true)

op_sign_means : (op : Op) (c : ℕ) → op_sign op ≡ Some c → OpSign op c
unfolding meaning_of reserved_named mark_named operator_named
op_sign_means an_op.Times c h = let is : 215 ≡ c = cc in subst (OpSign an_op.Times) is (refl, refl)
op_sign_means an_op.Dot c h = let is : 183 ≡ c = cc in subst (OpSign an_op.Dot) is (refl, refl)
op_sign_means an_op.Ne c h = let is : 8800 ≡ c = cc in subst (OpSign an_op.Ne) is (refl, refl)
op_sign_means an_op.Le c h = let is : 8804 ≡ c = cc in subst (OpSign an_op.Le) is (refl, refl)
op_sign_means an_op.Ge c h = let is : 8805 ≡ c = cc in subst (OpSign an_op.Ge) is (refl, refl)
op_sign_means an_op.Same c h = let is : 8801 ≡ c = cc in subst (OpSign an_op.Same) is (refl, refl)
op_sign_means an_op.And c h = let is : 8743 ≡ c = cc in subst (OpSign an_op.And) is (refl, refl)
op_sign_means an_op.Or c h = let is : 8744 ≡ c = cc in subst (OpSign an_op.Or) is (refl, refl)
op_sign_means an_op.Not c h = let is : 172 ≡ c = cc in subst (OpSign an_op.Not) is (refl, refl)
op_sign_means _ c h = absurd cc

-- ---- the tables

abbrev every_word : (Reserved → Bool) → List Reserved → Bool
every_word p [] = true
every_word p (r ∷ rs) = p r && every_word p rs

-- a word that is found in a table is spelled so, and passes what all rows pass
word_found : (p : Reserved → Bool) (rs : List Reserved) (w : List ℕ) (r : Reserved)
    → every_word p rs ≡ true → reserved_in rs w ≡ Some r → (p r ≡ true) × (spells_word r w ≡ true)
word_found p [] w r a h = absurd cc
word_found p (q ∷ rs) w r a h =
    let b = and_both (p q) (every_word p rs) a
    in by (spells_word q w) refl h b.0 (word_found p rs w r b.1)
  where
    by : (b : Bool) → spells_word q w ≡ b → cond b (Some q) (reserved_in rs w) ≡ Some r → p q ≡ true
        → (reserved_in rs w ≡ Some r → (p r ≡ true) × (spells_word r w ≡ true))
        → (p r ≡ true) × (spells_word r w ≡ true)
    by true e h a ih =
        let is : q ≡ r = cc in subst (λ s. (p s ≡ true) × (spells_word s w ≡ true)) is (a, e)
    by false e h a ih = ih h

abbrev every_mark : (Mark → Bool) → List Mark → Bool
every_mark p [] = true
every_mark p (m ∷ ms) = p m && every_mark p ms

mark_found : (p : Mark → Bool) (ms : List Mark) (w : List ℕ) (m : Mark) → every_mark p ms ≡ true
    → mark_in ms w ≡ Some m → (p m ≡ true) × (spells_mark m w ≡ true)
mark_found p [] w m a h = absurd cc
mark_found p (q ∷ ms) w m a h =
    let b = and_both (p q) (every_mark p ms) a
    in by (spells_mark q w) refl h b.0 (mark_found p ms w m b.1)
  where
    by : (b : Bool) → spells_mark q w ≡ b → cond b (Some q) (mark_in ms w) ≡ Some m → p q ≡ true
        → (mark_in ms w ≡ Some m → (p m ≡ true) × (spells_mark m w ≡ true))
        → (p m ≡ true) × (spells_mark m w ≡ true)
    by true e h a ih =
        let is : q ≡ m = cc in subst (λ s. (p s ≡ true) × (spells_mark s w ≡ true)) is (a, e)
    by false e h a ih = ih h

abbrev every_row : (Op → List ℕ → Bool) → List (Op × List ℕ) → Bool
every_row p [] = true
every_row p (q ∷ qs) = p q.0 q.1 && every_row p qs

row_found : (p : Op → List ℕ → Bool) (qs : List (Op × List ℕ)) (w : List ℕ) (op : Op)
    → every_row p qs ≡ true → operator_in qs w ≡ Some op → p op w ≡ true
row_found p [] w op a h = absurd cc
row_found p (q ∷ qs) w op a h =
    let b = and_both (p q.0 q.1) (every_row p qs) a
    in by (same q.1 w) refl h b.0 (row_found p qs w op b.1)
  where
    by : (b : Bool) → same q.1 w ≡ b → cond b (Some q.0) (operator_in qs w) ≡ Some op
        → p q.0 q.1 ≡ true → (operator_in qs w ≡ Some op → p op w ≡ true) → p op w ≡ true
    by true e h a ih =
        let is : q.0 ≡ op = cc
        in subst (λ o. p o w ≡ true) is (subst (λ v. p q.0 v ≡ true) (same_is q.1 w e) a)
    by false e h a ih = ih h

-- ---- what a meaning comes from

word_from : (r : Option Reserved) (m : Option Mark) (o : Option Op) (b : Bool) (x : Reserved)
    → option_map_or (λ r. a_meaning.Word r) r
    (option_map_or (λ m. a_meaning.Mark m) m
    (option_map_or (λ op. a_meaning.Op op) o (cond b a_meaning.OperatorWord a_meaning.Name)))
    ≡ a_meaning.Word x → r ≡ Some x
word_from (Some r) m o b x h = cc
word_from None (Some m) o b x h = absurd cc
word_from None None (Some y) b x h = absurd cc
word_from None None None true x h = absurd cc
word_from None None None false x h = absurd cc

mark_from : (r : Option Reserved) (m : Option Mark) (o : Option Op) (b : Bool) (x : Mark)
    → option_map_or (λ r. a_meaning.Word r) r
    (option_map_or (λ m. a_meaning.Mark m) m
    (option_map_or (λ op. a_meaning.Op op) o (cond b a_meaning.OperatorWord a_meaning.Name)))
    ≡ a_meaning.Mark x → m ≡ Some x
mark_from (Some r) m o b x h = absurd cc
mark_from None (Some m) o b x h = cc
mark_from None None (Some y) b x h = absurd cc
mark_from None None None true x h = absurd cc
mark_from None None None false x h = absurd cc

op_from : (r : Option Reserved) (m : Option Mark) (o : Option Op) (b : Bool) (x : Op)
    → option_map_or (λ r. a_meaning.Word r) r
    (option_map_or (λ m. a_meaning.Mark m) m
    (option_map_or (λ op. a_meaning.Op op) o (cond b a_meaning.OperatorWord a_meaning.Name)))
    ≡ a_meaning.Op x → o ≡ Some x
op_from (Some r) m o b x h = absurd cc
op_from None (Some m) o b x h = absurd cc
op_from None None (Some y) b x h = cc
op_from None None None true x h = absurd cc
op_from None None None false x h = absurd cc

word_row : (p : Reserved → Bool) (w : List ℕ) (r : Reserved) → every_word p WORDS ≡ true
    → meaning_of w ≡ a_meaning.Word r → (p r ≡ true) × (spells_word r w ≡ true)
unfolding meaning_of reserved_named
word_row p w r a h =
    word_found p WORDS w r a
    (word_from (reserved_named w) (mark_named w) (operator_named w) (has_operator_form w) r h)

mark_row : (p : Mark → Bool) (w : List ℕ) (m : Mark) → every_mark p MARKS ≡ true
    → meaning_of w ≡ a_meaning.Mark m → (p m ≡ true) × (spells_mark m w ≡ true)
unfolding meaning_of mark_named
mark_row p w m a h =
    mark_found p MARKS w m a
    (mark_from (reserved_named w) (mark_named w) (operator_named w) (has_operator_form w) m h)

op_row : (p : Op → List ℕ → Bool) (w : List ℕ) (op : Op) → every_row p spellings ≡ true
    → meaning_of w ≡ a_meaning.Op op → p op w ≡ true
unfolding meaning_of operator_named
op_row p w op a h =
    row_found p spellings w op a
    (op_from (reserved_named w) (mark_named w) (operator_named w) (has_operator_form w) op h)

-- ---- how a word of the tables is written

-- where the words are ASCII, as bytes
sign_text : (o : Option ℕ) (ascii w : List ℕ) → (same ascii w || is_sign o w) ≡ true
    → same (encode_utf8_all ascii) ascii ≡ true → sign_or o ascii ≡ encode_utf8_all (sign_else o w)
sign_text (Some c) ascii w h e = refl
sign_text None ascii w h e = by (same ascii w) refl h
  where
    by : (b : Bool) → same ascii w ≡ b → (b || false) ≡ true → ascii ≡ encode_utf8_all w
    by true f h =
        sym (same_is (encode_utf8_all ascii) ascii e) ∙ ap encode_utf8_all (same_is ascii w f)
    by false f h = absurd cc

-- the ASCII spellings are their own bytes
words_are_ascii : every_word (λ r. same (encode_utf8_all (word_ascii r)) (word_ascii r)) WORDS
    ≡ true
unfolding lib.Utf8.encode
words_are_ascii = refl

marks_are_ascii : every_mark (λ m. same (encode_utf8_all (mark_ascii m)) (mark_ascii m)) MARKS
    ≡ true
unfolding lib.Utf8.encode
marks_are_ascii = refl

abbrev is_plain : Op → Bool
is_plain (an_op.Word n) = false
is_plain _ = true

-- an operator is written by its sign, or as its row spells it
rows_are_written : every_row (λ op w. is_plain op
    && same (operator_text op) (encode_utf8_all (sign_else (op_sign op) w))) spellings ≡ true
unfolding lib.Utf8.encode
rows_are_written = refl

plain_text : (names : List (List ℕ)) (op : Op) → is_plain op ≡ true
    → op_text names op ≡ operator_text op
plain_text names (an_op.Word n) h = absurd cc
plain_text names _ h = refl

-- a word of the tables is written by its sign, or as it was spelled
pub word_written : (w : List ℕ) (r : Reserved) → meaning_of w ≡ a_meaning.Word r
    → word_text r ≡ encode_utf8_all (sign_else (word_sign r) w)
word_written w r h =
    let row =
    word_row (λ r. same (encode_utf8_all (word_ascii r)) (word_ascii r)) w r words_are_ascii h
    in
    sign_text (word_sign r) (word_ascii r) w row.1 row.0

pub mark_written : (w : List ℕ) (m : Mark) → meaning_of w ≡ a_meaning.Mark m
    → mark_text m ≡ encode_utf8_all (sign_else (mark_sign m) w)
mark_written w m h =
    let row =
    mark_row (λ m. same (encode_utf8_all (mark_ascii m)) (mark_ascii m)) w m marks_are_ascii h
    in
    sign_text (mark_sign m) (mark_ascii m) w row.1 row.0

pub op_written : (names : List (List ℕ)) (w : List ℕ) (op : Op) → meaning_of w ≡ a_meaning.Op op
    → op_text names op ≡ encode_utf8_all (sign_else (op_sign op) w)
op_written names w op h =
    let row =
    op_row (λ op w. is_plain op
    && same (operator_text op) (encode_utf8_all (sign_else (op_sign op) w))) w op
    rows_are_written h in
    let b = and_both (is_plain op)
    (same (operator_text op) (encode_utf8_all (sign_else (op_sign op) w))) row in
    plain_text names op b.0
    ∙ same_is (operator_text op) (encode_utf8_all (sign_else (op_sign op) w)) b.1

-- ---- what is known of a sign in a word's place

-- the middle dot stands for words that go on a name themselves: `·` and `DOT`
abbrev dot_ok : Op → List ℕ → Bool
dot_ok an_op.Dot w = continues w
dot_ok _ w = true

dots_ok : every_row dot_ok spellings ≡ true
unfolding unicode_ident
dots_ok = refl

dot_goes_on : (w : List ℕ) (op : Op) (c : ℕ) → op_sign op ≡ Some c → dot_ok op w ≡ true
    → is_xid_continue c ≡ true → continues w ≡ true
unfolding unicode_ident
dot_goes_on w an_op.Dot c h d x = d
dot_goes_on w an_op.Times c h d x =
    let is : 215 ≡ c = cc in let k = subst (λ z. is_xid_continue z ≡ true) (sym is) x in absurd cc
dot_goes_on w an_op.Ne c h d x =
    let is : 8800 ≡ c = cc in let k = subst (λ z. is_xid_continue z ≡ true) (sym is) x in absurd cc
dot_goes_on w an_op.Le c h d x =
    let is : 8804 ≡ c = cc in let k = subst (λ z. is_xid_continue z ≡ true) (sym is) x in absurd cc
dot_goes_on w an_op.Ge c h d x =
    let is : 8805 ≡ c = cc in let k = subst (λ z. is_xid_continue z ≡ true) (sym is) x in absurd cc
dot_goes_on w an_op.Same c h d x =
    let is : 8801 ≡ c = cc in let k = subst (λ z. is_xid_continue z ≡ true) (sym is) x in absurd cc
dot_goes_on w an_op.And c h d x =
    let is : 8743 ≡ c = cc in let k = subst (λ z. is_xid_continue z ≡ true) (sym is) x in absurd cc
dot_goes_on w an_op.Or c h d x =
    let is : 8744 ≡ c = cc in let k = subst (λ z. is_xid_continue z ≡ true) (sym is) x in absurd cc
dot_goes_on w an_op.Not c h d x =
    let is : 172 ≡ c = cc in let k = subst (λ z. is_xid_continue z ≡ true) (sym is) x in absurd cc
dot_goes_on w _ c h d x = absurd cc

-- A word with that meaning is shown as the sign c.
pub record ShowsAs (w : List ℕ) (c : ℕ) : Type 0 where
  pub means : meaning_of (c ∷ []) ≡ meaning_of w
  pub among_is : is_among c signs ≡ true
  pub goes_on : is_xid_continue c ≡ true → continues w ≡ true
  pub plain : is_numbered (meaning_of w) ≡ false

never_on : (c : ℕ) (w : List ℕ) → is_xid_continue c ≡ false → is_xid_continue c ≡ true
    → continues w ≡ true
never_on c w h k = absurd cc

-- a word whose meaning has a sign is shown as it
pub shows_as : (w : List ℕ) (c : ℕ) → sign_of (meaning_of w) ≡ Some c → ShowsAs w c
shows_as w c h = by (meaning_of w) refl h
  where
    by : (m : Meaning) → meaning_of w ≡ m → sign_of m ≡ Some c → ShowsAs w c
    by (a_meaning.Word r) e h =
        let s = word_sign_means r c h in
        record {
          means = s.0 ∙ sym e;
          among_is = s.1;
          goes_on = never_on c w s.2;
          plain = ap is_numbered e;
        }
    by (a_meaning.Mark m) e h =
        let s = mark_sign_means m c h in
        record {
          means = s.0 ∙ sym e;
          among_is = s.1;
          goes_on = never_on c w s.2;
          plain = ap is_numbered e;
        }
    by (a_meaning.Op op) e h =
        let s = op_sign_means op c h in
        record {
          means = s.0 ∙ sym e;
          among_is = s.1;
          goes_on = dot_goes_on w op c h (op_row dot_ok w op dots_ok e);
          plain = ap is_numbered e;
        }
    by a_meaning.OperatorWord e h = absurd cc
    by a_meaning.Name e h = absurd cc

-- a kind of the tables has nothing to do with how it is spelled
pub kind_any : (words : List (List ℕ)) (w v : List ℕ) (m : Meaning) (k : Kind)
    → is_numbered m ≡ false → KindFor words w m k → KindFor words v m k
kind_any words w v (a_meaning.Word r) k n h = h
kind_any words w v (a_meaning.Mark m) k n h = h
kind_any words w v (a_meaning.Op op) k n h = h
kind_any words w v a_meaning.OperatorWord k n h = absurd cc
kind_any words w v a_meaning.Name k n h = absurd cc
