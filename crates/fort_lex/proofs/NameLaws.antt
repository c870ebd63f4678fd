-- The numbers of names, and what the map of known words holds.
use Rattle.std.proofs.Common.{◌≡◌, ℕ, zero, suc, Bool, true, false, cond, ◌||◌, List, [], ◌∷◌, ◌++◌, length, map, None, Some, refl, sym, ap, subst, ◌∙◌}
use Rattle.std.specs.Prelude.{slice_get, encode_utf8_all}
use Rattle.std.specs.Str.{bytes_eq}
use Rattle.std.specs.Cmp.Lexicographic.{bytes_decides}
use Rattle.std.proofs.lemmas.List.{append-nil, map-append, length-map}
use Rattle.fort_lex_scan.specs.Lists.{same, among}
use Rattle.fort_lex_scan.proofs.Symbols.{same_is, same_refl}
use Rattle.fort_lex.specs.declared.names.NameTable.{NameTable}
use Rattle.fort_lex.specs.declared.meaning.Meaning.{Meaning}
use Rattle.fort_lex.specs.declared.meaning.Meaning.TheVariants as a_meaning
use Rattle.fort_lex_token.specs.declared.token.Kind.{Kind}
use Rattle.fort_lex.specs.Meanings.{meaning_of, is_numbered, KindFor}
use Rattle.fort_lex.specs.Building.{HoldsNames, KindAt, known_kind, with_word, words_with}

-- ---- words among words

pub or_true : (b : Bool) → (b || true) ≡ true
or_true true = refl
or_true false = refl

pub among_last : (ws : List (List ℕ)) (w : List ℕ) → among (ws ++ w ∷ []) w ≡ true
among_last [] w = rw (same_refl w) refl
among_last (v ∷ ws) w = rw (among_last ws w) (or_true (same v w))

pub among_other : (ws : List (List ℕ)) (w v : List ℕ) → same w v ≡ false
    → among (ws ++ w ∷ []) v ≡ among ws v
among_other [] w v e = rw e refl
among_other (u ∷ ws) w v e = ap (λ b. same u v || b) (among_other ws w v e)

pub get_keep : (ws more : List (List ℕ)) (n : ℕ) (w : List ℕ) → slice_get ws n ≡ Some w
    → slice_get (ws ++ more) n ≡ Some w
get_keep [] more n w h = absurd cc
get_keep (v ∷ ws) more zero w h = h
get_keep (v ∷ ws) more (suc n) w h = get_keep ws more n w h

pub get_last : (ws : List (List ℕ)) (w : List ℕ) → slice_get (ws ++ w ∷ []) (length ws) ≡ Some w
get_last [] w = refl
get_last (v ∷ ws) w = get_last ws w

pub get_among : (ws : List (List ℕ)) (n : ℕ) (w : List ℕ) → slice_get ws n ≡ Some w
    → among ws w ≡ true
get_among [] n w h = absurd cc
get_among (v ∷ ws) zero w h = let is : v ≡ w = cc in rw is (rw (same_refl w) refl)
get_among (v ∷ ws) (suc n) w h = rw (get_among ws n w h) (or_true (same v w))

-- ---- kinds under more words

pub kind_keep : (words more : List (List ℕ)) (w : List ℕ) (m : Meaning) (k : Kind)
    → KindFor words w m k → KindFor (words ++ more) w m k
kind_keep words more w (a_meaning.Word r) k h = h
kind_keep words more w (a_meaning.Mark m) k h = h
kind_keep words more w (a_meaning.Op op) k h = h
kind_keep words more w a_meaning.OperatorWord k h = (h.0, get_keep words more h.0 w h.1, h.2)
kind_keep words more w a_meaning.Name k h = (h.0, get_keep words more h.0 w h.1, h.2)

with_among : (words : List (List ℕ)) (w : List ℕ) → among words w ≡ true
    → with_word words w true ≡ words
with_among words w h = rw h refl

with_new : (words : List (List ℕ)) (w : List ℕ) → among words w ≡ false
    → with_word words w true ≡ words ++ w ∷ []
with_new words w h = rw h refl

-- a word that has a kind adds nothing
with_same : (words : List (List ℕ)) (w : List ℕ) (m : Meaning) (k : Kind) → KindFor words w m k
    → with_word words w (is_numbered m) ≡ words
with_same words w (a_meaning.Word r) k h = refl
with_same words w (a_meaning.Mark m) k h = refl
with_same words w (a_meaning.Op op) k h = refl
with_same words w a_meaning.OperatorWord k h = with_among words w (get_among words h.0 w h.1)
with_same words w a_meaning.Name k h = with_among words w (get_among words h.0 w h.1)

-- a word that isn't there yet gets the next number
new_kind : (words : List (List ℕ)) (w : List ℕ) (m : Meaning) (k : Kind) → among words w ≡ false
    → KindAt (length words) m k → KindFor (with_word words w (is_numbered m)) w m k
new_kind words w (a_meaning.Word r) k n h = h
new_kind words w (a_meaning.Mark m) k n h = h
new_kind words w (a_meaning.Op op) k n h = h
new_kind words w a_meaning.OperatorWord k n h =
    rw (with_new words w n) (length words, get_last words w, h)
new_kind words w a_meaning.Name k n h = rw (with_new words w n) (length words, get_last words w, h)

kind_grows : (words : List (List ℕ)) (w v : List ℕ) (b : Bool) (c : Bool) → among words w ≡ c
    → (m : Meaning) (k : Kind) → KindFor words v m k
    → KindFor (cond b (cond c words (words ++ w ∷ [])) words) v m k
kind_grows words w v true true e m k h = h
kind_grows words w v true false e m k h = kind_keep words (w ∷ []) v m k h
kind_grows words w v false c e m k h = h

names_grow : (words : List (List ℕ)) (w : List ℕ) (names : List (List ℕ)) (b : Bool)
    → among words w ≡ false → names ≡ map encode_utf8_all words
    → names ++ cond b (encode_utf8_all w ∷ []) [] ≡ map encode_utf8_all (with_word words w b)
names_grow words w names true n h =
    rw (with_new words w n) (ap (λ t. t ++ encode_utf8_all w ∷ []) h
    ∙ sym (map-append encode_utf8_all words (w ∷ [])))
names_grow words w names false n h = append-nil names ∙ h

other_word : (w v : List ℕ) → bytes_eq w v ≡ false → (b : Bool) → same w v ≡ b → b ≡ false
other_word w v e true h = let is = same_is w v h in let k = (bytes_decides w v).1 is in absurd cc
other_word w v e false h = refl

none_grows : (words : List (List ℕ)) (w v : List ℕ) (b : Bool) → among words w ≡ false
    → bytes_eq w v ≡ false → among words v ≡ false → among (with_word words w b) v ≡ false
none_grows words w v true n e h =
    rw (with_new words w n) (among_other words w v (other_word w v e (same w v) refl) ∙ h)
none_grows words w v false n e h = h

-- ---- what the names hold

pub known_kind_is : (words : List (List ℕ)) (names : NameTable) (w : List ℕ) (k : Kind)
    → HoldsNames words names → known_kind names w ≡ Some k
    → KindFor (words_with words w) w (meaning_of w) k
known_kind_is words names w k h e =
    let f = h.sound w k e
    in subst (λ t. KindFor t w (meaning_of w) k) (sym (with_same words w (meaning_of w) k f)) f

pub known_held : (words : List (List ℕ)) (names : NameTable) (w : List ℕ) (k : Kind)
    → HoldsNames words names → known_kind names w ≡ Some k → HoldsNames (words_with words w) names
known_held words names w k h e =
    subst (λ t. HoldsNames t names) (sym (with_same words w (meaning_of w) k (h.sound w k e))) h

length_names : (words : List (List ℕ)) (names : NameTable) → HoldsNames words names
    → length names.names ≡ length words
length_names words names h = ap length h.names ∙ length-map words encode_utf8_all

pub new_kind_is : (words : List (List ℕ)) (names : NameTable) (w : List ℕ) (k : Kind)
    → HoldsNames words names → known_kind names w ≡ None
    → KindAt (length names.names) (meaning_of w) k
    → KindFor (words_with words w) w (meaning_of w) k
new_kind_is words names w k h e a =
    new_kind words w (meaning_of w) k (h.complete w e)
    (subst (λ n. KindAt n (meaning_of w) k) (length_names words names h) a)

sound_by : (words : List (List ℕ)) (names : NameTable) (w v : List ℕ) (k l : Kind)
    → HoldsNames words names → KindFor (words_with words w) w (meaning_of w) k
    → (b : Bool) → bytes_eq w v ≡ b → cond b (Some k) (known_kind names v) ≡ Some l
    → KindFor (words_with words w) v (meaning_of v) l
sound_by words names w v k l h f true e i =
    let is : w ≡ v = (bytes_decides w v).0 e in
    let same_kind : k ≡ l = cc in
    subst (λ t. KindFor (words_with words w) v (meaning_of v) t) same_kind
    (subst (λ t. KindFor (words_with words w) t (meaning_of t) k) is f)
sound_by words names w v k l h f false e i =
    kind_grows words w v (is_numbered (meaning_of w)) (among words w) refl (meaning_of v) l
    (h.sound v l i)

complete_by : (words : List (List ℕ)) (names : NameTable) (w v : List ℕ) (k : Kind)
    → HoldsNames words names → among words w ≡ false
    → (b : Bool) → bytes_eq w v ≡ b → cond b (Some k) (known_kind names v) ≡ None
    → among (words_with words w) v ≡ false
complete_by words names w v k h n true e i = absurd cc
complete_by words names w v k h n false e i =
    none_grows words w v (is_numbered (meaning_of w)) n e (h.complete v i)

pub new_held : (words : List (List ℕ)) (old new : NameTable) (w : List ℕ) (k : Kind)
    → HoldsNames words old → known_kind old w ≡ None → KindAt (length old.names) (meaning_of w) k
    → new.names ≡ old.names ++ cond (is_numbered (meaning_of w)) (encode_utf8_all w ∷ []) []
    → ((v : List ℕ) → known_kind new v ≡ cond (bytes_eq w v) (Some k) (known_kind old v))
    → HoldsNames (words_with words w) new
new_held words old new w k h e a names known =
    let n = h.complete w e in
    let is = new_kind_is words old w k h e a in
    record {
      names = names ∙ names_grow words w old.names (is_numbered (meaning_of w)) n h.names;
      sound = λ v l i. sound_by words old w v k l h is (bytes_eq w v) refl (sym (known v) ∙ i);
      complete = λ v i. complete_by words old w v k h n (bytes_eq w v) refl (sym (known v) ∙ i);
    }
