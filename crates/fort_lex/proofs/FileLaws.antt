-- Token lists that grow by one token.
use Rattle.std.proofs.Common.{◌≡◌, ℕ, suc, ◌+◌, ◌≤◌, Bool, true, false, cond, ◌||◌, List, [], ◌∷◌, ◌++◌, length, refl, sym, ap, subst, ◌∙◌, arith}
use Rattle.std.specs.Prelude.{encode_utf8_all}
use Rattle.std.proofs.lemmas.List.{append-nil, length-map}
use Rattle.fort_base.specs.declared.refusal.Place.{Place}
use Rattle.fort_lex_scan.specs.Lists.{same, among}
use Rattle.fort_lex_scan.specs.Places.{place_after, the_start, gap_kind}
use Rattle.fort_lex_scan.specs.Tokens.{Piece}
use Rattle.fort_lex_scan.specs.declared.word.Shape.{Shape}
use Rattle.fort_lex_scan.specs.declared.word.Shape.TheVariants as shape
use Rattle.fort_lex_scan.specs.Words.{shape_of}
use Rattle.fort_lex_scan.proofs.Symbols.{same_is}
use Rattle.fort_lex.specs.declared.builder.Builder.{Builder}
use Rattle.fort_lex_token.specs.declared.token.Kind.{Kind}
use Rattle.fort_lex_token.specs.declared.token.Token.{Token}
use Rattle.fort_lex.specs.Meanings.{meaning_of, has_number, is_text_word, MeansShape, Means, said}
use Rattle.fort_lex.specs.Files.{without, once, numbered_in, names_of, texts_of, texts_after, IsTokenOf, AreTokens, StandsFor}
use Rattle.fort_lex.specs.Building.{HoldsNames, with_word, end_of, Holds, AddsWord}
use Rattle.fort_lex.proofs.NameLaws.{kind_keep}

-- ---- each name once

without_last : (w v : List ℕ) (ws : List (List ℕ))
    → without w (ws ++ v ∷ []) ≡ without w ws ++ cond (same w v) [] (v ∷ [])
without_last w v [] = by (same w v)
  where
    by : (b : Bool) → cond b [] (v ∷ []) ≡ cond b [] (v ∷ [])
    by b = refl
without_last w v (u ∷ ws) = by (same w u) (without_last w v ws)
  where
    by : (b : Bool) → without w (ws ++ v ∷ []) ≡ without w ws ++ cond (same w v) [] (v ∷ [])
        → cond b (without w (ws ++ v ∷ [])) (u ∷ without w (ws ++ v ∷ []))
        ≡ cond b (without w ws) (u ∷ without w ws) ++ cond (same w v) [] (v ∷ [])
    by true ih = ih
    by false ih = ap (λ t. u ∷ t) ih

same_other : (u v w : List ℕ) → same u v ≡ true → same u w ≡ false → same v w ≡ false
same_other u v w h k = subst (λ t. same t w ≡ false) (same_is u v h) k

among_without : (u w : List ℕ) (ws : List (List ℕ)) → same u w ≡ false
    → among (without u ws) w ≡ among ws w
among_without u w [] e = refl
among_without u w (v ∷ ws) e = by (same u v) refl (among_without u w ws e)
  where
    by : (b : Bool) → same u v ≡ b → among (without u ws) w ≡ among ws w
        → among (cond b (without u ws) (v ∷ without u ws)) w ≡ (same v w || among ws w)
    by true h ih = rw (same_other u v w h e) ih
    by false h ih = ap (λ b. same v w || b) ih

once_last : (ws : List (List ℕ)) (w : List ℕ) → once (ws ++ w ∷ []) ≡ with_word (once ws) w true
once_last [] w = refl
once_last (v ∷ ws) w =
    ap (λ t. v ∷ without v t) (once_last ws w) ∙ by (same v w) (among (once ws) w) refl refl
  where
    by : (p q : Bool) → same v w ≡ p → among (once ws) w ≡ q
        → v ∷ without v (cond q (once ws) (once ws ++ w ∷ []))
        ≡ cond (p
        || among (without v (once ws)) w) (v ∷ without v (once ws))
        (v ∷ (without v (once ws) ++ w ∷ []))
    by true true e f = refl
    by true false e f =
        ap (λ t. v ∷ t) (without_last v w (once ws) ∙ rw e (append-nil (without v (once ws))))
    by false true e f = rw (among_without v w (once ws) e ∙ f) refl
    by false false e f =
        rw (among_without v w (once ws) e
        ∙ f) (ap (λ t. v ∷ t) (without_last v w (once ws) ∙ rw e refl))

numbered_last : (ps : List Piece) (p : Piece)
    → numbered_in (ps ++ p ∷ []) ≡ numbered_in ps ++ cond (has_number p.word) (p.word ∷ []) []
numbered_last [] p = refl
numbered_last (q ∷ ps) p = by (has_number q.word) (numbered_last ps p)
  where
    by : (b : Bool)
        → numbered_in (ps ++ p ∷ []) ≡ numbered_in ps ++ cond (has_number p.word) (p.word ∷ []) []
        → cond b (q.word ∷ numbered_in (ps ++ p ∷ [])) (numbered_in (ps ++ p ∷ []))
        ≡ cond b (q.word ∷ numbered_in ps) (numbered_in ps)
        ++ cond (has_number p.word) (p.word ∷ []) []
    by true ih = ap (λ t. q.word ∷ t) ih
    by false ih = ih

pub names_last : (ps : List Piece) (p : Piece)
    → names_of (ps ++ p ∷ []) ≡ with_word (names_of ps) p.word (has_number p.word)
names_last ps p = ap once (numbered_last ps p) ∙ by (has_number p.word)
  where
    by : (b : Bool)
        → once (numbered_in ps ++ cond b (p.word ∷ []) []) ≡ with_word (names_of ps) p.word b
    by true = once_last (numbered_in ps) p.word
    by false = ap once (append-nil (numbered_in ps))

texts_last : (ps : List Piece) (p : Piece)
    → texts_of (ps ++ p ∷ [])
    ≡ texts_of ps ++ cond (is_text_word p.word) (encode_utf8_all (said p.word) ∷ []) []
texts_last [] p = refl
texts_last (q ∷ ps) p = by (is_text_word q.word) (texts_last ps p)
  where
    by : (b : Bool)
        → texts_of (ps ++ p ∷ [])
        ≡ texts_of ps ++ cond (is_text_word p.word) (encode_utf8_all (said p.word) ∷ []) []
        → cond b (encode_utf8_all (said q.word) ∷ texts_of (ps ++ p ∷ [])) (texts_of (ps ++ p ∷ []))
        ≡ cond b (encode_utf8_all (said q.word) ∷ texts_of ps) (texts_of ps)
        ++ cond (is_text_word p.word) (encode_utf8_all (said p.word) ∷ []) []
    by true ih = ap (λ t. encode_utf8_all (said q.word) ∷ t) ih
    by false ih = ih

-- ---- tokens under more words

means_keep : (words more : List (List ℕ)) (texts : ℕ) (w : List ℕ) (s : Shape) (k : Kind)
    → MeansShape words texts w s k → MeansShape (words ++ more) texts w s k
means_keep words more texts w (shape.Number n) k h = h
means_keep words more texts w shape.Text k h = h
means_keep words more texts w shape.Name k h = kind_keep words more w (meaning_of w) k h
means_keep words more texts w shape.Symbol k h = kind_keep words more w (meaning_of w) k h

are_keep : (words more : List (List ℕ)) (place : Place) (texts : ℕ) (ps : List Piece)
    (ts : List Token) → AreTokens words place texts ps ts
    → AreTokens (words ++ more) place texts ps ts
are_keep words more place texts [] ts h = h
are_keep words more place texts (p ∷ ps) ts h =
    let t = h.3 in (
      h.0,
      h.1,
      h.2,
      record {
        kind = means_keep words more texts p.word (shape_of p.word) h.0.kind t.kind;
        gap = t.gap;
        place_is = t.place_is;
      },
      are_keep words more (place_after place (p.gap ++ p.word)) (texts_after texts p.word) ps h.1
          h.4,
    )

are_grow : (words : List (List ℕ)) (w : List ℕ) (b c : Bool) (place : Place) (texts : ℕ)
    (ps : List Piece) (ts : List Token) → AreTokens words place texts ps ts
    → AreTokens (cond b (cond c words (words ++ w ∷ [])) words) place texts ps ts
are_grow words w true true place texts ps ts h = h
are_grow words w true false place texts ps ts h = are_keep words (w ∷ []) place texts ps ts h
are_grow words w false c place texts ps ts h = h

-- ---- one more token

abbrev pub count : ℕ → List Piece → ℕ
count texts [] = texts
count texts (p ∷ ps) = count (texts_after texts p.word) ps

are_last : (words : List (List ℕ)) (place : Place) (texts : ℕ) (ps : List Piece) (ts : List Token)
    (p : Piece) (t : Token) → AreTokens words place texts ps ts
    → IsTokenOf words (end_of place ps) (count texts ps) p t
    → AreTokens words place texts (ps ++ p ∷ []) (ts ++ t ∷ [])
are_last words place texts [] ts p t h i = (t, [], ap (λ u. u ++ t ∷ []) h, i, refl)
are_last words place texts (q ∷ ps) ts p t h i = (
  h.0,
  h.1 ++ t ∷ [],
  ap (λ u. u ++ t ∷ []) h.2,
  h.3,
  are_last words (place_after place (q.gap ++ q.word)) (texts_after texts q.word) ps h.1 p
      t h.4 i,
)

count_is : (texts : ℕ) (ps : List Piece) → count texts ps ≡ texts + length (texts_of ps)
count_is texts [] = omega arith
count_is texts (p ∷ ps) = by (is_text_word p.word) (λ n. count_is n ps)
  where
    by : (b : Bool) → ((n : ℕ) → count n ps ≡ n + length (texts_of ps))
        → count (cond b (texts + 1) texts) ps
        ≡ texts + length (cond b (encode_utf8_all (said p.word) ∷ texts_of ps) (texts_of ps))
    by true ih = let h = ih (texts + 1) in omega arith
    by false ih = ih texts

end_last : (place : Place) (ps : List Piece) (p : Piece)
    → end_of place (ps ++ p ∷ []) ≡ place_after (end_of place ps) (p.gap ++ p.word)
end_last place [] p = refl
end_last place (q ∷ ps) p = end_last (place_after place (q.gap ++ q.word)) ps p

pub place_append : (xs ys : List ℕ) (place : Place)
    → place_after place (xs ++ ys) ≡ place_after (place_after place xs) ys
place_append [] ys place = refl
place_append (x ∷ xs) ys place = place_append xs ys _

-- ---- what the builder holds

pub holds_last : (ps : List Piece) (old mid new : Builder) (gap w : List ℕ) (k : Kind)
    → Holds ps old → AddsWord old mid w k
    → new.list
    ≡ mid.list ++ record { kind = k; gap = gap_kind gap; place = place_after mid.place gap } ∷ []
    → new.texts ≡ mid.texts → new.names ≡ mid.names
    → new.place ≡ place_after (place_after mid.place gap) w
    → Holds (ps ++ record { gap = gap; word = w } ∷ []) new
holds_last ps old mid new gap w k h a list texts names place =
    let p : Piece = record { gap = gap; word = w } in
    let words = with_word (names_of ps) w (has_number w) in
    let words_are : names_of (ps ++ p ∷ []) ≡ words = names_last ps p in
    let t : Token = record { kind = k; gap = gap_kind gap; place = place_after mid.place gap } in
    let texts_before : length old.texts ≡ count 0 ps =
    ap length h.texts ∙ sym (count_is 0 ps ∙ omega arith) in
    let at_end : mid.place ≡ end_of the_start ps = a.place ∙ h.place in
    let is : IsTokenOf words (end_of the_start ps) (count 0 ps) p t = record {
      kind = subst (λ n. Means words n w k) texts_before (a.means (names_of ps) h.names);
      gap = refl;
      place_is = ap (λ q. place_after q gap) at_end;
    } in
    let grown =
    are_grow (names_of ps) w (has_number w) (among (names_of ps) w) the_start 0 ps old.list
    h.list in
    let all = are_last words the_start 0 ps old.list p t grown is in
    let list_is : new.list ≡ old.list ++ t ∷ [] = list ∙ ap (λ u. u ++ t ∷ []) a.list in
    record {
      list = subst (λ ws. AreTokens ws the_start 0 (ps ++ p ∷ []) new.list) (sym words_are)
          (subst (AreTokens words the_start 0 (ps ++ p ∷ [])) (sym list_is) all);
      names = subst (λ ws. HoldsNames ws new.names) (sym words_are)
          (subst (HoldsNames words) (sym names) (a.names (names_of ps) h.names));
      texts = texts ∙ a.texts
          ∙ ap (λ u. u ++ cond (is_text_word w) (encode_utf8_all (said w) ∷ []) []) h.texts
          ∙ sym (texts_last ps p);
      place = place ∙ ap (λ q. place_after (place_after q gap) w) at_end
          ∙ sym (place_append gap w (end_of the_start ps)) ∙ sym (end_last the_start ps p);
    }

-- ---- lengths

without_shorter : (w : List ℕ) (ws : List (List ℕ)) → length (without w ws) ≤ length ws
without_shorter w [] = omega arith
without_shorter w (v ∷ ws) = by (same w v) (without_shorter w ws)
  where
    by : (b : Bool) → length (without w ws) ≤ length ws
        → length (cond b (without w ws) (v ∷ without w ws)) ≤ suc (length ws)
    by true h = omega arith
    by false h = omega arith

once_shorter : (ws : List (List ℕ)) → length (once ws) ≤ length ws
once_shorter [] = omega arith
once_shorter (w ∷ ws) =
    let a = once_shorter ws in let b = without_shorter w (once ws) in omega arith

numbered_shorter : (ps : List Piece) → length (numbered_in ps) ≤ length ps
numbered_shorter [] = omega arith
numbered_shorter (p ∷ ps) = by (has_number p.word) (numbered_shorter ps)
  where
    by : (b : Bool) → length (numbered_in ps) ≤ length ps
        → length (cond b (p.word ∷ numbered_in ps) (numbered_in ps)) ≤ suc (length ps)
    by true h = omega arith
    by false h = omega arith

pub names_shorter : (ps : List Piece) → length (names_of ps) ≤ length ps
names_shorter ps =
    let a = once_shorter (numbered_in ps) in let b = numbered_shorter ps in omega arith

pub texts_shorter : (ps : List Piece) → length (texts_of ps) ≤ length ps
texts_shorter [] = omega arith
texts_shorter (p ∷ ps) = by (is_text_word p.word) (texts_shorter ps)
  where
    by : (b : Bool) → length (texts_of ps) ≤ length ps
        → length (cond b (encode_utf8_all (said p.word) ∷ texts_of ps) (texts_of ps))
        ≤ suc (length ps)
    by true h = omega arith
    by false h = omega arith

pub length_tokens : (words : List (List ℕ)) (place : Place) (texts : ℕ) (ps : List Piece)
    (ts : List Token) → AreTokens words place texts ps ts → length ts ≡ length ps
length_tokens words place texts [] ts h = ap length h
length_tokens words place texts (p ∷ ps) ts h =
    let e = ap length h.2
    in let f =
    length_tokens words (place_after place (p.gap ++ p.word)) (texts_after texts p.word) ps h.1
    h.4 in omega arith

pub lengths : (ps : List Piece) (b : Builder) → Holds ps b
    → (length b.list ≡ length ps) × (length b.texts ≤ length ps)
    × (length b.names.names ≤ length ps)
lengths ps b h =
    let a = length_tokens (names_of ps) the_start 0 ps b.list h.list in
    let t = ap length h.texts in
    let n = ap length h.names.names in
    let m = length-map (names_of ps) encode_utf8_all in
    let x = names_shorter ps in
    let y = texts_shorter ps in (a, omega arith, omega arith)

pub finished : (ps : List Piece) (b : Builder) → Holds ps b
    → StandsFor ps (record { list = b.list; names = b.names.names; texts = b.texts })
finished ps b h = record { list = h.list; names = h.names.names; texts = h.texts }
