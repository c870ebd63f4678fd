-- A file's tokens are the only ones.
use Rattle.std.proofs.Common.{◌≡◌, ℕ, zero, suc, Bool, true, false, cond, not, ◌&&◌, ◌||◌, List, [], ◌∷◌, ◌++◌, length, Some, refl, sym, ap, subst, ◌∙◌, arith}
use Rattle.std.specs.Prelude.{slice_get}
use Rattle.std.specs.Str.{IsUtf8, IsValidUpTo}
use Rattle.std.proofs.lemmas.List.{take_all}
use Rattle.fort_base.specs.declared.refusal.Gap.{Gap}
use Rattle.fort_base.specs.declared.refusal.Place.{Place}
use Rattle.fort_base.specs.declared.refusal.Rule.{Rule}
use Rattle.fort_lex_scan.specs.Lists.{same, among}
use Rattle.fort_lex_scan.specs.Places.{place_after}
use Rattle.fort_lex_scan.specs.Tokens.{Piece}
use Rattle.fort_lex_scan.specs.declared.word.Shape.{Shape}
use Rattle.fort_lex_scan.specs.declared.word.Shape.TheVariants as shape
use Rattle.fort_lex_scan.specs.Words.{shape_of}
use Rattle.fort_lex_scan.proofs.Symbols.{same_is, same_refl}
use Rattle.fort_lex_scan.proofs.Theorem.{one_list, list_few}
use Rattle.fort_ops.specs.declared.op.Op.TheVariants as an_op
use Rattle.fort_lex.specs.declared.meaning.Meaning.{Meaning}
use Rattle.fort_lex.specs.declared.meaning.Meaning.TheVariants as a_meaning
use Rattle.fort_lex_token.specs.declared.token.Kind.{Kind}
use Rattle.fort_lex_token.specs.declared.token.Kind.TheVariants as kind
use Rattle.fort_lex_token.specs.declared.token.Token.{Token}
use Rattle.fort_lex_token.specs.declared.token.Tokens.{Tokens}
use Rattle.fort_lex.specs.Meanings.{meaning_of, KindFor, MeansShape}
use Rattle.fort_lex.specs.Files.{without, once, numbered_in, names_of, texts_after, IsTokenOf, AreTokens, StandsFor, HasTokens, BreaksRule, not_utf8, too_many, fault}
use Rattle.fort_lex.proofs.NameLaws.{get_among, or_true}

-- ---- a word has one number

-- no word stands twice
abbrev distinct : List (List ℕ) → Bool
distinct [] = true
distinct (w ∷ ws) = not (among ws w) && distinct ws

and_both : (p q : Bool) → (p && q) ≡ true → (p ≡ true) × (q ≡ true)
and_both true q h = (refl, h)
and_both false q h = absurd cc

among_fewer : (u w : List ℕ) (ws : List (List ℕ)) → among (without u ws) w ≡ true
    → among ws w ≡ true
among_fewer u w [] h = h
among_fewer u w (v ∷ ws) h = by (same u v) (same v w) h (among_fewer u w ws)
  where
    by : (b c : Bool) → among (cond b (without u ws) (v ∷ without u ws)) w ≡ true
        → (among (without u ws) w ≡ true → among ws w ≡ true) → (same v w || among ws w) ≡ true
    by true c h ih = rw (ih h) (or_true (same v w))
    by false c h ih = of (same v w) h
      where
        of : (d : Bool) → (d || among (without u ws) w) ≡ true → (d || among ws w) ≡ true
        of true h = refl
        of false h = ih h

not_among : (u w : List ℕ) (ws : List (List ℕ)) (b : Bool) → among (without u ws) w ≡ b
    → not (among ws w) ≡ true → not b ≡ true
not_among u w ws true e h = let k = among_fewer u w ws e in let m = rw k at h in absurd cc
not_among u w ws false e h = refl

distinct_without : (u : List ℕ) (ws : List (List ℕ)) → distinct ws ≡ true
    → distinct (without u ws) ≡ true
distinct_without u [] h = h
distinct_without u (v ∷ ws) h =
    let b = and_both (not (among ws v)) (distinct ws) h
    in by (same u v) b.0 (distinct_without u ws b.1)
  where
    by : (b : Bool) → not (among ws v) ≡ true → distinct (without u ws) ≡ true
        → distinct (cond b (without u ws) (v ∷ without u ws)) ≡ true
    by true n ih = ih
    by false n ih = let m = not_among u v ws (among (without u ws) v) refl n in rw m ih

gone : (u : List ℕ) (ws : List (List ℕ)) → among (without u ws) u ≡ false
gone u [] = refl
gone u (v ∷ ws) = by (same u v) refl (gone u ws)
  where
    by : (b : Bool) → same u v ≡ b → among (without u ws) u ≡ false
        → among (cond b (without u ws) (v ∷ without u ws)) u ≡ false
    by true e ih = ih
    by false e ih = of (same v u) refl
      where
        of : (d : Bool) → same v u ≡ d → (d || among (without u ws) u) ≡ false
        of true f =
            let is = same_is v u f in let k = subst (λ t. same u t ≡ false) is e
            in let l = same_refl u in absurd cc
        of false f = ih

distinct_once : (ws : List (List ℕ)) → distinct (once ws) ≡ true
distinct_once [] = refl
distinct_once (w ∷ ws) = rw (gone w (once ws)) (distinct_without w (once ws) (distinct_once ws))

never : (b : Bool) → b ≡ true → not b ≡ true → ⊥
never true h k = absurd cc
never false h k = absurd cc

one_number : (ws : List (List ℕ)) (n m : ℕ) (w : List ℕ) → distinct ws ≡ true
    → slice_get ws n ≡ Some w → slice_get ws m ≡ Some w → n ≡ m
one_number [] n m w d h k = absurd cc
one_number (v ∷ ws) zero zero w d h k = refl
one_number (v ∷ ws) zero (suc m) w d h k =
    let is : v ≡ w = cc
    in absurd
    (never (among ws v) (subst (λ t. among ws t ≡ true) (sym is) (get_among ws m w k))
    (and_both (not (among ws v)) (distinct ws) d).0)
one_number (v ∷ ws) (suc n) zero w d h k =
    let is : v ≡ w = cc
    in absurd
    (never (among ws v) (subst (λ t. among ws t ≡ true) (sym is) (get_among ws n w h))
    (and_both (not (among ws v)) (distinct ws) d).0)
one_number (v ∷ ws) (suc n) (suc m) w d h k =
    ap suc (one_number ws n m w (and_both (not (among ws v)) (distinct ws) d).1 h k)

-- ---- a spelling stands for one kind

one_kind : (words : List (List ℕ)) (w : List ℕ) (m : Meaning) (k l : Kind) → distinct words ≡ true
    → KindFor words w m k → KindFor words w m l → k ≡ l
one_kind words w (a_meaning.Word r) k l d h i = h ∙ sym i
one_kind words w (a_meaning.Mark m) k l d h i = h ∙ sym i
one_kind words w (a_meaning.Op op) k l d h i = h ∙ sym i
one_kind words w a_meaning.OperatorWord k l d h i =
    h.2 ∙ ap (λ (n : ℕ). kind.Op (an_op.Word n)) (one_number words h.0 i.0 w d h.1 i.1) ∙ sym i.2
one_kind words w a_meaning.Name k l d h i =
    h.2 ∙ ap (λ
    (n : ℕ). kind.Name (record { 0 = n })) (one_number words h.0 i.0 w d h.1 i.1) ∙ sym i.2

one_meaning : (words : List (List ℕ)) (texts : ℕ) (w : List ℕ) (s : Shape) (k l : Kind)
    → distinct words ≡ true → MeansShape words texts w s k → MeansShape words texts w s l → k ≡ l
one_meaning words texts w (shape.Number n) k l d h i = h ∙ sym i
one_meaning words texts w shape.Text k l d h i = h ∙ sym i
one_meaning words texts w shape.Name k l d h i = one_kind words w (meaning_of w) k l d h i
one_meaning words texts w shape.Symbol k l d h i = one_kind words w (meaning_of w) k l d h i

one_token : (words : List (List ℕ)) (place : Place) (texts : ℕ) (p : Piece) (t u : Token)
    → distinct words ≡ true → IsTokenOf words place texts p t → IsTokenOf words place texts p u
    → t ≡ u
one_token words place texts p t u d h i =
    let k = one_meaning words texts p.word (shape_of p.word) t.kind u.kind d h.kind i.kind in
    let g = h.gap ∙ sym i.gap in
    let q = h.place_is ∙ sym i.place_is in
    ap (λ (x : Kind × Gap × Place). record { kind = x.0; gap = x.1; place = x.2 }) (triple k g q)
  where
    triple : {a b : Kind} {c d : Gap} {e f : Place} → a ≡ b → c ≡ d → e ≡ f
        → ◌≡◌ {A = Kind × Gap × Place} (a, c, e) (b, d, f)
    triple x y z = cc

one_row : (words : List (List ℕ)) (place : Place) (texts : ℕ) (ps : List Piece) (ts us : List Token)
    → distinct words ≡ true → AreTokens words place texts ps ts → AreTokens words place texts ps us
    → ts ≡ us
one_row words place texts [] ts us d h i = h ∙ sym i
one_row words place texts (p ∷ ps) ts us d h i =
    let first = one_token words place texts p h.0 i.0 d h.3 i.3 in
    let rest =
    one_row words (place_after place (p.gap ++ p.word)) (texts_after texts p.word) ps h.1 i.1 d
    h.4 i.4 in
    h.2 ∙ ap (λ t. t ∷ h.1) first ∙ ap (λ ts. i.0 ∷ ts) rest ∙ sym i.2

one_tokens : (ps : List Piece) (ts us : Tokens) → StandsFor ps ts → StandsFor ps us → ts ≡ us
one_tokens ps ts us h i =
    let list =
    one_row (names_of ps) _ 0 ps ts.list us.list (distinct_once (numbered_in ps)) h.list i.list
    in
    let names = h.names ∙ sym i.names in
    let texts = h.texts ∙ sym i.texts in
    ap (λ (x : List Token × List (List ℕ) × List (List ℕ)). record {
      list = x.0;
      names = x.1;
      texts = x.2;
    }) (triple list names texts)
  where
    triple : {a b : List Token} {c d e f : List (List ℕ)} → a ≡ b → c ≡ d → e ≡ f
        → ◌≡◌ {A = List Token × List (List ℕ) × List (List ℕ)} (a, c, e) (b, d, f)
    triple x y z = cc

-- ---- a file

pub one_list_of_tokens : (bytes : List ℕ) (ts us : Tokens) → HasTokens bytes ts → HasTokens bytes us
    → ts ≡ us
one_list_of_tokens bytes ts us h i =
    one_tokens h.pieces ts us h.tokens
    (subst (λ ps. StandsFor ps us) (sym (one_list _ h.pieces i.pieces h.is.has i.is.has))
    i.tokens)

torn_by : (bytes : List ℕ) (n : ℕ) → IsUtf8 bytes → IsValidUpTo bytes n → ⊥
torn_by bytes n u v =
    v.longest (length bytes) v.short
    (subst IsUtf8 (sym (take_all (length bytes) bytes (omega arith))) u)

pub list_or_fault : (bytes : List ℕ) (ts : Tokens) (r : Rule) (place : Place) → HasTokens bytes ts
    → BreaksRule bytes r place → ⊥
list_or_fault bytes ts r place h (not_utf8 e n) = torn_by bytes n.whole h.utf8 n.up_to
list_or_fault bytes ts r place h (too_many e u m) =
    list_few _ h.pieces 262144 m.at h.is.has h.is.few m.many
list_or_fault bytes ts r place h (fault u f) = f.none h.pieces h.is.has
