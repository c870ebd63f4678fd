-- A text that is read up to some place.
use Rattle.std.proofs.Common.{◌≡◌, ℕ, zero, suc, ◌+◌, ◌-◌, ◌<◌, ◌≤◌, ◌^◌, Bool, true, false, ◌&&◌, List, [], ◌∷◌, ◌++◌, length, take, drop, refl, sym, ap, subst, ◌∙◌, arith}
use Rattle.std.proofs.lemmas.List.{drop-drop}
use Rattle.fort_lex_scan.specs.Chain.{Chain}
use Rattle.fort_lex_scan.specs.Gaps.{mark, body}
use Rattle.fort_lex_scan.specs.Tokens.{Piece, IsToken, with_mark}
use Rattle.fort_lex_scan.specs.declared.word.Shape.{Shape}
use Rattle.fort_lex_scan.specs.Steps.{piece_at, IsNext}
use Rattle.fort_lex_scan.proofs.Chains.{chain_more}
use Rattle.fort_lex_scan.proofs.Theorem.{pending, marked_last, pending_after, length_marked}
use Rattle.fort_lex.specs.declared.builder.Builder.{Builder}
use Rattle.std.proofs.Math.Utf8.{scalar, scalars}
use Rattle.fort_lex.specs.Building.{Holds}
use Rattle.fort_lex.proofs.FileLaws.{lengths}
use Rattle.fort_lex.proofs.FileLaws.{lengths}

-- The text is read up to `at`: the tokens there are what the builder holds, and of the next gap
-- stands from `from` on what is its mark.
pub record IsRead (text : List ℕ) (from at : ℕ) (b : Builder) : Type 0 where
  pub ps : List Piece
  pub chain : Chain IsToken ps (body text) (drop at text)
  pub held : Holds (with_mark (mark text) ps) b
  pub waits : take (at - from) (drop from text) ≡ pending (mark text) ps

abbrev empty : List ℕ
empty = []

take_none : (n : ℕ) → take n empty ≡ empty
take_none zero = refl
take_none (suc n) = refl

take_two : (n m : ℕ) (xs : List ℕ) → take (n + m) xs ≡ take n xs ++ take m (drop n xs)
take_two zero m xs = ap (λ k. take k xs) (omega arith)
take_two (suc n) m [] = take_none (suc n + m) ∙ sym (take_none m)
take_two (suc n) m (x ∷ xs) =
    let e : suc n + m ≡ suc (n + m) = omega arith in rw e (ap (λ t. x ∷ t) (take_two n m xs))

-- the gap with its mark
gap_is : (text : List ℕ) (from at gap : ℕ) → from ≤ at → at ≤ length text
    → take (at + gap - from) (drop from text)
    ≡ take (at - from) (drop from text) ++ take gap (drop at text)
gap_is text from at gap l m =
    let e : at + gap - from ≡ (at - from) + gap = omega arith in
    let back : from + (at - from) ≡ at = omega arith in
    let rest : drop (at - from) (drop from text) ≡ drop at text =
    drop-drop (at - from) from text ∙ ap (λ n. drop n text) back in
    ap (λ n. take n (drop from text)) e ∙ take_two (at - from) gap (drop from text)
    ∙ ap (λ t. take (at - from) (drop from text) ++ take gap t) rest

word_is : (text : List ℕ) (at gap word : ℕ)
    → take (at + gap + word - (at + gap)) (drop (at + gap) text)
    ≡ take word (drop gap (drop at text))
word_is text at gap word =
    let e : at + gap + word - (at + gap) ≡ word = omega arith in
    ap (λ n. take n (drop (at + gap) text)) e ∙ ap (take word) (sym (drop-drop gap at text))

-- one token further
pub read_more : (text : List ℕ) (from at gap word : ℕ) (s : Shape) (old new : Builder) → from ≤ at
    → at ≤ length text → (r : IsRead text from at old) → IsNext (drop at text) gap word s
    → ((ps : List Piece) → Holds ps old
    → Holds (ps ++ record {
      gap = take (at + gap - from) (drop from text);
      word = take (at + gap + word - (at + gap)) (drop (at + gap) text);
    } ∷ []) new)
    → IsRead text (at + gap + word) (at + gap + word) new
read_more text from at gap word s old new l m r i add =
    let p = piece_at (drop at text) gap word in
    let far : drop (gap + word) (drop at text) ≡ drop (at + gap + word) text =
    drop-drop (gap + word) at text ∙ ap (λ n. drop n text) (omega arith) in
    let chain =
    subst (Chain IsToken (r.ps ++ p ∷ []) (body text)) far
    (chain_more IsToken r.ps p (body text) (drop at text) (drop (gap + word) (drop at text))
    r.chain i.is) in
    let gap_text = gap_is text from at gap l m ∙ ap (λ t. t ++ take gap (drop at text)) r.waits in
    let piece : record {
      gap = take (at + gap - from) (drop from text);
      word = take (at + gap + word - (at + gap)) (drop (at + gap) text);
    }
    ≡ record { gap = pending (mark text) r.ps ++ p.gap; word = p.word } =
    ap (λ (t : List ℕ × List ℕ). record { gap = t.0; word = t.1 }) (ap (λ
    (g : List ℕ). (g, take (at + gap + word - (at + gap)) (drop (at + gap) text))) gap_text
    ∙ ap (λ (w : List ℕ). (pending (mark text) r.ps ++ p.gap, w))
    (word_is text at gap word)) in
    let none : at + gap + word - (at + gap + word) ≡ 0 = omega arith in
    record {
      ps = r.ps ++ p ∷ [];
      chain = chain;
      held = subst (λ qs. Holds qs new) (ap (λ
          (q : Piece). with_mark (mark text) r.ps ++ q ∷ []) piece
          ∙ sym (marked_last (mark text) r.ps p)) (add (with_mark (mark text) r.ps) r.held);
      waits = ap (λ n. take n (drop (at + gap + word) text)) none
          ∙ sym (pending_after (mark text) r.ps p);
    }

-- as many pieces as tokens
pub count_read : (text : List ℕ) (from at : ℕ) (b : Builder) (r : IsRead text from at b)
    → length r.ps ≡ length b.list
count_read text from at b r =
    sym (length_marked (mark text) r.ps) ∙ sym (lengths (with_mark (mark text) r.ps) b r.held).0

pub few_read : (text : List ℕ) (from at : ℕ) (b : Builder) → IsRead text from at b
    → length b.list ≤ 262144 → (length b.texts < 2 ^ 31) × (length b.names.names < 2 ^ 31)
few_read text from at b r l =
    let s = lengths (with_mark (mark text) r.ps) b r.held in
    let x = s.0 in let y = s.1 in let z = s.2 in (omega arith, omega arith)

pub begins_read : (text : List ℕ) (b : Builder) → Holds [] b → (n : ℕ) → drop n text ≡ body text
    → take n text ≡ mark text → IsRead text 0 n b
begins_read text b h n e f = record {
  ps = [];
  chain = sym e;
  held = h;
  waits = (let same : n - 0 ≡ n = omega arith in ap (λ m. take m text) same ∙ f);
}

and_both : (p q : Bool) → (p && q) ≡ true → (p ≡ true) × (q ≡ true)
and_both true q h = (refl, h)
and_both false q h = absurd cc

scalars_drop : (n : ℕ) (xs : List ℕ) → scalars xs ≡ true → scalars (drop n xs) ≡ true
scalars_drop zero xs h = h
scalars_drop (suc n) [] h = h
scalars_drop (suc n) (x ∷ xs) h = scalars_drop n xs (and_both (scalar x) (scalars xs) h).1

scalars_take : (n : ℕ) (xs : List ℕ) → scalars xs ≡ true → scalars (take n xs) ≡ true
scalars_take zero xs h = refl
scalars_take (suc n) [] h = refl
scalars_take (suc n) (x ∷ xs) h =
    let b = and_both (scalar x) (scalars xs) h in let f = b.0 in rw f (scalars_take n xs b.1)

pub scalars_part : (n m : ℕ) (xs : List ℕ) → scalars xs ≡ true → scalars (take n (drop m xs)) ≡ true
scalars_part n m xs h = scalars_take n (drop m xs) (scalars_drop m xs h)
