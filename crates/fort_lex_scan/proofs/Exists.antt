-- Each text has a list of tokens or breaks a rule.
use Rattle.std.proofs.Common.{◌≡◌, ◌⊎◌, ℕ, zero, suc, ◌≤◌, ◌<◌, ◌+◌, Bool, true, false, cond, ◌==◌, List, [], ◌∷◌, ◌++◌, length, take, drop, refl, sym, ap, subst, ◌∙◌, arith, append_assoc, length-append, length-drop}
use mathlib.Core.Logic.{inl, inr}
use Rattle.std.proofs.lemmas.Bool.{cases_lt}
use Rattle.std.proofs.lemmas.List.{drop-drop, drop_at}
use Rattle.fort_base.specs.declared.rules.TheConstants.{BAD_CHARACTER, OPEN_COMMENT}
use Rattle.fort_base.specs.declared.refusal.Rule.{Rule}
use Rattle.fort_base.specs.declared.refusal.Place.{Place}
use Rattle.fort_lex_scan.specs.declared.gap.PartEnd.{PartEnd}
use Rattle.fort_lex_scan.specs.declared.gap.PartEnd.TheVariants as end
use Rattle.fort_lex_scan.specs.declared.word.Read.{Read}
use Rattle.fort_lex_scan.specs.declared.word.Read.TheVariants.{Whole, Stuck, Fault}
use Rattle.fort_lex_scan.specs.declared.step.Step.{Step}
use Rattle.fort_lex_scan.specs.declared.step.Step.TheVariants as step
use Rattle.fort_lex_scan.specs.Chain.{Chain}
use Rattle.fort_lex_scan.specs.Gaps as gaps
use Rattle.fort_lex_scan.specs.Gaps.{Gap, Part, NoPart, IsOpenComment, opens, body, mark}
use Rattle.fort_lex_scan.specs.Scan.{part_end}
use Rattle.fort_lex_scan.specs.Words.{word_of}
use Rattle.fort_lex_scan.specs.Places.{place_at}
use Rattle.fort_lex_scan.specs.Tokens.{Piece, IsToken, with_mark}
use Rattle.fort_lex_scan.specs.Faults.{IsList, IsFault, IsMany}
use Rattle.fort_lex_scan.specs.Steps.{piece_at, StepIs}
use Rattle.fort_lex_scan.proofs.Chains.{chain_more}
use Rattle.fort_lex_scan.proofs.Parts.{PartIs, part_is}
use Rattle.fort_lex_scan.proofs.WordLaws.{WordIs, word_is}
use Rattle.fort_lex_scan.proofs.Theorem.{broken_is, open_is, next_is, stuck_is, list_is, fault_is, many_is, stuck_many, stuck_fault}

-- ---- each text has a gap at its front, and behind it no comment opens, or one that isn't closed

part_whole : {a text after : List ℕ} → Part a text after → text ≡ a ++ after
part_whole {a} {text} {after} (gaps.white c e i w) = i ∙ ap (λ t. t ++ after) (sym e)
part_whole {a} {text} {after} (gaps.line x e i p q) = i ∙ ap (λ t. t ++ after) (sym e)
part_whole {a} {text} {after} (gaps.comment x e i p q) = i ∙ ap (λ t. t ++ after) (sym e)

part_some : {a text after : List ℕ} → Part a text after → 0 < length a
part_some (gaps.white c e i w) = let l = ap length e in omega arith
part_some (gaps.line x e i p q) = let l = ap length e in omega arith
part_some (gaps.comment x e i p q) = let l = ap length e in omega arith

-- where a text's gap ends
record GapEnd (text : List ℕ) : Type 0 where
  front : List ℕ
  rest : List ℕ
  whole : text ≡ front ++ rest
  gap : Gap text rest
  next : (opens rest ≡ false) ⊎ IsOpenComment rest

here : (text : List ℕ) → NoPart text → (opens text ≡ false) ⊎ IsOpenComment text → GapEnd text
here text n h = record { front = []; rest = text; whole = refl; gap = ([], refl, n); next = h }

behind : {a text after : List ℕ} → Part a text after → GapEnd after → GapEnd text
behind {a} {text} {after} p e =
    let g = e.gap in
    record {
      front = a ++ e.front;
      rest = e.rest;
      whole = part_whole p ∙ ap (λ t. a ++ t) e.whole ∙ sym (append_assoc a e.front e.rest);
      gap = (a ∷ g.0, (after, p, g.1), g.2);
      next = e.next;
    }

nil_no_part : NoPart []
nil_no_part a after (gaps.white c e i w) = absurd cc
nil_no_part a after (gaps.line x e i p q) = absurd cc
nil_no_part a after (gaps.comment x e i p q) = absurd cc

by_part : (text : List ℕ) (e : PartEnd) → PartIs text e
    → ((after : List ℕ) → length after < length text → GapEnd after) → GapEnd text
by_part text end.Stop p more = here text p.0 (inl p.1)
by_part text end.Unclosed p more = here text p.1 (inr p.0)
by_part text (end.Part n) p more =
    let a = part_some p in
    let l = ap length (part_whole p) in
    let m = length-append (take n text) (drop n text) in
    behind p (more (drop n text) (omega arith))

gap_within : (fuel : ℕ) (text : List ℕ) → length text ≤ fuel → GapEnd text
gap_within fuel [] l = here [] nil_no_part (inl refl)
gap_within zero (c ∷ cs) l = absurd (omega arith)
gap_within (suc fuel) (c ∷ cs) l =
    by_part (c ∷ cs) (part_end (c ∷ cs)) (part_is (c ∷ cs) (omega arith))
    (λ after s. gap_within fuel after (omega arith))

-- ---- each text has a next step

by_read : (text : List ℕ) (n : ℕ) (r : Read) → Gap text (drop n text) → n ≤ length text
    → WordIs (drop n text) r → (s : Step) × StepIs text s
by_read text n (Whole m s) g l w = (step.Next n m s, next_is text n m s g l w)
by_read text n (Stuck m) g l w = (step.Stuck n m, stuck_is text n m g l w)
by_read text n (Fault r k) g l w = (step.Broken r (n + k), broken_is text n k r g l w)

by_rest : (text : List ℕ) (n : ℕ) (rest : List ℕ) → rest ≡ drop n text → Gap text rest
    → n ≤ length text → opens rest ≡ false → (s : Step) × StepIs text s
by_rest text n [] e g l o = (step.End, g)
by_rest text n (c ∷ cs) e g l o =
    by_read text n (word_of (drop n text)) (subst (Gap text) e g) l
    (word_is (drop n text) (let m = ap length e in omega arith) (subst (λ t. opens t ≡ false) e o))

pub step_exists : (text : List ℕ) → (s : Step) × StepIs text s
step_exists text =
    let e = gap_within (length text) text (omega arith) in
    let n = length e.front in
    let rest : e.rest ≡ drop n text = sym (ap (drop n) e.whole ∙ drop_at e.front e.rest n refl) in
    let l : n ≤ length text =
    (let a = ap length e.whole in let b = length-append e.front e.rest in omega arith) in
    elim e.next [
      | inl o ↦ by_rest text n e.rest rest e.gap l o
      | inr o ↦ (
        step.Broken OPEN_COMMENT n,
        open_is text n (subst (Gap text) rest e.gap) l (subst IsOpenComment rest o),
      )
    ]

-- ---- each text is read to its end

-- a text's list of tokens, or the rule that it breaks
abbrev pub IsReadable : List ℕ → Type 0
IsReadable text = ((ps : List Piece) × IsList text ps)
    ⊎ (((r : Rule) × (place : Place) × IsFault text r place)
    ⊎ ((place : Place) × IsMany text place))

-- what is read from a later place on
abbrev Later : List ℕ → ℕ → Type 0
Later text at = (more : ℕ) (ps : List Piece) → at < more → more ≤ length text → length ps ≤ 262144
    → Chain IsToken ps (body text) (drop more text) → IsReadable text

by_step : (text : List ℕ) (at : ℕ) (ps : List Piece) (s : Step) → at ≤ length text
    → length ps ≤ 262144 → Chain IsToken ps (body text) (drop at text)
    → StepIs (drop at text) s → Later text at → IsReadable text
by_step text at ps step.End l m h s later = inl (with_mark (mark text) ps, list_is text at ps h m s)
by_step text at ps (step.Broken r n) l m h s later =
    inr (inl (r, place_at text (at + n), fault_is text at n ps r l m h s))
by_step text at ps (step.Stuck gap word) l m h s later =
    elim (cases_lt (length ps) 262144) [
      | inl few ↦
          inr (inl (
            BAD_CHARACTER,
            place_at text (at + (gap + word)),
            stuck_fault text at gap word ps l few h s,
          ))
      | inr full ↦
          inr (inr (place_at text (at + gap), stuck_many text at gap word ps l (omega arith) h s))
    ]
by_step text at ps (step.Next gap word shape) l m h s later =
    elim (cases_lt (length ps) 262144) [
      | inl few ↦
          let p = piece_at (drop at text) gap word in
          let rest = drop (gap + word) (drop at text) in
          let chain =
          subst (Chain IsToken (ps ++ p ∷ []) (body text)) (drop-drop (gap + word) at text)
          (chain_more IsToken ps p (body text) (drop at text) rest h s.is) in
          let some = s.some in
          let within = s.within in
          let d = length-drop at text in
          let k = length-append ps (p ∷ []) in
          later (at + (gap + word)) (ps ++ p ∷ []) (omega arith) (omega arith) (omega arith) chain
      | inr full ↦
          inr (inr (place_at text (at + gap), many_is text at gap word ps shape l (omega arith) h s))
    ]

read_within : (fuel : ℕ) (text : List ℕ) (at : ℕ) (ps : List Piece) → length text ≤ at + fuel
    → at ≤ length text → length ps ≤ 262144
    → Chain IsToken ps (body text) (drop at text) → IsReadable text
read_within zero text at ps f l m h =
    let s = step_exists (drop at text)
    in by_step text at ps s.0 l m h s.1 (λ more qs a b c d. absurd (omega arith))
read_within (suc fuel) text at ps f l m h =
    let s = step_exists (drop at text)
    in by_step text at ps s.0 l m h s.1
    (λ more qs a b c d. read_within fuel text more qs (omega arith) b c d)

body_at : (text : List ℕ) → (n : ℕ) × (n ≤ length text) × (body text ≡ drop n text)
body_at [] = (0, omega arith, refl)
body_at (c ∷ cs) = by (c == 65279)
  where
    by : (b : Bool) → (n : ℕ) × (n ≤ length (c ∷ cs)) × (cond b cs (c ∷ cs) ≡ drop n (c ∷ cs))
    by true = (1, omega arith, refl)
    by false = (0, omega arith, refl)

-- each text has a list of tokens, or breaks a rule
pub one_exists : (text : List ℕ) → IsReadable text
one_exists text =
    let b = body_at text
    in read_within (length text) text b.0 [] (omega arith) b.1 (omega arith) b.2
