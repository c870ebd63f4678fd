-- Where pieces stand in a text they are the only ones.
use Rattle.std.proofs.Common.{◌≡◌, ℕ, ◌≤◌, ◌+◌, List, [], ◌∷◌, ◌++◌, length, sym, ap, subst, ◌∙◌, arith, length-append}
use Rattle.std.proofs.lemmas.List.{append_cancel_right}
use Rattle.fort_base.specs.declared.refusal.Rule.{Rule}
use Rattle.fort_lex_scan.specs.Chain.{Chain}
use Rattle.fort_lex_scan.specs.Gaps.{Gap, Part, NoPart, body}
use Rattle.fort_lex_scan.specs.Tokens.{Piece, Stands, IsPiece, IsToken, Breaks}
use Rattle.fort_lex_scan.specs.Faults.{IsSoundBefore}
use Rattle.fort_lex_scan.proofs.Fronts.{same_front}
use Rattle.fort_lex_scan.proofs.Parts.{part_once, part_shorter}

-- the longest spelling is one
pub stands_once : {w v text x y : List ℕ} → Stands w text x → Stands v text y → (w ≡ v) × (x ≡ y)
stands_once {w} {v} {text} {x} {y} h k =
    let e : w ++ x ≡ v ++ y = sym h.whole ∙ k.whole in
    let a = h.longest.longest v y k.longest.fits e in
    let b = k.longest.longest w x h.longest.fits (sym e) in
    same_front w v x y e (omega arith)

-- a gap ends at one place
pub chain_ends : (ps bs : List (List ℕ)) (text x y : List ℕ) → Chain Part ps text x
    → Chain Part bs text y → NoPart x → NoPart y → x ≡ y
chain_ends [] [] text x y h k n m = sym h ∙ k
chain_ends [] (b ∷ bs) text x y h k n m = absurd (n b k.0 (subst (λ t. Part b t k.0) h k.1))
chain_ends (a ∷ ps) [] text x y h k n m = absurd (m a h.0 (subst (λ t. Part a t h.0) k h.1))
chain_ends (a ∷ ps) (b ∷ bs) text x y h k n m =
    chain_ends ps bs h.0 x y h.2 (subst (λ t. Chain Part bs t y) (sym (part_once h.1 k.1)) k.2) n m

pub gap_once : {text x y : List ℕ} → Gap text x → Gap text y → x ≡ y
gap_once {text} {x} {y} h k = chain_ends h.0 k.0 text x y h.1 k.1 h.2 k.2

-- a piece is one
pub piece_once : {p q : Piece} {text x y : List ℕ} → IsPiece p text x → IsPiece q text y
    → (p ≡ q) × (x ≡ y)
piece_once {p} {q} {text} {x} {y} h k =
    let e : p.word ++ x ≡ q.word ++ y = gap_once h.gap k.gap in
    let both = stands_once h.word (subst (λ t. Stands q.word t y) (sym e) k.word) in
    let words : p.word ≡ q.word = both.0 in
    let rests : x ≡ y = both.1 in
    let g : p.gap ++ (p.word ++ x) ≡ q.gap ++ (p.word ++ x) =
    sym h.whole ∙ k.whole ∙ ap (λ t. q.gap ++ t) (sym e) in
    let gaps : p.gap ≡ q.gap = append_cancel_right p.gap q.gap (p.word ++ x) g in
    (ap (λ (t : List ℕ × List ℕ). record { gap = t.0; word = t.1 }) (cc), rests)

-- ---- lengths

pub parts_shorter : (ps : List (List ℕ)) (text after : List ℕ) → Chain Part ps text after
    → length after ≤ length text
parts_shorter [] text after h = let e = ap length h in omega arith
parts_shorter (p ∷ ps) text after h =
    let a = part_shorter h.1 in let b = parts_shorter ps h.0 after h.2 in omega arith

pub gap_shorter : {text rest : List ℕ} → Gap text rest → length rest ≤ length text
gap_shorter {text} {rest} h = parts_shorter h.0 text rest h.1

pub piece_shorter : {p : Piece} {text after : List ℕ} → IsPiece p text after
    → length after + length p.word ≤ length text
piece_shorter {p} {text} {after} h =
    let a = gap_shorter h.gap in let b = length-append p.word after in omega arith

pub pieces_shorter : (ps : List Piece) (text after : List ℕ) → Chain IsPiece ps text after
    → length after ≤ length text
pieces_shorter [] text after h = let e = ap length h in omega arith
pieces_shorter (p ∷ ps) text after h =
    let a = piece_shorter h.1 in let b = pieces_shorter ps h.0 after h.2 in omega arith

-- ---- a text with tokens breaks no rule, and has no other tokens

-- A fault stands behind the tokens, or within what follows their gap.
pub fault_behind : (ps qs : List Piece) (text mid mid' rest rest' : List ℕ) (k k' : ℕ) (r' : Rule)
    → Chain IsToken ps text mid → Gap mid rest
    → ((q : ℕ) (r : Rule) → Breaks rest q r → k ≤ q)
    → ((w after : List ℕ) → Stands w rest after → k ≤ length w)
    → Chain IsPiece qs text mid' → Gap mid' rest' → Breaks rest' k' r'
    → k + length rest' ≤ k' + length rest
fault_behind [] [] text mid mid' rest rest' k k' r' a g least inside b g' f =
    let e : rest ≡ rest' = gap_once g (subst (λ t. Gap t rest') (sym b ∙ a) g') in
    let le = least k' r' (subst (λ t. Breaks t k' r') (sym e) f) in
    let l = ap length e in omega arith
fault_behind [] (q ∷ qs) text mid mid' rest rest' k k' r' a g least inside b g' f =
    let p = b.1 in
    let e : rest ≡ q.word ++ b.0 = gap_once g (subst (λ t. Gap t (q.word ++ b.0)) a p.gap) in
    let le = inside q.word b.0 (subst (λ t. Stands q.word t b.0) (sym e) p.word) in
    let s = pieces_shorter qs b.0 mid' b.2 in
    let t = gap_shorter g' in
    let l = ap length e in
    let m = length-append q.word b.0 in omega arith
fault_behind (p ∷ ps) [] text mid mid' rest rest' k k' r' a g least inside b g' f =
    let h = a.1 in
    let e : rest' ≡ p.word ++ a.0 = gap_once (subst (λ t. Gap t rest') (sym b) g') h.piece.gap in
    absurd (h.sound k' r' (subst (λ t. Breaks t k' r') e f))
fault_behind (p ∷ ps) (q ∷ qs) text mid mid' rest rest' k k' r' a g least inside b g' f =
    let h = a.1 in
    let both = piece_once h.piece b.1 in
    fault_behind ps qs a.0 mid mid' rest rest' k k' r' a.2 g least inside
    (subst (λ t. Chain IsPiece qs t mid') (sym both.1) b.2) g' f

-- The text up to a gap is tokens, and behind the gap it breaks a rule: that is the first fault.
pub first_fault : (ps : List Piece) (text mid rest : List ℕ) (k at : ℕ)
    → Chain IsToken ps (body text) mid → Gap mid rest
    → ((q : ℕ) (r : Rule) → Breaks rest q r → k ≤ q)
    → ((w after : List ℕ) → Stands w rest after → k ≤ length w)
    → at + length rest ≡ length text + k → IsSoundBefore text at
first_fault ps text mid rest k at a g least inside place q r f =
    let h = fault_behind ps f.pieces (body text) mid f.middle rest f.rest k f.k r a g least inside
    f.before f.gap f.fault in
    let e = f.place in omega arith
