-- What the scan answers: its step, and the theorem on whole texts.
use Rattle.std.proofs.Common.{◌≡◌, ℕ, ◌≤◌, ◌<◌, ◌+◌, false, List, [], ◌∷◌, ◌++◌, length, take, drop, refl, sym, ap, subst, ◌∙◌, arith, length-append, length-drop}
use Rattle.std.proofs.lemmas.List.{take-append-drop, drop-drop, drop_at, length-take-le}
use Rattle.fort_base.specs.declared.rules.TheConstants.{BAD_CHARACTER, OPEN_COMMENT}
use Rattle.fort_base.specs.declared.refusal.Rule.{Rule}
use Rattle.fort_lex_scan.specs.declared.word.Shape.{Shape}
use Rattle.fort_lex_scan.specs.declared.word.Read.TheVariants.{Whole, Stuck, Fault}
use Rattle.fort_lex_scan.specs.Chain.{Chain}
use Rattle.fort_lex_scan.specs.Gaps.{Gap, IsOpenComment, opens, body, mark}
use Rattle.fort_lex_scan.specs.Places.{place_at}
use Rattle.fort_lex_scan.specs.Tokens as tokens
use Rattle.fort_lex_scan.specs.Tokens.{Piece, Stands, IsPiece, IsToken, Breaks, BreaksNone, HasPieces, with_mark}
use Rattle.fort_lex_scan.specs.Faults.{BreaksAt, IsTooMany, IsList, IsFault, IsMany}
use Rattle.fort_lex_scan.specs.Steps.{piece_at, IsNext, IsStuck, IsBroken}
use Rattle.fort_lex_scan.proofs.Pieces.{piece_once, gap_once, stands_once, first_fault, gap_shorter, piece_shorter, pieces_shorter}
use Rattle.fort_lex_scan.proofs.Chains.{chain_more}
use Rattle.fort_lex_scan.proofs.WordLaws.{WordIs}

-- ---- one step

pub broken_is : (text : List ℕ) (n k : ℕ) (r : Rule) → Gap text (drop n text) → n ≤ length text
    → WordIs (drop n text) (Fault r k) → IsBroken r text (n + k)
broken_is text n k r g l w =
    let d = length-drop n text in
    record {
      rest = drop n text;
      k = k;
      gap = g;
      fault = w.0;
      least = w.1;
      inside = w.2;
      place = omega arith;
      within = (let m = w.3 in omega arith);
    }

-- a comment that isn't closed
pub open_is : (text : List ℕ) (n : ℕ) → Gap text (drop n text) → n ≤ length text
    → IsOpenComment (drop n text) → IsBroken OPEN_COMMENT text n
open_is text n g l o =
    let d = length-drop n text in
    record {
      rest = drop n text;
      k = 0;
      gap = g;
      fault = tokens.comment refl refl o;
      least = λ q s b. omega arith;
      inside = λ w after s. absurd (no_word_open s.apart o.1);
      place = omega arith;
      within = l;
    }
  where
    no_word_open : {t x : List ℕ} → opens t ≡ false → t ≡ 40 ∷ 42 ∷ x → ⊥
    no_word_open h e = let k = subst (λ u. opens u ≡ false) e h in absurd cc

at_front : (text : List ℕ) (n m : ℕ) → Gap text (drop n text)
    → Stands (take m (drop n text)) (drop n text) (drop m (drop n text))
    → IsPiece (piece_at text n m) text (drop (n + m) text)
at_front text n m g stands =
    let rest : drop m (drop n text) ≡ drop (n + m) text = drop-drop m n text in
    let front : drop n text ≡ take m (drop n text) ++ drop (n + m) text =
    stands.whole ∙ ap (λ t. take m (drop n text) ++ t) rest in
    record {
      whole = sym (take-append-drop n text) ∙ ap (λ t. take n text ++ t) front;
      gap = subst (Gap text) front g;
      word = subst (λ t. Stands (take m (drop n text)) t (drop (n + m) text)) front
          (subst (λ t. Stands (take m (drop n text)) (drop n text) t) rest stands);
    }

front_is : (text : List ℕ) (n m : ℕ)
    → Stands (take m (drop n text)) (drop n text) (drop m (drop n text))
    → drop n text ≡ take m (drop n text) ++ drop (n + m) text
front_is text n m stands = stands.whole ∙ ap (λ t. take m (drop n text) ++ t) (drop-drop m n text)

pub next_is : (text : List ℕ) (n m : ℕ) (s : Shape) → Gap text (drop n text) → n ≤ length text
    → WordIs (drop n text) (Whole m s) → IsNext text n m s
next_is text n m s g l w =
    let d = length-drop n text in
    record {
      is = record {
        piece = at_front text n m g w.0;
        sound = subst BreaksNone (front_is text n m w.0) w.1;
      };
      shape = w.2;
      some = (let a = w.3 in omega arith);
      within = (let b = w.4 in omega arith);
    }

pub stuck_is : (text : List ℕ) (n m : ℕ) → Gap text (drop n text) → n ≤ length text
    → WordIs (drop n text) (Stuck m) → IsStuck text n m
stuck_is text n m g l w =
    let d = length-drop n text in
    record {
      is = at_front text n m g w.0;
      fault = w.1;
      least = w.2;
      some = (let a = w.3 in omega arith);
      within = (let b = w.4 in omega arith);
    }

-- ---- a token list is the only one, and leaves no fault

tokens_pieces : (ps : List Piece) (text after : List ℕ) → Chain IsToken ps text after
    → Chain IsPiece ps text after
tokens_pieces [] text after h = h
tokens_pieces (p ∷ ps) text after h = (h.0, h.1.piece, tokens_pieces ps h.0 after h.2)

no_word : (w after : List ℕ) → Stands w (w ++ after) after → [] ≡ w ++ after → ⊥
no_word [] after s e = let f = s.longest.fits in absurd cc
no_word (c ∷ w) after s e = absurd cc

list_once : (ps qs : List Piece) (text last end : List ℕ) → Chain IsToken ps text last → Gap last []
    → Chain IsToken qs text end → Gap end [] → ps ≡ qs
list_once [] [] text last end a g b h = refl
list_once [] (q ∷ qs) text last end a g b h =
    absurd (no_word q.word b.0 b.1.piece.word
    (gap_once (subst (λ t. Gap t []) (sym a) g) b.1.piece.gap))
list_once (p ∷ ps) [] text last end a g b h =
    absurd (no_word p.word a.0 a.1.piece.word
    (gap_once (subst (λ t. Gap t []) (sym b) h) a.1.piece.gap))
list_once (p ∷ ps) (q ∷ qs) text last end a g b h =
    let both = piece_once a.1.piece b.1.piece in
    let rest =
    list_once ps qs a.0 last end a.2 g (subst (λ t. Chain IsToken qs t end) (sym both.1) b.2) h
    in
    let first = both.0 in cc

-- a text has at most one list of tokens
pub one_list : (text : List ℕ) (ps qs : List Piece) → HasPieces text ps → HasPieces text qs
    → ps ≡ qs
one_list text ps qs h k =
    h.marked ∙ ap (with_mark (mark text))
    (list_once h.bare k.bare (body text) h.last k.last h.tokens h.gap k.tokens k.gap)
    ∙ sym k.marked

no_word_nil : (w after : List ℕ) → Stands w [] after → ⊥
no_word_nil [] after s = let f = s.longest.fits in absurd cc
no_word_nil (c ∷ w) after s = let e = s.whole in absurd cc

-- nothing is broken where nothing stands
none_nothing : BreaksNone []
none_nothing k r (tokens.nothing c cs a b e f g h) = absurd cc
none_nothing k r (tokens.follows w after a b s n c) = no_word_nil w after s
none_nothing k r (tokens.control w after front back c a b s t e f) = no_word_nil w after s
none_nothing k r (tokens.comment a b o) = let e = o.1 in absurd cc
none_nothing k r (tokens.quote cs a b e f) = absurd cc
none_nothing k r (tokens.escape w after front back a b s t e f g) = no_word_nil w after s
none_nothing k r (tokens.large w after a b s n l) = no_word_nil w after s

sound_by : (ps qs : List Piece) (text last mid rest : List ℕ) (k : ℕ) (r : Rule)
    → Chain IsToken ps text last → Gap last []
    → Chain IsPiece qs text mid → Gap mid rest → Breaks rest k r → ⊥
sound_by [] [] text last mid rest k r a g b h f =
    let e : [] ≡ rest = gap_once g (subst (λ t. Gap t rest) (sym b ∙ a) h)
    in none_nothing k r (subst (λ t. Breaks t k r) (sym e) f)
sound_by [] (q ∷ qs) text last mid rest k r a g b h f =
    no_word q.word b.0 b.1.word (gap_once (subst (λ t. Gap t []) (sym a) g) b.1.gap)
sound_by (p ∷ ps) [] text last mid rest k r a g b h f =
    let e : rest ≡ p.word ++ a.0 = gap_once (subst (λ t. Gap t rest) (sym b) h) a.1.piece.gap
    in a.1.sound k r (subst (λ t. Breaks t k r) e f)
sound_by (p ∷ ps) (q ∷ qs) text last mid rest k r a g b h f =
    let both = piece_once a.1.piece b.1 in
    sound_by ps qs a.0 last mid rest k r a.2 g
    (subst (λ t. Chain IsPiece qs t mid) (sym both.1) b.2) h f

-- a text that has a list of tokens breaks no rule
pub tokens_sound : (text : List ℕ) (ps : List Piece) (at : ℕ) (r : Rule) → HasPieces text ps
    → BreaksAt text at r → ⊥
tokens_sound text ps at r h f =
    sound_by h.bare f.pieces (body text) h.last f.middle f.rest f.k r h.tokens h.gap f.before f.gap
    f.fault

-- ---- too many tokens

-- a fault stands behind tokens
later_by : (ps qs : List Piece) (text after mid rest : List ℕ) (k : ℕ) (r : Rule)
    → Chain IsToken ps text after
    → Chain IsPiece qs text mid → Gap mid rest → Breaks rest k r → length rest ≤ k + length after
later_by [] qs text after mid rest k r a b g f =
    let s = pieces_shorter qs text mid b in let t = gap_shorter g in let e = ap length a
    in omega arith
later_by (p ∷ ps) [] text after mid rest k r a b g f =
    let e : rest ≡ p.word ++ a.0 = gap_once (subst (λ t. Gap t rest) (sym b) g) a.1.piece.gap
    in absurd (a.1.sound k r (subst (λ t. Breaks t k r) e f))
later_by (p ∷ ps) (x ∷ qs) text after mid rest k r a b g f =
    let both = piece_once a.1.piece b.1 in
    later_by ps qs a.0 after mid rest k r a.2 (subst (λ t. Chain IsPiece qs t mid) (sym both.1) b.2)
    g f

some_word : (w text after : List ℕ) → Stands w text after → 0 < length w
some_word [] text after s = let f = s.longest.fits in absurd cc
some_word (c ∷ w) text after s = omega arith

-- where a fault stands behind the tokens ps, and within the next word if as many are asked for, no
-- more tokens stand before it
many_by : (ps qs : List Piece) (q : Piece) (text mid rest mid' rest' : List ℕ) (k : ℕ)
    → length ps ≤ length qs → Chain IsToken ps text mid → Gap mid rest
    → ((w after : List ℕ) → Stands w rest after → k ≤ length w)
    → (length ps ≡ length qs → (w after : List ℕ) → Stands w rest after → k < length w)
    → Chain IsPiece qs text mid' → IsPiece q mid' rest' → k + length rest' < length rest
many_by [] [] q text mid rest mid' rest' k l a g i j b t =
    let e : rest ≡ q.word ++ rest' = gap_once (subst (λ u. Gap u rest) (sym a ∙ b) g) t.gap in
    let m = j refl q.word rest' (subst (λ u. Stands q.word u rest') (sym e) t.word) in
    let u = ap length e in let v = length-append q.word rest' in omega arith
many_by [] (x ∷ qs) q text mid rest mid' rest' k l a g i j b t =
    let e : rest ≡ x.word ++ b.0 = gap_once g (subst (λ u. Gap u (x.word ++ b.0)) a b.1.gap) in
    let m = i x.word b.0 (subst (λ u. Stands x.word u b.0) (sym e) b.1.word) in
    let n = pieces_shorter qs b.0 mid' b.2 in
    let o = piece_shorter t in
    let p = some_word q.word (q.word ++ rest') rest' t.word in
    let u = ap length e in let v = length-append x.word b.0 in omega arith
many_by (p ∷ ps) [] q text mid rest mid' rest' k l a g i j b t = absurd (omega arith)
many_by (p ∷ ps) (x ∷ qs) q text mid rest mid' rest' k l a g i j b t =
    let both = piece_once a.1.piece b.1 in
    let less : length ps ≤ length qs = omega arith in
    let j' : length ps ≡ length qs → (w after : List ℕ) → Stands w rest after
    → k < length w = (λ e. j (omega arith)) in
    many_by ps qs q a.0 mid rest mid' rest' k less a.2 g i j'
    (subst (λ u. Chain IsPiece qs u mid') (sym both.1) b.2) t

-- where the next word begins
begins_at : (text : List ℕ) (at gap word : ℕ) (rest : List ℕ) → at ≤ length text
    → gap + word ≤ length (drop at text)
    → IsPiece (piece_at (drop at text) gap word) (drop at text) rest
    → at + gap + length (take word (drop gap (drop at text)) ++ rest) ≡ length text
begins_at text at gap word rest l m p =
    let e = ap length p.whole in
    let d = length-drop at text in
    let f = length-append (take gap (drop at text)) (take word (drop gap (drop at text)) ++ rest) in
    let s : length (take gap (drop at text)) ≡ gap = length-take-le gap (drop at text) (omega arith)
    in omega arith

pub many_is : (text : List ℕ) (at gap word : ℕ) (ps : List Piece) (s : Shape) → at ≤ length text
    → length ps ≡ 262144 → Chain IsToken ps (body text) (drop at text)
    → IsNext (drop at text) gap word s → IsMany text (place_at text (at + gap))
many_is text at gap word ps s l m h i =
    let p = piece_at (drop at text) gap word in
    let rest = drop (gap + word) (drop at text) in
    let chain = chain_more IsToken ps p (body text) (drop at text) rest h i.is in
    record {
      at = at + gap;
      many = record {
        pieces = ps;
        piece = p;
        middle = drop at text;
        rest = rest;
        count = m;
        before = tokens_pieces ps (body text) (drop at text) h;
        next = i.is.piece;
        sound = λ q r f. let s =
            later_by (ps ++ p ∷ []) f.pieces (body text) rest f.middle f.rest f.k r chain f.before
            f.gap f.fault in let w = f.place in omega arith;
        begins = begins_at text at gap word rest l i.within i.is.piece;
      };
      place_is = refl;
    }

-- ---- a number with a name's character directly behind it

stuck_rest : (text : List ℕ) (gap word : ℕ) → IsStuck text gap word
    → take word (drop gap text) ++ drop (gap + word) text ≡ drop gap text
stuck_rest text gap word s =
    let within = s.within in
    let size : length (take gap text) ≡ gap = length-take-le gap text (omega arith) in
    sym (ap (drop gap) s.is.whole
    ∙ drop_at (take gap text) (take word (drop gap text) ++ drop (gap + word) text) gap
    size)

stuck_inside : (text : List ℕ) (gap word : ℕ) → IsStuck text gap word → (w after : List ℕ)
    → Stands w (drop gap text) after → word ≤ length w
stuck_inside text gap word s w after t =
    let e = stuck_rest text gap word s in
    let same = (stands_once s.is.word (subst (λ u. Stands w u after) (sym e) t)).0 in
    let f = ap length same in
    let d = length-drop gap text in
    let within = s.within in
    let size : length (take word (drop gap text)) ≡ word =
    length-take-le word (drop gap text) (omega arith) in omega arith

stuck_place : (text : List ℕ) (at gap word : ℕ) → at ≤ length text
    → gap + word ≤ length (drop at text)
    → at + (gap + word) + length (drop gap (drop at text)) ≡ length text + word
stuck_place text at gap word l m =
    let d = length-drop at text in let e = length-drop gap (drop at text) in omega arith

pub stuck_many : (text : List ℕ) (at gap word : ℕ) (ps : List Piece) → at ≤ length text
    → length ps ≡ 262144 → Chain IsToken ps (body text) (drop at text)
    → IsStuck (drop at text) gap word → IsMany text (place_at text (at + gap))
stuck_many text at gap word ps l m h s =
    let rest = drop (gap + word) (drop at text) in
    let stands = subst (Gap (drop at text)) (stuck_rest (drop at text) gap word s) s.is.gap in
    let first =
    first_fault ps text (drop at text) (drop gap (drop at text)) word (at + (gap + word)) h
    stands s.least (stuck_inside (drop at text) gap word s)
    (stuck_place text at gap word l s.within) in
    record {
      at = at + gap;
      many = record {
        pieces = ps;
        piece = piece_at (drop at text) gap word;
        middle = drop at text;
        rest = rest;
        count = m;
        before = tokens_pieces ps (body text) (drop at text) h;
        next = s.is;
        sound = λ q r f. let b = first q r f in let d = length-drop at text
            in let e = length-drop (gap + word) (drop at text) in omega arith;
        begins = begins_at text at gap word rest l s.within s.is;
      };
      place_is = refl;
    }

-- the mark adds no piece
pub length_marked : (m : List ℕ) (qs : List Piece) → length (with_mark m qs) ≡ length qs
length_marked m [] = refl
length_marked m (q ∷ qs) = refl

-- ---- the list and the fault

pub list_is : (text : List ℕ) (at : ℕ) (ps : List Piece)
    → Chain IsToken ps (body text) (drop at text) → length ps ≤ 262144 → Gap (drop at text) []
    → IsList text (with_mark (mark text) ps)
list_is text at ps h l g =
    let has : HasPieces text (with_mark (mark text) ps) =
    record { bare = ps; last = drop at text; tokens = h; gap = g; marked = refl } in
    record {
      has = has;
      few = (let e = length_marked (mark text) ps in omega arith);
      only = λ others k. one_list text others (with_mark (mark text) ps) k has;
      sound = λ at r f. tokens_sound text (with_mark (mark text) ps) at r has f;
    }

fault_by : (text : List ℕ) (at k : ℕ) (r : Rule) (ps : List Piece) (rest : List ℕ) (n : ℕ)
    → length ps ≤ 262144 → Chain IsToken ps (body text) (drop at text) → Gap (drop at text) rest
    → Breaks rest k r → ((q : ℕ) (s : Rule) → Breaks rest q s → k ≤ q)
    → ((w after : List ℕ) → Stands w rest after → k ≤ length w)
    → (length ps ≡ 262144 → (w after : List ℕ) → Stands w rest after → k < length w)
    → n + length rest ≡ length text + k → IsFault text r (place_at text n)
fault_by text at k r ps rest n m h g f least inside full place =
    let fault : BreaksAt text n r =
    record {
      pieces = ps;
      middle = drop at text;
      rest = rest;
      k = k;
      before = tokens_pieces ps (body text) (drop at text) h;
      gap = g;
      fault = f;
      place = place;
    } in
    record {
      at = n;
      first = record {
        fault = fault;
        first = first_fault ps text (drop at text) rest k n h g least inside place;
      };
      none = λ qs t. tokens_sound text qs n r t fault;
      few = λ q t.
          let c = t.count in
          let size : length ps ≤ length t.pieces = omega arith in
          let tight : length ps ≡ length t.pieces → (w after : List ℕ) → Stands w rest after
          → k < length w = (λ e. full (omega arith)) in
          let x = many_by ps t.pieces t.piece (body text) (drop at text) rest t.middle t.rest k size
          h g inside tight t.before t.next in
          let y = t.sound n r fault in omega arith;
      place_is = refl;
    }

pub fault_is : (text : List ℕ) (at n : ℕ) (ps : List Piece) (r : Rule) → at ≤ length text
    → length ps ≤ 262144 → Chain IsToken ps (body text) (drop at text) → IsBroken r (drop at text) n
    → IsFault text r (place_at text (at + n))
fault_is text at n ps r l m h b =
    let d = length-drop at text in
    let e = b.place in
    fault_by text at b.k r ps b.rest (at + n) m h b.gap b.fault b.least (λ w after s. let i =
    b.inside w after s in omega arith) (λ e. b.inside) (omega arith)

pub stuck_fault : (text : List ℕ) (at gap word : ℕ) (ps : List Piece) → at ≤ length text
    → length ps < 262144 → Chain IsToken ps (body text) (drop at text)
    → IsStuck (drop at text) gap word
    → IsFault text BAD_CHARACTER (place_at text (at + (gap + word)))
stuck_fault text at gap word ps l m h s =
    let stands = subst (Gap (drop at text)) (stuck_rest (drop at text) gap word s) s.is.gap in
    fault_by text at word BAD_CHARACTER ps (drop gap (drop at text)) (at + (gap + word))
    (omega arith) h stands s.fault s.least (stuck_inside (drop at text) gap word s)
    (λ e. absurd (omega arith)) (stuck_place text at gap word l s.within)

-- ---- a list of so many tokens, and a token too many

few_by : (ps qs : List Piece) (q : Piece) (text last mid rest : List ℕ) → Chain IsToken ps text last
    → Gap last [] → Chain IsPiece qs text mid → IsPiece q mid rest → length qs < length ps
few_by [] [] q text last mid rest a g b t =
    absurd (no_word q.word rest t.word (gap_once (subst (λ u. Gap u []) (sym a ∙ b) g) t.gap))
few_by [] (x ∷ qs) q text last mid rest a g b t =
    absurd (no_word x.word b.0 b.1.word (gap_once (subst (λ u. Gap u []) (sym a) g) b.1.gap))
few_by (p ∷ ps) [] q text last mid rest a g b t = omega arith
few_by (p ∷ ps) (x ∷ qs) q text last mid rest a g b t =
    let both = piece_once a.1.piece b.1 in
    let h = few_by ps qs q a.0 last mid rest a.2 g
    (subst (λ u. Chain IsPiece qs u mid) (sym both.1) b.2) t in omega arith

-- a text that has a list of tokens has none too many
pub list_few : (text : List ℕ) (ps : List Piece) (n at : ℕ) → HasPieces text ps → length ps ≤ n
    → IsTooMany n text at → ⊥
list_few text ps n at h l t =
    let a = few_by h.bare t.pieces t.piece (body text) h.last t.middle t.rest h.tokens h.gap
    t.before t.next in
    let m = ap length h.marked in
    let k = length_marked (mark text) h.bare in
    let c = t.count in omega arith

-- ---- the mark before the first gap

-- what of the mark still waits for the first gap
abbrev pub pending : List ℕ → List Piece → List ℕ
pending m [] = m
pending m (p ∷ ps) = []

pub marked_last : (m : List ℕ) (ps : List Piece) (p : Piece)
    → with_mark m (ps ++ p ∷ [])
    ≡ with_mark m ps ++ record { gap = pending m ps ++ p.gap; word = p.word } ∷ []
marked_last m [] p = refl
marked_last m (q ∷ ps) p = refl

pub pending_after : (m : List ℕ) (ps : List Piece) (p : Piece) → pending m (ps ++ p ∷ []) ≡ []
pending_after m [] p = refl
pending_after m (q ∷ ps) p = refl
