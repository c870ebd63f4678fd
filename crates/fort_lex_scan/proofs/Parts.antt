-- The parts of gaps: each is the only one at its place, and part_end finds it.
use Rattle.std.proofs.Common.{◌≡◌, ℕ, suc, ◌≤◌, ◌<◌, ◌+◌, Bool, true, false, cond, not, ◌&&◌, ◌==◌, List, [], ◌∷◌, ◌++◌, length, take, drop, get_or, Option, None, Some, refl, sym, ap, subst, ◌∙◌, arith, length-append}
use Rattle.std.proofs.lemmas.Bool.Decides.{nat_tests}
use Rattle.std.proofs.lemmas.List.{take_at, drop_at, take-append-drop}
use Rattle.std.specs.Option.{option_map_or}
use Rattle.std.specs.List.{prefix_len}
use Rattle.fort_lex_scan.specs.Lists.{every, begins_with}
use Rattle.fort_lex_scan.specs.Gaps.{Part, NoPart, IsOpenComment, Inside, white, line, comment, is_white, opens, is_no_line_feed, is_line_end}
use Rattle.fort_lex_scan.specs.Scan.{comment_end, part_end}
use Rattle.fort_lex_scan.specs.declared.gap.Before.TheVariants.{Other}
use Rattle.fort_lex_scan.specs.declared.gap.PartEnd.{PartEnd}
use Rattle.fort_lex_scan.specs.declared.gap.PartEnd.TheVariants as end
use Rattle.fort_lex_scan.proofs.Fronts.{same_front}
use Rattle.fort_lex_scan.proofs.Comments.{inside_some, comment_length, comment_found}

some_same : (m n : ℕ) → Some m ≡ Some n → m ≡ n
some_same m n h = cc

inside_once : {x y : List ℕ} (a b : List ℕ) → Inside x → Inside y → x ++ a ≡ y ++ b → a ≡ b
inside_once {x} {y} a b h k e =
    let l = some_same (length x) (length y) (sym (comment_length a h) ∙ ap (comment_end 0 Other) e
    ∙ comment_length b k) in
    (same_front x y a b e l).1

and_right : (p q : Bool) → (p && q) ≡ true → q ≡ true
and_right true q h = h
and_right false q h = absurd cc

line_once : (x y a b : List ℕ) → every is_no_line_feed x ≡ true → every is_no_line_feed y ≡ true
    → is_line_end a ≡ true → is_line_end b ≡ true → x ++ a ≡ y ++ b → a ≡ b
line_once [] [] a b p q s t e = e
line_once [] (d ∷ y) [] b p q s t e = absurd cc
line_once [] (d ∷ y) (c ∷ a) b p q s t e =
    let same : c ≡ d = cc in let l : (d == 10) ≡ true = subst (λ z. (z == 10) ≡ true) same s
    in absurd (grind (arith, nat_tests))
line_once (c ∷ x) [] a [] p q s t e = absurd cc
line_once (c ∷ x) [] a (d ∷ b) p q s t e =
    let same : d ≡ c = cc in let l : (c == 10) ≡ true = subst (λ z. (z == 10) ≡ true) same t
    in absurd (grind (arith, nat_tests))
line_once (c ∷ x) (d ∷ y) a b p q s t e =
    line_once x y a b (and_right (is_no_line_feed c) (every is_no_line_feed x) p)
    (and_right (is_no_line_feed d) (every is_no_line_feed y) q) s t cc

-- `(` isn't white
white_paren : (c : ℕ) → is_white c ≡ true → c ≡ 40 → ⊥
white_paren c w e = let h = subst (λ z. is_white z ≡ true) e w in absurd cc

third : (x after z : List ℕ) → Inside x → begins_with 41 x ≡ false → x ++ after ≡ 41 ∷ z → ⊥
third [] after z h b e = let l = inside_some h in absurd (omega arith)
third (c ∷ x) after z h b e =
    let is : c ≡ 41 = cc in let k = subst (λ t. (t == 41) ≡ false) is b in absurd cc

pub part_once : {a b text x y : List ℕ} → Part a text x → Part b text y → x ≡ y
part_once (white c i e w) (white d j f v) = cc
part_once (white c i e w) (line z j f p q) = absurd (white_paren c w cc)
part_once (white c i e w) (comment z j f p q) = absurd (white_paren c w cc)
part_once (line z i e p q) (white d j f v) = absurd (white_paren d v cc)
part_once {a} {b} {text} {x} {y} (line z i e p q) (line t j f r s) = line_once z t x y p r q s cc
part_once {a} {b} {text} {x} {y} (line z i e p q) (comment t j f r s) =
    absurd (third t y (z ++ x) s r cc)
part_once (comment z i e p q) (white d j f v) = absurd (white_paren d v cc)
part_once {a} {b} {text} {x} {y} (comment z i e p q) (line t j f r s) =
    absurd (third z x (t ++ y) q p cc)
part_once {a} {b} {text} {x} {y} (comment z i e p q) (comment t j f r s) = inside_once x y q s cc

pub part_shorter : {a text after : List ℕ} → Part a text after → length after ≤ length text
part_shorter (white c i e w) = let l = ap length e in omega arith
part_shorter {a} {text} {after} (line z i e p q) =
    let l = ap length e in let m = length-append z after in omega arith
part_shorter {a} {text} {after} (comment z i e p q) =
    let l = ap length e in let m = length-append z after in omega arith

-- ---- what part_end finds

abbrev pub PartIs : List ℕ → PartEnd → Type 0
PartIs text (end.Part n) = Part (take n text) text (drop n text)
PartIs text end.Stop = NoPart text × (opens text ≡ false)
PartIs text end.Unclosed = IsOpenComment text × NoPart text

begins_42 : (cs : List ℕ) → begins_with 42 cs ≡ (get_or cs 0 0 == 42)
begins_42 [] = refl
begins_42 (d ∷ ds) = refl

begins_41 : (cs : List ℕ) → begins_with 41 cs ≡ (get_or cs 0 0 == 41)
begins_41 [] = refl
begins_41 (d ∷ ds) = refl

no_part : (c : ℕ) (cs a after : List ℕ) → is_white c ≡ false
    → ((c == 40) && (get_or cs 0 0 == 42)) ≡ false → Part a (c ∷ cs) after → ⊥
no_part c cs a after w e (white d i f v) =
    let s : d ≡ c = cc in let h = subst (λ z. is_white z ≡ true) s v in absurd cc
no_part c cs a after w e (line z i f p q) =
    let s : c ≡ 40 = cc in let t : cs ≡ 42 ∷ 41 ∷ (z ++ after) = cc in
    let h = subst (λ u. ((u == 40) && (get_or cs 0 0 == 42)) ≡ false) s e
    in let k = subst (λ u. (get_or u 0 0 == 42) ≡ false) t h in absurd cc
no_part c cs a after w e (comment z i f p q) =
    let s : c ≡ 40 = cc in let t : cs ≡ 42 ∷ (z ++ after) = cc in
    let h = subst (λ u. ((u == 40) && (get_or cs 0 0 == 42)) ≡ false) s e
    in let k = subst (λ u. (get_or u 0 0 == 42) ≡ false) t h in absurd cc

pub front_passes : (p : ℕ → Bool) (xs : List ℕ) → every p (take (prefix_len p xs) xs) ≡ true
front_passes p [] = refl
front_passes p (x ∷ xs) = by_test (front_passes p xs) (p x) refl
  where
    by_test : every p (take (prefix_len p xs) xs) ≡ true → (b : Bool) → p x ≡ b
        → every p (take (cond b (1 + prefix_len p xs) 0) (x ∷ xs)) ≡ true
    by_test ih true e =
        let n : 1 + prefix_len p xs ≡ suc (prefix_len p xs) = omega arith in rw n (rw e ih)
    by_test ih false e = refl

line_stops : (xs : List ℕ) → is_line_end (drop (prefix_len is_no_line_feed xs) xs) ≡ true
line_stops [] = refl
line_stops (x ∷ xs) = by_test (line_stops xs) (x == 10) refl
  where
    by_test : is_line_end (drop (prefix_len is_no_line_feed xs) xs) ≡ true → (b : Bool)
        → (x == 10) ≡ b
        → is_line_end (drop (cond (not b) (1 + prefix_len is_no_line_feed xs) 0) (x ∷ xs)) ≡ true
    by_test ih true e = e
    by_test ih false e =
        let n : 1 + prefix_len is_no_line_feed xs ≡ suc (prefix_len is_no_line_feed xs) =
        omega arith in rw n ih

line_is : (xs : List ℕ) → PartIs (40 ∷ 42 ∷ 41 ∷ xs) (end.Part (3 + prefix_len is_no_line_feed xs))
line_is xs =
    let n = prefix_len is_no_line_feed xs in
    let e : suc (suc (suc n)) ≡ 3 + n = omega arith in
    subst (λ m. Part (take m (40 ∷ 42 ∷ 41 ∷ xs)) (40 ∷ 42 ∷ 41 ∷ xs) (drop m (40 ∷ 42 ∷ 41 ∷ xs)))
    e
    (line (take n xs) refl (ap (λ t. 40 ∷ 42 ∷ 41 ∷ t) (sym (take-append-drop n xs)))
    (front_passes is_no_line_feed xs) (line_stops xs))

begins_front : (a b : List ℕ) → 0 < length a → (get_or (a ++ b) 0 0 == 41) ≡ false
    → begins_with 41 a ≡ false
begins_front [] b l h = absurd (omega arith)
begins_front (c ∷ a) b l h = h

comment_is : (ds : List ℕ) (o : Option ℕ) → comment_end 0 Other ds ≡ o
    → (get_or ds 0 0 == 41) ≡ false
    → PartIs (40 ∷ 42 ∷ ds) (option_map_or (λ n. end.Part (2 + n)) o end.Unclosed)
comment_is ds (Some n) e t =
    let f = comment_found ds n e in
    let up : suc (suc n) ≡ 2 + n = omega arith in
    let b = begins_front f.front f.rest (inside_some f.is)
    (subst (λ z. (get_or z 0 0 == 41) ≡ false) f.whole t) in
    let front : take n ds ≡ f.front = ap (take n) f.whole ∙ take_at f.front f.rest n f.size in
    let rest : drop n ds ≡ f.rest = ap (drop n) f.whole ∙ drop_at f.front f.rest n f.size in
    subst (λ m. Part (take m (40 ∷ 42 ∷ ds)) (40 ∷ 42 ∷ ds) (drop m (40 ∷ 42 ∷ ds))) up
    (comment f.front (ap (λ z. 40 ∷ 42 ∷ z) front)
    (ap (λ z. 40 ∷ 42 ∷ z) (f.whole ∙ ap (λ z. f.front ++ z) (sym rest))) b f.is)
comment_is ds None e t =
    let never : (a after : List ℕ) → ds ≡ a ++ after → Inside a
    → ⊥ = (λ a after w i. let l = comment_length after i in let m = ap (comment_end 0 Other) w
    in absurd cc) in
    ((ds, refl, begins_41 ds ∙ t, never), λ a after p. unclosed ds a after t never p)
  where
    unclosed : (ds a after : List ℕ) → (get_or ds 0 0 == 41) ≡ false
        → ((a after : List ℕ) → ds ≡ a ++ after → Inside a → ⊥) → Part a (40 ∷ 42 ∷ ds) after → ⊥
    unclosed ds a after t never (white d i f v) = white_paren d v cc
    unclosed ds a after t never (line z i f p q) =
        let w : ds ≡ 41 ∷ (z ++ after) = cc in let k = subst (λ u. (get_or u 0 0 == 41) ≡ false) w t
        in absurd cc
    unclosed ds a after t never (comment z i f p q) = never z after (cc) q

open_is : (ds : List ℕ) (b : Bool) → (get_or ds 0 0 == 41) ≡ b
    → PartIs (40 ∷ 42 ∷ ds)
    (cond b (end.Part (3 + prefix_len is_no_line_feed (drop 1 ds)))
    (option_map_or (λ n. end.Part (2 + n)) (comment_end 0 Other ds) end.Unclosed))
open_is [] true e = absurd cc
open_is (u ∷ xs) true e =
    let is : u ≡ 41 = grind (arith, nat_tests) in
    subst (λ v. PartIs (40 ∷ 42 ∷ v ∷ xs) (end.Part (3 + prefix_len is_no_line_feed xs))) (sym is)
    (line_is xs)
open_is ds false e = comment_is ds (comment_end 0 Other ds) refl e

abbrev else_part : Bool → List ℕ → PartEnd
else_part b cs =
    cond b (cond (get_or cs 1 0 == 41) (end.Part (3 + prefix_len is_no_line_feed (drop 2 cs)))
    (option_map_or (λ n. end.Part (2 + n)) (comment_end 0 Other (drop 1 cs)) end.Unclosed)) end.Stop

and_both : (p q : Bool) → (p && q) ≡ true → (p ≡ true) × (q ≡ true)
and_both true q h = (refl, h)
and_both false q h = absurd cc

paren_is : (c : ℕ) (cs : List ℕ) (b : Bool) → is_white c ≡ false
    → ((c == 40) && (get_or cs 0 0 == 42)) ≡ b → PartIs (c ∷ cs) (else_part b cs)
paren_is c cs false w e =
    (λ a after p. no_part c cs a after w e p, ap (λ t. (c == 40) && t) (begins_42 cs) ∙ e)
paren_is c [] true w e = let h = (and_both (c == 40) false e).1 in absurd cc
paren_is c (d ∷ ds) true w e =
    let h = and_both (c == 40) (d == 42) e in
    let p = h.0 in let q = h.1 in
    let is : c ≡ 40 = grind (arith, nat_tests) in
    let js : d ≡ 42 = grind (arith, nat_tests) in
    subst (λ u. PartIs (u ∷ d ∷ ds) (else_part true (d ∷ ds))) (sym is)
    (subst (λ u. PartIs (40 ∷ u ∷ ds) (else_part true (u ∷ ds))) (sym js)
    (open_is ds (get_or ds 0 0 == 41) refl))

white_is : (c : ℕ) (cs : List ℕ) (b : Bool) → is_white c ≡ b
    → PartIs (c ∷ cs) (cond b (end.Part 1) (else_part ((c == 40) && (get_or cs 0 0 == 42)) cs))
white_is c cs true w = white c refl refl w
white_is c cs false w = paren_is c cs ((c == 40) && (get_or cs 0 0 == 42)) w refl

pub part_is : (text : List ℕ) → 0 < length text → PartIs text (part_end text)
part_is [] h = absurd (omega arith)
part_is (c ∷ cs) h = white_is c cs (is_white c) refl
