-- Where a comment ends.
use Rattle.std.proofs.Common.{◌≡◌, ℕ, zero, suc, ◌<◌, ◌+◌, ◌-◌, Bool, true, false, cond, ◌&&◌, ◌==◌, List, [], ◌∷◌, ◌++◌, length, Option, None, Some, refl, sym, ap, subst, ◌∙◌, arith, append_assoc, length-append}
use Rattle.std.proofs.lemmas.Bool.Decides.{nat_tests}
use Rattle.std.specs.Option.{option_map}
use Rattle.fort_lex_scan.specs.Gaps.{Inside, ends, plain, inner, opens, closes}
use Rattle.fort_lex_scan.specs.Scan.{comment_end, mark_of}
use Rattle.fort_lex_scan.specs.declared.gap.Before.TheVariants.{Other, Open, Star}

-- ---- a comment's inside is read to its end

-- what is read behind a closing
abbrev after : ℕ → List ℕ → Option ℕ
after depth rest = cond (depth == 0) (Some 0) (comment_end (depth - 1) Other rest)

abbrev add : ℕ → Option ℕ → Option ℕ
add k o = option_map (λ n. k + n) o

add_suc : (k : ℕ) (o : Option ℕ) → option_map suc (add k o) ≡ add (suc k) o
add_suc k None = refl
add_suc k (Some n) = ap Some (omega arith)

add_one : (o : Option ℕ) → option_map suc o ≡ add 1 o
add_one None = refl
add_one (Some n) = ap Some (omega arith)

add_add : (j k : ℕ) (o : Option ℕ) → add j (add k o) ≡ add (j + k) o
add_add j k None = refl
add_add j k (Some n) = ap Some (omega arith)

after_more : (depth : ℕ) (rest : List ℕ) → after (depth + 1) rest ≡ comment_end depth Other rest
after_more depth rest =
    let a : ((depth + 1) == 0) ≡ false = grind (arith, nat_tests) in
    let b : depth + 1 - 1 ≡ depth = omega arith in rw a (rw b refl)

calm_by : (depth e : ℕ) (xs : List ℕ) (p q : Bool) → (p && (e == 42)) ≡ false
    → (q && (e == 41)) ≡ false
    → comment_end depth (cond p Open (cond q Star Other)) (e ∷ xs)
    ≡ comment_end depth Other (e ∷ xs)
calm_by depth e xs true q h k = rw h refl
calm_by depth e xs false true h k = rw k refl
calm_by depth e xs false false h k = refl

-- a character that opens and closes nothing leaves no mark
calm : (depth c e : ℕ) (xs : List ℕ) → opens (c ∷ e ∷ xs) ≡ false → closes (c ∷ e ∷ xs) ≡ false
    → comment_end depth (mark_of c) (e ∷ xs) ≡ comment_end depth Other (e ∷ xs)
calm depth c e xs h k = calm_by depth e xs (c == 40) (c == 42) h k

pub inside_some : {a : List ℕ} → Inside a → 0 < length a
inside_some (ends e) = let l = ap length e in omega arith
inside_some (plain c b e o k h) = let l = ap length e in omega arith
inside_some (inner x y e h k) = let l = ap length e in omega arith

calm_front : (depth c : ℕ) (b rest : List ℕ) → 0 < length b → opens (c ∷ b) ≡ false
    → closes (c ∷ b) ≡ false
    → comment_end depth (mark_of c) (b ++ rest) ≡ comment_end depth Other (b ++ rest)
calm_front depth c [] rest l h k = absurd (omega arith)
calm_front depth c (e ∷ b) rest l h k = calm depth c e (b ++ rest) h k

pub inside_read : {a : List ℕ} (depth : ℕ) (rest : List ℕ) → Inside a
    → comment_end depth Other (a ++ rest) ≡ add (length a) (after depth rest)
inside_read {a} depth rest (ends e) =
    rw e (ap (option_map suc) (add_one (after depth rest)) ∙ add_suc 1 (after depth rest))
inside_read {a} depth rest (plain c b e o k h) =
    let i = inside_some h in
    let m = calm_front depth c b rest i (subst (λ t. opens t ≡ false) e o)
    (subst (λ t. closes t ≡ false) e k) in
    rw e (ap (option_map suc) (m ∙ inside_read depth rest h)
    ∙ add_suc (length b) (after depth rest))
inside_read {a} depth rest (inner x y e h k) =
    let first = inside_read (depth + 1) (y ++ rest) h in
    let second = inside_read depth rest k in
    rw e (ap (λ t. option_map suc (option_map suc t))
    (ap (comment_end (depth + 1) Other) (append_assoc x y rest) ∙ first
    ∙ ap (add (length x)) (after_more depth (y ++ rest) ∙ second)
    ∙ add_add (length x) (length y) (after depth rest))
    ∙ ap (option_map suc) (add_suc (length x + length y) (after depth rest))
    ∙ add_suc (suc (length x + length y)) (after depth rest)
    ∙ ap (λ n. add (suc (suc n)) (after depth rest)) (sym (length-append x y)))

-- ---- what is read is a comment's inside

-- the inside of a comment, and of depth further ones
abbrev Closed : ℕ → List ℕ → Type 0
Closed zero a = Inside a
Closed (suc depth) a = (x y : List ℕ) × (a ≡ x ++ y) × Inside x × Closed depth y

plain_front : (depth c e : ℕ) (a x y : List ℕ) → e ∷ a ≡ x ++ y → Inside x → Closed depth y
    → opens (c ∷ e ∷ a) ≡ false → closes (c ∷ e ∷ a) ≡ false → Closed (suc depth) (c ∷ e ∷ a)
plain_front depth c e a [] y w i r o k = let s = inside_some i in absurd (omega arith)
plain_front depth c e a (f ∷ x) y w i r o k =
    let same : e ≡ f = cc in (
      c ∷ f ∷ x,
      y,
      ap (λ t. c ∷ t) w,
      plain c (f ∷ x) refl (subst (λ t. opens (c ∷ t ∷ x) ≡ false) same o)
          (subst (λ t. closes (c ∷ t ∷ x) ≡ false) same k) i,
      r,
    )

-- behind a character that doesn't open or close anything
closed_plain : (depth c : ℕ) (e : ℕ) (a : List ℕ) → opens (c ∷ e ∷ a) ≡ false
    → closes (c ∷ e ∷ a) ≡ false → Closed depth (e ∷ a) → Closed depth (c ∷ e ∷ a)
closed_plain zero c e a o k h = plain c (e ∷ a) refl o k h
closed_plain (suc depth) c e a o k h = plain_front depth c e a h.0 h.1 h.2 h.3 h.4 o k

closed_inner : (depth : ℕ) (a : List ℕ) → Closed (suc depth) a → Closed depth (40 ∷ 42 ∷ a)
closed_inner zero a h = inner h.0 h.1 (ap (λ t. 40 ∷ 42 ∷ t) h.2) h.3 h.4
closed_inner (suc depth) a h =
    let k = h.4 in (
      40 ∷ 42 ∷ (h.0 ++ k.0),
      k.1,
      ap (λ t. 40 ∷ 42 ∷ t) (h.2 ∙ ap (λ t. h.0 ++ t) k.2 ∙ sym (append_assoc h.0 k.0 k.1)),
      inner h.0 k.0 refl h.3 k.3,
      k.4,
    )

closed_end : (depth : ℕ) (a : List ℕ) → Closed depth a → Closed (suc depth) (42 ∷ 41 ∷ a)
closed_end depth a h = (42 ∷ 41 ∷ [], a, refl, ends refl, h)

-- a front of the text, of n characters
pub record Front (text : List ℕ) (n : ℕ) (P : List ℕ → Type 0) : Type 0 where
  pub front : List ℕ
  pub rest : List ℕ
  pub whole : text ≡ front ++ rest
  pub size : length front ≡ n
  pub is : P front

suc_some : (o : Option ℕ) (n : ℕ) → option_map suc o ≡ Some n → (m : ℕ) × (o ≡ Some m) × (n ≡ suc m)
suc_some None n h = absurd cc
suc_some (Some m) n h = (m, refl, cc)

behind : {P Q : List ℕ → Type 0} (e : ℕ) (cs : List ℕ) (m n : ℕ) → n ≡ suc m
    → ((a : List ℕ) → P a → Q (e ∷ a)) → Front cs m P → Front (e ∷ cs) n Q
behind e cs m n s f h =
    record {
      front = e ∷ h.front;
      rest = h.rest;
      whole = ap (λ t. e ∷ t) h.whole;
      size = (let z = h.size in omega arith);
      is = f h.front h.is;
    }

abbrev AtOther : List ℕ → Type 0
AtOther text = (depth n : ℕ) → comment_end depth Other text ≡ Some n
    → Front text n (λ a. Closed depth a)

abbrev AtMark : List ℕ → Type 0
AtMark text = (depth c n : ℕ) → comment_end depth (mark_of c) text ≡ Some n
    → Front text n (λ a. Closed depth (c ∷ a))

abbrev chosen : Bool → Bool → Bool → Bool → ℕ → ℕ → List ℕ → Option ℕ
chosen true q true s depth e cs = comment_end (depth + 1) Other cs
chosen true q false s depth e cs = comment_end depth (mark_of e) cs
chosen false true r true depth e cs = after depth cs
chosen false true r false depth e cs = comment_end depth (mark_of e) cs
chosen false false r s depth e cs = comment_end depth (mark_of e) cs

chosen_is : (depth c e : ℕ) (cs : List ℕ) (p q r s : Bool) → (c == 40) ≡ p → (c == 42) ≡ q
    → (e == 42) ≡ r → (e == 41) ≡ s
    → comment_end depth (mark_of c) (e ∷ cs) ≡ option_map suc (chosen p q r s depth e cs)
chosen_is depth c e cs true q true s a b x y = rw a (rw x refl)
chosen_is depth c e cs true q false s a b x y = rw a (rw x refl)
chosen_is depth c e cs false true r true a b x y = rw a (rw b (rw y refl))
chosen_is depth c e cs false true r false a b x y = rw a (rw b (rw y refl))
chosen_is depth c e cs false false r s a b x y = rw a (rw b refl)

is_number : (c d : ℕ) → (c == d) ≡ true → c ≡ d
is_number c d h = grind (arith, nat_tests)

closing : (cs : List ℕ) → AtOther cs → (depth m : ℕ) → after depth cs ≡ Some m
    → Front cs m (λ a. Closed depth (42 ∷ 41 ∷ a))
closing cs o zero m h = record { front = []; rest = cs; whole = refl; size = cc; is = ends refl }
closing cs o (suc depth) m h =
    let up : depth + 1 ≡ suc depth = omega arith in
    let f = o depth m (sym (after_more depth cs) ∙ ap (λ d. after d cs) up ∙ h) in
    record {
      front = f.front;
      rest = f.rest;
      whole = f.whole;
      size = f.size;
      is = closed_end depth f.front f.is;
    }

mark_step : (cs : List ℕ) → AtOther cs → AtMark cs → (depth c e m : ℕ) (p q r s : Bool)
    → (c == 40) ≡ p → (c == 42) ≡ q → (e == 42) ≡ r → (e == 41) ≡ s
    → chosen p q r s depth e cs ≡ Some m → Front cs m (λ a. Closed depth (c ∷ e ∷ a))
mark_step cs o k depth c e m true q true s a b x y h =
    let c40 = is_number c 40 a in
    let e42 = is_number e 42 x in
    let f = o (depth + 1) m h in
    let up : depth + 1 ≡ suc depth = omega arith in
    let is = closed_inner depth f.front (subst (λ d. Closed d f.front) up f.is) in
    record {
      front = f.front;
      rest = f.rest;
      whole = f.whole;
      size = f.size;
      is = subst (λ t. Closed depth (t ∷ e ∷ f.front)) (sym c40)
          (subst (λ t. Closed depth (40 ∷ t ∷ f.front)) (sym e42) is);
    }
mark_step cs o k depth c e m true q false s a b x y h =
    let f = k depth e m h in
    let no : (c == 42) ≡ false = (let i = is_number c 40 a in rw i refl) in
    record {
      front = f.front;
      rest = f.rest;
      whole = f.whole;
      size = f.size;
      is = closed_plain depth c e f.front (rw a (rw x refl)) (rw no refl) f.is;
    }
mark_step cs o k depth c e m false true r true a b x y h =
    let c42 = is_number c 42 b in
    let e41 = is_number e 41 y in
    let f = closing cs o depth m h in
    record {
      front = f.front;
      rest = f.rest;
      whole = f.whole;
      size = f.size;
      is = subst (λ t. Closed depth (t ∷ e ∷ f.front)) (sym c42)
          (subst (λ t. Closed depth (42 ∷ t ∷ f.front)) (sym e41) f.is);
    }
mark_step cs o k depth c e m false true r false a b x y h =
    let f = k depth e m h in
    record {
      front = f.front;
      rest = f.rest;
      whole = f.whole;
      size = f.size;
      is = closed_plain depth c e f.front (rw a refl) (rw b (rw y refl)) f.is;
    }
mark_step cs o k depth c e m false false r s a b x y h =
    let f = k depth e m h in
    record {
      front = f.front;
      rest = f.rest;
      whole = f.whole;
      size = f.size;
      is = closed_plain depth c e f.front (rw a refl) (rw b refl) f.is;
    }

found : (text : List ℕ) → AtOther text × AtMark text
found [] = (λ depth n h. absurd cc, λ depth c n h. absurd cc)
found (e ∷ cs) =
    let at = found cs in (
      λ depth n h. let s = suc_some (comment_end depth (mark_of e) cs) n h
          in behind e cs s.0 n s.2 (λ a k. k) (at.1 depth e s.0 s.1),
      λ depth c n h. let s =
          suc_some (chosen (c == 40) (c == 42) (e == 42) (e == 41) depth e cs) n
          (sym (chosen_is depth c e cs (c == 40) (c == 42) (e == 42) (e == 41) refl refl refl refl)
          ∙ h) in
          behind e cs s.0 n s.2 (λ a k. k)
          (mark_step cs at.0 at.1 depth c e s.0 (c == 40) (c == 42) (e == 42) (e == 41) refl
          refl refl refl s.1),
    )

-- where the text that follows a comment's opening is read to n, a comment ends there
pub comment_found : (text : List ℕ) (n : ℕ) → comment_end 0 Other text ≡ Some n
    → Front text n Inside
comment_found text n h = (found text).0 0 n h

pub comment_length : {x : List ℕ} (after : List ℕ) → Inside x
    → comment_end 0 Other (x ++ after) ≡ Some (length x)
comment_length {x} after h = inside_read 0 after h ∙ ap Some (omega arith)
