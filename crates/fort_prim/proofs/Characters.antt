-- How many characters a text has, byte by byte.
use Rattle.std.proofs.Common.{◌<◌, ◌≤◌, drop, get_or, add-one, drop-cons, ◌≡◌, ℕ, zero, suc, ◌+◌, ◌*◌, ◌-◌, ◌==◌, Bool, true, false, List, [], ◌∷◌, length, if◌then◌else◌, refl, sym, ap, ◌∙◌, arith, subst}
use Rattle.std.proofs.lemmas.Bool.Decides.{Decides-eqb}
use Rattle.std.proofs.Math.ListN.{drop_of_length-le}
use Rattle.std.specs.Str.{chars, chars_after, continuation_len, lead_bits}

-- how many characters end from here on, where so many bytes of one are missing
abbrev pub ending : ℕ → ℕ → List ℕ → ℕ
ending zero c bs = length (chars bs)
ending (suc n) c bs = length (chars_after (suc n) c bs)

same_count : (n c d : ℕ) (bs : List ℕ) → length (chars_after n c bs) ≡ length (chars_after n d bs)
same_count zero c d [] = refl
same_count zero c d (b ∷ bs) = refl
same_count (suc n) c d [] = refl
same_count (suc n) c d (b ∷ bs) = same_count n (c * 64 + (b - 128)) (d * 64 + (b - 128)) bs

one_more : (c : ℕ) (bs : List ℕ) → length (chars_after zero c bs) ≡ suc (length (chars bs))
unfolding chars
one_more c [] = refl
one_more c (b ∷ bs) = refl

begun : (b : ℕ) (bs : List ℕ)
    → length (chars (b ∷ bs)) ≡ length (chars_after (continuation_len b) (lead_bits b) bs)
unfolding chars
begun b bs = refl

unless : (b : Bool) → (b ≡ true → ⊥) → b ≡ false
unless true f = absurd (f refl)
unless false f = refl

more_than_none : (m : ℕ) → (suc m == 0) ≡ false
more_than_none m =
    unless (suc m == 0) (λ e. let k : suc m ≡ 0 = (Decides-eqb (suc m) 0).0 e in omega (arith, k))

if_more : (m k n : ℕ) → (if suc m == 0 then k else n) ≡ n
if_more m k n = ap (λ b. if b then k else n) (more_than_none m)

-- a character that has all but so many of its bytes, as one that ends now or later
ends : (n m c d : ℕ) (bs : List ℕ)
    → (if m == 0 then n + 1 else n) + ending m c bs ≡ n + length (chars_after m d bs)
ends n zero c d bs = omega (arith, one_more d bs)
ends n (suc m) c d bs =
    ap (λ k. k + ending (suc m) c bs) (if_more m (n + 1) n)
    ∙ ap (λ k. n + k) (same_count (suc m) c d bs)

abbrev pub missing_next : ℕ → ℕ → ℕ
missing_next m b = if m == 0 then continuation_len b else m - 1

-- one byte more
pub byte_more : (n m b : ℕ) (bs : List ℕ) (all : ℕ) → ((c : ℕ) → n + ending m c (b ∷ bs) ≡ all)
    → (c : ℕ) → (if missing_next m b == 0 then n + 1 else n) + ending (missing_next m b) c bs ≡ all
byte_more n zero b bs all h c =
    ends n (continuation_len b) c (lead_bits b) bs ∙ ap (λ k. n + k) (sym (begun b bs)) ∙ h 0
byte_more n (suc m) b bs all h c =
    let one_less : suc m - 1 ≡ m = omega arith in
    let e : missing_next (suc m) b ≡ m = if_more m (continuation_len b) (suc m - 1) ∙ one_less in
    subst (λ k. (if k == 0 then n + 1 else n) + ending k c bs
    ≡ all) (sym e) (ends n m c (0 * 64 + (b - 128)) bs ∙ h 0)

-- one byte more of a text, at its place
pub byte_more_at : (k n m next : ℕ) (s : List ℕ) (i all : ℕ) → i < length s
    → next ≡ missing_next m (get_or s i 0) → k ≡ (if next == 0 then n + 1 else n)
    → ((c : ℕ) → n + ending m c (drop i s) ≡ all) → (c : ℕ)
    → k + ending next c (drop (i + 1) s) ≡ all
byte_more_at k n m next s i all lt e f h c =
    let apart : drop i s ≡ get_or s i 0 ∷ drop (i + 1) s = rw (add-one, drop-cons s i 0) refl in
    let more =
    byte_more n m (get_or s i 0) (drop (i + 1) s) all
    (λ d. ap (λ bs. n + ending m d bs) (sym apart) ∙ h d) c in
    ap (λ x. x + ending next c (drop (i + 1) s)) f
    ∙ ap (λ x. (if x == 0 then n + 1 else n) + ending x c (drop (i + 1) s)) e ∙ more

pub counted_then : (k n m : ℕ) → m ≡ 0 → k ≡ n + 1 → k ≡ (if m == 0 then n + 1 else n)
counted_then k n m e h = h ∙ sym (ap (λ x. if x == 0 then n + 1 else n) e)

pub counted_else : (k n m : ℕ) → (m ≡ 0 → ⊥) → k ≡ n → k ≡ (if m == 0 then n + 1 else n)
counted_else k n m e h =
    h ∙ sym (ap (λ b. if b then n + 1 else n) (unless (m == 0) (λ t. e ((Decides-eqb m 0).0 t))))

none_left : (m c : ℕ) → ending m c [] ≡ 0
unfolding chars
none_left zero c = refl
none_left (suc m) c = refl

-- all bytes of a text
pub all_bytes : (n m : ℕ) (s : List ℕ) (i all : ℕ) → length s ≤ i
    → ((c : ℕ) → n + ending m c (drop i s) ≡ all) → n ≡ all
all_bytes n m s i all le h =
    let past : drop i s ≡ [] = drop_of_length-le s le in
    let left : ending m 0 (drop i s) ≡ 0 = ap (ending m 0) past ∙ none_left m 0 in
    omega (arith, h 0, left)
