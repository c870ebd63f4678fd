-- The two elements of a run that are rewritten, and the turns of a run.
use Rattle.std.proofs.Common.{◌≡◌, ◌≤◌, ◌<◌, ℕ, zero, suc, ◌-◌, true, false, List, [], ◌∷◌, ◌++◌, length, take, drop, get_or, Option, Some, None, refl, arith, ap, ◌∙◌, sym}
use Rattle.std.specs.List.{remove}
use Rattle.fort_typing_known.specs.declared.fault.Fault.{Fault}
use Rattle.fort_typing_known.specs.Known.{Facts}
use Rattle.fort_typing_rules.specs.declared.part.Part.{Part}
use Rattle.fort_typing_rules.specs.Elements.{is_whole}
use Rattle.fort_typing_meaning.specs.declared.frame.Outcome.{Outcome}
use Rattle.fort_typing_meaning.specs.Tests.{untyped}
use Rattle.fort_typing_meaning.specs.Joining.{Around, around, more_before, rewritten, further, run_at, run_within}
use Rattle.fort_typing_joined.specs.Steps.{end_of}

-- ---- two elements

abbrev stands : List Part → Part → Part → List Part → Option Around
stands before one other after =
    Some (record { before = before; one = one; other = other; after = after })

-- the second of two taken off one after another is what stood behind the first
pub taken_apart : (n : ℕ) (ps qs rs : List Part) (one other : Part) → suc n < length ps
    → one ≡ get_or ps n one → qs ≡ remove ps n → other ≡ get_or qs n other → rs ≡ remove qs n
    → around n ps
    ≡ Some (record { before = take n rs; one = one; other = other; after = drop n rs })
taken_apart n [] qs rs one other l f q s r = absurd (omega arith)
taken_apart n (x ∷ []) qs rs one other l f q s r = absurd (omega arith)
taken_apart zero (x ∷ y ∷ ps) qs rs one other l f q s r =
    let s2 : other ≡ y = s ∙ ap (λ (us : List Part). get_or us 0 other) q in
    let r2 : rs ≡ ps = r ∙ ap (λ (us : List Part). remove us 0) q in
    ap (λ (u : Part). stands [] u y ps) (sym f)
    ∙ ap (λ (u : Part). stands [] one u ps) (sym s2)
    ∙ ap (λ (us : List Part). stands (take 0 us) one other (drop 0 us)) (sym r2)
taken_apart (suc n) (x ∷ y ∷ ps) qs rs one other l f q s r =
    let s2 : other ≡ get_or (remove (y ∷ ps) n) n other =
    s ∙ ap (λ (us : List Part). get_or us (suc n) other) q in
    let r2 : rs ≡ x ∷ remove (remove (y ∷ ps) n) n =
    r ∙ ap (λ (us : List Part). remove us (suc n)) q in
    let h = taken_apart n (y ∷ ps) (remove (y ∷ ps) n) (remove (remove (y ∷ ps) n) n) one other
    (omega arith) f refl s2 refl in
    ap (more_before x) h ∙ ap (λ
    (us : List Part). stands (take (suc n) us) one other (drop (suc n) us)) (sym r2)

pub too_short : (n : ℕ) (ps : List Part) → length ps ≤ suc n → around n ps ≡ None
too_short zero [] l = refl
too_short zero (x ∷ []) l = refl
too_short zero (x ∷ y ∷ ps) l = absurd (omega arith)
too_short (suc n) [] l = refl
too_short (suc n) (x ∷ ps) l = ap (more_before x) (too_short n ps (omega arith))

still_one : (n : ℕ) (ps : List Part) → n < length ps → suc (length (remove ps n)) ≡ length ps
still_one n [] l = absurd (omega arith)
still_one zero (x ∷ ps) l = refl
still_one (suc n) (x ∷ ps) l = ap suc (still_one n ps (omega arith))

pub still_within : (n : ℕ) (ps qs rs : List Part) → suc n < length ps → qs ≡ remove ps n
    → rs ≡ remove qs n → n ≤ length rs
still_within n ps qs rs l q r =
    let a = still_one n ps (omega arith) in
    let b : length qs ≡ length (remove ps n) = ap length q in
    let c = still_one n qs (omega (arith, a, b, l)) in
    let d : length rs ≡ length (remove qs n) = ap length r in
    omega (arith, a, b, c, d, l)

-- the two were the whole, where nothing else is there
pub whole_is : (n : ℕ) (ps : List Part) → length ps ≡ 0 → is_whole (take n ps) (drop n ps) ≡ true
whole_is zero [] l = refl
whole_is (suc n) [] l = refl
whole_is n (x ∷ ps) l = absurd (omega arith)

pub not_whole : (n : ℕ) (ps : List Part) → 0 < length ps → is_whole (take n ps) (drop n ps) ≡ false
not_whole n [] l = absurd (omega arith)
not_whole zero (x ∷ ps) l = refl
not_whole (suc n) (x ∷ ps) l = refl

-- ---- turns

pub last_is : (front : List Part) (p : Part) (ps : List Part) → ps ≡ front ++ p ∷ [] → length ps < 2
    → ps ≡ p ∷ []
last_is [] p ps e l = e
last_is (x ∷ []) p ps e l = absurd (let h = ap length e in omega (arith, h, l))
last_is (x ∷ y ∷ front) p ps e l = absurd (let h = ap length e in omega (arith, h, l))

pub ends_run : (k : Facts) (next : Option Fault → List Part → Outcome) (found : Option Fault)
    (ps : List Part) → length ps < 2 → run_at next k found ps ≡ end_of ps found
ends_run k next found [] l = refl
ends_run k next found (p ∷ []) l = refl
ends_run k next found (p ∷ q ∷ ps) l = absurd (omega arith)

pub goes_on : (k : Facts) (next : Option Fault → List Part → Outcome) (found : Option Fault)
    (ps : List Part) → 2 ≤ length ps → run_at next k found ps ≡ further next (rewritten k ps found)
goes_on k next found [] l = absurd (omega arith)
goes_on k next found (p ∷ []) l = absurd (omega arith)
goes_on k next found (p ∷ q ∷ ps) l = refl

pub run_next : (k : Facts) (n i : ℕ) (found : Option Fault) (ps : List Part) → i < n
    → run_within k (n - i) found ps ≡ run_at (run_within k (n - suc i)) k found ps
run_next k n i found ps l =
    let e : n - i ≡ suc (n - suc i) = omega arith in ap (λ (m : ℕ). run_within k m found ps) e

pub run_over : (k : Facts) (n i : ℕ) (found : Option Fault) (ps : List Part) → n ≤ i
    → run_within k (n - i) found ps ≡ untyped found
run_over k n i found ps l =
    let e : n - i ≡ 0 = omega arith in ap (λ (m : ℕ). run_within k m found ps) e
