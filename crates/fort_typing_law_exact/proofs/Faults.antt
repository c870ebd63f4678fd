-- The order of broken rules, as it is said and as it is computed.
use Rattle.std.proofs.Common.{◌≡◌, ◌⊎◌, inl, inr, ◌<◌, ℕ, zero, suc, Bool, true, false, refl, arith, ap, ◌∙◌, sym}
use Rattle.std.proofs.lemmas.Bool.Decides.{nat_tests}
use Rattle.fort_base.specs.declared.refusal.Place.{Place}
use Rattle.fort_typing_known.specs.declared.fault.Fault.{Fault}
use Rattle.fort_typing_rules.specs.Components.{GoesBefore, earlier, lower}
use Rattle.fort_typing_meaning.specs.Faults.{goes_first}

-- one number below another, the same, or above it
data Ordered (m n : ℕ) : Type 0 where
  under : m < n → Ordered m n
  alike : m ≡ n → Ordered m n
  over : n < m → Ordered m n

ordered : (m n : ℕ) → Ordered m n
ordered zero zero = alike refl
ordered zero (suc n) = under (omega arith)
ordered (suc m) zero = over (omega arith)
ordered (suc m) (suc n) = by (ordered m n)
  where
    by : Ordered m n → Ordered (suc m) (suc n)
    by (under l) = under (omega arith)
    by (alike e) = alike (ap suc e)
    by (over l) = over (omega arith)

same-place : (a b : Place) → a.line ≡ b.line → a.column ≡ b.column → a ≡ b
same-place a b l c =
    ap (λ (n : ℕ). let p : Place = record { line = n; column = a.column } in p) l ∙ ap (λ
    (n : ℕ). let p : Place = record { line = b.line; column = n } in p) c

same-fault : (a b : Fault) → a.rule.0 ≡ b.rule.0 → a.place ≡ b.place → a ≡ b
same-fault a b r p =
    ap (λ (n : ℕ). let f : Fault = record { rule = record { 0 = n }; place = a.place } in f) r
    ∙ ap (λ (q : Place). let f : Fault = record { rule = b.rule; place = q } in f) p

earlier-is : (a b : Fault) → a.place.line < b.place.line → goes_first a b ≡ true
unfolding goes_first
earlier-is a b l = grind (arith, nat_tests)

later-is : (a b : Fault) → b.place.line < a.place.line → goes_first a b ≡ false
unfolding goes_first
later-is a b l = grind (arith, nat_tests)

left-is : (a b : Fault) → a.place.line ≡ b.place.line → a.place.column < b.place.column
    → goes_first a b ≡ true
unfolding goes_first
left-is a b l c = grind (arith, nat_tests)

right-is : (a b : Fault) → a.place.line ≡ b.place.line → b.place.column < a.place.column
    → goes_first a b ≡ false
unfolding goes_first
right-is a b l c = grind (arith, nat_tests)

lower-is : (a b : Fault) → a.place.line ≡ b.place.line → a.place.column ≡ b.place.column
    → a.rule.0 < b.rule.0 → goes_first a b ≡ true
unfolding goes_first
lower-is a b l c r = grind (arith, nat_tests)

higher-is : (a b : Fault) → a.place.line ≡ b.place.line → a.place.column ≡ b.place.column
    → b.rule.0 < a.rule.0 → goes_first a b ≡ false
unfolding goes_first
higher-is a b l c r = grind (arith, nat_tests)

even-is : (a b : Fault) → a.place.line ≡ b.place.line → a.place.column ≡ b.place.column
    → a.rule.0 ≡ b.rule.0 → goes_first a b ≡ false
unfolding goes_first
even-is a b l c r = grind (arith, nat_tests)

not-both : {C : Type 0} {c : Bool} → c ≡ true → c ≡ false → C
not-both t f = absurd cc

-- what goes before is computed to go first
pub before-is : (a b : Fault) → GoesBefore a b → goes_first a b ≡ true
before-is a b (earlier (inl l)) = earlier-is a b l
before-is a b (earlier (inr (l, c))) = left-is a b l c
before-is a b (lower p r) =
    lower-is a b (ap (λ (q : Place). q.line) p) (ap (λ (q : Place). q.column) p) r

-- and the other way round
pub before-told : (a b : Fault) → goes_first a b ≡ true → GoesBefore a b
before-told a b t = lines (ordered a.place.line b.place.line)
  where
    rules : a.place.line ≡ b.place.line → a.place.column ≡ b.place.column
        → Ordered a.rule.0 b.rule.0 → GoesBefore a b
    rules l c (under r) = lower (same-place a.place b.place l c) r
    rules l c (alike r) = not-both t (even-is a b l c r)
    rules l c (over r) = not-both t (higher-is a b l c r)

    columns : a.place.line ≡ b.place.line → Ordered a.place.column b.place.column → GoesBefore a b
    columns l (under c) = earlier (inr (l, c))
    columns l (alike c) = rules l c (ordered a.rule.0 b.rule.0)
    columns l (over c) = not-both t (right-is a b l c)

    lines : Ordered a.place.line b.place.line → GoesBefore a b
    lines (under l) = earlier (inl l)
    lines (alike l) = columns l (ordered a.place.column b.place.column)
    lines (over l) = not-both t (later-is a b l)

-- of two broken rules none of which goes first, both are one
pub neither-first : (a b : Fault) → goes_first a b ≡ false → goes_first b a ≡ false → a ≡ b
neither-first a b f g = lines (ordered a.place.line b.place.line)
  where
    rules : a.place.line ≡ b.place.line → a.place.column ≡ b.place.column
        → Ordered a.rule.0 b.rule.0 → a ≡ b
    rules l c (under r) = not-both (lower-is a b l c r) f
    rules l c (alike r) = same-fault a b r (same-place a.place b.place l c)
    rules l c (over r) = not-both (lower-is b a (sym l) (sym c) r) g

    columns : a.place.line ≡ b.place.line → Ordered a.place.column b.place.column → a ≡ b
    columns l (under c) = not-both (left-is a b l c) f
    columns l (alike c) = rules l c (ordered a.rule.0 b.rule.0)
    columns l (over c) = not-both (left-is b a (sym l) c) g

    lines : Ordered a.place.line b.place.line → a ≡ b
    lines (under l) = not-both (earlier-is a b l) f
    lines (alike l) = columns l (ordered a.place.column b.place.column)
    lines (over l) = not-both (earlier-is b a l) g
