-- What the built-in declarations give for small numbers.
use Rattle.std.proofs.Common.{◌≡◌, ℕ, suc, ◌+◌, ◌≤◌, ◌==◌, true, not, if◌then◌else◌, [], ◌∷◌, ℤ, pos, refl, ap, ◌∙◌, arith}
use Rattle.std.specs.Prelude.{nat_lt, int_lt, ◌+ℤ◌, ◌-ℤ◌}
use Rattle.std.specs.Ordering.{int_eq}
use Rattle.std.specs.Int.{w32}
use Rattle.std.proofs.lemmas.Bool.{lt-ltb}
use Rattle.std.proofs.lemmas.Bool.Decides.{Decides-eqb, Decides-int_eq}
use Rattle.std.proofs.Math.IntN as signed
use Rattle.std.specs.Bool.{one_answer}
use Rattle.fort_core.specs.declared.primitive.Primitive.TheVariants.{AddSmall, SubtractSmall, EqualSmall, UnequalSmall, GreaterSmall, RangeCount, Abort}
use Rattle.fort_core.specs.declared.program.CoreBody.TheVariants as body
use Rattle.fort_core.specs.declared.term.Term as term
use Rattle.fort_core.specs.declared.value.Value.{Small, Truth, Range}
use Rattle.fort_core.specs.declared.value.Value.TheVariants.{outs-Small}
use Rattle.fort_machine.specs.Acts.{becomes, ends}
use Rattle.fort_machine.specs.Calls.{by_answer, by_body}
use Rattle.fort_machine.specs.Numbers.{number, too_large, within, is_within}
use Rattle.fort_machine.specs.Primitives.{as_value, small, small_test, two_small, counted}
use Rattle.fort_core.specs.declared.program.Program.{Program}

below_power : (a : ℕ) → a ≤ 66 → is_within w32 (pos a) ≡ true
below_power a h = lt-ltb a 2147483648 (omega (arith, h))

equal_small : (a b : ℕ) → int_eq (pos a) (pos b) ≡ (a == b)
equal_small a b =
    one_answer (int_eq (pos a) (pos b)) (a == b) (
      (λ e. back (Decides-int_eq (pos a) (pos b)).0 e),
      (λ e. (Decides-int_eq (pos a) (pos b)).1 (ap pos e)),
    )
    (Decides-eqb a b)
  where
    back : (int_eq (pos a) (pos b) ≡ true → pos a ≡ pos b) → int_eq (pos a) (pos b) ≡ true → a ≡ b
    back f e = let z : pos a ≡ pos b = f e in cc

module _ (p : Program) where
  pub adds : (a : ℕ) → a ≤ 65
      → by_body p (body.Primitive AddSmall) (Small (pos a) ∷ Small (pos 1) ∷ [])
      ≡ becomes (term.Value (Small (pos (a + 1))))
  adds a h =
      (λ i. by_answer p (small p (λ x y. number (x +ℤ y))
      (outs-Small (pos a) i ∷ outs-Small (pos 1) i ∷ [])))
      ∙ ap (λ b. by_answer p
      (as_value p Small (if b then number (pos (a + 1)) else too_large)))
      (below_power (a + 1) (omega (arith, h)))

  pub takes_away : (a : ℕ) → a ≤ 64
      → by_body p (body.Primitive SubtractSmall) (Small (pos (suc a)) ∷ Small (pos 1) ∷ [])
      ≡ becomes (term.Value (Small (pos a)))
  takes_away a h =
      (λ i. by_answer p (small p (λ x y. number (x -ℤ y))
      (outs-Small (pos (suc a)) i ∷ outs-Small (pos 1) i ∷ [])))
      ∙ ap (λ z. by_answer p (as_value p Small (within w32 (number z))))
      (signed.-ℤ_one (pos (suc a)))
      ∙ ap (λ b. by_answer p
      (as_value p Small (if b then number (pos a) else too_large)))
      (below_power a (omega (arith, h)))

  pub compares : (a b : ℕ)
      → by_body p (body.Primitive EqualSmall) (Small (pos a) ∷ Small (pos b) ∷ [])
      ≡ becomes (term.Value (Truth (a == b)))
  compares a b =
      (λ i. by_answer p (small_test int_eq (outs-Small (pos a) i ∷ outs-Small (pos b) i ∷ [])))
      ∙ ap (λ t. becomes (term.Value (Truth t))) (equal_small a b)

  pub tells : (a b : ℕ)
      → by_body p (body.Primitive UnequalSmall) (Small (pos a) ∷ Small (pos b) ∷ [])
      ≡ becomes (term.Value (Truth (not (a == b))))
  tells a b =
      (λ i. by_answer p
      (small_test (λ x y. not (int_eq x y)) (outs-Small (pos a) i ∷ outs-Small (pos b) i ∷ [])))
      ∙ ap (λ t. becomes (term.Value (Truth (not t)))) (equal_small a b)

  pub is_more : (a b : ℕ)
      → by_body p (body.Primitive GreaterSmall) (Small (pos a) ∷ Small (pos b) ∷ [])
      ≡ becomes (term.Value (Truth (nat_lt b a)))
  is_more a b =
      λ i. by_answer p
      (small_test (λ x y. int_lt y x) (outs-Small (pos a) i ∷ outs-Small (pos b) i ∷ []))

  pub counts : by_body p (body.Primitive RangeCount) (Small (pos 0) ∷ Small (pos 64) ∷ [])
      ≡ becomes (term.Value (Range (pos 0) 64))
  counts =
      λ i. by_answer p
      (two_small (counted p) (outs-Small (pos 0) i ∷ outs-Small (pos 64) i ∷ []))

  pub aborts : by_body p (body.Primitive Abort) [] ≡ ends
  aborts = refl
