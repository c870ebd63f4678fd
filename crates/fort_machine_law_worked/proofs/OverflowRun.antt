-- The run that overflows.
use Rattle.std.proofs.Common.{◌≡◌, ℕ, Bool, true, false, ◌&&◌, ◌||◌, List, [], ◌∷◌, ◌++◌, map, refl, ap, sym, ◌∙◌, arith, ◌⊎◌, inl, inr}
use Rattle.std.specs.Prelude.{pos, ◌+ℤ◌, ℤ}
use Rattle.fort_base.specs.declared.ty.Ty.{Ty, Arrow, out-Ty, fold-roll-Ty}
use Rattle.fort_base.specs.declared.ty.Ty.TheVariants.{Named, outs-Named, rolls-Named}
use Rattle.fort_base.specs.declared.ty.Ty.TheOpen.{Ty-F}
use Rattle.fort_core.specs.declared.term.Term.{Term, Call, Operator, out-Term, fold-roll-Term}
use Rattle.fort_core.specs.declared.term.Term as term
use Rattle.fort_core.specs.declared.term.Term.TheVariants.{outs-Call, outs-Operator, rolls-Call, rolls-Operator}
use Rattle.fort_core.specs.declared.term.Term.TheOpen.{Term-F, Value-F}
use Rattle.fort_core.specs.declared.value.Value.{Value, Small, out-Value, fold-roll-Value}
use Rattle.fort_core.specs.declared.value.Value.TheVariants.{rolls-Small, outs-Small}
use Rattle.fort_types.specs.Relation.{Relation, below_at, relation}
use Rattle.fort_machine.specs.Types.{all_below, type_at, type_of, domain_of}
use Rattle.fort_machine.specs.Numbers.{number}
use Rattle.fort_machine.specs.Primitives.{ValueKind, small}
use Rattle.fort_machine.specs.Effects.{Effect, idle, paid, both}
use Rattle.fort_machine.specs.Ends.{open_yet, standing_at, standing, throw_of, Finished, stepped, has_stepped}
use Rattle.fort_machine.specs.Acts.{enters, calls, becomes, at_values, with_first, by_together}
use Rattle.fort_machine.specs.Forms.{act_at, act}
use Rattle.fort_machine.specs.Calls.{by_answer}
use Rattle.fort_machine.specs.Marked.{dozes_at, dozes, Bare}
use Rattle.fort_machine.specs.Frames.{Frame, in_call, in_throw, plug, part_number, road, passes, passed}
use Rattle.fort_machine.specs.Steps.{by_call, by_itself, Local, steps}
use Rattle.fort_machine.specs.Attempts.{Ready}
use Rattle.fort_machine.specs.Runs.{none, step}
use Rattle.fort_machine.specs.Worked.{type, set, decl}
use Rattle.fort_machine.proofs.Standing.{standing_stepped_throw, not_finished}
use Rattle.fort_machine.proofs.Places.{on_layer, out_on, plug_open, ready_open}
use Rattle.fort_machine_law_worked.specs.Overflow.{sum, printing_sum, run_decl, plus_decl, overflow, overflowing, Overflows, SumIsPartZero}
use Rattle.fort_machine_law_worked.proofs.Picked.{value_bare, after_value, runs_the_one, goes_on, none_begins}

-- the operands are of ZZ32
small_type : (n : ℤ) → type_of overflowing (Small n) ≡ Named (type 2)
small_type n = ap (type_of overflowing) (sym (rolls-Small n))
    ∙ fold-roll-Value (Unit {0}) Ty Ty (λ t. tt) (type_at overflowing.built_in)
    (λ c. Arrow (domain_of c.parameters) c.result) (Value-F.Small n)

small_below_small : relation overflowing.types.below (Named (type 2)) true (Named (type 2)) ≡ true
small_below_small =
    ap (λ t. relation overflowing.types.below t true (Named (type 2))) (sym (rolls-Named (type 2)))
    ∙ ap (λ (r : Relation). r true (Named (type 2)))
    (fold-roll-Ty Relation (λ layer up b. below_at overflowing.types.below layer up (out-Ty b))
    (Ty-F.Named (type 2)))
    ∙ ap (below_at overflowing.types.below (Ty-F.Named (type 2)) true) (outs-Named (type 2))

below_small : (n : ℤ)
    → relation overflowing.types.below (type_of overflowing (Small n)) true (Named (type 2)) ≡ true
below_small n =
    ap (λ t. relation overflowing.types.below t true (Named (type 2))) (small_type n)
    ∙ small_below_small

abbrev operands : List Value
operands = Small (pos 2147483647) ∷ Small (pos 1) ∷ []

operands_fit : all_below overflowing (map (type_of overflowing) operands)
    (Named (type 2) ∷ Named (type 2) ∷ []) ≡ true
operands_fit = λ j. below_small (pos 2147483647) j && (below_small (pos 1) j && true)

-- no form of the program sleeps
sum_bare : dozes sum ≡ false
sum_bare =
    ap dozes (sym (rolls-Operator (set 2) _))
    ∙ fold-roll-Term Bool (Unit {0}) Bool dozes_at (λ w. tt) (λ c. c.body)
    (Term-F.Operator (set 2) (map term.Value operands))
    ∙ (λ j. value_bare (Small (pos 2147483647)) j || (value_bare (Small (pos 1)) j || false))

printing_sum_bare : Bare printing_sum
printing_sum_bare =
    ap dozes (sym (rolls-Call (set 1) (sum ∷ [])))
    ∙ fold-roll-Term Bool (Unit {0}) Bool dozes_at (λ w. tt) (λ c. c.body)
    (Term-F.Call (set 1) (sum ∷ []))
    ∙ ap (λ b. b || false) sum_bare

-- the call of `run`
calls_run : act overflowing (Call (set 0) []) ≡ calls (set 0) []
calls_run = ap (act_at overflowing) (outs-Call (set 0) [])

first_step : Local overflowing false 0 (Call (set 0) []) printing_sum (paid 1)
first_step =
    steps (enters printing_sum printing_sum)
    (by_call calls_run (runs_the_one overflowing 0 (decl 0) run_decl [] refl refl refl) refl)
    (printing_sum_bare, refl, refl, refl)

-- the sum is too large
calls_plus : act overflowing sum ≡ calls (set 2) operands
calls_plus =
    ap (act_at overflowing) (outs-Operator (set 2) _) ∙ after_value (Small (pos 2147483647)) _
    ∙ after_value (Small (pos 1)) _

operand_kinds : map out-Value operands ≡ Value-F.Small (pos 2147483647) ∷ Value-F.Small (pos 1) ∷ []
operand_kinds = λ j. outs-Small (pos 2147483647) j ∷ outs-Small (pos 1) j ∷ []

second_step : Local overflowing false 0 sum (throw_of overflow) (paid 1)
second_step = steps (becomes (throw_of overflow))
    (by_call calls_plus
    (runs_the_one overflowing 2 (decl 2) plus_decl operands refl refl operands_fit)
    (ap (λ (ks : List ValueKind). by_answer overflowing
    (small overflowing (λ a b. number (a +ℤ b)) ks)) operand_kinds))
    (refl, refl, refl)

-- the call of `println` is thrown
third_step : Local overflowing false 0 (Call (set 1) (stepped (throw_of overflow) ∷ []))
    (throw_of overflow) (paid 1)
third_step = steps (becomes (throw_of overflow))
    (by_itself (ap (act_at overflowing) (outs-Call (set 1) _)
    ∙ ap (λ st. by_together
    (with_first st (has_stepped (stepped (throw_of overflow))) (at_values []))
    (calls (set 1))) (standing_stepped_throw overflow)))
    (refl, refl, refl)

-- what all three do
abbrev done : Effect
done = both (paid 1) (both (paid 1) (both (paid 1) idle))

abbrev at_sum : List Frame
at_sum = in_call (set 1) [] [] ∷ []

pub overflows : Overflows
overflows = (
  done,
  record {
    is_run = record {
      runs = step [] refl refl refl first_step (λ l. tt)
          (step at_sum refl refl refl second_step (λ l. tt)
          (step [] refl refl refl third_step (λ l. tt) (none refl refl refl) refl) refl) refl;
      bounded = λ l v e. absurd cc;
    };
    within_fuel = omega arith;
    ends = refl;
  },
  refl,
  refl,
)

-- the root thread waits for the sum
sum_open : standing sum ≡ open_yet
sum_open = ap standing_at (outs-Operator (set 2) _)

call_has_parts : (arguments : List Term) (f : Frame) (x : Term) (ns : List ℕ)
    → Term-F.Call (set 1) arguments ≡ on_layer f x → [] ≡ part_number f ++ ns → ⊥
call_has_parts arguments (in_call other before behind) x ns e q = cc
call_has_parts arguments in_throw x ns e q = cc
call_has_parts arguments _ x ns e q = cc

waits : (gs : List Frame) (a : Term) → printing_sum ≡ plug gs a → [] ≡ road gs → Ready a
    → passed gs a ≡ false → ⊥
waits [] a e q r n = go (r.no_part (in_call (set 1) [] []) sum (sym e))
  where
    go : Finished sum ⊎ (passes (in_call (set 1) [] []) sum ≡ true) → ⊥
    go (inl h) = not_finished sum sum_open h
    go (inr h) = cc
waits (f ∷ gs) a e q r n =
    call_has_parts (sum ∷ []) f (plug gs a) (road gs) (sym (outs-Call (set 1) _) ∙ ap out-Term e
    ∙ out_on f (plug gs a) (plug_open gs a (ready_open a r))) q

pub sum_is_part_zero : SumIsPartZero
sum_is_part_zero fuel ending j =
    let behind =
    goes_on overflowing [] _ _ (Call (set 0) []) printing_sum _ j.1.0 (paid 1) first_step
    (λ l. tt) j.1.1.is_run.runs in
    none_begins overflowing [] _ _ printing_sum _ behind.0 waits behind.1
