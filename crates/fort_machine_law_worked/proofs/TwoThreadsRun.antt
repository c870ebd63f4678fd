-- The runs of two threads.
use Rattle.std.proofs.Common.{◌≡◌, ℕ, Bool, true, false, ◌&&◌, ◌||◌, ◌+◌, List, [], ◌∷◌, ◌++◌, map, length, refl, ap, sym, ◌∙◌, arith}
use Rattle.fort_base.specs.declared.ty.Ty.{Ty, Arrow, out-Ty, fold-roll-Ty}
use Rattle.fort_base.specs.declared.ty.Ty.TheVariants.{Named, Any, outs-Any, rolls-Named}
use Rattle.fort_base.specs.declared.ty.Ty.TheOpen.{Ty-F}
use Rattle.fort_core.specs.declared.term.Term.{Term, Call, Also, out-Term, fold-roll-Term}
use Rattle.fort_core.specs.declared.term.Term as term
use Rattle.fort_core.specs.declared.term.Term.TheVariants.{outs-Call, outs-Also, rolls-Call, rolls-Also}
use Rattle.fort_core.specs.declared.term.Term.TheOpen.{Term-F, Value-F}
use Rattle.fort_core.specs.declared.value.Value.{Text, fold-roll-Value}
use Rattle.fort_core.specs.declared.value.Value.TheVariants.{rolls-Text}
use Rattle.fort_types.specs.Relation.{Relation, below_at, relation}
use Rattle.fort_machine.specs.Types.{all_below, type_at, type_of, domain_of}
use Rattle.fort_machine.specs.Texts.{text_at, text}
use Rattle.fort_machine.specs.Primitives.{prints}
use Rattle.fort_machine.specs.Effects.{Effect, idle, paid, printed, both}
use Rattle.fort_machine.specs.Ends.{at_value, open_yet, standing_at, standing, stepped, has_stepped, throws_by, is_thrown}
use Rattle.fort_machine.specs.Acts.{turns, enters, becomes, calls, unit, with_first, at_values, by_together}
use Rattle.fort_machine.specs.Forms.{act_at, act}
use Rattle.fort_machine.specs.Calls.{by_answer}
use Rattle.fort_machine.specs.Marked.{dozes_at, dozes, Bare}
use Rattle.fort_machine.specs.Frames.{Frame, in_block, in_throw, plug, part_number, road, passed}
use Rattle.fort_machine.specs.Steps.{by_call, by_itself, Local, steps}
use Rattle.fort_machine.specs.Attempts.{Ready}
use Rattle.fort_machine.specs.Runs.{none, step}
use Rattle.fort_machine.specs.Worked.{type, set, decl}
use Rattle.fort_machine.proofs.Standing.{standing-Value, standing_stepped}
use Rattle.fort_machine.proofs.Places.{on_layer, out_on, plug_open, ready_open}
use Rattle.fort_machine_law_worked.specs.TwoThreads.{printing, two_blocks, run_decl, print_decl, two_threads, PrintsRightFirst, PrintsLeftFirst, FinishedIsNoThread}
use Rattle.fort_machine_law_worked.proofs.Picked.{value_bare, runs_the_one, goes_on, none_begins, left_reached, right_reached}

-- a text has a type below `Any`, and is itself its text
text_type : (s : List ℕ) → type_of two_threads (Text s) ≡ Named (type 4)
text_type s = ap (type_of two_threads) (sym (rolls-Text s))
    ∙ fold-roll-Value (Unit {0}) Ty Ty (λ t. tt) (type_at two_threads.built_in)
    (λ c. Arrow (domain_of c.parameters) c.result) (Value-F.Text s)

text_itself : (s : List ℕ) → text two_threads (Text s) ≡ s
text_itself s = ap (text two_threads) (sym (rolls-Text s))
    ∙ fold-roll-Value (Unit {0}) (List ℕ) (Unit {0}) (λ t. tt) (text_at two_threads) (λ c. tt)
    (Value-F.Text s)

named_below_any : relation two_threads.types.below (Named (type 4)) true Any ≡ true
named_below_any = ap (λ t. relation two_threads.types.below t true Any) (sym (rolls-Named (type 4)))
    ∙ ap (λ (r : Relation). r true Any)
    (fold-roll-Ty Relation (λ layer up b. below_at two_threads.types.below layer up (out-Ty b))
    (Ty-F.Named (type 4)))
    ∙ ap (below_at two_threads.types.below (Ty-F.Named (type 4)) true) outs-Any

text_fits : (s : List ℕ)
    → all_below two_threads (map (type_of two_threads) (Text s ∷ [])) (Any ∷ []) ≡ true
text_fits s =
    ap (λ t. relation two_threads.types.below t true Any && true) (text_type s)
    ∙ ap (λ b. b && true) named_below_any

-- no form of the program sleeps
pub printing_bare : (s : List ℕ) → dozes (printing s) ≡ false
printing_bare s =
    ap dozes (sym (rolls-Call (set 1) (term.Value (Text s) ∷ [])))
    ∙ fold-roll-Term Bool (Unit {0}) Bool dozes_at (λ w. tt) (λ c. c.body)
    (Term-F.Call (set 1) (term.Value (Text s) ∷ []))
    ∙ ap (λ b. b || false) (value_bare (Text s))

abbrev blocks : List Term
blocks = printing (97 ∷ []) ∷ printing (98 ∷ []) ∷ []

two_blocks_bare : Bare two_blocks
two_blocks_bare =
    ap dozes (sym (rolls-Also blocks))
    ∙ fold-roll-Term Bool (Unit {0}) Bool dozes_at (λ w. tt) (λ c. c.body) (Term-F.Also blocks)
    ∙ (λ j. printing_bare (97 ∷ []) j || (printing_bare (98 ∷ []) j || false))

-- the call of `run`
calls_run : act two_threads (Call (set 0) []) ≡ calls (set 0) []
calls_run = ap (act_at two_threads) (outs-Call (set 0) [])

first_step : Local two_threads false 0 (Call (set 0) []) two_blocks (paid 1)
first_step =
    steps (enters two_blocks two_blocks)
    (by_call calls_run (runs_the_one two_threads 0 (decl 0) run_decl [] refl refl refl) refl)
    (two_blocks_bare, refl, refl, refl)

-- a call of `print`
calls_print : (s : List ℕ) → act two_threads (printing s) ≡ calls (set 1) (Text s ∷ [])
calls_print s =
    ap (act_at two_threads) (outs-Call (set 1) (term.Value (Text s) ∷ []))
    ∙ ap (λ st. by_together (with_first st (has_stepped (term.Value (Text s))) (at_values []))
    (calls (set 1))) (standing-Value (Text s))

print_step : (s : List ℕ)
    → Local two_threads false 0 (printing s) (term.Value unit) (printed s (1 + length s))
print_step s = steps (turns (term.Value unit) s (1 + length s))
    (by_call (calls_print s)
    (runs_the_one two_threads 1 (decl 1) print_decl (Text s ∷ []) refl refl (text_fits s))
    (ap (λ r. by_answer two_threads (prints r)) (text_itself s)))
    (refl, refl, refl)

-- the end of both blocks
abbrev done_block : Term
done_block = stepped (term.Value unit)

last_step : Local two_threads false 0 (Also (done_block ∷ done_block ∷ [])) (term.Value unit)
    (paid 1)
last_step = steps (becomes (term.Value unit))
    (by_itself (ap (act_at two_threads) (outs-Also _)
    ∙ (λ j. by_together
    (with_first (standing_stepped unit j) (has_stepped done_block)
    (with_first (standing_stepped unit j) (has_stepped done_block) (at_values [])))
    (λ vs. becomes (term.Value unit)))))
    (refl, refl, refl)

-- block 0 with what stands behind it, and block 1 with what stands before it
abbrev left : Term → List Frame
left behind = in_block [] (behind ∷ []) ∷ []

abbrev right : Term → List Frame
right before = in_block (before ∷ []) [] ∷ []

printing_thrown : (s : List ℕ) → is_thrown (printing s) ≡ false
printing_thrown s =
    ap (λ y. throws_by (standing_at y)) (outs-Call (set 1) (term.Value (Text s) ∷ []))

done_thrown : is_thrown done_block ≡ false
done_thrown = ap throws_by (standing_stepped unit)

-- what the prints of two texts of one byte do, with the steps of the root thread
abbrev done : ℕ → ℕ → Effect
done m n =
    both (paid 1) (both (printed (m ∷ []) 2) (both (printed (n ∷ []) 2) (both (paid 1) idle)))

pub prints_right_first : PrintsRightFirst
prints_right_first = (
  done 98 97,
  record {
    is_run = record {
      runs = step [] refl refl refl first_step (λ l. tt)
          (step (right (printing (97 ∷ []))) refl refl
          (right_reached (printing (97 ∷ [])) (printing (98 ∷ [])) []
          (printing_thrown (97 ∷ [])) refl) (print_step (98 ∷ [])) (λ l. tt)
          (step (left done_block) refl refl
          (left_reached done_block (printing (97 ∷ [])) [] done_thrown refl)
          (print_step (97 ∷ [])) (λ l. tt)
          (step [] refl refl refl last_step (λ l. tt) (none refl refl refl) refl) refl) refl) refl;
      bounded = λ l v e. absurd cc;
    };
    within_fuel = omega arith;
    ends = refl;
  },
  refl,
  refl,
)

pub prints_left_first : PrintsLeftFirst
prints_left_first = (
  done 97 98,
  record {
    is_run = record {
      runs = step [] refl refl refl first_step (λ l. tt)
          (step (left (printing (98 ∷ []))) refl refl
          (left_reached (printing (98 ∷ [])) (printing (97 ∷ [])) []
          (printing_thrown (98 ∷ [])) refl) (print_step (97 ∷ [])) (λ l. tt)
          (step (right done_block) refl refl
          (right_reached done_block (printing (98 ∷ [])) [] done_thrown refl)
          (print_step (98 ∷ [])) (λ l. tt)
          (step [] refl refl refl last_step (λ l. tt) (none refl refl refl) refl) refl) refl) refl;
      bounded = λ l v e. absurd cc;
    };
    within_fuel = omega arith;
    ends = refl;
  },
  refl,
  refl,
)

-- part 1 of two blocks is the second one
second_of : (before behind : List Term) (x a b : Term) (ns : List ℕ)
    → a ∷ b ∷ [] ≡ before ++ x ∷ behind → 1 ∷ [] ≡ length before ∷ ns → x ≡ b
second_of [] behind x a b ns e q = let z : ◌≡◌ {A = ℕ} 1 0 = cc in absurd (omega arith)
second_of (c ∷ []) behind x a b ns e q = cc
second_of (c ∷ d ∷ []) behind x a b ns e q = absurd cc
second_of (c ∷ d ∷ f ∷ more) behind x a b ns e q = absurd cc

second_block : (a b : Term) (f : Frame) (x : Term) (ns : List ℕ)
    → Term-F.Also (a ∷ b ∷ []) ≡ on_layer f x → 1 ∷ [] ≡ part_number f ++ ns → x ≡ b
second_block a b (in_block before behind) x ns e q = second_of before behind x a b ns (cc) q
second_block a b in_throw x ns e q = absurd cc
second_block a b _ x ns e q = absurd cc

-- a block at a value is no thread
finished : (gs : List Frame) (a : Term) → Also (printing (97 ∷ []) ∷ done_block ∷ []) ≡ plug gs a
    → 1 ∷ [] ≡ road gs → Ready a → passed gs a ≡ false → ⊥
finished [] a e q r n = cc
finished (f ∷ gs) a e q r n =
    let o = plug_open gs a (ready_open a r) in
    let h = second_block (printing (97 ∷ [])) done_block f (plug gs a) (road gs) (sym (outs-Also _)
    ∙ ap out-Term e ∙ out_on f (plug gs a) o) q in
    let z : at_value unit ≡ open_yet = sym (standing_stepped unit) ∙ ap standing (sym h) ∙ o in cc

pub finished_is_no_thread : FinishedIsNoThread
finished_is_no_thread fuel ending j =
    let one =
    goes_on two_threads [] _ _ (Call (set 0) []) two_blocks _ j.1.0 (paid 1) first_step
    (λ l. tt) j.1.1.is_run.runs in
    let two =
    goes_on two_threads (right (printing (97 ∷ []))) _ _ (printing (98 ∷ [])) (term.Value unit)
    _ one.0 (printed (98 ∷ []) 2) (print_step (98 ∷ [])) (λ l. tt) one.1 in
    none_begins two_threads (right (printing (97 ∷ []))) _ _ _ _ two.0 finished two.1
