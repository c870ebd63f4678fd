-- The run with an abort that sleeps.
use Rattle.std.proofs.Common.{◌≡◌, ℕ, ◌==◌, Bool, true, false, ◌&&◌, [], ◌∷◌, map, Option, Some, None, refl, ap, sym, ◌∙◌, subst, arith, rules, inl, inr, pos}
use Rattle.std.specs.Ordering.{int_eq}
use Rattle.fort_base.specs.declared.ty.Ty.{Ty, Arrow}
use Rattle.fort_core.specs.declared.form.Mode.TheVariants as mode
use Rattle.fort_core.specs.declared.form.Slot.{Slot}
use Rattle.fort_core.specs.declared.program.CoreBody.TheVariants as body
use Rattle.fort_core.specs.declared.primitive.Primitive.TheVariants.{EqualSmall}
use Rattle.fort_core.specs.declared.term.Term.{Term, Call, Operator, Write, If, Also, Atomic, Asleep}
use Rattle.fort_core.specs.declared.term.Term as term
use Rattle.fort_core.specs.declared.term.Term.TheVariants.{Read, outs-Atomic, outs-Asleep}
use Rattle.fort_core.specs.declared.term.Term.TheOpen.{Value-F}
use Rattle.fort_core.specs.declared.value.Value.{Value, Truth, out-Value, fold-roll-Value}
use Rattle.fort_core.specs.declared.value.Value.TheVariants.{outs-Small, outs-Truth, rolls-Small}
use Rattle.fort_types.specs.Relation.{relation}
use Rattle.fort_machine.specs.Types.{type_at, type_of, domain_of, all_below}
use Rattle.fort_machine.specs.Primitives.{small_test}
use Rattle.fort_machine.specs.Cells.{untouched, found}
use Rattle.fort_machine.specs.Effects.{Store, Effect, idle, paid, reading, writing, making, both, FitsAll, afterwards, completing, aborting}
use Rattle.fort_machine.specs.Ends.{standing_at, throws_by, stepped}
use Rattle.fort_machine.specs.Frames.{in_block, in_test, in_operand, in_stepped, passed}
use Rattle.fort_machine.specs.Acts.{becomes, enters, unit}
use Rattle.fort_machine.specs.Substitution.{located}
use Rattle.fort_machine.specs.Forms.{choosing}
use Rattle.fort_machine.specs.Calls.{by_answer, by_body}
use Rattle.fort_machine.specs.Marked.{Bare, In}
use Rattle.fort_machine.specs.Steps.{by_call, Local, steps}
use Rattle.fort_machine.specs.Attempts.{Sleeps, AreRead, fresh, slept, goes, aborts, completed, fell_asleep}
use Rattle.fort_machine.specs.Runs.{Runs, none, step, stop, attempt}
use Rattle.fort_machine.specs.Journals.{opening_store, MakesWithinBounds, IsRun}
use Rattle.fort_machine.specs.Worked.{type, set, decl}
use Rattle.fort_machine.proofs.Plain.{reads_plainly, writes_plainly, makes_plainly}
use Rattle.fort_machine_law_worked.specs.Pieces.{number, number_type, plain_decl, written, nine, onward}
use Rattle.fort_machine_law_worked.specs.Sleeping.{test, waiting_body, setting_body, setting, blocks, sleeping_body, equal_decl, abort_decl, sleeping, up_to_sleep, marks, one_asleep, FallsAsleep, Wakes}
use Rattle.fort_machine_law_worked.proofs.Forms.{bare-Value, bare-Call, bare-Operator, bare-Mutable, bare-Read, bare-Write, bare-If, bare-Also, bare-Atomic, awake, located-Value, located-Call, located-Operator, located-Read, located-Write, located-If, located-Also, located-Atomic}
use Rattle.fort_machine_law_worked.proofs.Acting.{dispatches, calls_none, calls_two, makes_one, reads, writes, chooses, ends_both, named_in_rows, nine_in_bounds}
use Rattle.fort_machine.proofs.Standing.{standing_stepped, stepped_stays_open}
use Rattle.fort_machine_law_worked.proofs.Picked.{left_reached, right_reached}
use Rattle.fort_machine_law_worked.proofs.Inverted.{asleep_one}

-- no form sleeps before the run
pub bare_waiting : (x : Slot) → Bare (waiting_body x)
bare_waiting x =
    bare-If _ _ _ (bare-Operator (set 1) _ _ (bare-Read x) (bare-Value (number 0)))
    (bare-Call (set 2)) (bare-Value unit)

bare_setting : (x : Slot) → Bare (setting_body x)
bare_setting x = bare-Write x _ (bare-Value (number 1))

bare_body : Bare sleeping_body
bare_body =
    bare-Mutable 0 number_type _ _ (bare-Value (number 0))
    (bare-Also _ _ (bare-Atomic mode.Atomic _ (bare_waiting written))
    (bare-Atomic mode.Atomic _ (bare_setting written)))

-- the location in the variable's place
located_test : located 0 9 (test written) ≡ test nine
located_test =
    located-Operator 0 9 (set 1) (Read written) (term.Value (number 0))
    ∙ (λ i. Operator (set 1) (located-Read 0 9 written i ∷ located-Value 0 9 (number 0) i ∷ []))

located_waiting : located 0 9 (waiting_body written) ≡ waiting_body nine
located_waiting =
    located-If 0 9 (test written) (Call (set 2) []) (term.Value unit)
    ∙ (λ i. If (located_test i) (located-Call 0 9 (set 2) i) (located-Value 0 9 unit i))

located_setting : located 0 9 (setting_body written) ≡ setting_body nine
located_setting =
    located-Write 0 9 written (term.Value (number 1))
    ∙ ap (Write nine) (located-Value 0 9 (number 1))

located_blocks : located 0 9 (blocks written) ≡ blocks nine
located_blocks = located-Also 0 9 (Atomic mode.Atomic (waiting_body written)) (setting written)
    ∙ ap (λ a. Also (a ∷ located 0 9 (setting written) ∷ []))
    (located-Atomic 0 9 mode.Atomic (waiting_body written)
    ∙ ap (Atomic mode.Atomic) located_waiting)
    ∙ ap (λ a. Also (Atomic mode.Atomic (waiting_body nine) ∷ a ∷ []))
    (located-Atomic 0 9 mode.Atomic (setting_body written)
    ∙ ap (Atomic mode.Atomic) located_setting)

-- `=` of two numbers
number_is : (n : ℕ) → type_of sleeping (number n) ≡ number_type
number_is n = ap (type_of sleeping) (sym (rolls-Small (pos n)))
    ∙ fold-roll-Value (Unit {0}) Ty Ty (λ t. tt) (type_at sleeping.built_in)
    (λ c. Arrow (domain_of c.parameters) c.result) (Value-F.Small (pos n))

number_fits : (n : ℕ)
    → relation sleeping.types.below (type_of sleeping (number n)) true number_type ≡ true
number_fits n =
    ap (λ t. relation sleeping.types.below t true number_type) (number_is n)
    ∙ named_in_rows sleeping.types.below (type 2) (type 2)

numbers_fit : (n m : ℕ)
    → all_below sleeping (map (type_of sleeping) (number n ∷ number m ∷ []))
    (number_type ∷ number_type ∷ []) ≡ true
numbers_fit n m = λ i. number_fits n i && (number_fits m i && true)

equal_answer : (n : ℕ) (b : Bool) → int_eq (pos n) (pos 0) ≡ b
    → by_body sleeping (body.Primitive EqualSmall) (number n ∷ number 0 ∷ [])
    ≡ becomes (term.Value (Truth b))
equal_answer n b e =
    (λ i. by_answer sleeping (small_test int_eq (outs-Small (pos n) i ∷ outs-Small (pos 0) i ∷ [])))
    ∙ ap (λ t. becomes (term.Value (Truth t))) e

tests : (n : ℕ) (b : Bool) → int_eq (pos n) (pos 0) ≡ b
    → Local sleeping true 0 (Operator (set 1) (term.Value (number n) ∷ term.Value (number 0) ∷ []))
    (term.Value (Truth b)) (paid 1)
tests n b e = steps (becomes (term.Value (Truth b)))
    (by_call (calls_two sleeping (set 1) (number n) (number 0))
    (dispatches sleeping 1 (decl 1) equal_decl (number n ∷ number 0 ∷ []) refl refl
    (numbers_fit n 0)) (equal_answer n b e))
    (refl, refl, refl)

chosen : (b : Bool)
    → choosing (out-Value (Truth b)) (Call (set 2) []) (term.Value unit)
    ≡ choosing (Value-F.Truth b) (Call (set 2) []) (term.Value unit)
chosen b = ap (λ k. choosing k (Call (set 2) []) (term.Value unit)) (outs-Truth b)

-- the aborted attempt
abbrev pub abort_effect : Effect
abort_effect = both (reading 9 (number 0)) (both (paid 1) (both (paid 1) (paid 1)))

pub abort_run : (s : Store) → s 9 ≡ Some (number 0)
    → Runs sleeping true true s (onward ∷ onward ∷ onward ∷ onward ∷ []) (waiting_body nine) aborts
    abort_effect
abort_run s e =
    step (in_test (Call (set 2) []) (term.Value unit)
    ∷ in_operand (set 1) [] (term.Value (number 0) ∷ []) ∷ []) refl refl refl
    (reads sleeping true 9 (number 0)) ((reads_plainly 9 (number 0) s).0.1 e)
    (step (in_test (Call (set 2) []) (term.Value unit) ∷ []) refl refl refl (tests 0 true refl)
    (λ l. tt)
    (step [] refl refl refl
    (chooses sleeping true (Truth true) (Call (set 2) []) (term.Value unit)
    (Call (set 2) []) (chosen true)) (λ l. tt)
    (stop [] refl refl refl refl
    (by_call (calls_none sleeping (set 2))
    (dispatches sleeping 2 (decl 2) abort_decl [] refl refl refl) refl) refl refl) refl)
    refl) refl

-- the attempt after the write
abbrev wake_effect : Effect
wake_effect = both (reading 9 (number 1)) (both (paid 1) (both (paid 1) idle))

wake_run : (s : Store) → s 9 ≡ Some (number 1)
    → Runs sleeping true true s (onward ∷ onward ∷ onward ∷ []) (waiting_body nine)
    (goes (term.Value unit)) wake_effect
wake_run s e =
    step (in_test (Call (set 2) []) (term.Value unit)
    ∷ in_operand (set 1) [] (term.Value (number 0) ∷ []) ∷ []) refl refl refl
    (reads sleeping true 9 (number 1)) ((reads_plainly 9 (number 1) s).0.1 e)
    (step (in_test (Call (set 2) []) (term.Value unit) ∷ []) refl refl refl (tests 1 false refl)
    (λ l. tt)
    (step [] refl refl refl
    (chooses sleeping true (Truth false) (Call (set 2) []) (term.Value unit)
    (term.Value unit) (chosen false)) (λ l. tt) (none refl refl refl) refl) refl) refl

-- the attempt that writes
abbrev set_effect : Effect
set_effect = both (writing 9 (number 1)) idle

set_run : (s : Store) (v : Value) → s 9 ≡ Some v
    → Runs sleeping true true s (onward ∷ []) (setting_body nine) (goes (term.Value unit))
    set_effect
set_run s v e =
    step [] refl refl refl (writes sleeping true 9 (number 1))
    ((writes_plainly 9 (number 1) s).0.1 (v, e)) (none refl refl refl) refl

-- the marks are what the aborted attempt read
were_read : (l : ℕ) (v : Value) → In l v marks
    → (w : Option Value) × (abort_effect.cells l ≡ found (Some v) w)
were_read l v (inl e) = (
  None,
  subst (λ k. abort_effect.cells k
      ≡ found (Some v) None) (sym e.0) (ap (λ w. found (Some w) None) (sym e.1)),
)
were_read l v (inr e) = absurd e

are_all : (l : ℕ) (v : Value) (w : Option Value) → abort_effect.cells l ≡ found (Some v) w
    → In l v marks
are_all l v w e = go (9 == l) refl
  where
    go : (b : Bool) → (9 == l) ≡ b → In l v marks
    go true q =
        let k : l ≡ 9 = search (rules, q)
        in let z : found (Some (number 0)) None ≡ found (Some v) w = rw q at e in inl (k, cc)
    go false q = let z : untouched ≡ found (Some v) w = rw q at e in absurd cc

pub marks_read : AreRead marks abort_effect
marks_read = record { were_read = were_read; are_all = are_all }

-- the first two steps
pub first_step : Local sleeping false 0 (Call (set 0) []) sleeping_body (paid 1)
first_step =
    steps (enters sleeping_body sleeping_body)
    (by_call (calls_none sleeping (set 0))
    (dispatches sleeping 0 (decl 0) (plain_decl sleeping_body) [] refl refl refl) refl)
    (bare_body, refl, refl, refl)

pub second_step : Local sleeping false 9 sleeping_body (blocks nine) (making 9 (number 0 ∷ []) 1)
second_step =
    makes_one sleeping false 9 0 number_type (number 0) (blocks written) (blocks nine)
    located_blocks

abbrev pub store_then : Store
store_then = afterwards (paid 1) (opening_store sleeping)

pub nine_made : FitsAll (making 9 (number 0 ∷ []) 1) store_then
nine_made = (makes_plainly 9 (number 0 ∷ []) 1 store_then).0.1 (λ n h. refl)

-- neither block is passed over
pub first_reached : passed (in_block [] (setting nine ∷ []) ∷ [])
    (Atomic mode.Atomic (waiting_body nine)) ≡ false
first_reached =
    left_reached (setting nine) (Atomic mode.Atomic (waiting_body nine)) []
    (ap (λ y. throws_by (standing_at y)) (outs-Atomic mode.Atomic (setting_body nine))) refl

pub second_reached : passed (in_block (stepped (Asleep marks (waiting_body nine)) ∷ []) [] ∷ [])
    (setting nine) ≡ false
second_reached = right_reached (stepped (Asleep marks (waiting_body nine))) (setting nine) []
    (ap throws_by
    (stepped_stays_open (Asleep marks (waiting_body nine))
    (ap standing_at (outs-Asleep marks (waiting_body nine))))) refl

third_reached : passed (in_block [] (stepped (term.Value unit) ∷ []) ∷ in_stepped ∷ [])
    (Asleep marks (waiting_body nine)) ≡ false
third_reached =
    left_reached (stepped (term.Value unit)) (Asleep marks (waiting_body nine)) (in_stepped ∷ [])
    (ap throws_by (standing_stepped unit)) refl

-- up to the sleep
abbrev pub asleep_effect : Effect
asleep_effect =
    both (paid 1) (both (making 9 (number 0 ∷ []) 1) (both (aborting abort_effect) idle))

asleep_bounds : MakesWithinBounds asleep_effect
asleep_bounds = nine_in_bounds asleep_effect (λ l q. rw q)

pub asleep_run : IsRun sleeping (up_to_sleep []) one_asleep asleep_effect
asleep_run = record {
  runs = step [] refl refl refl first_step (λ l. tt) (step [] refl refl refl second_step nine_made
      (attempt (in_block [] (setting nine ∷ []) ∷ []) refl refl first_reached (fresh refl)
      (bare_waiting nine) (inl (awake _ mode.Atomic (waiting_body nine))) (abort_run _ refl)
      (fell_asleep marks refl refl marks_read (tt, tt) refl refl)
      (none refl refl refl) refl) refl) refl;
  bounded = asleep_bounds;
}

pub falls_asleep : FallsAsleep
falls_asleep = (asleep_effect, asleep_run, refl, refl, refl)

-- the write wakes the form
numbers_differ : Some (number 1) ≡ Some (number 0) → ⊥
numbers_differ e =
    let q : number 1 ≡ number 0 = cc in
    let z : Value-F.Small (pos 1) ≡ Value-F.Small (pos 0) =
    sym (outs-Small (pos 1)) ∙ ap out-Value q ∙ outs-Small (pos 0) in cc

wakes_up : (s : Store) → s 9 ≡ Some (number 1) → Sleeps s (Asleep marks (waiting_body nine)) → ⊥
wakes_up s e k =
    let q = asleep_one marks k.marks (waiting_body nine) k.body k.is_asleep in
    numbers_differ (sym e
    ∙ k.unchanged 9 (number 0) (subst (In 9 (number 0)) q.0 (inl (refl, refl))))

abbrev done : Effect
done = both (paid 1)
    (both (making 9 (number 0 ∷ []) 1)
    (both (aborting abort_effect)
    (both (completing set_effect) (both (completing wake_effect) (both (paid 1) idle)))))

within_bounds : MakesWithinBounds done
within_bounds = nine_in_bounds done (λ l q. rw q)

pub wakes : Wakes
wakes = (
  done,
  record {
    is_run = record {
      runs = step [] refl refl refl first_step (λ l. tt)
          (step [] refl refl refl second_step nine_made
          (attempt (in_block [] (setting nine ∷ []) ∷ []) refl refl first_reached (fresh refl)
          (bare_waiting nine) (inl (awake _ mode.Atomic (waiting_body nine)))
          (abort_run _ refl)
          (fell_asleep marks refl refl marks_read (tt, tt) refl refl)
          (attempt (in_block (stepped (Asleep marks (waiting_body nine)) ∷ []) [] ∷ []) refl refl
          second_reached (fresh refl) (bare_setting nine)
          (inl (awake _ mode.Atomic (setting_body nine))) (set_run _ (number 0) refl)
          (completed unit refl refl refl)
          (attempt (in_block [] (stepped (term.Value unit) ∷ []) ∷ in_stepped ∷ []) refl refl
          third_reached (slept marks refl refl) (bare_waiting nine) (inl (wakes_up _ refl))
          (wake_run _ refl)
          (completed unit refl refl refl)
          (step [] refl refl refl
          (ends_both sleeping false (stepped (term.Value unit)) (stepped (term.Value unit))
          unit unit (standing_stepped unit) (standing_stepped unit)) (λ l. tt)
          (none refl refl refl) refl) refl) refl) refl) refl) refl;
      bounded = within_bounds;
    };
    within_fuel = omega arith;
    ends = refl;
  },
  refl,
  refl,
  refl,
)
