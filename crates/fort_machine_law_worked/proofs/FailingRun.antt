-- The run with a failure inside an atomic.
use Rattle.std.proofs.Common.{◌≡◌, ℕ, ◌+◌, ◌<◌, true, false, if◌then◌else◌, [], ◌∷◌, Some, None, refl, ap, sym, ◌∙◌, arith, inl}
use Rattle.fort_base.specs.declared.ty.Ty.{Ty, Arrow}
use Rattle.fort_base.specs.declared.ty.Ty.TheVariants.{Named}
use Rattle.fort_core.specs.declared.form.Mode.TheVariants as mode
use Rattle.fort_core.specs.declared.form.Slot.{Slot}
use Rattle.fort_core.specs.declared.term.Term.{Term, Throw, Call, Write, Then, Try, Atomic}
use Rattle.fort_core.specs.declared.term.Term as term
use Rattle.fort_core.specs.declared.term.Term.TheVariants.{outs-Try}
use Rattle.fort_core.specs.declared.term.Term.TheOpen.{Value-F}
use Rattle.fort_core.specs.declared.value.Value.{Value, fold-roll-Value}
use Rattle.fort_core.specs.declared.value.Value.TheVariants.{rolls-Object}
use Rattle.fort_machine.specs.Types.{type_at, type_of, has_type, domain_of, below}
use Rattle.fort_machine.specs.Effects.{Store, Effect, idle, paid, writing, making, both, FitsAll, afterwards, completing}
use Rattle.fort_machine.specs.Effects as effects
use Rattle.fort_machine.specs.Ends.{throw_of}
use Rattle.fort_machine.specs.Frames.{in_then, in_try}
use Rattle.fort_machine.specs.Acts.{becomes, enters, unit}
use Rattle.fort_machine.specs.Substitution.{substituted, located}
use Rattle.fort_machine.specs.Forms.{act_at, trying}
use Rattle.fort_machine.specs.Marked.{Bare}
use Rattle.fort_machine.specs.Steps.{by_itself, by_call, Local, steps}
use Rattle.fort_machine.specs.Attempts.{fresh, goes, completed, failed}
use Rattle.fort_machine.specs.Runs.{Runs, none, step, attempt, location}
use Rattle.fort_machine.specs.Journals.{opening_store, MakesWithinBounds}
use Rattle.fort_machine.specs.Worked.{type, set, decl}
use Rattle.fort_machine.proofs.Standing.{standing-throw}
use Rattle.fort_machine.proofs.Picks.{attempt_is_one_pick}
use Rattle.fort_machine.proofs.Plain.{writes_plainly, makes_plainly}
use Rattle.fort_machine_law_worked.specs.Pieces.{number, number_type, plain_decl, written, nine}
use Rattle.fort_machine_law_worked.specs.Failing.{exception, clauses, inner_body, inner, catching, outer_body, outer, failing_body, failing, inner_picks, outer_picks, InnerFails, OuterCompletes, Recovers}
use Rattle.fort_machine_law_worked.proofs.Forms.{bare-Value, bare-Throw, bare-Write, bare-Then, bare-Try, bare-Atomic, bare-Mutable, awake, subst-Value, located-Value, located-Throw, located-Write, located-Then, located-Try, located-Atomic}
use Rattle.fort_machine_law_worked.proofs.Acting.{dispatches, calls_none, makes_one, writes, goes_on, named_in_rows, nine_in_bounds}

-- no form sleeps before the run
bare_inner : (x : Slot) → Bare (inner_body x)
bare_inner x =
    bare-Then _ _ (bare-Write x _ (bare-Value (number 5))) (bare-Throw _ (bare-Value exception))

bare_outer : (x : Slot) → Bare (outer_body x)
bare_outer x =
    bare-Then _ _ (bare-Write x _ (bare-Value (number 1)))
    (bare-Try _ 1 _ _ (bare-Atomic mode.Atomic _ (bare_inner x)) (bare-Value unit))

bare_body : Bare failing_body
bare_body =
    bare-Mutable 0 number_type _ _ (bare-Value (number 0))
    (bare-Atomic mode.Atomic _ (bare_outer written))

-- the location in the variable's place
located_write : (n : ℕ)
    → located 0 9 (Write written (term.Value (number n))) ≡ Write nine (term.Value (number n))
located_write n =
    located-Write 0 9 written (term.Value (number n))
    ∙ ap (Write nine) (located-Value 0 9 (number n))

located_throw : located 0 9 (throw_of exception) ≡ throw_of exception
located_throw = located-Throw 0 9 (term.Value exception) ∙ ap Throw (located-Value 0 9 exception)

located_inner : located 0 9 (inner written) ≡ inner nine
located_inner = located-Atomic 0 9 mode.Atomic (inner_body written)
    ∙ ap (Atomic mode.Atomic)
    (located-Then 0 9 (Write written (term.Value (number 5))) (throw_of exception)
    ∙ (λ i. Then (located_write 5 i) (located_throw i)))

located_catching : located 0 9 (catching written) ≡ catching nine
located_catching =
    located-Try 0 9 (inner written) 1 (term.Value unit) (Named (type 0))
    ∙ (λ i. Try (located_inner i) 1 ((located-Value 0 9 unit i, Named (type 0)) ∷ []) None)

located_outer : located 0 9 (outer written) ≡ outer nine
located_outer = located-Atomic 0 9 mode.Atomic (outer_body written)
    ∙ ap (Atomic mode.Atomic)
    (located-Then 0 9 (Write written (term.Value (number 1))) (catching written)
    ∙ (λ i. Then (located_write 1 i) (located_catching i)))

-- the clause is for E
exception_type : type_of failing exception ≡ Named (type 0)
exception_type = ap (type_of failing) (sym (rolls-Object (type 0) (location 8)))
    ∙ fold-roll-Value (Unit {0}) Ty Ty (λ t. tt) (type_at failing.built_in)
    (λ c. Arrow (domain_of c.parameters) c.result) (Value-F.Object (type 0) (location 8))

has_exception : has_type failing exception (Named (type 0)) ≡ true
has_exception =
    ap (λ t. below failing t (Named (type 0))) exception_type
    ∙ named_in_rows failing.types.below (type 0) (type 0)

catches : Local failing true 0 (Try (throw_of exception) 1 clauses None) (term.Value unit) (paid 1)
catches = steps (becomes (term.Value unit))
    (by_itself (ap (act_at failing) (outs-Try (throw_of exception) 1 clauses None)
    ∙ ap (trying failing 1 clauses None) (standing-throw exception)
    ∙ ap (λ b. becomes (if b then substituted 1 exception (term.Value unit)
    else throw_of exception)) has_exception ∙ ap becomes (subst-Value 1 exception unit)))
    (refl, refl, refl)

-- the inner attempt
abbrev inner_effect : Effect
inner_effect = both (writing 9 (number 5)) (both (paid 1) idle)

inner_run : (s : Store) (v : Value) → s 9 ≡ Some v
    → Runs failing true true s inner_picks (inner_body nine) (goes (throw_of exception))
    inner_effect
inner_run s v e =
    step (in_then (throw_of exception) ∷ []) refl refl refl (writes failing true 9 (number 5))
    ((writes_plainly 9 (number 5) s).0.1 (v, e))
    (step [] refl refl refl (goes_on failing true unit (throw_of exception)) (λ l. tt)
    (none refl refl refl) refl) refl

pub inner_fails : InnerFails
inner_fails s v e = (
  effects.failing inner_effect,
  attempt_is_one_pick failing true true mode.Atomic [] s inner_picks (inner nine)
      (throw_of exception) (inner_body nine) (goes (throw_of exception)) inner_effect
      (effects.failing inner_effect)
      refl (fresh refl) (bare_inner nine) (inl (awake s mode.Atomic (inner_body nine)))
      (inner_run s v e) (failed exception refl refl refl),
  refl,
  refl,
  e,
)

-- the outer attempt
abbrev outer_effect : Effect
outer_effect =
    both (writing 9 (number 1))
    (both (paid 1) (both (effects.failing inner_effect) (both (paid 1) idle)))

outer_run : (s : Store) (v : Value) → s 9 ≡ Some v
    → Runs failing true true s (outer_picks inner_picks) (outer_body nine) (goes (term.Value unit))
    outer_effect
outer_run s v e =
    let s1 : Store = afterwards (writing 9 (number 1)) s in
    let s2 : Store = afterwards (paid 1) s1 in
    step (in_then (catching nine) ∷ []) refl refl refl (writes failing true 9 (number 1))
    ((writes_plainly 9 (number 1) s).0.1 (v, e))
    (step [] refl refl refl (goes_on failing true unit (catching nine)) (λ l. tt)
    (attempt (in_try 1 clauses None ∷ []) refl refl refl (fresh refl) (bare_inner nine)
    (inl (awake s2 mode.Atomic (inner_body nine))) (inner_run s2 (number 1) refl)
    (failed exception refl refl refl)
    (step [] refl refl refl catches (λ l. tt) (none refl refl refl) refl) refl) refl) refl

pub outer_completes : OuterCompletes
outer_completes s v e = (
  completing outer_effect,
  attempt_is_one_pick failing false true mode.Atomic [] s (outer_picks inner_picks) (outer nine)
      (term.Value unit) (outer_body nine) (goes (term.Value unit)) outer_effect
      (completing outer_effect)
      refl (fresh refl) (bare_outer nine) (inl (awake s mode.Atomic (outer_body nine)))
      (outer_run s v e) (completed unit refl refl refl),
  refl,
  refl,
  refl,
)

-- the run
pub first_step : Local failing false 0 (Call (set 0) []) failing_body (paid 1)
first_step =
    steps (enters failing_body failing_body)
    (by_call (calls_none failing (set 0))
    (dispatches failing 0 (decl 0) (plain_decl failing_body) [] refl refl refl) refl)
    (bare_body, refl, refl, refl)

pub second_step : Local failing false 9 failing_body (outer nine) (making 9 (number 0 ∷ []) 1)
second_step =
    makes_one failing false 9 0 number_type (number 0) (outer written) (outer nine) located_outer

abbrev pub store_then : Store
store_then = afterwards (paid 1) (opening_store failing)

nine_is_free : (n : ℕ) → n < 1 → store_then (9 + n) ≡ None
nine_is_free n h = let e : n ≡ 0 = omega arith in ap (λ k. store_then (9 + k)) e

pub nine_made : FitsAll (making 9 (number 0 ∷ []) 1) store_then
nine_made = (makes_plainly 9 (number 0 ∷ []) 1 store_then).0.1 nine_is_free

abbrev done : Effect
done = both (paid 1) (both (making 9 (number 0 ∷ []) 1) (both (completing outer_effect) idle))

within_bounds : MakesWithinBounds done
within_bounds = nine_in_bounds done (λ l q. rw q)

pub recovers : Recovers
recovers = (
  done,
  record {
    is_run = record {
      runs = step [] refl refl refl first_step (λ l. tt)
          (step [] refl refl refl second_step nine_made
          (attempt [] refl refl refl (fresh refl) (bare_outer nine)
          (inl (awake _ mode.Atomic (outer_body nine))) (outer_run _ (number 0) refl)
          (completed unit refl refl refl)
          (none refl refl refl) refl) refl) refl;
      bounded = within_bounds;
    };
    within_fuel = omega arith;
    ends = refl;
  },
  refl,
  refl,
  refl,
)
