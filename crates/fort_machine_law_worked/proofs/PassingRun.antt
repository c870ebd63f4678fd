-- The run in which a part is passed over.
use Rattle.std.proofs.Common.{◌≡◌, ℕ, true, false, ◌&&◌, ◌||◌, List, [], ◌∷◌, ◌++◌, length, refl, ap, sym, ◌∙◌, arith}
use Rattle.std.specs.List.{list_any}
use Rattle.fort_core.specs.declared.term.Term.{Term, Call, Also, out-Term}
use Rattle.fort_core.specs.declared.term.Term as term
use Rattle.fort_core.specs.declared.term.Term.TheVariants.{outs-Call, outs-Also}
use Rattle.fort_core.specs.declared.term.Term.TheOpen.{Term-F}
use Rattle.fort_core.specs.declared.value.Value.{Text}
use Rattle.fort_machine.specs.Effects.{Effect, idle, paid, both}
use Rattle.fort_machine.specs.Ends.{open_yet, standing_at, standing, throw_of, is_mark, has_stepped, still_by, is_still, throws_by, is_thrown}
use Rattle.fort_machine.specs.Acts.{enters, becomes, unit, with_first, at_values, by_together}
use Rattle.fort_machine.specs.Forms.{act_at}
use Rattle.fort_machine.specs.Marked.{Bare}
use Rattle.fort_machine.specs.Frames.{Frame, in_block, in_throw, plug, part_number, road, passes, passed}
use Rattle.fort_machine.specs.Steps.{by_call, by_itself, Local, steps}
use Rattle.fort_machine.specs.Attempts.{Ready}
use Rattle.fort_machine.specs.Runs.{none, step}
use Rattle.fort_machine.specs.Worked.{set, decl}
use Rattle.fort_machine.proofs.Standing.{standing-throw, or_false}
use Rattle.fort_machine.proofs.Places.{on_layer, out_on, plug_open, ready_open}
use Rattle.fort_machine_law_worked.specs.Pieces.{plain_decl}
use Rattle.fort_machine_law_worked.specs.Failing.{exception}
use Rattle.fort_machine_law_worked.specs.TwoThreads.{printing}
use Rattle.fort_machine_law_worked.specs.Passing.{passing_body, passing, ThrowPasses, PassedIsNoThread}
use Rattle.fort_machine_law_worked.proofs.Forms.{bare-Value, bare-Throw, bare-Also}
use Rattle.fort_machine_law_worked.proofs.Acting.{dispatches, calls_none}
use Rattle.fort_machine_law_worked.proofs.Picked.{goes_on, none_begins}
use Rattle.fort_machine_law_worked.proofs.TwoThreadsRun.{printing_bare}

-- how the blocks stand
printing_open : (s : List ℕ) → standing (printing s) ≡ open_yet
printing_open s = ap standing_at (outs-Call (set 1) (term.Value (Text s) ∷ []))

printing_unmarked : (s : List ℕ) → has_stepped (printing s) ≡ false
printing_unmarked s = ap is_mark (outs-Call (set 1) (term.Value (Text s) ∷ []))

printing_still : (s : List ℕ) → is_still (printing s) ≡ true
printing_still s = λ i. still_by (printing_open s i) (printing_unmarked s i)

throw_thrown : is_thrown (throw_of exception) ≡ true
throw_thrown = ap throws_by (standing-throw exception)

body_bare : Bare passing_body
body_bare = bare-Also _ _ (bare-Throw _ (bare-Value exception)) (printing_bare (98 ∷ []))

first_step : Local passing false 0 (Call (set 0) []) passing_body (paid 1)
first_step =
    steps (enters passing_body passing_body)
    (by_call (calls_none passing (set 0))
    (dispatches passing 0 (decl 0) (plain_decl passing_body) [] refl refl refl) refl)
    (body_bare, refl, refl, refl)

-- the group goes on, since block 1 took no step
second_step : Local passing false 0 passing_body (throw_of exception) (paid 1)
second_step = steps (becomes (throw_of exception))
    (by_itself (ap (act_at passing) (outs-Also _)
    ∙ (λ i. by_together
    (with_first (standing-throw exception i) (has_stepped (throw_of exception))
    (with_first (printing_open (98 ∷ []) i) (printing_unmarked (98 ∷ []) i) (at_values [])))
    (λ vs. becomes (term.Value unit)))))
    (refl, refl, refl)

abbrev done : Effect
done = both (paid 1) (both (paid 1) idle)

pub throw_passes : ThrowPasses
throw_passes = (
  done,
  record {
    is_run = record {
      runs = step [] refl refl refl first_step (λ l. tt)
          (step [] refl refl refl second_step (λ l. tt) (none refl refl refl) refl) refl;
      bounded = λ l v e. absurd cc;
    };
    within_fuel = omega arith;
    ends = refl;
  },
  refl,
  refl,
)

-- part 1 of these blocks is passed over
second_of : (before behind : List Term) (x : Term) (ns : List ℕ)
    → throw_of exception ∷ printing (98 ∷ []) ∷ [] ≡ before ++ x ∷ behind
    → 1 ∷ [] ≡ length before ∷ ns
    → (list_any is_thrown (before ++ behind) && is_still x) ≡ false → ⊥
second_of [] behind x ns e q n = let z : ◌≡◌ {A = ℕ} 1 0 = cc in absurd (omega arith)
second_of (c ∷ []) behind x ns e q n =
    let ec : throw_of exception ≡ c = cc in
    let ex : printing (98 ∷ []) ≡ x = cc in
    let tc : is_thrown c ≡ true = ap is_thrown (sym ec) ∙ throw_thrown in
    let sx : is_still x ≡ true = ap is_still (sym ex) ∙ printing_still (98 ∷ []) in
    let z : true ≡ false = sym (λ i. (tc i || list_any is_thrown behind) && sx i) ∙ n in cc
second_of (c ∷ d ∷ []) behind x ns e q n = absurd cc
second_of (c ∷ d ∷ f ∷ more) behind x ns e q n = absurd cc

second_block : (f : Frame) (x : Term) (ns : List ℕ)
    → Term-F.Also (throw_of exception ∷ printing (98 ∷ []) ∷ []) ≡ on_layer f x
    → 1 ∷ [] ≡ part_number f ++ ns → passes f x ≡ false → ⊥
second_block (in_block before behind) x ns e q n = second_of before behind x ns (cc) q n
second_block in_throw x ns e q n = cc
second_block _ x ns e q n = cc

kept : (gs : List Frame) (a : Term) → passing_body ≡ plug gs a → 1 ∷ [] ≡ road gs → Ready a
    → passed gs a ≡ false → ⊥
kept [] a e q r n = cc
kept (f ∷ gs) a e q r n =
    let o = plug_open gs a (ready_open a r) in
    second_block f (plug gs a) (road gs) (sym (outs-Also _) ∙ ap out-Term e
    ∙ out_on f (plug gs a) o) q (or_false (passes f (plug gs a)) (passed gs a) n).0

pub passed_is_no_thread : PassedIsNoThread
passed_is_no_thread fuel more ending j =
    let one =
    goes_on passing [] _ _ (Call (set 0) []) passing_body _ j.1.0 (paid 1) first_step (λ l. tt)
    j.1.1.is_run.runs in
    none_begins passing (in_block (throw_of exception ∷ []) [] ∷ []) _ _ passing_body _ one.0 kept
    one.1
