-- A run from one turn to the next.
use Rattle.std.proofs.Common.{◌≡◌, ◌≤◌, ◌<◌, ℕ, suc, ◌+◌, ◌-◌, List, length, Option, arith, ap, ◌∙◌, sym}
use Rattle.fort_typing_known.specs.declared.fault.Fault.{Fault}
use Rattle.fort_typing_known.specs.Known.{Facts}
use Rattle.fort_typing_rules.specs.declared.part.Part.{Part}
use Rattle.fort_typing_meaning.specs.declared.frame.Outcome.{Outcome}
use Rattle.fort_typing_meaning.specs.Tests.{untyped}
use Rattle.fort_typing_meaning.specs.Joining.{on, stop, further, rewritten, run_within}
use Rattle.fort_typing_joined.specs.declared.runs.Turned.TheVariants as a_turn
use Rattle.fort_typing_joined.specs.Steps.{IsTurn, end_of}
use Rattle.fort_typing_joined.proofs.Steps.{ends_run, goes_on, run_next}

-- ---- one turn

pub turn_ends : (k : Facts) (ps : List Part) (found : Option Fault) (o : Outcome) → length ps < 2
    → o ≡ end_of ps found → IsTurn k ps found (a_turn.Ends o)
turn_ends k ps found o l e next = ends_run k next found ps l ∙ sym e

pub turn_stops : (k : Facts) (ps : List Part) (found new : Option Fault) (o : Outcome)
    → 2 ≤ length ps → stop new ≡ rewritten k ps found → o ≡ untyped new
    → IsTurn k ps found (a_turn.Ends o)
turn_stops k ps found new o l r e next =
    goes_on k next found ps l ∙ ap (further next) (sym r) ∙ sym e

pub turn_goes : (k : Facts) (ps qs : List Part) (found new : Option Fault) → 2 ≤ length ps
    → on qs new ≡ rewritten k ps found → IsTurn k ps found (a_turn.Goes qs new)
turn_goes k ps qs found new l r next = goes_on k next found ps l ∙ ap (further next) (sym r)

-- ---- the turns of a run

pub ended_there : (k : Facts) (n i : ℕ) (found : Option Fault) (ps : List Part) (o : Outcome)
    → i < n → IsTurn k ps found (a_turn.Ends o) → run_within k (n - i) found ps ≡ o
ended_there k n i found ps o l t = run_next k n i found ps l ∙ t (run_within k (n - suc i))

pub gone_on : (k : Facts) (n i : ℕ) (found new : Option Fault) (ps qs : List Part) → i < n
    → IsTurn k ps found (a_turn.Goes qs new)
    → run_within k (n - i) found ps ≡ run_within k (n - (i + 1)) new qs
gone_on k n i found new ps qs l t =
    let e : n - suc i ≡ n - (i + 1) = omega arith in
    run_next k n i found ps l ∙ t (run_within k (n - suc i)) ∙ ap (λ
    (m : ℕ). run_within k m new qs) e
