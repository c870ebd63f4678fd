-- What keeps a book.
use Rattle.std.proofs.Common.{◌≡◌, Bool, true, List, [], ◌∷◌, ◌++◌, map, refl, ap, sym, ◌∙◌, subst}
use Rattle.std.proofs.lemmas.List.{append-nil}
use Rattle.fort_core.specs.declared.pick.Pick.{Pick}
use Rattle.fort_core.specs.declared.program.Program.{Program}
use Rattle.fort_core.specs.declared.term.Term.{Term}
use Rattle.fort_machine.specs.Attempts.{Ended, goes}
use Rattle.fort_machine.specs.Effects.{Store, Effect, idle, both, afterwards}
use Rattle.fort_machine.specs.Frames.{plug, road, trodden}
use Rattle.fort_machine.specs.Journals.{MakesWithinBounds}
use Rattle.fort_machine.specs.Proper.{at_first, by_run, in_attempt}
use Rattle.fort_machine.specs.Runs.{Runs, none}
use Rattle.fort_machine.specs.Threads.{under, ended_in, round_after}
use Rattle.fort_machine.proofs.ProperRuns.{enters_bare}
use Rattle.fort_machine.proofs.Runs.{append, runs_fit}
use Rattle.fort_machine.proofs.Single.{one_run}
use Rattle.fort_machine.proofs.Split.{runs_part}
use Rattle.fort_machine.proofs.WholeEffects.{both_fits, both_idle, both_meet, fits_then}
use Rattle.fort_walk_law_course.proofs.Bounds.{both_bounded}
use Rattle.fort_hall_law_books.specs.Books.{store_after}
use Rattle.fort_hall_law_books.specs.BookLaws.{BeginsBook, OpensBook, SubmitsSteps, SubmitsAttempt, SuitsIsMeets, FinishedIsTried, BookCompletes, BookThrows, BookIsReached, OutputGrows}
use Rattle.fort_hall_law_books.proofs.Taken.{stepped_is_framed, stepped_lifts, tried_is_framed, tried_lifts, tried_runs}

pub idle_bounded : MakesWithinBounds idle
idle_bounded l v h = absurd cc

pub begins_book : BeginsBook
begins_book p = record {
  reached = at_first refl refl refl;
  runs = none refl refl refl;
  bounded = idle_bounded;
}

pub book_is_reached : BookIsReached
book_is_reached p o picks t d b = by_run b.reached b.runs refl

pub opens_book : OpensBook
opens_book p o picks d fs m a body written b form =
    let here = book_is_reached p o picks (plug fs a) d b in (
      (enters_bare p written o.inner (store_after o d) (plug fs a) here fs a refl).1 m body form,
      record {
        reached = in_attempt fs here refl form refl;
        runs = none refl refl refl;
        bounded = idle_bounded;
      },
    )

pub submits_steps : SubmitsSteps
submits_steps p o picks more fs s t r d e b v m leg f n =
    let own = stepped_is_framed p o.inner s (store_after o d) t more r e leg f in
    record {
      reached = b.reached;
      runs = append o.store picks o.first (goes (plug fs t)) d b.runs (plug fs t) refl
          (map (under (road fs)) more) (ended_in (round_after more fs) r) e
          (stepped_lifts p o.inner fs (store_after o d) t more r e v m own).runs;
      bounded = both_bounded d e b.bounded n;
    }

pub submits_attempt : SubmitsAttempt
submits_attempt p o picks more fs s t form u d e b v m k f may n =
    let own = tried_is_framed p s (store_after o d) t form u more e k f in
    record {
      reached = b.reached;
      runs = append o.store picks o.first (goes (plug fs t)) d b.runs (plug fs t) refl
          (map (under (road fs)) more) (goes (plug (trodden fs) u)) e
          (tried_runs p o.inner (store_after o d) (plug fs t) form (plug (trodden fs) u)
          (map (under (road fs)) more) e
          (tried_lifts p fs (store_after o d) t form u more e v m own) may);
      bounded = both_bounded d e b.bounded n;
    }

pub suits_is_meets : SuitsIsMeets
suits_is_meets p o picks r d e b =
    let f = runs_fit o.store picks o.first r d b.runs in
    (λ g. (both_meet d e o.store f g, both_fits d e o.store f g), λ m g. fits_then d e o.store m g)

pub finished_is_tried : FinishedIsTried
finished_is_tried p o picks r d e fs m a body b k inner first bare form reached close = record {
  frames = fs;
  mode = m;
  body = body;
  within = picks;
  ended = r;
  done = d;
  becomes = b;
  is_picks = refl;
  is_term = refl;
  reached = reached;
  is_form = form;
  bare = bare;
  runs = subst (λ i. Runs p i true o.store picks body r d) inner
      (subst (λ t. Runs p o.inner true o.store picks t r d) first k.runs);
  closes = close;
  is_new = refl;
}

pub book_completes : BookCompletes
book_completes p fuel picks d b l = record {
  is_run = record { runs = b.runs; bounded = b.bounded };
  within_fuel = l;
  ends = refl;
}

pub book_throws : BookThrows
book_throws p fuel picks d v b l = record {
  is_run = record { runs = b.runs; bounded = b.bounded };
  within_fuel = l;
  ends = refl;
}

-- the picks determine what was done
grown : (p : Program) (inner : Bool) (s : Store) (t : Term) (picks : List Pick) (pick : Pick)
    (more : List Pick) (r r' : Ended) (d d' : Effect)
    → Runs p inner true s picks t r d → Runs p inner true s (picks ++ pick ∷ more) t r' d'
    → (e : Effect) × (d' ≡ both d e)
grown p inner s t picks pick more r r' d d' k n =
    let parts = runs_part p inner true s picks pick more t r' d' n in
    let same = one_run p inner true s picks t (goes parts.middle) r parts.first d parts.before k in
    (parts.second, parts.is_both ∙ ap (λ x. both x parts.second) same.1)

pub output_grows : OutputGrows
output_grows p inner s t picks [] r r' d d' k n = (
  idle,
  sym (one_run p inner true s picks t r r' d d' k
      (subst (λ x. Runs p inner true s x t r' d') (append-nil picks) n)).1 ∙ sym (both_idle d),
)
output_grows p inner s t picks (pick ∷ more) r r' d d' k n =
    grown p inner s t picks pick more r r' d d' k n
