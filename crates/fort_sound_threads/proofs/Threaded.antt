-- Each run is one of the machine with threads.
use Rattle.std.proofs.Common.{◌≡◌, ℕ, true, Bool, List, [], ◌∷◌, Some, pos, refl, ap, sym, ◌∙◌, subst}
use Rattle.fort_base.specs.declared.ids.DeclId.{DeclId}
use Rattle.fort_base.specs.declared.ty.Ty.{Ty, out-Ty, map-Ty, fold_out-Ty}
use Rattle.fort_base.specs.declared.ty.Ty.TheVariants.{Named, outs-Named}
use Rattle.fort_base.specs.declared.ty.Ty.TheOpen.{Ty-F}
use Rattle.fort_core.specs.declared.program.CoreDecl.{CoreDecl}
use Rattle.fort_core.specs.declared.program.Program.{Program}
use Rattle.fort_core.specs.declared.term.Term.{Call}
use Rattle.fort_core.specs.declared.term.Term as term
use Rattle.fort_core.specs.declared.value.Value.{Value, Small}
use Rattle.fort_types.specs.Relation.{Relation, below_at, relation}
use Rattle.fort_machine.specs.Acts.{enters}
use Rattle.fort_machine.specs.Calls.{Dispatches, by_body}
use Rattle.fort_machine.specs.Marked.{Bare}
use Rattle.fort_machine.specs.Runs.{location}
use Rattle.fort_machine.specs.Types.{below, has_type}
use Rattle.fort_machine.specs.Written.{WrittenIsBare}
use Rattle.fort_sound_typed.specs.Goes.{Complete}
use Rattle.fort_sound_typed.specs.Sound.{Sound}
use Rattle.fort_threads_law_servers.specs.Calls.{getting}
use Rattle.fort_threads_law_servers.specs.Prelude.{object_of, HasPrelude, LeadsTo}
use Rattle.fort_threads_law_servers.specs.Roots.{Starts}
use Rattle.fort_threads_law_worlds.specs.Known.{AreSame, Counts}
use Rattle.fort_threads_law_runs.specs.Premises.{IsThreaded}
use Rattle.fort_threads_law_whole.specs.Early.{IsBeginning}
use Rattle.fort_threads_law_whole.specs.Whole.{EachRunIsThreaded}
use Rattle.fort_threads_law_tables.specs.Tabled.{TabledAround, TabledHasThePrelude, TabledIsSame}
use Rattle.fort_threads_law_thrown.specs.Thrown.{EachThrowsFinely, ThrownAreExceptions}
use Rattle.fort_sound_tables.specs.Leaves.{ground}
use Rattle.fort_sound_tables.specs.Threads.{HasThreads}
use Rattle.fort_sound_threads.specs.Runs.{SoundRunsAreThreaded}
use Rattle.fort_sound_threads.proofs.Calls.{runs_one, one_runs, object_is, objects_are}
use Rattle.fort_sound_threads.proofs.Lookups.{some_is, body_written}
use Rattle.fort_sound_threads.proofs.Opening.{open_or_not, open_stands, variables_shut}
use Rattle.fort_sound_threads.proofs.Tables.{tables}

-- the laws on which it stands
pub record Laws : Type 0 where
  pub bare : WrittenIsBare
  pub prelude : TabledHasThePrelude
  pub same : TabledIsSame
  pub finely : EachThrowsFinely
  pub exceptions : ThrownAreExceptions
  pub run : EachRunIsThreaded

module _ (w : Laws) (p : Program) (sound : Sound p) (all : Complete p) (h : HasThreads p) where
  own_bare : Bare h.owned.text
  own_bare =
      w.bare h.owned.text
      (body_written p all.written h.shared.own_run h.own_text.declared h.owned.text h.own_text.is_decl
      h.own_text.text)

  around : TabledAround p h.called h.begun h.owned h.shared
  around = h.around own_bare

  has_prelude : HasPrelude p h.called × Counts p h.called
  has_prelude = w.prelude p h.called h.tabled

  same : AreSame p h.called h.begun h.owned h.shared
  same = w.same p h.called h.begun h.owned h.shared h.tabled around

  -- an object of a thread has its type
  named_below : (a b : Ty) → relation p.types.below a true b
      ≡ below_at p.types.below (map-Ty Ty Relation (relation p.types.below) (out-Ty a)) true
      (out-Ty b)
  named_below a b =
      ap (λ (f : Relation). f true b)
      (fold_out-Ty Relation (λ layer up b. below_at p.types.below layer up (out-Ty b)) a)

  abbrev X : Ty
  X = Named h.called.thread

  is_object : (l : ℕ) → has_type p (object_of h.called l) (Named h.called.thread) ≡ true
  is_object l =
      ap (λ t. below p t X) (object_is p h.called.thread (location l)) ∙ named_below X X
      ∙ ap (λ z. below_at p.types.below (map-Ty Ty Relation (relation p.types.below) z) true
      (out-Ty X)) (outs-Named h.called.thread)
      ∙ ap (λ z. below_at p.types.below (Ty-F.Named h.called.thread) true z)
      (outs-Named h.called.thread)
      ∙ h.tabled.stands.itself

  threaded_is : IsThreaded p h.called h.begun h.owned h.shared (ground p h.called h.begun)
  threaded_is = record {
    written = all.written;
    prelude = has_prelude.0;
    counts = has_prelude.1;
    same = same;
    apart = h.apart;
    own = h.leaves;
    own_open = h.is_open;
    throws = w.finely p h.called h.begun h.owned sound all (tables p h);
    are_objects = is_object;
  }

  -- `val` is the prelude's
  gets_last : (l : ℕ)
      → LeadsTo p h.called.val (object_of h.called l ∷ [])
      (getting h.called l (Call h.called.wait (term.Value (object_of h.called l) ∷ [])))
  gets_last l c d r =
      let q = runs_one p h.called.val _ h.shared.val h.begins.gets (object_of h.called l ∷ [])
      (objects_are p h.called l) h.begins.val c d r in
      let b = same.gets l in
      let e : d ≡ b.declared =
      q.1 ∙ some_is h.begins.gets b.declared (sym h.begins.val.is_decl ∙ b.is_declared) in (
        b.text,
        ap (λ (y : CoreDecl). by_body p y.body (object_of h.called l ∷ [])) e ∙ b.is_body,
      )

  runs_first : (c : DeclId) (d : CoreDecl) → Dispatches p h.begun.run [] c d → c ≡ h.shared.run
  runs_first c d r =
      (one_runs p h.begun.run h.shared.run h.begins.declared h.begins.run [] c d r).0

  beginning : IsBeginning p h.called h.begun h.shared (ground p h.called h.begun)
  beginning = record {
    queue = h.begins.queue;
    unended = (Small (pos 0), h.begins.unended);
    count = h.begins.count;
    is_open = open_or_not p h.called h.begun;
    open_there = open_stands p h.called h.begun;
    shut = variables_shut p h.called h.begun;
    no_object = λ l. refl;
    runs_first = runs_first;
    gets_last = gets_last;
    exceptions = w.exceptions p h.called h.begun h.owned sound all (tables p h);
  }

  starts : Starts p h.called h.begun
  starts = record {
    is_first = h.begins.first;
    runs_main = λ c d r.
        (same.runs_main h.begun.run [] d
        (subst (λ (x : DeclId). Dispatches p h.begun.run [] x d) (runs_first c d r) r)).1;
    is_main = same.is_main;
    not_started = h.begins.started;
  }

pub threaded : Laws → SoundRunsAreThreaded
threaded w p sound all h =
    w.run p h.called h.begun h.owned h.shared (ground p h.called h.begun) (threaded_is w p sound all h)
    (beginning w p sound all h) (starts w p sound all h)
