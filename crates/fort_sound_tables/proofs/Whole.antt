-- All parts together.
use Rattle.std.proofs.Common.{refl}
use Rattle.fort_base.specs.declared.ty.Ty.{Arrow}
use Rattle.fort_base.specs.declared.ty.Ty.TheVariants.{Any}
use Rattle.fort_core.specs.declared.program.Program.{Program}
use Rattle.fort_core.specs.declared.term.Term.{Term}
use Rattle.fort_machine.specs.Marked.{Bare}
use Rattle.fort_threads_law_tables.specs.Tabled.{Tabled, TabledAround, HasText}
use Rattle.fort_sound_tables.specs.declared.numbers.Numbers.{Numbers}
use Rattle.fort_sound_tables.specs.Numbers.{names, start, known, own}
use Rattle.fort_sound_tables.specs.Threads.{nothing_type, HasThreads, RunsPrelude, RunsNumbers, TakesTexts, StartsTexts, StandTypes, StandPlaces, CallsOwn, RunsOwn, AllStandsApart}
use Rattle.fort_sound_tables.proofs.KeepsApart.{keeps_apart}

module _ (p : Program) (x : Numbers) (t : Term) (a : RunsPrelude p x) (b : RunsNumbers p x)
    (c : TakesTexts p x) (d : StartsTexts p x) (e : StandTypes p x) (f : StandPlaces p x)
    (g : CallsOwn x) (h : RunsOwn p x t) (i : AllStandsApart p x) where
  tabled : Tabled p (names x)
  tabled = record {
    serve = a.serve;
    take = a.take;
    go = a.go;
    wait = a.wait;
    maker = x.declarations.make;
    made = d.make.made;
    make = d.make.make;
    makes = d.make.makes;
    fields = e.fields;
    stands = e.alone;
    hash = b.hash;
    equal = b.equal;
    differs = b.differs.runs;
    plus = b.plus;
    minus = b.minus;
    greater = b.greater;
    abort = b.abort;
    apart = f.apart.count_unended;
  }

  abbrev own_text : HasText p x.declarations.own t
  own_text =
      record {
        declared = h.sole.declared;
        is_decl = h.sole.has_one.is_decl;
        text = h.sole.text;
      }

  around : Bare t → TabledAround p (names x) (start x) (own x t) (known x)
  around bare = record {
    thread = refl;
    too_many = refl;
    is_single = (x.types.refusal, e.single);
    spawn = record { declared = c.spawn.declared; is_decl = c.spawn.is_decl; text = c.spawn.text };
    takes_one = Arrow nothing_type Any;
    spawn_takes = c.spawn.takes;
    wait = record { declared = c.wait.declared; is_decl = c.wait.is_decl; text = c.wait.text };
    wait_takes = c.wait.takes;
    val = record { declared = c.val.declared; is_decl = c.val.is_decl; text = c.val.text };
    val_takes = c.val.takes;
    ready = record { declared = c.ready.declared; is_decl = c.ready.is_decl; text = c.ready.text };
    ready_takes = c.ready.takes;
    run = record { declared = d.run.declared; is_decl = d.run.has_one.is_decl; text = d.run.text };
    run_takes = d.run.takes;
    main = x.declarations.main;
    main_declared = d.main.declared;
    has_main = d.main.has_one;
    main_text_is = d.main.text;
    own = own_text;
    same_text = refl;
    bare = bare;
    has_own = h.sole.has_one;
    function = g.function;
    is_function = g.is_function;
    no_parameters = g.no_parameters;
    holds_none = g.holds_none;
    calls_own = g.calls_own;
    apart = (
      f.apart.queue_count,
      f.apart.queue_unended,
      f.apart.queue_started,
      f.apart.count_started,
      f.apart.unended_started,
    );
  }

  pub whole : HasThreads p
  whole = record {
    called = names x;
    begun = start x;
    owned = own x t;
    shared = known x;
    tabled = tabled;
    own_text = own_text;
    around = around;
    exception = e.exception;
    differs = b.differs;
    main =
        record {
          number = x.declarations.main;
          declared = d.main.declared;
          has_one = d.main.has_one;
          gives = d.main.gives;
        };
    own_run =
        record {
          number = x.declarations.own;
          declared = h.sole.declared;
          has_one = h.sole.has_one;
          gives = h.sole.gives;
        };
    function =
        record { function = g.function; is_function = g.is_function; gives = g.gives_unit };
    apart = keeps_apart p x e.fields i;
    leaves = h.leaves;
    is_open = h.is_open;
    begins = record {
      first = f.first;
      declared = d.run.declared;
      run = d.run.has_one;
      gets = c.val.declared;
      val = c.gets;
      queue = f.queue;
      unended = f.unended;
      count = f.count;
      started = f.started;
    };
  }
