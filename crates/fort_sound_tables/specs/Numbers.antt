-- Chapter "The machine with threads": the numbers that were found in a program's tables, as what is
-- known of the prelude.
use Rattle.fort_base.specs.declared.ty.Ty.TheVariants.{Named}
use Rattle.fort_core.specs.declared.term.Term.{Term}
use Rattle.fort_core.specs.declared.value.Value.{Object}
use Rattle.fort_threads.specs.Known.{Known}
use Rattle.fort_threads_law_servers.specs.Prelude.{Names}
use Rattle.fort_threads_law_servers.specs.Roots.{Start}
use Rattle.fort_threads_law_worlds.specs.Known.{Own}
use Rattle.fort_sound_tables.specs.declared.numbers.Numbers.{Numbers}

abbrev pub names : Numbers → Names
names x = record {
  serve = x.sets.serve;
  take = x.sets.take;
  go = x.sets.go;
  make = x.sets.make;
  wait = x.sets.wait;
  val = x.sets.val;
  abort = x.sets.abort;
  plus = x.sets.plus;
  minus = x.sets.minus;
  equal = x.sets.equal;
  differs = x.sets.differs;
  greater = x.sets.greater;
  hash = x.sets.hash;
  body = x.fields.body;
  state = x.fields.state;
  value = x.fields.value;
  next = x.fields.next;
  queue = x.places.queue.0;
  unended = x.places.unended.0;
  count = x.places.count.0;
  thread = x.types.thread;
  exception = Named x.types.exception;
  too_many = Object x.types.refusal x.places.refusal;
}

abbrev pub start : Numbers → Start
start x =
    record {
      run = x.sets.run;
      main = x.sets.main;
      started = x.places.started.0;
      own = x.function;
    }

abbrev pub own : Numbers → Term → Own
own x t = record { set = x.sets.own; text = t; body = t }

abbrev pub known : Numbers → Known
known x =
    record {
      spawn = x.declarations.spawn;
      wait = x.declarations.wait;
      val = x.declarations.val;
      ready = x.declarations.ready;
      run = x.declarations.run;
      own_run = x.declarations.own;
      thread = x.types.thread;
      too_many = Object x.types.refusal x.places.refusal;
    }
