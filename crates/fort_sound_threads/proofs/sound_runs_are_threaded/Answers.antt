use Rattle.fort_sound_threads.proofs.Threaded.{threaded}
use Rattle.fort_sound_threads.proofs.sound_runs_are_threaded.Goals as goal

pub returns : goal.returns
returns c =
    threaded
    (record {
      bare = c.written_is_bare.ensures;
      prelude = c.tabled_has_the_prelude.ensures;
      same = c.tabled_is_same.ensures;
      finely = c.throws_finely.ensures;
      exceptions = c.thrown_are_exceptions.ensures;
      run = c.each_run_is_threaded.ensures;
    })
