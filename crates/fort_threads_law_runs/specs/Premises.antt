-- Chapter "The machine with threads": what is taken of a program with spawned threads: it has the
-- prelude, and leaves the prelude's own names to it.
use Rattle.std.specs.Prelude.{◌≡◌, ℕ, Bool, true, false, List}
use Rattle.fort_base.specs.declared.ty.Ty.TheVariants.{Named}
use Rattle.fort_core.specs.declared.program.Program.{Program}
use Rattle.fort_core.specs.declared.term.Term.{Term, Throw}
use Rattle.fort_machine.specs.Effects.{Store}
use Rattle.fort_machine.specs.Ends.{open_yet, standing, is_thrown}
use Rattle.fort_machine.specs.Frames.{Frame, plug}
use Rattle.fort_machine.specs.Proper.{Reached}
use Rattle.fort_machine.specs.Types.{has_type}
use Rattle.fort_machine.specs.Written.{WrittenProgram}
use Rattle.fort_threads.specs.Known.{Known}
use Rattle.fort_threads_law_servers.specs.Prelude.{Names, object_of, HasPrelude}
use Rattle.fort_threads_law_servers.specs.Roots.{Start}
use Rattle.fort_threads_law_private.specs.Grounds.{Ground}
use Rattle.fort_threads_law_private.specs.Apart.{KeepsApart}
use Rattle.fort_threads_law_private.specs.Private.{Private}
use Rattle.fort_threads_law_worlds.specs.Known.{Own, AreSame, Counts}
use Rattle.fort_threads_law_matches.specs.Matches.{IsThrowable}

-- In a term nothing is thrown that isn't a value yet, but what may be.
abbrev pub ThrowsFinely : Names → Start → Own → Term → Type 0
ThrowsFinely n m o t = (fs : List Frame) (a : Term) → t ≡ plug fs (Throw a)
    → standing a ≡ open_yet → IsThrowable n m o a

-- The prelude and what is known of it are the program's; its other declarations leave them alone,
-- and so does the body of the component's own `run`, which isn't a throw as it is written. Where a
-- machine of it comes to, exceptions alone are thrown. An object of `Thread'` has that type.
pub record IsThreaded (p : Program) (n : Names) (m : Start) (o : Own) (k : Known) (g : Ground)
    : Type 0 where
  pub written : WrittenProgram p
  pub prelude : HasPrelude p n
  pub counts : Counts p n
  pub same : AreSame p n m o k
  pub apart : KeepsApart p n m k g
  pub own : Private p n m g o.body
  pub own_open : is_thrown o.body ≡ false
  pub throws : (inner : Bool) (s : Store) (t : Term) → Reached p inner s t → ThrowsFinely n m o t
  pub are_objects : (l : ℕ) → has_type p (object_of n l) (Named n.thread) ≡ true
