-- Chapter "Runs": a part's picks as those of the whole term. The code puts a task's path before the
-- picks of its legs.
use Rattle.std.specs.Prelude.{ℕ, List, [], ◌∷◌, ◌++◌}
use Rattle.fort_core.specs.declared.path.Path.{Path}
use Rattle.fort_core.specs.declared.pick.Pick.{Pick, Step, Attempt, out-Pick}
use Rattle.fort_core.specs.declared.pick.Pick.TheOpen.{Pick-F}
use Rattle.fort_machine.specs.Frames.{Frame, plug, trodden}
use Rattle.fort_machine.specs.Attempts.{Ended, goes, aborts}

-- A path with another one before it.
abbrev pub below_path : List ℕ → Path → Path
below_path path q = record { 0 = path ++ q.0 }

-- A pick with a path before its own, by its kind.
abbrev pub under_at : List ℕ → Pick-F Pick → Pick
under_at path (Pick-F.Step q loc) = Step (below_path path q) loc
under_at path (Pick-F.Attempt q within) = Attempt (below_path path q) within

-- A pick of a part as one of the whole: the part's path before its own. Inner picks stay, since
-- they name threads of their own machine.
abbrev pub under : List ℕ → Pick → Pick
under path pick = under_at path (out-Pick pick)

-- How a part's run ends in the whole: at the whole with the part's term in its place; an abort ends
-- the whole.
abbrev pub ended_in : List Frame → Ended → Ended
ended_in fs (goes t) = goes (plug fs t)
ended_in fs aborts = aborts

-- What stands round a part after some picks of it: as before without any, else each part on the way
-- has its mark.
abbrev pub round_after : List Pick → List Frame → List Frame
round_after [] fs = fs
round_after (pick ∷ picks) fs = trodden fs
