-- Chapter "The machine with threads": the picks of a thread in both machines.
use Rattle.std.specs.Prelude.{List, [], ◌∷◌}
use Rattle.fort_base.specs.declared.ids.Loc.{Loc}
use Rattle.fort_core.specs.declared.path.Path.{Path}
use Rattle.fort_core.specs.declared.pick.Pick.{Pick, Step, Attempt}

-- Picks of the machine, and those of the machine with threads: the same steps and attempts in the
-- same order; but picks within a call of the prelude are left out, and one of them stands for the
-- step of the call's own form.
pub data Told : List Pick → List Pick → Type 0 where
  none : Told [] []
  left_out : {picks told : List Pick} (pick : Pick) → Told picks told → Told (pick ∷ picks) told
  by_itself : {picks told : List Pick} (pick : Pick) (path : Path) (loc : Loc) → Told picks told
      → Told (pick ∷ picks) (Step path loc ∷ told)
  step : {picks told : List Pick} (path : Path) (loc : Loc) → Told picks told
      → Told (Step path loc ∷ picks) (Step path loc ∷ told)
  attempt : {picks told within inside : List Pick} (path : Path) → Told within inside
      → Told picks told → Told (Attempt path within ∷ picks) (Attempt path inside ∷ told)
