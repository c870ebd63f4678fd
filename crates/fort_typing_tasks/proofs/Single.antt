-- One generator alone, and a target that is forgotten.
use Rattle.std.proofs.Common.{◌≡◌, Bool, true, false, cond, List, [], ◌∷◌, Option, Some, None, refl}
use Rattle.fort_typing_known.specs.Known.{Facts}
use Rattle.fort_ops.specs.declared.op.Op.{Op}
use Rattle.fort_typing_meaning.specs.Parts.{Giving, Judge, State, ask, said, sources, take_part}
use Rattle.fort_typing_meaning.specs.Judging.{assigned_part}
use Rattle.fort_typing_tasks.specs.Tasks.{forgotten, on_source}

either_way : (c : Bool) (s : State) → cond c s s ≡ s
either_way true s = refl
either_way false s = refl

-- behind one generator none is left
pub single_source : (k : Facts) (g : Giving) (s : State) → sources k (g ∷ []) s ≡ on_source k g s
unfolding sources
single_source k g s = either_way (on_source k g s).frame.lost (on_source k g s)

-- an assigned value is asked whatever was asked before it
pub assigned_forgets : (k : Facts) (op : Option Op) (j : Judge) (s : State)
    → assigned_part k op j (forgotten s) ≡ assigned_part k op j s
unfolding ask said take_part
assigned_forgets k None j s = refl
assigned_forgets k (Some op) j s = refl
