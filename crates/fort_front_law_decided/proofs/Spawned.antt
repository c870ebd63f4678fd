-- A component's spawned threads can be rewritten.
use Rattle.std.proofs.Common.{◌≡◌, Bool, true, false, refl}
use Rattle.fort_tree.specs.declared.declarations.Component.{Component}
use Rattle.fort_spawn_prelude.specs.Prelude.{PreludeIsRead}
use Rattle.fort_spawn.specs.Starts.{starts}
use Rattle.fort_spawn.specs.Rewritten.{spawns, names_with, with_prelude, IsRewritten, AsItIs, WithPrelude}
use Rattle.fort_front_law_decided.specs.Phases.{EachIsRewritten}

pub rewritten_each : PreludeIsRead → EachIsRewritten
rewritten_each read c = by (spawns c) refl
  where
    by : (b : Bool) → spawns c ≡ b → (d : Component) × IsRewritten c d
    by false e = (c, AsItIs e refl)
    by true e = let p = read (names_with c) (starts c)
        in (with_prelude c p.0, WithPrelude e p.0 p.1 refl)
