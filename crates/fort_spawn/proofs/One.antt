-- A component is rewritten as one.
use Rattle.std.proofs.Common.{◌≡◌, true, false, sym, ap, ◌∙◌}
use Rattle.fort_spawn_prelude.proofs.One.{is_one}
use Rattle.fort_spawn.specs.Starts.{starts}
use Rattle.fort_spawn.specs.Rewritten.{IsRewritten, AsItIs, WithPrelude, spawns, names_with, with_prelude}
use Rattle.fort_spawn.specs.Laws.{OneRewriting}

pub one : OneRewriting
one c d e (AsItIs plain is) (AsItIs plain' is') = is ∙ sym is'
one c d e (AsItIs plain is) (WithPrelude has prelude h is') = absurd (cc (plain, has))
one c d e (WithPrelude has prelude h is) (AsItIs plain is') = absurd (cc (plain, has))
one c d e (WithPrelude has prelude h is) (WithPrelude has' prelude' h' is') =
    is ∙ (ap (with_prelude c) (is_one (names_with c) (starts c) prelude prelude' h h') ∙ sym is')
