-- What is thrown in a run of an accepted program is an exception.
use Rattle.std.proofs.Common.{[], ◌∷◌, ◌++◌, ap, ◌∙◌, subst}
use Rattle.fort_core.specs.declared.term.Term.{Throw, Stepped}
use Rattle.fort_core.specs.declared.term.Term as term
use Rattle.fort_machine.specs.Ends.{throw_of}
use Rattle.fort_machine.specs.Frames.{in_throw, plug}
use Rattle.fort_machine_law_marks.proofs.Kept.{marks_stand}
use Rattle.fort_sound_typed.specs.Envs.{none}
use Rattle.fort_sound_typed.specs.Typing.{Has}
use Rattle.fort_sound_typed.proofs.Accepted.{facts}
use Rattle.fort_sound_typed.proofs.Canonical.{exception_is}
use Rattle.fort_sound_typed.proofs.Reached.{reached_typed}
use Rattle.fort_sound_typed.proofs.Rules.{thrown_has}
use Rattle.fort_threads_law_thrown.specs.Thrown.{EachThrowsFinely, ThrownAreExceptions}
use Rattle.fort_threads_law_thrown.proofs.Inside.{inner_has}
use Rattle.fort_threads_law_thrown.proofs.Thrown.{plug_one, no_leave, throw_no_value, throw_at, value_at}

pub throws_finely : EachThrowsFinely
throws_finely p n m o sound all tables inner s t r fs a e open_here =
    let k = facts p sound in
    let h = reached_typed p k r in
    throw_at p n m o sound all tables k h.1.types fs a
    (λ u q. no_leave fs
    (marks_stand p all.written inner s t r (fs ++ in_throw ∷ []) u
    (e ∙ ap (λ b. plug fs (Throw b)) q ∙ plug_one fs in_throw (Stepped u))).0)
    (subst (λ u. Has p h.1.types none u h.0) e h.1.term)

pub thrown_are_exceptions : ThrownAreExceptions
thrown_are_exceptions p n m o sound all tables inner s t r fs v e =
    let k = facts p sound in
    let h = reached_typed p k r in
    let w = inner_has p h.1.types fs (throw_of v) (throw_no_value (term.Value v))
    (subst (λ u. Has p h.1.types none u h.0) e h.1.term) in
    let x = thrown_has p h.1.types k.transitive w.has in
    value_at p n m o sound all tables k h.1.types v
    (exception_is p k all h.1.types (h.1.store).opened v x) x
