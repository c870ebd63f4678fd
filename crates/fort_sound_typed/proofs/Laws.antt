-- The laws, each by its name.
use Rattle.std.proofs.Common.{refl, sym, ap, ◌∙◌, subst}
use Rattle.fort_core.specs.declared.value.Value.{roll-Value, roll-out-Value}
use Rattle.fort_core.specs.declared.value.Value.TheVariants.{rolls-Object}
use Rattle.fort_machine.proofs.ProperRuns.{reached_is_proper}
use Rattle.fort_sound_typed.specs.Envs.{none}
use Rattle.fort_sound_typed.specs.Typing.{unit_type, Has}
use Rattle.fort_sound_typed.specs.Sound.{opening, RunsKeep, StaysTyped, RunIsTyped, OneDefinition}
use Rattle.fort_sound_typed.specs.Goes.{NeverStuck, ReachedIsTyped, ReachedIsOne, NoRunIsStuck, ThrownIsObject}
use Rattle.fort_sound_typed.proofs.Runs.{runs_keeps, keeps}
use Rattle.fort_sound_typed.proofs.One.{defined_in}
use Rattle.fort_sound_typed.proofs.Progress.{progress}
use Rattle.fort_sound_typed.proofs.Reached.{reached_typed, reached_finite}
use Rattle.fort_sound_typed.proofs.Accepted.{facts}
use Rattle.fort_sound_typed.proofs.Canonical.{exception_is}
use Rattle.fort_sound_typed.proofs.Rules.{thrown_has}

pub runs_keep : RunsKeep
runs_keep k o inner strict S s picks t r d T m h w = runs_keeps k (facts k o) S T m h w

pub stays_typed : StaysTyped
stays_typed k o inner strict s picks t u d T h w = keeps k (facts k o) T h w

pub run_is_typed : RunIsTyped
run_is_typed k o picks t d r =
    keeps k (facts k o) unit_type (record { types = opening k; store = o.opened; term = o.first })
    r.runs

pub one_definition : OneDefinition
one_definition k o d S G t T h = defined_in k (facts k o) d S G t T h

pub never_stuck : NeverStuck
never_stuck k o def all inner S s t T m fin h p =
    progress k (facts k o) def all inner S s m fin h refl p

pub reached_is_typed : ReachedIsTyped
reached_is_typed k o inner s t r = reached_typed k (facts k o) r

pub reached_is_one : ReachedIsOne
reached_is_one k o d inner s t r =
    let h = reached_typed k (facts k o) r
    in defined_in k (facts k o) d h.1.types none t h.0 h.1.term

pub thrown_is_object : ThrownIsObject
thrown_is_object k o all s t T y v e =
    let h = thrown_has k y.types ((facts k o).transitive)
    (subst (λ u. Has k y.types none u T) e y.term) in
    let x = exception_is k (facts k o) all y.types (y.store).opened v h in
    (x.0, x.1, sym (roll-out-Value v) ∙ ap roll-Value x.2 ∙ rolls-Object x.0 x.1)

pub no_run_is_stuck : NoRunIsStuck
no_run_is_stuck k o d all inner s t r =
    let h = reached_typed k (facts k o) r in
    progress k (facts k o) d all inner h.1.types s h.1.store (reached_finite k r) h.1.term refl
    (reached_is_proper k all.written inner s t r).0
