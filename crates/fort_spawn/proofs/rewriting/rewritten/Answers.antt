use Rattle.std.proofs.Common.{sym, ap, subst, ◌∙◌}
use Rattle.fort_spawn_prelude.specs.Prelude.{IsPrelude, extended}
use Rattle.fort_spawn.specs.Rewritten.{renamed_over}
use Rattle.fort_spawn.proofs.Steps.{rewritten_is}
use Rattle.fort_spawn.proofs.rewriting.rewritten.Goals as goal

pub returns : goal.returns
returns c =
    let it = c.args.parsed.now.component in
    let b = c.starts-starts.result in
    let all = c.in_ok-found.found.names in
    rewritten_is it b all c.in_ok-found.found.declarations c.in_ok-own.own _
    (sym c.requires ∙ c.if-not-spawns.false) c.starts-starts.ensures
    (c.in_ok-found.ensures.names ∙ ap (λ ns. extended ns b) c.as_slice.ensures)
    (subst (λ ns. IsPrelude (extended ns b) b c.in_ok-found.found.declarations) c.as_slice.ensures
    c.in_ok-found.ensures.prelude)
    (c.in_ok-own.ensures
    ∙ (ap (λ ns. renamed_over b ns c.as_slice-2.result.now c.replace-own.result) c.as_slice-3.ensures
    ∙ (ap (λ ns. renamed_over b all ns c.replace-own.result) c.as_slice-2.ensures
    ∙ ap (renamed_over b all it.names) c.replace-own.ensures.value)))
    c.in_ok-append.ensures.ok
