use Rattle.std.proofs.Common.{◌≡◌, rules, subst, sym, codes, ◌∷◌, IfErr}
use Rattle.clap.specs.Walk.{rows_of}
use Rattle.clap.specs.Matches.{found_of}
use Rattle.fort_cmd.specs.Words.{Explains}
use Rattle.fort_cmd.specs.Line.{Reads}
use Rattle.fort_cmd.proofs.Matched.{explained, kind_of_audit, kind_of_check, kind_of_last, kind_of_record, kind_of_run, kind_of_show}
use Rattle.fort_cmd.proofs.command.named.Goals as goal

pub returns-then-eq-clause-cause : goal.returns-then-eq-clause-cause
returns-then-eq-clause-cause c = λ kind behind is r.
    let e : c.args.name.now ≡ codes "run" = search rules in
    explained c.run_of.result (c.args.name.now ∷ behind)
    (c.run_of.ensures.cause behind
    (subst (λ k. Reads k behind (rows_of (found_of c.args.given.now)))
    (kind_of_run kind c.args.name.now is e) r))

pub returns-then-eq-2-clause-cause : goal.returns-then-eq-2-clause-cause
returns-then-eq-2-clause-cause c = λ kind behind is r.
    let e : c.args.name.now ≡ codes "check" = search rules in
    explained c.check_of.result (c.args.name.now ∷ behind)
    (c.check_of.ensures.cause behind
    (subst (λ k. Reads k behind (rows_of (found_of c.args.given.now)))
    (kind_of_check kind c.args.name.now is e) r))

pub returns-then-eq-3-clause-cause : goal.returns-then-eq-3-clause-cause
returns-then-eq-3-clause-cause c = λ kind behind is r.
    let e : c.args.name.now ≡ codes "show" = search rules in
    explained c.show_of.result (c.args.name.now ∷ behind)
    (c.show_of.ensures.cause behind
    (subst (λ k. Reads k behind (rows_of (found_of c.args.given.now)))
    (kind_of_show kind c.args.name.now is e) r))

pub returns-then-eq-5-clause-cause : goal.returns-then-eq-5-clause-cause
returns-then-eq-5-clause-cause c = λ kind behind is r.
    let e : c.args.name.now ≡ codes "record" = search rules in
    explained c.record_of.result (c.args.name.now ∷ behind)
    (c.record_of.ensures.cause behind
    (subst (λ k. Reads k behind (rows_of (found_of c.args.given.now)))
    (kind_of_record kind c.args.name.now is e) r))

pub returns-then-eq-6-clause-cause : goal.returns-then-eq-6-clause-cause
returns-then-eq-6-clause-cause c = λ kind behind is r.
    let e : c.args.name.now ≡ codes "audit" = search rules in
    explained c.audit_of.result (c.args.name.now ∷ behind)
    (c.audit_of.ensures.cause behind
    (subst (λ k. Reads k behind (rows_of (found_of c.args.given.now)))
    (kind_of_audit kind c.args.name.now is e) r))

pub returns-clause-cause : goal.returns-clause-cause
returns-clause-cause c = λ kind behind is r.
    let no_run : c.args.name.now ≡ codes "run" → ⊥ = λ e. search rules in
    let no_check : c.args.name.now ≡ codes "check" → ⊥ = λ e. search rules in
    let no_show : c.args.name.now ≡ codes "show" → ⊥ = λ e. search rules in
    let no_bench : c.args.name.now ≡ codes "bench" → ⊥ = λ e. search rules in
    let no_record : c.args.name.now ≡ codes "record" → ⊥ = λ e. search rules in
    let no_audit : c.args.name.now ≡ codes "audit" → ⊥ = λ e. search rules in
    let last =
    kind_of_last kind c.args.name.now is no_run no_check no_show no_bench no_record no_audit in
    subst (λ name. IfErr c.link_of.result (Explains (name ∷ behind))) (sym last.1)
    (c.link_of.ensures.cause behind
    (subst (λ k. Reads k behind (rows_of (found_of c.args.given.now))) last.0 r))
