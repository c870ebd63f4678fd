use Rattle.std.proofs.Common.{◌≡◌, ◌+◌, List, [], ◌∷◌, ◌++◌, Option, Some, None, refl, sym, ap, ◌∙◌, length, arith}
use Rattle.std.specs.Prelude.{map, option_map}
use Rattle.fort_form.specs.declared.form.Form.{Form}
use Rattle.fort_form.specs.declared.form.Form.TheVariants as a_form
use Rattle.fort_form.specs.declared.form.Generator.{Generator as FormGenerator}
use Rattle.fort_form.specs.declared.form.Parameter.{Parameter}
use Rattle.fort_tree.specs.declared.expr.Head.{Head, out-Head}
use Rattle.fort_form_meaning.specs.Formed.{formed_generator, formed_head}
use Rattle.fort_form_meaning.specs.Forming.{big_place, reduction, spawned}
use Rattle.fort_form_meaning.specs.Levels.{Opening}
use Rattle.fort_form_meaning.proofs.FormsFlats.{forms-Atomic, forms-Tryatomic, forms-Throw, forms-Spawn, forms-Fn, forms-Big}
use Rattle.fort_form_tasks.specs.Tasks.{head_at}
use Rattle.fort_form_tasks.proofs.Inside.{in-Atomic, in-Tryatomic, in-Throw, in-Spawn, in-Fn, in-Big}
use Rattle.fort_form_build.proofs.Giving.{named_as, nothing, of_one, remade}
use Rattle.fort_form_build.proofs.expressions.headed.Goals as goal

pub returns-in-Atomic : goal.returns-in-Atomic
returns-in-Atomic g c =
    let k = g.L.Lookup.source c.args.lookup.now in
    named_as (nothing (ap (a_form.Atomic c.in-Atomic.spot.place) c.in_ok-boxed.ensures)) (ap (λ
    (x : Head). head_at k (out-Head x)) c.in-Atomic.is ∙ in-Atomic k _) (ap (λ
    (x : Head). formed_head k x c.args.body) c.in-Atomic.is ∙ ap (λ
    (f : Opening). f c.args.body) (forms-Atomic k _))

pub returns-in-Tryatomic : goal.returns-in-Tryatomic
returns-in-Tryatomic g c =
    let k = g.L.Lookup.source c.args.lookup.now in
    named_as (nothing (ap (a_form.Tryatomic c.in-Tryatomic.spot.place) c.in_ok-boxed.ensures))
    (ap (λ (x : Head). head_at k (out-Head x)) c.in-Tryatomic.is ∙ in-Tryatomic k _) (ap (λ
    (x : Head). formed_head k x c.args.body) c.in-Tryatomic.is ∙ ap (λ
    (f : Opening). f c.args.body) (forms-Tryatomic k _))

pub returns-in-Throw : goal.returns-in-Throw
returns-in-Throw g c =
    let k = g.L.Lookup.source c.args.lookup.now in
    named_as (nothing (ap (a_form.Throw c.in-Throw.spot.place) c.in_ok-boxed.ensures)) (ap (λ
    (x : Head). head_at k (out-Head x)) c.in-Throw.is ∙ in-Throw k _) (ap (λ
    (x : Head). formed_head k x c.args.body) c.in-Throw.is ∙ ap (λ
    (f : Opening). f c.args.body) (forms-Throw k _))

pub returns-in_ok-made-in-Fn : goal.returns-in_ok-made-in-Fn
returns-in_ok-made-in-Fn g c =
    let k = g.L.Lookup.source c.args.lookup.now in
    named_as (nothing (ap (λ
    (b : Form). a_form.Fn c.in-Fn.fn_.place c.in_ok-made-in-Fn.made b) c.in_ok-boxed.ensures
    ∙ ap (λ (ps : List Parameter). a_form.Fn c.in-Fn.fn_.place ps c.args.body)
    c.in_ok-made-in-Fn.ensures))
    (ap (λ (x : Head). head_at k (out-Head x)) c.in-Fn.is ∙ in-Fn k _ _ _ _ _) (ap (λ
    (x : Head). formed_head k x c.args.body) c.in-Fn.is ∙ ap (λ
    (f : Opening). f c.args.body) (forms-Fn k _ _ _ _ _))

pub returns-in_ok-held-in-Big : goal.returns-in_ok-held-in-Big
returns-in_ok-held-in-Big g c =
    let k = g.L.Lookup.source c.args.lookup.now in
    remade (ap (λ
    (b : Form). a_form.Reduce c.big_place.result c.reduction.result c.in_ok-held-in-Big.held
    b) c.in_ok-boxed.ensures
    ∙ ap (λ (x : FormGenerator). a_form.Reduce c.big_place.result c.reduction.result x c.args.body)
    c.in_ok-held-in-Big.ensures)
    (of_one (λ
    (x : FormGenerator). a_form.Reduce c.big_place.result c.reduction.result x c.args.body)
    (c.in_ok-bound-in-Big.ensures k)
    (ap (λ (x : Head). head_at k (out-Head x)) c.in-Big.is ∙ in-Big k _ _ _ _)
    (ap (λ (x : Head). formed_head k x c.args.body) c.in-Big.is ∙ ap (λ
    (f : Opening). f c.args.body) (forms-Big k _ _ _ _)
    ∙ ap (λ p. a_form.Reduce p (reduction c.in-Big.big) (formed_generator k c.in-Big.tree)
    c.args.body) (sym c.big_place.ensures)
    ∙ ap (λ r. a_form.Reduce c.big_place.result r (formed_generator k c.in-Big.tree) c.args.body)
    (sym c.reduction.ensures)))

pub returns-in_ok-spawned-in-Spawn : goal.returns-in_ok-spawned-in-Spawn
returns-in_ok-spawned-in-Spawn g c =
    let k = g.L.Lookup.source c.args.lookup.now in
    named_as (nothing (c.in_ok-spawned-in-Spawn.ensures
    ∙ ap (spawned c.spawning.result c.in-Spawn.spot.place) c.in_ok-boxed.ensures
    ∙ ap (λ id. spawned id c.in-Spawn.spot.place c.args.body) c.spawning.ensures)) (ap (λ
    (x : Head). head_at k (out-Head x)) c.in-Spawn.is ∙ in-Spawn k _) (ap (λ
    (x : Head). formed_head k x c.args.body) c.in-Spawn.is ∙ ap (λ
    (f : Opening). f c.args.body) (forms-Spawn k _))
