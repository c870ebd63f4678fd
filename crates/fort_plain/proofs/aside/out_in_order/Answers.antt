use Rattle.fort_plain.proofs.Outside.{out_form, out_form_whole}
use Rattle.fort_plain.proofs.aside.out_in_order.Goals as goal

pub returns-clause-inside : goal.returns-clause-inside
returns-clause-inside c =
    λ t keep path place e h. out_form c.args.clock t keep path place c.args.below c.args.frame
    c.args.part c.in_ok-form.form e c.requires c.in_ok-form.ensures h

pub returns-clause-whole : goal.returns-clause-whole
returns-clause-whole c =
    λ t place e h. out_form_whole c.args.clock t place c.args.below c.args.frame c.args.part
    c.in_ok-form.form e c.requires c.in_ok-form.ensures h
