use Rattle.std.proofs.Common.{◌≡◌, ◌+◌, List, [], ◌∷◌, ◌++◌, Option, Some, None, true, false, refl, sym, ap, ◌∙◌, length, arith, rules}
use Rattle.std.specs.Prelude.{map, option_map}
use Rattle.std.proofs.lemmas.List.{length-map}
use Rattle.fort_form.specs.declared.form.Form.TheVariants as a_form
use Rattle.fort_tree.specs.declared.delimited.BlockItem.{BlockItem}
use Rattle.fort_form_tasks.specs.Tasks.{formed_block, item_value}
use Rattle.fort_form_build.proofs.Giving.{by, nothing}
use Rattle.fort_form_build.proofs.Parts.{no_items}
use Rattle.fort_form_build.proofs.blocks.block.Goals as goal

pub returns-in-None : goal.returns-in-None
returns-in-None g c =
    let k = g.L.Lookup.source c.args.lookup.now in
    by (map (item_value k)) (formed_block k c.args.word)
    (sym (no_items c.args.entries.now c.in-None.ensures.cases))
    (nothing (ap (a_form.Block c.args.word.place) c.new.ensures))

pub returns-in_ok-filled-in-Some : goal.returns-in_ok-filled-in-Some
returns-in_ok-filled-in-Some g c =
    let k = g.L.Lookup.source c.args.lookup.now in
    by (map (item_value k)) (formed_block k c.args.word) (sym c.in-Some.ensures.cases.0)
    (c.in_ok-filled-in-Some.ensures c.args.word)
