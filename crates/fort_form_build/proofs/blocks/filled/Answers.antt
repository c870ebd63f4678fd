use Rattle.std.proofs.Common.{◌≡◌, ◌+◌, List, [], ◌∷◌, ◌++◌, Option, Some, None, true, false, refl, sym, ap, ◌∙◌, length, arith, rules}
use Rattle.std.specs.Prelude.{map, option_map}
use Rattle.std.proofs.lemmas.List.{length-map}
use Rattle.fort_form.specs.declared.form.Form.TheVariants as a_form
use Rattle.fort_form.specs.declared.form.Item.{Item}
use Rattle.fort_form_meaning.specs.Levels.{Placed}
use Rattle.fort_form_meaning.specs.Formed.{formed_block_item}
use Rattle.fort_form_build.proofs.Giving.{begun, of_two, remade}
use Rattle.fort_form_build.proofs.Parts.{items_of}
use Rattle.fort_form_build.proofs.blocks.filled.Goals as goal

pub returns : goal.returns
returns g c = let k = g.L.Lookup.source c.args.lookup.now in
    λ word. remade
    (ap (a_form.Block _)
    (begun c.new-items.ensures c.in_ok-push.ensures.ok c.in_ok-append.ensures.ok))
    (of_two (λ
    (first : Placed) (others : List Item). a_form.Block first.place (first.item ∷ others))
    c.in_ok-begun.ensures c.in_ok-further.ensures refl
    (ap (λ (items : List Item). a_form.Block (formed_block_item k c.args.first.now).place
    ((formed_block_item k c.args.first.now).item ∷ items)) (items_of k c.args.others.now)))
