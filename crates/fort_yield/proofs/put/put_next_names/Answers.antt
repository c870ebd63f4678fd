use Rattle.std.proofs.Common.{[], ◌∷◌, get_or}
use Rattle.std.proofs.lemmas.List.{get_or_default}
use Rattle.fort_base.specs.declared.refusal.Gap.TheVariants as gap
use Rattle.fort_tree.specs.declared.spot.Spot.{Spot}
use Rattle.fort_tree.specs.declared.spot.NextName.{NextName}
use Rattle.fort_lex_token.specs.declared.marks.Mark.TheVariants as mark
use Rattle.fort_tree.specs.Tokens.{marked, named}
use Rattle.fort_yield.proofs.More.{one_more_name, behind}
use Rattle.fort_yield.proofs.put.put_next_names.Goals as goal

abbrev nowhere : Spot
nowhere = record { gap = gap.Empty; place = record { line = 0; column = 0 } }

abbrev no_name : NextName
no_name = record { comma = nowhere; name = record { id = record { 0 = 0 }; spot = nowhere } }

pub loop-next-preserved : goal.loop-next-preserved
loop-next-preserved c =
    let xs = c.args.names.now in
    let i = c.loop-next.next-index in
    let x = get_or xs i no_name in
    let both =
    behind c.loop-next.out c.put_mark.new.out c.put_name.new.out
    (marked mark.Comma x.comma ∷ []) (named x.name ∷ []) c.in_ok-put_name.ensures
    c.in_ok-put_mark.ensures in
    one_more_name xs i x c.args.out.now c.loop-next.out c.put_name.new.out c.loop-next-test.true
    (get_or_default xs i _ _ c.loop-next-test.true) c.loop-next.invariant both
