use Rattle.std.proofs.Common.{◌≡◌, ◌+◌, ◌<◌, ◌++◌, ◌∷◌, [], length, take, drop, get_or, refl, sym, ap, ◌∙◌, subst, arith}
use Rattle.std.proofs.lemmas.List.{take-append-drop, take_more}
use Rattle.fort_run.specs.Reply.{AreFiles, IsFile, size_of}
use Rattle.fort_run.specs.Fronts.{Stops, StopsAmong}
use Rattle.fort_run.proofs.Linked.{handed_on, one_more_read, size_more, stops_among}
use Rattle.fort_run.proofs.link.read_files.Goals as goal

pub loop-name-init : goal.loop-name-init
loop-name-init g c = record {
  read = rw c.new-files.ensures tt;
  kept = refl;
  calm = refl;
  room = rw c.new-files.ensures refl;
}

pub loop-name-preserved : goal.loop-name-preserved
loop-name-preserved g c =
    let names = c.args.names.now in
    let holding = g.F.Shelf.holding c.args.shelf.now in
    let i = c.loop-name.name-index in
    let name = c.name-item.result in
    let file = c.in_ok-file.file in
    let files = c.loop-name.files in
    let v = c.as_slice-name-items.ensures in
    let l : i < length names = subst (λ xs. i < length xs) v c.loop-name-test.true in
    let e : name ≡ get_or names i name = c.name-item.is ∙ ap (λ xs. get_or xs i name) v in
    let more =
    one_more_read holding (take i names) files name file c.loop-name.invariant.read
    (subst (λ h. IsFile (h name) file) c.loop-name.invariant.kept c.in_ok-file.ensures.file) in
    let size = size_more files file in
    record {
      read = subst (AreFiles holding (take (i + 1) names)) (sym c.in_ok-push.ensures.ok)
          (subst (λ xs. AreFiles holding xs (files ++ file ∷ []))
          (ap (λ y. take i names ++ y ∷ []) e ∙ sym (take_more names i name l)) more);
      kept = c.in_ok-file.ensures.kept ∙ c.loop-name.invariant.kept;
      calm = c.in_ok-file.ensures.calm ∙ c.loop-name.invariant.calm;
      room =
          let pushed = ap size_of c.in_ok-push.ensures.ok ∙ size in
          omega (
            arith,
            pushed,
            c.loop-name.invariant.room,
            c.in_ok-file.ensures.within,
            c.len-room.ensures,
          );
    }

pub returns-in_err-file-clause-stops : goal.returns-in_err-file-clause-stops
returns-in_err-file-clause-stops g c =
    let names = c.args.names.now in
    let holding = g.F.Shelf.holding c.args.shelf.now in
    let before = g.F.Shelf.faults c.args.shelf.now in
    let after = g.F.Shelf.faults c.read_file.new.shelf in
    let i = c.loop-name.name-index in
    let name = c.name-item.result in
    let why = c.in_err-file.field-0.0 in
    let room = c.loop-name.room in
    let v = c.as_slice-name-items.ensures in
    let l : i < length names = subst (λ xs. i < length xs) v c.loop-name-test.true in
    let e : name ≡ get_or names i name = c.name-item.is ∙ ap (λ xs. get_or xs i name) v in
    let parts : names ≡ (take i names ++ name ∷ []) ++ drop (i + 1) names =
    sym (take-append-drop (i + 1) names)
    ∙ ap (λ xs. xs ++ drop (i + 1) names)
    (take_more names i name l ∙ ap (λ y. take i names ++ y ∷ []) (sym e)) in
    let stops : Stops room (holding name) before after why =
    subst (λ n. Stops room (holding name) n after why) c.loop-name.invariant.calm
    (subst (λ h. Stops room (h name) (g.F.Shelf.faults c.loop-name.shelf) after why)
    c.loop-name.invariant.kept c.in_err-file.ensures.stops) in
    handed_on c.from_residual.result why (StopsAmong holding names before after)
    c.from_residual.ensures.1
    (subst (λ ns. StopsAmong holding ns before after why) (sym parts)
    (stops_among holding (take i names) (drop (i + 1) names) c.loop-name.files name room before
    after why c.loop-name.invariant.read c.loop-name.invariant.room stops))
