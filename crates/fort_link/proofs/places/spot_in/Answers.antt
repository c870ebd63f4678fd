use Rattle.std.proofs.Common.{◌≡◌, ◌≤◌, ◌⊎◌, ◌+◌, ◌-◌, ℕ, [], length, take, inl, inr, sym, ap, subst, ◌∙◌, arith}
use Rattle.std.proofs.lemmas.List.{drop_all}
use Rattle.fort_link.specs.Lines.{lines, all_lines}
use Rattle.fort_link.specs.Spots.{StandsIn}
use Rattle.fort_link.proofs.Sizes.{room_for, stands}
use Rattle.fort_link.proofs.Files.{file_short}
use Rattle.fort_link.proofs.places.spot_in.Goals as goal

pub lines-here-requires : goal.lines-here-requires
lines-here-requires c =
    let t = c.loop-i-test.true in
    file_short c.args.files.now c.loop-i.i c.as_slice.result.now _ (omega arith)
    (c.as_slice.ensures ∙ c.index-files-i.is) c.requires.small

pub overflow_add-before : goal.overflow_add-before
overflow_add-before c =
    let t = c.loop-i-test.true in
    let b : c.loop-i.before + c.lines-here.result ≤ 1048640 =
    room_for c.args.files.now c.loop-i.i c.loop-i.before c.lines-here.result _ (omega arith)
    c.requires.count.1 c.requires.small c.loop-i.invariant.0
    (c.lines-here.ensures ∙ ap lines (c.as_slice.ensures ∙ c.index-files-i.is)) in
    omega arith

pub returns-then-place-before : goal.returns-then-place-before
returns-then-place-before c =
    let t = c.loop-i-test.true in
    let h = c.lines-here.ensures ∙ ap lines (c.as_slice.ensures ∙ c.index-files-i.is) in
    subst (StandsIn c.args.files.now c.args.place) (sym c.taken_off.ensures)
    (stands c.args.files.now c.args.place c.loop-i.i c.loop-i.before _ (omega arith)
    c.loop-i.invariant.0 c.loop-i.invariant.1
    (inr (subst (λ n. c.args.place.line ≤ c.loop-i.before + n) h c.if-place-before.true)))

pub returns : goal.returns
returns c =
    let t = c.loop-i-test.false in
    let i-end = c.loop-i.auto.i-end in
    let some = c.requires.count.0 in
    let files = c.args.files.now in
    let e : c.loop-i.i ≡ length files - 1 = omega arith in
    subst (StandsIn files c.args.place) (sym c.taken_off-2.ensures)
    (stands files c.args.place (length files - 1) c.loop-i.before [] (omega arith)
    (c.loop-i.invariant.0 ∙ ap (λ k. all_lines (take k files)) e)
    (first c.loop-i.invariant.1 e)
    (inl (drop_all (length files - 1 + 1) files (omega arith))))
  where
    first : {B : Type 0} {i k : ℕ} → (i ≡ 0) ⊎ B → i ≡ k → (k ≡ 0) ⊎ B
    first (inl z) e = inl (sym e ∙ z)
    first (inr b) e = inr b
