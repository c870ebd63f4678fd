use Rattle.std.proofs.Common.{◌≡◌, ◌<◌, true, false, refl, arith, length}
use Rattle.std.proofs.lemmas.Option.{slice_get_read}
use Rattle.fort_over_pair.proofs.Clashed.{layers_of_clash, clash_of_layers, arrows_clash}
use Rattle.fort_over_pair.proofs.Places.{none_more, none_somewhere}
use Rattle.fort_over_pair.proofs.clashing.+clash.Goals as goal

pub layer_clash-returns-in-Arrow-Arrow : goal.layer_clash-returns-in-Arrow-Arrow
layer_clash-returns-in-Arrow-Arrow t c h k =
    arrows_clash h _ _ _ _ _ _ _ c.in-Arrow-Arrow.is-0 c.in-Arrow-Arrow.is-1
    (c.unordered.ensures h k)

pub parts_clash-returns-then-layer_clash : goal.parts_clash-returns-then-layer_clash
parts_clash-returns-then-layer_clash t c h k =
    let i : c.loop-i.i < length c.args.left.now = omega arith in
    let j : c.loop-i.i < length c.args.right.now = (let l = c.loop-i.invariant.long in omega arith)
    in (
      λ _. (
        c.loop-i.invariant.long,
        (
          c.loop-i.i,
          _,
          _,
          slice_get_read _ _ _ _ refl i c.index-left-i.is,
          slice_get_read _ _ _ _ refl j c.index-right-i.is,
          clash_of_layers h _ _ ((c.if-layer_clash.ensures h k).0 refl),
        ),
      ),
      λ _. refl,
    )

pub parts_clash-loop-i-preserved : goal.parts_clash-loop-i-preserved
parts_clash-loop-i-preserved t c =
    let i : c.loop-i.i < length c.args.left.now = omega arith in
    let j : c.loop-i.i < length c.args.right.now = (let l = c.loop-i.invariant.long in omega arith)
    in
    record {
      long = c.loop-i.invariant.long;
      none = none_more _ _ _ _ _ _ _ (slice_get_read _ _ _ _ refl i c.index-left-i.is)
          (slice_get_read _ _ _ _ refl j c.index-right-i.is)
          (λ h k w. let f : false ≡ true = (c.if-layer_clash.ensures h k).1 (layers_of_clash h w)
          in cc) c.loop-i.invariant.none;
    }

pub parts_clash-returns : goal.parts_clash-returns
parts_clash-returns t c h k = (
  λ e. let f : false ≡ true = e in absurd cc,
  λ d. absurd (none_somewhere _ _ _ _ _ h k (omega arith) c.loop-i.invariant.none d.1),
)
