use Rattle.std.proofs.Common.{◌≡◌, ◌-◌, Some, None, length, refl, subst, arith}
use Rattle.std.specs.Prelude.{slice_get}
use Rattle.std.proofs.lemmas.Option.{slice_get_past, slice_get_read}
use Rattle.fort_plain.proofs.Here.{next_here, over_here}
use Rattle.fort_plain.proofs.take.go.Goals as goal

pub one-requires-clause-here : goal.one-requires-clause-here
one-requires-clause-here c =
    let xs = c.args.within.source.picks.now in
    let low = c.in-Some.ensures.lookup.3.0 in
    let count = rw c.get.ensures at c.len-at.ensures in
    let at = slice_get_read xs (length xs) c.len-at.result c.in-Some.pick.now refl low
    c.in-Some.ensures.lookup.1 in
    next_here c.args.within c.in-Some.pick.now _ c.requires.within.left
    (length xs - c.len-at.result) c.requires.within.taken
    (subst (λ n. slice_get xs n ≡ Some c.in-Some.pick.now) count at) (omega (arith, low, count))
    refl

pub end-requires-clause-over : goal.end-requires-clause-over
end-requires-clause-over c =
    let xs = c.args.within.source.picks.now in
    over_here xs _ c.requires.within.left c.requires.within.taken
    (subst (λ n. slice_get xs n
    ≡ None) (rw c.get.ensures at c.len-at.ensures)
    (slice_get_past xs c.len-at.result c.in-None.ensures.lookup.3))
