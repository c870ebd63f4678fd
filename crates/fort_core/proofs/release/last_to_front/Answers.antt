use Rattle.std.proofs.Common.{◌<◌, ◌-◌, length, IsPermutation, arith}
use Rattle.std.proofs.lemmas.List.Sorted.{IsPermutation-swap}
use Rattle.fort_core.proofs.release.last_to_front.Goals as goal

pub returns : goal.returns
returns g c =
    let xs = c.into_vec-items.result.items in
    let ys = c.swap.new.self.items in
    let some : 0 < length xs = rw c.into_vec-items.ensures c.requires in
    let within : c.len-last.result - 1 < length xs =
    omega (arith, some, c.len-last.ensures, c.into_vec-items.result.ok.0) in
    let swapped : IsPermutation xs ys =
    IsPermutation-swap xs ys 0 (c.len-last.result - 1) some within c.swap.ensures.items in
    rw c.from_vec.ensures (rw c.into_vec-items.ensures at swapped)
