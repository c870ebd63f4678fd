use Rattle.std.proofs.Common.{inl, inr}
use Rattle.fort_over.proofs.Whole.{pair_fault, object_fault, all_kept}
use Rattle.fort_over.proofs.overloading.overloads.Goals as goal

pub returns-in-Some-clause-err : goal.returns-in-Some-clause-err
returns-in-Some-clause-err c =
    λ h a. inl
    (pair_fault h _ _ a c.as_slice.result.now c.in-Some.pair c.as_slice.ensures
    (rw c.in-Some.is at c.in_ok-broken.ensures))

pub returns-in-Some-first_uncovered-clause-err : goal.returns-in-Some-first_uncovered-clause-err
returns-in-Some-first_uncovered-clause-err c =
    λ h a. inr
    (object_fault h _ _ a c.as_slice.result.now c.in-Some-first_uncovered.place c.as_slice.ensures
    (rw c.in_default.is at c.in_ok-broken.ensures) c.in-Some-first_uncovered.ensures)

pub returns-in-None-clause-ok : goal.returns-in-None-clause-ok
returns-in-None-clause-ok c =
    λ h a. all_kept h _ _ a c.as_slice.result.now c.as_slice.ensures
    (rw c.in_default.is at c.in_ok-broken.ensures) c.in-None.ensures
