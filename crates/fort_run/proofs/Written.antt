-- How far a text was written, and what that says of its delivery.
use Rattle.std.proofs.Common.{◌≡◌, ℕ, ◌≤◌, true, false, List, length, take, Result, Ok, Err, is_err, OnOk, OnErr, ap, sym, ◌∙◌, subst}
use Rattle.std.proofs.Math.Seq.{take-length}
use Rattle.fort_port_output.specs.declared.progress.Progress.{Progress}
use Rattle.fort_port_output.specs.Written.{Change, Fails, HasWritten, Takes, goes_on, has_failed}

module _ {ready : Type 0} (sink : Change) (text : List ℕ) (p : Progress) where
  -- An output that hasn't failed may be written to.
  pub still_ready : HasWritten ready sink text p → p.failed ≡ false → ready
  still_ready (goes_on calm within takes now) e = now
  still_ready (has_failed failed fails) e = absurd cc

  pub within_text : HasWritten ready sink text p → p.failed ≡ false → p.bytes ≤ length text
  within_text (goes_on calm within takes now) e = within
  within_text (has_failed failed fails) e = absurd cc

  -- It took the text, where all of it was written.
  pub took_whole : HasWritten ready sink text p → p.failed ≡ false → p.bytes ≡ length text
      → Takes sink text
  took_whole (goes_on calm within takes now) e all =
      subst (Takes sink) (ap (λ n. take n text) all ∙ take-length text) takes
  took_whole (has_failed failed fails) e all = absurd cc

  -- Where it has failed it took only the first bytes.
  pub took_first : HasWritten ready sink text p → p.failed ≡ true → Fails sink text
  took_first (goes_on calm within takes now) e = absurd cc
  took_first (has_failed failed fails) e = fails

-- It was written so far of a text that is the same.
pub same_text : {ready : Type 0} (sink : Change) (text other : List ℕ) (p : Progress)
    → other ≡ text → HasWritten ready sink text p → HasWritten ready sink other p
same_text {ready} sink text other p e has =
    subst (λ t. HasWritten ready sink t p) (sym e) has

-- What holds where there is no error, and what holds where there is one.
module _ {T E P : Type 0} where
  pub on_ok : (r : Result T E) → is_err r ≡ false → OnOk r P → P
  on_ok (Ok x) e p = p
  on_ok (Err x) e p = absurd cc

  pub on_err : (r : Result T E) → is_err r ≡ true → OnErr r P → P
  on_err (Ok x) e p = absurd cc
  on_err (Err x) e p = p
