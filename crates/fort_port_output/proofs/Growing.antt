-- What was written of a text, once more stands behind it.
use Rattle.std.proofs.Common.{◌≡◌, ℕ, ◌+◌, Bool, false, List, ◌++◌, length, take, Option, ap, sym, ◌∙◌, subst, arith, refl}
use Rattle.std.proofs.lemmas.List.{length-append, take-append-le}
use Rattle.std.proofs.Math.Seq.{take-append-add, take-length}
use Rattle.fort_port.specs.Outside.{adds}
use Rattle.fort_port_output.specs.declared.progress.Progress.{Progress}
use Rattle.fort_port_output.specs.Written.{Change, Fails, HasWritten, goes_on, has_failed, Takes, Writes}
use Rattle.fort_port_output.proofs.Taken.{adds_append, adds_nothing}
use Rattle.fort_port_output.proofs.Next.{fails_behind, fails_more}

pub more_written : {ready : Type 0} (sink : Change) (text more : List ℕ) (p : Progress)
    → HasWritten ready sink text p → HasWritten ready sink (text ++ more) p
more_written sink text more p (goes_on calm within takes now) =
    goes_on calm (omega (arith, within, length-append text more)) (record {
      written =
          takes.written ∙ ap (λ l. adds l sink.was) (sym (take-append-le p.bytes text more within));
      calm = takes.calm;
    }) now
more_written sink text more p (has_failed failed fails) =
    has_failed failed (fails_more sink text more fails)

-- the whole text was taken
taken_whole : (sink : Change) (text : List ℕ) (n : ℕ) → n ≡ length text
    → Takes sink (take n text) → Takes sink text
taken_whole sink text n e takes =
    subst (Takes sink) (ap (λ k. take k text) e ∙ take-length text) takes

module _ {after : Type 0} (was is end : Option (List ℕ)) (first mid last : ℕ)
    (text more : List ℕ) (q r : Progress) where
  -- both were written behind one another, where the first one was written whole
  behind : Takes (record { was = was; is = is; faults_were = first; faults_are = mid }) text
      → HasWritten after (record { was = is; is = end; faults_were = mid; faults_are = last }) more q
      → r.failed ≡ q.failed → (q.failed ≡ false → r.bytes ≡ length text + q.bytes)
      → HasWritten after (record {
        was = was;
        is = end;
        faults_were = first;
        faults_are = last;
      }) (text ++ more) r
  behind took (goes_on calm within takes now) same far =
      let e = far calm in
      goes_on (same ∙ calm) (omega (arith, e, within, length-append text more)) (record {
        written =
            takes.written ∙ (ap (adds (take q.bytes more)) took.written
            ∙ (adds_append was text (take q.bytes more)
            ∙ ap (λ l. adds l was) (sym (ap (λ n. take n (text ++ more)) e ∙ take-append-add text more q.bytes))));
        calm = takes.calm ∙ took.calm;
      }) now
  behind took (has_failed failed fails) same far =
      has_failed (same ∙ failed) (fails_behind was is end first mid last (text ++ more) text more refl
      took.written took.calm fails)

module _ {ready after : Type 0} (was is end : Option (List ℕ)) (first mid last : ℕ)
    (text more : List ℕ) (p q r : Progress) where
  pub parts_written : HasWritten ready (record {
    was = was;
    is = is;
    faults_were = first;
    faults_are = mid;
  }) text p
      → (p.failed ≡ false → p.bytes ≡ length text)
      → Writes p.failed after (record {
        was = is;
        is = end;
        faults_were = mid;
        faults_are = last;
      }) more q
      → r.failed ≡ q.failed → (q.failed ≡ false → r.bytes ≡ length text + q.bytes)
      → HasWritten after (record {
        was = was;
        is = end;
        faults_were = first;
        faults_are = last;
      }) (text ++ more) r
  parts_written (goes_on calm within takes now) whole w same far =
      behind was is end first mid last text more q r (taken_whole _ text p.bytes (whole calm) takes)
      (subst (λ (b : Bool). Writes b after (record {
        was = is;
        is = end;
        faults_were = mid;
        faults_are = last;
      }) more q) calm w) same far
  parts_written (has_failed failed fails) whole w same far =
      let none = subst (λ (b : Bool). Writes b after (record {
        was = is;
        is = end;
        faults_were = mid;
        faults_are = last;
      }) more q) failed w in
      has_failed (same ∙ none.0) (fails_more _ text more
      (subst (λ (i : Option (List ℕ)). Fails (record {
        was = was;
        is = i;
        faults_were = first;
        faults_are = last;
      }) text) (sym none.1)
      (subst (λ (n : ℕ). Fails (record {
        was = was;
        is = is;
        faults_were = first;
        faults_are = n;
      }) text) (sym none.2) fails)))

-- nothing was written yet
pub none_written : {ready : Type 0} (is : Option (List ℕ)) (faults : ℕ) (text : List ℕ)
    (p : Progress) → ready → p.failed ≡ false → p.bytes ≡ 0
    → HasWritten ready (record {
      was = is;
      is = is;
      faults_were = faults;
      faults_are = faults;
    }) text p
none_written is faults text p now calm none =
    goes_on calm (omega (arith, none)) (record {
      written = sym (ap (λ n. adds (take n text) is) none ∙ adds_nothing is);
      calm = refl;
    }) now
