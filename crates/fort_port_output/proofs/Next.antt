-- What is known once the bytes that come next in a text were written, or not all of them.
use Rattle.std.proofs.Common.{◌≡◌, ◌≢◌, ℕ, ◌+◌, ◌≤◌, true, false, List, [], ◌∷◌, ◌++◌, length, take, drop, Option, ap, sym, ◌∙◌, subst, arith, refl, append_assoc, length-drop}
use Rattle.std.proofs.lemmas.List.{take-append-drop, length-append, append-nil}
use Rattle.std.proofs.Math.Seq.{take-add, take-append_seam}
use Rattle.fort_port.specs.Outside.{Rose, adds}
use Rattle.fort_port_output.specs.declared.progress.Progress.{Progress}
use Rattle.fort_port_output.specs.Written.{Change, ComesNext, Fails, HasWritten, goes_on, has_failed, Takes}
use Rattle.fort_port_output.proofs.Taken.{adds_append}

-- a text goes on behind its end
pub some_left : {A : Type 0} (rest more : List A) → rest ≢ [] → rest ++ more ≢ []
some_left [] more some none = some refl
some_left (x ∷ rest) more some none = let z : length (x ∷ rest ++ more) ≡ 0 = ap length none in
    omega (arith, z)

-- the first bytes of a text, and those that come next
pub take_next : (text piece : List ℕ) (at : ℕ) → ComesNext text at piece
    → take (at + length piece) text ≡ take at text ++ piece
take_next text piece at next =
    take-add at (length piece) text
    ∙ ap (λ l. take at text ++ l) (ap (take (length piece)) next.1 ∙ take-append_seam piece next.0)

pub within_text : (text piece : List ℕ) (at : ℕ) → ComesNext text at piece → at ≤ length text
    → at + length piece ≤ length text
within_text text piece at next within =
    let e : length (drop at text) ≡ length piece + length next.0 =
    ap length next.1 ∙ length-append piece next.0 in
    omega (arith, e, length-drop at text)

-- a sink that took bytes failed at what comes behind them
pub fails_behind : (was is end : Option (List ℕ)) (first mid last : ℕ) (text taken more : List ℕ)
    → text ≡ taken ++ more
    → is ≡ adds taken was → mid ≡ first
    → Fails (record { was = is; is = end; faults_were = mid; faults_are = last }) more
    → Fails (record { was = was; is = end; faults_were = first; faults_are = last }) text
fails_behind was is end first mid last text taken more parts written calm f = record {
  front = taken ++ f.front;
  rest = f.rest;
  parts = parts ∙ (ap (λ l. taken ++ l) f.parts ∙ sym (append_assoc taken f.front f.rest));
  some = f.some;
  written =
      f.written ∙ (ap (adds f.front) written ∙ adds_append was taken f.front);
  rose = subst (λ (n : ℕ). Rose n last) calm f.rose;
}

pub fails_more : (sink : Change) (text more : List ℕ) → Fails sink text
    → Fails sink (text ++ more)
fails_more sink text more f = record {
  front = f.front;
  rest = f.rest ++ more;
  parts = ap (λ l. l ++ more) f.parts ∙ append_assoc f.front f.rest more;
  some = some_left f.rest more f.some;
  written = f.written;
  rose = f.rose;
}

module _ {ready after : Type 0} where
  -- nothing was written where the output had failed
  pub still_failed : (sink : Change) (text : List ℕ) (p : Progress) → p.failed ≡ true
      → HasWritten ready sink text p → HasWritten after sink text p
  still_failed sink text p f (goes_on calm within takes now) =
      absurd (let z : true ≡ false = sym f ∙ calm in cc)
  still_failed sink text p f (has_failed failed fails) = has_failed failed fails

  -- the next bytes were taken
  pub next_taken : (was is end : Option (List ℕ)) (first mid last : ℕ) (text piece : List ℕ)
      (p q : Progress) → ComesNext text p.bytes piece → p.failed ≡ false
      → Takes (record { was = is; is = end; faults_were = mid; faults_are = last }) piece
      → after → q.failed ≡ false → q.bytes ≡ p.bytes + length piece
      → HasWritten ready (record {
        was = was;
        is = is;
        faults_were = first;
        faults_are = mid;
      }) text p
      → HasWritten after (record {
        was = was;
        is = end;
        faults_were = first;
        faults_are = last;
      }) text q
  next_taken was is end first mid last text piece p q next calm takes now good far
      (goes_on calm' within took before) =
      goes_on good (omega (arith, far, within_text text piece p.bytes next within)) (record {
        written =
            takes.written ∙ (ap (adds piece) took.written
            ∙ (adds_append was (take p.bytes text) piece
            ∙ ap (λ l. adds l was) (sym (take_next text piece p.bytes next) ∙ ap (λ n. take n text) (sym far))));
        calm = takes.calm ∙ took.calm;
      }) now
  next_taken was is end first mid last text piece p q next calm takes now good far
      (has_failed failed fails) = absurd (let z : true ≡ false = sym failed ∙ calm in cc)

  -- the sink failed at the next bytes
  pub next_failed : (was is end : Option (List ℕ)) (first mid last : ℕ) (text piece : List ℕ)
      (p q : Progress) → ComesNext text p.bytes piece → p.failed ≡ false
      → Fails (record { was = is; is = end; faults_were = mid; faults_are = last }) piece
      → q.failed ≡ true
      → HasWritten ready (record {
        was = was;
        is = is;
        faults_were = first;
        faults_are = mid;
      }) text p
      → HasWritten after (record {
        was = was;
        is = end;
        faults_were = first;
        faults_are = last;
      }) text q
  next_failed was is end first mid last text piece p q next calm fails bad
      (goes_on calm' within took before) =
      has_failed bad (fails_behind was is end first mid last text (take p.bytes text) (piece ++ next.0)
      (sym (take-append-drop p.bytes text) ∙ ap (λ l. take p.bytes text ++ l) next.1)
      took.written took.calm
      (fails_more _ piece next.0 fails))
  next_failed was is end first mid last text piece p q next calm fails bad
      (has_failed failed fails') = absurd (let z : true ≡ false = sym failed ∙ calm in cc)

-- what comes next where so many bytes were written is the rest of the text
pub rest_comes : (text : List ℕ) (at : ℕ) → ComesNext text at (drop at text)
rest_comes text at = ([], sym (append-nil (drop at text)))
