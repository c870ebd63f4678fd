-- What is known of a sink while bytes are written to it.
use Rattle.std.proofs.Common.{◌≡◌, ℕ, ◌+◌, ◌-◌, ◌<◌, List, [], ◌++◌, length, take, drop, Option, Some, None, Result, Ok, Err, OnErr, ap, sym, ◌∙◌, arith, refl, append_assoc, length-drop}
use Rattle.std.proofs.lemmas.List.{take-append-drop, append-nil}
use Rattle.std.proofs.Math.Seq.{take-add, take-length}
use Rattle.fort_port.specs.Outside.{Rose, adds}
use Rattle.fort_port_output.specs.Written.{Change, Fails}

pub adds_append : (o : Option (List ℕ)) (a b : List ℕ) → adds b (adds a o) ≡ adds (a ++ b) o
adds_append None a b = refl
adds_append (Some held) a b = ap Some (append_assoc held a b)

pub adds_nothing : (o : Option (List ℕ)) → adds [] o ≡ o
adds_nothing None = refl
adds_nothing (Some held) = ap Some (append-nil held)

rest_is : (bytes : List ℕ) (done : ℕ)
    → take (length bytes - done) (drop done bytes) ≡ drop done bytes
rest_is bytes done = let e = length-drop done bytes in rw (← e) (take-length (drop done bytes))

-- One more piece was taken.
pub piece_added : (bytes : List ℕ) (done n : ℕ) (first was is : Option (List ℕ))
    → was ≡ adds (take done bytes) first
    → is ≡ adds (take n (take (length bytes - done) (drop done bytes))) was
    → is ≡ adds (take (done + n) bytes) first
piece_added bytes done n first was is e f =
    f ∙ (ap (λ r. adds (take n r) was) (rest_is bytes done)
    ∙ (ap (adds (take n (drop done bytes))) e
    ∙ (adds_append first (take done bytes) (take n (drop done bytes))
    ∙ ap (λ t. adds t first) (sym (take-add done n bytes)))))

-- The first bytes were taken, then the sink failed.
pub stopped : (c : Change) (bytes : List ℕ) (done : ℕ) → done < length bytes
    → c.is ≡ adds (take done bytes) c.was
    → Rose c.faults_were c.faults_are → Fails c bytes
stopped c bytes done less e rose = record {
  front = take done bytes;
  rest = drop done bytes;
  parts = sym (take-append-drop done bytes);
  some = λ none. let short : length (drop done bytes) ≡ 0 = ap length none
      in omega (arith, length-drop done bytes);
  written = e;
  rose = rose;
}

-- What holds whatever the error is holds at it.
pub at_error : {T E P : Type 0} (r : Result T E) → P → OnErr r P
at_error (Ok x) p = tt
at_error (Err e) p = p
