-- A text is written on for no time, and for two times, the one behind the other.
use Rattle.std.proofs.Common.{ℕ, List, Option, refl, ◌∙◌}
use Rattle.fort_port_output.specs.declared.progress.Progress.{Progress}
use Rattle.fort_hall.specs.Output.{WritesOn}

pub stays : (ready : Type 0) (is : Option (List ℕ)) (faults : ℕ) (text : List ℕ) (p : Progress)
    → WritesOn ready ready (record {
      was = is;
      is = is;
      faults_were = faults;
      faults_are = faults;
    }) text text p p
stays ready is faults text p = record {
  written = λ was faults_were h. h;
  failed = λ f. (f, refl, refl);
}

pub then_on : (a b c : Type 0) (x y z : Option (List ℕ)) (f g h : ℕ) (r s t : List ℕ)
    (p q o : Progress)
    → WritesOn a b (record { was = x; is = y; faults_were = f; faults_are = g }) r s p q
    → WritesOn b c (record { was = y; is = z; faults_were = g; faults_are = h }) s t q o
    → WritesOn a c (record { was = x; is = z; faults_were = f; faults_are = h }) r t p o
then_on a b c x y z f g h r s t p q o one two = record {
  written = λ was faults_were w. two.written was faults_were (one.written was faults_were w);
  failed = λ e. let m = one.failed e in
      let n = two.failed m.0 in (n.0, n.1 ∙ m.1, n.2 ∙ m.2);
}
