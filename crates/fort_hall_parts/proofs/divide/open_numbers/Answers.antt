use Rattle.std.proofs.Common.{◌≡◌, ℕ, ◌+◌, List, [], ◌∷◌, ◌++◌, Option, Some, None, IfNone, IfSome, subst}
use Rattle.fort_core.specs.declared.term.Term.{Term}
use Rattle.fort_frames_moves.specs.declared.across.Next.{Next}
use Rattle.fort_hall_parts.specs.Parts.{AreOpen, HasNoPlain, IsPlain}
use Rattle.fort_hall_parts.proofs.Divisions.{no_more_open, one_more_open}
use Rattle.fort_hall_parts.proofs.divide.open_numbers.Goals as goal
use Rattle.fort_hall_parts.proofs.divide.open_numbers.Goals.{in-None, in-Some+in_ok-number_of-in-Some+in_ok-push-in-Some}

none_found : (ts : List Term) (i : ℕ) (numbers : List ℕ) (o : Option Next) → AreOpen ts i numbers
    → IfNone o (HasNoPlain ts i) → o ≡ None → AreOpen ts (i + 1) numbers
none_found ts i numbers o k h is =
    no_more_open ts i numbers k (subst (λ x. IfNone x (HasNoPlain ts i)) is h)

one_found : (ts : List Term) (i number : ℕ) (numbers more : List ℕ) (o : Option Next) (n : Next)
    → AreOpen ts i numbers → IfSome o (λ m. IsPlain ts m × (m.«at» ≡ i)) → o ≡ Some n
    → number ≡ i → more ≡ numbers ++ number ∷ [] → AreOpen ts (i + 1) more
one_found ts i number numbers more o n k h is e q =
    let plain : IsPlain ts n × (n.«at» ≡ i) =
    subst (λ x. IfSome x (λ m. IsPlain ts m × (m.«at» ≡ i))) is h in
    one_more_open ts i number numbers more n k plain.0 plain.1 e q

pub loop-at-preserved : goal.loop-at-preserved
loop-at-preserved c =
    let ts = c.args.parts.now in
    let i = c.loop-at.«at» in
    elim c.match-branch-2.branch [
      | in-None w ↦
          rw w.numbers-is (none_found ts i c.loop-at.numbers c.in_ok-plain_at.field-0
          c.loop-at.invariant c.in_ok-plain_at.ensures.none w.in-None.is)
      | in-Some+in_ok-number_of-in-Some+in_ok-push-in-Some w ↦
          rw w.numbers-is (one_found ts i _ c.loop-at.numbers _ c.in_ok-plain_at.field-0 _
          c.loop-at.invariant c.in_ok-plain_at.ensures.plain w.in-Some.is
          w.in_ok-number_of-in-Some.ensures w.in_ok-push-in-Some.ensures.ok)
    ]
