-- A run of some picks and more is a run of the first, and then one of the others.
use Rattle.std.proofs.Common.{◌≡◌, Bool, List, [], ◌∷◌, ◌++◌, refl, ap, sym, ◌∙◌, subst}
use Rattle.fort_core.specs.declared.program.Program.{Program}
use Rattle.fort_core.specs.declared.pick.Pick.{Pick}
use Rattle.fort_core.specs.declared.term.Term.{Term}
use Rattle.fort_machine.specs.Effects.{Store, Effect, idle, both, FitsAll, afterwards}
use Rattle.fort_machine.specs.Frames.{plug, trodden}
use Rattle.fort_machine.specs.Attempts.{Ended, goes}
use Rattle.fort_machine.specs.Runs.{Runs, none, step, stop, attempt}
use Rattle.fort_machine.specs.RunLaws.{Parted, RunsPart}
use Rattle.fort_machine.proofs.WholeEffects.{both_assoc, idle_both, afterwards_both}
use Rattle.fort_machine.proofs.Runs.{again, closes_fit, runs_fit}

not_nil : (qs : List Pick) (pick : Pick) (rest : List Pick) → qs ++ pick ∷ rest ≡ [] → ⊥
not_nil [] pick rest e = cc
not_nil (q ∷ qs) pick rest e = cc

tail_is : (a b : Pick) (xs ys : List Pick) → a ∷ xs ≡ b ∷ ys → xs ≡ ys
tail_is a b xs ys e = cc

head_is : (x y : Pick) (xs ys zs : List Pick) → x ∷ xs ≡ y ∷ ys → y ∷ zs ≡ x ∷ zs
head_is x y xs ys zs h = cc

module _ (p : Program) (inner strict : Bool) where
  split : (s : Store) (qs : List Pick) (pick : Pick) (rest all : List Pick) (t : Term) (r : Ended)
      (d : Effect) → all ≡ qs ++ pick ∷ rest → Runs p inner strict s all t r d
      → Parted p inner strict s qs (pick ∷ rest) t r d
  split s [] pick rest all t r d e k =
      record {
        middle = t;
        first = idle;
        second = d;
        before = none refl refl refl;
        behind = subst (λ x. Runs p inner strict s x t r d) e k;
        is_both = sym (idle_both d);
      }
  split s (q ∷ qs) pick rest all t r d e (none a b c) = absurd cc
  split s (q ∷ qs) pick rest all t r d e
      (step {rest = rest'} {b = b} {d1 = d1} {d2 = d2} fs a c n l f k w) =
      let i = split (afterwards d1 s) qs pick rest rest' (plug (trodden fs) b) r d2
      (sym (tail_is _ _ _ _ (sym e ∙ a))) k in
      let e1 = i.first in
      let e2 = i.second in
      let same =
      afterwards_both d1 e1 s f
      (runs_fit (afterwards d1 s) qs (plug (trodden fs) b) (goes i.middle) e1 i.before) in
      record {
        middle = i.middle;
        first = both d1 e1;
        second = e2;
        before = step fs (head_is _ q rest' _ qs (sym a ∙ e)) c n l f i.before refl;
        behind = again (afterwards e1 (afterwards d1 s)) (afterwards (both d1 e1) s) (pick ∷ rest)
            (pick ∷ rest) i.middle i.middle r r e2 e2 (sym same) refl refl refl refl i.behind;
        is_both = w ∙ ap (both d1) i.is_both ∙ sym (both_assoc d1 e1 e2);
      }
  split s (q ∷ qs) pick rest all t r d e (stop fs i a c n x y w) =
      absurd (not_nil qs pick rest (tail_is _ _ _ _ (sym e ∙ a)))
  split s (q ∷ qs) pick rest all t r d e
      (attempt {m = m} {within = within} {rest = rest'} {b = b} {body = body} {ended = ended} {d1 =
      d0} {d2 = d1} {d3 = d2} fs a c n l bare may k close k' w) =
      let f : FitsAll d1 s =
      closes_fit p m body b ended d0 d1 s close (runs_fit s within body ended d0 k) in
      let i = split (afterwards d1 s) qs pick rest rest' (plug (trodden fs) b) r d2
      (sym (tail_is _ _ _ _ (sym e ∙ a))) k' in
      let e1 = i.first in
      let e2 = i.second in
      let same =
      afterwards_both d1 e1 s f
      (runs_fit (afterwards d1 s) qs (plug (trodden fs) b) (goes i.middle) e1 i.before) in
      record {
        middle = i.middle;
        first = both d1 e1;
        second = e2;
        before = attempt fs (head_is _ q rest' _ qs (sym a ∙ e)) c n l bare may k close i.before
            refl;
        behind = again (afterwards e1 (afterwards d1 s)) (afterwards (both d1 e1) s) (pick ∷ rest)
            (pick ∷ rest) i.middle i.middle r r e2 e2 (sym same) refl refl refl refl i.behind;
        is_both = w ∙ ap (both d1) i.is_both ∙ sym (both_assoc d1 e1 e2);
      }

pub runs_part : RunsPart
runs_part p inner strict s qs pick rest t r d k =
    split p inner strict s qs pick rest (qs ++ pick ∷ rest) t r d refl k
