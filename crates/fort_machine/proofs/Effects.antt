-- What holds of effects, of steps that make locations, and of attempts.
use Rattle.std.proofs.Common.{◌≡◌, ℕ, zero, suc, ◌+◌, ◌<◌, ◌≤◌, ◌==◌, Bool, true, false, List, [], ◌∷◌, length, Option, Some, None, refl, ap, sym, ◌∙◌, subst, arith, rules, if◌then◌else◌}
use Rattle.std.specs.Prelude.{slice_get}
use Rattle.std.proofs.Math.Path.{fun_ext}
use Rattle.fort_core.specs.declared.program.Program.{Program}
use Rattle.fort_core.specs.declared.term.Term.{Term}
use Rattle.fort_core.specs.declared.value.Value.{Value}
use Rattle.fort_machine.specs.Cells.{Cell, untouched, found, made, Fits, left_at}
use Rattle.fort_machine.specs.Effects.{Effect, only_at, made_from, afterwards, failing}
use Rattle.fort_machine.specs.Acts.{Act, stuck, turns, enters, asks, sets, makes, calls, ends}
use Rattle.fort_machine.specs.Steps.{Does, steps, or_unit}
use Rattle.fort_machine.specs.Attempts.{aborts, completed, failed, gave_up, fell_asleep}
use Rattle.fort_machine.specs.EffectLaws.{EffectsJoin, EffectsFollow, EffectsPart, MakesInARow, StepsMakeInARow, GivesBack, AbortUndoes}
use Rattle.fort_machine.proofs.Cells.{older_back, all_back}
use Rattle.fort_machine.proofs.WholeEffects.{both_assoc, idle_both, both_idle, afterwards_both, both_fits, fits_first, fits_then}
use Rattle.fort_machine.proofs.Runs.{runs_fit}

pub effects_join : EffectsJoin
effects_join = (both_assoc, idle_both, both_idle)

pub effects_follow : EffectsFollow
effects_follow d e s f g = (both_fits d e s f g, afterwards_both d e s f g)

pub effects_part : EffectsPart
effects_part d e s m f = (fits_first d e s m f, fits_then d e s m f)

-- a made location is one of those from the first on
pub made_in_row : (l : ℕ) (vs : List Value) (k : ℕ) (w : Option Value) → made_from l vs k ≡ made w
    → (l ≤ k) × (k < l + length vs)
made_in_row l [] k w e = absurd cc
made_in_row l (v ∷ vs) k w e = go (l == k) refl e (made_in_row (l + 1) vs k w)
  where
    go : (b : Bool) → (l == k) ≡ b → (if b then made (Some v) else made_from (l + 1) vs k) ≡ made w
        → (made_from (l + 1) vs k ≡ made w → (l + 1 ≤ k) × (k < (l + 1) + length vs))
        → (l ≤ k) × (k < l + length (v ∷ vs))
    go true q e ih = let h : l ≡ k = search (rules, q) in (omega arith, omega arith)
    go false q e ih =
        let i = ih e in let a : l + 1 ≤ k = i.0 in let b : k < (l + 1) + length vs = i.1
        in (omega arith, omega arith)

pub here : (l k : ℕ) → l ≡ l + k → (l == l + k) ≡ true
here l k e = search (rules, e)

not_here : (l k : ℕ) → l < k → (l == k) ≡ false
not_here l k h = search (rules, h)

pub row_made : (l : ℕ) (vs : List Value) (n : ℕ) (v : Value) → slice_get vs n ≡ Some v
    → made_from l vs (l + n) ≡ made (Some v)
row_made l [] n v e = absurd cc
row_made l (u ∷ vs) zero v e =
    let q : (l == l + 0) ≡ true = here l 0 (omega arith) in
    ap (λ b. if b then made (Some u) else made_from (l + 1) vs (l + 0)) q ∙ ap made e
row_made l (u ∷ vs) (suc n) v e =
    let q : (l == l + suc n) ≡ false = not_here l (l + suc n) (omega arith) in
    let m : l + suc n ≡ (l + 1) + n = omega arith in
    ap (λ b. if b then made (Some u) else made_from (l + 1) vs (l + suc n)) q
    ∙ ap (made_from (l + 1) vs) m ∙ row_made (l + 1) vs n v e

made_none : (c : Cell) (v : Value) (o : Option Value) → c ≡ made (Some v) → Fits c o → o ≡ None
made_none c v None e f = refl
made_none c v (Some w) e f = absurd (subst (λ x. Fits x (Some w)) e f)

no_row : (loc : ℕ) (d : Effect) → ((l : ℕ) (w : Option Value) → d.cells l ≡ made w → ⊥) → loc ≡ 0
    → MakesInARow loc d
no_row loc d n e = record {
  values = [];
  in_a_row = λ l w h. absurd (n l w h);
  all_made = λ n v h. absurd cc;
  none_there = λ s f n v h. absurd cc;
  zero_for_none = λ q. e;
}

only_not_made : (l : ℕ) (c : Cell) → ((w : Option Value) → c ≡ made w → ⊥)
    → (k : ℕ) (w : Option Value) → only_at l c k ≡ made w → ⊥
only_not_made l c n k w e = go (l == k) e
  where
    go : (b : Bool) → (if b then c else untouched) ≡ made w → ⊥
    go true e = n w e
    go false e = cc

unit_first : (vs : List Value) → or_unit vs ≡ [] → ⊥
unit_first [] e = cc
unit_first (v ∷ vs) e = cc

row_of : (p : Program) (inner : Bool) (loc : ℕ) (x : Act) (b : Term) (d : Effect)
    → Does p inner loc x b d → MakesInARow loc d
row_of p inner loc stuck b d k = absurd k
row_of p inner loc (turns next output cost) b d k =
    no_row loc d (λ l w h. let z : untouched ≡ made w = sym (ap (λ (y : Effect). y.cells l) k.2) ∙ h
    in cc) k.0
row_of p inner loc (enters body next) b d k =
    no_row loc d (λ l w h. let z : untouched ≡ made w = sym (ap (λ (y : Effect). y.cells l) k.3) ∙ h
    in cc) k.1
row_of p inner loc (asks l next) b d k =
    no_row loc d
    (λ n w h. only_not_made l (found (Some k.0) None) (λ u q. cc) n w
    (sym (ap (λ (y : Effect). y.cells n) k.3) ∙ h)) k.1
row_of p inner loc (sets l v) b d k =
    no_row loc d
    (λ n w h. only_not_made l (found None (Some v)) (λ u q. cc) n w
    (sym (ap (λ (y : Effect). y.cells n) k.2) ∙ h)) k.0
row_of p inner loc (makes values next cost) b d k = record {
  values = or_unit values;
  in_a_row =
      λ l w h. made_in_row loc (or_unit values) l w (sym (ap (λ (y : Effect). y.cells l) k.1) ∙ h);
  all_made =
      λ n v h. ap (λ (y : Effect). y.cells (loc + n)) k.1 ∙ row_made loc (or_unit values) n v h;
  none_there =
      λ s f n v h. made_none (d.cells (loc + n)) v (s (loc + n)) (ap (λ
      (y : Effect). y.cells (loc + n)) k.1 ∙ row_made loc (or_unit values) n v h) (f (loc + n));
  zero_for_none = λ q. absurd (unit_first values q);
}
row_of p inner loc (calls set values) b d k = absurd k
row_of p inner loc ends b d k =
    no_row loc d (λ l w h. let z : untouched ≡ made w = sym (ap (λ (y : Effect). y.cells l) k.5) ∙ h
    in cc) k.2

pub steps_make_in_a_row : StepsMakeInARow
steps_make_in_a_row p inner loc a b d (steps x h k) = row_of p inner loc x b d k

pub gives_back : GivesBack
gives_back p m s within body r d b e k (completed v x y z) n l w h = absurd (n v y)
gives_back p m s within body r d b e k (failed v x y z) n l w h =
    ap (λ q. afterwards q s l) z ∙ ap (left_at ((failing d).cells l)) h
    ∙ older_back (d.cells l) w (subst (Fits (d.cells l)) h (runs_fit s within body r d k l))
gives_back p m s within body r d b e k (gave_up v x y z u q) n l w h =
    ap (λ c. afterwards c s l) q ∙ all_back (d.cells l) (s l) (runs_fit s within body r d k l) ∙ h
gives_back p m s within body r d b e k (fell_asleep marks x y z u o q) n l w h =
    ap (λ c. afterwards c s l) q ∙ all_back (d.cells l) (s l) (runs_fit s within body r d k l) ∙ h

pub abort_undoes : AbortUndoes
abort_undoes p m s within body d b e k (completed v x y z) = absurd cc
abort_undoes p m s within body d b e k (failed v x y z) = absurd cc
abort_undoes p m s within body d b e k (gave_up v x y z u q) = (
  ap (λ c. afterwards c s) q
      ∙ fun_ext (λ l. all_back (d.cells l) (s l) (runs_fit s within body aborts d k l)),
  ap (λ
      (c : Effect). c.output) q,
)
abort_undoes p m s within body d b e k (fell_asleep marks x y z u o q) = (
  ap (λ c. afterwards c s) q
      ∙ fun_ext (λ l. all_back (d.cells l) (s l) (runs_fit s within body aborts d k l)),
  ap (λ
      (c : Effect). c.output) q,
)
