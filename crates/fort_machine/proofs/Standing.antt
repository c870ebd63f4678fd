-- How a term stands, and tuples whose parts aren't all values.
use Rattle.std.proofs.Common.{◌≡◌, Bool, true, false, ◌||◌, List, [], ◌∷◌, ◌++◌, Option, Some, None, refl, ap, sym, ◌∙◌, ◌⊎◌, inl, inr}
use Rattle.std.specs.Prelude.{option_map, option_and_then}
use Rattle.fort_core.specs.declared.term.Term.{Term, Throw, Group, Stepped, out-Term, roll-Term, roll-out-Term}
use Rattle.fort_core.specs.declared.term.Term as term
use Rattle.fort_core.specs.declared.term.Term.TheVariants.{outs-Value, outs-Throw, outs-Stepped, rolls-Value, rolls-Throw}
use Rattle.fort_core.specs.declared.term.Term.TheOpen.{Term-F}
use Rattle.fort_core.specs.declared.value.Value.{Value}
use Rattle.fort_core.specs.declared.value.Closure.{Closure}
use Rattle.fort_machine.specs.Ends.{Standing, at_value, at_throw, open_yet, of_thrown, standing_at, standing, throw_of, Finished, value_at, values_of, tuple_of, group, marked_by, stepped, is_mark, has_stepped, still_by, is_still}
use Rattle.fort_machine.specs.Ends as ends

pub standing-Value : (v : Value) → standing (term.Value v) ≡ at_value v
standing-Value v = ap standing_at (outs-Value v)

pub standing-throw : (v : Value) → standing (throw_of v) ≡ at_throw v
standing-throw v = ap standing_at (outs-Throw (term.Value v)) ∙ ap of_thrown (outs-Value v)

pub rolled : (t : Term) (y : Term-F Term Value Closure) → out-Term t ≡ y → t ≡ roll-Term y
rolled t y e = sym (roll-out-Term t) ∙ ap roll-Term e

decide_thrown : (t u : Term) (z : Term-F Term Value Closure) → out-Term t ≡ Term-F.Throw u
    → out-Term u ≡ z → (of_thrown z ≡ open_yet) ⊎ Finished t
decide_thrown t u (Term-F.Value v) e q =
    inr (ends.Finished.throw v (rolled t _ e ∙ rolls-Throw u
    ∙ ap Throw (rolled u _ q ∙ rolls-Value v)))
decide_thrown t u _ e q = inl refl

decide_at : (t : Term) (y : Term-F Term Value Closure) → out-Term t ≡ y
    → (standing_at y ≡ open_yet) ⊎ Finished t
decide_at t (Term-F.Value v) e = inr (ends.Finished.value v (rolled t _ e ∙ rolls-Value v))
decide_at t (Term-F.Throw u) e = decide_thrown t u (out-Term u) e refl
decide_at t _ e = inl refl

-- a term is open or finished
pub decide : (t : Term) → (standing t ≡ open_yet) ⊎ Finished t
decide t = decide_at t (out-Term t) refl

pub not_finished : (t : Term) → standing t ≡ open_yet → Finished t → ⊥
not_finished t o (ends.Finished.value v e) =
    let z : at_value v ≡ open_yet = sym (standing-Value v) ∙ ap standing (sym e) ∙ o in cc
not_finished t o (ends.Finished.throw v e) =
    let z : at_throw v ≡ open_yet = sym (standing-throw v) ∙ ap standing (sym e) ∙ o in cc

pub is_open : (t : Term) → (Finished t → ⊥) → standing t ≡ open_yet
is_open t n = go (decide t)
  where
    go : (standing t ≡ open_yet) ⊎ Finished t → standing t ≡ open_yet
    go (inl o) = o
    go (inr f) = absurd (n f)

pub open_thrown : (y : Term-F Term Value Closure) → standing_at y ≡ open_yet
    → of_thrown y ≡ open_yet
open_thrown (Term-F.Value v) e = absurd cc
open_thrown _ e = refl

none_then : (o : Option Value)
    → option_and_then (λ (v : Value). option_map (λ (vs : List Value). v ∷ vs) None) o ≡ None
none_then None = refl
none_then (Some v) = refl

pub values_open : (before behind : List Term) (b : Term) → standing b ≡ open_yet
    → values_of (before ++ b ∷ behind) ≡ None
values_open [] behind b o =
    ap (λ st. option_and_then (λ
    (v : Value). option_map (λ (vs : List Value). v ∷ vs) (values_of behind)) (value_at st)) o
values_open (t ∷ before) behind b o =
    ap (λ rest. option_and_then (λ
    (v : Value). option_map (λ (vs : List Value). v ∷ vs) rest) (value_at (standing t)))
    (values_open before behind b o) ∙ none_then (value_at (standing t))

pub group_open : (ts : List Term) → values_of ts ≡ None → group ts ≡ Group ts
group_open ts e = ap (tuple_of ts) e

pub value_not_throw : (v w : Value) → term.Value v ≡ throw_of w → ⊥
value_not_throw v w e =
    let z : at_value v ≡ at_throw w = sym (standing-Value v) ∙ ap standing e ∙ standing-throw w
    in cc

-- a part in which a step was taken
pub stepped_open : (t : Term) → standing t ≡ open_yet → stepped t ≡ Stepped t
stepped_open t o = ap (λ st. marked_by st t) o

pub stepped_finished : (t : Term) → Finished t → stepped t ≡ t
stepped_finished t (ends.Finished.value v e) =
    ap (λ st. marked_by st t) (ap standing e ∙ standing-Value v)
stepped_finished t (ends.Finished.throw v e) =
    ap (λ st. marked_by st t) (ap standing e ∙ standing-throw v)

finished_still : (t : Term) → Finished t → is_still t ≡ false
finished_still t (ends.Finished.value v e) =
    ap (λ st. still_by st (has_stepped t)) (ap standing e ∙ standing-Value v)
finished_still t (ends.Finished.throw v e) =
    ap (λ st. still_by st (has_stepped t)) (ap standing e ∙ standing-throw v)

pub or_false : (x y : Bool) → (x || y) ≡ false → (x ≡ false) × (y ≡ false)
or_false true y e = absurd cc
or_false false y e = (refl, e)

pub still_stepped : (t : Term) → is_still (stepped t) ≡ false
still_stepped t = go (decide t)
  where
    go : (standing t ≡ open_yet) ⊎ Finished t → is_still (stepped t) ≡ false
    go (inl o) =
        ap is_still (stepped_open t o)
        ∙ ap (λ y. still_by (standing_at y) (is_mark y)) (outs-Stepped t)
    go (inr f) = ap is_still (stepped_finished t f) ∙ finished_still t f

pub standing_stepped : (v : Value) → standing (stepped (term.Value v)) ≡ at_value v
standing_stepped v =
    ap standing (stepped_finished (term.Value v) (ends.Finished.value v refl)) ∙ standing-Value v

pub standing_stepped_throw : (v : Value) → standing (stepped (throw_of v)) ≡ at_throw v
standing_stepped_throw v =
    ap standing (stepped_finished (throw_of v) (ends.Finished.throw v refl)) ∙ standing-throw v

pub stepped_stays_open : (t : Term) → standing t ≡ open_yet → standing (stepped t) ≡ open_yet
stepped_stays_open t o = ap standing (stepped_open t o) ∙ ap standing_at (outs-Stepped t)
