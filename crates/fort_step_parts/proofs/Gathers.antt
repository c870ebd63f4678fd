-- How parts stand beside each other, gathered from the left.
use Rattle.std.proofs.Common.{◌≡◌, ℕ, ◌≤◌, Bool, true, false, List, [], ◌∷◌, ◌++◌, length, drop, refl, ap, sym, ◌∙◌}
use Rattle.std.proofs.lemmas.List.{drop_all}
use Rattle.fort_core.specs.declared.term.Term.{Term}
use Rattle.fort_core.specs.declared.value.Value.{Value}
use Rattle.fort_machine.specs.Ends.{at_value, at_throw, open_yet}
use Rattle.fort_machine.specs.Acts.{Together, at_values, leftmost, some_still, some_open, with_first, standing_together}
use Rattle.fort_step_parts.specs.declared.gathering.AllParts.{AllParts}
use Rattle.fort_step_parts.specs.declared.gathering.AllParts.TheVariants as all_parts
use Rattle.fort_step_parts.specs.Gathering.{values_first, throw_first, still_first, before, as_together}

value_here : (v : Value) (m : Bool) (rest : Together)
    → with_first (at_value v) m rest ≡ with_first (at_value v) false rest
value_here v m (at_values vs) = refl
value_here v m (leftmost u) = refl
value_here v m some_still = refl
value_here v m some_open = refl

pub last_value : (vs : List Value) (v : Value) (m : Bool) (rest : Together)
    → values_first vs (with_first (at_value v) m rest) ≡ values_first (vs ++ v ∷ []) rest
last_value [] v m rest = value_here v m rest
last_value (u ∷ vs) v m rest = ap (with_first (at_value u) false) (last_value vs v m rest)

pub throw_over_value : (w v : Value) (m : Bool) (rest : Together)
    → throw_first w (with_first (at_value v) m rest) ≡ throw_first w rest
throw_over_value w v m (at_values vs) = refl
throw_over_value w v m (leftmost u) = refl
throw_over_value w v m some_still = refl
throw_over_value w v m some_open = refl

pub still_over_value : (v : Value) (m : Bool) (rest : Together)
    → still_first (with_first (at_value v) m rest) ≡ still_first rest
still_over_value v m (at_values vs) = refl
still_over_value v m (leftmost u) = refl
still_over_value v m some_still = refl
still_over_value v m some_open = refl

pub ruleset values_more = (last_value, throw_over_value, still_over_value)

throw_here : (v : Value) (m : Bool) (rest : Together)
    → with_first (at_throw v) m rest ≡ throw_first v rest
throw_here v m (at_values vs) = refl
throw_here v m (leftmost u) = refl
throw_here v m some_still = refl
throw_here v m some_open = refl

value_before : (u v : Value) (rest : Together)
    → with_first (at_value u) false (throw_first v rest) ≡ throw_first v rest
value_before u v (at_values vs) = refl
value_before u v (leftmost w) = refl
value_before u v some_still = refl
value_before u v some_open = refl

pub values_throw : (vs : List Value) (v : Value) (m : Bool) (rest : Together)
    → values_first vs (with_first (at_throw v) m rest) ≡ throw_first v rest
values_throw [] v m rest = throw_here v m rest
values_throw (u ∷ vs) v m rest =
    ap (with_first (at_value u) false) (values_throw vs v m rest) ∙ value_before u v rest

pub throw_over_throw : (w v : Value) (m : Bool) (rest : Together)
    → throw_first w (with_first (at_throw v) m rest) ≡ throw_first w rest
throw_over_throw w v m (at_values vs) = refl
throw_over_throw w v m (leftmost u) = refl
throw_over_throw w v m some_still = refl
throw_over_throw w v m some_open = refl

pub still_over_throw : (v : Value) (m : Bool) (rest : Together)
    → still_first (with_first (at_throw v) m rest) ≡ throw_first v rest
still_over_throw v m (at_values vs) = refl
still_over_throw v m (leftmost u) = refl
still_over_throw v m some_still = refl
still_over_throw v m some_open = refl

pub ruleset throws_more = (values_throw, throw_over_throw, still_over_throw)

marked_here : (rest : Together) → with_first open_yet true rest ≡ some_open
marked_here (at_values vs) = refl
marked_here (leftmost u) = refl
marked_here some_still = refl
marked_here some_open = refl

values_open : (vs : List Value) → values_first vs some_open ≡ some_open
values_open [] = refl
values_open (v ∷ vs) = ap (with_first (at_value v) false) (values_open vs)

before_open : (g : AllParts) → before g some_open ≡ some_open
before_open (all_parts.Values vs) = values_open vs
before_open (all_parts.Throw v) = refl
before_open all_parts.Still = refl
before_open all_parts.Open = refl

pub marked_more : (g : AllParts) (m : Bool) (rest : Together) → m ≡ true
    → before g (with_first open_yet m rest) ≡ some_open
marked_more g m rest e =
    ap (λ (b : Bool). before g (with_first open_yet b rest)) e ∙ ap (before g) (marked_here rest)
    ∙ before_open g

still_here : (rest : Together) → with_first open_yet false rest ≡ still_first rest
still_here (at_values vs) = refl
still_here (leftmost u) = refl
still_here some_still = refl
still_here some_open = refl

value_still : (u : Value) (rest : Together)
    → with_first (at_value u) false (still_first rest) ≡ still_first rest
value_still u (at_values vs) = refl
value_still u (leftmost w) = refl
value_still u some_still = refl
value_still u some_open = refl

values_still : (vs : List Value) (rest : Together)
    → values_first vs (still_first rest) ≡ still_first rest
values_still [] rest = refl
values_still (u ∷ vs) rest =
    ap (with_first (at_value u) false) (values_still vs rest) ∙ value_still u rest

throw_still : (w : Value) (rest : Together) → throw_first w (still_first rest) ≡ throw_first w rest
throw_still w (at_values vs) = refl
throw_still w (leftmost u) = refl
throw_still w some_still = refl
throw_still w some_open = refl

still_still : (rest : Together) → still_first (still_first rest) ≡ still_first rest
still_still (at_values vs) = refl
still_still (leftmost u) = refl
still_still some_still = refl
still_still some_open = refl

unmarked : (g : AllParts) (m : Bool) (rest : Together) → m ≡ false
    → before g (with_first open_yet m rest) ≡ before g (still_first rest)
unmarked g m rest e =
    ap (λ (b : Bool). before g (with_first open_yet b rest)) e ∙ ap (before g) (still_here rest)

pub values_then_still : (vs : List Value) (m : Bool) (rest : Together) → m ≡ false
    → values_first vs (with_first open_yet m rest) ≡ still_first rest
values_then_still vs m rest e = unmarked (all_parts.Values vs) m rest e ∙ values_still vs rest

pub throw_then_still : (w : Value) (m : Bool) (rest : Together) → m ≡ false
    → throw_first w (with_first open_yet m rest) ≡ throw_first w rest
throw_then_still w m rest e = unmarked (all_parts.Throw w) m rest e ∙ throw_still w rest

pub still_then_still : (m : Bool) (rest : Together) → m ≡ false
    → still_first (with_first open_yet m rest) ≡ still_first rest
still_then_still m rest e = unmarked all_parts.Still m rest e ∙ still_still rest

pub ruleset opens_more = (marked_more, values_then_still, throw_then_still, still_then_still)

values_end : (vs : List Value) → values_first vs (at_values []) ≡ at_values vs
values_end [] = refl
values_end (v ∷ vs) = ap (with_first (at_value v) false) (values_end vs)

-- where no part is left
pub at_end : (g : AllParts) → before g (at_values []) ≡ as_together g
at_end (all_parts.Values vs) = values_end vs
at_end (all_parts.Throw v) = refl
at_end all_parts.Still = refl
at_end all_parts.Open = refl

pub all_gathered : (ts : List Term) (i : ℕ) (g : AllParts)
    → standing_together ts ≡ before g (standing_together (drop i ts)) → length ts ≤ i
    → standing_together ts ≡ as_together g
all_gathered ts i g e le =
    e ∙ ap (λ xs. before g (standing_together xs)) (drop_all i ts le) ∙ at_end g
