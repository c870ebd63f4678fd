-- Legs one after the other.
use Rattle.std.proofs.Common.{◌≡◌, ◌≢◌, ℕ, Bool, true, false, List, [], ◌∷◌, ◌++◌, map, refl, ap, sym, ◌∙◌, subst, append_assoc, inl}
use Rattle.std.proofs.lemmas.List.{map-append, append-nil}
use Rattle.fort_core.specs.declared.pick.Pick.{Pick}
use Rattle.fort_core.specs.declared.program.Program.{Program}
use Rattle.fort_core.specs.declared.term.Term.{Term}
use Rattle.fort_machine.specs.Attempts.{goes}
use Rattle.fort_machine.specs.Effects.{Store, Effect, both, FitsAll, afterwards}
use Rattle.fort_machine.specs.Ends.{has_stepped}
use Rattle.fort_machine.specs.Frames.{Frame, plug, road, passed, trodden}
use Rattle.fort_machine.specs.Proper.{by_run}
use Rattle.fort_machine.specs.Runs.{Runs, none}
use Rattle.fort_machine.specs.Threads.{under, round_after}
use Rattle.fort_machine.proofs.Runs.{append, runs_fit, lift_trodden, trodden_twice, road_trodden}
use Rattle.fort_machine.proofs.WholeEffects.{both_assoc, idle_both, both_idle, afterwards_both}
use Rattle.fort_walk_legs.proofs.Legs.{steps_alike, steps_under}
use Rattle.fort_hall_law_books.specs.Taken.{IsStepped, IsTried}
use Rattle.fort_hall_law_books.specs.Legs.{Legs, no_leg, by_steps, by_attempt}
use Rattle.fort_hall_law_books.specs.LegLaws.{LegsRun, LegsAppend, LegsLift, LegsTakeSteps, LegsTakeAttempt, LegsReach, LegIsLegs}
use Rattle.fort_hall_law_books.proofs.Taken.{stepped_is_framed, stepped_lifts, tried_is_framed, tried_lifts, tried_trodden, tried_runs}

-- legs along equations
again : (p : Program) (inner : Bool) (s s' : Store) (t t' u u' : Term) (picks picks' : List Pick)
    (d d' : Effect) → s ≡ s' → t ≡ t' → picks ≡ picks' → u ≡ u' → d ≡ d'
    → Legs p inner s t picks u d → Legs p inner s' t' picks' u' d'
again p inner s s' t t' u u' picks picks' d d' a b c e f k =
    subst (λ x. Legs p inner x t' picks' u' d') a
    (subst (λ x. Legs p inner s x picks' u' d') b
    (subst (λ x. Legs p inner s t x u' d') c
    (subst (λ x. Legs p inner s t picks x d') e
    (subst (λ x. Legs p inner s t picks u x) f k))))

-- a run and then another one, along equations
run_on : {p : Program} {inner : Bool} (s : Store) (t v u : Term) (picks first rest : List Pick)
    (d e f : Effect) → Runs p inner true s first t (goes v) e
    → Runs p inner true (afterwards e s) rest v (goes u) f → picks ≡ first ++ rest → d ≡ both e f
    → Runs p inner true s picks t (goes u) d
run_on {p = p} {inner = inner} s t v u picks first rest d e f k n a b =
    subst (λ x. Runs p inner true s x t (goes u) d) (sym a)
    (subst (λ x. Runs p inner true s (first ++ rest) t (goes u) x) (sym b)
    (append s first t (goes v) e k v refl rest (goes u) f n))

pub legs_run_at : {p : Program} {inner : Bool} (s : Store) (t u : Term) (picks : List Pick)
    (d : Effect) → Legs p inner s t picks u d → Runs p inner true s picks t (goes u) d
legs_run_at s t u picks d (no_leg a b c) = none a (ap goes (sym b)) c
legs_run_at s t u picks d
    (by_steps {v = v} {first = first} {rest = rest} {e = e} {f = f} some leg more a b) =
    run_on s t v u picks first rest d e f leg.runs
    (legs_run_at (afterwards e s) v u rest f more) a b
legs_run_at {p = p} {inner = inner} s t u picks d
    (by_attempt {form = form} {v = v} {first = first} {rest = rest} {e = e} {f = f} k wakes more a b) =
    run_on s t v u picks first rest d e f
    (tried_runs p inner s t form v first e k (inl wakes))
    (legs_run_at (afterwards e s) v u rest f more) a b

pub legs_run : LegsRun
legs_run p inner s t u picks d k = legs_run_at s t u picks d k

-- the store behind a first leg and the rest
store_on : {p : Program} {inner : Bool} (s : Store) (t v u : Term) (first rest : List Pick)
    (d e f : Effect) → Runs p inner true s first t (goes v) e
    → Legs p inner (afterwards e s) v rest u f → d ≡ both e f
    → afterwards d s ≡ afterwards f (afterwards e s)
store_on {p = p} {inner = inner} s t v u first rest d e f k rests b =
    let g : FitsAll e s = runs_fit s first t (goes v) e k in
    let h : FitsAll f (afterwards e s) =
    runs_fit (afterwards e s) rest v (goes u) f (legs_run_at (afterwards e s) v u rest f rests) in
    ap (λ x. afterwards x s) b ∙ afterwards_both e f s g h

pub legs_append_at : {p : Program} {inner : Bool} (s : Store) (t u : Term) (picks : List Pick)
    (d : Effect) → Legs p inner s t picks u d
    → (v : Term) (more : List Pick) (e : Effect) → Legs p inner (afterwards d s) u more v e
    → Legs p inner s t (picks ++ more) v (both d e)
legs_append_at {p = p} {inner = inner} s t u picks d (no_leg a b c) v more e next =
    again p inner (afterwards d s) s u t v v more (picks ++ more) e (both d e)
    (ap (λ x. afterwards x s) c) (sym b) (sym (ap (λ x. x ++ more) a)) refl
    (sym (ap (λ x. both x e) c ∙ idle_both e)) next
legs_append_at {p = p} {inner = inner} s t u picks d
    (by_steps {v = v0} {first = first} {rest = rest} {e = e0} {f = f} some leg rests a b)
    v more e next =
    by_steps some leg
    (legs_append_at (afterwards e0 s) v0 u rest f rests v more e
    (subst (λ x. Legs p inner x u more v e)
    (store_on s t v0 u first rest d e0 f leg.runs rests b) next))
    (ap (λ x. x ++ more) a ∙ append_assoc first rest more)
    (ap (λ x. both x e) b ∙ both_assoc e0 f e)
legs_append_at {p = p} {inner = inner} s t u picks d
    (by_attempt {form = form} {v = v0} {first = first} {rest = rest} {e = e0} {f = f} k wakes rests a b)
    v more e next =
    by_attempt k wakes
    (legs_append_at (afterwards e0 s) v0 u rest f rests v more e
    (subst (λ x. Legs p inner x u more v e)
    (store_on s t v0 u first rest d e0 f (tried_runs p inner s t form v0 first e0 k (inl wakes)) rests b)
    next))
    (ap (λ x. x ++ more) a ∙ append_assoc first rest more)
    (ap (λ x. both x e) b ∙ both_assoc e0 f e)

pub legs_append : LegsAppend
legs_append p inner s t u v picks more d e k next = legs_append_at s t u picks d k v more e next

some_under : (path : List ℕ) (picks : List Pick) → picks ≢ [] → map (under path) picks ≢ []
some_under path [] n e = n refl
some_under path (pick ∷ picks) n e = absurd cc

-- steps of a part on the way to which a step was taken
stepped_trodden : (p : Program) (inner : Bool) (fs : List Frame) → trodden fs ≡ fs
    → (s : Store) (t u : Term) (picks : List Pick) (d : Effect)
    → IsStepped p inner s t picks (goes u) d
    → IsStepped p inner s (plug fs t) (map (under (road fs)) picks) (goes (plug fs u)) d
stepped_trodden p inner fs q s t u picks d leg =
    let steps = steps_under (road fs) picks leg.steps in
    record {
      runs = steps_alike true s (map (under (road fs)) picks) (plug fs t) (goes (plug fs u)) d
          (lift_trodden fs q s picks t (goes u) d
          (steps_alike false s picks t (goes u) d leg.runs leg.steps)) steps;
      steps = steps;
    }

-- legs of such a part
legs_trodden : {p : Program} {inner : Bool} (fs : List Frame) → trodden fs ≡ fs
    → (s : Store) (t u : Term) (picks : List Pick) (d : Effect) → Legs p inner s t picks u d
    → Legs p inner s (plug fs t) (map (under (road fs)) picks) (plug fs u) d
legs_trodden fs q s t u picks d (no_leg a b c) =
    no_leg (ap (map (under (road fs))) a) (ap (plug fs) b) c
legs_trodden {p = p} {inner = inner} fs q s t u picks d
    (by_steps {v = v} {first = first} {rest = rest} {e = e} {f = f} some leg more a b) =
    by_steps (some_under (road fs) first some) (stepped_trodden p inner fs q s t v first e leg)
    (legs_trodden fs q (afterwards e s) v u rest f more)
    (ap (map (under (road fs))) a ∙ map-append (under (road fs)) first rest) b
legs_trodden {p = p} fs q s t u picks d
    (by_attempt {form = form} {v = v} {first = first} {rest = rest} {e = e} {f = f} k wakes more a b) =
    by_attempt (tried_trodden p fs q s t form v first e k) wakes
    (legs_trodden fs q (afterwards e s) v u rest f more)
    (ap (map (under (road fs))) a ∙ map-append (under (road fs)) first rest) b

-- the first leg treads the way
rest_trodden : {p : Program} {inner : Bool} (fs : List Frame) (s : Store) (t u : Term)
    (picks : List Pick) (d : Effect) → Legs p inner s t picks u d
    → Legs p inner s (plug (trodden fs) t) (map (under (road fs)) picks) (plug (trodden fs) u) d
rest_trodden {p = p} {inner = inner} fs s t u picks d k =
    subst (λ x. Legs p inner s (plug (trodden fs) t) (map (under x) picks) (plug (trodden fs) u) d)
    (road_trodden fs) (legs_trodden (trodden fs) (trodden_twice fs) s t u picks d k)

pub round_some : (picks : List Pick) (fs : List Frame) → picks ≢ []
    → round_after picks fs ≡ trodden fs
round_some [] fs n = absurd (n refl)
round_some (pick ∷ picks) fs n = refl

some_first : (first rest picks : List Pick) → picks ≡ first ++ rest → first ≢ [] → picks ≢ []
some_first [] rest picks e n q = n refl
some_first (pick ∷ first) rest picks e n q = absurd cc

lifted_steps : (p : Program) (inner : Bool) (fs : List Frame) (s : Store) (t v : Term)
    (first : List Pick) (e : Effect) → passed fs t ≡ false → has_stepped t ≡ false → first ≢ []
    → IsStepped p inner s t first (goes v) e
    → IsStepped p inner s (plug fs t) (map (under (road fs)) first) (goes (plug (trodden fs) v)) e
lifted_steps p inner fs s t v first e w m some leg =
    subst (λ gs. IsStepped p inner s (plug fs t) (map (under (road fs)) first) (goes (plug gs v)) e)
    (round_some first fs some) (stepped_lifts p inner fs s t first (goes v) e w m leg)

pub tried_some : (p : Program) (s : Store) (t form v : Term) (first : List Pick) (e : Effect)
    → IsTried p s t form first v e → first ≢ []
tried_some p s t form v first e k q = let z = sym k.is_picks ∙ q in absurd cc

-- what is behind the first leg of a part, in the whole
rest_lifted : {p : Program} {inner : Bool} (fs : List Frame) (s : Store) (v u : Term)
    (picks first rest : List Pick) (f : Effect) → picks ≡ first ++ rest → first ≢ []
    → Legs p inner s v rest u f
    → Legs p inner s (plug (trodden fs) v) (map (under (road fs)) rest)
    (plug (round_after picks fs) u) f
rest_lifted {p = p} {inner = inner} fs s v u picks first rest f a some more =
    subst (λ gs. Legs p inner s (plug (trodden fs) v) (map (under (road fs)) rest) (plug gs u) f)
    (sym (round_some picks fs (some_first first rest picks a some)))
    (rest_trodden fs s v u rest f more)

pub legs_lift_at : {p : Program} {inner : Bool} (fs : List Frame) (s : Store) (t u : Term)
    (picks : List Pick) (d : Effect) → passed fs t ≡ false → has_stepped t ≡ false
    → Legs p inner s t picks u d
    → Legs p inner s (plug fs t) (map (under (road fs)) picks) (plug (round_after picks fs) u) d
legs_lift_at fs s t u picks d w m (no_leg a b c) =
    no_leg (ap (map (under (road fs))) a) (λ i. plug (round_after (sym a i) fs) (b i)) c
legs_lift_at {p = p} {inner = inner} fs s t u picks d w m
    (by_steps {v = v} {first = first} {rest = rest} {e = e} {f = f} some leg more a b) =
    by_steps (some_under (road fs) first some) (lifted_steps p inner fs s t v first e w m some leg)
    (rest_lifted fs (afterwards e s) v u picks first rest f a some more)
    (ap (map (under (road fs))) a ∙ map-append (under (road fs)) first rest) b
legs_lift_at {p = p} {inner = inner} fs s t u picks d w m
    (by_attempt {form = form} {v = v} {first = first} {rest = rest} {e = e} {f = f} k wakes more a b) =
    by_attempt (tried_lifts p fs s t form v first e w m k) wakes
    (rest_lifted fs (afterwards e s) v u picks first rest f a
    (tried_some p s t form v first e k) more)
    (ap (map (under (road fs))) a ∙ map-append (under (road fs)) first rest) b

pub legs_lift : LegsLift
legs_lift p inner fs s t u picks d w m k = legs_lift_at fs s t u picks d w m k

pub legs_take_steps : LegsTakeSteps
legs_take_steps p inner s s' first t u fs picks more d e k w m some leg f =
    let own = lifted_steps p inner fs (afterwards d s) t u more e w m some
    (stepped_is_framed p inner s' (afterwards d s) t more (goes u) e leg f) in
    legs_append_at s first (plug fs t) picks d k (plug (trodden fs) u) (map (under (road fs)) more) e
    (by_steps (some_under (road fs) more some) own (no_leg refl refl refl)
    (sym (append-nil (map (under (road fs)) more))) (sym (both_idle e)))

pub legs_take_attempt : LegsTakeAttempt
legs_take_attempt p inner s s' first t form u fs picks more d e k w m leg f wakes =
    let own = tried_lifts p fs (afterwards d s) t form u more e w m
    (tried_is_framed p s' (afterwards d s) t form u more e leg f) in
    legs_append_at s first (plug fs t) picks d k (plug (trodden fs) u) (map (under (road fs)) more) e
    (by_attempt own wakes (no_leg refl refl refl)
    (sym (append-nil (map (under (road fs)) more))) (sym (both_idle e)))

pub legs_reach : LegsReach
legs_reach p inner s t u picks d r k = by_run r (legs_run_at s t u picks d k) refl

pub leg_is_legs : LegIsLegs
leg_is_legs p inner s t u picks d some leg =
    by_steps some (record { runs = leg.runs; steps = leg.steps }) (no_leg refl refl refl)
    (sym (append-nil picks)) (sym (both_idle d))
