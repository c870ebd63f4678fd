-- One pick of a form that ends no machine, in whatever machine.
use Rattle.std.proofs.Common.{◌≡◌, ℕ, Bool, false, List, [], ◌∷◌, refl, ap, sym, ◌∙◌, subst}
use Rattle.fort_base.specs.declared.ids.DeclId.{DeclId}
use Rattle.fort_base.specs.declared.ids.SetId.{SetId}
use Rattle.fort_core.specs.declared.form.Mode.{Mode}
use Rattle.fort_core.specs.declared.pick.Pick.{Pick}
use Rattle.fort_core.specs.declared.program.CoreDecl.{CoreDecl}
use Rattle.fort_core.specs.declared.program.Program.{Program}
use Rattle.fort_core.specs.declared.term.Term.{Term, out-Term}
use Rattle.fort_core.specs.declared.term.Term.TheVariants.{outs-Atomic, outs-Asleep}
use Rattle.fort_core.specs.declared.value.Value.{Value}
use Rattle.fort_machine.specs.Acts.{Act, stuck, turns, enters, asks, sets, makes, calls}
use Rattle.fort_machine.specs.Acts as acts
use Rattle.fort_machine.specs.Attempts.{Form, fresh, slept, Ready, Ended, goes, aborts, Closes}
use Rattle.fort_machine.specs.Calls.{Dispatches, by_body}
use Rattle.fort_machine.specs.Effects.{Store, Effect, idle, paid, both, FitsAll}
use Rattle.fort_machine.specs.Forms.{act_at, act}
use Rattle.fort_machine.specs.Frames.{Frame, plug, passed, trodden}
use Rattle.fort_machine.specs.Runs.{Runs, none, step, stop, attempt}
use Rattle.fort_machine.specs.Steps.{Acts, by_itself, by_call, Does, Local, steps}
use Rattle.fort_machine.proofs.WholeEffects.{both_idle}
use Rattle.fort_machine.proofs.Ready.{stop_ready}
use Rattle.fort_threads_law_servers.proofs.Turns.{AllSerial, sole, a_step, an_attempt, run_of}

-- ---- what ends a machine

-- what a form does that ends no machine, and calls nothing
abbrev pub IsSteady : Act → Type 0
IsSteady stuck = ⊥
IsSteady (calls set values) = ⊥
IsSteady acts.ends = ⊥
IsSteady _ = Unit {0}

pub plain_no_end : (p : Program) (a : Term) (x : Act) → act p a ≡ x → IsSteady x
    → Acts p a acts.ends → ⊥
plain_no_end p a x e h (by_itself q) = subst IsSteady (sym e ∙ q) h
plain_no_end p a x e h (by_call {set = set} {values = vs} q r w) =
    let z : IsSteady (calls set vs) = subst IsSteady (sym e ∙ q) h in z

pub stuck_no_end : (p : Program) (a : Term) → act p a ≡ stuck → Acts p a acts.ends → ⊥
stuck_no_end p a e (by_itself q) = let z : stuck ≡ acts.ends = sym e ∙ q in cc
stuck_no_end p a e (by_call {set = set} {values = vs} q r w) =
    let z : stuck ≡ calls set vs = sym e ∙ q in cc

pub call_no_end : (p : Program) (a : Term) (set : SetId) (vs : List Value)
    → act p a ≡ calls set vs
    → ((c : DeclId) (declared : CoreDecl) → Dispatches p set vs c declared
    → by_body p declared.body vs ≡ acts.ends → ⊥)
    → Acts p a acts.ends → ⊥
call_no_end p a set vs e f (by_itself q) = let z : calls set vs ≡ acts.ends = sym e ∙ q in cc
call_no_end p a set vs e f
    (by_call {set = set'} {values = vs'} {d = c} {decl = declared} q r w) =
    let z : calls set' vs' ≡ calls set vs = sym q ∙ e in
    let e1 : set' ≡ set = cc in
    let e2 : vs' ≡ vs = cc in
    f c declared
    (subst (λ x. Dispatches p x vs c declared) e1
    (subst (λ x. Dispatches p set' x c declared) e2 r))
    (ap (by_body p declared.body) (sym e2) ∙ w)

pub form_stuck : (p : Program) (a : Term) (m : Mode) (body : Term) → Form a m body
    → act p a ≡ stuck
form_stuck p a m body (fresh e) = ap (act_at p) (ap out-Term e ∙ outs-Atomic m body)
form_stuck p a m body (slept ms n e) = ap (act_at p) (ap out-Term e ∙ outs-Asleep ms body)

-- ---- one pick

-- a pick leads to a term, and does so in the root's machine too, where the rule on sleeping forms
-- is left aside; or it ends its machine
pub data Picked (p : Program) (s : Store) (pick : Pick) (t : Term) (r : Ended) (d : Effect)
    : Type 0 where
  went : (u : Term) → r ≡ goes u → Runs p false false s (pick ∷ []) t (goes u) d
      → Picked p s pick t r d
  ended : (fs : List Frame) (a : Term) → t ≡ plug fs a → passed fs a ≡ false
      → Acts p a acts.ends → r ≡ aborts → d ≡ paid 1 → Picked p s pick t r d

nothing_more : {p : Program} {inner strict : Bool} {s : Store} {rest : List Pick} {t : Term}
    {r : Ended} {d : Effect} → rest ≡ [] → Runs p inner strict s rest t r d
    → (r ≡ goes t) × (d ≡ idle)
nothing_more e (none a b c) = (b, c)
nothing_more e (step fs a b c l f k w) = absurd cc
nothing_more e (stop fs a b c n h x w) = absurd cc
nothing_more e (attempt fs a b c l bare may k close k2 w) = absurd cc

tail_none : (x y : Pick) (rest : List Pick) → x ∷ [] ≡ y ∷ rest → rest ≡ []
tail_none x y rest e = cc

head_same : (x y : Pick) (rest : List Pick) → x ∷ [] ≡ y ∷ rest → x ≡ y
head_same x y rest e = cc

outer : (p : Program) (inner : Bool) (loc : ℕ) (x : Act) (b : Term) (d : Effect)
    → Does p inner loc x b d → Does p false loc x b d
outer p inner loc stuck b d k = k
outer p inner loc (turns next output cost) b d k = k
outer p inner loc (enters body next) b d k = k
outer p inner loc (asks l next) b d k = k
outer p inner loc (sets l v) b d k = k
outer p inner loc (makes vs next cost) b d k = k
outer p inner loc (calls set vs) b d k = k
outer p inner loc acts.ends b d k = (k.0, refl, k.2, k.3, k.4, k.5)

outer_step : {p : Program} {inner : Bool} {loc : ℕ} {a b : Term} {d : Effect}
    → Local p inner loc a b d → Local p false loc a b d
outer_step {p = p} {inner = inner} {loc = loc} {b = b} {d = d} (steps x h k) =
    steps x h (outer p inner loc x b d k)

pub picked : {p : Program} {inner strict : Bool} {s : Store} {pick : Pick} {t : Term}
    {r : Ended} {d : Effect} → Runs p inner strict s (pick ∷ []) t r d → Picked p s pick t r d
picked (none a b c) = absurd cc
picked {p = p} {s = s} {pick = pick} {d = d}
    (step {a = a} {b = b} {d1 = d1} {d2 = d2} {loc = loc} fs e c n l f k w) =
    let z = nothing_more (tail_none _ _ _ e) k in
    let q = w ∙ ap (both d1) z.1 ∙ both_idle d1 in
    went (plug (trodden fs) b) z.0
    (subst (λ x. Runs p false false s (pick ∷ []) x (goes (plug (trodden fs) b)) d) (sym c)
    (run_of fs n (a_step loc (head_same _ _ _ e)
    (subst (λ x. Local p false loc a b x) (sym q) (outer_step l))
    (subst (λ x. FitsAll x s) (sym q) f))))
picked (stop {a = a} fs e c q n h x w) = ended fs a q n h x w
picked {p = p} {s = s} {pick = pick} {d = d}
    (attempt {m = m} {within = within} {a = a} {b = b} {body = body} {ended = r} {d1 = d1}
    {d2 = d2} {d3 = d3} fs e c n form bare may k close k2 w) =
    let z = nothing_more (tail_none _ _ _ e) k2 in
    let q = w ∙ ap (both d2) z.1 ∙ both_idle d2 in
    went (plug (trodden fs) b) z.0
    (subst (λ x. Runs p false false s (pick ∷ []) x (goes (plug (trodden fs) b)) d) (sym c)
    (run_of fs n (an_attempt m body within r d1 (head_same _ _ _ e) form bare k
    (subst (λ x. Closes p m body r d1 b x) (sym q) close))))

-- a pick under such frames of a form that ends no machine
pub record Onto (p : Program) (s : Store) (pick : Pick) (t : Term) (r : Ended) (d : Effect)
    : Type 0 where
  pub next : Term
  pub going : r ≡ goes next
  pub run : Runs p false false s (pick ∷ []) t (goes next) d

pub onto : {p : Program} {inner strict : Bool} {s : Store} {pick : Pick} {r : Ended} {d : Effect}
    (fs : List Frame) (a : Term) → AllSerial fs → Ready a → (Acts p a acts.ends → ⊥)
    → Runs p inner strict s (pick ∷ []) (plug fs a) r d → Onto p s pick (plug fs a) r d
onto {p = p} {s = s} {pick = pick} {r = r} {d = d} fs a h ready n k = go (picked k)
  where
    go : Picked p s pick (plug fs a) r d → Onto p s pick (plug fs a) r d
    go (went u e k) = record { next = u; going = e; run = k }
    go (ended gs b e m x q w) =
        let i = sole fs gs a b h e ready (stop_ready p b x) m in
        absurd (n (subst (λ y. Acts p y acts.ends) i.1 x))
