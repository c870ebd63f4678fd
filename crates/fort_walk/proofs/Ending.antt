-- The end of a machine's term, or of a sweep through it.
use Rattle.std.proofs.Common.{◌≡◌, ◌≢◌, ◌||◌, ◌&&◌, Bool, true, false, [], refl, ap, sym, ◌∙◌, subst, inl, inr}
use Rattle.fort_core.specs.declared.program.Program.{Program}
use Rattle.fort_core.specs.declared.term.Term.{Term}
use Rattle.fort_core.specs.declared.term.Term as term
use Rattle.fort_core.specs.declared.value.Value.{Value}
use Rattle.fort_machine.specs.Effects.{Store}
use Rattle.fort_machine.specs.Acts.{unit}
use Rattle.fort_machine.specs.Attempts.{goes}
use Rattle.fort_machine.proofs.Standing.{value_not_throw}
use Rattle.fort_frames.specs.Frames.{frames, rebuilt, Reaches}
use Rattle.fort_frames.specs.States.{term_at}
use Rattle.fort_frames.specs.declared.place.Place.{Place}
use Rattle.fort_frames.specs.declared.state.At.TheVariants as at
use Rattle.fort_frames.specs.declared.state.State.{State}
use Rattle.fort_store_effects.specs.Levels.{levels_of, seen}
use Rattle.fort_walk_law_course.specs.Picks.{NoneAwake}
use Rattle.fort_walk_law_course.specs.Course.{is_inner}
use Rattle.fort_frames_moves.specs.Sweeps.{IsLeftAt, SweptTo}
use Rattle.fort_walk_course.specs.declared.course.Course.{Course}
use Rattle.fort_walk_course.specs.Courses.{HasCome, StandsAt, around}
use Rattle.fort_walk_turns.specs.declared.sweep.Sweep.{Sweep}
use Rattle.fort_walk_turns.specs.Stops.{StopsShort, stuck, IsAtEnd}
use Rattle.fort_walk_turns.specs.Idles.{Idles, AreAsleep, IsAtForm, IsAtEndOf}
use Rattle.fort_walk_turns.proofs.Idle.{nobody_goes, open_no_end, value_stays}
use Rattle.fort_walk_turns.proofs.Begins.{not_waking, sweep_begins}
use Rattle.fort_walk_turns.proofs.Giving.{come_reached}
use Rattle.fort_walk_turns.proofs.Taking.{root_is}

-- the whole term, at its root
pub come_whole : (p : Program) (c : Course) (s : State) (t : Term) → HasCome p c (goes t)
    → frames s.place.stack ≡ [] → s.«at» ≡ at.Form t → StandsAt p c s.place (term_at s.«at»)
come_whole p c s t h root form =
    let same : rebuilt c.clock (frames s.place.stack) (term_at s.«at») ≡ t =
    ap (λ fs. rebuilt c.clock fs (term_at s.«at»)) root ∙ ap term_at form in
    record {
      course = record {
        comes = (subst (λ u. HasCome p c (goes u)) (sym same) h).comes;
        reached = subst (λ fs. Reaches c.clock fs (term_at s.«at»)) (sym root) tt;
        nothing = h.nothing;
      };
      is_spent = h.is_spent;
    }

-- where all sleep nobody is awake
none_awake : (p : Program) (inner : Bool) (store : Store) (w : Sweep) (t : Term)
    → Idles p inner store w t (λ met. IsLeftAt met (at.Left t)) → w.stuck ≡ false
    → NoneAwake store t
none_awake p inner store w t i none path aw =
    elim (i.idle aw.part (i.swept.all_met.all aw.frames aw.part aw.is_term aw.reached aw.ready)) [
      | inl h ↦ aw.sleepless h.1
      | inr h ↦ (let q : true ≡ false = sym h.0 ∙ none in absurd cc)
    ]

pub again_asleep : (p : Program) (c : Course) (w v : Sweep) (t u : Term)
    → IsAtEndOf p c w (at.Left t) → (w.idle ≡ true → w.stuck ≡ false) → v.wakes ≡ w.idle → u ≡ t
    → AreAsleep c v u
again_asleep p c w v t u h none ew same e =
    let idle : w.idle ≡ true = sym ew ∙ e in
    subst (NoneAwake (seen (levels_of c.layers))) (sym same)
    (none_awake p (is_inner (around c)) (seen (levels_of c.layers)) w t (h.idles idle)
    (none idle))

-- nobody may go on
pub left_stuck : (p : Program) (c : Course) (w : Sweep) (t : Term) → IsAtEndOf p c w (at.Left t)
    → w.idle ≡ true → (w.stuck || w.wakes) ≡ true → StopsShort p
left_stuck p c w t h idle over =
    let i = h.idles idle in
    stuck (record {
      inner = is_inner (around c);
      store = seen (levels_of c.layers);
      term = t;
      reached = come_reached p c t h.come;
      no_end = open_no_end (is_inner (around c)) t i.swept.is_open;
      nobody = nobody_goes p (is_inner (around c)) (seen (levels_of c.layers)) w i.met t i.swept
          i.idle i.awake over;
    })

value_no_end : (v : Value) → v ≢ unit → IsAtEnd false (term.Value v) → ⊥
value_no_end v n (inl e) = n (cc)
value_no_end v n (inr h) = value_not_throw v h.0 h.1

pub value_stuck : (p : Program) (c : Course) (v : Value) → HasCome p c (goes (term.Value v))
    → c.outer ≡ [] → v ≢ unit → StopsShort p
value_stuck p c v h o n =
    let root = root_is c o in
    stuck (record {
      inner = is_inner (around c);
      store = seen (levels_of c.layers);
      term = term.Value v;
      reached = come_reached p c (term.Value v) h;
      no_end = subst (λ i. IsAtEnd i (term.Value v) → ⊥) (sym root) (value_no_end v n);
      nobody = value_stays p (is_inner (around c)) (seen (levels_of c.layers)) v;
    })

-- another sweep, or nobody goes on
pub still_awake : (idle halts wakes : Bool) → (idle && (halts || wakes)) ≡ false → idle ≡ true
    → halts ≡ false
still_awake true true wakes e i = let z : true ≡ false = e in absurd cc
still_awake true false wakes e i = refl
still_awake false halts wakes e i = let z : false ≡ true = i in absurd cc

pub all_over : (idle halts wakes : Bool) → (idle && (halts || wakes)) ≡ true
    → (idle ≡ true) × ((halts || wakes) ≡ true)
all_over true halts wakes e = (refl, e)
all_over false halts wakes e = let z : false ≡ true = e in absurd cc

pub again_walks : (p : Program) (c : Course) (w v : Sweep) (place : Place) (t : Term)
    → IsAtEndOf p c w (at.Left t) → (w.idle ≡ true → w.stuck ≡ false) → v.stuck ≡ false
    → v.wakes ≡ w.idle → frames place.stack ≡ []
    → IsAtForm p c v place t (λ met. SweptTo met (record { place = place; «at» = at.Form t }))
again_walks p c w v place t h none vs vw root =
    sweep_begins p (record { course = c; state = record { place = place; «at» = at.Form t } }) v
    (come_whole p c (record { place = place; «at» = at.Form t }) t h.come root refl) (
      root,
      t,
      refl,
    ) vs
    (again_asleep p c w v t (rebuilt c.clock (frames place.stack) t) h none vw
    (ap (λ fs. rebuilt c.clock fs t) root))

-- a whole term is gone into from its left end
pub goes_in : (p : Program) (c : Course) (v : Sweep) (place : Place) (t : Term)
    → HasCome p c (goes t) → v.stuck ≡ false → v.wakes ≡ false → frames place.stack ≡ []
    → IsAtForm p c v place t (λ met. SweptTo met (record { place = place; «at» = at.Form t }))
goes_in p c v place t h vs vw root =
    sweep_begins p (record { course = c; state = record { place = place; «at» = at.Form t } }) v
    (come_whole p c (record { place = place; «at» = at.Form t }) t h root refl) (
      root,
      t,
      refl,
    ) vs
    (not_waking c v (rebuilt c.clock (frames place.stack) t) vw)
