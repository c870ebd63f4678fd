-- A step carries a run on.
use Rattle.std.proofs.Common.{◌≡◌, ℕ, ◌+◌, ◌<◌, ◌≤◌, ◌^◌, ◌==◌, if◌then◌else◌, Bool, true, false, List, [], ◌∷◌, ◌++◌, length, Option, Some, None, refl, ap, sym, ◌∙◌, subst, arith}
use Rattle.fort_core.specs.declared.pick.Pick.{Step}
use Rattle.fort_core.specs.declared.program.Program.{Program}
use Rattle.fort_core.specs.declared.term.Term.{Term}
use Rattle.fort_core.specs.declared.value.Value.{Value}
use Rattle.fort_machine.specs.Cells.{made, found, untouched}
use Rattle.fort_machine.specs.Effects.{Effect, printed, reading, writing, making, only_at}
use Rattle.fort_machine.specs.Attempts.{goes}
use Rattle.fort_machine.specs.Runs.{location}
use Rattle.fort_machine.specs.Journals.{MakesWithinBounds}
use Rattle.fort_machine.proofs.Effects.{made_in_row}
use Rattle.fort_frames.specs.Frames.{frames, rebuilt}
use Rattle.fort_frames.specs.declared.place.Place.{Place}
use Rattle.fort_store_effects.specs.Calls.{Adds, AreFree}
use Rattle.fort_store_effects.specs.Levels.{levels_of, seen, spent}
use Rattle.fort_store_effects.specs.declared.layers.Layers.{Layers}
use Rattle.fort_walk_law_course.proofs.Keeps.{step_keeps}
use Rattle.fort_walk_course.specs.declared.course.Course.{Course}
use Rattle.fort_walk_course.specs.Courses.{StandsAt, around, inwards}
use Rattle.fort_walk_course.specs.Calls.{MayStep, StepsTo}
use Rattle.fort_walk_course.specs.Picked.{PicksStep}
use Rattle.fort_walk_course.proofs.Around.{course_by}
use Rattle.fort_walk_course.specs.Taken.{MakesBelow}
use Rattle.fort_walk_course.proofs.Seen.{nothing_seen, spent_adds}

pub step_stands : (p : Program) (c n : Course) (layers : Layers) (fresh : ℕ) (place : Place)
    (b : Term) (loc : ℕ) (e : Effect) → MayStep p c place loc b e
    → Adds e (levels_of c.layers) (levels_of layers)
    → c.spent + e.cost ≤ c.fuel → c.fresh ≤ fresh → MakesBelow fresh e → MakesWithinBounds e
    → StepsTo (record c { layers = layers; fresh = fresh }) place loc e.cost n
    → StandsAt p n place b
step_stands p c n layers fresh place b loc e m a cost up below bounded s =
    let k = m.stands.course in
    let known = m.stands.is_spent in
    let now : spent (levels_of layers) ≡ spent (levels_of c.layers) + e.cost =
    spent_adds e (levels_of c.layers) (levels_of layers) a.is_new in
    let more =
    step_keeps p c.fuel (levels_of c.layers) (levels_of layers) c.picks (around c) c.clock
    n.clock c.fresh fresh loc place m.form b e k m.local a s.clock
    (omega (arith, now, known, cost)) bounded
    (nothing_seen p c.fuel (levels_of c.layers) (levels_of layers) c.picks (around c) c.clock
    (goes (rebuilt c.clock (frames place.stack) m.form)) e c.fresh fresh k.comes a up below
    k.nothing) in
    record {
      course = course_by p c.fuel n.fuel (levels_of layers) (levels_of n.layers)
          (c.picks ++ Step place.path (location loc) ∷ []) n.picks (around c) (inwards n.outer [])
          n.clock n.clock fresh n.fresh place b
          s.fuel (ap levels_of s.layers) s.picks (ap (λ o. inwards o []) s.outer) refl s.fresh more;
      is_spent =
          s.spent ∙ ap (λ x. x + e.cost) known ∙ sym now
          ∙ sym (ap (λ x. spent (levels_of x)) s.layers);
    }

-- what makes no location
none_made : (l k : ℕ) (r w v : Option Value) (n : ℕ) → only_at l (found r w) k ≡ made v → k < n
none_made l k r w v n e = go (l == k) e
  where
    go : (b : Bool) → (if b then found r w else untouched) ≡ made v → k < n
    go true q = absurd cc
    go false q = absurd cc

pub print_stands : (p : Program) (c n : Course) (layers : Layers) (place : Place) (b : Term)
    (text : List ℕ) (cost : ℕ) → MayStep p c place 0 b (printed text cost)
    → Adds (printed text cost) (levels_of c.layers) (levels_of layers)
    → c.spent + cost ≤ c.fuel → StepsTo (record c { layers = layers }) place 0 cost n
    → StandsAt p n place b
print_stands p c n layers place b text cost m a k s =
    step_stands p c n layers c.fresh place b 0 (printed text cost) m a k (omega arith)
    (λ l v e. let q = e in absurd cc) (λ l v e. let q = e in absurd cc) s

pub read_stands : (p : Program) (c n : Course) (layers : Layers) (place : Place) (b : Term) (l : ℕ)
    (v x : Value) → MayStep p c place 0 b (reading l v) → seen (levels_of c.layers) l ≡ Some v
    → seen (levels_of c.layers) l ≡ Some x
    → Adds (reading l x) (levels_of c.layers) (levels_of layers) → c.spent + 1 ≤ c.fuel
    → StepsTo (record c { layers = layers }) place 0 1 n → StandsAt p n place b
read_stands p c n layers place b l v x m there here a k s =
    let q : Some x ≡ Some v = sym here ∙ there in
    let same : x ≡ v = cc in
    step_stands p c n layers c.fresh place b 0 (reading l v) m
    (subst (λ y. Adds (reading l y) (levels_of c.layers) (levels_of layers)) same a) k
    (omega arith) (λ i w e. none_made l i (Some v) None w c.fresh e)
    (λ i w e. none_made l i (Some v) None w (2 ^ 64) e) s

pub write_stands : (p : Program) (c n : Course) (layers : Layers) (place : Place) (b : Term) (l : ℕ)
    (v : Value) → MayStep p c place 0 b (writing l v)
    → Adds (writing l v) (levels_of c.layers) (levels_of layers)
    → c.spent + 1 ≤ c.fuel → StepsTo (record c { layers = layers }) place 0 1 n
    → StandsAt p n place b
write_stands p c n layers place b l v m a k s =
    step_stands p c n layers c.fresh place b 0 (writing l v) m a k (omega arith)
    (λ i w e. none_made l i None (Some v) w c.fresh e)
    (λ i w e. none_made l i None (Some v) w (2 ^ 64) e) s

pub make_stands : (p : Program) (c n : Course) (layers : Layers) (loc above fresh : ℕ)
    (place : Place) (b : Term) (vs : List Value) (cost : ℕ)
    → MayStep p c place loc b (making loc vs cost)
    → Adds (making loc vs cost) (levels_of c.layers) (levels_of layers) → c.spent + cost ≤ c.fuel
    → above ≡ loc + length vs → above ≤ 2 ^ 64 → c.fresh ≤ fresh → above ≤ fresh
    → StepsTo (record c { layers = layers; fresh = fresh }) place loc cost n → StandsAt p n place b
make_stands p c n layers loc above fresh place b vs cost m a k f bound up over s =
    step_stands p c n layers fresh place b loc (making loc vs cost) m a k up (λ l w e. let r =
    made_in_row loc vs l w e in let high = r.1 in omega (arith, f, high, over))
    (λ l w e. let r = made_in_row loc vs l w e in let high = r.1 in omega (arith, f, high, bound)) s

-- a step is one pick more, whatever it did in the layers and to the lowest new location
pub step_picks : (c n : Course) (layers : Layers) (fresh : ℕ) (place : Place) (loc cost : ℕ)
    → StepsTo (record c { layers = layers; fresh = fresh }) place loc cost n
    → PicksStep c place loc n
step_picks c n layers fresh place loc cost s = record { picks = s.picks; outer = s.outer }

-- new locations are free
pub fresh_free : (p : Program) (c : Course) (place : Place) (loc : ℕ) (b : Term) (e : Effect)
    (count : ℕ) → MayStep p c place loc b e → AreFree c.fresh count (seen (levels_of c.layers))
fresh_free p c place loc b e count m n low = m.stands.course.nothing (c.fresh + n) (omega arith)

-- what was spent is what the code keeps
pub known_spent : (p : Program) (c : Course) (place : Place) (loc : ℕ) (b : Term) (e : Effect)
    → MayStep p c place loc b e → spent (levels_of c.layers) ≡ c.spent
known_spent p c place loc b e m = sym m.stands.is_spent
