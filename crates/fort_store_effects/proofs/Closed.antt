-- The end of an attempt, in the levels.
use Rattle.std.proofs.Common.{◌≡◌, ℕ, ◌+◌, ◌<◌, ◌^◌, List, [], ◌∷◌, ◌++◌, Option, Some, None, refl, ap, sym, ◌∙◌, subst, add_assoc, arith}
use Rattle.std.proofs.Math.Path.{fun_ext}
use Rattle.std.proofs.lemmas.List.{append-nil}
use Rattle.fort_core.specs.declared.value.Value.{Value}
use Rattle.fort_machine.specs.Cells as machine
use Rattle.fort_machine.specs.Cells.{joined, Fits, left_at}
use Rattle.fort_machine.specs.Effects.{Store, Effect, both, FitsAll, afterwards, completing, failing, aborting}
use Rattle.fort_machine.proofs.Cells.{given_back_fits, taken_away_fits}
use Rattle.fort_store.specs.Held.{held}
use Rattle.fort_store.specs.declared.store.Store as a_store
use Rattle.fort_store_effects.specs.Cells.{cell_closed}
use Rattle.fort_store_effects.specs.Levels.{Levels, cells_of, effect_of, attempts_of, inward, levels_of, added, added_to, with_attempts, closing, text_after, root_closed, attempts_cost, spent, IsOpen, through}
use Rattle.fort_store_effects.specs.Closes.{CellMap, JoinsAll, SuitsAll, SettlesAll, closed_at, Closes, Closed}
use Rattle.fort_store_effects.specs.declared.cell.Closing.{Closing}
use Rattle.fort_store_effects.specs.declared.cell.Closing.TheVariants.{Completed, Failed, Aborted}
use Rattle.fort_store_effects.specs.declared.layer.Layer.{Layer}
use Rattle.fort_store_effects.specs.declared.layers.Layers.{Layers}
use Rattle.fort_store_effects.proofs.Seen.{inward_last}

-- an attempt that ended so, cell by cell
pub cells_closed : (c : Closing) (d : Effect) (k : ℕ)
    → (closing c d).cells k ≡ cell_closed c (d.cells k)
cells_closed Completed d k = refl
cells_closed Failed d k = refl
cells_closed Aborted d k = refl

text_closed : (c : Closing) (d : Effect) (output : List ℕ)
    → text_after c output d.output ≡ output ++ (closing c d).output
text_closed Completed d output = refl
text_closed Failed d output = sym (append-nil output)
text_closed Aborted d output = sym (append-nil output)

cost_closed : (c : Closing) (d : Effect) (n : ℕ) → n + 1 + d.cost ≡ n + (closing c d).cost
cost_closed Completed d n = add_assoc n 1 d.cost
cost_closed Failed d n = add_assoc n 1 d.cost
cost_closed Aborted d n = add_assoc n 1 d.cost

closed_fits : (c : Closing) (x : machine.Cell) (o : Option Value) → Fits x o
    → Fits (cell_closed c x) o
closed_fits Completed x o f = f
closed_fits Failed x o f = given_back_fits x o f
closed_fits Aborted x o f = taken_away_fits x o f

-- a store that suits an attempt suits it at each location, however it ends
pub suits_closed : (c : Closing) (l : Layer) (s : a_store.Store) → FitsAll (effect_of l) (held s)
    → SuitsAll c s l.cells
suits_closed c l s f k = closed_fits c (cells_of l k) (held s k) (f k)

pub merges : (c : Closing) (parent whole l : Layer) (output : List ℕ) (cost : ℕ)
    → JoinsAll c parent l.cells whole → output ≡ text_after c parent.output l.output
    → cost ≡ parent.cost + 1 + l.cost
    → record { cells = cells_of whole; output = output; cost = cost }
    ≡ both (effect_of parent) (closing c (effect_of l))
merges c parent whole l output cost h e q =
    let cells : cells_of whole
    ≡ (λ k. joined (cells_of parent k) ((closing c (effect_of l)).cells k)) =
    fun_ext (λ k. h.cells_join k
    ∙ ap (joined (cells_of parent k)) (sym (cells_closed c (effect_of l) k))) in
    λ i. record {
      cells = cells i;
      output = (e ∙ text_closed c (effect_of l) parent.output) i;
      cost = (q ∙ cost_closed c (effect_of l) parent.cost) i;
    }

pub closes_root : (c : Closing) (s t : a_store.Store) (l : Layer) (output text : List ℕ) (cost : ℕ)
    → SettlesAll c s l.cells t → text ≡ text_after c output l.output
    → record { store = held t; output = text; cost = cost + 1 + l.cost; attempts = [] }
    ≡ root_closed c (held s) output cost (effect_of l)
closes_root c s t l output text cost h e =
    let store : held t ≡ afterwards (closing c (effect_of l)) (held s) =
    fun_ext (λ k. h k ∙ ap (λ x. left_at x (held s k)) (sym (cells_closed c (effect_of l) k)))
    in
    λ i. record {
      store = store i;
      output = (e ∙ text_closed c (effect_of l) output) i;
      cost = cost_closed c (effect_of l) cost i;
      attempts = [];
    }

-- the attempt round it goes on
pub closes_parent : (c : Closing) (v : Layers) (l parent whole : Layer) (front : List Layer)
    → v.top ≡ Some l → v.below ≡ front ++ parent ∷ []
    → effect_of whole ≡ both (effect_of parent) (closing c (effect_of l))
    → Closes c (levels_of v)
    (record {
      store = held v.store;
      output = v.output;
      cost = v.cost;
      attempts = effect_of whole ∷ inward front [];
    })
closes_parent c v l parent whole front t b e =
    let now : attempts_of v.top v.below ≡ effect_of l ∷ effect_of parent ∷ inward front [] =
    ap (λ o. attempts_of o v.below) t ∙ ap (λ ls. effect_of l ∷ inward ls []) b
    ∙ ap (λ es. effect_of l ∷ es) (inward_last front parent []) in
    let new : Levels =
    record {
      store = held v.store;
      output = v.output;
      cost = v.cost;
      attempts = effect_of whole ∷ inward front [];
    } in
    let P : List Effect
    → Type 0 =
    λ es. Closed c
    (record { store = held v.store; output = v.output; cost = v.cost; attempts = es }) es new in
    subst P (sym now)
    (λ i. record {
      store = held v.store;
      output = v.output;
      cost = v.cost;
      attempts = e i ∷ inward front [];
    })

-- the root goes on
pub closes_last : (c : Closing) (v : Layers) (l : Layer) (new : Levels) → v.top ≡ Some l
    → v.below ≡ [] → new ≡ root_closed c (held v.store) v.output v.cost (effect_of l)
    → Closes c (levels_of v) new
closes_last c v l new t b e =
    let now : attempts_of v.top v.below ≡ effect_of l ∷ [] =
    ap (λ o. attempts_of o v.below) t ∙ ap (λ ls. effect_of l ∷ inward ls []) b in
    let P : List Effect
    → Type 0 =
    λ es. Closed c
    (record { store = held v.store; output = v.output; cost = v.cost; attempts = es }) es new in
    subst P (sym now) e

-- what is left of the room
pub room_root : (v : Layers) (l : Layer) → v.top ≡ Some l → spent (levels_of v) < 2 ^ 64
    → v.cost + 1 + l.cost < 2 ^ 64
room_root v l t h =
    let q : spent (levels_of v) ≡ v.cost + (1 + l.cost + attempts_cost (inward v.below [])) =
    ap (λ o. v.cost + attempts_cost (attempts_of o v.below)) t in omega (arith, q, h)

pub room_parent : (v : Layers) (l parent : Layer) (front : List Layer) → v.top ≡ Some l
    → v.below ≡ front ++ parent ∷ [] → spent (levels_of v) < 2 ^ 64
    → parent.cost + 1 + l.cost < 2 ^ 64
room_parent v l parent front t b h =
    let e : attempts_cost (inward v.below []) ≡ 1 + parent.cost + attempts_cost (inward front []) =
    ap (λ ls. attempts_cost (inward ls [])) b ∙ ap attempts_cost (inward_last front parent [])
    in
    let q : spent (levels_of v) ≡ v.cost + (1 + l.cost + attempts_cost (inward v.below [])) =
    ap (λ o. v.cost + attempts_cost (attempts_of o v.below)) t in omega (arith, q, e, h)

-- the only attempt suits the root's store
pub open_root : (v : Layers) (l : Layer) → v.top ≡ Some l → v.below ≡ []
    → IsOpen (held v.store) (attempts_of v.top v.below) → FitsAll (effect_of l) (held v.store)
open_root v l t b h =
    subst (IsOpen (held v.store)) (ap (λ o. attempts_of o v.below) t
    ∙ ap (λ ls. effect_of l ∷ inward ls []) b) h
