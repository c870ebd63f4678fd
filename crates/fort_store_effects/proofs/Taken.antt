-- What is done beside a run, and taken in.
use Rattle.std.proofs.Common.{◌≡◌, ℕ, zero, suc, ◌+◌, ◌<◌, ◌≤◌, ◌==◌, Bool, true, false, List, [], ◌∷◌, ◌++◌, length, Option, Some, None, refl, ap, sym, ◌∙◌, subst, arith, rules, cond, nat_eq, slice_get}
use Rattle.std.specs.Cmp.{nat_eq_equiv}
use Rattle.std.specs.List.{IsDistinct}
use Rattle.std.specs.Map.{lookup, keys_of}
use Rattle.std.proofs.Math.Path.{fun_ext}
use Rattle.std.proofs.lemmas.List.{append-nil}
use Rattle.std.proofs.lemmas.Map.Entries.{lookup_from_place}
use Rattle.fort_core.specs.declared.value.Value.{Value}
use Rattle.fort_machine.specs.Cells.{joined, Fits}
use Rattle.fort_machine.specs.Effects.{Store, FitsAll, afterwards, both, made_from, making}
use Rattle.fort_store.specs.Held.{held}
use Rattle.fort_store.specs.declared.store.Store as a_store
use Rattle.fort_store_effects.specs.Calls.{Adds, SuitsAt}
use Rattle.fort_store_effects.specs.Cells.{cell, cell_of}
use Rattle.fort_store_effects.specs.Closes.{SettlesAll}
use Rattle.fort_store_effects.specs.Levels.{cells_of, effect_of, attempts_of, levels_of, added_to, seen}
use Rattle.fort_store_effects.specs.declared.cell.Cell.{Cell}
use Rattle.fort_store_effects.specs.declared.cell.Closing.TheVariants.{Completed}
use Rattle.fort_store_effects.specs.declared.layer.Layer.{Layer}
use Rattle.fort_store_effects.specs.declared.layers.Layers.{Layers}

-- values are put into new locations
pub made_layer : (old new : Layer) (l : ℕ) (vs : List Value) (cost : ℕ)
    → cells_of new ≡ (λ k. joined (cells_of old k) (made_from l vs k)) → new.output ≡ old.output
    → new.cost ≡ old.cost + cost
    → effect_of new ≡ both (effect_of old) (making l vs cost)
made_layer old new l vs cost e q w =
    λ i. record { cells = e i; output = (q ∙ sym (append-nil old.output)) i; cost = w i }

-- the root takes in what was done beside it
pub taken_root : (v : Layers) (next : Layer) (s : a_store.Store) (output : List ℕ) → v.top ≡ None
    → FitsAll (effect_of next) (seen (levels_of v)) → SettlesAll Completed v.store next.cells s
    → output ≡ v.output ++ next.output
    → Adds (effect_of next) (levels_of v)
    (record { store = held s; output = output; cost = v.cost + next.cost; attempts = [] })
taken_root v next s output t f h e =
    let none : attempts_of v.top v.below ≡ [] = ap (λ o. attempts_of o v.below) t in
    let store : held s ≡ afterwards (effect_of next) (held v.store) = fun_ext h in record {
      fits = f;
      is_new = (λ i. record {
        store = store i;
        output = e i;
        cost = v.cost + next.cost;
        attempts = [];
      }) ∙ ap (added_to (effect_of next) (levels_of v)) (sym none);
    }

-- a store that suits each of some cells, by their places, suits them by their locations
abbrev Entries : Type 0
Entries = List (ℕ × Cell)

suits_each : (es : Entries) (s : Store) → ((j : ℕ) → j < length es → SuitsAt (slice_get es j) s)
    → (k : ℕ) → Fits (cell_of (lookup (nat_eq k) es)) (s k)
suits_each [] s h k = tt
suits_each (e ∷ es) s h k =
    go (k == e.0) refl (suits_each es s (λ j q. h (suc j) (omega (arith, q))) k)
  where
    go : (b : Bool) → (k == e.0) ≡ b → Fits (cell_of (lookup (nat_eq k) es)) (s k)
        → Fits (cell_of (lookup (nat_eq k) (e ∷ es))) (s k)
    go true t rest =
        let same : k ≡ e.0 = search (rules, t) in
        subst (λ b. Fits (cell_of (cond b (Some e.1) (lookup (nat_eq k) es))) (s k)) (sym t)
        (subst (λ n. Fits (cell e.1) (s n)) (sym same) (h zero (omega arith)))
    go false t rest =
        subst (λ b. Fits (cell_of (cond b (Some e.1) (lookup (nat_eq k) es))) (s k)) (sym t) rest

pub suits_all : (next : Layer) (s : Store) (i : ℕ) → length next.cells.entries ≤ i
    → ((j : ℕ) → j < i → SuitsAt (slice_get next.cells.entries j) s) → FitsAll (effect_of next) s
suits_all next s i n h k =
    suits_each next.cells.entries s (λ j q. h j (omega (arith, q, n))) k

-- and the other way
pub suits_one : (next : Layer) (s : Store) (i : ℕ)
    → IsDistinct nat_eq (keys_of next.cells.entries) → FitsAll (effect_of next) s
    → SuitsAt (slice_get next.cells.entries i) s
suits_one next s i u f = go (slice_get next.cells.entries i) refl
  where
    go : (o : Option (ℕ × Cell)) → slice_get next.cells.entries i ≡ o → SuitsAt o s
    go None e = tt
    go (Some c) e =
        let there : lookup (nat_eq c.0) next.cells.entries ≡ Some c.1 =
        lookup_from_place nat_eq_equiv next.cells.entries i c.0 c.1 u e in
        subst (λ o. Fits (cell_of o) (s c.0)) there (f c.0)
