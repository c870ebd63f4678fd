-- A location of an attempt is touched.
use Rattle.std.proofs.Common.{◌≡◌, ℕ, ◌+◌, ◌<◌, ◌==◌, Bool, true, false, List, [], ◌∷◌, ◌++◌, Option, Some, None, refl, ap, sym, ◌∙◌, subst, arith, rules, if◌then◌else◌, cond, nat_eq}
use Rattle.std.specs.Map.{lookup}
use Rattle.std.proofs.Math.Path.{fun_ext}
use Rattle.std.proofs.lemmas.List.{append-nil}
use Rattle.fort_machine.specs.Cells as machine
use Rattle.std.specs.Prelude.{IsSome}
use Rattle.fort_core.specs.declared.value.Value.{Value}
use Rattle.fort_machine.specs.Cells.{untouched, found, joined, Fits, left_at}
use Rattle.fort_machine.specs.Effects.{Store, Effect, idle, both, paid, printed, reading, writing, only_at}
use Rattle.fort_machine.proofs.Plain.{reads_plainly, writes_plainly}
use Rattle.fort_machine.proofs.Cells.{joined_untouched}
use Rattle.fort_store_effects.specs.Cells.{cell, cell_of}
use Rattle.fort_store.specs.declared.store.Store as a_store
use Rattle.fort_store.specs.Held.{held}
use Rattle.fort_store_effects.specs.Calls.{Adds}
use Rattle.fort_store_effects.specs.Levels.{Levels, seen, cells_of, effect_of, attempts_of, inward, levels_of, opened, added, added_to, touching}
use Rattle.fort_store_effects.specs.declared.layers.Layers.{Layers}
use Rattle.fort_store_effects.specs.declared.cell.Cell.{Cell}
use Rattle.fort_store_effects.specs.declared.layer.Layer.{Layer}

pub new_layer : (l : Layer) → l.cells.entries ≡ [] → l.output ≡ [] → l.cost ≡ 0 → effect_of l ≡ idle
new_layer l e q c =
    λ i. record { cells = λ k. cell_of (lookup (nat_eq k) (e i)); output = q i; cost = c i }

joins_at : (l : ℕ) (f g : ℕ → Option Cell) (now : Cell) (more : machine.Cell)
    → ((k : ℕ) → g k ≡ cond (nat_eq l k) (Some now) (f k)) → cell now ≡ joined (cell_of (f l)) more
    → (k : ℕ) → cell_of (g k) ≡ joined (cell_of (f k)) (only_at l more k)
joins_at l f g now more u e k = go (l == k) refl
  where
    go : (b : Bool) → (l == k) ≡ b → cell_of (g k) ≡ joined (cell_of (f k)) (only_at l more k)
    go true q =
        let same : l ≡ k = search (rules, q) in
        ap cell_of (u k ∙ ap (λ c. cond c (Some now) (f k)) q) ∙ e
        ∙ ap (λ n. joined (cell_of (f n)) more) same
        ∙ ap (λ c. joined (cell_of (f k)) (if c then more else untouched)) (sym q)
    go false q =
        ap cell_of (u k ∙ ap (λ c. cond c (Some now) (f k)) q)
        ∙ sym (joined_untouched (cell_of (f k)))
        ∙ ap (λ c. joined (cell_of (f k)) (if c then more else untouched)) (sym q)

pub joins_here : (l : ℕ) (old new : Layer) (now : Cell) (more : machine.Cell)
    → ((k : ℕ)
    → lookup (nat_eq k) new.cells.entries
    ≡ cond (nat_eq l k) (Some now) (lookup (nat_eq k) old.cells.entries))
    → cell now ≡ joined (cells_of old l) more
    → cells_of new ≡ (λ k. joined (cells_of old k) (only_at l more k))
joins_here l old new now more u e =
    fun_ext (joins_at l (λ k. lookup (nat_eq k) old.cells.entries)
    (λ k. lookup (nat_eq k) new.cells.entries) now more u e)

-- an attempt that touched a location
pub touched_layer : (old new : Layer) (l : ℕ) (c : machine.Cell) (cost : ℕ)
    → cells_of new ≡ (λ k. joined (cells_of old k) (only_at l c k)) → new.output ≡ old.output
    → new.cost ≡ old.cost + cost
    → effect_of new ≡ both (effect_of old) (touching l c cost)
touched_layer old new l c cost e q w =
    λ i. record { cells = e i; output = (q ∙ sym (append-nil old.output)) i; cost = w i }

pub touched_top : (v : Layers) (old new : Layer) (l : ℕ) (c : machine.Cell) (cost : ℕ)
    → v.top ≡ Some old → cells_of new ≡ (λ k. joined (cells_of old k) (only_at l c k))
    → new.output ≡ old.output → new.cost ≡ old.cost + cost
    → record {
      store = held v.store;
      output = v.output;
      cost = v.cost;
      attempts = effect_of new ∷ inward v.below [];
    } ≡ added (touching l c cost) (levels_of v)
touched_top v old new l c cost t e q w =
    (λ i. record {
      store = held v.store;
      output = v.output;
      cost = v.cost;
      attempts = touched_layer old new l c cost e q w i ∷ inward v.below [];
    })
    ∙ ap (λ o. added_to (touching l c cost) (levels_of v) (attempts_of o v.below)) (sym t)

-- the root touched a location
pub touched_root : (v : Layers) (s : a_store.Store) (l : ℕ) (c : machine.Cell) (cost : ℕ)
    → v.top ≡ None → held s ≡ (λ k. left_at (only_at l c k) (held v.store k))
    → record {
      store = held s;
      output = v.output;
      cost = v.cost + cost;
      attempts = attempts_of v.top v.below;
    } ≡ added (touching l c cost) (levels_of v)
touched_root v s l c cost t e =
    let none : attempts_of v.top v.below ≡ [] = ap (λ o. attempts_of o v.below) t in
    (λ i. record {
      store = e i;
      output = sym (append-nil v.output) i;
      cost = v.cost + cost;
      attempts = none i;
    }) ∙ ap (added_to (touching l c cost) (levels_of v)) (sym none)

-- one attempt more
pub opened_layers : (v : Layers) (new : Layer) (all : List Layer) → effect_of new ≡ idle
    → inward all [] ≡ attempts_of v.top v.below
    → record {
      store = held v.store;
      output = v.output;
      cost = v.cost;
      attempts = effect_of new ∷ inward all [];
    } ≡ opened (levels_of v)
opened_layers v new all e q =
    λ i. record { store = held v.store; output = v.output; cost = v.cost; attempts = e i ∷ q i }

-- what was read suits the store that it was read from
pub read_fits : (o : Option Value) (v w : Value) → o ≡ Some v → w ≡ v → Fits (found (Some w) None) o
read_fits o v w e q = subst (Fits (found (Some w) None)) (sym e) (sym q)

pub reads_there : (old new : Levels) (l : ℕ) (v w : Value) → seen old l ≡ Some v → w ≡ v
    → new ≡ added (touching l (found (Some w) None) 1) old → Adds (reading l v) old new
reads_there old new l v w e q h = record {
  fits = (reads_plainly l v (seen old)).0.1 e;
  is_new = h ∙ ap (λ x. added (touching l (found (Some x) None) 1) old) q;
}

-- what is written suits a store that has the location
pub write_fits : (o : Option Value) (v : Value) → IsSome o → Fits (found None (Some v)) o
write_fits None v h = let z : false ≡ true = h in absurd cc
write_fits (Some x) v h = tt

pub writes_there : (old new : Levels) (l : ℕ) (v : Value) → IsSome (seen old l)
    → new ≡ added (touching l (found None (Some v)) 1) old → Adds (writing l v) old new
writes_there old new l v h e = record {
  fits = (writes_plainly l v (seen old)).0.1 (there (seen old l) h);
  is_new = e;
}
  where
    there : (o : Option Value) → IsSome o → (w : Value) × (o ≡ Some w)
    there None k = let z : false ≡ true = k in absurd cc
    there (Some w) k = (w, refl)

-- a text is printed
pub printed_top : (v : Layers) (old new : Layer) (text : List ℕ) (cost : ℕ) → v.top ≡ Some old
    → cells_of new ≡ cells_of old → new.output ≡ old.output ++ text → new.cost ≡ old.cost + cost
    → Adds (printed text cost) (levels_of v)
    (record {
      store = held v.store;
      output = v.output;
      cost = v.cost;
      attempts = effect_of new ∷ inward v.below [];
    })
printed_top v old new text cost t e q w =
    let stays : cells_of new ≡ (λ k. joined (cells_of old k) untouched) =
    e ∙ fun_ext (λ k. sym (joined_untouched (cells_of old k))) in record {
      fits = λ l. tt;
      is_new =
          (λ i. record {
            store = held v.store;
            output = v.output;
            cost = v.cost;
            attempts =
                record { cells = stays i; output = q i; cost = w i } ∷ inward v.below [];
          })
          ∙ ap (λ o. added_to (printed text cost) (levels_of v) (attempts_of o v.below)) (sym t);
    }

pub printed_root : (v : Layers) (output text : List ℕ) (cost : ℕ) → v.top ≡ None
    → output ≡ v.output ++ text
    → Adds (printed text cost) (levels_of v)
    (record {
      store = held v.store;
      output = output;
      cost = v.cost + cost;
      attempts = attempts_of v.top v.below;
    })
printed_root v output text cost t e =
    let none : attempts_of v.top v.below ≡ [] = ap (λ o. attempts_of o v.below) t in record {
      fits = λ l. tt;
      is_new = (λ i. record {
        store = held v.store;
        output = e i;
        cost = v.cost + cost;
        attempts = none i;
      }) ∙ ap (added_to (printed text cost) (levels_of v)) (sym none);
    }
