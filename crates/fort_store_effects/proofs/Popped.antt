-- One cell more of an attempt is joined, or done to a store.
use Rattle.std.proofs.Common.{◌≡◌, ℕ, ◌+◌, ◌-◌, ◌==◌, length, length-append, arith, Bool, true, false, List, [], ◌∷◌, ◌++◌, Option, Some, None, refl, ap, sym, ◌∙◌, subst, rules, if◌then◌else◌, cond, nat_eq}
use Rattle.std.specs.Map.{lookup}
use Rattle.fort_machine.specs.Cells as machine
use Rattle.fort_machine.specs.Cells.{untouched, joined, Fits, left_at}
use Rattle.fort_machine.specs.Effects.{only_at}
use Rattle.fort_machine.proofs.Cells.{joined_untouched}
use Rattle.fort_store.specs.Held.{held}
use Rattle.fort_store.specs.declared.store.Store.{Store}
use Rattle.fort_store_effects.specs.Cells.{cell, cell_of, cell_closed}
use Rattle.fort_store_effects.specs.Levels.{cells_of}
use Rattle.fort_store_effects.specs.Closes.{CellMap, closed_at, JoinsAll, JoinsLast, SuitsAll, SettlesAll, SettlesLast}
use Rattle.indexmap.specs.IndexMap.{index_map_len}
use Rattle.fort_store_effects.specs.declared.cell.Cell.{Cell}
use Rattle.fort_store_effects.specs.declared.cell.Closing.{Closing}
use Rattle.fort_store_effects.specs.declared.cell.Closing.TheVariants.{Completed, Failed, Aborted}
use Rattle.fort_store_effects.specs.declared.layer.Layer.{Layer}

no_more : (b : Bool) (c : Cell) (o : Option Cell) → cond b (Some c) o ≡ None
    → (b ≡ false) × (o ≡ None)
no_more true c o e = absurd cc
no_more false c o e = (refl, e)

-- the last entry is found where no other one is
lookup_last : (l : ℕ) (es : List (ℕ × Cell)) (c : Cell) → lookup (nat_eq l) es ≡ None
    → lookup (nat_eq l) (es ++ (l, c) ∷ []) ≡ Some c
lookup_last l [] c e = let q : (l == l) ≡ true = search rules in ap (λ b. cond b (Some c) None) q
lookup_last l (x ∷ xs) c e =
    let h = no_more (nat_eq l x.0) x.1 (lookup (nat_eq l) xs) e in
    ap (λ b. cond b (Some x.1) (lookup (nat_eq l) (xs ++ (l, c) ∷ []))) h.0 ∙ lookup_last l xs c h.1

closed_untouched : (closing : Closing) → cell_closed closing untouched ≡ untouched
closed_untouched Completed = refl
closed_untouched Failed = refl
closed_untouched Aborted = refl

-- a map without the last of its entries
pub record Pops (m m' : CellMap) (l : ℕ) (c : Cell) : Type 0 where
  pub is_last : m.entries ≡ m'.entries ++ (l, c) ∷ []
  pub others : (q : ℕ)
      → lookup (nat_eq q) m'.entries ≡ cond (nat_eq l q) None (lookup (nat_eq q) m.entries)

gone : (m m' : CellMap) (l : ℕ) (c : Cell) → Pops m m' l c → lookup (nat_eq l) m'.entries ≡ None
gone m m' l c h =
    let q : (l == l) ≡ true = search rules
    in h.others l ∙ ap (λ b. cond b None (lookup (nat_eq l) m.entries)) q

was : (m m' : CellMap) (l : ℕ) (c : Cell) → Pops m m' l c → lookup (nat_eq l) m.entries ≡ Some c
was m m' l c h = ap (lookup (nat_eq l)) h.is_last ∙ lookup_last l m'.entries c (gone m m' l c h)

here_closed : (closing : Closing) (m m' : CellMap) (l : ℕ) (c : Cell) → Pops m m' l c
    → (closed_at closing m l ≡ cell_closed closing (cell c)) × (closed_at closing m' l ≡ untouched)
here_closed closing m m' l c h = (
  ap (λ o. cell_closed closing (cell_of o)) (was m m' l c h),
  ap (λ o. cell_closed closing (cell_of o)) (gone m m' l c h) ∙ closed_untouched closing,
)

other_closed : (closing : Closing) (m m' : CellMap) (l : ℕ) (c : Cell) (k : ℕ) → Pops m m' l c
    → (l == k) ≡ false → closed_at closing m' k ≡ closed_at closing m k
other_closed closing m m' l c k h e =
    ap (λ o. cell_closed closing (cell_of o)) (h.others k
    ∙ ap (λ b. cond b None (lookup (nat_eq k) m.entries)) e)

pub join_step : (closing : Closing) (w w' : Layer) (m m' : CellMap) (l : ℕ) (c d : Cell)
    → Pops m m' l c → cells_of w' ≡ (λ k. joined (cells_of w k) (only_at l (cell d) k))
    → cell d ≡ cell_closed closing (cell c)
    → (k : ℕ)
    → joined (cells_of w' k) (closed_at closing m' k)
    ≡ joined (cells_of w k) (closed_at closing m k)
join_step closing w w' m m' l c d h e q k = go (l == k) refl
  where
    go : (b : Bool) → (l == k) ≡ b
        → joined (cells_of w' k) (closed_at closing m' k)
        ≡ joined (cells_of w k) (closed_at closing m k)
    go true t =
        let same : l ≡ k = search (rules, t) in
        let at_l = here_closed closing m m' l c h in
        ap (λ x. joined (cells_of w' k) x) (ap (closed_at closing m') (sym same) ∙ at_l.1)
        ∙ joined_untouched (cells_of w' k) ∙ (λ i. e i k)
        ∙ ap (λ b. joined (cells_of w k) (if b then cell d else untouched)) t
        ∙ ap (joined (cells_of w k)) (q ∙ sym at_l.0 ∙ ap (closed_at closing m) same)
    go false t =
        ap (λ x. joined x (closed_at closing m' k)) ((λ i. e i k)
        ∙ ap (λ b. joined (cells_of w k) (if b then cell d else untouched)) t
        ∙ joined_untouched (cells_of w k))
        ∙ ap (joined (cells_of w k)) (other_closed closing m m' l c k h t)

settle_at : (closing : Closing) (s s' : Store) (m m' : CellMap) (l : ℕ) (c d : Cell) → Pops m m' l c
    → held s' ≡ (λ k. left_at (only_at l (cell d) k) (held s k))
    → cell d ≡ cell_closed closing (cell c)
    → (k : ℕ) → (b : Bool) → (l == k) ≡ b
    → (left_at (closed_at closing m' k) (held s' k) ≡ left_at (closed_at closing m k) (held s k))
    × (Fits (closed_at closing m k) (held s k) → Fits (closed_at closing m' k) (held s' k))
settle_at closing s s' m m' l c d h e q k true t =
    let same : l ≡ k = search (rules, t) in
    let at_l = here_closed closing m m' l c h in
    let none : closed_at closing m' k ≡ untouched = ap (closed_at closing m') (sym same) ∙ at_l.1
    in (
      ap (λ x. left_at x (held s' k)) none ∙ (λ i. e i k)
          ∙ ap (λ b. left_at (if b then cell d else untouched) (held s k)) t
          ∙ ap (λ x. left_at x (held s k)) (q ∙ sym at_l.0 ∙ ap (closed_at closing m) same),
      λ f. subst (λ x. Fits x (held s' k)) (sym none) tt,
    )
settle_at closing s s' m m' l c d h e q k false t =
    let stays : held s' k ≡ held s k =
    (λ i. e i k) ∙ ap (λ b. left_at (if b then cell d else untouched) (held s k)) t in
    let same : closed_at closing m' k ≡ closed_at closing m k = other_closed closing m m' l c k h t
    in (
      λ i. left_at (same i) (stays i),
      λ f. subst (λ x. Fits x (held s' k)) (sym same)
          (subst (Fits (closed_at closing m k)) (sym stays) f),
    )

pub settle_step : (closing : Closing) (s s' : Store) (m m' : CellMap) (l : ℕ) (c d : Cell)
    → Pops m m' l c → held s' ≡ (λ k. left_at (only_at l (cell d) k) (held s k))
    → cell d ≡ cell_closed closing (cell c)
    → SuitsAll closing s m
    → ((k : ℕ)
    → left_at (closed_at closing m' k) (held s' k) ≡ left_at (closed_at closing m k) (held s k))
    × SuitsAll closing s' m'
settle_step closing s s' m m' l c d h e q f = (
  λ k. (settle_at closing s s' m m' l c d h e q k (l == k) refl).0,
  λ k. (settle_at closing s s' m m' l c d h e q k (l == k) refl).1 (f k),
)

-- one entry less
one_less : (m m' : CellMap) (l : ℕ) (c : Cell) → m.entries ≡ m'.entries ++ (l, c) ∷ []
    → index_map_len m' ≡ index_map_len m - 1
one_less m m' l c e =
    let q : length m.entries ≡ length m'.entries + 1 =
    ap length e ∙ length-append m'.entries ((l, c) ∷ []) in omega (arith, q)

pub join_last : (closing : Closing) (w w' : Layer) (m m' : CellMap) (l : ℕ) (c d : Cell)
    → m.entries ≡ m'.entries ++ (l, c) ∷ []
    → ((q : ℕ)
    → lookup (nat_eq q) m'.entries ≡ cond (nat_eq l q) None (lookup (nat_eq q) m.entries))
    → cells_of w' ≡ (λ k. joined (cells_of w k) (only_at l (cell d) k))
    → cell d ≡ cell_closed closing (cell c)
    → w'.output ≡ w.output → w'.cost ≡ w.cost → JoinsLast closing w m w' m'
join_last closing w w' m m' l c d e u h q o n = record {
  same_join = join_step closing w w' m m' l c d (record { is_last = e; others = u }) h q;
  same_output = o;
  same_cost = n;
  fewer = one_less m m' l c e;
}

-- the cell that is popped suits its location
pub suits_here : (closing : Closing) (s : Store) (m m' : CellMap) (l : ℕ) (c d : Cell)
    → m.entries ≡ m'.entries ++ (l, c) ∷ []
    → ((q : ℕ)
    → lookup (nat_eq q) m'.entries ≡ cond (nat_eq l q) None (lookup (nat_eq q) m.entries))
    → cell d ≡ cell_closed closing (cell c) → SuitsAll closing s m → Fits (cell d) (held s l)
suits_here closing s m m' l c d e u q f =
    subst (λ x. Fits x (held s l))
    ((here_closed closing m m' l c (record { is_last = e; others = u })).0 ∙ sym q) (f l)

pub settle_last : (closing : Closing) (s s' : Store) (m m' : CellMap) (l : ℕ) (c d : Cell)
    → m.entries ≡ m'.entries ++ (l, c) ∷ []
    → ((q : ℕ)
    → lookup (nat_eq q) m'.entries ≡ cond (nat_eq l q) None (lookup (nat_eq q) m.entries))
    → held s' ≡ (λ k. left_at (only_at l (cell d) k) (held s k))
    → cell d ≡ cell_closed closing (cell c)
    → SuitsAll closing s m → SettlesLast closing s m s' m'
settle_last closing s s' m m' l c d e u h q f =
    let r = settle_step closing s s' m m' l c d (record { is_last = e; others = u }) h q f
    in record { same_left = r.0; suits = r.1; fewer = one_less m m' l c e }

no_entries : (es : List (ℕ × Cell)) → length es ≡ 0 → es ≡ []
no_entries [] e = refl
no_entries (x ∷ xs) e = let f : ⊥ = omega (arith, e) in absurd f

empty_closed : (closing : Closing) (m : CellMap) (k : ℕ) → index_map_len m ≡ 0
    → closed_at closing m k ≡ untouched
empty_closed closing m k e =
    ap (λ es. cell_closed closing (cell_of (lookup (nat_eq k) es))) (no_entries m.entries e)
    ∙ closed_untouched closing

-- after the last cell
pub joined_all : (closing : Closing) (parent whole : Layer) (m rest : CellMap)
    → index_map_len rest ≡ 0
    → ((k : ℕ)
    → joined (cells_of whole k) (closed_at closing rest k)
    ≡ joined (cells_of parent k) (closed_at closing m k))
    → whole.output ≡ parent.output → whole.cost ≡ parent.cost → JoinsAll closing parent m whole
joined_all closing parent whole m rest z h o n = record {
  cells_join =
      λ k. sym (joined_untouched (cells_of whole k))
      ∙ ap (joined (cells_of whole k)) (sym (empty_closed closing rest k z)) ∙ h k;
  same_output = o;
  same_cost = n;
}

pub settled_all : (closing : Closing) (s s' : Store) (m rest : CellMap) → index_map_len rest ≡ 0
    → ((k : ℕ)
    → left_at (closed_at closing rest k) (held s' k)
    ≡ left_at (closed_at closing m k) (held s k)) → SettlesAll closing s m s'
settled_all closing s s' m rest z h =
    λ k. ap (λ x. left_at x (held s' k)) (sym (empty_closed closing rest k z)) ∙ h k
