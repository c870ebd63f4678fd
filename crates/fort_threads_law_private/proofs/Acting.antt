-- What each form does that leaves the prelude's own names alone.
use Rattle.std.proofs.Common.{◌≡◌, ℕ, zero, suc, ◌+◌, ◌<◌, ◌≤◌, Bool, true, false, List, [], ◌∷◌, ◌++◌, map, length, replicate, Option, Some, None, refl, ap, sym, ◌∙◌, subst, if◌then◌else◌, pos, negsuc, arith, div-add-mod'}
use Rattle.std.specs.Prelude.{option_to_list, option_map, nat_le, nat_lt}
use Rattle.std.proofs.lemmas.Bool.{ltb-true}
use Rattle.fort_base.specs.declared.ids.NameId.{NameId}
use Rattle.fort_base.specs.declared.ids.SetId.{SetId}
use Rattle.fort_base.specs.declared.ids.TypeId.{TypeId}
use Rattle.fort_base.specs.declared.ty.Ty.{Ty}
use Rattle.fort_core.specs.declared.form.Order.{Order}
use Rattle.fort_core.specs.declared.form.Order.TheVariants as order
use Rattle.fort_core.specs.declared.form.Slot.{Slot}
use Rattle.fort_core.specs.declared.form.Slot.TheVariants as slot
use Rattle.fort_core.specs.declared.form.Span.{Span}
use Rattle.fort_core.specs.declared.form.Span.TheVariants as span
use Rattle.fort_core.specs.declared.program.Program.{Program}
use Rattle.fort_core.specs.declared.term.Term.{Term, Then, If, While, For, ForHalves, Reduce, ReduceHalves, Operator, out-Term}
use Rattle.fort_core.specs.declared.term.Term as term
use Rattle.fort_core.specs.declared.term.Term.TheVariants.{outs-Then, outs-If, outs-While, outs-For, outs-ForHalves, outs-Reduce, outs-ReduceHalves, outs-Operator}
use Rattle.fort_core.specs.declared.term.Term.TheOpen.{Term-F, Value-F}
use Rattle.fort_core.specs.declared.value.Closure.{Closure}
use Rattle.fort_core.specs.declared.value.Value.{Value, out-Value}
use Rattle.fort_machine.specs.Types.{has_type}
use Rattle.fort_machine.specs.Primitives.{ValueKind}
use Rattle.fort_machine.specs.Ends.{Standing, at_value, at_throw, open_yet, standing, throw_of, has_stepped}
use Rattle.fort_machine.specs.Parts.{in_clauses, held_values}
use Rattle.fort_machine.specs.Scopes.{holds_all}
use Rattle.fort_machine.specs.Steps.{or_unit}
use Rattle.fort_machine.specs.Substitution.{substituted, paired, parts_paired, bound_to, located}
use Rattle.fort_machine.specs.Acts.{Act, stuck, calls, unit, single, throws_object, throwing, by_standing, after, after_all, Together, at_values, leftmost, some_still, some_open, with_first, standing_together, by_together, once_all}
use Rattle.fort_machine.specs.Generators.{Items, numbers_from, elements_from, no_items, items_at, by_item, first_half, rest_half, for_items, reduced_halves, reduce_items, spanned}
use Rattle.fort_machine.specs.Forms.{entering, applying_to, applying, filling, binding, reading_at, writing_at, location_of, field_of, by_element, sizing, choosing, clause_for, finally_then, trying, too_deep, act_at, act}
use Rattle.fort_machine.proofs.Standing.{standing-Value}
use Rattle.fort_machine.proofs.Resting.{is_value, is_throw}
use Rattle.fort_threads_law_servers.specs.Prelude.{Names}
use Rattle.fort_threads_law_servers.specs.Roots.{Start}
use Rattle.fort_threads_law_private.specs.Grounds.{Ground, Open, AreOpen, Grows}
use Rattle.fort_threads_law_private.specs.Private.{IsSecretSet, IsSecretField, SlotIsOpen, count_of, IsWithin, LeadsToOpen, Private, AllPrivate, no_terms, one_more, PrivateValue, AllPrivateValues, no_values, one_more_value}
use Rattle.fort_threads_law_private.specs.Fine.{Fine}
use Rattle.fort_threads_law_private.proofs.Growing.{private_grows}
use Rattle.fort_threads_law_private.proofs.Values.{Privates, PrivatesValue, private_at, privates_of, privates_value_of, first_of, rest_of, term_private, value_private, thrown_private, throw_private, small_private, unit_private, array_private}
use Rattle.fort_threads_law_private.proofs.Substituting.{private_with, substituted_private, located_private}

-- ---- numbers

zero_fits : (c : ℕ) → 0 + c ≤ c
zero_fits c = omega arith

first_fits : (k c t : ℕ) → k + suc c ≤ t → k < t
first_fits k c t h = omega (arith, h)

rest_fits : (k c t : ℕ) → k + suc c ≤ t → (k + 1) + c ≤ t
rest_fits k c t h = omega (arith, h)

halves : (c : ℕ) → first_half c + rest_half c ≤ c
halves c = omega (arith, div-add-mod' (c + 1) 2, div-add-mod' c 2)

first_half_fits : (k c t : ℕ) → k + c ≤ t → k + first_half c ≤ t
first_half_fits k c t h = let q = halves c in omega (arith, h, q)

rest_half_fits : (k c t : ℕ) → k + c ≤ t → (k + first_half c) + rest_half c ≤ t
rest_half_fits k c t h = let q = halves c in omega (arith, h, q)

replicated : (k : ℕ) (v : Value) → length (replicate k v) ≡ k
replicated zero v = refl
replicated (suc k) v = let e = replicated k v in omega (arith, e)

pub or_unit_longer : (vs : List Value) → length vs ≤ length (or_unit vs)
or_unit_longer [] = omega arith
or_unit_longer (v ∷ vs) = omega arith

in_filled : (k : ℕ) (v : Value) (i : ℕ) → i < k → i < length (or_unit (replicate k v))
in_filled k v i h =
    let e = replicated k v in let q = or_unit_longer (replicate k v) in omega (arith, h, e, q)

-- ---- lists

pub append_private : {p : Program} {n : Names} {m : Start} {g : Ground} {vs ws : List Value}
    → AllPrivateValues p n m g vs → AllPrivateValues p n m g ws
    → AllPrivateValues p n m g (vs ++ ws)
append_private no_values k = k
append_private (one_more_value h hs) k = one_more_value h (append_private hs k)

front_private : {p : Program} {n : Names} {m : Start} {g : Ground} (xs ys : List Term)
    → AllPrivate p n m g (xs ++ ys) → AllPrivate p n m g xs × AllPrivate p n m g ys
front_private [] ys h = (no_terms, h)
front_private (x ∷ xs) ys (one_more h hs) =
    let i = front_private xs ys hs in (one_more h i.0, i.1)

-- ---- locations that a form leads to

abbrev ItemsAreOpen : Ground → Items → Type 0
ItemsAreOpen g (elements_from base count) = (i : ℕ) → i < count → Open g (base + i)
ItemsAreOpen g _ = Unit {0}

items_open : (p : Program) (n : Names) (g : Ground) (y : ValueKind) → LeadsToOpen p n g y
    → ItemsAreOpen g (items_at y)
items_open p n g (Value-F.Array element base size) o = o
items_open p n g _ o = tt

pub field_open : (p : Program) (n : Names) (g : Ground) (y : ValueKind) (f : NameId)
    → LeadsToOpen p n g y → (IsSecretField n f → ⊥) → (l : ℕ) → field_of p f y ≡ Some l → Open g l
field_open p n g (Value-F.Object id base) f o s l e = o.0 f l s e
field_open p n g _ f o s l e = absurd cc

slot_open : (g : Ground) (x : Slot) → SlotIsOpen g x → (l : ℕ) → location_of x ≡ Some l → Open g l
slot_open g (slot.Location k) o l e = let z : k.0 ≡ l = cc in subst (Open g) z o
slot_open g (slot.Variable x) o l e = absurd cc

abbrev Fits : Span → Items → Type 0
Fits span.Whole items = Unit {0}
Fits (span.Part k c) items = k + c ≤ count_of items

one_value : (v w : Value) → term.Value v ≡ term.Value w → v ≡ w
one_value v w e =
    let z : at_value v ≡ at_value w =
    sym (standing-Value v) ∙ ap standing e ∙ standing-Value w in cc

fits : (s : Span) (a : Term) (v : Value) → IsWithin s a → a ≡ term.Value v
    → Fits s (items_at (out-Value v))
fits span.Whole a v i e = tt
fits (span.Part k c) a v i e =
    subst (λ w. k + c ≤ count_of (items_at (out-Value w))) (one_value i.0 v (sym i.1 ∙ e)) i.2

-- ---- the rows

module _ (p : Program) (n : Names) (m : Start) (g : Ground)
    (singles : (id : TypeId) (v : Value) → single p id ≡ Some v → PrivateValue p n m g v) where
  abbrev Kept : Term → Type 0
  Kept = Private p n m g

  abbrev AllKept : List Term → Type 0
  AllKept = AllPrivate p n m g

  abbrev KeptValue : Value → Type 0
  KeptValue = PrivateValue p n m g

  abbrev AllKeptValues : List Value → Type 0
  AllKeptValues = AllPrivateValues p n m g

  abbrev IsFine : Act → Type 0
  IsFine = Fine p n m g

  fine_object : (o : Option Value) → ((v : Value) → o ≡ Some v → KeptValue v)
      → IsFine (throws_object o)
  fine_object (Some v) h = thrown_private (h v refl)
  fine_object None h = tt

  pub fine_throwing : (id : TypeId) → IsFine (throwing p id)
  fine_throwing id = fine_object (single p id) (singles id)

  -- parts
  fine_standing : (a : Term) (st : Standing) → standing a ≡ st → Kept a → (k : Value → Act)
      → ((v : Value) → a ≡ term.Value v → KeptValue v → IsFine (k v)) → IsFine (by_standing st k)
  fine_standing a (at_value v) e h k f =
      f v (is_value a v e) (value_private (subst Kept (is_value a v e) h))
  fine_standing a (at_throw v) e h k f =
      thrown_private (throw_private (subst Kept (is_throw a v e) h))
  fine_standing a open_yet e h k f = tt

  fine_after : (a : Term) (k : Value → Act) → Kept a → ((v : Value) → KeptValue v → IsFine (k v))
      → IsFine (after a k)
  fine_after a k h f = fine_standing a (standing a) refl h k (λ v e i. f v i)

  fine_all : (ts : List Term) (k : List Value → Act) → AllKept ts
      → ((vs : List Value) → AllKeptValues vs → IsFine (k vs)) → IsFine (after_all ts k)
  fine_all [] k h f = f [] no_values
  fine_all (a ∷ ts) k (one_more h hs) f =
      fine_after a _ h
      (λ v i. fine_all ts (λ vs. k (v ∷ vs)) hs (λ vs is. f (v ∷ vs) (one_more_value i is)))

  abbrev TogetherKept : Together → Type 0
  TogetherKept (at_values vs) = AllKeptValues vs
  TogetherKept (leftmost v) = KeptValue v
  TogetherKept some_still = Unit {0}
  TogetherKept some_open = Unit {0}

  first_kept : (a : Term) (st : Standing) (b : Bool) (t : Together) → standing a ≡ st → Kept a
      → TogetherKept t → TogetherKept (with_first st b t)
  first_kept a (at_value v) b (at_values vs) e h k =
      one_more_value (value_private (subst Kept (is_value a v e) h)) k
  first_kept a (at_value v) b (leftmost w) e h k = k
  first_kept a (at_value v) b some_still e h k = tt
  first_kept a (at_value v) b some_open e h k = tt
  first_kept a (at_throw v) b (at_values vs) e h k =
      throw_private (subst Kept (is_throw a v e) h)
  first_kept a (at_throw v) b (leftmost w) e h k = throw_private (subst Kept (is_throw a v e) h)
  first_kept a (at_throw v) b some_still e h k = throw_private (subst Kept (is_throw a v e) h)
  first_kept a (at_throw v) b some_open e h k = tt
  first_kept a open_yet true t e h k = tt
  first_kept a open_yet false (at_values vs) e h k = tt
  first_kept a open_yet false (leftmost w) e h k = k
  first_kept a open_yet false some_still e h k = tt
  first_kept a open_yet false some_open e h k = tt

  together_kept : (ts : List Term) → AllKept ts → TogetherKept (standing_together ts)
  together_kept [] h = no_values
  together_kept (a ∷ ts) (one_more h hs) =
      first_kept a (standing a) (has_stepped a) (standing_together ts) refl h (together_kept ts hs)

  fine_together : (t : Together) (k : List Value → Act) → TogetherKept t
      → ((vs : List Value) → AllKeptValues vs → IsFine (k vs)) → IsFine (by_together t k)
  fine_together (at_values vs) k h f = f vs h
  fine_together (leftmost v) k h f = thrown_private h
  fine_together some_still k h f = tt
  fine_together some_open k h f = tt

  fine_once : (ts : List Term) (k : List Value → Act) → AllKept ts
      → ((vs : List Value) → AllKeptValues vs → IsFine (k vs)) → IsFine (once_all ts k)
  fine_once ts k h f = fine_together (standing_together ts) k (together_kept ts h) f

  -- variables with values
  abbrev HeldKept : List (ℕ × Value) → Type 0
  HeldKept hs = AllKeptValues (map (λ (h : ℕ × Value). h.1) hs)

  abbrev BoundKept : Option (List (ℕ × Value)) → Type 0
  BoundKept None = Unit {0}
  BoundKept (Some hs) = HeldKept hs

  paired_first : (x : ℕ) (v : Value) (o : Option (List (ℕ × Value))) → KeptValue v → BoundKept o
      → BoundKept (option_map (λ hs. (x, v) ∷ hs) o)
  paired_first x v None h k = tt
  paired_first x v (Some hs) h k = one_more_value h k

  paired_kept : (xs : List (ℕ × Ty)) (vs : List Value) → AllKeptValues vs
      → BoundKept (paired xs vs)
  paired_kept [] [] h = no_values
  paired_kept [] (v ∷ vs) h = tt
  paired_kept (x ∷ xs) [] h = tt
  paired_kept (x ∷ xs) (v ∷ vs) (one_more_value h hs) =
      paired_first x.0 v (paired xs vs) h (paired_kept xs vs hs)

  parts_kept : (xs : List (ℕ × Ty)) (y : ValueKind) → PrivatesValue p n m g y
      → BoundKept (parts_paired xs y)
  parts_kept xs (Value-F.Tuple vs) h = paired_kept xs vs h.values
  parts_kept xs _ h = tt

  bound_kept : (xs : List (ℕ × Ty)) (v : Value) → KeptValue v → BoundKept (bound_to xs v)
  bound_kept [] v h = parts_kept [] (out-Value v) (privates_value_of h)
  bound_kept (x ∷ []) v h = one_more_value h no_values
  bound_kept (x ∷ y ∷ xs) v h = parts_kept (x ∷ y ∷ xs) (out-Value v) (privates_value_of h)

  append_held : (hs ks : List (ℕ × Value)) → HeldKept hs → HeldKept ks → HeldKept (hs ++ ks)
  append_held [] ks i j = j
  append_held (h ∷ hs) ks (one_more_value i is) j = one_more_value i (append_held hs ks is j)

  fine_entering : (c : Closure) (o : Option (List (ℕ × Value))) → Kept c.body
      → AllKeptValues (held_values c) → BoundKept o → IsFine (entering c o)
  fine_entering c (Some hs) h vs i =
      private_with (hs ++ c.held) c.body (append_held hs c.held i vs) h
  fine_entering c None h vs i = tt

  fine_apply : (k : ValueKind) (v : Value) → PrivatesValue p n m g k → KeptValue v
      → IsFine (applying_to k v)
  fine_apply (Value-F.Function c) v h i =
      fine_entering c (bound_to c.parameters v) (first_of h.terms) h.values
      (bound_kept c.parameters v i)
  fine_apply _ v h i = tt

  fine_applying : (vs : List Value) → AllKeptValues vs → IsFine (applying vs)
  fine_applying [] h = tt
  fine_applying (f ∷ []) h = tt
  fine_applying (f ∷ v ∷ []) (one_more_value h (one_more_value i hs)) =
      fine_apply (out-Value f) v (privates_value_of h) i
  fine_applying (f ∷ v ∷ w ∷ vs) h = tt

  replicate_kept : (k : ℕ) (v : Value) → KeptValue v → AllKeptValues (replicate k v)
  replicate_kept zero v h = no_values
  replicate_kept (suc k) v h = one_more_value h (replicate_kept k v h)

  fine_filling : (ty : Ty) (v : Value) (k : ValueKind) → KeptValue v → IsFine (filling p ty v k)
  fine_filling ty v (Value-F.Small (pos size)) h = (
    replicate_kept size v h,
    λ l i grows o. term_private
        (array_private ty (record { 0 = l }) size (λ j q. o j (in_filled size v j q))),
  )
  fine_filling ty v (Value-F.Small (negsuc size)) h = fine_throwing p.built_in.negative_size
  fine_filling ty v _ h = tt

  fine_binding : (o : Option (List (ℕ × Value))) (b : Term) → BoundKept o → Kept b
      → IsFine (binding o b)
  fine_binding (Some hs) b i h = private_with hs b i h
  fine_binding None b i h = tt

  fine_located : (x : ℕ) (v : Value) (b : Term) → Kept b → (l : ℕ) (h : Ground) → Grows g h
      → AreOpen h l (length (or_unit (v ∷ []))) → Private p n m h (located x l b)
  fine_located x v b k l h grows o =
      let z : l + 0 ≡ l = omega arith in
      located_private x l (subst (Open h) z (o 0 (omega arith))) (private_grows k grows)

  fine_reading : (o : Option ℕ) → ((l : ℕ) → o ≡ Some l → Open g l) → IsFine (reading_at o)
  fine_reading (Some l) h = (h l refl, λ v i. term_private i)
  fine_reading None h = tt

  fine_writing : (o : Option ℕ) (v : Value) → ((l : ℕ) → o ≡ Some l → Open g l) → KeptValue v
      → IsFine (writing_at o v)
  fine_writing (Some l) v h i = (h l refl, i)
  fine_writing None v h i = tt

  fine_if : (b : Bool) (x y : Act) → IsFine x → IsFine y → IsFine (if b then x else y)
  fine_if true x y h i = h
  fine_if false x y h i = i

  fine_element : (y k : ValueKind) (f : Option ℕ → Act) → LeadsToOpen p n g y
      → ((l : ℕ) → Open g l → IsFine (f (Some l))) → IsFine (by_element p y k f)
  fine_element (Value-F.Array element base size) (Value-F.Small (pos i)) f o h =
      go (nat_lt i size) refl
    where
      go : (b : Bool) → nat_lt i size ≡ b
          → IsFine (if b then f (Some (base.0 + i)) else throwing p p.built_in.index_out_of_range)
      go true e = h (base.0 + i) (o i (ltb-true i size e))
      go false e = fine_throwing p.built_in.index_out_of_range
  fine_element (Value-F.Array element base size) (Value-F.Small (negsuc i)) f o h =
      fine_throwing p.built_in.index_out_of_range
  fine_element _ _ f o h = tt

  fine_sizing : (k : ValueKind) → IsFine (sizing k)
  fine_sizing (Value-F.Array element base size) = term_private (small_private (pos size))
  fine_sizing _ = tt

  fine_choosing : (k : ValueKind) (a b : Term) → Kept a → Kept b → IsFine (choosing k a b)
  fine_choosing (Value-F.Truth true) a b ha hb = ha
  fine_choosing (Value-F.Truth false) a b ha hb = hb
  fine_choosing _ a b ha hb = tt

  then_kept : (a b : Term) → Kept a → Kept b → Kept (Then a b)
  then_kept a b ha hb =
      private_at (Then a b) _ (outs-Then a b) tt (one_more ha (one_more hb no_terms)) no_values

  clause_kept : (v : Value) (cs : List (Term × Ty)) (other : Term) (f : Term → Term) → Kept other
      → AllKept (in_clauses cs) → ((c : Term) → Kept c → Kept (f c))
      → Kept (clause_for p v cs other f)
  clause_kept v [] other f h cs k = h
  clause_kept v (c ∷ cs) other f h (one_more i is) k =
      go (has_type p v c.1) (clause_kept v cs other f h is k)
    where
      go : (b : Bool) → Kept (clause_for p v cs other f)
          → Kept (if b then f c.0 else clause_for p v cs other f)
      go true j = k c.0 i
      go false j = j

  finally_kept : (last : Option Term) (t : Term) → AllKept (option_to_list last) → Kept t
      → Kept (finally_then last t)
  finally_kept None t ls h = h
  finally_kept (Some last) t (one_more l ls) h = then_kept last t l h

  fine_trying : (x : ℕ) (cs : List (Term × Ty)) (last : Option Term) (a : Term) (st : Standing)
      → standing a ≡ st → Kept a → AllKept (in_clauses cs) → AllKept (option_to_list last)
      → IsFine (trying p x cs last st)
  fine_trying x cs last a (at_value v) e h hc hl =
      finally_kept last (term.Value v) hl (subst Kept (is_value a v e) h)
  fine_trying x cs last a (at_throw v) e h hc hl =
      let i = throw_private (subst Kept (is_throw a v e) h) in
      finally_kept last _ hl
      (clause_kept v cs (throw_of v) (substituted x v) (thrown_private i) hc
      (λ c k. substituted_private x v i k))
  fine_trying x cs last a open_yet e h hc hl = tt

  fine_deep : (depth : ℕ) → IsFine (too_deep p depth)
  fine_deep depth =
      fine_if (nat_le depth 100) stuck (throwing p p.built_in.depth_exceeded) tt
      (fine_throwing p.built_in.depth_exceeded)

  -- generators
  fine_item : (items : Items) (k : ℕ) (next : Value → Term) → ItemsAreOpen g items
      → k < count_of items → ((v : Value) → KeptValue v → Kept (next v))
      → IsFine (by_item items k next)
  fine_item (numbers_from from count) k next o q h = h _ (small_private _)
  fine_item (elements_from base count) k next o q h = (o k q, h)
  fine_item no_items k next o q h = tt

  for_kept : (o : Order) (s : Span) (x : ℕ) (source : Value) (b : Term) → KeptValue source
      → Kept b → IsWithin s (term.Value source) → Kept (For o s x (term.Value source) b)
  for_kept o s x source b h i within =
      private_at _ _ (outs-For o s x (term.Value source) b) within
      (one_more (term_private h) (one_more i no_terms)) no_values

  fine_for : (o : Order) (k c x : ℕ) (source : Value) (b : Term) → KeptValue source → Kept b
      → k + c ≤ count_of (items_at (out-Value source))
      → IsFine (for_items o (items_at (out-Value source)) k c x source b)
  fine_for o k zero x source b h i q = term_private unit_private
  fine_for order.Seq k (suc c) x source b h i q =
      let items = items_at (out-Value source) in
      fine_item items k _ (items_open p n g (out-Value source) (privates_value_of h).leads)
      (first_fits k c (count_of items) q)
      (λ item j. then_kept _ _ (substituted_private x item j i)
      (for_kept order.Seq (span.Part (k + 1) c) x source b h i
      (source, refl, rest_fits k c (count_of items) q)))
  fine_for order.Parallel k (suc zero) x source b h i q =
      let items = items_at (out-Value source) in
      fine_item items k _ (items_open p n g (out-Value source) (privates_value_of h).leads)
      (first_fits k 0 (count_of items) q) (λ item j. substituted_private x item j i)
  fine_for order.Parallel k (suc (suc c)) x source b h i q =
      let t = count_of (items_at (out-Value source)) in
      private_at _ _ (outs-ForHalves _ _) tt
      (one_more (for_kept order.Parallel _ x source b h i
      (source, refl, first_half_fits k (suc (suc c)) t q))
      (one_more (for_kept order.Parallel _ x source b h i
      (source, refl, rest_half_fits k (suc (suc c)) t q)) no_terms)) no_values

  reduce_kept : (o : Order) (s : Span) (set : SetId) (empty : Term) (x : ℕ) (source : Value)
      (b : Term) → (IsSecretSet n m set → ⊥) → KeptValue source → Kept empty → Kept b
      → IsWithin s (term.Value source) → Kept (Reduce o s set empty x (term.Value source) b)
  reduce_kept o s set empty x source b known h e i within =
      private_at _ _ (outs-Reduce o s set empty x (term.Value source) b) (within, known)
      (one_more e (one_more (term_private h) (one_more i no_terms))) no_values

  halves_kept : (o : Order) (set : SetId) (a b : Term) → (IsSecretSet n m set → ⊥) → Kept a → Kept b
      → Kept (reduced_halves o set a b)
  halves_kept order.Parallel set a b known ha hb =
      private_at _ _ (outs-ReduceHalves set a b) known (one_more ha (one_more hb no_terms))
      no_values
  halves_kept order.Seq set a b known ha hb =
      private_at _ _ (outs-Operator set (a ∷ b ∷ [])) known (one_more ha (one_more hb no_terms))
      no_values

  fine_reduce : (o : Order) (k c : ℕ) (set : SetId) (empty : Term) (x : ℕ) (source : Value)
      (b : Term) → (IsSecretSet n m set → ⊥) → KeptValue source → Kept empty → Kept b
      → k + c ≤ count_of (items_at (out-Value source))
      → IsFine (reduce_items o (items_at (out-Value source)) k c set empty x source b)
  fine_reduce o k zero set empty x source b known h e i q = e
  fine_reduce o k (suc zero) set empty x source b known h e i q =
      let items = items_at (out-Value source) in
      fine_item items k _ (items_open p n g (out-Value source) (privates_value_of h).leads)
      (first_fits k 0 (count_of items) q) (λ item j. substituted_private x item j i)
  fine_reduce o k (suc (suc c)) set empty x source b known h e i q =
      let t = count_of (items_at (out-Value source)) in
      halves_kept o set _ _ known
      (reduce_kept o _ set empty x source b known h e i
      (source, refl, first_half_fits k (suc (suc c)) t q))
      (reduce_kept o _ set empty x source b known h e i
      (source, refl, rest_half_fits k (suc (suc c)) t q))

  fine_spanned : (s : Span) (items : Items) (f : ℕ → ℕ → Act) → Fits s items
      → ((k c : ℕ) → k + c ≤ count_of items → IsFine (f k c)) → IsFine (spanned s items f)
  fine_spanned (span.Part k c) items f q h = h k c q
  fine_spanned span.Whole (numbers_from from count) f q h = h 0 count (zero_fits count)
  fine_spanned span.Whole (elements_from base count) f q h = h 0 count (zero_fits count)
  fine_spanned span.Whole no_items f q h = tt

  two_kept : {a b : Term} {ts : List Term} → AllKept (a ∷ b ∷ ts) → Kept a × Kept b
  two_kept (one_more h (one_more i hs)) = (h, i)

  -- each form
  fine_form : (y : Term-F Term Value Closure) → Privates p n m g y → IsFine (act_at p y)
  fine_form (Term-F.Call set arguments) h =
      fine_once arguments (calls set) h.terms (λ vs i. (h.keeps, i))
  fine_form (Term-F.Operator set operands) h =
      fine_all operands (calls set) h.terms (λ vs i. (h.keeps, i))
  fine_form (Term-F.Apply f a) h = fine_once (f ∷ a ∷ []) applying h.terms fine_applying
  fine_form (Term-F.Fill ty k a) h =
      let q = two_kept h.terms in
      fine_after k _ q.0
      (λ size i. fine_after a _ q.1 (λ v j. fine_filling ty v (out-Value size) j))
  fine_form (Term-F.Let xs a b) h =
      let q = two_kept h.terms in
      fine_after a _ q.0 (λ v i. fine_binding (bound_to xs v) b (bound_kept xs v i) q.1)
  fine_form (Term-F.Mutable x ty a b) h =
      let q = two_kept h.terms in
      fine_after a _ q.0 (λ v i. (one_more_value i no_values, fine_located x v b q.1))
  fine_form (Term-F.Read x) h = fine_reading (location_of x) (slot_open g x h.keeps)
  fine_form (Term-F.Write x a) h =
      fine_after a _ (first_of h.terms)
      (λ v i. fine_writing (location_of x) v (slot_open g x h.keeps) i)
  fine_form (Term-F.ReadField o f) h =
      fine_after o _ (first_of h.terms)
      (λ v i. fine_reading (field_of p f (out-Value v))
      (field_open p n g (out-Value v) f (privates_value_of i).leads h.keeps))
  fine_form (Term-F.WriteField o f a) h =
      let q = two_kept h.terms in
      fine_after o _ q.0
      (λ v i. fine_after a _ q.1 (λ w j. fine_writing (field_of p f (out-Value v)) w
      (field_open p n g (out-Value v) f (privates_value_of i).leads h.keeps) j))
  fine_form (Term-F.ReadElement a k) h =
      let q = two_kept h.terms in
      fine_after a _ q.0
      (λ v i. fine_after k _ q.1 (λ w j. fine_element (out-Value v) (out-Value w) reading_at
      (privates_value_of i).leads (λ l o. (o, λ u r. term_private r))))
  fine_form (Term-F.WriteElement a k b) h =
      let q = two_kept h.terms in
      fine_after a _ q.0
      (λ v i. fine_after k _ q.1
      (λ w j. fine_after b _ (first_of (rest_of (rest_of h.terms)))
      (λ u r. fine_element (out-Value v) (out-Value w) (λ l. writing_at l u)
      (privates_value_of i).leads (λ l o. (o, r)))))
  fine_form (Term-F.Size a) h =
      fine_after a _ (first_of h.terms) (λ v i. fine_sizing (out-Value v))
  fine_form (Term-F.Then a b) h =
      let q = two_kept h.terms in fine_after a _ q.0 (λ v i. q.1)
  fine_form (Term-F.If c a b) h =
      let q = two_kept h.terms in
      fine_after c _ q.0
      (λ v i. fine_choosing (out-Value v) a b q.1 (first_of (rest_of (rest_of h.terms))))
  fine_form (Term-F.While c b) h =
      let q = two_kept h.terms in
      let again = private_at (While c b) _ (outs-While c b) tt h.terms no_values in
      private_at _ _ (outs-If c (Then b (While c b)) (term.Value unit)) tt
      (one_more q.0 (one_more (then_kept b (While c b) q.1 again)
      (one_more (term_private unit_private) no_terms))) no_values
  fine_form (Term-F.Typecase x a cs b) h =
      let q = two_kept h.terms in
      fine_after a _ q.0
      (λ v i. clause_kept v cs (substituted x v b) (substituted x v)
      (substituted_private x v i q.1) (rest_of (rest_of h.terms))
      (λ c k. substituted_private x v i k))
  fine_form (Term-F.For o s x a b) h =
      let q = two_kept h.terms in
      fine_standing a (standing a) refl q.0 _
      (λ v e i. fine_spanned s (items_at (out-Value v)) _ (fits s a v h.keeps e)
      (λ k c r. fine_for o k c x v b i q.1 r))
  fine_form (Term-F.ForHalves a b) h =
      fine_once (a ∷ b ∷ []) _ h.terms (λ vs i. term_private unit_private)
  fine_form (Term-F.Reduce o s set empty x a b) h =
      let q = two_kept h.terms in
      fine_standing a (standing a) refl q.1 _
      (λ v e i. fine_spanned s (items_at (out-Value v)) _ (fits s a v h.keeps.0 e)
      (λ k c r. fine_reduce o k c set empty x v b h.keeps.1 i q.0
      (first_of (rest_of (rest_of h.terms))) r))
  fine_form (Term-F.ReduceHalves set a b) h =
      fine_once (a ∷ b ∷ []) (calls set) h.terms (λ vs i. (h.keeps, i))
  fine_form (Term-F.Also blocks) h =
      fine_once blocks _ h.terms (λ vs i. term_private unit_private)
  fine_form (Term-F.Throw a) h = fine_after a _ (first_of h.terms) (λ v i. tt)
  fine_form (Term-F.Try a x cs last) h =
      let q = front_private (option_to_list last) (in_clauses cs) (rest_of h.terms)
      in fine_trying x cs last a (standing a) refl (first_of h.terms) q.1 q.0
  fine_form (Term-F.Group parts) h = fine_once parts _ h.terms (λ vs i. fine_deep _)
  fine_form (Term-F.Fn c) h = fine_if (holds_all c) _ stuck (fine_deep _) tt
  fine_form _ h = tt

  pub acts_fine : (a : Term) → Private p n m g a → Fine p n m g (act p a)
  acts_fine a h = fine_form (out-Term a) (privates_of h)
