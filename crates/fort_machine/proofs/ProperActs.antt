-- Terms of a run: what each form goes on as.
use Rattle.std.proofs.Common.{◌≡◌, ℕ, zero, suc, ◌+◌, Bool, true, false, List, [], ◌∷◌, ◌++◌, Option, Some, None, refl, ap, sym, ◌∙◌, subst, if◌then◌else◌, pos, negsuc}
use Rattle.std.specs.Prelude.{option_to_list, option_map, option_and_then, nat_le, nat_lt, replicate, slice_get}
use Rattle.fort_base.specs.declared.ids.DeclId.{DeclId}
use Rattle.fort_base.specs.declared.ids.SetId.{SetId}
use Rattle.fort_base.specs.declared.ids.TypeId.{TypeId}
use Rattle.fort_base.specs.declared.ty.Ty.{Ty}
use Rattle.fort_core.specs.declared.form.Order.{Order}
use Rattle.fort_core.specs.declared.form.Order.TheVariants as order
use Rattle.fort_core.specs.declared.form.Span.{Span}
use Rattle.fort_core.specs.declared.form.Span.TheVariants as span
use Rattle.fort_core.specs.declared.program.CoreBody.{CoreBody}
use Rattle.fort_core.specs.declared.program.CoreBody.TheVariants as body
use Rattle.fort_core.specs.declared.program.CoreDecl.{CoreDecl}
use Rattle.fort_core.specs.declared.program.CoreKind.{CoreKind}
use Rattle.fort_core.specs.declared.program.CoreKind.TheVariants as kind
use Rattle.fort_core.specs.declared.program.CoreShape.{CoreShape}
use Rattle.fort_core.specs.declared.program.Program.{Program}
use Rattle.fort_core.specs.declared.term.Term.{Term, Then, If, While, For, ForHalves, Reduce, ReduceHalves, Operator, out-Term}
use Rattle.fort_core.specs.declared.term.Term as term
use Rattle.fort_core.specs.declared.term.Term.TheVariants.{outs-Then, outs-If, outs-While, outs-For, outs-ForHalves, outs-Reduce, outs-ReduceHalves, outs-Operator, outs-Throw}
use Rattle.fort_core.specs.declared.term.Term.TheOpen.{Term-F, Value-F}
use Rattle.fort_core.specs.declared.value.Value.{Value, Small, Text, Object, out-Value}
use Rattle.fort_core.specs.declared.value.Value.TheVariants.{outs-Small, outs-Text, outs-Tuple, outs-Object, outs-Array}
use Rattle.fort_core.specs.declared.value.Closure.{Closure}
use Rattle.fort_machine.specs.Types.{has_type}
use Rattle.fort_machine.specs.Primitives.{ValueKind, Answer, gives, makes_text, throws, prints, ends, nothing, answer_of}
use Rattle.fort_machine.specs.Ends.{Standing, at_value, at_throw, open_yet, standing, throw_of, has_stepped}
use Rattle.fort_machine.specs.Parts.{in_clauses, held_values}
use Rattle.fort_machine.specs.Scopes.{holds_all}
use Rattle.fort_machine.specs.Substitution.{substituted, paired, parts_paired, bound_to}
use Rattle.fort_machine.specs.Acts.{Act, stuck, turns, enters, asks, sets, makes, calls, unit, object_of, single, throws_object, throwing, by_standing, after, after_all, Together, at_values, leftmost, some_still, some_open, with_first, standing_together, by_together, once_all}
use Rattle.fort_machine.specs.Acts as acts
use Rattle.fort_machine.specs.Generators.{Items, numbers_from, elements_from, no_items, items_at, by_item, for_items, reduced_halves, reduce_items, spanned}
use Rattle.fort_machine.specs.Forms.{entering, applying_to, applying, filling, binding, reading_at, writing_at, location_of, field_of, by_element, sizing, choosing, clause_for, finally_then, trying, too_deep, act_at}
use Rattle.fort_machine.specs.Calls.{constants, by_answer, constructing, by_body, by_number}
use Rattle.fort_machine.specs.Marked.{Bare}
use Rattle.fort_machine.specs.Steps.{Acts, by_itself, by_call}
use Rattle.fort_machine.specs.Proper.{Resting, AllResting, no_rests, next_rest, RestingValue, AllRestingValues, no_resting_values, next_resting_value, Proper, AllProper, no_propers, next_proper}
use Rattle.fort_machine.proofs.Resting.{value_at_rest, value_rests_of, RestsValue, one_rest, rest_term, rests_at, rest_bare, is_value, is_throw, HeldRest, rests_with, substituted_rests, located_rests}
use Rattle.fort_machine.proofs.Properly.{proper_at, Propers, propers_of, one_proper, proper_value, value_proper, proper_throw, throw_proper, rest_proper}
use Rattle.fort_machine.proofs.Answered.{AnswerRests, answer_rests}

-- what a form goes on as, and what it keeps
abbrev pub Good : Act → Type 0
Good stuck = Unit {0}
Good (turns next output cost) = Proper next
Good (enters b next) = Bare b × Proper next
Good (asks l k) = (v : Value) → RestingValue v → Proper (k v)
Good (sets l v) = RestingValue v
Good (makes vs k cost) = AllRestingValues vs × ((l : ℕ) → Proper (k l))
Good (calls set vs) = AllRestingValues vs
Good acts.ends = Unit {0}

-- values of their kinds
pub unit_rests : RestingValue unit
unit_rests = value_at_rest unit _ (outs-Tuple []) no_rests no_resting_values

object_rests : (id : TypeId) (base : _) → RestingValue (Object id base)
object_rests id base =
    value_at_rest (Object id base) _ (outs-Object id base) no_rests no_resting_values

append_rests : {vs ws : List Value} → AllRestingValues vs → AllRestingValues ws
    → AllRestingValues (vs ++ ws)
append_rests no_resting_values k = k
append_rests (next_resting_value h hs) k = next_resting_value h (append_rests hs k)

-- a single object
single_at : (k : CoreKind) (id : TypeId) (s : CoreShape) (v : Value) → s.kind ≡ k
    → object_of id s ≡ Some v → RestingValue v
single_at kind.Trait id s v q e = absurd cc
single_at kind.Leaf id s v q e = absurd cc
single_at kind.Object id s v q e = absurd cc
single_at (kind.Single base) id s v q e =
    let z : Object id base ≡ v = cc in subst RestingValue z (object_rests id base)

pub single_rests : (p : Program) (id : TypeId) (v : Value) → single p id ≡ Some v → RestingValue v
single_rests p id v e = go (slice_get p.shapes id.0) refl
  where
    go : (o : Option CoreShape) → slice_get p.shapes id.0 ≡ o → RestingValue v
    go None q = let z : None ≡ Some v = sym (ap (option_and_then (object_of id)) q) ∙ e in absurd cc
    go (Some s) q = single_at s.kind id s v refl (sym (ap (option_and_then (object_of id)) q) ∙ e)

good_object : (o : Option Value) → ((v : Value) → o ≡ Some v → RestingValue v)
    → Good (throws_object o)
good_object (Some v) h = proper_throw (h v refl)
good_object None h = tt

pub good_throwing : (p : Program) (id : TypeId) → Good (throwing p id)
good_throwing p id = good_object (single p id) (single_rests p id)

-- parts
good_standing : (a : Term) (st : Standing) → standing a ≡ st → Proper a → (k : Value → Act)
    → ((v : Value) → RestingValue v → Good (k v)) → Good (by_standing st k)
good_standing a (at_value v) e h k g = g v (value_proper (subst Proper (is_value a v e) h))
good_standing a (at_throw v) e h k g = proper_throw (throw_proper (subst Proper (is_throw a v e) h))
good_standing a open_yet e h k g = tt

good_after : (a : Term) (k : Value → Act) → Proper a → ((v : Value) → RestingValue v → Good (k v))
    → Good (after a k)
good_after a k h g = good_standing a (standing a) refl h k g

good_all : (ts : List Term) (k : List Value → Act) → AllProper ts
    → ((vs : List Value) → AllRestingValues vs → Good (k vs)) → Good (after_all ts k)
good_all [] k h g = g [] no_resting_values
good_all (a ∷ ts) k (next_proper h hs) g =
    good_after a _ h
    (λ v i. good_all ts (λ vs. k (v ∷ vs)) hs (λ vs is. g (v ∷ vs) (next_resting_value i is)))

abbrev TogetherRest : Together → Type 0
TogetherRest (at_values vs) = AllRestingValues vs
TogetherRest (leftmost v) = RestingValue v
TogetherRest some_still = Unit {0}
TogetherRest some_open = Unit {0}

first_rests : (a : Term) (st : Standing) (m : Bool) (g : Together) → standing a ≡ st → Proper a
    → TogetherRest g → TogetherRest (with_first st m g)
first_rests a (at_value v) m (at_values vs) e h k =
    next_resting_value (value_proper (subst Proper (is_value a v e) h)) k
first_rests a (at_value v) m (leftmost w) e h k = k
first_rests a (at_value v) m some_still e h k = tt
first_rests a (at_value v) m some_open e h k = tt
first_rests a (at_throw v) m (at_values vs) e h k = throw_proper (subst Proper (is_throw a v e) h)
first_rests a (at_throw v) m (leftmost w) e h k = throw_proper (subst Proper (is_throw a v e) h)
first_rests a (at_throw v) m some_still e h k = throw_proper (subst Proper (is_throw a v e) h)
first_rests a (at_throw v) m some_open e h k = tt
first_rests a open_yet true g e h k = tt
first_rests a open_yet false (at_values vs) e h k = tt
first_rests a open_yet false (leftmost w) e h k = k
first_rests a open_yet false some_still e h k = tt
first_rests a open_yet false some_open e h k = tt

together_rests : (ts : List Term) → AllProper ts → TogetherRest (standing_together ts)
together_rests [] h = no_resting_values
together_rests (a ∷ ts) (next_proper h hs) =
    first_rests a (standing a) (has_stepped a) (standing_together ts) refl h (together_rests ts hs)

good_together : (g : Together) (k : List Value → Act) → TogetherRest g
    → ((vs : List Value) → AllRestingValues vs → Good (k vs)) → Good (by_together g k)
good_together (at_values vs) k h g = g vs h
good_together (leftmost v) k h g = proper_throw h
good_together some_still k h g = tt
good_together some_open k h g = tt

good_once : (ts : List Term) (k : List Value → Act) → AllProper ts
    → ((vs : List Value) → AllRestingValues vs → Good (k vs)) → Good (once_all ts k)
good_once ts k h g = good_together (standing_together ts) k (together_rests ts h) g

-- variables with values
abbrev BoundRest : Option (List (ℕ × Value)) → Type 0
BoundRest None = Unit {0}
BoundRest (Some hs) = HeldRest hs

paired_first : (x : ℕ) (v : Value) (o : Option (List (ℕ × Value))) → RestingValue v → BoundRest o
    → BoundRest (option_map (λ hs. (x, v) ∷ hs) o)
paired_first x v None h k = tt
paired_first x v (Some hs) h k = next_resting_value h k

paired_rest : (xs : List (ℕ × Ty)) (vs : List Value) → AllRestingValues vs
    → BoundRest (paired xs vs)
paired_rest [] [] h = no_resting_values
paired_rest [] (v ∷ vs) h = tt
paired_rest (x ∷ xs) [] h = tt
paired_rest (x ∷ xs) (v ∷ vs) (next_resting_value h hs) =
    paired_first x.0 v (paired xs vs) h (paired_rest xs vs hs)

parts_rest : (xs : List (ℕ × Ty)) (y : ValueKind) → RestsValue y → BoundRest (parts_paired xs y)
parts_rest xs (Value-F.Tuple vs) h = paired_rest xs vs h.values
parts_rest xs _ h = tt

bound_rest : (xs : List (ℕ × Ty)) (v : Value) → RestingValue v → BoundRest (bound_to xs v)
bound_rest [] v h = parts_rest [] (out-Value v) (value_rests_of h)
bound_rest (x ∷ []) v h = next_resting_value h no_resting_values
bound_rest (x ∷ y ∷ xs) v h = parts_rest (x ∷ y ∷ xs) (out-Value v) (value_rests_of h)

append_held : (hs ks : List (ℕ × Value)) → HeldRest hs → HeldRest ks → HeldRest (hs ++ ks)
append_held [] ks i j = j
append_held (h ∷ hs) ks (next_resting_value i is) j = next_resting_value i (append_held hs ks is j)

-- the rows
good_entering : (c : Closure) (o : Option (List (ℕ × Value))) → Resting c.body
    → AllRestingValues (held_values c) → BoundRest o → Good (entering c o)
good_entering c (Some hs) h vs i =
    (rest_bare h, rest_proper (rests_with (hs ++ c.held) c.body (append_held hs c.held i vs) h))
good_entering c None h vs i = tt

good_apply : (k : ValueKind) (v : Value) → RestsValue k → RestingValue v → Good (applying_to k v)
good_apply (Value-F.Function c) v h i =
    good_entering c (bound_to c.parameters v) (one_rest h.terms) h.values
    (bound_rest c.parameters v i)
good_apply _ v h i = tt

good_applying : (vs : List Value) → AllRestingValues vs → Good (applying vs)
good_applying [] h = tt
good_applying (f ∷ []) h = tt
good_applying (f ∷ v ∷ []) (next_resting_value h (next_resting_value i hs)) =
    good_apply (out-Value f) v (value_rests_of h) i
good_applying (f ∷ v ∷ w ∷ vs) h = tt

replicate_rests : (n : ℕ) (v : Value) → RestingValue v → AllRestingValues (replicate n v)
replicate_rests zero v h = no_resting_values
replicate_rests (suc n) v h = next_resting_value h (replicate_rests n v h)

good_filling : (p : Program) (ty : Ty) (v : Value) (k : ValueKind) → RestingValue v
    → Good (filling p ty v k)
good_filling p ty v (Value-F.Small (pos n)) h = (
  replicate_rests n v h,
  λ l. proper_value
      (value_at_rest _ _ (outs-Array ty (record { 0 = l }) n) no_rests no_resting_values),
)
good_filling p ty v (Value-F.Small (negsuc n)) h = good_throwing p p.built_in.negative_size
good_filling p ty v _ h = tt

good_binding : (o : Option (List (ℕ × Value))) (b : Term) → BoundRest o → Resting b
    → Good (binding o b)
good_binding (Some hs) b i h = rest_proper (rests_with hs b i h)
good_binding None b i h = tt

good_reading : (o : Option ℕ) → Good (reading_at o)
good_reading (Some l) = λ v h. proper_value h
good_reading None = tt

good_writing : (o : Option ℕ) (v : Value) → RestingValue v → Good (writing_at o v)
good_writing (Some l) v h = h
good_writing None v h = tt

good_if : (b : Bool) (x y : Act) → Good x → Good y → Good (if b then x else y)
good_if true x y gx gy = gx
good_if false x y gx gy = gy

good_element : (p : Program) (k m : ValueKind) (f : Option ℕ → Act) → ((o : Option ℕ) → Good (f o))
    → Good (by_element p k m f)
good_element p (Value-F.Array element base size) (Value-F.Small (pos i)) f h =
    good_if (nat_lt i size) _ _ (h (Some (base.0 + i)))
    (good_throwing p p.built_in.index_out_of_range)
good_element p (Value-F.Array element base size) (Value-F.Small (negsuc i)) f h =
    good_throwing p p.built_in.index_out_of_range
good_element p _ _ f h = tt

number_rests : (n : _) → RestingValue (Small n)
number_rests n = value_at_rest (Small n) _ (outs-Small n) no_rests no_resting_values

good_sizing : (k : ValueKind) → Good (sizing k)
good_sizing (Value-F.Array element base size) = proper_value (number_rests (pos size))
good_sizing _ = tt

good_choosing : (k : ValueKind) (a b : Term) → Proper a → Proper b → Good (choosing k a b)
good_choosing (Value-F.Truth true) a b ha hb = ha
good_choosing (Value-F.Truth false) a b ha hb = hb
good_choosing _ a b ha hb = tt

then_proper : (a b : Term) → Proper a → Resting b → Proper (Then a b)
then_proper a b ha hb =
    proper_at (Then a b) _ (outs-Then a b) tt tt (next_proper ha no_propers) (next_rest hb no_rests)
    no_resting_values

clause_proper : (p : Program) (v : Value) (cs : List (Term × Ty)) (other : Term) (f : Term → Term)
    → Proper other → AllResting (in_clauses cs) → ((c : Term) → Resting c → Proper (f c))
    → Proper (clause_for p v cs other f)
clause_proper p v [] other f h cs g = h
clause_proper p v (c ∷ cs) other f h (next_rest i is) g =
    go (has_type p v c.1) (clause_proper p v cs other f h is g)
  where
    go : (b : Bool) → Proper (clause_for p v cs other f)
        → Proper (if b then f c.0 else clause_for p v cs other f)
    go true k = g c.0 i
    go false k = k

clause_rests : (p : Program) (v : Value) (cs : List (Term × Ty)) (other : Term) (f : Term → Term)
    → Resting other → AllResting (in_clauses cs) → ((c : Term) → Resting c → Resting (f c))
    → Resting (clause_for p v cs other f)
clause_rests p v [] other f h cs g = h
clause_rests p v (c ∷ cs) other f h (next_rest i is) g =
    go (has_type p v c.1) (clause_rests p v cs other f h is g)
  where
    go : (b : Bool) → Resting (clause_for p v cs other f)
        → Resting (if b then f c.0 else clause_for p v cs other f)
    go true k = g c.0 i
    go false k = k

finally_proper : (last : Option Term) (n : Term) → AllResting (option_to_list last) → Resting n
    → Proper (finally_then last n)
finally_proper None n ls h = rest_proper h
finally_proper (Some last) n (next_rest l ls) h = then_proper last n (rest_proper l) h

throw_rests : {v : Value} → RestingValue v → Resting (throw_of v)
throw_rests {v} h =
    rests_at (throw_of v) _ (outs-Throw (term.Value v)) tt tt (next_rest (rest_term h) no_rests)
    no_resting_values

good_trying : (p : Program) (x : ℕ) (cs : List (Term × Ty)) (last : Option Term) (a : Term)
    (st : Standing) → standing a ≡ st → Proper a → AllResting (in_clauses cs)
    → AllResting (option_to_list last) → Good (trying p x cs last st)
good_trying p x cs last a (at_value v) e h hc hl =
    finally_proper last (term.Value v) hl
    (rest_term (value_proper (subst Proper (is_value a v e) h)))
good_trying p x cs last a (at_throw v) e h hc hl =
    let i = throw_proper (subst Proper (is_throw a v e) h) in
    finally_proper last _ hl
    (clause_rests p v cs (throw_of v) (substituted x v) (throw_rests i) hc
    (λ c k. substituted_rests x v i k))
good_trying p x cs last a open_yet e h hc hl = tt

good_deep : (p : Program) (n : ℕ) → Good (too_deep p n)
good_deep p n =
    good_if (nat_le n 100) stuck (throwing p p.built_in.depth_exceeded) tt
    (good_throwing p p.built_in.depth_exceeded)

good_item : (items : Items) (k : ℕ) (next : Value → Term)
    → ((v : Value) → RestingValue v → Proper (next v)) → Good (by_item items k next)
good_item (numbers_from first count) k next h = h _ (number_rests _)
good_item (elements_from base count) k next h = h
good_item no_items k next h = tt

-- a generator over what is left
for_proper : (o : Order) (s : Span) (x : ℕ) (source : Value) (b : Term) → RestingValue source
    → Resting b → Proper (For o s x (term.Value source) b)
for_proper o s x source b h i =
    proper_at _ _ (outs-For o s x (term.Value source) b) tt tt
    (next_proper (proper_value h) no_propers) (next_rest i no_rests) no_resting_values

for_rests : (o : Order) (s : Span) (x : ℕ) (source : Value) (b : Term) → RestingValue source
    → Resting b → Resting (For o s x (term.Value source) b)
for_rests o s x source b h i =
    rests_at _ _ (outs-For o s x (term.Value source) b) tt tt
    (next_rest (rest_term h) (next_rest i no_rests)) no_resting_values

good_for : (o : Order) (items : Items) (k n x : ℕ) (source : Value) (b : Term) → RestingValue source
    → Resting b → Good (for_items o items k n x source b)
good_for o items k zero x source b h i = proper_value unit_rests
good_for order.Seq items k (suc n) x source b h i =
    good_item items k _
    (λ item j. then_proper _ _ (rest_proper (substituted_rests x item j i))
    (for_rests order.Seq (span.Part (k + 1) n) x source b h i))
good_for order.Parallel items k (suc zero) x source b h i =
    good_item items k _ (λ item j. rest_proper (substituted_rests x item j i))
good_for order.Parallel items k (suc (suc n)) x source b h i =
    proper_at _ _ (outs-ForHalves _ _) tt tt
    (next_proper (for_proper order.Parallel _ x source b h i)
    (next_proper (for_proper order.Parallel _ x source b h i) no_propers)) no_rests
    no_resting_values

reduce_proper : (o : Order) (s : Span) (set : SetId) (empty : Term) (x : ℕ) (source : Value)
    (b : Term) → RestingValue source → Resting empty → Resting b
    → Proper (Reduce o s set empty x (term.Value source) b)
reduce_proper o s set empty x source b h e i =
    proper_at _ _ (outs-Reduce o s set empty x (term.Value source) b) tt tt
    (next_proper (proper_value h) no_propers) (next_rest e (next_rest i no_rests))
    no_resting_values

halves_proper : (o : Order) (set : SetId) (a b : Term) → Proper a → Proper b
    → Proper (reduced_halves o set a b)
halves_proper order.Parallel set a b ha hb =
    proper_at _ _ (outs-ReduceHalves set a b) tt tt (next_proper ha (next_proper hb no_propers))
    no_rests no_resting_values
halves_proper order.Seq set a b ha hb =
    proper_at _ _ (outs-Operator set (a ∷ b ∷ [])) tt tt
    (next_proper ha (next_proper hb no_propers)) no_rests no_resting_values

good_reduce : (o : Order) (items : Items) (k n : ℕ) (set : SetId) (empty : Term) (x : ℕ)
    (source : Value) (b : Term) → RestingValue source → Resting empty → Resting b
    → Good (reduce_items o items k n set empty x source b)
good_reduce o items k zero set empty x source b h e i = rest_proper e
good_reduce o items k (suc zero) set empty x source b h e i =
    good_item items k _ (λ item j. rest_proper (substituted_rests x item j i))
good_reduce o items k (suc (suc n)) set empty x source b h e i =
    halves_proper o set _ _ (reduce_proper o _ set empty x source b h e i)
    (reduce_proper o _ set empty x source b h e i)

good_spanned : (s : Span) (items : Items) (f : ℕ → ℕ → Act) → ((k n : ℕ) → Good (f k n))
    → Good (spanned s items f)
good_spanned (span.Part k n) items f h = h k n
good_spanned span.Whole (numbers_from first count) f h = h 0 count
good_spanned span.Whole (elements_from base count) f h = h 0 count
good_spanned span.Whole no_items f h = tt

two_proper : {a b : Term} → AllProper (a ∷ b ∷ []) → Proper a × Proper b
two_proper (next_proper h (next_proper i hs)) = (h, i)

two_rest : {a b : Term} → AllResting (a ∷ b ∷ []) → Resting a × Resting b
two_rest (next_rest h (next_rest i hs)) = (h, i)

first_of_rest : {a : Term} {ts : List Term} → AllResting (a ∷ ts) → Resting a × AllResting ts
first_of_rest (next_rest h hs) = (h, hs)

three_proper : {a b c : Term} → AllProper (a ∷ b ∷ c ∷ []) → Proper a × Proper b × Proper c
three_proper (next_proper h (next_proper i (next_proper j hs))) = (h, i, j)

rests_front : (xs ys : List Term) → AllResting (xs ++ ys) → AllResting xs × AllResting ys
rests_front [] ys h = (no_rests, h)
rests_front (x ∷ xs) ys (next_rest h hs) = let i = rests_front xs ys hs in (next_rest h i.0, i.1)

-- each form goes on properly
good_act : (p : Program) (t : Term) (y : Term-F Term Value Closure) → Propers y → Good (act_at p y)
good_act p t (Term-F.Call set arguments) h = good_once arguments (calls set) h.going (λ vs i. i)
good_act p t (Term-F.Operator set operands) h = good_all operands (calls set) h.going (λ vs i. i)
good_act p t (Term-F.Apply f a) h = good_once (f ∷ a ∷ []) applying h.going good_applying
good_act p t (Term-F.Fill ty n a) h =
    let q = two_proper h.going
    in good_after n _ q.0
    (λ size i. good_after a _ q.1 (λ v j. good_filling p ty v (out-Value size) j))
good_act p t (Term-F.Let xs a b) h =
    good_after a _ (one_proper h.going)
    (λ v i. good_binding (bound_to xs v) b (bound_rest xs v i) (one_rest h.rests))
good_act p t (Term-F.Mutable x ty a b) h =
    good_after a _ (one_proper h.going)
    (λ v i. (
      next_resting_value i no_resting_values,
      λ l. rest_proper (located_rests x l (one_rest h.rests)),
    ))
good_act p t (Term-F.Read x) h = good_reading (location_of x)
good_act p t (Term-F.Write x a) h =
    good_after a _ (one_proper h.going) (λ v i. good_writing (location_of x) v i)
good_act p t (Term-F.ReadField o f) h =
    good_after o _ (one_proper h.going) (λ v i. good_reading (field_of p f (out-Value v)))
good_act p t (Term-F.WriteField o f a) h =
    let q = two_proper h.going
    in good_after o _ q.0
    (λ v i. good_after a _ q.1 (λ w j. good_writing (field_of p f (out-Value v)) w j))
good_act p t (Term-F.ReadElement a i) h =
    let q = two_proper h.going
    in good_after a _ q.0
    (λ v k. good_after i _ q.1
    (λ w j. good_element p (out-Value v) (out-Value w) reading_at good_reading))
good_act p t (Term-F.WriteElement a i b) h =
    let q = three_proper h.going in
    good_after a _ q.0
    (λ v k. good_after i _ q.1
    (λ w m. good_after b _ q.2
    (λ u j. good_element p (out-Value v) (out-Value w) (λ l. writing_at l u)
    (λ l. good_writing l u j))))
good_act p t (Term-F.Size a) h =
    good_after a _ (one_proper h.going) (λ v i. good_sizing (out-Value v))
good_act p t (Term-F.Then a b) h =
    good_after a _ (one_proper h.going) (λ v i. rest_proper (one_rest h.rests))
good_act p t (Term-F.If c a b) h =
    let q = two_rest h.rests
    in good_after c _ (one_proper h.going)
    (λ v i. good_choosing (out-Value v) a b (rest_proper q.0) (rest_proper q.1))
good_act p t (Term-F.While c b) h =
    let q = two_rest h.rests in
    let again =
    rests_at (While c b) _ (outs-While c b) tt tt (next_rest q.0 (next_rest q.1 no_rests))
    no_resting_values in
    let body =
    rests_at (Then b (While c b)) _ (outs-Then b (While c b)) tt tt
    (next_rest q.1 (next_rest again no_rests)) no_resting_values in
    proper_at _ _ (outs-If c (Then b (While c b)) (term.Value unit)) tt tt
    (next_proper (rest_proper q.0) no_propers)
    (next_rest body (next_rest (rest_term unit_rests) no_rests)) no_resting_values
good_act p t (Term-F.Typecase x a cs b) h =
    let q = first_of_rest h.rests in
    good_after a _ (one_proper h.going)
    (λ v i. clause_proper p v cs (substituted x v b) (substituted x v)
    (rest_proper (substituted_rests x v i q.0)) q.1
    (λ c k. rest_proper (substituted_rests x v i k)))
good_act p t (Term-F.For o s x a b) h =
    good_after a _ (one_proper h.going)
    (λ v i. good_spanned s (items_at (out-Value v)) _
    (λ k n. good_for o (items_at (out-Value v)) k n x v b i (one_rest h.rests)))
good_act p t (Term-F.ForHalves a b) h =
    good_once (a ∷ b ∷ []) _ h.going (λ vs i. proper_value unit_rests)
good_act p t (Term-F.Reduce o s set empty x a b) h =
    let q = two_rest h.rests in
    good_after a _ (one_proper h.going)
    (λ v i. good_spanned s (items_at (out-Value v)) _
    (λ k n. good_reduce o (items_at (out-Value v)) k n set empty x v b i q.0 q.1))
good_act p t (Term-F.ReduceHalves set a b) h =
    good_once (a ∷ b ∷ []) (calls set) h.going (λ vs i. i)
good_act p t (Term-F.Also blocks) h = good_once blocks _ h.going (λ vs i. proper_value unit_rests)
good_act p t (Term-F.Throw a) h = good_after a _ (one_proper h.going) (λ v i. tt)
good_act p t (Term-F.Try a x cs last) h =
    let q = rests_front (option_to_list last) (in_clauses cs) h.rests
    in good_trying p x cs last a (standing a) refl (one_proper h.going) q.1 q.0
good_act p t (Term-F.Group parts) h = good_once parts _ h.going (λ vs i. good_deep p _)
good_act p t (Term-F.Fn c) h = good_if (holds_all c) _ stuck (good_deep p _) tt
good_act p t _ h = tt

-- what is taken of a program: its bodies and constants are at rest
pub record ProperProgram (p : Program) : Type 0 where
  pub first : Resting p.first
  pub bodies : (d : DeclId) (decl : CoreDecl) (t : Term) → slice_get p.decls d.0 ≡ Some decl
      → decl.body ≡ body.Plain t → Resting t
  pub fields : (id : TypeId) (s : CoreShape) → slice_get p.shapes id.0 ≡ Some s
      → AllRestingValues (constants s)

text_rests : (s : List ℕ) → RestingValue (Text s)
text_rests s = value_at_rest (Text s) _ (outs-Text s) no_rests no_resting_values

good_answer : (p : Program) (a : Answer) → AnswerRests a → Good (by_answer p a)
good_answer p (gives v) h = proper_value h
good_answer p (makes_text s) h = proper_value (text_rests s)
good_answer p (throws id) h = good_throwing p id
good_answer p (prints s) h = proper_value unit_rests
good_answer p ends h = tt
good_answer p nothing h = tt

by_number_rests : (n : ℕ) (vs : List Value) → AllRestingValues vs → HeldRest (by_number n vs)
by_number_rests n [] h = no_resting_values
by_number_rests n (v ∷ vs) (next_resting_value h hs) =
    next_resting_value h (by_number_rests (n + 1) vs hs)

good_new : (id : TypeId) (vs : List Value) (o : Option CoreShape) → AllRestingValues vs
    → ((s : CoreShape) → o ≡ Some s → AllRestingValues (constants s)) → Good (constructing id vs o)
good_new id vs (Some s) h k =
    (append_rests h (k s refl), λ l. proper_value (object_rests id (record { 0 = l })))
good_new id vs None h k = tt

good_body : (p : Program) → ProperProgram p → (b : CoreBody) (vs : List Value) → AllRestingValues vs
    → ((t : Term) → b ≡ body.Plain t → Resting t) → Good (by_body p b vs)
good_body p o (body.Plain t) vs h k =
    let i = k t refl
    in (rest_bare i, rest_proper (rests_with (by_number 0 vs) t (by_number_rests 0 vs h) i))
good_body p o (body.Primitive f) vs h k = good_answer p (answer_of p f vs) (answer_rests p f vs)
good_body p o body.Abstract vs h k = tt
good_body p o (body.New id) vs h k =
    good_new id vs (slice_get p.shapes id.0) h (λ s e. o.fields id s e)

pub good_acts : (p : Program) → ProperProgram p → (t : Term) (x : Act) → Proper t → Acts p t x
    → Good x
good_acts p o t x h (by_itself e) = subst Good e (good_act p t (out-Term t) (propers_of h))
good_acts p o t x h (by_call {values = vs} {d = d} {decl = decl} e k i) =
    subst Good i
    (good_body p o decl.body vs (subst Good e (good_act p t (out-Term t) (propers_of h)))
    (λ b q. o.bodies d decl b k.most_specific.applicable.is_decl q))
