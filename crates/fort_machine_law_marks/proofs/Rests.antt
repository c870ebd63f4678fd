-- What each form goes on as is at rest: no form in it sleeps or is marked.
use Rattle.std.proofs.Common.{◌≡◌, ℕ, zero, suc, ◌+◌, Bool, true, false, List, [], ◌∷◌, ◌++◌, Option, Some, None, refl, subst, if◌then◌else◌, pos, negsuc}
use Rattle.std.specs.Prelude.{option_to_list, option_map, nat_le, nat_lt, slice_get}
use Rattle.fort_base.specs.declared.ids.SetId.{SetId}
use Rattle.fort_base.specs.declared.ids.TypeId.{TypeId}
use Rattle.fort_base.specs.declared.ty.Ty.{Ty}
use Rattle.fort_core.specs.declared.form.Order.{Order}
use Rattle.fort_core.specs.declared.form.Order.TheVariants as order
use Rattle.fort_core.specs.declared.form.Span.{Span}
use Rattle.fort_core.specs.declared.form.Span.TheVariants as span
use Rattle.fort_core.specs.declared.program.CoreBody.{CoreBody}
use Rattle.fort_core.specs.declared.program.CoreBody.TheVariants as body
use Rattle.fort_core.specs.declared.program.CoreShape.{CoreShape}
use Rattle.fort_core.specs.declared.program.Program.{Program}
use Rattle.fort_core.specs.declared.term.Term.{Term, Then, If, While, For, ForHalves, Reduce, ReduceHalves, Operator, out-Term}
use Rattle.fort_core.specs.declared.term.Term as term
use Rattle.fort_core.specs.declared.term.Term.TheVariants.{outs-Then, outs-If, outs-While, outs-For, outs-ForHalves, outs-Reduce, outs-ReduceHalves, outs-Operator, outs-Throw}
use Rattle.fort_core.specs.declared.term.Term.TheOpen.{Term-F, Value-F}
use Rattle.fort_core.specs.declared.value.Value.{Value, Small, Text, Object, out-Value}
use Rattle.fort_core.specs.declared.value.Value.TheVariants.{outs-Small, outs-Text, outs-Object, outs-Array}
use Rattle.fort_core.specs.declared.value.Closure.{Closure}
use Rattle.fort_machine.specs.Types.{has_type}
use Rattle.fort_machine.specs.Primitives.{ValueKind, Answer, gives, makes_text, throws, prints, ends, nothing, answer_of}
use Rattle.fort_machine.specs.Ends.{Standing, at_value, at_throw, open_yet, standing, throw_of, has_stepped}
use Rattle.fort_machine.specs.Parts.{in_clauses, held_values}
use Rattle.fort_machine.specs.Scopes.{holds_all}
use Rattle.fort_machine.specs.Substitution.{substituted, paired, parts_paired, bound_to}
use Rattle.fort_machine.specs.Acts.{Act, stuck, turns, enters, asks, sets, makes, calls, unit, object_of, single, throws_object, throwing, by_standing, after, after_all, Together, at_values, leftmost, some_still, some_open, with_first, standing_together, by_together, once_all}
use Rattle.fort_machine.specs.Acts as acts
use Rattle.fort_machine.specs.Generators.{Items, numbers_from, elements_from, no_items, items_at, by_item, for_items, reduced_halves, reduce_items, spanned}
use Rattle.fort_machine.specs.Forms.{entering, applying_to, applying, filling, binding, reading_at, writing_at, location_of, field_of, by_element, sizing, choosing, clause_for, finally_then, trying, too_deep, act_at}
use Rattle.fort_machine.specs.Calls.{by_answer, constructing, by_body, by_number}
use Rattle.fort_machine.specs.Steps.{Acts, by_itself, by_call}
use Rattle.fort_machine.specs.Proper.{Resting, AllResting, no_rests, next_rest, RestingValue, AllRestingValues, no_resting_values, next_resting_value, Proper, AllProper, next_proper}
use Rattle.fort_machine.proofs.Resting.{value_at_rest, value_rests_of, RestsValue, one_rest, rest_term, rests_at, is_value, is_throw, HeldRest, rests_with, substituted_rests, located_rests}
use Rattle.fort_machine.proofs.Properly.{Propers, propers_of, one_proper, value_proper, throw_proper}
use Rattle.fort_machine.proofs.Answered.{AnswerRests, answer_rests}
use Rattle.fort_machine.proofs.ProperActs.{ProperProgram, unit_rests, single_rests}

-- what a form goes on as
abbrev pub Rested : Act → Type 0
Rested stuck = Unit {0}
Rested (turns next output cost) = Resting next
Rested (enters b next) = Resting next
Rested (asks l k) = (v : Value) → RestingValue v → Resting (k v)
Rested (sets l v) = Unit {0}
Rested (makes vs k cost) = (l : ℕ) → Resting (k l)
Rested (calls set vs) = AllRestingValues vs
Rested acts.ends = Unit {0}

-- values of their kinds
object_rests : (id : TypeId) (base : _) → RestingValue (Object id base)
object_rests id base =
    value_at_rest (Object id base) _ (outs-Object id base) no_rests no_resting_values

pub throw_rests : {v : Value} → RestingValue v → Resting (throw_of v)
throw_rests {v} h =
    rests_at (throw_of v) _ (outs-Throw (term.Value v)) tt tt (next_rest (rest_term h) no_rests)
    no_resting_values

rested_object : (o : Option Value) → ((v : Value) → o ≡ Some v → RestingValue v)
    → Rested (throws_object o)
rested_object (Some v) h = throw_rests (h v refl)
rested_object None h = tt

rested_throwing : (p : Program) (id : TypeId) → Rested (throwing p id)
rested_throwing p id = rested_object (single p id) (single_rests p id)

-- parts
rested_standing : (a : Term) (st : Standing) → standing a ≡ st → Proper a → (k : Value → Act)
    → ((v : Value) → RestingValue v → Rested (k v)) → Rested (by_standing st k)
rested_standing a (at_value v) e h k g = g v (value_proper (subst Proper (is_value a v e) h))
rested_standing a (at_throw v) e h k g =
    throw_rests (throw_proper (subst Proper (is_throw a v e) h))
rested_standing a open_yet e h k g = tt

rested_after : (a : Term) (k : Value → Act) → Proper a
    → ((v : Value) → RestingValue v → Rested (k v)) → Rested (after a k)
rested_after a k h g = rested_standing a (standing a) refl h k g

rested_all : (ts : List Term) (k : List Value → Act) → AllProper ts
    → ((vs : List Value) → AllRestingValues vs → Rested (k vs)) → Rested (after_all ts k)
rested_all [] k h g = g [] no_resting_values
rested_all (a ∷ ts) k (next_proper h hs) g =
    rested_after a _ h
    (λ v i. rested_all ts (λ vs. k (v ∷ vs)) hs (λ vs is. g (v ∷ vs) (next_resting_value i is)))

abbrev TogetherRest : Together → Type 0
TogetherRest (at_values vs) = AllRestingValues vs
TogetherRest (leftmost v) = RestingValue v
TogetherRest some_still = Unit {0}
TogetherRest some_open = Unit {0}

first_rests : (a : Term) (st : Standing) (m : Bool) (g : Together) → standing a ≡ st → Proper a
    → TogetherRest g → TogetherRest (with_first st m g)
first_rests a (at_value v) m (at_values vs) e h k =
    next_resting_value (value_proper (subst Proper (is_value a v e) h)) k
first_rests a (at_value v) m (leftmost w) e h k = k
first_rests a (at_value v) m some_still e h k = tt
first_rests a (at_value v) m some_open e h k = tt
first_rests a (at_throw v) m (at_values vs) e h k = throw_proper (subst Proper (is_throw a v e) h)
first_rests a (at_throw v) m (leftmost w) e h k = throw_proper (subst Proper (is_throw a v e) h)
first_rests a (at_throw v) m some_still e h k = throw_proper (subst Proper (is_throw a v e) h)
first_rests a (at_throw v) m some_open e h k = tt
first_rests a open_yet true g e h k = tt
first_rests a open_yet false (at_values vs) e h k = tt
first_rests a open_yet false (leftmost w) e h k = k
first_rests a open_yet false some_still e h k = tt
first_rests a open_yet false some_open e h k = tt

together_rests : (ts : List Term) → AllProper ts → TogetherRest (standing_together ts)
together_rests [] h = no_resting_values
together_rests (a ∷ ts) (next_proper h hs) =
    first_rests a (standing a) (has_stepped a) (standing_together ts) refl h (together_rests ts hs)

rested_together : (g : Together) (k : List Value → Act) → TogetherRest g
    → ((vs : List Value) → AllRestingValues vs → Rested (k vs)) → Rested (by_together g k)
rested_together (at_values vs) k h g = g vs h
rested_together (leftmost v) k h g = throw_rests h
rested_together some_still k h g = tt
rested_together some_open k h g = tt

rested_once : (ts : List Term) (k : List Value → Act) → AllProper ts
    → ((vs : List Value) → AllRestingValues vs → Rested (k vs)) → Rested (once_all ts k)
rested_once ts k h g = rested_together (standing_together ts) k (together_rests ts h) g

-- variables with values
abbrev BoundRest : Option (List (ℕ × Value)) → Type 0
BoundRest None = Unit {0}
BoundRest (Some hs) = HeldRest hs

paired_first : (x : ℕ) (v : Value) (o : Option (List (ℕ × Value))) → RestingValue v → BoundRest o
    → BoundRest (option_map (λ hs. (x, v) ∷ hs) o)
paired_first x v None h k = tt
paired_first x v (Some hs) h k = next_resting_value h k

paired_rest : (xs : List (ℕ × Ty)) (vs : List Value) → AllRestingValues vs
    → BoundRest (paired xs vs)
paired_rest [] [] h = no_resting_values
paired_rest [] (v ∷ vs) h = tt
paired_rest (x ∷ xs) [] h = tt
paired_rest (x ∷ xs) (v ∷ vs) (next_resting_value h hs) =
    paired_first x.0 v (paired xs vs) h (paired_rest xs vs hs)

parts_rest : (xs : List (ℕ × Ty)) (y : ValueKind) → RestsValue y → BoundRest (parts_paired xs y)
parts_rest xs (Value-F.Tuple vs) h = paired_rest xs vs h.values
parts_rest xs _ h = tt

bound_rest : (xs : List (ℕ × Ty)) (v : Value) → RestingValue v → BoundRest (bound_to xs v)
bound_rest [] v h = parts_rest [] (out-Value v) (value_rests_of h)
bound_rest (x ∷ []) v h = next_resting_value h no_resting_values
bound_rest (x ∷ y ∷ xs) v h = parts_rest (x ∷ y ∷ xs) (out-Value v) (value_rests_of h)

append_held : (hs ks : List (ℕ × Value)) → HeldRest hs → HeldRest ks → HeldRest (hs ++ ks)
append_held [] ks i j = j
append_held (h ∷ hs) ks (next_resting_value i is) j = next_resting_value i (append_held hs ks is j)

-- the rows
rested_entering : (c : Closure) (o : Option (List (ℕ × Value))) → Resting c.body
    → AllRestingValues (held_values c) → BoundRest o → Rested (entering c o)
rested_entering c (Some hs) h vs i = rests_with (hs ++ c.held) c.body (append_held hs c.held i vs) h
rested_entering c None h vs i = tt

rested_apply : (k : ValueKind) (v : Value) → RestsValue k → RestingValue v
    → Rested (applying_to k v)
rested_apply (Value-F.Function c) v h i =
    rested_entering c (bound_to c.parameters v) (one_rest h.terms) h.values
    (bound_rest c.parameters v i)
rested_apply _ v h i = tt

rested_applying : (vs : List Value) → AllRestingValues vs → Rested (applying vs)
rested_applying [] h = tt
rested_applying (f ∷ []) h = tt
rested_applying (f ∷ v ∷ []) (next_resting_value h (next_resting_value i hs)) =
    rested_apply (out-Value f) v (value_rests_of h) i
rested_applying (f ∷ v ∷ w ∷ vs) h = tt

rested_filling : (p : Program) (ty : Ty) (v : Value) (k : ValueKind) → Rested (filling p ty v k)
rested_filling p ty v (Value-F.Small (pos n)) =
    λ l. rest_term
    (value_at_rest _ _ (outs-Array ty (record { 0 = l }) n) no_rests no_resting_values)
rested_filling p ty v (Value-F.Small (negsuc n)) = rested_throwing p p.built_in.negative_size
rested_filling p ty v _ = tt

rested_binding : (o : Option (List (ℕ × Value))) (b : Term) → BoundRest o → Resting b
    → Rested (binding o b)
rested_binding (Some hs) b i h = rests_with hs b i h
rested_binding None b i h = tt

rested_reading : (o : Option ℕ) → Rested (reading_at o)
rested_reading (Some l) = λ v h. rest_term h
rested_reading None = tt

rested_writing : (o : Option ℕ) (v : Value) → Rested (writing_at o v)
rested_writing (Some l) v = tt
rested_writing None v = tt

rested_if : (b : Bool) (x y : Act) → Rested x → Rested y → Rested (if b then x else y)
rested_if true x y gx gy = gx
rested_if false x y gx gy = gy

rested_element : (p : Program) (k m : ValueKind) (f : Option ℕ → Act)
    → ((o : Option ℕ) → Rested (f o)) → Rested (by_element p k m f)
rested_element p (Value-F.Array element base size) (Value-F.Small (pos i)) f h =
    rested_if (nat_lt i size) _ _ (h (Some (base.0 + i)))
    (rested_throwing p p.built_in.index_out_of_range)
rested_element p (Value-F.Array element base size) (Value-F.Small (negsuc i)) f h =
    rested_throwing p p.built_in.index_out_of_range
rested_element p _ _ f h = tt

number_rests : (n : _) → RestingValue (Small n)
number_rests n = value_at_rest (Small n) _ (outs-Small n) no_rests no_resting_values

rested_sizing : (k : ValueKind) → Rested (sizing k)
rested_sizing (Value-F.Array element base size) = rest_term (number_rests (pos size))
rested_sizing _ = tt

rested_choosing : (k : ValueKind) (a b : Term) → Resting a → Resting b → Rested (choosing k a b)
rested_choosing (Value-F.Truth true) a b ha hb = ha
rested_choosing (Value-F.Truth false) a b ha hb = hb
rested_choosing _ a b ha hb = tt

then_rests : (a b : Term) → Resting a → Resting b → Resting (Then a b)
then_rests a b ha hb =
    rests_at (Then a b) _ (outs-Then a b) tt tt (next_rest ha (next_rest hb no_rests))
    no_resting_values

clause_rests : (p : Program) (v : Value) (cs : List (Term × Ty)) (other : Term) (f : Term → Term)
    → Resting other → AllResting (in_clauses cs) → ((c : Term) → Resting c → Resting (f c))
    → Resting (clause_for p v cs other f)
clause_rests p v [] other f h cs g = h
clause_rests p v (c ∷ cs) other f h (next_rest i is) g =
    go (has_type p v c.1) (clause_rests p v cs other f h is g)
  where
    go : (b : Bool) → Resting (clause_for p v cs other f)
        → Resting (if b then f c.0 else clause_for p v cs other f)
    go true k = g c.0 i
    go false k = k

finally_rests : (last : Option Term) (n : Term) → AllResting (option_to_list last) → Resting n
    → Resting (finally_then last n)
finally_rests None n ls h = h
finally_rests (Some last) n (next_rest l ls) h = then_rests last n l h

rested_trying : (p : Program) (x : ℕ) (cs : List (Term × Ty)) (last : Option Term) (a : Term)
    (st : Standing) → standing a ≡ st → Proper a → AllResting (in_clauses cs)
    → AllResting (option_to_list last) → Rested (trying p x cs last st)
rested_trying p x cs last a (at_value v) e h hc hl =
    finally_rests last (term.Value v) hl
    (rest_term (value_proper (subst Proper (is_value a v e) h)))
rested_trying p x cs last a (at_throw v) e h hc hl =
    let i = throw_proper (subst Proper (is_throw a v e) h) in
    finally_rests last _ hl
    (clause_rests p v cs (throw_of v) (substituted x v) (throw_rests i) hc
    (λ c k. substituted_rests x v i k))
rested_trying p x cs last a open_yet e h hc hl = tt

rested_deep : (p : Program) (n : ℕ) → Rested (too_deep p n)
rested_deep p n =
    rested_if (nat_le n 100) stuck (throwing p p.built_in.depth_exceeded) tt
    (rested_throwing p p.built_in.depth_exceeded)

rested_item : (items : Items) (k : ℕ) (next : Value → Term)
    → ((v : Value) → RestingValue v → Resting (next v)) → Rested (by_item items k next)
rested_item (numbers_from first count) k next h = h _ (number_rests _)
rested_item (elements_from base count) k next h = h
rested_item no_items k next h = tt

-- a generator over what is left
for_rests : (o : Order) (s : Span) (x : ℕ) (source : Value) (b : Term) → RestingValue source
    → Resting b → Resting (For o s x (term.Value source) b)
for_rests o s x source b h i =
    rests_at _ _ (outs-For o s x (term.Value source) b) tt tt
    (next_rest (rest_term h) (next_rest i no_rests)) no_resting_values

rested_for : (o : Order) (items : Items) (k n x : ℕ) (source : Value) (b : Term)
    → RestingValue source → Resting b → Rested (for_items o items k n x source b)
rested_for o items k zero x source b h i = rest_term unit_rests
rested_for order.Seq items k (suc n) x source b h i =
    rested_item items k _
    (λ item j. then_rests _ _ (substituted_rests x item j i)
    (for_rests order.Seq (span.Part (k + 1) n) x source b h i))
rested_for order.Parallel items k (suc zero) x source b h i =
    rested_item items k _ (λ item j. substituted_rests x item j i)
rested_for order.Parallel items k (suc (suc n)) x source b h i =
    rests_at _ _ (outs-ForHalves _ _) tt tt
    (next_rest (for_rests order.Parallel _ x source b h i)
    (next_rest (for_rests order.Parallel _ x source b h i) no_rests)) no_resting_values

reduce_rests : (o : Order) (s : Span) (set : SetId) (empty : Term) (x : ℕ) (source : Value)
    (b : Term) → RestingValue source → Resting empty → Resting b
    → Resting (Reduce o s set empty x (term.Value source) b)
reduce_rests o s set empty x source b h e i =
    rests_at _ _ (outs-Reduce o s set empty x (term.Value source) b) tt tt
    (next_rest e (next_rest (rest_term h) (next_rest i no_rests))) no_resting_values

halves_rest : (o : Order) (set : SetId) (a b : Term) → Resting a → Resting b
    → Resting (reduced_halves o set a b)
halves_rest order.Parallel set a b ha hb =
    rests_at _ _ (outs-ReduceHalves set a b) tt tt (next_rest ha (next_rest hb no_rests))
    no_resting_values
halves_rest order.Seq set a b ha hb =
    rests_at _ _ (outs-Operator set (a ∷ b ∷ [])) tt tt (next_rest ha (next_rest hb no_rests))
    no_resting_values

rested_reduce : (o : Order) (items : Items) (k n : ℕ) (set : SetId) (empty : Term) (x : ℕ)
    (source : Value) (b : Term) → RestingValue source → Resting empty → Resting b
    → Rested (reduce_items o items k n set empty x source b)
rested_reduce o items k zero set empty x source b h e i = e
rested_reduce o items k (suc zero) set empty x source b h e i =
    rested_item items k _ (λ item j. substituted_rests x item j i)
rested_reduce o items k (suc (suc n)) set empty x source b h e i =
    halves_rest o set _ _ (reduce_rests o _ set empty x source b h e i)
    (reduce_rests o _ set empty x source b h e i)

rested_spanned : (s : Span) (items : Items) (f : ℕ → ℕ → Act) → ((k n : ℕ) → Rested (f k n))
    → Rested (spanned s items f)
rested_spanned (span.Part k n) items f h = h k n
rested_spanned span.Whole (numbers_from first count) f h = h 0 count
rested_spanned span.Whole (elements_from base count) f h = h 0 count
rested_spanned span.Whole no_items f h = tt

two_proper : {a b : Term} → AllProper (a ∷ b ∷ []) → Proper a × Proper b
two_proper (next_proper h (next_proper i hs)) = (h, i)

two_rest : {a b : Term} → AllResting (a ∷ b ∷ []) → Resting a × Resting b
two_rest (next_rest h (next_rest i hs)) = (h, i)

first_of_rest : {a : Term} {ts : List Term} → AllResting (a ∷ ts) → Resting a × AllResting ts
first_of_rest (next_rest h hs) = (h, hs)

three_proper : {a b c : Term} → AllProper (a ∷ b ∷ c ∷ []) → Proper a × Proper b × Proper c
three_proper (next_proper h (next_proper i (next_proper j hs))) = (h, i, j)

rests_front : (xs ys : List Term) → AllResting (xs ++ ys) → AllResting xs × AllResting ys
rests_front [] ys h = (no_rests, h)
rests_front (x ∷ xs) ys (next_rest h hs) = let i = rests_front xs ys hs in (next_rest h i.0, i.1)

-- each form goes on properly
rested_act : (p : Program) (t : Term) (y : Term-F Term Value Closure) → Propers y
    → Rested (act_at p y)
rested_act p t (Term-F.Call set arguments) h = rested_once arguments (calls set) h.going (λ vs i. i)
rested_act p t (Term-F.Operator set operands) h =
    rested_all operands (calls set) h.going (λ vs i. i)
rested_act p t (Term-F.Apply f a) h = rested_once (f ∷ a ∷ []) applying h.going rested_applying
rested_act p t (Term-F.Fill ty n a) h =
    let q = two_proper h.going
    in rested_after n _ q.0
    (λ size i. rested_after a _ q.1 (λ v j. rested_filling p ty v (out-Value size)))
rested_act p t (Term-F.Let xs a b) h =
    rested_after a _ (one_proper h.going)
    (λ v i. rested_binding (bound_to xs v) b (bound_rest xs v i) (one_rest h.rests))
rested_act p t (Term-F.Mutable x ty a b) h =
    rested_after a _ (one_proper h.going) (λ v i l. located_rests x l (one_rest h.rests))
rested_act p t (Term-F.Read x) h = rested_reading (location_of x)
rested_act p t (Term-F.Write x a) h =
    rested_after a _ (one_proper h.going) (λ v i. rested_writing (location_of x) v)
rested_act p t (Term-F.ReadField o f) h =
    rested_after o _ (one_proper h.going) (λ v i. rested_reading (field_of p f (out-Value v)))
rested_act p t (Term-F.WriteField o f a) h =
    let q = two_proper h.going
    in rested_after o _ q.0
    (λ v i. rested_after a _ q.1 (λ w j. rested_writing (field_of p f (out-Value v)) w))
rested_act p t (Term-F.ReadElement a i) h =
    let q = two_proper h.going
    in rested_after a _ q.0
    (λ v k. rested_after i _ q.1
    (λ w j. rested_element p (out-Value v) (out-Value w) reading_at rested_reading))
rested_act p t (Term-F.WriteElement a i b) h =
    let q = three_proper h.going in
    rested_after a _ q.0
    (λ v k. rested_after i _ q.1
    (λ w m. rested_after b _ q.2
    (λ u j. rested_element p (out-Value v) (out-Value w) (λ l. writing_at l u)
    (λ l. rested_writing l u))))
rested_act p t (Term-F.Size a) h =
    rested_after a _ (one_proper h.going) (λ v i. rested_sizing (out-Value v))
rested_act p t (Term-F.Then a b) h = rested_after a _ (one_proper h.going) (λ v i. one_rest h.rests)
rested_act p t (Term-F.If c a b) h =
    let q = two_rest h.rests
    in rested_after c _ (one_proper h.going) (λ v i. rested_choosing (out-Value v) a b q.0 q.1)
rested_act p t (Term-F.While c b) h =
    let q = two_rest h.rests in
    let again =
    rests_at (While c b) _ (outs-While c b) tt tt (next_rest q.0 (next_rest q.1 no_rests))
    no_resting_values in
    let body =
    rests_at (Then b (While c b)) _ (outs-Then b (While c b)) tt tt
    (next_rest q.1 (next_rest again no_rests)) no_resting_values in
    rests_at _ _ (outs-If c (Then b (While c b)) (term.Value unit)) tt tt
    (next_rest q.0 (next_rest body (next_rest (rest_term unit_rests) no_rests)))
    no_resting_values
rested_act p t (Term-F.Typecase x a cs b) h =
    let q = first_of_rest h.rests in
    rested_after a _ (one_proper h.going)
    (λ v i. clause_rests p v cs (substituted x v b) (substituted x v)
    (substituted_rests x v i q.0) q.1 (λ c k. substituted_rests x v i k))
rested_act p t (Term-F.For o s x a b) h =
    rested_after a _ (one_proper h.going)
    (λ v i. rested_spanned s (items_at (out-Value v)) _
    (λ k n. rested_for o (items_at (out-Value v)) k n x v b i (one_rest h.rests)))
rested_act p t (Term-F.ForHalves a b) h =
    rested_once (a ∷ b ∷ []) _ h.going (λ vs i. rest_term unit_rests)
rested_act p t (Term-F.Reduce o s set empty x a b) h =
    let q = two_rest h.rests in
    rested_after a _ (one_proper h.going)
    (λ v i. rested_spanned s (items_at (out-Value v)) _
    (λ k n. rested_reduce o (items_at (out-Value v)) k n set empty x v b i q.0 q.1))
rested_act p t (Term-F.ReduceHalves set a b) h =
    rested_once (a ∷ b ∷ []) (calls set) h.going (λ vs i. i)
rested_act p t (Term-F.Also blocks) h = rested_once blocks _ h.going (λ vs i. rest_term unit_rests)
rested_act p t (Term-F.Throw a) h = rested_after a _ (one_proper h.going) (λ v i. tt)
rested_act p t (Term-F.Try a x cs last) h =
    let q = rests_front (option_to_list last) (in_clauses cs) h.rests
    in rested_trying p x cs last a (standing a) refl (one_proper h.going) q.1 q.0
rested_act p t (Term-F.Group parts) h = rested_once parts _ h.going (λ vs i. rested_deep p _)
rested_act p t (Term-F.Fn c) h = rested_if (holds_all c) _ stuck (rested_deep p _) tt
rested_act p t _ h = tt

text_rests : (s : List ℕ) → RestingValue (Text s)
text_rests s = value_at_rest (Text s) _ (outs-Text s) no_rests no_resting_values

rested_answer : (p : Program) (a : Answer) → AnswerRests a → Rested (by_answer p a)
rested_answer p (gives v) h = rest_term h
rested_answer p (makes_text s) h = rest_term (text_rests s)
rested_answer p (throws id) h = rested_throwing p id
rested_answer p (prints s) h = rest_term unit_rests
rested_answer p ends h = tt
rested_answer p nothing h = tt

by_number_rests : (n : ℕ) (vs : List Value) → AllRestingValues vs → HeldRest (by_number n vs)
by_number_rests n [] h = no_resting_values
by_number_rests n (v ∷ vs) (next_resting_value h hs) =
    next_resting_value h (by_number_rests (n + 1) vs hs)

rested_new : (id : TypeId) (vs : List Value) (o : Option CoreShape) → Rested (constructing id vs o)
rested_new id vs (Some s) = λ l. rest_term (object_rests id (record { 0 = l }))
rested_new id vs None = tt

rested_body : (p : Program) → ProperProgram p → (b : CoreBody) (vs : List Value)
    → AllRestingValues vs → ((t : Term) → b ≡ body.Plain t → Resting t) → Rested (by_body p b vs)
rested_body p o (body.Plain t) vs h k =
    rests_with (by_number 0 vs) t (by_number_rests 0 vs h) (k t refl)
rested_body p o (body.Primitive f) vs h k = rested_answer p (answer_of p f vs) (answer_rests p f vs)
rested_body p o body.Abstract vs h k = tt
rested_body p o (body.New id) vs h k = rested_new id vs (slice_get p.shapes id.0)

pub rested_acts : (p : Program) → ProperProgram p → (t : Term) (x : Act) → Proper t → Acts p t x
    → Rested x
rested_acts p o t x h (by_itself e) = subst Rested e (rested_act p t (out-Term t) (propers_of h))
rested_acts p o t x h (by_call {values = vs} {d = d} {decl = decl} e k i) =
    subst Rested i
    (rested_body p o decl.body vs (subst Rested e (rested_act p t (out-Term t) (propers_of h)))
    (λ b q. o.bodies d decl b k.most_specific.applicable.is_decl q))
