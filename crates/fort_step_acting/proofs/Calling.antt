-- A form whose act is a call of values is that call; where it stands in a term in which each call
-- has its one definition, it runs a declaration.
use Rattle.std.proofs.Common.{◌≡◌, ℕ, zero, suc, ◌+◌, Bool, true, false, List, [], ◌∷◌, map, Option, Some, None, refl, ap, sym, ◌∙◌, subst, if◌then◌else◌, pos, negsuc}
use Rattle.std.specs.Prelude.{nat_le, nat_lt}
use Rattle.fort_base.specs.declared.ids.SetId.{SetId}
use Rattle.fort_base.specs.declared.ids.TypeId.{TypeId}
use Rattle.fort_base.specs.declared.ty.Ty.{Ty}
use Rattle.fort_core.specs.declared.form.Order.{Order}
use Rattle.fort_core.specs.declared.form.Order.TheVariants as order
use Rattle.fort_core.specs.declared.form.Span.{Span}
use Rattle.fort_core.specs.declared.form.Span.TheVariants as span
use Rattle.fort_core.specs.declared.program.Program.{Program}
use Rattle.fort_core.specs.declared.term.Term.{Term, Call, Operator, ReduceHalves, out-Term}
use Rattle.fort_core.specs.declared.term.Term as term
use Rattle.fort_core.specs.declared.term.Term.TheOpen.{Term-F, Value-F}
use Rattle.fort_core.specs.declared.term.Term.TheVariants.{rolls-Call, rolls-Operator, rolls-ReduceHalves}
use Rattle.fort_core.specs.declared.value.Closure.{Closure}
use Rattle.fort_core.specs.declared.value.Value.{Value, out-Value}
use Rattle.fort_machine.specs.Primitives.{ValueKind}
use Rattle.fort_machine.specs.Ends.{Standing, at_value, at_throw, open_yet, standing, has_stepped}
use Rattle.fort_machine.specs.Scopes.{holds_all}
use Rattle.fort_machine.specs.Substitution.{bound_to}
use Rattle.fort_machine.specs.Acts.{Act, stuck, calls, single, throws_object, throwing, by_standing, after, after_all, Together, at_values, leftmost, some_still, some_open, with_first, standing_together, by_together, once_all}
use Rattle.fort_machine.specs.Generators.{Items, numbers_from, elements_from, no_items, items_at, by_item, for_items, reduce_items, spanned}
use Rattle.fort_machine.specs.Forms.{entering, applying_to, applying, filling, binding, reading_at, writing_at, location_of, field_of, by_element, sizing, choosing, trying, too_deep, act, act_at}
use Rattle.fort_machine.specs.Frames.{Frame, plug}
use Rattle.fort_machine.specs.Parts.{Inside}
use Rattle.fort_machine.specs.Parts as parts
use Rattle.fort_machine.specs.OneDefinition.{Within, itself, in_term, IsCall, of_set, of_operator, of_halves, IsOne}
use Rattle.fort_machine.proofs.Inside.{inside_plug}
use Rattle.fort_machine.proofs.Resting.{is_value}
use Rattle.fort_machine.proofs.Standing.{rolled}
use Rattle.fort_step_acting.specs.Only.{CallsRun}

-- ---- the other forms call nothing

abbrev Uncalled : Act → Type 0
Uncalled (calls set vs) = ⊥
Uncalled _ = Unit {0}

abbrev IsOther : Term-F Term Value Closure → Type 0
IsOther (Term-F.Call set ts) = ⊥
IsOther (Term-F.Operator set ts) = ⊥
IsOther (Term-F.ReduceHalves set a b) = ⊥
IsOther _ = Unit {0}

none_standing : (st : Standing) (k : Value → Act) → ((v : Value) → Uncalled (k v))
    → Uncalled (by_standing st k)
none_standing (at_value v) k h = h v
none_standing (at_throw v) k h = tt
none_standing open_yet k h = tt

none_after : (a : Term) (k : Value → Act) → ((v : Value) → Uncalled (k v)) → Uncalled (after a k)
none_after a k h = none_standing (standing a) k h

none_together : (g : Together) (k : List Value → Act) → ((vs : List Value) → Uncalled (k vs))
    → Uncalled (by_together g k)
none_together (at_values vs) k h = h vs
none_together (leftmost v) k h = tt
none_together some_still k h = tt
none_together some_open k h = tt

none_once : (ts : List Term) (k : List Value → Act) → ((vs : List Value) → Uncalled (k vs))
    → Uncalled (once_all ts k)
none_once ts k h = none_together (standing_together ts) k h

none_object : (o : Option Value) → Uncalled (throws_object o)
none_object (Some v) = tt
none_object None = tt

none_throwing : (p : Program) (id : TypeId) → Uncalled (throwing p id)
none_throwing p id = none_object (single p id)

none_entering : (c : Closure) (o : Option (List (ℕ × Value))) → Uncalled (entering c o)
none_entering c (Some hs) = tt
none_entering c None = tt

none_apply : (k : ValueKind) (v : Value) → Uncalled (applying_to k v)
none_apply (Value-F.Function c) v = none_entering c (bound_to c.parameters v)
none_apply _ v = tt

none_applying : (vs : List Value) → Uncalled (applying vs)
none_applying [] = tt
none_applying (f ∷ []) = tt
none_applying (f ∷ v ∷ []) = none_apply (out-Value f) v
none_applying (f ∷ v ∷ w ∷ vs) = tt

none_filling : (p : Program) (ty : Ty) (v : Value) (k : ValueKind) → Uncalled (filling p ty v k)
none_filling p ty v (Value-F.Small (pos n)) = tt
none_filling p ty v (Value-F.Small (negsuc n)) = none_throwing p p.built_in.negative_size
none_filling p ty v _ = tt

none_binding : (o : Option (List (ℕ × Value))) (b : Term) → Uncalled (binding o b)
none_binding (Some hs) b = tt
none_binding None b = tt

none_reading : (o : Option ℕ) → Uncalled (reading_at o)
none_reading (Some l) = tt
none_reading None = tt

none_writing : (o : Option ℕ) (v : Value) → Uncalled (writing_at o v)
none_writing (Some l) v = tt
none_writing None v = tt

none_if : (b : Bool) (x y : Act) → Uncalled x → Uncalled y → Uncalled (if b then x else y)
none_if true x y gx gy = gx
none_if false x y gx gy = gy

none_element : (p : Program) (k m : ValueKind) (f : Option ℕ → Act)
    → ((o : Option ℕ) → Uncalled (f o)) → Uncalled (by_element p k m f)
none_element p (Value-F.Array element base size) (Value-F.Small (pos i)) f h =
    none_if (nat_lt i size) _ _ (h (Some (base.0 + i)))
    (none_throwing p p.built_in.index_out_of_range)
none_element p (Value-F.Array element base size) (Value-F.Small (negsuc i)) f h =
    none_throwing p p.built_in.index_out_of_range
none_element p _ _ f h = tt

none_sizing : (k : ValueKind) → Uncalled (sizing k)
none_sizing (Value-F.Array element base size) = tt
none_sizing _ = tt

none_choosing : (k : ValueKind) (a b : Term) → Uncalled (choosing k a b)
none_choosing (Value-F.Truth true) a b = tt
none_choosing (Value-F.Truth false) a b = tt
none_choosing _ a b = tt

none_trying : (p : Program) (x : ℕ) (cs : List (Term × Ty)) (last : Option Term) (st : Standing)
    → Uncalled (trying p x cs last st)
none_trying p x cs last (at_value v) = tt
none_trying p x cs last (at_throw v) = tt
none_trying p x cs last open_yet = tt

none_deep : (p : Program) (n : ℕ) → Uncalled (too_deep p n)
none_deep p n =
    none_if (nat_le n 100) stuck (throwing p p.built_in.depth_exceeded) tt
    (none_throwing p p.built_in.depth_exceeded)

none_item : (items : Items) (k : ℕ) (next : Value → Term) → Uncalled (by_item items k next)
none_item (numbers_from first count) k next = tt
none_item (elements_from base count) k next = tt
none_item no_items k next = tt

none_for : (o : Order) (items : Items) (k n x : ℕ) (source : Value) (b : Term)
    → Uncalled (for_items o items k n x source b)
none_for o items k zero x source b = tt
none_for order.Seq items k (suc n) x source b = none_item items k _
none_for order.Parallel items k (suc zero) x source b = none_item items k _
none_for order.Parallel items k (suc (suc n)) x source b = tt

none_reduce : (o : Order) (items : Items) (k n : ℕ) (set : SetId) (empty : Term) (x : ℕ)
    (source : Value) (b : Term) → Uncalled (reduce_items o items k n set empty x source b)
none_reduce o items k zero set empty x source b = tt
none_reduce o items k (suc zero) set empty x source b = none_item items k _
none_reduce o items k (suc (suc n)) set empty x source b = tt

none_spanned : (s : Span) (items : Items) (f : ℕ → ℕ → Act) → ((k n : ℕ) → Uncalled (f k n))
    → Uncalled (spanned s items f)
none_spanned (span.Part k n) items f h = h k n
none_spanned span.Whole (numbers_from first count) f h = h 0 count
none_spanned span.Whole (elements_from base count) f h = h 0 count
none_spanned span.Whole no_items f h = tt

none_act : (p : Program) (y : Term-F Term Value Closure) → IsOther y → Uncalled (act_at p y)
none_act p (Term-F.Apply f a) h = none_once (f ∷ a ∷ []) applying none_applying
none_act p (Term-F.Fill ty n a) h =
    none_after n _ (λ size. none_after a _ (λ v. none_filling p ty v (out-Value size)))
none_act p (Term-F.Let xs a b) h = none_after a _ (λ v. none_binding (bound_to xs v) b)
none_act p (Term-F.Mutable x ty a b) h = none_after a _ (λ v. tt)
none_act p (Term-F.Read x) h = none_reading (location_of x)
none_act p (Term-F.Write x a) h = none_after a _ (λ v. none_writing (location_of x) v)
none_act p (Term-F.ReadField o f) h =
    none_after o _ (λ v. none_reading (field_of p f (out-Value v)))
none_act p (Term-F.WriteField o f a) h =
    none_after o _ (λ v. none_after a _ (λ w. none_writing (field_of p f (out-Value v)) w))
none_act p (Term-F.ReadElement a i) h =
    none_after a _
    (λ v. none_after i _ (λ w. none_element p (out-Value v) (out-Value w) reading_at none_reading))
none_act p (Term-F.WriteElement a i b) h =
    none_after a _
    (λ v. none_after i _
    (λ w. none_after b _
    (λ u. none_element p (out-Value v) (out-Value w) (λ l. writing_at l u)
    (λ l. none_writing l u))))
none_act p (Term-F.Size a) h = none_after a _ (λ v. none_sizing (out-Value v))
none_act p (Term-F.Then a b) h = none_after a _ (λ v. tt)
none_act p (Term-F.If c a b) h = none_after c _ (λ v. none_choosing (out-Value v) a b)
none_act p (Term-F.While c b) h = tt
none_act p (Term-F.Typecase x a cs b) h = none_after a _ (λ v. tt)
none_act p (Term-F.For o s x a b) h =
    none_after a _
    (λ v. none_spanned s (items_at (out-Value v)) _
    (λ k n. none_for o (items_at (out-Value v)) k n x v b))
none_act p (Term-F.ForHalves a b) h = none_once (a ∷ b ∷ []) _ (λ vs. tt)
none_act p (Term-F.Reduce o s set empty x a b) h =
    none_after a _
    (λ v. none_spanned s (items_at (out-Value v)) _
    (λ k n. none_reduce o (items_at (out-Value v)) k n set empty x v b))
none_act p (Term-F.Also blocks) h = none_once blocks _ (λ vs. tt)
none_act p (Term-F.Throw a) h = none_after a _ (λ v. tt)
none_act p (Term-F.Try a x cs last) h = none_trying p x cs last (standing a)
none_act p (Term-F.Group parts) h = none_once parts _ (λ vs. none_deep p _)
none_act p (Term-F.Fn c) h = none_if (holds_all c) _ stuck (none_deep p _) tt
none_act p (Term-F.Call set ts) h = absurd h
none_act p (Term-F.Operator set ts) h = absurd h
none_act p (Term-F.ReduceHalves set a b) h = absurd h
none_act p _ h = tt

-- ---- the forms that call go on by the values of all their parts

abbrev IsCalling : Act → Type 0
IsCalling (calls set vs) = Unit {0}
IsCalling _ = ⊥

-- parts that all are values, by which a form goes on as an act
record OfValues (ts : List Term) (k : List Value → Act) (x : Act) : Type 0 where
  values : List Value
  are : ts ≡ map term.Value values
  goes : k values ≡ x

in_order : (ts : List Term) (k : List Value → Act) (x : Act) → after_all ts k ≡ x → IsCalling x
    → OfValues ts k x
in_order [] k x e c = record { values = []; are = refl; goes = e }
in_order (t ∷ ts) k x e c = go (standing t) refl e (λ v q. in_order ts (λ vs. k (v ∷ vs)) x q c)
  where
    go : (st : Standing) → standing t ≡ st
        → by_standing st (λ v. after_all ts (λ vs. k (v ∷ vs))) ≡ x
        → ((v : Value) → after_all ts (λ vs. k (v ∷ vs)) ≡ x → OfValues ts (λ vs. k (v ∷ vs)) x)
        → OfValues (t ∷ ts) k x
    go (at_value v) q w rest =
        let r = rest v w
        in record { values = v ∷ r.values; are = λ i. is_value t v q i ∷ r.are i; goes = r.goes }
    go (at_throw v) q w rest = absurd (subst IsCalling (sym w) c)
    go open_yet q w rest = absurd (subst IsCalling (sym w) c)

first_values : (t : Term) (ts : List Term) (st : Standing) (marked : Bool) (g : Together)
    (vs : List Value) → standing t ≡ st → with_first st marked g ≡ at_values vs
    → ((ws : List Value) → g ≡ at_values ws → ts ≡ map term.Value ws) → t ∷ ts ≡ map term.Value vs
first_values t ts (at_value v) marked (at_values ws) vs q e h =
    let z : at_values (v ∷ ws) ≡ at_values vs = e in
    let y : v ∷ ws ≡ vs = cc in
    (λ i. is_value t v q i ∷ h ws refl i) ∙ ap (map term.Value) y
first_values t ts (at_value v) marked (leftmost w) vs q e h = absurd cc
first_values t ts (at_value v) marked some_still vs q e h = absurd cc
first_values t ts (at_value v) marked some_open vs q e h = absurd cc
first_values t ts (at_throw v) marked (at_values ws) vs q e h = absurd cc
first_values t ts (at_throw v) marked (leftmost w) vs q e h = absurd cc
first_values t ts (at_throw v) marked some_still vs q e h = absurd cc
first_values t ts (at_throw v) marked some_open vs q e h = absurd cc
first_values t ts open_yet true g vs q e h = absurd cc
first_values t ts open_yet false (at_values ws) vs q e h = absurd cc
first_values t ts open_yet false (leftmost w) vs q e h = absurd cc
first_values t ts open_yet false some_still vs q e h = absurd cc
first_values t ts open_yet false some_open vs q e h = absurd cc

all_values : (ts : List Term) (vs : List Value) → standing_together ts ≡ at_values vs
    → ts ≡ map term.Value vs
all_values [] vs e = let z : [] ≡ vs = cc in ap (map term.Value) z
all_values (t ∷ ts) vs e =
    first_values t ts (standing t) (has_stepped t) (standing_together ts) vs refl e
    (λ ws q. all_values ts ws q)

together : (ts : List Term) (k : List Value → Act) (x : Act) → once_all ts k ≡ x → IsCalling x
    → OfValues ts k x
together ts k x e c = go (standing_together ts) refl e
  where
    go : (g : Together) → standing_together ts ≡ g → by_together g k ≡ x → OfValues ts k x
    go (at_values vs) q w = record { values = vs; are = all_values ts vs q; goes = w }
    go (leftmost v) q w = absurd (subst IsCalling (sym w) c)
    go some_still q w = absurd (subst IsCalling (sym w) c)
    go some_open q w = absurd (subst IsCalling (sym w) c)

-- these are the values of the call
the_set : (ts : List Term) (s set : SetId) (vs : List Value) → OfValues ts (calls s) (calls set vs)
    → (s ≡ set) × (ts ≡ map term.Value vs)
the_set ts s set vs r =
    let z : calls s r.values ≡ calls set vs = r.goes in
    let y : r.values ≡ vs = cc in
    (cc, r.are ∙ ap (map term.Value) y)

two_values : (a b : Term) (vs : List Value) → a ∷ b ∷ [] ≡ map term.Value vs
    → (v : Value) × (w : Value) × (vs ≡ v ∷ w ∷ []) × (a ≡ term.Value v) × (b ≡ term.Value w)
two_values a b [] e = absurd cc
two_values a b (v ∷ []) e = absurd cc
two_values a b (v ∷ w ∷ []) e = (v, w, refl, cc, cc)
two_values a b (v ∷ w ∷ u ∷ vs) e = absurd cc

pub called_is : (p : Program) (t : Term) (set : SetId) (vs : List Value) → act p t ≡ calls set vs
    → IsCall t set vs
called_is p t set vs e = go (out-Term t) refl
  where
    by : (y : Term-F Term Value Closure) → out-Term t ≡ y → act_at p y ≡ calls set vs
    by y q = ap (act_at p) (sym q) ∙ e

    other : (y : Term-F Term Value Closure) → out-Term t ≡ y → IsOther y → IsCall t set vs
    other y q h = absurd (subst Uncalled (by y q) (none_act p y h))

    go : (y : Term-F Term Value Closure) → out-Term t ≡ y → IsCall t set vs
    go (Term-F.Call s ts) q =
        let h = the_set ts s set vs
        (together ts (calls s) (calls set vs) (by (Term-F.Call s ts) q) tt) in
        of_set (rolled t _ q ∙ rolls-Call s ts ∙ (λ i. Call (h.0 i) (h.1 i)))
    go (Term-F.Operator s ts) q =
        let h = the_set ts s set vs
        (in_order ts (calls s) (calls set vs) (by (Term-F.Operator s ts) q) tt) in
        of_operator (rolled t _ q ∙ rolls-Operator s ts ∙ (λ i. Operator (h.0 i) (h.1 i)))
    go (Term-F.ReduceHalves s a b) q =
        let h = the_set (a ∷ b ∷ []) s set vs
        (together (a ∷ b ∷ []) (calls s) (calls set vs) (by (Term-F.ReduceHalves s a b) q) tt)
        in
        let w = two_values a b vs h.1 in
        of_halves w.0 w.1 w.2 (rolled t _ q ∙ rolls-ReduceHalves s a b
        ∙ (λ i. ReduceHalves (h.0 i) (w.3 i) (w.4 i)))
    go y q = other y q tt

-- ---- in a term in which each call has its one definition

stands_within : (u t : Term) → Inside u t → Within u t
stands_within u t (parts.Inside.itself e) = itself e
stands_within u t (parts.Inside.in_part a i h) = in_term i (stands_within u a h)

pub one_runs : (p : Program) (fs : List Frame) (a t : Term) → IsOne p t → t ≡ plug fs a
    → standing a ≡ open_yet → CallsRun p a
one_runs p fs a t one is waits set vs e =
    let d = one a set vs
    (stands_within a t
    (subst (Inside a) (sym is) (inside_plug a fs a waits (parts.Inside.itself refl))))
    (called_is p a set vs e) in
    (d.number, d.decl, d.runs)
