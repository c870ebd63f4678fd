-- Each pick costs something.
use Rattle.std.proofs.Common.{◌≡◌, ℕ, zero, suc, ◌+◌, ◌<◌, ◌≤◌, Bool, true, false, List, [], ◌∷◌, length, Option, Some, None, ap, sym, subst, arith, if◌then◌else◌, pos, negsuc}
use Rattle.std.specs.Prelude.{nat_le, nat_lt}
use Rattle.fort_base.specs.declared.ids.SetId.{SetId}
use Rattle.fort_base.specs.declared.ids.TypeId.{TypeId}
use Rattle.fort_base.specs.declared.ty.Ty.{Ty}
use Rattle.fort_core.specs.declared.form.Mode.{Mode}
use Rattle.fort_core.specs.declared.form.Order.{Order}
use Rattle.fort_core.specs.declared.form.Order.TheVariants as order
use Rattle.fort_core.specs.declared.form.Span.{Span}
use Rattle.fort_core.specs.declared.form.Span.TheVariants as span
use Rattle.fort_core.specs.declared.pick.Pick.{Pick}
use Rattle.fort_core.specs.declared.program.CoreBody.{CoreBody}
use Rattle.fort_core.specs.declared.program.CoreBody.TheVariants as body
use Rattle.fort_core.specs.declared.program.CoreShape.{CoreShape}
use Rattle.fort_core.specs.declared.program.Program.{Program}
use Rattle.fort_core.specs.declared.term.Term.{Term, out-Term}
use Rattle.fort_core.specs.declared.term.Term.TheOpen.{Term-F, Value-F}
use Rattle.fort_core.specs.declared.value.Value.{Value, out-Value}
use Rattle.fort_core.specs.declared.value.Closure.{Closure}
use Rattle.fort_machine.specs.Primitives.{ValueKind, Answer, gives, makes_text, throws, prints, ends, nothing, answer_of}
use Rattle.fort_machine.specs.Effects.{Effect, afterwards}
use Rattle.fort_machine.specs.Ends.{Standing, at_value, at_throw, open_yet, standing}
use Rattle.fort_machine.specs.Frames.{plug, trodden}
use Rattle.fort_machine.specs.Scopes.{holds_all}
use Rattle.fort_machine.specs.Substitution.{bound_to}
use Rattle.fort_machine.specs.Acts.{Act, stuck, turns, enters, asks, sets, makes, calls, single, throws_object, throwing, by_standing, after, after_all, Together, at_values, leftmost, some_still, some_open, standing_together, by_together, once_all}
use Rattle.fort_machine.specs.Acts as acts
use Rattle.fort_machine.specs.Generators.{Items, numbers_from, elements_from, no_items, items_at, by_item, for_items, reduce_items, spanned}
use Rattle.fort_machine.specs.Forms.{entering, applying_to, applying, filling, binding, reading_at, writing_at, location_of, field_of, by_element, sizing, choosing, trying, too_deep, act_at}
use Rattle.fort_machine.specs.Calls.{by_answer, constructing, by_body}
use Rattle.fort_machine.specs.Steps.{Acts, by_itself, by_call, Does, Local, steps}
use Rattle.fort_machine.specs.Attempts.{Ended, Closes, completed, failed, gave_up, fell_asleep}
use Rattle.fort_machine.specs.Runs.{none, step, stop, attempt}
use Rattle.fort_machine.specs.RunLaws.{PicksCost}

abbrev Costly : Act → Type 0
Costly (turns next output cost) = 0 < cost
Costly (makes vs k cost) = 0 < cost
Costly _ = Unit {0}

one : (n : ℕ) → 0 < 1 + n
one n = omega arith

costly_standing : (st : Standing) (k : Value → Act) → ((v : Value) → Costly (k v))
    → Costly (by_standing st k)
costly_standing (at_value v) k h = h v
costly_standing (at_throw v) k h = one 0
costly_standing open_yet k h = tt

costly_after : (a : Term) (k : Value → Act) → ((v : Value) → Costly (k v)) → Costly (after a k)
costly_after a k h = costly_standing (standing a) k h

costly_all : (ts : List Term) (k : List Value → Act) → ((vs : List Value) → Costly (k vs))
    → Costly (after_all ts k)
costly_all [] k h = h []
costly_all (a ∷ ts) k h =
    costly_after a _ (λ v. costly_all ts (λ vs. k (v ∷ vs)) (λ vs. h (v ∷ vs)))

costly_together : (g : Together) (k : List Value → Act) → ((vs : List Value) → Costly (k vs))
    → Costly (by_together g k)
costly_together (at_values vs) k h = h vs
costly_together (leftmost v) k h = one 0
costly_together some_still k h = tt
costly_together some_open k h = tt

costly_once : (ts : List Term) (k : List Value → Act) → ((vs : List Value) → Costly (k vs))
    → Costly (once_all ts k)
costly_once ts k h = costly_together (standing_together ts) k h

costly_object : (o : Option Value) → Costly (throws_object o)
costly_object (Some v) = one 0
costly_object None = tt

costly_throwing : (p : Program) (id : TypeId) → Costly (throwing p id)
costly_throwing p id = costly_object (single p id)

costly_entering : (c : Closure) (o : Option (List (ℕ × Value))) → Costly (entering c o)
costly_entering c (Some hs) = tt
costly_entering c None = tt

costly_apply : (k : ValueKind) (v : Value) → Costly (applying_to k v)
costly_apply (Value-F.Function c) v = costly_entering c (bound_to c.parameters v)
costly_apply _ v = tt

costly_applying : (vs : List Value) → Costly (applying vs)
costly_applying [] = tt
costly_applying (f ∷ []) = tt
costly_applying (f ∷ v ∷ []) = costly_apply (out-Value f) v
costly_applying (f ∷ v ∷ w ∷ vs) = tt

costly_filling : (p : Program) (ty : Ty) (v : Value) (k : ValueKind) → Costly (filling p ty v k)
costly_filling p ty v (Value-F.Small (pos n)) = one n
costly_filling p ty v (Value-F.Small (negsuc n)) = costly_throwing p p.built_in.negative_size
costly_filling p ty v _ = tt

costly_binding : (o : Option (List (ℕ × Value))) (b : Term) → Costly (binding o b)
costly_binding (Some hs) b = one 0
costly_binding None b = tt

costly_reading : (o : Option ℕ) → Costly (reading_at o)
costly_reading (Some l) = tt
costly_reading None = tt

costly_writing : (o : Option ℕ) (v : Value) → Costly (writing_at o v)
costly_writing (Some l) v = tt
costly_writing None v = tt

costly_if : (b : Bool) (x y : Act) → Costly x → Costly y → Costly (if b then x else y)
costly_if true x y gx gy = gx
costly_if false x y gx gy = gy

costly_element : (p : Program) (k m : ValueKind) (f : Option ℕ → Act)
    → ((o : Option ℕ) → Costly (f o)) → Costly (by_element p k m f)
costly_element p (Value-F.Array element base size) (Value-F.Small (pos i)) f h =
    costly_if (nat_lt i size) _ _ (h (Some (base.0 + i)))
    (costly_throwing p p.built_in.index_out_of_range)
costly_element p (Value-F.Array element base size) (Value-F.Small (negsuc i)) f h =
    costly_throwing p p.built_in.index_out_of_range
costly_element p _ _ f h = tt

costly_sizing : (k : ValueKind) → Costly (sizing k)
costly_sizing (Value-F.Array element base size) = one 0
costly_sizing _ = tt

costly_choosing : (k : ValueKind) (a b : Term) → Costly (choosing k a b)
costly_choosing (Value-F.Truth true) a b = one 0
costly_choosing (Value-F.Truth false) a b = one 0
costly_choosing _ a b = tt

costly_trying : (p : Program) (x : ℕ) (cs : List (Term × Ty)) (last : Option Term) (st : Standing)
    → Costly (trying p x cs last st)
costly_trying p x cs last (at_value v) = one 0
costly_trying p x cs last (at_throw v) = one 0
costly_trying p x cs last open_yet = tt

costly_deep : (p : Program) (n : ℕ) → Costly (too_deep p n)
costly_deep p n =
    costly_if (nat_le n 100) stuck (throwing p p.built_in.depth_exceeded) tt
    (costly_throwing p p.built_in.depth_exceeded)

costly_item : (items : Items) (k : ℕ) (next : Value → Term) → Costly (by_item items k next)
costly_item (numbers_from first count) k next = one 0
costly_item (elements_from base count) k next = tt
costly_item no_items k next = tt

costly_for : (o : Order) (items : Items) (k n x : ℕ) (source : Value) (b : Term)
    → Costly (for_items o items k n x source b)
costly_for o items k zero x source b = one 0
costly_for order.Seq items k (suc n) x source b = costly_item items k _
costly_for order.Parallel items k (suc zero) x source b = costly_item items k _
costly_for order.Parallel items k (suc (suc n)) x source b = one 0

costly_reduce : (o : Order) (items : Items) (k n : ℕ) (set : SetId) (empty : Term) (x : ℕ)
    (source : Value) (b : Term) → Costly (reduce_items o items k n set empty x source b)
costly_reduce o items k zero set empty x source b = one 0
costly_reduce o items k (suc zero) set empty x source b = costly_item items k _
costly_reduce o items k (suc (suc n)) set empty x source b = one 0

costly_spanned : (s : Span) (items : Items) (f : ℕ → ℕ → Act) → ((k n : ℕ) → Costly (f k n))
    → Costly (spanned s items f)
costly_spanned (span.Part k n) items f h = h k n
costly_spanned span.Whole (numbers_from first count) f h = h 0 count
costly_spanned span.Whole (elements_from base count) f h = h 0 count
costly_spanned span.Whole no_items f h = tt

costly_act : (p : Program) (y : Term-F Term Value Closure) → Costly (act_at p y)
costly_act p (Term-F.Call set arguments) = costly_once arguments (calls set) (λ vs. tt)
costly_act p (Term-F.Operator set operands) = costly_all operands (calls set) (λ vs. tt)
costly_act p (Term-F.Apply f a) = costly_once (f ∷ a ∷ []) applying costly_applying
costly_act p (Term-F.Fill ty n a) =
    costly_after n _ (λ size. costly_after a _ (λ v. costly_filling p ty v (out-Value size)))
costly_act p (Term-F.Let xs a b) = costly_after a _ (λ v. costly_binding (bound_to xs v) b)
costly_act p (Term-F.Mutable x ty a b) = costly_after a _ (λ v. one 0)
costly_act p (Term-F.Read x) = costly_reading (location_of x)
costly_act p (Term-F.Write x a) = costly_after a _ (λ v. costly_writing (location_of x) v)
costly_act p (Term-F.ReadField o f) =
    costly_after o _ (λ v. costly_reading (field_of p f (out-Value v)))
costly_act p (Term-F.WriteField o f a) =
    costly_after o _ (λ v. costly_after a _ (λ w. costly_writing (field_of p f (out-Value v)) w))
costly_act p (Term-F.ReadElement a i) =
    costly_after a _
    (λ v. costly_after i _
    (λ w. costly_element p (out-Value v) (out-Value w) reading_at costly_reading))
costly_act p (Term-F.WriteElement a i b) =
    costly_after a _
    (λ v. costly_after i _
    (λ w. costly_after b _
    (λ u. costly_element p (out-Value v) (out-Value w) (λ l. writing_at l u)
    (λ l. costly_writing l u))))
costly_act p (Term-F.Size a) = costly_after a _ (λ v. costly_sizing (out-Value v))
costly_act p (Term-F.Then a b) = costly_after a _ (λ v. one 0)
costly_act p (Term-F.If c a b) = costly_after c _ (λ v. costly_choosing (out-Value v) a b)
costly_act p (Term-F.While c b) = one 0
costly_act p (Term-F.Typecase x a cs b) = costly_after a _ (λ v. one 0)
costly_act p (Term-F.For o s x a b) =
    costly_after a _
    (λ v. costly_spanned s (items_at (out-Value v)) _
    (λ k n. costly_for o (items_at (out-Value v)) k n x v b))
costly_act p (Term-F.ForHalves a b) = costly_once (a ∷ b ∷ []) _ (λ vs. one 0)
costly_act p (Term-F.Reduce o s set empty x a b) =
    costly_after a _
    (λ v. costly_spanned s (items_at (out-Value v)) _
    (λ k n. costly_reduce o (items_at (out-Value v)) k n set empty x v b))
costly_act p (Term-F.ReduceHalves set a b) = costly_once (a ∷ b ∷ []) (calls set) (λ vs. tt)
costly_act p (Term-F.Also blocks) = costly_once blocks _ (λ vs. one 0)
costly_act p (Term-F.Throw a) = costly_after a _ (λ v. tt)
costly_act p (Term-F.Try a x cs last) = costly_trying p x cs last (standing a)
costly_act p (Term-F.Group parts) = costly_once parts _ (λ vs. costly_deep p _)
costly_act p (Term-F.Fn c) = costly_if (holds_all c) _ stuck (costly_deep p _) tt
costly_act p _ = tt

costly_answer : (p : Program) (a : Answer) → Costly (by_answer p a)
costly_answer p (gives v) = one 0
costly_answer p (makes_text s) = one (length s)
costly_answer p (throws id) = costly_throwing p id
costly_answer p (prints s) = one (length s)
costly_answer p ends = tt
costly_answer p nothing = tt

costly_new : (id : TypeId) (vs : List Value) (o : Option CoreShape) → Costly (constructing id vs o)
costly_new id vs (Some s) = one 0
costly_new id vs None = tt

costly_body : (p : Program) (b : CoreBody) (vs : List Value) → Costly (by_body p b vs)
costly_body p (body.Plain b) vs = tt
costly_body p (body.Primitive f) vs = costly_answer p (answer_of p f vs)
costly_body p body.Abstract vs = tt
costly_body p (body.New id) vs = costly_new id vs _

costly_acts : (p : Program) (a : Term) (x : Act) → Acts p a x → Costly x
costly_acts p a x (by_itself e) = subst Costly e (costly_act p (out-Term a))
costly_acts p a x (by_call {values = vs} {decl = decl} e h i) =
    subst Costly i (costly_body p decl.body vs)

cost_is : (d e : Effect) → d ≡ e → 0 < e.cost → 0 < d.cost
cost_is d e q h = subst (λ (x : Effect). 0 < x.cost) (sym q) h

costly_does : (p : Program) (inner : Bool) (loc : ℕ) (x : Act) (b : Term) (d : Effect) → Costly x
    → Does p inner loc x b d → 0 < d.cost
costly_does p inner loc stuck b d g k = absurd k
costly_does p inner loc (turns next output cost) b d g k = cost_is d _ k.2 g
costly_does p inner loc (enters c next) b d g k = cost_is d _ k.3 (one 0)
costly_does p inner loc (asks l next) b d g k = cost_is d _ k.3 (one 0)
costly_does p inner loc (sets l v) b d g k = cost_is d _ k.2 (one 0)
costly_does p inner loc (makes vs next cost) b d g k = cost_is d _ k.1 g
costly_does p inner loc (calls set vs) b d g k = absurd k
costly_does p inner loc acts.ends b d g k = cost_is d _ k.5 (one 0)

local_costs : (p : Program) (inner : Bool) (loc : ℕ) (a b : Term) (d : Effect)
    → Local p inner loc a b d → 0 < d.cost
local_costs p inner loc a b d (steps x h k) = costly_does p inner loc x b d (costly_acts p a x h) k

closes_costs : (p : Program) (m : Mode) (body b : Term) (ended : Ended) (d e : Effect)
    → Closes p m body ended d b e → 0 < e.cost
closes_costs p m body b ended d e (completed v x y z) = cost_is e _ z (one d.cost)
closes_costs p m body b ended d e (failed v x y z) = cost_is e _ z (one d.cost)
closes_costs p m body b ended d e (gave_up v x y z u w) = cost_is e _ w (one d.cost)
closes_costs p m body b ended d e (fell_asleep marks x y z o u w) = cost_is e _ w (one d.cost)

one_more : (ps rest : List Pick) (pick : Pick) (n m k : ℕ) → ps ≡ pick ∷ rest → k ≡ n + m → 0 < n
    → length rest ≤ m → length ps ≤ k
one_more ps rest pick n m k e q h i =
    let z : length ps ≡ suc (length rest) = ap length e in omega (arith, z, q, h, i)

pub picks_cost : PicksCost
picks_cost p inner strict s ps t r d (none a b c) =
    let z : length ps ≡ 0 = ap length a in omega (arith, z)
picks_cost p inner strict s ps t r d
    (step {rest = rest} {a = a} {b = b} {d1 = d1} {d2 = d2} {loc = loc} fs e c n l f k w) =
    one_more ps rest _ d1.cost d2.cost d.cost e (ap (λ
    (x : Effect). x.cost) w) (local_costs p inner loc a b d1 l)
    (picks_cost p inner strict (afterwards d1 s) rest (plug (trodden fs) b) r d2 k)
picks_cost p inner strict s ps t r d (stop fs a e c n h x w) =
    let z : length ps ≡ 1 = ap length e in let y : d.cost ≡ 1 = ap (λ (x : Effect). x.cost) w
    in omega (arith, z, y)
picks_cost p inner strict s ps t r d
    (attempt {m = m} {rest = rest} {b = b} {body = body} {ended = ended} {d1 = d1} {d2 = d2} {d3 =
    d3} fs e c n l bare may k close k' w) =
    one_more ps rest _ d2.cost d3.cost d.cost e (ap (λ
    (x : Effect). x.cost) w) (closes_costs p m body b ended d1 d2 close)
    (picks_cost p inner strict (afterwards d2 s) rest (plug (trodden fs) b) r d3 k')
