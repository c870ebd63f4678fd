-- A step puts no form to sleep but by an attempt.
use Rattle.std.proofs.Common.{◌≡◌, ℕ, zero, suc, ◌+◌, ◌==◌, Bool, true, false, ◌||◌, List, [], ◌∷◌, ◌++◌, map, Option, Some, None, refl, ap, sym, ◌∙◌, subst, ◌⊎◌, inl, inr, if◌then◌else◌, pos, negsuc}
use Rattle.std.specs.Prelude.{option_to_list, nat_le, nat_lt}
use Rattle.std.specs.List.{list_any}
use Rattle.fort_base.specs.declared.ids.SetId.{SetId}
use Rattle.fort_base.specs.declared.ids.TypeId.{TypeId}
use Rattle.fort_base.specs.declared.ty.Ty.{Ty}
use Rattle.fort_core.specs.declared.form.Order.{Order}
use Rattle.fort_core.specs.declared.form.Order.TheVariants as order
use Rattle.fort_core.specs.declared.form.Span.{Span}
use Rattle.fort_core.specs.declared.form.Span.TheVariants as span
use Rattle.fort_core.specs.declared.program.CoreBody.{CoreBody}
use Rattle.fort_core.specs.declared.program.CoreBody.TheVariants as body
use Rattle.fort_core.specs.declared.program.CoreShape.{CoreShape}
use Rattle.fort_core.specs.declared.program.Program.{Program}
use Rattle.fort_core.specs.declared.term.Term.{Term, Asleep, Write, Then, If, While, For, ForHalves, Reduce, ReduceHalves, Operator, out-Term, roll-out-Term, map-Term, para-Term, para-roll-Term, fold_out-Term}
use Rattle.fort_core.specs.declared.term.Term as term
use Rattle.fort_core.specs.declared.term.Term.TheVariants.{Variable, rolls-Value, outs-Value, outs-Throw, outs-Variable, outs-Read, outs-Write, outs-Then, outs-If, outs-While, outs-For, outs-ForHalves, outs-Reduce, outs-ReduceHalves, outs-Operator, outs-Asleep}
use Rattle.fort_core.specs.declared.term.Term.TheOpen.{Term-F, Value-F}
use Rattle.fort_core.specs.declared.value.Value.{Value, para-Value, fold-Value, out-Value}
use Rattle.fort_core.specs.declared.value.Closure.{Closure, out-Closure, roll-out-Closure, para-Closure, para-roll-Closure, fold-Closure, fold_out-Closure}
use Rattle.fort_machine.specs.Types.{has_type}
use Rattle.fort_machine.specs.Primitives.{ValueKind, Answer, gives, makes_text, throws, prints, ends, nothing, answer_of}
use Rattle.fort_machine.specs.Effects.{Effect}
use Rattle.fort_machine.specs.Ends.{Standing, at_value, at_throw, open_yet, standing, throw_of}
use Rattle.fort_machine.specs.Parts.{IsOneOf, in_clauses, parts_of, terms_in, Inside, itself, in_part}
use Rattle.fort_machine.specs.Scopes.{holds_all}
use Rattle.fort_machine.specs.Substitution.{with_value, substituted, substituted_all, at_location, with_location, closure_now, located, bound_to, held_by}
use Rattle.fort_machine.specs.Acts.{Act, stuck, turns, enters, asks, sets, makes, calls, unit, single, throws_object, throwing, by_standing, after, after_all, Together, at_values, leftmost, some_still, some_open, standing_together, by_together, once_all}
use Rattle.fort_machine.specs.Acts as acts
use Rattle.fort_machine.specs.Generators.{Items, numbers_from, elements_from, no_items, items_at, by_item, first_half, rest_half, for_items, reduced_halves, reduce_items, spanned}
use Rattle.fort_machine.specs.Forms.{entering, applying_to, applying, filling, binding, reading_at, writing_at, location_of, field_of, by_element, sizing, choosing, clause_for, finally_then, trying, too_deep, act_at}
use Rattle.fort_machine.specs.Calls.{by_answer, constructing, by_body, by_number}
use Rattle.fort_machine.specs.Marked.{Marks, dozes_at, dozes, Bare}
use Rattle.fort_machine.specs.Steps.{Acts, by_itself, by_call, Does, Local, steps}
use Rattle.fort_machine.proofs.Inside.{Sleeper}
use Rattle.fort_machine.proofs.Substituted.{parts_map, pairs, From, from_is, from_remade, from_function, plain_term, held_body, sleeper_back}

-- a value in place of a variable
module _ (x : ℕ) (v : Value) where
  abbrev pub values_by : Value → Unit {0}
  values_by = para-Value Term (Unit {0}) (Unit {0}) (with_value x v) (λ w. tt) (λ c. tt)

  abbrev pub closures_by : Closure → Unit {0}
  closures_by = para-Closure Term (Unit {0}) (Unit {0}) (with_value x v) (λ w. tt) (λ c. tt)

  pub substituted_out : (t : Term)
      → substituted x v t
      ≡ with_value x v (pairs (substituted x v) values_by closures_by (out-Term t))
  unfolding substituted
  substituted_out t =
      ap (substituted x v) (sym (roll-out-Term t))
      ∙ para-roll-Term Term (Unit {0}) (Unit {0}) (with_value x v) (λ w. tt) (λ c. tt) (out-Term t)

  pub substituted_value : (w : Value) → substituted x v (term.Value w) ≡ term.Value w
  unfolding substituted
  substituted_value w =
      ap (substituted x v) (sym (rolls-Value w))
      ∙ para-roll-Term Term (Unit {0}) (Unit {0}) (with_value x v) (λ w. tt) (λ c. tt)
      (Term-F.Value w) ∙ rolls-Value w

  of_variable : (y : ℕ) (b : Bool)
      → From (substituted x v) (Term-F.Variable y) (if b then term.Value v else Variable y)
  of_variable y true =
      plain_term (substituted x v) (Term-F.Variable y) _ _ (outs-Value v) (λ c k. k) (λ ms b e. cc)
  of_variable y false =
      plain_term (substituted x v) (Term-F.Variable y) _ _ (outs-Variable y) (λ c k. k)
      (λ ms b e. cc)

  from_form : (y : Term-F Term Value Closure)
      → From (substituted x v) y (with_value x v (pairs (substituted x v) values_by closures_by y))
  from_form (Term-F.Variable y) = of_variable y (x == y)
  from_form (Term-F.Fn c) =
      from_function (substituted x v) values_by closures_by c (held_by x v c)
      (inr (held_body x v c))
  from_form form = from_remade (substituted x v) values_by closures_by form (λ c e. cc)

  from_substituted : (t : Term) → From (substituted x v) (out-Term t) (substituted x v t)
  from_substituted t =
      from_is (substituted x v) (out-Term t) (substituted x v t) _ (substituted_out t)
      (from_form (out-Term t))

-- a location in place of a variable
module _ (x l : ℕ) where
  abbrev pub values_at : Value → Unit {0}
  values_at = para-Value Term (Unit {0}) Closure (with_location x l) (λ w. tt) closure_now

  abbrev pub closures_at : Closure → Closure
  closures_at = para-Closure Term (Unit {0}) Closure (with_location x l) (λ w. tt) closure_now

  pub located_out : (t : Term)
      → located x l t ≡ with_location x l (pairs (located x l) values_at closures_at (out-Term t))
  unfolding located
  located_out t =
      ap (located x l) (sym (roll-out-Term t))
      ∙ para-roll-Term Term (Unit {0}) Closure (with_location x l) (λ w. tt) closure_now
      (out-Term t)

  pub closure_body : (c : Closure) → (closures_at c).body ≡ located x l c.body
  unfolding located
  closure_body c =
      ap (λ (d : Closure). d.body) (ap closures_at (sym (roll-out-Closure c))
      ∙ para-roll-Closure Term (Unit {0}) Closure (with_location x l) (λ w. tt) closure_now
      (out-Closure c))

  from_place : (y : Term-F Term Value Closure)
      → From (located x l) y (with_location x l (pairs (located x l) values_at closures_at y))
  from_place (Term-F.Read y) =
      plain_term (located x l) (Term-F.Read y) _ _ (outs-Read (at_location x l y)) (λ c k. k)
      (λ ms b e. cc)
  from_place (Term-F.Write y a) = record {
    parts = λ c k. one c
        (subst (IsOneOf c) (ap terms_in (outs-Write (at_location x l y) (located x l a))) k);
    asleep = λ ms b e. let z = sym (outs-Write (at_location x l y) (located x l a)) ∙ e
        in absurd cc;
  }
    where
      one : (c : Term) → IsOneOf c (located x l a ∷ [])
          → (b : Term) × IsOneOf b (a ∷ []) × ((c ≡ located x l b) ⊎ (c ≡ b))
      one c (inl q) = (a, inl refl, inl q)
      one c (inr q) = absurd q
  from_place (Term-F.Fn c) =
      from_function (located x l) values_at closures_at c (closures_at c) (inl (closure_body c))
  from_place form = from_remade (located x l) values_at closures_at form (λ c e. cc)

  from_located : (t : Term) → From (located x l) (out-Term t) (located x l t)
  from_located t =
      from_is (located x l) (out-Term t) (located x l t) _ (located_out t) (from_place (out-Term t))

less_substituted : (marks : Marks) (x : ℕ) (v : Value) (t : Term)
    → Sleeper marks (substituted x v t) → Sleeper marks t
less_substituted marks x v t s =
    sleeper_back (substituted x v) (from_substituted x v) marks s.0 (substituted x v t) t refl s.1

less_located : (marks : Marks) (x l : ℕ) (t : Term) → Sleeper marks (located x l t)
    → Sleeper marks t
less_located marks x l t s =
    sleeper_back (located x l) (from_located x l) marks s.0 (located x l t) t refl s.1

less_all : (marks : Marks) (hs : List (ℕ × Value)) (t : Term) → Sleeper marks (substituted_all hs t)
    → Sleeper marks t
less_all marks [] t s = s
less_all marks (h ∷ hs) t s =
    less_substituted marks h.0 h.1 t (less_all marks hs (substituted h.0 h.1 t) s)

-- a term in which a form sleeps isn't bare
or_true : (b : Bool) → (b || true) ≡ true
or_true true = refl
or_true false = refl

any_true : (ts : List Term) (a : Term) → IsOneOf a ts → dozes a ≡ true
    → list_any (λ (b : Bool). b) (map dozes ts) ≡ true
any_true [] a h e = absurd h
any_true (t ∷ ts) a (inl q) e =
    ap (λ b. b || list_any (λ (b : Bool). b) (map dozes ts)) (ap dozes (sym q) ∙ e)
any_true (t ∷ ts) a (inr h) e = ap (λ b. dozes t || b) (any_true ts a h e) ∙ or_true (dozes t)

abbrev pub truths : Value → Unit {0}
truths = fold-Value Bool (Unit {0}) Bool dozes_at (λ v. tt) (λ c. c.body)

abbrev pub closure_truths : Closure → Bool
closure_truths = fold-Closure Bool (Unit {0}) Bool dozes_at (λ v. tt) (λ c. c.body)

abbrev pub dozing : Term-F Term Value Closure → Bool
dozing y = dozes_at (map-Term Term Value Closure Bool (Unit {0}) Bool dozes truths closure_truths y)

pub out_dozes : (t : Term) → dozes t ≡ dozing (out-Term t)
out_dozes t = fold_out-Term Bool (Unit {0}) Bool dozes_at (λ v. tt) (λ c. c.body) t

any_part : (y : Term-F Term Value Closure) (a : Term) → IsOneOf a (parts_of y) → dozes a ≡ true
    → list_any (λ
    (b : Bool). b)
    (parts_of (map-Term Term Value Closure Bool (Unit {0}) Bool dozes truths closure_truths y))
    ≡ true
any_part y a h e =
    ap (list_any (λ (b : Bool). b)) (parts_map dozes truths closure_truths y)
    ∙ any_true (parts_of y) a h e

part_dozes : (y : Term-F Term Value Closure) (a : Term) → IsOneOf a (terms_in y) → dozes a ≡ true
    → dozing y ≡ true
part_dozes (Term-F.Asleep marks b) a h e = refl
part_dozes (Term-F.Fn c) a (inl q) e =
    fold_out-Closure Bool (Unit {0}) Bool dozes_at (λ v. tt) (λ c. c.body) c ∙ ap dozes (sym q) ∙ e
part_dozes (Term-F.Fn c) a (inr q) e = absurd q
part_dozes form a h e = any_part form a h e

pub dozes_inside : (marks : Marks) (b t : Term) → Inside (Asleep marks b) t → dozes t ≡ true
dozes_inside marks b t (itself e) =
    out_dozes t ∙ ap dozing (ap out-Term (sym e) ∙ outs-Asleep marks b)
dozes_inside marks b t (in_part a h i) =
    out_dozes t ∙ part_dozes (out-Term t) a h (dozes_inside marks b a i)

pub bare_none : (marks : Marks) (t : Term) → Bare t → Sleeper marks t → ⊥
bare_none marks t bare s = let e = dozes_inside marks s.0 t s.1 in cc

-- what a form goes on as has no sleepers but the form's
module _ (marks : Marks) (t : Term) where
  abbrev Less : Term → Type 0
  Less next = Sleeper marks next → Sleeper marks t

  abbrev Good : Act → Type 0
  Good (turns next output cost) = Less next
  Good (enters b next) = Bare b → Less next
  Good (asks l k) = (v : Value) → Less (k v)
  Good (makes vs k cost) = (l : ℕ) → Less (k l)
  Good _ = Unit {0}

  less_by : (n : Term) (y : Term-F Term Value Closure) → out-Term n ≡ y
      → ((b : Term) → y ≡ Term-F.Asleep marks b → ⊥)
      → ((c : Term) → IsOneOf c (terms_in y) → Less c) → Less n
  less_by n y e na k (b, itself q) =
      absurd (na b (sym (sym (outs-Asleep marks b) ∙ ap out-Term q ∙ e)))
  less_by n y e na k (b, in_part c h i) = k c (subst (IsOneOf c) (ap terms_in e) h) (b, i)

  abbrev EachLess : List Term → Type 0
  EachLess [] = Unit {0}
  EachLess (a ∷ ts) = Less a × EachLess ts

  less_list : (ts : List Term) → EachLess ts → (c : Term) → IsOneOf c ts → Less c
  less_list [] ls c h = absurd h
  less_list (a ∷ ts) ls c (inl e) = subst Less (sym e) ls.0
  less_list (a ∷ ts) ls c (inr h) = less_list ts ls.1 c h

  less_value : (v : Value) → Less (term.Value v)
  less_value v = less_by (term.Value v) _ (outs-Value v) (λ b e. cc) (less_list [] tt)

  less_throw : (v : Value) → Less (throw_of v)
  less_throw v =
      less_by (throw_of v) _ (outs-Throw (term.Value v)) (λ b e. cc)
      (less_list (term.Value v ∷ []) (less_value v, tt))

  less_then : (a b : Term) → Less a → Less b → Less (Then a b)
  less_then a b la lb =
      less_by (Then a b) _ (outs-Then a b) (λ c e. cc) (less_list (a ∷ b ∷ []) (la, (lb, tt)))

  good_standing : (st : Standing) (k : Value → Act) → ((v : Value) → Good (k v))
      → Good (by_standing st k)
  good_standing (at_value v) k h = h v
  good_standing (at_throw v) k h = less_throw v
  good_standing open_yet k h = tt

  good_after : (a : Term) (k : Value → Act) → ((v : Value) → Good (k v)) → Good (after a k)
  good_after a k h = good_standing (standing a) k h

  good_all : (ts : List Term) (k : List Value → Act) → ((vs : List Value) → Good (k vs))
      → Good (after_all ts k)
  good_all [] k h = h []
  good_all (a ∷ ts) k h = good_after a _ (λ v. good_all ts (λ vs. k (v ∷ vs)) (λ vs. h (v ∷ vs)))

  good_together : (g : Together) (k : List Value → Act) → ((vs : List Value) → Good (k vs))
      → Good (by_together g k)
  good_together (at_values vs) k h = h vs
  good_together (leftmost v) k h = less_throw v
  good_together some_still k h = tt
  good_together some_open k h = tt

  good_once : (ts : List Term) (k : List Value → Act) → ((vs : List Value) → Good (k vs))
      → Good (once_all ts k)
  good_once ts k h = good_together (standing_together ts) k h

  good_object : (o : Option Value) → Good (throws_object o)
  good_object (Some v) = less_throw v
  good_object None = tt

  good_throwing : (p : Program) (id : TypeId) → Good (throwing p id)
  good_throwing p id = good_object (single p id)

  good_entering : (c : Closure) (o : Option (List (ℕ × Value))) → Good (entering c o)
  good_entering c (Some hs) =
      λ bare s. absurd (bare_none marks c.body bare (less_all marks (hs ++ c.held) c.body s))
  good_entering c None = tt

  good_apply : (k : ValueKind) (v : Value) → Good (applying_to k v)
  good_apply (Value-F.Function c) v = good_entering c (bound_to c.parameters v)
  good_apply _ v = tt

  good_applying : (vs : List Value) → Good (applying vs)
  good_applying [] = tt
  good_applying (f ∷ []) = tt
  good_applying (f ∷ v ∷ []) = good_apply (out-Value f) v
  good_applying (f ∷ v ∷ w ∷ vs) = tt

  good_filling : (p : Program) (ty : Ty) (v : Value) (k : ValueKind) → Good (filling p ty v k)
  good_filling p ty v (Value-F.Small (pos n)) = λ l. less_value _
  good_filling p ty v (Value-F.Small (negsuc n)) = good_throwing p p.built_in.negative_size
  good_filling p ty v _ = tt

  good_binding : (o : Option (List (ℕ × Value))) (b : Term) → Less b → Good (binding o b)
  good_binding (Some hs) b lb = λ s. lb (less_all marks hs b s)
  good_binding None b lb = tt

  good_reading : (o : Option ℕ) → Good (reading_at o)
  good_reading (Some l) = λ v. less_value v
  good_reading None = tt

  good_writing : (o : Option ℕ) (v : Value) → Good (writing_at o v)
  good_writing (Some l) v = tt
  good_writing None v = tt

  good_if : (b : Bool) (x y : Act) → Good x → Good y → Good (if b then x else y)
  good_if true x y gx gy = gx
  good_if false x y gx gy = gy

  good_element : (p : Program) (k m : ValueKind) (f : Option ℕ → Act)
      → ((o : Option ℕ) → Good (f o)) → Good (by_element p k m f)
  good_element p (Value-F.Array element base size) (Value-F.Small (pos i)) f h =
      good_if (nat_lt i size) _ _ (h (Some (base.0 + i)))
      (good_throwing p p.built_in.index_out_of_range)
  good_element p (Value-F.Array element base size) (Value-F.Small (negsuc i)) f h =
      good_throwing p p.built_in.index_out_of_range
  good_element p _ _ f h = tt

  good_sizing : (k : ValueKind) → Good (sizing k)
  good_sizing (Value-F.Array element base size) = less_value _
  good_sizing _ = tt

  good_choosing : (k : ValueKind) (a b : Term) → Less a → Less b → Good (choosing k a b)
  good_choosing (Value-F.Truth true) a b la lb = la
  good_choosing (Value-F.Truth false) a b la lb = lb
  good_choosing _ a b la lb = tt

  less_clause : (p : Program) (v : Value) (cs : List (Term × Ty)) (other : Term) (f : Term → Term)
      → Less other → ((c : Term) → IsOneOf c (in_clauses cs) → Less (f c))
      → Less (clause_for p v cs other f)
  less_clause p v [] other f lo h = lo
  less_clause p v (c ∷ cs) other f lo h =
      go (has_type p v c.1) (h c.0 (inl refl)) (less_clause p v cs other f lo (λ d m. h d (inr m)))
    where
      go : (b : Bool) → Less (f c.0) → Less (clause_for p v cs other f)
          → Less (if b then f c.0 else clause_for p v cs other f)
      go true x y = x
      go false x y = y

  less_finally : (last : Option Term) (n : Term)
      → ((c : Term) → IsOneOf c (option_to_list last) → Less c) → Less n
      → Less (finally_then last n)
  less_finally None n h ln = ln
  less_finally (Some last) n h ln = less_then last n (h last (inl refl)) ln

  good_trying : (p : Program) (x : ℕ) (cs : List (Term × Ty)) (last : Option Term) (st : Standing)
      → ((c : Term) → IsOneOf c (in_clauses cs) → Less c)
      → ((c : Term) → IsOneOf c (option_to_list last) → Less c) → Good (trying p x cs last st)
  good_trying p x cs last (at_value v) hc hl = less_finally last (term.Value v) hl (less_value v)
  good_trying p x cs last (at_throw v) hc hl =
      less_finally last _ hl
      (less_clause p v cs (throw_of v) (substituted x v) (less_throw v)
      (λ c m s. hc c m (less_substituted marks x v c s)))
  good_trying p x cs last open_yet hc hl = tt

  good_deep : (p : Program) (n : ℕ) → Good (too_deep p n)
  good_deep p n =
      good_if (nat_le n 100) stuck (throwing p p.built_in.depth_exceeded) tt
      (good_throwing p p.built_in.depth_exceeded)

  good_item : (items : Items) (k : ℕ) (next : Value → Term) → ((v : Value) → Less (next v))
      → Good (by_item items k next)
  good_item (numbers_from first count) k next h = h _
  good_item (elements_from base count) k next h = h
  good_item no_items k next h = tt

  less_for : (o : Order) (s : Span) (x : ℕ) (source : Value) (b : Term) → Less b
      → Less (For o s x (term.Value source) b)
  less_for o s x source b lb =
      less_by _ _ (outs-For o s x (term.Value source) b) (λ c e. cc)
      (less_list (term.Value source ∷ b ∷ []) (less_value source, (lb, tt)))

  good_for : (o : Order) (items : Items) (k n x : ℕ) (source : Value) (b : Term) → Less b
      → Good (for_items o items k n x source b)
  good_for o items k zero x source b lb = less_value unit
  good_for order.Seq items k (suc n) x source b lb =
      good_item items k _
      (λ item. less_then _ _ (λ s. lb (less_substituted marks x item b s))
      (less_for order.Seq (span.Part (k + 1) n) x source b lb))
  good_for order.Parallel items k (suc zero) x source b lb =
      good_item items k _ (λ item s. lb (less_substituted marks x item b s))
  good_for order.Parallel items k (suc (suc n)) x source b lb =
      let h = first_half (suc (suc n)) in
      let one = For order.Parallel (span.Part k h) x (term.Value source) b in
      let two =
      For order.Parallel (span.Part (k + h) (rest_half (suc (suc n)))) x (term.Value source) b
      in
      less_by (ForHalves one two) _ (outs-ForHalves one two) (λ c e. cc)
      (less_list (one ∷ two ∷ []) (
        less_for order.Parallel (span.Part k h) x source b lb,
        (
          less_for order.Parallel (span.Part (k + h) (rest_half (suc (suc n)))) x source b lb,
          tt,
        ),
      ))

  less_reduce : (o : Order) (s : Span) (set : SetId) (empty : Term) (x : ℕ) (source : Value)
      (b : Term) → Less empty → Less b → Less (Reduce o s set empty x (term.Value source) b)
  less_reduce o s set empty x source b le lb =
      less_by _ _ (outs-Reduce o s set empty x (term.Value source) b) (λ c e. cc)
      (less_list (empty ∷ term.Value source ∷ b ∷ []) (le, (less_value source, (lb, tt))))

  less_halves : (o : Order) (set : SetId) (a b : Term) → Less a → Less b
      → Less (reduced_halves o set a b)
  less_halves order.Parallel set a b la lb =
      less_by _ _ (outs-ReduceHalves set a b) (λ c e. cc) (less_list (a ∷ b ∷ []) (la, (lb, tt)))
  less_halves order.Seq set a b la lb =
      less_by _ _ (outs-Operator set (a ∷ b ∷ [])) (λ c e. cc)
      (less_list (a ∷ b ∷ []) (la, (lb, tt)))

  good_reduce : (o : Order) (items : Items) (k n : ℕ) (set : SetId) (empty : Term) (x : ℕ)
      (source : Value) (b : Term) → Less empty → Less b
      → Good (reduce_items o items k n set empty x source b)
  good_reduce o items k zero set empty x source b le lb = le
  good_reduce o items k (suc zero) set empty x source b le lb =
      good_item items k _ (λ item s. lb (less_substituted marks x item b s))
  good_reduce o items k (suc (suc n)) set empty x source b le lb =
      less_halves o set _ _ (less_reduce o _ set empty x source b le lb)
      (less_reduce o _ set empty x source b le lb)

  good_spanned : (s : Span) (items : Items) (f : ℕ → ℕ → Act) → ((k n : ℕ) → Good (f k n))
      → Good (spanned s items f)
  good_spanned (span.Part k n) items f h = h k n
  good_spanned span.Whole (numbers_from first count) f h = h 0 count
  good_spanned span.Whole (elements_from base count) f h = h 0 count
  good_spanned span.Whole no_items f h = tt

  module _ (y : Term-F Term Value Closure) (e : out-Term t ≡ y) where
    part : (a : Term) → IsOneOf a (terms_in y) → Less a
    part a m s = (s.0, in_part a (subst (IsOneOf a) (sym (ap terms_in e)) m) s.1)

  one_of_behind : (c : Term) (xs ys : List Term) → IsOneOf c ys → IsOneOf c (xs ++ ys)
  one_of_behind c [] ys h = h
  one_of_behind c (x ∷ xs) ys h = inr (one_of_behind c xs ys h)

  one_of_front : (c : Term) (xs ys : List Term) → IsOneOf c xs → IsOneOf c (xs ++ ys)
  one_of_front c [] ys h = absurd h
  one_of_front c (x ∷ xs) ys (inl q) = inl q
  one_of_front c (x ∷ xs) ys (inr h) = inr (one_of_front c xs ys h)

  good_act : (p : Program) (y : Term-F Term Value Closure) → out-Term t ≡ y → Good (act_at p y)
  good_act p (Term-F.Call set arguments) e = good_once arguments (calls set) (λ vs. tt)
  good_act p (Term-F.Operator set operands) e = good_all operands (calls set) (λ vs. tt)
  good_act p (Term-F.Apply f a) e = good_once (f ∷ a ∷ []) applying good_applying
  good_act p (Term-F.Fill ty n a) e =
      good_after n _ (λ size. good_after a _ (λ v. good_filling p ty v (out-Value size)))
  good_act p (Term-F.Let xs a b) e =
      good_after a _ (λ v. good_binding (bound_to xs v) b (part _ e b (inr (inl refl))))
  good_act p (Term-F.Mutable x ty a b) e =
      good_after a _ (λ v l s. part _ e b (inr (inl refl)) (less_located marks x l b s))
  good_act p (Term-F.Read x) e = good_reading (location_of x)
  good_act p (Term-F.Write x a) e = good_after a _ (λ v. good_writing (location_of x) v)
  good_act p (Term-F.ReadField o f) e =
      good_after o _ (λ v. good_reading (field_of p f (out-Value v)))
  good_act p (Term-F.WriteField o f a) e =
      good_after o _ (λ v. good_after a _ (λ w. good_writing (field_of p f (out-Value v)) w))
  good_act p (Term-F.ReadElement a i) e =
      good_after a _
      (λ v. good_after i _
      (λ w. good_element p (out-Value v) (out-Value w) reading_at good_reading))
  good_act p (Term-F.WriteElement a i b) e =
      good_after a _
      (λ v. good_after i _
      (λ w. good_after b _
      (λ u. good_element p (out-Value v) (out-Value w) (λ l. writing_at l u)
      (λ l. good_writing l u))))
  good_act p (Term-F.Size a) e = good_after a _ (λ v. good_sizing (out-Value v))
  good_act p (Term-F.Then a b) e = good_after a _ (λ v. part _ e b (inr (inl refl)))
  good_act p (Term-F.If c a b) e =
      good_after c _
      (λ v. good_choosing (out-Value v) a b (part _ e a (inr (inl refl)))
      (part _ e b (inr (inr (inl refl)))))
  good_act p (Term-F.While c b) e =
      let lc = part _ e c (inl refl) in
      let lb = part _ e b (inr (inl refl)) in
      let again =
      less_by (While c b) _ (outs-While c b) (λ d q. cc) (less_list (c ∷ b ∷ []) (lc, (lb, tt)))
      in
      less_by _ _ (outs-If c (Then b (While c b)) (term.Value unit)) (λ d q. cc)
      (less_list (c ∷ Then b (While c b) ∷ term.Value unit ∷ []) (
        lc,
        (less_then b (While c b) lb again, (less_value unit, tt)),
      ))
  good_act p (Term-F.Typecase x a cs b) e =
      good_after a _ (λ v. less_clause p v cs (substituted x v b) (substituted x v)
      (λ s. part _ e b (inr (inl refl)) (less_substituted marks x v b s))
      (λ c m s. part _ e c (inr (inr m)) (less_substituted marks x v c s)))
  good_act p (Term-F.For o s x a b) e =
      good_after a _
      (λ v. good_spanned s (items_at (out-Value v)) _
      (λ k n. good_for o (items_at (out-Value v)) k n x v b (part _ e b (inr (inl refl)))))
  good_act p (Term-F.ForHalves a b) e = good_once (a ∷ b ∷ []) _ (λ vs. less_value unit)
  good_act p (Term-F.Reduce o s set empty x a b) e =
      good_after a _
      (λ v. good_spanned s (items_at (out-Value v)) _
      (λ k n. good_reduce o (items_at (out-Value v)) k n set empty x v b
      (part _ e empty (inl refl)) (part _ e b (inr (inr (inl refl))))))
  good_act p (Term-F.ReduceHalves set a b) e = good_once (a ∷ b ∷ []) (calls set) (λ vs. tt)
  good_act p (Term-F.Also blocks) e = good_once blocks _ (λ vs. less_value unit)
  good_act p (Term-F.Throw a) e = good_after a _ (λ v. tt)
  good_act p (Term-F.Try a x cs last) e = good_trying p x cs last (standing a)
      (λ c m. part _ e c (inr (one_of_behind c (option_to_list last) (in_clauses cs) m)))
      (λ c m. part _ e c (inr (one_of_front c (option_to_list last) (in_clauses cs) m)))
  good_act p (Term-F.Group parts) e = good_once parts _ (λ vs. good_deep p _)
  good_act p (Term-F.Fn c) e = good_if (holds_all c) _ stuck (good_deep p _) tt
  good_act p _ e = tt

  good_answer : (p : Program) (a : Answer) → Good (by_answer p a)
  good_answer p (gives v) = less_value v
  good_answer p (makes_text s) = less_value _
  good_answer p (throws id) = good_throwing p id
  good_answer p (prints s) = less_value unit
  good_answer p ends = tt
  good_answer p nothing = tt

  good_new : (id : TypeId) (vs : List Value) (o : Option CoreShape) → Good (constructing id vs o)
  good_new id vs (Some s) = λ l. less_value _
  good_new id vs None = tt

  good_body : (p : Program) (b : CoreBody) (vs : List Value) → Good (by_body p b vs)
  good_body p (body.Plain b) vs =
      λ bare s. absurd (bare_none marks b bare (less_all marks (by_number 0 vs) b s))
  good_body p (body.Primitive f) vs = good_answer p (answer_of p f vs)
  good_body p body.Abstract vs = tt
  good_body p (body.New id) vs = good_new id vs _

  good_acts : (p : Program) (x : Act) → Acts p t x → Good x
  good_acts p x (by_itself e) = subst Good e (good_act p (out-Term t) refl)
  good_acts p x (by_call {values = vs} {decl = decl} e h i) =
      subst Good i (good_body p decl.body vs)

  less_does : (p : Program) (inner : Bool) (loc : ℕ) (x : Act) (b : Term) (d : Effect) → Good x
      → Does p inner loc x b d → Less b
  less_does p inner loc stuck b d g k = absurd k
  less_does p inner loc (turns next output cost) b d g k = subst Less (sym k.1) g
  less_does p inner loc (enters c next) b d g k = subst Less (sym k.2) (g k.0)
  less_does p inner loc (asks l next) b d g k = subst Less (sym k.2) (g k.0)
  less_does p inner loc (sets l v) b d g k = subst Less (sym k.1) (less_value unit)
  less_does p inner loc (makes vs next cost) b d g k = subst Less (sym k.0) (g loc)
  less_does p inner loc (calls set vs) b d g k = absurd k
  less_does p inner loc acts.ends b d g k = subst Less (sym k.4) (less_throw k.0)

-- what sleeps after a step slept before
pub local_marks : (p : Program) (inner : Bool) (loc : ℕ) (a b : Term) (d : Effect)
    → Local p inner loc a b d → (marks : Marks) → Sleeper marks b → Sleeper marks a
local_marks p inner loc a b d (steps x h k) marks =
    less_does marks a p inner loc x b d (good_acts marks a p x h) k
