-- Chapter "Steps and costs": the table of steps, a row for each form. The code has a function for
-- each row.
use Rattle.std.specs.Prelude.{ℕ, ◌+◌, ◌==◌, nat_lt, nat_le, true, false, if◌then◌else◌, List, [], ◌∷◌, ◌++◌, replicate, slice_get, Option, Some, None, option_map, option_and_then, pos, negsuc}
use Rattle.fort_base.specs.declared.ids.NameId.{NameId}
use Rattle.fort_base.specs.declared.ty.Ty.{Ty}
use Rattle.fort_core.specs.declared.form.Slot.{Slot}
use Rattle.fort_core.specs.declared.form.Slot.TheVariants as slot
use Rattle.fort_core.specs.declared.program.CoreField.{CoreField}
use Rattle.fort_core.specs.declared.program.CoreShape.{CoreShape}
use Rattle.fort_core.specs.declared.program.Program.{Program}
use Rattle.fort_core.specs.declared.term.Term.{Term, Then, If, While, out-Term}
use Rattle.fort_core.specs.declared.term.Term as term
use Rattle.fort_core.specs.declared.term.Term.TheOpen.{Term-F, Value-F}
use Rattle.fort_core.specs.declared.value.Closure.{Closure}
use Rattle.fort_core.specs.declared.value.Value.{Value, Small, Tuple, Array, out-Value}
use Rattle.fort_machine.specs.Types.{has_type}
use Rattle.fort_machine.specs.Texts.{depth, closure_depth, deepest}
use Rattle.fort_machine.specs.Primitives.{ValueKind}
use Rattle.fort_machine.specs.Ends.{Standing, at_value, at_throw, open_yet, standing, throw_of}
use Rattle.fort_machine.specs.Scopes.{holds_all}
use Rattle.fort_machine.specs.Substitution.{substituted, substituted_all, located, bound_to}
use Rattle.fort_machine.specs.Acts.{Act, stuck, enters, asks, sets, makes, calls, becomes, unit, throwing, after, after_all, once_all}
use Rattle.fort_machine.specs.Generators.{generating, reducing}

-- A function's body is run with its parameters and what it holds in their places.
abbrev pub entering : Closure → Option (List (ℕ × Value)) → Act
entering c (Some hs) = enters c.body (substituted_all (hs ++ c.held) c.body)
entering c None = stuck

-- A function value is applied to its argument.
abbrev pub applying_to : ValueKind → Value → Act
applying_to (Value-F.Function c) v = entering c (bound_to c.parameters v)
applying_to _ v = stuck

-- A function value and its argument.
abbrev pub applying : List Value → Act
applying (f ∷ v ∷ []) = applying_to (out-Value f) v
applying _ = stuck

-- A new array of n elements costs 1 + n; below 0 it is `NegativeSize`.
abbrev pub filling : Program → Ty → Value → ValueKind → Act
filling p ty v (Value-F.Small (pos n)) =
    makes (replicate n v) (λ l. term.Value (Array ty (record { 0 = l }) n)) (1 + n)
filling p ty v (Value-F.Small (negsuc n)) = throwing p p.built_in.negative_size
filling p ty v _ = stuck

-- The rest of a block, with values in the places of variables.
abbrev pub binding : Option (List (ℕ × Value)) → Term → Act
binding (Some hs) rest = becomes (substituted_all hs rest)
binding None rest = stuck

-- Reads a location, and is its value.
abbrev pub reading_at : Option ℕ → Act
reading_at (Some l) = asks l (λ v. term.Value v)
reading_at None = stuck

-- Writes to a location, and is `()`.
abbrev pub writing_at : Option ℕ → Value → Act
writing_at (Some l) v = sets l v
writing_at None v = stuck

-- The location of a variable that has one.
abbrev pub location_of : Slot → Option ℕ
location_of (slot.Location l) = Some l.0
location_of (slot.Variable x) = None

-- The place of a field among those of its type.
abbrev pub place_of : NameId → List CoreField → Option ℕ
place_of f [] = None
place_of f (c ∷ cs) = if c.name.0 == f.0 then Some 0 else option_map (λ n. n + 1) (place_of f cs)

-- The location of an object's field.
abbrev pub field_of : Program → NameId → ValueKind → Option ℕ
field_of p f (Value-F.Object id base) =
    option_and_then (λ
    (s : CoreShape). option_map (λ n. base.0 + n) (place_of f s.fields))
    (slice_get p.shapes id.0)
field_of p f _ = None

-- Goes on by the location of an array's element; an index below 0 or not below the size is
-- `IndexOutOfRange`.
abbrev pub by_element : Program → ValueKind → ValueKind → (Option ℕ → Act) → Act
by_element p (Value-F.Array element base size) (Value-F.Small (pos i)) f =
    if nat_lt i size then f (Some (base.0 + i)) else throwing p p.built_in.index_out_of_range
by_element p (Value-F.Array element base size) (Value-F.Small (negsuc i)) f =
    throwing p p.built_in.index_out_of_range
by_element p _ _ f = stuck

-- The number of an array's elements.
abbrev pub sizing : ValueKind → Act
sizing (Value-F.Array element base size) = becomes (term.Value (Small (pos size)))
sizing _ = stuck

-- One of two parts, by a truth.
abbrev pub choosing : ValueKind → Term → Term → Act
choosing (Value-F.Truth true) a b = becomes a
choosing (Value-F.Truth false) a b = becomes b
choosing _ a b = stuck

-- The first clause whose type a value has, or what is to be where none is.
abbrev pub clause_for : Program → Value → List (Term × Ty) → Term → (Term → Term) → Term
clause_for p v [] other f = other
clause_for p v (c ∷ cs) other f = if has_type p v c.1 then f c.0 else clause_for p v cs other f

-- A `finally` goes before what is to come.
abbrev pub finally_then : Option Term → Term → Term
finally_then None t = t
finally_then (Some last) t = Then last t

-- A `try` of a value goes on to it; of a throw to the first clause for what is thrown, else to the
-- throw; the `finally` before them.
abbrev pub trying : Program → ℕ → List (Term × Ty) → Option Term → Standing → Act
trying p x clauses last (at_value v) = becomes (finally_then last (term.Value v))
trying p x clauses last (at_throw v) =
    becomes (finally_then last (clause_for p v clauses (throw_of v) (substituted x v)))
trying p x clauses last open_yet = stuck

-- Above the greatest depth it is `DepthExceeded`; up to it the form stands for its value and has no
-- step.
abbrev pub too_deep : Program → ℕ → Act
too_deep p n = if nat_le n deepest then stuck else throwing p p.built_in.depth_exceeded

-- What each form does. A form that isn't in the table has no step: it is finished, open, or goes by
-- attempts.
abbrev pub act_at : Program → Term-F Term Value Closure → Act
act_at p (Term-F.Call set arguments) = once_all arguments (calls set)
act_at p (Term-F.Operator set operands) = after_all operands (calls set)
act_at p (Term-F.Apply f a) = once_all (f ∷ a ∷ []) applying
act_at p (Term-F.Fill ty n a) = after n (λ size. after a (λ v. filling p ty v (out-Value size)))
act_at p (Term-F.Let xs a b) = after a (λ v. binding (bound_to xs v) b)
act_at p (Term-F.Mutable x ty a b) = after a (λ v. makes (v ∷ []) (λ l. located x l b) 1)
act_at p (Term-F.Read x) = reading_at (location_of x)
act_at p (Term-F.Write x a) = after a (writing_at (location_of x))
act_at p (Term-F.ReadField o f) = after o (λ v. reading_at (field_of p f (out-Value v)))
act_at p (Term-F.WriteField o f a) =
    after o (λ v. after a (writing_at (field_of p f (out-Value v))))
act_at p (Term-F.ReadElement a i) =
    after a (λ v. after i (λ w. by_element p (out-Value v) (out-Value w) reading_at))
act_at p (Term-F.WriteElement a i b) =
    after a (λ v. after i
    (λ w. after b (λ u. by_element p (out-Value v) (out-Value w) (λ l. writing_at l u))))
act_at p (Term-F.Size a) = after a (λ v. sizing (out-Value v))
act_at p (Term-F.Then a b) = after a (λ v. becomes b)
act_at p (Term-F.If c a b) = after c (λ v. choosing (out-Value v) a b)
act_at p (Term-F.While c b) = becomes (If c (Then b (While c b)) (term.Value unit))
act_at p (Term-F.Typecase x a cs b) =
    after a (λ v. becomes (clause_for p v cs (substituted x v b) (substituted x v)))
act_at p (Term-F.For o s x a b) = after a (λ v. generating o s x v b)
act_at p (Term-F.ForHalves a b) = once_all (a ∷ b ∷ []) (λ vs. becomes (term.Value unit))
act_at p (Term-F.Reduce o s set empty x a b) = after a (λ v. reducing o s set empty x v b)
act_at p (Term-F.ReduceHalves set a b) = once_all (a ∷ b ∷ []) (calls set)
act_at p (Term-F.Also blocks) = once_all blocks (λ vs. becomes (term.Value unit))
act_at p (Term-F.Throw a) = after a (λ v. stuck)
act_at p (Term-F.Try a x cs last) = trying p x cs last (standing a)
act_at p (Term-F.Group parts) = once_all parts (λ vs. too_deep p (depth (Tuple vs)))
act_at p (Term-F.Fn c) = if holds_all c then too_deep p (closure_depth c) else stuck
act_at p _ = stuck

-- What a term does at its next step, where none of its parts has to step first.
abbrev pub act : Program → Term → Act
act p t = act_at p (out-Term t)
