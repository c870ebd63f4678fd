-- Threads: forms that wait for none of their parts.
use Rattle.std.proofs.Common.{◌≡◌, ◌≢◌, ℕ, zero, suc, ◌+◌, ◌<◌, ◌≤◌, Bool, true, false, ◌&&◌, List, [], ◌∷◌, ◌++◌, length, take, drop, Option, Some, None, refl, ap, sym, ◌∙◌, subst, arith, ◌⊎◌, inl, inr}
use Rattle.std.specs.Prelude.{map, slice_get}
use Rattle.std.specs.List.{list_any}
use Rattle.fort_base.specs.declared.ids.SetId.{SetId}
use Rattle.fort_core.specs.declared.form.Slot.{Slot}
use Rattle.fort_core.specs.declared.term.Term.{Term, Group, Call, Operator, Apply, Also, ForHalves, ReduceHalves, Variable, Fn, Read, While, Throw, out-Term}
use Rattle.fort_core.specs.declared.term.Term as term
use Rattle.fort_core.specs.declared.term.Term.TheVariants.{outs-Group, outs-Call, outs-Operator, outs-Apply, outs-Fill, outs-Let, outs-Mutable, outs-Write, outs-ReadField, outs-WriteField, outs-ReadElement, outs-WriteElement, outs-Size, outs-Then, outs-If, outs-Typecase, outs-For, outs-ForHalves, outs-Reduce, outs-ReduceHalves, outs-Also, outs-Try, outs-Throw, outs-Variable, outs-Fn, outs-Read, outs-While}
use Rattle.fort_core.specs.declared.term.Term.TheOpen.{Term-F}
use Rattle.fort_core.specs.declared.value.Value.{Value}
use Rattle.fort_core.specs.declared.value.Closure.{Closure}
use Rattle.fort_machine.specs.Ends.{Standing, at_value, at_throw, open_yet, standing_at, standing, throw_of, of_thrown, value_at, Finished, is_still, is_thrown}
use Rattle.fort_machine.specs.Ends as ends
use Rattle.fort_machine.specs.Frames.{Frame, in_group, in_call, in_function, in_argument, in_first_half, in_second_half, in_first_reduced, in_second_reduced, in_block, in_throw, in_operand, in_fill_size, in_fill_value, in_let, in_mutable, in_write, in_field, in_field_target, in_field_value, in_element, in_index, in_element_target, in_element_index, in_element_value, in_size, in_then, in_test, in_subject, in_source, in_reduced_source, in_try, in_stepped, on, beside, passes}
use Rattle.fort_machine.specs.Attempts.{Ready}
use Rattle.fort_machine.proofs.Standing.{standing-Value, standing-throw, decide, not_finished}
use Rattle.fort_machine.proofs.Places.{on_layer, out_on}
use Rattle.fort_frames.specs.Heads.{suits, form_of}
use Rattle.fort_frames.specs.declared.head.Head.{Head}
use Rattle.fort_frames.specs.declared.head.Head.TheVariants as head
use Rattle.fort_frames.specs.Frames.{IsInOrder, frame_of}
use Rattle.fort_frames.specs.declared.frame.Frame as code
use Rattle.fort_frames.specs.declared.frame.Frame.TheVariants as frame
use Rattle.fort_frames_moves.specs.Turns.{AllOver, IsLast}

-- a frame goes from left to right, or leaves a part out between others
pub data Kind : Type 0 where
  lone : Kind
  between : (before behind : List Term) → Kind

abbrev pub kind_of : Frame → Kind
kind_of (in_group before behind) = between before behind
kind_of (in_call set before behind) = between before behind
kind_of (in_function argument) = between [] (argument ∷ [])
kind_of (in_argument function) = between (function ∷ []) []
kind_of (in_first_half second) = between [] (second ∷ [])
kind_of (in_second_half first) = between (first ∷ []) []
kind_of (in_first_reduced set second) = between [] (second ∷ [])
kind_of (in_second_reduced set first) = between (first ∷ []) []
kind_of (in_block before behind) = between before behind
kind_of _ = lone

abbrev pub sides_of : Kind → List Term
sides_of lone = []
sides_of (between before behind) = before ++ behind

pub beside_is : (f : Frame) → beside f ≡ sides_of (kind_of f)
beside_is (in_group before behind) = refl
beside_is (in_call set before behind) = refl
beside_is (in_function argument) = refl
beside_is (in_argument function) = refl
beside_is (in_first_half second) = refl
beside_is (in_second_half first) = refl
beside_is (in_first_reduced set second) = refl
beside_is (in_second_reduced set first) = refl
beside_is (in_block before behind) = refl
beside_is _ = refl

-- what a form goes on by: nothing, one next part, or parts beside each other
pub data Coming : Type 0 where
  over : Coming
  serial : (part : Term) → Coming
  parallel : (parts : List Term) → Coming

abbrev first : Standing → Coming → Coming → Coming
first (at_value v) n k = k
first _ n k = n

abbrev operand : List Term → Coming
operand [] = over
operand (t ∷ ts) = first (standing t) (serial t) (operand ts)

abbrev pub next_at : Term-F Term Value Closure → Coming
next_at (Term-F.Group parts) = parallel parts
next_at (Term-F.Call set arguments) = parallel arguments
next_at (Term-F.Apply f a) = parallel (f ∷ a ∷ [])
next_at (Term-F.ForHalves a b) = parallel (a ∷ b ∷ [])
next_at (Term-F.ReduceHalves set a b) = parallel (a ∷ b ∷ [])
next_at (Term-F.Also blocks) = parallel blocks
next_at (Term-F.Throw a) = serial a
next_at (Term-F.Operator set operands) = operand operands
next_at (Term-F.Fill ty n a) = first (standing n) (serial n) (serial a)
next_at (Term-F.Let xs a b) = serial a
next_at (Term-F.Mutable x ty a b) = serial a
next_at (Term-F.Write x a) = serial a
next_at (Term-F.ReadField o f) = serial o
next_at (Term-F.WriteField o f a) = first (standing o) (serial o) (serial a)
next_at (Term-F.ReadElement a i) = first (standing a) (serial a) (serial i)
next_at (Term-F.WriteElement a i b) =
    first (standing a) (serial a) (first (standing i) (serial i) (serial b))
next_at (Term-F.Size a) = serial a
next_at (Term-F.Then a b) = serial a
next_at (Term-F.If c a b) = serial c
next_at (Term-F.Typecase x a cs b) = serial a
next_at (Term-F.For o s x a b) = serial a
next_at (Term-F.Reduce o s set empty x a b) = serial a
next_at (Term-F.Try a x cs last) = serial a
next_at (Term-F.Stepped a) = serial a
next_at _ = over

abbrev pub by_kind : Term → Kind → Coming
by_kind t lone = serial t
by_kind t (between before behind) = parallel (before ++ t ∷ behind)

first_value : (v : Value) (n k : Coming) → first (standing (term.Value v)) n k ≡ k
first_value v n k = ap (λ st. first st n k) (standing-Value v)

no_value : (st : Standing) (n k : Coming) → value_at st ≡ None → first st n k ≡ n
no_value (at_value v) n k e = absurd cc
no_value (at_throw v) n k e = refl
no_value open_yet n k e = refl

operand_on : (before : List Value) (behind : List Term) (t : Term) → value_at (standing t) ≡ None
    → operand (map term.Value before ++ t ∷ behind) ≡ serial t
operand_on [] behind t o = no_value (standing t) _ _ o
operand_on (v ∷ before) behind t o = first_value v _ _ ∙ operand_on before behind t o

-- a part that is no value is what its form goes on by
pub next_on : (f : Frame) (t : Term) → value_at (standing t) ≡ None
    → next_at (on_layer f t) ≡ by_kind t (kind_of f)
next_on (in_group before behind) t o = refl
next_on (in_call set before behind) t o = refl
next_on (in_function argument) t o = refl
next_on (in_argument function) t o = refl
next_on (in_first_half second) t o = refl
next_on (in_second_half first) t o = refl
next_on (in_first_reduced set second) t o = refl
next_on (in_second_reduced set first) t o = refl
next_on (in_block before behind) t o = refl
next_on (in_operand set before behind) t o = operand_on before behind t o
next_on (in_fill_size ty value) t o = no_value (standing t) _ _ o
next_on (in_fill_value ty size) t o = first_value size _ _
next_on (in_field_target field value) t o = no_value (standing t) _ _ o
next_on (in_field_value object field) t o = first_value object _ _
next_on (in_element index) t o = no_value (standing t) _ _ o
next_on (in_index array) t o = first_value array _ _
next_on (in_element_target index value) t o = no_value (standing t) _ _ o
next_on (in_element_index array value) t o = first_value array _ _ ∙ no_value (standing t) _ _ o
next_on (in_element_value array index) t o = first_value array _ _ ∙ first_value index _ _
next_on _ t o = refl

-- all that a form goes on by is finished or passed over
abbrev Waits : Coming → Type 0
Waits over = Unit {0}
Waits (serial b) = Finished b
Waits (parallel ts) = AllOver ts

pub take_middle : (before behind : List Term) (b : Term)
    → take (length before) (before ++ b ∷ behind) ≡ before
take_middle [] behind b = refl
take_middle (x ∷ before) behind b = ap (λ ys. x ∷ ys) (take_middle before behind b)

drop_middle : (before behind : List Term) (b : Term)
    → drop (suc (length before)) (before ++ b ∷ behind) ≡ behind
drop_middle [] behind b = refl
drop_middle (x ∷ before) behind b = drop_middle before behind b

pub at_middle : (before behind : List Term) (b : Term)
    → slice_get (before ++ b ∷ behind) (length before) ≡ Some b
at_middle [] behind b = refl
at_middle (x ∷ before) behind b = at_middle before behind b

pub in_middle : (before behind : List Term) (b : Term)
    → length before < length (before ++ b ∷ behind)
in_middle [] behind b = omega arith
in_middle (x ∷ before) behind b = let h = in_middle before behind b in omega (arith, h)

pub drop_sides : (before behind : List Term) (b : Term)
    → drop (length before + 1) (before ++ b ∷ behind) ≡ behind
drop_sides before behind b =
    let one : length before + 1 ≡ suc (length before) = omega arith
    in ap (λ n. drop n (before ++ b ∷ behind)) one ∙ drop_middle before behind b

held_over : (f : Frame) (b : Term) (k : Kind) → kind_of f ≡ k → Waits (by_kind b k)
    → Finished b ⊎ (passes f b ≡ true)
held_over f b lone e w = inl w
held_over f b (between before behind) e w =
    go (w (length before) (omega arith) (in_middle before behind b) b (at_middle before behind b))
  where
    go : Finished b
        ⊎ ((list_any is_thrown
        (take (length before) (before ++ b ∷ behind)
        ++ drop (length before + 1) (before ++ b ∷ behind)) && is_still b) ≡ true)
        → Finished b ⊎ (passes f b ≡ true)
    go (inl h) = inl h
    go (inr h) =
        let same : take (length before) (before ++ b ∷ behind)
        ++ drop (length before + 1) (before ++ b ∷ behind) ≡ beside f =
        (λ i. take_middle before behind b i ++ drop_sides before behind b i)
        ∙ sym (beside_is f ∙ ap sides_of e) in
        inr (subst (λ xs. (list_any is_thrown xs && is_still b) ≡ true) same h)

ready_by : (a : Term) (y : Term-F Term Value Closure) → out-Term a ≡ y → standing_at y ≡ open_yet
    → Waits (next_at y) → Ready a
ready_by a y e o w =
    record {
      unfinished = not_finished a (ap standing_at e ∙ o);
      no_part = λ f b q. go f b q (decide b);
    }
  where
    go : (f : Frame) (b : Term) → a ≡ on f b → (standing b ≡ open_yet) ⊎ Finished b
        → Finished b ⊎ (passes f b ≡ true)
    go f b q (inr h) = inl h
    go f b q (inl h) =
        held_over f b (kind_of f) refl
        (subst Waits (ap next_at (sym e ∙ ap out-Term q ∙ out_on f b h)
        ∙ next_on f b (ap value_at h)) w)

-- forms without parts that go
pub variable_ready : (x : ℕ) → Ready (Variable x)
variable_ready x = ready_by (Variable x) (Term-F.Variable x) (outs-Variable x) refl tt

pub fn_ready : (c : Closure) → Ready (Fn c)
fn_ready c = ready_by (Fn c) (Term-F.Fn c) (outs-Fn c) refl tt

pub read_ready : (x : Slot) → Ready (Read x)
read_ready x = ready_by (Read x) (Term-F.Read x) (outs-Read x) refl tt

pub while_ready : (a b : Term) → Ready (While a b)
while_ready a b = ready_by (While a b) (Term-F.While a b) (outs-While a b) refl tt

-- parallel forms
pub group_ready : (ts : List Term) → AllOver ts → Ready (Group ts)
group_ready ts w = ready_by (Group ts) (Term-F.Group ts) (outs-Group ts) refl w

pub node_ready : (h : Head) (ts : List Term) → suits h ts ≡ true → h ≢ head.Group → AllOver ts
    → Ready (form_of h ts)
node_ready head.Group ts e n w = absurd (n refl)
node_ready (head.Call set) ts e n w =
    ready_by (Call set ts) (Term-F.Call set ts) (outs-Call set ts) refl w
node_ready head.Also ts e n w = ready_by (Also ts) (Term-F.Also ts) (outs-Also ts) refl w
node_ready head.Apply [] e n w = absurd cc
node_ready head.Apply (a ∷ []) e n w = absurd cc
node_ready head.Apply (a ∷ b ∷ []) e n w =
    ready_by (Apply a b) (Term-F.Apply a b) (outs-Apply a b) refl w
node_ready head.Apply (a ∷ b ∷ c ∷ ts) e n w = absurd cc
node_ready head.ForHalves [] e n w = absurd cc
node_ready head.ForHalves (a ∷ []) e n w = absurd cc
node_ready head.ForHalves (a ∷ b ∷ []) e n w =
    ready_by (ForHalves a b) (Term-F.ForHalves a b) (outs-ForHalves a b) refl w
node_ready head.ForHalves (a ∷ b ∷ c ∷ ts) e n w = absurd cc
node_ready (head.ReduceHalves set) [] e n w = absurd cc
node_ready (head.ReduceHalves set) (a ∷ []) e n w = absurd cc
node_ready (head.ReduceHalves set) (a ∷ b ∷ []) e n w =
    ready_by (ReduceHalves set a b) (Term-F.ReduceHalves set a b) (outs-ReduceHalves set a b) refl w
node_ready (head.ReduceHalves set) (a ∷ b ∷ c ∷ ts) e n w = absurd cc

-- operands that are all values
operand_values : (vs : List Value) → operand (map term.Value vs) ≡ over
operand_values [] = refl
operand_values (v ∷ vs) = first_value v _ _ ∙ operand_values vs

pub operands_ready : (set : SetId) (vs : List Value) → Ready (Operator set (map term.Value vs))
operands_ready set vs =
    ready_by (Operator set (map term.Value vs)) (Term-F.Operator set (map term.Value vs))
    (outs-Operator set (map term.Value vs)) refl (subst Waits (sym (operand_values vs)) tt)

-- forms that go from left to right
layer_of : (f : code.Frame) (t : Term) → IsInOrder f
    → out-Term (on (frame_of f) t) ≡ on_layer (frame_of f) t
layer_of (frame.Node n) t i = absurd i
layer_of frame.Throw t i = outs-Throw _
layer_of (frame.Operand a b c) t i = outs-Operator _ _
layer_of (frame.FillSize a b) t i = outs-Fill _ _ _
layer_of (frame.FillValue a b) t i = outs-Fill _ _ _
layer_of (frame.Let a b) t i = outs-Let _ _ _
layer_of (frame.Mutable a b c) t i = outs-Mutable _ _ _ _
layer_of (frame.Write a) t i = outs-Write _ _
layer_of (frame.Field a) t i = outs-ReadField _ _
layer_of (frame.FieldTarget a b) t i = outs-WriteField _ _ _
layer_of (frame.FieldValue a b) t i = outs-WriteField _ _ _
layer_of (frame.Element a) t i = outs-ReadElement _ _
layer_of (frame.Index a) t i = outs-ReadElement _ _
layer_of (frame.ElementTarget a b) t i = outs-WriteElement _ _ _
layer_of (frame.ElementIndex a b) t i = outs-WriteElement _ _ _
layer_of (frame.ElementValue a b) t i = outs-WriteElement _ _ _
layer_of frame.Size t i = outs-Size _
layer_of (frame.Then a) t i = outs-Then _ _
layer_of (frame.Test a b) t i = outs-If _ _ _
layer_of (frame.Subject a b c) t i = outs-Typecase _ _ _ _
layer_of (frame.Source a b c d) t i = outs-For _ _ _ _ _
layer_of (frame.ReducedSource a b c d e f) t i = outs-Reduce _ _ _ _ _ _ _
layer_of (frame.Try a b c) t i = outs-Try _ _ _ _

pub lone_order : (f : code.Frame) → IsInOrder f → kind_of (frame_of f) ≡ lone
lone_order (frame.Node n) i = absurd i
lone_order _ i = refl

thrown_open : (f : code.Frame) (v : Value) → IsInOrder f
    → standing_at (on_layer (frame_of f) (throw_of v)) ≡ open_yet
thrown_open (frame.Node n) v i = absurd i
thrown_open frame.Throw v i = ap of_thrown (outs-Throw (term.Value v))
thrown_open _ v i = refl

pub throw_ready : (f : code.Frame) (v : Value) → IsInOrder f → Ready (on (frame_of f) (throw_of v))
throw_ready f v i =
    let coming : next_at (on_layer (frame_of f) (throw_of v)) ≡ serial (throw_of v) =
    next_on (frame_of f) (throw_of v) (ap value_at (standing-throw v))
    ∙ ap (by_kind (throw_of v)) (lone_order f i) in
    ready_by (on (frame_of f) (throw_of v)) (on_layer (frame_of f) (throw_of v))
    (layer_of f (throw_of v) i) (thrown_open f v i)
    (subst Waits (sym coming) (ends.Finished.throw v refl))

last_order : (f : code.Frame) → IsLast f → IsInOrder f
last_order (frame.Node n) l = absurd l
last_order _ l = tt

last_coming : (f : code.Frame) (v : Value) → IsLast f
    → next_at (on_layer (frame_of f) (term.Value v)) ≡ serial (term.Value v)
last_coming (frame.Node n) v l = absurd l
last_coming frame.Throw v l = absurd l
last_coming (frame.Operand a b c) v l = absurd l
last_coming (frame.FillSize a b) v l = absurd l
last_coming (frame.FieldTarget a b) v l = absurd l
last_coming (frame.Element a) v l = absurd l
last_coming (frame.ElementTarget a b) v l = absurd l
last_coming (frame.ElementIndex a b) v l = absurd l
last_coming (frame.FillValue a size) v l = first_value size _ _
last_coming (frame.FieldValue object b) v l = first_value object _ _
last_coming (frame.Index array) v l = first_value array _ _
last_coming (frame.ElementValue array index) v l = first_value array _ _ ∙ first_value index _ _
last_coming _ v l = refl

last_open : (f : code.Frame) (v : Value) → IsLast f
    → standing_at (on_layer (frame_of f) (term.Value v)) ≡ open_yet
last_open (frame.Node n) v l = absurd l
last_open frame.Throw v l = absurd l
last_open _ v l = refl

pub value_ready : (f : code.Frame) (v : Value) → IsLast f → Ready (on (frame_of f) (term.Value v))
value_ready f v l =
    ready_by (on (frame_of f) (term.Value v)) (on_layer (frame_of f) (term.Value v))
    (layer_of f (term.Value v) (last_order f l)) (last_open f v l)
    (subst Waits (sym (last_coming f v l)) (ends.Finished.value v refl))
