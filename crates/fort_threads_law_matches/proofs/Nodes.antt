-- Frames by their kinds: those of forms whose parts go in order, and those of parallel nodes; and
-- what of a term they leave out.
use Rattle.std.proofs.Common.{◌≡◌, true, List, [], ◌∷◌, ◌++◌, map, refl, ap, sym, ◌∙◌, subst, append_assoc, ◌⊎◌, inl, inr}
use Rattle.std.proofs.lemmas.List.{append-nil}
use Rattle.fort_base.specs.declared.ids.SetId.{SetId}
use Rattle.fort_core.specs.declared.term.Term.{Term, Group, out-Term}
use Rattle.fort_core.specs.declared.term.Term as term
use Rattle.fort_core.specs.declared.term.Term.TheVariants.{outs-Group, outs-Call, outs-Apply, outs-ForHalves, outs-ReduceHalves, outs-Also, outs-Operator, outs-Fill, outs-Let, outs-Mutable, outs-Write, outs-ReadField, outs-WriteField, outs-ReadElement, outs-WriteElement, outs-Size, outs-Then, outs-If, outs-Typecase, outs-For, outs-Reduce, outs-Try, outs-Throw}
use Rattle.fort_core.specs.declared.term.Term.TheOpen.{Term-F}
use Rattle.fort_core.specs.declared.value.Value.{Value, Tuple}
use Rattle.fort_core.specs.declared.value.Closure.{Closure}
use Rattle.fort_machine.specs.Attempts.{Ready}
use Rattle.fort_machine.specs.Ends.{Standing, at_value, open_yet, standing_at, standing, Finished}
use Rattle.fort_machine.specs.Ends as ends
use Rattle.fort_machine.specs.Frames.{Frame, in_group, in_call, in_function, in_argument, in_first_half, in_second_half, in_first_reduced, in_second_reduced, in_block, in_throw, in_operand, in_fill_size, in_fill_value, in_let, in_mutable, in_write, in_field, in_field_target, in_field_value, in_element, in_index, in_element_target, in_element_index, in_element_value, in_size, in_then, in_test, in_subject, in_source, in_reduced_source, in_try, in_stepped, on, part_number, passes}
use Rattle.fort_machine.proofs.Standing.{standing-Value, decide, not_finished}
use Rattle.fort_machine.proofs.Places.{on_layer, out_on, on_open}
use Rattle.fort_machine.proofs.Resting.{Grouped, as_form, as_value, grouped}
use Rattle.fort_threads_law_matches.specs.Matches.{IsInOrder, Many, of_group, of_call, of_block, Pair, of_apply, of_halves, of_reduced, many_term, pair_term}

-- frames of parallel nodes
abbrev pub many_frame : Many → List Term → List Term → Frame
many_frame of_group before behind = in_group before behind
many_frame (of_call set) before behind = in_call set before behind
many_frame of_block before behind = in_block before behind

abbrev pub first_frame : Pair → Term → Frame
first_frame of_apply b = in_function b
first_frame of_halves b = in_first_half b
first_frame (of_reduced set) b = in_first_reduced set b

abbrev pub second_frame : Pair → Term → Frame
second_frame of_apply a = in_argument a
second_frame of_halves a = in_second_half a
second_frame (of_reduced set) a = in_second_reduced set a

pub many_on : (y : Many) (before behind : List Term) (t : Term)
    → many_term y (before ++ t ∷ behind) ≡ on (many_frame y before behind) t
many_on of_group before behind t = refl
many_on (of_call set) before behind t = refl
many_on of_block before behind t = refl

pub first_on : (y : Pair) (a b : Term) → pair_term y a b ≡ on (first_frame y b) a
first_on of_apply a b = refl
first_on of_halves a b = refl
first_on (of_reduced set) a b = refl

pub second_on : (y : Pair) (a b : Term) → pair_term y a b ≡ on (second_frame y a) b
second_on of_apply a b = refl
second_on of_halves a b = refl
second_on (of_reduced set) a b = refl

-- each frame is of one of these kinds
pub data Kind (f : Frame) : Type 0 where
  in_line : IsInOrder f → Kind f
  of_many : (y : Many) (before behind : List Term) → f ≡ many_frame y before behind → Kind f
  of_first : (y : Pair) (b : Term) → f ≡ first_frame y b → Kind f
  of_second : (y : Pair) (a : Term) → f ≡ second_frame y a → Kind f

pub kind : (f : Frame) → Kind f
kind (in_group before behind) = of_many of_group before behind refl
kind (in_call set before behind) = of_many (of_call set) before behind refl
kind (in_block before behind) = of_many of_block before behind refl
kind (in_function b) = of_first of_apply b refl
kind (in_first_half b) = of_first of_halves b refl
kind (in_first_reduced set b) = of_first (of_reduced set) b refl
kind (in_argument a) = of_second of_apply a refl
kind (in_second_half a) = of_second of_halves a refl
kind (in_second_reduced set a) = of_second (of_reduced set) a refl
kind _ = in_line tt

pub line_number : (f : Frame) → IsInOrder f → part_number f ≡ []
line_number (in_group before behind) n = absurd n
line_number (in_call set before behind) n = absurd n
line_number (in_block before behind) n = absurd n
line_number (in_function b) n = absurd n
line_number (in_first_half b) n = absurd n
line_number (in_first_reduced set b) n = absurd n
line_number (in_argument a) n = absurd n
line_number (in_second_half a) n = absurd n
line_number (in_second_reduced set a) n = absurd n
line_number _ n = refl

-- no mark
abbrev pub IsNoMark : Frame → Type 0
IsNoMark in_stepped = ⊥
IsNoMark _ = Unit {0}

-- the layer of a form whose parts go in order, whatever stands there
pub out_line : (f : Frame) (t : Term) → IsInOrder f → IsNoMark f → out-Term (on f t) ≡ on_layer f t
out_line in_throw t n k = outs-Throw _
out_line (in_operand set before behind) t n k = outs-Operator _ _
out_line (in_fill_size ty value) t n k = outs-Fill _ _ _
out_line (in_fill_value ty size) t n k = outs-Fill _ _ _
out_line (in_let xs rest) t n k = outs-Let _ _ _
out_line (in_mutable x ty rest) t n k = outs-Mutable _ _ _ _
out_line (in_write slot) t n k = outs-Write _ _
out_line (in_field field) t n k = outs-ReadField _ _
out_line (in_field_target field value) t n k = outs-WriteField _ _ _
out_line (in_field_value object field) t n k = outs-WriteField _ _ _
out_line (in_element index) t n k = outs-ReadElement _ _
out_line (in_index array) t n k = outs-ReadElement _ _
out_line (in_element_target index value) t n k = outs-WriteElement _ _ _
out_line (in_element_index array value) t n k = outs-WriteElement _ _ _
out_line (in_element_value array index) t n k = outs-WriteElement _ _ _
out_line in_size t n k = outs-Size _
out_line (in_then rest) t n k = outs-Then _ _
out_line (in_test one two) t n k = outs-If _ _ _
out_line (in_subject x clauses other) t n k = outs-Typecase _ _ _ _
out_line (in_source o s x body) t n k = outs-For _ _ _ _ _
out_line (in_reduced_source o s set empty x body) t n k = outs-Reduce _ _ _ _ _ _ _
out_line (in_try x clauses last) t n k = outs-Try _ _ _ _
out_line in_stepped t n k = absurd k
out_line _ t n k = absurd n

-- neither that nor a throw: such a form is open whatever stands there
abbrev pub IsOther : Frame → Type 0
IsOther in_throw = ⊥
IsOther in_stepped = ⊥
IsOther _ = Unit {0}

other_layer : (f : Frame) (t : Term) → IsOther f → standing_at (on_layer f t) ≡ open_yet
other_layer in_throw t k = absurd k
other_layer _ t k = refl

other_mark : (f : Frame) → IsOther f → IsNoMark f
other_mark in_stepped k = absurd k
other_mark _ k = tt

pub other_open : (f : Frame) (t : Term) → IsInOrder f → IsOther f → standing (on f t) ≡ open_yet
other_open f t n k = ap standing_at (out_line f t n (other_mark f k)) ∙ other_layer f t k

-- a form's next part, where its parts go in order
pub data Next : Type 0 where
  over : Next
  serial : (frame : Frame) (part : Term) → Next

abbrev pub first : Standing → Next → (Value → Next) → Next
first (at_value v) n k = k v
first _ n k = n

abbrev pub operand : SetId → List Value → List Term → Next
operand set vs [] = over
operand set vs (t ∷ ts) =
    first (standing t) (serial (in_operand set vs ts) t) (λ v. operand set (vs ++ v ∷ []) ts)

abbrev pub next_at : Term-F Term Value Closure → Next
next_at (Term-F.Throw a) = serial in_throw a
next_at (Term-F.Operator set operands) = operand set [] operands
next_at (Term-F.Fill ty n a) =
    first (standing n) (serial (in_fill_size ty a) n) (λ v. serial (in_fill_value ty v) a)
next_at (Term-F.Let xs a b) = serial (in_let xs b) a
next_at (Term-F.Mutable x ty a b) = serial (in_mutable x ty b) a
next_at (Term-F.Write x a) = serial (in_write x) a
next_at (Term-F.ReadField o f) = serial (in_field f) o
next_at (Term-F.WriteField o f a) =
    first (standing o) (serial (in_field_target f a) o) (λ v. serial (in_field_value v f) a)
next_at (Term-F.ReadElement a i) =
    first (standing a) (serial (in_element i) a) (λ v. serial (in_index v) i)
next_at (Term-F.WriteElement a i b) =
    first (standing a) (serial (in_element_target i b) a)
    (λ v. first (standing i) (serial (in_element_index v b) i)
    (λ w. serial (in_element_value v w) b))
next_at (Term-F.Size a) = serial in_size a
next_at (Term-F.Then a b) = serial (in_then b) a
next_at (Term-F.If c a b) = serial (in_test a b) c
next_at (Term-F.Typecase x a cs b) = serial (in_subject x cs b) a
next_at (Term-F.For o s x a b) = serial (in_source o s x b) a
next_at (Term-F.Reduce o s set empty x a b) = serial (in_reduced_source o s set empty x b) a
next_at (Term-F.Try a x cs last) = serial (in_try x cs last) a
next_at (Term-F.Stepped a) = serial in_stepped a
next_at _ = over

first_value : (v : Value) (n : Next) (k : Value → Next) → first (standing (term.Value v)) n k ≡ k v
first_value v n k = ap (λ st. first st n k) (standing-Value v)

first_open : (t : Term) (n : Next) (k : Value → Next) → standing t ≡ open_yet
    → first (standing t) n k ≡ n
first_open t n k o = ap (λ st. first st n k) o

operand_on : (set : SetId) (done before : List Value) (behind : List Term) (t : Term)
    → standing t ≡ open_yet
    → operand set done (map term.Value before ++ t ∷ behind)
    ≡ serial (in_operand set (done ++ before) behind) t
operand_on set done [] behind t o =
    first_open t _ _ o ∙ ap (λ x. serial (in_operand set x behind) t) (sym (append-nil done))
operand_on set done (v ∷ before) behind t o =
    first_value v _ _ ∙ operand_on set (done ++ v ∷ []) before behind t o
    ∙ ap (λ x. serial (in_operand set x behind) t) (append_assoc done (v ∷ []) before)

-- at an open part of a form whose parts go in order, or at none
abbrev by_kind : Frame → Term → Next
by_kind (in_group before behind) t = over
by_kind (in_call set before behind) t = over
by_kind (in_block before behind) t = over
by_kind (in_function b) t = over
by_kind (in_first_half b) t = over
by_kind (in_first_reduced set b) t = over
by_kind (in_argument a) t = over
by_kind (in_second_half a) t = over
by_kind (in_second_reduced set a) t = over
by_kind f t = serial f t

next_on : (f : Frame) (t : Term) → standing t ≡ open_yet
    → next_at (on_layer f t) ≡ by_kind f t
next_on (in_operand set before behind) t o = operand_on set [] before behind t o
next_on (in_fill_size ty value) t o = first_open t _ _ o
next_on (in_fill_value ty size) t o = first_value size _ _
next_on (in_field_target field value) t o = first_open t _ _ o
next_on (in_field_value object field) t o = first_value object _ _
next_on (in_element index) t o = first_open t _ _ o
next_on (in_index array) t o = first_value array _ _
next_on (in_element_target index value) t o = first_open t _ _ o
next_on (in_element_index array value) t o = first_value array _ _ ∙ first_open t _ _ o
next_on (in_element_value array index) t o = first_value array _ _ ∙ first_value index _ _
next_on _ t o = refl

line_next : (f : Frame) (t : Term) → IsInOrder f → by_kind f t ≡ serial f t
line_next (in_group before behind) t n = absurd n
line_next (in_call set before behind) t n = absurd n
line_next (in_block before behind) t n = absurd n
line_next (in_function b) t n = absurd n
line_next (in_first_half b) t n = absurd n
line_next (in_first_reduced set b) t n = absurd n
line_next (in_argument a) t n = absurd n
line_next (in_second_half a) t n = absurd n
line_next (in_second_reduced set a) t n = absurd n
line_next _ t n = refl

back : (f g : Frame) (x y : Term) → serial f x ≡ by_kind g y → (f ≡ g) × (x ≡ y)
back f (in_group before behind) x y q = absurd cc
back f (in_call set before behind) x y q = absurd cc
back f (in_block before behind) x y q = absurd cc
back f (in_function b) x y q = absurd cc
back f (in_first_half b) x y q = absurd cc
back f (in_first_reduced set b) x y q = absurd cc
back f (in_argument a) x y q = absurd cc
back f (in_second_half a) x y q = absurd cc
back f (in_second_reduced set a) x y q = absurd cc
back f _ x y q = (cc, cc)

-- the open part of a form whose parts go in order is one
pub one_part : (f g : Frame) (x y : Term) → IsInOrder f → standing x ≡ open_yet
    → standing y ≡ open_yet → on f x ≡ on g y → (f ≡ g) × (x ≡ y)
one_part f g x y n ox oy e =
    back f g x y (sym (next_on f x ox ∙ line_next f x n)
    ∙ ap next_at (sym (out_on f x ox) ∙ ap out-Term e ∙ out_on g y oy) ∙ next_on g y oy)

-- a form is ready where its next part is finished, or where no open part stands in it
pub none_ready : (a : Term) (y : Term-F Term Value Closure) → out-Term a ≡ y
    → standing_at y ≡ open_yet
    → ((f : Frame) (b : Term) → standing b ≡ open_yet → y ≡ on_layer f b → ⊥) → Ready a
none_ready a y e o none =
    record {
      unfinished = not_finished a (ap standing_at e ∙ o);
      no_part = λ f b q. go f b q (decide b);
    }
  where
    go : (f : Frame) (b : Term) → a ≡ on f b → (standing b ≡ open_yet) ⊎ Finished b
        → Finished b ⊎ (passes f b ≡ true)
    go f b q (inl h) = absurd (none f b h (sym e ∙ ap out-Term q ∙ out_on f b h))
    go f b q (inr h) = inl h

pub serial_ready : (a : Term) (y : Term-F Term Value Closure) (g : Frame) (z : Term)
    → out-Term a ≡ y → standing_at y ≡ open_yet → next_at y ≡ serial g z → Finished z → Ready a
serial_ready a y g z e o q fin =
    none_ready a y e o (λ f b ob h.
    let r = back g f z b (sym q ∙ ap next_at h ∙ next_on f b ob) in
    not_finished b ob (subst Finished r.1 fin))

-- the layer of a parallel node
abbrev pub many_layer : Many → List Term → Term-F Term Value Closure
many_layer of_group ts = Term-F.Group ts
many_layer (of_call set) ts = Term-F.Call set ts
many_layer of_block ts = Term-F.Also ts

abbrev pub pair_layer : Pair → Term → Term → Term-F Term Value Closure
pair_layer of_apply a b = Term-F.Apply a b
pair_layer of_halves a b = Term-F.ForHalves a b
pair_layer (of_reduced set) a b = Term-F.ReduceHalves set a b

pub out_pair : (y : Pair) (a b : Term) → out-Term (pair_term y a b) ≡ pair_layer y a b
out_pair of_apply a b = outs-Apply a b
out_pair of_halves a b = outs-ForHalves a b
out_pair (of_reduced set) a b = outs-ReduceHalves set a b

-- a node of many parts is that form, or a tuple that is a value
pub data IsMany (y : Many) (ts : List Term) : Type 0 where
  form : out-Term (many_term y ts) ≡ many_layer y ts → IsMany y ts
  value : (x : Value) → many_term y ts ≡ term.Value x → IsMany y ts

pub is_many : (y : Many) (ts : List Term) → IsMany y ts
is_many of_group ts = go (grouped ts)
  where
    go : Grouped ts → IsMany of_group ts
    go (as_form e) = form (ap out-Term e ∙ outs-Group ts)
    go (as_value vs e q) = value (Tuple vs) q
is_many (of_call set) ts = form (outs-Call set ts)
is_many of_block ts = form (outs-Also ts)

pub many_form : (y : Many) (ts : List Term) → standing (many_term y ts) ≡ open_yet
    → out-Term (many_term y ts) ≡ many_layer y ts
many_form y ts o = go (is_many y ts)
  where
    go : IsMany y ts → out-Term (many_term y ts) ≡ many_layer y ts
    go (form e) = e
    go (value x e) = absurd (not_finished _ o (ends.Finished.value x e))

-- what a frame leaves out of a node of many parts
pub record PartOfMany (y : Many) (ts : List Term) (f : Frame) (t : Term) : Type 0 where
  pub before : List Term
  pub behind : List Term
  pub is_frame : f ≡ many_frame y before behind
  pub are_parts : ts ≡ before ++ t ∷ behind

peel_many : (y : Many) (ts : List Term) (f : Frame) (t : Term) → many_layer y ts ≡ on_layer f t
    → PartOfMany y ts f t
peel_many of_group ts (in_group before behind) t e =
    record { before = before; behind = behind; is_frame = refl; are_parts = cc }
peel_many of_group ts in_throw t e = absurd cc
peel_many of_group ts _ t e = absurd cc
peel_many (of_call set) ts (in_call other before behind) t e =
    let q : set ≡ other = cc in
    record {
      before = before;
      behind = behind;
      is_frame = ap (λ z. in_call z before behind) (sym q);
      are_parts = cc;
    }
peel_many (of_call set) ts in_throw t e = absurd cc
peel_many (of_call set) ts _ t e = absurd cc
peel_many of_block ts (in_block before behind) t e =
    record { before = before; behind = behind; is_frame = refl; are_parts = cc }
peel_many of_block ts in_throw t e = absurd cc
peel_many of_block ts _ t e = absurd cc

pub part_of_many : (y : Many) (ts : List Term) (f : Frame) (t : Term) → standing t ≡ open_yet
    → many_term y ts ≡ on f t → PartOfMany y ts f t
part_of_many y ts f t o e =
    peel_many y ts f t
    (sym (many_form y ts (ap standing e ∙ on_open f t o)) ∙ ap out-Term e ∙ out_on f t o)

-- what a frame leaves out of a node of two parts
pub data PartOfPair (y : Pair) (a b : Term) (f : Frame) (t : Term) : Type 0 where
  first_part : f ≡ first_frame y b → a ≡ t → PartOfPair y a b f t
  second_part : f ≡ second_frame y a → b ≡ t → PartOfPair y a b f t

peel_pair : (y : Pair) (a b : Term) (f : Frame) (t : Term) → pair_layer y a b ≡ on_layer f t
    → PartOfPair y a b f t
peel_pair of_apply a b (in_function c) t e =
    let q : c ≡ b = cc in first_part (ap in_function q) cc
peel_pair of_apply a b (in_argument c) t e =
    let q : c ≡ a = cc in second_part (ap in_argument q) cc
peel_pair of_apply a b in_throw t e = absurd cc
peel_pair of_apply a b _ t e = absurd cc
peel_pair of_halves a b (in_first_half c) t e =
    let q : c ≡ b = cc in first_part (ap in_first_half q) cc
peel_pair of_halves a b (in_second_half c) t e =
    let q : c ≡ a = cc in second_part (ap in_second_half q) cc
peel_pair of_halves a b in_throw t e = absurd cc
peel_pair of_halves a b _ t e = absurd cc
peel_pair (of_reduced set) a b (in_first_reduced other c) t e =
    let q : c ≡ b = cc in let r : other ≡ set = cc in
    first_part (λ i. in_first_reduced (r i) (q i)) cc
peel_pair (of_reduced set) a b (in_second_reduced other c) t e =
    let q : c ≡ a = cc in let r : other ≡ set = cc in
    second_part (λ i. in_second_reduced (r i) (q i)) cc
peel_pair (of_reduced set) a b in_throw t e = absurd cc
peel_pair (of_reduced set) a b _ t e = absurd cc

pub part_of_pair : (y : Pair) (a b : Term) (f : Frame) (t : Term) → standing t ≡ open_yet
    → pair_term y a b ≡ on f t → PartOfPair y a b f t
part_of_pair y a b f t o e =
    peel_pair y a b f t (sym (out_pair y a b) ∙ ap out-Term e ∙ out_on f t o)
