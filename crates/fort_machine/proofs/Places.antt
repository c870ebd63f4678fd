-- Places in a term: the path of a thread determines what stands there.
use Rattle.std.proofs.Common.{◌≡◌, ℕ, true, List, [], ◌∷◌, ◌++◌, map, length, refl, ap, sym, ◌∙◌, arith, append_assoc, ◌⊎◌, inl, inr}
use Rattle.std.proofs.lemmas.List.{append-nil}
use Rattle.fort_base.specs.declared.ids.SetId.{SetId}
use Rattle.fort_core.specs.declared.term.Term.{Term, out-Term}
use Rattle.fort_core.specs.declared.term.Term as term
use Rattle.fort_core.specs.declared.term.Term.TheVariants.{outs-Group, outs-Call, outs-Operator, outs-Apply, outs-Fill, outs-Let, outs-Mutable, outs-Write, outs-ReadField, outs-WriteField, outs-ReadElement, outs-WriteElement, outs-Size, outs-Then, outs-If, outs-Typecase, outs-For, outs-ForHalves, outs-Reduce, outs-ReduceHalves, outs-Also, outs-Try, outs-Throw, outs-Stepped}
use Rattle.fort_core.specs.declared.term.Term.TheOpen.{Term-F}
use Rattle.fort_core.specs.declared.value.Value.{Value}
use Rattle.fort_core.specs.declared.value.Closure.{Closure}
use Rattle.fort_machine.specs.Ends.{Standing, at_value, open_yet, standing_at, standing, Finished}
use Rattle.fort_machine.specs.Frames.{Frame, in_group, in_call, in_function, in_argument, in_first_half, in_second_half, in_first_reduced, in_second_reduced, in_block, in_throw, in_operand, in_fill_size, in_fill_value, in_let, in_mutable, in_write, in_field, in_field_target, in_field_value, in_element, in_index, in_element_target, in_element_index, in_element_value, in_size, in_then, in_test, in_subject, in_source, in_reduced_source, in_try, in_stepped, on, plug, part_number, road, passes}
use Rattle.fort_machine.specs.Attempts.{Ready}
use Rattle.fort_machine.specs.RunLaws.{OnePlace}
use Rattle.fort_machine.proofs.Standing.{standing-Value, not_finished, is_open, open_thrown, values_open, group_open, stepped_open}

abbrev pub on_layer : Frame → Term → Term-F Term Value Closure
on_layer (in_group before behind) t = Term-F.Group (before ++ t ∷ behind)
on_layer (in_call set before behind) t = Term-F.Call set (before ++ t ∷ behind)
on_layer (in_function argument) t = Term-F.Apply t argument
on_layer (in_argument function) t = Term-F.Apply function t
on_layer (in_first_half second) t = Term-F.ForHalves t second
on_layer (in_second_half first) t = Term-F.ForHalves first t
on_layer (in_first_reduced set second) t = Term-F.ReduceHalves set t second
on_layer (in_second_reduced set first) t = Term-F.ReduceHalves set first t
on_layer (in_block before behind) t = Term-F.Also (before ++ t ∷ behind)
on_layer in_throw t = Term-F.Throw t
on_layer (in_operand set before behind) t =
    Term-F.Operator set (map term.Value before ++ t ∷ behind)
on_layer (in_fill_size ty value) t = Term-F.Fill ty t value
on_layer (in_fill_value ty size) t = Term-F.Fill ty (term.Value size) t
on_layer (in_let xs rest) t = Term-F.Let xs t rest
on_layer (in_mutable x ty rest) t = Term-F.Mutable x ty t rest
on_layer (in_write slot) t = Term-F.Write slot t
on_layer (in_field field) t = Term-F.ReadField t field
on_layer (in_field_target field value) t = Term-F.WriteField t field value
on_layer (in_field_value object field) t = Term-F.WriteField (term.Value object) field t
on_layer (in_element index) t = Term-F.ReadElement t index
on_layer (in_index array) t = Term-F.ReadElement (term.Value array) t
on_layer (in_element_target index value) t = Term-F.WriteElement t index value
on_layer (in_element_index array value) t = Term-F.WriteElement (term.Value array) t value
on_layer (in_element_value array index) t =
    Term-F.WriteElement (term.Value array) (term.Value index) t
on_layer in_size t = Term-F.Size t
on_layer (in_then rest) t = Term-F.Then t rest
on_layer (in_test one two) t = Term-F.If t one two
on_layer (in_subject x clauses other) t = Term-F.Typecase x t clauses other
on_layer (in_source o s x body) t = Term-F.For o s x t body
on_layer (in_reduced_source o s set empty x body) t = Term-F.Reduce o s set empty x t body
on_layer (in_try x clauses last) t = Term-F.Try t x clauses last
on_layer in_stepped t = Term-F.Stepped t

-- the layer of a term round an open part
pub out_on : (f : Frame) (t : Term) → standing t ≡ open_yet → out-Term (on f t) ≡ on_layer f t
out_on (in_group before behind) t o =
    ap out-Term (group_open _ (values_open before behind t o)) ∙ outs-Group _
out_on (in_call set before behind) t o = outs-Call _ _
out_on (in_function argument) t o = outs-Apply _ _
out_on (in_argument function) t o = outs-Apply _ _
out_on (in_first_half second) t o = outs-ForHalves _ _
out_on (in_second_half first) t o = outs-ForHalves _ _
out_on (in_first_reduced set second) t o = outs-ReduceHalves _ _ _
out_on (in_second_reduced set first) t o = outs-ReduceHalves _ _ _
out_on (in_block before behind) t o = outs-Also _
out_on in_throw t o = outs-Throw _
out_on (in_operand set before behind) t o = outs-Operator _ _
out_on (in_fill_size ty value) t o = outs-Fill _ _ _
out_on (in_fill_value ty size) t o = outs-Fill _ _ _
out_on (in_let xs rest) t o = outs-Let _ _ _
out_on (in_mutable x ty rest) t o = outs-Mutable _ _ _ _
out_on (in_write slot) t o = outs-Write _ _
out_on (in_field field) t o = outs-ReadField _ _
out_on (in_field_target field value) t o = outs-WriteField _ _ _
out_on (in_field_value object field) t o = outs-WriteField _ _ _
out_on (in_element index) t o = outs-ReadElement _ _
out_on (in_index array) t o = outs-ReadElement _ _
out_on (in_element_target index value) t o = outs-WriteElement _ _ _
out_on (in_element_index array value) t o = outs-WriteElement _ _ _
out_on (in_element_value array index) t o = outs-WriteElement _ _ _
out_on in_size t o = outs-Size _
out_on (in_then rest) t o = outs-Then _ _
out_on (in_test one two) t o = outs-If _ _ _
out_on (in_subject x clauses other) t o = outs-Typecase _ _ _ _
out_on (in_source s1 s2 x body) t o = outs-For _ _ _ _ _
out_on (in_reduced_source s1 s2 set empty x body) t o = outs-Reduce _ _ _ _ _ _ _
out_on (in_try x clauses last) t o = outs-Try _ _ _ _
out_on in_stepped t o = ap out-Term (stepped_open t o) ∙ outs-Stepped t

layer_open : (f : Frame) (t : Term) → standing t ≡ open_yet → standing_at (on_layer f t) ≡ open_yet
layer_open in_throw t o = open_thrown (out-Term t) o
layer_open _ t o = refl

pub on_open : (f : Frame) (t : Term) → standing t ≡ open_yet → standing (on f t) ≡ open_yet
on_open f t o = ap standing_at (out_on f t o) ∙ layer_open f t o

pub plug_open : (fs : List Frame) (a : Term) → standing a ≡ open_yet
    → standing (plug fs a) ≡ open_yet
plug_open [] a o = o
plug_open (f ∷ fs) a o = on_open f (plug fs a) (plug_open fs a o)

-- the parallel nodes
data Node : Type 0 where
  a_group : Node
  a_call : (set : SetId) → Node
  an_application : Node
  two_halves : Node
  two_reduced : (set : SetId) → Node
  a_block : Node

data Kind : Type 0 where
  lone : Kind
  beside : (node : Node) (before behind : List Term) → Kind

abbrev kind_of : Frame → Kind
kind_of (in_group before behind) = beside a_group before behind
kind_of (in_call set before behind) = beside (a_call set) before behind
kind_of (in_function argument) = beside an_application [] (argument ∷ [])
kind_of (in_argument function) = beside an_application (function ∷ []) []
kind_of (in_first_half second) = beside two_halves [] (second ∷ [])
kind_of (in_second_half first) = beside two_halves (first ∷ []) []
kind_of (in_first_reduced set second) = beside (two_reduced set) [] (second ∷ [])
kind_of (in_second_reduced set first) = beside (two_reduced set) (first ∷ []) []
kind_of (in_block before behind) = beside a_block before behind
kind_of _ = lone

abbrev back_of : Kind → Frame
back_of (beside a_group before behind) = in_group before behind
back_of (beside (a_call set) before behind) = in_call set before behind
back_of (beside an_application [] (argument ∷ more)) = in_function argument
back_of (beside an_application (function ∷ more) behind) = in_argument function
back_of (beside two_halves [] (second ∷ more)) = in_first_half second
back_of (beside two_halves (first ∷ more) behind) = in_second_half first
back_of (beside (two_reduced set) [] (second ∷ more)) = in_first_reduced set second
back_of (beside (two_reduced set) (first ∷ more) behind) = in_second_reduced set first
back_of (beside a_block before behind) = in_block before behind
back_of _ = in_throw

backs : (f : Frame) → (kind_of f ≡ lone) ⊎ (f ≡ back_of (kind_of f))
backs (in_group before behind) = inr refl
backs (in_call set before behind) = inr refl
backs (in_function argument) = inr refl
backs (in_argument function) = inr refl
backs (in_first_half second) = inr refl
backs (in_second_half first) = inr refl
backs (in_first_reduced set second) = inr refl
backs (in_second_reduced set first) = inr refl
backs (in_block before behind) = inr refl
backs _ = inl refl

frame_back : (f : Frame) (n : Node) (before behind : List Term) → kind_of f ≡ beside n before behind
    → f ≡ back_of (beside n before behind)
frame_back f n before behind e = go (backs f)
  where
    go : (kind_of f ≡ lone) ⊎ (f ≡ back_of (kind_of f)) → f ≡ back_of (beside n before behind)
    go (inl q) = absurd cc
    go (inr q) = q ∙ ap back_of e

abbrev number_of : Kind → List ℕ
number_of lone = []
number_of (beside n before behind) = length before ∷ []

number_kind : (f : Frame) → part_number f ≡ number_of (kind_of f)
number_kind (in_group before behind) = refl
number_kind (in_call set before behind) = refl
number_kind (in_function argument) = refl
number_kind (in_argument function) = refl
number_kind (in_first_half second) = refl
number_kind (in_second_half first) = refl
number_kind (in_first_reduced set second) = refl
number_kind (in_second_reduced set first) = refl
number_kind (in_block before behind) = refl
number_kind _ = refl

-- a form's next part, or its parts beside each other
data Next : Type 0 where
  over : Next
  serial : (frame : Frame) (part : Term) → Next
  parallel : (node : Node) (parts : List Term) → Next

abbrev first : Standing → Next → (Value → Next) → Next
first (at_value v) n k = k v
first _ n k = n

abbrev operand : SetId → List Value → List Term → Next
operand set vs [] = over
operand set vs (t ∷ ts) =
    first (standing t) (serial (in_operand set vs ts) t) (λ v. operand set (vs ++ v ∷ []) ts)

abbrev next_at : Term-F Term Value Closure → Next
next_at (Term-F.Group parts) = parallel a_group parts
next_at (Term-F.Call set arguments) = parallel (a_call set) arguments
next_at (Term-F.Apply f a) = parallel an_application (f ∷ a ∷ [])
next_at (Term-F.ForHalves a b) = parallel two_halves (a ∷ b ∷ [])
next_at (Term-F.ReduceHalves set a b) = parallel (two_reduced set) (a ∷ b ∷ [])
next_at (Term-F.Also blocks) = parallel a_block blocks
next_at (Term-F.Throw a) = serial in_throw a
next_at (Term-F.Operator set operands) = operand set [] operands
next_at (Term-F.Fill ty n a) =
    first (standing n) (serial (in_fill_size ty a) n) (λ v. serial (in_fill_value ty v) a)
next_at (Term-F.Let xs a b) = serial (in_let xs b) a
next_at (Term-F.Mutable x ty a b) = serial (in_mutable x ty b) a
next_at (Term-F.Write x a) = serial (in_write x) a
next_at (Term-F.ReadField o f) = serial (in_field f) o
next_at (Term-F.WriteField o f a) =
    first (standing o) (serial (in_field_target f a) o) (λ v. serial (in_field_value v f) a)
next_at (Term-F.ReadElement a i) =
    first (standing a) (serial (in_element i) a) (λ v. serial (in_index v) i)
next_at (Term-F.WriteElement a i b) =
    first (standing a) (serial (in_element_target i b) a)
    (λ v. first (standing i) (serial (in_element_index v b) i)
    (λ w. serial (in_element_value v w) b))
next_at (Term-F.Size a) = serial in_size a
next_at (Term-F.Then a b) = serial (in_then b) a
next_at (Term-F.If c a b) = serial (in_test a b) c
next_at (Term-F.Typecase x a cs b) = serial (in_subject x cs b) a
next_at (Term-F.For o s x a b) = serial (in_source o s x b) a
next_at (Term-F.Reduce o s set empty x a b) = serial (in_reduced_source o s set empty x b) a
next_at (Term-F.Try a x cs last) = serial (in_try x cs last) a
next_at (Term-F.Stepped a) = serial in_stepped a
next_at _ = over

abbrev by_kind : Frame → Term → Kind → Next
by_kind f t lone = serial f t
by_kind f t (beside n before behind) = parallel n (before ++ t ∷ behind)

first_value : (v : Value) (n : Next) (k : Value → Next) → first (standing (term.Value v)) n k ≡ k v
first_value v n k = ap (λ st. first st n k) (standing-Value v)

first_open : (t : Term) (n : Next) (k : Value → Next) → standing t ≡ open_yet
    → first (standing t) n k ≡ n
first_open t n k o = ap (λ st. first st n k) o

operand_on : (set : SetId) (done before : List Value) (behind : List Term) (t : Term)
    → standing t ≡ open_yet
    → operand set done (map term.Value before ++ t ∷ behind)
    ≡ serial (in_operand set (done ++ before) behind) t
operand_on set done [] behind t o =
    first_open t _ _ o ∙ ap (λ x. serial (in_operand set x behind) t) (sym (append-nil done))
operand_on set done (v ∷ before) behind t o =
    first_value v _ _ ∙ operand_on set (done ++ v ∷ []) before behind t o
    ∙ ap (λ x. serial (in_operand set x behind) t) (append_assoc done (v ∷ []) before)

next_on : (f : Frame) (t : Term) → standing t ≡ open_yet
    → next_at (on_layer f t) ≡ by_kind f t (kind_of f)
next_on (in_operand set before behind) t o = operand_on set [] before behind t o
next_on (in_fill_size ty value) t o = first_open t _ _ o
next_on (in_fill_value ty size) t o = first_value size _ _
next_on (in_field_target field value) t o = first_open t _ _ o
next_on (in_field_value object field) t o = first_value object _ _
next_on (in_element index) t o = first_open t _ _ o
next_on (in_index array) t o = first_value array _ _
next_on (in_element_target index value) t o = first_open t _ _ o
next_on (in_element_index array value) t o = first_value array _ _ ∙ first_open t _ _ o
next_on (in_element_value array index) t o = first_value array _ _ ∙ first_value index _ _
next_on _ t o = refl

data Compared (f g : Frame) (x y : Term) : Type 0 where
  same : f ≡ g → x ≡ y → part_number f ≡ [] → part_number g ≡ [] → Compared f g x y
  parts : (bef beh bef2 beh2 : List Term) → part_number f ≡ length bef ∷ []
      → part_number g ≡ length bef2 ∷ [] → bef ++ x ∷ beh ≡ bef2 ++ y ∷ beh2
      → (bef ≡ bef2 → beh ≡ beh2 → f ≡ g) → Compared f g x y

compare_kinds : (f g : Frame) (x y : Term) (k m : Kind) → kind_of f ≡ k → kind_of g ≡ m
    → by_kind f x k ≡ by_kind g y m → Compared f g x y
compare_kinds f g x y lone lone a b q =
    same (cc) (cc) (number_kind f ∙ ap number_of a) (number_kind g ∙ ap number_of b)
compare_kinds f g x y lone (beside n bef beh) a b q = absurd cc
compare_kinds f g x y (beside n bef beh) lone a b q = absurd cc
compare_kinds f g x y (beside n bef beh) (beside n2 bef2 beh2) a b q =
    let w : n ≡ n2 = cc in
    parts bef beh bef2 beh2 (number_kind f ∙ ap number_of a) (number_kind g ∙ ap number_of b) (cc)
    (λ s r. frame_back f n bef beh a ∙ (λ i. back_of (beside (w i) (s i) (r i)))
    ∙ sym (frame_back g n2 bef2 beh2 b))

compare : (f g : Frame) (x y : Term) → standing x ≡ open_yet → standing y ≡ open_yet
    → on f x ≡ on g y → Compared f g x y
compare f g x y ox oy e =
    compare_kinds f g x y (kind_of f) (kind_of g) refl refl (sym (next_on f x ox)
    ∙ ap next_at (sym (out_on f x ox) ∙ ap out-Term e ∙ out_on g y oy) ∙ next_on g y oy)

same_middle : (xs ys ps qs : List Term) (x y : Term) → length xs ≡ length ps
    → xs ++ x ∷ ys ≡ ps ++ y ∷ qs → (xs ≡ ps) × (x ≡ y) × (ys ≡ qs)
same_middle [] ys [] qs x y n e = (refl, cc, cc)
same_middle [] ys (p ∷ ps) qs x y n e = absurd (omega arith)
same_middle (z ∷ xs) ys [] qs x y n e = absurd (omega arith)
same_middle (z ∷ xs) ys (p ∷ ps) qs x y n e =
    let i = same_middle xs ys ps qs x y (omega arith) (cc) in
    let h : z ≡ p = cc in (cc (i.0, h), i.1, i.2)

pub ready_open : (a : Term) → Ready a → standing a ≡ open_yet
ready_open a r = is_open a r.unfinished

-- a part that is passed over has a number, so no path ends round it
passes_number : (f : Frame) (t : Term) → passes f t ≡ true → part_number f ≡ [] → ⊥
passes_number (in_group before behind) t e n = cc
passes_number (in_call set before behind) t e n = cc
passes_number (in_function argument) t e n = cc
passes_number (in_argument function) t e n = cc
passes_number (in_first_half second) t e n = cc
passes_number (in_second_half first) t e n = cc
passes_number (in_first_reduced set second) t e n = cc
passes_number (in_second_reduced set first) t e n = cc
passes_number (in_block before behind) t e n = cc
passes_number _ t e n = cc

no_front : (ns ms : List ℕ) → [] ≡ ns ++ ms → ns ≡ []
no_front [] ms e = refl
no_front (n ∷ ns) ms e = absurd cc

not_waiting : (f : Frame) (fs : List Frame) (t : Term) → standing t ≡ open_yet
    → Finished t ⊎ (passes f t ≡ true) → [] ≡ road (f ∷ fs) → ⊥
not_waiting f fs t o (inl h) p = not_finished t o h
not_waiting f fs t o (inr h) p = passes_number f t h (no_front (part_number f) (road fs) p)

pub one_place : OnePlace
one_place [] [] a b e p ra rb = (refl, e)
one_place [] (g ∷ gs) a b e p ra rb =
    absurd (not_waiting g gs (plug gs b) (plug_open gs b (ready_open b rb))
    (ra.no_part g (plug gs b) e) p)
one_place (f ∷ fs) [] a b e p ra rb =
    absurd (not_waiting f fs (plug fs a) (plug_open fs a (ready_open a ra))
    (rb.no_part f (plug fs a) (sym e)) (sym p))
one_place (f ∷ fs) (g ∷ gs) a b e p ra rb =
    go (compare f g (plug fs a) (plug gs b) (plug_open fs a (ready_open a ra))
    (plug_open gs b (ready_open b rb)) e) (λ h k. one_place fs gs a b h k ra rb)
  where
    go : Compared f g (plug fs a) (plug gs b)
        → (plug fs a ≡ plug gs b → road fs ≡ road gs → (fs ≡ gs) × (a ≡ b))
        → (f ∷ fs ≡ g ∷ gs) × (a ≡ b)
    go (same h k n m) ih =
        let i = ih k (sym (ap (λ x. x ++ road fs) n) ∙ p ∙ ap (λ x. x ++ road gs) m) in
        (cc (h, i.0), i.1)
    go (parts bef beh bef2 beh2 n n2 l back) ih =
        let q : length bef ∷ road fs ≡ length bef2 ∷ road gs =
        sym (ap (λ x. x ++ road fs) n) ∙ p ∙ ap (λ x. x ++ road gs) n2 in
        let m = same_middle bef beh bef2 beh2 (plug fs a) (plug gs b) (cc) l in
        let i = ih m.1 (cc) in
        let fg = back m.0 m.2 in
        (cc (fg, i.0), i.1)

-- A place below another one's path is that place, where no open part stands in what is there.
pub place_below : (fs gs : List Frame) (a b : Term) (more : List ℕ) → plug fs a ≡ plug gs b
    → road gs ≡ road fs ++ more → Ready a → Ready b
    → ((f : Frame) (x : Term) → standing x ≡ open_yet → a ≡ on f x → ⊥) → (fs ≡ gs) × (a ≡ b)
place_below [] [] a b more e p ra rb whole = (refl, e)
place_below [] (g ∷ gs) a b more e p ra rb whole =
    absurd (whole g (plug gs b) (plug_open gs b (ready_open b rb)) e)
place_below (f ∷ fs) [] a b more e p ra rb whole =
    absurd (not_waiting f fs (plug fs a) (plug_open fs a (ready_open a ra))
    (rb.no_part f (plug fs a) (sym e)) (sym (no_front (road (f ∷ fs)) more p)))
place_below (f ∷ fs) (g ∷ gs) a b more e p ra rb whole =
    go (compare f g (plug fs a) (plug gs b) (plug_open fs a (ready_open a ra))
    (plug_open gs b (ready_open b rb)) e)
    (λ h k. place_below fs gs a b more h k ra rb whole)
  where
    go : Compared f g (plug fs a) (plug gs b)
        → (plug fs a ≡ plug gs b → road gs ≡ road fs ++ more → (fs ≡ gs) × (a ≡ b))
        → (f ∷ fs ≡ g ∷ gs) × (a ≡ b)
    go (same h k n m) ih =
        let i = ih k (sym (ap (λ x. x ++ road gs) m) ∙ p
        ∙ ap (λ x. (x ++ road fs) ++ more) n) in
        (cc (h, i.0), i.1)
    go (parts bef beh bef2 beh2 n n2 l back) ih =
        let q : length bef2 ∷ road gs ≡ length bef ∷ (road fs ++ more) =
        sym (ap (λ x. x ++ road gs) n2) ∙ p ∙ ap (λ x. (x ++ road fs) ++ more) n in
        let m = same_middle bef beh bef2 beh2 (plug fs a) (plug gs b) (cc) l in
        let i = ih m.1 (cc) in
        let fg = back m.0 m.2 in
        (cc (fg, i.0), i.1)
