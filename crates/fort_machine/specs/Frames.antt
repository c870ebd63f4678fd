-- Chapter "Terms and threads": what stands round a part that steps, and the paths of threads. The
-- code keeps a list of frames beside a term; here a frame is a term with one part left out.
use Rattle.std.specs.Prelude.{ℕ, Bool, false, ◌&&◌, ◌||◌, List, [], ◌∷◌, ◌++◌, map, length, Option}
use Rattle.std.specs.List.{list_any}
use Rattle.fort_base.specs.declared.ids.NameId.{NameId}
use Rattle.fort_base.specs.declared.ids.SetId.{SetId}
use Rattle.fort_base.specs.declared.ty.Ty.{Ty}
use Rattle.fort_core.specs.declared.form.Order.{Order}
use Rattle.fort_core.specs.declared.form.Slot.{Slot}
use Rattle.fort_core.specs.declared.form.Span.{Span}
use Rattle.fort_core.specs.declared.term.Term.{Term, Throw, Call, Operator, Apply, Fill, Let, Mutable, Write, ReadField, WriteField, ReadElement, WriteElement, Size, Then, If, Typecase, For, ForHalves, Reduce, ReduceHalves, Also, Try}
use Rattle.fort_core.specs.declared.term.Term as term
use Rattle.fort_core.specs.declared.value.Value.{Value}
use Rattle.fort_machine.specs.Ends.{group, stepped, is_still, is_thrown}

-- A term with one part left out. First the parallel nodes, any part of which may be left out; then
-- the forms that go from left to right, whose parts before the one that is left out are values.
-- Last the mark that a step was taken in a part of a parallel node.
pub data Frame : Type 0 where
  in_group : (before behind : List Term) → Frame
  in_call : (set : SetId) (before behind : List Term) → Frame
  in_function : (argument : Term) → Frame
  in_argument : (function : Term) → Frame
  in_first_half : (second : Term) → Frame
  in_second_half : (first : Term) → Frame
  in_first_reduced : (set : SetId) (second : Term) → Frame
  in_second_reduced : (set : SetId) (first : Term) → Frame
  in_block : (before behind : List Term) → Frame
  in_throw : Frame
  in_operand : (set : SetId) (before : List Value) (behind : List Term) → Frame
  in_fill_size : (ty : Ty) (value : Term) → Frame
  in_fill_value : (ty : Ty) (size : Value) → Frame
  in_let : (variables : List (ℕ × Ty)) (rest : Term) → Frame
  in_mutable : (variable : ℕ) (ty : Ty) (rest : Term) → Frame
  in_write : (slot : Slot) → Frame
  in_field : (field : NameId) → Frame
  in_field_target : (field : NameId) (value : Term) → Frame
  in_field_value : (object : Value) (field : NameId) → Frame
  in_element : (index : Term) → Frame
  in_index : (array : Value) → Frame
  in_element_target : (index value : Term) → Frame
  in_element_index : (array : Value) (value : Term) → Frame
  in_element_value : (array index : Value) → Frame
  in_size : Frame
  in_then : (rest : Term) → Frame
  in_test : (first second : Term) → Frame
  in_subject : (variable : ℕ) (clauses : List (Term × Ty)) (other : Term) → Frame
  in_source : (order : Order) (span : Span) (variable : ℕ) (body : Term) → Frame
  in_reduced_source : (order : Order) (span : Span) (set : SetId) (empty : Term) (variable : ℕ)
      (body : Term) → Frame
  in_try : (variable : ℕ) (clauses : List (Term × Ty)) (last : Option Term) → Frame
  in_stepped : Frame

-- The term with a part in the place that is left out.
abbrev pub on : Frame → Term → Term
on (in_group before behind) t = group (before ++ t ∷ behind)
on (in_call set before behind) t = Call set (before ++ t ∷ behind)
on (in_function argument) t = Apply t argument
on (in_argument function) t = Apply function t
on (in_first_half second) t = ForHalves t second
on (in_second_half first) t = ForHalves first t
on (in_first_reduced set second) t = ReduceHalves set t second
on (in_second_reduced set first) t = ReduceHalves set first t
on (in_block before behind) t = Also (before ++ t ∷ behind)
on in_throw t = Throw t
on (in_operand set before behind) t = Operator set (map term.Value before ++ t ∷ behind)
on (in_fill_size ty value) t = Fill ty t value
on (in_fill_value ty size) t = Fill ty (term.Value size) t
on (in_let variables rest) t = Let variables t rest
on (in_mutable variable ty rest) t = Mutable variable ty t rest
on (in_write slot) t = Write slot t
on (in_field field) t = ReadField t field
on (in_field_target field value) t = WriteField t field value
on (in_field_value object field) t = WriteField (term.Value object) field t
on (in_element index) t = ReadElement t index
on (in_index array) t = ReadElement (term.Value array) t
on (in_element_target index value) t = WriteElement t index value
on (in_element_index array value) t = WriteElement (term.Value array) t value
on (in_element_value array index) t = WriteElement (term.Value array) (term.Value index) t
on in_size t = Size t
on (in_then rest) t = Then t rest
on (in_test first second) t = If t first second
on (in_subject variable clauses other) t = Typecase variable t clauses other
on (in_source order span variable body) t = For order span variable t body
on (in_reduced_source order span set empty variable body) t =
    Reduce order span set empty variable t body
on (in_try variable clauses last) t = Try t variable clauses last
on in_stepped t = stepped t

-- A term with a part in the place that frames leave out, each inside the one before it.
abbrev pub plug : List Frame → Term → Term
plug [] t = t
plug (f ∷ fs) t = on f (plug fs t)

-- The number of the part that is left out; in a form that goes from left to right the part is of
-- the same thread.
abbrev pub part_number : Frame → List ℕ
part_number (in_group before behind) = length before ∷ []
part_number (in_call set before behind) = length before ∷ []
part_number (in_function argument) = 0 ∷ []
part_number (in_argument function) = 1 ∷ []
part_number (in_first_half second) = 0 ∷ []
part_number (in_second_half first) = 1 ∷ []
part_number (in_first_reduced set second) = 0 ∷ []
part_number (in_second_reduced set first) = 1 ∷ []
part_number (in_block before behind) = length before ∷ []
part_number _ = []

-- The thread that frames lead to: the numbers of the parts, from the outermost on.
abbrev pub road : List Frame → List ℕ
road [] = []
road (f ∷ fs) = part_number f ++ road fs

-- The parts beside the one that is left out, in a parallel node.
abbrev pub beside : Frame → List Term
beside (in_group before behind) = before ++ behind
beside (in_call set before behind) = before ++ behind
beside (in_function argument) = argument ∷ []
beside (in_argument function) = function ∷ []
beside (in_first_half second) = second ∷ []
beside (in_second_half first) = first ∷ []
beside (in_first_reduced set second) = second ∷ []
beside (in_second_reduced set first) = first ∷ []
beside (in_block before behind) = before ++ behind
beside _ = []

-- Whether a part is passed over: it isn't finished, no step was taken in it, and a part beside it
-- is a throw.
abbrev pub passes : Frame → Term → Bool
passes f t = list_any is_thrown (beside f) && is_still t

-- Whether frames lead to a term through a part that is passed over.
abbrev pub passed : List Frame → Term → Bool
passed [] t = false
passed (f ∷ fs) t = passes f (plug fs t) || passed fs t

-- Frames behind a part's number, the part with its mark; without a number there is none.
abbrev pub with_mark : List ℕ → List Frame → List Frame
with_mark [] fs = fs
with_mark (n ∷ ns) (in_stepped ∷ fs) = in_stepped ∷ fs
with_mark (n ∷ ns) fs = in_stepped ∷ fs

-- What stands round a part after a step in it: each part on the way has its mark.
abbrev pub trodden : List Frame → List Frame
trodden [] = []
trodden (f ∷ fs) = f ∷ with_mark (part_number f) (trodden fs)
