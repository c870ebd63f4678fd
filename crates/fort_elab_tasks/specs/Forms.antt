-- "Forms" of docs/TRANSLATION.md: what is done for a form, its parts in the order of its row.
use Rattle.std.specs.Prelude.{Bool, true, false, List, [], ◌∷◌, length, map, Option, Some, None, pos}
use Rattle.fort_base.specs.declared.ids.NameId.{NameId}
use Rattle.fort_base.specs.declared.ids.SetId.{SetId}
use Rattle.fort_base.specs.declared.ty.Ty.{Ty}
use Rattle.fort_types_builtin.specs.Objects.{location}
use Rattle.fort_core.specs.declared.form.Mode.TheVariants as mode
use Rattle.fort_core.specs.declared.form.Slot.TheVariants as slot
use Rattle.fort_core.specs.declared.form.Span.TheVariants as span
use Rattle.fort_core.specs.declared.term.Term.{Term, Throw, Variable, Apply, Fill, Let, Mutable, Read, Write, ReadField, WriteField, ReadElement, WriteElement, Size, Then, While, Typecase, For, Reduce, Also, Try, Atomic}
use Rattle.fort_core.specs.declared.term.Term as term
use Rattle.fort_core.specs.declared.value.Value.{Truth}
use Rattle.fort_form.specs.declared.form.Parameter.{Parameter}
use Rattle.fort_machine.specs.Ends.{group}
use Rattle.fort_form_typed.specs.declared.typed_form.Chosen.{Chosen}
use Rattle.fort_form_typed.specs.declared.typed_form.TypedForm.{TypedForm, out-TypedForm}
use Rattle.fort_form_typed.specs.declared.typed_form.TypedForm.TheOpen.{TypedForm-F}
use Rattle.fort_elab_meaning.specs.Parts.{Given}
use Rattle.fort_elab_meaning.specs.Values.{unit_term, no_match, number, text, single, neutral}
use Rattle.fort_elab_meaning.specs.Calls.{call, operation, sides}
use Rattle.fort_elab_meaning.specs.Items.{typed_variables, block, loops, parameter, order_of}
use Rattle.fort_elab_meaning.specs.Choices.{branches, clauses, with_types}
use Rattle.fort_elab_meaning.specs.Targets.{variable_term, raised}
use Rattle.fort_elab_meaning.specs.Translated.{translated, type_of}
use Rattle.fort_elab_tasks.specs.declared.state.State.{State}
use Rattle.fort_elab_tasks.specs.States.{said, put, opened, each, numbered, function_numbered, newest, by_number, by_list, found, named, all_named, left, on_one, on_two, on_three, on_list}
use Rattle.fort_elab_tasks.specs.declared.build.Leaf.{Leaf}
use Rattle.fort_elab_tasks.specs.declared.build.Leaf.TheVariants as a_leaf
use Rattle.fort_elab_tasks.specs.declared.build.Two.{Two}
use Rattle.fort_elab_tasks.specs.Builds.{local, function_term, field_update, element_update, leaf_built, two_built}
use Rattle.fort_elab_tasks.specs.Tasks.{parts, makers, other}

-- A form is gone through.
abbrev pub see : Given → TypedForm → State → State
see g f s = said (translated g f) s

-- A term of a list of forms.
abbrev pub listed : Given → List TypedForm → (List Term → Term) → State → State
listed g fs f s = on_list f (each (makers g fs) (opened s))

-- A chain of one relation is a call of its operator; one of more goes through its sides.
abbrev pub chain_done : Given → SetId → List Chosen → List TypedForm → State → State
chain_done g set (c ∷ []) fs s = listed g fs (operation g c) s
chain_done g set cs fs s = said (sides g set cs (parts g fs) []) s

-- Behind the initial of a local: its name is in scope of the rest of the block.
abbrev pub local_done : NameId → Bool → Ty → (State → State) → State → State
local_done name false ty rest s =
    by_number (λ n. on_two (local n ty)) (left 1 (rest (named name s)))
local_done name true ty rest s =
    by_number (λ n. on_two (Mutable n ty)) (left 1 (rest (named name s)))

-- Behind a tuple whose parts have names.
abbrev pub locals_done : List (NameId × Ty) → (State → State) → State → State
locals_done xs rest s =
    by_number (λ n. on_two (Let (typed_variables n xs))) (left (length xs) (rest (all_named xs s)))

-- The rest of a block.
abbrev pub items_done : Given → List TypedForm → State → State
items_done g fs s = said (block (parts g fs)) s

-- An item of a block, and the rest.
abbrev pub item_done : Given → TypedForm → List TypedForm → TypedForm-F TypedForm → State → State
item_done g f rest (TypedForm-F.Bind ty name mutable written e) s =
    local_done name mutable written (items_done g rest) (see g e s)
item_done g f rest (TypedForm-F.Binds ty xs e) s = locals_done xs (items_done g rest) (see g e s)
item_done g f rest _ s = on_two Then (items_done g rest (see g f s))

-- The variable of a clause's name.
abbrev pub caught : Option NameId → State → State
caught None s = numbered s
caught (Some name) s = named name s

abbrev pub released : Option NameId → State → State
released None s = s
released (Some name) s = left 1 s

-- Behind the clauses of a `try`.
abbrev pub try_done : Given → List Ty → Option TypedForm → State → State
try_done g types None s =
    by_number (λ n. by_list (λ ts. on_one (λ a. Try a n (with_types ts types) None))) s
try_done g types (Some f) s =
    by_number (λ n. by_list (λ ts. on_two (λ a b. Try a n (with_types ts types) (Some b))))
    (see g f s)

-- `t := e`
abbrev pub assigns : Given → TypedForm → TypedForm-F TypedForm → State → State
assigns g e (TypedForm-F.Local ty name mutable) s =
    by_number (λ n. on_one (Write (slot.Variable n))) (see g e (found name s))
assigns g e (TypedForm-F.Top ty n) s = on_one (Write (slot.Location (location n))) (see g e s)
assigns g e (TypedForm-F.ReadField ty o f) s = on_two (λ t. WriteField t f) (see g e (see g o s))
assigns g e (TypedForm-F.ReadElement ty a i) s =
    on_three WriteElement (see g e (see g i (see g a s)))
assigns g e _ s = put unit_term s

-- `t += e`, `t -= e`
abbrev pub updates : Given → Chosen → TypedForm → TypedForm-F TypedForm → State → State
updates g c e (TypedForm-F.Local ty name mutable) s =
    by_number (λ n. on_one (raised g c (slot.Variable n))) (see g e (found name s))
updates g c e (TypedForm-F.Top ty n) s =
    on_one (raised g c (slot.Location (location n))) (see g e s)
updates g c e (TypedForm-F.ReadField ty o f) s =
    by_number (λ n. on_two (field_update g n (type_of o) c f)) (see g e (numbered (see g o s)))
updates g c e (TypedForm-F.ReadElement ty a i) s =
    by_number (λ m. by_number (λ n. on_three (element_update g n (type_of a) m (type_of i) c)))
    (see g e (numbered (see g i (numbered (see g a s)))))
updates g c e _ s = put unit_term s

-- The clauses of a `case`, whose subject is the variable of the newest number.
abbrev pub clauses_done : Given → List Chosen → List TypedForm → List TypedForm → Option TypedForm
    → State → State
clauses_done g cs ts vs e s =
    said (clauses g cs (parts g ts) (parts g vs) (other g e (no_match g)) (newest s.numbers)) s

-- A `case`: its subject is a local.
abbrev pub case_done : Given → TypedForm → List Chosen → List TypedForm → List TypedForm
    → Option TypedForm → State → State
case_done g subject cs ts vs e s =
    by_number (λ n. on_two (local n (type_of subject)))
    (clauses_done g cs ts vs e (numbered (see g subject s)))

-- What stands behind `else`, or a term without parts where nothing does.
abbrev pub else_done : Given → Leaf → Option TypedForm → State → State
else_done g l None s = leaf_built g l s
else_done g l (Some f) s = see g f s

-- A `typecase`: its name is in scope of all clauses and of the `else`.
abbrev pub types_done : Given → NameId → TypedForm → List Ty → List TypedForm → Option TypedForm
    → State → State
types_done g name subject types vs e s =
    by_number (λ n. by_list (λ ts. on_two (λ a b. Typecase n a (with_types ts types) b)))
    (left 1 (else_done g a_leaf.NoMatch e
    (each (makers g vs) (opened (named name (see g subject s))))))

-- A `try`.
abbrev pub catches : Given → TypedForm → Option NameId → List Ty → List TypedForm → Option TypedForm
    → State → State
catches g b name types vs last s =
    try_done g types last (released name (each (makers g vs) (opened (caught name (see g b s)))))

-- A function.
abbrev pub fn_done : Given → List Parameter → TypedForm → State → State
fn_done g ps e s =
    by_number
    (λ first. by_number (λ n. on_one (function_term n first (map parameter ps) (type_of e))))
    (left (length ps) (see g e (all_named (map parameter ps) (function_numbered s))))

-- A reduction, by how its term is built.
abbrev pub reduce_done : Given → Two → NameId → TypedForm → TypedForm → State → State
reduce_done g how name p b s = two_built g how (left 1 (see g b (named name (see g p s))))

-- What is done for a form.
abbrev pub does : Given → TypedForm-F TypedForm → State → State
does g (TypedForm-F.Number ty n) s = put (term.Value (number n (pos n))) s
does g (TypedForm-F.Text ty n) s = put (term.Value (text g.texts n)) s
does g (TypedForm-F.Truth ty b) s = put (term.Value (Truth b)) s
does g (TypedForm-F.Tuple ty fs) s = listed g fs group s
does g (TypedForm-F.Local ty name mutable) s =
    by_number (λ n. put (variable_term mutable n)) (found name s)
does g (TypedForm-F.Top ty n) s = put (Read (slot.Location (location n))) s
does g (TypedForm-F.Single ty t) s = put (term.Value (single g t)) s
does g (TypedForm-F.Receiver ty) s = put (Variable s.receiver) s
does g (TypedForm-F.ReadField ty o f) s = on_one (λ t. ReadField t f) (see g o s)
does g (TypedForm-F.ReadElement ty a i) s = on_two ReadElement (see g i (see g a s))
does g (TypedForm-F.Size ty a) s = on_one Size (see g a s)
does g (TypedForm-F.Fill ty elements n v) s = on_two (Fill elements) (see g v (see g n s))
does g (TypedForm-F.Call ty c fs) s = listed g fs (call g c) s
does g (TypedForm-F.Operation ty c fs) s = listed g fs (operation g c) s
does g (TypedForm-F.Chain ty set cs fs) s = chain_done g set cs fs s
does g (TypedForm-F.Apply ty f a) s = on_two Apply (see g a (see g f s))
does g (TypedForm-F.Fn ty ps e) s = fn_done g ps e s
does g (TypedForm-F.Block ty fs) s = items_done g fs s
does g (TypedForm-F.Bind ty name mutable written e) s =
    local_done name mutable written (items_done g []) (see g e s)
does g (TypedForm-F.Binds ty xs e) s = locals_done xs (items_done g []) (see g e s)
does g (TypedForm-F.Also ty fs) s = listed g fs Also s
does g (TypedForm-F.If ty cs bs e) s =
    said (branches (parts g cs) (parts g bs) (other g e unit_term)) s
does g (TypedForm-F.While ty c b) s = on_two While (see g b (see g c s))
does g (TypedForm-F.For ty xs fs b) s = said (loops xs (parts g fs) (translated g b)) s
does g (TypedForm-F.Case ty subject cs ts vs e) s = case_done g subject cs ts vs e s
does g (TypedForm-F.Typecase ty name subject types vs e) s = types_done g name subject types vs e s
does g (TypedForm-F.Try ty b name types vs last) s = catches g b name types vs last s
does g (TypedForm-F.Atomic ty e) s = on_one (Atomic mode.Atomic) (see g e s)
does g (TypedForm-F.Tryatomic ty e) s = on_one (Atomic mode.Try) (see g e s)
does g (TypedForm-F.Throw ty e) s = on_one Throw (see g e s)
does g (TypedForm-F.Reduce ty r set name sequential p b) s =
    by_number (λ n. on_two (Reduce (order_of sequential) span.Whole set (neutral g r ty) n))
    (left 1 (see g b (named name (see g p s))))
does g (TypedForm-F.Assign ty t e) s = assigns g e (out-TypedForm t) s
does g (TypedForm-F.Update ty t c e) s = updates g c e (out-TypedForm t) s
