-- "Forms" of docs/TRANSLATION.md: which term is built of the last finished ones.
use Rattle.std.specs.Prelude.{ℕ, List, [], ◌∷◌, map, Some, None, pos}
use Rattle.fort_base.specs.declared.ids.NameId.{NameId}
use Rattle.fort_base.specs.declared.ids.SetId.{SetId}
use Rattle.fort_base.specs.declared.ty.Ty.{Ty}
use Rattle.fort_types_builtin.specs.Objects.{location}
use Rattle.fort_core.specs.declared.form.Slot.TheVariants as slot
use Rattle.fort_core.specs.declared.form.Span.TheVariants as span
use Rattle.fort_core.specs.declared.term.Term.{Term, Throw, Variable, Apply, Fill, Let, Mutable, Read, Write, ReadField, WriteField, ReadElement, WriteElement, Size, Then, If, While, Typecase, For, Reduce, Also, Try, Atomic}
use Rattle.fort_core.specs.declared.term.Term as term
use Rattle.fort_core.specs.declared.value.Value.{Truth}
use Rattle.fort_machine.specs.Ends.{group}
use Rattle.fort_machine.specs.Scopes.{function}
use Rattle.fort_form_typed.specs.declared.typed_form.Chosen.{Chosen}
use Rattle.fort_elab_meaning.specs.Parts.{Given}
use Rattle.fort_elab_meaning.specs.Values.{unit_term, no_match, number, text, single, neutral}
use Rattle.fort_elab_meaning.specs.Calls.{call, operation, operated, joined, comparisons}
use Rattle.fort_elab_meaning.specs.Items.{typed_variables, parameter, order_of}
use Rattle.fort_elab_meaning.specs.Choices.{with_types}
use Rattle.fort_elab_meaning.specs.Targets.{variable_term, raised}
use Rattle.fort_elab_tasks.specs.declared.build.Build.{Build}
use Rattle.fort_elab_tasks.specs.declared.build.Build.TheVariants as a_build
use Rattle.fort_elab_tasks.specs.declared.build.Leaf.{Leaf}
use Rattle.fort_elab_tasks.specs.declared.build.Leaf.TheVariants as a_leaf
use Rattle.fort_elab_tasks.specs.declared.build.One.{One}
use Rattle.fort_elab_tasks.specs.declared.build.One.TheVariants as of_one
use Rattle.fort_elab_tasks.specs.declared.build.Two.{Two}
use Rattle.fort_elab_tasks.specs.declared.build.Two.TheVariants as of_two
use Rattle.fort_elab_tasks.specs.declared.build.Three.{Three}
use Rattle.fort_elab_tasks.specs.declared.build.Three.TheVariants as of_three
use Rattle.fort_elab_tasks.specs.declared.build.Whole.{Whole}
use Rattle.fort_elab_tasks.specs.declared.build.Whole.TheVariants as of_list
use Rattle.fort_elab_tasks.specs.declared.state.State.{State}
use Rattle.fort_elab_tasks.specs.States.{put, newest, latest, by_number, on_one, on_two, on_three, on_list, by_list}

-- An immutable local variable, and the rest.
abbrev pub local : ℕ → Ty → Term → Term → Term
local n ty a rest = Let ((n, ty) ∷ []) a rest

-- A function of parameters whose variables have the numbers from one on.
abbrev pub function_term : ℕ → ℕ → List (NameId × Ty) → Ty → Term → Term
function_term number first xs result body =
    function (record {
      number = number;
      parameters = typed_variables first xs;
      result = result;
      body = body;
      held = [];
    })

-- `x.f + e` is written to `x.f`, where x is a local.
abbrev pub field_update : Given → ℕ → Ty → Chosen → NameId → Term → Term → Term
field_update g n ty c f object t =
    local n ty object (WriteField (Variable n) f (operated g c (ReadField (Variable n) f) t))

-- `x[y] + e` is written to `x[y]`, by the variables x and y, and where these are locals.
abbrev pub element_write : Given → ℕ → ℕ → Chosen → Term → Term
element_write g n m c t =
    WriteElement (Variable n) (Variable m) (operated g c (ReadElement (Variable n) (Variable m)) t)

abbrev pub element_update : Given → ℕ → Ty → ℕ → Ty → Chosen → Term → Term → Term → Term
element_update g n ty m ty1 c array index t =
    local n ty array (local m ty1 index (element_write g n m c t))

-- The term of a chain's comparisons, by the variables of its sides.
abbrev pub compared : Given → SetId → List Chosen → List ℕ → Term
compared g set cs ns = joined set (comparisons g cs ns)

abbrev pub leaf_built : Given → Leaf → State → State
leaf_built g (a_leaf.Number n) s = put (term.Value (number n (pos n))) s
leaf_built g (a_leaf.Text n) s = put (term.Value (text g.texts n)) s
leaf_built g (a_leaf.Truth b) s = put (term.Value (Truth b)) s
leaf_built g (a_leaf.Variable mutable) s = by_number (λ n. put (variable_term mutable n)) s
leaf_built g (a_leaf.Top n) s = put (Read (slot.Location (location n))) s
leaf_built g (a_leaf.Single t) s = put (term.Value (single g t)) s
leaf_built g a_leaf.Receiver s = put (Variable s.receiver) s
leaf_built g a_leaf.Unit s = put unit_term s
leaf_built g a_leaf.NoMatch s = put (no_match g) s
leaf_built g (a_leaf.Comparisons set cs k) s = put (compared g set cs.now (latest k s.numbers)) s

abbrev pub one_built : Given → One → State → State
one_built g (of_one.ReadField f) s = on_one (λ t. ReadField t f) s
one_built g of_one.Size s = on_one Size s
one_built g (of_one.Atomic mode) s = on_one (Atomic mode) s
one_built g of_one.Throw s = on_one Throw s
one_built g (of_one.WriteTop n) s = on_one (Write (slot.Location (location n))) s
one_built g of_one.Write s = by_number (λ n. on_one (Write (slot.Variable n))) s
one_built g (of_one.RaiseTop c n) s = on_one (raised g c.now (slot.Location (location n))) s
one_built g (of_one.Raise c) s = by_number (λ n. on_one (raised g c.now (slot.Variable n))) s
one_built g (of_one.Compare c) s = on_one (operated g c.now (Variable (newest s.numbers))) s
one_built g (of_one.Function ps ty) s =
    by_number
    (λ first. by_number (λ n. on_one (function_term n first (map parameter ps.now) ty.now))) s

abbrev pub two_built : Given → Two → State → State
two_built g of_two.ReadElement s = on_two ReadElement s
two_built g (of_two.Fill ty) s = on_two (Fill ty.now) s
two_built g of_two.Apply s = on_two Apply s
two_built g of_two.While s = on_two While s
two_built g of_two.Then s = on_two Then s
two_built g (of_two.WriteField f) s = on_two (λ t. WriteField t f) s
two_built g (of_two.Let ty) s = by_number (λ n. on_two (local n ty.now)) s
two_built g (of_two.Lets xs) s = by_number (λ n. on_two (Let (typed_variables n xs.now))) s
two_built g (of_two.Mutable ty) s = by_number (λ n. on_two (Mutable n ty.now)) s
two_built g (of_two.For sequential) s =
    by_number (λ n. on_two (For (order_of sequential) span.Whole n)) s
two_built g (of_two.Reduce sequential set r ty) s =
    by_number (λ n. on_two (Reduce (order_of sequential) span.Whole set (neutral g r ty.now) n)) s
two_built g (of_two.UpdateField ty c f) s =
    by_number (λ n. on_two (field_update g n ty.now c.now f)) s

abbrev pub three_built : Given → Three → State → State
three_built g of_three.If s = on_three If s
three_built g of_three.WriteElement s = on_three WriteElement s
three_built g (of_three.UpdateElement ty ty1 c) s =
    by_number (λ m. by_number (λ n. on_three (element_update g n ty.now m ty1.now c.now))) s

abbrev pub list_built : Given → Whole → State → State
list_built g of_list.Group s = on_list group s
list_built g (of_list.Call c) s = on_list (call g c.now) s
list_built g (of_list.Operation c) s = on_list (operation g c.now) s
list_built g of_list.Also s = on_list Also s
list_built g (of_list.Typecase types) s =
    by_number (λ n. by_list (λ ts. on_two (λ a b. Typecase n a (with_types ts types.now) b))) s
list_built g (of_list.Try types) s =
    by_number (λ n. by_list (λ ts. on_one (λ a. Try a n (with_types ts types.now) None))) s
list_built g (of_list.TryFinally types) s =
    by_number (λ n. by_list (λ ts. on_two (λ a b. Try a n (with_types ts types.now) (Some b)))) s

-- A term is built.
abbrev pub built : Given → Build → State → State
built g (a_build.Leaf l) s = leaf_built g l s
built g (a_build.One b) s = one_built g b s
built g (a_build.Two b) s = two_built g b s
built g (a_build.Three b) s = three_built g b s
built g (a_build.Whole b) s = list_built g b s
