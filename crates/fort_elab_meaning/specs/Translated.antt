-- "Forms" of docs/TRANSLATION.md: the term of each form, one case each. The code goes over the
-- forms with a stack of tasks.
use Rattle.std.specs.Prelude.{ℕ, Bool, true, false, List, [], ◌∷◌, map, Option}
use Rattle.fort_base.specs.declared.ids.NameId.{NameId}
use Rattle.fort_base.specs.declared.ty.Ty.{Ty}
use Rattle.fort_types_builtin.specs.Objects.{location}
use Rattle.fort_core.specs.declared.form.Mode.TheVariants as mode
use Rattle.fort_core.specs.declared.form.Slot.TheVariants as slot
use Rattle.fort_core.specs.declared.term.Term.{Term, Throw, Variable, Apply, Fill, Read, ReadField, ReadElement, Size, While, Also, Atomic}
use Rattle.fort_core.specs.declared.term.Term as term
use Rattle.fort_core.specs.declared.value.Value.{Truth}
use Rattle.fort_machine.specs.Ends.{group}
use Rattle.fort_form_typed.specs.declared.typed_form.TypedForm.{TypedForm, fold-TypedForm, out-TypedForm}
use Rattle.fort_form_typed.specs.declared.typed_form.TypedForm.TheOpen.{TypedForm-F}
use Rattle.std.specs.Prelude.{pos}
use Rattle.fort_elab_meaning.specs.Making.{Scope, Maker, Made, number_of, still, one, two, many}
use Rattle.fort_elab_meaning.specs.Parts.{Given, Role, expression, local, locals, variable, top, field, element, Part, maker_of}
use Rattle.fort_elab_meaning.specs.Values.{unit_term, number, text, single, neutral}
use Rattle.fort_elab_meaning.specs.Calls.{call, operation, chain}
use Rattle.fort_elab_meaning.specs.Items.{binding, bindings, block, parameter, fn, loops, reduction}
use Rattle.fort_elab_meaning.specs.Choices.{or_else, branches, cases, typecase, trying}
use Rattle.fort_elab_meaning.specs.Targets.{variable_term, assigned, updated}

-- What a variable in scope becomes, and the receiver.
abbrev pub named : NameId → Bool → Maker
named name mutable s c = still (variable_term mutable (number_of s.names name)) s c

abbrev pub received : Maker
received s c = still (Variable s.receiver) s c

-- The term of a form.
abbrev pub made_at : Given → TypedForm-F Part → Maker
made_at g (TypedForm-F.Number ty n) = still (term.Value (number n (pos n)))
made_at g (TypedForm-F.Text ty n) = still (term.Value (text g.texts n))
made_at g (TypedForm-F.Truth ty b) = still (term.Value (Truth b))
made_at g (TypedForm-F.Tuple ty ps) = many group (map maker_of ps)
made_at g (TypedForm-F.Local ty name mutable) = named name mutable
made_at g (TypedForm-F.Top ty n) = still (Read (slot.Location (location n)))
made_at g (TypedForm-F.Single ty t) = still (term.Value (single g t))
made_at g (TypedForm-F.Receiver ty) = received
made_at g (TypedForm-F.ReadField ty o f) = one (λ t. ReadField t f) o.maker
made_at g (TypedForm-F.ReadElement ty a i) = two ReadElement a.maker i.maker
made_at g (TypedForm-F.Size ty a) = one Size a.maker
made_at g (TypedForm-F.Fill ty elements n v) = two (Fill elements) n.maker v.maker
made_at g (TypedForm-F.Call ty c ps) = many (call g c) (map maker_of ps)
made_at g (TypedForm-F.Operation ty c ps) = many (operation g c) (map maker_of ps)
made_at g (TypedForm-F.Chain ty set cs ps) = chain g set cs ps
made_at g (TypedForm-F.Apply ty f a) = two Apply f.maker a.maker
made_at g (TypedForm-F.Fn ty xs e) = fn (map parameter xs) e.ty e.maker
made_at g (TypedForm-F.Block ty ps) = block ps
made_at g (TypedForm-F.Bind ty name mutable written e) =
    binding name mutable written e.maker (still unit_term)
made_at g (TypedForm-F.Binds ty xs e) = bindings xs e.maker (still unit_term)
made_at g (TypedForm-F.Also ty ps) = many Also (map maker_of ps)
made_at g (TypedForm-F.If ty cs bs other) = branches cs bs (or_else other unit_term)
made_at g (TypedForm-F.While ty c b) = two While c.maker b.maker
made_at g (TypedForm-F.For ty xs ps b) = loops xs ps b.maker
made_at g (TypedForm-F.Case ty subject cs ts vs other) = cases g subject cs ts vs other
made_at g (TypedForm-F.Typecase ty name subject types vs other) =
    typecase g name subject types vs other
made_at g (TypedForm-F.Try ty b name types vs last) = trying b name types vs last
made_at g (TypedForm-F.Atomic ty e) = one (Atomic mode.Atomic) e.maker
made_at g (TypedForm-F.Tryatomic ty e) = one (Atomic mode.Try) e.maker
made_at g (TypedForm-F.Throw ty e) = one Throw e.maker
made_at g (TypedForm-F.Reduce ty r set name sequential p b) =
    reduction set (neutral g r ty) name sequential p.maker b.maker
made_at g (TypedForm-F.Assign ty t e) = assigned t.role e.maker
made_at g (TypedForm-F.Update ty t c e) = updated g c t.role e.maker

-- What a form is to the form in which it stands.
abbrev pub role_at : TypedForm-F Part → Role
role_at (TypedForm-F.Local ty name mutable) = variable name
role_at (TypedForm-F.Top ty n) = top n
role_at (TypedForm-F.ReadField ty o f) = field o.ty o.maker f
role_at (TypedForm-F.ReadElement ty a i) = element a.ty a.maker i.ty i.maker
role_at (TypedForm-F.Bind ty name mutable written e) = local name mutable written e.maker
role_at (TypedForm-F.Binds ty xs e) = locals xs e.maker
role_at _ = expression

-- The type of a form, which stands first in it.
abbrev pub type_at : {A : Type 0} → TypedForm-F A → Ty
type_at (TypedForm-F.Number ty a) = ty
type_at (TypedForm-F.Text ty a) = ty
type_at (TypedForm-F.Truth ty a) = ty
type_at (TypedForm-F.Tuple ty a) = ty
type_at (TypedForm-F.Local ty a b) = ty
type_at (TypedForm-F.Top ty a) = ty
type_at (TypedForm-F.Single ty a) = ty
type_at (TypedForm-F.Receiver ty) = ty
type_at (TypedForm-F.ReadField ty a b) = ty
type_at (TypedForm-F.ReadElement ty a b) = ty
type_at (TypedForm-F.Size ty a) = ty
type_at (TypedForm-F.Fill ty a b c) = ty
type_at (TypedForm-F.Call ty a b) = ty
type_at (TypedForm-F.Operation ty a b) = ty
type_at (TypedForm-F.Chain ty a b c) = ty
type_at (TypedForm-F.Apply ty a b) = ty
type_at (TypedForm-F.Fn ty a b) = ty
type_at (TypedForm-F.Block ty a) = ty
type_at (TypedForm-F.Bind ty a b c d) = ty
type_at (TypedForm-F.Binds ty a b) = ty
type_at (TypedForm-F.Also ty a) = ty
type_at (TypedForm-F.If ty a b c) = ty
type_at (TypedForm-F.While ty a b) = ty
type_at (TypedForm-F.For ty a b c) = ty
type_at (TypedForm-F.Case ty a b c d e) = ty
type_at (TypedForm-F.Typecase ty a b c d e) = ty
type_at (TypedForm-F.Try ty a b c d e) = ty
type_at (TypedForm-F.Atomic ty a) = ty
type_at (TypedForm-F.Tryatomic ty a) = ty
type_at (TypedForm-F.Throw ty a) = ty
type_at (TypedForm-F.Reduce ty a b c d e f) = ty
type_at (TypedForm-F.Assign ty a b) = ty
type_at (TypedForm-F.Update ty a b c) = ty

abbrev pub part_at : Given → TypedForm-F Part → Part
part_at g form = record { ty = type_at form; maker = made_at g form; role = role_at form }

-- A form as a part.
unfoldable pub part : Given → TypedForm → Part
part g = fold-TypedForm Part (part_at g)

-- The type of a form.
abbrev pub type_of : TypedForm → Ty
type_of form = type_at (out-TypedForm form)

-- The term of a form, by the names in scope and the next numbers.
abbrev pub translated : Given → TypedForm → Maker
translated g form = (part g form).maker
