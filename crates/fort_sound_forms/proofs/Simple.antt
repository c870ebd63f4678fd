-- Forms that bind nothing, and whose parts go from left to right.
use Rattle.std.proofs.Common.{◌≡◌, ◌≤◌, ℕ, Bool, true, false, List, map, Some, rules, refl, sym, ◌∙◌, subst, arith}
use Rattle.std.specs.Prelude.{slice_get}
use Rattle.fort_base.specs.declared.ids.NameId.{NameId}
use Rattle.fort_base.specs.declared.ids.SetId.{SetId}
use Rattle.fort_base.specs.declared.ids.TypeId.{TypeId}
use Rattle.fort_base.specs.declared.ty.Ty.{Ty, Array, Arrow}
use Rattle.fort_base.specs.declared.ty.Ty.TheVariants as a_type
use Rattle.fort_types_sets.specs.declared.field.Field.{Field}
use Rattle.fort_scope.specs.declared.binding.Binding.{Binding}
use Rattle.fort_form_typed.specs.declared.typed_form.TypedForm.{TypedForm, out-TypedForm, the_lemmas}
use Rattle.fort_form_typed.specs.declared.typed_form.TypedForm.TheVariants as a_typed
use Rattle.fort_form_typed.specs.declared.typed_form.TypedForm.TheOpen.{TypedForm-F}
use Rattle.fort_types_builtin.specs.Objects.{location}
use Rattle.fort_core.specs.declared.form.Mode.TheVariants as mode
use Rattle.fort_core.specs.declared.form.Slot.TheVariants as slot
use Rattle.fort_core.specs.declared.program.Program.{Program}
use Rattle.fort_core.specs.declared.term.Term.{Term, Throw, Apply, Fill, ReadField, ReadElement, Size, While, Also, Atomic}
use Rattle.fort_machine.specs.Ends.{group}
use Rattle.fort_typing_known.specs.Known.{Knows}
use Rattle.fort_typing_known.specs.Names.{bound, single}
use Rattle.fort_sound_typed.specs.Envs.{Env}
use Rattle.fort_sound_typed.specs.Typing.{Below, is_same, Has}
use Rattle.fort_sound_typed.specs.Sound.{opening}
use Rattle.fort_sound_typed.proofs.Made.{group_has}
use Rattle.fort_sound_typed.proofs.Order.{itself}
use Rattle.fort_typing_rules.specs.Types.{zz32, string, boolean, exception, unit, number_type, type_of, types_of}
use Rattle.fort_typing_rules.specs.Elements.{chosen}
use Rattle.fort_typing_law_rules.specs.Deciding.{IsAccepted}
use Rattle.fort_elab_meaning.specs.Making.{number_of}
use Rattle.fort_elab_meaning.specs.Parts.{Given, maker_of}
use Rattle.fort_elab_meaning.specs.Calls.{call, operation}
use Rattle.fort_elab_meaning.specs.Targets.{variable_term}
use Rattle.fort_elab_meaning.specs.Translated.{translated, part}
use Rattle.fort_sound_forms.specs.Forms.{sort}
use Rattle.fort_sound_forms.specs.Suits.{Suits}
use Rattle.fort_sound_forms.proofs.Built.{has-Throw, has-Variable, has-Apply, has-Fill, has-Read, has-ReadField, has-ReadElement, has-Size, has-While, has-Also, has-Atomic}
use Rattle.fort_sound_forms.proofs.Makers.{Good, EachGood, raised, good_still, good_one, good_two, good_many}
use Rattle.fort_sound_forms.proofs.Facts.{tr, IsCall, has_call, has_operation}
use Rattle.fort_sound_forms.proofs.Values.{has_number, has_text, has_truth, as_term}
use Rattle.fort_sound_forms.proofs.Plain.{IsField, Plain, AllPlain, plain_of, each_good}

module _ (k : Knows) (A : IsAccepted k) (g : Given) (p : Program) (U : Suits k g p) where
  -- a part as one of a type above its own
  pub above : {bs : List Binding} {t : TypedForm} {T : Ty} → Plain k g p bs t
      → Below p (type_of t) T → Good k p bs (translated g t) T
  above h w = raised k p (tr k A g p U) h.maker w

  pub exactly : {bs : List Binding} {t : TypedForm} {T : Ty} → Plain k g p bs t → type_of t ≡ T
      → Good k p bs (translated g t) T
  exactly {bs} {t} h e = subst (Good k p bs (translated g t)) e h.maker

  -- ---- values

  pub plain-Number : {bs : List Binding} (n : ℕ) → n ≤ 9223372036854775807
      → Plain k g p bs (a_typed.Number (number_type n) n)
  plain-Number {bs} n l =
      let is : out-TypedForm (a_typed.Number (number_type n) n)
      ≡ TypedForm-F.Number (number_type n) n = search (rules, the_lemmas) in
      plain_of k g p _ is (good_still k p _ (λ G. as_term k g p U G (has_number k g p U n l))) tt

  pub plain-Text : {bs : List Binding} (n : ℕ) → Plain k g p bs (a_typed.Text string n)
  plain-Text {bs} n =
      let is : out-TypedForm (a_typed.Text string n) ≡ TypedForm-F.Text string n =
      search (rules, the_lemmas) in
      plain_of k g p _ is (good_still k p _ (λ G. as_term k g p U G (has_text k g p U _))) tt

  pub plain-Truth : {bs : List Binding} (b : Bool) → Plain k g p bs (a_typed.Truth boolean b)
  plain-Truth {bs} b =
      let is : out-TypedForm (a_typed.Truth boolean b) ≡ TypedForm-F.Truth boolean b =
      search (rules, the_lemmas) in
      plain_of k g p _ is (good_still k p _ (λ G. as_term k g p U G (has_truth k g p U b))) tt

  pub plain-Tuple : {bs : List Binding} (ts : List TypedForm) → AllPlain k g p bs ts
      → Plain k g p bs (a_typed.Tuple (a_type.Tuple (types_of ts)) ts)
  plain-Tuple {bs} ts h =
      let is : out-TypedForm (a_typed.Tuple (a_type.Tuple (types_of ts)) ts)
      ≡ TypedForm-F.Tuple (a_type.Tuple (types_of ts)) ts = search (rules, the_lemmas) in
      plain_of k g p _ is
      (good_many k p group _ (types_of ts)
      (λ G us i. group_has p (tr k A g p U) (itself p) (opening p) us (types_of ts) i
      (is_same refl)) (each_good k g p bs ts h)) (each_good k g p bs ts h)

  -- ---- names

  local_has : (G : Env) (m : Bool) (n : ℕ) (ty : Ty) → G n ≡ Some (sort m ty)
      → Has p (opening p) G (variable_term m n) ty
  local_has G false n ty e = has-Variable p (opening p) n e
  local_has G true n ty e = has-Read p (opening p) (slot.Variable n) e

  pub plain-Local : {bs : List Binding} (name : NameId) (b : Binding) → bound bs name ≡ Some b
      → Plain k g p bs (a_typed.Local b.ty name b.mutable)
  plain-Local {bs} name b e =
      let is : out-TypedForm (a_typed.Local b.ty name b.mutable)
      ≡ TypedForm-F.Local b.ty name b.mutable = search (rules, the_lemmas) in
      plain_of k g p _ is
      (λ s c G a. record {
        has =
            local_has G b.mutable (number_of s.names name) b.ty (a.names name b e);
        later = omega arith;
      }) (b, e, refl, refl)

  pub plain-Top : {bs : List Binding} (n : ℕ) (v : Field)
      → slice_get k.facts.members.variables n ≡ Some v → Plain k g p bs (a_typed.Top v.ty n)
  plain-Top {bs} n v e =
      let is : out-TypedForm (a_typed.Top v.ty n) ≡ TypedForm-F.Top v.ty n =
      search (rules, the_lemmas) in
      plain_of k g p _ is
      (good_still k p _
      (λ G. has-Read p (opening p) (slot.Location (location n)) (U.tops n v e)))
      (U.tops n v e)

  pub plain-Single : {bs : List Binding} (name : NameId) (o : TypeId) → single k.facts name ≡ Some o
      → Plain k g p bs (a_typed.Single (a_type.Named o) o)
  plain-Single {bs} name o e =
      let is : out-TypedForm (a_typed.Single (a_type.Named o) o)
      ≡ TypedForm-F.Single (a_type.Named o) o = search (rules, the_lemmas) in
      plain_of k g p _ is (good_still k p _ (λ G. as_term k g p U G (U.singles name o e))) tt

  pub plain-Receiver : {bs : List Binding} (o : TypeId) → k.facts.owner ≡ Some o
      → Plain k g p bs (a_typed.Receiver (a_type.Named o))
  plain-Receiver {bs} o e =
      let is : out-TypedForm (a_typed.Receiver (a_type.Named o))
      ≡ TypedForm-F.Receiver (a_type.Named o) = search (rules, the_lemmas) in
      plain_of k g p _ is
      (λ s c G a. record {
        has = has-Variable p (opening p) s.receiver (a.receiver o e);
        later = omega arith;
      }) tt

  -- ---- fields, elements, sizes, fills

  field_has : (G : Env) (t : Term) (T : Ty) (name : NameId) (ty : Ty) → IsField k g p T name ty
      → Has p (opening p) G t T → Has p (opening p) G (ReadField t name) ty
  field_has G t T name ty (o, f, e, i, q) h =
      subst (λ X. Has p (opening p) G (ReadField t name) X) q
      (has-ReadField p (opening p) o name (U.fields o name f i)
      (subst (λ X. Has p (opening p) G t X) e h))

  pub plain-ReadField : {bs : List Binding} (ty : Ty) (u : TypedForm) (name : NameId)
      → Plain k g p bs u → IsField k g p (type_of u) name ty
      → Plain k g p bs (a_typed.ReadField ty u name)
  plain-ReadField {bs} ty u name h i =
      let is : out-TypedForm (a_typed.ReadField ty u name) ≡ TypedForm-F.ReadField ty u name =
      search (rules, the_lemmas) in
      plain_of k g p _ is
      (good_one k p (λ t. ReadField t name) (translated g u)
      (λ G t j. field_has G t (type_of u) name ty i j) h.maker) (h.maker, i)

  pub plain-ReadElement : {bs : List Binding} (ty : Ty) (u i : TypedForm) → Plain k g p bs u
      → type_of u ≡ Array ty → Plain k g p bs i → Below p (type_of i) zz32
      → Plain k g p bs (a_typed.ReadElement ty u i)
  plain-ReadElement {bs} ty u i h e j w =
      let is : out-TypedForm (a_typed.ReadElement ty u i) ≡ TypedForm-F.ReadElement ty u i =
      search (rules, the_lemmas) in
      let v = subst (λ X. Below p (type_of i) X) (sym U.small) w in
      plain_of k g p _ is
      (good_two k p ReadElement (translated g u) (translated g i)
      (λ G a b x y. has-ReadElement p (opening p) x y) (exactly h e) (above j v)) (
        h.maker,
        e,
        j.maker,
        v,
      )

  pub plain-Size : {bs : List Binding} (u : TypedForm) (e : Ty) → Plain k g p bs u
      → type_of u ≡ Array e → Plain k g p bs (a_typed.Size zz32 u)
  plain-Size {bs} u e h q =
      let is : out-TypedForm (a_typed.Size zz32 u) ≡ TypedForm-F.Size zz32 u =
      search (rules, the_lemmas) in
      plain_of k g p _ is
      (good_one k p Size (translated g u)
      (λ G t i. subst (λ X. Has p (opening p) G (Size t) X) U.small
      (has-Size p (opening p) e i)) (exactly h q)) tt

  pub plain-Fill : {bs : List Binding} (ty : Ty) (u w : TypedForm) → Plain k g p bs u
      → Below p (type_of u) zz32 → Plain k g p bs w → Below p (type_of w) ty
      → Plain k g p bs (a_typed.Fill (a_type.Array ty) ty u w)
  plain-Fill {bs} ty u w h x i y =
      let is : out-TypedForm (a_typed.Fill (a_type.Array ty) ty u w)
      ≡ TypedForm-F.Fill (a_type.Array ty) ty u w = search (rules, the_lemmas) in
      plain_of k g p _ is
      (good_two k p (Fill ty) (translated g u) (translated g w)
      (λ G a b q r. has-Fill p (opening p) ty
      (subst (λ X. Has p (opening p) G a X) (sym U.small) q) r) (above h x) (above i y)) tt

  -- ---- calls

  pub plain-Call : {bs : List Binding} (set : SetId) (result : Ty) (ws : List Bool)
      (ts : List TypedForm) → EachGood k p bs (map maker_of (map (part g) ts)) (types_of ts)
      → IsCall k A g p U set (types_of ts) result ws
      → Plain k g p bs (a_typed.Call result (chosen set ws) ts)
  plain-Call {bs} set result ws ts h c =
      let is : out-TypedForm (a_typed.Call result (chosen set ws) ts)
      ≡ TypedForm-F.Call result (chosen set ws) ts = search (rules, the_lemmas) in
      plain_of k g p _ is
      (good_many k p (call g (chosen set ws)) _ (types_of ts)
      (λ G us i. has_call k A g p U G set (types_of ts) result ws us c i) h) tt

  pub plain-Operation : {bs : List Binding} (set : SetId) (result : Ty) (ws : List Bool)
      (ts : List TypedForm) → AllPlain k g p bs ts → IsCall k A g p U set (types_of ts) result ws
      → Plain k g p bs (a_typed.Operation result (chosen set ws) ts)
  plain-Operation {bs} set result ws ts h c =
      let is : out-TypedForm (a_typed.Operation result (chosen set ws) ts)
      ≡ TypedForm-F.Operation result (chosen set ws) ts = search (rules, the_lemmas) in
      plain_of k g p _ is
      (good_many k p (operation g (chosen set ws)) _ (types_of ts)
      (λ G us i. has_operation k A g p U G set (types_of ts) result ws us c i)
      (each_good k g p bs ts h)) tt

  pub plain-Apply : {bs : List Binding} (f u : TypedForm) (domain result : Ty) → Plain k g p bs f
      → type_of f ≡ Arrow domain result → Plain k g p bs u → Below p (type_of u) domain
      → Plain k g p bs (a_typed.Apply result f u)
  plain-Apply {bs} f u domain result h e i w =
      let is : out-TypedForm (a_typed.Apply result f u) ≡ TypedForm-F.Apply result f u =
      search (rules, the_lemmas) in
      plain_of k g p _ is
      (good_two k p Apply (translated g f) (translated g u)
      (λ G a b x y. has-Apply p (opening p) x y) (exactly h e) (above i w)) tt

  -- ---- blocks beside each other, loops, atomic forms, throws

  pub plain-Also : {bs : List Binding} (ts : List TypedForm) → AllPlain k g p bs ts
      → Plain k g p bs (a_typed.Also unit ts)
  plain-Also {bs} ts h =
      let is : out-TypedForm (a_typed.Also unit ts) ≡ TypedForm-F.Also unit ts =
      search (rules, the_lemmas) in
      plain_of k g p _ is
      (good_many k p Also _ (types_of ts) (λ G us i. has-Also p (opening p) us (types_of ts) i)
      (each_good k g p bs ts h)) tt

  pub plain-While : {bs : List Binding} (u v : TypedForm) → Plain k g p bs u → type_of u ≡ boolean
      → Plain k g p bs v → Plain k g p bs (a_typed.While unit u v)
  plain-While {bs} u v h e i =
      let is : out-TypedForm (a_typed.While unit u v) ≡ TypedForm-F.While unit u v =
      search (rules, the_lemmas) in
      plain_of k g p _ is
      (good_two k p While (translated g u) (translated g v)
      (λ G a b x y. has-While p (opening p) x y) (exactly h (e ∙ sym U.truth)) i.maker) tt

  pub plain-Atomic : {bs : List Binding} (u : TypedForm) → Plain k g p bs u
      → Plain k g p bs (a_typed.Atomic (type_of u) u)
  plain-Atomic {bs} u h =
      let is : out-TypedForm (a_typed.Atomic (type_of u) u) ≡ TypedForm-F.Atomic (type_of u) u =
      search (rules, the_lemmas) in
      plain_of k g p _ is
      (good_one k p (Atomic mode.Atomic) (translated g u)
      (λ G t i. has-Atomic p (opening p) mode.Atomic i) h.maker) tt

  pub plain-Tryatomic : {bs : List Binding} (u : TypedForm) → Plain k g p bs u
      → Plain k g p bs (a_typed.Tryatomic (type_of u) u)
  plain-Tryatomic {bs} u h =
      let is : out-TypedForm (a_typed.Tryatomic (type_of u) u)
      ≡ TypedForm-F.Tryatomic (type_of u) u = search (rules, the_lemmas) in
      plain_of k g p _ is
      (good_one k p (Atomic mode.Try) (translated g u)
      (λ G t i. has-Atomic p (opening p) mode.Try i) h.maker) tt

  pub plain-Throw : {bs : List Binding} (u : TypedForm) → Plain k g p bs u
      → Below p (type_of u) exception → Plain k g p bs (a_typed.Throw a_type.Nothing u)
  plain-Throw {bs} u h w =
      let is : out-TypedForm (a_typed.Throw a_type.Nothing u) ≡ TypedForm-F.Throw a_type.Nothing u =
      search (rules, the_lemmas) in
      plain_of k g p _ is
      (good_one k p Throw (translated g u) (λ G t i. has-Throw p (opening p) a_type.Nothing i)
      (above h (subst (λ X. Below p (type_of u) X) (sym U.thrown) w))) tt
