-- Assignments.
use Rattle.std.proofs.Common.{◌≡◌, ℕ, Bool, true, false, List, [], ◌∷◌, Some, rules, refl, sym, ap, ◌∙◌, subst}
use Rattle.fort_base.specs.declared.ids.NameId.{NameId}
use Rattle.fort_base.specs.declared.ids.SetId.{SetId}
use Rattle.fort_base.specs.declared.ids.TypeId.{TypeId}
use Rattle.fort_base.specs.declared.ty.Ty.{Ty, out-Ty}
use Rattle.fort_base.specs.declared.ty.Ty.TheVariants as a_type
use Rattle.fort_types_sets.specs.declared.field.Field.{Field}
use Rattle.fort_scope.specs.declared.binding.Binding.{Binding}
use Rattle.fort_form_typed.specs.declared.typed_form.TypedForm.{TypedForm, out-TypedForm, the_lemmas}
use Rattle.fort_form_typed.specs.declared.typed_form.TypedForm.TheVariants as a_typed
use Rattle.fort_form_typed.specs.declared.typed_form.TypedForm.TheOpen.{TypedForm-F}
use Rattle.fort_types_builtin.specs.Objects.{location}
use Rattle.fort_core.specs.declared.form.Slot.TheVariants as slot
use Rattle.fort_core.specs.declared.program.Program.{Program}
use Rattle.fort_core.specs.declared.term.Term.{Term, Variable, Read, Write, ReadField, WriteField, ReadElement, WriteElement}
use Rattle.fort_typing_known.specs.Known.{Knows}
use Rattle.fort_typing_known.specs.Names.{field_of, field_at}
use Rattle.fort_sound_typed.specs.Envs.{Env, fixed, cell, bind}
use Rattle.fort_sound_typed.specs.Typing.{Below, unit_type, Makes, FieldOf, Has}
use Rattle.fort_sound_typed.specs.Sound.{opening}
use Rattle.fort_sound_typed.proofs.Bind.{bind_at}
use Rattle.fort_sound_typed.proofs.Rules.{sub}
use Rattle.fort_typing_rules.specs.Types.{unit, type_at, type_of}
use Rattle.fort_typing_rules.specs.Elements.{chosen}
use Rattle.fort_typing_rules.specs.Typing.{is_mutable, takes_at}
use Rattle.fort_typing_law_rules.specs.Deciding.{IsAccepted}
use Rattle.fort_elab_meaning.specs.Making.{Maker, number_of, one, letting}
use Rattle.fort_elab_meaning.specs.Parts.{Given}
use Rattle.fort_elab_meaning.specs.Calls.{operated}
use Rattle.fort_elab_meaning.specs.Targets.{assigned, raised, updated}
use Rattle.fort_elab_meaning.specs.Translated.{role_at, translated, part}
use Rattle.fort_sound_forms.specs.Forms.{sort}
use Rattle.fort_sound_forms.specs.Suits.{Suits}
use Rattle.fort_sound_forms.proofs.Names.{kept}
use Rattle.fort_sound_forms.proofs.Built.{has-Variable, has-Read, has-Write, has-ReadField, has-WriteField, has-ReadElement, has-WriteElement}
use Rattle.fort_sound_forms.proofs.Makers.{Got, Good, good_one, good_two, good_three, got_one, got_letting}
use Rattle.fort_sound_forms.proofs.Makers as makers
use Rattle.fort_sound_forms.proofs.Facts.{tr, IsCall, has_operated}
use Rattle.fort_sound_forms.proofs.Plain.{level, Target, Plain, plain_of, type_is, role_is, typed_is}
use Rattle.fort_sound_forms.proofs.Simple.{above}

module _ (k : Knows) (A : IsAccepted k) (g : Given) (p : Program) (U : Suits k g p) where
  -- a mutable variable
  cell_at : (G : Env) (n : ℕ) (b : Binding) (ty : Ty) (mutable : Bool)
      → G n ≡ Some (sort b.mutable b.ty) → b.ty ≡ ty → b.mutable ≡ mutable → mutable ≡ true
      → G n ≡ Some (cell ty)
  cell_at G n b ty mutable e t m h =
      e ∙ ap (λ x. Some (sort x b.ty)) (m ∙ h) ∙ ap (λ X. Some (cell X)) t

  -- a field that can be assigned to
  made_of : (T : Ty) (name : NameId) (o : TypeId) (f : Field) → T ≡ a_type.Named o
      → field_of k.facts o name ≡ Some f → is_mutable (field_at k.facts (out-Ty T) name) ≡ true
      → (i : FieldOf p o name f.ty) → Makes i.shape.kind
  made_of T name o f e q h i =
      let z : is_mutable (Some f) ≡ true =
      sym (ap (λ X. is_mutable (field_at k.facts (out-Ty X) name)) e
      ∙ ap (λ x. is_mutable (field_at k.facts x name)) (a_type.outs-Named o)
      ∙ ap is_mutable q) ∙ h in
      U.mutable o name f i.shape q z i.is_shape

  good_assigned : {bs : List Binding} (x : TypedForm-F TypedForm) (e : Maker) → Target k g p bs x
      → takes_at k.facts x ≡ true → Good k p bs e (type_at x)
      → Good k p bs (assigned (role_at (level k g p x)) e) unit_type
  good_assigned (TypedForm-F.Local ty name mutable) e (b, q, t, m) h j = λ s c G a.
      let n = number_of s.names name
      in got_one k p (Write (slot.Variable n)) e j s c G a
      (λ u i. has-Write p (opening p) (slot.Variable n)
      (cell_at G n b ty mutable (a.names name b q) t m h) i)
  good_assigned (TypedForm-F.Top ty n) e w h j =
      good_one k p (Write (slot.Location (location n))) e
      (λ G u i. has-Write p (opening p) (slot.Location (location n)) w i) j
  good_assigned {bs} (TypedForm-F.ReadField ty o name) e (w, (d, f, q, r, t)) h j =
      let F = U.fields d name f r in
      good_two k p (λ u. WriteField u name) (translated g o) e
      (λ G u v x y. has-WriteField p (opening p) d name F (made_of (type_of o) name d f q r h F)
      (subst (λ X. Has p (opening p) G u X) q x)
      (subst (λ X. Has p (opening p) G v X) (sym t) y)) w j
  good_assigned {bs} (TypedForm-F.ReadElement ty a i) e (w, q, v, b) h j =
      good_three k p WriteElement (translated g a) (translated g i) e
      (λ G t u r x y z. has-WriteElement p (opening p) x y z)
      (subst (Good k p bs (translated g a)) q w) (makers.raised k p (tr k A g p U) v b) j
  good_assigned _ e w h j = absurd (let z : false ≡ true = h in cc)

  pub plain-Assign : {bs : List Binding} (u w : TypedForm) → Plain k g p bs u
      → takes_at k.facts (out-TypedForm u) ≡ true → Plain k g p bs w
      → Below p (type_of w) (type_of u) → Plain k g p bs (a_typed.Assign unit u w)
  plain-Assign {bs} u w h t i b =
      let is : out-TypedForm (a_typed.Assign unit u w) ≡ TypedForm-F.Assign unit u w =
      search (rules, the_lemmas) in
      plain_of k g p _ is
      (subst (λ r. Good k p bs (assigned r (translated g w)) unit_type)
      (sym (role_is k g p u refl))
      (good_assigned (out-TypedForm u) (translated g w) h.target t
      (subst (Good k p bs (translated g w)) (typed_is k g p u refl) (above k A g p U i b))))
      tt

  -- ---- with an operator

  module _ (set : SetId) (E result : Ty) (ws : List Bool) where
    -- the sum of what is read and another term
    sum_has : (G : Env) (T : Ty) (a b : Term) → IsCall k A g p U set (T ∷ E ∷ []) result ws
        → Below p result T → Has p (opening p) G a T → Has p (opening p) G b E
        → Has p (opening p) G (operated g (chosen set ws) a b) T
    sum_has G T a b i w h j =
        sub p (opening p) (tr k A g p U) (has_operated k A g p U G set T E result ws a b i h j) w

    good_updated : {bs : List Binding} (x : TypedForm-F TypedForm) (e : Maker) → Target k g p bs x
        → takes_at k.facts x ≡ true → IsCall k A g p U set (type_at x ∷ E ∷ []) result ws
        → Below p result (type_at x)
        → Good k p bs e E
        → Good k p bs (updated g (chosen set ws) (role_at (level k g p x)) e) unit_type
    good_updated (TypedForm-F.Local ty name mutable) e (b, q, t, m) h y z j = λ s c G a.
        let n = number_of s.names name in
        let r = cell_at G n b ty mutable (a.names name b q) t m h in
        got_one k p (raised g (chosen set ws) (slot.Variable n)) e j s c G a
        (λ u i. has-Write p (opening p) (slot.Variable n) r
        (sum_has G ty (Read (slot.Variable n)) u y z
        (has-Read p (opening p) (slot.Variable n) r) i))
    good_updated (TypedForm-F.Top ty n) e w h y z j =
        good_one k p (raised g (chosen set ws) (slot.Location (location n))) e
        (λ G u i. has-Write p (opening p) (slot.Location (location n)) w
        (sum_has G ty (Read (slot.Location (location n))) u y z
        (has-Read p (opening p) (slot.Location (location n)) w) i)) j
    good_updated {bs} (TypedForm-F.ReadField ty o name) e (w, (d, f, q, r, t)) h y z j = λ s c G a.
        let F = U.fields d name f r in
        let v : (part g o).ty ≡ a_type.Named d = type_is k g p o ∙ q in
        got_letting k p (part g o).ty (translated g o)
        (λ n. one
        (λ u. WriteField (Variable n) name
        (operated g (chosen set ws) (ReadField (Variable n) name) u)) e)
        (subst (Good k p bs (translated g o)) (sym (type_is k g p o)) w) s c G a
        (λ n b l x. let D = bind n (fixed (part g o).ty) G in
        let own =
        subst (λ X. Has p (opening p) D (Variable n) X) v
        (has-Variable p (opening p) n (bind_at n (fixed (part g o).ty) G n refl)) in
        got_one k p
        (λ u. WriteField (Variable n) name
        (operated g (chosen set ws) (ReadField (Variable n) name) u)) e j s b D x
        (λ u i. has-WriteField p (opening p) d name F (made_of (type_of o) name d f q r h F) own
        (subst (λ X. Has p (opening p) D
        (operated g (chosen set ws) (ReadField (Variable n) name) u) X) (sym t)
        (sum_has D ty (ReadField (Variable n) name) u y z
        (subst (λ X. Has p (opening p) D (ReadField (Variable n) name) X) t
        (has-ReadField p (opening p) d name F own)) i))))
    good_updated {bs} (TypedForm-F.ReadElement ty o i) e (w, q, v, b) h y z j = λ s c G a.
        let P = (part g o).ty in
        let Q = (part g i).ty in
        got_letting k p P (translated g o)
        (λ n. letting Q (translated g i)
        (λ m. one
        (λ u. WriteElement (Variable n) (Variable m)
        (operated g (chosen set ws) (ReadElement (Variable n) (Variable m)) u)) e))
        (subst (Good k p bs (translated g o)) (sym (type_is k g p o)) w) s c G a
        (λ n d l x. let D = bind n (fixed P) G in
        got_letting k p Q (translated g i)
        (λ m. one
        (λ u. WriteElement (Variable n) (Variable m)
        (operated g (chosen set ws) (ReadElement (Variable n) (Variable m)) u)) e)
        (subst (Good k p bs (translated g i)) (sym (type_is k g p i)) v) s d D x
        (λ m f r x1. let C = bind m (fixed Q) D in
        let one_is =
        subst (λ X. Has p (opening p) C (Variable n) X) (type_is k g p o
        ∙ q) (has-Variable p (opening p) n
        (kept k m n (fixed Q) (fixed P) x r (bind_at n (fixed P) G n refl))) in
        let two_is =
        sub p (opening p) (tr k A g p U)
        (subst (λ X. Has p (opening p) C (Variable m) X) (type_is k g p i)
        (has-Variable p (opening p) m (bind_at m (fixed Q) D m refl))) b in
        got_one k p
        (λ u. WriteElement (Variable n) (Variable m)
        (operated g (chosen set ws) (ReadElement (Variable n) (Variable m)) u)) e j s f C x1
        (λ u t. has-WriteElement p (opening p) one_is two_is
        (sum_has C ty (ReadElement (Variable n) (Variable m)) u y z
        (has-ReadElement p (opening p) one_is two_is) t))))
    good_updated _ e w h y z j = absurd (let r : false ≡ true = h in cc)

  pub plain-Update : {bs : List Binding} (u w : TypedForm) (set : SetId) (result : Ty)
      (ws : List Bool) → Plain k g p bs u → takes_at k.facts (out-TypedForm u) ≡ true
      → Plain k g p bs w
      → IsCall k A g p U set (type_of u ∷ type_of w ∷ []) result ws → Below p result (type_of u)
      → Plain k g p bs (a_typed.Update unit u (chosen set ws) w)
  plain-Update {bs} u w set result ws h t i y z =
      let is : out-TypedForm (a_typed.Update unit u (chosen set ws) w)
      ≡ TypedForm-F.Update unit u (chosen set ws) w = search (rules, the_lemmas) in
      let q = typed_is k g p u refl in
      plain_of k g p _ is
      (subst (λ r. Good k p bs (updated g (chosen set ws) r (translated g w)) unit_type)
      (sym (role_is k g p u refl))
      (good_updated set (type_of w) result ws (out-TypedForm u) (translated g w) h.target t
      (subst (λ X. IsCall k A g p U set (X ∷ type_of w ∷ []) result ws) q y)
      (subst (λ X. Below p result X) q z) i.maker)) tt
