-- The opening store of a program has its types.
use Rattle.std.proofs.Common.{◌≡◌, ℕ, suc, ◌+◌, ◌==◌, if◌then◌else◌, List, [], ◌∷◌, ◌++◌, Some, None, refl, sym, ap, ◌∙◌, subst}
use Rattle.std.specs.Prelude.{unwrap_or}
use Rattle.std.specs.List.{slice_get, flat_map}
use Rattle.fort_base.specs.declared.ids.Loc.{Loc}
use Rattle.fort_base.specs.declared.ty.Ty.{Ty}
use Rattle.fort_core.specs.declared.program.CoreField.{CoreField}
use Rattle.fort_core.specs.declared.program.CoreKind.{CoreKind}
use Rattle.fort_core.specs.declared.program.CoreKind.TheVariants as kind
use Rattle.fort_core.specs.declared.program.CoreShape.{CoreShape}
use Rattle.fort_core.specs.declared.program.Program.{Program}
use Rattle.fort_core.specs.declared.value.Value.{Value}
use Rattle.fort_machine.specs.Acts.{unit}
use Rattle.fort_machine.specs.Journals.{value_in}
use Rattle.fort_types_sets.specs.declared.field.Field.{Field}
use Rattle.fort_sound_typed.specs.Envs.{Sig}
use Rattle.fort_sound_typed.specs.Typing.{unit_type, HasV}
use Rattle.fort_sound_typed.specs.Sound.{typed_at}
use Rattle.fort_sound_typed.proofs.Bind.{Tells, alike, apart, tells}
use Rattle.fort_elab_meaning.specs.Shapes.{Initial, initial, variables_from, variable_types, fields_from, field_types, held_at, types_at, held_by, types_by}

module _ (p : Program) (S : Sig) where
  -- values and types of the same locations
  abbrev pub Alike : List (Loc × Value) → List (Loc × Ty) → Type 0
  Alike [] [] = Unit {0}
  Alike (e ∷ es) (q ∷ qs) = (e.0.0 ≡ q.0.0) × HasV p S e.1 q.1 × Alike es qs
  Alike _ _ = ⊥

  pub alike_both : (es fs : List (Loc × Value)) (qs rs : List (Loc × Ty)) → Alike es qs
      → Alike fs rs → Alike (es ++ fs) (qs ++ rs)
  alike_both [] fs [] rs h k = k
  alike_both [] fs (q ∷ qs) rs h k = absurd h
  alike_both (e ∷ es) fs [] rs h k = absurd h
  alike_both (e ∷ es) fs (q ∷ qs) rs h k = (h.0, h.1, alike_both es fs qs rs h.2 k)

  holds_step : (e : Loc × Value) (es : List (Loc × Value)) (q : Loc × Ty) (qs : List (Loc × Ty))
      (l : ℕ) (F : Ty) → e.0.0 ≡ q.0.0 → HasV p S e.1 q.1 → Tells q.0.0 l
      → (typed_at qs l ≡ Some F → (v : Value) × (value_in es l ≡ Some v) × HasV p S v F)
      → typed_at (q ∷ qs) l ≡ Some F → (v : Value) × (value_in (e ∷ es) l ≡ Some v) × HasV p S v F
  holds_step e es q qs l F n h (alike a b) rest g =
      let z : Some q.1 ≡ Some F = sym (ap (λ b. if b then Some q.1 else typed_at qs l) b) ∙ g in
      let y : q.1 ≡ F = cc in (
        e.1,
        ap (λ b. if b then Some e.1 else value_in es l) (ap (λ m. m == l) n ∙ b),
        subst (HasV p S e.1) y h,
      )
  holds_step e es q qs l F n h (apart a b) rest g =
      let w = rest (sym (ap (λ b. if b then Some q.1 else typed_at qs l) a) ∙ g) in
      (w.0, ap (λ b. if b then Some e.1 else value_in es l) (ap (λ m. m == l) n ∙ a) ∙ w.1, w.2)

  pub holds : (es : List (Loc × Value)) (qs : List (Loc × Ty)) → Alike es qs → (l : ℕ) (F : Ty)
      → typed_at qs l ≡ Some F → (v : Value) × (value_in es l ≡ Some v) × HasV p S v F
  holds [] [] h l F g = absurd cc
  holds [] (q ∷ qs) h l F g = absurd h
  holds (e ∷ es) [] h l F g = absurd h
  holds (e ∷ es) (q ∷ qs) h l F g =
      holds_step e es q qs l F h.0 h.1 (tells q.0.0 l) (holds es qs h.2 l F) g

  covers_step : (e : Loc × Value) (es : List (Loc × Value)) (q : Loc × Ty) (qs : List (Loc × Ty))
      (l : ℕ) (v : Value) → e.0.0 ≡ q.0.0 → Tells e.0.0 l
      → (value_in es l ≡ Some v → (F : Ty) × (typed_at qs l ≡ Some F))
      → value_in (e ∷ es) l ≡ Some v → (F : Ty) × (typed_at (q ∷ qs) l ≡ Some F)
  covers_step e es q qs l v n (alike a b) rest g =
      (q.1, ap (λ b. if b then Some q.1 else typed_at qs l) (ap (λ m. m == l) (sym n) ∙ b))
  covers_step e es q qs l v n (apart a b) rest g =
      let w = rest (sym (ap (λ b. if b then Some e.1 else value_in es l) a) ∙ g) in
      (w.0, ap (λ b. if b then Some q.1 else typed_at qs l) (ap (λ m. m == l) (sym n) ∙ a) ∙ w.1)

  pub covers : (es : List (Loc × Value)) (qs : List (Loc × Ty)) → Alike es qs → (l : ℕ) (v : Value)
      → value_in es l ≡ Some v → (F : Ty) × (typed_at qs l ≡ Some F)
  covers [] [] h l v g = absurd cc
  covers [] (q ∷ qs) h l v g = absurd h
  covers (e ∷ es) [] h l v g = absurd h
  covers (e ∷ es) (q ∷ qs) h l v g =
      covers_step e es q qs l v h.0 (tells e.0.0 l) (covers es qs h.2 l v) g

  -- ---- the lists of a program

  pub variables_alike : (texts : List (List ℕ)) (is : List Initial) (l : ℕ) (fs : List Field)
      → ((i : ℕ) (f : Field) → slice_get fs i ≡ Some f
      → HasV p S (unwrap_or (initial texts is None f.name) unit) f.ty)
      → Alike (variables_from texts is l fs) (variable_types l fs)
  variables_alike texts is l [] h = tt
  variables_alike texts is l (f ∷ fs) h =
      (refl, h 0 f refl, variables_alike texts is (l + 1) fs (λ i g e. h (suc i) g e))

  -- the constant of a field has its type
  abbrev pub Constant : CoreField → Type 0
  Constant f = HasV p S (unwrap_or f.initial unit) f.ty

  fields_alike : (l : ℕ) (fs : List CoreField)
      → ((i : ℕ) (f : CoreField) → slice_get fs i ≡ Some f → Constant f)
      → Alike (fields_from l fs) (field_types l fs)
  fields_alike l [] h = tt
  fields_alike l (f ∷ fs) h = (refl, h 0 f refl, fields_alike (l + 1) fs (λ i g e. h (suc i) g e))

  -- the constants of a single object have their types
  abbrev pub Constants : CoreShape → Type 0
  Constants s = (l : Loc) → s.kind ≡ kind.Single l → (i : ℕ) (f : CoreField)
      → slice_get s.fields i ≡ Some f → Constant f

  shape_alike : (k : CoreKind) (fs : List CoreField) → HasV p S unit unit_type
      → ((l : Loc) → k ≡ kind.Single l → (i : ℕ) (f : CoreField) → slice_get fs i ≡ Some f
      → Constant f) → Alike (held_at k fs) (types_at k fs)
  shape_alike kind.Trait fs u h = tt
  shape_alike kind.Leaf fs u h = tt
  shape_alike kind.Object fs u h = tt
  shape_alike (kind.Single l) [] u h = (refl, u, tt)
  shape_alike (kind.Single l) (f ∷ fs) u h = fields_alike l.0 (f ∷ fs) (h l refl)

  pub shapes_alike : (ss : List CoreShape) → HasV p S unit unit_type
      → ((n : ℕ) (s : CoreShape) → slice_get ss n ≡ Some s → Constants s)
      → Alike (flat_map held_by ss) (flat_map types_by ss)
  shapes_alike [] u h = tt
  shapes_alike (s ∷ ss) u h =
      alike_both (held_by s) (flat_map held_by ss) (types_by s) (flat_map types_by ss)
      (shape_alike s.kind s.fields u (h 0 s refl)) (shapes_alike ss u (λ n z e. h (suc n) z e))
