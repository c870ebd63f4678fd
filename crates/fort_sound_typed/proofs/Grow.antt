-- Typing is kept as the store's types grow.
use Rattle.std.proofs.Common.{ℕ, ◌+◌, List, [], ◌∷◌}
use Rattle.fort_base.specs.declared.ids.Loc.{Loc}
use Rattle.fort_base.specs.declared.ids.TypeId.{TypeId}
use Rattle.fort_base.specs.declared.ty.Ty.{Ty}
use Rattle.fort_core.specs.declared.form.Slot.{Slot}
use Rattle.fort_core.specs.declared.form.Slot.TheVariants as slot
use Rattle.fort_core.specs.declared.term.Term.{Term}
use Rattle.fort_core.specs.declared.term.Term.TheOpen.{Term-F, Value-F}
use Rattle.fort_core.specs.declared.value.Closure.{Closure}
use Rattle.fort_core.specs.declared.value.Value.{Value}
use Rattle.fort_core.specs.declared.program.Program.{Program}
use Rattle.fort_sound_typed.specs.Envs.{Sig, Env, Part}
use Rattle.fort_sound_typed.specs.Typing.{SlotHas, MarksFit, ObjectFits, Fits, FitsV, Has, has, HasParts, parts0, parts1, HasV, has_v, HasVs, vs0, vs1}
use Rattle.fort_sound_typed.specs.Sound.{Up}

module _ (k : Program) (S S' : Sig) (up : Up S S') where
  slot_grows : (G : Env) (x : Slot) (A : Ty) → SlotHas S G x A → SlotHas S' G x A
  slot_grows G (slot.Variable x) A h = h
  slot_grows G (slot.Location l) A h = up l.0 A h

  marks_grow : (ms : List (Loc × Value)) (ws : List Ty) → MarksFit S ms ws → MarksFit S' ms ws
  marks_grow [] [] h = tt
  marks_grow [] (w ∷ ws) h = absurd h
  marks_grow (m ∷ ms) [] h = absurd h
  marks_grow (m ∷ ms) (w ∷ ws) h = (up m.0.0 w h.0, marks_grow ms ws h.1)

  object_grows : (id : TypeId) (base : ℕ) → ObjectFits k S id base → ObjectFits k S' id base
  object_grows id base o =
      record {
        shape = o.shape;
        is_shape = o.is_shape;
        is_made = o.is_made;
        located = λ n c e. up (base + n) c.ty (o.located n c e);
      }

  pub fits_grow : (G : Env) (l : Term-F Term Value Closure) (qs : List Part) (ws : List Ty) (R : Ty)
      → Fits k S G l qs ws R → Fits k S' G l qs ws R
  fits_grow G (Term-F.Read x) qs ws R h = slot_grows G x R h
  fits_grow G (Term-F.Write x a) qs ws R h = (h.0, slot_grows G x h.0 h.1, h.2, h.3)
  fits_grow G (Term-F.Asleep ms a) qs ws R h = (h.0, marks_grow ms ws h.1)
  fits_grow G _ qs ws R h = h

  pub fits_v_grow : (l : Value-F Term Value Closure) (qs : List Part) (ws : List Ty) (R : Ty)
      → FitsV k S l qs ws R → FitsV k S' l qs ws R
  fits_v_grow (Value-F.Object id base) qs ws R h = (object_grows id base.0 h.0, h.1)
  fits_v_grow (Value-F.Array e base size) qs ws R h =
      ((λ n m. up (base.0 + n) e (h.0.0 n m), h.0.1), h.1)
  fits_v_grow _ qs ws R h = h

  mutual
    pub grow : {G : Env} {t : Term} {T : Ty} → Has k S G t T → Has k S' G t T
    grow {G} (has R qs ws f ps vs b) =
        has R qs ws (fits_grow G _ qs ws R f) (grow_parts ps) (grow_vs vs) b

    pub grow_parts : {G : Env} {ts : List Term} {qs : List Part} → HasParts k S G ts qs
        → HasParts k S' G ts qs
    grow_parts parts0 = parts0
    grow_parts (parts1 n h hs) = parts1 n (grow h) (grow_parts hs)

    pub grow_v : {v : Value} {T : Ty} → HasV k S v T → HasV k S' v T
    grow_v (has_v R qs ws f ps vs b) =
        has_v R qs ws (fits_v_grow _ qs ws R f) (grow_parts ps) (grow_vs vs) b

    pub grow_vs : {vs : List Value} {As : List Ty} → HasVs k S vs As → HasVs k S' vs As
    grow_vs vs0 = vs0
    grow_vs (vs1 h hs) = vs1 (grow_v h) (grow_vs hs)
