-- A location in place of a mutable variable keeps the type of a term.
use Rattle.std.proofs.Common.{◌≡◌, ℕ, ◌==◌, if◌then◌else◌, List, [], ◌∷◌, map, Some, refl, ap, sym, ◌∙◌, subst}
use Rattle.fort_base.specs.declared.ty.Ty.{Ty}
use Rattle.fort_core.specs.declared.form.Slot.{Slot}
use Rattle.fort_core.specs.declared.form.Slot.TheVariants as slot
use Rattle.fort_core.specs.declared.term.Term.{Term, Write, out-Term, roll-out-Term, para-Term, para-roll-Term}
use Rattle.fort_core.specs.declared.term.Term as term
use Rattle.fort_core.specs.declared.term.Term.TheVariants.{outs-Read, outs-Write, rolls-Value}
use Rattle.fort_core.specs.declared.term.Term.TheOpen.{Term-F}
use Rattle.fort_core.specs.declared.value.Value.{Value, para-Value}
use Rattle.fort_core.specs.declared.value.Closure.{Closure, out-Closure, roll-out-Closure, para-Closure, para-roll-Closure}
use Rattle.fort_core.specs.declared.program.Program.{Program}
use Rattle.fort_machine.specs.Parts.{terms_in, values_in}
use Rattle.fort_machine.specs.Scopes.{function}
use Rattle.fort_machine.specs.Substitution.{at_location, with_location, closure_now, located}
use Rattle.fort_machine.proofs.Substituted.{pairs}
use Rattle.fort_sound_typed.specs.Envs.{fixed, cell, Sig, Env, none, bind, binds, Part}
use Rattle.fort_sound_typed.specs.Typing.{Below, SlotHas, Fits, Has, has, HasParts, parts0, parts1, HasVs}
use Rattle.fort_sound_typed.proofs.Bind.{Tells, alike, apart, tells, Less, less_fresh, less_binds, less_first}
use Rattle.fort_sound_typed.proofs.Rules.{Trans, has_at, parts_as}
use Rattle.fort_sound_typed.proofs.Made.{function_has, remade_has}

module _ (k : Program) (tr : Trans k) (self : (A : Ty) → Below k A A) (S : Sig) (x : ℕ) (A : Ty)
    (l : ℕ) (at : S l ≡ Some A) where
  abbrev values_at : Value → Unit {0}
  values_at = para-Value Term (Unit {0}) Closure (with_location x l) (λ w. tt) closure_now

  abbrev closures_at : Closure → Closure
  closures_at = para-Closure Term (Unit {0}) Closure (with_location x l) (λ w. tt) closure_now

  located_out : (t : Term)
      → located x l t ≡ with_location x l (pairs (located x l) values_at closures_at (out-Term t))
  unfolding located
  located_out t =
      ap (located x l) (sym (roll-out-Term t))
      ∙ para-roll-Term Term (Unit {0}) Closure (with_location x l) (λ w. tt) closure_now
      (out-Term t)

  located_value : (w : Value) → located x l (term.Value w) ≡ term.Value w
  unfolding located
  located_value w =
      ap (located x l) (sym (rolls-Value w))
      ∙ para-roll-Term Term (Unit {0}) Closure (with_location x l) (λ w. tt) closure_now
      (Term-F.Value w) ∙ rolls-Value w

  held_still : (hs : List (ℕ × Value))
      → map (λ (h : ℕ × (Value × Unit {0})). (h.0, h.1.0)) (map (λ
      (h : ℕ × Value). (h.0, (h.1, values_at h.1))) hs) ≡ hs
  held_still [] = refl
  held_still (h ∷ hs) = ap (λ r. h ∷ r) (held_still hs)

  closure_at : (c : Closure) → closures_at c ≡ record c { body = located x l c.body }
  unfolding located
  closure_at c =
      ap closures_at (sym (roll-out-Closure c))
      ∙ para-roll-Closure Term (Unit {0}) Closure (with_location x l) (λ w. tt) closure_now
      (out-Closure c)
      ∙ ap (λ (hs : List (ℕ × Value)). record c { body = located x l c.body; held = hs })
      (held_still c.held)

  slot_moved : (G D : Env) (y : Slot) (B : Ty) → Less x (cell A) G D → SlotHas S G y B
      → SlotHas S D (at_location x l y) B
  slot_moved G D (slot.Variable z) B m h = go (tells x z)
    where
      go : Tells x z
          → SlotHas S D (if x == z then slot.Location (record { 0 = l }) else slot.Variable z) B
      go (alike q d) =
          let r : Some (cell A) ≡ Some (cell B) = sym m.has ∙ ap G q ∙ h in let s : A ≡ B = cc in
          subst (λ c. SlotHas S D (if c then slot.Location (record { 0 = l })
          else slot.Variable z) B) (sym d) (subst (λ X. S l ≡ Some X) s at)
      go (apart d f) =
          subst (λ c. SlotHas S D (if c then slot.Location (record { 0 = l })
          else slot.Variable z) B) (sym d) (m.same z d ∙ h)
  slot_moved G D (slot.Location n) B m h = h

  fixed_kept : (G D : Env) (z : ℕ) (B : Ty) → Less x (cell A) G D → G z ≡ Some (fixed B)
      → D z ≡ Some (fixed B)
  fixed_kept G D z B m h =
      elim (tells x z) [
        | alike q b ↦ let r : Some (cell A) ≡ Some (fixed B) = sym m.has ∙ ap G q ∙ h
            in absurd cc
        | apart b c ↦ m.same z b ∙ h
      ]

  move_at : {G : Env} {T : Ty} (D : Env) (R : Ty) (qs : List Part) (ws : List Ty)
      (y : Term-F Term Value Closure) → Less x (cell A) G D → Fits k S G y qs ws R
      → HasParts k S G (terms_in y) qs → HasParts k S D (map (located x l) (terms_in y)) qs
      → HasVs k S (values_in y) ws → Below k R T
      → Has k S D (with_location x l (pairs (located x l) values_at closures_at y)) T
  move_at {G} D R qs ws (Term-F.Read y) m f ps rs vs b =
      has_at k S (outs-Read (at_location x l y))
      (record {
        own = R;
        qs = qs;
        ws = ws;
        fits = slot_moved G D y R m f;
        parts = rs;
        values = vs;
        below = b;
      })
  move_at {G} D R qs ws (Term-F.Write y a) m f ps rs vs b =
      has_at k S (outs-Write (at_location x l y) (located x l a))
      (record {
        own = R;
        qs = qs;
        ws = ws;
        fits = (f.0, slot_moved G D y f.0 m f.1, f.2, f.3);
        parts = rs;
        values = vs;
        below = b;
      })
  move_at {G} {T} D R qs ws (Term-F.Fn c) m f ps rs vs b =
      let i = parts_as k S ps f.0 in let j = parts_as k S rs f.0 in
      subst (λ u. Has k S D (function u) T) (sym (closure_at c))
      (function_has k tr self S (record c { body = located x l c.body }) ws vs f.1 j.0.0 j.0.1
      (subst (λ z. Below k z T) f.2 b))
  move_at {G} D R qs ws (Term-F.Variable z) m f ps rs vs b =
      remade_has k tr self S (located x l) values_at closures_at located_value R qs ws
      (Term-F.Variable z) (fixed_kept G D z R m f) rs vs b (λ c e. absurd cc)
  move_at {G} D R qs ws form m f ps rs vs b =
      remade_has k tr self S (located x l) values_at closures_at located_value R qs ws form f rs vs
      b (λ c e. absurd cc)

  mutual
    pub move : {G : Env} {t : Term} {T : Ty} (D : Env) → Has k S G t T → Less x (cell A) G D
        → Has k S D (located x l t) T
    move {t = t} {T = T} D (has R qs ws f ps vs b) m =
        subst (λ u. Has k S D u T) (sym (located_out t))
        (move_at D R qs ws (out-Term t) m f ps (move_parts D ps m) vs b)

    move_parts : {G : Env} {ts : List Term} {qs : List Part} (D : Env) → HasParts k S G ts qs
        → Less x (cell A) G D → HasParts k S D (map (located x l) ts) qs
    move_parts D parts0 m = parts0
    move_parts {G} D (parts1 {q = q} f h hs) m =
        parts1 (less_fresh x (cell A) q.vars G D m f)
        (move (binds q.vars D) h (less_binds x (cell A) q.vars G D m f)) (move_parts D hs m)

  -- the one variable of a block's rest
  pub locate : {t : Term} {T : Ty} → Has k S (bind x (cell A) none) t T
      → Has k S none (located x l t) T
  locate h = move none h (less_first x (cell A) none refl)
