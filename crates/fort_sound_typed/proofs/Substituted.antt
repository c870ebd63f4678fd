-- A value in place of a variable keeps the type of a term.
use Rattle.std.proofs.Common.{◌≡◌, ℕ, Bool, true, false, ◌==◌, ◌||◌, if◌then◌else◌, List, [], ◌∷◌, map, Some, None, refl, ap, sym, ◌∙◌, subst}
use Rattle.std.specs.List.{list_any}
use Rattle.fort_base.specs.declared.ty.Ty.{Ty, Arrow}
use Rattle.fort_core.specs.declared.form.Slot.{Slot}
use Rattle.fort_core.specs.declared.form.Slot.TheVariants as slot
use Rattle.fort_core.specs.declared.term.Term.{Term, out-Term, roll-out-Term, fold_out-Term, map-Term, para-Term, para-roll-Term, roll-Term}
use Rattle.fort_core.specs.declared.term.Term as term
use Rattle.fort_core.specs.declared.term.Term.TheVariants.{Variable, outs-Variable, rolls-Value}
use Rattle.fort_core.specs.declared.term.Term.TheOpen.{Term-F}
use Rattle.fort_core.specs.declared.value.Value.{Value, para-Value, fold-Value}
use Rattle.fort_core.specs.declared.value.Closure.{Closure, para-Closure, fold-Closure, fold_out-Closure}
use Rattle.fort_core.specs.declared.program.Program.{Program}
use Rattle.fort_machine.specs.Parts.{terms_in, values_in, held_values}
use Rattle.fort_machine.specs.Scopes.{function}
use Rattle.fort_machine.specs.Substitution.{occurs_at, occurs, put_held, held_by, with_value, substituted, substituted_all}
use Rattle.fort_machine.specs.Types.{domain_of}
use Rattle.fort_machine.proofs.Standing.{or_false}
use Rattle.fort_machine.proofs.Substituted.{parts_map, pairs}
use Rattle.fort_sound_typed.specs.Envs.{fixed, cell, Sig, Env, none, binds, Distinct, Fresh, fixed_all, named, Part}
use Rattle.fort_sound_typed.specs.Typing.{Below, SlotHas, vars_of, Fits, Has, has, HasParts, parts0, parts1, HasV, HasVs, vs0, vs1}
use Rattle.fort_sound_typed.proofs.Bind.{Tells, alike, apart, tells, Less, less_fresh, less_binds, less_first}
use Rattle.fort_sound_typed.proofs.Rules.{Trans, has_at, has_value, sub_v, parts_as}
use Rattle.fort_sound_typed.proofs.Made.{function_has, remade_has}
use Rattle.fort_sound_typed.proofs.Held.{put_type, put_has, all_distinct, all_fresh, all_again}

module _ (x : ℕ) where
  abbrev of_values : Value → Unit {0}
  of_values = fold-Value Bool (Unit {0}) Bool (occurs_at x) (λ v. tt) (λ c. c.body)

  abbrev of_closures : Closure → Bool
  of_closures = fold-Closure Bool (Unit {0}) Bool (occurs_at x) (λ v. tt) (λ c. c.body)

  abbrev occurring : Term-F Term Value Closure → Bool
  occurring y =
      occurs_at x
      (map-Term Term Value Closure Bool (Unit {0}) Bool (occurs x) of_values of_closures y)

  out_occurs : (t : Term) → occurs x t ≡ occurring (out-Term t)
  out_occurs t = fold_out-Term Bool (Unit {0}) Bool (occurs_at x) (λ v. tt) (λ c. c.body) t

  or_no : (b : Bool) → b ≡ false → (b || false) ≡ false
  or_no b e = ap (λ c. c || false) e

  abbrev NotAny : List Term → Type 0
  NotAny ts = list_any (λ (b : Bool). b) (map (occurs x) ts) ≡ false

  occurs_parts : (y : Term-F Term Value Closure) → occurring y ≡ false → NotAny (terms_in y)
  occurs_parts (Term-F.Fn c) e =
      or_no (occurs x c.body)
      (sym (fold_out-Closure Bool (Unit {0}) Bool (occurs_at x) (λ v. tt) (λ c. c.body) c) ∙ e)
  occurs_parts (Term-F.Variable z) e = refl
  occurs_parts form e =
      sym (ap (list_any (λ (b : Bool). b)) (parts_map (occurs x) of_values of_closures form)) ∙ e

module _ (k : Program) (tr : Trans k) (self : (A : Ty) → Below k A A) (S : Sig) (x : ℕ)
    (A : Ty) where
  slot_less : (G D : Env) (y : Slot) (B : Ty) → Less x (fixed A) G D → SlotHas S G y B
      → SlotHas S D y B
  slot_less G D (slot.Variable z) B l h =
      elim (tells x z) [
        | alike q b ↦ let r : Some (fixed A) ≡ Some (cell B) = sym l.has ∙ ap G q ∙ h
            in absurd cc
        | apart b c ↦ l.same z b ∙ h
      ]
  slot_less G D (slot.Location n) B l h = h

  fits_less : (G D : Env) (y : Term-F Term Value Closure) (qs : List Part) (ws : List Ty) (R : Ty)
      → Less x (fixed A) G D → ((z : ℕ) → y ≡ Term-F.Variable z → (x == z) ≡ false)
      → Fits k S G y qs ws R → Fits k S D y qs ws R
  fits_less G D (Term-F.Variable z) qs ws R l n f = l.same z (n z refl) ∙ f
  fits_less G D (Term-F.Read y) qs ws R l n f = slot_less G D y R l f
  fits_less G D (Term-F.Write y a) qs ws R l n f = (f.0, slot_less G D y f.0 l f.1, f.2, f.3)
  fits_less G D _ qs ws R l n f = f

  -- a variable that doesn't stand in a term may go
  mutual
    pub thin : {G : Env} {t : Term} {T : Ty} (D : Env) → Has k S G t T → Less x (fixed A) G D
        → occurs x t ≡ false → Has k S D t T
    thin {G} {t} D (has R qs ws f ps vs b) l n = let i = sym (out_occurs x t) ∙ n in
        has R qs ws (fits_less G D (out-Term t) qs ws R l (λ z e. sym (ap (occurring x) e) ∙ i) f)
        (thin_parts D ps l (occurs_parts x (out-Term t) i)) vs b

    thin_parts : {G : Env} {ts : List Term} {qs : List Part} (D : Env) → HasParts k S G ts qs
        → Less x (fixed A) G D → NotAny x ts → HasParts k S D ts qs
    thin_parts D parts0 l n = parts0
    thin_parts {G} D (parts1 {q = q} f h hs) l n = let i = or_false _ _ n in
        parts1 (less_fresh x (fixed A) q.vars G D l f)
        (thin (binds q.vars D) h (less_binds x (fixed A) q.vars G D l f) i.0)
        (thin_parts D hs l i.1)

  module _ (v : Value) (hv : HasV k S v A) where
    abbrev values_by : Value → Unit {0}
    values_by = para-Value Term (Unit {0}) (Unit {0}) (with_value x v) (λ w. tt) (λ c. tt)

    abbrev closures_by : Closure → Unit {0}
    closures_by = para-Closure Term (Unit {0}) (Unit {0}) (with_value x v) (λ w. tt) (λ c. tt)

    pub substituted_out : (t : Term)
        → substituted x v t
        ≡ with_value x v (pairs (substituted x v) values_by closures_by (out-Term t))
    unfolding substituted
    substituted_out t =
        ap (substituted x v) (sym (roll-out-Term t))
        ∙ para-roll-Term Term (Unit {0}) (Unit {0}) (with_value x v) (λ w. tt) (λ c. tt)
        (out-Term t)

    pub substituted_value : (w : Value) → substituted x v (term.Value w) ≡ term.Value w
    unfolding substituted
    substituted_value w =
        ap (substituted x v) (sym (rolls-Value w))
        ∙ para-roll-Term Term (Unit {0}) (Unit {0}) (with_value x v) (λ w. tt) (λ c. tt)
        (Term-F.Value w) ∙ rolls-Value w

    at_variable : {G : Env} {T R : Ty} (D : Env) (z : ℕ) → Less x (fixed A) G D
        → G z ≡ Some (fixed R) → Below k R T
        → Has k S D (if x == z then term.Value v else Variable z) T
    at_variable {G} {T} {R} D z l h b = go (tells x z)
      where
        go : Tells x z → Has k S D (if x == z then term.Value v else Variable z) T
        go (alike q d) =
            let r : Some (fixed A) ≡ Some (fixed R) = sym l.has ∙ ap G q ∙ h in let s : A ≡ R = cc
            in
            subst (λ c. Has k S D (if c then term.Value v else Variable z) T) (sym d)
            (has_value k S self (sub_v k S tr hv (subst (λ X. Below k X T) (sym s) b)))
        go (apart d f) = subst (λ c. Has k S D (if c then term.Value v else Variable z) T) (sym d)
            (has_at k S (outs-Variable z)
            (record {
              own = R;
              qs = [];
              ws = [];
              fits = l.same z d ∙ h;
              parts = parts0;
              values = vs0;
              below = b;
            }))

    at_function : {G : Env} {T : Ty} (D : Env) (c : Closure) (ws : List Ty) → Less x (fixed A) G D
        → HasVs k S (held_values c) ws → Distinct (vars_of c ws) → Fresh (vars_of c ws) G
        → Has k S (binds (vars_of c ws) G) c.body c.result
        → Below k (Arrow (domain_of c.parameters) c.result) T
        → Has k S D (function (held_by x v c)) T
    at_function {G} {T} D c ws l i d n h b = go (occurs x c.body) refl
      where
        e : binds (vars_of c ws) none x ≡ None
        e = n x (fixed A) l.has

        go : (o : Bool) → occurs x c.body ≡ o
            → Has k S D (function (if o then record c { held = put_held x v c.held } else c)) T
        go false o =
            function_has k tr self S c ws i d (less_fresh x (fixed A) (vars_of c ws) G D l n)
            (thin (binds (vars_of c ws) D) h (less_binds x (fixed A) (vars_of c ws) G D l n) o) b
        go true o =
            function_has k tr self S (record c { held = put_held x v c.held })
            (put_type x A c.held ws) (put_has k S x v A hv c.held ws i)
            (all_distinct k S x v A hv c.held ws i (fixed_all c.parameters) e d)
            (all_fresh k S x v A hv c.held ws i (fixed_all c.parameters) G D l e n)
            (subst (λ E. Has k S E c.body c.result)
            (all_again k S x v A hv c.held ws i (fixed_all c.parameters) G D l e) h) b

    replace_at : {G : Env} {T : Ty} (D : Env) (R : Ty) (qs : List Part) (ws : List Ty)
        (y : Term-F Term Value Closure) → Less x (fixed A) G D → Fits k S G y qs ws R
        → HasParts k S G (terms_in y) qs
        → HasParts k S D (map (substituted x v) (terms_in y)) qs → HasVs k S (values_in y) ws
        → Below k R T
        → Has k S D (with_value x v (pairs (substituted x v) values_by closures_by y)) T
    replace_at D R qs ws (Term-F.Variable z) l f ps rs vs b = at_variable D z l f b
    replace_at {G} {T} D R qs ws (Term-F.Fn c) l f ps rs vs b =
        let i = parts_as k S ps f.0
        in at_function D c ws l vs f.1 i.0.0 i.0.1 (subst (λ z. Below k z T) f.2 b)
    replace_at {G} D R qs ws form l f ps rs vs b =
        remade_has k tr self S (substituted x v) values_by closures_by substituted_value R qs ws
        form (fits_less G D form qs ws R l (λ z e. absurd cc) f) rs vs b (λ c e. absurd cc)

    -- the value takes the variable's place
    mutual
      pub replace : {G : Env} {t : Term} {T : Ty} (D : Env) → Has k S G t T → Less x (fixed A) G D
          → Has k S D (substituted x v t) T
      replace {t = t} {T = T} D (has R qs ws f ps vs b) l =
          subst (λ u. Has k S D u T) (sym (substituted_out t))
          (replace_at D R qs ws (out-Term t) l f ps (replace_parts D ps l) vs b)

      replace_parts : {G : Env} {ts : List Term} {qs : List Part} (D : Env) → HasParts k S G ts qs
          → Less x (fixed A) G D → HasParts k S D (map (substituted x v) ts) qs
      replace_parts D parts0 l = parts0
      replace_parts {G} D (parts1 {q = q} f h hs) l =
          parts1 (less_fresh x (fixed A) q.vars G D l f)
          (replace (binds q.vars D) h (less_binds x (fixed A) q.vars G D l f))
          (replace_parts D hs l)

module _ (k : Program) (tr : Trans k) (self : (A : Ty) → Below k A A) (S : Sig) where
  -- values in place of all the variables of a term
  pub replaces : {T : Ty} (hs : List (ℕ × Value)) (ws : List Ty) (t : Term)
      → HasVs k S (map (λ (h : ℕ × Value). h.1) hs) ws → Distinct (named hs ws)
      → Has k S (binds (named hs ws) none) t T
      → Has k S none (substituted_all hs t) T
  replaces [] ws t i d h = h
  replaces (q ∷ hs) [] t i d h = elim i [ ]
  replaces {T} (q ∷ hs) (w ∷ ws) t i d h = go i (λ u js m. replaces hs ws u js d.1 m)
    where
      go : HasVs k S (q.1 ∷ map (λ (h : ℕ × Value). h.1) hs) (w ∷ ws)
          → ((u : Term) → HasVs k S (map (λ (h : ℕ × Value). h.1) hs) ws
          → Has k S (binds (named hs ws) none) u T → Has k S none (substituted_all hs u) T)
          → Has k S none (substituted_all hs (substituted q.0 q.1 t)) T
      go (vs1 hv js) r =
          r (substituted q.0 q.1 t) js
          (replace k tr self S q.0 w q.1 hv (binds (named hs ws) none) h
          (less_first q.0 (fixed w) (binds (named hs ws) none) d.0))
