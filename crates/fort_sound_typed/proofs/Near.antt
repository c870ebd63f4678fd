-- A term's type rests on the variables that stand in it.
use Rattle.std.proofs.Common.{◌≡◌, ℕ, Bool, true, false, ◌&&◌, ◌||◌, List, [], ◌∷◌, ◌++◌, map, Some, None, refl, ap, sym, ◌∙◌, subst}
use Rattle.fort_base.specs.declared.ty.Ty.{Ty}
use Rattle.fort_core.specs.declared.form.Slot.{Slot}
use Rattle.fort_core.specs.declared.form.Slot.TheVariants as slot
use Rattle.fort_core.specs.declared.term.Term.{Term, out-Term, fold_out-Term, map-Term}
use Rattle.fort_core.specs.declared.term.Term.TheOpen.{Term-F}
use Rattle.fort_core.specs.declared.value.Closure.{Closure, fold-Closure, fold_out-Closure}
use Rattle.fort_core.specs.declared.value.Value.{Value, fold-Value}
use Rattle.fort_core.specs.declared.program.Program.{Program}
use Rattle.fort_machine.specs.Parts.{terms_in, values_in, held_values}
use Rattle.fort_machine.specs.Scopes.{variables, is_among, Scoped, all_scoped, clauses_scoped, scoped_at, closure_scoped_at, scoped, holds_all}
use Rattle.fort_sound_typed.specs.Envs.{Sort, Sig, Env, none, binds, Fresh, fixed_all, named, Part, plains}
use Rattle.fort_sound_typed.specs.Typing.{SlotHas, vars_of, clauses, Fits, Has, has, HasParts, parts0, parts1, HasVs, vs1}
use Rattle.fort_sound_typed.proofs.Bind.{alike, apart, tells, bind_at, bind_other}

pub and_true : (a b : Bool) → (a && b) ≡ true → (a ≡ true) × (b ≡ true)
and_true true b e = (refl, e)
and_true false b e = absurd cc

-- each part's variables are among some, and its own
abbrev pub AllScoped : List Term → List Part → List ℕ → Type 0
AllScoped [] qs xs = Unit {0}
AllScoped (t ∷ ts) [] xs = Unit {0}
AllScoped (t ∷ ts) (q ∷ qs) xs = (scoped t (variables q.vars ++ xs) ≡ true) × AllScoped ts qs xs

all_plain : (ts : List Term) (As : List Ty) (xs : List ℕ) → all_scoped (map scoped ts) xs ≡ true
    → AllScoped ts (plains As) xs
all_plain [] As xs e = tt
all_plain (t ∷ ts) [] xs e = tt
all_plain (t ∷ ts) (A ∷ As) xs e =
    let i = and_true (scoped t xs) (all_scoped (map scoped ts) xs) e
    in (i.0, all_plain ts As xs i.1)

all_clauses : (x : ℕ) (cs : List (Term × Ty)) (R : Ty) (xs : List ℕ)
    → clauses_scoped (map (λ (c : Term × Ty). (scoped c.0, c.1)) cs) (x ∷ xs) ≡ true
    → AllScoped (map (λ (c : Term × Ty). c.0) cs) (clauses x cs R) xs
all_clauses x [] R xs e = tt
all_clauses x (c ∷ cs) R xs e =
    let i = and_true (scoped c.0 (x ∷ xs))
    (clauses_scoped (map (λ (c : Term × Ty). (scoped c.0, c.1)) cs) (x ∷ xs)) e
    in (i.0, all_clauses x cs R xs i.1)

pub fixed_names : (ys : List (ℕ × Ty)) → variables (fixed_all ys) ≡ variables ys
fixed_names [] = refl
fixed_names (y ∷ ys) = ap (λ r. y.0 ∷ r) (fixed_names ys)

pub names_append : (vs us : List (ℕ × Sort)) → variables (vs ++ us) ≡ variables vs ++ variables us
names_append [] us = refl
names_append (v ∷ vs) us = ap (λ r. v.0 ∷ r) (names_append vs us)

append_more : {A : Type 0} (xs ys zs : List A) → (xs ++ ys) ++ zs ≡ xs ++ (ys ++ zs)
append_more [] ys zs = refl
append_more (x ∷ xs) ys zs = ap (λ r. x ∷ r) (append_more xs ys zs)

module _ (k : Program) (S : Sig) where
  held_names : (hs : List (ℕ × Value)) (ws : List Ty)
      → HasVs k S (map (λ (h : ℕ × Value). h.1) hs) ws → variables (named hs ws) ≡ variables hs
  held_names [] [] h = refl
  held_names [] (w ∷ ws) h = refl
  held_names (h ∷ hs) [] i = elim i [ ]
  held_names (h ∷ hs) (w ∷ ws) i = ap (λ r. h.0 ∷ r) (held_names hs ws (rest i))
    where
      rest : HasVs k S (h.1 ∷ map (λ (h : ℕ × Value). h.1) hs) (w ∷ ws)
          → HasVs k S (map (λ (h : ℕ × Value). h.1) hs) ws
      rest (vs1 j js) = js

  -- the variables of a function's body
  pub body_names : (c : Closure) (ws : List Ty) (xs : List ℕ) → HasVs k S (held_values c) ws
      → variables c.parameters ++ (variables c.held ++ xs) ≡ variables (vars_of c ws) ++ xs
  body_names c ws xs i =
      sym (ap (λ r. r ++ xs) (names_append (fixed_all c.parameters) (named c.held ws))
      ∙ append_more (variables (fixed_all c.parameters)) (variables (named c.held ws)) xs
      ∙ ap (λ r. r ++ (variables (named c.held ws) ++ xs)) (fixed_names c.parameters)
      ∙ ap (λ r. variables c.parameters ++ (r ++ xs)) (held_names c.held ws i))

  abbrev pub of_values : Value → Unit {0}
  of_values = fold-Value Scoped (Unit {0}) Scoped scoped_at (λ v. tt) closure_scoped_at

  abbrev pub of_closures : Closure → Scoped
  of_closures = fold-Closure Scoped (Unit {0}) Scoped scoped_at (λ v. tt) closure_scoped_at

  abbrev pub scoping : Term-F Term Value Closure → Scoped
  scoping y =
      scoped_at
      (map-Term Term Value Closure Scoped (Unit {0}) Scoped scoped of_values of_closures y)

  pub out_scoped : (t : Term) → scoped t ≡ scoping (out-Term t)
  out_scoped t = fold_out-Term Scoped (Unit {0}) Scoped scoped_at (λ v. tt) closure_scoped_at t

  held_mapped : (hs : List (ℕ × Value))
      → variables (map (λ (h : ℕ × Value). (h.0, of_values h.1)) hs) ≡ variables hs
  held_mapped [] = refl
  held_mapped (h ∷ hs) = ap (λ r. h.0 ∷ r) (held_mapped hs)

  pub closure_scoped : (c : Closure) (xs : List ℕ)
      → of_closures c xs ≡ scoped c.body (variables c.parameters ++ (variables c.held ++ xs))
  closure_scoped c xs =
      ap (λ (f : Scoped). f xs)
      (fold_out-Closure Scoped (Unit {0}) Scoped scoped_at (λ v. tt) closure_scoped_at c)
      ∙ ap (λ r. scoped c.body (variables c.parameters ++ (r ++ xs))) (held_mapped c.held)

  scoped_parts : (G : Env) (y : Term-F Term Value Closure) (qs : List Part) (ws : List Ty) (R : Ty)
      (xs : List ℕ) → Fits k S G y qs ws R → HasVs k S (values_in y) ws
      → scoping y xs ≡ true → AllScoped (terms_in y) qs xs
  scoped_parts G (Term-F.Value v) qs ws R xs f i e = tt
  scoped_parts G (Term-F.Throw a) qs ws R xs f i e =
      subst (λ z. AllScoped (a ∷ []) z xs) (sym f) (e, tt)
  scoped_parts G (Term-F.Variable x) qs ws R xs f i e = tt
  scoped_parts G (Term-F.Group ts) qs ws R xs f i e =
      subst (λ z. AllScoped ts z xs) (sym f.1) (all_plain ts f.0 xs e)
  scoped_parts G (Term-F.Fn c) qs ws R xs f i e =
      subst (λ z. AllScoped (c.body ∷ []) z xs) (sym f.0)
      (sym (ap (scoped c.body) (body_names c ws xs i)) ∙ sym (closure_scoped c xs) ∙ e, tt)
  scoped_parts G (Term-F.Call set ts) qs ws R xs f i e =
      subst (λ z. AllScoped ts z xs) (sym f.1) (all_plain ts f.0 xs e)
  scoped_parts G (Term-F.Operator set ts) qs ws R xs f i e =
      subst (λ z. AllScoped ts z xs) (sym f.1) (all_plain ts f.0 xs e)
  scoped_parts G (Term-F.Apply a b) qs ws R xs f i e =
      let j = and_true _ _ e in subst (λ z. AllScoped (a ∷ b ∷ []) z xs) (sym f.1) (j.0, (j.1, tt))
  scoped_parts G (Term-F.Fill ty a b) qs ws R xs f i e =
      let j = and_true _ _ e in subst (λ z. AllScoped (a ∷ b ∷ []) z xs) (sym f.0) (j.0, (j.1, tt))
  scoped_parts G (Term-F.Let ys a b) qs ws R xs f i e =
      let j = and_true _ _ e in subst (λ z. AllScoped (a ∷ b ∷ []) z xs) (sym f.0)
      (j.0, (ap (λ r. scoped b (r ++ xs)) (fixed_names ys) ∙ j.1, tt))
  scoped_parts G (Term-F.Mutable x ty a b) qs ws R xs f i e =
      let j = and_true _ _ e in subst (λ z. AllScoped (a ∷ b ∷ []) z xs) (sym f) (j.0, (j.1, tt))
  scoped_parts G (Term-F.Read x) qs ws R xs f i e = tt
  scoped_parts G (Term-F.Write x a) qs ws R xs f i e =
      let j = and_true _ _ e in subst (λ z. AllScoped (a ∷ []) z xs) (sym f.2) (j.1, tt)
  scoped_parts G (Term-F.ReadField a n) qs ws R xs f i e =
      subst (λ z. AllScoped (a ∷ []) z xs) (sym f.2) (e, tt)
  scoped_parts G (Term-F.WriteField a n b) qs ws R xs f i e =
      let j = and_true _ _ e in subst (λ z. AllScoped (a ∷ b ∷ []) z xs) (sym f.4) (j.0, (j.1, tt))
  scoped_parts G (Term-F.ReadElement a b) qs ws R xs f i e =
      let j = and_true _ _ e in subst (λ z. AllScoped (a ∷ b ∷ []) z xs) (sym f) (j.0, (j.1, tt))
  scoped_parts G (Term-F.WriteElement a b c) qs ws R xs f i e =
      let j = and_true _ _ e in let n = and_true _ _ j.1
      in subst (λ z. AllScoped (a ∷ b ∷ c ∷ []) z xs) (sym f.1) (j.0, (n.0, (n.1, tt)))
  scoped_parts G (Term-F.Size a) qs ws R xs f i e =
      subst (λ z. AllScoped (a ∷ []) z xs) (sym f.1) (e, tt)
  scoped_parts G (Term-F.Then a b) qs ws R xs f i e =
      let j = and_true _ _ e in subst (λ z. AllScoped (a ∷ b ∷ []) z xs) (sym f.1) (j.0, (j.1, tt))
  scoped_parts G (Term-F.If a b c) qs ws R xs f i e =
      let j = and_true _ _ e in let n = and_true _ _ j.1
      in subst (λ z. AllScoped (a ∷ b ∷ c ∷ []) z xs) (sym f) (j.0, (n.0, (n.1, tt)))
  scoped_parts G (Term-F.While a b) qs ws R xs f i e =
      let j = and_true _ _ e in subst (λ z. AllScoped (a ∷ b ∷ []) z xs) (sym f.1) (j.0, (j.1, tt))
  scoped_parts G (Term-F.Typecase x a cs b) qs ws R xs f i e =
      let j = and_true _ _ e in let n = and_true _ _ j.1 in
      subst (λ z. AllScoped (a ∷ b ∷ map (λ (c : Term × Ty). c.0) cs) z xs) (sym f.1) (
        j.0,
        (n.1, all_clauses x cs R xs n.0),
      )
  scoped_parts G (Term-F.For o s x a b) qs ws R xs f i e =
      let j = and_true _ _ e in subst (λ z. AllScoped (a ∷ b ∷ []) z xs) (sym f.4) (j.0, (j.1, tt))
  scoped_parts G (Term-F.ForHalves a b) qs ws R xs f i e =
      let j = and_true _ _ e in subst (λ z. AllScoped (a ∷ b ∷ []) z xs) (sym f.2) (j.0, (j.1, tt))
  scoped_parts G (Term-F.Reduce o s set c x a b) qs ws R xs f i e =
      let j = and_true _ _ e in let n = and_true _ _ j.1
      in subst (λ z. AllScoped (c ∷ a ∷ b ∷ []) z xs) (sym f.5) (j.0, (n.0, (n.1, tt)))
  scoped_parts G (Term-F.ReduceHalves set a b) qs ws R xs f i e =
      let j = and_true _ _ e in subst (λ z. AllScoped (a ∷ b ∷ []) z xs) (sym f.2) (j.0, (j.1, tt))
  scoped_parts G (Term-F.Also ts) qs ws R xs f i e =
      subst (λ z. AllScoped ts z xs) (sym f.1) (all_plain ts f.0 xs e)
  scoped_parts G (Term-F.Try a x cs None) qs ws R xs f i e =
      let j = and_true _ _ e in let n = and_true _ _ j.1 in
      subst (λ z. AllScoped (a ∷ map (λ (c : Term × Ty). c.0) cs) z xs) (sym f.1) (
        j.0,
        all_clauses x cs R xs n.0,
      )
  scoped_parts G (Term-F.Try a x cs (Some b)) qs ws R xs f i e =
      let j = and_true _ _ e in let n = and_true _ _ j.1 in
      subst (λ z. AllScoped (a ∷ b ∷ map (λ (c : Term × Ty). c.0) cs) z xs) (sym f.1) (
        j.0,
        (n.1, all_clauses x cs R xs n.0),
      )
  scoped_parts G (Term-F.Atomic m a) qs ws R xs f i e =
      subst (λ z. AllScoped (a ∷ []) z xs) (sym f) (e, tt)
  scoped_parts G (Term-F.Asleep ms a) qs ws R xs f i e =
      subst (λ z. AllScoped (a ∷ []) z xs) (sym f.0) (e, tt)
  scoped_parts G (Term-F.Stepped a) qs ws R xs f i e =
      subst (λ z. AllScoped (a ∷ []) z xs) (sym f) (e, tt)

  -- the second has less, but the same of some variables
  pub record Near (xs : List ℕ) (G D : Env) : Type 0 where
    pub same : (z : ℕ) → is_among z xs ≡ true → D z ≡ G z
    pub within : (z : ℕ) (B : Sort) → D z ≡ Some B → G z ≡ Some B

  near_fresh : (xs : List ℕ) (vs : List (ℕ × Sort)) (G D : Env) → Near xs G D → Fresh vs G
      → Fresh vs D
  near_fresh xs vs G D n f z B e = f z B (n.within z B e)

  near_same : (xs : List ℕ) (vs : List (ℕ × Sort)) (G D : Env) → Near xs G D → (z : ℕ)
      → is_among z (variables vs ++ xs) ≡ true → binds vs D z ≡ binds vs G z
  near_same xs [] G D n z e = n.same z e
  near_same xs (v ∷ vs) G D n z e = elim (tells v.0 z) [
    | alike q b ↦ bind_at v.0 v.1 (binds vs D) z q ∙ sym (bind_at v.0 v.1 (binds vs G) z q)
    | apart b c ↦
        bind_other v.0 v.1 (binds vs D) z b
        ∙ near_same xs vs G D n z (ap (λ w. w || is_among z (variables vs ++ xs)) (sym c) ∙ e)
        ∙ sym (bind_other v.0 v.1 (binds vs G) z b)
  ]

  near_within : (xs : List ℕ) (vs : List (ℕ × Sort)) (G D : Env) → Near xs G D → (z : ℕ) (B : Sort)
      → binds vs D z ≡ Some B → binds vs G z ≡ Some B
  near_within xs [] G D n z B e = n.within z B e
  near_within xs (v ∷ vs) G D n z B e = elim (tells v.0 z) [
    | alike q b ↦ bind_at v.0 v.1 (binds vs G) z q ∙ sym (bind_at v.0 v.1 (binds vs D) z q) ∙ e
    | apart b c ↦
        bind_other v.0 v.1 (binds vs G) z b
        ∙ near_within xs vs G D n z B (sym (bind_other v.0 v.1 (binds vs D) z b) ∙ e)
  ]

  pub near_binds : (xs : List ℕ) (vs : List (ℕ × Sort)) (G D : Env) → Near xs G D
      → Near (variables vs ++ xs) (binds vs G) (binds vs D)
  near_binds xs vs G D n = record { same = near_same xs vs G D n; within = near_within xs vs G D n }

  slot_near : (xs : List ℕ) (G D : Env) (x : Slot) (A : Ty) → Near xs G D
      → scoping (Term-F.Read x) xs ≡ true → SlotHas S G x A → SlotHas S D x A
  slot_near xs G D (slot.Variable x) A n e h = n.same x e ∙ h
  slot_near xs G D (slot.Location l) A n e h = h

  fits_near : (xs : List ℕ) (G D : Env) (y : Term-F Term Value Closure) (qs : List Part)
      (ws : List Ty) (R : Ty) → Near xs G D → scoping y xs ≡ true → Fits k S G y qs ws R
      → Fits k S D y qs ws R
  fits_near xs G D (Term-F.Variable x) qs ws R n e f = n.same x e ∙ f
  fits_near xs G D (Term-F.Read x) qs ws R n e f = slot_near xs G D x R n e f
  fits_near xs G D (Term-F.Write x a) qs ws R n e f =
      (f.0, slot_near xs G D x f.0 n (and_true _ _ e).0 f.1, f.2, f.3)
  fits_near xs G D _ qs ws R n e f = f

  mutual
    pub narrow : {G : Env} {t : Term} {T : Ty} (xs : List ℕ) (D : Env) → Has k S G t T → Near xs G D
        → scoped t xs ≡ true → Has k S D t T
    narrow {G} {t} xs D (has R qs ws f ps vs b) n e =
        let i = ap (λ (g : Scoped). g xs) (sym (out_scoped t)) ∙ e in
        has R qs ws (fits_near xs G D (out-Term t) qs ws R n i f)
        (narrow_parts xs D ps n (scoped_parts G (out-Term t) qs ws R xs f vs i)) vs b

    narrow_parts : {G : Env} {ts : List Term} {qs : List Part} (xs : List ℕ) (D : Env)
        → HasParts k S G ts qs → Near xs G D → AllScoped ts qs xs → HasParts k S D ts qs
    narrow_parts xs D parts0 n e = parts0
    narrow_parts {G} xs D (parts1 {q = q} f h hs) n e =
        parts1 (near_fresh xs q.vars G D n f)
        (narrow (variables q.vars ++ xs) (binds q.vars D) h (near_binds xs q.vars G D n) e.0)
        (narrow_parts xs D hs n e.1)

  near_none : (G : Env) → Near [] G none
  near_none G = record { same = λ z e. absurd cc; within = λ z B e. absurd cc }

  append_nil : (xs : List ℕ) → xs ++ [] ≡ xs
  append_nil [] = refl
  append_nil (x ∷ xs) = ap (λ r. x ∷ r) (append_nil xs)

  -- what holds all that it needs needs nothing from round it
  pub body_closed : (c : Closure) (ws : List Ty) (G : Env) → HasVs k S (held_values c) ws
      → Has k S (binds (vars_of c ws) G) c.body c.result → holds_all c ≡ true
      → Has k S (binds (vars_of c ws) none) c.body c.result
  body_closed c ws G i h e =
      narrow (variables (vars_of c ws) ++ []) (binds (vars_of c ws) none) h
      (near_binds [] (vars_of c ws) G none (near_none G))
      (sym (ap (scoped c.body) (body_names c ws [] i)) ∙ sym (closure_scoped c []) ∙ e)
