-- Tuples and functions that are made anew, and forms with other parts.
use Rattle.std.proofs.Common.{◌≡◌, ℕ, Bool, true, false, ◌&&◌, if◌then◌else◌, List, [], ◌∷◌, map, Option, Some, None, inl, inr, ◌⊎◌, refl, ap, sym, ◌∙◌, subst}
use Rattle.std.specs.Prelude.{nat_le, option_map, option_and_then}
use mathlib.Core.List.{map-map}
use Rattle.fort_base.specs.declared.ids.Loc.{Loc}
use Rattle.fort_base.specs.declared.ty.Ty.{Ty, Tuple, Arrow}
use Rattle.fort_core.specs.declared.form.Span.{Span}
use Rattle.fort_core.specs.declared.form.Span.TheVariants as span
use Rattle.fort_core.specs.declared.term.Term.{Term, Group, Fn, out-Term, out-roll-Term, map-Term}
use Rattle.fort_core.specs.declared.term.Term as term
use Rattle.fort_core.specs.declared.term.Term.TheVariants.{outs-Fn, outs-Group}
use Rattle.fort_core.specs.declared.term.Term.TheOpen.{Term-F}
use Rattle.fort_core.specs.declared.value.Value.{Value, Function, out-Value}
use Rattle.fort_core.specs.declared.value.Value as value
use Rattle.fort_core.specs.declared.value.Value.TheVariants.{outs-Tuple, outs-Function}
use Rattle.fort_core.specs.declared.value.Closure.{Closure}
use Rattle.fort_core.specs.declared.program.Program.{Program}
use Rattle.fort_machine.specs.Texts.{depth, closure_depth, deepest}
use Rattle.fort_machine.specs.Ends.{Standing, at_value, at_throw, open_yet, standing, Finished, value_at, values_of, tuple_of, group}
use Rattle.fort_machine.specs.Ends as ends
use Rattle.fort_machine.specs.Parts.{terms_in, parts_of, values_in, held_values}
use Rattle.fort_machine.specs.Scopes.{holds_all, function}
use Rattle.fort_machine.specs.Substitution.{Changed, now, remade}
use Rattle.fort_machine.specs.Types.{domain_of}
use Rattle.fort_machine.proofs.Standing.{decide, standing-Value, standing-throw}
use Rattle.fort_machine.proofs.Substituted.{parts_map, pairs}
use Rattle.fort_sound_typed.specs.Envs.{Sig, Env, binds, Distinct, Fresh, Part, plain, bound, plains}
use Rattle.fort_sound_typed.specs.Typing.{Below, SpanFits, MarksFit, clauses, vars_of, Fits, Has, HasParts, parts0, parts1, HasVs, vs0, vs1}
use Rattle.fort_sound_typed.proofs.Rules.{Trans, has_at, has_v_at, value_has, has_value}
use Rattle.fort_sound_typed.proofs.Near.{body_closed}

-- what stands at a value is that value
pub is_value : (t : Term) (v : Value) → standing t ≡ at_value v → t ≡ term.Value v
is_value t v e = go (decide t)
  where
    go : (standing t ≡ open_yet) ⊎ Finished t → t ≡ term.Value v
    go (inl o) = let z : at_value v ≡ open_yet = sym e ∙ o in absurd cc
    go (inr (ends.Finished.value w q)) =
        let z : at_value v ≡ at_value w = sym e ∙ ap standing q ∙ standing-Value w
        in let y : w ≡ v = cc in q ∙ ap term.Value y
    go (inr (ends.Finished.throw w q)) =
        let z : at_value v ≡ at_throw w = sym e ∙ ap standing q ∙ standing-throw w in absurd cc

pub is_thrown : (t : Term) (v : Value) → standing t ≡ at_throw v → t ≡ ends.throw_of v
is_thrown t v e = go (decide t)
  where
    go : (standing t ≡ open_yet) ⊎ Finished t → t ≡ ends.throw_of v
    go (inl o) = let z : at_throw v ≡ open_yet = sym e ∙ o in absurd cc
    go (inr (ends.Finished.value w q)) =
        let z : at_throw v ≡ at_value w = sym e ∙ ap standing q ∙ standing-Value w in absurd cc
    go (inr (ends.Finished.throw w q)) =
        let z : at_throw v ≡ at_throw w = sym e ∙ ap standing q ∙ standing-throw w
        in let y : w ≡ v = cc in q ∙ ap ends.throw_of y

module _ (k : Program) (tr : Trans k) (self : (A : Ty) → Below k A A) (S : Sig) where
  -- the values of parts that all are values
  pub values_have : {G : Env} (ts : List Term) (As : List Ty) (vs : List Value)
      → values_of ts ≡ Some vs → HasParts k S G ts (plains As) → HasVs k S vs As
  values_have [] [] vs e h = let z : [] ≡ vs = cc in subst (λ u. HasVs k S u []) z vs0
  values_have [] (A ∷ As) vs e h = elim h [ ]
  values_have (t ∷ ts) [] vs e h = elim h [ ]
  values_have {G} (t ∷ ts) (A ∷ As) vs e h =
      go (standing t) refl (values_of ts) refl h (λ us r is. values_have ts As us r is)
    where
      go : (st : Standing) → standing t ≡ st → (o : Option (List Value)) → values_of ts ≡ o
          → HasParts k S G (t ∷ ts) (plain A ∷ plains As)
          → ((us : List Value) → values_of ts ≡ Some us → HasParts k S G ts (plains As)
          → HasVs k S us As) → HasVs k S vs (A ∷ As)
      go (at_throw v) q o r h m =
          let z : None ≡ Some vs =
          sym (ap (λ st. option_and_then (λ
          (v : Value). option_map (λ (vs : List Value). v ∷ vs) (values_of ts)) (value_at st))
          q) ∙ e in absurd cc
      go open_yet q o r h m =
          let z : None ≡ Some vs =
          sym (ap (λ st. option_and_then (λ
          (v : Value). option_map (λ (vs : List Value). v ∷ vs) (values_of ts)) (value_at st))
          q) ∙ e in absurd cc
      go (at_value v) q None r h m =
          let z : None ≡ Some vs =
          sym (ap (λ st. option_and_then (λ
          (v : Value). option_map (λ (vs : List Value). v ∷ vs) (values_of ts)) (value_at st)) q
          ∙ ap (option_map (λ (vs : List Value). v ∷ vs)) r) ∙ e in absurd cc
      go (at_value v) q (Some us) r (parts1 n i is) m =
          let z : Some (v ∷ us) ≡ Some vs =
          sym (ap (λ st. option_and_then (λ
          (v : Value). option_map (λ
          (vs : List Value). v ∷ vs) (values_of ts)) (value_at st)) q
          ∙ ap (option_map (λ (vs : List Value). v ∷ vs)) r) ∙ e in
          let y : v ∷ us ≡ vs = cc in
          subst (λ u. HasVs k S u (A ∷ As)) y
          (vs1 (value_has k S tr (subst (λ u. Has k S G u A) (is_value t v q) i)) (m us r is))

  -- a tuple, or its value
  pub group_has : {G : Env} {T : Ty} (ts : List Term) (As : List Ty) → HasParts k S G ts (plains As)
      → Below k (Tuple As) T → Has k S G (group ts) T
  group_has {G} {T} ts As h b = go (values_of ts) refl
    where
      still : (u : Term) → u ≡ Group ts → Has k S G u T
      still u e =
          has_at k S (ap out-Term e
          ∙ outs-Group ts)
          (record {
            own = Tuple As;
            qs = plains As;
            ws = [];
            fits = (As, refl, refl);
            parts = h;
            values = vs0;
            below = b;
          })

      at : (vs : List Value) → HasVs k S vs As → (c : Bool)
          → Has k S G (if c then term.Value (value.Tuple vs) else Group ts) T
      at vs i false = still _ refl
      at vs i true =
          has_value k S self
          (has_v_at k S (outs-Tuple vs)
          (record {
            own = Tuple As;
            qs = [];
            ws = As;
            fits = refl;
            parts = parts0;
            values = i;
            below = b;
          }))

      go : (o : Option (List Value)) → values_of ts ≡ o → Has k S G (group ts) T
      go None e = still (group ts) (ap (tuple_of ts) e)
      go (Some vs) e =
          subst (λ u. Has k S G u T) (sym (ap (tuple_of ts) e))
          (at vs (values_have ts As vs e h) (nat_le (depth (value.Tuple vs)) deepest))

  -- a function term, or its value
  pub function_has : {G : Env} {T : Ty} (c : Closure) (ws : List Ty) → HasVs k S (held_values c) ws
      → Distinct (vars_of c ws) → Fresh (vars_of c ws) G
      → Has k S (binds (vars_of c ws) G) c.body c.result
      → Below k (Arrow (domain_of c.parameters) c.result) T → Has k S G (function c) T
  function_has {G} {T} c ws i d n h b = go (holds_all c) refl (nat_le (closure_depth c) deepest)
    where
      still : (u : Term) → u ≡ Fn c → Has k S G u T
      still u e = has_at k S (ap out-Term e ∙ outs-Fn c) (record {
        own = Arrow (domain_of c.parameters) c.result;
        qs = record { vars = vars_of c ws; type = c.result } ∷ [];
        ws = ws;
        fits = (refl, d, refl);
        parts = parts1 n h parts0;
        values = i;
        below = b;
      })

      go : (x : Bool) → holds_all c ≡ x → (y : Bool)
          → Has k S G (if x && y then term.Value (Function c) else Fn c) T
      go false e y = still _ refl
      go true e false = still _ refl
      go true e true = has_value k S self (has_v_at k S (outs-Function c) (record {
        own = Arrow (domain_of c.parameters) c.result;
        qs = record { vars = vars_of c ws; type = c.result } ∷ [];
        ws = ws;
        fits = (refl, d, refl);
        parts = parts1 (λ z B e. absurd cc) (body_closed k S c ws G i h e) parts0;
        values = i;
        below = b;
      }))

  -- a form with other parts
  module _ {A B : Type 0} (F : Term → Term) (g : Value → A) (h : Closure → B)
      (fixes : (v : Value) → F (term.Value v) ≡ term.Value v) where
    abbrev same_form : Term-F Term Value Closure → Term-F Term Value Closure
    same_form y =
        map-Term Changed (Value × A) (Closure
        × B) Term Value Closure now (λ v. v.0) (λ c. c.0) (pairs F g h y)

    same_parts : (y : Term-F Term Value Closure) → parts_of (same_form y) ≡ map F (parts_of y)
    same_parts y =
        parts_map now (λ (v : Value × A). v.0) (λ
        (c : Closure × B). c.0) (pairs F g h y)
        ∙ ap (map now) (parts_map (λ t. (t, F t)) (λ w. (w, g w)) (λ c. (c, h c)) y)
        ∙ map-map now (λ t. (t, F t)) (parts_of y)

    span_same : (s : Span) (a : Term) → SpanFits s a → SpanFits s (F a)
    span_same span.Whole a i = tt
    span_same (span.Part n m) a i = (i.0, ap F i.1 ∙ fixes i.0, i.2)

    abbrev clause_pairs : List (Term × Ty) → List (Term × Ty)
    clause_pairs cs =
        map (λ (c : Changed × Ty). (now c.0, c.1)) (map (λ (c : Term × Ty). ((c.0, F c.0), c.1)) cs)

    clauses_same : (x : ℕ) (cs : List (Term × Ty)) (R : Ty)
        → clauses x cs R ≡ clauses x (clause_pairs cs) R
    clauses_same x [] R = refl
    clauses_same x (c ∷ cs) R = ap (λ r. bound x c.1 R ∷ r) (clauses_same x cs R)

    marks_same : (ms : List (Loc × Value))
        → map (λ (m : Loc × (Value × A)). (m.0, m.1.0)) (map (λ
        (m : Loc × Value). (m.0, (m.1, g m.1))) ms) ≡ ms
    marks_same [] = refl
    marks_same (m ∷ ms) = ap (λ r. m ∷ r) (marks_same ms)

    pub remade_has : {D : Env} {T : Ty} (R : Ty) (qs : List Part) (ws : List Ty)
        (y : Term-F Term Value Closure) → Fits k S D y qs ws R
        → HasParts k S D (map F (terms_in y)) qs
        → HasVs k S (values_in y) ws → Below k R T → ((c : Closure) → y ≡ Term-F.Fn c → ⊥)
        → Has k S D (remade (pairs F g h y)) T
    remade_has {D} {T} R qs ws (Term-F.Group ts) f ps vs b n =
        group_has (map now (map (λ t. (t, F t)) ts)) f.0
        (subst (λ z. HasParts k S D z (plains f.0)) (sym (map-map now (λ t. (t, F t)) ts))
        (subst (λ z. HasParts k S D (map F ts) z) f.1 ps))
        (subst (λ z. Below k z T) f.2 b)
    remade_has R qs ws (Term-F.Fn c) f ps vs b n = absurd (n c refl)
    remade_has {D} {T} R qs ws (Term-F.Asleep ms a) f ps vs b n =
        has_at k S (out-roll-Term (same_form (Term-F.Asleep ms a))) (record {
          own = R;
          qs = qs;
          ws = ws;
          fits = (f.0, subst (λ z. MarksFit S z ws) (sym (marks_same ms)) f.1);
          parts = ps;
          values = subst (λ z. HasVs k S (map (λ (m : Loc × Value). m.1) z) ws) (sym (marks_same ms))
              vs;
          below = b;
        })
    remade_has {D} {T} R qs ws (Term-F.Typecase x a cs c) f ps vs b n =
        has_at k S (out-roll-Term (same_form (Term-F.Typecase x a cs c))) (record {
          own = R;
          qs = qs;
          ws = ws;
          fits = (f.0, f.1 ∙ ap (λ r. plain f.0 ∷ bound x f.0 R ∷ r) (clauses_same x cs R));
          parts = subst (λ z. HasParts k S D z qs) (sym (same_parts (Term-F.Typecase x a cs c))) ps;
          values = vs;
          below = b;
        })
    remade_has {D} {T} R qs ws (Term-F.Try a x cs None) f ps vs b n =
        has_at k S (out-roll-Term (same_form (Term-F.Try a x cs None))) (record {
          own = R;
          qs = qs;
          ws = ws;
          fits = (f.0, f.1 ∙ ap (λ r. plain R ∷ r) (clauses_same x cs R));
          parts = subst (λ z. HasParts k S D z qs) (sym (same_parts (Term-F.Try a x cs None))) ps;
          values = vs;
          below = b;
        })
    remade_has {D} {T} R qs ws (Term-F.Try a x cs (Some c)) f ps vs b n =
        has_at k S (out-roll-Term (same_form (Term-F.Try a x cs (Some c)))) (record {
          own = R;
          qs = qs;
          ws = ws;
          fits = (f.0, f.1 ∙ ap (λ r. plain R ∷ plain f.0 ∷ r) (clauses_same x cs R));
          parts = subst (λ z. HasParts k S D z qs) (sym (same_parts (Term-F.Try a x cs (Some c)))) ps;
          values = vs;
          below = b;
        })
    remade_has {D} {T} R qs ws (Term-F.For o s x a c) f ps vs b n =
        has_at k S (out-roll-Term (same_form (Term-F.For o s x a c))) (record {
          own = R;
          qs = qs;
          ws = ws;
          fits = (f.0, f.1, f.2, span_same s a f.3, f.4, f.5);
          parts = ps;
          values = vs;
          below = b;
        })
    remade_has {D} {T} R qs ws (Term-F.Reduce o s set e x a c) f ps vs b n =
        has_at k S (out-roll-Term (same_form (Term-F.Reduce o s set e x a c))) (record {
          own = R;
          qs = qs;
          ws = ws;
          fits = (f.0, f.1, f.2, f.3, span_same s a f.4, f.5, f.6, f.7);
          parts = ps;
          values = vs;
          below = b;
        })
    remade_has {D} {T} R qs ws form f ps vs b n =
        has_at k S (out-roll-Term (same_form form)) (record {
          own = R;
          qs = qs;
          ws = ws;
          fits = f;
          parts = subst (λ z. HasParts k S D z qs) (sym (same_parts form)) ps;
          values = vs;
          below = b;
        })
