-- The rule of a form, and back.
use Rattle.std.proofs.Common.{◌≡◌, List, [], ◌∷◌, refl, sym, subst}
use Rattle.fort_base.specs.declared.ty.Ty.{Ty}
use Rattle.fort_core.specs.declared.term.Term.{Term, Throw, out-Term}
use Rattle.fort_core.specs.declared.term.Term as term
use Rattle.fort_core.specs.declared.term.Term.TheVariants.{outs-Value, outs-Throw}
use Rattle.fort_core.specs.declared.term.Term.TheOpen.{Term-F, Value-F}
use Rattle.fort_core.specs.declared.value.Closure.{Closure}
use Rattle.fort_core.specs.declared.value.Value.{Value, out-Value}
use Rattle.fort_core.specs.declared.program.Program.{Program}
use Rattle.fort_machine.specs.Ends.{throw_of}
use Rattle.fort_machine.specs.Parts.{terms_in, values_in, values_of, bodies_of}
use Rattle.fort_sound_typed.specs.Envs.{Sig, Env, none, binds, Fresh, Part, plain}
use Rattle.fort_sound_typed.specs.Typing.{Below, thrown_type, Fits, FitsV, Has, has, HasParts, parts0, parts1, HasV, has_v, HasVs, vs0, vs1}

abbrev pub Trans : Program → Type 0
Trans k = (A B C : Ty) → Below k A B → Below k B C → Below k A C

module _ (k : Program) (S : Sig) where
  pub record Rule (G : Env) (l : Term-F Term Value Closure) (T : Ty) : Type 0 where
    pub own : Ty
    pub qs : List Part
    pub ws : List Ty
    pub fits : Fits k S G l qs ws own
    pub parts : HasParts k S G (terms_in l) qs
    pub values : HasVs k S (values_in l) ws
    pub below : Below k own T

  pub view : {G : Env} {t : Term} {T : Ty} → Has k S G t T → Rule G (out-Term t) T
  view (has R qs ws f ps vs b) =
      record { own = R; qs = qs; ws = ws; fits = f; parts = ps; values = vs; below = b }

  pub rule_at : {G : Env} {t : Term} {T : Ty} {l : Term-F Term Value Closure} → out-Term t ≡ l
      → Has k S G t T → Rule G l T
  rule_at {G} {T = T} e h = subst (λ l. Rule G l T) e (view h)

  pub has_at : {G : Env} {t : Term} {T : Ty} {l : Term-F Term Value Closure} → out-Term t ≡ l
      → Rule G l T → Has k S G t T
  has_at {G} {t} {T} {l} e r =
      let z : Rule G (out-Term t) T = subst (λ l. Rule G l T) (sym e) r
      in has z.own z.qs z.ws z.fits z.parts z.values z.below

  pub record VRule (l : Value-F Term Value Closure) (T : Ty) : Type 0 where
    pub own : Ty
    pub qs : List Part
    pub ws : List Ty
    pub fits : FitsV k S l qs ws own
    pub parts : HasParts k S none (bodies_of l) qs
    pub values : HasVs k S (values_of l) ws
    pub below : Below k own T

  pub view_v : {v : Value} {T : Ty} → HasV k S v T → VRule (out-Value v) T
  view_v (has_v R qs ws f ps vs b) =
      record { own = R; qs = qs; ws = ws; fits = f; parts = ps; values = vs; below = b }

  pub rule_v : {v : Value} {T : Ty} {l : Value-F Term Value Closure} → out-Value v ≡ l
      → HasV k S v T → VRule l T
  rule_v {T = T} e h = subst (λ l. VRule l T) e (view_v h)

  pub has_v_at : {v : Value} {T : Ty} {l : Value-F Term Value Closure} → out-Value v ≡ l → VRule l T
      → HasV k S v T
  has_v_at {v} {T} {l} e r =
      let z : VRule (out-Value v) T = subst (λ l. VRule l T) (sym e) r
      in has_v z.own z.qs z.ws z.fits z.parts z.values z.below

  -- what a part has
  abbrev pub At : Env → Term → Part → Type 0
  At G t q = Fresh q.vars G × Has k S (binds q.vars G) t q.type

  abbrev pub PartsAt : Env → List Term → List Part → Type 0
  PartsAt G [] [] = Unit {0}
  PartsAt G (t ∷ ts) (q ∷ qs) = At G t q × PartsAt G ts qs
  PartsAt G _ _ = ⊥

  pub opened : {G : Env} {ts : List Term} {qs : List Part} → HasParts k S G ts qs → PartsAt G ts qs
  opened parts0 = tt
  opened (parts1 n h hs) = ((n, h), opened hs)

  pub closed : {G : Env} (ts : List Term) (qs : List Part) → PartsAt G ts qs → HasParts k S G ts qs
  closed [] [] h = parts0
  closed [] (q ∷ qs) h = absurd h
  closed (t ∷ ts) [] h = absurd h
  closed (t ∷ ts) (q ∷ qs) h = parts1 h.0.0 h.0.1 (closed ts qs h.1)

  pub parts_as : {G : Env} {ts : List Term} {qs rs : List Part} → HasParts k S G ts qs → qs ≡ rs
      → PartsAt G ts rs
  parts_as {G} {ts} h e = opened (subst (λ z. HasParts k S G ts z) e h)

  pub never : (G : Env) → Fresh [] G
  never G z B e = refl

  pub one_part : {G : Env} {t : Term} {A : Ty} → Has k S G t A
      → HasParts k S G (t ∷ []) (plain A ∷ [])
  one_part {G} h = parts1 (never G) h parts0

  pub two_parts : {G : Env} {t u : Term} {A B : Ty} → Has k S G t A → Has k S G u B
      → HasParts k S G (t ∷ u ∷ []) (plain A ∷ plain B ∷ [])
  two_parts {G} h i = parts1 (never G) h (one_part i)

  pub three_parts : {G : Env} {t u w : Term} {A B C : Ty} → Has k S G t A → Has k S G u B
      → Has k S G w C → HasParts k S G (t ∷ u ∷ w ∷ []) (plain A ∷ plain B ∷ plain C ∷ [])
  three_parts {G} h i j = parts1 (never G) h (two_parts i j)

  module _ (tr : Trans k) where
    pub sub : {G : Env} {t : Term} {A T : Ty} → Has k S G t A → Below k A T → Has k S G t T
    sub {A = A} {T = T} (has R qs ws f ps vs b) w = has R qs ws f ps vs (tr R A T b w)

    pub sub_v : {v : Value} {A T : Ty} → HasV k S v A → Below k A T → HasV k S v T
    sub_v {A = A} {T = T} (has_v R qs ws f ps vs b) w = has_v R qs ws f ps vs (tr R A T b w)

    -- a value as a term, and back
    first_v : {v : Value} {ws : List Ty} {R : Ty} → HasVs k S (v ∷ []) ws → ws ≡ R ∷ []
        → HasV k S v R
    first_v {v} {ws} {R} h e = go (subst (λ z. HasVs k S (v ∷ []) z) e h)
      where
        go : HasVs k S (v ∷ []) (R ∷ []) → HasV k S v R
        go (vs1 h hs) = h

    pub value_has : {G : Env} {v : Value} {T : Ty} → Has k S G (term.Value v) T → HasV k S v T
    value_has {v = v} h =
        let r = rule_at (outs-Value v) h in sub_v (first_v r.values r.fits.1) r.below

    pub thrown_has : {G : Env} {v : Value} {T : Ty} → Has k S G (throw_of v) T
        → HasV k S v (thrown_type k)
    thrown_has {v = v} h =
        let r = rule_at (outs-Throw (term.Value v)) h in value_has (parts_as r.parts r.fits).0.1

  module _ (self : (A : Ty) → Below k A A) where
    pub has_value : {G : Env} {v : Value} {T : Ty} → HasV k S v T → Has k S G (term.Value v) T
    has_value {v = v} {T = T} h =
        has_at (outs-Value v)
        (record {
          own = T;
          qs = [];
          ws = T ∷ [];
          fits = (refl, refl);
          parts = parts0;
          values = vs1 h vs0;
          below = self T;
        })

    pub has_thrown : {G : Env} {v : Value} {T : Ty} → HasV k S v (thrown_type k)
        → Has k S G (throw_of v) T
    has_thrown {v = v} {T = T} h = has_at (outs-Throw (term.Value v))
        (record {
          own = T;
          qs = plain (thrown_type k) ∷ [];
          ws = [];
          fits = refl;
          parts = one_part (has_value h);
          values = vs0;
          below = self T;
        })
