-- A variable that a function holds from now on.
use Rattle.std.proofs.Common.{◌≡◌, ℕ, Bool, true, false, ◌==◌, if◌then◌else◌, List, [], ◌∷◌, ◌++◌, map, None, refl, ap, sym, ◌∙◌}
use Rattle.std.specs.Prelude.{nat_lt}
use Rattle.fort_base.specs.declared.ty.Ty.{Ty}
use Rattle.fort_core.specs.declared.value.Value.{Value}
use Rattle.fort_core.specs.declared.program.Program.{Program}
use Rattle.fort_machine.specs.Substitution.{put_held}
use Rattle.fort_sound_typed.specs.Envs.{Sort, fixed, Sig, Env, none, bind, binds, Distinct, Fresh, named}
use Rattle.fort_sound_typed.specs.Typing.{HasV, HasVs, vs0, vs1}
use Rattle.fort_sound_typed.proofs.Bind.{alike, apart, tells, flip, bind_at, bind_other, binds_append, bind_swap, Less, less_some, less_kept, less_again}

-- the value's type in its place
abbrev pub put_type : ℕ → Ty → List (ℕ × Value) → List Ty → List Ty
put_type x A [] ws = A ∷ []
put_type x A (h ∷ hs) [] = A ∷ []
put_type x A (h ∷ hs) (w ∷ ws) = if nat_lt x h.0 then A ∷ w ∷ ws else w ∷ put_type x A hs ws

abbrev held_of : List (ℕ × Value) → List Value
held_of hs = map (λ (h : ℕ × Value). h.1) hs

pub not_first : (x : ℕ) (q : ℕ × Sort) (qs : List (ℕ × Sort)) → binds (q ∷ qs) none x ≡ None
    → ((q.0 == x) ≡ false) × (binds qs none x ≡ None)
not_first x q qs e =
    elim (tells q.0 x) [
      | alike p b ↦ let r = bind_at q.0 q.1 (binds qs none) x p in absurd cc
      | apart b c ↦ (b, sym (bind_other q.0 q.1 (binds qs none) x b) ∙ e)
    ]

-- a binding goes inward
pub binds_swap : (x : ℕ) (A : Sort) (H : List (ℕ × Sort)) (G : Env) → binds H none x ≡ None
    → binds H (bind x A G) ≡ bind x A (binds H G)
binds_swap x A [] G e = refl
binds_swap x A (h ∷ H) G e =
    let i = not_first x h H e
    in ap (bind h.0 h.1) (binds_swap x A H G i.1) ∙ bind_swap h.0 x h.1 A (binds H G) i.0

module _ (k : Program) (S : Sig) (x : ℕ) (v : Value) (A : Ty) (hv : HasV k S v A) where
  pub put_has : (hs : List (ℕ × Value)) (ws : List Ty) → HasVs k S (held_of hs) ws
      → HasVs k S (held_of (put_held x v hs)) (put_type x A hs ws)
  put_has [] ws i = vs1 hv vs0
  put_has (h ∷ hs) [] i = elim i [ ]
  put_has (h ∷ hs) (w ∷ ws) i = go (nat_lt x h.0) i (λ js. put_has hs ws js)
    where
      go : (b : Bool) → HasVs k S (h.1 ∷ held_of hs) (w ∷ ws)
          → (HasVs k S (held_of hs) ws → HasVs k S (held_of (put_held x v hs)) (put_type x A hs ws))
          → HasVs k S (held_of (if b then (x, v) ∷ h ∷ hs else h ∷ put_held x v hs)) (if b
          then A ∷ w ∷ ws else w ∷ put_type x A hs ws)
      go true i r = vs1 hv i
      go false (vs1 j js) r = vs1 j (r js)

  rest : (h : ℕ × Value) (hs : List (ℕ × Value)) (w : Ty) (ws : List Ty)
      → HasVs k S (h.1 ∷ held_of hs) (w ∷ ws) → HasVs k S (held_of hs) ws
  rest h hs w ws (vs1 j js) = js

  pub put_binds : (hs : List (ℕ × Value)) (ws : List Ty) (G : Env) → HasVs k S (held_of hs) ws
      → binds (named hs ws) none x ≡ None
      → binds (named (put_held x v hs) (put_type x A hs ws)) G
      ≡ bind x (fixed A) (binds (named hs ws) G)
  put_binds [] [] G i e = refl
  put_binds [] (w ∷ ws) G i e = elim i [ ]
  put_binds (h ∷ hs) [] G i e = elim i [ ]
  put_binds (h ∷ hs) (w ∷ ws) G i e =
      let n = not_first x (h.0, fixed w) (named hs ws) e
      in go (nat_lt x h.0) (put_binds hs ws G (rest h hs w ws i) n.1) n.0
    where
      go : (b : Bool)
          → binds (named (put_held x v hs) (put_type x A hs ws)) G
          ≡ bind x (fixed A) (binds (named hs ws) G) → (h.0 == x) ≡ false
          → binds (named (if b then (x, v) ∷ h ∷ hs else h ∷ put_held x v hs) (if b then A ∷ w ∷ ws
          else w ∷ put_type x A hs ws)) G
          ≡ bind x (fixed A) (bind h.0 (fixed w) (binds (named hs ws) G))
      go true q m = refl
      go false q m =
          ap (bind h.0 (fixed w)) q ∙ bind_swap h.0 x (fixed w) (fixed A) (binds (named hs ws) G) m

  put_distinct : (hs : List (ℕ × Value)) (ws : List Ty) → HasVs k S (held_of hs) ws
      → binds (named hs ws) none x ≡ None → Distinct (named hs ws)
      → Distinct (named (put_held x v hs) (put_type x A hs ws))
  put_distinct [] [] i e d = (refl, tt)
  put_distinct [] (w ∷ ws) i e d = elim i [ ]
  put_distinct (h ∷ hs) [] i e d = elim i [ ]
  put_distinct (h ∷ hs) (w ∷ ws) i e d =
      let n = not_first x (h.0, fixed w) (named hs ws) e in
      let j = rest h hs w ws i in
      go (nat_lt x h.0) (put_distinct hs ws j n.1 d.1) (ap (λ
      (E : Env). E h.0) (put_binds hs ws none j n.1)
      ∙ bind_other x (fixed A) (binds (named hs ws) none) h.0 (flip h.0 x n.0) ∙ d.0)
    where
      go : (b : Bool) → Distinct (named (put_held x v hs) (put_type x A hs ws))
          → binds (named (put_held x v hs) (put_type x A hs ws)) none h.0 ≡ None
          → Distinct
          (named (if b then (x, v) ∷ h ∷ hs else h ∷ put_held x v hs) (if b then A ∷ w ∷ ws
          else w ∷ put_type x A hs ws))
      go true q m = (e, d)
      go false q m = (m, q)

  -- behind other variables
  module _ (hs : List (ℕ × Value)) (ws : List Ty) (i : HasVs k S (held_of hs) ws) where
    abbrev pub before : List (ℕ × Sort)
    before = named hs ws

    abbrev pub behind : List (ℕ × Sort)
    behind = named (put_held x v hs) (put_type x A hs ws)

    abbrev splits : List (ℕ × Sort) → Type 0
    splits P = (binds P none x ≡ None) × (binds before none x ≡ None)

    none_append : (P K : List (ℕ × Sort)) (z : ℕ) → binds (P ++ K) none z ≡ None
        → (binds P none z ≡ None) × (binds K none z ≡ None)
    none_append [] K z e = (refl, e)
    none_append (q ∷ P) K z e =
        let n = not_first z q (P ++ K) e in let j = none_append P K z n.1
        in (bind_other q.0 q.1 (binds P none) z n.0 ∙ j.0, j.1)

    pub all_binds : (P : List (ℕ × Sort)) (G : Env) → binds (P ++ before) none x ≡ None
        → binds (P ++ behind) G ≡ bind x (fixed A) (binds (P ++ before) G)
    all_binds P G e = let n = none_append P before x e in
        binds_append P behind G ∙ ap (binds P) (put_binds hs ws G i n.1)
        ∙ binds_swap x (fixed A) P (binds before G) n.0
        ∙ ap (bind x (fixed A)) (sym (binds_append P before G))

    pub all_distinct : (P : List (ℕ × Sort)) → binds (P ++ before) none x ≡ None
        → Distinct (P ++ before) → Distinct (P ++ behind)
    all_distinct [] e d = put_distinct hs ws i e d
    all_distinct (q ∷ P) e d = let n = not_first x q (P ++ before) e in (
      ap (λ (E : Env). E q.0) (all_binds P none n.1)
          ∙ bind_other x (fixed A) (binds (P ++ before) none) q.0 (flip q.0 x n.0)
          ∙ d.0,
      all_distinct P n.1 d.1,
    )

    pub all_fresh : (P : List (ℕ × Sort)) (G D : Env) → Less x (fixed A) G D
        → binds (P ++ before) none x ≡ None → Fresh (P ++ before) G → Fresh (P ++ behind) D
    all_fresh P G D l e n z B q =
        ap (λ (E : Env). E z) (all_binds P none e)
        ∙ bind_other x (fixed A) (binds (P ++ before) none) z (less_some x (fixed A) G D z B l q)
        ∙ n z B (less_kept x (fixed A) G D z B l q)

    pub all_again : (P : List (ℕ × Sort)) (G D : Env) → Less x (fixed A) G D
        → binds (P ++ before) none x ≡ None → binds (P ++ before) G ≡ binds (P ++ behind) D
    all_again P G D l e =
        ap (binds (P ++ before)) (sym (less_again x (fixed A) G D l))
        ∙ binds_swap x (fixed A) (P ++ before) D e ∙ sym (all_binds P D e)
