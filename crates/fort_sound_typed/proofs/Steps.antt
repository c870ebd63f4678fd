-- A step keeps the type of its form, and the store's types.
use Rattle.std.proofs.Common.{◌≡◌, ℕ, zero, suc, ◌+◌, ◌<◌, ◌==◌, Bool, true, false, if◌then◌else◌, List, [], ◌∷◌, Option, Some, None, refl, ap, sym, ◌∙◌, subst, arith, rules, inl, inr, ◌⊎◌}
use Rattle.std.specs.Prelude.{slice_get}
use Rattle.fort_base.specs.declared.ty.Ty.{Ty}
use Rattle.fort_core.specs.declared.term.Term.{Term}
use Rattle.fort_core.specs.declared.term.Term as term
use Rattle.fort_core.specs.declared.value.Value.{Value}
use Rattle.fort_core.specs.declared.program.Program.{Program}
use Rattle.fort_machine.specs.Cells.{Cell, untouched, found, made, Fits, left_at}
use Rattle.fort_machine.specs.Effects.{Store, Effect, made_from, printed, paid, reading, writing, making, FitsAll, afterwards}
use Rattle.fort_machine.specs.Ends.{throw_of}
use Rattle.fort_machine.specs.Acts.{Act, stuck, turns, enters, asks, sets, makes, calls, ends, unit}
use Rattle.fort_machine.specs.Calls.{by_body}
use Rattle.fort_machine.specs.Steps.{by_itself, by_call, or_unit, Does, Local, steps}
use Rattle.fort_machine.proofs.Effects.{here}
use Rattle.fort_sound_typed.specs.Envs.{Sig, none}
use Rattle.fort_sound_typed.specs.Typing.{unit_type, Has, HasV, HasVs, vs0, vs1}
use Rattle.fort_sound_typed.specs.Sound.{Up, opening, StoreOk, Kept}
use Rattle.fort_sound_typed.proofs.Facts.{Facts}
use Rattle.fort_sound_typed.proofs.Bind.{Tells, alike, apart, tells, self_same}
use Rattle.fort_sound_typed.proofs.Rules.{value_has}
use Rattle.fort_sound_typed.proofs.Grow.{grow_v}
use Rattle.fort_sound_typed.proofs.Owns.{picked}
use Rattle.fort_sound_typed.proofs.Good.{Good, good_sub, throw_good, unit_has}
use Rattle.fort_sound_typed.proofs.Bodies.{body_good}
use Rattle.fort_sound_typed.proofs.Forms.{act_good}

-- the types of locations that are made
abbrev pub typed_from : ℕ → List Ty → Sig → Sig
typed_from l [] S k = S k
typed_from l (w ∷ ws) S k = if l == k then Some w else typed_from (l + 1) ws S k

not_here : (l k : ℕ) → l < k → (l == k) ≡ false
not_here l k h = search (rules, h)

row_typed : (l : ℕ) (ws : List Ty) (S : Sig) (n : ℕ) (w : Ty) → slice_get ws n ≡ Some w
    → typed_from l ws S (l + n) ≡ Some w
row_typed l [] S n w e = absurd cc
row_typed l (u ∷ ws) S zero w e =
    let q : (l == l + 0) ≡ true = here l 0 (omega arith) in
    ap (λ b. if b then Some u else typed_from (l + 1) ws S (l + 0)) q ∙ e
row_typed l (u ∷ ws) S (suc n) w e =
    let q : (l == l + suc n) ≡ false = not_here l (l + suc n) (omega arith) in
    let m : l + suc n ≡ (l + 1) + n = omega arith in
    ap (λ b. if b then Some u else typed_from (l + 1) ws S (l + suc n)) q
    ∙ ap (typed_from (l + 1) ws S) m ∙ row_typed (l + 1) ws S n w e

module _ (k : Program) (o : Facts k) where
  pub stay : (S : Sig) → Up S S
  stay S l F e = e

  -- one store for another that has the same
  pub same_store : (S : Sig) (s s' : Store) → ((l : ℕ) → s' l ≡ s l) → StoreOk k S s
      → StoreOk k S s'
  same_store S s s' e m =
      record {
        opened = m.opened;
        holds = λ l F q. let i = m.holds l F q in (i.0, e l ∙ i.1, i.2);
        covers = λ l v q. m.covers l v (sym (e l) ∙ q);
      }

  -- a value is read
  read_same : (l : ℕ) (v : Value) (s : Store) (n : ℕ) → afterwards (reading l v) s n ≡ s n
  read_same l v s n = go (l == n)
    where
      go : (b : Bool) → left_at (if b then found (Some v) None else untouched) (s n) ≡ s n
      go true = refl
      go false = refl

  read_is : (l : ℕ) (v w : Value) (s : Store) → FitsAll (reading l v) s → s l ≡ Some w → w ≡ v
  read_is l v w s f e =
      let q : Fits (found (Some v) None) (s l) =
      subst (λ b. Fits (if b then found (Some v) None else untouched) (s l)) (self_same l) (f l) in
      let z : Fits (found (Some v) None) (Some w) = subst (λ x. Fits (found (Some v) None) x) e q
      in z

  -- a value is written
  written : (S : Sig) (s : Store) (l : ℕ) (v : Value) (F : Ty) → StoreOk k S s → S l ≡ Some F
      → HasV k S v F → FitsAll (writing l v) s → StoreOk k S (afterwards (writing l v) s)
  written S s l v F m e h f =
      record {
        opened = m.opened;
        holds = λ n E q. at n E q (tells l n);
        covers = λ n w q. cover n w q (tells l n);
      }
    where
      at : (n : ℕ) (E : Ty) → S n ≡ Some E → Tells l n
          → (w : Value)
          × (left_at (if l == n then found None (Some v) else untouched) (s n) ≡ Some w)
          × HasV k S w E
      at n E q (alike p b) = let z : Some F ≡ Some E = sym e ∙ ap S p ∙ q in let y : F ≡ E = cc in (
        v,
        ap (λ b. left_at (if b then found None (Some v) else untouched) (s n)) b,
        subst (λ X. HasV k S v X) y h,
      )
      at n E q (apart b c) =
          let i = m.holds n E q
          in (
            i.0,
            ap (λ b. left_at (if b then found None (Some v) else untouched) (s n)) b
                ∙ i.1,
            i.2,
          )

      cover : (n : ℕ) (w : Value)
          → left_at (if l == n then found None (Some v) else untouched) (s n) ≡ Some w → Tells l n
          → (E : Ty) × (S n ≡ Some E)
      cover n w q (alike p b) = (F, sym (ap S p) ∙ e)
      cover n w q (apart b c) =
          m.covers n w
          (sym (ap (λ b. left_at (if b then found None (Some v) else untouched) (s n)) b) ∙ q)

  -- locations are made
  abbrev MadeAt : Sig → ℕ → List Value → List Ty → ℕ → Type 0
  MadeAt S l vs ws n = ((made_from l vs n ≡ untouched) × (typed_from l ws S n ≡ S n))
      ⊎ ((v : Value) × (w : Ty) × (made_from l vs n ≡ made (Some v))
      × (typed_from l ws S n ≡ Some w) × HasV k S v w)

  made_or : (S : Sig) (l : ℕ) (vs : List Value) (ws : List Ty) (n : ℕ) → HasVs k S vs ws
      → MadeAt S l vs ws n
  made_or S l [] [] n h = inl (refl, refl)
  made_or S l [] (w ∷ ws) n h = elim h [ ]
  made_or S l (v ∷ vs) [] n h = elim h [ ]
  made_or S l (v ∷ vs) (w ∷ ws) n (vs1 h hs) = go (l == n) (made_or S (l + 1) vs ws n hs)
    where
      go : (b : Bool) → MadeAt S (l + 1) vs ws n
          → (((if b then made (Some v) else made_from (l + 1) vs n) ≡ untouched)
          × ((if b then Some w else typed_from (l + 1) ws S n) ≡ S n))
          ⊎ ((u : Value) × (x : Ty)
          × ((if b then made (Some v) else made_from (l + 1) vs n) ≡ made (Some u))
          × ((if b then Some w else typed_from (l + 1) ws S n) ≡ Some x) × HasV k S u x)
      go true i = inr (v, w, refl, refl, h)
      go false i = i

  made_absent : (c : Cell) (v : Value) (x : Option Value) → c ≡ made (Some v) → Fits c x → x ≡ None
  made_absent c v None e f = refl
  made_absent c v (Some w) e f = absurd (subst (λ z. Fits z (Some w)) e f)

  made_up : (S : Sig) (s : Store) (l : ℕ) (vs : List Value) (ws : List Ty) → StoreOk k S s
      → HasVs k S vs ws → ((n : ℕ) → Fits (made_from l vs n) (s n)) → Up S (typed_from l ws S)
  made_up S s l vs ws m h f n F e = go (made_or S l vs ws n h)
    where
      go : MadeAt S l vs ws n → typed_from l ws S n ≡ Some F
      go (inl i) = i.1 ∙ e
      go (inr i) =
          let a = m.holds n F e in let b = made_absent (made_from l vs n) i.0 (s n) i.2 (f n)
          in let z : Some a.0 ≡ None = sym a.1 ∙ b in absurd cc

  made_ok : (S : Sig) (s : Store) (l : ℕ) (vs : List Value) (ws : List Ty) → StoreOk k S s
      → HasVs k S vs ws → ((n : ℕ) → Fits (made_from l vs n) (s n))
      → StoreOk k (typed_from l ws S) (λ n. left_at (made_from l vs n) (s n))
  made_ok S s l vs ws m h f =
      record {
        opened = λ n F e. up n F (m.opened n F e);
        holds = λ n F e. at n F e (made_or S l vs ws n h);
        covers = λ n v e. cover n v e (made_or S l vs ws n h);
      }
    where
      up : Up S (typed_from l ws S)
      up = made_up S s l vs ws m h f

      at : (n : ℕ) (F : Ty) → typed_from l ws S n ≡ Some F → MadeAt S l vs ws n
          → (v : Value) × (left_at (made_from l vs n) (s n) ≡ Some v)
          × HasV k (typed_from l ws S) v F
      at n F e (inl i) =
          let a = m.holds n F (sym i.1 ∙ e)
          in (a.0, ap (λ c. left_at c (s n)) i.0 ∙ a.1, grow_v k S (typed_from l ws S) up a.2)
      at n F e (inr i) =
          let z : Some i.1 ≡ Some F = sym i.3 ∙ e in let y : i.1 ≡ F = cc
          in (
            i.0,
            ap (λ c. left_at c (s n)) i.2,
            grow_v k S (typed_from l ws S) up (subst (λ X. HasV k S i.0 X) y i.4),
          )

      cover : (n : ℕ) (v : Value) → left_at (made_from l vs n) (s n) ≡ Some v → MadeAt S l vs ws n
          → (F : Ty) × (typed_from l ws S n ≡ Some F)
      cover n v e (inl i) =
          let a = m.covers n v (sym (ap (λ c. left_at c (s n)) i.0) ∙ e) in (a.0, i.1 ∙ a.1)
      cover n v e (inr i) = (i.1, i.3)

  -- at least one location is made
  or_unit_have : (S : Sig) (m : Up (opening k) S) (vs : List Value) (ws : List Ty) → HasVs k S vs ws
      → (us : List Ty) × HasVs k S (or_unit vs) us
      × ((n : ℕ) (w : Ty) → slice_get ws n ≡ Some w → slice_get us n ≡ Some w)
  or_unit_have S m [] [] h = (
    unit_type ∷ [],
    vs1 (value_has k S o.transitive {G = none} (unit_has k o S m (o.reflexive unit_type)))
        vs0,
    λ n w e. absurd cc,
  )
  or_unit_have S m [] (w ∷ ws) h = elim h [ ]
  or_unit_have S m (v ∷ vs) [] h = elim h [ ]
  or_unit_have S m (v ∷ vs) (w ∷ ws) h = (w ∷ ws, h, λ n w e. e)

  module _ (S : Sig) (s : Store) (m : StoreOk k S s) where
    still : (b : Term) (T : Ty) → Has k S none b T → Kept k S b s T
    still b T h = record { types = S; up = stay S; store = m; term = h }

    kept_is : (b b' : Term) (d d' : Effect) (T : Ty) → b ≡ b' → d ≡ d'
        → Kept k S b' (afterwards d' s) T → Kept k S b (afterwards d s) T
    kept_is b b' d d' T e q h =
        subst (λ x. Kept k S b (afterwards x s) T) (sym q)
        (subst (λ u. Kept k S u (afterwards d' s) T) (sym e) h)

    does_keeps : (inner : Bool) (loc : ℕ) (x : Act) (b : Term) (d : Effect) (T : Ty) → Good k S x T
        → Does k inner loc x b d → FitsAll d s → Kept k S b (afterwards d s) T
    does_keeps inner loc stuck b d T g w f = absurd w
    does_keeps inner loc (turns next output cost) b d T g w f =
        kept_is b next d (printed output cost) T w.1 w.2 (still next T g)
    does_keeps inner loc (enters body next) b d T g w f =
        kept_is b next d (paid 1) T w.2 w.3 (still next T g)
    does_keeps inner loc (asks l next) b d T g w f =
        let i = m.holds l g.0 g.1 in
        let e : i.0 ≡ w.0 = read_is l w.0 i.0 s (subst (λ x. FitsAll x s) w.3 f) i.1 in
        kept_is b (next w.0) d (reading l w.0) T w.2 w.3 (record {
          types = S;
          up = stay S;
          store = same_store S s (afterwards (reading l w.0) s) (read_same l w.0 s) m;
          term = g.2 w.0 (subst (λ u. HasV k S u g.0) e i.2);
        })
    does_keeps inner loc (sets l v) b d T g w f =
        kept_is b (term.Value unit) d (writing l v) T w.1 w.2
        (record {
          types = S;
          up = stay S;
          store = written S s l v g.0 m g.1 g.2 (subst (λ x. FitsAll x s) w.2 f);
          term = unit_has k o S m.opened g.3;
        })
    does_keeps inner loc (makes vs next cost) b d T g w f =
        let u = or_unit_have S m.opened vs g.0 g.1 in
        let q = subst (λ x. FitsAll x s) w.1 f in
        let up = made_up S s loc (or_unit vs) u.0 m u.1 q in
        kept_is b (next loc) d (making loc (or_unit vs) cost) T w.0 w.1
        (record {
          types = typed_from loc u.0 S;
          up = up;
          store = made_ok S s loc (or_unit vs) u.0 m u.1 q;
          term = g.2 (typed_from loc u.0 S) loc up (λ n A e. row_typed loc u.0 S n A (u.2 n A e));
        })
    does_keeps inner loc (calls set vs) b d T g w f = absurd w
    does_keeps inner loc ends b d T g w f = kept_is b (throw_of w.0) d (paid 1) T w.4 w.5
        (still (throw_of w.0) T
        (throw_good k o S m.opened w.0
        (grow_v k (opening k) S m.opened
        (o.failures k.built_in.abort_outside w.0
        (inr (inr (inr (inr (inr (inr (inr refl))))))) w.3))))

    -- a step of one form
    pub local_keeps : (inner : Bool) (loc : ℕ) (a b : Term) (d : Effect) (T : Ty) → Has k S none a T
        → Local k inner loc a b d → FitsAll d s → Kept k S b (afterwards d s) T
    local_keeps inner loc a b d T h (steps x (by_itself e) w) f =
        does_keeps inner loc x b d T (subst (λ y. Good k S y T) e (act_good k o S m.opened a T h)) w
        f
    local_keeps inner loc a b d T h
        (steps x (by_call {set = set} {values = vs} {d = n} {decl = decl} e p q) w) f =
        let g = subst (λ y. Good k S y T) e (act_good k o S m.opened a T h) in
        let i = picked k o S g.0 g.1 g.2 g.3 p in
        let y = good_sub k o S m.opened (by_body k decl.body vs) decl.result T
        (body_good k o S m.opened n decl vs i.2 i.0 decl.body refl)
        (o.transitive decl.result g.1 T i.1 g.4) in
        does_keeps inner loc x b d T (subst (λ z. Good k S z T) q y) w f
