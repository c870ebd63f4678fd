-- What the translation makes: one term after another, each with its type.
use Rattle.std.proofs.Common.{◌≡◌, ◌≤◌, ℕ, List, [], ◌∷◌, ◌++◌, None, refl, arith}
use Rattle.fort_base.specs.declared.ty.Ty.{Ty}
use Rattle.fort_scope.specs.declared.binding.Binding.{Binding}
use Rattle.fort_core.specs.declared.program.Program.{Program}
use Rattle.fort_core.specs.declared.term.Term.{Term}
use Rattle.fort_typing_known.specs.Known.{Knows}
use Rattle.fort_typing_known.specs.Names.{bound}
use Rattle.fort_sound_typed.specs.Envs.{Env, fixed, bind, Fresh, plains}
use Rattle.fort_sound_typed.specs.Typing.{Below, Has, HasParts, parts0, parts1}
use Rattle.fort_sound_typed.specs.Sound.{opening}
use Rattle.fort_sound_typed.proofs.Rules.{Trans, never, sub}
use Rattle.fort_elab_meaning.specs.declared.counter.Counter.{Counter}
use Rattle.fort_elab_meaning.specs.Making.{Scope, Made, Several, Maker, with_name, after, still, one, two, three, in_turn, many, naming, letting}
use Rattle.fort_sound_forms.specs.Forms.{sort, Agrees}
use Rattle.fort_sound_forms.proofs.Names.{later, fresh_next, unnamed_next, named_next}
use Rattle.fort_sound_forms.proofs.Built.{has-Let}

-- A term has a type, and the next numbers are no lower than before.
pub record Got (p : Program) (next : ℕ) (G : Env) (m : Made) (T : Ty) : Type 0 where
  pub has : Has p (opening p) G m.term T
  pub later : next ≤ m.counter.variable

pub record GotAll (p : Program) (next : ℕ) (G : Env) (m : Several) (Ts : List Ty) : Type 0 where
  pub parts : HasParts p (opening p) G m.terms (plains Ts)
  pub later : next ≤ m.counter.variable

module _ (k : Knows) (p : Program) where
  -- wherever the variables go with the bindings
  abbrev pub Good : List Binding → Maker → Ty → Type 0
  Good bs m T = (s : Scope) (c : Counter) (G : Env) → Agrees k bs s c.variable G
      → Got p c.variable G (m s c) T

  abbrev pub EachGood : List Binding → List Maker → List Ty → Type 0
  EachGood bs [] [] = Unit {0}
  EachGood bs (m ∷ ms) (T ∷ Ts) = Good bs m T × EachGood bs ms Ts
  EachGood bs _ _ = ⊥

  abbrev Term-has : Env → Term → Ty → Type 0
  Term-has G t T = Has p (opening p) G t T

  pub raised : {bs : List Binding} {m : Maker} {A T : Ty} → Trans p → Good bs m A → Below p A T
      → Good bs m T
  raised tr h w s c G a =
      let x = h s c G a in record { has = sub p (opening p) tr x.has w; later = x.later }

  pub good_still : {bs : List Binding} {T : Ty} (t : Term) → ((G : Env) → Term-has G t T)
      → Good bs (still t) T
  good_still t h s c G a = record { has = h G; later = omega arith }

  -- one part, two, three
  pub got_one : {bs : List Binding} {A T : Ty} (f : Term → Term) (a : Maker) → Good bs a A
      → (s : Scope) (c : Counter) (G : Env) → Agrees k bs s c.variable G
      → ((t : Term) → Term-has G t A → Term-has G (f t) T) → Got p c.variable G (one f a s c) T
  got_one f a h s c G g w =
      let x = h s c G g in let m = a s c in record { has = w m.term x.has; later = x.later }

  pub good_one : {bs : List Binding} {A T : Ty} (f : Term → Term) (a : Maker)
      → ((G : Env) (t : Term) → Term-has G t A → Term-has G (f t) T) → Good bs a A
      → Good bs (one f a) T
  good_one f a w h s c G g = got_one f a h s c G g (w G)

  pub got_two : {bs : List Binding} {A B T : Ty} (f : Term → Term → Term) (a b : Maker)
      → Good bs a A → Good bs b B → (s : Scope) (c : Counter) (G : Env) → Agrees k bs s c.variable G
      → ((t u : Term) → Term-has G t A → Term-has G u B → Term-has G (f t u) T)
      → Got p c.variable G (two f a b s c) T
  got_two f a b h i s c G g w =
      let x = h s c G g in let m = a s c in let l = x.later in
      let y = got_one (f m.term) b i s m.counter G (later k m.counter.variable g l)
      (λ u j. w m.term u x.has j) in let e = y.later in
      record { has = y.has; later = omega arith }

  pub good_two : {bs : List Binding} {A B T : Ty} (f : Term → Term → Term) (a b : Maker)
      → ((G : Env) (t u : Term) → Term-has G t A → Term-has G u B → Term-has G (f t u) T)
      → Good bs a A → Good bs b B → Good bs (two f a b) T
  good_two f a b w h i s c G g = got_two f a b h i s c G g (w G)

  pub good_three : {bs : List Binding} {A B C T : Ty} (f : Term → Term → Term → Term)
      (a b d : Maker)
      → ((G : Env) (t u v : Term) → Term-has G t A → Term-has G u B → Term-has G v C
      → Term-has G (f t u v) T) → Good bs a A → Good bs b B → Good bs d C
      → Good bs (three f a b d) T
  good_three f a b d w h i j s c G g =
      let x = h s c G g in let m = a s c in let l = x.later in
      let y = got_two (f m.term) b d i j s m.counter G (later k m.counter.variable g l)
      (λ u v q r. w G m.term u v x.has q r) in let e = y.later in
      record { has = y.has; later = omega arith }

  -- several parts
  pub got_all : {bs : List Binding} (ms : List Maker) (Ts : List Ty) → EachGood bs ms Ts
      → (s : Scope) (c : Counter) (G : Env) → Agrees k bs s c.variable G
      → GotAll p c.variable G (in_turn ms s c) Ts
  got_all [] [] h s c G g = record { parts = parts0; later = omega arith }
  got_all [] (T ∷ Ts) h s c G g = absurd h
  got_all (m ∷ ms) [] h s c G g = absurd h
  got_all (m ∷ ms) (T ∷ Ts) h s c G g =
      let x = h.0 s c G g in let r = m s c in let l = x.later in
      let y = got_all ms Ts h.1 s r.counter G (later k r.counter.variable g l) in let e = y.later in
      record { parts = parts1 (never p (opening p) G) x.has y.parts; later = omega arith }

  pub good_many : {bs : List Binding} {T : Ty} (f : List Term → Term) (ms : List Maker)
      (Ts : List Ty)
      → ((G : Env) (ts : List Term) → HasParts p (opening p) G ts (plains Ts) → Term-has G (f ts) T)
      → EachGood bs ms Ts → Good bs (many f ms) T
  good_many f ms Ts w h s c G g =
      let x = got_all ms Ts h s c G g in let m = in_turn ms s c
      in record { has = w G m.terms x.parts; later = x.later }

  -- a name for a part, and what follows
  pub good_naming : {bs : List Binding} {A B T : Ty} (b : Binding) (a : Maker)
      (f : ℕ → Term → Term → Term) (rest : Maker)
      → ((G : Env) (n : ℕ) (t u : Term) → Fresh ((n, sort b.mutable b.ty) ∷ []) G → Term-has G t A
      → Term-has (bind n (sort b.mutable b.ty) G) u B → Term-has G (f n t u) T)
      → bound bs b.name ≡ None → Good bs a A → Good (bs ++ b ∷ []) rest B
      → Good bs (naming b.name a f rest) T
  good_naming b a f rest w free h i s c G g =
      let x = h s c G g in let m = a s c in let n = m.counter.variable in let l = x.later in
      let D = bind n (sort b.mutable b.ty) G in
      let d = after 1 m.counter in
      let z = with_name b.name n s in
      let y = i z d D (named_next k n b g l free) in let e = y.later in let r = rest z d in
      record {
        has = w G n m.term r.term (fresh_next k n (sort b.mutable b.ty) g l) x.has y.has;
        later = omega arith;
      }

  -- a local without a name
  pub got_letting : {bs : List Binding} {T : Ty} (ty : Ty) (a : Maker) (rest : ℕ → Maker)
      → Good bs a ty → (s : Scope) (c : Counter) (G : Env) → Agrees k bs s c.variable G
      → ((n : ℕ) (d : Counter) → c.variable ≤ n → Agrees k bs s d.variable (bind n (fixed ty) G)
      → Got p d.variable (bind n (fixed ty) G) (rest n s d) T)
      → Got p c.variable G (letting ty a rest s c) T
  got_letting ty a rest h s c G g w =
      let x = h s c G g in let m = a s c in let n = m.counter.variable in let l = x.later in
      let d = after 1 m.counter in
      let y = w n d l (unnamed_next k n (fixed ty) g l) in let e = y.later in
      record {
        has =
            has-Let p (opening p) ((n, ty) ∷ []) (refl, tt) (fresh_next k n (fixed ty) g l) x.has
            y.has;
        later = omega arith;
      }
