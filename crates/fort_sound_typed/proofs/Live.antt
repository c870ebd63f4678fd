-- Acts that have a step.
use Rattle.std.proofs.Common.{◌≡◌, ◌≢◌, ℕ, ◌+◌, ◌≤◌, ◌==◌, Bool, true, false, ◌&&◌, ◌||◌, if◌then◌else◌, List, [], ◌∷◌, ◌++◌, Some, None, refl, ap, sym, ◌∙◌, subst, arith, rules, inl, inr, ◌⊎◌}
use Rattle.std.specs.List.{list_any}
use Rattle.std.specs.Prelude.{slice_get}
use Rattle.fort_base.specs.declared.ids.DeclId.{DeclId}
use Rattle.fort_base.specs.declared.ids.SetId.{SetId}
use Rattle.fort_base.specs.declared.ids.TypeId.{TypeId}
use Rattle.fort_base.specs.declared.ty.Ty.{Ty}
use Rattle.fort_core.specs.declared.program.CoreBody.{CoreBody}
use Rattle.fort_core.specs.declared.program.CoreBody.TheVariants as body
use Rattle.fort_core.specs.declared.program.CoreDecl.{CoreDecl}
use Rattle.fort_core.specs.declared.term.Term.{Term, out-Term}
use Rattle.fort_core.specs.declared.term.Term as term
use Rattle.fort_core.specs.declared.value.Value.{Value}
use Rattle.fort_core.specs.declared.program.Program.{Program}
use Rattle.fort_machine.specs.Primitives.{Answer, gives, makes_text, throws, prints, nothing, answer_of}
use Rattle.fort_machine.specs.Primitives as primitives
use Rattle.fort_machine.specs.Cells.{Cell, untouched, found, made, Fits}
use Rattle.fort_machine.specs.Effects.{Store, printed, paid, reading, writing, made_from, making}
use Rattle.fort_machine.specs.Ends.{Standing, at_value, at_throw, open_yet, standing, throw_of, has_stepped, still_by, is_still, throws_by, is_thrown, Finished}
use Rattle.fort_machine.specs.Ends as ends
use Rattle.fort_machine.specs.Frames.{Frame, on, passes, passed}
use Rattle.fort_machine.specs.Marked.{Bare}
use Rattle.fort_machine.specs.Acts.{Act, stuck, turns, enters, asks, sets, makes, calls, becomes, unit, single, throws_object, throwing, by_standing, after, Together, at_values, leftmost, some_still, some_open, with_first, standing_together, by_together, once_all}
use Rattle.fort_machine.specs.Acts as acts
use Rattle.fort_machine.specs.Forms.{act}
use Rattle.fort_machine.specs.Calls.{by_answer, constructing, by_body}
use Rattle.fort_machine.specs.Steps.{Acts, by_itself, by_call, or_unit, steps}
use Rattle.fort_machine.proofs.Standing.{decide, not_finished, standing-Value, standing-throw}
use Rattle.fort_machine.proofs.Resting.{rest_bare}
use Rattle.fort_machine.proofs.ProperRuns.{written_proper}
use Rattle.fort_sound_typed.proofs.Answering.{answers_there}
use Rattle.fort_sound_typed.specs.Envs.{Sig}
use Rattle.fort_sound_typed.specs.Typing.{Called, HasVs}
use Rattle.fort_sound_typed.specs.Sound.{IsFailure, Defined, StoreOk}
use Rattle.fort_sound_typed.proofs.Facts.{Facts}
use Rattle.fort_sound_typed.specs.Goes.{Complete, Finite, Stands, at_step, at_abort, Goes, done, goes_at}
use Rattle.fort_sound_typed.proofs.Owns.{picked}

-- nothing is made at other places than new ones
new_row : (s : Store) (n l : ℕ) (vs : List Value) (m : ℕ) → ((k : ℕ) → n ≤ k → s k ≡ None) → n ≤ l
    → Fits (made_from l vs m) (s m)
new_row s n l [] m f h = tt
new_row s n l (v ∷ vs) m f h = go (l == m) refl (new_row s n (l + 1) vs m f (omega arith))
  where
    go : (b : Bool) → (l == m) ≡ b → Fits (made_from (l + 1) vs m) (s m)
        → Fits (if b then made (Some v) else made_from (l + 1) vs m) (s m)
    go true e r =
        let q : l ≡ m = search (rules, e)
        in subst (Fits (made (Some v))) (sym (f m (omega arith))) tt
    go false e r = r

module _ (k : Program) (o : Facts k) (def : Defined k) (all : Complete k) (inner : Bool) (S : Sig)
    (s : Store) (m : StoreOk k S s) (fin : Finite s) where
  -- an act that has a step
  abbrev pub Live : Act → Type 0
  Live stuck = ⊥
  Live (turns next output cost) = Unit {0}
  Live (enters body next) = Bare body
  Live (asks l next) = (v : Value) × (s l ≡ Some v)
  Live (sets l v) = (w : Value) × (s l ≡ Some w)
  Live (makes vs next cost) = Unit {0}
  Live (calls set vs) = ⊥
  Live acts.ends = Unit {0}

  one_fits : (l n : ℕ) (c : Cell) → Fits c (s l) → Fits (if l == n then c else untouched) (s n)
  one_fits l n c f = go (l == n) refl
    where
      go : (b : Bool) → (l == n) ≡ b → Fits (if b then c else untouched) (s n)
      go true e = let q : l ≡ n = search (rules, e) in subst (λ z. Fits c (s z)) q f
      go false e = tt

  abbrev Here : Term → Type 0
  Here t = Stands k inner s t

  live_stands : (t : Term) (x : Act) → Acts k t x → Live x → Here t
  live_stands t stuck a l = absurd l
  live_stands t (turns next output cost) a l =
      at_step 0 next (printed output cost) (steps _ a (refl, refl, refl)) (λ n. tt)
  live_stands t (enters b next) a l =
      at_step 0 next (paid 1) (steps _ a (l, refl, refl, refl)) (λ n. tt)
  live_stands t (asks n next) a l =
      at_step 0 (next l.0) (reading n l.0) (steps _ a (l.0, refl, refl, refl))
      (λ i. one_fits n i (found (Some l.0) None)
      (subst (Fits (found (Some l.0) None)) (sym l.1) refl))
  live_stands t (sets n v) a l =
      at_step 0 (term.Value unit) (writing n v) (steps _ a (refl, refl, refl))
      (λ i. one_fits n i (found None (Some v)) (subst (Fits (found None (Some v))) (sym l.1) tt))
  live_stands t (makes vs next cost) a l =
      at_step fin.0 (next fin.0) (making fin.0 (or_unit vs) cost) (steps _ a (refl, refl))
      (λ i. new_row s fin.0 fin.0 (or_unit vs) i fin.1 (omega arith))
  live_stands t (calls set vs) a l = absurd l
  live_stands t acts.ends a l = go inner refl
    where
      go : (b : Bool) → inner ≡ b → Here t
      go true e = at_abort e a
      go false e =
          let v = all.singles k.built_in.abort_outside
          (inr (inr (inr (inr (inr (inr (inr refl))))))) in
          at_step 0 (throw_of v.0) (paid 1) (steps _ a (v.0, e, refl, v.1, refl, refl)) (λ n. tt)

  pub live_failing : (id : TypeId) → IsFailure k id → Live (throwing k id)
  live_failing id f = let v = all.singles id f in subst (λ z. Live (throws_object z)) (sym v.1) tt

  abbrev pub On : Term → Type 0
  On t = Goes k inner s t

  pub by_act : (t : Term) (x : Act) → act k t ≡ x → Live x → On t
  by_act t x e l = goes_at [] t refl refl (live_stands t x (by_itself e) l)

  -- a call of typed values
  body_live : (d : DeclId) (decl : CoreDecl) (vs : List Value) → slice_get k.decls d.0 ≡ Some decl
      → HasVs k S vs decl.parameters → decl.body ≢ body.Abstract → (b : CoreBody) → decl.body ≡ b
      → Live (by_body k b vs)
  body_live d decl vs e h n (body.Plain t) q =
      rest_bare ((written_proper k all.written).bodies d decl t e q)
  body_live d decl vs e h n (body.Primitive f) q = go (answer_of k f vs) refl
    where
      go : (a : Answer) → answer_of k f vs ≡ a → Live (by_answer k a)
      go (gives v) r = tt
      go (makes_text x) r = tt
      go (throws id) r = live_failing id ((o.primitives S d decl f vs e q h).thrown id r)
      go (prints x) r = tt
      go primitives.ends r = tt
      go nothing r =
          absurd (answers_there k o all S m.opened f vs
          (subst (HasVs k S vs) (o.signatures d decl f e q).0 h) r)
  body_live d decl vs e h n body.Abstract q = absurd (n q)
  body_live d decl vs e h n (body.New id) q =
      let i = o.constructors d decl id e q
      in subst (λ z. Live (constructing id vs z)) (sym i.is_shape) tt

  pub by_calls : (t : Term) (set : SetId) (vs : List Value) (As : List Ty) (R : Ty)
      → act k t ≡ calls set vs → Called k set As R → HasVs k S vs As → On t
  by_calls t set vs As R e c h =
      let f = def S set vs As c.0 c.1 h c.2 in
      let i = picked k o S As R c h f.runs in
      goes_at [] t refl refl
      (live_stands t (by_body k f.decl.body vs) (by_call e f.runs refl)
      (body_live f.number f.decl vs i.2 i.0 f.concrete f.decl.body refl))

  -- a part that is open goes on inside a frame
  pub lift : (t : Term) (f : Frame) (a : Term) → t ≡ on f a → passes f a ≡ false
      → standing a ≡ open_yet → On a → On t
  lift t f a e n op (done d) = absurd (not_finished a op d)
  lift t f a e n op (goes_at fs b q r st) =
      goes_at (f ∷ fs) b (e ∙ ap (on f) q) (ap (λ z. passes f z || passed fs b) (sym q)
      ∙ ap (λ z. z || passed fs b) n ∙ r) st

  -- a part from the left
  pub after_on : (t : Term) (f : Frame) (a : Term) (g : Value → Act) → t ≡ on f a
      → passes f a ≡ false → act k t ≡ after a g → On a
      → ((v : Value) → a ≡ term.Value v → act k t ≡ g v → On t) → On t
  after_on t f a g e n q h c = go (decide a)
    where
      go : (standing a ≡ open_yet) ⊎ Finished a → On t
      go (inl op) = lift t f a e n op h
      go (inr (ends.Finished.value v x)) =
          c v x (q ∙ ap (λ st. by_standing st g) (ap standing x ∙ standing-Value v))
      go (inr (ends.Finished.throw v x)) =
          by_act t (becomes (throw_of v)) (q
          ∙ ap (λ st. by_standing st g) (ap standing x ∙ standing-throw v)) tt

  -- parts beside each other: which one goes on
  pub record Split (ts : List Term) : Type 0 where
    pub before : List Term
    pub part : Term
    pub behind : List Term
    pub is_list : ts ≡ before ++ part ∷ behind
    pub is_open : standing part ≡ open_yet
    pub reached : (list_any is_thrown (before ++ behind) && is_still part) ≡ false

  and_false : (a : Bool) → (a && false) ≡ false
  and_false true = refl
  and_false false = refl

  record Marked (ts : List Term) : Type 0 where
    before : List Term
    part : Term
    behind : List Term
    is_list : ts ≡ before ++ part ∷ behind
    is_open : standing part ≡ open_yet
    is_marked : has_stepped part ≡ true

  record Quiet (ts : List Term) : Type 0 where
    before : List Term
    part : Term
    behind : List Term
    is_list : ts ≡ before ++ part ∷ behind
    is_open : standing part ≡ open_yet
    none_thrown : list_any is_thrown (before ++ behind) ≡ false

  -- what is known of parts by how they stand together
  abbrev Known : List Term → Together → Type 0
  Known ts (at_values vs) = list_any is_thrown ts ≡ false
  Known ts (leftmost v) = Unit {0}
  Known ts some_still = Quiet ts × (list_any is_thrown ts ≡ false)
  Known ts some_open = Marked ts

  more_marked : (t : Term) (ts : List Term) → Marked ts → Marked (t ∷ ts)
  more_marked t ts i =
      record {
        before = t ∷ i.before;
        part = i.part;
        behind = i.behind;
        is_list = ap (λ r. t ∷ r) i.is_list;
        is_open = i.is_open;
        is_marked = i.is_marked;
      }

  more_quiet : (t : Term) (ts : List Term) → is_thrown t ≡ false
      → Quiet ts × (list_any is_thrown ts ≡ false)
      → Quiet (t ∷ ts) × (list_any is_thrown (t ∷ ts) ≡ false)
  more_quiet t ts n i = (
    record {
      before = t ∷ i.0.before;
      part = i.0.part;
      behind = i.0.behind;
      is_list = ap (λ r. t ∷ r) i.0.is_list;
      is_open = i.0.is_open;
      none_thrown =
          ap (λ b. b || list_any is_thrown (i.0.before ++ i.0.behind)) n ∙ i.0.none_thrown;
    },
    ap (λ b. b || list_any is_thrown ts) n ∙ i.1,
  )

  first_known : (t : Term) (ts : List Term) (st : Standing) (b : Bool) (g : Together)
      → standing t ≡ st → has_stepped t ≡ b → Known ts g → Known (t ∷ ts) (with_first st b g)
  first_known t ts (at_value v) b (at_values vs) e q i =
      ap (λ z. z || list_any is_thrown ts) (ap throws_by e) ∙ i
  first_known t ts (at_value v) b (leftmost w) e q i = tt
  first_known t ts (at_value v) b some_still e q i = more_quiet t ts (ap throws_by e) i
  first_known t ts (at_value v) b some_open e q i = more_marked t ts i
  first_known t ts (at_throw v) b some_open e q i = more_marked t ts i
  first_known t ts (at_throw v) b (at_values vs) e q i = tt
  first_known t ts (at_throw v) b (leftmost w) e q i = tt
  first_known t ts (at_throw v) b some_still e q i = tt
  first_known t ts open_yet true g e q i =
      record { before = []; part = t; behind = ts; is_list = refl; is_open = e; is_marked = q }
  first_known t ts open_yet false (at_values vs) e q i = (
    record { before = []; part = t; behind = ts; is_list = refl; is_open = e; none_thrown = i },
    ap (λ z. z || list_any is_thrown ts) (ap throws_by e) ∙ i,
  )
  first_known t ts open_yet false (leftmost w) e q i = tt
  first_known t ts open_yet false some_still e q i = more_quiet t ts (ap throws_by e) i
  first_known t ts open_yet false some_open e q i = more_marked t ts i

  known : (ts : List Term) → Known ts (standing_together ts)
  known [] = refl
  known (t ∷ ts) =
      first_known t ts (standing t) (has_stepped t) (standing_together ts) refl refl (known ts)

  -- a parallel node goes on by its parts' values, as a throw, or in a part
  pub once_on : (t : Term) (ts : List Term) (g : List Value → Act) → act k t ≡ once_all ts g
      → (Split ts → On t)
      → ((vs : List Value) → standing_together ts ≡ at_values vs → act k t ≡ g vs → On t) → On t
  once_on t ts g e inside c = go (standing_together ts) refl (known ts)
    where
      go : (x : Together) → standing_together ts ≡ x → Known ts x → On t
      go (at_values vs) q i = c vs q (e ∙ ap (λ z. by_together z g) q)
      go (leftmost v) q i = by_act t (becomes (throw_of v)) (e ∙ ap (λ z. by_together z g) q) tt
      go some_still q i =
          inside (record {
            before = i.0.before;
            part = i.0.part;
            behind = i.0.behind;
            is_list = i.0.is_list;
            is_open = i.0.is_open;
            reached = ap (λ b. b && is_still i.0.part) i.0.none_thrown;
          })
      go some_open q i = inside (record {
        before = i.before;
        part = i.part;
        behind = i.behind;
        is_list = i.is_list;
        is_open = i.is_open;
        reached =
            ap (λ b. list_any is_thrown (i.before ++ i.behind)
            && still_by (standing i.part) b) i.is_marked
            ∙ ap (λ st. list_any is_thrown (i.before ++ i.behind) && still_by st true) i.is_open
            ∙ and_false (list_any is_thrown (i.before ++ i.behind));
      })
