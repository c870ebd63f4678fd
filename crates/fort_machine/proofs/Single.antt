-- The picks of a run determine it.
use Rattle.std.proofs.Common.{◌≡◌, ℕ, ◌<◌, Bool, true, false, List, [], ◌∷◌, Option, Some, None, refl, ap, sym, ◌∙◌, subst, arith, rules, inl, inr}
use Rattle.std.specs.Prelude.{slice_get}
use Rattle.fort_base.specs.declared.ids.DeclId.{DeclId}
use Rattle.fort_base.specs.declared.ids.Loc.{Loc}
use Rattle.fort_base.specs.declared.ids.SetId.{SetId}
use Rattle.fort_core.specs.declared.form.Mode.{Mode}
use Rattle.fort_core.specs.declared.form.Mode.TheVariants as mode
use Rattle.fort_core.specs.declared.path.Path.{Path}
use Rattle.fort_core.specs.declared.program.CoreDecl.{CoreDecl}
use Rattle.fort_core.specs.declared.program.Program.{Program}
use Rattle.fort_core.specs.declared.pick.Pick.{Pick, Step, Attempt, out-Pick}
use Rattle.fort_core.specs.declared.pick.Pick.TheVariants.{outs-Step, outs-Attempt}
use Rattle.fort_core.specs.declared.term.Term.{Term, Atomic, Asleep, out-Term}
use Rattle.fort_core.specs.declared.term.Term as term
use Rattle.fort_core.specs.declared.term.Term.TheVariants.{outs-Atomic, outs-Asleep}
use Rattle.fort_core.specs.declared.value.Value.{Value}
use Rattle.fort_machine.specs.Cells.{Cell, found, Fits}
use Rattle.fort_machine.specs.Effects.{Store, Effect, reading, only_at, both, FitsAll, afterwards, completing, failing, aborting}
use Rattle.fort_machine.specs.Ends.{throw_of}
use Rattle.fort_machine.specs.Frames.{Frame, plug, road, trodden}
use Rattle.fort_machine.specs.Acts.{Act, stuck, turns, enters, asks, sets, makes, calls, ends}
use Rattle.fort_machine.specs.Forms.{act}
use Rattle.fort_machine.specs.Calls.{Dispatches, by_body}
use Rattle.fort_machine.specs.Steps.{Acts, by_itself, by_call, Does, Local, steps}
use Rattle.fort_machine.specs.Attempts.{AreRead, AllAbove, Rising, Form, fresh, slept, Ended, goes, Closes, completed, failed, gave_up, fell_asleep}
use Rattle.fort_machine.specs.Marked.{Marks, In}
use Rattle.fort_machine.specs.Runs.{Runs, none, step, stop, attempt, path_to, location}
use Rattle.fort_machine.specs.RunLaws.{OneStep, OneMarks, OneRun}
use Rattle.fort_machine.proofs.Standing.{value_not_throw}
use Rattle.fort_machine.proofs.Places.{one_place}
use Rattle.fort_machine.proofs.Ready.{local_ready, stop_ready, form_ready}

-- a location that was read has the value that was read
here : (l : ℕ) (c : Cell) → only_at l c l ≡ c
here l c = search rules

read_back : (v : Value) (o : Option Value) → Fits (found (Some v) None) o → o ≡ Some v
read_back v None f = absurd f
read_back v (Some w) f = ap Some f

pub reads_what_is_there : (l : ℕ) (v : Value) (s : Store) → FitsAll (reading l v) s → s l ≡ Some v
reads_what_is_there l v s f =
    read_back v (s l) (subst (λ x. Fits x (s l)) (here l (found (Some v) None)) (f l))

-- a form's act is one
one_decl : (p : Program) (set set' : SetId) (vs vs' : List Value) (d d' : DeclId)
    (decl decl' : CoreDecl) → set ≡ set' → vs ≡ vs' → Dispatches p set vs d decl
    → Dispatches p set' vs' d' decl' → decl ≡ decl'
one_decl p set set' vs vs' d d' decl decl' e q h k =
    let k2 : Dispatches p set vs d' decl' =
    subst (λ x. Dispatches p x vs d' decl') (sym e)
    (subst (λ x. Dispatches p set' x d' decl') (sym q) k) in
    let same : d' ≡ d = h.no_other d' decl' k2.most_specific in
    let z : Some decl ≡ Some decl' =
    sym h.most_specific.applicable.is_decl ∙ ap (λ
    (i : DeclId). slice_get p.decls i.0) (sym same) ∙ k2.most_specific.applicable.is_decl
    in cc

no_call : (p : Program) (inner : Bool) (loc : ℕ) (x : Act) (b : Term) (d : Effect)
    → Does p inner loc x b d → (set : SetId) (vs : List Value) → x ≡ calls set vs → ⊥
no_call p inner loc x b d k set vs e = subst (λ y. Does p inner loc y b d) e k

one_act : (p : Program) (a a' : Term) (x x' : Act) → a ≡ a'
    → ((set : SetId) (vs : List Value) → x ≡ calls set vs → ⊥)
    → ((set : SetId) (vs : List Value) → x' ≡ calls set vs → ⊥)
    → Acts p a x → Acts p a' x' → x ≡ x'
one_act p a a' x x' e n n' (by_itself q) (by_itself q') = sym q ∙ ap (act p) e ∙ q'
one_act p a a' x x' e n n' (by_itself q) (by_call q' h' i') =
    absurd (n _ _ (sym q ∙ ap (act p) e ∙ q'))
one_act p a a' x x' e n n' (by_call q h i) (by_itself q') =
    absurd (n' _ _ (sym q' ∙ ap (act p) (sym e) ∙ q))
one_act p a a' x x' e n n' (by_call {set = set} {values = vs} {d = d} {decl = decl} q h i)
    (by_call {set = set'} {values = vs'} {d = d'} {decl = decl'} q' h' i') =
    let z : calls set vs ≡ calls set' vs' = sym q ∙ ap (act p) e ∙ q' in
    let e1 : set ≡ set' = cc in
    let e2 : vs ≡ vs' = cc in
    let e3 : decl ≡ decl' = one_decl p set set' vs vs' d d' decl decl' e1 e2 h h' in
    sym i ∙ (λ j. by_body p (e3 j).body (e2 j)) ∙ i'

one_does : (p : Program) (inner : Bool) (loc : ℕ) (s : Store) (x : Act) (b b' : Term)
    (d d' : Effect) → Does p inner loc x b d → Does p inner loc x b' d' → FitsAll d s → FitsAll d' s
    → (b ≡ b') × (d ≡ d')
one_does p inner loc s stuck b b' d d' k k' f f' = absurd k
one_does p inner loc s (turns next output cost) b b' d d' k k' f f' =
    (k.1 ∙ sym k'.1, k.2 ∙ sym k'.2)
one_does p inner loc s (enters body next) b b' d d' k k' f f' = (k.2 ∙ sym k'.2, k.3 ∙ sym k'.3)
one_does p inner loc s (asks l next) b b' d d' k k' f f' =
    let g = reads_what_is_there l k.0 s (subst (λ z. FitsAll z s) k.3 f) in
    let h = reads_what_is_there l k'.0 s (subst (λ z. FitsAll z s) k'.3 f') in
    let w : k.0 ≡ k'.0 = let z : Some k.0 ≡ Some k'.0 = sym g ∙ h in cc in
    (k.2 ∙ ap next w ∙ sym k'.2, k.3 ∙ ap (reading l) w ∙ sym k'.3)
one_does p inner loc s (sets l v) b b' d d' k k' f f' = (k.1 ∙ sym k'.1, k.2 ∙ sym k'.2)
one_does p inner loc s (makes values next cost) b b' d d' k k' f f' =
    (k.0 ∙ sym k'.0, k.1 ∙ sym k'.1)
one_does p inner loc s (calls set values) b b' d d' k k' f f' = absurd k
one_does p inner loc s ends b b' d d' k k' f f' =
    let w : k.0 ≡ k'.0 = let z : Some k.0 ≡ Some k'.0 = sym k.3 ∙ k'.3 in cc in
    (k.4 ∙ ap throw_of w ∙ sym k'.4, k.5 ∙ sym k'.5)

-- a form has one step
one_local : (p : Program) (inner : Bool) (loc loc' : ℕ) (s : Store) (a a' b b' : Term)
    (d d' : Effect) → loc ≡ loc' → a ≡ a' → Local p inner loc a b d → Local p inner loc' a' b' d'
    → FitsAll d s → FitsAll d' s → (b ≡ b') × (d ≡ d')
one_local p inner loc loc' s a a' b b' d d' el ea (steps x h k) (steps x' h' k') f f' =
    let e : x ≡ x' =
    one_act p a a' x x' ea (no_call p inner loc x b d k) (no_call p inner loc' x' b' d' k') h h'
    in
    one_does p inner loc s x b b' d d' k
    (subst (λ y. Does p inner loc y b' d') (sym e)
    (subst (λ y. Does p inner y x' b' d') (sym el) k')) f f'

pub one_step : OneStep
one_step p inner loc s a b b' d d' k k' f f' =
    one_local p inner loc loc s a a b b' d d' refl refl k k' f f'

-- where a machine of an attempt stops, no step is
stops_not_steps : (p : Program) (inner : Bool) (loc : ℕ) (a a' b : Term) (d : Effect) → a ≡ a'
    → inner ≡ true → Acts p a ends → Local p inner loc a' b d → ⊥
stops_not_steps p inner loc a a' b d e i h (steps x h' k) =
    let q : ends ≡ x = one_act p a a' ends x e (λ set vs z. cc) (no_call p inner loc x b d k) h h'
    in
    let k2 : Does p inner loc ends b d = subst (λ y. Does p inner loc y b d) (sym q) k in
    let z : true ≡ false = sym i ∙ k2.1 in cc

-- picks in front of lists
step_pick : (x y : Path) (l k : Loc) → Step x l ≡ Step y k → (x ≡ y) × (l ≡ k)
step_pick x y l k e = let z = sym (outs-Step x l) ∙ ap out-Pick e ∙ outs-Step y k in (cc, cc)

attempt_pick : (x y : Path) (ps qs : List Pick) → Attempt x ps ≡ Attempt y qs → (x ≡ y) × (ps ≡ qs)
attempt_pick x y ps qs e =
    let z = sym (outs-Attempt x ps) ∙ ap out-Pick e ∙ outs-Attempt y qs in (cc, cc)

step_not_attempt : (x y : Path) (l : Loc) (ps : List Pick) → Step x l ≡ Attempt y ps → ⊥
step_not_attempt x y l ps e = let z = sym (outs-Step x l) ∙ ap out-Pick e ∙ outs-Attempt y ps in cc

heads : (a b : Pick) (ps qs : List Pick) → a ∷ ps ≡ b ∷ qs → (a ≡ b) × (ps ≡ qs)
heads a b ps qs e = (cc, cc)

pub same_steps : (fs gs : List Frame) (l k : ℕ) (ps qs : List Pick)
    → Step (path_to fs) (location l) ∷ ps ≡ Step (path_to gs) (location k) ∷ qs
    → (road fs ≡ road gs) × (l ≡ k) × (ps ≡ qs)
same_steps fs gs l k ps qs e =
    let h = heads _ _ ps qs e in
    let i = step_pick (path_to fs) (path_to gs) (location l) (location k) h.0 in
    (ap (λ (x : Path). x.0) i.0, ap (λ (x : Loc). x.0) i.1, h.1)

pub same_attempts : (fs gs : List Frame) (ins ins' ps qs : List Pick)
    → Attempt (path_to fs) ins ∷ ps ≡ Attempt (path_to gs) ins' ∷ qs
    → (road fs ≡ road gs) × (ins ≡ ins') × (ps ≡ qs)
same_attempts fs gs ins ins' ps qs e =
    let h = heads _ _ ps qs e in
    let i = attempt_pick (path_to fs) (path_to gs) ins ins' h.0 in
    (ap (λ (x : Path). x.0) i.0, i.1, h.1)

pub mixed : (fs gs : List Frame) (l : ℕ) (ins ps qs : List Pick)
    → Step (path_to fs) (location l) ∷ ps ≡ Attempt (path_to gs) ins ∷ qs → ⊥
mixed fs gs l ins ps qs e =
    step_not_attempt (path_to fs) (path_to gs) (location l) ins (heads _ _ ps qs e).0

-- an atomic form has one body
form_one : (a a' : Term) (m m' : Mode) (body body' : Term) → a ≡ a' → Form a m body
    → Form a' m' body' → (m ≡ m') × (body ≡ body')
form_one a a' m m' body body' e (fresh p) (fresh q) =
    let z = sym (outs-Atomic m body) ∙ ap out-Term (sym p ∙ e ∙ q) ∙ outs-Atomic m' body'
    in (cc, cc)
form_one a a' m m' body body' e (fresh p) (slept ms n q) =
    let z = sym (outs-Atomic m body) ∙ ap out-Term (sym p ∙ e ∙ q) ∙ outs-Asleep ms body'
    in absurd cc
form_one a a' m m' body body' e (slept ms n p) (fresh q) =
    let z = sym (outs-Asleep ms body) ∙ ap out-Term (sym p ∙ e ∙ q) ∙ outs-Atomic m' body'
    in absurd cc
form_one a a' m m' body body' e (slept ms n p) (slept ms' n' q) =
    let z = sym (outs-Asleep ms body) ∙ ap out-Term (sym p ∙ e ∙ q) ∙ outs-Asleep ms' body'
    in (n ∙ sym n', cc)

-- lists in order with the same members are one
above_in : (k l : ℕ) (v : Value) (ms : Marks) → AllAbove k ms → In l v ms → k < l
above_in k l v [] a h = absurd h
above_in k l v (m ∷ ms) a (inl e) = subst (λ x. k < x) (sym e.0) a.0
above_in k l v (m ∷ ms) a (inr h) = above_in k l v ms a.1 h

same_head : (m n : Loc × Value) (ms ns : Marks) → AllAbove m.0.0 ms → AllAbove n.0.0 ns
    → In m.0.0 m.1 (n ∷ ns) → In n.0.0 n.1 (m ∷ ms) → (m.0.0 ≡ n.0.0) × (m.1 ≡ n.1)
same_head m n ms ns a b (inl e) k = e
same_head m n ms ns a b (inr h) (inl e) = (sym e.0, sym e.1)
same_head m n ms ns a b (inr h) (inr k) =
    let x : n.0.0 < m.0.0 = above_in n.0.0 m.0.0 m.1 ns b h in
    let y : m.0.0 < n.0.0 = above_in m.0.0 n.0.0 n.1 ms a k in absurd (omega arith)

in_rest : (l : ℕ) (v : Value) (m n : Loc × Value) (ms ns : Marks) → m.0.0 ≡ n.0.0
    → AllAbove m.0.0 ms → In l v ms → In l v (n ∷ ns) → In l v ns
in_rest l v m n ms ns e a h (inl q) =
    let x : m.0.0 < l = above_in m.0.0 l v ms a h in let y : l ≡ n.0.0 = q.0 in absurd (omega arith)
in_rest l v m n ms ns e a h (inr k) = k

rising_one : (ms ns : Marks) → Rising ms → Rising ns → ((l : ℕ) (v : Value) → In l v ms → In l v ns)
    → ((l : ℕ) (v : Value) → In l v ns → In l v ms) → ms ≡ ns
rising_one [] [] a b f g = refl
rising_one [] (n ∷ ns) a b f g = absurd (g n.0.0 n.1 (inl (refl, refl)))
rising_one (m ∷ ms) [] a b f g = absurd (f m.0.0 m.1 (inl (refl, refl)))
rising_one (m ∷ ms) (n ∷ ns) a b f g =
    let e = same_head m n ms ns a.0 b.0 (f m.0.0 m.1 (inl (refl, refl)))
    (g n.0.0 n.1 (inl (refl, refl))) in
    let i = rising_one ms ns a.1 b.1 (λ l v h. in_rest l v m n ms ns e.0 a.0 h (f l v (inr h)))
    (λ l v h. in_rest l v n m ns ms (sym e.0) b.0 h (g l v (inr h))) in
    λ j. (record { 0 = e.0 j }, e.1 j) ∷ i j

pub one_marks : OneMarks
one_marks marks others d ra oa rb ob = rising_one marks others oa ob
    (λ l v h. let r = ra.were_read l v h
    in rb.are_all l v r.0 r.1) (λ l v h. let r = rb.were_read l v h
    in ra.are_all l v r.0 r.1)

-- an attempt closes in one way
closes_one : (p : Program) (m : Mode) (body : Term) (r r' : Ended) (d d' e e' : Effect)
    (t t' : Term) → r ≡ r' → d ≡ d' → Closes p m body r d t e → Closes p m body r' d' t' e'
    → (t ≡ t') × (e ≡ e')
closes_one p m body r r' d d' e e' t t' q w (completed v a b c) (completed v' a' b' c') =
    let z : goes (term.Value v) ≡ goes (term.Value v') = sym a ∙ q ∙ a'
    in (cc, c ∙ ap completing w ∙ sym c')
closes_one p m body r r' d d' e e' t t' q w (completed v a b c) (failed v' a' b' c') =
    let z : goes (term.Value v) ≡ goes (throw_of v') = sym a ∙ q ∙ a'
    in absurd (value_not_throw v v' (cc))
closes_one p m body r r' d d' e e' t t' q w (completed v a b c) (gave_up v' a' b' c' h' k') =
    absurd cc
closes_one p m body r r' d d' e e' t t' q w (completed v a b c)
    (fell_asleep ms' a' b' c' g' h' k') = absurd cc
closes_one p m body r r' d d' e e' t t' q w (failed v a b c) (completed v' a' b' c') =
    let z : goes (throw_of v) ≡ goes (term.Value v') = sym a ∙ q ∙ a'
    in absurd (value_not_throw v' v (cc))
closes_one p m body r r' d d' e e' t t' q w (failed v a b c) (failed v' a' b' c') =
    let z : goes (throw_of v) ≡ goes (throw_of v') = sym a ∙ q ∙ a'
    in (cc, c ∙ ap failing w ∙ sym c')
closes_one p m body r r' d d' e e' t t' q w (failed v a b c) (gave_up v' a' b' c' h' k') = absurd cc
closes_one p m body r r' d d' e e' t t' q w (failed v a b c) (fell_asleep ms' a' b' c' g' h' k') =
    absurd cc
closes_one p m body r r' d d' e e' t t' q w (gave_up v a b c h k) (completed v' a' b' c') =
    absurd cc
closes_one p m body r r' d d' e e' t t' q w (gave_up v a b c h k) (failed v' a' b' c') = absurd cc
closes_one p m body r r' d d' e e' t t' q w (gave_up v a b c h k) (gave_up v' a' b' c' h' k') =
    let z : Some v ≡ Some v' = sym c ∙ c' in let y : v ≡ v' = cc
    in (h ∙ ap throw_of y ∙ sym h', k ∙ ap aborting w ∙ sym k')
closes_one p m body r r' d d' e e' t t' q w (gave_up v a b c h k)
    (fell_asleep ms' a' b' c' g' h' k') = let z : mode.Try ≡ mode.Atomic = sym b ∙ b' in absurd cc
closes_one p m body r r' d d' e e' t t' q w (fell_asleep ms a b c g h k) (completed v' a' b' c') =
    absurd cc
closes_one p m body r r' d d' e e' t t' q w (fell_asleep ms a b c g h k) (failed v' a' b' c') =
    absurd cc
closes_one p m body r r' d d' e e' t t' q w (fell_asleep ms a b c g h k)
    (gave_up v' a' b' c' h' k') = let z : mode.Try ≡ mode.Atomic = sym b' ∙ b in absurd cc
closes_one p m body r r' d d' e e' t t' q w (fell_asleep ms a b c g h k)
    (fell_asleep ms' a' b' c' g' h' k') = (
      h ∙ ap (λ x. Asleep x body) (one_marks ms ms' d' (subst (AreRead ms) w c) g c' g') ∙ sym h',
      k
          ∙ ap aborting w ∙ sym k',
    )

module _ (p : Program) where
  pub single : (inner strict : Bool) (s s' : Store) (ps ps' : List Pick) (t t' : Term)
      (r r' : Ended) (d d' : Effect) → s ≡ s' → ps ≡ ps' → t ≡ t'
      → Runs p inner strict s ps t r d → Runs p inner strict s' ps' t' r' d' → (r ≡ r') × (d ≡ d')
  single inner strict s s' ps ps' t t' r r' d d' es ep et (none a b c) (none a' b' c') =
      (b ∙ ap goes et ∙ sym b', c ∙ sym c')
  single inner strict s s' ps ps' t t' r r' d d' es ep et (none a b c) (step fs e h n l f k w) =
      absurd cc
  single inner strict s s' ps ps' t t' r r' d d' es ep et (none a b c) (stop fs i e h n x y w) =
      absurd cc
  single inner strict s s' ps ps' t t' r r' d d' es ep et (none a b c)
      (attempt fs e h n l bare m k close k2 w) = absurd cc
  single inner strict s s' ps ps' t t' r r' d d' es ep et (step fs e h n l f k w) (none a' b' c') =
      absurd cc
  single inner strict s s' ps ps' t t' r r' d d' es ep et
      (step {rest = rest} {a = a} {b = b} {d1 = d1} {d2 = d2} {loc = loc} fs e h n l f k w)
      (step {rest = rest'} {a = a'} {b = b'} {d1 = d1'} {d2 = d2'} {loc =
      loc'} gs e' h' n' l' f' k' w') =
      let q = same_steps fs gs loc loc' rest rest' (sym e ∙ ep ∙ e') in
      let one =
      one_place fs gs a a' (sym h ∙ et
      ∙ h') q.0 (local_ready p inner loc a b d1 l) (local_ready p inner loc' a' b' d1' l')
      in
      let did =
      one_local p inner loc loc' s a a' b b' d1 d1' q.1 one.1 l l' f
      (subst (FitsAll d1') (sym es) f') in
      let i = single inner strict (afterwards d1 s) (afterwards d1' s') rest rest'
      (plug (trodden fs) b) (plug (trodden gs) b') r r' d2 d2'
      (λ j. afterwards (did.1 j) (es j)) q.2 (λ j. plug (trodden (one.0 j)) (did.0 j)) k k' in
      (i.0, w ∙ (λ j. both (did.1 j) (i.1 j)) ∙ sym w')
  single inner strict s s' ps ps' t t' r r' d d' es ep et
      (step {rest = rest} {a = a} {b = b} {d1 = d1} {loc = loc} fs e h n l f k w)
      (stop {a = a'} gs i e' h' n' x y w') =
      let q = same_steps fs gs loc 0 rest [] (sym e ∙ ep ∙ e') in
      let one =
      one_place fs gs a a' (sym h ∙ et
      ∙ h') q.0 (local_ready p inner loc a b d1 l) (stop_ready p a' x) in
      absurd (stops_not_steps p inner loc a' a b d1 (sym one.1) i x l)
  single inner strict s s' ps ps' t t' r r' d d' es ep et
      (step {rest = rest} {loc = loc} fs e h n l f k w)
      (attempt {within = within'} {rest = rest'} gs e' h' n' l' bare' m' k' close' k2' w') =
      absurd (mixed fs gs loc within' rest rest' (sym e ∙ ep ∙ e'))
  single inner strict s s' ps ps' t t' r r' d d' es ep et (stop fs i e h n x y w) (none a' b' c') =
      absurd cc
  single inner strict s s' ps ps' t t' r r' d d' es ep et (stop {a = a} fs i e h n x y w)
      (step {rest = rest'} {a = a'} {b = b'} {d1 = d1'} {loc = loc'} gs e' h' n' l' f' k' w') =
      let q = same_steps fs gs 0 loc' [] rest' (sym e ∙ ep ∙ e') in
      let one =
      one_place fs gs a a' (sym h ∙ et
      ∙ h') q.0 (stop_ready p a x) (local_ready p inner loc' a' b' d1' l') in
      absurd (stops_not_steps p inner loc' a a' b' d1' one.1 i x l')
  single inner strict s s' ps ps' t t' r r' d d' es ep et (stop fs i e h n x y w)
      (stop gs i' e' h' n' x' y' w') = (y ∙ sym y', w ∙ sym w')
  single inner strict s s' ps ps' t t' r r' d d' es ep et (stop fs i e h n x y w)
      (attempt {within = within'} {rest = rest'} gs e' h' n' l' bare' m' k' close' k2' w') =
      absurd (mixed fs gs 0 within' [] rest' (sym e ∙ ep ∙ e'))
  single inner strict s s' ps ps' t t' r r' d d' es ep et (attempt fs e h n l bare m k close k2 w)
      (none a' b' c') = absurd cc
  single inner strict s s' ps ps' t t' r r' d d' es ep et
      (attempt {within = within} {rest = rest} fs e h n l bare m k close k2 w)
      (step {rest = rest'} {loc = loc'} gs e' h' n' l' f' k' w') =
      absurd (mixed gs fs loc' within rest' rest (sym e' ∙ sym ep ∙ e))
  single inner strict s s' ps ps' t t' r r' d d' es ep et
      (attempt {within = within} {rest = rest} fs e h n l bare m k close k2 w)
      (stop gs i e' h' n' x y w') =
      absurd (mixed gs fs 0 within [] rest (sym e' ∙ sym ep ∙ e))
  single inner strict s s' ps ps' t t' r r' d d' es ep et
      (attempt {m = m} {within = within} {rest = rest} {a = a} {b = b} {body = body} {ended =
      ended} {d1 = d1} {d2 = d2} {d3 = d3} fs e h n l bare may k close k2 w)
      (attempt {m = m'} {within = within'} {rest = rest'} {a = a'} {b = b'} {body = body'} {ended =
      ended'} {d1 = d1'} {d2 = d2'} {d3 = d3'} gs e' h' n' l' bare' may' k' close' k2' w') =
      let q = same_attempts fs gs within within' rest rest' (sym e ∙ ep ∙ e') in
      let one =
      one_place fs gs a a' (sym h ∙ et
      ∙ h') q.0 (form_ready a m body l) (form_ready a' m' body' l') in
      let form = form_one a a' m m' body body' one.1 l l' in
      let i = single true true s s' within within' body body' ended ended' d1 d1' es q.1 form.1 k k'
      in
      let close2 : Closes p m body ended' d1' b' d2' =
      subst (λ x. Closes p x body ended' d1' b' d2') (sym form.0)
      (subst (λ x. Closes p m' x ended' d1' b' d2') (sym form.1) close') in
      let did = closes_one p m body ended ended' d1 d1' d2 d2' b b' i.0 i.1 close close2 in
      let j = single inner strict (afterwards d2 s) (afterwards d2' s') rest rest'
      (plug (trodden fs) b) (plug (trodden gs) b') r r' d3 d3'
      (λ x. afterwards (did.1 x) (es x)) q.2 (λ x. plug (trodden (one.0 x)) (did.0 x)) k2 k2' in
      (j.0, w ∙ (λ x. both (did.1 x) (j.1 x)) ∙ sym w')

pub one_run : OneRun
one_run p inner strict s ps t r r' d d' k k' =
    single p inner strict s s ps ps t t r r' d d' refl refl refl k k'
