-- What a run read: finitely many locations, and so its marks.
use Rattle.std.proofs.Common.{◌≡◌, ℕ, ◌+◌, ◌==◌, ◌<◌, Bool, true, false, List, [], ◌∷◌, ◌++◌, Option, Some, None, refl, ap, sym, ◌∙◌, subst, arith, rules, ◌⊎◌, inl, inr, if◌then◌else◌}
use Rattle.std.specs.Prelude.{nat_lt}
use Rattle.std.proofs.lemmas.Bool.{ltb-true, ltb-false}
use Rattle.fort_base.specs.declared.ids.Loc.{Loc}
use Rattle.fort_core.specs.declared.form.Mode.{Mode}
use Rattle.fort_core.specs.declared.pick.Pick.{Pick}
use Rattle.fort_core.specs.declared.program.Program.{Program}
use Rattle.fort_core.specs.declared.term.Term.{Term}
use Rattle.fort_core.specs.declared.value.Value.{Value}
use Rattle.fort_machine.specs.Cells.{Cell, untouched, found, made, joined, given_back, taken_away}
use Rattle.fort_machine.specs.Effects.{Store, Effect, both, only_at, made_from, afterwards}
use Rattle.fort_machine.specs.Parts.{IsOneOf}
use Rattle.fort_machine.specs.Acts.{Act, stuck, turns, enters, asks, sets, makes, calls, ends}
use Rattle.fort_machine.specs.Marked.{Marks, In}
use Rattle.fort_machine.specs.Steps.{or_unit, Does, Local, steps}
use Rattle.fort_machine.specs.Frames.{plug, trodden}
use Rattle.fort_machine.specs.Attempts.{AllAbove, Rising, Ended, Closes, completed, failed, gave_up, fell_asleep}
use Rattle.fort_machine.specs.Runs.{Runs, none, step, stop, attempt}
use Rattle.fort_machine.specs.RunLaws.{MarksThere}

-- all that an effect touches is among these locations
abbrev Touches : Effect → List ℕ → Type 0
Touches d ls = (l : ℕ) → (d.cells l ≡ untouched) ⊎ IsOneOf l ls

abbrev Few : Effect → Type 0
Few d = (ls : List ℕ) × Touches d ls

one_left : (l : ℕ) (xs ys : List ℕ) → IsOneOf l xs → IsOneOf l (xs ++ ys)
one_left l [] ys h = absurd h
one_left l (x ∷ xs) ys (inl e) = inl e
one_left l (x ∷ xs) ys (inr h) = inr (one_left l xs ys h)

one_right : (l : ℕ) (xs ys : List ℕ) → IsOneOf l ys → IsOneOf l (xs ++ ys)
one_right l [] ys h = h
one_right l (x ∷ xs) ys h = inr (one_right l xs ys h)

few_both : (d e : Effect) → Few d → Few e → Few (both d e)
few_both d e f g = (f.0 ++ g.0, λ l. go l (f.1 l) (g.1 l))
  where
    go : (l : ℕ) → (d.cells l ≡ untouched) ⊎ IsOneOf l f.0 → (e.cells l ≡ untouched) ⊎ IsOneOf l g.0
        → ((both d e).cells l ≡ untouched) ⊎ IsOneOf l (f.0 ++ g.0)
    go l (inl a) (inl b) = inl (λ i. joined (a i) (b i))
    go l (inl a) (inr b) = inr (one_right l f.0 g.0 b)
    go l (inr a) b = inr (one_left l f.0 g.0 a)

few_is : (d e : Effect) → d ≡ e → Few e → Few d
few_is d e q f = subst Few (sym q) f

same_number : (k l : ℕ) → (k == l) ≡ true → l ≡ k
same_number k l e = search (rules, e)

touches_one : (k : ℕ) (c : Cell) (l : ℕ) → (only_at k c l ≡ untouched) ⊎ IsOneOf l (k ∷ [])
touches_one k c l = go (k == l) refl
  where
    go : (b : Bool) → (k == l) ≡ b → (only_at k c l ≡ untouched) ⊎ IsOneOf l (k ∷ [])
    go true e = inr (inl (same_number k l e))
    go false e = inl (ap (λ b. if b then c else untouched) e)

abbrev row : ℕ → List Value → List ℕ
row k [] = []
row k (v ∷ vs) = k ∷ row (k + 1) vs

touches_row : (k : ℕ) (vs : List Value) (l : ℕ)
    → (made_from k vs l ≡ untouched) ⊎ IsOneOf l (row k vs)
touches_row k [] l = inl refl
touches_row k (v ∷ vs) l = go (k == l) refl (touches_row (k + 1) vs l)
  where
    go : (b : Bool) → (k == l) ≡ b
        → (made_from (k + 1) vs l ≡ untouched) ⊎ IsOneOf l (row (k + 1) vs)
        → (made_from k (v ∷ vs) l ≡ untouched) ⊎ IsOneOf l (k ∷ row (k + 1) vs)
    go true e h = inr (inl (same_number k l e))
    go false e (inl q) = inl (ap (λ b. if b then made (Some v) else made_from (k + 1) vs l) e ∙ q)
    go false e (inr h) = inr (inr h)

few_does : (p : Program) (inner : Bool) (loc : ℕ) (x : Act) (b : Term) (d : Effect)
    → Does p inner loc x b d → Few d
few_does p inner loc stuck b d k = absurd k
few_does p inner loc (turns next output cost) b d k = few_is d _ k.2 ([], λ l. inl refl)
few_does p inner loc (enters body next) b d k = few_is d _ k.3 ([], λ l. inl refl)
few_does p inner loc (asks l next) b d k =
    few_is d _ k.3 (l ∷ [], touches_one l (found (Some k.0) None))
few_does p inner loc (sets l v) b d k = few_is d _ k.2 (l ∷ [], touches_one l (found None (Some v)))
few_does p inner loc (makes values next cost) b d k =
    few_is d _ k.1 (row loc (or_unit values), touches_row loc (or_unit values))
few_does p inner loc (calls set values) b d k = absurd k
few_does p inner loc ends b d k = few_is d _ k.5 ([], λ l. inl refl)

few_local : (p : Program) (inner : Bool) (loc : ℕ) (a b : Term) (d : Effect)
    → Local p inner loc a b d → Few d
few_local p inner loc a b d (steps x h k) = few_does p inner loc x b d k

through : (g : Cell → Cell) → g untouched ≡ untouched → (d : Effect) (ls : List ℕ) → Touches d ls
    → (l : ℕ) → (g (d.cells l) ≡ untouched) ⊎ IsOneOf l ls
through g q d ls f l = go (f l)
  where
    go : (d.cells l ≡ untouched) ⊎ IsOneOf l ls → (g (d.cells l) ≡ untouched) ⊎ IsOneOf l ls
    go (inl e) = inl (ap g e ∙ q)
    go (inr h) = inr h

few_closes : (p : Program) (m : Mode) (body b : Term) (r : Ended) (d e : Effect)
    → Closes p m body r d b e → Few d → Few e
few_closes p m body b r d e (completed v x y z) f = few_is e _ z (f.0, f.1)
few_closes p m body b r d e (failed v x y z) f =
    few_is e _ z (f.0, through given_back refl d f.0 f.1)
few_closes p m body b r d e (gave_up v x y z u w) f =
    few_is e _ w (f.0, through taken_away refl d f.0 f.1)
few_closes p m body b r d e (fell_asleep marks x y z o u w) f =
    few_is e _ w (f.0, through taken_away refl d f.0 f.1)

few_run : (p : Program) (inner strict : Bool) (s : Store) (ps : List Pick) (t : Term) (r : Ended)
    (d : Effect) → Runs p inner strict s ps t r d → Few d
few_run p inner strict s ps t r d (none a b c) = few_is d _ c ([], λ l. inl refl)
few_run p inner strict s ps t r d
    (step {rest = rest} {a = a} {b = b} {d1 = d1} {d2 = d2} {loc = loc} fs e c n l f k w) =
    few_is d _ w
    (few_both d1 d2 (few_local p inner loc a b d1 l)
    (few_run p inner strict (afterwards d1 s) rest (plug (trodden fs) b) r d2 k))
few_run p inner strict s ps t r d (stop fs a e c n h x w) = few_is d _ w ([], λ l. inl refl)
few_run p inner strict s ps t r d
    (attempt {m = m} {within = within} {rest = rest} {b = b} {body = body} {ended = ended} {d1 =
    d1} {d2 = d2} {d3 = d3} fs e c n l bare may k close k' w) =
    few_is d _ w
    (few_both d2 d3
    (few_closes p m body b ended d1 d2 close (few_run p true true s within body ended d1 k))
    (few_run p inner strict (afterwards d2 s) rest (plug (trodden fs) b) r d3 k'))

-- the value that was read at a cell
abbrev read_at : Cell → Option Value
read_at (found (Some v) w) = Some v
read_at _ = None

read_back : (c : Cell) (v : Value) → read_at c ≡ Some v
    → (w : Option Value) × (c ≡ found (Some v) w)
read_back untouched v e = absurd cc
read_back (found None w) v e = absurd cc
read_back (found (Some x) w) v e = let q : x ≡ v = cc in (w, ap (λ y. found (Some y) w) q)
read_back (made w) v e = absurd cc

-- a mark in its place
abbrev mark : ℕ → Value → Loc × Value
mark k v = (record { 0 = k }, v)

abbrev insert : ℕ → Value → Marks → Marks
insert k v [] = mark k v ∷ []
insert k v (m ∷ ms) = if nat_lt k m.0.0 then mark k v ∷ m ∷ ms
    else (if nat_lt m.0.0 k then m ∷ insert k v ms else m ∷ ms)

insert_by : (P : Marks → Type 0) (k : ℕ) (v : Value) (m : Loc × Value) (ms : Marks)
    → (k < m.0.0 → P (mark k v ∷ m ∷ ms)) → (k ≡ m.0.0 → P (m ∷ ms))
    → (m.0.0 < k → P (m ∷ insert k v ms)) → P (insert k v (m ∷ ms))
insert_by P k v m ms f g h = go (nat_lt k m.0.0) refl (nat_lt m.0.0 k) refl
  where
    go : (b : Bool) → nat_lt k m.0.0 ≡ b → (c : Bool) → nat_lt m.0.0 k ≡ c
        → P (if b then mark k v ∷ m ∷ ms else (if c then m ∷ insert k v ms else m ∷ ms))
    go true e c q = f (ltb-true k m.0.0 e)
    go false e true q = h (ltb-true m.0.0 k q)
    go false e false q =
        let x = ltb-false k m.0.0 e in let y = ltb-false m.0.0 k q in g (omega arith)

above_all : (a b : ℕ) (ms : Marks) → a < b → AllAbove b ms → AllAbove a ms
above_all a b [] h k = tt
above_all a b (m ∷ ms) h k = let x : b < m.0.0 = k.0 in (omega arith, above_all a b ms h k.1)

above_insert : (a k : ℕ) (v : Value) (ms : Marks) → a < k → AllAbove a ms
    → AllAbove a (insert k v ms)
above_insert a k v [] h q = (h, tt)
above_insert a k v (m ∷ ms) h q =
    insert_by (AllAbove a) k v m ms (λ e. (h, q)) (λ e. q) (λ e. (q.0, above_insert a k v ms h q.1))

rising_insert : (k : ℕ) (v : Value) (ms : Marks) → Rising ms → Rising (insert k v ms)
rising_insert k v [] q = (tt, tt)
rising_insert k v (m ∷ ms) q =
    insert_by Rising k v m ms (λ e. ((e, above_all k m.0.0 ms e q.0), q)) (λ e. q)
    (λ e. (above_insert m.0.0 k v ms e q.0, rising_insert k v ms q.1))

in_insert : (l : ℕ) (v : Value) (k : ℕ) (x : Value) (ms : Marks) → In l v (insert k x ms)
    → ((l ≡ k) × (v ≡ x)) ⊎ In l v ms
in_insert l v k x [] (inl h) = inl h
in_insert l v k x [] (inr h) = absurd h
in_insert l v k x (m ∷ ms) h = insert_by (λ ns. In l v ns
    → ((l ≡ k) × (v ≡ x))
    ⊎ In l v (m ∷ ms)) k x m ms (λ e i. i) (λ e i. inr i)
    (λ e i. deeper i (in_insert l v k x ms)) h
  where
    lift : ((l ≡ k) × (v ≡ x)) ⊎ In l v ms → ((l ≡ k) × (v ≡ x)) ⊎ In l v (m ∷ ms)
    lift (inl q) = inl q
    lift (inr q) = inr (inr q)

    deeper : In l v (m ∷ insert k x ms) → (In l v (insert k x ms) → ((l ≡ k) × (v ≡ x)) ⊎ In l v ms)
        → ((l ≡ k) × (v ≡ x)) ⊎ In l v (m ∷ ms)
    deeper (inl q) f = inr (inl q)
    deeper (inr q) f = lift (f q)

keep : (l : ℕ) (v : Value) (k : ℕ) (x : Value) (ms : Marks) → In l v ms → In l v (insert k x ms)
keep l v k x [] h = absurd h
keep l v k x (m ∷ ms) h =
    insert_by (In l v) k x m ms (λ e. inr h) (λ e. h) (λ e. deeper h (keep l v k x ms))
  where
    deeper : In l v (m ∷ ms) → (In l v ms → In l v (insert k x ms)) → In l v (m ∷ insert k x ms)
    deeper (inl q) f = inl q
    deeper (inr q) f = inr (f q)

module _ (f : ℕ → Cell) where
  abbrev Sound : Marks → Type 0
  Sound ms = (l : ℕ) (v : Value) → In l v ms → read_at (f l) ≡ Some v

  here : (k : ℕ) (x : Value) (ms : Marks) → Sound ms → read_at (f k) ≡ Some x
      → In k x (insert k x ms)
  here k x [] s e = inl (refl, refl)
  here k x (m ∷ ms) s e =
      insert_by (In k x) k x m ms (λ q. inl (refl, refl)) same
      (λ q. inr (here k x ms (λ l v h. s l v (inr h)) e))
    where
      same : k ≡ m.0.0 → In k x (m ∷ ms)
      same q = let z : Some x ≡ Some m.1 =
          sym e ∙ ap (λ n. read_at (f n)) q ∙ s m.0.0 m.1 (inl (refl, refl)) in let w : x ≡ m.1 = cc
          in inl (q, w)

  abbrev add : Option Value → ℕ → Marks → Marks
  add None l ms = ms
  add (Some v) l ms = insert l v ms

  abbrev collect : List ℕ → Marks
  collect [] = []
  collect (l ∷ ls) = add (read_at (f l)) l (collect ls)

  sound_add : (o : Option Value) (k : ℕ) (ms : Marks) → read_at (f k) ≡ o → Sound ms
      → Sound (add o k ms)
  sound_add None k ms e s = s
  sound_add (Some x) k ms e s = λ l v h. go l v (in_insert l v k x ms h)
    where
      go : (l : ℕ) (v : Value) → ((l ≡ k) × (v ≡ x)) ⊎ In l v ms → read_at (f l) ≡ Some v
      go l v (inl q) = ap (λ n. read_at (f n)) q.0 ∙ e ∙ ap Some (sym q.1)
      go l v (inr q) = s l v q

  sound : (ls : List ℕ) → Sound (collect ls)
  sound [] = λ l v h. absurd h
  sound (k ∷ ls) = sound_add (read_at (f k)) k (collect ls) refl (sound ls)

  rising_add : (o : Option Value) (k : ℕ) (ms : Marks) → Rising ms → Rising (add o k ms)
  rising_add None k ms r = r
  rising_add (Some x) k ms r = rising_insert k x ms r

  rises : (ls : List ℕ) → Rising (collect ls)
  rises [] = tt
  rises (k ∷ ls) = rising_add (read_at (f k)) k (collect ls) (rises ls)

  here_add : (o : Option Value) (k : ℕ) (x : Value) (ms : Marks) → read_at (f k) ≡ o → o ≡ Some x
      → Sound ms → In k x (add o k ms)
  here_add None k x ms e q s = absurd cc
  here_add (Some y) k x ms e q s =
      let w : y ≡ x = cc in subst (λ z. In k z (insert k y ms)) w (here k y ms s e)

  keep_add : (o : Option Value) (l : ℕ) (v : Value) (k : ℕ) (ms : Marks) → In l v ms
      → In l v (add o k ms)
  keep_add None l v k ms h = h
  keep_add (Some x) l v k ms h = keep l v k x ms h

  complete : (ls : List ℕ) (l : ℕ) (v : Value) → IsOneOf l ls → read_at (f l) ≡ Some v
      → In l v (collect ls)
  complete [] l v h e = absurd h
  complete (k ∷ ls) l v (inl q) e =
      subst (λ n. In n v (collect (k ∷ ls))) (sym q)
      (here_add (read_at (f k)) k v (collect ls) refl (ap (λ n. read_at (f n)) (sym q)
      ∙ e) (sound ls))
  complete (k ∷ ls) l v (inr h) e =
      keep_add (read_at (f k)) l v k (collect ls) (complete ls l v h e)

pub marks_there : MarksThere
marks_there p inner strict s ps t r d k =
    let few = few_run p inner strict s ps t r d k in (
      collect d.cells few.0,
      record {
        were_read = λ l v h. read_back (d.cells l) v (sound d.cells few.0 l v h);
        are_all = λ l v w e. read_among few.0 few.1 l v w e;
      },
      rises d.cells few.0,
    )
  where
    read_among : (ls : List ℕ) → Touches d ls → (l : ℕ) (v : Value) (w : Option Value)
        → d.cells l ≡ found (Some v) w → In l v (collect d.cells ls)
    read_among ls g l v w e = go (g l)
      where
        go : (d.cells l ≡ untouched) ⊎ IsOneOf l ls → In l v (collect d.cells ls)
        go (inl q) = let z : untouched ≡ found (Some v) w = sym q ∙ e in absurd cc
        go (inr h) = complete d.cells ls l v h (ap read_at e)
