-- A pick of the root's term, and whole runs.
use Rattle.std.proofs.Common.{◌≡◌, ℕ, Bool, true, false, List, [], ◌∷◌, Some, refl, ap, sym, ◌∙◌, subst, ◌⊎◌, inl, inr, pos}
use Rattle.fort_base.specs.declared.ids.SetId.{SetId}
use Rattle.fort_base.specs.declared.ty.Ty.{Ty}
use Rattle.fort_base.specs.declared.ty.Ty.TheVariants.{Any, Named}
use Rattle.fort_core.specs.declared.form.Order.{Order}
use Rattle.fort_core.specs.declared.form.Order.TheVariants as order
use Rattle.fort_core.specs.declared.form.Slot.TheVariants as slot
use Rattle.fort_core.specs.declared.form.Span.{Span}
use Rattle.fort_core.specs.declared.form.Span.TheVariants as span
use Rattle.fort_core.specs.declared.pick.Pick.{Pick}
use Rattle.fort_core.specs.declared.program.Program.{Program}
use Rattle.fort_core.specs.declared.term.Term.{Term, Call, Operator, Apply, Let, Write, Then, If, For, Also, out-Term}
use Rattle.fort_core.specs.declared.term.Term as term
use Rattle.fort_core.specs.declared.term.Term.TheVariants.{Variable, Read, outs-Call, outs-Let, outs-Read, outs-Write, outs-Then, outs-If, outs-Also, outs-For, rolls-Let, rolls-For, rolls-Also}
use Rattle.fort_core.specs.declared.term.Term.TheOpen.{Term-F}
use Rattle.fort_core.specs.declared.value.Closure.{Closure}
use Rattle.fort_core.specs.declared.value.Value.{Value, Small, Truth}
use Rattle.fort_core.specs.declared.value.Value.TheVariants.{outs-Truth}
use Rattle.fort_machine.specs.Acts.{asks as asks_at, sets, makes, becomes, unit}
use Rattle.fort_machine.specs.Attempts.{goes}
use Rattle.fort_machine.specs.Effects.{Store, Effect, reading, FitsAll, afterwards}
use Rattle.fort_machine.specs.Ends.{open_yet, standing_at, standing, throw_of, Finished, stepped}
use Rattle.fort_machine.specs.Ends as ends
use Rattle.fort_machine.specs.Forms.{act_at, act, choosing as chosen_by}
use Rattle.fort_machine.specs.Frames.{in_then, in_let, in_test, plug}
use Rattle.fort_machine.specs.Journals.{opening_store}
use Rattle.fort_machine.specs.RunLaws.{PickByPick, no_more, next as then_more, stopped, all_of}
use Rattle.fort_machine.specs.Runs.{Runs, location}
use Rattle.fort_machine.specs.Steps.{Does}
use Rattle.fort_machine.specs.Substitution.{substituted, with_value}
use Rattle.fort_machine.proofs.Less.{substituted_out, substituted_value, values_by, closures_by}
use Rattle.fort_machine.proofs.Picks.{picks_add_up}
use Rattle.fort_machine.proofs.Single.{reads_what_is_there}
use Rattle.fort_machine.proofs.Standing.{decide}
use Rattle.fort_machine.proofs.Substituted.{pairs}
use Rattle.fort_threads.specs.Moves.{opening_fields}
use Rattle.fort_threads_law_servers.specs.Prelude.{Names, object_of, number, HasPrelude}
use Rattle.fort_threads_law_servers.specs.Stages.{Stage, sent, term_at}
use Rattle.fort_threads_law_servers.specs.Servers.{Serves}
use Rattle.fort_threads_law_servers.specs.Servers as servers
use Rattle.fort_threads_law_servers.specs.Trees.{Tree, unread, with_step, tree_term}
use Rattle.fort_threads_law_servers.specs.Roots.{Start, ending, last, blocks, making_first, opening, starting, testing, Starts, Root, first_call, main_call, tests, told, sets_started, has_started, sets_open, has_open, makes_first, made_first, all, all_over, asks, ended, root_term, Served, Leads, Course, rests, goes_on, EachRunIsServed}
use Rattle.fort_threads_law_servers.proofs.Turns.{pick_at, run_of, pick_sole, pick_inside, ready_by, ready_call, stepped_at, does, called_with, moves_to, writes_to, calls_to}
use Rattle.fort_threads_law_servers.proofs.Put.{put_then, put_call, put_calls, put_operator, put_1}
use Rattle.fort_threads_law_servers.proofs.Server.{after_value, calls_none, calls_one, then_value, then_throw, let_value, let_throw, row_done, each_pick_follows}
use Rattle.fort_threads_law_servers.proofs.Parts.{OfTwo, closes, of_first, of_second, over_finished, both_blocks, of_blocks}
use Rattle.fort_threads_law_servers.proofs.Grown.{stage_unmarked, tree_unmarked, further, tree_pick}

-- ---- the first object in the place of its variable

module _ (x : ℕ) (v : Value) where
  abbrev put_in : Term-F Term Value Closure → Term
  put_in y = with_value x v (pairs (substituted x v) (values_by x v) (closures_by x v) y)

  put_also : (a b : Term)
      → substituted x v (Also (a ∷ b ∷ [])) ≡ Also (substituted x v a ∷ substituted x v b ∷ [])
  put_also a b =
      substituted_out x v (Also (a ∷ b ∷ [])) ∙ ap put_in (outs-Also (a ∷ b ∷ []))
      ∙ rolls-Also (substituted x v a ∷ substituted x v b ∷ [])

  put_let : (ys : List (ℕ × Ty)) (a b : Term)
      → substituted x v (Let ys a b) ≡ Let ys (substituted x v a) (substituted x v b)
  put_let ys a b =
      substituted_out x v (Let ys a b) ∙ ap put_in (outs-Let ys a b)
      ∙ rolls-Let ys (substituted x v a) (substituted x v b)

  put_for : (o : Order) (items : Span) (y : ℕ) (a b : Term)
      → substituted x v (For o items y a b)
      ≡ For o items y (substituted x v a) (substituted x v b)
  put_for o items y a b =
      substituted_out x v (For o items y a b) ∙ ap put_in (outs-For o items y a b)
      ∙ rolls-For o items y (substituted x v a) (substituted x v b)

put_object : (set : SetId) (v : Value)
    → substituted 1 v (Call set (Variable 1 ∷ [])) ≡ Call set (term.Value v ∷ [])
put_object set v = put_call 1 v set (Variable 1) ∙ ap (λ x. Call set (x ∷ [])) (put_1 v)

put_loop : (n : Names) (v : Value) → substituted 1 v (tree_term n unread) ≡ tree_term n unread
put_loop n v =
    put_for 1 v order.Parallel span.Whole 2 (Operator n.hash (number 0 ∷ number 64 ∷ []))
    (Call n.serve [])
    ∙ (λ i. For order.Parallel span.Whole 2
    ((put_operator 1 v n.hash (number 0) (number 64)
    ∙ (λ j. Operator n.hash
    (substituted_value 1 v (Small (pos 0)) j ∷ substituted_value 1 v (Small (pos 64)) j ∷ []))) i)
    (put_calls 1 v n.serve i))

put_last : (n : Names) (v : Value)
    → substituted 1 v (last n (Variable 1)) ≡ last n (term.Value v)
put_last n v =
    put_let 1 v ((3, Any) ∷ []) (Call n.val (Variable 1 ∷ [])) (term.Value unit)
    ∙ (λ i. Let ((3, Any) ∷ []) (put_object n.val v i) (substituted_value 1 v unit i))

put_blocks : (n : Names) (v : Value)
    → substituted 1 v (blocks n (Variable 1)) ≡ blocks n (term.Value v)
put_blocks n v =
    put_then 1 v (Also (Call n.go (Variable 1 ∷ []) ∷ tree_term n unread ∷ []))
    (last n (Variable 1))
    ∙ (λ i. Then
    ((put_also 1 v (Call n.go (Variable 1 ∷ [])) (tree_term n unread)
    ∙ (λ j. Also (put_object n.go v j ∷ put_loop n v j ∷ []))) i)
    (put_last n v i))

-- ---- what the forms do

read_top : (p : Program) (l : ℕ)
    → act p (Read (slot.Location (location l))) ≡ asks_at l (λ v. term.Value v)
read_top p l = ap (act_at p) (outs-Read (slot.Location (location l)))

write_top : (p : Program) (l : ℕ) (v : Value)
    → act p (Write (slot.Location (location l)) (term.Value v)) ≡ sets l v
write_top p l v =
    ap (act_at p) (outs-Write (slot.Location (location l)) (term.Value v)) ∙ after_value v _

if_false : (p : Program) (a b : Term) → act p (If (term.Value (Truth false)) a b) ≡ becomes b
if_false p a b =
    ap (act_at p) (outs-If (term.Value (Truth false)) a b) ∙ after_value (Truth false) _
    ∙ ap (λ x. chosen_by x a b) (outs-Truth false)

-- one pick, where the rule on sleeping forms is left aside
pub loosened : {p : Program} {s : Store} {pick : Pick} {t u : Term} {d : Effect}
    → Runs p false true s (pick ∷ []) t (goes u) d → Runs p false false s (pick ∷ []) t (goes u) d
loosened {p = p} {s = s} {pick = pick} {t = t} {u = u} {d = d} k =
    let i = pick_at k in
    subst (λ x. Runs p false false s (pick ∷ []) x (goes u) d) (sym i.is_term)
    (subst (λ x. Runs p false false s (pick ∷ []) (plug i.frames i.part) (goes x) d)
    (sym i.becomes) (run_of i.frames i.reached i.taken))

-- until it is told, nothing has started
abbrev pub Early : Start → Store → Root → Type 0
Early m s first_call = s m.started ≡ Some (Truth false)
Early m s main_call = s m.started ≡ Some (Truth false)
Early m s tests = s m.started ≡ Some (Truth false)
Early m s _ = Unit {0}

module _ (p : Program) (n : Names) (m : Start) (has : HasPrelude p n) (starts : Starts p n m)
    (s : Store) (pick : Pick) where
  abbrev Led : Root → Term → Effect → Type 0
  Led root u d =
      (next : Root) × Served p n next × (u ≡ root_term n m next) × Leads p n m s pick d root next

  abbrev Pick_of : Term → Term → Effect → Type 0
  Pick_of t u d = Runs p false false s (pick ∷ []) t (goes u) d

  abbrev own_run : Term
  own_run = Apply (term.Value m.own) (term.Value unit)

  from_first : (u : Term) (d : Effect) → Pick_of (root_term n m first_call) u d
      → Led first_call u d
  from_first u d k =
      let i = calls_to [] (Call m.run []) (Term-F.Call m.run []) tt (outs-Call m.run []) refl
      m.run [] (Call m.main (term.Value m.own ∷ [])) (calls_none p m.run) starts.runs_main k in
      (main_call, tt, i.0, i.1)

  from_main : (u : Term) (d : Effect) → Pick_of (root_term n m main_call) u d
      → Led main_call u d
  from_main u d k =
      let i = calls_to [] (Call m.main (term.Value m.own ∷ []))
      (Term-F.Call m.main (term.Value m.own ∷ [])) tt (outs-Call m.main _) refl m.main
      (m.own ∷ []) (testing n m (Read (slot.Location (location m.started))))
      (calls_one p m.main m.own) starts.is_main k in
      (tests, tt, i.0, i.1)

  from_tests : (u : Term) (d : Effect) → s m.started ≡ Some (Truth false)
      → Pick_of (root_term n m tests) u d → Led tests u d
  from_tests u d h k =
      let r : Term = Read (slot.Location (location m.started)) in
      let q = read_top p m.started in
      let i = pick_sole (in_test own_run (starting n m) ∷ []) r (tt, tt) (ready_by p r _ q tt) k in
      let j = stepped_at (Term-F.Read (slot.Location (location m.started))) (outs-Read _) refl i.2
      in
      let w : Does p false j.0 (asks_at m.started (λ v. term.Value v)) i.0 d =
      does p false j.0 r i.0 d (asks_at m.started (λ v. term.Value v)) q tt j.1 in
      let z : s m.started ≡ Some w.0 =
      reads_what_is_there m.started w.0 s (subst (λ x. FitsAll x s) w.3 j.2) in
      let same = some_same w.0 (Truth false) (sym z ∙ h) in (
        told,
        tt,
        i.1 ∙ ap (testing n m) (w.2 ∙ ap term.Value same),
        w.3 ∙ ap (reading m.started) same,
      )
    where
      some_same : (x y : Value) → Some x ≡ Some y → x ≡ y
      some_same x y e = cc

  from_told : (u : Term) (d : Effect) → Pick_of (root_term n m told) u d → Led told u d
  from_told u d k =
      let i = moves_to [] (testing n m (term.Value (Truth false)))
      (Term-F.If (term.Value (Truth false)) own_run (starting n m)) tt (outs-If _ _ _) refl
      (starting n m) (if_false p own_run (starting n m)) k in
      (sets_started, tt, i.0, i.1)

  from_sets_started : (u : Term) (d : Effect) → Pick_of (root_term n m sets_started) u d
      → Led sets_started u d
  from_sets_started u d k =
      let i = writes_to (in_then (opening n m) ∷ [])
      (Write (slot.Location (location m.started)) (term.Value (Truth true)))
      (Term-F.Write (slot.Location (location m.started)) (term.Value (Truth true))) (tt, tt)
      (outs-Write _ _) refl m.started (Truth true) (write_top p m.started (Truth true)) k in
      (has_started, tt, i.0, i.1)

  from_has_started : (u : Term) (d : Effect) → Pick_of (root_term n m has_started) u d
      → Led has_started u d
  from_has_started u d k =
      let i = moves_to [] (Then (term.Value unit) (opening n m))
      (Term-F.Then (term.Value unit) (opening n m)) tt (outs-Then _ _) refl (opening n m)
      (then_value p unit (opening n m)) k in
      (sets_open, tt, i.0, i.1)

  abbrev first_made : Term
  first_made = making_first n (Call n.make (term.Value m.own ∷ []))

  from_sets_open : (u : Term) (d : Effect) → Pick_of (root_term n m sets_open) u d
      → Led sets_open u d
  from_sets_open u d k =
      let i = writes_to (in_then first_made ∷ [])
      (Write (slot.Location (location n.unended)) (number 1))
      (Term-F.Write (slot.Location (location n.unended)) (number 1)) (tt, tt)
      (outs-Write _ _) refl n.unended (Small (pos 1)) (write_top p n.unended (Small (pos 1))) k in
      (has_open, tt, i.0, i.1)

  from_has_open : (u : Term) (d : Effect) → Pick_of (root_term n m has_open) u d
      → Led has_open u d
  from_has_open u d k =
      let i = moves_to [] (Then (term.Value unit) first_made)
      (Term-F.Then (term.Value unit) first_made) tt (outs-Then _ _) refl first_made
      (then_value p unit first_made) k in
      (makes_first, tt, i.0, i.1)

  from_makes : (u : Term) (d : Effect) → Pick_of (root_term n m makes_first) u d
      → Led makes_first u d
  from_makes u d k =
      let c : Term = Call n.make (term.Value m.own ∷ []) in
      let q = calls_one p n.make m.own in
      let i = pick_sole (in_let ((1, Named n.thread) ∷ []) (blocks n (Variable 1)) ∷ []) c
      (tt, tt) (ready_call p c n.make _ q) k in
      let j = stepped_at (Term-F.Call n.make (term.Value m.own ∷ [])) (outs-Call _ _) refl i.2 in
      let a = called_with p false j.0 c i.0 d n.make _ q j.1 in
      let w : Does p false j.0 (makes (opening_fields m.own) (λ l. term.Value (object_of n l)) 1) i.0 d =
      subst (λ x. Does p false j.0 x i.0 d)
      (has.makes_threads m.own a.declaration a.declared a.dispatches) a.does in
      (made_first j.0, tt, i.1 ∙ ap (making_first n) w.0, w.1)

  from_made : (l : ℕ) (u : Term) (d : Effect) → Pick_of (root_term n m (made_first l)) u d
      → Led (made_first l) u d
  from_made l u d k =
      let o = object_of n l in
      let i = moves_to [] (making_first n (term.Value o))
      (Term-F.Let ((1, Named n.thread) ∷ []) (term.Value o) (blocks n (Variable 1))) tt
      (outs-Let _ _ _) refl (blocks n (term.Value o))
      (let_value p 1 (Named n.thread) o (blocks n (Variable 1))
      ∙ ap becomes (put_blocks n o)) k in (
        all l false (sent l) false unread,
        (tt, servers.Serves.rests refl, tt),
        i.0,
        (refl, refl, refl, refl, refl, i.1),
      )

  from_all : (l : ℕ) (a : Bool) (stage : Stage) (b : Bool) (tree : Tree) (u : Term) (d : Effect)
      → Served p n (all l a stage b tree) → Pick_of (root_term n m (all l a stage b tree)) u d
      → Led (all l a stage b tree) u d
  from_all l a stage b tree u d h k =
      let x = term_at n stage in
      let y = tree_term n tree in
      let i = pick_inside (in_then rest ∷ []) (both_blocks (with_step a x) (with_step b y)) (tt, tt)
      (ap standing_at (outs-Also _)) k in
      go i.0 i.1
      (of_blocks x y a b (stage_unmarked n stage h.0) (tree_unmarked p n tree h.2) i.2)
    where
      rest : Term
      rest = last n (term.Value (object_of n l))

      go : (v : Term) → u ≡ Then v rest
          → OfTwo p s pick both_blocks (term_at n stage) (tree_term n tree) a b v d
          → Led (all l a stage b tree) u d
      go v e (closes f q) = (all_over l v, over_finished _ _ v f, e, (refl, f, q))
      go v e (of_first q z c r w) =
          let j = each_pick_follows p n has s q stage z d h.0 r in (
            all l true j.0 b tree,
            (j.1, further j.0 s q d h.1 j.3, h.2),
            e ∙ ap (λ t. Then t rest)
                (w ∙ ap (λ t. both_blocks (stepped t) (with_step b (tree_term n tree))) j.2),
            (refl, inl (q, c, j.3, refl, refl, refl)),
          )
      go v e (of_second q z c r w) =
          let j = tree_pick p n has s tree q z d h.2 r in (
            all l a stage true j.0,
            (h.0, h.1, j.1),
            e ∙ ap (λ t. Then t rest)
                (w ∙ ap (λ t. both_blocks (with_step a (term_at n stage)) (stepped t)) j.2),
            (refl, inr (q, c, j.3, refl, refl, refl)),
          )

  from_over : (l : ℕ) (t u : Term) (d : Effect) → Finished t
      → Pick_of (root_term n m (all_over l t)) u d → Led (all_over l t) u d
  from_over l t u d h k = go h
    where
      rest : Term
      rest = last n (term.Value (object_of n l))

      go : Finished t → Led (all_over l t) u d
      go (ends.Finished.value v e) =
          let i = moves_to [] (Then (term.Value v) rest) (Term-F.Then (term.Value v) rest) tt
          (outs-Then _ _) refl rest (then_value p v rest)
          (subst (λ x. Pick_of (Then x rest) u d) e k) in
          (asks (Call n.val (term.Value (object_of n l) ∷ [])), tt, i.0, (refl, i.1))
      go (ends.Finished.throw v e) =
          let i = moves_to [] (Then (throw_of v) rest) (Term-F.Then (throw_of v) rest) tt
          (outs-Then _ _) refl (throw_of v) (then_throw p v rest)
          (subst (λ x. Pick_of (Then x rest) u d) e k) in
          (ended (throw_of v), ends.Finished.throw v refl, i.0, (sym e, (v, e), i.1))

  from_asks : (t u : Term) (d : Effect) → Pick_of (root_term n m (asks t)) u d → Led (asks t) u d
  from_asks t u d k = go (decide t)
    where
      go : (standing t ≡ open_yet) ⊎ Finished t → Led (asks t) u d
      go (inl o) =
          let i = pick_inside (in_let ((3, Any) ∷ []) (term.Value unit) ∷ []) t (tt, tt) o k in
          (asks i.0, tt, i.1, i.2)
      go (inr (ends.Finished.value v e)) =
          let i = moves_to [] (ending (term.Value v))
          (Term-F.Let ((3, Any) ∷ []) (term.Value v) (term.Value unit)) tt (outs-Let _ _ _) refl
          (term.Value unit)
          (let_value p 3 Any v (term.Value unit) ∙ ap becomes (substituted_value 3 v unit))
          (subst (λ x. Pick_of (ending x) u d) e k) in (
            ended (term.Value unit),
            ends.Finished.value unit refl,
            i.0,
            (inl (v, e, refl), i.1),
          )
      go (inr (ends.Finished.throw v e)) =
          let i = moves_to [] (ending (throw_of v))
          (Term-F.Let ((3, Any) ∷ []) (throw_of v) (term.Value unit)) tt (outs-Let _ _ _) refl
          (throw_of v) (let_throw p 3 Any v (term.Value unit))
          (subst (λ x. Pick_of (ending x) u d) e k) in
          (ended (throw_of v), ends.Finished.throw v refl, i.0, (inr (v, e, refl), i.1))

  pub root_pick : (root : Root) (u : Term) (d : Effect) → Served p n root → Early m s root
      → Pick_of (root_term n m root) u d → Led root u d
  root_pick first_call u d h e k = from_first u d k
  root_pick main_call u d h e k = from_main u d k
  root_pick tests u d h e k = from_tests u d e k
  root_pick told u d h e k = from_told u d k
  root_pick sets_started u d h e k = from_sets_started u d k
  root_pick has_started u d h e k = from_has_started u d k
  root_pick sets_open u d h e k = from_sets_open u d k
  root_pick has_open u d h e k = from_has_open u d k
  root_pick makes_first u d h e k = from_makes u d k
  root_pick (made_first l) u d h e k = from_made l u d k
  root_pick (all l a stage b tree) u d h e k = from_all l a stage b tree u d h k
  root_pick (all_over l t) u d h e k = from_over l t u d h k
  root_pick (asks t) u d h e k = from_asks t u d k
  root_pick (ended t) u d h e k = absurd (row_done p n has s pick t u d h k)

  pub early_next : (d : Effect) (root next : Root) → Early m s root
      → Leads p n m s pick d root next → Early m (afterwards d s) next
  early_next d first_call main_call h q = ap (λ (e : Effect). afterwards e s m.started) q ∙ h
  early_next d main_call tests h q = ap (λ (e : Effect). afterwards e s m.started) q ∙ h
  early_next d _ first_call h q = absurd q
  early_next d _ main_call h q = absurd q
  early_next d _ tests h q = absurd q
  early_next d _ _ h q = tt

-- ---- whole runs

module _ (p : Program) (n : Names) (m : Start) (has : HasPrelude p n) (starts : Starts p n m) where
  abbrev Comes : Store → List Pick → Root → Term → Effect → Type 0
  Comes s picks root u d =
      (to : Root) × (u ≡ root_term n m to) × Served p n to × Course p n m s picks root to d

  course : {s : Store} {picks : List Pick} {t u : Term} {effects : List Effect}
      → PickByPick p false true s picks t (goes u) effects
      → (root : Root) → t ≡ root_term n m root → Served p n root → Early m s root
      → Comes s picks root u (all_of effects)
  course {t = t} {u = u} (no_more a b c) root e h y =
      (root, same_term u t b ∙ e, h, rests a refl (ap all_of c))
    where
      same_term : (x z : Term) → goes x ≡ goes z → x ≡ z
      same_term x z q = cc
  course {s = s} (then_more {u = v} {others = others} pick d a k more c) root e h y =
      let k2 = subst (λ x. Runs p false false s (pick ∷ []) x (goes v) d) e (loosened k) in
      let i = root_pick p n m has starts s pick root v d h y k2 in
      let j = course more i.0 i.2 i.1 (early_next p n m has starts s pick d root i.0 y i.3) in
      (j.0, j.1, j.2, goes_on i.0 pick d (all_of others) a i.3 j.3 (ap all_of c))
  course (stopped pick d a k b c) root e h y = absurd cc

pub each_run_is_served : EachRunIsServed
each_run_is_served p n m has starts picks t d run =
    let i = picks_add_up p false true (opening_store p) picks p.first (goes t) d run.runs in
    let j = course p n m has starts i.1 first_call starts.is_first tt starts.not_started in
    (j.0, j.1, j.2, subst (λ x. Course p n m (opening_store p) picks first_call j.0 x) (sym i.2) j.3)
