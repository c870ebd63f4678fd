-- A step of a form that is the same in both machines.
use Rattle.std.proofs.Common.{◌≡◌, ℕ, ◌==◌, Bool, true, false, List, [], ◌∷◌, ◌++◌, Some, None, refl, ap, sym, ◌∙◌, subst, arith, rules, append-nil, slice_get, ◌⊎◌, inl, inr}
use Rattle.fort_base.specs.declared.ids.DeclId.{DeclId}
use Rattle.fort_base.specs.declared.ids.SetId.{SetId}
use Rattle.fort_base.specs.declared.ids.TypeId.{TypeId}
use Rattle.fort_core.specs.declared.form.Mode.TheVariants as mode
use Rattle.fort_core.specs.declared.pick.Pick.{Pick, Step, Attempt, out-Pick}
use Rattle.fort_core.specs.declared.pick.Pick.TheVariants.{outs-Step}
use Rattle.fort_core.specs.declared.program.CoreDecl.{CoreDecl}
use Rattle.fort_core.specs.declared.program.Program.{Program}
use Rattle.fort_core.specs.declared.term.Term.{Term, Call, Atomic, Asleep, out-Term}
use Rattle.fort_core.specs.declared.term.Term as term
use Rattle.fort_core.specs.declared.term.Term.TheVariants.{outs-Atomic, outs-Asleep}
use Rattle.fort_core.specs.declared.value.Value.{Value, Object, out-Value}
use Rattle.fort_core.specs.declared.value.Value.TheVariants.{outs-Object}
use Rattle.fort_machine.specs.Acts.{Act, enters, calls, single}
use Rattle.fort_machine.specs.Attempts.{fresh}
use Rattle.fort_machine.specs.Calls.{Dispatches, by_body}
use Rattle.fort_machine.specs.Effects.{Store, Effect, paid, FitsAll, afterwards}
use Rattle.fort_machine.specs.Ends as ends
use Rattle.fort_machine.specs.Forms.{act}
use Rattle.fort_machine.specs.Frames.{Frame, plug, road, passed, trodden}
use Rattle.fort_machine.specs.Journals.{MakesWithinBounds}
use Rattle.fort_machine.specs.Marked.{Marks}
use Rattle.fort_machine.specs.Parts.{IsOneOf}
use Rattle.fort_machine.specs.Runs.{path_to, location}
use Rattle.fort_machine.specs.Steps.{Acts, Does, Local, steps}
use Rattle.fort_machine.specs.Steps as machine_steps
use Rattle.fort_machine.proofs.Places.{ready_open}
use Rattle.fort_machine.proofs.Ready.{local_ready}
use Rattle.fort_threads.specs.Known.{Known, leading, known, Calls, IsBody}
use Rattle.fort_threads.specs.Known as own
use Rattle.fort_threads.specs.Moves.{Moves}
use Rattle.fort_threads.specs.Moves as moves
use Rattle.fort_threads.specs.Runs as threads
use Rattle.fort_threads.specs.Threads.{Paths, Thread, Done, only, noted_at}
use Rattle.fort_threads_law_servers.specs.Prelude.{Names, object_of, waiting}
use Rattle.fort_threads_law_servers.specs.Calls.{makes_it, calls_wait, spawning, getting, asking, mark_at}
use Rattle.fort_threads_law_servers.specs.Roots.{Start}
use Rattle.fort_threads_law_private.specs.Grounds.{Ground, Grows}
use Rattle.fort_threads_law_private.specs.Private.{IsSecretSet, Private, PrivateValue, AllPrivateValues}
use Rattle.fort_threads_law_private.specs.Fine.{Fine}
use Rattle.fort_threads_law_private.proofs.Acting.{acts_fine}
use Rattle.fort_threads_law_private.proofs.Frames.{plug_private}
use Rattle.fort_threads_law_private.proofs.Growing.{private_grows, value_grows}
use Rattle.fort_threads_law_private.proofs.Leaving.{steps_privately, finds_open}
use Rattle.fort_threads_law_private.proofs.Values.{PrivatesValue, privates_value_of, first_value_of}
use Rattle.fort_threads_law_worlds.specs.Worlds.{Spot, World, FollowsAt, ground_of, IsGiven}
use Rattle.fort_threads_law_worlds.specs.Known.{Own}
use Rattle.fort_threads_law_worlds.specs.Stores.{AreStores}
use Rattle.fort_threads_law_worlds.specs.Effects.{DoAlike, FindsOpen, opened}
use Rattle.fort_threads_law_worlds.specs.Queues.{HasQueued}
use Rattle.fort_threads_law_worlds.proofs.Following.{follows_self, follows_outside, one_in, grounds_grow, open_at, function_given}
use Rattle.fort_threads_law_worlds.proofs.Closing.{idle_alike}
use Rattle.fort_threads_law_worlds.proofs.Opening.{follows_opened, both_stay}
use Rattle.fort_threads_law_worlds.proofs.Queues.{none_queued}
use Rattle.fort_threads_law_matches.specs.Matches.{Matches, same, under_way}
use Rattle.fort_threads_law_matches.specs.Placed.{Placed}
use Rattle.fort_threads_law_matches.specs.Ways.{IsUnderWay, calls_main}
use Rattle.fort_threads_law_matches.specs.Ways as ways
use Rattle.fort_threads_law_runs.specs.Premises.{ThrowsFinely, IsThreaded}
use Rattle.fort_threads_law_runs.specs.Told.{Told}
use Rattle.fort_threads_law_runs.specs.Told as told
use Rattle.fort_threads_law_runs.proofs.Bounded.{bounded_paid}
use Rattle.fort_threads_law_runs.proofs.Finding.{finds_paid}
use Rattle.fort_threads_law_runs.proofs.Alike.{PickAlike, takes}
use Rattle.fort_threads_law_runs.proofs.Within.{private_not_own, again}

-- whether a declaration is one of some
pub decl_is : (c d : DeclId) → (c ≡ d) ⊎ (c ≡ d → ⊥)
decl_is c d = go (c.0 == d.0) refl
  where
    go : (b : Bool) → (c.0 == d.0) ≡ b → (c ≡ d) ⊎ (c ≡ d → ⊥)
    go true e = let q : c.0 ≡ d.0 = search (rules, e) in inl (ap (λ l. record { 0 = l }) q)
    go false e = inr (λ z. let q : c.0 ≡ d.0 = ap (λ (x : DeclId). x.0) z in search (rules, e))

pub is_one : (c : DeclId) (ds : List DeclId) → IsOneOf c ds ⊎ (IsOneOf c ds → ⊥)
is_one c [] = inr (λ z. z)
is_one c (d ∷ ds) = go (decl_is c d) (is_one c ds)
  where
    go : (c ≡ d) ⊎ (c ≡ d → ⊥) → IsOneOf c ds ⊎ (IsOneOf c ds → ⊥)
        → IsOneOf c (d ∷ ds) ⊎ (IsOneOf c (d ∷ ds) → ⊥)
    go (inl e) i = inl (inl e)
    go (inr n) (inl i) = inl (inr i)
    go (inr n) (inr j) = inr (λ z. neither z)
      where
        neither : IsOneOf c (d ∷ ds) → ⊥
        neither (inl e) = n e
        neither (inr i) = j i

-- an object of a thread that leads to open locations alone was given
pub object_given : (p : Program) (n : Names) (m : Start) (w : World) (l : ℕ)
    → PrivateValue p n m (ground_of w) (object_of n l) → IsGiven w l
object_given p n m w l h =
    let z = subst (PrivatesValue p n m (ground_of w)) (outs-Object n.thread (location l))
    (privates_value_of h) in
    let i = z.leads.1 refl in
    let q = function_given w l i.0 i.1 in (i.0, q.0, q.1)

-- a form that hasn't been tried watches nothing
fresh_watches : (n : Names) (l : ℕ)
    → ways.WatchesMark l (Atomic mode.Atomic (waiting n l))
fresh_watches n l marks body e =
    let z = sym (outs-Atomic mode.Atomic (waiting n l)) ∙ ap out-Term e ∙ outs-Asleep marks body in
    absurd cc

module _ (p : Program) (n : Names) (m : Start) (o : Own) (k : Known) (g : Ground)
    (h : IsThreaded p n m o k g) (w : World) (here : Spot) (standing : List Thread)
    (asked : Paths) (s t : Store) (v a : Term) (fs : List Frame)
    (q : Placed p n m o k w here asked [] v fs a) (free : passed fs a ≡ false) (inner : Bool)
    (beside : List Thread) (pick : Pick) (b : Term) (d : Effect) (loc : ℕ)
    (stores : AreStores p n m w standing s t) (grown : Grows g (ground_of w))
    (alone : q.inner ≡ []) (a_is : a ≡ q.y) (pa : Private p n m (ground_of w) a)
    (is_pick : pick ≡ Step (path_to fs) (location loc)) (one : Local p inner loc a b d)
    (f : FitsAll d s) (small : MakesWithinBounds d) (fine : ThrowsFinely n m o (plug
    (trodden fs) b)) where
  abbrev pub Alike : Type 0
  Alike = PickAlike p n m o k inner w here beside standing asked s t pick v (plug (trodden fs) b) d

  py : Private p n m (ground_of w) q.y
  py = subst (Private p n m (ground_of w)) a_is pa

  local : Local p inner loc q.y b d
  local = subst (λ y. Local p inner loc y b d) a_is one

  y_open : ends.standing q.y ≡ ends.open_yet
  y_open = ready_open q.y (local_ready p inner loc q.y b d local)

  not_own : own.Own p k q.y → ⊥
  not_own i = private_not_own p n m o k (ground_of w) q.y h.same (λ z. py) i

  way : path_to q.round ≡ path_to fs
  way =
      ap (λ r. record { 0 = r })
      (q.same_road ∙ sym (ap road (append-nil q.outer))
      ∙ sym (ap (λ i. road (q.outer ++ i)) alone) ∙ sym (ap road q.are_all))

  next_private : {spot : Spot} (x : World) (c : Term) → FollowsAt spot w x
      → Private p n m (ground_of w) v → Private p n m (ground_of x) c
      → Private p n m (ground_of x) (plug (trodden q.round) c)
  next_private x c fol pv pc =
      (plug_private q.round q.y y_open
      (subst (Private p n m (ground_of x)) q.is_term (private_grows pv (grounds_grow fol)))).1 c pc

  take : (x : World) (c : Term) (done : Done) → FollowsAt (road q.outer ∷ here) w x
      → Moves p k inner standing loc q.y c done → FitsAll done.effect t
      → Matches p n m o x here asked (road q.outer) b c → DoAlike w x d done.effect
      → AreStores p n m x (standing ++ done.added) (afterwards d s) (afterwards done.effect t)
      → HasQueued w x done.added → MakesWithinBounds done.effect
      → (Private p n m (ground_of w) v → done.came ≡ false
      → Private p n m (ground_of x) (plug (trodden q.round) c) × FindsOpen m w d) → Alike
  take x c done fol move fits mat alike st queued bounded stays =
      takes x pick (plug (trodden q.round) c) done asked
      (follows_outside fol (one_in (road q.outer) here))
      (sym (ap (λ y. noted_at y done.came asked)
      (ap out-Pick is_pick ∙ outs-Step (path_to fs) (location loc))))
      (λ picks others i. subst (λ z. Told (z ∷ picks) (z ∷ others)) (sym is_pick)
      (told.step (path_to fs) (location loc) i))
      (λ rest r done2 i. threads.Runs.step q.round
      (ap (λ z. z ∷ rest) (is_pick ∙ ap (λ z. Step z (location loc)) (sym way))) q.is_term
      (q.reached free) q.outside move fits i refl)
      (again p n m o k g h w here standing asked s t v a fs q free x asked b c fol (λ r y i. i)
      (subst (λ y. Matches p n m o x here asked (road q.outer) y c)
      (sym (ap (λ i. plug (trodden i) b) alone)) mat) fine)
      alike st queued bounded stays

  -- where nothing is known of what it calls
  as_ever : ((c : DeclId) (values : List Value) → IsOneOf c (known k) → Calls p q.y c values → ⊥)
      → Alike
  as_ever none =
      let st = steps_privately p n m k g (ground_of w) h.written h.apart grown inner loc s q.y b d
      py stores.private_store none local f in
      let z = both_stay stores f st in
      let fol = follows_opened (road q.outer ∷ here) z.opens in
      take (opened w d) b (only d) fol (moves.as_ever d not_own none local refl) z.fits
      (same refl z.term) z.alike
      (subst (λ us. AreStores p n m (opened w d) us (afterwards d s) (afterwards d t))
      (sym (append-nil standing)) z.stores)
      (none_queued w (opened w d) refl refl refl) small
      (λ pv c. (
        next_private (opened w d) b fol pv z.term,
        λ l r u e. inl (open_at w l (finds_open st l r u e)),
      ))

  module _ (set : SetId) (values : List Value) (c : DeclId) (decl : CoreDecl)
      (is_call : act p q.y ≡ calls set values) (dispatches : Dispatches p set values c decl)
      (does : Does p inner loc (by_body p decl.body values) b d) where
    called : Calls p q.y c values
    called = record { set = set; declared = decl; is_call = is_call; dispatches = dispatches }

    privates : AllPrivateValues p n m (ground_of w) values
    privates =
        (subst (Fine p n m (ground_of w)) is_call
        (acts_fine p n m (ground_of w)
        (λ id x e. value_grows (h.apart.singles id x e) grown) q.y py)).1

    enters_to : (text next : Term) → by_body p decl.body values ≡ enters text next
        → (loc ≡ 0) × (b ≡ next) × (d ≡ paid 1)
    enters_to text next e =
        let z : Does p inner loc (enters text next) b d = subst
        (λ x. Does p inner loc x b d) e does in
        (z.1, z.2, z.3)

    body_to : (c' : DeclId) (vs : List Value) (form : Term) → c ≡ c' → values ≡ vs
        → IsBody p c' vs form → (loc ≡ 0) × (b ≡ form) × (d ≡ paid 1)
    body_to c' vs form ec ev i =
        let z : Some decl ≡ Some i.declared =
        sym dispatches.most_specific.applicable.is_decl
        ∙ ap (λ (x : DeclId). slice_get p.decls x.0) ec ∙ i.is_declared in
        let y : decl ≡ i.declared = cc in
        enters_to i.text form
        ((λ j. by_body p (y j).body (ev j)) ∙ i.is_body)

    fits_paid : d ≡ paid 1 → FitsAll d t
    fits_paid e = subst (λ z. FitsAll z t) (sym e) (λ l. tt)

    alike_paid : (x : Effect) → d ≡ paid 1 → x ≡ paid 1 → DoAlike w w d x
    alike_paid x e y =
        subst (λ z. DoAlike w w z x) (sym e)
        (subst (λ z. DoAlike w w (paid 1) z) (sym y)
        (record {
          same = λ l i. refl;
          newly_made = (idle_alike w).newly_made;
          nothing_else = λ l i. inl refl;
          lasting = λ l z. refl;
          output = refl;
          unended = λ l f z. (z, refl);
        }))

    stores_paid : (x : Effect) → d ≡ paid 1 → x ≡ paid 1
        → AreStores p n m w (standing ++ []) (afterwards d s) (afterwards x t)
    stores_paid x e y =
        subst (λ us. AreStores p n m w us (afterwards d s) (afterwards x t))
        (sym (append-nil standing))
        (subst (λ z. AreStores p n m w standing (afterwards z s) (afterwards x t)) (sym e)
        (subst (λ z. AreStores p n m w standing s (afterwards z t)) (sym y) stores))

    comes_to : (form : Term) → IsOneOf c (leading k) → b ≡ form → d ≡ paid 1
        → IsUnderWay p n m o w (road q.outer ∷ here) form form → Alike
    comes_to form lead eb ed i =
        take w b (record { effect = d; added = []; came = true })
        (follows_self (road q.outer ∷ here) w)
        (moves.comes d c values not_own lead called local refl) (fits_paid ed)
        (under_way (subst (λ z. IsUnderWay p n m o w (road q.outer ∷ here) z z) (sym eb) i))
        (alike_paid d ed ed) (stores_paid d ed ed) (none_queued w w refl refl refl) small
        (λ pv z. absurd cc)

    dispatch_to : (c' : DeclId) → c ≡ c' → Dispatches p set values c' decl
    dispatch_to c' e = subst (λ x. Dispatches p set values x decl) e dispatches

    first_private : (x : Value) → values ≡ x ∷ [] → PrivateValue p n m (ground_of w) x
    first_private x e = first_value_of (subst (AllPrivateValues p n m (ground_of w)) e privates)

    spawns : c ≡ k.spawn → Alike
    spawns e =
        let z = h.same.spawns_one set values decl (dispatch_to k.spawn e) in
        let y = body_to k.spawn (z.0 ∷ []) _ e z.1 (h.same.spawns z.0) in
        comes_to (spawning n (Call n.make (term.Value z.0 ∷ []))) (inl e) y.1 y.2
        (ways.spawns z.0 (makes_it z.0) (refl, first_private z.0 z.1) refl refl)

    waits : c ≡ k.wait → Alike
    waits e =
        let z = h.same.waits_for_one set values decl (dispatch_to k.wait e) in
        let y = body_to k.wait (object_of n z.0 ∷ []) _ e z.1 (h.same.waits z.0) in
        comes_to (Atomic mode.Atomic (waiting n z.0)) (inr (inl e)) y.1 y.2
        (ways.waits z.0 (object_given p n m w z.0 (first_private (object_of n z.0) z.1))
        (fresh refl) (fresh_watches n z.0) refl)

    gets : c ≡ k.val → Alike
    gets e =
        let z = h.same.gets_one set values decl (dispatch_to k.val e) in
        let y = body_to k.val (object_of n z.0 ∷ []) _ e z.1 (h.same.gets z.0) in
        comes_to (getting n z.0 (Call n.wait (term.Value (object_of n z.0) ∷ [])))
        (inr (inr (inl e))) y.1 y.2
        (ways.gets z.0 (calls_wait z.0)
        (object_given p n m w z.0 (first_private (object_of n z.0) z.1)) refl refl refl)

    asks : c ≡ k.ready → Alike
    asks e =
        let z = h.same.asks_one set values decl (dispatch_to k.ready e) in
        let y = body_to k.ready (object_of n z.0 ∷ []) _ e z.1 (h.same.asks z.0) in
        comes_to (asking n (mark_at n z.0)) (inr (inr (inr (inl e)))) y.1 y.2
        (ways.asks z.0 (object_given p n m w z.0 (first_private (object_of n z.0) z.1)) refl refl)

    starts : c ≡ k.run → Alike
    starts e =
        let z = h.same.runs_main set values decl (dispatch_to k.run e) in
        let y = enters_to z.1.0 (Call m.main (term.Value m.own ∷ []))
        (ap (by_body p decl.body) z.0 ∙ z.1.1) in
        let po = private_grows h.own grown in
        let does_own : Does p inner loc (enters o.text o.body) o.body (paid 1) =
        (h.same.bare, y.0, refl, refl) in
        take w o.body (only (paid 1)) (follows_self (road q.outer ∷ here) w)
        (moves.starts (paid 1) h.same.own_declared not_own
        (subst (λ x. Calls p q.y x []) e (subst (Calls p q.y c) z.0 called)) h.same.is_own
        (subst (λ x. Does p inner loc x o.body (paid 1)) (sym h.same.own_body) does_own) refl)
        (λ l. tt)
        (under_way (ways.starts calls_main y.1 refl po h.own_open))
        (alike_paid (paid 1) y.2 refl) (stores_paid (paid 1) y.2 refl)
        (none_queued w w refl refl refl) (bounded_paid 1)
        (λ pv i. (next_private w o.body (follows_self here w) pv po, finds_paid m w d 1 y.2))

    by_known : IsOneOf c (known k) → Alike
    by_known (inl e) = starts e
    by_known (inr (inl e)) = spawns e
    by_known (inr (inr (inl e))) = waits e
    by_known (inr (inr (inr (inl e)))) = gets e
    by_known (inr (inr (inr (inr (inl e))))) = asks e
    by_known (inr (inr (inr (inr (inr e))))) = absurd e

    not_known : (IsOneOf c (known k) → ⊥) → (c' : DeclId) (vs : List Value)
        → IsOneOf c' (known k) → Calls p q.y c' vs → ⊥
    not_known none c' vs i j =
        let z : calls j.set vs ≡ calls set values = sym j.is_call ∙ is_call in
        let e1 : j.set ≡ set = cc in
        let e2 : vs ≡ values = cc in
        let y : Dispatches p set values c' j.declared =
        subst (λ x. Dispatches p x values c' j.declared) e1
        (subst (λ x. Dispatches p j.set x c' j.declared) e2 j.dispatches) in
        none (subst (λ x. IsOneOf x (known k))
        (dispatches.no_other c' j.declared y.most_specific) i)

    by_called : IsOneOf c (known k) ⊎ (IsOneOf c (known k) → ⊥) → Alike
    by_called (inl i) = by_known i
    by_called (inr i) = as_ever (not_known i)

  by_act : (x : Act) → Acts p q.y x → Does p inner loc x b d → Alike
  by_act x (machine_steps.by_itself e) does =
      as_ever (λ c vs i j. subst (λ z. Does p inner loc z b d) (sym e ∙ j.is_call) does)
  by_act x (machine_steps.by_call {set = set} {values = values} {d = c} {decl = decl} e dispatches
      is) does =
      by_called set values c decl e dispatches (subst (λ z. Does p inner loc z b d) (sym is) does)
      (is_one c (known k))

  by_local : Local p inner loc q.y b d → Alike
  by_local (steps x acts does) = by_act x acts does

  pub step_alike : Alike
  step_alike = by_local local
