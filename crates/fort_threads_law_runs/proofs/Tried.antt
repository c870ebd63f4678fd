-- An attempt of a form, in both machines.
use Rattle.std.proofs.Common.{◌≡◌, ℕ, Bool, true, false, not, List, [], ◌∷◌, ◌++◌, filter, bytes_eq, if◌then◌else◌, Some, refl, ap, sym, ◌∙◌, subst, append-nil, ◌⊎◌, inl, inr}
use Rattle.std.proofs.lemmas.Slice.Eq.{bytes_eq-Decides}
use Rattle.fort_core.specs.declared.form.Mode.{Mode}
use Rattle.fort_core.specs.declared.form.Mode.TheVariants as mode
use Rattle.fort_core.specs.declared.pick.Pick.{Pick, Attempt, out-Pick}
use Rattle.fort_core.specs.declared.pick.Pick.TheVariants.{outs-Attempt}
use Rattle.fort_core.specs.declared.program.Program.{Program}
use Rattle.fort_core.specs.declared.term.Term.{Term, Asleep, out-Term}
use Rattle.fort_core.specs.declared.term.Term.TheVariants.{outs-Atomic, outs-Asleep}
use Rattle.fort_core.specs.declared.value.Value.{Value, Truth}
use Rattle.fort_machine.specs.Attempts.{Form, fresh, slept, Sleeps, Ended, Closes}
use Rattle.fort_machine.specs.Attempts as machine
use Rattle.fort_machine.specs.Effects.{Store, Effect, FitsAll, afterwards}
use Rattle.fort_machine.specs.Ends as ends
use Rattle.fort_machine.specs.Frames.{Frame, plug, road, passed, trodden}
use Rattle.fort_machine.specs.Marked.{Marks, In, Bare}
use Rattle.fort_machine.specs.Parts.{IsOneOf}
use Rattle.fort_machine.specs.Runs.{path_to}
use Rattle.fort_machine.proofs.Places.{ready_open, one_place}
use Rattle.fort_machine.proofs.Ready.{form_ready}
use Rattle.fort_threads.specs.Awake.{Stirs, MayTry, wakes, came, alone}
use Rattle.fort_threads.specs.Known.{Known}
use Rattle.fort_threads.specs.Known as own
use Rattle.fort_threads.specs.Runs as threads
use Rattle.fort_threads.specs.Threads.{Paths, Thread, Done, noted, noted_at}
use Rattle.fort_threads_law_servers.specs.Prelude.{Names}
use Rattle.fort_threads_law_servers.specs.Roots.{Start}
use Rattle.fort_threads_law_private.specs.Grounds.{Ground, Grows}
use Rattle.fort_threads_law_private.specs.Private.{Private}
use Rattle.fort_threads_law_private.proofs.Frames.{plug_private, form_private, watched_open}
use Rattle.fort_threads_law_private.proofs.Growing.{private_grows}
use Rattle.fort_threads_law_worlds.specs.Worlds.{Spot, for_all, World, FollowsAt, ground_of}
use Rattle.fort_threads_law_worlds.specs.Known.{Own}
use Rattle.fort_threads_law_worlds.specs.Stores.{AreStores}
use Rattle.fort_threads_law_worlds.specs.Effects.{WatchOpen, open_marks}
use Rattle.fort_threads_law_worlds.proofs.Following.{follows_outside, one_in, grounds_grow, open_at}
use Rattle.fort_threads_law_worlds.proofs.Marks.{open_in}
use Rattle.fort_threads_law_matches.specs.Matches.{Matches}
use Rattle.fort_threads_law_matches.specs.Placed.{Placed, KeepsOthers}
use Rattle.fort_threads_law_matches.specs.Sleepers.{SleepsAlike, AwakeThere, IsNoFormOfAll}
use Rattle.fort_threads_law_matches.proofs.Awake.{awake_matches}
use Rattle.fort_threads_law_runs.specs.Premises.{ThrowsFinely, IsThreaded}
use Rattle.fort_threads_law_runs.specs.Runs.{GoesAlike}
use Rattle.fort_threads_law_runs.specs.Told.{Told}
use Rattle.fort_threads_law_runs.specs.Told as told
use Rattle.fort_threads_law_runs.proofs.Closed.{ClosedAlike, closed_alike, asleep_private}
use Rattle.fort_threads_law_runs.proofs.Alike.{PickAlike, takes}
use Rattle.fort_threads_law_runs.proofs.Within.{private_not_own, again}

-- noting a path leaves all others
filtered : (path : List ℕ) (asked : Paths) (q : List ℕ) → (q ≡ path → ⊥) → IsOneOf q asked
    → IsOneOf q (filter (λ x. not (bytes_eq x path)) asked)
filtered path [] q n i = absurd i
filtered path (x ∷ xs) q n i = go (bytes_eq x path) refl i (λ j. filtered path xs q n j)
  where
    rest : Paths
    rest = filter (λ x. not (bytes_eq x path)) xs

    go : (b : Bool) → bytes_eq x path ≡ b → (q ≡ x) ⊎ IsOneOf q xs
        → (IsOneOf q xs → IsOneOf q (filter (λ x. not (bytes_eq x path)) xs))
        → IsOneOf q (if not b then x ∷ filter (λ x. not (bytes_eq x path)) xs
        else filter (λ x. not (bytes_eq x path)) xs)
    go true e (inl z) ih = absurd (n (z ∙ (bytes_eq-Decides x path).0 e))
    go true e (inr j) ih = ih j
    go false e (inl z) ih = inl z
    go false e (inr j) ih = inr (ih j)

noted_keeps : (c : Bool) (path : List ℕ) (asked : Paths)
    → KeepsOthers path asked (noted c path asked)
noted_keeps true path asked q n i = inr i
noted_keeps false path asked q n i = filtered path asked q n i

-- what sleeps while what it watches is the same in the machine with threads sleeps in the machine
module _ (p : Program) (n : Names) (m : Start) (w : World) (standing : List Thread) (s t : Store)
    (stores : AreStores p n m w standing s t) where
  sleeps_same : (a : Term) → Private p n m (ground_of w) a → Sleeps t a → Sleeps s a
  sleeps_same a h z = record {
    marks = z.marks;
    body = z.body;
    is_asleep = z.is_asleep;
    unchanged = λ l v i.
        stores.agree l (open_at w l (watched_open a z.body z.marks z.is_asleep h l v i))
        ∙ z.unchanged l v i;
  }

  same_marks : (x y : Marks) (c d : Term) → Asleep x c ≡ Asleep y d → x ≡ y
  same_marks x y c d e = let z = sym (outs-Asleep x c) ∙ ap out-Term e ∙ outs-Asleep y d in cc

  sleeps_open : (a y : Term) (marks : Marks) (body : Term) → a ≡ Asleep marks body
      → y ≡ Asleep (open_marks w marks) body → WatchOpen m w marks → Sleeps t y → Sleeps s a
  sleeps_open a y marks body e q watch z = record {
    marks = marks;
    body = body;
    is_asleep = e;
    unchanged = λ l v i. at l v i (watch l v i);
  }
    where
      are : z.marks ≡ open_marks w marks
      are = same_marks z.marks (open_marks w marks) z.body body (sym z.is_asleep ∙ q)

      at : (l : ℕ) (v : Value) → In l v marks
          → (w.serves l ≡ for_all) ⊎ ((l ≡ m.started) × (v ≡ Truth true)) → s l ≡ Some v
      at l v i (inl o) =
          stores.agree l o
          ∙ z.unchanged l v (subst (In l v) (sym are) (open_in w l v marks i o))
      at l v i (inr j) = ap s j.0 ∙ stores.started ∙ ap Some (sym j.1)

-- A form may be tried: it doesn't sleep, or nobody else is awake.
abbrev pub MayBe : Program → Known → List Thread → List Thread → Store → Store → Term
    → List Frame → Term → Type 0
MayBe p k beside standing s t u fs a = (Sleeps s a → ⊥)
    ⊎ (((path : List ℕ) → machine.Awake s u path → path ≡ road fs)
    × ((x : Thread) → IsOneOf x beside → Stirs p k t standing x.phase → ⊥))

module _ (p : Program) (n : Names) (m : Start) (o : Own) (k : Known) (g : Ground)
    (h : IsThreaded p n m o k g) (w : World) (here : Spot) (standing : List Thread)
    (asked : Paths) (s t : Store) (u v a : Term) (fs : List Frame)
    (q : Placed p n m o k w here asked [] v fs a) (free : passed fs a ≡ false) (inner : Bool)
    (beside : List Thread) (pick : Pick) (b : Term) (d d1 : Effect)
    (stores : AreStores p n m w standing s t) (grown : Grows g (ground_of w))
    (matches : Matches p n m o w here asked [] u v)
    (is_term : u ≡ plug fs a) (alone_there : q.inner ≡ []) (md : Mode) (body : Term)
    (within : List Pick) (ended : Ended)
    (is_pick : pick ≡ Attempt (path_to fs) within) (form : Form a md body) (bare : Bare body)
    (may : MayBe p k beside standing s t u fs a) (fits : FitsAll d1 s)
    (inside : GoesAlike p n m o k w (road q.outer ∷ here) standing [] s t within body ended d1)
    (close : Closes p md body ended d1 b d) (fine : ThrowsFinely n m o (plug (trodden fs) b)) where
  abbrev pub Alike : Type 0
  Alike = PickAlike p n m o k inner w here beside standing asked s t pick v (plug (trodden fs) b) d

  way : road q.round ≡ road fs
  way =
      q.same_road ∙ sym (ap road (append-nil q.outer))
      ∙ sym (ap (λ i. road (q.outer ++ i)) alone_there) ∙ sym (ap road q.are_all)

  -- who is awake there is so here, or stands in a call; and here is the form
  awake_here : Private p n m (ground_of w) body
      → ((path : List ℕ) → machine.Awake s u path → path ≡ road fs) → (path : List ℕ)
      → AwakeThere p n m w s u path → path ≡ road fs
  awake_here pb only path z = at z.there
    where
      here_too : road z.frames ≡ road fs
      here_too =
          only (road z.frames)
          (record {
            frames = z.frames;
            part = z.part;
            is_term = z.is_term;
            is_path = refl;
            ready = z.ready;
            reached = z.reached;
            sleepless = z.sleepless;
          })

      is_it : z.part ≡ a
      is_it =
          (one_place z.frames fs z.part a (sym z.is_term ∙ is_term) here_too z.ready
          (form_ready a md body form)).1

      at : (path ≡ road z.frames) ⊎ IsNoFormOfAll p n m w z.part → path ≡ road fs
      at (inl e) = e ∙ here_too
      at (inr none) = absurd (none md body (subst (λ x. Form x md body) (sym is_it) form) pb)

  alone_both : Private p n m (ground_of w) body
      → ((path : List ℕ) → machine.Awake s u path → path ≡ road fs)
      × ((x : Thread) → IsOneOf x beside → Stirs p k t standing x.phase → ⊥)
      → MayTry p k beside standing asked t v q.round q.y
  alone_both pb z =
      alone
      (λ path i. awake_here pb z.0 path
      (awake_matches p n m o k w here asked standing s t u v h.same stores matches path i)
      ∙ sym way)
      z.1

  module _ (py : Private p n m (ground_of w) q.y) (y_form : Form q.y md body)
      (body_private : Private p n m (ground_of w) body)
      (try : MayTry p k beside standing asked t v q.round q.y) where
    closing : ClosedAlike p n m o k w here standing asked s t (road q.outer) md body b d
        inside.ended inside.done
    closing =
        closed_alike p n m o k g h w here standing asked s t (road q.outer) md body b d1 d
        within ended grown stores body_private fits inside close

    abbrev others : Paths
    others = noted inside.done.came (road q.round) asked

    mat : Matches p n m o closing.later here others (road q.outer) b closing.other
    mat =
        subst (λ r. Matches p n m o closing.later here (noted inside.done.came r asked)
        (road q.outer) b closing.other) (sym q.same_road) closing.matches

    keeps : KeepsOthers (road q.outer) asked others
    keeps =
        subst (λ r. KeepsOthers r asked others) q.same_road
        (noted_keeps inside.done.came (road q.round) asked)

    y_open : ends.standing q.y ≡ ends.open_yet
    y_open = ready_open q.y (form_ready q.y md body y_form)

    not_own : own.Own p k q.y → ⊥
    not_own i = private_not_own p n m o k (ground_of w) q.y h.same (λ z. py) i

    closed_there : Alike
    closed_there =
        takes closing.later (Attempt (path_to fs) inside.told)
        (plug (trodden q.round) closing.other)
        (threads.closed inside.ended inside.done closing.effect) others
        (follows_outside closing.follows (one_in (road q.outer) here))
        (ap (λ r. noted inside.done.came r asked) way
        ∙ sym (ap (λ y. noted_at y inside.done.came asked)
        (outs-Attempt (path_to fs) inside.told)))
        (λ picks rest i. subst (λ z. Told (z ∷ picks) (Attempt (path_to fs) inside.told ∷ rest))
        (sym is_pick) (told.attempt (path_to fs) inside.are_told i))
        (λ rest r done2 i. threads.Runs.attempt q.round
        (ap (λ z. Attempt (record { 0 = z }) inside.told ∷ rest) (sym way)) q.is_term
        (q.reached free) q.outside not_own y_form bare try inside.runs closing.closes i refl)
        (again p n m o k g h w here standing asked s t v a fs q free closing.later others b
        closing.other closing.follows keeps
        (subst (λ y. Matches p n m o closing.later here others (road q.outer) y closing.other)
        (sym (ap (λ i. plug (trodden i) b) alone_there)) mat) fine)
        closing.alike closing.stores closing.queued closing.bounded
        (λ pv z. (
          (plug_private q.round q.y y_open
              (subst (Private p n m (ground_of closing.later)) q.is_term
              (private_grows pv (grounds_grow closing.follows)))).1 closing.other closing.term,
          closing.finds z,
        ))

  -- where the form is the same
  pub same_tried : a ≡ q.y → Private p n m (ground_of w) a → Alike
  same_tried e pa =
      closed_there (subst (Private p n m (ground_of w)) e pa)
      (subst (λ x. Form x md body) e form) (form_private a body md form pa) (try may)
    where
      try : MayBe p k beside standing s t u fs a
          → MayTry p k beside standing asked t v q.round q.y
      try (inl z) =
          wakes (λ i. z (sleeps_same p n m w standing s t stores a pa
          (subst (Sleeps t) (sym e) i)))
      try (inr z) = alone_both (form_private a body md form pa) z

  -- where it sleeps
  pub slept_tried : SleepsAlike p n m w asked (road q.outer) a q.y → Alike
  slept_tried z =
      closed_there
      (subst (Private p n m (ground_of w)) (sym z.is_other)
      (asleep_private p n m w z.marks z.body z.private_body z.private_marks))
      is.0 (subst (Private p n m (ground_of w)) (sym is.1) z.private_body) (try may z.came)
    where
      same_body : (x : Marks) (c : Term) → Asleep x c ≡ Asleep z.marks z.body → c ≡ z.body
      same_body x c e =
          let i = sym (outs-Asleep x c) ∙ ap out-Term e ∙ outs-Asleep z.marks z.body in cc

      is_form : Form a md body → Form q.y md body × (body ≡ z.body)
      is_form (fresh e) =
          let i = sym (outs-Atomic md body) ∙ ap out-Term (sym e ∙ z.is_form)
          ∙ outs-Asleep z.marks z.body in absurd cc
      is_form (slept marks i e) =
          let c = same_body marks body (sym e ∙ z.is_form) in (
            slept (open_marks w z.marks) i (z.is_other ∙ ap (Asleep (open_marks w z.marks))
                (sym c)),
            c,
          )

      is : Form q.y md body × (body ≡ z.body)
      is = is_form form

      try : MayBe p k beside standing s t u fs a
          → IsOneOf (road q.outer) asked ⊎ WatchOpen m w z.marks
          → MayTry p k beside standing asked t v q.round q.y
      try (inl i) (inl c) = came (subst (λ r. IsOneOf r asked) (sym q.same_road) c)
      try (inl i) (inr c) =
          wakes (λ j. i (sleeps_open p n m w standing s t stores a q.y z.marks z.body z.is_form
          z.is_other c j))
      try (inr i) c =
          alone_both (subst (Private p n m (ground_of w)) (sym is.1) z.private_body) i
