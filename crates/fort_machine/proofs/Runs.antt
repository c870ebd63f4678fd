-- Runs one after the other, and runs of a part.
use Rattle.std.proofs.Common.{◌≡◌, ℕ, Bool, true, false, ◌&&◌, ◌||◌, List, [], ◌∷◌, ◌++◌, map, refl, ap, sym, ◌∙◌, subst, append_assoc, ◌⊎◌, inl, inr}
use Rattle.fort_base.specs.declared.ids.Loc.{Loc}
use Rattle.fort_core.specs.declared.form.Mode.{Mode}
use Rattle.fort_core.specs.declared.path.Path.{Path}
use Rattle.fort_core.specs.declared.program.Program.{Program}
use Rattle.fort_core.specs.declared.term.Term.{Term, out-Term}
use Rattle.fort_core.specs.declared.pick.Pick.{Pick, Step, Attempt}
use Rattle.fort_core.specs.declared.pick.Pick.TheVariants.{outs-Step, outs-Attempt}
use Rattle.fort_machine.specs.Effects.{Store, Effect, both, FitsAll, afterwards, failing, aborting}
use Rattle.std.specs.List.{list_any}
use Rattle.fort_machine.specs.Ends.{open_yet, standing, has_stepped, is_still, is_thrown, is_mark}
use Rattle.fort_machine.specs.Frames.{Frame, in_group, in_call, in_function, in_argument, in_first_half, in_second_half, in_first_reduced, in_second_reduced, in_block, in_stepped, on, plug, part_number, road, beside, passes, passed, with_mark, trodden}
use Rattle.fort_machine.specs.Attempts.{Ended, goes, Closes, completed, failed, gave_up, fell_asleep}
use Rattle.fort_machine.specs.Runs.{Runs, none, step, stop, attempt, location}
use Rattle.fort_machine.specs.Threads.{under, under_at, ended_in, round_after}
use Rattle.fort_machine.proofs.Cells.{given_back_fits, fits_given_back, taken_away_fits, fits_taken_away}
use Rattle.fort_machine.proofs.Standing.{or_false, still_stepped}
use Rattle.fort_machine.proofs.Places.{plug_open, out_on, ready_open}
use Rattle.fort_machine.proofs.Ready.{local_ready, form_ready}
use Rattle.fort_machine.proofs.WholeEffects.{both_assoc, idle_both, afterwards_both, both_fits}

module _ {p : Program} {inner strict : Bool} where
  pub again : (s s' : Store) (ps ps' : List Pick) (t t' : Term) (r r' : Ended) (d d' : Effect)
      → s ≡ s' → ps ≡ ps' → t ≡ t' → r ≡ r' → d ≡ d' → Runs p inner strict s ps t r d
      → Runs p inner strict s' ps' t' r' d'
  again s s' ps ps' t t' r r' d d' a b c e f k =
      subst (λ x. Runs p inner strict x ps' t' r' d') a
      (subst (λ x. Runs p inner strict s x t' r' d') b
      (subst (λ x. Runs p inner strict s ps x r' d') c
      (subst (λ x. Runs p inner strict s ps t x d') e
      (subst (λ x. Runs p inner strict s ps t r x) f k))))

-- an attempt fits where its inner run does
pub closes_fit : (p : Program) (m : Mode) (body t : Term) (r : Ended) (d e : Effect) (s : Store)
    → Closes p m body r d t e → FitsAll d s → FitsAll e s
closes_fit p m body t r d e s (completed v a b c) f = subst (λ x. FitsAll x s) (sym c) f
closes_fit p m body t r d e s (failed v a b c) f =
    subst (λ x. FitsAll x s) (sym c) (λ l. given_back_fits (d.cells l) (s l) (f l))
closes_fit p m body t r d e s (gave_up v a b c h k) f =
    subst (λ x. FitsAll x s) (sym k) (λ l. taken_away_fits (d.cells l) (s l) (f l))
closes_fit p m body t r d e s (fell_asleep marks a b c h k w) f =
    subst (λ x. FitsAll x s) (sym w) (λ l. taken_away_fits (d.cells l) (s l) (f l))

pub fits_closed : (p : Program) (m : Mode) (body t : Term) (r : Ended) (d e : Effect) (s : Store)
    → Closes p m body r d t e → FitsAll e s → FitsAll d s
fits_closed p m body t r d e s (completed v a b c) f = subst (λ x. FitsAll x s) c f
fits_closed p m body t r d e s (failed v a b c) f =
    let g : FitsAll (failing d) s = subst (λ x. FitsAll x s) c f
    in λ l. fits_given_back (d.cells l) (s l) (g l)
fits_closed p m body t r d e s (gave_up v a b c h k) f =
    let g : FitsAll (aborting d) s = subst (λ x. FitsAll x s) k f
    in λ l. fits_taken_away (d.cells l) (s l) (g l)
fits_closed p m body t r d e s (fell_asleep marks a b c h k w) f =
    let g : FitsAll (aborting d) s = subst (λ x. FitsAll x s) w f
    in λ l. fits_taken_away (d.cells l) (s l) (g l)

-- a run fits the store that it runs on
pub runs_fit : {p : Program} {inner strict : Bool} (s : Store) (ps : List Pick) (t : Term)
    (r : Ended) (d : Effect) → Runs p inner strict s ps t r d → FitsAll d s
runs_fit s ps t r d (none a b c) = subst (λ x. FitsAll x s) (sym c) (λ l. tt)
runs_fit s ps t r d (step {rest = rest} {b = b} {d1 = d1} {d2 = d2} fs a c n l f k w) =
    subst (λ x. FitsAll x s) (sym w)
    (both_fits d1 d2 s f (runs_fit (afterwards d1 s) rest (plug (trodden fs) b) r d2 k))
runs_fit s ps t r d (stop fs a b c n e h w) = subst (λ x. FitsAll x s) (sym w) (λ l. tt)
runs_fit {p =
    p} s ps t r d
    (attempt {m = m} {within = within} {rest = rest} {b = b} {body = body} {ended = ended} {d1 =
    d1} {d2 = d2} {d3 = d3} fs a c n l bare may k close k' w) =
    subst (λ x. FitsAll x s) (sym w)
    (both_fits d2 d3 s
    (closes_fit p m body b ended d1 d2 s close (runs_fit s within body ended d1 k))
    (runs_fit (afterwards d2 s) rest (plug (trodden fs) b) r d3 k'))

-- one run and then another
pub append : {p : Program} {inner strict : Bool} (s : Store) (ps : List Pick) (t : Term) (r : Ended)
    (d : Effect) → Runs p inner strict s ps t r d
    → (u : Term) → r ≡ goes u → (qs : List Pick) (r' : Ended) (e : Effect)
    → Runs p inner strict (afterwards d s) qs u r' e
    → Runs p inner strict s (ps ++ qs) t r' (both d e)
append s ps t r d (none a b c) u h qs r' e k =
    again (afterwards d s) s qs (ps ++ qs) u t r' r' e (both d e) (ap (λ x. afterwards x s) c)
    (sym (ap (λ x. x ++ qs) a)) (cc) refl (sym (ap (λ x. both x e) c ∙ idle_both e)) k
append s ps t r d (step {rest = rest} {b = b} {d1 = d1} {d2 = d2} fs a c n l f k w) u h qs r' e k2 =
    let g : FitsAll d2 (afterwards d1 s) =
    runs_fit (afterwards d1 s) rest (plug (trodden fs) b) r d2 k in
    let same : afterwards d s ≡ afterwards d2 (afterwards d1 s) =
    ap (λ x. afterwards x s) w ∙ afterwards_both d1 d2 s f g in
    let k3 = append (afterwards d1 s) rest (plug (trodden fs) b) r d2 k u h qs r' e
    (again (afterwards d s) (afterwards d2 (afterwards d1 s)) qs qs u u r' r' e e same refl refl
    refl refl k2) in
    step fs (ap (λ x. x ++ qs) a) c n l f k3 (ap (λ x. both x e) w ∙ both_assoc d1 d2 e)
append s ps t r d (stop fs a b c n e1 h1 w) u h qs r' e k = absurd cc
append {p =
    p} s ps t r d
    (attempt {m = m} {within = within} {rest = rest} {b = b} {body = body} {ended = ended} {d1 =
    d1} {d2 = d2} {d3 = d3} fs a c n l bare may k close k' w) u h qs r' e k2 =
    let f : FitsAll d2 s =
    closes_fit p m body b ended d1 d2 s close (runs_fit s within body ended d1 k) in
    let g : FitsAll d3 (afterwards d2 s) =
    runs_fit (afterwards d2 s) rest (plug (trodden fs) b) r d3 k' in
    let same : afterwards d s ≡ afterwards d3 (afterwards d2 s) =
    ap (λ x. afterwards x s) w ∙ afterwards_both d2 d3 s f g in
    let k3 = append (afterwards d2 s) rest (plug (trodden fs) b) r d3 k' u h qs r' e
    (again (afterwards d s) (afterwards d3 (afterwards d2 s)) qs qs u u r' r' e e same refl refl
    refl refl k2) in
    attempt fs (ap (λ x. x ++ qs) a) c n l bare may k close k3 (ap (λ x. both x e) w
    ∙ both_assoc d2 d3 e)

-- a part's run is the whole's
pub plug_append : (fs gs : List Frame) (t : Term) → plug (fs ++ gs) t ≡ plug fs (plug gs t)
plug_append [] gs t = refl
plug_append (f ∷ fs) gs t = ap (on f) (plug_append fs gs t)

pub road_append : (fs gs : List Frame) → road (fs ++ gs) ≡ road fs ++ road gs
road_append [] gs = refl
road_append (f ∷ fs) gs =
    ap (λ x. part_number f ++ x) (road_append fs gs)
    ∙ sym (append_assoc (part_number f) (road fs) (road gs))

abbrev path_at : List ℕ → Path
path_at ns = record { 0 = ns }

pub under-Step : (path ns : List ℕ) (loc : Loc)
    → under path (Step (path_at ns) loc) ≡ Step (path_at (path ++ ns)) loc
under-Step path ns loc = ap (under_at path) (outs-Step (path_at ns) loc)

pub under-Attempt : (path ns : List ℕ) (within : List Pick)
    → under path (Attempt (path_at ns) within) ≡ Attempt (path_at (path ++ ns)) within
under-Attempt path ns within = ap (under_at path) (outs-Attempt (path_at ns) within)

-- a frame has no number and nothing beside, or a number
sort : (f : Frame) → ((part_number f ≡ []) × (beside f ≡ [])) ⊎ ((n : ℕ) × (part_number f ≡ n ∷ []))
sort (in_group before behind) = inr (_, refl)
sort (in_call set before behind) = inr (_, refl)
sort (in_function argument) = inr (_, refl)
sort (in_argument function) = inr (_, refl)
sort (in_first_half second) = inr (_, refl)
sort (in_second_half first) = inr (_, refl)
sort (in_first_reduced set second) = inr (_, refl)
sort (in_second_reduced set first) = inr (_, refl)
sort (in_block before behind) = inr (_, refl)
sort _ = inl (refl, refl)

and_false : (x : Bool) → (x && false) ≡ false
and_false true = refl
and_false false = refl

-- a part with its mark isn't passed over
still_marked : (n : ℕ) (fs : List Frame) (t : Term)
    → is_still (plug (with_mark (n ∷ []) fs) t) ≡ false
still_marked n [] t = still_stepped t
still_marked n (in_stepped ∷ fs) t = still_stepped (plug fs t)
still_marked n (f ∷ fs) t = still_stepped (plug (f ∷ fs) t)

marked_passes : (f : Frame) (fs : List Frame) (t : Term)
    → passes f (plug (with_mark (part_number f) fs) t) ≡ false
marked_passes f fs t = go (sort f)
  where
    go : ((part_number f ≡ []) × (beside f ≡ [])) ⊎ ((n : ℕ) × (part_number f ≡ n ∷ []))
        → passes f (plug (with_mark (part_number f) fs) t) ≡ false
    go (inl q) =
        ap (λ ts. list_any is_thrown ts && is_still (plug (with_mark (part_number f) fs) t)) q.1
    go (inr q) =
        ap (λ b. list_any is_thrown (beside f)
        && b) (ap (λ ns. is_still (plug (with_mark ns fs) t)) q.1 ∙ still_marked q.0 fs t)
        ∙ and_false (list_any is_thrown (beside f))

passed_with_mark : (ns : List ℕ) (fs : List Frame) (t : Term) → passed fs t ≡ false
    → passed (with_mark ns fs) t ≡ false
passed_with_mark [] fs t e = e
passed_with_mark (n ∷ ns) [] t e = refl
passed_with_mark (n ∷ ns) (in_stepped ∷ fs) t e = e
passed_with_mark (n ∷ ns) (f ∷ fs) t e = e

pub passed_trodden : (fs : List Frame) (t : Term) → passed (trodden fs) t ≡ false
passed_trodden [] t = refl
passed_trodden (f ∷ fs) t =
    λ i. marked_passes f (trodden fs) t i
    || passed_with_mark (part_number f) (trodden fs) t (passed_trodden fs t) i

-- what is trodden stays as it is
mark_twice : (ns : List ℕ) (fs : List Frame) → trodden fs ≡ fs
    → with_mark ns (trodden (with_mark ns fs)) ≡ with_mark ns fs
mark_twice [] fs e = e
mark_twice (n ∷ ns) [] e = refl
mark_twice (n ∷ ns) (in_stepped ∷ fs) e = ap (with_mark (n ∷ ns)) e
mark_twice (n ∷ ns) (f ∷ fs) e = ap (λ x. in_stepped ∷ x) e

pub trodden_twice : (fs : List Frame) → trodden (trodden fs) ≡ trodden fs
trodden_twice [] = refl
trodden_twice (f ∷ fs) =
    ap (λ x. f ∷ x) (mark_twice (part_number f) (trodden fs) (trodden_twice fs))

-- so is its road
road_mark : (ns : List ℕ) (fs : List Frame) → road (with_mark ns fs) ≡ road fs
road_mark [] fs = refl
road_mark (n ∷ ns) [] = refl
road_mark (n ∷ ns) (in_stepped ∷ fs) = refl
road_mark (n ∷ ns) (f ∷ fs) = refl

pub road_trodden : (fs : List Frame) → road (trodden fs) ≡ road fs
road_trodden [] = refl
road_trodden (f ∷ fs) =
    ap (λ x. part_number f ++ x) (road_mark (part_number f) (trodden fs) ∙ road_trodden fs)

-- frames that begin with a mark
abbrev Unmarked : List Frame → Type 0
Unmarked (in_stepped ∷ fs) = ⊥
Unmarked _ = Unit {0}

mark_append : (ns : List ℕ) (fs gs : List Frame) → Unmarked gs
    → with_mark ns (fs ++ gs) ≡ with_mark ns fs ++ gs
mark_append [] fs gs u = refl
mark_append (n ∷ ns) [] [] u = refl
mark_append (n ∷ ns) [] (in_stepped ∷ gs) u = absurd u
mark_append (n ∷ ns) [] (g ∷ gs) u = refl
mark_append (n ∷ ns) (in_stepped ∷ fs) gs u = refl
mark_append (n ∷ ns) (f ∷ fs) gs u = refl

trodden_append : (fs gs : List Frame) → Unmarked (trodden gs)
    → trodden (fs ++ gs) ≡ trodden fs ++ trodden gs
trodden_append [] gs u = refl
trodden_append (f ∷ fs) gs u =
    ap (λ x. f ∷ x) (ap (with_mark (part_number f)) (trodden_append fs gs u)
    ∙ mark_append (part_number f) (trodden fs) (trodden gs) u)

-- behind frames that are trodden
tail_trodden : (ns : List ℕ) (fs : List Frame) → with_mark ns (trodden fs) ≡ fs → trodden fs ≡ fs
tail_trodden [] fs e = e
tail_trodden (n ∷ ns) [] e = absurd cc
tail_trodden (n ∷ ns) (in_stepped ∷ fs) e = e
tail_trodden (n ∷ ns) (f ∷ fs) e = absurd cc

mark_behind : (ns : List ℕ) (fs gs : List Frame) → with_mark ns (trodden fs) ≡ fs
    → with_mark ns (fs ++ gs) ≡ fs ++ gs
mark_behind [] fs gs e = refl
mark_behind (n ∷ ns) [] gs e = absurd cc
mark_behind (n ∷ ns) (in_stepped ∷ fs) gs e = refl
mark_behind (n ∷ ns) (f ∷ fs) gs e = absurd cc

same_tail : (f g : Frame) (fs gs : List Frame) → f ∷ fs ≡ g ∷ gs → fs ≡ gs
same_tail f g fs gs e = cc

trodden_behind : (fs gs : List Frame) → trodden fs ≡ fs → trodden (fs ++ gs) ≡ fs ++ trodden gs
trodden_behind [] gs e = refl
trodden_behind (f ∷ fs) gs e =
    let q = same_tail f f (with_mark (part_number f) (trodden fs)) fs e in
    ap (λ x. f ∷ x)
    (ap (with_mark (part_number f)) (trodden_behind fs gs (tail_trodden (part_number f) fs q))
    ∙ mark_behind (part_number f) fs (trodden gs) q)

passed_append : (fs gs : List Frame) (a : Term) → passed fs (plug gs a) ≡ false
    → passed gs a ≡ false → passed (fs ++ gs) a ≡ false
passed_append [] gs a e q = q
passed_append (f ∷ fs) gs a e q =
    let z = or_false (passes f (plug fs (plug gs a))) (passed fs (plug gs a)) e in
    λ i. (ap (passes f) (plug_append fs gs a) ∙ z.0) i || passed_append fs gs a z.1 q i

under_step : (fs gs : List Frame) (loc : Loc) (rest ps : List Pick)
    → ps ≡ Step (path_at (road gs)) loc ∷ rest
    → map (under (road fs)) ps ≡ Step (path_at (road (fs ++ gs))) loc ∷ map (under (road fs)) rest
under_step fs gs loc rest ps a =
    ap (map (under (road fs))) a
    ∙ ap (λ x. x ∷ map (under (road fs)) rest) (under-Step (road fs) (road gs) loc
    ∙ ap (λ x. Step (path_at x) loc) (sym (road_append fs gs)))

under_attempt : (fs gs : List Frame) (within rest ps : List Pick)
    → ps ≡ Attempt (path_at (road gs)) within ∷ rest
    → map (under (road fs)) ps
    ≡ Attempt (path_at (road (fs ++ gs))) within ∷ map (under (road fs)) rest
under_attempt fs gs within rest ps a =
    ap (map (under (road fs))) a
    ∙ ap (λ x. x ∷ map (under (road fs)) rest) (under-Attempt (road fs) (road gs) within
    ∙ ap (λ x. Attempt (path_at x) within) (sym (road_append fs gs)))

reached : (fs : List Frame) → trodden fs ≡ fs → (t : Term) → passed fs t ≡ false
reached fs e t = ap (λ x. passed x t) (sym e) ∙ passed_trodden fs t

-- a part's run is the whole's, where the way to it is trodden
module _ {p : Program} {inner : Bool} where
  pub lift_trodden : (fs : List Frame) → trodden fs ≡ fs
      → (s : Store) (ps : List Pick) (t : Term) (r : Ended) (d : Effect)
      → Runs p inner false s ps t r d
      → Runs p inner false s (map (under (road fs)) ps) (plug fs t) (ended_in fs r) d
  lift_trodden fs e s ps t r d (none a b c) =
      none (ap (map (under (road fs))) a) (ap (ended_in fs) b) c
  lift_trodden fs e s ps t r d
      (step {rest = rest} {a = x} {b = b} {d1 = d1} {d2 = d2} {loc = loc} gs a c n l f k w) =
      step (fs ++ gs) (under_step fs gs (location loc) rest ps a) (ap (plug fs) c
      ∙ sym (plug_append fs gs x)) (passed_append fs gs x (reached fs e (plug gs x)) n) l f
      (subst (λ y. Runs p inner false (afterwards d1 s) (map (under (road fs)) rest) y
      (ended_in fs r) d2)
      (sym (ap (λ hs. plug hs b) (trodden_behind fs gs e) ∙ plug_append fs (trodden gs) b))
      (lift_trodden fs e (afterwards d1 s) rest (plug (trodden gs) b) r d2 k)) w
  lift_trodden fs e s ps t r d (stop {a = x} gs a b c n h q w) =
      stop (fs ++ gs) a (under_step fs gs (location 0) [] ps b) (ap (plug fs) c
      ∙ sym (plug_append fs gs x)) (passed_append fs gs x (reached fs e (plug gs x)) n) h
      (ap (ended_in fs) q) w
  lift_trodden fs e s ps t r d
      (attempt {within = within} {rest = rest} {a = x} {b = b} {d2 = d2} {d3 =
      d3} gs a c n l bare may k close k' w) =
      attempt (fs ++ gs) (under_attempt fs gs within rest ps a) (ap (plug fs) c
      ∙ sym (plug_append fs gs x)) (passed_append fs gs x (reached fs e (plug gs x)) n) l
      bare tt k close
      (subst (λ y. Runs p inner false (afterwards d2 s) (map (under (road fs)) rest) y
      (ended_in fs r) d3)
      (sym (ap (λ hs. plug hs b) (trodden_behind fs gs e) ∙ plug_append fs (trodden gs) b))
      (lift_trodden fs e (afterwards d2 s) rest (plug (trodden gs) b) r d3 k')) w

  -- the first pick of a part treads the way to it
  rest_trodden : (fs : List Frame) (s : Store) (rest : List Pick) (t : Term) (r : Ended)
      (d : Effect) → Runs p inner false s rest t r d
      → Runs p inner false s (map (under (road fs)) rest) (plug (trodden fs) t)
      (ended_in (trodden fs) r) d
  rest_trodden fs s rest t r d k =
      subst (λ x. Runs p inner false s (map (under x) rest) (plug (trodden fs) t)
      (ended_in (trodden fs) r) d) (road_trodden fs)
      (lift_trodden (trodden fs) (trodden_twice fs) s rest t r d k)

no_mark : (gs : List Frame) (a t : Term) → t ≡ plug gs a → standing a ≡ open_yet
    → has_stepped t ≡ false → Unmarked (trodden gs)
no_mark [] a t e o m = tt
no_mark (in_stepped ∷ gs) a t e o m =
    let z : true ≡ false =
    sym (ap is_mark (ap out-Term e ∙ out_on in_stepped (plug gs a) (plug_open gs a o))) ∙ m
    in absurd cc
no_mark (g ∷ gs) a t e o m = tt

after_first : (fs gs : List Frame) (b : Term) → Unmarked (trodden gs)
    → plug (trodden fs) (plug (trodden gs) b) ≡ plug (trodden (fs ++ gs)) b
after_first fs gs b u =
    sym (ap (λ hs. plug hs b) (trodden_append fs gs u) ∙ plug_append (trodden fs) (trodden gs) b)

round_pick : (pick : Pick) (ps rest : List Pick) (fs : List Frame) → ps ≡ pick ∷ rest
    → trodden fs ≡ round_after ps fs
round_pick pick ps rest fs e = ap (λ x. round_after x fs) (sym e)

pub lift : {p : Program} {inner : Bool} (fs : List Frame) (s : Store) (ps : List Pick) (t : Term)
    (r : Ended) (d : Effect) → passed fs t ≡ false → has_stepped t ≡ false
    → Runs p inner false s ps t r d
    → Runs p inner false s (map (under (road fs)) ps) (plug fs t) (ended_in (round_after ps fs) r) d
lift fs s ps t r d v m (none a b c) =
    none (ap (map (under (road fs))) a) (λ i. ended_in (round_after (a i) fs) (b i)) c
lift {p = p} {inner =
    inner} fs s ps t r d v m
    (step {rest = rest} {a = x} {b = b} {d1 = d1} {d2 = d2} {loc = loc} gs a c n l f k w) =
    let u = no_mark gs x t c (ready_open x (local_ready p inner loc x b d1 l)) m in
    subst (λ y. Runs p inner false s (map (under (road fs)) ps) (plug fs t) (ended_in y r) d)
    (round_pick (Step (path_at (road gs)) (location loc)) ps rest fs a)
    (step (fs ++ gs) (under_step fs gs (location loc) rest ps a) (ap (plug fs) c
    ∙ sym (plug_append fs gs x)) (passed_append fs gs x (ap (passed fs) (sym c) ∙ v) n) l f
    (subst (λ y. Runs p inner false (afterwards d1 s) (map (under (road fs)) rest) y
    (ended_in (trodden fs) r) d2) (after_first fs gs b u)
    (rest_trodden fs (afterwards d1 s) rest (plug (trodden gs) b) r d2 k)) w)
lift {p = p} {inner = inner} fs s ps t r d v m (stop {a = x} gs a b c n e h w) =
    stop (fs ++ gs) a (under_step fs gs (location 0) [] ps b) (ap (plug fs) c
    ∙ sym (plug_append fs gs x)) (passed_append fs gs x (ap (passed fs) (sym c) ∙ v) n) e
    (ap (ended_in (round_after ps fs)) h) w
lift {p = p} {inner =
    inner} fs s ps t r d v m
    (attempt {m = md} {within = within} {rest = rest} {a = x} {b = b} {body = body} {d2 = d2} {d3 =
    d3} gs a c n l bare may k close k' w) =
    let u = no_mark gs x t c (ready_open x (form_ready x md body l)) m in
    subst (λ y. Runs p inner false s (map (under (road fs)) ps) (plug fs t) (ended_in y r) d)
    (round_pick (Attempt (path_at (road gs)) within) ps rest fs a)
    (attempt (fs ++ gs) (under_attempt fs gs within rest ps a) (ap (plug fs) c
    ∙ sym (plug_append fs gs x)) (passed_append fs gs x (ap (passed fs) (sym c) ∙ v) n) l
    bare tt k close
    (subst (λ y. Runs p inner false (afterwards d2 s) (map (under (road fs)) rest) y
    (ended_in (trodden fs) r) d3) (after_first fs gs b u)
    (rest_trodden fs (afterwards d2 s) rest (plug (trodden gs) b) r d3 k')) w)
