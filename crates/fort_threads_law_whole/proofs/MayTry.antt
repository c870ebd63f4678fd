-- An attempt of a part, as the root's machine makes it; and nobody is awake in what is finished.
use Rattle.std.proofs.Common.{◌≡◌, ℕ, ◌+◌, ◌<◌, Bool, true, false, List, [], ◌∷◌, ◌++◌, length, refl, ap, sym, ◌∙◌, subst, arith, ◌⊎◌, inl, inr}
use Rattle.fort_base.specs.declared.ids.Loc.{Loc}
use Rattle.fort_core.specs.declared.form.Mode.{Mode}
use Rattle.fort_core.specs.declared.path.Path.{Path}
use Rattle.fort_core.specs.declared.pick.Pick.{Pick, Step, Attempt, out-Pick}
use Rattle.fort_core.specs.declared.pick.Pick.TheVariants.{outs-Step, outs-Attempt}
use Rattle.fort_core.specs.declared.program.Program.{Program}
use Rattle.fort_core.specs.declared.term.Term.{Term}
use Rattle.fort_machine.specs.Attempts.{Awake, Ended, goes, Form, Sleeps}
use Rattle.fort_machine.specs.Effects.{Store, Effect}
use Rattle.fort_machine.specs.Ends.{standing, Finished}
use Rattle.fort_machine.specs.Ends as ends
use Rattle.fort_machine.specs.Frames.{Frame, plug, road}
use Rattle.fort_machine.specs.Runs.{Runs, none, step, stop, attempt, path_to}
use Rattle.fort_machine.specs.Threads.{under, under_at}
use Rattle.fort_machine.proofs.Places.{plug_open, ready_open, one_place}
use Rattle.fort_machine.proofs.Ready.{form_ready}
use Rattle.fort_machine.proofs.Runs.{plug_append, road_append}
use Rattle.fort_machine.proofs.Single.{same_attempts}
use Rattle.fort_machine.proofs.Standing.{not_finished}
use Rattle.fort_threads.specs.Awake as threads
use Rattle.fort_threads.specs.Known.{Known}
use Rattle.fort_threads.specs.Threads.{Thread}
use Rattle.fort_threads_law_servers.specs.Prelude.{Names}
use Rattle.fort_threads_law_servers.specs.Roots.{Start}
use Rattle.fort_threads_law_servers.specs.Stages.{End, at_value, at_throw, end_term}
use Rattle.fort_threads_law_worlds.specs.Known.{Own, AreSame}
use Rattle.fort_threads_law_matches.proofs.Own.{own_form, form_out}
use Rattle.fort_threads_law_trees.proofs.Lifting.{Part}

-- nobody is awake in a term that is finished
pub nobody_in : {p : Program} {n : Names} {m : Start} {o : Own} {k : Known} → AreSame p n m o k
    → (t : Store) (now : List Thread) (v : Term) → Finished v
    → (path : List ℕ) → threads.Awake p k t now v path → ⊥
nobody_in are t now v f path (threads.Awake.as_ever fs a e q np out none_own r ns) =
    not_finished v (ap standing e ∙ plug_open fs a (ready_open a r)) f
nobody_in {n = n} are t now v f path (threads.Awake.by_itself fs a e q np out own may) =
    not_finished v (ap standing e ∙ plug_open fs a (form_out n a (own_form are a own))) f

-- an end is finished
pub end_finished : (v : Term) (end : End) → v ≡ end_term end → Finished v
end_finished v (at_value x) e = ends.Finished.value x e
end_finished v (at_throw x) e = ends.Finished.throw x e

-- ---- an attempt of the whole term

step_not_attempt : (x y : Path) (l : Loc) (ps rest : List Pick)
    → Attempt y ps ∷ [] ≡ Step x l ∷ rest → ⊥
step_not_attempt x y l ps rest e =
    let h : Attempt y ps ≡ Step x l = cc in
    let z = sym (outs-Attempt y ps) ∙ ap out-Pick h ∙ outs-Step x l in cc

-- The form of an attempt doesn't sleep, or whoever is awake is at its path.
abbrev pub Tried : Store → Term → List ℕ → Term → Type 0
Tried s whole path a =
    (Sleeps s a → ⊥) ⊎ ((x : List ℕ) → Awake s whole x → x ≡ path)

-- where an attempt is picked, at these frames, which have this path
picked : (p : Program) (s : Store) (whole : Term) (hs : List Frame) (a body : Term) (mode : Mode)
    (within : List Pick) (r : Ended) (d : Effect) → whole ≡ plug hs a → Form a mode body
    → Runs p false true s (Attempt (path_to hs) within ∷ []) whole r d
    → Tried s whole (road hs) a
picked p s whole hs a body mode within r d e form (none f x y) = absurd cc
picked p s whole hs a body mode within r d e form (step gs f g h i j rest y) =
    absurd (step_not_attempt _ _ _ _ _ f)
picked p s whole hs a body mode within r d e form (stop gs f g h i j x y) = absurd cc
picked p s whole hs a body mode within r d e form
    (attempt {m = other} {within = ins} {rest = more} {a = b} {body = text} gs f g h other_form
    bare may inside closes rest y) =
    let same = same_attempts hs gs within ins [] more f in
    let place =
    one_place hs gs a b (sym e ∙ g) same.0 (form_ready a mode body form)
    (form_ready b other text other_form) in
    go place.1 same.0 may
  where
    go : a ≡ b → road hs ≡ road gs
        → (Sleeps s b → ⊥) ⊎ ((x : List ℕ) → Awake s whole x → x ≡ road gs)
        → Tried s whole (road hs) a
    go q z (inl n) = inl (subst (λ c. Sleeps s c → ⊥) (sym q) n)
    go q z (inr n) = inr (λ x w. n x w ∙ sym z)

-- an attempt of a part that is picked in the whole term
pub tried : (p : Program) (s : Store) (whole u : Term) (path : List ℕ) (part : Part whole path u)
    (fs : List Frame) (a body : Term) (mode : Mode) (q : Pick) (within : List Pick) (r : Ended)
    (d : Effect) → u ≡ plug fs a → Form a mode body → q ≡ Attempt (path_to fs) within
    → Runs p false true s (under path q ∷ []) whole r d → Tried s whole (path ++ road fs) a
tried p s whole u path part fs a body mode q within r d e form eq run =
    subst (λ z. Tried s whole z a) is_road
    (picked p s whole hs a body mode within r d is_part form
    (subst (λ z. Runs p false true s (z ∷ []) whole r d) is_pick run))
  where
    hs : List Frame
    hs = part.frames ++ fs

    is_part : whole ≡ plug (part.frames ++ fs) a
    is_part = part.is_part ∙ ap (plug part.frames) e ∙ sym (plug_append part.frames fs a)

    is_road : road (part.frames ++ fs) ≡ path ++ road fs
    is_road = road_append part.frames fs ∙ ap (λ z. z ++ road fs) part.is_road

    is_pick : under path q ≡ Attempt (path_to (part.frames ++ fs)) within
    is_pick =
        ap (under path) eq ∙ ap (under_at path) (outs-Attempt (path_to fs) within)
        ∙ ap (λ (z : List ℕ). Attempt (record { 0 = z }) within) (sym is_road)
