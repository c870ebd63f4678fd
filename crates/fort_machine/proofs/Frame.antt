-- The frame law.
use Rattle.std.proofs.Common.{◌≡◌, ℕ, Bool, true, false, List, Option, Some, None, refl, ap, sym, ◌∙◌, subst, ◌⊎◌, inl, inr}
use Rattle.fort_core.specs.declared.form.Mode.{Mode}
use Rattle.fort_core.specs.declared.program.Program.{Program}
use Rattle.fort_core.specs.declared.term.Term.{Term, Asleep, out-Term}
use Rattle.fort_core.specs.declared.term.Term as term
use Rattle.fort_core.specs.declared.term.Term.TheVariants.{outs-Asleep, outs-Value, outs-Throw}
use Rattle.fort_core.specs.declared.term.Term.TheOpen.{Term-F}
use Rattle.fort_core.specs.declared.value.Value.{Value}
use Rattle.fort_machine.specs.Cells.{found, Fits, left_at}
use Rattle.fort_machine.specs.Effects.{Store, Effect, both, FitsAll, afterwards}
use Rattle.fort_machine.specs.Ends.{open_yet, standing, throw_of}
use Rattle.fort_machine.specs.Frames.{Frame, plug, trodden}
use Rattle.fort_machine.specs.Parts.{IsOneOf, terms_in, Inside, itself, in_part}
use Rattle.fort_machine.specs.Marked.{Marks, In, Bare, Alike}
use Rattle.fort_machine.specs.Attempts.{Sleeps, Awake, MayTry, Ended, Closes, completed, failed, gave_up, fell_asleep}
use Rattle.fort_machine.specs.Runs.{none, step, stop, attempt}
use Rattle.fort_machine.specs.RunLaws.{Framed}
use Rattle.fort_machine.proofs.WholeEffects.{both_meet, fits_first, fits_then}
use Rattle.fort_machine.proofs.Inside.{Sleeper, inside_plug, split_plug}
use Rattle.fort_machine.proofs.Less.{bare_none, local_marks}
use Rattle.fort_machine.proofs.Places.{ready_open}
use Rattle.fort_machine.proofs.Ready.{local_ready, form_ready}
use Rattle.fort_machine.proofs.Runs.{runs_fit, closes_fit, fits_closed}

-- stores that are alike where a term's sleepers watch let the same forms sleep
sleeps_alike : (s s' : Store) (fs : List Frame) (a : Term) → standing a ≡ open_yet
    → Alike s s' (plug fs a) → Sleeps s' a → Sleeps s a
sleeps_alike s s' fs a o h k = record {
  marks = k.marks;
  body = k.body;
  is_asleep = k.is_asleep;
  unchanged =
      λ l v i. h k.marks k.body
      (inside_plug (Asleep k.marks k.body) fs a o (itself (sym k.is_asleep))) l v i
      ∙ k.unchanged l v i;
}

alike_back : (s s' : Store) (t : Term) → Alike s s' t → Alike s' s t
alike_back s s' t h = λ marks body i l v m. sym (h marks body i l v m)

awake_alike : (s s' : Store) (t : Term) (path : List ℕ) → Alike s s' t → Awake s' t path
    → Awake s t path
awake_alike s s' t path h w = record {
  frames = w.frames;
  part = w.part;
  is_term = w.is_term;
  is_path = w.is_path;
  ready = w.ready;
  reached = w.reached;
  sleepless =
      λ k. w.sleepless
      (sleeps_alike s' s w.frames w.part (ready_open w.part w.ready)
      (subst (Alike s' s) w.is_term (alike_back s s' t h)) k);
}

pub may_alike : (strict : Bool) (s s' : Store) (t : Term) (fs : List Frame) (a : Term)
    → standing a ≡ open_yet → t ≡ plug fs a → (strict ≡ true → Alike s s' t)
    → MayTry strict s t fs a → MayTry strict s' t fs a
may_alike false s s' t fs a o e h m = tt
may_alike true s s' t fs a o e h (inl no_sleep) =
    inl (λ k. no_sleep (sleeps_alike s s' fs a o (subst (Alike s s') e (h refl)) k))
may_alike true s s' t fs a o e h (inr only) =
    inr (λ path w. only path (awake_alike s s' t path (h refl) w))

-- what a step leaves asleep slept, or watches what the step read
pub alike_step : (s s' : Store) (d : Effect) (fs : List Frame) (a b : Term) → standing a ≡ open_yet
    → ((marks : Marks) → Sleeper marks b
    → Sleeper marks a
    ⊎ ((l : ℕ) (v : Value) → In l v marks → afterwards d s l ≡ afterwards d s' l))
    → Alike s s' (plug fs a) → Alike (afterwards d s) (afterwards d s') (plug (trodden fs) b)
alike_step s s' d fs a b o k h marks body i l v m = go (split_plug marks body fs b i)
  where
    old : (c : Term) → Inside (Asleep marks c) (plug fs a) → afterwards d s l ≡ afterwards d s' l
    old c j = ap (left_at (d.cells l)) (h marks c j l v m)

    new : Sleeper marks a
        ⊎ ((l : ℕ) (v : Value) → In l v marks → afterwards d s l ≡ afterwards d s' l)
        → afterwards d s l ≡ afterwards d s' l
    new (inl w) = old w.0 (inside_plug (Asleep marks w.0) fs a o w.1)
    new (inr w) = w l v m

    go : Inside (Asleep marks body) b
        ⊎ ((c : Term) → standing c ≡ open_yet → Inside (Asleep marks body) (plug fs c))
        → afterwards d s l ≡ afterwards d s' l
    go (inl j) = new (k marks (body, j))
    go (inr j) = old body (j a o)

read_value : (v : Value) (w o : Option Value) → Fits (found (Some v) w) o → o ≡ Some v
read_value v w None f = absurd f
read_value v w (Some x) f = ap Some f

-- marks of a form are its own or its body's
asleep_marks : (marks others : Marks) (body : Term) (t : Term) → t ≡ Asleep others body
    → Sleeper marks t → (marks ≡ others) ⊎ Sleeper marks body
asleep_marks marks others body t e (b, itself q) =
    let z : Term-F.Asleep marks b ≡ Term-F.Asleep others body =
    sym (outs-Asleep marks b) ∙ ap out-Term (q ∙ e) ∙ outs-Asleep others body in inl cc
asleep_marks marks others body t e (b, in_part c h i) =
    go (subst (IsOneOf c) (ap terms_in (ap out-Term e ∙ outs-Asleep others body)) h)
  where
    go : (c ≡ body) ⊎ ⊥ → (marks ≡ others) ⊎ Sleeper marks body
    go (inl q) = inr (b, subst (Inside (Asleep marks b)) q i)
    go (inr q) = absurd q

value_sleeps : (marks : Marks) (v : Value) (t : Term) → t ≡ term.Value v → Sleeper marks t → ⊥
value_sleeps marks v t e (b, itself q) =
    let z : Term-F.Asleep marks b ≡ Term-F.Value v =
    sym (outs-Asleep marks b) ∙ ap out-Term (q ∙ e) ∙ outs-Value v in cc
value_sleeps marks v t e (b, in_part c h i) =
    subst (IsOneOf c) (ap terms_in (ap out-Term e ∙ outs-Value v)) h

throw_sleeps : (marks : Marks) (v : Value) (t : Term) → t ≡ throw_of v → Sleeper marks t → ⊥
throw_sleeps marks v t e (b, itself q) =
    let z : Term-F.Asleep marks b ≡ Term-F.Throw (term.Value v) =
    sym (outs-Asleep marks b) ∙ ap out-Term (q ∙ e) ∙ outs-Throw (term.Value v) in cc
throw_sleeps marks v t e (b, in_part c h i) =
    go (subst (IsOneOf c) (ap terms_in (ap out-Term e ∙ outs-Throw (term.Value v))) h)
  where
    go : (c ≡ term.Value v) ⊎ ⊥ → ⊥
    go (inl q) = value_sleeps marks v c q (b, i)
    go (inr q) = q

-- what an attempt leaves asleep watches what it read
pub closes_marks : (p : Program) (m : Mode) (body b : Term) (ended : Ended) (d1 d2 : Effect)
    (s s' : Store) → Bare body → Closes p m body ended d1 b d2 → FitsAll d1 s → FitsAll d1 s'
    → (marks : Marks) → Sleeper marks b → (l : ℕ) (v : Value) → In l v marks
    → afterwards d2 s l ≡ afterwards d2 s' l
closes_marks p m body b ended d1 d2 s s' bare (completed v x y z) f g marks k l w i =
    absurd (value_sleeps marks v b y k)
closes_marks p m body b ended d1 d2 s s' bare (failed v x y z) f g marks k l w i =
    absurd (throw_sleeps marks v b y k)
closes_marks p m body b ended d1 d2 s s' bare (gave_up v x y z u o) f g marks k l w i =
    absurd (throw_sleeps marks v b u k)
closes_marks p m body b ended d1 d2 s s' bare (fell_asleep others x y z u e o) f g marks k l w i =
    go (asleep_marks marks others body b e k)
  where
    go : (marks ≡ others) ⊎ Sleeper marks body → afterwards d2 s l ≡ afterwards d2 s' l
    go (inr q) = absurd (bare_none marks body bare q)
    go (inl q) =
        let c = z.were_read l w (subst (In l w) q i) in
        let same : s l ≡ s' l =
        read_value w c.0 (s l) (subst (λ x. Fits x (s l)) c.1 (f l))
        ∙ sym (read_value w c.0 (s' l) (subst (λ x. Fits x (s' l)) c.1 (g l))) in
        ap (left_at (d2.cells l)) same

pub bare_alike : (s s' : Store) (t : Term) → Bare t → Alike s s' t
bare_alike s s' t bare marks body i l v m = absurd (bare_none marks t bare (body, i))

pub framed : Framed
framed p inner strict s s' ps t r d (none a b c) h f = none a b c
framed p inner strict s s' ps t r d
    (step {rest = rest} {a = a} {b = b} {d1 = d1} {d2 = d2} {loc = loc} fs e c n l f1 k w) h f =
    let g : FitsAll (both d1 d2) s' = subst (λ x. FitsAll x s') w f in
    let m = both_meet d1 d2 s f1 (runs_fit (afterwards d1 s) rest (plug (trodden fs) b) r d2 k) in
    step fs e c n l (fits_first d1 d2 s' m g)
    (framed p inner strict (afterwards d1 s) (afterwards d1 s') rest (plug (trodden fs) b) r d2 k
    (λ x. alike_step s s' d1 fs a b (ready_open a (local_ready p inner loc a b d1 l))
    (λ marks q. inl (local_marks p inner loc a b d1 l marks q))
    (subst (Alike s s') c (h x)))
    (fits_then d1 d2 s' m g)) w
framed p inner strict s s' ps t r d (stop fs a b c n e x w) h f = stop fs a b c n e x w
framed p inner strict s s' ps t r d
    (attempt {m = md} {within = within} {rest = rest} {a = a} {b = b} {body = body} {ended =
    ended} {d1 = d1} {d2 = d2} {d3 = d3} fs e c n l bare may k close k' w) h f =
    let g : FitsAll (both d2 d3) s' = subst (λ x. FitsAll x s') w f in
    let o = ready_open a (form_ready a md body l) in
    let f1 : FitsAll d1 s = runs_fit s within body ended d1 k in
    let mt = both_meet d2 d3 s (closes_fit p md body b ended d1 d2 s close f1)
    (runs_fit (afterwards d2 s) rest (plug (trodden fs) b) r d3 k') in
    let g1 : FitsAll d1 s' = fits_closed p md body b ended d1 d2 s' close (fits_first d2 d3 s' mt g)
    in
    attempt fs e c n l bare (may_alike strict s s' t fs a o c h may)
    (framed p true true s s' within body ended d1 k (λ x. bare_alike s s' body bare) g1) close
    (framed p inner strict (afterwards d2 s) (afterwards d2 s') rest (plug (trodden fs) b) r d3 k'
    (λ x. alike_step s s' d2 fs a b o
    (λ marks q. inr (closes_marks p md body b ended d1 d2 s s' bare close f1 g1 marks q))
    (subst (Alike s s') c (h x)))
    (fits_then d2 d3 s' mt g)) w
