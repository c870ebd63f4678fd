-- Forms that sleep in both machines.
use Rattle.std.proofs.Common.{◌≡◌, ℕ, Bool, true, false, List, [], ◌∷◌, Some, refl, ap, sym, ◌∙◌, subst, ◌⊎◌, inl, inr, cond}
use Rattle.fort_base.specs.declared.ids.Loc.{Loc}
use Rattle.fort_core.specs.declared.form.Mode.{Mode}
use Rattle.fort_core.specs.declared.program.Program.{Program}
use Rattle.fort_core.specs.declared.term.Term.{Term, Asleep, out-Term}
use Rattle.fort_core.specs.declared.term.Term as term
use Rattle.fort_core.specs.declared.term.Term.TheVariants.{outs-Atomic, outs-Asleep, outs-Then, outs-Operator}
use Rattle.fort_core.specs.declared.value.Value.{Value, Truth}
use Rattle.fort_machine.specs.Attempts.{Form, fresh, slept, Sleeps}
use Rattle.fort_machine.specs.Effects.{Store}
use Rattle.fort_machine.specs.Marked.{Marks, In}
use Rattle.fort_machine.specs.Parts.{IsOneOf}
use Rattle.fort_machine.proofs.Ready.{form_ready}
use Rattle.fort_threads.specs.Threads.{Thread}
use Rattle.fort_threads_law_servers.specs.Prelude.{Names}
use Rattle.fort_threads_law_servers.specs.Roots.{Start}
use Rattle.fort_threads_law_private.specs.Private.{Private, PrivateValue}
use Rattle.fort_threads_law_private.proofs.Frames.{form_private, watched_open}
use Rattle.fort_threads_law_worlds.specs.Worlds.{for_all, is_for_all, World, ground_of}
use Rattle.fort_threads_law_worlds.specs.Stores.{AreStores}
use Rattle.fort_threads_law_worlds.specs.Effects.{WatchOpen, open_marks}
use Rattle.fort_threads_law_matches.specs.Ways.{IsUnderWay, IsAhead, was_added, has_looked}
use Rattle.fort_threads_law_matches.specs.Sleepers.{SleepsAlike}
use Rattle.fort_threads_law_matches.specs.Laws.{SleepersMatch}
use Rattle.fort_threads_law_matches.proofs.Follows.{used_for_all}
use Rattle.fort_threads_law_matches.proofs.Acts.{ready_match}

-- a form that sleeps has its marks and its body
pub asleep_one : (marks others : Marks) (a b : Term) → Asleep marks a ≡ Asleep others b
    → (marks ≡ others) × (a ≡ b)
asleep_one marks others a b e =
    let z = sym (outs-Asleep marks a) ∙ ap out-Term e ∙ outs-Asleep others b in (cc, cc)

-- marks at locations for terms of the component
module _ (w : World) where
  abbrev kept : Loc × Value → Marks → Bool → Marks
  kept mark rest b = cond b (mark ∷ rest) rest

  head_kept : (l : ℕ) (x : Value) (mark : Loc × Value) (rest : Marks) → w.serves l ≡ for_all
      → (l ≡ mark.0.0) × (x ≡ mark.1)
      → In l x (kept mark rest (is_for_all (w.serves mark.0.0)))
  head_kept l x mark rest e h =
      subst (λ b. In l x (kept mark rest b))
      (sym (ap (λ z. is_for_all (w.serves z)) (sym h.0) ∙ ap is_for_all e)) (inl h)

  rest_kept : (l : ℕ) (x : Value) (mark : Loc × Value) (rest : Marks) (b : Bool) → In l x rest
      → In l x (kept mark rest b)
  rest_kept l x mark rest true h = inr h
  rest_kept l x mark rest false h = h

  pub in_open : (l : ℕ) (x : Value) (marks : Marks) → w.serves l ≡ for_all → In l x marks
      → In l x (open_marks w marks)
  in_open l x [] e h = absurd h
  in_open l x (mark ∷ marks) e (inl h) = head_kept l x mark (open_marks w marks) e h
  in_open l x (mark ∷ marks) e (inr h) =
      rest_kept l x mark (open_marks w marks) (is_for_all (w.serves mark.0.0))
      (in_open l x marks e h)

  open_kept : (l : ℕ) (x : Value) (mark : Loc × Value) (rest : Marks) (b : Bool)
      → is_for_all (w.serves mark.0.0) ≡ b → In l x (kept mark rest b)
      → ((l ≡ mark.0.0) × (x ≡ mark.1) × (w.serves l ≡ for_all)) ⊎ In l x rest
  open_kept l x mark rest true e (inl h) =
      inl (h.0, h.1, ap w.serves h.0 ∙ used_for_all (w.serves mark.0.0) e)
  open_kept l x mark rest true e (inr h) = inr h
  open_kept l x mark rest false e h = inr h

  open_next : (l : ℕ) (x : Value) (mark : Loc × Value) (marks : Marks)
      → (In l x (open_marks w marks) → In l x marks × (w.serves l ≡ for_all))
      → ((l ≡ mark.0.0) × (x ≡ mark.1) × (w.serves l ≡ for_all)) ⊎ In l x (open_marks w marks)
      → In l x (mark ∷ marks) × (w.serves l ≡ for_all)
  open_next l x mark marks f (inl k) = (inl (k.0, k.1), k.2)
  open_next l x mark marks f (inr k) = let r = f k in (inr r.0, r.1)

  pub open_in : (l : ℕ) (x : Value) (marks : Marks) → In l x (open_marks w marks)
      → In l x marks × (w.serves l ≡ for_all)
  open_in l x [] h = absurd h
  open_in l x (mark ∷ marks) h =
      open_next l x mark marks (λ k. open_in l x marks k)
      (open_kept l x mark (open_marks w marks) (is_for_all (w.serves mark.0.0)) refl h)

module _ {p : Program} {n : Names} {m : Start} {w : World} {standing : List Thread} {s t : Store}
    (are : AreStores p n m w standing s t) where
  -- one that leaves the prelude alone sleeps in both
  watched : (u : Term) → Private p n m (ground_of w) u → (marks : Marks) (body : Term)
      → u ≡ Asleep marks body → (l : ℕ) (x : Value) → In l x marks → s l ≡ t l
  watched u h marks body e l x i =
      are.agree l (used_for_all (w.serves l) (watched_open u body marks e h l x i))

  pub sleeps_here : (u : Term) → Private p n m (ground_of w) u → Sleeps t u → Sleeps s u
  sleeps_here u h z =
      record {
        marks = z.marks;
        body = z.body;
        is_asleep = z.is_asleep;
        unchanged = λ l x i. watched u h z.marks z.body z.is_asleep l x i ∙ z.unchanged l x i;
      }

  pub sleeps_there : (u : Term) → Private p n m (ground_of w) u → Sleeps s u → Sleeps t u
  sleeps_there u h z =
      record {
        marks = z.marks;
        body = z.body;
        is_asleep = z.is_asleep;
        unchanged = λ l x i.
            sym (watched u h z.marks z.body z.is_asleep l x i) ∙ z.unchanged l x i;
      }

  -- what watches more sleeps there, where it sleeps here
  pub alike_there : (marks : Marks) (u v body : Term) → u ≡ Asleep marks body
      → v ≡ Asleep (open_marks w marks) body → Sleeps s u → Sleeps t v
  alike_there marks u v body e f z =
      let q = asleep_one marks z.marks body z.body (sym e ∙ z.is_asleep) in
      record {
        marks = open_marks w marks;
        body = body;
        is_asleep = f;
        unchanged = λ l x i. let k = open_in w l x marks i in
            sym (are.agree l k.1) ∙ z.unchanged l x (subst (In l x) q.0 k.0);
      }

  pub alike_here : (marks : Marks) (u v body : Term) → u ≡ Asleep marks body
      → v ≡ Asleep (open_marks w marks) body → WatchOpen m w marks → Sleeps t v → Sleeps s u
  alike_here marks u v body e f watch z =
      let q = asleep_one (open_marks w marks) z.marks body z.body (sym f ∙ z.is_asleep) in
      record {
        marks = marks;
        body = body;
        is_asleep = e;
        unchanged = λ l x i. go q.0 l x i (watch l x i);
      }
    where
      go : open_marks w marks ≡ z.marks → (l : ℕ) (x : Value) → In l x marks
          → (w.serves l ≡ for_all) ⊎ ((l ≡ m.started) × (x ≡ Truth true)) → s l ≡ Some x
      go q l x i (inl k) =
          are.agree l k ∙ z.unchanged l x (subst (In l x) q (in_open w l x marks k i))
      go q l x i (inr k) = ap s k.0 ∙ are.started ∙ ap Some (sym k.1)

-- no atomic form is one in which the machine with threads is ahead
ahead_no_form : (n : Names) (w : World) (u : Term) (x : Value) (d : Mode) (body : Term)
    → IsAhead n w u x → Form u d body → ⊥
ahead_no_form n w u x d body (was_added l y g e q) (fresh f) =
    let z = sym (outs-Then _ _) ∙ ap out-Term (sym e ∙ f) ∙ outs-Atomic _ _ in cc
ahead_no_form n w u x d body (was_added l y g e q) (slept ms h f) =
    let z = sym (outs-Then _ _) ∙ ap out-Term (sym e ∙ f) ∙ outs-Asleep _ _ in cc
ahead_no_form n w u x d body (has_looked k i e q) (fresh f) =
    let z = sym (outs-Operator _ _) ∙ ap out-Term (sym e ∙ f) ∙ outs-Atomic _ _ in cc
ahead_no_form n w u x d body (has_looked k i e q) (slept ms h f) =
    let z = sym (outs-Operator _ _) ∙ ap out-Term (sym e ∙ f) ∙ outs-Asleep _ _ in cc

-- the form that sleeps is this one
asleep_form : (marks : Marks) (u v a body : Term) (d : Mode) (others : Marks) → Form u d body
    → u ≡ Asleep marks a → v ≡ Asleep others a → Form v d body × (a ≡ body)
asleep_form marks u v a body d others (fresh f) e q =
    let z = sym (outs-Asleep _ _) ∙ ap out-Term (sym e ∙ f) ∙ outs-Atomic _ _ in absurd cc
asleep_form marks u v a body d others (slept ms h f) e q =
    let k = asleep_one marks ms a body (sym e ∙ f) in
    (slept others h (q ∙ ap (Asleep others) k.1), k.1)

pub sleepers_match : SleepersMatch
sleepers_match p n m o w here asked path standing s t u v d body are h form =
    go (ready_match p n m o w here asked path u v h (form_ready u d body form))
  where
    asleep : (a : SleepsAlike p n m w asked path u v)
        → IsOneOf path asked ⊎ WatchOpen m w a.marks
        → (Sleeps s u → ⊥) → (Sleeps t v → ⊥) ⊎ IsOneOf path asked
    asleep a (inl i) none = inr i
    asleep a (inr watch) none =
        inl (λ z. none (alike_here are a.marks u v a.body a.is_form a.is_other watch z))

    go : ((u ≡ v) × Private p n m (ground_of w) u)
        ⊎ (SleepsAlike p n m w asked path u v ⊎ (IsUnderWay p n m o w (path ∷ here) u v
        ⊎ ((x : Value) × IsAhead n w u x × (v ≡ term.Value x)
        × PrivateValue p n m (ground_of w) x)))
        → IsUnderWay p n m o w (path ∷ here) u v
        ⊎ (Form v d body × Private p n m (ground_of w) body
        × ((Sleeps s u → ⊥) → (Sleeps t v → ⊥) ⊎ IsOneOf path asked))
    go (inl k) =
        inr (
          subst (λ z. Form z d body) k.0 form,
          form_private u body d form k.1,
          λ none. inl (λ z. none (sleeps_here are u k.1 (subst (Sleeps t) (sym k.0) z))),
        )
    go (inr (inl a)) =
        let k = asleep_form a.marks u v a.body body d (open_marks w a.marks)
        form a.is_form a.is_other
        in
        inr (k.0, subst (Private p n m (ground_of w)) k.1 a.private_body, asleep a a.came)
    go (inr (inr (inl way))) = inl way
    go (inr (inr (inr k))) = absurd (ahead_no_form n w u k.0 d body k.1 form)
