-- A form that is opened, gone through and closed says what the judge says.
use Rattle.std.proofs.Common.{◌≡◌, ℕ, List, ◌∷◌, length, Result, Ok, Err, OnOk, Bor, ap, ◌∙◌, sym}
use Rattle.fort_scope.specs.declared.binding.Binding.{Binding}
use Rattle.fort_form.specs.declared.form.Form.{Form}
use Rattle.fort_form.specs.declared.form.Form.TheOpen.{Form-F}
use Rattle.fort_typing_known.specs.Known.{Facts}
use Rattle.fort_typing_meaning.specs.declared.frame.Frame.{Frame}
use Rattle.fort_typing_meaning.specs.Parts.{Judge, Piece, Arm, Clause, Giving, State, said, begin}
use Rattle.fort_typing_meaning.specs.Judging.{inside, closed, judge_form, judged, level}
use Rattle.fort_typing_meaning.proofs.Levels.{judged_level}
use Rattle.fort_typing_meaning.proofs.Kept.{keeps_inside, take_whole}
use Rattle.fort_typing_tasks.specs.declared.task.Task.{Task}
use Rattle.fort_typing_tasks.specs.declared.task.Task.TheVariants as a_task
use Rattle.fort_typing_tasks.specs.Tasks.{closing, run}

module _ (k : Facts) (s : State) where
  layer_closes : (f : Form-F Judge Piece Arm Giving Clause)
      → closing k f s.frame (length s.bindings) (inside k f (begin s.bindings s.found))
      ≡ said (judge_form k f) s
  unfolding closing said
  layer_closes f =
      let w = inside k f (begin s.bindings s.found) in
      let kept = keeps_inside k s.bindings f (begin s.bindings s.found) (take_whole s.bindings) in
      let at : List Binding
      → State =
      λ us. record {
        seen = (closed k f us w).seen;
        frame = s.frame;
        bindings = us;
        found = (closed k f us w).found;
      } in
      ap at kept

  pub closes : (f : Form)
      → closing k (level k f) s.frame (length s.bindings)
      (inside k (level k f) (begin s.bindings s.found)) ≡ said (judged k f) s
  closes f = layer_closes (level k f) ∙ ap (λ (j : Judge). said j s) (sym (judged_level k f))

-- what is said by the tasks that a form is opened with
pub sees : (k : Facts) (s opened : State) (outer : Frame) (mark : ℕ) (f : Bor Form)
    (old pushed new : List Task) {A E : Type 0} (r : Result A E)
    → pushed ≡ a_task.Close f outer mark ∷ old → outer ≡ s.frame → mark ≡ length s.bindings
    → opened ≡ begin s.bindings s.found
    → OnOk r ((l : Facts) (t : State) → run l new t ≡ run l pushed (inside l (level l f.now) t))
    → OnOk r (run k new opened ≡ run k old (said (judged k f.now) s))
sees k s opened outer mark f old pushed new (Err e) p q m o h = tt
sees k s opened outer mark f old pushed new (Ok a) p q m o h =
    let i = inside k (level k f.now) in
    h k opened
    ∙ ap (λ ts. run k ts (i opened)) p
    ∙ ap (λ (u : Frame). run k old (closing k (level k f.now) u mark (i opened))) q
    ∙ ap (λ (n : ℕ). run k old (closing k (level k f.now) s.frame n (i opened))) m
    ∙ ap (λ (t : State). run k old (closing k (level k f.now) s.frame (length s.bindings) (i t))) o
    ∙ ap (run k old) (closes k s f.now)
