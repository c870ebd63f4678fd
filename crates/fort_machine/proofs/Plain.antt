-- The plain reading follows.
use Rattle.std.proofs.Common.{◌≡◌, ℕ, zero, suc, ◌==◌, ◌+◌, ◌<◌, Bool, true, false, List, [], ◌∷◌, length, Option, Some, None, refl, ap, sym, ◌∙◌, subst, arith, rules, if◌then◌else◌}
use Rattle.std.proofs.Math.Path.{fun_ext}
use Rattle.fort_core.specs.declared.form.Mode.{Mode}
use Rattle.fort_core.specs.declared.program.Program.{Program}
use Rattle.fort_core.specs.declared.term.Term.{Term}
use Rattle.fort_core.specs.declared.value.Value.{Value}
use Rattle.fort_machine.specs.Cells.{Cell, untouched, found, made, Fits, left_at}
use Rattle.fort_machine.specs.Effects.{Store, Effect, only_at, made_from, FitsAll, afterwards, failing}
use Rattle.fort_machine.specs.Frames.{plug, trodden}
use Rattle.fort_machine.specs.Attempts as closes
use Rattle.fort_machine.specs.Attempts.{Ended, goes, aborts, Closes}
use Rattle.fort_machine.specs.Runs as runs
use Rattle.fort_machine.specs.Runs.{Runs}
use Rattle.fort_machine.specs.Plain as plain
use Rattle.fort_machine.specs.Plain.{put, put_from, ReadsPlainly, WritesPlainly, MakesPlainly, PlainlyCloses, Plain, RunsPlainly}
use Rattle.fort_machine.proofs.Cells.{older_back, all_back, newer_kept}
use Rattle.fort_machine.proofs.WholeEffects.{afterwards_both}
use Rattle.fort_machine.proofs.Runs.{runs_fit, closes_fit}
use Rattle.fort_machine.proofs.Effects.{here}

at_here : (l : ℕ) (c : Cell) → only_at l c l ≡ c
at_here l c = search rules

same_number : (l k : ℕ) → (l == k) ≡ true → l ≡ k
same_number l k e = search (rules, e)

fits_at : (l : ℕ) (c : Cell) (s : Store) → Fits c (s l) → (k : ℕ) → Fits (only_at l c k) (s k)
fits_at l c s f k = go (l == k) refl
  where
    go : (b : Bool) → (l == k) ≡ b → Fits (if b then c else untouched) (s k)
    go true e = let q : l ≡ k = search (rules, e) in subst (λ n. Fits c (s n)) q f
    go false e = tt

fits_here : (l : ℕ) (c : Cell) (s : Store) → ((k : ℕ) → Fits (only_at l c k) (s k)) → Fits c (s l)
fits_here l c s f = subst (λ x. Fits x (s l)) (at_here l c) (f l)

reads_back : (v : Value) (o : Option Value) → Fits (found (Some v) None) o → o ≡ Some v
reads_back v None f = absurd f
reads_back v (Some w) f = ap Some f

writes_back : (v : Value) (o : Option Value) → Fits (found None (Some v)) o
    → (w : Value) × (o ≡ Some w)
writes_back v None f = absurd f
writes_back v (Some w) f = (w, refl)

left_reading : (l k : ℕ) (v : Value) (o : Option Value) (b : Bool)
    → left_at (if b then found (Some v) None else untouched) o ≡ o
left_reading l k v o true = refl
left_reading l k v o false = refl

pub reads_plainly : ReadsPlainly
reads_plainly l v s = (
  (
    λ f. reads_back v (s l) (fits_here l _ s f),
    λ e. fits_at l _ s (subst (Fits (found (Some v) None)) (sym e) refl),
  ),
  fun_ext (λ k. left_reading l k v (s k) (l == k)),
)

left_writing : (v : Value) (o : Option Value) (b : Bool)
    → left_at (if b then found None (Some v) else untouched) o ≡ (if b then Some v else o)
left_writing v o true = refl
left_writing v o false = refl

pub writes_plainly : WritesPlainly
writes_plainly l v s = (
  (
    λ f. writes_back v (s l) (fits_here l _ s f),
    λ e. fits_at l _ s (subst (Fits (found None (Some v))) (sym e.1) tt),
  ),
  fun_ext (λ k. left_writing v (s k) (l == k)),
)

-- locations made in a row
none_of : (v : Value) (o : Option Value) → Fits (made (Some v)) o → o ≡ None
none_of v None f = refl
none_of v (Some w) f = absurd f

row_here : (l : ℕ) (v : Value) (vs : List Value) (k : ℕ) → (l == k) ≡ true
    → made_from l (v ∷ vs) k ≡ made (Some v)
row_here l v vs k e = ap (λ b. if b then made (Some v) else made_from (l + 1) vs k) e

row_later : (l : ℕ) (v : Value) (vs : List Value) (k : ℕ) → (l == k) ≡ false
    → made_from l (v ∷ vs) k ≡ made_from (l + 1) vs k
row_later l v vs k e = ap (λ b. if b then made (Some v) else made_from (l + 1) vs k) e

below_not_here : (l k : ℕ) → k < l → (l == k) ≡ false
below_not_here l k h = search (rules, h)

row_before : (l : ℕ) (vs : List Value) (k : ℕ) → k < l → made_from l vs k ≡ untouched
row_before l [] k h = refl
row_before l (v ∷ vs) k h =
    row_later l v vs k (below_not_here l k h) ∙ row_before (l + 1) vs k (omega arith)

row_rest : (l : ℕ) (v : Value) (vs : List Value) (s : Store)
    → ((k : ℕ) → Fits (made_from l (v ∷ vs) k) (s k)) → (k : ℕ)
    → Fits (made_from (l + 1) vs k) (s k)
row_rest l v vs s f k = go (l == k) refl
  where
    go : (b : Bool) → (l == k) ≡ b → Fits (made_from (l + 1) vs k) (s k)
    go true e =
        let q : l ≡ k = search (rules, e) in let h : k < l + 1 = omega arith
        in subst (λ c. Fits c (s k)) (sym (row_before (l + 1) vs k h)) tt
    go false e = subst (λ c. Fits c (s k)) (row_later l v vs k e) (f k)

row_none : (l : ℕ) (vs : List Value) (s : Store) → ((k : ℕ) → Fits (made_from l vs k) (s k))
    → (n : ℕ) → n < length vs → s (l + n) ≡ None
row_none l [] s f n h = absurd (omega arith)
row_none l (v ∷ vs) s f zero h =
    none_of v (s (l + 0))
    (subst (λ c. Fits c (s (l + 0))) (row_here l v vs (l + 0) (here l 0 (omega arith))) (f (l + 0)))
row_none l (v ∷ vs) s f (suc n) h =
    let m : l + suc n ≡ (l + 1) + n = omega arith in
    ap s m ∙ row_none (l + 1) vs s (row_rest l v vs s f) n (omega arith)

made_fits : (v : Value) (o : Option Value) → o ≡ None → Fits (made (Some v)) o
made_fits v o e = subst (Fits (made (Some v))) (sym e) tt

row_fits : (l : ℕ) (vs : List Value) (s : Store) → ((n : ℕ) → n < length vs → s (l + n) ≡ None)
    → (k : ℕ) → Fits (made_from l vs k) (s k)
row_fits l [] s f k = tt
row_fits l (v ∷ vs) s f k =
    go (l == k) refl
    (row_fits (l + 1) vs s (λ n h. let m : (l + 1) + n ≡ l + suc n = omega arith
    in ap s m ∙ f (suc n) (omega arith)) k)
  where
    go : (b : Bool) → (l == k) ≡ b → Fits (made_from (l + 1) vs k) (s k)
        → Fits (made_from l (v ∷ vs) k) (s k)
    go true e ih =
        let q : k ≡ l + 0 = omega (arith, same_number l k e) in
        subst (λ c. Fits c (s k)) (sym (row_here l v vs k e))
        (made_fits v (s k) (ap s q ∙ f 0 (omega arith)))
    go false e ih = subst (λ c. Fits c (s k)) (sym (row_later l v vs k e)) ih

left_row : (l : ℕ) (vs : List Value) (s : Store) (k : ℕ)
    → left_at (made_from l vs k) (s k) ≡ put_from l vs s k
left_row l [] s k = refl
left_row l (v ∷ vs) s k = go (l == k) (left_row (l + 1) vs s k)
  where
    go : (b : Bool) → left_at (made_from (l + 1) vs k) (s k) ≡ put_from (l + 1) vs s k
        → left_at (if b then made (Some v) else made_from (l + 1) vs k) (s k)
        ≡ (if b then Some v else put_from (l + 1) vs s k)
    go true ih = refl
    go false ih = ih

pub makes_plainly : MakesPlainly
makes_plainly l vs cost s =
    ((λ f. row_none l vs s f, λ f. row_fits l vs s f), fun_ext (λ k. left_row l vs s k))

closes_plainly : (p : Program) (m : Mode) (body b : Term) (ended : Ended) (d e : Effect) (s : Store)
    → FitsAll d s → Closes p m body ended d b e
    → PlainlyCloses p m body s (afterwards d s) d.output ended b (afterwards e s) e.output
closes_plainly p m body b ended d e s f (closes.Closes.completed v x y z) =
    plain.PlainlyCloses.completed v x y (ap (λ q. afterwards q s) z) (ap (λ
    (q : Effect). q.output) z)
closes_plainly p m body b ended d e s f (closes.Closes.failed v x y z) =
    plain.PlainlyCloses.failed v x y
    (λ l w h. ap (λ q. afterwards q s l) z ∙ ap (left_at ((failing d).cells l)) h
    ∙ older_back (d.cells l) w (subst (Fits (d.cells l)) h (f l)))
    (λ l h. ap (λ q. afterwards q s l) z ∙ ap (left_at ((failing d).cells l)) h
    ∙ newer_kept (d.cells l) (subst (Fits (d.cells l)) h (f l))
    ∙ sym (ap (left_at (d.cells l)) h))
    (ap (λ (q : Effect). q.output) z)
closes_plainly p m body b ended d e s f (closes.Closes.gave_up v x y z u w) =
    plain.PlainlyCloses.gave_up v x y z u (ap (λ q. afterwards q s) w
    ∙ fun_ext (λ l. all_back (d.cells l) (s l) (f l))) (ap (λ (q : Effect). q.output) w)
closes_plainly p m body b ended d e s f (closes.Closes.fell_asleep marks x y z o u w) =
    plain.PlainlyCloses.fell_asleep marks x y u (ap (λ q. afterwards q s) w
    ∙ fun_ext (λ l. all_back (d.cells l) (s l) (f l))) (ap (λ (q : Effect). q.output) w)

closes_cost : (p : Program) (m : Mode) (body b : Term) (ended : Ended) (d e : Effect)
    → Closes p m body ended d b e → e.cost ≡ 1 + d.cost
closes_cost p m body b ended d e (closes.Closes.completed v x y z) = ap (λ (q : Effect). q.cost) z
closes_cost p m body b ended d e (closes.Closes.failed v x y z) = ap (λ (q : Effect). q.cost) z
closes_cost p m body b ended d e (closes.Closes.gave_up v x y z u w) = ap (λ (q : Effect). q.cost) w
closes_cost p m body b ended d e (closes.Closes.fell_asleep marks x y z o u w) =
    ap (λ (q : Effect). q.cost) w

pub runs_plainly : RunsPlainly
runs_plainly p inner strict s ps t r d (runs.Runs.none a b c) =
    plain.Plain.none a b (ap (λ x. afterwards x s) c) (ap (λ (x : Effect). x.output) c) (ap (λ
    (x : Effect). x.cost) c)
runs_plainly p inner strict s ps t r d
    (runs.Runs.step {rest = rest} {b = b} {d1 = d1} {d2 = d2} fs a c n l f k w) =
    let q = runs_plainly p inner strict (afterwards d1 s) rest (plug (trodden fs) b) r d2 k in
    let e = ap (λ x. afterwards x s) w
    ∙ afterwards_both d1 d2 s f (runs_fit (afterwards d1 s) rest (plug (trodden fs) b) r d2 k)
    in
    subst (λ x. Plain p inner ps s t r x d.output d.cost) (sym e)
    (plain.Plain.step fs a c n l f refl q (ap (λ (x : Effect). x.output) w) (ap (λ
    (x : Effect). x.cost) w))
runs_plainly p inner strict s ps t r d (runs.Runs.stop fs a b c n e h w) =
    plain.Plain.stop fs a b c n e h (ap (λ x. afterwards x s) w) (ap (λ
    (x : Effect). x.output) w) (ap (λ (x : Effect). x.cost) w)
runs_plainly p inner strict s ps t r d
    (runs.Runs.attempt {m = m} {within = within} {rest = rest} {b = b} {body = body} {ended =
    ended} {d1 = d1} {d2 = d2} {d3 = d3} fs a c z l bare may k close k' w) =
    let f1 = runs_fit s within body ended d1 k in
    let q = runs_plainly p true true s within body ended d1 k in
    let q' = runs_plainly p inner strict (afterwards d2 s) rest (plug (trodden fs) b) r d3 k' in
    let e = ap (λ x. afterwards x s) w
    ∙ afterwards_both d2 d3 s (closes_fit p m body b ended d1 d2 s close f1)
    (runs_fit (afterwards d2 s) rest (plug (trodden fs) b) r d3 k') in
    let n : d.cost ≡ d2.cost + d3.cost = ap (λ (x : Effect). x.cost) w in
    let n2 = closes_cost p m body b ended d1 d2 close in
    subst (λ x. Plain p inner ps s t r x d.output d.cost) (sym e)
    (plain.Plain.attempt fs a c z l q (closes_plainly p m body b ended d1 d2 s f1 close) q' (ap (λ
    (x : Effect). x.output) w) (omega arith))
