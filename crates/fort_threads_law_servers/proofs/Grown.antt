-- A pick of the tree of servers.
use Rattle.std.proofs.Common.{◌≡◌, ℕ, zero, suc, ◌+◌, ◌<◌, arith, Bool, true, false, [], ◌∷◌, refl, ap, ◌∙◌, subst, inl, inr, pos, sym, div-add-mod', mod-lt}
use Rattle.fort_core.specs.declared.form.Order.TheVariants as order
use Rattle.fort_core.specs.declared.form.Span.{Span}
use Rattle.fort_core.specs.declared.form.Span.TheVariants as span
use Rattle.fort_core.specs.declared.pick.Pick.{Pick}
use Rattle.fort_core.specs.declared.program.Program.{Program}
use Rattle.fort_core.specs.declared.term.Term.{Term, Call, Operator, For, ForHalves, out-Term}
use Rattle.fort_core.specs.declared.term.Term as term
use Rattle.fort_core.specs.declared.term.Term.TheVariants.{outs-Value, outs-Throw, outs-Call, outs-Operator, outs-Let, outs-Then, outs-Typecase, outs-For, outs-ForHalves, outs-Atomic, outs-Asleep}
use Rattle.fort_core.specs.declared.term.Term.TheOpen.{Term-F}
use Rattle.fort_core.specs.declared.value.Value.{Small}
use Rattle.fort_core.specs.declared.value.Value.TheVariants.{outs-Range}
use Rattle.fort_machine.specs.Acts.{Act, becomes, unit}
use Rattle.fort_machine.specs.Attempts.{fresh, slept, goes}
use Rattle.fort_machine.specs.Effects.{Store, Effect, paid}
use Rattle.fort_machine.specs.Ends.{Finished, is_mark, has_stepped, throw_of, stepped}
use Rattle.fort_machine.specs.Ends as ends
use Rattle.fort_machine.specs.Forms.{act_at, act}
use Rattle.fort_machine.specs.Frames.{in_source}
use Rattle.fort_machine.specs.Generators.{numbers_from, items_at, for_items, first_half, rest_half, spanned}
use Rattle.fort_machine.specs.Runs.{Runs}
use Rattle.fort_machine.specs.Steps.{Does}
use Rattle.fort_threads_law_servers.specs.Prelude.{Names, number, HasPrelude}
use Rattle.fort_threads_law_servers.specs.Stages.{at_value, at_throw, Stage, called, asking, trying, got, refused, looking, sent, reads, runs, caught, lost, keeps, has_kept, marks, has_marked, leaves, counts, done, term_at, Stands, Follows}
use Rattle.fort_threads_law_servers.specs.Servers.{Serves, rests, goes_on}
use Rattle.fort_threads_law_servers.specs.Trees.{count_of, Tree, unread, undivided, server, halves, over, with_step, range, loop, tree_term, AllServe, Grows}
use Rattle.fort_threads_law_servers.proofs.Turns.{pick_sole, ready_call, stepped_at, called_with, moves_to}
use Rattle.fort_threads_law_servers.proofs.Parts.{OfTwo, closes, of_first, of_second, over_finished, of_halves}
use Rattle.fort_threads_law_servers.proofs.Put.{put_calls}
use Rattle.fort_threads_law_servers.proofs.Operands.{operator_two}
use Rattle.fort_threads_law_servers.proofs.Server.{after_value, row_done, each_pick_follows}

-- ---- no server's term is a mark

pub finished_unmarked : (t : Term) → Finished t → has_stepped t ≡ false
finished_unmarked t (ends.Finished.value v e) = ap is_mark (ap out-Term e ∙ outs-Value v)
finished_unmarked t (ends.Finished.throw v e) = ap is_mark (ap out-Term e ∙ outs-Throw (term.Value v))

pub stage_unmarked : (n : Names) (stage : Stage) → Stands n stage
    → has_stepped (term_at n stage) ≡ false
stage_unmarked n called h = ap is_mark (outs-Call _ _)
stage_unmarked n asking h = ap is_mark (outs-Let _ _ _)
stage_unmarked n (trying form) h = ap is_mark (outs-Let _ _ _)
stage_unmarked n (got v) h = ap is_mark (outs-Let _ _ _)
stage_unmarked n (refused v) h = ap is_mark (outs-Let _ _ _)
stage_unmarked n (looking v) h = ap is_mark (outs-Typecase _ _ _ _)
stage_unmarked n (sent l) h = ap is_mark (outs-Call _ _)
stage_unmarked n (reads l) h = ap is_mark (outs-Then _ _)
stage_unmarked n (runs l t) h = ap is_mark (outs-Then _ _)
stage_unmarked n (caught l v) h = ap is_mark (outs-Then _ _)
stage_unmarked n (lost v) h = ap is_mark (outs-Then _ _)
stage_unmarked n (keeps l (at_value v)) h = ap is_mark (outs-Then _ _)
stage_unmarked n (keeps l (at_throw v)) h = ap is_mark (outs-Then _ _)
stage_unmarked n (has_kept l (at_value v)) h = ap is_mark (outs-Then _ _)
stage_unmarked n (has_kept l (at_throw v)) h = ap is_mark (outs-Then _ _)
stage_unmarked n (marks l (at_value v)) h = ap is_mark (outs-Then _ _)
stage_unmarked n (marks l (at_throw v)) h = ap is_mark (outs-Then _ _)
stage_unmarked n (has_marked l (at_value v)) h = ap is_mark (outs-Then _ _)
stage_unmarked n (has_marked l (at_throw v)) h = ap is_mark (outs-Then _ _)
stage_unmarked n leaves h = ap is_mark (outs-Then _ _)
stage_unmarked n (counts form) (fresh e) = ap is_mark (ap out-Term e ∙ outs-Atomic _ _)
stage_unmarked n (counts form) (slept ms q e) = ap is_mark (ap out-Term e ∙ outs-Asleep _ _)
stage_unmarked n (done t) h = finished_unmarked t h

pub tree_unmarked : (p : Program) (n : Names) (tree : Tree) → AllServe p n tree
    → has_stepped (tree_term n tree) ≡ false
tree_unmarked p n unread h = ap is_mark (outs-For _ _ _ _ _)
tree_unmarked p n (undivided items) h = ap is_mark (outs-For _ _ _ _ _)
tree_unmarked p n (server stage) h = stage_unmarked n stage h.0
tree_unmarked p n (halves m a k b) h = ap is_mark (outs-ForHalves _ _)
tree_unmarked p n (over t) h = finished_unmarked t h

-- a stage more
pub further : {p : Program} {n : Names} {first stage : Stage} (next : Stage) (s : Store)
    (pick : Pick) (d : Effect) → Serves p n first stage → Follows p n s pick d stage next
    → Serves p n first next
further {p = p} {n = n} next s pick d (rests e) h =
    goes_on next s pick d (subst (λ x. Follows p n s pick d x next) e h) (rests refl)
further next s pick d (goes_on other r q e w rest) h =
    goes_on other r q e w (further next s pick d rest h)

-- ---- what a `for` does that isn't divided

abbrev pub first_of : Span → ℕ
first_of (span.Part k c) = k
first_of span.Whole = 0

halves_are : (c : ℕ) → first_half c + rest_half c ≡ c
halves_are c =
    let some : 0 < 2 = omega arith in
    omega (arith, div-add-mod' (c + 1) 2, div-add-mod' c 2, mod-lt (c + 1) some, mod-lt c some)

spanned_is : (items : Span) (f : ℕ → ℕ → Act)
    → spanned items (numbers_from (pos 0) 64) f ≡ f (first_of items) (count_of items)
spanned_is (span.Part k c) f = refl
spanned_is span.Whole f = refl

abbrev pub by_count : Names → Span → ℕ → Act
by_count n items c =
    for_items order.Parallel (numbers_from (pos 0) 64) (first_of items) c 2 range (Call n.serve [])

pub loop_act : (p : Program) (n : Names) (items : Span)
    → act p (loop n items (term.Value range)) ≡ by_count n items (count_of items)
loop_act p n items =
    ap (act_at p) (outs-For order.Parallel items 2 (term.Value range) (Call n.serve []))
    ∙ after_value range _
    ∙ ap (λ r. spanned items (items_at r)
    (λ k c. for_items order.Parallel (items_at r) k c 2 range (Call n.serve [])))
    (outs-Range (pos 0) 64)
    ∙ spanned_is items
    (λ k c. for_items order.Parallel (numbers_from (pos 0) 64) k c 2 range (Call n.serve []))

module _ (p : Program) (n : Names) (has : HasPrelude p n) (s : Store) where
  abbrev Grown : Pick → Tree → Term → Effect → Type 0
  Grown pick tree u d =
      (next : Tree) × AllServe p n next × (u ≡ tree_term n next) × Grows p n s pick d tree next

  reads_range : (pick : Pick) (u : Term) (d : Effect)
      → Runs p false false s (pick ∷ []) (tree_term n unread) (goes u) d → Grown pick unread u d
  reads_range pick u d k =
      let o = Operator n.hash (number 0 ∷ number 64 ∷ []) in
      let q = operator_two p n.hash (Small (pos 0)) (Small (pos 64)) in
      let i = pick_sole (in_source order.Parallel span.Whole 2 (Call n.serve []) ∷ []) o (tt, tt)
      (ready_call p o n.hash _ q) k in
      let j = stepped_at (Term-F.Operator n.hash (number 0 ∷ number 64 ∷ [])) (outs-Operator _ _)
      refl i.2 in
      let c = called_with p false j.0 o i.0 d n.hash _ q j.1 in
      let w : Does p false j.0 (becomes (term.Value range)) i.0 d =
      subst (λ x. Does p false j.0 x i.0 d) (has.counts_up c.declaration c.declared c.dispatches)
      c.does in
      (undivided span.Whole, tt, i.1 ∙ ap (λ x. loop n span.Whole x) w.1, (refl, w.2))

  divides : (pick : Pick) (items : Span) (u : Term) (d : Effect)
      → Runs p false false s (pick ∷ []) (tree_term n (undivided items)) (goes u) d
      → Grown pick (undivided items) u d
  divides pick items u d k = go (count_of items) refl
    where
      to : (t : Term) → by_count n items (count_of items) ≡ becomes t → (u ≡ t) × (d ≡ paid 1)
      to t e =
          moves_to [] (loop n items (term.Value range))
          (Term-F.For order.Parallel items 2 (term.Value range) (Call n.serve [])) tt
          (outs-For _ _ _ _ _) refl t (loop_act p n items ∙ e) k

      fits : (c : ℕ) → count_of items ≡ suc (suc c)
          → first_half (suc (suc c)) + rest_half (suc (suc c)) ≡ count_of items
      fits c e = halves_are (suc (suc c)) ∙ sym e

      go : (c : ℕ) → count_of items ≡ c → Grown pick (undivided items) u d
      go zero e =
          let i = to (term.Value unit) (ap (by_count n items) e) in
          (over (term.Value unit), ends.Finished.value unit refl, i.0, (e, refl, i.1))
      go (suc zero) e =
          let i = to (Call n.serve [])
          (ap (by_count n items) e ∙ ap becomes (put_calls 2 _ n.serve)) in
          (server called, (tt, rests refl), i.0, (e, refl, i.1))
      go (suc (suc c)) e =
          let h = first_half (suc (suc c)) in
          let one = span.Part (first_of items) h in
          let two = span.Part (first_of items + h) (rest_half (suc (suc c))) in
          let i = to (ForHalves (loop n one (term.Value range)) (loop n two (term.Value range)))
          (ap (by_count n items) e) in (
            halves false (undivided one) false (undivided two),
            (tt, tt),
            i.0,
            (one, two, fits c e, refl, refl, refl, refl, i.1),
          )

  halved : (a b : Tree) (m q : Bool) (pick : Pick) (u : Term) (d : Effect)
      → AllServe p n (halves m a q b)
      → ((o : Pick) (z : Term) → Runs p false false s (o ∷ []) (tree_term n a) (goes z) d
      → Grown o a z d)
      → ((o : Pick) (z : Term) → Runs p false false s (o ∷ []) (tree_term n b) (goes z) d
      → Grown o b z d)
      → OfTwo p s pick ForHalves (tree_term n a) (tree_term n b) m q u d
      → Grown pick (halves m a q b) u d
  halved a b m q pick u d h one two (closes f e) =
      (over u, over_finished _ _ u f, refl, (f, e))
  halved a b m q pick u d h one two (of_first o z e r w) =
      let i = one o z r in (
        halves true i.0 q b,
        (i.1, h.1),
        w ∙ ap (λ x. ForHalves (stepped x) (with_step q (tree_term n b))) i.2,
        inl (o, e, i.3, refl, refl, refl),
      )
  halved a b m q pick u d h one two (of_second o z e r w) =
      let i = two o z r in (
        halves m a true i.0,
        (h.0, i.1),
        w ∙ ap (λ x. ForHalves (with_step m (tree_term n a)) (stepped x)) i.2,
        inr (o, e, i.3, refl, refl, refl),
      )

  pub tree_pick : (tree : Tree) (pick : Pick) (u : Term) (d : Effect) → AllServe p n tree
      → Runs p false false s (pick ∷ []) (tree_term n tree) (goes u) d → Grown pick tree u d
  tree_pick unread pick u d h k = reads_range pick u d k
  tree_pick (undivided items) pick u d h k = divides pick items u d k
  tree_pick (over t) pick u d h k = absurd (row_done p n has s pick t u d h k)
  tree_pick (server stage) pick u d h k =
      let i = each_pick_follows p n has s pick stage u d h.0 k in
      (server i.0, (i.1, further i.0 s pick d h.1 i.3), i.2, i.3)
  tree_pick (halves m a q b) pick u d h k =
      halved a b m q pick u d h (λ o z r. tree_pick a o z d h.0 r)
      (λ o z r. tree_pick b o z d h.1 r)
      (of_halves (tree_term n a) (tree_term n b) m q (tree_unmarked p n a h.0)
      (tree_unmarked p n b h.1) k)
