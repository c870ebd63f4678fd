-- How a pick within a call is answered: what all calls have in common.
use Rattle.std.proofs.Common.{◌≡◌, ℕ, ◌+◌, ◌==◌, ◌<◌, ◌≤◌, true, false, not, List, ◌∷◌, Option, Some, None, is_some, option_map, pos, arith, refl, ap, sym, ◌∙◌, subst}
use Rattle.fort_base.specs.declared.ids.NameId.{NameId}
use Rattle.fort_core.specs.declared.program.Program.{Program}
use Rattle.fort_core.specs.declared.term.Term.{Term}
use Rattle.fort_core.specs.declared.term.Term.TheOpen.{Value-F}
use Rattle.fort_core.specs.declared.value.Value.{Value, Object, Small, out-Value}
use Rattle.fort_core.specs.declared.value.Value.TheVariants.{outs-Object, outs-Small}
use Rattle.fort_machine.specs.Attempts.{Ended, goes}
use Rattle.fort_machine.specs.Cells.{untouched, made}
use Rattle.fort_machine.specs.Effects.{Store, Effect, paid, reading, FitsAll}
use Rattle.fort_machine.specs.Forms.{field_of}
use Rattle.fort_machine.specs.Runs.{location}
use Rattle.fort_machine.proofs.Plain.{reads_plainly}
use Rattle.fort_threads.specs.Known.{Known, object_at}
use Rattle.fort_threads.specs.Moves.{OwnStep}
use Rattle.fort_threads.specs.Threads.{Paths, Thread, only}
use Rattle.fort_threads_law_servers.specs.Prelude.{Names, object_of}
use Rattle.fort_threads_law_servers.specs.Roots.{Start}
use Rattle.fort_threads_law_servers.specs.Stages.{End, at_value, at_throw}
use Rattle.fort_threads_law_private.specs.Apart.{KeepsApart}
use Rattle.fort_threads_law_private.specs.Grounds.{Ground, Open, HasObject, Grows}
use Rattle.fort_threads_law_private.specs.Private.{IsSecretField, PrivateValue, no_terms, no_values}
use Rattle.fort_threads_law_private.proofs.Growing.{value_grows}
use Rattle.fort_threads_law_private.proofs.Values.{private_value_at}
use Rattle.fort_threads_law_worlds.specs.Worlds.{Spot, for_all, part_of, of_prelude, given, object, World, ground_of, given_function, IsGiven}
use Rattle.fort_threads_law_worlds.specs.Known.{Own, AreSame}
use Rattle.fort_threads_law_worlds.specs.Stores.{mark, AreStores}
use Rattle.fort_threads_law_worlds.proofs.Following.{follows_self}
use Rattle.fort_threads_law_worlds.proofs.Queues.{none_queued}
use Rattle.fort_threads_law_matches.specs.Matches.{Matches}
use Rattle.fort_threads_law_calls.specs.Answers.{AnswersCall, silently, by_its_step}
use Rattle.fort_threads_law_calls.proofs.Quiet.{Quiet, quiet_idle, quiet_alike, quiet_stores, none_added}

-- ---- values

pub some_same : (x y : Value) → Some x ≡ Some y → x ≡ y
some_same x y e = cc

pub small_same : (a b : ℕ) → Small (pos a) ≡ Small (pos b) → a ≡ b
small_same a b e =
    let z = sym (outs-Small (pos a)) ∙ ap out-Value e ∙ outs-Small (pos b) in
    let y : pos a ≡ pos b = cc in let x : a ≡ b = cc in x

-- the object of a thread that was given leaves the prelude alone
pub object_private : {p : Program} {n : Names} {m : Start} {k : Known} {first g : Ground} (l : ℕ)
    → KeepsApart p n m k first → HasObject g l → PrivateValue p n m g (object_of n l)
object_private {p} {n} {m} {k} {first} {g} l apart h =
    private_value_at (object_of n l) (Value-F.Object n.thread (location l))
    (outs-Object n.thread (location l)) (fields, λ e. h) no_terms no_values
  where
    fields : (f : NameId) (i : ℕ) → (IsSecretField n f → ⊥)
        → field_of p f (Value-F.Object n.thread (location l)) ≡ Some i → Open g i
    fields f i q e =
        let z : None ≡ Some i = sym (apart.no_other_field f (location l) q) ∙ e in absurd cc

pub too_many_private : {p : Program} {n : Names} {m : Start} {o : Own} {k : Known}
    {first g : Ground} → AreSame p n m o k → KeepsApart p n m k first → Grows first g
    → PrivateValue p n m g n.too_many
too_many_private {n = n} same apart grows =
    value_grows (apart.singles same.is_single.0 n.too_many same.is_single.1) grows

pub same_object : {p : Program} {n : Names} {m : Start} {o : Own} {k : Known}
    → AreSame p n m o k → (l : ℕ) → object_of n l ≡ object_at k l
same_object same l = ap (λ t. Object t (location l)) (sym same.thread)

-- ---- marks

pub mark_few : (end : Option End) → mark end ≤ 64
mark_few None = omega arith
mark_few (Some (at_value v)) = omega arith
mark_few (Some (at_throw v)) = omega arith

pub no_mark : (end : Option End) → (mark end == 0) ≡ true → end ≡ None
no_mark None e = refl
no_mark (Some (at_value v)) e = let z : false ≡ true = e in absurd cc
no_mark (Some (at_throw v)) e = let z : false ≡ true = e in absurd cc

pub has_mark : (end : Option End) → (mark end == 0) ≡ false → (fin : End) × (end ≡ Some fin)
has_mark None e = let z : true ≡ false = e in absurd cc
has_mark (Some fin) e = (fin, refl)

pub mark_tells : (f : End → Term) (end : Option End)
    → is_some (option_map f end) ≡ not (mark end == 0)
mark_tells f None = refl
mark_tells f (Some (at_value v)) = refl
mark_tells f (Some (at_throw v)) = refl

-- what a pick read is there
pub was_there : (s : Store) {d : Effect} (l : ℕ) (v : Value) → d ≡ reading l v → FitsAll d s
    → s l ≡ Some v
was_there s l v e f = (reads_plainly l v s).0.0 (subst (λ x. FitsAll x s) e f)

-- ---- answers

module _ {p : Program} {n : Names} {m : Start} {o : Own} {k : Known} {w : World} {here : Spot}
    {asked : Paths} {path : List ℕ} {standing : List Thread} {s t : Store} {v later : Term}
    {d : Effect} where
  -- the machine with threads does nothing, in the same world
  pub nothing_done : AreStores p n m w standing s t → Quiet w s d
      → Matches p n m o w here asked path later v
      → AnswersCall p n m o k w here asked path standing s t v later d
  nothing_done h q a =
      silently w (follows_self (path ∷ here) w) a (quiet_idle q) (quiet_stores q h)
      (none_queued w w refl refl refl)

  -- it takes a step that changes nothing but its term
  pub step_done : {b : Term} → AreStores p n m w standing s t → Quiet w s d
      → OwnStep p k standing 0 v b (only (paid 1)) → Matches p n m o w here asked path later b
      → AnswersCall p n m o k w here asked path standing s t v later d
  step_done {b} h q step a =
      by_its_step w 0 b (only (paid 1)) (follows_self (path ∷ here) w) step (λ l. tt) a
      (quiet_alike 1 q) (none_added (quiet_stores q h)) (none_queued w w refl refl refl)
      (λ l y e. let z : untouched ≡ made y = e in absurd cc)

-- what is to be shown of a pick
pub record Answer (p : Program) (n : Names) (m : Start) (o : Own) (k : Known) (w : World)
    (here : Spot) (asked : Paths) (path : List ℕ) (standing : List Thread) (s t : Store) (v : Term)
    (r : Ended) (d : Effect) : Type 0 where
  pub later : Term
  pub going : r ≡ goes later
  pub answer : AnswersCall p n m o k w here asked path standing s t v later d

-- the places of an object don't last
pub part_passing : {p : Program} {n : Names} {m : Start} {w : World} {standing : List Thread}
    {s t : Store} → AreStores p n m w standing s t → (l place : ℕ) → IsGiven w l → place < 4
    → w.lasts (l + place) ≡ true → ⊥
part_passing h l place g i e =
    let z : part_of l place ≡ of_prelude =
    sym (h.parts l (object g.0 (given g.1)) g.2 place i) ∙ (h.lasting (l + place) e).0 in
    absurd cc

-- the places of an object aren't for terms of the component
pub part_shut : {p : Program} {n : Names} {m : Start} {w : World} {standing : List Thread}
    {s t : Store} → AreStores p n m w standing s t → (l place : ℕ) → IsGiven w l → place < 4
    → w.serves (l + place) ≡ for_all → ⊥
part_shut h l place g i e =
    let z : part_of l place ≡ for_all = sym (h.parts l (object g.0 (given g.1)) g.2 place i) ∙ e in
    absurd cc

pub given_object : (w : World) (l : ℕ) → IsGiven w l → HasObject (ground_of w) l
given_object w l g = (g.0, ap given_function g.2)
