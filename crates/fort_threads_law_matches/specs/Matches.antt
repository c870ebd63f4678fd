-- Chapter "The machine with threads": a term of a thread in the machine and in the machine with
-- threads: they are the same but at calls that are under way.
use Rattle.std.specs.Prelude.{◌≡◌, ℕ, ◌+◌, List, [], ◌∷◌, ◌++◌, map, ◌⊎◌}
use Rattle.fort_base.specs.declared.ids.Loc.{Loc}
use Rattle.fort_base.specs.declared.ids.SetId.{SetId}
use Rattle.fort_core.specs.declared.program.Program.{Program}
use Rattle.fort_core.specs.declared.term.Term.{Term, Call, Apply, Asleep, Group, Then, ForHalves, ReduceHalves, Also, Stepped}
use Rattle.fort_core.specs.declared.term.Term as term
use Rattle.fort_core.specs.declared.value.Value.{Value}
use Rattle.fort_machine.specs.Ends.{open_yet, standing, group, stepped}
use Rattle.fort_machine.specs.Frames.{Frame, in_group, in_call, in_function, in_argument, in_first_half, in_second_half, in_first_reduced, in_second_reduced, in_block, in_throw, on, plug}
use Rattle.fort_machine.specs.Marked.{Marks, In}
use Rattle.fort_machine.specs.Parts.{IsOneOf}
use Rattle.fort_threads.specs.Threads.{Paths}
use Rattle.fort_threads_law_servers.specs.Prelude.{Names, object_of, number}
use Rattle.fort_threads_law_servers.specs.Calls.{asking}
use Rattle.fort_threads_law_servers.specs.Roots.{Start}
use Rattle.fort_threads_law_private.specs.Private.{IsSecretSet, Private, PrivateValue, AllPrivateValues}
use Rattle.fort_threads_law_worlds.specs.Worlds.{Spot, unused, World, ground_of}
use Rattle.fort_threads_law_worlds.specs.Known.{Own}
use Rattle.fort_threads_law_worlds.specs.Effects.{WatchOpen, open_marks}
use Rattle.fort_threads_law_matches.specs.Ways.{IsUnderWay, IsAhead, Starting, starting_term}

-- A frame of a form whose parts go from left to right, or a mark.
abbrev pub IsInOrder : Frame → Type 0
IsInOrder (in_group before behind) = ⊥
IsInOrder (in_call set before behind) = ⊥
IsInOrder (in_function argument) = ⊥
IsInOrder (in_argument function) = ⊥
IsInOrder (in_first_half second) = ⊥
IsInOrder (in_second_half first) = ⊥
IsInOrder (in_first_reduced set second) = ⊥
IsInOrder (in_second_reduced set first) = ⊥
IsInOrder (in_block before behind) = ⊥
IsInOrder _ = Unit {0}

-- What stands in a throw and isn't a value yet: no term for which the machine with threads may
-- have a value already. So it is where exceptions alone are thrown: these have truths, objects of
-- threads, tuples, or what `run` comes to.
pub record IsThrowable (n : Names) (m : Start) (o : Own) (a : Term) : Type 0 where
  pub no_tuple : (ts : List Term) → a ≡ Group ts → ⊥
  pub no_mark : (t : Term) → a ≡ Stepped t → ⊥
  pub no_thread : (l : ℕ) (x : Value)
      → a ≡ Then (term.Value x) (term.Value (object_of n l)) → ⊥
  pub no_truth : (k : ℕ) → a ≡ asking n (number k) → ⊥
  pub no_run : (place : Starting) → a ≡ starting_term n m o place → ⊥

abbrev pub MayStandIn : Names → Start → Own → Frame → Term → Type 0
MayStandIn n m o in_throw a = standing a ≡ open_yet → IsThrowable n m o a
MayStandIn n m o _ a = Unit {0}

-- The same of each throw among frames.
abbrev pub ThrowsRightly : Names → Start → Own → List Frame → Term → Type 0
ThrowsRightly n m o [] a = Unit {0}
ThrowsRightly n m o (f ∷ fs) a = MayStandIn n m o f (plug fs a) × ThrowsRightly n m o fs a

-- Parallel nodes of any number of parts, and of two.
pub data Many : Type 0 where
  of_group : Many
  of_call : (set : SetId) → Many
  of_block : Many

pub data Pair : Type 0 where
  of_apply : Pair
  of_halves : Pair
  of_reduced : (set : SetId) → Pair

abbrev pub many_term : Many → List Term → Term
many_term of_group ts = group ts
many_term (of_call set) ts = Call set ts
many_term of_block ts = Also ts

abbrev pub pair_term : Pair → Term → Term → Term
pair_term of_apply a b = Apply a b
pair_term of_halves a b = ForHalves a b
pair_term (of_reduced set) a b = ReduceHalves set a b

-- The set that a node calls, if any, isn't the prelude's own.
abbrev pub CallsNoSecret : Names → Start → Many → Type 0
CallsNoSecret n m (of_call set) = IsSecretSet n m set → ⊥
CallsNoSecret n m _ = Unit {0}

abbrev pub PairsNoSecret : Names → Start → Pair → Type 0
PairsNoSecret n m (of_reduced set) = IsSecretSet n m set → ⊥
PairsNoSecret n m _ = Unit {0}

-- In a machine of a world, which stands at a spot, and in which the last attempts of these forms
-- came to forms of their own: a term at a path, as the machine and as the machine with threads
-- has it. They are one and leave the prelude alone; a form sleeps, which watches what terms of
-- the component may see and more; a call is under way; the machine with threads is ahead; or they
-- differ within: in the part that goes of a form whose parts go in order, or in parts that go
-- beside each other.
module _ (p : Program) (n : Names) (m : Start) (o : Own) (w : World) (here : Spot) (asked : Paths)
  where
    mutual
      pub data Matches : List ℕ → Term → Term → Type 0 where
        same : {path : List ℕ} {u v : Term} → u ≡ v → Private p n m (ground_of w) u
            → Matches path u v
        sleeps : {path : List ℕ} {u v : Term} (marks : Marks) (body : Term) → u ≡ Asleep marks body
            → v ≡ Asleep (open_marks w marks) body → Private p n m (ground_of w) body
            → AllPrivateValues p n m (ground_of w)
            (map (λ (e : Loc × Value). e.1) (open_marks w marks))
            → ((l : ℕ) (x : Value) → In l x marks → w.serves l ≡ unused → ⊥)
            → IsOneOf path asked ⊎ WatchOpen m w marks → Matches path u v
        under_way : {path : List ℕ} {u v : Term} → IsUnderWay p n m o w (path ∷ here) u v
            → Matches path u v
        ahead : {path : List ℕ} {u v : Term} (x : Value) → IsAhead n w u x → v ≡ term.Value x
            → PrivateValue p n m (ground_of w) x → Matches path u v
        within : {path : List ℕ} {u v : Term} (f : Frame) (a b : Term) → IsInOrder f
            → ((t : Term) → Private p n m (ground_of w) t → Private p n m (ground_of w) (on f t))
            → standing a ≡ open_yet → MayStandIn n m o f a → u ≡ on f a → v ≡ on f b
            → Matches path a b
            → Matches path u v
        many : {path : List ℕ} {u v : Term} (y : Many) (us vs : List Term) → CallsNoSecret n m y
            → u ≡ many_term y us → v ≡ many_term y vs → AllBeside path 0 us vs → Matches path u v
        pair : {path : List ℕ} {u v : Term} (y : Pair) (a b c d : Term) → PairsNoSecret n m y
            → u ≡ pair_term y a b
            → v ≡ pair_term y c d → IsBeside (path ++ 0 ∷ []) a c → IsBeside (path ++ 1 ∷ []) b d
            → Matches path u v

      -- A part of a parallel node: the same in both; or, where they differ, one in which a step was
      -- taken.
      pub data IsBeside : List ℕ → Term → Term → Type 0 where
        as_it_is : {path : List ℕ} {u v : Term} → u ≡ v → Private p n m (ground_of w) u
            → IsBeside path u v
        marked : {path : List ℕ} {u v : Term} (a b : Term) → standing a ≡ open_yet → u ≡ Stepped a
            → v ≡ stepped b
            → Matches path a b → IsBeside path u v

      pub data AllBeside : List ℕ → ℕ → List Term → List Term → Type 0 where
        no_parts : {path : List ℕ} {i : ℕ} → AllBeside path i [] []
        next_part : {path : List ℕ} {i : ℕ} {u v : Term} {us vs : List Term}
            → IsBeside (path ++ i ∷ []) u v
            → AllBeside path (i + 1) us vs → AllBeside path i (u ∷ us) (v ∷ vs)
