-- A ready part: the same in both, asleep, or a call of the prelude; and atomic forms.
use Rattle.std.proofs.Common.{◌≡◌, ℕ, Bool, true, false, ◌&&◌, List, [], ◌∷◌, ◌++◌, refl, ap, sym, ◌∙◌, subst, ◌⊎◌, inl, inr}
use Rattle.std.specs.List.{list_any}
use Rattle.fort_core.specs.declared.program.Program.{Program}
use Rattle.fort_core.specs.declared.term.Term.{Term, Stepped}
use Rattle.fort_core.specs.declared.term.Term as term
use Rattle.fort_core.specs.declared.term.Term.TheVariants.{outs-Stepped, outs-Call, outs-Also}
use Rattle.fort_core.specs.declared.value.Value.{Value}
use Rattle.fort_machine.specs.Attempts.{Ready}
use Rattle.fort_machine.specs.Ends.{open_yet, standing_at, standing, Finished, still_by, is_mark, is_still, is_thrown}
use Rattle.fort_machine.specs.Frames.{Frame, on, beside, passes}
use Rattle.fort_machine.proofs.Standing.{not_finished}
use Rattle.fort_threads.specs.Threads.{Paths}
use Rattle.fort_threads_law_servers.specs.Prelude.{Names}
use Rattle.fort_threads_law_servers.specs.Roots.{Start}
use Rattle.fort_threads_law_private.specs.Grounds.{Ground}
use Rattle.fort_threads_law_private.specs.Private.{Private, AllPrivate, no_terms, one_more, PrivateValue, no_values}
use Rattle.fort_threads_law_private.proofs.Values.{private_at}
use Rattle.fort_threads_law_private.proofs.Substituting.{group_private}
use Rattle.fort_threads_law_worlds.specs.Worlds.{Spot, World, ground_of}
use Rattle.fort_threads_law_worlds.specs.Known.{Own}
use Rattle.fort_threads_law_matches.specs.Ways.{IsUnderWay, IsAhead}
use Rattle.fort_threads_law_matches.specs.Matches.{CallsNoSecret, PairsNoSecret, Many, of_group, of_call, of_block, Pair, of_apply, of_halves, of_reduced, many_term, pair_term, same, sleeps, under_way, ahead, within, many, pair, IsBeside, as_it_is, marked, AllBeside, no_parts, next_part}
use Rattle.fort_threads_law_matches.specs.Sleepers.{SleepsAlike}
use Rattle.fort_threads_law_matches.specs.Laws.{ReadyMatch}
use Rattle.fort_threads_law_matches.proofs.Nodes.{many_frame, first_frame, second_frame, many_on, first_on, second_on, out_pair}
use Rattle.fort_threads_law_matches.proofs.Placing.{line_passes}

-- a node whose parts leave the prelude alone does
pub many_private : {p : Program} {n : Names} {m : Start} {g : Ground} (y : Many) (ts : List Term)
    → CallsNoSecret n m y → AllPrivate p n m g ts → Private p n m g (many_term y ts)
many_private of_group ts off hs = group_private ts hs
many_private (of_call set) ts off hs =
    private_at (many_term (of_call set) ts) _ (outs-Call set ts) off hs no_values
many_private of_block ts off hs =
    private_at (many_term of_block ts) _ (outs-Also ts) tt hs no_values

pub pair_private : {p : Program} {n : Names} {m : Start} {g : Ground} (y : Pair) (a b : Term)
    → PairsNoSecret n m y → Private p n m g a → Private p n m g b
    → Private p n m g (pair_term y a b)
pair_private of_apply a b off h k =
    private_at _ _ (out_pair of_apply a b) tt (one_more h (one_more k no_terms)) no_values
pair_private of_halves a b off h k =
    private_at _ _ (out_pair of_halves a b) tt (one_more h (one_more k no_terms)) no_values
pair_private (of_reduced set) a b off h k =
    private_at _ _ (out_pair (of_reduced set) a b) off (one_more h (one_more k no_terms)) no_values

-- a marked part is never passed over, so what is round it isn't ready
marked_not_still : (a : Term) → is_still (Stepped a) ≡ false
marked_not_still a = ap (λ y. still_by (standing_at y) (is_mark y)) (outs-Stepped a)

marked_open : (a : Term) → standing (Stepped a) ≡ open_yet
marked_open a = ap standing_at (outs-Stepped a)

and_false : (x : Bool) → (x && false) ≡ false
and_false true = refl
and_false false = refl

pub marked_not_passed : (f : Frame) (a : Term) → passes f (Stepped a) ≡ false
marked_not_passed f a =
    ap (λ x. list_any is_thrown (beside f) && x) (marked_not_still a)
    ∙ and_false (list_any is_thrown (beside f))

pub not_ready : (u : Term) (f : Frame) (x : Term) → standing x ≡ open_yet → passes f x ≡ false
    → u ≡ on f x → Ready u → ⊥
not_ready u f x ox e q r = go (r.no_part f x q)
  where
    go : Finished x ⊎ (passes f x ≡ true) → ⊥
    go (inl h) = not_finished x ox h
    go (inr h) = let z : true ≡ false = sym h ∙ e in cc

pub marked_not_ready : (u : Term) (f : Frame) (a : Term) → u ≡ on f (Stepped a) → Ready u → ⊥
marked_not_ready u f a q r =
    not_ready u f (Stepped a) (marked_open a) (marked_not_passed f a) q r

-- a part is marked
pub record MarkedPart (us : List Term) : Type 0 where
  pub before : List Term
  pub part : Term
  pub behind : List Term
  pub are_all : us ≡ before ++ Stepped part ∷ behind

module _ {p : Program} {n : Names} {m : Start} {o : Own} {w : World} {here : Spot} {asked : Paths}
  where
    same_or_marked : {path : List ℕ} {i : ℕ} {us vs : List Term}
        → AllBeside p n m o w here asked path i us vs
        → ((us ≡ vs) × AllPrivate p n m (ground_of w) us) ⊎ MarkedPart us
    same_or_marked no_parts = inl (refl, no_terms)
    same_or_marked (next_part {u = u} {v = v} {us = us} {vs = vs} h rest) =
        go h (same_or_marked rest)
      where
        go : {q : List ℕ} → IsBeside p n m o w here asked q u v
            → ((us ≡ vs) × AllPrivate p n m (ground_of w) us) ⊎ MarkedPart us
            → ((u ∷ us ≡ v ∷ vs) × AllPrivate p n m (ground_of w) (u ∷ us)) ⊎ MarkedPart (u ∷ us)
        go (as_it_is e h) (inl k) = inl (λ i. (e i) ∷ (k.0 i), one_more h k.1)
        go (as_it_is e h) (inr k) =
            inr (record {
              before = u ∷ k.before;
              part = k.part;
              behind = k.behind;
              are_all = ap (λ z. u ∷ z) k.are_all;
            })
        go (marked a b oa e f h) k =
            inr (record {
              before = [];
              part = a;
              behind = us;
              are_all = ap (λ z. z ∷ us) e;
            })

-- what a ready part is
pub ready_match : ReadyMatch
ready_match p n m o w here asked path u v (same e h) r = inl (e, h)
ready_match p n m o w here asked path u v (sleeps marks body e f h hs used q) r =
    inr (inl (record {
      marks = marks;
      body = body;
      is_form = e;
      is_other = f;
      private_body = h;
      private_marks = hs;
      came = q;
    }))
ready_match p n m o w here asked path u v (under_way h) r = inr (inr (inl h))
ready_match p n m o w here asked path u v (ahead x h e k) r = inr (inr (inr (x, h, e, k)))
ready_match p n m o w here asked path u v (within f a b line rest oa may e q h) r =
    absurd (not_ready u f a oa (line_passes f a line) e r)
ready_match p n m o w here asked path u v (many y us vs off e q hs) r = go (same_or_marked hs)
  where
    go : ((us ≡ vs) × AllPrivate p n m (ground_of w) us) ⊎ MarkedPart us
        → ((u ≡ v) × Private p n m (ground_of w) u)
        ⊎ (SleepsAlike p n m w asked path u v ⊎ (IsUnderWay p n m o w (path ∷ here) u v
        ⊎ ((x : Value) × IsAhead n w u x × (v ≡ term.Value x)
        × PrivateValue p n m (ground_of w) x)))
    go (inl k) =
        inl (
          e ∙ ap (many_term y) k.0 ∙ sym q,
          subst (Private p n m (ground_of w)) (sym e) (many_private y us off k.1),
        )
    go (inr k) =
        absurd (marked_not_ready u (many_frame y k.before k.behind) k.part
        (e ∙ ap (many_term y) k.are_all ∙ many_on y k.before k.behind (Stepped k.part)) r)
ready_match p n m o w here asked path u v (pair y a b c d off e q h k) r = go h k
  where
    go : {x z : List ℕ} → IsBeside p n m o w here asked x a c → IsBeside p n m o w here asked z b d
        → ((u ≡ v) × Private p n m (ground_of w) u)
        ⊎ (SleepsAlike p n m w asked path u v ⊎ (IsUnderWay p n m o w (path ∷ here) u v
        ⊎ ((x : Value) × IsAhead n w u x × (v ≡ term.Value x)
        × PrivateValue p n m (ground_of w) x)))
    go (as_it_is f i) (as_it_is g j) =
        inl (
          e ∙ (λ t. pair_term y (f t) (g t)) ∙ sym q,
          subst (Private p n m (ground_of w)) (sym e) (pair_private y a b off i j),
        )
    go (as_it_is f i) (marked a1 b1 o1 e1 f1 h1) =
        absurd (marked_not_ready u (second_frame y a) a1
        (e ∙ ap (pair_term y a) e1 ∙ second_on y a (Stepped a1)) r)
    go (marked a1 b1 o1 e1 f1 h1) g =
        absurd (marked_not_ready u (first_frame y b) a1
        (e ∙ ap (λ z. pair_term y z b) e1 ∙ first_on y (Stepped a1) b) r)
