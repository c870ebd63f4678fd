-- A term that matches, round an open part of the machine's: what the machine with threads has
-- there.
use Rattle.std.proofs.Common.{◌≡◌, ℕ, ◌+◌, Bool, true, false, ◌||◌, List, [], ◌∷◌, ◌++◌, length, refl, ap, sym, ◌∙◌, subst, inl, inr, arith}
use Rattle.std.specs.List.{list_any}
use Rattle.fort_core.specs.declared.form.Mode.TheVariants as mode
use Rattle.fort_core.specs.declared.program.Program.{Program}
use Rattle.fort_core.specs.declared.term.Term.{Term}
use Rattle.fort_core.specs.declared.term.Term as term
use Rattle.fort_core.specs.declared.value.Value.{Value}
use Rattle.fort_machine.specs.Attempts.{slept}
use Rattle.fort_machine.specs.Ends.{open_yet, standing, is_thrown}
use Rattle.fort_machine.specs.Frames.{Frame, in_stepped, on, plug, part_number, beside, with_mark}
use Rattle.fort_machine.proofs.Places.{on_open}
use Rattle.fort_machine.proofs.Ready.{form_whole}
use Rattle.fort_threads.specs.Threads.{Paths}
use Rattle.fort_threads_law_servers.specs.Prelude.{Names}
use Rattle.fort_threads_law_servers.specs.Roots.{Start}
use Rattle.fort_threads_law_private.specs.Grounds.{Ground}
use Rattle.fort_threads_law_private.specs.Private.{Private, AllPrivate, no_terms, one_more, PrivateValue}
use Rattle.fort_threads_law_private.proofs.Values.{privates_as, first_of, rest_of}
use Rattle.fort_threads_law_private.proofs.Frames.{plug_private}
use Rattle.fort_threads_law_worlds.specs.Worlds.{Spot, World, ground_of, FollowsAt}
use Rattle.fort_threads_law_worlds.specs.Known.{Own}
use Rattle.fort_threads_law_matches.specs.Ways.{IsUnderWay, IsAhead}
use Rattle.fort_threads_law_matches.specs.Matches.{IsInOrder, CallsNoSecret, PairsNoSecret, Many, of_group, of_call, of_block, Pair, of_apply, of_halves, of_reduced, many_term, pair_term, Matches, same, sleeps, under_way, ahead, within, many, pair, IsBeside, as_it_is, AllBeside, no_parts, next_part}
use Rattle.fort_threads_law_matches.specs.Placed.{KeepsOthers}
use Rattle.fort_threads_law_matches.proofs.Nodes.{many_frame, first_frame, second_frame, many_on, first_on, second_on, Kind, in_line, of_many, of_first, of_second, kind, line_number, one_part, many_form, part_of_many, PartOfPair, first_part, second_part, part_of_pair, out_pair}
use Rattle.fort_threads_law_matches.proofs.Open.{thrown_same, all_thrown}
use Rattle.fort_threads_law_matches.proofs.Follows.{IsRound, part_follows, others_follow, other_part}
use Rattle.fort_threads_law_matches.proofs.Own.{IsOwnForm, many_not_form, pair_not_form}

-- whether frames begin with a mark, and what is behind it
abbrev pub begins : List Frame → Bool
begins [] = false
begins (in_stepped ∷ fs) = true
begins (f ∷ fs) = false

pub begins_head : (f : Frame) (xs ys : List Frame) → begins (f ∷ xs) ≡ begins (f ∷ ys)
begins_head in_stepped xs ys = refl
begins_head _ xs ys = refl

pub begins_front : (outer inner : List Frame) → begins (outer ++ inner) ≡ false
    → begins outer ≡ false
begins_front [] inner e = refl
begins_front (in_stepped ∷ outer) inner e = absurd cc
begins_front (f ∷ outer) inner e = refl

-- frames of parallel nodes
pub many_number : (y : Many) (before behind : List Term)
    → part_number (many_frame y before behind) ≡ (0 + length before) ∷ []
many_number of_group before behind = ap (λ z. z ∷ []) (omega arith)
many_number (of_call set) before behind = ap (λ z. z ∷ []) (omega arith)
many_number of_block before behind = ap (λ z. z ∷ []) (omega arith)

pub many_beside : (y : Many) (before behind : List Term)
    → beside (many_frame y before behind) ≡ before ++ behind
many_beside of_group before behind = refl
many_beside (of_call set) before behind = refl
many_beside of_block before behind = refl

many_begins : (y : Many) (before behind : List Term)
    → begins (many_frame y before behind ∷ []) ≡ false
many_begins of_group before behind = refl
many_begins (of_call set) before behind = refl
many_begins of_block before behind = refl

pub first_number : (y : Pair) (b : Term) → part_number (first_frame y b) ≡ 0 ∷ []
first_number of_apply b = refl
first_number of_halves b = refl
first_number (of_reduced set) b = refl

pub first_beside : (y : Pair) (b : Term) → beside (first_frame y b) ≡ b ∷ []
first_beside of_apply b = refl
first_beside of_halves b = refl
first_beside (of_reduced set) b = refl

first_begins : (y : Pair) (b : Term) → begins (first_frame y b ∷ []) ≡ false
first_begins of_apply b = refl
first_begins of_halves b = refl
first_begins (of_reduced set) b = refl

pub second_number : (y : Pair) (a : Term) → part_number (second_frame y a) ≡ 1 ∷ []
second_number of_apply a = refl
second_number of_halves a = refl
second_number (of_reduced set) a = refl

pub second_beside : (y : Pair) (a : Term) → beside (second_frame y a) ≡ a ∷ []
second_beside of_apply a = refl
second_beside of_halves a = refl
second_beside (of_reduced set) a = refl

second_begins : (y : Pair) (a : Term) → begins (second_frame y a ∷ []) ≡ false
second_begins of_apply a = refl
second_begins of_halves a = refl
second_begins (of_reduced set) a = refl

-- what is known of a node's parts that leave the prelude alone
many_privates : (p : Program) (n : Names) (m : Start) (g : Ground) (y : Many) (ts : List Term)
    → standing (many_term y ts) ≡ open_yet → Private p n m g (many_term y ts)
    → CallsNoSecret n m y × AllPrivate p n m g ts
many_privates p n m g of_group ts o h =
    (tt, (privates_as _ (many_form of_group ts o) h).terms)
many_privates p n m g (of_call set) ts o h =
    let r = privates_as _ (many_form (of_call set) ts o) h in (r.keeps, r.terms)
many_privates p n m g of_block ts o h =
    (tt, (privates_as _ (many_form of_block ts o) h).terms)

pair_privates : (p : Program) (n : Names) (m : Start) (g : Ground) (y : Pair) (a b : Term)
    → Private p n m g (pair_term y a b)
    → PairsNoSecret n m y × Private p n m g a × Private p n m g b
pair_privates p n m g of_apply a b h =
    let r = privates_as _ (out_pair of_apply a b) h in
    (tt, first_of r.terms, first_of (rest_of r.terms))
pair_privates p n m g of_halves a b h =
    let r = privates_as _ (out_pair of_halves a b) h in
    (tt, first_of r.terms, first_of (rest_of r.terms))
pair_privates p n m g (of_reduced set) a b h =
    let r = privates_as _ (out_pair (of_reduced set) a b) h in
    (r.keeps, first_of r.terms, first_of (rest_of r.terms))

or_true : (x : Bool) → (x || true) ≡ true
or_true true = refl
or_true false = refl

-- parts before and behind one
module _ (p : Program) (n : Names) (m : Start) (o : Own) (w : World) (here : Spot) (asked : Paths)
  where
    pub record Split (path : List ℕ) (i : ℕ) (before : List Term) (x : Term) (behind vs : List Term)
        : Type 0 where
      pub before' : List Term
      pub x' : Term
      pub behind' : List Term
      pub are_all : vs ≡ before' ++ x' ∷ behind'
      pub same_length : length before' ≡ length before
      pub head : AllBeside p n m o w here asked path i before before'
      pub part : IsBeside p n m o w here asked (path ++ (i + length before) ∷ []) x x'
      pub tail : AllBeside p n m o w here asked path ((i + length before) + 1) behind behind'

    split : {path : List ℕ} {i : ℕ} {us vs : List Term} (before : List Term) (x : Term)
        (behind : List Term) → AllBeside p n m o w here asked path i us vs
        → us ≡ before ++ x ∷ behind → Split path i before x behind vs
    split [] x behind no_parts e = absurd cc
    split {path} {i} [] x behind (next_part {u = u} {v = v} {us = us} {vs = vs} h rest) e =
        let a : u ≡ x = cc in let b : us ≡ behind = cc in
        let c : i ≡ i + 0 = omega arith in
        record {
          before' = [];
          x' = v;
          behind' = vs;
          are_all = refl;
          same_length = refl;
          head = no_parts;
          part = subst (λ z. IsBeside p n m o w here asked (path ++ z ∷ []) x v) c
              (subst (λ z. IsBeside p n m o w here asked (path ++ i ∷ []) z v) a h);
          tail = subst (λ z. AllBeside p n m o w here asked path (z + 1) behind vs) c
              (subst (λ z. AllBeside p n m o w here asked path (i + 1) z vs) b rest);
        }
    split (t ∷ before) x behind no_parts e = absurd cc
    split {path} {i} (t ∷ before) x behind
        (next_part {u = u} {v = v} {us = us} {vs = vs} h rest) e =
        let a : u ≡ t = cc in
        let s = split {path = path} {i = i + 1} before x behind rest (cc) in
        let c : (i + 1) + length before ≡ i + length (t ∷ before) = omega arith in
        record {
          before' = v ∷ s.before';
          x' = s.x';
          behind' = s.behind';
          are_all = ap (λ z. v ∷ z) s.are_all;
          same_length = let l : length s.before' ≡ length before = s.same_length in omega arith;
          head = next_part (subst (λ z. IsBeside p n m o w here asked (path ++ i ∷ []) z v) a h)
              s.head;
          part = subst (λ z. IsBeside p n m o w here asked (path ++ z ∷ []) x s.x') c s.part;
          tail = subst (λ z. AllBeside p n m o w here asked path (z + 1) behind s.behind') c s.tail;
        }

    all_same : {path : List ℕ} (us : List Term) (i : ℕ) → AllPrivate p n m (ground_of w) us
        → AllBeside p n m o w here asked path i us us
    all_same [] i no_terms = no_parts
    all_same (u ∷ us) i (one_more h hs) = next_part (as_it_is refl h) (all_same us (i + 1) hs)

    before_same : {path : List ℕ} (before : List Term) (x : Term) (behind : List Term) (i : ℕ)
        → AllPrivate p n m (ground_of w) (before ++ x ∷ behind)
        → AllBeside p n m o w here asked path i before before
    before_same [] x behind i hs = no_parts
    before_same (t ∷ before) x behind i (one_more h hs) =
        next_part (as_it_is refl h) (before_same before x behind (i + 1) hs)

    part_private : (before : List Term) (x : Term) (behind : List Term)
        → AllPrivate p n m (ground_of w) (before ++ x ∷ behind)
        → Private p n m (ground_of w) x × AllPrivate p n m (ground_of w) behind
    part_private [] x behind (one_more h hs) = (h, hs)
    part_private (t ∷ before) x behind (one_more h hs) = part_private before x behind hs

    abbrev same_split : {path : List ℕ} (before : List Term) (x : Term) (behind : List Term)
        → AllPrivate p n m (ground_of w) (before ++ x ∷ behind)
        → Split path 0 before x behind (before ++ x ∷ behind)
    same_split before x behind hs =
        record {
          before' = before;
          x' = x;
          behind' = behind;
          are_all = refl;
          same_length = refl;
          head = before_same before x behind 0 hs;
          part = as_it_is refl (part_private before x behind hs).0;
          tail = all_same behind ((0 + length before) + 1) (part_private before x behind hs).1;
        }

    rejoin : {path : List ℕ} {i : ℕ} {before before' : List Term} {x x' : Term}
        {behind behind' : List Term} → AllBeside p n m o w here asked path i before before'
        → IsBeside p n m o w here asked (path ++ (i + length before) ∷ []) x x'
        → AllBeside p n m o w here asked path ((i + length before) + 1) behind behind'
        → AllBeside p n m o w here asked path i (before ++ x ∷ behind) (before' ++ x' ∷ behind')
    rejoin {path} {i} {x = x} {x' = x'} {behind = behind} {behind' = behind'} no_parts h k =
        let c : i + 0 ≡ i = omega arith in
        next_part (subst (λ z. IsBeside p n m o w here asked (path ++ z ∷ []) x x') c h)
        (subst (λ z. AllBeside p n m o w here asked path (z + 1) behind behind') c k)
    rejoin {path} {i} {x = x} {x' = x'} {behind = behind} {behind' = behind'}
        (next_part {u = u} {us = us} g rest) h k =
        let c : i + length (u ∷ us) ≡ (i + 1) + length us = omega arith in
        next_part g
        (rejoin rest (subst (λ z. IsBeside p n m o w here asked (path ++ z ∷ []) x x') c h)
        (subst (λ z. AllBeside p n m o w here asked path (z + 1) behind behind') c k))

    join_thrown : {path : List ℕ} {i : ℕ} {us vs : List Term} (bs cs : List Term)
        → AllBeside p n m o w here asked path i us vs
        → (list_any is_thrown cs ≡ true → list_any is_thrown bs ≡ true)
        → list_any is_thrown (vs ++ cs) ≡ true → list_any is_thrown (us ++ bs) ≡ true
    join_thrown bs cs no_parts f t = f t
    join_thrown bs cs (next_part {u = u} {v = v} {us = us} {vs = vs} h rest) f t =
        go (is_thrown v) refl (join_thrown bs cs rest f)
      where
        go : (b : Bool) → is_thrown v ≡ b
            → (list_any is_thrown (vs ++ cs) ≡ true → list_any is_thrown (us ++ bs) ≡ true)
            → (is_thrown u || list_any is_thrown (us ++ bs)) ≡ true
        go true e k = ap (λ x. x || list_any is_thrown (us ++ bs))
            (ap is_thrown (thrown_same h e) ∙ e)
        go false e k =
            ap (λ x. is_thrown u || x)
            (k (ap (λ x. x || list_any is_thrown (vs ++ cs)) (sym e) ∙ t))
            ∙ or_true (is_thrown u)

module _ (p : Program) (n : Names) (m : Start) (o : Own) (w : World) (here : Spot) (asked : Paths)
  where
    -- they are the same
    abbrev pub IsSame : {path : List ℕ} {u v : Term} → Matches p n m o w here asked path u v
        → Type 0
    IsSame (same e h) = Unit {0}
    IsSame _ = ⊥

    abbrev pub IsAsItIs : {path : List ℕ} {u v : Term} → IsBeside p n m o w here asked path u v
        → Type 0
    IsAsItIs (as_it_is e h) = Unit {0}
    IsAsItIs _ = ⊥

    -- what is round an open part, and what may stand round it in the machine with threads once
    -- steps were taken there
    abbrev pub Rebuilds : List ℕ → ℕ → Frame → Frame → Type 0
    Rebuilds path i f g =
        (later : World) (asked' : Paths) (q more : List ℕ) (b c : Term)
        → FollowsAt (q ∷ here) w later
        → KeepsOthers q asked asked' → q ≡ path ++ i ∷ more
        → IsBeside p n m o later here asked' (path ++ i ∷ []) b c
        → Matches p n m o later here asked' path (on f b) (on g c)

    -- (`so` says that they are the same)
    pub data Opened (so : Type 0) (path : List ℕ) (v : Term) (f : Frame) (x : Term) : Type 0 where
      in_order : IsInOrder f → IsRound p n m w f → (b : Term) → v ≡ on f b
          → (h : Matches p n m o w here asked path x b) → (so → IsSame h) → Opened so path v f x
      in_node : (g : Frame) (x' : Term) (i : ℕ) → part_number f ≡ i ∷ [] → part_number g ≡ i ∷ []
          → v ≡ on g x' → (h : IsBeside p n m o w here asked (path ++ i ∷ []) x x')
          → (so → IsAsItIs h)
          → (list_any is_thrown (beside g) ≡ true → list_any is_thrown (beside f) ≡ true)
          → ((t : Term) → IsOwnForm n (on g t) → ⊥) → Rebuilds path i f g
          → begins (g ∷ []) ≡ false → Opened so path v f x
      at_call : IsUnderWay p n m o w (path ∷ here) (on f x) v → (so → ⊥) → Opened so path v f x
      is_ahead : (y : Value) → IsAhead n w (on f x) y → v ≡ term.Value y
          → PrivateValue p n m (ground_of w) y → (so → ⊥) → Opened so path v f x

    -- a node of many parts
    in_many : {path : List ℕ} {v x : Term} {f : Frame} (so : Type 0) (y : Many)
        (before behind vs : List Term)
        → CallsNoSecret n m y → f ≡ many_frame y before behind → v ≡ many_term y vs
        → (s : Split p n m o w here asked path 0 before x behind vs) → (so → IsAsItIs s.part)
        → Opened so path v f x
    in_many {path} {v} {x} {f} so y before behind vs off ef ev s si =
        subst (λ z. Opened so path v z x) (sym ef)
        (in_node (many_frame y s.before' s.behind') s.x' (0 + length before)
        (many_number y before behind)
        (many_number y s.before' s.behind' ∙ ap (λ z. (0 + z) ∷ []) s.same_length)
        (ev ∙ ap (many_term y) s.are_all ∙ many_on y s.before' s.behind' s.x')
        s.part si
        (λ t. ap (list_any is_thrown) (many_beside y before behind)
        ∙ join_thrown p n m o w here asked behind s.behind' s.head (all_thrown s.tail)
        (ap (list_any is_thrown) (sym (many_beside y s.before' s.behind')) ∙ t))
        (λ t h. many_not_form n y (s.before' ++ t ∷ s.behind')
        (subst (IsOwnForm n) (sym (many_on y s.before' s.behind' t)) h))
        (λ later asked' q more b c fol keeps e h.
        subst (λ z. Matches p n m o later here asked' path z
        (on (many_frame y s.before' s.behind') c))
        (many_on y before behind b)
        (many y (before ++ b ∷ behind) (s.before' ++ c ∷ s.behind') off refl
        (sym (many_on y s.before' s.behind' c))
        (rejoin p n m o later here asked'
        (others_follow q (0 + length before) more fol keeps e (inr (omega arith)) s.head) h
        (others_follow q (0 + length before) more fol keeps e (inl (omega arith)) s.tail))))
        (many_begins y s.before' s.behind'))

    -- a node of two parts
    in_first : {path : List ℕ} {v x : Term} {f : Frame} (so : Type 0) (y : Pair) (b c d : Term)
        → PairsNoSecret n m y → f ≡ first_frame y b → v ≡ pair_term y c d
        → (h : IsBeside p n m o w here asked (path ++ 0 ∷ []) x c) → (so → IsAsItIs h)
        → IsBeside p n m o w here asked (path ++ 1 ∷ []) b d → Opened so path v f x
    in_first {path} {v} {x} {f} so y b c d off ef ev h si k =
        subst (λ z. Opened so path v z x) (sym ef)
        (in_node (first_frame y d) c 0 (first_number y b) (first_number y d)
        (ev ∙ first_on y c d) h si
        (λ t. ap (list_any is_thrown) (first_beside y b)
        ∙ all_thrown (next_part {i = 1} k no_parts)
        (ap (list_any is_thrown) (sym (first_beside y d)) ∙ t))
        (λ t i. pair_not_form n y t d (subst (IsOwnForm n) (sym (first_on y t d)) i))
        (λ later asked' q more b' c' fol keeps e i.
        pair y b' b c' d off (sym (first_on y b' b)) (sym (first_on y c' d)) i
        (part_follows q (path ++ 1 ∷ []) fol keeps (other_part q path 0 1 more e (λ z. omega arith))
        k))
        (first_begins y d))

    in_second : {path : List ℕ} {v x : Term} {f : Frame} (so : Type 0) (y : Pair) (a c d : Term)
        → PairsNoSecret n m y → f ≡ second_frame y a → v ≡ pair_term y c d
        → IsBeside p n m o w here asked (path ++ 0 ∷ []) a c
        → (k : IsBeside p n m o w here asked (path ++ 1 ∷ []) x d) → (so → IsAsItIs k)
        → Opened so path v f x
    in_second {path} {v} {x} {f} so y a c d off ef ev h k si =
        subst (λ z. Opened so path v z x) (sym ef)
        (in_node (second_frame y c) d 1 (second_number y a) (second_number y c)
        (ev ∙ second_on y c d) k si
        (λ t. ap (list_any is_thrown) (second_beside y a)
        ∙ all_thrown (next_part {i = 0} h no_parts)
        (ap (list_any is_thrown) (sym (second_beside y c)) ∙ t))
        (λ t i. pair_not_form n y c t (subst (IsOwnForm n) (sym (second_on y c t)) i))
        (λ later asked' q more b' c' fol keeps e i.
        pair y a b' c c' off (sym (second_on y a b')) (sym (second_on y c c'))
        (part_follows q (path ++ 0 ∷ []) fol keeps (other_part q path 1 0 more e (λ z. omega arith))
        h) i)
        (second_begins y c))

    -- what is the same and leaves the prelude alone
    open_same : {path : List ℕ} {v : Term} (so : Type 0) (f : Frame) (x : Term)
        → standing x ≡ open_yet
        → on f x ≡ v → Private p n m (ground_of w) (on f x) → Opened so path v f x
    open_same {path} {v} so f x ox e h = go (kind f)
      where
        r : Private p n m (ground_of w) x
            × ((t : Term) → Private p n m (ground_of w) t
            → Private p n m (ground_of w) (on f (plug (with_mark (part_number f) []) t)))
        r = plug_private (f ∷ []) x ox h

        by_many : (y : Many) (before behind : List Term) → f ≡ many_frame y before behind
            → CallsNoSecret n m y
            × AllPrivate p n m (ground_of w) (before ++ x ∷ behind)
            → Opened so path v f x
        by_many y before behind ef k =
            in_many so y before behind (before ++ x ∷ behind) k.0 ef
            (sym e ∙ ap (λ g. on g x) ef ∙ sym (many_on y before behind x))
            (same_split p n m o w here asked before x behind k.1)
            (λ z. tt)

        go : Kind f → Opened so path v f x
        go (in_line line) =
            in_order line (λ t k. subst (Private p n m (ground_of w))
            (ap (λ ns. on f (plug (with_mark ns []) t)) (line_number f line)) (r.1 t k)) x (sym e)
            (same refl r.0) (λ z. tt)
        go (of_many y before behind ef) =
            let q : on f x ≡ many_term y (before ++ x ∷ behind) =
            ap (λ g. on g x) ef ∙ sym (many_on y before behind x) in
            by_many y before behind ef
            (many_privates p n m (ground_of w) y (before ++ x ∷ behind)
            (ap standing (sym q) ∙ on_open f x ox) (subst (Private p n m (ground_of w)) q h))
        go (of_first y b ef) =
            let q : on f x ≡ pair_term y x b = ap (λ g. on g x) ef ∙ sym (first_on y x b) in
            let k = pair_privates p n m (ground_of w) y x b
            (subst (Private p n m (ground_of w)) q h)
            in
            in_first so y b x b k.0 ef (sym e ∙ q) (as_it_is refl k.1) (λ z. tt) (as_it_is refl k.2)
        go (of_second y a ef) =
            let q : on f x ≡ pair_term y a x = ap (λ g. on g x) ef ∙ sym (second_on y a x) in
            let k = pair_privates p n m (ground_of w) y a x
            (subst (Private p n m (ground_of w)) q h)
            in
            in_second so y a a x k.0 ef (sym e ∙ q) (as_it_is refl k.1) (as_it_is refl k.2)
            (λ z. tt)

    -- round an open part of the machine's
    pub open_up : {path : List ℕ} {u v : Term} (h : Matches p n m o w here asked path u v)
        (f : Frame) (x : Term) → standing x ≡ open_yet → u ≡ on f x → Opened (IsSame h) path v f x
    open_up (same e h) f x ox q =
        open_same (Unit {0}) f x ox (sym q ∙ e) (subst (Private p n m (ground_of w)) q h)
    open_up {path} {u} {v} (sleeps marks body e g h hs used a) f x ox q =
        absurd (form_whole u mode.Atomic body (slept marks refl e) f x ox q)
    open_up {path} {u} {v} (under_way h) f x ox q =
        at_call (subst (λ z. IsUnderWay p n m o w (path ∷ here) z v) q h) (λ z. z)
    open_up (ahead y h e k) f x ox q = is_ahead y (subst (λ z. IsAhead n w z y) q h) e k (λ z. z)
    open_up {path} {u} {v} (within g a b line rest oa may e r h) f x ox q =
        let z = one_part g f a x line oa ox (sym e ∙ q) in
        in_order (subst IsInOrder z.0 line) (subst (IsRound p n m w) z.0 rest) b
        (r ∙ ap (λ k. on k b) z.0)
        (subst (λ k. Matches p n m o w here asked path k b) z.1 h) (λ z. absurd z)
    open_up {path} {u} {v} (many y us vs off e r hs) f x ox q =
        let k = part_of_many y us f x ox (sym e ∙ q) in
        in_many ⊥ y k.before k.behind vs off k.is_frame r
        (split p n m o w here asked k.before x k.behind hs k.are_parts) (λ z. absurd z)
    open_up {path} {u} {v} (pair y a b c d off e r h k) f x ox q =
        go (part_of_pair y a b f x ox (sym e ∙ q))
      where
        go : PartOfPair y a b f x → Opened ⊥ path v f x
        go (first_part ef z) =
            in_first ⊥ y b c d off ef r
            (subst (λ t. IsBeside p n m o w here asked (path ++ 0 ∷ []) t c) z h) (λ z. absurd z) k
        go (second_part ef z) =
            in_second ⊥ y a c d off ef r h
            (subst (λ t. IsBeside p n m o w here asked (path ++ 1 ∷ []) t d) z k) (λ z. absurd z)
