-- Each open part has its place in both terms.
use Rattle.std.proofs.Common.{◌≡◌, ℕ, Bool, true, false, ◌&&◌, ◌||◌, List, [], ◌∷◌, ◌++◌, refl, ap, sym, ◌∙◌, subst, ◌⊎◌, inl, inr, append_assoc, append-nil}
use Rattle.std.specs.List.{list_any}
use Rattle.fort_core.specs.declared.program.Program.{Program}
use Rattle.fort_core.specs.declared.term.Term.{Term, Stepped}
use Rattle.fort_core.specs.declared.term.Term as term
use Rattle.fort_core.specs.declared.value.Value.{Value}
use Rattle.fort_machine.specs.Attempts.{Ready}
use Rattle.fort_machine.specs.Ends.{open_yet, standing, Finished, stepped, is_still, is_thrown}
use Rattle.fort_machine.specs.Frames.{Frame, in_group, in_call, in_function, in_argument, in_first_half, in_second_half, in_first_reduced, in_second_reduced, in_block, in_stepped, on, plug, part_number, road, beside, passes, passed, with_mark, trodden}
use Rattle.fort_machine.proofs.Standing.{not_finished, stepped_open, or_false}
use Rattle.fort_machine.proofs.Places.{plug_open}
use Rattle.fort_threads.specs.Known.{Known, Outside}
use Rattle.fort_threads.specs.Known as known
use Rattle.fort_threads.specs.Threads.{Paths}
use Rattle.fort_threads_law_servers.specs.Prelude.{Names}
use Rattle.fort_threads_law_servers.specs.Calls.{mark_at}
use Rattle.fort_threads_law_servers.specs.Roots.{Start}
use Rattle.fort_threads_law_private.specs.Private.{Private, PrivateValue}
use Rattle.fort_threads_law_private.proofs.Frames.{plug_private, stepped_private}
use Rattle.fort_threads_law_worlds.specs.Worlds.{Spot, World, ground_of, FollowsAt}
use Rattle.fort_threads_law_worlds.specs.Known.{Own, AreSame}
use Rattle.fort_threads_law_matches.specs.Ways.{IsUnderWay, IsAhead}
use Rattle.fort_threads_law_matches.specs.Matches.{IsInOrder, MayStandIn, ThrowsRightly, Matches, same, within, IsBeside, as_it_is, marked}
use Rattle.fort_threads_law_matches.specs.Placed.{KeepsOthers, Placed}
use Rattle.fort_threads_law_matches.specs.Laws.{EachIsPlaced}
use Rattle.fort_threads_law_matches.proofs.Nodes.{line_number, one_part}
use Rattle.fort_threads_law_matches.proofs.Open.{matches_open, is_still_too}
use Rattle.fort_threads_law_matches.proofs.Follows.{IsRound, line_follows}
use Rattle.fort_threads_law_matches.proofs.Own.{IsOwnForm, own_form, line_not_form, no_mark}
use Rattle.fort_threads_law_matches.proofs.Opened.{begins, begins_head, begins_front, IsSame, IsAsItIs, Rebuilds, Opened, in_order, in_node, at_call, is_ahead, open_up}

-- frames without the mark with which they begin
abbrev pub strip : List Frame → List Frame
strip [] = []
strip (in_stepped ∷ fs) = fs
strip (f ∷ fs) = f ∷ fs

strip_same : (fs : List Frame) → begins fs ≡ false → strip fs ≡ fs
strip_same [] e = refl
strip_same (in_stepped ∷ fs) e = absurd cc
strip_same (f ∷ fs) e = refl

marked_strip : (k : ℕ) (ns : List ℕ) (fs : List Frame)
    → with_mark (k ∷ ns) (trodden fs) ≡ in_stepped ∷ trodden (strip fs)
marked_strip k ns [] = refl
marked_strip k ns (in_stepped ∷ fs) = refl
marked_strip k ns (f ∷ fs) = refl

marked_bare : (k : ℕ) (fs : List Frame) → begins fs ≡ false
    → with_mark (k ∷ []) (trodden fs) ≡ in_stepped ∷ trodden fs
marked_bare k fs e =
    marked_strip k [] fs ∙ ap (λ z. in_stepped ∷ trodden z) (strip_same fs e)

line_trodden : (f : Frame) (fs : List Frame) → IsInOrder f → trodden (f ∷ fs) ≡ f ∷ trodden fs
line_trodden f fs line = ap (λ ns. f ∷ with_mark ns (trodden fs)) (line_number f line)

node_trodden : (f : Frame) (fs : List Frame) (i : ℕ) → part_number f ≡ i ∷ []
    → trodden (f ∷ fs) ≡ f ∷ with_mark (i ∷ []) (trodden fs)
node_trodden f fs i e = ap (λ ns. f ∷ with_mark ns (trodden fs)) e

pub line_passes : (f : Frame) (t : Term) → IsInOrder f → passes f t ≡ false
line_passes (in_group before behind) t line = absurd line
line_passes (in_call set before behind) t line = absurd line
line_passes (in_block before behind) t line = absurd line
line_passes (in_function b) t line = absurd line
line_passes (in_first_half b) t line = absurd line
line_passes (in_first_reduced set b) t line = absurd line
line_passes (in_argument a) t line = absurd line
line_passes (in_second_half a) t line = absurd line
line_passes (in_second_reduced set a) t line = absurd line
line_passes _ t line = refl

pub less_true : (a b c d : Bool) → (a ≡ true → c ≡ true) → (b ≡ true → d ≡ true)
    → (c && d) ≡ false → (a && b) ≡ false
less_true true true c d f g e =
    let x : c ≡ true = f refl in let y : d ≡ true = g refl in
    let z : true ≡ false = (λ i. (sym x i) && (sym y i)) ∙ e in absurd cc
less_true true false c d f g e = refl
less_true false b c d f g e = refl

no_frames : (gs hs : List Frame) (f : Frame) → [] ≡ gs ++ f ∷ hs → ⊥
no_frames [] hs f e = cc
no_frames (g ∷ gs) hs f e = cc

outside_more : (p : Program) (k : Known) (g : Frame) (round : List Frame) (y : Term)
    → Outside p k round y → (known.Own p k (plug (g ∷ round) y) → ⊥) → Outside p k (g ∷ round) y
outside_more p k g round y out none [] hs f e own =
    none (subst (λ fs. known.Own p k (plug fs y)) (sym e) own)
outside_more p k g round y out none (z ∷ gs) hs f e own = out gs hs f (cc) own

module _ (p : Program) (n : Names) (m : Start) (o : Own) (k : Known) (w : World) (here : Spot)
    (asked : Paths) where
  -- as `Placed`, with the path of the place by a name
  -- (`so` says that both terms are the same)
  record Spotted (so : Type 0) (path : List ℕ) (v : Term) (fs : List Frame) (a : Term)
      : Type 0 where
    outer : List Frame
    inner : List Frame
    are_all : fs ≡ outer ++ inner
    round : List Frame
    y : Term
    is_term : v ≡ plug round y
    same_road : road round ≡ road outer
    at : List ℕ
    is_at : at ≡ path ++ road outer
    matches : Matches p n m o w here asked at (plug inner a) y
    way : (inner ≡ []) ⊎ (IsUnderWay p n m o w (at ∷ here) (plug inner a) y
        ⊎ ((x : Value) × IsAhead n w (plug inner a) x × (y ≡ term.Value x)
        × PrivateValue p n m (ground_of w) x))
    reached : passed fs a ≡ false → passed round y ≡ false
    outside : Outside p k round y
    trodden_so : (b : Term)
        → plug (trodden fs) b ≡ plug (trodden outer) (plug (trodden inner) b)
    replaced : (later : World) (asked' : Paths) (b c : Term) → FollowsAt (at ∷ here) w later
        → KeepsOthers at asked asked' → Matches p n m o later here asked' at b c
        → ThrowsRightly n m o (trodden outer) b
        → Matches p n m o later here asked' path (plug (trodden outer) b) (plug (trodden round) c)
    heads : begins outer ≡ false → begins round ≡ false
    same_at : so → (inner ≡ []) × (a ≡ y) × Private p n m (ground_of w) a
    as_before : Ready a → ((inner ≡ []) × (a ≡ y) × Private p n m (ground_of w) a)
        ⊎ (plug (trodden round) y ≡ plug round y)

  to_placed : {path : List ℕ} {v : Term} {fs : List Frame} {a : Term} {so : Type 0}
      → Spotted so path v fs a → Placed p n m o k w here asked path v fs a
  to_placed {path} {v} {fs} {a} s =
      record {
        outer = s.outer;
        inner = s.inner;
        are_all = s.are_all;
        round = s.round;
        y = s.y;
        is_term = s.is_term;
        same_road = s.same_road;
        matches = subst (λ q. Matches p n m o w here asked q (plug s.inner a) s.y)
            s.is_at s.matches;
        at_call = subst (λ q. (s.inner ≡ []) ⊎ (IsUnderWay p n m o w (q ∷ here) (plug s.inner a) s.y
            ⊎ ((x : Value) × IsAhead n w (plug s.inner a) x × (s.y ≡ term.Value x)
            × PrivateValue p n m (ground_of w) x))) s.is_at s.way;
        reached = s.reached;
        outside = s.outside;
        trodden_so = s.trodden_so;
        replaced = λ later asked' b c fol keeps h t. s.replaced later asked' b c
            (subst (λ q. FollowsAt (q ∷ here) w later) (sym s.is_at) fol)
            (subst (λ q. KeepsOthers q asked asked') (sym s.is_at) keeps)
            (subst (λ q. Matches p n m o later here asked' q b c) (sym s.is_at) h) t;
        as_before = s.as_before;
      }

  -- the place itself
  here_spotted : {path : List ℕ} {u v : Term} {fs : List Frame} {a : Term} {so : Type 0}
      → Matches p n m o w here asked path u v → u ≡ plug fs a
      → (fs ≡ []) ⊎ (IsUnderWay p n m o w (path ∷ here) (plug fs a) v
      ⊎ ((x : Value) × IsAhead n w (plug fs a) x × (v ≡ term.Value x)
      × PrivateValue p n m (ground_of w) x))
      → (so → (fs ≡ []) × (a ≡ v) × Private p n m (ground_of w) a)
      → Spotted so path v fs a
  here_spotted {path} {u} {v} {fs} {a} h e way si =
      record {
        outer = [];
        inner = fs;
        are_all = refl;
        round = [];
        y = v;
        is_term = refl;
        same_road = refl;
        at = path;
        is_at = sym (append-nil path);
        matches = subst (λ z. Matches p n m o w here asked path z v) e h;
        way = way;
        reached = λ z. refl;
        outside = λ gs hs f z own. no_frames gs hs f z;
        trodden_so = λ b. refl;
        replaced = λ later asked' b c fol keeps i t. i;
        heads = λ z. refl;
        same_at = si;
        as_before = λ r. inr refl;
      }

  abbrev weaker : {so su : Type 0} {path : List ℕ} {v : Term} {fs : List Frame} {a : Term}
      → (su → so)
      → Spotted so path v fs a → Spotted su path v fs a
  weaker si s =
      record {
        outer = s.outer;
        inner = s.inner;
        are_all = s.are_all;
        round = s.round;
        y = s.y;
        is_term = s.is_term;
        same_road = s.same_road;
        at = s.at;
        is_at = s.is_at;
        matches = s.matches;
        way = s.way;
        reached = s.reached;
        outside = s.outside;
        trodden_so = s.trodden_so;
        replaced = s.replaced;
        heads = s.heads;
        same_at = λ z. s.same_at (si z);
        as_before = s.as_before;
      }

  -- a part of a parallel node, as its place is said
  record PartSpotted (so : Type 0) (q : List ℕ) (gs : List Frame) (a x' : Term) (i : ℕ)
      : Type 0 where
    spot : Spotted so q x' gs a
    marks : (b : Term) → plug (with_mark (i ∷ []) (trodden gs)) b
        ≡ plug (with_mark (i ∷ []) (trodden spot.outer)) (plug (trodden spot.inner) b)
    replaced_part : (later : World) (asked' : Paths) (b c : Term)
        → FollowsAt (spot.at ∷ here) w later → KeepsOthers spot.at asked asked'
        → Matches p n m o later here asked' spot.at b c
        → ThrowsRightly n m o (with_mark (i ∷ []) (trodden spot.outer)) b
        → IsBeside p n m o later here asked' q (plug (with_mark (i ∷ []) (trodden spot.outer)) b)
        (plug (with_mark (i ∷ []) (trodden spot.round)) c)
    part_before : Ready a → ((spot.inner ≡ []) × (a ≡ spot.y) × Private p n m (ground_of w) a)
        ⊎ (plug (with_mark (i ∷ []) (trodden spot.round)) spot.y ≡ plug spot.round spot.y)

  abbrev Places : Term → List Frame → Type 0
  Places a fs =
      (path : List ℕ) (u v : Term) (h : Matches p n m o w here asked path u v) → u ≡ plug fs a
      → Spotted (IsSame p n m o w here asked h) path v fs a

module _ (p : Program) (n : Names) (m : Start) (o : Own) (w : World) (here : Spot) (asked : Paths)
  where
    -- a term round parts that match, and a part in which a step was taken
    join_line : {path : List ℕ} {b c : Term} (f : Frame) → IsInOrder f → IsRound p n m w f
        → MayStandIn n m o f b → Matches p n m o w here asked path b c
        → Matches p n m o w here asked path (on f b) (on f c)
    join_line {path} {b} {c} f line round may h = go (matches_open h)
      where
        go : ((b ≡ c) × Private p n m (ground_of w) b) ⊎ (standing b ≡ open_yet)
            → Matches p n m o w here asked path (on f b) (on f c)
        go (inl e) = same (ap (on f) e.0) (round b e.1)
        go (inr ob) = within f b c line round ob may refl refl h

    beside_of : {path : List ℕ} {b c : Term} → Matches p n m o w here asked path b c
        → IsBeside p n m o w here asked path (stepped b) (stepped c)
    beside_of {path} {b} {c} h = go (matches_open h)
      where
        go : ((b ≡ c) × Private p n m (ground_of w) b) ⊎ (standing b ≡ open_yet)
            → IsBeside p n m o w here asked path (stepped b) (stepped c)
        go (inl e) = as_it_is (ap stepped e.0) (stepped_private b e.1)
        go (inr ob) = marked b c ob (stepped_open b ob) refl h

    -- a part of a parallel node, without its mark or with it
    data PartOf (so : Type 0) (q : List ℕ) (gs : List Frame) (a x' : Term) : Type 0 where
      bare : begins gs ≡ false → (h : Matches p n m o w here asked q (plug gs a) x')
          → (so → IsSame p n m o w here asked h)
          → IsSame p n m o w here asked h ⊎ (Ready a → ⊥) → PartOf so q gs a x'
      with_its_mark : (rest : List Frame) → gs ≡ in_stepped ∷ rest → (v : Term) → x' ≡ stepped v
          → (h : Matches p n m o w here asked q (plug rest a) v)
          → (so → IsSame p n m o w here asked h) → PartOf so q gs a x'

    stepped_round : IsRound p n m w in_stepped
    stepped_round t h = stepped_private t h

    part_same : {so : Type 0} {q : List ℕ} {x x' : Term} (gs : List Frame) (a : Term)
        → standing a ≡ open_yet → x ≡ x' → Private p n m (ground_of w) x → x ≡ plug gs a
        → PartOf so q gs a x'
    part_same [] a oa e h z =
        bare refl (same (sym z ∙ e) (subst (Private p n m (ground_of w)) z h)) (λ y. tt) (inl tt)
    part_same (in_stepped ∷ rest) a oa e h z =
        let r = (plug_private (in_stepped ∷ []) (plug rest a) (plug_open rest a oa)
        (subst (Private p n m (ground_of w)) z h)).0 in
        with_its_mark rest refl (plug rest a) (sym e ∙ z) (same refl r) (λ y. tt)
    part_same (f ∷ rest) a oa e h z =
        bare refl (same (sym z ∙ e) (subst (Private p n m (ground_of w)) z h)) (λ y. tt) (inl tt)

    marked_waits : (a b : Term) → standing b ≡ open_yet → a ≡ Stepped b → Ready a → ⊥
    marked_waits a b ob e r = go (r.no_part in_stepped b (e ∙ sym (stepped_open b ob)))
      where
        go : Finished b ⊎ (passes in_stepped b ≡ true) → ⊥
        go (inl f) = not_finished b ob f
        go (inr z) = cc

    part_marked : {so : Type 0} {q : List ℕ} {x x' : Term} (gs : List Frame) (a b c : Term)
        → standing a ≡ open_yet → standing b ≡ open_yet → x ≡ Stepped b → x' ≡ stepped c
        → Matches p n m o w here asked q b c → x ≡ plug gs a → (so → ⊥) → PartOf so q gs a x'
    part_marked [] a b c oa ob e f h z si =
        bare refl (within in_stepped b c tt stepped_round ob tt
        (sym z ∙ e ∙ sym (stepped_open b ob))
        f h) (λ y. absurd (si y)) (inr (λ r. marked_waits a b ob (sym z ∙ e) r))
    part_marked {so} {q} (in_stepped ∷ rest) a b c oa ob e f h z si =
        let r = one_part in_stepped in_stepped b (plug rest a) tt ob (plug_open rest a oa)
        (stepped_open b ob ∙ sym e ∙ z) in
        with_its_mark rest refl c f (subst (λ t. Matches p n m o w here asked q t c) r.1 h)
        (λ y. absurd (si y))
    part_marked (g ∷ rest) a b c oa ob e f h z si =
        let r = one_part in_stepped g b (plug rest a) tt ob (plug_open rest a oa)
        (stepped_open b ob ∙ sym e ∙ z) in
        let y : true ≡ false = ap (λ k. begins (k ∷ [])) r.0 in absurd cc

    part_of : {q : List ℕ} {x x' : Term} (h : IsBeside p n m o w here asked q x x')
        (gs : List Frame) (a : Term) → standing a ≡ open_yet → x ≡ plug gs a
        → PartOf (IsAsItIs p n m o w here asked h) q gs a x'
    part_of (as_it_is e h) gs a oa z = part_same gs a oa e h z
    part_of (marked b c ob e f h) gs a oa z = part_marked gs a b c oa ob e f h z (λ y. y)

module _ {p : Program} {n : Names} {m : Start} {o : Own} {k : Known} (are : AreSame p n m o k)
    {w : World} {here : Spot} {asked : Paths} where
  -- within a form whose parts go in order
  line_spotted : {so su : Type 0} {path : List ℕ} {v b a : Term} (f : Frame) (gs : List Frame)
      → IsInOrder f
      → IsRound p n m w f → v ≡ on f b → ((l : ℕ) → b ≡ mark_at n l → ⊥)
      → (su → so) → Spotted p n m o k w here asked so path b gs a
      → Spotted p n m o k w here asked su path v (f ∷ gs) a
  line_spotted {path = path} {v = v} {b = b} {a = a} f gs line round q none si s =
      record {
        outer = f ∷ s.outer;
        inner = s.inner;
        are_all = ap (λ z. f ∷ z) s.are_all;
        round = f ∷ s.round;
        y = s.y;
        is_term = q ∙ ap (on f) s.is_term;
        same_road = ap (λ z. part_number f ++ z) s.same_road;
        at = s.at;
        is_at = s.is_at ∙ ap (λ ns. path ++ (ns ++ road s.outer)) (sym (line_number f line));
        matches = s.matches;
        way = s.way;
        reached = λ z. ap (λ x. x || passed s.round s.y) (line_passes f (plug s.round s.y) line)
            ∙ s.reached ((or_false (passes f (plug gs a)) (passed gs a) z).1);
        outside = outside_more p k f s.round s.y s.outside
            (λ own. line_not_form p n m (ground_of w) f b line round none
            (own_form are (on f b)
            (subst (λ z. known.Own p k (on f z)) (sym s.is_term) own)));
        trodden_so = λ c. ap (λ z. plug z c) (line_trodden f gs line) ∙ ap (on f) (s.trodden_so c)
            ∙ sym (ap (λ z. plug z (plug (trodden s.inner) c)) (line_trodden f s.outer line));
        replaced = λ later asked' x y fol keeps h t. again later asked' x y fol keeps h
            (subst (λ z. ThrowsRightly n m o z x) (line_trodden f s.outer line) t);
        heads = λ z. begins_head f s.round s.outer ∙ z;
        same_at = λ z. s.same_at (si z);
        as_before = λ r. before (s.as_before r);
      }
    where
      before : ((s.inner ≡ []) × (a ≡ s.y) × Private p n m (ground_of w) a)
          ⊎ (plug (trodden s.round) s.y ≡ plug s.round s.y)
          → ((s.inner ≡ []) × (a ≡ s.y) × Private p n m (ground_of w) a)
          ⊎ (plug (trodden (f ∷ s.round)) s.y ≡ plug (f ∷ s.round) s.y)
      before (inl z) = inl z
      before (inr z) =
          inr (ap (λ fs. plug fs s.y) (line_trodden f s.round line) ∙ ap (on f) z)

      again : (later : World) (asked' : Paths) (x y : Term) → FollowsAt (s.at ∷ here) w later
          → KeepsOthers s.at asked asked' → Matches p n m o later here asked' s.at x y
          → ThrowsRightly n m o (f ∷ trodden s.outer) x
          → Matches p n m o later here asked' path (plug (trodden (f ∷ s.outer)) x)
          (plug (trodden (f ∷ s.round)) y)
      again later asked' x y fol keeps h t =
          subst (λ z. Matches p n m o later here asked' path z (plug (trodden (f ∷ s.round)) y))
          (ap (λ z. plug z x) (sym (line_trodden f s.outer line)))
          (subst (λ z. Matches p n m o later here asked' path (on f (plug (trodden s.outer) x)) z)
          (ap (λ z. plug z y) (sym (line_trodden f s.round line)))
          (join_line p n m o later here asked' f line (line_follows fol f line round) t.0
          (s.replaced later asked' x y fol keeps h t.1)))

  bare_part : {so su : Type 0} {q : List ℕ} {gs : List Frame} {a x' : Term} (i : ℕ)
      → begins gs ≡ false → (su → so) → so ⊎ (Ready a → ⊥)
      → Spotted p n m o k w here asked so q x' gs a
      → PartSpotted p n m o k w here asked su q gs a x' i
  bare_part {so} {su} {q} {gs} {a} {x'} i bg si sr s =
      record {
        spot = weaker p n m o k w here asked si s;
        marks = λ b. ap (λ z. plug z b) (marked_bare i gs bg) ∙ ap stepped (s.trodden_so b)
            ∙ sym (ap (λ z. plug z (plug (trodden s.inner) b)) outer_marked);
        replaced_part = λ later asked' b c fol keeps h t. again later asked' b c fol keeps h
            (subst (λ z. ThrowsRightly n m o z b) outer_marked t);
        part_before = λ r. inl (before sr r);
      }
    where
      before : so ⊎ (Ready a → ⊥) → Ready a
          → (s.inner ≡ []) × (a ≡ s.y) × Private p n m (ground_of w) a
      before (inl z) r = s.same_at z
      before (inr z) r = absurd (z r)

      bare_outer : begins s.outer ≡ false
      bare_outer = begins_front s.outer s.inner (ap begins (sym s.are_all) ∙ bg)

      outer_marked : with_mark (i ∷ []) (trodden s.outer) ≡ in_stepped ∷ trodden s.outer
      outer_marked = marked_bare i s.outer bare_outer

      round_marked : with_mark (i ∷ []) (trodden s.round) ≡ in_stepped ∷ trodden s.round
      round_marked = marked_bare i s.round (s.heads bare_outer)

      again : (later : World) (asked' : Paths) (b c : Term) → FollowsAt (s.at ∷ here) w later
          → KeepsOthers s.at asked asked' → Matches p n m o later here asked' s.at b c
          → ThrowsRightly n m o (in_stepped ∷ trodden s.outer) b
          → IsBeside p n m o later here asked' q
          (plug (with_mark (i ∷ []) (trodden s.outer)) b)
          (plug (with_mark (i ∷ []) (trodden s.round)) c)
      again later asked' b c fol keeps h t =
          subst (λ z. IsBeside p n m o later here asked' q z
          (plug (with_mark (i ∷ []) (trodden s.round)) c)) (ap (λ z. plug z b) (sym outer_marked))
          (subst (λ z. IsBeside p n m o later here asked' q (stepped (plug (trodden s.outer) b)) z)
          (ap (λ z. plug z c) (sym round_marked))
          (beside_of p n m o later here asked' (s.replaced later asked' b c fol keeps h t.1)))

  marked_part : {so su : Type 0} {q : List ℕ} {a x' v : Term} (i : ℕ) (rest : List Frame)
      → x' ≡ stepped v → (su → so) → Spotted p n m o k w here asked so q v rest a
      → ((l : ℕ) → v ≡ mark_at n l → ⊥)
      → PartSpotted p n m o k w here asked su q (in_stepped ∷ rest) a x' i
  unfolding line_spotted
  marked_part {so} {su} {q} {a} {x'} {v} i rest f si s none =
      record {
        spot = line_spotted in_stepped rest tt (λ t h. stepped_private t h) f none si s;
        marks = λ b. ap stepped (s.trodden_so b);
        replaced_part = λ later asked' b c fol keeps h t.
            beside_of p n m o later here asked' (s.replaced later asked' b c fol keeps h t.1);
        part_before = λ r. before (s.as_before r);
      }
    where
      before : ((s.inner ≡ []) × (a ≡ s.y) × Private p n m (ground_of w) a)
          ⊎ (plug (trodden s.round) s.y ≡ plug s.round s.y)
          → ((s.inner ≡ []) × (a ≡ s.y) × Private p n m (ground_of w) a)
          ⊎ (stepped (plug (trodden s.round) s.y) ≡ stepped (plug s.round s.y))
      before (inl z) = inl z
      before (inr z) = inr (ap stepped z)

  -- within a parallel node
  node_spotted : {so : Type 0} {path : List ℕ} {v x' a : Term} (f g : Frame) (gs : List Frame)
      (i : ℕ)
      → part_number f ≡ i ∷ [] → part_number g ≡ i ∷ [] → v ≡ on g x'
      → (list_any is_thrown (beside g) ≡ true → list_any is_thrown (beside f) ≡ true)
      → (is_still x' ≡ true → is_still (plug gs a) ≡ true)
      → ((t : Term) → IsOwnForm n (on g t) → ⊥) → Rebuilds p n m o w here asked path i f g
      → begins (g ∷ []) ≡ false
      → PartSpotted p n m o k w here asked so (path ++ i ∷ []) gs a x' i
      → Spotted p n m o k w here asked so path v (f ∷ gs) a
  node_spotted {so} {path} {v} {x'} {a} f g gs i nf ng e thrown still none rebuild bg part =
      record {
        outer = f ∷ s.outer;
        inner = s.inner;
        are_all = ap (λ z. f ∷ z) s.are_all;
        round = g ∷ s.round;
        y = s.y;
        is_term = e ∙ ap (on g) s.is_term;
        same_road = (λ j. (ng j) ++ road s.round) ∙ ap (λ z. i ∷ z) s.same_road
            ∙ sym (ap (λ z. z ++ road s.outer) nf);
        at = s.at;
        is_at = at_path ∙ ap (λ z. path ++ (z ++ road s.outer)) (sym nf);
        matches = s.matches;
        way = s.way;
        reached = λ z. let y = or_false (passes f (plug gs a)) (passed gs a) z in
            ap (λ x. x || passed s.round s.y)
            (less_true (list_any is_thrown (beside g)) (is_still (plug s.round s.y))
            (list_any is_thrown (beside f)) (is_still (plug gs a)) thrown
            (λ h. still (ap is_still s.is_term ∙ h)) y.0)
            ∙ s.reached y.1;
        outside = outside_more p k g s.round s.y s.outside
            (λ own. none (plug s.round s.y) (own_form are (on g (plug s.round s.y)) own));
        trodden_so = λ b. ap (λ z. plug z b) (node_trodden f gs i nf) ∙ ap (on f) (part.marks b)
            ∙ sym (ap (λ z. plug z (plug (trodden s.inner) b)) (node_trodden f s.outer i nf));
        replaced = λ later asked' b c fol keeps h t. again later asked' b c fol keeps h
            (subst (λ z. ThrowsRightly n m o z b) (node_trodden f s.outer i nf) t);
        heads = λ z. begins_head g s.round [] ∙ bg;
        same_at = s.same_at;
        as_before = λ r. before (part.part_before r);
      }
    where
      s : Spotted p n m o k w here asked so (path ++ i ∷ []) x' gs a
      s = part.spot

      before : ((s.inner ≡ []) × (a ≡ s.y) × Private p n m (ground_of w) a)
          ⊎ (plug (with_mark (i ∷ []) (trodden s.round)) s.y ≡ plug s.round s.y)
          → ((s.inner ≡ []) × (a ≡ s.y) × Private p n m (ground_of w) a)
          ⊎ (plug (trodden (g ∷ s.round)) s.y ≡ plug (g ∷ s.round) s.y)
      before (inl z) = inl z
      before (inr z) =
          inr (ap (λ fs. plug fs s.y) (node_trodden g s.round i ng) ∙ ap (on g) z)

      at_path : s.at ≡ path ++ i ∷ road s.outer
      at_path = s.is_at ∙ append_assoc path (i ∷ []) (road s.outer)

      again : (later : World) (asked' : Paths) (b c : Term) → FollowsAt (s.at ∷ here) w later
          → KeepsOthers s.at asked asked' → Matches p n m o later here asked' s.at b c
          → ThrowsRightly n m o (f ∷ with_mark (i ∷ []) (trodden s.outer)) b
          → Matches p n m o later here asked' path (plug (trodden (f ∷ s.outer)) b)
          (plug (trodden (g ∷ s.round)) c)
      again later asked' b c fol keeps h t =
          subst (λ z. Matches p n m o later here asked' path z (plug (trodden (g ∷ s.round)) c))
          (ap (λ z. plug z b) (sym (node_trodden f s.outer i nf)))
          (subst (λ z. Matches p n m o later here asked' path
          (on f (plug (with_mark (i ∷ []) (trodden s.outer)) b)) z)
          (ap (λ z. plug z c) (sym (node_trodden g s.round i ng)))
          (rebuild later asked' s.at (road s.outer) _ _ fol keeps at_path
          (part.replaced_part later asked' b c fol keeps h t.1)))

  -- each place
  module _ (a : Term) (oa : standing a ≡ open_yet) where
    by_part : {so su : Type 0} {q : List ℕ} {x' : Term} (gs : List Frame) (i : ℕ)
        → Places p n m o k w here asked a gs → Places p n m o k w here asked a (strip gs)
        → (su → so) → PartOf p n m o w here asked so q gs a x'
        → PartSpotted p n m o k w here asked su q gs a x' i
    by_part {so} {su} {q} {x'} gs i whole below si (bare bg h hi hr) =
        bare_part i bg (λ z. hi (si z)) hr (whole q (plug gs a) x' h refl)
    by_part {so} {su} {q} {x'} gs i whole below si (with_its_mark rest e v f h hi) =
        subst (λ z. PartSpotted p n m o k w here asked su q z a x' i) (sym e)
        (marked_part i rest f (λ z. hi (si z))
        (subst (λ z. Places p n m o k w here asked a (strip z)) e below q (plug rest a) v h refl)
        (λ l z. no_mark l h z))

    step : (f : Frame) (gs : List Frame) → Places p n m o k w here asked a gs
        → Places p n m o k w here asked a (strip gs) → Places p n m o k w here asked a (f ∷ gs)
    step f gs whole below path u v h e =
        go (open_up p n m o w here asked h f (plug gs a) (plug_open gs a oa) e)
      where
        go : {so : Type 0} → Opened p n m o w here asked so path v f (plug gs a)
            → Spotted p n m o k w here asked so path v (f ∷ gs) a
        go (in_order line round b q i si) =
            line_spotted f gs line round q (λ l z. no_mark l i z) si
            (whole path (plug gs a) b i refl)
        go (in_node g x' i nf ng q part si thrown none rebuild bg) =
            node_spotted f g gs i nf ng q thrown (is_still_too part) none rebuild bg
            (by_part gs i whole below si (part_of p n m o w here asked part gs a oa refl))
        go (at_call way si) =
            here_spotted p n m o k w here asked h e (inr (inl way)) (λ z. absurd (si z))
        go (is_ahead y i q py si) =
            here_spotted p n m o k w here asked h e (inr (inr (y, i, q, py))) (λ z. absurd (si z))

    first : Places p n m o k w here asked a []
    first path u v h e =
        here_spotted p n m o k w here asked h e (inl refl) (λ z. let y = at h z in (refl, y.0, y.1))
      where
        at : (h : Matches p n m o w here asked path u v) → IsSame p n m o w here asked h
            → (a ≡ v) × Private p n m (ground_of w) a
        at (same q r) z = (sym e ∙ q, subst (Private p n m (ground_of w)) e r)
        at _ z = absurd z

    both : (fs : List Frame)
        → Places p n m o k w here asked a fs × Places p n m o k w here asked a (strip fs)
    both [] = (first, first)
    both (in_stepped ∷ gs) = let ih = both gs in (step in_stepped gs ih.0 ih.1, ih.0)
    both (f ∷ gs) = let ih = both gs in let z = step f gs ih.0 ih.1 in (z, z)

pub each_is_placed : EachIsPlaced
each_is_placed p n m o k w here asked path u v fs a are h e oa =
    to_placed p n m o k w here asked ((both are a oa fs).0 path u v h e)
