-- Forms that go from left to right, and what stands first in them.
use Rattle.std.proofs.Common.{◌≡◌, ◌≢◌, ℕ, zero, suc, ◌+◌, ◌<◌, ◌≤◌, Bool, true, false, not, ◌&&◌, List, [], ◌∷◌, ◌++◌, length, take, drop, Option, Some, None, refl, ap, sym, ◌∙◌, subst, arith, ◌⊎◌, inl, inr}
use Rattle.std.specs.Prelude.{map, slice_get, MatchOption}
use Rattle.std.specs.List.{list_any}
use Rattle.fort_base.specs.declared.ids.SetId.{SetId}
use Rattle.fort_core.specs.declared.term.Term.{Term, Operator, Throw, out-Term}
use Rattle.fort_core.specs.declared.term.Term as term
use Rattle.fort_core.specs.declared.term.Term.TheOpen.{Term-F}
use Rattle.fort_core.specs.declared.term.Term.TheVariants.{outs-Throw}
use Rattle.fort_core.specs.declared.value.Value.{Value}
use Rattle.fort_core.specs.declared.value.Closure.{Closure}
use Rattle.fort_machine.specs.Attempts.{Ready}
use Rattle.fort_machine.specs.Ends.{Standing, at_value, at_throw, open_yet, standing, standing_at, of_thrown, throw_of, value_at, Finished, has_stepped, is_still, still_by, is_thrown}
use Rattle.fort_machine.specs.Ends as ends
use Rattle.fort_machine.specs.Frames.{Frame, in_group, in_call, in_function, in_argument, in_first_half, in_second_half, in_first_reduced, in_second_reduced, in_block, in_stepped, on, part_number, beside, passes}
use Rattle.fort_machine.proofs.Standing.{decide, not_finished, standing-Value, standing-throw}
use Rattle.fort_machine.proofs.Places.{on_layer, out_on, on_open}
use Rattle.fort_frames.specs.Frames.{IsInOrder, frame_of}
use Rattle.fort_frames.specs.declared.frame.Frame as code
use Rattle.fort_frames.specs.declared.frame.Frame.TheVariants as frame
use Rattle.fort_frames_moves.specs.Turns.{IsLast}
use Rattle.fort_frames_moves.proofs.Parts.{own_place}
use Rattle.fort_frames_moves.proofs.Waits.{Kind, lone, between, kind_of, sides_of, beside_is, serial, next_at, by_kind, next_on, operands_ready, throw_ready, value_ready}
use Rattle.std.proofs.Common.{get_or}
use Rattle.std.proofs.lemmas.Option.{slice_get_read}
use Rattle.fort_hall_parts.specs.Parts.{GoesNowhere, IsGoing, IsNoNode}
use Rattle.fort_hall_parts.specs.declared.node.InOrder.{InOrder}
use Rattle.fort_hall_parts.proofs.Rounds.{long_as}

-- open, and no mark
still_parts : (st : Standing) (m : Bool) → still_by st m ≡ true → (st ≡ open_yet) × (m ≡ false)
still_parts (at_value v) m e = absurd cc
still_parts (at_throw v) m e = absurd cc
still_parts open_yet true e = absurd cc
still_parts open_yet false e = (refl, refl)

pub still_open : (t : Term) → is_still t ≡ true → standing t ≡ open_yet
still_open t e = (still_parts (standing t) (has_stepped t) e).0

pub still_unmarked : (t : Term) → is_still t ≡ true → has_stepped t ≡ false
still_unmarked t e = (still_parts (standing t) (has_stepped t) e).1

pub still_both : (t : Term) → standing t ≡ open_yet → has_stepped t ≡ false → is_still t ≡ true
still_both t o m = (λ i. still_by (o i) (m i))

pub not_still : (t : Term) → is_still t ≡ false → standing t ≡ open_yet → has_stepped t ≡ false
    → ⊥
not_still t e o m = let z : true ≡ false = sym (still_both t o m) ∙ e in absurd cc

pub still_value : (t : Term) → ((v : Value) × (t ≡ term.Value v)) → false ≡ is_still t
still_value t h =
    ap (λ st. still_by st (has_stepped t)) (sym (standing-Value h.0) ∙ ap standing (sym h.1))

pub still_throw : (t : Term) → ((v : Value) × (t ≡ throw_of v)) → false ≡ is_still t
still_throw t h =
    ap (λ st. still_by st (has_stepped t)) (sym (standing-throw h.0) ∙ ap standing (sym h.1))

pub still_by_mark : (t : Term) → standing t ≡ open_yet → not (has_stepped t) ≡ is_still t
still_by_mark t o = ap (λ st. still_by st (has_stepped t)) (sym o)

-- a throw is no value
thrown_none : (y : Term-F Term Value Closure) → value_at (of_thrown y) ≡ None
thrown_none (Term-F.Value v) = refl
thrown_none _ = refl

pub thrown_no_value : (t u : Term) → t ≡ Throw u → value_at (standing t) ≡ None
thrown_no_value t u e =
    ap (λ x. value_at (standing_at x)) (ap out-Term e ∙ outs-Throw u) ∙ thrown_none (out-Term u)

-- the numbers of frames
abbrev pub number_of : Kind → List ℕ
number_of lone = []
number_of (between before behind) = length before ∷ []

pub number_kind : (f : Frame) → part_number f ≡ number_of (kind_of f)
number_kind (in_group before behind) = refl
number_kind (in_call set before behind) = refl
number_kind (in_function argument) = refl
number_kind (in_argument function) = refl
number_kind (in_first_half second) = refl
number_kind (in_second_half first) = refl
number_kind (in_first_reduced set second) = refl
number_kind (in_second_reduced set first) = refl
number_kind (in_block before behind) = refl
number_kind _ = refl

is_lone : (k : Kind) → number_of k ≡ [] → k ≡ lone
is_lone lone e = refl
is_lone (between before behind) e = absurd cc

pub lone_kind : (f : Frame) → part_number f ≡ [] → kind_of f ≡ lone
lone_kind f e = is_lone (kind_of f) (sym (number_kind f) ∙ e)

between_kind : (k : Kind) (n : ℕ) → number_of k ≡ n ∷ []
    → (before : List Term) × (behind : List Term) × (k ≡ between before behind)
    × (length before ≡ n)
between_kind lone n e = absurd cc
between_kind (between before behind) n e = (before, behind, refl, cc)

-- the parts before and behind the one that a numbered frame leaves out
pub sides : (f : Frame) (n : ℕ) → part_number f ≡ n ∷ []
    → (before : List Term) × (behind : List Term) × (kind_of f ≡ between before behind)
    × (length before ≡ n)
sides f n e = between_kind (kind_of f) n (sym (number_kind f) ∙ e)

-- what a form with an open part goes on by
pub coming_on : (t : Term) (f : Frame) (a : Term) → standing a ≡ open_yet → t ≡ on f a
    → next_at (out-Term t) ≡ by_kind a (kind_of f)
coming_on t f a o e = ap next_at (ap out-Term e ∙ out_on f a o) ∙ next_on f a (ap value_at o)

pub coming_lone : (t : Term) (f : Frame) (a : Term) → part_number f ≡ [] → standing a ≡ open_yet
    → t ≡ on f a → next_at (out-Term t) ≡ serial a
coming_lone t f a n o e = coming_on t f a o e ∙ ap (by_kind a) (lone_kind f n)

-- the next part is one alone
pub same_next : (t : Term) (f g : Frame) (a b : Term) → part_number f ≡ [] → part_number g ≡ []
    → standing a ≡ open_yet → standing b ≡ open_yet → t ≡ on f a → t ≡ on g b → a ≡ b
same_next t f g a b n m o q e h =
    let z : serial a ≡ serial b = sym (coming_lone t f a n o e) ∙ coming_lone t g b m q h in cc

no_both : (b : Bool) → (false && b) ≡ true → ⊥
no_both b e = absurd cc

-- a form that waits for none of its parts
ready_none : (f : Frame) (a : Term) → part_number f ≡ [] → standing a ≡ open_yet
    → Finished a ⊎ (passes f a ≡ true) → ⊥
ready_none f a n o (inl h) = not_finished a o h
ready_none f a n o (inr h) =
    let alone : beside f ≡ [] = beside_is f ∙ ap sides_of (lone_kind f n) in
    no_both (is_still a) (ap (λ xs. list_any is_thrown xs && is_still a) (sym alone) ∙ h)

pub ready_nowhere : (t : Term) → Ready t → GoesNowhere t
ready_nowhere t r = record { none = λ f a n m o u e. ready_none f a n o (r.no_part f a e) }

pub finished_nowhere : (t : Term) → Finished t → GoesNowhere t
finished_nowhere t h = record {
  none = λ f a n m o u e. not_finished t (ap standing e ∙ on_open f a o) h;
}

pub throw_nowhere : (t : Term) (v : Value) → t ≡ term.Value v → GoesNowhere (Throw t)
throw_nowhere t v e = finished_nowhere (Throw t) (ends.Finished.throw v (ap Throw e))

pub throw_found : (t u : Term) (o : Option Value) (v : Value) → u ≡ t → o ≡ Some v
    → MatchOption o (value_at (standing u) ≡ None) (λ value. u ≡ term.Value value)
    → GoesNowhere (Throw t)
throw_found t u o v e q m =
    let is_value : u ≡ term.Value v =
    subst (λ x. MatchOption x (value_at (standing u) ≡ None) (λ value. u ≡ term.Value value)) q m in
    throw_nowhere t v (sym e ∙ is_value)

-- the next part is no value, and not to be gone into
pub order_number : (f : code.Frame) → IsInOrder f → part_number (frame_of f) ≡ []
order_number (frame.Node n) i = absurd i
order_number _ i = refl

pub order_beside : (f : code.Frame) → IsInOrder f → beside (frame_of f) ≡ []
order_beside (frame.Node n) i = absurd i
order_beside _ i = refl

pub order_no_mark : (f : code.Frame) → IsInOrder f → frame_of f ≢ in_stepped
order_no_mark (frame.Node n) i e = absurd i
order_no_mark _ i e = absurd cc

pub last_order : (f : code.Frame) → IsLast f → IsInOrder f
last_order (frame.Node n) l = absurd l
last_order _ l = tt

no_value_some : (w : Value) → None ≡ Some w → ⊥
no_value_some w e = absurd cc

pub open_nowhere : (f : code.Frame) (a : Term) → IsInOrder f → value_at (standing a) ≡ None
    → is_still a ≡ false → GoesNowhere (on (frame_of f) a)
open_nowhere f a i v s = go (decide a)
  where
    go : (standing a ≡ open_yet) ⊎ Finished a → GoesNowhere (on (frame_of f) a)
    go (inl o) = record {
      none = λ g b n m q u e.
          not_still a s o
          (ap has_stepped
          (same_next (on (frame_of f) a) (frame_of f) g a b (order_number f i) n o q refl e)
          ∙ u);
    }
    go (inr (ends.Finished.value w h)) =
        absurd (no_value_some w (sym v ∙ ap value_at (ap standing h ∙ standing-Value w)))
    go (inr (ends.Finished.throw w h)) =
        subst (λ x. GoesNowhere (on (frame_of f) x)) (sym h)
        (ready_nowhere (on (frame_of f) (throw_of w)) (throw_ready f w i))

pub last_nowhere : (f : code.Frame) (a : Term) → IsLast f → is_still a ≡ false
    → GoesNowhere (on (frame_of f) a)
last_nowhere f a l s = go (decide a)
  where
    go : (standing a ≡ open_yet) ⊎ Finished a → GoesNowhere (on (frame_of f) a)
    go (inl o) = open_nowhere f a (last_order f l) (ap value_at o) s
    go (inr (ends.Finished.value w h)) =
        subst (λ x. GoesNowhere (on (frame_of f) x)) (sym h)
        (ready_nowhere (on (frame_of f) (term.Value w)) (value_ready f w l))
    go (inr (ends.Finished.throw w h)) =
        open_nowhere f a (last_order f l)
        (ap value_at (ap standing h ∙ standing-throw w)) s

-- the same term
pub going_same : (t t' : Term) (form : InOrder) → t ≡ t' → IsGoing t form → IsGoing t' form
going_same t t' form e k = subst (λ x. IsGoing x form) e k

pub nowhere_same : (t t' : Term) → t ≡ t' → GoesNowhere t → GoesNowhere t'
nowhere_same t t' e k = subst GoesNowhere e k

-- operands, up to the first that is no value
length_map : (vs : List Value) → length (map term.Value vs) ≡ length vs
length_map [] = refl
length_map (v ∷ vs) = ap suc (length_map vs)

operand_here : (set : SetId) (vs : List Value) (ts : List Term) (t : Term) (i : ℕ)
    → map term.Value vs ≡ take i ts → i < length ts → t ≡ get_or ts i t
    → on (frame_of (frame.Operand set vs ts)) t ≡ Operator set ts
operand_here set vs ts t i e lt is =
    let long : length vs ≡ i = sym (length_map vs) ∙ ap length e ∙ long_as ts i lt in
    let there : slice_get ts i ≡ Some t = slice_get_read ts (length ts) i t refl lt is in
    ap (Operator set) ((λ j. e j ++ t ∷ drop (long j + 1) ts) ∙ own_place ts i t there)

pub operand_going : (set : SetId) (vs : List Value) (ts : List Term) (t : Term) (i : ℕ)
    (form : InOrder) → map term.Value vs ≡ take i ts → i < length ts → t ≡ get_or ts i t
    → IsGoing (on (frame_of (frame.Operand set vs ts)) t) form → IsGoing (Operator set ts) form
operand_going set vs ts t i form e lt is k =
    going_same _ (Operator set ts) form (operand_here set vs ts t i e lt is) k

pub operand_nowhere : (set : SetId) (vs : List Value) (ts : List Term) (t : Term) (i : ℕ)
    → map term.Value vs ≡ take i ts → i < length ts → t ≡ get_or ts i t
    → GoesNowhere (on (frame_of (frame.Operand set vs ts)) t) → GoesNowhere (Operator set ts)
operand_nowhere set vs ts t i e lt is k =
    nowhere_same _ (Operator set ts) (operand_here set vs ts t i e lt is) k

-- one more of them is a value
map_push : (vs : List Value) (v : Value)
    → map term.Value (vs ++ v ∷ []) ≡ map term.Value vs ++ term.Value v ∷ []
map_push [] v = refl
map_push (w ∷ vs) v = ap (λ xs. term.Value w ∷ xs) (map_push vs v)

take_suc : (ts : List Term) (i : ℕ) (t : Term) → slice_get ts i ≡ Some t
    → take (suc i) ts ≡ take i ts ++ t ∷ []
take_suc [] zero t e = absurd cc
take_suc [] (suc i) t e = absurd cc
take_suc (u ∷ ts) zero t e = let same : u ≡ t = cc in ap (λ x. x ∷ []) same
take_suc (u ∷ ts) (suc i) t e = ap (λ xs. u ∷ xs) (take_suc ts i t e)

one_suc : (i : ℕ) → i + 1 ≡ suc i
one_suc i = omega arith

pub one_more_value : (vs : List Value) (ts : List Term) (t : Term) (v : Value) (i : ℕ)
    → map term.Value vs ≡ take i ts → i < length ts → t ≡ get_or ts i t → t ≡ term.Value v
    → map term.Value (vs ++ v ∷ []) ≡ take (i + 1) ts
one_more_value vs ts t v i e lt is q =
    map_push vs v ∙ (λ j. e j ++ sym q j ∷ [])
    ∙ sym (take_suc ts i t (slice_get_read ts (length ts) i t refl lt is))
    ∙ ap (λ m. take m ts) (sym (one_suc i))

take_all : (ts : List Term) (i : ℕ) → length ts ≤ i → take i ts ≡ ts
take_all [] zero h = refl
take_all [] (suc i) h = refl
take_all (t ∷ ts) zero h = absurd (omega (arith, h))
take_all (t ∷ ts) (suc i) h = ap (λ xs. t ∷ xs) (take_all ts i (omega (arith, h)))

pub operands_nowhere : (set : SetId) (vs : List Value) (ts : List Term) (i : ℕ)
    → map term.Value vs ≡ take i ts → length ts ≤ i → GoesNowhere (Operator set ts)
operands_nowhere set vs ts i e lt =
    subst (λ xs. GoesNowhere (Operator set xs)) (e ∙ take_all ts i lt)
    (ready_nowhere (Operator set (map term.Value vs)) (operands_ready set vs))

-- other forms
abbrev pub IsOther : Term-F Term Value Closure → Type 0
IsOther (Term-F.Value v) = Unit {0}
IsOther (Term-F.Variable x) = Unit {0}
IsOther (Term-F.Group parts) = Unit {0}
IsOther (Term-F.Fn c) = Unit {0}
IsOther (Term-F.Call set arguments) = Unit {0}
IsOther (Term-F.Apply f a) = Unit {0}
IsOther (Term-F.Read slot) = Unit {0}
IsOther (Term-F.While test body) = Unit {0}
IsOther (Term-F.ForHalves a b) = Unit {0}
IsOther (Term-F.ReduceHalves set a b) = Unit {0}
IsOther (Term-F.Also blocks) = Unit {0}
IsOther (Term-F.Atomic mode body) = Unit {0}
IsOther (Term-F.Asleep marks body) = Unit {0}
IsOther (Term-F.Stepped part) = Unit {0}
IsOther form = ⊥

no_order : (f : Frame) (a : Term) → part_number f ≡ [] → f ≢ in_stepped → IsOther (on_layer f a)
    → ⊥
no_order (in_group before behind) a n m h = absurd cc
no_order (in_call set before behind) a n m h = absurd cc
no_order (in_function argument) a n m h = absurd cc
no_order (in_argument function) a n m h = absurd cc
no_order (in_first_half second) a n m h = absurd cc
no_order (in_second_half first) a n m h = absurd cc
no_order (in_first_reduced set second) a n m h = absurd cc
no_order (in_second_reduced set first) a n m h = absurd cc
no_order (in_block before behind) a n m h = absurd cc
no_order in_stepped a n m h = m refl
no_order _ a n m h = h

pub other_nowhere : (t : Term) → IsOther (out-Term t) → GoesNowhere t
other_nowhere t h = record {
  none = λ f a n m o u e. no_order f a n m (subst IsOther (ap out-Term e ∙ out_on f a o) h);
}

-- forms whose parts don't go beside each other
abbrev pub IsSerial : Term-F Term Value Closure → Type 0
IsSerial (Term-F.Group parts) = ⊥
IsSerial (Term-F.Call set arguments) = ⊥
IsSerial (Term-F.Apply f a) = ⊥
IsSerial (Term-F.ForHalves a b) = ⊥
IsSerial (Term-F.ReduceHalves set a b) = ⊥
IsSerial (Term-F.Also blocks) = ⊥
IsSerial form = Unit {0}

no_node : (f : Frame) (n : ℕ) (a : Term) → part_number f ≡ n ∷ [] → IsSerial (on_layer f a) → ⊥
no_node (in_group before behind) n a e h = h
no_node (in_call set before behind) n a e h = h
no_node (in_function argument) n a e h = h
no_node (in_argument function) n a e h = h
no_node (in_first_half second) n a e h = h
no_node (in_second_half first) n a e h = h
no_node (in_first_reduced set second) n a e h = h
no_node (in_second_reduced set first) n a e h = h
no_node (in_block before behind) n a e h = h
no_node _ n a e h = absurd cc

pub other_no_node : (t : Term) → IsSerial (out-Term t) → IsNoNode t
other_no_node t h = record {
  none = λ f n a e o q. no_node f n a e (subst IsSerial (ap out-Term q ∙ out_on f a o) h);
}
