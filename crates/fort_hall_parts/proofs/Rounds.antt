-- The frames round a part of a parallel form.
use Rattle.std.proofs.Common.{◌≡◌, ℕ, zero, suc, ◌+◌, ◌<◌, Bool, true, false, List, [], ◌∷◌, ◌++◌, length, take, drop, slice_set, refl, ap, ◌∙◌, arith}
use Rattle.std.specs.Prelude.{IsTrue}
use Rattle.fort_core.specs.declared.term.Term.{Term}
use Rattle.fort_machine.specs.Ends.{stepped}
use Rattle.fort_machine.specs.Frames.{in_stepped, on, part_number, passed, plug, road, trodden, with_mark}
use Rattle.fort_machine.specs.Frames as machine
use Rattle.fort_frames.specs.Frames.{mark_if}
use Rattle.fort_frames.specs.Heads.{form_of, frame_at, suits}
use Rattle.fort_frames.specs.declared.head.Head.{Head}
use Rattle.fort_frames.proofs.Heads.{beside_at, number_at, on_frame_at, put_back, suits_set}
use Rattle.fort_frames_moves.specs.Turns.{IsNext}
use Rattle.fort_frames_moves.specs.declared.across.Next.{Next}
use Rattle.fort_frames_moves.proofs.Parts.{not_passed_part, part_in}

-- the frame of a form round a part, and the mark of the part
abbrev pub node_frame : Head → List Term → Next → machine.Frame
node_frame h ts n = frame_at h (take n.«at» ts) (drop (n.«at» + 1) ts)

abbrev pub round : Head → List Term → Next → List machine.Frame
round h ts n = node_frame h ts n ∷ mark_if n.stepped

suits_here : (h : Head) (ts : List Term) (n : Next) → IsTrue (suits h ts) → IsNext ts n
    → suits h (take n.«at» ts ++ plug (mark_if n.stepped) n.part ∷ drop (n.«at» + 1) ts) ≡ true
suits_here h ts n s k =
    ap (suits h) (part_in (take n.«at» ts) (drop (n.«at» + 1) ts) n.part n.stepped ts k.is_part) ∙ s

pub round_part : (h : Head) (ts : List Term) (n : Next) → IsTrue (suits h ts) → IsNext ts n
    → plug (round h ts n) n.part ≡ form_of h ts
round_part h ts n s k =
    on_frame_at h (take n.«at» ts) (drop (n.«at» + 1) ts) (plug (mark_if n.stepped) n.part)
    (suits_here h ts n s k)
    ∙ ap (form_of h) (part_in (take n.«at» ts) (drop (n.«at» + 1) ts) n.part n.stepped ts k.is_part)

pub round_passed : (h : Head) (ts : List Term) (n : Next) → IsTrue (suits h ts) → IsNext ts n
    → passed (round h ts n) n.part ≡ false
round_passed h ts n s k =
    not_passed_part (node_frame h ts n) (take n.«at» ts) (drop (n.«at» + 1) ts) n.part n.stepped ts
    (beside_at h (take n.«at» ts) (drop (n.«at» + 1) ts) (plug (mark_if n.stepped) n.part)
    (suits_here h ts n s k)) k.is_part

pub long_as : (ts : List Term) (i : ℕ) → i < length ts → length (take i ts) ≡ i
long_as [] zero lt = refl
long_as [] (suc i) lt = absurd (omega (arith, lt))
long_as (t ∷ ts) zero lt = refl
long_as (t ∷ ts) (suc i) lt = ap suc (long_as ts i (omega (arith, lt)))

pub number_here : (h : Head) (ts : List Term) (n : Next) → IsTrue (suits h ts) → IsNext ts n
    → part_number (node_frame h ts n) ≡ n.«at» ∷ []
number_here h ts n s k =
    number_at h (take n.«at» ts) (drop (n.«at» + 1) ts) (plug (mark_if n.stepped) n.part)
    (suits_here h ts n s k)
    ∙ ap (λ i. i ∷ []) (long_as ts n.«at» k.within)

road_marks : (b : Bool) → road (mark_if b) ≡ []
road_marks true = refl
road_marks false = refl

pub round_road : (h : Head) (ts : List Term) (n : Next) → IsTrue (suits h ts) → IsNext ts n
    → road (round h ts n) ≡ n.«at» ∷ []
round_road h ts n s k = λ i. number_here h ts n s k i ++ road_marks n.stepped i

trod : (b : Bool) (i : ℕ) → with_mark (i ∷ []) (trodden (mark_if b)) ≡ in_stepped ∷ []
trod true i = refl
trod false i = refl

pub round_trodden : (h : Head) (ts : List Term) (n : Next) (u : Term) → IsTrue (suits h ts)
    → IsNext ts n
    → plug (trodden (round h ts n)) u ≡ form_of h (slice_set ts n.«at» (stepped u))
round_trodden h ts n u s k =
    let before = take n.«at» ts in
    let behind = drop (n.«at» + 1) ts in
    let f = frame_at h before behind in
    let marks : with_mark (part_number f) (trodden (mark_if n.stepped)) ≡ in_stepped ∷ [] =
    ap (λ ns. with_mark ns (trodden (mark_if n.stepped))) (number_here h ts n s k)
    ∙ trod n.stepped n.«at» in
    let back : before ++ stepped u ∷ behind ≡ slice_set ts n.«at» (stepped u) =
    put_back ts n.«at» (stepped u) k.within in
    ap (λ fs. on f (plug fs u)) marks
    ∙ on_frame_at h before behind (stepped u)
    (ap (suits h) back ∙ suits_set h ts n.«at» (stepped u) ∙ s)
    ∙ ap (form_of h) back
