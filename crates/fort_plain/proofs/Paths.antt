-- Which thread a path names.
use Rattle.std.proofs.Common.{◌≡◌, ◌≢◌, ℕ, ◌+◌, ◌&&◌, Bool, true, false, List, [], ◌∷◌, ◌++◌, zero, suc, length, take, drop, Option, Some, None, refl, ap, sym, ◌∙◌, subst, arith, ◌⊎◌, inl, inr}
use Rattle.std.proofs.lemmas.List.{take-append-drop}
use Rattle.std.specs.Prelude.{slice_get, nat_le, if◌then◌else◌}
use Rattle.std.proofs.Math.Seq.{take-length}
use Rattle.std.specs.List.{list_any}
use Rattle.fort_core.specs.declared.path.Path.{Path}
use Rattle.fort_core.specs.declared.term.Term.{Term, Group, Call, Apply, Also, ForHalves, ReduceHalves, out-Term}
use Rattle.fort_core.specs.declared.term.Term as term
use Rattle.fort_core.specs.declared.term.Term.TheVariants.{outs-Group, outs-Call, outs-Apply, outs-Also, outs-ForHalves, outs-ReduceHalves}
use Rattle.fort_core.specs.declared.value.Value.{Value, Tuple}
use Rattle.fort_machine.specs.Ends.{open_yet, standing, group, tuple_of, values_of, Finished, is_still, is_thrown}
use Rattle.fort_machine.specs.Texts.{depth, deepest}
use Rattle.fort_machine.specs.Ends as ends
use Rattle.fort_machine.specs.Frames.{Frame, in_group, in_call, in_function, in_argument, in_first_half, in_second_half, in_first_reduced, in_second_reduced, in_block, on, plug, road, part_number, passes, passed, beside}
use Rattle.fort_machine.specs.Attempts.{Ready}
use Rattle.fort_machine.specs.Runs.{path_to}
use Rattle.fort_machine.proofs.Standing.{standing-Value, not_finished, or_false}
use Rattle.fort_machine.proofs.Places.{out_on, plug_open, ready_open}
use Rattle.fort_frames.specs.Frames.{frames, outward, rebuilt, Reaches}
use Rattle.fort_frames.specs.Heads.{suits, form_of}
use Rattle.fort_frames.specs.declared.head.Head.{Head}
use Rattle.fort_frames.specs.declared.head.Head.TheVariants as head
use Rattle.fort_frames.specs.declared.place.Place.{Place}
use Rattle.fort_frames.proofs.Same.{same_term, not_passed, same_thread}
use Rattle.fort_frames_moves.specs.Turns.{IsOver}
use Rattle.fort_frames_moves.proofs.Waits.{Kind, lone, between, kind_of, sides_of, beside_is, serial, parallel, next_at, by_kind, next_on, take_middle, drop_sides, at_middle}
use Rattle.fort_plain.specs.Paths.{NoThread}

abbrev number_of : Kind → List ℕ
number_of lone = []
number_of (between before behind) = length before ∷ []

number_kind : (f : Frame) → part_number f ≡ number_of (kind_of f)
number_kind (in_group before behind) = refl
number_kind (in_call set before behind) = refl
number_kind (in_function argument) = refl
number_kind (in_argument function) = refl
number_kind (in_first_half second) = refl
number_kind (in_second_half first) = refl
number_kind (in_first_reduced set second) = refl
number_kind (in_second_reduced set first) = refl
number_kind (in_block before behind) = refl
number_kind _ = refl

coming : (f : Frame) (t : Term) → standing t ≡ open_yet
    → next_at (out-Term (on f t)) ≡ by_kind t (kind_of f)
coming f t o = ap next_at (out_on f t o) ∙ next_on f t (ap ends.value_at o)

same_middle : (xs ys ps qs : List Term) (x y : Term) → length xs ≡ length ps
    → xs ++ x ∷ ys ≡ ps ++ y ∷ qs → x ≡ y
same_middle [] ys [] qs x y n e = cc
same_middle [] ys (p ∷ ps) qs x y n e = absurd (omega arith)
same_middle (z ∷ xs) ys [] qs x y n e = absurd (omega arith)
same_middle (z ∷ xs) ys (p ∷ ps) qs x y n e = same_middle xs ys ps qs x y (omega arith) (cc)

-- two frames round open parts of one form
data Beside (f g : Frame) (x y : Term) : Type 0 where
  in_order : x ≡ y → part_number f ≡ [] → part_number g ≡ [] → Beside f g x y
  in_parts : (m n : ℕ) → part_number f ≡ m ∷ [] → part_number g ≡ n ∷ [] → (m ≡ n → x ≡ y)
      → Beside f g x y

compare_kinds : (f g : Frame) (x y : Term) (k m : Kind) → part_number f ≡ number_of k
    → part_number g ≡ number_of m → by_kind x k ≡ by_kind y m → Beside f g x y
compare_kinds f g x y lone lone a b q = in_order (cc) a b
compare_kinds f g x y lone (between bef beh) a b q = absurd cc
compare_kinds f g x y (between bef beh) lone a b q = absurd cc
compare_kinds f g x y (between bef beh) (between bef2 beh2) a b q =
    let l : bef ++ x ∷ beh ≡ bef2 ++ y ∷ beh2 = cc
    in in_parts (length bef) (length bef2) a b (λ n. same_middle bef beh bef2 beh2 x y n l)

compare : (f g : Frame) (x y : Term) → standing x ≡ open_yet → standing y ≡ open_yet
    → on f x ≡ on g y → Beside f g x y
compare f g x y ox oy e =
    compare_kinds f g x y (kind_of f) (kind_of g) (number_kind f) (number_kind g)
    (sym (coming f x ox) ∙ ap (λ t. next_at (out-Term t)) e ∙ coming g y oy)

-- a place deeper in a part, by the rest of its road
pub record Deeper (x a : Term) (rest : List ℕ) : Type 0 where
  pub within : List Frame
  pub is_part : x ≡ plug within a
  pub is_rest : road within ≡ rest
  pub goes_on : passed within a ≡ false

pub under : (fs gs : List Frame) (x a : Term) (n : ℕ) (rest : List ℕ) → plug fs x ≡ plug gs a
    → standing x ≡ open_yet → standing a ≡ open_yet → road gs ≡ road fs ++ n ∷ rest
    → passed gs a ≡ false → Deeper x a (n ∷ rest)
under [] gs x a n rest e ox oa r k = record { within = gs; is_part = e; is_rest = r; goes_on = k }
under (f ∷ fs) [] x a n rest e ox oa r k = absurd (nothing (part_number f ++ road fs) r)
  where
    nothing : (xs : List ℕ) → [] ≡ xs ++ n ∷ rest → ⊥
    nothing [] q = cc
    nothing (y ∷ ys) q = cc
under (f ∷ fs) (g ∷ gs) x a n rest e ox oa r k =
    go (compare f g (plug fs x) (plug gs a) (plug_open fs x ox) (plug_open gs a oa) e)
    (λ q s. under fs gs x a n rest q ox oa s
    (or_false (passes g (plug gs a)) (passed gs a) k).1)
  where
    go : Beside f g (plug fs x) (plug gs a)
        → (plug fs x ≡ plug gs a → road gs ≡ road fs ++ n ∷ rest → Deeper x a (n ∷ rest))
        → Deeper x a (n ∷ rest)
    go (in_order same p q) deeper =
        deeper same (sym (ap (λ y. y ++ road gs) q) ∙ r ∙ ap (λ y. (y ++ road fs) ++ n ∷ rest) p)
    go (in_parts m l p q same) deeper =
        let s : l ∷ road gs ≡ m ∷ (road fs ++ n ∷ rest) =
        sym (ap (λ y. y ++ road gs) q) ∙ r ∙ ap (λ y. (y ++ road fs) ++ n ∷ rest) p in
        let h : m ≡ l = cc in deeper (same h) (cc)

-- a thread has nothing deeper
pub nothing_deeper : (x a : Term) (n : ℕ) (rest : List ℕ) → Ready x → standing a ≡ open_yet
    → Deeper x a (n ∷ rest) → ⊥
nothing_deeper x a n rest r oa d = go d.within d.is_part d.is_rest d.goes_on
  where
    go : (fs : List Frame) → x ≡ plug fs a → road fs ≡ n ∷ rest → passed fs a ≡ false → ⊥
    go [] e q k = absurd cc
    go (f ∷ fs) e q k = by_part (r.no_part f (plug fs a) e)
      where
        by_part : Finished (plug fs a) ⊎ (passes f (plug fs a) ≡ true) → ⊥
        by_part (inl h) = not_finished (plug fs a) (plug_open fs a oa) h
        by_part (inr h) =
            let z : true ≡ false = sym h ∙ (or_false (passes f (plug fs a)) (passed fs a) k).0 in cc

-- the parts of a parallel form
coming_head : (h : Head) (ts : List Term) → suits h ts ≡ true → standing (form_of h ts) ≡ open_yet
    → next_at (out-Term (form_of h ts)) ≡ parallel ts
coming_head head.Group ts e o =
    ap (λ t. next_at (out-Term t)) (raw (values_of ts) o) ∙ ap next_at (outs-Group ts)
  where
    by_depth : (vs : List Value) (b : Bool)
        → standing (if b then term.Value (Tuple vs) else Group ts) ≡ open_yet
        → (if b then term.Value (Tuple vs) else Group ts) ≡ Group ts
    by_depth vs true q = let z = sym (standing-Value (Tuple vs)) ∙ q in absurd cc
    by_depth vs false q = refl

    raw : (m : Option (List Value)) → standing (tuple_of ts m) ≡ open_yet → tuple_of ts m ≡ Group ts
    raw None q = refl
    raw (Some vs) q = by_depth vs (nat_le (depth (Tuple vs)) deepest) q
coming_head (head.Call set) ts e o = ap next_at (outs-Call set ts)
coming_head head.Also ts e o = ap next_at (outs-Also ts)
coming_head head.Apply [] e o = absurd cc
coming_head head.Apply (a ∷ []) e o = absurd cc
coming_head head.Apply (a ∷ b ∷ []) e o = ap next_at (outs-Apply a b)
coming_head head.Apply (a ∷ b ∷ c ∷ ts) e o = absurd cc
coming_head head.ForHalves [] e o = absurd cc
coming_head head.ForHalves (a ∷ []) e o = absurd cc
coming_head head.ForHalves (a ∷ b ∷ []) e o = ap next_at (outs-ForHalves a b)
coming_head head.ForHalves (a ∷ b ∷ c ∷ ts) e o = absurd cc
coming_head (head.ReduceHalves set) [] e o = absurd cc
coming_head (head.ReduceHalves set) (a ∷ []) e o = absurd cc
coming_head (head.ReduceHalves set) (a ∷ b ∷ []) e o = ap next_at (outs-ReduceHalves set a b)
coming_head (head.ReduceHalves set) (a ∷ b ∷ c ∷ ts) e o = absurd cc

-- the part that a path names isn't there, or is finished or passed over
other_part : (h : Head) (ts : List Term) (f : Frame) (b : Term) (n : ℕ) (ns rest : List ℕ)
    (k : Kind) → suits h ts ≡ true → standing (form_of h ts) ≡ open_yet → standing b ≡ open_yet
    → form_of h ts ≡ on f b → passes f b ≡ false
    → kind_of f ≡ k → part_number f ++ ns ≡ n ∷ rest → IsOver ts n → ⊥
other_part h ts f b n ns rest lone e o ob q k w p over =
    let z : parallel ts ≡ serial b =
    sym (coming_head h ts e o) ∙ ap (λ t. next_at (out-Term t)) q ∙ coming f b ob
    ∙ ap (by_kind b) w in absurd cc
other_part h ts f b n ns rest (between bef beh) e o ob q k w p over =
    let z : parallel ts ≡ parallel (bef ++ b ∷ beh) =
    sym (coming_head h ts e o) ∙ ap (λ t. next_at (out-Term t)) q ∙ coming f b ob
    ∙ ap (by_kind b) w in
    let parts : ts ≡ bef ++ b ∷ beh = cc in
    let y : length bef ∷ ns ≡ n ∷ rest =
    ap (λ m. m ++ ns) (sym (number_kind f ∙ ap number_of w)) ∙ p in
    let at : length bef ≡ n = cc in
    let there : slice_get ts n ≡ Some b =
    (λ i. slice_get (parts i) (sym at i)) ∙ at_middle bef beh b in
    go (subst (λ m. IsOver ts m) (sym at) over) (ap (slice_get ts) at ∙ there) parts
  where
    go : IsOver ts (length bef) → slice_get ts (length bef) ≡ Some b → ts ≡ bef ++ b ∷ beh → ⊥
    go v there parts = by_part (v b there)
      where
        by_part : Finished b
            ⊎ ((list_any is_thrown (take (length bef) ts ++ drop (length bef + 1) ts) && is_still b)
            ≡ true) → ⊥
        by_part (inl x) = not_finished b ob x
        by_part (inr x) =
            let sides : take (length bef) ts ++ drop (length bef + 1) ts ≡ beside f =
            ap (λ us. take (length bef) us ++ drop (length bef + 1) us) parts
            ∙ (λ i. take_middle bef beh b i ++ drop_sides bef beh b i)
            ∙ sym (beside_is f ∙ ap sides_of w) in
            let over2 : passes f b ≡ true =
            subst (λ xs. (list_any is_thrown xs && is_still b) ≡ true) sides x in
            let u : true ≡ false = sym over2 ∙ k in cc

pub no_other : (h : Head) (ts : List Term) (fs gs : List Frame) (a : Term) (n : ℕ) (rest : List ℕ)
    → suits h ts ≡ true → standing (form_of h ts) ≡ open_yet → standing a ≡ open_yet
    → plug fs (form_of h ts) ≡ plug gs a
    → road gs ≡ road fs ++ n ∷ rest → passed gs a ≡ false → IsOver ts n → ⊥
no_other h ts fs gs a n rest e o oa q r k over =
    let d = under fs gs (form_of h ts) a n rest q o oa r k
    in go d.within d.is_part d.is_rest d.goes_on
  where
    go : (hs : List Frame) → form_of h ts ≡ plug hs a → road hs ≡ n ∷ rest → passed hs a ≡ false → ⊥
    go [] x y z = absurd cc
    go (f ∷ hs) x y z =
        other_part h ts f (plug hs a) n (road hs) rest (kind_of f) e o (plug_open hs a oa) x
        (or_false (passes f (plug hs a)) (passed hs a) z).0 refl y over

-- no thread has a path
at_road : (fs : List Frame) (path : Path) → path_to fs ≡ path → road fs ≡ path.0
at_road fs path e = ap (λ (x : Path). x.0) e

place_road : (clock : ℕ) (place : Place) → place.path.0 ≡ road (outward clock (frames place.stack))
place_road clock place = place.is_path ∙ same_thread clock (frames place.stack)

none_beside_at : (clock keep : ℕ) (place : Place) (path : Path) (h : Head) (ts : List Term) (n : ℕ)
    → suits h ts ≡ true → standing (form_of h ts) ≡ open_yet → keep ≡ length place.path.0
    → take keep place.path.0 ≡ take keep path.0
    → slice_get path.0 keep ≡ Some n → IsOver ts n → (gs : List Frame) (a : Term)
    → (rebuilt clock (frames place.stack) (form_of h ts)) ≡ plug gs a → passed gs a ≡ false
    → Ready a → path_to gs ≡ path → ⊥
none_beside_at clock keep place path h ts n e o all same at over gs a q k r p =
    let fs = outward clock (frames place.stack) in
    let own : take keep place.path.0 ≡ place.path.0 =
    ap (λ m. take m place.path.0) all ∙ take-length place.path.0 in
    let long : path.0 ≡ place.path.0 ++ drop keep path.0 =
    sym (take-append-drop keep path.0) ∙ ap (λ xs. xs ++ drop keep path.0) (sym same ∙ own) in
    let next = drop_at keep path.0 n at in
    let far : road gs ≡ road fs ++ n ∷ drop (keep + 1) path.0 =
    at_road gs path p ∙ long ∙ (λ i. place_road clock place i ++ next i) in
    no_other h ts fs gs a n (drop (keep + 1) path.0) e o (ready_open a r)
    (sym (same_term clock (frames place.stack) (form_of h ts)) ∙ q) far k over
  where
    drop_at : (m : ℕ) (xs : List ℕ) (x : ℕ) → slice_get xs m ≡ Some x
        → drop m xs ≡ x ∷ drop (m + 1) xs
    drop_at zero [] x e = absurd cc
    drop_at zero (y ∷ ys) x e = let z : y ≡ x = cc in ap (λ u. u ∷ ys) z
    drop_at (suc m) [] x e = absurd cc
    drop_at (suc m) (y ∷ ys) x e =
        let q : suc m + 1 ≡ suc (m + 1) = omega arith
        in drop_at m ys x e ∙ ap (λ k. x ∷ drop k (y ∷ ys)) (sym q)

pub none_beside : (clock keep : ℕ) (place : Place) (path : Path) (h : Head) (ts : List Term) (n : ℕ)
    → suits h ts ≡ true → standing (form_of h ts) ≡ open_yet → keep ≡ length place.path.0
    → take keep place.path.0 ≡ take keep path.0
    → slice_get path.0 keep ≡ Some n → IsOver ts n
    → NoThread (rebuilt clock (frames place.stack) (form_of h ts)) path
none_beside clock keep place path h ts n e o all same at over =
    record { none = none_beside_at clock keep place path h ts n e o all same at over }

deeper_none : (fs gs : List Frame) (x a : Term) (rest : List ℕ) → plug fs x ≡ plug gs a → Ready x
    → standing a ≡ open_yet → road gs ≡ road fs ++ rest → passed gs a ≡ false → rest ≢ [] → ⊥
deeper_none fs gs x a [] e r oa q k n = n refl
deeper_none fs gs x a (m ∷ rest) e r oa q k n =
    nothing_deeper x a m rest r oa (under fs gs x a m rest e (ready_open x r) oa q k)

append_nil : (xs : List ℕ) → xs ++ [] ≡ xs
append_nil [] = refl
append_nil (x ∷ xs) = ap (λ ys. x ∷ ys) (append_nil xs)

-- one list begins with another one
begins_with : (keep : ℕ) (xs ys : List ℕ) → keep ≡ length xs → take keep xs ≡ take keep ys
    → ys ≡ xs ++ drop keep ys
begins_with keep xs ys all same =
    let own : take keep xs ≡ xs = ap (λ m. take m xs) all ∙ take-length xs
    in sym (take-append-drop keep ys) ∙ ap (λ zs. zs ++ drop keep ys) (sym same ∙ own)

none_below_at : (clock keep : ℕ) (place : Place) (path : Path) (x : Term) → Ready x
    → place.path ≢ path → keep ≡ length place.path.0 → take keep place.path.0 ≡ take keep path.0
    → (gs : List Frame) (a : Term) → (rebuilt clock (frames place.stack) x) ≡ plug gs a
    → passed gs a ≡ false → Ready a → path_to gs ≡ path → ⊥
none_below_at clock keep place path x ready other all same gs a q k r p =
    let fs = outward clock (frames place.stack) in
    let long = begins_with keep place.path.0 path.0 all same in
    let far : road gs ≡ road fs ++ drop keep path.0 =
    at_road gs path p ∙ long ∙ ap (λ ys. ys ++ drop keep path.0) (place_road clock place) in
    deeper_none fs gs x a (drop keep path.0) (sym (same_term clock (frames place.stack) x)
    ∙ q) ready (ready_open a r) far k
    (λ z. other
    (λ i. record {
      0 =
          (sym (append_nil place.path.0) ∙ ap (λ ys. place.path.0 ++ ys) (sym z) ∙ sym long) i;
    }))

pub none_below : (clock keep : ℕ) (place : Place) (path : Path) (x : Term) → Ready x
    → place.path ≢ path → keep ≡ length place.path.0 → take keep place.path.0 ≡ take keep path.0
    → NoThread (rebuilt clock (frames place.stack) x) path
none_below clock keep place path x ready other all same =
    record { none = none_below_at clock keep place path x ready other all same }

none_above_at : (clock keep : ℕ) (place : Place) (path : Path) (x : Term) → Ready x
    → Reaches clock (frames place.stack) x → place.path ≢ path → keep ≡ length path.0
    → take keep place.path.0 ≡ take keep path.0 → (gs : List Frame) (a : Term)
    → (rebuilt clock (frames place.stack) x) ≡ plug gs a → passed gs a ≡ false → Ready a
    → path_to gs ≡ path → ⊥
none_above_at clock keep place path x ready reached other all same gs a q k r p =
    let fs = outward clock (frames place.stack) in
    let long = begins_with keep path.0 place.path.0 all (sym same) in
    let far : road fs ≡ road gs ++ drop keep place.path.0 =
    sym (place_road clock place) ∙ long
    ∙ ap (λ ys. ys ++ drop keep place.path.0) (sym (at_road gs path p)) in
    deeper_none gs fs a x (drop keep place.path.0)
    (sym (sym (same_term clock (frames place.stack) x) ∙ q)) r (ready_open x ready) far
    (not_passed clock (frames place.stack) x reached)
    (λ z. other (λ i. record { 0 = (long ∙ ap (λ ys. path.0 ++ ys) z ∙ append_nil path.0) i }))

pub none_above : (clock keep : ℕ) (place : Place) (path : Path) (x : Term) → Ready x
    → Reaches clock (frames place.stack) x → place.path ≢ path → keep ≡ length path.0
    → take keep place.path.0 ≡ take keep path.0
    → NoThread (rebuilt clock (frames place.stack) x) path
none_above clock keep place path x ready reached other all same =
    record { none = none_above_at clock keep place path x ready reached other all same }

-- a finished term has no thread
pub finished_none : (t : Term) (path : Path) → Finished t → NoThread t path
finished_none t path f =
    record {
      none =
          λ gs a q k r p. not_finished t (ap standing q ∙ plug_open gs a (ready_open a r)) f;
    }
