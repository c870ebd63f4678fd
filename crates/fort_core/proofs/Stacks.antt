-- What changes at the end of a stack.
use Rattle.std.proofs.Common.{◌≡◌, ℕ, ◌+◌, ◌<◌, ◌≤◌, ◌*◌, List, [], ◌∷◌, ◌++◌, length, take, drop, Some, slice_get, get_or, length-append, refl, arith, sym, ap, ◌∙◌}
use Rattle.fort_core.specs.declared.pick.Pick.{Pick, Attempt}
use Rattle.fort_core.specs.declared.pick_copy.Half.{Half}
use Rattle.fort_core.specs.Nodes.{nodes, all_nodes}
use Rattle.std.proofs.lemmas.List.{take_more, take_all, drop_more}
use Rattle.fort_core.proofs.Falls.{nodes-Attempt}
use Rattle.std.proofs.lemmas.Option.{slice_get_within, get_or_from_slice_get}
use Rattle.fort_core.specs.declared.pick_copy.Made.{Made}
use Rattle.fort_core.specs.declared.pick_copy.Made.TheVariants.{Whole, Part}
use Rattle.fort_core.specs.declared.pick_copy.Turn.{Turn}
use Rattle.fort_core.specs.declared.pick_copy.Turn.TheVariants.{Down, Up}
use Rattle.fort_core.specs.Stack.{Holds, Last, after, left_of, Begins, Settles, at_turn, turns_left}

pub left_of_last : (hs : List Half) (h : Half) → left_of (hs ++ h ∷ []) ≡ left_of hs + after h
left_of_last [] h = omega arith
left_of_last (x ∷ hs) h = omega (arith, left_of_last hs h)

pub Holds_push : (whole : Pick) (hs : List Half) (h : Half) (at : Pick)
    → Holds whole hs (Attempt h.path h.source.now) → Last h at → Holds whole (hs ++ h ∷ []) at
Holds_push whole [] h at a l = (a, (at, l, refl))
Holds_push whole (x ∷ hs) h at a l = (a.0, (a.1.0, a.1.1, Holds_push a.1.0 hs h at a.1.2 l))

pub Holds_pop : (whole : Pick) (hs : List Half) (h : Half) (at : Pick)
    → Holds whole (hs ++ h ∷ []) at → Holds whole hs (Attempt h.path h.source.now) × Last h at
Holds_pop whole [] h at a = (a.0, (a.1.1.0, a.1.1.1 ∙ ap Some a.1.2))
Holds_pop whole (x ∷ hs) h at a =
    let i = Holds_pop a.1.0 hs h at a.1.2 in ((a.0, (a.1.0, a.1.1, i.0)), i.1)

pub next_nodes : (xs : List Pick) (k : ℕ) (n : Pick) → slice_get xs k ≡ Some n
    → all_nodes (drop k xs) ≡ nodes n + all_nodes (drop (k + 1) xs)
next_nodes xs k n e =
    let lt : k < length xs = slice_get_within xs k n e in
    let g : get_or xs k n ≡ n = get_or_from_slice_get xs k n n e in
    ap all_nodes (drop_more xs k n lt ∙ ap (λ x. x ∷ drop (k + 1) xs) g)

pub take_next : (xs : List Pick) (k : ℕ) (n : Pick) → slice_get xs k ≡ Some n
    → take k xs ++ n ∷ [] ≡ take (k + 1) xs
take_next xs k n e =
    let lt : k < length xs = slice_get_within xs k n e in
    let g : get_or xs k n ≡ n = get_or_from_slice_get xs k n n e in
    sym (take_more xs k n lt ∙ ap (λ x. take k xs ++ x ∷ []) g)

-- a last pick makes the list whole
pub full_next : (xs made : List Pick) (q : Pick) → made ≡ take (length made) xs
    → slice_get xs (length made) ≡ Some q → length xs ≤ length made + 1 → made ++ q ∷ [] ≡ xs
full_next xs made q m e le =
    ap (λ ys. ys ++ q ∷ []) m ∙ take_next xs (length made) q e ∙ take_all (length made + 1) xs le

-- a turn, before what it made is looked at
abbrev pub Stepped : Turn → List Half → List Half → Made → Type 0
Stepped (Down p) old new made = (new ≡ old) × Begins p.now made
Stepped (Up p) old new made = (half : Half) × (old ≡ new ++ half ∷ []) × Settles half p made

module _ (s : Pick) (new : List Half) where
  pub whole : (turn : Turn) (old : List Half) (p : Pick) → Stepped turn old new (Whole p)
      → Holds s old (at_turn turn) → Holds s new p × (turns_left (Up p) new < turns_left turn old)
  whole (Down q) old p t h = (rw (t.0, t.1.0) h, rw t.0 (omega (arith, t.1.1)))
  whole (Up q) old p t h =
      let i = Holds_pop s new t.0 q (rw (← t.1) h) in
      let full : t.0.made ++ q ∷ [] ≡ t.0.source.now = full_next _ _ q i.1.0 i.1.1 t.2.1 in (
        rw (t.2.0, full) i.0,
        rw t.1 (omega (arith, left_of_last new t.0, length-append new (t.0 ∷ []))),
      )

  pub part : (turn : Turn) (old : List Half) (h : Half) (n : Pick) → Stepped turn old new (Part h)
      → slice_get h.source.now (length h.made) ≡ Some n → Holds s old (at_turn turn)
      → Holds s (new ++ h ∷ []) n
      × (2 * (nodes n + left_of (new ++ h ∷ [])) + length (new ++ h ∷ []) < turns_left turn old)
  part (Down q) old h n t e hold =
      let zero_made : length h.made ≡ 0 = ap length t.1.1 in
      let last : h.made ≡ take (length h.made) h.source.now =
      t.1.1 ∙ sym (ap (λ k. take k h.source.now) zero_made) in
      let sum : all_nodes (drop (length h.made) h.source.now) ≡ nodes n + after h =
      next_nodes h.source.now (length h.made) n e in
      let all : all_nodes (drop (length h.made) h.source.now) ≡ all_nodes h.source.now =
      ap (λ k. all_nodes (drop k h.source.now)) zero_made in
      let one : nodes q.now ≡ 1 + all_nodes h.source.now =
      ap nodes t.1.0 ∙ nodes-Attempt h.path h.source.now in (
        Holds_push s new h n (rw (← t.1.0, t.0) hold) (last, e),
        rw (← t.0) (omega (arith, left_of_last new h, length-append new (h ∷ []))),
      )
  part (Up q) old h n t e hold =
      let i = Holds_pop s new t.0 q (rw (← t.1) hold) in
      let longer : length h.made ≡ length t.0.made + 1 =
      ap length t.2.2 ∙ length-append t.0.made (q ∷ []) in
      let last : h.made ≡ take (length h.made) h.source.now =
      t.2.2 ∙ ap (λ ys. ys ++ q ∷ []) i.1.0 ∙ take_next t.0.source.now (length t.0.made) q i.1.1
      ∙ rw (t.2.1, longer) refl in
      let sum : all_nodes (drop (length h.made) h.source.now) ≡ nodes n + after h =
      next_nodes h.source.now (length h.made) n e in
      let same : all_nodes (drop (length h.made) h.source.now) ≡ after t.0 = rw (t.2.1, longer) refl
      in (
        Holds_push s new h n (rw (t.2.0, t.2.1) i.0) (last, e),
        rw t.1 (omega (
          arith,
          left_of_last new h,
          left_of_last new t.0,
          length-append new (h ∷ []),
          length-append new (t.0 ∷ []),
        )),
      )
