-- The chunk that begins at a number, and the chunks behind it.
use Rattle.std.proofs.Common.{◌≡◌, inl, inr, ℕ, ◌+◌, ◌-◌, ◌<◌, ◌≤◌, Bool, true, false, List, [], ◌∷◌, ◌++◌, length, take, drop, get_or, refl, sym, ap, ◌∙◌, subst, arith, append_assoc}
use Rattle.std.proofs.lemmas.Bool.{cases_Bool, cases_lt}
use Rattle.std.proofs.lemmas.List.{append-nil, drop-drop, get_or-drop, take_more, length-append, length-drop, length-take-le, take-append-drop}
use Rattle.fort_juxt.specs.declared.elements.Element.{Element}
use Rattle.fort_juxt.specs.declared.elements.Grouping.{Grouping}
use Rattle.fort_juxt.specs.declared.elements.Grouping.TheVariants as a_grouping
use Rattle.fort_juxt.specs.Loose.{Chunk, elements, AreFunctions, units, joined, applied, chunk_group, chunk_groups}
use Rattle.fort_juxt.specs.Walks.{Stops, IsRun, chunks_of, groups_from}
use Rattle.fort_juxt.proofs.Divisions.{first_chunk}
use Rattle.fort_juxt.proofs.Joining.{units_more}

-- an element is a function or none
both_stop : (es : List Element) → Stops true es → Stops false es → es ≡ []
both_stop [] s t = refl
both_stop (e ∷ es) s t = elim (cases_Bool e.function) as (λ z. e ∷ es ≡ []) [
  | inl f ↦ absurd (s f)
  | inr f ↦ absurd (t f)
]

functions_last : (p : Bool) (xs : List Element) (x : Element) → AreFunctions p xs → x.function ≡ p
    → AreFunctions p (xs ++ x ∷ [])
functions_last p [] x a e = (e, tt)
functions_last p (y ∷ xs) x a e = (a.0, functions_last p xs x a.1 e)

pub run_more : (p : Bool) (es : List Element) (from at : ℕ) (d : Element) → from ≤ at
    → at < length es → AreFunctions p (take (at - from) (drop from es))
    → (get_or es at d).function ≡ p
    → AreFunctions p (take (at + 1 - from) (drop from es))
run_more p es from at d h l a e =
    let q : take (at + 1 - from) (drop from es)
    ≡ take (at - from) (drop from es) ++ get_or es at d ∷ [] =
    ap (λ n. take n (drop from es)) (let i : at + 1 - from ≡ at - from + 1 = omega arith in i)
    ∙ (take_more (drop from es) (at - from) d (let i = length-drop from es in omega arith)
    ∙ ap (λ x. take (at - from) (drop from es) ++ x ∷ []) (get_or-drop from es (at - from) d
    ∙ ap (λ n. get_or es n d) (let i : from + (at - from) ≡ at = omega arith in i))) in
    subst (AreFunctions p) (sym q)
    (functions_last p (take (at - from) (drop from es)) (get_or es at d) a e)

module _ (es : List Element) (from middle end : ℕ) (l : from < length es)
    (h : IsRun es from middle true) (k : IsRun es middle end false) where
  -- no element stands at the end of an empty run of others
  stands_last : end ≡ middle → drop end es ≡ []
  stands_last e =
      both_stop (drop end es) (subst (λ n. Stops true (drop n es)) (sym e) h.stops) k.stops

  pub moves : from < end
  moves = elim (cases_lt from end) as (λ z. from < end) [
    | inl w ↦ w
    | inr w ↦
        (let a = h.ordered in let b = k.ordered in let n = ap length (stands_last (omega arith))
        in let m = length-drop end es in absurd (omega arith))
  ]

  functions : List Element
  functions = take (middle - from) (drop from es)

  others : List Element
  others = take (end - middle) (drop middle es)

  abbrev chunk : Chunk
  chunk = record {
    functions = take (middle - from) (drop from es);
    others = take (end - middle) (drop middle es);
  }

  functions_length : length chunk.functions ≡ middle - from
  functions_length =
      length-take-le (middle - from) (drop from es) (let a = h.within in let b = length-drop from es
      in omega arith)

  others_length : length chunk.others ≡ end - middle
  others_length =
      length-take-le (end - middle) (drop middle es) (let a = k.within
      in let b = length-drop middle es in omega arith)

  chunk_length : from + length (elements chunk) ≡ end
  chunk_length =
      let a = h.ordered in let b = k.ordered in let x = functions_length in let y = others_length
      in let z = length-append chunk.functions chunk.others in omega arith

  whole : elements chunk ++ drop end es ≡ drop from es
  whole = append_assoc chunk.functions chunk.others (drop end es)
      ∙ (ap (λ xs. chunk.functions ++ xs) second ∙ first)
    where
      second : chunk.others ++ drop end es ≡ drop middle es
      second = ap (λ n. chunk.others ++ drop n es) (let b = k.ordered
          in let e : end ≡ middle + (end - middle) = omega arith in e)
          ∙ (ap (λ xs. chunk.others ++ xs) (sym (drop-drop (end - middle) middle es))
          ∙ take-append-drop (end - middle) (drop middle es))

      first : chunk.functions ++ drop middle es ≡ drop from es
      first = ap (λ n. chunk.functions ++ drop n es) (let b = h.ordered
          in let e : middle ≡ from + (middle - from) = omega arith in e)
          ∙ (ap (λ xs. chunk.functions ++ xs) (sym (drop-drop (middle - from) from es))
          ∙ take-append-drop (middle - from) (drop from es))

  chunks_are : chunks_of (drop from es) ≡ chunk ∷ chunks_of (drop end es)
  chunks_are = first_chunk (drop from es) chunk (drop end es) (record {
    filled = λ q. let a = ap length q in let b = chunk_length in let m = moves
        in absurd (omega arith);
    functions = h.each;
    others = k.each;
  }) (λ q. stands_last (let a = ap length q in let b = others_length in let m = k.ordered
      in omega arith)) k.stops whole

  group_is : chunk_group from chunk
      ≡ applied (units from (middle - from) ++ joined (units middle (end - middle)))
  group_is =
      ap (λ n. applied (units from n ++ joined (units (from + n) (length chunk.others))))
      functions_length
      ∙ (ap (λ n. applied (units from (middle - from) ++ joined (units (from + (middle - from)) n)))
      others_length
      ∙ ap (λ n. applied (units from (middle - from) ++ joined (units n (end - middle)))) (let b =
      h.ordered in let e : from + (middle - from) ≡ middle = omega arith in e))

  groups_are : groups_from es from
      ≡ applied (units from (middle - from) ++ joined (units middle (end - middle)))
      ++ groups_from es end
  groups_are =
      ap (chunk_groups from) chunks_are
      ∙ (ap (λ xs. xs ++ chunk_groups (from + length (elements chunk)) (chunks_of (drop end es)))
      group_is
      ∙ ap (λ n. applied (units from (middle - from) ++ joined (units middle (end - middle)))
      ++ chunk_groups n (chunks_of (drop end es))) chunk_length)

  -- with operands
  pub with_operands : (argument g : Grouping) → joined (units middle (end - middle)) ≡ argument ∷ []
      → applied (units from (middle - from) ++ argument ∷ []) ≡ g ∷ []
      → groups_from es from ≡ g ∷ groups_from es end
  with_operands argument g e f =
      groups_are
      ∙ ap (λ xs. xs ++ groups_from es end) (ap (λ xs. applied (units from (middle - from) ++ xs)) e
      ∙ f)

  -- with functions alone
  pub with_functions : (g : Grouping) → end ≤ middle
      → applied (units from (middle - 1 - from) ++ a_grouping.One (middle - 1) ∷ []) ≡ g ∷ []
      → groups_from es from ≡ g ∷ groups_from es end
  with_functions g w f = groups_are ∙ ap (λ xs. xs ++ groups_from es end)
      (ap (λ n. applied (units from (middle - from) ++ joined (units middle n))) (let b = k.ordered
      in let e : end - middle ≡ 0 = omega arith in e)
      ∙ (ap applied (append-nil (units from (middle - from)) ∙ last) ∙ f))
    where
      last : units from (middle - from)
          ≡ units from (middle - 1 - from) ++ a_grouping.One (middle - 1) ∷ []
      last = let m = moves in let b = k.ordered in
          ap (λ n. units from (n - from))
          (let e : middle ≡ middle - 1 + 1 = omega arith in e)
          ∙ units_more from (middle - 1) (omega arith)
