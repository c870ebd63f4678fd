-- The grouping that the judge computes has the elements in their order, each once.
use Rattle.std.proofs.Common.{◌≡◌, ℕ, zero, suc, ◌+◌, List, [], ◌∷◌, ◌++◌, length, Option, Some, None, Ok, refl, arith, sym, subst, rules}
use Rattle.std.proofs.lemmas.List.{length-append}
use Rattle.fort_juxt.specs.declared.elements.Element.{Element}
use Rattle.fort_juxt.specs.declared.elements.Grouping.{Grouping, the_lemmas}
use Rattle.fort_juxt.specs.declared.elements.Grouping.TheVariants as a_grouping
use Rattle.fort_juxt.specs.Loose.{Chunk, name_ends, units, joined_to, joined, applied_to, applied, chunk_group, chunk_groups, elements}
use Rattle.fort_juxt.specs.Walks.{chunks_of}
use Rattle.fort_typing_meaning.specs.Juxtaposing.{first_place, first_of, grouping_by, grouping_of}
use Rattle.fort_typing_elements.specs.Groupings.{IsOf, of_one, of_applied, of_joined}

-- groupings, one after another
abbrev AreOf : List Grouping → ℕ → ℕ → Type 0
AreOf [] i j = i ≡ j
AreOf (g ∷ gs) i j = (m : ℕ) × IsOf g i m × AreOf gs m j

units_of : (n i j : ℕ) → j ≡ i + n → AreOf (units i n) i j
units_of zero i j e = omega arith
units_of (suc n) i j e =
    (i + 1, of_one (search (rules, the_lemmas)) (omega arith), units_of n (i + 1) j (omega arith))

append_of : (gs hs : List Grouping) (i m j : ℕ) → AreOf gs i m → AreOf hs m j → AreOf (gs ++ hs) i j
append_of [] hs i m j e a = subst (λ (n : ℕ). AreOf hs n j) (sym e) a
append_of (g ∷ gs) hs i m j (n, b, bs) a = (n, b, append_of gs hs n m j bs a)

joined_to_of : (gs : List Grouping) (g : Grouping) (i m j : ℕ) → IsOf g i m → AreOf gs m j
    → IsOf (joined_to g gs) i j
joined_to_of [] g i m j a e = subst (λ (n : ℕ). IsOf g i n) e a
joined_to_of (h ∷ hs) g i m j a (n, b, bs) =
    joined_to_of hs (a_grouping.Pair g h) i n j (of_joined g h m (search (rules, the_lemmas)) a b)
    bs

applied_to_of : (gs : List Grouping) (g : Grouping) (i m j : ℕ) → IsOf g i m → AreOf gs m j
    → IsOf (applied_to g gs) i j
applied_to_of [] g i m j a e = subst (λ (n : ℕ). IsOf g i n) e a
applied_to_of (h ∷ hs) g i m j a (n, b, bs) =
    of_applied g (applied_to h hs) m (search (rules, the_lemmas)) a (applied_to_of hs h m n j b bs)

joined_of : (gs : List Grouping) (i j : ℕ) → AreOf gs i j → AreOf (joined gs) i j
joined_of [] i j e = e
joined_of (g ∷ gs) i j (m, a, as_) = (j, joined_to_of gs g i m j a as_, refl)

applied_of : (gs : List Grouping) (i j : ℕ) → AreOf gs i j → AreOf (applied gs) i j
applied_of [] i j e = e
applied_of (g ∷ gs) i j (m, a, as_) = (j, applied_to_of gs g i m j a as_, refl)

chunk_of : (i : ℕ) (c : Chunk) (j : ℕ) → j ≡ (i + length c.functions) + length c.others
    → AreOf (chunk_group i c) i j
chunk_of i c j e =
    applied_of
    (units i (length c.functions) ++ joined (units (i + length c.functions) (length c.others)))
    i j
    (append_of (units i (length c.functions))
    (joined (units (i + length c.functions) (length c.others))) i (i + length c.functions) j
    (units_of (length c.functions) i (i + length c.functions) refl)
    (joined_of (units (i + length c.functions) (length c.others)) (i + length c.functions) j
    (units_of (length c.others) (i + length c.functions) j e)))

chunks_are_of : (cs : List Chunk) (i : ℕ) → (j : ℕ) × AreOf (chunk_groups i cs) i j
chunks_are_of [] i = (i, refl)
chunks_are_of (c ∷ cs) i =
    let r = chunks_are_of cs (i + length (elements c)) in
    let l : length (c.functions ++ c.others) ≡ length c.functions + length c.others =
    length-append c.functions c.others in (
      r.0,
      append_of (chunk_group i c) (chunk_groups (i + length (elements c)) cs) i
          (i + length (elements c)) r.0
          (chunk_of i c (i + length (elements c)) (omega (arith, l))) r.1,
    )

first_ordered : (gs : List Grouping) (g : Grouping) (j : ℕ) → AreOf gs 0 j → first_of gs ≡ Ok g
    → (n : ℕ) × IsOf g 0 n
first_ordered [] g j a e = absurd cc
first_ordered (h ∷ hs) g j (m, a, as_) e =
    let s : h ≡ g = cc in (m, subst (λ (x : Grouping). IsOf x 0 m) s a)

by_ordered : (es : List Element) (g : Grouping) (p : Option (ℕ × List Element))
    → grouping_by es p ≡ Ok g → (n : ℕ) × IsOf g 0 n
by_ordered es g (Some (n, [])) e = absurd cc
by_ordered es g (Some (n, x ∷ after)) e = absurd cc
by_ordered es g None e =
    let c = chunks_are_of (chunks_of es) 0
    in first_ordered (joined (chunk_groups 0 (chunks_of es))) g c.0
    (joined_of (chunk_groups 0 (chunks_of es)) 0 c.0 c.1) e

pub ordered : (es : List Element) (g : Grouping) → grouping_of es ≡ Ok g → (n : ℕ) × IsOf g 0 n
unfolding grouping_of
ordered es g e = by_ordered es g (first_place name_ends 0 es) e
