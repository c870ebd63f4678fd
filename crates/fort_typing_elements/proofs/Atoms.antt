-- The grouping that the judge computes doesn't ask which elements are postfixes.
use Rattle.std.proofs.Common.{◌≡◌, ℕ, suc, ◌+◌, Bool, true, false, cond, List, [], ◌∷◌, ◌++◌, length, map, Option, Some, None, Result, Ok, Err, refl, ap, ◌∙◌, sym}
use Rattle.fort_base.specs.declared.refusal.CheckFault.{CheckFault}
use Rattle.fort_base.specs.declared.refusal.CheckFault.TheVariants.{Refused, Memory}
use Rattle.fort_juxt.specs.declared.elements.Element.{Element}
use Rattle.fort_juxt.specs.declared.elements.Grouping.{Grouping}
use Rattle.fort_juxt.specs.Loose.{AreAtoms, Answers, Chunk, name_ends, units, joined, applied, chunk_group, chunk_groups, elements}
use Rattle.fort_juxt.specs.Walks.{chunks_of, with_element, with_other}
use Rattle.fort_typing_meaning.specs.Juxtaposing.{first_place, first_of, grouping_by, grouping_of}
use Rattle.fort_typing_elements.specs.Groupings.{atom, IsGrouping}
use Rattle.fort_typing_elements.proofs.Juxtaposing.{grouping_is_computed}

pub are_atoms : (es : List Element) → AreAtoms (map atom es)
are_atoms [] = tt
are_atoms (e ∷ es) = (refl, are_atoms es)

pub as_many : (es : List Element) → length (map atom es) ≡ length es
as_many [] = refl
as_many (e ∷ es) = ap suc (as_many es)

-- ---- names that end their chunks

ends_same : (es : List Element) → name_ends (map atom es) ≡ name_ends es
ends_same [] = refl
ends_same (e ∷ []) = refl
ends_same (e ∷ f ∷ es) = refl

abbrev atoms_at : Option (ℕ × List Element) → Option (ℕ × List Element)
atoms_at (Some (n, es)) = Some (n, map atom es)
atoms_at None = None

place_by : (n : ℕ) (e : Element) (es : List Element) (c : Bool)
    → first_place name_ends (suc n) (map atom es) ≡ atoms_at (first_place name_ends (suc n) es)
    → cond c (Some (n, atom e ∷ map atom es)) (first_place name_ends (suc n) (map atom es))
    ≡ atoms_at (cond c (Some (n, e ∷ es)) (first_place name_ends (suc n) es))
place_by n e es true h = refl
place_by n e es false h = h

place_same : (n : ℕ) (es : List Element)
    → first_place name_ends n (map atom es) ≡ atoms_at (first_place name_ends n es)
place_same n [] = refl
place_same n (e ∷ es) =
    ap (λ c. cond c (Some (n, atom e ∷ map atom es)) (first_place name_ends (suc n) (map atom es)))
    (ends_same (e ∷ es)) ∙ place_by n e es (name_ends (e ∷ es)) (place_same (suc n) es)

-- ---- chunks

abbrev atoms_in : Chunk → Chunk
atoms_in c = record { functions = map atom c.functions; others = map atom c.others }

abbrev function_alone : Element → Chunk
function_alone e = record { functions = e ∷ []; others = [] }

abbrev other_alone : Element → Chunk
other_alone e = record { functions = []; others = e ∷ [] }

alone_same : (e : Element) (c : Bool)
    → cond c (function_alone (atom e)) (other_alone (atom e))
    ≡ atoms_in (cond c (function_alone e) (other_alone e))
alone_same e true = refl
alone_same e false = refl

other_same : (e : Element) (fs os : List Element) (cs : List Chunk)
    → with_other (atom e) (map atom fs) (map atom os) (map atoms_in cs)
    ≡ map atoms_in (with_other e fs os cs)
other_same e [] os cs = refl
other_same e (f ∷ fs) os cs = refl

more_same : (e : Element) (d : Chunk) (cs : List Chunk) (c : Bool)
    → cond c (record { functions = atom e ∷ map atom d.functions; others = map atom d.others }
    ∷ map atoms_in cs)
    (with_other (atom e) (map atom d.functions) (map atom d.others) (map atoms_in cs))
    ≡ map atoms_in
    (cond c (record { functions = e ∷ d.functions; others = d.others } ∷ cs)
    (with_other e d.functions d.others cs))
more_same e d cs true = refl
more_same e d cs false = other_same e d.functions d.others cs

with_same : (e : Element) (cs : List Chunk)
    → with_element (atom e) (map atoms_in cs) ≡ map atoms_in (with_element e cs)
with_same e [] = ap (λ (c : Chunk). c ∷ []) (alone_same e e.function)
with_same e (d ∷ cs) = more_same e d cs e.function

chunks_same : (es : List Element) → chunks_of (map atom es) ≡ map atoms_in (chunks_of es)
chunks_same [] = refl
chunks_same (e ∷ es) = ap (with_element (atom e)) (chunks_same es) ∙ with_same e (chunks_of es)

both_many : (fs os : List Element) → length (map atom fs ++ map atom os) ≡ length (fs ++ os)
both_many [] os = as_many os
both_many (f ∷ fs) os = ap suc (both_many fs os)

group_same : (i : ℕ) (c : Chunk) → chunk_group i (atoms_in c) ≡ chunk_group i c
group_same i c =
    ap (λ (n : ℕ). applied (units i n ++ joined (units (i + n) (length (map atom c.others)))))
    (as_many c.functions)
    ∙ ap (λ (n : ℕ). applied
    (units i (length c.functions) ++ joined (units (i + length c.functions) n)))
    (as_many c.others)

groups_same : (i : ℕ) (cs : List Chunk) → chunk_groups i (map atoms_in cs) ≡ chunk_groups i cs
groups_same i [] = refl
groups_same i (c ∷ cs) =
    ap (λ (gs : List Grouping). gs
    ++ chunk_groups (i + length (map atom c.functions ++ map atom c.others))
    (map atoms_in cs)) (group_same i c)
    ∙ ap (λ (n : ℕ). chunk_group i c ++ chunk_groups (i + n) (map atoms_in cs))
    (both_many c.functions c.others)
    ∙ ap (λ (gs : List Grouping). chunk_group i c ++ gs) (groups_same (i + length (elements c)) cs)

-- ---- the grouping

by_same : (es : List Element) (p : Option (ℕ × List Element))
    → grouping_by (map atom es) (atoms_at p) ≡ grouping_by es p
by_same es (Some (n, [])) = refl
by_same es (Some (n, x ∷ after)) = refl
by_same es None =
    ap (λ (cs : List Chunk). first_of (joined (chunk_groups 0 cs))) (chunks_same es) ∙ ap (λ
    (gs : List Grouping). first_of (joined gs)) (groups_same 0 (chunks_of es))

grouping_same : (es : List Element) → grouping_of (map atom es) ≡ grouping_of es
unfolding grouping_of
grouping_same es =
    ap (grouping_by (map atom es)) (place_same 0 es) ∙ by_same es (first_place name_ends 0 es)

pub grouping_is : (es : List Element) (r : Result Grouping CheckFault) → Answers (map atom es) r
    → IsGrouping es r
grouping_is es (Ok g) a = sym (grouping_same es) ∙ grouping_is_computed (map atom es) (Ok g) a
grouping_is es (Err (Refused rule place)) a =
    sym (grouping_same es) ∙ grouping_is_computed (map atom es) (Err (Refused rule place)) a
grouping_is es (Err Memory) a = tt
