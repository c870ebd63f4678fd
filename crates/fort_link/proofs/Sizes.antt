-- How many lines files have.
use Rattle.std.proofs.Common.{◌≡◌, ◌<◌, ◌≤◌, ◌⊎◌, ℕ, ◌+◌, zero, suc, List, [], ◌∷◌, ◌++◌, length, map, sum, take, drop, get_or, inl, inr, sym, ap, subst, ◌∙◌, arith, add-one, drop-cons, take-append-drop}
use Rattle.std.proofs.lemmas.List.{take_more, length-take-le, map-append}
use Rattle.std.proofs.lemmas.List.Sums.{sum_by-append, sum_by-cons}
use Rattle.fort_base.specs.declared.refusal.Place.{Place}
use Rattle.fort_link.specs.Lines.{lines, all_lines, taken_off}
use Rattle.fort_link.specs.Spots.{StandsIn}
use Rattle.fort_link.proofs.Feeds.{feeds_few}

pub all_lines_cons : (file : List ℕ) (files : List (List ℕ))
    → all_lines (file ∷ files) ≡ lines file + all_lines files
all_lines_cons file files = sum_by-cons (λ n. n) (lines file) (map lines files)

pub all_lines_append : (xs ys : List (List ℕ))
    → all_lines (xs ++ ys) ≡ all_lines xs + all_lines ys
all_lines_append xs ys =
    ap sum (map-append lines xs ys) ∙ sum_by-append (λ n. n) (map lines xs) (map lines ys)

sizes_cons : (file : List ℕ) (files : List (List ℕ))
    → sum (map length (file ∷ files)) ≡ length file + sum (map length files)
sizes_cons file files = sum_by-cons (λ n. n) (length file) (map length files)

lines_few : (files : List (List ℕ)) → all_lines files ≤ length files + sum (map length files)
lines_few [] = omega arith
lines_few (file ∷ files) =
    let a = all_lines_cons file files in let b = sizes_cons file files in
    let c = feeds_few file in let d = lines_few files in omega arith

pub few_lines : (files : List (List ℕ)) → length files ≤ 64 → sum (map length files) ≤ 1048576
    → all_lines files ≤ 1048640
few_lines files count small = let a = lines_few files in omega arith

pub lines_more : (files : List (List ℕ)) (i : ℕ) (d : List ℕ) → i < length files
    → all_lines (take (i + 1) files) ≡ all_lines (take i files) + lines (get_or files i d)
lines_more files i d l =
    let a = ap all_lines (take_more files i d l) in
    let b = all_lines_append (take i files) (get_or files i d ∷ []) in
    let c = all_lines_cons (get_or files i d) [] in omega arith

pub lines_within : (files : List (List ℕ)) (i : ℕ) → all_lines (take i files) ≤ all_lines files
lines_within files i =
    let a = ap all_lines (take-append-drop i files) in
    let b = all_lines_append (take i files) (drop i files) in omega arith

-- the lines up to a further file
pub next_lines : (files : List (List ℕ)) (i : ℕ) (d : List ℕ) → i < length files
    → length files ≤ 64 → sum (map length files) ≤ 1048576
    → all_lines (take i files) + lines (get_or files i d) ≤ 1048640
next_lines files i d l count small =
    let a = lines_more files i d l in let b = lines_within files (i + 1) in
    let c = few_lines files count small in omega arith

pub room_for : (files : List (List ℕ)) (i before here : ℕ) (d : List ℕ) → i < length files
    → length files ≤ 64 → sum (map length files) ≤ 1048576 → before ≡ all_lines (take i files)
    → here ≡ lines (get_or files i d) → before + here ≤ 1048640
room_for files i before here d l count small b h =
    let a = next_lines files i d l count small in omega arith

pub one_small : (files : List (List ℕ)) (i : ℕ) (d : List ℕ) → i < length files
    → length (get_or files i d) ≤ sum (map length files)
one_small [] i d l = absurd (omega arith)
one_small (file ∷ files) zero d l = let a = sizes_cons file files in omega arith
one_small (file ∷ files) (suc i) d l =
    let a = sizes_cons file files in let b = one_small files i d (omega arith) in omega arith

-- ---- where a place stands

pub split_at : (files : List (List ℕ)) (i : ℕ) (d : List ℕ) → i < length files
    → files ≡ take i files ++ get_or files i d ∷ drop (i + 1) files
split_at files i d l =
    sym (take-append-drop i files)
    ∙ (ap (λ z. take i files ++ z) (drop-cons files i d l)
    ∙ ap (λ k. take i files ++ get_or files i d ∷ drop k files) (sym (add-one i)))

pub stands : (files : List (List ℕ)) (place : Place) (i before : ℕ) (d : List ℕ)
    → i < length files → before ≡ all_lines (take i files)
    → (i ≡ 0) ⊎ (before < place.line)
    → (drop (i + 1) files ≡ []) ⊎ (place.line ≤ before + lines (get_or files i d))
    → StandsIn files place (record { file = i; place = taken_off before place })
stands files place i before d l e begins ends = record {
  front = take i files;
  file = get_or files i d;
  back = drop (i + 1) files;
  whole = split_at files i d l;
  number = sym (length-take-le i files (omega arith));
  place = ap (λ n. taken_off n place) e;
  begins = first begins;
  ends = last ends;
}
  where
    first : (i ≡ 0) ⊎ (before < place.line)
        → (take i files ≡ []) ⊎ (all_lines (take i files) < place.line)
    first (inl z) = inl (ap (λ k. take k files) z)
    first (inr h) = inr (subst (λ n. n < place.line) e h)

    last : (drop (i + 1) files ≡ []) ⊎ (place.line ≤ before + lines (get_or files i d))
        → (drop (i + 1) files ≡ [])
        ⊎ (place.line ≤ all_lines (take i files) + lines (get_or files i d))
    last (inl z) = inl z
    last (inr h) = inr (subst (λ n. place.line ≤ n + lines (get_or files i d)) e h)
