-- The numbers of spellings.
use Rattle.std.proofs.Common.{◌≡◌, ◌<◌, ◌≤◌, ◌+◌, ◌↔◌, ℕ, zero, suc, Bool, true, false, cond, IsTrue, List, [], ◌∷◌, ◌++◌, length, get_or, map, take, Option, Some, None, refl, sym, ap, ◌∙◌, subst, append_assoc, arith}
use Rattle.std.specs.Str.{bytes_eq}
use Rattle.std.specs.List.{slice_get, Contains}
use Rattle.std.specs.Cmp.Lexicographic.{bytes_decides}
use Rattle.std.proofs.lemmas.Option.{slice_get_within}
use Rattle.std.proofs.lemmas.List.{append-nil, take_more, map-append}
use Rattle.std.proofs.Math.ListN.{length-append}
use Rattle.fort_base.specs.declared.refusal.Place.{Place}
use Rattle.fort_tree.specs.declared.spot.Name.{Name}
use Rattle.fort_hier.specs.declared.heads.TypeHead.{TypeHead}
use Rattle.fort_hier.specs.declared.numbers.Numbers.{Numbers}
use Rattle.fort_base.specs.Places.{IsFirst, Keeps}
use Rattle.fort_types_builtin.specs.declared.types.TheConstants.{TYPE_COUNT, TYPE_NAME_COUNT}
use Rattle.fort_types_builtin.specs.Types.{declared_spellings, any_spelling, type_spellings}
use Rattle.fort_types_builtin.proofs.PlainTypes.{declared_count}
use Rattle.fort_hier.specs.Names.{Spelling, spelling}
use Rattle.fort_hier.specs.Numbers.{head_spelling, number_of, NumberIs, numbered_as, HoldsNumbers, IsUnknown, all_types}
use Rattle.fort_hier.proofs.First.{Among, first_same, first_more, first_all}
use Rattle.fort_hier.proofs.NamesWalk.{more_of, take_all}

-- ---- a spelling more at the end

pub found_kept : (list : List Spelling) (s y : Spelling) → number_of list s < length list
    → number_of (list ++ y ∷ []) s ≡ number_of list s
found_kept [] s y l = absurd (omega arith)
found_kept (x ∷ list) s y l = at (found_kept list s y) (bytes_eq s x) refl
  where
    at : (number_of list s < length list → number_of (list ++ y ∷ []) s ≡ number_of list s)
        → (b : Bool) → bytes_eq s x ≡ b
        → number_of (x ∷ (list ++ y ∷ [])) s ≡ number_of (x ∷ list) s
    at rest true e =
        ap (λ z. cond z 0 (suc (number_of (list ++ y ∷ []) s))) e
        ∙ sym (ap (λ z. cond z 0 (suc (number_of list s))) e)
    at rest false e =
        let k : suc (number_of list s) < suc (length list) =
        subst (λ z. cond z 0 (suc (number_of list s)) < suc (length list)) e l in
        ap (λ z. cond z 0 (suc (number_of (list ++ y ∷ []) s))) e ∙ ap suc (rest (omega arith))
        ∙ sym (ap (λ z. cond z 0 (suc (number_of list s))) e)

past_head : (x : Spelling) (list : List Spelling) (s : Spelling)
    → number_of (x ∷ list) s ≡ suc (length list)
    → (bytes_eq s x ≡ false) × (number_of list s ≡ length list)
past_head x list s e = at (bytes_eq s x) refl
  where
    at : (b : Bool) → bytes_eq s x ≡ b → (bytes_eq s x ≡ false) × (number_of list s ≡ length list)
    at true f =
        let g : 0 ≡ suc (length list) = sym (ap (λ z. cond z 0 (suc (number_of list s))) f) ∙ e
        in absurd (omega arith)
    at false f =
        let g : suc (number_of list s) ≡ suc (length list) =
        sym (ap (λ z. cond z 0 (suc (number_of list s))) f) ∙ e in (f, omega arith)

pub found_new : (list : List Spelling) (s : Spelling) → number_of list s ≡ length list
    → number_of (list ++ s ∷ []) s ≡ length list
found_new [] s e = ap (λ z. cond z 0 1) ((bytes_decides s s).1 refl)
found_new (x ∷ list) s e =
    let p = past_head x list s e
    in ap (λ z. cond z 0 (suc (number_of (list ++ s ∷ []) s))) p.0 ∙ ap suc (found_new list s p.1)

pub found_none : (list : List Spelling) (s y : Spelling) → number_of list s ≡ length list
    → bytes_eq s y ≡ false → number_of (list ++ y ∷ []) s ≡ length (list ++ y ∷ [])
found_none [] s y e n = ap (λ z. cond z 0 1) n
found_none (x ∷ list) s y e n =
    let p = past_head x list s e
    in ap (λ z. cond z 0 (suc (number_of (list ++ y ∷ []) s))) p.0
    ∙ ap suc (found_none list s y p.1 n)

pub known_within : (list : List Spelling) (s : Spelling) → number_of list s < length list
    → Contains list s
known_within [] s l = absurd (omega arith)
known_within (x ∷ list) s l = at (known_within list s) (bytes_eq s x) refl
  where
    at : (number_of list s < length list → Contains list s) → (b : Bool) → bytes_eq s x ≡ b
        → Contains (x ∷ list) s
    at rest true e = (0, omega arith, sym ((bytes_decides s x).0 e))
    at rest false e =
        let k : suc (number_of list s) < suc (length list) =
        subst (λ z. cond z 0 (suc (number_of list s)) < suc (length list)) e l in
        let w = rest (omega arith) in (suc w.0, let m = w.1 in omega arith, w.2)

pub unknown_past : (list : List Spelling) (s : Spelling) → number_of list s ≡ length list
    → Contains list s → ⊥
unknown_past [] s e (k, l, q) = omega arith
unknown_past (x ∷ list) s e (zero, l, q) =
    let p = past_head x list s e in let f : bytes_eq s x ≡ true = (bytes_decides s x).1 (sym q)
    in let g = p.0 in cc
unknown_past (x ∷ list) s e (suc k, l, q) =
    let p = past_head x list s e in unknown_past list s p.1 (k, omega arith, q)

-- ---- the map

longer : (list : List Spelling) (y : Spelling) → length list < length (list ++ y ∷ [])
longer list y = let a = length-append list (y ∷ []) in omega arith

-- the spelling that is added has a number already
again_by : (list : List Spelling) (s y : Spelling) (n : ℕ) → NumberIs list y (Some n)
    → (r : Option ℕ) → NumberIs list s r → NumberIs (list ++ y ∷ []) s r
again_by list s y n k None w = at (bytes_eq s y) refl
  where
    at : (b : Bool) → bytes_eq s y ≡ b → number_of (list ++ y ∷ []) s ≡ length (list ++ y ∷ [])
    at true e =
        let q : s ≡ y = (bytes_decides s y).0 e
        in let f : number_of list s ≡ n = ap (number_of list) q ∙ k.0 in let l = k.1
        in absurd (omega arith)
    at false e = found_none list s y w e
again_by list s y n k (Some m) w =
    let l = w.1 in let e = w.0 in let g = longer list y
    in (found_kept list s y (omega arith) ∙ e, omega arith)

pub numbers_again : (list : List Spelling) (old : Numbers) (y : Spelling) (n : ℕ)
    → HoldsNumbers list old → Some n ≡ numbered_as old y → HoldsNumbers (list ++ y ∷ []) old
numbers_again list old y n h e =
    record {
      knows =
          λ s. again_by list s y n (subst (NumberIs list y) (sym e) (h.knows y)) (numbered_as old s)
          (h.knows s);
    }

new_by : (list : List Spelling) (s y : Spelling) (n : ℕ) → NumberIs list y None → length list ≡ n
    → (r : Option ℕ) → NumberIs list s r → (b : Bool) → bytes_eq y s ≡ b
    → NumberIs (list ++ y ∷ []) s (cond b (Some n) r)
new_by list s y n k q r w true e =
    let f : y ≡ s = (bytes_decides y s).0 e in let g = longer list y in
    (ap (number_of (list ++ y ∷ [])) (sym f) ∙ found_new list y k ∙ q, omega arith)
new_by list s y n k q None w false e = found_none list s y w (at (bytes_eq s y) refl)
  where
    at : (b : Bool) → bytes_eq s y ≡ b → bytes_eq s y ≡ false
    at true f =
        let g : bytes_eq y s ≡ true = (bytes_decides y s).1 (sym ((bytes_decides s y).0 f))
        in absurd cc
    at false f = f
new_by list s y n k q (Some m) w false e =
    let l = w.1 in let d = w.0 in let g = longer list y
    in (found_kept list s y (omega arith) ∙ d, omega arith)

pub numbers_new : (list : List Spelling) (old new : Numbers) (y : Spelling) (n : ℕ)
    → HoldsNumbers list old → length list ≡ n → None ≡ numbered_as old y
    → ((v : Spelling) → numbered_as new v ≡ cond (bytes_eq y v) (Some n) (numbered_as old v))
    → HoldsNumbers (list ++ y ∷ []) new
numbers_new list old new y n h q e u = record {
  knows = λ s. subst (NumberIs (list ++ y ∷ []) s) (sym (u s))
      (new_by list s y n (subst (NumberIs list y) (sym e) (h.knows y)) q (numbered_as old s)
      (h.knows s) (bytes_eq y s) refl);
}

pub numbers_none : (new : Numbers) → ((v : Spelling) → numbered_as new v ≡ None)
    → HoldsNumbers [] new
numbers_none new u = record { knows = λ s. subst (NumberIs [] s) (sym (u s)) refl }

pub number_told : (list : List Spelling) (s : Spelling) (r : Option ℕ) (size : ℕ) (n : ℕ)
    → NumberIs list s (Some n) → n ≡ number_of list s
number_told list s r size n w = sym w.0

pub known_told : (list : List Spelling) (s word : Spelling) (n : ℕ) → word ≡ s
    → NumberIs list word (Some n) → IsTrue true ↔ Contains list s
known_told list s word n q w = (
  λ _. let e = w.0 in let l = w.1
      in subst (Contains list) q (known_within list word (omega arith)),
  λ _. refl,
)

pub unknown_told : (list : List Spelling) (s word : Spelling) → word ≡ s → NumberIs list word None
    → IsTrue false ↔ Contains list s
unknown_told list s word q w = (
  λ e. let f : false ≡ true = e
      in absurd cc,
  λ c. absurd (unknown_past list word w (subst (Contains list) (sym q) c)),
)

-- ---- the loops

get_front : (xs : List Spelling) (y : Spelling) (n : ℕ) → n < length xs
    → get_or (xs ++ y ∷ []) n [] ≡ get_or xs n []
get_front [] y n l = absurd (omega arith)
get_front (x ∷ xs) y zero l = refl
get_front (x ∷ xs) y (suc n) l = get_front xs y n (omega arith)

get_end : (xs : List Spelling) (y : Spelling) → get_or (xs ++ y ∷ []) (length xs) [] ≡ y
get_end [] y = refl
get_end (x ∷ xs) y = get_end xs y

pub type_is : (n : ℕ) → n < TYPE_COUNT → get_or type_spellings n [] ≡ get_or declared_spellings n []
unfolding type_spellings
type_is n l = let c = declared_count in get_front declared_spellings any_spelling n (omega arith)

pub any_is : get_or type_spellings TYPE_COUNT [] ≡ any_spelling
unfolding type_spellings
any_is = ap (λ n. get_or (declared_spellings ++ any_spelling ∷ []) n []) (sym declared_count)
    ∙ get_end declared_spellings any_spelling

taken_long : (xs : List Spelling) (n : ℕ) → n ≤ length xs → length (take n xs) ≡ n
taken_long xs zero l = refl
taken_long [] (suc n) l = absurd (omega arith)
taken_long (x ∷ xs) (suc n) l = let e = taken_long xs n (omega arith) in omega arith

pub built_in_step : (old new : Numbers) (n : ℕ) (word : Spelling) → n < TYPE_COUNT
    → word ≡ get_or type_spellings n []
    → ((list : List Spelling) → HoldsNumbers list old → length list ≡ n
    → HoldsNumbers (list ++ word ∷ []) new)
    → HoldsNumbers (take n declared_spellings) old
    → HoldsNumbers (take (n + 1) declared_spellings) new
built_in_step old new n word l e h s = let c = declared_count in
    subst (λ z. HoldsNumbers z new) (ap (λ z. take n declared_spellings ++ z ∷ []) (e ∙ type_is n l)
    ∙ sym (take_more declared_spellings n [] (omega arith)))
    (h (take n declared_spellings) s (taken_long declared_spellings n (omega arith)))

pub built_in_done : (numbers : Numbers) (n : ℕ) → TYPE_COUNT ≤ n
    → HoldsNumbers (take n declared_spellings) numbers → HoldsNumbers declared_spellings numbers
built_in_done numbers n l s =
    let c = declared_count
    in subst (λ z. HoldsNumbers z numbers) (take_all declared_spellings n (omega arith)) s

as_long : {X Y : Type 0} (f : X → Y) (xs : List X) → length (map f xs) ≡ length xs
as_long f [] = refl
as_long f (x ∷ xs) = let e = as_long f xs in omega arith

heads_long : (heads : List TypeHead) (n : ℕ) → n ≤ length heads → length (take n heads) ≡ n
heads_long heads zero l = refl
heads_long [] (suc n) l = absurd (omega arith)
heads_long (x ∷ heads) (suc n) l = let e = heads_long heads n (omega arith) in omega arith

pub heads_start : (names : List Spelling) (heads : List TypeHead) (numbers : Numbers)
    → HoldsNumbers declared_spellings numbers
    → HoldsNumbers (declared_spellings ++ map (head_spelling names) (take 0 heads)) numbers
heads_start names heads numbers s =
    subst (λ z. HoldsNumbers z numbers) (sym (append-nil declared_spellings)) s

pub heads_next : (names : List Spelling) (heads : List TypeHead) (old new : Numbers) (i : ℕ)
    (head : TypeHead) (word : Spelling) → slice_get heads i ≡ Some head
    → word ≡ spelling names head.name
    → ((list : List Spelling) → HoldsNumbers list old → length list ≡ TYPE_COUNT + i
    → HoldsNumbers (list ++ word ∷ []) new)
    → HoldsNumbers (declared_spellings ++ map (head_spelling names) (take i heads)) old
    → HoldsNumbers (declared_spellings ++ map (head_spelling names) (take (i + 1) heads)) new
heads_next names heads old new i head word e w h s =
    let c = declared_count in let l = slice_get_within heads i head e in
    let a = length-append declared_spellings (map (head_spelling names) (take i heads))
    in let m = as_long (head_spelling names) (take i heads)
    in let n = heads_long heads i (omega arith) in
    subst (λ z. HoldsNumbers z new)
    (append_assoc declared_spellings (map (head_spelling names) (take i heads)) (word ∷ [])
    ∙ ap (λ z. declared_spellings ++ z)
    (ap (λ z. map (head_spelling names) (take i heads) ++ z ∷ []) w
    ∙ sym (ap (map (head_spelling names)) (more_of heads i head e)
    ∙ map-append (head_spelling names) (take i heads) (head ∷ []))))
    (h (declared_spellings ++ map (head_spelling names) (take i heads)) s (omega arith))

heads_whole : (heads : List TypeHead) (n : ℕ) → length heads ≤ n → take n heads ≡ heads
heads_whole heads n l = take_all heads n l

pub heads_done : (names : List Spelling) (heads : List TypeHead) (numbers : Numbers) (i : ℕ)
    → length heads ≤ i
    → HoldsNumbers (declared_spellings ++ map (head_spelling names) (take i heads)) numbers
    → HoldsNumbers (declared_spellings ++ map (head_spelling names) heads) numbers
heads_done names heads numbers i l s =
    subst (λ z. HoldsNumbers (declared_spellings ++ map (head_spelling names) z) numbers)
    (heads_whole heads i l) s

pub any_last : (names : List Spelling) (heads : List TypeHead) (old new : Numbers) (word : Spelling)
    → word ≡ get_or type_spellings TYPE_COUNT []
    → ((list : List Spelling) → HoldsNumbers list old → length list ≡ TYPE_COUNT + length heads
    → HoldsNumbers (list ++ word ∷ []) new)
    → HoldsNumbers (declared_spellings ++ map (head_spelling names) heads) old
    → HoldsNumbers (all_types names heads) new
any_last names heads old new word e h s =
    let c = declared_count
    in let a = length-append declared_spellings (map (head_spelling names) heads)
    in let m = as_long (head_spelling names) heads in
    subst (λ z. HoldsNumbers ((declared_spellings ++ map (head_spelling names) heads) ++ z ∷ [])
    new) (e ∙ any_is)
    (h (declared_spellings ++ map (head_spelling names) heads) s (omega arith))

-- ---- unknown names

abbrev pub UnknownAt : List Spelling → List Spelling → List Name → ℕ → Place → Type 0
UnknownAt list names mentioned k place = (name : Name) × (slice_get mentioned k ≡ Some name)
    × (Contains list (spelling names name) → ⊥) × (place ≡ name.spot.place)

one : (mentioned : List Name) (k : ℕ) (a b : Name) → slice_get mentioned k ≡ Some a
    → slice_get mentioned k ≡ Some b → a ≡ b
one mentioned k a b p q = cc

pub unknown_same : (list names : List Spelling) (mentioned : List Name) (k : ℕ) (name : Name)
    (best : Option Place) → slice_get mentioned k ≡ Some name → Contains list (spelling names name)
    → IsFirst (Among (UnknownAt list names mentioned) k) best
    → IsFirst (Among (UnknownAt list names mentioned) (k + 1)) best
unknown_same list names mentioned k name best e c f =
    first_same (UnknownAt list names mentioned) k best
    (λ place w. w.2 (subst (λ
    (z : Name). Contains list (spelling names z)) (one mentioned k name w.0 e w.1) c)) f

pub unknown_more : (list names : List Spelling) (mentioned : List Name) (k : ℕ) (name : Name)
    (best kept : Option Place) → slice_get mentioned k ≡ Some name
    → (Contains list (spelling names name) → ⊥)
    → Keeps best name.spot.place kept → IsFirst (Among (UnknownAt list names mentioned) k) best
    → IsFirst (Among (UnknownAt list names mentioned) (k + 1)) kept
unknown_more list names mentioned k name best kept e n c f =
    first_more (UnknownAt list names mentioned) k best kept name.spot.place (name, e, n, refl)
    (λ other w. w.3 ∙ ap (λ (z : Name). z.spot.place) (one mentioned k w.0 name w.1 e)) c f

pub unknown_all : (list names : List Spelling) (mentioned : List Name) (k : ℕ) (best : Option Place)
    → length mentioned ≤ k → IsFirst (Among (UnknownAt list names mentioned) k) best
    → IsFirst (IsUnknown list names mentioned) best
unknown_all list names mentioned k best l f =
    first_all (UnknownAt list names mentioned) (IsUnknown list names mentioned) k best
    (λ place w. (
      w.0,
      let m = slice_get_within mentioned w.0 w.1 w.2
          in omega arith,
      (w.1, w.2, w.3, w.4),
    )) (λ place w. (w.0, w.2.0, w.2.1, w.2.2, w.2.3)) f

-- ---- lists of types

-- a mapped list behind a front, one more and all
pub mapped_step : {X Y : Type 0} (f : X → Y) (front done new : List Y) (xs : List X) (i : ℕ) (x : X)
    (y : Y) → slice_get xs i ≡ Some x → y ≡ f x → new ≡ done ++ y ∷ []
    → done ≡ front ++ map f (take i xs)
    → new ≡ front ++ map f (take (i + 1) xs)
mapped_step f front done new xs i x y e q n d =
    n ∙ ap (λ z. done ++ z ∷ []) q ∙ ap (λ l. l ++ f x ∷ []) d
    ∙ append_assoc front (map f (take i xs)) (f x ∷ [])
    ∙ ap (λ l. front ++ l) (sym (ap (map f) (more_of xs i x e) ∙ map-append f (take i xs) (x ∷ [])))

pub mapped_all : {X Y : Type 0} (f : X → Y) (front done : List Y) (xs : List X) (i : ℕ)
    → length xs ≤ i → done ≡ front ++ map f (take i xs) → done ≡ front ++ map f xs
mapped_all f front done xs i l d = d ∙ ap (λ z. front ++ map f z) (take_all xs i l)

-- how many names of types there are
pub all_long : (names : List Spelling) (heads : List TypeHead)
    → length (all_types names heads) ≡ TYPE_NAME_COUNT + length heads
all_long names heads =
    let c = declared_count
    in let a =
    length-append (declared_spellings ++ map (head_spelling names) heads) (any_spelling ∷ []) in
    let b = length-append declared_spellings (map (head_spelling names) heads)
    in let m = as_long (head_spelling names) heads in omega arith
