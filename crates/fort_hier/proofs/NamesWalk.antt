-- The walk over the names at the top.
use Rattle.std.proofs.Common.{◌≡◌, ◌<◌, ◌≤◌, ◌+◌, ◌↔◌, ℕ, zero, suc, Bool, true, false, IsTrue, List, [], ◌∷◌, ◌++◌, length, map, take, get_or, Option, Some, None, refl, sym, ap, ◌∙◌, subst, append_assoc, arith}
use Rattle.std.specs.List.{slice_get}
use Rattle.std.proofs.lemmas.Option.{slice_get_within, get_or_from_slice_get}
use Rattle.std.proofs.lemmas.List.{take_more, map-append, append-nil}
use Rattle.std.proofs.Math.ListN.{length-append}
use Rattle.fort_base.specs.declared.refusal.Place.{Place}
use Rattle.fort_hier.specs.declared.tops.Top.{Top}
use Rattle.fort_base.specs.Places.{IsFirst, Keeps}
use Rattle.fort_types_builtin.specs.declared.table.TheConstants.{FUNCTION_COUNT}
use Rattle.fort_types_builtin.specs.declared.types.TheConstants.{TYPE_NAME_COUNT}
use Rattle.fort_types_builtin.specs.Declarations.{function_spellings}
use Rattle.fort_types_builtin.specs.Types.{type_spellings}
use Rattle.fort_types_builtin.proofs.DeclarationRows.{functions_long}
use Rattle.fort_types_builtin.proofs.TypeRows.{names_long}
use Rattle.fort_hier.specs.Names.{Spelling, spelling, Called, type_called, function_called, built_in, called, all_called, ClashesWith, DuplicateAt, IsDuplicate}
use Rattle.fort_hier.specs.declared.seen.Seen.{Seen}
use Rattle.fort_hier.specs.Seen.{HoldsSeen}
use Rattle.fort_hier.proofs.First.{Among, first_same, first_more, first_all}

-- ---- lists

pub more_of : {X : Type 0} (xs : List X) (i : ℕ) (x : X) → slice_get xs i ≡ Some x
    → take (i + 1) xs ≡ take i xs ++ x ∷ []
more_of xs i x e =
    take_more xs i x (slice_get_within xs i x e)
    ∙ ap (λ z. take i xs ++ z ∷ []) (get_or_from_slice_get xs i x x e)

taken : {X Y : Type 0} (f : X → Y) (bs : List X) (i : ℕ) → take i (map f bs) ≡ map f (take i bs)
taken f bs zero = refl
taken f [] (suc i) = refl
taken f (b ∷ bs) (suc i) = ap (λ l. f b ∷ l) (taken f bs i)

mapped : {X Y : Type 0} (f : X → Y) (bs : List X) (i : ℕ) (b : X) → slice_get bs i ≡ Some b
    → slice_get (map f bs) i ≡ Some (f b)
mapped f [] i b e = absurd cc
mapped f (c ∷ bs) zero b e = let s : c ≡ b = cc in ap (λ z. Some (f z)) s
mapped f (c ∷ bs) (suc i) b e = mapped f bs i b e

from_none : (i : ℕ) → 0 + i ≡ i
from_none i = omega arith

from_more : (n i : ℕ) → suc n + i ≡ suc (n + i)
from_more n i = omega arith

front_is : {X Y : Type 0} (f : X → Y) (front : List Y) (bs : List X) (i : ℕ)
    → take (length front + i) (front ++ map f bs) ≡ front ++ map f (take i bs)
front_is f [] bs i = ap (λ n. take n (map f bs)) (from_none i) ∙ taken f bs i
front_is f (a ∷ front) bs i =
    ap (λ n. take n (a ∷ (front ++ map f bs))) (from_more (length front) i)
    ∙ ap (λ l. a ∷ l) (front_is f front bs i)

pub at_is : {X Y : Type 0} (f : X → Y) (front : List Y) (bs : List X) (i : ℕ) (b : X)
    → slice_get bs i ≡ Some b → slice_get (front ++ map f bs) (length front + i) ≡ Some (f b)
at_is f [] bs i b e = ap (slice_get (map f bs)) (from_none i) ∙ mapped f bs i b e
at_is f (a ∷ front) bs i b e =
    ap (slice_get (a ∷ (front ++ map f bs))) (from_more (length front) i) ∙ at_is f front bs i b e

pub as_long : {X Y : Type 0} (f : X → Y) (xs : List X) → length (map f xs) ≡ length xs
as_long f [] = refl
as_long f (x ∷ xs) = let e = as_long f xs in omega arith

-- ---- built-in names have no place

placeless : (f : Spelling → Called) → ((s : Spelling) → (f s).place ≡ None)
    → (xs : List Spelling) (rest : List Called) (n : ℕ)
    → ((k : ℕ) (x : Called) → k < n → slice_get rest k ≡ Some x → x.place ≡ None)
    → (k : ℕ) (x : Called) → k < length xs + n → slice_get (map f xs ++ rest) k ≡ Some x
    → x.place ≡ None
placeless f p [] rest n r k x l e = r k x (omega arith) e
placeless f p (s ∷ xs) rest n r zero x l e =
    let g : f s ≡ x = cc in ap (λ (z : Called). z.place) (sym g) ∙ p s
placeless f p (s ∷ xs) rest n r (suc k) x l e = placeless f p xs rest n r k x (omega arith) e

pub no_place : (rest : List Called) (k : ℕ) (x : Called) → k < length built_in
    → slice_get (built_in ++ rest) k ≡ Some x → x.place ≡ None
no_place rest k x l e =
    placeless type_called (λ s. refl) type_spellings
    (map function_called function_spellings ++ rest) (length function_spellings)
    (λ j y m g. placeless function_called (λ s. refl) function_spellings rest 0
    (λ i z b h. absurd (omega arith)) j y (omega arith) g) k x
    (let a = length-append (map type_called type_spellings) (map function_called function_spellings)
    in let b = as_long type_called type_spellings
    in let d = as_long function_called function_spellings in omega arith)
    (ap (λ z. slice_get z k)
    (sym (append_assoc (map type_called type_spellings)
    (map function_called function_spellings) rest)) ∙ e)

-- ---- the walk

module _ (names : List Spelling) (tops : List Top) where
  abbrev D : ℕ → Place → Type 0
  D = DuplicateAt (all_called names tops)

  pub dup_none : (to : ℕ) → to ≤ length built_in → IsFirst (Among D to) None
  dup_none to l place w = let b = w.1 in
      let p : w.2.0.place ≡ None = no_place (map (called names) tops) w.0 w.2.0 (omega arith) w.2.1
      in let q : w.2.0.place ≡ Some place = w.2.3 in absurd cc

  here : (i : ℕ) (t : Top) (place : Place) → slice_get tops i ≡ Some t
      → D (length built_in + i) place
      → ClashesWith (built_in ++ map (called names) (take i tops)) (spelling names t.name)
      t.is_function × (place ≡ t.name.spot.place)
  here i t place e w =
      let g : slice_get (all_called names tops) (length built_in + i) ≡ Some (called names t) =
      at_is (called names) built_in tops i t e in
      let s : called names t ≡ w.0 =
      same (all_called names tops) (length built_in + i) (called names t) w.0 g w.1 in (
        subst (λ l. ClashesWith l (spelling names t.name) t.is_function)
            (front_is (called names) built_in tops i)
            (subst (λ
            (z : Called). ClashesWith (take (length built_in + i) (all_called names tops))
            z.spelling z.is_function) (sym s) w.2),
        let p : Some place ≡ Some t.name.spot.place = sym w.3 ∙ ap (λ (z : Called). z.place) (sym s)
            in cc,
      )
    where
      same : (xs : List Called) (k : ℕ) (x y : Called) → slice_get xs k ≡ Some x
          → slice_get xs k ≡ Some y → x ≡ y
      same xs k x y p q = cc

  there : (i : ℕ) (t : Top) → slice_get tops i ≡ Some t
      → ClashesWith (built_in ++ map (called names) (take i tops)) (spelling names t.name)
      t.is_function → D (length built_in + i) t.name.spot.place
  there i t e c = (
    called names t,
    at_is (called names) built_in tops i t e,
    subst (λ l. ClashesWith l (spelling names t.name) t.is_function)
        (sym (front_is (called names) built_in tops i)) c,
    refl,
  )

  next : (i : ℕ) → (length built_in + i) + 1 ≡ length built_in + (i + 1)
  next i = omega arith

  pub dup_same : (i : ℕ) (t : Top) (best : Option Place) → slice_get tops i ≡ Some t
      → (ClashesWith (built_in ++ map (called names) (take i tops)) (spelling names t.name)
      t.is_function → ⊥)
      → IsFirst (Among D (length built_in + i)) best
      → IsFirst (Among D (length built_in + (i + 1))) best
  dup_same i t best e n f =
      subst (λ z. IsFirst (Among D z) best) (next i)
      (first_same D (length built_in + i) best (λ place w. n (here i t place e w).0) f)

  pub dup_more : (i : ℕ) (t : Top) (best kept : Option Place) → slice_get tops i ≡ Some t
      → ClashesWith (built_in ++ map (called names) (take i tops)) (spelling names t.name)
      t.is_function
      → Keeps best t.name.spot.place kept → IsFirst (Among D (length built_in + i)) best
      → IsFirst (Among D (length built_in + (i + 1))) kept
  dup_more i t best kept e c k f = subst (λ z. IsFirst (Among D z) kept) (next i)
      (first_more D (length built_in + i) best kept t.name.spot.place (there i t e c)
      (λ other w. (here i t other e w).1) k f)

  pub dup_all : (i : ℕ) (best : Option Place) → length tops ≤ i
      → IsFirst (Among D (length built_in + i)) best
      → IsFirst (IsDuplicate (all_called names tops)) best
  dup_all i best l f = first_all D (IsDuplicate (all_called names tops)) (length built_in + i) best
      (λ place w. (
        w.0,
        let b = slice_get_within (all_called names tops) w.0 w.1.0 w.1.1
            in let a = length-append built_in (map (called names) tops)
            in let m = as_long (called names) tops in omega arith,
        w.1,
      ))
      (λ place w. (w.0, w.2)) f

-- ---- the map along the walk

pub take_all : {X : Type 0} (xs : List X) (n : ℕ) → length xs ≤ n → take n xs ≡ xs
take_all [] zero l = refl
take_all [] (suc n) l = refl
take_all (x ∷ xs) zero l = absurd (omega arith)
take_all (x ∷ xs) (suc n) l = ap (λ z. x ∷ z) (take_all xs n (omega arith))

next_of : (f : Spelling → Called) (xs : List Spelling) (n : ℕ) → n < length xs
    → map f (take n xs) ++ f (get_or xs n []) ∷ [] ≡ map f (take (n + 1) xs)
next_of f xs n l =
    sym (ap (map f) (take_more xs n [] l) ∙ map-append f (take n xs) (get_or xs n [] ∷ []))

-- one built-in type more, and all of them
pub types_step : (old new : Seen) (n : ℕ) (word : Spelling) → n < TYPE_NAME_COUNT
    → word ≡ get_or type_spellings n []
    → ((before : List Called) (x : Called) → HoldsSeen before old → x.spelling ≡ word
    → x.is_function ≡ false → HoldsSeen (before ++ x ∷ []) new)
    → HoldsSeen (map type_called (take n type_spellings)) old
    → HoldsSeen (map type_called (take (n + 1) type_spellings)) new
types_step old new n word l e h s =
    let k = names_long
    in subst (λ z. HoldsSeen z new) (next_of type_called type_spellings n (omega arith))
    (h (map type_called (take n type_spellings)) (type_called (get_or type_spellings n [])) s
    (sym e) refl)

pub types_done : (seen : Seen) (n : ℕ) → TYPE_NAME_COUNT ≤ n
    → HoldsSeen (map type_called (take n type_spellings)) seen
    → HoldsSeen (map type_called type_spellings) seen
types_done seen n l s =
    let k = names_long
    in subst (λ z. HoldsSeen (map type_called z) seen) (take_all type_spellings n (omega arith)) s

pub functions_step : (old new : Seen) (n : ℕ) (word : Spelling) → n < FUNCTION_COUNT
    → word ≡ get_or function_spellings n []
    → ((before : List Called) (x : Called) → HoldsSeen before old → x.spelling ≡ word
    → x.is_function ≡ true → HoldsSeen (before ++ x ∷ []) new)
    → HoldsSeen (map type_called type_spellings ++ map function_called (take n function_spellings))
    old
    → HoldsSeen
    (map type_called type_spellings ++ map function_called (take (n + 1) function_spellings)) new
functions_step old new n word l e h s = let k = functions_long in
    subst (λ z. HoldsSeen z new)
    (append_assoc (map type_called type_spellings)
    (map function_called (take n function_spellings))
    (function_called (get_or function_spellings n []) ∷ [])
    ∙ ap (λ z. map type_called type_spellings ++ z)
    (next_of function_called function_spellings n (omega arith)))
    (h (map type_called type_spellings ++ map function_called (take n function_spellings))
    (function_called (get_or function_spellings n [])) s (sym e) refl)

pub functions_first : (seen : Seen) → HoldsSeen (map type_called type_spellings) seen
    → HoldsSeen (map type_called type_spellings ++ map function_called (take 0 function_spellings))
    seen
functions_first seen s =
    subst (λ z. HoldsSeen z seen) (sym (append-nil (map type_called type_spellings))) s

pub functions_done : (seen : Seen) (n : ℕ) → FUNCTION_COUNT ≤ n
    → HoldsSeen (map type_called type_spellings ++ map function_called (take n function_spellings))
    seen → HoldsSeen built_in seen
functions_done seen n l s =
    let k = functions_long
    in subst (λ z. HoldsSeen (map type_called type_spellings ++ map function_called z) seen)
    (take_all function_spellings n (omega arith)) s

-- where the walk over the names of a component stands
pub record Walked (names : List Spelling) (tops : List Top) (i : ℕ) (held : Seen)
    (best : Option Place) : Type 0 where
  pub seen : HoldsSeen (built_in ++ map (called names) (take i tops)) held
  pub first : IsFirst (Among (DuplicateAt (all_called names tops)) (length built_in + i)) best

pub walk_none : (names : List Spelling) (tops : List Top) (seen : Seen) → HoldsSeen built_in seen
    → Walked names tops 0 seen None
walk_none names tops seen s =
    record {
      seen = subst (λ z. HoldsSeen z seen) (sym (append-nil built_in)) s;
      first = dup_none names tops (length built_in + 0) (omega arith);
    }

walk_seen : (names : List Spelling) (tops : List Top) (i : ℕ) (t : Top) (word : Spelling)
    (old new : Seen) → slice_get tops i ≡ Some t → word ≡ spelling names t.name
    → ((before : List Called) (x : Called) → HoldsSeen before old → x.spelling ≡ word
    → x.is_function ≡ t.is_function → HoldsSeen (before ++ x ∷ []) new)
    → HoldsSeen (built_in ++ map (called names) (take i tops)) old
    → HoldsSeen (built_in ++ map (called names) (take (i + 1) tops)) new
walk_seen names tops i t word old new e w h s = subst (λ z. HoldsSeen z new)
    (append_assoc built_in (map (called names) (take i tops)) (called names t ∷ [])
    ∙ ap (λ z. built_in ++ z)
    (sym (ap (map (called names)) (more_of tops i t e)
    ∙ map-append (called names) (take i tops) (t ∷ []))))
    (h (built_in ++ map (called names) (take i tops)) (called names t) s (sym w) refl)

pub walk_same : (names : List Spelling) (tops : List Top) (i : ℕ) (t : Top) (word : Spelling)
    (r : Bool) (best : Option Place) (old new : Seen) → slice_get tops i ≡ Some t
    → word ≡ spelling names t.name → r ≡ false
    → ((before : List Called) → HoldsSeen before old → IsTrue r
    ↔ ClashesWith before word t.is_function)
    → ((before : List Called) (x : Called) → HoldsSeen before old → x.spelling ≡ word
    → x.is_function ≡ t.is_function → HoldsSeen (before ++ x ∷ []) new)
    → Walked names tops i old best → Walked names tops (i + 1) new best
walk_same names tops i t word r best old new e w f c h s = record {
  seen = walk_seen names tops i t word old new e w h s.seen;
  first = dup_same names tops i t best e (λ d. let g : r ≡ true =
      (c (built_in ++ map (called names) (take i tops)) s.seen).1
      (subst (λ z. ClashesWith (built_in ++ map (called names) (take i tops)) z t.is_function)
      (sym w) d) in absurd cc) s.first;
}

pub walk_more : (names : List Spelling) (tops : List Top) (i : ℕ) (t : Top) (word : Spelling)
    (r : Bool) (best kept : Option Place) (old new : Seen) → slice_get tops i ≡ Some t
    → word ≡ spelling names t.name → r ≡ true
    → ((before : List Called) → HoldsSeen before old → IsTrue r
    ↔ ClashesWith before word t.is_function)
    → ((before : List Called) (x : Called) → HoldsSeen before old → x.spelling ≡ word
    → x.is_function ≡ t.is_function → HoldsSeen (before ++ x ∷ []) new)
    → Keeps best t.name.spot.place kept → Walked names tops i old best
    → Walked names tops (i + 1) new kept
walk_more names tops i t word r best kept old new e w f c h k s = record {
  seen = walk_seen names tops i t word old new e w h s.seen;
  first = dup_more names tops i t best kept e
      (subst (λ z. ClashesWith (built_in ++ map (called names) (take i tops)) z t.is_function) w
      ((c (built_in ++ map (called names) (take i tops)) s.seen).0 f)) k s.first;
}

pub walk_all : (names : List Spelling) (tops : List Top) (i : ℕ) (seen : Seen) (best : Option Place)
    → length tops ≤ i → Walked names tops i seen best
    → IsFirst (IsDuplicate (all_called names tops)) best
walk_all names tops i seen best l s = dup_all names tops i best l s.first
