-- Index of sets and types by name: what is found along the places of a spelling is what is found
-- along the whole list.
use Rattle.std.proofs.Common.{◌≡◌, ◌<◌, ◌≤◌, ◌+◌, ◌-◌, ℕ, zero, suc, Bool, true, false, ◌||◌, ◌&&◌, cond, List, [], ◌∷◌, drop, length, slice_get, get_or, Option, Some, None, refl, sym, ap, ◌∙◌, subst, arith}
use Rattle.std.specs.Option.{is_some}
use Rattle.std.specs.Str.{bytes_eq}
use Rattle.std.proofs.lemmas.Option.{slice_get_read}
use Rattle.std.specs.Bool.{⊤, beq}
use Rattle.std.specs.Cmp.Lexicographic.{bytes_decides}
use Rattle.fort_types_sets.specs.declared.member.MemberSet.{MemberSet}
use Rattle.fort_types_builtin.specs.Types.{any_spelling}
use Rattle.fort_typing_known.specs.Spellings.{Spelling}
use Rattle.fort_typing_known.specs.Sets.{any_set, first_set, has_name, is_set_of}
use Rattle.fort_typing_known.specs.Names.{shows, type_number, is_type}
use Rattle.fort_typing_known.specs.Places.{place_by, is_itself, set_name}
use Rattle.fort_typing_known.proofs.Placed.{dropped_at}

-- ---- types

pub number_found : (p : ℕ) (ts : List Spelling) (s : Spelling) (n : ℕ)
    → place_by is_itself p ts s ≡ Some n → n ≡ p + type_number ts s
number_found p [] s n e = absurd cc
number_found p (t ∷ ts) s n e = by (number_found (suc p) ts s n) (bytes_eq t s) e
  where
    by : (place_by is_itself (suc p) ts s ≡ Some n → n ≡ suc p + type_number ts s) → (b : Bool)
        → cond b (Some p) (place_by is_itself (suc p) ts s) ≡ Some n
        → n ≡ p + cond b 0 (suc (type_number ts s))
    by rest true f = let g : p ≡ n = cc in omega arith
    by rest false f = let g = rest f in omega arith

pub number_missing : (p : ℕ) (ts : List Spelling) (s : Spelling) → place_by is_itself p ts s ≡ None
    → length ts ≡ type_number ts s
number_missing p [] s e = refl
number_missing p (t ∷ ts) s e = by (number_missing (suc p) ts s) (bytes_eq t s) e
  where
    by : (place_by is_itself (suc p) ts s ≡ None → length ts ≡ type_number ts s) → (b : Bool)
        → cond b (Some p) (place_by is_itself (suc p) ts s) ≡ None
        → suc (length ts) ≡ cond b 0 (suc (type_number ts s))
    by rest true f = absurd cc
    by rest false f = ap suc (rest f)

abbrev pub is_placed : Option ℕ → Bool
is_placed (Some n) = true
is_placed None = false

pub type_found : (p : ℕ) (ts : List Spelling) (s : Spelling)
    → is_type ts s ≡ (is_placed (place_by is_itself p ts s) || bytes_eq any_spelling s)
type_found p [] s = refl
type_found p (t ∷ ts) s = by (type_found (suc p) ts s) (bytes_eq t s)
  where
    by : is_type ts s ≡ (is_placed (place_by is_itself (suc p) ts s) || bytes_eq any_spelling s)
        → (b : Bool)
        → (b || is_type ts s)
        ≡ (is_placed (cond b (Some p) (place_by is_itself (suc p) ts s)) || bytes_eq any_spelling s)
    by rest true = refl
    by rest false = rest

-- ---- sets

-- a test is of sets of this spelling alone
abbrev pub Tells : Spelling → (MemberSet → Bool) → Type 0
Tells s test = (x : MemberSet) → test x ≡ true → bytes_eq x.name s ≡ true

left_true : (a b : Bool) → (a && b) ≡ true → a ≡ true
left_true true b e = refl
left_true false b e = e

pub name_tells : (s : Spelling) (dotted : Bool) → Tells s (has_name s dotted)
name_tells s dotted x e = left_true (bytes_eq x.name s) (beq x.dotted dotted) e

pub set_tells : (s : Spelling) (dotted : Bool) (width : ℕ) → Tells s (is_set_of s dotted width)
set_tells s dotted width x e = name_tells s dotted x (left_true (has_name s dotted x) _ e)

pub showing_tells : (s : Spelling) → Tells s (shows s)
showing_tells s x e = name_tells s false x (left_true (has_name s false x) _ e)

untold : (s : Spelling) (test : MemberSet → Bool) → Tells s test → (x : MemberSet)
    → bytes_eq x.name s ≡ false → test x ≡ false
untold s test t x f = by (test x) refl
  where
    by : (b : Bool) → test x ≡ b → b ≡ false
    by true e = let g : bytes_eq x.name s ≡ true = t x e in absurd cc
    by false e = refl

dropped_tail : (ys : List MemberSet) (p : ℕ) (x : MemberSet) (xs : List MemberSet)
    → x ∷ xs ≡ drop p ys → xs ≡ drop (suc p) ys
dropped_tail [] zero x xs e = absurd cc
dropped_tail [] (suc p) x xs e = absurd cc
dropped_tail (y ∷ ys) zero x xs e = let f : xs ≡ ys = cc in f
dropped_tail (y ∷ ys) (suc p) x xs e = dropped_tail ys p x xs e

dropped_head : (ys : List MemberSet) (p : ℕ) (x : MemberSet) (xs : List MemberSet)
    → x ∷ xs ≡ drop p ys → slice_get ys p ≡ Some x
dropped_head [] zero x xs e = absurd cc
dropped_head [] (suc p) x xs e = absurd cc
dropped_head (y ∷ ys) zero x xs e = let f : x ≡ y = cc in ap Some (sym f)
dropped_head (y ∷ ys) (suc p) x xs e = dropped_head ys p x xs e

dropped_long : (ys : List MemberSet) (p : ℕ) → p < length ys → p + length (drop p ys) ≡ length ys
dropped_long [] p l = absurd (omega arith)
dropped_long (y ∷ ys) zero l = omega arith
dropped_long (y ∷ ys) (suc p) l = let e = dropped_long ys p (omega arith) in omega arith

-- what is found from a place on
abbrev pub any_from : (MemberSet → Bool) → List MemberSet → Option ℕ → Bool
any_from test sets None = false
any_from test sets (Some k) = any_set test (drop k sets)

abbrev pub first_from : (MemberSet → Bool) → List MemberSet → Option ℕ → ℕ
first_from test sets None = length sets
first_from test sets (Some k) = k + first_set test (drop k sets)

-- the place of a set of this spelling, from another one on
abbrev pub IsPlace : Spelling → List MemberSet → ℕ → Option ℕ → Type 0
IsPlace s sets p None = ⊤
IsPlace s sets p (Some k) = (p ≤ k) × (k < length sets)
    × ((x : MemberSet) → slice_get sets k ≡ Some x → bytes_eq x.name s ≡ true)

-- how many sets are left from a place on
abbrev pub left_from : List MemberSet → Option ℕ → ℕ
left_from sets None = 0
left_from sets (Some k) = length sets - k

any_along : (test : MemberSet → Bool) (s : Spelling) → Tells s test
    → (sets : List MemberSet) (p : ℕ) (xs : List MemberSet) → xs ≡ drop p sets
    → any_set test xs ≡ any_from test sets (place_by set_name p xs s)
any_along test s t sets p [] e = refl
any_along test s t sets p (x ∷ xs) e =
    by (any_along test s t sets (suc p) xs (dropped_tail sets p x xs e)) (bytes_eq x.name s) refl
  where
    by : any_set test xs ≡ any_from test sets (place_by set_name (suc p) xs s) → (b : Bool)
        → bytes_eq x.name s ≡ b
        → any_set test (x ∷ xs)
        ≡ any_from test sets (cond b (Some p) (place_by set_name (suc p) xs s))
    by rest true q = ap (any_set test) e
    by rest false q = ap (λ z. z || any_set test xs) (untold s test t x q) ∙ rest

one_on : (p n : ℕ) → p + suc n ≡ suc p + n
one_on p n = omega arith

first_along : (test : MemberSet → Bool) (s : Spelling) → Tells s test
    → (sets : List MemberSet) (p : ℕ) (xs : List MemberSet) → xs ≡ drop p sets
    → p + length xs ≡ length sets
    → p + first_set test xs ≡ first_from test sets (place_by set_name p xs s)
first_along test s t sets p [] e l = l
first_along test s t sets p (x ∷ xs) e l =
    by (first_along test s t sets (suc p) xs (dropped_tail sets p x xs e) (omega arith))
    (bytes_eq x.name s) refl
  where
    by : suc p + first_set test xs ≡ first_from test sets (place_by set_name (suc p) xs s)
        → (b : Bool) → bytes_eq x.name s ≡ b
        → p + first_set test (x ∷ xs)
        ≡ first_from test sets (cond b (Some p) (place_by set_name (suc p) xs s))
    by rest true q = ap (λ ys. p + first_set test ys) e
    by rest false q =
        ap (λ z. p + cond z 0 (suc (first_set test xs))) (untold s test t x q)
        ∙ one_on p (first_set test xs) ∙ rest

place_along : (s : Spelling) (sets : List MemberSet) (p : ℕ) (xs : List MemberSet)
    → xs ≡ drop p sets → p + length xs ≡ length sets → IsPlace s sets p (place_by set_name p xs s)
place_along s sets p [] e l = tt
place_along s sets p (x ∷ xs) e l =
    by (place_along s sets (suc p) xs (dropped_tail sets p x xs e) (omega arith))
    (bytes_eq x.name s) refl
  where
    later : (o : Option ℕ) → IsPlace s sets (suc p) o → IsPlace s sets p o
    later None i = tt
    later (Some k) i = let m = i.0 in (omega arith, i.1, i.2)

    by : IsPlace s sets (suc p) (place_by set_name (suc p) xs s) → (b : Bool)
        → bytes_eq x.name s ≡ b
        → IsPlace s sets p (cond b (Some p) (place_by set_name (suc p) xs s))
    by rest true q = (
      omega arith,
      omega arith,
      λ y f. let g : slice_get sets p ≡ Some x =
          dropped_head sets p x xs e in let h : x ≡ y = cc
          in subst (λ (z : MemberSet). bytes_eq z.name s ≡ true) h q,
    )
    by rest false q = later (place_by set_name (suc p) xs s) rest

none_before : (n : ℕ) → n ≡ 0 + n
none_before n = omega arith

none_more : (sets : List MemberSet) → 0 + length sets ≡ length sets
none_more sets = omega arith

-- ---- the loops

pub any_begins : (test : MemberSet → Bool) (s : Spelling) → Tells s test
    → (sets : List MemberSet) (o : Option ℕ) → o ≡ place_by set_name 0 sets s
    → any_set test sets ≡ any_from test sets o
any_begins test s t sets o e = any_along test s t sets 0 sets refl ∙ sym (ap (any_from test sets) e)

pub first_begins : (test : MemberSet → Bool) (s : Spelling) → Tells s test
    → (sets : List MemberSet) (o : Option ℕ) → o ≡ place_by set_name 0 sets s
    → first_set test sets ≡ first_from test sets o
first_begins test s t sets o e =
    none_before (first_set test sets) ∙ first_along test s t sets 0 sets refl (none_more sets)
    ∙ sym (ap (first_from test sets) e)

pub place_begins : (s : Spelling) (sets : List MemberSet) (o : Option ℕ)
    → o ≡ place_by set_name 0 sets s → IsPlace s sets 0 o
place_begins s sets o e =
    subst (IsPlace s sets 0) (sym e) (place_along s sets 0 sets refl (none_more sets))

-- the set at a place, and behind it the next one of its spelling
pub record GoesOn (s : Spelling) (sets : List MemberSet) (k : ℕ) (x : MemberSet)
    (o : Option ℕ) : Type 0 where
  pub at : slice_get sets k ≡ Some x
  pub named : bytes_eq x.name s ≡ true
  pub next : o ≡ place_by set_name (suc k) (drop (suc k) sets) s

pub goes_on : (s : Spelling) (sets : List MemberSet) (k : ℕ) (x : MemberSet) (o : Option ℕ)
    → slice_get sets k ≡ Some x → IsPlace s sets 0 (Some k)
    → ((set : MemberSet) → slice_get sets k ≡ Some set
    → o ≡ place_by set_name (suc k) (drop (suc k) sets) set.name) → GoesOn s sets k x o
goes_on s sets k x o a i n = record {
  at = a;
  named = i.2 x a;
  next = n x a
      ∙ ap (place_by set_name (suc k) (drop (suc k) sets)) ((bytes_decides x.name s).0 (i.2 x a));
}

within : (s : Spelling) (sets : List MemberSet) (k : ℕ) (x : MemberSet) (o : Option ℕ)
    → k < length sets → GoesOn s sets k x o → suc k + length (drop (suc k) sets) ≡ length sets
within s sets k x o l g =
    let e = dropped_long sets k l in let f = ap length (dropped_at sets k x g.at) in omega arith

pub any_goes_on : (test : MemberSet → Bool) (s : Spelling) → Tells s test
    → (sets : List MemberSet) (k : ℕ) (x : MemberSet) (o : Option ℕ) → GoesOn s sets k x o
    → test x ≡ false
    → any_set test sets ≡ any_from test sets (Some k) → any_set test sets ≡ any_from test sets o
any_goes_on test s t sets k x o g f h =
    h ∙ ap (any_set test) (dropped_at sets k x g.at)
    ∙ ap (λ z. z || any_set test (drop (suc k) sets)) f
    ∙ any_along test s t sets (suc k) (drop (suc k) sets) refl
    ∙ sym (ap (any_from test sets) g.next)

pub first_goes_on : (test : MemberSet → Bool) (s : Spelling) → Tells s test
    → (sets : List MemberSet) (k : ℕ) (x : MemberSet) (o : Option ℕ) → k < length sets
    → GoesOn s sets k x o → test x ≡ false
    → first_set test sets ≡ first_from test sets (Some k)
    → first_set test sets ≡ first_from test sets o
first_goes_on test s t sets k x o l g f h =
    h ∙ ap (λ ys. k + first_set test ys) (dropped_at sets k x g.at)
    ∙ ap (λ z. k + cond z 0 (suc (first_set test (drop (suc k) sets)))) f
    ∙ one_on k (first_set test (drop (suc k) sets))
    ∙ first_along test s t sets (suc k) (drop (suc k) sets) refl (within s sets k x o l g)
    ∙ sym (ap (first_from test sets) g.next)

pub place_goes_on : (s : Spelling) (sets : List MemberSet) (k : ℕ) (x : MemberSet) (o : Option ℕ)
    → k < length sets → GoesOn s sets k x o → IsPlace s sets (suc k) o
place_goes_on s sets k x o l g =
    subst (IsPlace s sets (suc k)) (sym g.next)
    (place_along s sets (suc k) (drop (suc k) sets) refl (within s sets k x o l g))

pub from_first : (s : Spelling) (sets : List MemberSet) (p : ℕ) (o : Option ℕ) → IsPlace s sets p o
    → IsPlace s sets 0 o
from_first s sets p None i = tt
from_first s sets p (Some k) i = (omega arith, i.1, i.2)

pub fewer_left : (s : Spelling) (sets : List MemberSet) (k : ℕ) (o : Option ℕ) → k < length sets
    → IsPlace s sets (suc k) o → left_from sets o < left_from sets (Some k)
fewer_left s sets k None l i = omega arith
fewer_left s sets k (Some n) l i = let m = i.0 in let q = i.1 in omega arith

-- ---- a loop's beginning and its steps

pub any_first : (test : MemberSet → Bool) (s : Spelling) → Tells s test
    → (sets whole : List MemberSet) (o : Option ℕ) → sets ≡ whole → o ≡ place_by set_name 0 whole s
    → (any_set test sets ≡ any_from test sets o) × IsPlace s sets 0 o
any_first test s t sets whole o e f =
    let g : o ≡ place_by set_name 0 sets s = f ∙ ap (λ z. place_by set_name 0 z s) (sym e)
    in (any_begins test s t sets o g, place_begins s sets o g)

pub first_first : (test : MemberSet → Bool) (s : Spelling) → Tells s test
    → (sets whole : List MemberSet) (o : Option ℕ) → sets ≡ whole → o ≡ place_by set_name 0 whole s
    → (first_set test sets ≡ first_from test sets o) × IsPlace s sets 0 o
first_first test s t sets whole o e f =
    let g : o ≡ place_by set_name 0 sets s = f ∙ ap (λ z. place_by set_name 0 z s) (sym e)
    in (first_begins test s t sets o g, place_begins s sets o g)

-- the next one of a set's spelling
abbrev pub Next : List MemberSet → ℕ → Option ℕ → Type 0
Next sets k o = (set : MemberSet) → slice_get sets k ≡ Some set
    → o ≡ place_by set_name (suc k) (drop (suc k) sets) set.name

going_on : (s : Spelling) (sets whole : List MemberSet) (k : ℕ) (x : MemberSet) (o : Option ℕ)
    → sets ≡ whole → x ≡ get_or sets k x → Next whole k o → IsPlace s sets 0 (Some k)
    → GoesOn s sets k x o
going_on s sets whole k x o e a n i =
    goes_on s sets k x o (slice_get_read sets (length sets) k x refl i.1 a) i
    (subst (λ z. Next z k o) (sym e) n)

pub any_step : (test : MemberSet → Bool) (s : Spelling) → Tells s test
    → (sets whole : List MemberSet) (k : ℕ) (x : MemberSet) (o next : Option ℕ) → sets ≡ whole
    → next ≡ Some k → x ≡ get_or sets k x → test x ≡ false
    → Next whole k o → (any_set test sets ≡ any_from test sets next) × IsPlace s sets 0 next
    → (any_set test sets ≡ any_from test sets o) × IsPlace s sets 0 o
any_step test s t sets whole k x o next e f a b n h =
    let i : IsPlace s sets 0 (Some k) = subst (IsPlace s sets 0) f h.1
    in let g = going_on s sets whole k x o e a n i in (
      any_goes_on test s t sets k x o g b (h.0 ∙ ap (any_from test sets) f),
      from_first s sets (suc k) o (place_goes_on s sets k x o i.1 g),
    )

pub first_step : (test : MemberSet → Bool) (s : Spelling) → Tells s test
    → (sets whole : List MemberSet) (k : ℕ) (x : MemberSet) (o next : Option ℕ) → sets ≡ whole
    → next ≡ Some k → x ≡ get_or sets k x → test x ≡ false
    → Next whole k o → (first_set test sets ≡ first_from test sets next) × IsPlace s sets 0 next
    → (first_set test sets ≡ first_from test sets o) × IsPlace s sets 0 o
first_step test s t sets whole k x o next e f a b n h =
    let i : IsPlace s sets 0 (Some k) = subst (IsPlace s sets 0) f h.1
    in let g = going_on s sets whole k x o e a n i in (
      first_goes_on test s t sets k x o i.1 g b (h.0 ∙ ap (first_from test sets) f),
      from_first s sets (suc k) o (place_goes_on s sets k x o i.1 g),
    )

pub step_falls : (s : Spelling) (sets whole : List MemberSet) (k : ℕ) (x : MemberSet)
    (o next : Option ℕ) → sets ≡ whole → next ≡ Some k → x ≡ get_or sets k x → Next whole k o
    → IsPlace s sets 0 next
    → left_from sets o < left_from sets next
step_falls s sets whole k x o next e f a n h =
    let i : IsPlace s sets 0 (Some k) = subst (IsPlace s sets 0) f h in
    subst (λ z. left_from sets o
    < left_from sets z) (sym f)
    (fewer_left s sets k o i.1
    (place_goes_on s sets k x o i.1 (going_on s sets whole k x o e a n i)))

-- ---- a type that isn't declared

pub type_placed : (ts : List Spelling) (s : Spelling) (o : Option ℕ) → o ≡ place_by is_itself 0 ts s
    → true ≡ is_some o → true ≡ is_type ts s
type_placed ts s o e f =
    found o f ∙ ap (λ z. is_placed z || bytes_eq any_spelling s) e ∙ sym (type_found 0 ts s)
  where
    found : (o : Option ℕ) → true ≡ is_some o → true ≡ (is_placed o || bytes_eq any_spelling s)
    found (Some n) g = λ i. true
    found None g = absurd cc

pub type_apart : (ts : List Spelling) (s : Spelling) (o : Option ℕ) → o ≡ place_by is_itself 0 ts s
    → false ≡ is_some o → bytes_eq any_spelling s ≡ is_type ts s
type_apart ts s o e f =
    missing o f ∙ ap (λ z. is_placed z || bytes_eq any_spelling s) e ∙ sym (type_found 0 ts s)
  where
    missing : (o : Option ℕ) → false ≡ is_some o
        → bytes_eq any_spelling s ≡ (is_placed o || bytes_eq any_spelling s)
    missing (Some n) g = absurd cc
    missing None g = refl
