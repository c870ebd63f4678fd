-- One declaration more: the keys and the sets.
use Rattle.std.proofs.Common.{◌≡◌, ℕ, zero, suc, Bool, true, false, not, ◌&&◌, ◌||◌, cond, List, [], ◌∷◌, ◌++◌, get_or, map, Some, None, refl, sym, ap, ◌∙◌, subst}
use Rattle.std.specs.Prelude.{nat_eq, filter}
use Rattle.std.specs.Bool.{beq}
use Rattle.std.specs.Str.{bytes_eq}
use Rattle.std.specs.List.{slice_get, slice_set, AllByRecursion}
use Rattle.std.specs.Cmp.Lexicographic.{bytes_decides}
use Rattle.std.proofs.lemmas.Bool.{eqb-true, eq-eqb}
use Rattle.std.proofs.lemmas.List.{append-nil, map-append}
use Rattle.std.proofs.lemmas.Option.{get_or_from_slice_get}
use Rattle.std.proofs.lemmas.List.Elements.{filter-append}
use Rattle.fort_member.specs.declared.entries.Entry.{Entry}
use Rattle.fort_types_sets.specs.declared.member.Member.{Member}
use Rattle.fort_types_sets.specs.declared.member.MemberSet.{MemberSet}
use Rattle.fort_member.specs.Sets.{Key, key_of, same_key, belongs, member_of, keys_of, set_of, sets_of, one_set, width_of, set_key, PlaceIs}

-- ---- keys

both_true : (a b : Bool) → (a && b) ≡ true → (a ≡ true) × (b ≡ true)
both_true true b e = (refl, e)
both_true false b e = absurd cc

beq_told : (a b : Bool) → beq a b ≡ true → a ≡ b
beq_told true true e = refl
beq_told true false e = absurd cc
beq_told false true e = absurd cc
beq_told false false e = refl

beq_same : (a : Bool) → beq a a ≡ true
beq_same true = refl
beq_same false = refl

key_by : (k l : Key) → k.name ≡ l.name → k.dotted ≡ l.dotted → k.width ≡ l.width → k ≡ l
key_by k l p q r =
    ap (λ z. let y : Key = record { name = z; dotted = k.dotted; width = k.width } in y) p
    ∙ ap (λ z. let y : Key = record { name = l.name; dotted = z; width = k.width } in y) q
    ∙ ap (λ z. let y : Key = record { name = l.name; dotted = l.dotted; width = z } in y) r

pub key_told : (k l : Key) → same_key k l ≡ true → k ≡ l
key_told k l e =
    let a = both_true (bytes_eq k.name l.name) (beq k.dotted l.dotted && nat_eq k.width l.width) e
    in
    let b = both_true (beq k.dotted l.dotted) (nat_eq k.width l.width) a.1 in
    key_by k l ((bytes_decides k.name l.name).0 a.0) (beq_told k.dotted l.dotted b.0)
    (eqb-true k.width l.width b.1)

pub key_same : (k : Key) → same_key k k ≡ true
key_same k =
    ap (λ z. z
    && (beq k.dotted k.dotted && nat_eq k.width k.width)) ((bytes_decides k.name k.name).1 refl)
    ∙ ap (λ z. z && nat_eq k.width k.width) (beq_same k.dotted) ∙ eq-eqb k.width k.width refl

-- a key that isn't the same as another, the other way round
key_turned : (k l : Key) → same_key k l ≡ false → same_key l k ≡ false
key_turned k l e = at (same_key l k) refl
  where
    at : (b : Bool) → same_key l k ≡ b → same_key l k ≡ false
    at true f =
        let g : same_key k l ≡ true = ap (λ z. same_key z l) (sym (key_told l k f)) ∙ key_same l
        in absurd cc
    at false f = f

-- Some declaration has a key.
abbrev pub found : List Entry → Key → Bool
found [] k = false
found (e ∷ es) k = same_key k (key_of e) || found es k

keys_at : (x : Entry) (es : List Entry) (e : Entry) (b c : Bool)
    → same_key (key_of e) (key_of x) ≡ b
    → keys_of (es ++ e ∷ []) ≡ cond c (keys_of es) (keys_of es ++ key_of e ∷ [])
    → key_of x ∷ filter (λ k. not (same_key k (key_of x))) (keys_of (es ++ e ∷ []))
    ≡ cond (b || c) (keys_of (x ∷ es)) (keys_of (x ∷ es) ++ key_of e ∷ [])
keys_at x es e true true p q = ap (λ z. key_of x ∷ filter (λ k. not (same_key k (key_of x))) z) q
keys_at x es e false true p q = ap (λ z. key_of x ∷ filter (λ k. not (same_key k (key_of x))) z) q
keys_at x es e true false p q = ap (λ z. key_of x ∷ filter (λ k. not (same_key k (key_of x))) z) q
    ∙ ap (λ z. key_of x ∷ z)
    (filter-append (λ k. not (same_key k (key_of x))) (keys_of es) (key_of e ∷ [])
    ∙ ap (λ (b : Bool). filter (λ k. not (same_key k (key_of x))) (keys_of es)
    ++ cond (not b) (key_of e ∷ []) []) p
    ∙ append-nil (filter (λ k. not (same_key k (key_of x))) (keys_of es)))
keys_at x es e false false p q = ap (λ z. key_of x ∷ filter (λ k. not (same_key k (key_of x))) z) q
    ∙ ap (λ z. key_of x ∷ z)
    (filter-append (λ k. not (same_key k (key_of x))) (keys_of es) (key_of e ∷ [])
    ∙ ap (λ (b : Bool). filter (λ k. not (same_key k (key_of x))) (keys_of es)
    ++ cond (not b) (key_of e ∷ []) []) p)

pub keys_more : (es : List Entry) (e : Entry)
    → keys_of (es ++ e ∷ []) ≡ cond (found es (key_of e)) (keys_of es) (keys_of es ++ key_of e ∷ [])
keys_more [] e = refl
keys_more (x ∷ es) e =
    keys_at x es e (same_key (key_of e) (key_of x)) (found es (key_of e)) refl (keys_more es e)

-- ---- sets

member_at : (k : Key) (es : List Entry) (e : Entry) (b : Bool) → belongs k e ≡ b
    → map member_of (filter (belongs k) (es ++ e ∷ []))
    ≡ map member_of (filter (belongs k) es) ++ cond b (e.member ∷ []) []
member_at k es e b p =
    ap (map member_of) (filter-append (belongs k) es (e ∷ []))
    ∙ map-append member_of (filter (belongs k) es) (filter (belongs k) (e ∷ []))
    ∙ ap (λ z. map member_of (filter (belongs k) es) ++ z) (one b p)
  where
    one : (b : Bool) → belongs k e ≡ b
        → map member_of (filter (belongs k) (e ∷ [])) ≡ cond b (e.member ∷ []) []
    one true q = ap (λ (z : Bool). map member_of (cond z (e ∷ []) [])) q
    one false q = ap (λ (z : Bool). map member_of (cond z (e ∷ []) [])) q

-- a set that the declaration doesn't belong to
pub set_kept : (k : Key) (es : List Entry) (e : Entry) → belongs k e ≡ false
    → set_of (es ++ e ∷ []) k ≡ set_of es k
set_kept k es e p =
    ap (λ ms. let s : MemberSet = record { name = k.name; dotted = k.dotted; members = ms }
    in s) (member_at k es e false p ∙ append-nil (map member_of (filter (belongs k) es)))

-- the set that it belongs to
pub set_more : (k : Key) (es : List Entry) (e : Entry) → belongs k e ≡ true
    → set_of (es ++ e ∷ []) k
    ≡ record {
      name = k.name;
      dotted = k.dotted;
      members = map member_of (filter (belongs k) es) ++ e.member ∷ [];
    }
set_more k es e p =
    ap (λ ms. let s : MemberSet = record { name = k.name; dotted = k.dotted; members = ms }
    in s) (member_at k es e true p)

-- ---- what the keys of declarations are

-- Each key of a list stands once.
abbrev pub Once : List Key → Type 0
Once [] = Unit {0}
Once (k ∷ ks) = AllByRecursion (λ l. same_key l k ≡ false) ks × Once ks

all_at : (P : Key → Type 0) (ks : List Key) (i : ℕ) (k : Key) → AllByRecursion P ks
    → slice_get ks i ≡ Some k → P k
all_at P [] i k h e = absurd cc
all_at P (l ∷ ks) zero k h e = let s : l ≡ k = cc in subst P s h.0
all_at P (l ∷ ks) (suc i) k h e = all_at P ks i k h.1 e

all_from : (P : Key → Type 0) (ks : List Key) → ((i : ℕ) (k : Key) → slice_get ks i ≡ Some k → P k)
    → AllByRecursion P ks
all_from P [] h = tt
all_from P (k ∷ ks) h = (h 0 k refl, all_from P ks (λ i l e. h (suc i) l e))

all_weaker : (P Q : Key → Type 0) (ks : List Key) → ((k : Key) → P k → Q k) → AllByRecursion P ks
    → AllByRecursion Q ks
all_weaker P Q [] f h = tt
all_weaker P Q (k ∷ ks) f h = (f k h.0, all_weaker P Q ks f h.1)

filter_step : (P : Key → Type 0) (p : Key → Bool) (k : Key) (ks : List Key) (b : Bool) → P k
    → AllByRecursion P (filter p ks) → AllByRecursion P (cond b (k ∷ filter p ks) (filter p ks))
filter_step P p k ks true x h = (x, h)
filter_step P p k ks false x h = h

all_filter : (P : Key → Type 0) (p : Key → Bool) (ks : List Key) → AllByRecursion P ks
    → AllByRecursion P (filter p ks)
all_filter P p [] h = tt
all_filter P p (k ∷ ks) h = filter_step P p k ks (p k) h.0 (all_filter P p ks h.1)

once_step : (p : Key → Bool) (k : Key) (ks : List Key) (b : Bool)
    → AllByRecursion (λ l. same_key l k ≡ false) ks → Once (filter p ks)
    → Once (cond b (k ∷ filter p ks) (filter p ks))
once_step p k ks true a o = (all_filter (λ l. same_key l k ≡ false) p ks a, o)
once_step p k ks false a o = o

once_filter : (p : Key → Bool) (ks : List Key) → Once ks → Once (filter p ks)
once_filter p [] o = tt
once_filter p (k ∷ ks) o = once_step p k ks (p k) o.0 (once_filter p ks o.1)

-- the keys that aren't a further one
abbrev pub others : Key → List Key → List Key
others k ks = filter (λ l. not (same_key l k)) ks

unlike_step : (k l : Key) (ks : List Key) (b : Bool) → same_key l k ≡ b
    → AllByRecursion (λ m. same_key m k ≡ false) (others k ks)
    → AllByRecursion (λ m. same_key m k ≡ false) (cond (not b) (l ∷ others k ks) (others k ks))
unlike_step k l ks true p h = h
unlike_step k l ks false p h = (p, h)

unlike_others : (k : Key) (ks : List Key) → AllByRecursion (λ m. same_key m k ≡ false) (others k ks)
unlike_others k [] = tt
unlike_others k (l ∷ ks) = unlike_step k l ks (same_key l k) refl (unlike_others k ks)

keys_once : (es : List Entry) → Once (keys_of es)
keys_once [] = tt
keys_once (e ∷ es) = (
  unlike_others (key_of e) (keys_of es),
  once_filter (λ k. not (same_key k (key_of e))) (keys_of es) (keys_once es),
)

or_right : (a b : Bool) → b ≡ true → (a || b) ≡ true
or_right true b e = refl
or_right false b e = e

-- each key is that of a declaration
keys_found : (es : List Entry) → AllByRecursion (λ k. found es k ≡ true) (keys_of es)
keys_found [] = tt
keys_found (e ∷ es) = (
  ap (λ b. b || found es (key_of e)) (key_same (key_of e)),
  all_filter (λ k. found (e ∷ es) k ≡ true) (λ k. not (same_key k (key_of e))) (keys_of es)
      (all_weaker (λ k. found es k ≡ true) (λ k. found (e ∷ es) k
      ≡ true) (keys_of es) (λ k h. or_right (same_key k (key_of e)) (found es k) h)
      (keys_found es)),
)

-- a key that is no declaration's
back_step : (x k l : Key) (ks : List Key) (b : Bool) → same_key l x ≡ b → same_key x k ≡ false
    → AllByRecursion (λ l. same_key l k ≡ false) (cond (not b) (l ∷ others x ks) (others x ks))
    → (AllByRecursion (λ l. same_key l k ≡ false) (others x ks)
    → AllByRecursion (λ l. same_key l k ≡ false) ks)
    → AllByRecursion (λ l. same_key l k ≡ false) (l ∷ ks)
back_step x k l ks true p n g rest = (ap (λ z. same_key z k) (key_told l x p) ∙ n, rest g)
back_step x k l ks false p n g rest = (g.0, rest g.1)

unlike_back : (x k : Key) (ks : List Key) → same_key x k ≡ false
    → AllByRecursion (λ l. same_key l k ≡ false) (others x ks)
    → AllByRecursion (λ l. same_key l k ≡ false) ks
unlike_back x k [] n h = tt
unlike_back x k (l ∷ ks) n h = back_step x k l ks (same_key l x) refl n h (unlike_back x k ks n)

new_key : (es : List Entry) (k : Key) → AllByRecursion (λ l. same_key l k ≡ false) (keys_of es)
    → found es k ≡ false
new_key [] k h = refl
new_key (e ∷ es) k h =
    ap (λ b. b || found es k) (key_turned (key_of e) k h.0)
    ∙ new_key es k (unlike_back (key_of e) k (keys_of es) h.0 h.1)

-- ---- the declarations of a key

or_false : (a b : Bool) → (a || b) ≡ false → (a ≡ false) × (b ≡ false)
or_false true b e = absurd cc
or_false false b e = (refl, e)

none_of : (es : List Entry) (k : Key) → found es k ≡ false → filter (belongs k) es ≡ []
none_of [] k n = refl
none_of (e ∷ es) k n = let s = or_false (same_key k (key_of e)) (found es k) n in
    ap (λ b. cond b (e ∷ filter (belongs k) es) (filter (belongs k) es)) s.0 ∙ none_of es k s.1

width_step : (k : Key) (e : Entry) (es : List Entry) (b : Bool) → same_key k (key_of e) ≡ b
    → (found es k ≡ true → width_of (map member_of (filter (belongs k) es)) ≡ k.width)
    → (b || found es k) ≡ true
    → width_of (map member_of (cond b (e ∷ filter (belongs k) es) (filter (belongs k) es)))
    ≡ k.width
width_step k e es true p h f = sym (ap (λ z. z.width) (key_told k (key_of e) p))
width_step k e es false p h f = h f

width_told : (es : List Entry) (k : Key) → found es k ≡ true
    → width_of (map member_of (filter (belongs k) es)) ≡ k.width
width_told [] k f = absurd cc
width_told (e ∷ es) k f = width_step k e es (same_key k (key_of e)) refl (width_told es k) f

-- the key of a set is that of its declarations
set_told : (es : List Entry) (k : Key) → found es k ≡ true → set_key (set_of es k) ≡ k
set_told es k f = key_by (set_key (set_of es k)) k refl refl (width_told es k f)

-- ---- a declaration goes into its set

kept_all : (es : List Entry) (e : Entry) (ks : List Key)
    → AllByRecursion (λ l. same_key l (key_of e) ≡ false) ks
    → map (set_of (es ++ e ∷ [])) ks ≡ map (set_of es) ks
kept_all es e [] h = refl
kept_all es e (k ∷ ks) h =
    ap (λ s. s ∷ map (set_of (es ++ e ∷ [])) ks) (set_kept k es e h.0)
    ∙ ap (λ ss. set_of es k ∷ ss) (kept_all es e ks h.1)

set_at : (es : List Entry) (e : Entry) (ks : List Key) (i : ℕ) → Once ks
    → slice_get ks i ≡ Some (key_of e)
    → slice_set (map (set_of es) ks) i (set_of (es ++ e ∷ []) (key_of e))
    ≡ map (set_of (es ++ e ∷ [])) ks
set_at es e [] i o g = absurd cc
set_at es e (k ∷ ks) zero o g = let s : k ≡ key_of e = cc in
    ap (λ ss. set_of (es ++ e ∷ []) (key_of e) ∷ ss)
    (sym (kept_all es e ks (subst (λ z. AllByRecursion (λ l. same_key l z ≡ false) ks) s o.0)))
    ∙ ap (λ z. set_of (es ++ e ∷ []) z ∷ map (set_of (es ++ e ∷ [])) ks) (sym s)
set_at es e (k ∷ ks) (suc i) o g =
    let n = key_turned (key_of e) k (all_at (λ l. same_key l k ≡ false) ks i (key_of e) o.0 g) in
    ap (λ ss. set_of es k ∷ ss) (set_at es e ks i o.1 g)
    ∙ ap (λ s. s ∷ map (set_of (es ++ e ∷ [])) ks) (sym (set_kept k es e n))

pub get_mapped : {X Y : Type 0} (f : X → Y) (xs : List X) (i : ℕ) (y : Y)
    → slice_get (map f xs) i ≡ Some y → (x : X) × (slice_get xs i ≡ Some x) × (f x ≡ y)
get_mapped f [] i y e = absurd cc
get_mapped f (x ∷ xs) zero y e = let s : f x ≡ y = cc in (x, refl, s)
get_mapped f (x ∷ xs) (suc i) y e = get_mapped f xs i y e

pub get_of_mapped : {X Y : Type 0} (f : X → Y) (xs : List X) (i : ℕ) (x : X)
    → slice_get xs i ≡ Some x → slice_get (map f xs) i ≡ Some (f x)
get_of_mapped f [] i x e = absurd cc
get_of_mapped f (y ∷ xs) zero x e = let s : y ≡ x = cc in ap (λ z. Some (f z)) s
get_of_mapped f (y ∷ xs) (suc i) x e = get_of_mapped f xs i x e

-- into the set at a place
pub add_known : (es : List Entry) (e : Entry) (i : ℕ) (s : MemberSet)
    → slice_get (sets_of es) i ≡ Some s → same_key (set_key s) (key_of e) ≡ true
    → slice_set (sets_of es) i
    (record { name = s.name; dotted = s.dotted; members = s.members ++ e.member ∷ [] })
    ≡ sets_of (es ++ e ∷ [])
add_known es e i s g same =
    let k = get_mapped (set_of es) (keys_of es) i s g in
    let known : found es k.0 ≡ true =
    all_at (λ k. found es k ≡ true) (keys_of es) i k.0 (keys_found es) k.1 in
    let told : set_key s ≡ k.0 = ap set_key (sym k.2) ∙ set_told es k.0 known in
    let is : k.0 ≡ key_of e = sym told ∙ key_told (set_key s) (key_of e) same in
    let there : found es (key_of e) ≡ true = ap (found es) (sym is) ∙ known in
    let set : s ≡ set_of es (key_of e) = sym k.2 ∙ ap (set_of es) is in
    let more : record { name = s.name; dotted = s.dotted; members = s.members ++ e.member ∷ [] }
    ≡ set_of (es ++ e ∷ []) (key_of e) =
    ap (λ (z : MemberSet). let y : MemberSet =
    record { name = z.name; dotted = z.dotted; members = z.members ++ e.member ∷ [] }
    in y) set ∙ sym (set_more (key_of e) es e (key_same (key_of e))) in
    let keys : keys_of (es ++ e ∷ []) ≡ keys_of es =
    keys_more es e ∙ ap (λ b. cond b (keys_of es) (keys_of es ++ key_of e ∷ [])) there in
    ap (slice_set (sets_of es) i) more
    ∙ set_at es e (keys_of es) i (keys_once es) (k.1 ∙ ap Some is)
    ∙ ap (map (set_of (es ++ e ∷ []))) (sym keys)

-- where there is no such set yet
pub add_new : (es : List Entry) (e : Entry) → PlaceIs (sets_of es) e None
    → sets_of es ++ one_set e ∷ [] ≡ sets_of (es ++ e ∷ [])
add_new es e none =
    let unlike : AllByRecursion (λ l. same_key l (key_of e) ≡ false) (keys_of es) =
    all_from (λ l. same_key l (key_of e)
    ≡ false) (keys_of es) (λ i k g. apart i k g (same_key k (key_of e)) refl) in
    let new : found es (key_of e) ≡ false = new_key es (key_of e) unlike in
    let keys : keys_of (es ++ e ∷ []) ≡ keys_of es ++ key_of e ∷ [] =
    keys_more es e ∙ ap (λ b. cond b (keys_of es) (keys_of es ++ key_of e ∷ [])) new in
    let one : set_of (es ++ e ∷ []) (key_of e) ≡ one_set e =
    set_more (key_of e) es e (key_same (key_of e))
    ∙ ap (λ xs. let y : MemberSet =
    record { name = e.name; dotted = e.dotted; members = map member_of xs ++ e.member ∷ [] }
    in y) (none_of es (key_of e) new) in
    ap (λ s. sets_of es ++ s ∷ []) (sym one)
    ∙ ap (λ ss. ss ++ set_of (es ++ e ∷ []) (key_of e) ∷ [])
    (sym (kept_all es e (keys_of es) unlike))
    ∙ sym (map-append (set_of (es ++ e ∷ [])) (keys_of es) (key_of e ∷ []))
    ∙ ap (map (set_of (es ++ e ∷ []))) (sym keys)
  where
    apart : (i : ℕ) (k : Key) → slice_get (keys_of es) i ≡ Some k → (b : Bool)
        → same_key k (key_of e) ≡ b → same_key k (key_of e) ≡ false
    apart i k g true p = absurd (none i (set_of es k) (get_of_mapped (set_of es) (keys_of es) i k g)
        (ap (λ z. same_key z (key_of e))
        (set_told es k (all_at (λ k. found es k ≡ true) (keys_of es) i k (keys_found es) g))
        ∙ p))
    apart i k g false p = p

-- ---- the two ways of the code

pub put_known : (es : List Entry) (e : Entry) (slice items : List MemberSet) (i : ℕ) (s : MemberSet)
    (ms : List Member) → slice ≡ items → items ≡ sets_of es → PlaceIs slice e (Some i)
    → s ≡ get_or items i s → ms ≡ s.members ++ e.member ∷ []
    → slice_set items i (record { name = s.name; dotted = s.dotted; members = ms })
    ≡ sets_of (es ++ e ∷ [])
put_known es e slice items i s ms a h p r m =
    let it : s ≡ p.0 =
    r ∙ get_or_from_slice_get items i p.0 s (ap (λ l. slice_get l i) (sym a) ∙ p.1) in
    let g : slice_get (sets_of es) i ≡ Some s =
    ap (λ l. slice_get l i) (sym (a ∙ h)) ∙ p.1 ∙ ap Some (sym it) in
    let same : same_key (set_key s) (key_of e) ≡ true =
    ap (λ z. same_key (set_key z) (key_of e)) it ∙ p.2 in
    ap (λ z. let y : MemberSet = record { name = s.name; dotted = s.dotted; members = z }
    in slice_set items i y) m
    ∙ ap (λ l. let y : MemberSet =
    record { name = s.name; dotted = s.dotted; members = s.members ++ e.member ∷ [] }
    in slice_set l i y) h ∙ add_known es e i s g same

pub put_new : (es : List Entry) (e : Entry) (slice items new : List MemberSet) (s : MemberSet)
    → slice ≡ items → items ≡ sets_of es → PlaceIs slice e None → s ≡ one_set e
    → new ≡ items ++ s ∷ [] → new ≡ sets_of (es ++ e ∷ [])
put_new es e slice items new s a h p is n =
    n ∙ ap (λ z. items ++ z ∷ []) is ∙ ap (λ l. l ++ one_set e ∷ []) h
    ∙ add_new es e (subst (λ l. PlaceIs l e None) (a ∙ h) p)
