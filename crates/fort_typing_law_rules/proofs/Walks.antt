-- The first declaration that fits and goes before each that fits, as it is computed.
use Rattle.std.proofs.Common.{◌≡◌, ◌↔◌, ℕ, zero, suc, Bool, true, false, cond, not, ◌&&◌, ◌||◌, IsTrue, List, [], ◌∷◌, Option, Some, None, refl, ap, ◌∙◌, sym, subst}
use Rattle.std.specs.List.{slice_get}
use Rattle.fort_base.specs.declared.ty.Ty.{Ty}
use Rattle.fort_types_sets.specs.declared.member.Member.{Member}
use Rattle.fort_typing_known.specs.Known.{Facts}
use Rattle.fort_typing_call.specs.Fitting.{fits, goes_before, is_over, first_best, any_fits}

both_of : (c d : Bool) → cond c d false ≡ true → (c ≡ true) × (d ≡ true)
both_of true d h = (refl, h)
both_of false d h = absurd cc

and_of : (c d : Bool) → c && d ≡ true → (c ≡ true) × (d ≡ true)
and_of true d h = (refl, h)
and_of false d h = absurd cc

and_made : (c d : Bool) → c ≡ true → d ≡ true → c && d ≡ true
and_made true d h i = i
and_made false d h i = absurd cc

second : (a b : Bool) → a ≡ true → not a || b ≡ true → b ≡ true
second true b p t = t
second false b p t = absurd cc

implied : (a b : Bool) → (a ≡ true → b ≡ true) → not a || b ≡ true
implied true b f = f refl
implied false b f = refl

module _ (k : Facts) (w : Bool) (types : List Ty) (all : List Member) (F : Member → Type 0)
    (G : Member → Member → Type 0)
    (fit : (i : ℕ) (d : Member) → slice_get all i ≡ Some d → IsTrue (fits k w types d) ↔ F d)
    (go : (i j : ℕ) (d e : Member) → slice_get all i ≡ Some d → slice_get all j ≡ Some e
    → IsTrue (goes_before k w types d e) ↔ G d e) where
  abbrev In : Member → Type 0
  In d = (i : ℕ) × (slice_get all i ≡ Some d)

  abbrev Within : List Member → Type 0
  Within es = (j : ℕ) (e : Member) → slice_get es j ≡ Some e → In e

  abbrev pub Over : Member → List Member → Type 0
  Over d es = (j : ℕ) (e : Member) → slice_get es j ≡ Some e → F e → G d e

  abbrev pub Best : Member → Type 0
  Best d = F d × Over d all

  behind : (e : Member) (es : List Member) → Within (e ∷ es) → Within es
  behind e es h j d q = h (suc j) d q

  whole : Within all
  whole j e q = (j, q)

  one_over : (d e : Member) → In d → In e
      → IsTrue (not (fits k w types e) || goes_before k w types d e) ↔ (F e → G d e)
  one_over d e i j = (
    λ t f. (go i.0 j.0 d e i.1 j.1).0
        (second (fits k w types e) (goes_before k w types d e) ((fit j.0 e j.1).1 f) t),
    λ g. implied (fits k w types e) (goes_before k w types d e)
        (λ p. (go i.0 j.0 d e i.1 j.1).1 (g ((fit j.0 e j.1).0 p))),
  )

  places : (d e : Member) (es : List Member) → (F e → G d e) → Over d es → Over d (e ∷ es)
  places d e es f o zero x q g = let s : e ≡ x = cc in subst (G d) s (f (subst F (sym s) g))
  places d e es f o (suc j) x q g = o j x q g

  over_is : (d : Member) → In d → (es : List Member) → Within es → IsTrue (is_over k w types d es)
      ↔ Over d es
  over_is d i [] h = (λ t j e q f. absurd cc, λ o. refl)
  over_is d i (e ∷ es) h =
      let one = one_over d e i (h 0 e refl) in
      let more = over_is d i es (behind e es h) in (
        λ t. let p =
            both_of (not (fits k w types e) || goes_before k w types d e) (is_over k w types d es) t
            in places d e es (one.0 p.0) (more.0 p.1),
        λ o. ap (λ c. cond c (is_over k w types d es) false) (one.1 (o 0 e refl))
            ∙ more.1 (λ j x q. o (suc j) x q),
      )

  is_best : (d : Member) → In d → Best d → fits k w types d && is_over k w types d all ≡ true
  is_best d i b =
      and_made (fits k w types d) (is_over k w types d all) ((fit i.0 d i.1).1 b.0)
      ((over_is d i all whole).1 b.1)

  best_is : (d : Member) → In d → fits k w types d && is_over k w types d all ≡ true → Best d
  best_is d i t =
      let p = and_of (fits k w types d) (is_over k w types d all) t
      in ((fit i.0 d i.1).0 p.0, (over_is d i all whole).0 p.1)

  abbrev pub Found : List Member → Member → Type 0
  Found ds d = (i : ℕ) × (slice_get ds i ≡ Some d) × Best d

  told_at : (x : Member) (xs : List Member) (d : Member) (c : Bool) → In x
      → fits k w types x && is_over k w types x all ≡ c
      → cond c (Some x) (first_best k w types all xs) ≡ Some d
      → (first_best k w types all xs ≡ Some d → Found xs d) → Found (x ∷ xs) d
  told_at x xs d true i q e rest = (0, e, let s : x ≡ d = cc in subst Best s (best_is x i q))
  told_at x xs d false i q e rest = let r = rest e in (suc r.0, r.1, r.2)

  pub first_told : (ds : List Member) → Within ds → (d : Member)
      → first_best k w types all ds ≡ Some d → Found ds d
  first_told [] h d e = absurd cc
  first_told (x ∷ xs) h d e =
      told_at x xs d (fits k w types x
      && is_over k w types x all) (h 0 x refl) refl e (λ f. first_told xs (behind x xs h) d f)

  next : (x : Member) (xs : List Member) (c : Bool)
      → fits k w types x && is_over k w types x all ≡ c
      → ((b : Member) × (first_best k w types all xs ≡ Some b))
      → (b : Member) × (first_best k w types all (x ∷ xs) ≡ Some b)
  next x xs true q r = (x, ap (λ c. cond c (Some x) (first_best k w types all xs)) q)
  next x xs false q r = (r.0, ap (λ c. cond c (Some x) (first_best k w types all xs)) q ∙ r.1)

  first_found : (ds : List Member) → Within ds → (i : ℕ) (d : Member) → slice_get ds i ≡ Some d
      → Best d → (b : Member) × (first_best k w types all ds ≡ Some b)
  first_found [] h i d e b = absurd cc
  first_found (x ∷ xs) h zero d e b = (
    x,
    ap (λ c. cond c (Some x) (first_best k w types all xs)) (is_best x (h 0 x refl)
        (let s : d ≡ x = cc in subst Best s b)),
  )
  first_found (x ∷ xs) h (suc i) d e b =
      next x xs (fits k w types x
      && is_over k w types x all) refl (first_found xs (behind x xs h) i d e b)

  -- where some declaration is best, the first that is is found
  pub some_first : (i : ℕ) (d : Member) → slice_get all i ≡ Some d → Best d
      → (b : Member) × (first_best k w types all all ≡ Some b) × Found all b
  some_first i d e b =
      let f = first_found all whole i d e b in (f.0, f.1, first_told all whole f.0 f.1)

  none_by : (o : Option Member) → first_best k w types all all ≡ o
      → ((d : Member) → Found all d → ⊥) → o ≡ None
  none_by None q n = refl
  none_by (Some d) q n = absurd (n d (first_told all whole d q))

  pub no_first : ((d : Member) → Found all d → ⊥) → first_best k w types all all ≡ None
  no_first n = none_by (first_best k w types all all) refl n

  pub told_first : (d : Member) → first_best k w types all all ≡ Some d → Found all d
  told_first d e = first_told all whole d e

  pub first_none : first_best k w types all all ≡ None → (d : Member) → Found all d → ⊥
  first_none e d f =
      let g = some_first f.0 d f.1 f.2 in let n : Some g.0 ≡ None = sym g.1 ∙ e in absurd cc

  -- ---- whether some fits

  abbrev pub SomeFits : List Member → Type 0
  SomeFits ds = (i : ℕ) × (d : Member) × (slice_get ds i ≡ Some d) × F d

  any_at : (x : Member) (xs : List Member) (c : Bool) → In x → fits k w types x ≡ c
      → cond c true (any_fits k w types xs) ≡ true → (any_fits k w types xs ≡ true → SomeFits xs)
      → SomeFits (x ∷ xs)
  any_at x xs true i q e rest = (0, x, refl, (fit i.0 x i.1).0 q)
  any_at x xs false i q e rest = let r = rest e in (suc r.0, r.1, r.2, r.3)

  any_told : (ds : List Member) → Within ds → any_fits k w types ds ≡ true → SomeFits ds
  any_told [] h e = absurd cc
  any_told (x ∷ xs) h e =
      any_at x xs (fits k w types x) (h 0 x refl) refl e (λ f. any_told xs (behind x xs h) f)

  or_true : (c d : Bool) → d ≡ true → cond c true d ≡ true
  or_true true d h = refl
  or_true false d h = h

  any_found : (ds : List Member) → Within ds → (i : ℕ) (d : Member) → slice_get ds i ≡ Some d → F d
      → any_fits k w types ds ≡ true
  any_found [] h i d e f = absurd cc
  any_found (x ∷ xs) h zero d e f =
      ap (λ c. cond c true (any_fits k w types xs)) ((fit (h 0 x refl).0 x (h 0 x refl).1).1
      (let s : d ≡ x = cc in subst F s f))
  any_found (x ∷ xs) h (suc i) d e f =
      or_true (fits k w types x) (any_fits k w types xs) (any_found xs (behind x xs h) i d e f)

  pub some_fits : SomeFits all → any_fits k w types all ≡ true
  some_fits s = any_found all whole s.0 s.1 s.2 s.3

  pub fits_some : any_fits k w types all ≡ true → SomeFits all
  fits_some e = any_told all whole e

  none_any_by : (c : Bool) → any_fits k w types all ≡ c → (SomeFits all → ⊥) → c ≡ false
  none_any_by false q n = refl
  none_any_by true q n = absurd (n (fits_some q))

  pub none_fits : (SomeFits all → ⊥) → any_fits k w types all ≡ false
  none_fits n = none_any_by (any_fits k w types all) refl n

  pub fits_none : any_fits k w types all ≡ false → SomeFits all → ⊥
  fits_none e s = let n : true ≡ false = sym (some_fits s) ∙ e in absurd cc
