-- The tokens of a component with a prelude stand apart.
use Rattle.std.proofs.Common.{◌≡◌, ◌≤◌, ◌<◌, ℕ, ◌+◌, Bool, true, false, ◌&&◌, ◌||◌, List, [], ◌∷◌, ◌++◌, map, refl, sym, ap, ap₂, subst, ◌∙◌, arith}
use Rattle.std.specs.Prelude.{nat_eq}
use Rattle.std.specs.List.{list_any, AllByRecursion}
use Rattle.std.proofs.lemmas.Bool.{ne_eqb}
use Rattle.std.proofs.lemmas.List.{map-append}
use Rattle.fort_base.specs.declared.ids.NameId.{NameId}
use Rattle.fort_base.specs.declared.refusal.Place.{Place}
use Rattle.fort_lex_token.specs.declared.token.Token.{Token}
use Rattle.fort_tree.specs.declared.declarations.Component.{Component}
use Rattle.fort_tree.specs.declared.declarations.Declared.{Declared}
use Rattle.fort_tree.specs.Component.{yield}
use Rattle.fort_spawn_prelude.specs.Table.{Entry, table}
use Rattle.fort_spawn_prelude.specs.Numbers.{Spelling}
use Rattle.fort_spawn_prelude.specs.Prelude.{IsPrelude, prelude_tokens, tokens_from, place_at, id_in}
use Rattle.fort_spawn.specs.Starts.{starts}
use Rattle.fort_spawn.specs.Rewritten.{IsRewritten, AsItIs, WithPrelude, renamed, names_with, with_prelude}
use Rattle.fort_spawn.specs.Laws.{PlacesOnce, StandApart, IsOnLine, RewrittenStandsApart, same_place, token_place}
use Rattle.fort_spawn.proofs.Parts.{before, after, said_by, yield_parts}
use Rattle.fort_spawn.proofs.Names.{nameless}
use Rattle.fort_spawn.proofs.Renamed.{same_renamed}

-- ---- lists of places

abbrev pub On : ℕ → Place → Type 0
On n p = p.line ≡ n

abbrev pub From1 : Place → Type 0
From1 p = 1 ≤ p.line

any_append : (p : Place) (xs ys : List Place)
    → list_any (same_place p) (xs ++ ys) ≡ (list_any (same_place p) xs || list_any (same_place p) ys)
any_append p [] ys = refl
any_append p (x ∷ xs) ys =
    ap (λ b. same_place p x || b) (any_append p xs ys)
    ∙ or_assoc (same_place p x) (list_any (same_place p) xs) (list_any (same_place p) ys)
  where
    or_assoc : (a b c : Bool) → (a || (b || c)) ≡ ((a || b) || c)
    or_assoc true b c = refl
    or_assoc false b c = refl

or_left : (a b : Bool) → (a || b) ≡ false → a ≡ false
or_left true b e = absurd cc
or_left false b e = refl

or_right : (a b : Bool) → (a || b) ≡ false → b ≡ false
or_right true b e = absurd cc
or_right false b e = e

lines_apart : (p q : Place) → (nat_eq p.line q.line ≡ false) → same_place p q ≡ false
lines_apart p q e = ap (λ b. b && nat_eq p.column q.column) e

-- numbers that differ
zero_below : (m n : ℕ) → 1 ≤ m → n ≡ 0 → nat_eq m n ≡ false
zero_below m n h e = ne_eqb m n (λ q. absurd (omega arith))

zero_above : (m n : ℕ) → m ≡ 0 → 1 ≤ n → nat_eq m n ≡ false
zero_above m n e h = ne_eqb m n (λ q. absurd (omega arith))

-- one from line 1 on isn't among those of line 0, nor the other way round
not_low : (p : Place) (ps : List Place) → 1 ≤ p.line → AllByRecursion (On 0) ps
    → list_any (same_place p) ps ≡ false
not_low p [] h all = refl
not_low p (q ∷ ps) h all =
    ap₂ (λ a b. a || b) (lines_apart p q (zero_below p.line q.line h all.0))
    (not_low p ps h all.1)

not_high : (p : Place) (ps : List Place) → p.line ≡ 0 → AllByRecursion From1 ps
    → list_any (same_place p) ps ≡ false
not_high p [] h all = refl
not_high p (q ∷ ps) h all =
    ap₂ (λ a b. a || b) (lines_apart p q (zero_above p.line q.line h all.0))
    (not_high p ps h all.1)

low_then_high : (ps back : List Place) → PlacesOnce ps → PlacesOnce back
    → AllByRecursion (On 0) ps → AllByRecursion From1 back → PlacesOnce (ps ++ back)
low_then_high [] back h k low high = k
low_then_high (p ∷ ps) back h k low high = (
  any_append p ps back ∙ ap₂ (λ a b. a || b) h.0 (not_high p back low.0 high),
  low_then_high ps back h.1 k low.1 high,
)

back_of : (front back : List Place) → PlacesOnce (front ++ back) → PlacesOnce back
back_of [] back h = h
back_of (x ∷ front) back h = back_of front back h.1

-- places on line 0 among others
put_in : (front ps back : List Place) → PlacesOnce (front ++ back) → PlacesOnce ps
    → AllByRecursion (On 0) ps → AllByRecursion From1 front → AllByRecursion From1 back
    → PlacesOnce (front ++ (ps ++ back))
put_in [] ps back h k low high high' = low_then_high ps back k h low high'
put_in (x ∷ front) ps back h k low high high' =
    let e = sym (any_append x front back) ∙ h.0 in (
      any_append x front (ps ++ back)
          ∙ ap₂ (λ a b. a || b) (or_left _ _ e)
          (any_append x ps back
          ∙ ap₂ (λ a b. a || b) (not_low x ps high.0 low) (or_right _ _ e)),
      put_in front ps back h.1 k low high.1 high',
    )

-- ---- the prelude's places

behind : (id : Spelling → NameId) (n m : ℕ) (es : List Entry) → n < m
    → list_any (same_place (place_at n)) (map token_place (tokens_from id m es)) ≡ false
behind id n m [] h = refl
behind id n m (e ∷ es) h =
    ap₂ (λ a b. a || b) (ne_eqb n m (λ q. absurd (omega arith)))
    (behind id n (m + 1) es (omega arith))

prelude_once : (id : Spelling → NameId) (n : ℕ) (es : List Entry)
    → PlacesOnce (map token_place (tokens_from id n es))
prelude_once id n [] = tt
prelude_once id n (e ∷ es) = (behind id n (n + 1) es (omega arith), prelude_once id (n + 1) es)

prelude_low : (id : Spelling → NameId) (n : ℕ) (es : List Entry)
    → AllByRecursion (On 0) (map token_place (tokens_from id n es))
prelude_low id n [] = tt
prelude_low id n (e ∷ es) = (refl, prelude_low id (n + 1) es)

-- ---- tokens

places_on : (ts : List Token) → AllByRecursion IsOnLine ts
    → AllByRecursion From1 (map token_place ts)
places_on [] all = tt
places_on (t ∷ ts) all = (all.0, places_on ts all.1)

front_on : (xs ys : List Token) → AllByRecursion IsOnLine (xs ++ ys) → AllByRecursion IsOnLine xs
front_on [] ys all = tt
front_on (x ∷ xs) ys all = (all.0, front_on xs ys all.1)

back_on : (xs ys : List Token) → AllByRecursion IsOnLine (xs ++ ys) → AllByRecursion IsOnLine ys
back_on [] ys all = all
back_on (x ∷ xs) ys all = back_on xs ys all.1

-- numbers of names have no place
same_places : (ts us : List Token) → map nameless ts ≡ map nameless us
    → map token_place ts ≡ map token_place us
same_places ts us e = sym (of ts) ∙ (ap (map token_place) e ∙ of us)
  where
    of : (ts : List Token) → map token_place (map nameless ts) ≡ map token_place ts
    of [] = refl
    of (t ∷ ts) = ap (λ z. t.place ∷ z) (of ts)

-- tokens on line 0 among others
put_tokens : (front ps back : List Token) → StandApart (front ++ back) → StandApart ps
    → AllByRecursion (On 0) (map token_place ps) → AllByRecursion IsOnLine (front ++ back)
    → StandApart (front ++ (ps ++ back))
put_tokens front ps back h k low high =
    let e = map-append token_place front (ps ++ back)
    ∙ ap (λ z. map token_place front ++ z) (map-append token_place ps back) in
    subst PlacesOnce (sym e)
    (put_in (map token_place front) (map token_place ps) (map token_place back)
    (subst PlacesOnce (map-append token_place front back) h) k low
    (places_on front (front_on front back high)) (places_on back (back_on front back high)))

pub with_apart : (c : Component) (prelude : List Declared)
    → IsPrelude (names_with c) (starts c) prelude → StandApart (yield c)
    → AllByRecursion IsOnLine (yield c) → StandApart (yield (with_prelude c prelude))
with_apart c prelude h apart on =
    let id = id_in (names_with c) in let es = table (starts c) in
    let back = said_by c.declarations ++ after c in
    let own : map token_place (said_by (renamed c) ++ after c) ≡ map token_place back =
    same_places (said_by (renamed c) ++ after c) back
    (map-append nameless (said_by (renamed c)) (after c)
    ∙ (ap (λ z. z ++ map nameless (after c)) (same_renamed c)
    ∙ sym (map-append nameless (said_by c.declarations) (after c)))) in
    let it : StandApart (before c ++ (tokens_from id 1 es ++ back)) =
    put_tokens (before c) (tokens_from id 1 es) back apart (prelude_once id 1 es)
    (prelude_low id 1 es) on in
    subst PlacesOnce (sym
    (ap (map token_place) (yield_parts c prelude)
    ∙ (ap (λ z. map token_place (before c ++ (z ++ (said_by (renamed c) ++ after c)))) h.tokens
    ∙ places (tokens_from id 1 es) (said_by (renamed c) ++ after c) back own))) it
  where
    places : (ps us back : List Token) → map token_place us ≡ map token_place back
        → map token_place (before c ++ (ps ++ us)) ≡ map token_place (before c ++ (ps ++ back))
    places ps us back e =
        map-append token_place (before c) (ps ++ us)
        ∙ (ap (λ z. map token_place (before c) ++ z)
        (map-append token_place ps us
        ∙ (ap (λ z. map token_place ps ++ z) e ∙ sym (map-append token_place ps back)))
        ∙ sym (map-append token_place (before c) (ps ++ back)))

pub apart : RewrittenStandsApart
apart c d (AsItIs plain is) h on = subst (λ (x : Component). StandApart (yield x)) (sym is) h
apart c d (WithPrelude has prelude p is) h on =
    subst (λ (x : Component). StandApart (yield x)) (sym is) (with_apart c prelude p h on)
