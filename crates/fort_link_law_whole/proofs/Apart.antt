-- The tokens of the whole stand apart, and what is so of the files' tokens is so of them.
use Rattle.std.proofs.Common.{◌≡◌, ◌≤◌, ◌<◌, ℕ, ◌+◌, Bool, true, false, ◌&&◌, ◌||◌, List, [], ◌∷◌, ◌++◌, Option, Some, None, map, refl, sym, ap, ap₂, subst, ◌∙◌, arith}
use Rattle.std.specs.Prelude.{nat_eq}
use Rattle.std.specs.Option.{option_or}
use Rattle.std.specs.List.{list_any, AllByRecursion}
use Rattle.std.proofs.lemmas.Bool.{ne_eqb}
use Rattle.fort_base.specs.declared.refusal.Place.{Place}
use Rattle.fort_lex_token.specs.declared.token.Token.{Token}
use Rattle.fort_lex_token.specs.declared.token.Tokens.{Tokens}
use Rattle.fort_tree.specs.Tokens.{Spellings}
use Rattle.fort_link_table.specs.declared.table.Table.{Table}
use Rattle.fort_link_table.specs.Table.{joined, after}
use Rattle.fort_link_table.specs.Laws.{StandApart, IsOnLines, same_place, token_place}
use Rattle.fort_link_units.specs.declared.unit.ComponentUnit.{ComponentUnit}
use Rattle.fort_link_units.specs.declared.unit.Unit.{Unit}
use Rattle.fort_link_units.specs.declared.unit.Unit.TheVariants as a_unit
use Rattle.fort_link_units.specs.Said.{HasUnit, heads_tokens, body_tokens, component_tokens}
use Rattle.fort_link.specs.declared.whole.Head.{Head}
use Rattle.fort_link.specs.Lines.{lines}
use Rattle.fort_link.specs.Units.{AreUnits}
use Rattle.fort_link.specs.Whole.{components, head_of, main_head}
use Rattle.fort_link_law_whole.proofs.Sub.{Sub, Seams, sub_behind, sub_same, once_sub, all_sub, all_both}
use Rattle.fort_link_law_whole.proofs.Whole.{bodies, head_tokens, head_sub}
use Rattle.fort_link_law_whole.proofs.Chain.{AllOf, ApartOf}

-- ---- places on low and on high lines

abbrev UpTo : ℕ → Token → Type 0
UpTo n t = t.place.line ≤ n

abbrev Behind : ℕ → Token → Type 0
Behind n t = n < t.place.line

lines_apart : (p q : Place) → (nat_eq p.line q.line ≡ false) → same_place p q ≡ false
lines_apart p q e = ap (λ b. b && nat_eq p.column q.column) e

low_not_high : (n : ℕ) (x : Token) (ts : List Token) → UpTo n x → AllByRecursion (Behind n) ts
    → list_any (same_place x.place) (map token_place ts) ≡ false
low_not_high n x [] l all = refl
low_not_high n x (t ∷ ts) l all =
    let h = all.0 in
    ap₂ (λ a b. a || b)
    (lines_apart x.place t.place (ne_eqb x.place.line t.place.line (λ q. absurd (omega arith))))
    (low_not_high n x ts l all.1)

high_not_low : (n : ℕ) (x : Token) (ts : List Token) → Behind n x → AllByRecursion (UpTo n) ts
    → list_any (same_place x.place) (map token_place ts) ≡ false
high_not_low n x [] l all = refl
high_not_low n x (t ∷ ts) l all =
    let h = all.0 in
    ap₂ (λ a b. a || b)
    (lines_apart x.place t.place (ne_eqb x.place.line t.place.line (λ q. absurd (omega arith))))
    (high_not_low n x ts l all.1)

any_append : (p : Place) (xs ys : List Token)
    → list_any (same_place p) (map token_place (xs ++ ys))
    ≡ (list_any (same_place p) (map token_place xs) || list_any (same_place p) (map token_place ys))
any_append p [] ys = refl
any_append p (x ∷ xs) ys =
    ap (λ b. same_place p x.place || b) (any_append p xs ys)
    ∙ or_assoc (same_place p x.place) (list_any (same_place p) (map token_place xs))
    (list_any (same_place p) (map token_place ys))
  where
    or_assoc : (a b c : Bool) → (a || (b || c)) ≡ ((a || b) || c)
    or_assoc true b c = refl
    or_assoc false b c = refl

or_none : (a b : Bool) → (a || b) ≡ false → (a ≡ false) × (b ≡ false)
or_none true b e = absurd cc
or_none false b e = (refl, e)

low_then_high : (n : ℕ) (xs ys : List Token) → StandApart xs → StandApart ys
    → AllByRecursion (UpTo n) xs → AllByRecursion (Behind n) ys → StandApart (xs ++ ys)
low_then_high n [] ys h k low high = k
low_then_high n (x ∷ xs) ys h k low high = (
  any_append x.place xs ys ∙ ap₂ (λ a b. a || b) h.0 (low_not_high n x ys low.0 high),
  low_then_high n xs ys h.1 k low.1 high,
)

-- tokens on low lines among those on high ones
put_in : (n : ℕ) (front xs back : List Token) → StandApart (front ++ back) → StandApart xs
    → AllByRecursion (UpTo n) xs → AllByRecursion (Behind n) front
    → AllByRecursion (Behind n) back → StandApart (front ++ (xs ++ back))
put_in n [] xs back h k low high high' = low_then_high n xs back k h low high'
put_in n (f ∷ front) xs back h k low high high' =
    let both = or_none (list_any (same_place f.place) (map token_place front))
    (list_any (same_place f.place) (map token_place back))
    (sym (any_append f.place front back) ∙ h.0) in (
      any_append f.place front (xs ++ back)
          ∙ ap₂ (λ a b. a || b) both.0
          (any_append f.place xs back
          ∙ ap₂ (λ a b. a || b) (high_not_low n f xs high.0 low) both.1),
      put_in n front xs back h.1 k low high.1 high',
    )

-- ---- lines of files

up_to : (a b : ℕ) (ts : List Token) → AllByRecursion (IsOnLines a b) ts
    → AllByRecursion (UpTo b) ts
up_to a b [] h = tt
up_to a b (t ∷ ts) h = (h.0.1, up_to a b ts h.1)

behind : (n b : ℕ) (ts : List Token) → AllByRecursion (IsOnLines (n + 1) b) ts
    → AllByRecursion (Behind n) ts
behind n b [] h = tt
behind n b (t ∷ ts) h = (let k = h.0.0 in omega arith, behind n b ts h.1)

further : (n m : ℕ) → n ≤ m → (ts : List Token) → AllByRecursion (Behind m) ts
    → AllByRecursion (Behind n) ts
further n m l [] h = tt
further n m l (t ∷ ts) h = (let k = h.0 in omega arith, further n m l ts h.1)

no_seam : (n : ℕ) → Seams (Behind n)
no_seam n s h = h

low_seam : (n : ℕ) → Seams (UpTo n)
low_seam n s h = h

-- a component's tokens behind its heads stand among all of its
body_sub : (u : ComponentUnit) → Sub (body_tokens u.parsed.component) (component_tokens u)
body_sub u =
    sub_behind (body_tokens u.parsed.component) (_ ∷ _ ∷ heads_tokens u.imports u.exports)
    (body_tokens u.parsed.component) (sub_same (body_tokens u.parsed.component))

-- ---- what is so of all

-- the tokens that a unit adds to them
own_all : (P : Token → Type 0) → Seams P → (tokens : Tokens) (u : Unit) (us : List Unit)
    → HasUnit tokens u → AllByRecursion P tokens.list
    → AllByRecursion P (bodies (components us)) → AllByRecursion P (bodies (components (u ∷ us)))
own_all P seam tokens (a_unit.Api a) us has all rest = rest
own_all P seam tokens (a_unit.Component u) us has all rest =
    all_both P (body_tokens u.parsed.component) (bodies (components us))
    (all_sub P seam (body_tokens u.parsed.component) (component_tokens u) (body_sub u)
    (subst (AllByRecursion P) (sym has.yields) all)) rest

pub all_bodies : (P : Token → Type 0) → Seams P → (first : Table) (files : List (List ℕ))
    (units : List Unit) (last : Table) → (h : AreUnits first files units last)
    → AllOf P first files units last h → AllByRecursion P (bodies (components units))
all_bodies P seam first [] units last h all =
    subst (λ us. AllByRecursion P (bodies (components us))) (sym h.0) tt
all_bodies P seam first (f ∷ fs) units last h all =
    subst (λ us. AllByRecursion P (bodies (components us))) (sym h.3)
    (own_all P seam (joined first h.0) h.1 h.2 h.4.is.tree all.0
    (all_bodies P seam (after first h.0 (lines f)) fs h.2 last h.5 all.1))

all_front : (P : Token → Type 0) (xs ys : List Token) → AllByRecursion P (xs ++ ys)
    → AllByRecursion P xs
all_front P [] ys h = tt
all_front P (x ∷ xs) ys h = (h.0, all_front P xs ys h.1)

-- the head is a unit's, or one's behind it
own_head : (P : Token → Type 0) → Seams P → (names : Spellings) (tokens : Tokens) (u : Unit)
    (us : List Unit) (head : Head) → HasUnit tokens u → AllByRecursion P tokens.list
    → (main_head names (components us) ≡ Some head → AllByRecursion P (head_tokens head))
    → main_head names (components (u ∷ us)) ≡ Some head → AllByRecursion P (head_tokens head)
own_head P seam names tokens (a_unit.Api a) us head has all rest e = rest e
own_head P seam names tokens (a_unit.Component u) us head has all rest e =
    at (head_of names u) refl e
  where
    at : (x : Option Head) → head_of names u ≡ x
        → option_or x (main_head names (components us)) ≡ Some head
        → AllByRecursion P (head_tokens head)
    at None h e = rest e
    at (Some x) h e =
        let is : ◌≡◌ {A = Option Head} (Some x) (Some head) = e in
        all_front P (head_tokens head) (body_tokens u.parsed.component)
        (all_sub P seam (head_tokens head ++ body_tokens u.parsed.component) (component_tokens u)
        (head_sub names u head (h ∙ is)) (subst (AllByRecursion P) (sym has.yields) all))

pub all_head : (P : Token → Type 0) → Seams P → (names : Spellings) (first : Table)
    (files : List (List ℕ)) (units : List Unit) (last : Table) (head : Head)
    → (h : AreUnits first files units last) → AllOf P first files units last h
    → main_head names (components units) ≡ Some head → AllByRecursion P (head_tokens head)
all_head P seam names first [] units last head h all e =
    let none = ap (λ us. main_head names (components us)) (sym h.0) ∙ e in absurd cc
all_head P seam names first (f ∷ fs) units last head h all e =
    own_head P seam names (joined first h.0) h.1 h.2 head h.4.is.tree all.0
    (all_head P seam names (after first h.0 (lines f)) fs h.2 last head h.5 all.1)
    (ap (λ us. main_head names (components us)) (sym h.3) ∙ e)

-- ---- they stand apart

pub behind_of : (n : ℕ) (first : Table) (files : List (List ℕ)) (units : List Unit)
    (last : Table) → n ≤ first.lines → (h : AreUnits first files units last)
    → ApartOf first files units last h → AllOf (Behind n) first files units last h
behind_of n first [] units last l h a = tt
behind_of n first (f ∷ fs) units last l h a = (
  further n first.lines l (joined first h.0).list
      (behind first.lines (first.lines + lines f) (joined first h.0).list a.1),
  behind_of n (after first h.0 (lines f)) fs h.2 last (omega arith) h.5 a.2,
)

own_apart : (n : ℕ) (tokens : Tokens) (u : Unit) (us : List Unit) → HasUnit tokens u
    → StandApart tokens.list → AllByRecursion (UpTo n) tokens.list
    → AllByRecursion (Behind n) (bodies (components us)) → StandApart (bodies (components us))
    → StandApart (bodies (components (u ∷ us)))
own_apart n tokens (a_unit.Api a) us has apart low high rest = rest
own_apart n tokens (a_unit.Component u) us has apart low high rest =
    let body = body_tokens u.parsed.component in
    low_then_high n body (bodies (components us))
    (once_sub body (component_tokens u) (body_sub u) (subst StandApart (sym has.yields) apart))
    rest
    (all_sub (UpTo n) (low_seam n) body (component_tokens u) (body_sub u)
    (subst (AllByRecursion (UpTo n)) (sym has.yields) low))
    high

-- the tokens of further files, behind so many lines
bodies_behind : (n : ℕ) (first : Table) (files : List (List ℕ)) (units : List Unit)
    (last : Table) → n ≤ first.lines → (h : AreUnits first files units last)
    → ApartOf first files units last h → AllByRecursion (Behind n) (bodies (components units))
bodies_behind n first files units last l h a =
    all_bodies (Behind n) (no_seam n) first files units last h
    (behind_of n first files units last l h a)

pub bodies_apart : (first : Table) (files : List (List ℕ)) (units : List Unit) (last : Table)
    → (h : AreUnits first files units last) → ApartOf first files units last h
    → StandApart (bodies (components units))
bodies_apart first [] units last h a =
    subst (λ us. StandApart (bodies (components us))) (sym h.0) tt
bodies_apart first (f ∷ fs) units last h a =
    let n = first.lines + lines f in let next = after first h.0 (lines f) in
    subst (λ us. StandApart (bodies (components us))) (sym h.3)
    (own_apart n (joined first h.0) h.1 h.2 h.4.is.tree a.0
    (up_to (first.lines + 1) n (joined first h.0).list a.1)
    (bodies_behind n next fs h.2 last (omega arith) h.5 a.2)
    (bodies_apart next fs h.2 last h.5 a.2))

assoc : (a b c : List Token) → (a ++ b) ++ c ≡ a ++ (b ++ c)
assoc [] b c = refl
assoc (t ∷ a) b c = ap (λ z. t ∷ z) (assoc a b c)

own_head_apart : (n : ℕ) (names : Spellings) (tokens : Tokens) (u : Unit) (us : List Unit)
    (head : Head) → HasUnit tokens u → StandApart tokens.list
    → AllByRecursion (UpTo n) tokens.list
    → AllByRecursion (Behind n) (bodies (components us))
    → StandApart (bodies (components us))
    → (main_head names (components us) ≡ Some head → AllByRecursion (Behind n) (head_tokens head)
    × StandApart (head_tokens head ++ bodies (components us)))
    → main_head names (components (u ∷ us)) ≡ Some head
    → StandApart (head_tokens head ++ bodies (components (u ∷ us)))
own_head_apart n names tokens (a_unit.Api a) us head has apart low high once rest e = (rest e).1
own_head_apart n names tokens (a_unit.Component u) us head has apart low high once rest e =
    at (head_of names u) refl e
  where
    at : (x : Option Head) → head_of names u ≡ x
        → option_or x (main_head names (components us)) ≡ Some head
        → StandApart (head_tokens head ++ (body_tokens u.parsed.component
        ++ bodies (components us)))
    at None h e =
        put_in n (head_tokens head) (body_tokens u.parsed.component) (bodies (components us))
        (rest e).1
        (once_sub (body_tokens u.parsed.component) (component_tokens u) (body_sub u)
        (subst StandApart (sym has.yields) apart))
        (all_sub (UpTo n) (low_seam n) (body_tokens u.parsed.component) (component_tokens u)
        (body_sub u) (subst (AllByRecursion (UpTo n)) (sym has.yields) low))
        (rest e).0 high
    at (Some x) h e =
        let is : ◌≡◌ {A = Option Head} (Some x) (Some head) = e in
        let both = head_tokens head ++ body_tokens u.parsed.component in
        let sub = head_sub names u head (h ∙ is) in
        subst StandApart
        (assoc (head_tokens head) (body_tokens u.parsed.component) (bodies (components us)))
        (low_then_high n both (bodies (components us))
        (once_sub both (component_tokens u) sub (subst StandApart (sym has.yields) apart))
        once
        (all_sub (UpTo n) (low_seam n) both (component_tokens u) sub
        (subst (AllByRecursion (UpTo n)) (sym has.yields) low))
        high)

pub head_apart : (names : Spellings) (first : Table) (files : List (List ℕ))
    (units : List Unit) (last : Table) (head : Head) → (h : AreUnits first files units last)
    → ApartOf first files units last h → main_head names (components units) ≡ Some head
    → StandApart (head_tokens head ++ bodies (components units))
head_apart names first [] units last head h a e =
    let none = ap (λ us. main_head names (components us)) (sym h.0) ∙ e in absurd cc
head_apart names first (f ∷ fs) units last head h a e =
    let n = first.lines + lines f in let next = after first h.0 (lines f) in
    subst (λ us. StandApart (head_tokens head ++ bodies (components us))) (sym h.3)
    (own_head_apart n names (joined first h.0) h.1 h.2 head h.4.is.tree a.0
    (up_to (first.lines + 1) n (joined first h.0).list a.1)
    (bodies_behind n next fs h.2 last (omega arith) h.5 a.2)
    (bodies_apart next fs h.2 last h.5 a.2)
    (λ k. (
      all_head (Behind n) (no_seam n) names next fs h.2 last head h.5
          (behind_of n next fs h.2 last (omega arith) h.5 a.2) k,
      head_apart names next fs h.2 last head h.5 a.2 k,
    ))
    (ap (λ us. main_head names (components us)) (sym h.3) ∙ e))
