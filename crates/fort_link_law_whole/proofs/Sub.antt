-- Tokens that stand among others in their order, a `;` where among these an `end` stands.
use Rattle.std.proofs.Common.{◌≡◌, ◌⊎◌, Bool, true, false, ◌||◌, List, [], ◌∷◌, ◌++◌, map, inl, inr, refl, sym, ap, ap₂, subst, ◌∙◌}
use Rattle.std.specs.List.{list_any, AllByRecursion}
use Rattle.fort_base.specs.declared.refusal.Place.{Place}
use Rattle.fort_lex_token.specs.declared.token.Token.{Token}
use Rattle.fort_lex_token.specs.declared.marks.Mark.TheVariants as mark
use Rattle.fort_lex_token.specs.declared.reserved.Reserved.TheVariants as reserved
use Rattle.fort_tree.specs.declared.spot.Spot.{Spot}
use Rattle.fort_tree.specs.Tokens.{word, marked}
use Rattle.fort_link_table.specs.Laws.{PlacesOnce, same_place, token_place}

-- a token is another one, or the `;` in place of this one, an `end`
abbrev pub Like : Token → Token → Type 0
Like x y = (x ≡ y)
    ⊎ ((s : Spot) × (x ≡ marked mark.Semicolon s) × (y ≡ word reserved.End s))

-- the first tokens stand among the others
abbrev pub Sub : List Token → List Token → Type 0
Sub [] ys = Unit {0}
Sub (x ∷ xs) [] = ⊥
Sub (x ∷ xs) (y ∷ ys) = (Like x y × Sub xs ys) ⊎ Sub (x ∷ xs) ys

pub sub_one_more : (xs : List Token) (y : Token) (ys : List Token) → Sub xs ys → Sub xs (y ∷ ys)
sub_one_more [] y ys h = tt
sub_one_more (x ∷ xs) y ys h = inr h

pub sub_behind : (xs zs ys : List Token) → Sub xs ys → Sub xs (zs ++ ys)
sub_behind xs [] ys h = h
sub_behind xs (z ∷ zs) ys h = sub_one_more xs z (zs ++ ys) (sub_behind xs zs ys h)

pub sub_both : (xs ys vs ws : List Token) → Sub xs ys → Sub vs ws → Sub (xs ++ vs) (ys ++ ws)
sub_both [] ys vs ws h k = sub_behind vs ys ws k
sub_both (x ∷ xs) [] vs ws h k = absurd h
sub_both (x ∷ xs) (y ∷ ys) vs ws (inl h) k = inl (h.0, sub_both xs ys vs ws h.1 k)
sub_both (x ∷ xs) (y ∷ ys) vs ws (inr h) k = inr (sub_both (x ∷ xs) ys vs ws h k)

pub sub_same : (xs : List Token) → Sub xs xs
sub_same [] = tt
sub_same (x ∷ xs) = inl (inl refl, sub_same xs)

pub sub_before : (xs ys zs : List Token) → Sub xs ys → Sub xs (ys ++ zs)
sub_before [] ys zs h = tt
sub_before (x ∷ xs) [] zs h = absurd h
sub_before (x ∷ xs) (y ∷ ys) zs (inl h) = inl (h.0, sub_before xs ys zs h.1)
sub_before (x ∷ xs) (y ∷ ys) zs (inr h) = inr (sub_before (x ∷ xs) ys zs h)

-- ---- what they keep

like_place : (x y : Token) → Like x y → x.place ≡ y.place
like_place x y (inl e) = ap token_place e
like_place x y (inr h) = ap token_place h.1 ∙ sym (ap token_place h.2)

or_none : (a b : Bool) → (a || b) ≡ false → (a ≡ false) × (b ≡ false)
or_none true b e = absurd cc
or_none false b e = (refl, e)

none_sub : (p : Place) (xs ys : List Token) → Sub xs ys
    → list_any (same_place p) (map token_place ys) ≡ false
    → list_any (same_place p) (map token_place xs) ≡ false
none_sub p [] ys h none = refl
none_sub p (x ∷ xs) [] h none = absurd h
none_sub p (x ∷ xs) (y ∷ ys) (inl h) none =
    let both = or_none (same_place p y.place) (list_any (same_place p) (map token_place ys)) none in
    ap₂ (λ a b. a || b) (ap (same_place p) (like_place x y h.0) ∙ both.0)
    (none_sub p xs ys h.1 both.1)
none_sub p (x ∷ xs) (y ∷ ys) (inr h) none =
    none_sub p (x ∷ xs) ys h
    (or_none (same_place p y.place) (list_any (same_place p) (map token_place ys)) none).1

pub once_sub : (xs ys : List Token) → Sub xs ys → PlacesOnce (map token_place ys)
    → PlacesOnce (map token_place xs)
once_sub [] ys h once = tt
once_sub (x ∷ xs) [] h once = absurd h
once_sub (x ∷ xs) (y ∷ ys) (inl h) once = (
  subst (λ p. list_any (same_place p) (map token_place xs) ≡ false) (sym (like_place x y h.0))
      (none_sub y.place xs ys h.1 once.0),
  once_sub xs ys h.1 once.1,
)
once_sub (x ∷ xs) (y ∷ ys) (inr h) once = once_sub (x ∷ xs) ys h once.1

-- what is so of an `end` is so of a `;` there
abbrev pub Seams : (Token → Type 0) → Type 0
Seams P = (s : Spot) → P (word reserved.End s) → P (marked mark.Semicolon s)

like_so : (P : Token → Type 0) → Seams P → (x y : Token) → Like x y → P y → P x
like_so P seam x y (inl e) h = subst P (sym e) h
like_so P seam x y (inr k) h = subst P (sym k.1) (seam k.0 (subst P k.2 h))

pub all_sub : (P : Token → Type 0) → Seams P → (xs ys : List Token) → Sub xs ys
    → AllByRecursion P ys → AllByRecursion P xs
all_sub P seam [] ys h all = tt
all_sub P seam (x ∷ xs) [] h all = absurd h
all_sub P seam (x ∷ xs) (y ∷ ys) (inl h) all =
    (like_so P seam x y h.0 all.0, all_sub P seam xs ys h.1 all.1)
all_sub P seam (x ∷ xs) (y ∷ ys) (inr h) all = all_sub P seam (x ∷ xs) ys h all.1

pub all_both : (P : Token → Type 0) (xs ys : List Token) → AllByRecursion P xs
    → AllByRecursion P ys → AllByRecursion P (xs ++ ys)
all_both P [] ys h k = k
all_both P (x ∷ xs) ys h k = (h.0, all_both P xs ys h.1 k)
