-- What the rows compute of two types turns round, and goes through a third one where the rows do.
use Rattle.std.proofs.Common.{◌≡◌, suc, Bool, true, false, not, ◌&&◌, List, [], ◌∷◌, map, IsTrue, refl, ap, sym, ◌∙◌}
use Rattle.fort_base.specs.declared.ty.Ty.{Ty, out-Ty, map-Ty, fold_out-Ty}
use Rattle.fort_base.specs.declared.ty.Ty.TheOpen.{Ty-F}
use Rattle.fort_types.specs.Relation.{Relation, each_below, below_at, relation}
use Rattle.fort_types.proofs.ByParts.{Each, Parts, by_parts}
use Rattle.fort_sound_typed.specs.Sound.{RowsThrough}
use Rattle.fort_sound_typed.proofs.Near.{and_true}

module _ (rows : List (List Bool)) where
  abbrev pub rel : Ty → Relation
  rel = relation rows

  -- the same of two layers
  abbrev pub told : Ty-F Ty → Bool → Ty-F Ty → Bool
  told x up y = below_at rows (map-Ty Ty Relation rel x) up y

  pub told_out : (a b : Ty) (up : Bool) → rel a up b ≡ told (out-Ty a) up (out-Ty b)
  told_out a b up =
      ap (λ (f : Relation). f up b)
      (fold_out-Ty Relation (λ layer up b. below_at rows layer up (out-Ty b)) a)

  twice : (b : Bool) → not (not b) ≡ b
  twice true = refl
  twice false = refl

  -- turned round
  abbrev Turns : Ty → Type 0
  Turns a = (b : Ty) (up : Bool) → rel a up b ≡ rel b (not up) a

  each_turns : (xs ys : List Ty) (up : Bool) → Each Turns xs
      → each_below (map rel xs) up ys ≡ each_below (map rel ys) (not up) xs
  each_turns [] [] up h = refl
  each_turns [] (y ∷ ys) up h = refl
  each_turns (x ∷ xs) [] up h = refl
  each_turns (x ∷ xs) (y ∷ ys) up h =
      ap (λ b. b && each_below (map rel xs) up ys) (h 0 x refl y up)
      ∙ ap (λ b. rel y (not up) x && b) (each_turns xs ys up (λ k t e. h (suc k) t e))

  turns_at : (x : Ty-F Ty) → Parts Turns x → (y : Ty-F Ty) (up : Bool)
      → told x up y ≡ told y (not up) x
  turns_at (Ty-F.Tuple xs) h (Ty-F.Tuple ys) true = each_turns xs ys true h
  turns_at (Ty-F.Arrow p q) h (Ty-F.Arrow r s) true =
      ap (λ b. b && rel q true s) (h.0 r (not true))
      ∙ ap (λ b. rel r (not (not true)) p && b) (h.1 s true)
  turns_at (Ty-F.Array e) h (Ty-F.Array f) true =
      ap (λ b. b && rel e (not true) f) (h f true)
      ∙ ap (λ b. rel f (not true) e && b) (h f (not true))
  turns_at (Ty-F.Tuple xs) h (Ty-F.Tuple ys) false = each_turns xs ys false h
  turns_at (Ty-F.Arrow p q) h (Ty-F.Arrow r s) false =
      ap (λ b. b && rel q false s) (h.0 r (not false))
      ∙ ap (λ b. rel r (not (not false)) p && b) (h.1 s false)
  turns_at (Ty-F.Array e) h (Ty-F.Array f) false =
      ap (λ b. b && rel e (not false) f) (h f false)
      ∙ ap (λ b. rel f (not false) e && b) (h f (not false))
  turns_at Ty-F.Nothing h Ty-F.Nothing true = refl
  turns_at Ty-F.Nothing h Ty-F.Nothing false = refl
  turns_at Ty-F.Nothing h Ty-F.Any true = refl
  turns_at Ty-F.Nothing h Ty-F.Any false = refl
  turns_at Ty-F.Nothing h (Ty-F.Named j) true = refl
  turns_at Ty-F.Nothing h (Ty-F.Named j) false = refl
  turns_at Ty-F.Nothing h (Ty-F.Tuple ys) true = refl
  turns_at Ty-F.Nothing h (Ty-F.Tuple ys) false = refl
  turns_at Ty-F.Nothing h (Ty-F.Arrow r s) true = refl
  turns_at Ty-F.Nothing h (Ty-F.Arrow r s) false = refl
  turns_at Ty-F.Nothing h (Ty-F.Array f) true = refl
  turns_at Ty-F.Nothing h (Ty-F.Array f) false = refl
  turns_at Ty-F.Any h Ty-F.Nothing true = refl
  turns_at Ty-F.Any h Ty-F.Nothing false = refl
  turns_at Ty-F.Any h Ty-F.Any true = refl
  turns_at Ty-F.Any h Ty-F.Any false = refl
  turns_at Ty-F.Any h (Ty-F.Named j) true = refl
  turns_at Ty-F.Any h (Ty-F.Named j) false = refl
  turns_at Ty-F.Any h (Ty-F.Tuple ys) true = refl
  turns_at Ty-F.Any h (Ty-F.Tuple ys) false = refl
  turns_at Ty-F.Any h (Ty-F.Arrow r s) true = refl
  turns_at Ty-F.Any h (Ty-F.Arrow r s) false = refl
  turns_at Ty-F.Any h (Ty-F.Array f) true = refl
  turns_at Ty-F.Any h (Ty-F.Array f) false = refl
  turns_at (Ty-F.Named i) h Ty-F.Nothing true = refl
  turns_at (Ty-F.Named i) h Ty-F.Nothing false = refl
  turns_at (Ty-F.Named i) h Ty-F.Any true = refl
  turns_at (Ty-F.Named i) h Ty-F.Any false = refl
  turns_at (Ty-F.Named i) h (Ty-F.Named j) true = refl
  turns_at (Ty-F.Named i) h (Ty-F.Named j) false = refl
  turns_at (Ty-F.Named i) h (Ty-F.Tuple ys) true = refl
  turns_at (Ty-F.Named i) h (Ty-F.Tuple ys) false = refl
  turns_at (Ty-F.Named i) h (Ty-F.Arrow r s) true = refl
  turns_at (Ty-F.Named i) h (Ty-F.Arrow r s) false = refl
  turns_at (Ty-F.Named i) h (Ty-F.Array f) true = refl
  turns_at (Ty-F.Named i) h (Ty-F.Array f) false = refl
  turns_at (Ty-F.Tuple xs) h Ty-F.Nothing true = refl
  turns_at (Ty-F.Tuple xs) h Ty-F.Nothing false = refl
  turns_at (Ty-F.Tuple xs) h Ty-F.Any true = refl
  turns_at (Ty-F.Tuple xs) h Ty-F.Any false = refl
  turns_at (Ty-F.Tuple xs) h (Ty-F.Named j) true = refl
  turns_at (Ty-F.Tuple xs) h (Ty-F.Named j) false = refl
  turns_at (Ty-F.Tuple xs) h (Ty-F.Arrow r s) true = refl
  turns_at (Ty-F.Tuple xs) h (Ty-F.Arrow r s) false = refl
  turns_at (Ty-F.Tuple xs) h (Ty-F.Array f) true = refl
  turns_at (Ty-F.Tuple xs) h (Ty-F.Array f) false = refl
  turns_at (Ty-F.Arrow p q) h Ty-F.Nothing true = refl
  turns_at (Ty-F.Arrow p q) h Ty-F.Nothing false = refl
  turns_at (Ty-F.Arrow p q) h Ty-F.Any true = refl
  turns_at (Ty-F.Arrow p q) h Ty-F.Any false = refl
  turns_at (Ty-F.Arrow p q) h (Ty-F.Named j) true = refl
  turns_at (Ty-F.Arrow p q) h (Ty-F.Named j) false = refl
  turns_at (Ty-F.Arrow p q) h (Ty-F.Tuple ys) true = refl
  turns_at (Ty-F.Arrow p q) h (Ty-F.Tuple ys) false = refl
  turns_at (Ty-F.Arrow p q) h (Ty-F.Array f) true = refl
  turns_at (Ty-F.Arrow p q) h (Ty-F.Array f) false = refl
  turns_at (Ty-F.Array e) h Ty-F.Nothing true = refl
  turns_at (Ty-F.Array e) h Ty-F.Nothing false = refl
  turns_at (Ty-F.Array e) h Ty-F.Any true = refl
  turns_at (Ty-F.Array e) h Ty-F.Any false = refl
  turns_at (Ty-F.Array e) h (Ty-F.Named j) true = refl
  turns_at (Ty-F.Array e) h (Ty-F.Named j) false = refl
  turns_at (Ty-F.Array e) h (Ty-F.Tuple ys) true = refl
  turns_at (Ty-F.Array e) h (Ty-F.Tuple ys) false = refl
  turns_at (Ty-F.Array e) h (Ty-F.Arrow r s) true = refl
  turns_at (Ty-F.Array e) h (Ty-F.Arrow r s) false = refl

  pub turns : (a b : Ty) (up : Bool) → rel a up b ≡ rel b (not up) a
  turns = by_parts Turns (λ a h b up. told_out a b up ∙ turns_at (out-Ty a) h (out-Ty b) up
      ∙ sym (told_out b a (not up)))

  -- through a third type
  -- asked the other way round
  pub round : (a b : Ty) → rel a false b ≡ true → rel b true a ≡ true
  round a b e = sym (turns a b false) ∙ e

  pub back : (a b : Ty) → rel b true a ≡ true → rel a false b ≡ true
  back a b e = turns a b false ∙ e

  module _ (through_rows : RowsThrough rows) where
    abbrev Middle : Ty → Type 0
    Middle b = (a c : Ty) → IsTrue (rel a true b) → IsTrue (rel b true c) → IsTrue (rel a true c)

    both_true : (a b : Bool) → a ≡ true → b ≡ true → (a && b) ≡ true
    both_true a b e f = ap (λ c. c && b) e ∙ f

    each_through : (xs ys zs : List Ty) → Each Middle ys → each_below (map rel xs) true ys ≡ true
        → each_below (map rel ys) true zs ≡ true → each_below (map rel xs) true zs ≡ true
    each_through [] [] zs h e f = f
    each_through [] (y ∷ ys) zs h e f = absurd cc
    each_through (x ∷ xs) [] zs h e f = absurd cc
    each_through (x ∷ xs) (y ∷ ys) [] h e f = absurd cc
    each_through (x ∷ xs) (y ∷ ys) (z ∷ zs) h e f =
        let i = and_true (rel x true y) (each_below (map rel xs) true ys) e in
        let j = and_true (rel y true z) (each_below (map rel ys) true zs) f in
        both_true _ _ (h 0 y refl x z i.0 j.0)
        (each_through xs ys zs (λ k t q. h (suc k) t q) i.1 j.1)

    through_at : (y : Ty-F Ty) → Parts Middle y → (x z : Ty-F Ty) → told x true y ≡ true
        → told y true z ≡ true → told x true z ≡ true
    through_at y h Ty-F.Nothing z e f = refl
    through_at Ty-F.Nothing h Ty-F.Any z e f = absurd cc
    through_at Ty-F.Any h Ty-F.Any Ty-F.Nothing e f = absurd cc
    through_at Ty-F.Any h Ty-F.Any Ty-F.Any e f = refl
    through_at Ty-F.Any h Ty-F.Any (Ty-F.Named k) e f = absurd cc
    through_at Ty-F.Any h Ty-F.Any (Ty-F.Tuple zs) e f = absurd cc
    through_at Ty-F.Any h Ty-F.Any (Ty-F.Arrow u v) e f = absurd cc
    through_at Ty-F.Any h Ty-F.Any (Ty-F.Array e3) e f = absurd cc
    through_at (Ty-F.Named j) h Ty-F.Any z e f = absurd cc
    through_at (Ty-F.Tuple ys) h Ty-F.Any z e f = absurd cc
    through_at (Ty-F.Arrow r s) h Ty-F.Any z e f = absurd cc
    through_at (Ty-F.Array e2) h Ty-F.Any z e f = absurd cc
    through_at Ty-F.Nothing h (Ty-F.Named i) z e f = absurd cc
    through_at Ty-F.Any h (Ty-F.Named i) Ty-F.Nothing e f = absurd cc
    through_at Ty-F.Any h (Ty-F.Named i) Ty-F.Any e f = refl
    through_at Ty-F.Any h (Ty-F.Named i) (Ty-F.Named k) e f = absurd cc
    through_at Ty-F.Any h (Ty-F.Named i) (Ty-F.Tuple zs) e f = absurd cc
    through_at Ty-F.Any h (Ty-F.Named i) (Ty-F.Arrow u v) e f = absurd cc
    through_at Ty-F.Any h (Ty-F.Named i) (Ty-F.Array e3) e f = absurd cc
    through_at (Ty-F.Named j) h (Ty-F.Named i) Ty-F.Nothing e f = absurd cc
    through_at (Ty-F.Named j) h (Ty-F.Named i) Ty-F.Any e f = refl
    through_at (Ty-F.Named j) h (Ty-F.Named i) (Ty-F.Named k) e f = through_rows i.0 j.0 k.0 e f
    through_at (Ty-F.Named j) h (Ty-F.Named i) (Ty-F.Tuple zs) e f = absurd cc
    through_at (Ty-F.Named j) h (Ty-F.Named i) (Ty-F.Arrow u v) e f = absurd cc
    through_at (Ty-F.Named j) h (Ty-F.Named i) (Ty-F.Array e3) e f = absurd cc
    through_at (Ty-F.Tuple ys) h (Ty-F.Named i) z e f = absurd cc
    through_at (Ty-F.Arrow r s) h (Ty-F.Named i) z e f = absurd cc
    through_at (Ty-F.Array e2) h (Ty-F.Named i) z e f = absurd cc
    through_at Ty-F.Nothing h (Ty-F.Tuple xs) z e f = absurd cc
    through_at Ty-F.Any h (Ty-F.Tuple xs) Ty-F.Nothing e f = absurd cc
    through_at Ty-F.Any h (Ty-F.Tuple xs) Ty-F.Any e f = refl
    through_at Ty-F.Any h (Ty-F.Tuple xs) (Ty-F.Named k) e f = absurd cc
    through_at Ty-F.Any h (Ty-F.Tuple xs) (Ty-F.Tuple zs) e f = absurd cc
    through_at Ty-F.Any h (Ty-F.Tuple xs) (Ty-F.Arrow u v) e f = absurd cc
    through_at Ty-F.Any h (Ty-F.Tuple xs) (Ty-F.Array e3) e f = absurd cc
    through_at (Ty-F.Named j) h (Ty-F.Tuple xs) z e f = absurd cc
    through_at (Ty-F.Tuple ys) h (Ty-F.Tuple xs) Ty-F.Nothing e f = absurd cc
    through_at (Ty-F.Tuple ys) h (Ty-F.Tuple xs) Ty-F.Any e f = refl
    through_at (Ty-F.Tuple ys) h (Ty-F.Tuple xs) (Ty-F.Named k) e f = absurd cc
    through_at (Ty-F.Tuple ys) h (Ty-F.Tuple xs) (Ty-F.Tuple zs) e f = each_through xs ys zs h e f
    through_at (Ty-F.Tuple ys) h (Ty-F.Tuple xs) (Ty-F.Arrow u v) e f = absurd cc
    through_at (Ty-F.Tuple ys) h (Ty-F.Tuple xs) (Ty-F.Array e3) e f = absurd cc
    through_at (Ty-F.Arrow r s) h (Ty-F.Tuple xs) z e f = absurd cc
    through_at (Ty-F.Array e2) h (Ty-F.Tuple xs) z e f = absurd cc
    through_at Ty-F.Nothing h (Ty-F.Arrow p q) z e f = absurd cc
    through_at Ty-F.Any h (Ty-F.Arrow p q) Ty-F.Nothing e f = absurd cc
    through_at Ty-F.Any h (Ty-F.Arrow p q) Ty-F.Any e f = refl
    through_at Ty-F.Any h (Ty-F.Arrow p q) (Ty-F.Named k) e f = absurd cc
    through_at Ty-F.Any h (Ty-F.Arrow p q) (Ty-F.Tuple zs) e f = absurd cc
    through_at Ty-F.Any h (Ty-F.Arrow p q) (Ty-F.Arrow u v) e f = absurd cc
    through_at Ty-F.Any h (Ty-F.Arrow p q) (Ty-F.Array e3) e f = absurd cc
    through_at (Ty-F.Named j) h (Ty-F.Arrow p q) z e f = absurd cc
    through_at (Ty-F.Tuple ys) h (Ty-F.Arrow p q) z e f = absurd cc
    through_at (Ty-F.Arrow r s) h (Ty-F.Arrow p q) Ty-F.Nothing e f = absurd cc
    through_at (Ty-F.Arrow r s) h (Ty-F.Arrow p q) Ty-F.Any e f = refl
    through_at (Ty-F.Arrow r s) h (Ty-F.Arrow p q) (Ty-F.Named k) e f = absurd cc
    through_at (Ty-F.Arrow r s) h (Ty-F.Arrow p q) (Ty-F.Tuple zs) e f = absurd cc
    through_at (Ty-F.Arrow r s) h (Ty-F.Arrow p q) (Ty-F.Arrow u v) e f =
        let m = and_true (rel p false r) (rel q true s) e in
        let n = and_true (rel r false u) (rel s true v) f in
        both_true _ _ (back p u (h.0 u p (round r u n.0) (round p r m.0))) (h.1 q v m.1 n.1)
    through_at (Ty-F.Arrow r s) h (Ty-F.Arrow p q) (Ty-F.Array e3) e f = absurd cc
    through_at (Ty-F.Array e2) h (Ty-F.Arrow p q) z e f = absurd cc
    through_at Ty-F.Nothing h (Ty-F.Array e1) z e f = absurd cc
    through_at Ty-F.Any h (Ty-F.Array e1) Ty-F.Nothing e f = absurd cc
    through_at Ty-F.Any h (Ty-F.Array e1) Ty-F.Any e f = refl
    through_at Ty-F.Any h (Ty-F.Array e1) (Ty-F.Named k) e f = absurd cc
    through_at Ty-F.Any h (Ty-F.Array e1) (Ty-F.Tuple zs) e f = absurd cc
    through_at Ty-F.Any h (Ty-F.Array e1) (Ty-F.Arrow u v) e f = absurd cc
    through_at Ty-F.Any h (Ty-F.Array e1) (Ty-F.Array e3) e f = absurd cc
    through_at (Ty-F.Named j) h (Ty-F.Array e1) z e f = absurd cc
    through_at (Ty-F.Tuple ys) h (Ty-F.Array e1) z e f = absurd cc
    through_at (Ty-F.Arrow r s) h (Ty-F.Array e1) z e f = absurd cc
    through_at (Ty-F.Array e2) h (Ty-F.Array e1) Ty-F.Nothing e f = absurd cc
    through_at (Ty-F.Array e2) h (Ty-F.Array e1) Ty-F.Any e f = refl
    through_at (Ty-F.Array e2) h (Ty-F.Array e1) (Ty-F.Named k) e f = absurd cc
    through_at (Ty-F.Array e2) h (Ty-F.Array e1) (Ty-F.Tuple zs) e f = absurd cc
    through_at (Ty-F.Array e2) h (Ty-F.Array e1) (Ty-F.Arrow u v) e f = absurd cc
    through_at (Ty-F.Array e2) h (Ty-F.Array e1) (Ty-F.Array e3) e f =
        let m = and_true (rel e1 true e2) (rel e1 false e2) e in
        let n = and_true (rel e2 true e3) (rel e2 false e3) f in
        both_true _ _ (h e1 e3 m.0 n.0) (back e1 e3 (h e3 e1 (round e2 e3 n.1) (round e1 e2 m.1)))

    pub through : (a b c : Ty) → IsTrue (rel a true b) → IsTrue (rel b true c)
        → IsTrue (rel a true c)
    through a b c e f =
        by_parts Middle (λ b h a c e f. told_out a c true
        ∙ through_at (out-Ty b) h (out-Ty a) (out-Ty c) (sym (told_out a b true)
        ∙ e) (sym (told_out b c true) ∙ f)) b a c e f
