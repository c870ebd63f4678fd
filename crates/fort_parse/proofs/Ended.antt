-- The `;` behind an item, and behind the last of a list.
use Rattle.std.proofs.Common.{◌≡◌, ℕ, ◌+◌, ◌-◌, ◌≤◌, List, [], ◌∷◌, ◌++◌, length, take, get_or, Option, Some, None, refl, sym, ap, ◌∙◌, arith, is_some}
use Rattle.std.proofs.Math.Seq.{take-length}
use Rattle.std.proofs.lemmas.List.{take_more}
use Rattle.fort_tree.specs.declared.spot.Spot.{Spot}
use Rattle.fort_parse.specs.Blocks.{last_ended, is_ended}

pub ended_is : (o : Option Spot) → is_some o ≡ is_ended o
ended_is None = refl
ended_is (Some s) = refl

pub ends_last : {A : Type 0} (semicolon : A → Option Spot) (front : List A) (x : A)
    → last_ended semicolon (front ++ x ∷ []) ≡ is_ended (semicolon x)
ends_last semicolon [] x = refl
ends_last semicolon (y ∷ []) x = refl
ends_last semicolon (y ∷ z ∷ front) x = ends_last semicolon (z ∷ front) x

pub last_of : {A : Type 0} (semicolon : A → Option Spot) (xs : List A) (x : A) → 1 ≤ length xs
    → x ≡ get_or xs (length xs - 1) x
    → last_ended semicolon xs ≡ is_ended (semicolon x)
last_of semicolon xs x some is =
    let at : length xs - 1 + 1 ≡ length xs = omega arith in
    let whole : xs ≡ take (length xs - 1) xs ++ x ∷ [] =
    sym (take-length xs)
    ∙ (ap (λ n. take n xs) (sym at)
    ∙ (take_more xs (length xs - 1) x (omega arith)
    ∙ ap (λ y. take (length xs - 1) xs ++ y ∷ []) (sym is))) in
    ap (last_ended semicolon) whole ∙ ends_last semicolon (take (length xs - 1) xs) x
