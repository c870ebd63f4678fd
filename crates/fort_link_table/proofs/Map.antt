-- What the map of numbers holds.
use Rattle.std.proofs.Common.{◌≡◌, ◌<◌, ◌+◌, ℕ, Bool, true, false, cond, List, [], ◌∷◌, ◌++◌, length, take, get_or, Option, Some, None, refl, sym, ap, ◌∙◌, subst, arith}
use Rattle.std.specs.Str.{bytes_eq}
use Rattle.std.specs.Cmp.Lexicographic.{bytes_decides}
use Rattle.std.proofs.lemmas.List.{take_more, length-take-le}
use Rattle.fort_link_table.specs.declared.numbers.Numbers.{Numbers}
use Rattle.fort_link_table.specs.Names.{Spelling, number_in}
use Rattle.fort_link_table.specs.Numbers.{NumberIs, known_number, HoldsNumbers}
use Rattle.fort_link_table.proofs.Growing.{number_kept, found_new, found_none, longer}

-- the spelling that is added has a number already
again_by : (names : List Spelling) (s y : Spelling) (n : ℕ) → NumberIs names y (Some n)
    → (r : Option ℕ) → NumberIs names s r → NumberIs (names ++ y ∷ []) s r
again_by names s y n k None w = at (bytes_eq s y) refl
  where
    at : (b : Bool) → bytes_eq s y ≡ b → number_in (names ++ y ∷ []) s ≡ length (names ++ y ∷ [])
    at true e =
        let q : s ≡ y = (bytes_decides s y).0 e
        in let f : number_in names s ≡ n = ap (number_in names) q ∙ k.0 in let l = k.1
        in absurd (omega arith)
    at false e = found_none names s y w e
again_by names s y n k (Some m) w =
    let l = w.1 in let e = w.0 in let g = longer names y
    in (number_kept names (y ∷ []) s (omega arith) ∙ e, omega arith)

pub again : (names : List Spelling) (old : Numbers) (y : Spelling) (n : ℕ)
    → HoldsNumbers names old → Some n ≡ known_number old y → HoldsNumbers (names ++ y ∷ []) old
again names old y n h e =
    record {
      knows =
          λ s. again_by names s y n (subst (NumberIs names y) (sym e) (h.knows y))
          (known_number old s) (h.knows s);
    }

-- The spelling that is added has a number already: it is put over it, and then the number again.
pub again_held : (names : List Spelling) (old mid new : Numbers) (y : Spelling) (n first : ℕ)
    → HoldsNumbers names old → Some first ≡ known_number old y
    → ((v : Spelling) → known_number mid v ≡ cond (bytes_eq y v) (Some n) (known_number old v))
    → ((v : Spelling) → known_number new v ≡ cond (bytes_eq y v) (Some first) (known_number mid v))
    → HoldsNumbers (names ++ y ∷ []) new
again_held names old mid new y n first h e m u = record {
  knows = λ s. subst (NumberIs (names ++ y ∷ []) s) (sym (u s ∙ at s (bytes_eq y s) refl))
      ((again names old y first h e).knows s);
}
  where
    at : (s : Spelling) (b : Bool) → bytes_eq y s ≡ b
        → cond b (Some first) (known_number mid s) ≡ known_number old s
    at s true f = e ∙ ap (known_number old) ((bytes_decides y s).0 f)
    at s false f = m s ∙ ap (λ b. cond b (Some n) (known_number old s)) f

new_by : (names : List Spelling) (s y : Spelling) (n : ℕ) → NumberIs names y None
    → length names ≡ n → (r : Option ℕ) → NumberIs names s r → (b : Bool) → bytes_eq y s ≡ b
    → NumberIs (names ++ y ∷ []) s (cond b (Some n) r)
new_by names s y n k q r w true e =
    let f : y ≡ s = (bytes_decides y s).0 e in let g = longer names y in
    (ap (number_in (names ++ y ∷ [])) (sym f) ∙ found_new names y k ∙ q, omega arith)
new_by names s y n k q None w false e = found_none names s y w (at (bytes_eq s y) refl)
  where
    at : (b : Bool) → bytes_eq s y ≡ b → bytes_eq s y ≡ false
    at true f =
        let g : bytes_eq y s ≡ true = (bytes_decides y s).1 (sym ((bytes_decides s y).0 f))
        in absurd cc
    at false f = f
new_by names s y n k q (Some m) w false e =
    let l = w.1 in let d = w.0 in let g = longer names y
    in (number_kept names (y ∷ []) s (omega arith) ∙ d, omega arith)

pub new_held : (names : List Spelling) (old new : Numbers) (y : Spelling) (n : ℕ)
    → HoldsNumbers names old → length names ≡ n → None ≡ known_number old y
    → ((v : Spelling) → known_number new v ≡ cond (bytes_eq y v) (Some n) (known_number old v))
    → HoldsNumbers (names ++ y ∷ []) new
new_held names old new y n h q e u = record {
  knows = λ s. subst (NumberIs (names ++ y ∷ []) s) (sym (u s))
      (new_by names s y n (subst (NumberIs names y) (sym e) (h.knows y)) q (known_number old s)
      (h.knows s) (bytes_eq y s) refl);
}

pub none_held : (new : Numbers) → ((v : Spelling) → known_number new v ≡ None)
    → HoldsNumbers [] new
none_held new u = record { knows = λ s. subst (NumberIs [] s) (sym (u s)) refl }

-- a further name behind those before it
pub held_more : (names : List Spelling) (i number : ℕ) (d : Spelling) (old new : Numbers)
    → i < length names → number ≡ i → HoldsNumbers (take i names) old
    → ((known : List Spelling) → HoldsNumbers known old → length known ≡ number
    → HoldsNumbers (known ++ get_or names i d ∷ []) new)
    → HoldsNumbers (take (i + 1) names) new
held_more names i number d old new l e h add =
    subst (λ z. HoldsNumbers z new) (sym (take_more names i d l))
    (add (take i names) h (length-take-le i names (omega arith) ∙ sym e))
