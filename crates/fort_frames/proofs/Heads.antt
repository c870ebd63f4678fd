-- The frames of parallel forms, by their heads.
use Rattle.std.proofs.Common.{◌≡◌, ℕ, zero, suc, ◌+◌, ◌<◌, Bool, true, false, List, [], ◌∷◌, ◌++◌, length, take, drop, refl, ap, sym, ◌∙◌}
use Rattle.std.specs.Prelude.{slice_set}
use Rattle.std.proofs.lemmas.List.{take-append-drop, take-set, drop-set}
use Rattle.fort_core.specs.declared.term.Term.{Term, Apply, ForHalves, ReduceHalves}
use Rattle.fort_machine.specs.Frames.{on, part_number, beside}
use Rattle.fort_machine.specs.Frames as machine
use Rattle.fort_frames.specs.declared.head.Head.{Head}
use Rattle.fort_frames.specs.declared.head.Head.TheVariants as head
use Rattle.fort_frames.specs.Heads.{are_two, suits, of_two, form_of, frame_of_two, frame_at}

-- a part in its place
pub put_back : (ts : List Term) (i : ℕ) (t : Term) → i < length ts
    → take i ts ++ t ∷ drop (i + 1) ts ≡ slice_set ts i t
put_back ts i t lt =
    ap (λ xs. xs ++ (t ∷ drop (i + 1) ts)) (sym (take-set ts i t))
    ∙ ap (λ ys. take i (slice_set ts i t) ++ ys) (sym (drop-set ts i t lt))
    ∙ take-append-drop i (slice_set ts i t)

two_set : (ts : List Term) (i : ℕ) (t : Term) → are_two (slice_set ts i t) ≡ are_two ts
two_set [] i t = refl
two_set (x ∷ []) zero t = refl
two_set (x ∷ []) (suc i) t = refl
two_set (x ∷ y ∷ []) zero t = refl
two_set (x ∷ y ∷ []) (suc zero) t = refl
two_set (x ∷ y ∷ []) (suc (suc i)) t = refl
two_set (x ∷ y ∷ z ∷ zs) zero t = refl
two_set (x ∷ y ∷ z ∷ zs) (suc zero) t = refl
two_set (x ∷ y ∷ z ∷ zs) (suc (suc zero)) t = refl
two_set (x ∷ y ∷ z ∷ zs) (suc (suc (suc i))) t = refl

-- another part in the place of one leaves their number
pub suits_set : (h : Head) (ts : List Term) (i : ℕ) (t : Term)
    → suits h (slice_set ts i t) ≡ suits h ts
suits_set head.Apply ts i t = two_set ts i t
suits_set head.ForHalves ts i t = two_set ts i t
suits_set (head.ReduceHalves set) ts i t = two_set ts i t
suits_set head.Group ts i t = refl
suits_set (head.Call set) ts i t = refl
suits_set head.Also ts i t = refl

on_two : (c : Term → Term → Term) (f g : Term → machine.Frame) → ((t b : Term) → on (f b) t ≡ c t b)
    → ((t a : Term) → on (g a) t ≡ c a t)
    → (before behind : List Term) (t : Term) → are_two (before ++ t ∷ behind) ≡ true
    → on (frame_of_two f g before behind) t ≡ of_two c (before ++ t ∷ behind)
on_two c f g p q [] [] t e = absurd cc
on_two c f g p q [] (b ∷ []) t e = p t b
on_two c f g p q [] (b ∷ d ∷ ds) t e = absurd cc
on_two c f g p q (a ∷ []) [] t e = q t a
on_two c f g p q (a ∷ []) (b ∷ bs) t e = absurd cc
on_two c f g p q (a ∷ d ∷ []) behind t e = absurd cc
on_two c f g p q (a ∷ d ∷ x ∷ xs) behind t e = absurd cc

pub on_frame_at : (h : Head) (before behind : List Term) (t : Term)
    → suits h (before ++ t ∷ behind) ≡ true
    → on (frame_at h before behind) t ≡ form_of h (before ++ t ∷ behind)
on_frame_at head.Group before behind t e = refl
on_frame_at (head.Call set) before behind t e = refl
on_frame_at head.Also before behind t e = refl
on_frame_at head.Apply before behind t e =
    on_two Apply machine.in_function machine.in_argument (λ u b. refl) (λ u a. refl) before behind t
    e
on_frame_at head.ForHalves before behind t e =
    on_two ForHalves machine.in_first_half machine.in_second_half (λ u b. refl) (λ u a. refl) before
    behind t e
on_frame_at (head.ReduceHalves set) before behind t e =
    on_two (ReduceHalves set) (machine.in_first_reduced set) (machine.in_second_reduced set)
    (λ u b. refl) (λ u a. refl) before behind t e

number_two : (f g : Term → machine.Frame) → ((b : Term) → part_number (f b) ≡ 0 ∷ [])
    → ((a : Term) → part_number (g a) ≡ 1 ∷ [])
    → (before behind : List Term) (t : Term) → are_two (before ++ t ∷ behind) ≡ true
    → part_number (frame_of_two f g before behind) ≡ length before ∷ []
number_two f g p q [] [] t e = absurd cc
number_two f g p q [] (b ∷ []) t e = p b
number_two f g p q [] (b ∷ d ∷ ds) t e = absurd cc
number_two f g p q (a ∷ []) [] t e = q a
number_two f g p q (a ∷ []) (b ∷ bs) t e = absurd cc
number_two f g p q (a ∷ d ∷ []) behind t e = absurd cc
number_two f g p q (a ∷ d ∷ x ∷ xs) behind t e = absurd cc

pub number_at : (h : Head) (before behind : List Term) (t : Term)
    → suits h (before ++ t ∷ behind) ≡ true
    → part_number (frame_at h before behind) ≡ length before ∷ []
number_at head.Group before behind t e = refl
number_at (head.Call set) before behind t e = refl
number_at head.Also before behind t e = refl
number_at head.Apply before behind t e =
    number_two machine.in_function machine.in_argument (λ b. refl) (λ a. refl) before behind t e
number_at head.ForHalves before behind t e =
    number_two machine.in_first_half machine.in_second_half (λ b. refl) (λ a. refl) before behind t
    e
number_at (head.ReduceHalves set) before behind t e =
    number_two (machine.in_first_reduced set) (machine.in_second_reduced set) (λ b. refl)
    (λ a. refl) before behind t e

beside_two : (f g : Term → machine.Frame) → ((b : Term) → beside (f b) ≡ b ∷ [])
    → ((a : Term) → beside (g a) ≡ a ∷ [])
    → (before behind : List Term) (t : Term) → are_two (before ++ t ∷ behind) ≡ true
    → beside (frame_of_two f g before behind) ≡ before ++ behind
beside_two f g p q [] [] t e = absurd cc
beside_two f g p q [] (b ∷ []) t e = p b
beside_two f g p q [] (b ∷ d ∷ ds) t e = absurd cc
beside_two f g p q (a ∷ []) [] t e = q a
beside_two f g p q (a ∷ []) (b ∷ bs) t e = absurd cc
beside_two f g p q (a ∷ d ∷ []) behind t e = absurd cc
beside_two f g p q (a ∷ d ∷ x ∷ xs) behind t e = absurd cc

pub beside_at : (h : Head) (before behind : List Term) (t : Term)
    → suits h (before ++ t ∷ behind) ≡ true → beside (frame_at h before behind) ≡ before ++ behind
beside_at head.Group before behind t e = refl
beside_at (head.Call set) before behind t e = refl
beside_at head.Also before behind t e = refl
beside_at head.Apply before behind t e =
    beside_two machine.in_function machine.in_argument (λ b. refl) (λ a. refl) before behind t e
beside_at head.ForHalves before behind t e =
    beside_two machine.in_first_half machine.in_second_half (λ b. refl) (λ a. refl) before behind t
    e
beside_at (head.ReduceHalves set) before behind t e =
    beside_two (machine.in_first_reduced set) (machine.in_second_reduced set) (λ b. refl)
    (λ a. refl) before behind t e
