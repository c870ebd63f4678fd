-- Lists that are made item by item.
use Rattle.std.proofs.Common.{◌≡◌, ◌<◌, ℕ, ◌+◌, List, [], ◌∷◌, ◌++◌, length, map, take, get_or, sym, ap, ◌∙◌}
use Rattle.std.proofs.lemmas.List.{take_more, map-append}
use Rattle.fort_link_table.specs.Names.{Spelling, with_spelling, grown}
use Rattle.fort_link_table.proofs.Growing.{grown_append}

-- one more spelling behind the names
pub grown_more : (names now next more : List Spelling) (i : ℕ) (d : Spelling) → i < length more
    → now ≡ grown names (take i more) → next ≡ with_spelling now (get_or more i d)
    → next ≡ grown names (take (i + 1) more)
grown_more names now next more i d l e f =
    f ∙ (ap (λ z. with_spelling z (get_or more i d)) e
    ∙ (sym (grown_append names (take i more) (get_or more i d ∷ []))
    ∙ ap (grown names) (sym (take_more more i d l))))

-- one more item of a list
pub mapped_more : {A B : Type 0} (f : A → B) (xs : List A) (now next : List B) (i : ℕ) (d : A)
    → i < length xs → now ≡ map f (take i xs) → next ≡ now ++ f (get_or xs i d) ∷ []
    → next ≡ map f (take (i + 1) xs)
mapped_more f xs now next i d l e g =
    g ∙ (ap (λ z. z ++ f (get_or xs i d) ∷ []) e
    ∙ sym (ap (map f) (take_more xs i d l) ∙ map-append f (take i xs) (get_or xs i d ∷ [])))
