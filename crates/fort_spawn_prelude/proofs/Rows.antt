-- What is made of rows one behind another.
use Rattle.std.proofs.Common.{◌≡◌, ◌<◌, ℕ, ◌+◌, suc, Bool, true, false, List, [], ◌∷◌, ◌++◌, length, map, take, get_or, refl, sym, ap, ap₂, ◌∙◌, arith, append_assoc}
use Rattle.std.proofs.lemmas.List.{take_more, map-append, length-map, length-take-le}
use Rattle.fort_base.specs.declared.ids.NameId.{NameId}
use Rattle.fort_lex_token.specs.declared.token.Token.{Token}
use Rattle.fort_spawn_prelude.specs.Table.{Entry, always, starting, table, table_end, closing}
use Rattle.fort_spawn_prelude.specs.Numbers.{Spelling, with_part, extended_by}
use Rattle.fort_lex_token.specs.declared.reserved.Reserved.TheVariants as reserved
use Rattle.fort_tree.specs.Tokens.{word, named}
use Rattle.fort_spawn_prelude.specs.declared.table.TheConstants.{ALWAYS_COUNT, STARTING_COUNT}
use Rattle.fort_spawn_prelude.specs.Prelude.{id_in, token_at, tokens_from, prelude_tokens, extended, framed, corner}

-- ---- names

pub extended_append : (names : List Spelling) (xs ys : List Entry)
    → extended_by names (xs ++ ys) ≡ extended_by (extended_by names xs) ys
extended_append names [] ys = refl
extended_append names (x ∷ xs) ys = extended_append (with_part names x.part) xs ys

pub extended_more : {R : Type 0} (of : R → Entry) (names : List Spelling) (rows : List R) (i : ℕ)
    (d : R) → i < length rows
    → extended_by names (map of (take (i + 1) rows))
    ≡ with_part (extended_by names (map of (take i rows))) (of (get_or rows i d)).part
extended_more of names rows i d h =
    ap (λ z. extended_by names (map of z)) (take_more rows i d h)
    ∙ (ap (extended_by names) (map-append of (take i rows) (get_or rows i d ∷ []))
    ∙ extended_append names (map of (take i rows)) (of (get_or rows i d) ∷ []))

-- a further name behind those before it
pub name_added : {R : Type 0} (of : R → Entry) (start now next : List Spelling) (rows : List R)
    (i : ℕ) (d : R) → i < length rows → now ≡ extended_by start (map of (take i rows))
    → next ≡ with_part now (of (get_or rows i d)).part
    → next ≡ extended_by start (map of (take (i + 1) rows))
name_added of start now next rows i d h e f =
    f ∙ (ap (λ z. with_part z (of (get_or rows i d)).part) e
    ∙ sym (extended_more of start rows i d h))

-- ---- tokens

pub tokens_append : (id : Spelling → NameId) (n : ℕ) (xs ys : List Entry)
    → tokens_from id n (xs ++ ys) ≡ tokens_from id n xs ++ tokens_from id (n + length xs) ys
tokens_append id n [] ys =
    let e : n ≡ n + 0 = omega arith in ap (λ k. tokens_from id k ys) e
tokens_append id n (x ∷ xs) ys =
    let e : n + 1 + length xs ≡ n + suc (length xs) = omega arith in
    ap (λ z. token_at id n x ∷ z) (tokens_append id (n + 1) xs ys
    ∙ ap (λ k. tokens_from id (n + 1) xs ++ tokens_from id k ys) e)

pub tokens_more : {R : Type 0} (of : R → Entry) (id : Spelling → NameId) (n : ℕ) (rows : List R)
    (i : ℕ) (d : R) → i < length rows
    → tokens_from id n (map of (take (i + 1) rows))
    ≡ tokens_from id n (map of (take i rows)) ++ token_at id (n + i) (of (get_or rows i d)) ∷ []
tokens_more of id n rows i d h =
    let long : length (map of (take i rows)) ≡ i =
    length-map (take i rows) of ∙ length-take-le i rows (omega arith) in
    ap (λ z. tokens_from id n (map of z)) (take_more rows i d h)
    ∙ (ap (tokens_from id n) (map-append of (take i rows) (get_or rows i d ∷ []))
    ∙ (tokens_append id n (map of (take i rows)) (of (get_or rows i d) ∷ [])
    ∙ ap (λ k. tokens_from id n (map of (take i rows))
    ++ token_at id (n + k) (of (get_or rows i d)) ∷ []) long))

-- a further token behind those before it
pub token_added : {R : Type 0} (of : R → Entry) (id : Spelling → NameId) (n : ℕ) (rows : List R)
    (i : ℕ) (d : R) (before now next : List Token) → i < length rows
    → now ≡ before ++ tokens_from id n (map of (take i rows))
    → next ≡ now ++ token_at id (n + i) (of (get_or rows i d)) ∷ []
    → next ≡ before ++ tokens_from id n (map of (take (i + 1) rows))
token_added of id n rows i d before now next h e f =
    f ∙ (ap (λ z. z ++ token_at id (n + i) (of (get_or rows i d)) ∷ []) e
    ∙ (append_assoc before (tokens_from id n (map of (take i rows)))
    (token_at id (n + i) (of (get_or rows i d)) ∷ [])
    ∙ ap (λ z. before ++ z) (sym (tokens_more of id n rows i d h))))

-- ---- the whole table

-- the tokens behind the declarations that each prelude has, of a component that starts
pub closed : {R : Type 0} (of : R → Entry) (id : Spelling → NameId) (rows : List R)
    (old mid new : List Token) (last : Token) → map of rows ≡ starting
    → mid ≡ old ++ tokens_from id (ALWAYS_COUNT + 1) (map of rows)
    → last ≡ token_at id (ALWAYS_COUNT + 1 + STARTING_COUNT) closing → new ≡ mid ++ last ∷ []
    → new ≡ old ++ tokens_from id (ALWAYS_COUNT + 1) (table_end true)
unfolding starting
closed of id rows old mid new last e f g h =
    h ∙ (ap₂ (λ x y. x ++ y ∷ [])
    (f ∙ ap (λ z. old ++ tokens_from id (ALWAYS_COUNT + 1) z) e) g
    ∙ (append_assoc old (tokens_from id (ALWAYS_COUNT + 1) starting)
    (token_at id (ALWAYS_COUNT + 1 + STARTING_COUNT) closing ∷ [])
    ∙ ap (λ z. old ++ z)
    (sym (tokens_append id (ALWAYS_COUNT + 1) starting (closing ∷ [])))))

-- the prelude's tokens, by what stands behind the declarations that each has
in_two : (id : Spelling → NameId) (starts : Bool)
    → tokens_from id 1 (table starts)
    ≡ tokens_from id 1 always ++ tokens_from id (ALWAYS_COUNT + 1) (table_end starts)
unfolding always
in_two id starts = tokens_append id 1 always (table_end starts)

pub framed_is : {R : Type 0} (of : R → Entry) (names : List Spelling) (starts : Bool)
    (rows : List R) (l0 l1 l2 l3 l4 l5 : List Token) (t1 t2 t3 : Token)
    → l0 ≡ [] → t1 ≡ word reserved.Component corner → l1 ≡ l0 ++ t1 ∷ []
    → t2 ≡ named (record { id = record { 0 = 0 }; spot = corner }) → l2 ≡ l1 ++ t2 ∷ []
    → map of rows ≡ always → l3 ≡ l2 ++ tokens_from (id_in names) 1 (map of rows)
    → l4 ≡ l3 ++ tokens_from (id_in names) (ALWAYS_COUNT + 1) (table_end starts)
    → t3 ≡ word reserved.End corner → l5 ≡ l4 ++ t3 ∷ []
    → l5 ≡ framed (prelude_tokens names starts)
framed_is of names starts rows l0 l1 l2 l3 l4 l5 t1 t2 t3 e0 f1 e1 f2 e2 r e3 e4 f3 e5 =
    let id = id_in names in
    let head = word reserved.Component corner ∷ named
    (record { id = record { 0 = 0 }; spot = corner }) ∷ [] in
    let at1 : l1 ≡ word reserved.Component corner ∷ [] = e1 ∙ ap₂ (λ x y. x ++ y ∷ []) e0 f1 in
    let at2 : l2 ≡ head = e2 ∙ ap₂ (λ x y. x ++ y ∷ []) at1 f2 in
    let at3 : l3 ≡ head ++ tokens_from id 1 always =
    e3 ∙ ap₂ (λ x y. x ++ tokens_from id 1 y) at2 r in
    let at4 : l4 ≡ head ++ tokens_from id 1 (table starts) =
    e4 ∙ (ap (λ x. x ++ tokens_from id (ALWAYS_COUNT + 1) (table_end starts)) at3
    ∙ (append_assoc head (tokens_from id 1 always)
    (tokens_from id (ALWAYS_COUNT + 1) (table_end starts))
    ∙ ap (λ z. head ++ z) (sym (in_two id starts)))) in
    e5 ∙ (ap₂ (λ x y. x ++ y ∷ []) at4 f3
    ∙ append_assoc head (tokens_from id 1 (table starts)) (word reserved.End corner ∷ []))

-- ---- all names

pub all_starting : {R : Type 0} (of : R → Entry) (names copy mid last : List Spelling)
    (rows more : List R) → copy ≡ names → mid ≡ extended_by copy (map of rows)
    → map of rows ≡ always → last ≡ extended_by mid (map of more) → map of more ≡ starting
    → last ≡ extended names true
all_starting of names copy mid last rows more c m r l s =
    l ∙ (ap₂ (λ x y. extended_by x y) (m ∙ ap₂ (λ x y. extended_by x y) c r) s
    ∙ (sym (extended_append (extended_by names always) starting (closing ∷ []))
    ∙ sym (extended_append names always (table_end true))))

pub all_others : {R : Type 0} (of : R → Entry) (names copy mid : List Spelling) (rows : List R)
    → copy ≡ names → mid ≡ extended_by copy (map of rows) → map of rows ≡ always
    → mid ≡ extended names false
all_others of names copy mid rows c m r =
    m ∙ (ap₂ (λ x y. extended_by x y) c r ∙ sym (extended_append names always (table_end false)))
