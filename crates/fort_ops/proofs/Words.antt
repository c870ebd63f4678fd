-- A text and its characters stand at the same places of the tables, and no spelling stands at two.
use denote.Bor.{Bor}
use Rattle.std.proofs.Common.{◌≡◌, ◌↔◌, ℕ, ◌+◌, ◌<◌, ◌≤◌, List, [], ◌∷◌, Option, Some, None, map, length, get_or, refl, sym, ap, subst, ◌∙◌, Bool, true, false, cond, below_more, arith, encode_utf8_all}
use Rattle.std.proofs.lemmas.Str.{encodes-chars, encodes_same}
use Rattle.std.proofs.lemmas.List.{get_or-map, length-map}
use Rattle.std.proofs.Math.ListN as listn
use Rattle.std.proofs.lemmas.Slice.Eq.{bytes_eq-Decides}
use Rattle.std.proofs.lemmas.Bool.Decides.{not_from_Decides, Decides-at}
use Rattle.std.specs.Str.{chars, IsUtf8, bytes_eq}
use Rattle.std.specs.List.{Contains}
use Rattle.fort_ops.specs.declared.op.Op.{Op}
use Rattle.fort_ops.specs.Spellings.{spellings, texts, Spells, SpellsOneAtMost}

-- the code's table with each text as its bytes
abbrev pub lines : List (Bor (List ℕ) × Op) → List (Op × List ℕ)
lines table = map (λ row. (row.1, row.0.now)) table

-- no operator stands beside this text at the first n places of the table
abbrev pub IsNoneOf : ℕ → List (Bor (List ℕ) × Op) → List ℕ → Type 0
IsNoneOf n table text = (k : ℕ) → k < n → (op : Op) → get_or (lines table) k (op, text) ≡ (op, text)
    → ⊥

-- two pairs are equal where their parts are
pair_same : {A B : Type 0} (p : A × B) (a : A) (b : B) → p.0 ≡ a → p.1 ≡ b → p ≡ (a, b)
pair_same p a b first second = ap (λ x. (x, p.1)) first ∙ ap (λ y. (a, y)) second

-- one more place where another text stands
pub one_more : (table : List (Bor (List ℕ) × Op)) (i : ℕ) (text : List ℕ) (d : Bor (List ℕ) × Op)
    (b : Bool) → i < length table → b ≡ bytes_eq text (get_or table i d).0.now → b ≡ false
    → IsNoneOf i table text → IsNoneOf (i + 1) table text
one_more table i text d b within test differs before =
    below_more _ _ before
    (λ op same. not_from_Decides b (Decides-at b _ test (bytes_eq-Decides text _)) differs
    (sym (ap (λ p. p.1)
    (sym (get_or-map (λ
    (row : Bor (List ℕ) × Op). (row.1, row.0.now)) table i d (op, text) within) ∙ same))))

-- a row with its spelling as bytes
abbrev in_bytes : Op × List ℕ → Op × List ℕ
in_bytes p = (p.0, encode_utf8_all p.1)

-- a text stands beside an operator where its characters do
row_from_chars : (rows : List (Op × List ℕ)) (op : Op) (text : List ℕ) → IsUtf8 text
    → Contains rows (op, chars text) → Contains (map in_bytes rows) (op, text)
row_from_chars rows op text whole (k, within, same) = (
  k,
  simp length-map within,
  subst (λ t. get_or (map in_bytes rows) k (op, t)
      ≡ (op, t)) (encodes-chars text whole) (listn.get_or-map in_bytes rows k (op, chars text)
      ∙ ap in_bytes same),
)

chars_from_row : (rows : List (Op × List ℕ)) (op : Op) (text : List ℕ) → IsUtf8 text
    → Contains (map in_bytes rows) (op, text) → Contains rows (op, chars text)
chars_from_row rows op text whole (k, within, same) =
    let back = encodes-chars text whole in
    let at : in_bytes (get_or rows k (op, chars text)) ≡ (op, text) =
    sym (listn.get_or-map in_bytes rows k (op, chars text))
    ∙ subst (λ t. get_or (map in_bytes rows) k (op, t) ≡ (op, text)) (sym back) same in
    let fits : k < length rows = simp length-map at within in (
      k,
      fits,
      pair_same (get_or rows k (op, chars text)) op (chars text) (ap (λ p. p.0) at)
          (encodes_same _ (chars text) (ap (λ p. p.1) at ∙ sym back)),
    )

-- two lists of what functions give are equal: so are what they give of each element
at_each : {X Y : Type 0} (f g : X → Y) (xs : List X) (x : X) → map f xs ≡ map g xs → Contains xs x
    → f x ≡ g x
at_each f g xs x same (k, within, at) =
    ap f (sym at) ∙ sym (get_or-map f xs k x (g x) within) ∙ ap (λ ys. get_or ys k (g x)) same
    ∙ get_or-map g xs k x (g x) within ∙ ap g at

-- the operator of the first row with these characters
abbrev operator_of : List (Op × List ℕ) → List ℕ → Option Op
operator_of [] word = None
operator_of (row ∷ rows) word = cond (bytes_eq word row.1) (Some row.0) (operator_of rows word)

each_found : map (λ p. operator_of spellings p.1) spellings ≡ map (λ p. Some p.0) spellings
each_found = refl

-- one word spells at most one operator
pub spells_once : SpellsOneAtMost
spells_once a b word of_a of_b =
    let found =
    λ (op : Op) (at : Spells op word). at_each (λ p. operator_of spellings p.1) (λ p. Some p.0)
    spellings (op, word) each_found at in
    let same : Some a ≡ Some b = sym (found a of_a) ∙ found b of_b in
    cc same

-- the row at a place of the table answers its operator
pub answered : (table : List (Bor (List ℕ) × Op)) (i : ℕ) (text : List ℕ) (d : Bor (List ℕ) × Op)
    (b : Bool) → IsUtf8 text → lines table ≡ texts → i < length table
    → b ≡ bytes_eq text (get_or table i d).0.now → b ≡ true
    → (op : Op) → (Some (get_or table i d).1 ≡ Some op) ↔ Spells op (chars text)
answered table i text d b whole all within test equal op =
    let same : text ≡ (get_or table i d).0.now =
    (Decides-at b _ test (bytes_eq-Decides text _)).0 equal in
    let here : Contains (lines table) ((get_or table i d).1, text) = (
      i,
      simp length-map within,
      get_or-map (λ
          (row : Bor (List ℕ) × Op). (row.1, row.0.now)) table i d ((get_or table i d).1, text)
          within ∙ ap (λ t. ((get_or table i d).1, t)) (sym same),
    ) in
    let spelled : Spells (get_or table i d).1 (chars text) =
    chars_from_row spellings (get_or table i d).1 text whole
    (subst (λ rows. Contains rows ((get_or table i d).1, text)) all here) in (
      λ is. subst (λ o. Spells o (chars text))
          (let e : (get_or table i d).1 ≡ op = cc is in e) spelled,
      λ other. ap Some (spells_once _ _ (chars text) spelled other),
    )

-- a text at no place of the table spells no operator
pub unanswered : (table : List (Bor (List ℕ) × Op)) (n : ℕ) (text : List ℕ) → IsUtf8 text
    → lines table ≡ texts → length table ≤ n → IsNoneOf n table text
    → (op : Op) → (None ≡ Some op) ↔ Spells op (chars text)
unanswered table n text whole all end none_of op = (
  λ is. absurd (cc is),
  λ at. absurd
      (nowhere (subst (λ rows. Contains rows (op, text)) (sym all)
      (row_from_chars spellings op text whole at))),
)
  where
    nowhere : Contains (lines table) (op, text) → ⊥
    nowhere (k, within, same) =
        let inside : k < length table = simp length-map at within in none_of k (omega arith) op same
