-- What is made of forms on a stack, of one part after another.
use Rattle.std.proofs.Common.{◌≡◌, ℕ, suc, ◌+◌, ◌<◌, ◌≤◌, List, [], ◌∷◌, ◌++◌, get_or, take, drop, length, refl, sym, ap, ◌∙◌, append_assoc, subst, arith}
use Rattle.std.specs.Prelude.{map}
use Rattle.std.proofs.lemmas.List.{take_more, take_all, drop_all, map-append}
use Rattle.std.proofs.Math.Seq.{drop-cons}
use Rattle.fort_form.specs.declared.form.Form.{Form}
use Rattle.fort_form_build.specs.Taking.{Gives}

-- the same by other names
pub named_as : {A : Type 0} {xs ys : List Form} {a b : A} {old new : List Form} {made : A}
    → Gives ys b old new made → xs ≡ ys → a ≡ b → Gives xs a old new made
named_as g ex ea = record {
  gives = λ rest e.
      let r = g.gives rest (e ∙ ap (λ zs. zs ++ rest) ex) in
      (r.0 ∙ sym ea, r.1);
}

-- what is made by another name
pub remade : {A : Type 0} {all : List Form} {it made same : A} {old new : List Form} → made ≡ same
    → Gives all it old new same → Gives all it old new made
remade e g = record {
  gives = λ rest h.
      let r = g.gives rest h in
      (e ∙ r.0, r.1);
}

-- the same where a value is named otherwise
pub by : {A B : Type 0} (xs_of : A → List Form) (it_of : A → B) {x y : A} {old new : List Form}
    {made : B} → x ≡ y → Gives (xs_of x) (it_of x) old new made
    → Gives (xs_of y) (it_of y) old new made
by xs_of it_of {old = old} {new = new} {made = made} e g =
    subst (λ z. Gives (xs_of z) (it_of z) old new made) e g

-- the top
pub one : (x : Form) {old new : List Form} {made : Form} → old ≡ made ∷ new
    → Gives (x ∷ []) x old new made
one x {old = old} {new = new} {made = made} taken = record {
  gives = λ rest e.
      let same : made ∷ new ≡ x ∷ rest = sym taken ∙ e in
      (cc, cc);
}

-- what is made of the top where that is known
pub of_top : {A : Type 0} (x : Form) {old new all : List Form} {value : Form} {made it as_it : A}
    → old ≡ value ∷ new → (value ≡ x → made ≡ as_it) → all ≡ x ∷ [] → it ≡ as_it
    → Gives all it old new made
of_top x taken f same is = record {
  gives = λ rest e.
      let r = (one x taken).gives rest (e ∙ ap (λ zs. zs ++ rest) same) in
      (f r.0 ∙ sym is, r.1);
}

-- nothing is taken
pub nothing : {A : Type 0} {it made : A} {s : List Form} → made ≡ it → Gives [] it s s made
nothing e = record { gives = λ rest r. (e, r) }

-- what is made of one part
pub of_one : {A B : Type 0} (make : A → B) {xs all : List Form} {a a' : A} {it : B}
    {old new : List Form} → Gives xs a old new a' → all ≡ xs → it ≡ make a
    → Gives all it old new (make a')
of_one make p same is = record {
  gives = λ rest e.
      let r = p.gives rest (e ∙ ap (λ zs. zs ++ rest) same) in
      (ap make r.0 ∙ sym is, r.1);
}

-- of two, one after the other
pub of_two : {A B C : Type 0} (make : A → B → C) {xs ys all : List Form} {a a' : A} {b b' : B}
    {it : C} {old mid new : List Form} → Gives xs a old mid a' → Gives ys b mid new b'
    → all ≡ xs ++ ys → it ≡ make a b
    → Gives all it old new (make a' b')
of_two make {xs = xs} {ys = ys} {a = a} {b' = b'} p q same is = record {
  gives = λ rest e.
      let r = p.gives (ys ++ rest) (e ∙ ap (λ zs. zs ++ rest) same ∙ append_assoc xs ys rest) in
      let s = q.gives rest r.1 in
      (ap (λ z. make z b') r.0 ∙ ap (make a) s.0 ∙ sym is, s.1);
}

-- of one by what was made before it
pub then_by : {A B : Type 0} (f : A → B) {xs ys all : List Form} {a a' : A} {b' it : B}
    {old mid new : List Form} → Gives xs a old mid a' → Gives ys (f a') mid new b' → all ≡ xs ++ ys
    → it ≡ f a → Gives all it old new b'
then_by f {xs = xs} {ys = ys} p q same is = record {
  gives = λ rest e.
      let r = p.gives (ys ++ rest) (e ∙ ap (λ zs. zs ++ rest) same ∙ append_assoc xs ys rest) in
      let s = q.gives rest r.1 in
      (s.0 ∙ ap f r.0 ∙ sym is, s.1);
}

-- of three
pub of_three : {A B C D : Type 0} (make : A → B → C → D) {xs ys zs all : List Form} {a a' : A}
    {b b' : B} {c c' : C} {it : D} {old mid next new : List Form}
    → Gives xs a old mid a' → Gives ys b mid next b' → Gives zs c next new c'
    → all ≡ xs ++ (ys ++ zs) → it ≡ make a b c → Gives all it old new (make a' b' c')
of_three {B = B} {C = C} make {ys = ys} {zs = zs} p q r same is =
    of_two (λ x (y : B × C). make x y.0 y.1) p (of_two (λ y z. (y, z)) q r refl refl) same is

-- ---- the parts of a list, one after another

-- What has been made of the first i parts of a list.
pub record Made {A B : Type 0} (v : A → Form) (f : A → B) (xs : List A) (i : ℕ)
    (old now : List Form) (made : List B) : Type 0 where
  pub so_far : (rest : List Form) → old ≡ map v xs ++ rest
      → (made ≡ map f (take i xs)) × (now ≡ map v (drop i xs) ++ rest)

pub none_yet : {A B : Type 0} (v : A → Form) (f : A → B) (xs : List A) (s : List Form)
    {made : List B} → made ≡ [] → Made v f xs 0 s s made
none_yet v f xs s none = record { so_far = λ rest e. (none, e) }

pub one_more : {A B : Type 0} (v : A → Form) (f : A → B) (xs : List A) (i : ℕ) (x : A)
    {old now new : List Form} {made all : List B} {b : B} → i < length xs → x ≡ get_or xs i x
    → Made v f xs i old now made → Gives (v x ∷ []) (f x) now new b → all ≡ made ++ b ∷ []
    → Made v f xs (i + 1) old new all
one_more v f xs i x {old = old} {now = now} {made = made} {b = b} lt is m g put = record {
  so_far = λ rest e.
      let r = m.so_far rest e in
      let next : suc i ≡ i + 1 = omega arith in
      let split : drop i xs ≡ x ∷ drop (i + 1) xs =
      drop-cons xs i x lt ∙ ap (λ z. z ∷ drop (suc i) xs) (sym is)
      ∙ ap (λ n. x ∷ drop n xs) next in
      let top : now ≡ v x ∷ (map v (drop (i + 1) xs) ++ rest) =
      r.1 ∙ ap (λ zs. map v zs ++ rest) split in
      let s = g.gives (map v (drop (i + 1) xs) ++ rest) top in
      let more : map f (take (i + 1) xs) ≡ map f (take i xs) ++ f x ∷ [] =
      ap (map f) (take_more xs i x lt ∙ ap (λ y. take i xs ++ y ∷ []) (sym is))
      ∙ map-append f (take i xs) (x ∷ []) in (
        put ∙ ap (λ ys. ys ++ b ∷ []) r.0 ∙ ap (λ z. map f (take i xs) ++ z ∷ []) s.0
            ∙ sym more,
        s.1,
      );
}

pub all_made : {A B : Type 0} (v : A → Form) (f : A → B) (xs : List A) (i : ℕ) {old now : List Form}
    {made : List B} → length xs ≤ i → Made v f xs i old now made
    → Gives (map v xs) (map f xs) old now made
all_made v f xs i {old = old} {now = now} {made = made} le m = record {
  gives = λ rest e.
      let r = m.so_far rest e in
      (r.0 ∙ ap (map f) (take_all i xs le), r.1 ∙ ap (λ zs. map v zs ++ rest) (drop_all i xs le));
}

-- a list that was begun with an item and has further ones
pub begun : {A : Type 0} {x : A} {none pushed further all : List A} → none ≡ []
    → pushed ≡ none ++ x ∷ [] → all ≡ pushed ++ further → all ≡ x ∷ further
begun {x = x} {further = further} e f g =
    g ∙ ap (λ xs. xs ++ further) (f ∙ ap (λ xs. xs ++ x ∷ []) e)
