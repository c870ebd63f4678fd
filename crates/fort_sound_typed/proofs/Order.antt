-- What of the order of types is met by every program, or follows from what the rows compute.
use Rattle.std.proofs.Common.{◌≡◌, true, false, map, inl, inr, ◌&&◌, List, [], ◌∷◌, IsTrue, length, None, arith, refl, ap, sym, ◌∙◌, subst}
use Rattle.fort_base.specs.declared.ty.Ty.{Ty, Tuple, out-Ty, roll-Ty, roll-out-Ty, fold_out-Ty, map-Ty}
use Rattle.fort_base.specs.declared.ty.Ty.TheVariants.{Named, outs-Named, outs-Tuple, rolls-Tuple}
use Rattle.std.specs.Prelude.{slice_get, unwrap_or, option_and_then}
use Rattle.std.proofs.lemmas.Option.{slice_get_past}
use Rattle.fort_base.specs.declared.ids.TypeId.{TypeId}
use Rattle.fort_base.specs.declared.ty.Ty.TheOpen.{Ty-F}
use Rattle.fort_core.specs.declared.program.Program.{Program}
use Rattle.fort_types.specs.Table.{is_set}
use Rattle.fort_machine.specs.Types.{below, all_below}
use Rattle.fort_types.specs.Relation.{Relation, each_below, below_at, relation}
use Rattle.fort_sound_typed.specs.Typing.{Below, is_same, is_told, is_rows, EachBelow, each0, each1}
use Rattle.fort_sound_typed.specs.Sound.{Under}
use Rattle.fort_sound_typed.proofs.Shapes.{AllBelow, Shape}
use Rattle.fort_sound_typed.proofs.Near.{and_true}
use Rattle.fort_sound_typed.proofs.Computed.{rel, told, told_out, round}

pub itself : (k : Program) (A : Ty) → Below k A A
itself k A = is_same refl

each : (k : Program) (As Bs : List Ty) → AllBelow k As Bs → EachBelow k As Bs
each k [] [] e = each0
each k [] (B ∷ Bs) e = absurd e
each k (A ∷ As) [] e = absurd e
each k (A ∷ As) (B ∷ Bs) e = each1 e.0 (each k As Bs e.1)

pub tuples : (k : Program) (As Bs : List Ty) → AllBelow k As Bs → Below k (Tuple As) (Tuple Bs)
tuples k As Bs e = is_rows refl refl (each k As Bs e)

-- what the rows compute goes through a third type
abbrev pub Through : Program → Type 0
Through k = (A B C : Ty) → IsTrue (below k A B) → IsTrue (below k B C) → IsTrue (below k A C)

module _ (k : Program) (through : Through k) where
  abbrev relates : Ty → Relation
  relates = relation k.types.below

  out_rel : (A : Ty) (a : Ty-F Ty) → out-Ty A ≡ a → (C : Ty) (c : Ty-F Ty) → out-Ty C ≡ c
      → below k A C ≡ below_at k.types.below (map-Ty Ty Relation relates a) true c
  out_rel A a e C c q =
      ap (λ (f : Relation). f true C)
      (fold_out-Ty Relation (λ layer up b. below_at k.types.below layer up (out-Ty b)) A)
      ∙ ap (λ z. below_at k.types.below (map-Ty Ty Relation relates z) true (out-Ty C)) e
      ∙ ap (λ z. below_at k.types.below (map-Ty Ty Relation relates a) true z) q

  mutual
    -- a call asks what the rows compute
    pub absorbs : {A B : Ty} (C : Ty) → Below k A B → IsTrue (below k B C) → IsTrue (below k A C)
    absorbs C (is_same e) h = ap (λ X. below k X C) e ∙ h
    absorbs {A} {B} C (is_told x) h = through A B C x h
    absorbs {A} {B} C (is_rows {As = As} {Bs = Bs} e q r) h =
        go (out-Ty C) refl (λ Cs i. absorb_each Cs r i)
      where
        a : out-Ty A ≡ Ty-F.Tuple As
        a = ap out-Ty e ∙ outs-Tuple As

        b : out-Ty B ≡ Ty-F.Tuple Bs
        b = ap out-Ty q ∙ outs-Tuple Bs

        go : (c : Ty-F Ty) → out-Ty C ≡ c
            → ((Cs : List Ty) → all_below k Bs Cs ≡ true → all_below k As Cs ≡ true)
            → below k A C ≡ true
        go Ty-F.Any s f = out_rel A _ a C _ s
        go (Ty-F.Tuple Cs) s f = out_rel A _ a C _ s ∙ f Cs (sym (out_rel B _ b C _ s) ∙ h)
        go Ty-F.Nothing s f = let z : false ≡ true = sym (out_rel B _ b C _ s) ∙ h in absurd cc
        go (Ty-F.Named j) s f = let z : false ≡ true = sym (out_rel B _ b C _ s) ∙ h in absurd cc
        go (Ty-F.Arrow x y) s f = let z : false ≡ true = sym (out_rel B _ b C _ s) ∙ h in absurd cc
        go (Ty-F.Array x) s f = let z : false ≡ true = sym (out_rel B _ b C _ s) ∙ h in absurd cc

    absorb_each : {As Bs : List Ty} (Cs : List Ty) → EachBelow k As Bs → all_below k Bs Cs ≡ true
        → all_below k As Cs ≡ true
    absorb_each Cs each0 i = i
    absorb_each [] (each1 r rs) i = absurd cc
    absorb_each (C ∷ Cs) (each1 {A = A} {B = B} {As = As} {Bs = Bs} r rs) i =
        let j = and_true (below k B C) (all_below k Bs Cs) i in
        ap (λ b. b && all_below k As Cs) (absorbs C r j.0) ∙ absorb_each Cs rs j.1

  tuple_is : (A : Ty) (As : List Ty) → out-Ty A ≡ Ty-F.Tuple As → A ≡ Tuple As
  tuple_is A As e = sym (roll-out-Ty A) ∙ ap roll-Ty e ∙ rolls-Tuple As

  mutual
    -- and so does the order of typing
    pub transitive : {A B C : Ty} → Below k A B → Below k B C → Below k A C
    transitive {A} x (is_same e) = subst (λ X. Below k A X) e x
    transitive {C = C} x (is_told y) = is_told (absorbs C x y)
    transitive {C = C} (is_same e) (is_rows {As = Bs} {Bs = Cs} p q r) = is_rows (e ∙ p) q r
    transitive {A} {B} {C} (is_told x) (is_rows {As = Bs} {Bs = Cs} p q r) =
        go (out-Ty A) refl (λ As i. told_each As i r)
      where
        b : out-Ty B ≡ Ty-F.Tuple Bs
        b = ap out-Ty p ∙ outs-Tuple Bs

        go : (a : Ty-F Ty) → out-Ty A ≡ a
            → ((As : List Ty) → all_below k As Bs ≡ true → EachBelow k As Cs) → Below k A C
        go Ty-F.Nothing s f = is_told (out_rel A _ s C _ refl)
        go (Ty-F.Tuple As) s f = is_rows (tuple_is A As s) q (f As (sym (out_rel A _ s B _ b) ∙ x))
        go Ty-F.Any s f = let z : false ≡ true = sym (out_rel A _ s B _ b) ∙ x in absurd cc
        go (Ty-F.Named j) s f = let z : false ≡ true = sym (out_rel A _ s B _ b) ∙ x in absurd cc
        go (Ty-F.Arrow y w) s f = let z : false ≡ true = sym (out_rel A _ s B _ b) ∙ x in absurd cc
        go (Ty-F.Array y) s f = let z : false ≡ true = sym (out_rel A _ s B _ b) ∙ x in absurd cc
    transitive {A} {B} {C} (is_rows {As = As} {Bs = Bs} e p r)
        (is_rows {As = Bs'} {Bs = Cs} p' q r') =
        let z : Ty-F.Tuple Bs ≡ Ty-F.Tuple Bs' =
        sym (outs-Tuple Bs) ∙ ap out-Ty (sym p ∙ p') ∙ outs-Tuple Bs' in
        let y : Bs ≡ Bs' = cc in
        is_rows e q (chain_each (subst (λ X. EachBelow k As X) y r) r')

    told_each : {Bs Cs : List Ty} (As : List Ty) → all_below k As Bs ≡ true → EachBelow k Bs Cs
        → EachBelow k As Cs
    told_each [] i each0 = each0
    told_each (A ∷ As) i each0 = absurd cc
    told_each [] i (each1 r rs) = absurd cc
    told_each (A ∷ As) i (each1 {A = B} {As = Bs} r rs) =
        let j = and_true (below k A B) (all_below k As Bs) i
        in each1 (transitive (is_told j.0) r) (told_each As j.1 rs)

    chain_each : {As Bs Cs : List Ty} → EachBelow k As Bs → EachBelow k Bs Cs → EachBelow k As Cs
    chain_each x each0 = x
    chain_each (each1 x xs) (each1 r rs) = each1 (transitive x r) (chain_each xs rs)

-- no program's computed order has every type below itself: past its rows it has none
pub not_itself : (p : Program) → ((A : Ty) → IsTrue (below p A A)) → ⊥
not_itself p f =
    let id : TypeId = record { 0 = length p.types.below } in
    let e : below p (Named id) (Named id)
    ≡ is_set p.types.below (length p.types.below) (length p.types.below) =
    ap (λ (g : Relation). g true (Named id))
    (fold_out-Ty Relation (λ layer up b. below_at p.types.below layer up (out-Ty b)) (Named id))
    ∙ ap (λ z. below_at p.types.below (map-Ty Ty Relation (relation p.types.below) z) true
    (out-Ty (Named id))) (outs-Named id)
    ∙ ap (λ z. below_at p.types.below (map-Ty Ty Relation (relation p.types.below) (Ty-F.Named id))
    true z) (outs-Named id) in
    let n : slice_get p.types.below (length p.types.below) ≡ None =
    slice_get_past p.types.below (length p.types.below) (omega arith) in
    let z : false ≡ true =
    sym (ap (λ o. unwrap_or (option_and_then (λ row. slice_get row (length p.types.below)) o)
    false) n) ∙ sym e ∙ f (Named id) in absurd cc

-- declared types
under_told : (k : Program) (i j : TypeId) → IsTrue (below k (Named i) (Named j))
    → IsTrue (is_set k.types.below i.0 j.0)
under_told k i j h =
    sym (told_out k.types.below (Named i) (Named j) true
    ∙ ap (λ z. told k.types.below z true (out-Ty (Named j))) (outs-Named i)
    ∙ ap (λ z. told k.types.below (Ty-F.Named i) true z) (outs-Named j)) ∙ h

pub under_of : (k : Program) {i j : TypeId} → Below k (Named i) (Named j) → Under k i j
under_of k {i} {j} (is_same e) =
    let z : Ty-F.Named i ≡ Ty-F.Named j = sym (outs-Named i) ∙ ap out-Ty e ∙ outs-Named j
    in let y : i ≡ j = cc in inl y
under_of k {i} {j} (is_told h) = inr (under_told k i j h)
under_of k {i} {j} (is_rows {As = As} e q r) =
    let z : Ty-F.Named i ≡ Ty-F.Tuple As = sym (outs-Named i) ∙ ap out-Ty e ∙ outs-Tuple As
    in absurd cc

-- what stands below what, one level deep
all_itself : (k : Program) (As : List Ty) → AllBelow k As As
all_itself k [] = tt
all_itself k (A ∷ As) = (is_same refl, all_itself k As)

shape_itself : (k : Program) (y : Ty-F Ty) → Shape k y y
shape_itself k Ty-F.Nothing = tt
shape_itself k Ty-F.Any = tt
shape_itself k (Ty-F.Named i) = tt
shape_itself k (Ty-F.Tuple As) = all_itself k As
shape_itself k (Ty-F.Arrow A B) = (is_same refl, is_same refl)
shape_itself k (Ty-F.Array A) = (is_same refl, is_same refl)

all_told : (k : Program) (As Bs : List Ty) → each_below (map (rel k.types.below) As) true Bs ≡ true
    → AllBelow k As Bs
all_told k [] [] e = tt
all_told k [] (B ∷ Bs) e = absurd cc
all_told k (A ∷ As) [] e = absurd cc
all_told k (A ∷ As) (B ∷ Bs) e =
    let i = and_true (below k A B) (each_below (map (rel k.types.below) As) true Bs) e
    in (is_told i.0, all_told k As Bs i.1)

all_rows : (k : Program) {As Bs : List Ty} → EachBelow k As Bs → AllBelow k As Bs
all_rows k each0 = tt
all_rows k (each1 h hs) = (h, all_rows k hs)

told_shape : (k : Program) (x y : Ty-F Ty) → told k.types.below x true y ≡ true → Shape k x y
told_shape k (Ty-F.Tuple As) (Ty-F.Tuple Bs) h = all_told k As Bs h
told_shape k (Ty-F.Arrow A B) (Ty-F.Arrow C D) h =
    let i = and_true (rel k.types.below A false C) (rel k.types.below B true D) h
    in (is_told (round k.types.below A C i.0), is_told i.1)
told_shape k (Ty-F.Array A) (Ty-F.Array B) h =
    let i = and_true (rel k.types.below A true B) (rel k.types.below A false B) h
    in (is_told i.0, is_told (round k.types.below A B i.1))
told_shape k Ty-F.Nothing Ty-F.Nothing h = tt
told_shape k Ty-F.Nothing Ty-F.Any h = tt
told_shape k Ty-F.Nothing (Ty-F.Named j) h = tt
told_shape k Ty-F.Nothing (Ty-F.Tuple Bs) h = tt
told_shape k Ty-F.Nothing (Ty-F.Arrow C D) h = tt
told_shape k Ty-F.Nothing (Ty-F.Array C) h = tt
told_shape k Ty-F.Any Ty-F.Nothing h = absurd cc
told_shape k Ty-F.Any Ty-F.Any h = tt
told_shape k Ty-F.Any (Ty-F.Named j) h = absurd cc
told_shape k Ty-F.Any (Ty-F.Tuple Bs) h = absurd cc
told_shape k Ty-F.Any (Ty-F.Arrow C D) h = absurd cc
told_shape k Ty-F.Any (Ty-F.Array C) h = absurd cc
told_shape k (Ty-F.Named i) Ty-F.Nothing h = absurd cc
told_shape k (Ty-F.Named i) Ty-F.Any h = tt
told_shape k (Ty-F.Named i) (Ty-F.Named j) h = tt
told_shape k (Ty-F.Named i) (Ty-F.Tuple Bs) h = absurd cc
told_shape k (Ty-F.Named i) (Ty-F.Arrow C D) h = absurd cc
told_shape k (Ty-F.Named i) (Ty-F.Array C) h = absurd cc
told_shape k (Ty-F.Tuple As) Ty-F.Nothing h = absurd cc
told_shape k (Ty-F.Tuple As) Ty-F.Any h = tt
told_shape k (Ty-F.Tuple As) (Ty-F.Named j) h = absurd cc
told_shape k (Ty-F.Tuple As) (Ty-F.Arrow C D) h = absurd cc
told_shape k (Ty-F.Tuple As) (Ty-F.Array C) h = absurd cc
told_shape k (Ty-F.Arrow A B) Ty-F.Nothing h = absurd cc
told_shape k (Ty-F.Arrow A B) Ty-F.Any h = tt
told_shape k (Ty-F.Arrow A B) (Ty-F.Named j) h = absurd cc
told_shape k (Ty-F.Arrow A B) (Ty-F.Tuple Bs) h = absurd cc
told_shape k (Ty-F.Arrow A B) (Ty-F.Array C) h = absurd cc
told_shape k (Ty-F.Array A) Ty-F.Nothing h = absurd cc
told_shape k (Ty-F.Array A) Ty-F.Any h = tt
told_shape k (Ty-F.Array A) (Ty-F.Named j) h = absurd cc
told_shape k (Ty-F.Array A) (Ty-F.Tuple Bs) h = absurd cc
told_shape k (Ty-F.Array A) (Ty-F.Arrow C D) h = absurd cc

pub shape : (k : Program) (A B : Ty) → Below k A B → Shape k (out-Ty A) (out-Ty B)
shape k A B (is_same e) = subst (λ X. Shape k (out-Ty A) (out-Ty X)) e (shape_itself k (out-Ty A))
shape k A B (is_told h) =
    told_shape k (out-Ty A) (out-Ty B) (sym (told_out k.types.below A B true) ∙ h)
shape k A B (is_rows {As = As} {Bs = Bs} e q r) =
    subst (λ z. Shape k z (out-Ty B)) (sym (ap out-Ty e ∙ outs-Tuple As))
    (subst (λ z. Shape k (Ty-F.Tuple As) z) (sym (ap out-Ty q ∙ outs-Tuple Bs)) (all_rows k r))
