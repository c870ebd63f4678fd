-- Values' own types, and which declaration they run.
use Rattle.std.proofs.Common.{◌≡◌, true, ◌&&◌, ◌==◌, IsTrue, List, [], ◌∷◌, map, Some, refl, ap, sym, ◌∙◌, subst}
use Rattle.std.specs.Prelude.{slice_get}
use Rattle.fort_base.specs.declared.ids.DeclId.{DeclId}
use Rattle.fort_base.specs.declared.ids.SetId.{SetId}
use Rattle.fort_base.specs.declared.ty.Ty.{Ty, Tuple, Arrow}
use Rattle.fort_core.specs.declared.program.CoreDecl.{CoreDecl}
use Rattle.fort_core.specs.declared.term.Term.{Term}
use Rattle.fort_core.specs.declared.term.Term.TheOpen.{Value-F}
use Rattle.fort_core.specs.declared.value.Closure.{Closure, fold-Closure, fold_out-Closure}
use Rattle.fort_core.specs.declared.value.Value.{Value, out-Value, fold_out-Value, map-Value}
use Rattle.fort_core.specs.declared.program.Program.{Program}
use Rattle.fort_machine.specs.Types.{below, all_below, domain_of, type_at, type_of}
use Rattle.fort_machine.specs.Parts.{values_of, bodies_of}
use Rattle.fort_machine.specs.Calls.{IsApplicable, IsMostSpecific, Dispatches}
use Rattle.fort_sound_typed.specs.Envs.{Sig, none, Part}
use Rattle.fort_sound_typed.specs.Typing.{Below, is_told, Called, FitsV, HasParts, HasV, has_v, HasVs, vs0, vs1}
use Rattle.fort_sound_typed.proofs.Shapes.{AllBelow}
use Rattle.fort_sound_typed.proofs.Facts.{Facts}
use Rattle.fort_sound_typed.proofs.Bind.{Tells, alike, apart, tells, self_same}
use Rattle.fort_sound_typed.proofs.Rules.{has_v_at, sub_v}
use Rattle.fort_sound_typed.proofs.Near.{and_true}

module _ (k : Program) (o : Facts k) where
  pub told : (As Bs : List Ty) → IsTrue (all_below k As Bs) → AllBelow k As Bs
  told [] [] e = tt
  told [] (B ∷ Bs) e = absurd cc
  told (A ∷ As) [] e = absurd cc
  told (A ∷ As) (B ∷ Bs) e =
      let i = and_true (below k A B) (all_below k As Bs) e in (is_told i.0, told As Bs i.1)

  pub absorb : (As Bs Cs : List Ty) → AllBelow k As Bs → IsTrue (all_below k Bs Cs)
      → IsTrue (all_below k As Cs)
  absorb [] [] Cs e f = f
  absorb [] (B ∷ Bs) Cs e f = absurd e
  absorb (A ∷ As) [] Cs e f = absurd e
  absorb (A ∷ As) (B ∷ Bs) [] e f = absurd cc
  absorb (A ∷ As) (B ∷ Bs) (C ∷ Cs) e f = let i = and_true (below k B C) (all_below k Bs Cs) f in
      ap (λ b. b && all_below k As Cs) (o.absorbs A B C e.0 i.0) ∙ absorb As Bs Cs e.1 i.1

  pub through : (As Bs Cs : List Ty) → AllBelow k As Bs → AllBelow k Bs Cs → AllBelow k As Cs
  through [] [] Cs e f = f
  through [] (B ∷ Bs) Cs e f = absurd e
  through (A ∷ As) [] Cs e f = absurd e
  through (A ∷ As) (B ∷ Bs) [] e f = absurd f
  through (A ∷ As) (B ∷ Bs) (C ∷ Cs) e f = (o.transitive A B C e.0 f.0, through As Bs Cs e.1 f.1)

  module _ (S : Sig) where
    pub sub_vs : {vs : List Value} (As Bs : List Ty) → HasVs k S vs As → AllBelow k As Bs
        → HasVs k S vs Bs
    sub_vs [] [] vs0 b = vs0
    sub_vs [] (B ∷ Bs) vs0 b = absurd b
    sub_vs (A ∷ As) [] (vs1 h hs) b = absurd b
    sub_vs (A ∷ As) (B ∷ Bs) (vs1 h hs) b = vs1 (sub_v k S o.transitive h b.0) (sub_vs As Bs hs b.1)

    abbrev pub of_closure : Closure → Ty
    of_closure =
        fold-Closure (Unit {0}) Ty Ty (λ t. tt) (type_at k.built_in)
        (λ c. Arrow (domain_of c.parameters) c.result)

    pub out_type : (v : Value) (y : Value-F Term Value Closure) → out-Value v ≡ y
        → type_of k v
        ≡ type_at k.built_in
        (map-Value Term Value Closure (Unit {0}) Ty Ty (λ t. tt) (type_of k) of_closure y)
    out_type v y e =
        fold_out-Value (Unit {0}) Ty Ty (λ t. tt) (type_at k.built_in)
        (λ c. Arrow (domain_of c.parameters) c.result) v
        ∙ ap (λ z. type_at k.built_in
        (map-Value Term Value Closure (Unit {0}) Ty Ty (λ t. tt) (type_of k) of_closure z)) e

    pub closure_type : (c : Closure) → of_closure c ≡ Arrow (domain_of c.parameters) c.result
    closure_type c =
        fold_out-Closure (Unit {0}) Ty Ty (λ t. tt) (type_at k.built_in)
        (λ c. Arrow (domain_of c.parameters) c.result) c

    abbrev Own : Value → Ty → Type 0
    Own v T = HasV k S v (type_of k v) × Below k (type_of k v) T

    own_is : (v : Value) (T R : Ty) (qs : List Part) (ws : List Ty) (y : Value-F Term Value Closure)
        → out-Value v ≡ y → FitsV k S y qs ws R → HasParts k S none (bodies_of y) qs
        → HasVs k S (values_of y) ws → Below k R T → R ≡ type_of k v → Own v T
    own_is v T R qs ws y e f ps hs b q = (
      subst (λ X. HasV k S v X) q
          (has_v_at k S e
          (record {
            own = R;
            qs = qs;
            ws = ws;
            fits = f;
            parts = ps;
            values = hs;
            below = o.reflexive R;
          })),
      subst (λ X. Below k X T) q b,
    )

    own_at : (v : Value) (T R : Ty) (qs : List Part) (ws : List Ty) (y : Value-F Term Value Closure)
        → out-Value v ≡ y → FitsV k S y qs ws R → HasParts k S none (bodies_of y) qs
        → HasVs k S (values_of y) ws → Below k R T
        → HasVs k S (values_of y) (map (type_of k) (values_of y))
        × AllBelow k (map (type_of k) (values_of y)) ws → Own v T
    own_at v T R qs ws (Value-F.Tuple vs) e f ps hs b i =
        let q = out_type v (Value-F.Tuple vs) e in (
          subst (λ X. HasV k S v X) (sym q)
              (has_v_at k S e
              (record {
                own = Tuple (map (type_of k) vs);
                qs = qs;
                ws = map (type_of k) vs;
                fits = refl;
                parts = ps;
                values = i.0;
                below = o.reflexive _;
              })),
          subst (λ X. Below k X T) (sym q)
              (o.transitive _ R T
              (subst (λ X. Below k (Tuple (map (type_of k) vs)) X) (sym f)
              (o.tuples (map (type_of k) vs) ws i.1)) b),
        )
    own_at v T R qs ws (Value-F.Small n) e f ps hs b i =
        own_is v T R qs ws (Value-F.Small n) e f ps hs b (sym (out_type v _ e ∙ sym f.0))
    own_at v T R qs ws (Value-F.Large n) e f ps hs b i =
        own_is v T R qs ws (Value-F.Large n) e f ps hs b (sym (out_type v _ e ∙ sym f.0))
    own_at v T R qs ws (Value-F.Truth n) e f ps hs b i =
        own_is v T R qs ws (Value-F.Truth n) e f ps hs b (sym (out_type v _ e ∙ sym f))
    own_at v T R qs ws (Value-F.Text n) e f ps hs b i =
        own_is v T R qs ws (Value-F.Text n) e f ps hs b (sym (out_type v _ e ∙ sym f))
    own_at v T R qs ws (Value-F.Range n m) e f ps hs b i =
        own_is v T R qs ws (Value-F.Range n m) e f ps hs b (sym (out_type v _ e ∙ sym f.0))
    own_at v T R qs ws (Value-F.Object id base) e f ps hs b i =
        own_is v T R qs ws (Value-F.Object id base) e f ps hs b (sym (out_type v _ e ∙ sym f.1))
    own_at v T R qs ws (Value-F.Array t base n) e f ps hs b i =
        own_is v T R qs ws (Value-F.Array t base n) e f ps hs b (sym (out_type v _ e ∙ sym f.1))
    own_at v T R qs ws (Value-F.Function c) e f ps hs b i =
        own_is v T R qs ws (Value-F.Function c) e f ps hs b
        (sym (out_type v _ e ∙ closure_type c ∙ sym f.2))

    mutual
      -- a value's own type is below each of its types
      pub own_has : {v : Value} {T : Ty} → HasV k S v T → Own v T
      own_has {v} {T} (has_v R qs ws f ps vs b) =
          own_at v T R qs ws (out-Value v) refl f ps vs b (owns_have vs)

      pub owns_have : {vs : List Value} {As : List Ty} → HasVs k S vs As
          → HasVs k S vs (map (type_of k) vs) × AllBelow k (map (type_of k) vs) As
      owns_have vs0 = (vs0, tt)
      owns_have (vs1 h hs) = let i = own_has h in let j = owns_have hs in (vs1 i.0 j.0, (i.1, j.1))

    -- the declaration that values run, where a call of terms with types has a result
    pub picked : {set : SetId} {vs : List Value} {d : DeclId} {decl : CoreDecl} (As : List Ty)
        (R : Ty) → Called k set As R → HasVs k S vs As → Dispatches k set vs d decl
        → HasVs k S vs decl.parameters × Below k decl.result R × (slice_get k.decls d.0 ≡ Some decl)
    picked {set} {vs} {d} {decl} As R c h w =
        let i = owns_have h in
        let m = w.most_specific in
        let a : IsApplicable k set (map (type_of k) vs) c.0 c.1 = record {
          members = c.2.members;
          is_set = c.2.is_set;
          is_member = c.2.is_member;
          is_decl = c.2.is_decl;
          applies = absorb (map (type_of k) vs) As c.1.parameters i.1 c.2.applies;
        } in (
          sub_vs (map (type_of k) vs) decl.parameters i.0
              (told (map (type_of k) vs) decl.parameters m.applicable.applies),
          subst (λ X. Below k decl.result X) (sym c.3) (same (tells c.0.0 d.0) a m),
          m.applicable.is_decl,
        )
      where
        same : Tells c.0.0 d.0 → IsApplicable k set (map (type_of k) vs) c.0 c.1
            → IsMostSpecific k set (map (type_of k) vs) d decl → Below k decl.result c.1.result
        same (alike q b) a m =
            let z : Some c.1 ≡ Some decl =
            sym c.2.is_decl ∙ ap (slice_get k.decls) q ∙ m.applicable.is_decl in
            let y : c.1 ≡ decl = cc
            in subst (λ
            (X : CoreDecl). Below k decl.result X.result) (sym y) (o.reflexive decl.result)
        same (apart b e) a m =
            o.results set (map (type_of k) vs) (map (type_of k) vs) d c.0 decl c.1 m.applicable a
            (m.over_others c.0 c.1 a (λ q. let z : (c.0.0 == d.0) ≡ true =
            ap (λ (x : DeclId). c.0.0 == x.0) (sym q) ∙ self_same c.0.0 in absurd cc))
