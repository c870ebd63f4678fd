-- Which declaration a call of the worked program runs.
use Rattle.std.proofs.Common.{◌≡◌, ℕ, zero, suc, ◌==◌, Bool, true, false, if◌then◌else◌, List, [], ◌∷◌, map, ℤ, refl, ap, sym, ◌∙◌, subst, inl, inr, arith, rules}
use Rattle.std.specs.Prelude.{Contains, slice_get, unwrap_or, Some}
use Rattle.fort_base.specs.declared.ids.DeclId.{DeclId}
use Rattle.fort_base.specs.declared.ids.Loc.{Loc}
use Rattle.fort_base.specs.declared.ids.TypeId.{TypeId}
use Rattle.fort_base.specs.declared.ty.Ty.{Ty, Arrow}
use Rattle.fort_base.specs.declared.ty.Ty.TheVariants.{Named}
use Rattle.fort_core.specs.declared.program.CoreDecl.{CoreDecl}
use Rattle.fort_core.specs.declared.program.CoreSet.{CoreSet}
use Rattle.fort_core.specs.declared.term.Term.TheOpen.{Value-F}
use Rattle.fort_core.specs.declared.value.Value.{Value, Small, Object, fold-roll-Value}
use Rattle.fort_core.specs.declared.value.Value.TheVariants.{rolls-Small, rolls-Object}
use Rattle.fort_machine.specs.Calls.{IsApplicable, IsMoreSpecific, Dispatches}
use Rattle.fort_machine.specs.Parts.{IsOneOf}
use Rattle.fort_machine.specs.Types.{all_below, domain_of, type_at, type_of}
use Rattle.fort_machine.specs.Worked.{set, decl}
use Rattle.fort_threads_law_worked.specs.Builtin.{sets}
use Rattle.fort_threads_law_worked.specs.Bodies.{decls}
use Rattle.fort_threads_law_worked.specs.Worked.{worked}
use Rattle.fort_threads_law_worked.proofs.Codes.{Code, any, nothing, named, to, ty_of, tys_of, are_below, all_are}

-- what the declarations take and give
abbrev pub signatures : List (List Code × Code)
signatures =
    (named 2 ∷ named 2 ∷ [], named 2)
    ∷ (named 3 ∷ named 3 ∷ [], named 3)
    ∷ (named 2 ∷ named 2 ∷ [], named 2)
    ∷ (named 3 ∷ named 3 ∷ [], named 3)
    ∷ (named 2 ∷ named 2 ∷ [], named 2)
    ∷ (named 3 ∷ named 3 ∷ [], named 3)
    ∷ (named 2 ∷ named 2 ∷ [], named 2)
    ∷ (named 3 ∷ named 3 ∷ [], named 3)
    ∷ (named 2 ∷ named 2 ∷ [], named 2)
    ∷ (named 3 ∷ named 3 ∷ [], named 3)
    ∷ (named 4 ∷ any ∷ [], named 4)
    ∷ (any ∷ named 4 ∷ [], named 4)
    ∷ (named 4 ∷ named 4 ∷ [], named 4)
    ∷ (named 2 ∷ named 2 ∷ [], named 2)
    ∷ (named 3 ∷ named 3 ∷ [], named 3)
    ∷ (named 2 ∷ named 2 ∷ [], named 2)
    ∷ (named 3 ∷ named 3 ∷ [], named 3)
    ∷ (named 2 ∷ named 2 ∷ [], named 2)
    ∷ (named 3 ∷ named 3 ∷ [], named 3)
    ∷ (named 2 ∷ named 2 ∷ [], named 2)
    ∷ (named 3 ∷ named 3 ∷ [], named 3)
    ∷ (named 2 ∷ named 2 ∷ [], named 2)
    ∷ (named 3 ∷ named 3 ∷ [], named 3)
    ∷ (named 2 ∷ named 2 ∷ [], named 2)
    ∷ (named 3 ∷ named 3 ∷ [], named 3)
    ∷ (named 2 ∷ named 2 ∷ [], named 2)
    ∷ (named 3 ∷ named 3 ∷ [], named 3)
    ∷ (named 2 ∷ named 2 ∷ [], named 2)
    ∷ (named 3 ∷ named 3 ∷ [], named 3)
    ∷ (named 2 ∷ named 2 ∷ [], named 2)
    ∷ (named 3 ∷ named 3 ∷ [], named 3)
    ∷ (named 2 ∷ named 2 ∷ [], named 2)
    ∷ (named 3 ∷ named 3 ∷ [], named 3)
    ∷ (named 2 ∷ named 2 ∷ [], named 2)
    ∷ (named 3 ∷ named 3 ∷ [], named 3)
    ∷ (named 2 ∷ named 2 ∷ [], named 2)
    ∷ (named 3 ∷ named 3 ∷ [], named 3)
    ∷ (named 2 ∷ named 2 ∷ [], named 2)
    ∷ (named 3 ∷ named 3 ∷ [], named 3)
    ∷ (named 2 ∷ [], named 2)
    ∷ (named 3 ∷ [], named 3)
    ∷ (named 2 ∷ named 2 ∷ [], named 5)
    ∷ (named 3 ∷ named 3 ∷ [], named 5)
    ∷ (named 4 ∷ named 4 ∷ [], named 5)
    ∷ (named 5 ∷ named 5 ∷ [], named 5)
    ∷ (named 2 ∷ named 2 ∷ [], named 5)
    ∷ (named 3 ∷ named 3 ∷ [], named 5)
    ∷ (named 4 ∷ named 4 ∷ [], named 5)
    ∷ (named 5 ∷ named 5 ∷ [], named 5)
    ∷ (named 2 ∷ named 2 ∷ [], named 5)
    ∷ (named 3 ∷ named 3 ∷ [], named 5)
    ∷ (named 2 ∷ named 2 ∷ [], named 5)
    ∷ (named 3 ∷ named 3 ∷ [], named 5)
    ∷ (named 2 ∷ named 2 ∷ [], named 5)
    ∷ (named 3 ∷ named 3 ∷ [], named 5)
    ∷ (named 2 ∷ named 2 ∷ [], named 5)
    ∷ (named 3 ∷ named 3 ∷ [], named 5)
    ∷ (any ∷ any ∷ [], named 5)
    ∷ (named 5 ∷ named 5 ∷ [], named 5)
    ∷ (named 5 ∷ named 5 ∷ [], named 5)
    ∷ (named 5 ∷ [], named 5)
    ∷ (named 2 ∷ named 2 ∷ [], named 6)
    ∷ (named 2 ∷ named 2 ∷ [], named 6)
    ∷ (any ∷ [], nothing)
    ∷ (any ∷ [], nothing)
    ∷ ([], nothing)
    ∷ (named 2 ∷ [], named 3)
    ∷ (named 3 ∷ [], named 2)
    ∷ (named 4 ∷ [], named 2)
    ∷ (named 18 ∷ [], nothing)
    ∷ (named 19 ∷ [], nothing)
    ∷ (named 18 ∷ [], named 5)
    ∷ (named 19 ∷ [], named 5)
    ∷ (named 18 ∷ [], any)
    ∷ (named 19 ∷ [], any)
    ∷ (to nothing any ∷ [], named 19)
    ∷ (to nothing any ∷ [], named 18)
    ∷ ([], any)
    ∷ (named 19 ∷ [], nothing)
    ∷ ([], nothing)
    ∷ (to nothing nothing ∷ [], nothing)
    ∷ ([], nothing)
    ∷ ([], nothing)
    ∷ []

-- elements at one place of lists that are the same to two functions
pub agree : {A B C : Type 0} (f : A → C) (g : B → C) (xs : List A) (ys : List B)
    → map f xs ≡ map g ys → (n : ℕ) (x : A) → slice_get xs n ≡ Some x
    → (y : B) × (slice_get ys n ≡ Some y) × (f x ≡ g y)
agree f g [] ys h n x e = absurd cc
agree f g (z ∷ xs) [] h n x e = absurd cc
agree f g (z ∷ xs) (y ∷ ys) h zero x e =
    let q : z ≡ x = cc in let r : f z ≡ g y = cc in (y, refl, ap f (sym q) ∙ r)
agree f g (z ∷ xs) (y ∷ ys) h (suc n) x e =
    let r : map f xs ≡ map g ys = cc in agree f g xs ys r n x e

abbrev typed_decl : CoreDecl → List Ty × Ty
typed_decl d = (d.parameters, d.result)

abbrev typed_signature : List Code × Code → List Ty × Ty
typed_signature s = (tys_of s.0, ty_of s.1)

tables_agree : map typed_decl decls ≡ map typed_signature signatures
tables_agree = refl

abbrev pub signature : ℕ → List Code × Code
signature n = unwrap_or (slice_get signatures n) ([], nothing)

abbrev pub takes : ℕ → List Code
takes n = (signature n).0

abbrev pub gives : ℕ → Code
gives n = (signature n).1

pub typed_as : (n : ℕ) (d : CoreDecl) → slice_get decls n ≡ Some d
    → (d.parameters ≡ tys_of (takes n)) × (d.result ≡ ty_of (gives n))
typed_as n d e =
    let a = agree typed_decl typed_signature decls signatures tables_agree n d e in
    let s : a.0 ≡ signature n = ap (λ o. unwrap_or o ([], nothing)) (sym a.1) in (
      ap (λ (z : List Ty × Ty). z.0) a.2 ∙ ap (λ (z : List Code × Code). tys_of z.0) s,
      ap (λ (z : List Ty × Ty). z.1) a.2 ∙ ap (λ (z : List Code × Code). ty_of z.1) s,
    )

-- members of a set
pub member : {A : Type 0} (xs : List A) (y : A) → Contains xs y → IsOneOf y xs
member [] y (n, l, q) = absurd (omega (arith, l))
member (x ∷ xs) y (zero, l, q) = inl (sym q)
member (x ∷ xs) y (suc n, l, q) = inr (member xs y (n, omega (arith, l), q))

pub some_is : {A : Type 0} (x y : A) → Some x ≡ Some y → x ≡ y
some_is x y e = cc

abbrev pub fitting : List Code → List DeclId → List DeclId
fitting cs [] = []
fitting cs (d ∷ ds) = if are_below cs (takes d.0) then d ∷ fitting cs ds else fitting cs ds

in_fitting : (cs : List Code) (ds : List DeclId) (c : DeclId) → IsOneOf c ds
    → are_below cs (takes c.0) ≡ true → IsOneOf c (fitting cs ds)
in_fitting cs [] c i h = absurd i
in_fitting cs (d ∷ ds) c (inl e) h =
    subst (λ b. IsOneOf c (if b then d ∷ fitting cs ds else fitting cs ds))
    (sym (ap (λ (x : DeclId). are_below cs (takes x.0)) (sym e) ∙ h)) (inl e)
in_fitting cs (d ∷ ds) c (inr i) h = go (are_below cs (takes d.0)) (in_fitting cs ds c i h)
  where
    go : (b : Bool) → IsOneOf c (fitting cs ds)
        → IsOneOf c (if b then d ∷ fitting cs ds else fitting cs ds)
    go true r = inr r
    go false r = r

-- what a call of values of such types has
module _ (n : ℕ) (ds : List DeclId) (is : slice_get sets n ≡ Some (record { decls = ds }))
    (cs : List Code) where
  applies_to : (ts : List Ty) → ts ≡ tys_of cs → (c : DeclId) (d : CoreDecl)
      → IsApplicable worked (set n) ts c d → IsOneOf c ds × (are_below cs (takes c.0) ≡ true)
  applies_to ts e c d i =
      let q = some_is (record { decls = ds }) i.members (sym is ∙ i.is_set) in (
        subst (IsOneOf c) (ap (λ (m : CoreSet). m.decls) (sym q))
            (member i.members.decls c i.is_member),
        sym (all_are cs (takes c.0)) ∙ ap (λ us. all_below worked us (tys_of (takes c.0))) (sym e)
            ∙ ap (λ us. all_below worked ts us) (sym (typed_as c.0 d i.is_decl).0) ∙ i.applies,
      )

  -- the one that fits
  pub only : (k : ℕ) (x : CoreDecl) (values : List Value) → map (type_of worked) values ≡ tys_of cs
      → fitting cs ds ≡ decl k ∷ [] → slice_get decls k ≡ Some x → (c : DeclId) (d : CoreDecl)
      → Dispatches worked (set n) values c d → (c ≡ decl k) × (d ≡ x)
  only k x values e f w c d r =
      let i = r.most_specific.applicable in
      let a = applies_to (map (type_of worked) values) e c d i in
      let q : c ≡ decl k = first (subst (IsOneOf c) f (in_fitting cs ds c a.0 a.1)) in (
        q,
        some_is d x (sym i.is_decl ∙ ap (λ (z : DeclId). slice_get decls z.0) q ∙ w),
      )
    where
      first : IsOneOf c (decl k ∷ []) → c ≡ decl k
      first (inl e) = e
      first (inr i) = absurd i

-- the one of its set
pub alone : (n k : ℕ) (x : CoreDecl) → slice_get sets n ≡ Some (record { decls = decl k ∷ [] })
    → slice_get decls k ≡ Some x → (values : List Value) (c : DeclId) (d : CoreDecl)
    → Dispatches worked (set n) values c d → (c ≡ decl k) × (d ≡ x)
alone n k x is w values c d r =
    let i = r.most_specific.applicable in
    let q = some_is (record { decls = decl k ∷ [] }) i.members (sym is ∙ i.is_set) in
    let e : c ≡ decl k =
    first (subst (IsOneOf c) (ap (λ (m : CoreSet). m.decls) (sym q))
    (member i.members.decls c i.is_member)) in (
      e,
      some_is d x (sym i.is_decl ∙ ap (λ (z : DeclId). slice_get decls z.0) e ∙ w),
    )
  where
    first : IsOneOf c (decl k ∷ []) → c ≡ decl k
    first (inl e) = e
    first (inr i) = absurd i

-- of two declarations the second, where the first isn't more specific
pub second : (n a b : ℕ) (x : CoreDecl) (cs : List Code) (values : List Value)
    → slice_get sets n ≡ Some (record { decls = decl a ∷ decl b ∷ [] })
    → map (type_of worked) values ≡ tys_of cs
    → slice_get decls b ≡ Some x → are_below cs (takes b) ≡ true
    → are_below (takes a) (takes b) ≡ false → (b == a) ≡ false → (c : DeclId) (d : CoreDecl)
    → Dispatches worked (set n) values c d → (c ≡ decl b) × (d ≡ x)
second n a b x cs values is e w fits worse differ c d r =
    let i = r.most_specific.applicable in
    let q : c ≡ decl b =
    go (applies_to n (decl a ∷ decl b ∷ []) is cs (map (type_of worked) values) e c d i).0 in (
      q,
      some_is d x (sym i.is_decl ∙ ap (λ (z : DeclId). slice_get decls z.0) q ∙ w),
    )
  where
    other : IsApplicable worked (set n) (map (type_of worked) values) (decl b) x
    other = record {
      members = record { decls = decl a ∷ decl b ∷ [] };
      is_set = is;
      is_member = (1, omega arith, refl);
      is_decl = w;
      applies =
          ap (λ us. all_below worked (map (type_of worked) values) us) (typed_as b x w).0
          ∙ ap (λ us. all_below worked us (tys_of (takes b))) e ∙ all_are cs (takes b) ∙ fits;
    }

    not_same : (b == a) ≡ false → decl b ≡ decl a → ⊥
    not_same h q =
        let z : (a == a) ≡ false = ap (λ (y : DeclId). y.0 == a) (sym q) ∙ h in
        let w : true ≡ false = sym (same a) ∙ z in cc
      where
        same : (m : ℕ) → (m == m) ≡ true
        same m = search rules

    no_first : c ≡ decl a → ⊥
    no_first q =
        let k : IsMoreSpecific worked d x =
        r.most_specific.over_others (decl b) x other (λ z. not_same differ (z ∙ q)) in
        let i = r.most_specific.applicable in
        let z : are_below (takes a) (takes b) ≡ true =
        sym (all_are (takes a) (takes b))
        ∙ ap (λ us. all_below worked (tys_of (takes a)) us) (sym (typed_as b x w).0)
        ∙ ap (λ us. all_below worked us x.parameters)
        (ap (λ (y : DeclId). tys_of (takes y.0)) (sym q) ∙ sym (typed_as c.0 d i.is_decl).0) ∙ k in
        let y : false ≡ true = sym worse ∙ z in cc

    go : IsOneOf c (decl a ∷ decl b ∷ []) → c ≡ decl b
    go (inl e) = absurd (no_first e)
    go (inr (inl e)) = e
    go (inr (inr e)) = absurd e

-- types of values
pub small_is : (n : ℤ) → type_of worked (Small n) ≡ ty_of (named 2)
small_is n = ap (type_of worked) (sym (rolls-Small n))
    ∙ fold-roll-Value (Unit {0}) Ty Ty (λ t. tt) (type_at worked.built_in)
    (λ c. Arrow (domain_of c.parameters) c.result) (Value-F.Small n)

pub object_is : (id : TypeId) (base : Loc) → type_of worked (Object id base) ≡ Named id
object_is id base = ap (type_of worked) (sym (rolls-Object id base))
    ∙ fold-roll-Value (Unit {0}) Ty Ty (λ t. tt) (type_at worked.built_in)
    (λ c. Arrow (domain_of c.parameters) c.result) (Value-F.Object id base)
