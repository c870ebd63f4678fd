-- What is put together of the fields of one trait.
use Rattle.std.proofs.Common.{◌≡◌, ◌+◌, ◌≤◌, ◌⊎◌, ◌↔◌, inl, inr, ℕ, Bool, true, false, IsTrue, List, [], ◌∷◌, ◌++◌, length, take, Some, None, nat_eq, refl, sym, ap, ◌∙◌, subst, append_assoc}
use Rattle.std.specs.List.{slice_get, Contains, flat_map}
use Rattle.std.proofs.lemmas.List.{append-nil, take_all}
use Rattle.std.proofs.lemmas.Option.{slice_get_past}
use Rattle.std.proofs.lemmas.Grind.{flat_map-append}
use Rattle.std.proofs.lemmas.List.Elements.{Contains-push, Contains-push_cases, Contains-append_left}
use Rattle.fort_base.specs.declared.ids.NameId.{NameId}
use Rattle.indexmap.specs.IndexMap.{get}
use Rattle.fort_types_sets.specs.declared.field.Field.{Field}
use Rattle.fort_member_fields.specs.declared.gathering.Gathering.{Gathering}
use Rattle.fort_member_fields.specs.Walks.{SomeIn, HasFieldNamed, IsLike, LikeAt, KnowsNames, Gathers, begins, passes, adds, fields_of}
use Rattle.fort_member_fields.proofs.Items.{of_get, in_none, get_left, get_end, get_cases, taken_more}

-- the fields that a trait declares, and no further ones
pub gathers_own : (own : List Field) → Gathers own [] own
gathers_own own = record {
  first = ([], sym (append-nil own), λ f w. absurd (in_none f w));
  from = λ f w. inl w;
  all = λ f w n. absurd (in_none f w);
  differ = λ i j f g p q l n. absurd (n (i, f, p, refl));
  order = begins refl refl;
}

-- a further field of a name that is declared
pub gathers_declared : (own further fs : List Field) (x : Field) → HasFieldNamed own x.name
    → Gathers own further fs → Gathers own (further ++ x ∷ []) fs
gathers_declared own further fs x d g = record {
  first = g.first;
  from = λ f w. elim (g.from f w) as (λ _. Contains own f
      ⊎ (Contains (further ++ x ∷ []) f × (HasFieldNamed own f.name → ⊥))) [
        | inl o ↦ inl o
        | inr v ↦ inr (Contains-append_left further (x ∷ []) f v.0, v.1)
      ];
  all = λ f w n. elim (Contains-push_cases further x f w) as (λ _. SomeIn (IsLike f) fs) [
    | inl v ↦ g.all f v n
    | inr e ↦ absurd (n (subst (λ (z : Field). HasFieldNamed own z.name) e d))
  ];
  differ = g.differ;
  order = passes x refl (inl d) g.order;
}

-- a further field that is there by name and type
pub gathers_known : (own further fs : List Field) (x : Field) → SomeIn (IsLike x) fs
    → Gathers own further fs → Gathers own (further ++ x ∷ []) fs
gathers_known own further fs x k g = record {
  first = g.first;
  from = λ f w. elim (g.from f w) as (λ _. Contains own f
      ⊎ (Contains (further ++ x ∷ []) f × (HasFieldNamed own f.name → ⊥))) [
        | inl o ↦ inl o
        | inr v ↦ inr (Contains-append_left further (x ∷ []) f v.0, v.1)
      ];
  all = λ f w n. elim (Contains-push_cases further x f w) as (λ _. SomeIn (IsLike f) fs) [
    | inl v ↦ g.all f v n
    | inr e ↦ subst (λ (z : Field). SomeIn (IsLike z) fs) e k
  ];
  differ = g.differ;
  order = passes x refl (inr k) g.order;
}

-- a further field that is put at the end
pub gathers_new : (own further fs : List Field) (x : Field) → (HasFieldNamed own x.name → ⊥)
    → (SomeIn (IsLike x) fs → ⊥) → Gathers own further fs
    → Gathers own (further ++ x ∷ []) (fs ++ x ∷ [])
gathers_new own further fs x d k g = record {
  first = (
    g.first.0 ++ x ∷ [],
    ap (λ z. z ++ x ∷ []) g.first.1 ∙ append_assoc own g.first.0 (x ∷ []),
    λ f w. elim (Contains-push_cases g.first.0 x f w) as (λ _. HasFieldNamed own f.name → ⊥) [
      | inl v ↦ g.first.2 f v
      | inr e ↦ subst (λ (z : Field). HasFieldNamed own z.name → ⊥) e d
    ],
  );
  from = λ f w. elim (Contains-push_cases fs x f w) as (λ _. Contains own f
      ⊎ (Contains (further ++ x ∷ []) f × (HasFieldNamed own f.name → ⊥))) [
        | inl v ↦
            (elim (g.from f v) as (λ _. Contains own f
            ⊎ (Contains (further ++ x ∷ []) f × (HasFieldNamed own f.name → ⊥))) [
              | inl o ↦ inl o
              | inr u ↦ inr (Contains-append_left further (x ∷ []) f u.0, u.1)
            ])
        | inr e ↦
            inr (
              subst (λ (z : Field). Contains (further ++ x ∷ []) z) e (Contains-push further x),
              subst (λ
                  (z : Field). HasFieldNamed own z.name → ⊥) e d,
            )
      ];
  all = λ f w n. elim (Contains-push_cases further x f w) as (λ _. SomeIn (IsLike f) (fs ++ x ∷ [])) [
    | inl v ↦ (let s = g.all f v n in (s.0, s.1, get_left fs (x ∷ []) s.0 s.1 s.2, s.3))
    | inr e ↦
        (length fs, x, get_end fs x, (ap (λ (z : Field). z.name) e, ap (λ (z : Field). z.ty) e))
  ];
  differ = λ i j f h p q l n. elim (get_cases fs x i f p) as (λ _. i ≡ j) [
    | inl a ↦ (elim (get_cases fs x j h q) as (λ _. i ≡ j) [
      | inl b ↦ g.differ i j f h a b l n
      | inr b ↦
          absurd (k (
            i,
            f,
            a,
            (
              sym l.0 ∙ ap (λ (z : Field). z.name) (sym b.1),
              sym l.1 ∙ ap (λ
                  (z : Field). z.ty) (sym b.1),
            ),
          ))
    ])
    | inr a ↦ (elim (get_cases fs x j h q) as (λ _. i ≡ j) [
      | inl b ↦
          absurd (k (
            j,
            h,
            b,
            (l.0 ∙ ap (λ (z : Field). z.name) (sym a.1), l.1 ∙ ap (λ (z : Field). z.ty) (sym a.1)),
          ))
      | inr b ↦ a.0 ∙ sym b.0
    ])
  ];
  order = adds x refl refl (λ w. elim w as (λ _. ⊥) [ inl m ↦ d m | inr m ↦ k m ]) g.order;
}

-- ---- the first further fields, and one more

one_more : (further fields : List Field) (i : ℕ) (x : Field) → slice_get fields i ≡ Some x
    → (further ++ take i fields) ++ x ∷ [] ≡ further ++ take (i + 1) fields
one_more further fields i x e =
    append_assoc further (take i fields) (x ∷ []) ∙ ap (λ z. further ++ z) (taken_more fields i x e)

pub inherits_held : (own further fields fs : List Field) (i : ℕ) (x : Field)
    → slice_get fields i ≡ Some x → HasFieldNamed own x.name ⊎ SomeIn (IsLike x) fs
    → Gathers own (further ++ take i fields) fs → Gathers own (further ++ take (i + 1) fields) fs
inherits_held own further fields fs i x e w g =
    subst (λ z. Gathers own z fs) (one_more further fields i x e)
    (elim w as (λ _. Gathers own ((further ++ take i fields) ++ x ∷ []) fs) [
      | inl d ↦ gathers_declared own (further ++ take i fields) fs x d g
      | inr k ↦ gathers_known own (further ++ take i fields) fs x k g
    ])

pub inherits_new : (own further fields fs gs : List Field) (i : ℕ) (x : Field)
    → slice_get fields i ≡ Some x → (HasFieldNamed own x.name ⊎ SomeIn (IsLike x) fs → ⊥)
    → gs ≡ fs ++ x ∷ []
    → Gathers own (further ++ take i fields) fs → Gathers own (further ++ take (i + 1) fields) gs
inherits_new own further fields fs gs i x e n p g =
    subst (λ z. Gathers own z gs) (one_more further fields i x e)
    (subst (λ z. Gathers own ((further ++ take i fields) ++ x ∷ []) z) (sym p)
    (gathers_new own (further ++ take i fields) fs x (λ d. n (inl d)) (λ k. n (inr k)) g))

pub inherits_all : (own further fields fs : List Field) (i : ℕ) → length fields ≤ i
    → Gathers own (further ++ take i fields) fs → Gathers own (further ++ fields) fs
inherits_all own further fields fs i l g =
    subst (λ z. Gathers own (further ++ z) fs) (take_all i fields l) g

pub copies_own : (own fs : List Field) (i : ℕ) → length own ≤ i → fs ≡ take i own
    → Gathers own [] fs
copies_own own fs i l e = subst (Gathers own []) (sym (e ∙ take_all i own l)) (gathers_own own)

-- what is put together, by what the code's lists are
pub gathers_of : (own all : List (List Field)) (a : ℕ) (extends : List ℕ) (fs : List Field)
    {ds : List Field} {alls : List (List Field)} → ds ≡ fields_of own a → alls ≡ all
    → Gathers ds (flat_map (fields_of alls) extends) fs
    → Gathers (fields_of own a) (flat_map (fields_of all) extends) fs
gathers_of own all a extends fs {alls = alls} e f w =
    subst (λ z. Gathers (fields_of own a) (flat_map (fields_of z) extends) fs) f
    (subst (λ z. Gathers z (flat_map (fields_of alls) extends) fs) e w)

-- the fields of one extended type more
pub gathers_next : (own : List Field) (all : List (List Field)) (extends : List ℕ) (i b : ℕ)
    (fs gs : List Field) → slice_get extends i ≡ Some b → gs ≡ fields_of all b
    → Gathers own (flat_map (fields_of all) (take i extends) ++ gs) fs
    → Gathers own (flat_map (fields_of all) (take (i + 1) extends)) fs
gathers_next own all extends i b fs gs e f g =
    subst (λ z. Gathers own z fs)
    (ap (λ z. flat_map (fields_of all) (take i extends) ++ z) (f
    ∙ sym (append-nil (fields_of all b)))
    ∙ sym (flat_map-append (fields_of all) (take i extends) (b ∷ []))
    ∙ ap (flat_map (fields_of all)) (taken_more extends i b e)) g

-- ---- a field of that name and type

pub like_some : (fs : List Field) (at : ℕ) (f g : Field) (r : Bool) → slice_get fs at ≡ Some g
    → IsTrue r ↔ IsLike f g → IsTrue r ↔ LikeAt fs at f
like_some fs at f g r e w = (
  λ t. (g, e, w.0 t),
  λ v. w.1
      (let q : v.0 ≡ g = same v.0 v.1 in subst (λ (z : Field). IsLike f z) q v.2),
)
  where
    same : (x : Field) → slice_get fs at ≡ Some x → x ≡ g
    same x p = cc

pub like_none : (fs : List Field) (at : ℕ) (f : Field) → length fs ≤ at → IsTrue false
    ↔ LikeAt fs at f
like_none fs at f l = (λ t. let q : false ≡ true = t in absurd cc, λ v. nothing v.0 v.1)
  where
    nothing : (x : Field) → slice_get fs at ≡ Some x → IsTrue false
    nothing x p = let q = slice_get_past fs at l in absurd cc

pub has_none : (g : Gathering) (f : Field) → KnowsNames g → None ≡ get nat_eq g.first f.name.0
    → IsTrue false ↔ SomeIn (IsLike f) g.fields
has_none g f k e = (
  λ t. let q : false ≡ true = t in absurd cc,
  λ v. absurd
      (k.knows v.1 (of_get g.fields v.0 v.1 v.2) (ap (λ
      (z : NameId). get nat_eq g.first z.0) v.3.0 ∙ sym e)),
)

pub has_like : (fs : List Field) (at : ℕ) (f : Field) (r : Bool) → r ≡ true → LikeAt fs at f
    → IsTrue r ↔ SomeIn (IsLike f) fs
has_like fs at f r e w = (λ _. (at, w.0, w.1, w.2), λ _. e)
