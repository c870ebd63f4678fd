-- Comparisons and clauses that are made one after another.
use Rattle.std.proofs.Common.{◌≡◌, ℕ, ◌+◌, ◌<◌, ◌≤◌, List, [], ◌∷◌, ◌++◌, drop, length, get_or, refl, sym, ap, ◌∙◌, arith, append_assoc}
use Rattle.std.proofs.lemmas.List.{drop_more, drop_all, length-drop, append-nil}
use Rattle.fort_base.specs.declared.ty.Ty.{Ty}
use Rattle.fort_core.specs.declared.term.Term.{Term, Variable}
use Rattle.fort_form_typed.specs.declared.typed_form.Chosen.{Chosen}
use Rattle.fort_elab_meaning.specs.Parts.{Given}
use Rattle.fort_elab_meaning.specs.Calls.{comparisons, operated}
use Rattle.fort_elab_meaning.specs.Choices.{with_types}

-- ---- comparisons

module _ (g : Given) where
  short : (cs : List Chosen) (ns : List ℕ) → length ns ≤ 1 → comparisons g cs ns ≡ []
  short [] ns le = refl
  short (c ∷ cs) [] le = refl
  short (c ∷ cs) (m ∷ []) le = refl
  short (c ∷ cs) (m ∷ n ∷ ns) le = absurd (omega arith)

  -- one comparison more is made
  pub one_more : (i : ℕ) (cs : List Chosen) (ns : List ℕ) (c : Chosen) (d : ℕ) (x : Term)
      (made : List Term) {whole : List Term} → i < length cs → i + 1 < length ns
      → c ≡ get_or cs i c
      → x ≡ operated g c (Variable (get_or ns i d)) (Variable (get_or ns (i + 1) d))
      → made ++ comparisons g (drop i cs) (drop i ns) ≡ whole
      → (made ++ x ∷ []) ++ comparisons g (drop (i + 1) cs) (drop (i + 1) ns) ≡ whole
  one_more i cs ns c d x made {whole} lt lt1 is_c is_x h =
      let lt0 : i < length ns = omega arith in
      let m = get_or ns i d in let n = get_or ns (i + 1) d in let rest = drop (i + 1 + 1) ns in
      let a : drop i cs ≡ c ∷ drop (i + 1) cs =
      drop_more cs i c lt ∙ ap (λ (y : Chosen). y ∷ drop (i + 1) cs) (sym is_c) in
      let e : drop (i + 1) ns ≡ n ∷ rest = drop_more ns (i + 1) d lt1 in
      let f : drop i ns ≡ m ∷ n ∷ rest = drop_more ns i d lt0 ∙ ap (λ (ks : List ℕ). m ∷ ks) e in
      append_assoc made (x ∷ []) (comparisons g (drop (i + 1) cs) (drop (i + 1) ns))
      ∙ ap (λ (y : Term). made ++ (y ∷ comparisons g (drop (i + 1) cs) (drop (i + 1) ns))) is_x
      ∙ ap (λ (ks : List ℕ). made
      ++ (operated g c (Variable m) (Variable n) ∷ comparisons g (drop (i + 1) cs) ks)) e
      ∙ sym (ap (λ (ks : List ℕ). made ++ comparisons g (drop i cs) ks) f ∙ ap (λ
      (ds : List Chosen). made ++ comparisons g ds (m ∷ n ∷ rest)) a)
      ∙ h

  -- all comparisons are made
  pub no_calls : (i : ℕ) (cs : List Chosen) (ns : List ℕ) (made : List Term) {whole : List Term}
      → length cs ≤ i
      → made ++ comparisons g (drop i cs) (drop i ns) ≡ whole → made ≡ whole
  no_calls i cs ns made le h = sym (append-nil made)
      ∙ ap (λ (us : List Term). made ++ us)
      (sym (ap (λ (ds : List Chosen). comparisons g ds (drop i ns)) (drop_all i cs le))) ∙ h

  pub no_sides : (i : ℕ) (cs : List Chosen) (ns : List ℕ) (made : List Term) {whole : List Term}
      → length ns ≤ i + 1
      → made ++ comparisons g (drop i cs) (drop i ns) ≡ whole → made ≡ whole
  no_sides i cs ns made le h =
      let e : length (drop i ns) ≤ 1 = omega (arith, length-drop i ns, le) in sym (append-nil made)
      ∙ ap (λ (us : List Term). made ++ us) (sym (short (drop i cs) (drop i ns) e)) ∙ h

-- ---- clauses

no_clause : (ts : List Term) → with_types ts [] ≡ []
no_clause [] = refl
no_clause (t ∷ ts) = refl

-- one clause more is made
pub one_clause : (i : ℕ) (ts : List Term) (tys : List Ty) (t u : Term) (ty ty1 : Ty)
    (made : List (Term × Ty)) {whole : List (Term × Ty)} → i < length ts → i < length tys
    → t ≡ get_or ts i t → ty ≡ get_or tys i ty → u ≡ t → ty1 ≡ ty
    → made ++ with_types (drop i ts) (drop i tys) ≡ whole
    → (made ++ (u, ty1) ∷ []) ++ with_types (drop (i + 1) ts) (drop (i + 1) tys) ≡ whole
one_clause i ts tys t u ty ty1 made {whole} lt lt1 is_t is_ty is_u is_ty1 h =
    let a : drop i ts ≡ t ∷ drop (i + 1) ts =
    drop_more ts i t lt ∙ ap (λ (x : Term). x ∷ drop (i + 1) ts) (sym is_t) in
    let b : drop i tys ≡ ty ∷ drop (i + 1) tys =
    drop_more tys i ty lt1 ∙ ap (λ (x : Ty). x ∷ drop (i + 1) tys) (sym is_ty) in
    let rest = with_types (drop (i + 1) ts) (drop (i + 1) tys) in
    append_assoc made ((u, ty1) ∷ []) rest
    ∙ ap (λ (x : Term). made ++ ((x, ty1) ∷ rest)) is_u ∙ ap (λ
    (x : Ty). made ++ ((t, x) ∷ rest)) is_ty1
    ∙ sym (ap (λ (us : List Term). made ++ with_types us (drop i tys)) a ∙ ap (λ
    (us : List Ty). made ++ with_types (t ∷ drop (i + 1) ts) us) b)
    ∙ h

-- all clauses are made
pub no_terms : (i : ℕ) (ts : List Term) (tys : List Ty) (made : List (Term × Ty))
    {whole : List (Term × Ty)} → length ts ≤ i
    → made ++ with_types (drop i ts) (drop i tys) ≡ whole → made ≡ whole
no_terms i ts tys made le h = sym (append-nil made)
    ∙ ap (λ (us : List (Term × Ty)). made ++ us)
    (sym (ap (λ (us : List Term). with_types us (drop i tys)) (drop_all i ts le))) ∙ h

pub no_types : (i : ℕ) (ts : List Term) (tys : List Ty) (made : List (Term × Ty))
    {whole : List (Term × Ty)} → length tys ≤ i
    → made ++ with_types (drop i ts) (drop i tys) ≡ whole → made ≡ whole
no_types i ts tys made le h = sym (append-nil made)
    ∙ ap (λ (us : List (Term × Ty)). made ++ us)
    (sym (ap (λ
    (us : List Ty). with_types (drop i ts) us) (drop_all i tys le) ∙ no_clause (drop i ts))) ∙ h
