-- The first applicable declaration of a set's row is the one that a call runs, where it runs one.
use Rattle.std.proofs.Common.{◌≡◌, ◌≢◌, ◌==◌, ℕ, ◌<◌, Bool, true, false, List, map, Option, Some, None, ◌⊎◌, inl, inr, refl, sym, ap, ◌∙◌, subst}
use Rattle.std.specs.Prelude.{Contains, slice_get, MatchOption}
use Rattle.std.proofs.lemmas.Bool.{cases_order}
use Rattle.std.proofs.lemmas.Bool.Decides.{Decides-eqb}
use Rattle.fort_base.specs.declared.ids.DeclId.{DeclId}
use Rattle.fort_base.specs.declared.ids.SetId.{SetId}
use Rattle.fort_base.specs.declared.ty.Ty.{Ty}
use Rattle.fort_core.specs.declared.program.CoreDecl.{CoreDecl}
use Rattle.fort_core.specs.declared.program.CoreSet.{CoreSet}
use Rattle.fort_core.specs.declared.program.Program.{Program}
use Rattle.fort_core.specs.declared.value.Value.{Value}
use Rattle.fort_machine.specs.Types.{all_below, type_of}
use Rattle.fort_machine.specs.Calls.{IsApplicable, IsMoreSpecific, Dispatches}
use Rattle.fort_disp.specs.Rows.{GoesThrough, IsRow, AreRows}
use Rattle.fort_disp.specs.Fits.{applies, IsFirst, IsNone}
use Rattle.fort_disp.proofs.Bools.{clash, asked_is, asked_there, one_some}
use Rattle.fort_disp.proofs.Places.{has_place, member}
use Rattle.fort_disp.proofs.Asking.{each_through}
use Rattle.fort_disp.proofs.InOrder.{precedes, row_at, set_at}

same_number : (d e : DeclId) → d.0 ≡ e.0 → d ≡ e
same_number d e q = ap (λ (n : ℕ). let m : DeclId = record { 0 = n } in m) q

module _ (p : Program) (set : SetId) (vs : List Value) (m : CoreSet)
    (q : slice_get p.sets set.0 ≡ Some m) (row : List DeclId) (r : IsRow p m.decls row) where
  -- what is applicable has a place in the row, and applies
  placed : (d : DeclId) (decl : CoreDecl) → IsApplicable p set (map (type_of p) vs) d decl
      → (k : ℕ) × (slice_get row k ≡ Some d)
  placed d decl a =
      has_place row d
      (r.all d (subst (λ
      (n : CoreSet). Contains n.decls d) (one_some a.members m (sym a.is_set ∙ q)) a.is_member))

  applied : (d : DeclId) (decl : CoreDecl) → IsApplicable p set (map (type_of p) vs) d decl
      → applies p vs d ≡ true
  applied d decl a =
      asked_there (slice_get p.decls d.0) (λ x. all_below p (map (type_of p) vs) x.parameters) decl
      a.is_decl ∙ a.applies

  -- and the other way round
  pub first_applies : (d : DeclId) → IsFirst p vs row d
      → (decl : CoreDecl) × IsApplicable p set (map (type_of p) vs) d decl
  first_applies d f =
      let a = asked_is (slice_get p.decls d.0) (λ x. all_below p (map (type_of p) vs) x.parameters)
      f.applicable in (
        a.0,
        record {
          members = m;
          is_set = q;
          is_member = r.only d (member row f.place d f.is_there);
          is_decl = a.1;
          applies = a.2;
        },
      )

  pub none_applies : IsNone p vs row → (d : DeclId) (decl : CoreDecl)
      → IsApplicable p set (map (type_of p) vs) d decl → ⊥
  none_applies n d decl a =
      let k = placed d decl a in clash (applies p vs d) (applied d decl a) (n k.0 d k.1)

  -- the first one is most specific, where one is
  pub first_runs : GoesThrough p → (f : DeclId) → IsFirst p vs row f
      → (d : DeclId) (decl : CoreDecl) → Dispatches p set vs d decl → f ≡ d
  first_runs t f i d decl w = go (f.0 == d.0) refl
    where
      a : (x : CoreDecl) × IsApplicable p set (map (type_of p) vs) f x
      a = first_applies f i

      o : IsApplicable p set (map (type_of p) vs) d decl
      o = w.most_specific.applicable

      k : (n : ℕ) × (slice_get row n ≡ Some d)
      k = placed d decl o

      below_it : f ≢ d → IsMoreSpecific p decl a.0
      below_it n = w.most_specific.over_others f a.0 a.1 n

      above_it : f ≢ d → i.place < k.0 → IsMoreSpecific p a.0 decl
      above_it n l =
          precedes p row i.place k.0 f d (r.in_order t) l i.is_there k.1 a.0 decl a.1.is_decl
          o.is_decl (below_it n)

      over : IsMoreSpecific p a.0 decl → (e : DeclId) (other : CoreDecl)
          → IsApplicable p set (map (type_of p) vs) e other → (b : Bool) → (e.0 == d.0) ≡ b
          → IsMoreSpecific p a.0 other
      over s e other h true z =
          subst (λ (x : CoreDecl). IsMoreSpecific p a.0 x)
          (one_some decl other (sym o.is_decl ∙ ap (λ
          (n : ℕ). slice_get p.decls n) (sym ((Decides-eqb e.0 d.0).0 z)) ∙ h.is_decl)) s
      over s e other h false z = each_through p t a.0.parameters decl.parameters other.parameters s
          (w.most_specific.over_others e other h (λ y. let v : (e.0 == d.0) ≡ true =
          (Decides-eqb e.0 d.0).1 (ap (λ (x : DeclId). x.0) y) in clash (e.0 == d.0) v z))

      most : f ≢ d → i.place < k.0 → f ≡ d
      most n l =
          w.no_other f a.0
          (record {
            applicable = a.1;
            over_others = λ e other h x. over (above_it n l) e other h (e.0 == d.0) refl;
          })

      apart : f ≢ d → (i.place ≡ k.0) ⊎ ((i.place < k.0) ⊎ (k.0 < i.place)) → f ≡ d
      apart n (inl e) = one_some f d (sym i.is_there ∙ ap (λ j. slice_get row j) e ∙ k.1)
      apart n (inr (inl l)) = most n l
      apart n (inr (inr l)) =
          absurd (clash (applies p vs d) (applied d decl o) (i.none_before k.0 d l k.1))

      go : (b : Bool) → (f.0 == d.0) ≡ b → f ≡ d
      go true z = same_number f d ((Decides-eqb f.0 d.0).0 z)
      go false z =
          apart (λ y. let v : (f.0 == d.0) ≡ true =
          (Decides-eqb f.0 d.0).1 (ap (λ (x : DeclId). x.0) y)
          in clash (f.0 == d.0) v z) (cases_order i.place k.0)

-- what a call runs, and what is applicable, stands in the set that the program has there
pub no_row : (p : Program) (rows : List (List DeclId)) → AreRows p p.sets rows → (set : SetId)
    → slice_get rows set.0 ≡ None
    → (ts : List Ty) (d : DeclId) (decl : CoreDecl) → IsApplicable p set ts d decl → ⊥
no_row p rows a set e ts d decl o =
    let w = row_at p p.sets rows set.0 o.members a o.is_set in let z : None ≡ Some w.0 = sym e ∙ w.1
    in absurd cc

module _ (p : Program) (rows : List (List DeclId)) (a : AreRows p p.sets rows) (set : SetId)
    (vs : List Value) (row : List DeclId) (e : slice_get rows set.0 ≡ Some row) where
  pub row_runs : GoesThrough p → (o : Option DeclId)
      → MatchOption o (IsNone p vs row) (IsFirst p vs row) → (d : DeclId) (decl : CoreDecl)
      → Dispatches p set vs d decl → o ≡ Some d
  row_runs t None n d decl w =
      let s = set_at p p.sets rows set.0 row a e
      in absurd (none_applies p set vs s.0 s.1 row s.2 n d decl w.most_specific.applicable)
  row_runs t (Some f) i d decl w =
      let s = set_at p p.sets rows set.0 row a e
      in ap (λ (x : DeclId). let o : Option DeclId = Some x
      in o) (first_runs p set vs s.0 s.1 row s.2 t f i d decl w)

  pub row_applies : (o : Option DeclId) → MatchOption o (IsNone p vs row) (IsFirst p vs row)
      → MatchOption o ((d : DeclId) → (decl : CoreDecl)
      → IsApplicable p set (map (type_of p) vs) d decl
      → ⊥) (λ d. (decl : CoreDecl) × IsApplicable p set (map (type_of p) vs) d decl)
  row_applies None n =
      let s = set_at p p.sets rows set.0 row a e in none_applies p set vs s.0 s.1 row s.2 n
  row_applies (Some f) i =
      let s = set_at p p.sets rows set.0 row a e in first_applies p set vs s.0 s.1 row s.2 f i
