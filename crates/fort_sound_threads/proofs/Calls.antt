-- Which declaration a call runs, by what the tables say of its set.
use Rattle.std.proofs.Common.{◌≡◌, ◌≢◌, ℕ, zero, suc, ◌==◌, Bool, true, false, List, [], ◌∷◌, map, ℤ, refl, ap, sym, ◌∙◌, subst, arith, rules}
use Rattle.std.specs.Prelude.{Contains, slice_get, Some}
use Rattle.fort_base.specs.declared.ids.DeclId.{DeclId}
use Rattle.fort_base.specs.declared.ids.Loc.{Loc}
use Rattle.fort_base.specs.declared.ids.SetId.{SetId}
use Rattle.fort_base.specs.declared.ids.TypeId.{TypeId}
use Rattle.fort_base.specs.declared.ty.Ty.{Ty, Arrow}
use Rattle.fort_base.specs.declared.ty.Ty.TheVariants.{Named}
use Rattle.fort_core.specs.declared.program.CoreDecl.{CoreDecl}
use Rattle.fort_core.specs.declared.program.CoreSet.{CoreSet}
use Rattle.fort_core.specs.declared.program.Program.{Program}
use Rattle.fort_core.specs.declared.term.Term.TheOpen.{Value-F}
use Rattle.fort_core.specs.declared.value.Value.{Value, Object, fold-roll-Value}
use Rattle.fort_core.specs.declared.value.Value.TheVariants.{rolls-Object}
use Rattle.fort_machine.specs.Calls.{Dispatches}
use Rattle.fort_machine.specs.Runs.{location}
use Rattle.fort_machine.specs.Types.{all_below, domain_of, type_at, type_of}
use Rattle.fort_threads_law_servers.specs.Prelude.{Names, object_of}
use Rattle.fort_threads_law_tables.specs.Tabled.{Runs, HasOne, one_thread}
use Rattle.fort_sound_threads.proofs.Lookups.{some_is, equal_is, self_equal}

same_number : (d e : DeclId) → (d.0 == e.0) ≡ true → d ≡ e
same_number d e h = ap (λ (n : ℕ). number n) (equal_is d.0 e.0 h)
  where
    number : ℕ → DeclId
    number n = record { 0 = n }

apart : (d e : DeclId) → (d.0 == e.0) ≡ false → d ≢ e
apart d e h q =
    let z : (e.0 == e.0) ≡ false = ap (λ (x : DeclId). x.0 == e.0) (sym q) ∙ h in
    let w : true ≡ false = sym (self_equal e.0) ∙ z in cc

module _ (p : Program) where
  -- the one that runs
  pub runs_one : (set : SetId) (types : List Ty) (d : DeclId) (x : CoreDecl) (values : List Value)
      → map (type_of p) values ≡ types → Runs p set types d x → (c : DeclId) (y : CoreDecl)
      → Dispatches p set values c y → (c ≡ d) × (y ≡ x)
  runs_one set types d x values e r c y w =
      let i = w.most_specific.applicable in
      let m = some_is i.members r.members (sym i.is_set ∙ r.is_set) in
      let q : c ≡ d = go (c.0 == d.0) refl m in (
        q,
        some_is y x (sym i.is_decl ∙ ap (λ (z : DeclId). slice_get p.decls z.0) q ∙ r.is_decl),
      )
    where
      go : (b : Bool) → (c.0 == d.0) ≡ b
          → w.most_specific.applicable.members ≡ r.members → c ≡ d
      go true h m = same_number c d h
      go false h m =
          let i = w.most_specific.applicable in
          r.alone c y (subst (λ (s : CoreSet). Contains s.decls c) m i.is_member) i.is_decl
          (ap (λ ts. all_below p ts y.parameters) (sym e) ∙ i.applies)
          (w.most_specific.over_others d x
          (record {
            members = r.members;
            is_set = r.is_set;
            is_member = r.is_member;
            is_decl = r.is_decl;
            applies = ap (λ ts. all_below p ts x.parameters) e ∙ r.applies;
          })
          (λ z. apart c d h (sym z)))

  -- the only one
  pub one_runs : (set : SetId) (d : DeclId) (x : CoreDecl) → HasOne p set d x
      → (values : List Value) (c : DeclId) (y : CoreDecl) → Dispatches p set values c y
      → (c ≡ d) × (y ≡ x)
  one_runs set d x h values c y w =
      let i = w.most_specific.applicable in
      let q = some_is (record { decls = d ∷ [] }) i.members (sym h.is_set ∙ i.is_set) in
      let e : c ≡ d =
      sym (only (subst (λ (s : CoreSet). Contains s.decls c) (sym q) i.is_member)) in (
        e,
        some_is y x (sym i.is_decl ∙ ap (λ (z : DeclId). slice_get p.decls z.0) e ∙ h.is_decl),
      )
    where
      only : Contains (d ∷ []) c → d ≡ c
      only (zero, l, q) = q
      only (suc n, l, q) = absurd (omega (arith, l))

  -- types of values
  pub object_is : (id : TypeId) (base : Loc) → type_of p (Object id base) ≡ Named id
  object_is id base = ap (type_of p) (sym (rolls-Object id base))
      ∙ fold-roll-Value (Unit {0}) Ty Ty (λ t. tt) (type_at p.built_in)
      (λ c. Arrow (domain_of c.parameters) c.result) (Value-F.Object id base)

  pub objects_are : (n : Names) (l : ℕ) → map (type_of p) (object_of n l ∷ []) ≡ one_thread n
  objects_are n l = ap (λ t. t ∷ []) (object_is n.thread (location l))
