-- The names of parameters go with the variables of their declaration.
use Rattle.std.proofs.Common.{◌≡◌, ◌≤◌, ◌<◌, ℕ, suc, ◌+◌, Bool, true, false, cond, List, [], ◌∷◌, ◌++◌, length, map, Option, Some, None, refl, sym, ap, ◌∙◌, subst, arith}
use Rattle.std.specs.Prelude.{slice_get, nat_eq, nat_le, unwrap_or}
use Rattle.std.proofs.lemmas.Bool.{eqb-true, leb-false}
use Rattle.fort_base.specs.declared.ids.NameId.{NameId}
use Rattle.fort_base.specs.declared.ids.TypeId.{TypeId}
use Rattle.fort_base.specs.declared.ty.Ty.{Ty}
use Rattle.fort_base.specs.declared.ty.Ty.TheVariants.{Named}
use Rattle.fort_scope.specs.declared.binding.Binding.{Binding}
use Rattle.fort_form.specs.declared.form.Parameter.{Parameter}
use Rattle.fort_typing_known.specs.Known.{Knows, within}
use Rattle.fort_typing_known.specs.Names.{bound}
use Rattle.fort_sound_typed.specs.Envs.{Env, fixed, none, binds}
use Rattle.fort_sound_typed.specs.Sound.{numbered}
use Rattle.fort_typing_rules.specs.Types.{parameter_type}
use Rattle.fort_typing_rules.specs.Typing as rule
use Rattle.fort_elab_meaning.specs.Making.{number_of}
use Rattle.fort_elab_meaning.specs.Bodies.{position, parameter_names}
use Rattle.fort_sound_forms.specs.Forms.{sort, Agrees}
use Rattle.fort_sound_forms.proofs.Names.{either, bound_behind, either_none, same_name, not_bound}
use Rattle.fort_sound_bodies.specs.Bodies.{Takes}
use Rattle.fort_sound_bodies.proofs.Taken.{taken_first, taken_below, inserted_long, inserted_here, inserted_other}

module _ (G : Env) where
  -- names go with bindings
  abbrev Goes : List Binding → List (NameId × ℕ) → Type 0
  Goes bs names = (name : NameId) (b : Binding) → bound bs name ≡ Some b
      → G (number_of names name) ≡ Some (sort b.mutable b.ty)

  goes_next : (bs : List Binding) (names : List (NameId × ℕ)) (b : Binding) (m : ℕ) → Goes bs names
      → bound bs b.name ≡ None → G m ≡ Some (sort b.mutable b.ty)
      → Goes (bs ++ b ∷ []) ((b.name, m) ∷ names)
  goes_next bs names b m h free e name c q = go (nat_eq b.name.0 name.0) refl
    where
      go : (x : Bool) → nat_eq b.name.0 name.0 ≡ x
          → G (cond (nat_eq b.name.0 name.0) m (number_of names name)) ≡ Some (sort c.mutable c.ty)
      go true t =
          let i : bound bs name ≡ None =
          ap (bound bs) (sym (same_name b.name name (eqb-true b.name.0 name.0 t))) ∙ free in
          let f : Some b ≡ Some c =
          sym (bound_behind bs b name
          ∙ ap (λ o. either o (cond (nat_eq b.name.0 name.0) (Some b) None)) i
          ∙ ap (λ x. cond x (Some b) None) t) ∙ q in
          let r : b ≡ c = cc in
          ap (λ x. G (cond x m (number_of names name))) t ∙ e ∙ ap (λ
          (x : Binding). Some (sort x.mutable x.ty)) r
      go false t =
          let f : bound bs name ≡ Some c =
          sym (bound_behind bs b name
          ∙ ap (λ x. either (bound bs name) (cond x (Some b) None)) t
          ∙ either_none (bound bs name)) ∙ q in
          ap (λ x. G (cond x m (number_of names name))) t ∙ h name c f

  module _ (k : Knows) (r : Option ℕ) where
    -- each parameter from this position on is the variable of its position
    abbrev AreTaken : ℕ → List Parameter → Type 0
    AreTaken n [] = Unit {0}
    AreTaken n (q ∷ ps) = (G (position r n) ≡ Some (fixed q.ty)) × AreTaken (n + 1) ps

    pub all_taken : (n : ℕ) (ps : List Parameter)
        → ((i : ℕ) (T : Ty) → slice_get (map parameter_type ps) i ≡ Some T
        → G (position r (n + i)) ≡ Some (fixed T)) → AreTaken n ps
    all_taken n [] h = tt
    all_taken n (q ∷ ps) h = (
      ap (λ m. G (position r m)) (let e : n ≡ n + 0 = omega arith in e) ∙ h 0 q.ty refl,
      all_taken (n + 1) ps (λ i T e. ap (λ m. G (position r m))
          (let f : n + 1 + i ≡ n + suc i = omega arith in f) ∙ h (suc i) T e),
    )

    pub goes_all : {bs all : List Binding} (ps : List Parameter) (n : ℕ) (names : List (NameId × ℕ))
        → rule.Binds k bs (map rule.parameter_binding ps) all → Goes bs names → AreTaken n ps
        → Goes all (parameter_names r n ps names)
    goes_all [] n names (rule.none e1 e2) h t =
        subst (λ (xs : List Binding). Goes xs names) (sym e2) h
    goes_all [] n names (rule.next b more e free rest) h t = absurd cc
    goes_all (q ∷ ps) n names (rule.none e1 e2) h t = absurd cc
    goes_all {bs} {all} (q ∷ ps) n names (rule.next b more e free rest) h t =
        let f : rule.parameter_binding q ≡ b = cc in
        let m : map rule.parameter_binding ps ≡ more = cc in
        let w = subst (λ (x : Binding). rule.Binds k (bs ++ x ∷ []) more all) (sym f) rest in
        let v = subst (λ
        (xs : List Binding). rule.Binds k (bs ++ rule.parameter_binding q ∷ []) xs all)
        (sym m) w in
        let i = subst (λ (x : Binding). bound bs x.name ≡ None) (sym f) (not_bound k bs b.name free)
        in
        goes_all ps (n + 1) ((q.name, position r n) ∷ names) v
        (goes_next bs names (rule.parameter_binding q) (position r n) h i t.0) t.1

no_names : (G : Env) → Goes G [] []
no_names G name b e = absurd cc

first : (i : ℕ) → 0 + i ≡ i
first i = omega arith

same_types : (ps : List Parameter) → length (map parameter_type ps) ≡ length ps
same_types [] = refl
same_types (q ∷ ps) = let h = same_types ps in omega arith

-- The variables of a declaration go with the bindings of its body.
pub agrees : (k : Knows) (o : Option TypeId) (r : Option ℕ) (ps : List Parameter) (types : List Ty)
    (inner : List Binding) → rule.Binds (within k o) [] (map rule.parameter_binding ps) inner
    → Takes o r (map parameter_type ps) types
    → Agrees (within k o) inner
    (record { names = parameter_names r 0 ps []; receiver = unwrap_or r 0 })
    (position r (length ps)) (binds (numbered 0 types) none)
agrees k None None ps types inner b w =
    let G = binds (numbered 0 types) none in
    let l = same_types ps in
    let m = ap length w in
    record {
      names = goes_all G (within k None) None ps 0 [] b (no_names G)
          (all_taken G (within k None) None 0 ps (λ i T e. ap G (first i)
          ∙ taken_first types i T (ap (λ (ts : List Ty). slice_get ts i) w ∙ e)));
      receiver = λ t e. absurd cc;
      low = λ z B e. let h = taken_below 0 types z B e in omega arith;
    }
agrees k (Some o) (Some r) ps types inner b w =
    let G = binds (numbered 0 types) none in
    let ts = map parameter_type ps in
    let l = same_types ps in
    let m = ap length w.1 in
    let n = inserted_long r (Named o) ts in
    let q = w.0 in
    record {
      names = goes_all G (within k (Some o)) (Some r) ps 0 [] b (no_names G)
          (all_taken G (within k (Some o)) (Some r) 0 ps
          (λ i T e. ap (λ m. G (position (Some r) m)) (first i)
          ∙ taken_first types (position (Some r) i) T (ap (λ
          (us : List Ty). slice_get us (position (Some r) i)) w.1
          ∙ inserted_other r i (Named o) ts q ∙ e)));
      receiver = λ t e. let s : o ≡ t = cc
          in taken_first types r (Named o) (ap (λ
          (us : List Ty). slice_get us r) w.1 ∙ inserted_here r (Named o) ts q)
          ∙ ap (λ x. Some (fixed (Named x))) s;
      low = λ z B e. let h = taken_below 0 types z B e
          in last z r (length ps) (omega arith) (omega arith);
    }
  where
    last : (z r n : ℕ) → r ≤ n → z < n + 1 → z < position (Some r) n
    last z r n l h = go (nat_le r n) refl
      where
        go : (c : Bool) → nat_le r n ≡ c → z < cond c (n + 1) n
        go true e = h
        go false e = let x = leb-false r n e in absurd (omega arith)
agrees k None (Some r) ps types inner b w = absurd w
agrees k (Some o) None ps types inner b w = absurd w
