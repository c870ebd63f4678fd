-- Which declarations calls run, from what single lookups say.
use Rattle.std.proofs.Common.{◌≡◌, ℕ, true, false, List, Some, None, ap, sym, ◌∙◌, subst}
use Rattle.std.specs.Prelude.{Contains, slice_get}
use Rattle.std.specs.List.{AllByRecursion}
use Rattle.fort_base.specs.declared.ids.DeclId.{DeclId}
use Rattle.fort_base.specs.declared.ids.SetId.{SetId}
use Rattle.fort_base.specs.declared.ids.TypeId.{TypeId}
use Rattle.fort_base.specs.declared.ty.Ty.{Ty}
use Rattle.fort_base.specs.declared.ty.Ty.TheVariants.{Named}
use Rattle.fort_core.specs.declared.primitive.Primitive.{Primitive}
use Rattle.fort_core.specs.declared.primitive.Primitive.TheVariants.{UnequalSmall}
use Rattle.fort_core.specs.declared.program.CoreBody.TheVariants as body
use Rattle.fort_core.specs.declared.program.CoreDecl.{CoreDecl}
use Rattle.fort_core.specs.declared.program.CoreSet.{CoreSet}
use Rattle.fort_core.specs.declared.program.Program.{Program}
use Rattle.fort_core.specs.declared.term.Term.{Term}
use Rattle.fort_machine.specs.Types.{all_below}
use Rattle.fort_threads_law_tables.specs.Tabled.{HasOne, Runs, RunsPrimitive, RunsText, two_small}
use Rattle.fort_sound_tables.specs.Lookups.{GivesWay, TakesText}
use Rattle.fort_sound_tables.specs.Threads.{IsSole, RunsDiffers, nothing_type}
use Rattle.fort_sound_tables.proofs.Lists.{some_is, at_item}

pub same_decl : (d e : DeclId) → d.0 ≡ e.0 → d ≡ e
same_decl d e q = ap (λ (n : ℕ). number n) q
  where
    number : ℕ → DeclId
    number n = record { 0 = n }

pub same_type : (d e : TypeId) → d.0 ≡ e.0 → d ≡ e
same_type d e q = ap (λ (n : ℕ). number n) q
  where
    number : ℕ → TypeId
    number n = record { 0 = n }

module _ (p : Program) (types : List Ty) (d : DeclId) (x : CoreDecl) (e : DeclId) where
  pub way_itself : e.0 ≡ d.0 → GivesWay p types d x e
  way_itself q y i a b = same_decl e d q

  pub way_none : slice_get p.decls e.0 ≡ None → GivesWay p types d x e
  way_none q y i a b = let z : None ≡ Some y = sym q ∙ i in absurd cc

  pub way_passed : (found : CoreDecl) → slice_get p.decls e.0 ≡ Some found
      → all_below p types found.parameters ≡ false → GivesWay p types d x e
  way_passed found q f y i a b =
      let w = some_is found y (sym q ∙ i) in
      let z : false ≡ true =
      sym f ∙ ap (λ (c : CoreDecl). all_below p types c.parameters) w ∙ a in absurd cc

  pub way_wider : (found : CoreDecl) → slice_get p.decls e.0 ≡ Some found
      → all_below p found.parameters x.parameters ≡ false → GivesWay p types d x e
  way_wider found q f y i a b =
      let w = some_is found y (sym q ∙ i) in
      let z : false ≡ true =
      sym f ∙ ap (λ (c : CoreDecl). all_below p c.parameters x.parameters) w ∙ b in absurd cc

module _ (p : Program) (set : SetId) (types : List Ty) (d : DeclId) where
  -- what `runs` asks
  pub runs_by : (members : CoreSet) (found : CoreDecl) → slice_get p.sets set.0 ≡ Some members
      → slice_get p.decls d.0 ≡ Some found → all_below p types found.parameters ≡ true
      → Contains members.decls d → AllByRecursion (GivesWay p types d found) members.decls
      → (x : CoreDecl) → slice_get p.decls d.0 ≡ Some x → Runs p set types d x
  runs_by members found i q a c alone x w =
      subst (λ (z : CoreDecl). Runs p set types d z) (some_is found x (sym q ∙ w))
      (record {
        members = members;
        is_set = i;
        is_member = c;
        is_decl = q;
        applies = a;
        alone = λ e y k j f g.
            at_item (GivesWay p types d found) members.decls e alone k y j f g;
      })

  abbrev CallsRun : Type 0
  CallsRun = (x : CoreDecl) → slice_get p.decls d.0 ≡ Some x → Runs p set types d x

  pub text_runs : (t : Term) → TakesText p d types t → CallsRun → RunsText p set types t
  text_runs t h r =
      record {
        number = d;
        declared = h.declared;
        runs = r h.declared h.is_decl;
        text = h.text;
      }

  abbrev IsPrimitive : Primitive → Type 0
  IsPrimitive f = (x : CoreDecl) × (slice_get p.decls d.0 ≡ Some x)
      × (x.body ≡ body.Primitive f)

  pub primitive_runs : (f : Primitive) → IsPrimitive f → CallsRun → RunsPrimitive p set types f
  primitive_runs f h r =
      record { number = d; declared = h.0; runs = r h.0 h.1; primitive = h.2 }

-- `=/=`
pub differs_by : (p : Program) (set : SetId) (types : List Ty) (d : DeclId) → types ≡ two_small p
    → (x : CoreDecl) × (slice_get p.decls d.0 ≡ Some x) × (x.body ≡ body.Primitive UnequalSmall)
    → ((x : CoreDecl) → slice_get p.decls d.0 ≡ Some x → Runs p set types d x) → (gives : Ty)
    → gives ≡ Named p.built_in.truth
    → ((x : CoreDecl) → slice_get p.decls d.0 ≡ Some x
    → (x.parameters ≡ types) × (x.result ≡ gives))
    → RunsDiffers p set
differs_by p set types d e h r gives g k = record {
  runs = record {
    number = d;
    declared = h.0;
    runs = subst (λ ts. Runs p set ts d h.0) e (r h.0 h.1);
    primitive = h.2;
  };
  takes = (k h.0 h.1).0 ∙ e;
  gives = (k h.0 h.1).1 ∙ g;
}

-- the only declaration of a set
pub sole_by : (p : Program) (set : SetId) (d : DeclId) (types : List Ty) (t : Term)
    → TakesText p d types t
    → ((x : CoreDecl) → slice_get p.decls d.0 ≡ Some x → HasOne p set d x)
    → ((x : CoreDecl) → slice_get p.decls d.0 ≡ Some x → x.result ≡ nothing_type)
    → IsSole p set d types t
sole_by p set d types t h one gives = record {
  declared = h.declared;
  has_one = one h.declared h.is_decl;
  takes = h.takes;
  gives = gives h.declared h.is_decl;
  text = h.text;
}

-- the same for equal types and terms
pub runs_as : (p : Program) (set : SetId) (ts us : List Ty) (t u : Term) → ts ≡ us → t ≡ u
    → RunsText p set ts t → RunsText p set us u
runs_as p set ts us t u e f r =
    subst (λ s. RunsText p set us s) f (subst (λ ws. RunsText p set ws t) e r)

pub takes_as : (p : Program) (d : DeclId) (ts us : List Ty) (t u : Term) → ts ≡ us → t ≡ u
    → TakesText p d ts t → TakesText p d us u
takes_as p d ts us t u e f r =
    subst (λ s. TakesText p d us s) f (subst (λ ws. TakesText p d ws t) e r)

pub sole_as : (p : Program) (set : SetId) (d : DeclId) (ts us : List Ty) (t u : Term) → ts ≡ us
    → t ≡ u → IsSole p set d ts t → IsSole p set d us u
sole_as p set d ts us t u e f r =
    subst (λ s. IsSole p set d us s) f (subst (λ ws. IsSole p set d ws t) e r)

pub primitive_as : (p : Program) (set : SetId) (ts us : List Ty) (f : Primitive) → ts ≡ us
    → RunsPrimitive p set ts f → RunsPrimitive p set us f
primitive_as p set ts us f e r = subst (λ ws. RunsPrimitive p set ws f) e r

pub runs_at : (p : Program) (set : SetId) (ts us : List Ty) (d : DeclId) (x : CoreDecl) → ts ≡ us
    → Runs p set ts d x → Runs p set us d x
runs_at p set ts us d x e r = subst (λ ws. Runs p set ws d x) e r
