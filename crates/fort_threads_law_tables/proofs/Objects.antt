-- Which values are objects of threads, by what the tables say of `Thread'`.
use Rattle.std.proofs.Common.{◌≡◌, ℕ, true, false, map, refl, ap, sym, ◌∙◌, Bool, List}
use Rattle.fort_base.specs.declared.ids.Loc.{Loc}
use Rattle.fort_base.specs.declared.ids.TypeId.{TypeId}
use Rattle.fort_base.specs.declared.ty.Ty.{Ty, Tuple, Arrow, Array, out-Ty, map-Ty, fold_out-Ty}
use Rattle.fort_base.specs.declared.ty.Ty.TheVariants.{Named, outs-Named, outs-Tuple, outs-Arrow, outs-Array}
use Rattle.fort_base.specs.declared.ty.Ty.TheOpen.{Ty-F}
use Rattle.fort_core.specs.declared.program.Program.{Program}
use Rattle.fort_core.specs.declared.term.Term.{Term}
use Rattle.fort_core.specs.declared.term.Term.TheOpen.{Value-F}
use Rattle.fort_core.specs.declared.value.Closure.{Closure, fold-Closure, fold_out-Closure}
use Rattle.fort_core.specs.declared.value.Value.{Value, Object, out-Value, roll-Value, roll-out-Value, map-Value, fold_out-Value}
use Rattle.fort_core.specs.declared.value.Value.TheVariants.{rolls-Object}
use Rattle.fort_types.specs.Relation.{Relation, below_at, relation}
use Rattle.fort_types.specs.Table.{is_set}
use Rattle.fort_machine.specs.Types.{below, domain_of, type_at, type_of, has_type}
use Rattle.fort_threads_law_servers.specs.Prelude.{Names, object_of}
use Rattle.fort_threads_law_tables.specs.Tabled.{StandsAlone}

-- below as it is computed of two layers
module _ (rows : List (List Bool)) where
  abbrev told : Ty-F Ty → Bool → Ty-F Ty → Bool
  told x up y = below_at rows (map-Ty Ty Relation (relation rows) x) up y

  told_out : (a b : Ty) (up : Bool) → relation rows a up b ≡ told (out-Ty a) up (out-Ty b)
  told_out a b up =
      ap (λ (f : Relation). f up b)
      (fold_out-Ty Relation (λ layer up b. below_at rows layer up (out-Ty b)) a)

module _ (p : Program) (n : Names) (h : StandsAlone p n) where
  -- the type of a value by its kind
  abbrev closure_type : Closure → Ty
  closure_type =
      fold-Closure (Unit {0}) Ty Ty (λ t. tt) (type_at p.built_in)
      (λ c. Arrow (domain_of c.parameters) c.result)

  abbrev type_out : Value-F Term Value Closure → Ty
  type_out y =
      type_at p.built_in
      (map-Value Term Value Closure (Unit {0}) Ty Ty (λ t. tt) (type_of p) closure_type y)

  type_is : (v : Value) (y : Value-F Term Value Closure) → out-Value v ≡ y
      → type_of p v ≡ type_out y
  type_is v y e =
      fold_out-Value (Unit {0}) Ty Ty (λ t. tt) (type_at p.built_in)
      (λ c. Arrow (domain_of c.parameters) c.result) v ∙ ap type_out e

  abbrev X : Ty
  X = Named n.thread

  -- a type is below `Thread'` as its layer is
  layer_below : (A : Ty) (a : Ty-F Ty) → out-Ty A ≡ a
      → below p A X ≡ told p.types.below a true (Ty-F.Named n.thread)
  layer_below A a e =
      told_out p.types.below A X true ∙ ap (λ z. told p.types.below z true (out-Ty X)) e
      ∙ ap (λ z. told p.types.below a true z) (outs-Named n.thread)

  abbrev IsObject : Value → Type 0
  IsObject v = (l : ℕ) × (v ≡ object_of n l)

  no_object : (v : Value) → has_type p v X ≡ true → (A : Ty) (a : Ty-F Ty) → out-Ty A ≡ a
      → told p.types.below a true (Ty-F.Named n.thread) ≡ false → type_of p v ≡ A → IsObject v
  no_object v w A a e f q =
      let z : false ≡ true =
      sym f ∙ sym (layer_below A a e) ∙ ap (λ t. below p t X) (sym q) ∙ w in
      absurd cc

  an_object : (v : Value) → has_type p v X ≡ true → (id : TypeId) (base : Loc)
      → out-Value v ≡ Value-F.Object id base → type_of p v ≡ Named id → IsObject v
  an_object v w id base e q =
      let z : is_set p.types.below id.0 n.thread.0 ≡ true =
      sym (layer_below (Named id) (Ty-F.Named id) (outs-Named id))
      ∙ ap (λ t. below p t X) (sym q) ∙ w in (
        base.0,
        sym (roll-out-Value v) ∙ ap roll-Value e ∙ rolls-Object id base
            ∙ ap (λ (k : ℕ). Object (number k) base) (h.only id.0 z),
      )
    where
      number : ℕ → TypeId
      number k = record { 0 = k }

  by_kind : (v : Value) → has_type p v X ≡ true → (y : Value-F Term Value Closure)
      → out-Value v ≡ y → IsObject v
  by_kind v w (Value-F.Small k) e =
      no_object v w (Named p.built_in.small) _ (outs-Named p.built_in.small) h.no_leaf.0
      (type_is v _ e)
  by_kind v w (Value-F.Large k) e =
      no_object v w (Named p.built_in.large) _ (outs-Named p.built_in.large) h.no_leaf.1
      (type_is v _ e)
  by_kind v w (Value-F.Text s) e =
      no_object v w (Named p.built_in.text) _ (outs-Named p.built_in.text) h.no_leaf.2
      (type_is v _ e)
  by_kind v w (Value-F.Truth b) e =
      no_object v w (Named p.built_in.truth) _ (outs-Named p.built_in.truth) h.no_leaf.3
      (type_is v _ e)
  by_kind v w (Value-F.Range a k) e =
      no_object v w (Named p.built_in.range) _ (outs-Named p.built_in.range) h.no_leaf.4
      (type_is v _ e)
  by_kind v w (Value-F.Tuple vs) e =
      no_object v w (Tuple (map (type_of p) vs)) _ (outs-Tuple _) refl (type_is v _ e)
  by_kind v w (Value-F.Array A base k) e =
      no_object v w (Array A) _ (outs-Array A) refl (type_is v _ e)
  by_kind v w (Value-F.Function c) e =
      no_object v w (Arrow (domain_of c.parameters) c.result) _ (outs-Arrow _ _) refl
      (type_is v _ e
      ∙ fold_out-Closure (Unit {0}) Ty Ty (λ t. tt) (type_at p.built_in)
      (λ c. Arrow (domain_of c.parameters) c.result) c)
  by_kind v w (Value-F.Object id base) e = an_object v w id base e (type_is v _ e)

  pub is_object : (v : Value) → has_type p v X ≡ true → IsObject v
  is_object v w = by_kind v w (out-Value v) refl
