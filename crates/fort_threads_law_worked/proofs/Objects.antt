-- Which values of the worked program are objects of threads.
use Rattle.std.proofs.Common.{◌≡◌, ℕ, ◌==◌, ◌||◌, Bool, true, false, not, map, refl, ap, sym, ◌∙◌}
use Rattle.fort_base.specs.declared.ids.Loc.{Loc}
use Rattle.fort_base.specs.declared.ids.TypeId.{TypeId}
use Rattle.fort_base.specs.declared.ty.Ty.{Ty, Tuple, Arrow, Array, out-Ty}
use Rattle.fort_base.specs.declared.ty.Ty.TheVariants.{Named, outs-Named, outs-Tuple, outs-Arrow, outs-Array}
use Rattle.fort_base.specs.declared.ty.Ty.TheOpen.{Ty-F}
use Rattle.fort_core.specs.declared.term.Term.{Term}
use Rattle.fort_core.specs.declared.term.Term.TheOpen.{Value-F}
use Rattle.fort_core.specs.declared.value.Closure.{Closure, fold-Closure, fold_out-Closure}
use Rattle.fort_core.specs.declared.value.Value.{Value, Object, out-Value, roll-Value, roll-out-Value, map-Value, fold_out-Value}
use Rattle.fort_core.specs.declared.value.Value.TheVariants.{rolls-Object}
use Rattle.fort_types.specs.Table.{is_set}
use Rattle.fort_machine.specs.Types.{below, domain_of, type_at, type_of, has_type}
use Rattle.fort_machine.specs.Worked.{type}
use Rattle.fort_machine_law_worked.proofs.Finding.{all_set, found, passes, then_holds, equal_is}
use Rattle.fort_sound_typed.proofs.Computed.{told, told_out}
use Rattle.fort_threads_law_servers.specs.Prelude.{object_of}
use Rattle.fort_threads_law_worked.specs.Types.{rows}
use Rattle.fort_threads_law_worked.specs.Worked.{worked, worked_names}

-- the type of a value by its kind
abbrev closure_type : Closure → Ty
closure_type =
    fold-Closure (Unit {0}) Ty Ty (λ t. tt) (type_at worked.built_in)
    (λ c. Arrow (domain_of c.parameters) c.result)

abbrev type_out : Value-F Term Value Closure → Ty
type_out y =
    type_at worked.built_in
    (map-Value Term Value Closure (Unit {0}) Ty Ty (λ t. tt) (type_of worked) closure_type y)

type_is : (v : Value) (y : Value-F Term Value Closure) → out-Value v ≡ y
    → type_of worked v ≡ type_out y
type_is v y e =
    fold_out-Value (Unit {0}) Ty Ty (λ t. tt) (type_at worked.built_in)
    (λ c. Arrow (domain_of c.parameters) c.result) v ∙ ap type_out e

-- a type is below `Thread'` as its layer is
layer_below : (A : Ty) (a : Ty-F Ty) → out-Ty A ≡ a
    → below worked A (Named (type 19)) ≡ told rows a true (Ty-F.Named (type 19))
layer_below A a e =
    told_out rows A (Named (type 19)) true
    ∙ ap (λ z. told rows z true (out-Ty (Named (type 19)))) e
    ∙ ap (λ z. told rows a true z) (outs-Named (type 19))

abbrev lone_at : (ℕ × ℕ) → Bool
lone_at a = not (a.1 == 19) || a.0 == 19

under_thread : (i : ℕ) → is_set rows i 19 ≡ true → i ≡ 19
under_thread i h =
    let a = passes lone_at (all_set 0 rows) refl (i, 19) (found rows i 19 h) in
    equal_is i 19 (then_holds (19 == 19) (i == 19) a refl)

abbrev IsObject : Value → Type 0
IsObject v = (l : ℕ) × (v ≡ object_of worked_names l)

pub is_object : (v : Value) → has_type worked v (Named (type 19)) ≡ true → IsObject v
is_object v h = go (out-Value v) refl
  where
    no : (A : Ty) (a : Ty-F Ty) → out-Ty A ≡ a
        → told rows a true (Ty-F.Named (type 19)) ≡ false → type_of worked v ≡ A → IsObject v
    no A a e f q =
        let z : false ≡ true =
        sym f ∙ sym (layer_below A a e) ∙ ap (λ t. below worked t (Named (type 19))) (sym q) ∙ h in
        absurd cc

    yes : (id : TypeId) (base : Loc) → out-Value v ≡ Value-F.Object id base
        → type_of worked v ≡ Named id → IsObject v
    yes id base e q =
        let z : is_set rows id.0 19 ≡ true =
        sym (layer_below (Named id) (Ty-F.Named id) (outs-Named id))
        ∙ ap (λ t. below worked t (Named (type 19))) (sym q) ∙ h in (
          base.0,
          sym (roll-out-Value v) ∙ ap roll-Value e ∙ rolls-Object id base
              ∙ ap (λ (n : ℕ). Object (type n) base) (under_thread id.0 z),
        )

    go : (y : Value-F Term Value Closure) → out-Value v ≡ y → IsObject v
    go (Value-F.Small n) e = no (Named (type 2)) _ (outs-Named (type 2)) refl (type_is v _ e)
    go (Value-F.Large n) e = no (Named (type 3)) _ (outs-Named (type 3)) refl (type_is v _ e)
    go (Value-F.Truth b) e = no (Named (type 5)) _ (outs-Named (type 5)) refl (type_is v _ e)
    go (Value-F.Text s) e = no (Named (type 4)) _ (outs-Named (type 4)) refl (type_is v _ e)
    go (Value-F.Range a n) e = no (Named (type 6)) _ (outs-Named (type 6)) refl (type_is v _ e)
    go (Value-F.Tuple vs) e = no (Tuple (map (type_of worked) vs)) _ (outs-Tuple _) refl
        (type_is v _ e)
    go (Value-F.Array A base n) e = no (Array A) _ (outs-Array A) refl (type_is v _ e)
    go (Value-F.Function c) e =
        no (Arrow (domain_of c.parameters) c.result) _ (outs-Arrow _ _) refl
        (type_is v _ e
        ∙ fold_out-Closure (Unit {0}) Ty Ty (λ t. tt) (type_at worked.built_in)
        (λ c. Arrow (domain_of c.parameters) c.result) c)
    go (Value-F.Object id base) e = yes id base e (type_is v _ e)
