-- Blocks and generators.
use Rattle.std.proofs.Common.{◌≡◌, Bool, List, [], ◌∷◌, ◌++◌, map, None, rules, refl, sym, ap, ◌∙◌, subst}
use Rattle.fort_base.specs.declared.ids.NameId.{NameId}
use Rattle.fort_base.specs.declared.ty.Ty.{Ty}
use Rattle.fort_scope.specs.declared.binding.Binding.{Binding}
use Rattle.fort_form.specs.declared.form.Generator.{Generator, out-Generator}
use Rattle.fort_form.specs.declared.form.Item.{Item}
use Rattle.fort_form_typed.specs.declared.typed_form.TypedForm.{TypedForm, out-TypedForm, the_lemmas}
use Rattle.fort_form_typed.specs.declared.typed_form.TypedForm.TheVariants as a_typed
use Rattle.fort_form_typed.specs.declared.typed_form.TypedForm.TheOpen.{TypedForm-F}
use Rattle.fort_core.specs.declared.program.Program.{Program}
use Rattle.fort_core.specs.declared.term.Term.{Then}
use Rattle.fort_typing_known.specs.Known.{Knows}
use Rattle.fort_typing_known.specs.Names.{bound}
use Rattle.fort_sound_typed.specs.Typing.{unit_type, ItemsOf}
use Rattle.fort_sound_typed.specs.Sound.{opening}
use Rattle.fort_typing_rules.specs.Types.{unit, type_of}
use Rattle.fort_typing_rules.specs.Calls.{Calls}
use Rattle.fort_typing_rules.specs.Typing as rule
use Rattle.fort_elab_meaning.specs.Making.{Maker, two}
use Rattle.fort_elab_meaning.specs.Parts.{Given, Part, Role, expression, local, locals, variable, top, field, element}
use Rattle.fort_elab_meaning.specs.Items.{binding, bindings, before, block, loops}
use Rattle.fort_elab_meaning.specs.Translated.{role_at, part_at, translated, part}
use Rattle.fort_sound_forms.proofs.Built.{has-Then}
use Rattle.fort_sound_forms.proofs.Makers.{Good, good_two}
use Rattle.fort_sound_forms.proofs.Plain.{level, part_is, role_is, Target, Plain}
use Rattle.fort_sound_forms.proofs.Scoped.{good_for}

-- it declares nothing
abbrev IsExpression : Role → Type 0
IsExpression (local name mutable ty e) = ⊥
IsExpression (locals xs e) = ⊥
IsExpression _ = Unit {0}

-- what is no declaration stands before the rest
before_is : (r : Role) (own rest : Maker) → IsExpression r → before r own rest ≡ two Then own rest
before_is (local name mutable ty e) own rest h = absurd h
before_is (locals xs e) own rest h = absurd h
before_is expression own rest h = refl
before_is (variable name) own rest h = refl
before_is (top n) own rest h = refl
before_is (field ty o f) own rest h = refl
before_is (element ty a ty1 i) own rest h = refl

module _ (k : Knows) (g : Given) (p : Program) where
  declares_nothing : (bs : List Binding) (x : TypedForm-F TypedForm) → Target k g p bs x
      → IsExpression (role_at (level k g p x))
  declares_nothing bs (TypedForm-F.Bind ty name mutable written e) h = absurd h
  declares_nothing bs (TypedForm-F.Binds ty xs e) h = absurd h
  declares_nothing bs _ h = tt

  pub good_then : {bs : List Binding} {T : Ty} (u : TypedForm) (q : Part) (qs : List Part)
      → Plain k g p bs u → Good k p bs (block (q ∷ qs)) T
      → Good k p bs (block (part g u ∷ q ∷ qs)) T
  good_then {bs} {T} u q qs h i =
      let r = part g u in
      let e = before_is r.role r.maker (block (q ∷ qs))
      (subst IsExpression (sym (role_is k g p u refl))
      (declares_nothing bs (out-TypedForm u) h.target)) in
      subst (λ m. Good k p bs m T) (sym e)
      (good_two k p Then (translated g u) (block (q ∷ qs))
      (λ G a b x y. has-Then p (opening p) x y) h.maker i)

  bind_first : (name : NameId) (mutable : Bool) (ty : Ty) (e : Part) (qs : List Part)
      → block (part_at g (TypedForm-F.Bind unit name mutable ty e) ∷ qs)
      ≡ binding name mutable ty e.maker (block qs)
  bind_first name mutable ty e [] = refl
  bind_first name mutable ty e (q ∷ qs) = refl

  binds_first : (xs : List (NameId × Ty)) (e : Part) (qs : List Part)
      → block (part_at g (TypedForm-F.Binds unit xs e) ∷ qs) ≡ bindings xs e.maker (block qs)
  binds_first xs e [] = refl
  binds_first xs e (q ∷ qs) = refl

  pub block_bind : (name : NameId) (mutable : Bool) (ty : Ty) (u : TypedForm) (qs : List Part)
      → block (part g (a_typed.Bind unit name mutable ty u) ∷ qs)
      ≡ binding name mutable ty (translated g u) (block qs)
  block_bind name mutable ty u qs =
      let is : out-TypedForm (a_typed.Bind unit name mutable ty u)
      ≡ TypedForm-F.Bind unit name mutable ty u = search (rules, the_lemmas) in
      ap (λ (q : Part). block (q ∷ qs)) (part_is k g p (a_typed.Bind unit name mutable ty u)
      ∙ ap (λ x. part_at g (level k g p x)) is) ∙ bind_first name mutable ty (part g u) qs

  pub block_binds : (xs : List (NameId × Ty)) (u : TypedForm) (qs : List Part)
      → block (part g (a_typed.Binds unit xs u) ∷ qs) ≡ bindings xs (translated g u) (block qs)
  block_binds xs u qs =
      let is : out-TypedForm (a_typed.Binds unit xs u) ≡ TypedForm-F.Binds unit xs u =
      search (rules, the_lemmas) in
      ap (λ (q : Part). block (q ∷ qs)) (part_is k g p (a_typed.Binds unit xs u)
      ∙ ap (λ x. part_at g (level k g p x)) is) ∙ binds_first xs (part g u) qs

  -- where there are items there are typed forms
  pub items_more : {bs : List Binding} {j : Item} {more : List Item} {us : List TypedForm} {ty : Ty}
      → rule.HasItems k (Calls k) bs (j ∷ more) us ty
      → (v : TypedForm) × (vs : List TypedForm) × (us ≡ v ∷ vs)
  items_more (rule.no_item e1 e2 e3) = absurd cc
  items_more (rule.last_item i d u e1 e2 h e3 e4) = (u, [], e3)
  items_more (rule.expression i j more d u us e1 e2 h rest e3) = (u, us, e3)
  items_more (rule.declared i more q name mutable want d u us e1 e2 fresh h rest e3) = (_, us, e3)
  items_more (rule.declared_all i more q names want d new inner u us e1 e2 parts b h rest e3) =
      (_, us, e3)

  -- ---- generators

  abbrev generated : Generator → Ty → Binding
  generated x ty = rule.binding (out-Generator x).place (out-Generator x).name ty

  -- generators one after another, and what is bound behind them
  pub data Sources : List Binding → List Generator → List Binding → List TypedForm → Type 0 where
    no_more : {bs : List Binding} → Sources bs [] bs []
    next : {bs inner : List Binding} {xs : List Generator} {us : List TypedForm} (x : Generator)
        (u : TypedForm) (ty : Ty) → bound bs (out-Generator x).name ≡ None → Plain k g p bs u
        → ItemsOf p (type_of u) ty
        → Sources (bs ++ generated x ty ∷ []) xs inner us → Sources bs (x ∷ xs) inner (u ∷ us)

  pub good_loops : {bs inner : List Binding} {xs : List Generator} {us : List TypedForm}
      (body : Maker) → Sources bs xs inner us → Good k p inner body unit_type
      → Good k p bs (loops (map rule.generator_name xs) (map (part g) us) body) unit_type
  good_loops body no_more h = h
  good_loops {us = us} body (next {xs = xs} {us = vs} x u ty f i w rest) h =
      good_for k p (out-Generator x).place (out-Generator x).name ty (out-Generator x).sequential
      (translated g u) (loops (map rule.generator_name xs) (map (part g) vs) body) f w i.maker
      (good_loops body rest h)
