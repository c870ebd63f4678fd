-- The forms of declarations have their figures.
use Rattle.std.proofs.Common.{◌≡◌, true, ◌&&◌, List, [], ◌∷◌, map, Option, Some, None, sym, subst}
use Rattle.std.specs.Prelude.{option_map}
use Rattle.std.specs.List.{AllByRecursion, flat_map}
use Rattle.fort_base.specs.declared.ids.TypeId.{TypeId}
use Rattle.fort_lex_token.specs.declared.token.Tokens.{Tokens}
use Rattle.fort_tree.specs.declared.declarations.Component.{Component}
use Rattle.fort_tree.specs.declared.declarations.Declaration.{Declaration}
use Rattle.fort_tree.specs.declared.declarations.Declaration.TheVariants as declaration
use Rattle.fort_tree.specs.declared.declarations.Declared.{Declared}
use Rattle.fort_tree.specs.declared.declarations.Function.{Function}
use Rattle.fort_tree.specs.declared.declarations.Method.{Method}
use Rattle.fort_tree.specs.declared.declarations.MethodBody.{MethodBody}
use Rattle.fort_tree.specs.declared.declarations.Object.{Object}
use Rattle.fort_tree.specs.declared.declarations.ObjectMember.{ObjectMember}
use Rattle.fort_tree.specs.declared.declarations.ObjectMember.TheVariants as object_member
use Rattle.fort_tree.specs.declared.declarations.Trait.{Trait}
use Rattle.fort_tree.specs.declared.declarations.TraitMember.{TraitMember}
use Rattle.fort_tree.specs.declared.declarations.TraitMember.TheVariants as trait_member
use Rattle.fort_tree.specs.declared.declarations.Variable.{Variable}
use Rattle.fort_tree.specs.Tokens.{Spellings}
use Rattle.fort_tree.specs.Said.{SaidEntry, elsewhere, tokens_of, maybe_tokens, maybe_obeys}
use Rattle.fort_tree.specs.Types.{said_type, said_parameters, parameter_count}
use Rattle.fort_tree.specs.Yield.{said_expr, said_variable}
use Rattle.fort_tree.specs.Declarations.{name_more, name_fits, selves_fit, selves, method_parameter_count, said_function, said_method, said_method_parameters, body_tokens, body_obeys, extends_tokens, excludes_tokens, comprises_tokens, said_trait_member, said_trait_entry, said_trait, said_object_parameters, said_object_member, said_object_entry, said_object, said_declaration, said_declared}
use Rattle.fort_tree.specs.Component.{export_tokens, yield, HasTree}
use Rattle.fort_tree.specs.Levels.{OfVariable}
use Rattle.fort_tree.specs.Limits.{flats}
use Rattle.fort_tree.proofs.SaysBlocks.{variable_says}
use Rattle.fort_form.specs.declared.component.BodyForm.{BodyForm}
use Rattle.fort_form.specs.declared.component.InitialForm.{InitialForm}
use Rattle.fort_form_walk.specs.FormsOf.{Tables, source, owner, initial, member_initial, entry_initial, initials, declared_initials, function_body, method_bodies, trait_member_body, trait_body, object_member_body, object_body, bodies, declared_bodies, tables_of}
use Rattle.fort_lex_law_tokens.specs.Numerals.{Fits}
use Rattle.fort_sound_forms.specs.Figures.{HasFigures}
use Rattle.fort_form_law_figures.specs.Components.{FormsHaveFigures}
use Rattle.fort_form_law_figures.proofs.Lists.{all_join, right}
use Rattle.fort_form_law_figures.proofs.Parts.{Fit, front, back, Reads, ReadsEntry, ReadsEntries, entries-read, variable-parts}
use Rattle.fort_form_law_figures.proofs.Groups.{IsGroupedSource, all-grouped}
use Rattle.fort_form_law_figures.proofs.Trees.{expr-good}

abbrev InitialGood : InitialForm → Type 0
InitialGood i = HasFigures i.value

abbrev BodyGood : BodyForm → Type 0
BodyGood b = HasFigures b.body

module _ (names : Spellings) (n : Tables) (S : IsGroupedSource (source n)) where
  -- of each of a list, one after another
  joined : {X Y : Type 0} (P : Y → Type 0) (said : X → SaidEntry) (f : X → List Y)
      → ((x : X) → ReadsEntry names (said x) → AllByRecursion P (f x))
      → (xs : List X) → ReadsEntries names (map said xs) → AllByRecursion P (flat_map f xs)
  joined P said f each [] h = tt
  joined P said f each (x ∷ xs) h =
      all_join P (f x) (flat_map f xs) (each x h.0) (joined P said f each xs h.1)

  -- ---- initials

  -- what a variable says, as one level of it
  abbrev variable_level : Variable → OfVariable
  variable_level v =
      record {
        var = v.var;
        name = v.name;
        colon = v.colon;
        ty = v.ty;
        sign = v.sign;
        value = said_expr v.value;
      }

  initial-good : (id : Option TypeId) (v : Variable) → Reads names (said_variable v)
      → InitialGood (initial n id v)
  initial-good id v h =
      expr-good names (source n) S v.value
      (variable-parts names (variable_level v) (subst (Reads names) (variable_says v) h))

  entry-initials : (id : TypeId) (m : ObjectMember) → Reads names (said_object_member m)
      → AllByRecursion InitialGood (member_initial n id m)
  entry-initials id (object_member.Variable v) h = (initial-good (Some id) v h, tt)
  entry-initials id (object_member.Method m) h = tt

  members-of-object : (o : Object) → Reads names (said_object o)
      → ReadsEntries names (map said_object_entry o.members)
  members-of-object o h = entries-read names (map said_object_entry o.members)
      (front _ _
      (back (extends_tokens o.extends) _
      (back (maybe_tokens (option_map said_object_parameters o.parameters)) _ h.0.1.1)))
      (right _ _ h.1.1)

  members-of-trait : (r : Trait) → Reads names (said_trait r)
      → ReadsEntries names (map said_trait_entry r.members)
  members-of-trait r h = entries-read names (map said_trait_entry r.members)
      (front _ _
      (back (comprises_tokens r.comprises) _
      (back (excludes_tokens r.excludes) _ (back (extends_tokens r.extends) _ h.0.1.1))))
      h.1.1

  initials-good : (d : Declaration) → Reads names (said_declaration d)
      → AllByRecursion InitialGood (initials n d)
  initials-good (declaration.Variable v) h = (initial-good None v h, tt)
  initials-good (declaration.Function f) h = tt
  initials-good (declaration.Trait r) h = tt
  initials-good (declaration.Object o) h =
      joined InitialGood said_object_entry (entry_initial n (owner n o.name))
      (λ e g. entry-initials (owner n o.name) e.member g) o.members (members-of-object o h)

  -- ---- bodies

  function-good : (f : Function) → Reads names (said_function f) → BodyGood (function_body n f)
  function-good f h =
      let body = (said_expr f.body).obeys names elsewhere in
      let result = (said_type f.result).obeys names elsewhere in
      let given = maybe_obeys names elsewhere (option_map said_parameters f.parameters) in
      let fits = name_fits names f.name (parameter_count f.parameters) in
      expr-good names (source n) S f.body (
        (back (tokens_of (said_type f.result)) _
            (back (maybe_tokens (option_map said_parameters f.parameters)) _
            (back (name_more f.name) _ h.0.1).1).1.1).1,
        (
          elsewhere,
          right result body
              (right given (result && body) (right fits (given && (result && body)) h.1.1)),
        ),
      )

  body-good : (id : TypeId) (m : Method) (b : Option MethodBody) → Fit (body_tokens b)
      → body_obeys names b ≡ true
      → AllByRecursion BodyGood (method_bodies n id m b)
  body-good id m None h o = tt
  body-good id m (Some b) h o = (expr-good names (source n) S b.body (h.1, (elsewhere, o)), tt)

  method-good : (id : TypeId) (m : Method) → Reads names (said_method m)
      → AllByRecursion BodyGood (method_bodies n id m m.body)
  method-good id m h =
      let body = body_obeys names m.body in
      let result = (said_type m.result).obeys names elsewhere in
      let given = maybe_obeys names elsewhere (option_map said_method_parameters m.parameters) in
      let once = selves_fit m.name (selves m.parameters) in
      let fits = name_fits names m.name (method_parameter_count m.parameters) in
      body-good id m m.body
      (back (tokens_of (said_type m.result)) (body_tokens m.body)
      (back (maybe_tokens (option_map said_method_parameters m.parameters)) _
      (back (name_more m.name) _ h.0.1).1).1.1)
      (right result body
      (right given (result
      && body) (right once (given
      && (result && body)) (right fits (once && (given && (result && body))) h.1.1))))

  trait-member-good : (id : TypeId) (m : TraitMember) → Reads names (said_trait_member m)
      → AllByRecursion BodyGood (trait_member_body n id m)
  trait-member-good id (trait_member.Field name colon ty) h = tt
  trait-member-good id (trait_member.Method m) h = method-good id m h

  object-member-good : (id : TypeId) (m : ObjectMember) → Reads names (said_object_member m)
      → AllByRecursion BodyGood (object_member_body n id m)
  object-member-good id (object_member.Variable v) h = tt
  object-member-good id (object_member.Method m) h =
      method-good id m (h.0, (h.1.0, right _ _ h.1.1))

  bodies-good : (d : Declaration) → Reads names (said_declaration d)
      → AllByRecursion BodyGood (bodies n d)
  bodies-good (declaration.Variable v) h = tt
  bodies-good (declaration.Function f) h = (function-good f h, tt)
  bodies-good (declaration.Trait r) h =
      joined BodyGood said_trait_entry (trait_body n (owner n r.name))
      (λ e g. trait-member-good (owner n r.name) e.member g) r.members (members-of-trait r h)
  bodies-good (declaration.Object o) h =
      joined BodyGood said_object_entry (object_body n (owner n o.name))
      (λ e g. object-member-good (owner n o.name) e.member g) o.members (members-of-object o h)

  pub all-initials : (ds : List Declared) → ReadsEntries names (map said_declared ds)
      → AllByRecursion InitialGood (flat_map (declared_initials n) ds)
  all-initials =
      joined InitialGood said_declared (declared_initials n) (λ d h. initials-good d.declaration h)

  pub all-bodies : (ds : List Declared) → ReadsEntries names (map said_declared ds)
      → AllByRecursion BodyGood (flat_map (declared_bodies n) ds)
  all-bodies =
      joined BodyGood said_declared (declared_bodies n) (λ d h. bodies-good d.declaration h)

-- what a component's declarations say
declarations : (tokens : Tokens) (c : Component) → HasTree tokens c
    → AllByRecursion Fits tokens.list
    → ReadsEntries c.names (map said_declared c.declarations)
declarations tokens c tree fit =
    let h : Fit (yield c) = subst (AllByRecursion Fits) (sym tree.yields) fit in
    entries-read c.names (map said_declared c.declarations)
    (front _ _ (back (export_tokens c.export) _ h.1.1)) (right _ _ tree.obeys)

pub forms_have_figures : FormsHaveFigures
forms_have_figures tokens c groups tree fit grouped =
    let S : IsGroupedSource (source (tables_of c groups)) =
    all-grouped (flats c) groups.list grouped in
    let d = declarations tokens c tree fit in (
      all-initials c.names (tables_of c groups) S c.declarations d,
      all-bodies c.names (tables_of c groups) S c.declarations d,
    )
