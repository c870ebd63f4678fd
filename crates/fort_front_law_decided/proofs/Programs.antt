-- What typing gives of a component is translated to a program.
use Rattle.std.proofs.Common.{◌≡◌, ◌+◌, ◌⊎◌, ◌&&◌, eq-eqb, inl, inr, ℕ, zero, suc, Bool, true, false, cond, List, [], ◌∷◌, ◌++◌, map, length, codes, Option, Some, refl, sym, ap, ◌∙◌, subst, arith}
use Rattle.std.specs.Prelude.{option_map, option_and_then, nat_eq}
use Rattle.std.specs.List.{slice_get, flat_map}
use Rattle.fort_base.specs.declared.refusal.Place.{Place}
use Rattle.fort_types_builtin.specs.declared.types.TheConstants.{BUILT_IN}
use Rattle.fort_types_builtin.specs.Declarations.{declarations_of, primitive_of, primitives_of}
use Rattle.fort_core.specs.declared.program.CoreBody.{CoreBody}
use Rattle.fort_core.specs.declared.program.CoreBody.TheVariants as body
use Rattle.fort_core.specs.declared.program.CoreDecl.{CoreDecl}
use Rattle.fort_core.specs.declared.term.Term.{Term, Call}
use Rattle.fort_tree.specs.declared.declarations.Component.{Component}
use Rattle.fort_tree.specs.declared.grouped.Groups.{Groups}
use Rattle.fort_types_sets.specs.declared.member.Member.{Member}
use Rattle.fort_types_sets.specs.declared.member.MemberKind.{MemberKind}
use Rattle.fort_types_sets.specs.declared.member.MemberKind.TheVariants as a_kind
use Rattle.fort_types_sets.specs.declared.member.MemberSet.{MemberSet}
use Rattle.fort_types_sets.specs.declared.member.Members.{Members}
use Rattle.fort_member.specs.Answers.{AreMembers}
use Rattle.fort_member.specs.BuiltIn.{built_in_member}
use Rattle.fort_member.specs.Laws.{built_in_of, HasBuiltInFirst, BuiltInsStandFirst}
use Rattle.fort_form_walk.specs.FormsOf.{forms_of}
use Rattle.fort_form_typed.specs.declared.component.Typed.{Typed}
use Rattle.fort_form_typed.specs.declared.component.TypedBody.{TypedBody}
use Rattle.fort_typing_known.specs.Known.{Knows}
use Rattle.fort_typing_rules.specs.Components.{HasTypes}
use Rattle.fort_elab_meaning.specs.Parts.{Given}
use Rattle.fort_elab_meaning.specs.Bodies.{bodies, body_at, body_made, same_place}
use Rattle.fort_elab_meaning.specs.Shapes.{shapes, held_by, types_by, variables_from, variable_types}
use Rattle.fort_elab_meaning.specs.Programs.{function_set, given, core_body, core_declaration, declarations_from, declarations_of_set, core_sets}
use Rattle.fort_front_law_decided.specs.Phases.{EachIsTranslated}
use Rattle.fort_front_law_decided.proofs.Placed.{HasBody, member_has_body}

-- ---- what is there

abbrev There : {X : Type 0} → Option X → Type 0
There {X} o = (x : X) × (o ≡ Some x)

abbrev AllThere : {X : Type 0} → List (Option X) → Type 0
AllThere [] = Unit {0}
AllThere (o ∷ os) = There o × AllThere os

there_map : {X Y : Type 0} (f : X → Y) (o : Option X) → There o → There (option_map f o)
there_map f o w = (f w.0, ap (option_map f) w.1)

taken : {X : Type 0} (os : List (Option X)) → AllThere os → (xs : List X) × (map Some xs ≡ os)
taken [] w = ([], refl)
taken (o ∷ os) w = let r = taken os w.1 in
    (w.0.0 ∷ r.0, ap (λ z. z ∷ map Some r.0) (sym w.0.1) ∙ ap (λ z. o ∷ z) r.1)

there_both : {X : Type 0} (os ps : List (Option X)) → AllThere os → AllThere ps
    → AllThere (os ++ ps)
there_both [] ps a b = b
there_both (o ∷ os) ps a b = (a.0, there_both os ps a.1 b)

there_all : {X Y : Type 0} (f : X → List (Option Y)) (xs : List X)
    → ((k : ℕ) (x : X) → slice_get xs k ≡ Some x → AllThere (f x)) → AllThere (flat_map f xs)
there_all f [] each = tt
there_all f (x ∷ xs) each =
    there_both (f x) (flat_map f xs) (each 0 x refl) (there_all f xs (λ k. each (suc k)))

-- ---- bodies

same_itself : (p : Place) → same_place p p ≡ true
same_itself p =
    ap (λ b. b && nat_eq p.column p.column) (eq-eqb p.line p.line refl)
    ∙ eq-eqb p.column p.column refl

first_found : (b : Bool) (t : Term) (o : Option Term) → b ≡ true → There (cond b (Some t) o)
first_found true t o e = (t, refl)
first_found false t o e = absurd cc

later_found : (b : Bool) (t : Term) (o : Option Term) → There o → There (cond b (Some t) o)
later_found true t o w = (t, refl)
later_found false t o w = w

-- a body's term is found by its place
found : (g : Given) (next : ℕ) (bs : List TypedBody) (p : Place) (k : ℕ) (b : TypedBody)
    → slice_get bs k ≡ Some b → b.place ≡ p → There (body_at (bodies g next bs) p)
found g next [] p k b e at = absurd cc
found g next (c ∷ bs) p zero b e at =
    let q : c ≡ b = cc in let here : c.place ≡ p = ap (λ (z : TypedBody). z.place) q ∙ at in
    let m = body_made g next c in
    first_found (same_place c.place p) m.term (body_at (bodies g m.counter.function bs) p)
    (subst (λ z. same_place c.place z ≡ true) here (same_itself c.place))
found g next (c ∷ bs) p (suc k) b e at =
    let m = body_made g next c in
    later_found (same_place c.place p) m.term (body_at (bodies g m.counter.function bs) p)
    (found g m.counter.function bs p k b e at)

-- ---- built-in declarations

left_or_right : {X : Type 0} (xs ys : List X) (k : ℕ) (x : X) → slice_get (xs ++ ys) k ≡ Some x
    → (slice_get xs k ≡ Some x) ⊎ ((j : ℕ) × (slice_get ys j ≡ Some x))
left_or_right [] ys k x e = inr (k, e)
left_or_right (y ∷ xs) ys zero x e = inl e
left_or_right (y ∷ xs) ys (suc k) x e = left_or_right xs ys k x e

of_map : {X Y : Type 0} (f : X → Y) (xs : List X) (k : ℕ) (y : Y) → slice_get (map f xs) k ≡ Some y
    → There (slice_get xs k)
of_map f [] k y e = absurd cc
of_map f (x ∷ xs) zero y e = (x, refl)
of_map f (x ∷ xs) (suc k) y e = of_map f xs k y e

in_map : {X Y : Type 0} (f : X → Y) (xs : List X) (k : ℕ) → There (slice_get xs k)
    → There (slice_get (map f xs) k)
in_map f [] k w = absurd (let e = w.1 in cc)
in_map f (x ∷ xs) zero w = (f x, refl)
in_map f (x ∷ xs) (suc k) w = in_map f xs k w

by_dotted : (dotted : Bool) (name : List ℕ) (width at : ℕ)
    → There (slice_get (built_in_of dotted name width) at)
    → There (slice_get (primitives_of name width) at)
by_dotted true name width at w = absurd (let e = w.1 in cc)
by_dotted false name width at w = in_map primitive_of (declarations_of name width) at w

primitive_there : (s : MemberSet) → HasBuiltInFirst s → (at : ℕ) (d : Member)
    → slice_get s.members at ≡ Some d → d.kind ≡ a_kind.BuiltIn
    → There (slice_get (primitives_of s.name (length d.parameters)) at)
primitive_there s first at d e k =
    let bs = built_in_of s.dotted s.name first.width in
    elim (left_or_right (map built_in_member bs) first.others at d
    (subst (λ z. slice_get z at ≡ Some d) first.are e)) as
    (λ _. There (slice_get (primitives_of s.name (length d.parameters)) at)) [
      | inl f ↦
          subst (λ z. There (slice_get (primitives_of s.name z) at)) (sym (first.all_wide at d e))
          (by_dotted s.dotted s.name first.width at (of_map built_in_member bs at d f))
      | inr f ↦ absurd (first.none_built_in f.0 d f.1 k)
    ]

-- ---- the declarations of a program

abbrev core_decl : Member → CoreBody → CoreDecl
core_decl d b = record { parameters = d.parameters; result = d.result; body = b }

module _ (c : Component) (m : Members) (groups : Groups) (k : Knows) (typed : Typed)
    (are : AreMembers c m) (types : HasTypes k (forms_of c groups) typed)
    (stand : BuiltInsStandFirst) where
  abbrev terms : List (Place × Term)
  terms = bodies (given m c.texts typed) 0 typed.bodies

  body_there : (p : Place) → HasBody (forms_of c groups).bodies p → There (body_at terms p)
  body_there p w =
      let t = types.each_body w.0 w.1 w.2 in
      found (given m c.texts typed) 0 typed.bodies p w.0 _ t.2 w.3

  module _ (n : ℕ) (s : MemberSet) (e : slice_get m.sets n ≡ Some s) where
    made : (at : ℕ) (d : Member) → slice_get s.members at ≡ Some d → (kind : MemberKind)
        → d.kind ≡ kind → There (core_body terms s at d kind)
    made at d f a_kind.BuiltIn q =
        there_map body.Primitive (slice_get (primitives_of s.name (length d.parameters)) at)
        (primitive_there s (stand c m are n s e) at d f q)
    made at d f (a_kind.Constructor t) q = (body.New t, refl)
    made at d f a_kind.Concrete q =
        let r = member_has_body c groups n s (subst (λ z. slice_get z n ≡ Some s) are.sets e) at d f q
        in let b = body_there r.0 r.2 in
        there_map body.Plain (option_and_then (body_at terms) d.place)
        (b.0, ap (option_and_then (body_at terms)) r.1 ∙ b.1)
    made at d f a_kind.Abstract q = (body.Abstract, refl)

    declared : (at : ℕ) (d : Member) → slice_get s.members at ≡ Some d
        → There (core_declaration terms s at d)
    declared at d f = there_map (core_decl d) (core_body terms s at d d.kind) (made at d f d.kind refl)

    from : (at : ℕ) (ds : List Member)
        → ((j : ℕ) (d : Member) → slice_get ds j ≡ Some d → There (core_declaration terms s (at + j) d))
        → AllThere (declarations_from terms s at ds)
    from at [] each = tt
    from at (d ∷ ds) each = (
      subst (λ z. There (core_declaration terms s z d)) (let q : at + 0 ≡ at = omega arith in q)
          (each 0 d refl),
      from (at + 1) ds (λ j x f. subst (λ z. There (core_declaration terms s z x))
          (let q : at + suc j ≡ at + 1 + j = omega arith in q) (each (suc j) x f)),
    )

    set_there : AllThere (declarations_of_set terms s)
    set_there = from 0 s.members (λ j d f. subst (λ z. There (core_declaration terms s z d))
        (let q : j ≡ 0 + j = omega arith in q) (declared j d f))

  all_there : AllThere (flat_map (declarations_of_set terms) m.sets)
  all_there = there_all (declarations_of_set terms) m.sets (λ n s e. set_there n s e)

pub translated_each : BuiltInsStandFirst → EachIsTranslated
translated_each stand c h m groups k typed are types =
    let terms = bodies (given m c.texts typed) 0 typed.bodies in
    let decls = taken (flat_map (declarations_of_set terms) m.sets)
    (all_there c m groups k typed are types stand) in
    let list = shapes c.texts typed.initials m in (
      record {
        types = h.table;
        built_in = BUILT_IN;
        type_names = h.names;
        shapes = list;
        sets = core_sets 0 m.sets;
        decls = decls.0;
        first = Call (function_set m (codes "run") 0) [];
        opening = variables_from c.texts typed.initials 0 m.variables ++ flat_map held_by list;
        opening_types = variable_types 0 m.variables ++ flat_map types_by list;
      },
      record {
        types = refl;
        built_in = refl;
        type_names = refl;
        shapes = refl;
        sets = refl;
        declarations = decls.1;
        first = refl;
        opening = refl;
        opening_types = refl;
      },
    )
