-- A declaration with a body has the term of the body at its place.
use Rattle.std.proofs.Common.{◌≡◌, ℕ, List, Option, Some, None, refl, sym, ap, ◌∙◌, subst}
use Rattle.std.specs.Prelude.{option_map, option_and_then, length}
use Rattle.std.specs.List.{slice_get}
use Rattle.fort_base.specs.declared.refusal.Place.{Place}
use Rattle.fort_types_builtin.specs.Declarations.{primitives_of}
use Rattle.fort_core.specs.declared.primitive.Primitive.{Primitive}
use Rattle.fort_core.specs.declared.program.CoreBody.TheVariants as body
use Rattle.fort_core.specs.declared.program.Program.{Program}
use Rattle.fort_core.specs.declared.term.Term.{Term}
use Rattle.fort_hier.specs.declared.accepted.Hierarchy.{Hierarchy}
use Rattle.fort_types_sets.specs.declared.member.Member.{Member}
use Rattle.fort_types_sets.specs.declared.member.MemberKind.{MemberKind}
use Rattle.fort_types_sets.specs.declared.member.MemberKind.TheVariants as a_kind
use Rattle.fort_types_sets.specs.declared.member.MemberSet.{MemberSet}
use Rattle.fort_types_sets.specs.declared.member.Members.{Members}
use Rattle.fort_form_typed.specs.declared.component.Typed.{Typed}
use Rattle.fort_sound_typed.specs.Envs.{none, binds}
use Rattle.fort_sound_typed.specs.Typing.{Has}
use Rattle.fort_sound_typed.specs.Sound.{opening, numbered}
use Rattle.fort_elab_meaning.specs.Bodies.{body_at}
use Rattle.fort_elab_meaning.specs.Programs.{core_body, IsProgramOf}
use Rattle.fort_sound_program.specs.Laws.{BodiesHave, MembersHave}
use Rattle.fort_sound_program.proofs.Declared.{table, member_of}
use Rattle.fort_sound_program.proofs.Flat.{some_of}

same_term : {t u : Term} → body.Plain t ≡ body.Plain u → t ≡ u
same_term e = cc

no_primitive : (o : Option Primitive) (t : Term) → option_map body.Primitive o ≡ Some (body.Plain t)
    → ⊥
no_primitive None t e = absurd cc
no_primitive (Some f) t e = absurd cc

-- the place of the body, and its term
record At (terms : List (Place × Term)) (place : Option Place) (t : Term) : Type 0 where
  pub at : Place
  pub is_place : place ≡ Some at
  pub is_body : body_at terms at ≡ Some t

found : (terms : List (Place × Term)) (x : Place) (o : Option Term) (t : Term) → body_at terms x ≡ o
    → option_map body.Plain o ≡ Some (body.Plain t) → body_at terms x ≡ Some t
found terms x None t q e = absurd cc
found terms x (Some u) t q e = q ∙ ap Some (same_term (some_of e))

at_place : (terms : List (Place × Term)) (place : Option Place) (t : Term)
    → option_map body.Plain (option_and_then (body_at terms) place) ≡ Some (body.Plain t)
    → At terms place t
at_place terms None t e = absurd cc
at_place terms (Some x) t e =
    record { at = x; is_place = refl; is_body = found terms x (body_at terms x) t refl e }

plain_kind : (terms : List (Place × Term)) (s : MemberSet) (at : ℕ) (m : Member) (kind : MemberKind)
    (t : Term) → core_body terms s at m kind ≡ Some (body.Plain t)
    → (kind ≡ a_kind.Concrete) × At terms m.place t
plain_kind terms s at m a_kind.BuiltIn t e =
    absurd (no_primitive (slice_get (primitives_of s.name (length m.parameters)) at) t e)
plain_kind terms s at m (a_kind.Constructor u) t e = absurd cc
plain_kind terms s at m a_kind.Concrete t e = (refl, at_place terms m.place t e)
plain_kind terms s at m a_kind.Abstract t e = absurd cc

module _ (h : Hierarchy) (m : Members) (texts : List (List ℕ)) (typed : Typed) (p : Program)
    (is : IsProgramOf h m texts typed p) where
  pub bodies_have : MembersHave m texts typed p → BodiesHave p
  bodies_have all d decl t e q =
      let o = member_of h m texts typed p is d decl e in
      let w = plain_kind (table h m texts typed p is) o.set o.at o.member o.member.kind t
      (o.became_it.body_is ∙ ap Some q) in
      subst (λ T. Has p (opening p) (binds (numbered 0 decl.parameters) none) t T)
      (sym o.became_it.result)
      (subst (λ ts. Has p (opening p) (binds (numbered 0 ts) none) t o.member.result)
      (sym o.became_it.parameters)
      (all o.number o.set o.is_set o.at o.member o.stands w.0 w.1.at w.1.is_place t w.1.is_body))
