-- The declarations and sets of the program of a component.
use Rattle.std.proofs.Common.{◌≡◌, ℕ, ◌+◌, List, Option, Some, None, refl, sym, ap, ◌∙◌, subst, arith}
use Rattle.std.specs.Prelude.{option_map, option_and_then, length}
use Rattle.std.specs.List.{slice_get, Contains}
use Rattle.fort_base.specs.declared.ids.DeclId.{DeclId}
use Rattle.fort_base.specs.declared.ids.SetId.{SetId}
use Rattle.fort_base.specs.declared.refusal.Place.{Place}
use Rattle.fort_types_builtin.specs.Declarations.{primitives_of}
use Rattle.fort_core.specs.declared.primitive.Primitive.{Primitive}
use Rattle.fort_core.specs.declared.program.CoreBody.TheVariants as body
use Rattle.fort_core.specs.declared.program.CoreDecl.{CoreDecl}
use Rattle.fort_core.specs.declared.program.CoreSet.{CoreSet}
use Rattle.fort_core.specs.declared.program.Program.{Program}
use Rattle.fort_core.specs.declared.term.Term.{Term}
use Rattle.fort_hier.specs.declared.accepted.Hierarchy.{Hierarchy}
use Rattle.fort_types_sets.specs.declared.member.Member.{Member}
use Rattle.fort_types_sets.specs.declared.member.MemberKind.{MemberKind}
use Rattle.fort_types_sets.specs.declared.member.MemberKind.TheVariants as a_kind
use Rattle.fort_types_sets.specs.declared.member.MemberSet.{MemberSet}
use Rattle.fort_types_sets.specs.declared.member.Members.{Members}
use Rattle.fort_types_sets.specs.Rules.{StandsAt}
use Rattle.fort_member_fields.proofs.Items.{get_of}
use Rattle.fort_member.proofs.SetLaws.{get_mapped, get_of_mapped}
use Rattle.fort_form_typed.specs.declared.component.Typed.{Typed}
use Rattle.fort_elab_meaning.specs.Bodies.{bodies, body_at}
use Rattle.fort_elab_meaning.specs.Programs.{given, core_body, numbers, IsProgramOf}
use Rattle.fort_sound_defined.specs.Sets.{IsMade, ComesFrom}
use Rattle.fort_sound_program.proofs.Placed.{nothing_plus, number_at, numbered_at, Became, became, Placed, placed, Origin, origin}

-- ---- only an abstract member is an abstract declaration

no_abstract_primitive : (o : Option Primitive) → option_map body.Primitive o ≡ Some body.Abstract
    → ⊥
no_abstract_primitive None e = absurd cc
no_abstract_primitive (Some f) e = absurd cc

no_abstract_term : (o : Option Term) → option_map body.Plain o ≡ Some body.Abstract → ⊥
no_abstract_term None e = absurd cc
no_abstract_term (Some t) e = absurd cc

abstract_only : (table : List (Place × Term)) (s : MemberSet) (at : ℕ) (m : Member)
    (kind : MemberKind) → core_body table s at m kind ≡ Some body.Abstract → kind ≡ a_kind.Abstract
abstract_only table s at m a_kind.BuiltIn e =
    absurd (no_abstract_primitive (slice_get (primitives_of s.name (length m.parameters)) at) e)
abstract_only table s at m (a_kind.Constructor t) e = absurd cc
abstract_only table s at m a_kind.Concrete e =
    absurd (no_abstract_term (option_and_then (body_at table) m.place) e)
abstract_only table s at m a_kind.Abstract e = refl

some_of : {X : Type 0} {x y : X} → Some x ≡ Some y → x ≡ y
some_of e = cc

abbrev pub decl_number : ℕ → DeclId
decl_number n = record { 0 = n }

module _ (h : Hierarchy) (m : Members) (texts : List (List ℕ)) (typed : Typed) (p : Program)
    (is : IsProgramOf h m texts typed p) where
  -- the terms of bodies by their places
  abbrev pub table : List (Place × Term)
  table = bodies (given m texts typed) 0 typed.bodies

  -- ---- a declaration is that of a member

  pub record Of (decl : CoreDecl) : Type 0 where
    pub number : ℕ
    pub set : MemberSet
    pub is_set : slice_get m.sets number ≡ Some set
    pub at : ℕ
    pub member : Member
    pub stands : StandsAt set at member
    pub became_it : Became table set at member decl

  of_origin : (decl : CoreDecl) → Origin table m.sets (Some decl) → Of decl
  of_origin decl o = record {
    number = o.number;
    set = o.set;
    is_set = o.is_set;
    at = o.at;
    member = o.member;
    stands = o.stands;
    became_it = became table o.set o.at o.member decl o.is;
  }

  pub member_of : (d : DeclId) (decl : CoreDecl) → slice_get p.decls d.0 ≡ Some decl → Of decl
  member_of d decl e =
      of_origin decl
      (origin table m.sets d.0 (Some decl) (ap (λ z. slice_get z d.0) (sym is.declarations)
      ∙ get_of_mapped Some p.decls d.0 decl e))

  -- ---- a set has the declarations of its members

  pub set_at : (set : SetId) (c : CoreSet) → slice_get p.sets set.0 ≡ Some c
      → Placed table 0 m.sets set.0 c
  set_at set c e = placed table 0 m.sets set.0 c (ap (λ z. slice_get z set.0) (sym is.sets) ∙ e)

  -- the declaration that a member became
  pub record Decl (w : MemberSet) (n i : ℕ) (x : Member) : Type 0 where
    pub decl : CoreDecl
    pub is_decl : slice_get p.decls (n + i) ≡ Some decl
    pub became_it : Became table w i x decl

  module _ (k : ℕ) (c : CoreSet) (w : Placed table 0 m.sets k c) where
    pub decl_at : (i : ℕ) (x : Member) → StandsAt w.set i x → Decl w.set w.base i x
    decl_at i x st =
        let g = get_mapped Some p.decls (w.base + i) _
        (ap (λ z. slice_get z (w.base + i)) is.declarations ∙ w.has i x st) in
        record { decl = g.0; is_decl = g.1; became_it = became table w.set i x g.0 g.2 }

    -- a declaration of the set, and its member
    pub record Both (d : DeclId) (decl : CoreDecl) : Type 0 where
      pub at : ℕ
      pub member : Member
      pub stands : StandsAt w.set at member
      pub became_it : Became table w.set at member decl

    pub decls_are : c.decls ≡ numbers w.base w.set.members
    decls_are = w.decls ∙ ap (λ n. numbers n w.set.members) (nothing_plus w.base)

    pub numbered : (i : ℕ) (d : DeclId) → slice_get c.decls i ≡ Some d
        → (x : Member) × StandsAt w.set i x × (d.0 ≡ w.base + i)
    numbered i d e =
        numbered_at w.base w.set.members i d (ap (λ z. slice_get z i) (sym decls_are) ∙ e)

    pub both : (d : DeclId) (decl : CoreDecl) → Contains c.decls d
        → slice_get p.decls d.0 ≡ Some decl → Both d decl
    both d decl within e =
        let g = get_of c.decls d within in
        let n = numbered g.0 d g.1 in
        let v = decl_at g.0 n.0 n.1 in
        let same : v.decl ≡ decl = some_of (sym v.is_decl ∙ ap (slice_get p.decls) (sym n.2) ∙ e) in
        record {
          at = g.0;
          member = n.0;
          stands = n.1;
          became_it = subst (Became table w.set g.0 n.0) same v.became_it;
        }

    is_made : (i : ℕ) (x : Member) → (v : Decl w.set w.base i x)
        → IsMade p (decl_number (w.base + i)) x
    is_made i x v = record {
      decl = v.decl;
      is_decl = v.is_decl;
      parameters = v.became_it.parameters;
      abstract_only = λ e. abstract_only table w.set i x x.kind (v.became_it.body_is ∙ ap Some e);
    }

    pub comes_from : ComesFrom p c w.set
    comes_from = record {
      made = λ i x st. (
        decl_number (w.base + i),
        ap (λ z. slice_get z i) decls_are
            ∙ number_at w.base w.set.members i x st,
        is_made i x (decl_at i x st),
      );
      makes = λ i d e. let n = numbered i d e in (n.0, n.1);
      once = λ i j d e f. let a = numbered i d e in let b = numbered j d f in let q = a.2
          in let r = b.2 in omega arith;
    }
