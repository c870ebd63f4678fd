-- Built-in declarations have their signatures.
use Rattle.std.proofs.Common.{◌≡◌, inl, inr, ℕ, zero, suc, Bool, true, false, cond, List, [], ◌∷◌, length, map, Option, Some, None, refl, sym, ap, ◌∙◌, subst}
use Rattle.std.specs.Prelude.{filter, option_map, option_and_then}
use Rattle.std.specs.List.{slice_get, AllByRecursion}
use Rattle.fort_base.specs.declared.refusal.Place.{Place}
use Rattle.fort_core.specs.declared.primitive.Primitive.{Primitive}
use Rattle.fort_core.specs.declared.program.BuiltIn.{BuiltIn}
use Rattle.fort_core.specs.declared.program.CoreBody.TheVariants as body
use Rattle.fort_core.specs.declared.program.CoreDecl.{CoreDecl}
use Rattle.fort_core.specs.declared.program.Program.{Program}
use Rattle.fort_core.specs.declared.term.Term.{Term}
use Rattle.fort_types_builtin.specs.declared.table.BuiltInDeclaration.{BuiltInDeclaration}
use Rattle.fort_types_builtin.specs.declared.types.TheConstants.{BUILT_IN}
use Rattle.fort_types_builtin.specs.Declarations.{declarations, has, declarations_of, primitive_of, primitives_of}
use Rattle.fort_types_sets.specs.declared.member.Member.{Member}
use Rattle.fort_types_sets.specs.declared.member.MemberKind.{MemberKind}
use Rattle.fort_types_sets.specs.declared.member.MemberKind.TheVariants as a_kind
use Rattle.fort_types_sets.specs.declared.member.MemberSet.{MemberSet}
use Rattle.fort_types_sets.specs.Rules.{StandsAt}
use Rattle.fort_member.specs.BuiltIn.{built_in_member}
use Rattle.fort_member.specs.Laws.{built_in_of, HasBuiltInFirst}
use Rattle.fort_member.proofs.Numbered.{all_item}
use Rattle.fort_member.proofs.SetLaws.{get_mapped, get_of_mapped}
use Rattle.fort_sound_typed.specs.Signatures.{parameters_of, result_of}
use Rattle.fort_elab_meaning.specs.Bodies.{body_at}
use Rattle.fort_elab_meaning.specs.Programs.{core_body}
use Rattle.fort_sound_program.proofs.Placed.{either_side, Became}

-- the program with the numbers of the built-in types
abbrev with_built_in : Program → BuiltIn → Program
with_built_in p b = record p { built_in = b }

-- a declaration has the signature of what it is to the machine
abbrev pub Signed : Program → BuiltInDeclaration → Type 0
Signed p d = (d.parameters ≡ parameters_of p d.primitive) × (d.result ≡ result_of p d.primitive)

all_signed : (p : Program) → AllByRecursion (Signed (with_built_in p BUILT_IN)) declarations
unfolding declarations
all_signed p = ((refl, refl), ((refl, refl), ((refl, refl), ((refl, refl), ((refl, refl), ((refl, refl), ((refl, refl), ((refl, refl), ((refl, refl), ((refl, refl), ((refl, refl), ((refl, refl), ((refl, refl), ((refl, refl), ((refl, refl), ((refl, refl), ((refl, refl), ((refl, refl), ((refl, refl), ((refl, refl), ((refl, refl), ((refl, refl), ((refl, refl), ((refl, refl), ((refl, refl), ((refl, refl), ((refl, refl), ((refl, refl), ((refl, refl), ((refl, refl), ((refl, refl), ((refl, refl), ((refl, refl), ((refl, refl), ((refl, refl), ((refl, refl), ((refl, refl), ((refl, refl), ((refl, refl), ((refl, refl), ((refl, refl), ((refl, refl), ((refl, refl), ((refl, refl), ((refl, refl), ((refl, refl), ((refl, refl), ((refl, refl), ((refl, refl), ((refl, refl), ((refl, refl), ((refl, refl), ((refl, refl), ((refl, refl), ((refl, refl), ((refl, refl), ((refl, refl), ((refl, refl), ((refl, refl), ((refl, refl), ((refl, refl), ((refl, refl), ((refl, refl), ((refl, refl), ((refl, refl), ((refl, refl), ((refl, refl), ((refl, refl), ((refl, refl), tt)))))))))))))))))))))))))))))))))))))))))))))))))))))))))))))))))))))

pub signed : (p : Program) → p.built_in ≡ BUILT_IN → AllByRecursion (Signed p) declarations
signed p e = subst (λ b. AllByRecursion (Signed (with_built_in p b)) declarations) (sym e) (all_signed p)

-- what is left of a list is of it
left_step : {X : Type 0} (y x : X) (fs xs : List X) (i : ℕ) (b : Bool) → ((i : ℕ) → slice_get fs i ≡ Some x → (j : ℕ) × (slice_get xs j ≡ Some x)) → slice_get (cond b (y ∷ fs) fs) i ≡ Some x
    → (j : ℕ) × (slice_get (y ∷ xs) j ≡ Some x)
left_step y x fs xs zero true rest e = (0, e)
left_step y x fs xs (suc i) true rest e = let w = rest i e in (suc w.0, w.1)
left_step y x fs xs i false rest e = let w = rest i e in (suc w.0, w.1)

pub of_filtered : {X : Type 0} (test : X → Bool) (xs : List X) (i : ℕ) (x : X) → slice_get (filter test xs) i ≡ Some x → (j : ℕ) × (slice_get xs j ≡ Some x)
of_filtered test [] i x e = absurd cc
of_filtered test (y ∷ xs) i x e = left_step y x (filter test xs) xs i (test y) (λ j f. of_filtered test xs j x f) e

some_of : {X : Type 0} {x y : X} → Some x ≡ Some y → x ≡ y
some_of e = cc

module _ (p : Program) (built_in : p.built_in ≡ BUILT_IN) where
  abbrev Fits : Member → Primitive → Type 0
  Fits m f = (m.parameters ≡ parameters_of p f) × (m.result ≡ result_of p f)

  -- the built-in declaration at a position of a set
  at_position : (dotted : Bool) (name : List ℕ) (width at : ℕ) (m : Member) (f : Primitive) → slice_get (primitives_of name width) at ≡ Some f
      → (d : BuiltInDeclaration) → slice_get (built_in_of dotted name width) at ≡ Some d → built_in_member d ≡ m → Fits m f
  at_position true name width at m f e d g q = absurd cc
  at_position false name width at m f e d g q =
      let w = of_filtered (has name width) declarations at d g in
      let s = all_item (Signed p) declarations w.0 d (signed p built_in) w.1 in
      let same : d.primitive ≡ f = some_of (sym (get_of_mapped primitive_of (declarations_of name width) at d g) ∙ e) in
      subst (λ (z : Member). Fits z f) q (s.0 ∙ ap (parameters_of p) same, s.1 ∙ ap (result_of p) same)

  in_set : (s : MemberSet) → HasBuiltInFirst s → (at : ℕ) (m : Member) (f : Primitive) → StandsAt s at m → m.kind ≡ a_kind.BuiltIn → slice_get (primitives_of s.name (length m.parameters)) at ≡ Some f → Fits m f
  in_set s first at m f st k e = elim (either_side (map built_in_member (built_in_of s.dotted s.name first.width)) first.others at m (ap (λ z. slice_get z at) (sym first.are) ∙ st)) as (λ _. Fits m f) [
    | inl g ↦ (let w = get_mapped built_in_member (built_in_of s.dotted s.name first.width) at m g in
        at_position s.dotted s.name first.width at m f (ap (λ n. slice_get (primitives_of s.name n) at) (sym (first.all_wide at m st)) ∙ e) w.0 w.1 w.2)
    | inr v ↦ absurd (first.none_built_in v.0 m v.2 k)
  ]

  a_primitive : (o : Option Primitive) (f : Primitive) → option_map body.Primitive o ≡ Some (body.Primitive f) → o ≡ Some f
  a_primitive None f e = absurd cc
  a_primitive (Some g) f e = let z : body.Primitive g ≡ body.Primitive f = cc in let y : g ≡ f = cc in ap Some y

  no_term : (o : Option Term) (f : Primitive) → option_map body.Plain o ≡ Some (body.Primitive f) → ⊥
  no_term None f e = absurd cc
  no_term (Some t) f e = absurd cc

  by_kind : (table : List (Place × Term)) (s : MemberSet) → HasBuiltInFirst s → (at : ℕ) (m : Member) (f : Primitive) (kind : MemberKind) → m.kind ≡ kind → StandsAt s at m
      → core_body table s at m kind ≡ Some (body.Primitive f) → Fits m f
  by_kind table s first at m f a_kind.BuiltIn k st e = in_set s first at m f st k (a_primitive (slice_get (primitives_of s.name (length m.parameters)) at) f e)
  by_kind table s first at m f (a_kind.Constructor t) k st e = absurd cc
  by_kind table s first at m f a_kind.Concrete k st e = absurd (no_term (option_and_then (body_at table) m.place) f e)
  by_kind table s first at m f a_kind.Abstract k st e = absurd cc

  -- what a member became that is built in
  pub primitive_signed : (table : List (Place × Term)) (s : MemberSet) → HasBuiltInFirst s → (at : ℕ) (m : Member) (decl : CoreDecl) (f : Primitive) → StandsAt s at m → Became table s at m decl
      → decl.body ≡ body.Primitive f → (decl.parameters ≡ parameters_of p f) × (decl.result ≡ result_of p f)
  primitive_signed table s first at m decl f st b e =
      let w = by_kind table s first at m f m.kind refl st (b.body_is ∙ ap Some e) in (b.parameters ∙ w.0, b.result ∙ w.1)
