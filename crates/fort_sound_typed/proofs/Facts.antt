-- What of an accepted program the proofs stand on.
use Rattle.std.proofs.Common.{◌≡◌, ℕ, IsTrue, List, Some}
use Rattle.std.specs.Prelude.{slice_get}
use Rattle.fort_base.specs.declared.ids.DeclId.{DeclId}
use Rattle.fort_base.specs.declared.ids.NameId.{NameId}
use Rattle.fort_base.specs.declared.ids.SetId.{SetId}
use Rattle.fort_base.specs.declared.ids.TypeId.{TypeId}
use Rattle.fort_base.specs.declared.ty.Ty.{Ty, Tuple, out-Ty}
use Rattle.fort_base.specs.declared.ty.Ty.TheVariants.{Named}
use Rattle.fort_core.specs.declared.primitive.Primitive.{Primitive}
use Rattle.fort_core.specs.declared.program.CoreBody.TheVariants as body
use Rattle.fort_core.specs.declared.program.CoreDecl.{CoreDecl}
use Rattle.fort_core.specs.declared.program.CoreShape.{CoreShape}
use Rattle.fort_core.specs.declared.program.Program.{Program}
use Rattle.fort_core.specs.declared.term.Term.{Term}
use Rattle.fort_core.specs.declared.value.Value.{Value}
use Rattle.fort_machine.specs.Types.{below}
use Rattle.fort_machine.specs.Primitives.{gives, makes_text, throws, prints, answer_of}
use Rattle.fort_machine.specs.Acts.{single}
use Rattle.fort_machine.specs.Calls.{IsApplicable, IsMoreSpecific}
use Rattle.fort_machine.specs.Journals.{opening_store}
use Rattle.fort_sound_typed.specs.Envs.{Sig, none, binds}
use Rattle.fort_sound_typed.specs.Typing.{Below, unit_type, thrown_type, ShapeOf, Makes, FieldOf, Has, HasV, HasVs}
use Rattle.fort_sound_typed.specs.Signatures.{parameters_of, result_of}
use Rattle.fort_sound_typed.specs.Sound.{opening, numbered, IsFailure, NewFits, StoreOk}
use Rattle.fort_sound_typed.proofs.Shapes.{AllBelow, Shape}

-- what a built-in declaration answers to typed values
pub record AnswerFits (k : Program) (S : Sig) (f : Primitive) (vs : List Value)
    (R : Ty) : Type 0 where
  pub given : (v : Value) → answer_of k f vs ≡ gives v → HasV k S v R
  pub text : (s : List ℕ) → answer_of k f vs ≡ makes_text s → Below k (Named k.built_in.text) R
  pub printed : (s : List ℕ) → answer_of k f vs ≡ prints s → Below k unit_type R
  pub thrown : (id : TypeId) → answer_of k f vs ≡ throws id → IsFailure k id

pub record Facts (k : Program) : Type 0 where
  pub reflexive : (A : Ty) → Below k A A
  pub transitive : (A B C : Ty) → Below k A B → Below k B C → Below k A C
  pub shape : (A B : Ty) → Below k A B → Shape k (out-Ty A) (out-Ty B)
  pub absorbs : (A B C : Ty) → Below k A B → IsTrue (below k B C) → IsTrue (below k A C)
  pub tuples : (As Bs : List Ty) → AllBelow k As Bs → Below k (Tuple As) (Tuple Bs)
  pub leaf : (i j : TypeId) (s : CoreShape) → ShapeOf k j s → Makes s.kind
      → Below k (Named i) (Named j) → i ≡ j
  pub fields : (i j : TypeId) (f : NameId) (A : Ty) (s : CoreShape) → FieldOf k j f A
      → ShapeOf k i s → Makes s.kind → Below k (Named i) (Named j)
      → (B : Ty) × FieldOf k i f B × Below k B A
  pub results : (set : SetId) (ts us : List Ty) (d e : DeclId) (decl other : CoreDecl)
      → IsApplicable k set ts d decl → IsApplicable k set us e other
      → IsMoreSpecific k decl other → Below k decl.result other.result
  pub bodies : (d : DeclId) (decl : CoreDecl) (t : Term) → slice_get k.decls d.0 ≡ Some decl
      → decl.body ≡ body.Plain t
      → Has k (opening k) (binds (numbered 0 decl.parameters) none) t decl.result
  pub signatures : (d : DeclId) (decl : CoreDecl) (f : Primitive)
      → slice_get k.decls d.0 ≡ Some decl → decl.body ≡ body.Primitive f
      → (decl.parameters ≡ parameters_of k f) × (decl.result ≡ result_of k f)
  pub primitives : (S : Sig) (d : DeclId) (decl : CoreDecl) (f : Primitive) (vs : List Value)
      → slice_get k.decls d.0 ≡ Some decl → decl.body ≡ body.Primitive f
      → HasVs k S vs decl.parameters → AnswerFits k S f vs decl.result
  pub constructors : (d : DeclId) (decl : CoreDecl) (id : TypeId)
      → slice_get k.decls d.0 ≡ Some decl → decl.body ≡ body.New id → NewFits k id decl
  pub opened : StoreOk k (opening k) (opening_store k)
  pub first : Has k (opening k) none k.first unit_type
  pub failures : (id : TypeId) (v : Value) → IsFailure k id → single k id ≡ Some v
      → HasV k (opening k) v (thrown_type k)
