-- What typing gives is translated to one program.
use Rattle.std.proofs.Common.{◌≡◌, ℕ, List, [], ◌∷◌, ◌++◌, Option, Some, map, refl, sym, ap, ◌∙◌}
use Rattle.std.specs.List.{flat_map}
use Rattle.fort_base.specs.declared.ids.Loc.{Loc}
use Rattle.fort_base.specs.declared.table.TypeTable.{TypeTable}
use Rattle.fort_base.specs.declared.ty.Ty.{Ty}
use Rattle.fort_core.specs.declared.program.BuiltIn.{BuiltIn}
use Rattle.fort_core.specs.declared.program.CoreDecl.{CoreDecl}
use Rattle.fort_core.specs.declared.program.CoreSet.{CoreSet}
use Rattle.fort_core.specs.declared.program.CoreShape.{CoreShape}
use Rattle.fort_core.specs.declared.program.Program.{Program}
use Rattle.fort_core.specs.declared.term.Term.{Term}
use Rattle.fort_core.specs.declared.value.Value.{Value}
use Rattle.fort_elab_meaning.specs.Shapes.{held_by, types_by, variables_from, variable_types}
use Rattle.fort_front_law_phases.specs.Phases.{OneTranslation}

-- what is there by turns, and nothing else
same_some : {X : Type 0} (xs ys : List X) → map Some xs ≡ map Some ys → xs ≡ ys
same_some [] [] e = refl
same_some [] (y ∷ ys) e = absurd cc
same_some (x ∷ xs) [] e = absurd cc
same_some {X} (x ∷ xs) (y ∷ ys) e =
    let h : Some x ≡ Some y = cc in
    let t : map Some xs ≡ map Some ys = cc in
    let q : x ≡ y = cc in
    ap (λ z. z ∷ xs) q ∙ ap (λ z. y ∷ z) (same_some xs ys t)

abbrev program : TypeTable → BuiltIn → List (List ℕ) → List CoreShape → List CoreSet → List CoreDecl
    → Term → List (Loc × Value) → List (Loc × Ty) → Program
program t b n h s d f o k = record {
  types = t;
  built_in = b;
  type_names = n;
  shapes = h;
  sets = s;
  decls = d;
  first = f;
  opening = o;
  opening_types = k;
}

same : (p q : Program) → p.types ≡ q.types → p.built_in ≡ q.built_in → p.type_names ≡ q.type_names
    → p.shapes ≡ q.shapes → p.sets ≡ q.sets → p.decls ≡ q.decls → p.first ≡ q.first
    → p.opening ≡ q.opening → p.opening_types ≡ q.opening_types → p ≡ q
same p q t b n h s d f o k =
    ap (λ z. program z p.built_in p.type_names p.shapes p.sets p.decls p.first p.opening
    p.opening_types) t
    ∙ ap (λ z. program q.types z p.type_names p.shapes p.sets p.decls p.first p.opening
    p.opening_types) b
    ∙ ap (λ z. program q.types q.built_in z p.shapes p.sets p.decls p.first p.opening
    p.opening_types) n
    ∙ ap (λ z. program q.types q.built_in q.type_names z p.sets p.decls p.first p.opening
    p.opening_types) h
    ∙ ap (λ z. program q.types q.built_in q.type_names q.shapes z p.decls p.first p.opening
    p.opening_types) s
    ∙ ap (λ z. program q.types q.built_in q.type_names q.shapes q.sets z p.first p.opening
    p.opening_types) d
    ∙ ap (λ z. program q.types q.built_in q.type_names q.shapes q.sets q.decls z p.opening
    p.opening_types) f
    ∙ ap (λ z. program q.types q.built_in q.type_names q.shapes q.sets q.decls q.first z
    p.opening_types) o
    ∙ ap (λ z. program q.types q.built_in q.type_names q.shapes q.sets q.decls q.first q.opening z)
    k

pub program_once : OneTranslation
program_once h m texts typed p q a b =
    let shapes = a.shapes ∙ sym b.shapes in
    same p q (a.types ∙ sym b.types) (a.built_in ∙ sym b.built_in) (a.type_names
    ∙ sym b.type_names) shapes (a.sets ∙ sym b.sets)
    (same_some p.decls q.decls (a.declarations ∙ sym b.declarations)) (a.first ∙ sym b.first)
    (a.opening ∙ ap (λ
    (z : List CoreShape). variables_from texts typed.initials 0 m.variables
    ++ flat_map held_by z) shapes ∙ sym b.opening)
    (a.opening_types ∙ ap (λ
    (z : List CoreShape). variable_types 0 m.variables ++ flat_map types_by z) shapes
    ∙ sym b.opening_types)
