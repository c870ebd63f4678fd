-- The program of a component is as it is written.
use Rattle.std.proofs.Common.{◌≡◌, ℕ, zero, suc, ◌+◌, Bool, true, false, cond, ◌||◌, ◌&&◌, List, [], ◌∷◌, ◌++◌, length, map, Option, Some, None, refl, sym, ap, ◌∙◌, subst}
use Rattle.std.specs.Prelude.{nat_lt, nat_eq, slice_get, filter_map, unwrap_or, codes}
use Rattle.std.specs.List.{list_any, concat, flat_map, cons_option}
use Rattle.std.proofs.lemmas.Bool.{le-ltb}
use Rattle.std.proofs.lemmas.List.{append-nil}
use Rattle.fort_base.specs.declared.ids.Loc.{Loc}
use Rattle.fort_base.specs.declared.ids.NameId.{NameId}
use Rattle.fort_base.specs.declared.ids.TypeId.{TypeId}
use Rattle.fort_base.specs.declared.refusal.Place.{Place}
use Rattle.fort_base.specs.declared.ty.Ty.{Ty}
use Rattle.fort_core.specs.declared.program.CoreBody.{CoreBody}
use Rattle.fort_core.specs.declared.program.CoreBody.TheVariants as body
use Rattle.fort_core.specs.declared.program.CoreDecl.{CoreDecl}
use Rattle.fort_core.specs.declared.program.CoreField.{CoreField}
use Rattle.fort_core.specs.declared.program.CoreKind.{CoreKind}
use Rattle.fort_core.specs.declared.program.CoreKind.TheVariants as kind
use Rattle.fort_core.specs.declared.program.CoreShape.{CoreShape}
use Rattle.fort_core.specs.declared.program.Program.{Program}
use Rattle.fort_core.specs.declared.term.Term.{Term, Call}
use Rattle.fort_core.specs.declared.value.Value.{Value}
use Rattle.fort_machine.specs.Acts.{unit}
use Rattle.fort_machine.specs.Calls.{constants}
use Rattle.fort_machine.specs.Written.{StandOnce, Written, first_term, AllWrittenValues, end_of_values, first_value, all_binders, functions_in, functions_in_value, term_of, constants_of, BindsPast, HaveNone, HaveConstants, Constructs, IsDeclared}
use Rattle.fort_types_sets.specs.declared.field.Field.{Field}
use Rattle.fort_types_sets.specs.declared.member.Members.{Members}
use Rattle.fort_types_sets.specs.declared.member.MemberSet.{MemberSet}
use Rattle.fort_form_typed.specs.declared.component.TypedBody.{TypedBody}
use Rattle.fort_types_builtin.specs.Objects.{place_behind, shapes_of, shapes_from}
use Rattle.fort_types_builtin.specs.Types.{BuiltInType, types}
use Rattle.fort_elab_meaning.specs.Parts.{Given}
use Rattle.fort_elab_meaning.specs.Bodies.{bodies}
use Rattle.fort_elab_meaning.specs.Values.{constant}
use Rattle.fort_elab_meaning.specs.Shapes.{Initial, same_owner, initial, core_field, own_shapes, shapes, variables_from, fields_from, held_at, held_by}
use Rattle.fort_elab_meaning.specs.Programs.{function_set, given}
use Rattle.fort_elab_law_written.specs.Matching.{Takes, Fills}
use Rattle.fort_elab_law_written.specs.Laws.{ProgramIsWritten}
use Rattle.fort_elab_law_written.proofs.Numbers.{Between, no_number, number}
use Rattle.fort_elab_law_written.proofs.Fine.{none, functions_in_all}
use Rattle.fort_elab_law_written.proofs.Forms.{fine-Call}
use Rattle.fort_elab_law_written.proofs.Calls.{still_functions}
use Rattle.fort_elab_law_written.proofs.Values.{Plain, plain_unit, plain_constant}
use Rattle.fort_elab_law_written.proofs.Bodies.{found}
use Rattle.fort_elab_law_written.proofs.Declarations.{IsMade, Comes, no_more, with_body, without, from_sets, terms_from, are_written, stand_once}

-- ---- fields that parameters fill

-- The fields without a constant, and those behind them.
record Divided (fs : List CoreField) (tys : List Ty) : Type 0 where
  pub awaited : List CoreField
  pub constant : List CoreField
  pub are_fields : fs ≡ awaited ++ constant
  pub have_none : HaveNone awaited
  pub have_constants : HaveConstants constant
  pub are_parameters : map (λ (f : CoreField). f.ty) awaited ≡ tys

divided : (fs : List CoreField) (tys : List Ty) → Takes fs tys → Divided fs tys
divided fs [] h =
    record {
      awaited = [];
      constant = fs;
      are_fields = refl;
      have_none = tt;
      have_constants = h;
      are_parameters = refl;
    }
divided [] (ty ∷ tys) h = absurd h
divided (f ∷ fs) (ty ∷ tys) h = let d = divided fs tys h.2 in record {
  awaited = f ∷ d.awaited;
  constant = d.constant;
  are_fields = ap (λ (gs : List CoreField). f ∷ gs) d.are_fields;
  have_none = (h.0, d.have_none);
  have_constants = d.have_constants;
  are_parameters =
      ap (λ (t : Ty). t ∷ map (λ (f : CoreField). f.ty) d.awaited) h.1 ∙ ap (λ
      (ts : List Ty). ty ∷ ts) d.are_parameters;
}

constructs : (p : Program) (id : TypeId) (tys : List Ty) → Fills p.shapes id tys
    → Constructs p id tys
constructs p id tys h = let s = h.shape in let d = divided s.fields tys h.takes in record {
  shape = s;
  is_shape = h.is_shape;
  awaited = d.awaited;
  constant = d.constant;
  are_fields = d.are_fields;
  have_none = d.have_none;
  have_constants = d.have_constants;
  are_parameters = d.are_parameters;
}

-- ---- declarations

past : {k hi : ℕ} (ns : List ℕ) → Between k hi ns → list_any (λ n. nat_lt n k) ns ≡ false
past [] no_number = refl
past {k} (n ∷ ns) (number l u h) =
    ap (λ b. b || list_any (λ n. nat_lt n k) ns) (le-ltb n k l) ∙ past ns h

made_is : (p : Program) (list : List CoreShape) (tys : List Ty) (b : CoreBody) → term_of b ≡ []
    → list ≡ p.shapes → IsMade list tys b → IsDeclared p tys b
made_is p list tys (body.Plain t) e q h = absurd cc
made_is p list tys (body.New id) e q h = constructs p id tys (subst (λ ss. Fills ss id tys) q h)
made_is p list tys _ e q h = tt

plain_is : (p : Program) (d : CoreDecl) (t : Term) → d.body ≡ body.Plain t
    → BindsPast d.parameters t → IsDeclared p d.parameters d.body
plain_is p d t e h = subst (IsDeclared p d.parameters) (sym e) h

declared : (p : Program) (list : List CoreShape) (bs : List TypedBody) (g : Given) {xs : List Place}
    (ds : List CoreDecl) → list ≡ p.shapes → Comes list bs (bodies g 0 bs) xs ds
    → (n : ℕ) (decl : CoreDecl) → slice_get ds n ≡ Some decl
    → IsDeclared p decl.parameters decl.body
declared p list bs g [] q no_more n decl z = absurd cc
declared p list bs g (d ∷ ds) q (with_body x ys t e i k h) zero decl z =
    let w : d ≡ decl = cc in let b = found g 0 _ bs x d.parameters t refl k i in
    subst (λ (c : CoreDecl). IsDeclared p c.parameters c.body) w
    (plain_is p d t e (past (all_binders t) b.binders))
declared p list bs g (d ∷ ds) q (with_body x ys t e i k h) (suc n) decl z =
    declared p list bs g ds q h n decl z
declared p list bs g (d ∷ ds) q (without e k h) zero decl z =
    let w : d ≡ decl = cc
    in subst (λ
    (c : CoreDecl). IsDeclared p c.parameters c.body) w
    (made_is p list d.parameters d.body e q k)
declared p list bs g (d ∷ ds) q (without e k h) (suc n) decl z =
    declared p list bs g ds q h n decl z

-- ---- constants

record AllPlain (vs : List Value) : Type 0 where
  pub are_written : AllWrittenValues vs
  pub functions : concat (map functions_in_value vs) ≡ []

no_plain : AllPlain []
no_plain = record { are_written = end_of_values; functions = refl }

plain_first : (v : Value) (vs : List Value) → Plain v → AllPlain vs → AllPlain (v ∷ vs)
plain_first v vs h k =
    record {
      are_written = first_value h.is_written k.are_written;
      functions =
          ap (λ (ns : List ℕ). ns ++ concat (map functions_in_value vs)) h.functions ∙ k.functions;
    }

plain_both : (vs ws : List Value) → AllPlain vs → AllPlain ws → AllPlain (vs ++ ws)
plain_both [] ws h k = k
plain_both (v ∷ vs) ws h k = go (λ i. plain_both vs ws i k) h.are_written h.functions
  where
    nothing : (ns ms : List ℕ) → ns ++ ms ≡ [] → (ns ≡ []) × (ms ≡ [])
    nothing [] ms e = (refl, e)
    nothing (n ∷ ns) ms e = absurd cc

    go : (AllPlain vs → AllPlain (vs ++ ws)) → AllWrittenValues (v ∷ vs)
        → functions_in_value v ++ concat (map functions_in_value vs) ≡ []
        → AllPlain (v ∷ (vs ++ ws))
    go r (first_value w ws1) e =
        let z = nothing (functions_in_value v) (concat (map functions_in_value vs)) e in
        plain_first v (vs ++ ws) (record { is_written = w; functions = z.0 })
        (r (record { are_written = ws1; functions = z.1 }))

abbrev MayBePlain : Option Value → Type 0
MayBePlain None = Unit {0}
MayBePlain (Some v) = Plain v

abbrev PlainFields : List CoreField → Type 0
PlainFields [] = Unit {0}
PlainFields (f ∷ fs) = MayBePlain f.initial × PlainFields fs

abbrev PlainShapes : List CoreShape → Type 0
PlainShapes [] = Unit {0}
PlainShapes (s ∷ ss) = PlainFields s.fields × PlainShapes ss

if_found : (b : Bool) (v : Value) (o : Option Value) → Plain v → MayBePlain o
    → MayBePlain (cond b (Some v) o)
if_found true v o h k = h
if_found false v o h k = k

plain_initial : (texts : List (List ℕ)) (is : List Initial) (owner : Option TypeId) (name : NameId)
    → MayBePlain (initial texts is owner name)
plain_initial texts [] owner name = tt
plain_initial texts (i ∷ is) owner name =
    if_found (same_owner i.0 owner
    && nat_eq i.1.0 name.0) (constant texts i.3) (initial texts is owner name)
    (plain_constant texts i.3) (plain_initial texts is owner name)

plain_or_unit : (o : Option Value) → MayBePlain o → Plain (unwrap_or o unit)
plain_or_unit None h = plain_unit
plain_or_unit (Some v) h = h

plain_fields : (texts : List (List ℕ)) (is : List Initial) (t : TypeId) (fs : List Field)
    → PlainFields (map (core_field texts is t) fs)
plain_fields texts is t [] = tt
plain_fields texts is t (f ∷ fs) =
    (plain_initial texts is (Some t) f.name, plain_fields texts is t fs)

plain_own : (texts : List (List ℕ)) (is : List Initial) (sets : List MemberSet) (t l : ℕ)
    (os : List Bool) (fss : List (List Field)) → PlainShapes (own_shapes texts is sets t l os fss)
plain_own texts is sets t l [] fss = tt
plain_own texts is sets t l (o ∷ os) [] = tt
plain_own texts is sets t l (o ∷ os) (fs ∷ fss) =
    (plain_fields texts is (record { 0 = t }) fs, plain_own texts is sets (t + 1) _ os fss)

plain_built_in : (rows : List BuiltInType) (l : ℕ) → PlainShapes (shapes_of rows l)
plain_built_in [] l = tt
plain_built_in (row ∷ rows) l = (tt, plain_built_in rows (place_behind l row.kind))

plain_append : (ss us : List CoreShape) → PlainShapes ss → PlainShapes us → PlainShapes (ss ++ us)
plain_append [] us h k = k
plain_append (s ∷ ss) us h k = (h.0, plain_append ss us h.1 k)

plain_shapes : (texts : List (List ℕ)) (is : List Initial) (m : Members)
    → PlainShapes (shapes texts is m)
unfolding shapes shapes_from
plain_shapes texts is m =
    plain_append (shapes_from (length m.variables)) _ (plain_built_in types (length m.variables))
    (plain_own texts is m.sets _ _ _ _)

constant_too : (o : Option Value) (vs : List Value) → MayBePlain o → AllPlain vs
    → AllPlain (cons_option o vs)
constant_too None vs h k = k
constant_too (Some v) vs h k = plain_first v vs h k

plain_constants : (fs : List CoreField) → PlainFields fs
    → AllPlain (filter_map (λ (f : CoreField). f.initial) fs)
plain_constants [] h = no_plain
plain_constants (f ∷ fs) h =
    constant_too f.initial (filter_map (λ
    (f : CoreField). f.initial) fs) h.0 (plain_constants fs h.1)

all_constants : (ss : List CoreShape) → PlainShapes ss → AllPlain (flat_map constants ss)
all_constants [] h = no_plain
all_constants (s ∷ ss) h =
    plain_both (constants s) (flat_map constants ss) (plain_constants s.fields h.0)
    (all_constants ss h.1)

-- ---- the opening store

abbrev values_at : List (Loc × Value) → List Value
values_at es = map (λ (e : Loc × Value). e.1) es

plain_variables : (texts : List (List ℕ)) (is : List Initial) (l : ℕ) (fs : List Field)
    → AllPlain (values_at (variables_from texts is l fs))
plain_variables texts is l [] = no_plain
plain_variables texts is l (f ∷ fs) =
    plain_first _ _
    (plain_or_unit (initial texts is None f.name) (plain_initial texts is None f.name))
    (plain_variables texts is (l + 1) fs)

fields_held : (l : ℕ) (fs : List CoreField) → PlainFields fs
    → AllPlain (values_at (fields_from l fs))
fields_held l [] h = no_plain
fields_held l (f ∷ fs) h =
    plain_first _ _ (plain_or_unit f.initial h.0) (fields_held (l + 1) fs h.1)

plain_held : (k : CoreKind) (fs : List CoreField) → PlainFields fs
    → AllPlain (values_at (held_at k fs))
plain_held (kind.Single l) [] h = plain_first _ _ plain_unit no_plain
plain_held (kind.Single l) (f ∷ fs) h = fields_held l.0 (f ∷ fs) h
plain_held kind.Trait fs h = no_plain
plain_held kind.Leaf fs h = no_plain
plain_held kind.Object fs h = no_plain

values_append : (es fs : List (Loc × Value)) → values_at (es ++ fs) ≡ values_at es ++ values_at fs
values_append [] fs = refl
values_append (e ∷ es) fs = ap (λ (vs : List Value). e.1 ∷ vs) (values_append es fs)

all_held : (ss : List CoreShape) → PlainShapes ss → AllPlain (values_at (flat_map held_by ss))
all_held [] h = no_plain
all_held (s ∷ ss) h =
    subst AllPlain (sym (values_append (held_by s) (flat_map held_by ss)))
    (plain_both _ _ (plain_held s.kind s.fields h.0) (all_held ss h.1))

-- ---- the program

plain_program : (texts : List (List ℕ)) (is : List Initial) (m : Members) (p : Program)
    → p.shapes ≡ shapes texts is m
    → p.opening ≡ variables_from texts is 0 m.variables ++ flat_map held_by p.shapes
    → AllPlain (constants_of p)
plain_program texts is m p e o = let h = subst PlainShapes (sym e) (plain_shapes texts is m) in
    plain_both (values_at p.opening) (flat_map constants p.shapes)
    (subst AllPlain
    (sym (ap values_at o
    ∙ values_append (variables_from texts is 0 m.variables) (flat_map held_by p.shapes)))
    (plain_both _ _ (plain_variables texts is 0 m.variables) (all_held p.shapes h)))
    (all_constants p.shapes h)

pub program_is_written : ProgramIsWritten
program_is_written h m texts typed p i k =
    let g = given m texts typed in let bs = typed.bodies in let list = shapes texts typed.initials m
    in
    let ds = from_sets list bs (bodies g 0 bs) m.sets p.decls i.declarations k.each in
    let f = fine-Call (function_set m (codes "run") 0) 0 0 0 0 [] none in
    let n = still_functions (Call (function_set m (codes "run") 0) [])
    (λ lo hi flo fhi. fine-Call (function_set m (codes "run") 0) lo hi flo fhi [] none) in
    let vs = plain_program texts typed.initials m p i.shapes i.opening in record {
      terms = first_term (subst Written (sym i.first) f.is_written)
          (are_written list bs g p.decls ds);
      values = vs.are_written;
      numbers =
          subst StandOnce
          (sym (ap (λ
          (ns : List ℕ). (ns ++ functions_in_all (terms_from p.decls))
          ++ concat (map functions_in_value (constants_of p))) (ap functions_in i.first ∙ n)
          ∙ ap (λ (ns : List ℕ). functions_in_all (terms_from p.decls) ++ ns) vs.functions
          ∙ append-nil (functions_in_all (terms_from p.decls)))) (stand_once list bs g p.decls
          k.places ds);
      declarations = λ d decl z. declared p list bs g p.decls (sym i.shapes) ds d.0 decl z;
    }
