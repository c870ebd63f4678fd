-- What a declaration does that typed values are passed to.
use Rattle.std.proofs.Common.{◌≡◌, ℕ, ◌+◌, ◌<◌, ◌==◌, false, List, [], ◌∷◌, ◌++◌, map, Option, Some, None, refl, ap, sym, ◌∙◌, subst, arith, rules}
use Rattle.std.specs.Prelude.{slice_get, option_map}
use Rattle.std.proofs.lemmas.Option.{slice_get-map}
use Rattle.fort_base.specs.declared.ids.DeclId.{DeclId}
use Rattle.fort_base.specs.declared.ids.TypeId.{TypeId}
use Rattle.fort_base.specs.declared.ty.Ty.{Ty}
use Rattle.fort_base.specs.declared.ty.Ty.TheVariants.{Named}
use Rattle.fort_core.specs.declared.primitive.Primitive.{Primitive}
use Rattle.fort_core.specs.declared.program.CoreBody.{CoreBody}
use Rattle.fort_core.specs.declared.program.CoreBody.TheVariants as body
use Rattle.fort_core.specs.declared.program.CoreDecl.{CoreDecl}
use Rattle.fort_core.specs.declared.program.CoreField.{CoreField}
use Rattle.fort_core.specs.declared.program.CoreShape.{CoreShape}
use Rattle.fort_core.specs.declared.term.Term.{Term}
use Rattle.fort_core.specs.declared.value.Value.{Value}
use Rattle.fort_core.specs.declared.value.Value.TheVariants.{outs-Text, outs-Object}
use Rattle.fort_core.specs.declared.program.Program.{Program}
use Rattle.fort_machine.specs.Primitives.{Answer, gives, makes_text, throws, prints, ends, nothing, answer_of}
use Rattle.fort_machine.specs.Substitution.{substituted_all}
use Rattle.fort_machine.specs.Calls.{by_number, by_answer, constants, constructing, by_body}
use Rattle.fort_sound_typed.specs.Envs.{fixed, Sig, none, binds, Distinct, named}
use Rattle.fort_sound_typed.specs.Typing.{Has, HasVs, parts0, vs0, vs1}
use Rattle.fort_sound_typed.specs.Sound.{Up, opening, numbered, NewFits}
use Rattle.fort_sound_typed.proofs.Facts.{AnswerFits, Facts}
use Rattle.fort_sound_typed.proofs.Bind.{bind_other}
use Rattle.fort_sound_typed.proofs.Rules.{has_value, has_v_at}
use Rattle.fort_sound_typed.proofs.Grow.{grow, grow_vs}
use Rattle.fort_sound_typed.proofs.Substituted.{replaces}
use Rattle.fort_sound_typed.proofs.Good.{Good, failing_good, unit_has}

other : (n m : ℕ) → n < m → (m == n) ≡ false
other n m h = search (rules, h)

number_fresh : (As : List Ty) (n m : ℕ) → n < m → binds (numbered m As) none n ≡ None
number_fresh [] n m h = refl
number_fresh (A ∷ As) n m h =
    bind_other m (fixed A) (binds (numbered (m + 1) As) none) n (other n m h)
    ∙ number_fresh As n (m + 1) (omega arith)

numbers_distinct : (As : List Ty) (n : ℕ) → Distinct (numbered n As)
numbers_distinct [] n = tt
numbers_distinct (A ∷ As) n = (number_fresh As n (n + 1) (omega arith), numbers_distinct As (n + 1))

module _ (k : Program) (o : Facts k) (S : Sig) (opens : Up (opening k) S) where
  numbers_named : (n : ℕ) (vs : List Value) (As : List Ty) → HasVs k S vs As
      → named (by_number n vs) As ≡ numbered n As
  numbers_named n [] [] h = refl
  numbers_named n [] (A ∷ As) h = elim h [ ]
  numbers_named n (v ∷ vs) [] h = elim h [ ]
  numbers_named n (v ∷ vs) (A ∷ As) (vs1 h hs) =
      ap (λ r. (n, fixed A) ∷ r) (numbers_named (n + 1) vs As hs)

  numbers_have : (n : ℕ) (vs : List Value) (As : List Ty) → HasVs k S vs As
      → HasVs k S (map (λ (h : ℕ × Value). h.1) (by_number n vs)) As
  numbers_have n [] [] h = vs0
  numbers_have n [] (A ∷ As) h = elim h [ ]
  numbers_have n (v ∷ vs) [] h = elim h [ ]
  numbers_have n (v ∷ vs) (A ∷ As) (vs1 h hs) = vs1 h (numbers_have (n + 1) vs As hs)

  pub append_has : (vs us : List Value) (As Bs : List Ty) → HasVs k S vs As → HasVs k S us Bs
      → HasVs k S (vs ++ us) (As ++ Bs)
  append_has [] us [] Bs vs0 i = i
  append_has [] us (A ∷ As) Bs h i = elim h [ ]
  append_has (v ∷ vs) us [] Bs h i = elim h [ ]
  append_has (v ∷ vs) us (A ∷ As) Bs (vs1 h hs) i = vs1 h (append_has vs us As Bs hs i)

  plain_good : (t : Term) (vs : List Value) (As : List Ty) (R : Ty)
      → Has k (opening k) (binds (numbered 0 As) none) t R → HasVs k S vs As
      → Has k S none (substituted_all (by_number 0 vs) t) R
  plain_good t vs As R h i = let e = numbers_named 0 vs As i in
      replaces k o.transitive o.reflexive S (by_number 0 vs) As t (numbers_have 0 vs As i)
      (subst Distinct (sym e) (numbers_distinct As 0))
      (subst (λ z. Has k S (binds z none) t R) (sym e) (grow k (opening k) S opens h))

  answer_good : (f : Primitive) (vs : List Value) (R : Ty) → AnswerFits k S f vs R → (a : Answer)
      → answer_of k f vs ≡ a → Good k S (by_answer k a) R
  answer_good f vs R n (gives v) e = has_value k S o.reflexive (n.given v e)
  answer_good f vs R n (makes_text s) e =
      has_value k S o.reflexive
      (has_v_at k S (outs-Text s)
      (record {
        own = Named k.built_in.text;
        qs = [];
        ws = [];
        fits = refl;
        parts = parts0;
        values = vs0;
        below = n.text s e;
      }))
  answer_good f vs R n (throws id) e = failing_good k o S opens id R (n.thrown id e)
  answer_good f vs R n (prints s) e = unit_has k o S opens (n.printed s e)
  answer_good f vs R n ends e = tt
  answer_good f vs R n nothing e = tt

  new_good : (id : TypeId) (decl : CoreDecl) (vs : List Value) → NewFits k id decl
      → HasVs k S vs decl.parameters → (s : Option CoreShape) → slice_get k.shapes id.0 ≡ s
      → Good k S (constructing id vs s) decl.result
  new_good id decl vs n h None e = tt
  new_good id decl vs n h (Some s) e =
      let z : Some n.shape ≡ Some s = sym n.is_shape ∙ e in let y : n.shape ≡ s = cc in
      subst (λ (u : CoreShape). Good k S (constructing id vs (Some u)) decl.result) y (
        decl.parameters ++ n.types,
        append_has vs (constants n.shape) decl.parameters n.types h
            (grow_vs k (opening k) S opens n.constants_have),
        λ S' l u q. has_value k S' o.reflexive
            (has_v_at k S' (outs-Object id (record { 0 = l })) (record {
              own = Named id;
              qs = [];
              ws = [];
              fits = (
                record {
                  shape = n.shape;
                  is_shape = n.is_shape;
                  is_made = n.is_made;
                  located =
                      λ m c x. q m c.ty (ap (λ Ts. slice_get Ts m) (sym n.fields) ∙ slice_get-map (λ
                      (c : CoreField). c.ty) n.shape.fields m
                      ∙ ap (option_map (λ (c : CoreField). c.ty)) x);
                },
                refl,
              );
              parts = parts0;
              values = vs0;
              below = n.result;
            })),
      )

  -- a declaration keeps the type of its result
  pub body_good : (d : DeclId) (decl : CoreDecl) (vs : List Value)
      → slice_get k.decls d.0 ≡ Some decl → HasVs k S vs decl.parameters → (b : CoreBody)
      → decl.body ≡ b → Good k S (by_body k b vs) decl.result
  body_good d decl vs e h (body.Plain t) q =
      plain_good t vs decl.parameters decl.result (o.bodies d decl t e q) h
  body_good d decl vs e h (body.Primitive f) q =
      answer_good f vs decl.result (o.primitives S d decl f vs e q h) (answer_of k f vs) refl
  body_good d decl vs e h body.Abstract q = tt
  body_good d decl vs e h (body.New id) q =
      new_good id decl vs (o.constructors d decl id e q) h (slice_get k.shapes id.0) refl
