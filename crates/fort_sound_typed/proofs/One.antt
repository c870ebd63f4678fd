-- Each call of values in a typed term has one definition.
use Rattle.std.proofs.Common.{◌≡◌, List, [], ◌∷◌, map, ap, sym, ◌∙◌, subst, inl, inr}
use Rattle.fort_base.specs.declared.ids.SetId.{SetId}
use Rattle.fort_base.specs.declared.ty.Ty.{Ty}
use Rattle.fort_core.specs.declared.term.Term.{Term, Call, Operator, ReduceHalves, out-Term}
use Rattle.fort_core.specs.declared.term.Term as term
use Rattle.fort_core.specs.declared.term.Term.TheVariants.{outs-Call, outs-Operator, outs-ReduceHalves}
use Rattle.fort_core.specs.declared.value.Value.{Value}
use Rattle.fort_core.specs.declared.program.Program.{Program}
use Rattle.fort_machine.specs.Parts.{IsOneOf}
use Rattle.fort_machine.specs.OneDefinition.{Within, itself, in_term, in_value, WithinValue, in_part, in_body, IsCall, of_set, of_operator, of_halves, HasDefinition, IsOne}
use Rattle.fort_sound_typed.specs.Envs.{Sig, Env, binds, Part, plains}
use Rattle.fort_sound_typed.specs.Typing.{Called, Has, has, HasParts, parts0, parts1, HasV, has_v, HasVs, vs0, vs1}
use Rattle.fort_sound_typed.specs.Sound.{Defined}
use Rattle.fort_sound_typed.proofs.Facts.{Facts}
use Rattle.fort_sound_typed.proofs.Rules.{rule_at, value_has}

-- a term has some type, where some variables are bound
pub record Somehow (k : Program) (S : Sig) (u : Term) : Type 0 where
  pub env : Env
  pub type : Ty
  pub typed : Has k S env u type

module _ (k : Program) (S : Sig) where
  of_parts : {G : Env} {ts : List Term} {qs : List Part} (a : Term) → IsOneOf a ts
      → HasParts k S G ts qs → Somehow k S a
  of_parts a i parts0 = absurd i
  of_parts {G} a (inl e) (parts1 {q = q} n h hs) =
      record {
        env = binds q.vars G;
        type = q.type;
        typed = subst (λ u. Has k S (binds q.vars G) u q.type) (sym e) h;
      }
  of_parts a (inr i) (parts1 n h hs) = of_parts a i hs

  of_values : {vs : List Value} {ws : List Ty} (v : Value) → IsOneOf v vs → HasVs k S vs ws
      → (A : Ty) × HasV k S v A
  of_values v i vs0 = absurd i
  of_values v (inl e) (vs1 {A = A} h hs) = (A, subst (λ u. HasV k S u A) (sym e) h)
  of_values v (inr i) (vs1 h hs) = of_values v i hs

  mutual
    pub within_has : {u t : Term} (G : Env) (T : Ty) → Within u t → Has k S G t T → Somehow k S u
    within_has G T (itself e) h =
        record { env = G; type = T; typed = subst (λ z. Has k S G z T) (sym e) h }
    within_has G T (in_term {a = a} i w) (has R qs ws f ps vs b) =
        let s = of_parts a i ps in within_has s.env s.type w s.typed
    within_has G T (in_value {v = v} i w) (has R qs ws f ps vs b) =
        let s = of_values v i vs in within_value s.0 w s.1

    within_value : {u : Term} {v : Value} (T : Ty) → WithinValue u v → HasV k S v T → Somehow k S u
    within_value T (in_part {w = w} i n) (has_v R qs ws f ps vs b) =
        let s = of_values w i vs in within_value s.0 n s.1
    within_value T (in_body {a = a} i n) (has_v R qs ws f ps vs b) =
        let s = of_parts a i ps in within_has s.env s.type n s.typed

  module _ (o : Facts k) (d : Defined k) where
    arguments_have : {G : Env} (vs : List Value) (As : List Ty)
        → HasParts k S G (map term.Value vs) (plains As) → HasVs k S vs As
    arguments_have [] [] h = vs0
    arguments_have [] (A ∷ As) h = elim h [ ]
    arguments_have (v ∷ vs) [] h = elim h [ ]
    arguments_have (v ∷ vs) (A ∷ As) (parts1 n h hs) =
        vs1 (value_has k S o.transitive h) (arguments_have vs As hs)

    by_types : {G : Env} (set : SetId) (vs : List Value) (As : List Ty) (R : Ty) (qs : List Part)
        → Called k set As R → qs ≡ plains As → HasParts k S G (map term.Value vs) qs
        → HasDefinition k set vs
    by_types {G} set vs As R qs c e h =
        d S set vs As c.0 c.1
        (arguments_have vs As (subst (λ z. HasParts k S G (map term.Value vs) z) e h)) c.2

    call_defined : {G : Env} {T : Ty} (u : Term) (set : SetId) (vs : List Value) → IsCall u set vs
        → Has k S G u T → HasDefinition k set vs
    call_defined u set vs (of_set e) h =
        let r = rule_at k S (ap out-Term e ∙ outs-Call set (map term.Value vs)) h
        in by_types set vs r.fits.0 r.own r.qs r.fits.2 r.fits.1 r.parts
    call_defined u set vs (of_operator e) h =
        let r = rule_at k S (ap out-Term e ∙ outs-Operator set (map term.Value vs)) h
        in by_types set vs r.fits.0 r.own r.qs r.fits.2 r.fits.1 r.parts
    call_defined u set vs (of_halves a b q e) h =
        let r = rule_at k S (ap out-Term e ∙ outs-ReduceHalves set (term.Value a) (term.Value b)) h
        in
        subst (λ z. HasDefinition k set z) (sym q)
        (by_types set (a ∷ b ∷ []) (r.fits.0 ∷ r.fits.1 ∷ []) r.own r.qs r.fits.3 r.fits.2
        r.parts)

pub defined_in : (k : Program) → Facts k → Defined k → (S : Sig) (G : Env) (t : Term) (T : Ty)
    → Has k S G t T → IsOne k t
defined_in k o d S G t T h u set vs w c =
    let s = within_has k S G T w h in call_defined k S o d u set vs c s.typed
