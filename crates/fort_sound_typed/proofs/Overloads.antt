-- The rules on overloading give each call of typed values its definition.
use Rattle.std.proofs.Common.{◌≡◌, ◌≢◌, ℕ, zero, suc, List, [], ◌∷◌, map, Some, refl, ap, sym, ◌∙◌, subst, inl, inr}
use Rattle.std.specs.Prelude.{slice_get}
use Rattle.fort_base.specs.declared.ids.SetId.{SetId}
use Rattle.fort_base.specs.declared.ids.TypeId.{TypeId}
use Rattle.fort_base.specs.declared.ids.DeclId.{DeclId}
use Rattle.fort_base.specs.declared.ty.Ty.{Ty, out-Ty}
use Rattle.fort_base.specs.declared.ty.Ty.TheVariants as ty
use Rattle.fort_base.specs.declared.ty.Ty.TheOpen.{Ty-F}
use Rattle.fort_core.specs.declared.program.CoreDecl.{CoreDecl}
use Rattle.fort_core.specs.declared.program.Program.{Program}
use Rattle.fort_core.specs.declared.term.Term.{Term}
use Rattle.fort_core.specs.declared.term.Term.TheOpen.{Value-F}
use Rattle.fort_core.specs.declared.value.Closure.{Closure}
use Rattle.fort_core.specs.declared.value.Value.{Value, out-Value}
use Rattle.fort_types.specs.Types.{bottom, parts, shape_of, Solid, solid_one, solid_all}
use Rattle.fort_machine.specs.Parts.{values_of}
use Rattle.fort_machine.specs.Types.{domain_of, type_of}
use Rattle.fort_machine.specs.Calls.{IsApplicable}
use Rattle.fort_machine.specs.OneDefinition.{HasDefinition}
use Rattle.fort_sound_typed.specs.Envs.{Sig, Part}
use Rattle.fort_sound_typed.specs.Typing.{FitsV, HasV, has_v, HasVs, vs0, vs1}
use Rattle.fort_sound_typed.specs.Overloads.{IsOfValues, KeepsRules, RulesDefine}
use Rattle.fort_sound_typed.proofs.Facts.{Facts}
use Rattle.fort_sound_typed.proofs.Owns.{absorb, owns_have, out_type, closure_type}
use Rattle.fort_sound_typed.proofs.Accepted.{facts}

-- what a value's own type is
pub record OfValue (k : Program) (t : Ty) : Type 0 where
  pub solid : Solid t
  pub declared : (id : TypeId) → out-Ty t ≡ Ty-F.Named id → IsOfValues k id

abbrev EachOf : Program → List Ty → Type 0
EachOf k [] = Unit {0}
EachOf k (t ∷ ts) = OfValue k t × EachOf k ts

each_solid : (k : Program) (ts : List Ty) → EachOf k ts → (n : ℕ) (t : Ty) → slice_get ts n ≡ Some t
    → OfValue k t
each_solid k [] h n t e = absurd cc
each_solid k (u ∷ ts) h zero t e = let z : u ≡ t = cc in subst (OfValue k) z h.0
each_solid k (u ∷ ts) h (suc n) t e = each_solid k ts h.1 n t e

-- by its shape
shaped : (k : Program) (t : Ty) (y : Ty-F Ty) → out-Ty t ≡ y → shape_of y ≢ bottom
    → shape_of y ≢ parts → ((id : TypeId) → y ≡ Ty-F.Named id → IsOfValues k id) → OfValue k t
shaped k t y e nb np d =
    record {
      solid =
          solid_one (λ q. nb (sym (ap shape_of e) ∙ q)) (λ q. np (sym (ap shape_of e) ∙ q));
      declared = λ id q. d id (sym e ∙ q);
    }

named : (k : Program) (t : Ty) (b : TypeId) → out-Ty t ≡ Ty-F.Named b → IsOfValues k b → OfValue k t
named k t b e h =
    shaped k t (Ty-F.Named b) e (λ q. cc) (λ q. cc) (λ id q. let z : b ≡ id = cc
    in subst (IsOfValues k) z h)

module _ (k : Program) (o : Facts k) (S : Sig) where
  of_kind : (v : Value) (b : TypeId) → type_of k v ≡ ty.Named b → IsOfValues k b
      → OfValue k (type_of k v)
  of_kind v b e h = named k (type_of k v) b (ap out-Ty e ∙ ty.outs-Named b) h

  own_at : (v : Value) (R : Ty) (qs : List Part) (ws : List Ty) (y : Value-F Term Value Closure)
      → out-Value v ≡ y → FitsV k S y qs ws R → EachOf k (map (type_of k) (values_of y))
      → OfValue k (type_of k v)
  own_at v R qs ws (Value-F.Small n) e f h =
      of_kind v k.built_in.small (out_type k o S v _ e) (inl (inl refl))
  own_at v R qs ws (Value-F.Large n) e f h =
      of_kind v k.built_in.large (out_type k o S v _ e) (inl (inr (inl refl)))
  own_at v R qs ws (Value-F.Text s) e f h =
      of_kind v k.built_in.text (out_type k o S v _ e) (inl (inr (inr (inl refl))))
  own_at v R qs ws (Value-F.Truth b) e f h =
      of_kind v k.built_in.truth (out_type k o S v _ e) (inl (inr (inr (inr (inl refl)))))
  own_at v R qs ws (Value-F.Range n m) e f h =
      of_kind v k.built_in.range (out_type k o S v _ e) (inl (inr (inr (inr (inr refl)))))
  own_at v R qs ws (Value-F.Object id base) e f h =
      of_kind v id (out_type k o S v _ e) (inr (f.0.shape, f.0.is_shape, f.0.is_made))
  own_at v R qs ws (Value-F.Tuple vs) e f h =
      let q = ap out-Ty (out_type k o S v _ e) ∙ ty.outs-Tuple (map (type_of k) vs) in
      record {
        solid = solid_all q (λ n t r. (each_solid k (map (type_of k) vs) h n t r).solid);
        declared = λ id r. let z : Ty-F.Tuple (map (type_of k) vs) ≡ Ty-F.Named id = sym q ∙ r
            in absurd cc;
      }
  own_at v R qs ws (Value-F.Array t base n) e f h =
      shaped k (type_of k v) (Ty-F.Array t) (ap out-Ty (out_type k o S v _ e)
      ∙ ty.outs-Array t) (λ q. cc) (λ q. cc) (λ id q. absurd cc)
  own_at v R qs ws (Value-F.Function c) e f h =
      shaped k (type_of k v) (Ty-F.Arrow (domain_of c.parameters) c.result)
      (ap out-Ty (out_type k o S v _ e ∙ closure_type k o S c)
      ∙ ty.outs-Arrow (domain_of c.parameters) c.result) (λ q. cc) (λ q. cc)
      (λ id q. absurd cc)

  mutual
    own_solid : {v : Value} {T : Ty} → HasV k S v T → OfValue k (type_of k v)
    own_solid {v} (has_v R qs ws f ps vs b) = own_at v R qs ws (out-Value v) refl f (owns_solid vs)

    owns_solid : {vs : List Value} {As : List Ty} → HasVs k S vs As → EachOf k (map (type_of k) vs)
    owns_solid vs0 = tt
    owns_solid (vs1 h hs) = (own_solid h, owns_solid hs)

  defined : KeepsRules k
      → (set : SetId) (vs : List Value) (As : List Ty) (d : DeclId) (decl : CoreDecl)
      → HasVs k S vs As → IsApplicable k set As d decl → HasDefinition k set vs
  defined rules set vs As d decl h a =
      let ts = map (type_of k) vs in
      let each = owns_solid h in
      let i = owns_have k o S h in
      let own : IsApplicable k set ts d decl =
      record {
        members = a.members;
        is_set = a.is_set;
        is_member = a.is_member;
        is_decl = a.is_decl;
        applies = absorb k o ts As decl.parameters i.1 a.applies;
      } in
      let one =
      rules set ts d decl
      (record {
        solid = λ n t e. (each_solid k ts each n t e).solid;
        declared = λ n t id e q. (each_solid k ts each n t e).declared id q;
      }) own in
      record {
        number = one.number;
        decl = one.decl;
        runs = record { most_specific = one.most_specific; no_other = one.no_other };
        concrete = one.concrete;
      }

pub rules_define : RulesDefine
rules_define k o rules S set vs As d decl h a = defined k (facts k o) S rules set vs As d decl h a
