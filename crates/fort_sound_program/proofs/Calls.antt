-- Calls of the program: which declarations its sets have, `widen`, the operators of reductions, and
-- `run`.
use Rattle.std.proofs.Common.{◌≡◌, ℕ, zero, suc, ◌+◌, Bool, true, false, ◌&&◌, List, [], ◌∷◌, length, Some, refl, sym, ap, ◌∙◌, subst, arith, IsTrue}
use Rattle.std.specs.Prelude.{codes, Contains}
use Rattle.std.specs.List.{slice_get, AllByRecursion}
use Rattle.fort_base.specs.declared.ids.DeclId.{DeclId}
use Rattle.fort_base.specs.declared.ids.SetId.{SetId}
use Rattle.fort_base.specs.declared.ty.Ty.{Ty}
use Rattle.fort_types.specs.Types.{IsNumbered}
use Rattle.fort_types.specs.Relation.{relation}
use Rattle.fort_types.proofs.Orders.{itself}
use Rattle.fort_core.specs.declared.program.CoreDecl.{CoreDecl}
use Rattle.fort_core.specs.declared.program.CoreSet.{CoreSet}
use Rattle.fort_core.specs.declared.program.Program.{Program}
use Rattle.fort_machine.specs.Types.{all_below}
use Rattle.fort_lex_token.specs.declared.token.Tokens.{Tokens}
use Rattle.fort_tree.specs.declared.declarations.Component.{Component}
use Rattle.fort_tree.specs.declared.grouped.Groups.{Groups}
use Rattle.fort_hier.specs.declared.accepted.Hierarchy.{Hierarchy}
use Rattle.fort_hier.specs.Hierarchies.{declares}
use Rattle.fort_types_sets.specs.declared.member.Member.{Member}
use Rattle.fort_types_sets.specs.declared.member.MemberSet.{MemberSet}
use Rattle.fort_types_sets.specs.declared.member.Members.{Members}
use Rattle.fort_types_sets.specs.Rules.{StandsAt}
use Rattle.fort_member_fields.proofs.Items.{of_get, one}
use Rattle.fort_member.proofs.Numbered.{named_numbered}
use Rattle.fort_form_typed.specs.declared.component.Typed.{Typed}
use Rattle.fort_typing_known.specs.Sets.{is_set_of, first_set}
use Rattle.fort_typing_rules.specs.Types.{zz32, zz64, boolean}
use Rattle.fort_sound_typed.specs.Typing.{Called}
use Rattle.fort_elab_meaning.specs.Programs.{core_sets, function_set}
use Rattle.fort_sound_program.specs.Checked.{Checked}
use Rattle.fort_sound_program.proofs.BuiltInSets.{BuiltIn, widening, built_in_first}
use Rattle.fort_sound_program.proofs.BuiltInTypes.{counted}
use Rattle.fort_sound_program.proofs.Declared.{table, set_at, decls_are, decl_at, decl_number}
use Rattle.fort_sound_program.proofs.Order.{computed}
use Rattle.fort_sound_program.proofs.Placed.{number_at, Placed}

-- a set of members has its set in the program
set_there : (n : ℕ) (ss : List MemberSet) (k : ℕ) (s : MemberSet) → slice_get ss k ≡ Some s
    → (c : CoreSet) × (slice_get (core_sets n ss) k ≡ Some c)
set_there n [] k s e = absurd cc
set_there n (x ∷ ss) zero s e = (_, refl)
set_there n (x ∷ ss) (suc k) s e = set_there (n + length x.members) ss k s e

abbrev pub set_number : ℕ → SetId
set_number n = record { 0 = n }

module _ (tokens : Tokens) (c : Component) (h : Hierarchy) (m : Members) (groups : Groups)
    (typed : Typed) (p : Program) (ok : Checked tokens c h m groups typed p) where
  -- the declaration that a member of a set became
  pub record Declared (set : SetId) (d : Member) : Type 0 where
    pub members : CoreSet
    pub number : DeclId
    pub decl : CoreDecl
    pub is_set : slice_get p.sets set.0 ≡ Some members
    pub is_member : Contains members.decls number
    pub is_decl : slice_get p.decls number.0 ≡ Some decl
    pub parameters : decl.parameters ≡ d.parameters
    pub result : decl.result ≡ d.result

  pub declared : (set : SetId) (s : MemberSet) (i : ℕ) (d : Member)
      → slice_get m.sets set.0 ≡ Some s → StandsAt s i d → Declared set d
  declared set s i d e st =
      let w = set_there 0 m.sets set.0 s e in
      let at = ap (λ z. slice_get z set.0) ok.program.sets ∙ w.1 in
      let x = set_at h m c.texts typed p ok.program set w.0 at in
      let same : x.set ≡ s = one m.sets set.0 s x.set e x.is_set in
      go w.0 at x (subst (λ (z : MemberSet). StandsAt z i d) (sym same) st)
    where
      go : (core : CoreSet) → slice_get p.sets set.0 ≡ Some core
          → (x : Placed (table h m c.texts typed p ok.program) 0 m.sets set.0 core)
          → StandsAt x.set i d → Declared set d
      go core at x st =
          let v = decl_at h m c.texts typed p ok.program set.0 core x i d st in
          record {
            members = core;
            number = decl_number (x.base + i);
            decl = v.decl;
            is_set = at;
            is_member =
                of_get core.decls i (decl_number (x.base + i))
                (ap (λ z. slice_get z i) (decls_are h m c.texts typed p ok.program set.0 core x)
                ∙ number_at x.base x.set.members i d st);
            is_decl = v.is_decl;
            parameters = v.became_it.parameters;
            result = v.became_it.result;
          }

  -- each of its own types
  all_itself : (ts : List Ty) → AllByRecursion (IsNumbered (length (declares c))) ts
      → IsTrue (all_below p ts ts)
  all_itself [] h = refl
  all_itself (t ∷ ts) w =
      both (relation p.types.below t true t) (all_below p ts ts)
      (computed c h ok.hierarchy p ok.program.types t t w.0 (itself (declares c) t))
      (all_itself ts w.1)
    where
      both : (a b : Bool) → IsTrue a → IsTrue b → IsTrue (a && b)
      both true b e f = f
      both false b e f = absurd (let z : false ≡ true = e in cc)

  -- a call with the types of the parameters themselves
  pub called : (set : SetId) (s : MemberSet) (i : ℕ) (d : Member) (ts : List Ty) (result : Ty)
      → slice_get m.sets set.0 ≡ Some s → StandsAt s i d → d.parameters ≡ ts → d.result ≡ result
      → AllByRecursion (IsNumbered (length (declares c))) ts → Called p set ts result
  called set s i d ts result e st are is numbered =
      let w = declared set s i d e st in (
        w.number,
        w.decl,
        record {
          members = w.members;
          is_set = w.is_set;
          is_member = w.is_member;
          is_decl = w.is_decl;
          applies =
              subst (λ z. IsTrue (all_below p ts z)) (sym (w.parameters ∙ are))
              (all_itself ts numbered);
        },
        sym (w.result ∙ is),
      )

  pub called_built_in : (name : List ℕ) (t : Ty) (ts : List Ty) (result : Ty)
      → BuiltIn name (t ∷ ts) result → AllByRecursion (IsNumbered (length (declares c))) (t ∷ ts)
      → Called p (set_number (first_set (is_set_of name false (length (t ∷ ts))) m.sets)) (t ∷ ts)
      result
  called_built_in name t ts result b numbered =
      let w = built_in_first c m ok.members name t ts result b in
      called (set_number (first_set (is_set_of name false (length (t ∷ ts))) m.sets)) w.0 w.1 w.2
      (t ∷ ts) result w.3 w.4 w.5 w.6 numbered

  -- ---- the built-in types

  pub small_numbered : IsNumbered (length (declares c)) zz32
  small_numbered = let n = counted c in named_numbered (length (declares c)) _ (omega arith)

  pub large_numbered : IsNumbered (length (declares c)) zz64
  large_numbered = let n = counted c in named_numbered (length (declares c)) _ (omega arith)

  pub truth_numbered : IsNumbered (length (declares c)) boolean
  truth_numbered = let n = counted c in named_numbered (length (declares c)) _ (omega arith)

  pub widens : Called p (function_set m (codes "widen") 1) (zz32 ∷ []) zz64
  widens = called_built_in (codes "widen") zz32 [] zz64 widening (small_numbered, tt)
