-- What a `case`, a `typecase`, a `try` and an assignment answer is exact where their parts are.
use Rattle.std.proofs.Common.{◌≡◌, ◌⊎◌, inl, inr, true, List, [], ◌∷◌, ◌++◌, map, Option, Some, None, refl, ap, ◌∙◌, sym, subst}
use Rattle.std.specs.List.{AllByRecursion}
use Rattle.fort_base.specs.declared.ids.NameId.{NameId}
use Rattle.fort_base.specs.declared.refusal.Place.{Place}
use Rattle.fort_base.specs.declared.rules.TheConstants.{MISMATCH}
use Rattle.fort_base.specs.declared.ty.Ty.{Ty}
use Rattle.fort_scope.specs.declared.binding.Binding.{Binding}
use Rattle.fort_form.specs.declared.form.Form.{Form}
use Rattle.fort_form.specs.declared.form.TypeBranch.{TypeBranch, out-TypeBranch}
use Rattle.fort_form_typed.specs.declared.typed_form.TypedForm.{TypedForm}
use Rattle.fort_typing_known.specs.declared.fault.Fault.{Fault}
use Rattle.fort_typing_known.specs.Known.{Knows}
use Rattle.fort_typing_rules.specs.Calls.{Calls}
use Rattle.fort_typing_rules.specs.Types.{fault, IsWidest, HasNoWidest}
use Rattle.fort_typing_rules.specs.Typing as rule
use Rattle.fort_typing_rules.specs.Breaking as breaking
use Rattle.fort_typing_meaning.specs.declared.frame.Want.TheVariants as a_want
use Rattle.fort_typing_meaning.specs.declared.frame.Slot.{Slot}
use Rattle.fort_typing_meaning.specs.declared.frame.Slot.TheVariants as a_slot
use Rattle.fort_typing_meaning.specs.declared.frame.Frame.{Frame}
use Rattle.fort_typing_meaning.specs.Tests.{widest}
use Rattle.fort_typing_meaning.specs.Parts.{Clause, State, opened, is_broken, kept, ask, ask_with, back_to, cases}
use Rattle.fort_typing_meaning.specs.Closing.{by_widest}
use Rattle.fort_typing_meaning.specs.Judging.{judged, judged_clause}
use Rattle.fort_typing_meaning.proofs.Levels.{clause-is}
use Rattle.fort_typing_law_rules.specs.Deciding.{IsType, AreTypes, IsAccepted}
use Rattle.fort_typing_law_rules.specs.Written.{IsWritten, AreBound}
use Rattle.fort_typing_law_rules.specs.Exact.{IsFirst, FormBreaks, Answers, IsExactExpression}
use Rattle.fort_typing_law_rules.proofs.Written.{ClauseWritten}
use Rattle.fort_typing_law_rules.proofs.Typed.{clause-bound}
use Rattle.fort_typing_law_rules.proofs.Wide.{widest_is_computed, widest_told, none_told}
use Rattle.fort_typing_law_rules.proofs.Answered.{value_, st, clause_goes, one_behind, nothing_behind, cases-answered}
use Rattle.fort_typing_law_rules.proofs.Asking.{Asked, kept_there, lacking, ask-exact}
use Rattle.fort_typing_law_rules.proofs.Firsts.{no_more, alike, both}
use Rattle.fort_typing_law_rules.proofs.Steps.{typed-so, refused-so}
use Rattle.fort_typing_law_rules.proofs.Scopes.{some-not-none}

module _ (k : Knows) (A : IsAccepted k) where
  -- ---- the widest type of parts

  -- where the parts of a form have types, it has the widest of some of them, or breaks 603 at its
  -- place
  pub widest-so : (bs : List Binding) (e : Form) (found new : Option Fault) (P : Fault → Type 0)
      (p : Place) (types : List Ty) (made : Ty → TypedForm) → AreTypes k types → IsFirst found P new
      → ((f : Fault) → P f → FormBreaks k bs e f)
      → (Own : Fault → Type 0) → ((f : Fault) → FormBreaks k bs e f → P f ⊎ Own f)
      → ((f : Fault) → Own f → HasNoWidest k types × (f ≡ fault MISMATCH p))
      → ((ty : Ty) → IsWidest k types ty → rule.Has k (Calls k) bs e (made ty))
      → (HasNoWidest k types → FormBreaks k bs e (fault MISMATCH p))
      → (judged_answer : (judged k.facts e).answer bs found
      ≡ by_widest p (widest k.facts types) new made)
      → Answers k bs e found ((judged k.facts e).answer bs found)
  widest-so bs e found new P p types made T i to Own from own has none q =
      by (widest k.facts types) refl
    where
      by : (o : Option Ty) → widest k.facts types ≡ o
          → Answers k bs e found ((judged k.facts e).answer bs found)
      by (Some ty) w =
          typed-so k A bs e found new P _ i to (made ty) (has ty (widest_told k A types T ty w))
          back (q ∙ ap (λ (o : Option Ty). by_widest p o new made) w)
        where
          back : (f : Fault) → FormBreaks k bs e f → P f
          back f b =
              elim (from f b) [
                | inl c ↦ c
                | inr c ↦ some-not-none w (widest_is_computed.none k A types T (own f c).0)
              ]
      by None w =
          refused-so k A bs e found new P _ i to MISMATCH p (none (none_told k A types T w)) back (q
          ∙ ap (λ (o : Option Ty). by_widest p o new made) w)
        where
          back : (f : Fault) → FormBreaks k bs e f → P f ⊎ (f ≡ fault MISMATCH p)
          back f b = elim (from f b) [ inl c ↦ inl c | inr c ↦ inr (own f c).1 ]

  -- ---- clauses by types

  abbrev pub ClauseExact : TypeBranch → Type 0
  ClauseExact b = IsExactExpression k (out-TypeBranch b).value

  abbrev pub AreClauses : List TypeBranch → Type 0
  AreClauses branches = AllByRecursion ClauseExact branches

  -- a part that is asked with one binding more
  pub data AskedWith (bs : List Binding) (name : Option (Place × NameId)) (ty : Ty) (d : Form)
      (slot : Slot) (wf : Frame) (found : Option Fault) (s : State) : Type 0 where
    kept_with : (t : TypedForm) (new : Option Fault)
        → rule.HasAs k (Calls k) (rule.with_clause bs name ty) rule.a_value d t
        → IsFirst found (breaking.BreaksAs k (rule.with_clause bs name ty) rule.a_value d) new
        → s ≡ st (kept slot t wf) bs new → AskedWith bs name ty d slot wf found s
    lacking_with : (f : Fault) (new : Option Fault)
        → breaking.BreaksAs k (rule.with_clause bs name ty) rule.a_value d f
        → IsFirst found (breaking.BreaksAs k (rule.with_clause bs name ty) rule.a_value d) new
        → s ≡ st (is_broken wf) bs new → AskedWith bs name ty d slot wf found s

  pub ask-with-exact : (bs : List Binding) (B : AreBound k bs) (name : Option (Place × NameId))
      (ty : Ty) (T : IsType k ty) (d : Form) (W : IsWritten k d) (X : IsExactExpression k d)
      (slot : Slot) (wf : Frame) (found : Option Fault)
      → AskedWith bs name ty d slot wf found
      (ask_with k.facts name ty slot (judged k.facts d) (st wf bs found))
  unfolding ask_with
  ask-with-exact bs B name ty T d W X slot wf found =
      by (ask-exact k A (rule.with_clause bs name ty) (clause-bound k A bs name ty B T) d W X
      rule.a_value a_want.Value slot wf found value_)
    where
      inner : State
      inner = ask k.facts slot a_want.Value (judged k.facts d)
          (st wf (rule.with_clause bs name ty) found)

      by : Asked k A (rule.with_clause bs name ty) (clause-bound k A bs name ty B T) d W X
          rule.a_value slot wf found
          (ask k.facts slot a_want.Value (judged k.facts d)
          (st wf (rule.with_clause bs name ty) found))
          → AskedWith bs name ty d slot wf found
          (back_to bs
          (ask k.facts slot a_want.Value (judged k.facts d)
          (st wf (rule.with_clause bs name ty) found)))
      by (kept_there t new h i e) =
          kept_with t new h i (ap (back_to bs) e ∙ ap (λ
          (cs : List Binding). st (kept slot t wf) cs new) (clause_goes k A bs name ty))
      by (lacking f new b i e) =
          lacking_with f new b i (ap (back_to bs) e ∙ ap (λ
          (cs : List Binding). st (is_broken wf) cs new) (clause_goes k A bs name ty))

  pub data Cased (bs : List Binding) (name : Option (Place × NameId)) (branches : List TypeBranch)
      (wf : Frame) (found : Option Fault) (s : State) : Type 0 where
    all_cased : (vs : List TypedForm) (new : Option Fault)
        → rule.HasCases k (Calls k) bs name branches vs
        → IsFirst found (breaking.BreaksCases k bs name branches) new
        → s ≡ st (record wf { second = wf.second ++ vs }) bs new → Cased bs name branches wf found s
    one_lacking : (f : Fault) (new : Option Fault) (x : Frame)
        → breaking.BreaksCases k bs name branches f
        → IsFirst found (breaking.BreaksCases k bs name branches) new → s ≡ st x bs new
        → x.broken ≡ true → x.lost ≡ wf.lost
        → x.head ≡ wf.head → Cased bs name branches wf found s

  none-cased : (bs : List Binding) (name : Option (Place × NameId)) (f : Fault)
      → breaking.BreaksCases k bs name [] f → ⊥
  none-cased bs name f (breaking.in_this_case b more e c) = absurd cc
  none-cased bs name f (breaking.in_next_case b more e c) = absurd cc

  module _ (bs : List Binding) (B : AreBound k bs) (name : Option (Place × NameId)) where
    abbrev OneCase : TypeBranch → Fault → Type 0
    OneCase b f =
        breaking.BreaksAs k (rule.with_clause bs name (rule.clause_type b)) rule.a_value
        (out-TypeBranch b).value f

    cases-of : (b : TypeBranch) (more : List TypeBranch) (f : Fault)
        → breaking.BreaksCases k bs name (b ∷ more) f
        → OneCase b f ⊎ breaking.BreaksCases k bs name more f
    cases-of b more f (breaking.in_this_case c cs e x) =
        inl (subst (λ (y : TypeBranch). OneCase y f) (let q : c ≡ b = cc in q) x)
    cases-of b more f (breaking.in_next_case c cs e x) =
        inr (subst (λ (ys : List TypeBranch). breaking.BreaksCases k bs name ys f)
        (let q : cs ≡ more = cc in q) x)

    cases-made : (b : TypeBranch) (more : List TypeBranch) (f : Fault)
        → OneCase b f ⊎ breaking.BreaksCases k bs name more f
        → breaking.BreaksCases k bs name (b ∷ more) f
    cases-made b more f (inl x) = breaking.in_this_case b more refl x
    cases-made b more f (inr x) = breaking.in_next_case b more refl x

    case-first : (b : TypeBranch) (more : List TypeBranch) (found mid new : Option Fault)
        → IsFirst found (OneCase b) mid → IsFirst mid (breaking.BreaksCases k bs name more) new
        → IsFirst found (breaking.BreaksCases k bs name (b ∷ more)) new
    case-first b more found mid new i j =
        alike found (λ f. OneCase b f
        ⊎ breaking.BreaksCases k bs name more f) (breaking.BreaksCases k bs name (b ∷ more)) new
        (cases-made b more) (cases-of b more)
        (both found mid new (OneCase b) (breaking.BreaksCases k bs name more) i j)

    case-kept : (b : TypeBranch) (more : List TypeBranch) (wf : Frame) (found mid : Option Fault)
        (v : TypedForm) (s : State)
        → rule.HasAs k (Calls k) (rule.with_clause bs name (rule.clause_type b)) rule.a_value
        (out-TypeBranch b).value v
        → IsFirst found (OneCase b) mid → Cased bs name more (kept a_slot.Second v wf) mid s
        → Cased bs name (b ∷ more) wf found s
    case-kept b more wf found mid v s h i (all_cased vs new hs j e) =
        all_cased (v ∷ vs) new (rule.case_ b more v vs refl refl h hs)
        (case-first b more found mid new i j)
        (e ∙ ap (λ
        (ts : List TypedForm). st (record wf { second = ts }) bs new)
        (one_behind wf.second vs v))
    case-kept b more wf found mid v s h i (one_lacking f new x c j e br l hd) =
        one_lacking f new x (breaking.in_next_case b more refl c)
        (case-first b more found mid new i j) e br l hd

    case-lacking : (b : TypeBranch) (more : List TypeBranch) (wf : Frame) (found mid : Option Fault)
        (g : Fault) (s : State) → OneCase b g → IsFirst found (OneCase b) mid
        → Cased bs name more (is_broken wf) mid s
        → Cased bs name (b ∷ more) wf found s
    case-lacking b more wf found mid g s c i (all_cased vs new hs j e) =
        one_lacking g new (record (is_broken wf) { second = wf.second ++ vs })
        (breaking.in_this_case b more refl c) (case-first b more found mid new i j) e refl refl refl
    case-lacking b more wf found mid g s c i (one_lacking f new x d j e br l hd) =
        one_lacking g new x (breaking.in_this_case b more refl c)
        (case-first b more found mid new i j) e br l hd

    pub cases-exact : (branches : List TypeBranch) (wf : Frame) (found : Option Fault)
        → AllByRecursion (ClauseWritten k) branches → AreClauses branches
        → Cased bs name branches wf found
        (cases k.facts name (map (judged_clause k.facts) branches) (st wf bs found))
    unfolding cases
    cases-exact [] wf found W X =
        all_cased [] found (rule.no_case refl refl)
        (no_more found (breaking.BreaksCases k bs name []) (none-cased bs name))
        (ap (λ (ts : List TypedForm). st (record wf { second = ts }) bs found)
        (sym (nothing_behind wf.second)))
    cases-exact (b ∷ more) wf found W X =
        subst (λ (c : Clause). Cased bs name (b ∷ more) wf found
        (cases k.facts name (map (judged_clause k.facts) more)
        (ask_with k.facts name c.ty a_slot.Second c.value (st wf bs found))))
        (sym (clause-is k.facts b))
        (by (λ y mid. cases-exact more y mid W.1 X.1)
        (ask-with-exact bs B name (rule.clause_type b) W.0.0 (out-TypeBranch b).value W.0.1
        X.0 a_slot.Second wf found))
      where
        one : State
        one = ask_with k.facts name (rule.clause_type b) a_slot.Second
            (judged k.facts (out-TypeBranch b).value) (st wf bs found)

        by : ((y : Frame) (mid : Option Fault)
            → Cased bs name more y mid
            (cases k.facts name (map (judged_clause k.facts) more) (st y bs mid)))
            → AskedWith bs name (rule.clause_type b) (out-TypeBranch b).value a_slot.Second wf found
            (ask_with k.facts name (rule.clause_type b) a_slot.Second
            (judged k.facts (out-TypeBranch b).value) (st wf bs found))
            → Cased bs name (b ∷ more) wf found
            (cases k.facts name (map (judged_clause k.facts) more)
            (ask_with k.facts name (rule.clause_type b) a_slot.Second
            (judged k.facts (out-TypeBranch b).value) (st wf bs found)))
        by rest (kept_with v mid h i e) =
            subst (λ (s : State). Cased bs name (b ∷ more) wf found
            (cases k.facts name (map (judged_clause k.facts) more) s)) (sym e)
            (case-kept b more wf found mid v _ h i (rest (kept a_slot.Second v wf) mid))
        by rest (lacking_with f mid c i e) =
            subst (λ (s : State). Cased bs name (b ∷ more) wf found
            (cases k.facts name (map (judged_clause k.facts) more) s)) (sym e)
            (case-lacking b more wf found mid f _ c i (rest (is_broken wf) mid))

    -- clauses that have types break nothing, and have one typed form each
    pub never-cased : (branches : List TypeBranch) (vs : List TypedForm)
        → AllByRecursion (ClauseWritten k) branches → AreClauses branches
        → rule.HasCases k (Calls k) bs name branches vs
        → (f : Fault) → breaking.BreaksCases k bs name branches f → ⊥
    never-cased branches vs W X h f b = by (cases-exact branches opened None W X)
      where
        clean : (new : Option Fault) (y : Frame)
            → cases k.facts name (map (judged_clause k.facts) branches) (st opened bs None)
            ≡ st y bs new → new ≡ None
        clean new y e = ap (λ (s : State). s.found) (sym e ∙ cases-answered k A h B W opened None)

        by : Cased bs name branches opened None
            (cases k.facts name (map (judged_clause k.facts) branches) (st opened bs None)) → ⊥
        by (all_cased us new hs i e) = (i.none (clean new _ e)).1 f b
        by (one_lacking g new x c i e br l hd) = (i.none (clean new x e)).1 f b

    pub one-cases : (branches : List TypeBranch) (vs us : List TypedForm)
        → AllByRecursion (ClauseWritten k) branches → rule.HasCases k (Calls k) bs name branches vs
        → rule.HasCases k (Calls k) bs name branches us → vs ≡ us
    one-cases branches vs us W h g =
        ap (λ (s : State). s.frame.second) (sym (cases-answered k A h B W opened None)
        ∙ cases-answered k A g B W opened None)
