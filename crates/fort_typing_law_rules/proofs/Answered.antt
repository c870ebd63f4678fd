-- What has a type is answered with it.
use Rattle.std.proofs.Common.{◌≡◌, inl, inr, Bool, true, false, not, cond, ◌&&◌, List, [], ◌∷◌, ◌++◌, length, map, take, Option, Some, None, rules, refl, arith, ap, ◌∙◌, sym, subst}
use Rattle.std.specs.Prelude.{option_map}
use Rattle.std.specs.List.{AllByRecursion}
use Rattle.fort_base.specs.declared.ids.NameId.{NameId}
use Rattle.fort_base.specs.declared.ids.SetId.{SetId}
use Rattle.fort_base.specs.declared.refusal.Place.{Place}
use Rattle.fort_base.specs.declared.rules.TheConstants.{MISMATCH, NOT_AN_EXCEPTION}
use Rattle.fort_base.specs.declared.ty.Ty.{Ty, the_lemmas as ty_lemmas}
use Rattle.fort_ops.specs.declared.op.Op.{Op}
use Rattle.fort_ops.specs.declared.op.Op.TheVariants as an_op
use Rattle.fort_scope.specs.declared.binding.Binding.{Binding}
use Rattle.fort_form.specs.declared.form.Form.{Form, out-Form, map-Form, fold_out-Form}
use Rattle.fort_form.specs.declared.form.Form.TheOpen.{Form-F, Item-F}
use Rattle.fort_form.specs.declared.form.Item.{Item, out-Item, map-Item, fold_out-Item}
use Rattle.fort_form.specs.declared.form.Branch.{Branch}
use Rattle.fort_form.specs.declared.form.Generator.{Generator, out-Generator}
use Rattle.fort_form.specs.declared.form.TypeBranch.{TypeBranch, out-TypeBranch}
use Rattle.fort_form.specs.declared.form.Reduction.{Reduction}
use Rattle.fort_form.specs.declared.form.Reduction.TheVariants as a_reduction
use Rattle.fort_form.specs.declared.form.Update.{Update}
use Rattle.fort_form_typed.specs.declared.typed_form.Chosen.{Chosen}
use Rattle.fort_form_typed.specs.declared.typed_form.TypedForm.{TypedForm, out-TypedForm, the_lemmas as typed_lemmas}
use Rattle.fort_form_typed.specs.declared.typed_form.TypedForm.TheVariants as a_typed
use Rattle.fort_typing_known.specs.declared.fault.Fault.{Fault}
use Rattle.fort_typing_known.specs.Known.{Knows}
use Rattle.fort_typing_known.specs.Below.{is_below}
use Rattle.fort_typing_known.specs.Names.{Standing, a_binding, a_field, a_variable, a_single, functions, is_visible, standing}
use Rattle.fort_typing_known.specs.Sets.{operator_set}
use Rattle.fort_typing_call.specs.declared.called.Called.{Called}
use Rattle.fort_typing_rules.specs.declared.part.Part.{Part}
use Rattle.fort_typing_rules.specs.declared.part.Meaning.{Meaning}
use Rattle.fort_typing_rules.specs.declared.part.Meaning.TheVariants as a_meaning
use Rattle.fort_typing_rules.specs.Calls.{Calls}
use Rattle.fort_typing_rules.specs.Types.{IsBelow, IsWidest, place_at, place_of, boolean, zz32, zz64, unit, exception, given, type_of, types_of}
use Rattle.fort_typing_rules.specs.Elements.{chosen}
use Rattle.fort_typing_rules.specs.Typing as rule
use Rattle.fort_typing_meaning.specs.declared.frame.Want.{Want}
use Rattle.fort_typing_meaning.specs.declared.frame.Want.TheVariants as a_want
use Rattle.fort_typing_meaning.specs.declared.frame.Slot.{Slot}
use Rattle.fort_typing_meaning.specs.declared.frame.Slot.TheVariants as a_slot
use Rattle.fort_typing_meaning.specs.declared.frame.Frame.{Frame}
use Rattle.fort_typing_meaning.specs.declared.frame.Side.{Side}
use Rattle.fort_typing_meaning.specs.declared.frame.Outcome.{Outcome}
use Rattle.fort_typing_meaning.specs.declared.frame.Valued.{Valued}
use Rattle.fort_typing_meaning.specs.Faults.{breaks}
use Rattle.fort_typing_meaning.specs.Tests.{suits, rule_of, no_node, valued, taken, value, refused, untyped}
use Rattle.fort_typing_meaning.specs.Parts.{Judge, Piece, Arm, Clause, Giving, State, begin, opened, is_broken, said, ask, ask_below, asks, ask_if, ask_with, unless_lost, back_to, shadows, bind, bind_all, bind_parts, watch, take_part, take_below, below_by, as_wanted_below, kept, kept_if, declares, declares_all, take_initial, take_initials, item, items, given_by, gives, take_source, sources, compared_by, compared, side_type, side_place, side_of, after_side, take_side, sides, take_subject, take_test, clauses, arms, catches, cases, lost_if_broken, head_type, else_with, element_meaning, element_found, take_element, elements, targeted, assigned_valued, take_assigned}
use Rattle.fort_typing_meaning.proofs.Levels.{arm-is, giving-is, clause-is}
use Rattle.fort_typing_meaning.proofs.Kept.{take_whole}
use Rattle.fort_typing_meaning.specs.Closing.{close_at, last_type, unbroken, made_outcome, by_widest, name_by, name_answer, receiver, sum_by, if_answer, case_answer, typecase_answer, try_answer, assign_answer, assigned_by, reduced, giving_name, clause_type as close_clause_type}
use Rattle.fort_typing_meaning.specs.Joining.{operation, operation_by}
use Rattle.fort_typing_meaning.specs.Judging.{inside, reduction_want, takes_by, take_target, assigned_part, judge_form, judge_item, judge_branch, judge_generator, judge_clause, judged, judged_item, judged_branch, judged_generator, judged_clause}
use Rattle.fort_typing_law_rules.specs.Deciding.{IsType, AreTypes, IsAccepted, Decides}
use Rattle.fort_typing_law_rules.specs.Written.{IsWritten, AreBound}
use Rattle.fort_typing_law_rules.proofs.Types.{all_join, all_first, all_rest, built_in_type, unit_type}
use Rattle.fort_typing_law_rules.proofs.Written.{AllWritten, BranchWritten, GeneratorWritten, ClauseWritten, MayBeWritten, ItemWritten, of-parts, of-item, tests-of, values-of}
use Rattle.fort_typing_law_rules.proofs.Deciding.{is_decided}
use Rattle.fort_typing_law_rules.proofs.Typed.{all-types, call-type, typed-of, typed-each, typed-clauses, typed-cases, typed-else, typed-parts, sources-bound, one-bound, binds-bound, clause-bound, parameters-bound, named-bound, given-typed}
use Rattle.fort_typing_law_rules.specs.Laws.{HasIsAnswered, OneTypedForm}
use Rattle.fort_typing_law_rules.proofs.Wide.{widest_is_computed}
use Rattle.fort_typing_law_rules.proofs.Running.{run_is_computed, value-once}
use Rattle.fort_typing_law_rules.proofs.Beside.{beside_is_computed}

-- what the judge wants is what the rules want
pub data Same : rule.Want → Want → Type 0 where
  value_ : Same rule.a_value a_want.Value
  operand_ : Same rule.an_operand a_want.Operand
  unit_ : Same (rule.below unit) a_want.Unit
  small_ : Same (rule.below zz32) a_want.Small
  truth_ : Same rule.a_truth a_want.Truth
  number_ : Same rule.a_number a_want.Number
  exception_ : Same rule.an_exception a_want.Exception

-- a state between two parts
abbrev pub st : Frame → List Binding → Option Fault → State
st w bs found = record { seen = a_meaning.Unknown; frame = w; bindings = bs; found = found }

-- several parts are kept
abbrev pub kepts : Slot → List TypedForm → Frame → Frame
kepts slot [] w = w
kepts slot (t ∷ ts) w = kepts slot ts (kept slot t w)

pub nothing_behind : {A : Type 0} (xs : List A) → xs ++ [] ≡ xs
nothing_behind [] = refl
nothing_behind (x ∷ xs) = ap (λ ys. x ∷ ys) (nothing_behind xs)

pub one_behind : {A : Type 0} (xs ys : List A) (y : A) → (xs ++ y ∷ []) ++ ys ≡ xs ++ y ∷ ys
one_behind [] ys y = refl
one_behind (x ∷ xs) ys y = ap (λ zs. x ∷ zs) (one_behind xs ys y)

pub kepts-first : (ts : List TypedForm) (w : Frame)
    → kepts a_slot.First ts w ≡ record w { first = w.first ++ ts }
kepts-first [] w =
    ap (λ (ts : List TypedForm). record w { first = ts }) (sym (nothing_behind w.first))
kepts-first (t ∷ ts) w =
    kepts-first ts (kept a_slot.First t w) ∙ ap (λ
    (us : List TypedForm). record w { first = us }) (one_behind w.first ts t)

module _ (k : Knows) (A : IsAccepted k) where
  D : Decides k
  D = is_decided k A

  -- the types that are wanted are the component's
  abbrev pub WantTyped : rule.Want → Type 0
  WantTyped (rule.below ty) = IsType k ty
  WantTyped _ = Unit {0}

  truth-suits : suits k.facts a_want.Truth boolean ≡ true
  unfolding suits
  truth-suits = search (rules, ty_lemmas)

  small-suits : suits k.facts a_want.Number zz32 ≡ true
  unfolding suits
  small-suits = search (rules, ty_lemmas)

  large-suits : suits k.facts a_want.Number zz64 ≡ true
  unfolding suits
  large-suits = search (rules, ty_lemmas)

  pub suits-is : (want : rule.Want) (w : Want) (t : Ty) → Same want w → rule.Suits k want t
      → IsType k t → suits k.facts w t ≡ true
  unfolding suits
  suits-is _ _ t value_ h T = refl
  suits-is _ _ t operand_ h T = ap not h
  suits-is _ _ t unit_ h T = D.below t unit T (unit_type k A) h
  suits-is _ _ t small_ h T = D.below t zz32 T (built_in_type k A 2 (omega arith)) h
  suits-is _ _ t truth_ h T = ap (suits k.facts a_want.Truth) h ∙ truth-suits
  suits-is _ _ t number_ (inl h) T = ap (suits k.facts a_want.Number) h ∙ small-suits
  suits-is _ _ t number_ (inr h) T = ap (suits k.facts a_want.Number) h ∙ large-suits
  suits-is _ _ t exception_ h T = D.below t exception T (built_in_type k A 1 (omega arith)) h

  taken-is : (want : rule.Want) (w : Want) (place : Place) (t : TypedForm) (found : Option Fault)
      → Same want w → rule.Suits k want (type_of t) → IsType k (type_of t)
      → taken k.facts w place (a_meaning.Value t) found ≡ record { node = Some t; found = found }
  unfolding taken valued
  taken-is want w place t found m h T =
      ap (λ c. cond c (record { node = Some t; found = found })
      (no_node (breaks (rule_of w) place found))) (suits-is want w (type_of t) m h T)

  -- ---- one level

  abbrev pub mapped : Form-F Form Item Branch Generator TypeBranch
      → Form-F Judge Piece Arm Giving Clause
  mapped x =
      map-Form Form Item Branch Generator TypeBranch Judge Piece Arm Giving Clause (judged k.facts)
      (judged_item k.facts) (judged_branch k.facts) (judged_generator k.facts)
      (judged_clause k.facts) x

  pub judged-out : (e : Form) → judged k.facts e ≡ judge_form k.facts (mapped (out-Form e))
  unfolding judged judged_item judged_branch judged_generator judged_clause
  judged-out e =
      fold_out-Form Judge Piece Arm Giving Clause (judge_form k.facts) judge_item judge_branch
      judge_generator judge_clause e

  -- from the level of a form, and the state after its parts, to what it answers
  pub at : (e : Form) {x : Form-F Form Item Branch Generator TypeBranch} {o : Outcome}
      (bs : List Binding) (found : Option Fault) (s : State) → out-Form e ≡ x
      → inside k.facts (mapped x) (begin bs found) ≡ s
      → close_at k.facts (mapped x) s.frame bs s.found ≡ o → (judged k.facts e).answer bs found ≡ o
  at e {x = x} bs found s is parts closes =
      ap (λ (j : Judge). j.answer bs found) (judged-out e
      ∙ ap (λ y. judge_form k.facts (mapped y)) is)
      ∙ ap (λ (t : State). close_at k.facts (mapped x) t.frame bs t.found) parts ∙ closes

  abbrev pub Answers : List Binding → Form → TypedForm → Type 0
  Answers bs e t = (found : Option Fault) → (judged k.facts e).answer bs found ≡ value t found

  abbrev pub Answered : List Binding → rule.Want → Form → TypedForm → Type 0
  Answered bs want d t = Answers bs d t × rule.Suits k want (type_of t) × IsType k (type_of t)
      × WantTyped want

  pub ask-is : (want : rule.Want) (w : Want) (slot : Slot) (d : Form) (t : TypedForm)
      (bs : List Binding) (wf : Frame) (found : Option Fault) → Same want w → Answered bs want d t
      → ask k.facts slot w (judged k.facts d) (st wf bs found) ≡ st (kept slot t wf) bs found
  unfolding ask take_part said
  ask-is want w slot d t bs wf found m a =
      ap (λ (o : Outcome). st
      (kept_if slot (taken k.facts w (judged k.facts d).place o.seen o.found).node wf) bs
      (taken k.facts w (judged k.facts d).place o.seen o.found).found) (a.0 found)
      ∙ ap (λ (v : Valued). st (kept_if slot v.node wf) bs v.found)
      (taken-is want w (judged k.facts d).place t found m a.1 a.2)

  pub ask-below-is : (ty : Ty) (d : Form) (t : TypedForm) (bs : List Binding) (wf : Frame)
      (found : Option Fault) → Answers bs d t → is_below k.facts (type_of t) ty ≡ true
      → ask_below k.facts ty (judged k.facts d) (st wf bs found)
      ≡ st (kept a_slot.Last t wf) bs found
  unfolding ask_below take_below as_wanted_below said valued
  ask-below-is ty d t bs wf found a h =
      ap (λ (o : Outcome). st
      (kept_if a_slot.Last
      (below_by k.facts ty (judged k.facts d).place
      (valued (judged k.facts d).place o.seen o.found).node
      (valued (judged k.facts d).place o.seen o.found).found).node wf) bs
      (below_by k.facts ty (judged k.facts d).place
      (valued (judged k.facts d).place o.seen o.found).node
      (valued (judged k.facts d).place o.seen o.found).found).found) (a found)
      ∙ ap (λ (v : Valued). st (kept_if a_slot.Last v.node wf) bs v.found)
      (ap (λ c. cond c (record { node = Some t; found = found })
      (record { node = None; found = breaks MISMATCH (judged k.facts d).place found })) h)

  -- ---- what a form is to the form around it

  pub flags : (x : Form-F Form Item Branch Generator TypeBranch)
      → (place_at (mapped x) ≡ place_at x) × (rule.parens_at (mapped x) ≡ rule.parens_at x)
      × (rule.listed_at (mapped x) ≡ rule.listed_at x)
      × (rule.postfix_at (mapped x) ≡ rule.postfix_at x)
      × (rule.target_at (mapped x) ≡ rule.target_at x)
  flags (Form-F.Number v0 v1) = (refl, refl, refl, refl, refl)
  flags (Form-F.Text v0 v1) = (refl, refl, refl, refl, refl)
  flags (Form-F.Truth v0 v1) = (refl, refl, refl, refl, refl)
  flags (Form-F.Receiver v0) = (refl, refl, refl, refl, refl)
  flags (Form-F.Name v0 v1) = (refl, refl, refl, refl, refl)
  flags (Form-F.Parens v0 v1) = (refl, refl, refl, refl, refl)
  flags (Form-F.Tuple v0 v1) = (refl, refl, refl, refl, refl)
  flags (Form-F.Operator v0 v1 v2) = (refl, refl, refl, refl, refl)
  flags (Form-F.Chain v0 v1 v2) = (refl, refl, refl, refl, refl)
  flags (Form-F.Beside v0 v1) = (refl, refl, refl, refl, refl)
  flags (Form-F.Run v0 v1) = (refl, refl, refl, refl, refl)
  flags (Form-F.Subscript v0 v1) = (refl, refl, refl, refl, refl)
  flags (Form-F.Power v0 v1) = (refl, refl, refl, refl, refl)
  flags (Form-F.Field v0 v1 v2) = (refl, refl, refl, refl, refl)
  flags (Form-F.Method v0 v1 v2 v3) = (refl, refl, refl, refl, refl)
  flags (Form-F.Fill v0 v1 v2 v3) = (refl, refl, refl, refl, refl)
  flags (Form-F.Block v0 v1) = (refl, refl, refl, refl, refl)
  flags (Form-F.Do v0 v1) = (refl, refl, refl, refl, refl)
  flags (Form-F.If v0 v1 v2) = (refl, refl, refl, refl, refl)
  flags (Form-F.While v0 v1 v2) = (refl, refl, refl, refl, refl)
  flags (Form-F.For v0 v1 v2) = (refl, refl, refl, refl, refl)
  flags (Form-F.Case v0 v1 v2 v3) = (refl, refl, refl, refl, refl)
  flags (Form-F.Typecase v0 v1 v2 v3 v4 v5) = (refl, refl, refl, refl, refl)
  flags (Form-F.Try v0 v1 v2 v3 v4) = (refl, refl, refl, refl, refl)
  flags (Form-F.Atomic v0 v1) = (refl, refl, refl, refl, refl)
  flags (Form-F.Tryatomic v0 v1) = (refl, refl, refl, refl, refl)
  flags (Form-F.Throw v0 v1) = (refl, refl, refl, refl, refl)
  flags (Form-F.Fn v0 v1 v2) = (refl, refl, refl, refl, refl)
  flags (Form-F.Reduce v0 v1 v2 v3) = (refl, refl, refl, refl, refl)
  flags (Form-F.Assign v0 v1 v2 v3) = (refl, refl, refl, refl, refl)

  abbrev pub element_of : Judge → Meaning → Part
  element_of j m =
      record {
        place = j.place;
        parens = j.parens;
        listed = j.listed;
        postfix = j.postfix;
        meaning = m;
      }

  pub part-is : (d : Form) (m : Meaning) → element_of (judged k.facts d) m ≡ rule.part d m
  unfolding place_of
  part-is d m = let x = out-Form d in let f = flags x in
      ap (λ (j : Judge). element_of j m) (judged-out d)
      ∙ ap (λ (p : Place). record {
        place = p;
        parens = rule.parens_at (mapped x);
        listed = rule.listed_at (mapped x);
        postfix = rule.postfix_at (mapped x);
        meaning = m;
      })
      f.0
      ∙ ap (λ c. record {
        place = place_at x;
        parens = c;
        listed = rule.listed_at (mapped x);
        postfix = rule.postfix_at (mapped x);
        meaning = m;
      }) f.1
      ∙ ap (λ c. record {
        place = place_at x;
        parens = rule.parens_at x;
        listed = c;
        postfix = rule.postfix_at (mapped x);
        meaning = m;
      }) f.2
      ∙ ap (λ c. record {
        place = place_at x;
        parens = rule.parens_at x;
        listed = rule.listed_at x;
        postfix = c;
        meaning = m;
      }) f.3

  pub target-is : (d : Form) → (judged k.facts d).target ≡ rule.target_at (out-Form d)
  target-is d = ap (λ (j : Judge). j.target) (judged-out d) ∙ (flags (out-Form d)).4

  -- ---- answered parts

  abbrev pub AllAnswered : List Binding → rule.Want → List Form → List TypedForm → Type 0
  AllAnswered bs want [] [] = Unit {0}
  AllAnswered bs want [] (t ∷ ts) = ⊥
  AllAnswered bs want (d ∷ ds) [] = ⊥
  AllAnswered bs want (d ∷ ds) (t ∷ ts) = Answered bs want d t × AllAnswered bs want ds ts

  pub asks-is : (want : rule.Want) (w : Want) (slot : Slot) (ds : List Form) (ts : List TypedForm)
      (bs : List Binding) (wf : Frame) (found : Option Fault) → Same want w
      → AllAnswered bs want ds ts
      → asks k.facts slot w (map (judged k.facts) ds) (st wf bs found)
      ≡ st (kepts slot ts wf) bs found
  unfolding asks
  asks-is want w slot [] [] bs wf found m h = refl
  asks-is want w slot [] (t ∷ ts) bs wf found m h = absurd h
  asks-is want w slot (d ∷ ds) [] bs wf found m h = absurd h
  asks-is want w slot (d ∷ ds) (t ∷ ts) bs wf found m h =
      ap (asks k.facts slot w (map (judged k.facts) ds)) (ask-is want w slot d t bs wf found m h.0)
      ∙ asks-is want w slot ds ts bs (kept slot t wf) found m h.1

  -- ---- elements

  element-step : (d : Form) (bs : List Binding) (wf : Frame) (found : Option Fault)
      (seen m : Meaning)
      → (judged k.facts d).answer bs found ≡ record { seen = seen; found = found }
      → element_meaning seen ≡ m → element_found (judged k.facts d).place seen found ≡ found
      → take_element (judged k.facts d).place (judged k.facts d).parens (judged k.facts d).listed
      (judged k.facts d).postfix (said (judged k.facts d) (st wf bs found))
      ≡ st (record wf { parts = wf.parts ++ rule.part d m ∷ [] }) bs found
  unfolding take_element said
  element-step d bs wf found seen m a is clean =
      let j = judged k.facts d in
      ap (λ (o : Outcome). st
      (record wf { parts = wf.parts ++ element_of j (element_meaning o.seen) ∷ [] }) bs
      (element_found j.place o.seen o.found)) a
      ∙ ap (λ (n : Meaning). st (record wf { parts = wf.parts ++ element_of j n ∷ [] }) bs
      (element_found j.place seen found)) is
      ∙ ap (λ (n : Option Fault). st (record wf { parts = wf.parts ++ element_of j m ∷ [] }) bs n)
      clean
      ∙ ap (λ (p : Part). st (record wf { parts = wf.parts ++ p ∷ [] }) bs found) (part-is d m)

  abbrev pub Element : List Binding → Form → Meaning → Type 0
  Element bs d m = (found : Option Fault)
      → (seen : Meaning)
      × ((judged k.facts d).answer bs found ≡ record { seen = seen; found = found })
      × (element_meaning seen ≡ m)
      × (element_found (judged k.facts d).place seen found ≡ found)

  elements-step : (d : Form) (ds : List Form) (bs : List Binding) (wf : Frame)
      (found : Option Fault) (m : Meaning) → Element bs d m
      → elements (map (judged k.facts) (d ∷ ds)) (st wf bs found)
      ≡ elements (map (judged k.facts) ds)
      (st (record wf { parts = wf.parts ++ rule.part d m ∷ [] }) bs found)
  unfolding elements
  elements-step d ds bs wf found m h =
      let e = h found
      in ap (elements (map (judged k.facts) ds)) (element-step d bs wf found e.0 m e.1 e.2 e.3)

  -- ---- comparisons

  compared-is : (op : Op) (place : Place) (a u : TypedForm) (result : Ty) (widened : List Bool)
      (bs : List Binding) (wf : Frame) (found : Option Fault) → IsType k (type_of a)
      → IsType k (type_of u)
      → Calls k (operator_set k.facts op 2) (type_of a ∷ type_of u ∷ []) result widened
      → IsBelow k result boolean
      → compared k.facts op place (Some (type_of a)) (Some u) (st wf bs found)
      ≡ st (record wf { calls = wf.calls ++ chosen (operator_set k.facts op 2) widened ∷ [] }) bs
      found
  compared-is op place a u result widened bs wf found T U c b =
      ap (λ (n : Called). compared_by k.facts op place n (st wf bs found))
      (D.calls _ _ result widened (T, (U, tt)) c)
      ∙ ap (λ c. cond c
      (st (record wf { calls = wf.calls ++ chosen (operator_set k.facts op 2) widened ∷ [] }) bs
      found)
      (st (record wf { broken = true }) bs (breaks MISMATCH place found))) (D.below result boolean
      (call-type k A _ _ result widened c) (built_in_type k A 5 (omega arith)) b)

  -- ---- clauses of an `if`

  arms-is : (w : Want) (want : rule.Want) (branches : List Branch) (tests values : List TypedForm)
      (bs : List Binding) (wf : Frame) (found : Option Fault) → Same want w
      → AllAnswered bs rule.a_truth (map rule.test_of branches) tests
      → AllAnswered bs want (map rule.value_of branches) values
      → arms k.facts w (map (judged_branch k.facts) branches) (st wf bs found)
      ≡ st (record wf { first = wf.first ++ tests; second = wf.second ++ values }) bs found
  unfolding arms
  arms-is w want [] [] [] bs wf found m h i =
      ap (λ (ts : List TypedForm). st (record wf { first = ts }) bs found)
      (sym (nothing_behind wf.first))
      ∙ ap (λ (ts : List TypedForm). st (record wf { first = wf.first ++ []; second = ts }) bs
      found) (sym (nothing_behind wf.second))
  arms-is w want [] (t ∷ ts) vs bs wf found m h i = absurd h
  arms-is w want [] [] (v ∷ vs) bs wf found m h i = absurd i
  arms-is w want (b ∷ branches) [] vs bs wf found m h i = absurd h
  arms-is w want (b ∷ branches) (t ∷ ts) [] bs wf found m h i = absurd i
  arms-is w want (b ∷ branches) (t ∷ ts) (v ∷ vs) bs wf found m h i =
      ap (λ (a : Arm). arms k.facts w (map (judged_branch k.facts) branches)
      (ask k.facts a_slot.Second w a.value
      (ask k.facts a_slot.First a_want.Truth a.test (st wf bs found)))) (arm-is k.facts b)
      ∙ ap (λ (s : State). arms k.facts w (map (judged_branch k.facts) branches)
      (ask k.facts a_slot.Second w (judged k.facts (rule.value_of b)) s))
      (ask-is rule.a_truth a_want.Truth a_slot.First (rule.test_of b) t bs wf found truth_ h.0)
      ∙ ap (arms k.facts w (map (judged_branch k.facts) branches))
      (ask-is want w a_slot.Second (rule.value_of b) v bs (kept a_slot.First t wf) found m i.0)
      ∙ arms-is w want branches ts vs bs
      (record wf { first = wf.first ++ t ∷ []; second = wf.second ++ v ∷ [] }) found m h.1 i.1
      ∙ ap (λ (us : List TypedForm). st
      (record wf { first = us; second = (wf.second ++ v ∷ []) ++ vs }) bs found)
      (one_behind wf.first ts t)
      ∙ ap (λ (us : List TypedForm). st (record wf { first = wf.first ++ t ∷ ts; second = us }) bs
      found) (one_behind wf.second vs v)

  -- ---- bindings

  pub bind-is : (b : Binding) (bs : List Binding) (wf : Frame) (found : Option Fault)
      → is_visible k.facts bs b.name ≡ false
      → bind k.facts b (st wf bs found) ≡ st wf (bs ++ b ∷ []) found
  unfolding bind
  bind-is b bs wf found h =
      ap (λ c. cond c (shadows b.place (st wf bs found)) (st wf (bs ++ b ∷ []) found)) h

  pub binds-is : {bs new all : List Binding} → rule.Binds k bs new all
      → (wf : Frame) (found : Option Fault) → wf.lost ≡ false
      → bind_all k.facts new (st wf bs found) ≡ st wf all found
  unfolding bind_all
  binds-is {bs = bs} (rule.none e1 e2) wf found l =
      ap (λ new. bind_all k.facts new (st wf bs found)) e1 ∙ ap (λ
      (all : List Binding). st wf all found) (sym e2)
  binds-is {bs = bs} (rule.next b more e fresh rest) wf found l =
      ap (λ new. bind_all k.facts new (st wf bs found)) e
      ∙ ap (unless_lost (bind_all k.facts more)) (bind-is b bs wf found fresh)
      ∙ ap (λ c. cond c (st wf (bs ++ b ∷ []) found)
      (bind_all k.facts more (st wf (bs ++ b ∷ []) found))) l
      ∙ binds-is rest wf found l

  -- ---- items

  below-is : (ty : Ty) (place : Place) (t : TypedForm) (found : Option Fault)
      → is_below k.facts (type_of t) ty ≡ true
      → below_by k.facts ty place (Some t) found ≡ record { node = Some t; found = found }
  below-is ty place t found h =
      ap (λ c. cond c (record { node = Some t; found = found })
      (record { node = None; found = breaks MISMATCH place found })) h

  initial-is : (name : NameId) (mutable : Bool) (ty : Ty) (d : Form) (t : TypedForm)
      (bs : List Binding) (wf : Frame) (found : Option Fault) → Answers bs d t
      → is_below k.facts (type_of t) ty ≡ true
      → take_initial k.facts name mutable ty (judged k.facts d).place
      (said (judged k.facts d) (st wf bs found))
      ≡ st (kept a_slot.First (a_typed.Bind unit name mutable ty t) wf) bs found
  unfolding take_initial said as_wanted_below valued
  initial-is name mutable ty d t bs wf found a h =
      let p = (judged k.facts d).place in
      ap (λ (o : Outcome). let v =
      below_by k.facts ty p (valued p o.seen o.found).node (valued p o.seen o.found).found
      in st (declares name mutable ty v.node wf) bs v.found) (a found)
      ∙ ap (λ (v : Valued). st (declares name mutable ty v.node wf) bs v.found)
      (below-is ty p t found h)

  initials-is : (at : Place) (new : List Binding) (ty : Ty) (d : Form) (t : TypedForm)
      (bs : List Binding) (wf : Frame) (found : Option Fault) → Answers bs d t
      → is_below k.facts (type_of t) ty ≡ true
      → take_initials k.facts at ty (Some new) (judged k.facts d).place
      (said (judged k.facts d) (st wf bs found))
      ≡ st (kept a_slot.First (a_typed.Binds unit (map rule.name_and_type new) t) wf) bs found
  unfolding take_initials said as_wanted_below valued
  initials-is at new ty d t bs wf found a h =
      let p = (judged k.facts d).place in
      ap (λ (o : Outcome). let v =
      below_by k.facts ty p (valued p o.seen o.found).node (valued p o.seen o.found).found
      in st (declares_all (map rule.name_and_type new) v.node wf) bs v.found) (a found)
      ∙ ap (λ (v : Valued). st (declares_all (map rule.name_and_type new) v.node wf) bs v.found)
      (below-is ty p t found h)

  pub item-out : (i : Item) {x : Item-F Form Item Branch Generator TypeBranch} → out-Item i ≡ x
      → judged_item k.facts i
      ≡ judge_item
      (map-Item Form Item Branch Generator TypeBranch Judge Piece Arm Giving Clause (judged k.facts)
      (judged_item k.facts) (judged_branch k.facts) (judged_generator k.facts)
      (judged_clause k.facts) x)
  unfolding judged judged_item judged_branch judged_generator judged_clause
  item-out i is =
      fold_out-Item Judge Piece Arm Giving Clause (judge_form k.facts) judge_item judge_branch
      judge_generator judge_clause i
      ∙ ap (λ y. judge_item
      (map-Item Form Item Branch Generator TypeBranch Judge Piece Arm Giving Clause
      (judged k.facts) (judged_item k.facts) (judged_branch k.facts) (judged_generator k.facts)
      (judged_clause k.facts) y)) is

  -- an item that leaves a state, and what stands behind it
  go_on : (p : Piece) (rest : List Piece) (s : State) (wf : Frame) (bs : List Binding)
      (found : Option Fault) → ((want : Want) → item k.facts want p s ≡ st wf bs found)
      → wf.lost ≡ false
      → items k.facts (p ∷ rest) s ≡ items k.facts rest (st wf bs found)
  unfolding items
  go_on p [] s wf bs found h l = h a_want.Value
  go_on p (q ∷ rest) s wf bs found h l =
      ap (unless_lost (items k.facts (q ∷ rest))) (h a_want.Unit)
      ∙ ap (λ c. cond c (st wf bs found) (items k.facts (q ∷ rest) (st wf bs found))) l

  unit_go_on : (p q : Piece) (rest : List Piece) (s : State) (wf : Frame) (bs : List Binding)
      (found : Option Fault) → item k.facts a_want.Unit p s ≡ st wf bs found → wf.lost ≡ false
      → items k.facts (p ∷ q ∷ rest) s ≡ items k.facts (q ∷ rest) (st wf bs found)
  unfolding items
  unit_go_on p q rest s wf bs found h l =
      ap (unless_lost (items k.facts (q ∷ rest))) h
      ∙ ap (λ c. cond c (st wf bs found) (items k.facts (q ∷ rest) (st wf bs found))) l

  -- items are gone through, and leave some bindings
  abbrev pub Reaches : State → Frame → Option Fault → Type 0
  Reaches s w found = (inner : List Binding) × (s ≡ st w inner found)

  -- the type of a block
  last-after : (b : TypedForm) (us : List TypedForm) (ty : Ty) → type_of b ≡ unit
      → last_type us ≡ ty → last_type (b ∷ us) ≡ ty
  last-after b [] ty h l = h ∙ l
  last-after b (u ∷ us) ty h l = l

  some-items : {bs : List Binding} {is : List Item} {ts : List TypedForm} {ty : Ty}
      → rule.HasItems k (Calls k) bs is ts ty → (j : Item) (more : List Item) → is ≡ j ∷ more
      → (u : TypedForm) × (us : List TypedForm) × (ts ≡ u ∷ us)
  some-items (rule.no_item e1 e2 e3) j more e = absurd cc
  some-items (rule.last_item i d u e1 e2 h e3 e4) j more e = (u, [], e3)
  some-items (rule.expression i l m d u us e1 e2 h rest e3) j more e = (u, us, e3)
  some-items (rule.declared i m p name mutable want d u us e1 e2 f h rest e3) j more e = (_, us, e3)
  some-items (rule.declared_all i m p names want d new inner u us e1 e2 parts b h rest e3) j more
      e = (_, us, e3)

  bind-unit : (name : NameId) (mutable : Bool) (want : Ty) (u : TypedForm)
      → type_of (a_typed.Bind unit name mutable want u) ≡ unit
  unfolding type_of
  bind-unit name mutable want u = search (rules, typed_lemmas)

  binds-unit : (names : List (NameId × Ty)) (u : TypedForm)
      → type_of (a_typed.Binds unit names u) ≡ unit
  unfolding type_of
  binds-unit names u = search (rules, typed_lemmas)

  pub block-type : {bs : List Binding} {is : List Item} {ts : List TypedForm} {ty : Ty}
      → rule.HasItems k (Calls k) bs is ts ty → last_type ts ≡ ty
  block-type (rule.no_item e1 e2 e3) = ap last_type e2 ∙ sym e3
  block-type (rule.last_item i d u e1 e2 h e3 e4) = ap last_type e3 ∙ sym e4
  block-type (rule.expression i j more d u us e1 e2 h rest e3) =
      let s = some-items rest j more refl in
      ap last_type e3 ∙ ap (λ vs. last_type (u ∷ vs)) s.2 ∙ ap last_type (sym s.2) ∙ block-type rest
  block-type (rule.declared i more p name mutable want d u us e1 e2 f h rest e3) =
      ap last_type e3
      ∙ last-after (a_typed.Bind unit name mutable want u) us _ (bind-unit name mutable want u)
      (block-type rest)
  block-type (rule.declared_all i more p names want d new inner u us e1 e2 parts b h rest e3) =
      ap last_type e3
      ∙ last-after (a_typed.Binds unit (map rule.name_and_type new) u) us _
      (binds-unit (map rule.name_and_type new) u) (block-type rest)

  -- ---- generators

  source-is : (g : Generator) (u : TypedForm) (ty : Ty) (bs : List Binding) (wf : Frame)
      (found : Option Fault) → is_visible k.facts bs (out-Generator g).name ≡ false
      → Answered bs rule.an_operand (out-Generator g).source u → given (type_of u) ≡ Some ty
      → wf.lost ≡ false
      → take_source k.facts (out-Generator g).place (out-Generator g).name
      (judged k.facts (out-Generator g).source).place
      (said (judged k.facts (out-Generator g).source)
      (watch k.facts (Some ((out-Generator g).place, (out-Generator g).name)) (st wf bs found)))
      ≡ st (kept a_slot.First u wf)
      (bs ++ rule.binding (out-Generator g).place (out-Generator g).name ty ∷ []) found
  unfolding take_source said watch
  source-is g u ty bs wf found fresh h gv l =
      let at = (out-Generator g).place in
      let name = (out-Generator g).name in
      let j = judged k.facts (out-Generator g).source in
      ap (λ c. take_source k.facts at name j.place
      (said j (cond c (shadows at (st wf bs found)) (st wf bs found)))) fresh
      ∙ ap (λ (o : Outcome). let v = taken k.facts a_want.Operand j.place o.seen o.found
      in gives k.facts at name j.place v.node (given_by v.node) (st wf bs v.found)) (h.0 found)
      ∙ ap (λ (v : Valued). gives k.facts at name j.place v.node (given_by v.node)
      (st wf bs v.found))
      (taken-is rule.an_operand a_want.Operand j.place u found operand_ h.1 h.2)
      ∙ ap (λ (o : Option Ty). gives k.facts at name j.place (Some u) o (st wf bs found)) gv
      ∙ ap (λ c. cond c (st (kept a_slot.First u wf) bs found)
      (st (kept a_slot.First u wf) (bs ++ rule.binding at name ty ∷ []) found)) l

  -- ---- clauses of a `case`

  test-is : (d : Form) (s u : TypedForm) (place : Place) (result : Ty) (widened : List Bool)
      (bs : List Binding) (wf : Frame) (found : Option Fault)
      → wf.side ≡ Some (record { place = place; ty = type_of s }) → IsType k (type_of s)
      → Answered bs rule.an_operand d u
      → Calls k (operator_set k.facts an_op.Eq 2) (type_of s ∷ type_of u ∷ []) result widened
      → IsBelow k result boolean
      → take_test k.facts (judged k.facts d).place (said (judged k.facts d) (st wf bs found))
      ≡ st (record wf {
        first = wf.first ++ u ∷ [];
        calls = wf.calls ++ chosen (operator_set k.facts an_op.Eq 2) widened ∷ [];
      }) bs found
  unfolding take_test said
  test-is d s u place result widened bs wf found side S h c b =
      let p = (judged k.facts d).place in
      ap (λ (o : Outcome). let v = taken k.facts a_want.Operand p o.seen o.found
      in compared k.facts an_op.Eq p (side_type wf.side) v.node
      (st (kept_if a_slot.First v.node wf) bs v.found)) (h.0 found)
      ∙ ap (λ (v : Valued). compared k.facts an_op.Eq p (side_type wf.side) v.node
      (st (kept_if a_slot.First v.node wf) bs v.found))
      (taken-is rule.an_operand a_want.Operand p u found operand_ h.1 h.2)
      ∙ ap (λ (o : Option Side). compared k.facts an_op.Eq p (side_type o) (Some u)
      (st (kept a_slot.First u wf) bs found)) side
      ∙ compared-is an_op.Eq p s u result widened bs (kept a_slot.First u wf) found S h.2 c b

  -- ---- clauses by types

  take_first : (bs ds : List Binding) → take (length bs) (bs ++ ds) ≡ bs
  take_first [] ds = refl
  take_first (b ∷ bs) ds = ap (λ cs. b ∷ cs) (take_first bs ds)

  pub clause_goes : (bs : List Binding) (name : Option (Place × NameId)) (ty : Ty)
      → take (length bs) (rule.with_clause bs name ty) ≡ bs
  clause_goes bs None ty = take_whole bs
  clause_goes bs (Some (p, name)) ty = take_first bs _

  ask-with-is : (name : Option (Place × NameId)) (ty : Ty) (slot : Slot) (d : Form) (v : TypedForm)
      (bs : List Binding) (wf : Frame) (found : Option Fault)
      → Answered (rule.with_clause bs name ty) rule.a_value d v
      → ask_with k.facts name ty slot (judged k.facts d) (st wf bs found)
      ≡ st (kept slot v wf) bs found
  unfolding ask_with
  ask-with-is name ty slot d v bs wf found h =
      ap (back_to bs)
      (ask-is rule.a_value a_want.Value slot d v (rule.with_clause bs name ty) wf found value_
      h)
      ∙ ap (λ (cs : List Binding). st (kept slot v wf) cs found) (clause_goes bs name ty)

  -- ---- sides of a chain

  side-step : (op : Option Op) (d : Form) (u : TypedForm) (bs : List Binding) (wf : Frame)
      (found : Option Fault) (w : Frame) → Answered bs rule.an_operand d u
      → after_side k.facts op (judged k.facts d).place (Some u)
      (st (kept a_slot.First u wf) bs found) ≡ st w bs found
      → take_side k.facts op (judged k.facts d).place (said (judged k.facts d) (st wf bs found))
      ≡ st (record w { side = Some (record { place = (judged k.facts d).place; ty = type_of u }) })
      bs found
  unfolding take_side said
  side-step op d u bs wf found w h e =
      let p = (judged k.facts d).place in
      let fin : State → Option TypedForm
      → State = λ t n. record t { frame = record t.frame { side = side_of p n } } in
      ap (λ (o : Outcome). let v = taken k.facts a_want.Operand p o.seen o.found
      in fin (after_side k.facts op p v.node
      (st (kept_if a_slot.First v.node wf) bs v.found)) v.node) (h.0 found)
      ∙ ap (λ (v : Valued). fin
      (after_side k.facts op p v.node (st (kept_if a_slot.First v.node wf) bs v.found)) v.node)
      (taken-is rule.an_operand a_want.Operand p u found operand_ h.1 h.2)
      ∙ ap (λ (t : State). fin t (Some u)) e

  abbrev pub sides_of : List Op → List Judge → State → State
  sides_of [] js s = sides k.facts None [] js s
  sides_of (op ∷ ops) js s = sides k.facts (Some op) ops js s

  pub first-side : (ops : List Op) (d : Form) (js : List Judge) (s : State)
      → sides k.facts None ops (judged k.facts d ∷ js) s
      ≡ sides_of ops js
      (take_side k.facts None (judged k.facts d).place (said (judged k.facts d) s))
  unfolding sides
  first-side [] d js s = refl
  first-side (op ∷ ops) d js s = refl

  pub next-side : (op : Op) (ops : List Op) (d : Form) (js : List Judge) (s : State)
      → sides k.facts (Some op) ops (judged k.facts d ∷ js) s
      ≡ sides_of ops js
      (take_side k.facts (Some op) (judged k.facts d).place (said (judged k.facts d) s))
  unfolding sides
  next-side op [] d js s = refl
  next-side op (next ∷ ops) d js s = refl

  pub no-side : (s : State) → sides_of [] [] s ≡ s
  unfolding sides
  no-side s = refl

  -- what the sides of a chain leave
  pub record Left (s : State) (wf : Frame) (bs : List Binding) (found : Option Fault)
      (ts : List TypedForm) (cs : List Chosen) : Type 0 where
    pub frame : Frame
    pub is : s ≡ st frame bs found
    pub firsts : frame.first ≡ wf.first ++ ts
    pub calls : frame.calls ≡ wf.calls ++ cs
    pub whole : frame.broken ≡ wf.broken

  sides-is : {ops : List Op} {all : List TypedForm} {cs : List Chosen}
      → rule.Compares k (Calls k) ops all cs
      → (ds : List Form) (a : TypedForm) (us : List TypedForm) (place : Place) (bs : List Binding)
      (wf : Frame) (found : Option Fault)
      → all ≡ a ∷ us → wf.side ≡ Some (record { place = place; ty = type_of a })
      → IsType k (type_of a) → AllAnswered bs rule.an_operand ds us
      → Left (sides_of ops (map (judged k.facts) ds) (st wf bs found)) wf bs found us cs
  sides-is {ops = ops} {cs = cs} (rule.no_more b e1 e2 e3) [] a [] place bs wf found is side T h =
      record {
        frame = wf;
        is = ap (λ (os : List Op). sides_of os [] (st wf bs found)) e1 ∙ no-side (st wf bs found);
        firsts = sym (nothing_behind wf.first);
        calls = sym (nothing_behind wf.calls) ∙ ap (λ (c : List Chosen). wf.calls ++ c) (sym e3);
        whole = refl;
      }
  sides-is (rule.no_more b e1 e2 e3) [] a (u ∷ us) place bs wf found is side T h = absurd h
  sides-is (rule.no_more b e1 e2 e3) (d ∷ ds) a [] place bs wf found is side T h = absurd h
  sides-is (rule.no_more b e1 e2 e3) (d ∷ ds) a (u ∷ us) place bs wf found is side T h = absurd cc
  sides-is (rule.more op others b c vs result widened rest e1 e2 call_ below_ next e3) [] a [] place
      bs wf found is side T h = absurd cc
  sides-is (rule.more op others b c vs result widened rest e1 e2 call_ below_ next e3) [] a (u ∷ us)
      place bs wf found is side T h = absurd h
  sides-is (rule.more op others b c vs result widened rest e1 e2 call_ below_ next e3) (d ∷ ds) a []
      place bs wf found is side T h = absurd h
  sides-is {ops = ops} {cs =
      cs} (rule.more op others b c vs result widened rest e1 e2 call_ below_ next e3) (d ∷ ds) a
      (u ∷ us) place bs wf found is side T h =
      let same_a : a ≡ b = cc in
      let same_u : u ≡ c = cc in
      let same_us : us ≡ vs = cc in
      let call : Calls k (operator_set k.facts op 2) (type_of a ∷ type_of u ∷ []) result widened =
      subst (λ (x : TypedForm). Calls k (operator_set k.facts op 2) (type_of x ∷ type_of u ∷ [])
      result widened) (sym same_a)
      (subst (λ
      (x : TypedForm). Calls k (operator_set k.facts op 2) (type_of b ∷ type_of x ∷ [])
      result widened) (sym same_u) call_) in
      let p = (judged k.facts d).place in
      let w : Frame =
      record wf {
        first = wf.first ++ u ∷ [];
        calls = wf.calls ++ chosen (operator_set k.facts op 2) widened ∷ [];
      } in
      let w' : Frame = record w { side = Some (record { place = p; ty = type_of u }) } in
      let after : after_side k.facts (Some op) p (Some u) (st (kept a_slot.First u wf) bs found)
      ≡ st w bs found =
      ap (λ (o : Option Side). compared k.facts op (side_place p o) (side_type o) (Some u)
      (st (kept a_slot.First u wf) bs found)) side
      ∙ compared-is op place a u result widened bs (kept a_slot.First u wf) found T h.0.2 call
      below_ in
      let left =
      sides-is next ds u us p bs w' found (ap (λ (x : TypedForm). x ∷ vs) (sym same_u) ∙ ap (λ
      (xs : List TypedForm). u ∷ xs) (sym same_us)) refl h.0.2 h.1 in
      record {
        frame = left.frame;
        is = ap (λ
            (os : List Op). sides_of os (judged k.facts d ∷ map (judged k.facts) ds)
            (st wf bs found)) e1
            ∙ next-side op others d (map (judged k.facts) ds) (st wf bs found)
            ∙ ap (sides_of others (map (judged k.facts) ds))
            (side-step (Some op) d u bs wf found w h.0 after)
            ∙ left.is;
        firsts = left.firsts ∙ one_behind wf.first us u;
        calls = left.calls ∙ one_behind wf.calls rest (chosen (operator_set k.facts op 2) widened)
            ∙ ap (λ (c : List Chosen). wf.calls ++ c) (sym e3);
        whole = left.whole;
      }

  -- ---- several parts at once

  pub firsts-is : (want : rule.Want) (w : Want) (ds : List Form) (ts : List TypedForm)
      (bs : List Binding) (found : Option Fault) → Same want w → AllAnswered bs want ds ts
      → asks k.facts a_slot.First w (map (judged k.facts) ds) (st opened bs found)
      ≡ st (record opened { first = ts }) bs found
  firsts-is want w ds ts bs found m h =
      asks-is want w a_slot.First ds ts bs opened found m h ∙ ap (λ
      (x : Frame). st x bs found) (kepts-first ts opened)

  none-asked : (bs : List Binding) (want : rule.Want) {es : List Form} {ts : List TypedForm}
      → es ≡ [] → ts ≡ [] → AllAnswered bs want es ts
  none-asked bs want {ts = ts} e1 e2 =
      subst (λ (xs : List Form). AllAnswered bs want xs ts) (sym e1) (subst (λ
      (xs : List TypedForm). AllAnswered bs want [] xs) (sym e2) tt)

  one-asked : (bs : List Binding) (want : rule.Want) {es : List Form} {ts : List TypedForm}
      (d : Form) (ds : List Form) (u : TypedForm) (us : List TypedForm) → es ≡ d ∷ ds → ts ≡ u ∷ us
      → Answered bs want d u → AllAnswered bs want ds us → AllAnswered bs want es ts
  one-asked bs want {ts = ts} d ds u us e1 e2 h i =
      subst (λ (xs : List Form). AllAnswered bs want xs ts) (sym e1) (subst (λ
      (xs : List TypedForm). AllAnswered bs want (d ∷ ds) xs) (sym e2) (h, i))

  abbrev pub MayBeAnswered : List Binding → rule.Want → Option Form → Option TypedForm → Type 0
  MayBeAnswered bs want None None = Unit {0}
  MayBeAnswered bs want None (Some t) = ⊥
  MayBeAnswered bs want (Some d) None = ⊥
  MayBeAnswered bs want (Some d) (Some t) = Answered bs want d t

  none-behind : (bs : List Binding) (want : rule.Want) {other : Option Form} {w : Option TypedForm}
      → other ≡ None → w ≡ None → MayBeAnswered bs want other w
  none-behind bs want {w = w} e1 e2 =
      subst (λ (x : Option Form). MayBeAnswered bs want x w) (sym e1) (subst (λ
      (x : Option TypedForm). MayBeAnswered bs want None x) (sym e2) tt)

  some-behind : (bs : List Binding) (want : rule.Want) {other : Option Form} {w : Option TypedForm}
      (d : Form) (u : TypedForm) → other ≡ Some d → w ≡ Some u → Answered bs want d u
      → MayBeAnswered bs want other w
  some-behind bs want {w = w} d u e1 e2 h =
      subst (λ (x : Option Form). MayBeAnswered bs want x w) (sym e1) (subst (λ
      (x : Option TypedForm). MayBeAnswered bs want (Some d) x) (sym e2) h)

  ask-if-is : (want : rule.Want) (w : Want) (other : Option Form) (t : Option TypedForm)
      (bs : List Binding) (wf : Frame) (found : Option Fault) → Same want w → wf.last ≡ None
      → MayBeAnswered bs want other t
      → ask_if k.facts a_slot.Last w (option_map (judged k.facts) other) (st wf bs found)
      ≡ st (record wf { last = t }) bs found
  ask-if-is want w None None bs wf found m l h =
      ap (λ (x : Option TypedForm). st (record wf { last = x }) bs found) l
  ask-if-is want w None (Some t) bs wf found m l h = absurd h
  ask-if-is want w (Some d) None bs wf found m l h = absurd h
  ask-if-is want w (Some d) (Some t) bs wf found m l h =
      ask-is want w a_slot.Last d t bs wf found m h

  else-with-is : (name : Option (Place × NameId)) (s : TypedForm) (other : Option Form)
      (t : Option TypedForm) (bs : List Binding) (wf : Frame) (found : Option Fault)
      → wf.head ≡ Some s → wf.last ≡ None
      → MayBeAnswered (rule.with_clause bs name (type_of s)) rule.a_value other t
      → else_with k.facts name (option_map (judged k.facts) other) (st wf bs found)
      ≡ st (record wf { last = t }) bs found
  else-with-is name s None None bs wf found e l h =
      ap (λ (x : Option TypedForm). st (record wf { last = x }) bs found) l
  else-with-is name s None (Some t) bs wf found e l h = absurd h
  else-with-is name s (Some d) None bs wf found e l h = absurd h
  else-with-is name s (Some d) (Some t) bs wf found e l h =
      ap (λ (x : Option TypedForm). ask_with k.facts name (head_type x) a_slot.Last
      (judged k.facts d) (st wf bs found)) e
      ∙ ask-with-is name (type_of s) a_slot.Last d t bs wf found h

  -- ---- how forms are closed

  pub closes-name : (p : Place) (name : NameId) (bs : List Binding) (found : Option Fault)
      (s : Standing) → standing k.facts bs name ≡ s
      → name_answer k.facts p name bs found ≡ name_by p name s found
  unfolding name_answer
  closes-name p name bs found s h = ap (λ (x : Standing). name_by p name x found) h

  closes-operator : (set : SetId) (ts : List TypedForm) (p : Place) (result : Ty)
      (widened : List Bool) (found : Option Fault) → AreTypes k (types_of ts)
      → Calls k set (types_of ts) result widened
      → made_outcome (operation k.facts set ts p) found
      ≡ value (a_typed.Operation result (chosen set widened) ts) found
  unfolding operation
  closes-operator set ts p result widened found T c =
      ap (λ (x : Called). made_outcome (operation_by set ts p x) found)
      (D.calls set (types_of ts) result widened T c)

  closes-if-alone : (p : Place) (tests values : List TypedForm) (found : Option Fault)
      → if_answer k.facts p None (record opened { first = tests; second = values }) found
      ≡ value (a_typed.If unit tests values None) found
  unfolding if_answer
  closes-if-alone p tests values found = refl

  closes-if-else : (p : Place) (j : Judge) (tests values : List TypedForm) (u : TypedForm) (ty : Ty)
      (found : Option Fault) → AreTypes k (types_of values ++ type_of u ∷ [])
      → IsWidest k (types_of values ++ type_of u ∷ []) ty
      → if_answer k.facts p (Some j)
      (record opened { first = tests; second = values; last = Some u }) found
      ≡ value (a_typed.If ty tests values (Some u)) found
  unfolding if_answer
  closes-if-else p j tests values u ty found T h =
      ap (λ (x : Option Ty). by_widest p x found (λ y. a_typed.If y tests values (Some u)))
      (widest_is_computed.one k A _ T ty h)

  closes-case : (p : Place) (u : TypedForm) (side : Option Side) (cs : List Chosen)
      (tests values : List TypedForm) (w : Option TypedForm) (ty : Ty) (found : Option Fault)
      → AreTypes k (types_of values ++ rule.else_types w)
      → IsWidest k (types_of values ++ rule.else_types w) ty
      → case_answer k.facts p
      (record opened {
        head = Some u;
        first = tests;
        second = values;
        last = w;
        calls = cs;
        side = side;
      }) found ≡ value (a_typed.Case ty u cs tests values w) found
  unfolding case_answer
  closes-case p u side cs tests values w ty found T h =
      ap (λ (x : Option Ty). by_widest p x found (λ y. a_typed.Case y u cs tests values w))
      (widest_is_computed.one k A _ T ty h)

  closes-typecase : (p : Place) (name : NameId) (types : List Ty) (u : TypedForm)
      (values : List TypedForm) (w : Option TypedForm) (ty : Ty) (found : Option Fault)
      → AreTypes k (types_of values ++ rule.else_types w)
      → IsWidest k (types_of values ++ rule.else_types w) ty
      → typecase_answer k.facts p name types
      (record opened { head = Some u; second = values; last = w }) found
      ≡ value (a_typed.Typecase ty name u types values w) found
  unfolding typecase_answer
  closes-typecase p name types u values w ty found T h =
      ap (λ (x : Option Ty). by_widest p x found (λ y. a_typed.Typecase y name u types values w))
      (widest_is_computed.one k A _ T ty h)

  closes-try : (p : Place) (name : Option (Place × NameId)) (types : List Ty) (u : TypedForm)
      (values : List TypedForm) (w : Option TypedForm) (ty : Ty) (found : Option Fault)
      → AreTypes k (type_of u ∷ types_of values) → IsWidest k (type_of u ∷ types_of values) ty
      → try_answer k.facts p name types (record opened { head = Some u; second = values; last = w })
      found ≡ value (a_typed.Try ty u (rule.bound_name name) types values w) found
  unfolding try_answer
  closes-try p name types u values w ty found T h =
      ap (λ (x : Option Ty). by_widest p x found
      (λ y. a_typed.Try y u (rule.bound_name name) types values w))
      (widest_is_computed.one k A _ T ty h)

  closes-assign : (p : Place) (sign : Update) (u w : TypedForm) (found : Option Fault)
      → rule.update_operator sign ≡ None
      → assign_answer k.facts p sign (record opened { head = Some u; last = Some w }) found
      ≡ value (a_typed.Assign unit u w) found
  unfolding assign_answer
  closes-assign p sign u w found h = ap (λ (x : Option Op). assigned_by k.facts p x u w found) h

  closes-update : (p : Place) (sign : Update) (op : Op) (u w : TypedForm) (result : Ty)
      (widened : List Bool) (found : Option Fault) → rule.update_operator sign ≡ Some op
      → IsType k (type_of u) → IsType k (type_of w)
      → Calls k (operator_set k.facts op 2) (type_of u ∷ type_of w ∷ []) result widened
      → IsBelow k result (type_of u)
      → assign_answer k.facts p sign (record opened { head = Some u; last = Some w }) found
      ≡ value (a_typed.Update unit u (chosen (operator_set k.facts op 2) widened) w) found
  unfolding assign_answer
  closes-update p sign op u w result widened found h T U c b =
      ap (λ (x : Option Op). assigned_by k.facts p x u w found) h
      ∙ ap (λ (x : Called). sum_by k.facts op p u w x found)
      (D.calls _ _ result widened (T, (U, tt)) c)
      ∙ ap (λ c. cond c
      (value (a_typed.Update unit u (chosen (operator_set k.facts op 2) widened) w) found)
      (refused MISMATCH p found))
      (D.below result (type_of u) (call-type k A _ _ result widened c) T b)

  -- ---- a chain

  chain-is : (ops : List Op) (es : List Form) (ts : List TypedForm) (cs : List Chosen)
      (bs : List Binding) (found : Option Fault) → rule.Compares k (Calls k) ops ts cs
      → AllAnswered bs rule.an_operand es ts
      → (w : Frame)
      × (sides k.facts None ops (map (judged k.facts) es) (st opened bs found) ≡ st w bs found)
      × (w.first ≡ ts) × (w.calls ≡ cs) × (w.broken ≡ false)
  chain-is ops [] [] cs bs found (rule.no_more b e1 e2 e3) h = absurd cc
  chain-is ops [] [] cs bs found
      (rule.more op others b c vs result widened rest e1 e2 call_ below_ next e3) h = absurd cc
  chain-is ops (d ∷ ds) [] cs bs found c h = absurd h
  chain-is ops [] (a ∷ us) cs bs found c h = absurd h
  chain-is ops (d ∷ ds) (a ∷ us) cs bs found c h =
      let p = (judged k.facts d).place in
      let w : Frame = kept a_slot.First a opened in
      let w' : Frame = record w { side = Some (record { place = p; ty = type_of a }) } in
      let left = sides-is c ds a us p bs w' found refl refl h.0.2 h.1 in (
        left.frame,
        first-side ops d (map (judged k.facts) ds) (st opened bs found)
            ∙ ap (sides_of ops (map (judged k.facts) ds))
            (side-step None d a bs opened found w h.0 refl)
            ∙ left.is,
        left.firsts,
        left.calls,
        left.whole,
      )

  closes-chain : (w : Frame) (ts : List TypedForm) (cs : List Chosen) (found : Option Fault)
      → w.first ≡ ts → w.calls ≡ cs → w.broken ≡ false
      → unbroken w found
      (value (a_typed.Chain boolean (operator_set k.facts an_op.And 2) w.calls w.first) found)
      ≡ value (a_typed.Chain boolean (operator_set k.facts an_op.And 2) cs ts) found
  closes-chain w ts cs found e1 e2 e3 =
      ap (λ c. cond c (untyped found)
      (value (a_typed.Chain boolean (operator_set k.facts an_op.And 2) w.calls w.first) found))
      e3
      ∙ ap (λ (x : List Chosen). value
      (a_typed.Chain boolean (operator_set k.facts an_op.And 2) x w.first) found) e2
      ∙ ap (λ (x : List TypedForm). value
      (a_typed.Chain boolean (operator_set k.facts an_op.And 2) cs x) found) e1

  -- ---- one step of what stands in a row

  no-elements : (s : State) → elements [] s ≡ s
  unfolding elements
  no-elements s = refl

  no-sources : (s : State) → sources k.facts [] s ≡ s
  unfolding sources
  no-sources s = refl

  no-clauses : (s : State) → clauses k.facts [] s ≡ s
  unfolding clauses
  no-clauses s = refl

  no-cases : (name : Option (Place × NameId)) (s : State) → cases k.facts name [] s ≡ s
  unfolding cases
  no-cases name s = refl

  no-items : (s : State) → items k.facts [] s ≡ s
  unfolding items
  no-items s = refl

  last-piece : (p : Piece) (s : State) → items k.facts (p ∷ []) s ≡ item k.facts a_want.Value p s
  unfolding items
  last-piece p s = refl

  source-step : (g : Generator) (more : List Generator) (u : TypedForm) (ty : Ty)
      (bs : List Binding) (wf : Frame) (found : Option Fault)
      → is_visible k.facts bs (out-Generator g).name ≡ false
      → Answered bs rule.an_operand (out-Generator g).source u → given (type_of u) ≡ Some ty
      → wf.lost ≡ false
      → sources k.facts (map (judged_generator k.facts) (g ∷ more)) (st wf bs found)
      ≡ sources k.facts (map (judged_generator k.facts) more)
      (st (kept a_slot.First u wf)
      (bs ++ rule.binding (out-Generator g).place (out-Generator g).name ty ∷ []) found)
  unfolding sources
  source-step g more u ty bs wf found fresh h gv l =
      let rest = sources k.facts (map (judged_generator k.facts) more) in
      let after =
      st (kept a_slot.First u wf)
      (bs ++ rule.binding (out-Generator g).place (out-Generator g).name ty ∷ []) found in
      ap (λ (x : Giving). unless_lost rest
      (take_source k.facts x.place x.name x.source.place
      (said x.source (watch k.facts (Some (x.place, x.name)) (st wf bs found)))))
      (giving-is k.facts g)
      ∙ ap (unless_lost rest) (source-is g u ty bs wf found fresh h gv l)
      ∙ ap (λ c. cond c after (rest after)) l

  clause-step : (b : Branch) (more : List Branch) (s u v : TypedForm) (place : Place) (result : Ty)
      (widened : List Bool) (bs : List Binding) (wf : Frame) (found : Option Fault)
      → wf.side ≡ Some (record { place = place; ty = type_of s }) → IsType k (type_of s)
      → Answered bs rule.an_operand (rule.test_of b) u
      → Calls k (operator_set k.facts an_op.Eq 2) (type_of s ∷ type_of u ∷ []) result widened
      → IsBelow k result boolean → Answered bs rule.a_value (rule.value_of b) v
      → clauses k.facts (map (judged_branch k.facts) (b ∷ more)) (st wf bs found)
      ≡ clauses k.facts (map (judged_branch k.facts) more)
      (st (record wf {
        first = wf.first ++ u ∷ [];
        second = wf.second ++ v ∷ [];
        calls = wf.calls ++ chosen (operator_set k.facts an_op.Eq 2) widened ∷ [];
      }) bs found)
  unfolding clauses
  clause-step b more s u v place result widened bs wf found side S h c bl i =
      let rest = clauses k.facts (map (judged_branch k.facts) more) in
      ap (λ (a : Arm). rest
      (ask k.facts a_slot.Second a_want.Value a.value
      (take_test k.facts a.test.place (said a.test (st wf bs found))))) (arm-is k.facts b)
      ∙ ap (λ (x : State). rest
      (ask k.facts a_slot.Second a_want.Value (judged k.facts (rule.value_of b)) x))
      (test-is (rule.test_of b) s u place result widened bs wf found side S h c bl)
      ∙ ap rest
      (ask-is rule.a_value a_want.Value a_slot.Second (rule.value_of b) v bs
      (record wf {
        first = wf.first ++ u ∷ [];
        calls = wf.calls ++ chosen (operator_set k.facts an_op.Eq 2) widened ∷ [];
      }) found value_
      i)

  case-step : (name : Option (Place × NameId)) (b : TypeBranch) (more : List TypeBranch)
      (v : TypedForm) (bs : List Binding) (wf : Frame) (found : Option Fault)
      → Answered (rule.with_clause bs name (rule.clause_type b)) rule.a_value
      (out-TypeBranch b).value v
      → cases k.facts name (map (judged_clause k.facts) (b ∷ more)) (st wf bs found)
      ≡ cases k.facts name (map (judged_clause k.facts) more)
      (st (kept a_slot.Second v wf) bs found)
  unfolding cases
  case-step name b more v bs wf found h =
      let rest = cases k.facts name (map (judged_clause k.facts) more) in
      ap (λ (c : Clause). rest (ask_with k.facts name c.ty a_slot.Second c.value (st wf bs found)))
      (clause-is k.facts b)
      ∙ ap rest
      (ask-with-is name (rule.clause_type b) a_slot.Second (out-TypeBranch b).value v bs wf found h)

  catches-is : (branches : List TypeBranch) (s : State) → AllByRecursion (ClauseWritten k) branches
      → rule.AreExceptions k branches → catches k.facts (map (judged_clause k.facts) branches) s ≡ s
  unfolding catches
  catches-is [] s W h = refl
  catches-is (b ∷ more) s W h =
      let rest = catches k.facts (map (judged_clause k.facts) more) in
      ap (λ (c : Clause). rest
      (cond (is_below k.facts c.ty exception) s
      (record s {
        frame = is_broken s.frame;
        found = breaks NOT_AN_EXCEPTION c.place s.found;
      }))) (clause-is k.facts b)
      ∙ ap (λ c. rest
      (cond c s
      (record s {
        frame = is_broken s.frame;
        found = breaks NOT_AN_EXCEPTION (out-TypeBranch b).place s.found;
      })))
      (D.below (rule.clause_type b) exception W.0.0 (built_in_type k A 1 (omega arith)) h.0)
      ∙ catches-is more s W.1 h.1

  pub clause-types : (branches : List TypeBranch)
      → map close_clause_type (map (judged_clause k.facts) branches) ≡ map rule.clause_type branches
  clause-types [] = refl
  clause-types (b ∷ more) =
      ap (λ (c : Clause). c.ty ∷ map close_clause_type (map (judged_clause k.facts) more))
      (clause-is k.facts b) ∙ ap (λ (ts : List Ty). rule.clause_type b ∷ ts) (clause-types more)

  pub giving-names : (gs : List Generator)
      → map giving_name (map (judged_generator k.facts) gs) ≡ map rule.generator_name gs
  giving-names [] = refl
  giving-names (g ∷ more) =
      ap (λ (x : Giving). giving_name x ∷ map giving_name (map (judged_generator k.facts) more))
      (giving-is k.facts g)
      ∙ ap (λ (ns : List (NameId × Bool)). rule.generator_name g ∷ ns) (giving-names more)

  free-again : (c : Bool) → cond c false true ≡ true → c ≡ false
  free-again true h = absurd cc
  free-again false h = refl

  watch-is : (name : Option (Place × NameId)) (bs : List Binding) (wf : Frame)
      (found : Option Fault) → rule.is_fresh k bs name ≡ true
      → watch k.facts name (st wf bs found) ≡ st wf bs found
  unfolding watch
  watch-is None bs wf found h = refl
  watch-is (Some (p, name)) bs wf found h =
      ap (λ c. cond c (shadows p (st wf bs found)) (st wf bs found))
      (free-again (is_visible k.facts bs name) h)

  subject-is : (d : Form) (u : TypedForm) (bs : List Binding) (wf : Frame) (found : Option Fault)
      → Answered bs rule.an_operand d u
      → take_subject k.facts (judged k.facts d).place (said (judged k.facts d) (st wf bs found))
      ≡ st (record (kept a_slot.Head u wf) {
        side =
            Some (record { place = (judged k.facts d).place; ty = type_of u });
      }) bs found
  unfolding take_subject said
  subject-is d u bs wf found h =
      let p = (judged k.facts d).place in
      ap (λ (o : Outcome). let v = taken k.facts a_want.Operand p o.seen o.found
      in st (record (kept_if a_slot.Head v.node wf) { side = side_of p v.node }) bs v.found)
      (h.0 found)
      ∙ ap (λ (v : Valued). st (record (kept_if a_slot.Head v.node wf) { side = side_of p v.node })
      bs v.found) (taken-is rule.an_operand a_want.Operand p u found operand_ h.1 h.2)

  pub same-reduction : (r : Reduction) → Same (rule.reduction_want r) (reduction_want r)
  same-reduction a_reduction.Sum = number_
  same-reduction a_reduction.Product = number_
  same-reduction a_reduction.Maximum = number_
  same-reduction a_reduction.Minimum = number_
  same-reduction a_reduction.Conjunction = truth_
  same-reduction a_reduction.Disjunction = truth_

  want-reduction : (r : Reduction) → WantTyped (rule.reduction_want r)
  want-reduction a_reduction.Sum = tt
  want-reduction a_reduction.Product = tt
  want-reduction a_reduction.Maximum = tt
  want-reduction a_reduction.Minimum = tt
  want-reduction a_reduction.Conjunction = tt
  want-reduction a_reduction.Disjunction = tt

  -- ---- assignments

  abbrev pub with_seen : Meaning → Frame → List Binding → Option Fault → State
  with_seen m w bs found = record { seen = m; frame = w; bindings = bs; found = found }

  target-step : (d : Form) (u : TypedForm) (bs : List Binding) (wf : Frame) (found : Option Fault)
      → Answers bs d u → rule.is_target k d u ≡ true
      → take_target k.facts (judged k.facts d) (said (judged k.facts d) (st wf bs found))
      ≡ with_seen (a_meaning.Value u) (kept a_slot.Head u wf) bs found
  unfolding take_target said rule.is_target
  target-step d u bs wf found a h =
      let j = judged k.facts d in
      ap (λ (o : Outcome). targeted j.place (takes_by k.facts j o.seen) o.seen
      (with_seen o.seen wf bs o.found)) (a found)
      ∙ ap (λ c. targeted j.place c (a_meaning.Value u) (with_seen (a_meaning.Value u) wf bs found))
      (ap (λ c. c && rule.takes_at k.facts (out-TypedForm u)) (target-is d) ∙ h)

  assigned-is : (d : Form) (u w : TypedForm) (m : Meaning) (bs : List Binding) (wf : Frame)
      (found : Option Fault) → wf.head ≡ Some u → Answered bs (rule.below (type_of u)) d w
      → take_assigned k.facts (judged k.facts d).place
      (said (judged k.facts d) (with_seen m wf bs found)) ≡ st (kept a_slot.Last w wf) bs found
  unfolding take_assigned said as_wanted_below valued
  assigned-is d u w m bs wf found e h =
      let p = (judged k.facts d).place in
      let fin : Valued → State = λ v. st (kept_if a_slot.Last v.node wf) bs v.found in
      ap (λ (o : Outcome). fin (assigned_valued k.facts p wf.head (with_seen o.seen wf bs o.found)))
      (h.0 found)
      ∙ ap (λ (x : Option TypedForm). fin
      (assigned_valued k.facts p x (with_seen (a_meaning.Value w) wf bs found))) e
      ∙ ap fin (below-is (type_of u) p w found (D.below _ _ h.2 h.3 h.1))

  ask-seen : (w : Want) (slot : Slot) (j : Judge) (m : Meaning) (wf : Frame) (bs : List Binding)
      (found : Option Fault)
      → ask k.facts slot w j (with_seen m wf bs found) ≡ ask k.facts slot w j (st wf bs found)
  unfolding ask said
  ask-seen w slot j m wf bs found = refl

  -- ---- forms of which a part may be lacking

  pub at-level : (e : Form) {x : Form-F Form Item Branch Generator TypeBranch}
      {y : Form-F Judge Piece Arm Giving Clause} {o : Outcome} (bs : List Binding)
      (found : Option Fault) (s : State) → out-Form e ≡ x → mapped x ≡ y
      → inside k.facts y (begin bs found) ≡ s → close_at k.facts y s.frame bs s.found ≡ o
      → (judged k.facts e).answer bs found ≡ o
  at-level e {y = y} bs found s is same parts closes =
      ap (λ (j : Judge). j.answer bs found) (judged-out e
      ∙ ap (λ z. judge_form k.facts (mapped z)) is ∙ ap (judge_form k.facts) same)
      ∙ ap (λ (t : State). close_at k.facts y t.frame bs t.found) parts ∙ closes

  pub mapped-case : (p : Place) (s : Form) (branches : List Branch) (other : Option Form)
      → mapped (Form-F.Case p s branches other)
      ≡ Form-F.Case p (judged k.facts s) (map (judged_branch k.facts) branches)
      (option_map (judged k.facts) other)
  mapped-case p s branches None = refl
  mapped-case p s branches (Some d) = refl

  pub mapped-typecase : (p spot : Place) (name : NameId) (s : Form) (branches : List TypeBranch)
      (other : Option Form)
      → mapped (Form-F.Typecase p spot name s branches other)
      ≡ Form-F.Typecase p spot name (judged k.facts s) (map (judged_clause k.facts) branches)
      (option_map (judged k.facts) other)
  mapped-typecase p spot name s branches None = refl
  mapped-typecase p spot name s branches (Some d) = refl

  pub mapped-try : (p : Place) (b : Form) (name : Option (Place × NameId))
      (branches : List TypeBranch) (last : Option Form)
      → mapped (Form-F.Try p b name branches last)
      ≡ Form-F.Try p (judged k.facts b) name (map (judged_clause k.facts) branches)
      (option_map (judged k.facts) last)
  mapped-try p b name branches None = refl
  mapped-try p b name branches (Some d) = refl

  -- ---- whole forms

  abbrev pub ItemsLeave : List Binding → List Item → List TypedForm → Type 0
  ItemsLeave bs is ts = (wf : Frame) (found : Option Fault) → wf.lost ≡ false
      → Reaches (items k.facts (map (judged_item k.facts) is) (st wf bs found))
      (record wf { first = wf.first ++ ts }) found

  mutual
    pub has-answered : {bs : List Binding} {e : Form} {t : TypedForm} → rule.Has k (Calls k) bs e t
        → AreBound k bs → IsWritten k e → (found : Option Fault)
        → (judged k.facts e).answer bs found ≡ value t found
    has-answered {bs = bs} {e = e} (rule.number p n is te) B W found =
        at e bs found (st opened bs found) is refl (ap (λ u. value u found) (sym te))
    has-answered {bs = bs} {e = e} (rule.words p n is te) B W found =
        at e bs found (st opened bs found) is refl (ap (λ u. value u found) (sym te))
    has-answered {bs = bs} {e = e} (rule.truth p b is te) B W found =
        at e bs found (st opened bs found) is refl (ap (λ u. value u found) (sym te))
    has-answered {bs = bs} {e = e} (rule.receiver p o is own te) B W found =
        at e bs found (st opened bs found) is refl (ap (λ x. receiver p x found) own
        ∙ ap (λ u. value u found) (sym te))
    has-answered {bs = bs} {e = e} (rule.local p name b is s te) B W found =
        at e bs found (st opened bs found) is refl (closes-name p name bs found (a_binding b) s
        ∙ ap (λ u. value u found) (sym te))
    has-answered {bs = bs} {e = e} (rule.own p name o f is s te) B W found =
        at e bs found (st opened bs found) is refl (closes-name p name bs found (a_field o f) s
        ∙ ap (λ u. value u found) (sym te))
    has-answered {bs = bs} {e = e} (rule.top p name n v is s te) B W found =
        at e bs found (st opened bs found) is refl (closes-name p name bs found (a_variable n v) s
        ∙ ap (λ u. value u found) (sym te))
    has-answered {bs = bs} {e = e} (rule.single p name o is s te) B W found =
        at e bs found (st opened bs found) is refl (closes-name p name bs found (a_single o) s
        ∙ ap (λ u. value u found) (sym te))
    has-answered {bs = bs} {e = e} {t = t} (rule.parens p d is h) B W found =
        let F = of-parts k e is W in
        let a = as-answered h B F tt in
        at e bs found (st (kept a_slot.Head t opened) bs found) is
        (ask-is rule.a_value a_want.Value a_slot.Head d t bs opened found value_ a) refl
    has-answered {bs = bs} {e = e} (rule.tuple p es ts is h te) B W found =
        let F = of-parts k e is W in
        at e bs found (st (record opened { first = ts }) bs found) is
        (firsts-is rule.an_operand a_want.Operand es ts bs found operand_
        (each-answered h B F tt)) (ap (λ u. value u found) (sym te))
    has-answered {bs = bs} {e = e} (rule.operator p op es ts result widened is h c te) B W found =
        let F = of-parts k e is W in
        at e bs found (st (record opened { first = ts }) bs found) is
        (firsts-is rule.an_operand a_want.Operand es ts bs found operand_
        (each-answered h B F tt))
        (closes-operator (operator_set k.facts op (length ts)) ts p result widened found
        (all-types k A ts (typed-each k A h B F)) c ∙ ap (λ u. value u found) (sym te))
    has-answered {bs = bs} {e = e} (rule.chain p ops es ts cs is h c te) B W found =
        let F = of-parts k e is W in
        let left = chain-is ops es ts cs bs found c (each-answered h B F tt) in
        at e bs found (st left.0 bs found) is left.1
        (closes-chain left.0 ts cs found left.2 left.3 left.4
        ∙ ap (λ u. value u found) (sym te))
    has-answered {bs = bs} {e = e} {t = t} (rule.beside p es ps is h s) B W found =
        let F = of-parts k e is W in
        at e bs found (st (record opened { parts = ps }) bs found) is
        (parts-answered h B F opened found)
        (beside_is_computed k A ps (typed-parts k A h B F) t s found)
    has-answered {bs = bs} {e = e} {t = t} (rule.run p es ps is h b) B W found =
        let F = of-parts k e is W in
        at e bs found (st (record opened { parts = ps }) bs found) is
        (parts-answered h B F opened found)
        (run_is_computed k A ps (typed-parts k A h B F) t b found)
    has-answered {bs = bs} {e = e} (rule.fill p ty n v u w is hu hw te) B W found =
        let F = of-parts k e is W in
        let a = as-answered hu B F.1 (built_in_type k A 2 (omega arith))
        in let b = as-answered hw B F.2 F.0 in
        at e bs found (st (kept a_slot.Last w (kept a_slot.Head u opened)) bs found) is
        (ap (ask_below k.facts ty (judged k.facts v))
        (ask-is (rule.below zz32) a_want.Small a_slot.Head n u bs opened found small_ a)
        ∙ ask-below-is ty v w bs (kept a_slot.Head u opened) found b.0 (D.below _ _ b.2 b.3 b.1))
        (ap (λ x. value x found) (sym te))
    has-answered {bs = bs} {e = e} (rule.block p is ts ty eq h te) B W found =
        let F = of-parts k e eq W in
        let r = items-answered h B F opened found refl in
        at e bs found (st (record opened { first = ts }) r.0 found) eq r.1 (ap (λ
        (x : Ty). value (a_typed.Block x ts) found) (block-type h)
        ∙ ap (λ u. value u found) (sym te))
    has-answered {bs = bs} {e = e} {t = t} (rule.do_one p b is h) B W found =
        let F = of-parts k e is W in
        let a = as-answered h B F.0 tt in
        at e bs found (st (kept a_slot.Head t opened) bs found) is
        (ask-is rule.a_value a_want.Value a_slot.Head b t bs opened found value_ a) refl
    has-answered {bs = bs} {e = e} (rule.do_also p a b others ts is h te) B W found =
        let F = of-parts k e is W in
        at e bs found (st (record opened { first = ts }) bs found) is
        (firsts-is (rule.below unit) a_want.Unit (a ∷ b ∷ others) ts bs found unit_
        (each-answered h B F (unit_type k A))) (ap (λ u. value u found) (sym te))
    has-answered {bs = bs} {e = e} (rule.if_alone p branches tests values is h i te) B W found =
        let F = of-parts k e is W in
        at e bs found (st (record opened { first = tests; second = values }) bs found) is
        (arms-is a_want.Unit (rule.below unit) branches tests values bs opened found unit_
        (each-answered h B (tests-of k branches F.0) tt)
        (each-answered i B (values-of k branches F.0) (unit_type k A)))
        (closes-if-alone p tests values found ∙ ap (λ u. value u found) (sym te))
    has-answered {bs = bs} {e =
        e} (rule.if_else p branches d tests values u ty is h i hd wide te) B W found =
        let F = of-parts k e is W in
        let a = as-answered hd B F.1 tt in
        let T = all_join (IsType k) (types_of values) (type_of u ∷ [])
        (all-types k A values (typed-each k A i B (values-of k branches F.0))) (a.2, tt) in
        at e bs found
        (st (record opened { first = tests; second = values; last = Some u }) bs found) is
        (ap (ask k.facts a_slot.Last a_want.Value (judged k.facts d))
        (arms-is a_want.Value rule.a_value branches tests values bs opened found value_
        (each-answered h B (tests-of k branches F.0) tt)
        (each-answered i B (values-of k branches F.0) tt))
        ∙ ask-is rule.a_value a_want.Value a_slot.Last d u bs
        (record opened { first = tests; second = values }) found value_ a)
        (closes-if-else p (judged k.facts d) tests values u ty found T wide
        ∙ ap (λ u. value u found) (sym te))
    has-answered {bs = bs} {e = e} (rule.while_do p c b u v is hc hb te) B W found =
        let F = of-parts k e is W in
        let x = as-answered hc B F.0 tt in let y = as-answered hb B F.1 (unit_type k A) in
        at e bs found (st (kept a_slot.Last v (kept a_slot.Head u opened)) bs found) is
        (ap (ask k.facts a_slot.Last a_want.Unit (judged k.facts b))
        (ask-is rule.a_truth a_want.Truth a_slot.Head c u bs opened found truth_ x)
        ∙ ask-is (rule.below unit) a_want.Unit a_slot.Last b v bs (kept a_slot.Head u opened) found
        unit_ y)
        (ap (λ x. value x found) (sym te))
    has-answered {bs = bs} {e = e} (rule.for_do p gs b inner us v is hs hb te) B W found =
        let F = of-parts k e is W in
        let a = as-answered hb (sources-bound k A hs B F.0) F.1 (unit_type k A) in
        at e bs found (st (record opened { first = us; last = Some v }) inner found) is
        (ap (unless_lost (ask k.facts a_slot.Last a_want.Unit (judged k.facts b)))
        (sources-answered hs B F.0 opened found refl)
        ∙ ask-is (rule.below unit) a_want.Unit a_slot.Last b v inner (record opened { first = us })
        found unit_ a)
        (ap (λ (ns : List (NameId × Bool)). value (a_typed.For unit ns us v) found)
        (giving-names gs) ∙ ap (λ u. value u found) (sym te))
    has-answered {bs = bs} {e =
        e} (rule.case p s branches other u cs tests values w ty is hs hc ho wide te) B W found =
        let F = of-parts k e is W in
        let a = as-answered hs B F.0 tt in
        let T = all_join (IsType k) (types_of values) (rule.else_types w)
        (all-types k A values (typed-clauses k A hc B F.1)) (typed-else k A ho B F.2) in
        let place = (judged k.facts s).place in
        let side : Option Side = Some (record { place = place; ty = type_of u }) in
        at-level e bs found
        (st (record opened {
          head = Some u;
          first = tests;
          second = values;
          last = w;
          calls = cs;
          side = side;
        }) bs found) is (mapped-case p s branches other)
        (ap (λ (x : State). ask_if k.facts a_slot.Last a_want.Value
        (option_map (judged k.facts) other)
        (clauses k.facts (map (judged_branch k.facts) branches) x))
        (subject-is s u bs opened found a)
        ∙ ap (ask_if k.facts a_slot.Last a_want.Value (option_map (judged k.facts) other))
        (clauses-answered hc B F.1 a.2 place (record opened { head = Some u; side = side }) found
        refl)
        ∙ ask-if-is rule.a_value a_want.Value other w bs
        (record opened { head = Some u; first = tests; second = values; calls = cs; side = side })
        found value_ refl (else-answered ho B F.2))
        (closes-case p u side cs tests values w ty found T wide ∙ ap (λ u. value u found) (sym te))
    has-answered {bs = bs} {e =
        e} (rule.typecase p spot name s branches other u values w ty is free hs hc ho wide te) B
        W found =
        let F = of-parts k e is W in
        let a = as-answered hs B F.0 tt in
        let C = clause-bound k A bs (Some (spot, name)) (type_of u) B a.2 in
        let T = all_join (IsType k) (types_of values) (rule.else_types w)
        (all-types k A values (typed-cases k A hc B F.1)) (typed-else k A ho C F.2) in
        let bound : Option (Place × NameId) = Some (spot, name) in
        let rest : State
        → State =
        λ x. else_with k.facts bound (option_map (judged k.facts) other)
        (cases k.facts bound (map (judged_clause k.facts) branches) x) in
        at-level e bs found
        (st (record opened { head = Some u; second = values; last = w }) bs found) is
        (mapped-typecase p spot name s branches other)
        (ap (λ (x : State). unless_lost rest
        (lost_if_broken (ask k.facts a_slot.Head a_want.Value (judged k.facts s) x)))
        (watch-is bound bs opened found (ap (λ c. cond c false true) free))
        ∙ ap (λ (x : State). unless_lost rest (lost_if_broken x))
        (ask-is rule.a_value a_want.Value a_slot.Head s u bs opened found value_ a)
        ∙ ap (else_with k.facts bound (option_map (judged k.facts) other))
        (cases-answered hc B F.1 (record opened { head = Some u }) found)
        ∙ else-with-is bound u other w bs (record opened { head = Some u; second = values }) found
        refl refl (else-answered ho C F.2))
        (ap (λ (types : List Ty). typecase_answer k.facts p name types
        (record opened { head = Some u; second = values; last = w }) found)
        (clause-types branches)
        ∙ closes-typecase p name (map rule.clause_type branches) u values w ty found T wide
        ∙ ap (λ u. value u found) (sym te))
    has-answered {bs = bs} {e =
        e} (rule.try_catch p b name branches last u values w ty is hb fresh exceptions hc hl
        wide te) B W found =
        let F = of-parts k e is W in
        let a = as-answered hb B F.0 tt in
        let T : AreTypes k (type_of u ∷ types_of values) =
        (a.2, all-types k A values (typed-cases k A hc B F.1)) in
        let js = map (judged_clause k.facts) branches in
        let final : State
        → State = ask_if k.facts a_slot.Last a_want.Unit (option_map (judged k.facts) last) in
        let w1 : Frame = record opened { head = Some u } in
        at-level e bs found
        (st (record opened { head = Some u; second = values; last = w }) bs found) is
        (mapped-try p b name branches last)
        (ap (λ (x : State). final
        (unless_lost (cases k.facts name js) (catches k.facts js (watch k.facts name x))))
        (ask-is rule.a_value a_want.Value a_slot.Head b u bs opened found value_ a)
        ∙ ap (λ (x : State). final (unless_lost (cases k.facts name js) (catches k.facts js x)))
        (watch-is name bs w1 found fresh)
        ∙ ap (λ (x : State). final (unless_lost (cases k.facts name js) x))
        (catches-is branches (st w1 bs found) F.1 exceptions)
        ∙ ap final (cases-answered hc B F.1 w1 found)
        ∙ ask-if-is (rule.below unit) a_want.Unit last w bs
        (record opened { head = Some u; second = values }) found unit_ refl
        (finally-answered hl B F.2))
        (ap (λ (types : List Ty). try_answer k.facts p name types
        (record opened { head = Some u; second = values; last = w }) found)
        (clause-types branches)
        ∙ closes-try p name (map rule.clause_type branches) u values w ty found T wide
        ∙ ap (λ u. value u found) (sym te))
    has-answered {bs = bs} {e = e} (rule.atomic p d u is h te) B W found =
        let F = of-parts k e is W in
        let a = as-answered h B F tt in
        at e bs found (st (kept a_slot.Head u opened) bs found) is
        (ask-is rule.a_value a_want.Value a_slot.Head d u bs opened found value_ a)
        (ap (λ x. value x found) (sym te))
    has-answered {bs = bs} {e = e} (rule.tryatomic p d u is h te) B W found =
        let F = of-parts k e is W in
        let a = as-answered h B F tt in
        at e bs found (st (kept a_slot.Head u opened) bs found) is
        (ask-is rule.a_value a_want.Value a_slot.Head d u bs opened found value_ a)
        (ap (λ x. value x found) (sym te))
    has-answered {bs = bs} {e = e} (rule.throw p d u is h te) B W found =
        let F = of-parts k e is W in
        let a = as-answered h B F tt in
        at e bs found (st (kept a_slot.Head u opened) bs found) is
        (ask-is rule.an_exception a_want.Exception a_slot.Head d u bs opened found exception_ a)
        (ap (λ x. value x found) (sym te))
    has-answered {bs = bs} {e = e} (rule.function p ps d inner u is b h te) B W found =
        let F = of-parts k e is W in
        let a = as-answered h (binds-bound k A b B (parameters-bound k A ps F.0)) F.1 tt in
        at e bs found (st (kept a_slot.Head u opened) inner found) is
        (ap (unless_lost (ask k.facts a_slot.Head a_want.Value (judged k.facts d)))
        (binds-is b opened found refl)
        ∙ ask-is rule.a_value a_want.Value a_slot.Head d u inner opened found value_ a)
        (ap (λ x. value x found) (sym te))
    has-answered {bs = bs} {e = e} (rule.reduce p r g d inner s u is hs h te) B W found =
        let F = of-parts k e is W in
        let a = as-answered h (sources-bound k A hs B (F.0, tt)) F.1 (want-reduction r) in
        at e bs found (st (record opened { first = s ∷ []; last = Some u }) inner found) is
        (ap (unless_lost (ask k.facts a_slot.Last (reduction_want r) (judged k.facts d)))
        (sources-answered hs B (F.0, tt) opened found refl)
        ∙ ask-is (rule.reduction_want r) (reduction_want r) a_slot.Last d u inner
        (record opened { first = s ∷ [] }) found (same-reduction r) a)
        (ap (λ (x : Giving). reduced k.facts r x (s ∷ []) u found) (giving-is k.facts g)
        ∙ ap (λ x. value x found) (sym te))
    has-answered {bs = bs} {e = e} (rule.assign p d v sign u w is none hd target h te) B W found =
        let F = of-parts k e is W in
        let place = (judged k.facts d).place in
        let seen = with_seen (a_meaning.Value u) (kept a_slot.Head u opened) bs found in
        at e bs found (st (kept a_slot.Last w (kept a_slot.Head u opened)) bs found) is
        (ap (assigned_part k.facts (rule.update_operator sign) (judged k.facts v))
        (target-step d u bs opened found (has-answered hd B F.0) target)
        ∙ ap (λ (x : Option Op). assigned_part k.facts x (judged k.facts v) seen) none
        ∙ assigned-is v u w (a_meaning.Value u) bs (kept a_slot.Head u opened) found refl
        (as-answered h B F.1 (typed-of k A hd B F.0).0))
        (closes-assign place sign u w found none ∙ ap (λ x. value x found) (sym te))
    has-answered {bs = bs} {e =
        e} (rule.update p d v sign op u w result widened is some hd target h c b te) B W found =
        let F = of-parts k e is W in
        let place = (judged k.facts d).place in
        let a = as-answered h B F.1 tt in
        let seen = with_seen (a_meaning.Value u) (kept a_slot.Head u opened) bs found in
        at e bs found (st (kept a_slot.Last w (kept a_slot.Head u opened)) bs found) is
        (ap (assigned_part k.facts (rule.update_operator sign) (judged k.facts v))
        (target-step d u bs opened found (has-answered hd B F.0) target)
        ∙ ap (λ (x : Option Op). assigned_part k.facts x (judged k.facts v) seen) some
        ∙ ask-seen a_want.Operand a_slot.Last (judged k.facts v) (a_meaning.Value u)
        (kept a_slot.Head u opened) bs found
        ∙ ask-is rule.an_operand a_want.Operand a_slot.Last v w bs (kept a_slot.Head u opened) found
        operand_ a)
        (closes-update place sign op u w result widened found some (typed-of k A hd B F.0).0 a.2 c b
        ∙ ap (λ x. value x found) (sym te))

    as-answered : {bs : List Binding} {want : rule.Want} {e : Form} {t : TypedForm}
        → rule.HasAs k (Calls k) bs want e t → AreBound k bs → IsWritten k e → WantTyped want
        → Answered bs want e t
    as-answered (rule.suits h s) B W V = (has-answered h B W, s, (typed-of k A h B W).0, V)

    each-answered : {bs : List Binding} {want : rule.Want} {es : List Form} {ts : List TypedForm}
        → rule.HasEach k (Calls k) bs want es ts → AreBound k bs → AllWritten k es → WantTyped want
        → AllAnswered bs want es ts
    each-answered {bs = bs} {want = want} (rule.no_part e1 e2) B W V = none-asked bs want e1 e2
    each-answered {bs = bs} {want = want} (rule.part_ d ds u us e1 e2 h rest) B W V =
        let F = subst (AllWritten k) e1 W
        in one-asked bs want d ds u us e1 e2 (as-answered h B F.0 V) (each-answered rest B F.1 V)

    pub items-answered : {bs : List Binding} {is : List Item} {ts : List TypedForm} {ty : Ty}
        → rule.HasItems k (Calls k) bs is ts ty → AreBound k bs → AllByRecursion (ItemWritten k) is
        → ItemsLeave bs is ts
    items-answered {bs = bs} (rule.no_item e1 e2 e3) B W wf found l = (
      bs,
      ap (λ (x : List Item). items k.facts (map (judged_item k.facts) x) (st wf bs found)) e1
          ∙ no-items (st wf bs found)
          ∙ ap (λ (x : List TypedForm). st (record wf { first = x }) bs found)
          (sym (nothing_behind wf.first) ∙ ap (λ (x : List TypedForm). wf.first ++ x) (sym e2)),
    )
    items-answered {bs = bs} (rule.last_item i d u e1 e2 h e3 e4) B W wf found l =
        let F = subst (AllByRecursion (ItemWritten k)) e1 W in
        let a = as-answered h B (of-item k i e2 (all_first (ItemWritten k) i [] F)) tt in (
          bs,
          ap (λ (x : List Item). items k.facts (map (judged_item k.facts) x) (st wf bs found)) e1
              ∙ last-piece (judged_item k.facts i) (st wf bs found)
              ∙ ap (λ (x : Piece). item k.facts a_want.Value x (st wf bs found)) (item-out i e2)
              ∙ ask-is rule.a_value a_want.Value a_slot.First d u bs wf found value_ a
              ∙ ap (λ (x : List TypedForm). st (record wf { first = wf.first ++ x }) bs found)
              (sym e3),
        )
    items-answered {bs = bs} (rule.expression i j more d u us e1 e2 h rest e3) B W wf found l =
        let F = subst (AllByRecursion (ItemWritten k)) e1 W in
        let a = as-answered h B (of-item k i e2 (all_first (ItemWritten k) i (j ∷ more) F))
        (unit_type k A) in
        let r = items-answered rest B (all_rest (ItemWritten k) i (j ∷ more) F)
        (kept a_slot.First u wf) found l in (
          r.0,
          ap (λ (x : List Item). items k.facts (map (judged_item k.facts) x) (st wf bs found)) e1
              ∙ unit_go_on (judged_item k.facts i) (judged_item k.facts j)
              (map (judged_item k.facts) more) (st wf bs found) (kept a_slot.First u wf) bs found
              (ap (λ (x : Piece). item k.facts a_want.Unit x (st wf bs found)) (item-out i e2)
              ∙ ask-is (rule.below unit) a_want.Unit a_slot.First d u bs wf found unit_ a) l
              ∙ r.1
              ∙ ap (λ (x : List TypedForm). st (record wf { first = x }) r.0 found)
              (one_behind wf.first us u ∙ ap (λ (x : List TypedForm). wf.first ++ x) (sym e3)),
        )
    items-answered {bs =
        bs} (rule.declared i more p name mutable want d u us e1 e2 fresh h rest e3) B W wf found
        l =
        let F = subst (AllByRecursion (ItemWritten k)) e1 W in
        let G = of-item k i e2 (all_first (ItemWritten k) i more F) in
        let a = as-answered h B G.1 G.0 in
        let b : Binding = record { name = name; place = p; ty = want; mutable = mutable } in
        let t = a_typed.Bind unit name mutable want u in
        let r = items-answered rest (one-bound k A bs b B G.0) (all_rest (ItemWritten k) i more F)
        (kept a_slot.First t wf) found l in (
          r.0,
          ap (λ (x : List Item). items k.facts (map (judged_item k.facts) x) (st wf bs found)) e1
              ∙ go_on (judged_item k.facts i) (map (judged_item k.facts) more) (st wf bs found)
              (kept a_slot.First t wf) (bs ++ b ∷ []) found
              (λ (w : Want). ap (λ (x : Piece). item k.facts w x (st wf bs found)) (item-out i e2)
              ∙ ap (bind k.facts b)
              (initial-is name mutable want d u bs wf found a.0 (D.below _ _ a.2 a.3 a.1))
              ∙ bind-is b bs (kept a_slot.First t wf) found fresh) l
              ∙ r.1
              ∙ ap (λ (x : List TypedForm). st (record wf { first = x }) r.0 found)
              (one_behind wf.first us t ∙ ap (λ (x : List TypedForm). wf.first ++ x) (sym e3)),
        )
    items-answered {bs =
        bs} (rule.declared_all i more p names want d new inner u us e1 e2 parts b h rest e3) B W
        wf found l =
        let F = subst (AllByRecursion (ItemWritten k)) e1 W in
        let G = of-item k i e2 (all_first (ItemWritten k) i more F) in
        let a = as-answered h B G.1 G.0 in
        let j = judged k.facts d in
        let t = a_typed.Binds unit (map rule.name_and_type new) u in
        let r = items-answered rest (binds-bound k A b B (named-bound k A names want new G.0 parts))
        (all_rest (ItemWritten k) i more F) (kept a_slot.First t wf) found l in (
          r.0,
          ap (λ (x : List Item). items k.facts (map (judged_item k.facts) x) (st wf bs found)) e1
              ∙ go_on (judged_item k.facts i) (map (judged_item k.facts) more) (st wf bs found)
              (kept a_slot.First t wf) inner found
              (λ (w : Want). ap (λ (x : Piece). item k.facts w x (st wf bs found)) (item-out i e2)
              ∙ ap (λ (x : Option (List Binding)). bind_parts k.facts x
              (take_initials k.facts p want x j.place (said j (st wf bs found)))) parts
              ∙ ap (bind_all k.facts new)
              (initials-is p new want d u bs wf found a.0 (D.below _ _ a.2 a.3 a.1))
              ∙ binds-is b (kept a_slot.First t wf) found l) l
              ∙ r.1
              ∙ ap (λ (x : List TypedForm). st (record wf { first = x }) r.0 found)
              (one_behind wf.first us t ∙ ap (λ (x : List TypedForm). wf.first ++ x) (sym e3)),
        )

    pub sources-answered : {bs inner : List Binding} {gs : List Generator} {us : List TypedForm}
        → rule.HasSources k (Calls k) bs gs inner us → AreBound k bs
        → AllByRecursion (GeneratorWritten k) gs → (wf : Frame) (found : Option Fault)
        → wf.lost ≡ false
        → sources k.facts (map (judged_generator k.facts) gs) (st wf bs found)
        ≡ st (record wf { first = wf.first ++ us }) inner found
    sources-answered {bs = bs} {inner = inner} (rule.no_source e1 e2 e3) B W wf found l =
        ap (λ (x : List Generator). sources k.facts (map (judged_generator k.facts) x)
        (st wf bs found)) e1 ∙ no-sources (st wf bs found)
        ∙ ap (λ (x : List Binding). st wf x found) (sym e2)
        ∙ ap (λ (x : List TypedForm). st (record wf { first = x }) inner found)
        (sym (nothing_behind wf.first) ∙ ap (λ (x : List TypedForm). wf.first ++ x) (sym e3))
    sources-answered {bs = bs} {inner =
        inner} (rule.source g more u vs ty e1 e2 fresh h gv rest) B W wf found l =
        let F = subst (AllByRecursion (GeneratorWritten k)) e1 W in
        let a = as-answered h B F.0 tt in
        ap (λ (x : List Generator). sources k.facts (map (judged_generator k.facts) x)
        (st wf bs found)) e1
        ∙ source-step g more u ty bs wf found fresh a gv l
        ∙ sources-answered rest (one-bound k A bs _ B (given-typed k A (type_of u) ty a.2 gv)) F.1
        (kept a_slot.First u wf) found l
        ∙ ap (λ (x : List TypedForm). st (record wf { first = x }) inner found)
        (one_behind wf.first vs u ∙ ap (λ (x : List TypedForm). wf.first ++ x) (sym e2))

    pub clauses-answered : {bs : List Binding} {s : TypedForm} {branches : List Branch}
        {cs : List Chosen} {tests values : List TypedForm}
        → rule.HasClauses k (Calls k) bs s branches cs tests values
        → AreBound k bs → AllByRecursion (BranchWritten k) branches → IsType k (type_of s)
        → (place : Place) (wf : Frame) (found : Option Fault)
        → wf.side ≡ Some (record { place = place; ty = type_of s })
        → clauses k.facts (map (judged_branch k.facts) branches) (st wf bs found)
        ≡ st (record wf {
          first = wf.first ++ tests;
          second = wf.second ++ values;
          calls = wf.calls ++ cs;
        }) bs found
    clauses-answered {bs = bs} {cs = cs} {tests = tests} {values =
        values} (rule.no_clause e1 e2 e3 e4) B W S place wf found side =
        ap (λ (x : List Branch). clauses k.facts (map (judged_branch k.facts) x) (st wf bs found))
        e1 ∙ no-clauses (st wf bs found)
        ∙ ap (λ (x : List TypedForm). st (record wf { first = x }) bs found)
        (sym (nothing_behind wf.first) ∙ ap (λ (x : List TypedForm). wf.first ++ x) (sym e3))
        ∙ ap (λ (x : List TypedForm). st (record wf { first = wf.first ++ tests; second = x }) bs
        found) (sym (nothing_behind wf.second) ∙ ap (λ
        (x : List TypedForm). wf.second ++ x) (sym e4))
        ∙ ap (λ (x : List Chosen). st
        (record wf { first = wf.first ++ tests; second = wf.second ++ values; calls = x }) bs
        found) (sym (nothing_behind wf.calls) ∙ ap (λ
        (x : List Chosen). wf.calls ++ x) (sym e2))
    clauses-answered {bs = bs} {s = s} {cs = cs} {tests = tests} {values =
        values} (rule.clause b more u v result widened ds us vs e1 h c bl i rest e2 e3 e4) B W S
        place wf found side =
        let F = subst (AllByRecursion (BranchWritten k)) e1 W in
        let call = chosen (operator_set k.facts an_op.Eq 2) widened in
        let w : Frame =
        record wf {
          first = wf.first ++ u ∷ [];
          second = wf.second ++ v ∷ [];
          calls = wf.calls ++ call ∷ [];
        } in
        ap (λ (x : List Branch). clauses k.facts (map (judged_branch k.facts) x) (st wf bs found))
        e1
        ∙ clause-step b more s u v place result widened bs wf found side S
        (as-answered h B F.0.0 tt) c bl (as-answered i B F.0.1 tt)
        ∙ clauses-answered rest B F.1 S place w found side
        ∙ ap (λ (x : List TypedForm). st
        (record w { first = x; second = w.second ++ vs; calls = w.calls ++ ds }) bs found)
        (one_behind wf.first us u ∙ ap (λ (x : List TypedForm). wf.first ++ x) (sym e3))
        ∙ ap (λ (x : List TypedForm). st
        (record w { first = wf.first ++ tests; second = x; calls = w.calls ++ ds }) bs found)
        (one_behind wf.second vs v ∙ ap (λ (x : List TypedForm). wf.second ++ x) (sym e4))
        ∙ ap (λ (x : List Chosen). st
        (record w { first = wf.first ++ tests; second = wf.second ++ values; calls = x }) bs
        found) (one_behind wf.calls ds call ∙ ap (λ (x : List Chosen). wf.calls ++ x) (sym e2))

    pub cases-answered : {bs : List Binding} {name : Option (Place × NameId)}
        {branches : List TypeBranch} {values : List TypedForm}
        → rule.HasCases k (Calls k) bs name branches values → AreBound k bs
        → AllByRecursion (ClauseWritten k) branches → (wf : Frame) (found : Option Fault)
        → cases k.facts name (map (judged_clause k.facts) branches) (st wf bs found)
        ≡ st (record wf { second = wf.second ++ values }) bs found
    cases-answered {bs = bs} {name = name} (rule.no_case e1 e2) B W wf found =
        ap (λ (x : List TypeBranch). cases k.facts name (map (judged_clause k.facts) x)
        (st wf bs found)) e1 ∙ no-cases name (st wf bs found)
        ∙ ap (λ (x : List TypedForm). st (record wf { second = x }) bs found)
        (sym (nothing_behind wf.second) ∙ ap (λ (x : List TypedForm). wf.second ++ x) (sym e2))
    cases-answered {bs = bs} {name = name} (rule.case_ b more v vs e1 e2 h rest) B W wf found =
        let F = subst (AllByRecursion (ClauseWritten k)) e1 W in
        ap (λ (x : List TypeBranch). cases k.facts name (map (judged_clause k.facts) x)
        (st wf bs found)) e1
        ∙ case-step name b more v bs wf found
        (as-answered h (clause-bound k A bs name (rule.clause_type b) B F.0.0) F.0.1 tt)
        ∙ cases-answered rest B F.1 (kept a_slot.Second v wf) found
        ∙ ap (λ (x : List TypedForm). st (record wf { second = x }) bs found)
        (one_behind wf.second vs v ∙ ap (λ (x : List TypedForm). wf.second ++ x) (sym e2))

    else-answered : {bs : List Binding} {other : Option Form} {w : Option TypedForm}
        → rule.HasElse k (Calls k) bs other w → AreBound k bs → MayBeWritten k other
        → MayBeAnswered bs rule.a_value other w
    else-answered {bs = bs} (rule.no_else e1 e2) B W = none-behind bs rule.a_value e1 e2
    else-answered {bs = bs} (rule.else_ d u e1 h e2) B W =
        some-behind bs rule.a_value d u e1 e2 (as-answered h B (subst (MayBeWritten k) e1 W) tt)

    finally-answered : {bs : List Binding} {last : Option Form} {w : Option TypedForm}
        → rule.HasFinally k (Calls k) bs last w → AreBound k bs → MayBeWritten k last
        → MayBeAnswered bs (rule.below unit) last w
    finally-answered {bs = bs} (rule.no_finally e1 e2) B W = none-behind bs (rule.below unit) e1 e2
    finally-answered {bs = bs} (rule.finally_ d u e1 h e2) B W =
        some-behind bs (rule.below unit) d u e1 e2
        (as-answered h B (subst (MayBeWritten k) e1 W) (unit_type k A))

    parts-answered : {bs : List Binding} {es : List Form} {ps : List Part}
        → rule.HasParts k (Calls k) bs es ps → AreBound k bs → AllWritten k es
        → (wf : Frame) (found : Option Fault)
        → elements (map (judged k.facts) es) (st wf bs found)
        ≡ st (record wf { parts = wf.parts ++ ps }) bs found
    parts-answered {bs = bs} (rule.no_element e1 e2) B W wf found =
        ap (λ (x : List Form). elements (map (judged k.facts) x) (st wf bs found)) e1
        ∙ no-elements (st wf bs found)
        ∙ ap (λ (x : List Part). st (record wf { parts = x }) bs found)
        (sym (nothing_behind wf.parts) ∙ ap (λ (x : List Part). wf.parts ++ x) (sym e2))
    parts-answered {bs = bs} (rule.element_ d ds m qs e1 e2 h rest) B W wf found =
        let F = subst (AllWritten k) e1 W in
        ap (λ (x : List Form). elements (map (judged k.facts) x) (st wf bs found)) e1
        ∙ elements-step d ds bs wf found m (means-answered h B F.0)
        ∙ parts-answered rest B F.1 (record wf { parts = wf.parts ++ rule.part d m ∷ [] }) found
        ∙ ap (λ (x : List Part). st (record wf { parts = x }) bs found)
        (one_behind wf.parts qs (rule.part d m) ∙ ap (λ (x : List Part). wf.parts ++ x) (sym e2))

    pub means-answered : {bs : List Binding} {e : Form} {m : Meaning}
        → rule.Means k (Calls k) bs e m → AreBound k bs → IsWritten k e → Element bs e m
    means-answered {bs = bs} {e = e} (rule.a_named name (rule.names p is s) me) B W found = (
      a_meaning.Functions name,
      at e bs found (st opened bs found) is refl
          (closes-name p name bs found functions s),
      sym me,
      refl,
    )
    means-answered {bs = bs} {e = e} (rule.a_valued t h me) B W found =
        let a = as-answered h B W tt in (
          a_meaning.Value t,
          a.0 found,
          ap (λ c. cond c a_meaning.Unknown (a_meaning.Value t)) a.1
              ∙ sym me,
          ap (λ c. cond c (breaks MISMATCH (judged k.facts e).place found) found) a.1,
        )
    means-answered {bs = bs} {e = e} (rule.an_index p i t is h me) B W found =
        let a = as-answered h B (of-parts k e is W) (built_in_type k A 2 (omega arith)) in (
          a_meaning.Index t,
          at e bs found (st (kept a_slot.Head t opened) bs found) is
              (ask-is (rule.below zz32) a_want.Small a_slot.Head i t bs opened found small_ a)
              refl,
          sym me,
          refl,
        )
    means-answered {bs = bs} {e = e} (rule.an_exponent p d t is h me) B W found =
        let a = as-answered h B (of-parts k e is W) tt in (
          a_meaning.Exponent t,
          at e bs found (st (kept a_slot.Head t opened) bs found) is
              (ask-is rule.an_operand a_want.Operand a_slot.Head d t bs opened found operand_ a)
              refl,
          sym me,
          refl,
        )
    means-answered {bs = bs} {e = e} (rule.a_field_of p spot name is me) B W found =
        (a_meaning.Field spot name, at e bs found (st opened bs found) is refl refl, sym me, refl)
    means-answered {bs = bs} {e = e} (rule.a_method_of p spot name es ts is h me) B W found = (
      a_meaning.Method spot name ts,
      at e bs found (st (record opened { first = ts }) bs found) is
          (firsts-is rule.an_operand a_want.Operand es ts bs found operand_
          (each-answered h B (of-parts k e is W) tt)) refl,
      sym me,
      refl,
    )

pub has_is_answered : HasIsAnswered
has_is_answered k A bs B e W t h found = has-answered k A h B W found

pub one_typed_form : OneTypedForm
one_typed_form k A bs B e W t u h i =
    value-once (sym (has_is_answered k A bs B e W t h None) ∙ has_is_answered k A bs B e W u i None)
