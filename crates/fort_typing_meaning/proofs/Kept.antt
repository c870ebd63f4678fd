-- The parts of a form leave the bindings that were there.
use Rattle.std.proofs.Common.{◌≡◌, ℕ, Bool, true, false, cond, List, [], ◌∷◌, ◌++◌, length, map, take, Option, Some, None, refl, ap, ◌∙◌, sym, subst}
use Rattle.fort_base.specs.declared.ids.NameId.{NameId}
use Rattle.fort_base.specs.declared.refusal.Place.{Place}
use Rattle.fort_base.specs.declared.ty.Ty.{Ty}
use Rattle.fort_ops.specs.declared.op.Op.{Op}
use Rattle.fort_ops.specs.declared.op.Op.TheVariants as an_op
use Rattle.fort_scope.specs.declared.binding.Binding.{Binding}
use Rattle.fort_form.specs.declared.form.Form.TheOpen.{Form-F}
use Rattle.fort_form_typed.specs.declared.typed_form.TypedForm.{TypedForm}
use Rattle.fort_typing_known.specs.Known.{Facts}
use Rattle.fort_typing_known.specs.Below.{is_below}
use Rattle.fort_typing_known.specs.Names.{is_visible}
use Rattle.fort_typing_call.specs.declared.called.Called.{Called}
use Rattle.fort_typing_call.specs.declared.called.Called.TheVariants as a_call
use Rattle.fort_typing_call.specs.Called.{called}
use Rattle.fort_typing_known.specs.Sets.{operator_set}
use Rattle.fort_typing_rules.specs.declared.part.Meaning.{Meaning}
use Rattle.fort_typing_rules.specs.declared.part.Meaning.TheVariants as a_meaning
use Rattle.fort_typing_rules.specs.Types.{boolean, exception, type_of}
use Rattle.fort_typing_rules.specs.Typing.{named_parts, with_clause, binding, parameter_binding, update_operator}
use Rattle.fort_typing_meaning.specs.declared.frame.Want.{Want}
use Rattle.fort_typing_meaning.specs.declared.frame.Want.TheVariants as a_want
use Rattle.fort_typing_meaning.specs.declared.frame.Slot.{Slot}
use Rattle.fort_typing_meaning.specs.declared.frame.Slot.TheVariants as a_slot
use Rattle.fort_typing_meaning.specs.Tests.{taken}
use Rattle.fort_typing_meaning.specs.Parts.{Judge, Piece, local, locals, expression, Arm, Clause, Giving, State, said, ask, ask_below, asks, ask_if, unless_lost, take_part, take_below, bind, bind_all, bind_parts, watch, ask_with, take_initial, take_initials, item, items, gives, given_by, take_source, sources, compared_by, compared, after_side, take_side, sides, take_subject, take_test, side_type, side_place, clauses, arms, catches, cases, lost_if_broken, else_with, take_element, elements, targeted, take_assigned, with_frame, kept_if, as_wanted_below, head_type}
use Rattle.fort_typing_meaning.specs.Judging.{done_parts, if_parts, reduction_want, take_target, takes_by, assigned_part, inside}

-- the bindings begin with these
abbrev pub Keeps : List Binding → State → Type 0
Keeps bs s = take (length bs) s.bindings ≡ bs

take_front : (bs cs ds : List Binding) → take (length bs) cs ≡ bs → take (length bs) (cs ++ ds) ≡ bs
take_front [] cs ds e = refl
take_front (b ∷ bs) [] ds e = absurd cc
take_front (b ∷ bs) (c ∷ cs) ds e =
    let h : c ≡ b = cc in
    let t : take (length bs) cs ≡ bs = cc in
    let r = take_front bs cs ds t in
    cc

pub take_whole : (bs : List Binding) → take (length bs) bs ≡ bs
take_whole [] = refl
take_whole (b ∷ bs) = ap (λ us. b ∷ us) (take_whole bs)

take_first : (bs ds : List Binding) → take (length bs) (bs ++ ds) ≡ bs
take_first bs ds = take_front bs bs ds (take_whole bs)

-- a binding of a clause goes
clause_goes : (bs : List Binding) (name : Option (Place × NameId)) (ty : Ty)
    → take (length bs) (with_clause bs name ty) ≡ bs
clause_goes bs None ty = take_whole bs
clause_goes bs (Some (p, name)) ty = take_first bs _

either : (P : State → Type 0) (c : Bool) (s t : State) → P s → P t → P (cond c s t)
either P true s t p q = p
either P false s t p q = q

module _ (k : Facts) (bs : List Binding) where
  keeps_bind : (b : Binding) (s : State) → Keeps bs s → Keeps bs (bind k b s)
  unfolding bind
  keeps_bind b s h =
      either (Keeps bs) (is_visible k s.bindings b.name) _ _ h (take_front bs s.bindings _ h)

  keeps_bind_all : (new : List Binding) (s : State) → Keeps bs s → Keeps bs (bind_all k new s)
  unfolding bind_all
  keeps_bind_all [] s h = h
  keeps_bind_all (b ∷ new) s h =
      let i = keeps_bind b s h
      in either (Keeps bs) (bind k b s).frame.lost _ _ i (keeps_bind_all new (bind k b s) i)

  keeps_watch : (name : Option (Place × NameId)) (s : State) → Keeps bs s
      → Keeps bs (watch k name s)
  unfolding watch
  keeps_watch None s h = h
  keeps_watch (Some (p, name)) s h = either (Keeps bs) (is_visible k s.bindings name) _ _ h h

  keeps_said : (j : Judge) (s : State) → Keeps bs s → Keeps bs (said j s)
  unfolding said
  keeps_said j s h = h

  keeps_ask : (slot : Slot) (want : Want) (j : Judge) (s : State) → Keeps bs s
      → Keeps bs (ask k slot want j s)
  unfolding ask take_part said
  keeps_ask slot want j s h = h

  keeps_ask_below : (ty : Ty) (j : Judge) (s : State) → Keeps bs s → Keeps bs (ask_below k ty j s)
  unfolding ask_below take_below said
  keeps_ask_below ty j s h = h

  keeps_asks : (slot : Slot) (want : Want) (js : List Judge) (s : State) → Keeps bs s
      → Keeps bs (asks k slot want js s)
  unfolding asks
  keeps_asks slot want [] s h = h
  keeps_asks slot want (j ∷ js) s h =
      keeps_asks slot want js (ask k slot want j s) (keeps_ask slot want j s h)

  keeps_ask_if : (slot : Slot) (want : Want) (o : Option Judge) (s : State) → Keeps bs s
      → Keeps bs (ask_if k slot want o s)
  keeps_ask_if slot want (Some j) s h = keeps_ask slot want j s h
  keeps_ask_if slot want None s h = h

  keeps_ask_with : (name : Option (Place × NameId)) (ty : Ty) (slot : Slot) (j : Judge) (s : State)
      → Keeps bs s → Keeps bs (ask_with k name ty slot j s)
  unfolding ask_with ask take_part said
  keeps_ask_with name ty slot j s h = ap (take (length bs)) (clause_goes s.bindings name ty) ∙ h

  keeps_parts : (new : Option (List Binding)) (s : State) → Keeps bs s
      → Keeps bs (bind_parts k new s)
  keeps_parts (Some new) s h = keeps_bind_all new s h
  keeps_parts None s h = h

  keeps_initials : (at : Place) (ty : Ty) (new : Option (List Binding)) (place : Place) (s : State)
      → Keeps bs s → Keeps bs (take_initials k at ty new place s)
  unfolding take_initials
  keeps_initials at ty (Some new) place s h = h
  keeps_initials at ty None place s h = h

  keeps_item : (want : Want) (i : Piece) (s : State) → Keeps bs s → Keeps bs (item k want i s)
  unfolding take_initial said
  keeps_item want (expression j) s h = keeps_ask a_slot.First want j s h
  keeps_item want (local p name m ty j) s h =
      keeps_bind _ (take_initial k name m ty j.place (said j s)) h
  keeps_item want (locals p names ty j) s h =
      keeps_parts (named_parts names ty) _
      (keeps_initials p ty (named_parts names ty) j.place (said j s) h)

  keeps_items : (is : List Piece) (s : State) → Keeps bs s → Keeps bs (items k is s)
  unfolding items
  keeps_items [] s h = h
  keeps_items (i ∷ []) s h = keeps_item a_want.Value i s h
  keeps_items (i ∷ j ∷ is) s h =
      let g = keeps_item a_want.Unit i s h
      in either (Keeps bs) (item k a_want.Unit i s).frame.lost _ _ g
      (keeps_items (j ∷ is) (item k a_want.Unit i s) g)

  keeps_gives : (at : Place) (name : NameId) (place : Place) (t : Option TypedForm) (ty : Option Ty)
      (s : State) → Keeps bs s → Keeps bs (gives k at name place t ty s)
  keeps_gives at name place (Some t) (Some ty) s h =
      either (Keeps bs) s.frame.lost _ _ h (take_front bs s.bindings _ h)
  keeps_gives at name place (Some t) None s h = h
  keeps_gives at name place None ty s h = h

  keeps_source : (at : Place) (name : NameId) (place : Place) (s : State) → Keeps bs s
      → Keeps bs (take_source k at name place s)
  unfolding take_source
  keeps_source at name place s h =
      let v = taken k a_want.Operand place s.seen s.found
      in keeps_gives at name place v.node (given_by v.node) (with_frame s.frame v.found s) h

  keeps_sources : (gs : List Giving) (s : State) → Keeps bs s → Keeps bs (sources k gs s)
  unfolding sources
  keeps_sources [] s h = h
  keeps_sources (g ∷ gs) s h =
      let w = watch k (Some (g.place, g.name)) s in
      let i = keeps_source g.place g.name g.source.place (said g.source w)
      (keeps_said g.source w (keeps_watch (Some (g.place, g.name)) s h)) in
      let t = take_source k g.place g.name g.source.place (said g.source w) in
      either (Keeps bs) t.frame.lost _ _ i (keeps_sources gs t i)

  keeps_compared_by : (op : Op) (place : Place) (c : Called) (s : State) → Keeps bs s
      → Keeps bs (compared_by k op place c s)
  keeps_compared_by op place (a_call.Result result widened) s h =
      either (Keeps bs) (is_below k result boolean) _ _ h h
  keeps_compared_by op place (a_call.Refused rule) s h = h

  keeps_compared : (op : Op) (place : Place) (t : Option Ty) (u : Option TypedForm) (s : State)
      → Keeps bs s → Keeps bs (compared k op place t u s)
  keeps_compared op place (Some t) (Some u) s h =
      keeps_compared_by op place (called k (operator_set k op 2) (t ∷ type_of u ∷ [])) s h
  keeps_compared op place (Some t) None s h = h
  keeps_compared op place None u s h = h

  keeps_after_side : (op : Option Op) (place : Place) (u : Option TypedForm) (s : State)
      → Keeps bs s → Keeps bs (after_side k op place u s)
  keeps_after_side (Some op) place u s h =
      keeps_compared op (side_place place s.frame.side) (side_type s.frame.side) u s h
  keeps_after_side None place u s h = h

  keeps_side : (op : Option Op) (place : Place) (s : State) → Keeps bs s
      → Keeps bs (take_side k op place s)
  unfolding take_side
  keeps_side op place s h =
      let v = taken k a_want.Operand place s.seen s.found
      in keeps_after_side op place v.node
      (with_frame (kept_if a_slot.First v.node s.frame) v.found s) h

  keeps_sides : (op : Option Op) (ops : List Op) (js : List Judge) (s : State) → Keeps bs s
      → Keeps bs (sides k op ops js s)
  unfolding sides
  keeps_sides op ops [] s h = h
  keeps_sides op [] (j ∷ js) s h =
      keeps_sides None [] js (take_side k op j.place (said j s))
      (keeps_side op j.place (said j s) (keeps_said j s h))
  keeps_sides op (next ∷ ops) (j ∷ js) s h =
      keeps_sides (Some next) ops js (take_side k op j.place (said j s))
      (keeps_side op j.place (said j s) (keeps_said j s h))

  keeps_subject : (place : Place) (s : State) → Keeps bs s → Keeps bs (take_subject k place s)
  unfolding take_subject
  keeps_subject place s h = h

  keeps_test : (place : Place) (s : State) → Keeps bs s → Keeps bs (take_test k place s)
  unfolding take_test
  keeps_test place s h = let v = taken k a_want.Operand place s.seen s.found in
      keeps_compared an_op.Eq place (side_type s.frame.side) v.node
      (with_frame (kept_if a_slot.First v.node s.frame) v.found s) h

  keeps_clauses : (as_ : List Arm) (s : State) → Keeps bs s → Keeps bs (clauses k as_ s)
  unfolding clauses
  keeps_clauses [] s h = h
  keeps_clauses (a ∷ as_) s h =
      keeps_clauses as_
      (ask k a_slot.Second a_want.Value a.value (take_test k a.test.place (said a.test s)))
      (keeps_ask a_slot.Second a_want.Value a.value _
      (keeps_test a.test.place (said a.test s) (keeps_said a.test s h)))

  keeps_arms : (want : Want) (as_ : List Arm) (s : State) → Keeps bs s
      → Keeps bs (arms k want as_ s)
  unfolding arms
  keeps_arms want [] s h = h
  keeps_arms want (a ∷ as_) s h =
      keeps_arms want as_
      (ask k a_slot.Second want a.value (ask k a_slot.First a_want.Truth a.test s))
      (keeps_ask a_slot.Second want a.value _ (keeps_ask a_slot.First a_want.Truth a.test s h))

  keeps_catches : (cs : List Clause) (s : State) → Keeps bs s → Keeps bs (catches k cs s)
  unfolding catches
  keeps_catches [] s h = h
  keeps_catches (c ∷ cs) s h =
      keeps_catches cs _ (either (Keeps bs) (is_below k c.ty exception) _ _ h h)

  keeps_cases : (name : Option (Place × NameId)) (cs : List Clause) (s : State) → Keeps bs s
      → Keeps bs (cases k name cs s)
  unfolding cases
  keeps_cases name [] s h = h
  keeps_cases name (c ∷ cs) s h =
      keeps_cases name cs (ask_with k name c.ty a_slot.Second c.value s)
      (keeps_ask_with name c.ty a_slot.Second c.value s h)

  keeps_else : (name : Option (Place × NameId)) (o : Option Judge) (s : State) → Keeps bs s
      → Keeps bs (else_with k name o s)
  keeps_else name (Some j) s h = keeps_ask_with name (head_type s.frame.head) a_slot.Last j s h
  keeps_else name None s h = h

  keeps_elements : (js : List Judge) (s : State) → Keeps bs s → Keeps bs (elements js s)
  unfolding elements take_element said
  keeps_elements [] s h = h
  keeps_elements (j ∷ js) s h =
      keeps_elements js (take_element j.place j.parens j.listed j.postfix (said j s)) h

  keeps_targeted : (place : Place) (takes : Bool) (m : Meaning) (s : State) → Keeps bs s
      → Keeps bs (targeted place takes m s)
  keeps_targeted place takes (a_meaning.Value t) s h = either (Keeps bs) takes _ _ h h
  keeps_targeted place takes (a_meaning.Functions name) s h = h
  keeps_targeted place takes _ s h = h

  keeps_target : (j : Judge) (s : State) → Keeps bs s → Keeps bs (take_target k j s)
  unfolding take_target
  keeps_target j s h = keeps_targeted j.place (takes_by k j s.seen) s.seen s h

  keeps_assigned : (op : Option Op) (j : Judge) (s : State) → Keeps bs s
      → Keeps bs (assigned_part k op j s)
  unfolding take_assigned said
  keeps_assigned None j s h = h
  keeps_assigned (Some op) j s h = keeps_ask a_slot.Last a_want.Operand j s h

  keeps_done : (js : List Judge) (s : State) → Keeps bs s → Keeps bs (done_parts k js s)
  keeps_done [] s h = h
  keeps_done (j ∷ []) s h = keeps_ask a_slot.Head a_want.Value j s h
  keeps_done (i ∷ j ∷ js) s h = keeps_asks a_slot.First a_want.Unit (i ∷ j ∷ js) s h

  keeps_if : (as_ : List Arm) (o : Option Judge) (s : State) → Keeps bs s
      → Keeps bs (if_parts k as_ o s)
  keeps_if as_ None s h = keeps_arms a_want.Unit as_ s h
  keeps_if as_ (Some j) s h =
      keeps_ask a_slot.Last a_want.Value j _ (keeps_arms a_want.Value as_ s h)

  unless : (f : State → State) (s : State) → Keeps bs s → Keeps bs (f s)
      → Keeps bs (unless_lost f s)
  unless f s h g = either (Keeps bs) s.frame.lost _ _ h g

  -- what the parts of a form bind is bound behind what was bound before them
  pub keeps_inside : (f : Form-F Judge Piece Arm Giving Clause) (s : State) → Keeps bs s
      → Keeps bs (inside k f s)
  keeps_inside (Form-F.Number p n) s h = h
  keeps_inside (Form-F.Text p n) s h = h
  keeps_inside (Form-F.Truth p b) s h = h
  keeps_inside (Form-F.Receiver p) s h = h
  keeps_inside (Form-F.Name p name) s h = h
  keeps_inside (Form-F.Parens p e) s h = keeps_ask _ _ e s h
  keeps_inside (Form-F.Tuple p es) s h = keeps_asks _ _ es s h
  keeps_inside (Form-F.Operator p op es) s h = keeps_asks _ _ es s h
  keeps_inside (Form-F.Chain p ops es) s h = keeps_sides None ops es s h
  keeps_inside (Form-F.Beside p es) s h = keeps_elements es s h
  keeps_inside (Form-F.Run p es) s h = keeps_elements es s h
  keeps_inside (Form-F.Subscript p e) s h = keeps_ask _ _ e s h
  keeps_inside (Form-F.Power p e) s h = keeps_ask _ _ e s h
  keeps_inside (Form-F.Field p at name) s h = h
  keeps_inside (Form-F.Method p at name es) s h = keeps_asks _ _ es s h
  keeps_inside (Form-F.Fill p ty n v) s h = keeps_ask_below ty v _ (keeps_ask _ _ n s h)
  keeps_inside (Form-F.Block p is) s h = keeps_items is s h
  keeps_inside (Form-F.Do p blocks) s h = keeps_done blocks s h
  keeps_inside (Form-F.If p as_ other) s h = keeps_if as_ other s h
  keeps_inside (Form-F.While p c b) s h = keeps_ask _ _ b _ (keeps_ask _ _ c s h)
  keeps_inside (Form-F.For p gs b) s h =
      let g = keeps_sources gs s h
      in unless (ask k a_slot.Last a_want.Unit b) (sources k gs s) g (keeps_ask _ _ b _ g)
  keeps_inside (Form-F.Case p s as_ other) t h =
      keeps_ask_if _ _ other _
      (keeps_clauses as_ _ (keeps_subject s.place (said s t) (keeps_said s t h)))
  keeps_inside (Form-F.Typecase p at name s cs other) t h =
      let u = lost_if_broken (ask k a_slot.Head a_want.Value s (watch k (Some (at, name)) t)) in
      let g : Keeps bs u =
      keeps_ask a_slot.Head a_want.Value s (watch k (Some (at, name)) t)
      (keeps_watch (Some (at, name)) t h) in
      unless (λ v. else_with k (Some (at, name)) other (cases k (Some (at, name)) cs v)) u g
      (keeps_else (Some (at, name)) other _ (keeps_cases (Some (at, name)) cs u g))
  keeps_inside (Form-F.Try p b name cs last) s h =
      let w = catches k cs (watch k name (ask k a_slot.Head a_want.Value b s)) in
      let g : Keeps bs w =
      keeps_catches cs _ (keeps_watch name _ (keeps_ask a_slot.Head a_want.Value b s h)) in
      keeps_ask_if _ _ last _ (unless (cases k name cs) w g (keeps_cases name cs w g))
  keeps_inside (Form-F.Atomic p e) s h = keeps_ask _ _ e s h
  keeps_inside (Form-F.Tryatomic p e) s h = keeps_ask _ _ e s h
  keeps_inside (Form-F.Throw p e) s h = keeps_ask _ _ e s h
  keeps_inside (Form-F.Fn p ps e) s h =
      let g = keeps_bind_all (map parameter_binding ps) s h
      in unless (ask k a_slot.Head a_want.Value e) (bind_all k (map parameter_binding ps) s) g
      (keeps_ask _ _ e _ g)
  keeps_inside (Form-F.Reduce p r g e) s h =
      let i = keeps_sources (g ∷ []) s h
      in unless (ask k a_slot.Last (reduction_want r) e) (sources k (g ∷ []) s) i
      (keeps_ask _ _ e _ i)
  keeps_inside (Form-F.Assign p t sign e) s h =
      keeps_assigned (update_operator sign) e _ (keeps_target t (said t s) (keeps_said t s h))
