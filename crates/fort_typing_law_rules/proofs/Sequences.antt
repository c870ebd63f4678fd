-- What a block answers is exact where its items are; and a reduction.
use Rattle.std.proofs.Common.{◌≡◌, ◌⊎◌, inl, inr, Bool, true, false, cond, List, [], ◌∷◌, ◌++◌, map, Option, Some, None, refl, ap, ◌∙◌, sym, subst}
use Rattle.std.specs.List.{AllByRecursion}
use Rattle.fort_base.specs.declared.ids.NameId.{NameId}
use Rattle.fort_base.specs.declared.refusal.Place.{Place}
use Rattle.fort_base.specs.declared.rules.TheConstants.{SHADOWS, MISMATCH}
use Rattle.fort_base.specs.declared.ty.Ty.{Ty}
use Rattle.fort_scope.specs.declared.binding.Binding.{Binding}
use Rattle.fort_form.specs.declared.form.Form.{Form, out-Form}
use Rattle.fort_form.specs.declared.form.Form.TheOpen.{Form-F, Item-F}
use Rattle.fort_form.specs.declared.form.Item.{Item, out-Item}
use Rattle.fort_form.specs.declared.form.Branch.{Branch}
use Rattle.fort_form.specs.declared.form.TypeBranch.{TypeBranch}
use Rattle.fort_form.specs.declared.form.Generator.{Generator, out-Generator}
use Rattle.fort_form.specs.declared.form.Reduction.{Reduction}
use Rattle.fort_form_typed.specs.declared.typed_form.TypedForm.{TypedForm}
use Rattle.fort_form_typed.specs.declared.typed_form.TypedForm.TheVariants as a_typed
use Rattle.fort_typing_known.specs.declared.fault.Fault.{Fault}
use Rattle.fort_typing_known.specs.Known.{Knows}
use Rattle.fort_typing_known.specs.Names.{is_visible}
use Rattle.fort_typing_known.specs.Sets.{operator_set}
use Rattle.fort_typing_rules.specs.Calls.{Calls}
use Rattle.fort_typing_rules.specs.Types.{unit, type_of, fault}
use Rattle.fort_typing_rules.specs.Typing as rule
use Rattle.fort_typing_rules.specs.Breaking as breaking
use Rattle.fort_typing_meaning.specs.declared.frame.Want.{Want}
use Rattle.fort_typing_meaning.specs.declared.frame.Want.TheVariants as a_want
use Rattle.fort_typing_meaning.specs.declared.frame.Slot.TheVariants as a_slot
use Rattle.fort_typing_meaning.specs.declared.frame.Frame.{Frame}
use Rattle.fort_typing_meaning.specs.declared.frame.Valued.{Valued}
use Rattle.fort_typing_meaning.specs.Faults.{with_fault, breaks}
use Rattle.fort_typing_meaning.specs.Tests.{value, untyped, valued}
use Rattle.fort_typing_meaning.specs.Parts.{Piece, local, locals, Giving, State, opened, is_broken, kept, said, unless_lost, bind, bind_all, bind_parts, declares, declares_all, take_initial, take_initials, as_wanted_below, below_by, item, items}
use Rattle.fort_typing_meaning.specs.Closing.{by_one, reduced, last_type}
use Rattle.fort_typing_meaning.specs.Judging.{judged, judged_item, judged_generator, reduction_want}
use Rattle.fort_typing_meaning.proofs.Levels.{giving-is}
use Rattle.fort_typing_law_rules.specs.Deciding.{IsType, IsAccepted}
use Rattle.fort_typing_law_rules.specs.Written.{IsWritten, AreBound}
use Rattle.fort_typing_law_rules.specs.Exact.{IsFirst, FormBreaks, Answers, IsExactExpression}
use Rattle.fort_typing_law_rules.proofs.Types.{all_first, all_rest}
use Rattle.fort_typing_law_rules.proofs.Written.{GeneratorWritten, ItemWritten, of-item}
use Rattle.fort_typing_law_rules.proofs.Typed.{binds-bound, one-bound, named-bound}
use Rattle.fort_typing_law_rules.proofs.Answered.{value_, unit_, st, at, item-out, block-type, binds-is, same-reduction, nothing_behind, one_behind}
use Rattle.fort_typing_law_rules.proofs.Asking.{ValuedAs, got, missed, below-is, Asked, kept_there, lacking, ask-exact}
use Rattle.fort_typing_law_rules.proofs.Firsts.{no_more, alike, one_more, both}
use Rattle.fort_typing_law_rules.proofs.Steps.{typed-so, broken-so, of-layer, only-left}
use Rattle.fort_typing_law_rules.proofs.Scopes.{lost_frame, not-both, Shadow, BoundAll, all_bound, one_taken, bind-all-exact, binds-once, one-of, behind, Inside}

abbrev first_node : List TypedForm → TypedForm → TypedForm
first_node (s ∷ ts) u = s
first_node [] u = u

module _ (k : Knows) (A : IsAccepted k) where
  -- ---- reductions

  pub reduce-exact : (bs : List Binding) → AreBound k bs
      → (e : Form) (found : Option Fault) (p : Place) (r : Reduction) (g : Generator) (d : Form)
      → GeneratorWritten k g → IsExactExpression k (out-Generator g).source
      → IsWritten k d → IsExactExpression k d → out-Form e ≡ Form-F.Reduce p r g d
      → Answers k bs e found ((judged k.facts e).answer bs found)
  reduce-exact bs B e found p r g d G S W X is =
      behind k A bs B e found (g ∷ []) d (G, tt) (S, tt) W X (Form-F.Reduce p r g d) is
      (rule.reduction_want r) (reduction_want r) (same-reduction k A r)
      (λ us u. a_typed.Reduce (type_of u) r (operator_set k.facts (rule.reduction_operator r) 2)
      (out-Generator g).name (out-Generator g).sequential (first_node us u) u) refl whole
      (λ x new br. ap
      (λ c. cond c (untyped new)
      (by_one x.last new
      (λ u. reduced k.facts r (judged_generator k.facts g) x.first u new))) br) has to
      (λ f b. only-left k A (of-layer k A bs e f is b))
    where
      whole : (us : List TypedForm) (u : TypedForm) (inner : List Binding) (new : Option Fault)
          → rule.HasSources k (Calls k) bs (g ∷ []) inner us
          → reduced k.facts r (judged_generator k.facts g) us u new
          ≡ value (a_typed.Reduce (type_of u) r (operator_set k.facts (rule.reduction_operator r) 2)
          (out-Generator g).name (out-Generator g).sequential (first_node us u) u) new
      whole us u inner new hs = let o = one-of k A hs in
          ap (λ (xs : List TypedForm). reduced k.facts r (judged_generator k.facts g) xs u new) o.1
          ∙ ap (λ (x : Giving). reduced k.facts r x (o.0 ∷ []) u new) (giving-is k.facts g)
          ∙ ap (λ (xs : List TypedForm). value
          (a_typed.Reduce (type_of u) r (operator_set k.facts (rule.reduction_operator r) 2)
          (out-Generator g).name (out-Generator g).sequential (first_node xs u) u) new)
          (sym o.1)

      has : (inner : List Binding) (us : List TypedForm) (u : TypedForm)
          → rule.HasSources k (Calls k) bs (g ∷ []) inner us
          → rule.HasAs k (Calls k) inner (rule.reduction_want r) d u
          → rule.Has k (Calls k) bs e
          (a_typed.Reduce (type_of u) r (operator_set k.facts (rule.reduction_operator r) 2)
          (out-Generator g).name (out-Generator g).sequential (first_node us u) u)
      has inner us u hs h = let o = one-of k A hs in
          rule.reduce p r g d inner o.0 u is (subst (λ
          (xs : List TypedForm). rule.HasSources k (Calls k) bs (g ∷ []) inner xs) o.1 hs) h
          (ap (λ (xs : List TypedForm). a_typed.Reduce (type_of u) r
          (operator_set k.facts (rule.reduction_operator r) 2) (out-Generator g).name
          (out-Generator g).sequential (first_node xs u) u) o.1)

      to : (f : Fault)
          → breaking.BreaksSources k bs (g ∷ []) f
          ⊎ Inside k A bs B e found (g ∷ []) d (G, tt) (S, tt) W X (rule.reduction_want r) f
          → FormBreaks k bs e f
      to f (inl b) = inl (breaking.in_source p r g d is b)
      to f (inr c) = inl (breaking.in_reduced p r g d c.0 c.1 is c.2 c.3)

  -- ---- items

  abbrev pub ItemLayerExact : Item-F Form Item Branch Generator TypeBranch → Type 0
  ItemLayerExact (Item-F.Local p name mutable ty d) = IsExactExpression k d
  ItemLayerExact (Item-F.Locals p names ty d) = IsExactExpression k d
  ItemLayerExact (Item-F.Expression d) = IsExactExpression k d

  abbrev pub ItemExact : Item → Type 0
  ItemExact i = ItemLayerExact (out-Item i)

  pub data Itemed (bs : List Binding) (is : List Item) (wf : Frame) (found : Option Fault)
      (s : State) : Type 0 where
    all_items : (ts : List TypedForm) (ty : Ty) (new : Option Fault) (inner : List Binding)
        → rule.HasItems k (Calls k) bs is ts ty → IsFirst found (breaking.BreaksItems k bs is) new
        → s ≡ st (record wf { first = wf.first ++ ts }) inner new → Itemed bs is wf found s
    item_lacking : (f : Fault) (new : Option Fault) (x : Frame) (cs : List Binding)
        → breaking.BreaksItems k bs is f → IsFirst found (breaking.BreaksItems k bs is) new
        → s ≡ st x cs new → x.broken ≡ true
        → Itemed bs is wf found s

  none-itemed : (bs : List Binding) (f : Fault) → breaking.BreaksItems k bs [] f → ⊥
  none-itemed bs f (breaking.in_last i d e o b) = absurd cc
  none-itemed bs f (breaking.in_item i j more d e o b) = absurd cc
  none-itemed bs f (breaking.behind_item i j more d e o b) = absurd cc
  none-itemed bs f (breaking.shadowing_local i more p name m w d e o v x) = absurd cc
  none-itemed bs f (breaking.in_initial i more p name m w d e o b) = absurd cc
  none-itemed bs f (breaking.behind_local i more p name m w d e o v b) = absurd cc
  none-itemed bs f (breaking.no_parts i more p names w d e o n x) = absurd cc
  none-itemed bs f (breaking.shadowing_locals i more p names w d new e o n b) = absurd cc
  none-itemed bs f (breaking.in_initials i more p names w d e o b) = absurd cc
  none-itemed bs f (breaking.behind_locals i more p names w d new inner e o n h b) = absurd cc

  -- ---- what an item breaks, by its layer

  abbrev LastBreaks : List Binding → List Item → Form → Fault → Type 0
  LastBreaks bs [] d f = breaking.BreaksAs k bs rule.a_value d f
  LastBreaks bs (j ∷ more) d f = breaking.BreaksAs k bs (rule.below unit) d f
      ⊎ breaking.BreaksItems k bs (j ∷ more) f

  abbrev local_binding : Place → NameId → Bool → Ty → Binding
  local_binding p name mutable ty = record { name = name; place = p; ty = ty; mutable = mutable }

  abbrev LocalsBreaks : List Binding → Place → Form → Ty → Option (List Binding) → List Item → Fault
      → Type 0
  LocalsBreaks bs p d want None more f = breaking.BreaksAs k bs (rule.below want) d f
      ⊎ (f ≡ fault MISMATCH p)
  LocalsBreaks bs p d want (Some new) more f =
      (breaking.BreaksAs k bs (rule.below want) d f ⊎ breaking.BindingBreaks k bs new f)
      ⊎ ((inner : List Binding) × rule.Binds k bs new inner × breaking.BreaksItems k inner more f)

  abbrev ItemBreaks : List Binding → Item-F Form Item Branch Generator TypeBranch → List Item
      → Fault → Type 0
  ItemBreaks bs (Item-F.Expression d) more f = LastBreaks bs more d f
  ItemBreaks bs (Item-F.Local p name mutable ty d) more f =
      (breaking.BreaksAs k bs (rule.below ty) d f ⊎ Shadow k A bs p name f)
      ⊎ ((is_visible k.facts bs name ≡ false)
      × breaking.BreaksItems k (bs ++ local_binding p name mutable ty ∷ []) more f)
  ItemBreaks bs (Item-F.Locals p names ty d) more f =
      LocalsBreaks bs p d ty (rule.named_parts names ty) more f

  item-view : (bs : List Binding) (i : Item) (more : List Item) (f : Fault)
      → breaking.BreaksItems k bs (i ∷ more) f → ItemBreaks bs (out-Item i) more f
  item-view bs i more f (breaking.in_last j d e o b) =
      let q : j ≡ i = cc in let r : [] ≡ more = cc in
      subst (λ y. ItemBreaks bs y more f) (sym o ∙ ap out-Item q) (subst (λ
      (ys : List Item). LastBreaks bs ys d f) r b)
  item-view bs i more f (breaking.in_item j n rest d e o b) =
      let q : j ≡ i = cc in let r : n ∷ rest ≡ more = cc in
      subst (λ y. ItemBreaks bs y more f) (sym o ∙ ap out-Item q) (subst (λ
      (ys : List Item). LastBreaks bs ys d f) r (inl b))
  item-view bs i more f (breaking.behind_item j n rest d e o b) =
      let q : j ≡ i = cc in let r : n ∷ rest ≡ more = cc in
      subst (λ y. ItemBreaks bs y more f) (sym o ∙ ap out-Item q) (subst (λ
      (ys : List Item). LastBreaks bs ys d f) r (inr b))
  item-view bs i more f (breaking.shadowing_local j rest p name m w d e o v x) =
      let q : j ≡ i = cc
      in subst (λ y. ItemBreaks bs y more f) (sym o ∙ ap out-Item q) (inl (inr (v, x)))
  item-view bs i more f (breaking.in_initial j rest p name m w d e o b) =
      let q : j ≡ i = cc
      in subst (λ y. ItemBreaks bs y more f) (sym o ∙ ap out-Item q) (inl (inl b))
  item-view bs i more f (breaking.behind_local j rest p name m w d e o v b) =
      let q : j ≡ i = cc in let r : rest ≡ more = cc in
      subst (λ y. ItemBreaks bs y more f) (sym o
      ∙ ap out-Item q)
      (inr (
        v,
        subst (λ
            (ys : List Item). breaking.BreaksItems k (bs ++ local_binding p name m w ∷ []) ys f) r
            b,
      ))
  item-view bs i more f (breaking.no_parts j rest p names w d e o n x) =
      let q : j ≡ i = cc
      in subst (λ y. ItemBreaks bs y more f) (sym o
      ∙ ap out-Item q) (subst (λ z. LocalsBreaks bs p d w z more f) (sym n) (inr x))
  item-view bs i more f (breaking.shadowing_locals j rest p names w d new e o n b) =
      let q : j ≡ i = cc
      in subst (λ y. ItemBreaks bs y more f) (sym o
      ∙ ap out-Item q) (subst (λ z. LocalsBreaks bs p d w z more f) (sym n) (inl (inr b)))
  item-view bs i more f (breaking.in_initials j rest p names w d e o b) =
      let q : j ≡ i = cc
      in subst (λ y. ItemBreaks bs y more f) (sym o
      ∙ ap out-Item q) (initial (rule.named_parts names w))
    where
      initial : (z : Option (List Binding)) → LocalsBreaks bs p d w z more f
      initial None = inl b
      initial (Some new) = inl (inl b)
  item-view bs i more f (breaking.behind_locals j rest p names w d new inner e o n h b) =
      let q : j ≡ i = cc in let r : rest ≡ more = cc in
      subst (λ y. ItemBreaks bs y more f) (sym o
      ∙ ap out-Item q)
      (subst (λ z. LocalsBreaks bs p d w z more f) (sym n)
      (inr (inner, h, subst (λ (ys : List Item). breaking.BreaksItems k inner ys f) r b)))

  -- ---- one item and those behind it

  abbrev Rest : List Item → Type 0
  Rest more = (cs : List Binding) → AreBound k cs → (y : Frame) (mid : Option Fault)
      → y.lost ≡ false
      → Itemed cs more y mid (items k.facts (map (judged_item k.facts) more) (st y cs mid))

  -- behind an item that is kept, or lacks a type
  module _ (bs : List Binding) (i : Item) (more : List Item) (wf : Frame) (found : Option Fault)
      (One Next : Fault → Type 0)
      (of : (f : Fault) → breaking.BreaksItems k bs (i ∷ more) f → One f ⊎ Next f)
      (made : (f : Fault) → One f ⊎ Next f → breaking.BreaksItems k bs (i ∷ more) f) where
    on-first : (inner : List Binding) (mid new : Option Fault)
        → ((f : Fault) → breaking.BreaksItems k inner more f → Next f)
        → ((f : Fault) → Next f → breaking.BreaksItems k inner more f)
        → IsFirst found One mid → IsFirst mid (breaking.BreaksItems k inner more) new
        → IsFirst found (breaking.BreaksItems k bs (i ∷ more)) new
    on-first inner mid new to from i1 j =
        alike found (λ f. One f
        ⊎ breaking.BreaksItems k inner more f) (breaking.BreaksItems k bs (i ∷ more)) new there
        back (both found mid new One (breaking.BreaksItems k inner more) i1 j)
      where
        there : (f : Fault) → One f ⊎ breaking.BreaksItems k inner more f
            → breaking.BreaksItems k bs (i ∷ more) f
        there f (inl b) = made f (inl b)
        there f (inr b) = made f (inr (to f b))

        back : (f : Fault) → breaking.BreaksItems k bs (i ∷ more) f
            → One f ⊎ breaking.BreaksItems k inner more f
        back f b = elim (of f b) [ inl c ↦ inl c | inr c ↦ inr (from f c) ]

    with-item : (t : TypedForm) (inner : List Binding) (mid : Option Fault) (s : State)
        → ((us : List TypedForm) (ty : Ty) → rule.HasItems k (Calls k) inner more us ty
        → rule.HasItems k (Calls k) bs (i ∷ more) (t ∷ us) ty)
        → ((f : Fault) → breaking.BreaksItems k inner more f → Next f)
        → ((f : Fault) → Next f → breaking.BreaksItems k inner more f) → IsFirst found One mid
        → Itemed inner more (kept a_slot.First t wf) mid s → Itemed bs (i ∷ more) wf found s
    with-item t inner mid s has to from i1 (all_items us ty new cs h j e) =
        all_items (t ∷ us) ty new cs (has us ty h) (on-first inner mid new to from i1 j)
        (e ∙ ap (λ
        (xs : List TypedForm). st (record wf { first = xs }) cs new)
        (one_behind wf.first us t))
    with-item t inner mid s has to from i1 (item_lacking f new x cs b j e br) =
        item_lacking f new x cs (made f (inr (to f b))) (on-first inner mid new to from i1 j) e br

    without-item : (g : Fault) (inner : List Binding) (mid : Option Fault) (y : Frame) (s : State)
        → One g → y.broken ≡ true
        → ((f : Fault) → breaking.BreaksItems k inner more f → Next f)
        → ((f : Fault) → Next f → breaking.BreaksItems k inner more f) → IsFirst found One mid
        → Itemed inner more y mid s → Itemed bs (i ∷ more) wf found s
    without-item g inner mid y s c br to from i1 (all_items us ty new cs h j e) =
        item_lacking g new (record y { first = y.first ++ us }) cs (made g (inl c))
        (on-first inner mid new to from i1 j) e br
    without-item g inner mid y s c br to from i1 (item_lacking f new x cs b j e br2) =
        item_lacking g new x cs (made g (inl c)) (on-first inner mid new to from i1 j) e br2

    stopped : (g : Fault) (new : Option Fault) (x : Frame) (cs : List Binding) (s : State) → One g
        → ((f : Fault) → Next f → ⊥) → IsFirst found One new → s ≡ st x cs new → x.broken ≡ true
        → Itemed bs (i ∷ more) wf found s
    stopped g new x cs s c n i1 e br = item_lacking g new x cs (made g (inl c))
        (alike found One (breaking.BreaksItems k bs (i ∷ more)) new (λ f b. made f (inl b))
        (λ f b. elim (of f b) [ inl d ↦ d | inr d ↦ absurd (n f d) ]) i1) e br

  same-either : (c : Bool) (s : State) → cond c s s ≡ s
  same-either true s = refl
  same-either false s = refl

  -- an item that doesn't ask what is wanted of it
  items-cons : (p : Piece) (rest : List Piece) (s t : State) → ((w : Want) → item k.facts w p s ≡ t)
      → items k.facts (p ∷ rest) s ≡ unless_lost (items k.facts rest) t
  unfolding items
  items-cons p [] s t h = h a_want.Value ∙ sym (same-either t.frame.lost t)
  items-cons p (q ∷ rest) s t h = ap (unless_lost (items k.facts (q ∷ rest))) (h a_want.Unit)

  unless-known : (f : State → State) (x : Frame) (cs : List Binding) (new : Option Fault)
      → x.lost ≡ false → unless_lost f (st x cs new) ≡ f (st x cs new)
  unless-known f x cs new l = ap (λ c. cond c (st x cs new) (f (st x cs new))) l

  unless-lost : (f : State → State) (x : Frame) (cs : List Binding) (new : Option Fault)
      → x.lost ≡ true → unless_lost f (st x cs new) ≡ st x cs new
  unless-lost f x cs new l = ap (λ c. cond c (st x cs new) (f (st x cs new))) l

  -- ---- a local variable

  module _ (bs : List Binding) (B : AreBound k bs) (i : Item) (more : List Item) (wf : Frame)
      (found : Option Fault) (l : wf.lost ≡ false) (rest : Rest more) where
    abbrev rests : State → State
    rests s = unless_lost (items k.facts (map (judged_item k.facts) more)) s

    abbrev Goal : State → Type 0
    Goal s = Itemed bs (i ∷ more) wf found s

    abbrev Mores : List Binding → Frame → Option Fault → Type 0
    Mores cs y mid =
        Itemed bs (i ∷ more) wf found (items k.facts (map (judged_item k.facts) more) (st y cs mid))

    -- the state behind an item that leaves the scope known
    known-rest : (cs : List Binding) (y : Frame) (mid : Option Fault) → y.lost ≡ false
        → Mores cs y mid → Goal (rests (st y cs mid))
    known-rest cs y mid q h =
        subst Goal (sym (unless-known (items k.facts (map (judged_item k.facts) more)) y cs mid q))
        h

    module _ (p : Place) (name : NameId) (mutable : Bool) (ty : Ty) (d : Form)
        (is : out-Item i ≡ Item-F.Local p name mutable ty d) (T : IsType k ty) (W : IsWritten k d)
        (X : IsExactExpression k d) where
      abbrev b : Binding
      b = local_binding p name mutable ty

      abbrev As : Fault → Type 0
      As f = breaking.BreaksAs k bs (rule.below ty) d f

      abbrev One : Fault → Type 0
      One f = As f ⊎ Shadow k A bs p name f

      abbrev Next : Fault → Type 0
      Next f = (is_visible k.facts bs name ≡ false) × breaking.BreaksItems k (bs ++ b ∷ []) more f

      of : (f : Fault) → breaking.BreaksItems k bs (i ∷ more) f → One f ⊎ Next f
      of f c = subst (λ y. ItemBreaks bs y more f) is (item-view bs i more f c)

      made : (f : Fault) → One f ⊎ Next f → breaking.BreaksItems k bs (i ∷ more) f
      made f (inl (inl c)) = breaking.in_initial i more p name mutable ty d refl is c
      made f (inl (inr c)) = breaking.shadowing_local i more p name mutable ty d refl is c.0 c.1
      made f (inr c) = breaking.behind_local i more p name mutable ty d refl is c.0 c.1

      abbrev left_by : Bool → Option TypedForm → Option Fault → State
      left_by c o mid =
          cond c (st (lost_frame (declares name mutable ty o wf)) bs
          (with_fault (fault SHADOWS p) mid))
          (st (declares name mutable ty o wf) (bs ++ b ∷ []) mid)

      free-first : (mid : Option Fault) → is_visible k.facts bs name ≡ false → IsFirst found As mid
          → IsFirst found One mid
      free-first mid v j = alike found As One mid (λ f c. inl c) back j
        where
          back : (f : Fault) → One f → As f
          back f (inl c) = c
          back f (inr c) = not-both c.0 v

      taken-first : (mid : Option Fault) → is_visible k.facts bs name ≡ true → IsFirst found As mid
          → IsFirst found One (with_fault (fault SHADOWS p) mid)
      taken-first mid v j =
          both found mid (with_fault (fault SHADOWS p) mid) As (Shadow k A bs p name) j
          (alike mid (λ f. f
          ≡ fault SHADOWS p) (Shadow k A bs p name) (with_fault (fault SHADOWS p) mid)
          (λ f e. (v, e)) (λ f h. h.1) (one_more (fault SHADOWS p) mid))

      C : AreBound k (bs ++ b ∷ [])
      C = one-bound k A bs b B T

      left : (v : Valued) → ValuedAs k A bs B d W X (rule.below ty) found v → (c : Bool)
          → is_visible k.facts bs name ≡ c → Goal (rests (left_by c v.node v.found))
      left v (got t e h j) true vis =
          stopped bs i more wf found One Next of made (fault SHADOWS p)
          (with_fault (fault SHADOWS p) v.found) (lost_frame (declares name mutable ty v.node wf))
          bs _ (inr (vis, refl))
          (λ f n. not-both vis n.0) (taken-first v.found vis j) refl refl
      left v (missed x e c j) true vis =
          stopped bs i more wf found One Next of made (fault SHADOWS p)
          (with_fault (fault SHADOWS p) v.found) (lost_frame (declares name mutable ty v.node wf))
          bs _ (inr (vis, refl))
          (λ f n. not-both vis n.0) (taken-first v.found vis j) refl refl
      left v (got t e h j) false vis =
          subst (λ (o : Option TypedForm). Goal (rests (left_by false o v.found))) (sym e)
          (known-rest (bs ++ b ∷ []) (kept a_slot.First (a_typed.Bind unit name mutable ty t) wf)
          v.found l
          (with-item bs i more wf found One Next of made (a_typed.Bind unit name mutable ty t)
          (bs ++ b ∷ []) v.found _
          (λ us u h2. rule.declared i more p name mutable ty d t us refl is vis h h2 refl)
          (λ f n. (vis, n)) (λ f n. n.1) (free-first v.found vis j)
          (rest (bs ++ b ∷ []) C (kept a_slot.First (a_typed.Bind unit name mutable ty t) wf)
          v.found l)))
      left v (missed x e c j) false vis =
          subst (λ (o : Option TypedForm). Goal (rests (left_by false o v.found))) (sym e)
          (known-rest (bs ++ b ∷ []) (is_broken wf) v.found l
          (without-item bs i more wf found One Next of made x (bs ++ b ∷ []) v.found (is_broken wf)
          _ (inl c) refl (λ f n. (vis, n)) (λ f n. n.1) (free-first v.found vis j)
          (rest (bs ++ b ∷ []) C (is_broken wf) v.found l)))

      abbrev outcome_found : Option Fault
      outcome_found = ((judged k.facts d).answer bs found).found

      abbrev initial : Valued
      initial =
          below_by k.facts ty (judged k.facts d).place
          (valued (judged k.facts d).place ((judged k.facts d).answer bs found).seen
          outcome_found).node
          (valued (judged k.facts d).place ((judged k.facts d).answer bs found).seen
          outcome_found).found

      piece-left : (w : Want)
          → item k.facts w (local p name mutable ty (judged k.facts d)) (st wf bs found)
          ≡ left_by (is_visible k.facts bs name) initial.node initial.found
      unfolding bind breaks take_initial said as_wanted_below
      piece-left w = refl

      pub local-exact : Goal (items k.facts (map (judged_item k.facts) (i ∷ more)) (st wf bs found))
      local-exact =
          subst Goal
          (sym (items-cons (judged_item k.facts i) (map (judged_item k.facts) more) (st wf bs found)
          (left_by (is_visible k.facts bs name) initial.node initial.found)
          (λ w. ap (λ
          (x : Piece). item k.facts w x (st wf bs found)) (item-out k A i is)
          ∙ piece-left w)))
          (left initial (below-is k A bs B d W X ty found T) (is_visible k.facts bs name) refl)

    module _ (p : Place) (names : List (Place × NameId)) (ty : Ty) (d : Form)
        (is : out-Item i ≡ Item-F.Locals p names ty d) (T : IsType k ty) (W : IsWritten k d)
        (X : IsExactExpression k d) where
      abbrev As2 : Fault → Type 0
      As2 f = breaking.BreaksAs k bs (rule.below ty) d f

      abbrev initial2 : Valued
      initial2 =
          below_by k.facts ty (judged k.facts d).place
          (valued (judged k.facts d).place ((judged k.facts d).answer bs found).seen
          ((judged k.facts d).answer bs found).found).node
          (valued (judged k.facts d).place ((judged k.facts d).answer bs found).seen
          ((judged k.facts d).answer bs found).found).found

      -- without as many parts as names
      abbrev One0 : Fault → Type 0
      One0 f = As2 f ⊎ (f ≡ fault MISMATCH p)

      abbrev Next0 : Fault → Type 0
      Next0 f = ⊥

      of0 : rule.named_parts names ty ≡ None → (f : Fault) → breaking.BreaksItems k bs (i ∷ more) f
          → One0 f ⊎ Next0 f
      of0 n f c =
          inl (subst (λ o. LocalsBreaks bs p d ty o more f) n
          (subst (λ y. ItemBreaks bs y more f) is (item-view bs i more f c)))

      made0 : rule.named_parts names ty ≡ None → (f : Fault) → One0 f ⊎ Next0 f
          → breaking.BreaksItems k bs (i ∷ more) f
      made0 n f (inl (inl c)) = breaking.in_initials i more p names ty d refl is c
      made0 n f (inl (inr c)) = breaking.no_parts i more p names ty d refl is n c
      made0 n f (inr c) = absurd c

      first-of-valued : (v : Valued) → ValuedAs k A bs B d W X (rule.below ty) found v
          → IsFirst found As2 v.found
      first-of-valued v (got t e h j) = j
      first-of-valued v (missed x e c j) = j

      left0 : (v : Valued) → ValuedAs k A bs B d W X (rule.below ty) found v
          → rule.named_parts names ty ≡ None
          → Goal (rests (st (lost_frame (is_broken wf)) bs (with_fault (fault MISMATCH p) v.found)))
      left0 v h n =
          stopped bs i more wf found One0 Next0 (of0 n) (made0 n) (fault MISMATCH p)
          (with_fault (fault MISMATCH p) v.found) (lost_frame (is_broken wf)) bs _ (inr refl)
          (λ f c. c)
          (both found v.found (with_fault (fault MISMATCH p) v.found) As2 (λ f. f
          ≡ fault MISMATCH p) (first-of-valued v h) (one_more (fault MISMATCH p) v.found))
          refl refl

      -- with them
      module _ (new : List Binding) (n : rule.named_parts names ty ≡ Some new) where
        abbrev One1 : Fault → Type 0
        One1 f = As2 f ⊎ breaking.BindingBreaks k bs new f

        abbrev Next1 : Fault → Type 0
        Next1 f = (inner : List Binding) × rule.Binds k bs new inner
            × breaking.BreaksItems k inner more f

        of1 : (f : Fault) → breaking.BreaksItems k bs (i ∷ more) f → One1 f ⊎ Next1 f
        of1 f c =
            subst (λ o. LocalsBreaks bs p d ty o more f) n
            (subst (λ y. ItemBreaks bs y more f) is (item-view bs i more f c))

        made1 : (f : Fault) → One1 f ⊎ Next1 f → breaking.BreaksItems k bs (i ∷ more) f
        made1 f (inl (inl c)) = breaking.in_initials i more p names ty d refl is c
        made1 f (inl (inr c)) = breaking.shadowing_locals i more p names ty d new refl is n c
        made1 f (inr c) = breaking.behind_locals i more p names ty d new c.0 refl is n c.1 c.2

        abbrev node_frame : Option TypedForm → Frame
        node_frame o = declares_all (map rule.name_and_type new) o wf

        node-lost : (o : Option TypedForm) → (node_frame o).lost ≡ false
        node-lost (Some t) = l
        node-lost None = l

        never-bound : (y : Frame) (mid now : Option Fault) (cs : List Binding) → y.lost ≡ false
            → bind_all k.facts new (st y bs mid) ≡ st (lost_frame y) cs now → (inner : List Binding)
            → rule.Binds k bs new inner → ⊥
        never-bound y mid now cs q e inner h =
            let z : true ≡ false =
            ap (λ (s : State). s.frame.lost) (sym e ∙ binds-is k A h y mid q) ∙ q in absurd cc

        stop-bound : (y : Frame) (mid now : Option Fault) (cs : List Binding) (f : Fault)
            → y.lost ≡ false → IsFirst found As2 mid → breaking.BindingBreaks k bs new f
            → IsFirst mid (breaking.BindingBreaks k bs new) now
            → bind_all k.facts new (st y bs mid) ≡ st (lost_frame y) cs now
            → Goal (rests (bind_all k.facts new (st y bs mid)))
        stop-bound y mid now cs f q i1 c j e = subst (λ (s : State). Goal (rests s)) (sym e)
            (stopped bs i more wf found One1 Next1 of1 made1 f now (lost_frame y) cs _ (inr c)
            (λ g z. never-bound y mid now cs q e z.0 z.1)
            (both found mid now As2 (breaking.BindingBreaks k bs new) i1 j) refl refl)

        clean-first : (mid : Option Fault) → ((f : Fault) → breaking.BindingBreaks k bs new f → ⊥)
            → IsFirst found As2 mid → IsFirst found One1 mid
        clean-first mid nb j =
            alike found As2 One1 mid (λ f c. inl c)
            (λ f c. elim c [ inl z ↦ z | inr z ↦ absurd (nb f z) ]) j

        D1 : (inner : List Binding) → rule.Binds k bs new inner → AreBound k inner
        D1 inner h = binds-bound k A h B (named-bound k A names ty new T n)

        to1 : (inner : List Binding) → rule.Binds k bs new inner → (f : Fault)
            → breaking.BreaksItems k inner more f → Next1 f
        to1 inner h f c = (inner, h, c)

        from1 : (inner : List Binding) → rule.Binds k bs new inner → (f : Fault) → Next1 f
            → breaking.BreaksItems k inner more f
        from1 inner h f c =
            subst (λ (cs : List Binding). breaking.BreaksItems k cs more f) (binds-once k A c.1 h)
            c.2

        kept-bound : (t : TypedForm) (mid : Option Fault)
            → rule.HasAs k (Calls k) bs (rule.below ty) d t → IsFirst found As2 mid
            → BoundAll k A bs new
            (kept a_slot.First (a_typed.Binds unit (map rule.name_and_type new) t) wf) mid
            (bind_all k.facts new
            (st (kept a_slot.First (a_typed.Binds unit (map rule.name_and_type new) t) wf) bs
            mid))
            → Goal (rests
            (bind_all k.facts new
            (st (kept a_slot.First (a_typed.Binds unit (map rule.name_and_type new) t) wf) bs
            mid)))
        kept-bound t mid h j (all_bound inner hb nb e) =
            subst (λ (s : State). Goal (rests s)) (sym e)
            (known-rest inner
            (kept a_slot.First (a_typed.Binds unit (map rule.name_and_type new) t) wf) mid l
            (with-item bs i more wf found One1 Next1 of1 made1
            (a_typed.Binds unit (map rule.name_and_type new) t) inner mid _
            (λ us u h2. rule.declared_all i more p names ty d new inner t us refl is n hb h h2 refl)
            (to1 inner hb) (from1 inner hb) (clean-first mid nb j)
            (rest inner (D1 inner hb)
            (kept a_slot.First (a_typed.Binds unit (map rule.name_and_type new) t) wf) mid
            l)))
        kept-bound t mid h j (one_taken f now cs c i2 e) =
            stop-bound (kept a_slot.First (a_typed.Binds unit (map rule.name_and_type new) t) wf)
            mid now cs f l j c i2 e

        lacking-bound : (x : Fault) (mid : Option Fault) → As2 x → IsFirst found As2 mid
            → BoundAll k A bs new (is_broken wf) mid
            (bind_all k.facts new (st (is_broken wf) bs mid))
            → Goal (rests (bind_all k.facts new (st (is_broken wf) bs mid)))
        lacking-bound x mid c j (all_bound inner hb nb e) =
            subst (λ (s : State). Goal (rests s)) (sym e)
            (known-rest inner (is_broken wf) mid l
            (without-item bs i more wf found One1 Next1 of1 made1 x inner mid (is_broken wf) _
            (inl c) refl (to1 inner hb) (from1 inner hb) (clean-first mid nb j)
            (rest inner (D1 inner hb) (is_broken wf) mid l)))
        lacking-bound x mid c j (one_taken f now cs b2 i2 e) =
            stop-bound (is_broken wf) mid now cs f l j b2 i2 e

        left1 : (v : Valued) → ValuedAs k A bs B d W X (rule.below ty) found v
            → Goal (rests (bind_all k.facts new (st (node_frame v.node) bs v.found)))
        left1 v (got t e h j) =
            subst (λ (o : Option TypedForm). Goal
            (rests (bind_all k.facts new (st (node_frame o) bs v.found)))) (sym e)
            (kept-bound t v.found h j
            (bind-all-exact k A new bs
            (kept a_slot.First (a_typed.Binds unit (map rule.name_and_type new) t) wf)
            v.found l))
        left1 v (missed x e c j) =
            subst (λ (o : Option TypedForm). Goal
            (rests (bind_all k.facts new (st (node_frame o) bs v.found)))) (sym e)
            (lacking-bound x v.found c j (bind-all-exact k A new bs (is_broken wf) v.found l))

      pieces-left : (w : Want) (o : Option (List Binding)) → rule.named_parts names ty ≡ o
          → item k.facts w (locals p names ty (judged k.facts d)) (st wf bs found)
          ≡ bind_parts k.facts o
          (take_initials k.facts p ty o (judged k.facts d).place
          (said (judged k.facts d) (st wf bs found)))
      pieces-left w o n =
          ap (λ (z : Option (List Binding)). bind_parts k.facts z
          (take_initials k.facts p ty z (judged k.facts d).place
          (said (judged k.facts d) (st wf bs found)))) n

      none-left : bind_parts k.facts None
          (take_initials k.facts p ty None (judged k.facts d).place
          (said (judged k.facts d) (st wf bs found)))
          ≡ st (lost_frame (is_broken wf)) bs (with_fault (fault MISMATCH p) initial2.found)
      unfolding breaks take_initials said as_wanted_below
      none-left = refl

      some-left : (new : List Binding)
          → bind_parts k.facts (Some new)
          (take_initials k.facts p ty (Some new) (judged k.facts d).place
          (said (judged k.facts d) (st wf bs found)))
          ≡ bind_all k.facts new
          (st (declares_all (map rule.name_and_type new) initial2.node wf) bs initial2.found)
      unfolding take_initials said as_wanted_below
      some-left new = refl

      pub locals-exact : Goal
          (items k.facts (map (judged_item k.facts) (i ∷ more)) (st wf bs found))
      locals-exact = by (rule.named_parts names ty) refl
        where
          all_of : State
          all_of = items k.facts (map (judged_item k.facts) (i ∷ more)) (st wf bs found)

          by : (o : Option (List Binding)) → rule.named_parts names ty ≡ o
              → Goal (items k.facts (map (judged_item k.facts) (i ∷ more)) (st wf bs found))
          by None n =
              subst Goal
              (sym (items-cons (judged_item k.facts i) (map (judged_item k.facts) more)
              (st wf bs found)
              (st (lost_frame (is_broken wf)) bs (with_fault (fault MISMATCH p) initial2.found))
              (λ w. ap (λ
              (x : Piece). item k.facts w x (st wf bs found)) (item-out k A i is)
              ∙ pieces-left w None n ∙ none-left)))
              (left0 initial2 (below-is k A bs B d W X ty found T) n)
          by (Some new) n =
              subst Goal
              (sym (items-cons (judged_item k.facts i) (map (judged_item k.facts) more)
              (st wf bs found)
              (bind_all k.facts new
              (st (declares_all (map rule.name_and_type new) initial2.node wf) bs
              initial2.found))
              (λ w. ap (λ
              (x : Piece). item k.facts w x (st wf bs found)) (item-out k A i is)
              ∙ pieces-left w (Some new) n ∙ some-left new)))
              (left1 new n initial2 (below-is k A bs B d W X ty found T))

  -- ---- an expression

  module _ (bs : List Binding) (B : AreBound k bs) (i : Item) (d : Form)
      (is : out-Item i ≡ Item-F.Expression d) (W : IsWritten k d) (X : IsExactExpression k d)
      (wf : Frame) (found : Option Fault) where
    last-view : (f : Fault) → breaking.BreaksItems k bs (i ∷ []) f
        → breaking.BreaksAs k bs rule.a_value d f
    last-view f c = subst (λ y. ItemBreaks bs y [] f) is (item-view bs i [] f c)

    last-left : (s : State) → Asked k A bs B d W X rule.a_value a_slot.First wf found s
        → Itemed bs (i ∷ []) wf found s
    last-left s (kept_there t new h j e) =
        all_items (t ∷ []) (type_of t) new bs (rule.last_item i d t refl is h refl refl)
        (alike found (breaking.BreaksAs k bs rule.a_value d) (breaking.BreaksItems k bs (i ∷ []))
        new (λ f c. breaking.in_last i d refl is c) last-view j) e
    last-left s (lacking f new c j e) =
        item_lacking f new (is_broken wf) bs (breaking.in_last i d refl is c)
        (alike found (breaking.BreaksAs k bs rule.a_value d) (breaking.BreaksItems k bs (i ∷ []))
        new (λ f c. breaking.in_last i d refl is c) last-view j) e refl

    pub last-exact : Itemed bs (i ∷ []) wf found
        (items k.facts (map (judged_item k.facts) (i ∷ [])) (st wf bs found))
    unfolding items
    last-exact =
        subst (λ (x : Piece). Itemed bs (i ∷ []) wf found
        (item k.facts a_want.Value x (st wf bs found))) (sym (item-out k A i is))
        (last-left _
        (ask-exact k A bs B d W X rule.a_value a_want.Value a_slot.First wf found value_))

    module _ (n : Item) (more : List Item) (l : wf.lost ≡ false) (rest : Rest (n ∷ more)) where
      abbrev As3 : Fault → Type 0
      As3 f = breaking.BreaksAs k bs (rule.below unit) d f

      abbrev Next3 : Fault → Type 0
      Next3 f = breaking.BreaksItems k bs (n ∷ more) f

      of3 : (f : Fault) → breaking.BreaksItems k bs (i ∷ n ∷ more) f → As3 f ⊎ Next3 f
      of3 f c = subst (λ y. ItemBreaks bs y (n ∷ more) f) is (item-view bs i (n ∷ more) f c)

      made3 : (f : Fault) → As3 f ⊎ Next3 f → breaking.BreaksItems k bs (i ∷ n ∷ more) f
      made3 f (inl c) = breaking.in_item i n more d refl is c
      made3 f (inr c) = breaking.behind_item i n more d refl is c

      abbrev rests3 : State → State
      rests3 s = unless_lost (items k.facts (map (judged_item k.facts) (n ∷ more))) s

      next-left : (s : State) → Asked k A bs B d W X (rule.below unit) a_slot.First wf found s
          → Itemed bs (i ∷ n ∷ more) wf found (rests3 s)
      next-left s (kept_there t mid h j e) =
          subst (λ (s : State). Itemed bs (i ∷ n ∷ more) wf found (rests3 s)) (sym e)
          (subst (Itemed bs (i ∷ n ∷ more) wf found)
          (sym (unless-known (items k.facts (map (judged_item k.facts) (n ∷ more)))
          (kept a_slot.First t wf) bs mid l))
          (with-item bs i (n ∷ more) wf found As3 Next3 of3 made3 t bs mid _
          (λ us u h2. rule.expression i n more d t us refl is h h2 refl) (λ f c. c)
          (λ f c. c) j (rest bs B (kept a_slot.First t wf) mid l)))
      next-left s (lacking f mid c j e) =
          subst (λ (s : State). Itemed bs (i ∷ n ∷ more) wf found (rests3 s)) (sym e)
          (subst (Itemed bs (i ∷ n ∷ more) wf found)
          (sym (unless-known (items k.facts (map (judged_item k.facts) (n ∷ more)))
          (is_broken wf) bs mid l))
          (without-item bs i (n ∷ more) wf found As3 Next3 of3 made3 f bs mid (is_broken wf) _ c
          refl (λ f c. c) (λ f c. c) j (rest bs B (is_broken wf) mid l)))

      pub next-exact : Itemed bs (i ∷ n ∷ more) wf found
          (items k.facts (map (judged_item k.facts) (i ∷ n ∷ more)) (st wf bs found))
      unfolding items
      next-exact =
          subst (λ (x : Piece). Itemed bs (i ∷ n ∷ more) wf found
          (rests3 (item k.facts a_want.Unit x (st wf bs found)))) (sym (item-out k A i is))
          (next-left _
          (ask-exact k A bs B d W X (rule.below unit) a_want.Unit a_slot.First wf found
          unit_))

  -- ---- items and blocks

  no-piece : (s : State) → items k.facts [] s ≡ s
  unfolding items
  no-piece s = refl

  item-exact : (i : Item) (more : List Item) (bs : List Binding) (B : AreBound k bs) (wf : Frame)
      (found : Option Fault) → ItemWritten k i → (x : Item-F Form Item Branch Generator TypeBranch)
      → out-Item i ≡ x → ItemLayerExact x → wf.lost ≡ false
      → Rest more
      → Itemed bs (i ∷ more) wf found
      (items k.facts (map (judged_item k.facts) (i ∷ more)) (st wf bs found))
  item-exact i more bs B wf found W (Item-F.Local p name mutable ty d) is X l rest =
      let V = of-item k i is W
      in local-exact bs B i more wf found l rest p name mutable ty d is V.0 V.1 X
  item-exact i more bs B wf found W (Item-F.Locals p names ty d) is X l rest =
      let V = of-item k i is W in locals-exact bs B i more wf found l rest p names ty d is V.0 V.1 X
  item-exact i [] bs B wf found W (Item-F.Expression d) is X l rest =
      last-exact bs B i d is (of-item k i is W) X wf found
  item-exact i (n ∷ more) bs B wf found W (Item-F.Expression d) is X l rest =
      next-exact bs B i d is (of-item k i is W) X wf found n more l rest

  pub items-exact : (is : List Item) (bs : List Binding) → AreBound k bs
      → (wf : Frame) (found : Option Fault) → AllByRecursion (ItemWritten k) is
      → AllByRecursion ItemExact is → wf.lost ≡ false
      → Itemed bs is wf found (items k.facts (map (judged_item k.facts) is) (st wf bs found))
  items-exact [] bs B wf found W X l =
      all_items [] unit found bs (rule.no_item refl refl refl)
      (no_more found (breaking.BreaksItems k bs []) (none-itemed bs))
      (no-piece (st wf bs found) ∙ ap (λ
      (ts : List TypedForm). st (record wf { first = ts }) bs found)
      (sym (nothing_behind wf.first)))
  items-exact (i ∷ more) bs B wf found W X l =
      item-exact i more bs B wf found (all_first (ItemWritten k) i more W) (out-Item i) refl
      (all_first ItemExact i more X) l
      (λ cs C y mid q. items-exact more cs C y mid (all_rest (ItemWritten k) i more W)
      (all_rest ItemExact i more X) q)

  pub block-exact : (bs : List Binding) → AreBound k bs
      → (e : Form) (found : Option Fault) (p : Place) (is : List Item)
      → AllByRecursion (ItemWritten k) is → AllByRecursion ItemExact is
      → out-Form e ≡ Form-F.Block p is → Answers k bs e found ((judged k.facts e).answer bs found)
  block-exact bs B e found p is W X eq = by (items-exact is bs B opened found W X refl)
    where
      to : (f : Fault) → breaking.BreaksItems k bs is f → FormBreaks k bs e f
      to f b = inl (breaking.in_block p is eq b)

      from : (f : Fault) → FormBreaks k bs e f → breaking.BreaksItems k bs is f
      from f b = only-left k A (of-layer k A bs e f eq b)

      by : Itemed bs is opened found
          (items k.facts (map (judged_item k.facts) is) (st opened bs found))
          → Answers k bs e found ((judged k.facts e).answer bs found)
      by (all_items ts ty new inner h i q) =
          typed-so k A bs e found new (breaking.BreaksItems k bs is) _ i to (a_typed.Block ty ts)
          (rule.block p is ts ty eq h refl) from
          (at k A e bs found (st (record opened { first = ts }) inner new) eq q (ap (λ
          (x : Ty). value (a_typed.Block x ts) new) (block-type k A h)))
      by (item_lacking f new x cs b i q br) =
          broken-so k A bs e found new (breaking.BreaksItems k bs is) _ i to f b from
          (at k A e bs found (st x cs new) eq q
          (ap (λ c. cond c (untyped new)
          (value (a_typed.Block (last_type x.first) x.first) new)) br))
