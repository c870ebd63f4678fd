-- The elements of a run or of a juxtaposition, as they are asked.
use Rattle.std.proofs.Common.{◌≡◌, ◌⊎◌, inl, inr, Bool, true, false, cond, List, [], ◌∷◌, ◌++◌, map, Option, refl, ap, ◌∙◌, sym, subst}
use Rattle.std.specs.List.{AllByRecursion}
use Rattle.fort_base.specs.declared.refusal.Place.{Place}
use Rattle.fort_base.specs.declared.rules.TheConstants.{MISMATCH}
use Rattle.fort_scope.specs.declared.binding.Binding.{Binding}
use Rattle.fort_form.specs.declared.form.Form.{Form, out-Form}
use Rattle.fort_form.specs.declared.form.Form.TheOpen.{Form-F}
use Rattle.fort_form.specs.declared.form.Item.{Item}
use Rattle.fort_form.specs.declared.form.Branch.{Branch}
use Rattle.fort_form.specs.declared.form.Generator.{Generator}
use Rattle.fort_form.specs.declared.form.TypeBranch.{TypeBranch}
use Rattle.fort_form_typed.specs.declared.typed_form.TypedForm.{TypedForm}
use Rattle.fort_typing_known.specs.declared.fault.Fault.{Fault}
use Rattle.fort_typing_known.specs.Known.{Knows}
use Rattle.fort_typing_rules.specs.declared.part.Part.{Part}
use Rattle.fort_typing_rules.specs.declared.part.Meaning.{Meaning}
use Rattle.fort_typing_rules.specs.declared.part.Meaning.TheVariants as a_meaning
use Rattle.fort_typing_rules.specs.Calls.{Calls}
use Rattle.fort_typing_rules.specs.Types.{is_nothing, type_of, place_of, fault}
use Rattle.fort_typing_rules.specs.Typing as rule
use Rattle.fort_typing_rules.specs.Breaking as breaking
use Rattle.fort_typing_meaning.specs.declared.frame.Frame.{Frame}
use Rattle.fort_typing_meaning.specs.declared.frame.Outcome.{Outcome}
use Rattle.fort_typing_meaning.specs.Faults.{with_fault, breaks}
use Rattle.fort_typing_meaning.specs.Parts.{State, said, element_meaning, element_found, take_element, elements}
use Rattle.fort_typing_meaning.specs.Judging.{judged}
use Rattle.fort_typing_law_rules.specs.Deciding.{IsAccepted}
use Rattle.fort_typing_law_rules.specs.Written.{IsWritten, AreBound}
use Rattle.fort_typing_law_rules.specs.Typed.{AreTyped}
use Rattle.fort_typing_law_rules.specs.Exact.{IsFirst, PostfixBreaks, FormBreaks, IsSeen, a_type, a_name, a_postfix, a_fault, IsExact}
use Rattle.fort_typing_law_rules.proofs.Types.{all_first, all_rest}
use Rattle.fort_typing_law_rules.proofs.Written.{AllWritten}
use Rattle.fort_typing_law_rules.proofs.Typed.{typed-means}
use Rattle.fort_typing_law_rules.proofs.Answered.{st, element_of, part-is, nothing_behind, one_behind, has_is_answered, one_typed_form}
use Rattle.fort_typing_law_rules.proofs.Asking.{place-is}
use Rattle.fort_typing_law_rules.proofs.Firsts.{no_more, alike, one_more, both}
use Rattle.fort_typing_law_rules.proofs.Scopes.{not-both}

module _ (k : Knows) (A : IsAccepted k) (bs : List Binding) (B : AreBound k bs) where
  -- ---- one element

  module _ (d : Form) (W : IsWritten k d) (X : IsExact k d) where
    abbrev pub PartBreaks : Fault → Type 0
    PartBreaks f = breaking.BreaksPart k bs d f

    abbrev pub IsNothing : Fault → Type 0
    IsNothing f = (t : TypedForm) × rule.Has k (Calls k) bs d t × (is_nothing (type_of t) ≡ true)
        × (f ≡ fault MISMATCH (place_of d))

    postfix-part : (x : Form-F Form Item Branch Generator TypeBranch) → out-Form d ≡ x → (f : Fault)
        → PostfixBreaks k bs x f → PartBreaks f
    postfix-part (Form-F.Subscript p i) is f b = breaking.in_index p i is b
    postfix-part (Form-F.Power p e) is f b = breaking.in_exponent p e is b
    postfix-part (Form-F.Method p spot name es) is f b = breaking.in_arguments p spot name es is b
    postfix-part _ is f b = absurd b

    form-part : (f : Fault) → FormBreaks k bs d f → PartBreaks f
    form-part f (inl b) = breaking.in_atom b
    form-part f (inr b) = postfix-part (out-Form d) refl f b

    pub part-form : (f : Fault) → PartBreaks f → FormBreaks k bs d f ⊎ IsNothing f
    part-form f (breaking.in_atom b) = inl (inl b)
    part-form f (breaking.a_nothing t h n x) = inr (t, h, n, x)
    part-form f (breaking.in_index p i is b) =
        inl (inr (subst (λ z. PostfixBreaks k bs z f) (sym is) b))
    part-form f (breaking.in_exponent p e is b) =
        inl (inr (subst (λ z. PostfixBreaks k bs z f) (sym is) b))
    part-form f (breaking.in_arguments p spot name es is b) =
        inl (inr (subst (λ z. PostfixBreaks k bs z f) (sym is) b))

    -- where the element isn't `Nothing`, it breaks what the form breaks
    plain-first : (found new : Option Fault) → ((f : Fault) → IsNothing f → ⊥)
        → IsFirst found (FormBreaks k bs d) new → IsFirst found PartBreaks new
    plain-first found new n i =
        alike found (FormBreaks k bs d) PartBreaks new form-part
        (λ f b. elim (part-form f b) [ inl c ↦ c | inr c ↦ absurd (n f c) ]) i

    abbrev with_part : Meaning → Frame → Frame
    with_part m wf = record wf { parts = wf.parts ++ rule.part d m ∷ [] }

    pub data OneElement (wf : Frame) (found : Option Fault) (s : State) : Type 0 where
      known_element : (m : Meaning) (new : Option Fault) → rule.Means k (Calls k) bs d m
          → IsFirst found PartBreaks new → s ≡ st (with_part m wf) bs new → OneElement wf found s
      unknown_element : (f : Fault) (new : Option Fault) → PartBreaks f
          → IsFirst found PartBreaks new → s ≡ st (with_part a_meaning.Unknown wf) bs new
          → OneElement wf found s

    abbrev here : Place
    here = (judged k.facts d).place

    abbrev left_by : Frame → Meaning → Option Fault → State
    left_by wf m new =
        st (record wf {
          parts =
              wf.parts ++ element_of k A (judged k.facts d) (element_meaning m) ∷ [];
        }) bs
        (element_found here m new)

    as-part-of : (wf : Frame) (m n : Meaning) (mid new : Option Fault) → element_meaning m ≡ n
        → element_found here m mid ≡ new → left_by wf m mid ≡ st (with_part n wf) bs new
    as-part-of wf m n mid new e f =
        ap (λ (x : Meaning). st
        (record wf { parts = wf.parts ++ element_of k A (judged k.facts d) x ∷ [] }) bs
        (element_found here m mid)) e
        ∙ ap (λ (x : Option Fault). st
        (record wf { parts = wf.parts ++ element_of k A (judged k.facts d) n ∷ [] }) bs x) f
        ∙ ap (λ (p : Part). st (record wf { parts = wf.parts ++ p ∷ [] }) bs new) (part-is k A d n)

    valued : (wf : Frame) (found mid : Option Fault) (t : TypedForm) → rule.Has k (Calls k) bs d t
        → IsFirst found (FormBreaks k bs d) mid → (c : Bool) → is_nothing (type_of t) ≡ c
        → OneElement wf found (left_by wf (a_meaning.Value t) mid)
    unfolding breaks
    valued wf found mid t h i false q =
        known_element (a_meaning.Value t) mid (rule.a_valued t (rule.suits h q) refl)
        (plain-first found mid
        (λ f n. not-both n.2 (ap (λ
        (u : TypedForm). is_nothing (type_of u)) (one_typed_form k A bs B d W n.0 t n.1 h)
        ∙ q)) i)
        (as-part-of wf (a_meaning.Value t) (a_meaning.Value t) mid mid
        (ap (λ c. cond c a_meaning.Unknown (a_meaning.Value t)) q)
        (ap (λ c. cond c (with_fault (fault MISMATCH here) mid) mid) q))
    valued wf found mid t h i true q =
        unknown_element (fault MISMATCH (place_of d)) (with_fault (fault MISMATCH (place_of d)) mid)
        (breaking.a_nothing t h q refl)
        (alike found (λ f. FormBreaks k bs d f
        ⊎ (f ≡ fault MISMATCH (place_of d))) PartBreaks
        (with_fault (fault MISMATCH (place_of d)) mid) to from
        (both found mid (with_fault (fault MISMATCH (place_of d)) mid) (FormBreaks k bs d) (λ f. f
        ≡ fault MISMATCH (place_of d)) i (one_more (fault MISMATCH (place_of d)) mid)))
        (as-part-of wf (a_meaning.Value t) a_meaning.Unknown mid
        (with_fault (fault MISMATCH (place_of d)) mid)
        (ap (λ c. cond c a_meaning.Unknown (a_meaning.Value t)) q)
        (ap (λ c. cond c (with_fault (fault MISMATCH here) mid) mid) q ∙ ap (λ
        (p : Place). with_fault (fault MISMATCH p) mid) (place-is k A d)))
      where
        to : (f : Fault) → FormBreaks k bs d f ⊎ (f ≡ fault MISMATCH (place_of d)) → PartBreaks f
        to f (inl b) = form-part f b
        to f (inr x) = breaking.a_nothing t h q x

        from : (f : Fault) → PartBreaks f → FormBreaks k bs d f ⊎ (f ≡ fault MISMATCH (place_of d))
        from f b = elim (part-form f b) [ inl c ↦ inl c | inr c ↦ inr c.3 ]

    -- a meaning that isn't a value
    kept-as : (wf : Frame) (found mid : Option Fault) (m n : Meaning) → m ≡ n
        → element_meaning n ≡ n → ((new : Option Fault) → element_found here n new ≡ new)
        → rule.Means k (Calls k) bs d m → ((f : Fault) → IsNothing f → ⊥)
        → IsFirst found (FormBreaks k bs d) mid → OneElement wf found (left_by wf m mid)
    kept-as wf found mid m n e same clean h nots i =
        subst (λ (x : Meaning). OneElement wf found (left_by wf x mid)) (sym e)
        (known_element n mid (subst (rule.Means k (Calls k) bs d) e h)
        (plain-first found mid nots i) (as-part-of wf n n mid mid same (clean mid)))

    abbrev outcome : Option Fault → Outcome
    outcome found = (judged k.facts d).answer bs found

    has-seen : (found : Option Fault) (t : TypedForm) → rule.Has k (Calls k) bs d t
        → (outcome found).seen ≡ a_meaning.Value t
    has-seen found t h = ap (λ (o : Outcome). o.seen) (has_is_answered k A bs B d W t h found)

    element-by : (wf : Frame) (found mid : Option Fault) (m : Meaning) → (outcome found).seen ≡ m
        → IsSeen k bs d m → IsFirst found (FormBreaks k bs d) mid
        → OneElement wf found (left_by wf m mid)
    element-by wf found mid m q (a_type t e h) i =
        subst (λ (x : Meaning). OneElement wf found (left_by wf x mid)) (sym e)
        (valued wf found mid t h i (is_nothing (type_of t)) refl)
    element-by wf found mid m q (a_name name e h) i =
        kept-as wf found mid m (a_meaning.Functions name) e refl (λ n. refl) (rule.a_named name h e)
        (λ f n. let z : a_meaning.Value n.0 ≡ a_meaning.Functions name =
        sym (has-seen found n.0 n.1) ∙ q ∙ e in absurd cc) i
    element-by wf found mid m q (a_postfix p (rule.a_named name h e)) i =
        kept-as wf found mid m (a_meaning.Functions name) e refl (λ n. refl) (rule.a_named name h e)
        (λ f n. let z : a_meaning.Value n.0 ≡ a_meaning.Functions name =
        sym (has-seen found n.0 n.1) ∙ q ∙ e in absurd cc) i
    element-by wf found mid m q (a_postfix p (rule.a_valued t (rule.suits h s) e)) i =
        subst (λ (x : Meaning). OneElement wf found (left_by wf x mid)) (sym e)
        (valued wf found mid t h i false s)
    element-by wf found mid m q (a_postfix p (rule.an_index r x t is h e)) i =
        kept-as wf found mid m (a_meaning.Index t) e refl (λ n. refl) (rule.an_index r x t is h e)
        (λ f n. let z : a_meaning.Value n.0 ≡ a_meaning.Index t =
        sym (has-seen found n.0 n.1) ∙ q ∙ e in absurd cc) i
    element-by wf found mid m q (a_postfix p (rule.an_exponent r x t is h e)) i =
        kept-as wf found mid m (a_meaning.Exponent t) e refl (λ n. refl)
        (rule.an_exponent r x t is h e)
        (λ f n. let z : a_meaning.Value n.0 ≡ a_meaning.Exponent t =
        sym (has-seen found n.0 n.1) ∙ q ∙ e in absurd cc) i
    element-by wf found mid m q (a_postfix p (rule.a_field_of r spot name is e)) i =
        kept-as wf found mid m (a_meaning.Field spot name) e refl (λ n. refl)
        (rule.a_field_of r spot name is e)
        (λ f n. let z : a_meaning.Value n.0 ≡ a_meaning.Field spot name =
        sym (has-seen found n.0 n.1) ∙ q ∙ e in absurd cc) i
    element-by wf found mid m q (a_postfix p (rule.a_method_of r spot name es ts is h e)) i =
        kept-as wf found mid m (a_meaning.Method spot name ts) e refl (λ n. refl)
        (rule.a_method_of r spot name es ts is h e)
        (λ f n. let z : a_meaning.Value n.0 ≡ a_meaning.Method spot name ts =
        sym (has-seen found n.0 n.1) ∙ q ∙ e in absurd cc) i
    element-by wf found mid m q (a_fault g e b) i =
        subst (λ (x : Meaning). OneElement wf found (left_by wf x mid)) (sym e)
        (unknown_element g mid (form-part g b)
        (plain-first found mid (λ f n. let z : a_meaning.Value n.0 ≡ a_meaning.Unknown =
        sym (has-seen found n.0 n.1) ∙ q ∙ e in absurd cc) i)
        (as-part-of wf a_meaning.Unknown a_meaning.Unknown mid mid refl refl))

    pub element-exact : (wf : Frame) (found : Option Fault)
        → OneElement wf found
        (take_element (judged k.facts d).place (judged k.facts d).parens (judged k.facts d).listed
        (judged k.facts d).postfix (said (judged k.facts d) (st wf bs found)))
    unfolding take_element said
    element-exact wf found =
        let x = X bs B found
        in element-by wf found (outcome found).found (outcome found).seen refl x.seen x.first

  -- ---- elements one after another

  abbrev pub EachExact : List Form → Type 0
  EachExact es = AllByRecursion (IsExact k) es

  -- what elements are: each is known, or one breaks a rule
  pub data Elements (es : List Form) (wf : Frame) (found : Option Fault) (s : State) : Type 0 where
    all_known : (ps : List Part) (new : Option Fault) → rule.HasParts k (Calls k) bs es ps
        → breaking.AsksParts k bs es ps → AreTyped k ps
        → IsFirst found (breaking.BreaksParts k bs es) new
        → s ≡ st (record wf { parts = wf.parts ++ ps }) bs new → Elements es wf found s
    one_unknown : (f : Fault) (ps : List Part) (new : Option Fault) → breaking.BreaksParts k bs es f
        → breaking.AsksParts k bs es ps → AreTyped k ps
        → IsFirst found (breaking.BreaksParts k bs es) new
        → s ≡ st (record wf { parts = wf.parts ++ ps }) bs new → Elements es wf found s

  none-parts : (f : Fault) → breaking.BreaksParts k bs [] f → ⊥
  none-parts f (breaking.this_part d ds e b) = absurd cc
  none-parts f (breaking.later_part d ds e b) = absurd cc

  parts-of : (d : Form) (ds : List Form) (f : Fault) → breaking.BreaksParts k bs (d ∷ ds) f
      → breaking.BreaksPart k bs d f ⊎ breaking.BreaksParts k bs ds f
  parts-of d ds f (breaking.this_part c cs e b) =
      inl (subst (λ (x : Form). breaking.BreaksPart k bs x f) (let q : c ≡ d = cc in q) b)
  parts-of d ds f (breaking.later_part c cs e b) =
      inr (subst (λ (x : List Form). breaking.BreaksParts k bs x f) (let q : cs ≡ ds = cc in q) b)

  parts-made : (d : Form) (ds : List Form) (f : Fault)
      → breaking.BreaksPart k bs d f ⊎ breaking.BreaksParts k bs ds f
      → breaking.BreaksParts k bs (d ∷ ds) f
  parts-made d ds f (inl b) = breaking.this_part d ds refl b
  parts-made d ds f (inr b) = breaking.later_part d ds refl b

  parts-first : (d : Form) (ds : List Form) (found mid new : Option Fault)
      → IsFirst found (breaking.BreaksPart k bs d) mid
      → IsFirst mid (breaking.BreaksParts k bs ds) new
      → IsFirst found (breaking.BreaksParts k bs (d ∷ ds)) new
  parts-first d ds found mid new i j =
      alike found (λ f. breaking.BreaksPart k bs d f
      ⊎ breaking.BreaksParts k bs ds f) (breaking.BreaksParts k bs (d ∷ ds)) new
      (parts-made d ds) (parts-of d ds)
      (both found mid new (breaking.BreaksPart k bs d) (breaking.BreaksParts k bs ds) i j)

  more-parts : (d : Form) (wf : Frame) (m : Meaning) (ps : List Part) (new : Option Fault)
      → st (record (record wf { parts = wf.parts ++ rule.part d m ∷ [] }) {
        parts =
            (wf.parts ++ rule.part d m ∷ []) ++ ps;
      }) bs new
      ≡ st (record wf { parts = wf.parts ++ rule.part d m ∷ ps }) bs new
  more-parts d wf m ps new =
      ap (λ (xs : List Part). st (record wf { parts = xs }) bs new)
      (one_behind wf.parts ps (rule.part d m))

  element-known : (d : Form) (ds : List Form) (W : IsWritten k d) (X : IsExact k d) (wf : Frame)
      (found mid : Option Fault) (m : Meaning) (s : State) → rule.Means k (Calls k) bs d m
      → IsFirst found (breaking.BreaksPart k bs d) mid
      → Elements ds (record wf { parts = wf.parts ++ rule.part d m ∷ [] }) mid s
      → Elements (d ∷ ds) wf found s
  element-known d ds W X wf found mid m s h i (all_known ps new hs as_ T j e) =
      all_known (rule.part d m ∷ ps) new (rule.element_ d ds m ps refl refl h hs)
      (breaking.known d ds m ps refl refl h as_) (typed-means k A h B W, T)
      (parts-first d ds found mid new i j) (e ∙ more-parts d wf m ps new)
  element-known d ds W X wf found mid m s h i (one_unknown f ps new b as_ T j e) =
      one_unknown f (rule.part d m ∷ ps) new (breaking.later_part d ds refl b)
      (breaking.known d ds m ps refl refl h as_) (typed-means k A h B W, T)
      (parts-first d ds found mid new i j) (e ∙ more-parts d wf m ps new)

  element-unknown : (d : Form) (ds : List Form) (wf : Frame) (found mid : Option Fault) (g : Fault)
      (s : State) → breaking.BreaksPart k bs d g → IsFirst found (breaking.BreaksPart k bs d) mid
      → Elements ds (record wf { parts = wf.parts ++ rule.part d a_meaning.Unknown ∷ [] }) mid s
      → Elements (d ∷ ds) wf found s
  element-unknown d ds wf found mid g s b i (all_known ps new hs as_ T j e) =
      one_unknown g (rule.part d a_meaning.Unknown ∷ ps) new (breaking.this_part d ds refl b)
      (breaking.unknown d ds g ps refl refl b as_) (tt, T)
      (parts-first d ds found mid new i j) (e ∙ more-parts d wf a_meaning.Unknown ps new)
  element-unknown d ds wf found mid g s b i (one_unknown f ps new c as_ T j e) =
      one_unknown g (rule.part d a_meaning.Unknown ∷ ps) new (breaking.this_part d ds refl b)
      (breaking.unknown d ds g ps refl refl b as_) (tt, T)
      (parts-first d ds found mid new i j) (e ∙ more-parts d wf a_meaning.Unknown ps new)

  pub elements-exact : (es : List Form) (wf : Frame) (found : Option Fault) → AllWritten k es
      → EachExact es → Elements es wf found (elements (map (judged k.facts) es) (st wf bs found))
  unfolding elements
  elements-exact [] wf found W X =
      all_known [] found (rule.no_element refl refl) (breaking.asked_all refl refl) tt
      (no_more found (breaking.BreaksParts k bs []) none-parts)
      (ap (λ (ps : List Part). st (record wf { parts = ps }) bs found)
      (sym (nothing_behind wf.parts)))
  elements-exact (d ∷ ds) wf found W X =
      by (λ y mid. elements-exact ds y mid (all_rest (IsWritten k) d ds W)
      (all_rest (IsExact k) d ds X))
      (element-exact d (all_first (IsWritten k) d ds W) (all_first (IsExact k) d ds X) wf found)
    where
      one : State
      one = take_element (judged k.facts d).place (judged k.facts d).parens
          (judged k.facts d).listed (judged k.facts d).postfix
          (said (judged k.facts d) (st wf bs found))

      by : ((y : Frame) (mid : Option Fault)
          → Elements ds y mid (elements (map (judged k.facts) ds) (st y bs mid)))
          → OneElement d (all_first (IsWritten k) d ds W) (all_first (IsExact k) d ds X) wf found
          (take_element (judged k.facts d).place (judged k.facts d).parens (judged k.facts d).listed
          (judged k.facts d).postfix (said (judged k.facts d) (st wf bs found)))
          → Elements (d ∷ ds) wf found
          (elements (map (judged k.facts) ds)
          (take_element (judged k.facts d).place (judged k.facts d).parens
          (judged k.facts d).listed (judged k.facts d).postfix
          (said (judged k.facts d) (st wf bs found))))
      by rest (known_element m mid h i e) =
          subst (λ (s : State). Elements (d ∷ ds) wf found (elements (map (judged k.facts) ds) s))
          (sym e)
          (element-known d ds (all_first (IsWritten k) d ds W) (all_first (IsExact k) d ds X) wf
          found mid m _ h i
          (rest (record wf { parts = wf.parts ++ rule.part d m ∷ [] }) mid))
      by rest (unknown_element f mid b i e) =
          subst (λ (s : State). Elements (d ∷ ds) wf found (elements (map (judged k.facts) ds) s))
          (sym e)
          (element-unknown d ds wf found mid f _ b i
          (rest (record wf { parts = wf.parts ++ rule.part d a_meaning.Unknown ∷ [] }) mid))
