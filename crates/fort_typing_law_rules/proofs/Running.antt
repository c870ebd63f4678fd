-- What comes of two elements and of a run, as the judge computes it.
use Rattle.std.proofs.Common.{◌≡◌, ℕ, zero, suc, ◌≤◌, Bool, true, false, cond, not, ◌||◌, List, [], ◌∷◌, ◌++◌, length, Option, Some, None, refl, arith, ap, ◌∙◌, sym, subst}
use Rattle.std.specs.List.{AllByRecursion}
use Rattle.fort_base.specs.declared.ids.NameId.{NameId}
use Rattle.fort_base.specs.declared.ids.SetId.{SetId}
use Rattle.fort_base.specs.declared.refusal.Place.{Place}
use Rattle.fort_base.specs.declared.refusal.Rule.{Rule}
use Rattle.fort_base.specs.declared.rules.TheConstants.{MISMATCH}
use Rattle.fort_base.specs.declared.ty.Ty.{Ty}
use Rattle.fort_base.specs.declared.ty.Ty.TheOpen.{Ty-F}
use Rattle.fort_form_typed.specs.declared.typed_form.TypedForm.{TypedForm}
use Rattle.fort_form_typed.specs.declared.typed_form.TypedForm.TheVariants as a_typed
use Rattle.fort_typing_known.specs.declared.fault.Fault.{Fault}
use Rattle.fort_typing_known.specs.Known.{Knows}
use Rattle.fort_typing_known.specs.Sets.{is_method}
use Rattle.fort_typing_rules.specs.declared.part.Part.{Part}
use Rattle.fort_typing_rules.specs.declared.part.Meaning.{Meaning}
use Rattle.fort_typing_rules.specs.declared.part.Meaning.TheVariants as a_meaning
use Rattle.fort_typing_rules.specs.Types.{type_of, types_of, is_nothing, array_at, fault}
use Rattle.fort_typing_rules.specs.Calls.{Calls, CallBreaks}
use Rattle.fort_typing_rules.specs.Elements as rule
use Rattle.fort_typing_meaning.specs.declared.frame.Made.{Made}
use Rattle.fort_typing_meaning.specs.declared.frame.Made.TheVariants as a_made
use Rattle.fort_typing_meaning.specs.declared.frame.Outcome.{Outcome}
use Rattle.fort_typing_meaning.specs.Faults.{breaks}
use Rattle.fort_typing_meaning.specs.Tests.{value}
use Rattle.fort_typing_meaning.specs.Joining.{call, call_by, operation, operation_by, value_applied, applied_to, applied, joined_by, joined, indexed, read, method_called, followed_by, followed, Around, around, more_before, on, replaced, replaced_in, rewritten_by, rewritten, further, run_at, run_within, run}
use Rattle.fort_typing_law_rules.specs.Deciding.{AreTypes, IsAccepted, Decides}
use Rattle.fort_typing_law_rules.specs.Typed.{IsTyped, MeansTyped, AreTyped}
use Rattle.fort_typing_law_rules.proofs.Types.{all_right, all_first, all_rest, sides_type}
use Rattle.fort_typing_law_rules.proofs.Deciding.{is_decided}
use Rattle.fort_typing_law_rules.proofs.Typed.{PartTyped, all-types, arguments-typed, value-typed, rewritten-typed}
use Rattle.fort_typing_law_rules.specs.Laws.{RunIsComputed, OneRun}
use Rattle.fort_typing_law_rules.proofs.Juxtaposing.{rewriting_is_computed}
use Rattle.fort_typing_law_rules.proofs.Wide.{unlike}

-- what the rules make, as the judge says it
abbrev pub to : rule.Made → Made
to (rule.gives t) = a_made.Gives t
to (rule.breaks r place) = a_made.Breaks (fault r place)

around-is : (before after : List Part) (x y : Part)
    → around (length before) (before ++ x ∷ y ∷ after)
    ≡ Some (record { before = before; one = x; other = y; after = after })
around-is [] after x y = refl
around-is (b ∷ before) after x y = ap (more_before b) (around-is before after x y)

not-array : (place : Place) (u i : TypedForm) (s : Ty-F Ty) → array_at s ≡ false
    → indexed place u i s ≡ a_made.Breaks (fault MISMATCH place)
not-array place u i Ty-F.Nothing h = refl
not-array place u i Ty-F.Any h = refl
not-array place u i (Ty-F.Named t) h = refl
not-array place u i (Ty-F.Tuple ts) h = refl
not-array place u i (Ty-F.Arrow a b) h = refl
not-array place u i (Ty-F.Array e) h = absurd cc

module _ (k : Knows) (A : IsAccepted k) where
  D : Decides k
  D = is_decided k A

  call-is : (set : SetId) (ts : List TypedForm) (place : Place) (result : Ty) (widened : List Bool)
      → AreTypes k (types_of ts) → Calls k set (types_of ts) result widened
      → call k.facts set ts place ≡ a_made.Gives (a_typed.Call result (rule.chosen set widened) ts)
  unfolding call
  call-is set ts place result widened T c =
      ap (call_by set ts place) (D.calls set (types_of ts) result widened T c)

  call-breaks : (set : SetId) (ts : List TypedForm) (place : Place) (r : Rule)
      → AreTypes k (types_of ts) → CallBreaks k set (types_of ts) r
      → call k.facts set ts place ≡ a_made.Breaks (fault r place)
  unfolding call
  call-breaks set ts place r T c = ap (call_by set ts place) (D.refuses set (types_of ts) r T c)

  pub operation-is : (set : SetId) (ts : List TypedForm) (place : Place) (result : Ty)
      (widened : List Bool) → AreTypes k (types_of ts) → Calls k set (types_of ts) result widened
      → operation k.facts set ts place
      ≡ a_made.Gives (a_typed.Operation result (rule.chosen set widened) ts)
  unfolding operation
  operation-is set ts place result widened T c =
      ap (operation_by set ts place) (D.calls set (types_of ts) result widened T c)

  operation-breaks : (set : SetId) (ts : List TypedForm) (place : Place) (r : Rule)
      → AreTypes k (types_of ts) → CallBreaks k set (types_of ts) r
      → operation k.facts set ts place ≡ a_made.Breaks (fault r place)
  unfolding operation
  operation-breaks set ts place r T c =
      ap (operation_by set ts place) (D.refuses set (types_of ts) r T c)

  -- ---- two elements

  pub exponent-typed : (p : Part) (e : TypedForm) → PartTyped k A p
      → p.meaning ≡ a_meaning.Exponent e → IsTyped k e
  exponent-typed p e G is = subst (MeansTyped k) is G

  pub method-typed : (p : Part) (at : Place) (name : NameId) (ts : List TypedForm) → PartTyped k A p
      → p.meaning ≡ a_meaning.Method at name ts → AllByRecursion (IsTyped k) ts
  method-typed p at name ts G is = subst (MeansTyped k) is G

  both : (f a : Part) (m n : Meaning) → f.meaning ≡ m → a.meaning ≡ n
      → applied k.facts f a ≡ applied_to k.facts f a m n
  unfolding applied
  both f a m n p q =
      ap (λ u. applied_to k.facts f a u a.meaning) p ∙ ap (applied_to k.facts f a m) q

  pub applies-is : (f a : Part) (m : rule.Made) → PartTyped k A f → PartTyped k A a
      → rule.Applies k (Calls k) f a m → applied k.facts f a ≡ to m
  applies-is f a m F G (rule.call name u result widened fm am c me) =
      both f a _ _ fm am
      ∙ call-is _ (rule.arguments a u) f.place result widened
      (arguments-typed k A a u (value-typed k A a u G am)) c ∙ sym (ap to me)
  applies-is f a m F G (rule.no_call name u r fm am c me) =
      both f a _ _ fm am
      ∙ call-breaks _ (rule.arguments a u) f.place r
      (arguments-typed k A a u (value-typed k A a u G am)) c ∙ sym (ap to me)
  applies-is f a m F G (rule.value g u domain result fm arrow am b me) =
      both f a _ _ fm am ∙ ap (value_applied k.facts a.place g u) arrow
      ∙ ap (λ c. cond c (a_made.Gives (a_typed.Apply result g u))
      (a_made.Breaks (fault MISMATCH a.place)))
      (D.below (type_of u) domain (value-typed k A a u G am).0
      (sides_type (length k.declared) (type_of g) domain result (value-typed k A f g F fm).0
      arrow).0 b) ∙ sym (ap to me)
  applies-is f a m F G (rule.no_argument g u domain result fm arrow am b me) =
      both f a _ _ fm am ∙ ap (value_applied k.facts a.place g u) arrow
      ∙ ap (λ c. cond c (a_made.Gives (a_typed.Apply result g u))
      (a_made.Breaks (fault MISMATCH a.place)))
      (unlike k A (type_of u) domain (value-typed k A a u G am).0
      (sides_type (length k.declared) (type_of g) domain result (value-typed k A f g F fm).0
      arrow).0 b) ∙ sym (ap to me)

  both_joined : (a b : Part) (m n : Meaning) → a.meaning ≡ m → b.meaning ≡ n
      → joined k.facts a b ≡ joined_by k.facts a.place m n
  unfolding joined
  both_joined a b m n p q =
      ap (λ u. joined_by k.facts a.place u b.meaning) p ∙ ap (joined_by k.facts a.place m) q

  pub joins-is : (a b : Part) (m : rule.Made) → PartTyped k A a → PartTyped k A b
      → rule.Joins k (Calls k) a b m → joined k.facts a b ≡ to m
  joins-is a b m F G (rule.joining u v result widened am bm c me) =
      both_joined a b _ _ am bm
      ∙ operation-is _ (u ∷ v ∷ []) a.place result widened (
        (value-typed k A a u F am).0,
        ((value-typed k A b v G bm).0, tt),
      ) c ∙ sym (ap to me)
  joins-is a b m F G (rule.no_joining u v r am bm c me) =
      both_joined a b _ _ am bm
      ∙ operation-breaks _ (u ∷ v ∷ []) a.place r (
        (value-typed k A a u F am).0,
        ((value-typed k A b v G bm).0, tt),
      ) c ∙ sym (ap to me)

  both_followed : (a p : Part) (m n : Meaning) → a.meaning ≡ m → p.meaning ≡ n
      → followed k.facts a p ≡ followed_by k.facts a.place m n
  unfolding followed
  both_followed a p m n e q =
      ap (λ u. followed_by k.facts a.place u p.meaning) e ∙ ap (followed_by k.facts a.place m) q

  pub follows-is : (a p : Part) (m : rule.Made) → PartTyped k A a → PartTyped k A p
      → rule.Follows k (Calls k) a p m → followed k.facts a p ≡ to m
  follows-is a p m F G (rule.index u i e am pm shape me) =
      both_followed a p _ _ am pm ∙ ap (indexed a.place u i) shape ∙ sym (ap to me)
  follows-is a p m F G (rule.no_array u i am pm shape me) =
      both_followed a p _ _ am pm ∙ not-array a.place u i _ shape ∙ sym (ap to me)
  follows-is a p m F G (rule.power u e result widened am pm c me) =
      both_followed a p _ _ am pm
      ∙ operation-is _ (u ∷ e ∷ []) a.place result widened (
        (value-typed k A a u F am).0,
        ((exponent-typed p e G pm).0, tt),
      ) c ∙ sym (ap to me)
  follows-is a p m F G (rule.no_power u e r am pm c me) =
      both_followed a p _ _ am pm
      ∙ operation-breaks _ (u ∷ e ∷ []) a.place r (
        (value-typed k A a u F am).0,
        ((exponent-typed p e G pm).0, tt),
      ) c ∙ sym (ap to me)
  follows-is a p m F G (rule.field u at name f am pm has me) =
      both_followed a p _ _ am pm ∙ ap (read at u name) has ∙ sym (ap to me)
  follows-is a p m F G (rule.no_field u at name am pm has me) =
      both_followed a p _ _ am pm ∙ ap (read at u name) has ∙ sym (ap to me)
  follows-is a p m F G (rule.size u at name ts am pm is me) =
      both_followed a p _ _ am pm
      ∙ ap (λ c. method_called k.facts a.place u at name ts c (is_method k.facts name)) is
      ∙ sym (ap to me)
  follows-is a p m F G (rule.method u at name ts result widened am pm is has c me) =
      both_followed a p _ _ am pm
      ∙ ap (λ c. method_called k.facts a.place u at name ts c (is_method k.facts name)) is
      ∙ ap (method_called k.facts a.place u at name ts false) has
      ∙ call-is _ (u ∷ ts) a.place result widened (
        (value-typed k A a u F am).0,
        all-types k A ts (method-typed p at name ts G pm),
      ) c ∙ sym (ap to me)
  follows-is a p m F G (rule.no_method u at name ts am pm is has me) = both_followed a p _ _ am pm
      ∙ ap (λ c. method_called k.facts a.place u at name ts c (is_method k.facts name)) is
      ∙ ap (method_called k.facts a.place u at name ts false) has ∙ sym (ap to me)
  follows-is a p m F G (rule.no_method_call u at name ts r am pm is has c me) =
      both_followed a p _ _ am pm
      ∙ ap (λ c. method_called k.facts a.place u at name ts c (is_method k.facts name)) is
      ∙ ap (method_called k.facts a.place u at name ts false) has
      ∙ call-breaks _ (u ∷ ts) a.place r (
        (value-typed k A a u F am).0,
        all-types k A ts (method-typed p at name ts G pm),
      ) c ∙ sym (ap to me)

  -- ---- runs

  pub first-typed : (ps before after : List Part) (x y : Part) → ps ≡ before ++ x ∷ y ∷ after
      → AreTyped k ps → PartTyped k A x
  first-typed ps before after x y is P =
      all_first (PartTyped k A) x (y ∷ after)
      (all_right (PartTyped k A) before (x ∷ y ∷ after) (subst (AreTyped k) is P))

  pub second-typed : (ps before after : List Part) (x y : Part) → ps ≡ before ++ x ∷ y ∷ after
      → AreTyped k ps → PartTyped k A y
  second-typed ps before after x y is P =
      all_first (PartTyped k A) y after
      (all_rest (PartTyped k A) x (y ∷ after)
      (all_right (PartTyped k A) before (x ∷ y ∷ after) (subst (AreTyped k) is P)))

  -- a rewriting is done at its place
  done_at : (way : Part → Part → Made) (ps before after : List Part) (x y : Part) (place : Place)
      (m : rule.Made) (found : Option Fault) → ps ≡ before ++ x ∷ y ∷ after → place ≡ x.place
      → way x y ≡ to m
      → replaced_in way (around (length before) ps) found ≡ replaced before place after (to m) found
  done_at way ps before after x y place m found is at w =
      ap (λ (qs : List Part). replaced_in way (around (length before) qs) found) is
      ∙ ap (λ (o : Option Around). replaced_in way o found) (around-is before after x y)
      ∙ ap (λ (n : Made). replaced before x.place after n found) w
      ∙ ap (λ (p : Place). replaced before p after (to m) found) (sym at)

  pub step-is : (ps before after : List Part) (place : Place) (m : rule.Made) (found : Option Fault)
      → AreTyped k ps → rule.Rewritten k (Calls k) ps before place m after
      → rewritten k.facts ps found ≡ replaced before place after (to m) found
  unfolding rewritten
  step-is ps before after place m found P (rule.applied f a next is at h) =
      ap (λ r. rewritten_by k.facts ps r found) (rewriting_is_computed (rule.elements ps) _ next)
      ∙ done_at (applied k.facts) ps before after f a place m found is at
      (applies-is f a m (first-typed ps before after f a is P)
      (second-typed ps before after f a is P) h)
  step-is ps before after place m found P (rule.followed a p next is at h) =
      ap (λ r. rewritten_by k.facts ps r found) (rewriting_is_computed (rule.elements ps) _ next)
      ∙ done_at (followed k.facts) ps before after a p place m found is at
      (follows-is a p m (first-typed ps before after a p is P)
      (second-typed ps before after a p is P) h)
  step-is ps before after place m found P (rule.joined a b next none is at h) =
      ap (λ r. rewritten_by k.facts ps r found) (rewriting_is_computed (rule.elements ps) _ next)
      ∙ subst (λ
      (bs : List Part). replaced_in (joined k.facts) (around zero ps) found
      ≡ replaced bs place after (to m) found) (sym none)
      (done_at (joined k.facts) ps [] after a b place m found is at
      (joins-is a b m (first-typed ps [] after a b is P) (second-typed ps [] after a b is P)
      h))

  -- two elements or more are rewritten
  pub goes_on : (next : Option Fault → List Part → Outcome) (before after : List Part) (x y : Part)
      (found : Option Fault)
      → run_at next k.facts found (before ++ x ∷ y ∷ after)
      ≡ further next (rewritten k.facts (before ++ x ∷ y ∷ after) found)
  goes_on next [] after x y found = refl
  goes_on next (b ∷ []) after x y found = refl
  goes_on next (b ∷ c ∷ before) after x y found = refl

  pub longer : (before after : List Part) (x y z : Part)
      → length (before ++ x ∷ y ∷ after) ≡ suc (length (before ++ z ∷ after))
  longer [] after x y z = refl
  longer (b ∷ before) after x y z = ap suc (longer before after x y z)

  -- a run that is rewritten has two elements there
  pub around_it : (ps before after : List Part) (place : Place) (m : rule.Made)
      → rule.Rewritten k (Calls k) ps before place m after
      → (x : Part) × (y : Part) × (ps ≡ before ++ x ∷ y ∷ after)
  around_it ps before after place m (rule.applied f a next is at h) = (f, a, is)
  around_it ps before after place m (rule.followed a p next is at h) = (a, p, is)
  around_it ps before after place m (rule.joined a b next none is at h) =
      (a, b, is ∙ ap (λ (bs : List Part). bs ++ a ∷ b ∷ after) (sym none))

  -- the run after a rewriting that isn't barred
  pub same_run : (before after : List Part) (place : Place) (u : TypedForm) → (c d : Bool)
      → c || not d ≡ true
      → before ++ rule.made place
      (cond c (a_meaning.Value u) (cond d a_meaning.Unknown (a_meaning.Value u))) ∷ after
      ≡ before ++ rule.made place (a_meaning.Value u) ∷ after
  same_run before after place u true d h = refl
  same_run before after place u false false h = refl
  same_run before after place u false true h = absurd cc

  -- one rewriting more, where the run after it is answered
  one_step : (ps before after : List Part) (place : Place) (u t : TypedForm) (found : Option Fault)
      → AreTyped k ps → rule.Rewritten k (Calls k) ps before place (rule.gives u) after
      → rule.not_barred before u after ≡ true
      → (n : ℕ) → length ps ≤ n
      → ((m : ℕ) → length (rule.rewritten before place (rule.gives u) after) ≤ m
      → run_within k.facts m found (rule.rewritten before place (rule.gives u) after)
      ≡ value t found)
      → run_within k.facts n found ps ≡ value t found
  one_step ps before after place u t found P step free zero l rest =
      let two = around_it ps before after place (rule.gives u) step in
      absurd (let e = ap length two.2 ∙ longer before after two.0 two.1 two.0 in omega arith)
  one_step ps before after place u t found P step free (suc n) l rest =
      let two = around_it ps before after place (rule.gives u) step in
      ap (run_at (run_within k.facts n) k.facts found) two.2
      ∙ goes_on (run_within k.facts n) before after two.0 two.1 found
      ∙ ap (λ (qs : List Part). further (run_within k.facts n) (rewritten k.facts qs found))
      (sym two.2)
      ∙ ap (further (run_within k.facts n))
      (step-is ps before after place (rule.gives u) found P step)
      ∙ ap (λ c. further (run_within k.facts n)
      (cond c (on (before ++ rule.made place (a_meaning.Value u) ∷ after) found)
      (on (before ++ rule.made place a_meaning.Unknown ∷ after) (breaks MISMATCH place found))))
      free
      ∙ ap (run_within k.facts n found)
      (sym (same_run before after place u (rule.is_whole before after) (is_nothing (type_of u))
      free))
      ∙ rest n (let e =
      ap length two.2
      ∙ longer before after two.0 two.1
      (rule.made place (rule.meaning_of (rule.is_whole before after) (rule.gives u)))
      in omega arith)

  becomes-is : {ps : List Part} {t : TypedForm} → rule.Becomes k (Calls k) ps t → AreTyped k ps
      → (n : ℕ) (found : Option Fault) → length ps ≤ n
      → run_within k.facts n found ps ≡ value t found
  becomes-is {ps = ps} (rule.whole p is m) P zero found l =
      absurd (let e = ap length is in omega arith)
  becomes-is {ps = ps} (rule.whole p is m) P (suc n) found l =
      ap (run_at (run_within k.facts n) k.facts found) is ∙ ap (λ
      (w : Meaning). record { seen = w; found = found }) m
  becomes-is {ps = ps} {t = t} (rule.on before after place u step free rest) P n found l =
      one_step ps before after place u t found P step free n l
      (λ m r. becomes-is rest (rewritten-typed k A ps before after place (rule.gives u) step P).1 m
      found r)

pub value-once : {t u : TypedForm} {found : Option Fault} → value t found ≡ value u found → t ≡ u
value-once {t = t} {u = u} e =
    let m : a_meaning.Value t ≡ a_meaning.Value u = ap (λ (o : Outcome). o.seen) e in cc

pub run_is_computed : RunIsComputed
unfolding run
run_is_computed k A ps P t h found = becomes-is k A h P (length ps) found (omega arith)

pub one_run : OneRun
one_run k A ps P t u h i =
    value-once (sym (run_is_computed k A ps P t h None) ∙ run_is_computed k A ps P u i None)
