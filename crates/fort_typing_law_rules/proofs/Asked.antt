-- The elements of a run or of a juxtaposition as they are asked: what each is goes with its kind,
-- and they are asked in one way.
use Rattle.std.proofs.Common.{◌≡◌, ◌⊎◌, inl, inr, false, cond, List, [], ◌∷◌, None, refl, ap, ◌∙◌, sym, subst}
use Rattle.std.specs.List.{AllByRecursion}
use Rattle.fort_scope.specs.declared.binding.Binding.{Binding}
use Rattle.fort_form.specs.declared.form.Form.{Form, out-Form}
use Rattle.fort_form_typed.specs.declared.typed_form.TypedForm.{TypedForm}
use Rattle.fort_typing_known.specs.declared.fault.Fault.{Fault}
use Rattle.fort_typing_known.specs.Known.{Knows}
use Rattle.fort_typing_rules.specs.declared.part.Part.{Part}
use Rattle.fort_typing_rules.specs.declared.part.Meaning.{Meaning}
use Rattle.fort_typing_rules.specs.declared.part.Meaning.TheVariants as a_meaning
use Rattle.fort_typing_rules.specs.Calls.{Calls}
use Rattle.fort_typing_rules.specs.Elements as element
use Rattle.fort_typing_rules.specs.Typing as rule
use Rattle.fort_typing_rules.specs.Breaking as breaking
use Rattle.fort_typing_meaning.specs.declared.frame.Outcome.{Outcome}
use Rattle.fort_typing_meaning.specs.Parts.{element_meaning}
use Rattle.fort_typing_meaning.specs.Judging.{judged}
use Rattle.fort_typing_law_rules.specs.Deciding.{IsAccepted}
use Rattle.fort_typing_law_rules.specs.Written.{IsWritten, AreBound}
use Rattle.fort_typing_law_rules.specs.Exact.{FormBreaks, IsExact}
use Rattle.fort_typing_law_rules.proofs.Types.{all_first, all_rest}
use Rattle.fort_typing_law_rules.proofs.Written.{AllWritten}
use Rattle.fort_typing_law_rules.proofs.Answered.{means-answered, has_is_answered}
use Rattle.fort_typing_law_rules.proofs.Elements.{IsNothing, part-form, EachExact}
use Rattle.fort_typing_law_rules.proofs.Pairs.{FitAt, Fit}
use Rattle.fort_typing_law_rules.proofs.Stepping.{AllFit, HasUnknown}
use Rattle.fort_typing_law_rules.proofs.Becoming.{Begins, known}
use Rattle.fort_typing_law_rules.proofs.Chunks.{NoPostfix}

module _ (k : Knows) where
  -- ---- what has a type is no postfix

  pub has-plain : {bs : List Binding} {e : Form} {t : TypedForm} → rule.Has k (Calls k) bs e t
      → rule.postfix_at (out-Form e) ≡ false
  has-plain (rule.number p n is te) = ap rule.postfix_at is
  has-plain (rule.words p n is te) = ap rule.postfix_at is
  has-plain (rule.truth p b is te) = ap rule.postfix_at is
  has-plain (rule.receiver p o is ow te) = ap rule.postfix_at is
  has-plain (rule.local p name b is s te) = ap rule.postfix_at is
  has-plain (rule.own p name o f is s te) = ap rule.postfix_at is
  has-plain (rule.top p name n v is s te) = ap rule.postfix_at is
  has-plain (rule.single p name o is s te) = ap rule.postfix_at is
  has-plain (rule.parens p d is h) = ap rule.postfix_at is
  has-plain (rule.tuple p es ts is h te) = ap rule.postfix_at is
  has-plain (rule.operator p op es ts result widened is h c te) = ap rule.postfix_at is
  has-plain (rule.chain p ops es ts cs is h c te) = ap rule.postfix_at is
  has-plain (rule.beside p es ps is h s) = ap rule.postfix_at is
  has-plain (rule.run p es ps is h s) = ap rule.postfix_at is
  has-plain (rule.fill p ty n v u w is h i te) = ap rule.postfix_at is
  has-plain (rule.block p items ts ty is h te) = ap rule.postfix_at is
  has-plain (rule.do_one p b is h) = ap rule.postfix_at is
  has-plain (rule.do_also p a b others ts is h te) = ap rule.postfix_at is
  has-plain (rule.if_alone p branches tests values is h i te) = ap rule.postfix_at is
  has-plain (rule.if_else p branches d tests values u ty is h i j w te) = ap rule.postfix_at is
  has-plain (rule.while_do p c b u v is h i te) = ap rule.postfix_at is
  has-plain (rule.for_do p gs b inner us v is h i te) = ap rule.postfix_at is
  has-plain (rule.case p s branches other u cs tests values w ty is h c o wide te) =
      ap rule.postfix_at is
  has-plain (rule.typecase p spot name s branches other u values w ty is fresh h c o wide te) =
      ap rule.postfix_at is
  has-plain (rule.try_catch p b name branches last u values w ty is h fresh x c o wide te) =
      ap rule.postfix_at is
  has-plain (rule.atomic p d u is h te) = ap rule.postfix_at is
  has-plain (rule.tryatomic p d u is h te) = ap rule.postfix_at is
  has-plain (rule.throw p d u is h te) = ap rule.postfix_at is
  has-plain (rule.function p ps d inner u is b h te) = ap rule.postfix_at is
  has-plain (rule.reduce p r g d inner s u is h i te) = ap rule.postfix_at is
  has-plain (rule.assign p d v sign u w is none h target i te) = ap rule.postfix_at is
  has-plain (rule.update p d v sign op u w result widened is some h target i c b te) =
      ap rule.postfix_at is

  fit-as : (d : Form) (m n : Meaning) → m ≡ n
      → FitAt (rule.postfix_at (out-Form d)) (rule.parens_at (out-Form d)) n → Fit (rule.part d m)
  fit-as d m n e f =
      subst (FitAt (rule.postfix_at (out-Form d)) (rule.parens_at (out-Form d))) (sym e) f

  means-fit : (bs : List Binding) (d : Form) (m : Meaning) → rule.Means k (Calls k) bs d m
      → Fit (rule.part d m)
  means-fit bs d m (rule.a_named name (rule.names p is s) e) =
      fit-as d m (a_meaning.Functions name) e (ap rule.postfix_at is, ap rule.parens_at is)
  means-fit bs d m (rule.a_valued t (rule.suits h s) e) =
      fit-as d m (a_meaning.Value t) e (has-plain h)
  means-fit bs d m (rule.an_index p i t is h e) =
      fit-as d m (a_meaning.Index t) e (ap rule.postfix_at is)
  means-fit bs d m (rule.an_exponent p i t is h e) =
      fit-as d m (a_meaning.Exponent t) e (ap rule.postfix_at is)
  means-fit bs d m (rule.a_field_of p spot name is e) =
      fit-as d m (a_meaning.Field spot name) e (ap rule.postfix_at is)
  means-fit bs d m (rule.a_method_of p spot name es ts is h e) =
      fit-as d m (a_meaning.Method spot name ts) e (ap rule.postfix_at is)

  means-known : (bs : List Binding) (d : Form) (m : Meaning) → rule.Means k (Calls k) bs d m
      → m ≡ a_meaning.Unknown → ⊥
  means-known bs d m (rule.a_named name h e) = known m (a_meaning.Functions name) e refl
  means-known bs d m (rule.a_valued t h e) = known m (a_meaning.Value t) e refl
  means-known bs d m (rule.an_index p i t is h e) = known m (a_meaning.Index t) e refl
  means-known bs d m (rule.an_exponent p i t is h e) = known m (a_meaning.Exponent t) e refl
  means-known bs d m (rule.a_field_of p spot name is e) = known m (a_meaning.Field spot name) e refl
  means-known bs d m (rule.a_method_of p spot name es ts is h e) =
      known m (a_meaning.Method spot name ts) e refl

  pub parts-known : {bs : List Binding} {es : List Form} {ps : List Part}
      → rule.HasParts k (Calls k) bs es ps → HasUnknown ps → ⊥
  parts-known (rule.no_element e1 e2) u = subst HasUnknown e2 u
  parts-known {bs = bs} (rule.element_ d ds m qs e1 e2 h rest) u =
      by (λ v. parts-known rest v) (subst HasUnknown e2 u)
    where
      by : (HasUnknown qs → ⊥) → HasUnknown (rule.part d m ∷ qs) → ⊥
      by others (inl e) = means-known bs d m h e
      by others (inr v) = others v

  -- ---- elements one after another

  -- one element as it is asked
  abbrev AskedAs : List Binding → Form → Meaning → Type 0
  AskedAs bs d m = rule.Means k (Calls k) bs d m
      ⊎ ((x : Fault) × (m ≡ a_meaning.Unknown) × breaking.BreaksPart k bs d x)

  abbrev First : List Binding → Form → List Form → List Part → Type 0
  First bs d ds ps = (m : Meaning) × (qs : List Part) × (ps ≡ rule.part d m ∷ qs) × AskedAs bs d m
      × breaking.AsksParts k bs ds qs

  first-of : (bs : List Binding) (d : Form) (ds : List Form) (ps : List Part)
      → breaking.AsksParts k bs (d ∷ ds) ps → First bs d ds ps
  first-of bs d ds ps (breaking.asked_all e1 e2) = absurd cc
  first-of bs d ds ps (breaking.known c cs m qs e1 e2 h rest) =
      let p : c ≡ d = cc in
      let q : cs ≡ ds = cc in (
        m,
        qs,
        e2 ∙ ap (λ
            (x : Form). rule.part x m ∷ qs) p,
        inl (subst (λ (x : Form). rule.Means k (Calls k) bs x m) p h),
        subst (λ
            (xs : List Form). breaking.AsksParts k bs xs qs) q rest,
      )
  first-of bs d ds ps (breaking.unknown c cs x qs e1 e2 b rest) =
      let p : c ≡ d = cc in
      let q : cs ≡ ds = cc in (
        a_meaning.Unknown,
        qs,
        e2 ∙ ap (λ
            (y : Form). rule.part y a_meaning.Unknown ∷ qs) p,
        inr (x, refl, subst (λ (y : Form). breaking.BreaksPart k bs y x) p b),
        subst (λ
            (xs : List Form). breaking.AsksParts k bs xs qs) q rest,
      )

  none-asked : (bs : List Binding) (ps : List Part) → breaking.AsksParts k bs [] ps → ps ≡ []
  none-asked bs ps (breaking.asked_all e1 e2) = e2
  none-asked bs ps (breaking.known c cs m qs e1 e2 h rest) = absurd cc
  none-asked bs ps (breaking.unknown c cs x qs e1 e2 b rest) = absurd cc

  pub asked-fit : (bs : List Binding) (es : List Form) (ps : List Part)
      → breaking.AsksParts k bs es ps → AllFit ps
  asked-fit bs [] ps h = subst AllFit (sym (none-asked bs ps h)) tt
  asked-fit bs (d ∷ ds) ps h =
      let r = first-of bs d ds ps h in subst AllFit (sym r.2) (by r.0 r.3, asked-fit bs ds r.1 r.4)
    where
      by : (m : Meaning) → AskedAs bs d m → Fit (rule.part d m)
      by m (inl g) = means-fit bs d m g
      by m (inr (x, e, b)) = fit-as d m a_meaning.Unknown e tt

  -- none of the forms is a postfix
  pub asked-plain : (bs : List Binding) (es : List Form) (ps : List Part)
      → AllByRecursion (λ (d : Form). rule.postfix_at (out-Form d) ≡ false) es
      → breaking.AsksParts k bs es ps → NoPostfix ps
  asked-plain bs [] ps N h = subst NoPostfix (sym (none-asked bs ps h)) tt
  asked-plain bs (d ∷ ds) ps N h =
      let r = first-of bs d ds ps h
      in subst NoPostfix (sym r.2) (N.0, asked-plain bs ds r.1 N.1 r.4)

  -- there is a form
  pub asked-filled : (bs : List Binding) (d : Form) (ds : List Form) (ps : List Part)
      → breaking.AsksParts k bs (d ∷ ds) ps → element.elements ps ≡ [] → ⊥
  asked-filled bs d ds ps h e =
      let r = first-of bs d ds ps h
      in let z : element.element (rule.part d r.0) ∷ element.elements r.1 ≡ [] =
      ap element.elements (sym r.2) ∙ e in absurd cc

  -- two elements or more, the first of which is no postfix
  pub asked-begins : (bs : List Binding) (d c : Form) (ds : List Form) (ps : List Part)
      → rule.postfix_at (out-Form d) ≡ false → breaking.AsksParts k bs (d ∷ c ∷ ds) ps → Begins ps
  asked-begins bs d c ds ps plain h =
      let r = first-of bs d (c ∷ ds) ps h in
      let s = first-of bs c ds r.1 r.4 in
      subst Begins (sym (r.2 ∙ ap (λ (zs : List Part). rule.part d r.0 ∷ zs) s.2)) plain

  module _ (A : IsAccepted k) (bs : List Binding) (B : AreBound k bs) where
    module _ (d : Form) (W : IsWritten k d) (X : IsExact k d) where
      means-once : (m n : Meaning) → rule.Means k (Calls k) bs d m → rule.Means k (Calls k) bs d n
          → m ≡ n
      means-once m n h g =
          let a = means-answered k A h B W None in
          let b = means-answered k A g B W None in
          sym a.2 ∙ ap (λ (o : Outcome). element_meaning o.seen) (sym a.1 ∙ b.1) ∙ b.2

      means-never : (m : Meaning) → rule.Means k (Calls k) bs d m → (f : Fault)
          → breaking.BreaksPart k bs d f → ⊥
      means-never m h f b = by (part-form k A bs B d W X f b)
        where
          a : (seen : Meaning)
              × ((judged k.facts d).answer bs None ≡ record { seen = seen; found = None })
              × (element_meaning seen ≡ m)
          a = let z = means-answered k A h B W None in (z.0, z.1, z.2)

          by : FormBreaks k bs d f ⊎ IsNothing k A bs B d W X f → ⊥
          by (inl c) = ((X bs B None).first.none (ap (λ (o : Outcome). o.found) a.1)).1 f c
          by (inr (t, g, n, e)) =
              means-known bs d m h (sym a.2 ∙ ap (λ
              (o : Outcome). element_meaning o.seen) (sym a.1
              ∙ has_is_answered k A bs B d W t g None)
              ∙ ap (λ c. cond c a_meaning.Unknown (a_meaning.Value t)) n)

      one-meaning : (m n : Meaning) → AskedAs bs d m → AskedAs bs d n → m ≡ n
      one-meaning m n (inl h) (inl g) = means-once m n h g
      one-meaning m n (inl h) (inr (x, e, b)) = absurd (means-never m h x b)
      one-meaning m n (inr (x, e, b)) (inl g) = absurd (means-never n g x b)
      one-meaning m n (inr (x, e, b)) (inr (y, f, c)) = e ∙ sym f

    -- elements are asked in one way
    pub one-asked : (es : List Form) (ps qs : List Part) → AllWritten k es → EachExact k A bs B es
        → breaking.AsksParts k bs es ps → breaking.AsksParts k bs es qs → ps ≡ qs
    one-asked [] ps qs W X h g = none-asked bs ps h ∙ sym (none-asked bs qs g)
    one-asked (d ∷ ds) ps qs W X h g =
        let r = first-of bs d ds ps h in
        let s = first-of bs d ds qs g in
        let m = one-meaning d (all_first (IsWritten k) d ds W) (all_first (IsExact k) d ds X) r.0
        s.0 r.3 s.3 in
        let rest =
        one-asked ds r.1 s.1 (all_rest (IsWritten k) d ds W) (all_rest (IsExact k) d ds X) r.4
        s.4 in
        r.2 ∙ ap (λ (x : Meaning). rule.part d x ∷ r.1) m ∙ ap (λ
        (xs : List Part). rule.part d s.0 ∷ xs) rest ∙ sym s.2

    -- where an element breaks a rule, one has no type
    pub asked-unknown : (es : List Form) (ps : List Part) → AllWritten k es → EachExact k A bs B es
        → breaking.AsksParts k bs es ps → (f : Fault) → breaking.BreaksParts k bs es f
        → HasUnknown ps
    asked-unknown [] ps W X h f (breaking.this_part c cs e b) = absurd cc
    asked-unknown [] ps W X h f (breaking.later_part c cs e b) = absurd cc
    asked-unknown (d ∷ ds) ps W X h f (breaking.this_part c cs e b) =
        let r = first-of bs d ds ps h in subst HasUnknown (sym r.2) (inl (by r.0 r.3))
      where
        same : breaking.BreaksPart k bs d f
        same = let p : c ≡ d = cc in subst (λ (x : Form). breaking.BreaksPart k bs x f) p b

        by : (m : Meaning) → AskedAs bs d m → m ≡ a_meaning.Unknown
        by m (inl g) =
            absurd (means-never d (all_first (IsWritten k) d ds W) (all_first (IsExact k) d ds X) m
            g f same)
        by m (inr (x, z, y)) = z
    asked-unknown (d ∷ ds) ps W X h f (breaking.later_part c cs e b) =
        let r = first-of bs d ds ps h in
        let q : cs ≡ ds = cc in
        subst HasUnknown (sym r.2)
        (inr (asked-unknown ds r.1 (all_rest (IsWritten k) d ds W) (all_rest (IsExact k) d ds X)
        r.4 f (subst (λ (xs : List Form). breaking.BreaksParts k bs xs f) q b)))
