-- The law, by the derivation of a form's type.
use Rattle.std.proofs.Common.{◌≡◌, ◌≤◌, suc, Bool, true, false, cond, ◌&&◌, List, [], ◌∷◌, ◌++◌, length, map, Option, Some, rules, refl, sym, ap, subst, arith}
use Rattle.std.specs.List.{AllByRecursion}
use Rattle.std.proofs.lemmas.List.{append-nil}
use Rattle.fort_base.specs.declared.ids.NameId.{NameId}
use Rattle.fort_base.specs.declared.ids.TypeId.{TypeId}
use Rattle.fort_base.specs.declared.refusal.Place.{Place}
use Rattle.fort_base.specs.declared.ty.Ty.{Ty}
use Rattle.fort_base.specs.declared.ty.Ty.TheVariants as a_type
use Rattle.fort_ops.specs.declared.op.Op.{Op}
use Rattle.fort_ops.specs.declared.op.Op.TheVariants as an_op
use Rattle.fort_scope.specs.declared.binding.Binding.{Binding}
use Rattle.fort_form.specs.declared.form.Form.{Form, out-Form}
use Rattle.fort_form.specs.declared.form.Item.{Item}
use Rattle.fort_form.specs.declared.form.Branch.{Branch}
use Rattle.fort_form.specs.declared.form.Generator.{Generator, out-Generator}
use Rattle.fort_form.specs.declared.form.TypeBranch.{TypeBranch}
use Rattle.fort_form.specs.declared.form.Reduction.{Reduction}
use Rattle.fort_form_typed.specs.declared.typed_form.Chosen.{Chosen}
use Rattle.fort_form_typed.specs.declared.typed_form.TypedForm.{TypedForm, out-TypedForm, the_lemmas}
use Rattle.fort_form_typed.specs.declared.typed_form.TypedForm.TheVariants as a_typed
use Rattle.fort_form_typed.specs.declared.typed_form.TypedForm.TheOpen.{TypedForm-F}
use Rattle.fort_core.specs.declared.program.Program.{Program}
use Rattle.fort_typing_known.specs.Known.{Knows}
use Rattle.fort_typing_known.specs.Names.{a_binding, a_field, a_variable, a_single}
use Rattle.fort_typing_known.specs.Sets.{operator_set}
use Rattle.fort_sound_typed.specs.Typing.{Below, is_same}
use Rattle.fort_typing_rules.specs.declared.part.Part.{Part}
use Rattle.fort_typing_rules.specs.declared.part.Meaning.{Meaning}
use Rattle.fort_typing_rules.specs.Types.{boolean, exception, unit, type_of, types_of}
use Rattle.fort_typing_rules.specs.Calls.{Calls}
use Rattle.fort_typing_rules.specs.Elements as elements
use Rattle.fort_typing_rules.specs.Typing as rule
use Rattle.fort_typing_rules.specs.Typing.{is_target}
use Rattle.fort_typing_law_rules.specs.Deciding.{IsType, AreTypes, IsAccepted}
use Rattle.fort_typing_law_rules.specs.Written.{IsWritten, AreBound}
use Rattle.fort_typing_law_rules.proofs.Types.{all_join}
use Rattle.fort_typing_law_rules.proofs.Written.{AllWritten, BranchWritten, GeneratorWritten, ClauseWritten, MayBeWritten, ItemWritten, of-parts, of-item, tests-of, values-of}
use Rattle.fort_typing_law_rules.proofs.Typed.{typed-of, typed-as, typed-each, sources-bound, typed-clauses, typed-cases, typed-else, typed-parts, all-types, call-type, one-bound, binds-bound, clause-bound, parameters-bound, named-bound, given-typed}
use Rattle.fort_elab_meaning.specs.Parts.{Given}
use Rattle.fort_elab_meaning.specs.Items.{block}
use Rattle.fort_elab_meaning.specs.Translated.{translated, part}
use Rattle.fort_sound_forms.specs.Figures.{HasFigures}
use Rattle.fort_sound_forms.specs.Suits.{Suits}
use Rattle.fort_sound_forms.specs.Forms.{FormsHaveTypes}
use Rattle.fort_sound_forms.proofs.Figures as figure
use Rattle.fort_sound_forms.proofs.Names.{not_bound}
use Rattle.fort_sound_forms.proofs.Stands.{stands_so}
use Rattle.fort_sound_forms.proofs.Makers.{Good, good_still}
use Rattle.fort_sound_forms.proofs.Facts.{told, call_is}
use Rattle.fort_sound_forms.proofs.Values.{has_unit}
use Rattle.fort_sound_forms.proofs.Plain.{Plain, AllPlain, typed_is}
use Rattle.fort_sound_forms.proofs.Simple.{above, plain-Number, plain-Text, plain-Truth, plain-Tuple, plain-Local, plain-Top, plain-Single, plain-Receiver, plain-ReadField, plain-Fill, plain-Operation, plain-Also, plain-While, plain-Atomic, plain-Tryatomic, plain-Throw}
use Rattle.fort_sound_forms.proofs.Scoped.{tuple_names, good_binding, good_bindings, items_of}
use Rattle.fort_sound_forms.proofs.Compound.{AllBelow, EachBelow, widest_over, first_ones, last_ones, MayBePlain, plain-If, plain-IfAlone, ClausesPlain, plain-Case, CasesPlain, plain-Typecase, plain-Try, plain-Chain, plain-Fn, plain-Block, plain-For, plain-Reduce}
use Rattle.fort_sound_forms.proofs.Chains.{compared}
use Rattle.fort_sound_forms.proofs.Targets.{plain-Assign, plain-Update}
use Rattle.fort_sound_forms.proofs.Runs.{MeansPlain, PartsPlain, becomes_plain, stands_plain}
use Rattle.fort_sound_forms.proofs.Blocks.{good_then, block_bind, block_binds, items_more, Sources, no_more, next, good_loops}

module _ (k : Knows) (A : IsAccepted k) (g : Given) (p : Program) (U : Suits k g p) where
  abbrev Fine : List Binding → TypedForm → Type 0
  Fine bs t = Plain k g p bs t

  abbrev Each : List Binding → List TypedForm → Type 0
  Each bs ts = AllPlain k g p bs ts

  -- ---- what is wanted of a part

  below-as : {bs : List Binding} {ty : Ty} {e : Form} {t : TypedForm}
      → rule.HasAs k (Calls k) bs (rule.below ty) e t → AreBound k bs → IsWritten k e
      → Below p (type_of t) ty
  below-as {ty = ty} {t = t} (rule.suits h s) B W =
      told k A g p U (type_of t) ty (typed-of k A h B W).0 s

  truth-as : {bs : List Binding} {e : Form} {t : TypedForm}
      → rule.HasAs k (Calls k) bs rule.a_truth e t → type_of t ≡ boolean
  truth-as (rule.suits h s) = s

  exception-as : {bs : List Binding} {e : Form} {t : TypedForm}
      → rule.HasAs k (Calls k) bs rule.an_exception e t → AreBound k bs → IsWritten k e
      → Below p (type_of t) exception
  exception-as {t = t} (rule.suits h s) B W =
      told k A g p U (type_of t) exception (typed-of k A h B W).0 s

  wanted-as : {bs : List Binding} {want : rule.Want} {e : Form} {t : TypedForm}
      → rule.HasAs k (Calls k) bs want e t → rule.Suits k want (type_of t)
  wanted-as (rule.suits h s) = s

  each-truth : {bs : List Binding} {es : List Form} {ts : List TypedForm}
      → rule.HasEach k (Calls k) bs rule.a_truth es ts → AllBelow k A g p U ts boolean
  each-truth (rule.no_part e1 e2) =
      subst (λ (ts : List TypedForm). AllBelow k A g p U ts boolean) (sym e2) tt
  each-truth (rule.part_ d ds u us e1 e2 h rest) =
      subst (λ (ts : List TypedForm). AllBelow k A g p U ts boolean) (sym e2) (
        is_same (truth-as h),
        each-truth rest,
      )

  each-below : {bs : List Binding} {ty : Ty} {es : List Form} {ts : List TypedForm}
      → rule.HasEach k (Calls k) bs (rule.below ty) es ts → AreBound k bs → AllWritten k es
      → AllBelow k A g p U ts ty
  each-below {ty = ty} (rule.no_part e1 e2) B W =
      subst (λ (ts : List TypedForm). AllBelow k A g p U ts ty) (sym e2) tt
  each-below {ty = ty} (rule.part_ d ds u us e1 e2 h rest) B W =
      let V = subst (AllWritten k) e1 W
      in subst (λ
      (ts : List TypedForm). AllBelow k A g p U ts ty) (sym e2) (
        below-as h B V.0,
        each-below rest B V.1,
      )

  -- the types behind the first one
  rest_ones : (values : List TypedForm) (u T : Ty) → EachBelow k A g p U (u ∷ types_of values) T
      → EachBelow k A g p U (types_of values ++ []) T
  rest_ones values u T h =
      subst (λ (ts : List Ty). EachBelow k A g p U ts T) (sym (append-nil (types_of values)))
      (λ j x e. h (suc j) x e)

  -- ---- chains

  chain_of : {bs : List Binding} {ops : List Op} {ts : List TypedForm} (cs : List Chosen)
      → rule.Compares k (Calls k) ops ts cs → 1 ≤ length ops → Each bs ts → AreTypes k (types_of ts)
      → Fine bs (a_typed.Chain boolean (operator_set k.facts an_op.And 2) cs ts)
  chain_of [] (rule.no_more a e1 e2 e3) l h t = let z = ap length e1 in absurd (omega arith)
  chain_of [] (rule.more op others a b us result ws ds e1 e2 c w rest e3) l h t = absurd cc
  chain_of {ts = ts} (c ∷ cs) w l h t = plain-Chain k A g p U c cs ts h (compared k A g p U w t)

  receiver_type : (o : TypeId) → type_of (a_typed.Receiver (a_type.Named o)) ≡ a_type.Named o
  receiver_type o =
      let is : out-TypedForm (a_typed.Receiver (a_type.Named o))
      ≡ TypedForm-F.Receiver (a_type.Named o) = search (rules, the_lemmas)
      in typed_is k g p (a_typed.Receiver (a_type.Named o)) is

  takes_it : (d : Form) (u : TypedForm) → is_target k d u ≡ true
      → rule.takes_at k.facts (out-TypedForm u) ≡ true
  unfolding is_target
  takes_it d u e = go (rule.target_at (out-Form d)) (rule.takes_at k.facts (out-TypedForm u)) e
    where
      go : (a b : Bool) → a && b ≡ true → b ≡ true
      go true b h = h
      go false b h = absurd cc

  reduce_of : {bs inner : List Binding} {x : Generator} {s : TypedForm} (r : Reduction)
      (u : TypedForm) → Sources k g p bs (x ∷ []) inner (s ∷ []) → Fine inner u
      → rule.Suits k (rule.reduction_want r) (type_of u)
      → Fine bs
      (a_typed.Reduce (type_of u) r (operator_set k.facts (rule.reduction_operator r) 2)
      (out-Generator x).name (out-Generator x).sequential s u)
  reduce_of r u (next x s ty f h w no_more) i j =
      plain-Reduce k A g p U r (out-Generator x).place (out-Generator x).name ty
      (out-Generator x).sequential s u f h w i j

  -- ---- forms

  mutual
    plain-of : {bs : List Binding} {e : Form} {t : TypedForm} → rule.Has k (Calls k) bs e t
        → AreBound k bs → IsWritten k e → HasFigures e → Fine bs t
    plain-of {bs} {e} (rule.number q n is te) B W F =
        subst (Fine bs) (sym te) (plain-Number k A g p U n (figure.of-parts e is F))
    plain-of {bs} (rule.words q n is te) B W F = subst (Fine bs) (sym te) (plain-Text k A g p U n)
    plain-of {bs} (rule.truth q b is te) B W F = subst (Fine bs) (sym te) (plain-Truth k A g p U b)
    plain-of {bs} (rule.receiver q o is ow te) B W F =
        subst (Fine bs) (sym te) (plain-Receiver k A g p U o ow)
    plain-of {bs} (rule.local q name b is s te) B W F =
        subst (Fine bs) (sym te)
        (plain-Local k A g p U name b (stands_so k bs name (a_binding b) s))
    plain-of {bs} (rule.own q name o f is s te) B W F =
        let z = stands_so k bs name (a_field o f) s in
        subst (Fine bs) (sym te)
        (plain-ReadField k A g p U f.ty (a_typed.Receiver (a_type.Named o)) name
        (plain-Receiver k A g p U o z.0) (o, f, receiver_type o, z.1, refl))
    plain-of {bs} (rule.top q name n v is s te) B W F =
        subst (Fine bs) (sym te) (plain-Top k A g p U n v (stands_so k bs name (a_variable n v) s))
    plain-of {bs} (rule.single q name o is s te) B W F =
        subst (Fine bs) (sym te)
        (plain-Single k A g p U name o (stands_so k bs name (a_single o) s))
    plain-of {e = e} (rule.parens q d is h) B W F =
        plain-as h B (of-parts k e is W) (figure.of-parts e is F)
    plain-of {bs} {e} (rule.tuple q es ts is h te) B W F =
        subst (Fine bs) (sym te)
        (plain-Tuple k A g p U ts (plain-each h B (of-parts k e is W) (figure.of-parts e is F)))
    plain-of {bs} {e} (rule.operator q op es ts result ws is h c te) B W F =
        let V = of-parts k e is W in
        subst (Fine bs) (sym te)
        (plain-Operation k A g p U (operator_set k.facts op (length ts)) result ws ts
        (plain-each h B V (figure.of-parts e is F))
        (call_is k A g p U (operator_set k.facts op (length ts)) (types_of ts) result ws
        (all-types k A ts (typed-each k A h B V)) c))
    plain-of {bs} {e} (rule.chain q ops es ts cs is h c te) B W F =
        let V = of-parts k e is W in let X = figure.of-parts e is F in
        subst (Fine bs) (sym te)
        (chain_of cs c X.0 (plain-each h B V X.1) (all-types k A ts (typed-each k A h B V)))
    plain-of {bs} {e} {t} (rule.beside q es ps is h s) B W F =
        let V = of-parts k e is W
        in stands_plain k A g p U bs ps t s (typed-parts k A h B V)
        (plain-parts h B V (figure.of-parts e is F))
    plain-of {bs} {e} (rule.run q es ps is h s) B W F =
        let V = of-parts k e is W
        in becomes_plain k A g p U bs s (typed-parts k A h B V)
        (plain-parts h B V (figure.of-parts e is F))
    plain-of {bs} {e} (rule.fill q ty n v u w is h i te) B W F =
        let V = of-parts k e is W in let X = figure.of-parts e is F in
        subst (Fine bs) (sym te)
        (plain-Fill k A g p U ty u w (plain-as h B V.1 X.0) (below-as h B V.1)
        (plain-as i B V.2 X.1) (below-as i B V.2))
    plain-of {bs} {e} (rule.block q is_ ts ty is h te) B W F =
        subst (Fine bs) (sym te)
        (plain-Block k A g p U ts ty (good-items h B (of-parts k e is W) (figure.of-parts e is F)))
    plain-of {e = e} (rule.do_one q b is h) B W F =
        let V = of-parts k e is W in let X = figure.of-parts e is F in plain-as h B V.0 X.0
    plain-of {bs} {e} (rule.do_also q a b others ts is h te) B W F =
        subst (Fine bs) (sym te)
        (plain-Also k A g p U ts (plain-each h B (of-parts k e is W) (figure.of-parts e is F)))
    plain-of {bs} {e} (rule.if_alone q branches tests values is h i te) B W F =
        let V = of-parts k e is W in let X = figure.of-parts e is F
        in let Y = values-of k branches V.0 in
        subst (Fine bs) (sym te)
        (plain-IfAlone k A g p U tests values
        (plain-each h B (tests-of k branches V.0) (figure.tests-of branches X.0))
        (each-truth h) (plain-each i B Y (figure.values-of branches X.0))
        (each-below i B Y))
    plain-of {bs} {e} (rule.if_else q branches d tests values u ty is h i j w te) B W F =
        let V = of-parts k e is W in let X = figure.of-parts e is F
        in let Y = values-of k branches V.0 in
        let O = widest_over k A g p U (types_of values ++ type_of u ∷ []) ty w
        (all_join (IsType k) (types_of values) (type_of u ∷ [])
        (all-types k A values (typed-each k A i B Y)) ((typed-as k A j B V.1).0, tt)) in
        subst (Fine bs) (sym te)
        (plain-If k A g p U tests values u ty
        (plain-each h B (tests-of k branches V.0) (figure.tests-of branches X.0))
        (each-truth h) (plain-each i B Y (figure.values-of branches X.0))
        (first_ones k A g p U values (type_of u ∷ []) ty O) (plain-as j B V.1 X.1)
        (last_ones k A g p U values (type_of u ∷ []) ty O 0 (type_of u) refl))
    plain-of {bs} {e} (rule.while_do q c b u v is h i te) B W F =
        let V = of-parts k e is W in let X = figure.of-parts e is F in
        subst (Fine bs) (sym te)
        (plain-While k A g p U u v (plain-as h B V.0 X.0) (truth-as h) (plain-as i B V.1 X.1))
    plain-of {bs} {e} (rule.for_do q xs b inner us v is h i te) B W F =
        let V = of-parts k e is W in let X = figure.of-parts e is F
        in let I = sources-bound k A h B V.0 in
        subst (Fine bs) (sym te)
        (plain-For k A g p U (map rule.generator_name xs) us v
        (good_loops k g p (translated g v) (plain-sources h B V.0 X.0)
        (above k A g p U (plain-as i I V.1 X.1) (below-as i I V.1))))
    plain-of {bs} {e} (rule.case q s branches other u cs tests values w ty is h c o wide te) B W F =
        let V = of-parts k e is W in let X = figure.of-parts e is F in
        let O = widest_over k A g p U (types_of values ++ rule.else_types w) ty wide
        (all_join (IsType k) (types_of values) (rule.else_types w)
        (all-types k A values (typed-clauses k A c B V.1)) (typed-else k A o B V.2)) in
        subst (Fine bs) (sym te)
        (plain-Case k A g p U u cs tests values w ty (plain-as h B V.0 X.0)
        (plain-clauses ty c (typed-as k A h B V.0).0
        (first_ones k A g p U values (rule.else_types w) ty O) B V.1 X.1)
        (plain-else ty o (last_ones k A g p U values (rule.else_types w) ty O) B V.2 X.2))
    plain-of {bs} {e}
        (rule.typecase q at name s branches other u values w ty is fresh h c o wide te) B W F =
        let V = of-parts k e is W in let X = figure.of-parts e is F in
        let I = clause-bound k A bs (Some (at, name)) (type_of u) B (typed-as k A h B V.0).0 in
        let O = widest_over k A g p U (types_of values ++ rule.else_types w) ty wide
        (all_join (IsType k) (types_of values) (rule.else_types w)
        (all-types k A values (typed-cases k A c B V.1)) (typed-else k A o I V.2)) in
        subst (Fine bs) (sym te)
        (plain-Typecase k A g p U at name u (map rule.clause_type branches) values w ty
        (ap (λ b. cond b false true) fresh) (plain-as h B V.0 X.0)
        (plain-cases ty c (first_ones k A g p U values (rule.else_types w) ty O) B V.1 X.1)
        (plain-else ty o (last_ones k A g p U values (rule.else_types w) ty O) I V.2 X.2))
    plain-of {bs} {e} (rule.try_catch q b name branches last u values w ty is h fresh x c o wide te)
        B W F =
        let V = of-parts k e is W in let X = figure.of-parts e is F in
        let O = widest_over k A g p U (type_of u ∷ types_of values) ty wide
        ((typed-as k A h B V.0).0, all-types k A values (typed-cases k A c B V.1)) in
        subst (Fine bs) (sym te)
        (plain-Try k A g p U name u (map rule.clause_type branches) values w ty fresh
        (plain-as h B V.0 X.0) (O 0 (type_of u) refl)
        (plain-cases ty c (first_ones k A g p U values [] ty (rest_ones values (type_of u) ty O)) B
        V.1 X.1) (plain-finally o B V.2 X.2))
    plain-of {bs} {e} (rule.atomic q d u is h te) B W F =
        subst (Fine bs) (sym te)
        (plain-Atomic k A g p U u (plain-as h B (of-parts k e is W) (figure.of-parts e is F)))
    plain-of {bs} {e} (rule.tryatomic q d u is h te) B W F =
        subst (Fine bs) (sym te)
        (plain-Tryatomic k A g p U u (plain-as h B (of-parts k e is W) (figure.of-parts e is F)))
    plain-of {bs} {e} (rule.throw q d u is h te) B W F =
        let V = of-parts k e is W
        in subst (Fine bs) (sym te)
        (plain-Throw k A g p U u (plain-as h B V (figure.of-parts e is F)) (exception-as h B V))
    plain-of {bs} {e} (rule.function q ps d inner u is b h te) B W F =
        let V = of-parts k e is W in let I = binds-bound k A b B (parameters-bound k A ps V.0) in
        subst (Fine bs) (sym te)
        (plain-Fn k A g p U ps u b (plain-as h I V.1 (figure.of-parts e is F)))
    plain-of {bs} {e} (rule.reduce q r x d inner s u is h i te) B W F =
        let V = of-parts k e is W in let X = figure.of-parts e is F
        in let I = sources-bound k A h B (V.0, tt) in
        subst (Fine bs) (sym te)
        (reduce_of r u (plain-sources h B (V.0, tt) (X.0, tt)) (plain-as i I V.1 X.1)
        (wanted-as i))
    plain-of {bs} {e} (rule.assign q d v sign u w is none h target i te) B W F =
        let V = of-parts k e is W in let X = figure.of-parts e is F in
        subst (Fine bs) (sym te)
        (plain-Assign k A g p U u w (plain-of h B V.0 X.0) (takes_it d u target)
        (plain-as i B V.1 X.1) (below-as i B V.1))
    plain-of {bs} {e} (rule.update q d v sign op u w result ws is some h target i c b te) B W F =
        let V = of-parts k e is W in let X = figure.of-parts e is F in
        let set = operator_set k.facts op 2 in
        subst (Fine bs) (sym te)
        (plain-Update k A g p U u w set result ws (plain-of h B V.0 X.0) (takes_it d u target)
        (plain-as i B V.1 X.1)
        (call_is k A g p U set (type_of u ∷ type_of w ∷ []) result ws (
          (typed-of k A h B V.0).0,
          ((typed-as k A i B V.1).0, tt),
        ) c)
        (told k A g p U result (type_of u) (call-type k A set _ result ws c) b))

    plain-as : {bs : List Binding} {want : rule.Want} {e : Form} {t : TypedForm}
        → rule.HasAs k (Calls k) bs want e t → AreBound k bs → IsWritten k e → HasFigures e
        → Fine bs t
    plain-as (rule.suits h s) B W F = plain-of h B W F

    plain-each : {bs : List Binding} {want : rule.Want} {es : List Form} {ts : List TypedForm}
        → rule.HasEach k (Calls k) bs want es ts → AreBound k bs → AllWritten k es
        → figure.AllFigured es → Each bs ts
    plain-each {bs} (rule.no_part e1 e2) B W F = subst (Each bs) (sym e2) tt
    plain-each {bs} (rule.part_ d ds u us e1 e2 h rest) B W F =
        let V = subst (AllWritten k) e1 W in let X = subst figure.AllFigured e1 F
        in subst (Each bs) (sym e2) (plain-as h B V.0 X.0, plain-each rest B V.1 X.1)

    good-items : {bs : List Binding} {is : List Item} {ts : List TypedForm} {ty : Ty}
        → rule.HasItems k (Calls k) bs is ts ty → AreBound k bs → AllByRecursion (ItemWritten k) is
        → AllByRecursion figure.ItemFigured is
        → Good k p bs (block (map (part g) ts)) ty
    good-items {bs} {ty = ty} (rule.no_item e1 e2 e3) B W F =
        subst (λ (ts : List TypedForm). Good k p bs (block (map (part g) ts)) ty) (sym e2)
        (subst (Good k p bs (block [])) (sym e3) (good_still k p _ (λ G. has_unit k g p U G)))
    good-items {bs} {ty = ty} (rule.last_item i d u e1 e2 h e3 e4) B W F =
        let V = subst (AllByRecursion (ItemWritten k)) e1 W
        in let X = subst (AllByRecursion figure.ItemFigured) e1 F in
        let P = plain-as h B (of-item k i e2 V.0) (figure.of-item i e2 X.0) in
        subst (λ (ts : List TypedForm). Good k p bs (block (map (part g) ts)) ty) (sym e3)
        (subst (Good k p bs (translated g u)) (sym e4) P.maker)
    good-items {bs} {ty = ty} (rule.expression i j more d u us e1 e2 h rest e3) B W F =
        let V = subst (AllByRecursion (ItemWritten k)) e1 W
        in let X = subst (AllByRecursion figure.ItemFigured) e1 F in
        let P = plain-as h B (of-item k i e2 V.0) (figure.of-item i e2 X.0) in
        let m = items_more k g p rest in
        let R = subst (λ
        (ts : List TypedForm). Good k p bs (block (map (part g) ts)) ty) m.2
        (good-items rest B V.1 X.1) in
        let Q = good_then k g p u (part g m.0) (map (part g) m.1) P R in
        subst (λ (ts : List TypedForm). Good k p bs (block (map (part g) ts)) ty) (sym e3) (subst (λ
        (ts : List TypedForm). Good k p bs (block (part g u ∷ map (part g) ts)) ty)
        (sym m.2) Q)
    good-items {bs} {ty =
        ty} (rule.declared i more q name mutable want d u us e1 e2 fresh h rest e3) B W F =
        let V = subst (AllByRecursion (ItemWritten k)) e1 W
        in let X = subst (AllByRecursion figure.ItemFigured) e1 F in
        let Y = of-item k i e2 V.0 in
        let P = plain-as h B Y.1 (figure.of-item i e2 X.0) in
        let R = good-items rest (one-bound k A bs _ B Y.0) V.1 X.1 in
        subst (λ (ts : List TypedForm). Good k p bs (block (map (part g) ts)) ty) (sym e3)
        (subst (λ m. Good k p bs m ty)
        (sym (block_bind k g p name mutable want u (map (part g) us)))
        (good_binding k p q name mutable want (translated g u) (block (map (part g) us))
        (not_bound k bs name fresh) (above k A g p U P (below-as h B Y.1)) R))
    good-items {bs} {ty =
        ty} (rule.declared_all i more q names want d new inner u us e1 e2 parts b h rest e3) B W
        F =
        let V = subst (AllByRecursion (ItemWritten k)) e1 W
        in let X = subst (AllByRecursion figure.ItemFigured) e1 F in
        let Y = of-item k i e2 V.0 in let Z = figure.of-item i e2 X.0 in
        let P = plain-as h B Y.1 Z.1 in
        let N = tuple_names names want new Z.0 parts in
        let R = good-items rest (binds-bound k A b B (named-bound k A names want new Y.0 parts)) V.1
        X.1 in
        subst (λ (ts : List TypedForm). Good k p bs (block (map (part g) ts)) ty) (sym e3)
        (subst (λ m. Good k p bs m ty)
        (sym (block_binds k g p (map rule.name_and_type new) u (map (part g) us)))
        (good_bindings k p want (translated g u) (block (map (part g) us)) b N.0 N.1
        (above k A g p U P (below-as h B Y.1)) R))

    plain-sources : {bs inner : List Binding} {xs : List Generator} {us : List TypedForm}
        → rule.HasSources k (Calls k) bs xs inner us → AreBound k bs
        → AllByRecursion (GeneratorWritten k) xs → AllByRecursion figure.GeneratorFigured xs
        → Sources k g p bs xs inner us
    plain-sources {bs} {inner} {xs} {us} (rule.no_source e1 e2 e3) B W F =
        subst (λ (ys : List Generator). Sources k g p bs ys inner us) (sym e1) (subst (λ
        (ys : List Binding). Sources k g p bs [] ys us) (sym e2) (subst (λ
        (ts : List TypedForm). Sources k g p bs [] bs ts) (sym e3) no_more))
    plain-sources {bs} {inner} {xs} {us} (rule.source x more u vs ty e1 e2 fresh h gv rest) B W F =
        let V = subst (AllByRecursion (GeneratorWritten k)) e1 W
        in let X = subst (AllByRecursion figure.GeneratorFigured) e1 F in
        let R = plain-sources rest
        (one-bound k A bs _ B (given-typed k A (type_of u) ty (typed-as k A h B V.0).0 gv)) V.1
        X.1 in
        subst (λ (ys : List Generator). Sources k g p bs ys inner us) (sym e1) (subst (λ
        (ts : List TypedForm). Sources k g p bs (x ∷ more) inner ts) (sym e2)
        (next x u ty (not_bound k bs (out-Generator x).name fresh) (plain-as h B V.0 X.0)
        (items_of k g p U (type_of u) ty gv) R))

    plain-clauses : {bs : List Binding} {s : TypedForm} {branches : List Branch} {cs : List Chosen}
        {tests values : List TypedForm} (T : Ty)
        → rule.HasClauses k (Calls k) bs s branches cs tests values → IsType k (type_of s)
        → AllBelow k A g p U values T → AreBound k bs → AllByRecursion (BranchWritten k) branches
        → AllByRecursion figure.BranchFigured branches
        → ClausesPlain k A g p U bs (type_of s) T cs tests values
    plain-clauses {bs} {s} {tests = tests} {values =
        values} T (rule.no_clause e1 e2 e3 e4) t O B W F =
        subst (λ (cs : List Chosen). ClausesPlain k A g p U bs (type_of s) T cs tests values)
        (sym e2) tt
    plain-clauses {bs} {s} {cs = cs} {tests = tests} {values =
        values} T (rule.clause b more u v result ws ds us vs e1 h c bl i rest e2 e3 e4) t O B W
        F =
        let V = subst (AllByRecursion (BranchWritten k)) e1 W
        in let X = subst (AllByRecursion figure.BranchFigured) e1 F in
        let Y = subst (λ (ts : List TypedForm). AllBelow k A g p U ts T) e4 O in
        let set = operator_set k.facts an_op.Eq 2 in
        let P = plain-as h B V.0.0 X.0.0 in
        let I = call_is k A g p U set (type_of s ∷ type_of u ∷ []) result ws (
          t,
          ((typed-as k A h B V.0.0).0, tt),
        ) c in
        let L = subst (λ Z. Below p result Z) (sym U.truth)
        (told k A g p U result boolean (call-type k A set _ result ws c) bl) in
        subst (λ (xs : List Chosen). ClausesPlain k A g p U bs (type_of s) T xs tests values)
        (sym e2) (subst (λ
        (ts : List TypedForm). ClausesPlain k A g p U bs (type_of s) T
        (elements.chosen set ws ∷ ds) ts values) (sym e3)
        (subst (λ
        (ts : List TypedForm). ClausesPlain k A g p U bs (type_of s) T
        (elements.chosen set ws ∷ ds) (u ∷ us) ts) (sym e4) (
          (set, type_of u, result, ws, refl, I, L, P.maker),
          (plain-as i B V.0.1 X.0.1, Y.0),
          plain-clauses T rest t Y.1 B V.1 X.1,
        )))

    plain-cases : {bs : List Binding} {name : Option (Place × NameId)} {branches : List TypeBranch}
        {values : List TypedForm} (T : Ty) → rule.HasCases k (Calls k) bs name branches values
        → AllBelow k A g p U values T → AreBound k bs
        → AllByRecursion (ClauseWritten k) branches → AllByRecursion figure.ClauseFigured branches
        → CasesPlain k A g p U bs name T values (map rule.clause_type branches)
    plain-cases {bs} {name} {branches} {values} T (rule.no_case e1 e2) O B W F =
        subst (λ (xs : List TypeBranch). CasesPlain k A g p U bs name T values
        (map rule.clause_type xs)) (sym e1) (subst (λ
        (ts : List TypedForm). CasesPlain k A g p U bs name T ts []) (sym e2) tt)
    plain-cases {bs} {name} {branches} {values} T (rule.case_ b more v vs e1 e2 h rest) O B W F =
        let V = subst (AllByRecursion (ClauseWritten k)) e1 W
        in let X = subst (AllByRecursion figure.ClauseFigured) e1 F in
        let Y = subst (λ (ts : List TypedForm). AllBelow k A g p U ts T) e2 O in
        subst (λ (xs : List TypeBranch). CasesPlain k A g p U bs name T values
        (map rule.clause_type xs)) (sym e1) (subst (λ
        (ts : List TypedForm). CasesPlain k A g p U bs name T ts
        (map rule.clause_type (b ∷ more))) (sym e2) (
          (plain-as h (clause-bound k A bs name (rule.clause_type b) B V.0.0) V.0.1 X.0, Y.0),
          plain-cases T rest Y.1 B V.1 X.1,
        ))

    plain-else : {bs : List Binding} {other : Option Form} {w : Option TypedForm} (T : Ty)
        → rule.HasElse k (Calls k) bs other w → EachBelow k A g p U (rule.else_types w) T
        → AreBound k bs → MayBeWritten k other → figure.MayBeFigured other
        → MayBePlain k A g p U bs T w
    plain-else {bs} T (rule.no_else e1 e2) O B W F = subst (MayBePlain k A g p U bs T) (sym e2) tt
    plain-else {bs} T (rule.else_ d u e1 h e2) O B W F =
        let Y = subst (λ (x : Option TypedForm). EachBelow k A g p U (rule.else_types x) T) e2 O in
        subst (MayBePlain k A g p U bs T) (sym e2) (
          plain-as h B (subst (MayBeWritten k) e1 W) (subst figure.MayBeFigured e1 F),
          Y 0 (type_of u) refl,
        )

    plain-finally : {bs : List Binding} {last : Option Form} {w : Option TypedForm}
        → rule.HasFinally k (Calls k) bs last w → AreBound k bs → MayBeWritten k last
        → figure.MayBeFigured last → MayBePlain k A g p U bs unit w
    plain-finally {bs} (rule.no_finally e1 e2) B W F =
        subst (MayBePlain k A g p U bs unit) (sym e2) tt
    plain-finally {bs} (rule.finally_ d u e1 h e2) B W F =
        let V = subst (MayBeWritten k) e1 W
        in subst (MayBePlain k A g p U bs unit) (sym e2)
        (plain-as h B V (subst figure.MayBeFigured e1 F), below-as h B V)

    plain-parts : {bs : List Binding} {es : List Form} {ps : List Part}
        → rule.HasParts k (Calls k) bs es ps → AreBound k bs → AllWritten k es
        → figure.AllFigured es → PartsPlain k A g p U bs ps
    plain-parts {bs} (rule.no_element e1 e2) B W F = subst (PartsPlain k A g p U bs) (sym e2) tt
    plain-parts {bs} (rule.element_ d ds m qs e1 e2 h rest) B W F =
        let V = subst (AllWritten k) e1 W in let X = subst figure.AllFigured e1 F
        in subst (PartsPlain k A g p U bs) (sym e2) (
          plain-means h B V.0 X.0,
          plain-parts rest B V.1 X.1,
        )

    plain-means : {bs : List Binding} {e : Form} {m : Meaning} → rule.Means k (Calls k) bs e m
        → AreBound k bs → IsWritten k e → HasFigures e → MeansPlain k A g p U bs m
    plain-means {bs} (rule.a_named name n me) B W F = subst (MeansPlain k A g p U bs) (sym me) tt
    plain-means {bs} (rule.a_valued t h me) B W F =
        subst (MeansPlain k A g p U bs) (sym me) (plain-as h B W F)
    plain-means {bs} {e} (rule.an_index q i t is h me) B W F =
        let V = of-parts k e is W
        in subst (MeansPlain k A g p U bs) (sym me) (
          plain-as h B V (figure.of-parts e is F),
          below-as h B V,
        )
    plain-means {bs} {e} (rule.an_exponent q d t is h me) B W F =
        subst (MeansPlain k A g p U bs) (sym me)
        (plain-as h B (of-parts k e is W) (figure.of-parts e is F))
    plain-means {bs} (rule.a_field_of q spot name is me) B W F =
        subst (MeansPlain k A g p U bs) (sym me) tt
    plain-means {bs} {e} (rule.a_method_of q spot name es ts is h me) B W F =
        subst (MeansPlain k A g p U bs) (sym me)
        (plain-each h B (of-parts k e is W) (figure.of-parts e is F))

pub forms_have_types : FormsHaveTypes
forms_have_types k A g p U bs B e W F t h s c G a =
    let P = plain-of k A g p U h B W F in let x = P.maker s c G a in x.has
