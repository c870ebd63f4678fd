-- Chains of relations.
use Rattle.std.proofs.Common.{◌≡◌, ◌≤◌, ℕ, Bool, List, [], ◌∷◌, ◌++◌, map, Some, refl, sym, subst, append_assoc, arith}
use Rattle.std.specs.List.{AllByRecursion}
use Rattle.std.proofs.lemmas.List.{append-nil}
use Rattle.fort_base.specs.declared.ids.SetId.{SetId}
use Rattle.fort_base.specs.declared.ty.Ty.{Ty}
use Rattle.fort_ops.specs.declared.op.Op.{Op}
use Rattle.fort_ops.specs.declared.op.Op.TheVariants as an_op
use Rattle.fort_scope.specs.declared.binding.Binding.{Binding}
use Rattle.fort_form.specs.declared.form.Reduction.TheVariants as a_reduction
use Rattle.fort_form_typed.specs.declared.typed_form.Chosen.{Chosen}
use Rattle.fort_form_typed.specs.declared.typed_form.TypedForm.{TypedForm}
use Rattle.fort_core.specs.declared.program.Program.{Program}
use Rattle.fort_core.specs.declared.term.Term.{Term, Variable}
use Rattle.fort_typing_known.specs.Known.{Knows}
use Rattle.fort_typing_known.specs.Sets.{operator_set}
use Rattle.fort_sound_typed.specs.Envs.{Env, fixed, bind}
use Rattle.fort_sound_typed.specs.Typing.{Below, Called, Has}
use Rattle.fort_sound_typed.specs.Sound.{opening}
use Rattle.fort_sound_typed.proofs.Bind.{bind_at}
use Rattle.fort_sound_typed.proofs.Rules.{two_parts, sub}
use Rattle.fort_typing_rules.specs.Types.{boolean, type_of, types_of}
use Rattle.fort_typing_rules.specs.Calls.{Calls}
use Rattle.fort_typing_rules.specs.Elements.{chosen}
use Rattle.fort_typing_rules.specs.Typing as rule
use Rattle.fort_typing_law_rules.specs.Deciding.{AreTypes, IsAccepted}
use Rattle.fort_typing_law_rules.proofs.Typed.{call-type}
use Rattle.fort_elab_meaning.specs.declared.counter.Counter.{Counter}
use Rattle.fort_elab_meaning.specs.Making.{Scope}
use Rattle.fort_elab_meaning.specs.Parts.{Given, Part, maker_of}
use Rattle.fort_elab_meaning.specs.Calls.{operation, operated, comparisons, joined, sides, chain}
use Rattle.fort_sound_forms.specs.Forms.{Agrees}
use Rattle.fort_sound_forms.specs.Suits.{Suits}
use Rattle.fort_sound_forms.proofs.Names.{kept}
use Rattle.fort_sound_forms.proofs.Built.{has-Variable, has-Operator}
use Rattle.fort_sound_forms.proofs.Makers.{Got, Good, EachGood, good_many, got_letting}
use Rattle.fort_sound_forms.proofs.Facts.{tr, told, IsCall, call_is, has_operation, has_operated}

abbrev part_type : Part → Ty
part_type q = q.ty

-- these variables have these types
abbrev Bound : Env → List ℕ → List Ty → Type 0
Bound G [] [] = Unit {0}
Bound G (n ∷ ns) (T ∷ Ts) = (G n ≡ Some (fixed T)) × Bound G ns Ts
Bound G _ _ = ⊥

module _ (k : Knows) (A : IsAccepted k) (g : Given) (p : Program) (U : Suits k g p) where
  abbrev Compares : Chosen → Ty → Ty → Type 0
  Compares c T V = (set : SetId) × (result : Ty) × (ws : List Bool) × (c ≡ chosen set ws)
      × IsCall k A g p U set (T ∷ V ∷ []) result ws × Below p result boolean

  -- each comparison is of a side and the next one
  abbrev pub Compared : List Chosen → List Ty → Type 0
  Compared (c ∷ cs) (T ∷ V ∷ Ts) = Compares c T V × Compared cs (V ∷ Ts)
  Compared [] (T ∷ []) = Unit {0}
  Compared _ _ = ⊥

  compare_has : (G : Env) (c : Chosen) (T V : Ty) (a b : Term) → Compares c T V
      → Has p (opening p) G a T → Has p (opening p) G b V
      → Has p (opening p) G (operated g c a b) boolean
  compare_has G c T V a b (set, result, ws, e, i, w) h j =
      subst (λ x. Has p (opening p) G (operated g x a b) boolean) (sym e)
      (sub p (opening p) (tr k A g p U) (has_operated k A g p U G set T V result ws a b i h j) w)

  abbrev AllTrue : Env → List Term → Type 0
  AllTrue G ts = AllByRecursion (λ (t : Term). Has p (opening p) G t boolean) ts

  comparisons_have : (G : Env) (cs : List Chosen) (Ts : List Ty) (ns : List ℕ) → Compared cs Ts
      → Bound G ns Ts → AllTrue G (comparisons g cs ns)
  comparisons_have G [] Ts ns h b = tt
  comparisons_have G (c ∷ cs) [] ns h b = absurd h
  comparisons_have G (c ∷ cs) (T ∷ []) ns h b = absurd h
  comparisons_have G (c ∷ cs) (T ∷ V ∷ Ts) [] h b = absurd b
  comparisons_have G (c ∷ cs) (T ∷ V ∷ Ts) (m ∷ []) h b = absurd b.1
  comparisons_have G (c ∷ cs) (T ∷ V ∷ Ts) (m ∷ n ∷ ns) h b = (
    compare_has G c T V (Variable m) (Variable n) h.0 (has-Variable p (opening p) m b.0)
        (has-Variable p (opening p) n b.1.0),
    comparisons_have G cs (V ∷ Ts) (n ∷ ns) h.1 b.1,
  )

  abbrev and_set : SetId
  and_set = operator_set k.facts an_op.And 2

  joins_two : Called p and_set (boolean ∷ boolean ∷ []) boolean
  joins_two = U.joins a_reduction.Conjunction boolean refl

  joined_has : (G : Env) (t : Term) (ts : List Term) → Has p (opening p) G t boolean → AllTrue G ts
      → Has p (opening p) G (joined and_set (t ∷ ts)) boolean
  joined_has G t [] h i = h
  joined_has G t (u ∷ ts) h i =
      has-Operator p (opening p) and_set (t ∷ joined and_set (u ∷ ts) ∷ []) (boolean ∷ boolean ∷ [])
      (two_parts p (opening p) h (joined_has G u ts i.0 i.1)) joins_two

  all_joined : (G : Env) (c : Chosen) (cs : List Chosen) (Ts : List Ty) (ns : List ℕ)
      → Compared (c ∷ cs) Ts → Bound G ns Ts
      → Has p (opening p) G (joined and_set (comparisons g (c ∷ cs) ns)) boolean
  all_joined G c cs [] ns h b = absurd h
  all_joined G c cs (T ∷ []) ns h b = absurd h
  all_joined G c cs (T ∷ V ∷ Ts) [] h b = absurd b
  all_joined G c cs (T ∷ V ∷ Ts) (m ∷ []) h b = absurd b.1
  all_joined G c cs (T ∷ V ∷ Ts) (m ∷ n ∷ ns) h b =
      let i = comparisons_have G (c ∷ cs) (T ∷ V ∷ Ts) (m ∷ n ∷ ns) h b
      in joined_has G (operated g c (Variable m) (Variable n)) (comparisons g cs (n ∷ ns)) i.0
      i.1

  -- ---- a local for each side

  bound_more : {bs : List Binding} {s : Scope} {m : ℕ} {G : Env} (n : ℕ) (T : Ty) (ns : List ℕ)
      (Ts : List Ty) → Agrees k bs s m G → m ≤ n → Bound G ns Ts
      → Bound (bind n (fixed T) G) (ns ++ n ∷ []) (Ts ++ T ∷ [])
  bound_more {G = G} n T [] [] a l b = (bind_at n (fixed T) G n refl, tt)
  bound_more n T [] (X ∷ Ts) a l b = absurd b
  bound_more n T (x ∷ ns) [] a l b = absurd b
  bound_more n T (x ∷ ns) (X ∷ Ts) a l b =
      (kept k n x (fixed T) (fixed X) a l b.0, bound_more n T ns Ts a l b.1)

  abbrev PartsGood : List Binding → List Part → Type 0
  PartsGood bs ps = AllByRecursion (λ (q : Part). Good k p bs q.maker q.ty) ps

  got_sides : {bs : List Binding} (c : Chosen) (cs : List Chosen) (ps : List Part) (ns : List ℕ)
      (Ts : List Ty) → PartsGood bs ps → Compared (c ∷ cs) (Ts ++ map part_type ps)
      → (s : Scope) (d : Counter) (G : Env) → Agrees k bs s d.variable G → Bound G ns Ts
      → Got p d.variable G (sides g and_set (c ∷ cs) ps ns s d) boolean
  got_sides c cs [] ns Ts h w s d G a b =
      record {
        has = all_joined G c cs Ts ns (subst (Compared (c ∷ cs)) (append-nil Ts) w) b;
        later = omega arith;
      }
  got_sides c cs (q ∷ ps) ns Ts h w s d G a b =
      got_letting k p q.ty q.maker (λ n. sides g and_set (c ∷ cs) ps (ns ++ n ∷ [])) h.0 s d G a
      (λ n e l f. got_sides c cs ps (ns ++ n ∷ []) (Ts ++ q.ty ∷ []) h.1
      (subst (Compared (c ∷ cs)) (sym (append_assoc Ts (q.ty ∷ []) (map part_type ps))) w) s
      e (bind n (fixed q.ty) G) f (bound_more n q.ty ns Ts a l b))

  each_part : (bs : List Binding) (ps : List Part) → PartsGood bs ps
      → EachGood k p bs (map maker_of ps) (map part_type ps)
  each_part bs [] h = tt
  each_part bs (q ∷ ps) h = (h.0, each_part bs ps h.1)

  pub good_chain : {bs : List Binding} (c : Chosen) (cs : List Chosen) (ps : List Part)
      → PartsGood bs ps → Compared (c ∷ cs) (map part_type ps)
      → Good k p bs (chain g and_set (c ∷ cs) ps) boolean
  good_chain c (e ∷ cs) ps h w = λ s d G a. got_sides c (e ∷ cs) ps [] [] h w s d G a tt
  good_chain {bs} c [] ps h w = go (map part_type ps) w (each_part bs ps h)
    where
      go : (Ts : List Ty) → Compared (c ∷ []) Ts → EachGood k p bs (map maker_of ps) Ts
          → Good k p bs (chain g and_set (c ∷ []) ps) boolean
      go [] w i = absurd w
      go (T ∷ []) w i = absurd w
      go (T ∷ V ∷ X ∷ Ts) w i = absurd w.1
      go (T ∷ V ∷ []) ((set, result, ws, e, f, b), w) i =
          subst (λ x. Good k p bs (chain g and_set (x ∷ []) ps) boolean) (sym e)
          (good_many k p (operation g (chosen set ws)) (map maker_of ps) (T ∷ V ∷ [])
          (λ G ts j. sub p (opening p) (tr k A g p U)
          (has_operation k A g p U G set (T ∷ V ∷ []) result ws ts f j) b) i)

  -- ---- by the rules

  pub compared : {ops : List Op} {ts : List TypedForm} {cs : List Chosen}
      → rule.Compares k (Calls k) ops ts cs → AreTypes k (types_of ts) → Compared cs (types_of ts)
  compared {ts = us} (rule.no_more a e1 e2 e3) t =
      subst (λ cs. Compared cs (types_of us)) (sym e3) (subst (λ
      (ts : List TypedForm). Compared [] (types_of ts)) (sym e2) tt)
  compared {cs = cs} (rule.more op others a b us result ws ds e1 e2 c w rest e3) t =
      let u = subst (λ (ts : List TypedForm). AreTypes k (types_of ts)) e2 t in
      let set = operator_set k.facts op 2 in
      subst (λ (ts : List TypedForm). Compared cs (types_of ts)) (sym e2)
      (subst (λ xs. Compared xs (types_of (a ∷ b ∷ us))) (sym e3) (
        (
          set,
          result,
          ws,
          refl,
          call_is k A g p U set (type_of a ∷ type_of b ∷ []) result ws (u.0, (u.1.0, tt)) c,
          told k A g p U result boolean (call-type k A set _ result ws c) w,
        ),
        compared rest u.1,
      ))
