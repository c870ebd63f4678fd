-- `if`, `case`, `typecase` and `try`.
use Rattle.std.proofs.Common.{◌≡◌, ◌≤◌, ℕ, ◌+◌, Bool, true, List, [], ◌∷◌, map, Option, Some, None, refl, sym, subst, arith}
use Rattle.std.specs.List.{AllByRecursion}
use Rattle.fort_base.specs.declared.ids.NameId.{NameId}
use Rattle.fort_base.specs.declared.ids.SetId.{SetId}
use Rattle.fort_base.specs.declared.refusal.Place.{Place}
use Rattle.fort_base.specs.declared.ty.Ty.{Ty}
use Rattle.fort_scope.specs.declared.binding.Binding.{Binding}
use Rattle.fort_form_typed.specs.declared.typed_form.Chosen.{Chosen}
use Rattle.fort_core.specs.declared.program.Program.{Program}
use Rattle.fort_core.specs.declared.term.Term.{Term, Variable, If}
use Rattle.fort_machine.specs.Parts.{in_clauses}
use Rattle.fort_typing_known.specs.Known.{Knows}
use Rattle.fort_sound_typed.specs.Envs.{Env, fixed, bind}
use Rattle.fort_sound_typed.specs.Typing.{Below, truth_type, clauses as case_parts, Has, HasParts, parts0, parts1}
use Rattle.fort_sound_typed.specs.Sound.{opening}
use Rattle.fort_sound_typed.proofs.Rules.{never, sub}
use Rattle.fort_typing_rules.specs.Typing as rule
use Rattle.fort_typing_rules.specs.Elements.{chosen}
use Rattle.fort_typing_law_rules.specs.Deciding.{IsAccepted}
use Rattle.fort_elab_meaning.specs.declared.counter.Counter.{Counter}
use Rattle.fort_elab_meaning.specs.Making.{Scope, Maker, Several, with_name, after, one, in_turn}
use Rattle.fort_elab_meaning.specs.Parts.{Given, Part, maker_of}
use Rattle.fort_elab_meaning.specs.Values.{no_match}
use Rattle.fort_elab_meaning.specs.Calls.{operated}
use Rattle.fort_elab_meaning.specs.Choices.{or_else, branches, clauses, cases, with_types, typecase, catching, trying}
use Rattle.fort_sound_forms.specs.Forms.{Agrees}
use Rattle.fort_sound_forms.specs.Suits.{Suits}
use Rattle.fort_sound_forms.proofs.Names.{later, fresh_next, clause_next}
use Rattle.fort_sound_forms.proofs.Built.{has-Variable, has-If, has-Typecase, has-Try}
use Rattle.fort_sound_forms.proofs.Makers.{Got, Good, good_still, good_three, got_one, got_letting}
use Rattle.fort_sound_forms.proofs.Facts.{tr, IsCall, has_operated}
use Rattle.fort_sound_forms.proofs.Values.{has_no_match}
use Rattle.fort_sound_typed.proofs.Bind.{bind_at}

module _ (k : Knows) (p : Program) where
  abbrev pub AllGood : List Binding → Ty → List Part → Type 0
  AllGood bs T ps = AllByRecursion (λ (q : Part). Good k p bs q.maker T) ps

  abbrev pub MayBeGood : List Binding → Ty → Option Part → Type 0
  MayBeGood bs T None = Unit {0}
  MayBeGood bs T (Some q) = Good k p bs q.maker T

  pub good_or_else : {bs : List Binding} {T : Ty} (other : Option Part) (t : Term)
      → MayBeGood bs T other → ((G : Env) → Has p (opening p) G t T)
      → Good k p bs (or_else other t) T
  good_or_else None t h w = good_still k p t w
  good_or_else (Some q) t h w = h

  pub good_branches : {bs : List Binding} {T : Ty} (cs vs : List Part) (other : Maker)
      → AllGood bs (truth_type p) cs → AllGood bs T vs → Good k p bs other T
      → Good k p bs (branches cs vs other) T
  good_branches [] vs other h i j = j
  good_branches (c ∷ cs) [] other h i j = j
  good_branches (c ∷ cs) (v ∷ vs) other h i j =
      good_three k p If c.maker v.maker (branches cs vs other)
      (λ G t u w x y z. has-If p (opening p) x y z) h.0 i.0 (good_branches cs vs other h.1 i.1 j)

  -- ---- clauses with types

  abbrev pub CasesGood : List Binding → Option (Place × NameId) → Ty → List Part → List Ty → Type 0
  CasesGood bs name T [] [] = Unit {0}
  CasesGood bs name T (v ∷ vs) (ty ∷ tys) = Good k p (rule.with_clause bs name ty) v.maker T
      × CasesGood bs name T vs tys
  CasesGood bs name T _ _ = ⊥

  pub record GotCases (next n : ℕ) (G : Env) (m : Several) (tys : List Ty) (T : Ty) : Type 0 where
    pub parts : HasParts p (opening p) G (in_clauses (with_types m.terms tys))
        (case_parts n (with_types m.terms tys) T)
    pub later : next ≤ m.counter.variable

  pub got_cases : {bs : List Binding} {T : Ty} (name : Option (Place × NameId)) (vs : List Part)
      (tys : List Ty) → CasesGood bs name T vs tys → rule.is_fresh k bs name ≡ true
      → (s : Scope) (c d : Counter) (n : ℕ) (G : Env) → Agrees k bs s c.variable G → c.variable ≤ n
      → n + 1 ≤ d.variable
      → GotCases d.variable n G (in_turn (map maker_of vs) (catching (rule.bound_name name) n s) d)
      tys T
  got_cases name [] [] h f s c d n G a l e = record { parts = parts0; later = omega arith }
  got_cases name [] (ty ∷ tys) h f s c d n G a l e = absurd h
  got_cases name (v ∷ vs) [] h f s c d n G a l e = absurd h
  got_cases name (v ∷ vs) (ty ∷ tys) h f s c d n G a l e =
      let z = catching (rule.bound_name name) n s in
      let x = h.0 z d (bind n (fixed ty) G) (later k d.variable (clause_next k name ty n a l f) e)
      in let m = v.maker z d in let u = x.later in
      let y = got_cases name vs tys h.1 f s c m.counter n G a l (omega arith) in let w = y.later in
      record { parts = parts1 (fresh_next k n (fixed ty) a l) x.has y.parts; later = omega arith }

module _ (k : Knows) (A : IsAccepted k) (g : Given) (p : Program) (U : Suits k g p) where
  -- ---- `case`

  -- a comparison of a subject of this type
  abbrev pub Tests : List Binding → Ty → Chosen → Part → Type 0
  Tests bs W c t = (set : SetId) × (X : Ty) × (result : Ty) × (ws : List Bool) × (c ≡ chosen set ws)
      × IsCall k A g p U set (W ∷ X ∷ []) result ws × Below p result (truth_type p)
      × Good k p bs t.maker X

  abbrev pub ClausesGood : List Binding → Ty → Ty → List Chosen → List Part → List Part → Type 0
  ClausesGood bs W T (c ∷ cs) (t ∷ ts) (v ∷ vs) = Tests bs W c t × Good k p bs v.maker T
      × ClausesGood bs W T cs ts vs
  ClausesGood bs W T _ _ _ = Unit {0}

  test_has : (G : Env) (W X result : Ty) (set : SetId) (ws : List Bool) (c : Chosen) (n : ℕ)
      (t : Term) → c ≡ chosen set ws → IsCall k A g p U set (W ∷ X ∷ []) result ws
      → Below p result (truth_type p) → G n ≡ Some (fixed W)
      → Has p (opening p) G t X → Has p (opening p) G (operated g c (Variable n) t) (truth_type p)
  test_has G W X result set ws c n t e i b f h =
      subst (λ x. Has p (opening p) G (operated g x (Variable n) t) (truth_type p)) (sym e)
      (sub p (opening p) (tr k A g p U)
      (has_operated k A g p U G set W X result ws (Variable n) t i
      (has-Variable p (opening p) n f) h) b)

  got_clauses : {bs : List Binding} {W T : Ty} (cs : List Chosen) (ts vs : List Part)
      (other : Maker) (n : ℕ) → ClausesGood bs W T cs ts vs → Good k p bs other T
      → (s : Scope) (c : Counter) (G : Env) → Agrees k bs s c.variable G → G n ≡ Some (fixed W)
      → Got p c.variable G (clauses g cs ts vs other n s c) T
  got_clauses [] ts vs other n h j s c G a f = j s c G a
  got_clauses (x ∷ cs) [] vs other n h j s c G a f = j s c G a
  got_clauses (x ∷ cs) (t ∷ ts) [] other n h j s c G a f = j s c G a
  got_clauses {W =
      W} (x ∷ cs) (t ∷ ts) (v ∷ vs) other n ((set, X, result, ws, e, i, b, q), y, r) j s c G a
      f =
      let m = one (operated g x (Variable n)) t.maker s c in
      let u = got_one k p (operated g x (Variable n)) t.maker q s c G a
      (λ z w. test_has G W X result set ws x n z e i b f w) in let l = u.later in
      let o = v.maker s m.counter in
      let w = y s m.counter G (later k m.counter.variable a l) in let d = w.later in
      let z = got_clauses cs ts vs other n r j s o.counter G
      (later k o.counter.variable a (omega arith)) f in let z1 = z.later in
      record { has = has-If p (opening p) u.has w.has z.has; later = omega arith }

  pub good_cases : {bs : List Binding} {T : Ty} (subject : Part) (cs : List Chosen)
      (ts vs : List Part) (other : Option Part) → Good k p bs subject.maker subject.ty
      → ClausesGood bs subject.ty T cs ts vs → MayBeGood k p bs T other
      → Good k p bs (cases g subject cs ts vs other) T
  good_cases {T = T} subject cs ts vs other h i o s c G a =
      got_letting k p subject.ty subject.maker (clauses g cs ts vs (or_else other (no_match g))) h s
      c G a (λ n d l b. got_clauses cs ts vs (or_else other (no_match g)) n i
      (good_or_else k p other (no_match g) o (λ D. has_no_match k g p U D T)) s d
      (bind n (fixed subject.ty) G) b (bind_at n (fixed subject.ty) G n refl))

  -- ---- `typecase`, `try`

  pub good_typecase : {bs : List Binding} {T : Ty} (place : Place) (name : NameId) (subject : Part)
      (tys : List Ty) (vs : List Part) (other : Option Part)
      → rule.is_fresh k bs (Some (place, name)) ≡ true
      → Good k p bs subject.maker subject.ty → CasesGood k p bs (Some (place, name)) T vs tys
      → MayBeGood k p (rule.with_clause bs (Some (place, name)) subject.ty) T other
      → Good k p bs (typecase g name subject tys vs other) T
  good_typecase {T = T} place name subject tys vs other f h i o s c G a =
      let m = subject.maker s c in let n = m.counter.variable in let z = with_name name n s in
      let x = h s c G a in let l = x.later in
      let d = after 1 m.counter in
      let ms = in_turn (map maker_of vs) z d in
      let y = got_cases k p (Some (place, name)) vs tys i f s c d n G a l (omega arith)
      in let e = y.later in
      let r = or_else other (no_match g) z ms.counter in
      let D = bind n (fixed subject.ty) G in
      let w = good_or_else k p other (no_match g) o (λ D. has_no_match k g p U D T) z ms.counter D
      (later k ms.counter.variable (clause_next k (Some (place, name)) subject.ty n a l f)
      (omega arith)) in let w1 = w.later in
      record {
        has = has-Typecase p (opening p) n (with_types ms.terms tys)
            (fresh_next k n (fixed subject.ty) a l) x.has w.has y.parts;
        later = omega arith;
      }

  pub good_trying : {bs : List Binding} {T : Ty} (L : Ty) (body : Part)
      (name : Option (Place × NameId)) (tys : List Ty) (vs : List Part) (last : Option Part)
      → rule.is_fresh k bs name ≡ true
      → Good k p bs body.maker T → CasesGood k p bs name T vs tys → MayBeGood k p bs L last
      → Good k p bs (trying body (rule.bound_name name) tys vs last) T
  good_trying {T = T} L body name tys vs None f h i o s c G a =
      let m = body.maker s c in let n = m.counter.variable
      in let z = catching (rule.bound_name name) n s in
      let x = h s c G a in let l = x.later in
      let d = after 1 m.counter in
      let ms = in_turn (map maker_of vs) z d in
      let y = got_cases k p name vs tys i f s c d n G a l (omega arith) in let e = y.later in
      record {
        has = has-Try p (opening p) L n (with_types ms.terms tys) None x.has y.parts;
        later = omega arith;
      }
  good_trying {T = T} L body name tys vs (Some q) f h i o s c G a =
      let m = body.maker s c in let n = m.counter.variable
      in let z = catching (rule.bound_name name) n s in
      let x = h s c G a in let l = x.later in
      let d = after 1 m.counter in
      let ms = in_turn (map maker_of vs) z d in
      let y = got_cases k p name vs tys i f s c d n G a l (omega arith) in let e = y.later in
      let r = q.maker s ms.counter in
      let w = o s ms.counter G (later k ms.counter.variable a (omega arith)) in let w1 = w.later in
      record {
        has =
            has-Try p (opening p) L n (with_types ms.terms tys) (Some r.term) x.has
            (parts1 (never p (opening p) G) w.has y.parts);
        later = omega arith;
      }
