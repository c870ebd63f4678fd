-- The one most specific member of an overload set is that of the program's set.
use Rattle.std.proofs.Common.{◌≡◌, ℕ, zero, suc, ◌<◌, ◌==◌, true, IsTrue, List, [], ◌∷◌, length, Some, ◌↔◌, refl, ap, sym, ◌∙◌, subst, arith}
use Rattle.std.specs.Prelude.{slice_get, slice_index_or, Contains}
use Rattle.std.proofs.lemmas.Option.{slice_get_within}
use Rattle.fort_base.specs.declared.ids.DeclId.{DeclId}
use Rattle.fort_base.specs.declared.ids.SetId.{SetId}
use Rattle.fort_base.specs.declared.ty.Ty.{Ty}
use Rattle.fort_core.specs.declared.program.CoreDecl.{CoreDecl}
use Rattle.fort_core.specs.declared.program.CoreSet.{CoreSet}
use Rattle.fort_core.specs.declared.program.Program.{Program}
use Rattle.fort_types.specs.Hierarchy.{DeclaredTypes, Sound}
use Rattle.fort_types.specs.Table.{HasRows}
use Rattle.fort_types.specs.Types.{Below, IsNumbered}
use Rattle.fort_types.specs.Relation.{relation}
use Rattle.fort_types.proofs.Orders.{itself}
use Rattle.fort_types_sets.specs.declared.member.Member.{Member}
use Rattle.fort_types_sets.specs.declared.member.MemberSet.{MemberSet}
use Rattle.fort_types_sets.specs.Applicable.{Along}
use Rattle.fort_types_sets.specs.Applicable as members
use Rattle.fort_types_sets.specs.Rules.{StandsAt, IsWellMade}
use Rattle.fort_types_sets.specs.Rules as rules
use Rattle.fort_types_sets.specs.Best as best
use Rattle.fort_types_sets.proofs.Chosen.{exactly_one, never_abstract}
use Rattle.fort_machine.specs.Types.{all_below}
use Rattle.fort_machine.specs.Calls.{IsApplicable, IsMoreSpecific, IsMostSpecific}
use Rattle.fort_sound_typed.specs.Overloads.{AreOfValues, OneApplies}
use Rattle.fort_sound_typed.proofs.Bind.{Tells, alike, apart, tells, self_same}
use Rattle.fort_sound_typed.proofs.Computed.{turns}
use Rattle.fort_sound_typed.proofs.OneSided.{lists, relation_from_one}
use Rattle.fort_sound_defined.specs.Sets.{ComesFrom, ValuesAreLeaves, SetsKeepRules}

-- places of a list
found : {A : Type 0} (xs : List A) (k : ℕ) (d : A) → k < length xs → slice_index_or xs k d ≡ d
    → slice_get xs k ≡ Some d
found [] k d l e = absurd (omega arith)
found (x ∷ xs) zero d l e = ap Some e
found (x ∷ xs) (suc k) d l e = found xs k d (omega arith) e

placed : {A : Type 0} (xs : List A) (k : ℕ) (d : A) → slice_get xs k ≡ Some d
    → slice_index_or xs k d ≡ d
placed [] k d e = absurd cc
placed (x ∷ xs) zero d e = let z : x ≡ d = cc in z
placed (x ∷ xs) (suc k) d e = placed xs k d e

contained : {A : Type 0} (xs : List A) (k : ℕ) (d : A) → slice_get xs k ≡ Some d → Contains xs d
contained xs k d e = (k, slice_get_within xs k d e, placed xs k d e)

module _ (h : DeclaredTypes) (p : Program) (sound : Sound h) (rows : HasRows h p.types)
    (leaves : ValuesAreLeaves h p) (set : SetId) (c : CoreSet)
    (is_set : slice_get p.sets set.0 ≡ Some c) (s : MemberSet) (made : IsWellMade h s)
    (keeps : rules.KeepsRules h s)
    (from : ComesFrom p c s) (ts : List Ty) (of_values : AreOfValues p ts) where
  -- below, of a type and a numbered one
  told : (x y : Ty) → IsNumbered (length h) y → IsTrue (relation p.types.below x true y)
      ↔ Below h x y
  told x y n =
      let w = (relation_from_one h p.types sound rows y x n).1
      in (
        λ t. w.0 (sym (turns p.types.below x y true) ∙ t),
        λ b. turns p.types.below x y true
            ∙ w.1 b,
      )

  all_told : (xs ys : List Ty)
      → ((k : ℕ) (y : Ty) → slice_get ys k ≡ Some y → IsNumbered (length h) y)
      → IsTrue (all_below p xs ys) ↔ Along (Below h) xs ys
  all_told xs ys n =
      lists (relation p.types.below) true (Below h) xs ys (λ k x y e f. told x y (n k y f))

  numbered : (i : ℕ) (m : Member) → StandsAt s i m → (k : ℕ) (y : Ty)
      → slice_get m.parameters k ≡ Some y → IsNumbered (length h) y
  numbered i m st k y e = made.parameters i k m y st e

  -- a member, and the declaration that it became
  pub record Both (d : DeclId) (decl : CoreDecl) : Type 0 where
    pub place : ℕ
    pub member : Member
    pub stands : StandsAt s place member
    pub is_placed : slice_get c.decls place ≡ Some d
    pub parameters : decl.parameters ≡ member.parameters

  both_at : (i : ℕ) (d : DeclId) (decl : CoreDecl) → slice_get c.decls i ≡ Some d
      → slice_get p.decls d.0 ≡ Some decl → Both d decl
  both_at i d decl e q =
      let m = from.makes i d e in
      let w = from.made i m.0 m.1 in
      let z : Some d ≡ Some w.0 = sym e ∙ w.1 in
      let y : d ≡ w.0 = cc in
      let x : Some decl ≡ Some w.2.decl =
      sym q ∙ ap (λ (n : DeclId). slice_get p.decls n.0) y ∙ w.2.is_decl in
      let v : decl ≡ w.2.decl = cc in
      record {
        place = i;
        member = m.0;
        stands = m.1;
        is_placed = e;
        parameters = ap (λ (k : CoreDecl). k.parameters) v ∙ w.2.parameters;
      }

  members_are : (us : List Ty) (d : DeclId) (decl : CoreDecl) → IsApplicable p set us d decl
      → Both d decl
  members_are us d decl a =
      let z : Some a.members ≡ Some c = sym a.is_set ∙ is_set in
      let y : a.members ≡ c = cc in
      let k = subst (λ (x : CoreSet). Contains x.decls d) y a.is_member in
      both_at k.0 d decl (found c.decls k.0 d k.1 k.2) a.is_decl

  applies_out : (d : DeclId) (decl : CoreDecl) → IsApplicable p set ts d decl → (b : Both d decl)
      → members.IsApplicable h b.member ts
  applies_out d decl a b =
      (all_told ts b.member.parameters (numbered b.place b.member b.stands)).0
      (subst (λ ps. IsTrue (all_below p ts ps)) b.parameters a.applies)

  applies_in : (d : DeclId) (decl : CoreDecl) → slice_get p.decls d.0 ≡ Some decl
      → (b : Both d decl) → members.IsApplicable h b.member ts → IsApplicable p set ts d decl
  applies_in d decl q b a = record {
    members = c;
    is_set = is_set;
    is_member = contained c.decls b.place d b.is_placed;
    is_decl = q;
    applies =
        subst (λ ps. IsTrue (all_below p ts ps)) (sym b.parameters)
        ((all_told ts b.member.parameters (numbered b.place b.member b.stands)).1 a);
  }

  more_in : (d e : DeclId) (x y : CoreDecl) (b : Both d x) (g : Both e y)
      → members.IsMoreSpecific h b.member g.member → IsMoreSpecific p x y
  more_in d e x y b g m =
      subst (λ ps. IsTrue (all_below p ps y.parameters)) (sym b.parameters)
      (subst (λ ps. IsTrue (all_below p b.member.parameters ps)) (sym g.parameters)
      ((all_told b.member.parameters g.member.parameters
      (numbered g.place g.member g.stands)).1 m))

  more_out : (d e : DeclId) (x y : CoreDecl) (b : Both d x) (g : Both e y) → IsMoreSpecific p x y
      → members.IsMoreSpecific h b.member g.member
  more_out d e x y b g m =
      (all_told b.member.parameters g.member.parameters (numbered g.place g.member g.stands)).0
      (subst (λ ps. IsTrue (all_below p b.member.parameters ps)) g.parameters
      (subst (λ ps. IsTrue (all_below p ps y.parameters)) b.parameters m))

  same_types : (xs ys : List Ty) → xs ≡ ys → Along (Below h) xs ys
  same_types xs ys e =
      subst (Along (Below h) xs) e (
        refl,
        λ k x y q r. let z : Some x ≡ Some y = sym q ∙ r
            in let w : x ≡ y = cc in subst (Below h x) w (itself h x),
      )

  -- the declaration of a member
  decl_of : (i : ℕ) (m : Member) → StandsAt s i m
      → (d : DeclId) × (decl : CoreDecl) × (slice_get p.decls d.0 ≡ Some decl) × (b : Both d decl)
      × (b.place ≡ i) × (b.member ≡ m)
  decl_of i m st =
      let w = from.made i m st in (
        w.0,
        w.2.decl,
        w.2.is_decl,
        record {
          place = i;
          member = m;
          stands = st;
          is_placed = w.1;
          parameters = w.2.parameters;
        },
        refl,
        refl,
      )

  -- what is most specific in the program is so among the members
  most_out : (d : DeclId) (decl : CoreDecl) → IsMostSpecific p set ts d decl → (b : Both d decl)
      → best.IsMostSpecific h s ts b.place
  most_out d decl m b =
      record {
        chosen = b.member;
        is = b.stands;
        applicable = applies_out d decl m.applicable b;
        least = λ j g st a. go j g st a (decl_of j g st);
      }
    where
      go : (j : ℕ) (g : Member) → StandsAt s j g → members.IsApplicable h g ts
          → (e : DeclId) × (x : CoreDecl) × (slice_get p.decls e.0 ≡ Some x) × (w : Both e x)
          × (w.place ≡ j) × (w.member ≡ g) → members.IsMoreSpecific h b.member g
      go j g st a (e, x, q, w, r, y) = by (tells e.0 d.0)
        where
          by : Tells e.0 d.0 → members.IsMoreSpecific h b.member g
          by (alike v k) =
              let z : Some decl ≡ Some x =
              sym m.applicable.is_decl ∙ ap (slice_get p.decls) (sym v) ∙ q in
              let u : decl ≡ x = cc in
              same_types b.member.parameters g.parameters (sym b.parameters ∙ ap (λ
              (n : CoreDecl). n.parameters) u ∙ w.parameters ∙ ap (λ
              (n : Member). n.parameters) y)
          by (apart k l) = subst (members.IsMoreSpecific h b.member) y
              (more_out d e decl x b w
              (m.over_others e x
              (applies_in e x q w (subst (λ
              (n : Member). members.IsApplicable h n ts) (sym y) a))
              (λ n. let z : (e.0 == d.0) ≡ true =
              ap (λ (i : DeclId). e.0 == i.0) (sym n) ∙ self_same e.0 in cc)))

  one_applies : (d : DeclId) (decl : CoreDecl) → IsApplicable p set ts d decl → OneApplies p set ts
  unfolding decl_of
  one_applies d decl a =
      let b = members_are ts d decl a in
      let one =
      exactly_one h p.types sound rows s made keeps ts of_values.solid b.place b.member b.stands
      (applies_out d decl a b) in
      let chosen = one.1 in
      let w = decl_of one.0 chosen.chosen chosen.is in
      let own =
      applies_in w.0 w.1 w.2 w.3 (subst (λ
      (n : Member). members.IsApplicable h n ts) (sym w.5) chosen.applicable) in
      record {
        number = w.0;
        decl = w.1;
        most_specific = record {
          applicable = own;
          over_others = λ e other x n.
              let g = members_are ts e other x in
              more_in w.0 e w.1 other w.3 g (subst (λ
              (m : Member). members.IsMoreSpecific h m g.member) (sym w.5)
              (chosen.least g.place g.member g.stands (applies_out e other x g)));
        };
        no_other = λ e other m.
            let g = members_are ts e other m.applicable in
            let q = one.2 g.place (most_out e other m g) in
            let z : Some e ≡ Some w.0 =
            sym g.is_placed ∙ ap (slice_get c.decls) (q ∙ sym w.4) ∙ w.3.is_placed in
            let y : e ≡ w.0 = cc in y;
        concrete = λ q.
            let i = from.made one.0 chosen.chosen chosen.is in
            never_abstract h p.types sound rows s made keeps ts of_values.solid
            (λ k x t e f. leaves t (of_values.declared k x t e f)) one.0 chosen
            (i.2.abstract_only q);
      }

pub sets_keep_rules : SetsKeepRules
sets_keep_rules h p sound rows leaves all set ts d decl of_values a =
    let s = all set a.members a.is_set in
    one_applies h p sound rows leaves set a.members a.is_set s.0 s.1 s.2 s.3 ts of_values d decl a
