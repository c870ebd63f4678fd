-- The steps of the forms that the worked runs have, in any program.
use Rattle.std.proofs.Common.{◌≡◌, ℕ, zero, suc, ◌==◌, ◌<◌, ◌^◌, Bool, true, false, List, [], ◌∷◌, map, Some, refl, ap, sym, ◌∙◌, subst, arith, rules}
use Rattle.std.specs.Prelude.{slice_get, IsTrue, Contains}
use Rattle.std.specs.List.{slice_index_or}
use Rattle.fort_base.specs.declared.ids.DeclId.{DeclId}
use Rattle.fort_base.specs.declared.ids.SetId.{SetId}
use Rattle.fort_base.specs.declared.ids.TypeId.{TypeId}
use Rattle.fort_base.specs.declared.ty.Ty.{Ty, out-Ty, fold-roll-Ty}
use Rattle.fort_base.specs.declared.ty.Ty.TheVariants.{Named, outs-Named, rolls-Named}
use Rattle.fort_base.specs.declared.ty.Ty.TheOpen.{Ty-F}
use Rattle.fort_core.specs.declared.form.Slot.TheVariants as slot
use Rattle.fort_core.specs.declared.program.CoreDecl.{CoreDecl}
use Rattle.fort_core.specs.declared.program.CoreSet.{CoreSet}
use Rattle.fort_core.specs.declared.program.Program.{Program}
use Rattle.fort_core.specs.declared.term.Term.{Term, Call, Operator, Mutable, Write, Then, If, Also}
use Rattle.fort_core.specs.declared.term.Term as term
use Rattle.fort_core.specs.declared.term.Term.TheVariants.{Read, outs-Call, outs-Operator, outs-Mutable, outs-Read, outs-Write, outs-Then, outs-If, outs-Also}
use Rattle.fort_core.specs.declared.value.Value.{Value, out-Value}
use Rattle.fort_types.specs.Relation.{Relation, named_below, below_at, relation}
use Rattle.fort_machine.specs.Types.{all_below, type_of}
use Rattle.fort_machine.specs.Cells.{untouched, made}
use Rattle.fort_machine.specs.Effects.{Effect, paid, reading, writing, making}
use Rattle.fort_machine.specs.Ends.{at_value, standing, has_stepped}
use Rattle.fort_machine.specs.Acts.{asks, sets, makes, calls, becomes, unit, by_standing, after_all, with_first, at_values, by_together}
use Rattle.fort_machine.specs.Forms.{act_at, act, choosing, writing_at}
use Rattle.fort_machine.specs.Substitution.{located}
use Rattle.fort_machine.specs.Calls.{IsApplicable, Dispatches}
use Rattle.fort_machine.specs.Steps.{by_itself, Local, steps}
use Rattle.fort_machine.specs.Runs.{location}
use Rattle.fort_machine.specs.Journals.{MakesWithinBounds}
use Rattle.fort_machine.specs.Worked.{set}
use Rattle.fort_machine.proofs.Standing.{standing-Value}

-- a set of one declaration has no other one
one_member : (d e : DeclId) (k : ℕ) → k < 1 → slice_index_or (d ∷ []) k e ≡ e → e ≡ d
one_member d e zero h q = sym q
one_member d e (suc k) h q = absurd (omega arith)

module _ (p : Program) where
  only_one : (n : ℕ) (d : DeclId) → slice_get p.sets n ≡ Some (record { decls = d ∷ [] })
      → (ts : List Ty) (e : DeclId) (other : CoreDecl) → IsApplicable p (set n) ts e other → e ≡ d
  only_one n d q ts e other a =
      let z : Some (record { decls = d ∷ [] }) ≡ Some a.members = sym q ∙ a.is_set in
      let w : a.members.decls ≡ d ∷ [] = ap (λ (m : CoreSet). m.decls) (sym (some_one _ _ z)) in
      let i = subst (λ ds. Contains ds e) w a.is_member in
      one_member d e i.0 i.1 i.2
    where
      some_one : (x y : CoreSet) → Some x ≡ Some y → x ≡ y
      some_one x y e = cc

  pub dispatches : (n : ℕ) (d : DeclId) (c : CoreDecl) (vs : List Value)
      → slice_get p.sets n ≡ Some (record { decls = d ∷ [] }) → slice_get p.decls d.0 ≡ Some c
      → IsTrue (all_below p (map (type_of p) vs) c.parameters) → Dispatches p (set n) vs d c
  dispatches n d c vs q r b = record {
    most_specific = record {
      applicable =
          record {
            members = record { decls = d ∷ [] };
            is_set = q;
            is_member = (0, omega arith, refl);
            is_decl = r;
            applies = b;
          };
      over_others = λ e other a ne. absurd (ne (only_one n d q _ e other a));
    };
    no_other = λ e other m. only_one n d q _ e other m.applicable;
  }

  -- calls of values
  pub calls_none : (s : SetId) → act p (Call s []) ≡ calls s []
  calls_none s = ap (act_at p) (outs-Call s [])

  pub calls_two : (s : SetId) (v w : Value)
      → act p (Operator s (term.Value v ∷ term.Value w ∷ [])) ≡ calls s (v ∷ w ∷ [])
  calls_two s v w = ap (act_at p) (outs-Operator s (term.Value v ∷ term.Value w ∷ []))
      ∙ ap (λ st. by_standing st (λ a. after_all (term.Value w ∷ []) (λ vs. calls s (a ∷ vs))))
      (standing-Value v)
      ∙ ap (λ st. by_standing st (λ b. calls s (v ∷ b ∷ []))) (standing-Value w)

  -- other forms
  pub makes_one : (inner : Bool) (loc x : ℕ) (ty : Ty) (v : Value) (b c : Term)
      → located x loc b ≡ c
      → Local p inner loc (Mutable x ty (term.Value v) b) c (making loc (v ∷ []) 1)
  makes_one inner loc x ty v b c e = steps (makes (v ∷ []) (λ l. located x l b) 1)
      (by_itself (ap (act_at p) (outs-Mutable x ty (term.Value v) b)
      ∙ ap (λ st. by_standing st (λ w. makes (w ∷ []) (λ l. located x l b) 1))
      (standing-Value v)))
      (sym e, refl)

  pub reads : (inner : Bool) (l : ℕ) (v : Value)
      → Local p inner 0 (Read (slot.Location (location l))) (term.Value v) (reading l v)
  reads inner l v =
      steps (asks l (λ w. term.Value w))
      (by_itself (ap (act_at p) (outs-Read (slot.Location (location l))))) (v, refl, refl, refl)

  pub writes : (inner : Bool) (l : ℕ) (v : Value)
      → Local p inner 0 (Write (slot.Location (location l)) (term.Value v)) (term.Value unit)
      (writing l v)
  writes inner l v = steps (sets l v)
      (by_itself (ap (act_at p) (outs-Write (slot.Location (location l)) (term.Value v))
      ∙ ap (λ st. by_standing st (writing_at (Some l))) (standing-Value v)))
      (refl, refl, refl)

  pub goes_on : (inner : Bool) (v : Value) (b : Term)
      → Local p inner 0 (Then (term.Value v) b) b (paid 1)
  goes_on inner v b =
      steps (becomes b)
      (by_itself (ap (act_at p) (outs-Then (term.Value v) b)
      ∙ ap (λ st. by_standing st (λ w. becomes b)) (standing-Value v))) (refl, refl, refl)

  pub chooses : (inner : Bool) (v : Value) (a b c : Term) → choosing (out-Value v) a b ≡ becomes c
      → Local p inner 0 (If (term.Value v) a b) c (paid 1)
  chooses inner v a b c e = steps (becomes c)
      (by_itself (ap (act_at p) (outs-If (term.Value v) a b)
      ∙ ap (λ st. by_standing st (λ w. choosing (out-Value w) a b)) (standing-Value v) ∙ e))
      (refl, refl, refl)

  pub ends_both : (inner : Bool) (a b : Term) (v w : Value) → standing a ≡ at_value v
      → standing b ≡ at_value w → Local p inner 0 (Also (a ∷ b ∷ [])) (term.Value unit) (paid 1)
  ends_both inner a b v w ea eb = steps (becomes (term.Value unit))
      (by_itself (ap (act_at p) (outs-Also (a ∷ b ∷ []))
      ∙ (λ i. by_together
      (with_first (ea i) (has_stepped a) (with_first (eb i) (has_stepped b) (at_values [])))
      (λ vs. becomes (term.Value unit)))))
      (refl, refl, refl)

-- declared types, by the rows
pub named_in_rows : (rows : List (List Bool)) (n m : TypeId)
    → relation rows (Named n) true (Named m) ≡ named_below rows true n.0 m.0
named_in_rows rows n m = ap (λ t. relation rows t true (Named m)) (sym (rolls-Named n))
    ∙ ap (λ (r : Relation). r true (Named m))
    (fold-roll-Ty Relation (λ layer up b. below_at rows layer up (out-Ty b)) (Ty-F.Named n))
    ∙ ap (below_at rows (Ty-F.Named n) true) (outs-Named m)

-- what makes the location 9 alone stays in bounds
pub nine_in_bounds : (d : Effect) → ((l : ℕ) → (9 == l) ≡ false → d.cells l ≡ untouched)
    → MakesWithinBounds d
nine_in_bounds d h l v e = go (9 == l) refl
  where
    go : (b : Bool) → (9 == l) ≡ b → l < 2 ^ 64
    go true q = let k : 9 ≡ l = search (rules, q) in subst (λ n. n < 2 ^ 64) k (omega arith)
    go false q = let z : untouched ≡ made v = sym (h l q) ∙ e in absurd cc
