use Rattle.std.proofs.Common.{◌≡◌, Bool, true, false, List, map, Option, Some, None, ap, sym, ◌∙◌, subst, MatchOption, Bor}
use Rattle.std.specs.Prelude.{slice_get}
use Rattle.std.specs.List.{list_all, find}
use Rattle.std.specs.Option.{option_copied}
use Rattle.fort_base.specs.declared.ids.DeclId.{DeclId}
use Rattle.fort_base.specs.declared.ids.SetId.{SetId}
use Rattle.fort_core.specs.declared.program.CoreDecl.{CoreDecl}
use Rattle.fort_core.specs.declared.program.CoreSet.{CoreSet}
use Rattle.fort_core.specs.declared.program.Program.{Program}
use Rattle.fort_core.specs.declared.value.Value.{Value}
use Rattle.fort_machine.specs.Types.{type_of}
use Rattle.fort_machine.specs.Calls.{Dispatches}
use Rattle.fort_disp_plain.specs.Asked.{wins, is_other}
use Rattle.fort_disp_plain.proofs.Specific.{no_winner, sole_dispatches, rival_dispatches}
use Rattle.fort_disp_plain.proofs.finding.dispatched.Goals as goal

-- the members as the code has them are those of the set
module _ (p : Program) (set : SetId) (vs : List Value) (m : CoreSet) (ds : List DeclId)
    (q : Some m ≡ slice_get p.sets set.0) (e : ds ≡ m.decls) where
  none_wins : None ≡ find (wins p ds (map (type_of p) vs)) ds → (number : DeclId) (decl : CoreDecl)
      → Dispatches p set vs number decl → ⊥
  none_wins f =
      no_winner p set vs m (sym q) (ap (λ xs. find (wins p xs (map (type_of p) vs)) xs) (sym e)
      ∙ sym f)

  found_in : (d : DeclId) → Some d ≡ find (wins p ds (map (type_of p) vs)) ds
      → find (wins p m.decls (map (type_of p) vs)) m.decls ≡ Some d
  found_in d f = ap (λ xs. find (wins p xs (map (type_of p) vs)) xs) (sym e) ∙ sym f

  rivals : (d : DeclId) (b : Bool) → b ≡ list_all (is_other p ds (map (type_of p) vs) d) ds
      → list_all (is_other p m.decls (map (type_of p) vs) d) m.decls ≡ b
  rivals d b f = ap (λ xs. list_all (is_other p xs (map (type_of p) vs) d) xs) (sym e) ∙ sym f

  one_wins : (d : DeclId) → Some d ≡ find (wins p ds (map (type_of p) vs)) ds
      → true ≡ list_all (is_other p ds (map (type_of p) vs) d) ds → (o : Option (Bor CoreDecl))
      → option_copied o ≡ slice_get p.decls d.0
      → MatchOption o ((number : DeclId) → (decl : CoreDecl) → Dispatches p set vs number decl
      → ⊥) (λ decl. (number : DeclId) × Dispatches p set vs number decl.now)
  one_wins d f a None g =
      let w = sole_dispatches p set vs m (sym q) d (found_in d f) (rivals d true a) in
      let z : None ≡ Some w.0 = g ∙ w.1.most_specific.applicable.is_decl in absurd cc
  one_wins d f a (Some r) g =
      let w = sole_dispatches p set vs m (sym q) d (found_in d f) (rivals d true a) in
      let z : Some r.now ≡ Some w.0 = g ∙ w.1.most_specific.applicable.is_decl in
      let s : w.0 ≡ r.now = cc in (d, subst (Dispatches p set vs d) s w.1)

  some_rival : (d : DeclId) → Some d ≡ find (wins p ds (map (type_of p) vs)) ds
      → false ≡ list_all (is_other p ds (map (type_of p) vs) d) ds
      → (number : DeclId) (decl : CoreDecl) → Dispatches p set vs number decl → ⊥
  some_rival d f a = rival_dispatches p set vs m (sym q) d (found_in d f) (rivals d false a)

pub returns-in-None-winner : goal.returns-in-None-winner
returns-in-None-winner c =
    none_wins c.args.program.now c.args.set c.args.values.now c.in-Some.members.now
    c.as_slice-members.result.now c.in-Some.ensures.value c.as_slice-members.ensures
    c.in-None-winner.ensures

pub returns-then-is_sole : goal.returns-then-is_sole
returns-then-is_sole c =
    one_wins c.args.program.now c.args.set c.args.values.now c.in-Some.members.now
    c.as_slice-members.result.now c.in-Some.ensures.value c.as_slice-members.ensures
    c.in-Some-winner.number c.in-Some-winner.ensures c.if-is_sole.ensures c.get-then-is_sole.result
    c.get-then-is_sole.ensures.value

pub returns-else-is_sole : goal.returns-else-is_sole
returns-else-is_sole c =
    some_rival c.args.program.now c.args.set c.args.values.now c.in-Some.members.now
    c.as_slice-members.result.now c.in-Some.ensures.value c.as_slice-members.ensures
    c.in-Some-winner.number c.in-Some-winner.ensures c.if-is_sole.ensures
