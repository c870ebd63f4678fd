use Rattle.std.proofs.Common.{◌<◌, ◌++◌, ◌∷◌, [], List, ℕ, Bool, true, sym, refl, ◌∙◌, arith, length, ap}
use Rattle.std.specs.List.{slice_set}
use Rattle.std.proofs.lemmas.Option.{slice_get_read, slice_get_within}
use Rattle.fort_types.specs.declared.hierarchy.DeclaredType.{DeclaredType}
use Rattle.fort_types.proofs.Upwards.{found_first, found_more, found_all, next_read, index_inside}
use Rattle.fort_types.proofs.supertypes.row_of.Goals as goal

pub upwards-init : goal.upwards-init
upwards-init c = record {
  found = found_first _ _ _ _ c.requires (c.set.ensures ∙ ap (λ
      (z : List Bool). slice_set z c.args.a true) c.in_ok-row.ensures)
      (c.in_ok-push.ensures.ok ∙ ap (λ (z : List ℕ). z ++ c.args.a ∷ []) c.new-found.ensures);
  within = omega arith;
}

pub upwards-preserved : goal.upwards-preserved
upwards-preserved c =
    let l : c.upwards.done < length c.upwards.found = omega arith in
    let e = next_read c.upwards.found c.as_slice.result.now c.upwards.done c.as_slice.ensures l in
    let i = index_inside _ _ _ _ _ _ c.upwards.invariant.found c.as_slice.ensures l in
    record {
      found = found_more _ _ _ _ c.index-types-at.result c.as_slice-in-upwards.result.now _ _ _ _
          c.upwards.invariant.found e (slice_get_read _ _ _ _ refl i c.index-types-at.is)
          (c.as_slice-in-upwards.ensures ∙ ap (λ
          (d : DeclaredType). d.extends) (sym c.index-types-at.is))
          c.in_ok-reach_each.ensures;
      within = let w : c.upwards.done < length c.reach_each.new.found =
          slice_get_within _ _ _ (c.in_ok-reach_each.ensures.front c.upwards.done _ e)
          in omega arith;
    }

pub returns : goal.returns
returns c = found_all _ _ _ _ _ c.upwards.invariant.found (omega arith)
