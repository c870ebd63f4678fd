use Rattle.std.proofs.Common.{◌∙◌, ap, rules, arith}
use Rattle.fort_hier.specs.Numbers.{all_types}
use Rattle.fort_hier.proofs.NumberLaws.{all_long}
use Rattle.fort_types_sets.specs.Leaves.{leaves_of}
use Rattle.fort_member.proofs.checked.members_over.Goals as goal

pub returns : goal.returns
returns c = let e = all_long c.args.names.now c.args.heads.now in record {
  places = c.in_ok-places_of_types.ensures;
  objects =
      c.in_ok-leaves_in.ensures
      ∙ ap leaves_of (c.as_slice.ensures
      ∙ c.in_ok-types.ensures (all_types c.args.names.now c.args.heads.now)
      c.in_ok-numbers.ensures (omega arith));
  fields_are = search rules;
  sets = c.in_ok-sets_of_all.ensures (all_types c.args.names.now c.args.heads.now)
      c.in_ok-numbers.ensures (omega arith);
  variables =
      c.in_ok-variables_in.ensures (all_types c.args.names.now c.args.heads.now)
      c.in_ok-numbers.ensures (omega arith);
}
