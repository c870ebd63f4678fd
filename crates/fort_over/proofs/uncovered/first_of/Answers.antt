use Rattle.std.proofs.Common.{◌≡◌, rules}
use Rattle.fort_types_sets.specs.declared.member.MemberKind.TheVariants as a_kind
use Rattle.fort_over.proofs.PlaceLaws.{declaration_owned}
use Rattle.fort_over.proofs.uncovered.first_of.Goals as goal

pub returns-in-Some : goal.returns-in-Some
returns-in-Some c =
    let is : c.args.member.now.kind ≡ a_kind.Abstract = search rules
    in declaration_owned _ _ _ _ _ _ _ is c.in-Some.is c.first_below.ensures
