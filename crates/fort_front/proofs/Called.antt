-- The law of the one most specific declaration, of the sets of a component that keeps the rules.
use Rattle.fort_tree_type_names.specs.TypeNames.{type_names}
use Rattle.fort_hier.specs.Hierarchies.{declares}
use Rattle.fort_hier.proofs.AcceptedLaws.{accepted_sound}
use Rattle.fort_types_sets.proofs.Chosen.{exactly_one, never_abstract}
use Rattle.fort_member.proofs.WellMadeLaws.{sets_well_made}
use Rattle.fort_front.specs.Calls.{ExactlyOne, NeverAbstract}

pub exactly_one_called : ExactlyOne
exactly_one_called c f n s e types solid i d a b =
    exactly_one (declares c) f.types.table
    (accepted_sound c (type_names c) f.types f.typed) f.typed.rows s
    (sets_well_made c f.types f.typed f.members f.belong n s e) (f.ruled n s e) types
    solid i d a b

pub never_abstract_called : NeverAbstract
never_abstract_called c f n s e types solid values k best =
    never_abstract (declares c) f.types.table
    (accepted_sound c (type_names c) f.types f.typed) f.typed.rows s
    (sets_well_made c f.types f.typed f.members f.belong n s e) (f.ruled n s e) types
    solid values k best
