-- The chapter "Typing": what is known of a component when it is typed, and how far the code has
-- come.
use Rattle.std.specs.Prelude.{◌≡◌, List, None, Err}
use Rattle.fort_base.specs.declared.refusal.CheckFault.{CheckFault}
use Rattle.fort_base.specs.declared.refusal.CheckFault.TheVariants as a_fault
use Rattle.fort_form.specs.declared.component.Forms.{Forms}
use Rattle.fort_hier.specs.declared.accepted.Hierarchy.{Hierarchy}
use Rattle.fort_types_sets.specs.declared.member.Members.{Members}
use Rattle.fort_typing_known.specs.Known.{Facts}
use Rattle.fort_typing_known.specs.Spellings.{Spelling}
use Rattle.fort_typing_meaning.specs.Whole.{Whole, typed_whole}
use Rattle.fort_typing.specs.declared.progress.Progress.{Progress}

-- what is looked up of a component with these names, this hierarchy and these members
abbrev pub facts_of : List Spelling → Hierarchy → Members → Facts
facts_of names hierarchy members =
    record {
      table = hierarchy.table;
      types = hierarchy.names;
      names = names;
      members = members;
      owner = None;
    }

-- what the code's `Progress` says
abbrev pub whole_of : Progress → Whole
whole_of p = record { initials = p.initials; bodies = p.bodies; found = p.found }

-- The component is refused by its first broken rule. Memory can be wanting in each.
abbrev pub IsFault : Facts → Forms → CheckFault → Type 0
IsFault k forms (a_fault.Refused rule place) =
    typed_whole k forms ≡ Err (record { rule = rule; place = place })
IsFault k forms a_fault.Memory = Unit {0}
