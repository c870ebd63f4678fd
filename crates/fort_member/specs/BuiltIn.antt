-- The chapter "Members", built-in declarations: what they are as members. The code makes one for
-- each row of their table.
use Rattle.std.specs.Prelude.{false, List, None, map}
use Rattle.fort_types_builtin.specs.declared.table.BuiltInDeclaration.{BuiltInDeclaration}
use Rattle.fort_types_builtin.specs.Declarations.{declarations}
use Rattle.fort_types_sets.specs.declared.member.Member.{Member}
use Rattle.fort_types_sets.specs.declared.member.MemberKind.TheVariants as a_kind
use Rattle.fort_member.specs.declared.entries.Entry.{Entry}

-- A built-in declaration as a member: it has no place and no owner.
abbrev pub built_in_member : BuiltInDeclaration → Member
built_in_member d =
    record {
      place = None;
      parameters = d.parameters;
      result = d.result;
      owner = None;
      kind = a_kind.BuiltIn;
    }

-- It is a function or an operator, and no dotted method.
abbrev pub built_in_entry : BuiltInDeclaration → Entry
built_in_entry d = record { name = d.name; dotted = false; member = built_in_member d }

-- The built-in declarations, in their order.
abbrev pub built_in_entries : List Entry
built_in_entries = map built_in_entry declarations
