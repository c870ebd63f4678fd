-- What typing gives of a component, beside its members, and its program. The chapter "Programs as
-- written" of docs/MACHINE.md.
use Rattle.std.specs.Prelude.{List, map}
use Rattle.fort_base.specs.declared.refusal.Place.{Place}
use Rattle.fort_lex_token.specs.declared.token.Token.{Token}
use Rattle.fort_lex_token.specs.declared.token.Tokens.{Tokens}
use Rattle.fort_tree.specs.declared.declarations.Component.{Component}
use Rattle.fort_tree.specs.declared.grouped.Groups.{Groups}
use Rattle.fort_tree.specs.Component.{HasTree}
use Rattle.fort_tree_type_names.specs.TypeNames.{type_names}
use Rattle.fort_hier.specs.declared.accepted.Hierarchy.{Hierarchy}
use Rattle.fort_hier.specs.Hierarchies.{IsHierarchy}
use Rattle.fort_types_sets.specs.declared.member.Members.{Members}
use Rattle.fort_member.specs.Answers.{AreMembers}
use Rattle.fort_typing_known.specs.Known.{Knows}
use Rattle.fort_form_walk.specs.FormsOf.{forms_of}
use Rattle.fort_form_typed.specs.declared.component.Typed.{Typed}
use Rattle.fort_typing_rules.specs.Components.{HasTypes}
use Rattle.fort_core.specs.declared.program.Program.{Program}
use Rattle.fort_elab_meaning.specs.Programs.{IsProgramOf}
use Rattle.fort_machine.specs.Written.{WrittenProgram}
use Rattle.fort_elab_law_written.specs.Matching.{PlacesOnce, Matches}

abbrev pub token_place : Token → Place
token_place t = t.place

-- No two tokens stand at one place. A file's tokens stand so.
abbrev pub StandApart : List Token → Type 0
StandApart ts = PlacesOnce (map token_place ts)

-- What typing gives of a component matches its members, where the component is the tree of tokens
-- that stand apart, its declared types are a hierarchy, and it has these members; whatever is known
-- of it, and whichever groupings its forms go by.
abbrev pub TypedMatchesMembers : Type 0
TypedMatchesMembers = (tokens : Tokens) (c : Component) (h : Hierarchy) (m : Members)
    (groups : Groups) (k : Knows) (typed : Typed) → StandApart tokens.list
    → HasTree tokens c → IsHierarchy c (type_names c) h → AreMembers c m
    → HasTypes k (forms_of c groups) typed → Matches m c.texts typed

-- Of such a component, the program is as it is written.
abbrev pub ComponentIsWritten : Type 0
ComponentIsWritten = (tokens : Tokens) (c : Component) (h : Hierarchy) (m : Members)
    (groups : Groups) (k : Knows) (typed : Typed) (p : Program) → StandApart tokens.list
    → HasTree tokens c → IsHierarchy c (type_names c) h → AreMembers c m
    → HasTypes k (forms_of c groups) typed → IsProgramOf h m c.texts typed p → WrittenProgram p
