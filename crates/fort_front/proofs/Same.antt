-- What a component that keeps the rules before typing gives to typing is one: its groupings, its
-- hierarchy and its members; so its types and program are one, and those of tokens are.
use Rattle.std.proofs.Common.{◌≡◌, List, true, subst}
use Rattle.fort_types.specs.Types.{IsNumbered}
use Rattle.fort_core.specs.declared.program.Program.{Program}
use Rattle.fort_tree.specs.declared.declarations.Component.{Component}
use Rattle.fort_tree.specs.declared.grouped.FlatGrouping.{FlatGrouping}
use Rattle.fort_tree.specs.Limits.{flats}
use Rattle.fort_group.specs.Components.{HasGroups}
use Rattle.fort_tree_type_names.specs.TypeNames.{type_names}
use Rattle.fort_hier.specs.declared.accepted.Hierarchy.{Hierarchy}
use Rattle.fort_hier.specs.Hierarchies.{IsHierarchy}
use Rattle.fort_types_sets.specs.declared.member.Members.{Members}
use Rattle.fort_member.specs.Answers.{AreMembers}
use Rattle.fort_typing_known.specs.declared.fault.Fault.{Fault}
use Rattle.fort_typing_law_ready.specs.Fit.{known_of}
use Rattle.fort_typing_law_ready.proofs.AcceptedLaws.{keepers_accepted}
use Rattle.fort_form_law_shapes.specs.Fits.{FormsAreFit}
use Rattle.fort_form_law_shapes.proofs.Trees as trees
use Rattle.fort_form_walk.specs.FormsOf.{forms_of}
use Rattle.fort_form_typed.specs.declared.component.Typed.{Typed}
use Rattle.fort_typing_rules.specs.Components.{HasTypes, IsReported}
use Rattle.fort_typing_law_exact.specs.Ready.{IsReady}
use Rattle.fort_typing_law_exact.specs.Exact.{IsExactly, OneOfTwo}
use Rattle.fort_typing_law_exact.proofs.Component as component
use Rattle.fort_typing_law_ready.specs.Component.{FormsAreReady, ComponentIsExact}
use Rattle.fort_typing_law_ready.proofs.Ready.{component_exact, forms_ready}
use Rattle.fort_elab_meaning.specs.Programs.{IsProgramOf}
use Rattle.fort_front_law_phases.proofs.Groupings.{groupings_once}
use Rattle.fort_front_law_phases.proofs.Hierarchies.{hierarchy_once}
use Rattle.fort_front_law_phases.proofs.Memberships.{members_once}
use Rattle.fort_front_law_phases.proofs.Programs.{program_once}
use Rattle.fort_spawn.proofs.One as rewriting
use Rattle.fort_front.specs.Front.{IsFormed, IsAcceptedComponent, IsAcceptedTree, known, forms, OneProgram, OneProgramOfComponent, OneProgramOfTree}

-- ---- the laws of typing, of components

are_fit : FormsAreFit
are_fit n known k source e mentioned =
    trees.expr_good (IsNumbered n) (λ x. known x ≡ true) k source e mentioned

are_ready : FormsAreReady
are_ready = forms_ready keepers_accepted are_fit

pub is_exact : ComponentIsExact
is_exact = component_exact are_ready component.typing_is_exact

pub typed_once : OneOfTwo
typed_once = component.one_of_two

pub ready : (c : Component) (f : IsFormed c) → IsReady (known c f) (forms c f)
ready c f =
    are_ready c f.types f.members (record { list = f.groups }) f.typed f.belong f.ruled f.grouped

pub exact : (c : Component) (f : IsFormed c) → IsExactly (known c f) (forms c f)
exact c f =
    is_exact c f.types f.members (record { list = f.groups }) f.typed f.belong f.ruled f.grouped

-- ---- what is given to typing is one

-- What is so of what a component gives to typing is so however it is said to keep the rules.
moved : (P : Hierarchy → Members → List FlatGrouping → Type 0) (c : Component) (g f : IsFormed c)
    → P g.types g.members g.groups → P f.types f.members f.groups
moved P c g f has =
    let groups : g.groups ≡ f.groups =
    groupings_once (flats c) g.groups f.groups g.grouped f.grouped in
    let types : g.types ≡ f.types = hierarchy_once c g.types f.types g.typed f.typed in
    let members : g.members ≡ f.members =
    members_once c g.members f.members g.belong f.belong in
    subst (λ (x : List FlatGrouping). P f.types f.members x) groups
    (subst (λ (x : Members). P f.types x g.groups) members
    (subst (λ (x : Hierarchy). P x g.members g.groups) types has))

abbrev Reports : Component → Fault → Hierarchy → Members → List FlatGrouping → Type 0
Reports c x h m groups = IsReported (known_of c h m) (forms_of c (record { list = groups })) x

pub same_report : (c : Component) (g f : IsFormed c) (x : Fault)
    → IsReported (known c g) (forms c g) x → IsReported (known c f) (forms c f) x
same_report c g f x = moved (Reports c x) c g f

abbrev Types : Component → Typed → Hierarchy → Members → List FlatGrouping → Type 0
Types c typed h m groups = HasTypes (known_of c h m) (forms_of c (record { list = groups })) typed

abbrev Becomes : Component → Typed → Program → Hierarchy → Members → List FlatGrouping → Type 0
Becomes c typed program h m groups = IsProgramOf h m c.texts typed program

pub one_program_of_tree : OneProgramOfTree
one_program_of_tree c p q a b =
    let f = b.formed in
    let has : HasTypes (known c f) (forms c f) a.typed =
    moved (Types c a.typed) c a.formed f a.has_types in
    let same : a.typed ≡ b.typed =
    typed_once.one_typing (known c f) (forms c f) (ready c f) a.typed b.typed has b.has_types in
    let becomes : IsProgramOf f.types f.members c.texts a.typed p =
    moved (Becomes c a.typed p) c a.formed f a.becomes in
    program_once f.types f.members c.texts b.typed p q (subst (λ
    (t : Typed). IsProgramOf f.types f.members c.texts t p) same becomes)
    b.becomes

pub one_program_of_component : OneProgramOfComponent
one_program_of_component c p q a b =
    let same : a.rewritten ≡ b.rewritten =
    rewriting.one c a.rewritten b.rewritten a.becomes b.becomes in
    one_program_of_tree b.rewritten p q
    (subst (λ (d : Component). IsAcceptedTree d p) same a.keeps) b.keeps

pub one_program : OneProgram
one_program tokens p q a b =
    let same : a.component ≡ b.component = b.is.only a.component a.is.tree in
    one_program_of_component b.component p q
    (subst (λ (c : Component). IsAcceptedComponent c p) same a.keeps) b.keeps
