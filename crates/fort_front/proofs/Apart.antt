-- What keeps the rules breaks none.
use Rattle.std.proofs.Common.{◌≡◌, ℕ, ◌<◌, ◌≤◌, List, [], ◌∷◌, ◌++◌, sym, ◌∙◌, subst, arith}
use Rattle.std.specs.List.{Contains}
use Rattle.fort_base.specs.declared.refusal.Place.{Place}
use Rattle.fort_base.specs.declared.refusal.Rule.{Rule}
use Rattle.fort_lex_token.specs.declared.token.Token.{Token}
use Rattle.fort_lex_token.specs.declared.token.Tokens.{Tokens}
use Rattle.fort_tree.specs.declared.declarations.Component.{Component}
use Rattle.fort_tree.specs.declared.grouped.FlatGrouping.{FlatGrouping}
use Rattle.fort_tree.specs.declared.grouped.Row.{Row}
use Rattle.fort_tree.specs.Limits.{crowded, flats}
use Rattle.fort_tree.specs.Openers.{AllShallow, FirstDeep, openers_round}
use Rattle.fort_group.specs.Answers as grouping
use Rattle.fort_group.specs.Components.{HasGroups, IsFirstBreak}
use Rattle.fort_group.proofs.Rules.{breaks_none}
use Rattle.fort_syntax.specs.Answer as grammar
use Rattle.fort_syntax.specs.Answer.{TooDeep, Syntax, TooMany}
use Rattle.fort_tree_type_names.specs.TypeNames.{type_names}
use Rattle.fort_hier.specs.Hierarchies.{declares}
use Rattle.fort_hier.proofs.AcceptedLaws.{accepted_sound}
use Rattle.fort_types_sets.specs.declared.member.Members.{Members}
use Rattle.fort_member_fields.specs.Rules as fields
use Rattle.fort_member.specs.Answers.{AreMembers}
use Rattle.fort_over.specs.Answers as overloads
use Rattle.fort_spawn.proofs.One as rewriting
use Rattle.fort_front.proofs.Overloaded.{none_reported}
use Rattle.fort_front.proofs.Same.{ready, same_report, typed_once}
use Rattle.fort_front.specs.Front.{IsFormed, IsAcceptedTree, IsAcceptedComponent, in_grammar, in_component, in_grouping, in_hierarchy, in_fields, in_overloads, in_typing, known, forms, NeverBoth, NeverBothInGrammar, NeverBothOfTree, NeverBothOfComponent}

-- Where no token stands too deep, no first one does.
none_deep : (ts : List Token) (place : Place) → AllShallow ts → FirstDeep ts place → ⊥
none_deep ts place shallow d =
    let within : openers_round d.front d.token ≤ 100 = shallow d.front d.token d.rest d.whole in
    let deep : 100 < openers_round d.front d.token = d.deep in
    omega arith

-- Nothing is in an empty list.
nothing_in : (places : List Place) (place : Place) → places ≡ [] → Contains places place → ⊥
nothing_in [] place none has = let lt : has.0 < 0 = has.1 in omega arith
nothing_in (p ∷ ps) place none has = absurd cc

-- A flat expression that has its grouping breaks no rule, whichever stand before it.
all_grouped : (earlier : List Row) (it : Row) (later : List Row) (groups : List FlatGrouping)
    (rule : Rule) (place : Place)
    → HasGroups (earlier ++ it ∷ later) groups → grouping.Breaks it rule place → ⊥
all_grouped [] it later [] rule place has breaks = absurd has
all_grouped [] it later (g ∷ gs) rule place has breaks =
    breaks_none it g.grouped has.1 rule place breaks
all_grouped (row ∷ rows) it later [] rule place has breaks = absurd has
all_grouped (row ∷ rows) it later (g ∷ gs) rule place has breaks =
    all_grouped rows it later gs rule place has.2 breaks

in_grammar_never : (tokens : Tokens) (rule : ℕ) (at : Place) (c : Component)
    → grammar.IsComponent tokens c → grammar.Breaks tokens rule at → ⊥
in_grammar_never tokens rule at c is (TooDeep deep) = none_deep tokens.list at is.shallow deep
in_grammar_never tokens rule at c is (Syntax shallow none fault) = none c is.tree
in_grammar_never tokens rule at c is (TooMany shallow d tree breaks) =
    nothing_in (crowded c) at is.small (subst (λ
    (x : Component). Contains (crowded x) at) (is.only d tree) breaks.0)

pub never_in_grammar : NeverBothInGrammar
never_in_grammar tokens rule at g breaks = in_grammar_never tokens rule.0 at g.component g.is breaks

in_overloads_never : (c : Component) (rule : Rule) (at : Place) (members : Members) → (f : IsFormed c)
    → AreMembers c members → overloads.IsReported (declares c) members rule.0 at → ⊥
in_overloads_never c rule at members f belong reported =
    none_reported (declares c) (accepted_sound c (type_names c) f.types f.typed) f.members members
    rule.0 at (belong.sets ∙ sym f.belong.sets) f.ruled reported

pub never_of_tree : NeverBothOfTree
never_of_tree c program rule at a (in_grouping first) =
    let f = a.formed in
    all_grouped first.earlier first.it first.later f.groups rule at
    (subst (λ rows. HasGroups rows f.groups) first.order f.grouped) first.breaks
never_of_tree c program rule at a (in_hierarchy groups grouped reported) =
    a.formed.typed.kept rule.0 at reported.earliest.breaks
never_of_tree c program rule at a (in_fields groups types grouped typed reported) =
    a.formed.belong.fields.kept rule.0 at reported.earliest.breaks
never_of_tree c program rule at a (in_overloads groups types members grouped typed belong reported) =
    in_overloads_never c rule at members a.formed belong reported
never_of_tree c program rule at a (in_typing g reported) =
    typed_once.never_both (known c a.formed) (forms c a.formed) (ready c a.formed) a.typed
    a.has_types (record { rule = rule; place = at })
    (same_report c g a.formed (record { rule = rule; place = at }) reported)

pub never_of_component : NeverBothOfComponent
never_of_component c program rule at a b =
    let same : a.rewritten ≡ b.rewritten =
    rewriting.one c a.rewritten b.rewritten a.becomes b.becomes in
    never_of_tree b.rewritten program rule at
    (subst (λ (x : Component). IsAcceptedTree x program) same a.keeps) b.breaks

pub never : NeverBoth
never tokens program rule at a (in_grammar breaks) =
    in_grammar_never tokens rule.0 at a.component a.is breaks
never tokens program rule at a (in_component c is breaks) =
    let same : a.component ≡ c = is.only a.component a.is.tree in
    never_of_component c program rule at
    (subst (λ (x : Component). IsAcceptedComponent x program) same a.keeps) breaks
