-- Each file, token list and component is accepted or breaks a rule.
use Rattle.std.proofs.Common.{◌⊎◌, inl, inr}
use Rattle.fort_base.specs.declared.refusal.Place.{Place}
use Rattle.fort_base.specs.declared.refusal.Rule.{Rule}
use Rattle.fort_lex_token.specs.declared.token.Tokens.{Tokens}
use Rattle.fort_lex.specs.Files.{HasTokens, BreaksRule}
use Rattle.fort_lex.proofs.Exists.{list_or_rule}
use Rattle.fort_tree.specs.declared.grouped.Groups.{Groups}
use Rattle.fort_tree.specs.Limits.{flats}
use Rattle.fort_typing_law_exact.specs.Exact.{IsOneOfTwo, has_typing, has_report}
use Rattle.fort_typing_law_ready.specs.Component as typing
use Rattle.fort_front.specs.Front.{IsFormed, known, forms, in_grouping, in_hierarchy, in_fields, in_overloads, in_typing, in_grammar, in_component}
use Rattle.fort_front_law_decided.specs.Phases.{GrammarDecides, EachIsRewritten, GroupingDecides, HierarchyDecides, FieldsDecide, OverloadsDecide, EachIsTranslated}
use Rattle.fort_front_law_decided.specs.Whole.{TreeIsOneOfTwo, ComponentIsOneOfTwo, TokensAreOneOfTwo, FileIsOneOfTwo, in_text, behind}
use Rattle.fort_front_law_decided.proofs.Few.{few_rewritten}

pub tree_or_break : GroupingDecides → HierarchyDecides → FieldsDecide → OverloadsDecide
    → typing.ComponentIsOneOfTwo → EachIsTranslated → TreeIsOneOfTwo
tree_or_break grouping hierarchy fields overloads typed_or translated c few none unbroken =
    elim (grouping (flats c)) as (λ _. ⊥) [
      | inr b ↦ unbroken (b.0, b.1, in_grouping b.2)
      | inl g ↦
          hierarchy c few
          (λ h. fields c h.0 h.1
          (λ m. overloads c h.0 m.0 h.1 m.1
          (λ ruled. by_typing (record {
            groups = g.0;
            grouped = g.1;
            types = h.0;
            typed = h.1;
            members = m.0;
            belong = m.1;
            ruled = ruled;
          }))
          (λ b. unbroken (b.0, b.1, in_overloads g.0 h.0 m.0 g.1 h.1 m.1 b.2)))
          (λ b. unbroken (b.0, b.1, in_fields g.0 h.0 g.1 h.1 b.2)))
          (λ b. unbroken (b.0, b.1, in_hierarchy g.0 g.1 b.2))
    ]
  where
    typed_as : (f : IsFormed c) → IsOneOfTwo (known c f) (forms c f) → ⊥
    typed_as f (has_typing typed types) =
        let groups : Groups = record { list = f.groups } in
        let p = translated c f.types f.members groups (known c f) typed f.belong types in
        none (p.0, record { formed = f; typed = typed; has_types = types; becomes = p.1 })
    typed_as f (has_report x is) = unbroken (x.rule, x.place, in_typing f is)

    by_typing : IsFormed c → ⊥
    by_typing f = typed_as f
        (typed_or c f.types f.members (record { list = f.groups }) f.typed f.belong f.ruled f.grouped)

pub component_or_break : EachIsRewritten → TreeIsOneOfTwo → ComponentIsOneOfTwo
component_or_break rewritten tree c kept none unbroken = let d = rewritten c in
    tree d.0 (few_rewritten c d.0 kept d.1)
    (λ p. none (p.0, record { rewritten = d.0; becomes = d.1; keeps = p.1 }))
    (λ b. unbroken (b.0, b.1, record { rewritten = d.0; becomes = d.1; breaks = b.2 }))

pub tokens_or_break : GrammarDecides → ComponentIsOneOfTwo → TokensAreOneOfTwo
tokens_or_break grammar component tokens none unbroken =
    grammar tokens
    (λ g. component g.component g.is.small
    (λ p. none (p.0, record { component = g.component; is = g.is; keeps = p.1 }))
    (λ b. unbroken (b.0, b.1, in_component g.component g.is b.2)))
    (λ b. unbroken (b.0, b.1, in_grammar b.2))

pub file_or_break : TokensAreOneOfTwo → FileIsOneOfTwo
file_or_break all file none unbroken = by (list_or_rule file)
  where
    by : ((ts : Tokens) × HasTokens file ts)
        ⊎ ((r : Rule) × (place : Place) × BreaksRule file r place) → ⊥
    by (inr b) = unbroken (b.0, b.1, in_text b.2)
    by (inl t) = all t.0 (λ p. none (p.0, record { tokens = t.0; has = t.1; accepted = p.1 }))
        (λ b. unbroken (b.0, b.1, behind t.0 t.1 b.2))
