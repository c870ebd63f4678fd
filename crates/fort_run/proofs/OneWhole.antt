-- Files have one whole at most, and where they have one they break no rule of linking.
use Rattle.std.proofs.Common.{◌≡◌, ℕ, List, [], ◌∷◌, ◌++◌, ap, ap₂, sym, ◌∙◌, subst}
use Rattle.std.specs.Prelude.{Some, None, unwrap_or}
use Rattle.fort_base.specs.declared.refusal.Rule.{Rule}
use Rattle.fort_base.specs.declared.refusal.Place.{Place}
use Rattle.fort_lex_token.specs.declared.token.Tokens.{Tokens}
use Rattle.fort_lex.proofs.Uniqueness.{list_or_fault, one_list_of_tokens}
use Rattle.fort_tree.specs.declared.declarations.Component.{Component}
use Rattle.fort_tree.specs.declared.spot.Spot.{Spot}
use Rattle.fort_tree.specs.Tokens.{Spellings}
use Rattle.fort_link_table.specs.declared.table.Table.{Table}
use Rattle.fort_link_table.specs.Table.{after, empty_table, joined}
use Rattle.fort_link_units.specs.declared.unit.Unit.{Unit}
use Rattle.fort_link_units.specs.Answer.{BreaksUnit, IsUnit, NeverBoth}
use Rattle.fort_link_rules.specs.Reports.{IsFirstBroken}
use Rattle.fort_link.specs.Answer.{one, several}
use Rattle.fort_link.specs.Lines.{lines}
use Rattle.fort_link.specs.declared.whole.Head.{Head}
use Rattle.fort_link.specs.Units.{AreUnits, BreaksFile, IsUnitOf, lexing, reading}
use Rattle.fort_link.specs.Whole.{IsWhole, all_declared_before, components}
use Rattle.fort_run.specs.Laws.{LinkedOrBroken, OneWhole}

some_injective : {X : Type 0} (x y : X) → Some x ≡ Some y → x ≡ y
some_injective x y e = ap (λ o. unwrap_or o x) e

-- ---- units

-- A file is one unit at most.
same_tokens : (table : Table) (file : List ℕ) (ts us : Tokens) (u v : Unit)
    → IsUnitOf table file ts u → IsUnitOf table file us v → ts ≡ us
same_tokens table file ts us u v a b = one_list_of_tokens file ts us a.has b.has

same_unit : (table : Table) (file : List ℕ) (ts us : Tokens) (u v : Unit)
    → IsUnitOf table file ts u → IsUnitOf table file us v → u ≡ v
same_unit table file ts us u v a b =
    b.is.only u
    (subst (λ x. IsUnit (joined table x) u) (same_tokens table file ts us u v a b) a.is).tree

-- Files are units in one way at most.
same_units : (table : Table) (files : List (List ℕ)) (us vs : List Unit) (t s : Table)
    → AreUnits table files us t → AreUnits table files vs s → (us ≡ vs) × (t ≡ s)
same_units table [] us vs t s a b = (a.0 ∙ sym b.0, a.1 ∙ sym b.1)
same_units table (file ∷ files) us vs t s a b =
    let tokens = same_tokens table file a.0 b.0 a.1 b.1 a.4 b.4 in
    let unit = same_unit table file a.0 b.0 a.1 b.1 a.4 b.4 in
    let rest = same_units (after table b.0 (lines file)) files a.2 b.2 t s
    (subst (λ x. AreUnits (after table x (lines file)) files a.2 t) tokens a.5) b.5 in
    (a.3 ∙ ap₂ (λ (x : Unit) (xs : List Unit). x ∷ xs) unit rest.0 ∙ sym b.3, rest.1)

-- ---- one whole

abbrev whole_of : Spellings → Spellings → List Unit → Head → Spot → Component
whole_of names texts units head end = record {
  component = head.component;
  name = head.name;
  export = Some head.export;
  declarations = all_declared_before (components units) [];
  end = end;
  names = names;
  texts = texts;
}

same_whole : (names texts : Spellings) (units : List Unit) (a b : Component)
    → IsWhole names texts units a → IsWhole names texts units b → a ≡ b
same_whole names texts units a b p q =
    let head : p.head ≡ q.head = some_injective p.head q.head (sym p.begins ∙ q.begins) in
    let end : p.end ≡ q.end = some_injective p.end q.end (sym p.ends ∙ q.ends) in
    p.is ∙ ap₂ (whole_of names texts units) head end ∙ sym q.is

pub one_whole : OneWhole
one_whole files a b p q =
    let same = same_units empty_table files p.units q.units p.table q.table p.are q.are in
    same_whole q.table.names q.table.texts q.units a b
    (subst (λ (t : Table). IsWhole t.names t.texts q.units a) same.1
    (subst (λ us. IsWhole p.table.names p.table.texts us a) same.0 p.whole)) q.whole

-- ---- no rule of linking

-- A file is no unit where it breaks a rule.
unit_or_broken : NeverBoth → (table : Table) (file : List ℕ) (tokens : Tokens) (unit : Unit)
    (rule : Rule) (place : Place) → IsUnitOf table file tokens unit
    → BreaksFile table file rule place → ⊥
unit_or_broken law table file tokens unit rule place is (lexing b) =
    list_or_fault file tokens rule place is.has b
unit_or_broken law table file tokens unit rule place is (reading others spot has b e) =
    law (joined table tokens) unit rule.0 spot is.is
    (subst (λ t. BreaksUnit (joined table t) rule.0 spot)
    (one_list_of_tokens file others tokens has is.has) b)

-- All files are units, so that none breaks a rule.
no_broken_file : NeverBoth → (table : Table) (front : List (List ℕ)) (file : List ℕ)
    (back : List (List ℕ)) (all units : List Unit) (last mid : Table) (rule : Rule) (place : Place)
    → AreUnits table (front ++ file ∷ back) all last → AreUnits table front units mid
    → BreaksFile mid file rule place → ⊥
no_broken_file law table [] file back all units last mid rule place are before b =
    unit_or_broken law table file are.0 are.1 rule place are.4
    (subst (λ t. BreaksFile t file rule place) before.1 b)
no_broken_file law table (x ∷ front) file back all units last mid rule place are before b =
    let tokens = same_tokens table x before.0 are.0 before.1 are.1 before.4 are.4 in
    no_broken_file law (after table are.0 (lines x)) front file back are.2 before.2 last mid rule
    place are.5
    (subst (λ t. AreUnits (after table t (lines x)) front before.2 mid) tokens before.5) b

pub linked_or_broken : NeverBoth → LinkedOrBroken
linked_or_broken law files c rule spot is (one front file back units table e are b n) =
    no_broken_file law empty_table front file back is.units units is.table table rule spot.place
    (subst (λ fs. AreUnits empty_table fs is.units is.table) e is.are) are b
linked_or_broken law files c rule spot is (several units table broken are b e stands) =
    let same = same_units empty_table files units is.units table is.table are is.are in
    let kept : IsFirstBroken table.names units None =
    subst (λ (t : Table). IsFirstBroken t.names units None) (sym same.1)
    (subst (λ us. IsFirstBroken is.table.names us None) (sym same.0) is.keep) in
    kept broken.rule.0 broken.place b.earliest.breaks
