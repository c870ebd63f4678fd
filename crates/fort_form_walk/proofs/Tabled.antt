-- The tables of a component.
use Rattle.std.proofs.Common.{◌≡◌, List, ap, ◌∙◌}
use Rattle.fort_tree.specs.declared.declarations.Component.{Component}
use Rattle.fort_tree.specs.declared.grouped.FlatGrouping.{FlatGrouping}
use Rattle.fort_tree.specs.declared.grouped.Groups.{Groups}
use Rattle.fort_hier.specs.declared.heads.TypeHead.{TypeHead}
use Rattle.fort_hier.specs.Heads.{heads_of}
use Rattle.fort_hier.specs.Names.{Spelling}
use Rattle.fort_hier.specs.Numbers.{all_types}
use Rattle.fort_form_walk.specs.FormsOf.{Tables, tables_of}

abbrev pub tabled : List Spelling → List TypeHead → List FlatGrouping → Tables
tabled names heads groups = record { types = all_types names heads; names = names; groups = groups }

pub tables_are : (c : Component) (groups : Groups) {heads : List TypeHead} {names : List Spelling}
    {list : List FlatGrouping} → heads ≡ heads_of c → names ≡ c.names → list ≡ groups.list
    → tabled names heads list ≡ tables_of c groups
tables_are c groups {heads = heads} {names = names} {list = list} e f g =
    ap (λ (n : List Spelling). tabled n heads list) f ∙ ap (λ
    (h : List TypeHead). tabled c.names h list) e ∙ ap (λ
    (l : List FlatGrouping). tabled c.names (heads_of c) l) g
