-- The chapter "Canonical text", trees read again: which trees are the same. No code: the law joins
-- the definitions of reading and of showing.
use Rattle.std.specs.Prelude.{◌≡◌}
use Rattle.fort_base.specs.declared.refusal.Gap.TheVariants as gap
use Rattle.fort_base.specs.declared.refusal.Place.{Place}
use Rattle.fort_tree.specs.declared.declarations.Component.{Component}
use Rattle.fort_tree_law_moved.specs.DeclarationsMoved.{moved_component}

-- a component without a gap before its first token
abbrev pub without_gap : Component → Component
without_gap c = record {
  component = record { gap = gap.Empty; place = c.component.place };
  name = c.name;
  export = c.export;
  declarations = c.declarations;
  end = c.end;
  names = c.names;
  texts = c.texts;
}

-- The second tree is the first one, but that its tokens stand at other places, and that its first
-- token has no gap before it.
abbrev pub IsSameTree : Component → Component → Type 0
IsSameTree c d = (g : Place → Place) × (d ≡ moved_component g (without_gap c))
