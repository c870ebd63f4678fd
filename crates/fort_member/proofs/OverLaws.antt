-- What the members by the parts of a component are.
use Rattle.std.proofs.Common.{◌≡◌, List, sym, ◌∙◌, subst}
use Rattle.fort_tree.specs.declared.declarations.Component.{Component}
use Rattle.fort_tree.specs.declared.declarations.Declared.{Declared}
use Rattle.fort_hier.specs.declared.heads.TypeHead.{TypeHead}
use Rattle.fort_hier.specs.Heads.{heads_of}
use Rattle.fort_hier.specs.Names.{Spelling}
use Rattle.fort_types_sets.specs.declared.field.Field.{Field}
use Rattle.fort_types_sets.specs.declared.member.Members.{Members}
use Rattle.fort_member_fields.specs.Answers.{HasFields}
use Rattle.fort_member.specs.Answers.{AreMembers, AreOver}

over_parts : (c : Component) (fields : List (List Field)) (m : Members) → HasFields c fields
    → AreOver c.names (heads_of c) c.declarations fields m → AreMembers c m
over_parts c fields m f o = record {
  places = o.places;
  objects = o.objects;
  fields = subst (HasFields c) (sym o.fields_are) f;
  sets = o.sets;
  variables = o.variables;
}

pub over_component : (c : Component) (names : List Spelling) (own heads : List TypeHead)
    (declarations : List Declared) (fields : List (List Field)) (m : Members) → names ≡ c.names
    → heads ≡ own → own ≡ heads_of c → declarations ≡ c.declarations
    → HasFields c fields → AreOver names heads declarations fields m → AreMembers c m
over_component c names own heads declarations fields m n s h d f o = over_parts c fields m f
    (subst (λ z. AreOver z (heads_of c) c.declarations fields m) n
    (subst (λ z. AreOver names z c.declarations fields m) (s
    ∙ h) (subst (λ z. AreOver names heads z fields m) d o)))
