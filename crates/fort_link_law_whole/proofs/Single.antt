-- One file alone is the component that it is.
use Rattle.std.proofs.Common.{◌≡◌, ℕ, Bool, true, false, ◌&&◌, if◌then◌else◌, List, [], ◌∷◌, Option, Some, None, map, refl, sym, ap, ap₂, subst, ◌∙◌}
use Rattle.std.specs.Prelude.{option_map}
use Rattle.std.specs.Option.{option_or}
use Rattle.fort_lex_token.specs.declared.token.Tokens.{Tokens}
use Rattle.fort_lex.specs.Files.{HasTokens}
use Rattle.fort_tree.specs.declared.declarations.Component.{Component}
use Rattle.fort_tree.specs.declared.declarations.Export.{Export}
use Rattle.fort_tree.specs.declared.spot.Spot.{Spot}
use Rattle.fort_tree.specs.Tokens.{Spellings, is_spelled}
use Rattle.fort_tree.specs.Said.{entries_obey}
use Rattle.fort_tree.specs.Declarations.{said_declared}
use Rattle.fort_tree.specs.Component.{HasTree, yield, export_obeys}
use Rattle.fort_syntax.specs.Answer.{IsComponent}
use Rattle.fort_link_table.specs.declared.table.Table.{Table}
use Rattle.fort_link_table.specs.Table.{empty_table, joined}
use Rattle.fort_link_table.specs.Laws.{FirstIsAsItIs}
use Rattle.fort_link_units.specs.declared.unit.ComponentUnit.{ComponentUnit}
use Rattle.fort_link_units.specs.declared.unit.Unit.{Unit}
use Rattle.fort_link_units.specs.declared.unit.Unit.TheVariants as a_unit
use Rattle.fort_link_units.specs.Said.{HasUnit, HasComponent}
use Rattle.fort_link.specs.declared.whole.Head.{Head}
use Rattle.fort_link.specs.Answer.{IsLinked}
use Rattle.fort_link.specs.Whole.{IsWhole}
use Rattle.fort_link_law_whole.proofs.NamesOnce.{names_once}

both : (a b : Bool) → (a && b) ≡ true → (a ≡ true) × (b ≡ true)
both true b e = (refl, e)
both false b e = absurd cc

-- a component with this export and these names and texts
abbrev with_ : Component → Option Export → Spellings → Spellings → Component
with_ c x names texts = record {
  component = c.component;
  name = c.name;
  export = x;
  declarations = c.declarations;
  end = c.end;
  names = names;
  texts = texts;
}

-- the component as a unit
abbrev alone : Component → Export → ComponentUnit
alone c e = record {
  imports = [];
  exports = e ∷ [];
  parsed = record { component = with_ c None c.names c.texts };
}

same_component : (c : Component) (x : Option Export) → c.export ≡ x
    → with_ c x c.names c.texts ≡ c
same_component c x e = sym (ap (λ (y : Option Export). with_ c y c.names c.texts) e)

has_alone : (tokens : Tokens) (c : Component) (e : Export) → HasTree tokens c
    → c.export ≡ Some e → HasComponent tokens (alone c e)
has_alone tokens c e h x = record {
  yields = ap yield (same_component c (Some e) x) ∙ h.yields;
  names = h.names;
  texts = h.texts;
  plain = refl;
  obeys = (both (export_obeys c.names c.export)
      (entries_obey c.names (map said_declared c.declarations)) h.obeys).1;
}

exported : (tokens : Tokens) (c : Component) (e : Export) → HasTree tokens c
    → c.export ≡ Some e → is_spelled "Executable" c.names e.name ≡ true
exported tokens c e h x =
    sym (ap (export_obeys c.names) x)
    ∙ (both (export_obeys c.names c.export)
    (entries_obey c.names (map said_declared c.declarations)) h.obeys).0

-- the whole of this one unit
one_whole : (c whole : Component) (e : Export) → c.export ≡ Some e
    → is_spelled "Executable" c.names e.name ≡ true
    → IsWhole c.names c.texts (a_unit.Component (alone c e) ∷ []) whole → whole ≡ c
one_whole c whole e x spelled w =
    let found : ◌≡◌ {A = Option Head}
    (Some (record { component = c.component; name = c.name; export = e })) (Some w.head) =
    sym (head_is (is_spelled "Executable" c.names e.name) spelled) ∙ w.begins in
    w.is ∙ (of_parts w.head w.end (some_is found) (some_is w.ends) ∙ same_component c (Some e) x)
  where
    some_is : {A : Type 0} {a b : A} → Some a ≡ Some b → a ≡ b
    some_is h = cc

    head_is : (b : Bool) → b ≡ true
        → option_or {T = Head} (option_map (λ (y : Export). record {
          component = c.component;
          name = c.name;
          export = y;
        }) (if b then Some e else None)) None
        ≡ Some (record { component = c.component; name = c.name; export = e })
    head_is true h = refl
    head_is false h = absurd cc

    of_parts : (head : Head) (end : Spot)
        → ◌≡◌ {A = Head} (record { component = c.component; name = c.name; export = e }) head
        → c.end ≡ end
        → ◌≡◌ {A = Component} (record {
          component = head.component;
          name = head.name;
          export = Some head.export;
          declarations = c.declarations;
          end = end;
          names = c.names;
          texts = c.texts;
        }) (with_ c (Some e) c.names c.texts)
    of_parts head end h k =
        sym (ap₂ (λ (y : Head) (z : Spot). record {
          component = y.component;
          name = y.name;
          export = Some y.export;
          declarations = c.declarations;
          end = z;
          names = c.names;
          texts = c.texts;
        }) h k)

pub itself : FirstIsAsItIs
    → ((bytes : List ℕ) (ts us : Tokens) → HasTokens bytes ts → HasTokens bytes us → ts ≡ us)
    → (file : List ℕ) (tokens : Tokens) (c whole : Component) (e : Export)
    → HasTokens file tokens → IsComponent tokens c → c.export ≡ Some e
    → IsLinked (file ∷ []) whole → whole ≡ c
itself first one file tokens c whole e has is x linked =
    let are = linked.are in
    let own : joined empty_table are.0 ≡ tokens =
    first are.0 (names_once file are.0 are.4.has) ∙ one file are.0 tokens are.4.has has in
    let unit : a_unit.Component (alone c e) ≡ are.1 =
    are.4.is.only (a_unit.Component (alone c e))
    (subst (λ (ts : Tokens). HasUnit ts (a_unit.Component (alone c e))) (sym own)
    (has_alone tokens c e is.tree x)) in
    let units : linked.units ≡ a_unit.Component (alone c e) ∷ [] =
    are.3 ∙ ap₂ (λ (u : Unit) (us : List Unit). u ∷ us) (sym unit) are.5.0 in
    let names : linked.table.names ≡ c.names =
    ap (λ (t : Table). t.names) are.5.1
    ∙ (ap (λ (ts : Tokens). ts.names) own ∙ sym is.tree.names) in
    let texts : linked.table.texts ≡ c.texts =
    ap (λ (t : Table). t.texts) are.5.1
    ∙ (ap (λ (ts : Tokens). ts.texts) own ∙ sym is.tree.texts) in
    one_whole c whole e x (exported tokens c e is.tree x)
    (subst (λ us. IsWhole c.names c.texts us whole) units
    (subst (λ ts. IsWhole c.names ts linked.units whole) texts
    (subst (λ ns. IsWhole ns linked.table.texts linked.units whole) names linked.whole)))
