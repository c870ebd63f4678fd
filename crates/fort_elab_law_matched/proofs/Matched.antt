-- What typing gives of a component matches its members, and so its program is as it is written.
use Rattle.std.proofs.Common.{◌≡◌, ◌≤◌, List, [], ◌∷◌, ◌++◌, map, sym, ap, ◌∙◌, subst, arith}
use Rattle.std.specs.List.{flat_map, AllByRecursion}
use Rattle.std.proofs.lemmas.Grind.{flat_map-append}
use Rattle.fort_base.specs.declared.refusal.Place.{Place}
use Rattle.fort_lex_token.specs.declared.token.Tokens.{Tokens}
use Rattle.fort_lex_token.specs.declared.reserved.Reserved.TheVariants as reserved
use Rattle.fort_tree.specs.declared.declarations.Component.{Component}
use Rattle.fort_tree.specs.declared.grouped.Groups.{Groups}
use Rattle.fort_tree.specs.Component.{HasTree, export_tokens, export_obeys}
use Rattle.fort_tree.specs.Declarations.{said_declared}
use Rattle.fort_tree.specs.Said.{entries_tokens, entries_obey}
use Rattle.fort_tree.specs.Tokens.{word}
use Rattle.fort_types_builtin.specs.Declarations.{declarations}
use Rattle.fort_member_fields.specs.Own.{types_of}
use Rattle.fort_member.specs.declared.entries.Entry.{Entry}
use Rattle.fort_member.specs.BuiltIn.{built_in_entry}
use Rattle.fort_member.specs.Declarations.{declared_entries, entries_of}
use Rattle.fort_member.specs.Sets.{keys_of}
use Rattle.fort_form_walk.specs.FormsOf.{tables_of, forms_of}
use Rattle.fort_elab_meaning.specs.Shapes.{shapes}
use Rattle.fort_elab_law_written.specs.Laws.{ProgramIsWritten}
use Rattle.fort_elab_law_written.specs.Matching.{places_of, PlacesOnce, AllMatch}
use Rattle.fort_elab_law_matched.specs.Component.{token_place, StandApart, TypedMatchesMembers, ComponentIsWritten}
use Rattle.fort_elab_law_matched.proofs.Places.{both, once_times, standing, standing_append}
use Rattle.fort_elab_law_matched.proofs.Sets.{sets_once, all_of}
use Rattle.fort_elab_law_matched.proofs.Counted.{Counted, entry_counted, all_counted, counts, times_counted, none_built_in, component_same, component_stands}
use Rattle.fort_elab_law_matched.proofs.Typed.{typed_counted, bodies_same, initials_same, AreAt, IsAlone, all_alone, all_matched}
use Rattle.fort_elab_law_matched.proofs.Constructors.{component_full}

module _ (tokens : Tokens) (c : Component) (apart : StandApart tokens.list)
    (tree : HasTree tokens c) where
  abbrev declared : List Entry
  declared = flat_map (declared_entries (types_of c) c.names) c.declarations

  -- the built-in ones have no bodies
  own_counted : all_counted (entries_of c) ≡ all_counted declared
  own_counted =
      flat_map-append entry_counted (map built_in_entry declarations) declared
      ∙ ap (λ z. z ++ all_counted declared) (none_built_in declarations)

  -- a place is that of one declaration with a body at most
  counted_once : (groups : Groups) (p : Place) → counts p (all_counted (entries_of c)) ≤ 1
  counted_once groups p =
      let own = ap (counts p) own_counted in
      let list = entries_tokens (map said_declared c.declarations) in
      let last = word reserved.End c.end ∷ [] in
      let few =
      subst (λ z. standing p z
      ≤ 1) (sym tree.yields) (once_times p (map token_place tokens.list) apart) in
      let stand = component_stands (tables_of c groups) p c.declarations in
      let a = standing_append p (export_tokens c.export) (list ++ last) in
      let b = standing_append p list last in omega arith

pub typed_matches : TypedMatchesMembers
typed_matches tokens c h m groups k typed apart tree is has types =
    let n = tables_of c groups in
    let es = entries_of c in
    let list = shapes c.texts typed.initials m in
    let obeys =
    both (export_obeys c.names c.export)
    (entries_obey c.names (map said_declared c.declarations)) tree.obeys in
    let once = counted_once tokens c apart tree groups in
    let same : all_counted es ≡ map typed_counted typed.bodies =
    own_counted tokens c apart tree ∙ component_same n c.declarations obeys.1
    ∙ sym (bodies_same k (forms_of c groups) typed types) in
    let alone : AllByRecursion (IsAlone list typed.bodies) (all_counted es) =
    subst (λ z. AllByRecursion (λ
    (x : Counted). AreAt x.0 x.1 z) (all_counted es)) same (all_alone (all_counted es) once)
    in
    let full =
    component_full c h is m has groups c.texts typed.initials
    (initials_same k (forms_of c groups) typed types) in record {
      places = subst (λ z. PlacesOnce (places_of z)) (sym has.sets)
          (sets_once es (λ p. let a = times_counted p es in let b = once p in omega arith));
      each = subst (λ z. AllMatch list typed.bodies z) (sym has.sets)
          (all_of list typed.bodies (keys_of es) es (all_matched list typed.bodies es alone full));
    }

pub component_written : TypedMatchesMembers → ProgramIsWritten → ComponentIsWritten
component_written matches written tokens c h m groups k typed p apart tree is has types program =
    written h m c.texts typed p program
    (matches tokens c h m groups k typed apart tree is has types)
