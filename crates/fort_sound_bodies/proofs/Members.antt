-- The law of a component's declarations with bodies.
use Rattle.std.proofs.Common.{◌≡◌, ◌≤◌, ℕ, true, List, [], ◌∷◌, ◌++◌, map, Some, sym, ap, ◌∙◌, subst, arith}
use Rattle.std.specs.List.{slice_get, flat_map}
use Rattle.std.proofs.lemmas.Option.{slice_get_within}
use Rattle.std.proofs.lemmas.Grind.{flat_map-append}
use Rattle.fort_base.specs.declared.refusal.Place.{Place}
use Rattle.fort_lex_token.specs.declared.token.Tokens.{Tokens}
use Rattle.fort_lex_token.specs.declared.reserved.Reserved.TheVariants as reserved
use Rattle.fort_tree.specs.declared.declarations.Component.{Component}
use Rattle.fort_tree.specs.declared.grouped.Groups.{Groups}
use Rattle.fort_tree.specs.Component.{HasTree, export_tokens, export_obeys}
use Rattle.fort_tree.specs.Declarations.{said_declared}
use Rattle.fort_tree.specs.Said.{entries_tokens, entries_obey}
use Rattle.fort_tree.specs.Tokens.{word}
use Rattle.fort_types_builtin.specs.Declarations.{declarations}
use Rattle.fort_member_fields.specs.Own.{types_of}
use Rattle.fort_types_sets.specs.declared.member.Member.{Member}
use Rattle.fort_types_sets.specs.declared.member.MemberSet.{MemberSet}
use Rattle.fort_member.specs.declared.entries.Entry.{Entry}
use Rattle.fort_member.specs.BuiltIn.{built_in_entry}
use Rattle.fort_member.specs.Declarations.{declared_entries, entries_of}
use Rattle.fort_member.specs.Sets.{keys_of, set_of}
use Rattle.fort_member.proofs.Numbered.{all_item}
use Rattle.fort_member.proofs.SetLaws.{get_mapped}
use Rattle.fort_member.proofs.WellMadeLaws.{comes_from}
use Rattle.fort_form_walk.specs.FormsOf.{tables_of, forms_of}
use Rattle.fort_sound_typed.specs.Envs.{none, binds}
use Rattle.fort_sound_typed.specs.Typing.{Has}
use Rattle.fort_sound_typed.specs.Sound.{opening, numbered}
use Rattle.fort_form_typed.specs.declared.component.TypedBody.{TypedBody}
use Rattle.fort_typing_rules.specs.Components.{typed_body}
use Rattle.fort_elab_meaning.specs.Bodies.{body_made, same_place}
use Rattle.fort_elab_law_matched.specs.Component.{token_place, StandApart}
use Rattle.fort_elab_law_matched.proofs.Places.{both, once_times, standing, standing_append}
use Rattle.fort_elab_law_matched.proofs.Counted.{all_counted, entry_counted, counts, none_built_in, component_stands}
use Rattle.fort_sound_bodies.specs.Members.{IsFitBody, MembersHaveBodies}
use Rattle.fort_sound_bodies.proofs.Bodies.{bodies_have_types}
use Rattle.fort_sound_bodies.proofs.Signed.{Signature, entry_signed, all_signed, AreBodies, none_signed, component_has}
use Rattle.fort_sound_bodies.proofs.Found.{found_at, beside, body_of, EntrySigned, entries_signed, often_counted, one_signature}

module _ (tokens : Tokens) (c : Component) (groups : Groups) (apart : StandApart tokens.list)
    (tree : HasTree tokens c) where
  abbrev declared : List Entry
  declared = flat_map (declared_entries (types_of c) c.names) c.declarations

  -- the built-in ones have no bodies
  own_counted : all_counted (entries_of c) ≡ all_counted declared
  own_counted =
      flat_map-append entry_counted (map built_in_entry declarations) declared
      ∙ ap (λ z. z ++ all_counted declared) (none_built_in declarations)

  own_signed : all_signed (entries_of c) ≡ all_signed declared
  own_signed =
      flat_map-append entry_signed (map built_in_entry declarations) declared
      ∙ ap (λ z. z ++ all_signed declared) (none_signed declarations)

  -- a place is that of one declaration with a body at most
  counted_once : (p : Place) → counts p (all_counted (entries_of c)) ≤ 1
  counted_once p =
      let own = ap (counts p) own_counted in
      let list = entries_tokens (map said_declared c.declarations) in
      let last = word reserved.End c.end ∷ [] in
      let few =
      subst (λ z. standing p z
      ≤ 1) (sym tree.yields) (once_times p (map token_place tokens.list) apart) in
      let stand = component_stands (tables_of c groups) p c.declarations in
      let a = standing_append p (export_tokens c.export) (list ++ last) in
      let b = standing_append p list last in omega arith

  -- the declarations of the component have its bodies
  have_bodies : let forms = forms_of c groups in AreBodies (all_signed (entries_of c)) forms.bodies
  have_bodies =
      let obeys =
      both (export_obeys c.names c.export)
      (entries_obey c.names (map said_declared c.declarations)) tree.obeys in
      let forms = forms_of c groups in
      subst (λ ss. AreBodies ss forms.bodies) (sym own_signed)
      (component_has (tables_of c groups) c.declarations obeys.1)

pub members_have_bodies : MembersHaveBodies
members_have_bodies tokens c m groups k typed g p apart tree has A fits types U n s is i d stands
    kind place at t found =
    let forms = forms_of c groups in
    let es = entries_of c in
    let ss = all_signed es in
    let w = found_at g 0 typed.bodies place t found in
    let y = get_mapped (set_of es) (keys_of es) n s (ap (λ z. slice_get z n) (sym has.sets) ∙ is) in
    let z = comes_from y.0 es d i (ap (λ (x : MemberSet). slice_get x.members i) y.2 ∙ stands) in
    let own : EntrySigned ss z.0 = all_item (EntrySigned ss) es z.1 z.0 (entries_signed es) z.2 in
    let mine =
    subst (λ (x : Member).
    (j : ℕ) × (slice_get ss j
    ≡ Some (record { place = place; parameters = x.parameters; result = x.result }))) z.4
    (own (ap (λ (x : Member). x.kind) z.4 ∙ kind) place (ap (λ (x : Member). x.place) z.4 ∙ at)) in
    let l = slice_get_within typed.bodies w.at w.found w.is in
    let r = types.bodies in
    let f = beside forms.bodies w.at (omega arith) in
    let b = f.0 in
    let e = types.each_body w.at b f.1 in
    let same : typed_body b e.0 ≡ w.found = some_same (sym e.2 ∙ w.is) in
    let v = body_of ss forms.bodies (have_bodies tokens c groups apart tree) w.at b f.1 in
    let q : same_place b.place place ≡ true =
    ap (λ (x : TypedBody). same_place x.place place) same ∙ w.here in
    let u : Signature = record { place = place; parameters = d.parameters; result = d.result } in
    let o = v.2 in
    let one : v.0 ≡ u =
    one_signature ss w.at mine.0 v.0 u v.1 mine.1 (ap (λ x. same_place x place) o.place
    ∙ q) (λ x. let a = often_counted x es
    in let h = counted_once tokens c groups apart tree x in omega arith) in
    let F = all_item (IsFitBody k) forms.bodies w.at b fits f.1 in
    let h = bodies_have_types k A g p U b F.0 F.1 e.0 e.1 v.0.parameters o.takes w.next in
    let h1 = subst (λ
    (x : TypedBody). Has p (opening p) (binds (numbered 0 v.0.parameters) none) (let m =
    body_made g w.next x in m.term) b.result) same h in
    let h2 = subst (λ x. Has p (opening p) (binds (numbered 0 v.0.parameters) none) x b.result)
    w.term h1 in
    let h3 = subst (λ X. Has p (opening p) (binds (numbered 0 v.0.parameters) none) t X)
    (sym o.result) h2 in
    subst (λ (x : Signature). Has p (opening p) (binds (numbered 0 x.parameters) none) t x.result)
    one h3
  where
    some_same : {X : Type 0} {x y : X} → Some x ≡ Some y → x ≡ y
    some_same e = cc
