-- What a form becomes where calls have one thing, it becomes where they have more.
use Rattle.std.proofs.Common.{◌≡◌, ℕ, Bool, List, Option}
use Rattle.fort_base.specs.declared.ids.NameId.{NameId}
use Rattle.fort_base.specs.declared.ids.SetId.{SetId}
use Rattle.fort_base.specs.declared.refusal.Place.{Place}
use Rattle.fort_base.specs.declared.ty.Ty.{Ty}
use Rattle.fort_ops.specs.declared.op.Op.{Op}
use Rattle.fort_scope.specs.declared.binding.Binding.{Binding}
use Rattle.fort_juxt.specs.declared.elements.Grouping.{Grouping}
use Rattle.fort_form.specs.declared.form.Form.{Form}
use Rattle.fort_form.specs.declared.form.Item.{Item}
use Rattle.fort_form.specs.declared.form.Branch.{Branch}
use Rattle.fort_form.specs.declared.form.TypeBranch.{TypeBranch}
use Rattle.fort_form.specs.declared.form.Generator.{Generator}
use Rattle.fort_form_typed.specs.declared.typed_form.Chosen.{Chosen}
use Rattle.fort_form_typed.specs.declared.typed_form.TypedForm.{TypedForm}
use Rattle.fort_typing_known.specs.Known.{Knows}
use Rattle.fort_typing_rules.specs.declared.part.Part.{Part}
use Rattle.fort_typing_rules.specs.declared.part.Meaning.{Meaning}
use Rattle.fort_typing_rules.specs.Calls.{Calling}
use Rattle.fort_typing_rules.specs.Elements.{Applies, Joins, Follows, Rewritten, Becomes, Grouped, Stands, Made, gives, call, no_call, value, no_argument, joining, no_joining, index, no_array, power, no_power, field, no_field, size, method, no_method, no_method_call, applied, followed, joined, whole, on, of_one, of_applied, of_joined, of_unapplied, of_unjoined, grouped}
use Rattle.fort_typing_rules.specs.Typing.{Want, Compares, Has, HasAs, HasEach, HasItems, HasSources, HasClauses, HasCases, HasElse, HasFinally, HasParts, Means, no_more, more, number, words, truth, receiver, local, own, top, single, parens, tuple, operator, chain, beside, run, fill, block, do_one, do_also, if_alone, if_else, while_do, for_do, case, typecase, try_catch, atomic, tryatomic, throw, function, reduce, assign, update, suits, no_part, part_, no_item, last_item, expression, declared, declared_all, no_source, source, no_clause, clause, no_case, case_, no_else, else_, no_finally, finally_, no_element, element_, a_named, a_valued, an_index, an_exponent, a_field_of, a_method_of}

module _ (k : Knows) (C D : Calling)
    (lift : (set : SetId) (types : List Ty) (result : Ty) (widened : List Bool)
    → C set types result widened → D set types result widened) where
  applies : {f a : Part} {m : Made} → Applies k C f a m → Applies k D f a m
  applies (call v0 v1 v2 v3 h4 h5 h6 h7) = call v0 v1 v2 v3 h4 h5 (lift _ _ _ _ h6) h7
  applies (no_call v0 v1 v2 h3 h4 h5 h6) = no_call v0 v1 v2 h3 h4 h5 h6
  applies (value v0 v1 v2 v3 h4 h5 h6 h7 h8) = value v0 v1 v2 v3 h4 h5 h6 h7 h8
  applies (no_argument v0 v1 v2 v3 h4 h5 h6 h7 h8) = no_argument v0 v1 v2 v3 h4 h5 h6 h7 h8

  joins : {a b : Part} {m : Made} → Joins k C a b m → Joins k D a b m
  joins (joining v0 v1 v2 v3 h4 h5 h6 h7) = joining v0 v1 v2 v3 h4 h5 (lift _ _ _ _ h6) h7
  joins (no_joining v0 v1 v2 h3 h4 h5 h6) = no_joining v0 v1 v2 h3 h4 h5 h6

  follows : {a p : Part} {m : Made} → Follows k C a p m → Follows k D a p m
  follows (index v0 v1 v2 h3 h4 h5 h6) = index v0 v1 v2 h3 h4 h5 h6
  follows (no_array v0 v1 h2 h3 h4 h5) = no_array v0 v1 h2 h3 h4 h5
  follows (power v0 v1 v2 v3 h4 h5 h6 h7) = power v0 v1 v2 v3 h4 h5 (lift _ _ _ _ h6) h7
  follows (no_power v0 v1 v2 h3 h4 h5 h6) = no_power v0 v1 v2 h3 h4 h5 h6
  follows (field v0 v1 v2 v3 h4 h5 h6 h7) = field v0 v1 v2 v3 h4 h5 h6 h7
  follows (no_field v0 v1 v2 h3 h4 h5 h6) = no_field v0 v1 v2 h3 h4 h5 h6
  follows (size v0 v1 v2 v3 h4 h5 h6 h7) = size v0 v1 v2 v3 h4 h5 h6 h7
  follows (method v0 v1 v2 v3 v4 v5 h6 h7 h8 h9 h10 h11) =
      method v0 v1 v2 v3 v4 v5 h6 h7 h8 h9 (lift _ _ _ _ h10) h11
  follows (no_method v0 v1 v2 v3 h4 h5 h6 h7 h8) = no_method v0 v1 v2 v3 h4 h5 h6 h7 h8
  follows (no_method_call v0 v1 v2 v3 v4 h5 h6 h7 h8 h9 h10) =
      no_method_call v0 v1 v2 v3 v4 h5 h6 h7 h8 h9 h10

  rewrites : {ps before : List Part} {place : Place} {m : Made} {after : List Part}
      → Rewritten k C ps before place m after → Rewritten k D ps before place m after
  rewrites (applied v0 v1 h2 h3 h4 h5) = applied v0 v1 h2 h3 h4 (applies h5)
  rewrites (followed v0 v1 h2 h3 h4 h5) = followed v0 v1 h2 h3 h4 (follows h5)
  rewrites (joined v0 v1 h2 h3 h4 h5 h6) = joined v0 v1 h2 h3 h4 h5 (joins h6)

  becomes : {i0 : List Part} {i1 : TypedForm} → Becomes k C i0 i1 → Becomes k D i0 i1
  becomes (whole v0 h1 h2) = whole v0 h1 h2
  becomes (on v0 v1 v2 v3 h4 h5 h6) = on v0 v1 v2 v3 (rewrites h4) h5 (becomes h6)

  groups : {ps : List Part} {i0 : Grouping} {i1 : Part} → Grouped k C ps i0 i1
      → Grouped k D ps i0 i1
  groups (of_one v0 h1 h2) = of_one v0 h1 h2
  groups (of_applied v0 v1 v2 v3 v4 h5 h6 h7 h8 h9) =
      of_applied v0 v1 v2 v3 v4 h5 (groups h6) (groups h7) (applies h8) h9
  groups (of_joined v0 v1 v2 v3 v4 h5 h6 h7 h8 h9) =
      of_joined v0 v1 v2 v3 v4 h5 (groups h6) (groups h7) (joins h8) h9
  groups (of_unapplied v0 v1 v2 v3 h4 h5 h6 h7 h8) =
      of_unapplied v0 v1 v2 v3 h4 (groups h5) (groups h6) h7 h8
  groups (of_unjoined v0 v1 v2 v3 h4 h5 h6 h7 h8) =
      of_unjoined v0 v1 v2 v3 h4 (groups h5) (groups h6) h7 h8

  stands : {ps : List Part} {t : TypedForm} → Stands k C ps t → Stands k D ps t
  stands (grouped v0 v1 h2 h3 h4) = grouped v0 v1 h2 (groups h3) h4

  compares : {i0 : List Op} {i1 : List TypedForm} {i2 : List Chosen} → Compares k C i0 i1 i2
      → Compares k D i0 i1 i2
  compares (no_more v0 h1 h2 h3) = no_more v0 h1 h2 h3
  compares (more v0 v1 v2 v3 v4 v5 v6 v7 h8 h9 h10 h11 h12 h13) =
      more v0 v1 v2 v3 v4 v5 v6 v7 h8 h9 (lift _ _ _ _ h10) h11 (compares h12) h13

  mutual
    has : {i0 : List Binding} {i1 : Form} {i2 : TypedForm} → Has k C i0 i1 i2 → Has k D i0 i1 i2
    has (number v0 v1 h2 h3) = number v0 v1 h2 h3
    has (words v0 v1 h2 h3) = words v0 v1 h2 h3
    has (truth v0 v1 h2 h3) = truth v0 v1 h2 h3
    has (receiver v0 v1 h2 h3 h4) = receiver v0 v1 h2 h3 h4
    has (local v0 v1 v2 h3 h4 h5) = local v0 v1 v2 h3 h4 h5
    has (own v0 v1 v2 v3 h4 h5 h6) = own v0 v1 v2 v3 h4 h5 h6
    has (top v0 v1 v2 v3 h4 h5 h6) = top v0 v1 v2 v3 h4 h5 h6
    has (single v0 v1 v2 h3 h4 h5) = single v0 v1 v2 h3 h4 h5
    has (parens v0 v1 h2 h3) = parens v0 v1 h2 (has_as h3)
    has (tuple v0 v1 v2 h3 h4 h5) = tuple v0 v1 v2 h3 (has_each h4) h5
    has (operator v0 v1 v2 v3 v4 v5 h6 h7 h8 h9) =
        operator v0 v1 v2 v3 v4 v5 h6 (has_each h7) (lift _ _ _ _ h8) h9
    has (chain v0 v1 v2 v3 v4 h5 h6 h7 h8) = chain v0 v1 v2 v3 v4 h5 (has_each h6) (compares h7) h8
    has (beside v0 v1 v2 h3 h4 h5) = beside v0 v1 v2 h3 (has_parts h4) (stands h5)
    has (run v0 v1 v2 h3 h4 h5) = run v0 v1 v2 h3 (has_parts h4) (becomes h5)
    has (fill v0 v1 v2 v3 v4 v5 h6 h7 h8 h9) = fill v0 v1 v2 v3 v4 v5 h6 (has_as h7) (has_as h8) h9
    has (block v0 v1 v2 v3 h4 h5 h6) = block v0 v1 v2 v3 h4 (has_items h5) h6
    has (do_one v0 v1 h2 h3) = do_one v0 v1 h2 (has_as h3)
    has (do_also v0 v1 v2 v3 v4 h5 h6 h7) = do_also v0 v1 v2 v3 v4 h5 (has_each h6) h7
    has (if_alone v0 v1 v2 v3 h4 h5 h6 h7) = if_alone v0 v1 v2 v3 h4 (has_each h5) (has_each h6) h7
    has (if_else v0 v1 v2 v3 v4 v5 v6 h7 h8 h9 h10 h11 h12) =
        if_else v0 v1 v2 v3 v4 v5 v6 h7 (has_each h8) (has_each h9) (has_as h10) h11 h12
    has (while_do v0 v1 v2 v3 v4 h5 h6 h7 h8) =
        while_do v0 v1 v2 v3 v4 h5 (has_as h6) (has_as h7) h8
    has (for_do v0 v1 v2 v3 v4 v5 h6 h7 h8 h9) =
        for_do v0 v1 v2 v3 v4 v5 h6 (has_sources h7) (has_as h8) h9
    has (case v0 v1 v2 v3 v4 v5 v6 v7 v8 v9 h10 h11 h12 h13 h14 h15) =
        case v0 v1 v2 v3 v4 v5 v6 v7 v8 v9 h10 (has_as h11) (has_clauses h12) (has_else h13) h14 h15
    has (typecase v0 v1 v2 v3 v4 v5 v6 v7 v8 v9 h10 h11 h12 h13 h14 h15 h16) =
        typecase v0 v1 v2 v3 v4 v5 v6 v7 v8 v9 h10 h11 (has_as h12) (has_cases h13) (has_else h14)
        h15 h16
    has (try_catch v0 v1 v2 v3 v4 v5 v6 v7 v8 h9 h10 h11 h12 h13 h14 h15 h16) =
        try_catch v0 v1 v2 v3 v4 v5 v6 v7 v8 h9 (has_as h10) h11 h12 (has_cases h13)
        (has_finally h14) h15 h16
    has (atomic v0 v1 v2 h3 h4 h5) = atomic v0 v1 v2 h3 (has_as h4) h5
    has (tryatomic v0 v1 v2 h3 h4 h5) = tryatomic v0 v1 v2 h3 (has_as h4) h5
    has (throw v0 v1 v2 h3 h4 h5) = throw v0 v1 v2 h3 (has_as h4) h5
    has (function v0 v1 v2 v3 v4 h5 h6 h7 h8) = function v0 v1 v2 v3 v4 h5 h6 (has_as h7) h8
    has (reduce v0 v1 v2 v3 v4 v5 v6 h7 h8 h9 h10) =
        reduce v0 v1 v2 v3 v4 v5 v6 h7 (has_sources h8) (has_as h9) h10
    has (assign v0 v1 v2 v3 v4 v5 h6 h7 h8 h9 h10 h11) =
        assign v0 v1 v2 v3 v4 v5 h6 h7 (has h8) h9 (has_as h10) h11
    has (update v0 v1 v2 v3 v4 v5 v6 v7 v8 h9 h10 h11 h12 h13 h14 h15 h16) =
        update v0 v1 v2 v3 v4 v5 v6 v7 v8 h9 h10 (has h11) h12 (has_as h13) (lift _ _ _ _ h14) h15
        h16

    pub has_as : {i0 : List Binding} {i1 : Want} {i2 : Form} {i3 : TypedForm}
        → HasAs k C i0 i1 i2 i3 → HasAs k D i0 i1 i2 i3
    has_as (suits h0 h1) = suits (has h0) h1

    has_each : {i0 : List Binding} {i1 : Want} {i2 : List Form} {i3 : List TypedForm}
        → HasEach k C i0 i1 i2 i3 → HasEach k D i0 i1 i2 i3
    has_each (no_part h0 h1) = no_part h0 h1
    has_each (part_ v0 v1 v2 v3 h4 h5 h6 h7) = part_ v0 v1 v2 v3 h4 h5 (has_as h6) (has_each h7)

    has_items : {i0 : List Binding} {i1 : List Item} {i2 : List TypedForm} {i3 : Ty}
        → HasItems k C i0 i1 i2 i3 → HasItems k D i0 i1 i2 i3
    has_items (no_item h0 h1 h2) = no_item h0 h1 h2
    has_items (last_item v0 v1 v2 h3 h4 h5 h6 h7) = last_item v0 v1 v2 h3 h4 (has_as h5) h6 h7
    has_items (expression v0 v1 v2 v3 v4 v5 h6 h7 h8 h9 h10) =
        expression v0 v1 v2 v3 v4 v5 h6 h7 (has_as h8) (has_items h9) h10
    has_items (declared v0 v1 v2 v3 v4 v5 v6 v7 v8 h9 h10 h11 h12 h13 h14) =
        declared v0 v1 v2 v3 v4 v5 v6 v7 v8 h9 h10 h11 (has_as h12) (has_items h13) h14
    has_items (declared_all v0 v1 v2 v3 v4 v5 v6 v7 v8 v9 h10 h11 h12 h13 h14 h15 h16) =
        declared_all v0 v1 v2 v3 v4 v5 v6 v7 v8 v9 h10 h11 h12 h13 (has_as h14) (has_items h15) h16

    has_sources : {i0 : List Binding} {i1 : List Generator} {i2 : List Binding}
        {i3 : List TypedForm} → HasSources k C i0 i1 i2 i3 → HasSources k D i0 i1 i2 i3
    has_sources (no_source h0 h1 h2) = no_source h0 h1 h2
    has_sources (source v0 v1 v2 v3 v4 h5 h6 h7 h8 h9 h10) =
        source v0 v1 v2 v3 v4 h5 h6 h7 (has_as h8) h9 (has_sources h10)

    has_clauses : {i0 : List Binding} {i1 : TypedForm} {i2 : List Branch} {i3 : List Chosen}
        {i4 : List TypedForm} {i5 : List TypedForm} → HasClauses k C i0 i1 i2 i3 i4 i5
        → HasClauses k D i0 i1 i2 i3 i4 i5
    has_clauses (no_clause h0 h1 h2 h3) = no_clause h0 h1 h2 h3
    has_clauses (clause v0 v1 v2 v3 v4 v5 v6 v7 v8 h9 h10 h11 h12 h13 h14 h15 h16 h17) =
        clause v0 v1 v2 v3 v4 v5 v6 v7 v8 h9 (has_as h10) (lift _ _ _ _ h11) h12 (has_as h13)
        (has_clauses h14) h15 h16 h17

    has_cases : {i0 : List Binding} {i1 : Option (Place × NameId)} {i2 : List TypeBranch}
        {i3 : List TypedForm} → HasCases k C i0 i1 i2 i3 → HasCases k D i0 i1 i2 i3
    has_cases (no_case h0 h1) = no_case h0 h1
    has_cases (case_ v0 v1 v2 v3 h4 h5 h6 h7) = case_ v0 v1 v2 v3 h4 h5 (has_as h6) (has_cases h7)

    has_else : {i0 : List Binding} {i1 : Option Form} {i2 : Option TypedForm} → HasElse k C i0 i1 i2
        → HasElse k D i0 i1 i2
    has_else (no_else h0 h1) = no_else h0 h1
    has_else (else_ v0 v1 h2 h3 h4) = else_ v0 v1 h2 (has_as h3) h4

    has_finally : {i0 : List Binding} {i1 : Option Form} {i2 : Option TypedForm}
        → HasFinally k C i0 i1 i2 → HasFinally k D i0 i1 i2
    has_finally (no_finally h0 h1) = no_finally h0 h1
    has_finally (finally_ v0 v1 h2 h3 h4) = finally_ v0 v1 h2 (has_as h3) h4

    has_parts : {i0 : List Binding} {i1 : List Form} {i2 : List Part} → HasParts k C i0 i1 i2
        → HasParts k D i0 i1 i2
    has_parts (no_element h0 h1) = no_element h0 h1
    has_parts (element_ v0 v1 v2 v3 h4 h5 h6 h7) =
        element_ v0 v1 v2 v3 h4 h5 (means h6) (has_parts h7)

    means : {i0 : List Binding} {i1 : Form} {i2 : Meaning} → Means k C i0 i1 i2 → Means k D i0 i1 i2
    means (a_named v0 h1 h2) = a_named v0 h1 h2
    means (a_valued v0 h1 h2) = a_valued v0 (has_as h1) h2
    means (an_index v0 v1 v2 h3 h4 h5) = an_index v0 v1 v2 h3 (has_as h4) h5
    means (an_exponent v0 v1 v2 h3 h4 h5) = an_exponent v0 v1 v2 h3 (has_as h4) h5
    means (a_field_of v0 v1 v2 h3 h4) = a_field_of v0 v1 v2 h3 h4
    means (a_method_of v0 v1 v2 v3 v4 h5 h6 h7) = a_method_of v0 v1 v2 v3 v4 h5 (has_each h6) h7
