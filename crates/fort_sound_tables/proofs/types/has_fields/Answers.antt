use Rattle.std.proofs.Common.{◌≡◌, true, false, length, sym, ◌∙◌, subst, arith}
use Rattle.fort_core.specs.declared.value.Value.{Value}
use Rattle.fort_threads_law_tables.specs.Tabled.{HasConstant}
use Rattle.fort_sound_tables.specs.Numbers.{names}
use Rattle.fort_sound_tables.proofs.Lists.{four_items}
use Rattle.fort_sound_tables.proofs.Members.{fields_by}
use Rattle.fort_sound_tables.proofs.types.has_fields.Goals as goal
use Rattle.fort_sound_tables.proofs.types.has_fields.Goals.{then-is_field, else-is_field}

pub returns-in-len4 : goal.returns-in-len4
returns-in-len4 c ok =
    elim c.if-is_field.branch [
      | then-is_field w ↦
          let h = sym w.result-is ∙ ok in
          let l : length c.as_slice.result.now ≡ 4 =
          omega (arith, c.in-len4.len_at_least, c.in-len4.len_below) in
          fields_by c.args.program.now (names c.args.x.now) c.in-Some.shape.now c.body-item.result
          c.state-item.result c.value-item.result c.next-item.result (sym c.in-Some.ensures.value)
          (sym c.as_slice.ensures
          ∙ four_items c.as_slice.result.now _ _ _ _ l c.body-item.is c.state-item.is
          c.value-item.is c.next-item.is)
          (c.is_field.ensures w.if-is_field.true) (w.hold.ensures.state h)
          (subst (λ (u : Value). HasConstant c.value-item.result c.args.x.now.fields.value u)
          c.in_ok-unit.ensures (w.hold.ensures.value h))
          (subst (λ (u : Value). HasConstant c.next-item.result c.args.x.now.fields.next u)
          c.in_ok-unit.ensures (w.hold.ensures.next h))
          (c.differ.ensures c.if-not-differ.false)
      | else-is_field w ↦
          let z : true ≡ false = sym ok ∙ w.result-is ∙ w.if-is_field.false in absurd cc
    ]
