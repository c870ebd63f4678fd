use Rattle.fort_hall_forms.proofs.after.node_form.Goals as goal

pub term-requires : goal.term-requires
term-requires c = (c.requires, c.in_default.not-Group)
