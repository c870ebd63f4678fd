use Rattle.std.proofs.Common.{Err, sym, subst, ◌∙◌}
use Rattle.fort_link.specs.declared.answer.LinkFault.{LinkFault}
use Rattle.fort_link.specs.Reading.{ReadAnswers}
use Rattle.fort_link.proofs.Files.{file_short, file_room, read_more, refused}
use Rattle.fort_link.proofs.reading.read_files.Goals as goal

pub add-requires-clause-short : goal.add-requires-clause-short
add-requires-clause-short c =
    file_short c.args.files.now c.loop-i.i c.as_slice.result.now _ c.loop-i-test.true
    (c.as_slice.ensures ∙ c.index-files-i.is) c.requires.small

pub add-requires-clause-room : goal.add-requires-clause-room
add-requires-clause-room c =
    file_room c.args.files.now c.loop-i.i c.as_slice.result.now _ c.loop-i.read c.loop-i-test.true
    c.requires.count c.requires.small (c.as_slice.ensures ∙ c.index-files-i.is) c.loop-i.invariant

pub returns-in-Err : goal.returns-in-Err
returns-in-Err c =
    subst (λ (f : LinkFault). ReadAnswers c.args.files.now (Err f)) (sym c.fault_in.ensures)
    (refused c.args.files.now c.loop-i.i c.as_slice.result.now _ c.loop-i.read c.add.new.self
    c.in-Err.fault
    c.loop-i-test.true (c.as_slice.ensures ∙ c.index-files-i.is) c.loop-i.invariant
    c.in-Err.ensures)

pub loop-i-preserved : goal.loop-i-preserved
loop-i-preserved c =
    read_more c.args.files.now c.loop-i.i c.as_slice.result.now _ c.loop-i.read c.add.new.self
    c.loop-i-test.true (c.as_slice.ensures ∙ c.index-files-i.is) c.loop-i.invariant
    c.in-Ok.ensures
