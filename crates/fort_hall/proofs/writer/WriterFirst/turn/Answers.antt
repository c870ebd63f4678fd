use Rattle.std.proofs.Common.{refl}
use Rattle.fort_hall.proofs.Watching.{within_longer, writes_next}
use Rattle.fort_hall.proofs.writer.WriterFirst.turn.Goals as goal

pub returns-clause-ready : goal.returns-clause-ready
returns-clause-ready g c = (
  c.copy_next-count.ensures.watches,
  λ calm. (
    within_longer _ _ _ _ _ c.copy_next-count.ensures.grows c.copy_next-count.ensures.next
        (c.requires.1 c.if-self.false).0 (c.write_piece-self.ensures.whole calm),
    c.write_piece-self.ensures.ready calm,
  ),
)

pub returns-clause-keeps : goal.returns-clause-keeps
returns-clause-keeps g c = (
  c.copy_next-count.ensures.made,
  refl,
  refl,
  refl,
  writes_next _ _ _ _ _ _ _ _ c.copy_next-count.ensures.grows c.copy_next-count.ensures.next c.if-self.false
      c.write_piece-self.ensures.written,
)
