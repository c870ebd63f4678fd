use Rattle.fort_hall_program.proofs.Submitting.{put_whole}
use Rattle.fort_hall_program.proofs.submit.whole_with.Goals as goal

pub returns : goal.returns
returns c =
    put_whole _ _ _ _ _ _ _ _ c.term.ensures c.as_slice-path.ensures c.in_ok-next.ensures
    c.put_in.ensures.put
