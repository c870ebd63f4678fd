use Rattle.fort_threads_law_calls.proofs.Answered.{each_call_finds_open}
use Rattle.fort_threads_law_calls.proofs.each_call_finds_open.Goals as goal

pub returns : goal.returns
returns c = each_call_finds_open
