use Rattle.fort_threads_law_calls.proofs.Answered.{each_call_is_answered}
use Rattle.fort_threads_law_calls.proofs.each_call_is_answered.Goals as goal

pub returns : goal.returns
returns c = each_call_is_answered
