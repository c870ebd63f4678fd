use Rattle.std.proofs.Common.{refl}
use Rattle.fort_run.specs.Reply.{Unread, TooLarge}
use Rattle.fort_run.proofs.Meaning.{from_before}
use Rattle.fort_run.proofs.reply.asked.Goals as goal

pub judged-requires-clause-is_text : goal.judged-requires-clause-is_text
judged-requires-clause-is_text g c = rw c.in-Ok.ensures.kept c.in-Ok.ensures.text

pub returns-in-Ok-clause-means : goal.returns-in-Ok-clause-means
returns-in-Ok-clause-means g c =
    from_before _ _ _ _ _ c.args.command c.judged.result c.in-Ok.ensures.kept c.in-Ok.ensures.calm
    c.judged.ensures.means

pub returns-in-Err-Failed-clause-means : goal.returns-in-Err-Failed-clause-means
returns-in-Err-Failed-clause-means g c words is =
    Unread c.args.command is (rw c.in-Err-Failed.field-0-is at c.in-Err-Failed.ensures.stops) refl

pub returns-in-Err-TooLarge-clause-means : goal.returns-in-Err-TooLarge-clause-means
returns-in-Err-TooLarge-clause-means g c words is =
    let stops = rw c.in-Err-TooLarge.field-0-is at c.in-Err-TooLarge.ensures.stops in
    TooLarge c.args.command stops.1.0 is stops.1.1 stops.1.2 stops.0 refl
