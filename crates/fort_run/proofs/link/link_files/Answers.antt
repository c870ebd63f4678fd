use Rattle.std.proofs.Common.{refl, sym, subst, ◌≤◌}
use Rattle.fort_cmd.specs.Words.{most_files}
use Rattle.fort_run.specs.Reply.{FilesTooLarge, FilesUnread}
use Rattle.fort_run.proofs.Linked.{as_many, files_mean}
use Rattle.fort_run.proofs.link.link_files.Goals as goal

pub link_texts-requires-clause-count : goal.link_texts-requires-clause-count
link_texts-requires-clause-count g c =
    subst (λ n. (1 ≤ n) × (n ≤ most_files))
    (sym (as_many (g.F.Shelf.holding c.args.shelf.now) c.args.names.now c.in-Ok.files
    c.in-Ok.ensures.files)) c.requires.count

pub returns-in-Ok-clause-means : goal.returns-in-Ok-clause-means
returns-in-Ok-clause-means g c =
    files_mean (g.F.Shelf.holding c.args.shelf.now) _ _ c.args.names.now c.in-Ok.files c.args.fuel
    c.link_texts.result c.in-Ok.ensures.files c.in-Ok.ensures.within c.in-Ok.ensures.calm
    c.link_texts.ensures

pub returns-in-Err-Failed-clause-means : goal.returns-in-Err-Failed-clause-means
returns-in-Err-Failed-clause-means g c =
    FilesUnread (rw c.in-Err-Failed.field-0-is at c.in-Err-Failed.ensures.stops) refl

pub returns-in-Err-TooLarge-clause-means : goal.returns-in-Err-TooLarge-clause-means
returns-in-Err-TooLarge-clause-means g c =
    let stops = rw c.in-Err-TooLarge.field-0-is at c.in-Err-TooLarge.ensures.stops in
    FilesTooLarge stops.1 stops.0 refl
