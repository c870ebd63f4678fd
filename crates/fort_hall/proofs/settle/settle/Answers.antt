use Rattle.std.proofs.Common.{length, sym, ap, ◌∙◌, subst}
use Rattle.fort_turn.specs.Passes.{made_by, seen_by}
use Rattle.fort_hall.specs.Gathered.{Counts}
use Rattle.fort_hall.proofs.Chain.{begins_at, closes, all_taken}
use Rattle.fort_hall.proofs.Watching.{output_in_the_end}
use mathlib.Core.List.{IsPrefix}
use Rattle.fort_turn.specs.Book.{log_of}
use Rattle.fort_hall.proofs.settle.settle.Goals as goal

pub gather-legs-requires-clause-first : goal.gather-legs-requires-clause-first
gather-legs-requires-clause-first g c =
    let f = c.requires.first in
    begins_at g.M.Machine.history g.M.Machine.origin g.M.Machine.by c.args.turn g.M.Machine.start c.args.legs.items (length c.args.workers.items) c.args.first f.book f.idle f.first f.numbers f.seen f.origin_is f.none

pub close-requires-clause-all : goal.close-requires-clause-all
close-requires-clause-all g c =
    all_taken g.M.Machine.history g.M.Machine.origin g.M.Machine.by c.args.turn g.M.Machine.start c.gather-legs.result.items (length c.args.workers.items) c.gather-legs.new.first c.gather-legs.ensures.first (c.gather-legs.ensures.made ∙ c.requires.made)

pub returns-clause-keeps : goal.returns-clause-keeps
returns-clause-keeps g c =
    let h = c.gather-legs.ensures.first in (
      c.into_book-book.ensures.keeps,
      ap g.M.Machine.origin c.into_book-book.ensures.same ∙ (c.close.ensures.book.origin_is h.book h.seen ∙ h.origin_is),
    )

pub returns-clause-counts : goal.returns-clause-counts
returns-clause-counts g c =
    subst (Counts g.M.Machine.history g.M.Machine.by c.gather-legs.result.items) (sym c.into_book-book.ensures.same)
    (closes g.M.Machine.history g.M.Machine.origin g.M.Machine.by c.args.turn g.M.Machine.start c.gather-legs.result.items (length c.args.workers.items) (made_by c.gather-legs.new.first) c.gather-legs.new.first c.close.result
    c.gather-legs.ensures.first c.gather-legs.ensures.long (c.gather-legs.ensures.made ∙ c.requires.made) c.close.ensures.book c.close.ensures.others)

pub returns-clause-output : goal.returns-clause-output
returns-clause-output g c =
    let same = c.into_book-book.ensures.same in
    subst (λ (b : g.row.M-Book.Denot). IsPrefix (log_of g.M.Machine.output (seen_by c.args.first)) (g.M.Machine.output b)) (sym same)
    (output_in_the_end g.M.Machine.keeps g.M.Machine.history g.M.Machine.origin g.M.Machine.by g.M.Machine.output g.met.M.Machine.grows
    c.args.turn g.M.Machine.start c.args.first c.gather-legs.new.first c.close.result c.requires.first c.gather-legs.ensures.more
    (subst g.M.Machine.keeps same c.into_book-book.ensures.keeps) c.close.ensures.book)
