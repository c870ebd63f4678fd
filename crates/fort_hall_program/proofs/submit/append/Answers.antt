use Rattle.std.proofs.Common.{rules, ◌≡◌, refl, ap, ◌∙◌}
use Rattle.std.specs.Prelude.{Err}
use Rattle.fort_store_effects.specs.Levels.{effect_of}
use Rattle.fort_hall_books.specs.Answers.{Appends}
use Rattle.fort_hall_books.specs.Books.{origin_of}
use Rattle.fort_hall_books.specs.declared.book.Book.{Book}
use Rattle.fort_hall_program.proofs.Submitting.{alone_here, fits_here, has_done, has_stayed, kept_on, kept_stays, kept_still, no_more, one_more, silent_is}
use Rattle.fort_hall_program.proofs.submit.append.Goals as goal

-- ---- it was appended

pub go_on-requires-clause-silent : goal.go_on-requires-clause-silent
go_on-requires-clause-silent c = silent_is _ (effect_of c.args.leg.done) c.in_ok-more.ensures

pub go_on-requires-clause-fits : goal.go_on-requires-clause-fits
go_on-requires-clause-fits c =
    let x = c.args.book.now in
    let a : Appends c.args.leg c.args.pass c.args.whole x.book c.submit.new.self =
    has_done c.args.leg c.args.pass c.args.whole x.book c.submit.new.self _ _
    c.in_ok-why.ensures.answered c.in-Done.is in
    fits_here c.args.program.now c.args.most x c.args.leg _ c.requires.keeps a.suits
    c.in_ok-more.ensures

pub go_on-requires-clause-alone : goal.go_on-requires-clause-alone
go_on-requires-clause-alone c =
    alone_here c.args.program.now c.args.most c.args.book.now c.requires.keeps

pub returns-in-Done-clause-keeps : goal.returns-in-Done-clause-keeps
returns-in-Done-clause-keeps c =
    let x = c.args.book.now in
    let a : Appends c.args.leg c.args.pass c.args.whole x.book c.submit.new.self =
    has_done c.args.leg c.args.pass c.args.whole x.book c.submit.new.self _ _
    c.in_ok-why.ensures.answered c.in-Done.is in
    kept_on c.args.program.now c.args.most x c.go_on.new.self c.submit.new.self c.args.leg
    c.args.pass c.args.whole _ c.requires.keeps c.in_ok-why.ensures.kept
    c.in_ok-why.ensures.same a c.in_ok-more.ensures c.go_on.ensures.book c.go_on.ensures.now

pub returns-in-Done-clause-origin : goal.returns-in-Done-clause-origin
returns-in-Done-clause-origin c =
    ap origin_of c.go_on.ensures.book ∙ c.in_ok-why.ensures.same.origin

pub returns-in-Done-clause-history : goal.returns-in-Done-clause-history
returns-in-Done-clause-history c =
    let x = c.args.book.now in
    let a : Appends c.args.leg c.args.pass c.args.whole x.book c.submit.new.self =
    has_done c.args.leg c.args.pass c.args.whole x.book c.submit.new.self _ _
    c.in_ok-why.ensures.answered c.in-Done.is in
    one_more c.args.leg c.args.pass c.args.whole x.book c.submit.new.self c.go_on.new.self.book a
    c.go_on.ensures.book

-- ---- it is stale

pub returns-in-Stale-clause-keeps : goal.returns-in-Stale-clause-keeps
returns-in-Stale-clause-keeps c =
    let x = c.args.book.now in
    let same : c.submit.new.self ≡ x.book =
    has_stayed c.args.leg c.args.pass c.args.whole x.book c.submit.new.self _ _ _
    c.in_ok-why.ensures.answered c.in-Stale.is in
    kept_still c.args.program.now c.args.most x _ c.requires.keeps same refl

pub returns-in-Stale-clause-origin : goal.returns-in-Stale-clause-origin
returns-in-Stale-clause-origin c = c.in_ok-why.ensures.same.origin

pub returns-in-Stale-clause-history : goal.returns-in-Stale-clause-history
returns-in-Stale-clause-history c =
    let x = c.args.book.now in
    let same : c.submit.new.self ≡ x.book =
    has_stayed c.args.leg c.args.pass c.args.whole x.book c.submit.new.self _ _ _
    c.in_ok-why.ensures.answered c.in-Stale.is in
    ap (λ (b : Book). b.entries) same

-- ---- memory was wanting

pub returns-in_err-why-clause-keeps : goal.returns-in_err-why-clause-keeps
returns-in_err-why-clause-keeps c =
    kept_stays c.args.program.now c.args.most c.args.book.now _ c.submit.new.self c.requires.keeps
    c.in_err-why.ensures.kept c.in_err-why.ensures.same c.in_err-why.ensures.answered refl
    refl

pub returns-in_err-why-clause-origin : goal.returns-in_err-why-clause-origin
returns-in_err-why-clause-origin c = c.in_err-why.ensures.same.origin

pub returns-in_err-why-clause-history : goal.returns-in_err-why-clause-history
returns-in_err-why-clause-history c =
    let is : c.from_residual-in_err-why.result ≡ Err c.in_err-why.field-0.0 = search rules in
    no_more c.args.pass _ _ _ _ is c.in_err-why.ensures.answered.entries
