use Rattle.std.proofs.Common.{◌∷◌, ◌++◌, [], refl, sym, subst}
use Rattle.fort_plain.specs.Paths.{whole}
use Rattle.fort_plain.specs.Takes.{ActsOn}
use Rattle.fort_plain.specs.Within.{IsInside}
use Rattle.fort_plain.proofs.Sources.{first_source}
use Rattle.fort_plain.proofs.Taking.{begun_attempt, illegal_first, last_first, out_first, passes_first, root_stays, root_throws}
use Rattle.fort_plain.proofs.take.first.Goals as goal

pub act-requires-clause-turn : goal.act-requires-clause-turn
act-requires-clause-turn c = λ e. refl

pub returns-in-Goes : goal.returns-in-Goes
returns-in-Goes c =
    let g = c.args.going in
    out_first _ g.course _ _ _
    (subst (ActsOn c.args.program.now g.course (whole g.course.clock g.state) _ c.args.pick.now)
    c.in-Goes.is c.in_ok-going.ensures) c.requires.outside

pub within_of-source-requires : goal.within_of-source-requires
within_of-source-requires c =
    let g = c.args.going in
    begun_attempt _ g.course _ _
    (subst (ActsOn c.args.program.now g.course (whole g.course.clock g.state) _ c.args.pick.now)
    c.in-Opens.is c.in_ok-going.ensures)

pub returns-in-Opens : goal.returns-in-Opens
returns-in-Opens c =
    let g = c.args.going in
    subst (λ os. IsInside c.args.program.now g.course.fuel c.args.ajar
    (g.course.picks ++ c.args.pick.now ∷ [])
    (record { going = c.in-Opens.going; source = c.within_of-source.result; outer = os }))
    (sym c.new-outer.ensures)
    (first_source _ g.course _ _ c.args.ajar _
    (subst (ActsOn c.args.program.now g.course (whole g.course.clock g.state) _
    c.args.pick.now) c.in-Opens.is c.in_ok-going.ensures) c.requires.outside
    c.within_of-source.ensures)

pub unreachable-requires : goal.unreachable-requires
unreachable-requires c =
    let g = c.args.going in
    root_stays _ g.course _ _ _
    (subst (ActsOn c.args.program.now g.course (whole g.course.clock g.state) _ c.args.pick.now)
    c.in-Leaves.is c.in_ok-going.ensures) c.requires.outside

pub unreachable-requires-in-Unclosed : goal.unreachable-requires-in-Unclosed
unreachable-requires-in-Unclosed c =
    let g = c.args.going in
    root_throws _ g.course _ _ _
    (subst (ActsOn c.args.program.now g.course (whole g.course.clock g.state) _ c.args.pick.now)
    c.in-Unclosed.is c.in_ok-going.ensures) c.requires.outside

pub returns-in-Illegal : goal.returns-in-Illegal
returns-in-Illegal c =
    let g = c.args.going in
    illegal_first _ g c.args.ajar _ _ c.requires.going c.requires.outside refl
    (subst (ActsOn c.args.program.now g.course (whole g.course.clock g.state) _ c.args.pick.now)
    c.in-Illegal.is c.in_ok-going.ensures)

pub returns-in-Passes : goal.returns-in-Passes
returns-in-Passes c =
    let g = c.args.going in
    passes_first _ g c.args.ajar _ _ c.requires.going c.requires.outside refl
    (subst (ActsOn c.args.program.now g.course (whole g.course.clock g.state) _ c.args.pick.now)
    c.in-Passes.is c.in_ok-going.ensures)

pub returns-in-Last : goal.returns-in-Last
returns-in-Last c =
    let g = c.args.going in
    last_first _ g _ _ _ _ c.args.ajar c.requires.going c.requires.outside refl
    (subst (ActsOn c.args.program.now g.course (whole g.course.clock g.state) _ c.args.pick.now)
    c.in-Last.is c.in_ok-going.ensures)
