use Rattle.std.proofs.Common.{◌≡◌, [], ◌∷◌, ◌++◌, List, length, sym, ap, ◌∙◌}
use Rattle.fort_deck.specs.declared.held.Thief.{Thief}
use Rattle.fort_deck.specs.Thefts.{jobs_by}
use Rattle.fort_deck.specs.Decks.{IsThiefOf, put_by, owned_by, number_of, stolen_by, left_of}
use Rattle.fort_hall_test.proofs.Settled.{counts_one, the_thief, all_one}
use Rattle.fort_hall_test.proofs.closing.close_with_one.Goals as goal

pub close-requires-clause-thieves : goal.close-requires-clause-thieves
close-requires-clause-thieves c =
    let is : c.push.new.self ≡ c.args.thief ∷ [] =
    c.in-Ok.ensures.ok ∙ ap (λ (ts : List Thief). ts ++ c.args.thief ∷ []) c.new-thieves.ensures
    in (
      all_one (IsThiefOf c.args.deck) c.push.new.self c.args.thief is c.requires.1,
      ap length is
          ∙ sym c.requires.2,
    )

pub returns-in-Ok-clause-count : goal.returns-in-Ok-clause-count
returns-in-Ok-clause-count c =
    let is : c.push.new.self ≡ c.args.thief ∷ [] =
    c.in-Ok.ensures.ok ∙ ap (λ (ts : List Thief). ts ++ c.args.thief ∷ []) c.new-thieves.ensures
    in
    counts_one (put_by c.args.owner) (owned_by c.args.owner) (left_of c.close.result)
    c.push.new.self c.args.thief is c.close.ensures.all

pub returns-in-Ok-clause-order : goal.returns-in-Ok-clause-order
returns-in-Ok-clause-order c =
    let is : c.push.new.self ≡ c.args.thief ∷ [] =
    c.in-Ok.ensures.ok ∙ ap (λ (ts : List Thief). ts ++ c.args.thief ∷ []) c.new-thieves.ensures
    in
    let o = c.close.ensures.order in (
      o.0,
      o.1,
      the_thief (λ
          (t : Thief). stolen_by t
          ≡ jobs_by (number_of t) o.0) c.push.new.self c.args.thief is o.2,
    )
