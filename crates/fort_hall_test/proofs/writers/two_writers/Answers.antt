use Rattle.std.proofs.Common.{rules, ◌≡◌, ◌+◌, ℕ, ◌≤◌, List, [], length, Some, sym, ap, ◌∙◌, subst, arith}
use Rattle.fort_turn.specs.Book.{entries_by}
use Rattle.fort_turn.specs.Passes.{seen_by, made_by}
use Rattle.fort_hall_test.specs.declared.book.Line.{Line}
use Rattle.fort_hall_test.specs.Lines.{lines}
use Rattle.fort_hall_test.specs.Wrote.{lines_in, HasWritten}
use Rattle.fort_hall_test.proofs.Joined.{BothIn, of_start, of_one, of_other}
use Rattle.fort_hall_test.proofs.Counted.{counted, length_lines}
use Rattle.fort_hall_test.proofs.writers.two_writers.Given.{Over}
use Rattle.fort_hall_test.proofs.writers.two_writers.Goals as goal

first_seen : (g : Over) (c : goal.After-close g)
    → seen_by c.split-other.new.pass ≡ Some c.new.result
first_seen g c = c.split-other.ensures.same.4 ∙ (c.split-one.ensures.same.4 ∙ c.in-Ok.ensures.seen)

both_in : (g : Over) (c : goal.After-close g)
    → BothIn c.split-other.new.pass c.in_ok-one.one c.join.new.pass c.in_ok-other.other
    c.join-2.new.pass c.close.result
both_in g c = record {
  start_numbers =
      c.split-other.ensures.same.2 ∙ (c.split-one.ensures.same.2 ∙ c.in-Ok.ensures.number.1);
  mid_numbers = c.join.ensures.numbers;
  end_numbers = c.join-2.ensures.numbers;
  first_book = c.join.ensures.seen.0;
  mid_seen = c.join.ensures.seen.1;
  start_goes = c.join.ensures.seen.2;
  one_goes = c.join.ensures.seen.3;
  second_book = c.join-2.ensures.seen.0;
  end_seen = c.join-2.ensures.seen.1;
  mid_goes = c.join-2.ensures.seen.2;
  other_goes = c.join-2.ensures.seen.3;
  end_goes = c.close.ensures.book;
}

one_wrote : (g : Over) (c : goal.After-close g)
    → HasWritten c.in_ok-one.one 1 (lines 1 c.args.count)
one_wrote g c = search rules

other_wrote : (g : Over) (c : goal.After-close g)
    → HasWritten c.in_ok-other.other 2 (lines 2 c.args.count)
other_wrote g c = search rules

pub returns-clause-year : goal.returns-clause-year
returns-clause-year g c =
    let one = c.join.ensures.seen in
    let two = c.join-2.ensures.seen in
    c.close.ensures.book.origin_is two.0 two.1
    ∙ (two.2.origin_is one.0 one.1 ∙ (one.2.origin_is _ (first_seen g c) ∙ c.new.ensures.1))

pub returns-clause-one : goal.returns-clause-one
returns-clause-one g c =
    of_one _ _ _ _ _ _ (lines 1 c.args.count) (lines 2 c.args.count) (both_in g c) (one_wrote g c)
    (other_wrote g c)

pub returns-clause-other : goal.returns-clause-other
returns-clause-other g c =
    of_other _ _ _ _ _ _ (lines 1 c.args.count) (lines 2 c.args.count) (both_in g c) (one_wrote g c)
    (other_wrote g c)

pub returns-clause-all : goal.returns-clause-all
returns-clause-all g c =
    let made : made_by c.join-2.new.pass ≡ 3 =
    c.join-2.ensures.same.1
    ∙ (c.join.ensures.same.1
    ∙ (let a = c.split-other.ensures.same.1 in let b = c.split-one.ensures.same.1
    in let d = c.in-Ok.ensures.first.1 in omega arith)) in
    let zero : lines_in 0 (Some c.close.result) ≡ [] =
    of_start _ _ _ _ _ _ (lines 1 c.args.count) (lines 2 c.args.count) (both_in g c)
    (one_wrote g c) (other_wrote g c)
    ∙ (ap (lines_in 0) (first_seen g c) ∙ ap (λ
    (ls : List Line). entries_by (λ (l : Line). l.pass) 0 ls) c.new.ensures.0) in
    let one =
    ap length
    (of_one _ _ _ _ _ _ (lines 1 c.args.count) (lines 2 c.args.count) (both_in g c)
    (one_wrote g c) (other_wrote g c)) in
    let other =
    ap length
    (of_other _ _ _ _ _ _ (lines 1 c.args.count) (lines 2 c.args.count) (both_in g c)
    (one_wrote g c) (other_wrote g c)) in
    let none = ap length zero in
    omega (
      arith,
      counted c.close.result.lines.items
          (λ n l. c.close.ensures.others n (subst (λ (m : ℕ). m ≤ n) (sym made) l)),
      length_lines 1 c.args.count,
      length_lines 2 c.args.count,
    )
