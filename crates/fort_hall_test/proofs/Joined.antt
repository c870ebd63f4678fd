-- Two passes that were taken in: what each wrote stands in the book.
use Rattle.std.proofs.Common.{◌≡◌, ℕ, Bool, true, List, [], ◌∷◌, ◌++◌, Option, Some, refl, sym, ap, ◌∙◌}
use Rattle.fort_turn.specs.declared.held.Pass.{Pass}
use Rattle.fort_turn.specs.Book.{has, Follows}
use Rattle.fort_turn.specs.Passes.{seen_by, numbers_of}
use Rattle.fort_hall_test.specs.declared.book.Line.{Line}
use Rattle.fort_hall_test.specs.declared.book.Book.{Book}
use Rattle.fort_hall_test.specs.Wrote.{history_of, lines_in, HasWritten}

abbrev year_of : Book → ℕ
year_of b = b.year

abbrev by_of : Line → ℕ
by_of l = l.pass

abbrev Goes : Pass Book → Book → Type 0
Goes p b = Follows history_of year_of by_of (seen_by p) (numbers_of p) b

pub record BothIn (start one mid other end : Pass Book) (book : Book) : Type 0 where
  pub start_numbers : numbers_of start ≡ 0 ∷ []
  pub mid_numbers : numbers_of mid ≡ numbers_of start ++ numbers_of one
  pub end_numbers : numbers_of end ≡ numbers_of mid ++ numbers_of other
  pub first_book : Book
  pub mid_seen : seen_by mid ≡ Some first_book
  pub start_goes : Goes start first_book
  pub one_goes : Goes one first_book
  pub second_book : Book
  pub end_seen : seen_by end ≡ Some second_book
  pub mid_goes : Goes mid second_book
  pub other_goes : Goes other second_book
  pub end_goes : Goes end book

module _ (start one mid other end : Pass Book) (book : Book) (x y : List Line)
    (b : BothIn start one mid other end book) (w : HasWritten one 1 x)
    (z : HasWritten other 2 y) where
  mid_has : (k : ℕ) → has k (0 ∷ 1 ∷ []) ≡ true → has k (numbers_of mid) ≡ true
  mid_has k h = ap (has k) (b.mid_numbers ∙ (λ i. b.start_numbers i ++ w.1 i)) ∙ h

  end_has : (k : ℕ) → has k (0 ∷ 1 ∷ 2 ∷ []) ≡ true → has k (numbers_of end) ≡ true
  end_has k h =
      ap (has k) (b.end_numbers
      ∙ (λ i. (b.mid_numbers ∙ (λ j. b.start_numbers j ++ w.1 j)) i ++ z.1 i)) ∙ h

  -- from the first join on
  later : (k : ℕ) → has k (0 ∷ 1 ∷ []) ≡ true → has k (0 ∷ 1 ∷ 2 ∷ []) ≡ true
      → lines_in k (Some book) ≡ lines_in k (Some b.first_book)
  later k h h' =
      b.end_goes.own k (end_has k h')
      ∙ (ap (lines_in k) b.end_seen ∙ (b.mid_goes.own k (mid_has k h) ∙ ap (lines_in k) b.mid_seen))

  pub of_start : lines_in 0 (Some book) ≡ lines_in 0 (seen_by start)
  of_start = later 0 refl refl ∙ b.start_goes.own 0 (ap (has 0) b.start_numbers)

  pub of_one : lines_in 1 (Some book) ≡ x
  of_one = later 1 refl refl
      ∙ (b.one_goes.own 1 (ap (has 1) w.1)
      ∙ (ap (λ (n : ℕ). lines_in n (seen_by one)) (sym w.0) ∙ w.3))

  pub of_other : lines_in 2 (Some book) ≡ y
  of_other =
      b.end_goes.own 2 (end_has 2 refl)
      ∙ (ap (lines_in 2) b.end_seen
      ∙ (b.other_goes.own 2 (ap (has 2) z.1)
      ∙ (ap (λ (n : ℕ). lines_in n (seen_by other)) (sym z.0) ∙ z.3)))
