-- The chapter "Tokens", no definition of it: what the scanning functions find, as functions of the
-- text. The laws in proofs/ say what these mean in the words of the other files, and no public
-- clause cites them.
use Rattle.std.specs.Prelude.{ℕ, suc, ◌+◌, ◌<◌, ◌≤◌, ◌-◌, Bool, true, false, cond, ◌&&◌, ◌==◌, List, [], ◌∷◌, Option, None, Some, drop, get_or}
use Rattle.std.specs.Option.{option_map, option_map_or}
use Rattle.std.specs.List.{prefix_len}
use Rattle.fort_lex_scan.specs.Gaps.{is_white, is_no_line_feed}
use Rattle.fort_lex_scan.specs.declared.gap.Before.{Before}
use Rattle.fort_lex_scan.specs.declared.gap.Before.TheVariants.{Other, Open, Star}
use Rattle.fort_lex_scan.specs.declared.gap.PartEnd.{PartEnd}
use Rattle.fort_lex_scan.specs.declared.gap.PartEnd.TheVariants.{Stop, Unclosed, Part}

-- what the character before may begin, inside a comment
abbrev pub mark_of : ℕ → Before
mark_of c = cond (c == 40) Open (cond (c == 42) Star Other)

-- Where a comment ends, in the text behind its `(*`: how many characters go up to and with its
-- `*)`, where depth further ones inside it are still open, and mark says what stands directly
-- before.
abbrev pub comment_end : ℕ → Before → List ℕ → Option ℕ
comment_end depth mark [] = None
comment_end depth Open (c ∷ cs) =
    option_map suc
    (cond (c == 42) (comment_end (depth + 1) Other cs) (comment_end depth (mark_of c) cs))
comment_end depth Star (c ∷ cs) =
    option_map suc
    (cond (c == 41) (cond (depth == 0) (Some 0) (comment_end (depth - 1) Other cs))
    (comment_end depth (mark_of c) cs))
comment_end depth Other (c ∷ cs) = option_map suc (comment_end depth (mark_of c) cs)

-- how many characters after the opening quote close a text
abbrev pub text_end : Bool → List ℕ → Option ℕ
text_end escaped [] = None
text_end true (c ∷ cs) = cond (c == 10) None (option_map suc (text_end false cs))
text_end false (c ∷ cs) =
    cond (c == 34) (Some 1) (cond (c == 10) None (option_map suc (text_end (c == 92) cs)))

-- the part of a gap at the front of the text: how long it is, or that a comment isn't closed, or
-- that there is none
abbrev pub part_end : List ℕ → PartEnd
part_end text = cond (is_white (get_or text 0 0)) (Part 1)
    (cond ((get_or text 0 0 == 40) && (get_or text 1 0 == 42))
    (cond (get_or text 2 0 == 41) (Part (3 + prefix_len is_no_line_feed (drop 3 text)))
    (option_map_or (λ n. Part (2 + n)) (comment_end 0 Other (drop 2 text)) Unclosed))
    Stop)

abbrev pub WithinPart : ℕ → PartEnd → Type 0
WithinPart n (Part k) = (0 < k) × (k ≤ n)
WithinPart n Stop = Unit {0}
WithinPart n Unclosed = Unit {0}
