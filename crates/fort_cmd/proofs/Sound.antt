-- Words that the parser takes are words of a command.
use Rattle.std.proofs.Common.{◌≡◌, ◌<◌, ◌≤◌, ◌+◌, ◌==◌, ◌||◌, ℕ, zero, suc, Bool, true, false, refl, ap, sym, ◌∙◌, subst, arith, inl, inr, List, [], ◌∷◌, ◌++◌, length, append_assoc}
use Rattle.std.specs.Prelude.{codes, not, Option, Some, None}
use Rattle.std.specs.List.{before_first, after_first, prefix_len}
use Rattle.std.specs.Str.{IsUtf8, bytes_eq}
use Rattle.std.specs.Str.Parse.{digits_value, without_leading_plus}
use Rattle.std.proofs.lemmas.Bool.{eqb-true}
use Rattle.clap.specs.Lexer.{has_byte, long_of, name_and_value}
use Rattle.clap.specs.Walk.{Row, Text, Waiting, Walk, arg_by_long, option, subcommand_met, used, value, walked}
use Rattle.clap.specs.Faults.{check_fault, step_fault, turn_fault, use_fault}
use Rattle.clap.specs.Kinds.{or_else}
use Rattle.fort_cmd.specs.Words.{Adds, AddsMarked, AddsNamed, AddsNumber, AddsOption, InOne, InTwo, Choice, Workers, Fuel, Given, Gives, GivesNoMore, GivesPart, NamesFile, name_of}
use Rattle.fort_cmd.specs.Line.{AsMany, Found, FoundNumber, Kind, OfFile, OfRun, OfAudit, OfLink, TakesOptions, id_of, row, row_of_id}
use Rattle.fort_cmd.proofs.Leaves.{leaf, option_built, rules}
use Rattle.fort_cmd.proofs.Files.{HasOptions, HasRoom, Idle, Resting, Within, behind_file, next_id, place, rests, within_room}
use Rattle.fort_cmd.proofs.Looks.{IsPlain, Look, Plain, Mark, Short, Long, flag_there, look}
use Rattle.fort_cmd.proofs.Rows.{all, append_nil, some_none}
use Rattle.fort_cmd.proofs.Complete.{longer, option_found}
use Rattle.fort_cmd.proofs.Turns
use Rattle.fort_cmd.proofs.Turns.{Named, Unnamed, Optional, Pending, after, at, all_there, finish, finished_is, full_step, held, last, last_is, left_none, mark_walked, mark_walked_option, named, no_more, number_walked, one_turn, one_walked, option_after, option_after_two, option_means, option_settles, option_waits, plain_turn, plain_walked, rests_none, right_none, room_or_full, roomy_step, settles, short_turn, trailing_turn, trailing_walked, two_turn, two_walked, unnamed_turn, whole, word_found}

-- Each word is a text.
abbrev pub AllText : List Text → Type 0
AllText [] = Unit {0}
AllText (w ∷ ws) = IsUtf8 w × AllText ws

-- ---- what is pending has no fault

module _ (kind : Kind) (name : Text) (rows : List Row) (pending : Pending) where
  end_settles : (waiting : Waiting) (position : ℕ) (trailing : Bool)
      → whole kind name (at rows pending waiting position trailing) [] ≡ []
      → settles kind rows pending ≡ []
  end_settles waiting position trailing e =
      left_none (settles kind rows pending) _ (sym (last_is kind name rows pending)
      ∙ sym (no_more kind name (at rows pending waiting position trailing)) ∙ e)

  step_settles : (n : ℕ)
      → step_fault (leaf kind name) (place kind n) (held rows pending) value ≡ []
      → settles kind rows pending ≡ []
  step_settles n e = elim (room_or_full kind n) [
    | inl room ↦ sym (roomy_step kind name n room rows pending) ∙ e
    | inr full ↦ absurd (full_step kind name n full rows pending e)
  ]

  pub trailing_settles : (rest : List Text) (waiting : Waiting) (n : ℕ)
      → whole kind name (at rows pending waiting (place kind n) true) rest ≡ []
      → settles kind rows pending ≡ []
  trailing_settles [] waiting n e = end_settles waiting (place kind n) true e
  trailing_settles (x ∷ rest) waiting n e =
      step_settles n
      (sym (trailing_turn kind name rows pending waiting (place kind n) x)
      ∙ left_none (turn_fault (leaf kind name) [] (at rows pending waiting (place kind n) true) x) _
      (sym (Turns.more kind name (at rows pending waiting (place kind n) true) x rest) ∙ e))

  flag_settles : (waiting : Waiting) (position : ℕ) (word flag : Text) (given : Option Text)
      → subcommand_met [] waiting word ≡ None → bytes_eq word (codes "--") ≡ false
      → long_of word ≡ Some (flag, given)
      → turn_fault (leaf kind name) [] (at rows pending waiting position false) word ≡ []
      → settles kind rows pending ≡ []
  flag_settles waiting position word flag given none no_mark long e =
      go (named kind flag) given long
    where
      go : Named kind flag → (v : Option Text) → long_of word ≡ Some (flag, v)
          → settles kind rows pending ≡ []
      go (Unnamed by) v q =
          absurd (unnamed_turn kind name rows pending waiting position word none no_mark flag v q by
          e)
      go (Optional choice is same by) None q =
          sym (two_turn kind name rows pending waiting position word none no_mark flag choice q by)
          ∙ e
      go (Optional choice is same by) (Some v) q =
          left_none (settles kind rows pending) _
          (sym (one_turn kind name rows pending waiting position word none no_mark flag choice v
          q by) ∙ e)

  pub resting_settles : (ws : List Text) (r : Resting) (n : ℕ) → AllText ws
      → whole kind name (at rows pending (rests r) (place kind n) false) ws ≡ []
      → settles kind rows pending ≡ []
  resting_settles [] r n u e = end_settles (rests r) (place kind n) false e
  resting_settles (x ∷ rest) r n u e = go (look x)
    where
      w : Walk
      w = at rows pending (rests r) (place kind n) false

      parts : or_else (turn_fault (leaf kind name) [] w x)
          (whole kind name (walked (rules kind) [] w x) rest) ≡ []
      parts = sym (Turns.more kind name w x rest) ∙ e

      turn : turn_fault (leaf kind name) [] w x ≡ []
      turn = left_none (turn_fault (leaf kind name) [] w x) _ parts

      go : Look x → settles kind rows pending ≡ []
      go (Plain names plain) =
          step_settles n
          (sym (plain_turn kind name rows pending r (place kind n) false x (λ q. plain)) ∙ turn)
      go (Mark q) =
          let behind : whole kind name (walked (rules kind) [] w x) rest ≡ [] =
          right_none (turn_fault (leaf kind name) [] w x) _ parts in
          let there : whole kind name (at rows pending (rests r) (place kind n) true) rest ≡ [] =
          ap (λ v. whole kind name v rest)
          (sym (ap (walked (rules kind) [] w) q ∙ mark_walked kind rows pending r (place kind n)))
          ∙ behind in
          trailing_settles rest (rests r) n there
      go (Short flag flags q no_mark no_long short) =
          absurd (short_turn kind name rows pending (rests r) (place kind n) x flag flags
          (rests_none r x) no_mark no_long
          short (flag_there flag flags (subst IsUtf8 q u.0)) turn)
      go (Long letter letters q no_mark long) =
          flag_settles (rests r) (place kind n) x (name_and_value (letter ∷ letters)).0
          (name_and_value (letter ∷ letters)).1 (rests_none r x) no_mark long turn

-- ---- the number of an option that stands in two words

-- What stands behind an option that waits for its number.
record Numbered (kind : Kind) (name : Text) (choice : Choice) (rows : List Row) (position : ℕ)
    (ws : List Text) : Type 0 where
  number : Text
  rest : List Text
  words_are : ws ≡ number ∷ rest
  plain : IsPlain number
  taken : whole kind name
      (at rows (Some (id_of choice, number ∷ [])) (rests Idle) position false) rest ≡ []
  texts : AllText rest

number_next : (kind : Kind) → HasOptions kind → (name : Text) (choice : Choice) (rows : List Row) (n : ℕ) (ws : List Text)
    → AllText ws
    → whole kind name (at rows (Some (id_of choice, [])) (option (id_of choice)) (place kind n) false) ws
    ≡ [] → Numbered kind name choice rows (place kind n) ws
number_next kind o name choice rows n [] u e =
    absurd (option_waits kind o choice rows
    (end_settles kind name rows (Some (id_of choice, [])) (option (id_of choice)) (place kind n)
    false e))
number_next kind o name choice rows n (x ∷ rest) u e = go (look x)
  where
    w : Walk
    w = at rows (Some (id_of choice, [])) (option (id_of choice)) (place kind n) false

    parts : or_else (turn_fault (leaf kind name) [] w x)
        (whole kind name (walked (rules kind) [] w x) rest) ≡ []
    parts = sym (Turns.more kind name w x rest) ∙ e

    turn : turn_fault (leaf kind name) [] w x ≡ []
    turn = left_none (turn_fault (leaf kind name) [] w x) _ parts

    behind : whole kind name (walked (rules kind) [] w x) rest ≡ []
    behind = right_none (turn_fault (leaf kind name) [] w x) _ parts

    go : Look x → Numbered kind name choice rows (place kind n) (x ∷ rest)
    go (Plain names plain) = record {
      number = x;
      rest = rest;
      words_are = refl;
      plain = plain;
      taken = ap (λ v. whole kind name v rest) (sym (number_walked kind o choice rows (place kind n) x plain))
          ∙ behind;
      texts = u.1;
    }
    go (Mark q) =
        let there : whole kind name
        (at rows (Some (id_of choice, [])) (option (id_of choice)) (place kind n) true) rest ≡ [] =
        ap (λ v. whole kind name v rest)
        (sym (ap (walked (rules kind) [] w) q
        ∙ mark_walked_option kind rows (Some (id_of choice, [])) (id_of choice) (place kind n)))
        ∙ behind in
        absurd (option_waits kind o choice rows
        (trailing_settles kind name rows (Some (id_of choice, [])) rest
        (option (id_of choice)) n there))
    go (Short flag flags q no_mark no_long short) =
        absurd (short_turn kind name rows (Some (id_of choice, [])) (option (id_of choice)) (place kind n)
        x flag flags refl no_mark no_long short
        (flag_there flag flags (subst IsUtf8 q u.0)) turn)
    go (Long letter letters q no_mark long) =
        absurd (option_waits kind o choice rows
        (flag_settles kind name rows (Some (id_of choice, [])) (option (id_of choice)) (place kind n) x
        (name_and_value (letter ∷ letters)).0 (name_and_value (letter ∷ letters)).1
        refl no_mark long turn))

-- ---- the word of an option

cut : (t : Text) → has_byte 61 t ≡ true
    → t ≡ before_first (λ x. x == 61) t ++ 61 ∷ after_first (λ x. x == 61) t
cut [] e = cc
cut (x ∷ xs) e = go (x == 61) refl (cut xs) e
  where
    go : (b : Bool) → (x == 61) ≡ b
        → (has_byte 61 xs ≡ true
        → xs ≡ before_first (λ y. y == 61) xs ++ 61 ∷ after_first (λ y. y == 61) xs)
        → has_byte 61 (x ∷ xs) ≡ true
        → x ∷ xs ≡ before_first (λ y. y == 61) (x ∷ xs) ++ 61 ∷ after_first (λ y. y == 61) (x ∷ xs)
    go true q k e = rw q (ap (λ y. y ∷ xs) (eqb-true x 61 q))
    go false q k e =
        let there : has_byte 61 xs ≡ true = sym (ap (λ b. b || has_byte 61 xs) q) ∙ e in
        let n : ℕ = prefix_len (λ y. not (y == 61)) xs in
        let one : 1 + n ≡ suc n = omega arith in
        let two : suc n + 1 ≡ suc (n + 1) = omega arith
        in rw (q, one, two) (ap (λ ys. x ∷ ys) (k there))

uncut : (t : Text) → has_byte 61 t ≡ false → before_first (λ x. x == 61) t ≡ t
uncut [] e = refl
uncut (x ∷ xs) e = go (x == 61) refl (uncut xs) e
  where
    go : (b : Bool) → (x == 61) ≡ b → (has_byte 61 xs ≡ false → before_first (λ y. y == 61) xs ≡ xs)
        → has_byte 61 (x ∷ xs) ≡ false
        → before_first (λ y. y == 61) (x ∷ xs) ≡ x ∷ xs
    go true q k e = let z : true ≡ false = sym (ap (λ b. b || has_byte 61 xs) q) ∙ e in absurd cc
    go false q k e =
        let there : has_byte 61 xs ≡ false = sym (ap (λ b. b || has_byte 61 xs) q) ∙ e in
        let n : ℕ = prefix_len (λ y. not (y == 61)) xs in
        let one : 1 + n ≡ suc n = omega arith in rw (q, one) (ap (λ ys. x ∷ ys) (k there))

name_is : (choice : Choice) → name_of choice ≡ 45 ∷ 45 ∷ id_of choice
name_is Workers = refl
name_is Fuel = refl

one_word : (choice : Choice) (v : Text)
    → 45 ∷ 45 ∷ (id_of choice ++ 61 ∷ v) ≡ name_of choice ++ codes "=" ++ v
one_word Workers v = refl
one_word Fuel v = refl

-- A word with a long flag: it is the option's name, or its name with a value.
data Written (choice : Choice) (word : Text) : Option Text → Type 0 where
  InTwoWords : word ≡ name_of choice → Written choice word None
  InOneWord : (value : Text) → word ≡ name_of choice ++ codes "=" ++ value
      → Written choice word (Some value)

written : (choice : Choice) (word t : Text) → word ≡ 45 ∷ 45 ∷ t
    → before_first (λ x. x == 61) t ≡ id_of choice → Written choice word (name_and_value t).1
written choice word t e is = go (has_byte 61 t) refl
  where
    go : (b : Bool) → has_byte 61 t ≡ b → Written choice word (name_and_value t).1
    go true q = rw q
        (InOneWord (after_first (λ x. x == 61) t)
        (e ∙ ap (λ y. 45 ∷ 45 ∷ y) (cut t q ∙ ap (λ y. y ++ 61 ∷ after_first (λ x. x == 61) t) is)
        ∙ one_word choice (after_first (λ x. x == 61) t)))
    go false q =
        rw q (InTwoWords (e ∙ ap (λ y. 45 ∷ 45 ∷ y) (sym (uncut t q) ∙ is) ∙ sym (name_is choice)))

-- ---- what is given then

plus : Choice → ℕ → Given → Given
plus Workers n g = record g { workers = Some n }
plus Fuel n g = record g { fuel = Some n }

number_absent : (choice : Choice) (rows : List Row) (n : Option ℕ) → FoundNumber choice rows n
    → row_of_id (id_of choice) rows ≡ None → n ≡ None
number_absent choice rows None f e = refl
number_absent choice rows (Some n) f e = absurd (some_none (row (id_of choice) f.0) (sym f.1 ∙ e))

adds_number : (kind : Kind) (choice : Choice) (rows : List Row) (g : Given) (n : ℕ)
    → Found kind rows g → row_of_id (id_of choice) rows ≡ None
    → AddsNumber choice g n (plus choice n g)
unfolding plus
adds_number kind Workers rows g n f e = (number_absent Workers rows g.workers f.workers e, refl)
adds_number kind Fuel rows g n f e = (number_absent Fuel rows g.fuel f.fuel e, refl)

plus_files : (choice : Choice) (n : ℕ) (g : Given) → (plus choice n g).files ≡ g.files
unfolding plus
plus_files Workers n g = refl
plus_files Fuel n g = refl

-- ---- behind the mark

record Trailed (kind : Kind) (rows : List Row) (files : List Text)
    (workers fuel : Option ℕ) : Type 0 where
  found : Found kind rows (all files workers fuel)
  as_many : AsMany kind (length files)

module _ (kind : Kind) (name : Text) (workers fuel : Option ℕ) where
  trailing_sound : (rest files : List Text) (rows : List Row) (pending : Pending)
      (waiting : Waiting)
      → whole kind name (at rows pending waiting (place kind (length files)) true) rest ≡ []
      → Found kind (after kind rows pending) (all files workers fuel)
      → Within kind (length files)
      → Trailed kind (finish kind (at rows pending waiting (place kind (length files)) true) rest)
      (files ++ rest) workers fuel
  trailing_sound [] files rows pending waiting e f l =
      let w : Walk = at rows pending waiting (place kind (length files)) true in
      let ended : or_else (settles kind rows pending)
      (check_fault (leaf kind name) (after kind rows pending) false) ≡ [] =
      sym (last_is kind name rows pending) ∙ sym (no_more kind name w) ∙ e in
      let there =
      all_there name (after kind rows pending) workers fuel kind files f l
      (right_none (settles kind rows pending) _ ended) in
      let same : files ≡ files ++ [] = sym (append_nil files) in
      subst (λ fs. Trailed kind (finish kind w []) fs workers fuel) same (record {
        found = subst (λ rs. Found kind rs (all files workers fuel))
            (sym (finished_is kind rows pending)) f;
        as_many = there;
      })
  trailing_sound (x ∷ rest) files rows pending waiting e f l =
      let w : Walk = at rows pending waiting (place kind (length files)) true in
      let parts : or_else (turn_fault (leaf kind name) [] w x)
      (whole kind name (walked (rules kind) [] w x) rest) ≡ [] =
      sym (Turns.more kind name w x rest) ∙ e in
      let turn : step_fault (leaf kind name) (place kind (length files)) (held rows pending) value
      ≡ [] =
      sym (trailing_turn kind name rows pending waiting (place kind (length files)) x)
      ∙ left_none (turn_fault (leaf kind name) [] w x) _ parts in
      elim (room_or_full kind (length files)) [
        | inr full ↦ absurd (full_step kind name (length files) full rows pending turn)
        | inl room ↦
            let now : List Row = after kind rows pending in
            let then : Pending = Some (next_id kind (length files), x ∷ []) in
            let more : Walk =
            at now then (rests (behind_file kind)) (place kind (length (files ++ x ∷ []))) true in
            let step : walked (rules kind) [] w x ≡ more =
            trailing_walked kind (length files) room rows pending waiting x
            ∙ ap (λ n. at now then (rests (behind_file kind)) (place kind n) true)
            (sym (longer files x)) in
            let rec = trailing_sound rest (files ++ x ∷ []) now then (rests (behind_file kind))
            (ap (λ v. whole kind name v rest) (sym step)
            ∙ right_none (turn_fault (leaf kind name) [] w x) _ parts)
            (word_found now files workers fuel kind room f x)
            (within_room kind (length files) (length (files ++ x ∷ [])) room (longer files x)) in
            subst (λ v. Trailed kind (finish kind v rest) (files ++ x ∷ rest) workers fuel)
            (sym step)
            (subst (λ fs. Trailed kind (finish kind more rest) fs workers fuel)
            (append_assoc files (x ∷ []) rest) rec)
      ]

-- ---- all words

-- What words give, as the matches say.
pub record Result (kind : Kind) (rows : List Row) (ws : List Text) (g : Given) : Type 0 where
  pub given : Given
  pub gives : Gives ws g given
  pub found : Found kind rows given
  pub as_many : AsMany kind (length given.files)
  pub options : TakesOptions kind given

-- A part in front of what is read.
went_on : (kind : Kind) (rows now : List Row) (ws rest : List Text) (g more : Given)
    → Adds ws g more rest → now ≡ rows → Result kind now rest more → Result kind rows ws g
went_on kind rows now ws rest g more part e r = record {
  given = r.given;
  gives = GivesPart more rest part r.gives;
  found = subst (λ rs. Found kind rs r.given) e r.found;
  as_many = r.as_many;
  options = r.options;
}

same_options : (kind : Kind) (g more : Given) → more.workers ≡ g.workers → more.fuel ≡ g.fuel
    → TakesOptions kind g → TakesOptions kind more
same_options OfRun g more e q o = tt
same_options OfLink g more e q o = tt
same_options OfFile g more e q o = (e ∙ o.0, q ∙ o.1)
same_options OfAudit g more e q o = (e ∙ o.0, q ∙ o.1)

takes_options : (kind : Kind) → HasOptions kind → (g : Given) → TakesOptions kind g
takes_options OfRun o g = tt
takes_options OfLink o g = tt
takes_options OfFile o g = absurd o
takes_options OfAudit o g = absurd o

-- where the walk stands with so many files
abbrev stands : Kind → List Row → Pending → Resting → Given → Walk
stands kind rows pending r g = at rows pending (rests r) (place kind (length g.files)) false

-- What the rest of the words is shown to give.
abbrev Rest : Kind → Text → List Text → Given → Type 0
Rest kind name rest more = (now : List Row) (then : Pending) (r : Resting)
    → whole kind name (stands kind now then r more) rest ≡ []
    → (settles kind now then ≡ [] → Found kind (after kind now then) more)
    → Within kind (length more.files) → TakesOptions kind more
    → Result kind (finish kind (stands kind now then r more) rest) rest more

module _ (kind : Kind) (name : Text) (g : Given) (rows : List Row) (pending : Pending)
    (r : Resting) (s : settles kind rows pending ≡ []) (f : Found kind (after kind rows pending) g)
    (l : Within kind (length g.files)) (o : TakesOptions kind g) where
  file_sound : (x : Text) (rest : List Text) → NamesFile x → IsPlain x
      → Rest kind name rest (all (g.files ++ x ∷ []) g.workers g.fuel)
      → whole kind name (stands kind rows pending r g) (x ∷ rest) ≡ []
      → Result kind (finish kind (stands kind rows pending r g) (x ∷ rest)) (x ∷ rest) g
  file_sound x rest names plain next e =
      let n : ℕ = length g.files in
      let w : Walk = stands kind rows pending r g in
      let parts : or_else (turn_fault (leaf kind name) [] w x)
      (whole kind name (walked (rules kind) [] w x) rest) ≡ [] =
      sym (Turns.more kind name w x rest) ∙ e in
      let turn : step_fault (leaf kind name) (place kind n) (held rows pending) value ≡ [] =
      sym (plain_turn kind name rows pending r (place kind n) false x (λ q. plain))
      ∙ left_none (turn_fault (leaf kind name) [] w x) _ parts in
      elim (room_or_full kind n) [
        | inr full ↦ absurd (full_step kind name n full rows pending turn)
        | inl room ↦
            let now : List Row = after kind rows pending in
            let then : Pending = Some (next_id kind n, x ∷ []) in
            let more : Given = all (g.files ++ x ∷ []) g.workers g.fuel in
            let found : Found kind (after kind now then) more =
            word_found now g.files g.workers g.fuel kind room f x in
            let step : walked (rules kind) [] w x ≡ stands kind now then (behind_file kind) more =
            plain_walked kind n room rows pending r false x (λ q. plain)
            ∙ ap (λ k. at now then (rests (behind_file kind)) (place kind k) false)
            (sym (longer g.files x))
            in
            went_on kind (finish kind w (x ∷ rest))
            (finish kind (stands kind now then (behind_file kind) more) rest)
            (x ∷ rest) rest g more
            (AddsNamed x names refl refl) (ap (λ v. finish kind v rest) (sym step))
            (next now then (behind_file kind) (ap (λ v. whole kind name v rest) (sym step)
            ∙ right_none (turn_fault (leaf kind name) [] w x) _ parts) (λ q. found)
            (within_room kind n (length more.files) room (longer g.files x))
            (same_options kind g more refl refl o))
      ]

  mark_sound : (x : Text) (rest : List Text) → x ≡ codes "--"
      → whole kind name (stands kind rows pending r g) (x ∷ rest) ≡ []
      → Result kind (finish kind (stands kind rows pending r g) (x ∷ rest)) (x ∷ rest) g
  mark_sound x rest q e =
      let spot : ℕ = place kind (length g.files) in
      let w : Walk = stands kind rows pending r g in
      let step : walked (rules kind) [] w x ≡ at rows pending (rests r) spot true =
      ap (walked (rules kind) [] w) q ∙ mark_walked kind rows pending r spot in
      let parts : or_else (turn_fault (leaf kind name) [] w x)
      (whole kind name (walked (rules kind) [] w x) rest) ≡ [] =
      sym (Turns.more kind name w x rest) ∙ e in
      let t = trailing_sound kind name g.workers g.fuel rest g.files rows pending (rests r)
      (ap (λ v. whole kind name v rest) (sym step)
      ∙ right_none (turn_fault (leaf kind name) [] w x) _ parts) f l in
      went_on kind (finish kind w (x ∷ rest))
      (finish kind (at rows pending (rests r) spot true) rest)
      (x ∷ rest) [] g (all (g.files ++ rest) g.workers g.fuel)
      (AddsMarked rest (ap (λ y. y ∷ rest) q) refl refl) (ap (λ v. finish kind v rest) (sym step))
      (record {
        given = all (g.files ++ rest) g.workers g.fuel;
        gives = GivesNoMore refl refl;
        found = t.found;
        as_many = t.as_many;
        options = same_options kind g (all (g.files ++ rest) g.workers g.fuel) refl refl o;
      })

module _ (kind : Kind) (o : HasOptions kind) (name : Text) (choice : Choice) (g : Given)
    (rows : List Row) (pending : Pending) (r : Resting)
    (s : settles kind rows pending ≡ []) (f : Found kind (after kind rows pending) g)
    (l : Within kind (length g.files)) (flag : Text)
    (by : arg_by_long (rules kind) flag ≡ Some (option_built choice)) where
  two_sound : (x number : Text) (rest : List Text) → x ≡ name_of choice
      → bytes_eq x (codes "--") ≡ false → long_of x ≡ Some (flag, None) → IsPlain number
      → whole kind name
      (stands kind (after kind rows pending) (Some (id_of choice, number ∷ [])) Idle g) rest ≡ []
      → AllText rest
      → Rest kind name rest (plus choice (digits_value 10 (without_leading_plus number)) g)
      → Result kind (finish kind (stands kind rows pending r g) (x ∷ number ∷ rest))
      (x ∷ number ∷ rest) g
  two_sound x number rest q no_mark long plain e u next =
      let n : ℕ = digits_value 10 (without_leading_plus number) in
      let spot : ℕ = place kind (length g.files) in
      let now : List Row = after kind rows pending in
      let then : Pending = Some (id_of choice, number ∷ []) in
      let more : Given = plus choice n g in
      let w : Walk = stands kind rows pending r g in
      let t : settles kind now then ≡ [] =
      resting_settles kind name now then rest Idle (length g.files) u e in
      let means =
      option_means choice number now (sym (option_settles kind o choice now number) ∙ t) in
      let adds : AddsNumber choice g n more = adds_number kind choice now g n f means.0 in
      let found : Found kind (after kind now then) more =
      subst (λ rs. Found kind rs more) (sym (option_after_two kind o choice now number means.0))
      (option_found kind choice now g more n number f adds means.1) in
      let files : more.files ≡ g.files = plus_files choice n g in
      let step : walked (rules kind) [] (walked (rules kind) [] w x) number
      ≡ stands kind now then Idle more =
      ap (λ v. walked (rules kind) [] v number)
      (two_walked kind rows pending r spot x no_mark flag choice by long)
      ∙ number_walked kind o choice now spot number plain
      ∙ ap (λ fs. at now then (rests Idle) (place kind (length fs)) false) (sym files) in
      went_on kind (finish kind w (x ∷ number ∷ rest))
      (finish kind (stands kind now then Idle more) rest) (x ∷ number ∷ rest)
      rest g more
      (AddsOption choice n (InTwo number means.1 (ap (λ y. y ∷ number ∷ rest) q)) adds)
      (ap (λ v. finish kind v rest) (sym step))
      (next now then Idle
      (ap (λ fs. whole kind name (at now then (rests Idle) (place kind (length fs)) false) rest)
      files ∙ e) (λ z. found) (subst (λ fs. Within kind (length fs)) (sym files) l)
      (takes_options kind o more))

  one_sound : (x given : Text) (rest : List Text) → x ≡ name_of choice ++ codes "=" ++ given
      → bytes_eq x (codes "--") ≡ false → long_of x ≡ Some (flag, Some given)
      → whole kind name (stands kind rows pending r g) (x ∷ rest) ≡ []
      → Rest kind name rest (plus choice (digits_value 10 (without_leading_plus given)) g)
      → Result kind (finish kind (stands kind rows pending r g) (x ∷ rest)) (x ∷ rest) g
  one_sound x given rest q no_mark long e next =
      let n : ℕ = digits_value 10 (without_leading_plus given) in
      let spot : ℕ = place kind (length g.files) in
      let now : List Row = after kind rows pending in
      let then : List Row = used (option_built choice) (given ∷ []) now in
      let more : Given = plus choice n g in
      let w : Walk = stands kind rows pending r g in
      let parts : or_else (turn_fault (leaf kind name) [] w x)
      (whole kind name (walked (rules kind) [] w x) rest) ≡ [] =
      sym (Turns.more kind name w x rest) ∙ e in
      let turn : or_else (settles kind rows pending)
      (use_fault false (option_built choice) (given ∷ []) now) ≡ [] =
      sym (one_turn kind name rows pending (rests r) spot x (rests_none r x) no_mark flag choice
      given long by)
      ∙ left_none (turn_fault (leaf kind name) [] w x) _ parts in
      let means = option_means choice given now (right_none (settles kind rows pending) _ turn) in
      let adds : AddsNumber choice g n more = adds_number kind choice now g n f means.0 in
      let found : Found kind then more =
      subst (λ rs. Found kind rs more) (sym (option_after choice now given means.0))
      (option_found kind choice now g more n given f adds means.1) in
      let files : more.files ≡ g.files = plus_files choice n g in
      let step : walked (rules kind) [] w x ≡ stands kind then None Idle more =
      one_walked kind rows pending r spot x no_mark flag choice by given long
      ∙ ap (λ fs. at then None (rests Idle) (place kind (length fs)) false) (sym files) in
      went_on kind (finish kind w (x ∷ rest))
      (finish kind (stands kind then None Idle more) rest) (x ∷ rest) rest g
      more
      (AddsOption choice n (InOne given means.1 (ap (λ y. y ∷ rest) q)) adds)
      (ap (λ v. finish kind v rest) (sym step))
      (next then None Idle (ap (λ v. whole kind name v rest) (sym step)
      ∙ right_none (turn_fault (leaf kind name) [] w x) _ parts) (λ z. found)
      (subst (λ fs. Within kind (length fs)) (sym files) l) (takes_options kind o more))

-- What fewer words are shown to give.
abbrev Fewer : Kind → Text → ℕ → Type 0
Fewer kind name k = (ws : List Text) (more : Given) → length ws ≤ k → AllText ws
    → Rest kind name ws more

option_read : (kind : Kind) → HasOptions kind → (name : Text) (choice : Choice) (g : Given)
    (rows : List Row) (pending : Pending) (r : Resting)
    → settles kind rows pending ≡ [] → Found kind (after kind rows pending) g
    → Within kind (length g.files) → (flag : Text)
    → arg_by_long (rules kind) flag ≡ Some (option_built choice) → (k : ℕ) → Fewer kind name k
    → (x : Text) (rest : List Text)
    → length rest ≤ k → AllText rest → bytes_eq x (codes "--") ≡ false → (v : Option Text)
    → Written choice x v → long_of x ≡ Some (flag, v)
    → whole kind name (stands kind rows pending r g) (x ∷ rest) ≡ []
    → Result kind (finish kind (stands kind rows pending r g) (x ∷ rest)) (x ∷ rest) g
option_read kind o name choice g rows pending r s f l flag by k next x rest m u no_mark v
    (InOneWord given q) long e =
    one_sound kind o name choice g rows pending r s f l flag by x given rest q no_mark long e
    (next rest (plus choice (digits_value 10 (without_leading_plus given)) g) m u)
option_read kind o name choice g rows pending r s f l flag by k next x rest m u no_mark v
    (InTwoWords q) long e =
    let spot : ℕ = place kind (length g.files) in
    let w : Walk = stands kind rows pending r g in
    let parts : or_else (turn_fault (leaf kind name) [] w x)
    (whole kind name (walked (rules kind) [] w x) rest) ≡ [] =
    sym (Turns.more kind name w x rest) ∙ e in
    let behind : whole kind name
    (at (after kind rows pending) (Some (id_of choice, [])) (option (id_of choice)) spot false) rest
    ≡ [] =
    ap (λ v. whole kind name v rest)
    (sym (two_walked kind rows pending r spot x no_mark flag choice by long))
    ∙ right_none (turn_fault (leaf kind name) [] w x) _ parts in
    let t =
    number_next kind o name choice (after kind rows pending) (length g.files) rest u behind in
    subst (λ ws. Result kind (finish kind w (x ∷ ws)) (x ∷ ws) g) (sym t.words_are)
    (two_sound kind o name choice g rows pending r s f l flag by x t.number t.rest q no_mark long
    t.plain t.taken t.texts
    (next t.rest (plus choice (digits_value 10 (without_leading_plus t.number)) g)
    (omega (arith, m, ap length t.words_are)) t.texts))

flag_read : (kind : Kind) (name : Text) (g : Given) (rows : List Row) (pending : Pending)
    (r : Resting) → settles kind rows pending ≡ [] → Found kind (after kind rows pending) g
    → Within kind (length g.files) → (k : ℕ) → Fewer kind name k
    → (x : Text) (rest : List Text) → length rest ≤ k → AllText rest
    → bytes_eq x (codes "--") ≡ false
    → (t : Text) → x ≡ 45 ∷ 45 ∷ t → long_of x ≡ Some (name_and_value t)
    → Named kind (name_and_value t).0
    → whole kind name (stands kind rows pending r g) (x ∷ rest) ≡ []
    → Result kind (finish kind (stands kind rows pending r g) (x ∷ rest)) (x ∷ rest) g
flag_read kind name g rows pending r s f l k next x rest m u no_mark t q long (Unnamed by) e =
    let w : Walk = stands kind rows pending r g in
    absurd (unnamed_turn kind name rows pending (rests r) (place kind (length g.files)) x
    (rests_none r x) no_mark (name_and_value t).0 (name_and_value t).1 long by
    (left_none (turn_fault (leaf kind name) [] w x) _ (sym (Turns.more kind name w x rest) ∙ e)))
flag_read kind name g rows pending r s f l k next x rest m u no_mark t q long
    (Optional choice o same by) e =
    option_read kind o name choice g rows pending r s f l (name_and_value t).0 by k next x rest m u
    no_mark (name_and_value t).1 (written choice x t q same) long e

word_read : (kind : Kind) (name : Text) (g : Given) (rows : List Row) (pending : Pending)
    (r : Resting) → settles kind rows pending ≡ [] → Found kind (after kind rows pending) g
    → Within kind (length g.files) → TakesOptions kind g → (k : ℕ) → Fewer kind name k
    → (x : Text) (rest : List Text) → length rest ≤ k → IsUtf8 x → AllText rest → Look x
    → whole kind name (stands kind rows pending r g) (x ∷ rest) ≡ []
    → Result kind (finish kind (stands kind rows pending r g) (x ∷ rest)) (x ∷ rest) g
word_read kind name g rows pending r s f l o k next x rest m t u (Plain names plain) e =
    file_sound kind name g rows pending r s f l o x rest names plain
    (next rest (all (g.files ++ x ∷ []) g.workers g.fuel) m u) e
word_read kind name g rows pending r s f l o k next x rest m t u (Mark q) e =
    mark_sound kind name g rows pending r s f l o x rest q e
word_read kind name g rows pending r s f l o k next x rest m t u
    (Short flag flags q no_mark no_long short) e =
    let w : Walk = stands kind rows pending r g in
    absurd (short_turn kind name rows pending (rests r) (place kind (length g.files)) x flag flags
    (rests_none r x) no_mark no_long short (flag_there flag flags (subst IsUtf8 q t))
    (left_none (turn_fault (leaf kind name) [] w x) _ (sym (Turns.more kind name w x rest) ∙ e)))
word_read kind name g rows pending r s f l o k next x rest m t u
    (Long letter letters q no_mark long) e =
    flag_read kind name g rows pending r s f l k next x rest m u no_mark (letter ∷ letters) q long
    (named kind (name_and_value (letter ∷ letters)).0) e

-- Words that are taken give what a command of the kind takes, and the matches have it.
words_read : (k : ℕ) (kind : Kind) (name : Text) (ws : List Text) (g : Given) → length ws ≤ k
    → AllText ws → Rest kind name ws g
words_read k kind name [] g m u rows pending r e wait l o =
    let w : Walk = stands kind rows pending r g in
    let ended : or_else (settles kind rows pending)
    (check_fault (leaf kind name) (after kind rows pending) false) ≡ [] =
    sym (last_is kind name rows pending) ∙ sym (no_more kind name w) ∙ e in
    let f : Found kind (after kind rows pending) g =
    wait (left_none (settles kind rows pending) _ ended) in
    record {
      given = g;
      gives = GivesNoMore refl refl;
      found = subst (λ rs. Found kind rs g) (sym (finished_is kind rows pending)) f;
      as_many =
          all_there name (after kind rows pending) g.workers g.fuel kind g.files f l
          (right_none (settles kind rows pending) _ ended);
      options = o;
    }
words_read zero kind name (x ∷ rest) g m u rows pending r e wait l o = absurd (omega (arith, m))
words_read (suc k) kind name (x ∷ rest) g m u rows pending r e wait l o =
    let s : settles kind rows pending ≡ [] =
    resting_settles kind name rows pending (x ∷ rest) r (length g.files) u e in
    word_read kind name g rows pending r s (wait s) l o k
    (λ ws more n v. words_read k kind name ws more n v) x rest (omega (arith, m)) u.0 u.1
    (look x) e

pub all_read : (kind : Kind) (name : Text) (ws : List Text) (g : Given) → AllText ws
    → Rest kind name ws g
all_read kind name ws g u = words_read (length ws) kind name ws g (omega arith) u
