-- The parser takes the words of commands.
use Rattle.std.proofs.Common.{◌≡◌, ◌<◌, ◌≤◌, ◌+◌, ℕ, suc, true, false, refl, ap, sym, ◌∙◌, subst, arith, inl, inr, List, [], ◌∷◌, ◌++◌, length, length-append}
use Rattle.std.specs.Prelude.{codes, nat_eq, Option, Some, None}
use Rattle.std.specs.List.{starts_with}
use Rattle.std.specs.Str.{bytes_eq}
use Rattle.std.specs.Str.Parse.{AllDigits, without_leading_plus}
use Rattle.clap.specs.Lexer.{long_of}
use Rattle.clap.specs.Walk.{Row, Text, Waiting, Walk, option, used}
use Rattle.clap.specs.Faults.{use_fault}
use Rattle.fort_cmd.specs.Words.{Adds, AddsFiles, AddsMarked, AddsNamed, AddsNumber, AddsOption, BeginsWith, InOne, InTwo, Choice, Workers, Fuel, Given, Gives, GivesNoMore, GivesPart, IsNumber, NamesFile, most_of, name_of}
use Rattle.fort_cmd.specs.Line.{AsMany, Found, FoundNumber, Kind, OfFile, OfRun, OfAudit, OfLink, TakesOptions, id_of, row, row_of_id}
use Rattle.fort_cmd.proofs.Leaves.{option_built}
use Rattle.fort_cmd.proofs.Files.{HasOptions, HasRoom, Idle, Resting, behind_file, next_id, place, rests, room_before}
use Rattle.fort_cmd.proofs.Looks.{IsPlain, Look, Plain, Mark, Short, Long, look}
use Rattle.fort_cmd.proofs.Parts.{files_stay, no_part, options_stay}
use Rattle.fort_cmd.proofs.Rows.{all, append_nil, fuel_found, workers_found}
use Rattle.fort_cmd.proofs.Turns
use Rattle.fort_cmd.proofs.Turns.{Pending, after, at, both_none, last_is, mark_turn, mark_walked, no_more, nothing_wanting, number_turn, number_walked, one_turn, one_walked, option_after, option_after_two, option_by_long, option_fits, option_settles, plain_turn, plain_walked, rests_none, roomy_step, settles, trailing_turn, trailing_walked, two_turn, two_walked, whole, word_found, word_settles}

-- ---- words that are no flags

pub plain_file : (word : Text) → NamesFile word → IsPlain word
plain_file word names = go (look word)
  where
    begins : (xs : Text) → word ≡ 45 ∷ 45 ∷ xs → ⊥
    begins xs e = go names
      where
        go : NamesFile word → ⊥
        go (inl q) = let z : 45 ∷ 45 ∷ xs ≡ 45 ∷ [] = sym e ∙ q in cc
        go (inr q) =
            let z : true ≡ false = sym (ap (λ w. starts_with nat_eq w (codes "-")) e) ∙ q in cc

    begins_short : (x : ℕ) (xs : Text) → word ≡ 45 ∷ x ∷ xs → ⊥
    begins_short x xs e = go names
      where
        go : NamesFile word → ⊥
        go (inl q) = let z : 45 ∷ x ∷ xs ≡ 45 ∷ [] = sym e ∙ q in cc
        go (inr q) =
            let z : true ≡ false = sym (ap (λ w. starts_with nat_eq w (codes "-")) e) ∙ q in cc

    go : Look word → IsPlain word
    go (Plain n p) = p
    go (Mark e) = absurd (begins [] e)
    go (Short x xs e a b c) = absurd (begins_short x xs e)
    go (Long x xs e a b) = absurd (begins (x ∷ xs) e)

pub plain_number : (most : ℕ) (word : Text) (n : ℕ) → IsNumber most word n → IsPlain word
plain_number most word n is = go (look word)
  where
    no_hyphen : (x : ℕ) (xs : Text) → word ≡ 45 ∷ x ∷ xs → ⊥
    no_hyphen x xs e =
        let digits : AllDigits 10 (45 ∷ x ∷ xs) =
        subst (λ w. AllDigits 10 (without_leading_plus w)) e is.digits.1 in
        let first : 36 < 10 = digits.0 in omega (arith, first)

    go : Look word → IsPlain word
    go (Plain names p) = p
    go (Mark e) = absurd (no_hyphen 45 [] e)
    go (Short x xs e a b c) = absurd (no_hyphen x xs e)
    go (Long x xs e a b) = absurd (no_hyphen 45 (x ∷ xs) e)

-- ---- behind the mark

pub longer : (files : List Text) (file : Text) → length (files ++ file ∷ []) ≡ suc (length files)
longer [] file = refl
longer (x ∷ files) file = ap suc (longer files file)

pub one_more : (files rest : List Text) (file : Text)
    → length ((files ++ file ∷ []) ++ rest) ≡ length (files ++ file ∷ rest)
one_more [] rest file = refl
one_more (x ∷ files) rest file = ap suc (one_more files rest file)

module _ (kind : Kind) (name : Text) (workers fuel : Option ℕ) where
  pub trailing_taken : (rest files : List Text) (rows : List Row) (pending : Pending)
      (waiting : Waiting) → settles kind rows pending ≡ []
      → Found kind (after kind rows pending) (all files workers fuel)
      → AsMany kind (length (files ++ rest))
      → whole kind name (at rows pending waiting (place kind (length files)) true) rest ≡ []
  trailing_taken [] files rows pending waiting s f l =
      no_more kind name (at rows pending waiting (place kind (length files)) true)
      ∙ last_is kind name rows pending
      ∙ both_none (settles kind rows pending) _ s
      (nothing_wanting name (after kind rows pending) workers fuel kind files f
      (subst (λ fs. AsMany kind (length fs)) (append_nil files) l))
  trailing_taken (x ∷ rest) files rows pending waiting s f l =
      let m : length (files ++ x ∷ rest) ≡ length files + suc (length rest) =
      length-append files (x ∷ rest) in
      let room : HasRoom kind (length files) =
      room_before kind (length files) (length (files ++ x ∷ rest)) (omega (arith, m)) l in
      let now : List Row = after kind rows pending in
      let then : Pending = Some (next_id kind (length files), x ∷ []) in
      let next =
      trailing_taken rest (files ++ x ∷ []) now then (rests (behind_file kind))
      (word_settles now files workers fuel kind room f x)
      (word_found now files workers fuel kind room f x)
      (subst (AsMany kind) (sym (one_more files rest x)) l) in
      Turns.more kind name (at rows pending waiting (place kind (length files)) true) x rest
      ∙ both_none _ _ (trailing_turn kind name rows pending waiting (place kind (length files)) x
      ∙ roomy_step kind name (length files) room rows pending ∙ s)
      (ap (λ w. whole kind name w rest)
      (trailing_walked kind (length files) room rows pending waiting x)
      ∙ ap (λ n. whole kind name (at now then (rests (behind_file kind)) (place kind n) true) rest)
      (sym (longer files x)) ∙ next)

-- ---- an option

number_none : (choice : Choice) (rows : List Row) (n : Option ℕ) → FoundNumber choice rows n
    → n ≡ None → row_of_id (id_of choice) rows ≡ None
number_none choice rows None f e = f
number_none choice rows (Some n) f e = cc

pub option_none : (kind : Kind) (choice : Choice) (rows : List Row) (g more : Given) (n : ℕ)
    → Found kind rows g → AddsNumber choice g n more → row_of_id (id_of choice) rows ≡ None
option_none kind Workers rows g more n f a = number_none Workers rows g.workers f.workers a.0
option_none kind Fuel rows g more n f a = number_none Fuel rows g.fuel f.fuel a.0

pub option_found : (kind : Kind) (choice : Choice) (rows : List Row) (g more : Given) (n : ℕ)
    (value : Text)
    → Found kind rows g → AddsNumber choice g n more → IsNumber (most_of choice) value n
    → Found kind (rows ++ row (id_of choice) value ∷ []) more
option_found kind Workers rows g more n value f a is =
    subst (Found kind (rows ++ row (id_of Workers) value ∷ [])) (sym a.1)
    (workers_found kind g.files g.fuel rows value n
    (subst (λ o. Found kind rows (all g.files o g.fuel)) a.0 f) is)
option_found kind Fuel rows g more n value f a is =
    subst (Found kind (rows ++ row (id_of Fuel) value ∷ [])) (sym a.1)
    (fuel_found kind g.files g.workers rows value n
    (subst (λ o. Found kind rows (all g.files g.workers o)) a.0 f) is)

pub same_files : (choice : Choice) (g more : Given) (n : ℕ) → AddsNumber choice g n more
    → more.files ≡ g.files
same_files Workers g more n a = ap (λ (x : Given). x.files) a.1
same_files Fuel g more n a = ap (λ (x : Given). x.files) a.1

option_allowed : (kind : Kind) (choice : Choice) (g more : Given) (n : ℕ)
    → AddsNumber choice g n more → TakesOptions kind more → HasOptions kind
option_allowed OfRun choice g more n a o = tt
option_allowed OfLink choice g more n a o = tt
option_allowed OfFile Workers g more n a o =
    let z : Some n ≡ None = sym (ap (λ (x : Given). x.workers) a.1) ∙ o.0 in absurd cc
option_allowed OfFile Fuel g more n a o =
    let z : Some n ≡ None = sym (ap (λ (x : Given). x.fuel) a.1) ∙ o.1 in absurd cc
option_allowed OfAudit Workers g more n a o =
    let z : Some n ≡ None = sym (ap (λ (x : Given). x.workers) a.1) ∙ o.0 in absurd cc
option_allowed OfAudit Fuel g more n a o =
    let z : Some n ≡ None = sym (ap (λ (x : Given). x.fuel) a.1) ∙ o.1 in absurd cc

-- how the parser reads the word of an option
long_two : (choice : Choice) → long_of (name_of choice) ≡ Some (id_of choice, None)
long_two Workers = refl
long_two Fuel = refl

long_one : (choice : Choice) (value : Text)
    → long_of (name_of choice ++ codes "=" ++ value) ≡ Some (id_of choice, Some value)
long_one Workers value = refl
long_one Fuel value = refl

two_unmarked : (choice : Choice) → bytes_eq (name_of choice) (codes "--") ≡ false
two_unmarked Workers = refl
two_unmarked Fuel = refl

one_unmarked : (choice : Choice) (value : Text)
    → bytes_eq (name_of choice ++ codes "=" ++ value) (codes "--") ≡ false
one_unmarked Workers value = refl
one_unmarked Fuel value = refl

-- What is shown of the words behind a part: they are taken, wherever the walk stands then.
abbrev Goes : Kind → Text → List Text → Given → Type 0
Goes kind name rest more = (now : List Row) (then : Pending) (r : Resting)
    → settles kind now then ≡ [] → Found kind (after kind now then) more
    → whole kind name (at now then (rests r) (place kind (length more.files)) false) rest ≡ []

-- What the parser does where an option is next, and the rest is taken.
option_taken : (kind : Kind) → HasOptions kind → (name : Text) (choice : Choice) (n : ℕ)
    (ws rest : List Text) (g more : Given) (rows : List Row) (pending : Pending) (r : Resting)
    → BeginsWith (name_of choice) (most_of choice) ws n rest → AddsNumber choice g n more
    → settles kind rows pending ≡ [] → Found kind (after kind rows pending) g
    → Goes kind name rest more
    → whole kind name (at rows pending (rests r) (place kind (length g.files)) false) ws ≡ []
option_taken kind o name choice n ws rest g more rows pending r (InTwo number is e) a s f next =
    let now : List Row = after kind rows pending in
    let spot : ℕ = place kind (length g.files) in
    let waits : Walk = at now (Some (id_of choice, [])) (option (id_of choice)) spot false in
    let then : Pending = Some (id_of choice, number ∷ []) in
    let none : row_of_id (id_of choice) now ≡ None = option_none kind choice now g more n f a in
    let plain : IsPlain number = plain_number (most_of choice) number n is in
    let settled : settles kind now then ≡ [] =
    option_settles kind o choice now number ∙ option_fits choice number n now none is in
    let found : Found kind (after kind now then) more =
    subst (λ rs. Found kind rs more) (sym (option_after_two kind o choice now number none))
    (option_found kind choice now g more n number f a is) in
    let taken : whole kind name (at now then (rests Idle) spot false) rest ≡ [] =
    ap (λ fs. whole kind name (at now then (rests Idle) (place kind (length fs)) false) rest)
    (sym (same_files choice g more n a))
    ∙ next now then Idle settled found in
    let behind : whole kind name waits (number ∷ rest) ≡ [] =
    Turns.more kind name waits number rest
    ∙ both_none _ _ (number_turn kind choice name now spot number plain)
    (ap (λ w. whole kind name w rest) (number_walked kind o choice now spot number plain)
    ∙ taken) in
    ap (whole kind name (at rows pending (rests r) spot false)) e
    ∙ Turns.more kind name (at rows pending (rests r) spot false) (name_of choice) (number ∷ rest)
    ∙ both_none _ _
    (two_turn kind name rows pending (rests r) spot (name_of choice)
    (rests_none r (name_of choice)) (two_unmarked choice)
    (id_of choice) choice (long_two choice) (option_by_long kind o choice) ∙ s)
    (ap (λ w. whole kind name w (number ∷ rest))
    (two_walked kind rows pending r spot (name_of choice) (two_unmarked choice) (id_of choice)
    choice (option_by_long kind o choice) (long_two choice)) ∙ behind)
option_taken kind o name choice n ws rest g more rows pending r (InOne number is e) a s f next =
    let now : List Row = after kind rows pending in
    let spot : ℕ = place kind (length g.files) in
    let word : Text = name_of choice ++ codes "=" ++ number in
    let then : List Row = used (option_built choice) (number ∷ []) now in
    let none : row_of_id (id_of choice) now ≡ None = option_none kind choice now g more n f a in
    let found : Found kind then more =
    subst (λ rs. Found kind rs more) (sym (option_after choice now number none))
    (option_found kind choice now g more n number f a is) in
    let taken : whole kind name (at then None (rests Idle) spot false) rest ≡ [] =
    ap (λ fs. whole kind name (at then None (rests Idle) (place kind (length fs)) false) rest)
    (sym (same_files choice g more n a)) ∙ next then None Idle refl found in
    ap (whole kind name (at rows pending (rests r) spot false)) e
    ∙ Turns.more kind name (at rows pending (rests r) spot false) word rest
    ∙ both_none _ _
    (one_turn kind name rows pending (rests r) spot word (rests_none r word)
    (one_unmarked choice number)
    (id_of choice) choice number (long_one choice number) (option_by_long kind o choice)
    ∙ both_none (settles kind rows pending)
    (use_fault false (option_built choice) (number ∷ []) now) s
    (option_fits choice number n now none is))
    (ap (λ w. whole kind name w rest)
    (one_walked kind rows pending r spot word (one_unmarked choice number) (id_of choice) choice
    (option_by_long kind o choice) number (long_one choice number)) ∙ taken)

-- ---- all words

files_are : (g more : Given) (files : List Text) → AddsFiles g files more
    → more.files ≡ g.files ++ files
files_are g more files a = ap (λ (x : Given). x.files) a

module _ (kind : Kind) (name : Text) where
  file_taken : (file : Text) (rest : List Text) (g more : Given) (rows : List Row)
      (pending : Pending) (r : Resting) → IsPlain file → AddsFiles g (file ∷ []) more
      → settles kind rows pending ≡ [] → Found kind (after kind rows pending) g
      → HasRoom kind (length g.files) → Goes kind name rest more
      → whole kind name (at rows pending (rests r) (place kind (length g.files)) false)
      (file ∷ rest) ≡ []
  file_taken file rest g more rows pending r plain a s f room next =
      let m : length more.files ≡ suc (length g.files) =
      ap length (files_are g more (file ∷ []) a) ∙ longer g.files file in
      let now : List Row = after kind rows pending in
      let then : Pending = Some (next_id kind (length g.files), file ∷ []) in
      let spot : ℕ = place kind (length g.files) in
      let found : Found kind (after kind now then) more =
      subst (Found kind (after kind now then)) (sym a)
      (word_found now g.files g.workers g.fuel kind room f file) in
      Turns.more kind name (at rows pending (rests r) spot false) file rest
      ∙ both_none _ _
      (plain_turn kind name rows pending r spot false file (λ e. plain)
      ∙ roomy_step kind name (length g.files) room rows pending ∙ s)
      (ap (λ w. whole kind name w rest)
      (plain_walked kind (length g.files) room rows pending r false file (λ e. plain))
      ∙ ap (λ n. whole kind name
      (at now then (rests (behind_file kind)) (place kind n) false) rest) (sym m)
      ∙ next now then (behind_file kind)
      (word_settles now g.files g.workers g.fuel kind room f file) found)

  marked_taken : (files : List Text) (g more : Given) (rows : List Row) (pending : Pending)
      (r : Resting) → AddsFiles g files more → settles kind rows pending ≡ []
      → Found kind (after kind rows pending) g → AsMany kind (length more.files)
      → whole kind name (at rows pending (rests r) (place kind (length g.files)) false)
      (codes "--" ∷ files) ≡ []
  marked_taken files g more rows pending r a s f l =
      let spot : ℕ = place kind (length g.files) in
      Turns.more kind name (at rows pending (rests r) spot false) (codes "--") files
      ∙ both_none _ _ (mark_turn kind name rows pending r spot)
      (ap (λ w. whole kind name w files) (mark_walked kind rows pending r spot)
      ∙ trailing_taken kind name g.workers g.fuel files g.files rows pending (rests r) s f
      (subst (λ fs. AsMany kind (length fs)) (files_are g more files a) l))

end_of : (rest : List Text) (more after : Given) → rest ≡ [] → Gives rest more after → after ≡ more
end_of rest more after e (GivesNoMore q a) = a
end_of rest more after e (GivesPart other behind p g) = absurd (no_part rest more other behind p e)

part_taken : (kind : Kind) (name : Text) (ws rest : List Text) (g more last : Given)
    → Adds ws g more rest → Gives rest more last → (rows : List Row) (pending : Pending)
    (r : Resting) → settles kind rows pending ≡ [] → Found kind (after kind rows pending) g
    → AsMany kind (length last.files) → TakesOptions kind last → Goes kind name rest more
    → whole kind name (at rows pending (rests r) (place kind (length g.files)) false) ws ≡ []
part_taken kind name ws rest g more last (AddsMarked files e q a) behind rows pending r s f l o
    next =
    let same : last ≡ more = end_of rest more last q behind in
    ap (whole kind name (at rows pending (rests r) (place kind (length g.files)) false)) e
    ∙ marked_taken kind name files g more rows pending r a s f
    (subst (λ (x : Given). AsMany kind (length x.files)) same l)
part_taken kind name ws rest g more last (AddsNamed file names e a) behind rows pending r s f l o
    next =
    let m : length more.files ≡ suc (length g.files) =
    ap length (files_are g more (file ∷ []) a) ∙ longer g.files file in
    ap (whole kind name (at rows pending (rests r) (place kind (length g.files)) false)) e
    ∙ file_taken kind name file rest g more rows pending r (plain_file file names) a s f
    (room_before kind (length g.files) (length last.files)
    (omega (arith, m, files_stay rest more last behind)) l) next
part_taken kind name ws rest g more last (AddsOption choice n b a) behind rows pending r s f l o
    next =
    option_taken kind
    (option_allowed kind choice g more n a (options_stay kind rest more last behind o)) name choice
    n ws rest g more rows pending r b a s f next

-- Words that give what a command of the kind takes are taken.
pub all_taken : (kind : Kind) (name : Text) (ws : List Text) (g last : Given) → Gives ws g last
    → (rows : List Row) (pending : Pending) (r : Resting)
    → settles kind rows pending ≡ [] → Found kind (after kind rows pending) g
    → AsMany kind (length last.files) → TakesOptions kind last
    → whole kind name (at rows pending (rests r) (place kind (length g.files)) false) ws ≡ []
all_taken kind name ws g last (GivesNoMore e a) rows pending r s f l o =
    let walk : Walk = at rows pending (rests r) (place kind (length g.files)) false in
    ap (whole kind name walk) e
    ∙ no_more kind name walk
    ∙ last_is kind name rows pending
    ∙ both_none (settles kind rows pending) _ s
    (nothing_wanting name (after kind rows pending) g.workers g.fuel kind g.files f
    (subst (λ (x : Given). AsMany kind (length x.files)) a l))
all_taken kind name ws g last (GivesPart more rest part behind) rows pending r s f l o =
    part_taken kind name ws rest g more last part behind rows pending r s f l o
    (λ now then q t k. all_taken kind name rest more last behind now then q t k l o)
