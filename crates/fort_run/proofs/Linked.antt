-- The files of a link: which were read, and how large they are together.
use Rattle.std.proofs.Common.{◌≡◌, ℕ, ◌+◌, ◌<◌, ◌≤◌, List, [], ◌∷◌, ◌++◌, Bor, length, suc, Result, Ok, Err, IfOk, IfErr, ap, sym, ◌∙◌, subst, arith, refl}
use Rattle.std.specs.Prelude.{Option, None, get_or, map, slice_get, sum, unwrap_or}
use Rattle.std.specs.Option.{option_copied}
use Rattle.std.specs.Result.{IsErrAnd}
use Rattle.std.proofs.lemmas.List.{map-append}
use Rattle.std.proofs.lemmas.List.Sums.{sum_by-append}
use Rattle.std.proofs.lemmas.Option.{unwrap_or-slice_get}
use Rattle.fort_port.specs.Outside.{Holding, Held}
use Rattle.fort_run.specs.Reply.{AreFiles, AreTooLarge, BreakOne, FilesRead, IsFile, LinkMeans, LinkSays, RefusesWhole, file_limit, in_linking, refusal_at, size_of}
use Rattle.fort_run.specs.Said.{LinkChecks, said}
use Rattle.fort_run.specs.Tasks.{LeadsTo}
use Rattle.fort_run.specs.declared.answer.Answer.{Answer}
use Rattle.fort_run.specs.declared.answer.Answer.TheVariants.{Refused}
use Rattle.fort_base.specs.declared.refusal.Memory.{Memory}
use Rattle.fort_base.specs.declared.refusal.Rule.{Rule}
use Rattle.fort_core.specs.declared.program.Program.{Program}
use Rattle.fort_link.specs.Answer.{LinkAnswers}
use Rattle.fort_link.specs.declared.answer.LinkFault.{LinkFault}
use Rattle.fort_link.specs.declared.answer.LinkFault.TheVariants as a_link_fault
use Rattle.fort_link.specs.declared.answer.Spot.{Spot}
use Rattle.fort_run.specs.Fronts.{Stops, StopsAmong}
use Rattle.fort_run.specs.Outcome.{AreHeld}
use Rattle.fort_run.specs.declared.file.Unread.{Unread}
use Rattle.fort_run.specs.declared.file.Unread.TheVariants as an_unread
use Rattle.fort_run.specs.declared.meant.Meant.{Meant}
use Rattle.fort_run.proofs.Leads.{leads_on_if}

pub none_read : (holding : List ℕ → Holding) → AreFiles holding [] []
none_read holding = tt

-- One file more was read.
pub one_more_read : (holding : List ℕ → Holding) (names files : List (List ℕ)) (name file : List ℕ)
    → AreFiles holding names files → IsFile (holding name) file
    → AreFiles holding (names ++ name ∷ []) (files ++ file ∷ [])
one_more_read holding [] [] name file are is = (is, tt)
one_more_read holding [] (f ∷ fs) name file are is = absurd are
one_more_read holding (n ∷ ns) [] name file are is = absurd are
one_more_read holding (n ∷ ns) (f ∷ fs) name file are is =
    (are.0, one_more_read holding ns fs name file are.1 is)

-- There are as many files as names.
pub as_many : (holding : List ℕ → Holding) (names files : List (List ℕ))
    → AreFiles holding names files → length files ≡ length names
as_many holding [] [] are = refl
as_many holding [] (f ∷ fs) are = absurd are
as_many holding (n ∷ ns) [] are = absurd are
as_many holding (n ∷ ns) (f ∷ fs) are = ap suc (as_many holding ns fs are.1)

size_append : (files more : List (List ℕ)) → size_of (files ++ more) ≡ size_of files + size_of more
size_append files more =
    ap sum (map-append length files more)
    ∙ sum_by-append (λ n. n) (map length files) (map length more)

-- So many bytes have files together with one file more.
pub size_more : (files : List (List ℕ)) (file : List ℕ)
    → size_of (files ++ file ∷ []) ≡ size_of files + length file
size_more files file = size_append files (file ∷ []) ∙ omega arith

longer : (files more all : List (List ℕ)) → all ≡ files ++ more
    → size_of files ≤ size_of all
longer files more all e =
    let l : size_of all ≡ size_of files + size_of more = ap size_of e ∙ size_append files more
    in omega (arith, l)

-- What was read is what the shelf has.
held_file : (holding : List ℕ → Holding) (name file read : List ℕ) → holding name ≡ Held file
    → IsFile (holding name) read → read ≡ file
held_file holding name file read e is = subst (λ h. IsFile h read) e is

-- What was read of the first names is the front of what the shelf has of all.
front_of_held : (holding : List ℕ → Holding) (first rest files read : List (List ℕ))
    → AreHeld holding (first ++ rest) files → AreFiles holding first read
    → (more : List (List ℕ)) × (files ≡ read ++ more)
front_of_held holding [] rest files [] held are = (files, refl)
front_of_held holding [] rest files (r ∷ rs) held are = absurd are
front_of_held holding (n ∷ ns) rest [] read held are = absurd held
front_of_held holding (n ∷ ns) rest (f ∷ fs) [] held are = absurd are
front_of_held holding (n ∷ ns) rest (f ∷ fs) (r ∷ rs) held are =
    let same : r ≡ f = held_file holding n f r held.0 are.0 in
    let t = front_of_held holding ns rest fs rs held.1 are.1
    in (t.0, ap (λ xs. f ∷ xs) t.1 ∙ ap (λ x. x ∷ (rs ++ t.0)) (sym same))

-- What the shelf has of the first names is the front of what was read of all.
front_of_read : (holding : List ℕ → Holding) (first rest files read : List (List ℕ))
    → AreHeld holding first files → AreFiles holding (first ++ rest) read
    → (more : List (List ℕ)) × (read ≡ files ++ more)
front_of_read holding [] rest [] read held are = (read, refl)
front_of_read holding [] rest (f ∷ fs) read held are = absurd held
front_of_read holding (n ∷ ns) rest [] read held are = absurd held
front_of_read holding (n ∷ ns) rest (f ∷ fs) [] held are = absurd are
front_of_read holding (n ∷ ns) rest (f ∷ fs) (r ∷ rs) held are =
    let same : r ≡ f = held_file holding n f r held.0 are.0 in
    let t = front_of_read holding ns rest fs rs held.1 are.1
    in (t.0, ap (λ xs. r ∷ xs) t.1 ∙ ap (λ x. x ∷ (fs ++ t.0)) same)

pub held_files : (holding : List ℕ → Holding) (names files read : List (List ℕ))
    → AreHeld holding names files → AreFiles holding names read → read ≡ files
held_files holding [] [] [] held are = refl
held_files holding [] [] (r ∷ rs) held are = absurd are
held_files holding [] (f ∷ fs) read held are = absurd held
held_files holding (n ∷ ns) [] read held are = absurd held
held_files holding (n ∷ ns) (f ∷ fs) [] held are = absurd are
held_files holding (n ∷ ns) (f ∷ fs) (r ∷ rs) held are =
    let same : r ≡ f = held_file holding n f r held.0 are.0 in
    ap (λ x. x ∷ rs) same ∙ ap (λ xs. f ∷ xs) (held_files holding ns fs rs held.1 are.1)

-- What was read is as long together as what the shelf has of the first names.
pub as_long : (holding : List ℕ → Holding) (first rest files read : List (List ℕ))
    → AreHeld holding first files → AreFiles holding (first ++ rest) read
    → size_of files ≤ size_of read
as_long holding first rest files read held are =
    let t = front_of_read holding first rest files read held are in longer files t.0 read t.1

-- Files within the limit aren't too large together.
pub no_larger : (holding : List ℕ → Holding) (names files : List (List ℕ))
    → AreHeld holding names files → size_of files ≤ file_limit
    → AreTooLarge holding names → ⊥
no_larger holding names files held within large =
    let t = front_of_held holding large.first large.rest files large.files
    (subst (λ ns. AreHeld holding ns files) large.parts held) large.are in
    let l : size_of large.files ≤ size_of files = longer large.files t.0 files t.1
    in omega (arith, l, large.large, within)

-- A file that goes on behind the room that is left makes all of them too large.
pub too_large_with : (holding : List ℕ → Holding) (first rest files : List (List ℕ))
    (name file : List ℕ) (room : ℕ) → AreFiles holding first files
    → size_of files + room ≡ file_limit → IsFile (holding name) file
    → room < length file → AreTooLarge holding ((first ++ name ∷ []) ++ rest)
too_large_with holding first rest files name file room are e is long = record {
  first = first ++ name ∷ [];
  rest = rest;
  parts = refl;
  files = files ++ file ∷ [];
  are = one_more_read holding first files name file are is;
  large =
      let l : size_of (files ++ file ∷ []) ≡ size_of files + length file =
      size_more files file in omega (arith, e, long, l);
}

-- What is said of files that were read whole is what is meant to say.
pub files_mean : (holding : List ℕ → Holding) (before after : ℕ) (names files : List (List ℕ))
    (fuel : ℕ) (r : Result Meant Memory) → AreFiles holding names files
    → size_of files ≤ file_limit → after ≡ before
    → IfOk r (LeadsTo (LinkSays names files fuel))
    → IfOk r (LeadsTo (LinkMeans names fuel holding before after))
files_mean holding before after names files fuel r are within calm says =
    leads_on_if (LinkSays names files fuel) (LinkMeans names fuel holding before after) r
    (λ reply says. FilesRead files are within calm says) says

-- Why the next file isn't read is why they aren't all read.
pub stops_among : (holding : List ℕ → Holding) (first rest files : List (List ℕ)) (name : List ℕ)
    (room before after : ℕ) (why : Unread) → AreFiles holding first files
    → size_of files + room ≡ file_limit → Stops room (holding name) before after why
    → StopsAmong holding ((first ++ name ∷ []) ++ rest) before after why
stops_among holding first rest files name room before after an_unread.Failed are e stops = stops
stops_among holding first rest files name room before after an_unread.TooLarge are e stops = (
  stops.0,
  too_large_with holding first rest files name stops.1.0 room are e stops.1.1 stops.1.2,
)
stops_among holding first rest files name room before after an_unread.Memory are e stops = tt

-- What holds of an error that is handed on holds of the answer.
pub handed_on : (r : Result (List (List ℕ)) Unread) (why : Unread) (P : Unread → Type 0)
    → IsErrAnd r (λ w. w ≡ why) → P why → IfErr r P
handed_on (Ok files) why P e p = tt
handed_on (Err w) why P e p = subst P (sym e) p

-- Files that aren't linked break a rule, or memory was wanting.
pub unlinked : (files : List (List ℕ)) (r : Result Program LinkFault) (why : LinkFault)
    → IsErrAnd r (λ w. w ≡ why) → LinkAnswers files (Err why) → LinkChecks files r
unlinked files (Ok p) why e h = absurd e
unlinked files (Err w) why e h = subst (λ f. LinkChecks files (Err f)) (sym e) (go why h)
  where
    go : (f : LinkFault) → LinkAnswers files (Err f) → LinkChecks files (Err f)
    go (a_link_fault.Refused rule spot) broken = in_linking broken
    go a_link_fault.Memory broken = tt

-- What is said of files that break a rule.
pub refused_whole : (names files : List (List ℕ)) (fuel : ℕ) (rule : Rule) (spot : Spot)
    (answer : Answer) → BreakOne files rule spot
    → answer ≡ Refused (refusal_at names rule spot)
    → LinkSays names files fuel (said answer)
refused_whole names files fuel rule spot answer broken e = RefusesWhole rule spot broken (ap said e)

-- ---- the words of the files

-- There is no word at a place.
pub word_absent : (names : List (List ℕ)) (n : ℕ) (o : Option (Bor (List ℕ))) → o ≡ None
    → option_copied o ≡ slice_get names n → [] ≡ get_or names n []
word_absent names n o e is =
    let none : slice_get names n ≡ None = sym is ∙ ap option_copied e in
    ap (λ x. unwrap_or x []) (sym none) ∙ unwrap_or-slice_get names n []
