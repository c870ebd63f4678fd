-- What is known of a file while it is read.
use Rattle.std.proofs.Common.{◌≡◌, ℕ, ◌+◌, ◌*◌, ◌<◌, ◌≤◌, List, [], ◌∷◌, ◌++◌, length, drop, ap, sym, ◌∙◌, arith, refl, append_assoc, length-append, append-nil, Result, Ok, Err, IfErr}
use Rattle.std.proofs.Math.Seq.{drop-append_seam}
use Rattle.fort_port.specs.Outside.{Holding, Untold, Absent, Held, Gives}
use Rattle.fort_run.specs.Reply.{IsFile}
use Rattle.fort_bench.specs.Bank.{bank}
use Rattle.fort_cmd.specs.declared.command.Command.TheVariants.{Bench}
use Rattle.fort_run.specs.Fronts.{IsFrontOf, IsTooLarge, StopsAt}
use Rattle.fort_run.specs.declared.file.Unread.{Unread}
use Rattle.fort_run.specs.declared.file.Unread.TheVariants as an_unread

pub front_empty : (h : Holding) → IsFrontOf h []
front_empty Untold = tt
front_empty Absent = refl
front_empty (Held file) = (file, refl)

no_more : (xs : List ℕ) → length xs ≡ 0 → xs ≡ []
no_more [] e = refl
no_more (x ∷ xs) e = absurd (omega arith)

-- Behind a front of a file stands its rest.
behind : (file front rest : List ℕ) → file ≡ front ++ rest → drop (length front) file ≡ rest
behind file front rest e = rw e (drop-append_seam front rest)

-- A front and the piece that stands behind it are a front.
pub front_more : (h : Holding) (front piece : List ℕ) (room : ℕ) → IsFrontOf h front
    → Gives h (length front) piece room
    → IsFrontOf h (front ++ piece)
front_more Untold front piece room f g = tt
front_more Absent front piece room f g = absurd g
front_more (Held file) front piece room f g = (
  g.0.0,
  f.1
      ∙ (ap (λ r. front ++ r) (sym (behind file front f.0 f.1) ∙ g.0.1)
      ∙ sym (append_assoc front piece g.0.0)),
)

-- A front behind which nothing stands is the file.
pub front_whole : (h : Holding) (front piece : List ℕ) (room : ℕ) → IsFrontOf h front
    → Gives h (length front) piece room
    → piece ≡ [] → 0 < room → IsFile h front
front_whole Untold front piece room f g none some = tt
front_whole Absent front piece room f g none some = absurd g
front_whole (Held file) front piece room f g none some =
    let short : length file ≤ length front = g.1 some none in
    let whole : length file ≡ length front + length f.0 = ap length f.1 ∙ length-append front f.0 in
    let last : f.0 ≡ [] = no_more f.0 (omega arith) in
    sym (f.1 ∙ (ap (λ r. front ++ r) last ∙ append-nil front))

-- A front longer than a limit is one of a file longer than it.
pub front_long : (limit : ℕ) (h : Holding) (front : List ℕ) → IsFrontOf h front
    → limit < length front
    → (file : List ℕ) × IsFile h file × (limit < length file)
front_long limit Untold front f long = (front, tt, long)
front_long limit Absent front f long = absurd
    (let none : length front ≡ 0 = ap length f in omega arith)
front_long limit (Held file) front f long = (
  file,
  refl,
  (let whole : length file ≡ length front + length f.0 =
      ap length f.1 ∙ length-append front f.0 in omega arith),
)

-- why there is no text of a bank: it would be larger than a file may be, or memory was wanting
bank_stop : (holding : List ℕ → Holding) (accounts faults : ℕ) (why : Unread)
    → IsTooLarge (bank accounts (4 * accounts)) why
    → StopsAt holding (Bench accounts) faults faults why
bank_stop holding accounts faults an_unread.Failed large = absurd large
bank_stop holding accounts faults an_unread.TooLarge large =
    (refl, (bank accounts (4 * accounts), refl, large))
bank_stop holding accounts faults an_unread.Memory large = tt

pub bank_stops : (holding : List ℕ → Holding) (accounts faults : ℕ) (r : Result (List ℕ) Unread)
    → IfErr r (IsTooLarge (bank accounts (4 * accounts)))
    → IfErr r (StopsAt holding (Bench accounts) faults faults)
bank_stops holding accounts faults (Ok text) stops = tt
bank_stops holding accounts faults (Err why) stops = bank_stop holding accounts faults why stops
