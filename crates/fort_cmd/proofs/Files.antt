-- The files of a command by its kind: how many it has, and which argument takes the next one.
use Rattle.std.proofs.Common.{◌≡◌, ◌<◌, ◌≤◌, ℕ, zero, suc, arith}
use Rattle.std.specs.Prelude.{codes}
use Rattle.clap.specs.Walk.{Rule, Text, Waiting, idle, positional}
use Rattle.fort_cmd.specs.Line.{AsMany, Kind, OfFile, OfRun, OfAudit, OfLink}
use Rattle.fort_cmd.proofs.Leaves.{word_built, words_built}

-- ---- how many

-- There is room for one more file behind so many.
abbrev pub HasRoom : Kind → ℕ → Type 0
HasRoom OfFile n = n < 1
HasRoom OfRun n = n < 1
HasRoom OfAudit n = n < 2
HasRoom OfLink n = Unit {0}

-- So many files aren't too many.
abbrev pub Within : Kind → ℕ → Type 0
Within OfFile n = n ≤ 1
Within OfRun n = n ≤ 1
Within OfAudit n = n ≤ 2
Within OfLink n = Unit {0}

-- There is room behind fewer files than a command has.
pub room_before : (kind : Kind) (n m : ℕ) → n < m → AsMany kind m → HasRoom kind n
room_before OfFile n m l e = omega (arith, l, e)
room_before OfRun n m l e = omega (arith, l, e)
room_before OfAudit n m l e = omega (arith, l, e)
room_before OfLink n m l e = tt

pub within_room : (kind : Kind) (n m : ℕ) → HasRoom kind n → m ≡ suc n → Within kind m
within_room OfFile n m l e = omega (arith, l, e)
within_room OfRun n m l e = omega (arith, l, e)
within_room OfAudit n m l e = omega (arith, l, e)
within_room OfLink n m l e = tt

pub within_none : (kind : Kind) → Within kind 0
within_none OfFile = omega arith
within_none OfRun = omega arith
within_none OfAudit = omega arith
within_none OfLink = tt

-- ---- the argument that takes the next file

-- Each file has an argument of its own.
abbrev pub IsSingle : Kind → Type 0
IsSingle OfLink = ⊥
IsSingle _ = Unit {0}

abbrev pub id_at : ℕ → Text
id_at zero = codes "file"
id_at (suc i) = codes "record"

-- the argument's id, behind so many files
abbrev pub next_id : Kind → ℕ → Text
next_id OfLink n = codes "file"
next_id _ n = id_at n

-- its place
abbrev pub place : Kind → ℕ → ℕ
place OfLink n = 1
place _ n = suc n

abbrev pub next_rule : Kind → ℕ → Rule
next_rule OfLink n = words_built (codes "file") 1
next_rule _ n = word_built (id_at n) (suc n)

-- what waits for a next word, where no option does: behind a file of which there may be several a
-- positional does
pub data Resting : Type 0 where
  Idle : Resting
  Several : Resting

abbrev pub rests : Resting → Waiting
rests Idle = idle
rests Several = positional

-- what waits behind a file
abbrev pub behind_file : Kind → Resting
behind_file OfLink = Several
behind_file _ = Idle

-- ---- options

-- The command takes options.
abbrev pub HasOptions : Kind → Type 0
HasOptions OfRun = Unit {0}
HasOptions OfLink = Unit {0}
HasOptions _ = ⊥
