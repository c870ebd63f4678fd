-- What an audit answers.
use Rattle.std.proofs.Common.{◌≡◌, ℕ, zero, suc, true, false, ◌+◌, ◌<◌, List, length, take, refl, ap, sym, ◌∙◌, subst, arith, ◌⊎◌, inl, inr}
use Rattle.std.proofs.lemmas.List.{take-take}
use Rattle.fort_core.specs.declared.journal.Journal.{Journal}
use Rattle.fort_core.specs.declared.pick.Pick.{Pick}
use Rattle.fort_core.specs.declared.program.Program.{Program}
use Rattle.fort_machine.specs.Effects.{Effect}
use Rattle.fort_machine.specs.Journals.{opening_store, IsJournal}
use Rattle.fort_machine.specs.Attempts.{goes}
use Rattle.fort_machine.proofs.Single.{one_run}
use Rattle.fort_walk_law_course.specs.Ends.{HasRun}
use Rattle.fort_plain.specs.declared.journal.Replayed.{Replayed}
use Rattle.fort_plain.specs.declared.journal.Replayed.TheVariants.{Run}
use Rattle.fort_plain.specs.Replays.{RunsWithin, BreaksAt, Replays}
use Rattle.fort_plain.proofs.Breaks.{first_picks, broken_is_none}
use Rattle.fort_audit_record.specs.declared.reading.Record.{Record}
use Rattle.fort_audit.specs.declared.answer.Audited.{Audited}
use Rattle.fort_audit.specs.declared.answer.Audited.TheVariants.{Yes, NotARun, OtherOutput}
use Rattle.fort_audit.specs.Audits.{Prints, PartsAt, Compares, Audits, OneOutput, OneParting, OneAnswer}
use Rattle.fort_audit.proofs.Partings.{one_parting, parted_differ}

prints : (p : Program) (j : Journal) (printed : List ℕ) (cost : ℕ)
    → HasRun p j.fuel j.picks j.ending printed cost → Prints p j printed
prints p j printed cost r =
    record { term = r.term; effect = r.effect; records = r.records; is_output = r.is_output }

is_audited : (p : Program) (kept : Record) (printed : List ℕ) (cost : ℕ) (answer : Audited)
    → HasRun p kept.journal.fuel kept.journal.picks kept.journal.ending printed cost
    → Compares kept.output printed answer → Audits p kept answer
is_audited p kept printed cost Yes r k =
    subst (Prints p kept.journal) (sym k) (prints p kept.journal printed cost r)
is_audited p kept printed cost (NotARun n) r k = absurd k
is_audited p kept printed cost (OtherOutput n) r k =
    (printed, prints p kept.journal printed cost r, k)

pub run_is_audited : (p : Program) (kept : Record) (replayed : Replayed) (output : List ℕ)
    (cost : ℕ) (shown printed : List ℕ) (answer : Audited)
    → Replays p kept.journal replayed → replayed ≡ Run output cost → shown ≡ kept.output
    → printed ≡ output → Compares shown printed answer → Audits p kept answer
run_is_audited p kept replayed output cost shown printed answer r e s t k =
    is_audited p kept output cost answer (subst (Replays p kept.journal) e r)
    (subst (λ x. Compares x output answer) s (subst (λ x. Compares shown x answer) t k))

pub one_output : OneOutput
one_output p j output other x y =
    x.is_output
    ∙ ap (λ (d : Effect). d.output)
    (one_run p false true (opening_store p) j.picks p.first (goes x.term) (goes y.term) x.effect
    y.effect x.records.is_run.runs y.records.is_run.runs).1
    ∙ sym y.is_output

pub parts_once : OneParting
parts_once = one_parting

-- ---- one answer

no_run_behind : (p : Program) (fuel n m : ℕ) (picks : List Pick) → n < m
    → RunsWithin p fuel (take m picks) → RunsWithin p fuel (take (n + 1) picks)
no_run_behind p fuel n m picks l r =
    subst (RunsWithin p fuel) (take-take (n + 1) m picks (omega (arith, l)))
    (first_picks p fuel (n + 1) (take m picks) r.term r.effect r.is_run r.within_fuel)

breaks_no_later : (p : Program) (j : Journal) (n m : ℕ) → BreaksAt p j n → BreaksAt p j m → n < m
    → ⊥
breaks_no_later p j n m a b l = go a.cause b.cause
  where
    go : ((n < length j.picks) × (RunsWithin p j.fuel (take (n + 1) j.picks) → ⊥))
        ⊎ ((n ≡ length j.picks) × (IsJournal p j → ⊥))
        → ((m < length j.picks) × (RunsWithin p j.fuel (take (m + 1) j.picks) → ⊥))
        ⊎ ((m ≡ length j.picks) × (IsJournal p j → ⊥)) → ⊥
    go (inl h) k = h.1 (no_run_behind p j.fuel n m j.picks l b.before)
    go (inr h) (inl k) = omega (arith, l, h.0, k.0)
    go (inr h) (inr k) = omega (arith, l, h.0, k.0)

compared : (n m : ℕ) → (n < m) ⊎ ((n ≡ m) ⊎ (m < n))
compared zero zero = inr (inl refl)
compared zero (suc m) = inl (omega arith)
compared (suc n) zero = inr (inr (omega arith))
compared (suc n) (suc m) = go (compared n m)
  where
    go : (n < m) ⊎ ((n ≡ m) ⊎ (m < n)) → (suc n < suc m) ⊎ ((suc n ≡ suc m) ⊎ (suc m < suc n))
    go (inl l) = inl (omega (arith, l))
    go (inr (inl e)) = inr (inl (ap suc e))
    go (inr (inr l)) = inr (inr (omega (arith, l)))

breaks_once : (p : Program) (j : Journal) (n m : ℕ) → BreaksAt p j n → BreaksAt p j m → n ≡ m
breaks_once p j n m a b = go (compared n m)
  where
    go : (n < m) ⊎ ((n ≡ m) ⊎ (m < n)) → n ≡ m
    go (inl l) = absurd (breaks_no_later p j n m a b l)
    go (inr (inl e)) = e
    go (inr (inr l)) = absurd (breaks_no_later p j m n b a l)

breaks_unprinted : (p : Program) (j : Journal) (n : ℕ) (output : List ℕ) → BreaksAt p j n
    → Prints p j output → ⊥
breaks_unprinted p j n output a k = broken_is_none p j n a (k.term, (k.effect, k.records))

parted_unprinted : (p : Program) (j : Journal) (kept printed : List ℕ) (n : ℕ) → Prints p j printed
    → PartsAt kept printed n → Prints p j kept → ⊥
parted_unprinted p j kept printed n k q h =
    parted_differ kept printed n q (one_output p j kept printed h k)

parts_there_once : (p : Program) (j : Journal) (kept one two : List ℕ) (n m : ℕ) → Prints p j one
    → PartsAt kept one n → Prints p j two → PartsAt kept two m → n ≡ m
parts_there_once p j kept one two n m k q h r =
    one_parting kept one n m q (subst (λ t. PartsAt kept t m) (one_output p j two one h k) r)

pub one_answer : OneAnswer
one_answer p kept Yes Yes a b = refl
one_answer p kept Yes (NotARun m) a b = absurd (breaks_unprinted p kept.journal m kept.output b a)
one_answer p kept Yes (OtherOutput m) a b =
    absurd (parted_unprinted p kept.journal kept.output b.0 m b.1 b.2 a)
one_answer p kept (NotARun n) Yes a b = absurd (breaks_unprinted p kept.journal n kept.output a b)
one_answer p kept (NotARun n) (NotARun m) a b = ap NotARun (breaks_once p kept.journal n m a b)
one_answer p kept (NotARun n) (OtherOutput m) a b =
    absurd (breaks_unprinted p kept.journal n b.0 a b.1)
one_answer p kept (OtherOutput n) Yes a b =
    absurd (parted_unprinted p kept.journal kept.output a.0 n a.1 a.2 b)
one_answer p kept (OtherOutput n) (NotARun m) a b =
    absurd (breaks_unprinted p kept.journal m a.0 b a.1)
one_answer p kept (OtherOutput n) (OtherOutput m) a b =
    ap OtherOutput (parts_there_once p kept.journal kept.output a.0 b.0 n m a.1 a.2 b.1 b.2)
