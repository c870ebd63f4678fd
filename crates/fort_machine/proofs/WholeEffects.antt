-- What holds of whole effects.
use Rattle.std.proofs.Common.{◌≡◌, ℕ, refl, arith, append_assoc}
use Rattle.std.proofs.Math.Path.{fun_ext}
use Rattle.std.proofs.lemmas.List.{append-nil}
use Rattle.fort_machine.specs.Effects.{Store, Effect, idle, both, FitsAll, MeetsAll, afterwards}
use Rattle.fort_machine.proofs.Cells.{joined_assoc, joined_untouched, entry_joined, joined_fits, meets_of, split}

pub same_effect : (d e : Effect) → ((l : ℕ) → d.cells l ≡ e.cells l) → d.output ≡ e.output
    → d.cost ≡ e.cost → d ≡ e
same_effect d e c o n = λ i. record { cells = λ l. c l i; output = o i; cost = n i }

pub both_assoc : (c d e : Effect) → both (both c d) e ≡ both c (both d e)
both_assoc c d e =
    same_effect _ _ (λ l. joined_assoc (c.cells l) (d.cells l) (e.cells l))
    (append_assoc c.output d.output e.output) (omega arith)

pub idle_both : (d : Effect) → both idle d ≡ d
idle_both d = same_effect _ _ (λ l. refl) refl (omega arith)

pub both_idle : (d : Effect) → both d idle ≡ d
both_idle d =
    same_effect _ _ (λ l. joined_untouched (d.cells l)) (append-nil d.output) (omega arith)

pub afterwards_both : (d e : Effect) (s : Store) → FitsAll d s → FitsAll e (afterwards d s)
    → afterwards (both d e) s ≡ afterwards e (afterwards d s)
afterwards_both d e s f g = fun_ext (λ l. entry_joined (d.cells l) (e.cells l) (s l) (f l) (g l))

pub both_fits : (d e : Effect) (s : Store) → FitsAll d s → FitsAll e (afterwards d s)
    → FitsAll (both d e) s
both_fits d e s f g = λ l. joined_fits (d.cells l) (e.cells l) (s l) (f l) (g l)

pub both_meet : (d e : Effect) (s : Store) → FitsAll d s → FitsAll e (afterwards d s) → MeetsAll d e
both_meet d e s f g = λ l. meets_of (d.cells l) (e.cells l) (s l) (f l) (g l)

pub fits_first : (d e : Effect) (s : Store) → MeetsAll d e → FitsAll (both d e) s → FitsAll d s
fits_first d e s m f = λ l. (split (d.cells l) (e.cells l) (s l) (m l) (f l)).0

pub fits_then : (d e : Effect) (s : Store) → MeetsAll d e → FitsAll (both d e) s
    → FitsAll e (afterwards d s)
fits_then d e s m f = λ l. (split (d.cells l) (e.cells l) (s l) (m l) (f l)).1
