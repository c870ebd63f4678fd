-- The last attempt that is open.
use Rattle.std.proofs.Common.{◌≡◌, ◌-◌, List, [], ◌∷◌, ◌++◌, length, take, slice_get, Some, ap, sym, ◌∙◌, arith, length-append}
use Rattle.std.proofs.lemmas.Option.{slice_get-get_or}
use Rattle.std.proofs.lemmas.List.{take_at}
use Rattle.std.proofs.Math.Seq.{get_or-append_seam}
use Rattle.fort_core.specs.declared.pick.Pick.{Attempt}
use Rattle.fort_audit_record.specs.declared.reader.Open.{Open}
use Rattle.fort_audit_record.specs.declared.reader.Reader.{Reader}
use Rattle.fort_audit_record.specs.Reading.{closed, put_pick}

module _ (xs : List Open) (o : Open) where
  place : length (xs ++ o ∷ []) - 1 ≡ length xs
  place = omega (arith, length-append xs (o ∷ []))

  pub last_is : slice_get (xs ++ o ∷ []) (length (xs ++ o ∷ []) - 1) ≡ Some o
  last_is =
      ap (slice_get (xs ++ o ∷ [])) place
      ∙ slice_get-get_or (xs ++ o ∷ []) (length xs) o (omega (arith, length-append xs (o ∷ [])))
      ∙ ap Some (get_or-append_seam xs o [] o)

  pub rest_is : take (length (xs ++ o ∷ []) - 1) (xs ++ o ∷ []) ≡ xs
  rest_is = take_at xs (o ∷ []) _ (sym place)

pub closed_is : (r : Reader) (xs : List Open) (o : Open) → r.attempts ≡ xs ++ o ∷ []
    → closed r (slice_get r.attempts (length r.attempts - 1))
    ≡ put_pick (record r { attempts = xs; picks = o.before }) (Attempt o.path r.picks)
closed_is r xs o e =
    ap (λ os. closed r (slice_get os (length os - 1))) e ∙ ap (closed r) (last_is xs o)
    ∙ ap (λ os. put_pick (record r { attempts = os; picks = o.before }) (Attempt o.path r.picks))
    (ap (λ os. take (length os - 1) os) e ∙ rest_is xs o)
