-- What a slice gives at a place is what stands there.
use Rattle.std.proofs.Common.{◌≡◌, ℕ, ◌<◌, ◌≤◌, List, length, get_or, Option, Some, None, Bor, refl, sym}
use Rattle.std.specs.Prelude.{slice_get, MatchOption}
use Rattle.std.specs.Option.{option_copied, IfSome}
use Rattle.std.proofs.lemmas.Option.{slice_get_past, slice_get_read}
use Rattle.fort_base.specs.declared.ids.DeclId.{DeclId}

pub got : (Q : Bor DeclId → Type 0) (row : List DeclId) (a : ℕ) (r : Option (Bor DeclId))
    → MatchOption r (length row ≤ a) (λ x. (a < length row) × Q x)
    → IfSome r (λ x. x.now ≡ get_or row a x.now)
    → option_copied r ≡ slice_get row a
got Q row a None h e = sym (slice_get_past row a h)
got Q row a (Some x) h e = sym (slice_get_read row (length row) a x.now refl h.0 e)
