-- What lists of events give.
use Rattle.std.proofs.Common.{◌≡◌, ◌≢◌, ℕ, ◌==◌, Bool, true, false, ◌&&◌, List, [], ◌∷◌, ◌++◌, map, refl, ap, sym, ◌∙◌, append_assoc, if◌then◌else◌}
use Rattle.fort_hall_law_plays.specs.Histories.{Given, entry_of, given_by, given, offers_of, entries_of}
use Rattle.fort_hall_law_plays.specs.Offers.{Outcome, taken, refused, wanting, is_taken}
use Rattle.fort_hall_law_plays.specs.Plays.{Event, submit, begin, finish, leave}
use Rattle.fort_hall_law_plays.proofs.Answered.{gift}
use Rattle.fort_hall_law_plays.proofs.Worlds.{same_number, other_number}

-- an offer gives to its own book, and to no other one
pub own_gift : (o : Outcome) (n : ℕ) (g : Given)
    → (if is_taken o && (n == n) then g ∷ [] else []) ≡ gift o g
own_gift taken n g = ap (λ b. if b then g ∷ [] else []) (same_number n)
own_gift refused n g = refl
own_gift wanting n g = refl

pub no_gift : (o : Outcome) (m n : ℕ) (g : Given) → m ≢ n
    → (if is_taken o && (m == n) then g ∷ [] else []) ≡ []
no_gift taken m n g d = ap (λ b. if b then g ∷ [] else []) (other_number m n d)
no_gift refused m n g d = refl
no_gift wanting m n g d = refl

pub given_append : (n : ℕ) (a b : List Event) → given n (a ++ b) ≡ given n a ++ given n b
given_append n [] b = refl
given_append n (event ∷ a) b =
    ap (λ gs. given_by n event ++ gs) (given_append n a b)
    ∙ sym (append_assoc (given_by n event) (given n a) (given n b))

-- ---- of one pass

-- an entry of a pass, or of another one
one_entry : (pass : ℕ) (g : Given) (gs hs : List Given) (b c : Bool)
    → entries_of pass (map entry_of gs) ≡ map entry_of hs → (g.pass == pass) ≡ c
    → entries_of pass (map entry_of ((if b then g ∷ [] else []) ++ gs))
    ≡ map entry_of (if c then (if b then g ∷ [] else []) ++ hs else hs)
one_entry pass g gs hs true true e q =
    ap (λ x. if x then entry_of g ∷ entries_of pass (map entry_of gs)
    else entries_of pass (map entry_of gs)) q
    ∙ ap (λ es. entry_of g ∷ es) e
one_entry pass g gs hs true false e q =
    ap (λ x. if x then entry_of g ∷ entries_of pass (map entry_of gs)
    else entries_of pass (map entry_of gs)) q
    ∙ e
one_entry pass g gs hs false true e q = e
one_entry pass g gs hs false false e q = e

given_of : (n : ℕ) (event : Event) (events : List Event) (c : Bool)
    → given n (if c then event ∷ events else events)
    ≡ (if c then given_by n event ++ given n events else given n events)
given_of n event events true = refl
given_of n event events false = refl

pub own_offers : (pass n : ℕ) (events : List Event)
    → entries_of pass (map entry_of (given n events))
    ≡ map entry_of (given n (offers_of pass events))
own_offers pass n [] = refl
own_offers pass n (submit m leg by outcome ∷ events) =
    one_entry pass (record { leg = leg; pass = by }) (given n events)
    (given n (offers_of pass events)) (is_taken outcome && (m == n)) (by == pass)
    (own_offers pass n events) refl
    ∙ sym (ap (map entry_of)
    (given_of n (submit m leg by outcome) (offers_of pass events) (by == pass)))
own_offers pass n (begin opening fuel ∷ events) = own_offers pass n events
own_offers pass n (finish k m leg by outcome ∷ events) =
    one_entry pass (record { leg = leg; pass = by }) (given n events)
    (given n (offers_of pass events)) (is_taken outcome && (m == n)) (by == pass)
    (own_offers pass n events) refl
    ∙ sym (ap (map entry_of)
    (given_of n (finish k m leg by outcome) (offers_of pass events) (by == pass)))
own_offers pass n (leave k ∷ events) = own_offers pass n events
