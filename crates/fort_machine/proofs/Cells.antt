-- What holds at one location.
use Rattle.std.proofs.Common.{◌≡◌, Option, Some, None, refl, ap, sym, ◌∙◌}
use Rattle.fort_core.specs.declared.value.Value.{Value}
use Rattle.fort_machine.specs.Cells.{Cell, untouched, found, made, later, first_read, joined, Agrees, Fits, left_at, Meets, given_back, taken_away}

later_assoc : (a b c : Option Value) → later (later a b) c ≡ later a (later b c)
later_assoc a b None = refl
later_assoc a b (Some v) = refl

first_assoc : (r w r' w' r'' : Option Value)
    → first_read (first_read r w r') (later w w') r'' ≡ first_read r w (first_read r' w' r'')
first_assoc (Some v) w r' w' r'' = refl
first_assoc None (Some w) r' None r'' = refl
first_assoc None (Some w) r' (Some w') r'' = refl
first_assoc None None (Some v) w' r'' = refl
first_assoc None None None None r'' = refl
first_assoc None None None (Some w') r'' = refl

pub joined_assoc : (c d e : Cell) → joined (joined c d) e ≡ joined c (joined d e)
joined_assoc untouched d e = refl
joined_assoc (found r w) untouched e = refl
joined_assoc (found r w) (found r' w') untouched = refl
joined_assoc (found r w) (found r' w') (found r'' w'') =
    λ i. found (first_assoc r w r' w' r'' i) (later_assoc w w' w'' i)
joined_assoc (found r w) (found r' w') (made w'') = refl
joined_assoc (found r w) (made w') untouched = refl
joined_assoc (found r w) (made w') (found r'' w'') = refl
joined_assoc (found r w) (made w') (made w'') = refl
joined_assoc (made w) untouched e = refl
joined_assoc (made w) (found r' w') untouched = refl
joined_assoc (made w) (found r' w') (found r'' w'') = ap made (later_assoc w w' w'')
joined_assoc (made w) (found r' w') (made w'') = refl
joined_assoc (made w) (made w') untouched = refl
joined_assoc (made w) (made w') (found r'' w'') = refl
joined_assoc (made w) (made w') (made w'') = refl

pub joined_untouched : (c : Cell) → joined c untouched ≡ c
joined_untouched untouched = refl
joined_untouched (found r w) = refl
joined_untouched (made w) = refl

-- on an entry that fits, the join acts as the one and then the other
pub entry_joined : (c d : Cell) (o : Option Value) → Fits c o → Fits d (left_at c o)
    → left_at (joined c d) o ≡ left_at d (left_at c o)
entry_joined untouched d o f g = refl
entry_joined (found r w) untouched o f g = refl
entry_joined (found r w) (found r' w') o f g = sym (later_assoc o w w')
entry_joined (found r w) (made w') o f g = refl
entry_joined (made w) untouched o f g = refl
entry_joined (made w) (found r' w') o f g = refl
entry_joined (made w) (made w') o f g = refl

found_fits : (r w r' w' : Option Value) (v : Value) → Agrees (Some v) r
    → Fits (found r' w') (later (Some v) w) → Agrees (Some v) (first_read r w r')
found_fits (Some x) w r' w' v f g = f
found_fits None (Some y) r' w' v f g = tt
found_fits None None r' w' v f g = g

pub joined_fits : (c d : Cell) (o : Option Value) → Fits c o → Fits d (left_at c o)
    → Fits (joined c d) o
joined_fits untouched d o f g = g
joined_fits (found r w) untouched o f g = f
joined_fits (found r w) (found r' w') None f g = absurd f
joined_fits (found r w) (found r' w') (Some v) f g = found_fits r w r' w' v f g
joined_fits (found r w) (made w') None f g = absurd f
joined_fits (found r None) (made w') (Some v) f g = absurd g
joined_fits (found r (Some x)) (made w') (Some v) f g = absurd g
joined_fits (made w) untouched o f g = f
joined_fits (made w) (found r' w') None f g = tt
joined_fits (made w) (found r' w') (Some v) f g = absurd f
joined_fits (made w) (made w') None f g = tt
joined_fits (made w) (made w') (Some v) f g = absurd f

-- two that fit one after the other meet
pub meets_of : (c d : Cell) (o : Option Value) → Fits c o → Fits d (left_at c o) → Meets c d
meets_of untouched d o f g = tt
meets_of (found r w) untouched o f g = tt
meets_of (found r w) (found r' w') None f g = absurd f
meets_of (found r (Some x)) (found r' w') (Some v) f g = g
meets_of (found None None) (found r' w') (Some v) f g = tt
meets_of (found (Some x) None) (found None w') (Some v) f g = tt
meets_of (found (Some x) None) (found (Some y) w') (Some v) f g = sym f ∙ g
meets_of (found r w) (made w') None f g = absurd f
meets_of (found r None) (made w') (Some v) f g = absurd g
meets_of (found r (Some x)) (made w') (Some v) f g = absurd g
meets_of (made w) untouched o f g = tt
meets_of (made None) (found r' w') o f g = absurd g
meets_of (made (Some v)) (found r' w') o f g = g
meets_of (made None) (made w') o f g = tt
meets_of (made (Some v)) (made w') o f g = absurd g

-- an entry that fits the join fits the one and then the other
pub split : (c d : Cell) (o : Option Value) → Meets c d → Fits (joined c d) o
    → Fits c o × Fits d (left_at c o)
split untouched d o m f = (tt, f)
split (found r w) untouched o m f = (f, tt)
split (found r w) (found r' w') None m f = absurd f
split (found None None) (found r' w') (Some v) m f = (tt, f)
split (found None (Some x)) (found r' w') (Some v) m f = (tt, m)
split (found (Some y) (Some x)) (found r' w') (Some v) m f = (f, m)
split (found (Some y) None) (found None w') (Some v) m f = (f, tt)
split (found (Some y) None) (found (Some z) w') (Some v) m f = (f, f ∙ m)
split (found r w) (made w') o m f = absurd m
split (made w) untouched o m f = (f, tt)
split (made None) (found r' w') o m f = absurd m
split (made (Some v)) (found r' w') None m f = (tt, m)
split (made (Some v)) (found r' w') (Some x) m f = absurd f
split (made None) (made w') None m f = (tt, tt)
split (made None) (made w') (Some x) m f = absurd f
split (made (Some v)) (made w') o m f = absurd m

pub given_back_fits : (c : Cell) (o : Option Value) → Fits c o → Fits (given_back c) o
given_back_fits untouched o f = f
given_back_fits (found r w) None f = f
given_back_fits (found r w) (Some v) f = f
given_back_fits (made w) o f = f

pub fits_given_back : (c : Cell) (o : Option Value) → Fits (given_back c) o → Fits c o
fits_given_back untouched o f = f
fits_given_back (found r w) None f = f
fits_given_back (found r w) (Some v) f = f
fits_given_back (made w) o f = f

pub taken_away_fits : (c : Cell) (o : Option Value) → Fits c o → Fits (taken_away c) o
taken_away_fits untouched o f = f
taken_away_fits (found r w) None f = f
taken_away_fits (found r w) (Some v) f = f
taken_away_fits (made w) None f = f
taken_away_fits (made w) (Some v) f = f

pub fits_taken_away : (c : Cell) (o : Option Value) → Fits (taken_away c) o → Fits c o
fits_taken_away untouched o f = f
fits_taken_away (found r w) None f = f
fits_taken_away (found r w) (Some v) f = f
fits_taken_away (made w) None f = f
fits_taken_away (made w) (Some v) f = f

-- older locations have the values from before a failed attempt; after an aborted one the store is
-- as before
pub older_back : (c : Cell) (v : Value) → Fits c (Some v) → left_at (given_back c) (Some v) ≡ Some v
older_back untouched v f = refl
older_back (found r w) v f = refl
older_back (made w) v f = absurd f

pub all_back : (c : Cell) (o : Option Value) → Fits c o → left_at (taken_away c) o ≡ o
all_back untouched o f = refl
all_back (found r w) o f = refl
all_back (made w) None f = refl
all_back (made w) (Some v) f = absurd f

-- newer ones are what the inner run left
pub newer_kept : (c : Cell) → Fits c None → left_at (given_back c) None ≡ left_at c None
newer_kept untouched f = refl
newer_kept (found r w) f = absurd f
newer_kept (made w) f = refl
