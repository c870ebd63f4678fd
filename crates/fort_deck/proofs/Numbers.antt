-- Thefts by number, and who speaks for a number.
use Rattle.std.proofs.Common.{◌≡◌, ◌≢◌, ℕ, ◌<◌, ◌==◌, cond, true, false, List, [], ◌∷◌, ◌++◌, map, refl, ap, ◌∙◌, arith, eq-eqb, ne_eqb}
use Rattle.std.specs.List.{filter, All}
use Rattle.std.proofs.lemmas.List.{map-append}
use Rattle.std.proofs.lemmas.List.Elements.{filter-append, All-head, All-tail, All-map}
use Rattle.fort_deck.specs.declared.job.Job.{Job}
use Rattle.fort_deck.specs.Thefts.{Theft, theft, jobs_of, jobs_by}

-- the jobs of a thief's new thefts
abbrev pub new_thefts : ℕ → List Job → List Theft
new_thefts n jobs = map (theft n) jobs

pub jobs_of_new : (n : ℕ) (jobs : List Job) → jobs_of (new_thefts n jobs) ≡ jobs
jobs_of_new n [] = refl
jobs_of_new n (x ∷ xs) = ap (λ l. x ∷ l) (jobs_of_new n xs)

own_new : (n : ℕ) (jobs : List Job) → jobs_by n (new_thefts n jobs) ≡ jobs
own_new n [] = refl
own_new n (x ∷ xs) =
    let same : (n == n) ≡ true = eq-eqb n n refl in rw same (ap (λ l. x ∷ l) (own_new n xs))

other_new : (n k : ℕ) (jobs : List Job) → n ≢ k → jobs_by k (new_thefts n jobs) ≡ []
other_new n k [] apart = refl
other_new n k (x ∷ xs) apart =
    let test : (n == k) ≡ false = ne_eqb n k apart in rw test (other_new n k xs apart)

by_both : (k : ℕ) (a b : List Theft) → jobs_by k (a ++ b) ≡ jobs_by k a ++ jobs_by k b
by_both k a b =
    ap jobs_of (filter-append (λ (t : Theft). t.by == k) a b) ∙ map-append (λ
    (t : Theft). t.job) (filter (λ (t : Theft). t.by == k) a) (filter (λ
    (t : Theft). t.by == k) b)

pub jobs_more : (thefts : List Theft) (n : ℕ) (jobs : List Job)
    → jobs_of (thefts ++ new_thefts n jobs) ≡ jobs_of thefts ++ jobs
jobs_more thefts n jobs =
    map-append (λ
    (t : Theft). t.job) thefts (new_thefts n jobs)
    ∙ ap (λ l. jobs_of thefts ++ l) (jobs_of_new n jobs)

pub own_more : (thefts : List Theft) (n : ℕ) (jobs : List Job)
    → jobs_by n (thefts ++ new_thefts n jobs) ≡ jobs_by n thefts ++ jobs
own_more thefts n jobs =
    by_both n thefts (new_thefts n jobs) ∙ ap (λ l. jobs_by n thefts ++ l) (own_new n jobs)

pub other_more : (thefts : List Theft) (n k : ℕ) (jobs : List Job) → n ≢ k
    → jobs_by k (thefts ++ new_thefts n jobs) ≡ jobs_by k thefts ++ []
other_more thefts n k jobs apart =
    by_both k thefts (new_thefts n jobs)
    ∙ ap (λ l. jobs_by k thefts ++ l) (other_new n k jobs apart)

pub given_new : (n most : ℕ) (jobs : List Job) → n < most
    → All (λ (t : Theft). t.by < most) (new_thefts n jobs)
given_new n most jobs below = All-map (λ (t : Theft). t.by < most) (theft n) jobs (λ k d l. below)

-- no theft is by a thief that isn't made yet
pub none_yet : (n : ℕ) (thefts : List Theft) → All (λ (t : Theft). t.by < n) thefts
    → jobs_by n thefts ≡ []
none_yet n [] below = refl
none_yet n (t ∷ ts) below =
    let here : t.by < n = All-head (λ (x : Theft). x.by < n) t ts below in
    let test : (t.by == n) ≡ false = ne_eqb t.by n (λ e. omega arith) in
    rw test (none_yet n ts (All-tail (λ (x : Theft). x.by < n) t ts below))

-- the seat of each number, where that of one number changes
abbrev pub seated : ℕ → ℕ → (ℕ → ℕ) → ℕ → ℕ
seated n seat seats k = cond (k == n) seat (seats k)

pub seated_here : (n seat : ℕ) (seats : ℕ → ℕ) → seated n seat seats n ≡ seat
seated_here n seat seats = let same : (n == n) ≡ true = eq-eqb n n refl in rw same refl

pub seated_else : (n seat : ℕ) (seats : ℕ → ℕ) (k : ℕ) → k ≢ n → seated n seat seats k ≡ seats k
seated_else n seat seats k apart = let test : (k == n) ≡ false = ne_eqb k n apart in rw test refl
