-- What is known of three jobs once the deck is closed.
use Rattle.std.proofs.Common.{◌≡◌, ℕ, ◌+◌, ◌<◌, ◌==◌, cond, Bool, true, false, List, [], ◌∷◌, ◌++◌, length, Option, Some, None, refl, sym, ap, ◌∙◌, subst, arith, length-append}
use Rattle.std.specs.Prelude.{sum_by, MatchOption}
use Rattle.std.specs.List.{All}
use Rattle.std.proofs.lemmas.List.Sums.{sum_by-cons}
use Rattle.std.proofs.lemmas.List.Elements.{All-cons, All-head}
use Rattle.fort_deck.specs.declared.job.Job.{Job}
use Rattle.fort_deck.specs.declared.held.Thief.{Thief}
use Rattle.fort_deck.specs.Decks.{stolen_by}
use Rattle.fort_deck.specs.Thefts.{Theft, jobs_of, jobs_by}
use Rattle.fort_hall_test.specs.Jobs.{job}

abbrev head_of : (d : Job) → List Job → Job
head_of d [] = d
head_of d (x ∷ xs) = x

abbrev rest_of : List Job → List Job
rest_of [] = []
rest_of (x ∷ xs) = xs

the_one : (b : Bool) (t : Theft) (x : Job) → jobs_of (cond b (t ∷ []) []) ≡ x ∷ [] → t.job ≡ x
the_one true t x e = ap (head_of t.job) e
the_one false t x e = absurd cc

by_one : (t : Theft) (x : Job) → jobs_by 0 (t ∷ []) ≡ x ∷ [] → t.job ≡ x
by_one t x e = the_one (t.by == 0) t x e

-- where one of two jobs was stolen and one is left, the first was stolen and the second is left
pub one_stolen : (a b x : Job) (thefts : List Theft) (left : List Job)
    → a ∷ b ∷ [] ≡ jobs_of thefts ++ left → length left ≡ 1 → jobs_by 0 thefts ≡ x ∷ []
    → (x ≡ a) × (left ≡ b ∷ [])
one_stolen a b x [] left is one its = absurd (let two = ap length is in omega arith)
one_stolen a b x (t ∷ []) left is one its =
    (sym (by_one t x its) ∙ sym (ap (head_of a) is), sym (ap rest_of is))
one_stolen a b x (t ∷ u ∷ ts) left is one its =
    absurd (let two = ap length is in omega (arith, length-append (jobs_of ts) left))

-- two lists, of which the second ends with the one item of the first
pub single : (a x : Job) (front : List Job) → a ∷ [] ≡ front ++ x ∷ [] → (front ≡ []) × (x ≡ a)
single a x [] is = (refl, sym (ap (head_of a) is))
single a x (y ∷ ys) is = absurd (let n = ap length is in omega (arith, length-append ys (x ∷ [])))

ones : (xs : List Job) → sum_by (λ _. 1) xs ≡ length xs
ones [] = refl
ones (x ∷ xs) = let rest = ones xs in omega (arith, sum_by-cons (λ (_ : Job). 1) x xs)

-- jobs that each weigh 1 are counted
pub counts_one : (put owned left : List Job) (thieves : List Thief) (thief : Thief)
    → thieves ≡ thief ∷ []
    → ((weight : Job → ℕ)
    → sum_by weight put
    ≡ sum_by weight owned + sum_by (λ t. sum_by weight (stolen_by t)) thieves
    + sum_by weight left)
    → length put ≡ length owned + length (stolen_by thief) + length left
counts_one put owned left thieves thief is all =
    let weigh : Thief → ℕ = λ t. sum_by (λ _. 1) (stolen_by t) in
    let one = all (λ _. 1) in
    let its : sum_by weigh thieves ≡ sum_by weigh (thief ∷ []) = ap (sum_by weigh) is in
    omega (
      arith,
      ones put,
      ones owned,
      ones left,
      ones (stolen_by thief),
      sum_by-cons weigh thief [],
    )

-- the one thief of a list
pub the_thief : (P : Thief → Type 0) (thieves : List Thief) (thief : Thief) → thieves ≡ thief ∷ []
    → All P thieves → P thief
the_thief P thieves thief is all = All-head P thief [] (subst (All P) is all)

pub all_one : (P : Thief → Type 0) (thieves : List Thief) (thief : Thief) → thieves ≡ thief ∷ []
    → P thief → All P thieves
all_one P thieves thief is p =
    subst (All P) (sym is) (All-cons P thief [] p (λ k d l. absurd (omega arith)))

-- of one job that is left the first call takes it, and the next finds none
pub two_nexts : (b : Job) (l m n : List Job) (r s : Option Job) → l ≡ b ∷ []
    → MatchOption r ((l ≡ []) × (m ≡ [])) (λ x. l ≡ m ++ x ∷ [])
    → MatchOption s ((m ≡ []) × (n ≡ [])) (λ x. m ≡ n ++ x ∷ []) → (r ≡ Some b) × (s ≡ None)
two_nexts b l m n None s is one two = absurd (let k = ap length (sym is ∙ one.0) in omega arith)
two_nexts b l m n (Some x) None is one two = (ap Some (single b x m (sym is ∙ one)).1, refl)
two_nexts b l m n (Some x) (Some y) is one two =
    absurd (let k = ap length (sym (single b x m (sym is ∙ one)).0 ∙ two)
    in omega (arith, length-append n (y ∷ [])))

-- the first of the two jobs was stolen, and the second is left
pub row_known : (x : Job) (stack stolen left : List Job) (n : ℕ) → stack ≡ job 1 ∷ job 2 ∷ []
    → ((thefts : List Theft) × (stack ≡ jobs_of thefts ++ left) × (stolen ≡ jobs_by n thefts))
    → n ≡ 0 → stolen ≡ x ∷ [] → length left ≡ 1
    → (x ≡ job 1) × (left ≡ job 2 ∷ [])
row_known x stack stolen left n is order zero its one =
    one_stolen (job 1) (job 2) x order.0 left (sym is ∙ order.1) one (ap (λ
    (k : ℕ). jobs_by k order.0) (sym zero) ∙ (sym order.2 ∙ its))

stolen_none : (thefts : List Theft) (stack : List Job) (made : ℕ) → made ≡ 0 → 0 < length stack
    → stack ≡ jobs_of thefts → All (λ (t : Theft). t.by < made) thefts → ⊥
stolen_none [] stack made zero some is given = absurd (let k = ap length is in omega arith)
stolen_none (t ∷ ts) stack made zero some is given =
    absurd (let h = All-head (λ (t : Theft). t.by < made) t ts given in omega arith)

-- where no thief was made, not all of some jobs can have been stolen
pub none_stolen : (stack : List Job) (made : ℕ) → made ≡ 0 → 0 < length stack
    → ((thefts : List Theft) × (stack ≡ jobs_of thefts) × All (λ (t : Theft). t.by < made) thefts)
    → ⊥
none_stolen stack made zero some stolen =
    stolen_none stolen.0 stack made zero some stolen.1 stolen.2
