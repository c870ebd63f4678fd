-- The commands that words are.
use Rattle.std.proofs.Common.{◌≡◌, ℕ, ◌+◌, List, [], ◌∷◌, length, get_or, refl, ap, sym, ◌∙◌, ◌≤◌, subst, false}
use Rattle.std.proofs.lemmas.Bool.{eqb-false}
use Rattle.std.specs.Prelude.{codes, nat_eq, unwrap_or}
use Rattle.fort_cmd.specs.declared.command.Command.{Command}
use Rattle.fort_cmd.specs.declared.command.Command.TheVariants.{Check, Show, Run, Bench, Record, Audit, Link}
use Rattle.fort_cmd.specs.Words.{IsNumber, Given, nothing, Gives, only, AsksRun, AsksLink, AsksBank, word_of, Asks, IsNoCommand, OneCommand, default_workers, default_fuel, most_accounts, most_files}
use Rattle.fort_cmd.proofs.Parts.{one_given}

-- ---- the commands' own words

same_word : (one two : List ℕ) (ws rest : List (List ℕ)) → one ∷ ws ≡ two ∷ rest → one ≡ two
same_word one two ws rest e = cc

same_behind : (one two : List ℕ) (ws rest : List (List ℕ)) → one ∷ ws ≡ two ∷ rest → rest ≡ ws
same_behind one two ws rest e = cc

-- a number by which the commands' own words differ
abbrev sum_of : List ℕ → ℕ
sum_of word = length word + get_or word 0 0

pub unlike : (one two : List ℕ) → nat_eq (sum_of one) (sum_of two) ≡ false → one ≡ two → ⊥
unlike one two d e = eqb-false (sum_of one) (sum_of two) d (ap sum_of e)

-- ---- no command of a word

none_asked : (word : List ℕ) (ws : List (List ℕ))
    → ((c : Command) → word ≡ word_of c → Asks ws c → ⊥) → IsNoCommand (word ∷ ws)
none_asked word ws none c is =
    none c (same_word word (word_of c) ws is.behind is.words_are)
    (subst (λ x. Asks x c) (same_behind word (word_of c) ws is.behind is.words_are) is.asks)

pub no_bench_command : (ws : List (List ℕ))
    → ((number : List ℕ) (n : ℕ) → Gives ws nothing (only (number ∷ []))
    → IsNumber most_accounts number n → ⊥)
    → IsNoCommand (codes "bench" ∷ ws)
no_bench_command ws none = none_asked (codes "bench") ws go
  where
    go : (c : Command) → codes "bench" ≡ word_of c → Asks ws c → ⊥
    go (Check file) e x = unlike (codes "bench") (codes "check") refl e
    go (Show file) e x = unlike (codes "bench") (codes "show") refl e
    go (Run file workers fuel) e x = unlike (codes "bench") (codes "run") refl e
    go (Bench n) e x = none x.number n x.gives x.is
    go (Record file workers fuel) e x = unlike (codes "bench") (codes "record") refl e
    go (Audit file kept) e x = unlike (codes "bench") (codes "audit") refl e
    go (Link files workers fuel) e x = unlike (codes "bench") (codes "link") refl e

same_file : (a b : List ℕ) → only (a ∷ []) ≡ only (b ∷ []) → a ≡ b
same_file a b e = let z : a ∷ [] ≡ b ∷ [] = ap (λ (g : Given). g.files) e in cc

-- Words that give one word which is no number of accounts are no bank.
pub without_number : (ws : List (List ℕ)) (number : List ℕ) → Gives ws nothing (only (number ∷ []))
    → ((n : ℕ) → IsNumber most_accounts number n → ⊥)
    → IsNoCommand (codes "bench" ∷ ws)
without_number ws number x none = no_bench_command ws (λ other n y is.
    none n (subst (λ w. IsNumber most_accounts w n)
    (sym (same_file number other
    (one_given ws nothing (only (number ∷ [])) (only (other ∷ [])) x y))) is))

-- Words that give too many files link none.
pub too_many_files : (ws : List (List ℕ)) (given : Given) → Gives ws nothing given
    → (length given.files ≤ most_files → ⊥) → IsNoCommand (codes "link" ∷ ws)
too_many_files ws given gives many = none_asked (codes "link") ws go
  where
    go : (c : Command) → codes "link" ≡ word_of c → Asks ws c → ⊥
    go (Check file) e x = unlike (codes "link") (codes "check") refl e
    go (Show file) e x = unlike (codes "link") (codes "show") refl e
    go (Run file workers fuel) e x = unlike (codes "link") (codes "run") refl e
    go (Bench n) e x = unlike (codes "link") (codes "bench") refl e
    go (Record file workers fuel) e x = unlike (codes "link") (codes "record") refl e
    go (Audit file kept) e x = unlike (codes "link") (codes "audit") refl e
    go (Link files workers fuel) e x =
        let same : given.files ≡ files =
        ap (λ (g : Given). g.files) (one_given ws nothing given x.given gives x.gives)
        ∙ x.files_are in
        many (subst (λ fs. length fs ≤ most_files) (sym same) x.within)

-- ---- one command at most

same_number : (most : ℕ) (a b : List ℕ) (n m : ℕ) → a ≡ b → IsNumber most a n → IsNumber most b m
    → n ≡ m
same_number most a b n m e f g = f.value ∙ sym (subst (λ w. IsNumber most w m) (sym e) g).value

same_only : (ws : List (List ℕ)) (a b : List ℕ) → Gives ws nothing (only (a ∷ []))
    → Gives ws nothing (only (b ∷ [])) → a ≡ b
same_only ws a b x y = same_file a b (one_given ws nothing (only (a ∷ [])) (only (b ∷ [])) x y)

same_bank : (ws : List (List ℕ)) (n m : ℕ) → AsksBank ws n → AsksBank ws m → n ≡ m
same_bank ws n m p q =
    same_number most_accounts p.number q.number n m (same_only ws p.number q.number p.gives q.gives)
    p.is q.is

same_two : (ws : List (List ℕ)) (a b c d : List ℕ) → Gives ws nothing (only (a ∷ c ∷ []))
    → Gives ws nothing (only (b ∷ d ∷ [])) → Audit a c ≡ Audit b d
same_two ws a b c d x y =
    let z : a ∷ c ∷ [] ≡ b ∷ d ∷ [] =
    ap (λ (g : Given). g.files)
    (one_given ws nothing (only (a ∷ c ∷ [])) (only (b ∷ d ∷ [])) x y) in
    let file : a ≡ b = cc in
    let kept : c ≡ d = cc in (λ i. Audit (file i) (kept i))

same_run : (make : List ℕ → ℕ → ℕ → Command) (ws : List (List ℕ)) (a b : List ℕ) (v w n m : ℕ)
    → AsksRun ws a v n → AsksRun ws b w m → make a v n ≡ make b w m
same_run make ws a b v w n m p q =
    let same = one_given ws nothing p.given q.given p.gives q.gives in
    let z : a ∷ [] ≡ b ∷ [] = sym p.files_are ∙ ap (λ (g : Given). g.files) same ∙ q.files_are in
    let file : a ≡ b = cc in
    let workers : v ≡ w =
    p.workers_are ∙ ap (λ
    (g : Given). unwrap_or g.workers default_workers) same ∙ sym q.workers_are in
    let fuel : n ≡ m =
    p.fuel_is ∙ ap (λ (g : Given). unwrap_or g.fuel default_fuel) same ∙ sym q.fuel_is
    in (λ i. make (file i) (workers i) (fuel i))

same_link : (ws a b : List (List ℕ)) (v w n m : ℕ) → AsksLink ws a v n → AsksLink ws b w m
    → Link a v n ≡ Link b w m
same_link ws a b v w n m p q =
    let same = one_given ws nothing p.given q.given p.gives q.gives in
    let files : a ≡ b =
    sym p.files_are ∙ ap (λ (g : Given). g.files) same ∙ q.files_are in
    let workers : v ≡ w =
    p.workers_are ∙ ap (λ
    (g : Given). unwrap_or g.workers default_workers) same ∙ sym q.workers_are in
    let fuel : n ≡ m =
    p.fuel_is ∙ ap (λ (g : Given). unwrap_or g.fuel default_fuel) same ∙ sym q.fuel_is
    in (λ i. Link (files i) (workers i) (fuel i))

same_asked : (ws : List (List ℕ)) (a b : Command) → word_of a ≡ word_of b → Asks ws a → Asks ws b
    → a ≡ b
same_asked ws (Check a) (Check b) e p q = ap Check (same_only ws a b p q)
same_asked ws (Check a) (Show b) e p q = absurd (unlike (codes "check") (codes "show") refl e)
same_asked ws (Check a) (Run b w m) e p q = absurd (unlike (codes "check") (codes "run") refl e)
same_asked ws (Check a) (Bench m) e p q = absurd (unlike (codes "check") (codes "bench") refl e)
same_asked ws (Check a) (Record b w m) e p q =
    absurd (unlike (codes "check") (codes "record") refl e)
same_asked ws (Check a) (Audit b d) e p q = absurd (unlike (codes "check") (codes "audit") refl e)
same_asked ws (Show a) (Check b) e p q = absurd (unlike (codes "show") (codes "check") refl e)
same_asked ws (Show a) (Show b) e p q = ap Show (same_only ws a b p q)
same_asked ws (Show a) (Run b w m) e p q = absurd (unlike (codes "show") (codes "run") refl e)
same_asked ws (Show a) (Bench m) e p q = absurd (unlike (codes "show") (codes "bench") refl e)
same_asked ws (Show a) (Record b w m) e p q = absurd (unlike (codes "show") (codes "record") refl e)
same_asked ws (Show a) (Audit b d) e p q = absurd (unlike (codes "show") (codes "audit") refl e)
same_asked ws (Run a v n) (Check b) e p q = absurd (unlike (codes "run") (codes "check") refl e)
same_asked ws (Run a v n) (Show b) e p q = absurd (unlike (codes "run") (codes "show") refl e)
same_asked ws (Run a v n) (Run b w m) e p q = same_run Run ws a b v w n m p q
same_asked ws (Run a v n) (Bench m) e p q = absurd (unlike (codes "run") (codes "bench") refl e)
same_asked ws (Run a v n) (Record b w m) e p q =
    absurd (unlike (codes "run") (codes "record") refl e)
same_asked ws (Run a v n) (Audit b d) e p q = absurd (unlike (codes "run") (codes "audit") refl e)
same_asked ws (Bench n) (Check b) e p q = absurd (unlike (codes "bench") (codes "check") refl e)
same_asked ws (Bench n) (Show b) e p q = absurd (unlike (codes "bench") (codes "show") refl e)
same_asked ws (Bench n) (Run b w m) e p q = absurd (unlike (codes "bench") (codes "run") refl e)
same_asked ws (Bench n) (Bench m) e p q = ap Bench (same_bank ws n m p q)
same_asked ws (Bench n) (Record b w m) e p q =
    absurd (unlike (codes "bench") (codes "record") refl e)
same_asked ws (Bench n) (Audit b d) e p q = absurd (unlike (codes "bench") (codes "audit") refl e)
same_asked ws (Record a v n) (Check b) e p q =
    absurd (unlike (codes "record") (codes "check") refl e)
same_asked ws (Record a v n) (Show b) e p q = absurd (unlike (codes "record") (codes "show") refl e)
same_asked ws (Record a v n) (Run b w m) e p q =
    absurd (unlike (codes "record") (codes "run") refl e)
same_asked ws (Record a v n) (Bench m) e p q =
    absurd (unlike (codes "record") (codes "bench") refl e)
same_asked ws (Record a v n) (Record b w m) e p q = same_run Record ws a b v w n m p q
same_asked ws (Record a v n) (Audit b d) e p q =
    absurd (unlike (codes "record") (codes "audit") refl e)
same_asked ws (Audit a c) (Check b) e p q = absurd (unlike (codes "audit") (codes "check") refl e)
same_asked ws (Audit a c) (Show b) e p q = absurd (unlike (codes "audit") (codes "show") refl e)
same_asked ws (Audit a c) (Run b w m) e p q = absurd (unlike (codes "audit") (codes "run") refl e)
same_asked ws (Audit a c) (Bench m) e p q = absurd (unlike (codes "audit") (codes "bench") refl e)
same_asked ws (Audit a c) (Record b w m) e p q =
    absurd (unlike (codes "audit") (codes "record") refl e)
same_asked ws (Audit a c) (Audit b d) e p q = same_two ws a b c d p q
same_asked ws (Check a) (Link b w m) e p q = absurd (unlike (codes "check") (codes "link") refl e)
same_asked ws (Show a) (Link b w m) e p q = absurd (unlike (codes "show") (codes "link") refl e)
same_asked ws (Run a v n) (Link b w m) e p q = absurd (unlike (codes "run") (codes "link") refl e)
same_asked ws (Bench n) (Link b w m) e p q = absurd (unlike (codes "bench") (codes "link") refl e)
same_asked ws (Record a v n) (Link b w m) e p q =
    absurd (unlike (codes "record") (codes "link") refl e)
same_asked ws (Audit a c) (Link b w m) e p q =
    absurd (unlike (codes "audit") (codes "link") refl e)
same_asked ws (Link a v n) (Check b) e p q = absurd (unlike (codes "link") (codes "check") refl e)
same_asked ws (Link a v n) (Show b) e p q = absurd (unlike (codes "link") (codes "show") refl e)
same_asked ws (Link a v n) (Run b w m) e p q = absurd (unlike (codes "link") (codes "run") refl e)
same_asked ws (Link a v n) (Bench m) e p q = absurd (unlike (codes "link") (codes "bench") refl e)
same_asked ws (Link a v n) (Record b w m) e p q =
    absurd (unlike (codes "link") (codes "record") refl e)
same_asked ws (Link a v n) (Audit b d) e p q =
    absurd (unlike (codes "link") (codes "audit") refl e)
same_asked ws (Link a v n) (Link b w m) e p q = same_link ws a b v w n m p q

pub one_command : OneCommand
one_command words a b p q =
    let e : word_of a ∷ p.behind ≡ word_of b ∷ q.behind = sym p.words_are ∙ q.words_are in
    same_asked p.behind a b (same_word (word_of a) (word_of b) p.behind q.behind e) p.asks
    (subst (λ ws. Asks ws b) (same_behind (word_of a) (word_of b) p.behind q.behind e) q.asks)
