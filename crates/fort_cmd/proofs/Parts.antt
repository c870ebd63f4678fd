-- The parts of words: words begin with one part at most, and give one thing at most.
use Rattle.std.proofs.Common.{◌≡◌, ℕ, ◌+◌, ◌≤◌, List, [], ◌∷◌, ◌++◌, length, get_or, refl, ap, sym, ◌∙◌, subst, arith, inl, inr, true, false, length-append}
use Rattle.std.specs.Prelude.{codes, nat_eq, Some, None}
use Rattle.std.specs.List.{starts_with}
use Rattle.fort_cmd.specs.Words.{IsNumber, BeginsWith, InTwo, InOne, Choice, Workers, Fuel, name_of, most_of, NamesFile, Given, AddsFiles, AddsNumber, Adds, AddsMarked, AddsNamed, AddsOption, Gives, GivesNoMore, GivesPart}
use Rattle.fort_cmd.specs.Line.{Kind, OfFile, OfRun, OfAudit, OfLink, TakesOptions}

-- ---- the first word

-- the letter that an option's name begins with
abbrev letter_of : Choice → ℕ
letter_of Workers = 119
letter_of Fuel = 102

-- A word begins as the name of an option does.
abbrev IsOptionWord : Choice → List ℕ → Type 0
IsOptionWord choice word = (more : List ℕ) × (word ≡ 45 ∷ 45 ∷ letter_of choice ∷ more)

option_word : (choice : Choice) (ws rest : List (List ℕ)) (n : ℕ) (word : List ℕ)
    (behind : List (List ℕ))
    → BeginsWith (name_of choice) (most_of choice) ws n rest → ws ≡ word ∷ behind
    → IsOptionWord choice word
option_word Workers ws rest n word behind (InTwo number f e) q =
    let z : word ∷ behind ≡ codes "--workers" ∷ number ∷ rest = sym q ∙ e in
    let w : word ≡ codes "--workers" = cc in (codes "orkers", w)
option_word Workers ws rest n word behind (InOne number f e) q =
    let z : word ∷ behind ≡ (codes "--workers" ++ codes "=" ++ number) ∷ rest = sym q ∙ e in
    let w : word ≡ codes "--workers" ++ codes "=" ++ number = cc
    in (codes "orkers" ++ codes "=" ++ number, w)
option_word Fuel ws rest n word behind (InTwo number f e) q =
    let z : word ∷ behind ≡ codes "--fuel" ∷ number ∷ rest = sym q ∙ e in
    let w : word ≡ codes "--fuel" = cc in (codes "uel", w)
option_word Fuel ws rest n word behind (InOne number f e) q =
    let z : word ∷ behind ≡ (codes "--fuel" ++ codes "=" ++ number) ∷ rest = sym q ∙ e in
    let w : word ≡ codes "--fuel" ++ codes "=" ++ number = cc
    in (codes "uel" ++ codes "=" ++ number, w)

option_not_file : (choice : Choice) (word : List ℕ) → IsOptionWord choice word → NamesFile word → ⊥
option_not_file choice word w (inl q) =
    let z : 45 ∷ 45 ∷ letter_of choice ∷ w.0 ≡ 45 ∷ [] = sym w.1 ∙ q in cc
option_not_file choice word w (inr q) =
    let z : true ≡ false = sym (ap (λ v. starts_with nat_eq v (codes "-")) w.1) ∙ q in cc

option_not_mark : (choice : Choice) (word : List ℕ) → IsOptionWord choice word → word ≡ codes "--"
    → ⊥
option_not_mark choice word w q =
    let z : 45 ∷ 45 ∷ letter_of choice ∷ w.0 ≡ 45 ∷ 45 ∷ [] = sym w.1 ∙ q in cc

mark_no_name : NamesFile (codes "--") → ⊥
mark_no_name (inl q) = cc
mark_no_name (inr q) = cc

mark_named : (file : List ℕ) → NamesFile file → file ≡ codes "--" → ⊥
mark_named file names e = mark_no_name (subst NamesFile e names)

same_choice : (a b : Choice) (word : List ℕ) → IsOptionWord a word → IsOptionWord b word → a ≡ b
same_choice Workers Workers word v w = refl
same_choice Workers Fuel word v w = absurd
    (let z : 119 ≡ 102 = ap (λ w. get_or w 2 0) (sym v.1 ∙ w.1) in omega arith)
same_choice Fuel Workers word v w = absurd
    (let z : 102 ≡ 119 = ap (λ w. get_or w 2 0) (sym v.1 ∙ w.1) in omega arith)
same_choice Fuel Fuel word v w = refl

-- ---- an option

pub same_end : {A : Type 0} (o xs ys : List A) → o ++ xs ≡ o ++ ys → xs ≡ ys
same_end [] xs ys e = e
same_end (w ∷ o) xs ys e = let z : o ++ xs ≡ o ++ ys = cc in same_end o xs ys z

no_longer : (name other : List ℕ) → name ≡ name ++ codes "=" ++ other → ⊥
no_longer name other e =
    let l : length name ≡ length (name ++ codes "=") + length other =
    ap length e ∙ length-append (name ++ codes "=") other in
    let m : length (name ++ codes "=") ≡ length name + 1 = length-append name (codes "=")
    in omega arith

same_value : (most : ℕ) (number other : List ℕ) (n m : ℕ) → number ≡ other → IsNumber most number n
    → IsNumber most other m → n ≡ m
same_value most number other n m e f g =
    f.value ∙ sym (subst (λ w. IsNumber most w m) (sym e) g).value

one_option : (name : List ℕ) (most : ℕ) (ws rest others : List (List ℕ)) (n m : ℕ)
    → BeginsWith name most ws n rest → BeginsWith name most ws m others
    → (n ≡ m) × (rest ≡ others)
one_option name most ws rest others n m (InTwo number f e) (InTwo other g q) =
    let z : name ∷ number ∷ rest ≡ name ∷ other ∷ others = sym e ∙ q in
    let same : number ≡ other = cc in (same_value most number other n m same f g, cc)
one_option name most ws rest others n m (InTwo number f e) (InOne other g q) =
    let z : name ∷ number ∷ rest ≡ (name ++ codes "=" ++ other) ∷ others = sym e ∙ q in
    let w : name ≡ name ++ codes "=" ++ other = cc in absurd (no_longer name other w)
one_option name most ws rest others n m (InOne number f e) (InTwo other g q) =
    let z : name ∷ other ∷ others ≡ (name ++ codes "=" ++ number) ∷ rest = sym q ∙ e in
    let w : name ≡ name ++ codes "=" ++ number = cc in absurd (no_longer name number w)
one_option name most ws rest others n m (InOne number f e) (InOne other g q) =
    let z : (name ++ codes "=" ++ number) ∷ rest ≡ (name ++ codes "=" ++ other) ∷ others = sym e ∙ q
    in
    let w : name ++ codes "=" ++ number ≡ name ++ codes "=" ++ other = cc in
    let same : number ≡ other = same_end (name ++ codes "=") number other w
    in (same_value most number other n m same f g, cc)

first_word : (name : List ℕ) (most : ℕ) (ws rest : List (List ℕ)) (n : ℕ)
    → BeginsWith name most ws n rest
    → (word : List ℕ) × (behind : List (List ℕ)) × (ws ≡ word ∷ behind)
first_word name most ws rest n (InTwo number f e) = (name, number ∷ rest, e)
first_word name most ws rest n (InOne number f e) = (name ++ codes "=" ++ number, rest, e)

-- ---- a part

same_files : (before : Given) (files : List (List ℕ)) (one two : Given) → AddsFiles before files one
    → AddsFiles before files two → one ≡ two
same_files before files one two a b = a ∙ sym b

same_numbered : (choice : Choice) (before : Given) (n : ℕ) (one two : Given)
    → AddsNumber choice before n one → AddsNumber choice before n two → one ≡ two
same_numbered Workers before n one two a b = a.1 ∙ sym b.1
same_numbered Fuel before n one two a b = a.1 ∙ sym b.1

two_options : (ws : List (List ℕ)) (before one two : Given) (rest others : List (List ℕ))
    (a b : Choice) (n m : ℕ)
    → BeginsWith (name_of a) (most_of a) ws n rest → AddsNumber a before n one
    → BeginsWith (name_of b) (most_of b) ws m others → AddsNumber b before m two
    → (one ≡ two) × (rest ≡ others)
two_options ws before one two rest others a b n m p f q g =
    let w = first_word (name_of a) (most_of a) ws rest n p in
    let same : b ≡ a =
    sym (same_choice a b w.0 (option_word a ws rest n w.0 w.1 p w.2)
    (option_word b ws others m w.0 w.1 q w.2)) in
    let o = one_option (name_of a) (most_of a) ws rest others n m p
    (subst (λ c. BeginsWith (name_of c) (most_of c) ws m others) same q) in (
      same_numbered a before n one two f
          (subst (λ x. AddsNumber a before x two) (sym o.0)
          (subst (λ c. AddsNumber c before m two) same g)),
      o.1,
    )

pub one_part : (ws : List (List ℕ)) (before one two : Given) (rest others : List (List ℕ))
    → Adds ws before one rest → Adds ws before two others → (one ≡ two) × (rest ≡ others)
one_part ws before one two rest others (AddsMarked files e r a) (AddsMarked files' e' r' a') =
    let z : codes "--" ∷ files ≡ codes "--" ∷ files' = sym e ∙ e' in
    let same : files' ≡ files = cc
    in (
      same_files before files one two a (subst (λ x. AddsFiles before x two) same a'),
      r
          ∙ sym r',
    )
one_part ws before one two rest others (AddsMarked files e r a) (AddsNamed file names e' a') =
    let z : codes "--" ∷ files ≡ file ∷ others = sym e ∙ e' in absurd (mark_named file names cc)
one_part ws before one two rest others (AddsMarked files e r a) (AddsOption choice n b a') =
    absurd (option_not_mark choice (codes "--")
    (option_word choice ws others n (codes "--") files b e) refl)
one_part ws before one two rest others (AddsNamed file names e a) (AddsMarked files e' r a') =
    let z : file ∷ rest ≡ codes "--" ∷ files = sym e ∙ e' in absurd (mark_named file names cc)
one_part ws before one two rest others (AddsNamed file names e a) (AddsNamed file' names' e' a') =
    let z : file ∷ rest ≡ file' ∷ others = sym e ∙ e' in
    let same : file' ≡ file = cc
    in (
      same_files before (file ∷ []) one two a
          (subst (λ x. AddsFiles before (x ∷ []) two) same a'),
      cc,
    )
one_part ws before one two rest others (AddsNamed file names e a) (AddsOption choice n b a') =
    absurd (option_not_file choice file (option_word choice ws others n file rest b e) names)
one_part ws before one two rest others (AddsOption choice n b a) (AddsMarked files e r a') =
    absurd (option_not_mark choice (codes "--")
    (option_word choice ws rest n (codes "--") files b e) refl)
one_part ws before one two rest others (AddsOption choice n b a) (AddsNamed file names e a') =
    absurd (option_not_file choice file (option_word choice ws rest n file others b e) names)
one_part ws before one two rest others (AddsOption choice n b a) (AddsOption choice' m b' a') =
    two_options ws before one two rest others choice choice' n m b a b' a'

pub no_part : (ws : List (List ℕ)) (before after : Given) (rest : List (List ℕ))
    → Adds ws before after rest → ws ≡ [] → ⊥
no_part ws before after rest (AddsMarked files e r a) q =
    let z : [] ≡ codes "--" ∷ files = sym q ∙ e in cc
no_part ws before after rest (AddsNamed file names e a) q =
    let z : [] ≡ file ∷ rest = sym q ∙ e in cc
no_part ws before after rest (AddsOption choice n b a) q =
    let w = first_word (name_of choice) (most_of choice) ws rest n b
    in let z : [] ≡ w.0 ∷ w.1 = sym q ∙ w.2 in cc

-- ---- all parts

pub one_given : (ws : List (List ℕ)) (before one two : Given) → Gives ws before one
    → Gives ws before two → one ≡ two
one_given ws before one two (GivesNoMore e a) (GivesNoMore e' b) = a ∙ sym b
one_given ws before one two (GivesNoMore e a) (GivesPart more rest p g) =
    absurd (no_part ws before more rest p e)
one_given ws before one two (GivesPart more rest p g) (GivesNoMore e b) =
    absurd (no_part ws before more rest p e)
one_given ws before one two (GivesPart more rest p g) (GivesPart more' rest' p' g') =
    let s = one_part ws before more more' rest rest' p p' in
    one_given rest more one two g
    (subst (λ b. Gives rest b two) (sym s.0) (subst (λ r. Gives r more' two) (sym s.1) g'))

-- ---- files stay

pub more_files : (before after : Given) (files : List (List ℕ)) → AddsFiles before files after
    → length before.files ≤ length after.files
more_files before after files a =
    let l : length after.files ≡ length before.files + length files =
    ap (λ (g : Given). length g.files) a ∙ length-append before.files files in omega (arith, l)

as_many_files : (choice : Choice) (before after : Given) (n : ℕ) → AddsNumber choice before n after
    → length before.files ≤ length after.files
as_many_files Workers before after n a =
    let l : length after.files ≡ length before.files = ap (λ (g : Given). length g.files) a.1
    in omega (arith, l)
as_many_files Fuel before after n a =
    let l : length after.files ≡ length before.files = ap (λ (g : Given). length g.files) a.1
    in omega (arith, l)

files_stay_by : (ws : List (List ℕ)) (before after : Given) (rest : List (List ℕ))
    → Adds ws before after rest → length before.files ≤ length after.files
files_stay_by ws before after rest (AddsMarked files e r a) = more_files before after files a
files_stay_by ws before after rest (AddsNamed file names e a) =
    more_files before after (file ∷ []) a
files_stay_by ws before after rest (AddsOption choice n b a) = as_many_files choice before after n a

pub files_stay : (ws : List (List ℕ)) (before after : Given) → Gives ws before after
    → length before.files ≤ length after.files
files_stay ws before after (GivesNoMore e a) =
    let l : length after.files ≡ length before.files = ap (λ (g : Given). length g.files) a
    in omega (arith, l)
files_stay ws before after (GivesPart more rest p g) =
    omega (arith, files_stay_by ws before more rest p, files_stay rest more after g)

-- ---- options stay

no_option_by : (ws : List (List ℕ)) (before after : Given) (rest : List (List ℕ))
    → Adds ws before after rest → (after.workers ≡ None) × (after.fuel ≡ None)
    → (before.workers ≡ None) × (before.fuel ≡ None)
no_option_by ws before after rest (AddsMarked files e r a) o =
    (sym (ap (λ (g : Given). g.workers) a) ∙ o.0, sym (ap (λ (g : Given). g.fuel) a) ∙ o.1)
no_option_by ws before after rest (AddsNamed file names e a) o =
    (sym (ap (λ (g : Given). g.workers) a) ∙ o.0, sym (ap (λ (g : Given). g.fuel) a) ∙ o.1)
no_option_by ws before after rest (AddsOption Workers n b a) o =
    let z : Some n ≡ None = sym (ap (λ (g : Given). g.workers) a.1) ∙ o.0 in absurd cc
no_option_by ws before after rest (AddsOption Fuel n b a) o =
    let z : Some n ≡ None = sym (ap (λ (g : Given). g.fuel) a.1) ∙ o.1 in absurd cc

no_option : (ws : List (List ℕ)) (before after : Given) → Gives ws before after
    → (after.workers ≡ None) × (after.fuel ≡ None)
    → (before.workers ≡ None) × (before.fuel ≡ None)
no_option ws before after (GivesNoMore e a) o =
    (sym (ap (λ (g : Given). g.workers) a) ∙ o.0, sym (ap (λ (g : Given). g.fuel) a) ∙ o.1)
no_option ws before after (GivesPart more rest p g) o =
    no_option_by ws before more rest p (no_option rest more after g o)

pub options_stay : (kind : Kind) (ws : List (List ℕ)) (before after : Given) → Gives ws before after
    → TakesOptions kind after → TakesOptions kind before
options_stay OfRun ws before after g o = tt
options_stay OfFile ws before after g o = no_option ws before after g o
options_stay OfAudit ws before after g o = no_option ws before after g o
options_stay OfLink ws before after g o = tt
