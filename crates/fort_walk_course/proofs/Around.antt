-- The machines that wait, and courses by equal parts.
use Rattle.std.proofs.Common.{◌≡◌, ◌≢◌, ℕ, List, [], ◌∷◌, ◌++◌, refl, ap, ◌∙◌, subst, sym}
use Rattle.fort_core.specs.declared.pick.Pick.{Pick}
use Rattle.fort_core.specs.declared.program.Program.{Program}
use Rattle.fort_core.specs.declared.term.Term.{Term}
use Rattle.fort_machine.specs.Attempts.{Ended}
use Rattle.fort_frames.specs.declared.place.Place.{Place}
use Rattle.fort_store_effects.specs.Levels.{Levels}
use Rattle.fort_walk_law_course.specs.Course.{Held, Comes, IsCourse}
use Rattle.fort_walk_course.specs.declared.course.Waiting.{Waiting}
use Rattle.fort_walk_course.specs.Courses.{held, inwards}

inwards_last : (rest : List Waiting) (w : Waiting) (hs : List Held)
    → inwards (rest ++ w ∷ []) hs ≡ held w ∷ inwards rest hs
inwards_last [] w hs = refl
inwards_last (r ∷ rest) w hs = inwards_last rest w (held r ∷ hs)

-- the last one that waits is the first one round the innermost machine
pub last_is_first : (outer rest : List Waiting) (w : Waiting) → outer ≡ rest ++ w ∷ []
    → inwards outer [] ≡ held w ∷ inwards rest []
last_is_first outer rest w e = ap (λ os. inwards os []) e ∙ inwards_last rest w []

-- where some wait, one is the first
inwards_some : (os : List Waiting) (h : Held) (hs : List Held)
    → (g : Held) × (gs : List Held) × (inwards os (h ∷ hs) ≡ g ∷ gs)
inwards_some [] h hs = (h, hs, refl)
inwards_some (o ∷ os) h hs = inwards_some os (held o) (h ∷ hs)

pub around_some : (os : List Waiting) → os ≢ []
    → (g : Held) × (gs : List Held) × (inwards os [] ≡ g ∷ gs)
around_some [] n = absurd (n refl)
around_some (o ∷ os) n = inwards_some os (held o) []

-- by equal parts
pub course_by : (p : Program) (fuel full : ℕ) (v w : Levels) (picks all : List Pick)
    (hs gs : List Held) (clock now fresh free : ℕ) (place : Place) (a : Term)
    → full ≡ fuel → w ≡ v → all ≡ picks → gs ≡ hs → now ≡ clock → free ≡ fresh
    → IsCourse p fuel v picks hs clock fresh place a → IsCourse p full w all gs now free place a
course_by p fuel full v w picks all hs gs clock now fresh free place a ef ev ep eh ec en c =
    let one = subst (λ n. IsCourse p n v picks hs clock fresh place a) (sym ef) c in
    let two = subst (λ x. IsCourse p full x picks hs clock fresh place a) (sym ev) one in
    let three = subst (λ ps. IsCourse p full w ps hs clock fresh place a) (sym ep) two in
    let four = subst (λ xs. IsCourse p full w all xs clock fresh place a) (sym eh) three in
    let five = subst (λ n. IsCourse p full w all gs n fresh place a) (sym ec) four in
    subst (λ n. IsCourse p full w all gs now n place a) (sym en) five

pub comes_by : (p : Program) (fuel full : ℕ) (v w : Levels) (picks all : List Pick)
    (hs gs : List Held) (clock now : ℕ) (r : Ended)
    → full ≡ fuel → w ≡ v → all ≡ picks → gs ≡ hs → now ≡ clock → Comes p fuel v picks hs clock r
    → Comes p full w all gs now r
comes_by p fuel full v w picks all hs gs clock now r ef ev ep eh ec c =
    let one = subst (λ n. Comes p n v picks hs clock r) (sym ef) c in
    let two = subst (λ x. Comes p full x picks hs clock r) (sym ev) one in
    let three = subst (λ ps. Comes p full w ps hs clock r) (sym ep) two in
    let four = subst (λ xs. Comes p full w all xs clock r) (sym eh) three in
    subst (λ n. Comes p full w all gs n r) (sym ec) four
