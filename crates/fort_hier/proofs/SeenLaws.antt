-- What is known of the spellings so far.
use Rattle.std.proofs.Common.{◌≡◌, inl, inr, ◌↔◌, Bool, true, false, not, ◌&&◌, cond, IsTrue, List, [], ◌∷◌, ◌++◌, Option, Some, None, refl, sym, ap, ◌∙◌, subst, arith}
use Rattle.std.specs.Str.{bytes_eq}
use Rattle.std.specs.Cmp.Lexicographic.{bytes_decides}
use Rattle.std.proofs.lemmas.List.Elements.{Contains-push, Contains-push_cases, Contains-append_left}
use Rattle.fort_hier.specs.declared.seen.Seen.{Seen}
use Rattle.fort_hier.specs.Names.{Spelling, Called, ClashesWith}
use Rattle.fort_hier.specs.Seen.{seen_as, Stands, Known, HoldsSeen}

-- a name clashes exactly where functions don't have the spelling alone
clash_by : (before : List Called) (s : Spelling) (f b : Bool) → Known before s (Some b)
    → IsTrue (not (b && f)) ↔ ClashesWith before s f
clash_by before s true true k = (
  λ e. let g : false ≡ true = e in absurd cc,
  λ w. let g : w.0.is_function ≡ true = k.1.each w.0 w.1 w.2
      in let h : (w.0.is_function && true) ≡ false = w.3 in
      let i : (true && true) ≡ false = ap (λ z. z && true) (sym g) ∙ h in absurd cc,
)
clash_by before s false true k = (
  λ e. (
    k.0.name,
    k.0.within,
    k.0.spelled,
    ap (λ z. z && false) (k.1.each k.0.name k.0.within k.0.spelled),
  ),
  λ w. refl,
)
clash_by before s f false k =
    (λ e. (k.stands.name, k.stands.within, k.stands.spelled, ap (λ z. z && f) k.other), λ w. refl)

pub clash_known : (before : List Called) (seen : Seen) (s : Spelling) (f b r : Bool)
    → HoldsSeen before seen → Some b ≡ seen_as seen s → r ≡ (b && f) → IsTrue (not r)
    ↔ ClashesWith before s f
clash_known before seen s f b r h e q = subst (λ z. IsTrue (not z)
    ↔ ClashesWith before s f) (sym q)
    (clash_by before s f b (subst (Known before s) (sym e) (h.knows s)))

pub clash_nobody : (before : List Called) (seen : Seen) (s : Spelling) (f : Bool)
    → HoldsSeen before seen → None ≡ seen_as seen s → IsTrue false ↔ ClashesWith before s f
clash_nobody before seen s f h e = (
  λ g. let i : false ≡ true = g
      in absurd cc,
  λ w. absurd (nobody (record { name = w.0; within = w.1; spelled = w.2 })),
)
  where
    nobody : Stands before s → ⊥
    nobody = subst (Known before s) (sym e) (h.knows s)

-- ---- a name more

abbrev more_stands : (before : List Called) (x : Called) (s : Spelling) → Stands before s
    → Stands (before ++ x ∷ []) s
more_stands before x s k =
    record {
      name = k.name;
      within = Contains-append_left before (x ∷ []) k.name k.within;
      spelled = k.spelled;
    }

known_keep : (before : List Called) (x : Called) (v : Spelling) (r : Option Bool)
    → (x.spelling ≡ v → ⊥) → Known before v r → Known (before ++ x ∷ []) v r
known_keep before x v None n k =
    λ w. elim (Contains-push_cases before x w.name w.within) as (λ _. ⊥) [
      | inl d ↦ k (record { name = w.name; within = d; spelled = w.spelled })
      | inr e ↦ n (ap (λ (z : Called). z.spelling) e ∙ w.spelled)
    ]
known_keep before x v (Some true) n k = (
  more_stands before x v k.0,
  record {
    each = λ y w q. elim (Contains-push_cases before x y w) as (λ _. y.is_function ≡ true) [
      | inl d ↦ k.1.each y d q
      | inr e ↦ absurd (n (ap (λ (z : Called). z.spelling) e ∙ q))
    ];
  },
)
known_keep before x v (Some false) n k =
    record { stands = more_stands before x v k.stands; other = k.other }

-- the spelling of the new name
known_new : (before : List Called) (x : Called) (s : Spelling) → x.spelling ≡ s
    → Known before s None → (b : Bool) → x.is_function ≡ b → Known (before ++ x ∷ []) s (Some b)
known_new before x s p k true f = (
  record { name = x; within = Contains-push before x; spelled = p },
  record {
    each = λ y w q. elim (Contains-push_cases before x y w) as (λ _. y.is_function ≡ true) [
      | inl d ↦ absurd (k (record { name = y; within = d; spelled = q }))
      | inr e ↦ ap (λ (z : Called). z.is_function) (sym e) ∙ f
    ];
  },
)
known_new before x s p k false f =
    record { stands = record { name = x; within = Contains-push before x; spelled = p }; other = f }

known_again : (before : List Called) (x : Called) (s : Spelling) (b : Bool) → x.spelling ≡ s
    → Known before s (Some b) → (f : Bool) → x.is_function ≡ f
    → Known (before ++ x ∷ []) s (Some (b && f))
known_again before x s true p k true f = (
  more_stands before x s k.0,
  record {
    each = λ y w q. elim (Contains-push_cases before x y w) as (λ _. y.is_function ≡ true) [
      | inl d ↦ k.1.each y d q
      | inr e ↦ ap (λ (z : Called). z.is_function) (sym e) ∙ f
    ];
  },
)
known_again before x s true p k false f =
    record { stands = record { name = x; within = Contains-push before x; spelled = p }; other = f }
known_again before x s false p k g f =
    record { stands = more_stands before x s k.stands; other = k.other }

held_by : (before : List Called) (x : Called) (old : Seen) (s v : Spelling) (k : Bool)
    → HoldsSeen before old → x.spelling ≡ s → Known (before ++ x ∷ []) s (Some k)
    → (b : Bool) → bytes_eq s v ≡ b → Known (before ++ x ∷ []) v (cond b (Some k) (seen_as old v))
held_by before x old s v k h p w true e =
    subst (λ z. Known (before ++ x ∷ []) z (Some k)) ((bytes_decides s v).0 e) w
held_by before x old s v k h p w false e =
    known_keep before x v (seen_as old v) (λ q. let f : bytes_eq s v ≡ true =
    (bytes_decides s v).1 (sym p ∙ q) in absurd cc) (h.knows v)

held_more : (before : List Called) (x : Called) (old new : Seen) (s : Spelling) (k : Bool)
    → HoldsSeen before old → x.spelling ≡ s → Known (before ++ x ∷ []) s (Some k)
    → ((v : Spelling) → seen_as new v ≡ cond (bytes_eq s v) (Some k) (seen_as old v))
    → HoldsSeen (before ++ x ∷ []) new
held_more before x old new s k h p w u =
    record {
      knows =
          λ v. subst (Known (before ++ x ∷ []) v) (sym (u v))
          (held_by before x old s v k h p w (bytes_eq s v) refl);
    }

pub held_again : (before : List Called) (x : Called) (old new : Seen) (s : Spelling) (f b r : Bool)
    → HoldsSeen before old → Some b ≡ seen_as old s → r ≡ (b && f) → x.spelling ≡ s
    → x.is_function ≡ f
    → ((v : Spelling) → seen_as new v ≡ cond (bytes_eq s v) (Some r) (seen_as old v))
    → HoldsSeen (before ++ x ∷ []) new
held_again before x old new s f b r h e q p g u = held_more before x old new s r h p
    (subst (λ z. Known (before ++ x ∷ []) s (Some z)) (sym q)
    (known_again before x s b p (subst (Known before s) (sym e) (h.knows s)) f g)) u

pub held_new : (before : List Called) (x : Called) (old new : Seen) (s : Spelling) (f : Bool)
    → HoldsSeen before old → None ≡ seen_as old s → x.spelling ≡ s → x.is_function ≡ f
    → ((v : Spelling) → seen_as new v ≡ cond (bytes_eq s v) (Some f) (seen_as old v))
    → HoldsSeen (before ++ x ∷ []) new
held_new before x old new s f h e p g u =
    held_more before x old new s f h p
    (known_new before x s p (subst (Known before s) (sym e) (h.knows s)) f g) u

pub held_none : (new : Seen) → ((v : Spelling) → seen_as new v ≡ None) → HoldsSeen [] new
held_none new u =
    record { knows = λ v. subst (Known [] v) (sym (u v)) (λ w. let l = w.within.1 in omega arith) }
