-- What comes of a grouping is what comes of it where its elements are taken off one after another,
-- as they stand in their order.
use Rattle.std.proofs.Common.{◌≡◌, ℕ, zero, suc, ◌-◌, Bool, true, false, cond, List, [], ◌∷◌, ◌++◌, length, drop, Option, Ok, Err, refl, arith, ap, ◌∙◌, sym, append_assoc, rules}
use Rattle.std.specs.Prelude.{slice_get}
use Rattle.std.proofs.lemmas.List.{length-append}
use Rattle.fort_base.specs.declared.refusal.CheckFault.TheVariants.{Refused}
use Rattle.fort_base.specs.declared.refusal.Place.{Place}
use Rattle.fort_base.specs.declared.refusal.Rule.{Rule}
use Rattle.fort_base.specs.declared.rules.TheConstants.{MISMATCH}
use Rattle.fort_juxt.specs.declared.elements.Grouping.{Grouping, out-Grouping, map-Grouping, fold_out-Grouping, the_lemmas}
use Rattle.fort_juxt.specs.declared.elements.Grouping.TheVariants as a_grouping
use Rattle.fort_juxt.specs.declared.elements.Grouping.TheOpen.{Grouping-F}
use Rattle.fort_typing_known.specs.declared.fault.Fault.{Fault}
use Rattle.fort_typing_known.specs.Known.{Facts}
use Rattle.fort_typing_rules.specs.declared.part.Part.{Part}
use Rattle.fort_typing_rules.specs.declared.part.Meaning.{Meaning}
use Rattle.fort_typing_rules.specs.declared.part.Meaning.TheVariants as a_meaning
use Rattle.fort_typing_rules.specs.Elements.{elements}
use Rattle.fort_typing_meaning.specs.declared.frame.Made.{Made}
use Rattle.fort_typing_meaning.specs.Faults.{breaks}
use Rattle.fort_typing_meaning.specs.Tests.{untyped, refused}
use Rattle.fort_typing_meaning.specs.Juxtaposing.{grouping_of}
use Rattle.fort_typing_meaning.specs.Joining.{Grown, Grows, as_grown, grows_one, grows_two, grows_at, grows, applied, joined, grown_outcome, grouped_by, beside}
use Rattle.fort_typing_elements.specs.Groupings.{IsOf, of_one, of_applied, of_joined}
use Rattle.fort_typing_elements.proofs.Ordered.{ordered}
use Rattle.fort_typing_joined.specs.Taking.{Taken, Takes, is_never, takes_one, takes_both, takes_then, takes_two, takes_at, taking}

abbrev a_growth : Part → Option Fault → Grown
a_growth p found = record { part = p; found = found }

abbrev a_taking : Grown → List Part → Taken
a_taking g ps = record { grown = g; rest = ps }

-- ---- parts that are `Nothing`

never_by : (found : Option Fault) (p : Part) (m : Meaning) → is_never m ≡ true
    → as_grown (record { part = record p { meaning = m }; found = found })
    ≡ record {
      part = record p { meaning = a_meaning.Unknown };
      found = breaks MISMATCH p.place found;
    }
never_by found p (a_meaning.Value t) e =
    ap (λ (c : Bool). a_growth (record p { meaning = cond c a_meaning.Unknown (a_meaning.Value t) })
    (cond c (breaks MISMATCH p.place found) found)) e
never_by found p a_meaning.Unknown e = absurd cc
never_by found p (a_meaning.Functions n) e = absurd cc
never_by found p (a_meaning.Index t) e = absurd cc
never_by found p (a_meaning.Exponent t) e = absurd cc
never_by found p (a_meaning.Field a n) e = absurd cc
never_by found p (a_meaning.Method a n ts) e = absurd cc

else_by : (found : Option Fault) (p : Part) (m : Meaning) → is_never m ≡ false
    → as_grown (record { part = record p { meaning = m }; found = found })
    ≡ record { part = record p { meaning = m }; found = found }
else_by found p (a_meaning.Value t) e =
    ap (λ (c : Bool). a_growth (record p { meaning = cond c a_meaning.Unknown (a_meaning.Value t) })
    (cond c (breaks MISMATCH p.place found) found)) e
else_by found p a_meaning.Unknown e = refl
else_by found p (a_meaning.Functions n) e = refl
else_by found p (a_meaning.Index t) e = refl
else_by found p (a_meaning.Exponent t) e = refl
else_by found p (a_meaning.Field a n) e = refl
else_by found p (a_meaning.Method a n ts) e = refl

pub never_grown : (g : Grown) → is_never g.part.meaning ≡ true
    → as_grown g
    ≡ record {
      part = record g.part { meaning = a_meaning.Unknown };
      found = breaks MISMATCH g.part.place g.found;
    }
never_grown g e = never_by g.found g.part g.part.meaning e

pub else_grown : (g : Grown) → is_never g.part.meaning ≡ false → as_grown g ≡ g
else_grown g e = else_by g.found g.part g.part.meaning e

-- ---- levels

module _ (k : Facts) where
  taking_level : (g : Grouping)
      → taking k g ≡ takes_at k (map-Grouping Grouping Takes (taking k) (out-Grouping g))
  unfolding taking
  taking_level g = fold_out-Grouping Takes (takes_at k) g

  grows_level : (ps : List Part) (g : Grouping)
      → grows k ps g ≡ grows_at k ps (map-Grouping Grouping Grows (grows k ps) (out-Grouping g))
  unfolding grows
  grows_level ps g = fold_out-Grouping Grows (grows_at k ps) g

  taking_by : (g : Grouping) {x : Grouping-F Grouping} → out-Grouping g ≡ x
      → taking k g ≡ takes_at k (map-Grouping Grouping Takes (taking k) x)
  taking_by g is =
      taking_level g ∙ ap (λ y. takes_at k (map-Grouping Grouping Takes (taking k) y)) is

  grows_from : (ps : List Part) (g : Grouping) {x : Grouping-F Grouping} → out-Grouping g ≡ x
      → grows k ps g ≡ grows_at k ps (map-Grouping Grouping Grows (grows k ps) x)
  grows_from ps g is =
      grows_level ps g ∙ ap (λ y. grows_at k ps (map-Grouping Grouping Grows (grows k ps) y)) is

  pub taking_one : (i : ℕ) → taking k (a_grouping.One i) ≡ takes_one
  taking_one i = taking_by (a_grouping.One i) {x = Grouping-F.One i} (search (rules, the_lemmas))

  pub taking_apply : (a b : Grouping)
      → taking k (a_grouping.Apply a b) ≡ takes_two (applied k) (taking k a) (taking k b)
  taking_apply a b =
      taking_by (a_grouping.Apply a b) {x = Grouping-F.Apply a b} (search (rules, the_lemmas))

  pub taking_pair : (a b : Grouping)
      → taking k (a_grouping.Pair a b) ≡ takes_two (joined k) (taking k a) (taking k b)
  taking_pair a b =
      taking_by (a_grouping.Pair a b) {x = Grouping-F.Pair a b} (search (rules, the_lemmas))

-- ---- one after another

one_taken : (ps : List Part) (i : ℕ) (found : Option Fault)
    → takes_one (drop i ps) found
    ≡ record { grown = grows_one (slice_get ps i) found; rest = drop (suc i) ps }
one_taken [] zero found = refl
one_taken [] (suc i) found = refl
one_taken (p ∷ ps) zero found = refl
one_taken (p ∷ ps) (suc i) found = one_taken ps i found

two_taken : (way : Part → Part → Made) (a b : Takes) (c d : Grows) (xs ys zs : List Part)
    (found : Option Fault) → a xs found ≡ record { grown = c found; rest = ys }
    → b ys (as_grown (c found)).found ≡ record { grown = d (as_grown (c found)).found; rest = zs }
    → takes_two way a b xs found ≡ record { grown = grows_two way c d found; rest = zs }
two_taken way a b c d xs ys zs found h i =
    ap (takes_then way b) h ∙ ap (takes_both way (as_grown (c found))) i

taken_is : (k : Facts) (ps : List Part) (g : Grouping) (i j : ℕ) (found : Option Fault) → IsOf g i j
    → taking k g (drop i ps) found ≡ record { grown = grows k ps g found; rest = drop j ps }
taken_is k ps g i j found (of_one is e) =
    ap (λ (f : Takes). f (drop i ps) found) (taking_by k g is)
    ∙ one_taken ps i found
    ∙ ap (λ (f : Grows). a_taking (f found) (drop (suc i) ps)) (sym (grows_from k ps g is))
    ∙ ap (λ (n : ℕ). a_taking (grows k ps g found) (drop n ps)) (sym e)
taken_is k ps g i j found (of_applied a b m is x y) =
    ap (λ (f : Takes). f (drop i ps) found) (taking_by k g is)
    ∙ two_taken (applied k) (taking k a) (taking k b) (grows k ps a) (grows k ps b) (drop i ps)
    (drop m ps) (drop j ps) found (taken_is k ps a i m found x)
    (taken_is k ps b m j (as_grown (grows k ps a found)).found y)
    ∙ ap (λ (f : Grows). a_taking (f found) (drop j ps)) (sym (grows_from k ps g is))
taken_is k ps g i j found (of_joined a b m is x y) =
    ap (λ (f : Takes). f (drop i ps) found) (taking_by k g is)
    ∙ two_taken (joined k) (taking k a) (taking k b) (grows k ps a) (grows k ps b) (drop i ps)
    (drop m ps) (drop j ps) found (taken_is k ps a i m found x)
    (taken_is k ps b m j (as_grown (grows k ps a found)).found y)
    ∙ ap (λ (f : Grows). a_taking (f found) (drop j ps)) (sym (grows_from k ps g is))

pub beside_grouped : (k : Facts) (ps : List Part) (g : Grouping) (found : Option Fault)
    → grouping_of (elements ps) ≡ Ok g
    → beside k ps found ≡ grown_outcome (taking k g ps found).grown
unfolding beside
beside_grouped k ps g found e =
    let o = ordered (elements ps) g e in
    ap (λ r. grouped_by k ps r found) e ∙ ap (λ
    (t : Taken). grown_outcome t.grown) (sym (taken_is k ps g 0 o.0 found o.1))

pub beside_refused : (k : Facts) (ps : List Part) (rule : Rule) (place : Place)
    (found : Option Fault) → grouping_of (elements ps) ≡ Err (Refused rule place)
    → beside k ps found ≡ refused rule place found
unfolding beside
beside_refused k ps rule place found e = ap (λ r. grouped_by k ps r found) e

pub beside_nothing : (k : Facts) (ps : List Part) (found : Option Fault) → length ps ≡ 0
    → beside k ps found ≡ untyped found
unfolding beside grouping_of
beside_nothing k [] found e = refl
beside_nothing k (p ∷ ps) found e = absurd (omega arith)

-- ---- a list that is turned into a stack

pub moved_over : (items left stack : List Part) (p : Part) → items ≡ left ++ p ∷ []
    → left ++ p ∷ stack ≡ items ++ stack
moved_over items left stack p e =
    sym (ap (λ (us : List Part). us ++ stack) e ∙ append_assoc left (p ∷ []) stack)

pub one_less : (items left : List Part) (p : Part) → items ≡ left ++ p ∷ []
    → length left ≡ length items - 1
one_less items left p e =
    let h : length items ≡ length (left ++ p ∷ []) = ap length e
    in let l = length-append left (p ∷ []) in omega (arith, h, l)
