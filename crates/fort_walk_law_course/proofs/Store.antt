-- The store that the levels show is that to which the innermost machine has come.
use Rattle.std.proofs.Common.{◌≡◌, ℕ, ◌≤◌, List, [], ◌∷◌, refl, ap, ◌∙◌, arith}
use Rattle.fort_core.specs.declared.program.Program.{Program}
use Rattle.fort_machine.specs.Effects.{Store, Effect, both, FitsAll, afterwards}
use Rattle.fort_machine.specs.Journals.{opening_store}
use Rattle.fort_machine.proofs.WholeEffects.{afterwards_both}
use Rattle.fort_store_effects.specs.Levels.{Levels, seen, added}
use Rattle.fort_walk_law_course.specs.Course.{Held, Base, base_of, Waits, AllWait, is_inner}

-- levels by what was done in each
abbrev pub levels_by : Program → Effect → List Effect → Levels
levels_by p root es =
    record {
      store = afterwards root (opening_store p);
      output = root.output;
      cost = root.cost;
      attempts = es;
    }

-- the store to which the innermost machine has come
abbrev pub store_by : Program → Effect → List Held → List Effect → Store
store_by p root ws es = afterwards (base_of p root ws es).done (base_of p root ws es).store

pub seen_base : (p : Program) (now : ℕ) (root : Effect) (ws : List Held) (es : List Effect)
    → AllWait p now root ws es → seen (levels_by p root es) ≡ store_by p root ws es
seen_base p now root [] [] k = refl
seen_base p now root [] (e ∷ es) k = absurd k
seen_base p now root (w ∷ ws) [] k = absurd k
seen_base p now root (w ∷ ws) (e ∷ es) k = ap (afterwards e) (seen_base p w.clock root ws es k.2)

pub inner_is : (p : Program) (now : ℕ) (root : Effect) (ws : List Held) (es : List Effect)
    → AllWait p now root ws es → (base_of p root ws es).inner ≡ is_inner ws
inner_is p now root [] es k = refl
inner_is p now root (w ∷ ws) [] k = absurd k
inner_is p now root (w ∷ ws) (e ∷ es) k = refl

-- who waits still waits later
waits_on : (p : Program) (b : Base) (now later : ℕ) (w : Held) → now ≤ later → Waits p b now w
    → Waits p b later w
waits_on p b now later w l k =
    record {
      form = k.form;
      is_kept = k.is_kept;
      not_later = omega (arith, k.not_later, l);
      stage = k.stage;
      nothing = k.nothing;
      is_form = k.is_form;
      bare = k.bare;
      may = k.may;
    }

pub wait_on : (p : Program) (now later : ℕ) (root : Effect) (ws : List Held) (es : List Effect)
    → now ≤ later → AllWait p now root ws es → AllWait p later root ws es
wait_on p now later root [] [] l k = k
wait_on p now later root [] (e ∷ es) l k = absurd k
wait_on p now later root (w ∷ ws) [] l k = absurd k
wait_on p now later root (w ∷ ws) (e ∷ es) l k =
    (waits_on p (base_of p root ws es) now later w l k.0, k.1, k.2)

-- something done more, as the levels show it
pub seen_added : (p : Program) (now : ℕ) (root : Effect) (ws : List Held) (es : List Effect)
    (e : Effect) → AllWait p now root ws es
    → FitsAll (base_of p root ws es).done (base_of p root ws es).store
    → FitsAll e (store_by p root ws es)
    → seen (added e (levels_by p root es)) ≡ afterwards e (store_by p root ws es)
seen_added p now root [] [] e k f g = refl
seen_added p now root [] (d ∷ ds) e k f g = absurd k
seen_added p now root (w ∷ ws) [] e k f g = absurd k
seen_added p now root (w ∷ ws) (d ∷ ds) e k f g =
    ap (afterwards (both d e)) (seen_base p w.clock root ws ds k.2)
    ∙ afterwards_both d e (store_by p root ws ds) f g
