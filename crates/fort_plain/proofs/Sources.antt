-- The picks of the machines that wait, as attempts begin and end.
use Rattle.std.proofs.Common.{◌≡◌, ◌&&◌, Bool, false, List, [], ◌∷◌, ◌++◌, refl, ap, sym, ◌∙◌, subst, append_assoc}
use Rattle.fort_base.specs.declared.ids.Loc.{Loc}
use Rattle.fort_core.specs.declared.path.Path.{Path}
use Rattle.fort_core.specs.declared.pick.Pick.{Pick, Step, Attempt, out-Pick}
use Rattle.fort_core.specs.declared.pick.Pick.TheVariants.{outs-Step, outs-Attempt}
use Rattle.fort_core.specs.declared.program.Program.{Program}
use Rattle.fort_walk_law_course.specs.Course.{Held}
use Rattle.fort_walk_course.specs.declared.course.Course.{Course}
use Rattle.fort_walk_course.specs.declared.course.Going.{Going}
use Rattle.fort_walk_course.specs.declared.course.Waiting.{Waiting}
use Rattle.fort_walk_course.specs.Courses.{around, held, inwards}
use Rattle.fort_walk_course.proofs.Around.{last_is_first}
use Rattle.fort_plain.specs.Takes.{GoesOn, Begins, Leaves}
use Rattle.fort_plain.specs.Within.{AreSources, IsFirst, IsSource, IsInside, IsSourceOf, IsWithin, HasSources, TakesPick, IsHere, inmost}
use Rattle.fort_plain.specs.declared.act.Turn.{Turn}
use Rattle.fort_plain.specs.declared.take.Source.{Source}
use Rattle.fort_plain.specs.declared.take.Within.{Within}

attempt_pick : (x y : Path) (ps qs : List Pick) → Attempt x ps ≡ Attempt y qs → (x ≡ y) × (ps ≡ qs)
attempt_pick x y ps qs e =
    let z = sym (outs-Attempt x ps) ∙ ap out-Pick e ∙ outs-Attempt y qs in (cc, cc)

pub step_is_none : (x y : Path) (l : Loc) (ps : List Pick) → Step x l ≡ Attempt y ps → ⊥
step_is_none x y l ps e =
    let z = sym (outs-Step x l) ∙ ap out-Pick e ∙ outs-Attempt y ps in absurd cc

inmost_last : (os : List Source) (s : Source) (ss : List Source)
    → inmost (os ++ s ∷ []) ss ≡ s ∷ inmost os ss
inmost_last [] s ss = refl
inmost_last (o ∷ os) s ss = inmost_last os s (o ∷ ss)

append_nil : (xs : List Pick) → xs ++ [] ≡ xs
append_nil [] = refl
append_nil (x ∷ xs) = ap (λ ys. x ∷ ys) (append_nil xs)

not_nil : (os : List Waiting) (w : Waiting) → os ++ w ∷ [] ≡ [] → ⊥
not_nil [] w e = cc
not_nil (o ∷ os) w e = cc

-- an attempt of the root's machine begins
pub first_source : (p : Program) (c : Course) (pick : Pick) (g : Going) (ajar : Bool)
    (within : Source) → Begins p c pick g → c.outer ≡ [] → IsSourceOf pick ajar within
    → IsInside p c.fuel ajar (c.picks ++ pick ∷ [])
    (record { going = g; source = within; outer = [] })
first_source p c pick g ajar within b root s =
    let one : g.course.outer ≡ b.waiting ∷ [] = b.outer ∙ ap (λ os. os ++ b.waiting ∷ []) root in
    let same =
    attempt_pick b.waiting.place.path s.1.0 b.within within.picks.now (sym b.is_pick ∙ s.1.1) in
    let list : c.picks ++ pick ∷ []
    ≡ b.waiting.picks ++ Attempt b.waiting.place.path within.picks.now ∷ [] =
    ap (λ ps. ps ++ pick ∷ []) (sym b.before)
    ∙ ap (λ x. b.waiting.picks ++ x ∷ []) (b.is_pick ∙ ap (Attempt b.waiting.place.path) same.1)
    in
    record {
      within = record {
        going = b.going;
        inside = λ e. not_nil [] b.waiting (sym one ∙ e);
        left = within.picks.now;
        taken = ap (λ ps. ps ++ within.picks.now) (sym b.picks);
      };
      fuel_is = b.fuel;
      sources =
          subst (λ hs. AreSources (c.picks ++ pick ∷ []) ajar hs [] within)
          (ap (λ os. inwards os []) (sym one))
          (record { are_picks = list; is_open = s.0; is_root = refl });
    }

-- a step within
pub next_step : (p : Program) (w : Within) (pick : Pick) (last : Bool) (g : Going) (ajar : Bool)
    (goal : List Pick) (turn : Turn) → IsWithin p w → IsHere w pick last
    → GoesOn p w.going.course turn pick g → HasSources goal ajar w
    → IsInside p w.going.course.fuel ajar goal
    (record { going = g; source = w.source; outer = w.outer })
next_step p w pick last g ajar goal turn k h n s = record {
  within = record {
    going = n.going;
    inside = λ e. k.inside (sym n.outer ∙ e);
    left = h.behind;
    taken = h.next ∙ sym (append_assoc w.going.course.picks (pick ∷ []) h.behind)
        ∙ ap (λ ps. ps ++ h.behind) (sym n.picks);
  };
  fuel_is = n.fuel;
  sources =
      subst (λ os. AreSources goal ajar (inwards os []) (inmost w.outer []) w.source) (sym n.outer)
      s;
}

-- an attempt within begins
pub next_source : (p : Program) (w : Within) (pick : Pick) (last : Bool) (g : Going) (ajar : Bool)
    (goal : List Pick) (within : Source) (outer : List Source) → IsWithin p w → IsHere w pick last
    → Begins p w.going.course pick g
    → IsSourceOf pick (w.source.ajar && last) within → outer ≡ w.outer ++ w.source ∷ []
    → HasSources goal ajar w
    → IsInside p w.going.course.fuel ajar goal
    (record { going = g; source = within; outer = outer })
next_source p w pick last g ajar goal within outer k h b s o have =
    let same =
    attempt_pick b.waiting.place.path s.1.0 b.within within.picks.now (sym b.is_pick ∙ s.1.1) in
    let list : w.source.picks.now
    ≡ b.waiting.picks ++ Attempt b.waiting.place.path within.picks.now ∷ h.behind =
    h.next ∙ ap (λ ps. ps ++ pick ∷ h.behind) (sym b.before)
    ∙ ap (λ x. b.waiting.picks ++ x ∷ h.behind) (b.is_pick
    ∙ ap (Attempt b.waiting.place.path) same.1) in
    let levels : around g.course ≡ held b.waiting ∷ around w.going.course =
    last_is_first g.course.outer w.going.course.outer b.waiting b.outer in
    let sources : inmost outer [] ≡ w.source ∷ inmost w.outer [] =
    ap (λ os. inmost os []) o ∙ inmost_last w.outer w.source [] in
    record {
      within = record {
        going = b.going;
        inside = λ e. not_nil w.going.course.outer b.waiting (sym b.outer ∙ e);
        left = within.picks.now;
        taken = ap (λ ps. ps ++ within.picks.now) (sym b.picks);
      };
      fuel_is = b.fuel;
      sources =
          subst (λ hs. AreSources goal ajar hs (inmost outer []) within) (sym levels)
          (subst (λ ss. AreSources goal ajar (held b.waiting ∷ around w.going.course) ss within)
          (sym sources) (
            record {
              behind = h.behind;
              are_picks = list;
              is_open = s.0 ∙ ap (λ x. w.source.ajar && x) h.last;
            },
            have,
          ));
    }

no_outer : (os : List Waiting) (hs : List Held) → inwards os hs ≡ [] → (os ≡ []) × (hs ≡ [])
no_outer [] hs e = (refl, e)
no_outer (o ∷ os) hs e = let i = no_outer os (held o ∷ hs) e in let z = i.1 in absurd cc

-- an attempt of the root's machine ends
pub last_source : (p : Program) (c : Course) (g : Going) (ajar : Bool) (goal all : List Pick)
    (within : Source) → Leaves p c all g → AreSources goal ajar (around c) [] within
    → within.picks.now ≡ all → within.ajar ≡ false → TakesPick p c.fuel ajar goal g
last_source p c g ajar goal all within n s e shut =
    let levels : around c ≡ held n.picked.waiting ∷ around g.course =
    last_is_first c.outer g.course.outer n.picked.waiting n.picked.outer in
    let f : IsFirst goal ajar (held n.picked.waiting) (around g.course) within =
    subst (λ hs. AreSources goal ajar hs [] within) levels s in
    record {
      going = n.going;
      fuel_is = n.fuel;
      are_picks =
          n.picked.picks
          ∙ ap (λ ps. n.picked.waiting.picks ++ Attempt n.picked.waiting.place.path ps ∷ []) (sym e)
          ∙ sym f.are_picks;
      outside = (no_outer g.course.outer [] f.is_root).0;
      shut = sym f.is_open ∙ shut;
    }

no_sources : (goal : List Pick) (ajar : Bool) (hs : List Held) (ss : List Source) (within : Source)
    → AreSources goal ajar hs ss within → hs ≡ [] → ⊥
no_sources goal ajar [] ss within s e = s
no_sources goal ajar (h ∷ hs) ss within s e = cc

-- one within ends
pub outer_source : (p : Program) (c : Course) (g : Going) (ajar : Bool) (goal all : List Pick)
    (within s2 : Source) (ss : List Source) → Leaves p c all g
    → AreSources goal ajar (around c) (s2 ∷ inmost ss []) within → within.picks.now ≡ all
    → IsInside p c.fuel ajar goal (record { going = g; source = s2; outer = ss })
outer_source p c g ajar goal all within s2 ss n s e =
    let levels : around c ≡ held n.picked.waiting ∷ around g.course =
    last_is_first c.outer g.course.outer n.picked.waiting n.picked.outer in
    let f : IsSource s2.picks.now s2.ajar (held n.picked.waiting) within
    × AreSources goal ajar (around g.course) (inmost ss []) s2 =
    subst (λ hs. AreSources goal ajar hs (s2 ∷ inmost ss []) within) levels s in
    let one = f.0 in
    let list : s2.picks.now ≡ g.course.picks ++ one.behind =
    one.are_picks
    ∙ ap (λ ps. n.picked.waiting.picks ++ Attempt n.picked.waiting.place.path ps ∷ one.behind) e
    ∙ sym (append_assoc n.picked.waiting.picks (Attempt n.picked.waiting.place.path all ∷ [])
    one.behind) ∙ ap (λ ps. ps ++ one.behind) (sym n.picked.picks) in
    record {
      within =
          record {
            going = n.going;
            inside = λ z. no_sources goal ajar (around g.course) (inmost ss []) s2 f.1
                (ap (λ os. inwards os []) z);
            left = one.behind;
            taken = list;
          };
      fuel_is = n.fuel;
      sources = f.1;
    }
