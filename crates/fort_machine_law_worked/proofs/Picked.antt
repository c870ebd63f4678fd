-- The pick that a run begins with, and what it leaves to the picks behind it.
use Rattle.std.proofs.Common.{◌≡◌, ℕ, zero, suc, ◌<◌, Bool, true, false, ◌&&◌, ◌||◌, List, [], ◌∷◌, map, Some, refl, ap, sym, ◌∙◌, subst, arith}
use Rattle.std.specs.Prelude.{slice_get, IsTrue, Contains}
use Rattle.std.specs.List.{slice_index_or}
use Rattle.fort_base.specs.declared.ids.DeclId.{DeclId}
use Rattle.fort_base.specs.declared.ty.Ty.{Ty}
use Rattle.fort_core.specs.declared.pick.Pick.{Pick, Step}
use Rattle.fort_core.specs.declared.program.CoreDecl.{CoreDecl}
use Rattle.fort_core.specs.declared.program.CoreSet.{CoreSet}
use Rattle.fort_core.specs.declared.program.Program.{Program}
use Rattle.fort_core.specs.declared.term.Term.{Term, fold-roll-Term}
use Rattle.fort_core.specs.declared.term.Term as term
use Rattle.fort_core.specs.declared.term.Term.TheVariants.{rolls-Value}
use Rattle.fort_core.specs.declared.term.Term.TheOpen.{Term-F}
use Rattle.fort_core.specs.declared.value.Value.{Value}
use Rattle.fort_machine.specs.Types.{all_below, type_of}
use Rattle.fort_machine.specs.Acts.{Act, by_standing, after}
use Rattle.fort_machine.specs.Marked.{dozes_at, dozes}
use Rattle.fort_machine.specs.Effects.{Store, Effect, FitsAll, afterwards}
use Rattle.fort_machine.specs.Ends.{is_still, is_thrown}
use Rattle.fort_machine.specs.Frames.{Frame, in_block, plug, road, passed, trodden}
use Rattle.fort_machine.specs.Calls.{IsApplicable, Dispatches}
use Rattle.fort_machine.specs.Steps.{Local}
use Rattle.fort_machine.specs.Attempts.{Ready, Ended}
use Rattle.fort_machine.specs.Runs.{Runs, none, step, stop, attempt, path_to, location}
use Rattle.fort_machine.specs.Worked.{set}
use Rattle.fort_machine.proofs.Standing.{standing-Value}
use Rattle.fort_machine.proofs.Places.{one_place}
use Rattle.fort_machine.proofs.Ready.{local_ready}
use Rattle.fort_machine.proofs.Single.{same_steps, mixed, one_step}

-- a value has no form that sleeps, and a form goes on by it
pub value_bare : (v : Value) → dozes (term.Value v) ≡ false
value_bare v =
    ap dozes (sym (rolls-Value v))
    ∙ fold-roll-Term Bool (Unit {0}) Bool dozes_at (λ w. tt) (λ c. c.body) (Term-F.Value v)

pub after_value : (v : Value) (k : Value → Act) → after (term.Value v) k ≡ k v
after_value v k = ap (λ st. by_standing st k) (standing-Value v)

-- a call of a set of one declaration runs that one
one_member : (d e : DeclId) (k : ℕ) → k < 1 → slice_index_or (d ∷ []) k e ≡ e → e ≡ d
one_member d e zero h q = sym q
one_member d e (suc k) h q = absurd (omega arith)

some_one : (x y : CoreSet) → Some x ≡ Some y → x ≡ y
some_one x y h = cc

only_one : (p : Program) (n : ℕ) (d : DeclId)
    → slice_get p.sets n ≡ Some (record { decls = d ∷ [] })
    → (ts : List Ty) (e : DeclId) (other : CoreDecl) → IsApplicable p (set n) ts e other → e ≡ d
only_one p n d q ts e other a =
    let z : Some (record { decls = d ∷ [] }) ≡ Some a.members = sym q ∙ a.is_set in
    let w : a.members.decls ≡ d ∷ [] = ap (λ (m : CoreSet). m.decls) (sym (some_one _ _ z)) in
    let i = subst (λ ds. Contains ds e) w a.is_member in
    one_member d e i.0 i.1 i.2

pub runs_the_one : (p : Program) (n : ℕ) (d : DeclId) (c : CoreDecl) (vs : List Value)
    → slice_get p.sets n ≡ Some (record { decls = d ∷ [] }) → slice_get p.decls d.0 ≡ Some c
    → IsTrue (all_below p (map (type_of p) vs) c.parameters) → Dispatches p (set n) vs d c
runs_the_one p n d c vs q r h = record {
  most_specific = record {
    applicable =
        record {
          members = record { decls = d ∷ [] };
          is_set = q;
          is_member = (0, omega arith, refl);
          is_decl = r;
          applies = h;
        };
    over_others = λ e other a ne. absurd (ne (only_one p n d q _ e other a));
  };
  no_other = λ e other m. only_one p n d q _ e other m.applicable;
}

-- a first pick is a step of a thread that is ready
record Begins (p : Program) (fs : List Frame) (rest : List Pick) (s : Store) (t : Term)
    (r : Ended) : Type 0 where
  pub frames : List Frame
  pub part : Term
  pub next : Term
  pub did : Effect
  pub later : Effect
  pub is_term : t ≡ plug frames part
  pub is_road : road fs ≡ road frames
  pub reached : passed frames part ≡ false
  pub steps : Local p false 0 part next did
  pub fits : FitsAll did s
  pub runs : Runs p false true (afterwards did s) rest (plug (trodden frames) next) r later

module _ (p : Program) (fs : List Frame) (rest : List Pick) (s : Store) (t : Term) (r : Ended) where
  begins : (picks : List Pick) (d : Effect) → picks ≡ Step (path_to fs) (location 0) ∷ rest
      → Runs p false true s picks t r d → Begins p fs rest s t r
  begins picks d e (none q w x) = absurd cc
  begins picks d e
      (step {rest = rest'} {a = a} {b = b} {d1 = d1} {d2 = d2} {loc = loc} gs q h n l f k w) =
      let i = same_steps fs gs 0 loc rest rest' (sym e ∙ q) in
      record {
        frames = gs;
        part = a;
        next = b;
        did = d1;
        later = d2;
        is_term = h;
        is_road = i.0;
        reached = n;
        fits = f;
        steps = subst (λ x. Local p false x a b d1) (sym i.1) l;
        runs = subst (λ x. Runs p false true (afterwards d1 s) x (plug (trodden gs) b) r d2)
            (sym i.2) k;
      }
  begins picks d e (stop gs i q h n x y w) = absurd cc
  begins picks d e (attempt {within = within} {rest = rest'} gs q h n l bare m k close k2 w) =
      absurd (mixed fs gs 0 within rest rest' (sym e ∙ q))

-- where a thread may step, a run that picks it goes on behind that step
pub goes_on : (p : Program) (fs : List Frame) (rest : List Pick) (s : Store) (a b : Term)
    (r : Ended) (d d1 : Effect) → Local p false 0 a b d1 → FitsAll d1 s
    → Runs p false true s (Step (path_to fs) (location 0) ∷ rest) (plug fs a) r d
    → (d2 : Effect) × Runs p false true (afterwards d1 s) rest (plug (trodden fs) b) r d2
goes_on p fs rest s a b r d d1 l f k =
    let g = begins p fs rest s (plug fs a) r (Step (path_to fs) (location 0) ∷ rest) d refl k in
    let one =
    one_place fs g.frames a g.part g.is_term g.is_road (local_ready p false 0 a b d1 l)
    (local_ready p false 0 g.part g.next g.did g.steps) in
    let other : Local p false 0 a g.next g.did =
    subst (λ x. Local p false 0 x g.next g.did) (sym one.1) g.steps in
    let did = one_step p false 0 s a b g.next d1 g.did l other f g.fits in (
      g.later,
      subst (λ x. Runs p false true (afterwards d1 s) rest x r g.later)
          (λ j. plug (trodden (sym one.0 j)) (sym did.0 j))
          (subst (λ x. Runs p false true (afterwards x s) rest (plug (trodden g.frames) g.next) r
          g.later) (sym did.1) g.runs),
    )

-- where no thread of that path is ready, no run picks it
pub none_begins : (p : Program) (fs : List Frame) (rest : List Pick) (s : Store) (t : Term)
    (r : Ended) (d : Effect)
    → ((gs : List Frame) (a : Term) → t ≡ plug gs a → road fs ≡ road gs → Ready a
    → passed gs a ≡ false → ⊥)
    → Runs p false true s (Step (path_to fs) (location 0) ∷ rest) t r d → ⊥
none_begins p fs rest s t r d n k =
    let g = begins p fs rest s t r (Step (path_to fs) (location 0) ∷ rest) d refl k in
    n g.frames g.part g.is_term g.is_road (local_ready p false 0 g.part g.next g.did g.steps)
    g.reached

-- beside one block that is no throw no block is passed over
pub left_reached : (b a : Term) (fs : List Frame) → is_thrown b ≡ false → passed fs a ≡ false
    → passed (in_block [] (b ∷ []) ∷ fs) a ≡ false
left_reached b a fs t n = λ i. ((t i || false) && is_still (plug fs a)) || n i

pub right_reached : (b a : Term) (fs : List Frame) → is_thrown b ≡ false → passed fs a ≡ false
    → passed (in_block (b ∷ []) [] ∷ fs) a ≡ false
right_reached b a fs t n = λ i. ((t i || false) && is_still (plug fs a)) || n i
