-- Chapter "The machine with threads": how a run begins, before servers stand there: the machine's picks
-- up to the first object, of which the first alone is one of the machine with threads.
use Rattle.std.specs.Prelude.{◌≡◌, ℕ, Bool, true, false, List, [], ◌∷◌, Some, None, pos, ◌⊎◌}
use Rattle.fort_base.specs.declared.ids.DeclId.{DeclId}
use Rattle.fort_core.specs.declared.pick.Pick.{Pick}
use Rattle.fort_core.specs.declared.program.CoreDecl.{CoreDecl}
use Rattle.fort_core.specs.declared.program.Program.{Program}
use Rattle.fort_core.specs.declared.term.Term.{Term, Call}
use Rattle.fort_core.specs.declared.term.Term as term
use Rattle.fort_core.specs.declared.value.Value.{Value, Small, Truth}
use Rattle.fort_machine.specs.Acts.{unit}
use Rattle.fort_machine.specs.Attempts.{goes}
use Rattle.fort_machine.specs.Calls.{Dispatches}
use Rattle.fort_machine.specs.Effects.{Store, Effect, writing, making, FitsAll, afterwards}
use Rattle.fort_machine.specs.Ends.{throw_of}
use Rattle.fort_machine.specs.Frames.{Frame, plug}
use Rattle.fort_machine.specs.Journals.{opening_store, MakesWithinBounds}
use Rattle.fort_machine.specs.Parts.{IsOneOf}
use Rattle.fort_machine.specs.Proper.{Reached}
use Rattle.fort_machine.specs.Runs.{Runs}
use Rattle.fort_machine.specs.Types.{has_type}
use Rattle.fort_threads.specs.Known.{Known}
use Rattle.fort_threads.specs.Machine.{Event, Goes, alone}
use Rattle.fort_threads.specs.Moves.{opening_fields}
use Rattle.fort_threads.specs.Threads.{Thread}
use Rattle.fort_threads_law_servers.specs.Calls.{getting}
use Rattle.fort_threads_law_servers.specs.Prelude.{Names, object_of, LeadsTo}
use Rattle.fort_threads_law_servers.specs.Roots.{Start, Starts, Root, first_call, main_call, tests, told, sets_started, has_started, sets_open, has_open, makes_first, made_first, root_term, Leads}
use Rattle.fort_threads_law_servers.specs.Roots as roots
use Rattle.fort_threads_law_servers.specs.Stages.{sent}
use Rattle.fort_threads_law_private.specs.Grounds.{Ground, Open}
use Rattle.fort_threads_law_worlds.specs.Worlds.{World}
use Rattle.fort_threads_law_worlds.specs.Known.{Own}
use Rattle.fort_threads_law_runs.specs.Premises.{IsThreaded}
use Rattle.fort_threads_law_whole.specs.Roots.{GoAlike}

-- The locations of the prelude's four variables.
abbrev pub variables : Names → Start → List ℕ
variables n m = n.queue ∷ n.unended ∷ n.count ∷ m.started ∷ []

-- What is taken of how a program begins and ends: its opening store has the prelude's four variables,
-- none of them open to the component, and beside these what is open, and that alone; no object of a
-- thread is there yet; its first call runs the prelude's `run`; the last one is `val` of the first
-- object; and whatever is thrown is an exception.
pub record IsBeginning (p : Program) (n : Names) (m : Start) (k : Known) (g : Ground) : Type 0 where
  pub queue : opening_store p n.queue ≡ Some unit
  pub unended : (v : Value) × (opening_store p n.unended ≡ Some v)
  pub count : opening_store p n.count ≡ Some (Small (pos 0))
  pub is_open : (l : ℕ) (v : Value) → opening_store p l ≡ Some v
      → Open g l ⊎ IsOneOf l (variables n m)
  pub open_there : (l : ℕ) → Open g l → (v : Value) × (opening_store p l ≡ Some v)
  pub shut : (l : ℕ) → IsOneOf l (variables n m) → Open g l → ⊥
  pub no_object : (l : ℕ) → g.function l ≡ None
  pub runs_first : (c : DeclId) (declared : CoreDecl) → Dispatches p m.run [] c declared → c ≡ k.run
  pub gets_last : (l : ℕ)
      → LeadsTo p n.val (object_of n l ∷ [])
      (getting n l (Call n.wait (term.Value (object_of n l) ∷ [])))
  pub exceptions : (inner : Bool) (s : Store) (t : Term) → Reached p inner s t → (fs : List Frame)
      (v : Value) → t ≡ plug fs (throw_of v) → has_type p v n.exception ≡ true

-- The store once `started'` is true, and once `open'` is 1.
abbrev pub started_store : Program → Start → Store
started_store p m = afterwards (writing m.started (Truth true)) (opening_store p)

abbrev pub open_store : Program → Names → Start → Store
open_store p n m = afterwards (writing n.unended (Small (pos 1))) (started_store p m)

-- The making of the first object.
abbrev pub first_made : Start → ℕ → Effect
first_made m l = making l (opening_fields m.own) 1

-- Both machines before servers stand there: thread 0 stands at its first term, and from its first pick
-- on at the body of the component's own `run`.
abbrev pub IsEarly : Program → Names → Start → Own → Root → Store → Store → List Thread → Type 0
IsEarly p n m o first_call s t now =
    (s ≡ opening_store p) × (t ≡ opening_store p) × (now ≡ alone p.first)
IsEarly p n m o main_call s t now =
    (s ≡ opening_store p) × (t ≡ opening_store p) × (now ≡ alone o.body)
IsEarly p n m o tests s t now =
    (s ≡ opening_store p) × (t ≡ opening_store p) × (now ≡ alone o.body)
IsEarly p n m o told s t now =
    (s ≡ opening_store p) × (t ≡ opening_store p) × (now ≡ alone o.body)
IsEarly p n m o sets_started s t now =
    (s ≡ opening_store p) × (t ≡ opening_store p) × (now ≡ alone o.body)
IsEarly p n m o has_started s t now =
    (s ≡ started_store p m) × (t ≡ opening_store p) × (now ≡ alone o.body)
IsEarly p n m o sets_open s t now =
    (s ≡ started_store p m) × (t ≡ opening_store p) × (now ≡ alone o.body)
IsEarly p n m o has_open s t now =
    (s ≡ open_store p n m) × (t ≡ opening_store p) × (now ≡ alone o.body)
IsEarly p n m o makes_first s t now =
    (s ≡ open_store p n m) × (t ≡ opening_store p) × (now ≡ alone o.body)
IsEarly p n m o (made_first l) s t now =
    (s ≡ afterwards (first_made m l) (open_store p n m)) × (t ≡ opening_store p)
    × (now ≡ alone o.body) × FitsAll (first_made m l) (open_store p n m)
    × MakesWithinBounds (first_made m l)
IsEarly p n m o _ s t now = ⊥

-- Behind such a pick both machines stand there again, and the machine with threads has done so.
pub record GoesEarly (p : Program) (n : Names) (m : Start) (o : Own) (k : Known) (next : Root)
    (now : List Thread) (s t : Store) (d : Effect) : Type 0 where
  pub events : List Event
  pub later : List Thread
  pub effect : Effect
  pub goes : Goes p k now t events later effect
  pub bounded : MakesWithinBounds effect
  pub same_output : effect.output ≡ d.output
  pub early : IsEarly p n m o next (afterwards d s) (afterwards effect t) later

-- Whether a root's place is before servers stand there.
abbrev pub IsEarlyRoot : Root → Type 0
IsEarlyRoot (roots.all l a stage b tree) = ⊥
IsEarlyRoot (roots.all_over l t) = ⊥
IsEarlyRoot (roots.asks t) = ⊥
IsEarlyRoot (roots.ended t) = ⊥
IsEarlyRoot _ = Unit {0}

-- Each pick from such a place to such a place is answered.
abbrev pub EarlyGoesOn : Type 0
EarlyGoesOn = (p : Program) (n : Names) (m : Start) (o : Own) (k : Known) (g : Ground)
    → IsThreaded p n m o k g → IsBeginning p n m k g → Starts p n m
    → (root next : Root) (now : List Thread) (s t : Store) (pick : Pick) (d : Effect)
    → IsEarly p n m o root s t now → IsEarlyRoot next → Leads p n m s pick d root next
    → Runs p false false s (pick ∷ []) (root_term n m root) (goes (root_term n m next)) d
    → FitsAll d s → MakesWithinBounds d → GoesEarly p n m o k next now s t d

-- And once the first object is there, all goes on alike, with 64 servers yet to be called.
abbrev pub AllBegins : Type 0
AllBegins = (p : Program) (n : Names) (m : Start) (o : Own) (k : Known) (g : Ground)
    → IsThreaded p n m o k g → IsBeginning p n m k g → Starts p n m
    → (l : ℕ) (now : List Thread) (s t : Store) → IsEarly p n m o (made_first l) s t now
    → (w : World) × GoAlike p n m o g w l (sent l) [] 64 now s t
