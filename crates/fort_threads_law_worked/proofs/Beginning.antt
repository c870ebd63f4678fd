-- How runs of the worked program begin.
use Rattle.std.proofs.Common.{◌≡◌, ℕ, ◌==◌, ◌||◌, Bool, true, false, if◌then◌else◌, List, [], ◌∷◌, map, Some, refl, ap, sym, ◌∙◌, ◌⊎◌, inl, inr, rules}
use Rattle.fort_base.specs.declared.ids.Loc.{Loc}
use Rattle.fort_core.specs.declared.program.CoreDecl.{CoreDecl}
use Rattle.fort_core.specs.declared.value.Value.{Value}
use Rattle.fort_machine.specs.Acts.{unit}
use Rattle.fort_machine.specs.Calls.{by_body}
use Rattle.fort_machine.specs.Journals.{value_in, opening_store}
use Rattle.fort_machine.specs.Parts.{IsOneOf}
use Rattle.fort_machine.specs.Scopes.{is_among}
use Rattle.fort_machine_law_worked.proofs.Finding.{equal_is}
use Rattle.fort_threads_law_servers.specs.Roots.{Starts}
use Rattle.fort_threads_law_private.specs.Grounds.{Open}
use Rattle.fort_threads_law_whole.specs.Early.{variables}
use Rattle.fort_threads_law_worked.specs.Bodies.{own_run, run_decl, run_body, main_decl, main_body}
use Rattle.fort_threads_law_worked.specs.Types.{locations, holding}
use Rattle.fort_threads_law_worked.specs.Worked.{worked, worked_names, worked_start, worked_ground}
use Rattle.fort_threads_law_worked.proofs.Forms.{main_form}
use Rattle.fort_threads_law_worked.proofs.Calls.{alone}
use Rattle.fort_threads_law_worked.proofs.Preluded.{enters_put}
use Rattle.fort_threads_law_worked.proofs.Apart.{queue_held, unended_held, count_held, started_held, objects_held}

pub worked_starts : Starts worked worked_names worked_start
worked_starts = record {
  is_first = refl;
  runs_main = λ c d r. (
    run_body,
    ap (λ (x : CoreDecl). by_body worked x.body []) (alone 46 81 run_decl refl refl [] c d r).1,
  );
  is_main = λ c d r. (
    main_body,
    ap (λ (x : CoreDecl). by_body worked x.body (own_run ∷ []))
        (alone 45 80 main_decl refl refl (own_run ∷ []) c d r).1
        ∙ enters_put main_form own_run,
  );
  not_started = refl;
}

-- where a list of locations with values has one
value_there : (e : Loc × Value) (es : List (Loc × Value)) (l : ℕ)
    → (v : Value) × (value_in es l ≡ Some v) → (v : Value) × (value_in (e ∷ es) l ≡ Some v)
value_there e es l w = go (e.0.0 == l)
  where
    go : (b : Bool) → (v : Value) × ((if b then Some e.1 else value_in es l) ≡ Some v)
    go true = (e.1, refl)
    go false = w

held_there : (ns : List ℕ) (l : ℕ) → is_among l ns ≡ true
    → (v : Value) × (value_in (map holding ns) l ≡ Some v)
held_there [] l h = absurd cc
held_there (n ∷ ns) l h = go (l == n) refl h (λ k. held_there ns l k)
  where
    one : l ≡ n → (v : Value) × (value_in (map holding (n ∷ ns)) l ≡ Some v)
    one e = (
      unit,
      ap (λ (b : Bool). if b then Some unit else value_in (map holding ns) l)
          (ap (λ (m : ℕ). n == m) e ∙ self_equal n),
    )
      where
        self_equal : (m : ℕ) → (m == m) ≡ true
        self_equal m = search rules

    go : (b : Bool) → (l == n) ≡ b → (b || is_among l ns) ≡ true
        → (is_among l ns ≡ true → (v : Value) × (value_in (map holding ns) l ≡ Some v))
        → (v : Value) × (value_in (map holding (n ∷ ns)) l ≡ Some v)
    go true q k f = one (equal_is l n q)
    go false q k f = value_there (holding n) (map holding ns) l (f k)

pub open_is_there : (l : ℕ) → Open worked_ground l
    → (v : Value) × (opening_store worked l ≡ Some v)
open_is_there l o =
    value_there queue_held (unended_held ∷ count_held ∷ started_held ∷ objects_held) l
    (value_there unended_held (count_held ∷ started_held ∷ objects_held) l
    (value_there count_held (started_held ∷ objects_held) l
    (value_there started_held objects_held l (held_there locations l o))))

-- and where it stands
abbrev Stands : ℕ → Type 0
Stands l = Open worked_ground l ⊎ IsOneOf l (variables worked_names worked_start)

held_open : (ns : List ℕ) (l : ℕ) (v : Value) → value_in (map holding ns) l ≡ Some v
    → is_among l ns ≡ true
held_open [] l v h = absurd cc
held_open (n ∷ ns) l v h = go (n == l) refl h (λ k. held_open ns l v k)
  where
    both : (a : Bool) → (a || true) ≡ true
    both true = refl
    both false = refl

    self_equal : (m : ℕ) → (m == m) ≡ true
    self_equal m = search rules

    go : (b : Bool) → (n == l) ≡ b → (if b then Some unit else value_in
        (map holding ns) l) ≡ Some v
        → (value_in (map holding ns) l ≡ Some v → is_among l ns ≡ true)
        → is_among l (n ∷ ns) ≡ true
    go true q k f =
        ap (λ (m : ℕ). l == m || is_among l ns) (equal_is n l q)
        ∙ ap (λ (a : Bool). a || is_among l ns) (self_equal l)
    go false q k f = ap (λ (a : Bool). l == n || a) (f k) ∙ both (l == n)

placed : (e : Loc × Value) (es : List (Loc × Value)) (l : ℕ) (v : Value)
    → (l ≡ e.0.0 → Stands l) → (value_in es l ≡ Some v → Stands l)
    → value_in (e ∷ es) l ≡ Some v → Stands l
placed e es l v a k h = go (e.0.0 == l) refl h
  where
    go : (b : Bool) → (e.0.0 == l) ≡ b → (if b then Some e.1 else value_in es l) ≡ Some v
        → Stands l
    go true q w = a (sym (equal_is e.0.0 l q))
    go false q w = k w

pub stands : (l : ℕ) (v : Value) → opening_store worked l ≡ Some v → Stands l
stands l v h =
    placed queue_held (unended_held ∷ count_held ∷ started_held ∷ objects_held) l v
    (λ e. inr (inl e))
    (placed unended_held (count_held ∷ started_held ∷ objects_held) l v (λ e. inr (inr (inl e)))
    (placed count_held (started_held ∷ objects_held) l v (λ e. inr (inr (inr (inl e))))
    (placed started_held objects_held l v (λ e. inr (inr (inr (inr (inl e)))))
    (λ k. inl (held_open locations l v k))))) h

pub shut : (l : ℕ) → IsOneOf l (variables worked_names worked_start) → Open worked_ground l → ⊥
shut l (inl e) o = let z : false ≡ true = ap (λ (n : ℕ). is_among n locations) (sym e) ∙ o in cc
shut l (inr (inl e)) o =
    let z : false ≡ true = ap (λ (n : ℕ). is_among n locations) (sym e) ∙ o in cc
shut l (inr (inr (inl e))) o =
    let z : false ≡ true = ap (λ (n : ℕ). is_among n locations) (sym e) ∙ o in cc
shut l (inr (inr (inr (inl e)))) o =
    let z : false ≡ true = ap (λ (n : ℕ). is_among n locations) (sym e) ∙ o in cc
shut l (inr (inr (inr (inr e)))) o = e
