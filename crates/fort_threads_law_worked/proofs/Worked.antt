-- The worked program has all that the laws on runs with threads take of a program.
use Rattle.std.proofs.Common.{◌≡◌, ℕ, true, false, [], ◌∷◌, pos, refl, ap, sym, ◌∙◌, subst, inl, inr, arith}
use Rattle.std.specs.Prelude.{slice_get, Some}
use Rattle.fort_base.specs.declared.ids.DeclId.{DeclId}
use Rattle.fort_base.specs.declared.ids.TypeId.{TypeId}
use Rattle.fort_base.specs.declared.ty.Ty.{Ty}
use Rattle.fort_base.specs.declared.ty.Ty.TheVariants.{Named}
use Rattle.fort_core.specs.declared.primitive.Primitive.TheVariants.{UnequalSmall}
use Rattle.fort_core.specs.declared.program.CoreDecl.{CoreDecl}
use Rattle.fort_core.specs.declared.program.CoreSet.{CoreSet}
use Rattle.fort_core.specs.declared.term.Term.{Call}
use Rattle.fort_core.specs.declared.term.Term as term
use Rattle.fort_core.specs.declared.term.Term.TheVariants.{Variable, outs-Let}
use Rattle.fort_core.specs.declared.value.Value.{Small}
use Rattle.fort_machine.specs.Ends.{standing_at, throws_by, is_thrown}
use Rattle.fort_machine.specs.Parts.{IsOneOf}
use Rattle.fort_machine.specs.Runs.{location}
use Rattle.fort_machine.specs.Types.{below, has_type}
use Rattle.fort_machine.specs.Worked.{type, set, decl}
use Rattle.fort_threads_law_servers.specs.Prelude.{object_of}
use Rattle.fort_threads_law_thrown.specs.Tables.{Gives, Tables}
use Rattle.fort_threads_law_thrown.specs.Thrown.{EachThrowsFinely, ThrownAreExceptions}
use Rattle.fort_threads_law_worked.specs.Bodies.{function, product, decls, own_body, own_decl, main_decl, run_decl}
use Rattle.fort_threads_law_worked.specs.Builtin.{sets, two_small}
use Rattle.fort_threads_law_worked.specs.Types.{unit_type, truth_type, any_thread}
use Rattle.fort_threads_law_worked.specs.Worked.{worked, worked_names, worked_start, worked_own, WorkedIsThreaded}
use Rattle.fort_threads_law_worked.proofs.Codes.{named, below_is, all_are}
use Rattle.fort_threads_law_worked.proofs.Calls.{some_is, member, alone, object_is}
use Rattle.fort_threads_law_worked.proofs.Preluded.{gets, worked_has_the_prelude, worked_counts}
use Rattle.fort_threads_law_worked.proofs.Same.{worked_is_same}
use Rattle.fort_threads_law_worked.proofs.Apart.{own_is_fine, worked_keeps_apart}
use Rattle.fort_threads_law_worked.proofs.Beginning.{worked_starts, open_is_there, stands, shut}
use Rattle.fort_threads_law_worked.proofs.Sounding.{worked_sound}
use Rattle.fort_threads_law_worked.proofs.Completing.{worked_is_written, worked_complete}

-- the one declaration of a set gives this type
gives_one : (n k : ℕ) (x : CoreDecl) (ty : Ty)
    → slice_get sets n ≡ Some (record { decls = decl k ∷ [] }) → slice_get decls k ≡ Some x
    → x.result ≡ ty → Gives worked (set n) ty
gives_one n k x ty is w r members e d i y q =
    let z = some_is (record { decls = decl k ∷ [] }) members (sym is ∙ e) in
    let h : d ≡ decl k = one_is (subst (λ (m : CoreSet). IsOneOf d m.decls) (sym z)
    (member members.decls d i)) in
    ap (λ (c : CoreDecl). c.result)
    (some_is y x (sym q ∙ ap (λ (c : DeclId). slice_get decls c.0) h ∙ w)) ∙ r
  where
    one_is : IsOneOf d (decl k ∷ []) → d ≡ decl k
    one_is (inl e) = e
    one_is (inr i) = absurd i

pub worked_tables : Tables worked worked_names worked_start worked_own
worked_tables = record {
  exception = refl;
  itself = refl;
  other = λ e. let z : 19 ≡ 1 = ap (λ (t : TypeId). t.0) e in omega (arith, z);
  apart = refl;
  differs = record {
    number = decl 45;
    declared = two_small truth_type UnequalSmall;
    applies =
        record {
          members = record { decls = decl 45 ∷ decl 46 ∷ decl 47 ∷ decl 48 ∷ [] };
          is_set = refl;
          is_member = (0, omega arith, refl);
          is_decl = refl;
          applies = all_are (named 2 ∷ named 2 ∷ []) (named 2 ∷ named 2 ∷ []);
        };
    takes = refl;
    gives = refl;
  };
  main = gives_one 45 80 main_decl unit_type refl refl refl;
  own = gives_one 47 82 own_decl unit_type refl refl refl;
  function = function 0 unit_type (Call (set 47) []);
  is_function = refl;
  gives_unit = refl;
}

own_open : is_thrown own_body ≡ false
own_open =
    ap (λ y. throws_by (standing_at y))
    (outs-Let ((0, any_thread) ∷ []) (Call (set 41) (term.Value product ∷ []))
    (Call (set 31) (Call (set 39) (Variable 0 ∷ []) ∷ [])))

objects : (l : ℕ) → has_type worked (object_of worked_names l) (Named (type 19)) ≡ true
objects l =
    ap (λ t. below worked t (Named (type 19))) (object_is (type 19) (location l))
    ∙ below_is (named 19) (named 19)

pub threaded_by : EachThrowsFinely → ThrownAreExceptions → WorkedIsThreaded
threaded_by throws exceptions = (
  worked_tables,
  record {
    written = worked_is_written;
    prelude = worked_has_the_prelude;
    counts = worked_counts;
    same = worked_is_same;
    apart = worked_keeps_apart;
    own = own_is_fine;
    own_open = own_open;
    throws = throws worked worked_names worked_start worked_own worked_sound worked_complete
        worked_tables;
    are_objects = objects;
  },
  record {
    queue = refl;
    unended = (Small (pos 0), refl);
    count = refl;
    is_open = stands;
    open_there = open_is_there;
    shut = shut;
    no_object = λ l. refl;
    runs_first = λ c d r. (alone 46 81 run_decl refl refl [] c d r).0;
    gets_last = gets;
    exceptions = exceptions worked worked_names worked_start worked_own worked_sound
        worked_complete worked_tables;
  },
  worked_starts,
)
