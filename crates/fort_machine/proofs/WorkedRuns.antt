-- The worked run.
use Rattle.std.proofs.Common.{◌≡◌, ℕ, zero, suc, ◌<◌, Bool, true, false, ◌&&◌, ◌||◌, List, [], ◌∷◌, ◌++◌, map, Some, refl, ap, sym, ◌∙◌, subst, arith}
use Rattle.std.specs.Prelude.{slice_get, IsTrue, Contains}
use Rattle.std.specs.List.{slice_index_or}
use Rattle.fort_base.specs.declared.ids.DeclId.{DeclId}
use Rattle.fort_base.specs.declared.ty.Ty.{Ty, Arrow, out-Ty, fold-roll-Ty}
use Rattle.fort_base.specs.declared.ty.Ty.TheVariants.{Named, Any, outs-Any, rolls-Named}
use Rattle.fort_base.specs.declared.ty.Ty.TheOpen.{Ty-F}
use Rattle.fort_core.specs.declared.program.CoreDecl.{CoreDecl}
use Rattle.fort_core.specs.declared.program.CoreSet.{CoreSet}
use Rattle.fort_core.specs.declared.term.Term.{Term, Call, out-Term, fold-roll-Term}
use Rattle.fort_core.specs.declared.term.Term as term
use Rattle.fort_core.specs.declared.term.Term.TheVariants.{outs-Call, rolls-Call, rolls-Value}
use Rattle.fort_core.specs.declared.term.Term.TheOpen.{Term-F, Value-F}
use Rattle.fort_core.specs.declared.value.Value.{Value, fold-roll-Value}
use Rattle.fort_core.specs.declared.value.Value.TheVariants.{rolls-Text}
use Rattle.fort_types.specs.Relation.{Relation, below_at, relation}
use Rattle.fort_machine.specs.Types.{all_below, type_at, type_of, domain_of}
use Rattle.fort_machine.specs.Texts.{text_at, text}
use Rattle.fort_machine.specs.Primitives.{prints}
use Rattle.fort_machine.specs.Effects.{Effect, idle, paid, printed, both}
use Rattle.fort_machine.specs.Ends.{has_stepped}
use Rattle.fort_machine.specs.Acts.{turns, enters, calls, unit, with_first, at_values, by_together}
use Rattle.fort_machine.specs.Forms.{act_at, act}
use Rattle.fort_machine.specs.Calls.{IsApplicable, Dispatches, by_answer}
use Rattle.fort_machine.specs.Marked.{dozes_at, dozes, Bare}
use Rattle.fort_machine.specs.Steps.{by_call, Local, steps}
use Rattle.fort_machine.specs.Runs.{none, step}
use Rattle.fort_machine.specs.Worked.{type, set, decl, letter, printing, run_decl, println_decl, hello, PrintsLetter}
use Rattle.fort_machine.proofs.Standing.{standing-Value}

-- a set of one declaration has no other one
one_member : (d e : DeclId) (k : ℕ) → k < 1 → slice_index_or (d ∷ []) k e ≡ e → e ≡ d
one_member d e zero h q = sym q
one_member d e (suc k) h q = absurd (omega arith)

only_one : (n : ℕ) (d : DeclId) → slice_get hello.sets n ≡ Some (record { decls = d ∷ [] })
    → (ts : List Ty) (e : DeclId) (other : CoreDecl) → IsApplicable hello (set n) ts e other → e ≡ d
only_one n d q ts e other a =
    let z : Some (record { decls = d ∷ [] }) ≡ Some a.members = sym q ∙ a.is_set in
    let w : a.members.decls ≡ d ∷ [] = ap (λ (m : CoreSet). m.decls) (sym (some_one _ _ z)) in
    let i = subst (λ ds. Contains ds e) w a.is_member in
    one_member d e i.0 i.1 i.2
  where
    some_one : (x y : CoreSet) → Some x ≡ Some y → x ≡ y
    some_one x y h = cc

dispatches : (n : ℕ) (d : DeclId) (c : CoreDecl) (vs : List Value)
    → slice_get hello.sets n ≡ Some (record { decls = d ∷ [] }) → slice_get hello.decls d.0 ≡ Some c
    → IsTrue (all_below hello (map (type_of hello) vs) c.parameters)
    → Dispatches hello (set n) vs d c
dispatches n d c vs q r h = record {
  most_specific = record {
    applicable =
        record {
          members = record { decls = d ∷ [] };
          is_set = q;
          is_member = (0, omega arith, refl);
          is_decl = r;
          applies = h;
        };
    over_others = λ e other a ne. absurd (ne (only_one n d q _ e other a));
  };
  no_other = λ e other m. only_one n d q _ e other m.applicable;
}

-- the text has a type below `Any`, and is itself its text
letter_type : type_of hello letter ≡ Named (type 4)
letter_type = ap (type_of hello) (sym (rolls-Text (97 ∷ [])))
    ∙ fold-roll-Value (Unit {0}) Ty Ty (λ t. tt) (type_at hello.built_in)
    (λ c. Arrow (domain_of c.parameters) c.result) (Value-F.Text (97 ∷ []))

letter_text : text hello letter ≡ 97 ∷ []
letter_text = ap (text hello) (sym (rolls-Text (97 ∷ [])))
    ∙ fold-roll-Value (Unit {0}) (List ℕ) (Unit {0}) (λ t. tt) (text_at hello) (λ c. tt)
    (Value-F.Text (97 ∷ []))

named_below_any : relation hello.types.below (Named (type 4)) true Any ≡ true
named_below_any = ap (λ t. relation hello.types.below t true Any) (sym (rolls-Named (type 4)))
    ∙ ap (λ (r : Relation). r true Any)
    (fold-roll-Ty Relation (λ layer up b. below_at hello.types.below layer up (out-Ty b))
    (Ty-F.Named (type 4)))
    ∙ ap (below_at hello.types.below (Ty-F.Named (type 4)) true) outs-Any

letter_fits : all_below hello (map (type_of hello) (letter ∷ [])) (Any ∷ []) ≡ true
letter_fits =
    ap (λ t. relation hello.types.below t true Any && true) letter_type
    ∙ ap (λ b. b && true) named_below_any

value_bare : (v : Value) → dozes (term.Value v) ≡ false
value_bare v =
    ap dozes (sym (rolls-Value v))
    ∙ fold-roll-Term Bool (Unit {0}) Bool dozes_at (λ w. tt) (λ c. c.body) (Term-F.Value v)

printing_bare : Bare printing
printing_bare =
    ap dozes (sym (rolls-Call (set 1) (term.Value letter ∷ [])))
    ∙ fold-roll-Term Bool (Unit {0}) Bool dozes_at (λ w. tt) (λ c. c.body)
    (Term-F.Call (set 1) (term.Value letter ∷ []))
    ∙ ap (λ b. b || false) (value_bare letter)

-- the call of `run`
calls_run : act hello (Call (set 0) []) ≡ calls (set 0) []
calls_run = ap (act_at hello) (outs-Call (set 0) [])

first_step : Local hello false 0 (Call (set 0) []) printing (paid 1)
first_step =
    steps (enters printing printing)
    (by_call calls_run (dispatches 0 (decl 0) run_decl [] refl refl refl) refl) (
      printing_bare,
      refl,
      refl,
      refl,
    )

-- the call of `println`
calls_println : act hello printing ≡ calls (set 1) (letter ∷ [])
calls_println =
    ap (act_at hello) (outs-Call (set 1) (term.Value letter ∷ []))
    ∙ ap (λ st. by_together (with_first st (has_stepped (term.Value letter)) (at_values []))
    (calls (set 1))) (standing-Value letter)

second_step : Local hello false 0 printing (term.Value unit) (printed (97 ∷ 10 ∷ []) 3)
second_step = steps (turns (term.Value unit) (97 ∷ 10 ∷ []) 3)
    (by_call calls_println (dispatches 1 (decl 1) println_decl (letter ∷ []) refl refl letter_fits)
    (ap (λ s. by_answer hello (prints (s ++ 10 ∷ []))) letter_text))
    (refl, refl, refl)

-- what both do
abbrev done : Effect
done = both (paid 1) (both (printed (97 ∷ 10 ∷ []) 3) idle)

pub prints_letter : PrintsLetter
prints_letter = (
  done,
  record {
    is_run = record {
      runs = step [] refl refl refl first_step (λ l. tt)
          (step [] refl refl refl second_step (λ l. tt) (none refl refl refl) refl) refl;
      bounded = λ l v e. absurd cc;
    };
    within_fuel = omega arith;
    ends = refl;
  },
  refl,
  refl,
)
