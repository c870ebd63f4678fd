-- In a term as it is written no form sleeps.
use Rattle.std.proofs.Common.{◌≡◌, Bool, false, ◌||◌, List, [], ◌∷◌, map, ap, ◌∙◌, refl}
use Rattle.std.specs.List.{list_any}
use Rattle.fort_core.specs.declared.term.Term.{Term, out-Term}
use Rattle.fort_core.specs.declared.term.Term.TheOpen.{Term-F}
use Rattle.fort_core.specs.declared.value.Value.{Value}
use Rattle.fort_core.specs.declared.value.Closure.{Closure, fold_out-Closure}
use Rattle.fort_machine.specs.Parts.{parts_of, terms_in}
use Rattle.fort_machine.specs.Marked.{dozes_at, dozes, Bare}
use Rattle.fort_machine.specs.Written.{IsBeforeRuns, Written, written, AllWritten, end_of_terms, first_term, WrittenIsBare}
use Rattle.fort_machine.proofs.Less.{truths, closure_truths, dozing, out_dozes}
use Rattle.fort_machine.proofs.Substituted.{parts_map}

abbrev pub EachBare : List Term → Type 0
EachBare [] = Unit {0}
EachBare (t ∷ ts) = Bare t × EachBare ts

none_dozes : (ts : List Term) → EachBare ts → list_any (λ (b : Bool). b) (map dozes ts) ≡ false
none_dozes [] e = refl
none_dozes (t ∷ ts) e =
    ap (λ b. b || list_any (λ (b : Bool). b) (map dozes ts)) e.0 ∙ none_dozes ts e.1

bare_form : (y : Term-F Term Value Closure) → IsBeforeRuns y → EachBare (terms_in y)
    → dozing y ≡ false
bare_form (Term-F.Asleep marks a) w e = absurd w
bare_form (Term-F.Fn c) w e =
    fold_out-Closure Bool (Unit {0}) Bool dozes_at (λ v. tt) (λ c. c.body) c ∙ e.0
bare_form form w e =
    ap (list_any (λ (b : Bool). b)) (parts_map dozes truths closure_truths form)
    ∙ none_dozes (parts_of form) e

mutual
  pub written_bare : {t : Term} → Written t → Bare t
  written_bare {t} (written w ts vs) =
      out_dozes t ∙ bare_form (out-Term t) w.before_runs (each_bare ts)

  each_bare : {ts : List Term} → AllWritten ts → EachBare ts
  each_bare end_of_terms = tt
  each_bare (first_term h hs) = (written_bare h, each_bare hs)

pub written_is_bare : WrittenIsBare
written_is_bare t w = written_bare w
