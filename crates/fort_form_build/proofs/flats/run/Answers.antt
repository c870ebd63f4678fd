use Rattle.std.proofs.Common.{◌≡◌, ◌+◌, List, [], ◌∷◌, ◌++◌, Option, Some, None, true, false, refl, sym, ap, ◌∙◌, length, arith}
use Rattle.std.specs.Prelude.{map, option_map}
use Rattle.std.proofs.lemmas.List.{length-map}
use Rattle.std.proofs.Common.{rules}
use Rattle.fort_form.specs.declared.form.Form.{Form}
use Rattle.fort_form.specs.declared.form.Form.TheVariants as a_form
use Rattle.fort_tree.specs.declared.expr.Run.{out-Run}
use Rattle.fort_tree.specs.declared.expr.RunPart.{RunPart}
use Rattle.fort_form_meaning.specs.Formed.{formed_atom, formed_run_part}
use Rattle.fort_form_meaning.specs.Forming.{begins, run_of}
use Rattle.fort_form_meaning.proofs.FormsFlats.{run_forms}
use Rattle.fort_form_build.proofs.Giving.{named_as, of_one, one, remade}
use Rattle.fort_form_build.proofs.Parts.{run_of_many}
use Rattle.fort_form_build.proofs.Splitting.{as_many}
use Rattle.fort_form_build.proofs.flats.run.Goals as goal

pub returns-then-is_empty : goal.returns-then-is_empty
returns-then-is_empty c = λ k.
    let none : (out-Run c.args.run.now).rest ≡ [] = c.is_empty.ensures.0 c.if-is_empty.true in
    named_as (one (formed_atom k (out-Run c.args.run.now).first) c.in_ok-take.ensures) (ap (λ
    (xs : List RunPart). formed_atom k (out-Run c.args.run.now).first
    ∷ map (formed_run_part k) xs) none)
    (run_forms k _ ∙ ap (λ
    (xs : List RunPart). run_of (formed_atom k (out-Run c.args.run.now).first)
    (map (formed_run_part k) xs)) none)

pub returns : goal.returns
returns c = λ k.
    let some : ((out-Run c.args.run.now).rest ≡ [] → ⊥) = λ e. let h = c.is_empty.ensures.1 e
    in let f = c.if-is_empty.false in cc in
    remade (ap (λ p. a_form.Run p c.in_ok-elements.elements) c.first_place.ensures)
    (of_one (λ (xs : List Form). a_form.Run (begins xs) xs)
    (as_many (formed_atom k (out-Run c.args.run.now).first
    ∷ map (formed_run_part k) (out-Run c.args.run.now).rest) c.in_ok-elements.ensures.taken
    (let l = length-map (out-Run c.args.run.now).rest (formed_run_part k)
    in let n = c.in_ok-elements.ensures.count in let s = ap length c.as_slice.ensures
    in omega arith))
    refl (run_forms k _ ∙ run_of_many _ (formed_run_part k) (out-Run c.args.run.now).rest some))
