use Rattle.std.proofs.Common.{◌≡◌, ◌+◌, List, [], ◌∷◌, ◌++◌, Option, Some, None, true, false, refl, sym, ap, ◌∙◌, length, arith, rules}
use Rattle.std.specs.Prelude.{map, option_map}
use Rattle.std.proofs.lemmas.List.{length-map}
use Rattle.fort_tree.specs.declared.delimited.Catch.{Catch}
use Rattle.fort_form_meaning.specs.Levels.{Catching}
use Rattle.fort_form_meaning.specs.Formed.{formed_catch}
use Rattle.fort_form_meaning.proofs.FormsBlocks.{catch_forms}
use Rattle.fort_form_build.specs.Taking.{binder_of}
use Rattle.fort_form_build.proofs.blocks.binder.Goals as goal

pub returns-in-None : goal.returns-in-None
returns-in-None c =
    λ k. sym (ap (λ (o : Option Catch). binder_of (option_map (formed_catch k) o)) c.in-None.is)

pub returns-in-Some : goal.returns-in-Some
returns-in-Some c =
    λ k. ap Some c.named.ensures
    ∙ sym (ap (λ (o : Option Catch). binder_of (option_map (formed_catch k) o)) c.in-Some.is ∙ ap (λ
    (x : Catching). Some x.binder) (catch_forms k c.in-Some.catch))
