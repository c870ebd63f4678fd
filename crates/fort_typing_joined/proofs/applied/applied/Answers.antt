use Rattle.std.proofs.Common.{◌≡◌, length, Some, ap, ◌∙◌, sym}
use Rattle.std.proofs.lemmas.Result.{IfOk-weaker}
use Rattle.fort_base.specs.declared.ids.SetId.{SetId}
use Rattle.fort_typing_known.specs.Read.{facts}
use Rattle.fort_typing_known.specs.Sets.{function_set}
use Rattle.fort_typing_rules.specs.declared.part.Part.{Part}
use Rattle.fort_typing_meaning.specs.Joining.{call}
use Rattle.fort_typing_joined.specs.Values.{arguments_in, name_in}
use Rattle.fort_typing_joined.proofs.ByName.{name_called}
use Rattle.fort_typing_joined.proofs.applied.applied.Goals as goal

pub returns-in-Some : goal.returns-in-Some
returns-in-Some c =
    let k = facts c.args.known.now in
    let ts = c.in-Some-2.arguments in
    let name : name_in c.args.function.meaning ≡ Some c.in-Some.name = cc in
    let given : arguments_in c.args.argument ≡ Some ts =
    sym c.in_ok-arguments.ensures ∙ c.in-Some-2.is in
    let whole = name_called k c.args.function c.args.argument c.in-Some.name ts name given in
    IfOk-weaker c.call.result _ _
    (λ made h.
    h
    ∙ ap (λ (set : SetId). call k set ts c.get-in-Some.result.now.place) (c.in_ok-set.ensures
    ∙ ap (function_set k c.in-Some.name) c.len.ensures)
    ∙ ap (λ (f : Part). call k (function_set k c.in-Some.name (length ts)) ts f.place)
    c.get-in-Some.ensures
    ∙ sym whole)
    c.call.ensures
