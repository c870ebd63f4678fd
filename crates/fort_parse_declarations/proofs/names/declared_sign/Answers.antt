use Rattle.std.proofs.Common.{◌≡◌, Some, Err, sym, ◌∙◌, rules}
use Rattle.fort_parse_declarations.proofs.Takes.{power_taken, prefix_taken, sign_taken}
use Rattle.fort_parse_declarations.proofs.names.declared_sign.Goals as goal

pub returns-in_err-power-in-Power : goal.returns-in_err-power-in-Power
returns-in_err-power-in-Power c =
    let is : c.from_residual.result ≡ Err c.in_err-power-in-Power.field-0.0 = search rules in
    rw is (λ other. absurd
    (power_taken _ _ _ _ _ (sym c.next.ensures ∙ c.in-Some.is) (sym c.declared_of.ensures
    ∙ c.in-Some-declared_of.is) c.in-Power.is (c.in_err-power-in-Power.ensures other)))

pub returns-in_err-prefix-in-Not : goal.returns-in_err-prefix-in-Not
returns-in_err-prefix-in-Not c =
    let is : c.from_residual-in_err-prefix-in-Not.result ≡ Err c.in_err-prefix-in-Not.field-0.0 =
    search rules in
    rw is (λ other. absurd
    (prefix_taken _ _ _ _ _ (sym c.next.ensures ∙ c.in-Some.is) (sym c.declared_of.ensures
    ∙ c.in-Some-declared_of.is) c.in-Not.is (c.in_err-prefix-in-Not.ensures other)))

pub returns-in_err-sign-in_default-op : goal.returns-in_err-sign-in_default-op
returns-in_err-sign-in_default-op c =
    let is : c.from_residual-in_err-sign-in_default-op.result
    ≡ Err c.in_err-sign-in_default-op.field-0.0 = search rules in
    rw is (λ other. absurd
    (sign_taken _ _ _ _ _ (sym c.next.ensures ∙ c.in-Some.is) (sym c.declared_of.ensures
    ∙ c.in-Some-declared_of.is) c.in_default-op.not-Power c.in_default-op.not-Not
    (c.in_err-sign-in_default-op.ensures other)))
