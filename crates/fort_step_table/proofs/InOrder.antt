-- Operands from left to right.
use Rattle.std.proofs.Common.{◌≡◌, List, [], ◌∷◌, ◌++◌, map, refl, ap, sym, ◌∙◌}
use Rattle.fort_base.specs.declared.ids.SetId.{SetId}
use Rattle.fort_core.specs.declared.program.Program.{Program}
use Rattle.fort_core.specs.declared.term.Term.{Term, Operator}
use Rattle.fort_core.specs.declared.term.Term as term
use Rattle.fort_core.specs.declared.term.Term.TheVariants.{outs-Operator}
use Rattle.fort_core.specs.declared.value.Value.{Value}
use Rattle.fort_machine.specs.Ends.{Standing, at_value, at_throw, open_yet, standing, throw_of}
use Rattle.fort_machine.specs.Acts.{Act, becomes, calls, after_all, by_standing}
use Rattle.fort_machine.specs.Forms.{act, act_at}
use Rattle.fort_machine.proofs.Standing.{standing-Value, standing-throw}
use Rattle.fort_step_table.specs.declared.operands.Operands.{Operands}
use Rattle.fort_step_table.specs.declared.operands.Operands.TheVariants as operands
use Rattle.fort_step_table.specs.Operands.{after_values, with_operand, standing_in_order, by_operands}

value_more : (v : Value) (g : Operands) (f : List Value → Act)
    → by_operands g (λ vs. f (v ∷ vs)) ≡ by_operands (after_values (v ∷ []) g) f
value_more v (operands.Values vs) f = refl
value_more v (operands.Throw u) f = refl
value_more v operands.Open f = refl

one_more : (s : Standing) (ts : List Term) (f : List Value → Act)
    → ((g : List Value → Act) → after_all ts g ≡ by_operands (standing_in_order ts) g)
    → by_standing s (λ v. after_all ts (λ vs. f (v ∷ vs)))
    ≡ by_operands (with_operand s (standing_in_order ts)) f
one_more (at_value v) ts f rest = rest (λ vs. f (v ∷ vs)) ∙ value_more v (standing_in_order ts) f
one_more (at_throw v) ts f rest = refl
one_more open_yet ts f rest = refl

pub by_all : (ts : List Term) (f : List Value → Act)
    → after_all ts f ≡ by_operands (standing_in_order ts) f
by_all [] f = refl
by_all (t ∷ ts) f = one_more (standing t) ts f (λ g. by_all ts g)

values_before : (vs : List Value) (v : Value) (g : Operands)
    → after_values (v ∷ []) (after_values vs g) ≡ after_values (v ∷ vs) g
values_before vs v (operands.Values us) = refl
values_before vs v (operands.Throw u) = refl
values_before vs v operands.Open = refl

none_before : (g : Operands) → g ≡ after_values [] g
none_before (operands.Values us) = refl
none_before (operands.Throw u) = refl
none_before operands.Open = refl

of_values : (vs : List Value) (ts : List Term)
    → standing_in_order (map term.Value vs ++ ts) ≡ after_values vs (standing_in_order ts)
of_values [] ts = none_before (standing_in_order ts)
of_values (v ∷ vs) ts =
    ap (λ s. with_operand s (standing_in_order (map term.Value vs ++ ts))) (standing-Value v)
    ∙ ap (after_values (v ∷ [])) (of_values vs ts) ∙ values_before vs v (standing_in_order ts)

pub behind : (vs : List Value) (ts : List Term) (f : List Value → Act)
    → after_all (map term.Value vs ++ ts) f ≡ by_operands (after_values vs (standing_in_order ts)) f
behind vs ts f = by_all (map term.Value vs ++ ts) f ∙ ap (λ g. by_operands g f) (of_values vs ts)

-- one value more before the others
moved : (vs : List Value) (v : Value) (ts : List Term)
    → map term.Value (vs ++ v ∷ []) ++ ts ≡ map term.Value vs ++ term.Value v ∷ ts
moved [] v ts = refl
moved (u ∷ vs) v ts = ap (λ xs. term.Value u ∷ xs) (moved vs v ts)

pub one_value_more : (vs : List Value) (v : Value) (ts : List Term) (f : List Value → Act)
    → after_all (map term.Value vs ++ term.Value v ∷ ts) f
    ≡ by_operands (after_values (vs ++ v ∷ []) (standing_in_order ts)) f
one_value_more vs v ts f =
    ap (λ xs. after_all xs f) (sym (moved vs v ts)) ∙ behind (vs ++ v ∷ []) ts f

-- a throw behind values
pub throw_behind : (vs : List Value) (v : Value) (ts : List Term) (f : List Value → Act)
    → after_all (map term.Value vs ++ throw_of v ∷ ts) f ≡ becomes (throw_of v)
throw_behind vs v ts f =
    behind vs (throw_of v ∷ ts) f
    ∙ ap (λ s. by_operands (after_values vs (with_operand s (standing_in_order ts))) f)
    (standing-throw v)

-- all at values
values_only : (vs : List Value) (f : List Value → Act) → after_all (map term.Value vs) f ≡ f vs
values_only [] f = refl
values_only (v ∷ vs) f =
    ap (λ s. by_standing s (λ u. after_all (map term.Value vs) (λ us. f (u ∷ us))))
    (standing-Value v)
    ∙ values_only vs (λ us. f (v ∷ us))

pub all_at_values : (p : Program) (set : SetId) (vs : List Value)
    → act p (Operator set (map term.Value vs)) ≡ calls set vs
all_at_values p set vs =
    ap (act_at p) (outs-Operator set (map term.Value vs)) ∙ values_only vs (calls set)
