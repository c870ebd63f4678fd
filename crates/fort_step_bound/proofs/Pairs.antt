-- Variables with values, where there are as many, and where there aren't.
use Rattle.std.proofs.Common.{◌≡◌, ◌≢◌, ◌++◌, ℕ, List, [], ◌∷◌, length, arith, Option, Some, None, refl, ap, sym}
use Rattle.std.specs.Prelude.{option_map}
use Rattle.fort_base.specs.declared.ty.Ty.{Ty}
use Rattle.fort_core.specs.declared.term.Term.{Term}
use Rattle.fort_core.specs.declared.value.Closure.{Closure}
use Rattle.fort_core.specs.declared.value.Value.{Value}
use Rattle.fort_machine.specs.Acts.{stuck, enters, becomes}
use Rattle.fort_machine.specs.Forms.{binding, entering}
use Rattle.fort_machine.specs.Substitution.{paired, substituted_all}

pub paired_apart : (xs : List (ℕ × Ty)) (vs : List Value) → length xs ≢ length vs
    → None ≡ paired xs vs
paired_apart [] [] n = absurd (n refl)
paired_apart [] (v ∷ vs) n = refl
paired_apart (x ∷ xs) [] n = refl
paired_apart (x ∷ xs) (v ∷ vs) n =
    ap (option_map (λ
    (hs : List (ℕ × Value)). (x.0, v) ∷ hs)) (paired_apart xs vs (λ e. n (omega (arith, e))))

pub none_bound : (o : Option (List (ℕ × Value))) (rest : Term) → None ≡ o → binding o rest ≡ stuck
none_bound o rest e = ap (λ (q : Option (List (ℕ × Value))). binding q rest) (sym e)

pub all_bound : (o : Option (List (ℕ × Value))) (rest : Term) (hs : List (ℕ × Value)) → Some hs ≡ o
    → binding o rest ≡ becomes (substituted_all hs rest)
all_bound o rest hs e = ap (λ (q : Option (List (ℕ × Value))). binding q rest) (sym e)

pub ruleset bindings = (none_bound, all_bound)

pub not_entered : (c : Closure) (o : Option (List (ℕ × Value))) → None ≡ o → entering c o ≡ stuck
not_entered c o e = ap (entering c) (sym e)

pub is_entered : (c : Closure) (o : Option (List (ℕ × Value))) (hs : List (ℕ × Value)) → Some hs ≡ o
    → entering c o ≡ enters c.body (substituted_all (hs ++ c.held) c.body)
is_entered c o hs e = ap (entering c) (sym e)

pub ruleset enterings = (not_entered, is_entered)
