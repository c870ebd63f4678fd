-- Numbers that aren't below 0.
use Rattle.std.proofs.Common.{◌≡◌, ℕ, ◌+◌, Option, Some, None, arith, refl, ap, sym, ◌∙◌, if◌then◌else◌}
use Rattle.std.proofs.lemmas.Int.{ints}
use Rattle.std.specs.Prelude.{ℤ, pos, negsuc, unsigned_abs, nat_lt, ◌<ℤ◌, ◌≤ℤ◌}
use Rattle.fort_base.specs.declared.ids.Loc.{Loc}
use Rattle.fort_base.specs.declared.ty.Ty.{Ty}
use Rattle.fort_core.specs.declared.program.Program.{Program}
use Rattle.fort_core.specs.declared.term.Term.TheOpen.{Value-F}
use Rattle.fort_machine.specs.Acts.{Act, throwing}
use Rattle.fort_machine.specs.Forms.{by_element, filling}
use Rattle.fort_core.specs.declared.value.Value.{Value}
use Rattle.fort_step_deal.specs.Deals.{act_of}
use Rattle.fort_step_deal.specs.declared.deal.Deal.TheVariants as deal
use Rattle.fort_step_deal.specs.declared.deal.Makes.TheVariants as fresh
use Rattle.fort_step_forms.specs.Rows.{natural_of}

pub below_zero : (z : ℤ) → z <ℤ pos 0 → None ≡ natural_of z
below_zero (pos n) h = absurd (omega (arith, ints))
below_zero (negsuc n) h = refl

pub not_below : (z : ℤ) → pos 0 ≤ℤ z → Some (unsigned_abs z) ≡ natural_of z
not_below (pos n) h = refl
not_below (negsuc n) h = absurd (omega (arith, ints))

pub ruleset signs = (below_zero, not_below)

pub outside : (p : Program) (t : Ty) (base : Loc) (size : ℕ) (z : ℤ) (f : Option ℕ → Act)
    → None ≡ natural_of z
    → by_element p (Value-F.Array t base size) (Value-F.Small z) f
    ≡ throwing p p.built_in.index_out_of_range
outside p t base size (pos n) f e = absurd cc
outside p t base size (negsuc n) f e = refl

pub inside : (p : Program) (t : Ty) (base : Loc) (size : ℕ) (z : ℤ) (i : ℕ) (f : Option ℕ → Act)
    → Some i ≡ natural_of z
    → by_element p (Value-F.Array t base size) (Value-F.Small z) f
    ≡ (if nat_lt i size then f (Some (base.0 + i)) else throwing p p.built_in.index_out_of_range)
inside p t base size (pos n) i f e =
    let q : i ≡ n = cc
    in ap (λ k. if nat_lt k size then f (Some (base.0 + k))
    else throwing p p.built_in.index_out_of_range) (sym q)
inside p t base size (negsuc n) i f e = absurd cc

pub negative_fill : (p : Program) (ty : Ty) (v : Value) (z : ℤ) → None ≡ natural_of z
    → filling p ty v (Value-F.Small z) ≡ throwing p p.built_in.negative_size
negative_fill p ty v (pos n) e = absurd cc
negative_fill p ty v (negsuc n) e = refl

pub filled : (p : Program) (ty : Ty) (v : Value) (z : ℤ) (n : ℕ) → Some n ≡ natural_of z
    → act_of (deal.Makes (fresh.Array ty v n)) ≡ filling p ty v (Value-F.Small z)
filled p ty v (pos m) n e =
    let q : n ≡ m = cc in ap (λ k. act_of (deal.Makes (fresh.Array ty v k))) q
filled p ty v (negsuc m) n e = absurd cc

pub ruleset elements = (outside, inside)

pub ruleset fills = (negative_fill, filled)
