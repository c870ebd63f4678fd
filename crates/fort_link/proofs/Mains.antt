-- The head and the end of the whole, unit by unit, and that they are there.
use Rattle.std.proofs.Common.{◌≡◌, ◌<◌, ℕ, ◌+◌, suc, Bool, true, false, ◌||◌, cond, if◌then◌else◌, List, [], ◌∷◌, ◌++◌, length, take, drop, get_or, count_by, Option, Some, None, refl, sym, ap, ap₂, ◌∙◌, arith, add-one, drop-cons}
use Rattle.std.specs.Prelude.{nat_eq, option_map}
use Rattle.std.specs.Option.{option_or}
use Rattle.std.specs.List.{list_any}
use Rattle.std.proofs.lemmas.Bool.{eqb-true, eqb-false}
use Rattle.std.proofs.lemmas.List.{take_more}
use Rattle.std.proofs.lemmas.List.Sums.{sum_by-cons}
use Rattle.fort_base.specs.declared.rules.TheConstants.{NOT_ONE_MAIN}
use Rattle.fort_tree.specs.declared.declarations.Export.{Export}
use Rattle.fort_tree.specs.Tokens.{Spellings, is_spelled}
use Rattle.fort_link_units.specs.declared.unit.ComponentUnit.{ComponentUnit}
use Rattle.fort_link_units.specs.declared.unit.Unit.{Unit}
use Rattle.fort_link_units.specs.declared.unit.Unit.TheVariants as a_unit
use Rattle.fort_link_rules.specs.Units.{exports_executable, first_token}
use Rattle.fort_link_rules.specs.Reports.{IsFirstBroken, main}
use Rattle.fort_link.specs.declared.whole.Head.{Head}
use Rattle.fort_link.specs.Whole.{components, executable, head_of, main_head, last_end}
use Rattle.fort_link.proofs.Seams.{components_append}

-- ---- the head, from the front on

pub passed : (names : Spellings) (units : List Unit) (i : ℕ) (d : Unit) → i < length units
    → main_head names (components (get_or units i d ∷ [])) ≡ None
    → main_head names (components (drop i units))
    ≡ main_head names (components (drop (i + 1) units))
passed names units i d l none =
    ap (λ z. main_head names (components z)) (drop-cons units i d l)
    ∙ (at (get_or units i d) none
    ∙ ap (λ k. main_head names (components (drop k units))) (sym (add-one i)))
  where
    or_none : (h : Option Head) (rest : Option Head) → option_or h None ≡ None
        → option_or h rest ≡ rest
    or_none None rest e = refl
    or_none (Some h) rest e = absurd cc

    at : (u : Unit) → main_head names (components (u ∷ [])) ≡ None
        → main_head names (components (u ∷ drop (suc i) units))
        ≡ main_head names (components (drop (suc i) units))
    at (a_unit.Component u) e = or_none (head_of names u) _ e
    at (a_unit.Api a) e = refl

pub found : (names : Spellings) (units : List Unit) (i : ℕ) (u : ComponentUnit) (head : Head)
    (d : Unit) → i < length units → get_or units i d ≡ a_unit.Component u
    → head_of names u ≡ Some head → main_head names (components (drop i units)) ≡ Some head
found names units i u head d l e h =
    ap (λ z. main_head names (components z)) (drop-cons units i d l)
    ∙ (ap (λ (x : Unit). main_head names (components (x ∷ drop (suc i) units))) e
    ∙ ap (λ x. option_or x (main_head names (components (drop (suc i) units)))) h)

-- ---- the end, from the front on

end_last : (us : List ComponentUnit) (u : ComponentUnit)
    → last_end (us ++ u ∷ []) ≡ Some u.parsed.component.end
end_last [] u = refl
end_last (v ∷ []) u = refl
end_last (v ∷ w ∷ us) u = end_last (w ∷ us) u

none_behind : (us : List ComponentUnit) → us ++ [] ≡ us
none_behind [] = refl
none_behind (u ∷ us) = ap (λ z. u ∷ z) (none_behind us)

end_behind : (us : List ComponentUnit) (u : Unit)
    → last_end (us ++ components (u ∷ []))
    ≡ option_or (last_end (components (u ∷ []))) (last_end us)
end_behind us (a_unit.Component u) = end_last us u
end_behind us (a_unit.Api a) = ap last_end (none_behind us)

pub end_more : (units : List Unit) (i : ℕ) (d : Unit) → i < length units
    → last_end (components (take (i + 1) units))
    ≡ option_or (last_end (components (get_or units i d ∷ [])))
    (last_end (components (take i units)))
end_more units i d l =
    ap (λ z. last_end (components z)) (take_more units i d l)
    ∙ (ap last_end (components_append (take i units) (get_or units i d ∷ []))
    ∙ end_behind (components (take i units)) (get_or units i d))

-- ---- both are there

none_exported : (names : Spellings) (exports : List Export) → executable names exports ≡ None
    → list_any (λ (e : Export). is_spelled "Executable" names e.name) exports ≡ false
none_exported names [] h = refl
none_exported names (e ∷ es) h =
    at (is_spelled "Executable" names e.name) (none_exported names es) h
  where
    at : (b : Bool) → (executable names es ≡ None
        → list_any (λ (e : Export). is_spelled "Executable" names e.name) es ≡ false)
        → (if b then Some e else executable names es) ≡ None
        → (b || list_any (λ (e : Export). is_spelled "Executable" names e.name) es) ≡ false
    at true ih h = absurd cc
    at false ih h = ih h

no_head : (names : Spellings) (u : ComponentUnit) → head_of names u ≡ None
    → executable names u.exports ≡ None
no_head names u h = at (executable names u.exports) h
  where
    at : (e : Option Export)
        → option_map {U = Head} (λ (x : Export). record {
          component = u.parsed.component.component;
          name = u.parsed.component.name;
          export = x;
        }) e ≡ None → e ≡ None
    at None h = refl
    at (Some e) h = absurd cc

both_none : (a b : Option Head) → option_or a b ≡ None → (a ≡ None) × (b ≡ None)
both_none None b h = (refl, h)
both_none (Some x) b h = absurd cc

none_counted : (names : Spellings) (units : List Unit) → main_head names (components units) ≡ None
    → count_by (exports_executable names) units ≡ 0
none_counted names [] h = refl
none_counted names (a_unit.Component u ∷ us) h =
    let both = both_none (head_of names u) (main_head names (components us)) h in
    let rest = none_counted names us both.1 in
    let none : cond (exports_executable names (a_unit.Component u)) 1 0 ≡ 0 =
    ap (λ b. cond b 1 0) (none_exported names u.exports (no_head names u both.0)) in
    sum_by-cons (λ x. cond (exports_executable names x) 1 0) (a_unit.Component u) us
    ∙ ap₂ (λ a b. a + b) none rest
none_counted names (a_unit.Api a ∷ us) h =
    let rest = none_counted names us h in
    sum_by-cons (λ x. cond (exports_executable names x) 1 0) (a_unit.Api a) us
    ∙ ap (λ n. 0 + n) rest

-- where no rule is broken, one component exports `Executable`
pub one_counted : (names : Spellings) (units : List Unit) → 0 < length units
    → IsFirstBroken names units None → count_by (exports_executable names) units ≡ 1
one_counted names [] some keep = absurd (omega (arith, some))
one_counted names (u ∷ us) some keep = at (nat_eq (count_by (exports_executable names) (u ∷ us)) 1) refl
  where
    at : (b : Bool) → nat_eq (count_by (exports_executable names) (u ∷ us)) 1 ≡ b
        → count_by (exports_executable names) (u ∷ us) ≡ 1
    at true e = eqb-true _ _ e
    at false e =
        absurd (keep NOT_ONE_MAIN.0 (first_token u).place
        (main refl (eqb-false _ _ e, (u, refl, refl))))

pub has_main : (names : Spellings) (units : List Unit) → 0 < length units
    → IsFirstBroken names units None → main_head names (components units) ≡ None → ⊥
has_main names units some keep h =
    let one = one_counted names units some keep in let none = none_counted names units h
    in absurd (omega arith)

no_components : (us : List ComponentUnit) → last_end us ≡ None → us ≡ []
no_components [] h = refl
no_components (u ∷ []) h = absurd cc
no_components (u ∷ v ∷ us) h =
    let e = no_components (v ∷ us) h in absurd cc

pub has_end : (names : Spellings) (units : List Unit) → 0 < length units
    → IsFirstBroken names units None → last_end (components units) ≡ None → ⊥
has_end names units some keep h =
    has_main names units some keep
    (ap (main_head names) (no_components (components units) h))
