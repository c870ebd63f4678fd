-- Each name that stands as a type in a component that keeps the rules of the hierarchy has a
-- number.
use Rattle.std.proofs.Common.{◌≡◌, ◌<◌, ◌+◌, ◌⊎◌, inl, inr, ℕ, suc, Bool, true, false, cond, List, [], ◌∷◌, ◌++◌, length, map, Some, refl, ap, arith}
use Rattle.std.specs.List.{slice_get, AllByRecursion}
use Rattle.std.specs.Str.{bytes_eq}
use Rattle.std.proofs.Math.ListN.{length-append}
use Rattle.fort_tree.specs.declared.declarations.Component.{Component}
use Rattle.fort_tree.specs.declared.spot.Name.{Name}
use Rattle.fort_tree_type_names.specs.TypeNames.{type_names}
use Rattle.fort_types_builtin.specs.declared.types.TheConstants.{TYPE_COUNT}
use Rattle.fort_types_builtin.specs.Types.{declared_spellings, built_in_declared}
use Rattle.fort_types_builtin.proofs.PlainTypes.{built_in_count, declared_count}
use Rattle.fort_hier.specs.declared.accepted.Hierarchy.{Hierarchy}
use Rattle.fort_hier.specs.Heads.{heads_of}
use Rattle.fort_hier.specs.Hierarchies.{declares, IsHierarchy, unknown}
use Rattle.fort_hier.specs.Names.{Spelling, spelling}
use Rattle.fort_hier.specs.Numbers.{number_of, declared_types, declared_by, head_spelling, all_types}
use Rattle.fort_hier.proofs.NamesWalk.{as_long}
use Rattle.fort_hier.proofs.NumberLaws.{unknown_past}
use Rattle.fort_member_fields.specs.Own.{types_of}
use Rattle.fort_member.proofs.Numbered.{all_items}

-- the names of the declared types
abbrev pub declared : Component → List Spelling
declared c = declared_types c.names (heads_of c)

-- a name has a number
abbrev pub Known : Component → Name → Type 0
Known c x = number_of (types_of c) (spelling c.names x) < length (types_of c)

pub counts : (c : Component)
    → (length (declared c) ≡ TYPE_COUNT + length (heads_of c))
    × (length (declares c) ≡ TYPE_COUNT + length (heads_of c))
counts c =
    let a = length-append declared_spellings (map (head_spelling c.names) (heads_of c))
    in let b = declared_count in let d = as_long (head_spelling c.names) (heads_of c) in
    let e = length-append built_in_declared
    (map (declared_by (all_types c.names (heads_of c)) c.names) (heads_of c))
    in let f = built_in_count in
    let g = as_long (declared_by (all_types c.names (heads_of c)) c.names) (heads_of c)
    in (omega arith, omega arith)

known_step : (s : Spelling) (list : List Spelling) (b : Bool)
    → (number_of list s < length list) ⊎ (number_of list s ≡ length list)
    → (cond b 0 (suc (number_of list s)) < suc (length list))
    ⊎ (cond b 0 (suc (number_of list s)) ≡ suc (length list))
known_step s list true w = inl (omega arith)
known_step s list false (inl l) = inl (omega arith)
known_step s list false (inr e) = inr (ap suc e)

known_or : (list : List Spelling) (s : Spelling)
    → (number_of list s < length list) ⊎ (number_of list s ≡ length list)
known_or [] s = inr refl
known_or (x ∷ list) s = known_step s list (bytes_eq s x) (known_or list s)

pub known_all : (c : Component) (h : Hierarchy) → IsHierarchy c (type_names c) h
    → AllByRecursion (Known c) (type_names c)
known_all c h a =
    all_items (Known c) (type_names c)
    (λ i x e. told i x e (known_or (types_of c) (spelling c.names x)))
  where
    told : (i : ℕ) (x : Name) → slice_get (type_names c) i ≡ Some x
        → (number_of (types_of c) (spelling c.names x) < length (types_of c))
        ⊎ (number_of (types_of c) (spelling c.names x) ≡ length (types_of c)) → Known c x
    told i x e (inl l) = l
    told i x e (inr q) =
        absurd (a.kept 402 x.spot.place
        (unknown refl (i, x, e, unknown_past (types_of c) (spelling c.names x) q, refl)))
