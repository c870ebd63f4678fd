-- Each name that stands as a type in a component that keeps the rules of the hierarchy has a
-- number, and so has the name of each of its types.
use Rattle.std.proofs.Common.{◌≡◌, ◌<◌, ◌⊎◌, inl, inr, ℕ, zero, suc, Bool, true, false, cond, List, [], ◌∷◌, ◌++◌, length, map, Some, refl, sym, ap, ◌∙◌, subst, arith}
use Rattle.std.specs.List.{slice_get, AllByRecursion}
use Rattle.std.specs.Str.{bytes_eq}
use Rattle.std.specs.Cmp.Lexicographic.{bytes_decides}
use Rattle.std.proofs.Math.Dec.{ltb}
use Rattle.std.proofs.Math.ListN.{length-append}
use Rattle.std.proofs.lemmas.Bool.{lt-ltb, ltb-true}
use Rattle.fort_tree.specs.declared.declarations.Component.{Component}
use Rattle.fort_tree.specs.declared.spot.Name.{Name}
use Rattle.fort_tree_type_names.specs.TypeNames.{type_names}
use Rattle.fort_types.specs.Types.{IsNumbered}
use Rattle.fort_types_builtin.specs.Types.{any_spelling, declared_spellings, built_in_declared}
use Rattle.fort_types_builtin.proofs.PlainTypes.{built_in_count, declared_count}
use Rattle.fort_hier.specs.declared.accepted.Hierarchy.{Hierarchy}
use Rattle.fort_hier.specs.Heads.{heads_of}
use Rattle.fort_hier.specs.Hierarchies.{declares, IsHierarchy, unknown}
use Rattle.fort_hier.specs.Names.{Spelling, spelling}
use Rattle.fort_hier.specs.Numbers.{number_of, declared_types, declared_by, head_spelling, all_types}
use Rattle.fort_hier.proofs.NamesWalk.{as_long}
use Rattle.fort_hier.proofs.NumberLaws.{unknown_past}
use Rattle.fort_member_fields.specs.Own.{types_of}
use Rattle.fort_member_fields.specs.Written.{named}
use Rattle.fort_member.proofs.Numbered.{all_items, a_name_numbered}
use Rattle.fort_hier.specs.declared.heads.TypeHead.{TypeHead}

known_step : (s : Spelling) (list : List Spelling) (b : Bool)
    → (number_of list s < length list) ⊎ (number_of list s ≡ length list)
    → (cond b 0 (suc (number_of list s)) < suc (length list))
    ⊎ (cond b 0 (suc (number_of list s)) ≡ suc (length list))
known_step s list true w = inl (omega arith)
known_step s list false (inl l) = inl (omega arith)
known_step s list false (inr e) = inr (ap suc e)

known_or : (list : List Spelling) (s : Spelling)
    → (number_of list s < length list) ⊎ (number_of list s ≡ length list)
known_or [] s = inr refl
known_or (x ∷ list) s = known_step s list (bytes_eq s x) (known_or list s)

-- a name of a list has a number in it, whatever stands behind
stands_step : (s : Spelling) (xs : List Spelling) (y : Spelling) (b : Bool)
    → number_of (xs ++ y ∷ []) s < length xs
    → cond b 0 (suc (number_of (xs ++ y ∷ []) s)) < suc (length xs)
stands_step s xs y true l = omega arith
stands_step s xs y false l = omega arith

stands : (xs : List Spelling) (y s : Spelling) (i : ℕ) → slice_get xs i ≡ Some s
    → number_of (xs ++ y ∷ []) s < length xs
stands [] y s i e = absurd cc
stands (x ∷ xs) y s zero e = let q : x ≡ s = cc in
    subst (λ (b : Bool). cond b 0 (suc (number_of (xs ++ y ∷ []) s))
    < suc (length xs)) (sym ((bytes_decides s x).1 (sym q))) (omega arith)
stands (x ∷ xs) y s (suc i) e = stands_step s xs y (bytes_eq s x) (stands xs y s i e)

get_right : {X : Type 0} (ws xs : List X) (i : ℕ)
    → (j : ℕ) × (slice_get (ws ++ xs) j ≡ slice_get xs i)
get_right [] xs i = (i, refl)
get_right (w ∷ ws) xs i = let r = get_right ws xs i in (suc r.0, r.1)

-- what is made of an item stands at its place
get_of_mapped : {X Y : Type 0} (f : X → Y) (xs : List X) (i : ℕ) (x : X) → slice_get xs i ≡ Some x
    → slice_get (map f xs) i ≡ Some (f x)
get_of_mapped f [] i x e = absurd cc
get_of_mapped f (y ∷ xs) zero x e = let q : y ≡ x = cc in ap (λ z. Some (f z)) q
get_of_mapped f (y ∷ xs) (suc i) x e = get_of_mapped f xs i x e

-- The name of a type has a number below this.
abbrev pub IsPlaced : ℕ → List Spelling → List Spelling → TypeHead → Type 0
IsPlaced n list names head = number_of list (spelling names head.name) < n

-- ---- a component

module _ (c : Component) where
  -- a name has a number
  abbrev pub is_known : Name → Bool
  is_known x = ltb (number_of (types_of c) (spelling c.names x)) (length (types_of c))

  abbrev IsKnown : Name → Type 0
  IsKnown x = is_known x ≡ true

  -- the names of the declared types
  abbrev declared : List Spelling
  declared = declared_types c.names (heads_of c)

  -- there are as many as declared types
  as_many : length declared ≡ length (declares c)
  as_many =
      let a = length-append declared_spellings (map (head_spelling c.names) (heads_of c))
      in let b = declared_count in let d = as_long (head_spelling c.names) (heads_of c) in
      let e = length-append built_in_declared
      (map (declared_by (all_types c.names (heads_of c)) c.names) (heads_of c))
      in let f = built_in_count in
      let g = as_long (declared_by (all_types c.names (heads_of c)) c.names) (heads_of c)
      in omega arith

  -- the type of a known name
  pub known_numbered : (x : Name) → IsKnown x
      → IsNumbered (length (declares c)) (named (types_of c) (spelling c.names x))
  known_numbered x e = subst (λ n. IsNumbered n (named (types_of c) (spelling c.names x))) as_many
      (a_name_numbered declared (spelling c.names x)
      (ltb-true (number_of (types_of c) (spelling c.names x)) (length (types_of c)) e))

  -- the names of the component's own types
  pub placed : AllByRecursion (IsPlaced (length (declares c)) (types_of c) c.names) (heads_of c)
  placed = all_items (IsPlaced (length (declares c)) (types_of c) c.names) (heads_of c) (λ i head e.
      let g = get_of_mapped (head_spelling c.names) (heads_of c) i head e
      in let r = get_right declared_spellings (map (head_spelling c.names) (heads_of c)) i in
      subst (λ n. number_of (types_of c) (spelling c.names head.name)
      < n) as_many
      (stands declared any_spelling (spelling c.names head.name) r.0 (r.1 ∙ g)))

  pub known_all : (h : Hierarchy) → IsHierarchy c (type_names c) h
      → AllByRecursion IsKnown (type_names c)
  known_all h a =
      all_items IsKnown (type_names c)
      (λ i x e. told i x e (known_or (types_of c) (spelling c.names x)))
    where
      told : (i : ℕ) (x : Name) → slice_get (type_names c) i ≡ Some x
          → (number_of (types_of c) (spelling c.names x) < length (types_of c))
          ⊎ (number_of (types_of c) (spelling c.names x) ≡ length (types_of c)) → IsKnown x
      told i x e (inl l) =
          lt-ltb (number_of (types_of c) (spelling c.names x)) (length (types_of c)) l
      told i x e (inr q) =
          absurd (a.kept 402 x.spot.place
          (unknown refl (i, x, e, unknown_past (types_of c) (spelling c.names x) q, refl)))
