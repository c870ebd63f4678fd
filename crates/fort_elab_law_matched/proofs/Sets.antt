-- The overload sets hold the declarations of a component, each once.
use Rattle.std.proofs.Common.{◌≡◌, ℕ, ◌+◌, ◌≤◌, Bool, true, false, not, cond, List, [], ◌∷◌, map, refl, ap, ◌∙◌, subst, arith}
use Rattle.std.specs.Prelude.{filter}
use Rattle.std.specs.List.{flat_map, AllByRecursion}
use Rattle.fort_base.specs.declared.refusal.Place.{Place}
use Rattle.fort_core.specs.declared.program.CoreShape.{CoreShape}
use Rattle.fort_member.specs.declared.entries.Entry.{Entry}
use Rattle.fort_member.specs.Sets.{Key, key_of, same_key, belongs, member_of, keys_of, set_of, sets_of}
use Rattle.fort_member.proofs.SetLaws.{key_told}
use Rattle.fort_form_typed.specs.declared.component.TypedBody.{TypedBody}
use Rattle.fort_elab_law_written.specs.Matching.{place_of, places_of, PlacesOnce, MatchesBy, EachMatches, AllMatch}
use Rattle.fort_elab_law_matched.proofs.Places.{one, times, times_append, places_once}

-- ---- keys

-- how many keys of a list are a key
abbrev like : Key → List Key → ℕ
like k [] = 0
like k (l ∷ ks) = one (same_key l k) + like k ks

less_step : (k l : Key) (fs ks : List Key) (b : Bool) → like k fs ≤ like k ks
    → like k (cond b (l ∷ fs) fs) ≤ one (same_key l k) + like k ks
less_step k l fs ks true h = omega arith
less_step k l fs ks false h = omega arith

fewer : (k : Key) (test : Key → Bool) (ks : List Key) → like k (filter test ks) ≤ like k ks
fewer k test [] = omega arith
fewer k test (l ∷ ks) = less_step k l (filter test ks) ks (test l) (fewer k test ks)

-- the keys that aren't this one
abbrev others : Key → List Key → List Key
others k ks = filter (λ l. not (same_key l k)) ks

none_step : (k l : Key) (fs : List Key) (b : Bool) → same_key l k ≡ b → like k fs ≡ 0
    → like k (cond (not b) (l ∷ fs) fs) ≡ 0
none_step k l fs true e h = h
none_step k l fs false e h = let s : one (same_key l k) ≡ 0 = ap one e in omega arith

none_like : (k : Key) (ks : List Key) → like k (others k ks) ≡ 0
none_like k [] = refl
none_like k (l ∷ ks) = none_step k l (others k ks) (same_key l k) refl (none_like k ks)

key_step : (k l : Key) (ks : List Key) (b : Bool) → same_key l k ≡ b → like k ks ≤ 1
    → one b + like k (others l ks) ≤ 1
key_step k l ks true e few =
    let none = subst (λ z. like z (others l ks) ≡ 0) (key_told l k e) (none_like l ks)
    in omega arith
key_step k l ks false e few = let f = fewer k (λ x. not (same_key x l)) ks in omega arith

-- Each key of declarations stands among their keys once.
keys_once : (k : Key) (es : List Entry) → like k (keys_of es) ≤ 1
keys_once k [] = omega arith
keys_once k (e ∷ es) =
    key_step k (key_of e) (keys_of es) (same_key (key_of e) k) refl (keys_once k es)

-- ---- places

-- the place of a declaration with a body
abbrev pub entry_places : Entry → List Place
entry_places e = place_of e.member

module _ (p : Place) where
  abbrev here : Entry → ℕ
  here e = times p (entry_places e)

  -- in the set of a key
  abbrev in_set : Key → List Entry → ℕ
  in_set k es = times p (flat_map place_of (map member_of (filter (belongs k) es)))

  abbrev in_sets : List Key → List Entry → ℕ
  in_sets [] es = 0
  in_sets (k ∷ ks) es = in_set k es + in_sets ks es

  are_sums : (ks : List Key) (es : List Entry)
      → times p (places_of (map (set_of es) ks)) ≡ in_sets ks es
  are_sums [] es = refl
  are_sums (k ∷ ks) es =
      times_append p (flat_map place_of (map member_of (filter (belongs k) es)))
      (places_of (map (set_of es) ks)) ∙ ap (λ n. in_set k es + n) (are_sums ks es)

  set_step : (e : Entry) (fs : List Entry) (b : Bool)
      → times p (flat_map place_of (map member_of (cond b (e ∷ fs) fs)))
      ≡ cond b (here e) 0 + times p (flat_map place_of (map member_of fs))
  set_step e fs true = times_append p (entry_places e) (flat_map place_of (map member_of fs))
  set_step e fs false = omega arith

  -- of a declaration, in the sets that it belongs to
  abbrev fits : List Key → Entry → ℕ
  fits [] e = 0
  fits (k ∷ ks) e = cond (belongs k e) (here e) 0 + fits ks e

  sets_step : (ks : List Key) (e : Entry) (es : List Entry)
      → in_sets ks (e ∷ es) ≡ fits ks e + in_sets ks es
  sets_step [] e es = omega arith
  sets_step (k ∷ ks) e es =
      let a = set_step e (filter (belongs k) es) (belongs k e) in let r = sets_step ks e es
      in omega arith

  no_step : (n rest much : ℕ) (b : Bool) → (n ≡ 0 → rest ≡ 0) → one b + n ≡ 0
      → cond b much 0 + rest ≡ 0
  no_step n rest much true h e = absurd (omega (arith, e))
  no_step n rest much false h e = let r = h (omega (arith, e)) in omega arith

  no_fits : (ks : List Key) (e : Entry) → like (key_of e) ks ≡ 0 → fits ks e ≡ 0
  no_fits [] e h = refl
  no_fits (k ∷ ks) e h =
      no_step (like (key_of e) ks) (fits ks e) (here e) (belongs k e) (no_fits ks e) h

  one_step : (n rest much : ℕ) (b : Bool) → (n ≡ 0 → rest ≡ 0) → (n ≤ 1 → rest ≤ much)
      → one b + n ≤ 1 → cond b much 0 + rest ≤ much
  one_step n rest much true h g e = let r = h (omega (arith, e)) in omega arith
  one_step n rest much false h g e = let r = g (omega (arith, e)) in omega arith

  one_fits : (ks : List Key) (e : Entry) → like (key_of e) ks ≤ 1 → fits ks e ≤ here e
  one_fits [] e h = omega arith
  one_fits (k ∷ ks) e h =
      one_step (like (key_of e) ks) (fits ks e) (here e) (belongs k e) (no_fits ks e)
      (one_fits ks e) h

  none_in : (ks : List Key) → in_sets ks [] ≡ 0
  none_in [] = refl
  none_in (k ∷ ks) = let r = none_in ks in omega arith

  in_sets_once : (ks : List Key) (es : List Entry) → ((k : Key) → like k ks ≤ 1)
      → in_sets ks es ≤ times p (flat_map entry_places es)
  in_sets_once ks [] once = let r = none_in ks in omega arith
  in_sets_once ks (e ∷ es) once =
      let a = sets_step ks e es in let b = one_fits ks e (once (key_of e))
      in let r = in_sets_once ks es once in
      let s = times_append p (entry_places e) (flat_map entry_places es) in omega arith

-- Where the places of all declarations are each that of one, so they are set by set.
pub sets_once : (es : List Entry) → ((p : Place) → times p (flat_map entry_places es) ≤ 1)
    → PlacesOnce (places_of (sets_of es))
sets_once es few =
    places_once (places_of (sets_of es)) (λ p. let a = are_sums p (keys_of es) es
    in let b = in_sets_once p (keys_of es) es (λ k. keys_once k es) in let f = few p
    in omega arith)

-- ---- what each declaration has

module _ (list : List CoreShape) (bs : List TypedBody) where
  abbrev pub IsMatched : Entry → Type 0
  IsMatched e = MatchesBy e.member.kind e.member.place e.member.parameters list bs

  each_step : (e : Entry) (fs : List Entry) (b : Bool) → IsMatched e
      → EachMatches list bs (map member_of fs)
      → EachMatches list bs (map member_of (cond b (e ∷ fs) fs))
  each_step e fs true h rest = (h, rest)
  each_step e fs false h rest = rest

  each_of : (k : Key) (es : List Entry) → AllByRecursion IsMatched es
      → EachMatches list bs (map member_of (filter (belongs k) es))
  each_of k [] h = tt
  each_of k (e ∷ es) h = each_step e (filter (belongs k) es) (belongs k e) h.0 (each_of k es h.1)

  -- What all declarations have is so in each set.
  pub all_of : (ks : List Key) (es : List Entry) → AllByRecursion IsMatched es
      → AllMatch list bs (map (set_of es) ks)
  all_of [] es h = tt
  all_of (k ∷ ks) es h = (each_of k es h, all_of ks es h)
