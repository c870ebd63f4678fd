-- How deep tokens stand in openers is the same with the heads of a component and without them.
use Rattle.std.proofs.Common.{◌≡◌, ℕ, ◌≤◌, false, List, [], ◌∷◌, ◌++◌, append_assoc, refl, sym, ap, ◌∙◌, subst, arith}
use Rattle.std.specs.List.{flat_map}
use Rattle.fort_base.specs.declared.refusal.Place.{Place}
use Rattle.fort_lex_token.specs.declared.token.Token.{Token}
use Rattle.fort_lex_token.specs.declared.reserved.Reserved.TheVariants as reserved
use Rattle.fort_tree.specs.declared.spot.Name.{Name}
use Rattle.fort_tree.specs.declared.declarations.Export.{Export}
use Rattle.fort_tree.specs.Tokens.{word, named}
use Rattle.fort_tree.specs.Openers.{Turn, Opens, Closes, Stays, AllShallow, FirstDeep, turn, open_behind, ends_with_also, open_round, openers_round}
use Rattle.fort_parse_reading.specs.Parser.{Row}
use Rattle.fort_link_units.specs.declared.unit.Import.{Import}
use Rattle.fort_link_units.specs.declared.heads.Heads.{Heads}
use Rattle.fort_link_units.specs.Said.{export_tokens, heads_tokens}
use Rattle.fort_link_units.proofs.HeadsRead.{front_tokens}

-- ---- heads open nothing

opens_exports : (depth : ℕ) (es : List Export) (f : Row)
    → open_behind false depth (flat_map export_tokens es ++ f) ≡ open_behind false depth f
opens_exports depth [] f = refl
opens_exports depth (e ∷ es) f = opens_exports depth es f

opens_heads : (depth : ℕ) (is : List Import) (es : List Export) (f : Row)
    → open_behind false depth (heads_tokens is es ++ f) ≡ open_behind false depth f
opens_heads depth [] es f = opens_exports depth es f
opens_heads depth (i ∷ is) es f = opens_heads depth is es f

-- ---- none of them ends with `also`

ends_after : (xs : Row) (t : Token) (f : Row)
    → ends_with_also (xs ++ t ∷ f) ≡ ends_with_also (t ∷ f)
ends_after [] t f = refl
ends_after (x ∷ []) t f = refl
ends_after (x ∷ y ∷ xs) t f = ends_after (y ∷ xs) t f

exports_end : (n : Name) (es : List Export)
    → ends_with_also (named n ∷ flat_map export_tokens es) ≡ false
exports_end n [] = refl
exports_end n (e ∷ es) = exports_end e.name es

heads_end : (n : Name) (is : List Import) (es : List Export)
    → ends_with_also (named n ∷ heads_tokens is es) ≡ false
heads_end n [] es = exports_end n es
heads_end n (i ∷ is) es = heads_end i.name is es

module _ (h : Heads) where
  -- the first two tokens of a component without its heads
  abbrev begun : Row → Row
  begun f = word reserved.Component h.component ∷ named h.name ∷ f

  nil : (xs : Row) → xs ++ [] ≡ xs
  nil [] = refl
  nil (x ∷ xs) = ap (λ (u : Row). x ∷ u) (nil xs)

  same_end : (f : Row) → ends_with_also (front_tokens h ++ f) ≡ ends_with_also (begun f)
  same_end [] =
      ap (λ (u : Row). ends_with_also (begun u)) (nil (heads_tokens h.imports h.exports))
      ∙ heads_end h.name h.imports h.exports
  same_end (t ∷ f) = ends_after (front_tokens h) t f

  same_depth : (f : Row)
      → open_behind false 0 (front_tokens h ++ f) ≡ open_behind false 0 (begun f)
  same_depth f = opens_heads 1 h.imports h.exports f

  same_round : (f : Row) (t : Token)
      → openers_round (front_tokens h ++ f) t ≡ openers_round (begun f) t
  same_round f t = rw (same_end f, same_depth f) refl

  round_low : (does : Turn) (depth : ℕ) → depth ≤ 1 → open_round does depth ≤ 100
  round_low Opens depth h = omega arith
  round_low Closes depth h = omega arith
  round_low Stays depth h = omega arith

  -- where no token of a component stands too deep, none does without its heads
  shallow_at : (rest : Row) → AllShallow (front_tokens h ++ rest) → (front : Row) (t : Token)
      (more : Row) → begun rest ≡ front ++ t ∷ more → openers_round front t ≤ 100
  shallow_at rest shallow [] t more e = round_low (turn false t.kind) 0 (omega arith)
  shallow_at rest shallow (a ∷ []) t more e =
      let is : word reserved.Component h.component ≡ a = cc in
      subst (λ (u : Token). openers_round (u ∷ []) t ≤ 100) is
      (round_low (turn false t.kind) 1 (omega arith))
  shallow_at rest shallow (a ∷ b ∷ front) t more e =
      let first : word reserved.Component h.component ≡ a = cc in
      let second : named h.name ≡ b = cc in
      let others : rest ≡ front ++ t ∷ more = cc in
      let whole : front_tokens h ++ rest ≡ (front_tokens h ++ front) ++ t ∷ more =
      ap (λ (u : Row). front_tokens h ++ u) others
      ∙ sym (append_assoc (front_tokens h) front (t ∷ more)) in
      let low : openers_round (begun front) t ≤ 100 =
      subst (λ n. n ≤ 100) (same_round front t) (shallow (front_tokens h ++ front) t more whole) in
      subst (λ (u : Token). openers_round (u ∷ b ∷ front) t ≤ 100) first
      (subst (λ (u : Token). openers_round (word reserved.Component h.component ∷ u ∷ front) t
      ≤ 100) second low)

  pub not_deep : (rest : Row) (at : Place) → AllShallow (front_tokens h ++ rest)
      → FirstDeep (begun rest) at → ⊥
  not_deep rest at shallow d =
      let low = shallow_at rest shallow d.front d.token d.rest d.whole in let deep = d.deep in
      omega arith
