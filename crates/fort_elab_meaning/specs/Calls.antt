-- "Forms" of docs/TRANSLATION.md, calls and chains.
use Rattle.std.specs.Prelude.{ℕ, Bool, true, false, List, [], ◌∷◌, ◌++◌, map}
use Rattle.fort_base.specs.declared.ids.SetId.{SetId}
use Rattle.fort_core.specs.declared.term.Term.{Term, Variable, Call, Operator}
use Rattle.fort_form_typed.specs.declared.typed_form.Chosen.{Chosen}
use Rattle.fort_elab_meaning.specs.Making.{Maker, still, many, letting}
use Rattle.fort_elab_meaning.specs.Parts.{Given, Part, maker_of}
use Rattle.fort_elab_meaning.specs.Values.{unit_term}

-- An argument, with a call of `widen` round it where it is widened.
abbrev pub argument : Given → Bool → Term → Term
argument g true t = Call g.widen (t ∷ [])
argument g false t = t

-- The arguments of a call.
abbrev pub widened : Given → List Bool → List Term → List Term
widened g (w ∷ ws) (t ∷ ts) = argument g w t ∷ widened g ws ts
widened g [] ts = ts
widened g ws [] = []

-- A call of a set, and of an operator's.
abbrev pub call : Given → Chosen → List Term → Term
call g c ts = Call c.set (widened g c.widened ts)

abbrev pub operation : Given → Chosen → List Term → Term
operation g c ts = Operator c.set (widened g c.widened ts)

-- A call of an operator of two terms.
abbrev pub operated : Given → Chosen → Term → Term → Term
operated g c a b = operation g c (a ∷ b ∷ [])

-- Each comparison of a chain is of a variable and the next one.
abbrev pub comparisons : Given → List Chosen → List ℕ → List Term
comparisons g (c ∷ cs) (m ∷ n ∷ ns) =
    operated g c (Variable m) (Variable n) ∷ comparisons g cs (n ∷ ns)
comparisons g _ _ = []

-- Comparisons are joined to the right, so that all of them come before the first join: `c1 AND (c2
-- AND c3)`.
abbrev pub joined : SetId → List Term → Term
joined set [] = unit_term
joined set (t ∷ []) = t
joined set (t ∷ u ∷ ts) = Operator set (t ∷ joined set (u ∷ ts) ∷ [])

-- Each side of a chain is a local, from left to right; then come the comparisons of these
-- variables.
abbrev pub sides : Given → SetId → List Chosen → List Part → List ℕ → Maker
sides g set cs [] ns = still (joined set (comparisons g cs ns))
sides g set cs (p ∷ ps) ns = letting p.ty p.maker (λ n. sides g set cs ps (ns ++ n ∷ []))

-- A chain of one relation is a call of its operator; one of two or more has a local for each side.
abbrev pub chain : Given → SetId → List Chosen → List Part → Maker
chain g set (c ∷ []) ps = many (operation g c) (map maker_of ps)
chain g set cs ps = sides g set cs ps []
