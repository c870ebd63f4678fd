-- A run of two elements or more, the first of which is no postfix, answers exactly where its
-- elements do.
use Rattle.std.proofs.Common.{◌≡◌, ◌⊎◌, inl, inr, false, List, ◌∷◌, map, Option, subst}
use Rattle.fort_base.specs.declared.refusal.Place.{Place}
use Rattle.fort_scope.specs.declared.binding.Binding.{Binding}
use Rattle.fort_form.specs.declared.form.Form.{Form, out-Form}
use Rattle.fort_form.specs.declared.form.Form.TheOpen.{Form-F}
use Rattle.fort_typing_known.specs.declared.fault.Fault.{Fault}
use Rattle.fort_typing_known.specs.Known.{Knows}
use Rattle.fort_typing_rules.specs.declared.part.Part.{Part}
use Rattle.fort_typing_rules.specs.Calls.{Calls}
use Rattle.fort_typing_rules.specs.Elements.{RunBreaks}
use Rattle.fort_typing_rules.specs.Typing as rule
use Rattle.fort_typing_rules.specs.Breaking as breaking
use Rattle.fort_typing_meaning.specs.declared.frame.Outcome.{Outcome}
use Rattle.fort_typing_meaning.specs.Parts.{opened, elements}
use Rattle.fort_typing_meaning.specs.Joining.{run}
use Rattle.fort_typing_meaning.specs.Judging.{judged}
use Rattle.fort_typing_law_rules.specs.Deciding.{IsAccepted}
use Rattle.fort_typing_law_rules.specs.Written.{AreBound}
use Rattle.fort_typing_law_rules.specs.Typed.{AreTyped}
use Rattle.fort_typing_law_rules.specs.Exact.{IsFirst, FormBreaks, Answers}
use Rattle.fort_typing_law_rules.proofs.Written.{AllWritten}
use Rattle.fort_typing_law_rules.proofs.Answered.{st, at}
use Rattle.fort_typing_law_rules.proofs.Firsts.{both}
use Rattle.fort_typing_law_rules.proofs.Steps.{typed-so, broken-so, of-layer, only-left}
use Rattle.fort_typing_law_rules.proofs.Elements.{EachExact, Elements, all_known, one_unknown, elements-exact}
use Rattle.fort_typing_law_rules.proofs.Becoming.{RunTold, run_becomes, run_broken, run_unknown, unknown-never, run-told}
use Rattle.fort_typing_law_rules.proofs.Asked.{parts-known, asked-fit, asked-begins, one-asked, asked-unknown}

module _ (k : Knows) (A : IsAccepted k) (bs : List Binding) (B : AreBound k bs) (e : Form)
    (found : Option Fault) (p : Place) (d c : Form) (ds : List Form)
    (is : out-Form e ≡ Form-F.Run p (d ∷ c ∷ ds)) (W : AllWritten k (d ∷ c ∷ ds))
    (X : EachExact k A bs B (d ∷ c ∷ ds)) (plain : rule.postfix_at (out-Form d) ≡ false) where
  abbrev Goal : Type 0
  Goal = Answers k bs e found ((judged k.facts e).answer bs found)

  abbrev Inside : List Part → Fault → Type 0
  Inside ps f = breaking.BreaksParts k bs (d ∷ c ∷ ds) f ⊎ RunBreaks k (Calls k) ps f

  module _ (ps : List Part) (mid : Option Fault) (asked : breaking.AsksParts k bs (d ∷ c ∷ ds) ps)
      (T : AreTyped k ps) (i : IsFirst found (breaking.BreaksParts k bs (d ∷ c ∷ ds)) mid)
      (eq : elements (map (judged k.facts) (d ∷ c ∷ ds)) (st opened bs found)
      ≡ st (record opened { parts = ps }) bs mid) where
    to : (f : Fault) → Inside ps f → FormBreaks k bs e f
    to f (inl b) = inl (breaking.in_run p (d ∷ c ∷ ds) is b)
    to f (inr b) = inl (breaking.no_run p (d ∷ c ∷ ds) ps is asked b)

    from : (f : Fault) → FormBreaks k bs e f → Inside ps f
    from f b = by (only-left k A (of-layer k A bs e f is b))
      where
        by : breaking.BreaksParts k bs (d ∷ c ∷ ds) f
            ⊎ ((qs : List Part) × breaking.AsksParts k bs (d ∷ c ∷ ds) qs
            × RunBreaks k (Calls k) qs f) → Inside ps f
        by (inl x) = inl x
        by (inr (qs, h, x)) =
            inr (subst (λ
            (zs : List Part). RunBreaks k (Calls k) zs f)
            (one-asked k A bs B (d ∷ c ∷ ds) qs ps W X h asked) x)

    so : (o : Outcome) → run k.facts ps mid ≡ o → (judged k.facts e).answer bs found ≡ o
    so o q = at k A e bs found (st (record opened { parts = ps }) bs mid) is eq q

    all : (new : Option Fault) → IsFirst mid (RunBreaks k (Calls k) ps) new
        → IsFirst found (Inside ps) new
    all new j =
        both found mid new (breaking.BreaksParts k bs (d ∷ c ∷ ds)) (RunBreaks k (Calls k) ps) i j

    told : RunTold k A ps mid (run k.facts ps mid)
    told = run-told k A ps mid (
      asked-begins k bs d c ds ps plain asked,
      asked-fit k bs (d ∷ c ∷ ds) ps asked,
      T,
    )

    known-run : rule.HasParts k (Calls k) bs (d ∷ c ∷ ds) ps → Goal
    known-run hs = by told
      where
        by : RunTold k A ps mid (run k.facts ps mid) → Goal
        by (run_becomes t new b j q) =
            typed-so k A bs e found new (Inside ps) _ (all new j) to t
            (rule.run p (d ∷ c ∷ ds) ps is hs b) from (so _ q)
        by (run_broken f new b j q) =
            broken-so k A bs e found new (Inside ps) _ (all new j) to f (inr b) from (so _ q)
        by (run_unknown new u j q) = absurd (parts-known k hs u)

    unknown-run : (f : Fault) → breaking.BreaksParts k bs (d ∷ c ∷ ds) f → Goal
    unknown-run f x = by told
      where
        by : RunTold k A ps mid (run k.facts ps mid) → Goal
        by (run_becomes t new b j q) =
            absurd (unknown-never k A b (asked-unknown k A bs B (d ∷ c ∷ ds) ps W X asked f x))
        by (run_broken g new b j q) =
            broken-so k A bs e found new (Inside ps) _ (all new j) to g (inr b) from (so _ q)
        by (run_unknown new u j q) =
            broken-so k A bs e found new (Inside ps) _ (all new j) to f (inl x) from (so _ q)

  pub run-exact : Goal
  run-exact = by (elements-exact k A bs B (d ∷ c ∷ ds) opened found W X)
    where
      by : Elements k A bs B (d ∷ c ∷ ds) opened found
          (elements (map (judged k.facts) (d ∷ c ∷ ds)) (st opened bs found)) → Goal
      by (all_known ps mid hs asked T i eq) = known-run ps mid asked T i eq hs
      by (one_unknown f ps mid x asked T i eq) = unknown-run ps mid asked T i eq f x
