-- A whole token list fails at one place over two tables of names one of which goes on from the
-- other, whatever its texts.
use Rattle.std.proofs.Common.{◌≡◌, ℕ, List, [], ◌∷◌, length, refl, subst}
use Rattle.fort_tree.specs.declared.declarations.Component.{Component}
use Rattle.fort_tree.specs.Tokens.{Spellings}
use Rattle.fort_parse_reading.specs.declared.fault.Fault.{Fault}
use Rattle.fort_parse_reading.specs.Parser.{Row, Outcome, Read, Failed, and_then, next_of}
use Rattle.fort_parse_declarations.specs.Declarations.{component, nothing_after, whole}
use Rattle.fort_syntax.specs.Answer.{over}
use Rattle.fort_syntax.proofs.Agreeing.{GoesOn, AllIn, Agrees, agrees_accept}
use Rattle.fort_syntax.proofs.DeclarationsAgree.{same_export, same_declarations}

-- two readings leave the same, what they read is as said, or they fail alike
data Follows {A : Type 0} (R : A → A → Type 0) : Outcome A → Outcome A → Type 0 where
  both_read : {x y : A} {rest : Row} → R x y → Follows R (Read x rest) (Read y rest)
  both_fail : {e : Fault} {rest : Row} → Follows R (Failed e rest) (Failed e rest)

follows_then : {A B : Type 0} {n : ℕ} (R : B → B → Type 0) (o p : Outcome A)
    (f g : A → Row → Outcome B) → Agrees n o p
    → ((x : A) (rest : Row) → AllIn n rest → Follows R (f x rest) (g x rest))
    → Follows R (and_then o f) (and_then p g)
follows_then R (Read x rest) p f g h k =
    subst (λ q. Follows R (f x rest) (and_then q g)) h.same (k x rest h.left)
follows_then R (Failed e rest) p f g h k =
    subst (λ q. Follows R (Failed e rest) (and_then q g)) h.same both_fail

follows_after : {A B : Type 0} (R : A → A → Type 0) (S : B → B → Type 0) {o p : Outcome A}
    (f g : A → Row → Outcome B) → Follows R o p
    → ((x y : A) (rest : Row) → R x y → Follows S (f x rest) (g y rest))
    → Follows S (and_then o f) (and_then p g)
follows_after R S f g (both_read {x = x} {y = y} {rest = rest} r) k = k x y rest r
follows_after R S f g both_fail k = both_fail

fails_of : {A : Type 0} {R : A → A → Type 0} {o p : Outcome A} (e : Fault) (new : Row)
    → Follows R o p → o ≡ Failed e new → p ≡ Failed e new
fails_of e new (both_read r) h = absurd cc
fails_of e new both_fail h = cc

reads_of : {A : Type 0} {R : A → A → Type 0} {o p : Outcome A} (x : A) (new : Row)
    → Follows R o p → o ≡ Read x new → (y : A) × R x y × (p ≡ Read y new)
reads_of {R = R} x new (both_read {x = a} {y = y} {rest = rest} r) h =
    let e : a ≡ x = cc in let f : rest ≡ new = cc in (y, subst (λ z. R z y) e r, cc)
reads_of x new both_fail h = absurd cc

module _ (names wide : Spellings) (on : GoesOn names wide) (n : ℕ) (texts others : List (List ℕ))
  where
    -- the same component over the wider table, with the other texts
    abbrev Differs : Component → Component → Type 0
    Differs c d = d ≡ over wide others c

    follows_component : (ts : Row) → AllIn (length names) ts
        → Follows Differs ((component names n texts).run ts) ((component wide n others).run ts)
    unfolding component
    follows_component ts all =
        follows_then Differs _ _ _ _ (agrees_accept _ ts all)
        (λ at_component m1 h1. follows_then Differs _ _ _ _ (agrees_accept _ m1 h1) (λ name m2 h2.
        follows_then Differs _ _ _ _ (same_export names wide on n m2 h2)
        (λ exported m3 h3. follows_then Differs _ _ _ _ (same_declarations names wide on n m3 h3)
        (λ list m4 h4.
        follows_then Differs _ _ _ _ (agrees_accept _ m4 h4) (λ end m5 h5. both_read refl)))))

    follows_nothing : (c d : Component) (rest : Row) → Differs c d
        → Follows Differs ((nothing_after names n c (next_of rest)).run rest)
        ((nothing_after wide n d (next_of rest)).run rest)
    follows_nothing c d [] e = both_read e
    follows_nothing c d (t ∷ rest) e = both_fail

    follows_whole : (ts : Row) → AllIn (length names) ts
        → Follows Differs ((whole names n texts).run ts) ((whole wide n others).run ts)
    unfolding whole
    follows_whole ts all =
        follows_after Differs Differs _ _ (follows_component ts all)
        (λ c d rest e. follows_nothing c d rest e)

    pub whole_fails : (ts new : Row) (e : Fault) → AllIn (length names) ts
        → (whole names n texts).run ts ≡ Failed e new → (whole wide n others).run ts ≡ Failed e new
    whole_fails ts new e all h = fails_of e new (follows_whole ts all) h

    pub whole_reads : (ts new : Row) (c : Component) → AllIn (length names) ts
        → (whole names n texts).run ts ≡ Read c new
        → (whole wide n others).run ts ≡ Read (over wide others c) new
    whole_reads ts new c all h =
        let r = reads_of c new (follows_whole ts all) h
        in subst (λ d. (whole wide n others).run ts ≡ Read d new) r.1 r.2
