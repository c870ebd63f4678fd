-- From what was read of a token list to what is answered.
use Rattle.std.proofs.Common.{◌≡◌, ℕ, ◌+◌, ◌-◌, ◌≤◌, List, [], ◌∷◌, ◌++◌, length, take, get_or, Option, Some, Err, refl, sym, ap, subst, ◌∙◌, arith}
use Rattle.std.specs.Prelude.{◌≢◌}
use Rattle.std.proofs.Math.Seq.{take-length}
use Rattle.std.proofs.lemmas.List.{take_more}
use Rattle.fort_base.specs.declared.rules.TheConstants.{SYNTAX}
use Rattle.fort_base.specs.declared.refusal.Place.{Place}
use Rattle.fort_base.specs.declared.refusal.CheckFault.{CheckFault}
use Rattle.fort_base.specs.declared.refusal.CheckFault.TheVariants as a_fault
use Rattle.fort_lex_token.specs.declared.token.Token.{Token}
use Rattle.fort_lex_token.specs.declared.token.Tokens.{Tokens}
use Rattle.fort_tree.specs.declared.declarations.Component.{Component}
use Rattle.fort_tree.specs.Component.{HasTree}
use Rattle.fort_tree.specs.Openers.{AllShallow}
use Rattle.fort_tree.specs.Tokens.{Spellings}
use Rattle.fort_parse_reading.specs.declared.fault.Fault.TheVariants as because
use Rattle.fort_parse_reading.specs.Parser.{Row, Outcome, Read, Failed, next_of}
use Rattle.fort_parse_declarations.specs.Declarations.{whole}
use Rattle.fort_syntax.specs.Answer.{HasNone, IsFault, Breaks, Syntax, Reading, Answers, last_token, fault_place}
use Rattle.fort_syntax.proofs.Theorem.{found, has_none, fault_at}

-- ---- the last of some tokens

ends_last : (front : List Token) (t : Token) → last_token (front ++ t ∷ []) ≡ Some t
ends_last [] t = refl
ends_last (u ∷ []) t = refl
ends_last (u ∷ v ∷ front) t = ends_last (v ∷ front) t

pub last_at : (ts : List Token) (d : Token) → 1 ≤ length ts
    → last_token ts ≡ Some (get_or ts (length ts - 1) d)
last_at ts d some =
    let at : length ts - 1 + 1 ≡ length ts = omega arith in
    let whole : ts ≡ take (length ts - 1) ts ++ get_or ts (length ts - 1) d ∷ [] =
    sym (take-length ts)
    ∙ (ap (λ n. take n ts) (sym at) ∙ take_more ts (length ts - 1) d (omega arith)) in
    ap last_token whole ∙ ends_last (take (length ts - 1) ts) (get_or ts (length ts - 1) d)

-- ---- what was read of the tokens with their names and texts

of_tokens : (tokens : Tokens) (names : Spellings) (texts : List (List ℕ)) (cursor : Row) (n : ℕ)
    (o : Outcome Component) → names ≡ tokens.names → texts ≡ tokens.texts
    → cursor ≡ tokens.list → (whole names n texts).run cursor ≡ o
    → (whole tokens.names n tokens.texts).run tokens.list ≡ o
of_tokens tokens names texts cursor n o e f g h =
    let one = subst (λ (ts : Row). (whole names n texts).run ts ≡ o) g h in
    let two = subst (λ (u : List (List ℕ)). (whole names n u).run tokens.list ≡ o) f one in
    subst (λ (m : Spellings). (whole m n tokens.texts).run tokens.list ≡ o) e two

pub read_whole : (tokens : Tokens) (names : Spellings) (texts : List (List ℕ)) (cursor : Row)
    (n : ℕ) (x : Component) (new : Row) → names ≡ tokens.names
    → texts ≡ tokens.texts → cursor ≡ tokens.list → (whole names n texts).run cursor ≡ Read x new
    → HasTree tokens x × ((other : Component) → HasTree tokens other → other ≡ x)
read_whole tokens names texts cursor n x new e f g h =
    found tokens.names n tokens.texts tokens.list x new
    (of_tokens tokens names texts cursor n (Read x new) e f g h)

pub failed_whole : (tokens : Tokens) (names : Spellings) (texts : List (List ℕ)) (cursor : Row)
    (n : ℕ) (new list : Row) (next : Option Token) (place : Place)
    → names ≡ tokens.names → texts ≡ tokens.texts → cursor ≡ tokens.list → list ≡ tokens.list
    → next ≡ next_of new → place ≡ fault_place list next
    → (whole names n texts).run cursor ≡ Failed because.Syntax new
    → (SYNTAX.0 ≡ SYNTAX.0) × HasNone tokens × IsFault tokens place
failed_whole tokens names texts cursor n new list next place e f g l m p h =
    let is = of_tokens tokens names texts cursor n (Failed because.Syntax new) e f g h in
    let at : place ≡ fault_place tokens.list (next_of new) =
    p ∙ (ap (λ (x : Row). fault_place x next) l ∙ ap (fault_place tokens.list) m) in (
      refl,
      has_none tokens.names n tokens.texts tokens.list new is,
      subst (IsFault tokens) (sym at)
          (fault_at tokens.names n tokens.texts tokens.list new is),
    )

pub not_memory : because.Syntax ≢ because.Memory
not_memory e = absurd cc

-- ---- what is refused

pub refused : (tokens : Tokens) (fault : CheckFault) → AllShallow tokens.list
    → Reading tokens (Err fault) → Answers tokens (Err fault)
refused tokens (a_fault.Refused rule at) shallow h =
    subst (λ n. Breaks tokens n at) (sym h.0) (Syntax shallow h.1 h.2)
refused tokens a_fault.Memory shallow h = tt
