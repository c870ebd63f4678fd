-- There is one prelude over names.
use Rattle.std.proofs.Common.{◌≡◌, ℕ, ◌+◌, Bool, true, List, [], ◌∷◌, ◌++◌, map, Some, None, length, refl, sym, ap, subst, arith}
use Rattle.std.specs.Prelude.{◌≢◌}
use Rattle.fort_lex_token.specs.declared.token.Tokens.{Tokens}
use Rattle.fort_tree.specs.declared.spot.Spot.{Spot}
use Rattle.fort_tree.specs.declared.declarations.Component.{Component}
use Rattle.fort_tree.specs.declared.declarations.Declared.{Declared}
use Rattle.fort_tree.specs.Said.{last_semicolon}
use Rattle.fort_tree.specs.Declarations.{said_declared}
use Rattle.fort_tree.specs.Component.{HasTree}
use Rattle.fort_parse_reading.specs.declared.fault.Fault.{Fault}
use Rattle.fort_parse_reading.specs.declared.fault.Fault.TheVariants.{Syntax, TooDeep, Memory}
use Rattle.fort_parse_reading.specs.Parser.{Row, Read, Failed}
use Rattle.fort_parse_declarations.specs.Declarations.{whole}
use Rattle.fort_syntax.proofs.Theorem.{at_most_one, found, has_none}
use Rattle.fort_spawn_prelude.specs.Numbers.{Spelling}
use Rattle.fort_spawn_prelude.specs.Prelude.{IsPrelude, OnePrelude, prelude_tokens, framed, corner}
use Rattle.fort_spawn_prelude.proofs.Read.{is_read, read_ends}

-- a component whose declarations are these alone
abbrev framed_component : List Spelling → List Declared → Component
framed_component names ds = record {
  component = corner;
  name = record { id = record { 0 = 0 }; spot = corner };
  export = None;
  declarations = ds;
  end = corner;
  names = names;
  texts = [];
}

-- the tokens of one whose declarations are the prelude
abbrev framed_row : List Spelling → Bool → Tokens
framed_row names starts =
    record { list = framed (prelude_tokens names starts); names = names; texts = [] }

pub has_tree : (names : List Spelling) (starts : Bool) (ds : List Declared)
    → IsPrelude names starts ds → HasTree (framed_row names starts) (framed_component names ds)
has_tree names starts ds h =
    record { yields = ap framed h.tokens; names = refl; texts = refl; obeys = h.obeys }

pub is_one : OnePrelude
is_one names starts c d h k =
    ap (λ (x : Component). x.declarations)
    (at_most_one (framed_row names starts) (framed_component names c) (framed_component names d)
    (has_tree names starts c h) (has_tree names starts d k))

-- Its last declaration has a `;`.
pub ends : (names : List Spelling) (starts : Bool) (ds : List Declared)
    → IsPrelude names starts ds → (s : Spot) × (last_semicolon (map said_declared ds) ≡ Some s)
ends names starts ds h = let p = is_read names starts in let last = read_ends names starts in
    subst (λ (x : List Declared). (s : Spot) × (last_semicolon (map said_declared x) ≡ Some s))
    (is_one names starts p.0 ds p.1 h) last

-- ---- what was read of these tokens

-- the component's declarations are the prelude
of_tree : (names : List Spelling) (starts : Bool) (c : Component)
    → HasTree (framed_row names starts) c → IsPrelude names starts c.declarations
of_tree names starts c h = let p = is_read names starts in
    subst (IsPrelude names starts)
    (ap (λ (x : Component). x.declarations)
    (at_most_one (framed_row names starts) (framed_component names p.0) c
    (has_tree names starts p.0 p.1) h)) p.1

pub read_is : (names : List Spelling) (starts : Bool) (n : ℕ) (ts : Row) (x : Component) (new : Row)
    → ts ≡ framed (prelude_tokens names starts) → (whole names n []).run ts ≡ Read x new
    → IsPrelude names starts x.declarations
read_is names starts n ts x new e h =
    of_tree names starts x
    (subst (λ (u : Row). HasTree (record { list = u; names = names; texts = [] }) x) e
    (found names n [] ts x new h).0)

-- they are read
pub not_failed : (names : List Spelling) (starts : Bool) (n : ℕ) (ts new : Row)
    → ts ≡ framed (prelude_tokens names starts) → (whole names n []).run ts ≡ Failed Syntax new → ⊥
not_failed names starts n ts new e h = let p = is_read names starts in
    has_none names n [] ts new h (framed_component names p.0)
    (subst (λ (u : Row). HasTree (record { list = u; names = names; texts = [] })
    (framed_component names p.0)) (sym e) (has_tree names starts p.0 p.1))

-- the budget of one more than the tokens suffices
pub not_deep : (names : List Spelling) (n : ℕ) (list ts new : Row) → n ≡ length list + 1
    → ts ≡ list → (whole names n []).run ts ≡ Failed TooDeep new → ⊥
not_deep names n list ts new e f h =
    let le = (whole names n []).deep ts new h in let l = ap length f in omega arith

pub syntax_is_not : Syntax ≢ Memory
syntax_is_not e = absurd cc

pub deep_is_not : TooDeep ≢ Memory
deep_is_not e = absurd cc
