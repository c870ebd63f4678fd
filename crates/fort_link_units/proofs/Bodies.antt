-- What follows the heads of a component: its declarations and its `end`, which begin with no head.
use Rattle.std.proofs.Common.{◌≡◌, true, false, Bool, List, [], ◌∷◌, Option, Some, None, refl}
use Rattle.fort_lex_token.specs.declared.token.Kind.{Kind}
use Rattle.fort_lex_token.specs.declared.token.Kind.TheVariants as kind
use Rattle.fort_lex_token.specs.declared.token.Token.{Token}
use Rattle.fort_lex_token.specs.declared.reserved.Reserved.{Reserved}
use Rattle.fort_lex_token.specs.declared.reserved.Reserved.TheVariants as reserved
use Rattle.fort_tree.specs.declared.spot.Spot.{Spot}
use Rattle.fort_tree.specs.declared.spot.Name.{Name}
use Rattle.fort_tree.specs.declared.declarations.Component.{Component}
use Rattle.fort_tree.specs.declared.declarations.Declaration.{Declaration}
use Rattle.fort_tree.specs.declared.declarations.Declaration.TheVariants as declaration
use Rattle.fort_tree.specs.declared.declarations.Declared.{Declared}
use Rattle.fort_tree.specs.declared.declarations.FunctionName.{FunctionName}
use Rattle.fort_tree.specs.declared.declarations.FunctionName.TheVariants as function_name
use Rattle.fort_tree.specs.declared.declarations.Variable.{Variable}
use Rattle.fort_tree.specs.Tokens.{Spellings, word, named}
use Rattle.fort_tree.specs.Said.{Allowed}
use Rattle.fort_tree.specs.Blocks.{after_var}
use Rattle.fort_tree.specs.Yield.{said_variable}
use Rattle.fort_tree.specs.Declarations.{name_first, said_declaration}
use Rattle.fort_tree.proofs.CasesBlocks.{cases_variable}
use Rattle.fort_tree.proofs.SaysBlocks.{says_variable}
use Rattle.fort_parse_reading.specs.Parser.{next_of}
use Rattle.fort_parse_reading.specs.Words.{is_word, same_word, sees}
use Rattle.fort_link_units.specs.Said.{body_tokens}

-- whether a token is no `import` and no `export`
abbrev word_is_head : Reserved → Bool
word_is_head reserved.Import = true
word_is_head reserved.Export = true
word_is_head _ = false

abbrev is_head : Kind → Bool
is_head (kind.Word w) = word_is_head w
is_head _ = false

named_is_none : (f : FunctionName) → is_head (name_first f).kind ≡ false
named_is_none (function_name.Name name) = refl
named_is_none (function_name.Operator opr sign) = refl
named_is_none (function_name.Juxtaposition opr name) = refl

var_is_none : (var : Option Spot) (x : Name) (m : List Token) (f : Spellings → Allowed → Bool)
    → is_head (after_var var (record { first = named x; more = m; obeys = f })).first.kind ≡ false
var_is_none None x m f = refl
var_is_none (Some s) x m f = refl

variable_is_none : (v : Variable) → is_head (said_variable v).first.kind ≡ false
variable_is_none =
    cases_variable (λ v. is_head (said_variable v).first.kind ≡ false)
    (λ var name c ty sign value. rw (says_variable var name c ty sign value)
    (var_is_none var name _ _))

declaration_is_none : (d : Declaration) → is_head (said_declaration d).first.kind ≡ false
declaration_is_none (declaration.Variable v) = variable_is_none v
declaration_is_none (declaration.Function f) = named_is_none f.name
declaration_is_none (declaration.Trait t) = refl
declaration_is_none (declaration.Object o) = refl

no_import : (k : Kind) → is_head k ≡ false → is_word reserved.Import k ≡ false
unfolding is_word same_word
no_import (kind.Word reserved.Import) e = absurd cc
no_import (kind.Word _) e = refl
no_import (kind.Name v) e = refl
no_import (kind.Number v) e = refl
no_import (kind.Text v) e = refl
no_import (kind.Op v) e = refl
no_import (kind.Mark v) e = refl

no_export : (k : Kind) → is_head k ≡ false → is_word reserved.Export k ≡ false
unfolding is_word same_word
no_export (kind.Word reserved.Export) e = absurd cc
no_export (kind.Word _) e = refl
no_export (kind.Name v) e = refl
no_export (kind.Number v) e = refl
no_export (kind.Text v) e = refl
no_export (kind.Op v) e = refl
no_export (kind.Mark v) e = refl

-- the first token of what follows the heads
body_first : (ds : List Declared) (c : Component) → c.declarations ≡ ds
    → (t : Token) × (next_of (body_tokens c) ≡ Some t) × (is_head t.kind ≡ false)
body_first [] c e = (word reserved.End c.end, rw e refl, refl)
body_first (d ∷ ds) c e = (
  (said_declaration d.declaration).first,
  rw e refl,
  declaration_is_none d.declaration,
)

pub body_no_import : (c : Component)
    → sees (is_word reserved.Import) (next_of (body_tokens c)) ≡ false
unfolding sees
body_no_import c = let h = body_first c.declarations c refl in rw h.1 (no_import h.0.kind h.2)

pub body_no_export : (c : Component)
    → sees (is_word reserved.Export) (next_of (body_tokens c)) ≡ false
unfolding sees
body_no_export c = let h = body_first c.declarations c refl in rw h.1 (no_export h.0.kind h.2)
