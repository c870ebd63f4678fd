-- The tokens of a component with a prelude, in their parts.
use Rattle.std.proofs.Common.{◌≡◌, List, [], ◌∷◌, ◌++◌, map, refl, sym, ap, ◌∙◌, append_assoc}
use Rattle.std.proofs.lemmas.List.{map-append}
use Rattle.fort_lex_token.specs.declared.reserved.Reserved.TheVariants as reserved
use Rattle.fort_lex_token.specs.declared.token.Token.{Token}
use Rattle.fort_tree.specs.declared.declarations.Component.{Component}
use Rattle.fort_tree.specs.declared.declarations.Declared.{Declared}
use Rattle.fort_tree.specs.Tokens.{word, named}
use Rattle.fort_tree.specs.Said.{SaidEntry, tokens_of, semicolon_tokens, entries_tokens}
use Rattle.fort_tree.specs.Declarations.{said_declared}
use Rattle.fort_tree.specs.Component.{export_tokens, yield}
use Rattle.fort_spawn.specs.Rewritten.{renamed, with_prelude}

-- the tokens of declarations
abbrev pub said_by : List Declared → List Token
said_by ds = entries_tokens (map said_declared ds)

-- the tokens of a component before its declarations, and behind them
abbrev pub before : Component → List Token
before c = word reserved.Component c.component ∷ named c.name ∷ export_tokens c.export

abbrev pub after : Component → List Token
after c = word reserved.End c.end ∷ []

pub entries_append : (xs ys : List SaidEntry)
    → entries_tokens (xs ++ ys) ≡ entries_tokens xs ++ entries_tokens ys
entries_append [] ys = refl
entries_append (e ∷ xs) ys =
    ap (λ z. tokens_of e.item ++ (semicolon_tokens e.semicolon ++ z)) (entries_append xs ys)
    ∙ (ap (λ z. tokens_of e.item ++ z)
    (sym (append_assoc (semicolon_tokens e.semicolon) (entries_tokens xs) (entries_tokens ys)))
    ∙ sym (append_assoc (tokens_of e.item) (semicolon_tokens e.semicolon ++ entries_tokens xs)
    (entries_tokens ys)))

pub said_append : (xs ys : List Declared) → said_by (xs ++ ys) ≡ said_by xs ++ said_by ys
said_append xs ys =
    ap entries_tokens (map-append said_declared xs ys)
    ∙ entries_append (map said_declared xs) (map said_declared ys)

pub yield_parts : (c : Component) (prelude : List Declared)
    → yield (with_prelude c prelude)
    ≡ before c ++ (said_by prelude ++ (said_by (renamed c) ++ after c))
yield_parts c prelude =
    ap (λ z. before c ++ (z ++ after c)) (said_append prelude (renamed c))
    ∙ ap (λ z. before c ++ z) (append_assoc (said_by prelude) (said_by (renamed c)) (after c))
