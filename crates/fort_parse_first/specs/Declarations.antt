-- The chapter "Grammar": what declarations and members begin with, and where a method has no body.
use Rattle.std.specs.Prelude.{Bool, true, false, not, ◌&&◌, Option}
use Rattle.fort_lex_token.specs.declared.token.Kind.{Kind}
use Rattle.fort_lex_token.specs.declared.token.Kind.TheVariants as kind
use Rattle.fort_lex_token.specs.declared.token.Token.{Token}
use Rattle.fort_lex_token.specs.declared.reserved.Reserved.{Reserved}
use Rattle.fort_lex_token.specs.declared.reserved.Reserved.TheVariants as reserved
use Rattle.fort_parse_reading.specs.Words.{is_eq, sees}
use Rattle.fort_parse_first.specs.Beginnings.{begins_apart_of}

-- whether a reserved word begins a member of a trait
abbrev pub word_begins_trait_member : Reserved → Bool
word_begins_trait_member reserved.Opr = true
word_begins_trait_member _ = false

-- whether a token begins a member of a trait
unfoldable pub begins_trait_member : Kind → Bool
begins_trait_member (kind.Name v) = true
begins_trait_member (kind.Word w) = word_begins_trait_member w
begins_trait_member _ = false

-- whether a reserved word begins a member of an object
abbrev pub word_begins_object_member : Reserved → Bool
word_begins_object_member reserved.Opr = true
word_begins_object_member reserved.Var = true
word_begins_object_member _ = false

-- whether a token begins a member of an object
unfoldable pub begins_object_member : Kind → Bool
begins_object_member (kind.Name v) = true
begins_object_member (kind.Word w) = word_begins_object_member w
begins_object_member _ = false

-- whether a reserved word begins a declaration
abbrev pub word_begins_declaration : Reserved → Bool
word_begins_declaration reserved.Opr = true
word_begins_declaration reserved.Var = true
word_begins_declaration reserved.Trait = true
word_begins_declaration reserved.Object = true
word_begins_declaration _ = false

-- whether a token begins a declaration
unfoldable pub begins_declaration_kind : Kind → Bool
begins_declaration_kind (kind.Name v) = true
begins_declaration_kind (kind.Word w) = word_begins_declaration w
begins_declaration_kind _ = false

-- whether the next token begins a further member of a trait, of an object, or a further declaration
unfoldable pub begins_trait_entry : Bool → Option Token → Bool
begins_trait_entry ready next = begins_apart_of begins_trait_member ready next

unfoldable pub begins_object_entry : Bool → Option Token → Bool
begins_object_entry ready next = begins_apart_of begins_object_member ready next

unfoldable pub begins_declared : Bool → Option Token → Bool
begins_declared ready next = begins_apart_of begins_declaration_kind ready next

-- whether a method ends before this token, without a body, where the body may be left out or not
abbrev pub ends_without_body : Bool → Option Token → Bool
ends_without_body optional next = optional && not (sees is_eq next)
