-- The productions of APIs read alike over two tables of names one of which goes on from the other.
use Rattle.std.proofs.Common.{ℕ, Bool, true, [], ◌∷◌, length}
use Rattle.fort_tree.specs.declared.spot.Name.{Name}
use Rattle.fort_tree.specs.Tokens.{Spellings}
use Rattle.fort_parse.specs.Blocks.{is_ended}
use Rattle.fort_parse_reading.specs.Parser.{Row, next_of}
use Rattle.fort_syntax.proofs.Agreeing.{GoesOn, AllIn, Agrees, Alike, agrees_read, agrees_failed, agrees_accept, agrees_then, agrees_if, agrees_many}
use Rattle.fort_syntax.proofs.TypesAgree.{same_type_tree, same_maybe_parameters}
use Rattle.fort_link_units.specs.declared.unit.Api.{Api}
use Rattle.fort_link_units.specs.declared.unit.ApiDeclared.{ApiDeclared}
use Rattle.fort_link_units.specs.Apis.{begins_declared, semicolon, variable, head_rest, head, named_declaration, trait_declaration, object_declaration, declaration_at, declared, declarations, api, nothing_after, whole}

module _ (names wide : Spellings) (on : GoesOn names wide) (n : ℕ) where
  same_semicolon : (ts : Row)
      → Alike names ts ((semicolon names n).run ts) ((semicolon wide n).run ts)
  unfolding semicolon
  same_semicolon ts all =
      agrees_if _ _ _ _ _ (agrees_then _ _ _ _ (agrees_accept _ ts all) (λ s m1 h1. agrees_read h1))
      (agrees_read all)

  same_variable : (name : Name) (ts : Row)
      → Alike names ts ((variable names n name).run ts) ((variable wide n name).run ts)
  unfolding variable
  same_variable name ts all =
      agrees_then _ _ _ _ (agrees_accept _ ts all)
      (λ colon m1 h1. agrees_then _ _ _ _ (same_type_tree names wide on n m1 h1)
      (λ ty m2 h2. agrees_read h2))

  same_head : (name : Name) (ts : Row)
      → Alike names ts ((head names n name).run ts) ((head wide n name).run ts)
  unfolding head head_rest
  same_head name ts all =
      agrees_then _ _ _ _ (agrees_accept _ ts all)
      (λ left m1 h1. agrees_then _ _ _ _ (same_maybe_parameters names wide on n m1 h1)
      (λ parameters m2 h2. agrees_then _ _ _ _ (agrees_accept _ m2 h2)
      (λ right m3 h3. agrees_then _ _ _ _ (agrees_accept _ m3 h3)
      (λ colon m4 h4. agrees_then _ _ _ _ (same_type_tree names wide on n m4 h4)
      (λ result m5 h5. agrees_read h5)))))

  same_named : (name : Name) (ts : Row)
      → Alike names ts ((named_declaration names n name).run ts)
      ((named_declaration wide n name).run ts)
  unfolding named_declaration
  same_named name ts all = agrees_if _ _ _ _ _ (same_head name ts all) (same_variable name ts all)

  same_trait : (ts : Row)
      → Alike names ts ((trait_declaration names n).parser.run ts)
      ((trait_declaration wide n).parser.run ts)
  unfolding trait_declaration
  same_trait ts all =
      agrees_then _ _ _ _ (agrees_accept _ ts all)
      (λ s m1 h1. agrees_then _ _ _ _ (agrees_accept _ m1 h1) (λ name m2 h2. agrees_read h2))

  same_object : (ts : Row)
      → Alike names ts ((object_declaration names n).parser.run ts)
      ((object_declaration wide n).parser.run ts)
  unfolding object_declaration
  same_object ts all =
      agrees_then _ _ _ _ (agrees_accept _ ts all)
      (λ s m1 h1. agrees_then _ _ _ _ (agrees_accept _ m1 h1) (λ name m2 h2. agrees_read h2))

  same_declaration : (ts : Row)
      → Alike names ts ((declaration_at names n).parser.run ts)
      ((declaration_at wide n).parser.run ts)
  unfolding declaration_at
  same_declaration ts all =
      agrees_if _ _ _ _ _ (same_trait ts all)
      (agrees_if _ _ _ _ _ (same_object ts all)
      (agrees_then _ _ _ _ (agrees_accept _ ts all) (λ name m1 h1. same_named name m1 h1)))

  same_declared : (ts : Row)
      → Alike names ts ((declared names n).parser.run ts) ((declared wide n).parser.run ts)
  unfolding declared
  same_declared ts all =
      agrees_then _ _ _ _ (same_declaration ts all)
      (λ d m1 h1. agrees_then _ _ _ _ (same_semicolon m1 h1) (λ s m2 h2. agrees_read h2))

  same_declarations : (ts : Row)
      → Alike names ts ((declarations names n).run ts) ((declarations wide n).run ts)
  unfolding declarations
  same_declarations ts all =
      agrees_many {A = ApiDeclared} {S =
      Bool} begins_declared (λ ready d. is_ended d.semicolon) (λ ready. declared names n)
      (λ ready. declared wide n) (λ ready m1 h1. same_declared m1 h1) n true ts all

  same_api : (ts : Row) → Alike names ts ((api names n).run ts) ((api wide n).run ts)
  unfolding api
  same_api ts all =
      agrees_then _ _ _ _ (agrees_accept _ ts all)
      (λ at m1 h1. agrees_then _ _ _ _ (agrees_accept _ m1 h1)
      (λ name m2 h2. agrees_then _ _ _ _ (same_declarations m2 h2)
      (λ list m3 h3. agrees_then _ _ _ _ (agrees_accept _ m3 h3)
      (λ end m4 h4. agrees_read h4))))

  same_nothing : (a : Api) (rest : Row) → AllIn (length names) rest
      → Agrees (length names) ((nothing_after names n a (next_of rest)).run rest)
      ((nothing_after wide n a (next_of rest)).run rest)
  same_nothing a [] all = agrees_read all
  same_nothing a (t ∷ rest) all = agrees_failed

  pub same_whole : (ts : Row) → Alike names ts ((whole names n).run ts) ((whole wide n).run ts)
  unfolding whole
  same_whole ts all =
      agrees_then _ _ _ _ (same_api ts all) (λ a rest h. same_nothing a rest h)
