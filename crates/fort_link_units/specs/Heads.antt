-- The productions of what stands before a component's declarations as parsers: its name, its
-- imports and its exports.
use Rattle.std.specs.Prelude.{ℕ, List}
use Rattle.fort_lex_token.specs.declared.reserved.Reserved.TheVariants as reserved
use Rattle.fort_tree.specs.declared.declarations.Export.{Export}
use Rattle.fort_parse_reading.specs.Parser.{Parser, Eater, pure, ◌>>=◌, token, accept, ◌>>|◌, many}
use Rattle.fort_parse_reading.specs.Words.{is_word, spot_if, name_of, sees}
use Rattle.fort_link_units.specs.declared.unit.Import.{Import}
use Rattle.fort_link_units.specs.declared.heads.Heads.{Heads}

module _ (n : ℕ) where
  unfoldable pub import_ : Eater Import n
  import_ = token (spot_if (is_word reserved.Import)) >>| λ s. do
    name ← accept name_of
    pure (record { import = s; name = name })

  unfoldable pub imports : Parser (List Import) n
  imports = many (sees (is_word reserved.Import)) import_

  unfoldable pub export_ : Eater Export n
  export_ = token (spot_if (is_word reserved.Export)) >>| λ s. do
    name ← accept name_of
    pure (record { export = s; name = name })

  unfoldable pub exports : Parser (List Export) n
  exports = many (sees (is_word reserved.Export)) export_

  unfoldable pub heads : Parser Heads n
  heads = do
    at_component ← accept (spot_if (is_word reserved.Component))
    name ← accept name_of
    imported ← imports
    exported ← exports
    pure (record {
      component = at_component;
      name = name;
      imports = imported;
      exports = exported;
    })
