-- What is read is the longest type that begins there.
use Rattle.std.proofs.Common.{◌≡◌, ℕ, ◌-◌, ◌<◌, true, [], ◌∷◌, length, Some, None, subst, arith}
use Rattle.std.proofs.lemmas.List.{append-nil}
use Rattle.fort_tree.specs.declared.types.TypeTree.{TypeTree}
use Rattle.fort_tree.specs.Tokens.{Spellings}
use Rattle.fort_tree.specs.Said.{tokens_of, elsewhere}
use Rattle.fort_tree.specs.Types.{said_type}
use Rattle.fort_parse_reading.specs.declared.fault.Fault.TheVariants.{Syntax, TooDeep}
use Rattle.fort_parse_reading.specs.Parser.{Row, Read, Failed}
use Rattle.fort_parse_reading.proofs.Laws.{Gets}
use Rattle.fort_parse_reading.proofs.Longest.{all_have, all_only, some_left, none_has, fails_at, is_longest}
use Rattle.fort_parse_types.specs.Types.{type_tree}
use Rattle.fort_parse_types.specs.Longest.{TypeOf, NoLongerType, LongestType}
use Rattle.fort_parse_types.proofs.Sound.{sound_type_tree}
use Rattle.fort_parse_types.proofs.Complete.{complete_type_tree, type_stops_nothing}

module _ (names : Spellings) (n : ℕ) where
  complete_alone : (ty : TypeTree) → (said_type ty).obeys names elsewhere ≡ true
      → Gets TypeTree ((type_tree names n).parser.run (tokens_of (said_type ty))) ty []
  complete_alone ty ob =
      subst (λ (z : Row). Gets TypeTree ((type_tree names n).parser.run z) ty [])
      (append-nil (tokens_of (said_type ty)))
      (complete_type_tree names n ty [] ob type_stops_nothing)

  pub is_type : (us : Row) (ty : TypeTree) (rest : Row)
      → (type_tree names n).parser.run us ≡ Read ty rest → length rest ≡ 0
      → TypeOf names us (Some ty)
  is_type us ty [] e none = (
    all_have names elsewhere said_type (type_tree names n).parser (sound_type_tree names n)
        complete_alone us ty e,
    all_only names elsewhere said_type (type_tree names n).parser (sound_type_tree names n)
        complete_alone us ty e,
  )
  is_type us ty (t ∷ more) e none = absurd (omega (arith, none))

  pub is_more : (us : Row) (ty : TypeTree) (rest : Row)
      → (type_tree names n).parser.run us ≡ Read ty rest → 0 < length rest → TypeOf names us None
  is_more us ty [] e some = absurd (omega (arith, some))
  is_more us ty (t ∷ more) e some =
      some_left names elsewhere said_type (type_tree names n).parser (sound_type_tree names n)
      complete_alone us ty t more e

  pub is_none : (us rest : Row) → (type_tree names n).parser.run us ≡ Failed Syntax rest
      → TypeOf names us None
  is_none us rest e =
      none_has names elsewhere said_type (type_tree names n).parser (sound_type_tree names n)
      complete_alone us rest e

  pub no_longer : (ts rest : Row) → (type_tree names n).parser.run ts ≡ Failed Syntax rest
      → NoLongerType names ts (length ts - length rest)
  no_longer ts rest e =
      fails_at names elsewhere said_type (type_tree names n).parser (sound_type_tree names n)
      complete_alone ts rest e

  pub read_longest : (ts : Row) (ty : TypeTree) (rest : Row) → length ts < n
      → (type_tree names n).parser.run ts ≡ Read ty rest
      → LongestType names ts (Some (ty, length ts - length rest))
  read_longest ts ty rest lt e =
      is_longest names elsewhere said_type (type_tree names n).parser (sound_type_tree names n)
      complete_alone ts ty rest lt e

  pub never_deep : (ts rest : Row) → length ts < n
      → (type_tree names n).parser.run ts ≡ Failed TooDeep rest → ⊥
  never_deep ts rest lt e =
      let deep = (type_tree names n).parser.deep ts rest e in absurd (omega (arith, deep, lt))
