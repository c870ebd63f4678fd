-- Canonical text has the same tree.
use Rattle.std.proofs.Common.{◌≡◌, ℕ, List, map, refl, sym, ap, ◌∙◌}
use Rattle.fort_base.specs.declared.refusal.Place.{Place}
use Rattle.fort_lex_token.specs.declared.token.Token.{Token}
use Rattle.fort_lex_token.specs.declared.token.Tokens.{Tokens}
use Rattle.fort_tree.specs.declared.declarations.Component.{Component}
use Rattle.fort_tree.specs.Component.{yield, obeys, HasTree}
use Rattle.fort_tree.specs.Limits.{crowded}
use Rattle.fort_lex.specs.Files.{HasTokens}
use Rattle.fort_syntax.specs.Answer.{IsComponent}
use Rattle.fort_syntax.proofs.Theorem.{at_most_one}
use Rattle.fort_lex_canonical.specs.Canonical.{canonical, without_first_gap}
use Rattle.fort_lex_law_reread.specs.Again.{IsReadAgain}
use Rattle.fort_lex_law_reread.proofs.Reading.{read_each}
use Rattle.fort_tree_law_moved.specs.Spots.{moved_token}
use Rattle.fort_tree_law_moved.specs.DeclarationsMoved.{moved_component}
use Rattle.fort_tree_law_moved.proofs.DeclarationsSaid.{yield_moves, obeys_moves}
use Rattle.fort_tree_law_moved.proofs.DeclarationsMeasured.{crowded_moves}
use Rattle.fort_tree_law_reread.specs.Same.{without_gap, IsSameTree}
use Rattle.fort_tree_law_reread.proofs.Apart.{tokens_apart}
use Rattle.fort_tree_law_reread.proofs.Moving.{place_in, taken, apart_without, kinds_without, shallow_by_kinds}

-- tokens read again are the component's, moved
moved_tokens : (ts us : Tokens) (c : Component) (g : Place → Place) → HasTree ts c
    → map (moved_token g) (without_first_gap ts.list) ≡ us.list
    → yield (moved_component g (without_gap c)) ≡ us.list
moved_tokens ts us c g tree is =
    yield_moves g (without_gap c) ∙ ap (λ
    (xs : List Token). map (moved_token g) (without_first_gap xs)) tree.yields ∙ is

-- The tree of a file is that of its canonical text, moved.
pub same_tree : (bytes : List ℕ) (ts us : Tokens) (c : Component) → HasTokens bytes ts
    → HasTokens (canonical ts) us → IsComponent ts c
    → (d : Component) × IsComponent us d × IsSameTree c d
same_tree bytes ts us c h k is =
    let again : IsReadAgain ts us = read_each bytes ts us h k in
    let g = place_in (without_first_gap ts.list) us.list in
    let d = moved_component g (without_gap c) in
    let moved =
    taken (without_first_gap ts.list) us.list (apart_without ts.list (tokens_apart bytes ts h))
    (again.kinds ∙ sym (kinds_without ts.list)) again.gaps in
    let tree : HasTree us d = record {
      yields = moved_tokens ts us c g is.tree moved;
      names = is.tree.names ∙ sym again.names;
      texts = is.tree.texts ∙ sym again.texts;
      obeys = obeys_moves g (without_gap c) ∙ is.tree.obeys;
    } in (
      d,
      record {
        shallow = shallow_by_kinds ts.list us.list again.kinds is.shallow;
        tree = tree;
        only = λ other has. at_most_one us other d has tree;
        small = crowded_moves g (without_gap c) ∙ ap (map g) is.small;
      },
      (g, refl),
    )
