use Rattle.fort_link_law_whole.proofs.InOrder.{tree, apart, lined, named, fit}
use Rattle.fort_link_law_whole.proofs.laws.whole_is_in_order.Goals as goal

pub returns : goal.returns
returns c = λ files whole h. record {
  tree = tree c.tree_goes_over.ensures c.names_go_on.ensures c.joined_names_are_in.ensures
      c.file_names_are_in.ensures files whole h;
  order = record {
    apart = apart c.joined_stands_apart.ensures c.joined_stands_behind.ensures
        c.tokens_stand_apart.ensures c.file_stands_on_lines.ensures files whole h;
    lines = lined c.joined_stands_apart.ensures c.joined_stands_behind.ensures
        c.tokens_stand_apart.ensures c.file_stands_on_lines.ensures files whole h;
    named = named c.names_go_on.ensures c.joined_names_are_in.ensures
        c.file_names_are_in.ensures files whole h;
  };
  numbers = fit c.joined_numbers_fit.ensures c.file_numbers_fit.ensures files whole h;
}
