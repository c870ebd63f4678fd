use Rattle.std.proofs.Common.{◌≡◌, Some, refl, rules}
use Rattle.fort_store_effects.proofs.Undone.{less_spent, undoes}
use Rattle.fort_store_effects.proofs.layers.Layers.undo.Goals as goal

pub returns-clause-undone : goal.returns-clause-undone
returns-clause-undone c =
    let some : c.args.self.now.top ≡ Some c.in-Some.top = search rules in
    undoes c.args.self.now (record {
      store = c.args.self.now.store;
      output = c.args.self.now.output;
      cost = c.args.self.now.cost;
      top = c.pop.result;
      below = c.pop.new.self;
    }) c.in-Some.top some c.pop.ensures refl refl refl

pub returns-clause-cost : goal.returns-clause-cost
returns-clause-cost c =
    let some : c.args.self.now.top ≡ Some c.in-Some.top = search rules in
    less_spent c.args.self.now (record {
      store = c.args.self.now.store;
      output = c.args.self.now.output;
      cost = c.args.self.now.cost;
      top = c.pop.result;
      below = c.pop.new.self;
    }) c.in-Some.top some c.pop.ensures refl
