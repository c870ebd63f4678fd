use Rattle.std.proofs.Common.{refl}
use Rattle.fort_store_effects.proofs.Behind.{same_levels}
use Rattle.fort_store_effects.proofs.layers.Layers.share.Goals as goal

pub returns-in_err-share-clause-same : goal.returns-in_err-share-clause-same
returns-in_err-share-clause-same c =
    same_levels c.args.self.now (record c.args.self.now { store = c.share.new.self })
    c.share.ensures.held refl refl refl refl

pub returns-clause-same : goal.returns-clause-same
returns-clause-same c =
    same_levels c.args.self.now (record c.args.self.now { store = c.share.new.self })
    c.share.ensures.held refl refl refl refl
