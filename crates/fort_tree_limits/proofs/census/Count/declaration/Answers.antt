use Rattle.fort_tree_limits.proofs.CensusLaws.{of_variable, of_function, of_trait, of_object}
use Rattle.fort_tree_limits.proofs.census.Count.declaration.Goals as goal

pub returns-in-Variable : goal.returns-in-Variable
returns-in-Variable c =
    rw (of_variable c.args.self.now c.args.declared.now c.in-Variable.field-0 c.in-Variable.is) (cc)

pub returns-in-Function : goal.returns-in-Function
returns-in-Function c =
    rw (of_function c.args.self.now c.args.declared.now c.in-Function.field-0 c.in-Function.is) (cc)

pub returns-in-Trait : goal.returns-in-Trait
returns-in-Trait c =
    rw (of_trait c.args.self.now c.args.declared.now c.in-Trait.tr c.in-Trait.is) (cc)

pub returns-in-Object : goal.returns-in-Object
returns-in-Object c =
    rw (of_object c.args.self.now c.args.declared.now c.in-Object.object c.in-Object.is) (cc)
