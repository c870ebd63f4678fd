-- A list that has been turned into a stack.
use Rattle.std.proofs.Common.{◌≡◌, ◌≤◌, ℕ, ◌-◌, List, [], ◌∷◌, ◌++◌, length, arith, ◌∙◌}
use Rattle.fort_typing_rules.specs.declared.part.Part.{Part}

pub emptied : (items stack parts : List Part) (n : ℕ) → items ++ stack ≡ parts
    → length items ≡ length parts - n → length parts ≤ n → stack ≡ parts
emptied [] stack parts n e l m = e
emptied (p ∷ items) stack parts n e l m = absurd (omega arith)

pub one_more_over : (items left stack new parts : List Part) → items ++ stack ≡ parts
    → left ++ new ≡ items ++ stack → left ++ new ≡ parts
one_more_over items left stack new parts e f = f ∙ e
