-- The chapter "Grammar", openers: what the code's words for what a token does mean.
use Rattle.fort_tree.specs.Openers.{Turn, Opens, Closes, Stays}
use Rattle.fort_tree_openers.specs.declared.openers.Change.{Change}
use Rattle.fort_tree_openers.specs.declared.openers.Change.TheVariants as change

abbrev pub meaning_of : Change → Turn
meaning_of change.Opens = Opens
meaning_of change.Closes = Closes
meaning_of change.Stays = Stays
