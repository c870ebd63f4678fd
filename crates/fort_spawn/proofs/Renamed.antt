-- What the declarations of a component say where `run` is `run'`.
use Rattle.std.proofs.Common.{◌≡◌, Bool, true, false, List, cond, codes, map, refl}
use Rattle.fort_tree.specs.declared.declarations.Component.{Component}
use Rattle.fort_tree.specs.declared.declarations.Declared.{Declared}
use Rattle.fort_tree.specs.Tokens.{Spellings}
use Rattle.fort_tree.specs.Said.{entries_obey}
use Rattle.fort_tree.specs.Declarations.{said_declared}
use Rattle.fort_spawn_prelude.specs.Prelude.{id_in}
use Rattle.fort_spawn.specs.Starts.{starts}
use Rattle.fort_spawn.specs.Rewritten.{renamed_over, renamed, names_with}
use Rattle.fort_spawn.proofs.Parts.{said_by}
use Rattle.fort_spawn.proofs.Names.{nameless, same_tokens, same_entries}

-- the same tokens, but for numbers of names
over : (b : Bool) (all names : Spellings) (ds : List Declared)
    → map nameless (said_by (renamed_over b all names ds)) ≡ map nameless (said_by ds)
over true all names ds = same_tokens (id_in all (codes "run'")) names ds
over false all names ds = refl

pub same_renamed : (c : Component)
    → map nameless (said_by (renamed c)) ≡ map nameless (said_by c.declarations)
same_renamed c = over (starts c) (names_with c) c.names c.declarations

-- the same rules
obeys_over : (b : Bool) (all names wide : Spellings) (ds : List Declared)
    → entries_obey wide (map said_declared (renamed_over b all names ds))
    ≡ entries_obey wide (map said_declared ds)
obeys_over true all names wide ds = same_entries (id_in all (codes "run'")) names wide ds
obeys_over false all names wide ds = refl

pub renamed_obey : (c : Component) (wide : Spellings)
    → entries_obey wide (map said_declared (renamed c))
    ≡ entries_obey wide (map said_declared c.declarations)
renamed_obey c wide = obeys_over (starts c) (names_with c) c.names wide c.declarations
