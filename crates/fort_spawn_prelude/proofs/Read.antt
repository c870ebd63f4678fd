-- What the prelude's declarations say is the prelude.
use Rattle.std.proofs.Common.{◌≡◌, Bool, true, false, List, Some, map, refl, ap, ◌∙◌}
use Rattle.fort_base.specs.declared.ids.NameId.{NameId}
use Rattle.fort_tree.specs.declared.spot.Spot.{Spot}
use Rattle.fort_tree.specs.Said.{entries_tokens, entries_obey, last_semicolon}
use Rattle.fort_tree.specs.Declarations.{said_declared}
use Rattle.fort_spawn_prelude.specs.Table.{table, always, starting}
use Rattle.fort_spawn_prelude.specs.Numbers.{Spelling}
use Rattle.fort_spawn_prelude.specs.Prelude.{IsPrelude, PreludeIsRead, id_in, tokens_from}
use Rattle.fort_spawn_prelude.proofs.Making.{trees, say, all_is, tight}
use Rattle.fort_spawn_prelude.proofs.Tree.{that_starts, that_does_not, queue, opened, counted, started, too_many, thread, thread_object, spawn, take_, go, serve, main, running}

starts_tokens : (id : Spelling → NameId)
    → entries_tokens (say (that_starts id)) ≡ tokens_from id 1 (table true)
unfolding that_starts queue opened counted started too_many thread thread_object spawn take_ go serve main running always starting
starts_tokens id = refl

not_tokens : (id : Spelling → NameId)
    → entries_tokens (say (that_does_not id)) ≡ tokens_from id 1 (table false)
unfolding that_does_not queue opened counted started too_many thread thread_object spawn take_ go serve main always
not_tokens id = refl

starts_obeys : (id : Spelling → NameId) (names : List Spelling)
    → entries_obey names (say (that_starts id)) ≡ true
unfolding that_starts queue opened counted started too_many thread thread_object spawn take_ go serve main running
starts_obeys id names = refl

not_obeys : (id : Spelling → NameId) (names : List Spelling)
    → entries_obey names (say (that_does_not id)) ≡ true
unfolding that_does_not queue opened counted started too_many thread thread_object spawn take_ go serve main
not_obeys id names = refl

pub is_read : PreludeIsRead
is_read names true = let ms = that_starts (id_in names) in (
  trees ms,
  record {
    tokens = ap entries_tokens (all_is ms) ∙ starts_tokens (id_in names);
    obeys = ap (entries_obey names) (all_is ms) ∙ starts_obeys (id_in names) names;
  },
)
is_read names false = let ms = that_does_not (id_in names) in (
  trees ms,
  record {
    tokens = ap entries_tokens (all_is ms) ∙ not_tokens (id_in names);
    obeys = ap (entries_obey names) (all_is ms) ∙ not_obeys (id_in names) names;
  },
)

-- ---- its last declaration has a `;`

starts_last : (id : Spelling → NameId) → last_semicolon (say (that_starts id)) ≡ Some (tight 405)
unfolding that_starts queue opened counted started too_many thread thread_object spawn take_ go serve main running
starts_last id = refl

not_last : (id : Spelling → NameId) → last_semicolon (say (that_does_not id)) ≡ Some (tight 388)
unfolding that_does_not queue opened counted started too_many thread thread_object spawn take_ go serve main
not_last id = refl

pub read_ends : (names : List Spelling) (starts : Bool)
    → (s : Spot) × (last_semicolon (map said_declared (is_read names starts).0) ≡ Some s)
unfolding is_read
read_ends names true =
    (tight 405, ap last_semicolon (all_is (that_starts (id_in names))) ∙ starts_last (id_in names))
read_ends names false =
    (tight 388, ap last_semicolon (all_is (that_does_not (id_in names))) ∙ not_last (id_in names))
