use Rattle.std.proofs.Common.{◌+◌, ◌*◌}
use Rattle.fort_hall_parts.proofs.divide.+divide.Given as goal

abbrev pub decreases-open_parts : goal.decreases-open_parts
decreases-open_parts l = 4 * l.depth + 3

abbrev pub decreases-divided_beside : goal.decreases-divided_beside
decreases-divided_beside l = 4 * l.depth + 2

abbrev pub decreases-divided : goal.decreases-divided
decreases-divided l = 4 * l.depth + 1

abbrev pub decreases-divided_lone : goal.decreases-divided_lone
decreases-divided_lone l = 4 * l.depth
