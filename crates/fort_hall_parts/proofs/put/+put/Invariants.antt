use Rattle.std.proofs.Common.{◌+◌, ◌*◌}
use Rattle.fort_hall_parts.proofs.put.+put.Given as goal

abbrev pub decreases-put_in : goal.decreases-put_in
decreases-put_in l = 2 * l.depth + 1

abbrev pub decreases-put_through : goal.decreases-put_through
decreases-put_through l = 2 * l.depth

abbrev pub decreases-put_into : goal.decreases-put_into
decreases-put_into l = 2 * l.depth
